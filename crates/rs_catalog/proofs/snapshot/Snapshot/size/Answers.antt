-- The size that is given for a table is how many of its rows are seen, and none are seen where none is given.
use Rattle.std.proofs.Common.{◌≡◌, ◌∙◌, ◌<◌, ℕ, Bor, List, length, ap, sym, subst, arith}
use Rattle.std.specs.Prelude.{Option, Some, IfSome, option_map, slice_get}
use Rattle.std.proofs.lemmas.Option.{unwrap_or-slice_get}
use Rattle.rs_catalog.specs.Catalog.{CatalogDef, NamedTable}
use Rattle.rs_catalog.specs.Snapshot.{HaveRows, seen_of, size_at}
use Rattle.rs_catalog.proofs.SeenFacts.{size-borrowed}
use Rattle.rs_catalog.proofs.snapshot.Snapshot.size.Goals as goal

-- so many rows are seen
seen_rows : (sizes : Option (Bor (List ℕ))) (given : Bor (List ℕ)) (catalogue seen : CatalogDef) (place size : ℕ) → seen_of (option_map (λ (s : Bor (List ℕ)). s.now) sizes) catalogue ≡ seen → sizes ≡ Some given
    → IfSome sizes (λ (s : Bor (List ℕ)). HaveRows s.now catalogue.tables) → place < length seen.tables → size_at given.now place ≡ size
    → option_map (λ (t : NamedTable). length t.table.rows) (slice_get seen.tables place) ≡ Some size
seen_rows sizes given catalogue seen place size view is have within known =
    subst (λ (whole : CatalogDef). option_map (λ (t : NamedTable). length t.table.rows) (slice_get whole.tables place) ≡ Some (size_at given.now place)) view
    (size-borrowed sizes given catalogue place is have (subst (λ (whole : CatalogDef). place < length whole.tables) (sym view) within))
    ∙ ap (λ n. Some n) known

pub returns-in-Some-get : goal.returns-in-Some-get
returns-in-Some-get c =
    seen_rows c.self.inside.sizes c.in-Some.sizes c.self.inside.catalog.now c.args.self.now c.args.number c.in-Some-get.size.now c.self.view_is c.in-Some.is c.self.invariant c.requires
    (unwrap_or-slice_get c.in-Some.sizes.now c.args.number 0 ∙ sym (c.in-Some-get.ensures.lookup.4 (omega arith) 0))

pub returns-in-None-get : goal.returns-in-None-get
returns-in-None-get c =
    seen_rows c.self.inside.sizes c.in-Some.sizes c.self.inside.catalog.now c.args.self.now c.args.number 0 c.self.view_is c.in-Some.is c.self.invariant c.requires
    (unwrap_or-slice_get c.in-Some.sizes.now c.args.number 0 ∙ sym (c.in-None-get.ensures.lookup.4 (omega arith) 0))
