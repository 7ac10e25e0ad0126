-- Values by name as a run keeps them, and what is left of them where one is written.
use Rattle.std.specs.Prelude.{◌≡◌, ℕ, List, Option, nat_eq}
use Rattle.std.specs.Borrow.{Fml, LendsIf, LendsSo, MutBor, RattleType}
use Rattle.std.specs.Cmp.Lexicographic.{pointwise}
use Rattle.std.specs.Map.{set_value}
use Rattle.indexmap.specs.IndexMap as map
use Rattle.rs_statement.specs.declared.named.Named.{Named}
use Rattle.rs_statement.specs.contracts.named.Named.{the_row}

-- the names and their values, in the order in which they were added
abbrev pub entries : {V : Type 0} → Named V → List (List ℕ × V)
entries named = named.held.entries

-- another value at a place of the order
abbrev pub with_value_at : {V : Type 0} → Named V → ℕ → V → Named V
with_value_at named place value = record named { held = map.with_value_at named.held place value }

module _ (V : RattleType) (named : MutBor (Named V.Denot)) where
  -- the last value written through the reference stands at this place; at `None` all stay as they are
  abbrev pub lends_at : ℕ → Option (MutBor V.Denot) → Fml
  lends_at place value = LendsIf (the_row V) V named value (with_value_at named.now place) named.now

  -- the last value written through the reference is the one of this name; at `None` all stay as they are
  abbrev pub lends_named : List ℕ → Option (MutBor V.Denot) → Fml
  lends_named name value = LendsSo (the_row V) V named value (λ left last. map.WritesThrough (pointwise nat_eq) (pointwise nat_eq name) named.now.held last left.held) (λ left. left ≡ named.now)
