-- The keys stand for the cells of both columns.
use Rattle.std.proofs.Common.{ℕ, List, Bor, sym, subst}
use Rattle.std.specs.Cmp.Lexicographic.{slice_cmp}
use Rattle.std.specs.Ordering.{int_cmp, nat_cmp}
use Rattle.rs_value.specs.declared.value.Value.TheVariants as value
use Rattle.rs_query.specs.EqualRows.{AreKeys}
use Rattle.rs_query.specs.Searching.{cell_of}
use Rattle.rs_query.specs.Tables.{size_of}
use Rattle.rs_query.proofs.TieFacts.{AreEqualRows-result, exact-numbers, exact-texts}
use Rattle.rs_query.proofs.block.Block.equal_rows.Goals as goal

pub returns-in_ok-rights-in-Int : goal.returns-in_ok-rights-in-Int
returns-in_ok-rights-in-Int c =
    AreEqualRows-result int_cmp value.Int exact-numbers c.args.catalog.now c.args.self.now c.args.left c.args.right c.deref.result.now c.in_ok-rights-in-Int.rights.items
    (subst (AreKeys value.Int (cell_of c.args.catalog.now c.args.self.now c.args.left) (size_of c.args.catalog.now c.args.self.now c.args.left.0)) (sym c.deref.ensures.value) c.in_ok-lefts-in-Int.ensures.keys)
    c.in_ok-rights-in-Int.ensures.keys c.of.result c.of.ensures.first c.of.ensures.next c.of.ensures.lefts c.of.ensures.rights

pub returns-in_ok-rights-in-Text : goal.returns-in_ok-rights-in-Text
returns-in_ok-rights-in-Text c =
    AreEqualRows-result (λ (a b : Bor (List ℕ)). slice_cmp nat_cmp a.now b.now) (λ (text : Bor (List ℕ)). value.Text text.now) (λ a b. exact-texts a.now b.now)
    c.args.catalog.now c.args.self.now c.args.left c.args.right c.deref-in-Text.result.now c.in_ok-rights-in-Text.rights.items
    (subst (AreKeys (λ (text : Bor (List ℕ)). value.Text text.now) (cell_of c.args.catalog.now c.args.self.now c.args.left) (size_of c.args.catalog.now c.args.self.now c.args.left.0)) (sym c.deref-in-Text.ensures.value)
    c.in_ok-lefts-in-Text.ensures.keys)
    c.in_ok-rights-in-Text.ensures.keys c.of-in-Text.result c.of-in-Text.ensures.first c.of-in-Text.ensures.next c.of-in-Text.ensures.lefts c.of-in-Text.ensures.rights
