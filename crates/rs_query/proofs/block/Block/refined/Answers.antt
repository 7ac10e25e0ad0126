-- The keys stand for the ends of the rows and the cells of both columns.
use Rattle.std.proofs.Common.{ℕ, List, Bor, refl, arith}
use Rattle.std.specs.Cmp.Lexicographic.{slice_cmp}
use Rattle.std.specs.Ordering.{int_cmp, nat_cmp}
use Rattle.rs_value.specs.declared.value.Value.TheVariants as value
use Rattle.rs_query.proofs.RefinedFacts.{AreNumbered-same, refined-result}
use Rattle.rs_query.proofs.TieFacts.{exact-numbers, exact-texts}
use Rattle.rs_query.proofs.block.Block.refined.Goals as goal

pub ends-left_ends-requires-clause-few : goal.ends-left_ends-requires-clause-few
ends-left_ends-requires-clause-few c =
    let sized = c.requires.rows.1.next_sized in
    let few = c.size_of.ensures in
    omega (arith, few.value, few.few)

pub returns-in-Int : goal.returns-in-Int
returns-in-Int c = λ columns are.
    refined-result int_cmp value.Int exact-numbers c.args.catalog.now c.args.self.now c.args.left c.args.right columns c.args.rows are
    c.ends-left_ends.result.0.items c.ends-left_ends.result.1.items c.ends-left_ends.ensures.firsts c.ends-left_ends.ensures.nexts
    c.in_ok-lefts-in-Int.lefts.items c.in_ok-rights-in-Int.rights.items c.deref-in-Int-4.result.now c.in_ok-rights-in-Int-2.rights.items
    c.in_ok-lefts-in-Int.ensures.keys c.in_ok-rights-in-Int.ensures.keys
    (AreNumbered-same c.ends-left_ends.result.0.items c.deref.result.now c.in_ok-lefts-in-Int.lefts.items c.deref-in-Int.result.now c.in_ok-lefts-in-Int-2.lefts.items c.deref-in-Int-4.result.now
    c.deref.ensures.value c.deref-in-Int.ensures.value c.deref-in-Int-4.ensures.value c.in_ok-lefts-in-Int-2.ensures.sized c.in_ok-lefts-in-Int-2.ensures.pairs)
    (AreNumbered-same c.ends-left_ends.result.1.items c.deref-in-Int-2.result.now c.in_ok-rights-in-Int.rights.items c.deref-in-Int-3.result.now c.in_ok-rights-in-Int-2.rights.items
    c.in_ok-rights-in-Int-2.rights.items c.deref-in-Int-2.ensures.value c.deref-in-Int-3.ensures.value refl c.in_ok-rights-in-Int-2.ensures.sized c.in_ok-rights-in-Int-2.ensures.pairs)
    c.of.result c.of.ensures.first c.of.ensures.next c.of.ensures.lefts c.of.ensures.rights

pub returns : goal.returns
returns c = λ columns are.
    refined-result (λ (a b : Bor (List ℕ)). slice_cmp nat_cmp a.now b.now) (λ (text : Bor (List ℕ)). value.Text text.now) (λ a b. exact-texts a.now b.now)
    c.args.catalog.now c.args.self.now c.args.left c.args.right columns c.args.rows are
    c.ends-left_ends.result.0.items c.ends-left_ends.result.1.items c.ends-left_ends.ensures.firsts c.ends-left_ends.ensures.nexts
    c.in_ok-lefts-in-Text.lefts.items c.in_ok-rights-in-Text.rights.items c.deref-in-Text-5.result.now c.in_ok-rights-in-Text-2.rights.items
    c.in_ok-lefts-in-Text.ensures.keys c.in_ok-rights-in-Text.ensures.keys
    (AreNumbered-same c.ends-left_ends.result.0.items c.deref-in-Text.result.now c.in_ok-lefts-in-Text.lefts.items c.deref-in-Text-2.result.now c.in_ok-lefts-in-Text-2.lefts.items
    c.deref-in-Text-5.result.now c.deref-in-Text.ensures.value c.deref-in-Text-2.ensures.value c.deref-in-Text-5.ensures.value c.in_ok-lefts-in-Text-2.ensures.sized
    c.in_ok-lefts-in-Text-2.ensures.pairs)
    (AreNumbered-same c.ends-left_ends.result.1.items c.deref-in-Text-3.result.now c.in_ok-rights-in-Text.rights.items c.deref-in-Text-4.result.now c.in_ok-rights-in-Text-2.rights.items
    c.in_ok-rights-in-Text-2.rights.items c.deref-in-Text-3.ensures.value c.deref-in-Text-4.ensures.value refl c.in_ok-rights-in-Text-2.ensures.sized c.in_ok-rights-in-Text-2.ensures.pairs)
    c.of-in-Text.result c.of-in-Text.ensures.first c.of-in-Text.ensures.next c.of-in-Text.ensures.lefts c.of-in-Text.ensures.rights
