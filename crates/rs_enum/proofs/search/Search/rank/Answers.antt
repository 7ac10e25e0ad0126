-- There is one operator for the term over what is kept without it, or none.
use Rattle.rs_enum.specs.declared.search.Search.{Search}
use Rattle.std.specs.Prelude.{Option}
use Rattle.std.proofs.Common.{◌≡◌, ◌∙◌, ℕ, ◌+◌, ◌-◌, ◌*◌, ◌≤◌, refl, sym, ap, subst, arith, length, bit_xor}
use Rattle.std.specs.Prelude.{Some, None, option_map, slice_get}
use Rattle.rs_rank.specs.Masks.{mask_of}
use Rattle.rs_query.specs.declared.block.Block.{Block}
use Rattle.rs_sample.specs.Kept.{cards_of}
use Rattle.rs_enum.specs.declared.candidate.Candidate.{Candidate}
use Rattle.rs_enum.specs.declared.candidate.Choice.TheVariants as choice
use Rattle.rs_enum.specs.Costs.{call_cost}
use Rattle.rs_enum.specs.QueryCards.{cards_at}
use Rattle.rs_sample.specs.Cards.{IsEstimated}
use Rattle.rs_sample.specs.Kept.{cards_of}
use Rattle.rs_enum.specs.Places.{IsOne, IsTheOne, Placed, candidate_at, kept_at, tree_at}
use Rattle.rs_enum.proofs.CostFacts.{block-formed}
use Rattle.rs_enum.proofs.FindFacts.{rank-elsewhere, rank-missing, rank-one, rank-unwanted}
use Rattle.rs_enum.proofs.SearchFacts.{inside-false, inside-true, kept-in, one-fits, without-small}
use Rattle.rs_enum.proofs.MadeFacts.{kept-missing}
use Rattle.rs_enum.specs.Given.{block_of, cards_in, kept_in, query_in}
use Rattle.rs_enum.proofs.search.Search.rank.Goals as goal

pub returns-then-not-has_number : goal.returns-then-not-has_number
returns-then-not-has_number c =
    let block = block_of c.args.self.now in
    let formed = block-formed c.args.self.now.planning.catalog.now c.args.self.now.planning.query.now c.args.self.now.number c.requires.search.planning.query in
    let few : length block.terms ≤ 8 = formed.most_terms in
    let most = c.requires.term.most in
    rank-unwanted c.args.self.now.planning.catalog.now block formed (tree_at (length block.terms) (kept_in c.args.self.now)) c.args.of.entries c.args.of.terms c.args.term
    c.requires.term.some (omega arith) (sym c.has_number.ensures ∙ c.if-not-has_number.true)

pub returns-then-reads-of : goal.returns-then-reads-of
returns-then-reads-of c =
    let block = block_of c.args.self.now in
    let formed = block-formed c.args.self.now.planning.catalog.now c.args.self.now.planning.query.now c.args.self.now.number c.requires.search.planning.query in
    let few : length block.terms ≤ 8 = formed.most_terms in
    let most = c.requires.term.most in
    let there : slice_get block.terms (c.args.term - 1) ≡ Some c.term_at.result.now =
    ap (λ (b : Block). slice_get b.terms (c.args.term - 1)) (sym c.block_in-block.ensures) ∙ c.term_at.ensures in
    rank-elsewhere c.args.self.now.planning.catalog.now block formed (tree_at (length block.terms) (kept_in c.args.self.now)) c.args.of.entries c.args.of.terms c.args.term
    c.term_at.result.now c.requires.term.some (omega arith) there (inside-false c.term_at.result.now.entries c.args.of.entries c.if-reads-of.true)

pub returns-in_err-child : goal.returns-in_err-child
returns-in_err-child c =
    let block = block_of c.args.self.now in
    let formed = block-formed c.args.self.now.planning.catalog.now c.args.self.now.planning.query.now c.args.self.now.number c.requires.search.planning.query in
    let few : length block.terms ≤ 8 = formed.most_terms in
    let most = c.requires.term.most in
    let count : c.len.result ≡ length block.terms = c.len.ensures ∙ ap (λ (b : Block). length b.terms) c.block_in-block.ensures in
    let none : kept_at (length block.terms) (kept_in c.args.self.now) c.args.of.entries (bit_xor c.args.of.terms (mask_of c.args.term)) ≡ None =
    kept-missing block.terms c.args.self.now.places.now c.args.of.entries (bit_xor c.args.of.terms (mask_of c.args.term))
    (sym (c.candidate_at.ensures ∙ (λ i. candidate_at (count i) c.args.self.now.places.now c.args.of.entries (bit_xor c.args.of.terms (c.mask_of.ensures i)))) ∙ c.in_err-child.was) in
    subst (IsTheOne c.args.self.now.planning.catalog.now (query_in c.args.self.now) (cards_in c.args.self.now) (kept_in c.args.self.now) c.args.of.entries c.args.of.terms (3 * 256 + c.args.term))
    (sym c.from_residual.ensures)
    (rank-missing c.args.self.now.planning.catalog.now block formed (tree_at (length block.terms) (kept_in c.args.self.now)) c.args.of.entries c.args.of.terms c.args.term
    c.requires.term.some (omega arith) (ap (option_map (λ (kept : Placed). kept.plan)) none))

-- what was found without the term
was : (search : Search) (of term mask count : ℕ) (entries : ℕ) (found : Option Candidate) → found ≡ candidate_at count search.places.now entries (bit_xor of mask)
    → count ≡ length (block_of search).terms → mask ≡ mask_of term
    → candidate_at (length (block_of search).terms) search.places.now entries (bit_xor of (mask_of term)) ≡ found
was search of term mask count entries found is counted masked = sym (is ∙ (λ i. candidate_at (counted i) search.places.now entries (bit_xor of (masked i))))

pub rows_of-rows-requires-clause-masks : goal.rows_of-rows-requires-clause-masks
rows_of-rows-requires-clause-masks c =
    let there = was c.args.self.now c.args.of.terms c.args.term c.mask_of.result c.len.result c.args.of.entries c.candidate_at.result c.candidate_at.ensures
    (c.len.ensures ∙ ap (λ (b : Block). length b.terms) c.block_in-block.ensures) c.mask_of.ensures in
    let below = kept-in c.args.self.now c.requires.search c.args.of.entries (bit_xor c.args.of.terms (mask_of c.args.term))
    (without-small (length (block_of c.args.self.now).terms) c.args.of.terms c.args.term c.requires.terms c.requires.term.some c.requires.term.most) c.in_ok-child.child
    (there ∙ c.in_ok-child.was) in
    subst (λ m. IsEstimated (cards_at (cards_of c.args.self.now.planning.cards.now) c.args.self.now.number) c.args.of.entries (bit_xor c.args.of.terms m)) (sym c.mask_of.ensures) below.masks

one : (c : goal.After-call_cost) (found : Candidate) → found.cost ≡ c.in_ok-child.child.cost + c.rows_of-rows.result * c.call_cost.result
    → found.choice ≡ choice.Rank c.args.term
    → IsOne c.args.self.now.planning.catalog.now (query_in c.args.self.now) (cards_in c.args.self.now) (kept_in c.args.self.now) c.args.of.entries c.args.of.terms (3 * 256 + c.args.term) found
one c found cost_is choice_is =
    let block = block_of c.args.self.now in
    let formed = block-formed c.args.self.now.planning.catalog.now c.args.self.now.planning.query.now c.args.self.now.number c.requires.search.planning.query in
    let there : slice_get block.terms (c.args.term - 1) ≡ Some c.term_at.result.now =
    ap (λ (b : Block). slice_get b.terms (c.args.term - 1)) (sym c.block_in-block.ensures) ∙ c.term_at.ensures in
    let before = was c.args.self.now c.args.of.terms c.args.term c.mask_of.result c.len.result c.args.of.entries c.candidate_at.result c.candidate_at.ensures
    (c.len.ensures ∙ ap (λ (b : Block). length b.terms) c.block_in-block.ensures) c.mask_of.ensures in
    let k = kept-in c.args.self.now c.requires.search c.args.of.entries (bit_xor c.args.of.terms (mask_of c.args.term))
    (without-small (length (block_of c.args.self.now).terms) c.args.of.terms c.args.term c.requires.terms c.requires.term.some c.requires.term.most) c.in_ok-child.child
    (before ∙ c.in_ok-child.was) in
    rank-one c.args.self.now.planning.catalog.now (query_in c.args.self.now) (cards_in c.args.self.now) formed (kept_in c.args.self.now) c.requires.search.kept c.args.of.entries c.args.of.terms c.requires.terms
    c.args.term c.term_at.result.now (record { some = c.requires.term.some; there = there }) (sym c.has_number.ensures ∙ c.if-not-has_number.false)
    (inside-true c.term_at.result.now.entries c.args.of.entries c.if-reads-of.false) k.kept k.is
    c.rows_of-rows.result c.call_cost.result
    (c.rows_of-rows.ensures.value
    ∙ ap (λ m. (cards_at (cards_of c.args.self.now.planning.cards.now) c.args.self.now.number).estimate c.args.of.entries (bit_xor c.args.of.terms m)) c.mask_of.ensures ∙ k.rows)
    (k.few c.rows_of-rows.result c.rows_of-rows.ensures.most)
    (c.call_cost.ensures.value ∙ ap (λ (b : Block). call_cost c.args.self.now.planning.catalog.now b c.args.term) c.block_in-block.ensures) c.call_cost.ensures.small
    found (cost_is ∙ ap (λ n. n + c.rows_of-rows.result * c.call_cost.result) (sym k.cost)) choice_is

pub with_calls-cost-requires : goal.with_calls-cost-requires
with_calls-cost-requires c =
    let formed = block-formed c.args.self.now.planning.catalog.now c.args.self.now.planning.query.now c.args.self.now.number c.requires.search.planning.query in
    let found : Candidate = record { cost = c.in_ok-child.child.cost + c.rows_of-rows.result * c.call_cost.result; choice = choice.Rank c.args.term } in
    let fits = one-fits c.args.self.now.planning.catalog.now (query_in c.args.self.now) (cards_in c.args.self.now) formed (kept_in c.args.self.now) c.args.of.entries c.args.of.terms
    (3 * 256 + c.args.term) found (one c found refl refl) in
    omega arith

pub returns : goal.returns
returns c = one (record { before = c.before.before; type_inv = record { self = c.type_inv.self } }) (record { cost = c.with_calls-cost.result; choice = choice.Rank c.args.term }) c.with_calls-cost.ensures refl
