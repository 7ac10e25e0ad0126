-- There is a first operator for the term, over what was found without it, or none.
use Rattle.std.proofs.Common.{◌≡◌, ◌∙◌, ℕ, ◌+◌, ◌-◌, ◌*◌, ◌^◌, ◌<◌, true, refl, sym, ap, subst, arith, length, bit_xor}
use Rattle.std.specs.Prelude.{Option, None, option_map}
use Rattle.std.proofs.lemmas.Nat.{pow_below, xor_lt}
use Rattle.rs_rank.specs.Masks.{has_number, mask_of}
use Rattle.rs_enum.specs.declared.row.Row.{Row}
use Rattle.rs_query.specs.Blocks.{block_in}
use Rattle.rs_query.specs.WellFormed.{IsBlock}
use Rattle.rs_query.specs.declared.block.Block.{Block}
use Rattle.rs_sample.specs.Kept.{cards_of}
use Rattle.rs_enum.specs.declared.candidate.Candidate.{Candidate}
use Rattle.rs_enum.specs.declared.candidate.Choice.TheVariants as choice
use Rattle.rs_enum.specs.Bounds.{IsNumberedTerm}
use Rattle.rs_enum.specs.Costs.{call_cost}
use Rattle.rs_enum.specs.Given.{AreTopsIn, IsTheRankOf, block_above}
use Rattle.rs_enum.specs.Places.{Placed, candidate_at}
use Rattle.rs_enum.specs.Tops.{IsOneTop, number_of, whole_rows}
use Rattle.rs_enum.proofs.BitFacts.{less-without}
use Rattle.rs_enum.proofs.CostFacts.{block-formed}
use Rattle.rs_enum.proofs.MadeFacts.{mapped, unmapped}
use Rattle.rs_enum.proofs.TopFacts.{rank-missing, rank-one, rank-unwanted}
use Rattle.rs_enum.proofs.WholeFacts.{few-terms, whole-most, whole-small}
use Rattle.rs_enum.proofs.row.Row.rank.Goals as goal

pub has_number-requires-clause-most : goal.has_number-requires-clause-most
has_number-requires-clause-most c =
    let few = few-terms c.args.self.now.planning.catalog.now c.args.self.now.planning.query.now c.requires.row.planning.query c.args.self.now.extent in
    let most = c.requires.term.most in
    omega arith

pub returns-then-not-has_number : goal.returns-then-not-has_number
returns-then-not-has_number c = λ tops are base.
    rank-unwanted c.args.self.now.planning.catalog.now c.args.self.now.planning.query.now c.requires.row.planning.query (cards_of c.args.self.now.planning.cards.now)
    c.args.self.now.extent c.requires.row.topped base tops c.args.evaluated
    c.args.term c.requires.term.some c.requires.term.most (sym c.has_number.ensures ∙ c.if-not-has_number.true)

-- what was found without the term
costs : (row : Row) (evaluated term : ℕ) (tops : ℕ → Option Placed) → AreTopsIn row evaluated tops → has_number evaluated term ≡ true
    → (mask count : ℕ) (block : Block) (found : Option Candidate) → found ≡ candidate_at count row.places.now row.entries (bit_xor evaluated mask)
    → mask ≡ mask_of term → count ≡ length block.terms → block ≡ block_above row
    → option_map (λ (kept : Placed). kept.cost) (tops (bit_xor evaluated (mask_of term))) ≡ option_map (λ (found : Candidate). found.cost) found
costs row evaluated term tops are has mask count block found is masked counted same =
    are.costs (bit_xor evaluated (mask_of term)) (less-without evaluated term has)
    ∙ ap (option_map (λ (found : Candidate). found.cost))
    (sym (is ∙ (λ i. candidate_at ((counted ∙ ap (λ (b : Block). length b.terms) same) i) row.places.now row.entries (bit_xor evaluated (masked i)))))

pub returns-in_err-child : goal.returns-in_err-child
returns-in_err-child c = λ tops are.
    subst (IsTheRankOf c.args.self.now tops c.args.evaluated c.args.term) (sym c.from_residual.ensures)
    (λ base. rank-missing c.args.self.now.planning.catalog.now c.args.self.now.planning.query.now c.requires.row.planning.query (cards_of c.args.self.now.planning.cards.now)
    c.args.self.now.extent c.requires.row.topped base tops c.args.evaluated
    c.args.term c.requires.term.some c.requires.term.most are.tops
    (unmapped (λ (kept : Placed). kept.cost) (tops (bit_xor c.args.evaluated (mask_of c.args.term)))
    (costs c.args.self.now c.args.evaluated c.args.term tops are (sym c.has_number.ensures ∙ c.if-not-has_number.false) c.mask_of.result c.len.result
    c.block_in-block.result.now c.candidate_at.result c.candidate_at.ensures c.mask_of.ensures c.len.ensures
    (c.block_in-block.ensures ∙ ap (block_in c.args.self.now.planning.query.now) c.number_of.ensures)
    ∙ ap (option_map (λ (found : Candidate). found.cost)) c.in_err-child.was)))

pub whole_rows-rows-requires-clause-evaluated : goal.whole_rows-rows-requires-clause-evaluated
whole_rows-rows-requires-clause-evaluated c =
    let count = length (block_above c.args.self.now).terms in
    let some = c.requires.term.some in
    let most = c.requires.term.most in
    subst (λ m. bit_xor c.args.evaluated m < 2 ^ count) (sym c.mask_of.ensures)
    (xor_lt count c.args.evaluated (mask_of c.args.term) c.requires.evaluated (pow_below (c.args.term - 1) count (omega arith)))

pub call_cost-requires-clause-block : goal.call_cost-requires-clause-block
call_cost-requires-clause-block c =
    subst (IsBlock c.args.self.now.planning.catalog.now) (sym (c.block_in-block.ensures ∙ ap (block_in c.args.self.now.planning.query.now) c.number_of.ensures))
    (block-formed c.args.self.now.planning.catalog.now c.args.self.now.planning.query.now (number_of c.args.self.now.extent) c.requires.row.planning.query)

pub call_cost-requires-clause-term : goal.call_cost-requires-clause-term
call_cost-requires-clause-term c =
    subst (λ (b : Block). IsNumberedTerm b c.args.term) (sym (c.block_in-block.ensures ∙ ap (block_in c.args.self.now.planning.query.now) c.number_of.ensures)) c.requires.term

one : (c : goal.After-call_cost) (tops : ℕ → Option Placed) → AreTopsIn c.args.self.now c.args.evaluated tops → (base : Option Placed) (found : Candidate)
    → found.cost ≡ c.in_ok-child.child.cost + c.whole_rows-rows.result * c.call_cost.result → found.choice ≡ choice.Rank c.args.term
    → IsOneTop c.args.self.now.planning.catalog.now c.args.self.now.planning.query.now (cards_of c.args.self.now.planning.cards.now) c.args.self.now.extent base tops
    c.args.evaluated c.args.term found
one c tops are base found cost_is choice_is =
    let k = mapped (λ (kept : Placed). kept.cost) (tops (bit_xor c.args.evaluated (mask_of c.args.term))) c.in_ok-child.child.cost
    (costs c.args.self.now c.args.evaluated c.args.term tops are (sym c.has_number.ensures ∙ c.if-not-has_number.false) c.mask_of.result c.len.result
    c.block_in-block.result.now c.candidate_at.result c.candidate_at.ensures c.mask_of.ensures c.len.ensures
    (c.block_in-block.ensures ∙ ap (block_in c.args.self.now.planning.query.now) c.number_of.ensures)
    ∙ ap (option_map (λ (found : Candidate). found.cost)) c.in_ok-child.was) in
    rank-one c.args.self.now.planning.catalog.now c.args.self.now.planning.query.now c.requires.row.planning.query (cards_of c.args.self.now.planning.cards.now)
    c.args.self.now.extent c.requires.row.topped base tops c.args.evaluated
    c.args.term c.requires.term.some c.requires.term.most are.tops k.0 k.1 (sym c.has_number.ensures ∙ c.if-not-has_number.false)
    c.whole_rows-rows.result c.call_cost.result
    (c.whole_rows-rows.ensures.value
    ∙ (λ i. whole_rows c.args.self.now.planning.query.now (cards_of c.args.self.now.planning.cards.now) c.args.self.now.extent (bit_xor c.args.evaluated (c.mask_of.ensures i))))
    c.whole_rows-rows.ensures.most
    (c.call_cost.ensures.value
    ∙ ap (λ (b : Block). call_cost c.args.self.now.planning.catalog.now b c.args.term) (c.block_in-block.ensures ∙ ap (block_in c.args.self.now.planning.query.now) c.number_of.ensures))
    c.call_cost.ensures.small found (cost_is ∙ ap (λ n. n + c.whole_rows-rows.result * c.call_cost.result) (sym k.2)) choice_is

pub with_calls-cost-requires : goal.with_calls-cost-requires
with_calls-cost-requires c =
    let found : Candidate = record { cost = c.in_ok-child.child.cost + c.whole_rows-rows.result * c.call_cost.result; choice = choice.Rank c.args.term } in
    let fits = (one c c.requires.tops.view c.requires.tops.are None found refl refl).stands.fits in
    let small = whole-small c.args.self.now.planning.catalog.now c.args.self.now.planning.query.now c.requires.row.planning.query c.args.self.now.extent c.args.evaluated c.requires.evaluated in
    let most = whole-most c.args.self.now.planning.catalog.now c.args.self.now.planning.query.now c.requires.row.planning.query c.args.self.now.extent c.args.evaluated small in
    omega arith

pub returns : goal.returns
returns c = λ tops are base.
    one (record { before = c.before.before; type_inv = record { self = c.type_inv.self } }) tops are base (record { cost = c.with_calls-cost.result; choice = choice.Rank c.args.term }) c.with_calls-cost.ensures refl
