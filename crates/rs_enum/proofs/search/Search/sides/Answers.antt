-- There are sides, one pair of them, or none.
use Rattle.std.proofs.Common.{◌≡◌, ◌∙◌, ℕ, sym, ap, subst, arith, length, bit_and, bit_or, bit_xor}
use Rattle.std.proofs.lemmas.Nat.{and_le_r, xor_lt}
use Rattle.std.specs.Prelude.{Option}
use Rattle.rs_enum.specs.declared.candidate.Candidate.{Candidate}
use Rattle.rs_enum.specs.declared.search.Search.{Search}
use Rattle.rs_query.specs.declared.block.Block.{Block}
use Rattle.rs_sample.specs.Kept.{cards_of}
use Rattle.rs_enum.specs.declared.candidate.Sides.{Sides}
use Rattle.rs_enum.specs.Places.{AreTheSides, candidate_at}
use Rattle.rs_enum.specs.QueryCards.{cards_at}
use Rattle.rs_sample.specs.Cards.{IsEstimated}
use Rattle.rs_enum.specs.Within.{terms_within}
use Rattle.rs_enum.proofs.CostFacts.{block-formed}
use Rattle.rs_enum.proofs.FindFacts.{no-sides-left, no-sides-outside, no-sides-right, no-sides-split, sides-one}
use Rattle.rs_enum.proofs.SearchFacts.{entries-less, kept-in, some-small}
use Rattle.rs_enum.proofs.MadeFacts.{kept-missing}
use Rattle.rs_enum.specs.Given.{block_of, cards_in, kept_in, query_in}
use Rattle.rs_enum.proofs.search.Search.sides.Goals as goal

pub returns-then-left-of : goal.returns-then-left-of
returns-then-left-of c =
    no-sides-outside c.args.self.now.planning.catalog.now (query_in c.args.self.now) (cards_in c.args.self.now) (block-formed c.args.self.now.planning.catalog.now c.args.self.now.planning.query.now c.args.self.now.number c.requires.search.planning.query)
    (kept_in c.args.self.now) c.requires.search.kept c.args.of.entries c.args.of.terms c.requires.terms c.args.left c.if-left-of.true

-- a part of a mask of entries is a small number
pub terms_inside-requires-clause-entries : goal.terms_inside-requires-clause-entries
terms_inside-requires-clause-entries c =
    let few = entries-less c.args.self.now.planning.catalog.now (query_in c.args.self.now) (cards_in c.args.self.now) (block-formed c.args.self.now.planning.catalog.now c.args.self.now.planning.query.now c.args.self.now.number c.requires.search.planning.query)
    (kept_in c.args.self.now) c.args.of.entries c.args.of.terms c.requires.entries in
    let most = and_le_r c.args.left c.args.of.entries in
    let same = c.if-left-of.false in
    omega arith

pub terms_inside-requires-2-clause-entries : goal.terms_inside-requires-2-clause-entries
terms_inside-requires-2-clause-entries c =
    let few = entries-less c.args.self.now.planning.catalog.now (query_in c.args.self.now) (cards_in c.args.self.now) (block-formed c.args.self.now.planning.catalog.now c.args.self.now.planning.query.now c.args.self.now.number c.requires.search.planning.query)
    (kept_in c.args.self.now) c.args.of.entries c.args.of.terms c.requires.entries in
    let most = and_le_r c.args.left c.args.of.entries in
    let same = c.if-left-of.false in
    xor_lt 6 c.args.of.entries c.args.left (omega arith) (omega arith)

pub returns-then-left_terms-right_terms : goal.returns-then-left_terms-right_terms
returns-then-left_terms-right_terms c =
    let left : c.terms_inside.result ≡ terms_within c.args.left (block_of c.args.self.now).terms =
    c.terms_inside.ensures in
    let right : c.terms_inside-2.result ≡ terms_within (bit_xor c.args.of.entries c.args.left) (block_of c.args.self.now).terms =
    c.terms_inside-2.ensures in
    no-sides-split c.args.self.now.planning.catalog.now (query_in c.args.self.now) (cards_in c.args.self.now) (block-formed c.args.self.now.planning.catalog.now c.args.self.now.planning.query.now c.args.self.now.number c.requires.search.planning.query)
    (kept_in c.args.self.now) c.requires.search.kept c.args.of.entries c.args.of.terms c.requires.terms c.args.left
    (λ same. c.if-left_terms-right_terms.true ((λ i. bit_or (bit_and c.args.of.terms (left i)) (bit_and c.args.of.terms (right i))) ∙ same))

-- what stands at the place of a side
was : (search : Search) (entries of mask within count : ℕ) (found : Option Candidate) → found ≡ candidate_at count search.places.now entries (bit_and of mask)
    → count ≡ length (block_of search).terms → mask ≡ within
    → candidate_at (length (block_of search).terms) search.places.now entries (bit_and of within) ≡ found
was search entries of mask within count found is counted same = sym (is ∙ (λ i. candidate_at (counted i) search.places.now entries (bit_and of (same i))))

pub returns-in_err-left_found : goal.returns-in_err-left_found
returns-in_err-left_found c =
    let there = was c.args.self.now c.args.left c.args.of.terms c.terms_inside.result (terms_within c.args.left (block_of c.args.self.now).terms) c.len-count.result c.candidate_at.result
    c.candidate_at.ensures (c.len-count.ensures ∙ ap (λ (b : Block). length b.terms) c.block_in-block.ensures)
    (c.terms_inside.ensures) in
    subst (AreTheSides c.args.self.now.planning.catalog.now (query_in c.args.self.now) (cards_in c.args.self.now) (kept_in c.args.self.now) c.args.of.entries c.args.of.terms c.args.left)
    (sym c.from_residual.ensures)
    (no-sides-left c.args.self.now.planning.catalog.now (query_in c.args.self.now) (cards_in c.args.self.now) (block-formed c.args.self.now.planning.catalog.now c.args.self.now.planning.query.now c.args.self.now.number c.requires.search.planning.query)
    (kept_in c.args.self.now) c.requires.search.kept c.args.of.entries c.args.of.terms c.requires.terms c.args.left
    (kept-missing (block_of c.args.self.now).terms c.args.self.now.places.now c.args.left (bit_and c.args.of.terms (terms_within c.args.left (block_of c.args.self.now).terms)) (there ∙ c.in_err-left_found.was)))

pub returns-in_err-right_found : goal.returns-in_err-right_found
returns-in_err-right_found c =
    let there = was c.args.self.now (bit_xor c.args.of.entries c.args.left) c.args.of.terms c.terms_inside-2.result
    (terms_within (bit_xor c.args.of.entries c.args.left) (block_of c.args.self.now).terms) c.len-count.result c.candidate_at-2.result
    c.candidate_at-2.ensures (c.len-count.ensures ∙ ap (λ (b : Block). length b.terms) c.block_in-block.ensures)
    (c.terms_inside-2.ensures) in
    subst (AreTheSides c.args.self.now.planning.catalog.now (query_in c.args.self.now) (cards_in c.args.self.now) (kept_in c.args.self.now) c.args.of.entries c.args.of.terms c.args.left)
    (sym c.from_residual-in_err-right_found.ensures)
    (no-sides-right c.args.self.now.planning.catalog.now (query_in c.args.self.now) (cards_in c.args.self.now) (block-formed c.args.self.now.planning.catalog.now c.args.self.now.planning.query.now c.args.self.now.number c.requires.search.planning.query)
    (kept_in c.args.self.now) c.requires.search.kept c.args.of.entries c.args.of.terms c.requires.terms c.args.left
    (kept-missing (block_of c.args.self.now).terms c.args.self.now.places.now (bit_xor c.args.of.entries c.args.left) (bit_and c.args.of.terms (terms_within (bit_xor c.args.of.entries c.args.left) (block_of c.args.self.now).terms)) (there ∙ c.in_err-right_found.was)))

pub rows_of-requires-clause-masks : goal.rows_of-requires-clause-masks
rows_of-requires-clause-masks c =
    let there = was c.args.self.now c.args.left c.args.of.terms c.terms_inside.result (terms_within c.args.left (block_of c.args.self.now).terms) c.len-count.result c.candidate_at.result
    c.candidate_at.ensures (c.len-count.ensures ∙ ap (λ (b : Block). length b.terms) c.block_in-block.ensures)
    (c.terms_inside.ensures) in
    let left = kept-in c.args.self.now c.requires.search c.args.left (bit_and c.args.of.terms (terms_within c.args.left (block_of c.args.self.now).terms))
    (some-small (length (block_of c.args.self.now).terms) c.args.of.terms (terms_within c.args.left (block_of c.args.self.now).terms) c.requires.terms) c.in_ok-left_found.left_found
    (there ∙ c.in_ok-left_found.was) in
    let left_terms : c.terms_inside.result ≡ terms_within c.args.left (block_of c.args.self.now).terms =
    c.terms_inside.ensures in
    subst (λ m. IsEstimated (cards_at (cards_of c.args.self.now.planning.cards.now) c.args.self.now.number) c.args.left (bit_and c.args.of.terms m)) (sym left_terms) left.masks

pub rows_of-requires-2-clause-masks : goal.rows_of-requires-2-clause-masks
rows_of-requires-2-clause-masks c =
    let there = was c.args.self.now (bit_xor c.args.of.entries c.args.left) c.args.of.terms c.terms_inside-2.result
    (terms_within (bit_xor c.args.of.entries c.args.left) (block_of c.args.self.now).terms) c.len-count.result c.candidate_at-2.result
    c.candidate_at-2.ensures (c.len-count.ensures ∙ ap (λ (b : Block). length b.terms) c.block_in-block.ensures)
    (c.terms_inside-2.ensures) in
    let right = kept-in c.args.self.now c.requires.search (bit_xor c.args.of.entries c.args.left)
    (bit_and c.args.of.terms (terms_within (bit_xor c.args.of.entries c.args.left) (block_of c.args.self.now).terms))
    (some-small (length (block_of c.args.self.now).terms) c.args.of.terms (terms_within (bit_xor c.args.of.entries c.args.left) (block_of c.args.self.now).terms) c.requires.terms)
    c.in_ok-right_found.right_found (there ∙ c.in_ok-right_found.was) in
    let right_terms : c.terms_inside-2.result ≡ terms_within (bit_xor c.args.of.entries c.args.left) (block_of c.args.self.now).terms =
    c.terms_inside-2.ensures in
    subst (λ m. IsEstimated (cards_at (cards_of c.args.self.now.planning.cards.now) c.args.self.now.number) (bit_xor c.args.of.entries c.args.left) (bit_and c.args.of.terms m))
    (sym right_terms) right.masks

pub returns : goal.returns
returns c =
    let there = was c.args.self.now c.args.left c.args.of.terms c.terms_inside.result (terms_within c.args.left (block_of c.args.self.now).terms) c.len-count.result c.candidate_at.result
    c.candidate_at.ensures (c.len-count.ensures ∙ ap (λ (b : Block). length b.terms) c.block_in-block.ensures)
    (c.terms_inside.ensures) in
    let left = kept-in c.args.self.now c.requires.search c.args.left (bit_and c.args.of.terms (terms_within c.args.left (block_of c.args.self.now).terms))
    (some-small (length (block_of c.args.self.now).terms) c.args.of.terms (terms_within c.args.left (block_of c.args.self.now).terms) c.requires.terms) c.in_ok-left_found.left_found
    (there ∙ c.in_ok-left_found.was) in
    let beyond = was c.args.self.now (bit_xor c.args.of.entries c.args.left) c.args.of.terms c.terms_inside-2.result
    (terms_within (bit_xor c.args.of.entries c.args.left) (block_of c.args.self.now).terms) c.len-count.result c.candidate_at-2.result
    c.candidate_at-2.ensures (c.len-count.ensures ∙ ap (λ (b : Block). length b.terms) c.block_in-block.ensures)
    (c.terms_inside-2.ensures) in
    let right = kept-in c.args.self.now c.requires.search (bit_xor c.args.of.entries c.args.left)
    (bit_and c.args.of.terms (terms_within (bit_xor c.args.of.entries c.args.left) (block_of c.args.self.now).terms))
    (some-small (length (block_of c.args.self.now).terms) c.args.of.terms (terms_within (bit_xor c.args.of.entries c.args.left) (block_of c.args.self.now).terms) c.requires.terms)
    c.in_ok-right_found.right_found (beyond ∙ c.in_ok-right_found.was) in
    let left_terms : c.terms_inside.result ≡ terms_within c.args.left (block_of c.args.self.now).terms =
    c.terms_inside.ensures in
    let right_terms : c.terms_inside-2.result ≡ terms_within (bit_xor c.args.of.entries c.args.left) (block_of c.args.self.now).terms =
    c.terms_inside-2.ensures in
    let found : Sides = record {
      left_cost = c.in_ok-left_found.left_found.cost;
      right_cost = c.in_ok-right_found.right_found.cost;
      left_rows = c.rows_of.result;
      right_rows = c.rows_of-2.result;
    } in
    sides-one c.args.self.now.planning.catalog.now (query_in c.args.self.now) (cards_in c.args.self.now) (block-formed c.args.self.now.planning.catalog.now c.args.self.now.planning.query.now c.args.self.now.number c.requires.search.planning.query)
    (kept_in c.args.self.now) c.requires.search.kept c.args.of.entries c.args.of.terms c.requires.terms c.args.left c.if-left-of.false
    ((λ i. bit_or (bit_and c.args.of.terms (sym left_terms i)) (bit_and c.args.of.terms (sym right_terms i))) ∙ c.if-left_terms-right_terms.false)
    left.kept right.kept left.is right.is found (sym left.cost) (sym right.cost)
    (c.rows_of.ensures.value ∙ ap (λ m. (cards_at (cards_of c.args.self.now.planning.cards.now) c.args.self.now.number).estimate c.args.left (bit_and c.args.of.terms m)) left_terms ∙ left.rows)
    (c.rows_of-2.ensures.value ∙ ap (λ m. (cards_at (cards_of c.args.self.now.planning.cards.now) c.args.self.now.number).estimate (bit_xor c.args.of.entries c.args.left) (bit_and c.args.of.terms m)) right_terms ∙ right.rows)
    (left.few c.rows_of.result c.rows_of.ensures.most) (right.few c.rows_of-2.result c.rows_of-2.ensures.most)
