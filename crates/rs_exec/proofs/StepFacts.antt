-- What is known of a rank operator that can be asked once more: its rows, and where its core is ready or has ended.
use Rattle.std.proofs.Common.{◌≡◌, ◌∙◌, ℕ, suc, ◌≤◌, ◌-◌, List, [], ◌∷◌, length, map, get_or, refl, sym, ap, arith}
use Rattle.std.proofs.lemmas.List.{get_or-map}
use Rattle.std.proofs.lemmas.Option.{get_or_from_slice_get, slice_get_past, slice_get_within}
use Rattle.rs_order.specs.Sorting.{sorted}
use Rattle.rs_order.proofs.ReorderFacts.{asks_upto-none}
use Rattle.rs_rank.specs.Keys.{key_cmp}
use Rattle.rs_rank.specs.declared.ask.Ask.{Ask}
use Rattle.std.specs.Prelude.{min, Some, slice_get}
use Rattle.rs_expr.specs.Scoring.{ScorerState}
use Rattle.rs_rank.specs.Weights.{IsWeights}
use Rattle.rs_rank.specs.declared.ask.Ask.TheVariants.{End, Need, Ready}
use Rattle.rs_rank.specs.declared.row.RankRow.{RankRow}
use Rattle.rs_mu.specs.Mu.{Mu, ask_of, left_for, taken_for}
use Rattle.rs_mu.specs.Stands.{Evaluation, Stands as MuStands, asks_of, old_key, state_after}
use Rattle.rs_mu.proofs.AnswerFacts.{length-answers}
use Rattle.rs_mu.proofs.StandFacts.{Tells, asks_of-upto, length-sorted, row_key}
use Rattle.rs_mu.proofs.StepFacts.{taken-stands}
use Rattle.rs_catalog.specs.Catalog.{CatalogDef}
use Rattle.rs_query.specs.Answers.{worth_of}
use Rattle.rs_query.specs.Questions.{question_of}
use Rattle.rs_query.specs.declared.query.Query.{Query}
use Rattle.rs_query.specs.declared.term.Term.{Term}
use Rattle.rs_plan.specs.Calls.{own_question}
use Rattle.rs_plan.specs.Lists.{World, numbered_block, list_of, weights_in}
use Rattle.rs_plan.specs.Trees.{Rank, PlanTree, entries}
use Rattle.rs_exec.specs.Asked.{CanAsk}
use Rattle.rs_exec.specs.Asking.{world_of}
use Rattle.rs_exec.specs.Standing.{evaluation_for}
pub use Rattle.rs_exec.proofs.BlockFacts.{block-formed, few-entries, sizes-are, slice_get-none}
use Rattle.rs_exec.proofs.PlacesFacts.{IsPlaced, TermFor, row-placed, row-term}
use Rattle.rs_exec.proofs.RankFacts.{rank-list}

-- where there are no more answers, all rows and the end are asked for
all-asks : (e : Evaluation) (rows : List RankRow) (n : ℕ) → length rows ≤ n → asks_of e rows (suc n) ≡ suc (length rows)
all-asks e rows n past =
    let count = length-sorted key_cmp (row_key e) rows in
    asks_of-upto e rows (suc n) ∙ asks_upto-none key_cmp (old_key e) (row_key e) rows n (slice_get_past (sorted key_cmp (row_key e) rows) n (omega arith))

-- what a function gives of the item at a place
pub get_or-map-at : {A : Type 0} (f : A → ℕ) (xs : List A) (i : ℕ) (x : A) → slice_get xs i ≡ Some x → get_or (map f xs) i 0 ≡ f x
get_or-map-at f xs i x there = get_or-map f xs i x 0 (slice_get_within xs i x there) ∙ ap f (get_or_from_slice_get xs i x x there)

-- the operator can be asked once more
module _ (catalogue : CatalogDef) (query : Query) (number term : ℕ) (child : PlanTree) (a : ℕ) (old : ScorerState)
    (can : CanAsk (world_of catalogue old.answer query) number (Rank term child) a) where
  abbrev w : World
  w = world_of catalogue old.answer query

  abbrev e : Evaluation
  e = evaluation_for w term child

  weights : IsWeights (weights_in w)
  weights = can.weights

  -- as many rows come as go in
  pub same-length : length (list_of w number (Rank term child)) ≡ length (list_of w number child)
  same-length = ap (λ (rows : List RankRow). length rows) (rank-list w number term child can.formed can.part weights) ∙ length-answers e (list_of w number child)

  -- a row of the input has the entries of the term of its block
  pub row-is : (asks : ℕ) (row : RankRow) → slice_get (list_of w number child) asks ≡ Some row → IsPlaced w number (entries child) row.ids
  row-is asks row there = row-placed catalogue old.answer query number child can.formed can.number_is can.part.0 asks row there

  pub row-has : (asks : ℕ) (row : RankRow) → slice_get (list_of w number child) asks ≡ Some row → TermFor catalogue query term row.ids
  row-has asks row there = row-term catalogue old.answer query number term child row.ids can.formed can.part.1 (row-is asks row there)

  pub worth-at : (row : RankRow) (t : Term) → slice_get (numbered_block w row.ids.block).terms (term - 1) ≡ Some t
      → e.worth row ≡ worth_of old.answer catalogue (numbered_block w row.ids.block) row.ids.rows t
  worth-at row t named =
      get_or-map-at (worth_of old.answer catalogue (numbered_block w row.ids.block) row.ids.rows) (numbered_block w row.ids.block).terms (term - 1) t named

  pub own-at : (row : RankRow) (t : Term) → slice_get (numbered_block w row.ids.block).terms (term - 1) ≡ Some t
      → own_question w term (Some row) ≡ question_of row.ids.block (numbered_block w row.ids.block) row.ids.rows t ∷ []
  own-at row t named = rw named refl

  -- where it needs no row, the input was asked as often as the next answer takes
  pub over-asks : (asks : ℕ) (ask : Ask) → Tells e (list_of w number child) asks a ask → (ask ≡ Need → ⊥) → asks ≡ asks_of e (list_of w number child) (suc a)
  over-asks asks Need tells over = absurd (over refl)
  over-asks asks Ready tells over = tells.0
  over-asks asks End tells over =
      let none = tells.0 in
      let all = tells.1 in
      let exact = all-asks e (list_of w number child) a (omega arith) in
      omega arith

  -- and what it gives is the next row of its list
  pub over-value : (mu : Mu) (asks : ℕ) → MuStands e (list_of w number child) asks a mu → (ask : Ask) → ask_of mu ≡ ask → Tells e (list_of w number child) asks a ask → (ask ≡ Need → ⊥)
      → taken_for (ask_of mu) mu ≡ slice_get (list_of w number (Rank term child)) a
  over-value mu asks stands Need is tells over = absurd (over refl)
  over-value mu asks stands Ready is tells over =
      (taken-stands e (list_of w number child) asks a mu stands is).0
      ∙ ap (λ (rows : List RankRow). slice_get rows a) (sym (rank-list w number term child can.formed can.part weights))
  over-value mu asks stands End is tells over =
      let all = tells.1 in
      let size = same-length in
      ap (λ ask. taken_for ask mu) is ∙ sym (slice_get_past (list_of w number (Rank term child)) a (omega arith))

  -- and it keeps then what this many answers leave
  pub over-state : (mu : Mu) (asks : ℕ) → MuStands e (list_of w number child) asks a mu → (ask : Ask) → ask_of mu ≡ ask → Tells e (list_of w number child) asks a ask → (ask ≡ Need → ⊥)
      → left_for (ask_of mu) mu ≡ state_after e (list_of w number child) asks (min (suc a) (length (list_of w number (Rank term child))))
  over-state mu asks stands Need is tells over = absurd (over refl)
  over-state mu asks stands Ready is tells over =
      let inside = tells.1 in
      let size = same-length in
      let all : suc a ≡ min (suc a) (length (list_of w number (Rank term child))) = omega arith in
      (taken-stands e (list_of w number child) asks a mu stands is).1.state ∙ ap (state_after e (list_of w number child) asks) all
  over-state mu asks stands End is tells over =
      let past = tells.1 in
      let size = same-length in
      let all : a ≡ min (suc a) (length (list_of w number (Rank term child))) = omega arith in
      ap (λ ask. left_for ask mu) is ∙ stands.state ∙ ap (state_after e (list_of w number child) asks) all
