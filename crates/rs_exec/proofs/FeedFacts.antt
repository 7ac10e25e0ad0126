-- A rank operator takes a row: its one question, and then the row with its worth.
use Rattle.std.proofs.Common.{ℕ, ◌≡◌, [], ◌∷◌, refl, sym, ap, subst}
use Rattle.std.specs.Prelude.{Result, Ok, Err}
use Rattle.rs_expr.specs.InOrder.{Inquires}
use Rattle.rs_expr.specs.Scoring.{ScorerState}
use Rattle.rs_rank.specs.declared.row.RankRow.{RankRow}
use Rattle.rs_catalog.specs.Catalog.{CatalogDef}
use Rattle.rs_query.specs.Answers.{worth_of}
use Rattle.rs_query.specs.Questions.{Question, question_of}
use Rattle.rs_query.specs.declared.block.Block.{Block}
use Rattle.rs_query.specs.declared.query.Query.{Query}
use Rattle.rs_query.specs.declared.term.Term.{Term}
use Rattle.rs_query.proofs.QuestionFacts.{AllAsked, AllAsked-none, Ended-behind, Gave, Gave-ok, Inquires-fault, Stopped-behind}
use Rattle.rs_query.specs.Blocks.{block_in}
use Rattle.rs_exec.specs.Asking.{exec_faults}
use Rattle.rs_exec.specs.Feeding.{feeding, left_by, with_row}
use Rattle.rs_query.specs.Asking.{asking_worth}
use Rattle.rs_exec.specs.declared.fault.ExecFault.{ExecFault}
use Rattle.rs_exec.specs.declared.fault.ExecFault.TheVariants.{Memory}
use Rattle.rs_exec.specs.declared.rank.RankNode.{RankNode}

module _ (catalogue : CatalogDef) (query : Query) (row : RankRow) (term : Term) (head : RankNode) (old new : ScorerState) where
  abbrev question : Question
  question = question_of row.ids.block (block_in query row.ids.block) row.ids.rows term

  abbrev worth : ℕ
  worth = worth_of old.answer catalogue (block_in query row.ids.block) row.ids.rows term

  -- the question gave a worth
  pub asked-worth : (block : Block) → block ≡ block_in query row.ids.block → (got : ℕ)
      → Inquires Memory (asking_worth exec_faults old.answer catalogue block row.ids term) (Ok got) old new
      → Gave old.answer catalogue (question_of row.ids.block (block_in query row.ids.block) row.ids.rows term ∷ [])
      (worth_of old.answer catalogue (block_in query row.ids.block) row.ids.rows term) got old new
  asked-worth block is got inquired =
      Gave-ok exec_faults Memory old.answer catalogue (question ∷ []) worth got old new
      (subst (λ b. Inquires Memory (asking_worth exec_faults old.answer catalogue b row.ids term) (Ok got) old new) is inquired)

  -- it ended the ask
  pub feed-failed : (block : Block) → block ≡ block_in query row.ids.block → (fault : ExecFault) (result : Result (Unit {0}) ExecFault) (left : RankNode) → result ≡ Err fault
      → Inquires Memory (asking_worth exec_faults old.answer catalogue block row.ids term) (Err fault) old new
      → Inquires Memory (feeding old.answer catalogue query row term head) (left_by result left) old new
  feed-failed block is fault result left e inquired =
      subst (λ r. Inquires Memory (feeding old.answer catalogue query row term head) (left_by r left) old new) (sym e)
      (Inquires-fault exec_faults Memory old.answer catalogue {A = ℕ} {B = RankNode} [] (question ∷ []) [] (question ∷ []) worth (with_row row worth head) fault old old new
      refl (AllAsked-none old.answer catalogue old)
      (subst (λ b. Inquires Memory (asking_worth exec_faults old.answer catalogue b row.ids term) (Err fault) old new) is inquired))

  -- there was no memory for the row
  pub feed-stopped : (result : Result (Unit {0}) ExecFault) (left : RankNode) → result ≡ Err Memory → AllAsked old.answer catalogue (question_of row.ids.block (block_in query row.ids.block) row.ids.rows term ∷ []) old new
      → Inquires Memory (feeding old.answer catalogue query row term head) (left_by result left) old new
  feed-stopped result left e asked =
      Stopped-behind exec_faults Memory catalogue (question ∷ []) (with_row row worth head) (left_by result left) old new (ap (λ r. left_by r left) e) asked

  -- the row is kept
  pub feed-done : (given : RankNode) → given ≡ with_row row (worth_of old.answer catalogue (block_in query row.ids.block) row.ids.rows term) head
      → AllAsked old.answer catalogue (question_of row.ids.block (block_in query row.ids.block) row.ids.rows term ∷ []) old new
      → Inquires Memory (feeding old.answer catalogue query row term head) (Ok given) old new
  feed-done given e asked = Ended-behind exec_faults Memory catalogue (question ∷ []) (question ∷ []) (with_row row worth head) given old new refl e asked
