-- The definitions of the word `view`, computed on examples.
use Rattle.std.proofs.Common.{ℕ, ◌≡◌, List, [], ◌∷◌, Some, None, refl}
use Rattle.std.specs.Prelude.{codes, Err, Ok}
use Rattle.std.specs.Fmt.{digits}
use Rattle.rs_syntax.specs.declared.name.Name.{Name}
use Rattle.rs_syntax.specs.Syntax.{Explain}
use Rattle.rs_syntax.specs.Syntax as syntax
use Rattle.rs_expr.specs.Scoring.{Answering}
use Rattle.rs_catalog.specs.Catalog.{empty}
use Rattle.rs_query.specs.declared.query.Query.{Query}
use Rattle.rs_view.specs.Views.{ViewDef}
use Rattle.rs_outside.specs.Files.{Finds}
use Rattle.rs_events.specs.Sequence.{still}
use Rattle.rs_statement.specs.declared.fault.Fault.TheVariants.{Session}
use Rattle.rs_statement.specs.declared.fault.SessionFault.TheVariants.{NameTaken, Unknown}
use Rattle.rs_run.specs.declared.fault.RunFault.TheVariants.{NotEligible}
use Rattle.rs_run.specs.declared.fault.ScriptWord.TheVariants.{View}
use Rattle.rs_events.specs.declared.status.Status.TheVariants as status
use Rattle.rs_run.specs.Faults.{run_fault_line, status_of}
use Rattle.rs_run.specs.Reached.{AreNotClosed, most_written, without_views}
use Rattle.rs_run.specs.Viewing.{DoesByViews, HeldView, Kept, close_outcome, room_for_view, view_named}
use Rattle.rs_run.specs.Words.{Views, form_of}

-- the words `view s`, and no more of them
words_of_view : form_of (codes "view" ∷ codes "s" ∷ []) ≡ Some (Views (codes "s"))
words_of_view = refl

a_seed_for_view : form_of (codes "view" ∷ codes "s" ∷ codes "1" ∷ []) ≡ None
a_seed_for_view = refl

line_of_ineligible : run_fault_line (NotEligible View 8) ≡ codes "script: view NotEligible statement 8\n"
unfolding digits
line_of_ineligible = refl

status_of_ineligible : status_of (Some (NotEligible View 8)) ≡ status.Script
status_of_ineligible = refl

-- an EXPLAIN ends the run whatever its query is
explains : (finds : Finds) (answer : Answering) (number : ℕ) (kept : Kept) (query : syntax.Query) → DoesByViews finds answer number kept (Explain query) (still (Err (NotEligible View number)))
explains finds answer number kept query = refl

-- two views: the second one can be found, its name is taken, and without the first one it is the first
module _ (query : Query) where
  view : ViewDef
  view = record { query = query; lengths = []; rows = [] }

  two : List HeldView
  two = (codes "a", view) ∷ (codes "b", view) ∷ []

  found : view_named (codes "b") two ≡ Ok view
  unfolding two
  found = refl

  taken : room_for_view (codes "b") two ≡ Err (Session NameTaken (codes "b"))
  unfolding two
  taken = refl

  unknown : view_named (codes "c") two ≡ Err (Session Unknown (codes "c"))
  unfolding two
  unknown = refl

  one_left : (at : Name) → at.text ≡ codes "a" → close_outcome (record { catalogue = empty; views = two }) (record at { text = codes "a" }) ≡ Ok (record { catalogue = empty; views = (codes "b", view) ∷ [] })
  unfolding two
  one_left at is = refl

-- of a DECLARE, a CLOSE and a query the query alone does the same under `plain`
under_plain : (name : Name) (query : syntax.Query) → without_views (syntax.Declare name query ∷ syntax.Close name ∷ syntax.Ask query ∷ []) ≡ syntax.Ask query ∷ []
under_plain name query = refl

-- a CLOSE of another name leaves a view
not_closed : (at : Name) → AreNotClosed (codes "a") (syntax.Close (record at { text = codes "b" }) ∷ [])
not_closed at = (refl, tt)

-- a SELECT without LIMIT makes a view of ten rows at most
ten_rows : (query : syntax.Query) → most_written (record query { limit = None }) ≡ Ok 10
ten_rows query = refl
