-- The definitions of the word `ta`, computed on examples.
use Rattle.std.proofs.Common.{ℕ, ◌≡◌, [], ◌∷◌, Some, None, true, refl}
use Rattle.std.specs.Prelude.{codes, Err}
use Rattle.std.specs.Fmt.{digits}
use Rattle.rs_rank.specs.declared.scored_row.ScoredRow.{ScoredRow}
use Rattle.rs_syntax.specs.declared.name.Name.{Name}
use Rattle.rs_syntax.specs.Syntax.{Close}
use Rattle.rs_expr.specs.Scoring.{Answering}
use Rattle.rs_catalog.specs.Catalog.{CatalogDef}
use Rattle.rs_ta.specs.Depths.{ScanInput}
use Rattle.rs_outside.specs.Files.{Finds}
use Rattle.rs_events.specs.Sequence.{still}
use Rattle.rs_run.specs.declared.fault.RunFault.TheVariants.{NotEligible}
use Rattle.rs_run.specs.declared.fault.ScriptWord.TheVariants.{Ta}
use Rattle.rs_events.specs.declared.status.Status.TheVariants as status
use Rattle.rs_run.specs.Faults.{run_fault_line, status_of}
use Rattle.rs_run.specs.Numbered.{DoesNext}
use Rattle.rs_run.specs.Threshold.{DoesByScan, access_line, scan_asks}
use Rattle.rs_run.specs.Words.{Threshold, form_of}

-- the words `ta s`, and no more of them
words_of_ta : form_of (codes "ta" ∷ codes "s" ∷ []) ≡ Some (Threshold (codes "s"))
words_of_ta = refl

a_seed_for_ta : form_of (codes "ta" ∷ codes "s" ∷ codes "1" ∷ []) ≡ None
a_seed_for_ta = refl

ta_alone : form_of (codes "ta" ∷ []) ≡ None
ta_alone = refl

line_of_ineligible : run_fault_line (NotEligible Ta 8) ≡ codes "script: ta NotEligible statement 8\n"
unfolding digits
line_of_ineligible = refl

status_of_ineligible : status_of (Some (NotEligible Ta 8)) ≡ status.Script
status_of_ineligible = refl

entry : ℕ → ℕ → ScoredRow
entry score row = record { score = score; row = row }

-- the rows (10, 3), (8, 9), (5, 1), (2, 10), by each of their numbers
four : ScanInput
four = record {
  weights = record { weight = 1 ∷ 1 ∷ 0 ∷ 0 ∷ 0 ∷ 0 ∷ 0 ∷ 0 ∷ []; max = 10 ∷ 10 ∷ 0 ∷ 0 ∷ 0 ∷ 0 ∷ 0 ∷ 0 ∷ [] };
  entry = 1;
  block = 1;
  lists = (entry 10 1 ∷ entry 8 2 ∷ entry 5 3 ∷ entry 2 4 ∷ []) ∷ (entry 10 4 ∷ entry 9 2 ∷ entry 3 1 ∷ entry 1 3 ∷ []) ∷ [];
  holds = λ row. true;
}

-- with LIMIT 0, 1, 2 and 9, and without LIMIT
no_row : access_line four (scan_asks (Some 0) four) ≡ codes "depth=0 sorted=0 random=0\n"
unfolding four entry digits
no_row = refl

one_row : access_line four (scan_asks (Some 1) four) ≡ codes "depth=2 sorted=4 random=3\n"
unfolding four entry digits
one_row = refl

two_rows : access_line four (scan_asks (Some 2) four) ≡ codes "depth=3 sorted=6 random=4\n"
unfolding four entry digits
two_rows = refl

nine_rows : access_line four (scan_asks (Some 9) four) ≡ codes "depth=4 sorted=8 random=4\n"
unfolding four entry digits
nine_rows = refl

all_rows : access_line four (scan_asks None four) ≡ codes "depth=4 sorted=8 random=4\n"
unfolding four entry digits
all_rows = refl

-- a statement of another form ends the run with its number, whatever it names
closes : (finds : Finds) (answer : Answering) (catalogue : CatalogDef) (name : Name)
    → DoesNext (DoesByScan finds answer) (record { number = 3; kept = catalogue }) (Close name) (still (Err (NotEligible Ta 3)))
closes finds answer catalogue name = (still (Err (NotEligible Ta 3)), refl, refl)
