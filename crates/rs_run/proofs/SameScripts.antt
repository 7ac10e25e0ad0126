-- A script that ends well both ways puts the same lines: its statements do.
use Rattle.std.proofs.Common.{ℕ, ◌≡◌, List, sym, ap, subst}
use Rattle.std.specs.Prelude.{None}
use Rattle.std.specs.List.{AllByRecursion}
use Rattle.rs_expr.specs.Scoring.{Answering}
use Rattle.rs_syntax.specs.Syntax.{Command}
use Rattle.rs_syntax.proofs.WrittenFacts.{AreWritten-parsed}
use Rattle.rs_statement.specs.declared.evaluating.Evaluating.TheVariants.{Planned, Plainly}
use Rattle.rs_statement.specs.declared.sampling.Sampling.{Sampling}
use Rattle.rs_run.specs.Plain.{HasStatements, TextRuns, as_it_is, read, runs, source_of, unlexed, unparsed, unread}
use Rattle.rs_events.specs.Events.{puts}
use Rattle.rs_outside.specs.Files.{Finds}
use Rattle.rs_statement.specs.Steps.{Run}
use Rattle.rs_run.specs.Running.{HasNoExplain, IsRunOf}
use Rattle.rs_statement.specs.Statements.{IsNoExplain}
use Rattle.rs_statement.specs.Session.{StatementsRun}
use Rattle.rs_run.specs.Words.{RunScript}
use Rattle.rs_run.proofs.OneRun.{HasStatements-one}
use Rattle.rs_events.proofs.OneRun.{OneFile}
use Rattle.rs_statement.proofs.SamePuts.{GiveAnswers, alike-statements}
use Rattle.rs_statement.proofs.SameFetches.{AskTheSame}

module _ (give : GiveAnswers) (same : AskTheSame) (finds : Finds) (one : OneFile finds) (answer : Answering) (sampling : Sampling) where
  -- texts and scripts
  alike-texts : (script : List ℕ) (a b : Run) → ((commands : List Command) → HasStatements script commands → AllByRecursion IsNoExplain commands) → TextRuns as_it_is (StatementsRun finds answer Plainly) script a → TextRuns as_it_is (StatementsRun finds answer (Planned sampling)) script b
      → a.fault ≡ None → b.fault ≡ None → puts a.events ≡ puts b.events
  alike-texts script _ b silent (unlexed fault refuses) rb wa wb = absurd cc
  alike-texts script _ b silent (unparsed tokens fault lexed refuses) rb wa wb = absurd cc
  alike-texts script a _ silent (runs commands _ made is) (unlexed fault refuses) wa wb = absurd cc
  alike-texts script a _ silent (runs commands _ made is) (unparsed tokens fault lexed refuses) wa wb = absurd cc
  alike-texts script a b silent (runs commands _ made is) (runs others _ again also) wa wb =
      alike-statements give same finds one answer sampling commands a b (AreWritten-parsed script made.tokens commands made.lexed.spells made.parsed) (silent commands made) is
      (subst (λ list. StatementsRun finds answer (Planned sampling) list b) (sym (HasStatements-one script commands others made again)) also) wa wb

  pub alike-scripts : (name : List ℕ) (a b : Run) → HasNoExplain finds name → IsRunOf finds answer (RunScript name Plainly) a → IsRunOf finds answer (RunScript name (Planned sampling)) b
      → a.fault ≡ None → b.fault ≡ None → puts a.events ≡ puts b.events
  alike-scripts name _ b silent (unread there fault found e) rb wa wb = absurd cc
  alike-scripts name _ _ silent (read there script a found e is) (unread other fault again f) wa wb = absurd cc
  alike-scripts name _ _ silent (read there script a found e is) (read other text b again f also) wa wb =
      let same : script ≡ text = (let source = ap (source_of name) (one name there other found again) in cc) in
      alike-texts text a b (λ commands made. silent other text commands again f made) (subst (λ s. TextRuns as_it_is (StatementsRun finds answer Plainly) s a) same is) also wa wb
