-- Words have one run at most, where a name has one file at most.
use Rattle.std.proofs.Common.{ℕ, ◌≡◌, ◌∙◌, List, [], ◌∷◌, sym, ap, subst, arith}
use Rattle.rs_lex.proofs.SpellingFacts.{Spells-unique, RefusesBytes-unique, Spells-not_refused}
use Rattle.rs_lex.specs.Spelling as lex
use Rattle.rs_lex.specs.declared.fault.LexFault.{LexFault}
use Rattle.rs_lex.specs.declared.token.Token.{Token}
use Rattle.rs_gen.specs.Files.{script_name}
use Rattle.rs_syntax.specs.Scripts.{IsSound, Parses, Refuses}
use Rattle.rs_syntax.specs.Syntax.{Ask, Close, Command, CreatePredicate, CreateRankIndex, CreateTable, Declare, Explain, ExplainAnalyze, Insert}
use Rattle.rs_syntax.specs.Syntax as syntax
use Rattle.rs_syntax.specs.declared.fault.SyntaxFault.{SyntaxFault}
use Rattle.rs_syntax.proofs.ScriptFacts.{Parses-one, Refuses-one, IsSound-not_refused}
use Rattle.rs_statement.specs.declared.fault.Fault.TheVariants.{Script}
use Rattle.rs_statement.specs.declared.script_fault.ScriptFault.TheVariants.{Lex, Parse}
use Rattle.rs_words.specs.Certifying.{joined_cert_run}
use Rattle.rs_words.specs.Feeding.{pairs_run}
use Rattle.rs_words.proofs.CheckedFacts.{IsCheckRun-one}
use Rattle.rs_words.proofs.RunFacts.{one-run}
use Rattle.rs_run.specs.FeedTold.{word_fault}
use Rattle.rs_run.specs.Words.{Certify, Check, Feed, Form, RunGenerated, RunScript, Threshold, Top, Views, form_of}
use Rattle.rs_run.specs.Top.{top_lines}
use Rattle.rs_run.specs.Plain.{HasTokens, HasStatements, ScriptRuns, TextRuns, as_it_is, unlexed, unparsed, runs, unread, read, source_of}
use Rattle.rs_expr.specs.Scoring.{Answering}
use Rattle.rs_events.specs.Events.{Fetch}
use Rattle.rs_outside.specs.Files.{Finds}
use Rattle.rs_statement.specs.Steps.{Run}
use Rattle.rs_statement.specs.Steps as statement
use Rattle.rs_events.specs.Run as events
use Rattle.rs_events.specs.Sequence.{Step}
use Rattle.rs_catalog.specs.Catalog.{CatalogDef, empty}
use Rattle.rs_statement.specs.declared.fault.Fault.{Fault}
use Rattle.rs_statement.specs.Statements.{Does}
use Rattle.rs_events.specs.Run.{behind, fails, fetch_then, with_fault}
use Rattle.rs_run.specs.Generated.{finds_generated, unfetched}
use Rattle.rs_run.specs.Running.{IsFormRun, IsRun, IsRunOf, OfForm}
use Rattle.rs_run.specs.Numbered.{DoesNext, first_statement}
use Rattle.rs_run.specs.Threshold.{DoesByScan, ScansRun}
use Rattle.rs_run.specs.Told.{told_step}
use Rattle.rs_run.specs.Viewing.{DoesByViews, DoesKept, Kept, ViewsRun, beside_views, first_view_statement, joined_step}
use Rattle.rs_run.specs.declared.fault.RunFault.{RunFault}
use Rattle.rs_run.specs.Faults.{WordsRun}
use Rattle.rs_run.specs.declared.fault.RunFault.TheVariants.{Statement}
use Rattle.std.specs.Prelude.{None, Option, Some}
use Rattle.rs_statement.specs.declared.evaluating.Evaluating.TheVariants.{Plainly, Planned}
use Rattle.rs_statement.specs.declared.sampling.Sampling.TheVariants.{ByScores}
use Rattle.rs_statement.specs.Session.{StatementsRun}
use Rattle.rs_events.proofs.OneRun.{OneFile, RunOf-one}
use Rattle.rs_statement.proofs.OneStep.{Does-one, Statements-one}
use Rattle.rs_run.proofs.NumberedFacts.{DoesNext-one}

-- a script has one list of tokens at most, and isn't refused by the lexer where it has one
HasTokens-one : (script : List ℕ) (a b : List Token) → HasTokens script a → HasTokens script b → a ≡ b
HasTokens-one script a b x y = Spells-unique 0 script a b x.spells y.spells

HasTokens-not_refused : (script : List ℕ) (tokens : List Token) (fault : LexFault) → HasTokens script tokens → lex.RefusesBytes 0 0 script fault → ⊥
HasTokens-not_refused script tokens fault x refuses = Spells-not_refused 0 0 script tokens fault (omega (arith, x.few)) x.spells refuses

-- and one list of statements at most, with which it isn't refused by the parser
pub HasStatements-one : (script : List ℕ) (a b : List Command) → HasStatements script a → HasStatements script b → a ≡ b
HasStatements-one script a b x y =
    Parses-one script y.tokens a b (subst (λ tokens. Parses script tokens a) (HasTokens-one script x.tokens y.tokens x.lexed y.lexed) x.parsed) y.parsed

HasStatements-not_refused : (script : List ℕ) (commands : List Command) (tokens : List Token) (fault : SyntaxFault) → HasStatements script commands
    → HasTokens script tokens → Refuses script tokens fault → ⊥
HasStatements-not_refused script commands tokens fault x lexed refuses =
    IsSound-not_refused script tokens fault (subst (IsSound script) (HasTokens-one script x.tokens tokens x.lexed lexed) x.sound) refuses

-- these statements have one run at most
abbrev OneRunOf : {F : Type 0} → (List Command → events.Run F → Type 0) → Type 0
OneRunOf {F} statements = (commands : List Command) (a b : events.Run F) → statements commands a → statements commands b → a ≡ b

module _ {F : Type 0} (told : Fault → F) (statements : List Command → events.Run F → Type 0) (one_of : OneRunOf statements) where
  -- a text has one run at most
  TextRuns-one : (script : List ℕ) (a b : events.Run F) → TextRuns told statements script a → TextRuns told statements script b → a ≡ b
  TextRuns-one script _ _ (unlexed x p) (unlexed y q) = ap (λ fault. fails (told (Script (Lex fault)))) (RefusesBytes-unique 0 0 script x y p q)
  TextRuns-one script _ _ (unlexed x p) (unparsed tokens y lexed q) = absurd (HasTokens-not_refused script tokens x lexed p)
  TextRuns-one script _ _ (unlexed x p) (runs commands run made is) = absurd (HasTokens-not_refused script made.tokens x made.lexed p)
  TextRuns-one script _ _ (unparsed tokens x lexed p) (unlexed y q) = absurd (HasTokens-not_refused script tokens y lexed q)
  TextRuns-one script _ _ (unparsed tokens x lexed p) (unparsed others y other_lexed q) =
      ap (λ fault. fails (told (Script (Parse fault))))
      (Refuses-one script others x y (subst (λ tokens. Refuses script tokens x) (HasTokens-one script tokens others lexed other_lexed) p) q)
  TextRuns-one script _ _ (unparsed tokens x lexed p) (runs commands run made is) = absurd (HasStatements-not_refused script commands tokens x made lexed p)
  TextRuns-one script _ _ (runs commands run made is) (unlexed y q) = absurd (HasTokens-not_refused script made.tokens y made.lexed q)
  TextRuns-one script _ _ (runs commands run made is) (unparsed tokens y lexed q) = absurd (HasStatements-not_refused script commands tokens y made lexed q)
  TextRuns-one script _ _ (runs commands run made is) (runs others other again also) =
      one_of others run other (subst (λ list. statements list run) (HasStatements-one script commands others made again) is) also

  -- a script has one run at most
  ScriptRuns-one : (finds : Finds) → OneFile finds → (name : List ℕ) (a b : events.Run F) → ScriptRuns told finds statements name a → ScriptRuns told finds statements name b → a ≡ b
  ScriptRuns-one finds one name _ _ (unread there x found e) (unread other y again f) =
      let same : x ≡ y = let source = ap (source_of name) (one name there other found again) in cc in ap (λ fault. behind (Fetch name ∷ []) (fails (told fault))) same
  ScriptRuns-one finds one name _ _ (unread there x found e) (read other script run again f is) =
      absurd (let source = ap (source_of name) (one name there other found again) in cc)
  ScriptRuns-one finds one name _ _ (read there script run found e is) (unread other y again f) =
      absurd (let source = ap (source_of name) (one name there other found again) in cc)
  ScriptRuns-one finds one name _ _ (read there script run found e is) (read other text more again f also) =
      let same : script ≡ text = let source = ap (source_of name) (one name there other found again) in cc in
      ap (behind (Fetch name ∷ [])) (TextRuns-one text run more (subst (λ s. TextRuns told statements s run) same is) also)

-- words of a form have one run at most
IsRunOf-one : (finds : Finds) → OneFile finds → (answer : Answering) (form : Form) (run other : Run) → IsRunOf finds answer form run → IsRunOf finds answer form other → run ≡ other
IsRunOf-one finds one answer (Top top) run other p q = p.2 ∙ ap (λ there. fetch_then top.file (top_lines top there)) (one top.file p.0 q.0 p.1 q.1) ∙ sym q.2
IsRunOf-one finds one answer (RunScript name evaluating) run other p q =
    ScriptRuns-one as_it_is (StatementsRun finds answer evaluating) (Statements-one finds one answer evaluating) finds one name run other p q
IsRunOf-one finds one answer (RunGenerated number rows) run other p q =
    let own : OneFile (finds_generated number rows) = λ name a b p q. sym p ∙ q in
    p.2 ∙ ap unfetched (ScriptRuns-one as_it_is (StatementsRun (finds_generated number rows) answer (Planned (ByScores number)))
    (Statements-one (finds_generated number rows) own answer (Planned (ByScores number))) (finds_generated number rows) own script_name p.0 q.0 p.1 q.1) ∙ sym q.2
IsRunOf-one finds one answer (Threshold name) run other p q = absurd p
IsRunOf-one finds one answer (Feed words) run other p q = absurd p
IsRunOf-one finds one answer (Certify words) run other p q = absurd p
IsRunOf-one finds one answer (Check file) run other p q = absurd p
IsRunOf-one finds one answer (Views name) run other p q = absurd p

-- a statement does one thing at most where queries are answered by scans
pub DoesByScan-one : (finds : Finds) → OneFile finds → (answer : Answering) (number : ℕ) (catalogue : CatalogDef) (command : Command) (a b : Step RunFault CatalogDef)
    → DoesByScan finds answer number catalogue command a → DoesByScan finds answer number catalogue command b → a ≡ b
DoesByScan-one finds one answer number catalogue command a b p q = go command p q where
  same : (command : Command) → (own : statement.Step CatalogDef) × Does finds answer Plainly catalogue command own × (a ≡ told_step Statement own)
      → (own : statement.Step CatalogDef) × Does finds answer Plainly catalogue command own × (b ≡ told_step Statement own) → a ≡ b
  same command p q = p.2 ∙ ap (told_step Statement) (Does-one finds one answer Plainly catalogue command p.0 q.0 p.1 q.1) ∙ sym q.2

  go : (command : Command) → DoesByScan finds answer number catalogue command a → DoesByScan finds answer number catalogue command b → a ≡ b
  go (CreateTable name columns file) p q = same (CreateTable name columns file) p q
  go (CreatePredicate name params max cost formula) p q = same (CreatePredicate name params max cost formula) p q
  go (CreateRankIndex name table predicate args at) p q = same (CreateRankIndex name table predicate args at) p q
  go (Insert table rows) p q = same (Insert table rows) p q
  go (Ask query) p q = p ∙ sym q
  go (Declare name query) p q = p ∙ sym q
  go (syntax.Fetch count name) p q = p ∙ sym q
  go (Close name) p q = p ∙ sym q
  go (Explain query) p q = p ∙ sym q
  go (ExplainAnalyze query) p q = p ∙ sym q

-- and where they are kept as views
DoesKept-one : (finds : Finds) → OneFile finds → (answer : Answering) (kept : Kept) (command : Command) (a b : statement.Step Kept)
    → DoesKept finds answer kept command a → DoesKept finds answer kept command b → a ≡ b
DoesKept-one finds one answer kept command a b p q = go command p q where
  same : (command : Command) (leaves : statement.Step CatalogDef → statement.Step Kept)
      → (own : statement.Step CatalogDef) × Does finds answer Plainly kept.catalogue command own × (a ≡ leaves own)
      → (own : statement.Step CatalogDef) × Does finds answer Plainly kept.catalogue command own × (b ≡ leaves own) → a ≡ b
  same command leaves p q = p.2 ∙ ap leaves (Does-one finds one answer Plainly kept.catalogue command p.0 q.0 p.1 q.1) ∙ sym q.2

  go : (command : Command) → DoesKept finds answer kept command a → DoesKept finds answer kept command b → a ≡ b
  go (CreateTable name columns file) p q = same (CreateTable name columns file) (beside_views kept.views) p q
  go (CreatePredicate name params max cost formula) p q = same (CreatePredicate name params max cost formula) (beside_views kept.views) p q
  go (CreateRankIndex name table predicate args at) p q = same (CreateRankIndex name table predicate args at) (beside_views kept.views) p q
  go (Insert table rows) p q = same (Insert table rows) (joined_step answer kept.views) p q
  go (syntax.Fetch count name) p q = p ∙ sym q
  go (Close name) p q = p ∙ sym q
  go (Declare name query) p q = absurd p.1
  go (Ask query) p q = same (Ask query) (beside_views kept.views) p q
  go (Explain query) p q = same (Explain query) (beside_views kept.views) p q
  go (ExplainAnalyze query) p q = same (ExplainAnalyze query) (beside_views kept.views) p q

pub DoesByViews-one : (finds : Finds) → OneFile finds → (answer : Answering) (number : ℕ) (kept : Kept) (command : Command) (a b : Step RunFault Kept)
    → DoesByViews finds answer number kept command a → DoesByViews finds answer number kept command b → a ≡ b
DoesByViews-one finds one answer number kept command a b p q = go command p q where
  same : (command : Command) → (own : statement.Step Kept) × DoesKept finds answer kept command own × (a ≡ told_step Statement own)
      → (own : statement.Step Kept) × DoesKept finds answer kept command own × (b ≡ told_step Statement own) → a ≡ b
  same command p q = p.2 ∙ ap (told_step Statement) (DoesKept-one finds one answer kept command p.0 q.0 p.1 q.1) ∙ sym q.2

  go : (command : Command) → DoesByViews finds answer number kept command a → DoesByViews finds answer number kept command b → a ≡ b
  go (CreateTable name columns file) p q = same (CreateTable name columns file) p q
  go (CreatePredicate name params max cost formula) p q = same (CreatePredicate name params max cost formula) p q
  go (CreateRankIndex name table predicate args at) p q = same (CreateRankIndex name table predicate args at) p q
  go (Insert table rows) p q = same (Insert table rows) p q
  go (syntax.Fetch count name) p q = same (syntax.Fetch count name) p q
  go (Close name) p q = same (Close name) p q
  go (Declare name query) p q = p ∙ sym q
  go (Ask query) p q = p ∙ sym q
  go (Explain query) p q = p ∙ sym q
  go (ExplainAnalyze query) p q = p ∙ sym q

-- so words of a form have one run at most
IsFormRun-one : (finds : Finds) → OneFile finds → (answer : Answering) (form : Form) (run other : WordsRun) → IsFormRun finds answer form run → IsFormRun finds answer form other → run ≡ other
IsFormRun-one finds one answer form run other p q = go form p q where
  told : (form : Form) → (own : Run) × IsRunOf finds answer form own × (run ≡ with_fault Statement own)
      → (own : Run) × IsRunOf finds answer form own × (other ≡ with_fault Statement own) → run ≡ other
  told form p q = p.2 ∙ ap (with_fault Statement) (IsRunOf-one finds one answer form p.0 q.0 p.1 q.1) ∙ sym q.2

  go : (form : Form) → IsFormRun finds answer form run → IsFormRun finds answer form other → run ≡ other
  go (Top top) p q = told (Top top) p q
  go (RunScript name evaluating) p q = told (RunScript name evaluating) p q
  go (RunGenerated number rows) p q = told (RunGenerated number rows) p q
  go (Threshold name) p q =
      ScriptRuns-one Statement (ScansRun finds answer)
      (λ commands a b p q. RunOf-one (DoesNext (DoesByScan finds answer)) (DoesNext-one (DoesByScan finds answer) (DoesByScan-one finds one answer)) (first_statement empty) commands a b p q)
      finds one name run other p q
  go (Feed words) p q = p.2 ∙ ap (with_fault (word_fault words.left words.right)) (one-run pairs_run finds one words p.0 q.0 p.1 q.1) ∙ sym q.2
  go (Certify words) p q = p.2 ∙ ap (with_fault (word_fault words.left words.right)) (one-run joined_cert_run finds one words p.0 q.0 p.1 q.1) ∙ sym q.2
  go (Check file) p q = p.2 ∙ ap (with_fault (word_fault file file)) (IsCheckRun-one finds one file p.0 q.0 p.1 q.1) ∙ sym q.2
  go (Views name) p q =
      ScriptRuns-one Statement (ViewsRun finds answer)
      (λ commands a b p q. RunOf-one (DoesNext (DoesByViews finds answer)) (DoesNext-one (DoesByViews finds answer) (DoesByViews-one finds one answer)) first_view_statement commands a b p q)
      finds one name run other p q

pub IsRun-one : (finds : Finds) → OneFile finds → (answer : Answering) (words : List (List ℕ)) (run other : WordsRun) → IsRun finds answer words run → IsRun finds answer words other → run ≡ other
IsRun-one finds one answer words run other = go (form_of words) where
  go : (form : Option Form) → OfForm finds answer form run → OfForm finds answer form other → run ≡ other
  go None p q = p ∙ sym q
  go (Some form) p q = IsFormRun-one finds one answer form run other p q
