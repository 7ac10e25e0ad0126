-- Statements that end well both ways put the same lines: the rows of their plans are the answers of their queries, and those of their cursors too.
use Rattle.std.proofs.Common.{ℕ, ℤ, zero, suc, ◌≡◌, ◌∙◌, ◌+◌, ◌-◌, ◌++◌, Bool, true, false, List, [], ◌∷◌, length, take, drop, map, min, append-nil, append_assoc, refl, sym, ap, subst, arith}
use Rattle.std.specs.Prelude.{Option, Some, None, Result, Ok, Err, nat_le, option_map, slice_get}
use Rattle.std.specs.List.{AllByRecursion}
use Rattle.std.proofs.Math.Seq.{take-nil}
use Rattle.std.proofs.lemmas.Bool.{leb-false, leb-true}
use Rattle.std.proofs.lemmas.List.{length-map, take_all}
use Rattle.rs_rank.specs.declared.answer.Answer.{Answer}
use Rattle.rs_expr.specs.InOrder.{Inquiry, calls_of}
use Rattle.rs_expr.specs.Scoring.{Answering}
use Rattle.rs_value.specs.Results.{◌>>=◌}
use Rattle.rs_lex.specs.declared.token.Span.{Span}
use Rattle.rs_catalog.specs.Catalog.{CatalogDef, empty}
use Rattle.rs_catalog.specs.IndexesHold.{IndexesHold}
use Rattle.rs_catalog.specs.Snapshot.{sizes_in, snapshot}
use Rattle.rs_catalog.proofs.SnapshotFacts.{HaveRows-all, snapshot-all}
use Rattle.rs_exec.specs.Covering.{Covers}
use Rattle.rs_syntax.specs.Syntax.{Command, CreateTable, CreatePredicate, CreateRankIndex, Ask, Declare, Fetch, Close, Explain, ExplainAnalyze, Insert}
use Rattle.rs_syntax.specs.Syntax as syntax
use Rattle.rs_syntax.specs.declared.name.Name.{Name}
use Rattle.rs_syntax.specs.Written.{AreWritten, IsWritten, IsWrittenQuery}
use Rattle.rs_bind.specs.Queries.{bound_query, count_of}
use Rattle.rs_typing.specs.declared.fault.BindFault.{BindFault}
use Rattle.rs_query.specs.Answers.{answer_of, cut, limit_of}
use Rattle.rs_query.specs.Questions.{first_of, is_bad}
use Rattle.rs_query.specs.Views.{all_rows}
use Rattle.rs_query.specs.WellFormed.{IsQuery}
use Rattle.rs_query.specs.declared.query.Query.{Query}
use Rattle.rs_plain.specs.Plain.{evaluation_of, plain_faults, questions_of}
use Rattle.rs_plain.specs.declared.fault.PlainFault.{PlainFault}
use Rattle.rs_plan.specs.Lists as plan
use Rattle.rs_plan.specs.Lists.{list_of_plan}
use Rattle.rs_plan.specs.Plans.{IsPlan}
use Rattle.rs_plan.specs.Trees.{PlanTree}
use Rattle.rs_exec.specs.Asking.{world_of}
use Rattle.rs_exec.specs.Cursors.{HasFewTerms, answer_for, answers_of, next_answer}
use Rattle.rs_exec.specs.declared.fault.ExecFault.{ExecFault}
use Rattle.rs_statement.specs.declared.sampling.Sampling.{Sampling}
use Rattle.rs_statement.specs.declared.evaluating.Evaluating.{Evaluating}
use Rattle.rs_statement.specs.declared.evaluating.Evaluating.TheVariants.{Planned, Plainly}
use Rattle.rs_statement.specs.declared.fault.Fault.{Fault}
use Rattle.rs_statement.specs.Lines.{ComeFirst, rank_lines}
use Rattle.rs_statement.specs.Planned.{ask_count, ask_outcome, ask_step, asks_from, cards_for, given_lines, next_asks, plan_for, planned_step}
use Rattle.rs_events.specs.Events.{Event, Put, calls_in, puts}
use Rattle.rs_outside.specs.Files.{Finds}
use Rattle.rs_statement.specs.Steps.{Run, Step}
use Rattle.rs_events.specs.Run.{behind}
use Rattle.rs_statement.specs.Sampled.{sample_inquiry, sample_step}
use Rattle.rs_events.specs.Sequence.{RunOf, RunsOn, still, then_step}
use Rattle.rs_statement.specs.Statements.{Does, IsNoExplain, answer_lines, evaluation_step, or_bind_fault, query_outcome, query_step, refused_or, select_step}
use Rattle.rs_statement.specs.Session.{ByPlan, DoesInSession, OpenCursor, Ready, State, StatementsRun, asked_more, beside_cursors, close_outcome, cursor_named, declare_step, fetch_step, fetched_from, fetched_step, next_lines, next_rows, opened_step, ready_outcome, room_for_cursor, with_asks, with_cursor, without_cursor}
use Rattle.rs_statement.proofs.HeldSteps.{Ok-then, held-step, kept-step}
use Rattle.rs_statement.proofs.OneStep.{Does-one}
use Rattle.rs_events.proofs.OneRun.{OneFile}
use Rattle.rs_statement.proofs.PlanSteps.{outcome-value, row-given}
use Rattle.rs_events.proofs.RanFacts.{puts-append, puts-scores}
use Rattle.rs_statement.proofs.SameFetches.{same-lines, Agree, AgreeAll, AskTheSame, agree-fetched, all-closed, all-fetched, all-opened, all-with_index, all-with_predicate, all-with_rows, all-with_table, covers-unfiltered, found-agree, lines-fetched, others-free, without}
use Rattle.rs_statement.proofs.UnfilteredFacts.{few-terms, least-plan, unfiltered, unfiltered-formed}

-- lines alone
puts-lines : (lines : List (List ℕ)) → puts (map Put lines) ≡ lines
puts-lines [] = refl
puts-lines (line ∷ rest) = ap (λ more. line ∷ more) (puts-lines rest)

-- what a step puts that makes the calls of an inquiry first
puts-inquiry : {A F : Type 0} (inquiry : Inquiry A F) (lines : List (List ℕ)) → puts (calls_in inquiry ++ map Put lines) ≡ lines
puts-inquiry inquiry lines =
    puts-append (calls_in inquiry) (map Put lines) ∙ ap (λ none. none ++ puts (map Put lines)) (puts-scores (calls_of inquiry.requests)) ∙ puts-lines lines

slice_get-map : {A B : Type 0} (f : A → B) (xs : List A) (n : ℕ) → option_map f (slice_get xs n) ≡ slice_get (map f xs) n
slice_get-map f [] n = refl
slice_get-map f (x ∷ xs) zero = refl
slice_get-map f (x ∷ xs) (suc n) = slice_get-map f xs n

-- the line of the row at a place, and those behind it
lines-next : (rank n count : ℕ) (rows : List Answer)
    → given_lines rank (Ok (slice_get rows n)) ++ rank_lines (rank + 1) (take count (drop (suc n) rows)) ≡ rank_lines rank (take (suc count) (drop n rows))
lines-next rank zero count [] = ap (rank_lines (rank + 1)) (take-nil count)
lines-next rank (suc n) count [] = ap (rank_lines (rank + 1)) (take-nil count)
lines-next rank zero count (row ∷ rows) = refl
lines-next rank (suc n) count (row ∷ rows) = lines-next rank n count rows

-- as many rows as there are asks are those up to LIMIT
take-asks : (limit : Option ℕ) (rows : List Answer) → take (ask_count limit (length rows)) rows ≡ cut limit rows
take-asks None rows = take_all (suc (length rows)) rows (omega arith)
take-asks (Some limit) rows = go (nat_le limit (suc (length rows))) refl where
  go : (b : Bool) → nat_le limit (suc (length rows)) ≡ b → take (min limit (suc (length rows))) rows ≡ take limit rows
  go true less =
      let within = leb-true limit (suc (length rows)) less in
      ap (λ n. take n rows) (let same : min limit (suc (length rows)) ≡ limit = omega arith in same)
  go false more =
      let beyond = leb-false limit (suc (length rows)) more in
      take_all (min limit (suc (length rows))) rows (omega arith) ∙ sym (take_all limit rows (omega arith))

module _ (w : plan.World) (tree : PlanTree) where
  abbrev rows : List Answer
  rows = answers_of w tree

  -- an ask that went well gave the row at its place, and left the catalogue
  puts-ask : (n : ℕ) (state : CatalogDef) → (ask_step w tree n).outcome ≡ Ok state → puts (ask_step w tree n).events ≡ given_lines (suc n) (Ok (slice_get rows n))
  puts-ask n state ends = puts-inquiry (next_answer w tree n) (given_lines (suc n) (next_answer w tree n).outcome) ∙ go (next_answer w tree n).outcome refl ends where
    go : (outcome : Result (Option Answer) ExecFault) → (next_answer w tree n).outcome ≡ outcome → ask_outcome w.catalogue outcome ≡ Ok state
        → given_lines (suc n) (next_answer w tree n).outcome ≡ given_lines (suc n) (Ok (slice_get rows n))
    go (Ok given) is e = ap (given_lines (suc n)) (is ∙ ap Ok (sym (row-given w tree n given is) ∙ slice_get-map (answer_for w) (list_of_plan w tree) n))
    go (Err fault) is e = absurd cc

  -- asks that went well put the lines of their rows
  puts-asks : (n count : ℕ) (next : CatalogDef) → (asks_from w tree n count).outcome ≡ Ok next
      → (puts (asks_from w tree n count).events ≡ rank_lines (suc n) (take count (drop n rows))) × (next ≡ w.catalogue)
  puts-asks n zero next ends = (refl, let same : next ≡ w.catalogue = cc in same)
  puts-asks n (suc count) next ends = go (puts-asks (suc n) count next) (ask_step w tree n).outcome refl ends where
    go : ((asks_from w tree (suc n) count).outcome ≡ Ok next
        → (puts (asks_from w tree (suc n) count).events ≡ rank_lines (suc (suc n)) (take count (drop (suc n) rows))) × (next ≡ w.catalogue))
        → (outcome : Result CatalogDef Fault) → (ask_step w tree n).outcome ≡ outcome
        → (then_step (record (ask_step w tree n) { outcome = outcome }) (asks_from w tree (suc n) count)).outcome ≡ Ok next
        → (puts (then_step (record (ask_step w tree n) { outcome = outcome }) (asks_from w tree (suc n) count)).events ≡ rank_lines (suc n) (take (suc count) (drop n rows))) × (next ≡ w.catalogue)
    go later (Ok state) is e =
        let more = later e in (
          puts-append (ask_step w tree n).events (asks_from w tree (suc n) count).events
              ∙ ap (λ lines. lines ++ puts (asks_from w tree (suc n) count).events) (puts-ask n state is)
              ∙ ap (λ lines. given_lines (suc n) (Ok (slice_get rows n)) ++ lines) more.0
              ∙ ap (λ rank. given_lines (suc n) (Ok (slice_get rows n)) ++ rank_lines rank (take count (drop (suc n) rows))) (let same : suc (suc n) ≡ suc n + 1 = omega arith in same)
              ∙ lines-next (suc n) n count rows,
          more.1,
        )
    go later (Err fault) is e = absurd cc

  -- so a plan that was asked to its end puts its rows up to LIMIT
  puts-planned : (next : CatalogDef) → (planned_step w tree).outcome ≡ Ok next → (puts (planned_step w tree).events ≡ rank_lines 1 (cut (limit_of w.query) rows)) × (next ≡ w.catalogue)
  puts-planned next ends =
      let all = puts-asks 0 (ask_count (limit_of w.query) (length (list_of_plan w tree))) next ends in (
        all.0 ∙ ap (λ size. rank_lines 1 (take (ask_count (limit_of w.query) size) rows)) (sym (length-map (list_of_plan w tree) (answer_for w)))
            ∙ ap (rank_lines 1) (take-asks (limit_of w.query) rows),
        all.1,
      )

  -- an ask that came to a fault put nothing
  puts-no_row : (n : ℕ) (fault : Fault) → (ask_step w tree n).outcome ≡ Err fault → puts (ask_step w tree n).events ≡ []
  puts-no_row n fault ends = puts-inquiry (next_answer w tree n) (given_lines (suc n) (next_answer w tree n).outcome) ∙ go (next_answer w tree n).outcome ends where
    go : (outcome : Result (Option Answer) ExecFault) → ask_outcome w.catalogue outcome ≡ Err fault → given_lines (suc n) outcome ≡ []
    go (Ok given) e = absurd cc
    go (Err why) e = refl

  -- whatever ends them, asks put the first of their lines
  first-asks : (n count : ℕ) → ComeFirst (puts (asks_from w tree n count).events) (rank_lines (suc n) (take count (drop n rows)))
  first-asks n zero = record { rest = []; split = refl }
  first-asks n (suc count) = go (first-asks (suc n) count) (ask_step w tree n).outcome refl where
    go : ComeFirst (puts (asks_from w tree (suc n) count).events) (rank_lines (suc (suc n)) (take count (drop (suc n) rows)))
        → (outcome : Result CatalogDef Fault) → (ask_step w tree n).outcome ≡ outcome
        → ComeFirst (puts (then_step (record (ask_step w tree n) { outcome = outcome }) (asks_from w tree (suc n) count)).events) (rank_lines (suc n) (take (suc count) (drop n rows)))
    go later (Ok state) is = record {
      rest = later.rest;
      split = sym (lines-next (suc n) n count rows)
          ∙ ap (λ rank. given_lines (suc n) (Ok (slice_get rows n)) ++ rank_lines rank (take count (drop (suc n) rows))) (let same : suc n + 1 ≡ suc (suc n) = omega arith in same)
          ∙ ap (λ lines. given_lines (suc n) (Ok (slice_get rows n)) ++ lines) later.split
          ∙ sym (append_assoc (given_lines (suc n) (Ok (slice_get rows n))) (puts (asks_from w tree (suc n) count).events) later.rest)
          ∙ ap (λ lines. lines ++ later.rest) (sym (puts-append (ask_step w tree n).events (asks_from w tree (suc n) count).events
          ∙ ap (λ lines. lines ++ puts (asks_from w tree (suc n) count).events) (puts-ask n state is)));
    }
    go later (Err fault) is = record {
      rest = rank_lines (suc n) (take (suc count) (drop n rows));
      split = ap (λ lines. lines ++ rank_lines (suc n) (take (suc count) (drop n rows))) (sym (puts-no_row n fault is));
    }

  -- the asks of a FETCH are those of the next rows up to LIMIT
  lines-asked : (n wanted : ℕ) → rank_lines (suc n) (take (next_asks w tree n wanted) (drop n rows)) ≡ next_lines (cut (limit_of w.query) rows) n wanted
  lines-asked n wanted =
      ap (λ size. rank_lines (suc n) (take (min wanted (ask_count (limit_of w.query) size - n)) (drop n rows))) (sym (length-map (list_of_plan w tree) (answer_for w)))
      ∙ sym (same-lines (limit_of w.query) rows n wanted)

  first-planned : ComeFirst (puts (planned_step w tree).events) (rank_lines 1 (cut (limit_of w.query) rows))
  first-planned = subst (ComeFirst (puts (planned_step w tree).events))
      (ap (λ size. rank_lines 1 (take (ask_count (limit_of w.query) size) rows)) (sym (length-map (list_of_plan w tree) (answer_for w))) ∙ ap (rank_lines 1) (take-asks (limit_of w.query) rows))
      (first-asks 0 (ask_count (limit_of w.query) (length (list_of_plan w tree))))

-- the rows of a plan up to LIMIT are the answer of its query
abbrev pub GiveAnswers : Type 0
GiveAnswers = (w : plan.World) (tree : PlanTree) → HasFewTerms w.query → IsPlan w.catalogue w.query tree
    → cut (limit_of w.query) (answers_of w tree) ≡ answer_of w.answer w.catalogue w.query w.view

-- what changes the state alone puts nothing
puts-then_still : (events : List Event) (outcome : Result CatalogDef Fault) (state : State)
    → puts (then_step (record { events = events; outcome = outcome }) (still (Ok state))).events ≡ puts events
puts-then_still events (Ok next) state = ap puts (append-nil events)
puts-then_still events (Err fault) state = refl

-- a sample puts nothing
puts-behind : {S : Type 0} (sampling : Sampling) (catalogue : CatalogDef) (query : Query) (rest : Step S) → puts (then_step (sample_step catalogue sampling query) rest).events ≡ puts rest.events
puts-behind sampling catalogue query rest =
    puts-append (sample_step catalogue sampling query).events rest.events ∙ ap (λ lines. lines ++ puts rest.events) (puts-inquiry (sample_inquiry catalogue sampling query) [])

module _ (answer : Answering) where
  -- a query that was answered plainly
  puts-plainly : (catalogue : CatalogDef) (query : Query) (next : CatalogDef) → (evaluation_step catalogue (evaluation_of answer catalogue query (all_rows catalogue query))).outcome ≡ Ok next
      → (puts (evaluation_step catalogue (evaluation_of answer catalogue query (all_rows catalogue query))).events ≡ rank_lines 1 (answer_of answer catalogue query (all_rows catalogue query)))
      × (next ≡ catalogue)
  puts-plainly catalogue query next ends =
      let evaluated = evaluation_of answer catalogue query (all_rows catalogue query) in
      let all = go evaluated.outcome refl ends in
      (puts-inquiry evaluated (answer_lines evaluated.outcome) ∙ all.0, all.1) where
        go : (outcome : Result (List Answer) PlainFault) → (evaluation_of answer catalogue query (all_rows catalogue query)).outcome ≡ outcome → query_outcome catalogue outcome ≡ Ok next
            → (answer_lines (evaluation_of answer catalogue query (all_rows catalogue query)).outcome ≡ rank_lines 1 (answer_of answer catalogue query (all_rows catalogue query))) × (next ≡ catalogue)
        go (Ok rows) is e = (
          ap answer_lines (is ∙ ap Ok (sym (outcome-value plain_faults answer catalogue (answer_of answer catalogue query (all_rows catalogue query)) rows
              (first_of (is_bad answer catalogue) (questions_of catalogue query (all_rows catalogue query))) is))),
          let same : next ≡ catalogue = cc in same,
        )
        go (Err fault) is e = absurd cc

module _ (give : GiveAnswers) (answer : Answering) where
  -- what a query puts by its plan comes first among the lines of its answer, whatever ends it
  pub first-query : (sampling : Sampling) (catalogue : CatalogDef) (query : syntax.Query) (bound : Query) → IsWrittenQuery query → bound_query catalogue query ≡ Ok bound
      → ComeFirst (puts (query_step (Planned sampling) answer catalogue bound).events) (rank_lines 1 (answer_of answer catalogue bound (all_rows catalogue bound)))
  first-query sampling catalogue query bound written is =
      let formed = unfiltered-formed catalogue query bound written is in
      let w = world_of catalogue answer bound in
      let tree = plan_for answer catalogue sampling bound in
      let plans = least-plan catalogue bound (cards_for answer catalogue sampling bound) formed in
      subst (λ lines. ComeFirst lines (rank_lines 1 (answer_of answer catalogue bound (all_rows catalogue bound)))) (sym (puts-behind sampling catalogue bound (planned_step w tree)))
      (subst (λ answers. ComeFirst (puts (planned_step w tree).events) (rank_lines 1 answers)) (give w tree (few-terms catalogue bound formed) plans) (first-planned w tree))

  -- where a query ends well, it puts all lines of its answer
  pub all-query : (evaluating : Evaluating) (catalogue next : CatalogDef) (query : syntax.Query) (bound : Query) → IsWrittenQuery query → bound_query catalogue query ≡ Ok bound
      → (query_step evaluating answer catalogue bound).outcome ≡ Ok next
      → puts (query_step evaluating answer catalogue bound).events ≡ rank_lines 1 (answer_of answer catalogue bound (all_rows catalogue bound))
  all-query Plainly catalogue next query bound written is ends = (puts-plainly answer catalogue bound next ends).0
  all-query (Planned sampling) catalogue next query bound written is ends =
      let formed = unfiltered-formed catalogue query bound written is in
      let w = world_of catalogue answer bound in
      let tree = plan_for answer catalogue sampling bound in
      let plans = least-plan catalogue bound (cards_for answer catalogue sampling bound) formed in
      puts-behind sampling catalogue bound (planned_step w tree) ∙ (puts-planned w tree next ends).0 ∙ ap (rank_lines 1) (give w tree (few-terms catalogue bound formed) plans)

  -- a FETCH of a cursor by a plan
  module _ (state : State) (query : Query) (tree : PlanTree) (sizes : List ℕ) (name : List ℕ) (asked wanted : ℕ) (few : HasFewTerms query) (plans : IsPlan (snapshot sizes state.catalogue) query tree) where
    abbrev seen_world : plan.World
    seen_world = world_of (snapshot sizes state.catalogue) answer query

    abbrev fetch_asks : ℕ
    fetch_asks = next_asks seen_world tree asked wanted

    abbrev fetch_asked : Step CatalogDef
    fetch_asked = asks_from seen_world tree asked fetch_asks

    abbrev wanted_lines : List (List ℕ)
    wanted_lines = next_lines (answer_of answer (snapshot sizes state.catalogue) query (all_rows (snapshot sizes state.catalogue) query)) asked wanted

    lines-are : rank_lines (suc asked) (take fetch_asks (drop asked (answers_of seen_world tree))) ≡ wanted_lines
    lines-are = lines-asked seen_world tree asked wanted ∙ ap (λ rows. next_lines rows asked wanted) (give seen_world tree few plans)

    -- what it puts comes first among the lines of the next rows of the answer
    first-fetch : ComeFirst (puts (fetched_from answer state name asked wanted (ByPlan query tree sizes)).events) wanted_lines
    first-fetch = subst (λ put. ComeFirst put wanted_lines) (sym (puts-then_still fetch_asked.events fetch_asked.outcome (with_asks name fetch_asks state)))
        (subst (ComeFirst (puts fetch_asked.events)) lines-are (first-asks seen_world tree asked fetch_asks))

    -- and where it ends well it is all of them
    all-fetch : (after : State) → (fetched_from answer state name asked wanted (ByPlan query tree sizes)).outcome ≡ Ok after
        → puts (fetched_from answer state name asked wanted (ByPlan query tree sizes)).events ≡ wanted_lines
    all-fetch after ends = puts-then_still fetch_asked.events fetch_asked.outcome (with_asks name fetch_asks state) ∙ go fetch_asked.outcome refl ends ∙ lines-are where
      go : (outcome : Result CatalogDef Fault) → fetch_asked.outcome ≡ outcome
          → (then_step (record fetch_asked { outcome = outcome }) (still (Ok (with_asks name fetch_asks state)))).outcome ≡ Ok after
          → puts fetch_asked.events ≡ rank_lines (suc asked) (take fetch_asks (drop asked (answers_of seen_world tree)))
      go (Ok next) is e = (puts-asks seen_world tree asked fetch_asks next is).0
      go (Err fault) is e = absurd cc

-- and what a FETCH of a cursor puts whose plan is the chosen one
module _ (give : GiveAnswers) (answer : Answering) (sampling : Sampling) (state : State) (sizes : List ℕ) (query : syntax.Query) (bound : Query) (name : List ℕ) (asked wanted : ℕ)
    (written : IsWrittenQuery query) (is : bound_query (snapshot sizes state.catalogue) query ≡ Ok bound) where
  abbrev seen : CatalogDef
  seen = snapshot sizes state.catalogue

  abbrev chosen : PlanTree
  chosen = plan_for answer seen sampling bound

  formed : IsQuery seen (unfiltered bound)
  formed = unfiltered-formed seen query bound written is

  pub first-fetched : ComeFirst (puts (fetched_from answer state name asked wanted (ByPlan bound chosen sizes)).events) (next_lines (answer_of answer seen bound (all_rows seen bound)) asked wanted)
  first-fetched = first-fetch give answer state bound chosen sizes name asked wanted (few-terms seen bound formed) (least-plan seen bound (cards_for answer seen sampling bound) formed)

  pub all-fetched_lines : (after : State) → (fetched_from answer state name asked wanted (ByPlan bound chosen sizes)).outcome ≡ Ok after
      → puts (fetched_from answer state name asked wanted (ByPlan bound chosen sizes)).events ≡ next_lines (answer_of answer seen bound (all_rows seen bound)) asked wanted
  all-fetched_lines = all-fetch give answer state bound chosen sizes name asked wanted (few-terms seen bound formed) (least-plan seen bound (cards_for answer seen sampling bound) formed)

-- what the first of some events put comes first where what all of them put does
pub first-of_part : (events done rest : List Event) (lines : List (List ℕ)) → events ≡ done ++ rest → ComeFirst (puts events) lines → ComeFirst (puts done) lines
first-of_part events done rest lines split all = record {
  rest = puts rest ++ all.rest;
  split = all.split ∙ ap (λ put. put ++ all.rest) (ap puts split ∙ puts-append done rest) ∙ append_assoc (puts done) (puts rest) all.rest;
}

-- what two steps have in common that went well
record Alike (a b : Step CatalogDef) (left right : CatalogDef) : Type 0 where
  lines : puts a.events ≡ puts b.events
  states : left ≡ right

alike-same : (a b : Step CatalogDef) (left right : CatalogDef) → a ≡ b → a.outcome ≡ Ok left → b.outcome ≡ Ok right → Alike a b left right
alike-same a b left right same la lb = record {
  lines = ap (λ (s : Step CatalogDef). puts s.events) same;
  states = (let outcome = ap (λ (s : Step CatalogDef). s.outcome) same in let e : left ≡ right = cc in e);
}

module _ (give : GiveAnswers) (same : AskTheSame) (finds : Finds) (one : OneFile finds) (answer : Answering) (sampling : Sampling) where
  -- a bound query
  alike-bound : (catalogue : CatalogDef) (query : syntax.Query) (bound : Query) (left right : CatalogDef) → IsWrittenQuery query → bound_query catalogue query ≡ Ok bound
      → (query_step Plainly answer catalogue bound).outcome ≡ Ok left → (query_step (Planned sampling) answer catalogue bound).outcome ≡ Ok right
      → Alike (query_step Plainly answer catalogue bound) (query_step (Planned sampling) answer catalogue bound) left right
  alike-bound catalogue query bound left right written is la lb =
      let formed = unfiltered-formed catalogue query bound written is in
      let plainly = puts-plainly answer catalogue bound left la in
      let w = world_of catalogue answer bound in
      let tree = plan_for answer catalogue sampling bound in
      let planned = puts-planned w tree right lb in
      let plans = least-plan catalogue bound (cards_for answer catalogue sampling bound) formed in
      record {
        lines = plainly.0 ∙ sym (ap (rank_lines 1) (give w tree (few-terms catalogue bound formed) plans)) ∙ sym planned.0 ∙ sym (puts-behind sampling catalogue bound (planned_step w tree));
        states = plainly.1 ∙ sym planned.1;
      }

  alike-select : (catalogue : CatalogDef) (query : syntax.Query) (left right : CatalogDef) → IsWrittenQuery query
      → (select_step Plainly answer catalogue query).outcome ≡ Ok left → (select_step (Planned sampling) answer catalogue query).outcome ≡ Ok right
      → Alike (select_step Plainly answer catalogue query) (select_step (Planned sampling) answer catalogue query) left right
  alike-select catalogue query left right written la lb = go (bound_query catalogue query) refl la lb where
    go : (bound : Result Query BindFault) → bound_query catalogue query ≡ bound
        → (refused_or (query_step Plainly answer catalogue) (or_bind_fault bound)).outcome ≡ Ok left
        → (refused_or (query_step (Planned sampling) answer catalogue) (or_bind_fault bound)).outcome ≡ Ok right
        → Alike (refused_or (query_step Plainly answer catalogue) (or_bind_fault bound)) (refused_or (query_step (Planned sampling) answer catalogue) (or_bind_fault bound)) left right
    go (Ok bound) is la lb = alike-bound catalogue query bound left right written is la lb
    go (Err why) is la lb = absurd cc

  alike-step : (catalogue : CatalogDef) (command : Command) (a b : Step CatalogDef) (left right : CatalogDef) → IsWritten command → IsNoExplain command
      → Does finds answer Plainly catalogue command a → Does finds answer (Planned sampling) catalogue command b → a.outcome ≡ Ok left → b.outcome ≡ Ok right
      → Alike a b left right
  alike-step catalogue (CreateTable name columns file) a b left right written of da db la lb =
      alike-same a b left right (Does-one finds one answer Plainly catalogue (CreateTable name columns file) a b da db) la lb
  alike-step catalogue (CreatePredicate name params max cost formula) a b left right written of da db la lb = alike-same a b left right (da ∙ sym db) la lb
  alike-step catalogue (CreateRankIndex name table predicate args at) a b left right written of da db la lb = alike-same a b left right (da ∙ sym db) la lb
  alike-step catalogue (Ask query) a b left right written of da db la lb =
      subst (λ a. Alike a b left right) (sym da) (subst (λ b. Alike (select_step Plainly answer catalogue query) b left right) (sym db)
      (alike-select catalogue query left right written (sym (ap (λ (s : Step CatalogDef). s.outcome) da) ∙ la) (sym (ap (λ (s : Step CatalogDef). s.outcome) db) ∙ lb)))
  alike-step catalogue (Declare name query) a b left right written of da db la lb = absurd da
  alike-step catalogue (Fetch count name) a b left right written of da db la lb = absurd da
  alike-step catalogue (Close name) a b left right written of da db la lb = absurd da
  alike-step catalogue (Explain query) a b left right written of da db la lb = absurd of
  alike-step catalogue (ExplainAnalyze query) a b left right written of da db la lb = absurd of
  alike-step catalogue (Insert table rows) a b left right written of da db la lb = alike-same a b left right (da ∙ sym db) la lb

  -- what two steps of a session have in common that went well: what they put, and what they leave, but for cursors that agree
  record AlikeStates (a b : Step State) (left right : State) : Type 0 where
    lines : puts a.events ≡ puts b.events
    next : CatalogDef
    ps : List OpenCursor
    qs : List OpenCursor
    left_is : left ≡ record { catalogue = next; cursors = ps }
    right_is : right ≡ record { catalogue = next; cursors = qs }
    agree : AgreeAll answer next ps qs
    held : IndexesHold answer next

  module _ (catalogue : CatalogDef) (ps qs : List OpenCursor) (all : AgreeAll answer catalogue ps qs) (held : IndexesHold answer catalogue) (left right : State) where
    abbrev plain_state : State
    plain_state = record { catalogue = catalogue; cursors = ps }

    abbrev planned_state : State
    planned_state = record { catalogue = catalogue; cursors = qs }

    -- a statement that concerns no cursor
    beside-alike : (command : Command) (a b : Step State) → IsWritten command → IsNoExplain command → (x y : Step CatalogDef)
        → Does finds answer Plainly catalogue command x → Does finds answer (Planned sampling) catalogue command y
        → a ≡ beside_cursors ps x → b ≡ beside_cursors qs y → a.outcome ≡ Ok left → b.outcome ≡ Ok right → AlikeStates a b left right
    beside-alike command a b written of x y dx dy is also la lb =
        let plainly_with : CatalogDef → State = λ catalogue. record { catalogue = catalogue; cursors = ps } in
        let planned_with : CatalogDef → State = λ catalogue. record { catalogue = catalogue; cursors = qs } in
        let first = Ok-then x.outcome (λ catalogue. Ok (plainly_with catalogue)) left (sym (ap (λ (s : Step State). s.outcome) is) ∙ la) in
        let second = Ok-then y.outcome (λ catalogue. Ok (planned_with catalogue)) right (sym (ap (λ (s : Step State). s.outcome) also) ∙ lb) in
        let alike = alike-step catalogue command x y first.0 second.0 written of dx dy first.1 second.1 in
        let left_is : plainly_with first.0 ≡ left = (let e = first.2 in cc) in
        let right_is : planned_with second.0 ≡ right = (let e = second.2 in cc) in record {
          lines = ap (λ (s : Step State). puts s.events) is ∙ alike.lines ∙ sym (ap (λ (s : Step State). puts s.events) also);
          next = first.0;
          ps = ps;
          qs = qs;
          left_is = sym left_is;
          right_is = sym right_is ∙ ap planned_with (sym alike.states);
          agree = kept-step answer catalogue (λ c. AgreeAll answer c ps qs) all (all-with_table answer catalogue same ps qs all) (all-with_predicate answer catalogue same ps qs all)
              (λ def ranking fits made. all-with_index answer catalogue same ps qs all def ranking)
              (λ table joining made join gives. all-with_rows answer catalogue same ps qs all table joining made held gives) finds Plainly command x first.0 written dx first.1;
          held = held-step answer catalogue finds Plainly command x first.0 held written dx first.1;
        }

    -- a cursor that was opened both ways
    opened-alike : (name : Name) (query : syntax.Query) (bound : Query) → IsWrittenQuery query → bound_query catalogue query ≡ Ok bound
        → room_for_cursor name.text ps ≡ Ok tt → room_for_cursor name.text qs ≡ Ok tt
        → (opened_step Plainly answer name.text plain_state bound).outcome ≡ Ok left → (opened_step (Planned sampling) answer name.text planned_state bound).outcome ≡ Ok right
        → AlikeStates (opened_step Plainly answer name.text plain_state bound) (opened_step (Planned sampling) answer name.text planned_state bound) left right
    opened-alike name query bound written is free also la lb = go (evaluation_of answer catalogue bound (all_rows catalogue bound)).outcome refl la where
      go : (outcome : Result (List Answer) PlainFault) → (evaluation_of answer catalogue bound (all_rows catalogue bound)).outcome ≡ outcome → ready_outcome name.text plain_state outcome ≡ Ok left
          → AlikeStates (opened_step Plainly answer name.text plain_state bound) (opened_step (Planned sampling) answer name.text planned_state bound) left right
      go (Ok rows) given e =
          let formed = unfiltered-formed catalogue query bound written is in
          let plans = least-plan catalogue bound (cards_for answer catalogue sampling bound) formed in
          let tree = plan_for answer catalogue sampling bound in
          let rows_are : answer_of answer catalogue bound (all_rows catalogue bound) ≡ rows =
          outcome-value plain_faults answer catalogue (answer_of answer catalogue bound (all_rows catalogue bound)) rows (first_of (is_bad answer catalogue) (questions_of catalogue bound (all_rows catalogue bound))) given in
          let p : OpenCursor = record { name = name.text; source = Ready rows; asked = 0 } in
          let sizes = sizes_in catalogue in
          let whole = snapshot-all answer catalogue held in
          let q : OpenCursor = record { name = name.text; source = ByPlan bound tree sizes; asked = 0 } in
          let plain_left : with_cursor name.text (Ready rows) plain_state ≡ left = cc in
          let planned_left : with_cursor name.text (ByPlan bound tree sizes) planned_state ≡ right = (let own = lb in cc) in record {
            lines = puts-inquiry (evaluation_of answer catalogue bound (all_rows catalogue bound)) [] ∙ sym (puts-behind sampling catalogue bound (still (Ok (with_cursor name.text (ByPlan bound tree sizes) planned_state))));
            next = catalogue;
            ps = ps ++ p ∷ [];
            qs = qs ++ q ∷ [];
            left_is = sym plain_left;
            right_is = sym planned_left;
            agree = all-opened answer catalogue ps qs p q all (record {
              name = refl;
              query = bound;
              tree = tree;
              sizes = sizes;
              rows = rows;
              ready = refl;
              by_plan = refl;
              have = HaveRows-all catalogue.tables;
              covered = subst (λ (seen : CatalogDef). Covers seen bound) (sym whole) (covers-unfiltered catalogue bound formed);
              same = subst (λ (seen : CatalogDef). rows ≡ cut (limit_of bound) (answers_of (world_of seen answer bound) tree)) (sym whole)
                  (sym rows_are ∙ sym (give (world_of catalogue answer bound) tree (few-terms catalogue bound formed) plans));
              given = (let none : 0 ≡ min 0 (length rows) = omega arith in none);
            }) (others-free name.text ps free) (others-free name.text qs also);
            held = held;
          }
      go (Err fault) given e = absurd cc

    declare-alike : (name : Name) (query : syntax.Query) → IsWrittenQuery query
        → (declare_step Plainly answer plain_state name query).outcome ≡ Ok left → (declare_step (Planned sampling) answer planned_state name query).outcome ≡ Ok right
        → AlikeStates (declare_step Plainly answer plain_state name query) (declare_step (Planned sampling) answer planned_state name query) left right
    declare-alike name query written = go (bound_query catalogue query) refl (room_for_cursor name.text ps) refl (room_for_cursor name.text qs) refl where
      go : (bound : Result Query BindFault) → bound_query catalogue query ≡ bound
          → (first : Result (Unit {0}) Fault) → room_for_cursor name.text ps ≡ first → (second : Result (Unit {0}) Fault) → room_for_cursor name.text qs ≡ second
          → (refused_or (opened_step Plainly answer name.text plain_state) (or_bind_fault bound >>= (λ b. first >>= (λ room. Ok b)))).outcome ≡ Ok left
          → (refused_or (opened_step (Planned sampling) answer name.text planned_state) (or_bind_fault bound >>= (λ b. second >>= (λ room. Ok b)))).outcome ≡ Ok right
          → AlikeStates (refused_or (opened_step Plainly answer name.text plain_state) (or_bind_fault bound >>= (λ b. first >>= (λ room. Ok b))))
          (refused_or (opened_step (Planned sampling) answer name.text planned_state) (or_bind_fault bound >>= (λ b. second >>= (λ room. Ok b)))) left right
      go (Err why) is first fp second fq la lb = absurd cc
      go (Ok bound) is (Err fault) fp second fq la lb = absurd cc
      go (Ok bound) is (Ok room) fp (Err fault) fq la lb = absurd cc
      go (Ok bound) is (Ok room) fp (Ok other) fq la lb = opened-alike name query bound written is fp fq la lb

    -- a FETCH of two cursors that agree
    module _ (name : List ℕ) (p q : OpenCursor) (wanted : ℕ) (np : cursor_named name ps ≡ Ok p) (nq : cursor_named name qs ≡ Ok q) (pair : Agree answer catalogue p q) where
      abbrev w : plan.World
      w = world_of (snapshot pair.sizes catalogue) answer pair.query

      abbrev asks : ℕ
      asks = next_asks w pair.tree q.asked wanted

      asks-are : asks ≡ min wanted (ask_count (limit_of pair.query) (length (answers_of w pair.tree)) - q.asked)
      asks-are = ap (λ size. min wanted (ask_count (limit_of pair.query) size - q.asked)) (sym (length-map (list_of_plan w pair.tree) (answer_for w)))

      asked-alike : with_asks p.name (next_rows pair.rows p.asked wanted) plain_state ≡ left → (outcome : Result CatalogDef Fault) → (asks_from w pair.tree q.asked asks).outcome ≡ outcome
          → (then_step (record (asks_from w pair.tree q.asked asks) { outcome = outcome }) (still (Ok (with_asks q.name asks planned_state)))).outcome ≡ Ok right
          → AlikeStates (fetched_from answer plain_state p.name p.asked wanted (Ready pair.rows))
          (then_step (record (asks_from w pair.tree q.asked asks) { outcome = outcome }) (still (Ok (with_asks q.name asks planned_state)))) left right
      asked-alike plain_left (Ok next) is e =
          let planned_left : with_asks q.name asks planned_state ≡ right = cc in
          let put = puts-asks w pair.tree q.asked asks next is in record {
            lines = puts-lines (rank_lines (suc p.asked) (take (next_rows pair.rows p.asked wanted) (drop p.asked pair.rows)))
                ∙ lines-fetched answer catalogue p q wanted pair asks asks-are ∙ sym put.0
                ∙ ap puts (sym (append-nil (asks_from w pair.tree q.asked asks).events));
            next = catalogue;
            ps = map (asked_more p.name (next_rows pair.rows p.asked wanted)) ps;
            qs = map (asked_more q.name asks) qs;
            left_is = sym plain_left;
            right_is = sym planned_left;
            agree = all-fetched answer catalogue name (next_rows pair.rows p.asked wanted) asks ps qs p q all np nq (agree-fetched answer catalogue p q wanted pair asks asks-are);
            held = held;
          }
      asked-alike plain_left (Err fault) is e = absurd cc

      fetched-alike : (fetched_from answer plain_state p.name p.asked wanted p.source).outcome ≡ Ok left → (fetched_from answer planned_state q.name q.asked wanted q.source).outcome ≡ Ok right
          → AlikeStates (fetched_from answer plain_state p.name p.asked wanted p.source) (fetched_from answer planned_state q.name q.asked wanted q.source) left right
      fetched-alike la lb =
          let plain_left : with_asks p.name (next_rows pair.rows p.asked wanted) plain_state ≡ left =
          (let own = subst (λ source. (fetched_from answer plain_state p.name p.asked wanted source).outcome ≡ Ok left) pair.ready la in cc) in
          subst (λ source. AlikeStates (fetched_from answer plain_state p.name p.asked wanted source) (fetched_from answer planned_state q.name q.asked wanted q.source) left right) (sym pair.ready)
          (subst (λ source. AlikeStates (fetched_from answer plain_state p.name p.asked wanted (Ready pair.rows)) (fetched_from answer planned_state q.name q.asked wanted source) left right) (sym pair.by_plan)
          (asked-alike plain_left (asks_from w pair.tree q.asked asks).outcome refl
          (subst (λ source. (fetched_from answer planned_state q.name q.asked wanted source).outcome ≡ Ok right) pair.by_plan lb)))

    fetch-alike : (count : ℤ × Span) (name : Name) → (fetch_step answer plain_state count name).outcome ≡ Ok left → (fetch_step answer planned_state count name).outcome ≡ Ok right
        → AlikeStates (fetch_step answer plain_state count name) (fetch_step answer planned_state count name) left right
    fetch-alike count name = go (or_bind_fault (count_of count)) (cursor_named name.text ps) refl (cursor_named name.text qs) refl where
      go : (wanted : Result ℕ Fault) (first : Result OpenCursor Fault) → cursor_named name.text ps ≡ first → (second : Result OpenCursor Fault) → cursor_named name.text qs ≡ second
          → (refused_or (fetched_step answer plain_state) (wanted >>= (λ wanted. first >>= (λ cursor. Ok (cursor, wanted))))).outcome ≡ Ok left
          → (refused_or (fetched_step answer planned_state) (wanted >>= (λ wanted. second >>= (λ cursor. Ok (cursor, wanted))))).outcome ≡ Ok right
          → AlikeStates (refused_or (fetched_step answer plain_state) (wanted >>= (λ wanted. first >>= (λ cursor. Ok (cursor, wanted)))))
          (refused_or (fetched_step answer planned_state) (wanted >>= (λ wanted. second >>= (λ cursor. Ok (cursor, wanted))))) left right
      go (Err fault) first fp second fq la lb = absurd cc
      go (Ok wanted) (Err fault) fp second fq la lb = absurd cc
      go (Ok wanted) (Ok p) fp (Err fault) fq la lb = absurd cc
      go (Ok wanted) (Ok p) fp (Ok q) fq la lb = fetched-alike name.text p q wanted fp fq (found-agree answer catalogue name.text ps qs p q all fp fq) la lb

    close-alike : (name : Name) → close_outcome plain_state name ≡ Ok left → close_outcome planned_state name ≡ Ok right
        → AlikeStates (still (close_outcome plain_state name)) (still (close_outcome planned_state name)) left right
    close-alike name la lb =
        let first = Ok-then (cursor_named name.text ps) (λ cursor. Ok (without_cursor name.text plain_state)) left la in
        let second = Ok-then (cursor_named name.text qs) (λ cursor. Ok (without_cursor name.text planned_state)) right lb in
        let plain_left : without_cursor name.text plain_state ≡ left = (let e = first.2 in cc) in
        let planned_left : without_cursor name.text planned_state ≡ right = (let e = second.2 in cc) in record {
          lines = refl;
          next = catalogue;
          ps = without name.text ps;
          qs = without name.text qs;
          left_is = sym plain_left;
          right_is = sym planned_left;
          agree = all-closed answer catalogue name.text ps qs all;
          held = held;
        }

    -- each statement
    alike-in_session : (command : Command) (a b : Step State) → IsWritten command → IsNoExplain command → DoesInSession finds answer Plainly plain_state command a
        → DoesInSession finds answer (Planned sampling) planned_state command b → a.outcome ≡ Ok left → b.outcome ≡ Ok right → AlikeStates a b left right
    alike-in_session (CreateTable name columns file) a b written of da db la lb = beside-alike (CreateTable name columns file) a b written of da.0 db.0 da.1 db.1 da.2 db.2 la lb
    alike-in_session (CreatePredicate name params max cost formula) a b written of da db la lb =
        beside-alike (CreatePredicate name params max cost formula) a b written of da.0 db.0 da.1 db.1 da.2 db.2 la lb
    alike-in_session (CreateRankIndex name table predicate args at) a b written of da db la lb =
        beside-alike (CreateRankIndex name table predicate args at) a b written of da.0 db.0 da.1 db.1 da.2 db.2 la lb
    alike-in_session (Ask query) a b written of da db la lb = beside-alike (Ask query) a b written of da.0 db.0 da.1 db.1 da.2 db.2 la lb
    alike-in_session (Declare name query) a b written of da db la lb =
        subst (λ a. AlikeStates a b left right) (sym da) (subst (λ b. AlikeStates (declare_step Plainly answer plain_state name query) b left right) (sym db)
        (declare-alike name query written (sym (ap (λ (s : Step State). s.outcome) da) ∙ la) (sym (ap (λ (s : Step State). s.outcome) db) ∙ lb)))
    alike-in_session (Fetch count name) a b written of da db la lb =
        subst (λ a. AlikeStates a b left right) (sym da) (subst (λ b. AlikeStates (fetch_step answer plain_state count name) b left right) (sym db)
        (fetch-alike count name (sym (ap (λ (s : Step State). s.outcome) da) ∙ la) (sym (ap (λ (s : Step State). s.outcome) db) ∙ lb)))
    alike-in_session (Close name) a b written of da db la lb =
        subst (λ a. AlikeStates a b left right) (sym da) (subst (λ b. AlikeStates (still (close_outcome plain_state name)) b left right) (sym db)
        (close-alike name (sym (ap (λ (s : Step State). s.outcome) da) ∙ la) (sym (ap (λ (s : Step State). s.outcome) db) ∙ lb)))
    alike-in_session (Explain query) a b written of da db la lb = absurd of
    alike-in_session (ExplainAnalyze query) a b written of da db la lb = absurd of
    alike-in_session (Insert table rows) a b written of da db la lb = beside-alike (Insert table rows) a b written of da.0 db.0 da.1 db.1 da.2 db.2 la lb

  -- a statement that was run, and those behind it
  record Behind (rest : State → Run → Type 0) (step : Step State) (run : Run) : Type 0 where
    left : State
    leaves : step.outcome ≡ Ok left
    more : Run
    is_more : rest left more
    is : run ≡ behind step.events more
    well : more.fault ≡ None

  behind-well : (rest : State → Run → Type 0) (step : Step State) (run : Run) → RunsOn rest step.events step.outcome run → run.fault ≡ None → Behind rest step run
  behind-well rest step run on well = go step.outcome refl on where
    go : (outcome : Result State Fault) → step.outcome ≡ outcome → RunsOn rest step.events outcome run → Behind rest step run
    go (Ok left) is on = record { left = left; leaves = is; more = on.0; is_more = on.1; is = on.2; well = sym (ap (λ (r : Run). r.fault) on.2) ∙ well }
    go (Err fault) is on = absurd (let ended = ap (λ (r : Run). r.fault) on in cc)

  alike-runs : (catalogue : CatalogDef) (ps qs : List OpenCursor) (commands : List Command) (a b : Run) → AgreeAll answer catalogue ps qs → IndexesHold answer catalogue → AreWritten commands → AllByRecursion IsNoExplain commands
      → RunOf (DoesInSession finds answer Plainly) (record { catalogue = catalogue; cursors = ps }) commands a
      → RunOf (DoesInSession finds answer (Planned sampling)) (record { catalogue = catalogue; cursors = qs }) commands b → a.fault ≡ None → b.fault ≡ None → puts a.events ≡ puts b.events
  alike-runs catalogue ps qs [] a b all held written of ra rb wa wb = ap (λ (r : Run). puts r.events) (ra ∙ sym rb)
  alike-runs catalogue ps qs (command ∷ rest) a b all held written of ra rb wa wb =
      let x = behind-well (λ next more. RunOf (DoesInSession finds answer Plainly) next rest more) ra.0 a ra.2 wa in
      let y = behind-well (λ next more. RunOf (DoesInSession finds answer (Planned sampling)) next rest more) rb.0 b rb.2 wb in
      let first = alike-in_session catalogue ps qs all held x.left y.left command ra.0 rb.0 written.0 of.0 ra.1 rb.1 x.leaves y.leaves in
      let later = alike-runs first.next first.ps first.qs rest x.more y.more first.agree first.held written.1 of.1
      (subst (λ next. RunOf (DoesInSession finds answer Plainly) next rest x.more) first.left_is x.is_more)
      (subst (λ next. RunOf (DoesInSession finds answer (Planned sampling)) next rest y.more) first.right_is y.is_more) x.well y.well in
      ap (λ (r : Run). puts r.events) x.is ∙ puts-append ra.0.events x.more.events
      ∙ ap (λ lines. lines ++ puts x.more.events) first.lines ∙ ap (λ lines. puts rb.0.events ++ lines) later
      ∙ sym (puts-append rb.0.events y.more.events) ∙ sym (ap (λ (r : Run). puts r.events) y.is)

  -- from nothing on
  pub alike-statements : (commands : List Command) (a b : Run) → AreWritten commands → AllByRecursion IsNoExplain commands
      → StatementsRun finds answer Plainly commands a → StatementsRun finds answer (Planned sampling) commands b → a.fault ≡ None → b.fault ≡ None → puts a.events ≡ puts b.events
  alike-statements commands a b written of = alike-runs empty [] [] commands a b tt tt written of
