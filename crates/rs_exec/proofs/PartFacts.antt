-- The questions of one ask go on where those of the asks before it end.
use Rattle.std.proofs.Common.{◌≡◌, ◌∙◌, ℕ, zero, suc, ◌+◌, ◌-◌, List, [], ◌∷◌, ◌++◌, ◌≤◌, length, map, drop, refl, sym, ap, arith}
use Rattle.std.proofs.lemmas.Grind.{flat_map-append}
use Rattle.std.proofs.lemmas.List.{append-nil, map-append}
use Rattle.std.specs.List.{flat_map}
use Rattle.rs_order.specs.Schedule.{Left, SideAsk, asks_from, numbers_from}
use Rattle.rs_rank.specs.Weights.{IsWeights}
use Rattle.rs_expr.specs.declared.scorer.Call.{Call}
use Rattle.rs_query.specs.Questions.{Question, call_for}
use Rattle.rs_query.specs.Tables.{sizes_of}
use Rattle.rs_query.specs.WellFormed.{IsQuery}
use Rattle.rs_plan.specs.Asks.{child_asks}
use Rattle.rs_plan.specs.Calls.{calls_of_plan, part_of_plan, questions, questions_of_ask}
use Rattle.rs_plan.specs.Counts.{asked_of}
use Rattle.rs_plan.specs.Lists.{World, numbered_block, list_of, sizes_in, weights_in}
use Rattle.rs_plan.specs.Plans.{IsPlan}
use Rattle.rs_plan.specs.Trees.{Distinct, JoinKind, JoinOperator, Rank, RankScan, SeqScan, SetOperator, PlanTree}
use Rattle.rs_filter.specs.Matching.{IsView}
use Rattle.rs_ripple.specs.Stands.{schedule_of}
use Rattle.rs_ripple.proofs.ScheduleFacts.{schedule_of-more}
use Rattle.rs_exec.specs.Joining.{join_for}
use Rattle.rs_exec.specs.OutputValues.{outputs_in}
use Rattle.rs_exec.specs.Asked.{HasBlock, IsBoundedWorld}
use Rattle.rs_exec.specs.Parts.{IsPartOf}
use Rattle.rs_exec.specs.SetNodes.{operator_of, sides_for}
use Rattle.rs_exec.proofs.DistinctStepFacts.{distinct-child_asks, distinct-grows}
use Rattle.rs_exec.proofs.BlockFacts.{first-block}
use Rattle.rs_exec.proofs.JoinListFacts.{CanJoinParts, join-sides}
use Rattle.rs_exec.proofs.JoinStepFacts.{join-schedule}
use Rattle.rs_exec.proofs.OperatorFacts.{puts_of, questions-are}
use Rattle.rs_exec.proofs.PlacesFacts.{plan-part}
use Rattle.rs_exec.proofs.SetMoreFacts.{GoesOn, begun-split, schedule_of-goes_on}
use Rattle.rs_exec.proofs.SetStepFacts.{set-facts}
use Rattle.rs_exec.proofs.RankFacts.{asks-more, asks_from-split, drop-front, rank-child_asks}

-- what is a list and others behind it is that list and what is left without it
behind-front : {A : Type 0} (xs ys zs : List A) → ys ≡ xs ++ zs → ys ≡ xs ++ drop (length xs) ys
behind-front xs ys zs is = is ∙ ap (λ rest. xs ++ rest) (sym (ap (drop (length xs)) is ∙ drop-front xs zs))

-- the asks of an operator for one answer more go on where those for the answers before end
join-goes_on : (w : World) (number : ℕ) (kind : JoinKind) (left right : PlanTree) (a : ℕ) → CanJoinParts w number left right
    → GoesOn (child_asks w number (JoinOperator kind left right) a) (child_asks w number (JoinOperator kind left right) (suc a))
join-goes_on w number kind left right a parts =
    let j = join_for w number left right in
    let before = schedule_of j (list_of w number left) (list_of w number right) a in
    let after = schedule_of j (list_of w number left) (list_of w number right) (suc a) in
    let split = begun-split after before (schedule_of-more j (list_of w number left) (list_of w number right) (join-sides w number left right parts) a) in
    record {
      more = drop (length before) after;
      split = join-schedule w number kind left right parts (suc a) ∙ split
          ∙ ap (λ (front : List SideAsk). front ++ drop (length before) after) (sym (join-schedule w number kind left right parts a));
    }

-- those of an only child
alone-goes_on : (before after : List SideAsk) (first last : ℕ) → first ≤ last → before ≡ asks_from Left 1 first → after ≡ asks_from Left 1 last → GoesOn before after
alone-goes_on before after first last le is_before is_after = record {
  more = asks_from Left (1 + first) (last - first);
  split = is_after ∙ asks_from-split Left 1 first (last - first) last (omega arith) ∙ ap (λ (front : List SideAsk). front ++ asks_from Left (1 + first) (last - first)) (sym is_before);
}

pub asks-go_on : (w : World) (number : ℕ) (tree : PlanTree) (a : ℕ) → IsQuery w.catalogue w.query → HasBlock w.query number → IsBoundedWorld w → IsView (sizes_in w number) (sizes_of w.catalogue (numbered_block w number))
    → IsPartOf w.catalogue w.query number tree → IsWeights (weights_in w) → GoesOn (child_asks w number tree a) (child_asks w number tree (suc a))
asks-go_on w number (SeqScan entry) zero formed has bounded view part weights = record { more = []; split = refl }
asks-go_on w number (SeqScan entry) (suc n) formed has bounded view part weights = record { more = []; split = refl }
asks-go_on w number (RankScan entry term index) zero formed has bounded view part weights = record { more = []; split = refl }
asks-go_on w number (RankScan entry term index) (suc n) formed has bounded view part weights = record { more = []; split = refl }
asks-go_on w number (Rank term child) a formed has bounded view part weights =
    alone-goes_on (child_asks w number (Rank term child) a) (child_asks w number (Rank term child) (suc a)) (asked_of w number (Rank term child) a Left) (asked_of w number (Rank term child) (suc a) Left)
    (asks-more w number term child formed part weights has bounded a (suc a) (omega arith)) (rank-child_asks w number term child a) (rank-child_asks w number term child (suc a))
asks-go_on w number (JoinOperator kind left right) a formed has bounded view part weights =
    join-goes_on w number kind left right a (record { formed = formed; bounded = bounded number has; weights = weights; view = view; left_part = part.0; right_part = part.1; joined = part.2 })
asks-go_on w number (Distinct child) a formed has bounded view part weights =
    alone-goes_on (child_asks w number (Distinct child) a) (child_asks w number (Distinct child) (suc a)) (asked_of w number (Distinct child) a Left) (asked_of w number (Distinct child) (suc a) Left)
    (distinct-grows w number child formed (bounded number has) part weights a) (distinct-child_asks w number child a) (distinct-child_asks w number child (suc a))
asks-go_on w number (SetOperator left right) a formed has bounded view part weights =
    let facts = set-facts w.catalogue w.answer w.view w.query number left right formed bounded weights part in
    let on = schedule_of-goes_on (sides_for w left) (operator_of w.query) (outputs_in w 1 left) (outputs_in w 2 right) facts.sides a in
    record { more = on.more; split = facts.asks (suc a) ∙ on.split ∙ ap (λ (front : List SideAsk). front ++ on.more) (sym (facts.asks a)) }

-- so do their questions
pub grows : (w : World) (number : ℕ) (tree : PlanTree) (a : ℕ) → IsQuery w.catalogue w.query → HasBlock w.query number → IsBoundedWorld w → IsView (sizes_in w number) (sizes_of w.catalogue (numbered_block w number))
    → IsPartOf w.catalogue w.query number tree → IsWeights (weights_in w)
    → questions w number tree (suc a) ≡ questions w number tree a ++ questions_of_ask w number tree (suc a)
grows w number tree a formed has bounded view part weights =
    let on = asks-go_on w number tree a formed has bounded view part weights in
    let puts = puts_of w number tree in
    behind-front (questions w number tree a) (questions w number tree (suc a)) (flat_map puts on.more)
    (questions-are w number tree (suc a) ∙ ap (flat_map puts) on.split ∙ flat_map-append puts (child_asks w number tree a) on.more
    ∙ ap (λ (qs : List Question). qs ++ flat_map puts on.more) (sym (questions-are w number tree a)))

-- the numbers up to the next one
pub numbers-next : (first n : ℕ) → numbers_from first (suc n) ≡ numbers_from first n ++ (first + n) ∷ []
numbers-next first zero = let same : first ≡ first + 0 = omega arith in ap (λ k. k ∷ []) same
numbers-next first (suc n) =
    let same : suc first + n ≡ first + suc n = omega arith in
    ap (λ (rest : List ℕ). first ∷ rest) (numbers-next (suc first) n) ∙ ap (λ k. numbers_from first (suc n) ++ k ∷ []) same

pub parts-in-turn : (w : World) (tree : PlanTree) (n : ℕ) → IsQuery w.catalogue w.query → IsBoundedWorld w → IsView (sizes_in w 1) (sizes_of w.catalogue (numbered_block w 1)) → IsWeights (weights_in w) → IsPlan w.catalogue w.query tree
    → flat_map (part_of_plan w tree) (numbers_from 1 n) ≡ calls_of_plan w tree n
parts-in-turn w tree zero formed bounded view weights plan = sym (ap (map (call_for w.catalogue)) (none tree)) where
  none : (tree : PlanTree) → questions w 1 tree 0 ≡ []
  none (SeqScan entry) = refl
  none (RankScan entry term index) = refl
  none (Rank term child) = refl
  none (JoinOperator kind left right) = refl
  none (Distinct child) = refl
  none (SetOperator left right) = refl
parts-in-turn w tree (suc n) formed bounded view weights plan =
    let call = call_for w.catalogue in
    let same : 1 + n ≡ suc n = omega arith in
    ap (flat_map (part_of_plan w tree)) (numbers-next 1 n)
    ∙ flat_map-append (part_of_plan w tree) (numbers_from 1 n) ((1 + n) ∷ [])
    ∙ ap (λ (calls : List Call). calls ++ flat_map (part_of_plan w tree) ((1 + n) ∷ [])) (parts-in-turn w tree n formed bounded view weights plan)
    ∙ ap (λ (calls : List Call). calls_of_plan w tree n ++ calls) (append-nil (part_of_plan w tree (1 + n)) ∙ ap (part_of_plan w tree) same)
    ∙ sym (map-append call (questions w 1 tree n) (questions_of_ask w 1 tree (suc n)))
    ∙ ap (map call) (sym (grows w 1 tree n formed (first-block w.query) bounded view (plan-part w.catalogue w.query tree plan) weights))
