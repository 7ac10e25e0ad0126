-- What a FETCH does is the same in a larger catalogue.
use Rattle.std.proofs.Common.{ℕ, zero, suc, ◌≡◌, ◌-◌, ◌++◌, List, length, min, refl, sym, subst}
use Rattle.std.specs.Prelude.{Option, Result, Ok, Err, is_ok}
use Rattle.rs_rank.specs.declared.answer.Answer.{Answer}
use Rattle.rs_expr.specs.InOrder.{Inquiry}
use Rattle.rs_expr.specs.Scoring.{Answering}
use Rattle.rs_catalog.specs.Catalog.{CatalogDef}
use Rattle.rs_catalog.specs.Snapshot.{snapshot}
use Rattle.rs_query.specs.Answers.{limit_of}
use Rattle.rs_query.specs.declared.query.Query.{Query}
use Rattle.rs_plan.specs.Lists.{World}
use Rattle.rs_plan.specs.Trees.{PlanTree}
use Rattle.rs_exec.specs.Asking.{world_of}
use Rattle.rs_exec.specs.Cursors.{SameAsks, next_answer}
use Rattle.rs_exec.specs.declared.fault.ExecFault.{ExecFault}
use Rattle.rs_statement.specs.declared.fault.Fault.{Fault}
use Rattle.rs_statement.specs.Planned.{ask_count, ask_outcome, ask_step, asked_step, asks_from, next_asks}
use Rattle.rs_statement.specs.Steps.{Step}
use Rattle.rs_events.specs.Sequence.{still, then_step}
use Rattle.rs_statement.specs.Session.{ByPlan, IsCursorOf, OpenCursor, Ready, Source, State, fetched_from, with_asks}

-- two steps with the same events that both end well, or neither
pub record Alike {S T : Type 0} (a : Step S) (b : Step T) : Type 0 where
  pub events : a.events ≡ b.events
  pub well : is_ok a.outcome ≡ is_ok b.outcome

alike-then : {S T X Y : Type 0} (a : Step S) (b : Step T) (x : Step X) (y : Step Y) → Alike a b → Alike x y → Alike (then_step a x) (then_step b y)
alike-then {S} {T} a b x y first next = go a.outcome b.outcome first.well where
  go : (own : Result S Fault) (other : Result T Fault) → is_ok own ≡ is_ok other → Alike (then_step (record a { outcome = own }) x) (then_step (record b { outcome = other }) y)
  go (Ok s) (Ok t) e = record { events = λ i. first.events i ++ next.events i; well = next.well }
  go (Ok s) (Err fault) e = absurd cc
  go (Err fault) (Ok t) e = absurd cc
  go (Err fault) (Err other) e = record { events = first.events; well = refl }

-- an ask that comes to the same, over two catalogues
alike-asked : (catalogue other : CatalogDef) (rank : ℕ) (given : Inquiry (Option Answer) ExecFault) → Alike (asked_step catalogue rank given) (asked_step other rank given)
alike-asked catalogue other rank given = record { events = refl; well = go given.outcome } where
  go : (outcome : Result (Option Answer) ExecFault) → is_ok (ask_outcome catalogue outcome) ≡ is_ok (ask_outcome other outcome)
  go (Ok row) = refl
  go (Err fault) = refl

module _ (larger catalogue : CatalogDef) (answer : Answering) (query : Query) (tree : PlanTree) (same : SameAsks (world_of larger answer query) (world_of catalogue answer query) tree) where
  abbrev large : World
  large = world_of larger answer query

  abbrev small : World
  small = world_of catalogue answer query

  alike-ask : (n : ℕ) → Alike (ask_step large tree n) (ask_step small tree n)
  alike-ask n = subst (λ given. Alike (asked_step larger (suc n) given) (ask_step small tree n)) (sym (same.asks n)) (alike-asked larger catalogue (suc n) (next_answer small tree n))

  pub alike-asks : (n count : ℕ) → Alike (asks_from large tree n count) (asks_from small tree n count)
  alike-asks n zero = record { events = refl; well = refl }
  alike-asks n (suc count) = alike-then (ask_step large tree n) (ask_step small tree n) (asks_from large tree (suc n) count) (asks_from small tree (suc n) count) (alike-ask n) (alike-asks (suc n) count)

  pub next-same : (asked wanted : ℕ) → next_asks large tree asked wanted ≡ next_asks small tree asked wanted
  next-same asked wanted = λ i. min wanted (ask_count (limit_of query) (length (same.list i)) - asked)

-- the asks over one catalogue
pub SameAsks-itself : (catalogue : CatalogDef) (answer : Answering) (query : Query) (tree : PlanTree) → SameAsks (world_of catalogue answer query) (world_of catalogue answer query) tree
SameAsks-itself catalogue answer query tree = record { list = refl; rows = refl; asks = λ n. refl }

-- the same of a FETCH of each cursor
pub alike-fetched : (answer : Answering) (state next : State) (name : List ℕ) (asked wanted : ℕ) (source : Source)
    → ((query : Query) (tree : PlanTree) (sizes : List ℕ) → source ≡ ByPlan query tree sizes
    → SameAsks (world_of (snapshot sizes next.catalogue) answer query) (world_of (snapshot sizes state.catalogue) answer query) tree)
    → (fetched_from answer next name asked wanted source).events ≡ (fetched_from answer state name asked wanted source).events
alike-fetched answer state next name asked wanted (ByPlan query tree sizes) same =
    let asks = same query tree sizes refl in
    let more = snapshot sizes next.catalogue in
    let few = snapshot sizes state.catalogue in
    let large = world_of more answer query in
    let small = world_of few answer query in
    (alike-then (asks_from large tree asked (next_asks large tree asked wanted)) (asks_from small tree asked (next_asks small tree asked wanted))
    (still (Ok (with_asks name (next_asks large tree asked wanted) next))) (still (Ok (with_asks name (next_asks small tree asked wanted) state)))
    (subst (λ count. Alike (asks_from large tree asked count) (asks_from small tree asked (next_asks small tree asked wanted))) (sym (next-same more few answer query tree asks asked wanted))
    (alike-asks more few answer query tree asks asked (next_asks small tree asked wanted)))
    (record { events = refl; well = refl })).events
alike-fetched answer state next name asked wanted (Ready rows) same = refl

-- of a cursor over a plan, what it sees of the catalogue covers its query
pub IsCursorOf-plan : (catalogue : CatalogDef) (cursor : OpenCursor) (query : Query) (tree : PlanTree) (sizes : List ℕ) → IsCursorOf catalogue cursor → cursor.source ≡ ByPlan query tree sizes
    → IsCursorOf catalogue (record cursor { source = ByPlan query tree sizes })
IsCursorOf-plan catalogue cursor query tree sizes is e = subst (λ source. IsCursorOf catalogue (record cursor { source = source })) e is
