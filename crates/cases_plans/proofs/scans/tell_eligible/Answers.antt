-- A new scan over the indexes of an eligible block can be asked.
use Rattle.std.proofs.Common.{◌≤◌, subst, sym}
use Rattle.rs_order.proofs.EachFacts.{each-weaker}
use Rattle.rs_query.specs.Answers.{weights_of}
use Rattle.rs_query.specs.WellFormed.{IsTerm}
use Rattle.rs_query.specs.declared.term.Term.{Term}
use Rattle.rs_ta.specs.BlockTests.{BlockTestState, holds_on}
use Rattle.rs_ta.specs.IndexLists.{IndexListsState, index_lists_state, new_index_lists}
use Rattle.rs_ta.specs.Lists.{AreUnaccessed}
use Rattle.rs_ta.specs.Scans.{Scan, new_scan}
use Rattle.rs_rank.specs.declared.weights.Weights.{Weights}
use Rattle.cases_plans.specs.Scans.{CanBeScanned}
use Rattle.cases_plans.proofs.ScanFacts.{held-indexes}
use Rattle.cases_plans.proofs.scans.tell_eligible.Goals as goal

pub new-lists-requires : goal.new-lists-requires
new-lists-requires c =
    c.eligible_blocks_can_be_scanned.ensures.indexes c.args.catalog.now c.args.block.now c.args.indexes.items c.requires.formed c.requires.eligible

pub weights-requires-clause-limits : goal.weights-requires-clause-limits
weights-requires-clause-limits c =
    each-weaker (IsTerm c.args.catalog.now c.args.block.now) (λ (t : Term). t.weight ≤ 1000000) (λ t is. is.most_weight) c.args.block.now.terms c.requires.formed.terms

pub tell_asks-told-requires : goal.tell_asks-told-requires
tell_asks-told-requires c =
    let catalogue = c.args.catalog.now in
    let block = c.args.block.now in
    let indexes = c.args.indexes.items in
    let test : BlockTestState = record { catalogue = catalogue; block = block } in
    let lists = new_index_lists catalogue indexes in
    let state = index_lists_state lists in
    let unaccessed = subst (λ (own : IndexListsState). AreUnaccessed (index_lists_state own)) c.new-lists.ensures.value c.new-lists.ensures.unaccessed in
    let start : CanBeScanned (new_scan (weights_of block) 1 1) lists test = record {
      stands = c.new_scan_stands.ensures (weights_of block) 1 1 state (holds_on catalogue block) (λ list is. (unaccessed.counts list).0) (record { counts = λ list is. (unaccessed.counts list).1; told = unaccessed.told });
      have = c.eligible_blocks_can_be_scanned.ensures.weights catalogue block indexes c.requires.formed c.requires.eligible;
      same_rows = c.threshold_scans_give_the_answer.ensures.rows c.requires.held.0 catalogue block indexes c.requires.formed c.requires.eligible
          (held-indexes c.requires.held.0 catalogue indexes c.requires.held.1);
    } in
    subst (λ (scan : Scan). CanBeScanned scan c.new-lists.result c.new-test.result) (sym c.new-scan.ensures)
    (subst (λ (weights : Weights). CanBeScanned (new_scan weights 1 1) c.new-lists.result c.new-test.result) (sym c.weights.ensures.value)
    (subst (λ (own : IndexListsState). CanBeScanned (new_scan (weights_of block) 1 1) own c.new-test.result) (sym c.new-lists.ensures.value)
    (subst (λ (own : BlockTestState). CanBeScanned (new_scan (weights_of block) 1 1) lists own) (sym c.new-test.ensures) start)))
