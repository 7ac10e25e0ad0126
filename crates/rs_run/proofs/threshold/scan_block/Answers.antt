-- A new scan over the indexes of an eligible block stands where no ask has left it.
use Rattle.std.proofs.Common.{◌≡◌, ◌∙◌, ◌≤◌, ◌++◌, List, [], ◌∷◌, refl, sym, ap, subst}
use Rattle.rs_order.proofs.EachFacts.{each-weaker}
use Rattle.rs_rank.specs.declared.answer.Answer.{Answer}
use Rattle.rs_rank.specs.declared.weights.Weights.{Weights}
use Rattle.rs_query.specs.Answers.{answer_of, weights_of}
use Rattle.rs_query.specs.Views.{all_rows}
use Rattle.rs_query.specs.WellFormed.{IsTerm}
use Rattle.rs_query.specs.declared.query.Query.TheVariants.{One}
use Rattle.rs_query.specs.declared.term.Term.{Term}
use Rattle.rs_ta.specs.BlockTests.{BlockTestState, holds_on}
use Rattle.rs_ta.specs.Depths.{ScanInput}
use Rattle.rs_ta.specs.Eligible.{block_input}
use Rattle.rs_ta.specs.IndexLists.{IndexListsState, index_lists_state, new_index_lists}
use Rattle.rs_ta.specs.Lists.{AreUnaccessed}
use Rattle.rs_ta.specs.Scans.{Scan, new_scan}
use Rattle.rs_ta.proofs.EligibleFacts.{held-indexes}
use Rattle.rs_statement.specs.Lines.{rank_lines}
use Rattle.rs_run.specs.Parts.Scanning.{IsScanning, IsUnasked, scan_input, scanned_rows}
use Rattle.rs_run.specs.Threshold.{access_line, scan_asks, scan_lines}
use Rattle.rs_run.proofs.ScanFacts.{lines-same}
use Rattle.rs_run.proofs.threshold.scan_block.Goals as goal

pub new-test-requires : goal.new-test-requires
new-test-requires g c = record {
  block = c.requires.formed;
  one_entry = c.eligible_blocks_can_be_scanned.ensures.entry c.args.catalog.now c.args.block.now c.args.indexes.items c.requires.eligible;
}

pub new-lists-requires : goal.new-lists-requires
new-lists-requires g c =
    c.eligible_blocks_can_be_scanned.ensures.indexes c.args.catalog.now c.args.block.now c.args.indexes.items c.requires.formed c.requires.eligible

pub weights-requires-clause-limits : goal.weights-requires-clause-limits
weights-requires-clause-limits g c =
    each-weaker (IsTerm c.args.catalog.now c.args.block.now) (λ (t : Term). t.weight ≤ 1000000) (λ t is. is.most_weight) c.args.block.now.terms c.requires.formed.terms

pub put_scan-put-requires : goal.put_scan-put-requires
put_scan-put-requires g c =
    let catalogue = c.args.catalog.now in
    let block = c.args.block.now in
    let indexes = c.args.indexes.items in
    let answer = (g.W.Host.state c.args.host.now).scorer.answer in
    let test : BlockTestState = record { catalogue = catalogue; block = block } in
    let lists = new_index_lists catalogue indexes in
    let state = index_lists_state lists in
    let unaccessed = subst (λ (own : IndexListsState). AreUnaccessed (index_lists_state own)) c.new-lists.ensures.value c.new-lists.ensures.unaccessed in
    let start : IsScanning test (new_scan (weights_of block) 1 1) lists = record {
      entry_is = refl;
      block_is = refl;
      stands = c.new_scan_stands.ensures (weights_of block) 1 1 state (holds_on catalogue block) (λ list is. (unaccessed.counts list).0) (record { counts = λ list is. (unaccessed.counts list).1; told = unaccessed.told });
      have = c.eligible_blocks_can_be_scanned.ensures.weights catalogue block indexes c.requires.formed c.requires.eligible;
      same_rows = c.threshold_scans_give_the_answer.ensures.rows answer catalogue block indexes c.requires.formed c.requires.eligible (held-indexes answer catalogue indexes c.requires.held);
    } in
    let scan : c.new-scan.result ≡ new_scan (weights_of block) 1 1 = c.new-scan.ensures ∙ ap (λ (weights : Weights). new_scan weights 1 1) c.weights.ensures.value in record {
      formed = c.requires.formed;
      one_entry = c.eligible_blocks_can_be_scanned.ensures.entry catalogue block indexes c.requires.eligible;
      test = c.new-test.ensures;
      scanning = subst (λ (scan : Scan). IsScanning c.new-test.result scan c.new-lists.result) (sym scan)
          (subst (λ (own : IndexListsState). IsScanning c.new-test.result (new_scan (weights_of block) 1 1) own) (sym c.new-lists.ensures.value)
          (subst (λ (own : BlockTestState). IsScanning own (new_scan (weights_of block) 1 1) lists) (sym c.new-test.ensures) start));
      unasked = subst IsUnasked (sym scan) (record { given = refl; open_is = refl });
    }

pub returns : goal.returns
returns g c =
    let catalogue = c.args.catalog.now in
    let block = c.args.block.now in
    let indexes = c.args.indexes.items in
    let limit = c.args.limit in
    let old = g.W.Host.state c.args.host.now in
    let answer = old.scorer.answer in
    let scan : c.new-scan.result ≡ new_scan (weights_of block) 1 1 = c.new-scan.ensures ∙ ap (λ (weights : Weights). new_scan weights 1 1) c.weights.ensures.value in
    let input : scan_input c.new-test.result c.new-scan.result c.new-lists.result ≡ block_input catalogue block indexes =
    ap (λ (scan : Scan). scan_input c.new-test.result scan c.new-lists.result) scan
    ∙ ap (λ (own : IndexListsState). scan_input c.new-test.result (new_scan (weights_of block) 1 1) own) c.new-lists.ensures.value
    ∙ ap (λ (own : BlockTestState). scan_input own (new_scan (weights_of block) 1 1) (new_index_lists catalogue indexes)) c.new-test.ensures in
    let rows : scanned_rows c.new-test.result limit (block_input catalogue block indexes) ≡ answer_of answer catalogue (One block limit) (all_rows catalogue (One block limit)) =
    ap (λ (own : BlockTestState). scanned_rows own limit (block_input catalogue block indexes)) c.new-test.ensures
    ∙ c.threshold_scans_give_the_answer.ensures.answer answer catalogue block limit indexes c.requires.formed c.requires.eligible (held-indexes answer catalogue indexes c.requires.held) in
    let lines : rank_lines 1 (scanned_rows c.new-test.result limit (scan_input c.new-test.result c.new-scan.result c.new-lists.result))
    ++ access_line (scan_input c.new-test.result c.new-scan.result c.new-lists.result) (scan_asks limit (scan_input c.new-test.result c.new-scan.result c.new-lists.result)) ∷ []
    ≡ scan_lines answer catalogue (One block limit) (block_input catalogue block indexes) =
    ap (λ (i : ScanInput). rank_lines 1 (scanned_rows c.new-test.result limit i) ++ access_line i (scan_asks limit i) ∷ []) input
    ∙ ap (λ (rows : List Answer). rank_lines 1 rows ++ access_line (block_input catalogue block indexes) (scan_asks limit (block_input catalogue block indexes)) ∷ []) rows in
    rw g.met.W.Host.after_out (lines-same _ _ lines c.put_scan-put.result old _ (rw c.out.ensures.value at c.put_scan-put.ensures.puts old))
