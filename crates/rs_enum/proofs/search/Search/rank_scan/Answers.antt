-- The index that was found makes the scan.
use Rattle.std.proofs.Common.{◌≡◌, ◌∙◌, ◌-◌, ◌*◌, refl, sym, ap, arith, length}
use Rattle.std.specs.Prelude.{Some, slice_get}
use Rattle.std.proofs.lemmas.Option.{slice_get_read}
use Rattle.rs_catalog.specs.Indexes.{index_of}
use Rattle.rs_query.specs.declared.block.Block.{Block}
use Rattle.rs_sample.specs.Kept.{cards_of}
use Rattle.rs_enum.specs.QueryCards.{cards_at}
use Rattle.rs_enum.proofs.CostFacts.{block-cards, indexed}
use Rattle.rs_enum.specs.Given.{block_of}
use Rattle.rs_enum.proofs.search.Search.rank_scan.Goals as goal

pub index_rows-requires-clause-alone : goal.index_rows-requires-clause-alone
index_rows-requires-clause-alone c =
    let block = block_of c.args.self.now in
    let terms : c.items.result.now.items ≡ block.terms = c.items.ensures ∙ ap (λ (b : Block). b.terms) c.block_in-block.ensures in
    let as_many_terms : length c.items.result.now.items ≡ length block.terms = ap length terms in
    let some_term = c.requires.term.some in
    let most_term = c.requires.term.most in
    let term_there : slice_get block.terms (c.args.term - 1) ≡ Some c.index-found.result.now =
    ap (λ xs. slice_get xs (c.args.term - 1)) (sym terms)
    ∙ slice_get_read c.items.result.now.items (length c.items.result.now.items) (c.args.term - 1) c.index-found.result.now refl (omega arith) c.index-found.ensures in
    indexed block (cards_at (cards_of c.args.self.now.planning.cards.now) c.args.self.now.number)
    (block-cards c.args.self.now.planning.query.now (cards_of c.args.self.now.planning.cards.now) c.args.self.now.number c.requires.search.planning.cards c.requires.search.number) c.args.entry c.args.term c.index-found.result.now c.requires.entry
    (record { some = c.requires.term.some; there = term_there }) (c.if-found-mask_of.false ∙ c.mask_of.ensures)

pub returns : goal.returns
returns c =
    let block = block_of c.args.self.now in
    let terms : c.items.result.now.items ≡ block.terms = c.items.ensures ∙ ap (λ (b : Block). b.terms) c.block_in-block.ensures in
    let from : c.items-2.result.now.items ≡ block.from = c.items-2.ensures ∙ ap (λ (b : Block). b.from) c.block_in-block.ensures in
    let as_many_terms : length c.items.result.now.items ≡ length block.terms = ap length terms in
    let as_many_entries : length c.items-2.result.now.items ≡ length block.from = ap length from in
    let some_term = c.requires.term.some in
    let most_term = c.requires.term.most in
    let some_entry = c.requires.entry.some in
    let most_entry = c.requires.entry.most in
    let term_there : slice_get block.terms (c.args.term - 1) ≡ Some c.index-found.result.now =
    ap (λ xs. slice_get xs (c.args.term - 1)) (sym terms)
    ∙ slice_get_read c.items.result.now.items (length c.items.result.now.items) (c.args.term - 1) c.index-found.result.now refl (omega arith) c.index-found.ensures in
    let entry_there : slice_get block.from (c.args.entry - 1) ≡ Some c.index.result.now =
    ap (λ xs. slice_get xs (c.args.entry - 1)) (sym from)
    ∙ slice_get_read c.items-2.result.now.items (length c.items-2.result.now.items) (c.args.entry - 1) c.index.result.now refl (omega arith) c.index.ensures in
    let few = c.index_rows.ensures.most in
    record {
      index = c.in_ok-index.index;
      part = record {
        is_entry = c.requires.entry;
        term = c.index-found.result.now;
        is_term = record { some = c.requires.term.some; there = term_there };
        alone = c.if-found-mask_of.false ∙ c.mask_of.ensures;
        table = c.index.result.now.0;
        alias = c.index.result.now.1;
        from = entry_there;
        first = sym (c.in_ok-index.ensures.value
            ∙ ap (λ args. index_of c.index.result.now.0 c.index-found.result.now.predicate args c.args.entry c.args.self.now.planning.catalog.now) (c.deref.ensures.value ∙ c.items-3.ensures));
      };
      chosen = refl;
      cost = ap (λ n. 2 * n) c.index_rows.ensures.value;
      few = omega arith;
    }
