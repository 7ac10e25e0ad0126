-- A plan whose code starts so early is a scan.
use Rattle.std.proofs.Common.{◌≡◌, ◌∙◌, ℕ, ◌*◌, ◌<◌, ◌≤◌, ◌^◌, List, refl, sym, ap, subst, arith, length}
use Rattle.std.specs.Prelude.{Option, Some, None}
use Rattle.rs_rank.specs.Masks.{mask_of}
use Rattle.rs_catalog.specs.Catalog.{CatalogDef}
use Rattle.rs_query.specs.Tables.{size_of}
use Rattle.rs_query.specs.WellFormed.{IsBlock}
use Rattle.rs_query.specs.declared.block.Block.{Block}
use Rattle.rs_query.specs.declared.query.Query.{Query}
use Rattle.rs_sample.specs.Cards.{BlockCards}
use Rattle.rs_query.specs.Blocks.{block_in}
use Rattle.rs_plan.specs.Plans.{IsEntryNumber}
use Rattle.rs_enum.specs.declared.candidate.Candidate.{Candidate}
use Rattle.rs_enum.specs.declared.candidate.Choice.TheVariants as choice
use Rattle.rs_enum.specs.Places.{AreKept, IsTheFirst, IsTheScan, Placed}
use Rattle.rs_enum.proofs.CostFacts.{block-formed}
use Rattle.rs_enum.proofs.FindFacts.{no-entry, no-index, no-term, rank_scan-first, seq-first}
use Rattle.rs_enum.specs.Given.{block_of, cards_in, kept_in, query_in}
use Rattle.rs_enum.proofs.search.Search.scan.Goals as goal

first-scan : (catalogue : CatalogDef) (query : Query) (cards : List BlockCards) → IsBlock catalogue (block_in query 1) → (places : List (Option Placed))
    → AreKept catalogue query cards places → (first second : ℕ) → second < 2 ^ length (block_in query 1).terms
    → (entry term : ℕ) → 1 ≤ entry → 1 ≤ term → mask_of entry ≡ first → mask_of term ≡ second → (second ≡ 0 → ⊥)
    → (found : Option Candidate) → IsTheScan catalogue query cards entry term found → IsTheFirst catalogue query cards places first second (3 * 256) found
first-scan catalogue query cards formed places kept first second small entry term some_entry some_term entry_mask term_mask some (Some found) is =
    rank_scan-first catalogue query cards formed places kept first second small entry term entry_mask term_mask found is
first-scan catalogue query cards formed places kept first second small entry term some_entry some_term entry_mask term_mask some None none =
    no-index catalogue query cards formed places kept first second small entry term some_entry some_term entry_mask term_mask some none

pub returns-in_err-entry : goal.returns-in_err-entry
returns-in_err-entry c =
    let entries : c.len.result ≡ length (block_of c.args.self.now).from = c.len.ensures ∙ ap (λ (b : Block). length b.from) c.block_in-block.ensures in
    subst (IsTheFirst c.args.self.now.planning.catalog.now (query_in c.args.self.now) (cards_in c.args.self.now) (kept_in c.args.self.now) c.args.of.entries c.args.of.terms (3 * 256))
    (sym c.from_residual.ensures)
    (no-entry c.args.self.now.planning.catalog.now (query_in c.args.self.now) (cards_in c.args.self.now) (block-formed c.args.self.now.planning.catalog.now c.args.self.now.planning.query.now c.args.self.now.number c.requires.search.planning.query)
    (kept_in c.args.self.now) c.requires.search.kept c.args.of.entries c.args.of.terms c.requires.terms
    (λ e some most mask. c.in_err-entry.ensures e some (omega arith) mask))

pub returns-then-of-eq0 : goal.returns-then-of-eq0
returns-then-of-eq0 c =
    let entries : c.len.result ≡ length (block_of c.args.self.now).from = c.len.ensures ∙ ap (λ (b : Block). length b.from) c.block_in-block.ensures in
    let within = c.in_ok-entry.ensures.0.within in
    let number : IsEntryNumber (block_of c.args.self.now) c.in_ok-entry.entry = record { some = c.in_ok-entry.ensures.0.some; most = omega arith } in
    seq-first c.args.self.now.planning.catalog.now (query_in c.args.self.now) (cards_in c.args.self.now) (block-formed c.args.self.now.planning.catalog.now c.args.self.now.planning.query.now c.args.self.now.number c.requires.search.planning.query)
    (kept_in c.args.self.now) c.requires.search.kept c.args.of.entries c.args.of.terms c.requires.terms
    c.in_ok-entry.entry number c.in_ok-entry.ensures.1 c.if-of-eq0.true
    (record { cost = c.table_rows.result; choice = choice.SeqScan c.in_ok-entry.entry })
    (c.table_rows.ensures.value ∙ ap (λ (b : Block). size_of c.args.self.now.planning.catalog.now b c.in_ok-entry.entry) c.block_in-block.ensures) c.table_rows.ensures.most refl

pub returns-in_err-term : goal.returns-in_err-term
returns-in_err-term c =
    let terms : c.len-2.result ≡ length (block_of c.args.self.now).terms = c.len-2.ensures ∙ ap (λ (b : Block). length b.terms) c.block_in-block.ensures in
    subst (IsTheFirst c.args.self.now.planning.catalog.now (query_in c.args.self.now) (cards_in c.args.self.now) (kept_in c.args.self.now) c.args.of.entries c.args.of.terms (3 * 256))
    (sym c.from_residual-in_err-term.ensures)
    (no-term c.args.self.now.planning.catalog.now (query_in c.args.self.now) (cards_in c.args.self.now) (block-formed c.args.self.now.planning.catalog.now c.args.self.now.planning.query.now c.args.self.now.number c.requires.search.planning.query)
    (kept_in c.args.self.now) c.requires.search.kept c.args.of.entries c.args.of.terms c.requires.terms c.if-of-eq0.false
    (λ t some most mask. c.in_err-term.ensures t some (omega arith) mask))

pub returns : goal.returns
returns c =
    first-scan c.args.self.now.planning.catalog.now (query_in c.args.self.now) (cards_in c.args.self.now) (block-formed c.args.self.now.planning.catalog.now c.args.self.now.planning.query.now c.args.self.now.number c.requires.search.planning.query)
    (kept_in c.args.self.now) c.requires.search.kept c.args.of.entries c.args.of.terms c.requires.terms
    c.in_ok-entry.entry c.in_ok-term.term c.in_ok-entry.ensures.0.some c.in_ok-term.ensures.0.some c.in_ok-entry.ensures.1 c.in_ok-term.ensures.1
    c.if-of-eq0.false c.rank_scan.result c.rank_scan.ensures
