-- What is kept of a block is its cards.
use Rattle.std.proofs.Common.{ℕ, ◌≡◌, ◌^◌, ◌<◌, ◌≤◌, List, Some, length, map, get_or, sym, subst}
use Rattle.std.specs.Prelude.{IfOk, Option, Result, Ok, Err, slice_get}
use Rattle.std.specs.declared.alloc.Global.{Global}
use Rattle.std.specs.declared.vec.Vec.{Vec}
use Rattle.rs_expr.specs.Scoring.{Answering}
use Rattle.rs_catalog.specs.Catalog.{CatalogDef}
use Rattle.rs_query.specs.declared.block.Block.{Block}
use Rattle.rs_query.specs.declared.term.Term.{Term}
use Rattle.rs_sample.specs.Estimates.{cutoff_of}
use Rattle.rs_sample.specs.Finding.{known_estimate}
use Rattle.rs_sample.specs.Kept.{block_cards}
use Rattle.rs_sample.specs.Quotients.{number_at}
use Rattle.rs_sample.specs.Sampling.{AreCards, worths_by_term}
use Rattle.rs_sample.specs.declared.estimates.Estimates.{Estimates}
use Rattle.rs_sample.proofs.CardFacts.{AreCards-made}
use Rattle.rs_sample.proofs.IndexFacts.{index_number}

-- the cards of what was made, where anything was
pub AreCards-estimated : (answer : Answering) (catalogue : CatalogDef) (block : Block) (sizes : List ℕ) (samples worths : List (List ℕ)) (limit : Option ℕ) (cutoff : ℕ)
    (numbers : Vec (List ℕ) Global) {E : Type 0} (result : Result Estimates E) → length block.terms ≤ 8 → cutoff ≡ cutoff_of answer catalogue block sizes samples limit
    → worths ≡ worths_by_term answer catalogue block samples
    → ((mask terms : ℕ) → mask < 2 ^ length block.from → terms < 2 ^ length block.terms
    → number_at numbers.items mask terms ≡ known_estimate answer catalogue block sizes samples cutoff mask terms)
    → IfOk result (λ e. e.entries ≡ length block.from)
    → IfOk result (λ e. e.reads.items ≡ map (λ (t : Term). t.entries) block.terms)
    → IfOk result (λ e. e.numbers ≡ numbers)
    → IfOk result (λ e. (place : ℕ) (t : Term) → slice_get block.terms place ≡ Some t → get_or e.index_numbers.items place 0 ≡ index_number block sizes (map length samples) worths cutoff place t)
    → IfOk result (λ e. AreCards answer catalogue block sizes samples limit (block_cards e))
AreCards-estimated answer catalogue block sizes samples worths limit cutoff numbers (Ok e) few cut are value entries reads same index =
    AreCards-made answer catalogue block sizes samples worths e.numbers.items limit e.reads.items e.index_numbers.items cutoff e.entries few entries reads cut
    (λ mask terms inside within. subst (λ (ns : Vec (List ℕ) Global). number_at ns.items mask terms ≡ known_estimate answer catalogue block sizes samples cutoff mask terms) (sym same)
    (value mask terms inside within)) are index
AreCards-estimated answer catalogue block sizes samples worths limit cutoff numbers (Err fault) few cut are value entries reads same index = tt
