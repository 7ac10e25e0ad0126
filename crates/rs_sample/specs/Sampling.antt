-- What taking a sample asks the scorer, and which cards it gives.
use Rattle.std.specs.Prelude.{ℕ, ◌<◌, ◌+◌, List, [], ◌∷◌, ◌++◌, length, map, sum, Option, Result, Ok, Err}
use Rattle.std.specs.List.{flat_map}
use Rattle.std.specs.declared.alloc.Global.{Global}
use Rattle.std.specs.declared.vec.Vec.{Vec}
use Rattle.rs_expr.specs.InOrder.{Inquiry}
use Rattle.rs_expr.specs.Scoring.{Answering}
use Rattle.rs_catalog.specs.Catalog.{CatalogDef}
use Rattle.rs_query.specs.Answers.{clamped, worth_of}
use Rattle.rs_query.specs.Questions.{Faults, Question, question_of, request_for}
use Rattle.rs_query.specs.Views.{View}
use Rattle.rs_query.specs.declared.ask.AskFault.{AskFault}
use Rattle.rs_query.specs.declared.ask.AskFault.TheVariants as asked
use Rattle.rs_query.specs.declared.block.Block.{Block}
use Rattle.rs_query.specs.declared.term.Term.{Term}
use Rattle.rs_query.specs.declared.query.Query.{Query}
use Rattle.rs_query.specs.declared.query.Query.TheVariants.{One, Set}
use Rattle.rs_sample.specs.Cards.{BlockCards, SayTheSame}
use Rattle.rs_sample.specs.Choosing.{sampled_choices}
use Rattle.rs_sample.specs.Estimates.{cutoff_of, estimate_of, index_estimate_of}
use Rattle.rs_sample.specs.Samples.{samples_from}
use Rattle.rs_sample.specs.Words.{words_of}
use Rattle.rs_sample.specs.declared.fault.SampleFault.{SampleFault}
use Rattle.rs_sample.specs.declared.fault.SampleFault.TheVariants.{Memory, Probe}

-- the samples of a block whose entries have this many rows, and the words that are left
abbrev pub block_samples : Block → List ℕ → List ℕ → List (List ℕ) × List ℕ
block_samples block sizes words = samples_from (length block.from) sizes words

-- the questions of a term: one for each choice among the samples of its entries
abbrev pub term_questions : ℕ → Block → List (List ℕ) → Term → List Question
term_questions number block samples term = map (λ rows. question_of number block rows term) (sampled_choices term.entries samples)

-- the questions of a block of this number, term after term
abbrev pub block_questions : ℕ → Block → List (List ℕ) → List Question
block_questions number block samples = flat_map (term_questions number block samples) block.terms

-- the questions of a query, block after block
abbrev pub questions_of : Query → View → ℕ → List Question
questions_of (One block limit) view seed = block_questions 1 block (block_samples block view.first (words_of seed (sum view.first))).0
questions_of (Set op left right limit) view seed =
    let first = block_samples left view.first (words_of seed (sum view.first + sum view.second)) in
    block_questions 1 left first.0 ++ block_questions 2 right (block_samples right view.second first.1).0

-- a call that failed is told by its predicate; no number is told as no score
abbrev pub sample_faults : Faults SampleFault
sample_faults = record { failed = λ predicate. Probe predicate; bad = λ predicate ids got max. Memory }

-- what is taken of a question to the scorer: a number that is no score is put into 0 to the greatest one
abbrev pub sampled_worth : Result ℕ AskFault → Result ℕ SampleFault
sampled_worth (Ok worth) = Ok worth
sampled_worth (Err (asked.BadScore predicate ids got max)) = Ok (clamped max got)
sampled_worth (Err (asked.Probe predicate)) = Err (Probe predicate)
sampled_worth (Err asked.Memory) = Err Memory

-- the predicate that a fault names is one of the catalogue
abbrev pub NamesPredicate : CatalogDef → SampleFault → Type 0
NamesPredicate catalogue (Probe predicate) = predicate < length catalogue.predicates
NamesPredicate catalogue Memory = Unit {0}

-- all these questions are asked in order, whatever their numbers are, and then there is this value
abbrev pub asking_all : {A : Type 0} → CatalogDef → List Question → A → Inquiry A SampleFault
asking_all catalogue questions value = record { requests = map (request_for sample_faults catalogue) questions; outcome = Ok value }

-- no value
abbrev pub done : Unit {0}
done = tt

-- a result, but for its value
abbrev pub done_of : {A : Type 0} → Result A SampleFault → Result (Unit {0}) SampleFault
done_of (Ok value) = Ok done
done_of (Err fault) = Err fault

-- a result as contracts see it
abbrev pub as_list : {A : Type 0} → Result (Vec A Global) SampleFault → Result (List A) SampleFault
as_list (Ok items) = Ok items.items
as_list (Err fault) = Err fault

-- what each term is worth on each choice among the samples of its entries
abbrev pub worths_by_term : Answering → CatalogDef → Block → List (List ℕ) → List (List ℕ)
worths_by_term answer catalogue block samples =
    map (λ (t : Term). map (λ rows. worth_of answer catalogue block rows t) (sampled_choices t.entries samples)) block.terms

module _ (answer : Answering) (catalogue : CatalogDef) where
  -- the cards of a block whose entries have this many rows, by its samples
  abbrev pub sampled_cards : Block → List ℕ → List (List ℕ) → Option ℕ → BlockCards
  sampled_cards block sizes samples limit =
      let cutoff = cutoff_of answer catalogue block sizes samples limit in
      record {
        entries = length block.from;
        reads = map (λ (t : Term). t.entries) block.terms;
        estimate = estimate_of answer catalogue block sizes samples cutoff;
        index_estimate = index_estimate_of answer catalogue block sizes samples cutoff;
      }

  -- the cards of the blocks of a query, by a seed
  abbrev pub query_cards : Query → View → ℕ → List BlockCards
  query_cards (One block limit) view seed =
      sampled_cards block view.first (block_samples block view.first (words_of seed (sum view.first))).0 limit ∷ []
  query_cards (Set op left right limit) view seed =
      let drawn = block_samples left view.first (words_of seed (sum view.first + sum view.second)) in
      sampled_cards left view.first drawn.0 limit ∷ sampled_cards right view.second (block_samples right view.second drawn.1).0 limit ∷ []

  -- cards that say what those of a block say
  abbrev pub AreCards : Block → List ℕ → List (List ℕ) → Option ℕ → BlockCards → Type 0
  AreCards block sizes samples limit cards = SayTheSame cards (sampled_cards block sizes samples limit)
