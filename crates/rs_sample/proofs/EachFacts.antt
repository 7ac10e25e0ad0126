-- Questions that are asked for one item of a list after another, each with a value.
use Rattle.std.proofs.Common.{ℕ, ◌≡◌, ◌∙◌, ◌+◌, ◌<◌, ◌≤◌, ◌++◌, List, [], ◌∷◌, length, map, take, drop, get_or, sym, ap, subst, append_assoc}
use Rattle.std.specs.Prelude.{Result, Ok, Err}
use Rattle.std.specs.List.{flat_map}
use Rattle.std.proofs.lemmas.List.{take_all}
use Rattle.rs_expr.specs.InOrder.{Inquires}
use Rattle.rs_expr.specs.Scoring.{Answering, ScorerState}
use Rattle.rs_catalog.specs.Catalog.{CatalogDef}
use Rattle.rs_query.specs.Questions.{Question}
use Rattle.rs_sample.specs.Sampling.{asking_all}
use Rattle.rs_sample.specs.declared.fault.SampleFault.{SampleFault}
use Rattle.rs_sample.specs.declared.fault.SampleFault.TheVariants.{Memory}
use Rattle.rs_sample.proofs.AskingFacts.{Asked, Asked-more, Asked-ok, Inquires-all, Inquires-faulted, Inquires-within, value-ok}
use Rattle.rs_sample.proofs.ListFacts.{flat_map-around, flat_map-with, map-with}

module _ (catalogue : CatalogDef) {X A : Type 0} (asks : X → List Question) (value : Answering → X → A) where
  -- the questions of these items were asked, and these are their values
  pub record EachAsked (xs : List X) (values : List A) (old new : ScorerState) : Type 0 where
    pub asked : Asked catalogue (flat_map asks xs) old new
    pub values_are : values ≡ map (value old.answer) xs

  module _ (xs : List X) (i : ℕ) (x : X) (values : List A) (old middle new : ScorerState) (within : i < length xs) (is : x ≡ get_or xs i x)
      (each : EachAsked (take i xs) values old middle) where
    -- one more item
    pub EachAsked-more : (given : A) → Inquires Memory (asking_all catalogue (asks x) (value middle.answer x)) (Ok given) middle new
        → EachAsked (take (i + 1) xs) (values ++ given ∷ []) old new
    EachAsked-more given inquired = record {
      asked = subst (λ questions. Asked catalogue questions old new) (sym (flat_map-with asks xs i x within is))
          (Asked-more catalogue (flat_map asks (take i xs)) (asks x) old middle new each.asked (Asked-ok catalogue (asks x) (value middle.answer x) given middle new inquired));
      values_are = ap (λ vs. vs ++ given ∷ []) each.values_are
          ∙ ap (λ v. map (value old.answer) (take i xs) ++ v ∷ []) (value-ok catalogue (asks x) (value middle.answer x) given middle new inquired ∙ ap (λ a. value a x) each.asked.keeps.answer)
          ∙ sym (map-with (value old.answer) xs i x within is);
    }

    -- a fault of one item
    pub EachAsked-faulted : {B : Type 0} (whole : B) (fault : SampleFault) (result : Result B SampleFault) → result ≡ Err fault
        → Inquires Memory (asking_all catalogue (asks x) (value middle.answer x)) (Err fault) middle new
        → Inquires Memory (asking_all catalogue (flat_map asks xs) whole) result old new
    EachAsked-faulted {B} whole fault result is_err inquired =
        Inquires-faulted catalogue (flat_map asks (take i xs)) (asks x) (flat_map asks (drop (i + 1) xs)) (flat_map asks xs) (value middle.answer x) whole fault result old middle new
        (flat_map-around asks xs i x within is) is_err each.asked inquired

    -- there was none behind them
    pub EachAsked-behind : {B : Type 0} (whole : B) (given : A) (result : Result B SampleFault) → result ≡ Err Memory
        → Inquires Memory (asking_all catalogue (asks x) (value middle.answer x)) (Ok given) middle new
        → Inquires Memory (asking_all catalogue (flat_map asks xs) whole) result old new
    EachAsked-behind {B} whole given result is_err inquired =
        Inquires-within catalogue (flat_map asks (take i xs) ++ asks x) (flat_map asks (drop (i + 1) xs)) (flat_map asks xs) whole result old new
        (flat_map-around asks xs i x within is ∙ sym (append_assoc (flat_map asks (take i xs)) (asks x) (flat_map asks (drop (i + 1) xs)))) is_err
        (Asked-more catalogue (flat_map asks (take i xs)) (asks x) old middle new each.asked (Asked-ok catalogue (asks x) (value middle.answer x) given middle new inquired))

  -- there was no memory before the questions of an item
  pub EachAsked-before : (xs : List X) (i : ℕ) (x : X) (values : List A) (old middle : ScorerState) → i < length xs → x ≡ get_or xs i x → EachAsked (take i xs) values old middle
      → {B : Type 0} (whole : B) (result : Result B SampleFault) → result ≡ Err Memory → Inquires Memory (asking_all catalogue (flat_map asks xs) whole) result old middle
  EachAsked-before xs i x values old middle within is each {B} whole result is_err =
      Inquires-within catalogue (flat_map asks (take i xs)) (asks x ++ flat_map asks (drop (i + 1) xs)) (flat_map asks xs) whole result old middle
      (flat_map-around asks xs i x within is) is_err each.asked

  -- all items
  pub EachAsked-all : (xs : List X) (i : ℕ) (values : List A) (old new : ScorerState) → length xs ≤ i → EachAsked (take i xs) values old new
      → Inquires Memory (asking_all catalogue (flat_map asks xs) (map (value old.answer) xs)) (Ok values) old new
  EachAsked-all xs i values old new all each =
      Inquires-all catalogue (flat_map asks (take i xs)) (flat_map asks xs) (map (value old.answer) xs) values old new (ap (flat_map asks) (sym (take_all i xs all)))
      (each.values_are ∙ ap (map (value old.answer)) (take_all i xs all)) each.asked
