-- Over its life a view makes the calls of one plain evaluation over its last tables, in another order.
use Rattle.std.proofs.Common.{◌≡◌, ◌∙◌, ◌++◌, Bool, true, false, cond, List, [], ◌∷◌, map, refl, sym, ap, ap₂, subst, append-nil, append_assoc}
use Rattle.std.specs.Prelude.{ℕ, not, Option, Some, None, Ok, if◌then◌else◌}
use Rattle.std.specs.List.{AllByRecursion, filter, flat_map}
use Rattle.std.specs.List.Sorted.{IsPermutation}
use Rattle.std.proofs.lemmas.List.{map-append}
use Rattle.std.proofs.lemmas.List.Sorted.{IsPermutation-append_comm, IsPermutation-append_left, IsPermutation-append_right, IsPermutation-filter_both, IsPermutation-map, IsPermutation-refl, IsPermutation-sym, IsPermutation-trans}
use Rattle.rs_order.specs.Climbing.{In}
use Rattle.rs_order.proofs.ClimbingFacts.{AllByRecursion-In, AllByRecursion-from_In}
use Rattle.rs_order.proofs.ItemFacts.{In-filter, In-filter-back, In-flat_map, In-flat_map-back, In-map-back}
use Rattle.rs_expr.specs.InOrder.{calls_of}
use Rattle.rs_expr.specs.Scores.{is_score}
use Rattle.rs_expr.specs.Scoring.{Answering, call_of}
use Rattle.rs_rank.specs.declared.answer.Answer.{Answer}
use Rattle.rs_catalog.specs.Catalog.{CatalogDef}
use Rattle.rs_expr.specs.Predicates.{PredicateDef}
use Rattle.rs_query.specs.Answers.{answer_of}
use Rattle.rs_query.specs.Combinations.{all_combinations}
use Rattle.rs_query.specs.Fresh.{has_new_row}
use Rattle.rs_query.specs.Growth.{CatalogueGrows}
use Rattle.rs_query.specs.Meaning.{is_inside}
use Rattle.rs_query.specs.Questions.{Question, asking, call_for, first_of, is_bad, outcome_for, question_of, request_for}
use Rattle.rs_query.specs.Tables.{all_entries, sizes_of}
use Rattle.rs_query.specs.Views.{all_rows}
use Rattle.rs_query.specs.WellFormed.{IsBlock, IsQuery, IsTerm}
use Rattle.rs_query.specs.declared.block.Block.{Block}
use Rattle.rs_query.specs.declared.query.Query.{Query}
use Rattle.rs_query.specs.declared.query.Query.TheVariants.{One, Set}
use Rattle.rs_query.specs.declared.term.Term.{Term}
use Rattle.rs_query.proofs.ChoiceFacts.{In-combinations-back}
use Rattle.rs_query.proofs.EntryFacts.{terms-inside}
use Rattle.rs_query.proofs.GrownAnswerFacts.{HasRows-sizes, argument_values-grow, number-grows, predicate-grows}
use Rattle.rs_query.proofs.GrowthFacts.{IsSizes-all, block-grows}
use Rattle.rs_query.proofs.KeptCombinations.{combinations-kept}
use Rattle.rs_query.proofs.LocalFacts.{map-same}
use Rattle.rs_query.proofs.ThroughFacts.{through-all}
use Rattle.rs_plain.specs.Plain.{evaluation_of, plain_faults, row_questions}
use Rattle.rs_view.specs.Fresh.{fresh, fresh_questions, growing, making, whole_view}
use Rattle.rs_view.specs.Lives.{GrowInTurn, growth_calls, last_from, life_calls}
use Rattle.rs_view.specs.Views.{IsKeepable}

-- what is made of the items that fail a test, and then of those that pass, is what is made of all, in another order
flat-parts : {X Y : Type 0} (p : X → Bool) (f : X → List Y) (xs : List X)
    → IsPermutation (flat_map f (filter (λ x. not (p x)) xs) ++ flat_map f (filter p xs)) (flat_map f xs)
flat-parts p f [] = IsPermutation-refl []
flat-parts {X} {Y} p f (x ∷ xs) = go (p x) (flat-parts p f xs) where
  go : (b : Bool) → IsPermutation (flat_map f (filter (λ x. not (p x)) xs) ++ flat_map f (filter p xs)) (flat_map f xs)
      → IsPermutation (flat_map f (cond (not b) (x ∷ filter (λ x. not (p x)) xs) (filter (λ x. not (p x)) xs)) ++ flat_map f (cond b (x ∷ filter p xs) (filter p xs))) (f x ++ flat_map f xs)
  go true rest =
      let fails = flat_map f (filter (λ x. not (p x)) xs) in
      let passes = flat_map f (filter p xs) in
      subst (λ ys. IsPermutation ys (f x ++ flat_map f xs)) (append_assoc fails (f x) passes)
      (IsPermutation-trans ((fails ++ f x) ++ passes) ((f x ++ fails) ++ passes) (f x ++ flat_map f xs)
      (IsPermutation-append_left passes (fails ++ f x) (f x ++ fails) (IsPermutation-append_comm fails (f x)))
      (subst (λ ys. IsPermutation ys (f x ++ flat_map f xs)) (sym (append_assoc (f x) fails passes))
      (IsPermutation-append_right (f x) (fails ++ passes) (flat_map f xs) rest)))
  go false rest =
      let fails = flat_map f (filter (λ x. not (p x)) xs) in
      let passes = flat_map f (filter p xs) in
      subst (λ ys. IsPermutation ys (f x ++ flat_map f xs)) (sym (append_assoc (f x) fails passes))
      (IsPermutation-append_right (f x) (fails ++ passes) (flat_map f xs) rest)

-- the first item of which something is so: there is none where it is so of none
pub first-none : {A : Type 0} (is : A → Bool) (xs : List A) → AllByRecursion (λ x. is x ≡ false) xs → first_of is xs ≡ None
first-none is [] none = refl
first-none is (x ∷ xs) none = ap (λ b. if b then Some x else first_of is xs) none.0 ∙ first-none is xs none.1

pub none-first : {A : Type 0} (is : A → Bool) (xs : List A) → first_of is xs ≡ None → AllByRecursion (λ x. is x ≡ false) xs
none-first is [] e = tt
none-first {A} is (x ∷ xs) e = go (is x) refl (none-first is xs) e where
  go : (b : Bool) → is x ≡ b → (first_of is xs ≡ None → AllByRecursion (λ x. is x ≡ false) xs) → (if b then Some x else first_of is xs) ≡ None
      → (is x ≡ false) × AllByRecursion (λ x. is x ≡ false) xs
  go true same rest e = absurd cc
  go false same rest e = (same, rest e)

-- the combinations of before and the fresh ones are all, in another order
pub combinations-parts : (old new : CatalogDef) (block : Block) → CatalogueGrows old new → IsBlock old block
    → IsPermutation (all_combinations old block ++ fresh new block (sizes_of old block)) (all_combinations new block)
combinations-parts old new block grows is =
    let is_new = has_new_row (sizes_of old block) in
    let all = all_combinations new block in
    let newer = filter is_new all in
    let older = filter (λ rows. not (is_new rows)) all in
    subst (λ before. IsPermutation (before ++ newer) all) (combinations-kept old new grows block is)
    (IsPermutation-trans (older ++ newer) (newer ++ older) all (IsPermutation-append_comm older newer)
    (IsPermutation-sym all (newer ++ older) (IsPermutation-filter_both is_new (λ rows. not (is_new rows)) (λ rows. refl) all)))

module _ (answer : Answering) where
  abbrev pub IsGood : CatalogDef → List Question → Type 0
  IsGood catalogue questions = AllByRecursion (λ q. is_bad answer catalogue q ≡ false) questions

  request-calls : (catalogue : CatalogDef) (questions : List Question) → calls_of (map (request_for plain_faults catalogue) questions) ≡ map (call_for catalogue) questions
  request-calls catalogue [] = refl
  request-calls catalogue (q ∷ qs) = ap (λ rest. call_for catalogue q ∷ rest) (request-calls catalogue qs)

  -- where no number is bad all questions are asked
  asked-all : {A : Type 0} (catalogue : CatalogDef) (questions : List Question) (value : A) → IsGood catalogue questions
      → calls_of (asking plain_faults answer catalogue questions value).requests ≡ map (call_for catalogue) questions
  asked-all catalogue questions value good =
      ap (λ qs. calls_of (map (request_for plain_faults catalogue) qs)) (through-all (is_bad answer catalogue) questions (first-none (is_bad answer catalogue) questions good))
      ∙ request-calls catalogue questions

  good-outcome : {A : Type 0} (catalogue : CatalogDef) (questions : List Question) (value given : A)
      → (asking plain_faults answer catalogue questions value).outcome ≡ Ok given → IsGood catalogue questions
  good-outcome {A} catalogue questions value given e = none-first (is_bad answer catalogue) questions (go (first_of (is_bad answer catalogue) questions) e) where
    go : (first : Option Question) → outcome_for plain_faults answer catalogue first value ≡ Ok given → first ≡ None
    go None same = refl
    go (Some q) same = absurd cc

  module _ (block : Block) where
    abbrev pub all_questions : CatalogDef → List Question
    all_questions catalogue = flat_map (row_questions 1 block) (all_combinations catalogue block)

    module _ (old new : CatalogDef) (grows : CatalogueGrows old new) (is : IsBlock old block) where
      -- a question of before is the same call, with the same number
      record Same (q : Question) : Type 0 where
        call : call_for new q ≡ call_for old q
        bad : is_bad answer new q ≡ is_bad answer old q

      same-question : (q : Question) → In q (all_questions old) → Same q
      same-question q h =
          let made = In-flat_map-back (row_questions 1 block) q (all_combinations old block) h in
          let rows = made.source in
          let asked = In-map-back (question_of 1 block rows) q block.terms made.made in
          let term = asked.source in
          let formed = AllByRecursion-In (IsTerm old block) block.terms is.terms term asked.is_in in
          let inside = AllByRecursion-In (λ (t : Term). is_inside t.entries (all_entries block) ≡ true) block.terms (terms-inside old block is) term asked.is_in in
          let has = HasRows-sizes old block (sizes_of old block) (all_entries block) rows (IsSizes-all old block is)
          (In-combinations-back old block (sizes_of old block) (all_entries block) rows made.is_in).0 in
          let predicate = predicate-grows old new grows block term formed in
          let same : Same (question_of 1 block rows term) = record {
            call = ap₂ call_of predicate (argument_values-grow old new grows block rows (all_entries block) has term formed inside);
            bad = ap₂ (λ (p : PredicateDef) n. not (is_score p.max n)) predicate (number-grows old new grows block rows (all_entries block) has answer term formed inside);
          } in subst Same (sym asked.image) same

      -- where all numbers are good behind a growth, they were before it
      good-before : IsGood new (all_questions new) → IsGood old (all_questions old)
      good-before good =
          AllByRecursion-from_In (λ q. is_bad answer old q ≡ false) (all_questions old)
          (λ q h.
          let made = In-flat_map-back (row_questions 1 block) q (all_combinations old block) h in
          let kept = subst (In made.source) (sym (combinations-kept old new grows block is)) made.is_in in
          let there = (In-filter-back (λ rows. not (has_new_row (sizes_of old block) rows)) made.source (all_combinations new block) kept).0 in
          sym ((same-question q h).bad)
          ∙ AllByRecursion-In (λ q. is_bad answer new q ≡ false) (all_questions new) good q (In-flat_map (row_questions 1 block) made.source q (all_combinations new block) there made.made))

      -- and those of the fresh questions are
      good-fresh : IsGood new (all_questions new) → IsGood new (fresh_questions new block (sizes_of old block))
      good-fresh good =
          AllByRecursion-from_In (λ q. is_bad answer new q ≡ false) (fresh_questions new block (sizes_of old block))
          (λ q h.
          let made = In-flat_map-back (row_questions 1 block) q (fresh new block (sizes_of old block)) h in
          let there = (In-filter-back (has_new_row (sizes_of old block)) made.source (all_combinations new block) made.is_in).0 in
          AllByRecursion-In (λ q. is_bad answer new q ≡ false) (all_questions new) good q (In-flat_map (row_questions 1 block) made.source q (all_combinations new block) there made.made))

      -- where they were good before it, and those of the fresh questions are, all are
      pub good-behind : IsGood old (all_questions old) → IsGood new (fresh_questions new block (sizes_of old block)) → IsGood new (all_questions new)
      good-behind good more =
          AllByRecursion-from_In (λ q. is_bad answer new q ≡ false) (all_questions new)
          (λ q h.
          let made = In-flat_map-back (row_questions 1 block) q (all_combinations new block) h in
          each q made.source made.is_in made.made (has_new_row (sizes_of old block) made.source) refl) where
            each : (q : Question) (rows : List ℕ) → In rows (all_combinations new block) → In q (row_questions 1 block rows)
                → (b : Bool) → has_new_row (sizes_of old block) rows ≡ b → is_bad answer new q ≡ false
            each q rows there asked true is_new =
                AllByRecursion-In (λ q. is_bad answer new q ≡ false) (fresh_questions new block (sizes_of old block)) more q
                (In-flat_map (row_questions 1 block) rows q (fresh new block (sizes_of old block))
                (In-filter (has_new_row (sizes_of old block)) rows (all_combinations new block) there is_new) asked)
            each q rows there asked false none =
                let kept = In-filter (λ rows. not (has_new_row (sizes_of old block) rows)) rows (all_combinations new block) there (ap not none) in
                let before = subst (In rows) (combinations-kept old new grows block is) kept in
                let old_one = In-flat_map (row_questions 1 block) rows q (all_combinations old block) before asked in
                (same-question q old_one).bad ∙ AllByRecursion-In (λ q. is_bad answer old q ≡ false) (all_questions old) good q old_one

      -- the calls of before and those of the fresh questions are all
      calls-parts : IsPermutation (map (call_for old) (all_questions old) ++ map (call_for new) (fresh_questions new block (sizes_of old block))) (map (call_for new) (all_questions new))
      calls-parts =
          let later = fresh_questions new block (sizes_of old block) in
          let same : map (call_for new) (all_questions old) ≡ map (call_for old) (all_questions old) =
          map-same (call_for new) (call_for old) (all_questions old) (λ q h. (same-question q h).call) in
          let parts = subst (λ before. IsPermutation (flat_map (row_questions 1 block) before ++ later) (all_questions new)) (combinations-kept old new grows block is)
          (flat-parts (has_new_row (sizes_of old block)) (row_questions 1 block) (all_combinations new block)) in
          subst (λ calls. IsPermutation calls (map (call_for new) (all_questions new)))
          (map-append (call_for new) (all_questions old) later ∙ ap (λ calls. calls ++ map (call_for new) later) same)
          (IsPermutation-map (call_for new) (all_questions old ++ later) (all_questions new) parts)

    module _ (limit : Option ℕ) where
      abbrev query : Query
      query = One block limit

      -- what holds of a view's life from a catalogue on
      record Lives (first : CatalogDef) (later : List CatalogDef) : Type 0 where
        good : IsGood first (all_questions first)
        calls : IsPermutation (map (call_for first) (all_questions first) ++ growth_calls answer query first later)
            (map (call_for (last_from first later)) (all_questions (last_from first later)))

      lives : (first : CatalogDef) (later : List CatalogDef) → IsBlock first block → GrowInTurn first later
          → IsGood (last_from first later) (all_questions (last_from first later)) → Lives first later
      lives first [] formed turns good = record {
        good = good;
        calls = subst (λ calls. IsPermutation calls (map (call_for first) (all_questions first))) (sym (append-nil (map (call_for first) (all_questions first))))
            (IsPermutation-refl (map (call_for first) (all_questions first)));
      }
      lives first (next ∷ later) formed turns good =
          let rest = lives next later (block-grows first next turns.0 block formed) turns.1 good in
          let before = map (call_for first) (all_questions first) in
          let grown = calls_of (growing answer next (whole_view answer first query)).requests in
          let behind = growth_calls answer query next later in
          let all = map (call_for next) (all_questions next) in
          let last = map (call_for (last_from next later)) (all_questions (last_from next later)) in
          let asked : grown ≡ map (call_for next) (fresh_questions next block (sizes_of first block)) =
          asked-all next (fresh_questions next block (sizes_of first block)) (whole_view answer next query) (good-fresh first next turns.0 formed rest.good) in
          let step : IsPermutation (before ++ grown) all =
          subst (λ calls. IsPermutation (before ++ calls) all) (sym asked) (calls-parts first next turns.0 formed) in record {
            good = good-before first next turns.0 formed rest.good;
            calls = subst (λ calls. IsPermutation calls last) (append_assoc before grown behind)
                (IsPermutation-trans ((before ++ grown) ++ behind) (all ++ behind) last (IsPermutation-append_left behind (before ++ grown) all step) rest.calls);
          }

  -- so its calls are those of one plain evaluation over the last tables, in another order
  pub life-calls : (query : Query) (first : CatalogDef) (later : List CatalogDef) (rows : List Answer) → IsQuery first query → IsKeepable query → GrowInTurn first later
      → (evaluation_of answer (last_from first later) query (all_rows (last_from first later) query)).outcome ≡ Ok rows
      → IsPermutation (life_calls answer query first later) (calls_of (evaluation_of answer (last_from first later) query (all_rows (last_from first later) query)).requests)
  life-calls (One block limit) first later rows formed keepable turns ends =
      let last = last_from first later in
      let query = One block limit in
      let good = good-outcome last (all_questions block last) (answer_of answer last query (all_rows last query)) rows ends in
      let all = lives block limit first later formed.0 turns good in
      let growth = growth_calls answer query first later in
      let made : calls_of (making answer first query).requests ≡ map (call_for first) (all_questions block first) =
      asked-all first (all_questions block first) (whole_view answer first query) all.good in
      let plain : calls_of (evaluation_of answer last query (all_rows last query)).requests ≡ map (call_for last) (all_questions block last) =
      asked-all last (all_questions block last) (answer_of answer last query (all_rows last query)) good in
      subst (λ calls. IsPermutation (life_calls answer query first later) calls) (sym plain)
      (subst (λ calls. IsPermutation (calls ++ growth) (map (call_for last) (all_questions block last))) (sym made) all.calls)
  life-calls (Set op left right limit) first later rows formed keepable turns ends = absurd keepable
