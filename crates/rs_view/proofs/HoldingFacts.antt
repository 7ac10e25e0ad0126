-- Views have their answers: when they are made, behind a growth, and as a catalogue grows without new rows; and what a plain evaluation of their query with
-- another LIMIT gives.
use Rattle.std.proofs.Common.{ℕ, zero, suc, ◌≡◌, ◌∙◌, ◌≤◌, List, [], ◌∷◌, map, min, take, refl, sym, ap, subst, arith}
use Rattle.std.specs.Prelude.{Option, Some, None, Ok, unwrap_or}
use Rattle.rs_rank.specs.Stable.{stable}
use Rattle.rs_rank.specs.declared.answer.Answer.{Answer}
use Rattle.rs_expr.specs.Scoring.{Answering}
use Rattle.rs_catalog.specs.Catalog.{CatalogDef}
use Rattle.rs_query.specs.Answers.{answer_of, cut, rows_of}
use Rattle.rs_query.specs.Blocks.{block_in}
use Rattle.rs_query.specs.Growth.{CatalogueGrows}
use Rattle.rs_query.specs.Questions.{Question, asking, first_of, is_bad, outcome_for}
use Rattle.rs_query.specs.Tables.{sizes_of}
use Rattle.rs_query.specs.Views.{all_rows}
use Rattle.rs_query.specs.WellFormed.{IsLimit, IsQuery}
use Rattle.rs_query.specs.declared.query.Query.{Query}
use Rattle.rs_query.specs.declared.query.Query.TheVariants.{One, Set}
use Rattle.rs_query.proofs.GrownAnswerFacts.{answer_of-grows}
use Rattle.rs_query.proofs.GrowthFacts.{IsViewOf-all, query-grows}
use Rattle.rs_plain.specs.Plain.{evaluation_of, plain_faults, questions_of}
use Rattle.rs_view.specs.Fresh.{fresh_questions, making, whole_view}
use Rattle.rs_view.specs.Holding.{HasItsAnswer, limited}
use Rattle.rs_view.specs.Views.{IsKeepable, ViewDef, kept_rows, most_kept, rows_in, without_values}
use Rattle.rs_view.proofs.CallFacts.{fresh-none}
use Rattle.rs_view.proofs.RowFacts.{ids-back, kept-values}
use Rattle.rs_view.proofs.LifeFacts.{IsGood, first-none, good-behind, none-first}

module _ (answer : Answering) (catalogue : CatalogDef) where
  -- where questions lead to a value no number was bad, and it is the one that they were to lead to
  pub record Leads {A : Type 0} (questions : List Question) (value given : A) : Type 0 where
    pub good : IsGood answer catalogue questions
    pub same : value ≡ given

  pub asked-well : {A : Type 0} (questions : List Question) (value given : A) → (asking plain_faults answer catalogue questions value).outcome ≡ Ok given → Leads questions value given
  asked-well {A} questions value given e = go (first_of (is_bad answer catalogue) questions) refl e where
    go : (first : Option Question) → first_of (is_bad answer catalogue) questions ≡ first → outcome_for plain_faults answer catalogue first value ≡ Ok given → Leads questions value given
    go None none same = record { good = none-first (is_bad answer catalogue) questions none; same = cc }
    go (Some q) some same = absurd cc

  pub well-asked : {A : Type 0} (questions : List Question) (value : A) → IsGood answer catalogue questions → (asking plain_faults answer catalogue questions value).outcome ≡ Ok value
  well-asked questions value good = ap (λ first. outcome_for plain_faults answer catalogue first value) (first-none (is_bad answer catalogue) questions good)

  -- a view over all rows
  whole-has : (query : Query) → IsQuery catalogue query → IsKeepable query → IsGood answer catalogue (questions_of catalogue query (all_rows catalogue query))
      → HasItsAnswer answer catalogue (whole_view answer catalogue query)
  whole-has (One block limit) formed keepable good = record {
    query = formed;
    keepable = keepable;
    lengths = refl;
    rows = kept-values answer catalogue (One block limit) (sizes_of catalogue block) keepable;
    well = well-asked (questions_of catalogue (One block limit) (all_rows catalogue (One block limit))) (answer_of answer catalogue (One block limit) (all_rows catalogue (One block limit))) good;
  }
  whole-has (Set op left right limit) formed keepable good = absurd keepable

  -- a view that has its answer is the one over all rows
  rows-whole : (query : Query) → IsKeepable query → map without_values (take (most_kept query) (answer_of answer catalogue query (all_rows catalogue query))) ≡ (whole_view answer catalogue query).rows
  rows-whole (One block limit) keepable = refl
  rows-whole (Set op left right limit) keepable = absurd keepable

  has-whole : (view : ViewDef) → HasItsAnswer answer catalogue view → view ≡ whole_view answer catalogue view.query
  has-whole view has =
      let rows : view.rows ≡ (whole_view answer catalogue view.query).rows =
      sym (ids-back catalogue (block_in view.query 1) view.rows) ∙ ap (map without_values) has.rows ∙ rows-whole view.query has.keepable in
      λ i. record { query = view.query; lengths = has.lengths i; rows = rows i }

  -- a view that was made
  pub made-has : (query : Query) (view : ViewDef) → IsQuery catalogue query → IsKeepable query → (making answer catalogue query).outcome ≡ Ok view → HasItsAnswer answer catalogue view
  made-has query view formed keepable made =
      let leads = asked-well (questions_of catalogue query (all_rows catalogue query)) (whole_view answer catalogue query) view made in
      subst (HasItsAnswer answer catalogue) leads.same (whole-has query formed keepable leads.good)

  -- it is the view of its query
  pub made-query : (query : Query) (view : ViewDef) → (making answer catalogue query).outcome ≡ Ok view → view.query ≡ query
  made-query query view made =
      ap (λ (v : ViewDef). v.query) (sym (asked-well (questions_of catalogue query (all_rows catalogue query)) (whole_view answer catalogue query) view made).same)

module _ (answer : Answering) (old new : CatalogDef) (grows : CatalogueGrows old new) where
  -- the questions of before and the fresh ones are those of all rows
  all-good : (query : Query) (lengths : List ℕ) → IsQuery old query → IsKeepable query → lengths ≡ sizes_of old (block_in query 1)
      → IsGood answer old (questions_of old query (all_rows old query)) → IsGood answer new (fresh_questions new (block_in query 1) lengths)
      → IsGood answer new (questions_of new query (all_rows new query))
  all-good (One block limit) lengths formed keepable same good more =
      good-behind answer block old new grows formed.0 good (subst (λ sizes. IsGood answer new (fresh_questions new block sizes)) same more)
  all-good (Set op left right limit) lengths formed keepable same good more = absurd keepable

  -- a view that grew
  pub grown-has : (view : ViewDef) → HasItsAnswer answer old view → IsGood answer new (fresh_questions new (block_in view.query 1) view.lengths)
      → HasItsAnswer answer new (whole_view answer new view.query)
  grown-has view has more =
      let query = view.query in
      let whole = answer_of answer old query (all_rows old query) in
      let before = asked-well answer old (questions_of old query (all_rows old query)) whole whole has.well in
      whole-has answer new query (query-grows old new grows query has.query) has.keepable (all-good query view.lengths has.query has.keepable has.lengths before.good more)

  -- where no row joined a table of its query, nothing is new to a view, and it stays as it is
  whole-same : (query : Query) → IsQuery old query → IsKeepable query → sizes_of new (block_in query 1) ≡ sizes_of old (block_in query 1)
      → whole_view answer new query ≡ whole_view answer old query
  whole-same (One block limit) formed keepable same =
      let query = One block limit in
      let rows = answer_of-grows old new grows answer query (all_rows old query) formed (IsViewOf-all old query formed) in
      ap (λ sizes. record { query = query; lengths = sizes; rows = map without_values (kept_rows answer new query sizes) }) same
      ∙ ap (λ first. record { query = query; lengths = sizes_of old block; rows = map without_values (take (most_kept query) first) }) rows
  whole-same (Set op left right limit) formed keepable same = absurd keepable

  pub still-has : (view : ViewDef) → HasItsAnswer answer old view → sizes_of new (block_in view.query 1) ≡ sizes_of old (block_in view.query 1) → HasItsAnswer answer new view
  still-has view has same =
      let query = view.query in
      let nothing : fresh_questions new (block_in query 1) view.lengths ≡ [] = fresh-none new (block_in query 1) view.lengths (has.lengths ∙ sym same) in
      subst (HasItsAnswer answer new) (whole-same query has.query has.keepable same ∙ sym (has-whole answer old view has))
      (grown-has view has (subst (IsGood answer new) (sym nothing) tt))

-- the first ones of the first ones
take-first : {A : Type 0} (n most : ℕ) (xs : List A) → take n (take most xs) ≡ take (min n most) xs
take-first zero most xs = let none : min 0 most ≡ 0 = omega arith in ap (λ (m : ℕ). take m xs) (sym none)
take-first (suc n) zero xs = let none : min (suc n) 0 ≡ 0 = omega arith in ap (λ (m : ℕ). take m xs) (sym none)
take-first (suc n) (suc most) [] = let some : min (suc n) (suc most) ≡ suc (min n most) = omega arith in ap (λ (m : ℕ). take m []) (sym some)
take-first (suc n) (suc most) (x ∷ xs) =
    let some : min (suc n) (suc most) ≡ suc (min n most) = omega arith in
    ap (λ rest. x ∷ rest) (take-first n most xs) ∙ ap (λ (m : ℕ). take m (x ∷ xs)) (sym some)

take-kept : {A : Type 0} (n : ℕ) (limit : Option ℕ) (xs : List A) → take n (take (unwrap_or limit 10) (cut limit xs)) ≡ take (min n (unwrap_or limit 10)) xs
take-kept n None xs = take-first n 10 xs
take-kept n (Some most) xs =
    let few : min (min n most) most ≡ min n most = omega arith in
    take-first n most (take most xs) ∙ take-first (min n most) most xs ∙ ap (λ (m : ℕ). take m xs) few

limit-kept : (n : ℕ) (limit : Option ℕ) → IsLimit limit → min n (unwrap_or limit 10) ≤ 1000000
limit-kept n None is = omega arith
limit-kept n (Some most) is = omega arith

module _ (answer : Answering) (catalogue : CatalogDef) where
  limited-gives : (query : Query) (n : ℕ) → IsKeepable query
      → answer_of answer catalogue (limited (min n (most_kept query)) query) (all_rows catalogue (limited (min n (most_kept query)) query))
      ≡ take n (take (most_kept query) (answer_of answer catalogue query (all_rows catalogue query)))
  limited-gives (One block limit) n keepable = sym (take-kept n limit (stable (λ (row : Answer). row.score) (rows_of answer catalogue (One block limit) (all_rows catalogue (One block limit)))))
  limited-gives (Set op left right limit) n keepable = absurd keepable

  limited-questions : (query : Query) (n : ℕ) → IsKeepable query
      → questions_of catalogue (limited n query) (all_rows catalogue (limited n query)) ≡ questions_of catalogue query (all_rows catalogue query)
  limited-questions (One block limit) n keepable = refl
  limited-questions (Set op left right limit) n keepable = absurd keepable

  limited-formed : (query : Query) (n : ℕ) → IsKeepable query → IsQuery catalogue query → IsQuery catalogue (limited (min n (most_kept query)) query)
  limited-formed (One block limit) n keepable formed = (formed.0, formed.1, limit-kept n limit formed.2)
  limited-formed (Set op left right limit) n keepable formed = absurd keepable

  -- with a LIMIT of at most as many rows as the view has at most, the query has the first rows of the view
  pub limited-query : (view : ViewDef) (n : ℕ) → HasItsAnswer answer catalogue view → IsQuery catalogue (limited (min n (most_kept view.query)) view.query)
  limited-query view n has = limited-formed view.query n has.keepable has.query

  pub limited-has : (view : ViewDef) (n : ℕ) → HasItsAnswer answer catalogue view
      → (evaluation_of answer catalogue (limited (min n (most_kept view.query)) view.query) (all_rows catalogue (limited (min n (most_kept view.query)) view.query))).outcome ≡ Ok (take n (rows_in catalogue view))
  limited-has view n has =
      let query = view.query in
      let fewer = limited (min n (most_kept query)) query in
      let whole = answer_of answer catalogue query (all_rows catalogue query) in
      let before = asked-well answer catalogue (questions_of catalogue query (all_rows catalogue query)) whole whole has.well in
      well-asked answer catalogue (questions_of catalogue fewer (all_rows catalogue fewer)) (answer_of answer catalogue fewer (all_rows catalogue fewer))
      (subst (IsGood answer catalogue) (sym (limited-questions query (min n (most_kept query)) has.keepable)) before.good)
      ∙ ap Ok (limited-gives query n has.keepable ∙ ap (take n) (sym has.rows))
