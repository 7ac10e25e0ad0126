-- What a plain evaluation gives depends on no top of a term.
use Rattle.std.proofs.Common.{ℕ, ◌≡◌, ◌∙◌, ◌+◌, ◌*◌, ◌++◌, List, [], ◌∷◌, map, refl, sym, ap, ap₂, subst}
use Rattle.std.specs.Prelude.{Option, Ok}
use Rattle.std.specs.List.{flat_map}
use Rattle.std.proofs.lemmas.List.{map-append}
use Rattle.rs_rank.specs.Stable.{stable}
use Rattle.rs_rank.specs.declared.answer.Answer.{Answer}
use Rattle.rs_expr.specs.Scoring.{Answering}
use Rattle.rs_catalog.specs.Catalog.{CatalogDef}
use Rattle.rs_query.specs.Answers.{answer_of, answer_row, cut, distinct_if, score_of, worth_of}
use Rattle.rs_query.specs.Combinations.{all_combinations}
use Rattle.rs_query.specs.Meaning.{outputs_of}
use Rattle.rs_query.specs.Questions.{Question, question_of}
use Rattle.rs_query.specs.Tables.{all_entries}
use Rattle.rs_query.specs.Views.{all_rows}
use Rattle.rs_query.specs.declared.block.Block.{Block}
use Rattle.rs_query.specs.declared.term.Term.{Term}
use Rattle.rs_query.specs.declared.query.Query.{Query}
use Rattle.rs_query.specs.declared.query.Query.TheVariants.{One, Set}
use Rattle.rs_plain.specs.Plain.{evaluation_of, questions_of, row_questions}
use Rattle.rs_view.specs.Holding.{AreSameButTops, limited, without_tops, block_without_tops, without_top}
use Rattle.rs_view.specs.Views.{IsKeepable}
use Rattle.rs_view.proofs.HoldingFacts.{asked-well, well-asked}
use Rattle.rs_view.proofs.LifeFacts.{IsGood}

-- the same question without the tops
abbrev bare_question : Question → Question
bare_question q = record { number = q.number; block = block_without_tops q.block; rows = q.rows; term = without_top q.term }

module _ (answer : Answering) (catalogue : CatalogDef) where
  -- it is the same call, with the same number
  good-bare : (questions : List Question) → IsGood answer catalogue questions → IsGood answer catalogue (map bare_question questions)
  good-bare [] good = tt
  good-bare (q ∷ questions) good = (good.0, good-bare questions good.1)

  bare-good : (questions : List Question) → IsGood answer catalogue (map bare_question questions) → IsGood answer catalogue questions
  bare-good [] good = tt
  bare-good (q ∷ questions) good = (good.0, bare-good questions good.1)

  module _ (block : Block) where
    row-bare : (rows : List ℕ) (terms : List Term) → map (question_of 1 (block_without_tops block) rows) (map without_top terms) ≡ map bare_question (map (question_of 1 block rows) terms)
    row-bare rows [] = refl
    row-bare rows (term ∷ terms) = ap (λ rest. question_of 1 (block_without_tops block) rows (without_top term) ∷ rest) (row-bare rows terms)

    rows-bare : (combinations : List (List ℕ)) → flat_map (row_questions 1 (block_without_tops block)) combinations ≡ map bare_question (flat_map (row_questions 1 block) combinations)
    rows-bare [] = refl
    rows-bare (rows ∷ combinations) =
        ap₂ (λ (first rest : List Question). first ++ rest) (row-bare rows block.terms) (rows-bare combinations)
        ∙ sym (map-append bare_question (row_questions 1 block rows) (flat_map (row_questions 1 block) combinations))

    score-bare : (rows : List ℕ) (terms : List Term) → score_of answer catalogue (block_without_tops block) rows (map without_top terms) ≡ score_of answer catalogue block rows terms
    score-bare rows [] = refl
    score-bare rows (term ∷ terms) = ap (λ rest. term.weight * worth_of answer catalogue block rows term + rest) (score-bare rows terms)

    answers-bare : (combinations : List (List ℕ)) → map (answer_row answer catalogue (block_without_tops block) 1) combinations ≡ map (answer_row answer catalogue block 1) combinations
    answers-bare [] = refl
    answers-bare (rows ∷ combinations) =
        ap₂ (λ (score : ℕ) (rest : List Answer). record { ids = record { block = 1; mask = all_entries block; rows = rows }; score = score; values = outputs_of catalogue block rows } ∷ rest)
        (score-bare rows block.terms) (answers-bare combinations)

    module _ (limit : Option ℕ) where
      abbrev own : Query
      own = One block limit

      answer-bare : answer_of answer catalogue (without_tops own) (all_rows catalogue (without_tops own)) ≡ answer_of answer catalogue own (all_rows catalogue own)
      answer-bare = ap (λ rows. cut limit (stable (λ (row : Answer). row.score) (distinct_if block.distinct rows))) (answers-bare (all_combinations catalogue block))

      questions-bare : questions_of catalogue (without_tops own) (all_rows catalogue (without_tops own)) ≡ map bare_question (questions_of catalogue own (all_rows catalogue own))
      questions-bare = rows-bare (all_combinations catalogue block)

  abbrev Gives : Query → List Answer → Type 0
  Gives query rows = (evaluation_of answer catalogue query (all_rows catalogue query)).outcome ≡ Ok rows

  abbrev asked : Query → List Question
  asked query = questions_of catalogue query (all_rows catalogue query)

  abbrev whole : Query → List Answer
  whole query = answer_of answer catalogue query (all_rows catalogue query)

  bare-gives : (block : Block) (limit : Option ℕ) (rows : List Answer) → Gives (One block limit) rows → Gives (without_tops (One block limit)) rows
  bare-gives block limit rows gives =
      let query = One block limit in
      let leads = asked-well answer catalogue (asked query) (whole query) rows gives in
      well-asked answer catalogue (asked (without_tops query)) (whole (without_tops query))
      (subst (IsGood answer catalogue) (sym (questions-bare block limit)) (good-bare (asked query) leads.good))
      ∙ ap Ok (answer-bare block limit ∙ leads.same)

  gives-bare : (block : Block) (limit : Option ℕ) (rows : List Answer) → Gives (without_tops (One block limit)) rows → Gives (One block limit) rows
  gives-bare block limit rows gives =
      let query = One block limit in
      let leads = asked-well answer catalogue (asked (without_tops query)) (whole (without_tops query)) rows gives in
      well-asked answer catalogue (asked query) (whole query)
      (bare-good (asked query) (subst (IsGood answer catalogue) (questions-bare block limit) leads.good))
      ∙ ap Ok (sym (answer-bare block limit) ∙ leads.same)

  -- queries that are the same but for their tops give the same
  pub same-gives : (query other : Query) (rows : List Answer) → IsKeepable query → AreSameButTops query other → Gives query rows → Gives other rows
  same-gives (One block limit) (One own most) rows keepable same gives = gives-bare own most rows (subst (λ (q : Query). Gives q rows) same (bare-gives block limit rows gives))
  same-gives (One block limit) (Set op left right most) rows keepable same gives = absurd cc
  same-gives (Set op left right limit) other rows keepable same gives = absurd keepable

-- with a LIMIT a query is kept as it was
pub keepable-limited : (query : Query) (n : ℕ) → IsKeepable query → IsKeepable (limited n query)
keepable-limited (One block limit) n keepable = keepable
keepable-limited (Set op left right limit) n keepable = absurd keepable

pub limited-same : (query other : Query) (n : ℕ) → AreSameButTops query other → AreSameButTops (limited n query) (limited n other)
limited-same query other n same = tops-limited query n ∙ ap (limited n) same ∙ sym (tops-limited other n) where
  tops-limited : (query : Query) (n : ℕ) → without_tops (limited n query) ≡ limited n (without_tops query)
  tops-limited (One block limit) n = refl
  tops-limited (Set op left right limit) n = refl
