-- Queries whose terms have their tops: they are well formed, and no term of them is worth more.
use Rattle.std.proofs.Common.{ℕ, suc, ◌≡◌, ◌∙◌, ◌+◌, ◌-◌, ◌≤◌, max, Bool, true, false, cond, eqb, eq-eqb, List, [], ◌∷◌, length, map, refl, sym, ap, subst, inl, inr, arith}
use Rattle.std.specs.Prelude.{Option, Some, None, Ok, bit_and, option_map, unwrap_or}
use Rattle.std.specs.Int.{bit_at}
use Rattle.std.specs.List.{AllByRecursion}
use Rattle.std.proofs.lemmas.Bool.{eqb-true}
use Rattle.std.proofs.lemmas.List.{length-map}
use Rattle.std.proofs.lemmas.Nat.Bits.{bit_at_and, same_from_bits}
use Rattle.rs_order.specs.Climbing.{In}
use Rattle.rs_order.proofs.ClimbingFacts.{AllByRecursion-In}
use Rattle.rs_order.proofs.EachFacts.{each-slice_get, each-weaker}
use Rattle.rs_expr.specs.Predicates.{PredicateDef}
use Rattle.rs_expr.specs.Scoring.{Answering}
use Rattle.rs_catalog.specs.Catalog.{CatalogDef, RankIndex}
use Rattle.rs_value.specs.declared.value.Value.{Value}
use Rattle.rs_rank.specs.declared.scored_row.ScoredRow.{ScoredRow}
use Rattle.rs_catalog.specs.Indexes.{IsRanking, index_of, making_of, predicate_for, ranking_at, rows_for}
use Rattle.rs_catalog.specs.declared.index.BoundArg.{BoundArg}
use Rattle.rs_catalog.specs.IndexesHold.{IndexHolds, IndexesHold}
use Rattle.rs_catalog.proofs.IndexForFacts.{index-for}
use Rattle.rs_query.specs.declared.block.Block.{Block}
use Rattle.rs_query.specs.declared.term.Term.{Term}
use Rattle.rs_query.specs.declared.query.Query.{Query}
use Rattle.rs_query.specs.declared.query.Query.TheVariants.{One, Set}
use Rattle.rs_query.specs.Answers.{predicate_at, worth_of}
use Rattle.rs_query.specs.Blocks.{block_in}
use Rattle.rs_query.specs.Combinations.{combinations}
use Rattle.rs_query.specs.Conjuncts.{ConjunctDef}
use Rattle.rs_query.specs.Growth.{CatalogueGrows, IsSizes}
use Rattle.rs_query.specs.Meaning.{is_inside}
use Rattle.rs_query.specs.Tables.{HasRows}
use Rattle.rs_query.specs.Tops.{HasTops, IsBounded, WorthsAreWithin, bounded_by, first_score, greater_of, maxima_of, set_tops, top_by, top_of, tops_of, with_maxima, with_tops}
use Rattle.rs_query.specs.WellFormed.{AreSameTerms, HasOutputs, IsBlock, IsConjunct, IsQuery, IsTerm}
use Rattle.rs_query.proofs.AskFacts.{predicate_at-is}
use Rattle.rs_query.proofs.BlockFacts.{block-formed}
use Rattle.rs_query.proofs.ChoiceFacts.{In-combinations-back}
use Rattle.rs_query.proofs.GrownAnswerFacts.{HasRows-sizes, worth-grows}
use Rattle.rs_query.proofs.GrowthFacts.{size-grows}
use Rattle.rs_query.proofs.LocalFacts.{inside-has}
use Rattle.rs_query.proofs.TopFacts.{first_score-low, top-by_cases, worth-top}

-- numbers that agree one by one
pub same-in : {A : Type 0} (f g : A → ℕ) (xs : List A) (x : A) → map f xs ≡ map g xs → In x xs → f x ≡ g x
same-in f g [] x same here = absurd here
same-in f g (y ∷ ys) x same here =
    let first : f y ≡ g y = cc in
    let others : map f ys ≡ map g ys = cc in
    elim here [ inl e ↦ ap f e ∙ first ∙ sym (ap g e) | inr behind ↦ same-in f g ys x others behind ]

-- numbers that are the greater ones of theirs and of others are no less than theirs
left-most : {A : Type 0} (f g : A → ℕ) (xs : List A) (ys : List ℕ) (x : A) → map f xs ≡ greater_of (map g xs) ys → In x xs → g x ≤ f x
left-most f g [] ys x same here = absurd here
left-most f g (z ∷ xs) [] x same here = absurd cc
left-most f g (z ∷ xs) (y ∷ ys) x same here =
    let first : f z ≡ max (g z) y = cc in
    let others : map f xs ≡ greater_of (map g xs) ys = cc in
    elim here [
      | inl e ↦ let own = ap f e in let top = ap g e in omega arith
      | inr behind ↦ left-most f g xs ys x others behind
    ]

right-most : {A : Type 0} (f g : A → ℕ) (xs : List A) (ys : List ℕ) (x : A) → map f xs ≡ greater_of ys (map g xs) → In x xs → g x ≤ f x
right-most f g [] ys x same here = absurd here
right-most f g (z ∷ xs) [] x same here = absurd cc
right-most f g (z ∷ xs) (y ∷ ys) x same here =
    let first : f z ≡ max y (g z) = cc in
    let others : map f xs ≡ greater_of ys (map g xs) = cc in
    elim here [
      | inl e ↦ let own = ap f e in let top = ap g e in omega arith
      | inr behind ↦ right-most f g xs ys x others behind
    ]

module _ (answer : Answering) (catalogue : CatalogDef) (holds : IndexesHold answer catalogue) where
  -- so no worth passes a maximum
  pub bounded-tops : (query : Query) → HasTops catalogue query → IsBounded answer catalogue query
  bounded-tops (One block limit) tops = λ number rows term inside has.
      let top = worth-top answer catalogue block rows term holds has in
      let same : term.max ≡ top_of catalogue block term = same-in (λ (t : Term). t.max) (top_of catalogue block) block.terms term tops inside in
      omega arith
  bounded-tops (Set op left right limit) tops = λ number. go (eqb number 1) where
    go : (b : Bool) → WorthsAreWithin answer catalogue (cond b left right)
    go true rows term inside has =
        let top = worth-top answer catalogue left rows term holds has in
        let most = left-most (λ (t : Term). t.max) (top_of catalogue left) left.terms (tops_of catalogue right) term tops.0 inside in
        omega arith
    go false rows term inside has =
        let top = worth-top answer catalogue right rows term holds has in
        let most = right-most (λ (t : Term). t.max) (top_of catalogue right) right.terms (tops_of catalogue left) term tops.1 inside in
        omega arith

-- terms with new maxima have these
maxima-with : (maxima : List ℕ) (terms : List Term) → length maxima ≡ length terms → maxima_of (with_maxima maxima terms) ≡ maxima
maxima-with [] [] same = refl
maxima-with [] (t ∷ ts) same = absurd (omega arith)
maxima-with (m ∷ ms) [] same = absurd (omega arith)
maxima-with (m ∷ ms) (t ∷ ts) same = ap (λ rest. m ∷ rest) (maxima-with ms ts (omega arith))

-- and their tops are those of before, since a top reads no maximum
tops-with : (catalogue : CatalogDef) (block : Block) (maxima : List ℕ) (terms : List Term) → map (top_of catalogue block) (with_maxima maxima terms) ≡ map (top_of catalogue block) terms
tops-with catalogue block [] terms = refl
tops-with catalogue block (m ∷ ms) [] = refl
tops-with catalogue block (m ∷ ms) (t ∷ ts) = ap (λ rest. top_of catalogue block t ∷ rest) (tops-with catalogue block ms ts)

length-greater : (xs ys : List ℕ) → length xs ≡ length ys → length (greater_of xs ys) ≡ length xs
length-greater [] ys same = refl
length-greater (x ∷ xs) [] same = absurd (omega arith)
length-greater (x ∷ xs) (y ∷ ys) same = ap suc (length-greater xs ys (omega arith))

same-lengths : (left right : Block) (xs ys : List Term) → AreSameTerms left right xs ys → length xs ≡ length ys
same-lengths left right [] [] same = refl
same-lengths left right [] (y ∷ ys) same = absurd same
same-lengths left right (x ∷ xs) [] same = absurd same
same-lengths left right (x ∷ xs) (y ∷ ys) same = ap suc (same-lengths left right xs ys same.1)

-- a query that gets its tops has them
pub has-tops : (catalogue : CatalogDef) (query : Query) → IsQuery catalogue query → HasTops catalogue (with_tops catalogue query)
has-tops catalogue (One block limit) is =
    maxima-with (tops_of catalogue block) block.terms (length-map block.terms (top_of catalogue block))
    ∙ sym (tops-with catalogue block (tops_of catalogue block) block.terms)
has-tops catalogue (Set op left right limit) is =
    let terms = same-lengths left right left.terms right.terms is.0.terms in
    let left_count : length (tops_of catalogue left) ≡ length left.terms = length-map left.terms (top_of catalogue left) in
    let right_count : length (tops_of catalogue right) ≡ length right.terms = length-map right.terms (top_of catalogue right) in
    let both = length-greater (tops_of catalogue left) (tops_of catalogue right) (omega arith) in
    let tops : set_tops catalogue left right ≡ set_tops catalogue (bounded_by (set_tops catalogue left right) left) (bounded_by (set_tops catalogue left right) right) =
    ap (λ ts. greater_of ts (tops_of catalogue right)) (sym (tops-with catalogue left (set_tops catalogue left right) left.terms))
    ∙ ap (greater_of (map (top_of catalogue left) (with_maxima (set_tops catalogue left right) left.terms))) (sym (tops-with catalogue right (set_tops catalogue left right) right.terms)) in (
      maxima-with (set_tops catalogue left right) left.terms (omega arith) ∙ tops,
      maxima-with (set_tops catalogue left right) right.terms (omega arith) ∙ tops,
    )

-- a block whose terms get maxima that their predicates may give stays well formed
module _ (catalogue : CatalogDef) (block : Block) (maxima : List ℕ) where
  conjunct-bounded : (conjunct : ConjunctDef) → IsConjunct catalogue block conjunct → IsConjunct catalogue (bounded_by maxima block) conjunct
  conjunct-bounded conjunct is = record {
    columns = is.columns;
    distinct = is.distinct;
    entries = is.entries;
    uses = is.uses;
    narrow = is.narrow;
    equality = is.equality;
  }

  term-bounded : (most : ℕ) (term : Term) → most ≤ (predicate_at catalogue term.predicate).max → IsTerm catalogue block term → IsTerm catalogue (bounded_by maxima block) (record term { max = most })
  term-bounded most term low is = record {
    predicate = is.predicate;
    has_predicate = is.has_predicate;
    args = is.args;
    some_column = is.some_column;
    entries = is.entries;
    some_weight = is.some_weight;
    most_weight = is.most_weight;
    max = let same = ap (λ (p : PredicateDef). p.max) (predicate_at-is catalogue term.predicate is.predicate is.has_predicate) in omega arith;
  }

  own-term : (term : Term) → IsTerm catalogue block term → IsTerm catalogue (bounded_by maxima block) term
  own-term term is = record {
    predicate = is.predicate;
    has_predicate = is.has_predicate;
    args = is.args;
    some_column = is.some_column;
    entries = is.entries;
    some_weight = is.some_weight;
    most_weight = is.most_weight;
    max = is.max;
  }

  -- one by one, the maxima are those that the terms' predicates may give
  abbrev pub AreLow : List ℕ → List Term → Type 0
  AreLow [] terms = Unit {0}
  AreLow (most ∷ others) [] = Unit {0}
  AreLow (most ∷ others) (term ∷ terms) = (most ≤ (predicate_at catalogue term.predicate).max) × AreLow others terms

  terms-bounded : (all : List ℕ) (terms : List Term) → AreLow all terms → AllByRecursion (IsTerm catalogue block) terms
      → AllByRecursion (IsTerm catalogue (bounded_by maxima block)) (with_maxima all terms)
  terms-bounded [] terms low are = each-weaker (IsTerm catalogue block) (IsTerm catalogue (bounded_by maxima block)) own-term terms are
  terms-bounded (most ∷ others) [] low are = tt
  terms-bounded (most ∷ others) (term ∷ terms) low are = (term-bounded most term low.0 are.0, terms-bounded others terms low.1 are.1)

  length-with : (all : List ℕ) (terms : List Term) → length (with_maxima all terms) ≡ length terms
  length-with [] terms = refl
  length-with (most ∷ others) [] = refl
  length-with (most ∷ others) (term ∷ terms) = ap suc (length-with others terms)

  outputs-bounded : (all : List ℕ) (terms : List Term) → AllByRecursion (HasOutputs block) terms → AllByRecursion (HasOutputs (bounded_by maxima block)) (with_maxima all terms)
  outputs-bounded [] terms are = are
  outputs-bounded (most ∷ others) [] are = tt
  outputs-bounded (most ∷ others) (term ∷ terms) are = (are.0, outputs-bounded others terms are.1)

  block-bounded : AreLow maxima block.terms → IsBlock catalogue block → IsBlock catalogue (bounded_by maxima block)
  block-bounded low is = record {
    some_entries = is.some_entries;
    most_entries = is.most_entries;
    entries = is.entries;
    most_conjuncts = is.most_conjuncts;
    conjuncts = each-weaker (IsConjunct catalogue block) (IsConjunct catalogue (bounded_by maxima block)) conjunct-bounded block.conjuncts is.conjuncts;
    most_items = is.most_items;
    items = is.items;
    most_terms = subst (λ n. n ≤ 8) (sym (length-with maxima block.terms)) is.most_terms;
    terms = terms-bounded maxima block.terms low is.terms;
  }

-- terms that agree still do with the same maxima
same-bounded : (left right : Block) (maxima all : List ℕ) (xs ys : List Term) → AreSameTerms left right xs ys
    → AreSameTerms (bounded_by maxima left) (bounded_by maxima right) (with_maxima all xs) (with_maxima all ys)
same-bounded left right maxima [] xs ys same = all-same xs ys same where
  all-same : (xs ys : List Term) → AreSameTerms left right xs ys → AreSameTerms (bounded_by maxima left) (bounded_by maxima right) xs ys
  all-same [] [] same = tt
  all-same [] (y ∷ ys) same = absurd same
  all-same (x ∷ xs) [] same = absurd same
  all-same (x ∷ xs) (y ∷ ys) same = (record { weight = same.0.weight; predicate = same.0.predicate; max = same.0.max; args = same.0.args }, all-same xs ys same.1)
same-bounded left right maxima (most ∷ all) [] [] same = tt
same-bounded left right maxima (most ∷ all) [] (y ∷ ys) same = absurd same
same-bounded left right maxima (most ∷ all) (x ∷ xs) [] same = absurd same
same-bounded left right maxima (most ∷ all) (x ∷ xs) (y ∷ ys) same =
    (record { weight = same.0.weight; predicate = same.0.predicate; max = refl; args = same.0.args }, same-bounded left right maxima all xs ys same.1)

-- the tops of a block are such that its predicates may give them
abbrev HasLowTops : CatalogDef → Block → Type 0
HasLowTops catalogue block = AllByRecursion (λ (t : Term). top_of catalogue block t ≤ (predicate_at catalogue t.predicate).max) block.terms

low-one : (catalogue : CatalogDef) (block : Block) (maxima : List ℕ) (terms : List Term) → AllByRecursion (λ (t : Term). top_of catalogue block t ≤ (predicate_at catalogue t.predicate).max) terms
    → AreLow catalogue block maxima (map (top_of catalogue block) terms) terms
low-one catalogue block maxima [] low = tt
low-one catalogue block maxima (t ∷ ts) low = (low.0, low-one catalogue block maxima ts low.1)

low-both : (catalogue : CatalogDef) (left right : Block) (maxima : List ℕ) (xs ys : List Term) → AreSameTerms left right xs ys
    → AllByRecursion (λ (t : Term). top_of catalogue left t ≤ (predicate_at catalogue t.predicate).max) xs
    → AllByRecursion (λ (t : Term). top_of catalogue right t ≤ (predicate_at catalogue t.predicate).max) ys
    → AreLow catalogue left maxima (greater_of (map (top_of catalogue left) xs) (map (top_of catalogue right) ys)) xs
    × AreLow catalogue right maxima (greater_of (map (top_of catalogue left) xs) (map (top_of catalogue right) ys)) ys
low-both catalogue left right maxima [] ys same low other = (tt, tt)
low-both catalogue left right maxima (x ∷ xs) [] same low other = absurd same
low-both catalogue left right maxima (x ∷ xs) (y ∷ ys) same low other =
    let predicate = ap (λ n. (predicate_at catalogue n).max) same.0.predicate in
    let own = low.0 in
    let others = other.0 in
    let behind = low-both catalogue left right maxima xs ys same.1 low.1 other.1 in
    ((omega arith, behind.0), (omega arith, behind.1))

-- no top passes the greatest score of the predicate
top-low : (catalogue : CatalogDef) (block : Block) (term : Term) → top_of catalogue block term ≤ (predicate_at catalogue term.predicate).max
top-low catalogue block term =
    top-by_cases (λ most. most ≤ (predicate_at catalogue term.predicate).max) catalogue term 1 block.from (omega arith)
    (λ i from there alone. low_by (index_of from.0 term.predicate term.args (1 + i) catalogue)) where
      low_by : (o : Option ℕ) → top_by catalogue term.predicate o ≤ (predicate_at catalogue term.predicate).max
      low_by None = omega arith
      low_by (Some index) = omega arith

all-low : (catalogue : CatalogDef) (block : Block) → HasLowTops catalogue block
all-low catalogue block = each block.terms where
  each : (terms : List Term) → AllByRecursion (λ (t : Term). top_of catalogue block t ≤ (predicate_at catalogue t.predicate).max) terms
  each [] = tt
  each (term ∷ terms) = (top-low catalogue block term, each terms)

-- a query that gets its tops stays well formed
pub formed-tops : (catalogue : CatalogDef) (query : Query) → IsQuery catalogue query → IsQuery catalogue (with_tops catalogue query)
formed-tops catalogue (One block limit) is = (
  block-bounded catalogue block (tops_of catalogue block) (low-one catalogue block (tops_of catalogue block) block.terms (all-low catalogue block)) is.0,
  λ wanted. outputs-bounded catalogue block (tops_of catalogue block) (tops_of catalogue block) block.terms (is.1 wanted),
  is.2,
)
formed-tops catalogue (Set op left right limit) is =
    let maxima = set_tops catalogue left right in
    let low = low-both catalogue left right maxima left.terms right.terms is.0.terms (all-low catalogue left) (all-low catalogue right) in (
      record {
        left_block = block-bounded catalogue left maxima low.0 is.0.left_block;
        right_block = block-bounded catalogue right maxima low.1 is.0.right_block;
        kinds = is.0.kinds;
        terms = same-bounded left right maxima maxima left.terms right.terms is.0.terms;
      },
      is.1,
    )

-- a mask is inside itself
pub own-inside : (mask : ℕ) → is_inside mask mask ≡ true
own-inside mask =
    eq-eqb (bit_and mask mask) mask (same_from_bits (bit_and mask mask) mask (λ i. let both = bit_at_and mask mask i in omega arith))

-- rows of a view are rows of the tables
pub bounded-view : (answer : Answering) (catalogue : CatalogDef) (query : Query) (number : ℕ) (sizes : List ℕ) (mask : ℕ) (rows : List ℕ) (term : Term)
    → IsBounded answer catalogue query → IsSizes catalogue (block_in query number) sizes → In rows (combinations catalogue (block_in query number) sizes mask)
    → In term (block_in query number).terms → is_inside term.entries mask ≡ true → worth_of answer catalogue (block_in query number) rows term ≤ term.max
bounded-view answer catalogue query number sizes mask rows term bounded within combined there inside =
    let has = HasRows-sizes catalogue (block_in query number) sizes mask rows within (In-combinations-back catalogue (block_in query number) sizes mask rows combined).0 in
    bounded number rows term there (λ entry some last own. has entry some last (inside-has term.entries mask entry inside (eqb-true (bit_at term.entries (entry - 1)) 1 own)))

-- so it is of a catalogue as it was before
pub bounded-before : (answer : Answering) (old new : CatalogDef) (query : Query) → CatalogueGrows old new → IsQuery old query → IsBounded answer new query → IsBounded answer old query
bounded-before answer old new query grows is bounded number rows term there has =
    let block = block_in query number in
    let formed = AllByRecursion-In (IsTerm old block) block.terms (block-formed old query number is).terms term there in
    let more : HasRows new block term.entries rows = λ entry some last own.
    let here = has entry some last own in
    let size = size-grows old new grows block entry in
    let row_some = here.0 in
    let row_last = here.1 in
    (omega arith, omega arith) in
    subst (λ worth. worth ≤ term.max) (worth-grows old new grows block rows term.entries has answer term formed (own-inside term.entries)) (bounded number rows term there more)

-- where the indexes hold the answers, the top by an index is its first score
pub top-first : (answer : Answering) (catalogue : CatalogDef) → IndexesHold answer catalogue
    → ((a : Answering) (predicate : PredicateDef) (args : List BoundArg) (rows : List (List Value)) (ranking : List ScoredRow)
    → (making_of a predicate args rows).outcome ≡ Ok ranking → IsRanking (length rows) predicate.max ranking)
    → (table predicate : ℕ) (args : List BoundArg) (entry index : ℕ) → index_of table predicate args entry catalogue ≡ Some index
    → top_by catalogue predicate (Some index) ≡ first_score (ranking_at catalogue index)
top-first answer catalogue holds rankings table predicate args entry index first =
    let is_for = index-for catalogue table predicate args entry index first in
    let found = is_for.found in
    let made = each-slice_get (IndexHolds answer catalogue) catalogue.indexes index found holds is_for.there in
    let rows = rows_for catalogue found.def in
    let low = first_score-low (length rows) (predicate_for catalogue found.def).max found.ranking
    (rankings answer (predicate_for catalogue found.def) found.def.args rows found.ranking made.holds) in
    let ranking = ap (λ (o : Option RankIndex). first_score (unwrap_or (option_map (λ (i : RankIndex). i.ranking) o) [])) is_for.there in
    let own : (predicate_for catalogue found.def).max ≡ (predicate_at catalogue predicate).max = ap (λ n. (predicate_at catalogue n).max) is_for.predicate_is in
    omega arith
