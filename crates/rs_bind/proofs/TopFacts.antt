-- Maxima put on terms one by one, and numbers kept in a list of eight.
use Rattle.std.proofs.Common.{ℕ, zero, suc, ◌≡◌, ◌∙◌, ◌+◌, ◌<◌, ◌≤◌, ◌++◌, max, List, [], ◌∷◌, length, get_or, map, set, take, refl, sym, ap, ap₂, subst, arith}
use Rattle.std.specs.Prelude.{Option, Some, option_map, slice_get}
use Rattle.std.proofs.lemmas.List.{length-map, length-take-le, take_more}
use Rattle.rs_value.specs.declared.set_op.SetOp.{SetOp}
use Rattle.rs_catalog.specs.Catalog.{CatalogDef, RankIndex}
use Rattle.rs_catalog.specs.Indexes.{index_of, predicate_for}
use Rattle.rs_catalog.specs.declared.index.BoundArg.{BoundArg}
use Rattle.rs_catalog.specs.declared.index.IndexDef.{IndexDef}
use Rattle.rs_catalog.proofs.IndexForFacts.{index-for}
use Rattle.rs_query.specs.Answers.{padded, predicate_at}
use Rattle.rs_query.specs.Tops.{HasTops, bounded_by, greater_of, set_tops, top_of, tops_of, with_maxima, with_tops}
use Rattle.rs_query.specs.WellFormed.{AreSameTerms, IsQuery}
use Rattle.rs_query.specs.declared.block.Block.{Block}
use Rattle.rs_query.specs.declared.query.Query.{Query}
use Rattle.rs_query.specs.declared.query.Query.TheVariants.{One, Set}
use Rattle.rs_query.specs.declared.term.Term.{Term}
use Rattle.rs_query.proofs.BoundedFacts.{formed-tops, has-tops}

-- numbers with 0 behind them are there in front
pub take-padded : (size : ℕ) (numbers : List ℕ) → length numbers ≤ size → take (length numbers) (padded size numbers) ≡ numbers
take-padded size [] few = refl
take-padded zero (n ∷ numbers) few = absurd (omega arith)
take-padded (suc size) (n ∷ numbers) few = ap (λ rest. n ∷ rest) (take-padded size numbers (omega arith))

-- one more number at the first place behind some
padded-put : (size : ℕ) (numbers : List ℕ) (number : ℕ) → length numbers < size → set (padded size numbers) (length numbers) number ≡ padded size (numbers ++ number ∷ [])
padded-put zero numbers number within = absurd (omega arith)
padded-put (suc size) [] number within = refl
padded-put (suc size) (first ∷ numbers) number within = ap (λ rest. first ∷ rest) (padded-put size numbers number (omega arith))

pub padded-more : (size : ℕ) (numbers : List ℕ) (place number : ℕ) → place < length numbers → length numbers ≤ size → number ≡ get_or numbers place number
    → set (padded size (take place numbers)) place number ≡ padded size (take (place + 1) numbers)
padded-more size numbers place number within few is =
    let count : length (take place numbers) ≡ place = length-take-le place numbers (omega arith) in
    ap (λ i. set (padded size (take place numbers)) i number) (sym count)
    ∙ padded-put size (take place numbers) number (omega arith)
    ∙ ap (padded size) (ap (λ t. take place numbers ++ t ∷ []) is ∙ sym (take_more numbers place number within))

-- one more term with its maximum
with_maxima-next : (maxima : List ℕ) (terms : List Term) (place : ℕ) (term : Term) → place < length terms → place < length maxima → term ≡ get_or (with_maxima (take place maxima) terms) place term
    → set (with_maxima (take place maxima) terms) place (record term { max = get_or maxima place 0 }) ≡ with_maxima (take (suc place) maxima) terms
with_maxima-next [] terms place term within few is = absurd (omega arith)
with_maxima-next (most ∷ maxima) [] place term within few is = absurd (omega arith)
with_maxima-next (most ∷ maxima) (first ∷ terms) zero term within few is = ap (λ (t : Term). record t { max = most } ∷ terms) is
with_maxima-next (most ∷ maxima) (first ∷ terms) (suc place) term within few is =
    ap (λ rest. record first { max = most } ∷ rest) (with_maxima-next maxima terms place term (omega arith) (omega arith) is)

pub with_maxima-more : (maxima : List ℕ) (terms : List Term) (place : ℕ) (term : Term) → place < length terms → place < length maxima → term ≡ get_or (with_maxima (take place maxima) terms) place term
    → set (with_maxima (take place maxima) terms) place (record term { max = get_or maxima place 0 }) ≡ with_maxima (take (place + 1) maxima) terms
with_maxima-more maxima terms place term within few is =
    let next : suc place ≡ place + 1 = omega arith in
    with_maxima-next maxima terms place term within few is ∙ ap (λ n. with_maxima (take n maxima) terms) next

pub length-with_maxima : (maxima : List ℕ) (terms : List Term) → length (with_maxima maxima terms) ≡ length terms
length-with_maxima [] terms = refl
length-with_maxima (most ∷ maxima) [] = refl
length-with_maxima (most ∷ maxima) (term ∷ terms) = ap suc (length-with_maxima maxima terms)

-- the index that is found is of the predicate that is looked for
pub predicate-for : (catalogue : CatalogDef) (table predicate : ℕ) (args : List BoundArg) (entry number : ℕ) (def : IndexDef) → index_of table predicate args entry catalogue ≡ Some number
    → option_map (λ (i : RankIndex). i.def) (slice_get catalogue.indexes number) ≡ Some def → def.predicate ≡ predicate
predicate-for catalogue table predicate args entry number def first there =
    let is_for = index-for catalogue table predicate args entry number first in
    let found : Some is_for.found.def ≡ Some def = sym (ap (option_map (λ (i : RankIndex). i.def)) is_for.there) ∙ there in
    let same : is_for.found.def ≡ def = cc in
    sym (ap (λ (d : IndexDef). d.predicate) same) ∙ is_for.predicate_is

-- what is low by the predicate of an index is so by the predicate that the index is of
pub low-by : (catalogue : CatalogDef) (predicate number score : ℕ) → number < length catalogue.indexes
    → ((def : IndexDef) → option_map (λ (i : RankIndex). i.def) (slice_get catalogue.indexes number) ≡ Some def → def.predicate ≡ predicate)
    → ((def : IndexDef) → option_map (λ (i : RankIndex). i.def) (slice_get catalogue.indexes number) ≡ Some def → score ≤ (predicate_for catalogue def).max)
    → score ≤ (predicate_at catalogue predicate).max
low-by catalogue predicate number score within is low =
    let found = some-at catalogue.indexes number within in
    let there : option_map (λ (i : RankIndex). i.def) (slice_get catalogue.indexes number) ≡ Some found.0.def = ap (option_map (λ (i : RankIndex). i.def)) found.1 in
    subst (λ n. score ≤ (predicate_at catalogue n).max) (is found.0.def there) (low found.0.def there) where
      some-at : {A : Type 0} (xs : List A) (i : ℕ) → i < length xs → (x : A) × (slice_get xs i ≡ Some x)
      some-at [] i less = absurd (omega arith)
      some-at (x ∷ xs) zero less = (x, refl)
      some-at (x ∷ xs) (suc i) less = some-at xs i (omega arith)

-- the top of the term at a place is the number at that place
pub top-at : (f : Term → ℕ) (terms : List Term) (place : ℕ) (term : Term) → place < length terms → term ≡ get_or terms place term → f term ≡ get_or (map f terms) place (f term)
top-at f [] place term within is = absurd (omega arith)
top-at f (t ∷ terms) zero term within is = ap f is
top-at f (t ∷ terms) (suc place) term within is = top-at f terms place term (omega arith) is

pub greater-at : (f g : Term → ℕ) (xs ys : List Term) (place : ℕ) (x y : Term) → place < length xs → place < length ys → x ≡ get_or xs place x → y ≡ get_or ys place y
    → max (f x) (g y) ≡ get_or (greater_of (map f xs) (map g ys)) place (max (f x) (g y))
greater-at f g [] ys place x y within inside is other = absurd (omega arith)
greater-at f g (t ∷ xs) [] place x y within inside is other = absurd (omega arith)
greater-at f g (t ∷ xs) (u ∷ ys) zero x y within inside is other = ap₂ max (ap f is) (ap g other)
greater-at f g (t ∷ xs) (u ∷ ys) (suc place) x y within inside is other = greater-at f g xs ys place x y (omega arith) (omega arith) is other

pub length-greater_of : (f g : Term → ℕ) (xs ys : List Term) → length xs ≡ length ys → length (greater_of (map f xs) (map g ys)) ≡ length xs
length-greater_of f g [] ys same = refl
length-greater_of f g (x ∷ xs) [] same = absurd (omega arith)
length-greater_of f g (x ∷ xs) (y ∷ ys) same = ap suc (length-greater_of f g xs ys (omega arith))

-- terms that agree are as many
pub same-lengths : (left right : Block) (xs ys : List Term) → AreSameTerms left right xs ys → length xs ≡ length ys
same-lengths left right [] [] same = refl
same-lengths left right [] (y ∷ ys) same = absurd same
same-lengths left right (x ∷ xs) [] same = absurd same
same-lengths left right (x ∷ xs) (y ∷ ys) same = ap suc (same-lengths left right xs ys same.1)

-- what a query of one block is whose terms get these maxima
pub record HasTopsOf (catalogue : CatalogDef) (query made : Query) : Type 0 where
  pub value : made ≡ with_tops catalogue query
  pub formed : IsQuery catalogue made
  pub tops : HasTops catalogue made

tops-of : (catalogue : CatalogDef) (query made : Query) → IsQuery catalogue query → made ≡ with_tops catalogue query → HasTopsOf catalogue query made
tops-of catalogue query made is value = record {
  value = value;
  formed = subst (IsQuery catalogue) (sym value) (formed-tops catalogue query is);
  tops = subst (HasTops catalogue) (sym value) (has-tops catalogue query is);
}

pub one-bounded : (catalogue : CatalogDef) (query : Query) (block made : Block) (limit : Option ℕ) (tops : List ℕ) → query ≡ One block limit → IsQuery catalogue query
    → tops ≡ padded 8 (tops_of catalogue block) → made ≡ bounded_by (take (length block.terms) tops) block → HasTopsOf catalogue query (One made limit)
one-bounded catalogue query block made limit tops is formed tops_are made_is =
    let own : IsQuery catalogue (One block limit) = subst (IsQuery catalogue) is formed in
    let few = own.0.most_terms in
    let count : length (tops_of catalogue block) ≡ length block.terms = length-map block.terms (top_of catalogue block) in
    let taken : take (length block.terms) tops ≡ tops_of catalogue block =
    ap (take (length block.terms)) tops_are ∙ ap (λ n. take n (padded 8 (tops_of catalogue block))) (sym count) ∙ take-padded 8 (tops_of catalogue block) (omega arith) in
    let value : One made limit ≡ with_tops catalogue (One block limit) = ap (λ (b : Block). One b limit) (made_is ∙ ap (λ ms. bounded_by ms block) taken) in
    subst (λ q. HasTopsOf catalogue q (One made limit)) (sym is) (tops-of catalogue (One block limit) (One made limit) own value)

pub set-bounded : (catalogue : CatalogDef) (query : Query) (op : SetOp) (left right made other : Block) (limit : Option ℕ) (tops : List ℕ) → query ≡ Set op left right limit → IsQuery catalogue query
    → tops ≡ padded 8 (set_tops catalogue left right)
    → made ≡ bounded_by (take (length left.terms) tops) left → other ≡ bounded_by (take (length right.terms) tops) right → HasTopsOf catalogue query (Set op made other limit)
set-bounded catalogue query op left right made other limit tops is formed tops_are made_is other_is =
    let own : IsQuery catalogue (Set op left right limit) = subst (IsQuery catalogue) is formed in
    let few = own.0.left_block.most_terms in
    let same = same-lengths left right left.terms right.terms own.0.terms in
    let count : length (set_tops catalogue left right) ≡ length left.terms = length-greater_of (top_of catalogue left) (top_of catalogue right) left.terms right.terms same in
    let taken : take (length left.terms) tops ≡ set_tops catalogue left right =
    ap (take (length left.terms)) tops_are ∙ ap (λ n. take n (padded 8 (set_tops catalogue left right))) (sym count) ∙ take-padded 8 (set_tops catalogue left right) (omega arith) in
    let right_taken : take (length right.terms) tops ≡ set_tops catalogue left right = ap (λ n. take n tops) (sym same) ∙ taken in
    let value : Set op made other limit ≡ with_tops catalogue (Set op left right limit) =
    ap₂ (λ (a b : Block). Set op a b limit) (made_is ∙ ap (λ ms. bounded_by ms left) taken) (other_is ∙ ap (λ ms. bounded_by ms right) right_taken) in
    subst (λ q. HasTopsOf catalogue q (Set op made other limit)) (sym is)
    (tops-of catalogue (Set op left right limit) (Set op made other limit) own value)
