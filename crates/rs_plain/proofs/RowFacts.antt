-- The rows of a block, one after another.
use Rattle.std.proofs.Common.{ℕ, ◌≡◌, ◌∙◌, ◌+◌, ◌*◌, ◌<◌, ◌≤◌, ◌++◌, List, [], ◌∷◌, zero, suc, length, map, take, drop, get_or, refl, sym, ap, subst, append-nil, arith}
use Rattle.std.specs.Prelude.{Result, Err}
use Rattle.std.specs.List.{AllByRecursion, flat_map}
use Rattle.std.specs.Result.{IsErr, IsErrAnd}
use Rattle.std.specs.declared.alloc.Global.{Global}
use Rattle.std.specs.declared.vec.Vec.{Vec}
use Rattle.std.proofs.lemmas.List.{map-append, take-append-drop, take_more, drop_all, drop_more}
use Rattle.std.proofs.lemmas.Grind.{flat_map-append}
use Rattle.std.proofs.Math.Nat.{mul-le-mul}
use Rattle.rs_order.proofs.EachFacts.{each-get_or}
use Rattle.rs_expr.specs.Scoring.{Answering}
use Rattle.rs_catalog.specs.Catalog.{CatalogDef}
use Rattle.rs_query.specs.Answers.{score_of, worth_of}
use Rattle.rs_query.specs.declared.block.Block.{Block}
use Rattle.rs_query.specs.declared.term.Term.{Term}
use Rattle.rs_value.proofs.ResultFacts.{given-err}
use Rattle.rs_plain.specs.Results.{as_list}
use Rattle.rs_plain.specs.declared.fault.PlainFault.{PlainFault}

-- what a `?` gives, as contracts see it
pub given-items : {A : Type 0} (result : Result (Vec A Global) PlainFault) (fault : PlainFault) → IsErr result × IsErrAnd result (λ f. f ≡ fault) → as_list result ≡ Err fault
given-items result fault is = ap as_list (given-err result fault is)

-- an item at a place, and what stands before and behind it
pub split-at : {A : Type 0} (xs : List A) (i : ℕ) (x : A) → i < length xs → x ≡ get_or xs i x → xs ≡ take i xs ++ x ∷ drop (i + 1) xs
split-at xs i x within is = sym (take-append-drop i xs) ∙ ap (λ rest. take i xs ++ rest) (drop_more xs i x within ∙ ap (λ y. y ∷ drop (i + 1) xs) (sym is))

pub take-at : {A : Type 0} (xs : List A) (i : ℕ) (x : A) → i < length xs → x ≡ get_or xs i x → take (i + 1) xs ≡ take i xs ++ x ∷ []
take-at xs i x within is = take_more xs i x within ∙ ap (λ y. take i xs ++ y ∷ []) (sym is)

pub each-at : {A : Type 0} (P : A → Type 0) (xs : List A) (i : ℕ) (x : A) → AllByRecursion P xs → i < length xs → x ≡ get_or xs i x → P x
each-at P xs i x all within is = subst P (sym is) (each-get_or P xs i x all within)

-- an item that is there is the same with every default
pub get_or-own : {A : Type 0} (xs : List A) (i : ℕ) (d : A) → i < length xs → get_or xs i d ≡ get_or xs i (get_or xs i d)
get_or-own [] i d within = absurd (omega arith)
get_or-own (y ∷ xs) zero d within = refl
get_or-own (y ∷ xs) (suc i) d within = get_or-own xs i d (omega arith)

-- the same of what the items give
pub map-split : {A B : Type 0} (f : A → B) (xs : List A) (i : ℕ) (x : A) → i < length xs → x ≡ get_or xs i x
    → map f xs ≡ map f (take i xs) ++ ((f x ∷ []) ++ map f (drop (i + 1) xs))
map-split f xs i x within is = ap (map f) (split-at xs i x within is) ∙ map-append f (take i xs) (x ∷ drop (i + 1) xs)

pub map-at : {A B : Type 0} (f : A → B) (xs : List A) (i : ℕ) (x : A) → i < length xs → x ≡ get_or xs i x
    → map f (take (i + 1) xs) ≡ map f (take i xs) ++ f x ∷ []
map-at f xs i x within is = ap (map f) (take-at xs i x within is) ∙ map-append f (take i xs) (x ∷ [])

pub flat_map-split : {A B : Type 0} (f : A → List B) (xs : List A) (i : ℕ) (x : A) → i < length xs → x ≡ get_or xs i x
    → flat_map f xs ≡ flat_map f (take i xs) ++ (f x ++ flat_map f (drop (i + 1) xs))
flat_map-split f xs i x within is = ap (flat_map f) (split-at xs i x within is) ∙ flat_map-append f (take i xs) (x ∷ drop (i + 1) xs)

pub flat_map-at : {A B : Type 0} (f : A → List B) (xs : List A) (i : ℕ) (x : A) → i < length xs → x ≡ get_or xs i x
    → flat_map f (take (i + 1) xs) ≡ flat_map f (take i xs) ++ f x
flat_map-at f xs i x within is =
    ap (flat_map f) (take-at xs i x within is) ∙ flat_map-append f (take i xs) (x ∷ []) ∙ ap (λ more. flat_map f (take i xs) ++ more) (append-nil (f x))

pub drop-at : {A : Type 0} (xs : List A) (i : ℕ) (x : A) → i < length xs → x ≡ get_or xs i x → drop i xs ≡ x ∷ drop (i + 1) xs
drop-at xs i x within is = drop_more xs i x within ∙ ap (λ y. y ∷ drop (i + 1) xs) (sym is)

-- a product of a weight and a worth is not too great
pub product-bound : (weight worth : ℕ) → weight ≤ 1000000 → worth ≤ 4294967295 → weight * worth ≤ 4294967295000000
product-bound weight worth few most = mul-le-mul few most

next-bound : (i score product : ℕ) → score ≤ i * 4294967295000000 → product ≤ 4294967295000000 → score + product ≤ (i + 1) * 4294967295000000
next-bound i score product few most = omega arith

pub score-bound : (i score weight worth : ℕ) → score ≤ i * 4294967295000000 → weight ≤ 1000000 → worth ≤ 4294967295 → score + weight * worth ≤ (i + 1) * 4294967295000000
score-bound i score weight worth few light most = next-bound i score (weight * worth) few (product-bound weight worth light most)

sum-assoc : (a b c : ℕ) → a + b + c ≡ a + (b + c)
sum-assoc a b c = omega arith

-- the worth of one more term goes into the score
pub score-more : (answer : Answering) (catalogue : CatalogDef) (block : Block) (rows : List ℕ) (terms : List Term) (i : ℕ) (term : Term) (score weight worth total : ℕ)
    → i < length terms → term ≡ get_or terms i term → weight ≡ term.weight → worth ≡ worth_of answer catalogue block rows term
    → score + score_of answer catalogue block rows (drop i terms) ≡ total → score + weight * worth + score_of answer catalogue block rows (drop (i + 1) terms) ≡ total
score-more answer catalogue block rows terms i term score weight worth total within is is_weight is_worth sum =
    sum-assoc score (weight * worth) (score_of answer catalogue block rows (drop (i + 1) terms))
    ∙ ap (λ w. score + (w * worth + score_of answer catalogue block rows (drop (i + 1) terms))) is_weight
    ∙ ap (λ v. score + (term.weight * v + score_of answer catalogue block rows (drop (i + 1) terms))) is_worth
    ∙ ap (λ ts. score + score_of answer catalogue block rows ts) (sym (drop-at terms i term within is))
    ∙ sum

-- the worths of all terms are in the score
pub score-all : (answer : Answering) (catalogue : CatalogDef) (block : Block) (rows : List ℕ) (terms : List Term) (i score total : ℕ)
    → length terms ≤ i → score + score_of answer catalogue block rows (drop i terms) ≡ total → score ≡ total
score-all answer catalogue block rows terms i score total all sum =
    sym (let none : score + 0 ≡ score = omega arith in none) ∙ ap (λ ts. score + score_of answer catalogue block rows ts) (sym (drop_all i terms all)) ∙ sum
