-- The stable order: it is in order, it keeps the rows of each score as they stood, and it is the only list that does both.
use Rattle.std.proofs.Common.{◌≡◌, ℕ, zero, suc, ◌<◌, ◌≤◌, Bool, true, false, cond, ◌==◌, nat_le, eqb, leb, List, [], ◌∷◌, ◌++◌, length, get_or, map, refl, sym, ◌∙◌, ap, inl, inr, arith, add-one, append_assoc, append-nil}
use Rattle.std.proofs.lemmas.Bool.{leb-true, leb-false, eqb-true, eq-eqb, ne_eqb, cond-true, cond-false, cases_lt}
use Rattle.std.proofs.lemmas.List.Elements.{filter-append, filter_agree, All-get_or, All-from_recursion}
use Rattle.std.proofs.lemmas.Bool.Decides.{nat_tests}
use Rattle.std.specs.List.{AllByRecursion, filter}
use Rattle.std.specs.List.Sorted.{IsPermutation, IsSortedBy, IsStableBy, ties}
use Rattle.std.specs.Ordering.{is_lt, nat_cmp}
use Rattle.std.proofs.lemmas.List.Sorted.{IsPermutation-refl, IsPermutation-cons, IsPermutation-swap, IsPermutation-trans, IsPermutation-middle, IsPermutation-append_left, length_permutation}
use Rattle.rs_order.proofs.EachFacts.{each-weaker}
use Rattle.rs_rank.specs.Stable.{put_behind, put_all, stable}

-- scores never rise along the list
unfoldable pub Falls : {T : Type 0} → (T → ℕ) → List T → Type 0
Falls score [] = Unit {0}
Falls score (row ∷ rest) = AllByRecursion (λ later. score later ≤ score row) rest × Falls score rest

-- the rows of one score
abbrev pub of_score : {T : Type 0} → (T → ℕ) → ℕ → List T → List T
of_score score n rows = filter (λ row. score row == n) rows

-- what holds of a row and of each row of a list holds of each row once the row is put in
pub AllByRecursion-put_behind : {T : Type 0} (score : T → ℕ) (P : T → Type 0) (row : T) (rows : List T) → P row → AllByRecursion P rows → AllByRecursion P (put_behind score row rows)
AllByRecursion-put_behind score P row [] here all = (here, tt)
AllByRecursion-put_behind {T} score P row (first ∷ rest) here all =
    elim (nat_le (score row) (score first)) as (λ b. AllByRecursion P (cond b (first ∷ put_behind score row rest) (row ∷ first ∷ rest))) [
      | true ↦ (all.0, AllByRecursion-put_behind score P row rest here all.1)
      | false ↦ (here, all)
    ]

-- the same of all rows that are put in one after another
pub AllByRecursion-put_all : {T : Type 0} (score : T → ℕ) (P : T → Type 0) (ordered rows : List T) → AllByRecursion P ordered → AllByRecursion P rows → AllByRecursion P (put_all score ordered rows)
AllByRecursion-put_all score P ordered [] before all = before
AllByRecursion-put_all score P ordered (row ∷ rest) before all =
    AllByRecursion-put_all score P (put_behind score row ordered) rest (AllByRecursion-put_behind score P row ordered all.0 before) all.1

-- a property of each row holds of each row of the stable order
pub AllByRecursion-stable : {T : Type 0} (score : T → ℕ) (P : T → Type 0) (rows : List T) → AllByRecursion P rows → AllByRecursion P (stable score rows)
AllByRecursion-stable score P rows all = AllByRecursion-put_all score P [] rows tt all

-- putting a row in adds it to the list
pub IsPermutation-put_behind : {T : Type 0} (score : T → ℕ) (row : T) (rows : List T) → IsPermutation (row ∷ rows) (put_behind score row rows)
IsPermutation-put_behind score row [] = IsPermutation-refl (row ∷ [])
IsPermutation-put_behind {T} score row (first ∷ rest) =
    elim (nat_le (score row) (score first)) as (λ b. IsPermutation (row ∷ first ∷ rest) (cond b (first ∷ put_behind score row rest) (row ∷ first ∷ rest))) [
      | true ↦ IsPermutation-trans (row ∷ first ∷ rest) (first ∷ row ∷ rest) (first ∷ put_behind score row rest)
          (IsPermutation-swap (row ∷ first ∷ rest) (first ∷ row ∷ rest) 0 1 (omega arith) (omega arith) refl)
          (IsPermutation-cons first (row ∷ rest) (put_behind score row rest) (IsPermutation-put_behind score row rest))
      | false ↦ IsPermutation-refl (row ∷ first ∷ rest)
    ]

-- the rows that were there and those that were put in
pub IsPermutation-put_all : {T : Type 0} (score : T → ℕ) (ordered rows : List T) → IsPermutation (ordered ++ rows) (put_all score ordered rows)
IsPermutation-put_all score ordered [] = rw append-nil (IsPermutation-refl ordered)
IsPermutation-put_all score ordered (row ∷ rest) =
    IsPermutation-trans (ordered ++ row ∷ rest) (put_behind score row ordered ++ rest) (put_all score ordered (row ∷ rest))
    (IsPermutation-trans (ordered ++ row ∷ rest) (row ∷ (ordered ++ rest)) (put_behind score row ordered ++ rest)
    (IsPermutation-middle ordered row rest)
    (IsPermutation-append_left rest (row ∷ ordered) (put_behind score row ordered) (IsPermutation-put_behind score row ordered)))
    (IsPermutation-put_all score (put_behind score row ordered) rest)

-- the stable order has the rows of the list
pub IsPermutation-stable : {T : Type 0} (score : T → ℕ) (rows : List T) → IsPermutation rows (stable score rows)
IsPermutation-stable score rows = IsPermutation-put_all score [] rows

-- no row has a score above the bound of all
of_score-above : {T : Type 0} (score : T → ℕ) (most n : ℕ) (rows : List T) → AllByRecursion (λ row. score row ≤ most) rows → most < n → of_score score n rows ≡ []
of_score-above score most n [] all above = refl
of_score-above score most n (row ∷ rest) all above =
    let here : score row ≤ most = all.0 in
    cond-false (eqb (score row) n) (row ∷ of_score score n rest) (of_score score n rest) (ne_eqb (score row) n (λ same. omega arith))
    ∙ of_score-above score most n rest all.1 above

-- a row is put in with scores still falling
pub Falls-put_behind : {T : Type 0} (score : T → ℕ) (row : T) (rows : List T) → Falls score rows → Falls score (put_behind score row rows)
unfolding Falls
Falls-put_behind score row [] falls = (tt, tt)
Falls-put_behind {T} score row (first ∷ rest) falls =
    (elim (nat_le (score row) (score first)) as (λ b. nat_le (score row) (score first) ≡ b → Falls score (cond b (first ∷ put_behind score row rest) (row ∷ first ∷ rest))) [
      | true ↦ λ e. (AllByRecursion-put_behind score (λ later. score later ≤ score first) row rest (leb-true (score row) (score first) e) falls.0, Falls-put_behind score row rest falls.1)
      | false ↦ λ e.
          let above : score first < score row = leb-false (score row) (score first) e in
          ((omega arith, each-weaker (λ later. score later ≤ score first) (λ later. score later ≤ score row) (λ later below. omega arith) rest falls.0), falls)
    ]) refl

-- and so are all rows
pub Falls-put_all : {T : Type 0} (score : T → ℕ) (ordered rows : List T) → Falls score ordered → Falls score (put_all score ordered rows)
Falls-put_all score ordered [] falls = falls
Falls-put_all score ordered (row ∷ rest) falls = Falls-put_all score (put_behind score row ordered) rest (Falls-put_behind score row ordered falls)

-- scores never rise along the stable order
pub Falls-stable : {T : Type 0} (score : T → ℕ) (rows : List T) → Falls score (stable score rows)
unfolding Falls
Falls-stable score rows = Falls-put_all score [] rows tt

-- an element in front stays in front of what is appended
cond-append : {T : Type 0} (b : Bool) (first : T) (all before after : List T) → all ≡ before ++ after → cond b (first ∷ all) all ≡ cond b (first ∷ before) before ++ after
cond-append true first all before after e = ap (λ rows. first ∷ rows) e
cond-append false first all before after e = e

-- a row in front of lower ones stands alone in its score
of_score-front : {T : Type 0} (score : T → ℕ) (n : ℕ) (row : T) (most : ℕ) (rows : List T) → AllByRecursion (λ later. score later ≤ most) rows → most < score row → of_score score n (row ∷ rows) ≡ of_score score n rows ++ of_score score n (row ∷ [])
of_score-front {T} score n row most rows below above =
    (elim (eqb (score row) n) as (λ b. eqb (score row) n ≡ b → cond b (row ∷ of_score score n rows) (of_score score n rows) ≡ of_score score n rows ++ cond b (row ∷ []) []) [
      | true ↦ λ e.
          let same : score row ≡ n = eqb-true (score row) n e in
          let none : of_score score n rows ≡ [] = of_score-above score most n rows below (omega arith) in
          rw none refl
      | false ↦ λ e. sym (append-nil (of_score score n rows))
    ]) refl

-- a row that is put in comes behind the rows of its score
pub of_score-put_behind : {T : Type 0} (score : T → ℕ) (n : ℕ) (row : T) (rows : List T) → Falls score rows → of_score score n (put_behind score row rows) ≡ of_score score n rows ++ of_score score n (row ∷ [])
unfolding Falls
of_score-put_behind score n row [] falls = refl
of_score-put_behind {T} score n row (first ∷ rest) falls =
    (elim (nat_le (score row) (score first)) as (λ b. nat_le (score row) (score first) ≡ b → of_score score n (cond b (first ∷ put_behind score row rest) (row ∷ first ∷ rest)) ≡ of_score score n (first ∷ rest) ++ of_score score n (row ∷ [])) [
      | true ↦ λ e. cond-append (eqb (score first) n) first (of_score score n (put_behind score row rest)) (of_score score n rest) (of_score score n (row ∷ [])) (of_score-put_behind score n row rest falls.1)
      | false ↦ λ e.
          let above : score first < score row = leb-false (score row) (score first) e in
          of_score-front score n row (score first) (first ∷ rest) (omega arith, falls.0) above
    ]) refl

-- rows that are put in come behind the rows of their score, in their order
pub of_score-put_all : {T : Type 0} (score : T → ℕ) (n : ℕ) (ordered rows : List T) → Falls score ordered → of_score score n (put_all score ordered rows) ≡ of_score score n ordered ++ of_score score n rows
of_score-put_all score n ordered [] falls = sym (append-nil (of_score score n ordered))
of_score-put_all score n ordered (row ∷ rest) falls =
    of_score-put_all score n (put_behind score row ordered) rest (Falls-put_behind score row ordered falls)
    ∙ ap (λ front. front ++ of_score score n rest) (of_score-put_behind score n row ordered falls)
    ∙ append_assoc (of_score score n ordered) (of_score score n (row ∷ [])) (of_score score n rest)
    ∙ ap (λ back. of_score score n ordered ++ back) (sym (filter-append (λ later. score later == n) (row ∷ []) rest))

-- the rows of one score stand in the stable order as they stood
pub of_score-stable : {T : Type 0} (score : T → ℕ) (n : ℕ) (rows : List T) → of_score score n (stable score rows) ≡ of_score score n rows
unfolding Falls
of_score-stable score n rows = of_score-put_all score n [] rows tt

-- a list that falls has no row in front of one with a higher score
of_score-first : {T : Type 0} (score : T → ℕ) (first : T) (rest : List T) (n : ℕ) → Falls score (first ∷ rest) → score first < n → of_score score n (first ∷ rest) ≡ []
unfolding Falls
of_score-first score first rest n falls above = of_score-above score (score first) n (first ∷ rest) (omega arith, falls.0) above

-- the rows of the first row's score begin with it
of_score-own : {T : Type 0} (score : T → ℕ) (first : T) (rest : List T) (n : ℕ) → score first ≡ n → of_score score n (first ∷ rest) ≡ first ∷ of_score score n rest
of_score-own score first rest n same = cond-true (eqb (score first) n) (first ∷ of_score score n rest) (of_score score n rest) (eq-eqb (score first) n same)

-- what is equal with one row in front is equal without it
of_score-rest : {T : Type 0} (score : T → ℕ) (n : ℕ) (first : T) (xs ys : List T) → of_score score n (first ∷ xs) ≡ of_score score n (first ∷ ys) → of_score score n xs ≡ of_score score n ys
of_score-rest {T} score n first xs ys same =
    (elim (eqb (score first) n) as (λ b. cond b (first ∷ of_score score n xs) (of_score score n xs) ≡ cond b (first ∷ of_score score n ys) (of_score score n ys) → of_score score n xs ≡ of_score score n ys) [
      | true ↦ λ e. cc
      | false ↦ λ e. e
    ]) same

-- two lists whose scores fall, and that have the same rows of each score in the same order: the first row of one is no higher than that of the other
Falls-same_first : {T : Type 0} (score : T → ℕ) (x y : T) (xs ys : List T) → Falls score (x ∷ xs) → of_score score (score y) (x ∷ xs) ≡ of_score score (score y) (y ∷ ys) → score y ≤ score x
Falls-same_first score x y xs ys falls both =
    elim (cases_lt (score x) (score y)) [
      | inl above ↦ absurd (let none = of_score-first score x xs (score y) falls above in let some = of_score-own score y ys (score y) refl in cc)
      | inr below ↦ below
    ]

-- a list whose scores fall is known by its rows of each score
pub Falls-unique : {T : Type 0} (score : T → ℕ) (xs ys : List T) → Falls score xs → Falls score ys → ((row : T) → of_score score (score row) xs ≡ of_score score (score row) ys) → xs ≡ ys
unfolding Falls
Falls-unique score [] [] xs_fall ys_fall same = refl
Falls-unique score [] (y ∷ ys) xs_fall ys_fall same = let some = of_score-own score y ys (score y) refl in let both = same y in cc
Falls-unique score (x ∷ xs) [] xs_fall ys_fall same = let some = of_score-own score x xs (score x) refl in let both = same x in cc
Falls-unique score (x ∷ xs) (y ∷ ys) xs_fall ys_fall same =
    let both = same y in
    let down : score y ≤ score x = Falls-same_first score x y xs ys xs_fall both in
    let up : score x ≤ score y = Falls-same_first score y x ys xs ys_fall (sym (same x)) in
    let level : score x ≡ score y = omega arith in
    let of_x : of_score score (score y) (x ∷ xs) ≡ x ∷ of_score score (score y) xs = of_score-own score x xs (score y) level in
    let of_y : of_score score (score y) (y ∷ ys) ≡ y ∷ of_score score (score y) ys = of_score-own score y ys (score y) refl in
    let first : x ≡ y = cc in
    let rest : xs ≡ ys = Falls-unique score xs ys xs_fall.1 ys_fall.1 (λ row. of_score-rest score (score row) x xs ys (same row ∙ ap (λ z. of_score score (score row) (z ∷ ys)) (sym first))) in
    cc

-- no later row of a list whose scores fall has a higher score
pub Falls-at : {T : Type 0} (score : T → ℕ) (rows : List T) → Falls score rows → (i j : ℕ) (d : T) → i ≤ j → j < length rows → score (get_or rows j d) ≤ score (get_or rows i d)
unfolding Falls
Falls-at score [] falls i j d before within = absurd (omega arith)
Falls-at score (row ∷ rest) falls zero zero d before within = omega arith
Falls-at score (row ∷ rest) falls zero (suc j) d before within =
    All-get_or (λ later. score later ≤ score row) rest j d (omega arith) (All-from_recursion (λ later. score later ≤ score row) rest falls.0)
Falls-at score (row ∷ rest) falls (suc i) zero d before within = absurd (omega arith)
Falls-at score (row ∷ rest) falls (suc i) (suc j) d before within = Falls-at score rest falls.1 i j d (omega arith) (omega arith)

-- each row's score is at most that of the row before it
abbrev Descends : {T : Type 0} → (T → ℕ) → List T → Type 0
Descends {T} score rows = (k : ℕ) (d : T) → suc k < length rows → score (get_or rows (suc k) d) ≤ score (get_or rows k d)

-- no row behind the first one has a score above the first one's
AllByRecursion-Descends : {T : Type 0} (score : T → ℕ) (most : ℕ) (first : T) (rest : List T) → score first ≤ most → Descends score (first ∷ rest) → AllByRecursion (λ later. score later ≤ most) rest
AllByRecursion-Descends score most first [] below down = tt
AllByRecursion-Descends score most first (second ∷ rest) below down =
    let step : score second ≤ score first = down 0 first (omega arith) in
    let here : score second ≤ most = omega arith in
    (here, AllByRecursion-Descends score most second rest here (λ k d within. down (suc k) d (omega arith)))

-- scores that fall from each row to the next never rise along the list
Falls-Descends : {T : Type 0} (score : T → ℕ) (rows : List T) → Descends score rows → Falls score rows
unfolding Falls
Falls-Descends score [] down = tt
Falls-Descends score (first ∷ rest) down =
    (AllByRecursion-Descends score (score first) first rest (omega arith) down, Falls-Descends score rest (λ k d within. down (suc k) d (omega arith)))

-- a list in which no later row has a higher score, and that has the rows of each score as they stood, is the stable order
pub stable-is_unique : {T : Type 0} (score : T → ℕ) (rows ordered : List T) → ((i j : ℕ) (d : T) → i ≤ j → j < length ordered → score (get_or ordered j d) ≤ score (get_or ordered i d)) → ((n : ℕ) → of_score score n ordered ≡ of_score score n rows) → ordered ≡ stable score rows
stable-is_unique score rows ordered down same =
    Falls-unique score ordered (stable score rows)
    (Falls-Descends score ordered (λ k d within. down k (suc k) d (omega arith) within))
    (Falls-stable score rows)
    (λ row. same (score row) ∙ sym (of_score-stable score (score row) rows))

-- the test by which a sort puts greater scores first
abbrev ranks_before : {T : Type 0} → (T → ℕ) → T → T → Bool
ranks_before score x y = is_lt (nat_cmp (score y) (score x))

-- rows tie where their scores are equal
ties-ranks_before : {T : Type 0} (score : T → ℕ) (x y : T) → ties (ranks_before score) x y ≡ (score y == score x)
ties-ranks_before score x y = grind (arith, nat_tests)

-- a row that doesn't rank before another one has no higher score
not_ranks_before : {T : Type 0} (score : T → ℕ) (x y : T) → ranks_before score x y ≡ false → score x ≤ score y
not_ranks_before score x y e = grind (arith, nat_tests)

-- the rows that tie with one are those of its score
of_score-ties : {T : Type 0} (score : T → ℕ) (row : T) (rows : List T) → filter (ties (ranks_before score) row) rows ≡ of_score score (score row) rows
of_score-ties score row rows = filter_agree (ties (ranks_before score) row) (λ later. score later == score row) (ties-ranks_before score row) rows

-- a stable sort by falling scores gives the stable order
pub stable-sorted : {T : Type 0} (score : T → ℕ) (xs ys : List T) → IsSortedBy (λ x y. is_lt (nat_cmp (score y) (score x))) ys → IsStableBy (λ x y. is_lt (nat_cmp (score y) (score x))) xs ys → ys ≡ stable score xs
stable-sorted score xs ys sorted steady =
    Falls-unique score ys (stable score xs)
    (Falls-Descends score ys (λ k d within. not_ranks_before score (get_or ys (suc k) d) (get_or ys k d) (rw add-one at (sorted k d (omega arith) (omega arith)))))
    (Falls-stable score xs)
    (λ row. sym (of_score-ties score row ys) ∙ steady row ∙ of_score-ties score row xs ∙ sym (of_score-stable score (score row) xs))

-- a choice that is mapped
map-choice : {A B : Type 0} (g : A → B) (t u : Bool) (x y : List A) (mapped_x mapped_y : List B) → t ≡ u → map g x ≡ mapped_x → map g y ≡ mapped_y → map g (cond t x y) ≡ cond u mapped_x mapped_y
map-choice g true true x y mapped_x mapped_y e of_x of_y = of_x
map-choice g true false x y mapped_x mapped_y e of_x of_y = cc
map-choice g false true x y mapped_x mapped_y e of_x of_y = cc
map-choice g false false x y mapped_x mapped_y e of_x of_y = of_y

-- a row is put in at the same place where each row is mapped to one of the same score
pub put_behind-map : {A B : Type 0} (g : A → B) (f : A → ℕ) (h : B → ℕ) (row : A) (rows : List A) → h (g row) ≡ f row → AllByRecursion (λ a. h (g a) ≡ f a) rows → map g (put_behind f row rows) ≡ put_behind h (g row) (map g rows)
put_behind-map g f h row [] own all = refl
put_behind-map g f h row (first ∷ rest) own all =
    map-choice g (leb (f row) (f first)) (leb (h (g row)) (h (g first))) (first ∷ put_behind f row rest) (row ∷ first ∷ rest) (g first ∷ put_behind h (g row) (map g rest)) (g row ∷ g first ∷ map g rest)
    (let of_first = all.0 in cc)
    (ap (λ rows. g first ∷ rows) (put_behind-map g f h row rest own all.1))
    refl

-- the same of rows that are put in one after another
pub put_all-map : {A B : Type 0} (g : A → B) (f : A → ℕ) (h : B → ℕ) (ordered rows : List A) → AllByRecursion (λ a. h (g a) ≡ f a) ordered → AllByRecursion (λ a. h (g a) ≡ f a) rows → map g (put_all f ordered rows) ≡ put_all h (map g ordered) (map g rows)
put_all-map g f h ordered [] before all = refl
put_all-map g f h ordered (row ∷ rest) before all =
    put_all-map g f h (put_behind f row ordered) rest (AllByRecursion-put_behind f (λ a. h (g a) ≡ f a) row ordered all.0 before) all.1
    ∙ ap (λ rows. put_all h rows (map g rest)) (put_behind-map g f h row ordered all.0 before)

-- rows that are mapped to rows of the same scores keep their order
pub stable-map : {A B : Type 0} (g : A → B) (f : A → ℕ) (h : B → ℕ) (xs : List A) → AllByRecursion (λ a. h (g a) ≡ f a) xs → map g (stable f xs) ≡ stable h (map g xs)
stable-map g f h xs all = put_all-map g f h [] xs tt all

-- the stable order has as many rows as the list
pub length-stable : {T : Type 0} (score : T → ℕ) (rows : List T) → length (stable score rows) ≡ length rows
length-stable score rows = length_permutation rows (stable score rows) (IsPermutation-stable score rows)
