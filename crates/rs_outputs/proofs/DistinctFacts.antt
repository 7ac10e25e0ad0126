-- The first rows of a list that is drawn row by row: which of them some rows give, and how far the next one takes.
use Rattle.std.proofs.Common.{◌≡◌, ℕ, zero, suc, ◌<◌, ◌≤◌, ◌||◌, Bool, true, false, not, cond, List, [], ◌∷◌, ◌++◌, append-nil, length, take, drop, Option, Some, None, refl, sym, ◌∙◌, ap, subst, inl, inr, arith}
use Rattle.std.proofs.lemmas.List.{take-append-drop}
use Rattle.std.proofs.lemmas.List.Elements.{filter-append}
use Rattle.std.specs.Cmp.{IsTotalOrder}
use Rattle.std.specs.List.{AllByRecursion, filter, slice_get}
use Rattle.std.specs.Option.{option_map}
use Rattle.std.specs.Ordering.{is_lt}
use Rattle.std.specs.declared.cmp.Ordering.{Ordering}
use Rattle.rs_order.specs.Asks.{asks_for, bar_after, comes_before_bar}
use Rattle.rs_order.specs.Climbing.{Climbs, In, Precedes}
use Rattle.rs_order.proofs.ClimbingFacts.{AllByRecursion-In, AllByRecursion-from_In}
use Rattle.rs_order.proofs.PartFacts.{In-drop, In-slice_get, bar_after-slice_get, take-snoc}
use Rattle.rs_outputs.specs.Rows.{OutputRow, firsts, others, unseen, values_of}
use Rattle.rs_outputs.specs.Seen.{has_list, same_values, with_list}
use Rattle.rs_outputs.proofs.FirstFacts.{In-firsts, In-unseen, unseen-new, unseen-seen}
use Rattle.rs_outputs.proofs.ListFacts.{before-rest, filter-filter, item-behind, none-before, not_before, not_before-itself, rest-some}

-- the first ones of two lists: those of the first list, and those of the second one with other values
firsts-append : (xs ys : List OutputRow) → firsts (xs ++ ys) ≡ firsts xs ++ unseen (values_of xs) (firsts ys)
firsts-append [] ys = sym (all (firsts ys))
  where
    all : (zs : List OutputRow) → unseen [] zs ≡ zs
    all [] = refl
    all (z ∷ zs) = ap (λ rest. z ∷ rest) (all zs)
firsts-append (x ∷ xs) ys =
    ap (λ rows. x ∷ others x rows) (firsts-append xs ys)
    ∙ ap (λ rows. x ∷ rows)
    (filter-append (λ other. not (same_values other.values x.values)) (firsts xs) (unseen (values_of xs) (firsts ys))
    ∙ ap (λ rows. others x (firsts xs) ++ rows)
    (filter-filter (λ other. not (same_values other.values x.values)) (λ other. not (has_list other.values (values_of xs))) (λ other. not (has_list other.values (values_of (x ∷ xs)))) (λ other. turned (same_values other.values x.values) (has_list other.values (values_of xs))) (firsts ys)))
  where
    turned : (a b : Bool) → not (a || b) ≡ cond (not b) (not a) false
    turned true true = refl
    turned true false = refl
    turned false true = refl
    turned false false = refl

length-one : {X : Type 0} (xs : List X) (x : X) → length (xs ++ x ∷ []) ≡ suc (length xs)
length-one [] x = refl
length-one (y ∷ ys) x = ap suc (length-one ys x)

-- how many first ones one row more gives
pub firsts-more : (rows : List OutputRow) (n : ℕ) (row : OutputRow) → slice_get rows n ≡ Some row → has_list row.values (values_of (take n rows)) ≡ false → length (firsts (take (suc n) rows)) ≡ suc (length (firsts (take n rows)))
firsts-more rows n row e new =
    ap (λ xs. length (firsts xs)) (take-snoc n rows row e)
    ∙ ap length (firsts-append (take n rows) (row ∷ []) ∙ ap (λ b. firsts (take n rows) ++ cond (not b) (row ∷ []) []) new)
    ∙ length-one (firsts (take n rows)) row

pub firsts-same : (rows : List OutputRow) (n : ℕ) (row : OutputRow) → slice_get rows n ≡ Some row → has_list row.values (values_of (take n rows)) ≡ true → length (firsts (take (suc n) rows)) ≡ length (firsts (take n rows))
firsts-same rows n row e old =
    ap (λ xs. length (firsts xs)) (take-snoc n rows row e)
    ∙ ap length (firsts-append (take n rows) (row ∷ []) ∙ ap (λ b. firsts (take n rows) ++ cond (not b) (row ∷ []) []) old ∙ append-nil (firsts (take n rows)))

-- the first ones, before a row and from it on
firsts-parts : (rows : List OutputRow) (n : ℕ) (row : OutputRow) → slice_get rows n ≡ Some row → firsts rows ≡ firsts (take n rows) ++ unseen (values_of (take n rows)) (firsts (row ∷ drop (suc n) rows))
firsts-parts rows n row e =
    ap firsts (sym (take-append-drop n rows))
    ∙ firsts-append (take n rows) (drop n rows)
    ∙ ap (λ xs. firsts (take n rows) ++ unseen (values_of (take n rows)) (firsts xs)) (rest-some n rows row e)

-- a row whose values are new is the next of the first ones
pub first-next : (rows : List OutputRow) (n : ℕ) (row : OutputRow) → slice_get rows n ≡ Some row → has_list row.values (values_of (take n rows)) ≡ false → slice_get (firsts rows) (length (firsts (take n rows))) ≡ Some row
first-next rows n row e new =
    ap (λ ys. slice_get ys (length (firsts (take n rows)))) (firsts-parts rows n row e ∙ ap (λ more. firsts (take n rows) ++ more) (unseen-new (values_of (take n rows)) row (drop (suc n) rows) new))
    ∙ item-behind (firsts (take n rows)) (unseen (with_list row.values (values_of (take n rows))) (firsts (drop (suc n) rows))) row

module _ {K : Type 0} (cmp : K → K → Ordering) (total : IsTotalOrder cmp) (key : OutputRow → K) where
  -- an item takes as many asks as its place
  asks-at : (rows : List OutputRow) → Climbs cmp key rows → (n : ℕ) (row : OutputRow) → slice_get rows n ≡ Some row → asks_for cmp key rows (Some (key row)) ≡ suc n
  asks-at [] climbs n row e = absurd (none e)
    where
      none : None ≡ Some row → ⊥
      none f = cc
  asks-at (x ∷ xs) climbs zero row e =
      let same : x ≡ row = cc in
      subst (λ r. asks_for cmp key (x ∷ xs) (Some (key r)) ≡ 1) same
      (ap (λ b. suc (length (cond b (x ∷ filter (λ y. is_lt (cmp (key y) (key x))) xs) (filter (λ y. is_lt (cmp (key y) (key x))) xs)))) (not_before-itself cmp total (key x))
      ∙ ap (λ ys. suc (length ys)) (none-before cmp key (key x) xs (λ y h. not_before cmp total (key x) (key y) (AllByRecursion-In (Precedes cmp key x) xs climbs.0 y h))))
  asks-at (x ∷ xs) climbs (suc n) row e =
      ap (λ b. suc (length (cond b (x ∷ filter (λ y. is_lt (cmp (key y) (key row))) xs) (filter (λ y. is_lt (cmp (key y) (key row))) xs)))) (ap is_lt (AllByRecursion-In (Precedes cmp key x) xs climbs.0 row (In-slice_get n xs row e)))
      ∙ ap suc (asks-at xs climbs.1 n row e)

  -- this many items before a bar take one ask more at least
  asks-least : (rows : List OutputRow) (bar : Option K) (n : ℕ) → n ≤ length rows → AllByRecursion (λ row. comes_before_bar cmp bar (key row) ≡ true) (take n rows) → suc n ≤ asks_for cmp key rows bar
  asks-least rows bar zero within all = omega arith
  asks-least [] bar (suc n) within all = absurd (omega arith)
  asks-least (row ∷ rows) bar (suc n) within all =
      let more = asks-least rows bar n (omega arith) all.1 in
      let one : asks_for cmp key (row ∷ rows) bar ≡ suc (asks_for cmp key rows bar) =
      ap (λ b. suc (length (cond b (row ∷ filter (λ r. comes_before_bar cmp bar (key r)) rows) (filter (λ r. comes_before_bar cmp bar (key r)) rows)))) all.0 in
      omega arith

  -- an item of the first ones precedes those behind
  Climbs-across : (n : ℕ) (rows : List OutputRow) → Climbs cmp key rows → (z w : OutputRow) → In z (take n rows) → In w (drop n rows) → Precedes cmp key z w
  Climbs-across zero rows climbs z w h k = absurd h
  Climbs-across (suc n) [] climbs z w h k = absurd h
  Climbs-across (suc n) (row ∷ rows) climbs z w h k =
      elim h [
        | inl e ↦ subst (λ v. Precedes cmp key v w) (sym e) (AllByRecursion-In (Precedes cmp key row) rows climbs.0 w (In-drop n rows w k))
        | inr behind ↦ Climbs-across n rows climbs.1 z w behind k
      ]

  module _ (rows : List OutputRow) (climbs : Climbs cmp key rows) (n : ℕ) (row : OutputRow) (e : slice_get rows n ≡ Some row) where
    abbrev count : ℕ
    count = length (firsts (take n rows))

    -- a row that is given takes all asks up to its own
    pub given-asks : has_list row.values (values_of (take n rows)) ≡ false → suc n ≡ asks_for cmp key rows (bar_after key (firsts rows) count)
    given-asks new =
        sym (ap (asks_for cmp key rows) (bar_after-slice_get key (firsts rows) count ∙ ap (option_map key) (first-next rows n row e new)) ∙ asks-at rows climbs n row e)

    -- one that is dropped takes more
    pub dropped-asks : n < length rows → has_list row.values (values_of (take n rows)) ≡ true → suc n < asks_for cmp key rows (bar_after key (firsts rows) count)
    dropped-asks within old =
        let rest = unseen (values_of (take n rows)) (firsts (drop (suc n) rows)) in
        let parts : firsts rows ≡ firsts (take n rows) ++ rest = firsts-parts rows n row e ∙ ap (λ more. firsts (take n rows) ++ more) (unseen-seen (values_of (take n rows)) row (drop (suc n) rows) old) in
        let bar : bar_after key (firsts rows) count ≡ bar_after key rest 0 = ap (λ ys. bar_after key ys count) parts ∙ bar-behind (firsts (take n rows)) rest in
        let least = asks-least rows (bar_after key rest 0) (suc n) (omega arith)
        (AllByRecursion-from_In (λ r. comes_before_bar cmp (bar_after key rest 0) (key r) ≡ true) (take (suc n) rows)
        (λ z h. before-rest cmp key z rest (AllByRecursion-from_In (Precedes cmp key z) rest
        (λ w k. Climbs-across (suc n) rows climbs z w h (In-firsts (drop (suc n) rows) w (In-unseen (values_of (take n rows)) (firsts (drop (suc n) rows)) w k)))))) in
        let same : asks_for cmp key rows (bar_after key (firsts rows) count) ≡ asks_for cmp key rows (bar_after key rest 0) = ap (asks_for cmp key rows) bar in
        omega arith
      where
        bar-behind : (front back : List OutputRow) → bar_after key (front ++ back) (length front) ≡ bar_after key back 0
        bar-behind [] back = refl
        bar-behind (f ∷ front) back = bar-behind front back
