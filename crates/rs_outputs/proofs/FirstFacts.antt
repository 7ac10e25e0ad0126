-- The first row of each list of output values: which rows these are, and what is left of them behind some.
use Rattle.std.proofs.Common.{◌≡◌, ◌||◌, Bool, true, false, not, cond, List, [], ◌∷◌, ◌++◌, refl, sym, ◌∙◌, ap, subst, inl, inr}
use Rattle.std.proofs.lemmas.Bool.{true≢false}
use Rattle.std.proofs.lemmas.List.Folds.{list_any-append}
use Rattle.std.specs.Cmp.{IsTotalOrder}
use Rattle.std.specs.List.{AllByRecursion}
use Rattle.std.specs.declared.cmp.Ordering.{Ordering}
use Rattle.rs_order.specs.Climbing.{Climbs, HasDistinctKeys, In, Precedes}
use Rattle.rs_order.specs.Sorting.{sorted}
use Rattle.rs_order.proofs.ClimbingFacts.{AllByRecursion-In, AllByRecursion-from_In, cmp-not_both, cmp-not_itself}
use Rattle.rs_order.proofs.EachFacts.{each-filter}
use Rattle.rs_order.proofs.ItemFacts.{In-filter, In-filter-back}
use Rattle.rs_value.specs.declared.value.Value.{Value}
use Rattle.rs_outputs.specs.Seen.{has_list, same_values, with_list}
use Rattle.rs_outputs.proofs.SameFacts.{same_values-itself, same_values-same}
use Rattle.rs_outputs.specs.Rows.{OutputRow, firsts, others, unseen}
use Rattle.rs_outputs.proofs.ListFacts.{Climbs-filter, distinct-filter, filter-filter, sorted-of}

-- the first ones of rows are among them
pub In-firsts : (rows : List OutputRow) (z : OutputRow) → In z (firsts rows) → In z rows
In-firsts [] z h = h
In-firsts (row ∷ rows) z h =
    elim h [ inl e ↦ inl e | inr k ↦ inr (In-firsts rows z (In-filter-back (λ other. not (same_values other.values row.values)) z (firsts rows) k).0) ]

pub each-firsts : (P : OutputRow → Type 0) (rows : List OutputRow) → AllByRecursion P rows → AllByRecursion P (firsts rows)
each-firsts P rows all = AllByRecursion-from_In P (firsts rows) (λ z h. AllByRecursion-In P rows all z (In-firsts rows z h))

pub Climbs-firsts : {K : Type 0} (cmp : K → K → Ordering) (key : OutputRow → K) (rows : List OutputRow) → Climbs cmp key rows → Climbs cmp key (firsts rows)
Climbs-firsts cmp key [] climbs = tt
Climbs-firsts cmp key (row ∷ rows) climbs = (
  each-filter (Precedes cmp key row) (λ other. not (same_values other.values row.values)) (firsts rows) (each-firsts (Precedes cmp key row) rows climbs.0),
  Climbs-filter cmp key (λ other. not (same_values other.values row.values)) (firsts rows) (Climbs-firsts cmp key rows climbs.1),
)

distinct-firsts : {K : Type 0} (cmp : K → K → Ordering) (key : OutputRow → K) (rows : List OutputRow) → HasDistinctKeys cmp key rows → HasDistinctKeys cmp key (firsts rows)
distinct-firsts cmp key [] distinct = tt
distinct-firsts cmp key (row ∷ rows) distinct = (
  each-filter _ (λ other. not (same_values other.values row.values)) (firsts rows) (each-firsts _ rows distinct.0),
  distinct-filter cmp key (λ other. not (same_values other.values row.values)) (firsts rows) (distinct-firsts cmp key rows distinct.1),
)

not_true : (b : Bool) → not b ≡ true → b ≡ true → ⊥
not_true true e f = true≢false (sym e)
not_true false e f = true≢false (sym f)

true_or_not : (b : Bool) → (b ≡ true → ⊥) → not b ≡ true
true_or_not b never = (elim b as (λ t. b ≡ t → not t ≡ true) [ true ↦ λ e. absurd (never e) | false ↦ λ e. refl ]) refl

-- of rows with the same output values each key comes before those behind it
abbrev pub AreInTurn : {K : Type 0} → (K → K → Ordering) → (OutputRow → K) → List OutputRow → Type 0
AreInTurn cmp key [] = Unit {0}
AreInTurn cmp key (row ∷ rows) = AllByRecursion (λ other. other.values ≡ row.values → Precedes cmp key row other) rows × AreInTurn cmp key rows

-- so it is where all keys rise
pub in_turn : {K : Type 0} (cmp : K → K → Ordering) (key : OutputRow → K) (rows : List OutputRow) → Climbs cmp key rows → AreInTurn cmp key rows
in_turn cmp key [] climbs = tt
in_turn cmp key (row ∷ rows) climbs = (AllByRecursion-from_In (λ other. other.values ≡ row.values → Precedes cmp key row other) rows (λ z h same. AllByRecursion-In (Precedes cmp key row) rows climbs.0 z h), in_turn cmp key rows climbs.1)

-- no row with the same output values precedes a row
abbrev pub IsFirst : {K : Type 0} → (K → K → Ordering) → (OutputRow → K) → List OutputRow → OutputRow → Type 0
IsFirst cmp key rows z = (other : OutputRow) → In other rows → other.values ≡ z.values → Precedes cmp key other z → ⊥

-- the first ones are the rows that none with the same output values precedes
pub is_first : {K : Type 0} (cmp : K → K → Ordering) → IsTotalOrder cmp → (key : OutputRow → K) (rows : List OutputRow) (z : OutputRow) → AreInTurn cmp key rows → In z (firsts rows) → IsFirst cmp key rows z
is_first cmp o key [] z turn h = absurd h
is_first cmp o key (row ∷ rows) z turn h = λ other there same before.
    elim h [
      | inl e ↦
          elim there [
            | inl f ↦ cmp-not_itself cmp o (key row) (subst (λ w. Precedes cmp key row w) e (subst (λ w. Precedes cmp key w z) f before))
            | inr k ↦
                cmp-not_both cmp o (key row) (key other)
                (AllByRecursion-In (λ w. w.values ≡ row.values → Precedes cmp key row w) rows turn.0 other k (same ∙ ap (λ (w : OutputRow). w.values) e))
                (subst (λ w. Precedes cmp key other w) e before)
          ]
      | inr k ↦
          let both = In-filter-back (λ w. not (same_values w.values row.values)) z (firsts rows) k in
          elim there [
            | inl f ↦
                not_true (same_values z.values row.values) both.1
                (ap (λ v. same_values v row.values) (sym same ∙ ap (λ (w : OutputRow). w.values) f) ∙ same_values-itself row.values)
            | inr l ↦ is_first cmp o key rows z turn.1 both.0 other l same before
          ]
    ]

pub first_is : {K : Type 0} (cmp : K → K → Ordering) (key : OutputRow → K) (rows : List OutputRow) (z : OutputRow) → AreInTurn cmp key rows → In z rows → IsFirst cmp key rows z → In z (firsts rows)
first_is cmp key [] z turn h first = h
first_is cmp key (row ∷ rows) z turn h first =
    elim h [
      | inl e ↦ inl e
      | inr k ↦ inr (In-filter (λ w. not (same_values w.values row.values)) z (firsts rows)
          (first_is cmp key rows z turn.1 k (λ other there. first other (inr there)))
          (true_or_not (same_values z.values row.values) (λ e.
          let same = same_values-same z.values row.values e in
          first row (inl refl) (sym same) (AllByRecursion-In (λ w. w.values ≡ row.values → Precedes cmp key row w) rows turn.0 z k same))))
    ]

-- the first ones in the order of their keys are the first ones of the rows in that order
pub sorted-firsts : {K : Type 0} (cmp : K → K → Ordering) → IsTotalOrder cmp → (key : OutputRow → K) (rows ordered : List OutputRow) → HasDistinctKeys cmp key rows → AreInTurn cmp key rows → Climbs cmp key ordered
    → ((z : OutputRow) → In z rows → In z ordered) → ((z : OutputRow) → In z ordered → In z rows) → sorted cmp key (firsts rows) ≡ firsts ordered
sorted-firsts cmp o key rows ordered distinct turn climbs there back =
    sorted-of cmp o key (firsts rows) (firsts ordered) (distinct-firsts cmp key rows distinct) (Climbs-firsts cmp key ordered climbs)
    (λ z h. first_is cmp key ordered z (in_turn cmp key ordered climbs) (there z (In-firsts rows z h))
    (λ other k. is_first cmp o key rows z turn h other (back other k)))
    (λ z h. first_is cmp key rows z turn (back z (In-firsts ordered z h))
    (λ other k. is_first cmp o key ordered z (in_turn cmp key ordered climbs) h other (there other k)))

-- and those of two lists, one behind the other
pub in_turn-append : {K : Type 0} (cmp : K → K → Ordering) (key : OutputRow → K) (lefts rights : List OutputRow) → AreInTurn cmp key lefts → AreInTurn cmp key rights
    → ((left right : OutputRow) → In left lefts → In right rights → right.values ≡ left.values → Precedes cmp key left right) → AreInTurn cmp key (lefts ++ rights)
in_turn-append cmp key [] rights c d across = d
in_turn-append cmp key (left ∷ lefts) rights c d across = (
  each_append lefts c.0,
  in_turn-append cmp key lefts rights c.1 d (λ l r h k. across l r (inr h) k),
)
  where
    each_append : (ls : List OutputRow) → AllByRecursion (λ other. other.values ≡ left.values → Precedes cmp key left other) ls → AllByRecursion (λ other. other.values ≡ left.values → Precedes cmp key left other) (ls ++ rights)
    each_append [] all = AllByRecursion-from_In (λ other. other.values ≡ left.values → Precedes cmp key left other) rights (λ r h same. across left r (inl refl) h same)
    each_append (l ∷ ls) all = (all.0, each_append ls all.1)

-- a list is one of those with one more behind them
pub has_list-more : (values more : List Value) (lists : List (List Value)) → has_list values (lists ++ more ∷ []) ≡ (has_list values lists || same_values values more)
has_list-more values more lists =
    list_any-append (same_values values) lists (more ∷ []) ∙ ap (λ b. has_list values lists || b) (or_false (same_values values more))
  where
    or_false : (b : Bool) → (b || false) ≡ b
    or_false true = refl
    or_false false = refl

-- a first row whose values were seen leaves no more than those behind it
pub unseen-seen : (lists : List (List Value)) (row : OutputRow) (rows : List OutputRow) → has_list row.values lists ≡ true → unseen lists (firsts (row ∷ rows)) ≡ unseen lists (firsts rows)
unseen-seen lists row rows seen =
    ap (λ b. cond (not b) (row ∷ unseen lists (others row (firsts rows))) (unseen lists (others row (firsts rows)))) seen
    ∙ filter-filter (λ other. not (has_list other.values lists)) (λ other. not (same_values other.values row.values)) (λ other. not (has_list other.values lists)) apart (firsts rows)
  where
    apart : (other : OutputRow) → not (has_list other.values lists) ≡ cond (not (same_values other.values row.values)) (not (has_list other.values lists)) false
    apart other =
        (elim (same_values other.values row.values) as (λ b. same_values other.values row.values ≡ b → not (has_list other.values lists) ≡ cond (not b) (not (has_list other.values lists)) false) [
          | true ↦ λ e. ap not (ap (λ v. has_list v lists) (same_values-same other.values row.values e) ∙ seen)
          | false ↦ λ e. refl
        ]) refl

-- one whose values weren't seen is the first of them
pub unseen-new : (lists : List (List Value)) (row : OutputRow) (rows : List OutputRow) → has_list row.values lists ≡ false → unseen lists (firsts (row ∷ rows)) ≡ row ∷ unseen (with_list row.values lists) (firsts rows)
unseen-new lists row rows new =
    ap (λ b. cond (not b) (row ∷ unseen lists (others row (firsts rows))) (unseen lists (others row (firsts rows)))) new
    ∙ ap (λ rest. row ∷ rest)
    (filter-filter (λ other. not (has_list other.values lists)) (λ other. not (same_values other.values row.values)) (λ other. not (has_list other.values (lists ++ row.values ∷ []))) apart (firsts rows)
    ∙ ap (λ b. unseen (cond b lists (lists ++ row.values ∷ [])) (firsts rows)) (sym new))
  where
    turned : (a b : Bool) → not (a || b) ≡ cond (not b) (not a) false
    turned true true = refl
    turned true false = refl
    turned false true = refl
    turned false false = refl

    apart : (other : OutputRow) → not (has_list other.values (lists ++ row.values ∷ [])) ≡ cond (not (same_values other.values row.values)) (not (has_list other.values lists)) false
    apart other = ap not (has_list-more other.values row.values lists) ∙ turned (has_list other.values lists) (same_values other.values row.values)

-- nothing was seen yet
pub unseen-none : (rows : List OutputRow) → unseen [] rows ≡ rows
unseen-none [] = refl
unseen-none (row ∷ rows) = ap (λ rest. row ∷ rest) (unseen-none rows)

pub In-unseen : (lists : List (List Value)) (rows : List OutputRow) (z : OutputRow) → In z (unseen lists rows) → In z rows
In-unseen lists rows z h = (In-filter-back (λ row. not (has_list row.values lists)) z rows h).0
