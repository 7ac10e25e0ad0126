-- Lists whose keys never fall: what comes before a bar are their first items, and so with a bar further on.
use Rattle.std.proofs.Common.{◌≡◌, ℕ, suc, List, [], ◌∷◌, length, take, map, true, false, cond, Option, Some, None, refl, sym, ◌∙◌, ap, ap₂, subst, inl, inr}
use Rattle.std.specs.Cmp.{IsTotalOrder, alike_right}
use Rattle.std.specs.List.{AllByRecursion}
use Rattle.std.specs.Ordering.{is_lt, is_gt, ordering_reverse}
use Rattle.std.specs.declared.cmp.Ordering.{Ordering}
use Rattle.std.specs.declared.cmp.Ordering.TheVariants.{Less, Equal, Greater}
use Rattle.rs_order.specs.Asks.{IsNoFurther, comes_before_bar, those_before}
use Rattle.rs_order.specs.Climbing.{Ascends, Climbs, In, IsNoLater, Precedes}
use Rattle.rs_order.specs.Merging.{merged, woven}
use Rattle.rs_order.specs.Schedule.{JoinSide, Left, Right, Turn, schedule, turns_from, turns_of}
use Rattle.rs_order.proofs.AsksFacts.{comes_before_bar-further}
use Rattle.rs_order.proofs.ClimbingFacts.{AllByRecursion-In, AllByRecursion-from_In}
use Rattle.rs_order.proofs.EachFacts.{each-weaker}
use Rattle.rs_order.proofs.MergingFacts.{In-merged-back}
use Rattle.rs_order.proofs.PartFacts.{cmp-behind-Less}

-- rising keys never fall
pub Ascends-Climbs : {X K : Type 0} (cmp : K → K → Ordering) (key : X → K) (xs : List X) → Climbs cmp key xs → Ascends cmp key xs
Ascends-Climbs cmp key [] climbs = tt
Ascends-Climbs cmp key (x ∷ xs) climbs = (each-weaker (Precedes cmp key x) (IsNoLater cmp key x) (λ y h. ap is_gt h) xs climbs.0, Ascends-Climbs cmp key xs climbs.1)

-- no key comes at or before another one and that one at or before a third, and the first behind it
IsNoLater-trans : {X K : Type 0} (cmp : K → K → Ordering) → IsTotalOrder cmp → (key : X → K) (x y z : X) → IsNoLater cmp key x y → IsNoLater cmp key y z → IsNoLater cmp key x z
IsNoLater-trans cmp o key x y z h k =
    (elim (cmp (key y) (key z)) as (λ r. cmp (key y) (key z) ≡ r → is_gt r ≡ false → is_gt (cmp (key x) (key z)) ≡ false) [
      | Less ↦ λ e f. ap is_gt (cmp-behind-Less cmp o (key x) (key y) (key z) h e)
      | Equal ↦ λ e f. ap is_gt (sym (alike_right o (key y) (key z) (key x) e)) ∙ h
      | Greater ↦ λ e f. cc
    ]) refl k

-- a key that lies at or behind one that doesn't come before a bar doesn't either
comes_before_bar-later : {K : Type 0} (cmp : K → K → Ordering) → IsTotalOrder cmp → (bar : Option K) (a b : K) → comes_before_bar cmp bar a ≡ false → is_gt (cmp a b) ≡ false → comes_before_bar cmp bar b ≡ false
comes_before_bar-later cmp o None a b e later = e
comes_before_bar-later cmp o (Some k) a b e later =
    (elim (cmp b k) as (λ r. cmp b k ≡ r → is_lt r ≡ false) [
      | Less ↦ λ f. sym (ap is_lt (cmp-behind-Less cmp o a b k later f)) ∙ e
      | Equal ↦ λ f. refl
      | Greater ↦ λ f. refl
    ]) refl

-- none of those behind it
none_before : {X K : Type 0} (cmp : K → K → Ordering) → IsTotalOrder cmp → (key : X → K) (bar : Option K) (x : X) (xs : List X) → comes_before_bar cmp bar (key x) ≡ false → AllByRecursion (IsNoLater cmp key x) xs → those_before cmp key bar xs ≡ []
none_before cmp o key bar x [] e all = refl
none_before cmp o key bar x (y ∷ ys) e all =
    subst (λ b. cond b (y ∷ those_before cmp key bar ys) (those_before cmp key bar ys) ≡ []) (sym (comes_before_bar-later cmp o bar (key x) (key y) e all.0))
    (none_before cmp o key bar x ys e all.1)

-- those before a bar begin those before a bar further on
pub those_before-begin : {X K : Type 0} (cmp : K → K → Ordering) → IsTotalOrder cmp → (key : X → K) (bar further : Option K) (xs : List X) → Ascends cmp key xs → IsNoFurther cmp bar further → those_before cmp key bar xs ≡ take (length (those_before cmp key bar xs)) (those_before cmp key further xs)
those_before-begin cmp o key bar further [] ascends le = refl
those_before-begin cmp o key bar further (x ∷ xs) ascends le =
    (elim (comes_before_bar cmp bar (key x)) as (λ b. comes_before_bar cmp bar (key x) ≡ b → cond b (x ∷ those_before cmp key bar xs) (those_before cmp key bar xs)
    ≡ take (length (cond b (x ∷ those_before cmp key bar xs) (those_before cmp key bar xs))) (those_before cmp key further (x ∷ xs))) [
      | true ↦ λ e.
          subst (λ b. x ∷ those_before cmp key bar xs ≡ take (suc (length (those_before cmp key bar xs))) (cond b (x ∷ those_before cmp key further xs) (those_before cmp key further xs)))
          (sym (comes_before_bar-further cmp o bar further (key x) le e))
          (ap (λ ys. x ∷ ys) (those_before-begin cmp o key bar further xs ascends.1 le))
      | false ↦ λ e. subst (λ ys. ys ≡ take (length ys) (those_before cmp key further (x ∷ xs))) (sym (none_before cmp o key bar x xs e ascends.0)) refl
    ]) refl

-- the keys of what is woven never fall where those of the rest don't
Ascends-woven : {X K : Type 0} (cmp : K → K → Ordering) → IsTotalOrder cmp → (key : X → K) (x : X) (xs ys : List X) → ((ws : List X) → Ascends cmp key ws → Ascends cmp key (merged cmp key xs ws)) → Ascends cmp key (x ∷ xs) → Ascends cmp key ys → Ascends cmp key (woven cmp key x (merged cmp key xs) ys)
Ascends-woven cmp o key x xs [] rest c d = (
  AllByRecursion-from_In (IsNoLater cmp key x) (merged cmp key xs []) (λ z h. elim (In-merged-back cmp key z xs [] h) [
    | inl k ↦ AllByRecursion-In (IsNoLater cmp key x) xs c.0 z k
    | inr none ↦ absurd none
  ]),
  rest [] tt,
)
Ascends-woven cmp o key x xs (y ∷ ys) rest c d =
    (elim (is_gt (cmp (key x) (key y))) as (λ b. is_gt (cmp (key x) (key y)) ≡ b → Ascends cmp key (cond b (y ∷ woven cmp key x (merged cmp key xs) ys) (x ∷ merged cmp key xs (y ∷ ys)))) [
      | false ↦ λ e. (
        AllByRecursion-from_In (IsNoLater cmp key x) (merged cmp key xs (y ∷ ys)) (λ z h. elim (In-merged-back cmp key z xs (y ∷ ys) h) [
          | inl k ↦ AllByRecursion-In (IsNoLater cmp key x) xs c.0 z k
          | inr k ↦ later x y ys e d z k
        ]),
        rest (y ∷ ys) d,
      )
      | true ↦ λ e. (
        AllByRecursion-from_In (IsNoLater cmp key y) (woven cmp key x (merged cmp key xs) ys) (λ z h. elim (In-merged-back cmp key z (x ∷ xs) ys h) [
          | inl k ↦ later y x xs (turned (cmp (key x) (key y)) (cmp (key y) (key x)) (o.antisymm (key y) (key x)) e) c z k
          | inr k ↦ AllByRecursion-In (IsNoLater cmp key y) ys d.0 z k
        ]),
        Ascends-woven cmp o key x xs ys rest c d.1,
      )
    ]) refl
  where
    later : (v w : _) (ws : List _) → IsNoLater cmp key v w → Ascends cmp key (w ∷ ws) → (z : _) → In z (w ∷ ws) → IsNoLater cmp key v z
    later v w ws h a z k = elim k [
      | inl same ↦ subst (IsNoLater cmp key v) (sym same) h
      | inr behind ↦ IsNoLater-trans cmp o key v w z h (AllByRecursion-In (IsNoLater cmp key w) ws a.0 z behind)
    ]

    turned : (r s : Ordering) → s ≡ ordering_reverse r → is_gt r ≡ true → is_gt s ≡ false
    turned Less s e f = cc
    turned Equal s e f = cc
    turned Greater s e f = ap is_gt e

pub Ascends-merged : {X K : Type 0} (cmp : K → K → Ordering) → IsTotalOrder cmp → (key : X → K) (xs ys : List X) → Ascends cmp key xs → Ascends cmp key ys → Ascends cmp key (merged cmp key xs ys)
Ascends-merged cmp o key [] ys c d = d
Ascends-merged cmp o key (x ∷ xs) ys c d =
    Ascends-woven cmp o key x xs ys (λ ws e. Ascends-merged cmp o key xs ws c.1 e) c d

-- the keys of a side's turns are the side's
Ascends-turns : {K : Type 0} (cmp : K → K → Ordering) (side : JoinSide) (n : ℕ) (keys : List K) → Ascends cmp (λ key. key) keys → Ascends cmp (λ (turn : Turn K). turn.key) (turns_from side n keys)
Ascends-turns cmp side n [] a = tt
Ascends-turns {K} cmp side n (key ∷ keys) a = (each (suc n) keys a.0, Ascends-turns cmp side (suc n) keys a.1)
  where
    each : (m : ℕ) (ks : List K) → AllByRecursion (IsNoLater cmp (λ k. k) key) ks → AllByRecursion (λ (turn : Turn K). is_gt (cmp key turn.key) ≡ false) (turns_from side m ks)
    each m [] h = tt
    each m (k ∷ ks) h = (h.0, each (suc m) ks h.1)

-- the schedule for a bar begins that for a bar further on
pub schedule-begin : {K : Type 0} (cmp : K → K → Ordering) → IsTotalOrder cmp → (lefts rights : List K) (bar further : Option K) → Ascends cmp (λ key. key) lefts → Ascends cmp (λ key. key) rights → IsNoFurther cmp bar further → schedule cmp lefts rights bar ≡ take (length (schedule cmp lefts rights bar)) (schedule cmp lefts rights further)
schedule-begin {K} cmp o lefts rights bar further a b le =
    ap (λ asks. record { side = Left; number = 1 } ∷ record { side = Right; number = 1 } ∷ asks)
    (mapped (λ (turn : Turn K). turn.ask) (those_before cmp (λ (turn : Turn K). turn.key) bar turns) (those_before cmp (λ (turn : Turn K). turn.key) further turns)
    (those_before-begin cmp o (λ (turn : Turn K). turn.key) bar further turns
    (Ascends-merged cmp o (λ (turn : Turn K). turn.key) (turns_from Left 2 lefts) (turns_from Right 2 rights) (Ascends-turns cmp Left 2 lefts a) (Ascends-turns cmp Right 2 rights b))
    le))
  where
    turns : List (Turn K)
    turns = turns_of cmp lefts rights

    mapped : {X Y : Type 0} (f : X → Y) (xs ys : List X) → xs ≡ take (length xs) ys → map f xs ≡ take (length (map f xs)) (map f ys)
    mapped f [] ys e = refl
    mapped f (x ∷ xs) [] e = cc
    mapped f (x ∷ xs) (y ∷ ys) e = let first : x ≡ y = cc in let rest : xs ≡ take (length xs) ys = cc in ap₂ (λ z zs. z ∷ zs) (ap f first) (mapped f xs ys rest)
