-- Two thresholds, and the one that comes first: what it reaches, whose turn it is, and what the core does by it.
use Rattle.std.proofs.Common.{◌≡◌, ℕ, zero, suc, ◌≤◌, ◌&&◌, Bool, true, false, not, cond, ltb, List, [], ◌∷◌, length, take, drop, map, Option, Some, None, refl, sym, ◌∙◌, ap, ◌⊎◌, inl, inr, arith}
use Rattle.std.proofs.lemmas.Bool.{lt-ltb, ltb-true, true≢false}
use Rattle.std.proofs.lemmas.List.{drop_all}
use Rattle.std.proofs.lemmas.Option.{slice_get-map, slice_get_cases}
use Rattle.std.specs.Cmp.{alike_right}
use Rattle.std.specs.List.{slice_get}
use Rattle.std.specs.Option.{option_map}
use Rattle.std.specs.Ordering.{is_gt, ordering_reverse}
use Rattle.std.specs.declared.cmp.Ordering.{Ordering}
use Rattle.std.specs.declared.cmp.Ordering.TheVariants.{Less, Equal, Greater}
use Rattle.rs_order.specs.Last.{last_from}
use Rattle.rs_order.specs.Schedule.{Left, Right, Turn, turns_from}
use Rattle.rs_order.proofs.MergingFacts.{merged-left, merged-right}
use Rattle.rs_order.proofs.PartFacts.{cmp-behind-Less}
use Rattle.rs_rank.specs.declared.ask.JoinAsk.{JoinAsk}
use Rattle.rs_rank.specs.declared.ask.JoinAsk.TheVariants.{NeedLeft, NeedRight, Ready, End}
use Rattle.rs_rank.specs.declared.key.Key.{Key}
use Rattle.rs_rank.specs.declared.row.RankRow.{RankRow}
use Rattle.rs_rank.specs.Keys.{key_cmp}
use Rattle.rs_rank.proofs.OrderFacts.{key_cmp-total}
use Rattle.rs_ripple.specs.Ripple.{ask_between, first_side, is_reached}
use Rattle.rs_ripple.proofs.BarFacts.{IsPast, reached_at, reaches}
use Rattle.rs_ripple.proofs.TurnFacts.{turns_between}

-- the threshold that comes first
abbrev pub first_bar : Option Key → Option Key → Option Key
first_bar None None = None
first_bar None (Some r) = Some r
first_bar (Some l) None = Some l
first_bar (Some l) (Some r) = cond (is_gt (key_cmp l r)) (Some r) (Some l)

-- of a key that comes after another one that other comes strictly before it
greater-before : (a b : Key) → is_gt (key_cmp a b) ≡ true → key_cmp b a ≡ Less
greater-before a b e = key_cmp-total.antisymm b a ∙ ap ordering_reverse (greater (key_cmp a b) e)
  where
    greater : (r : Ordering) → is_gt r ≡ true → r ≡ Greater
    greater Less e = absurd (true≢false (sym e))
    greater Equal e = absurd (true≢false (sym e))
    greater Greater e = refl

-- at or before a key that lies at or before another one
later-reached : (k a b : Key) → is_gt (key_cmp k a) ≡ false → is_gt (key_cmp a b) ≡ false → is_gt (key_cmp k b) ≡ false
later-reached k a b h e =
    (elim (key_cmp a b) as (λ r. key_cmp a b ≡ r → is_gt r ≡ false → is_gt (key_cmp k b) ≡ false) [
      | Less ↦ λ f g. ap is_gt (cmp-behind-Less key_cmp key_cmp-total k a b h f)
      | Equal ↦ λ f g. ap is_gt (sym (alike_right key_cmp-total a b k f)) ∙ h
      | Greater ↦ λ f g. absurd (true≢false g)
    ]) refl e

both-true : (a : Bool) → a && true ≡ a
both-true true = refl
both-true false = refl

both-false : (a : Bool) → a && false ≡ false
both-false true = refl
both-false false = refl

-- a key comes at or before both thresholds exactly where it does so before the first of them
pub reaches-both : (l r : Option Key) (k : Key) → is_reached l k && is_reached r k ≡ reaches key_cmp (first_bar l r) k
reaches-both None None k = refl
reaches-both None (Some r) k = refl
reaches-both (Some l) None k = both-true (not (is_gt (key_cmp k l)))
reaches-both (Some l) (Some r) k =
    (elim (is_gt (key_cmp l r)) as (λ t. is_gt (key_cmp l r) ≡ t → not (is_gt (key_cmp k l)) && not (is_gt (key_cmp k r)) ≡ reaches key_cmp (cond t (Some r) (Some l)) k) [
      | true ↦ λ e. by_right (is_gt (key_cmp k r)) refl (ap is_gt (greater-before l r e))
      | false ↦ λ e. by_left (is_gt (key_cmp k l)) refl e
    ]) refl
  where
    by_right : (t : Bool) → is_gt (key_cmp k r) ≡ t → is_gt (key_cmp r l) ≡ false → not (is_gt (key_cmp k l)) && not t ≡ not t
    by_right true e f = both-false (not (is_gt (key_cmp k l)))
    by_right false e f = ap (λ t. not t && true) (later-reached k r l e f)

    by_left : (t : Bool) → is_gt (key_cmp k l) ≡ t → is_gt (key_cmp l r) ≡ false → not t && not (is_gt (key_cmp k r)) ≡ not t
    by_left true e f = refl
    by_left false e f = ap not (later-reached k l r e f)

-- what lies behind one of them lies behind the first
pub past-first : (l r : Option Key) (k : Key) → IsPast key_cmp l k ⊎ IsPast key_cmp r k → IsPast key_cmp (first_bar l r) k
past-first None None k h = elim h [ inl a ↦ a | inr a ↦ a ]
past-first None (Some r) k h = elim h [ inl a ↦ absurd a | inr a ↦ a ]
past-first (Some l) None k h = elim h [ inl a ↦ a | inr a ↦ absurd a ]
past-first (Some l) (Some r) k h =
    (elim (is_gt (key_cmp l r)) as (λ t. is_gt (key_cmp l r) ≡ t → IsPast key_cmp (cond t (Some r) (Some l)) k) [
      | true ↦ λ e. elim h [ inl a ↦ key_cmp-total.trans r l k (greater-before l r e) a | inr a ↦ a ]
      | false ↦ λ e. elim h [ inl a ↦ a | inr a ↦ cmp-behind-Less key_cmp key_cmp-total l r k e a ]
    ]) refl

-- whose turn is next, and its key
abbrev pub IsNext : List (Turn Key) → ℕ → ℕ → JoinAsk → Option Key → Type 0
IsNext turns a b NeedLeft bar = (k : Key) × (rest : List (Turn Key)) × (bar ≡ Some k) × (turns ≡ record { ask = record { side = Left; number = a }; key = k } ∷ rest)
IsNext turns a b NeedRight bar = (k : Key) × (rest : List (Turn Key)) × (bar ≡ Some k) × (turns ≡ record { ask = record { side = Right; number = b }; key = k } ∷ rest)
IsNext turns a b Ready bar = ⊥
IsNext turns a b End bar = (bar ≡ None) × (turns ≡ [])

-- the side whose threshold comes first is the one whose turn is next
pub next_turn : (a b : ℕ) (ls rs : List Key) → IsNext (turns_between key_cmp a b ls rs) a b (first_side (slice_get ls 0) (slice_get rs 0)) (first_bar (slice_get ls 0) (slice_get rs 0))
next_turn a b [] [] = (refl, refl)
next_turn a b [] (r ∷ rs) = (r, turns_from Right (suc b) rs, refl, refl)
next_turn a b (l ∷ ls) [] = (l, turns_between key_cmp (suc a) b ls [], refl, refl)
next_turn a b (l ∷ ls) (r ∷ rs) =
    (elim (is_gt (key_cmp l r)) as (λ t. is_gt (key_cmp l r) ≡ t → IsNext (turns_between key_cmp a b (l ∷ ls) (r ∷ rs)) a b (cond t NeedRight NeedLeft) (cond t (Some r) (Some l))) [
      | true ↦ λ e. (
        r,
        turns_between key_cmp a (suc b) (l ∷ ls) rs,
        refl,
        merged-right key_cmp (λ (turn : Turn Key). turn.key) (record { ask = record { side = Left; number = a }; key = l }) (record { ask = record { side = Right; number = b }; key = r }) (turns_from Left (suc a) ls) (turns_from Right (suc b) rs) e,
      )
      | false ↦ λ e. (
        l,
        turns_between key_cmp (suc a) b ls (r ∷ rs),
        refl,
        merged-left key_cmp (λ (turn : Turn Key). turn.key) (record { ask = record { side = Left; number = a }; key = l }) (record { ask = record { side = Right; number = b }; key = r }) (turns_from Left (suc a) ls) (turns_from Right (suc b) rs) e,
      )
    ]) refl

pub ltb-false : (a b : ℕ) → b ≤ a → ltb a b ≡ false
ltb-false a b le =
    (elim (ltb a b) as (λ t. ltb a b ≡ t → t ≡ false) [ true ↦ λ e. let less = ltb-true a b e in absurd (omega arith) | false ↦ λ e. refl ]) refl

-- the last of the first m + 1 keys is the one at place m
pub last_from-place : (m : ℕ) (k : Key) (ks : List Key) (z : Key) → slice_get (k ∷ ks) m ≡ Some z → last_from k (take m ks) ≡ z
last_from-place zero k ks z e = cc
last_from-place (suc m) k [] z e = cc
last_from-place (suc m) k (l ∷ ks) z e = last_from-place m l ks z e

-- the threshold of a side is the key of its next turn; once it has ended there is none
pub threshold-is : (g : Key → Key) (k : Key) (ks : List Key) (m : ℕ) → cond (ltb (suc (length ks)) (suc m)) None (Some (g (last_from k (take m ks)))) ≡ slice_get (map g (k ∷ ks)) m
threshold-is g k ks m =
    elim (slice_get_cases (k ∷ ks) m).1 [
      | inl some ↦
          let within = some.1 in
          ap (λ b. cond b None (Some (g (last_from k (take m ks))))) (ltb-false (suc (length ks)) (suc m) (omega arith))
          ∙ ap (λ z. Some (g z)) (last_from-place m k ks some.0 some.2)
          ∙ sym (slice_get-map g (k ∷ ks) m ∙ ap (option_map g) some.2)
      | inr none ↦
          let past = none.0 in
          ap (λ b. cond b None (Some (g (last_from k (take m ks))))) (lt-ltb (suc (length ks)) (suc m) (omega arith))
          ∙ sym (slice_get-map g (k ∷ ks) m ∙ ap (option_map g) none.1)
    ]

-- what is behind n items
pub drop-some : {X : Type 0} (n : ℕ) (xs : List X) (x : X) → slice_get xs n ≡ Some x → drop n xs ≡ x ∷ drop (suc n) xs
drop-some n [] x e = cc
drop-some zero (y ∷ ys) x e = let same : y ≡ x = cc in ap (λ z. z ∷ ys) same
drop-some (suc n) (y ∷ ys) x e = drop-some n ys x e

-- what the core does next, by the threshold that comes first
pub ask_between-is : (l r : Option Key) (key : RankRow → Key) (rows : List RankRow) (count : ℕ) → ask_between l r (map (λ row. (key row, row)) (drop count rows)) ≡ cond (reached_at key_cmp key (first_bar l r) (slice_get rows count)) Ready (first_side l r)
ask_between-is l r key rows count =
    elim (slice_get_cases rows count).1 [
      | inl some ↦
          ap (λ ps. ask_between l r (map (λ row. (key row, row)) ps)) (drop-some count rows some.0 some.2)
          ∙ ap (λ b. cond b Ready (first_side l r)) (reaches-both l r (key some.0))
          ∙ ap (λ o. cond (reached_at key_cmp key (first_bar l r) o) Ready (first_side l r)) (sym some.2)
      | inr none ↦
          ap (λ ps. ask_between l r (map (λ row. (key row, row)) ps)) (drop_all count rows none.0)
          ∙ ap (λ o. cond (reached_at key_cmp key (first_bar l r) o) Ready (first_side l r)) (sym none.1)
    ]
