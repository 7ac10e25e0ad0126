-- A list in the order of its old keys that is sorted by new ones, which never come before the old ones: how much of it
-- tells the first items of the whole.
use Rattle.std.proofs.Common.{◌≡◌, ℕ, zero, suc, ◌<◌, ◌≤◌, true, false, cond, List, [], ◌∷◌, length, get_or, take, drop, Option, Some, None, refl, sym, ◌∙◌, ap, subst, ◌⊎◌, inl, inr, arith}
use Rattle.std.proofs.lemmas.Bool.{cases_lt, true≢false}
use Rattle.std.proofs.lemmas.List.{drop_all, take_all}
use Rattle.std.proofs.lemmas.Option.{slice_get_cases}
use Rattle.std.specs.Cmp.{IsTotalOrder}
use Rattle.std.specs.List.{slice_get}
use Rattle.std.specs.Option.{option_map}
use Rattle.std.specs.Ordering.{is_lt, is_gt, ordering_reverse}
use Rattle.std.specs.declared.cmp.Ordering.{Ordering}
use Rattle.std.specs.declared.cmp.Ordering.TheVariants.{Less, Equal, Greater}
use Rattle.rs_order.specs.Asks.{asks_for, comes_before_bar, bar_after, those_before}
use Rattle.rs_order.specs.Climbing.{Climbs, HasDistinctKeys, In, IsBeyond, Precedes}
use Rattle.rs_order.specs.Sorting.{put, sorted}
use Rattle.rs_order.proofs.AsksFacts.{asks_for-more, get_or-asked, get_or-before, bar_after-later}
use Rattle.rs_order.proofs.ClimbingFacts.{AllByRecursion-In, Climbs-shared}
use Rattle.rs_order.proofs.ItemFacts.{filter-less}
use Rattle.rs_order.proofs.SortingFacts.{Climbs-sorted, In-sorted, In-sorted-back}
use Rattle.rs_order.proofs.PartFacts.{Climbs-begin, Climbs-behind, Climbs-not_behind, HasDistinctKeys-take, In-at, In-drop, In-parts, In-take, IsBeyond-drop, IsBeyond-shared, cmp-Less-behind, cmp-behind-Less, drop-put, slice_get-shared, sorted-snoc, take-snoc, bar_after-slice_get}

-- such a list
pub record Reorder {X K : Type 0} (cmp : K → K → Ordering) (old new : X → K) (xs : List X) : Type 0 where
  pub total : IsTotalOrder cmp
  pub rising : Climbs cmp old xs
  pub distinct : HasDistinctKeys cmp new xs
  pub later : (x : X) → In x xs → is_lt (cmp (new x) (old x)) ≡ false

-- how many asks this many answers take
abbrev pub asks_upto : {X K : Type 0} → (K → K → Ordering) → (X → K) → (X → K) → List X → ℕ → ℕ
asks_upto cmp old new xs zero = 0
asks_upto cmp old new xs (suc n) = asks_for cmp old xs (bar_after new (sorted cmp new xs) n)

-- the one comes after the other where the other comes before it
is_gt-turned : {K : Type 0} (cmp : K → K → Ordering) → IsTotalOrder cmp → (a b : K) → is_gt (cmp a b) ≡ is_lt (cmp b a)
is_gt-turned cmp o a b = ap is_gt (o.antisymm a b) ∙ turned (cmp b a)
  where
    turned : (r : Ordering) → is_gt (ordering_reverse r) ≡ is_lt r
    turned Less = refl
    turned Equal = refl
    turned Greater = refl

-- all items come before no bar
length-those_before-None : {X K : Type 0} (cmp : K → K → Ordering) (key : X → K) (xs : List X) → length (those_before cmp key None xs) ≡ length xs
length-those_before-None cmp key [] = refl
length-those_before-None cmp key (x ∷ xs) = ap suc (length-those_before-None cmp key xs)

pub asks_for-None : {X K : Type 0} (cmp : K → K → Ordering) (key : X → K) (xs : List X) → asks_for cmp key xs None ≡ suc (length xs)
asks_for-None cmp key xs = ap suc (length-those_before-None cmp key xs)

pub asks_for-most : {X K : Type 0} (cmp : K → K → Ordering) (key : X → K) (xs : List X) (bar : Option K) → asks_for cmp key xs bar ≤ suc (length xs)
asks_for-most cmp key xs bar = let most = filter-less (λ x. comes_before_bar cmp bar (key x)) xs in omega arith

pub asks_upto-most : {X K : Type 0} (cmp : K → K → Ordering) (old new : X → K) (xs : List X) (n : ℕ) → asks_upto cmp old new xs n ≤ suc (length xs)
asks_upto-most cmp old new xs zero = omega arith
asks_upto-most cmp old new xs (suc n) = asks_for-most cmp old xs (bar_after new (sorted cmp new xs) n)

-- answers that there are not take all asks
pub asks_upto-none : {X K : Type 0} (cmp : K → K → Ordering) (old new : X → K) (xs : List X) (n : ℕ) → slice_get (sorted cmp new xs) n ≡ None → asks_upto cmp old new xs (suc n) ≡ suc (length xs)
asks_upto-none cmp old new xs n e =
    ap (λ bar. asks_for cmp old xs bar) (bar_after-slice_get new (sorted cmp new xs) n ∙ ap (option_map new) e) ∙ asks_for-None cmp old xs

-- what was not asked for a bar comes behind it
behind_bar : {X K : Type 0} (cmp : K → K → Ordering) → IsTotalOrder cmp → (old : X → K) (bar : K) (xs : List X) (j : ℕ) (z : X) → Climbs cmp old xs → asks_for cmp old xs (Some bar) ≤ j → In z (drop j xs) → cmp bar (old z) ≡ Less
behind_bar cmp o old bar [] j z climbs le h = absurd (In-drop j [] z h)
behind_bar cmp o old bar (x ∷ xs) zero z climbs le h = absurd (omega arith)
behind_bar cmp o old bar (x ∷ xs) (suc j) z climbs le h =
    (elim (is_lt (cmp (old x) bar)) as (λ b. is_lt (cmp (old x) bar) ≡ b → suc (length (cond b (x ∷ those_before cmp old (Some bar) xs) (those_before cmp old (Some bar) xs))) ≤ suc j → cmp bar (old z) ≡ Less) [
      | true ↦ λ e k. behind_bar cmp o old bar xs j z climbs.1 (omega arith) h
      | false ↦ λ e k. cmp-behind-Less cmp o bar (old x) (old z) (is_gt-turned cmp o bar (old x) ∙ e) (AllByRecursion-In (Precedes cmp old x) xs climbs.0 z (In-drop j xs z h))
    ]) refl le

module _ {X K : Type 0} (cmp : K → K → Ordering) (old new : X → K) (xs : List X) (r : Reorder cmp old new xs) where
  -- the part that is asked for, and the whole, in the new order
  abbrev part : ℕ → List X
  part j = sorted cmp new (take j xs)

  abbrev whole : List X
  whole = sorted cmp new xs

  pub part-climbs : (j : ℕ) → Climbs cmp new (part j)
  part-climbs j = Climbs-sorted cmp r.total new (take j xs) (HasDistinctKeys-take cmp new j xs r.distinct)

  pub whole-climbs : Climbs cmp new whole
  whole-climbs = Climbs-sorted cmp r.total new xs r.distinct

  part-within : (j : ℕ) (z : X) → In z (part j) → In z whole
  part-within j z h = In-sorted cmp new xs z (In-take j xs z (In-sorted-back cmp new (take j xs) z h))

  whole-parts : (j : ℕ) (z : X) → In z whole → In z (part j) ⊎ In z (drop j xs)
  whole-parts j z h =
      elim (In-parts j xs z (In-sorted-back cmp new xs z h)) [ inl k ↦ inl (In-sorted cmp new (take j xs) z k) | inr k ↦ inr k ]

  -- a new key comes behind all that its old one does
  later-behind : (k : K) (z : X) → In z xs → cmp k (old z) ≡ Less → cmp k (new z) ≡ Less
  later-behind k z h before = cmp-Less-behind cmp r.total k (old z) (new z) before (r.later z h)

  -- beyond this many asks there is nothing
  pub part-whole : (j : ℕ) → length xs ≤ j → part j ≡ whole
  part-whole j past = ap (sorted cmp new) (take_all j xs past)

  none-left : (j : ℕ) (z : X) → length xs ≤ j → In z (drop j xs) → ⊥
  none-left j z past h = subst (λ zs. In z zs) (drop_all j xs past) h

  -- asks for n + 1 answers, of which the last one is x
  asks-some : (n : ℕ) (x : X) → slice_get whole n ≡ Some x → asks_upto cmp old new xs (suc n) ≡ asks_for cmp old xs (Some (new x))
  asks-some n x e = ap (λ bar. asks_for cmp old xs bar) (bar_after-slice_get new whole n ∙ ap (option_map new) e)

  -- or of which there is none
  asks-none : (n : ℕ) → slice_get whole n ≡ None → asks_upto cmp old new xs (suc n) ≡ suc (length xs)
  asks-none n e = asks_upto-none cmp old new xs n e

  -- more answers take more asks
  pub asks_upto-more : (m n : ℕ) → m ≤ n → asks_upto cmp old new xs m ≤ asks_upto cmp old new xs n
  asks_upto-more zero n le = omega arith
  asks_upto-more (suc m) zero le = absurd (omega arith)
  asks_upto-more (suc m) (suc n) le =
      asks_for-more cmp r.total old xs (bar_after new whole m) (bar_after new whole n) (bar_after-later cmp r.total new whole m n whole-climbs (omega arith))

  -- what was not asked for an answer comes behind it
  behind_answer : (n j : ℕ) (x z : X) → slice_get whole n ≡ Some x → asks_upto cmp old new xs (suc n) ≤ j → In z (drop j xs) → Precedes cmp new x z
  behind_answer n j x z e le h =
      later-behind (new x) z (In-drop j xs z h)
      (behind_bar cmp r.total old (new x) xs j z r.rising (let same = asks-some n x e in omega arith) h)

  -- the asks for n answers tell them
  pub settled : (n j : ℕ) → asks_upto cmp old new xs n ≤ j → take n (part j) ≡ take n whole
  settled zero j le = refl
  settled (suc n) j le =
      elim (slice_get_cases whole n).1 [
        | inl some ↦
            let x = some.0 in
            Climbs-begin cmp r.total new (suc n) (part j) whole (part-climbs j) whole-climbs (part-within j)
            (λ z h. elim (whole-parts j z (In-take (suc n) whole z h)) [
              | inl k ↦ k
              | inr k ↦ absurd (Climbs-not_behind cmp r.total new n whole x z whole-climbs some.2 h (behind_answer n j x z some.2 le k))
            ])
        | inr none ↦ ap (take (suc n)) (part-whole j (let all = asks-none n none.1 in omega arith))
      ]

  -- and what isn't asked for lies beyond them
  pub settled-beyond : (n j : ℕ) (z : X) → asks_upto cmp old new xs n ≤ j → In z (drop j xs) → IsBeyond cmp new n (part j) z
  settled-beyond zero j z le h = tt
  settled-beyond (suc n) j z le h =
      elim (slice_get_cases whole n).1 [
        | inl some ↦
            IsBeyond-shared cmp new (suc n) whole (part j) z (sym (settled (suc n) j le))
            (IsBeyond-drop cmp r.total new n whole some.0 z whole-climbs some.2 (behind_answer n j some.0 z some.2 le h))
        | inr none ↦ absurd (none-left j z (let all = asks-none n none.1 in omega arith) h)
      ]

  -- an item put in where this many answers are settled
  pub drop-part-more : (n j : ℕ) (x : X) → asks_upto cmp old new xs n ≤ j → slice_get xs j ≡ Some x → drop n (part (suc j)) ≡ put cmp new x (drop n (part j))
  drop-part-more n j x le e =
      ap (λ zs. drop n (sorted cmp new zs)) (take-snoc j xs x e)
      ∙ ap (drop n) (sorted-snoc cmp new (take j xs) x)
      ∙ drop-put cmp r.total new n (part j) x (settled-beyond n j x le (In-at j xs x e))

  -- an item of the part that comes at or before the last one asked for is the next answer
  pub reached-shared : (n i : ℕ) (p d : X) → i < length xs → slice_get (part (suc i)) n ≡ Some p → is_gt (cmp (new p) (old (get_or xs i d))) ≡ false → take (suc n) (part (suc i)) ≡ take (suc n) whole
  reached-shared n i p d within e reached =
      Climbs-shared cmp r.total new (suc n) (part (suc i)) whole (part-climbs (suc i)) whole-climbs (part-within (suc i))
      (λ z h. elim (whole-parts (suc i) z h) [
        | inl k ↦ inl k
        | inr k ↦ inr (IsBeyond-drop cmp r.total new n (part (suc i)) p z (part-climbs (suc i)) e
            (later-behind (new p) z (In-drop (suc i) xs z k)
            (cmp-behind-Less cmp r.total (new p) (old (get_or xs i d)) (old z) reached (Climbs-behind cmp old i xs d z r.rising within k))))
      ])

  -- and takes no more asks
  pub reached-asked : (n i : ℕ) (p d : X) → i < length xs → slice_get (part (suc i)) n ≡ Some p → is_gt (cmp (new p) (old (get_or xs i d))) ≡ false → asks_upto cmp old new xs (suc n) ≤ suc i
  reached-asked n i p d within e reached =
      let there = sym (slice_get-shared n (part (suc i)) whole (reached-shared n i p d within e reached)) ∙ e in
      let asks = asks-some n p there in
      elim (cases_lt i (length (those_before cmp old (Some (new p)) xs))) [
        | inl more ↦ absurd (true≢false (sym (get_or-asked cmp r.total old (Some (new p)) xs i d r.rising more) ∙ sym (is_gt-turned cmp r.total (new p) (old (get_or xs i d))) ∙ reached))
        | inr few ↦ omega arith
      ]

  -- once this many asks are made the next answer is in the part, and comes at or before the last one asked for
  pub asked-reached : (n i : ℕ) (d : X) → i < length xs → asks_upto cmp old new xs (suc n) ≤ suc i → (p : X) × (slice_get (part (suc i)) n ≡ Some p) × (is_gt (cmp (new p) (old (get_or xs i d))) ≡ false)
  asked-reached n i d within le =
      elim (slice_get_cases whole n).1 [
        | inl some ↦
            let p = some.0 in
            let asks = asks-some n p some.2 in (
              p,
              slice_get-shared n (part (suc i)) whole (settled (suc n) (suc i) le) ∙ some.2,
              is_gt-turned cmp r.total (new p) (old (get_or xs i d))
                  ∙ (elim (is_lt (cmp (old (get_or xs i d)) (new p))) as (λ b. is_lt (cmp (old (get_or xs i d)) (new p)) ≡ b → b ≡ false) [
                    | true ↦ λ e. let more = get_or-before cmp r.total old (Some (new p)) xs i d r.rising within e in absurd (omega arith)
                    | false ↦ λ e. refl
                  ]) refl,
            )
        | inr none ↦ let all = asks-none n none.1 in absurd (omega arith)
      ]
