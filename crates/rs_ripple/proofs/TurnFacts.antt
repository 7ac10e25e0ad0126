-- The turns of two sides by their keys: how many each side has had, whose turn is next, and where the turns up to a bar end.
use Rattle.std.proofs.Common.{◌≡◌, ℕ, suc, ◌+◌, ◌≤◌, Bool, true, false, cond, List, [], ◌∷◌, ◌++◌, length, take, drop, map, Option, None, refl, sym, ◌∙◌, ap, ap₂, subst, inl, inr, arith}
use Rattle.std.proofs.lemmas.Bool.{true≢false}
use Rattle.std.proofs.lemmas.List.{append_assoc, take-append-drop}
use Rattle.std.proofs.lemmas.List.Elements.{filter-append}
use Rattle.std.specs.Cmp.{IsTotalOrder}
use Rattle.std.specs.List.{AllByRecursion, filter}
use Rattle.std.specs.Ordering.{is_gt}
use Rattle.std.specs.declared.cmp.Ordering.{Ordering}
use Rattle.rs_order.specs.Asks.{comes_before_bar, those_before}
use Rattle.rs_order.specs.Climbing.{Ascends, Climbs, In, IsNoLater}
use Rattle.rs_order.specs.Merging.{merged}
use Rattle.rs_order.specs.Schedule.{JoinSide, Left, Right, SideAsk, Turn, asked, turns_from, turns_of}
use Rattle.rs_order.proofs.AscendingFacts.{Ascends-Climbs, Ascends-merged, those_before-begin}
use Rattle.rs_order.proofs.ItemFacts.{In-filter-back}
use Rattle.rs_order.proofs.MergingFacts.{merged-left, merged-right}
use Rattle.rs_order.proofs.PartFacts.{In-take}

-- the asks of turns
abbrev pub asks_in : {K : Type 0} → List (Turn K) → List SideAsk
asks_in turns = map (λ turn. turn.ask) turns

-- turns of two sides from these numbers on
abbrev pub turns_between : {K : Type 0} → (K → K → Ordering) → ℕ → ℕ → List K → List K → List (Turn K)
turns_between cmp a b lefts rights = merged cmp (λ turn. turn.key) (turns_from Left a lefts) (turns_from Right b rights)

-- turns that were had, and those that are left: this many of each side
pub record IsCut {K : Type 0} (cmp : K → K → Ordering) (a b : ℕ) (lefts rights : List K) (front back : List (Turn K)) : Type 0 where
  pub m : ℕ
  pub n : ℕ
  pub rest : back ≡ turns_between cmp (m + a) (n + b) (drop m lefts) (drop n rights)
  pub left_within : m ≤ length lefts
  pub right_within : n ≤ length rights
  pub left_asked : asked Left (asks_in front) ≡ m
  pub right_asked : asked Right (asks_in front) ≡ n

module _ {K : Type 0} (cmp : K → K → Ordering) where
  -- one turn more
  left_more : (a b : ℕ) (l : K) (ls rs : List K) (front back : List (Turn K)) → IsCut cmp (suc a) b ls rs front back → IsCut cmp a b (l ∷ ls) rs (record { ask = record { side = Left; number = a }; key = l } ∷ front) back
  left_more a b l ls rs front back c =
      let number : c.m + suc a ≡ suc c.m + a = omega arith in
      let within = c.left_within in
      record {
        m = suc c.m;
        n = c.n;
        rest = c.rest ∙ ap (λ k. turns_between cmp k (c.n + b) (drop c.m ls) (drop c.n rs)) number;
        left_within = omega arith;
        right_within = c.right_within;
        left_asked = ap suc c.left_asked;
        right_asked = c.right_asked;
      }

  right_more : (a b : ℕ) (r : K) (ls rs : List K) (front back : List (Turn K)) → IsCut cmp a (suc b) ls rs front back → IsCut cmp a b ls (r ∷ rs) (record { ask = record { side = Right; number = b }; key = r } ∷ front) back
  right_more a b r ls rs front back c =
      let number : c.n + suc b ≡ suc c.n + b = omega arith in
      let within = c.right_within in
      record {
        m = c.m;
        n = suc c.n;
        rest = c.rest ∙ ap (λ k. turns_between cmp (c.m + a) k (drop c.m ls) (drop c.n rs)) number;
        left_within = c.left_within;
        right_within = omega arith;
        left_asked = c.left_asked;
        right_asked = ap suc c.right_asked;
      }

  pub cut : (a b : ℕ) (ls rs : List K) (front back : List (Turn K)) → turns_between cmp a b ls rs ≡ front ++ back → IsCut cmp a b ls rs front back
  cut a b ls rs [] back e = record {
    m = 0;
    n = 0;
    rest = sym e ∙ ap₂ (λ x y. turns_between cmp x y ls rs) (omega arith) (omega arith);
    left_within = omega arith;
    right_within = omega arith;
    left_asked = refl;
    right_asked = refl;
  }
  cut a b [] [] (h ∷ front) back e = cc
  cut a b [] (r ∷ rs) (h ∷ front) back e =
      let first : record { ask = record { side = Right; number = b }; key = r } ≡ h = cc in
      let rest : turns_from Right (suc b) rs ≡ front ++ back = cc in
      subst (λ turn. IsCut cmp a b [] (r ∷ rs) (turn ∷ front) back) first
      (right_more a b r [] rs front back (cut a (suc b) [] rs front back rest))
  cut a b (l ∷ ls) [] (h ∷ front) back e =
      let first : record { ask = record { side = Left; number = a }; key = l } ≡ h = cc in
      let rest : turns_between cmp (suc a) b ls [] ≡ front ++ back = cc in
      subst (λ turn. IsCut cmp a b (l ∷ ls) [] (turn ∷ front) back) first
      (left_more a b l ls [] front back (cut (suc a) b ls [] front back rest))
  cut a b (l ∷ ls) (r ∷ rs) (h ∷ front) back e =
      (elim (is_gt (cmp l r)) as (λ t. is_gt (cmp l r) ≡ t → IsCut cmp a b (l ∷ ls) (r ∷ rs) (h ∷ front) back) [
        | true ↦ λ g.
            let step = sym (merged-right cmp (λ (turn : Turn K). turn.key) (record { ask = record { side = Left; number = a }; key = l }) (record { ask = record { side = Right; number = b }; key = r }) (turns_from Left (suc a) ls) (turns_from Right (suc b) rs) g) ∙ e in
            let first : record { ask = record { side = Right; number = b }; key = r } ≡ h = cc in
            let rest : turns_between cmp a (suc b) (l ∷ ls) rs ≡ front ++ back = cc in
            subst (λ turn. IsCut cmp a b (l ∷ ls) (r ∷ rs) (turn ∷ front) back) first
            (right_more a b r (l ∷ ls) rs front back (cut a (suc b) (l ∷ ls) rs front back rest))
        | false ↦ λ g.
            let step = sym (merged-left cmp (λ (turn : Turn K). turn.key) (record { ask = record { side = Left; number = a }; key = l }) (record { ask = record { side = Right; number = b }; key = r }) (turns_from Left (suc a) ls) (turns_from Right (suc b) rs) g) ∙ e in
            let first : record { ask = record { side = Left; number = a }; key = l } ≡ h = cc in
            let rest : turns_between cmp (suc a) b ls (r ∷ rs) ≡ front ++ back = cc in
            subst (λ turn. IsCut cmp a b (l ∷ ls) (r ∷ rs) (turn ∷ front) back) first
            (left_more a b l ls (r ∷ rs) front back (cut (suc a) b ls (r ∷ rs) front back rest))
      ]) refl

  -- the keys of a side's turns are the side's
  Ascends-turns : (side : JoinSide) (n : ℕ) (keys : List K) → Ascends cmp (λ key. key) keys → Ascends cmp (λ (turn : Turn K). turn.key) (turns_from side n keys)
  Ascends-turns side n [] a = tt
  Ascends-turns side n (key ∷ keys) a = (each (suc n) keys a.0, Ascends-turns side (suc n) keys a.1)
    where
      each : (m : ℕ) (ks : List K) → AllByRecursion (IsNoLater cmp (λ k. k) key) ks → AllByRecursion (λ (turn : Turn K). is_gt (cmp key turn.key) ≡ false) (turns_from side m ks)
      each m [] h = tt
      each m (k ∷ ks) h = (h.0, each (suc m) ks h.1)

  pub turns-ascend : IsTotalOrder cmp → (lefts rights : List K) → Climbs cmp (λ key. key) lefts → Climbs cmp (λ key. key) rights → Ascends cmp (λ turn. turn.key) (turns_of cmp lefts rights)
  turns-ascend o lefts rights c d =
      Ascends-merged cmp o (λ (turn : Turn K). turn.key) (turns_from Left 2 lefts) (turns_from Right 2 rights)
      (Ascends-turns Left 2 lefts (Ascends-Climbs cmp (λ key. key) lefts c)) (Ascends-turns Right 2 rights (Ascends-Climbs cmp (λ key. key) rights d))

-- what passes is all where all pass
pub filter-all : {X : Type 0} (p : X → Bool) (xs : List X) → ((z : X) → In z xs → p z ≡ true) → filter p xs ≡ xs
filter-all p [] all = refl
filter-all p (x ∷ xs) all = ap (λ b. cond b (x ∷ filter p xs) (filter p xs)) (all x (inl refl)) ∙ ap (λ ys. x ∷ ys) (filter-all p xs (λ z h. all z (inr h)))

-- turns that ascend, up to a bar
module _ {K : Type 0} (cmp : K → K → Ordering) (o : IsTotalOrder cmp) (bar : Option K) where
  abbrev before : List (Turn K) → List (Turn K)
  before turns = those_before cmp (λ turn. turn.key) bar turns

  before-None : (turns : List (Turn K)) → those_before cmp (λ turn. turn.key) None turns ≡ turns
  before-None [] = refl
  before-None (turn ∷ turns) = ap (λ ts. turn ∷ ts) (before-None turns)

  -- the first of those before the bar are the first of all
  pub before-front : (turns : List (Turn K)) (t : ℕ) → Ascends cmp (λ turn. turn.key) turns → turns ≡ take t (before turns) ++ (drop t (before turns) ++ drop (length (before turns)) turns)
  before-front turns t ascends =
      let first : before turns ≡ take (length (before turns)) turns =
      those_before-begin cmp o (λ (turn : Turn K). turn.key) bar None turns ascends tt ∙ ap (take (length (before turns))) (before-None turns) in
      sym (take-append-drop (length (before turns)) turns)
      ∙ ap (λ ts. ts ++ drop (length (before turns)) turns) (sym first ∙ sym (take-append-drop t (before turns)))
      ∙ append_assoc (take t (before turns)) (drop t (before turns)) (drop (length (before turns)) turns)

  -- of turns of which the first ones come before the bar those before it are these, and those of the others
  pub before-split : (front back : List (Turn K)) → ((z : Turn K) → In z front → comes_before_bar cmp bar z.key ≡ true) → before (front ++ back) ≡ front ++ before back
  before-split front back all =
      filter-append (λ turn. comes_before_bar cmp bar turn.key) front back
      ∙ ap (λ ts. ts ++ before back) (filter-all (λ turn. comes_before_bar cmp bar turn.key) front all)

  pub before-none : (h : Turn K) (rest : List (Turn K)) → Ascends cmp (λ turn. turn.key) (h ∷ rest) → comes_before_bar cmp bar h.key ≡ false → before (h ∷ rest) ≡ []
  before-none h rest ascends e =
      let begins : before (h ∷ rest) ≡ take (length (before (h ∷ rest))) (h ∷ rest) =
      those_before-begin cmp o (λ (turn : Turn K). turn.key) bar None (h ∷ rest) ascends tt ∙ ap (take (length (before (h ∷ rest)))) (before-None (h ∷ rest)) in
      go (before (h ∷ rest)) begins (λ z k. (In-filter-back (λ turn. comes_before_bar cmp bar turn.key) z (h ∷ rest) k).1)
    where
      go : (ts : List (Turn K)) → ts ≡ take (length ts) (h ∷ rest) → ((z : Turn K) → In z ts → comes_before_bar cmp bar z.key ≡ true) → ts ≡ []
      go [] f passes = refl
      go (t ∷ ts) f passes = let same : t ≡ h = cc in absurd (true≢false (sym (passes t (inl refl)) ∙ ap (λ (turn : Turn K). comes_before_bar cmp bar turn.key) same ∙ e))

  pub before-whole : (turns : List (Turn K)) → Ascends cmp (λ turn. turn.key) turns → turns ≡ before turns ++ drop (length (before turns)) turns
  before-whole turns ascends =
      let first : before turns ≡ take (length (before turns)) turns =
      those_before-begin cmp o (λ (turn : Turn K). turn.key) bar None turns ascends tt ∙ ap (take (length (before turns))) (before-None turns) in
      sym (take-append-drop (length (before turns)) turns) ∙ ap (λ ts. ts ++ drop (length (before turns)) turns) (sym first)

  pub before-each : (turns : List (Turn K)) (z : Turn K) → In z (before turns) → comes_before_bar cmp bar z.key ≡ true
  before-each turns z h = (In-filter-back (λ turn. comes_before_bar cmp bar turn.key) z turns h).1

  -- each of the first of those before the bar comes before it
  pub before-all : (turns : List (Turn K)) (t : ℕ) (z : Turn K) → In z (take t (before turns)) → comes_before_bar cmp bar z.key ≡ true
  before-all turns t z h = (In-filter-back (λ turn. comes_before_bar cmp bar turn.key) z turns (In-take t (before turns) z h)).1

  -- what is behind turns that ascend does so
  pub Ascends-back : (front back : List (Turn K)) → Ascends cmp (λ turn. turn.key) (front ++ back) → Ascends cmp (λ turn. turn.key) back
  Ascends-back [] back a = a
  Ascends-back (turn ∷ front) back a = Ascends-back front back a.1
