-- Merged keys are ordered as the keys of both sides are.
use Rattle.std.proofs.Common.{◌≡◌, ℕ, ◌+◌, ◌-◌, ◌<◌, ◌≤◌, false, List, [], ◌∷◌, length, bit_or, refl, sym, ◌∙◌, ap, ◌⊎◌, inl, inr, arith, rules}
use Rattle.std.proofs.lemmas.Bool.{true≢false}
use Rattle.std.proofs.lemmas.Bool.Decides.{nat_tests}
use Rattle.std.proofs.lemmas.Cmp.{ranked}
use Rattle.std.specs.Cmp.{IsTotalOrder, nat_cmp_is}
use Rattle.std.specs.Cmp.Rules.{comparing}
use Rattle.std.specs.Cmp.Lexicographic.{slice_cmp}
use Rattle.std.specs.Ordering.{MatchOrdering, is_eq, is_gt, nat_cmp, ordering_then}
use Rattle.std.specs.declared.cmp.Ordering.{Ordering}
use Rattle.std.specs.declared.cmp.Ordering.TheVariants.{Less, Equal, Greater}
use Rattle.rs_rank.specs.declared.key.Key.{Key}
use Rattle.rs_rank.specs.declared.weights.Weights.{Weights}
use Rattle.rs_rank.specs.Ids.{merge_rows}
use Rattle.rs_rank.specs.Keys.{IsAtOrBefore, IsBefore, IsTied, key_cmp}
use Rattle.rs_rank.specs.Merging.{CanMerge, merge_key}
use Rattle.rs_rank.specs.Weights.{rest}
use Rattle.rs_rank.proofs.IdsFacts.{AreApart, AreApart-sides, merge_number}

-- where neither side goes back, the merges are ordered by the left side, and where it is equal by the right one
abbrev IsMerged : Ordering → Ordering → Ordering → Type 0
IsMerged left right both = is_gt left ≡ false → is_gt right ≡ false → both ≡ ordering_then left right

-- two comparisons, one after the other
IsMerged-then : (l r m l' r' m' : Ordering) → IsMerged l r m → IsMerged l' r' m' → IsMerged (ordering_then l l') (ordering_then r r') (ordering_then m m')
IsMerged-then Less Less m l' r' m' first second = λ p q. ap (λ o. ordering_then o m') (first refl refl)
IsMerged-then Less Equal m l' r' m' first second = λ p q. ap (λ o. ordering_then o m') (first refl refl)
IsMerged-then Less Greater m l' r' m' first second = λ p q. absurd (true≢false q)
IsMerged-then Equal Less m Less r' m' first second = λ p q. ap (λ o. ordering_then o m') (first refl refl)
IsMerged-then Equal Less m Equal r' m' first second = λ p q. ap (λ o. ordering_then o m') (first refl refl)
IsMerged-then Equal Less m Greater r' m' first second = λ p q. absurd (true≢false p)
IsMerged-then Equal Equal m l' r' m' first second = λ p q. ap (λ o. ordering_then o m') (first refl refl) ∙ second p q
IsMerged-then Equal Greater m l' r' m' first second = λ p q. absurd (true≢false q)
IsMerged-then Greater r m l' r' m' first second = λ p q. absurd (true≢false p)

-- a comparison of numbers, from what holds of them
compared : (x y : ℕ) (l : Ordering) → nat_cmp x y ≡ l → MatchOrdering l (x < y) (x ≡ y) (y < x)
compared x y l e = ranked x y l (sym e)

-- numbers at one entry, of which one side has no row
IsMerged-number : (x y z w : ℕ) → (x ≡ 0) ⊎ (y ≡ 0) → (z ≡ 0) ⊎ (w ≡ 0) → IsMerged (nat_cmp x z) (nat_cmp y w) (nat_cmp (merge_number x y) (merge_number z w))
IsMerged-number x y z w one other =
    number (nat_cmp x z) (nat_cmp y w) (compared x z (nat_cmp x z) refl) (compared y w (nat_cmp y w) refl)
  where
    number : (l r : Ordering) → MatchOrdering l (x < z) (x ≡ z) (z < x) → MatchOrdering r (y < w) (y ≡ w) (w < y) → is_gt l ≡ false → is_gt r ≡ false → nat_cmp (merge_number x y) (merge_number z w) ≡ ordering_then l r
    number Less Less before other_before p q = sym (nat_cmp_is (merge_number x y) (merge_number z w) Less (grind (arith, nat_tests)))
    number Less Equal before same p q = sym (nat_cmp_is (merge_number x y) (merge_number z w) Less (grind (arith, nat_tests)))
    number Less Greater before after p q = absurd (true≢false q)
    number Equal Less same before p q = sym (nat_cmp_is (merge_number x y) (merge_number z w) Less (grind (arith, nat_tests)))
    number Equal Equal same other_same p q = sym (nat_cmp_is (merge_number x y) (merge_number z w) Equal (grind (arith, nat_tests)))
    number Equal Greater same after p q = absurd (true≢false q)
    number Greater r after other_after p q = absurd (true≢false p)

-- bounds, of which those of both sides have the same parts taken off and one put on
IsMerged-bound : (p q r a b c d : ℕ) → p ≤ a → q ≤ b → p ≤ c → q ≤ d → IsMerged (nat_cmp c a) (nat_cmp d b) (nat_cmp ((c - p) + (d - q) + r) ((a - p) + (b - q) + r))
IsMerged-bound p q r a b c d pa qb pc qd =
    number (nat_cmp c a) (nat_cmp d b) (compared c a (nat_cmp c a) refl) (compared d b (nat_cmp d b) refl)
  where
    number : (l m : Ordering) → MatchOrdering l (c < a) (c ≡ a) (a < c) → MatchOrdering m (d < b) (d ≡ b) (b < d) → is_gt l ≡ false → is_gt m ≡ false → nat_cmp ((c - p) + (d - q) + r) ((a - p) + (b - q) + r) ≡ ordering_then l m
    number Less Less before other_before ahead other_ahead = sym (nat_cmp_is ((c - p) + (d - q) + r) ((a - p) + (b - q) + r) Less (omega arith))
    number Less Equal before same ahead other_ahead = sym (nat_cmp_is ((c - p) + (d - q) + r) ((a - p) + (b - q) + r) Less (omega arith))
    number Less Greater before after ahead other_ahead = absurd (true≢false other_ahead)
    number Equal Less same before ahead other_ahead = sym (nat_cmp_is ((c - p) + (d - q) + r) ((a - p) + (b - q) + r) Less (omega arith))
    number Equal Equal same other_same ahead other_ahead = sym (nat_cmp_is ((c - p) + (d - q) + r) ((a - p) + (b - q) + r) Equal (omega arith))
    number Equal Greater same after ahead other_ahead = absurd (true≢false other_ahead)
    number Greater m after other_after ahead other_ahead = absurd (true≢false ahead)

-- blocks that are the same on both sides
IsMerged-block : (a b c d : ℕ) → a ≡ b → c ≡ d → IsMerged (nat_cmp a c) (nat_cmp b d) (nat_cmp a c)
IsMerged-block a b c d e f =
    rw (← e, ← f) (same (nat_cmp a c))
  where
    same : (o : Ordering) → IsMerged o o o
    same Less = λ p q. refl
    same Equal = λ p q. refl
    same Greater = λ p q. absurd (true≢false p)

-- row numbers, entry by entry
IsMerged-rows : (xs ys zs ws : List ℕ) → length xs ≡ length zs → length ys ≡ length ws → AreApart xs ys → AreApart zs ws →
    length xs ≡ length ys → IsMerged (slice_cmp nat_cmp xs zs) (slice_cmp nat_cmp ys ws) (slice_cmp nat_cmp (merge_rows xs ys) (merge_rows zs ws))
IsMerged-rows [] [] [] [] e f one other g = λ p q. refl
IsMerged-rows [] [] [] (w ∷ ws) e f one other g = absurd (omega arith)
IsMerged-rows [] [] (z ∷ zs) ws e f one other g = absurd (omega arith)
IsMerged-rows [] (y ∷ ys) zs ws e f one other g = absurd (omega arith)
IsMerged-rows (x ∷ xs) [] zs ws e f one other g = absurd (omega arith)
IsMerged-rows (x ∷ xs) (y ∷ ys) [] ws e f one other g = absurd (omega arith)
IsMerged-rows (x ∷ xs) (y ∷ ys) (z ∷ zs) [] e f one other g = absurd (omega arith)
IsMerged-rows (x ∷ xs) (y ∷ ys) (z ∷ zs) (w ∷ ws) e f one other g =
    IsMerged-then (nat_cmp x z) (nat_cmp y w) (nat_cmp (merge_number x y) (merge_number z w)) (slice_cmp nat_cmp xs zs) (slice_cmp nat_cmp ys ws) (slice_cmp nat_cmp (merge_rows xs ys) (merge_rows zs ws))
    (IsMerged-number x y z w one.0 other.0)
    (IsMerged-rows xs ys zs ws (omega arith) (omega arith) one.1 other.1 (omega arith))

-- whole keys
IsMerged-keys : (weights : Weights) (p q : ℕ) (a b c d : Key) → CanMerge weights p q a b → CanMerge weights p q c d → IsMerged (key_cmp a c) (key_cmp b d) (key_cmp (merge_key weights p q a b) (merge_key weights p q c d))
IsMerged-keys weights p q a b c d first second =
    let a_size = first.sides.left_ids.sized in
    let b_size = first.sides.right_ids.sized in
    let c_size = second.sides.left_ids.sized in
    let d_size = second.sides.right_ids.sized in
    IsMerged-then (nat_cmp c.bound a.bound) (nat_cmp d.bound b.bound) _ _ _ _
    (IsMerged-bound (rest weights p) (rest weights q) (rest weights (bit_or p q)) a.bound b.bound c.bound d.bound first.left_bound.least first.right_bound.least second.left_bound.least second.right_bound.least)
    (IsMerged-then (nat_cmp a.ids.block c.ids.block) (nat_cmp b.ids.block d.ids.block) _ _ _ _
    (IsMerged-block a.ids.block b.ids.block c.ids.block d.ids.block first.sides.block second.sides.block)
    (IsMerged-rows a.ids.rows b.ids.rows c.ids.rows d.ids.rows (a_size ∙ sym c_size) (b_size ∙ sym d_size)
    (AreApart-sides a.ids b.ids first.sides) (AreApart-sides c.ids d.ids second.sides) (a_size ∙ sym b_size)))

equal_is_not_less : Equal ≡ Less → ⊥
equal_is_not_less e = true≢false (ap is_eq e)

-- neither side goes back, and so neither does the merge
pub IsAtOrBefore-merge_key : (weights : Weights) (p q : ℕ) (a b c d : Key) → CanMerge weights p q a b → CanMerge weights p q c d → IsAtOrBefore a c → IsAtOrBefore b d → IsAtOrBefore (merge_key weights p q a b) (merge_key weights p q c d)
IsAtOrBefore-merge_key weights p q a b c d first second left right =
    ap is_gt (IsMerged-keys weights p q a b c d first second left right) ∙ neither (key_cmp a c) (key_cmp b d) left right
  where
    neither : (l r : Ordering) → is_gt l ≡ false → is_gt r ≡ false → is_gt (ordering_then l r) ≡ false
    neither Less r ahead other_ahead = refl
    neither Equal r ahead other_ahead = other_ahead
    neither Greater r ahead other_ahead = ahead

-- the merge comes strictly before where one side does
pub IsBefore-merge_key : (weights : Weights) (p q : ℕ) (a b c d : Key) → CanMerge weights p q a b → CanMerge weights p q c d → IsAtOrBefore a c → IsAtOrBefore b d → IsBefore a c ⊎ IsBefore b d → IsBefore (merge_key weights p q a b) (merge_key weights p q c d)
IsBefore-merge_key weights p q a b c d first second left right strict =
    IsMerged-keys weights p q a b c d first second left right ∙ one (key_cmp a c) (key_cmp b d) left strict
  where
    one : (l r : Ordering) → is_gt l ≡ false → (l ≡ Less) ⊎ (r ≡ Less) → ordering_then l r ≡ Less
    one Less r ahead before = refl
    one Equal r ahead before = elim before [ inl e ↦ absurd (equal_is_not_less e) | inr e ↦ e ]
    one Greater r ahead before = absurd (true≢false ahead)

-- the order of keys is total
pub key_cmp-total : IsTotalOrder key_cmp
key_cmp-total = search (comparing, rules) depth 9

-- two comparisons in turn tie where both do
then-Equal : (l r : Ordering) → ordering_then l r ≡ Equal → (l ≡ Equal) × (r ≡ Equal)
then-Equal Less r e = absurd (equal_is_not_less (sym e))
then-Equal Equal r e = (refl, e)
then-Equal Greater r e = absurd (true≢false (ap is_gt e))

-- numbers tie where they are equal
nat_cmp-Equal : (x y : ℕ) → nat_cmp x y ≡ Equal → x ≡ y
nat_cmp-Equal x y e = compared x y Equal e

slice_cmp-Equal : (xs ys : List ℕ) → slice_cmp nat_cmp xs ys ≡ Equal → xs ≡ ys
slice_cmp-Equal [] [] e = refl
slice_cmp-Equal [] (y ∷ ys) e = absurd (equal_is_not_less (sym e))
slice_cmp-Equal (x ∷ xs) [] e = absurd (true≢false (ap is_gt e))
slice_cmp-Equal (x ∷ xs) (y ∷ ys) e =
    let both = then-Equal (nat_cmp x y) (slice_cmp nat_cmp xs ys) e in
    let first = nat_cmp-Equal x y both.0 in
    let others = slice_cmp-Equal xs ys both.1 in
    cc

-- a number ties with itself
nat_cmp-itself : (x : ℕ) → nat_cmp x x ≡ Equal
nat_cmp-itself x = sym (nat_cmp_is x x Equal refl)

slice_cmp-itself : (xs : List ℕ) → slice_cmp nat_cmp xs xs ≡ Equal
slice_cmp-itself [] = refl
slice_cmp-itself (x ∷ xs) = ap (λ o. ordering_then o (slice_cmp nat_cmp xs xs)) (nat_cmp-itself x) ∙ slice_cmp-itself xs

-- what ties with a key has its bound, block and row numbers
pub IsTied-parts : (key other : Key) → IsTied key other → (key.bound ≡ other.bound) × (key.ids.block ≡ other.ids.block) × (key.ids.rows ≡ other.ids.rows)
IsTied-parts key other tied =
    let bounds = then-Equal (nat_cmp other.bound key.bound) (ordering_then (nat_cmp key.ids.block other.ids.block) (slice_cmp nat_cmp key.ids.rows other.ids.rows)) tied in
    let ids = then-Equal (nat_cmp key.ids.block other.ids.block) (slice_cmp nat_cmp key.ids.rows other.ids.rows) bounds.1 in
    (sym (nat_cmp-Equal other.bound key.bound bounds.0), nat_cmp-Equal key.ids.block other.ids.block ids.0, slice_cmp-Equal key.ids.rows other.ids.rows ids.1)

-- and the other way round
pub IsTied-of_parts : (key other : Key) → (key.bound ≡ other.bound) × (key.ids.block ≡ other.ids.block) × (key.ids.rows ≡ other.ids.rows) → IsTied key other
IsTied-of_parts key other same =
    rw (same.0, same.1, same.2, nat_cmp-itself other.bound, nat_cmp-itself other.ids.block) (slice_cmp-itself other.ids.rows)
