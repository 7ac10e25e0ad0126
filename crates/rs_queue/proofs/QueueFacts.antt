-- The pairs of a heap in the order of their keys: what a push puts among them, and which one comes first.
use Rattle.std.proofs.Common.{◌≡◌, true, false, ◌||◌, List, [], ◌∷◌, ◌++◌, length, refl, sym, ◌∙◌, ap, arith}
use Rattle.std.proofs.lemmas.Bool.{true≢false}
use Rattle.std.proofs.lemmas.List.Elements.{All-from_recursion, recursion_from_All}
use Rattle.std.proofs.lemmas.List.Sorted.{All-permutation, IsPermutation-sym, IsPermutation-to_front, IsPermutation-trans, length_permutation, list_any-IsPermutation}
use Rattle.std.proofs.lemmas.Map.Keys.{IsDistinct-head, IsDistinct-tail, IsDistinct-push, IsDistinct-IsPermutation}
use Rattle.std.specs.BinaryHeap.{IsUpperBound}
use Rattle.std.specs.Cmp.{IsEquivalence, IsTotalOrder, back_total, eq_by_cmp_equiv, on_total, tied_back}
use Rattle.std.specs.List.{IsDistinct, list_any}
use Rattle.std.specs.List.Sorted.{IsPermutation}
use Rattle.std.specs.Ordering.{is_eq, is_lt, eq_by_cmp, ordering_reverse}
use Rattle.std.specs.declared.cmp.Ordering.{Ordering}
use Rattle.std.specs.declared.cmp.Ordering.TheVariants.{Less, Equal, Greater}
use Rattle.rs_order.specs.Climbing.{Climbs, Differs, HasDistinctKeys, In}
use Rattle.rs_order.specs.Sorting.{put, sorted}
use Rattle.rs_order.proofs.ClimbingFacts.{AllByRecursion-In, AllByRecursion-from_In, Climbs-same}
use Rattle.rs_order.proofs.EachFacts.{each-weaker}
use Rattle.rs_order.proofs.PartFacts.{sorted-snoc}
use Rattle.rs_order.proofs.SortingFacts.{Climbs-sorted, In-sorted, In-sorted-back, IsPermutation-sorted, put-split}
use Rattle.rs_queue.specs.Queue.{by_falling_key, has_key}

-- what a list has, it has in another order
In-permutation : {X : Type 0} (xs ys : List X) → IsPermutation xs ys → (z : X) → In z xs → In z ys
In-permutation xs ys moved z h =
    AllByRecursion-In (λ w. In w ys) xs
    (recursion_from_All (λ w. In w ys) xs
    (All-permutation (λ w. In w ys) ys xs (IsPermutation-sym xs ys moved)
    (All-from_recursion (λ w. In w ys) ys (AllByRecursion-from_In (λ w. In w ys) ys (λ w k. k)))))
    z h

-- answers of an order by their tests
not_lt-not_eq : (o : Ordering) → is_lt o ≡ false → is_eq o ≡ false → o ≡ Greater
not_lt-not_eq Less lt eq = absurd (true≢false lt)
not_lt-not_eq Equal lt eq = absurd (true≢false eq)
not_lt-not_eq Greater lt eq = refl

-- the key of a pair
abbrev pub key_of : {K V : Type 0} → K × V → K
key_of pair = pair.0

module _ {K V : Type 0} (cmp : K → K → Ordering) where
  -- no two pairs have equal keys
  abbrev pub AreApart : List (K × V) → Type 0
  AreApart pairs = IsDistinct (eq_by_cmp (by_falling_key cmp)) pairs

  has_key-list_any : (key : K) (pairs : List (K × V)) → has_key cmp key pairs ≡ list_any (λ pair. is_eq (cmp pair.0 key)) pairs
  has_key-list_any key [] = refl
  has_key-list_any key (pair ∷ rest) = ap (λ b. is_eq (cmp pair.0 key) || b) (has_key-list_any key rest)

  -- a key is in the queue where it is in the heap
  pub has_key-sorted : (key : K) (pairs : List (K × V)) → has_key cmp key (sorted cmp key_of pairs) ≡ list_any (λ pair. is_eq (cmp pair.0 key)) pairs
  has_key-sorted key pairs =
      has_key-list_any key (sorted cmp key_of pairs)
      ∙ sym (list_any-IsPermutation (λ pair. is_eq (cmp pair.0 key)) pairs (sorted cmp key_of pairs) (IsPermutation-sorted cmp key_of pairs))

  -- the queue has as many pairs as the heap
  pub length-sorted : (pairs : List (K × V)) → length (sorted cmp key_of pairs) ≡ length pairs
  length-sorted pairs = length_permutation pairs (sorted cmp key_of pairs) (IsPermutation-sorted cmp key_of pairs)

  module _ (total : IsTotalOrder cmp) where
    same_key-equivalence : IsEquivalence {K = K × V} (eq_by_cmp (by_falling_key cmp))
    same_key-equivalence = eq_by_cmp_equiv (back_total (on_total (λ (pair : K × V). pair.0) total))

    -- keys that are apart differ
    HasDistinctKeys-apart : (pairs : List (K × V)) → AreApart pairs → HasDistinctKeys cmp key_of pairs
    HasDistinctKeys-apart [] apart = tt
    HasDistinctKeys-apart (pair ∷ rest) apart = (
      each-weaker (λ other. is_eq (cmp other.0 pair.0) ≡ false) (Differs cmp key_of pair) (λ other differs tied. true≢false (sym (ap is_eq (tied_back total pair.0 other.0 tied)) ∙ differs)) rest
          (IsDistinct-head (eq_by_cmp (by_falling_key cmp)) pair rest apart),
      HasDistinctKeys-apart rest (IsDistinct-tail (eq_by_cmp (by_falling_key cmp)) pair rest apart),
    )

    -- the keys of a queue rise
    pub Climbs-queue : (pairs : List (K × V)) → AreApart pairs → Climbs cmp key_of (sorted cmp key_of pairs)
    Climbs-queue pairs apart = Climbs-sorted cmp total key_of pairs (HasDistinctKeys-apart pairs apart)

    -- pairs in another order are as far apart, and make the same queue
    pub AreApart-moved : (xs ys : List (K × V)) → IsPermutation xs ys → AreApart xs → AreApart ys
    AreApart-moved xs ys moved apart = IsDistinct-IsPermutation (eq_by_cmp (by_falling_key cmp)) same_key-equivalence.symm xs ys moved apart

    sorted-moved : (xs ys : List (K × V)) → IsPermutation xs ys → AreApart xs → sorted cmp key_of xs ≡ sorted cmp key_of ys
    sorted-moved xs ys moved apart =
        Climbs-same cmp total key_of (sorted cmp key_of xs) (sorted cmp key_of ys)
        (Climbs-queue xs apart)
        (Climbs-queue ys (AreApart-moved xs ys moved apart))
        (λ z h. In-sorted cmp key_of ys z (In-permutation xs ys moved z (In-sorted-back cmp key_of xs z h)))
        (λ z h. In-sorted cmp key_of xs z (In-permutation ys xs (IsPermutation-sym xs ys moved) z (In-sorted-back cmp key_of ys z h)))

    -- a pair whose key is new, behind the others
    pub AreApart-push : (pair : K × V) (xs : List (K × V)) → has_key cmp pair.0 (sorted cmp key_of xs) ≡ false → AreApart xs → AreApart (xs ++ pair ∷ [])
    AreApart-push pair xs free apart = IsDistinct-push same_key-equivalence xs pair apart (sym (has_key-sorted pair.0 xs) ∙ free)

    last-moved : (pair : K × V) (xs ys : List (K × V)) → IsPermutation (pair ∷ xs) ys → IsPermutation (xs ++ pair ∷ []) ys
    last-moved pair xs ys moved = IsPermutation-trans (xs ++ pair ∷ []) (pair ∷ xs) ys (IsPermutation-to_front xs pair) moved

    -- pairs that a pair with a new key has joined
    pub AreApart-pushed : (pair : K × V) (xs ys : List (K × V)) → IsPermutation (pair ∷ xs) ys → has_key cmp pair.0 (sorted cmp key_of xs) ≡ false → AreApart xs → AreApart ys
    AreApart-pushed pair xs ys moved free apart = AreApart-moved (xs ++ pair ∷ []) ys (last-moved pair xs ys moved) (AreApart-push pair xs free apart)

    pub sorted-pushed : (pair : K × V) (xs ys : List (K × V)) → IsPermutation (pair ∷ xs) ys → has_key cmp pair.0 (sorted cmp key_of xs) ≡ false → AreApart xs → sorted cmp key_of ys ≡ put cmp key_of pair (sorted cmp key_of xs)
    sorted-pushed pair xs ys moved free apart =
        sym (sorted-moved (xs ++ pair ∷ []) ys (last-moved pair xs ys moved) (AreApart-push pair xs free apart)) ∙ sorted-snoc cmp key_of xs pair

    -- a pair that is not less than another one, whose key isn't equal, comes before it
    comes_first : (pair other : K × V) → is_lt (cmp other.0 pair.0) ≡ false → is_eq (cmp other.0 pair.0) ≡ false → is_lt (cmp pair.0 other.0) ≡ true
    comes_first pair other most differs = ap is_lt (total.antisymm pair.0 other.0 ∙ ap ordering_reverse (not_lt-not_eq (cmp other.0 pair.0) most differs))

    -- the rest of the pairs without the greatest one
    pub AreApart-rest : (pair : K × V) (xs rest : List (K × V)) → IsPermutation xs (pair ∷ rest) → AreApart xs → AreApart rest
    AreApart-rest pair xs rest moved apart = IsDistinct-tail (eq_by_cmp (by_falling_key cmp)) pair rest (AreApart-moved xs (pair ∷ rest) moved apart)

    -- the greatest pair is the first of the queue
    pub sorted-first : (pair : K × V) (xs rest : List (K × V)) → IsPermutation xs (pair ∷ rest) → AreApart xs → IsUpperBound (by_falling_key cmp) pair rest → sorted cmp key_of xs ≡ pair ∷ sorted cmp key_of rest
    sorted-first pair xs rest moved apart most =
        sorted-moved xs (rest ++ pair ∷ []) (IsPermutation-trans xs (pair ∷ rest) (rest ++ pair ∷ []) moved (IsPermutation-sym (rest ++ pair ∷ []) (pair ∷ rest) (IsPermutation-to_front rest pair))) apart
        ∙ sorted-snoc cmp key_of rest pair
        ∙ put-split cmp key_of pair [] (sorted cmp key_of rest) tt
        (AllByRecursion-from_In (λ other. is_lt (cmp pair.0 other.0) ≡ true) (sorted cmp key_of rest)
        (λ other h.
        let behind = In-sorted-back cmp key_of rest other h in
        let differs = IsDistinct-head (eq_by_cmp (by_falling_key cmp)) pair rest (AreApart-moved xs (pair ∷ rest) moved apart) in
        comes_first pair other
        (AllByRecursion-In (λ other. is_lt (cmp other.0 pair.0) ≡ false) rest most other behind)
        (AllByRecursion-In (λ other. is_eq (cmp other.0 pair.0) ≡ false) rest differs other behind)))

  -- a heap without a pair is a queue without one
  pub sorted-none : (pairs : List (K × V)) → length pairs ≡ 0 → sorted cmp key_of pairs ≡ []
  sorted-none [] none = refl
  sorted-none (pair ∷ rest) none = absurd (omega arith)
