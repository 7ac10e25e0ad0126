-- The pairs of a heap and of a run, whose keys rise: what goes on with the run, and what comes first of both.
use Rattle.std.proofs.Common.{◌≡◌, ◌||◌, ℕ, suc, zero, ◌<◌, true, false, List, [], ◌∷◌, ◌++◌, length, get_or, Some, refl, sym, ◌∙◌, ap, subst, arith}
use Rattle.std.proofs.lemmas.Bool.{true≢false}
use Rattle.std.proofs.lemmas.List.{append_assoc}
use Rattle.std.proofs.lemmas.List.Folds.{list_any-append}
use Rattle.std.proofs.lemmas.List.Sorted.{IsPermutation-append, IsPermutation-middle, IsPermutation-refl}
use Rattle.std.specs.BinaryHeap.{IsUpperBound}
use Rattle.std.specs.Cmp.{IsTotalOrder}
use Rattle.std.specs.List.{list_any, slice_get}
use Rattle.std.specs.List.Sorted.{IsPermutation}
use Rattle.std.specs.Ordering.{is_eq, is_gt, is_lt, ordering_reverse}
use Rattle.std.specs.declared.cmp.Ordering.{Ordering}
use Rattle.std.specs.declared.cmp.Ordering.TheVariants.{Less, Equal, Greater}
use Rattle.rs_order.specs.Climbing.{Climbs, Precedes}
use Rattle.rs_order.specs.Sorting.{put, sorted}
use Rattle.rs_order.proofs.EachFacts.{each-append, each-get_or, each-push, each-weaker}
use Rattle.rs_order.proofs.PartFacts.{cmp-Less-behind, cmp-behind-Less, sorted-snoc}
use Rattle.rs_queue.specs.Queue.{Leads, by_falling_key, has_key}
use Rattle.rs_queue.proofs.QueueFacts.{AreApart, AreApart-push, AreApart-pushed, AreApart-rest, has_key-sorted, key_of, sorted-first, sorted-none, sorted-pushed}

-- a test the other way round
not_lt-back : (o : Ordering) → is_lt o ≡ false → is_gt (ordering_reverse o) ≡ false
not_lt-back Less lt = lt
not_lt-back Equal lt = refl
not_lt-back Greater lt = refl

later-not_lt : {K : Type 0} (cmp : K → K → Ordering) → IsTotalOrder cmp → (a b : K) → cmp a b ≡ Less → is_lt (cmp b a) ≡ false
later-not_lt cmp total a b less = ap is_lt (total.antisymm b a ∙ ap ordering_reverse less)

-- a number that isn't above 0
pub none-left : (n : ℕ) → (0 < n → false ≡ true) → n ≡ 0
none-left zero none = refl
none-left (suc n) none = absurd (true≢false (sym (none (omega arith))))

module _ {K V : Type 0} (cmp : K → K → Ordering) (total : IsTotalOrder cmp) where
  -- a pair behind the last one of a run goes on with it
  pub Climbs-push : (pair other : K × V) (run : List (K × V)) (n : ℕ) → length run ≡ suc n → Climbs cmp key_of run → Precedes cmp key_of (get_or run n other) pair → Climbs cmp key_of (run ++ pair ∷ [])
  Climbs-push pair other [] n count rises last = absurd (omega (arith, count))
  Climbs-push pair other (x ∷ []) zero count rises last = ((last, tt), (tt, tt))
  Climbs-push pair other (x ∷ []) (suc n) count rises last = absurd (omega (arith, count))
  Climbs-push pair other (x ∷ y ∷ rest) zero count rises last = absurd (omega (arith, count))
  Climbs-push pair other (x ∷ y ∷ rest) (suc n) count rises last = (
    each-push (Precedes cmp key_of x) (y ∷ rest) pair rises.0 (total.trans (key_of x) (key_of (get_or (y ∷ rest) n other)) (key_of pair)
        (each-get_or (Precedes cmp key_of x) (y ∷ rest) n other rises.0 (omega (arith, count))) last),
    Climbs-push pair other (y ∷ rest) n (omega (arith, count)) rises.1 last,
  )

  pub Climbs-first : (pair : K × V) (run : List (K × V)) → length run ≡ 0 → Climbs cmp key_of (run ++ pair ∷ [])
  Climbs-first pair [] none = (tt, tt)
  Climbs-first pair (x ∷ run) none = absurd (omega (arith, none))

  -- the first pair of a run comes before the others of it
  pub run-bound : (first : K × V) (rest : List (K × V)) → Climbs cmp key_of (first ∷ rest) → IsUpperBound (by_falling_key cmp) first rest
  run-bound first rest rises = each-weaker (Precedes cmp key_of first) (λ other. is_lt (cmp other.0 first.0) ≡ false) (λ other less. later-not_lt cmp total first.0 other.0 less) rest rises.0

  -- a pair before the greatest one of a heap bounds the heap too
  pub bound-before : (pair top : K × V) (heap : List (K × V)) → cmp pair.0 top.0 ≡ Less → IsUpperBound (by_falling_key cmp) top heap → IsUpperBound (by_falling_key cmp) pair heap
  bound-before pair top heap less most =
      each-weaker (λ other. is_lt (cmp other.0 top.0) ≡ false) (λ other. is_lt (cmp other.0 pair.0) ≡ false)
      (λ other behind. later-not_lt cmp total pair.0 other.0 (cmp-Less-behind cmp total pair.0 top.0 other.0 less behind)) heap most

  -- a pair bounds a run where the first one of the run doesn't come before it
  pub bound-run : (pair first : K × V) (rest : List (K × V)) → is_lt (cmp first.0 pair.0) ≡ false → Climbs cmp key_of (first ∷ rest) → IsUpperBound (by_falling_key cmp) pair (first ∷ rest)
  bound-run pair first rest behind rises = (
    behind,
    each-weaker (Precedes cmp key_of first) (λ other. is_lt (cmp other.0 pair.0) ≡ false)
        (λ other less. later-not_lt cmp total pair.0 other.0 (cmp-behind-Less cmp total pair.0 first.0 other.0 (ap is_gt (total.antisymm pair.0 first.0) ∙ not_lt-back (cmp first.0 pair.0) behind) less))
        rest rises.0,
  )

  -- the same of a run that may have no pair
  pub bound-whole_run : (pair first : K × V) (run : List (K × V)) → first ≡ get_or run 0 first → is_lt (cmp first.0 pair.0) ≡ false → Climbs cmp key_of run → IsUpperBound (by_falling_key cmp) pair run
  bound-whole_run pair first [] top behind rises = tt
  bound-whole_run pair first (x ∷ rest) top behind rises = bound-run pair x rest (ap (λ (it : K × V). is_lt (cmp it.0 pair.0)) (sym top) ∙ behind) rises

  -- a list whose first pair comes before those of another one leads it
  pub Leads-from : (first : K × V) (pairs others : List (K × V)) → 0 < length pairs → first ≡ get_or pairs 0 first → IsUpperBound (by_falling_key cmp) first others → Leads cmp pairs others
  Leads-from first [] others some top most = absurd (omega arith)
  Leads-from first (x ∷ rest) others some top most = subst (λ it. IsUpperBound (by_falling_key cmp) it others) top most

  pub Leads-none : (pairs others : List (K × V)) → length others ≡ 0 → Leads cmp pairs others
  Leads-none [] [] none = refl
  Leads-none (x ∷ rest) [] none = tt
  Leads-none pairs (y ∷ others) none = absurd (omega (arith, none))

  -- what the first pair of a list leads
  pub Leads-bound : (pair : K × V) (pairs others : List (K × V)) → 0 < length pairs → pair ≡ get_or pairs 0 pair → Leads cmp pairs others → IsUpperBound (by_falling_key cmp) pair others
  Leads-bound pair [] others some top leads = absurd (omega arith)
  Leads-bound pair (first ∷ rest) others some top leads = subst (λ it. IsUpperBound (by_falling_key cmp) it others) (sym top) leads

  -- the first pair of the heap comes first where it leads the run
  pub sorted-from_heap : (pair : K × V) (heap rest run : List (K × V)) → IsPermutation heap (pair ∷ rest) → AreApart cmp (heap ++ run) → IsUpperBound (by_falling_key cmp) pair rest
      → IsUpperBound (by_falling_key cmp) pair run → sorted cmp key_of (heap ++ run) ≡ pair ∷ sorted cmp key_of (rest ++ run)
  sorted-from_heap pair heap rest run moved apart most leads =
      sorted-first cmp total pair (heap ++ run) (rest ++ run) (IsPermutation-append heap (pair ∷ rest) run run moved (IsPermutation-refl run)) apart
      (each-append (λ other. is_lt (cmp other.0 pair.0) ≡ false) rest run most leads)

  pub AreApart-from_heap : (pair : K × V) (heap rest run : List (K × V)) → IsPermutation heap (pair ∷ rest) → AreApart cmp (heap ++ run) → AreApart cmp (rest ++ run)
  AreApart-from_heap pair heap rest run moved apart =
      AreApart-rest cmp total pair (heap ++ run) (rest ++ run) (IsPermutation-append heap (pair ∷ rest) run run moved (IsPermutation-refl run)) apart

  -- and that of the run where it leads the heap
  pub sorted-from_run : (pair : K × V) (heap rest : List (K × V)) → AreApart cmp (heap ++ pair ∷ rest) → IsUpperBound (by_falling_key cmp) pair heap → Climbs cmp key_of (pair ∷ rest)
      → sorted cmp key_of (heap ++ pair ∷ rest) ≡ pair ∷ sorted cmp key_of (heap ++ rest)
  sorted-from_run pair heap rest apart leads rises =
      sorted-first cmp total pair (heap ++ pair ∷ rest) (heap ++ rest) (IsPermutation-middle heap pair rest) apart
      (each-append (λ other. is_lt (cmp other.0 pair.0) ≡ false) heap rest leads (run-bound pair rest rises))

  pub AreApart-from_run : (pair : K × V) (heap rest : List (K × V)) → AreApart cmp (heap ++ pair ∷ rest) → AreApart cmp (heap ++ rest)
  AreApart-from_run pair heap rest apart = AreApart-rest cmp total pair (heap ++ pair ∷ rest) (heap ++ rest) (IsPermutation-middle heap pair rest) apart

  -- a pair with a new key that goes on with the run
  pub AreApart-on_run : (pair : K × V) (heap run : List (K × V)) → has_key cmp pair.0 (sorted cmp key_of (heap ++ run)) ≡ false → AreApart cmp (heap ++ run) → AreApart cmp (heap ++ (run ++ pair ∷ []))
  AreApart-on_run pair heap run free apart = subst (AreApart cmp) (append_assoc heap run (pair ∷ [])) (AreApart-push cmp total pair (heap ++ run) free apart)

  pub sorted-on_run : (pair : K × V) (heap run : List (K × V)) → sorted cmp key_of (heap ++ (run ++ pair ∷ [])) ≡ put cmp key_of pair (sorted cmp key_of (heap ++ run))
  sorted-on_run pair heap run = ap (sorted cmp key_of) (sym (append_assoc heap run (pair ∷ []))) ∙ sorted-snoc cmp key_of (heap ++ run) pair

  -- and one that joins the heap
  pub AreApart-in_heap : (pair : K × V) (heap more run : List (K × V)) → IsPermutation (pair ∷ heap) more → has_key cmp pair.0 (sorted cmp key_of (heap ++ run)) ≡ false
      → AreApart cmp (heap ++ run) → AreApart cmp (more ++ run)
  AreApart-in_heap pair heap more run moved free apart =
      AreApart-pushed cmp total pair (heap ++ run) (more ++ run) (IsPermutation-append (pair ∷ heap) more run run moved (IsPermutation-refl run)) free apart

  pub sorted-in_heap : (pair : K × V) (heap more run : List (K × V)) → IsPermutation (pair ∷ heap) more → has_key cmp pair.0 (sorted cmp key_of (heap ++ run)) ≡ false
      → AreApart cmp (heap ++ run) → sorted cmp key_of (more ++ run) ≡ put cmp key_of pair (sorted cmp key_of (heap ++ run))
  sorted-in_heap pair heap more run moved free apart =
      sorted-pushed cmp total pair (heap ++ run) (more ++ run) (IsPermutation-append (pair ∷ heap) more run run moved (IsPermutation-refl run)) free apart

  -- where a list without a pair leads, there is none at all
  pub sorted-nothing : (heap run : List (K × V)) → length heap ≡ 0 → length run ≡ 0 → sorted cmp key_of (heap ++ run) ≡ []
  sorted-nothing [] run none more = sorted-none cmp run more
  sorted-nothing (pair ∷ heap) run none more = absurd (omega (arith, none))

  pub Leads-nothing : (pairs others : List (K × V)) → length pairs ≡ 0 → Leads cmp pairs others → length others ≡ 0
  Leads-nothing [] others none leads = ap length leads
  Leads-nothing (pair ∷ pairs) others none leads = absurd (omega (arith, none))

  -- the first pair of all, as it stands in the run or in the heap
  pub sorted-run_top : (pair : K × V) (heap run : List (K × V)) → 0 < length run → pair ≡ get_or run 0 pair → AreApart cmp (heap ++ run) → Leads cmp run heap → Climbs cmp key_of run
      → slice_get (sorted cmp key_of (heap ++ run)) 0 ≡ Some pair
  sorted-run_top pair heap [] some top apart leads rises = absurd (omega arith)
  sorted-run_top pair heap (x ∷ rest) some top apart leads rises = ap (λ pairs. slice_get pairs 0) (sorted-from_run x heap rest apart leads rises) ∙ ap Some (sym top)

  pub sorted-heap_top : (pair : K × V) (heap run : List (K × V)) → 0 < length heap → pair ≡ get_or heap 0 pair → AreApart cmp (heap ++ run) → IsUpperBound (by_falling_key cmp) pair heap
      → Leads cmp heap run → slice_get (sorted cmp key_of (heap ++ run)) 0 ≡ Some pair
  sorted-heap_top pair [] run some top apart most leads = absurd (omega arith)
  sorted-heap_top pair (x ∷ rest) run some top apart most leads =
      ap (λ pairs. slice_get pairs 0) (sorted-from_heap x (x ∷ rest) rest run (IsPermutation-refl (x ∷ rest)) apart (subst (λ one. IsUpperBound (by_falling_key cmp) one rest) top most.1) leads)
      ∙ ap Some (sym top)

  -- a key is in the queue where it is in the heap, and else where it is in the run
  pub has_key-in_heap : (key : K) (heap run : List (K × V)) → list_any (λ pair. is_eq (cmp pair.0 key)) heap ≡ true → true ≡ has_key cmp key (sorted cmp key_of (heap ++ run))
  has_key-in_heap key heap run there =
      sym (has_key-sorted cmp key (heap ++ run) ∙ list_any-append (λ pair. is_eq (cmp pair.0 key)) heap run ∙ ap (λ b. b || list_any (λ pair. is_eq (cmp pair.0 key)) run) there)

  pub has_key-in_run : (key : K) (heap run : List (K × V)) → list_any (λ pair. is_eq (cmp pair.0 key)) heap ≡ false
      → list_any (λ pair. is_eq (cmp pair.0 key)) run ≡ has_key cmp key (sorted cmp key_of (heap ++ run))
  has_key-in_run key heap run absent =
      sym (has_key-sorted cmp key (heap ++ run) ∙ list_any-append (λ pair. is_eq (cmp pair.0 key)) heap run ∙ ap (λ b. b || list_any (λ pair. is_eq (cmp pair.0 key)) run) absent)
