-- Where INTERSECT and EXCEPT stand, and what each call does to that.
use Rattle.std.proofs.Common.{◌≡◌, ℕ, zero, suc, ◌+◌, ◌-◌, ◌<◌, ◌≤◌, ◌||◌, Bool, true, false, not, cond, max, nat_le, List, [], ◌∷◌, ◌++◌, length, take, drop, Option, Some, None, refl, sym, ◌∙◌, ap, ap₂, subst, inl, inr, arith}
use Rattle.std.proofs.lemmas.Bool.{true≢false}
use Rattle.std.proofs.lemmas.Bool.Decides.{nat_tests}
use Rattle.std.proofs.lemmas.List.{append_assoc, length-map, take-append-drop, take_all}
use Rattle.std.proofs.lemmas.Option.{get_or_from_slice_get, slice_get_within}
use Rattle.std.specs.List.{AllByRecursion, filter, slice_get}
use Rattle.std.specs.Option.{option_map}
use Rattle.rs_order.specs.Asks.{asks_for, bar_after, comes_before_bar}
use Rattle.rs_order.specs.Climbing.{Climbs, In, Precedes}
use Rattle.rs_order.specs.Last.{last_of}
use Rattle.rs_order.specs.Sorting.{sorted}
use Rattle.rs_order.specs.Schedule.{Left, Right, SideAsk, asks_from, asked}
use Rattle.rs_order.proofs.ClimbingFacts.{AllByRecursion-In, AllByRecursion-from_In}
use Rattle.rs_order.proofs.EachFacts.{each-push, each-weaker}
use Rattle.rs_order.proofs.ItemFacts.{In-filter-back, In-left, In-right}
use Rattle.rs_order.proofs.PartFacts.{In-drop, last_of-take, take-snoc}
use Rattle.rs_order.proofs.ScheduleFacts.{asked-left, asked-right}
use Rattle.rs_rank.specs.declared.ask.JoinAsk.{JoinAsk}
use Rattle.rs_rank.specs.declared.ask.JoinAsk.TheVariants.{NeedLeft, NeedRight, Ready, End}
use Rattle.rs_rank.specs.declared.key.Key.{Key}
use Rattle.rs_rank.specs.Keys.{key_cmp}
use Rattle.rs_rank.specs.Weights.{rest as rest_of}
use Rattle.rs_rank.proofs.OrderFacts.{key_cmp-total}
use Rattle.rs_rank.specs.SetTurns.{one_by_one, wanted_for}
use Rattle.rs_value.specs.declared.value.Value.{Value}
use Rattle.rs_outputs.specs.Seen.{has_list, same_values, with_list}
use Rattle.rs_outputs.proofs.SameFacts.{same_values-same}
use Rattle.rs_setop.specs.declared.held.Head.{Head}
use Rattle.rs_setop.specs.declared.held.Head.TheVariants.{Unknown}
use Rattle.rs_setop.specs.Compared.{Comparison, ask_for, ask_of, is_other, new_compared, passed}
use Rattle.rs_setop.specs.Reached.{Reach, fed}
use Rattle.rs_outputs.specs.Rows.{OutputRow, firsts, occurs_in, values_of, lists_of, unseen}
use Rattle.rs_setop.specs.Sets.{set_rows}
use Rattle.rs_setop.specs.Sides.{AreSides, Sides, answers, head_after, head_of, keys_of, row_key, schedule_of}
use Rattle.rs_setop.specs.Stands.{ComparedAt, ComparedStands, asks_behind, is_kept, due, op_of, right_after}
use Rattle.rs_setop.proofs.BoundFacts.{at_least-most}
use Rattle.rs_outputs.proofs.ValueFacts.{has_list-of, has_list-with, lists_of-more, none-of_values, or-assoc}
use Rattle.rs_setop.proofs.CompareFacts.{past-is, rest-below}
use Rattle.rs_outputs.proofs.FirstFacts.{Climbs-firsts, In-firsts, In-unseen, unseen-new, unseen-none, unseen-seen}
use Rattle.rs_outputs.proofs.ListFacts.{Climbs-filter, Climbs-rest, bar-rest, before-rest, below, distinct-climbs, not_before, not_before-itself, not_below, rest-some, sorted-of}
use Rattle.rs_setop.proofs.WalkFacts.{due-none, due-some, head-known, head-unknown, known-or_not}

abbrev op_rows : Bool → List OutputRow → List OutputRow → List OutputRow
op_rows shared lefts rights = firsts (filter (is_kept shared rights) lefts)

set_rows-is : (shared : Bool) (lefts rights : List OutputRow) → set_rows (op_of shared) lefts rights ≡ op_rows shared lefts rights
set_rows-is true lefts rights = refl
set_rows-is false lefts rights = refl

-- the answers are the first ones of the left rows that count
pub all-counted : (s : Sides) (shared : Bool) (lefts rights : List OutputRow) → AreSides s lefts rights → answers s (op_of shared) lefts rights ≡ op_rows shared lefts rights
all-counted s shared lefts rights input =
    subst (λ rows. sorted key_cmp (row_key s) rows ≡ op_rows shared lefts rights) (sym (set_rows-is shared lefts rights))
    (sorted-of key_cmp key_cmp-total (row_key s) (op_rows shared lefts rights) (op_rows shared lefts rights) (distinct-climbs key_cmp (row_key s) (op_rows shared lefts rights) climbs) climbs (λ z h. h) (λ z h. h))
  where
    climbs : Climbs key_cmp (row_key s) (op_rows shared lefts rights)
    climbs = Climbs-firsts key_cmp (row_key s) (filter (is_kept shared rights) lefts) (Climbs-filter key_cmp (row_key s) (is_kept shared rights) lefts input.left_rising)

pub schedule-is : (s : Sides) (shared : Bool) (lefts rights : List OutputRow) (count : ℕ) → schedule_of s (op_of shared) lefts rights (suc count)
    ≡ one_by_one (keys_of s rights) (keys_of s lefts) 1 0 (asks_for key_cmp (λ key. key) (keys_of s lefts) (bar_after (row_key s) (answers s (op_of shared) lefts rights) count))
schedule-is s true lefts rights count = refl
schedule-is s false lefts rights count = refl

-- whether a row counts depends on its values alone
is_kept-values : (shared : Bool) (rights : List OutputRow) (row other : OutputRow) → row.values ≡ other.values → is_kept shared rights row ≡ is_kept shared rights other
is_kept-values true rights row other same = ap (λ v. has_list v (values_of rights)) same
is_kept-values false rights row other same = ap (λ v. not (has_list v (values_of rights))) same

-- it doesn't where the right side tells so
pub is_kept-other : (shared : Bool) (rights : List OutputRow) (row : OutputRow) (known : Bool) → known ≡ occurs_in rights row → is_other known shared ≡ not (is_kept shared rights row)
is_kept-other true rights row known e = other known ∙ ap not e
  where
    other : (b : Bool) → is_other b true ≡ not b
    other true = refl
    other false = refl
is_kept-other false rights row known e = other known ∙ ap (λ b. not (not b)) e
  where
    other : (b : Bool) → is_other b false ≡ not (not b)
    other true = refl
    other false = refl

-- two tests that agree on all rows
filter-agree : {X : Type 0} (p q : X → Bool) (xs : List X) → ((x : X) → In x xs → p x ≡ q x) → filter p xs ≡ filter q xs
filter-agree p q [] agree = refl
filter-agree p q (x ∷ xs) agree =
    ap₂ (λ b ys. cond b (x ∷ ys) ys) (agree x (inl refl)) (filter-agree p q xs (λ y h. agree y (inr h)))

-- what is left where the next left row is gone
module _ (shared : Bool) (rights : List OutputRow) (lists : List (List Value)) (x : OutputRow) (xs : List OutputRow) where
  abbrev kept : List OutputRow
  kept = filter (is_kept shared rights) xs

  abbrev all_kept : List OutputRow
  all_kept = filter (is_kept shared rights) (x ∷ xs)

  -- as a row whose values were seen
  pub seen-gone : has_list x.values lists ≡ true → unseen lists (firsts all_kept) ≡ unseen (with_list x.values lists) (firsts kept)
  seen-gone seen =
      (elim (is_kept shared rights x) as (λ b. unseen lists (firsts (cond b (x ∷ kept) kept)) ≡ unseen lists (firsts kept)) [
        | true ↦ unseen-seen lists x kept seen
        | false ↦ refl
      ])
      ∙ ap (λ b. unseen (cond b lists (lists ++ x.values ∷ [])) (firsts kept)) (sym seen)

  -- as one that doesn't count
  pub other-gone : is_kept shared rights x ≡ false → has_list x.values lists ≡ false → unseen lists (firsts all_kept) ≡ unseen (with_list x.values lists) (firsts kept)
  other-gone other new =
      ap (λ b. unseen lists (firsts (cond b (x ∷ kept) kept))) other
      ∙ filter-agree (λ row. not (has_list row.values lists)) (λ row. not (has_list row.values (with_list x.values lists))) (firsts kept) agree
    where
      agree : (row : OutputRow) → In row (firsts kept) → not (has_list row.values lists) ≡ not (has_list row.values (with_list x.values lists))
      agree row h =
          let both = In-filter-back (is_kept shared rights) row xs (In-firsts kept row h) in
          ap not
          (sym (has_list-with row.values x.values lists
          ∙ ap (λ b. has_list row.values lists || b) (differs (same_values row.values x.values) refl both.1)
          ∙ or_false (has_list row.values lists)))
        where
          or_false : (b : Bool) → (b || false) ≡ b
          or_false true = refl
          or_false false = refl

          differs : (b : Bool) → same_values row.values x.values ≡ b → is_kept shared rights row ≡ true → same_values row.values x.values ≡ false
          differs true e counted = absurd (true≢false (sym counted ∙ is_kept-values shared rights row x (same_values-same row.values x.values e) ∙ other))
          differs false e counted = e

  -- as an answer
  pub answer-gone : is_kept shared rights x ≡ true → has_list x.values lists ≡ false → unseen lists (firsts all_kept) ≡ x ∷ unseen (with_list x.values lists) (firsts kept)
  answer-gone counted new = ap (λ b. unseen lists (firsts (cond b (x ∷ kept) kept))) counted ∙ unseen-new lists x kept new

  pub In-kept : (z : OutputRow) (more : List (List Value)) → In z (unseen more (firsts kept)) → In z xs
  In-kept z more h = (In-filter-back (is_kept shared rights) z xs (In-firsts kept z (In-unseen more (firsts kept) z h))).0

-- the asks that a left row wants, one by one
pub asks_behind-more : (rights : List Key) (x : Key) (xs : List Key) (next asks n : ℕ) → asks < wanted_for rights x → asks_behind rights (x ∷ xs) next asks n ≡ record { side = Right; number = suc asks } ∷ asks_behind rights (x ∷ xs) next (suc asks) n
asks_behind-more rights x xs next asks n less =
    let one_more : wanted_for rights x - asks ≡ suc (wanted_for rights x - suc asks) = omega arith in
    let most : max asks (wanted_for rights x) ≡ max (suc asks) (wanted_for rights x) = omega arith in
    ap₂ (λ c m. asks_from Right (suc asks) c ++ one_by_one rights xs next m n) one_more most

pub asks_behind-done : (rights : List Key) (x : Key) (xs : List Key) (next asks n : ℕ) → wanted_for rights x ≤ asks → asks_behind rights (x ∷ xs) next asks n ≡ one_by_one rights xs next asks n
asks_behind-done rights x xs next asks n le =
    let none : wanted_for rights x - asks ≡ 0 = omega arith in
    let most : max asks (wanted_for rights x) ≡ asks = omega arith in
    ap₂ (λ c m. asks_from Right (suc asks) c ++ one_by_one rights xs next m n) none most

pub one_by_one-next : (rights lefts : List Key) (next asks n : ℕ) → one_by_one rights lefts next asks (suc n) ≡ record { side = Left; number = next } ∷ asks_behind rights lefts (suc next) asks n
one_by_one-next rights [] next asks n = refl
one_by_one-next rights (left ∷ lefts) next asks n = refl

-- how often the left side is asked, where some of its rows come before the bar
pub asks-behind : (s : Sides) (rows : List OutputRow) (bar : Option Key) (n : ℕ) → n ≤ length rows → AllByRecursion (λ row. comes_before_bar key_cmp bar (row_key s row) ≡ true) (take n rows)
    → asks_for key_cmp (λ key. key) (keys_of s rows) bar ≡ n + asks_for key_cmp (λ key. key) (keys_of s (drop n rows)) bar
asks-behind s rows bar zero within before = omega arith
asks-behind s [] bar (suc n) within before = absurd (omega arith)
asks-behind s (row ∷ rows) bar (suc n) within before =
    let one : asks_for key_cmp (λ key. key) (keys_of s (row ∷ rows)) bar ≡ suc (asks_for key_cmp (λ key. key) (keys_of s rows) bar) =
    ap (λ b. suc (length (cond b (row_key s row ∷ filter (λ (k : Key). comes_before_bar key_cmp bar k) (keys_of s rows)) (filter (λ (k : Key). comes_before_bar key_cmp bar k) (keys_of s rows))))) before.0 in
    let rest = asks-behind s rows bar n (omega arith) before.1 in
    omega arith

-- one ask for a row that is itself the bar
pub asks-one : (s : Sides) (x : OutputRow) (xs : List OutputRow) → Climbs key_cmp (row_key s) (x ∷ xs) → asks_for key_cmp (λ key. key) (keys_of s (x ∷ xs)) (Some (row_key s x)) ≡ 1
asks-one s x xs climbs =
    ap (λ ks. suc (length ks))
    (ap (λ b. cond b (row_key s x ∷ filter (λ (k : Key). comes_before_bar key_cmp (Some (row_key s x)) k) (keys_of s xs)) (filter (λ (k : Key). comes_before_bar key_cmp (Some (row_key s x)) k) (keys_of s xs))) (not_before-itself key_cmp key_cmp-total (row_key s x))
    ∙ late xs climbs.0)
  where
    late : (ys : List OutputRow) → AllByRecursion (Precedes key_cmp (row_key s) x) ys → filter (λ (k : Key). comes_before_bar key_cmp (Some (row_key s x)) k) (keys_of s ys) ≡ []
    late [] all = refl
    late (y ∷ ys) all =
        ap (λ b. cond b (row_key s y ∷ filter (λ (k : Key). comes_before_bar key_cmp (Some (row_key s x)) k) (keys_of s ys)) (filter (λ (k : Key). comes_before_bar key_cmp (Some (row_key s x)) k) (keys_of s ys)))
        (not_before key_cmp key_cmp-total (row_key s x) (row_key s y) all.0)
        ∙ late ys all.1

has_list-both : (values : List Value) (xs ys : List OutputRow) → has_list values (values_of (xs ++ ys)) ≡ (has_list values (values_of xs) || has_list values (values_of ys))
has_list-both values [] ys = refl
has_list-both values (x ∷ xs) ys =
    ap (λ b. same_values values x.values || b) (has_list-both values xs ys)
    ∙ sym (or-assoc (same_values values x.values) (has_list values (values_of xs)) (has_list values (values_of ys)))

-- a row whose bound the right side is past: what came tells whether the right side has its values
pub known-values : (s : Sides) (lefts rights : List OutputRow) → AreSides s lefts rights → (x : OutputRow) → In x lefts → (asks : ℕ) → wanted_for (keys_of s rights) (row_key s x) ≤ asks
    → has_list x.values (lists_of (take asks rights)) ≡ occurs_in rights x
known-values s lefts rights input x h asks le =
    has_list-of x.values (take asks rights)
    ∙ sym (ap (λ rows. has_list x.values (values_of rows)) (sym (take-append-drop asks rights))
    ∙ has_list-both x.values (take asks rights) (drop asks rights)
    ∙ ap (λ b. has_list x.values (values_of (take asks rights)) || b) (none-of_values x.values (drop asks rights) apart)
    ∙ or_false (has_list x.values (values_of (take asks rights))))
  where
    or_false : (b : Bool) → (b || false) ≡ b
    or_false true = refl
    or_false false = refl

    apart : (row : OutputRow) → In row (drop asks rights) → row.values ≡ x.values → ⊥
    apart row k same =
        let sums : row.row.sum ≡ x.row.sum = input.alike row x (In-right row lefts rights (In-drop asks rights row k)) (In-left x lefts rights h) same in
        let less = rest-below s rights input.right_rising (row_key s x).bound asks le row k in
        let bounds : (row_key s row).bound ≡ (row_key s x).bound = ap (λ sum. sum + rest_of s.weights s.terms) sums in
        absurd (omega arith)

-- nothing is asked yet
pub new-stands : (s : Sides) (shared : Bool) (lefts rights : List OutputRow) → AreSides s lefts rights → ComparedStands s shared lefts rights [] 0 (new_compared s.weights s.terms shared)
new-stands s shared lefts rights input = record {
  left = 0;
  place = record {
    input = input;
    inside = omega arith;
    left_least = omega arith;
    left_most = omega arith;
    right_most = omega arith;
    state = ap (λ b. record {
      weights = s.weights;
      terms = s.terms;
      shared = shared;
      left = Unknown;
      passed = [];
      right = record { last = None; ended = b; values = [] };
      spent = false;
    }) (sym (not_below (length rights) 0 (omega arith)));
    before = tt;
    far = tt;
    rest = all-counted s shared lefts rights input ∙ sym (unseen-none (firsts (filter (is_kept shared rights) lefts)));
    within = omega arith;
    asks = λ n. let one : 0 + suc n ≡ suc n = omega arith in ap (one_by_one (keys_of s rights) (keys_of s lefts) 1 0) one ∙ one_by_one-next (keys_of s rights) (keys_of s lefts) 1 0 n;
  };
  new = λ row known e. absurd (none_known known);
  wanted = refl;
}
  where
    none_known : 0 ≡ suc 0 → ⊥
    none_known e = cc

pub at_most : (a b : ℕ) → nat_le a b ≡ true → a ≤ b
at_most a b e = grind (arith, nat_tests)

pub more : (a b : ℕ) → nat_le a b ≡ false → b < a
more a b e = grind (arith, nat_tests)

-- a left row that is held, and whether the right side is past its bound
pub record IsHeldAt (s : Sides) (lefts rights : List OutputRow) (left asks : ℕ) (past : Bool) : Type 0 where
  pub row : OutputRow
  pub is : slice_get lefts left ≡ Some row
  pub test : nat_le (wanted_for (keys_of s rights) (row_key s row)) asks ≡ past

-- what an ask tells
abbrev pub Shown : Sides → List OutputRow → List OutputRow → ℕ → ℕ → ℕ → JoinAsk → Type 0
Shown s lefts rights left left_asks right_asks NeedLeft = left_asks ≡ left
Shown s lefts rights left left_asks right_asks NeedRight = (left_asks ≡ suc left) × IsHeldAt s lefts rights left right_asks false
Shown s lefts rights left left_asks right_asks Ready = (left_asks ≡ suc left) × IsHeldAt s lefts rights left right_asks true
Shown s lefts rights left left_asks right_asks End = (left_asks ≡ suc left) × (slice_get lefts left ≡ None)

known-shown : (s : Sides) (lefts rights : List OutputRow) → AreSides s lefts rights → (left left_asks right_asks : ℕ) → right_asks ≤ suc (length rights) → (o : Option OutputRow) → slice_get lefts left ≡ o → left_asks ≡ suc left
    → Shown s lefts rights left left_asks right_asks (ask_for (head_of s o) (right_after s rights right_asks))
known-shown s lefts rights input left left_asks right_asks most None e known = (known, e)
known-shown s lefts rights input left left_asks right_asks most (Some x) e known =
    subst (λ b. Shown s lefts rights left left_asks right_asks (cond b Ready NeedRight)) (sym (past-is s rights input.right_rising (row_key s x).bound right_asks most))
    ((elim (nat_le (wanted_for (keys_of s rights) (row_key s x)) right_asks) as (λ b. nat_le (wanted_for (keys_of s rights) (row_key s x)) right_asks ≡ b → Shown s lefts rights left left_asks right_asks (cond b Ready NeedRight)) [
      | true ↦ λ f. (known, record { row = x; is = e; test = f })
      | false ↦ λ f. (known, record { row = x; is = e; test = f })
    ]) refl)

-- how far the right side was drawn
abbrev reach_of : Option ℕ → Bool → List (List Value) → Reach
reach_of last ended lists = record { last = last; ended = ended; values = lists }

-- the state of a comparison
abbrev pub compared_of : Sides → Bool → Head → List (List Value) → Reach → Comparison
compared_of s shared left passed right = record { weights = s.weights; terms = s.terms; shared = shared; left = left; passed = passed; right = right; spent = false }

module _ (s : Sides) (shared : Bool) (lefts rights : List OutputRow) (made : List SideAsk) (count left : ℕ) (c : Comparison) (st : ComparedAt s shared lefts rights made count left c) where
  abbrev rows : List OutputRow
  rows = answers s (op_of shared) lefts rights

  abbrev bar : Option Key
  bar = bar_after (row_key s) rows count

  -- what it asks tells
  pub shows : (ask : JoinAsk) → ask_of c ≡ ask → Shown s lefts rights left (asked Left made) (asked Right made) ask
  shows ask e =
      subst (Shown s lefts rights left (asked Left made) (asked Right made)) (sym (ap ask_of st.state) ∙ e)
      (elim (known-or_not left (asked Left made) st.left_least st.left_most) [
        | inl due ↦ subst (λ h. Shown s lefts rights left (asked Left made) (asked Right made) (ask_for h (right_after s rights (asked Right made)))) (sym (head-unknown s lefts left (asked Left made) due)) due
        | inr known ↦
            subst (λ h. Shown s lefts rights left (asked Left made) (asked Right made) (ask_for h (right_after s rights (asked Right made)))) (sym (head-known s lefts left (asked Left made) known))
            (known-shown s lefts rights st.input left (asked Left made) (asked Right made) st.right_most (slice_get lefts left) refl known)
      ])

  -- the next left row is known, or that there is none
  pub left-known : asked Left made ≡ left → ComparedAt s shared lefts rights (made ++ record { side = Left; number = suc (asked Left made) } ∷ []) count left (record c { left = head_of s (slice_get lefts (asked Left made)) })
  left-known due =
      let counts = asked-left made (suc (asked Left made)) in
      let more : asked Left (made ++ record { side = Left; number = suc (asked Left made) } ∷ []) ≡ suc (asked Left made) = counts.0 in
      let same : asked Right (made ++ record { side = Left; number = suc (asked Left made) } ∷ []) ≡ asked Right made = counts.1 in
      let right_most = st.right_most in
      record {
        input = st.input;
        inside = st.inside;
        left_least = omega arith;
        left_most = omega arith;
        right_most = omega arith;
        state =
            ap (λ (d : Comparison). record d { left = head_of s (slice_get lefts (asked Left made)) }) st.state
            ∙ ap₂ (λ h r. compared_of s shared h (lists_of (take left lefts)) r)
            (ap (λ n. head_of s (slice_get lefts n)) due ∙ sym (head-known s lefts left (asked Left (made ++ record { side = Left; number = suc (asked Left made) } ∷ [])) (more ∙ ap suc due)))
            (ap (right_after s rights) (sym same));
        before = st.before;
        far = subst (λ n. AllByRecursion (λ row. wanted_for (keys_of s rights) (row_key s row) ≤ n) (take left lefts)) (sym same) st.far;
        rest = st.rest;
        within = st.within;
        asks = λ n.
            st.asks n
            ∙ ap (λ front. made ++ (front ++ asks_behind (keys_of s rights) (keys_of s (drop left lefts)) (suc (suc left)) (asked Right made) n)) (due-some Left left (asked Left made) due ∙ ap (λ m. record { side = Left; number = suc m } ∷ []) (sym due))
            ∙ sym (append_assoc made (record { side = Left; number = suc (asked Left made) } ∷ []) (asks_behind (keys_of s rights) (keys_of s (drop left lefts)) (suc (suc left)) (asked Right made) n))
            ∙ ap₂ (λ front j. (made ++ record { side = Left; number = suc (asked Left made) } ∷ []) ++ (front ++ asks_behind (keys_of s rights) (keys_of s (drop left lefts)) (suc (suc left)) j n))
            (sym (due-none Left left (asked Left (made ++ record { side = Left; number = suc (asked Left made) } ∷ [])) (more ∙ ap suc due))) (sym same);
      }

  -- one ask more of the right side, where a row is held that wants it
  right-made : (right : Reach) → right ≡ right_after s rights (suc (asked Right made)) → asked Right made ≤ length rights → asked Left made ≡ suc left → (x : OutputRow) → slice_get lefts left ≡ Some x → asked Right made < wanted_for (keys_of s rights) (row_key s x)
      → ComparedAt s shared lefts rights (made ++ record { side = Right; number = suc (asked Right made) } ∷ []) count left (record c { right = right })
  right-made right is within known x e less =
      let counts = asked-right made (suc (asked Right made)) in
      let same : asked Left (made ++ record { side = Right; number = suc (asked Right made) } ∷ []) ≡ asked Left made = counts.0 in
      let more : asked Right (made ++ record { side = Right; number = suc (asked Right made) } ∷ []) ≡ suc (asked Right made) = counts.1 in
      record {
        input = st.input;
        inside = st.inside;
        left_least = omega arith;
        left_most = omega arith;
        right_most = omega arith;
        state =
            ap (λ (d : Comparison). record d { right = right }) st.state
            ∙ ap₂ (λ h r. compared_of s shared h (lists_of (take left lefts)) r) (ap (head_after s lefts left) (sym same)) (is ∙ ap (right_after s rights) (sym more));
        before = st.before;
        far =
            each-weaker (λ row. wanted_for (keys_of s rights) (row_key s row) ≤ asked Right made) (λ row. wanted_for (keys_of s rights) (row_key s row) ≤ asked Right (made ++ record { side = Right; number = suc (asked Right made) } ∷ []))
            (λ row le. omega arith) (take left lefts) st.far;
        rest = st.rest;
        within = st.within;
        asks = λ n.
            st.asks n
            ∙ ap (λ front. made ++ (front ++ asks_behind (keys_of s rights) (keys_of s (drop left lefts)) (suc (suc left)) (asked Right made) n)) (due-none Left left (asked Left made) known)
            ∙ ap (λ asks. made ++ asks)
            (ap (λ rows. asks_behind (keys_of s rights) (keys_of s rows) (suc (suc left)) (asked Right made) n) (rest-some left lefts x e)
            ∙ asks_behind-more (keys_of s rights) (row_key s x) (keys_of s (drop (suc left) lefts)) (suc (suc left)) (asked Right made) n less
            ∙ ap (λ rows. record { side = Right; number = suc (asked Right made) } ∷ asks_behind (keys_of s rights) (keys_of s rows) (suc (suc left)) (suc (asked Right made)) n) (sym (rest-some left lefts x e)))
            ∙ sym (append_assoc made (record { side = Right; number = suc (asked Right made) } ∷ []) (asks_behind (keys_of s rights) (keys_of s (drop left lefts)) (suc (suc left)) (suc (asked Right made)) n))
            ∙ ap₂ (λ front j. (made ++ record { side = Right; number = suc (asked Right made) } ∷ []) ++ (front ++ asks_behind (keys_of s rights) (keys_of s (drop left lefts)) (suc (suc left)) j n))
            (sym (due-none Left left (asked Left (made ++ record { side = Right; number = suc (asked Right made) } ∷ [])) (same ∙ known))) (sym more);
      }

  -- the next right row
  pub right-row : asked Left made ≡ suc left → (x : OutputRow) → slice_get lefts left ≡ Some x → asked Right made < wanted_for (keys_of s rights) (row_key s x) → (y : OutputRow) → slice_get rights (asked Right made) ≡ Some y
      → ComparedAt s shared lefts rights (made ++ record { side = Right; number = suc (asked Right made) } ∷ []) count left (record c { right = fed (row_key s y).bound y.values c.right })
  right-row known x e less y f =
      let inside = slice_get_within rights (asked Right made) y f in
      right-made (fed (row_key s y).bound y.values c.right)
      (ap (λ (d : Comparison). fed (row_key s y).bound y.values d.right) st.state
      ∙ reach (Some (row_key s y).bound) (option_map (λ row. (row_key s row).bound) (last_of (take (suc (asked Right made)) rights))) _ _ (with_list y.values (lists_of (take (asked Right made) rights))) (lists_of (take (suc (asked Right made)) rights))
      (ap (option_map (λ (row : OutputRow). (row_key s row).bound)) (ap Some (sym (get_or_from_slice_get rights (asked Right made) y y f)) ∙ sym (last_of-take (asked Right made) rights y inside)))
      (not_below (length rights) (asked Right made) (omega arith) ∙ sym (not_below (length rights) (suc (asked Right made)) (omega arith)))
      (sym (lists_of-more (take (asked Right made) rights) y) ∙ ap lists_of (sym (take-snoc (asked Right made) rights y f))))
      (omega arith) known x e less
    where
      reach : (last last' : Option ℕ) (ended ended' : Bool) (lists lists' : List (List Value)) → last ≡ last' → ended ≡ ended' → lists ≡ lists' → reach_of last ended lists ≡ reach_of last' ended' lists'
      reach last last' ended ended' lists lists' p q r = ap₂ (λ l b. reach_of l b lists) p q ∙ ap (reach_of last' ended') r

  -- the end of the right side
  pub right-over : asked Left made ≡ suc left → (x : OutputRow) → slice_get lefts left ≡ Some x → asked Right made < wanted_for (keys_of s rights) (row_key s x) → slice_get rights (asked Right made) ≡ None
      → ComparedAt s shared lefts rights (made ++ record { side = Right; number = suc (asked Right made) } ∷ []) count left (record c { right = record c.right { ended = true } })
  right-over known x e less f =
      let past : length rights ≤ asked Right made = none-past rights (asked Right made) f in
      let most = at_least-most (row_key s x).bound (keys_of s rights) in
      let sized = length-map rights (row_key s) in
      right-made (record c.right { ended = true })
      (ap (λ (d : Comparison). record d.right { ended = true }) st.state
      ∙ ap₂ (λ rows b. reach_of (option_map (λ row. (row_key s row).bound) (last_of rows)) b (lists_of rows)) (take_all (asked Right made) rights past ∙ sym (take_all (suc (asked Right made)) rights (omega arith))) (sym (below (length rights) (suc (asked Right made)) (omega arith))))
      (omega arith) known x e less
    where
      none-past : {X : Type 0} (xs : List X) (n : ℕ) → slice_get xs n ≡ None → length xs ≤ n
      none-past [] n g = omega arith
      none-past (z ∷ xs) zero g = cc
      none-past (z ∷ xs) (suc n) g = let le = none-past xs n g in omega arith

  pub climbing : Climbs key_cmp (row_key s) rows
  climbing =
      subst (Climbs key_cmp (row_key s)) (sym (all-counted s shared lefts rights st.input))
      (Climbs-firsts key_cmp (row_key s) (filter (is_kept shared rights) lefts) (Climbs-filter key_cmp (row_key s) (is_kept shared rights) lefts st.input.left_rising))

  -- the held row is gone: n answers are given, and these are left
  pub gone : asked Left made ≡ suc left → (x : OutputRow) → slice_get lefts left ≡ Some x → wanted_for (keys_of s rights) (row_key s x) ≤ asked Right made
      → (n : ℕ) → drop n rows ≡ unseen (with_list x.values (lists_of (take left lefts))) (firsts (filter (is_kept shared rights) (drop (suc left) lefts))) → n ≤ length rows
      → ((k : Key) → comes_before_bar key_cmp bar k ≡ true → comes_before_bar key_cmp (bar_after (row_key s) rows n) k ≡ true)
      → (d : Comparison) → d ≡ compared_of s shared Unknown (with_list x.values (lists_of (take left lefts))) (right_after s rights (asked Right made)) → ComparedAt s shared lefts rights made n (suc left) d
  gone known x e le n rest_is within keep d is =
      let inside = slice_get_within lefts left x e in
      let climbs = subst (Climbs key_cmp (row_key s)) (rest-some left lefts x e) (Climbs-rest key_cmp (row_key s) left lefts st.input.left_rising) in
      let seen : with_list x.values (lists_of (take left lefts)) ≡ lists_of (take (suc left) lefts) = sym (ap lists_of (take-snoc left lefts x e) ∙ lists_of-more (take left lefts) x) in
      let more = unseen (with_list x.values (lists_of (take left lefts))) (firsts (filter (is_kept shared rights) (drop (suc left) lefts))) in
      record {
        input = st.input;
        inside = omega arith;
        left_least = omega arith;
        left_most = omega arith;
        right_most = st.right_most;
        state = is ∙ ap₂ (λ h lists. compared_of s shared h lists (right_after s rights (asked Right made))) (sym (head-unknown s lefts (suc left) (asked Left made) known)) seen;
        before =
            subst (AllByRecursion (λ row. comes_before_bar key_cmp (bar_after (row_key s) rows n) (row_key s row) ≡ true)) (sym (take-snoc left lefts x e))
            (each-push (λ row. comes_before_bar key_cmp (bar_after (row_key s) rows n) (row_key s row) ≡ true) (take left lefts) x
            (each-weaker (λ row. comes_before_bar key_cmp bar (row_key s row) ≡ true) (λ row. comes_before_bar key_cmp (bar_after (row_key s) rows n) (row_key s row) ≡ true) (λ row h. keep (row_key s row) h) (take left lefts) st.before)
            (ap (λ b. comes_before_bar key_cmp b (row_key s x)) (bar-rest (row_key s) n rows ∙ ap (λ ys. bar_after (row_key s) ys 0) rest_is)
            ∙ before-rest key_cmp (row_key s) x more
            (AllByRecursion-from_In (Precedes key_cmp (row_key s) x) more
            (λ w h. AllByRecursion-In (Precedes key_cmp (row_key s) x) (drop (suc left) lefts) climbs.0 w (In-kept shared rights (lists_of (take left lefts)) x (drop (suc left) lefts) w (with_list x.values (lists_of (take left lefts))) h)))));
        far =
            subst (AllByRecursion (λ row. wanted_for (keys_of s rights) (row_key s row) ≤ asked Right made)) (sym (take-snoc left lefts x e))
            (each-push (λ row. wanted_for (keys_of s rights) (row_key s row) ≤ asked Right made) (take left lefts) x st.far le);
        rest = rest_is ∙ ap (λ lists. unseen lists (firsts (filter (is_kept shared rights) (drop (suc left) lefts)))) seen;
        within = within;
        asks = λ m.
            let number : suc left + suc m ≡ left + suc (suc m) = omega arith in
            ap (one_by_one (keys_of s rights) (keys_of s lefts) 1 0) number
            ∙ st.asks (suc m)
            ∙ ap (λ front. made ++ (front ++ asks_behind (keys_of s rights) (keys_of s (drop left lefts)) (suc (suc left)) (asked Right made) (suc m))) (due-none Left left (asked Left made) known)
            ∙ ap (λ asks. made ++ asks)
            (ap (λ rows. asks_behind (keys_of s rights) (keys_of s rows) (suc (suc left)) (asked Right made) (suc m)) (rest-some left lefts x e)
            ∙ asks_behind-done (keys_of s rights) (row_key s x) (keys_of s (drop (suc left) lefts)) (suc (suc left)) (asked Right made) (suc m) le
            ∙ one_by_one-next (keys_of s rights) (keys_of s (drop (suc left) lefts)) (suc (suc left)) (asked Right made) m)
            ∙ ap (λ front. made ++ (front ++ asks_behind (keys_of s rights) (keys_of s (drop (suc left) lefts)) (suc (suc (suc left))) (asked Right made) m)) (sym (due-some Left (suc left) (asked Left made) known));
      }
