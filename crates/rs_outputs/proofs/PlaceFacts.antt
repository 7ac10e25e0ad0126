-- One more list in an ordered map of lists to their places: it has the next place, and the others keep theirs.
use Rattle.std.proofs.Common.{◌≡◌, ℕ, zero, suc, ◌+◌, ◌<◌, ◌≤◌, ◌||◌, ◌&&◌, Bool, true, false, cond, eqb, List, [], ◌∷◌, ◌++◌, length, map, is_some, refl, sym, ◌∙◌, ap, ap₂, subst, arith}
use Rattle.std.proofs.lemmas.Bool.Decides.{Decides-eqb}
use Rattle.std.proofs.lemmas.Map.Made.{is_some-lookup}
use Rattle.std.specs.BTreeMap.{BTreeMap, insert_entry}
use Rattle.std.specs.Cmp.Lexicographic.{slice_cmp, texts_ties}
use Rattle.std.specs.List.{AllByRecursion, list_any}
use Rattle.std.specs.Map.{keys_of, lookup}
use Rattle.std.specs.Ordering.{is_eq, match_ordering, ordering_then}
use Rattle.std.specs.declared.alloc.Global.{Global}
use Rattle.std.specs.declared.cmp.Ordering.{Ordering}
use Rattle.std.specs.declared.cmp.Ordering.TheVariants.{Less, Equal, Greater}
use Rattle.std.specs.declared.vec.Vec.{Vec}
use Rattle.rs_order.proofs.EachFacts.{each-weaker}
use Rattle.rs_value.specs.contracts.value.ValueOrd.TheImpl as order
use Rattle.rs_value.specs.declared.value.Value.{Value}
use Rattle.rs_value.specs.declared.value.Value.TheVariants.{Int, Text}
use Rattle.rs_outputs.specs.Places.{ArePlaces, by_place, entries_of, list_at, lists_at}
use Rattle.rs_outputs.specs.Seen.{has_list, same_value, same_values}
use Rattle.rs_outputs.proofs.FirstFacts.{has_list-more}

abbrev Entry : Type 0
Entry = List Value × ℕ

abbrev pub Key : Type 0
Key = Vec Value Global

abbrev pairs : List (Key × ℕ) → List Entry
pairs entries = map (λ e. (e.0.items, e.1)) entries

abbrev inserted : Key → ℕ → List (Key × ℕ) → List (Key × ℕ)
inserted key place entries = insert_entry (λ x y. slice_cmp order.ghosts.cmp x.items y.items) entries key place

-- equal by the order is equal by the test
order-same_value : (u v : Value) → is_eq (order.ghosts.cmp u v) ≡ same_value u v
order-same_value (Int n) (Int m) = refl
order-same_value (Text t) (Text u) = sym (texts_ties t u)
order-same_value (Int n) (Text u) = refl
order-same_value (Text t) (Int m) = refl

then-ties : (a b : Ordering) → is_eq (ordering_then a b) ≡ (is_eq a && is_eq b)
then-ties Less b = refl
then-ties Equal b = refl
then-ties Greater b = refl

order-same_values : (us vs : List Value) → is_eq (slice_cmp order.ghosts.cmp us vs) ≡ same_values us vs
order-same_values [] [] = refl
order-same_values [] (v ∷ vs) = refl
order-same_values (u ∷ us) [] = refl
order-same_values (u ∷ us) (v ∷ vs) =
    then-ties (order.ghosts.cmp u v) (slice_cmp order.ghosts.cmp us vs)
    ∙ ap₂ (λ a b. a && b) (order-same_value u v) (order-same_values us vs)

-- whether a list is one of those of a map
abbrev has_entry : List Value → List Entry → Bool
has_entry values entries = list_any (λ entry. same_values values entry.0) entries

has_entry-keys : (values : List Value) (entries : List (Key × ℕ)) → list_any (λ key. is_eq (slice_cmp order.ghosts.cmp values key.items)) (keys_of entries) ≡ has_entry values (pairs entries)
has_entry-keys values [] = refl
has_entry-keys values (entry ∷ entries) = ap₂ (λ a b. a || b) (order-same_values values entry.0.items) (has_entry-keys values entries)

-- the map finds exactly the lists that are seen
pub has_list-places : (values : List Value) (places : BTreeMap Key ℕ) → ArePlaces (entries_of places) → is_some (lookup (λ key. is_eq (slice_cmp order.ghosts.cmp values key.items)) places.entries) ≡ has_list values (by_place (entries_of places))
has_list-places values places are =
    is_some-lookup (λ key. is_eq (slice_cmp order.ghosts.cmp values key.items)) places.entries
    ∙ has_entry-keys values places.entries ∙ sym (are.finds values)

-- entries with one more among them
pub record Among (entry : Entry) (old new : List Entry) : Type 0 where
  pub front : List Entry
  pub back : List Entry
  pub before : old ≡ front ++ back
  pub after : new ≡ front ++ entry ∷ back

-- a list that the map hasn't is put among the others
among-insert : (key : Key) (place : ℕ) (entries : List (Key × ℕ)) → has_entry key.items (pairs entries) ≡ false → Among (key.items, place) (pairs entries) (pairs (inserted key place entries))
among-insert key place [] new = record { front = []; back = []; before = refl; after = refl }
among-insert key place (entry ∷ entries) new =
    let parts = both_false (same_values key.items entry.0.items) (has_entry key.items (pairs entries)) new in
    step (slice_cmp order.ghosts.cmp key.items entry.0.items) refl parts.0 (among-insert key place entries parts.1)
  where
    both_false : (a b : Bool) → (a || b) ≡ false → (a ≡ false) × (b ≡ false)
    both_false true b e = cc
    both_false false b e = (refl, e)

    true_false : {b : Bool} → b ≡ true → b ≡ false → ⊥
    true_false e f = cc

    step : (o : Ordering) → slice_cmp order.ghosts.cmp key.items entry.0.items ≡ o → same_values key.items entry.0.items ≡ false → Among (key.items, place) (pairs entries) (pairs (inserted key place entries))
        → Among (key.items, place) (pairs (entry ∷ entries)) (pairs (match_ordering o ((key, place) ∷ entry ∷ entries) ((entry.0, place) ∷ entries) (entry ∷ inserted key place entries)))
    step Less e other later = record { front = []; back = pairs (entry ∷ entries); before = refl; after = refl }
    step Equal e other later = absurd (true_false (sym (order-same_values key.items entry.0.items) ∙ ap is_eq e) other)
    step Greater e other later = record {
      front = (entry.0.items, entry.1) ∷ later.front;
      back = later.back;
      before = ap (λ es. (entry.0.items, entry.1) ∷ es) later.before;
      after = ap (λ es. (entry.0.items, entry.1) ∷ es) later.after;
    }

-- one more among some items
length-among : (front back : List Entry) (entry : Entry) → length (front ++ entry ∷ back) ≡ suc (length (front ++ back))
length-among [] back entry = refl
length-among (e ∷ front) back entry = ap suc (length-among front back entry)

has_entry-among : (values : List Value) (front back : List Entry) (entry : Entry) → has_entry values (front ++ entry ∷ back) ≡ (has_entry values (front ++ back) || same_values values entry.0)
has_entry-among values [] back entry = turned (same_values values entry.0) (has_entry values back)
  where
    turned : (a b : Bool) → (a || b) ≡ (b || a)
    turned true true = refl
    turned true false = refl
    turned false true = refl
    turned false false = refl
has_entry-among values (e ∷ front) back entry =
    ap (λ b. same_values values e.0 || b) (has_entry-among values front back entry)
    ∙ regroup (same_values values e.0) (has_entry values (front ++ back)) (same_values values entry.0)
  where
    regroup : (a b c : Bool) → (a || (b || c)) ≡ ((a || b) || c)
    regroup true b c = refl
    regroup false b c = refl

each-among : (P : Entry → Type 0) (front back : List Entry) (entry : Entry) → AllByRecursion P (front ++ back) → P entry → AllByRecursion P (front ++ entry ∷ back)
each-among P [] back entry all p = (p, all)
each-among P (e ∷ front) back entry all p = (all.0, each-among P front back entry all.1 p)

-- the lists at other places stay
list_at-among : (at : ℕ) (front back : List Entry) (entry : Entry) → eqb entry.1 at ≡ false → list_at at (front ++ entry ∷ back) ≡ list_at at (front ++ back)
list_at-among at [] back entry other = ap (λ b. cond b entry.0 (list_at at back)) other
list_at-among at (e ∷ front) back entry other = ap (cond (eqb e.1 at) e.0) (list_at-among at front back entry other)

eqb-less : (a b : ℕ) → a < b → eqb a b ≡ false
eqb-less a b less =
    (elim (eqb a b) as (λ t. eqb a b ≡ t → t ≡ false) [ true ↦ λ e. let same = (Decides-eqb a b).0 e in absurd (omega arith) | false ↦ λ e. refl ]) refl

eqb-more : (a b : ℕ) → b < a → eqb a b ≡ false
eqb-more a b less =
    (elim (eqb a b) as (λ t. eqb a b ≡ t → t ≡ false) [ true ↦ λ e. let same = (Decides-eqb a b).0 e in absurd (omega arith) | false ↦ λ e. refl ]) refl

-- the list at the new place
list_at-here : (front back : List Entry) (entry : Entry) → AllByRecursion (λ e. e.1 < entry.1) (front ++ back) → list_at entry.1 (front ++ entry ∷ back) ≡ entry.0
list_at-here [] back entry below = ap (λ b. cond b entry.0 (list_at entry.1 back)) ((Decides-eqb entry.1 entry.1).1 refl)
list_at-here (e ∷ front) back entry below =
    ap (λ b. cond b e.0 (list_at entry.1 (front ++ entry ∷ back))) (eqb-less e.1 entry.1 below.0) ∙ list_at-here front back entry below.1

lists_at-among : (n at : ℕ) (front back : List Entry) (entry : Entry) → at + n ≤ entry.1 → lists_at n at (front ++ entry ∷ back) ≡ lists_at n at (front ++ back)
lists_at-among zero at front back entry within = refl
lists_at-among (suc n) at front back entry within =
    ap₂ (λ list lists. list ∷ lists) (list_at-among at front back entry (eqb-more entry.1 at (omega arith))) (lists_at-among n (suc at) front back entry (omega arith))

lists_at-push : (n at : ℕ) (entries : List Entry) → lists_at (suc n) at entries ≡ lists_at n at entries ++ list_at (at + n) entries ∷ []
lists_at-push zero at entries = let here : at ≡ at + 0 = omega arith in ap (λ k. list_at k entries ∷ []) here
lists_at-push (suc n) at entries =
    let there : suc at + n ≡ at + suc n = omega arith in
    ap (λ lists. list_at at entries ∷ lists) (lists_at-push n (suc at) entries ∙ ap (λ k. lists_at n (suc at) entries ++ list_at k entries ∷ []) there)

-- with one more at the next place the lists have it behind them
by_place-among : (values : List Value) (front back : List Entry) → ArePlaces (front ++ back) → by_place (front ++ (values, length (front ++ back)) ∷ back) ≡ by_place (front ++ back) ++ values ∷ []
by_place-among values front back are =
    let n = length (front ++ back) in
    let last : 0 + n ≡ n = omega arith in
    ap (λ m. lists_at m 0 (front ++ (values, n) ∷ back)) (length-among front back (values, n))
    ∙ lists_at-push n 0 (front ++ (values, n) ∷ back)
    ∙ ap (λ k. lists_at n 0 (front ++ (values, n) ∷ back) ++ list_at k (front ++ (values, n) ∷ back) ∷ []) last
    ∙ ap₂ (λ lists list. lists ++ list ∷ []) (lists_at-among n 0 front back (values, n) (omega arith))
    (list_at-here front back (values, n) are.within)

more-among : (values : List Value) (front back : List Entry) → ArePlaces (front ++ back) → ArePlaces (front ++ (values, length (front ++ back)) ∷ back)
more-among values front back are =
    let n = length (front ++ back) in
    record {
      within = subst (λ m. AllByRecursion (λ entry. entry.1 < m) (front ++ (values, n) ∷ back)) (sym (length-among front back (values, n)))
          (each-among (λ entry. entry.1 < suc n) front back (values, n) (each-weaker (λ entry. entry.1 < n) (λ entry. entry.1 < suc n) (λ entry below. omega arith) (front ++ back) are.within) (omega arith));
      finds = λ wanted.
          ap (has_list wanted) (by_place-among values front back are)
          ∙ has_list-more wanted values (by_place (front ++ back))
          ∙ ap (λ b. b || same_values wanted values) (are.finds wanted)
          ∙ sym (has_entry-among wanted front back (values, n));
    }

module _ (old new : BTreeMap Key ℕ) (key : Key) (place : ℕ) (are : ArePlaces (entries_of old)) (next : place ≡ length (entries_of old)) (unseen : has_list key.items (by_place (entries_of old)) ≡ false) (put : new.entries ≡ inserted key place old.entries) where
  among : Among (key.items, length (entries_of old)) (entries_of old) (entries_of new)
  among =
      subst (λ n. Among (key.items, n) (entries_of old) (entries_of new)) next
      (subst (λ es. Among (key.items, place) (entries_of old) (pairs es)) (sym put)
      (among-insert key place old.entries (sym (are.finds key.items) ∙ unseen)))

  abbrev Holds : List Entry → List Entry → Type 0
  Holds before after = ArePlaces before → (by_place after ≡ by_place before ++ key.items ∷ []) × ArePlaces after

  both : (by_place (entries_of new) ≡ by_place (entries_of old) ++ key.items ∷ []) × ArePlaces (entries_of new)
  both =
      subst (λ before. Holds before (entries_of new)) (sym among.before)
      (subst (Holds (among.front ++ among.back)) (sym (among.after ∙ ap (λ before. among.front ++ (key.items, length before) ∷ among.back) among.before))
      (λ these. (by_place-among key.items among.front among.back these, more-among key.items among.front among.back these))) are

  pub by_place-inserted : by_place (entries_of new) ≡ by_place (entries_of old) ++ key.items ∷ []
  by_place-inserted = both.0

  pub places-inserted : ArePlaces (entries_of new)
  places-inserted = both.1
