-- A map of join values to places, with one place more: it has the places of the rows, with one row more.
use Rattle.std.proofs.Common.{◌≡◌, ℕ, suc, ◌+◌, ◌<◌, ◌≤◌, ◌||◌, Bool, true, false, cond, eqb, List, [], ◌∷◌, ◌++◌, length, Option, Some, None, refl, sym, ◌∙◌, ap, ap₂, subst, arith}
use Rattle.std.proofs.lemmas.Bool.Decides.{Decides-eqb}
use Rattle.std.proofs.lemmas.List.{append-nil, length-append}
use Rattle.std.proofs.lemmas.List.Folds.{list_any-append}
use Rattle.std.proofs.lemmas.Map.{lookup-set_value}
use Rattle.std.specs.BTreeMap.{insert_entry}
use Rattle.std.specs.Cmp.Lexicographic.{slice_cmp}
use Rattle.std.specs.List.{AllByRecursion, list_any}
use Rattle.std.specs.Map.{lookup, set_value}
use Rattle.std.specs.Option.{IsSome}
use Rattle.std.specs.Ordering.{is_eq, match_ordering}
use Rattle.std.specs.declared.cmp.Ordering.{Ordering}
use Rattle.std.specs.declared.cmp.Ordering.TheVariants.{Less, Equal, Greater}
use Rattle.rs_order.proofs.EachFacts.{each-push, each-weaker}
use Rattle.rs_rank.specs.declared.row.RankRow.{RankRow}
use Rattle.rs_value.specs.declared.value.Value.{Value}
use Rattle.rs_value.specs.Value.{value_cmp}
use Rattle.rs_hrjn.specs.Drawn.{DrawnRow, are_equal, places_alike, rows_of}
use Rattle.rs_hrjn.specs.Index.{IsIndex, drawn_rows, places_of, places_or_none, values_at, with_more, with_place}
use Rattle.rs_hrjn.proofs.EqualFacts.{are_equal-back, are_equal-equivalence, are_equal-itself, are_equal-same}

abbrev Index : Type 0
Index = List (List Value × List ℕ)

abbrev has : ℕ → List ℕ → Bool
has place places = list_any (λ other. eqb other place) places

-- what is looked up is at the first entry of these values, or at a later one
looked-up : (b : Bool) (places : List ℕ) (rest : Option (List ℕ)) → cond b (Some places) rest ≡ None → (b ≡ false) × (rest ≡ None)
looked-up true places rest e = cc
looked-up false places rest e = (refl, e)

-- an index with one more entry among the others
record Among (entry : List Value × List ℕ) (old new : Index) : Type 0 where
  front : Index
  back : Index
  before : old ≡ front ++ back
  after : new ≡ front ++ entry ∷ back

true_false : {b : Bool} → b ≡ true → b ≡ false → ⊥
true_false e f = cc

-- new values are put among the others
among-insert : (values : List Value) (places : List ℕ) (index : Index) → lookup (are_equal values) index ≡ None → Among (values, places) index (insert_entry (slice_cmp value_cmp) index values places)
among-insert values places [] none = record { front = []; back = []; before = refl; after = refl }
among-insert values places (entry ∷ index) none =
    let both = looked-up (are_equal values entry.0) entry.1 (lookup (are_equal values) index) none in
    step (slice_cmp value_cmp values entry.0) refl both.0 (among-insert values places index both.1)
  where
    step : (o : Ordering) → slice_cmp value_cmp values entry.0 ≡ o → are_equal values entry.0 ≡ false → Among (values, places) index (insert_entry (slice_cmp value_cmp) index values places)
        → Among (values, places) (entry ∷ index) (match_ordering o ((values, places) ∷ entry ∷ index) ((entry.0, places) ∷ index) (entry ∷ insert_entry (slice_cmp value_cmp) index values places))
    step Less e other later = record { front = []; back = entry ∷ index; before = refl; after = refl }
    step Equal e other later = absurd (true_false (ap is_eq e) other)
    step Greater e other later = record {
      front = entry ∷ later.front;
      back = later.back;
      before = ap (λ es. entry ∷ es) later.before;
      after = ap (λ es. entry ∷ es) later.after;
    }

-- a new entry is found by its values, and others as before
lookup-among : (values q : List Value) (places : List ℕ) (front back : Index) → lookup (are_equal values) (front ++ back) ≡ None → lookup (are_equal q) (front ++ (values, places) ∷ back) ≡ cond (are_equal q values) (Some places) (lookup (are_equal q) (front ++ back))
lookup-among values q places [] back none = refl
lookup-among values q places (entry ∷ front) back none =
    let both = looked-up (are_equal values entry.0) entry.1 (lookup (are_equal values) (front ++ back)) none in
    ap (cond (are_equal q entry.0) (Some entry.1)) (lookup-among values q places front back both.1)
    ∙ one_of (are_equal q entry.0) (are_equal q values) (Some entry.1) (Some places) (lookup (are_equal q) (front ++ back))
    (λ one two. true_false (ap (are_equal values) (sym (are_equal-same q entry.0 one) ∙ are_equal-same q values two) ∙ are_equal-itself values) both.0)
  where
    -- one of two things that exclude each other
    one_of : {X : Type 0} (a b : Bool) (x y z : X) → (a ≡ true → b ≡ true → ⊥) → cond a x (cond b y z) ≡ cond b y (cond a x z)
    one_of true true x y z apart = absurd (apart refl refl)
    one_of true false x y z apart = refl
    one_of false true x y z apart = refl
    one_of false false x y z apart = refl

lookup-inserted : (values q : List Value) (places : List ℕ) (index : Index) → lookup (are_equal values) index ≡ None → lookup (are_equal q) (insert_entry (slice_cmp value_cmp) index values places) ≡ cond (are_equal q values) (Some places) (lookup (are_equal q) index)
lookup-inserted values q places index none =
    let among = among-insert values places index none in
    ap (lookup (are_equal q)) among.after
    ∙ lookup-among values q places among.front among.back (ap (lookup (are_equal values)) (sym among.before) ∙ none)
    ∙ ap (λ es. cond (are_equal q values) (Some places) (lookup (are_equal q) es)) (sym among.before)

-- the places of each list of join values, with one place more
more-places : (o : Option (List ℕ)) (values q : List Value) (place : ℕ) (index : Index) → lookup (are_equal values) index ≡ o → places_of q (with_more o values place index) ≡ places_of q index ++ cond (are_equal q values) (place ∷ []) []
more-places None values q place index e =
    ap places_or_none (lookup-inserted values q (place ∷ []) index e)
    ∙ (elim (are_equal q values) as (λ b. are_equal q values ≡ b → places_or_none (cond b (Some (place ∷ [])) (lookup (are_equal q) index)) ≡ places_of q index ++ cond b (place ∷ []) []) [
      | true ↦ λ f. sym (ap (λ o. places_or_none o ++ place ∷ []) (ap (λ v. lookup (are_equal v) index) (are_equal-same q values f) ∙ e))
      | false ↦ λ f. sym (append-nil (places_of q index))
    ]) refl
more-places (Some places) values q place index e =
    ap places_or_none
    (lookup-set_value are_equal-equivalence (are_equal values) (λ x y f. ap (λ v. are_equal v y) (are_equal-same values x f)) q (places ++ place ∷ []) index (subst IsSome (sym e) refl)
    ∙ ap (λ b. cond b (Some (places ++ place ∷ [])) (lookup (are_equal q) index)) (are_equal-back values q))
    ∙ (elim (are_equal q values) as (λ b. are_equal q values ≡ b → places_or_none (cond b (Some (places ++ place ∷ [])) (lookup (are_equal q) index)) ≡ places_of q index ++ cond b (place ∷ []) []) [
      | true ↦ λ f. sym (ap (λ o. places_or_none o ++ place ∷ []) (ap (λ v. lookup (are_equal v) index) (are_equal-same q values f) ∙ e))
      | false ↦ λ f. sym (append-nil (places_of q index))
    ]) refl

places_of-with_place : (values q : List Value) (place : ℕ) (index : Index) → places_of q (with_place values place index) ≡ places_of q index ++ cond (are_equal q values) (place ∷ []) []
places_of-with_place values q place index = more-places (lookup (are_equal values) index) values q place index refl

-- a place that is none of a list of lesser ones
eqb-less : (a b : ℕ) → a < b → eqb a b ≡ false
eqb-less a b less =
    (elim (eqb a b) as (λ t. eqb a b ≡ t → t ≡ false) [ true ↦ λ e. let same = (Decides-eqb a b).0 e in absurd (omega arith) | false ↦ λ e. refl ]) refl

eqb-itself : (a : ℕ) → eqb a a ≡ true
eqb-itself a = (Decides-eqb a a).1 refl

has-below : (places : List ℕ) (n : ℕ) → AllByRecursion (λ place. place < n) places → has n places ≡ false
has-below [] n below = refl
has-below (place ∷ places) n below = ap₂ (λ a b. a || b) (eqb-less place n below.0) (has-below places n below.1)

-- a place more
has-push : (places : List ℕ) (place other : ℕ) → has other (places ++ place ∷ []) ≡ has other places || (eqb place other || false)
has-push places place other = list_any-append (λ n. eqb n other) places (place ∷ [])

or_false : (b : Bool) → b || false ≡ b
or_false true = refl
or_false false = refl

or_true : (b : Bool) → b || true ≡ true
or_true true = refl
or_true false = refl

-- the join values of another place stay
values_at-among : (values : List Value) (place other : ℕ) (front back : Index) → eqb place other ≡ false → values_at other (front ++ (values, place ∷ []) ∷ back) ≡ values_at other (front ++ back)
values_at-among values place other [] back apart = ap (λ b. cond (b || false) values (values_at other back)) apart
values_at-among values place other (entry ∷ front) back apart = ap (cond (has other entry.1) entry.0) (values_at-among values place other front back apart)

values_at-inserted : (values : List Value) (place other : ℕ) (index : Index) → lookup (are_equal values) index ≡ None → eqb place other ≡ false → values_at other (insert_entry (slice_cmp value_cmp) index values (place ∷ [])) ≡ values_at other index
values_at-inserted values place other index none apart =
    let among = among-insert values (place ∷ []) index none in
    ap (values_at other) among.after ∙ values_at-among values place other among.front among.back apart ∙ ap (values_at other) (sym among.before)

values_at-set : (values : List Value) (places : List ℕ) (place other : ℕ) (index : Index) → eqb place other ≡ false → lookup (are_equal values) index ≡ Some places → values_at other (set_value (are_equal values) index (places ++ place ∷ [])) ≡ values_at other index
values_at-set values places place other [] apart some = cc
values_at-set values places place other (entry ∷ index) apart some =
    (elim (are_equal values entry.0) as (λ b. cond b (Some entry.1) (lookup (are_equal values) index) ≡ Some places →
    values_at other (cond b ((entry.0, places ++ place ∷ []) ∷ index) (entry ∷ set_value (are_equal values) index (places ++ place ∷ []))) ≡ values_at other (entry ∷ index)) [
      | true ↦ λ e.
          let same : entry.1 ≡ places = cc in
          ap (λ b. cond b entry.0 (values_at other index))
          (has-push places place other ∙ ap (λ b. has other places || (b || false)) apart ∙ or_false (has other places) ∙ ap (has other) (sym same))
      | false ↦ λ e. ap (cond (has other entry.1) entry.0) (values_at-set values places place other index apart e)
    ]) some

values_at-more : (o : Option (List ℕ)) (values : List Value) (place other : ℕ) (index : Index) → lookup (are_equal values) index ≡ o → eqb place other ≡ false → values_at other (with_more o values place index) ≡ values_at other index
values_at-more None values place other index e apart = values_at-inserted values place other index e apart
values_at-more (Some places) values place other index e apart = values_at-set values places place other index apart e

-- the join values of the new place
abbrev IsNew : ℕ → Index → Type 0
IsNew place index = AllByRecursion (λ entry. has place entry.1 ≡ false) index

values_at-among_here : (values : List Value) (place : ℕ) (front back : Index) → IsNew place (front ++ back) → values_at place (front ++ (values, place ∷ []) ∷ back) ≡ values
values_at-among_here values place [] back new = ap (λ b. cond (b || false) values (values_at place back)) (eqb-itself place)
values_at-among_here values place (entry ∷ front) back new =
    ap (λ b. cond b entry.0 (values_at place (front ++ (values, place ∷ []) ∷ back))) new.0 ∙ values_at-among_here values place front back new.1

values_at-inserted_here : (values : List Value) (place : ℕ) (index : Index) → lookup (are_equal values) index ≡ None → IsNew place index → values_at place (insert_entry (slice_cmp value_cmp) index values (place ∷ [])) ≡ values
values_at-inserted_here values place index none new =
    let among = among-insert values (place ∷ []) index none in
    ap (values_at place) among.after ∙ values_at-among_here values place among.front among.back (subst (IsNew place) among.before new)

values_at-set_here : (values : List Value) (places : List ℕ) (place : ℕ) (index : Index) → IsNew place index → lookup (are_equal values) index ≡ Some places → values_at place (set_value (are_equal values) index (places ++ place ∷ [])) ≡ values
values_at-set_here values places place [] new some = absurd (none_some some)
  where
    none_some : None ≡ Some places → ⊥
    none_some f = cc
values_at-set_here values places place (entry ∷ index) new some =
    (elim (are_equal values entry.0) as (λ b. are_equal values entry.0 ≡ b → cond b (Some entry.1) (lookup (are_equal values) index) ≡ Some places →
    values_at place (cond b ((entry.0, places ++ place ∷ []) ∷ index) (entry ∷ set_value (are_equal values) index (places ++ place ∷ []))) ≡ values) [
      | true ↦ λ e f.
          ap (λ b. cond b entry.0 (values_at place index)) (has-push places place place ∙ ap (λ b. has place places || (b || false)) (eqb-itself place) ∙ or_true (has place places))
          ∙ sym (are_equal-same values entry.0 e)
      | false ↦ λ e f. ap (λ b. cond b entry.0 (values_at place (set_value (are_equal values) index (places ++ place ∷ [])))) new.0 ∙ values_at-set_here values places place index new.1 f
    ]) refl some

values_at-more_here : (o : Option (List ℕ)) (values : List Value) (place : ℕ) (index : Index) → lookup (are_equal values) index ≡ o → IsNew place index → values_at place (with_more o values place index) ≡ values
values_at-more_here None values place index e new = values_at-inserted_here values place index e new
values_at-more_here (Some places) values place index e new = values_at-set_here values places place index new e

-- what holds of the places of each entry, and of the new ones
each-set_value : (P : List ℕ → Type 0) (values : List Value) (places : List ℕ) (index : Index) → AllByRecursion (λ entry. P entry.1) index → P places → AllByRecursion (λ entry. P entry.1) (set_value (are_equal values) index places)
each-set_value P values places [] all new = tt
each-set_value P values places (entry ∷ index) all new = step (are_equal values entry.0) (set_value (are_equal values) index places) (each-set_value P values places index all.1 new)
  where
    step : (b : Bool) (later : Index) → AllByRecursion (λ entry. P entry.1) later → AllByRecursion (λ entry. P entry.1) (cond b ((entry.0, places) ∷ index) (entry ∷ later))
    step true later below = (new, all.1)
    step false later below = (all.0, below)

each-among : (P : List ℕ → Type 0) (front back : Index) (entry : List Value × List ℕ) → AllByRecursion (λ e. P e.1) (front ++ back) → P entry.1 → AllByRecursion (λ e. P e.1) (front ++ entry ∷ back)
each-among P [] back entry all new = (new, all)
each-among P (e ∷ front) back entry all new = (all.0, each-among P front back entry all.1 new)

each-inserted : (P : List ℕ → Type 0) (values : List Value) (places : List ℕ) (index : Index) → lookup (are_equal values) index ≡ None → AllByRecursion (λ e. P e.1) index → P places → AllByRecursion (λ e. P e.1) (insert_entry (slice_cmp value_cmp) index values places)
each-inserted P values places index none all new =
    let among = among-insert values places index none in
    subst (AllByRecursion (λ e. P e.1)) (sym among.after) (each-among P among.front among.back (values, places) (subst (AllByRecursion (λ e. P e.1)) among.before all) new)

each-lookup : (P : List ℕ → Type 0) (values : List Value) (places : List ℕ) (index : Index) → AllByRecursion (λ entry. P entry.1) index → lookup (are_equal values) index ≡ Some places → P places
each-lookup P values places [] all some = absurd (none_some some)
  where
    none_some : None ≡ Some places → ⊥
    none_some f = cc
each-lookup P values places (entry ∷ index) all some =
    (elim (are_equal values entry.0) as (λ b. cond b (Some entry.1) (lookup (are_equal values) index) ≡ Some places → P places) [
      | true ↦ λ e. let same : entry.1 ≡ places = cc in subst P same all.0
      | false ↦ λ e. each-lookup P values places index all.1 e
    ]) some

each-more : (o : Option (List ℕ)) (P : List ℕ → Type 0) (values : List Value) (place : ℕ) (index : Index) → lookup (are_equal values) index ≡ o → AllByRecursion (λ entry. P entry.1) index → ((places : List ℕ) → P places → P (places ++ place ∷ [])) → P [] → AllByRecursion (λ entry. P entry.1) (with_more o values place index)
each-more None P values place index e all more none = each-inserted P values (place ∷ []) index e all (more [] none)
each-more (Some places) P values place index e all more none = each-set_value P values (places ++ place ∷ []) index all (more places (each-lookup P values places index all e))

-- rows whose places stay have the join values that they had
drawn_rows-kept : (values : List Value) (place : ℕ) (index : Index) (n : ℕ) (rows : List RankRow) → n + length rows ≤ place → drawn_rows (with_place values place index) n rows ≡ drawn_rows index n rows
drawn_rows-kept values place index n [] within = refl
drawn_rows-kept values place index n (row ∷ rows) within =
    ap₂ (λ vs rest. record { row = row; values = vs } ∷ rest)
    (values_at-more (lookup (are_equal values) index) values place n index refl (eqb-more place n (omega arith)))
    (drawn_rows-kept values place index (suc n) rows (omega arith))
  where
    eqb-more : (a b : ℕ) → b < a → eqb a b ≡ false
    eqb-more a b less =
        (elim (eqb a b) as (λ t. eqb a b ≡ t → t ≡ false) [ true ↦ λ e. let same = (Decides-eqb a b).0 e in absurd (omega arith) | false ↦ λ e. refl ]) refl

drawn_rows-push : (index : Index) (n : ℕ) (rows : List RankRow) (row : RankRow) → drawn_rows index n (rows ++ row ∷ []) ≡ drawn_rows index n rows ++ record { row = row; values = values_at (n + length rows) index } ∷ []
drawn_rows-push index n [] row = let here : n ≡ n + 0 = omega arith in ap (λ k. record { row = row; values = values_at k index } ∷ []) here
drawn_rows-push index n (first ∷ rows) row =
    let there : suc n + length rows ≡ n + suc (length rows) = omega arith in
    ap (λ rest. record { row = first; values = values_at n index } ∷ rest)
    (drawn_rows-push index (suc n) rows row ∙ ap (λ k. drawn_rows index (suc n) rows ++ record { row = row; values = values_at k index } ∷ []) there)

-- with the new row's place the map has its join values
pub drawn_rows-more : (index : Index) (rows : List RankRow) (row : RankRow) (values : List Value) → IsIndex index rows → drawn_rows (with_place values (length rows) index) 0 (rows ++ row ∷ []) ≡ drawn_rows index 0 rows ++ record { row = row; values = values } ∷ []
drawn_rows-more index rows row values is =
    let zero_more : 0 + length rows ≡ length rows = omega arith in
    drawn_rows-push (with_place values (length rows) index) 0 rows row
    ∙ ap (λ n. drawn_rows (with_place values (length rows) index) 0 rows ++ record { row = row; values = values_at n (with_place values (length rows) index) } ∷ []) zero_more
    ∙ ap₂ (λ front vs. front ++ record { row = row; values = vs } ∷ [])
    (drawn_rows-kept values (length rows) index 0 rows (omega arith))
    (values_at-more_here (lookup (are_equal values) index) values (length rows) index refl
    (each-weaker (λ entry. AllByRecursion (λ place. place < length rows) entry.1) (λ entry. has (length rows) entry.1 ≡ false) (λ entry below. has-below entry.1 (length rows) below) index is.within))

-- how many rows
pub length-drawn_rows : (index : Index) (n : ℕ) (rows : List RankRow) → length (drawn_rows index n rows) ≡ length rows
length-drawn_rows index n [] = refl
length-drawn_rows index n (row ∷ rows) = ap suc (length-drawn_rows index (suc n) rows)

-- the places of the rows with some join values, with one row more
places_alike-push : (values : List Value) (n : ℕ) (rows : List DrawnRow) (drawn : DrawnRow) → places_alike values n (rows ++ drawn ∷ []) ≡ places_alike values n rows ++ cond (are_equal values drawn.values) ((n + length rows) ∷ []) []
places_alike-push values n [] drawn = let here : n ≡ n + 0 = omega arith in ap (λ k. cond (are_equal values drawn.values) (k ∷ []) []) here
places_alike-push values n (first ∷ rows) drawn =
    let there : suc n + length rows ≡ n + suc (length rows) = omega arith in
    step (are_equal values first.values) (places_alike values (suc n) (rows ++ drawn ∷ [])) (places_alike values (suc n) rows) (cond (are_equal values drawn.values) ((n + suc (length rows)) ∷ []) [])
    (places_alike-push values (suc n) rows drawn ∙ ap (λ k. places_alike values (suc n) rows ++ cond (are_equal values drawn.values) (k ∷ []) []) there)
  where
    step : (b : Bool) (xs ys zs : List ℕ) → xs ≡ ys ++ zs → cond b (n ∷ xs) xs ≡ cond b (n ∷ ys) ys ++ zs
    step true xs ys zs e = ap (λ all. n ∷ all) e
    step false xs ys zs e = e

-- so it is the map of the rows with the new one
pub IsIndex-more : (index : Index) (rows : List RankRow) (row : RankRow) (values : List Value) → IsIndex index rows → IsIndex (with_place values (length rows) index) (rows ++ row ∷ [])
IsIndex-more index rows row values is =
    let count : length (rows ++ row ∷ []) ≡ suc (length rows) = omega (arith, length-append rows (row ∷ [])) in
    let places : 0 + length (drawn_rows index 0 rows) ≡ length rows = omega (arith, length-drawn_rows index 0 rows) in
    record {
      within = subst (λ n. AllByRecursion (λ entry. AllByRecursion (λ place. place < n) entry.1) (with_place values (length rows) index)) (sym count)
          (each-more (lookup (are_equal values) index) (AllByRecursion (λ place. place < suc (length rows))) values (length rows) index refl
          (each-weaker (λ entry. AllByRecursion (λ place. place < length rows) entry.1) (λ entry. AllByRecursion (λ place. place < suc (length rows)) entry.1)
          (λ entry below. each-weaker (λ place. place < length rows) (λ place. place < suc (length rows)) (λ place less. omega arith) entry.1 below) index is.within)
          (λ places below. each-push (λ place. place < suc (length rows)) places (length rows) below (omega arith)) tt);
      finds = λ q.
          places_of-with_place values q (length rows) index
          ∙ ap (λ places. places ++ cond (are_equal q values) (length rows ∷ []) []) (is.finds q)
          ∙ sym (ap (places_alike q 0) (drawn_rows-more index rows row values is)
          ∙ places_alike-push q 0 (drawn_rows index 0 rows) (record { row = row; values = values })
          ∙ ap (λ n. places_alike q 0 (drawn_rows index 0 rows) ++ cond (are_equal q values) (n ∷ []) []) places);
    }

-- the rows alone are those that were kept
pub rows_of-drawn_rows : (index : Index) (n : ℕ) (rows : List RankRow) → rows_of (drawn_rows index n rows) ≡ rows
rows_of-drawn_rows index n [] = refl
rows_of-drawn_rows index n (row ∷ rows) = ap (λ rest. row ∷ rest) (rows_of-drawn_rows index (suc n) rows)

-- each place is that of a row
pub places_alike-within : (values : List Value) (n most : ℕ) (rows : List DrawnRow) → n + length rows ≤ most → AllByRecursion (λ place. place < most) (places_alike values n rows)
places_alike-within values n most [] within = tt
places_alike-within values n most (drawn ∷ rows) within = step (are_equal values drawn.values) (places_alike values (suc n) rows) (omega arith) (places_alike-within values (suc n) most rows (omega arith))
  where
    step : (b : Bool) (places : List ℕ) → n < most → AllByRecursion (λ place. place < most) places → AllByRecursion (λ place. place < most) (cond b (n ∷ places) places)
    step true places less rest = (less, rest)
    step false places less rest = rest
