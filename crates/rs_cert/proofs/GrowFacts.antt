-- A certificate grows entry by entry exactly to those that have the entries.
use Rattle.std.proofs.Common.{◌≡◌, ℕ, ◌+◌, ◌≤◌, ◌<◌, ◌==◌, ◌&&◌, not, nat_lt, Bool, true, false, cond, List, [], ◌∷◌, ◌++◌, length, map, Option, Some, None, option_map, option_and_then, refl, sym, ap, ◌∙◌, subst, arith, append_assoc, length-append}
use Rattle.std.proofs.lemmas.Bool.{eqb-true, lt-ltb, ltb-true}
use Rattle.std.proofs.lemmas.List.{append-nil, map-append}
use Rattle.rs_feed.specs.declared.feed_row.FeedRow.{FeedRow}
use Rattle.rs_cert.specs.declared.cert.Cert.{Cert}
use Rattle.rs_cert.specs.declared.cert.CertSide.{CertSide}
use Rattle.rs_cert.specs.declared.entry.Entry.{Entry}
use Rattle.rs_cert.specs.declared.entry.Entry.TheVariants.{OfLeft, OfRight, OfPair}
use Rattle.rs_cert.specs.declared.entry.SideEntry.{SideEntry}
use Rattle.rs_cert.specs.declared.entry.SideEntry.TheVariants.{Row, End}
use Rattle.rs_cert.specs.Growing.{has_no_pairs, is_untouched, new_cert, new_side, next_cert, next_side}
use Rattle.rs_cert.specs.Records.{HasFewRows, entries_of, most_rows, side_entries}

-- what is none is not some
pub none-some : {A B : Type 0} (x : A) → None ≡ Some x → B
none-some x e = absurd (differ x e)
  where
    differ : {A : Type 0} (x : A) → None ≡ Some x → ⊥
    differ x e = cc

pub some-same : {A : Type 0} {x y : A} → Some x ≡ Some y → x ≡ y
some-same e = cc

-- an option that is some behind a function, a test or a step
map-some : {A B : Type 0} (f : A → B) (o : Option A) (y : B) → option_map f o ≡ Some y → (x : A) × (o ≡ Some x) × (f x ≡ y)
map-some f None y e = none-some y e
map-some f (Some x) y e = (x, refl, some-same e)

if-some : {A : Type 0} (b : Bool) (o : Option A) (y : A) → cond b o None ≡ Some y → (b ≡ true) × (o ≡ Some y)
if-some true o y e = (refl, e)
if-some false o y e = none-some y e

and_then-some : {A B : Type 0} (f : A → Option B) (o : Option A) (y : B) → option_and_then f o ≡ Some y → (x : A) × (o ≡ Some x) × (f x ≡ Some y)
and_then-some f None y e = none-some y e
and_then-some f (Some x) y e = (x, refl, e)

false≢true : {A : Type 0} → false ≡ true → A
false≢true e = absurd (differ e)
  where
    differ : false ≡ true → ⊥
    differ e = cc

and-both : (a b : Bool) → (a && b) ≡ true → (a ≡ true) × (b ≡ true)
and-both true b e = (refl, e)
and-both false b e = false≢true e

not-true : (b : Bool) → not b ≡ true → b ≡ false
not-true true e = false≢true e
not-true false e = refl

no-items : {A : Type 0} (xs : List A) → (length xs == 0) ≡ true → xs ≡ []
no-items [] e = refl
no-items (x ∷ xs) e = let none : length (x ∷ xs) ≡ 0 = eqb-true (length (x ∷ xs)) 0 e in absurd (omega arith)

-- one entry more behind those of a side
record SideMore (side more : CertSide) (entry : SideEntry) : Type 0 where
  entries : side_entries more ≡ side_entries side ++ entry ∷ []
  few : length side.rows ≤ most_rows → length more.rows ≤ most_rows

side-row : (rows : List FeedRow) (row : FeedRow) → side_entries (record { rows = rows ++ row ∷ []; ended = false }) ≡ side_entries (record { rows = rows; ended = false }) ++ Row row ∷ []
side-row rows row = simp (map-append, append-nil)

side-more : (rows : List FeedRow) (ended : Bool) (more : CertSide) (entry : SideEntry) → next_side (record { rows = rows; ended = ended }) entry ≡ Some more → SideMore (record { rows = rows; ended = ended }) more entry
side-more rows true more (Row row) e = none-some more e
side-more rows false more (Row row) e =
    let made = if-some (nat_lt (length rows) most_rows) (Some (record { rows = rows ++ row ∷ []; ended = false })) more e in
    let is : record { rows = rows ++ row ∷ []; ended = false } ≡ more = some-same made.1 in
    let fits : length rows < most_rows = ltb-true (length rows) most_rows made.0 in
    subst (λ (m : CertSide). SideMore (record { rows = rows; ended = false }) m (Row row)) is (record {
      entries = side-row rows row;
      few = λ _. omega (arith, length-append rows (row ∷ []));
    })
side-more rows true more End e = none-some more e
side-more rows false more End e =
    subst (λ (m : CertSide). SideMore (record { rows = rows; ended = false }) m End) (some-same e) (record {
      entries = ap (λ list. list ++ End ∷ []) (sym (append-nil (map (λ row. Row row) rows)));
      few = λ few. few;
    })

-- one entry more behind those of a certificate
pub record CertMore (cert more : Cert) (added : List Entry) : Type 0 where
  pub entries : entries_of more ≡ entries_of cert ++ added
  pub few : HasFewRows cert → HasFewRows more
  pub same : more.k ≡ cert.k

abbrev lefts : List SideEntry → List Entry
lefts entries = map (λ entry. OfLeft entry) entries

abbrev rights : List SideEntry → List Entry
rights entries = map (λ entry. OfRight entry) entries

abbrev numbers : List (ℕ × ℕ) → List Entry
numbers pairs = map (λ pair. OfPair pair.0 pair.1) pairs

more-left : (k : ℕ) (left right side : CertSide) (pairs : List (ℕ × ℕ)) (entry : SideEntry) → pairs ≡ [] → right.rows ≡ [] → right.ended ≡ false → SideMore left side entry
    → CertMore (record { k = k; left = left; right = right; pairs = pairs }) (record { k = k; left = side; right = right; pairs = pairs }) (OfLeft entry ∷ [])
more-left k left right side pairs entry none no_rows not_ended made = record {
  entries =
      ap (λ (es : List SideEntry). lefts es ++ (rights (side_entries right) ++ numbers pairs)) made.entries
      ∙ rw (none, no_rows, not_ended) (simp (map-append, append-nil));
  few = λ few. record { left = made.few few.left; right = few.right };
  same = refl;
}

more-right : (k : ℕ) (left right side : CertSide) (pairs : List (ℕ × ℕ)) (entry : SideEntry) → pairs ≡ [] → SideMore right side entry
    → CertMore (record { k = k; left = left; right = right; pairs = pairs }) (record { k = k; left = left; right = side; pairs = pairs }) (OfRight entry ∷ [])
more-right k left right side pairs entry none made = record {
  entries =
      ap (λ (es : List SideEntry). lefts (side_entries left) ++ (rights es ++ numbers pairs)) made.entries
      ∙ rw none (ap (λ (es : List Entry). lefts (side_entries left) ++ (es ++ [])) (map-append (λ entry. OfRight entry) (side_entries right) (entry ∷ []))
      ∙ simp (append-nil, append_assoc));
  few = λ few. record { left = few.left; right = made.few few.right };
  same = refl;
}

more-pair : (cert : Cert) (left right : ℕ) → CertMore cert (record cert { pairs = cert.pairs ++ (left, right) ∷ [] }) (OfPair left right ∷ [])
more-pair cert left right = record {
  entries =
      ap (λ (es : List Entry). lefts (side_entries cert.left) ++ (rights (side_entries cert.right) ++ es)) (map-append (λ (pair : ℕ × ℕ). OfPair pair.0 pair.1) cert.pairs ((left, right) ∷ []))
      ∙ ap (λ (es : List Entry). lefts (side_entries cert.left) ++ es) (sym (append_assoc (rights (side_entries cert.right)) (numbers cert.pairs) (OfPair left right ∷ [])))
      ∙ sym (append_assoc (lefts (side_entries cert.left)) (rights (side_entries cert.right) ++ numbers cert.pairs) (OfPair left right ∷ []));
  few = λ few. record { left = few.left; right = few.right };
  same = refl;
}

next-more : (cert more : Cert) (entry : Entry) → next_cert cert entry ≡ Some more → CertMore cert more (entry ∷ [])
next-more cert more (OfLeft entry) e =
    let tested = if-some (has_no_pairs cert && is_untouched cert.right) (option_map (λ side. record cert { left = side }) (next_side cert.left entry)) more e in
    let both = and-both (has_no_pairs cert) (is_untouched cert.right) tested.0 in
    let untouched = and-both (not cert.right.ended) (length cert.right.rows == 0) both.1 in
    let made = map-some (λ (side : CertSide). record cert { left = side }) (next_side cert.left entry) more tested.1 in
    subst (λ m. CertMore cert m (OfLeft entry ∷ [])) made.2
    (more-left cert.k cert.left cert.right made.0 cert.pairs entry (no-items cert.pairs both.0) (no-items cert.right.rows untouched.1) (not-true cert.right.ended untouched.0)
    (side-more cert.left.rows cert.left.ended made.0 entry made.1))
next-more cert more (OfRight entry) e =
    let tested = if-some (has_no_pairs cert) (option_map (λ side. record cert { right = side }) (next_side cert.right entry)) more e in
    let made = map-some (λ (side : CertSide). record cert { right = side }) (next_side cert.right entry) more tested.1 in
    subst (λ m. CertMore cert m (OfRight entry ∷ [])) made.2
    (more-right cert.k cert.left cert.right made.0 cert.pairs entry (no-items cert.pairs tested.0) (side-more cert.right.rows cert.right.ended made.0 entry made.1))
next-more cert more (OfPair left right) e =
    subst (λ m. CertMore cert m (OfPair left right ∷ [])) (some-same e) (more-pair cert left right)

-- a certificate with all these entries more, if each may stand where it does
abbrev pub grown : Cert → List Entry → Option Cert
grown cert [] = Some cert
grown cert (entry ∷ rest) = option_and_then (λ more. grown more rest) (next_cert cert entry)

-- it has them
pub grown-more : (entries : List Entry) (cert more : Cert) → grown cert entries ≡ Some more → CertMore cert more entries
grown-more [] cert more e = subst (λ m. CertMore cert m []) (some-same e) (record { entries = sym (append-nil (entries_of cert)); few = λ few. few; same = refl })
grown-more (entry ∷ rest) cert more e =
    let made = and_then-some (λ m. grown m rest) (next_cert cert entry) more e in
    let one = next-more cert made.0 entry made.1 in
    let others = grown-more rest made.0 more made.2 in
    record {
      entries = others.entries ∙ ap (λ list. list ++ rest) one.entries ∙ append_assoc (entries_of cert) (entry ∷ []) rest;
      few = λ few. others.few (one.few few);
      same = others.same ∙ one.same;
    }

-- the same of a side
abbrev grown_side : CertSide → List SideEntry → Option CertSide
grown_side side [] = Some side
grown_side side (entry ∷ rest) = option_and_then (λ more. grown_side more rest) (next_side side entry)

abbrev ends : Bool → List SideEntry
ends ended = cond ended (End ∷ []) []

grown-rows : (front rows : List FeedRow) (ended : Bool) → length front + length rows ≤ most_rows
    → grown_side (record { rows = front; ended = false }) (map (λ row. Row row) rows ++ ends ended) ≡ Some (record { rows = front ++ rows; ended = ended })
grown-rows front [] true few = ap (λ list. Some (record { rows = list; ended = true })) (sym (append-nil front))
grown-rows front [] false few = ap (λ list. Some (record { rows = list; ended = false })) (sym (append-nil front))
grown-rows front (row ∷ rows) ended few =
    let fits : nat_lt (length front) most_rows ≡ true = lt-ltb (length front) most_rows (omega arith) in
    rw fits (grown-rows (front ++ row ∷ []) rows ended (omega (arith, length-append front (row ∷ [])))
    ∙ ap (λ list. Some (record { rows = list; ended = ended })) (append_assoc front (row ∷ []) rows))

-- a certificate with a left side that grows, and then others
abbrev with_left : ℕ → CertSide → Cert
with_left k left = record { k = k; left = left; right = new_side; pairs = [] }

abbrev with_right : ℕ → CertSide → CertSide → Cert
with_right k left right = record { k = k; left = left; right = right; pairs = [] }

grown-left : (k : ℕ) (entries : List SideEntry) (left whole : CertSide) (rest : List Entry) → grown_side left entries ≡ Some whole
    → grown (with_left k left) (lefts entries ++ rest) ≡ grown (with_left k whole) rest
grown-left k [] left whole rest e = ap (λ side. grown (with_left k side) rest) (some-same e)
grown-left k (entry ∷ entries) left whole rest e =
    (elim (next_side left entry) as (λ o. option_and_then (λ more. grown_side more entries) o ≡ Some whole
    → option_and_then (λ more. grown more (lefts entries ++ rest)) (option_map (λ side. with_left k side) o) ≡ grown (with_left k whole) rest) [
      | None ↦ λ n. none-some whole n
      | Some more ↦ λ n. grown-left k entries more whole rest n
    ]) e

grown-right : (k : ℕ) (entries : List SideEntry) (left right whole : CertSide) (rest : List Entry) → grown_side right entries ≡ Some whole
    → grown (with_right k left right) (rights entries ++ rest) ≡ grown (with_right k left whole) rest
grown-right k [] left right whole rest e = ap (λ side. grown (with_right k left side) rest) (some-same e)
grown-right k (entry ∷ entries) left right whole rest e =
    (elim (next_side right entry) as (λ o. option_and_then (λ more. grown_side more entries) o ≡ Some whole
    → option_and_then (λ more. grown more (rights entries ++ rest)) (option_map (λ side. with_right k left side) o) ≡ grown (with_right k left whole) rest) [
      | None ↦ λ n. none-some whole n
      | Some more ↦ λ n. grown-right k entries left more whole rest n
    ]) e

grown-pairs : (pairs : List (ℕ × ℕ)) (cert : Cert) → grown cert (numbers pairs) ≡ Some (record cert { pairs = cert.pairs ++ pairs })
grown-pairs [] cert = ap (λ list. Some (record cert { pairs = list })) (sym (append-nil cert.pairs))
grown-pairs (pair ∷ pairs) cert =
    grown-pairs pairs (record cert { pairs = cert.pairs ++ (pair.0, pair.1) ∷ [] })
    ∙ ap (λ list. Some (record cert { pairs = list })) (append_assoc cert.pairs (pair ∷ []) pairs)

-- nothing grows to each certificate by its entries
pub grown-all : (cert : Cert) → HasFewRows cert → grown (new_cert cert.k) (entries_of cert) ≡ Some cert
grown-all cert few =
    grown-left cert.k (side_entries cert.left) new_side cert.left (rights (side_entries cert.right) ++ numbers cert.pairs) (grown-rows [] cert.left.rows cert.left.ended (omega (arith, few.left)))
    ∙ grown-right cert.k (side_entries cert.right) cert.left new_side cert.right (numbers cert.pairs) (grown-rows [] cert.right.rows cert.right.ended (omega (arith, few.right)))
    ∙ grown-pairs cert.pairs (with_right cert.k cert.left cert.right)
