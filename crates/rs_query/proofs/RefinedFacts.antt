-- Rows that are equal in some columns, and in two more: by keys that have the end of each row in front.
use Rattle.std.proofs.Common.{ℕ, ◌≡◌, ◌∙◌, ◌+◌, ◌-◌, ◌≤◌, ◌++◌, List, [], ◌∷◌, length, map, Some, refl, sym, ap, ap₂, subst, arith}
use Rattle.std.specs.Prelude.{◌↔◌, IfOk, Result, Ok, Err, slice_get, unwrap_or}
use Rattle.std.specs.Ordering.{nat_cmp, ordering_then}
use Rattle.std.specs.declared.cmp.Ordering.{Ordering}
use Rattle.std.specs.declared.cmp.Ordering.TheVariants.{Less, Equal, Greater}
use Rattle.std.specs.Cmp.{nat_cmp_total, tied_itself}
use Rattle.std.proofs.lemmas.List.{map_push}
use Rattle.std.proofs.lemmas.Map.Lookups.{exact_unsigned}
use Rattle.rs_value.specs.declared.value.Value.{Value}
use Rattle.rs_catalog.specs.Catalog.{CatalogDef}
use Rattle.rs_query.specs.declared.block.Block.{Block}
use Rattle.rs_query.specs.declared.equal_rows.EqualRows.{EqualRows}
use Rattle.rs_query.specs.EqualRows.{AreEnds, AreFirst, AreKeys, AreNextBehind, AreSameRows, end_of}
use Rattle.rs_query.specs.Searching.{AreEqualRows, cell_of, left_cells, right_cells}
use Rattle.rs_query.specs.Tables.{size_of}
use Rattle.rs_query.proofs.EndFacts.{ends-same, next-ends-same, same-ends, same-next-ends}
use Rattle.rs_query.proofs.TieFacts.{AreSameRows-result, AreSameRows-same}

-- keys with numbers in front
pub record AreNumbered {K : Type 0} (numbers : List ℕ) (keys : List K) (pairs : List (ℕ × K)) : Type 0 where
  pub sized : length pairs ≡ length keys
  pub values : (place : ℕ) (pair : ℕ × K) → slice_get pairs place ≡ Some pair → (slice_get keys place ≡ Some pair.1) × (unwrap_or (slice_get numbers place) 0 ≡ pair.0)

-- the same of lists that are these
pub AreNumbered-same : {K : Type 0} (numbers own_numbers : List ℕ) (keys own_keys : List K) (pairs own_pairs : List (ℕ × K)) → own_numbers ≡ numbers → own_keys ≡ keys → own_pairs ≡ pairs
    → length pairs ≡ length own_keys
    → ((place : ℕ) (pair : ℕ × K) → slice_get pairs place ≡ Some pair → (slice_get own_keys place ≡ Some pair.1) × (unwrap_or (slice_get own_numbers place) 0 ≡ pair.0))
    → AreNumbered numbers keys own_pairs
AreNumbered-same numbers own_numbers keys own_keys pairs own_pairs same_numbers same_keys same_pairs sized values = record {
  sized = ap length same_pairs ∙ sized ∙ ap length same_keys;
  values = λ place pair at.
      let both = values place pair (ap (λ list. slice_get list place) (sym same_pairs) ∙ at) in
      (ap (λ list. slice_get list place) (sym same_keys) ∙ both.0, ap (λ list. unwrap_or (slice_get list place) 0) (sym same_numbers) ∙ both.1);
}

-- lists of values of two kinds, with one more of each, are equal where these are and those before
map-push-split : {X Y : Type 0} (f g : X → Y) (xs : List X) (x : X) → map f (xs ++ x ∷ []) ≡ map g (xs ++ x ∷ []) → (map f xs ≡ map g xs) × (f x ≡ g x)
map-push-split f g [] x e = (refl, cc)
map-push-split f g (y ∷ xs) x e =
    let head : f y ≡ g y = cc in
    let tail : map f (xs ++ x ∷ []) ≡ map g (xs ++ x ∷ []) = cc in
    let rest = map-push-split f g xs x tail in
    (ap₂ (λ v vs. v ∷ vs) head rest.0, rest.1)

map-push-join : {X Y : Type 0} (f g : X → Y) (xs : List X) (x : X) → map f xs ≡ map g xs → f x ≡ g x → map f (xs ++ x ∷ []) ≡ map g (xs ++ x ∷ [])
map-push-join f g xs x front last = map_push f xs x ∙ ap₂ (λ vs v. vs ++ v ∷ []) front last ∙ sym (map_push g xs x)

-- two comparisons, one behind the other, find what both do
then-equal : (o p : Ordering) → ordering_then o p ≡ Equal → (o ≡ Equal) × (p ≡ Equal)
then-equal Less p e = absurd (cc)
then-equal Equal p e = (refl, e)
then-equal Greater p e = absurd (cc)

module _ {K : Type 0} (cmp : K → K → Ordering) (reads : K → Value) (exact : (a b : K) → (cmp a b ≡ Equal) ↔ (reads a ≡ reads b)) where
  abbrev numbered_cmp : ℕ × K → ℕ × K → Ordering
  numbered_cmp a b = ordering_then (nat_cmp a.0 b.0) (cmp a.1 b.1)

  abbrev numbered_reads : ℕ × K → ℕ × Value
  numbered_reads pair = (pair.0, reads pair.1)

  exact-numbered : (a b : ℕ × K) → (numbered_cmp a b ≡ Equal) ↔ (numbered_reads a ≡ numbered_reads b)
  exact-numbered a b = (
    (λ e.
        let both = then-equal (nat_cmp a.0 b.0) (cmp a.1 b.1) e in
        ap₂ (λ (n : ℕ) (v : Value). (n, v)) (exact_unsigned a.0 b.0 both.0) ((exact a.1 b.1).0 both.1)),
    (λ e.
        let number : a.0 ≡ b.0 = ap (λ (p : ℕ × Value). p.0) e in
        let value : reads a.1 ≡ reads b.1 = ap (λ (p : ℕ × Value). p.1) e in
        let tied : nat_cmp a.0 b.0 ≡ Equal = ap (λ n. nat_cmp n b.0) number ∙ tied_itself nat_cmp_total b.0 in
        ap (λ o. ordering_then o (cmp a.1 b.1)) tied ∙ (exact a.1 b.1).1 value),
  )

  AreKeys-numbered : (numbers : List ℕ) (cell : ℕ → Value) (size : ℕ) (keys : List K) (pairs : List (ℕ × K)) → AreKeys reads cell size keys → AreNumbered numbers keys pairs
      → AreKeys numbered_reads (λ row. (unwrap_or (slice_get numbers (row - 1)) 0, cell row)) size pairs
  AreKeys-numbered numbers cell size keys pairs are numbered = record {
    sized = numbered.sized ∙ are.sized;
    values = λ place pair at.
        let both = numbered.values place pair at in
        ap₂ (λ (n : ℕ) (v : Value). (n, v))
        (ap (λ i. unwrap_or (slice_get numbers i) 0) (let back : place + 1 - 1 ≡ place = omega arith in back) ∙ both.1)
        (are.values place pair.1 both.0);
  }

  module _ (catalogue : CatalogDef) (block : Block) (left right : ℕ × ℕ) (columns : List ((ℕ × ℕ) × (ℕ × ℕ))) (rows : EqualRows)
      (are : AreEqualRows catalogue block left.0 right.0 columns rows) (firsts ends : List ℕ)
      (is_first : (row : ℕ) → 1 ≤ row → row ≤ length rows.first.items → unwrap_or (slice_get firsts (row - 1)) 0 ≡ end_of ends (unwrap_or (slice_get rows.first.items (row - 1)) 0) 0)
      (is_end : AreEnds rows.next.items ends) where
    abbrev left_key : ℕ → ℕ × Value
    left_key row = (unwrap_or (slice_get firsts (row - 1)) 0, cell_of catalogue block left row)

    abbrev right_key : ℕ → ℕ × Value
    right_key row = (unwrap_or (slice_get ends (row - 1)) 0, cell_of catalogue block right row)

    abbrev lefts : ℕ
    lefts = size_of catalogue block left.0

    abbrev rights : ℕ
    rights = size_of catalogue block right.0

    abbrev more : List ((ℕ × ℕ) × (ℕ × ℕ))
    more = columns ++ (left, right) ∷ []

    -- rows are equal in all columns where their ends and their own cells are
    across_ : (row other : ℕ) → 1 ≤ row → row ≤ lefts → 1 ≤ other → other ≤ rights
        → (left_key row ≡ right_key other) ↔ (left_cells catalogue block more row ≡ right_cells catalogue block more other)
    across_ row other some most some_other most_other =
        let first = is_first row some (subst (λ n. row ≤ n) (sym are.first_sized) most) in (
          (λ e.
              map-push-join (λ (pair : (ℕ × ℕ) × (ℕ × ℕ)). cell_of catalogue block pair.0 row) (λ (pair : (ℕ × ℕ) × (ℕ × ℕ)). cell_of catalogue block pair.1 other) columns (left, right)
              (ends-same (left_cells catalogue block columns) (right_cells catalogue block columns) lefts rights rows.first.items rows.next.items are ends is_end row other
              (unwrap_or (slice_get firsts (row - 1)) 0) some most some_other most_other first (ap (λ (p : ℕ × Value). p.0) e))
              (ap (λ (p : ℕ × Value). p.1) e)),
          (λ e.
              let both = map-push-split (λ (pair : (ℕ × ℕ) × (ℕ × ℕ)). cell_of catalogue block pair.0 row) (λ (pair : (ℕ × ℕ) × (ℕ × ℕ)). cell_of catalogue block pair.1 other)
              columns (left, right) e in
              ap₂ (λ (n : ℕ) (v : Value). (n, v))
              (first
              ∙ same-ends (left_cells catalogue block columns) (right_cells catalogue block columns) lefts rights rows.first.items rows.next.items are ends is_end row other
              some most some_other most_other both.0)
              both.1),
        )

    within_ : (row other : ℕ) → 1 ≤ row → row ≤ rights → 1 ≤ other → other ≤ rights
        → (right_key row ≡ right_key other) ↔ (right_cells catalogue block more row ≡ right_cells catalogue block more other)
    within_ row other some most some_other most_other = (
      (λ e.
          map-push-join (λ (pair : (ℕ × ℕ) × (ℕ × ℕ)). cell_of catalogue block pair.1 row) (λ (pair : (ℕ × ℕ) × (ℕ × ℕ)). cell_of catalogue block pair.1 other) columns (left, right)
          (next-ends-same (left_cells catalogue block columns) (right_cells catalogue block columns) lefts rights rows.first.items rows.next.items are ends is_end row other
          some most some_other most_other (ap (λ (p : ℕ × Value). p.0) e))
          (ap (λ (p : ℕ × Value). p.1) e)),
      (λ e.
          let both = map-push-split (λ (pair : (ℕ × ℕ) × (ℕ × ℕ)). cell_of catalogue block pair.1 row) (λ (pair : (ℕ × ℕ) × (ℕ × ℕ)). cell_of catalogue block pair.1 other)
          columns (left, right) e in
          ap₂ (λ (n : ℕ) (v : Value). (n, v))
          (same-next-ends (left_cells catalogue block columns) (right_cells catalogue block columns) lefts rights rows.first.items rows.next.items are ends is_end row other
          some most some_other most_other both.0)
          both.1),
    )

    -- so the rows of equal keys are those that are equal in all columns
    pub refined-result : {E : Type 0} (left_keys right_keys : List K) (left_pairs right_pairs : List (ℕ × K)) → AreKeys reads (cell_of catalogue block left) lefts left_keys
        → AreKeys reads (cell_of catalogue block right) rights right_keys → AreNumbered firsts left_keys left_pairs → AreNumbered ends right_keys right_pairs
        → (result : Result EqualRows E) → IfOk result (λ found. AreFirst numbered_cmp left_pairs right_pairs found.first.items)
        → IfOk result (λ found. AreNextBehind numbered_cmp 0 right_pairs found.next.items)
        → IfOk result (λ found. length found.first.items ≡ length left_pairs) → IfOk result (λ found. length found.next.items ≡ length right_pairs)
        → IfOk result (AreEqualRows catalogue block left.0 right.0 more)
    refined-result left_keys right_keys left_pairs right_pairs left_are right_are left_numbered right_numbered result first next first_sized next_sized =
        go result
        (AreSameRows-result numbered_cmp numbered_reads exact-numbered left_key right_key lefts rights left_pairs right_pairs
        (AreKeys-numbered firsts (cell_of catalogue block left) lefts left_keys left_pairs left_are left_numbered)
        (AreKeys-numbered ends (cell_of catalogue block right) rights right_keys right_pairs right_are right_numbered) result first next first_sized next_sized)
      where
        go : {E : Type 0} (found : Result EqualRows E) → IfOk found (λ found. AreSameRows left_key right_key lefts rights found.first.items found.next.items)
            → IfOk found (AreEqualRows catalogue block left.0 right.0 more)
        go (Ok found) same =
            AreSameRows-same left_key right_key (left_cells catalogue block more) (right_cells catalogue block more) lefts rights found.first.items found.next.items across_ within_ same
        go (Err fault) same = tt
