-- Rows of one column with the cell of a row of another one, in their order. Rows count from 1.
use Rattle.std.specs.Prelude.{ℕ, ◌≡◌, ◌+◌, ◌≤◌, ◌<◌, ◌-◌, ◌==◌, if◌then◌else◌, List, Option, Some, None, length, slice_get, unwrap_or}
use Rattle.std.specs.declared.cmp.Ordering.{Ordering}
use Rattle.std.specs.declared.cmp.Ordering.TheVariants.{Equal}

-- the first number behind one, up to a last one, of which something is so; 0 where there is none
pub record IsNext (is : ℕ → Type 0) (behind last found : ℕ) : Type 0 where
  pub there : 1 ≤ found → (behind < found) × (found ≤ last) × is found
  pub first : (other : ℕ) → behind < other → other ≤ last → is other → (1 ≤ found) × (found ≤ other)

module _ {K : Type 0} (cmp : K → K → Ordering) where
  -- a key that is there, and equal to this one
  abbrev pub IsEqualKey : K → Option K → Type 0
  IsEqualKey key (Some other) = cmp key other ≡ Equal
  IsEqualKey key None = ⊥

  -- the row of this number has a key that is equal to this one
  abbrev pub HasKey : List K → K → ℕ → Type 0
  HasKey keys key row = IsEqualKey key (slice_get keys (row - 1))

  -- for each of some keys, the first row of others with an equal key
  abbrev pub AreFirst : List K → List K → List ℕ → Type 0
  AreFirst lefts rights rows =
      (place : ℕ) (key : K) → slice_get lefts place ≡ Some key → IsNext (HasKey rights key) 0 (length rights) (unwrap_or (slice_get rows place) 0)

  -- for each row behind one, the next row with an equal key
  abbrev pub AreNextBehind : ℕ → List K → List ℕ → Type 0
  AreNextBehind behind keys rows =
      (row : ℕ) (key : K) → behind < row → slice_get keys (row - 1) ≡ Some key → IsNext (HasKey keys key) row (length keys) (unwrap_or (slice_get rows (row - 1)) 0)

-- keys that stand for the values of some cells, which are numbered from 1
pub record AreKeys {K V : Type 0} (value : K → V) (cell : ℕ → V) (size : ℕ) (keys : List K) : Type 0 where
  pub sized : length keys ≡ size
  pub values : (place : ℕ) (key : K) → slice_get keys place ≡ Some key → cell (place + 1) ≡ value key

-- rows of two sides, numbered from 1, that stand for values: for each row of the one side the first row of the other side with the same value, and for each row of the other side the next one
pub record AreSameRows {V : Type 0} (left right : ℕ → V) (lefts rights : ℕ) (first next : List ℕ) : Type 0 where
  pub first_sized : length first ≡ lefts
  pub next_sized : length next ≡ rights
  pub firsts : (row : ℕ) → 1 ≤ row → row ≤ lefts → IsNext (λ other. left row ≡ right other) 0 rights (unwrap_or (slice_get first (row - 1)) 0)
  pub nexts : (row : ℕ) → 1 ≤ row → row ≤ rights → IsNext (λ other. right row ≡ right other) row rights (unwrap_or (slice_get next (row - 1)) 0)

-- each row's next row comes behind it
abbrev pub LeadOn : List ℕ → Type 0
LeadOn next =
    (row : ℕ) → 1 ≤ row → row ≤ length next → 1 ≤ unwrap_or (slice_get next (row - 1)) 0
    → (row < unwrap_or (slice_get next (row - 1)) 0) × (unwrap_or (slice_get next (row - 1)) 0 ≤ length next)

-- the end that a row has; another one where the row is 0
abbrev pub end_of : List ℕ → ℕ → ℕ → ℕ
end_of ends row other = if row == 0 then other else unwrap_or (slice_get ends (row - 1)) 0

-- the end of a row: that of its next row, and the row itself where it has none
abbrev pub AreEnds : List ℕ → List ℕ → Type 0
AreEnds next ends =
    (row : ℕ) → 1 ≤ row → row ≤ length next → unwrap_or (slice_get ends (row - 1)) 0 ≡ end_of ends (unwrap_or (slice_get next (row - 1)) 0) row
