-- The next row of which something is so.
use Rattle.std.proofs.Common.{ℕ, ◌≡◌, ◌+◌, ◌<◌, ◌≤◌, Bool, true, false, cond, nat_le, refl, subst, inl, inr, arith}
use Rattle.std.proofs.lemmas.Bool.{cases_lt, leb-false, leb-true}
use Rattle.rs_query.specs.EqualRows.{IsNext}

-- the row right behind, where it is so of that
pub IsNext-here : (is : ℕ → Type 0) (behind last : ℕ) → behind + 1 ≤ last → is (behind + 1) → IsNext is behind last (behind + 1)
IsNext-here is behind last within so = record {
  there = λ some. (let more : behind < behind + 1 = omega arith in more, within, so);
  first = λ other above below also. (let some : 1 ≤ behind + 1 = omega arith in some, omega arith);
}

-- else that behind it
pub IsNext-further : (is : ℕ → Type 0) (behind last found : ℕ) → (is (behind + 1) → ⊥) → IsNext is (behind + 1) last found → IsNext is behind last found
IsNext-further is behind last found not next = record {
  there = λ some. let t = next.there some in (let more : behind < found = omega (arith, t.0) in more, t.1, t.2);
  first = λ other above below also. elim (cases_lt (behind + 1) other) [
    | inl further ↦ next.first other further below also
    | inr here ↦ absurd (not (subst is (let same : other ≡ behind + 1 = omega arith in same) also))
  ];
}

-- none behind the last one
pub IsNext-none : (is : ℕ → Type 0) (behind last : ℕ) → last ≤ behind → IsNext is behind last 0
IsNext-none is behind last end = record { there = λ some. absurd (omega arith); first = λ other above below also. absurd (omega arith) }

-- it is so of none of the rows behind one up to another
abbrev pub IsNone : (ℕ → Type 0) → ℕ → ℕ → Type 0
IsNone is behind row = (other : ℕ) → behind < other → other ≤ row → is other → ⊥

-- nor of one row more
pub IsNone-more : (is : ℕ → Type 0) (behind row : ℕ) → IsNone is behind row → (is (row + 1) → ⊥) → IsNone is behind (row + 1)
IsNone-more is behind row none not other above below also = elim (cases_lt row other) [
  | inl further ↦ not (subst is (let same : other ≡ row + 1 = omega arith in same) also)
  | inr within ↦ none other above within also
]

-- the row right behind these is the next one where it is so of that
pub IsNext-found : (is : ℕ → Type 0) (behind last row : ℕ) → IsNone is behind row → behind ≤ row → row + 1 ≤ last → is (row + 1) → IsNext is behind last (row + 1)
IsNext-found is behind last row none above within so = record {
  there = λ some. (let more : behind < row + 1 = omega arith in more, within, so);
  first = λ other behind_other below also. elim (cases_lt row other) [
    | inl further ↦ (let some : 1 ≤ row + 1 = omega arith in some, omega arith)
    | inr before ↦ absurd (none other behind_other before also)
  ];
}

-- and there is none where they are all up to the last one
pub IsNext-absent : (is : ℕ → Type 0) (behind last row : ℕ) → IsNone is behind row → last ≤ row → IsNext is behind last 0
IsNext-absent is behind last row none end = record {
  there = λ some. absurd (omega arith);
  first = λ other above below also. absurd (none other above (omega arith) also);
}

-- the same of another test that says the same of the rows in range
pub IsNext-same : (is other : ℕ → Type 0) (behind last found : ℕ) → ((row : ℕ) → behind < row → row ≤ last → is row → other row)
    → ((row : ℕ) → behind < row → row ≤ last → other row → is row) → IsNext is behind last found → IsNext other behind last found
IsNext-same is other behind last found forth back next = record {
  there = λ some. let t = next.there some in (t.0, t.1, forth found t.0 t.1 t.2);
  first = λ row above below also. next.first row above below (back row above below also);
}

-- the next row is the same up to a nearer last one, where it isn't behind that
pub IsNext-cut : (is : ℕ → Type 0) (behind size last found : ℕ) → last ≤ size → IsNext is behind size found → IsNext is behind last (cond (nat_le found last) found 0)
IsNext-cut is behind size last found less next = go (nat_le found last) refl where
  go : (b : Bool) → nat_le found last ≡ b → IsNext is behind last (cond b found 0)
  go true e = record {
    there = λ some. let t = next.there some in (t.0, leb-true found last e, t.2);
    first = λ other above below also. next.first other above (omega arith) also;
  }
  go false e =
      let beyond = leb-false found last e in
      record {
        there = λ some. absurd (omega arith);
        first = λ other above below also. let t = next.first other above (omega arith) also in absurd (omega (arith, t.1));
      }
