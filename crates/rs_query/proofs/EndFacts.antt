-- The ends of rows that follow one another: two rows have the same end exactly where they stand for the same value.
use Rattle.std.proofs.Common.{ℕ, zero, suc, ◌≡◌, ◌∙◌, ◌+◌, ◌-◌, ◌<◌, ◌≤◌, ◌⊎◌, Bool, true, false, cond, eqb, List, length, set, refl, sym, ap, subst, inl, inr, arith}
use Rattle.std.specs.Prelude.{slice_get, unwrap_or}
use Rattle.std.proofs.lemmas.Bool.{cases_lt, eq-eqb, eqb-true, true≢false}
use Rattle.std.proofs.lemmas.List.{length-set}
use Rattle.rs_query.specs.EqualRows.{AreEnds, AreSameRows, IsNext, LeadOn, end_of}
use Rattle.rs_query.proofs.MaskStepFacts.{row_number-other, row_number-own}

-- the last row that stands for a value; 0 where none does
pub record IsEnd {V : Type 0} (right : ℕ → V) (rights : ℕ) (v : V) (end : ℕ) : Type 0 where
  pub there : 1 ≤ end → (end ≤ rights) × (v ≡ right end)
  pub last : (other : ℕ) → 1 ≤ other → other ≤ rights → v ≡ right other → (1 ≤ end) × (other ≤ end)

module _ {V : Type 0} (right : ℕ → V) (rights : ℕ) where
  -- values that have a row, and the same end, are the same
  pub same-value : (v w : V) (end : ℕ) → 1 ≤ end → IsEnd right rights v end → IsEnd right rights w end → v ≡ w
  same-value v w end some a b = let s = a.there some in let t = b.there some in s.1 ∙ sym t.1

  -- and a value has one end
  pub one-end : (v : V) (end other : ℕ) → IsEnd right rights v end → IsEnd right rights v other → end ≡ other
  one-end v end other a b = elim (cases_lt 0 end) [
    | inl some ↦
        let t = a.there some in
        let l = b.last end some t.0 t.1 in
        let u = b.there l.0 in
        let k = a.last other l.0 u.0 u.1 in
        omega (arith, l.1, k.1)
    | inr none ↦ elim (cases_lt 0 other) [
      | inl some ↦ let t = b.there some in let l = a.last other some t.0 t.1 in absurd (omega (arith, l.0))
      | inr also ↦ omega arith
    ]
  ]

  -- a row without a next one is an end
  end-here : (row next : ℕ) → 1 ≤ row → row ≤ rights → next ≡ 0 → IsNext (λ other. right row ≡ right other) row rights next → IsEnd right rights (right row) row
  end-here row next some most none is = record {
    there = λ s. (most, refl);
    last = λ other s m same. (
      some,
      (elim (cases_lt row other) [
        | inl further ↦ let f = is.first other further m same in absurd (omega (arith, f.0))
        | inr le ↦ le
      ]),
    );
  }

module _ {V : Type 0} (left right : ℕ → V) (lefts rights : ℕ) (first next : List ℕ) (are : AreSameRows left right lefts rights first next) where
  -- the next rows lead on
  pub leads-on : LeadOn next
  leads-on row some most there =
      let sized = are.next_sized in
      let t = (are.nexts row some (subst (λ n. row ≤ n) sized most)).there there in
      (t.0, subst (λ n. unwrap_or (slice_get next (row - 1)) 0 ≤ n) (sym sized) t.1)

  -- and the first rows are among them
  pub firsts-within : (row : ℕ) → 1 ≤ row → row ≤ length first → unwrap_or (slice_get first (row - 1)) 0 ≤ length next
  firsts-within row some most = elim (cases_lt 0 (unwrap_or (slice_get first (row - 1)) 0)) [
    | inl there ↦
        let t = (are.firsts row some (subst (λ n. row ≤ n) are.first_sized most)).there there in
        subst (λ n. unwrap_or (slice_get first (row - 1)) 0 ≤ n) (sym are.next_sized) t.1
    | inr none ↦ omega arith
  ]

  module _ (ends : List ℕ) (is : AreEnds next ends) where
    -- the end of a row is that of its next one
    end-step : (row : ℕ) → 1 ≤ row → row ≤ rights
        → ((other : ℕ) → row < other → other ≤ rights → IsEnd right rights (right other) (unwrap_or (slice_get ends (other - 1)) 0))
        → IsEnd right rights (right row) (unwrap_or (slice_get ends (row - 1)) 0)
    end-step row some most behind =
        subst (IsEnd right rights (right row)) (sym (is row some (subst (λ n. row ≤ n) (sym are.next_sized) most))) (go (eqb (unwrap_or (slice_get next (row - 1)) 0) 0) refl) where
          go : (b : Bool) → eqb (unwrap_or (slice_get next (row - 1)) 0) 0 ≡ b
              → IsEnd right rights (right row) (cond b row (unwrap_or (slice_get ends (unwrap_or (slice_get next (row - 1)) 0 - 1)) 0))
          go true e = end-here right rights row (unwrap_or (slice_get next (row - 1)) 0) some most (eqb-true (unwrap_or (slice_get next (row - 1)) 0) 0 e) (are.nexts row some most)
          go false e = elim (cases_lt 0 (unwrap_or (slice_get next (row - 1)) 0)) [
            | inl there ↦
                let t = (are.nexts row some most).there there in
                subst (λ v. IsEnd right rights v (unwrap_or (slice_get ends (unwrap_or (slice_get next (row - 1)) 0 - 1)) 0)) (sym t.2)
                (behind (unwrap_or (slice_get next (row - 1)) 0) t.0 t.1)
            | inr none ↦ absurd (true≢false (sym (eq-eqb (unwrap_or (slice_get next (row - 1)) 0) 0 (omega arith)) ∙ e))
          ]

    next-end-by : (count row : ℕ) → 1 ≤ row → row ≤ rights → rights < row + count → IsEnd right rights (right row) (unwrap_or (slice_get ends (row - 1)) 0)
    next-end-by zero row some most few = absurd (omega arith)
    next-end-by (suc count) row some most few = end-step row some most (λ other above within. next-end-by count other (omega arith) within (omega arith))

    -- so it is the last row with its value
    pub next-end : (row : ℕ) → 1 ≤ row → row ≤ rights → IsEnd right rights (right row) (unwrap_or (slice_get ends (row - 1)) 0)
    next-end row some most = next-end-by rights row some most (omega arith)

    -- and the end of a first row is the last row with the value of that one
    pub first-end : (row : ℕ) → 1 ≤ row → row ≤ lefts → IsEnd right rights (left row) (end_of ends (unwrap_or (slice_get first (row - 1)) 0) 0)
    first-end row some most = go (eqb (unwrap_or (slice_get first (row - 1)) 0) 0) refl where
      go : (b : Bool) → eqb (unwrap_or (slice_get first (row - 1)) 0) 0 ≡ b
          → IsEnd right rights (left row) (cond b 0 (unwrap_or (slice_get ends (unwrap_or (slice_get first (row - 1)) 0 - 1)) 0))
      go true e = record {
        there = λ s. absurd (omega arith);
        last = λ other s m same.
            let f = (are.firsts row some most).first other (omega arith) m same in
            let none = eqb-true (unwrap_or (slice_get first (row - 1)) 0) 0 e in
            absurd (omega (arith, f.0, none));
      }
      go false e = elim (cases_lt 0 (unwrap_or (slice_get first (row - 1)) 0)) [
        | inl there ↦
            let t = (are.firsts row some most).there there in
            subst (λ v. IsEnd right rights v (unwrap_or (slice_get ends (unwrap_or (slice_get first (row - 1)) 0 - 1)) 0)) (sym t.2)
            (next-end (unwrap_or (slice_get first (row - 1)) 0) there t.1)
        | inr none ↦ absurd (true≢false (sym (eq-eqb (unwrap_or (slice_get first (row - 1)) 0) 0 (omega arith)) ∙ e))
      ]

    -- so rows have the same end exactly where they stand for the same value
    pub ends-same : (row other end : ℕ) → 1 ≤ row → row ≤ lefts → 1 ≤ other → other ≤ rights → end ≡ end_of ends (unwrap_or (slice_get first (row - 1)) 0) 0
        → end ≡ unwrap_or (slice_get ends (other - 1)) 0 → left row ≡ right other
    ends-same row other end some most some_other most_other is_left is_right =
        let l = subst (IsEnd right rights (left row)) (sym is_left) (first-end row some most) in
        let r = subst (IsEnd right rights (right other)) (sym is_right) (next-end other some_other most_other) in
        let own = r.last other some_other most_other refl in
        same-value right rights (left row) (right other) end own.0 l r

    pub same-ends : (row other : ℕ) → 1 ≤ row → row ≤ lefts → 1 ≤ other → other ≤ rights → left row ≡ right other
        → end_of ends (unwrap_or (slice_get first (row - 1)) 0) 0 ≡ unwrap_or (slice_get ends (other - 1)) 0
    same-ends row other some most some_other most_other same =
        one-end right rights (right other) (end_of ends (unwrap_or (slice_get first (row - 1)) 0) 0) (unwrap_or (slice_get ends (other - 1)) 0)
        (subst (λ v. IsEnd right rights v (end_of ends (unwrap_or (slice_get first (row - 1)) 0) 0)) same (first-end row some most))
        (next-end other some_other most_other)

    -- the same of two rows of the other side
    pub next-ends-same : (row other : ℕ) → 1 ≤ row → row ≤ rights → 1 ≤ other → other ≤ rights
        → unwrap_or (slice_get ends (row - 1)) 0 ≡ unwrap_or (slice_get ends (other - 1)) 0 → right row ≡ right other
    next-ends-same row other some most some_other most_other same =
        let l = next-end row some most in
        let own = l.last row some most refl in
        same-value right rights (right row) (right other) (unwrap_or (slice_get ends (row - 1)) 0) own.0 l
        (subst (IsEnd right rights (right other)) (sym same) (next-end other some_other most_other))

    pub same-next-ends : (row other : ℕ) → 1 ≤ row → row ≤ rights → 1 ≤ other → other ≤ rights → right row ≡ right other
        → unwrap_or (slice_get ends (row - 1)) 0 ≡ unwrap_or (slice_get ends (other - 1)) 0
    same-next-ends row other some most some_other most_other same =
        one-end right rights (right other) (unwrap_or (slice_get ends (row - 1)) 0) (unwrap_or (slice_get ends (other - 1)) 0)
        (subst (λ v. IsEnd right rights v (unwrap_or (slice_get ends (row - 1)) 0)) same (next-end row some most))
        (next-end other some_other most_other)

-- the ends of the rows behind one are made, and those up to it still have their next rows
pub record IsEnded (next now : List ℕ) (place : ℕ) : Type 0 where
  pub sized : length now ≡ length next
  pub left : (row : ℕ) → 1 ≤ row → row ≤ place → unwrap_or (slice_get now (row - 1)) 0 ≡ unwrap_or (slice_get next (row - 1)) 0
  pub ends : (row : ℕ) → place < row → row ≤ length next → unwrap_or (slice_get now (row - 1)) 0 ≡ end_of now (unwrap_or (slice_get next (row - 1)) 0) row

-- another row's end stays
end-stays : (rows : List ℕ) (place end row other : ℕ) → 1 ≤ place → (row ≡ 0) ⊎ (place < row) → end_of (set rows (place - 1) end) row other ≡ end_of rows row other
end-stays rows place end row other some apart = elim apart [
  | inl none ↦ ap (λ n. end_of (set rows (place - 1) end) n other) none ∙ sym (ap (λ n. end_of rows n other) none)
  | inr behind ↦ ap (cond (eqb row 0) other) (row_number-other rows place row end some (omega arith) (λ same. absurd (omega arith)))
]

-- a row's next one is none, or one behind it
apart-of : (next : List ℕ) → LeadOn next → (row : ℕ) → 1 ≤ row → row ≤ length next → (unwrap_or (slice_get next (row - 1)) 0 ≡ 0) ⊎ (row < unwrap_or (slice_get next (row - 1)) 0)
apart-of next lead row some most = elim (cases_lt 0 (unwrap_or (slice_get next (row - 1)) 0)) [
  | inl there ↦ inr ((lead row some most there).0)
  | inr none ↦ inl (omega arith)
]

-- one row more
pub IsEnded-step : (next now : List ℕ) (place end : ℕ) → 1 ≤ place → place ≤ length next → LeadOn next → IsEnded next now place
    → end ≡ end_of now (unwrap_or (slice_get now (place - 1)) 0) place → IsEnded next (set now (place - 1) end) (place - 1)
IsEnded-step next now place end some most lead is is_end = record {
  sized = length-set now (place - 1) end ∙ is.sized;
  left = λ row some_row before. row_number-other now place row end some some_row (λ same. absurd (omega arith)) ∙ is.left row some_row (omega arith);
  ends = λ row behind within. elim (cases_lt place row) [
    | inl further ↦
        row_number-other now place row end some (omega arith) (λ same. absurd (omega arith))
        ∙ is.ends row further within
        ∙ sym (end-stays now place end (unwrap_or (slice_get next (row - 1)) 0) row some (elim (apart-of next lead row (omega arith) within) [
          | inl none ↦ inl none
          | inr more ↦ inr (let above : place < unwrap_or (slice_get next (row - 1)) 0 = omega arith in above)
        ]))
    | inr here ↦
        let same : row ≡ place = omega arith in
        let sized = is.sized in
        let own : unwrap_or (slice_get (set now (place - 1) end) (place - 1)) 0 ≡ end = row_number-own now place end (omega arith) in
        ap (λ n. unwrap_or (slice_get (set now (place - 1) end) (n - 1)) 0) same
        ∙ own
        ∙ is_end
        ∙ ap (λ n. end_of now n place) (is.left place some (omega arith))
        ∙ sym (end-stays now place end (unwrap_or (slice_get next (place - 1)) 0) place some (apart-of next lead place some most))
        ∙ sym (ap (λ n. end_of (set now (place - 1) end) (unwrap_or (slice_get next (n - 1)) 0) n) same)
  ];
}

-- the first rows up to one have become their ends
pub record AreEnded (first ends now : List ℕ) (place : ℕ) : Type 0 where
  pub sized : length now ≡ length first
  pub left : (row : ℕ) → place < row → row ≤ length first → unwrap_or (slice_get now (row - 1)) 0 ≡ unwrap_or (slice_get first (row - 1)) 0
  pub done : (row : ℕ) → 1 ≤ row → row ≤ place → unwrap_or (slice_get now (row - 1)) 0 ≡ end_of ends (unwrap_or (slice_get first (row - 1)) 0) 0
