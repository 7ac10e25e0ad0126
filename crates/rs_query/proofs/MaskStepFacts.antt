-- One more entry in a mask, and a row for it.
use Rattle.std.proofs.Common.{ℕ, zero, suc, ◌≡◌, ◌∙◌, ◌+◌, ◌-◌, ◌/◌, ◌%◌, ◌^◌, ◌<◌, ◌≤◌, ◌⊎◌, Bool, true, false, eqb, max, List, [], ◌∷◌, length, get_or, set, refl, sym, ap, subst, inl, inr, bit_and, bit_or, arith, mod-lt}
use Rattle.std.specs.Int.{bit_at}
use Rattle.std.specs.Int.Bits.{or_zero_r}
use Rattle.std.proofs.lemmas.Bool.{cases_eq, cases_lt, eq-eqb, eqb-false, eqb-true}
use Rattle.std.proofs.lemmas.List.{get_or-set_other, get_or-set_same}
use Rattle.std.proofs.lemmas.Nat.{le_or_l, or_lt, pow_below}
use Rattle.std.proofs.lemmas.Nat.Bits.{bit_at-lt, bit_at-pow_other, bit_at-pow_same, bit_at-suc, bit_at_above, bit_at_and, bit_at_lowest, bit_at_ones, bit_at_ones_above, bit_at_or, same_from_bits}
use Rattle.std.proofs.lemmas.Option.{unwrap_or-slice_get}
use Rattle.rs_rank.specs.Masks.{has_number, mask_of}
use Rattle.rs_rank.proofs.MaskFacts.{bit_or-first, bit_or-others, even-power, half-power}
use Rattle.rs_query.specs.Choices.{IsChoice, IsRowNumber}
use Rattle.rs_query.specs.Meaning.{is_inside}
use Rattle.rs_query.specs.Tables.{row_number}

-- a mask with one number more has the others too
pub has-more : (mask number other : ℕ) → has_number mask other ≡ true → has_number (bit_or mask (mask_of number)) other ≡ true
has-more mask number other has =
    let bit : bit_at mask (other - 1) ≡ 1 = eqb-true (bit_at mask (other - 1)) 1 has in
    let either = bit_at_or mask (mask_of number) (other - 1) in
    let small = bit_at-lt (mask_of number) (other - 1) in
    eq-eqb (bit_at (bit_or mask (mask_of number)) (other - 1)) 1 (omega arith)

-- and this one
pub has-own : (mask number : ℕ) → has_number (bit_or mask (mask_of number)) number ≡ true
has-own mask number =
    let either = bit_at_or mask (mask_of number) (number - 1) in
    let own = bit_at-pow_same (number - 1) in
    let small = bit_at-lt mask (number - 1) in
    eq-eqb (bit_at (bit_or mask (mask_of number)) (number - 1)) 1 (omega arith)

-- and no more
pub has-back : (mask number other : ℕ) → 1 ≤ number → 1 ≤ other → has_number (bit_or mask (mask_of number)) other ≡ true → (other ≡ number) ⊎ (has_number mask other ≡ true)
has-back mask number other some some_other has = elim (cases_eq (other - 1) (number - 1)) [
  | inl e ↦ inl (omega arith)
  | inr differ ↦
      let bit : bit_at (bit_or mask (mask_of number)) (other - 1) ≡ 1 = eqb-true (bit_at (bit_or mask (mask_of number)) (other - 1)) 1 has in
      let either = bit_at_or mask (mask_of number) (other - 1) in
      let none = bit_at-pow_other (number - 1) (other - 1) differ in
      inr (eq-eqb (bit_at mask (other - 1)) 1 (omega arith))
]

-- and what was inside it stays so
pub is_inside-more : (mask other entries : ℕ) → is_inside entries mask ≡ true → is_inside entries (bit_or mask other) ≡ true
is_inside-more mask other entries inside =
    eq-eqb (bit_and entries (bit_or mask other)) entries
    (same_from_bits (bit_and entries (bit_or mask other)) entries (λ i.
    let whole = ap (λ n. bit_at n i) (eqb-true (bit_and entries mask) entries inside) in
    let before = bit_at_and entries mask i in
    let now = bit_at_and entries (bit_or mask other) i in
    let either = bit_at_or mask other i in
    omega arith))

-- no number is in no mask
pub has-none : (number : ℕ) → has_number 0 number ≡ true → ⊥
has-none number has =
    let bit : bit_at 0 (number - 1) ≡ 1 = eqb-true (bit_at 0 (number - 1)) 1 has in
    let none = bit_at_above 0 0 (number - 1) (let some : 0 < 2 ^ 0 = omega arith in some) (omega arith) in
    omega arith

-- the mask of a number has that number alone
pub own-number : (number other : ℕ) → 1 ≤ number → 1 ≤ other → has_number (mask_of number) other ≡ true → other ≡ number
own-number number other some some_other has = elim (has-back 0 number other some some_other has) [
  | inl e ↦ e
  | inr none ↦ absurd (has-none other none)
]

-- the numbers up to one
pub has-up_to : (count number : ℕ) → 1 ≤ number → number ≤ count → has_number (2 ^ count - 1) number ≡ true
has-up_to count number some most = eq-eqb (bit_at (2 ^ count - 1) (number - 1)) 1 (bit_at_ones count (number - 1) (omega arith))

pub has-up_to-back : (count number : ℕ) → 1 ≤ number → has_number (2 ^ count - 1) number ≡ true → number ≤ count
has-up_to-back count number some has = elim (cases_le number count) [
  | inl within ↦ within
  | inr beyond ↦
      let bit : bit_at (2 ^ count - 1) (number - 1) ≡ 1 = eqb-true (bit_at (2 ^ count - 1) (number - 1)) 1 has in
      let none = bit_at_ones_above count (number - 1) (omega arith) in
      absurd (omega arith)
]
  where
    cases_le : (m n : ℕ) → (m ≤ n) ⊎ (n < m)
    cases_le m n = elim (cases_lt n m) [ inl less ↦ inr less | inr le ↦ inl le ]

-- a mask of numbers up to one that has all of them
pub all-numbers : (mask count : ℕ) → mask < 2 ^ count → ((number : ℕ) → 1 ≤ number → number ≤ count → has_number mask number ≡ true) → mask ≡ 2 ^ count - 1
all-numbers mask count below has = same_from_bits mask (2 ^ count - 1) bits where
  bits : (i : ℕ) → bit_at mask i ≡ bit_at (2 ^ count - 1) i
  bits i = elim (cases_lt i count) [
    | inl within ↦
        let number : i + 1 - 1 ≡ i = omega arith in
        eqb-true (bit_at mask i) 1 (subst (λ j. eqb (bit_at mask j) 1 ≡ true) number (has (i + 1) (omega arith) (omega arith))) ∙ sym (bit_at_ones count i within)
    | inr beyond ↦ bit_at_above mask count i below beyond ∙ sym (bit_at_ones_above count i beyond)
  ]

-- a mask with a new number is greater
pub grows : (mask number : ℕ) → has_number mask number ≡ false → mask < bit_or mask (mask_of number)
grows mask number is_new =
    let le = le_or_l mask (mask_of number) in
    elim (cases_eq mask (bit_or mask (mask_of number))) [
      | inl same ↦
          let old = ap (λ m. bit_at m (number - 1)) same in
          let new = eqb-true (bit_at (bit_or mask (mask_of number)) (number - 1)) 1 (has-own mask number) in
          absurd (eqb-false (bit_at mask (number - 1)) 1 is_new (old ∙ new))
      | inr differ ↦ omega arith
    ]

pub stays-below : (mask number count : ℕ) → mask < 2 ^ count → 1 ≤ number → number ≤ count → bit_or mask (mask_of number) < 2 ^ count
stays-below mask number count below some most = or_lt count mask (mask_of number) below (pow_below (number - 1) count (omega arith))

-- the row of an entry that was set, and those of the others
pub row_number-own : (rows : List ℕ) (entry row : ℕ) → entry - 1 < length rows → row_number (set rows (entry - 1) row) entry ≡ row
row_number-own rows entry row within = unwrap_or-slice_get (set rows (entry - 1) row) (entry - 1) 0 ∙ get_or-set_same rows (entry - 1) row 0 within

pub row_number-other : (rows : List ℕ) (entry other row : ℕ) → 1 ≤ entry → 1 ≤ other → (other ≡ entry → ⊥) → row_number (set rows (entry - 1) row) other ≡ row_number rows other
row_number-other rows entry other row some some_other differ =
    unwrap_or-slice_get (set rows (entry - 1) row) (other - 1) 0
    ∙ get_or-set_other rows (entry - 1) (other - 1) row 0 (λ e. differ (omega arith))
    ∙ sym (unwrap_or-slice_get rows (other - 1) 0)

-- a choice with a row of one entry more
pub IsChoice-set : (i mask : ℕ) (sizes rows : List ℕ) (row : ℕ) → IsChoice mask sizes rows → i < length sizes → 1 ≤ row → row ≤ get_or sizes i 0
    → IsChoice (bit_or mask (2 ^ i)) sizes (set rows i row)
IsChoice-set i mask [] rows row is within some most = absurd (omega arith)
IsChoice-set i mask (size ∷ sizes) [] row is within some most = absurd is
IsChoice-set zero mask (size ∷ sizes) (first ∷ rows) row is within some most =
    let digit = bit_or-first mask (2 ^ 0) in
    let small : mask % 2 < 2 = mod-lt mask (omega arith) in
    let inside : bit_or mask (2 ^ 0) % 2 ≡ 1 = omega arith in
    let half : bit_or mask (2 ^ 0) / 2 ≡ mask / 2 = bit_or-others mask (2 ^ 0) ∙ or_zero_r (mask / 2) in (
      subst (λ d. IsRowNumber (eqb d 0) size row) (sym inside) (some, most),
      subst (λ m. IsChoice m sizes rows) (sym half) is.1,
    )
IsChoice-set (suc i) mask (size ∷ sizes) (first ∷ rows) row is within some most =
    let even = even-power i in
    let digit : bit_or mask (2 ^ suc i) % 2 ≡ mask % 2 = bit_or-first mask (2 ^ suc i) ∙ ap (max (mask % 2)) even ∙ (let same : max (mask % 2) 0 ≡ mask % 2 = omega arith in same) in
    let half : bit_or mask (2 ^ suc i) / 2 ≡ bit_or (mask / 2) (2 ^ i) = bit_or-others mask (2 ^ suc i) ∙ ap (bit_or (mask / 2)) (half-power i) in (
      subst (λ d. IsRowNumber (eqb d 0) size first) (sym digit) is.0,
      subst (λ m. IsChoice m sizes (set rows i row)) (sym half) (IsChoice-set i (mask / 2) sizes rows row is.1 (omega arith) some most),
    )

-- two choices that agree on the entries in their mask are one
pub IsChoice-only : (mask : ℕ) (sizes xs ys : List ℕ) → IsChoice mask sizes xs → IsChoice mask sizes ys → ((i : ℕ) → bit_at mask i ≡ 1 → get_or xs i 0 ≡ get_or ys i 0) → xs ≡ ys
IsChoice-only mask [] [] [] a b same = refl
IsChoice-only mask [] (x ∷ xs) ys a b same = absurd a
IsChoice-only mask [] [] (y ∷ ys) a b same = absurd b
IsChoice-only mask (size ∷ sizes) [] ys a b same = absurd a
IsChoice-only mask (size ∷ sizes) (x ∷ xs) [] a b same = absurd b
IsChoice-only mask (size ∷ sizes) (x ∷ xs) (y ∷ ys) a b same =
    let first : x ≡ y = head (eqb (mask % 2) 0) refl a.0 b.0 in
    let others : xs ≡ ys = IsChoice-only (mask / 2) sizes xs ys a.1 b.1 (λ i bit. same (suc i) (bit_at-suc mask i ∙ bit)) in
    ap (λ z. z ∷ xs) first ∙ ap (λ zs. y ∷ zs) others
  where
    head : (out : Bool) → eqb (mask % 2) 0 ≡ out → IsRowNumber out size x → IsRowNumber out size y → x ≡ y
    head true e p q = p ∙ sym q
    head false e p q =
        let some = eqb-false (mask % 2) 0 e in
        let small : mask % 2 < 2 = mod-lt mask (omega arith) in
        let odd : mask % 2 ≡ 1 = elim (cases_eq (mask % 2) 0) [ inl none ↦ absurd (some none) | inr differ ↦ omega arith ] in
        same 0 (bit_at_lowest mask ∙ odd)

-- an entry outside the mask has no row
pub IsChoice-outside : (i mask : ℕ) (sizes rows : List ℕ) → IsChoice mask sizes rows → bit_at mask i ≡ 0 → get_or rows i 0 ≡ 0
IsChoice-outside i mask [] [] is out = refl
IsChoice-outside i mask [] (row ∷ rows) is out = absurd is
IsChoice-outside i mask (size ∷ sizes) [] is out = absurd is
IsChoice-outside zero mask (size ∷ sizes) (row ∷ rows) is out =
    subst (λ d. IsRowNumber (eqb d 0) size row) (sym (bit_at_lowest mask) ∙ out) is.0
IsChoice-outside (suc i) mask (size ∷ sizes) (row ∷ rows) is out = IsChoice-outside i (mask / 2) sizes rows is.1 (sym (bit_at-suc mask i) ∙ out)
