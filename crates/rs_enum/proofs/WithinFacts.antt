-- The terms that a part of a plan evaluates speak of its entries alone. So two sides of a join share no term, and which terms a side
-- evaluates follows from its entries and from the terms of both.
use Rattle.std.proofs.Common.{◌≡◌, ℕ, zero, suc, ◌+◌, ◌-◌, ◌*◌, ◌/◌, ◌%◌, ◌^◌, ◌<◌, ◌≤◌, min, ◌==◌, Bool, false, true, ◌&&◌, cond, List, [], ◌∷◌, length, refl, sym, ◌∙◌, ap, subst, arith, bit_and, bit_or}
use Rattle.std.specs.Prelude.{Some, slice_get}
use Rattle.std.specs.Int.{bit_at}
use Rattle.std.specs.Int.Bits.{and_self, and_step}
use Rattle.std.specs.List.{AllByRecursion}
use Rattle.std.proofs.lemmas.Bool.{eq-eqb, eqb-true}
use Rattle.std.proofs.lemmas.Nat.{and_le_r, le_or_l, or_comm, or_lt, pow_below, pow_pos}
use Rattle.std.proofs.lemmas.Nat.Bits.{bit_at-lt, bit_at-suc, bit_at_lowest}
use Rattle.std.proofs.lemmas.Option.{none-some, same_Some}
use Rattle.std.proofs.Math.Nat.{pow-suc}
use Rattle.rs_rank.specs.Masks.{AreDisjoint, mask_of}
use Rattle.rs_catalog.specs.Catalog.{CatalogDef}
use Rattle.rs_query.specs.Meaning.{is_inside}
use Rattle.rs_query.specs.WellFormed.{IsBlock, IsTerm, argument_columns, entries_mask}
use Rattle.rs_query.specs.declared.block.Block.{Block}
use Rattle.rs_query.specs.declared.term.Term.{Term}
use Rattle.rs_plan.specs.Plans.{IsEntryNumber, IsPart}
use Rattle.rs_plan.specs.Trees.{Distinct, JoinOperator, PlanTree, Rank, RankScan, SeqScan, SetOperator, entries, terms}
use Rattle.rs_enum.specs.Within.{terms_within}
use Rattle.rs_enum.proofs.BitFacts.{inside-bit, inside-inside, inside-union-left, inside-union-right, kept-of-union, number-inside, part-apart-from, parts-apart, union-inside, apart-back}

-- a mask by its first bit and the others
first-bit : (b : Bool) (n : ℕ) → (cond b 1 0 + 2 * n) % 2 ≡ cond b 1 0
first-bit true n = omega arith
first-bit false n = omega arith

other-bits : (b : Bool) (n : ℕ) → (cond b 1 0 + 2 * n) / 2 ≡ n
other-bits true n = omega arith
other-bits false n = omega arith

joined-bits : (b c : Bool) (n : ℕ) → n * 2 + min (cond b 1 0) (cond c 1 0) ≡ cond (b && c) 1 0 + 2 * n
joined-bits true true n = omega arith
joined-bits true false n = omega arith
joined-bits false true n = omega arith
joined-bits false false n = omega arith

common : (b c : Bool) (x y : ℕ) → bit_and (cond b 1 0 + 2 * x) (cond c 1 0 + 2 * y) ≡ cond (b && c) 1 0 + 2 * bit_and x y
common b c x y =
    and_step (cond b 1 0 + 2 * x) (cond c 1 0 + 2 * y)
    ∙ (λ at. bit_and (other-bits b x at) (other-bits c y at) * 2 + min (first-bit b x at) (first-bit c y at))
    ∙ joined-bits b c (bit_and x y)

is_inside-is : (part whole : ℕ) → is_inside part whole ≡ true → bit_and part whole ≡ part
is_inside-is part whole inside = eqb-true (bit_and part whole) part inside

is_inside-from : (part whole : ℕ) → bit_and part whole ≡ part → is_inside part whole ≡ true
is_inside-from part whole inside = eq-eqb (bit_and part whole) part inside

-- what is in a part of a mask is in the mask
inside-more : (e part whole : ℕ) → bit_and part whole ≡ part → (b c : Bool) → is_inside e part ≡ b → is_inside e whole ≡ c → (b && c) ≡ b
inside-more e part whole inside true true first second = refl
inside-more e part whole inside true false first second =
    sym second ∙ is_inside-from e whole (inside-inside e part whole (is_inside-is e part first) inside)
inside-more e part whole inside false c first second = refl

-- some entries aren't in two masks that are apart
inside-neither : (e left right : ℕ) → 1 ≤ e → bit_and left right ≡ 0 → (b c : Bool) → is_inside e left ≡ b → is_inside e right ≡ c → (b && c) ≡ false
inside-neither e left right some apart true true first second =
    let none : bit_and e e ≡ 0 = parts-apart e e left right (is_inside-is e left first) (is_inside-is e right second) apart in
    absurd (let own = and_self e in omega arith)
inside-neither e left right some apart true false first second = refl
inside-neither e left right some apart false c first second = refl

bit-below : (b : Bool) → cond b 1 0 < 2
bit-below true = omega arith
bit-below false = omega arith

pub terms_within-below : (mask : ℕ) (ts : List Term) → terms_within mask ts < 2 ^ length ts
terms_within-below mask [] = omega arith
terms_within-below mask (t ∷ ts) =
    let first = bit-below (is_inside t.entries mask) in
    let rest = terms_within-below mask ts in
    let power = pow-suc 2 (length ts) in
    omega arith

-- a term whose entries are in the mask is among them
pub terms_within-has : (mask : ℕ) (ts : List Term) (i : ℕ) (term : Term) → slice_get ts i ≡ Some term → is_inside term.entries mask ≡ true
    → bit_at (terms_within mask ts) i ≡ 1
terms_within-has mask [] i term there inside = absurd (none-some term there)
terms_within-has mask (t ∷ ts) zero term there inside =
    let same : t ≡ term = same_Some t term there in
    let b : is_inside t.entries mask ≡ true = ap (λ (x : Term). is_inside x.entries mask) same ∙ inside in
    bit_at_lowest (terms_within mask (t ∷ ts)) ∙ first-bit (is_inside t.entries mask) (terms_within mask ts) ∙ ap (λ c. cond c 1 0) b
terms_within-has mask (t ∷ ts) (suc i) term there inside =
    bit_at-suc (terms_within mask (t ∷ ts)) i ∙ ap (λ n. bit_at n i) (other-bits (is_inside t.entries mask) (terms_within mask ts))
    ∙ terms_within-has mask ts i term there inside

-- and no others are
has-first : (b : Bool) → ◌≡◌ {A = ℕ} (cond b 1 0) 1 → b ≡ true
has-first true e = refl
has-first false e = absurd (let none : ◌≡◌ {A = ℕ} 0 1 = e in omega arith)

within-only : (mask : ℕ) (ts : List Term) (i : ℕ) (term : Term) → slice_get ts i ≡ Some term → bit_at (terms_within mask ts) i ≡ 1
    → is_inside term.entries mask ≡ true
within-only mask [] i term there has = absurd (none-some term there)
within-only mask (t ∷ ts) zero term there has =
    let same : t ≡ term = same_Some t term there in
    ap (λ (x : Term). is_inside x.entries mask) (sym same)
    ∙ has-first (is_inside t.entries mask)
    (sym (bit_at_lowest (terms_within mask (t ∷ ts)) ∙ first-bit (is_inside t.entries mask) (terms_within mask ts)) ∙ has)
within-only mask (t ∷ ts) (suc i) term there has =
    within-only mask ts i term there
    (sym (bit_at-suc (terms_within mask (t ∷ ts)) i ∙ ap (λ n. bit_at n i) (other-bits (is_inside t.entries mask) (terms_within mask ts))) ∙ has)

pub terms_within-only : (mask : ℕ) (ts : List Term) (evaluated i : ℕ) (term : Term) → bit_and evaluated (terms_within mask ts) ≡ evaluated
    → slice_get ts i ≡ Some term → bit_at evaluated i ≡ 1 → is_inside term.entries mask ≡ true
terms_within-only mask ts evaluated i term inside there has =
    within-only mask ts i term there (let both = inside-bit evaluated (terms_within mask ts) i inside in let less = bit_at-lt (terms_within mask ts) i in omega arith)

-- the terms of a part of a mask are among those of the mask
pub terms_within-more : (part whole : ℕ) (ts : List Term) → bit_and part whole ≡ part → bit_and (terms_within part ts) (terms_within whole ts) ≡ terms_within part ts
terms_within-more part whole [] inside = refl
terms_within-more part whole (t ∷ ts) inside =
    common (is_inside t.entries part) (is_inside t.entries whole) (terms_within part ts) (terms_within whole ts)
    ∙ (λ at. cond (inside-more t.entries part whole inside (is_inside t.entries part) (is_inside t.entries whole) refl refl at) 1 0
    + 2 * terms_within-more part whole ts inside at)

-- masks that are apart have no terms in common, where each term has an entry
pub terms_within-apart : (left right : ℕ) (ts : List Term) → AllByRecursion (λ (t : Term). 1 ≤ t.entries) ts → bit_and left right ≡ 0
    → bit_and (terms_within left ts) (terms_within right ts) ≡ 0
terms_within-apart left right [] some apart = refl
terms_within-apart left right (t ∷ ts) some apart =
    common (is_inside t.entries left) (is_inside t.entries right) (terms_within left ts) (terms_within right ts)
    ∙ (λ at. cond (inside-neither t.entries left right some.0 apart (is_inside t.entries left) (is_inside t.entries right) refl refl at) 1 0
    + 2 * terms_within-apart left right ts some.1 apart at)

-- columns have entries
some-columns : (columns : List (ℕ × ℕ)) → 1 ≤ length columns → 1 ≤ entries_mask columns
some-columns [] some = absurd (omega arith)
some-columns (column ∷ columns) some =
    let own : 0 < mask_of column.0 = pow_pos (column.0 - 1) in
    let most = le_or_l (mask_of column.0) (entries_mask columns) in
    omega arith

entry-below : (block : Block) (e : ℕ) → IsEntryNumber block e → mask_of e < 2 ^ length block.from
entry-below block e is =
    let some = is.some in
    let most = is.most in
    pow_below (e - 1) (length block.from) (omega arith)

of-sides : (block : Block) (l r : PlanTree) → bit_and (terms l) (terms_within (entries l) block.terms) ≡ terms l
    → bit_and (terms r) (terms_within (entries r) block.terms) ≡ terms r
    → bit_and (bit_or (terms l) (terms r)) (terms_within (bit_or (entries l) (entries r)) block.terms) ≡ bit_or (terms l) (terms r)
of-sides block l r left right =
    let both = terms_within (bit_or (entries l) (entries r)) block.terms in
    union-inside (terms l) (terms r) both
    (inside-inside (terms l) (terms_within (entries l) block.terms) both left
    (terms_within-more (entries l) (bit_or (entries l) (entries r)) block.terms (inside-union-left (entries l) (entries r))))
    (inside-inside (terms r) (terms_within (entries r) block.terms) both right
    (terms_within-more (entries r) (bit_or (entries l) (entries r)) block.terms (inside-union-right (entries l) (entries r))))

module _ (catalogue : CatalogDef) (block : Block) where
  some-entries : (ts : List Term) → AllByRecursion (IsTerm catalogue block) ts → AllByRecursion (λ (t : Term). 1 ≤ t.entries) ts
  some-entries [] are = tt
  some-entries (t ∷ ts) are = (
    subst (λ n. 1 ≤ n) (sym are.0.entries) (some-columns (argument_columns t.args) are.0.some_column),
    some-entries ts are.1,
  )

  -- the terms of a part speak of its entries alone
  pub terms-within : (tree : PlanTree) → IsPart catalogue block tree → bit_and (terms tree) (terms_within (entries tree) block.terms) ≡ terms tree
  terms-within (SeqScan e) is = refl
  terms-within (RankScan e t i) is =
      number-inside (terms_within (mask_of e) block.terms) t (ap (λ n. n == 1)
      (terms_within-has (mask_of e) block.terms (t - 1) is.term is.is_term.there
      (is_inside-from is.term.entries (mask_of e) (ap (λ n. bit_and n (mask_of e)) is.alone ∙ and_self (mask_of e) ∙ sym is.alone))))
  terms-within (Rank t child) is =
      union-inside (terms child) (mask_of t) (terms_within (entries child) block.terms) (terms-within child is.0)
      (number-inside (terms_within (entries child) block.terms) t (ap (λ n. n == 1)
      (terms_within-has (entries child) block.terms (t - 1) is.1.term is.1.is_term.there is.1.there)))
  terms-within (JoinOperator kind l r) is = of-sides block l r (terms-within l is.0) (terms-within r is.1)
  terms-within (Distinct child) is = terms-within child is.0
  terms-within (SetOperator l r) is = absurd is

  pub entries-below : (tree : PlanTree) → IsPart catalogue block tree → entries tree < 2 ^ length block.from
  entries-below (SeqScan e) is = entry-below block e is
  entries-below (RankScan e t i) is = entry-below block e is.is_entry
  entries-below (Rank t child) is = entries-below child is.0
  entries-below (JoinOperator kind l r) is = or_lt (length block.from) (entries l) (entries r) (entries-below l is.0) (entries-below r is.1)
  entries-below (Distinct child) is = entries-below child is.0
  entries-below (SetOperator l r) is = absurd is

  pub some-entry : (tree : PlanTree) → IsPart catalogue block tree → 1 ≤ entries tree
  some-entry (SeqScan e) is = pow_pos (e - 1)
  some-entry (RankScan e t i) is = pow_pos (e - 1)
  some-entry (Rank t child) is = some-entry child is.0
  some-entry (JoinOperator kind l r) is = let own = some-entry l is.0 in let most = le_or_l (entries l) (entries r) in omega arith
  some-entry (Distinct child) is = some-entry child is.0
  some-entry (SetOperator l r) is = absurd is

  pub terms-below : (tree : PlanTree) → IsPart catalogue block tree → terms tree < 2 ^ length block.terms
  terms-below tree is =
      let inside = terms-within tree is in
      let most = and_le_r (terms tree) (terms_within (entries tree) block.terms) in
      let below = terms_within-below (entries tree) block.terms in
      omega arith

  -- sides of a join share no term
  pub sides-apart : IsBlock catalogue block → (l r : PlanTree) → IsPart catalogue block l → IsPart catalogue block r → AreDisjoint (entries l) (entries r)
      → bit_and (terms l) (terms r) ≡ 0
  sides-apart formed l r is_l is_r apart =
      parts-apart (terms l) (terms r) (terms_within (entries l) block.terms) (terms_within (entries r) block.terms)
      (terms-within l is_l) (terms-within r is_r)
      (terms_within-apart (entries l) (entries r) block.terms (some-entries block.terms formed.terms) apart)

  -- of the terms of both sides, the left side evaluates those that speak of its entries alone
  pub left-terms : IsBlock catalogue block → (l r : PlanTree) → IsPart catalogue block l → IsPart catalogue block r → AreDisjoint (entries l) (entries r)
      → bit_and (bit_or (terms l) (terms r)) (terms_within (entries l) block.terms) ≡ terms l
  left-terms formed l r is_l is_r apart =
      kept-of-union (terms l) (terms r) (terms_within (entries l) block.terms) (terms-within l is_l)
      (part-apart-from (terms r) (terms_within (entries l) block.terms) (terms_within (entries r) block.terms) (terms-within r is_r)
      (terms_within-apart (entries l) (entries r) block.terms (some-entries block.terms formed.terms) apart))

  pub right-terms : IsBlock catalogue block → (l r : PlanTree) → IsPart catalogue block l → IsPart catalogue block r → AreDisjoint (entries l) (entries r)
      → bit_and (bit_or (terms l) (terms r)) (terms_within (entries r) block.terms) ≡ terms r
  right-terms formed l r is_l is_r apart =
      ap (λ m. bit_and m (terms_within (entries r) block.terms)) (or_comm (terms l) (terms r))
      ∙ left-terms formed r l is_r is_l (apart-back (entries l) (entries r) apart)
