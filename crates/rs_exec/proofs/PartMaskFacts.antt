-- The entries and the terms of a part of a plan of a block.
use Rattle.std.proofs.Common.{◌≡◌, ◌∙◌, ℕ, ◌-◌, ◌^◌, ◌<◌, ◌≤◌, ◌⊎◌, inl, inr, true, List, [], ◌∷◌, length, bit_and, bit_or, refl, sym, ap, subst, arith, pow_mono}
use Rattle.std.specs.Int.{bit_at}
use Rattle.std.specs.Int.Bits.{and_self}
use Rattle.std.specs.Prelude.{Some, slice_get}
use Rattle.std.proofs.lemmas.Bool.{cases_lt, eq-eqb, eqb-true}
use Rattle.std.proofs.lemmas.Nat.{or_lt}
use Rattle.std.proofs.lemmas.Nat.Bits.{bit_at-lt, bit_at-pow_other, bit_at-zero, bit_at_and, bit_at_or, same_from_bits}
use Rattle.std.proofs.lemmas.Option.{same_Some}
use Rattle.rs_order.proofs.EachFacts.{each-slice_get}
use Rattle.rs_rank.specs.Masks.{AreDisjoint, has_number, mask_of}
use Rattle.rs_catalog.specs.Catalog.{CatalogDef}
use Rattle.rs_query.specs.Meaning.{is_inside}
use Rattle.rs_query.specs.WellFormed.{IsBlock, IsTerm, argument_columns, entries_mask}
use Rattle.rs_query.specs.declared.block.Block.{Block}
use Rattle.rs_query.specs.declared.term.Term.{Term}
use Rattle.rs_query.proofs.LocalFacts.{columns-have}
use Rattle.rs_filter.proofs.AcrossFacts.{inside-left, inside-right}
use Rattle.rs_rank.specs.Weights.{IsWeights}
use Rattle.rs_rank.specs.declared.weights.Weights.{Weights}
use Rattle.rs_ripple.specs.Ripple.{CanJoin}
use Rattle.rs_plan.specs.Plans.{AreJoined, IsPart}
use Rattle.rs_exec.specs.Joining.{side_for}
use Rattle.rs_plan.specs.Trees.{Distinct, JoinOperator, Rank, RankScan, SeqScan, SetOperator, PlanTree, entries, terms}

-- the mask of an entry among six
mask-few : (entry most : ℕ) → 1 ≤ entry → entry ≤ most → most ≤ 6 → mask_of entry < 2 ^ 6
mask-few entry most some within few =
    let small : entry - 1 ≤ 5 = omega arith in
    let power : 2 ^ (entry - 1) ≤ 2 ^ 5 = pow_mono small in
    omega arith

-- the entries are among six
pub entries-few : (catalogue : CatalogDef) (block : Block) (tree : PlanTree) → length block.from ≤ 6 → IsPart catalogue block tree → entries tree < 2 ^ 6
entries-few catalogue block (SeqScan entry) few part = mask-few entry (length block.from) part.some part.most few
entries-few catalogue block (RankScan entry term index) few part = mask-few entry (length block.from) part.is_entry.some part.is_entry.most few
entries-few catalogue block (Rank term child) few part = entries-few catalogue block child few part.0
entries-few catalogue block (JoinOperator kind left right) few part =
    or_lt 6 (entries left) (entries right) (entries-few catalogue block left few part.0) (entries-few catalogue block right few part.1)
entries-few catalogue block (Distinct child) few part = entries-few catalogue block child few part.0
entries-few catalogue block (SetOperator left right) few part = absurd part

-- the block has a term at a place, all of whose entries are in a mask
pub record HasTerm (block : Block) (place mask : ℕ) : Type 0 where
  pub term : Term
  pub there : slice_get block.terms place ≡ Some term
  pub inside : is_inside term.entries mask ≡ true

wider-left : (block : Block) (place m n : ℕ) → HasTerm block place m → HasTerm block place (bit_or m n)
wider-left block place m n has = record { term = has.term; there = has.there; inside = inside-left has.term.entries m n has.inside }

wider-right : (block : Block) (place m n : ℕ) → HasTerm block place n → HasTerm block place (bit_or m n)
wider-right block place m n has = record { term = has.term; there = has.there; inside = inside-right has.term.entries m n has.inside }

-- a place in the mask of one term is that term's
pub of-mask : (term place : ℕ) → bit_at (mask_of term) place ≡ 1 → place ≡ term - 1
of-mask term place bit = elim (cases_lt place (term - 1)) [
  | inl below ↦ let none = bit_at-pow_other (term - 1) place (λ e. omega (arith, e, below)) in absurd (omega arith)
  | inr above ↦ elim (cases_lt (term - 1) place) [
    | inl over ↦ let none = bit_at-pow_other (term - 1) place (λ e. omega (arith, e, over)) in absurd (omega arith)
    | inr under ↦ omega arith
  ]
]

-- a place in one of two masks
pub in-either : (m n place : ℕ) → bit_at (bit_or m n) place ≡ 1 → (bit_at m place ≡ 1) ⊎ (bit_at n place ≡ 1)
in-either m n place bit =
    let both = bit_at_or m n place in
    let left = bit_at-lt m place in
    let right = bit_at-lt n place in
    elim (cases_lt 0 (bit_at m place)) [
      | inl some ↦ inl (omega arith)
      | inr none ↦ inr (omega arith)
    ]

-- each term that is evaluated is one of the block, and speaks of entries of the part alone
pub terms-inside : (catalogue : CatalogDef) (block : Block) (tree : PlanTree) → IsPart catalogue block tree → (place : ℕ) → bit_at (terms tree) place ≡ 1
    → HasTerm block place (entries tree)
terms-inside catalogue block (SeqScan entry) part place bit = let none = bit_at-zero place in absurd (omega arith)
terms-inside catalogue block (RankScan entry term index) part place bit =
    let at = of-mask term place bit in
    record {
      term = part.term;
      there = ap (λ n. slice_get block.terms n) at ∙ part.is_term.there;
      inside = eq-eqb (bit_and part.term.entries (mask_of entry)) part.term.entries
          (ap (λ n. bit_and n (mask_of entry)) part.alone ∙ and_self (mask_of entry) ∙ sym part.alone);
    }
terms-inside catalogue block (Rank term child) part place bit = elim (in-either (terms child) (mask_of term) place bit) [
  | inl below ↦ terms-inside catalogue block child part.0 place below
  | inr own ↦ record {
    term = part.1.term;
    there = ap (λ n. slice_get block.terms n) (of-mask term place own) ∙ part.1.is_term.there;
    inside = part.1.there;
  }
]
terms-inside catalogue block (JoinOperator kind left right) part place bit = elim (in-either (terms left) (terms right) place bit) [
  | inl first ↦ wider-left block place (entries left) (entries right) (terms-inside catalogue block left part.0 place first)
  | inr second ↦ wider-right block place (entries left) (entries right) (terms-inside catalogue block right part.1 place second)
]
terms-inside catalogue block (Distinct child) part place bit = terms-inside catalogue block child part.0 place bit
terms-inside catalogue block (SetOperator left right) part place bit = absurd part

-- a number in two masks that share none
in-both : (m n number : ℕ) → AreDisjoint m n → has_number m number ≡ true → has_number n number ≡ true → ⊥
in-both m n number apart left right =
    let l : bit_at m (number - 1) ≡ 1 = eqb-true (bit_at m (number - 1)) 1 left in
    let r : bit_at n (number - 1) ≡ 1 = eqb-true (bit_at n (number - 1)) 1 right in
    let both = bit_at_and m n (number - 1) in
    let none : bit_at (bit_and m n) (number - 1) ≡ 0 = ap (λ k. bit_at k (number - 1)) apart ∙ bit_at-zero (number - 1) in
    omega arith

-- a term has a column, so not all its entries are in each of two masks that share none
not-in-both : (catalogue : CatalogDef) (block : Block) (term : Term) (m n : ℕ) → IsTerm catalogue block term → AreDisjoint m n
    → is_inside term.entries m ≡ true → is_inside term.entries n ≡ true → ⊥
not-in-both catalogue block term m n is apart left right =
    go (argument_columns term.args) is.some_column
    (subst (λ entries. is_inside entries m ≡ true) is.entries left) (subst (λ entries. is_inside entries n ≡ true) is.entries right)
  where
    go : (columns : List (ℕ × ℕ)) → 1 ≤ length columns → is_inside (entries_mask columns) m ≡ true → is_inside (entries_mask columns) n ≡ true → ⊥
    go [] some l r = absurd (omega arith)
    go (column ∷ columns) some l r =
        in-both m n column.0 apart (columns-have (column ∷ columns) m l column (inl refl)) (columns-have (column ∷ columns) n r column (inl refl))

-- two parts that share no entry evaluate no term both
pub terms-apart : (catalogue : CatalogDef) (block : Block) (left right : PlanTree) → IsBlock catalogue block → IsPart catalogue block left → IsPart catalogue block right
    → AreDisjoint (entries left) (entries right) → AreDisjoint (terms left) (terms right)
terms-apart catalogue block left right formed l r apart = same_from_bits (bit_and (terms left) (terms right)) 0 (λ place.
    let both = bit_at_and (terms left) (terms right) place in
    let zero = bit_at-zero place in
    let first = bit_at-lt (terms left) place in
    let second = bit_at-lt (terms right) place in
    elim (cases_lt 0 (bit_at (terms left) place)) [
      | inl some ↦ elim (cases_lt 0 (bit_at (terms right) place)) [
        | inl other ↦
            let on_left = terms-inside catalogue block left l place (omega arith) in
            let on_right = terms-inside catalogue block right r place (omega arith) in
            let same = same_Some on_right.term on_left.term (sym {b = Some on_right.term} on_right.there ∙ on_left.there) in
            let is = each-slice_get (IsTerm catalogue block) block.terms place on_left.term formed.terms on_left.there in
            absurd (not-in-both catalogue block on_left.term (entries left) (entries right) is apart on_left.inside
            (subst (λ (term : Term). is_inside term.entries (entries right) ≡ true) same on_right.inside))
        | inr none ↦ omega arith
      ]
      | inr none ↦ omega arith
    ])

-- so they are two sides that can be joined
pub can-join : (catalogue : CatalogDef) (block : Block) (weights : Weights) (left right : PlanTree) → IsBlock catalogue block → IsPart catalogue block left → IsPart catalogue block right
    → AreJoined left right → IsWeights weights → CanJoin weights (side_for left) (side_for right)
can-join catalogue block weights left right formed l r joined limits = record {
  limits = limits;
  left_entries = entries-few catalogue block left formed.most_entries l;
  right_entries = entries-few catalogue block right formed.most_entries r;
  entries = joined.apart;
  terms = terms-apart catalogue block left right formed l r joined.apart;
}
