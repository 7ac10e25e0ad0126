-- Every query has a plan: joins of scans, one entry after another, and operators for the terms above, one after another.
use Rattle.std.proofs.Common.{◌≡◌, ℕ, zero, suc, ◌-◌, ◌*◌, ◌^◌, ◌<◌, ◌≤◌, ◌==◌, Bool, false, true, length, inl, inr, refl, sym, ◌∙◌, ap, arith, bit_and, bit_or}
use Rattle.std.specs.Prelude.{◌/◌, ◌%◌, Option, slice_get}
use Rattle.std.proofs.lemmas.Nat.{pow_pos}
use Rattle.std.proofs.lemmas.Nat.Bits.{and_pow, bit_at_ones_above}
use Rattle.std.proofs.lemmas.Option.{slice_get_cases}
use Rattle.std.proofs.Math.Nat.{pow-suc}
use Rattle.rs_order.proofs.EachFacts.{each-slice_get}
use Rattle.rs_catalog.specs.Catalog.{CatalogDef}
use Rattle.rs_rank.specs.Masks.{has_number, mask_of}
use Rattle.rs_query.specs.Meaning.{is_inside}
use Rattle.rs_query.specs.Tables.{all_entries}
use Rattle.rs_query.specs.WellFormed.{IsBlock, IsQuery}
use Rattle.rs_query.specs.declared.block.Block.{Block}
use Rattle.rs_query.specs.declared.query.Query.{Query}
use Rattle.rs_query.specs.declared.query.Query.TheVariants.{One, Set}
use Rattle.rs_query.specs.declared.term.Term.{Term}
use Rattle.rs_query.proofs.EntryFacts.{terms-inside}
use Rattle.rs_plan.specs.Plans.{HasNoDistinct, IsComplete, IsPart, IsPlan, IsRank, IsSetPlan}
use Rattle.rs_plan.specs.Trees.{Distinct, JoinOperator, Nested, PlanTree, Rank, SeqScan, SetOperator, entries, terms}
use Rattle.rs_enum.proofs.BitFacts.{union-sum}

-- the first this many numbers, and one more
number-power : (n : ℕ) → mask_of (suc n) ≡ 2 ^ n
number-power n = let place : suc n - 1 ≡ n = omega arith in ap (λ k. 2 ^ k) place

first-apart : (n : ℕ) → bit_and (2 ^ n - 1) (2 ^ n) ≡ 0
first-apart n = and_pow (2 ^ n - 1) n ∙ ap (λ b. b * 2 ^ n) (bit_at_ones_above n n (omega arith)) ∙ (omega arith)

one-more : (n : ℕ) → bit_or (2 ^ n - 1) (2 ^ n) ≡ 2 ^ suc n - 1
one-more n =
    let sum = union-sum (2 ^ n - 1) (2 ^ n) (first-apart n) in
    let power = pow-suc 2 n in
    let some : 0 < 2 ^ n = pow_pos n in
    omega arith

not-yet : (n : ℕ) → has_number (2 ^ n - 1) (suc n) ≡ false
not-yet n =
    let place : suc n - 1 ≡ n = omega arith in
    ap (λ k. (2 ^ n - 1) / 2 ^ k % 2 == 1) place ∙ ap (λ b. b == 1) (bit_at_ones_above n n (omega arith))

-- the scans of the first entries, joined one after another
left_deep : ℕ → PlanTree
left_deep zero = SeqScan 1
left_deep (suc n) = JoinOperator Nested (left_deep n) (SeqScan (suc (suc n)))

-- duplicates are dropped above them, or not
based : Bool → PlanTree → PlanTree
based true tree = Distinct tree
based false tree = tree

-- operators for the first terms
ranked : ℕ → PlanTree → PlanTree
ranked zero tree = tree
ranked (suc n) tree = Rank (suc n) (ranked n tree)

entries-left_deep : (n : ℕ) → entries (left_deep n) ≡ 2 ^ suc n - 1
unfolding left_deep
entries-left_deep zero = refl
entries-left_deep (suc n) =
    (λ at. bit_or (entries-left_deep n at) (number-power (suc n) at)) ∙ one-more (suc n)

terms-left_deep : (n : ℕ) → terms (left_deep n) ≡ 0
unfolding left_deep
terms-left_deep zero = refl
terms-left_deep (suc n) = ap (λ m. bit_or m 0) (terms-left_deep n)

whole-left_deep : (n : ℕ) → HasNoDistinct (left_deep n)
unfolding left_deep
whole-left_deep zero = tt
whole-left_deep (suc n) = (whole-left_deep n, tt)

entries-based : (b : Bool) (tree : PlanTree) → entries (based b tree) ≡ entries tree
unfolding based
entries-based true tree = refl
entries-based false tree = refl

terms-based : (b : Bool) (tree : PlanTree) → terms (based b tree) ≡ terms tree
unfolding based
terms-based true tree = refl
terms-based false tree = refl

entries-ranked : (n : ℕ) (tree : PlanTree) → entries (ranked n tree) ≡ entries tree
unfolding ranked
entries-ranked zero tree = refl
entries-ranked (suc n) tree = entries-ranked n tree

terms-ranked : (n : ℕ) (tree : PlanTree) → terms tree ≡ 0 → terms (ranked n tree) ≡ 2 ^ n - 1
unfolding ranked
terms-ranked zero tree none = none
terms-ranked (suc n) tree none = (λ at. bit_or (terms-ranked n tree none at) (number-power n at)) ∙ one-more n

drops-ranked : (n : ℕ) (b : Bool) (tree : PlanTree) → b ≡ true → HasNoDistinct (ranked n (based b tree)) → ⊥
unfolding ranked based
drops-ranked zero true tree is whole = whole
drops-ranked zero false tree is whole = absurd (cc)
drops-ranked (suc n) b tree is whole = drops-ranked n b tree is whole

module _ (catalogue : CatalogDef) (block : Block) (formed : IsBlock catalogue block) where
  part-left_deep : (n : ℕ) → suc n ≤ length block.from → IsPart catalogue block (left_deep n)
  unfolding left_deep
  part-left_deep zero within = record { some = omega arith; most = within }
  part-left_deep (suc n) within = (
    part-left_deep n (omega arith),
    record { some = omega arith; most = within },
    record {
      apart = (λ at. bit_and (entries-left_deep n at) (number-power (suc n) at)) ∙ first-apart (suc n);
      left_whole = whole-left_deep n;
      right_whole = tt;
    },
    tt,
  )

  -- the scans of all entries
  base : PlanTree
  base = based block.distinct (left_deep (length block.from - 1))

  entries-base : entries base ≡ all_entries block
  unfolding base
  entries-base =
      let some = formed.some_entries in
      let all : suc (length block.from - 1) ≡ length block.from = omega arith in
      entries-based block.distinct (left_deep (length block.from - 1)) ∙ entries-left_deep (length block.from - 1) ∙ ap (λ n. 2 ^ n - 1) all

  terms-base : terms base ≡ 0
  unfolding base
  terms-base = terms-based block.distinct (left_deep (length block.from - 1)) ∙ terms-left_deep (length block.from - 1)

  part-base : IsPart catalogue block base
  unfolding base based
  part-base = go block.distinct refl where
    scans : IsPart catalogue block (left_deep (length block.from - 1))
    scans = let some = formed.some_entries in part-left_deep (length block.from - 1) (omega arith)

    all : entries (left_deep (length block.from - 1)) ≡ all_entries block
    all =
        let some = formed.some_entries in
        let count : suc (length block.from - 1) ≡ length block.from = omega arith in
        entries-left_deep (length block.from - 1) ∙ ap (λ n. 2 ^ n - 1) count

    go : (b : Bool) → block.distinct ≡ b → IsPart catalogue block (based b (left_deep (length block.from - 1)))
    go true is = (scans, record { wanted = is; all = all; first = whole-left_deep (length block.from - 1) })
    go false is = scans

  -- the next term can be evaluated
  rank-next : (n : ℕ) (tree : PlanTree) → suc n ≤ length block.terms → entries tree ≡ all_entries block → terms tree ≡ 2 ^ n - 1 → IsRank block (suc n) tree
  rank-next n tree within all evaluated = elim ((slice_get_cases block.terms n).1) [
    | inl h ↦ (
        let place : suc n - 1 ≡ n = omega arith in
        record {
          term = h.0;
          is_term = record { some = omega arith; there = ap (slice_get block.terms) place ∙ h.2 };
          absent = ap (λ m. has_number m (suc n)) evaluated ∙ not-yet n;
          there = ap (is_inside h.0.entries) all
              ∙ each-slice_get (λ (t : Term). is_inside t.entries (all_entries block) ≡ true) block.terms n h.0 (terms-inside catalogue block formed) h.2;
        })
    | inr none ↦ absurd (let past = none.0 in omega arith)
  ]

  part-ranked : (n : ℕ) → n ≤ length block.terms → IsPart catalogue block (ranked n base)
  unfolding ranked
  part-ranked zero within = part-base
  part-ranked (suc n) within = (
    part-ranked n (omega arith),
    rank-next n (ranked n base) within (entries-ranked n base ∙ entries-base) (terms-ranked n base terms-base),
  )

  complete-ranked : (n : ℕ) → n ≤ length block.terms → IsComplete catalogue block (ranked n base)
  unfolding base
  complete-ranked n within = record {
    part = part-ranked n within;
    all = entries-ranked n base ∙ entries-base;
    drops = λ wanted whole. dropped wanted whole;
  } where
    dropped : block.distinct ≡ true → HasNoDistinct (ranked n base) → ⊥
    dropped wanted whole = drops-ranked n block.distinct (left_deep (length block.from - 1)) wanted whole

  block-plan : (limit : Option ℕ) → IsPlan catalogue (One block limit) (ranked (length block.terms) base)
  block-plan limit = (complete-ranked (length block.terms) (omega arith), terms-ranked (length block.terms) base terms-base)

  complete-base : IsComplete catalogue block base
  unfolding ranked
  complete-base = complete-ranked zero (omega arith)

module _ (catalogue : CatalogDef) (left right : Block) (left_formed : IsBlock catalogue left) (right_formed : IsBlock catalogue right) where
  sides : PlanTree
  sides = SetOperator (base catalogue left left_formed) (base catalogue right right_formed)

  entries-sides : entries sides ≡ all_entries left
  unfolding sides
  entries-sides = entries-base catalogue left left_formed

  terms-sides : terms sides ≡ 0
  unfolding sides
  terms-sides = terms-base catalogue left left_formed

  set_plan-ranked : (n : ℕ) → n ≤ length left.terms → IsSetPlan catalogue left right (ranked n sides)
  unfolding ranked sides
  set_plan-ranked zero within = (
    complete-base catalogue left left_formed,
    complete-base catalogue right right_formed,
    terms-base catalogue left left_formed ∙ sym (terms-base catalogue right right_formed),
  )
  set_plan-ranked (suc n) within = (
    set_plan-ranked n (omega arith),
    rank-next catalogue left left_formed n (ranked n sides) within (entries-ranked n sides ∙ entries-sides) (terms-ranked n sides terms-sides),
  )

pub some-plan : (catalogue : CatalogDef) (query : Query) → IsQuery catalogue query → (tree : PlanTree) × IsPlan catalogue query tree
some-plan catalogue (One block limit) q = (ranked (length block.terms) (base catalogue block q.0), block-plan catalogue block q.0 limit)
some-plan catalogue (Set op left right limit) q =
    let l = q.0.left_block in
    let r = q.0.right_block in (
      ranked (length left.terms) (sides catalogue left right l r),
      (
        set_plan-ranked catalogue left right l r (length left.terms) (omega arith),
        terms-ranked (length left.terms) (sides catalogue left right l r) (terms-sides catalogue left right l r),
      ),
    )
