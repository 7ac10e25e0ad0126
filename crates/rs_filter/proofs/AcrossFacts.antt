-- The mask of the conjuncts that speak of both sides of a join.
use Rattle.std.proofs.Common.{◌≡◌, ℕ, ◌+◌, ◌-◌, ◌*◌, ◌/◌, ◌%◌, ◌≤◌, ◌&&◌, Bool, true, false, not, cond, eqb, List, [], ◌∷◌, bit_and, bit_or, max, refl, sym, ◌∙◌, ap, ap₂, subst, arith}
use Rattle.std.specs.Int.{bit_at}
use Rattle.std.specs.List.{list_all}
use Rattle.std.proofs.lemmas.Bool.{eqb-true, eq-eqb, true≢false}
use Rattle.std.proofs.lemmas.Nat.Bits.{bit_at-lt, bit_at_and, bit_at_or, same_from_bits}
use Rattle.rs_rank.proofs.MaskFacts.{bit_or-first, bit_or-others}
use Rattle.rs_catalog.specs.Catalog.{CatalogDef}
use Rattle.rs_query.specs.declared.block.Block.{Block}
use Rattle.rs_query.specs.Conjuncts.{ConjunctDef}
use Rattle.rs_query.specs.Meaning.{AreInside, all_hold, is_inside, conjuncts_within}
use Rattle.rs_filter.specs.Matching.{conjuncts_across, holds_across, is_across}

-- what is inside the one of two masks is inside both together
wider-left : (entries m n : ℕ) → bit_and entries m ≡ entries → bit_and entries (bit_or m n) ≡ entries
wider-left entries m n e = same_from_bits (bit_and entries (bit_or m n)) entries (λ i.
    let part = ap (λ x. bit_at x i) e in
    let one = bit_at_and entries m i in
    let both = bit_at_and entries (bit_or m n) i in
    let either = bit_at_or m n i in
    let small = bit_at-lt n i in
    omega arith)

wider-right : (entries m n : ℕ) → bit_and entries n ≡ entries → bit_and entries (bit_or m n) ≡ entries
wider-right entries m n e = same_from_bits (bit_and entries (bit_or m n)) entries (λ i.
    let part = ap (λ x. bit_at x i) e in
    let one = bit_at_and entries n i in
    let both = bit_at_and entries (bit_or m n) i in
    let either = bit_at_or m n i in
    let small = bit_at-lt m i in
    omega arith)

pub inside-left : (entries m n : ℕ) → is_inside entries m ≡ true → is_inside entries (bit_or m n) ≡ true
inside-left entries m n e = eq-eqb (bit_and entries (bit_or m n)) entries (wider-left entries m n (eqb-true (bit_and entries m) entries e))

pub inside-right : (entries m n : ℕ) → is_inside entries n ≡ true → is_inside entries (bit_or m n) ≡ true
inside-right entries m n e = eq-eqb (bit_and entries (bit_or m n)) entries (wider-right entries m n (eqb-true (bit_and entries n) entries e))

-- the first bit of a mask, and the others

or-bits : (b c : Bool) (x y : ℕ) → bit_or (cond b 1 0 + 2 * x) (cond c 1 0 + 2 * y) ≡ cond (cond b true c) 1 0 + 2 * bit_or x y
or-bits b c x y =
    let first = bit_or-first (cond b 1 0 + 2 * x) (cond c 1 0 + 2 * y) in
    let others = bit_or-others (cond b 1 0 + 2 * x) (cond c 1 0 + 2 * y) in
    go b c first (others ∙ ap₂ bit_or (half b x) (half c y))
  where
    half : (b : Bool) (x : ℕ) → (cond b 1 0 + 2 * x) / 2 ≡ x
    half true x = omega arith
    half false x = omega arith

    go : (b c : Bool) → bit_or (cond b 1 0 + 2 * x) (cond c 1 0 + 2 * y) % 2 ≡ max ((cond b 1 0 + 2 * x) % 2) ((cond c 1 0 + 2 * y) % 2)
        → bit_or (cond b 1 0 + 2 * x) (cond c 1 0 + 2 * y) / 2 ≡ bit_or x y
        → bit_or (cond b 1 0 + 2 * x) (cond c 1 0 + 2 * y) ≡ cond (cond b true c) 1 0 + 2 * bit_or x y
    go true true first others = omega arith
    go true false first others = omega arith
    go false true first others = omega arith
    go false false first others = omega arith

-- a mask that has all of a part, without the part
minus-bits : (b c : Bool) (x y : ℕ) → (c ≡ true → b ≡ true) → y ≤ x → (cond b 1 0 + 2 * x) - (cond c 1 0 + 2 * y) ≡ cond (b && not c) 1 0 + 2 * (x - y)
minus-bits true true x y part less = omega arith
minus-bits true false x y part less = omega arith
minus-bits false true x y part less = absurd (true≢false (sym (part refl)))
minus-bits false false x y part less = omega arith

part-bits : (b c : Bool) (x y : ℕ) → (c ≡ true → b ≡ true) → y ≤ x → cond c 1 0 + 2 * y ≤ cond b 1 0 + 2 * x
part-bits true true x y part less = omega arith
part-bits true false x y part less = omega arith
part-bits false true x y part less = absurd (true≢false (sym (part refl)))
part-bits false false x y part less = omega arith

module _ (left right : ℕ) where
  -- a conjunct speaks of both sides, or it is in one of them, or it speaks of others too
  across-bit : (c : ConjunctDef) → (is_inside c.entries (bit_or left right) && not (cond (is_inside c.entries left) true (is_inside c.entries right))) ≡ is_across left right c
  across-bit c = ap (λ b. is_inside c.entries (bit_or left right) && b) (go (is_inside c.entries left) (is_inside c.entries right)) where
    go : (a b : Bool) → not (cond a true b) ≡ (not a && not b)
    go true b = refl
    go false b = refl

  part-of : (c : ConjunctDef) → cond (is_inside c.entries left) true (is_inside c.entries right) ≡ true → is_inside c.entries (bit_or left right) ≡ true
  part-of c = go (is_inside c.entries left) refl where
    go : (a : Bool) → is_inside c.entries left ≡ a → cond a true (is_inside c.entries right) ≡ true → is_inside c.entries (bit_or left right) ≡ true
    go true e f = inside-left c.entries left right e
    go false e f = inside-right c.entries left right f

  -- what is inside one side is inside both together
  pub part-below : (conjuncts : List ConjunctDef) → bit_or (conjuncts_within left conjuncts) (conjuncts_within right conjuncts) ≤ conjuncts_within (bit_or left right) conjuncts
  part-below [] = omega arith
  part-below (c ∷ rest) =
      subst (λ n. n ≤ conjuncts_within (bit_or left right) (c ∷ rest)) (sym (or-bits (is_inside c.entries left) (is_inside c.entries right) (conjuncts_within left rest) (conjuncts_within right rest)))
      (part-bits (is_inside c.entries (bit_or left right)) (cond (is_inside c.entries left) true (is_inside c.entries right)) (conjuncts_within (bit_or left right) rest)
      (bit_or (conjuncts_within left rest) (conjuncts_within right rest)) (part-of c) (part-below rest))

  conjuncts_across-cons : (c : ConjunctDef) (rest : List ConjunctDef) → conjuncts_across left right (c ∷ rest) ≡ cond (is_across left right c) 1 0 + 2 * conjuncts_across left right rest
  conjuncts_across-cons c rest =
      ap (λ n. conjuncts_within (bit_or left right) (c ∷ rest) - n) (or-bits (is_inside c.entries left) (is_inside c.entries right) (conjuncts_within left rest) (conjuncts_within right rest))
      ∙ minus-bits (is_inside c.entries (bit_or left right)) (cond (is_inside c.entries left) true (is_inside c.entries right)) (conjuncts_within (bit_or left right) rest)
      (bit_or (conjuncts_within left rest) (conjuncts_within right rest)) (part-of c) (part-below rest)
      ∙ ap (λ b. cond b 1 0 + 2 * conjuncts_across left right rest) (across-bit c)

  first-bit : (b : Bool) (n : ℕ) → (cond b 1 0 + 2 * n) % 2 ≡ cond b 1 0
  first-bit true n = omega arith
  first-bit false n = omega arith

  other-bits : (b : Bool) (n : ℕ) → (cond b 1 0 + 2 * n) / 2 ≡ n
  other-bits true n = omega arith
  other-bits false n = omega arith

  conjuncts_across-first : (c : ConjunctDef) (rest : List ConjunctDef) → conjuncts_across left right (c ∷ rest) % 2 ≡ cond (is_across left right c) 1 0
  conjuncts_across-first c rest = ap (λ n. n % 2) (conjuncts_across-cons c rest) ∙ first-bit (is_across left right c) (conjuncts_across left right rest)

  conjuncts_across-others : (c : ConjunctDef) (rest : List ConjunctDef) → conjuncts_across left right (c ∷ rest) / 2 ≡ conjuncts_across left right rest
  conjuncts_across-others c rest = ap (λ n. n / 2) (conjuncts_across-cons c rest) ∙ other-bits (is_across left right c) (conjuncts_across left right rest)

  -- all conjuncts in the mask hold where each that speaks of both sides does
  pub all_hold-across : (catalogue : CatalogDef) (block : Block) (rows : List ℕ) (conjuncts : List ConjunctDef)
      → all_hold catalogue block (conjuncts_across left right conjuncts) rows conjuncts ≡ list_all (holds_across catalogue block left right rows) conjuncts
  all_hold-across catalogue block rows [] = refl
  all_hold-across catalogue block rows (c ∷ rest) =
      rw (conjuncts_across-first c rest, conjuncts_across-others c rest, one (is_across left right c), all_hold-across catalogue block rows rest) refl
    where
      one : (b : Bool) → eqb (cond b 1 0) 1 ≡ b
      one true = refl
      one false = refl

  -- and they speak of entries of both together
  pub AreInside-across : (conjuncts : List ConjunctDef) → AreInside (conjuncts_across left right conjuncts) (bit_or left right) conjuncts
  AreInside-across [] = tt
  AreInside-across (c ∷ rest) = (
    λ bit. speaks (is_across left right c) refl (sym (conjuncts_across-first c rest) ∙ bit),
    subst (λ n. AreInside n (bit_or left right) rest) (sym (conjuncts_across-others c rest)) (AreInside-across rest),
  )
    where
      both : (a b : Bool) → (a && b) ≡ true → a ≡ true
      both true b e = refl
      both false b e = absurd (true≢false (sym e))

      speaks : (b : Bool) → is_across left right c ≡ b → ◌≡◌ {A = ℕ} (cond b 1 0) 1 → is_inside c.entries (bit_or left right) ≡ true
      speaks true e f = both (is_inside c.entries (bit_or left right)) (not (is_inside c.entries left) && not (is_inside c.entries right)) e
      speaks false e f = absurd (omega arith)
