-- The conditions that are new where a mask gains an entry.
use Rattle.std.proofs.Common.{ℕ, ◌≡◌, ◌∙◌, ◌+◌, ◌-◌, ◌*◌, ◌/◌, ◌%◌, ◌≤◌, ◌&&◌, Bool, true, false, cond, eqb, List, [], ◌∷◌, refl, sym, ap, arith}
use Rattle.std.specs.List.{list_all}
use Rattle.rs_catalog.specs.Catalog.{CatalogDef}
use Rattle.rs_query.specs.declared.block.Block.{Block}
use Rattle.rs_query.specs.Combinations.{holds_inside, satisfies}
use Rattle.rs_query.specs.Conjuncts.{ConjunctDef}
use Rattle.rs_query.specs.Meaning.{AreInside, all_hold, conjunct_holds, conjuncts_within, is_inside}

-- the first bit of a difference, and the others
first_new : (now before : Bool) → Bool
first_new true true = false
first_new true false = true
first_new false before = false

digit : (now before : Bool) (n m : ℕ) → (before ≡ true → now ≡ true) → m ≤ n → eqb (((cond now 1 0 + 2 * n) - (cond before 1 0 + 2 * m)) % 2) 1 ≡ first_new now before
unfolding first_new
digit true true n m more le = let e : ((1 + 2 * n) - (1 + 2 * m)) % 2 ≡ 0 = omega arith in rw e refl
digit true false n m more le = let e : ((1 + 2 * n) - (0 + 2 * m)) % 2 ≡ 1 = omega arith in rw e refl
digit false true n m more le = let no : false ≡ true = more refl in absurd (cc)
digit false false n m more le = let e : ((0 + 2 * n) - (0 + 2 * m)) % 2 ≡ 0 = omega arith in rw e refl

half : (now before : Bool) (n m : ℕ) → (before ≡ true → now ≡ true) → m ≤ n → ((cond now 1 0 + 2 * n) - (cond before 1 0 + 2 * m)) / 2 ≡ n - m
half true true n m more le = omega arith
half true false n m more le = omega arith
half false true n m more le = let no : false ≡ true = more refl in absurd (cc)
half false false n m more le = omega arith

was_new : (now before : Bool) → first_new now before ≡ true → now ≡ true
unfolding first_new
was_new true before e = refl
was_new false before e = e

-- a condition that is looked at before, or now, and all others
joined : (now before holds all rest new : Bool) → (before ≡ true → now ≡ true) → all ≡ (rest && new)
    → (cond now holds true && all) ≡ ((cond before holds true && rest) && (cond (first_new now before) holds true && new))
unfolding first_new
joined true true true all rest new more e = e
joined true true false all rest new more e = refl
joined true false true all rest new more e = e
joined true false false all true new more e = refl
joined true false false all false new more e = refl
joined false true holds all rest new more e = let no : false ≡ true = more refl in absurd (cc)
joined false false holds all rest new more e = e

module _ (before now : ℕ) (more : (entries : ℕ) → is_inside entries before ≡ true → is_inside entries now ≡ true) where
  -- the conditions within fewer entries are among those within more
  pub within-less : (conjuncts : List ConjunctDef) → conjuncts_within before conjuncts ≤ conjuncts_within now conjuncts
  within-less [] = omega arith
  within-less (c ∷ conjuncts) = go (is_inside c.entries now) (is_inside c.entries before) (more c.entries) (within-less conjuncts) where
    go : (a b : Bool) → (b ≡ true → a ≡ true) → conjuncts_within before conjuncts ≤ conjuncts_within now conjuncts
        → cond b 1 0 + 2 * conjuncts_within before conjuncts ≤ cond a 1 0 + 2 * conjuncts_within now conjuncts
    go true true e less = omega arith
    go true false e less = omega arith
    go false true e less = let no : false ≡ true = e refl in absurd (cc)
    go false false e less = omega arith

  -- the new ones are within the entries of now
  pub new-inside : (conjuncts : List ConjunctDef) → AreInside (conjuncts_within now conjuncts - conjuncts_within before conjuncts) now conjuncts
  new-inside [] = tt
  new-inside (c ∷ conjuncts) =
      let bit = digit (is_inside c.entries now) (is_inside c.entries before) (conjuncts_within now conjuncts) (conjuncts_within before conjuncts) (more c.entries) (within-less conjuncts) in
      let rest = half (is_inside c.entries now) (is_inside c.entries before) (conjuncts_within now conjuncts) (conjuncts_within before conjuncts) (more c.entries) (within-less conjuncts) in (
        λ is. was_new (is_inside c.entries now) (is_inside c.entries before) (sym bit ∙ ap (λ n. eqb n 1) is),
        rw rest (new-inside conjuncts),
      )

  -- all conditions within the entries of now hold where those of before and the new ones do
  module _ (catalogue : CatalogDef) (block : Block) (rows : List ℕ) where
    all-new : (conjuncts : List ConjunctDef) → list_all (holds_inside catalogue block now rows) conjuncts
        ≡ (list_all (holds_inside catalogue block before rows) conjuncts && all_hold catalogue block (conjuncts_within now conjuncts - conjuncts_within before conjuncts) rows conjuncts)
    all-new [] = refl
    all-new (c ∷ conjuncts) =
        let bit = digit (is_inside c.entries now) (is_inside c.entries before) (conjuncts_within now conjuncts) (conjuncts_within before conjuncts) (more c.entries) (within-less conjuncts) in
        let rest = half (is_inside c.entries now) (is_inside c.entries before) (conjuncts_within now conjuncts) (conjuncts_within before conjuncts) (more c.entries) (within-less conjuncts) in
        rw (bit, rest)
        (joined (is_inside c.entries now) (is_inside c.entries before) (conjunct_holds catalogue block rows c) (list_all (holds_inside catalogue block now rows) conjuncts)
        (list_all (holds_inside catalogue block before rows) conjuncts)
        (all_hold catalogue block (conjuncts_within now conjuncts - conjuncts_within before conjuncts) rows conjuncts) (more c.entries) (all-new conjuncts))

    pub satisfies-new : satisfies catalogue block now rows
        ≡ (satisfies catalogue block before rows && all_hold catalogue block (conjuncts_within now block.conjuncts - conjuncts_within before block.conjuncts) rows block.conjuncts)
    satisfies-new = all-new block.conjuncts
