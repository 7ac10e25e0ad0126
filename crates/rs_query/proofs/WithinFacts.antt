-- The mask of the conjuncts whose entries are all in a mask of entries.
use Rattle.std.proofs.Common.{ℕ, ◌≡◌, ◌∙◌, ◌+◌, ◌*◌, ◌/◌, ◌%◌, ◌^◌, ◌<◌, ◌≤◌, Bool, true, false, cond, eqb, List, [], ◌∷◌, length, drop, get_or, refl, sym, ap, subst, arith}
use Rattle.std.specs.List.{list_all}
use Rattle.std.proofs.lemmas.Grind.{pow_more}
use Rattle.std.proofs.lemmas.List.{drop_all, drop_more}
use Rattle.std.proofs.lemmas.Nat.{one_shl}
use Rattle.std.proofs.Math.Nat.{add-mul, mul_assoc, mul_comm, pow-le-pow_right, pow-suc}
use Rattle.rs_catalog.specs.Catalog.{CatalogDef}
use Rattle.rs_query.specs.declared.block.Block.{Block}
use Rattle.rs_query.specs.Combinations.{holds_inside, satisfies}
use Rattle.rs_query.specs.Conjuncts.{ConjunctDef}
use Rattle.rs_query.specs.Meaning.{AreInside, all_hold, is_inside, conjuncts_within}

-- the first bit of a mask, and the others
first_bit : (b : Bool) (n : ℕ) → eqb ((cond b 1 0 + 2 * n) % 2) 1 ≡ b
first_bit true n = let e : (1 + 2 * n) % 2 ≡ 1 = omega arith in rw e refl
first_bit false n = let e : (0 + 2 * n) % 2 ≡ 0 = omega arith in rw e refl

other_bits : (b : Bool) (n : ℕ) → (cond b 1 0 + 2 * n) / 2 ≡ n
other_bits true n = omega arith
other_bits false n = omega arith

module _ (catalogue : CatalogDef) (block : Block) (mask : ℕ) (rows : List ℕ) where
  all_within : (conjuncts : List ConjunctDef) → all_hold catalogue block (conjuncts_within mask conjuncts) rows conjuncts ≡ list_all (holds_inside catalogue block mask rows) conjuncts
  all_within [] = refl
  all_within (conjunct ∷ rest) =
      rw (first_bit (is_inside conjunct.entries mask) (conjuncts_within mask rest), other_bits (is_inside conjunct.entries mask) (conjuncts_within mask rest), all_within rest) refl

  -- all conjuncts within a mask of entries hold where each of them does
  pub all_hold-within : all_hold catalogue block (conjuncts_within mask block.conjuncts) rows block.conjuncts ≡ satisfies catalogue block mask rows
  all_hold-within = all_within block.conjuncts

-- the entries of each conjunct within a mask of entries are in it
pub AreInside-within : (mask : ℕ) (conjuncts : List ConjunctDef) → AreInside (conjuncts_within mask conjuncts) mask conjuncts
AreInside-within mask [] = tt
AreInside-within mask (conjunct ∷ rest) = (
  λ is. sym (first_bit (is_inside conjunct.entries mask) (conjuncts_within mask rest)) ∙ ap (λ n. eqb n 1) is,
  rw (other_bits (is_inside conjunct.entries mask) (conjuncts_within mask rest)) (AreInside-within mask rest),
)

one_or_none : (b : Bool) → cond b 1 0 < 2
one_or_none true = omega arith
one_or_none false = omega arith

-- a mask has no bit past the last conjunct
pub conjuncts_within-below : (mask : ℕ) (conjuncts : List ConjunctDef) → conjuncts_within mask conjuncts < 2 ^ length conjuncts
conjuncts_within-below mask [] = omega arith
conjuncts_within-below mask (conjunct ∷ rest) =
    let first = one_or_none (is_inside conjunct.entries mask) in
    let others = conjuncts_within-below mask rest in
    let power = pow-suc 2 (length rest) in
    omega arith

-- a doubled place
doubled : (bit rest power : ℕ) → (bit + 2 * rest) * power ≡ bit * power + rest * (power * 2)
doubled bit rest power =
    add-mul bit (2 * rest) power ∙ ap (λ n. bit * power + n) (mul_assoc 2 rest power ∙ mul_comm 2 (rest * power) ∙ mul_assoc rest power 2)

-- the conjuncts from a place on: the one at the place, and those behind it
pub conjuncts_within-step : (mask : ℕ) (conjuncts : List ConjunctDef) (place : ℕ) (conjunct : ConjunctDef) → place < length conjuncts → conjunct ≡ get_or conjuncts place conjunct
    → conjuncts_within mask (drop place conjuncts) * 2 ^ place ≡ cond (is_inside conjunct.entries mask) 1 0 * 2 ^ place + conjuncts_within mask (drop (place + 1) conjuncts) * 2 ^ (place + 1)
conjuncts_within-step mask conjuncts place conjunct inside is =
    ap (λ all. conjuncts_within mask all * 2 ^ place) (drop_more conjuncts place conjunct inside ∙ ap (λ c. c ∷ drop (place + 1) conjuncts) (sym is))
    ∙ doubled (cond (is_inside conjunct.entries mask) 1 0) (conjuncts_within mask (drop (place + 1) conjuncts)) (2 ^ place)
    ∙ ap (λ n. cond (is_inside conjunct.entries mask) 1 0 * 2 ^ place + conjuncts_within mask (drop (place + 1) conjuncts) * n) (sym (pow_more 2 place))

-- a conjunct that is inside joins the mask, and one that isn't leaves it
module _ (entries mask place : ℕ) (conjuncts : List ConjunctDef) (conjunct : ConjunctDef) (few : length conjuncts ≤ 32) (here : place < length conjuncts)
    (is : conjunct ≡ get_or conjuncts place conjunct) (so_far : mask + conjuncts_within entries (drop place conjuncts) * 2 ^ place ≡ conjuncts_within entries conjuncts) where
  pub conjuncts_within-joined : is_inside conjunct.entries entries ≡ true
      → mask + 1 * 2 ^ place % 2 ^ 32 + conjuncts_within entries (drop (place + 1) conjuncts) * 2 ^ (place + 1) ≡ conjuncts_within entries conjuncts
  conjuncts_within-joined inside =
      let step = conjuncts_within-step entries conjuncts place conjunct here is in
      let bit = ap (λ b. cond b 1 0 * 2 ^ place) inside in
      let shifted = one_shl place 32 (omega arith) in
      omega arith

  pub conjuncts_within-left : is_inside conjunct.entries entries ≡ false → mask + conjuncts_within entries (drop (place + 1) conjuncts) * 2 ^ (place + 1) ≡ conjuncts_within entries conjuncts
  conjuncts_within-left outside =
      let step = conjuncts_within-step entries conjuncts place conjunct here is in
      let bit = ap (λ b. cond b 1 0 * 2 ^ place) outside in
      omega arith

  pub conjuncts_within-fits : is_inside conjunct.entries entries ≡ true → mask + 1 * 2 ^ place % 2 ^ 32 < 2 ^ 32
  conjuncts_within-fits inside =
      let joined = conjuncts_within-joined inside in
      let below = conjuncts_within-below entries conjuncts in
      let most = pow-le-pow_right {n = 2} (let some : 0 < 2 = omega arith in some) few in
      omega arith

-- behind the last conjunct the mask is whole
pub AreInside-all : (entries mask place : ℕ) (conjuncts : List ConjunctDef) → length conjuncts ≤ place
    → mask + conjuncts_within entries (drop place conjuncts) * 2 ^ place ≡ conjuncts_within entries conjuncts → AreInside mask entries conjuncts
AreInside-all entries mask place conjuncts all so_far =
    let none = ap (λ cs. mask + conjuncts_within entries cs * 2 ^ place) (drop_all place conjuncts all) in
    let same : conjuncts_within entries conjuncts ≡ mask = omega arith in
    subst (λ n. AreInside n entries conjuncts) same (AreInside-within entries conjuncts)
