-- What choices have, and what the conditions within fewer entries say of those within more.
use Rattle.std.proofs.Common.{ℕ, zero, suc, ◌≡◌, ◌∙◌, ◌-◌, ◌/◌, ◌%◌, ◌^◌, ◌<◌, ◌≤◌, ◌&&◌, Bool, true, false, cond, eqb, List, [], ◌∷◌, length, get_or, refl, sym, ap, ap₂, subst, arith, pow-suc, pow_pos}
use Rattle.std.specs.Int.{bit_at}
use Rattle.std.specs.List.{AllByRecursion, list_all}
use Rattle.std.proofs.lemmas.Bool.{eqb-true}
use Rattle.std.proofs.lemmas.Nat.Bits.{bit_at-suc, bit_at_lowest}
use Rattle.std.proofs.lemmas.Option.{unwrap_or-slice_get}
use Rattle.rs_order.proofs.ClimbingFacts.{AllByRecursion-from_In}
use Rattle.rs_catalog.specs.Catalog.{CatalogDef}
use Rattle.rs_query.specs.declared.block.Block.{Block}
use Rattle.rs_query.specs.Choices.{AgreeOn, IsChoice, IsRowNumber}
use Rattle.rs_query.specs.Combinations.{all_combinations, holds_inside, satisfies}
use Rattle.rs_query.specs.Conjuncts.{ConjunctDef}
use Rattle.rs_query.specs.Meaning.{conjunct_holds, is_inside}
use Rattle.rs_query.specs.Tables.{HasRows, all_entries, row_number, size_of, sizes_of}
use Rattle.rs_query.specs.WellFormed.{IsConjunct}
use Rattle.rs_query.proofs.ChoiceFacts.{In-combinations-back}
use Rattle.rs_query.proofs.LocalFacts.{conjunct_holds-local}

-- the mask of the first entries
prefix-odd : (n : ℕ) → (2 ^ suc n - 1) % 2 ≡ 1
prefix-odd n = let power = pow-suc 2 n in let some = pow_pos n in omega arith

prefix-first : (n : ℕ) → eqb ((2 ^ suc n - 1) % 2) 0 ≡ false
prefix-first n = ap (λ d. eqb d 0) (prefix-odd n)

pub prefix-one : (n : ℕ) → eqb ((2 ^ suc n - 1) % 2) 1 ≡ true
prefix-one n = ap (λ d. eqb d 1) (prefix-odd n)

pub prefix-others : (n : ℕ) → (2 ^ suc n - 1) / 2 ≡ 2 ^ n - 1
prefix-others n = let power = pow-suc 2 n in let some = pow_pos n in omega arith

-- one number of a choice
pub IsChoice-at : (i mask : ℕ) (sizes rows : List ℕ) → IsChoice mask sizes rows → i < length sizes → bit_at mask i ≡ 1 → (1 ≤ get_or rows i 0) × (get_or rows i 0 ≤ get_or sizes i 0)
IsChoice-at i mask [] rows is within has = absurd (omega arith)
IsChoice-at i mask (size ∷ sizes) [] is within has = absurd is
IsChoice-at zero mask (size ∷ sizes) (row ∷ rows) is within has =
    let inside : eqb (mask % 2) 0 ≡ false = ap (λ d. eqb d 0) (sym (bit_at_lowest mask) ∙ has) in
    subst (λ b. IsRowNumber b size row) inside is.0
IsChoice-at (suc i) mask (size ∷ sizes) (row ∷ rows) is within has =
    IsChoice-at i (mask / 2) sizes rows is.1 (omega arith) (sym (bit_at-suc mask i) ∙ has)

-- as many numbers as entries
pub IsChoice-length : (mask : ℕ) (sizes rows : List ℕ) → IsChoice mask sizes rows → length rows ≡ length sizes
IsChoice-length mask [] [] is = refl
IsChoice-length mask [] (row ∷ rows) is = absurd is
IsChoice-length mask (size ∷ sizes) [] is = absurd is
IsChoice-length mask (size ∷ sizes) (row ∷ rows) is = ap suc (IsChoice-length (mask / 2) sizes rows is.1)

-- the number of rows of one of six entries
pub get_or-sizes_of : (catalogue : CatalogDef) (block : Block) (i : ℕ) → i < 6 → get_or (sizes_of catalogue block) i 0 ≡ size_of catalogue block (suc i)
get_or-sizes_of catalogue block zero within = refl
get_or-sizes_of catalogue block (suc zero) within = refl
get_or-sizes_of catalogue block (suc (suc zero)) within = refl
get_or-sizes_of catalogue block (suc (suc (suc zero))) within = refl
get_or-sizes_of catalogue block (suc (suc (suc (suc zero)))) within = refl
get_or-sizes_of catalogue block (suc (suc (suc (suc (suc zero))))) within = refl
get_or-sizes_of catalogue block (suc (suc (suc (suc (suc (suc i)))))) within = absurd (omega arith)

-- a choice has rows
pub HasRows-choice : (catalogue : CatalogDef) (block : Block) (mask : ℕ) (rows : List ℕ) → length block.from ≤ 6 → IsChoice mask (sizes_of catalogue block) rows → HasRows catalogue block mask rows
HasRows-choice catalogue block mask rows most is entry some last has =
    let at : row_number rows entry ≡ get_or rows (entry - 1) 0 = unwrap_or-slice_get rows (entry - 1) 0 in
    let number : suc (entry - 1) ≡ entry = omega arith in
    let size : get_or (sizes_of catalogue block) (entry - 1) 0 ≡ size_of catalogue block entry = get_or-sizes_of catalogue block (entry - 1) (omega arith) ∙ ap (size_of catalogue block) number in
    let bit : bit_at mask (entry - 1) ≡ 1 = eqb-true (bit_at mask (entry - 1)) 1 has in
    let both = IsChoice-at (entry - 1) mask (sizes_of catalogue block) rows is (let less : entry - 1 < 6 = omega arith in less) bit in
    (subst (λ n. 1 ≤ n) (sym at) both.0, subst (λ n. n ≤ size_of catalogue block entry) (sym at) (subst (λ n. get_or rows (entry - 1) 0 ≤ n) size both.1))

-- and so does each combination
pub HasRows-combinations : (catalogue : CatalogDef) (block : Block) → length block.from ≤ 6 → AllByRecursion (HasRows catalogue block (all_entries block)) (all_combinations catalogue block)
HasRows-combinations catalogue block most =
    AllByRecursion-from_In (HasRows catalogue block (all_entries block)) (all_combinations catalogue block)
    (λ rows h. HasRows-choice catalogue block (all_entries block) rows most (In-combinations-back catalogue block (sizes_of catalogue block) (all_entries block) rows h).0)

-- both of two tests
pub and_both : (a b : Bool) → (a && b) ≡ true → (a ≡ true) × (b ≡ true)
and_both true b e = (refl, e)
and_both false b e = cc

-- where the conjuncts within some entries fail of some rows, those within more of them fail of what begins with these rows
module _ (catalogue : CatalogDef) (block : Block) (mask whole : ℕ) (xs ys : List ℕ) (agree : AgreeOn mask xs ys) (more : (e : ℕ) → is_inside e mask ≡ true → is_inside e whole ≡ true) where
  holds_inside-fewer : (conjunct : ConjunctDef) → IsConjunct catalogue block conjunct → holds_inside catalogue block whole ys conjunct ≡ true → holds_inside catalogue block mask xs conjunct ≡ true
  holds_inside-fewer conjunct is holds =
      (elim (is_inside conjunct.entries mask) as (λ b. is_inside conjunct.entries mask ≡ b → cond b (conjunct_holds catalogue block xs conjunct) true ≡ true) [
        | true ↦ λ inside.
            conjunct_holds-local catalogue block mask xs ys agree conjunct is inside
            ∙ sym (ap (λ b. cond b (conjunct_holds catalogue block ys conjunct) true) (more conjunct.entries inside))
            ∙ holds
        | false ↦ λ outside. refl
      ]) refl

  pub all-fewer : (conjuncts : List ConjunctDef) → AllByRecursion (IsConjunct catalogue block) conjuncts → list_all (holds_inside catalogue block whole ys) conjuncts ≡ true → list_all (holds_inside catalogue block mask xs) conjuncts ≡ true
  all-fewer [] are holds = refl
  all-fewer (conjunct ∷ conjuncts) are holds =
      let both = and_both (holds_inside catalogue block whole ys conjunct) (list_all (holds_inside catalogue block whole ys) conjuncts) holds in
      ap₂ (λ a b. a && b) (holds_inside-fewer conjunct are.0 both.0) (all-fewer conjuncts are.1 both.1)

  pub satisfies-fails : AllByRecursion (IsConjunct catalogue block) block.conjuncts → satisfies catalogue block mask xs ≡ false → satisfies catalogue block whole ys ≡ false
  satisfies-fails are fails =
      (elim (satisfies catalogue block whole ys) as (λ b. satisfies catalogue block whole ys ≡ b → b ≡ false) [
        | true ↦ λ holds. absurd (let fewer = all-fewer block.conjuncts are holds in cc)
        | false ↦ λ fails. refl
      ]) refl
