-- Which choices there are among samples.
use Rattle.std.proofs.Common.{ℕ, ◌≡◌, ◌∙◌, ◌+◌, ◌*◌, ◌/◌, ◌%◌, ◌≤◌, Bool, true, false, cond, eqb, List, [], ◌∷◌, length, map, bit_and, refl, sym, ap, subst, inl, inr, arith}
use Rattle.std.specs.List.{AllByRecursion, flat_map}
use Rattle.std.proofs.lemmas.Bool.{eqb-true, eq-eqb}
use Rattle.std.proofs.lemmas.List.{length-append, length-map}
use lib.Bits.{and_self}
use Rattle.std.proofs.Math.Nat.{add-mul}
use Rattle.rs_order.specs.Climbing.{In}
use Rattle.rs_order.proofs.ClimbingFacts.{AllByRecursion-In, AllByRecursion-from_In}
use Rattle.rs_order.proofs.ItemFacts.{In-flat_map-back, In-map-back}
use Rattle.rs_rank.proofs.MaskFacts.{bit_and-first, bit_and-others}
use Rattle.rs_query.specs.Choices.{IsChoice, IsRowNumber}
use Rattle.rs_catalog.specs.Catalog.{CatalogDef}
use Rattle.rs_query.specs.declared.block.Block.{Block}
use Rattle.rs_query.specs.Meaning.{is_inside}
use Rattle.rs_query.specs.Tables.{HasRows, sizes_of}
use Rattle.rs_query.proofs.ExtendFacts.{HasRows-choice}
use Rattle.rs_sample.specs.Choosing.{sampled_choices}
use Rattle.rs_sample.specs.Quotients.{product_inside}
use Rattle.rs_sample.specs.Samples.{AreBlockSamples, AreSamples, IsSample, most_sampled}

-- a row number before others
abbrev pub before : ℕ → List ℕ → List ℕ
before row = λ rows. row ∷ rows

-- the rows of one entry
abbrev pub rows_of : Bool → List ℕ → List ℕ
rows_of outside sample = cond outside (0 ∷ []) sample

-- they are row numbers of its table
row-number : (most size : ℕ) (outside : Bool) (sample : List ℕ) (row : ℕ) → IsSample most size sample → In row (rows_of outside sample) → IsRowNumber outside size row
row-number most size true sample row is h = elim h [ inl e ↦ e | inr none ↦ absurd none ]
row-number most size false sample row is h = AllByRecursion-In (λ r. (1 ≤ r) × (r ≤ size)) sample is.within row h

-- choices among samples are choices
pub IsChoice-sampled : (most mask : ℕ) (sizes : List ℕ) (samples : List (List ℕ)) (rows : List ℕ) → AreSamples most sizes samples → In rows (sampled_choices mask samples) → IsChoice mask sizes rows
IsChoice-sampled most mask [] [] rows are h = elim h [ inl e ↦ subst (IsChoice mask []) (sym e) tt | inr none ↦ absurd none ]
IsChoice-sampled most mask [] (sample ∷ samples) rows are h = absurd are
IsChoice-sampled most mask (size ∷ sizes) [] rows are h = absurd are
IsChoice-sampled most mask (size ∷ sizes) (sample ∷ samples) rows are h =
    let made = In-flat_map-back (λ r. map (before r) (sampled_choices (mask / 2) samples)) rows (rows_of (eqb (mask % 2) 0) sample) h in
    let image = In-map-back (before made.source) rows (sampled_choices (mask / 2) samples) made.made in
    subst (IsChoice mask (size ∷ sizes)) (sym image.image)
    (row-number most size (eqb (mask % 2) 0) sample made.source are.0 made.is_in, IsChoice-sampled most (mask / 2) sizes samples image.source are.1 image.is_in)

-- the first of two masks of which one is inside the other, and the others
pub inside-first : (entries mask : ℕ) → is_inside entries mask ≡ true → entries % 2 ≡ 1 → mask % 2 ≡ 1
inside-first entries mask inside one =
    let same = eqb-true (bit_and entries mask) entries inside in
    let first = bit_and-first entries mask in
    let at : bit_and entries mask % 2 ≡ entries % 2 = ap (λ n. n % 2) same in
    omega arith

pub inside-others : (entries mask : ℕ) → is_inside entries mask ≡ true → is_inside (entries / 2) (mask / 2) ≡ true
inside-others entries mask inside =
    eq-eqb (bit_and (entries / 2) (mask / 2)) (entries / 2)
    (sym (bit_and-others entries mask) ∙ ap (λ n. n / 2) (eqb-true (bit_and entries mask) entries inside))

-- how many choices there are
pub length-rows : (f : ℕ → List ℕ → List ℕ) (numbers : List ℕ) (lists : List (List ℕ)) → length (flat_map (λ r. map (f r) lists) numbers) ≡ length numbers * length lists
length-rows f [] lists = omega arith
length-rows f (number ∷ numbers) lists =
    length-append (map (f number) lists) (flat_map (λ r. map (f r) lists) numbers)
    ∙ ap (λ n. n + length (flat_map (λ r. map (f r) lists) numbers)) (length-map lists (f number))
    ∙ ap (λ n. length lists + n) (length-rows f numbers lists)
    ∙ (let e = add-mul 1 (length numbers) (length lists) in omega arith)

length-first : (outside : Bool) (sample : List ℕ) → length (rows_of outside sample) ≡ cond outside 1 (length sample)
length-first true sample = refl
length-first false sample = refl

pub length-choices : (mask : ℕ) (samples : List (List ℕ)) → length (sampled_choices mask samples) ≡ product_inside mask (map length samples)
length-choices mask [] = refl
length-choices mask (sample ∷ samples) =
    length-rows before (rows_of (eqb (mask % 2) 0) sample) (sampled_choices (mask / 2) samples)
    ∙ ap (λ n. n * length (sampled_choices (mask / 2) samples)) (length-first (eqb (mask % 2) 0) sample)
    ∙ ap (λ n. cond (eqb (mask % 2) 0) 1 (length sample) * n) (length-choices (mask / 2) samples)

-- a mask is inside itself
pub inside-itself : (mask : ℕ) → is_inside mask mask ≡ true
inside-itself mask = eq-eqb (bit_and mask mask) mask (and_self mask)

-- each choice among the samples of a block has rows of its tables
pub HasRows-sampled : (catalogue : CatalogDef) (block : Block) (samples : List (List ℕ)) (mask : ℕ) → length block.from ≤ 6 → AreBlockSamples (length block.from) (sizes_of catalogue block) samples
    → AllByRecursion (HasRows catalogue block mask) (sampled_choices mask samples)
HasRows-sampled catalogue block samples mask few are =
    AllByRecursion-from_In (HasRows catalogue block mask) (sampled_choices mask samples) (λ rows h.
    HasRows-choice catalogue block mask rows few (IsChoice-sampled (most_sampled (length block.from)) mask (sizes_of catalogue block) samples rows are h))
