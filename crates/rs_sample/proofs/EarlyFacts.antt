-- Choices that fail among some entries fail among more: they may be left out at once.
use Rattle.std.proofs.Common.{ℕ, zero, suc, ◌≡◌, ◌≢◌, ◌∙◌, ◌+◌, ◌-◌, ◌*◌, ◌/◌, ◌%◌, ◌^◌, ◌<◌, ◌≤◌, ◌&&◌, min, Bool, true, false, cond, List, [], ◌∷◌, length, map, drop, get_or, set, bit_and, refl, sym, ap, ap₂, subst, arith}
use Rattle.std.specs.Int.{bit_at}
use Rattle.std.specs.Int.Bits.{and_self, and_step}
use Rattle.std.specs.List.{AllByRecursion, filter, flat_map, list_all}
use Rattle.std.proofs.lemmas.Bool.{eqb-true, eq-eqb}
use Rattle.std.proofs.lemmas.List.{append-nil, drop_all, get_or-set_other}
use Rattle.std.proofs.lemmas.Nat.{and_assoc, pow_pos}
use Rattle.std.proofs.lemmas.Simd.{map-map}
use Rattle.std.proofs.lemmas.Nat.Bits.{bit_at_and}
use Rattle.std.proofs.lemmas.Option.{unwrap_or-slice_get}
use Rattle.std.proofs.Math.Nat.{mul-div_cancel, mul-le-mul_left, mul-one, pow-suc}
use Rattle.rs_order.specs.Climbing.{In}
use Rattle.rs_order.proofs.ClimbingFacts.{AllByRecursion-from_In}
use Rattle.rs_order.proofs.ItemFacts.{In-filter-back, In-flat_map, In-map, filter-flat_map}
use Rattle.rs_rank.proofs.MaskFacts.{half-behind}
use Rattle.rs_catalog.specs.Catalog.{CatalogDef}
use Rattle.rs_query.specs.Choices.{AgreeOn}
use Rattle.rs_query.specs.Combinations.{holds_inside, satisfies}
use Rattle.rs_query.specs.Conjuncts.{ConjunctDef}
use Rattle.rs_query.specs.Meaning.{conjunct_holds, is_inside}
use Rattle.rs_query.specs.WellFormed.{IsBlock, IsConjunct}
use Rattle.rs_query.specs.declared.block.Block.{Block}
use Rattle.rs_query.proofs.LocalFacts.{conjunct_holds-local}
use Rattle.rs_sample.specs.Choosing.{sampled_choices}
use Rattle.rs_sample.specs.Estimates.{sampled_combinations}
use Rattle.rs_sample.proofs.ChoiceFacts.{behind, choices_from-each, map-same}
use Rattle.rs_sample.proofs.ListFacts.{get_or-other}
use Rattle.rs_sample.proofs.MemberFacts.{inside-itself, length-rows}

-- the entries of a mask from a place on, by those behind it
pub taken-skips : (mask place : ℕ) → mask / 2 ^ place % 2 ≡ 0 → mask / 2 ^ suc place * 2 ^ suc place ≡ mask / 2 ^ place * 2 ^ place
taken-skips mask place bit =
    let half = half-behind mask place in
    let n = mask / 2 ^ place in
    let even : n ≡ n / 2 * 2 = omega arith in
    (λ i. half i * pow-suc 2 place i) ∙ sym (ap (λ k. k * 2 ^ place) even ∙ (let w = 2 ^ place in let h = n / 2 in let same : h * 2 * w ≡ h * (w * 2) = omega arith in same))

pub taken-adds : (mask place : ℕ) → mask / 2 ^ place % 2 ≡ 1 → mask / 2 ^ suc place * 2 ^ suc place + 2 ^ place ≡ mask / 2 ^ place * 2 ^ place
taken-adds mask place bit =
    let half = half-behind mask place in
    let n = mask / 2 ^ place in
    let odd : n ≡ n / 2 * 2 + 1 = omega arith in
    (λ i. half i * pow-suc 2 place i + 2 ^ place) ∙ sym (ap (λ k. k * 2 ^ place) odd ∙ (let w = 2 ^ place in let h = n / 2 in let same : (h * 2 + 1) * w ≡ h * (w * 2) + w = omega arith in same))

-- the entry at the place isn't among them
pub taken-clear : (n place : ℕ) → bit_at (n * 2 ^ suc place) place ≡ 0
taken-clear n place =
    let twice : n * 2 ^ suc place ≡ 2 * n * 2 ^ place = (let power = pow-suc 2 place in ap (λ w. n * w) power ∙ (let w = 2 ^ place in let same : n * (w * 2) ≡ 2 * n * w = omega arith in same)) in
    ap (λ m. m / 2 ^ place % 2) twice ∙ ap (λ m. m % 2) (mul-div_cancel (2 * n) (pow_pos place)) ∙ (let even : 2 * n % 2 ≡ 0 = omega arith in even)

-- and they are among those with that entry
double-and : (a b : ℕ) → bit_and (2 * a) (2 * b) ≡ 2 * bit_and a b
double-and a b =
    and_step (2 * a) (2 * b)
    ∙ (λ i. bit_and ((let half : 2 * a / 2 ≡ a = omega arith in half) i) ((let half : 2 * b / 2 ≡ b = omega arith in half) i) * 2
    + min ((let even : 2 * a % 2 ≡ 0 = omega arith in even) i) ((let even : 2 * b % 2 ≡ 0 = omega arith in even) i))
    ∙ (let same : bit_and a b * 2 + 0 ≡ 2 * bit_and a b = omega arith in same)

pub taken-inside : (n place : ℕ) → bit_and (n * 2 ^ suc place) (n * 2 ^ suc place + 2 ^ place) ≡ n * 2 ^ suc place
taken-inside n zero =
    and_step (n * 2) (n * 2 + 1)
    ∙ (λ i. bit_and ((let half : n * 2 / 2 ≡ n = omega arith in half) i) ((let half : (n * 2 + 1) / 2 ≡ n = omega arith in half) i) * 2
    + min ((let even : n * 2 % 2 ≡ 0 = omega arith in even) i) ((let odd : (n * 2 + 1) % 2 ≡ 1 = omega arith in odd) i))
    ∙ ap (λ m. m * 2 + 0) (and_self n)
    ∙ (let same : n * 2 + 0 ≡ n * 2 = omega arith in same)
taken-inside n (suc place) =
    let x = n * 2 ^ suc place in
    let first : n * 2 ^ suc (suc place) ≡ 2 * x = ap (λ w. n * w) (pow-suc 2 (suc place)) ∙ (let w = 2 ^ suc place in let same : n * (w * 2) ≡ 2 * (n * w) = omega arith in same) in
    let second : n * 2 ^ suc (suc place) + 2 ^ suc place ≡ 2 * (x + 2 ^ place) = (let power = pow-suc 2 place in omega (arith, first, power)) in
    (λ i. bit_and (first i) (second i)) ∙ double-and x (x + 2 ^ place) ∙ ap (λ m. 2 * m) (taken-inside n place) ∙ sym first

-- what is inside one mask is inside a wider one
inside-wider : (entries mask wider : ℕ) → bit_and mask wider ≡ mask → is_inside entries mask ≡ true → is_inside entries wider ≡ true
inside-wider entries mask wider within inside =
    let same : bit_and entries mask ≡ entries = eqb-true (bit_and entries mask) entries inside in
    eq-eqb (bit_and entries wider) entries (ap (λ e. bit_and e wider) (sym same) ∙ and_assoc wider entries mask ∙ ap (bit_and entries) within ∙ same)

-- rows agree on the entries of a mask with those of which the row of another entry is changed
agree-changed : (entries mask place row : ℕ) (rows : List ℕ) → is_inside entries mask ≡ true → bit_at mask place ≡ 0 → AgreeOn entries rows (set rows place row)
agree-changed entries mask place row rows inside clear = λ entry some has.
    let own : bit_at entries (entry - 1) ≡ 1 = eqb-true (bit_at entries (entry - 1)) 1 has in
    let other : entry - 1 ≢ place = (λ same.
    let both = bit_at_and entries mask place in
    let is : bit_at (bit_and entries mask) place ≡ bit_at entries place = ap (λ n. bit_at n place) (eqb-true (bit_and entries mask) entries inside) in
    let at : bit_at entries place ≡ 1 = ap (bit_at entries) (sym same) ∙ own in
    omega arith) in
    unwrap_or-slice_get rows (entry - 1) 0
    ∙ sym (get_or-set_other rows place (entry - 1) row 0 other)
    ∙ sym (unwrap_or-slice_get (set rows place row) (entry - 1) 0)

-- a test that each item passes which passes another one
and-left : (b c : Bool) → (b && c) ≡ true → b ≡ true
and-left true c e = refl
and-left false c e = e

and-right : (b c : Bool) → (b && c) ≡ true → c ≡ true
and-right true c e = e
and-right false c e = absurd (let both : false ≡ true = e in cc)

all-weaker : {X : Type 0} (P : X → Type 0) (f g : X → Bool) → ((x : X) → P x → f x ≡ true → g x ≡ true) → (xs : List X) → AllByRecursion P xs → list_all f xs ≡ true → list_all g xs ≡ true
all-weaker P f g weaker [] all e = refl
all-weaker P f g weaker (x ∷ xs) all e =
    ap₂ (λ b c. b && c) (weaker x all.0 (and-left (f x) (list_all f xs) e)) (all-weaker P f g weaker xs all.1 (and-right (f x) (list_all f xs) e))

module _ (catalogue : CatalogDef) (block : Block) (mask wider place row : ℕ) (rows : List ℕ) (within : bit_and mask wider ≡ mask) (clear : bit_at mask place ≡ 0) where
  -- a conjunct that holds with one more entry holds without it
  holds-earlier : (conjunct : ConjunctDef) → IsConjunct catalogue block conjunct → holds_inside catalogue block wider (set rows place row) conjunct ≡ true
      → holds_inside catalogue block mask rows conjunct ≡ true
  holds-earlier conjunct is holds = go (is_inside conjunct.entries mask) refl where
    go : (b : Bool) → is_inside conjunct.entries mask ≡ b → cond b (conjunct_holds catalogue block rows conjunct) true ≡ true
    go true inside =
        conjunct_holds-local catalogue block conjunct.entries rows (set rows place row) (agree-changed conjunct.entries mask place row rows inside clear) conjunct is
        (inside-itself conjunct.entries)
        ∙ ap (λ b. cond b (conjunct_holds catalogue block (set rows place row) conjunct) true) (sym (inside-wider conjunct.entries mask wider within inside))
        ∙ holds
    go false outside = refl

  satisfies-earlier : IsBlock catalogue block → satisfies catalogue block wider (set rows place row) ≡ true → satisfies catalogue block mask rows ≡ true
  satisfies-earlier formed holds =
      all-weaker (IsConjunct catalogue block) (holds_inside catalogue block wider (set rows place row)) (holds_inside catalogue block mask rows) holds-earlier
      block.conjuncts formed.conjuncts holds

-- what fails a test that all pass which pass a later one may be left out before that one
filter-earlier : {X Y : Type 0} (p : Y → Bool) (q : X → Bool) (f : X → Y) → ((x : X) → p (f x) ≡ true → q x ≡ true) → (xs : List X)
    → filter p (map f (filter q xs)) ≡ filter p (map f xs)
filter-earlier p q f needs [] = refl
filter-earlier p q f needs (x ∷ xs) = go (q x) refl (filter-earlier p q f needs xs) where
  skip : (b : Bool) → p (f x) ≡ b → q x ≡ false → filter p (map f xs) ≡ cond b (f x ∷ filter p (map f xs)) (filter p (map f xs))
  skip true passes fails = absurd (let both : q x ≡ true = needs x passes in cc)
  skip false e fails = refl

  go : (b : Bool) → q x ≡ b → filter p (map f (filter q xs)) ≡ filter p (map f xs)
      → filter p (map f (cond b (x ∷ filter q xs) (filter q xs))) ≡ cond (p (f x)) (f x ∷ filter p (map f xs)) (filter p (map f xs))
  go true e rest = ap (λ all. cond (p (f x)) (f x ∷ all) all) rest
  go false e rest = rest ∙ skip (p (f x)) refl e

-- choices of later entries are those of a mask without the first ones
even-shifted : (n place : ℕ) → n * 2 ^ suc place % 2 ≡ 0
even-shifted n place = let power : n * 2 ^ suc place ≡ n * (2 ^ place * 2) = ap (λ w. n * w) (pow-suc 2 place) in
    let w = 2 ^ place in let same : n * (w * 2) ≡ 2 * (n * w) = omega arith in omega arith

half-shifted : (n place : ℕ) → n * 2 ^ suc place / 2 ≡ n * 2 ^ place
half-shifted n place = let power : n * 2 ^ suc place ≡ n * (2 ^ place * 2) = ap (λ w. n * w) (pow-suc 2 place) in
    let w = 2 ^ place in let same : n * (w * 2) ≡ 2 * (n * w) = omega arith in omega arith

pub choices-shifted : (place n : ℕ) (samples : List (List ℕ)) → place ≤ length samples → map (behind place) (sampled_choices n (drop place samples)) ≡ sampled_choices (n * 2 ^ place) samples
choices-shifted zero n samples few = map-same (sampled_choices n samples) ∙ ap (λ m. sampled_choices m samples) (sym (mul-one n))
choices-shifted (suc place) n [] few = absurd (omega arith)
choices-shifted (suc place) n (sample ∷ samples) few =
    sym (map-map (λ rows. 0 ∷ rows) (behind place) (sampled_choices n (drop place samples)))
    ∙ ap (map (λ rows. 0 ∷ rows)) (choices-shifted place n samples (omega arith) ∙ ap (λ m. sampled_choices m samples) (sym (half-shifted n place)))
    ∙ sym (append-nil (map (λ rows. 0 ∷ rows) (sampled_choices (n * 2 ^ suc place / 2) samples)))
    ∙ ap (λ b. flat_map (λ row. map (λ rows. row ∷ rows) (sampled_choices (n * 2 ^ suc place / 2) samples)) (cond b (0 ∷ []) sample)) (sym (eq-eqb (n * 2 ^ suc place % 2) 0 (even-shifted n place)))

-- where no entry is taken there is one choice
pub choices-none : (samples : List (List ℕ)) → length samples ≡ 6 → sampled_choices 0 samples ≡ (0 ∷ 0 ∷ 0 ∷ 0 ∷ 0 ∷ 0 ∷ []) ∷ []
choices-none samples six =
    sym (choices-shifted 6 0 samples (omega arith)) ∙ ap (λ later. map (behind 6) (sampled_choices 0 later)) (drop_all 6 samples (omega arith))

-- the choices with one more entry
module _ (mask place : ℕ) (samples : List (List ℕ)) (within : place < length samples) (bit : mask / 2 ^ place % 2 ≡ 1) where
  abbrev taken : ℕ
  taken = mask / 2 ^ suc place * 2 ^ suc place

  abbrev more : ℕ
  more = taken + 2 ^ place

  abbrev sample : List ℕ
  sample = get_or samples place []

  pub choices-next : flat_map (λ row. map (λ rows. set rows place row) (sampled_choices taken samples)) sample ≡ sampled_choices more samples
  choices-next =
      choices_from-each mask samples place sample (sampled_choices taken samples) within (get_or-other samples place [] within) bit
      (sym (choices-shifted (suc place) (mask / 2 ^ suc place) samples (omega arith)))
      ∙ choices-shifted place (mask / 2 ^ place) samples (omega arith)
      ∙ ap (λ m. sampled_choices m samples) (sym (taken-adds mask place bit))

  pub few-next : (before after : ℕ) → before ≤ length (sampled_choices taken samples) → after ≤ length sample * before → after ≤ length (sampled_choices more samples)
  few-next before after few most =
      let all : length sample * length (sampled_choices taken samples) ≡ length (sampled_choices more samples) =
      sym (length-rows (λ row rows. set rows place row) sample (sampled_choices taken samples)) ∙ ap length choices-next in
      let wide = mul-le-mul_left (length sample) few in
      omega arith

  module _ (catalogue : CatalogDef) (block : Block) where
    pub combinations-next : IsBlock catalogue block
        → flat_map (λ row. filter (satisfies catalogue block more) (map (λ rows. set rows place row) (sampled_combinations catalogue block samples taken))) sample
        ≡ sampled_combinations catalogue block samples more
    combinations-next formed =
        (λ i. flat_map (λ row. each row i) sample)
        ∙ sym (filter-flat_map (satisfies catalogue block more) (λ row. map (λ rows. set rows place row) (sampled_choices taken samples)) sample)
        ∙ ap (filter (satisfies catalogue block more)) choices-next
      where
        each : (row : ℕ) → filter (satisfies catalogue block more) (map (λ rows. set rows place row) (sampled_combinations catalogue block samples taken))
            ≡ filter (satisfies catalogue block more) (map (λ rows. set rows place row) (sampled_choices taken samples))
        each row =
            filter-earlier (satisfies catalogue block more) (satisfies catalogue block taken) (λ rows. set rows place row)
            (λ rows holds. satisfies-earlier catalogue block taken more place row rows (taken-inside (mask / 2 ^ suc place) place) (taken-clear (mask / 2 ^ suc place) place) formed holds)
            (sampled_choices taken samples)

    pub members-next : AllByRecursion (λ row. AllByRecursion (λ rows. In (set rows place row) (sampled_choices more samples)) (sampled_combinations catalogue block samples taken)) sample
    members-next =
        AllByRecursion-from_In (λ row. AllByRecursion (λ rows. In (set rows place row) (sampled_choices more samples)) (sampled_combinations catalogue block samples taken)) sample
        (λ row row_in. AllByRecursion-from_In (λ rows. In (set rows place row) (sampled_choices more samples)) (sampled_combinations catalogue block samples taken)
        (λ rows rows_in. subst (In (set rows place row)) choices-next
        (In-flat_map (λ r. map (λ rs. set rs place r) (sampled_choices taken samples)) row (set rows place row) sample row_in
        (In-map (λ rs. set rs place row) rows (sampled_choices taken samples) (In-filter-back (satisfies catalogue block taken) rows (sampled_choices taken samples) rows_in).0))))
