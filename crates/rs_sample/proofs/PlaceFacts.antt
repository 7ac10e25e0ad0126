-- Places of choices among all such choices, by the places of their rows in the samples.
use Rattle.std.proofs.Common.{ℕ, zero, suc, ◌≡◌, ◌∙◌, ◌+◌, ◌*◌, ◌/◌, ◌%◌, ◌^◌, ◌<◌, ◌≤◌, Bool, true, false, cond, eqb, List, [], ◌∷◌, ◌++◌, length, map, drop, get_or, refl, sym, ap, subst, inl, inr, arith}
use Rattle.std.specs.List.{flat_map}
use Rattle.std.proofs.lemmas.Bool.{eq-eqb, eqb-false, eqb-true}
use Rattle.std.proofs.lemmas.List.{length-map, map-append}
use Rattle.std.proofs.lemmas.Nat.{mul-le}
use Rattle.std.proofs.Math.Nat.{add-mul, mul_comm}
use Rattle.std.proofs.Math.Seq.{drop-cons}
use Rattle.rs_order.specs.Climbing.{In}
use Rattle.rs_order.proofs.ItemFacts.{In-flat_map-back, In-map-back}
use Rattle.rs_rank.specs.Ids.{rows_inside}
use Rattle.rs_rank.proofs.MaskFacts.{half-behind}
use Rattle.rs_query.specs.Meaning.{is_inside}
use Rattle.rs_sample.specs.Choosing.{sampled_choices}
use Rattle.rs_sample.specs.Finding.{choice_place, place_in, places_in}
use Rattle.rs_sample.specs.Quotients.{product_inside}
use Rattle.rs_sample.proofs.MemberFacts.{before, inside-first, inside-others, length-choices, rows_of}

-- a row of a sample has a place in it
place-within : (row : ℕ) (sample : List ℕ) → In row sample → place_in row sample < length sample
place-within row [] h = absurd h
place-within row (other ∷ sample) h = go (eqb other row) refl (place-within row sample) where
  go : (b : Bool) → eqb other row ≡ b → (In row sample → place_in row sample < length sample) → cond b 0 (suc (place_in row sample)) < suc (length sample)
  go true e within = omega arith
  go false e within = elim h [
    | inl same ↦ absurd (let is : eqb other row ≡ true = eq-eqb other row (sym same) in cc)
    | inr behind ↦ (let less = within behind in omega arith)
  ]

pub place-few : (row most : ℕ) (sample : List ℕ) → length sample ≤ most → place_in row sample ≤ most
place-few row most [] few = omega arith
place-few row most (other ∷ sample) few = go (eqb other row) (place-few row (length sample) sample (omega arith)) where
  go : (b : Bool) → place_in row sample ≤ length sample → cond b 0 (suc (place_in row sample)) ≤ most
  go true less = omega arith
  go false less = omega arith

-- the item at a place of two lists
get-before : {X : Type 0} (xs ys : List X) (i : ℕ) (d : X) → i < length xs → get_or (xs ++ ys) i d ≡ get_or xs i d
get-before [] ys i d within = absurd (omega arith)
get-before (x ∷ xs) ys zero d within = refl
get-before (x ∷ xs) ys (suc i) d within = get-before xs ys i d (omega arith)

get-behind : {X : Type 0} (xs ys : List X) (i : ℕ) (d : X) → get_or (xs ++ ys) (length xs + i) d ≡ get_or ys i d
get-behind [] ys i d = ap (λ n. get_or ys n d) (let same : 0 + i ≡ i = omega arith in same)
get-behind (x ∷ xs) ys i d = ap (λ n. get_or (x ∷ xs ++ ys) n d) (let same : suc (length xs) + i ≡ suc (length xs + i) = omega arith in same) ∙ get-behind xs ys i d

map-before : {X : Type 0} (f : List ℕ → X) (row : ℕ) (choices : List (List ℕ)) → map f (map (before row) choices) ≡ map (λ rows. f (row ∷ rows)) choices
map-before f row [] = refl
map-before f row (rows ∷ choices) = ap (λ rest. f (row ∷ rows) ∷ rest) (map-before f row choices)

-- what a function gives for a choice that begins with a row of a sample
row-at : {X : Type 0} (none : X) (f : List ℕ → X) (choices : List (List ℕ)) (sample : List ℕ) (row j : ℕ) → In row sample → j < length choices
    → get_or (map f (flat_map (λ r. map (before r) choices) sample)) (place_in row sample * length choices + j) none ≡ get_or (map (λ rows. f (row ∷ rows)) choices) j none
row-at none f choices [] row j h within = absurd h
row-at none f choices (other ∷ sample) row j h within =
    ap (λ all. get_or all (place_in row (other ∷ sample) * length choices + j) none) (map-append f (map (before other) choices) (flat_map (λ r. map (before r) choices) sample))
    ∙ go (eqb other row) refl (λ there. row-at none f choices sample row j there within) where
      count : length (map f (map (before other) choices)) ≡ length choices
      count = length-map (map (before other) choices) f ∙ length-map choices (before other)

      go : (b : Bool) → eqb other row ≡ b
          → (In row sample → get_or (map f (flat_map (λ r. map (before r) choices) sample)) (place_in row sample * length choices + j) none ≡ get_or (map (λ rows. f (row ∷ rows)) choices) j none)
          → get_or (map f (map (before other) choices) ++ map f (flat_map (λ r. map (before r) choices) sample)) (cond b 0 (suc (place_in row sample)) * length choices + j) none
          ≡ get_or (map (λ rows. f (row ∷ rows)) choices) j none
      go true e later =
          let same : other ≡ row = eqb-true other row e in
          ap (λ n. get_or (map f (map (before other) choices) ++ map f (flat_map (λ r. map (before r) choices) sample)) n none) (let zero_rows : 0 * length choices + j ≡ j = omega arith in zero_rows)
          ∙ get-before (map f (map (before other) choices)) (map f (flat_map (λ r. map (before r) choices) sample)) j none (subst (λ n. j < n) (sym count) within)
          ∙ ap (λ all. get_or all j none) (map-before f other choices)
          ∙ ap (λ r. get_or (map (λ rows. f (r ∷ rows)) choices) j none) same
      go false e later =
          let n = place_in row sample in
          let wide = add-mul 1 n (length choices) in
          let there : In row sample = elim h [ inl same ↦ absurd (let is : eqb other row ≡ true = eq-eqb other row (sym same) in cc) | inr behind ↦ behind ] in
          ap (λ k. get_or (map f (map (before other) choices) ++ map f (flat_map (λ r. map (before r) choices) sample)) k none)
          (let split : suc n * length choices + j ≡ length (map f (map (before other) choices)) + (n * length choices + j) = omega (arith, count) in split)
          ∙ get-behind (map f (map (before other) choices)) (map f (flat_map (λ r. map (before r) choices) sample)) (n * length choices + j) none
          ∙ later there

-- the row of an entry that is read
read-row : (read mask : ℕ) (sample : List ℕ) (row : ℕ) → is_inside read mask ≡ true → In row (rows_of (eqb (mask % 2) 0) sample) → eqb (read % 2) 0 ≡ false → In row sample
read-row read mask sample row inside h e =
    let odd : read % 2 ≡ 1 = (let some = eqb-false (read % 2) 0 e in omega arith) in
    let one = inside-first read mask inside odd in
    subst (λ b. In row (rows_of b sample)) (let none : eqb (mask % 2) 0 ≡ false = ap (λ n. eqb n 0) one in none) h

-- a choice has a place
pub choice-within : (read mask : ℕ) (samples : List (List ℕ)) (rows : List ℕ) → is_inside read mask ≡ true → In rows (sampled_choices mask samples)
    → choice_place read (map length samples) (places_in samples rows) < product_inside read (map length samples)
choice-within read mask [] rows inside h = omega arith
choice-within read mask (sample ∷ samples) rows inside h =
    let made = In-flat_map-back (λ r. map (before r) (sampled_choices (mask / 2) samples)) rows (rows_of (eqb (mask % 2) 0) sample) h in
    let image = In-map-back (before made.source) rows (sampled_choices (mask / 2) samples) made.made in
    let behind = choice-within (read / 2) (mask / 2) samples image.source (inside-others read mask inside) image.is_in in
    subst (λ all. choice_place read (map length (sample ∷ samples)) (places_in (sample ∷ samples) all) < product_inside read (map length (sample ∷ samples))) (sym image.image)
    (go made.source image.source made.is_in behind (eqb (read % 2) 0) refl) where
      go : (row : ℕ) (rest : List ℕ) → In row (rows_of (eqb (mask % 2) 0) sample)
          → choice_place (read / 2) (map length samples) (places_in samples rest) < product_inside (read / 2) (map length samples)
          → (b : Bool) → eqb (read % 2) 0 ≡ b
          → cond b 0 (place_in row sample * product_inside (read / 2) (map length samples)) + choice_place (read / 2) (map length samples) (places_in samples rest)
          < cond b 1 (length sample) * product_inside (read / 2) (map length samples)
      go row rest is behind true e = omega arith
      go row rest is behind false e =
          let less = place-within row sample (read-row read mask sample row inside is e) in
          let product = product_inside (read / 2) (map length samples) in
          let few = mul-le (suc (place_in row sample)) product (length sample) product (omega arith) (omega arith) in
          let wide = add-mul 1 (place_in row sample) product in
          omega arith

-- what a function gives for a choice of fewer entries stands at its place
pub found-at : {X : Type 0} (none : X) (f : List ℕ → X) (read mask : ℕ) (samples : List (List ℕ)) (rows : List ℕ) → is_inside read mask ≡ true → In rows (sampled_choices mask samples)
    → get_or (map f (sampled_choices read samples)) (choice_place read (map length samples) (places_in samples rows)) none ≡ f (rows_inside read rows)
found-at none f read mask [] rows inside h = elim h [ inl e ↦ ap (λ rs. f (rows_inside read rs)) (sym e) | inr nothing ↦ absurd nothing ]
found-at none f read mask (sample ∷ samples) rows inside h =
    let made = In-flat_map-back (λ r. map (before r) (sampled_choices (mask / 2) samples)) rows (rows_of (eqb (mask % 2) 0) sample) h in
    let image = In-map-back (before made.source) rows (sampled_choices (mask / 2) samples) made.made in
    subst (λ all. get_or (map f (sampled_choices read (sample ∷ samples))) (choice_place read (map length (sample ∷ samples)) (places_in (sample ∷ samples) all)) none ≡ f (rows_inside read all))
    (sym image.image)
    (go made.source image.source made.is_in image.is_in (λ r. found-at none (λ rs. f (r ∷ rs)) (read / 2) (mask / 2) samples image.source (inside-others read mask inside) image.is_in)
    (eqb (read % 2) 0) refl) where
      go : (row : ℕ) (rest : List ℕ) → In row (rows_of (eqb (mask % 2) 0) sample) → In rest (sampled_choices (mask / 2) samples)
          → ((r : ℕ) → get_or (map (λ rs. f (r ∷ rs)) (sampled_choices (read / 2) samples)) (choice_place (read / 2) (map length samples) (places_in samples rest)) none ≡ f (r ∷ rows_inside (read / 2) rest))
          → (b : Bool) → eqb (read % 2) 0 ≡ b
          → get_or (map f (flat_map (λ r. map (before r) (sampled_choices (read / 2) samples)) (rows_of b sample)))
          (cond b 0 (place_in row sample * product_inside (read / 2) (map length samples)) + choice_place (read / 2) (map length samples) (places_in samples rest)) none
          ≡ f (cond b 0 row ∷ rows_inside (read / 2) rest)
      go row rest is there later true e =
          let choices = sampled_choices (read / 2) samples in
          let j = choice_place (read / 2) (map length samples) (places_in samples rest) in
          let within : j < length choices = subst (λ n. j < n) (sym (length-choices (read / 2) samples)) (choice-within (read / 2) (mask / 2) samples rest (inside-others read mask inside) there) in
          ap (λ n. get_or (map f (flat_map (λ r. map (before r) choices) (0 ∷ []))) n none) (let same : 0 + j ≡ 0 * length choices + j = omega arith in same)
          ∙ row-at none f choices (0 ∷ []) 0 j (inl refl) within
          ∙ later 0
      go row rest is there later false e =
          let choices = sampled_choices (read / 2) samples in
          let j = choice_place (read / 2) (map length samples) (places_in samples rest) in
          let within : j < length choices = subst (λ n. j < n) (sym (length-choices (read / 2) samples)) (choice-within (read / 2) (mask / 2) samples rest (inside-others read mask inside) there) in
          ap (λ n. get_or (map f (flat_map (λ r. map (before r) choices) sample)) (place_in row sample * n + j) none) (sym (length-choices (read / 2) samples))
          ∙ row-at none f choices sample row j (read-row read mask sample row inside is e) within
          ∙ later row

-- a place by those of the entries from some entry on
place-step : (mask place : ℕ) (sizes places : List ℕ) → place < length sizes → place < length places
    → choice_place (mask / 2 ^ place) (drop place sizes) (drop place places)
    ≡ cond (eqb (mask / 2 ^ place % 2) 0) 0 (get_or places place 0 * product_inside (mask / 2 ^ suc place) (drop (suc place) sizes))
    + choice_place (mask / 2 ^ suc place) (drop (suc place) sizes) (drop (suc place) places)
place-step mask place sizes places p q = rw (drop-cons sizes place 0 p, drop-cons places place 0 q, half-behind mask place) refl

product-step : (mask place : ℕ) (sizes : List ℕ) → place < length sizes
    → product_inside (mask / 2 ^ place) (drop place sizes) ≡ cond (eqb (mask / 2 ^ place % 2) 0) 1 (get_or sizes place 0) * product_inside (mask / 2 ^ suc place) (drop (suc place) sizes)
product-step mask place sizes within = rw (drop-cons sizes place 0 within, half-behind mask place) refl

module _ (mask place : ℕ) (sizes places : List ℕ) (p : place < length sizes) (q : place < length places) where
  -- the entry isn't in the mask
  pub place-none : mask / 2 ^ place % 2 ≡ 0
      → choice_place (mask / 2 ^ suc place) (drop (suc place) sizes) (drop (suc place) places) ≡ choice_place (mask / 2 ^ place) (drop place sizes) (drop place places)
  place-none bit =
      let step = place-step mask place sizes places p q in
      let none = eq-eqb (mask / 2 ^ place % 2) 0 bit in
      let same = ap (λ b. cond b 0 (get_or places place 0 * product_inside (mask / 2 ^ suc place) (drop (suc place) sizes))
      + choice_place (mask / 2 ^ suc place) (drop (suc place) sizes) (drop (suc place) places)) none in
      sym (step ∙ same ∙ (let zero_first : 0 + choice_place (mask / 2 ^ suc place) (drop (suc place) sizes) (drop (suc place) places)
      ≡ choice_place (mask / 2 ^ suc place) (drop (suc place) sizes) (drop (suc place) places) = omega arith in zero_first))

  pub product-none : mask / 2 ^ place % 2 ≡ 0 → product_inside (mask / 2 ^ suc place) (drop (suc place) sizes) ≡ product_inside (mask / 2 ^ place) (drop place sizes)
  product-none bit =
      let step = product-step mask place sizes p in
      let same = ap (λ b. cond b 1 (get_or sizes place 0) * product_inside (mask / 2 ^ suc place) (drop (suc place) sizes)) (eq-eqb (mask / 2 ^ place % 2) 0 bit) in
      sym (step ∙ same ∙ (let one : 1 * product_inside (mask / 2 ^ suc place) (drop (suc place) sizes) ≡ product_inside (mask / 2 ^ suc place) (drop (suc place) sizes) = omega arith in one))

  -- it is
  pub place-more : mask / 2 ^ place % 2 ≡ 1
      → choice_place (mask / 2 ^ suc place) (drop (suc place) sizes) (drop (suc place) places) + get_or places place 0 * product_inside (mask / 2 ^ suc place) (drop (suc place) sizes)
      ≡ choice_place (mask / 2 ^ place) (drop place sizes) (drop place places)
  place-more bit =
      let step = place-step mask place sizes places p q in
      let same = ap (λ n. cond (eqb n 0) 0 (get_or places place 0 * product_inside (mask / 2 ^ suc place) (drop (suc place) sizes))
      + choice_place (mask / 2 ^ suc place) (drop (suc place) sizes) (drop (suc place) places)) bit in
      sym (step ∙ same ∙ (let turned : get_or places place 0 * product_inside (mask / 2 ^ suc place) (drop (suc place) sizes) + choice_place (mask / 2 ^ suc place) (drop (suc place) sizes) (drop (suc place) places)
      ≡ choice_place (mask / 2 ^ suc place) (drop (suc place) sizes) (drop (suc place) places) + get_or places place 0 * product_inside (mask / 2 ^ suc place) (drop (suc place) sizes) = omega arith in turned))

  pub product-more : mask / 2 ^ place % 2 ≡ 1
      → product_inside (mask / 2 ^ suc place) (drop (suc place) sizes) * get_or sizes place 0 ≡ product_inside (mask / 2 ^ place) (drop place sizes)
  product-more bit =
      let step = product-step mask place sizes p in
      let same = ap (λ n. cond (eqb n 0) 1 (get_or sizes place 0) * product_inside (mask / 2 ^ suc place) (drop (suc place) sizes)) bit in
      mul_comm (product_inside (mask / 2 ^ suc place) (drop (suc place) sizes)) (get_or sizes place 0) ∙ sym (step ∙ same)

-- the places of rows, one by one
pub length-places : (samples : List (List ℕ)) (rows : List ℕ) → length samples ≡ length rows → length (places_in samples rows) ≡ length samples
length-places [] rows same = refl
length-places (sample ∷ samples) [] same = absurd (omega (arith, same))
length-places (sample ∷ samples) (row ∷ rows) same = ap suc (length-places samples rows (omega (arith, same)))

pub places-at : (samples : List (List ℕ)) (rows : List ℕ) (k : ℕ) → k < length samples → k < length rows → get_or (places_in samples rows) k 0 ≡ place_in (get_or rows k 0) (get_or samples k [])
places-at [] rows k p q = absurd (omega arith)
places-at (sample ∷ samples) [] k p q = absurd (omega arith)
places-at (sample ∷ samples) (row ∷ rows) zero p q = refl
places-at (sample ∷ samples) (row ∷ rows) (suc k) p q = places-at samples rows k (omega arith) (omega arith)
