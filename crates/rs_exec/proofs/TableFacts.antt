-- The list of a scan of a table is its rows that satisfy the conjuncts of its entry, in the order of the table.
use Rattle.std.proofs.Common.{◌≡◌, ◌∙◌, ℕ, zero, suc, ◌+◌, ◌-◌, ◌/◌, ◌^◌, ◌<◌, ◌≤◌, Bool, true, false, cond, eqb, List, [], ◌∷◌, ◌++◌, length, map, set, get_or, refl, sym, ap, subst, arith}
use Rattle.std.proofs.lemmas.List.{append-nil, map-append}
use Rattle.std.specs.List.{filter, flat_map}
use Rattle.std.specs.Prelude.{slice_get, unwrap_or}
use Rattle.rs_order.specs.Climbing.{Climbs, HasDistinctKeys}
use Rattle.rs_order.specs.Sorting.{sorted}
use Rattle.rs_order.proofs.ClimbingFacts.{Climbs-same}
use Rattle.rs_order.proofs.ItemFacts.{Climbs-filter}
use Rattle.rs_order.proofs.SortingFacts.{Climbs-sorted, In-sorted, In-sorted-back}
use Rattle.rs_rank.specs.Keys.{key_cmp}
use Rattle.rs_rank.specs.Masks.{mask_of}
use Rattle.rs_rank.specs.Weights.{sum_inside}
use Rattle.rs_rank.specs.declared.ids.Ids.{Ids}
use Rattle.rs_rank.specs.declared.key.Key.{Key}
use Rattle.rs_rank.specs.declared.row.RankRow.{RankRow}
use Rattle.rs_rank.proofs.MaskFacts.{even-power, half-power}
use Rattle.rs_rank.proofs.OrderFacts.{key_cmp-total}
use Rattle.rs_rank.proofs.PlaceFacts.{zeros}
use Rattle.rs_query.specs.Combinations.{choices, numbers_to, satisfies}
use Rattle.rs_query.specs.Tables.{sizes_of}
use Rattle.rs_scan.specs.Scans.{entry_row, rows_from, table_rows}
use Rattle.rs_scan.proofs.ScanFacts.{table-climbs}
use Rattle.rs_plan.specs.Counts.{size_at}
use Rattle.rs_plan.specs.Lists.{World, numbered_block, key_under, list_of, row_under, sizes_in, weights_in, worths}
use Rattle.rs_plan.specs.Trees.{SeqScan}
use Rattle.rs_exec.specs.Drawing.{passes}
use Rattle.rs_exec.proofs.ListFacts.{keys-of, unsorted, unsorted-others}

-- one list for each item, of one item each
flat_map-singles : {A B : Type 0} (f : A → B) (xs : List A) → flat_map (λ x. f x ∷ []) xs ≡ map f xs
flat_map-singles f [] = refl
flat_map-singles f (x ∷ xs) = ap (λ rest. f x ∷ rest) (flat_map-singles f xs)

pub map-twice : {A B C : Type 0} (g : B → C) (f : A → B) (xs : List A) → map g (map f xs) ≡ map (λ x. g (f x)) xs
map-twice g f [] = refl
map-twice g f (x ∷ xs) = ap (λ rest. g (f x) ∷ rest) (map-twice g f xs)

map-alike : {A B : Type 0} (f g : A → B) (xs : List A) → ((x : A) → f x ≡ g x) → map f xs ≡ map g xs
map-alike f g [] same = refl
map-alike f g (x ∷ xs) same = ap (λ y. y ∷ map f xs) (same x) ∙ ap (λ rest. g x ∷ rest) (map-alike f g xs same)

pub filter-mapped : {A B : Type 0} (p : B → Bool) (f : A → B) (xs : List A) → filter p (map f xs) ≡ map f (filter (λ x. p (f x)) xs)
filter-mapped p f [] = refl
filter-mapped p f (x ∷ xs) =
    elim (p (f x)) as (λ b. cond b (f x ∷ filter p (map f xs)) (filter p (map f xs)) ≡ map f (cond b (x ∷ filter (λ x. p (f x)) xs) (filter (λ x. p (f x)) xs))) [
      | true ↦ ap (λ rest. f x ∷ rest) (filter-mapped p f xs)
      | false ↦ filter-mapped p f xs
    ]

-- no row of any entry
abbrev none_of : List ℕ → List ℕ
none_of [] = []
none_of (size ∷ sizes) = 0 ∷ none_of sizes

choices-none : (sizes : List ℕ) → choices 0 sizes ≡ none_of sizes ∷ []
choices-none [] = refl
choices-none (size ∷ sizes) = ap (λ (all : List (List ℕ)). map (λ rows. 0 ∷ rows) all ++ []) (choices-none sizes)

-- the choices of one entry are its row numbers
choices-one : (i : ℕ) (sizes : List ℕ) → i < length sizes → choices (2 ^ i) sizes ≡ map (set (none_of sizes) i) (numbers_to (get_or sizes i 0))
choices-one i [] within = absurd (omega arith)
choices-one zero (size ∷ sizes) within =
    ap (λ (all : List (List ℕ)). flat_map (λ (row : ℕ). map (λ rows. row ∷ rows) all) (numbers_to size)) (choices-none sizes)
    ∙ flat_map-singles (λ (row : ℕ). row ∷ none_of sizes) (numbers_to size)
choices-one (suc i) (size ∷ sizes) within =
    ap (λ k. flat_map (λ (row : ℕ). map (λ rows. row ∷ rows) (choices (2 ^ suc i / 2) sizes)) (cond (eqb k 0) (0 ∷ []) (numbers_to size))) (even-power i)
    ∙ append-nil (map (λ rows. 0 ∷ rows) (choices (2 ^ suc i / 2) sizes))
    ∙ ap (λ mask. map (λ rows. 0 ∷ rows) (choices mask sizes)) (half-power i)
    ∙ ap (map (λ rows. 0 ∷ rows)) (choices-one i sizes (omega arith))
    ∙ map-twice (λ rows. 0 ∷ rows) (set (none_of sizes) i) (numbers_to (get_or sizes i 0))

-- rows from one on are those of the numbers up to the last
rows-snoc : (block entry first count : ℕ) → rows_from block entry first (suc count) ≡ rows_from block entry first count ++ entry_row block entry (first + count) 0 ∷ []
rows-snoc block entry first zero = let same : first ≡ first + 0 = omega arith in ap (λ n. entry_row block entry n 0 ∷ []) same
rows-snoc block entry first (suc count) =
    let same : suc first + count ≡ first + suc count = omega arith in
    ap (λ (rest : List RankRow). entry_row block entry first 0 ∷ rest) (rows-snoc block entry (suc first) count)
    ∙ ap (λ n. rows_from block entry first (suc count) ++ entry_row block entry n 0 ∷ []) same

rows-numbers : (block entry count : ℕ) → rows_from block entry 1 count ≡ map (λ (n : ℕ). entry_row block entry n 0) (numbers_to count)
rows-numbers block entry zero = refl
rows-numbers block entry (suc count) =
    let same : 1 + count ≡ suc count = omega arith in
    rows-snoc block entry 1 count
    ∙ ap (λ (rows : List RankRow). rows ++ entry_row block entry (1 + count) 0 ∷ []) (rows-numbers block entry count)
    ∙ ap (λ n. map (λ (n : ℕ). entry_row block entry n 0) (numbers_to count) ++ entry_row block entry n 0 ∷ []) same
    ∙ sym (map-append (λ (n : ℕ). entry_row block entry n 0) (numbers_to count) (suc count ∷ []))

-- a list in order stays as it is
pub sorted-same : {X : Type 0} (key : X → Key) (xs : List X) → HasDistinctKeys key_cmp key xs → Climbs key_cmp key xs → sorted key_cmp key xs ≡ xs
sorted-same key xs distinct climbs =
    Climbs-same key_cmp key_cmp-total key (sorted key_cmp key xs) xs (Climbs-sorted key_cmp key_cmp-total key xs distinct) climbs
    (λ z h. In-sorted-back key_cmp key xs z h) (λ z h. In-sorted key_cmp key xs z h)

-- no term gives anything
pub sum-none : (weights values : List ℕ) → sum_inside 0 weights values ≡ 0
sum-none [] values = refl
sum-none (w ∷ ws) [] = refl
sum-none (w ∷ ws) (v ∷ vs) = let rest = sum-none ws vs in omega arith

module _ (w : World) (number entry : ℕ) (some : 1 ≤ entry) (few : entry ≤ 6) (sizes : sizes_in w number ≡ sizes_of w.catalogue (numbered_block w number)) where
  abbrev row : ℕ → RankRow
  row n = entry_row number entry n 0

  abbrev ids : List ℕ → Ids
  ids rows = record { block = number; mask = mask_of entry; rows = rows }

  size-is : get_or (sizes_in w number) (entry - 1) 0 ≡ size_at w number entry
  size-is = unwrapped (sizes_in w number) (entry - 1) where
    unwrapped : (xs : List ℕ) (i : ℕ) → get_or xs i 0 ≡ unwrap_or (slice_get xs i) 0
    unwrapped [] i = refl
    unwrapped (x ∷ xs) zero = refl
    unwrapped (x ∷ xs) (suc i) = unwrapped xs i

  pub choices-are : choices (mask_of entry) (sizes_in w number) ≡ map (set zeros (entry - 1)) (numbers_to (size_at w number entry))
  choices-are =
      let six : length (sizes_in w number) ≡ 6 = ap (λ (all : List ℕ). length all) sizes in
      choices-one (entry - 1) (sizes_in w number) (omega arith)
      ∙ ap (λ (all : List ℕ). map (set (none_of all) (entry - 1)) (numbers_to (get_or (sizes_in w number) (entry - 1) 0))) sizes
      ∙ ap (λ n. map (set zeros (entry - 1)) (numbers_to n)) size-is

  row-is : (n : ℕ) → row_under w 0 (ids (set zeros (entry - 1) n)) ≡ row n
  row-is n = ap (λ (sum : ℕ). record { ids = ids (set zeros (entry - 1) n); sum = sum }) (sum-none (weights_in w).weight (worths w (ids (set zeros (entry - 1) n))))

  -- before they are put into order, the rows stand as in the table
  unsorted-is : unsorted w number (SeqScan entry) ≡ filter (passes w.catalogue w.query) (table_rows number entry (size_at w number entry))
  unsorted-is =
      let holds = satisfies w.catalogue (numbered_block w number) (mask_of entry) in
      let numbers = numbers_to (size_at w number entry) in
      let kept = filter (λ n. holds (set zeros (entry - 1) n)) numbers in
      ap (λ (all : List (List ℕ)). map (row_under w 0) (map ids (filter holds all))) choices-are
      ∙ ap (λ (all : List (List ℕ)). map (row_under w 0) (map ids all)) (filter-mapped holds (set zeros (entry - 1)) numbers)
      ∙ ap (map (row_under w 0)) (map-twice ids (set zeros (entry - 1)) kept)
      ∙ map-twice (row_under w 0) (λ n. ids (set zeros (entry - 1) n)) kept
      ∙ map-alike (λ n. row_under w 0 (ids (set zeros (entry - 1) n))) row kept row-is
      ∙ sym (filter-mapped (passes w.catalogue w.query) row numbers)
      ∙ ap (filter (passes w.catalogue w.query)) (sym (rows-numbers number entry (size_at w number entry)))

  pub table-list : list_of w number (SeqScan entry) ≡ filter (passes w.catalogue w.query) (table_rows number entry (size_at w number entry))
  table-list =
      sorted-same (key_under w 0) (unsorted w number (SeqScan entry))
      (keys-of (key_under w 0) (λ r. refl) (unsorted w number (SeqScan entry)) (unsorted-others w number (SeqScan entry)))
      (subst (Climbs key_cmp (key_under w 0)) (sym unsorted-is)
      (Climbs-filter key_cmp (key_under w 0) (passes w.catalogue w.query) (table_rows number entry (size_at w number entry))
      (table-climbs number entry (record { least = some; most = few }) (weights_in w) 1 (size_at w number entry))))
      ∙ unsorted-is
