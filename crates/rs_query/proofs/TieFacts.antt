-- Rows of equal cells: from keys that stand for the cells, and as the rows that fit a tie.
use Rattle.std.proofs.Common.{ℕ, ℤ, zero, suc, ◌≡◌, ◌∙◌, ◌+◌, ◌-◌, ◌<◌, ◌≤◌, ◌⊎◌, ◌++◌, cond, nat_le, List, [], ◌∷◌, length, get_or, Option, None, Some, pos, refl, sym, ap, subst, inl, inr, arith}
use Rattle.std.specs.Prelude.{◌↔◌, IfOk, IfSome, Result, Ok, Err, option_and_then, slice_get, unwrap_or}
use Rattle.std.specs.Cmp.{int_cmp_total}
use Rattle.std.specs.Cmp.Lexicographic.{nat_list_cmp_total, slice_cmp}
use Rattle.std.specs.Ordering.{int_cmp, nat_cmp}
use Rattle.std.proofs.lemmas.Cmp.{tied_itself}
use Rattle.std.proofs.lemmas.Map.Lookups.{exact_bytes, exact_signed}
use Rattle.rs_value.specs.declared.value.Value.TheVariants as value
use Rattle.rs_table.specs.Relation.{Relation, cell_at}
use Rattle.std.specs.declared.cmp.Ordering.{Ordering}
use Rattle.std.specs.declared.cmp.Ordering.TheVariants.{Equal}
use Rattle.std.proofs.lemmas.Option.{slice_get_cases, slice_get_read}
use Rattle.rs_value.specs.declared.value.Value.{Value}
use Rattle.rs_rank.specs.Masks.{mask_of}
use Rattle.rs_catalog.specs.Catalog.{CatalogDef}
use Rattle.rs_query.specs.declared.block.Block.{Block}
use Rattle.rs_query.specs.declared.equal_rows.EqualRows.{EqualRows}
use Rattle.rs_query.specs.declared.listed.Listed.{Listed}
use Rattle.rs_query.specs.declared.tie.Tie.{Tie}
use Rattle.rs_query.specs.Conjuncts.{ConjunctDef}
use Rattle.rs_query.specs.Meaning.{column_value}
use Rattle.rs_query.specs.EqualRows.{AreFirst, AreKeys, AreNextBehind, AreSameRows, HasKey, IsEqualKey, IsNext}
use Rattle.rs_query.specs.Searching.{AreEqualRows, AreEquated, AreListed, AreTied, Fits, IsEquatedBy, IsTied, cell_of, left_cells, other_columns, right_cells, tied_columns}
use Rattle.rs_query.specs.Tables.{HasRow, HasRows, entry_table, row_number, size_of}
use Rattle.rs_query.specs.WellFormed.{IsBlock, IsColumn, IsConjunct, column_kind}
use Rattle.rs_order.proofs.ClimbingFacts.{AllByRecursion-In}
use Rattle.rs_order.proofs.PartFacts.{In-slice_get}
use Rattle.rs_query.proofs.EquatedFacts.{equality-kinds}
use Rattle.rs_query.proofs.MaskStepFacts.{own-number}
use Rattle.rs_query.proofs.NextFacts.{IsNext-cut, IsNext-same}

-- the key of a row
pub record IsKeyOf {K V : Type 0} (reads : K → V) (cell : ℕ → V) (keys : List K) (row : ℕ) : Type 0 where
  pub key : K
  pub there : slice_get keys (row - 1) ≡ Some key
  pub is_value : cell row ≡ reads key

key-of : {K V : Type 0} (reads : K → V) (cell : ℕ → V) (size : ℕ) (keys : List K) (row : ℕ) → AreKeys reads cell size keys → 1 ≤ row → row ≤ size → IsKeyOf reads cell keys row
key-of reads cell size keys row are some most = elim (slice_get_cases keys (row - 1)).1 [
  | inl at ↦ record { key = at.0; there = at.2; is_value = ap cell (let back : row ≡ row - 1 + 1 = omega arith in back) ∙ are.values (row - 1) at.0 at.2 }
  | inr past ↦ let sized = are.sized in absurd (omega (arith, past.0))
]

module _ {K V : Type 0} (cmp : K → K → Ordering) (reads : K → V) (exact : (a b : K) → (cmp a b ≡ Equal) ↔ (reads a ≡ reads b)) (cell : ℕ → V) (size : ℕ) (keys : List K)
    (are : AreKeys reads cell size keys) where
  -- a row has an equal key where its cell is that value
  key-cell : (key : K) (row : ℕ) → 1 ≤ row → row ≤ size → HasKey cmp keys key row → reads key ≡ cell row
  key-cell key row some most has =
      let k = key-of reads cell size keys row are some most in
      (exact key k.key).0 (subst (IsEqualKey cmp key) k.there has) ∙ sym k.is_value

  cell-key : (key : K) (row : ℕ) → 1 ≤ row → row ≤ size → reads key ≡ cell row → HasKey cmp keys key row
  cell-key key row some most same =
      let k = key-of reads cell size keys row are some most in
      subst (IsEqualKey cmp key) (sym k.there) ((exact key k.key).1 (same ∙ k.is_value))

  -- so the next row with an equal key is the next one with that cell
  next-cell : (key : K) (v : V) (behind found : ℕ) → v ≡ reads key → IsNext (HasKey cmp keys key) behind (length keys) found → IsNext (λ row. v ≡ cell row) behind size found
  next-cell key v behind found is next =
      IsNext-same (HasKey cmp keys key) (λ row. v ≡ cell row) behind size found
      (λ row above most has. is ∙ key-cell key row (omega arith) most has)
      (λ row above most same. cell-key key row (omega arith) most (sym is ∙ same))
      (subst (λ n. IsNext (HasKey cmp keys key) behind n found) are.sized next)

-- the rows of equal keys are those of equal values
pub AreSameRows-keys : {K V : Type 0} (cmp : K → K → Ordering) (reads : K → V) → ((a b : K) → (cmp a b ≡ Equal) ↔ (reads a ≡ reads b))
    → (left right : ℕ → V) (left_size right_size : ℕ) (lefts rights : List K) (first next : List ℕ)
    → AreKeys reads left left_size lefts → AreKeys reads right right_size rights
    → length first ≡ length lefts → length next ≡ length rights → AreFirst cmp lefts rights first → AreNextBehind cmp 0 rights next
    → AreSameRows left right left_size right_size first next
AreSameRows-keys cmp reads exact left right left_size right_size lefts rights first next left_keys right_keys sized_first sized_next are_first are_next = record {
  first_sized = sized_first ∙ left_keys.sized;
  next_sized = sized_next ∙ right_keys.sized;
  firsts = λ row some most.
      let k = key-of reads left left_size lefts row left_keys some most in
      next-cell cmp reads exact right right_size rights right_keys k.key (left row) 0 (unwrap_or (slice_get first (row - 1)) 0) k.is_value (are_first (row - 1) k.key k.there);
  nexts = λ row some most.
      let k = key-of reads right right_size rights row right_keys some most in
      next-cell cmp reads exact right right_size rights right_keys k.key (right row) row (unwrap_or (slice_get next (row - 1)) 0) k.is_value (are_next row k.key (omega arith) k.there);
}

-- and those of other values that are equal where these are
pub AreSameRows-same : {V W : Type 0} (left right : ℕ → V) (left_too right_too : ℕ → W) (lefts rights : ℕ) (first next : List ℕ)
    → ((row other : ℕ) → 1 ≤ row → row ≤ lefts → 1 ≤ other → other ≤ rights → (left row ≡ right other) ↔ (left_too row ≡ right_too other))
    → ((row other : ℕ) → 1 ≤ row → row ≤ rights → 1 ≤ other → other ≤ rights → (right row ≡ right other) ↔ (right_too row ≡ right_too other))
    → AreSameRows left right lefts rights first next → AreSameRows left_too right_too lefts rights first next
AreSameRows-same left right left_too right_too lefts rights first next across_ within are = record {
  first_sized = are.first_sized;
  next_sized = are.next_sized;
  firsts = λ row some most.
      IsNext-same (λ other. left row ≡ right other) (λ other. left_too row ≡ right_too other) 0 rights (unwrap_or (slice_get first (row - 1)) 0)
      (λ other above below e. (across_ row other some most (omega arith) below).0 e)
      (λ other above below e. (across_ row other some most (omega arith) below).1 e)
      (are.firsts row some most);
  nexts = λ row some most.
      IsNext-same (λ other. right row ≡ right other) (λ other. right_too row ≡ right_too other) row rights (unwrap_or (slice_get next (row - 1)) 0)
      (λ other above below e. (within row other some most (omega arith) below).0 e)
      (λ other above below e. (within row other some most (omega arith) below).1 e)
      (are.nexts row some most);
}

-- lists of one item each are equal where the items are
one-same : {X : Type 0} (x y : X) → x ∷ [] ≡ y ∷ [] → x ≡ y
one-same x y e = cc

-- the earlier entry of a tie has a row
pub tied-row : (catalogue : CatalogDef) (block : Block) (mask entry : ℕ) (tie : Tie) (rows : List ℕ) → IsTied catalogue block mask entry tie → HasRows catalogue block mask rows
    → HasRow catalogue block rows tie.left.0
tied-row catalogue block mask entry tie rows tied have = have tie.left.0 tied.columns.left_column.0 tied.columns.left_column.1 tied.columns.equated.is_by.is_chosen

module _ (catalogue : CatalogDef) (block : Block) (mask entry : ℕ) (tie : Tie) (tied : IsTied catalogue block mask entry tie) (rows : List ℕ) (listed : Listed)
    (has : tie.listed ≡ Some listed) (last : ℕ) (within : last ≤ size_of catalogue block tie.right.0) where
  -- its rows of equal cells, where they are listed
  pub listed-of : AreEqualRows catalogue block tie.left.0 tie.right.0 (tied_columns tie) listed.rows
  listed-of =
      let own = subst (λ o. IfSome o (AreListed catalogue block tie.left tie.right)) has tied.listed in
      subst (λ o. AreEqualRows catalogue block tie.left.0 tie.right.0 ((tie.left, tie.right) ∷ other_columns o) listed.rows) (sym has) own.rows

  -- the first listed row, cut behind the last one, is the first one that fits
  pub first-fits : (row found result : ℕ) → HasRows catalogue block mask rows → row ≡ row_number rows tie.left.0 → found ≡ unwrap_or (slice_get listed.rows.first.items (row - 1)) 0
      → result ≡ cond (nat_le found last) found 0 → IsNext (Fits catalogue block (Some tie) rows) 0 last result
  first-fits row found result have is_row is_found cut =
      let own = tied-row catalogue block mask entry tie rows tied have in
      let next = listed-of.firsts (row_number rows tie.left.0) own.0 own.1 in
      let at : unwrap_or (slice_get listed.rows.first.items (row_number rows tie.left.0 - 1)) 0 ≡ found =
      ap (λ (n : ℕ). unwrap_or (slice_get listed.rows.first.items (n - 1)) 0) (sym is_row) ∙ sym is_found in
      subst (IsNext (Fits catalogue block (Some tie) rows) 0 last) (sym cut)
      (IsNext-cut (Fits catalogue block (Some tie) rows) 0 (size_of catalogue block tie.right.0) last found within
      (subst (IsNext (Fits catalogue block (Some tie) rows) 0 (size_of catalogue block tie.right.0)) at next))

  -- and the next listed row the next one
  pub next-fits : (row found result : ℕ) → 1 ≤ row → row ≤ last → Fits catalogue block (Some tie) rows row → found ≡ unwrap_or (slice_get listed.rows.next.items (row - 1)) 0
      → result ≡ cond (nat_le found last) found 0 → IsNext (Fits catalogue block (Some tie) rows) row last result
  next-fits row found result some most fit is_found cut =
      let next = listed-of.nexts row some (omega arith) in
      subst (IsNext (Fits catalogue block (Some tie) rows) row last) (sym cut)
      (IsNext-cut (Fits catalogue block (Some tie) rows) row (size_of catalogue block tie.right.0) last found within
      (subst (IsNext (Fits catalogue block (Some tie) rows) row (size_of catalogue block tie.right.0)) (sym is_found)
      (IsNext-same (λ other. right_cells catalogue block (tied_columns tie) row ≡ right_cells catalogue block (tied_columns tie) other) (Fits catalogue block (Some tie) rows) row
      (size_of catalogue block tie.right.0) (unwrap_or (slice_get listed.rows.next.items (row - 1)) 0) (λ other above below same. fit ∙ same) (λ other above below same. sym fit ∙ same) next)))

-- a cell of a table is that of its entry's column
pub cell_of-value : (catalogue : CatalogDef) (block : Block) (column : ℕ × ℕ) (row : ℕ) (table : Relation) (v : Value) → entry_table catalogue block column.0 ≡ Some table
    → cell_at table row column.1 ≡ Some v → cell_of catalogue block column row ≡ v
cell_of-value catalogue block column row table v is_table is =
    ap (λ (o : Option Relation). unwrap_or (option_and_then (λ (t : Relation). cell_at t row column.1) o) (value.Int (pos 0))) is_table
    ∙ ap (λ (o : Option Value). unwrap_or o (value.Int (pos 0))) is

-- a row fits a tie whose rows aren't listed where its cell is equal to that of the earlier entry
pub fits-cell : (catalogue : CatalogDef) (block : Block) (tie : Tie) (rows : List ℕ) (row : ℕ) (table : Relation) (left found : Value) → tie.listed ≡ None
    → entry_table catalogue block tie.right.0 ≡ Some table
    → left ≡ column_value catalogue block rows tie.left → cell_at table row tie.right.1 ≡ Some found → (found ≡ left) ↔ Fits catalogue block (Some tie) rows row
fits-cell catalogue block tie rows row table left found unlisted is_table is_left is_found =
    let is : cell_of catalogue block tie.right row ≡ found = cell_of-value catalogue block tie.right row table found is_table is_found in (
      (λ same.
          subst
          (λ o. left_cells catalogue block ((tie.left, tie.right) ∷ other_columns o) (row_number rows tie.left.0) ≡ right_cells catalogue block ((tie.left, tie.right) ∷ other_columns o) row)
          (sym unlisted) (ap (λ (v : Value). v ∷ []) (sym is_left ∙ sym same ∙ sym is))),
      (λ fits.
          let one = subst
          (λ o. left_cells catalogue block ((tie.left, tie.right) ∷ other_columns o) (row_number rows tie.left.0) ≡ right_cells catalogue block ((tie.left, tie.right) ∷ other_columns o) row)
          unlisted fits in
          sym is ∙ sym (one-same (column_value catalogue block rows tie.left) (cell_of catalogue block tie.right row) one) ∙ sym is_left),
    )

-- an item of a list with one more
pub slice_get-push : {K : Type 0} (xs : List K) (y : K) (i : ℕ) (k : K) → slice_get (xs ++ y ∷ []) i ≡ Some k → (slice_get xs i ≡ Some k) ⊎ ((i ≡ length xs) × (y ≡ k))
slice_get-push [] y zero k at = inr (refl, cc)
slice_get-push [] y (suc i) k at = absurd (cc)
slice_get-push (x ∷ xs) y zero k at = inl at
slice_get-push (x ∷ xs) y (suc i) k at = elim (slice_get-push xs y i k at) [
  | inl old ↦ inl old
  | inr last ↦ inr (ap suc last.0, last.1)
]

-- one key more
pub values-push : {K V : Type 0} (reads : K → V) (cell : ℕ → V) (keys now : List K) (key : K) (count : ℕ) → length keys ≡ count → now ≡ keys ++ key ∷ [] → cell (count + 1) ≡ reads key
    → ((place : ℕ) (k : K) → slice_get keys place ≡ Some k → cell (place + 1) ≡ reads k) → (place : ℕ) (k : K) → slice_get now place ≡ Some k → cell (place + 1) ≡ reads k
values-push reads cell keys now key count sized pushed here before place k at =
    let there : slice_get (keys ++ key ∷ []) place ≡ Some k = ap (λ list. slice_get list place) (sym pushed) ∙ at in
    elim (slice_get-push keys key place k there) [
      | inl old ↦ before place k old
      | inr last ↦
          let counted : place ≡ count = last.0 ∙ sized in
          let same : key ≡ k = last.1 in
          ap (λ n. cell (n + 1)) counted ∙ here ∙ ap reads same
    ]

-- equal numbers and equal texts are equal by their order
pub exact-numbers : (n m : ℤ) → (int_cmp n m ≡ Equal) ↔ (value.Int n ≡ value.Int m)
exact-numbers n m = (
  (λ e. ap (λ k. value.Int k) (exact_signed n m e)),
  (λ e. let same : n ≡ m = cc in ap (int_cmp n) (sym same) ∙ tied_itself int_cmp_total n),
)

pub exact-texts : (t s : List ℕ) → (slice_cmp nat_cmp t s ≡ Equal) ↔ (value.Text t ≡ value.Text s)
exact-texts t s = (
  (λ e. ap (λ k. value.Text k) (exact_bytes t s e)),
  (λ e. let same : t ≡ s = cc in ap (slice_cmp nat_cmp t) (sym same) ∙ tied_itself nat_list_cmp_total t),
)

-- what a result has where it is rows of equal keys
pub AreSameRows-result : {K V E : Type 0} (cmp : K → K → Ordering) (reads : K → V) → ((a b : K) → (cmp a b ≡ Equal) ↔ (reads a ≡ reads b))
    → (left right : ℕ → V) (left_size right_size : ℕ) (lefts rights : List K) → AreKeys reads left left_size lefts → AreKeys reads right right_size rights
    → (result : Result EqualRows E) → IfOk result (λ rows. AreFirst cmp lefts rights rows.first.items) → IfOk result (λ rows. AreNextBehind cmp 0 rights rows.next.items)
    → IfOk result (λ rows. length rows.first.items ≡ length lefts) → IfOk result (λ rows. length rows.next.items ≡ length rights)
    → IfOk result (λ rows. AreSameRows left right left_size right_size rows.first.items rows.next.items)
AreSameRows-result cmp reads exact left right left_size right_size lefts rights left_keys right_keys (Ok rows) first next sized_first sized_next =
    AreSameRows-keys cmp reads exact left right left_size right_size lefts rights rows.first.items rows.next.items left_keys right_keys sized_first sized_next first next
AreSameRows-result cmp reads exact left right left_size right_size lefts rights left_keys right_keys (Err fault) first next sized_first sized_next = tt

-- the same of two columns
pub AreEqualRows-result : {K E : Type 0} (cmp : K → K → Ordering) (reads : K → Value) → ((a b : K) → (cmp a b ≡ Equal) ↔ (reads a ≡ reads b))
    → (catalogue : CatalogDef) (block : Block) (left right : ℕ × ℕ) (lefts rights : List K)
    → AreKeys reads (cell_of catalogue block left) (size_of catalogue block left.0) lefts → AreKeys reads (cell_of catalogue block right) (size_of catalogue block right.0) rights
    → (result : Result EqualRows E) → IfOk result (λ rows. AreFirst cmp lefts rights rows.first.items) → IfOk result (λ rows. AreNextBehind cmp 0 rights rows.next.items)
    → IfOk result (λ rows. length rows.first.items ≡ length lefts) → IfOk result (λ rows. length rows.next.items ≡ length rights)
    → IfOk result (AreEqualRows catalogue block left.0 right.0 ((left, right) ∷ []))
AreEqualRows-result cmp reads exact catalogue block left right lefts rights left_keys right_keys result first next sized_first sized_next =
    AreSameRows-result cmp (λ key. reads key ∷ []) (λ a b. ((λ e. ap (λ (v : Value). v ∷ []) ((exact a b).0 e)), (λ e. (exact a b).1 (one-same (reads a) (reads b) e))))
    (left_cells catalogue block ((left, right) ∷ [])) (right_cells catalogue block ((left, right) ∷ [])) (size_of catalogue block left.0) (size_of catalogue block right.0) lefts rights
    (record { sized = left_keys.sized; values = λ place key at. ap (λ (v : Value). v ∷ []) (left_keys.values place key at) })
    (record { sized = right_keys.sized; values = λ place key at. ap (λ (v : Value). v ∷ []) (right_keys.values place key at) })
    result first next sized_first sized_next

-- the two columns of an equality are columns of the block, of one kind
pub equated-kinds : (catalogue : CatalogDef) (block : Block) (mask entry : ℕ) (left right : ℕ × ℕ) → IsBlock catalogue block → AreEquated block mask entry left right
    → IsColumn catalogue block left × IsColumn catalogue block right × (column_kind catalogue block left ≡ column_kind catalogue block right)
equated-kinds catalogue block mask entry left right is equated =
    let c = equated.conjunct in
    let is_conjunct = AllByRecursion-In (IsConjunct catalogue block) block.conjuncts is.conjuncts c equated.is_in in
    elim equated.is_by.is_equality [
      | inl e ↦ equality-kinds catalogue block c is_conjunct left right e
      | inr e ↦ let k = equality-kinds catalogue block c is_conjunct right left e in (k.1, k.0, sym k.2)
    ]

-- what a conjunct of a block equates, the block does
pub equates-at : (block : Block) (mask entry place : ℕ) (conjunct : ConjunctDef) (left right : ℕ × ℕ) → place < length block.conjuncts → conjunct ≡ get_or block.conjuncts place conjunct
    → IsEquatedBy conjunct mask entry left right → AreEquated block mask entry left right
equates-at block mask entry place conjunct left right within is by = record {
  conjunct = conjunct;
  is_in = In-slice_get place block.conjuncts conjunct (slice_get_read block.conjuncts (length block.conjuncts) place conjunct refl within is);
  is_by = by;
}

-- columns that are tied are of the same two entries, so the rows are those of them too
pub rows-of : (catalogue : CatalogDef) (block : Block) (left right other_left other_right : ℕ × ℕ) (columns : List ((ℕ × ℕ) × (ℕ × ℕ))) (rows : EqualRows) → 1 ≤ left.0
    → AreTied catalogue block (mask_of left.0) right.0 other_left other_right
    → (AreEqualRows catalogue block left.0 right.0 columns rows) ↔ (AreEqualRows catalogue block other_left.0 other_right.0 columns rows)
rows-of catalogue block left right other_left other_right columns rows some tied =
    let by = tied.equated.is_by in
    let first : other_left.0 ≡ left.0 = own-number left.0 other_left.0 some tied.left_column.0 by.is_chosen in (
      (λ are.
          subst (λ entry. AreEqualRows catalogue block entry other_right.0 columns rows) (sym first)
          (subst (λ entry. AreEqualRows catalogue block left.0 entry columns rows) (sym by.is_next) are)),
      (λ are.
          subst (λ entry. AreEqualRows catalogue block entry right.0 columns rows) first
          (subst (λ entry. AreEqualRows catalogue block other_left.0 entry columns rows) by.is_next are)),
    )
