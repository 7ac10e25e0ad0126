-- Masks of entries: which are inside which, and that all parts of a block are inside all its entries.
use Rattle.std.proofs.Common.{ℕ, zero, suc, ◌≡◌, ◌∙◌, ◌-◌, ◌^◌, ◌≤◌, true, List, [], ◌∷◌, Some, bit_and, bit_or, length, refl, sym, ap, subst, arith}
use Rattle.std.specs.Prelude.{slice_get}
use Rattle.std.specs.List.{AllByRecursion}
use Rattle.std.specs.Int.{bit_at}
use Rattle.std.specs.Int.Bits.{or_zero_r}
use Rattle.std.proofs.lemmas.Bool.{eqb-true, eq-eqb}
use Rattle.std.proofs.lemmas.Nat.{and_mask, pow_below}
use Rattle.std.proofs.lemmas.Nat.Bits.{bit_at-lt, bit_at-pow_same, bit_at_and, bit_at_or, same_from_bits}
use Rattle.std.proofs.Math.Nat.{mod-eq_of_lt}
use Rattle.rs_value.specs.declared.kind.Kind.{Kind}
use Rattle.rs_rank.specs.Masks.{has_number, mask_of}
use Rattle.rs_catalog.specs.Catalog.{CatalogDef}
use Rattle.rs_catalog.specs.declared.index.BoundArg.{BoundArg}
use Rattle.rs_catalog.specs.declared.index.BoundArg.TheVariants as arg
use Rattle.rs_order.proofs.EachFacts.{each-weaker}
use Rattle.rs_query.specs.declared.block.Block.{Block}
use Rattle.rs_query.specs.declared.term.Term.{Term}
use Rattle.rs_query.specs.Conjuncts.{ConjunctDef}
use Rattle.rs_query.specs.Meaning.{is_inside}
use Rattle.rs_query.specs.Tables.{HasRow, HasRows, all_entries}
use Rattle.rs_query.specs.WellFormed.{AreArgs, IsBlock, IsColumn, IsConjunct, IsTerm, argument_columns, entries_mask}

-- two sets are inside one where their union is
union_left : (a b mask : ℕ) → bit_and (bit_or a b) mask ≡ bit_or a b → bit_and a mask ≡ a
union_left a b mask e = same_from_bits (bit_and a mask) a (λ i.
    let whole = ap (λ n. bit_at n i) e in
    let both = bit_at_and (bit_or a b) mask i in
    let either = bit_at_or a b i in
    let part = bit_at_and a mask i in
    omega arith)

union_right : (a b mask : ℕ) → bit_and (bit_or a b) mask ≡ bit_or a b → bit_and b mask ≡ b
union_right a b mask e = same_from_bits (bit_and b mask) b (λ i.
    let whole = ap (λ n. bit_at n i) e in
    let both = bit_at_and (bit_or a b) mask i in
    let either = bit_at_or a b i in
    let part = bit_at_and b mask i in
    omega arith)

-- and their union is inside where both are
union_of : (a b mask : ℕ) → bit_and a mask ≡ a → bit_and b mask ≡ b → bit_and (bit_or a b) mask ≡ bit_or a b
union_of a b mask left right = same_from_bits (bit_and (bit_or a b) mask) (bit_or a b) (λ i.
    let first = ap (λ n. bit_at n i) left in
    let second = ap (λ n. bit_at n i) right in
    let both = bit_at_and (bit_or a b) mask i in
    let either = bit_at_or a b i in
    let part_a = bit_at_and a mask i in
    let part_b = bit_at_and b mask i in
    omega arith)

pub is_inside-left : (a b mask : ℕ) → is_inside (bit_or a b) mask ≡ true → is_inside a mask ≡ true
is_inside-left a b mask e = eq-eqb (bit_and a mask) a (union_left a b mask (eqb-true (bit_and (bit_or a b) mask) (bit_or a b) e))

pub is_inside-right : (a b mask : ℕ) → is_inside (bit_or a b) mask ≡ true → is_inside b mask ≡ true
is_inside-right a b mask e = eq-eqb (bit_and b mask) b (union_right a b mask (eqb-true (bit_and (bit_or a b) mask) (bit_or a b) e))

pub is_inside-union : (a b mask : ℕ) → is_inside a mask ≡ true → is_inside b mask ≡ true → is_inside (bit_or a b) mask ≡ true
is_inside-union a b mask left right =
    eq-eqb (bit_and (bit_or a b) mask) (bit_or a b) (union_of a b mask (eqb-true (bit_and a mask) a left) (eqb-true (bit_and b mask) b right))

-- a mask has the number of each mask of one number that is inside it
pub has_number-inside : (number mask : ℕ) → is_inside (mask_of number) mask ≡ true → has_number mask number ≡ true
has_number-inside number mask e =
    let whole = ap (λ n. bit_at n (number - 1)) (eqb-true (bit_and (mask_of number) mask) (mask_of number) e) in
    let both = bit_at_and (mask_of number) mask (number - 1) in
    let one = bit_at-pow_same (number - 1) in
    let most = bit_at-lt mask (number - 1) in
    eq-eqb (bit_at mask (number - 1)) 1 (omega arith)

-- the entry of a column inside a mask has a row, where each in the mask has one
pub row-inside : (catalogue : CatalogDef) (block : Block) (mask : ℕ) (rows : List ℕ) (column : ℕ × ℕ) → HasRows catalogue block mask rows → IsColumn catalogue block column
    → is_inside (mask_of column.0) mask ≡ true → HasRow catalogue block rows column.0
row-inside catalogue block mask rows column has is inside = has column.0 is.0 is.1 (has_number-inside column.0 mask inside)

-- an entry of a block is inside all its entries
entry-inside : (number count : ℕ) → 1 ≤ number → number ≤ count → is_inside (mask_of number) (2 ^ count - 1) ≡ true
entry-inside number count some within =
    eq-eqb (bit_and (mask_of number) (2 ^ count - 1)) (mask_of number)
    (and_mask (mask_of number) count ∙ mod-eq_of_lt (pow_below (number - 1) count (omega arith)))

-- the entry of a column is inside a mask that the entries of all columns are inside
pub column-inside : (columns : List (ℕ × ℕ)) (i : ℕ) (column : ℕ × ℕ) (mask : ℕ) → is_inside (entries_mask columns) mask ≡ true
    → slice_get columns i ≡ Some column → is_inside (mask_of column.0) mask ≡ true
column-inside [] i column mask inside at = cc
column-inside (first ∷ columns) zero column mask inside at =
    let same : first ≡ column = cc in
    subst (λ (c : ℕ × ℕ). is_inside (mask_of c.0) mask ≡ true) same (is_inside-left (mask_of first.0) (entries_mask columns) mask inside)
column-inside (first ∷ columns) (suc i) column mask inside at =
    column-inside columns i column mask (is_inside-right (mask_of first.0) (entries_mask columns) mask inside) at

-- the entries of the column in an argument, likewise
pub arg-inside : (args : List BoundArg) (i : ℕ) (a : BoundArg) (mask : ℕ) → is_inside (entries_mask (argument_columns args)) mask ≡ true
    → slice_get args i ≡ Some a → is_inside (entries_mask (argument_columns (a ∷ []))) mask ≡ true
arg-inside [] i a mask inside at = cc
arg-inside (arg.Column entry column ∷ args) zero a mask inside at =
    let same : arg.Column entry column ≡ a = cc in
    subst (λ (b : BoundArg). is_inside (entries_mask (argument_columns (b ∷ []))) mask ≡ true) same
    (rw (or_zero_r (mask_of entry)) (is_inside-left (mask_of entry) (entries_mask (argument_columns args)) mask inside))
arg-inside (arg.Int n ∷ args) zero a mask inside at =
    let same : arg.Int n ≡ a = cc in
    subst (λ (b : BoundArg). is_inside (entries_mask (argument_columns (b ∷ []))) mask ≡ true) same refl
arg-inside (arg.Text t ∷ args) zero a mask inside at =
    let same : arg.Text t ≡ a = cc in
    subst (λ (b : BoundArg). is_inside (entries_mask (argument_columns (b ∷ []))) mask ≡ true) same refl
arg-inside (arg.Column entry column ∷ args) (suc i) a mask inside at =
    arg-inside args i a mask (is_inside-right (mask_of entry) (entries_mask (argument_columns args)) mask inside) at
arg-inside (arg.Int n ∷ args) (suc i) a mask inside at = arg-inside args i a mask inside at
arg-inside (arg.Text t ∷ args) (suc i) a mask inside at = arg-inside args i a mask inside at

module _ (catalogue : CatalogDef) (block : Block) where
  -- the entries of columns of a block are inside all its entries
  pub entries_mask-inside : (columns : List (ℕ × ℕ)) → AllByRecursion (IsColumn catalogue block) columns → is_inside (entries_mask columns) (all_entries block) ≡ true
  entries_mask-inside [] all = refl
  entries_mask-inside (column ∷ columns) all =
      is_inside-union (mask_of column.0) (entries_mask columns) (all_entries block)
      (entry-inside column.0 (length block.from) all.0.0 all.0.1) (entries_mask-inside columns all.1)

  -- the columns among arguments are columns of the block
  pub argument_columns-args : (kinds : List Kind) (args : List BoundArg) → AreArgs catalogue block kinds args → AllByRecursion (IsColumn catalogue block) (argument_columns args)
  argument_columns-args [] [] are = tt
  argument_columns-args [] (a ∷ args) are = absurd are
  argument_columns-args (kind ∷ kinds) [] are = absurd are
  argument_columns-args (kind ∷ kinds) (arg.Column entry column ∷ args) are = (are.0.0, argument_columns-args kinds args are.1)
  argument_columns-args (kind ∷ kinds) (arg.Int n ∷ args) are = argument_columns-args kinds args are.1
  argument_columns-args (kind ∷ kinds) (arg.Text t ∷ args) are = argument_columns-args kinds args are.1

  term-inside : (term : Term) → IsTerm catalogue block term → is_inside term.entries (all_entries block) ≡ true
  term-inside term is =
      subst (λ entries. is_inside entries (all_entries block) ≡ true) (sym is.entries)
      (entries_mask-inside (argument_columns term.args) (argument_columns-args is.predicate.params term.args is.args))

  conjunct-inside : (conjunct : ConjunctDef) → IsConjunct catalogue block conjunct → is_inside conjunct.entries (all_entries block) ≡ true
  conjunct-inside conjunct is =
      subst (λ entries. is_inside entries (all_entries block) ≡ true) (sym is.entries) (entries_mask-inside conjunct.columns is.columns)

  -- the entries of each term are inside all entries
  pub terms-inside : IsBlock catalogue block → AllByRecursion (λ (t : Term). is_inside t.entries (all_entries block) ≡ true) block.terms
  terms-inside is =
      each-weaker (IsTerm catalogue block) (λ (t : Term). is_inside t.entries (all_entries block) ≡ true) term-inside block.terms is.terms

  -- those of each conjunct
  pub conjuncts-inside : IsBlock catalogue block → AllByRecursion (λ (c : ConjunctDef). is_inside c.entries (all_entries block) ≡ true) block.conjuncts
  conjuncts-inside is =
      each-weaker (IsConjunct catalogue block) (λ (c : ConjunctDef). is_inside c.entries (all_entries block) ≡ true) conjunct-inside block.conjuncts is.conjuncts

  -- and those of the output columns
  pub items-inside : IsBlock catalogue block → is_inside (entries_mask block.items) (all_entries block) ≡ true
  items-inside is = entries_mask-inside block.items is.items
