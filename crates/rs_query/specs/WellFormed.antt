-- Well-formed blocks and queries: what a binder makes of a query that it doesn't refuse.
use Rattle.std.specs.Prelude.{ℕ, ◌≡◌, ◌≤◌, ◌<◌, ◌==◌, ◌&&◌, Bool, true, false, List, [], ◌∷◌, length, map, bit_or, nat_abs, Option, Some, None, IfSome, option_map, slice_get}
use Rattle.std.specs.List.{AllByRecursion, list_any}
use Rattle.rs_value.specs.declared.kind.Kind.{Kind}
use Rattle.rs_value.specs.declared.kind.Kind.TheVariants as kind
use Rattle.rs_value.specs.Number.{greatest_int}
use Rattle.rs_value.specs.declared.rel.Rel.TheVariants.{Eq}
use Rattle.rs_table.specs.Column.{Column}
use Rattle.rs_rank.specs.Masks.{mask_of}
use Rattle.rs_expr.specs.Formulas.{Condition, Argument, Numbers, Texts}
use Rattle.rs_expr.specs.Uses.{condition_uses, is_kind}
use Rattle.rs_expr.specs.Widths.{is_narrow}
use Rattle.rs_expr.specs.declared.expr.TextSide.TheVariants as side
use Rattle.rs_expr.specs.Predicates.{PredicateDef}
use Rattle.rs_catalog.specs.Catalog.{CatalogDef}
use Rattle.rs_catalog.specs.declared.index.BoundArg.{BoundArg}
use Rattle.rs_catalog.specs.declared.index.BoundArg.TheVariants as arg
use Rattle.rs_query.specs.declared.block.Block.{Block}
use Rattle.rs_query.specs.declared.term.Term.{Term}
use Rattle.rs_query.specs.declared.query.Query.{Query}
use Rattle.rs_query.specs.declared.query.Query.TheVariants.{One, Set}
use Rattle.rs_query.specs.Conjuncts.{ConjunctDef}
use Rattle.rs_query.specs.Tables.{column_of}

-- the kind of a column, where the block has it
abbrev pub column_kind : CatalogDef → Block → ℕ × ℕ → Option Kind
column_kind catalogue block column = option_map (λ (c : Column). c.1) (column_of catalogue block column)

-- a column of an entry of the block
abbrev pub IsColumn : CatalogDef → Block → ℕ × ℕ → Type 0
IsColumn catalogue block column = (1 ≤ column.0) × (column.0 ≤ length block.from) × ((kind : Kind) × (column_kind catalogue block column ≡ Some kind))

-- the mask of the entries of some columns
abbrev pub entries_mask : List (ℕ × ℕ) → ℕ
entries_mask [] = 0
entries_mask (column ∷ columns) = bit_or (mask_of column.0) (entries_mask columns)

-- the column of this number, counted from 0, has this kind
abbrev pub has_kind : CatalogDef → Block → List (ℕ × ℕ) → Kind → ℕ → Bool
has_kind catalogue block columns kind i = is_kind kind (has (slice_get columns i)) where
  has : Option (ℕ × ℕ) → Option Kind
  has (Some column) = column_kind catalogue block column
  has None = None

-- two columns are the same
abbrev pub same_column : ℕ × ℕ → ℕ × ℕ → Bool
same_column a b = (a.0 == b.0) && (a.1 == b.1)

-- no column stands twice
abbrev pub AreDistinct : List (ℕ × ℕ) → Type 0
AreDistinct [] = Unit {0}
AreDistinct (column ∷ columns) = (list_any (same_column column) columns ≡ false) × AreDistinct columns

-- the two columns of a condition that is `column = column`
abbrev pub equated : Condition → Option (ℕ × ℕ)
equated (Numbers Eq (Argument i) (Argument j)) = Some (i, j)
equated (Texts Eq (side.Arg i) (side.Arg j)) = Some (i, j)
equated _ = None

-- two columns, where they are of different entries
abbrev pub across : Option (ℕ × ℕ) → Option (ℕ × ℕ) → Option ((ℕ × ℕ) × (ℕ × ℕ))
across (Some a) (Some b) = if_apart (a.0 == b.0) where
  if_apart : Bool → Option ((ℕ × ℕ) × (ℕ × ℕ))
  if_apart true = None
  if_apart false = Some (a, b)
across (Some a) None = None
across None b = None

-- the two columns of different entries that a condition over these columns equates
abbrev pub equality_of : Condition → List (ℕ × ℕ) → Option ((ℕ × ℕ) × (ℕ × ℕ))
equality_of condition columns = of (equated condition) where
  of : Option (ℕ × ℕ) → Option ((ℕ × ℕ) × (ℕ × ℕ))
  of (Some places) = across (slice_get columns places.0) (slice_get columns places.1)
  of None = None

-- what holds of each conjunct of a block
pub record IsConjunct (catalogue : CatalogDef) (block : Block) (conjunct : ConjunctDef) : Type 0 where
  pub columns : AllByRecursion (IsColumn catalogue block) conjunct.columns
  pub distinct : AreDistinct conjunct.columns
  pub entries : conjunct.entries ≡ entries_mask conjunct.columns
  pub uses : condition_uses (has_kind catalogue block conjunct.columns) conjunct.condition ≡ true
  pub narrow : is_narrow conjunct.condition ≡ true
  pub equality : conjunct.equality ≡ equality_of conjunct.condition conjunct.columns

-- the columns among some arguments
abbrev pub argument_columns : List BoundArg → List (ℕ × ℕ)
argument_columns [] = []
argument_columns (arg.Column entry column ∷ args) = (entry, column) ∷ argument_columns args
argument_columns (arg.Int n ∷ args) = argument_columns args
argument_columns (arg.Text t ∷ args) = argument_columns args

-- an argument is one for a parameter of this kind: a column of the block of that kind, or a number in range, or a text
abbrev pub IsArg : CatalogDef → Block → Kind → BoundArg → Type 0
IsArg catalogue block kind (arg.Column entry column) = IsColumn catalogue block (entry, column) × (column_kind catalogue block (entry, column) ≡ Some kind)
IsArg catalogue block kind.Int (arg.Int n) = nat_abs n ≤ greatest_int
IsArg catalogue block kind.Text (arg.Int n) = ⊥
IsArg catalogue block kind.Text (arg.Text t) = Unit {0}
IsArg catalogue block kind.Int (arg.Text t) = ⊥

-- as many arguments as parameters, each one for its parameter
abbrev pub AreArgs : CatalogDef → Block → List Kind → List BoundArg → Type 0
AreArgs catalogue block [] [] = Unit {0}
AreArgs catalogue block [] (a ∷ args) = ⊥
AreArgs catalogue block (kind ∷ kinds) [] = ⊥
AreArgs catalogue block (kind ∷ kinds) (a ∷ args) = IsArg catalogue block kind a × AreArgs catalogue block kinds args

-- what holds of each term of a block
pub record IsTerm (catalogue : CatalogDef) (block : Block) (term : Term) : Type 0 where
  pub predicate : PredicateDef
  pub has_predicate : slice_get catalogue.predicates term.predicate ≡ Some predicate
  pub args : AreArgs catalogue block predicate.params term.args
  pub some_column : 1 ≤ length (argument_columns term.args)
  pub entries : term.entries ≡ entries_mask (argument_columns term.args)
  pub some_weight : 1 ≤ term.weight
  pub most_weight : term.weight ≤ 1000000
  pub max : term.max ≤ predicate.max

-- a FROM entry is a table of the catalogue
abbrev pub IsFromEntry : CatalogDef → ℕ × List ℕ → Type 0
IsFromEntry catalogue from = from.0 < length catalogue.tables

-- what holds of each block
pub record IsBlock (catalogue : CatalogDef) (block : Block) : Type 0 where
  pub some_entries : 1 ≤ length block.from
  pub most_entries : length block.from ≤ 6
  pub entries : AllByRecursion (IsFromEntry catalogue) block.from
  pub most_conjuncts : length block.conjuncts ≤ 32
  pub conjuncts : AllByRecursion (IsConjunct catalogue block) block.conjuncts
  pub most_items : length block.items ≤ 384
  pub items : AllByRecursion (IsColumn catalogue block) block.items
  pub most_terms : length block.terms ≤ 8
  pub terms : AllByRecursion (IsTerm catalogue block) block.terms

-- with DISTINCT each column of a term is an output column
abbrev pub IsOutput : Block → ℕ × ℕ → Type 0
IsOutput block column = list_any (same_column column) block.items ≡ true

abbrev pub HasOutputs : Block → Term → Type 0
HasOutputs block term = AllByRecursion (IsOutput block) (argument_columns term.args)

-- two arguments of a set query: equal constants, or columns that stand at one same place of the output columns
abbrev pub AreSameArg : Block → Block → BoundArg → BoundArg → Type 0
AreSameArg left right (arg.Column e c) (arg.Column f d) = (place : ℕ) × (slice_get left.items place ≡ Some (e, c)) × (slice_get right.items place ≡ Some (f, d))
AreSameArg left right (arg.Int n) (arg.Int m) = n ≡ m
AreSameArg left right (arg.Text t) (arg.Text u) = t ≡ u
AreSameArg left right a b = ⊥

abbrev pub AreSameArgs : Block → Block → List BoundArg → List BoundArg → Type 0
AreSameArgs left right [] [] = Unit {0}
AreSameArgs left right [] (b ∷ bs) = ⊥
AreSameArgs left right (a ∷ as_) [] = ⊥
AreSameArgs left right (a ∷ as_) (b ∷ bs) = AreSameArg left right a b × AreSameArgs left right as_ bs

-- two terms of a set query
pub record AreSameTerm (left right : Block) (a b : Term) : Type 0 where
  pub weight : a.weight ≡ b.weight
  pub predicate : a.predicate ≡ b.predicate
  pub max : a.max ≡ b.max
  pub args : AreSameArgs left right a.args b.args

abbrev pub AreSameTerms : Block → Block → List Term → List Term → Type 0
AreSameTerms left right [] [] = Unit {0}
AreSameTerms left right [] (b ∷ bs) = ⊥
AreSameTerms left right (a ∷ as_) [] = ⊥
AreSameTerms left right (a ∷ as_) (b ∷ bs) = AreSameTerm left right a b × AreSameTerms left right as_ bs

abbrev pub IsLimit : Option ℕ → Type 0
IsLimit limit = IfSome limit (λ (n : ℕ). n ≤ 1000000)

-- what holds of two blocks of a set query: their output columns agree in number and kind, and their terms agree
pub record AreSetSides (catalogue : CatalogDef) (left right : Block) : Type 0 where
  pub left_block : IsBlock catalogue left
  pub right_block : IsBlock catalogue right
  pub kinds : map (column_kind catalogue left) left.items ≡ map (column_kind catalogue right) right.items
  pub terms : AreSameTerms left right left.terms right.terms

-- what holds of each query
abbrev pub IsQuery : CatalogDef → Query → Type 0
IsQuery catalogue (One block limit) = IsBlock catalogue block × (block.distinct ≡ true → AllByRecursion (HasOutputs block) block.terms) × IsLimit limit
IsQuery catalogue (Set op left right limit) = AreSetSides catalogue left right × IsLimit limit
