-- Tops worked by hand. The first table has an index of each of its columns for one predicate, with the scores 5, 3 and 9, 2. The
-- second one has no row, and an index of its only column. The third one has an index with the score 7 alone.
use Rattle.std.proofs.Common.{ℕ, ◌≡◌, false, List, [], ◌∷◌, refl}
use Rattle.std.specs.Prelude.{None, codes}
use Rattle.rs_value.specs.declared.kind.Kind.TheVariants as kind
use Rattle.rs_value.specs.declared.set_op.SetOp.TheVariants.{Union}
use Rattle.rs_rank.specs.declared.scored_row.ScoredRow.{ScoredRow}
use Rattle.rs_expr.specs.Formulas.{Argument}
use Rattle.rs_expr.specs.Predicates.{PredicateDef}
use Rattle.rs_catalog.specs.Catalog.{CatalogDef, RankIndex}
use Rattle.rs_catalog.specs.declared.index.BoundArg.{BoundArg}
use Rattle.rs_catalog.specs.declared.index.BoundArg.TheVariants.{Column}
use Rattle.rs_query.specs.Tops.{HasTops, set_tops, top_of, tops_of, with_tops}
use Rattle.rs_query.specs.declared.block.Block.{Block}
use Rattle.rs_query.specs.declared.query.Query.TheVariants.{One, Set}
use Rattle.rs_query.specs.declared.term.Term.{Term}

abbrev predicate : ℕ → PredicateDef
predicate most = record { name = codes "p"; params = kind.Int ∷ []; max = most; cost = 1; formula = Argument 0 }

abbrev index : ℕ → ℕ → List ScoredRow → RankIndex
index table column ranking = record { def = record { name = codes "i"; table = table; predicate = 0; args = Column 1 column ∷ [] }; ranking = ranking }

abbrev entry : ℕ → ℕ → ScoredRow
entry row score = record { score = score; row = row }

-- predicate 0 has scores up to 10, and predicate 1 up to 20
abbrev catalogue : CatalogDef
catalogue = record {
  tables = [];
  predicates = predicate 10 ∷ predicate 20 ∷ [];
  indexes = index 0 0 (entry 2 5 ∷ entry 1 3 ∷ []) ∷ index 0 1 (entry 1 9 ∷ entry 2 2 ∷ []) ∷ index 1 0 [] ∷ index 2 0 (entry 1 7 ∷ []) ∷ [];
}

-- a term of this predicate, with its greatest score as its maximum
abbrev term : ℕ → ℕ → ℕ → List BoundArg → Term
term number most mask args = record { weight = 1; predicate = number; args = args; max = most; entries = mask }

abbrev block : List (ℕ × List ℕ) → List Term → Block
block from terms = record { from = from; conjuncts = []; items = []; terms = terms; distinct = false }

abbrev three : List (ℕ × List ℕ)
three = (0, codes "a") ∷ (1, codes "b") ∷ (2, codes "c") ∷ []

-- the index of each column, of an empty table, and of the third entry
by_first : top_of catalogue (block three []) (term 0 10 1 (Column 1 0 ∷ [])) ≡ 5
by_first = refl

by_second : top_of catalogue (block three []) (term 0 10 1 (Column 1 1 ∷ [])) ≡ 9
by_second = refl

of_no_row : top_of catalogue (block three []) (term 0 10 2 (Column 2 0 ∷ [])) ≡ 0
of_no_row = refl

of_the_third : top_of catalogue (block three []) (term 0 10 4 (Column 3 0 ∷ [])) ≡ 7
of_the_third = refl

-- a column without an index, a predicate without one, and two entries
no_such_column : top_of catalogue (block three []) (term 0 10 1 (Column 1 2 ∷ [])) ≡ 10
no_such_column = refl

no_such_predicate : top_of catalogue (block three []) (term 1 20 1 (Column 1 0 ∷ [])) ≡ 20
no_such_predicate = refl

of_two : top_of catalogue (block three []) (term 0 10 3 (Column 1 0 ∷ Column 2 0 ∷ [])) ≡ 10
of_two = refl

-- a query of one block, and one of two, whose tops are the greater ones: of 5 and 7, and of 10, which has no index, and 0
one : with_tops catalogue (One (block three (term 0 10 1 (Column 1 0 ∷ []) ∷ term 1 20 1 (Column 1 0 ∷ []) ∷ [])) None)
    ≡ One (block three (term 0 5 1 (Column 1 0 ∷ []) ∷ term 1 20 1 (Column 1 0 ∷ []) ∷ [])) None
one = refl

abbrev left : Block
left = block ((0, codes "a") ∷ []) (term 0 10 1 (Column 1 0 ∷ []) ∷ term 0 10 1 (Column 1 2 ∷ []) ∷ [])

abbrev right : Block
right = block ((2, codes "c") ∷ (1, codes "b") ∷ []) (term 0 10 1 (Column 1 0 ∷ []) ∷ term 0 10 2 (Column 2 0 ∷ []) ∷ [])

of_left : tops_of catalogue left ≡ 5 ∷ 10 ∷ []
of_left = refl

of_right : tops_of catalogue right ≡ 7 ∷ 0 ∷ []
of_right = refl

of_both : set_tops catalogue left right ≡ 7 ∷ 10 ∷ []
of_both = refl

set : with_tops catalogue (Set Union left right None)
    ≡ Set Union (record left { terms = term 0 7 1 (Column 1 0 ∷ []) ∷ term 0 10 1 (Column 1 2 ∷ []) ∷ [] })
    (record right { terms = term 0 7 1 (Column 1 0 ∷ []) ∷ term 0 10 2 (Column 2 0 ∷ []) ∷ [] }) None
set = refl

has_tops : HasTops catalogue (with_tops catalogue (Set Union left right None))
has_tops = (refl, refl)
