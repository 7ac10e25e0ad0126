-- What a join keeps after this many asks, computed on literals and worked by hand.
use Rattle.std.proofs.Common.{◌≡◌, ℕ, false, true, List, [], ◌∷◌, refl}
use Rattle.std.specs.Prelude.{pos, None, Some, codes}
use Rattle.rs_value.specs.declared.kind.Kind.TheVariants as kind
use Rattle.rs_value.specs.declared.rel.Rel.TheVariants.{Eq}
use Rattle.rs_value.specs.declared.value.Value.{Value}
use Rattle.rs_value.specs.declared.value.Value.TheVariants as value
use Rattle.rs_rank.specs.declared.ids.Ids.{Ids}
use Rattle.rs_rank.specs.declared.key.Key.{Key}
use Rattle.rs_rank.specs.declared.row.RankRow.{RankRow}
use Rattle.rs_expr.specs.Formulas.{Argument, Numbers}
use Rattle.rs_expr.specs.Meaning.{value_of}
use Rattle.rs_catalog.specs.Catalog.{CatalogDef, NamedTable}
use Rattle.rs_catalog.specs.declared.index.BoundArg.TheVariants as arg
use Rattle.rs_query.specs.declared.query.Query.TheVariants.{One}
use Rattle.rs_plan.specs.Lists.{World, list_of}
use Rattle.rs_plan.specs.Trees.{Hash, JoinOperator, Nested, SeqScan}
use Rattle.rs_ripple.specs.Joined.{Joined}
use Rattle.rs_ripple.specs.Stands.{answers}
use Rattle.rs_exec.specs.Cores.{joined_in}
use Rattle.rs_exec.specs.Joining.{join_for}
use Rattle.rs_exec.specs.Standing.{join_node_after}
use Rattle.rs_exec.specs.declared.join_core.JoinCore.TheVariants as core

abbrev int : ℕ → Value
int n = value.Int (pos n)

abbrev table : List ℕ → List (List Value) → NamedTable
table name rows = record { name = name; table = record { schema = (codes "g", kind.Int) ∷ []; rows = rows } }

abbrev catalogue : CatalogDef
catalogue = record {
  tables = table (codes "a") ((int 1 ∷ []) ∷ (int 2 ∷ []) ∷ []) ∷ table (codes "b") ((int 2 ∷ []) ∷ (int 1 ∷ []) ∷ (int 1 ∷ []) ∷ []) ∷ [];
  predicates = record { name = codes "p"; params = kind.Int ∷ []; max = 10; cost = 1; formula = Argument 0 } ∷ [];
  indexes = [];
}

-- SELECT a.g, b.g FROM a, b WHERE a.g = b.g ORDER BY p(a.g), where a has the rows 1 and 2, and b the rows 2, 1 and 1
abbrev world : World
world = record {
  catalogue = catalogue;
  answer = λ p args. value_of p.formula args;
  query = One (record {
    from = (0, codes "a") ∷ (1, codes "b") ∷ [];
    conjuncts = record { condition = Numbers Eq (Argument 0) (Argument 1); columns = (1, 0) ∷ (2, 0) ∷ []; entries = 3; equality = Some ((1, 0), (2, 0)) } ∷ [];
    items = (1, 0) ∷ (2, 0) ∷ [];
    terms = record { weight = 1; predicate = 0; args = arg.Column 1 0 ∷ []; max = 10; entries = 1 } ∷ [];
    distinct = false;
  }) None;
  view = record { first = 2 ∷ 3 ∷ 0 ∷ 0 ∷ 0 ∷ 0 ∷ []; second = [] };
}

abbrev ids : ℕ → ℕ → ℕ → Ids
ids mask first second = record { block = 1; mask = mask; rows = first ∷ second ∷ 0 ∷ 0 ∷ 0 ∷ 0 ∷ [] }

abbrev row : ℕ → ℕ → ℕ → RankRow
row mask first second = record { ids = ids mask first second; sum = 0 }

-- no term is evaluated, so each bound is 10
abbrev key : ℕ → ℕ → ℕ → Key
key mask first second = record { bound = 10; ids = ids mask first second }

-- the first row of a matches the second and the third of b, and the second row of a the first of b
list_joined : list_of world 1 (JoinOperator Nested (SeqScan 1) (SeqScan 2)) ≡ row 3 1 2 ∷ row 3 1 3 ∷ row 3 2 1 ∷ []
list_joined = refl

pairs_joined : answers (join_for world 1 (SeqScan 1) (SeqScan 2)) (list_of world 1 (SeqScan 1)) (list_of world 1 (SeqScan 2)) ≡ row 3 1 2 ∷ row 3 1 3 ∷ row 3 2 1 ∷ []
pairs_joined = refl

-- the first answer: the first rows don't match. The left side's key, that of both first rows, comes first, on a tie with the right
-- side's; then both sides' keys are that of the first left row with the first right one, and so on, until the second right row is
-- there. The pair of the second left row with the first right one is held
abbrev core_after_one : Joined
core_after_one = joined_in (join_node_after world 1 Nested (SeqScan 1) (SeqScan 2) 1).core

lefts_after_one : core_after_one.lefts ≡ row 1 1 0 ∷ row 1 2 0 ∷ []
lefts_after_one = refl

rights_after_one : core_after_one.rights ≡ row 2 0 1 ∷ row 2 0 2 ∷ []
rights_after_one = refl

held_after_one : core_after_one.ripple.held ≡ (key 3 2 1, row 3 2 1) ∷ []
held_after_one = refl

taken_after_one : core_after_one.ripple.taken ≡ Some (key 3 1 2)
taken_after_one = refl

-- a hash join keeps the same, each row with its value of g
hashed_after_one : (join_node_after world 1 Hash (SeqScan 1) (SeqScan 2) 1).core ≡ core.Hash (record {
  ripple = core_after_one.ripple;
  lefts = record { row = row 1 1 0; values = int 1 ∷ [] } ∷ record { row = row 1 2 0; values = int 2 ∷ [] } ∷ [];
  rights = record { row = row 2 0 1; values = int 2 ∷ [] } ∷ record { row = row 2 0 2; values = int 1 ∷ [] } ∷ [];
})
hashed_after_one = refl

-- behind the last answer both sides have ended, and nothing is held
abbrev core_after_four : Joined
core_after_four = joined_in (join_node_after world 1 Nested (SeqScan 1) (SeqScan 2) 4).core

held_after_four : core_after_four.ripple.held ≡ []
held_after_four = refl

left_over_after_four : core_after_four.ripple.left.ended ≡ true
left_over_after_four = refl

right_over_after_four : core_after_four.ripple.right.ended ≡ true
right_over_after_four = refl

-- a join of which nothing was asked keeps nothing
abbrev core_at_first : Joined
core_at_first = joined_in (join_node_after world 1 Nested (SeqScan 1) (SeqScan 2) 0).core

lefts_at_first : core_at_first.lefts ≡ []
lefts_at_first = refl
