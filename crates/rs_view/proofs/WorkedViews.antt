-- Views that are kept, and what their growths ask, computed on literals and worked by hand.
use Rattle.std.proofs.Common.{◌≡◌, ℕ, false, List, [], ◌∷◌, map, refl}
use Rattle.std.specs.Prelude.{pos, Some, None, Option, codes}
use Rattle.rs_value.specs.declared.kind.Kind.TheVariants as kind
use Rattle.rs_value.specs.declared.rel.Rel.TheVariants.{Eq}
use Rattle.rs_value.specs.declared.value.Value.{Value}
use Rattle.rs_value.specs.declared.value.Value.TheVariants as value
use Rattle.rs_rank.specs.declared.answer.Answer.{Answer}
use Rattle.rs_expr.specs.Formulas.{Argument, Constant, Difference, Magnitude, Numbers}
use Rattle.rs_expr.specs.InOrder.{calls_of}
use Rattle.rs_expr.specs.Meaning.{value_of}
use Rattle.rs_expr.specs.Scoring.{Answering}
use Rattle.rs_expr.specs.declared.scorer.Call.{Call}
use Rattle.rs_catalog.specs.Catalog.{CatalogDef}
use Rattle.rs_catalog.specs.declared.index.BoundArg.TheVariants as arg
use Rattle.rs_query.specs.declared.query.Query.{Query}
use Rattle.rs_query.specs.declared.query.Query.TheVariants.{One}
use Rattle.rs_view.specs.Fresh.{growing, making}
use Rattle.rs_view.specs.Views.{kept_rows, view_of}

abbrev int : ℕ → Value
int n = value.Int (pos n)

abbrev house : List ℕ → ℕ → ℕ → List Value
house name price city = value.Text name ∷ int price ∷ int city ∷ []

-- what the scorer answers is the value of the formula
abbrev answer : Answering
answer p args = value_of p.formula args

-- h (name TEXT, price INT, city INT) with these rows behind three others, and near (a, b) = 100 - |a - b|
abbrev with_houses : List (List Value) → CatalogDef
with_houses more = record {
  tables = record {
    name = codes "h";
    table = record {
      schema = (codes "name", kind.Text) ∷ (codes "price", kind.Int) ∷ (codes "city", kind.Int) ∷ [];
      rows = house (codes "a") 40 1 ∷ house (codes "b") 90 1 ∷ house (codes "c") 40 2 ∷ more;
    };
  } ∷ [];
  predicates = record {
    name = codes "near";
    params = kind.Int ∷ kind.Int ∷ [];
    max = 100;
    cost = 1;
    formula = Difference (Constant (pos 100)) (Magnitude (Difference (Argument 0) (Argument 1)));
  } ∷ [];
  indexes = [];
}

-- SELECT x.name, y.name FROM h x, h y WHERE x.city = y.city ORDER BY near(x.price, y.price), with a LIMIT
abbrev pairs : Option ℕ → Query
pairs limit = One (record {
  from = (0, codes "x") ∷ (0, codes "y") ∷ [];
  conjuncts = record { condition = Numbers Eq (Argument 0) (Argument 1); columns = (1, 2) ∷ (2, 2) ∷ []; entries = 3; equality = Some ((1, 2), (2, 2)) } ∷ [];
  items = (1, 0) ∷ (2, 0) ∷ [];
  terms = record { weight = 1; predicate = 0; args = arg.Column 1 1 ∷ arg.Column 2 1 ∷ []; max = 100; entries = 3 } ∷ [];
  distinct = false;
}) limit

-- so many rows of both entries
abbrev both : ℕ → List ℕ
both n = n ∷ n ∷ 0 ∷ 0 ∷ 0 ∷ 0 ∷ []

-- the rows and the scores
abbrev shown : List Answer → List (ℕ × (List ℕ))
shown rows = map (λ (row : Answer). (row.score, row.ids.rows)) rows

abbrev pair : ℕ → ℕ → List ℕ
pair x y = x ∷ y ∷ 0 ∷ 0 ∷ 0 ∷ 0 ∷ []

abbrev near : ℕ → ℕ → Call
near x y = record { predicate = codes "near"; args = int x ∷ int y ∷ [] }

abbrev far_house : CatalogDef
far_house = with_houses (house (codes "d") 90 1 ∷ [])

-- three rows over three houses
kept-before : shown (kept_rows answer (with_houses []) (pairs (Some 3)) (both 3)) ≡ (100, pair 1 1) ∷ (100, pair 2 2) ∷ (100, pair 3 3) ∷ []
kept-before = refl

-- they are the same over as many houses of the grown table
kept-still : shown (kept_rows answer far_house (pairs (Some 3)) (both 3)) ≡ (100, pair 1 1) ∷ (100, pair 2 2) ∷ (100, pair 3 3) ∷ []
kept-still = refl

-- a house of city 1 makes five combinations, which are asked for in lexicographic order
growth-calls : calls_of (growing answer far_house (view_of answer far_house (pairs (Some 3)) (both 3))).requests
    ≡ near 40 90 ∷ near 90 90 ∷ near 90 40 ∷ near 90 90 ∷ near 90 90 ∷ []
growth-calls = refl

kept-behind : shown (kept_rows answer far_house (pairs (Some 3)) (both 4)) ≡ (100, pair 1 1) ∷ (100, pair 2 2) ∷ (100, pair 2 4) ∷ []
kept-behind = refl

-- a new combination comes in front of an older one of the same score where its row numbers do
abbrev near_house : CatalogDef
near_house = with_houses (house (codes "d") 40 1 ∷ [])

kept-first : shown (kept_rows answer near_house (pairs (Some 2)) (both 4)) ≡ (100, pair 1 1) ∷ (100, pair 1 4) ∷ []
kept-first = refl

-- a view of no row asks all the same
growth-limit_0 : calls_of (growing answer near_house (view_of answer near_house (pairs (Some 0)) (both 3))).requests
    ≡ near 40 40 ∷ near 90 40 ∷ near 40 40 ∷ near 40 90 ∷ near 40 40 ∷ []
growth-limit_0 = refl

-- and where no row is new, nothing
growth-nothing : calls_of (growing answer near_house (view_of answer near_house (pairs None) (both 4))).requests ≡ []
growth-nothing = refl

-- without LIMIT there are ten rows at most
kept-all : shown (kept_rows answer (with_houses []) (pairs None) (both 3))
    ≡ (100, pair 1 1) ∷ (100, pair 2 2) ∷ (100, pair 3 3) ∷ (50, pair 1 2) ∷ (50, pair 2 1) ∷ []
kept-all = refl

-- making asks for each combination
making-calls : calls_of (making answer (with_houses []) (pairs (Some 1))).requests
    ≡ near 40 40 ∷ near 40 90 ∷ near 90 40 ∷ near 90 90 ∷ near 40 40 ∷ []
making-calls = refl
