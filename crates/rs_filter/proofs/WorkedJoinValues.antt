-- Columns that conjuncts equate across two sides, and join values, worked by hand.
use Rattle.std.proofs.Common.{◌≡◌, ℕ, true, false, [], ◌∷◌, None, Some, refl, pos}
use Rattle.std.specs.Prelude.{codes}
use Rattle.rs_value.specs.declared.kind.Kind.TheVariants as kind
use Rattle.rs_value.specs.declared.rel.Rel.TheVariants.{Eq, Lt}
use Rattle.rs_value.specs.declared.value.Value.{Value}
use Rattle.rs_value.specs.declared.value.Value.TheVariants as value
use Rattle.rs_expr.specs.Formulas.{Argument, Numbers, Texts}
use Rattle.rs_expr.specs.declared.expr.TextSide.TheVariants as side
use Rattle.rs_catalog.specs.Catalog.{CatalogDef}
use Rattle.rs_query.specs.Conjuncts.{ConjunctDef}
use Rattle.rs_query.specs.declared.block.Block.{Block}
use Rattle.rs_filter.specs.JoinValues.{equated_across, is_equi, left_values, right_values}

-- column g is a number, h a text
abbrev int : ℕ → Value
int n = value.Int (pos n)

abbrev catalogue : CatalogDef
catalogue = record {
  tables = record {
    name = codes "t";
    table = record {
      schema = (codes "g", kind.Int) ∷ (codes "h", kind.Text) ∷ [];
      rows = (int 4 ∷ value.Text (codes "x") ∷ []) ∷ (int 7 ∷ value.Text (codes "y") ∷ []) ∷ [];
    };
  } ∷ [];
  predicates = [];
  indexes = [];
}

abbrev numbers : ℕ × ℕ → ℕ × ℕ → ℕ → ConjunctDef
numbers a b entries = record { condition = Numbers Eq (Argument 0) (Argument 1); columns = a ∷ b ∷ []; entries = entries; equality = Some (a, b) }

abbrev texts : ℕ × ℕ → ℕ × ℕ → ℕ → ConjunctDef
texts a b entries = record { condition = Texts Eq (side.Arg 0) (side.Arg 1); columns = a ∷ b ∷ []; entries = entries; equality = Some (a, b) }

abbrev less : ConjunctDef
less = record { condition = Numbers Lt (Argument 0) (Argument 1); columns = (1, 0) ∷ (2, 0) ∷ []; entries = 3; equality = None }

-- a.g = b.g, the other way round c.h = a.h, a.g < b.g, and b.g = c.g, over three entries of t
abbrev block : Block
block = record {
  from = (0, codes "a") ∷ (0, codes "b") ∷ (0, codes "c") ∷ [];
  conjuncts = numbers (1, 0) (2, 0) 3 ∷ texts (3, 1) (1, 1) 5 ∷ less ∷ numbers (2, 0) (3, 0) 6 ∷ [];
  items = [];
  terms = [];
  distinct = false;
}

-- of the sides a, and b and c, the first two are across; the last one is of the right side alone
first_across : equated_across 1 6 (numbers (1, 0) (2, 0) 3) ≡ ((1, 0), (2, 0)) ∷ []
first_across = refl

second_across : equated_across 1 6 (texts (3, 1) (1, 1) 5) ≡ ((1, 1), (3, 1)) ∷ []
second_across = refl

no_equality : equated_across 1 6 less ≡ []
no_equality = refl

of_one_side : equated_across 1 6 (numbers (2, 0) (3, 0) 6) ≡ []
of_one_side = refl

-- the first row of a has 4 and x; the second row of b and the first of c have 7 and x
values_of_left : left_values catalogue block 1 6 (1 ∷ 0 ∷ 0 ∷ 0 ∷ 0 ∷ 0 ∷ []) ≡ int 4 ∷ value.Text (codes "x") ∷ []
values_of_left = refl

values_of_right : right_values catalogue block 1 6 (0 ∷ 2 ∷ 1 ∷ 0 ∷ 0 ∷ 0 ∷ []) ≡ int 7 ∷ value.Text (codes "x") ∷ []
values_of_right = refl

-- where the sides are turned round, so are the columns
turned_round : equated_across 6 1 (numbers (1, 0) (2, 0) 3) ≡ ((2, 0), (1, 0)) ∷ []
turned_round = refl

-- a.g < b.g is no equality; of the sides a and b, and c, it isn't across, and neither is a.g = b.g
less_across : is_equi 1 6 block.conjuncts ≡ false
less_across = refl

equalities_across : is_equi 3 4 block.conjuncts ≡ true
equalities_across = refl
