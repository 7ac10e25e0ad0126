-- The block that the tests build is well-formed.
use Rattle.std.proofs.Common.{◌≡◌, true, [], ◌∷◌, Option, Some, None, length, refl, subst, sym, arith}
use Rattle.std.specs.List.{AllByRecursion}
use Rattle.std.proofs.lemmas.Bool.{false≢true}
use Rattle.rs_value.specs.declared.kind.Kind.{Kind}
use Rattle.rs_value.specs.declared.kind.Kind.TheVariants as kind
use Rattle.rs_value.specs.declared.rel.Rel.TheVariants.{Eq}
use Rattle.rs_expr.specs.Formulas.{Argument, Numbers}
use Rattle.rs_expr.specs.Uses.{is_kind}
use Rattle.rs_catalog.specs.Catalog.{CatalogDef}
use Rattle.rs_catalog.specs.declared.index.BoundArg.TheVariants as arg
use Rattle.rs_query.specs.declared.block.Block.{Block}
use Rattle.rs_query.specs.WellFormed.{IsBlock, IsColumn, IsConjunct, IsFromEntry, IsTerm, column_kind}
use Rattle.test_plans.specs.Pair.{HasPredicate, IsPair}

a_number : (found : Option Kind) → is_kind kind.Int found ≡ true → found ≡ Some kind.Int
a_number (Some kind.Int) is = refl
a_number (Some kind.Text) is = absurd (false≢true is)
a_number None is = absurd (false≢true is)

is_conjunct : (catalogue : CatalogDef) (block : Block) → IsColumn catalogue block (1, 0) → IsColumn catalogue block (2, 0)
    → is_kind kind.Int (column_kind catalogue block (1, 0)) ≡ true → is_kind kind.Int (column_kind catalogue block (2, 0)) ≡ true
    → IsConjunct catalogue block (record { condition = Numbers Eq (Argument 0) (Argument 1); columns = (1, 0) ∷ (2, 0) ∷ []; entries = 3; equality = Some ((1, 0), (2, 0)) })
is_conjunct catalogue block left right left_number right_number = record {
  columns = (left, (right, tt));
  distinct = (refl, (refl, tt));
  entries = refl;
  uses = rw (left_number, right_number) refl;
  narrow = refl;
  equality = refl;
}

is_term : (catalogue : CatalogDef) (block : Block) → HasPredicate catalogue → IsColumn catalogue block (1, 0) → column_kind catalogue block (1, 0) ≡ Some kind.Int
    → IsTerm catalogue block (record { weight = 1; predicate = 0; args = arg.Column 1 0 ∷ []; max = 10; entries = 1 })
is_term catalogue block has column number = record {
  predicate = record { name = has.name; params = kind.Int ∷ []; max = 10; cost = 1; formula = Argument 0 };
  has_predicate = rw has.predicates refl;
  args = ((column, number), tt);
  some_column = omega arith;
  entries = refl;
  some_weight = omega arith;
  most_weight = omega arith;
  max = omega arith;
}

pub IsBlock-pair : (catalogue : CatalogDef) (block : Block) → length catalogue.tables ≡ 1 → HasPredicate catalogue → IsPair block
    → is_kind kind.Int (column_kind catalogue block (1, 0)) ≡ true → is_kind kind.Int (column_kind catalogue block (2, 0)) ≡ true → IsBlock catalogue block
IsBlock-pair catalogue block one has pair left_number right_number =
    let left_kind : column_kind catalogue block (1, 0) ≡ Some kind.Int = a_number (column_kind catalogue block (1, 0)) left_number in
    let right_kind : column_kind catalogue block (2, 0) ≡ Some kind.Int = a_number (column_kind catalogue block (2, 0)) right_number in
    let from : length block.from ≡ 2 = rw pair.entries.are refl in
    let left : IsColumn catalogue block (1, 0) = (omega arith, omega arith, (kind.Int, left_kind)) in
    let right : IsColumn catalogue block (2, 0) = (omega arith, omega arith, (kind.Int, right_kind)) in
    record {
      some_entries = omega arith;
      most_entries = omega arith;
      entries = subst (AllByRecursion (IsFromEntry catalogue)) (sym pair.entries.are) (omega arith, (omega arith, tt));
      most_conjuncts = rw pair.conjuncts (omega arith);
      conjuncts = subst (AllByRecursion (IsConjunct catalogue block)) (sym pair.conjuncts) (is_conjunct catalogue block left right left_number right_number, tt);
      most_items = rw pair.items (omega arith);
      items = subst (AllByRecursion (IsColumn catalogue block)) (sym pair.items) (left, tt);
      most_terms = rw pair.terms (omega arith);
      terms = subst (AllByRecursion (IsTerm catalogue block)) (sym pair.terms) (is_term catalogue block has left left_kind, tt);
    }
