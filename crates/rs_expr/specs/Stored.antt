-- How the logic stores a predicate. A formula is stored as a tree: the number of its form, and then its parts.
use Rattle.std.specs.Prelude.{◌≡◌, ℕ, T, nat_eq, List, [], ◌∷◌, refl}
use Rattle.std.specs.Coded.{Coded, code_by, coded×, coded_ℕ, coded_ℤ, coded_list}
use Rattle.std.proofs.Common.{ap, subst}
use Rattle.std.proofs.Math.Dec.{eqb_refl}
use base.Stored.{Gv, gnil, gnum, gcons, num}
use Rattle.rs_value.specs.declared.kind.Kind.{Kind}
use Rattle.rs_value.specs.contracts.kind.Kind as kind
use Rattle.rs_value.specs.contracts.rel.Rel as relation
use Rattle.rs_expr.specs.contracts.expr.TextSide as side
use Rattle.rs_expr.specs.Formulas.{Formula, Argument, Constant, Negated, Sum, Difference, Product, Quotient, Magnitude, Least, Greatest, Case, Condition, Numbers, Texts, Both, Either, Not}
use Rattle.rs_expr.specs.Predicates.{PredicateDef}

-- parts, one after another
abbrev joined : List Gv → Gv
joined [] = gnil
joined (part ∷ parts) = gcons part (joined parts)

-- the tree of a form and its parts
abbrev tree : ℕ → List Gv → Gv
tree form parts = gcons (gnum form) (joined parts)

-- the tree of a formula, and of a condition
abbrev mutual
  pub formula_tree : Formula → Gv
  formula_tree (Argument i) = tree 0 (coded_ℕ.code i ∷ [])
  formula_tree (Constant n) = tree 1 (coded_ℤ.code n ∷ [])
  formula_tree (Negated f) = tree 2 (formula_tree f ∷ [])
  formula_tree (Sum f g) = tree 3 (formula_tree f ∷ formula_tree g ∷ [])
  formula_tree (Difference f g) = tree 4 (formula_tree f ∷ formula_tree g ∷ [])
  formula_tree (Product f g) = tree 5 (formula_tree f ∷ formula_tree g ∷ [])
  formula_tree (Quotient f divisor) = tree 6 (formula_tree f ∷ coded_ℤ.code divisor ∷ [])
  formula_tree (Magnitude f) = tree 7 (formula_tree f ∷ [])
  formula_tree (Least f g) = tree 8 (formula_tree f ∷ formula_tree g ∷ [])
  formula_tree (Greatest f g) = tree 9 (formula_tree f ∷ formula_tree g ∷ [])
  formula_tree (Case c f g) = tree 10 (condition_tree c ∷ formula_tree f ∷ formula_tree g ∷ [])

  pub condition_tree : Condition → Gv
  condition_tree (Numbers rel f g) = tree 0 (relation.the_row.coded.code rel ∷ formula_tree f ∷ formula_tree g ∷ [])
  condition_tree (Texts rel a b) = tree 1 (relation.the_row.coded.code rel ∷ side.the_row.coded.code a ∷ side.the_row.coded.code b ∷ [])
  condition_tree (Both c d) = tree 2 (condition_tree c ∷ condition_tree d ∷ [])
  condition_tree (Either c d) = tree 3 (condition_tree c ∷ condition_tree d ∷ [])
  condition_tree (Not c) = tree 4 (condition_tree c ∷ [])

abbrev head : Gv → Gv
head gnil = gnil
head (gnum n) = gnil
head (gcons part parts) = part

abbrev tail : Gv → Gv
tail gnil = gnil
tail (gnum n) = gnil
tail (gcons part parts) = parts

-- the form of a tree, and its parts
abbrev form : Gv → ℕ
form t = num (head t)

abbrev first : Gv → Gv
first t = head (tail t)

abbrev second : Gv → Gv
second t = head (tail (tail t))

abbrev third : Gv → Gv
third t = head (tail (tail (tail t)))

-- equal numbers pass the test
pub same_form : (m n : ℕ) → m ≡ n → T (nat_eq m n)
same_form m n same = subst (λ (k : ℕ). T (nat_eq m k)) same (eqb_refl m)

-- different ones have different trees
mutual
  pub formula_inj : (x y : Formula) → formula_tree x ≡ formula_tree y → x ≡ y
  formula_inj (Argument i) (Argument i') p = λ at. Argument (coded_ℕ.inj i i' (ap first p) at)
  formula_inj (Argument i) other p = absurd (same_form 0 _ (ap form p))
  formula_inj (Constant n) (Constant n') p = λ at. Constant (coded_ℤ.inj n n' (ap first p) at)
  formula_inj (Constant n) other p = absurd (same_form 1 _ (ap form p))
  formula_inj (Negated f) (Negated f') p = λ at. Negated (formula_inj f f' (ap first p) at)
  formula_inj (Negated f) other p = absurd (same_form 2 _ (ap form p))
  formula_inj (Sum f g) (Sum f' g') p = λ at. Sum (formula_inj f f' (ap first p) at) (formula_inj g g' (ap second p) at)
  formula_inj (Sum f g) other p = absurd (same_form 3 _ (ap form p))
  formula_inj (Difference f g) (Difference f' g') p = λ at. Difference (formula_inj f f' (ap first p) at) (formula_inj g g' (ap second p) at)
  formula_inj (Difference f g) other p = absurd (same_form 4 _ (ap form p))
  formula_inj (Product f g) (Product f' g') p = λ at. Product (formula_inj f f' (ap first p) at) (formula_inj g g' (ap second p) at)
  formula_inj (Product f g) other p = absurd (same_form 5 _ (ap form p))
  formula_inj (Quotient f divisor) (Quotient f' divisor') p = λ at. Quotient (formula_inj f f' (ap first p) at) (coded_ℤ.inj divisor divisor' (ap second p) at)
  formula_inj (Quotient f divisor) other p = absurd (same_form 6 _ (ap form p))
  formula_inj (Magnitude f) (Magnitude f') p = λ at. Magnitude (formula_inj f f' (ap first p) at)
  formula_inj (Magnitude f) other p = absurd (same_form 7 _ (ap form p))
  formula_inj (Least f g) (Least f' g') p = λ at. Least (formula_inj f f' (ap first p) at) (formula_inj g g' (ap second p) at)
  formula_inj (Least f g) other p = absurd (same_form 8 _ (ap form p))
  formula_inj (Greatest f g) (Greatest f' g') p = λ at. Greatest (formula_inj f f' (ap first p) at) (formula_inj g g' (ap second p) at)
  formula_inj (Greatest f g) other p = absurd (same_form 9 _ (ap form p))
  formula_inj (Case c f g) (Case c' f' g') p = λ at. Case (condition_inj c c' (ap first p) at) (formula_inj f f' (ap second p) at) (formula_inj g g' (ap third p) at)
  formula_inj (Case c f g) other p = absurd (same_form 10 _ (ap form p))

  pub condition_inj : (x y : Condition) → condition_tree x ≡ condition_tree y → x ≡ y
  condition_inj (Numbers rel f g) (Numbers rel' f' g') p = λ at. Numbers (relation.the_row.coded.inj rel rel' (ap first p) at) (formula_inj f f' (ap second p) at) (formula_inj g g' (ap third p) at)
  condition_inj (Numbers rel f g) other p = absurd (same_form 0 _ (ap form p))
  condition_inj (Texts rel a b) (Texts rel' a' b') p = λ at. Texts (relation.the_row.coded.inj rel rel' (ap first p) at) (side.the_row.coded.inj a a' (ap second p) at) (side.the_row.coded.inj b b' (ap third p) at)
  condition_inj (Texts rel a b) other p = absurd (same_form 1 _ (ap form p))
  condition_inj (Both c d) (Both c' d') p = λ at. Both (condition_inj c c' (ap first p) at) (condition_inj d d' (ap second p) at)
  condition_inj (Both c d) other p = absurd (same_form 2 _ (ap form p))
  condition_inj (Either c d) (Either c' d') p = λ at. Either (condition_inj c c' (ap first p) at) (condition_inj d d' (ap second p) at)
  condition_inj (Either c d) other p = absurd (same_form 3 _ (ap form p))
  condition_inj (Not c) (Not c') p = λ at. Not (condition_inj c c' (ap first p) at)
  condition_inj (Not c) other p = absurd (same_form 4 _ (ap form p))

abbrev pub formula_code : Coded Formula
formula_code = record { code = formula_tree; inj = formula_inj }

-- a predicate is stored as the tuple of its fields
abbrev pub predicate_code : Coded PredicateDef
predicate_code =
    code_by (List ℕ × (List Kind × (ℕ × (ℕ × Formula)))) (coded× (coded_list coded_ℕ) (coded× (coded_list kind.the_row.coded) (coded× coded_ℕ (coded× coded_ℕ formula_code))))
    (λ p. (p.name, (p.params, (p.max, (p.cost, p.formula)))))
    (λ t. record { name = t.0; params = t.1.0; max = t.1.1.0; cost = t.1.1.1.0; formula = t.1.1.1.1 }) (λ _. refl)
