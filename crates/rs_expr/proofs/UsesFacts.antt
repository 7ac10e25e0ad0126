-- What a formula uses, where the arguments have the kinds of the parameters.
use Rattle.std.proofs.Common.{ℕ, zero, suc, ◌≡◌, List, [], ◌∷◌, Bool, true, ◌&&◌, Some, None, refl}
use Rattle.std.proofs.lemmas.Bool.{and_parts, and_from, false≢true}
use Rattle.rs_value.specs.Value.{fits, all_fit}
use Rattle.rs_value.specs.declared.kind.Kind.{Kind}
use Rattle.rs_value.specs.declared.kind.Kind.TheVariants as kind
use Rattle.rs_value.specs.declared.value.Value.{Value}
use Rattle.rs_expr.specs.Formulas.{Formula, Argument, Constant, Negated, Sum, Difference, Product, Quotient, Magnitude, Least, Greatest, Case, Condition, Numbers, Texts, Both, Either, Not}
use Rattle.rs_expr.specs.Uses.{uses, condition_uses, side_uses, is_kind, has_parameter, has_argument}
use Rattle.rs_expr.specs.declared.expr.TextSide.{TextSide}
use Rattle.rs_expr.specs.declared.expr.TextSide.TheVariants as side

-- two tests of arguments, where what the first one has the second one has too
module _ (has kept : Kind → ℕ → Bool) (keeps : (kind : Kind) (i : ℕ) → has kind i ≡ true → kept kind i ≡ true) where
  side_more : (a : TextSide) → side_uses has a ≡ true → side_uses kept a ≡ true
  side_more (side.Arg i) h = keeps kind.Text i h
  side_more (side.Text t) h = refl

  -- what holds of both parts
  both_more : (a b c d : Bool) → (a ≡ true → c ≡ true) → (b ≡ true → d ≡ true) → (a && b) ≡ true → (c && d) ≡ true
  both_more a b c d f g h = let parts = and_parts a b h in and_from c d (f parts.0) (g parts.1)

  mutual
    pub uses_more : (f : Formula) → uses has f ≡ true → uses kept f ≡ true
    uses_more (Argument i) h = keeps kind.Int i h
    uses_more (Constant n) h = refl
    uses_more (Negated f) h = uses_more f h
    uses_more (Sum f g) h = both_more _ _ _ _ (uses_more f) (uses_more g) h
    uses_more (Difference f g) h = both_more _ _ _ _ (uses_more f) (uses_more g) h
    uses_more (Product f g) h = both_more _ _ _ _ (uses_more f) (uses_more g) h
    uses_more (Quotient f divisor) h = uses_more f h
    uses_more (Magnitude f) h = uses_more f h
    uses_more (Least f g) h = both_more _ _ _ _ (uses_more f) (uses_more g) h
    uses_more (Greatest f g) h = both_more _ _ _ _ (uses_more f) (uses_more g) h
    uses_more (Case c f g) h = both_more _ _ _ _ (condition_uses_more c) (both_more _ _ _ _ (uses_more f) (uses_more g)) h

    pub condition_uses_more : (c : Condition) → condition_uses has c ≡ true → condition_uses kept c ≡ true
    condition_uses_more (Numbers rel f g) h = both_more _ _ _ _ (uses_more f) (uses_more g) h
    condition_uses_more (Texts rel a b) h = both_more _ _ _ _ (side_more a) (side_more b) h
    condition_uses_more (Both c d) h = both_more _ _ _ _ (condition_uses_more c) (condition_uses_more d) h
    condition_uses_more (Either c d) h = both_more _ _ _ _ (condition_uses_more c) (condition_uses_more d) h
    condition_uses_more (Not c) h = condition_uses_more c h

no_kind : (kind : Kind) → is_kind kind None ≡ true → ⊥
no_kind kind.Int has = false≢true has
no_kind kind.Text has = false≢true has

fits_kind : (wanted own : Kind) (value : Value) → is_kind wanted (Some own) ≡ true → fits own value ≡ true → fits wanted value ≡ true
fits_kind kind.Int kind.Int value same fit = fit
fits_kind kind.Int kind.Text value same fit = absurd (false≢true same)
fits_kind kind.Text kind.Int value same fit = absurd (false≢true same)
fits_kind kind.Text kind.Text value same fit = fit

-- the value at the place of a parameter fits its kind
pub has_argument-from_parameter : (params : List Kind) (args : List Value) → all_fit params args ≡ true
    → (kind : Kind) (i : ℕ) → has_parameter params kind i ≡ true → has_argument args kind i ≡ true
has_argument-from_parameter [] args fit kind i has = absurd (no_kind kind has)
has_argument-from_parameter (own ∷ params) [] fit kind i has = absurd (false≢true fit)
has_argument-from_parameter (own ∷ params) (value ∷ args) fit kind zero has =
    fits_kind kind own value has (and_parts (fits own value) (all_fit params args) fit).0
has_argument-from_parameter (own ∷ params) (value ∷ args) fit kind (suc i) has =
    has_argument-from_parameter params args (and_parts (fits own value) (all_fit params args) fit).1 kind i has

-- a formula that uses the parameters as what they are uses the arguments as what they are
pub uses_arguments : (params : List Kind) (args : List Value) (f : Formula) → all_fit params args ≡ true
    → uses (has_parameter params) f ≡ true → uses (has_argument args) f ≡ true
uses_arguments params args f fit = uses_more (has_parameter params) (has_argument args) (has_argument-from_parameter params args fit) f
