-- The value of a formula stays within its width, and no width passes the greatest magnitude.
use Rattle.std.specs.Prelude.{ℤ, negsuc, nat_abs, neg_ℤ, ◌+ℤ◌, ◌-ℤ◌, ◌*ℤ◌, int_div, max, is_some, option_map, slice_get, if◌then◌else◌}
use Rattle.std.specs.Int.{int_min, int_max}
use Rattle.std.proofs.Common.{ℕ, suc, pos, ◌≡◌, ◌≢◌, ◌+◌, ◌*◌, ◌/◌, ◌<◌, ◌≤◌, ◌==◌, Bool, true, false, nat_le, List, Option, Some, None, refl, arith}
use Rattle.std.proofs.Math.Nat.{div-le_self, div-mul-le_self}
use Rattle.std.proofs.lemmas.Bool.{leb-true, eqb-false, and_parts}
use Rattle.std.proofs.lemmas.Int.{ints, clamps, unsigned_abs-mul}
use Rattle.std.proofs.lemmas.Nat.{mul-le, le-div}
use Rattle.rs_value.specs.Number.{greatest_int}
use Rattle.rs_value.specs.declared.kind.Kind.TheVariants as kind
use Rattle.rs_value.specs.declared.value.Value.{Value}
use Rattle.rs_value.specs.declared.value.Value.TheVariants as value
use Rattle.rs_expr.specs.Formulas.{Formula, Argument, Constant, Negated, Sum, Difference, Product, Quotient, Magnitude, Least, Greatest, Case}
use Rattle.rs_expr.specs.Meaning.{argument_number, value_of, holds}
use Rattle.rs_expr.specs.Uses.{has_argument, is_of, uses}
use Rattle.rs_expr.specs.Widths.{is_narrow, most_width, of_two, width_of, within}

-- the magnitude of what an operation gives
abs-negated : (a : ℤ) → nat_abs (neg_ℤ a) ≡ nat_abs a
abs-negated a = omega (arith, ints)

abs-sum : (a b : ℤ) → nat_abs (a +ℤ b) ≤ nat_abs a + nat_abs b
abs-sum a b = omega (arith, ints)

abs-difference : (a b : ℤ) → nat_abs (a -ℤ b) ≤ nat_abs a + nat_abs b
abs-difference a b = omega (arith, ints)

abs-least : (a b : ℤ) → nat_abs (int_min a b) ≤ max (nat_abs a) (nat_abs b)
abs-least a b = omega (arith, ints, clamps)

abs-greatest : (a b : ℤ) → nat_abs (int_max a b) ≤ max (nat_abs a) (nat_abs b)
abs-greatest a b = omega (arith, ints, clamps)

pub abs-quotient : (a d : ℤ) → nat_abs (int_div a d) ≡ nat_abs a / nat_abs d
abs-quotient (pos a) (pos d) = refl
abs-quotient (pos a) (negsuc d) = abs-negated (pos (a / suc d))
abs-quotient (negsuc a) (pos d) = abs-negated (pos (suc a / d))
abs-quotient (negsuc a) (negsuc d) = refl

quotient_rises : (a b k : ℕ) → 0 < k → a ≤ b → a / k ≤ b / k
quotient_rises a b k positive h = le-div (a / k) b k positive (omega (arith, div-mul-le_self a k))

-- what a width says that isn't too great
record IsWithin (made width : ℕ) : Type 0 where
  pub same : width ≡ made
  pub most : width ≤ most_width

within-some : (made width : ℕ) → within made ≡ Some width → IsWithin made width
within-some made width e = go (nat_le made most_width) refl e
  where
    go : (b : Bool) → nat_le made most_width ≡ b → (if b then Some made else None) ≡ Some width → IsWithin made width
    go true small e = let same : width ≡ made = cc in record { same = same; most = omega (arith, leb-true made most_width small) }
    go false small e = absurd (cc)

-- what a width of two parts says: each has one
record OfTwo (combine : ℕ → ℕ → ℕ) (a b : Option ℕ) (width : ℕ) : Type 0 where
  pub left : ℕ
  pub right : ℕ
  pub left_is : a ≡ Some left
  pub right_is : b ≡ Some right
  pub whole : IsWithin (combine left right) width

of_two-some : (combine : ℕ → ℕ → ℕ) (a b : Option ℕ) (width : ℕ) → of_two combine a b ≡ Some width → OfTwo combine a b width
of_two-some combine (Some a) (Some b) width e = record { left = a; right = b; left_is = refl; right_is = refl; whole = within-some (combine a b) width e }
of_two-some combine (Some a) None width e = absurd (cc)
of_two-some combine None b width e = absurd (cc)

-- x stays within the width, if there is one
abbrev pub StaysIn : Option ℕ → ℕ → Type 0
StaysIn o x = (width : ℕ) → o ≡ Some width → x ≤ width

two-within : {combine : ℕ → ℕ → ℕ} {a b : Option ℕ} (x y z : ℕ) → StaysIn a x → StaysIn b y → ((v w : ℕ) → x ≤ v → y ≤ w → z ≤ combine v w)
    → StaysIn (of_two combine a b) z
two-within {combine} {a} {b} x y z left right both width e =
    let parts : OfTwo combine a b width = of_two-some combine a b width e in
    rw parts.whole.same (both parts.left parts.right (left parts.left parts.left_is) (right parts.right parts.right_is))

argument-within : (o : Option Value) → is_of kind.Int o ≡ true → StaysIn (Some greatest_int) (nat_abs (argument_number o))
argument-within (Some (value.Int n)) u width e = let same : width ≡ greatest_int = cc in omega (arith, leb-true (nat_abs n) greatest_int u)
argument-within (Some (value.Text t)) u width e = absurd (cc)
argument-within None u width e = absurd (cc)

-- the width of a quotient, where the test says whether the divisor is 0
abbrev quotient_width : Bool → ℕ → Option ℕ → Option ℕ
quotient_width zero_divisor d o = if zero_divisor then None else option_map (λ a. a / d) o

quotient-within : (b : Bool) (x d : ℤ) (o : Option ℕ) → (nat_abs d == 0) ≡ b → StaysIn o (nat_abs x) → StaysIn (quotient_width b (nat_abs d) o) (nat_abs (int_div x d))
quotient-within true x d o test part width e = absurd (cc)
quotient-within false x d None test part width e = absurd (cc)
quotient-within false x d (Some v) test part width e =
    let same : width ≡ v / nat_abs d = cc in
    let nonzero = eqb-false (nat_abs d) 0 test in
    let positive : 0 < nat_abs d = omega arith in
    rw (same, abs-quotient) (quotient_rises (nat_abs x) v (nat_abs d) positive (part v refl))

case-within : (b : Bool) (x y : ℤ) {a c : Option ℕ} → StaysIn a (nat_abs x) → StaysIn c (nat_abs y) → StaysIn (of_two max a c) (nat_abs (if b then x else y))
case-within true x y left right = two-within (nat_abs x) (nat_abs y) (nat_abs x) left right (λ v w p q. omega arith)
case-within false x y left right = two-within (nat_abs x) (nat_abs y) (nat_abs y) left right (λ v w p q. omega arith)

-- a CASE that has a width has a condition that is narrow
narrow-some : (b : Bool) (o : Option ℕ) (width : ℕ) → (if b then o else None) ≡ Some width → o ≡ Some width
narrow-some true o width e = e
narrow-some false o width e = absurd (cc)

-- a product stays within the width of two parts, and a quotient within that of its part
pub product-stays : (f g : Formula) (x y : ℤ) → StaysIn (width_of f) (nat_abs x) → StaysIn (width_of g) (nat_abs y)
    → StaysIn (width_of (Product f g)) (nat_abs (x *ℤ y))
product-stays f g x y left right =
    two-within (nat_abs x) (nat_abs y) (nat_abs (x *ℤ y)) left right (λ v w p q. rw unsigned_abs-mul (mul-le (nat_abs x) (nat_abs y) v w p q))

pub quotient-stays : (f : Formula) (divisor x : ℤ) → StaysIn (width_of f) (nat_abs x) → StaysIn (width_of (Quotient f divisor)) (nat_abs (int_div x divisor))
quotient-stays f divisor x part = quotient-within (nat_abs divisor == 0) x divisor (width_of f) refl part

-- the value of a formula stays within its width
pub value-within : (formula : Formula) (args : List Value) (width : ℕ) → uses (has_argument args) formula ≡ true → width_of formula ≡ Some width
    → nat_abs (value_of formula args) ≤ width
value-within (Argument i) args width u e = argument-within (slice_get args i) u width e
value-within (Constant n) args width u e = let same : width ≡ nat_abs n = (within-some (nat_abs n) width e).same in omega (arith, same)
value-within (Negated f) args width u e = rw abs-negated (value-within f args width u e)
value-within (Sum f g) args width u e =
    let x = value_of f args in let y = value_of g args in let both = and_parts (uses (has_argument args) f) (uses (has_argument args) g) u in
    two-within (nat_abs x) (nat_abs y) (nat_abs (x +ℤ y)) (λ v. value-within f args v both.0) (λ w. value-within g args w both.1)
    (λ v w p q. omega (arith, abs-sum x y)) width e
value-within (Difference f g) args width u e =
    let x = value_of f args in let y = value_of g args in let both = and_parts (uses (has_argument args) f) (uses (has_argument args) g) u in
    two-within (nat_abs x) (nat_abs y) (nat_abs (x -ℤ y)) (λ v. value-within f args v both.0) (λ w. value-within g args w both.1)
    (λ v w p q. omega (arith, abs-difference x y)) width e
value-within (Product f g) args width u e =
    let both = and_parts (uses (has_argument args) f) (uses (has_argument args) g) u in
    product-stays f g (value_of f args) (value_of g args) (λ v. value-within f args v both.0) (λ w. value-within g args w both.1) width e
value-within (Quotient f divisor) args width u e = quotient-stays f divisor (value_of f args) (λ v. value-within f args v u) width e
value-within (Magnitude f) args width u e = value-within f args width u e
value-within (Least f g) args width u e =
    let x = value_of f args in let y = value_of g args in let both = and_parts (uses (has_argument args) f) (uses (has_argument args) g) u in
    two-within (nat_abs x) (nat_abs y) (nat_abs (int_min x y)) (λ v. value-within f args v both.0) (λ w. value-within g args w both.1)
    (λ v w p q. omega (arith, abs-least x y)) width e
value-within (Greatest f g) args width u e =
    let x = value_of f args in let y = value_of g args in let both = and_parts (uses (has_argument args) f) (uses (has_argument args) g) u in
    two-within (nat_abs x) (nat_abs y) (nat_abs (int_max x y)) (λ v. value-within f args v both.0) (λ w. value-within g args w both.1)
    (λ v w p q. omega (arith, abs-greatest x y)) width e
value-within (Case c f g) args width u e =
    let parts = and_parts (uses (has_argument args) f) (uses (has_argument args) g) (and_parts _ _ u).1 in
    case-within (holds c args) (value_of f args) (value_of g args) (λ v. value-within f args v parts.0) (λ w. value-within g args w parts.1)
    width (narrow-some (is_narrow c) _ width e)

quotient-most : (b : Bool) (d : ℕ) (o : Option ℕ) (width : ℕ) → ((v : ℕ) → o ≡ Some v → v ≤ most_width) → quotient_width b d o ≡ Some width → width ≤ most_width
quotient-most true d o width part e = absurd (cc)
quotient-most false d None width part e = absurd (cc)
quotient-most false d (Some v) width part e = let same : width ≡ v / d = cc in omega (arith, part v refl, div-le_self v d)

-- no width passes the greatest magnitude
pub width-most : (formula : Formula) (width : ℕ) → width_of formula ≡ Some width → width ≤ most_width
width-most (Argument i) width e = let same : width ≡ greatest_int = cc in omega arith
width-most (Constant n) width e = (within-some (nat_abs n) width e).most
width-most (Negated f) width e = width-most f width e
width-most (Sum f g) width e = (of_two-some ◌+◌ (width_of f) (width_of g) width e).whole.most
width-most (Difference f g) width e = (of_two-some ◌+◌ (width_of f) (width_of g) width e).whole.most
width-most (Product f g) width e = (of_two-some ◌*◌ (width_of f) (width_of g) width e).whole.most
width-most (Quotient f divisor) width e = quotient-most (nat_abs divisor == 0) (nat_abs divisor) (width_of f) width (width-most f) e
width-most (Magnitude f) width e = width-most f width e
width-most (Least f g) width e = (of_two-some max (width_of f) (width_of g) width e).whole.most
width-most (Greatest f g) width e = (of_two-some max (width_of f) (width_of g) width e).whole.most
width-most (Case c f g) width e = (of_two-some max (width_of f) (width_of g) width (narrow-some (is_narrow c) _ width e)).whole.most

-- so what stays within the width of a formula that has one stays within the greatest magnitude
pub stays-most : (formula : Formula) (value : ℤ) → is_some (width_of formula) ≡ true → StaysIn (width_of formula) (nat_abs value) → nat_abs value ≤ most_width
stays-most formula value narrow stays = go (width_of formula) refl narrow
  where
    go : (o : Option ℕ) → width_of formula ≡ o → is_some o ≡ true → nat_abs value ≤ most_width
    go (Some width) is n = omega (arith, stays width is, width-most formula width is)
    go None is n = absurd (cc)

-- a quotient that has a width has a part that has one, and a divisor that isn't 0
pub quotient-part : (f : Formula) (divisor : ℤ) → is_some (width_of (Quotient f divisor)) ≡ true → is_some (width_of f) ≡ true
quotient-part f divisor narrow = go (nat_abs divisor == 0) (width_of f) narrow
  where
    go : (b : Bool) (o : Option ℕ) → is_some (quotient_width b (nat_abs divisor) o) ≡ true → is_some o ≡ true
    go true o n = absurd (cc)
    go false (Some v) n = refl
    go false None n = n

pub quotient-divisor : (f : Formula) (divisor : ℤ) → is_some (width_of (Quotient f divisor)) ≡ true → nat_abs divisor ≢ 0
quotient-divisor f divisor narrow = go (nat_abs divisor == 0) refl narrow
  where
    go : (b : Bool) → (nat_abs divisor == 0) ≡ b → is_some (quotient_width b (nat_abs divisor) (width_of f)) ≡ true → nat_abs divisor ≢ 0
    go true test n = absurd (cc)
    go false test n = eqb-false (nat_abs divisor) 0 test
