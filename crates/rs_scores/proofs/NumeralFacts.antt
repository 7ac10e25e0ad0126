-- A number in decimal digits is read back.
use Rattle.std.proofs.Common.{◌≡◌, ℕ, ℤ, ◌+◌, ◌-◌, ◌*◌, ◌^◌, ◌<◌, ◌≤◌, ◌==◌, length, pos, negsuc, suc, true, false, List, [], ◌∷◌, Some, option_map, refl, ap, ◌∙◌, arith, lit<}
use Rattle.std.specs.Char.{is_ascii_digit}
use Rattle.std.specs.Fmt.{decimal, signed_decimal}
use Rattle.std.specs.List.{list_all}
use Rattle.std.specs.Prelude.{fold, nat_abs, neg_ℤ}
use Rattle.std.proofs.lemmas.Bool.{and_parts, le-leb, leb-true, ne_eqb}
use Rattle.std.proofs.lemmas.Fmt.{decimal_nonempty, digits_decimal, digits_value-decimal}
use Rattle.std.proofs.lemmas.Str.Parse.{IsDigitsTest, IsNumeralModel, numerals_by_fold}
use Rattle.rs_value.specs.Number.{decimal_value, greatest_int, int_value, number_of}

-- a digit is a byte from 48 to 57
digit-low : (c : ℕ) → is_ascii_digit c ≡ true → 48 ≤ c
digit-low c e = leb-true 48 c (and_parts _ _ e).0

digit-high : (c : ℕ) → is_ascii_digit c ≡ true → c ≤ 57
digit-high c e = leb-true c 57 (and_parts _ _ e).1

tells-digits : IsDigitsTest (λ ds. list_all is_ascii_digit ds ≡ true)
tells-digits = record {
  empty = refl;
  parts = λ c cs e. let both = and_parts (is_ascii_digit c) (list_all is_ascii_digit cs) e in ((digit-low c both.0, digit-high c both.0), both.1);
  more = λ c cs k e. rw (le-leb 48 c k.0, le-leb c 57 k.1) e;
}

-- the test and the value of digits
digits-model : IsNumeralModel (λ ds. list_all is_ascii_digit ds ≡ true) number_of
digits-model =
    numerals_by_fold (λ ds. list_all is_ascii_digit ds ≡ true) tells-digits (λ n ds. fold (λ m digit. 10 * m + (digit - 48)) n ds)
    (record { empty = λ n. refl; more = λ n c cs k. ap (λ m. fold (λ m digit. 10 * m + (digit - 48)) m cs) (let same : 10 * n + (c - 48) ≡ n * 10 + (c - 48) = omega arith in same) })

-- digits that aren't empty are read as their value
decimal_value-digits : (n : ℕ) (digits : List ℕ) → 0 < length digits → list_all is_ascii_digit digits ≡ true → number_of digits ≡ n → n ≤ greatest_int → decimal_value greatest_int digits ≡ Some n
decimal_value-digits n [] some all value few = absurd (omega (arith, some))
decimal_value-digits n (first ∷ rest) some all value few = rw (all, value, le-leb n greatest_int few) refl

decimal_value-decimal : (n : ℕ) → n ≤ greatest_int → decimal_value greatest_int (decimal n) ≡ Some n
decimal_value-decimal n few =
    let small : n < 2 ^ 64 = let most : greatest_int < 2 ^ 64 = lit< tt in omega (arith, few, most) in
    decimal_value-digits n (decimal n) (decimal_nonempty n small) (digits_decimal digits-model n small) (digits_value-decimal digits-model n small) few

-- digits without a sign
int_value-digits : (digits : List ℕ) → 0 < length digits → list_all is_ascii_digit digits ≡ true → int_value digits ≡ option_map (λ n. pos n) (decimal_value greatest_int digits)
int_value-digits [] some all = absurd (omega (arith, some))
int_value-digits (first ∷ rest) some all =
    let digit : is_ascii_digit first ≡ true = (and_parts (is_ascii_digit first) (list_all is_ascii_digit rest) all).0 in
    let low = digit-low first digit in
    let minus : (first == 45) ≡ false = ne_eqb first 45 (λ e. absurd (omega (arith, low, e))) in
    let plus : (first == 43) ≡ false = ne_eqb first 43 (λ e. absurd (omega (arith, low, e))) in
    rw (minus, plus) refl

-- a number in the range of numbers is read as it was written
pub int_value-signed : (z : ℤ) → nat_abs z ≤ greatest_int → int_value (signed_decimal z) ≡ Some z
int_value-signed (pos n) few =
    let small : n < 2 ^ 64 = let most : greatest_int < 2 ^ 64 = lit< tt in omega (arith, few, most) in
    int_value-digits (decimal n) (decimal_nonempty n small) (digits_decimal digits-model n small) ∙ ap (λ o. option_map (λ m. pos m) o) (decimal_value-decimal n few)
int_value-signed (negsuc n) few = ap (λ o. option_map (λ m. neg_ℤ (pos m)) o) (decimal_value-decimal (suc n) few)
