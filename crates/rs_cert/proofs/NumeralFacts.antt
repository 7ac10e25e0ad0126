-- A number in decimal digits is read back.
use Rattle.std.proofs.Common.{◌≡◌, ℕ, ◌+◌, ◌-◌, ◌*◌, ◌/◌, ◌%◌, ◌≤◌, ◌<◌, ◌==◌, pos, true, false, List, [], ◌∷◌, ◌++◌, Some, option_map, refl, ap, ◌∙◌, subst, arith}
use Rattle.std.specs.Char.{is_ascii_digit}
use Rattle.std.specs.Fmt.{decimal}
use Rattle.std.specs.List.{list_all}
use Rattle.std.proofs.lemmas.Bool.{le-leb, ne_eqb}
use Rattle.std.proofs.lemmas.Fmt.{decimal_by_steps}
use Rattle.std.proofs.lemmas.List.Folds.{list_all-append}
use Rattle.std.proofs.lemmas.List.Sums.{fold-append}
use Rattle.rs_value.specs.Number.{are_digits, decimal_value, greatest_int, int_value, number_of}
use Rattle.rs_cert.specs.Records.{number_up_to}

-- these digits write this number
record Digits (n : ℕ) (digits : List ℕ) : Type 0 where
  first : ℕ
  rest : List ℕ
  are : digits ≡ first ∷ rest
  plain : ((first == 45) ≡ false) × ((first == 43) ≡ false)
  all : list_all is_ascii_digit digits ≡ true
  value : number_of digits ≡ n

digit-is : (c : ℕ) → 48 ≤ c → c ≤ 57 → is_ascii_digit c ≡ true
digit-is c low high = rw (le-leb 48 c low, le-leb c 57 high) refl

one-digit : (n : ℕ) → n < 10 → Digits n ((48 + n) ∷ [])
one-digit n small = record {
  first = 48 + n;
  rest = [];
  are = refl;
  plain = (ne_eqb (48 + n) 45 (λ e. absurd (omega arith)), ne_eqb (48 + n) 43 (λ e. absurd (omega arith)));
  all = let is : is_ascii_digit (48 + n) ≡ true = digit-is (48 + n) (omega arith) (omega arith) in rw is refl;
  value = omega arith;
}

more-digits : (n : ℕ) (digits : List ℕ) → 10 ≤ n → Digits (n / 10) digits → Digits n (digits ++ ((48 + n % 10) ∷ []))
more-digits n digits big front = record {
  first = front.first;
  rest = front.rest ++ ((48 + n % 10) ∷ []);
  are = ap (λ list. list ++ ((48 + n % 10) ∷ [])) front.are;
  plain = front.plain;
  all =
      let is : is_ascii_digit (48 + n % 10) ≡ true = digit-is (48 + n % 10) (omega arith) (omega arith) in
      list_all-append is_ascii_digit digits ((48 + n % 10) ∷ []) ∙ rw (front.all, is) refl;
  value =
      fold-append (λ m digit. 10 * m + (digit - 48)) 0 digits ((48 + n % 10) ∷ [])
      ∙ ap (λ m. 10 * m + (48 + n % 10 - 48)) front.value
      ∙ (let same : 10 * (n / 10) + (48 + n % 10 - 48) ≡ n = omega arith in same);
}

-- a number in digits without a sign
value-is : (most n : ℕ) (digits : List ℕ) → are_digits digits ≡ true → number_of digits ≡ n → n ≤ most → decimal_value most digits ≡ Some n
value-is most n digits are value few = rw (are, value, le-leb n most few) refl

int-is : (n : ℕ) (digits : List ℕ) → n ≤ greatest_int → Digits n digits → int_value digits ≡ Some (pos n)
int-is n digits few made =
    let all : are_digits (made.first ∷ made.rest) ≡ true = subst (λ list. list_all is_ascii_digit list ≡ true) made.are made.all in
    let value : number_of (made.first ∷ made.rest) ≡ n = subst (λ list. number_of list ≡ n) made.are made.value in
    let plain : int_value (made.first ∷ made.rest) ≡ option_map (λ m. pos m) (decimal_value greatest_int (made.first ∷ made.rest)) = rw (made.plain.0, made.plain.1) refl in
    ap int_value made.are ∙ plain ∙ ap (λ o. option_map (λ m. pos m) o) (value-is greatest_int n (made.first ∷ made.rest) all value few)

-- the digits of a number are read as it
pub int_value-decimal : (n : ℕ) → n ≤ greatest_int → int_value (decimal n) ≡ Some (pos n)
int_value-decimal n few = int-is n (decimal n) few (decimal_by_steps Digits one-digit more-digits n (omega arith))

pub number_up_to-decimal : (most n : ℕ) → n ≤ most → n ≤ greatest_int → number_up_to most (decimal n) ≡ Some n
number_up_to-decimal most n le few = rw (int_value-decimal n few, le-leb n most le) refl
