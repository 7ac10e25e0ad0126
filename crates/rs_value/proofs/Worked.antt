-- The definitions, computed on literals.
use Rattle.std.proofs.Common.{◌≡◌, ◌++◌, [], ◌∷◌, Some, None, Ok, Err, replicate, refl}
use Rattle.std.specs.Prelude.{pos, negsuc, codes}
use Rattle.std.specs.declared.cmp.Ordering.TheVariants.{Less, Equal, Greater}
use Rattle.rs_value.specs.Number.{int_value, decimal_value}
use Rattle.rs_value.specs.Text.{text_of}
use Rattle.rs_value.specs.Value.{kind_of, printed, value_cmp}
use Rattle.rs_value.proofs.OnLiterals.{values_on_literals}
use Rattle.rs_value.specs.declared.kind.Kind.TheVariants as kind
use Rattle.rs_value.specs.declared.text.TextFault.TheVariants.{NotUtf8}
use Rattle.rs_value.specs.declared.value.Value.TheVariants.{Int, Text}

-- numbers of cells: digits with an optional sign, and leading zeros
zero_digit : int_value (codes "0") ≡ Some (pos 0)
zero_digit = refl

minus_zero : int_value (codes "-0") ≡ Some (pos 0)
minus_zero = refl

plus_seven : int_value (codes "+7") ≡ Some (pos 7)
plus_seven = refl

minus_seven : int_value (codes "-7") ≡ Some (negsuc 6)
minus_seven = refl

leading_zeros : int_value (codes "007") ≡ Some (pos 7)
leading_zeros = refl

thirty_zeros : int_value (replicate 30 48 ++ codes "5") ≡ Some (pos 5)
thirty_zeros = refl

-- the ends of the range, and what lies just outside
least : int_value (codes "-4000000000000000000") ≡ Some (negsuc 3999999999999999999)
least = refl

greatest : int_value (codes "4000000000000000000") ≡ Some (pos 4000000000000000000)
greatest = refl

above_the_greatest : int_value (codes "4000000000000000001") ≡ None
above_the_greatest = refl

below_the_least : int_value (codes "-4000000000000000001") ≡ None
below_the_least = refl

-- what is no number
empty : int_value (codes "") ≡ None
empty = refl

minus_alone : int_value (codes "-") ≡ None
minus_alone = refl

plus_alone : int_value (codes "+") ≡ None
plus_alone = refl

blank_before : int_value (codes " 1") ≡ None
blank_before = refl

blank_behind : int_value (codes "1 ") ≡ None
blank_behind = refl

letter_behind : int_value (codes "1x") ≡ None
letter_behind = refl

two_signs : int_value (codes "--1") ≡ None
two_signs = refl

both_signs : int_value (codes "+-1") ≡ None
both_signs = refl

-- the bytes just below `0` and just above `9`
slash : int_value (codes "/") ≡ None
slash = refl

colon : int_value (codes ":") ≡ None
colon = refl

-- digits up to a limit of the caller
digits_at_the_limit : decimal_value 64 (codes "64") ≡ Some 64
digits_at_the_limit = refl

digits_above_the_limit : decimal_value 64 (codes "65") ≡ None
digits_above_the_limit = refl

digits_with_a_sign : decimal_value 64 (codes "+1") ≡ None
digits_with_a_sign = refl

no_digits : decimal_value 64 (codes "") ≡ None
no_digits = refl

-- texts: UTF-8 as RFC 3629 has it
ascii : text_of (codes "rank") ≡ Ok (codes "rank")
unfolding values_on_literals
ascii = refl

no_bytes : text_of (codes "") ≡ Ok []
unfolding values_on_literals
no_bytes = refl

-- `é` is C3 A9
two_bytes : text_of (0xc3 ∷ 0xa9 ∷ []) ≡ Ok (0xc3 ∷ 0xa9 ∷ [])
unfolding values_on_literals
two_bytes = refl

bad_byte : text_of (0x61 ∷ 0xff ∷ []) ≡ Err (NotUtf8 1)
unfolding values_on_literals
bad_byte = refl

cut_off : text_of (0x61 ∷ 0xe2 ∷ 0x82 ∷ []) ≡ Err (NotUtf8 1)
unfolding values_on_literals
cut_off = refl

over_long : text_of (0xc0 ∷ 0x80 ∷ []) ≡ Err (NotUtf8 0)
unfolding values_on_literals
over_long = refl

-- half of a pair of UTF-16, D800
surrogate : text_of (0xed ∷ 0xa0 ∷ 0x80 ∷ []) ≡ Err (NotUtf8 0)
unfolding values_on_literals
surrogate = refl

-- the order of two values
negative_first : value_cmp (Int (negsuc 4)) (Int (pos 3)) ≡ Less
negative_first = refl

same_number : value_cmp (Int (pos 3)) (Int (pos 3)) ≡ Equal
same_number = refl

numbers_by_size : value_cmp (Int (pos 10)) (Int (pos 9)) ≡ Greater
numbers_by_size = refl

prefix_first : value_cmp (Text (codes "a")) (Text (codes "ab")) ≡ Less
prefix_first = refl

first_byte_decides : value_cmp (Text (codes "b")) (Text (codes "ab")) ≡ Greater
first_byte_decides = refl

digits_as_text : value_cmp (Text (codes "10")) (Text (codes "9")) ≡ Less
digits_as_text = refl

same_text : value_cmp (Text (codes "ab")) (Text (codes "ab")) ≡ Equal
same_text = refl

-- what a value is printed as
printed_negative : printed (Int (negsuc 11)) ≡ codes "-12"
unfolding values_on_literals
printed_negative = refl

printed_zero : printed (Int (pos 0)) ≡ codes "0"
unfolding values_on_literals
printed_zero = refl

printed_greatest : printed (Int (pos 4000000000000000000)) ≡ codes "4000000000000000000"
unfolding values_on_literals
printed_greatest = refl

printed_text : printed (Text (codes "top 5")) ≡ codes "top 5"
unfolding values_on_literals
printed_text = refl

-- the kind of a value
kind_of_number : kind_of (Int (pos 7)) ≡ kind.Int
kind_of_number = refl

kind_of_text : kind_of (Text (codes "7")) ≡ kind.Text
kind_of_text = refl
