-- What stands at the front, computed on literals.
use Rattle.std.proofs.Common.{◌≡◌, [], ◌∷◌, refl}
use Rattle.std.specs.Prelude.{codes}
use Rattle.rs_lex.specs.Front.{front_of}
use Rattle.rs_lex.specs.declared.token.Sort.TheVariants.{Word, Quoted, Number, Literal, Symbol}
use Rattle.rs_lex.specs.declared.front.Front.TheVariants.{End, Gap, Found, Bad, Open, Wide}

-- nothing
empty : front_of (codes "") ≡ End
unfolding front_of
empty = refl

-- what stands between tokens
two_blanks : front_of (codes "  a") ≡ Gap 2
unfolding front_of
two_blanks = refl

tab_and_line_ends : front_of (codes "\t\r\n\n") ≡ Gap 4
unfolding front_of
tab_and_line_ends = refl

-- a comment goes up to the line feed
comment_at_the_end : front_of (codes "--") ≡ Gap 2
unfolding front_of
comment_at_the_end = refl

comment_in_front_of_a_line : front_of (codes "-- x\ny") ≡ Gap 4
unfolding front_of
comment_in_front_of_a_line = refl

comment_with_a_carriage_return : front_of (codes "--a\rb\nc") ≡ Gap 5
unfolding front_of
comment_with_a_carriage_return = refl

comment_with_a_mark : front_of (codes "--'\n'") ≡ Gap 3
unfolding front_of
comment_with_a_mark = refl

one_minus : front_of (codes "-1") ≡ Found Symbol 1
unfolding front_of
one_minus = refl

minus_and_blank : front_of (codes "- -") ≡ Found Symbol 1
unfolding front_of
minus_and_blank = refl

-- words
word_up_to_a_minus : front_of (codes "_a1-") ≡ Found Word 3
unfolding front_of
word_up_to_a_minus = refl

word_up_to_the_end : front_of (codes "zZ9_") ≡ Found Word 4
unfolding front_of
word_up_to_the_end = refl

word_up_to_a_mark : front_of (codes "a'b'") ≡ Found Word 1
unfolding front_of
word_up_to_a_mark = refl

-- numbers
number : front_of (codes "12") ≡ Found Number 2
unfolding front_of
number = refl

number_up_to_a_point : front_of (codes "12.5") ≡ Found Number 2
unfolding front_of
number_up_to_a_point = refl

letter_behind_a_number : front_of (codes "12a") ≡ Bad 2
unfolding front_of
letter_behind_a_number = refl

low_line_behind_a_number : front_of (codes "1_000") ≡ Bad 1
unfolding front_of
low_line_behind_a_number = refl

greatest_number : front_of (codes "4000000000000000000") ≡ Found Number 19
unfolding front_of
greatest_number = refl

one_above_the_greatest : front_of (codes "4000000000000000001") ≡ Wide
unfolding front_of
one_above_the_greatest = refl

too_great_with_a_letter : front_of (codes "5000000000000000000a") ≡ Wide
unfolding front_of
too_great_with_a_letter = refl

leading_zeros : front_of (codes "00000000000000000000007") ≡ Found Number 23
unfolding front_of
leading_zeros = refl

-- texts
text : front_of (codes "'ab' ") ≡ Found Literal 4
unfolding front_of
text = refl

empty_text : front_of (codes "''") ≡ Found Literal 2
unfolding front_of
empty_text = refl

text_of_a_mark : front_of (codes "''''") ≡ Found Literal 4
unfolding front_of
text_of_a_mark = refl

three_marks : front_of (codes "'''") ≡ Open
unfolding front_of
three_marks = refl

doubled_mark_never_closed : front_of (codes "'a''b") ≡ Open
unfolding front_of
doubled_mark_never_closed = refl

mark_alone : front_of (codes "'") ≡ Open
unfolding front_of
mark_alone = refl

other_mark_in_a_text : front_of (codes "'\"'") ≡ Found Literal 3
unfolding front_of
other_mark_in_a_text = refl

line_end_in_a_text : front_of (codes "'a\nb'") ≡ Found Literal 5
unfolding front_of
line_end_in_a_text = refl

-- names between marks
quoted_name : front_of (codes "\"a\"") ≡ Found Quoted 3
unfolding front_of
quoted_name = refl

quoted_name_with_a_mark : front_of (codes "\"a\"\"b\" x") ≡ Found Quoted 6
unfolding front_of
quoted_name_with_a_mark = refl

quoted_mark : front_of (codes "\"\"\"\"") ≡ Found Quoted 4
unfolding front_of
quoted_mark = refl

empty_quoted_name : front_of (codes "\"\"") ≡ Bad 0
unfolding front_of
empty_quoted_name = refl

three_quotes : front_of (codes "\"\"\"") ≡ Open
unfolding front_of
three_quotes = refl

-- symbols, the longer one first
not_equal : front_of (codes "<>") ≡ Found Symbol 2
unfolding front_of
not_equal = refl

at_most : front_of (codes "<=") ≡ Found Symbol 2
unfolding front_of
at_most = refl

at_least : front_of (codes ">=") ≡ Found Symbol 2
unfolding front_of
at_least = refl

below : front_of (codes "<") ≡ Found Symbol 1
unfolding front_of
below = refl

above_and_below : front_of (codes "><") ≡ Found Symbol 1
unfolding front_of
above_and_below = refl

equal_twice : front_of (codes "==") ≡ Found Symbol 1
unfolding front_of
equal_twice = refl

unequal : front_of (codes "!=") ≡ Found Symbol 2
unfolding front_of
unequal = refl

exclamation_mark_alone : front_of (codes "!") ≡ Bad 0
unfolding front_of
exclamation_mark_alone = refl

bracket : front_of (codes "(1)") ≡ Found Symbol 1
unfolding front_of
bracket = refl

-- what begins no token
byte_above_ascii : front_of (200 ∷ []) ≡ Bad 0
unfolding front_of
byte_above_ascii = refl

zero_byte : front_of (0 ∷ []) ≡ Bad 0
unfolding front_of
zero_byte = refl

square_bracket : front_of (codes "[a]") ≡ Bad 0
unfolding front_of
square_bracket = refl
