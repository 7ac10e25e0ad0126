-- Lines worked by hand.
use Rattle.std.proofs.Common.{◌≡◌, pos, negsuc, [], ◌∷◌, ◌++◌, refl}
use Rattle.std.specs.Fmt.{digits}
use Rattle.std.specs.Prelude.{codes}
use Rattle.csv.specs.Writing.{escaped, fields_text, is_blank}
use Rattle.rs_value.specs.declared.value.Value.TheVariants.{Int, Text}
use Rattle.rs_lines.specs.Row.{line_of}

-- fields with nothing special stand as they are, and a line feed ends the line
plain : line_of 1 90 (Text (codes "b") ∷ Int (pos 90) ∷ Int (pos 1) ∷ []) ≡ codes "1,90,b,90,1" ++ 10 ∷ []
unfolding digits escaped fields_text is_blank
plain = refl

-- a row without values
no_value : line_of 12 0 [] ≡ codes "12,0" ++ 10 ∷ []
unfolding digits escaped fields_text is_blank
no_value = refl

-- an empty text is an empty field without quotes
empty_text : line_of 3 7 (Text [] ∷ []) ≡ codes "3,7," ++ 10 ∷ []
unfolding digits escaped fields_text is_blank
empty_text = refl

-- a field with a comma stands between quotes
comma : line_of 1 2 (Text (codes "a,b") ∷ Text (codes "c") ∷ []) ≡ codes "1,2,\"a,b\",c" ++ 10 ∷ []
unfolding digits escaped fields_text is_blank
comma = refl

-- a quote in a field is doubled, and the field stands between quotes
quote : line_of 1 2 (Text (codes "say \"hi\"") ∷ []) ≡ codes "1,2,\"say \"\"hi\"\"\"" ++ 10 ∷ []
unfolding digits escaped fields_text is_blank
quote = refl

-- so does a field with a line feed
line_feed : line_of 1 2 (Text (97 ∷ 10 ∷ 98 ∷ []) ∷ []) ≡ codes "1,2,\"a" ++ 10 ∷ 98 ∷ 34 ∷ 10 ∷ []
unfolding digits escaped fields_text is_blank
line_feed = refl

-- and one with a carriage return
carriage_return : line_of 1 2 (Text (97 ∷ 13 ∷ []) ∷ []) ≡ codes "1,2,\"a" ++ 13 ∷ 34 ∷ 10 ∷ []
unfolding digits escaped fields_text is_blank
carriage_return = refl

-- spaces and bytes above 127 need no quotes
spaces : line_of 1 2 (Text (32 ∷ 195 ∷ 169 ∷ 32 ∷ []) ∷ []) ≡ codes "1,2, " ++ 195 ∷ 169 ∷ 32 ∷ 10 ∷ []
unfolding digits escaped fields_text is_blank
spaces = refl

-- a negative number has its sign
negative : line_of 2 18446744073709551615 (Int (negsuc 6) ∷ Int (negsuc 3999999999999999999) ∷ Int (pos 0) ∷ []) ≡ codes "2,18446744073709551615,-7,-4000000000000000000,0" ++ 10 ∷ []
unfolding digits escaped fields_text is_blank
negative = refl

-- the greatest rank that a u128 holds
greatest_rank : line_of 340282366920938463463374607431768211455 0 [] ≡ codes "340282366920938463463374607431768211455,0" ++ 10 ∷ []
unfolding digits escaped fields_text is_blank
greatest_rank = refl
