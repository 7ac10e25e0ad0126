-- What is a token, computed on literals.
use Rattle.std.proofs.Common.{◌≡◌, ◌++◌, [], ◌∷◌, inr, length, suc, refl, ap, arith, lit<, lit≤, length-append}
use Rattle.std.specs.Prelude.{codes}
use Rattle.rs_lex.specs.Bytes.{quote}
use Rattle.rs_lex.specs.Front.{front_of}
use Rattle.rs_lex.specs.Tokens.{IsBlanks, IsComment, IsToken, EndsAt, doubled}
use Rattle.rs_lex.proofs.TakenFacts.{doubled-longer, front-ends}
use Rattle.rs_lex.specs.declared.token.Sort.TheVariants.{Word, Quoted, Number, Literal, Symbol}

word : IsToken Word (codes "_a1")
word = refl

-- a word doesn't begin with a digit
no_word : IsToken Word (codes "1a") → ⊥
no_word h = cc

number : IsToken Number (codes "007")
number = (refl, lit≤ tt)

greatest_number : IsToken Number (codes "4000000000000000000")
greatest_number = (refl, lit≤ tt)

-- no sign, and no letter
no_number : IsToken Number (codes "-7") → ⊥
no_number h = let e = h.0 in cc

no_number_with_a_letter : IsToken Number (codes "12a") → ⊥
no_number_with_a_letter h = let e = h.0 in cc

-- a text says a mark by two
text : IsToken Literal (codes "'a''b'")
text = (codes "a'b", refl)

empty_text : IsToken Literal (codes "''")
empty_text = ([], refl)

name : IsToken Quoted (codes "\"a\"\"b\"")
name = (codes "a\"b", lit< tt, refl)

-- a name isn't empty
no_name : IsToken Quoted (codes "\"\"") → ⊥
no_name (name, some, e) =
    let size : 2 ≡ suc (length (doubled quote name ++ (quote ∷ []))) = ap length e in
    omega (arith, some, size, length-append (doubled quote name) (quote ∷ []), doubled-longer quote name)

not_equal : IsToken Symbol (codes "<>")
not_equal = (10, lit< tt, refl)

-- two `-` don't end a symbol
no_minus : EndsAt Symbol 1 (codes "--") → ⊥
no_minus h = h 45 [] refl (inr refl)

-- the second `<` doesn't go on with the first one
below_twice : EndsAt Symbol 1 (codes "<<")
unfolding front_of
below_twice = front-ends (codes "<<") Symbol 1 refl

blanks : IsBlanks 3 (codes " \t\nx")
blanks = record { some = lit< tt; within = lit≤ tt; blanks = refl; whole = λ blank. cc }

-- the line feed behind a comment isn't part of it
comment : IsComment 4 (codes "--c;\nx")
comment = record { within = lit≤ tt; more = codes "c;\nx"; begun = refl; line = refl; whole = λ goes_on. cc }

-- nor is a comment cut off in its line
no_comment : IsComment 3 (codes "--c;") → ⊥
no_comment h = h.whole refl
