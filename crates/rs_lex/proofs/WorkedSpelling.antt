-- The tokens that a script spells and the faults that it is refused with, computed on literals.
use Rattle.std.proofs.Common.{[], ◌∷◌, refl, lit<}
use Rattle.std.specs.Prelude.{codes}
use Rattle.rs_lex.specs.Front.{front_of}
use Rattle.rs_lex.specs.Spelling.{Spells, nothing, RefusesBytes, too_many, bad, open_text, too_wide, token_at}
use Rattle.rs_lex.specs.Spelling as spelling
use Rattle.rs_lex.specs.declared.token.Sort.TheVariants.{Word, Quoted, Number, Symbol}
use Rattle.rs_lex.specs.declared.fault.LexFault.TheVariants.{BadByte, OpenText, NumberTooWide, TooManyTokens}

-- no token
only_a_comment : Spells 0 (codes "-- only this") []
unfolding front_of
only_a_comment = spelling.Spells.passes 0 12 (codes "-- only this") [] refl (nothing 12 [] refl)

-- tokens, a comment and a blank
mixed : Spells 0 (codes "x<>1--c\n,\"a\"\"b\"") (token_at 0 Word 1 ∷ token_at 1 Symbol 2 ∷ token_at 3 Number 1 ∷ token_at 8 Symbol 1 ∷ token_at 9 Quoted 6 ∷ [])
unfolding front_of
mixed =
    let quoted = token_at 9 Quoted 6 ∷ [] in
    let symbol = token_at 8 Symbol 1 ∷ quoted in
    spelling.Spells.takes 0 1 Word (codes "x<>1--c\n,\"a\"\"b\"") (token_at 1 Symbol 2 ∷ token_at 3 Number 1 ∷ symbol) refl
    (spelling.Spells.takes 1 2 Symbol (codes "<>1--c\n,\"a\"\"b\"") (token_at 3 Number 1 ∷ symbol) refl
    (spelling.Spells.takes 3 1 Number (codes "1--c\n,\"a\"\"b\"") symbol refl
    (spelling.Spells.passes 4 3 (codes "--c\n,\"a\"\"b\"") symbol refl
    (spelling.Spells.passes 7 1 (codes "\n,\"a\"\"b\"") symbol refl
    (spelling.Spells.takes 8 1 Symbol (codes ",\"a\"\"b\"") quoted refl
    (spelling.Spells.takes 9 6 Quoted (codes "\"a\"\"b\"") [] refl
    (nothing 15 [] refl)))))))

-- a letter behind a number, counted from the script's first byte
letter_behind_a_number : RefusesBytes 0 0 (codes " 12a") (BadByte 3)
unfolding front_of
letter_behind_a_number = spelling.RefusesBytes.passes 0 0 1 (codes " 12a") (BadByte 3) refl (bad 0 1 2 (codes "12a") (lit< tt) refl)

-- a text that is never closed, behind a word
text_never_closed : RefusesBytes 0 0 (codes "SELECT 'a") (OpenText 7)
unfolding front_of
text_never_closed =
    spelling.RefusesBytes.takes 0 0 6 Word (codes "SELECT 'a") (OpenText 7) (lit< tt) refl
    (spelling.RefusesBytes.passes 1 6 1 (codes " 'a") (OpenText 7) refl (open_text 1 7 (codes "'a") (lit< tt) refl))

-- a number that is too great, also in front of a letter
number_too_great : RefusesBytes 0 0 (codes "5000000000000000000a") (NumberTooWide 0)
unfolding front_of
number_too_great = too_wide 0 0 (codes "5000000000000000000a") (lit< tt) refl

-- one token too many, at its first byte, even where it would be refused
one_too_many : RefusesBytes 99999 7 (codes "; $") (TooManyTokens 9)
unfolding front_of
one_too_many =
    spelling.RefusesBytes.takes 99999 7 1 Symbol (codes "; $") (TooManyTokens 9) (lit< tt) refl
    (spelling.RefusesBytes.passes 100000 8 1 (codes " $") (TooManyTokens 9) refl (too_many 9 (codes "$") tt))
