-- The numbers of lexemes are those that a script can write.
use Rattle.std.proofs.Common.{ℕ, zero, suc, ◌≡◌, ◌≤◌, nat_le, List, [], ◌∷◌, ◌++◌, take, Some, None, refl, sym, subst, arith, ◌&&◌, Bool, true, false}
use Rattle.std.specs.Prelude.{map, reverse, if◌then◌else◌}
use Rattle.std.specs.List.{All}
use Rattle.std.proofs.lemmas.List.{reverse-append}
use Rattle.std.proofs.Math.Seq.{take-nil}
use Rattle.std.proofs.lemmas.Bool.{leb-true}
use Rattle.std.proofs.lemmas.List.Elements.{All-head, All-tail}
use Rattle.std.proofs.lemmas.Int.{ints}
use Rattle.rs_value.specs.Number.{number_of, greatest_int, decimal_value, are_digits}
use Rattle.rs_lex.specs.declared.token.Token.{Token}
use Rattle.rs_lex.specs.declared.token.Sort.{Sort}
use Rattle.rs_lex.specs.declared.token.Sort.TheVariants.{Word, Quoted, Number, Literal, Symbol}
use Rattle.rs_grammar.specs.Lexemes.{IsFront, IsTokenOf, lexeme_of, value_of, piece}
use Rattle.rs_grammar.specs.declared.lexeme.Lexeme.{Lexeme}
use Rattle.rs_grammar.proofs.LexemeFacts.{IsTokenOf-each, IsTokenOf-number}
use Rattle.rs_syntax.specs.Numbers.{IsNumber, AreNumbers}

pub AreNumbers-append : (xs ys : List Lexeme) → AreNumbers xs → AreNumbers ys → AreNumbers (xs ++ ys)
AreNumbers-append [] ys h k = k
AreNumbers-append (x ∷ xs) ys h k = (h.0, AreNumbers-append xs ys h.1 k)

pub AreNumbers-take : (n : ℕ) (xs : List Lexeme) → AreNumbers xs → AreNumbers (take n xs)
AreNumbers-take n [] h = subst AreNumbers (sym (take-nil n)) tt
AreNumbers-take zero (x ∷ xs) h = tt
AreNumbers-take (suc n) (x ∷ xs) h = (h.0, AreNumbers-take n xs h.1)

pub AreNumbers-reverse : (xs : List Lexeme) → AreNumbers xs → AreNumbers (reverse xs)
AreNumbers-reverse [] h = tt
AreNumbers-reverse (x ∷ xs) h = rw (reverse-append (x ∷ []) xs) (AreNumbers-append (reverse xs) (x ∷ []) (AreNumbers-reverse xs h.1) (h.0, tt))

-- the value of digits is within the limit
guarded : (b c : Bool) (n m : ℕ) → (if b && c then Some n else None) ≡ Some m → c ≡ true
guarded true true n m e = refl
guarded true false n m e = cc
guarded false c n m e = cc

decimal_value-small : (most : ℕ) (digits : List ℕ) (n : ℕ) → decimal_value most digits ≡ Some n → number_of digits ≤ most
decimal_value-small most digits n e = leb-true (number_of digits) most (guarded (are_digits digits) (nat_le (number_of digits) most) (number_of digits) n e)

-- the value of a token's number is one
IsNumber-value : (script : List ℕ) (token : Token) (sort : Sort) → sort ≡ token.sort → IsTokenOf script token → IsNumber (value_of sort (piece script token.at))
IsNumber-value script token Word e h = (omega (arith, ints), omega (arith, ints))
IsNumber-value script token Quoted e h = (omega (arith, ints), omega (arith, ints))
IsNumber-value script token Number e h =
    let small : number_of (piece script token.at) ≤ greatest_int = decimal_value-small greatest_int (piece script token.at) (number_of (piece script token.at)) (IsTokenOf-number script token h (sym e)) in
    (omega (arith, ints), omega (arith, ints, small))
IsNumber-value script token Literal e h = (omega (arith, ints), omega (arith, ints))
IsNumber-value script token Symbol e h = (omega (arith, ints), omega (arith, ints))

AreNumbers-each : (script : List ℕ) (tokens : List Token) → All (IsTokenOf script) tokens → AreNumbers (map (lexeme_of script) tokens)
AreNumbers-each script [] h = tt
AreNumbers-each script (t ∷ ts) h = (IsNumber-value script t t.sort refl (All-head (IsTokenOf script) t ts h), AreNumbers-each script ts (All-tail (IsTokenOf script) t ts h))

pub AreNumbers-lexemes : (script : List ℕ) (tokens : List Token) → IsFront script tokens → AreNumbers (map (lexeme_of script) tokens)
AreNumbers-lexemes script tokens h = AreNumbers-each script tokens (IsTokenOf-each script tokens h)
