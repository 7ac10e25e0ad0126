-- The statements that `;` ends, counted token by token.
use Rattle.std.proofs.Common.{ℕ, ◌≡◌, ◌∙◌, ◌+◌, ◌<◌, ◌≤◌, ◌⊎◌, inl, inr, Bool, true, List, [], ◌∷◌, ◌++◌, length, take, get_or, sym, ap, arith, if◌then◌else◌, length-append}
use Rattle.std.proofs.Math.Seq.{take-append_seam}
use Rattle.std.proofs.lemmas.List.{take_more, take-append-le}
use Rattle.std.proofs.lemmas.Bool.{cases_lt}
use Rattle.rs_grammar.specs.Places.{statements_ended, is_semicolon, most_statements, IsWithinStatements}
use Rattle.rs_grammar.specs.declared.lexeme.Lexeme.{Lexeme}
use Rattle.rs_syntax.specs.Cut.{EndsLast}

-- one more token ends a statement more, if it is `;`
statements_ended-push : (xs : List Lexeme) (l : Lexeme) → statements_ended (xs ++ l ∷ []) ≡ statements_ended xs + (if is_semicolon l then 1 else 0)
statements_ended-push [] l = omega arith
statements_ended-push (k ∷ xs) l = omega (arith, statements_ended-push xs l)

-- the first tokens, and one more
front-more : (ls : List Lexeme) (i : ℕ) (l : Lexeme) → i < length ls → l ≡ get_or ls i l → take (i + 1) ls ≡ take i ls ++ l ∷ []
front-more ls i l within is = take_more ls i l within ∙ ap (λ x. take i ls ++ x ∷ []) (sym is)

pub statements_ended-more : (ls : List Lexeme) (i n : ℕ) (l : Lexeme) (b : Bool) → i < length ls → l ≡ get_or ls i l → b ≡ is_semicolon l → n ≡ statements_ended (take i ls)
    → n + (if b then 1 else 0) ≡ statements_ended (take (i + 1) ls)
statements_ended-more ls i n l b within is e count =
    rw (e, count) (sym (ap statements_ended (front-more ls i l within is) ∙ statements_ended-push (take i ls) l))

Within-push : (xs : List Lexeme) (l : Lexeme) → IsWithinStatements xs → statements_ended xs < most_statements → IsWithinStatements (xs ++ l ∷ [])
Within-push xs l few more i h = go (cases_lt i (length xs))
  where
    go : (i < length xs) ⊎ (length xs ≤ i) → statements_ended (take i (xs ++ l ∷ [])) < most_statements
    go (inl lt) = let e : take i (xs ++ l ∷ []) ≡ take i xs = take-append-le i xs (l ∷ []) (omega arith) in rw e (few i lt)
    go (inr le) =
        let same : i ≡ length xs = omega (arith, length-append xs (l ∷ []), h) in
        rw (same, take-append_seam xs (l ∷ [])) more

pub Within-more : (ls : List Lexeme) (i n : ℕ) (l : Lexeme) → i < length ls → l ≡ get_or ls i l → n ≡ statements_ended (take i ls) → n < most_statements → IsWithinStatements (take i ls)
    → IsWithinStatements (take (i + 1) ls)
Within-more ls i n l within is count less few =
    rw (front-more ls i l within is) (Within-push (take i ls) l few (rw (← count) less))

-- the last statement that may stand ends here
pub EndsLast-here : (ls : List Lexeme) (i n : ℕ) (l : Lexeme) → i < length ls → l ≡ get_or ls i l → true ≡ is_semicolon l → n ≡ statements_ended (take i ls) → n + 1 ≡ most_statements
    → EndsLast (take (i + 1) ls)
EndsLast-here ls i n l within is semicolon count full = record {
  front = take i ls;
  last = l;
  is = front-more ls i l within is;
  ends = sym semicolon;
  full = sym (statements_ended-more ls i n l true within is semicolon count) ∙ full;
}
