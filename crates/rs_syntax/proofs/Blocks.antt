-- What the parts of a query stand for: the tokens that open them, numbers with a sign, and places.
use Rattle.std.proofs.Common.{ℕ, ◌≡◌, ◌∙◌, ◌⊎◌, inl, inr, true, false, List, [], ◌∷◌, refl, sym, ap, arith}
use Rattle.std.specs.Prelude.{◌==◌, ℤ, pos, neg_ℤ, ◌-ℤ◌, Some, None}
use Rattle.std.proofs.lemmas.Bool.{or_parts, or_from, or_left, or_right, or_cases}
use Rattle.std.proofs.lemmas.Int.{ints}
use mir.Syntax.{w64}
use mir.Val.{to_z, of_z}
use Rattle.rs_grammar.specs.Kinds.{token_kind_number, accepts}
use Rattle.rs_grammar.specs.Grammar.{Part, Tree, Pair, This, start_of}
use Rattle.rs_grammar.specs.Reading.{State, Read, next_is, nullable}
use Rattle.rs_grammar.specs.declared.kind.TokenKind.{TokenKind}
use Rattle.rs_grammar.specs.declared.lexeme.Lexeme.{Lexeme}
use Rattle.rs_lex.specs.declared.token.Span.{Span}
use Rattle.rs_syntax.specs.Numbers.{IsNumber}
use Rattle.rs_syntax.specs.Statements.{signed_of, signed_number_of, weight_of}
use Rattle.rs_syntax.specs.declared.name.Name.{Name}
use Rattle.rs_syntax.specs.Trees.{leaf, if_there, is_there, leaf_name, leaf_number, span, span_of, weight_in}
use Rattle.rs_syntax.proofs.Spans.{read-starts, read-ends}

-- the next token is neither of this kind nor of one of those
pub next_is-neither : (k : TokenKind) (ks : List TokenKind) (ls : List Lexeme) → next_is (k ∷ []) ls ≡ false → next_is ks ls ≡ false → next_is (k ∷ ks) ls ≡ false
next_is-neither k ks [] e f = refl
next_is-neither k ks (l ∷ ls) e f = or_from (token_kind_number k == token_kind_number l.kind) (accepts ks l.kind) (or_parts (token_kind_number k == token_kind_number l.kind) false e).0 f

-- it is of this kind
pub next_is-one : (k : TokenKind) (ks : List TokenKind) (ls : List Lexeme) → next_is (k ∷ []) ls ≡ true → next_is (k ∷ ks) ls ≡ true
next_is-one k ks [] e = e
next_is-one k ks (l ∷ ls) e = go (or_cases (token_kind_number k == token_kind_number l.kind) false e)
  where
    go : ((token_kind_number k == token_kind_number l.kind) ≡ true) ⊎ (false ≡ true) → next_is (k ∷ ks) (l ∷ ls) ≡ true
    go (inl one) = or_left (token_kind_number k == token_kind_number l.kind) (accepts ks l.kind) one
    go (inr none) = cc

-- it is of one of those
pub next_is-others : (k : TokenKind) (ks : List TokenKind) (ls : List Lexeme) → next_is ks ls ≡ true → next_is (k ∷ ks) ls ≡ true
next_is-others k ks [] e = e
next_is-others k ks (l ∷ ls) e = or_right (token_kind_number k == token_kind_number l.kind) (accepts ks l.kind) e

-- a number of a script fits where it is held, and so does its negation
pub number-kept : (n : ℤ) → IsNumber n → to_z w64 (of_z w64 n) ≡ n
number-kept n h = omega (arith, ints)

pub number-negated : (n : ℤ) → IsNumber n → to_z w64 (of_z w64 (pos 0 -ℤ to_z w64 (of_z w64 n))) ≡ neg_ℤ n
number-negated n h = omega (arith, ints)

-- a number with a sign and one without
signed_of-there : (t u : Tree) → is_there t ≡ true → signed_of t u ≡ neg_ℤ (leaf u).number
signed_of-there (This s) u there = refl
signed_of-there _ u there = cc

signed_of-not_there : (t u : Tree) → is_there t ≡ false → signed_of t u ≡ (leaf u).number
signed_of-not_there (This s) u there = cc
signed_of-not_there _ u there = refl

pub signed_number-negative : (t u : Tree) (n : ℤ) (place at : Span) → is_there t ≡ true → leaf_number u ≡ (n, place) → IsNumber n → span_of (Pair t u) ≡ at
    → signed_number_of (Pair t u) ≡ (to_z w64 (of_z w64 (pos 0 -ℤ to_z w64 (of_z w64 n))), at)
signed_number-negative t u n place at there e h s =
    let number : signed_of t u ≡ to_z w64 (of_z w64 (pos 0 -ℤ to_z w64 (of_z w64 n))) = signed_of-there t u there ∙ ap (λ m. neg_ℤ m.0) e ∙ sym (number-negated n h) in
    rw (number, s) refl

pub signed_number-positive : (t u : Tree) (n : ℤ) (place at : Span) → is_there t ≡ false → leaf_number u ≡ (n, place) → IsNumber n → span_of (Pair t u) ≡ at
    → signed_number_of (Pair t u) ≡ (to_z w64 (of_z w64 n), at)
signed_number-positive t u n place at there e h s =
    let number : signed_of t u ≡ to_z w64 (of_z w64 n) = signed_of-not_there t u there ∙ ap (λ m. m.0) e ∙ sym (number-kept n h) in
    rw (number, s) refl

-- the place of what was read from a place on
pub span_of-read : {p : Part} {t : Tree} {b a : State} → Read p b t a → nullable p ≡ false → (from : ℕ) (at : Span) → from ≡ start_of b.rest → at ≡ span from a.last → span_of t ≡ at
span_of-read {p = p} {t = t} {b = b} {a = a} r some from at starts is =
    let first = read-starts r some in
    let last = read-ends r some in
    rw (first, last, is, starts) refl

-- a weight that is written, and one that isn't
pub weight_of-some : (t u : Tree) (n : ℤ × Span) → if_there weight_in t ≡ Some n → weight_of t u ≡ n
weight_of-some (This s) u n e = cc
weight_of-some _ u n e = cc

pub weight_of-none : (t u : Tree) (name : Name) → if_there weight_in t ≡ None → leaf_name u ≡ name → weight_of t u ≡ (pos 1, name.at)
weight_of-none (This s) u name e f = cc
weight_of-none _ u name e f = ap (λ m. (pos 1, m.at)) f
