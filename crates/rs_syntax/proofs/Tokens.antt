-- The next token is the last one of those that are left in reverse.
use Rattle.std.proofs.Common.{ℕ, ◌≡◌, ◌∙◌, ◌+◌, ◌-◌, ◌<◌, List, [], ◌∷◌, ◌++◌, length, take, get_or, Some, Bool, true, false, refl, sym, ap, arith}
use Rattle.std.specs.Prelude.{reverse, slice_get}
use Rattle.std.proofs.lemmas.List.{reverse-append, take_more}
use Rattle.std.proofs.Math.Seq.{take-length}
use Rattle.std.proofs.lemmas.Option.{get_or_from_slice_get, slice_get_within}
use Rattle.rs_grammar.specs.Grammar.{One, Leaf}
use Rattle.rs_grammar.specs.Reading as reading
use Rattle.rs_grammar.specs.Reading.{State, Read, Fails, next_is, is_too_deep, left_behind}
use Rattle.rs_grammar.specs.declared.kind.TokenKind.{TokenKind}
use Rattle.rs_grammar.specs.declared.lexeme.Lexeme.{Lexeme}
use Rattle.rs_syntax.specs.Numbers.{IsNumber, AreNumbers}
use Rattle.rs_syntax.specs.Reads.{Found, Halts}
use Rattle.rs_syntax.specs.declared.parser.ParserFault.TheVariants.{Expected, TooDeep}
use Rattle.rs_syntax.specs.Trees.{leaf}

-- what is left in reverse has this token at its front
LastOf-push : (xs front : List Lexeme) (l : Lexeme) → xs ≡ front ++ l ∷ [] → reverse xs ≡ l ∷ reverse front
LastOf-push xs front l e = ap reverse e ∙ reverse-append front (l ∷ [])

LastOf-get : (xs : List Lexeme) (l : Lexeme) → Some l ≡ slice_get xs (length xs - 1) → reverse xs ≡ l ∷ reverse (take (length xs - 1) xs)
LastOf-get xs l e =
    let within : length xs - 1 < length xs = slice_get_within xs (length xs - 1) l (sym e) in
    let item : get_or xs (length xs - 1) l ≡ l = get_or_from_slice_get xs (length xs - 1) l l (sym e) in
    let all : length xs - 1 + 1 ≡ length xs = omega arith in
    let front : take (length xs - 1 + 1) xs ≡ take (length xs - 1) xs ++ get_or xs (length xs - 1) l ∷ [] = take_more xs (length xs - 1) l within in
    LastOf-push xs (take (length xs - 1) xs) l (sym (ap (λ n. take n xs) all ∙ take-length xs) ∙ front ∙ ap (λ x. take (length xs - 1) xs ++ x ∷ []) item)

-- no token may stand there
pub Fails-other : (kinds : List TokenKind) (b : State) (accepted : Bool) → accepted ≡ next_is kinds b.rest → accepted ≡ false → Halts (One kinds) b Expected b
Fails-other kinds b accepted e refused = record { fails = reading.Fails.other kinds b (sym e ∙ refused) }

-- the token is one too many
Fails-deep : (kinds : List TokenKind) (b : State) (l : Lexeme) (ls : List Lexeme) → b.rest ≡ l ∷ ls → true ≡ next_is kinds b.rest → is_too_deep l.kind b.left ≡ true → Halts (One kinds) b TooDeep b
Fails-deep kinds b l ls e accepted deep = record { fails = reading.Fails.deep kinds l ls b e (sym (accepted ∙ ap (next_is kinds) e)) deep }

-- the last of a list is its last item
last_one : (xs front : List Lexeme) (next l : Lexeme) → Some next ≡ slice_get xs (length xs - 1) → xs ≡ front ++ l ∷ [] → next ≡ l
last_one xs front next l got pushed =
    let a : reverse xs ≡ next ∷ reverse (take (length xs - 1) xs) = LastOf-get xs next got in
    let b : reverse xs ≡ l ∷ reverse front = LastOf-push xs front l pushed in
    cc

-- the token is taken
Found-token : (kinds : List TokenKind) (b a : State) (l : Lexeme) → b.rest ≡ l ∷ a.rest → true ≡ next_is kinds b.rest → is_too_deep l.kind b.left ≡ false
    → a.left ≡ left_behind l.kind b.left → a.last ≡ l.at.end → Found (One kinds) leaf b a l
Found-token kinds b a l e accepted shallow left last = record {
  tree = Leaf l;
  read = reading.Read.token kinds l b a (record { rest = e; left = left; last = last }) (sym (accepted ∙ ap (next_is kinds) e)) shallow;
  means = refl;
}

-- the token that stands last in reverse is one too many
pub Fails-deep_last : (kinds : List TokenKind) (b : State) (xs : List Lexeme) (left : ℕ) (l : Lexeme) → Some l ≡ slice_get xs (length xs - 1) → reverse xs ≡ b.rest → left ≡ b.left
    → true ≡ next_is kinds b.rest → is_too_deep l.kind left ≡ true → Halts (One kinds) b TooDeep b
Fails-deep_last kinds b xs left l got is same accepted deep =
    Fails-deep kinds b l (reverse (take (length xs - 1) xs)) (sym is ∙ LastOf-get xs l got) accepted (rw (← same) deep)

-- the token that stands last in reverse is taken
pub Found-last : (kinds : List TokenKind) (b : State) (xs front : List Lexeme) (left now : ℕ) (next l : Lexeme) → Some next ≡ slice_get xs (length xs - 1) → xs ≡ front ++ l ∷ []
    → reverse xs ≡ b.rest → left ≡ b.left → true ≡ next_is kinds b.rest → is_too_deep next.kind left ≡ false → now ≡ left_behind next.kind left
    → Found (One kinds) leaf b (record { rest = reverse front; left = now; last = l.at.end }) l
Found-last kinds b xs front left now next l got pushed is same accepted shallow spent =
    let one : next ≡ l = last_one xs front next l got pushed in
    let deep : is_too_deep l.kind b.left ≡ false = rw (← one, ← same) shallow in
    let behind : now ≡ left_behind l.kind b.left = rw (← one, ← same) spent in
    Found-token kinds b (record { rest = reverse front; left = now; last = l.at.end }) l (sym is ∙ LastOf-push xs front l pushed) accepted deep behind refl

-- numbers in front of a token, and that of the token
AreNumbers-split : (front : List Lexeme) (l : Lexeme) → AreNumbers (front ++ l ∷ []) → AreNumbers front × IsNumber l.number
AreNumbers-split [] l h = (tt, h.0)
AreNumbers-split (k ∷ front) l h = let rest = AreNumbers-split front l h.1 in ((h.0, rest.0), rest.1)

pub AreNumbers-last : (xs front : List Lexeme) (l : Lexeme) → xs ≡ front ++ l ∷ [] → AreNumbers xs → AreNumbers front × IsNumber l.number
AreNumbers-last xs front l e h = AreNumbers-split front l (rw e at h)
