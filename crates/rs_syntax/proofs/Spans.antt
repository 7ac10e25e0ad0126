-- A tree that was read starts where the reader stood, and ends where the last token ended.
use Rattle.std.proofs.Common.{◌≡◌, ◌∙◌, false, true, ℕ, ◌-◌, ◌<◌, ◌≤◌, ◌==◌, length, refl, sym, ap, arith, if◌then◌else◌}
use Rattle.std.specs.Prelude.{Bool, List, [], ◌∷◌, ◌++◌, ◌&&◌}
use Rattle.std.proofs.lemmas.Bool.{eqb-false}
use Rattle.rs_grammar.specs.Grammar.{Rule, Part, One, Empty, Seq, Either, Many, Use, rule, Tree, yield, start_of, end_after}
use Rattle.rs_grammar.specs.Grammar.{statements, statement}
use Rattle.rs_grammar.specs.Kinds.{accepts, counted_kinds}
use Rattle.rs_grammar.specs.Reading as reading
use Rattle.rs_grammar.specs.Reading.{State, Read, nullable, left_behind, is_too_deep}
use Rattle.rs_grammar.specs.declared.kind.TokenKind.{TokenKind}
use Rattle.rs_grammar.specs.declared.kind.TokenKind.TheVariants.{Semicolon}
use Rattle.rs_grammar.specs.declared.lexeme.Lexeme.{Lexeme}
use Rattle.rs_grammar.proofs.Predict.{within, disjoint, and-left, and-right}
use Rattle.rs_grammar.proofs.Beginnings.{within-accepts, disjoint-not}
use Rattle.rs_grammar.proofs.Derivation.{Read-split, Read-last, Read-some}
use Rattle.rs_syntax.specs.Trees.{starts_at, ends_at}

-- tokens start where the first of them do
start_of-append : (xs ys : List Lexeme) → 0 < length xs → start_of (xs ++ ys) ≡ start_of xs
start_of-append [] ys some = absurd (omega arith)
start_of-append (x ∷ xs) ys some = refl

-- where tokens end doesn't depend on where those before them do
end_after-some : (first other : ℕ) (xs : List Lexeme) → 0 < length xs → end_after first xs ≡ end_after other xs
end_after-some first other [] some = absurd (omega arith)
end_after-some first other (x ∷ xs) some = refl

pub read-starts : {p : Part} {t : Tree} {b a : State} → Read p b t a → nullable p ≡ false → starts_at t ≡ start_of b.rest
unfolding starts_at
read-starts {p = p} {t = t} {b = b} {a = a} r e = sym (ap start_of (Read-split p b t a r) ∙ start_of-append (yield t) a.rest (Read-some p b t a r e))

pub read-ends : {p : Part} {t : Tree} {b a : State} → Read p b t a → nullable p ≡ false → ends_at t ≡ a.last
unfolding ends_at
read-ends {p = p} {t = t} {b = b} {a = a} r e = end_after-some 0 b.last (yield t) (Read-some p b t a r e) ∙ sym (Read-last p b t a r)

-- a token of some kinds is of none of others
pub not-others : (kinds others : List TokenKind) (kind : TokenKind) → disjoint kinds others ≡ true → accepts kinds kind ≡ true → accepts others kind ≡ false
not-others kinds others kind d accepted = go (accepts others kind) refl
  where
    go : (is : Bool) → accepts others kind ≡ is → is ≡ false
    go true e = absurd (disjoint-not kinds others kind d accepted e)
    go false e = refl

-- what is left behind such a token
left_behind-counted : (kind : TokenKind) (left : ℕ) → accepts (Semicolon ∷ []) kind ≡ false → accepts counted_kinds kind ≡ true → is_too_deep kind left ≡ false → left_behind kind left < left
left_behind-counted kind left other counts shallow =
    let some : (left == 0) ≡ false = rw counts at shallow in
    let positive = eqb-false left 0 some in
    rw (other, counts) (omega arith)

left_behind-le : (kind : TokenKind) (left : ℕ) → accepts (Semicolon ∷ []) kind ≡ false → left_behind kind left ≤ left
left_behind-le kind left other = rw other (go (accepts counted_kinds kind) refl)
  where
    go : (counts : Bool) → accepts counted_kinds kind ≡ counts → (if counts then left - 1 else left) ≤ left
    go true e = omega arith
    go false e = omega arith

-- a token that counts leaves fewer of them, unless it is `;`
pub counted-left : {kinds : List TokenKind} {t : Tree} {b a : State} → Read (One kinds) b t a → within kinds counted_kinds ≡ true → disjoint kinds (Semicolon ∷ []) ≡ true → a.left < b.left
counted-left {kinds = kinds} {t = t} {b = b} {a = a} (reading.Read.token _ l _ _ takes accepted shallow) c d =
    rw takes.left (left_behind-counted l.kind b.left (not-others kinds (Semicolon ∷ []) l.kind d accepted) (within-accepts kinds counted_kinds l.kind c accepted) shallow)

-- any other token leaves as many
pub token-left : {kinds : List TokenKind} {t : Tree} {b a : State} → Read (One kinds) b t a → disjoint kinds (Semicolon ∷ []) ≡ true → a.left ≤ b.left
token-left {kinds = kinds} {t = t} {b = b} {a = a} (reading.Read.token _ l _ _ takes accepted shallow) d =
    rw takes.left (left_behind-le l.kind b.left (not-others kinds (Semicolon ∷ []) l.kind d accepted))

-- rules without `;`
abbrev pub is_quiet_rule : Rule → Bool
is_quiet_rule statements = false
is_quiet_rule _ = true

-- parts without `;`
abbrev pub is_quiet : Part → Bool
is_quiet (One kinds) = disjoint kinds (Semicolon ∷ [])
is_quiet Empty = true
is_quiet (Seq p q) = is_quiet p && is_quiet q
is_quiet (Either p q) = is_quiet p && is_quiet q
is_quiet (Many p) = is_quiet p
is_quiet (Use r) = is_quiet_rule r

-- what such a rule's name stands for is such a part
is_quiet-rule : (r : Rule) → is_quiet_rule r ≡ true → is_quiet (rule r) ≡ true
is_quiet-rule statements e = cc
is_quiet-rule statement e = refl
is_quiet-rule _ e = refl

-- a part without `;` leaves no more
pub quiet-left : {p : Part} {t : Tree} {b a : State} → Read p b t a → is_quiet p ≡ true → a.left ≤ b.left
quiet-left {p = p} {t = t} {b = b} {a = a} r q = go p b t a r q
  where
    go : (p : Part) (b : State) (t : Tree) (a : State) → Read p b t a → is_quiet p ≡ true → a.left ≤ b.left
    go p b t a (reading.Read.token kinds l _ _ takes accepted shallow) quiet = token-left (reading.Read.token kinds l b a takes accepted shallow) quiet
    go p b t a (reading.Read.empty _) quiet = omega arith
    go p b t a (reading.Read.both q r u v _ x _ h k) quiet =
        let one : x.left ≤ b.left = go q b u x h (and-left (is_quiet q) (is_quiet r) quiet) in
        let two : a.left ≤ x.left = go r x v a k (and-right (is_quiet q) (is_quiet r) quiet) in
        omega arith
    go p b t a (reading.Read.this q r u _ _ o h) quiet = go q b u a h (and-left (is_quiet q) (is_quiet r) quiet)
    go p b t a (reading.Read.that q r u _ _ o h) quiet = go r b u a h (and-right (is_quiet q) (is_quiet r) quiet)
    go p b t a (reading.Read.stop q _ o) quiet = omega arith
    go p b t a (reading.Read.more q u v _ x _ o h k) quiet =
        let one : x.left ≤ b.left = go q b u x h quiet in
        let two : a.left ≤ x.left = go (Many q) x v a k quiet in
        omega arith
    go p b t a (reading.Read.by_rule r u _ _ h) quiet = go (rule r) b u a h (is_quiet-rule r quiet)
