-- Parts of a tree of derivation, and their places. The parts of a rule count from 0, as they stand in its text.
use Rattle.std.specs.Prelude.{ℕ, zero, suc, ℤ, pos, Bool, true, false, List, [], ◌∷◌, map, Option, Some, None}
use Rattle.rs_grammar.specs.Kinds.{accepts}
use Rattle.rs_grammar.specs.Grammar.{Tree, Leaf, Pair, This, More, Node, yield, start_of, end_after}
use Rattle.rs_grammar.specs.declared.kind.TokenKind.{TokenKind}
use Rattle.rs_grammar.specs.declared.kind.TokenKind.TheVariants.{Foreign}
use Rattle.rs_grammar.specs.declared.lexeme.Lexeme.{Lexeme}
use Rattle.rs_lex.specs.declared.token.Span.{Span}
use Rattle.rs_syntax.specs.declared.name.Name.{Name}
use Rattle.rs_syntax.specs.declared.name.ColRef.{ColRef}

-- where a tree starts and ends
unfoldable pub starts_at : Tree → ℕ
starts_at t = start_of (yield t)

unfoldable pub ends_at : Tree → ℕ
ends_at t = end_after 0 (yield t)

-- from one place to another
abbrev pub span : ℕ → ℕ → Span
span from to = record { start = from; end = to }

abbrev pub span_of : Tree → Span
span_of t = span (starts_at t) (ends_at t)

-- the token of a tree that is one token
abbrev pub leaf : Tree → Lexeme
leaf (Leaf l) = l
leaf _ = record { kind = Foreign; text = []; number = pos 0; at = record { start = 0; end = 0 } }

abbrev first_of : Tree → Tree
first_of (Pair t u) = t
first_of t = t

-- what stands in a sequence from a part on: its last part, where it ends with that one
abbrev pub last : ℕ → Tree → Tree
last zero t = t
last (suc n) (Pair t u) = last n u
last (suc n) t = t

-- a part of a sequence that isn't its last one
abbrev pub part : ℕ → Tree → Tree
part n t = first_of (last n t)

-- what a rule's name stands for
abbrev pub inside : Tree → Tree
inside (Node t) = t
inside t = t

-- a part of a rule that is a sequence
abbrev pub of_rule : ℕ → Tree → Tree
of_rule n t = part n (inside t)

abbrev pub last_of_rule : ℕ → Tree → Tree
last_of_rule n t = last n (inside t)

-- what an optional part holds, and whether it is there
abbrev pub if_there : {A : Type 0} → (Tree → A) → Tree → Option A
if_there f (This t) = Some (f t)
if_there f _ = None

abbrev pub is_there : Tree → Bool
is_there (This t) = true
is_there _ = false

-- the items of a repetition
abbrev pub items_of : Tree → List Tree
items_of (More t u) = t ∷ items_of u
items_of _ = []

-- what an item stands for, and those that follow it, each behind one token
abbrev pub listed : {A : Type 0} → (Tree → A) → Tree → List A
listed f t = f (part 0 t) ∷ map (λ u. f (last 1 u)) (items_of (last 1 t))

abbrev pub is_of_kind : TokenKind → Tree → Bool
is_of_kind kind t = accepts (kind ∷ []) (leaf t).kind

abbrev pub leaf_name : Tree → Name
leaf_name t = record { text = (leaf t).text; at = (leaf t).at }

abbrev pub leaf_span : Tree → Span
leaf_span t = (leaf t).at

abbrev pub leaf_text : Tree → List ℕ × Span
leaf_text t = ((leaf t).text, (leaf t).at)

abbrev pub leaf_number : Tree → ℤ × Span
leaf_number t = ((leaf t).number, (leaf t).at)

-- number "*"
abbrev pub weight_in : Tree → ℤ × Span
weight_in t = leaf_number (part 0 t)

abbrev pub kind_at : Tree → TokenKind
kind_at t = (leaf t).kind

-- a name and what may stand behind it: [ "." name ]
abbrev pub qualified : Name → Tree → ColRef
qualified first (This t) = record { alias = Some first; column = leaf_name (last 1 t) }
qualified first _ = record { alias = None; column = first }

-- colref: name [ "." name ]
abbrev pub colref_of : Tree → ColRef
colref_of t = qualified (leaf_name (of_rule 0 t)) (last_of_rule 1 t)
