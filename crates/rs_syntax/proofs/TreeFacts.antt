-- Trees whose tokens are in order, and the places of their parts.
use Rattle.std.proofs.Common.{ℕ, ◌≡◌, ◌<◌, ◌≤◌, true, false, List, [], ◌∷◌, ◌++◌, map, refl, arith}
use Rattle.rs_lex.specs.declared.token.Span.{Span}
use Rattle.rs_grammar.specs.Grammar.{Part, One, Many, ◌⨟◌, optional, Tree, Leaf, Nothing, Pair, This, That, More, Node, yield, start_of, end_after, Fits}
use Rattle.rs_grammar.specs.Reading.{nullable}
use Rattle.rs_grammar.specs.declared.kind.TokenKind.{TokenKind}
use Rattle.rs_grammar.specs.declared.lexeme.Lexeme.{Lexeme}
use Rattle.rs_grammar.proofs.Beginnings.{Fits-nullable}
use Rattle.rs_syntax.specs.Trees.{starts_at, ends_at, leaf, last, if_there, items_of, listed}
use Rattle.rs_syntax.specs.Spans.{Lies, Maybe, Each}

-- tokens are in order from one place up to another
abbrev pub Ordered : ℕ → ℕ → List Lexeme → Type 0
Ordered from to [] = from ≤ to
Ordered from to (l ∷ ls) = (from ≤ l.at.start) × (l.at.start < l.at.end) × Ordered l.at.end to ls

-- the tokens of a tree are in order from one place up to another, told part by part
abbrev pub TreeIn : Tree → ℕ → ℕ → Type 0
TreeIn (Leaf l) from to = Lies from to l.at
TreeIn Nothing from to = from ≤ to
TreeIn (Pair t u) from to = (middle : ℕ) × TreeIn t from middle × TreeIn u middle to
TreeIn (This t) from to = TreeIn t from to
TreeIn (That t) from to = TreeIn t from to
TreeIn (More t u) from to = (middle : ℕ) × TreeIn t from middle × TreeIn u middle to
TreeIn (Node t) from to = TreeIn t from to

-- tokens in order lie between the two places
Ordered-le : (ls : List Lexeme) (from to : ℕ) → Ordered from to ls → from ≤ to
Ordered-le [] from to o = o
Ordered-le (l ∷ ls) from to o = omega (arith, o.0, o.1, Ordered-le ls l.at.end to o.2)

-- tokens are in order in two parts where they are in order as a whole, and the other way round
Ordered-split : (xs ys : List Lexeme) (from to : ℕ) → Ordered from to (xs ++ ys) → (middle : ℕ) × Ordered from middle xs × Ordered middle to ys
Ordered-split [] ys from to o = (from, omega arith, o)
Ordered-split (x ∷ xs) ys from to o =
    let rest = Ordered-split xs ys x.at.end to o.2 in
    (rest.0, (o.0, o.1, rest.1), rest.2)

Ordered-from : (ls : List Lexeme) (from from2 to : ℕ) → from ≤ from2 → Ordered from2 to ls → Ordered from to ls
Ordered-from [] from from2 to le o = omega arith
Ordered-from (l ∷ ls) from from2 to le o = (omega (arith, o.0), o.1, o.2)

Ordered-join : (xs ys : List Lexeme) (from middle to : ℕ) → Ordered from middle xs → Ordered middle to ys → Ordered from to (xs ++ ys)
Ordered-join [] ys from middle to o p = Ordered-from ys from middle to o p
Ordered-join (x ∷ xs) ys from middle to o p = (o.0, o.1, Ordered-join xs ys x.at.end middle to o.2 p)

-- both ways of telling that the tokens of a tree are in order agree
TreeIn-ordered : (t : Tree) (from to : ℕ) → TreeIn t from to → Ordered from to (yield t)
TreeIn-ordered (Leaf l) from to o = o
TreeIn-ordered Nothing from to o = o
TreeIn-ordered (Pair t u) from to o = Ordered-join (yield t) (yield u) from o.0 to (TreeIn-ordered t from o.0 o.1) (TreeIn-ordered u o.0 to o.2)
TreeIn-ordered (This t) from to o = TreeIn-ordered t from to o
TreeIn-ordered (That t) from to o = TreeIn-ordered t from to o
TreeIn-ordered (More t u) from to o = Ordered-join (yield t) (yield u) from o.0 to (TreeIn-ordered t from o.0 o.1) (TreeIn-ordered u o.0 to o.2)
TreeIn-ordered (Node t) from to o = TreeIn-ordered t from to o

pub Ordered-tree : (t : Tree) (from to : ℕ) → Ordered from to (yield t) → TreeIn t from to
Ordered-tree (Leaf l) from to o = o
Ordered-tree Nothing from to o = o
Ordered-tree (Pair t u) from to o = let both = Ordered-split (yield t) (yield u) from to o in (both.0, Ordered-tree t from both.0 both.1, Ordered-tree u both.0 to both.2)
Ordered-tree (This t) from to o = Ordered-tree t from to o
Ordered-tree (That t) from to o = Ordered-tree t from to o
Ordered-tree (More t u) from to o = let both = Ordered-split (yield t) (yield u) from to o in (both.0, Ordered-tree t from both.0 both.1, Ordered-tree u both.0 to both.2)
Ordered-tree (Node t) from to o = Ordered-tree t from to o

-- a tree lies between its two places
pub TreeIn-le : (t : Tree) (from to : ℕ) → TreeIn t from to → from ≤ to
TreeIn-le t from to o = Ordered-le (yield t) from to (TreeIn-ordered t from to o)

-- what lies between two places lies between wider ones
pub TreeIn-wider : (t : Tree) (from from2 to to2 : ℕ) → from ≤ from2 → to2 ≤ to → TreeIn t from2 to2 → TreeIn t from to
TreeIn-wider (Leaf l) from from2 to to2 le ge o = (omega (arith, o.0), o.1, omega (arith, o.2))
TreeIn-wider Nothing from from2 to to2 le ge o = omega arith
TreeIn-wider (Pair t u) from from2 to to2 le ge o = (o.0, TreeIn-wider t from from2 o.0 o.0 le (omega arith) o.1, TreeIn-wider u o.0 o.0 to to2 (omega arith) ge o.2)
TreeIn-wider (This t) from from2 to to2 le ge o = TreeIn-wider t from from2 to to2 le ge o
TreeIn-wider (That t) from from2 to to2 le ge o = TreeIn-wider t from from2 to to2 le ge o
TreeIn-wider (More t u) from from2 to to2 le ge o = (o.0, TreeIn-wider t from from2 o.0 o.0 le (omega arith) o.1, TreeIn-wider u o.0 o.0 to to2 (omega arith) ge o.2)
TreeIn-wider (Node t) from from2 to to2 le ge o = TreeIn-wider t from from2 to to2 le ge o

-- a tree that has a token, its tokens in order from one place up to another, starts and ends between these places
pub record Spanned (t : Tree) (from to : ℕ) : Type 0 where
  pub starts : from ≤ starts_at t
  pub some : starts_at t < ends_at t
  pub ends : ends_at t ≤ to
  pub exact : TreeIn t (starts_at t) (ends_at t)

-- tokens behind a place end behind it
Ordered-end : (ls : List Lexeme) (from to : ℕ) → Ordered from to ls → (from ≤ end_after from ls) × (end_after from ls ≤ to) × Ordered from (end_after from ls) ls
Ordered-end [] from to o = (omega arith, o, omega arith)
Ordered-end (l ∷ ls) from to o =
    let rest = Ordered-end ls l.at.end to o.2 in
    (omega (arith, o.0, o.1, rest.0), rest.1, (o.0, o.1, rest.2))

pub TreeIn-spanned : (p : Part) (t : Tree) (from to : ℕ) → nullable p ≡ false → Fits p t → TreeIn t from to → Spanned t from to
unfolding starts_at ends_at
TreeIn-spanned p t from to not_empty h o = go (yield t) refl (TreeIn-ordered t from to o)
  where
    go : (ls : List Lexeme) → yield t ≡ ls → Ordered from to ls → Spanned t from to
    go [] is ordered = let yes : nullable p ≡ true = Fits-nullable p t h is in cc
    go (l ∷ ls) is ordered =
        let rest = Ordered-end ls l.at.end to ordered.2 in
        let here : Ordered l.at.start (end_after 0 (l ∷ ls)) (l ∷ ls) = (omega arith, ordered.1, rest.2) in
        record {
          starts = rw is ordered.0;
          some = rw is (omega (arith, ordered.1, rest.0));
          ends = rw is rest.1;
          exact = Ordered-tree t (start_of (yield t)) (end_after 0 (yield t)) (rw is here);
        }

-- a tree lies between any two places that its first and its last token lie between
pub Spanned-in : (t : Tree) (from to low high : ℕ) → Spanned t from to → low ≤ starts_at t → ends_at t ≤ high → TreeIn t low high
Spanned-in t from to low high s le ge = TreeIn-wider t low (starts_at t) high (ends_at t) le ge s.exact

pub Lies-wider : (from from2 to to2 : ℕ) (at : Span) → from ≤ from2 → to2 ≤ to → Lies from2 to2 at → Lies from to at
Lies-wider from from2 to to2 at le ge i = (omega (arith, i.0), i.1, omega (arith, i.2))

-- a name, and another token
pub leaf-in : (kinds : List TokenKind) (t : Tree) (from to : ℕ) → Fits (One kinds) t → TreeIn t from to → Lies from to (leaf t).at
leaf-in kinds (Leaf l) from to h o = o
leaf-in kinds _ from to h o = absurd h

-- what is left of a sequence behind its first part, and the first part of one, between the places of the whole
pub TreeIn-skip : (t u : Tree) (from to : ℕ) → TreeIn (Pair t u) from to → TreeIn u from to
TreeIn-skip t u from to o = TreeIn-wider u from o.0 to to (TreeIn-le t from o.0 o.1) (omega arith) o.2

pub TreeIn-front : (t u : Tree) (from to : ℕ) → TreeIn (Pair t u) from to → TreeIn t from to
TreeIn-front t u from to o = TreeIn-wider t from from to o.0 (omega arith) (TreeIn-le u o.0 to o.2) o.1

-- what may be left out
pub maybe-in : {A : Type 0} (p : Part) (f : Tree → A) (Stands : A → ℕ → ℕ → Type 0) → ((u : Tree) (from to : ℕ) → Fits p u → TreeIn u from to → Stands (f u) from to)
    → (t : Tree) (from to : ℕ) → Fits (optional p) t → TreeIn t from to → Maybe Stands (if_there f t) from to
maybe-in p f Stands each (This t) from to h o = each t from to h o
maybe-in p f Stands each (That t) from to h o = TreeIn-le t from to o
maybe-in p f Stands each _ from to h o = absurd h

-- the items of a repetition, and those of a list
items-in : {A : Type 0} (p mark : Part) (f : Tree → A) (Stands : A → ℕ → ℕ → Type 0) → ((u : Tree) (from to : ℕ) → Fits p u → TreeIn u from to → Stands (f u) from to)
    → (t : Tree) (from to : ℕ) → Fits (Many (mark ⨟ p)) t → TreeIn t from to → Each Stands (map (λ u. f (last 1 u)) (items_of t)) from to
items-in p mark f Stands each (More (Pair sign u) rest) from to h o =
    (o.0, each u from o.0 h.0.1 (TreeIn-skip sign u from o.0 o.1), items-in p mark f Stands each rest o.0 to h.1 o.2)
items-in p mark f Stands each (More t rest) from to h o = absurd h.0
items-in p mark f Stands each Nothing from to h o = o
items-in p mark f Stands each _ from to h o = absurd h

pub listed-in : {A : Type 0} (p mark : Part) (f : Tree → A) (Stands : A → ℕ → ℕ → Type 0) → ((u : Tree) (from to : ℕ) → Fits p u → TreeIn u from to → Stands (f u) from to)
    → (t : Tree) (from to : ℕ) → Fits (p ⨟ Many (mark ⨟ p)) t → TreeIn t from to → Each Stands (listed f t) from to
listed-in p mark f Stands each (Pair first rest) from to h o = (o.0, each first from o.0 h.0 o.1, items-in p mark f Stands each rest o.0 to h.1 o.2)
listed-in p mark f Stands each _ from to h o = absurd h

-- the second one of two tokens
pub second-in : (first : Part) (kinds : List TokenKind) (t : Tree) (from to : ℕ) → Fits (first ⨟ One kinds) t → TreeIn t from to → Lies from to (leaf (last 1 t)).at
second-in first kinds (Pair w l) from to h o = leaf-in kinds l from to h.1 (TreeIn-skip w l from to o)
second-in first kinds _ from to h o = absurd h
