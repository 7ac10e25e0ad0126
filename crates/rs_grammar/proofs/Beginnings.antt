-- Which tokens the trees and the beginnings of a part begin with, and what one step of a reader leaves of them.
use Rattle.std.specs.Prelude.{◌≡◌, ◌==◌, ◌&&◌, ◌||◌, Bool, true, false, not, ◌⊎◌, List, [], ◌∷◌, ◌++◌, if◌then◌else◌}
use Rattle.std.proofs.Common.{inl, inr, refl, sym, append_assoc, eq-eqb}
use Rattle.std.proofs.lemmas.Bool.{eqb-true}
use Rattle.rs_grammar.specs.Kinds.{token_kind_number, accepts}
use Rattle.rs_grammar.specs.Grammar.{Rule, Part, One, Empty, Seq, Either, Many, Use, rule, Tree, Leaf, Nothing, Pair, This, That, More, Node, yield, Fits, Viable}
use Rattle.rs_grammar.specs.Grammar as grammar
use Rattle.rs_grammar.specs.Reading.{starts_of, follow, nullable, starts, next_is}
use Rattle.rs_grammar.specs.declared.kind.TokenKind.{TokenKind}
use Rattle.rs_grammar.specs.declared.lexeme.Lexeme.{Lexeme}
use Rattle.rs_grammar.proofs.Predict.{and-left, and-right, disjoint, within, Clear, Clear-rule, starts-rule, nullable-rule}

-- both of two tests pass
and-both : (a b : Bool) → a ≡ true → b ≡ true → (a && b) ≡ true
and-both a b e f = rw (e, f) refl

or-left : (a b : Bool) → a ≡ true → (a || b) ≡ true
or-left a b e = rw e refl

or-right : (a b : Bool) → b ≡ true → (a || b) ≡ true
or-right true b e = refl
or-right false b e = e

-- one of two tests passes
or-cases : (a b : Bool) → (a || b) ≡ true → (a ≡ true) ⊎ (b ≡ true)
or-cases true b e = inl refl
or-cases false b e = inr e

-- a list in two parts that is empty, or has a first token
append-none : (xs ys : List Lexeme) → xs ++ ys ≡ [] → (xs ≡ []) × (ys ≡ [])
append-none [] ys e = (refl, e)
append-none (x ∷ xs) ys e = cc

append-some : (xs ys : List Lexeme) (l : Lexeme) (ls : List Lexeme) → xs ++ ys ≡ l ∷ ls
    → ((xs ≡ []) × (ys ≡ l ∷ ls)) ⊎ ((us : List Lexeme) × (xs ≡ l ∷ us))
append-some [] ys l ls e = inl (refl, e)
append-some (x ∷ xs) ys l ls e = inr (xs, cc)

-- the kinds of two lists
pub accepts-append : (xs ys : List TokenKind) (k : TokenKind) → accepts (xs ++ ys) k ≡ (accepts xs k || accepts ys k)
accepts-append [] ys k = refl
accepts-append (x ∷ xs) ys k = go (token_kind_number x == token_kind_number k) (accepts-append xs ys k)
  where
    go : (b : Bool) → accepts (xs ++ ys) k ≡ (accepts xs k || accepts ys k) → (b || accepts (xs ++ ys) k) ≡ ((b || accepts xs k) || accepts ys k)
    go true e = refl
    go false e = e

pub accepts-left : (xs ys : List TokenKind) (k : TokenKind) → accepts xs k ≡ true → accepts (xs ++ ys) k ≡ true
accepts-left xs ys k e = rw accepts-append (or-left (accepts xs k) (accepts ys k) e)

pub accepts-right : (xs ys : List TokenKind) (k : TokenKind) → accepts ys k ≡ true → accepts (xs ++ ys) k ≡ true
accepts-right xs ys k e = rw accepts-append (or-right (accepts xs k) (accepts ys k) e)

pub accepts-cases : (xs ys : List TokenKind) (k : TokenKind) → accepts (xs ++ ys) k ≡ true → (accepts xs k ≡ true) ⊎ (accepts ys k ≡ true)
accepts-cases xs ys k e = or-cases (accepts xs k) (accepts ys k) (rw accepts-append at e)

-- kinds of one number are in the same lists
accepts-code : (xs : List TokenKind) (j k : TokenKind) → token_kind_number j ≡ token_kind_number k → accepts xs j ≡ accepts xs k
accepts-code [] j k e = refl
accepts-code (x ∷ xs) j k e = rw (e, accepts-code xs j k e) refl

-- a kind isn't in two lists that have none in common
pub disjoint-not : (xs ys : List TokenKind) (k : TokenKind) → disjoint xs ys ≡ true → accepts xs k ≡ true → accepts ys k ≡ true → ⊥
disjoint-not [] ys k apart x y = cc
disjoint-not (first ∷ others) ys k apart x y =
    elim (or-cases (token_kind_number first == token_kind_number k) (accepts others k) x) [
      | inl here ↦
          let same : accepts ys first ≡ accepts ys k = accepts-code ys first k (eqb-true (token_kind_number first) (token_kind_number k) here) in
          let out : not (accepts ys first) ≡ true = and-left (not (accepts ys first)) (disjoint others ys) apart in
          let other : not true ≡ true = rw (same, y) at out in
          cc
      | inr there ↦ disjoint-not others ys k (and-right (not (accepts ys first)) (disjoint others ys) apart) there y
    ]

-- a kind of the first list is in the second one
pub within-accepts : (xs ys : List TokenKind) (k : TokenKind) → within xs ys ≡ true → accepts xs k ≡ true → accepts ys k ≡ true
within-accepts [] ys k inside x = cc
within-accepts (first ∷ others) ys k inside x =
    elim (or-cases (token_kind_number first == token_kind_number k) (accepts others k) x) [
      | inl here ↦
          let same : accepts ys first ≡ accepts ys k = accepts-code ys first k (eqb-true (token_kind_number first) (token_kind_number k) here) in
          let found : accepts ys first ≡ true = and-left (accepts ys first) (within others ys) inside in
          cc
      | inr there ↦ within-accepts others ys k (and-right (accepts ys first) (within others ys) inside) there
    ]

-- lists of kinds are compared kind by kind
within-each : (xs ys : List TokenKind) → ((k : TokenKind) → accepts xs k ≡ true → accepts ys k ≡ true) → within xs ys ≡ true
within-each [] ys each = refl
within-each (x ∷ xs) ys each =
    and-both (accepts ys x) (within xs ys) (each x (or-left (token_kind_number x == token_kind_number x) (accepts xs x) (eq-eqb (token_kind_number x) (token_kind_number x) refl)))
    (within-each xs ys (λ k h. each k (or-right (token_kind_number x == token_kind_number k) (accepts xs k) h)))

within-append : (zs xs ys : List TokenKind) → within xs ys ≡ true → within (zs ++ xs) (zs ++ ys) ≡ true
within-append zs xs ys inside =
    within-each (zs ++ xs) (zs ++ ys) (λ k h. elim (accepts-cases zs xs k h) [
      | inl one ↦ accepts-left zs ys k one
      | inr other ↦ accepts-right zs ys k (within-accepts xs ys k inside other)
    ])

within-if : (b : Bool) (xs ys : List TokenKind) → within xs ys ≡ true → within (if b then xs else []) (if b then ys else []) ≡ true
within-if true xs ys inside = inside
within-if false xs ys inside = refl

not-mono : (a b : Bool) → (a ≡ true → b ≡ true) → not b ≡ true → not a ≡ true
not-mono true b more e = rw (more refl) at e
not-mono false b more e = refl

-- what has no kind in common with a list has none with fewer kinds, and none with two such lists
disjoint-within : (zs xs ys : List TokenKind) → within xs ys ≡ true → disjoint zs ys ≡ true → disjoint zs xs ≡ true
disjoint-within [] xs ys inside apart = refl
disjoint-within (z ∷ zs) xs ys inside apart =
    and-both (not (accepts xs z)) (disjoint zs xs)
    (not-mono (accepts xs z) (accepts ys z) (within-accepts xs ys z inside) (and-left (not (accepts ys z)) (disjoint zs ys) apart))
    (disjoint-within zs xs ys inside (and-right (not (accepts ys z)) (disjoint zs ys) apart))

not-or : (a b : Bool) → not a ≡ true → not b ≡ true → not (a || b) ≡ true
not-or true b e f = cc
not-or false b e f = f

disjoint-append : (zs xs ys : List TokenKind) → disjoint zs xs ≡ true → disjoint zs ys ≡ true → disjoint zs (xs ++ ys) ≡ true
disjoint-append [] xs ys e f = refl
disjoint-append (z ∷ zs) xs ys e f =
    and-both (not (accepts (xs ++ ys) z)) (disjoint zs (xs ++ ys))
    (rw accepts-append (not-or (accepts xs z) (accepts ys z) (and-left (not (accepts xs z)) (disjoint zs xs) e) (and-left (not (accepts ys z)) (disjoint zs ys) f)))
    (disjoint-append zs xs ys (and-right (not (accepts xs z)) (disjoint zs xs) e) (and-right (not (accepts ys z)) (disjoint zs ys) f))

-- a part whose tree has no token can spell nothing
pub Fits-nullable : (p : Part) (t : Tree) → Fits p t → yield t ≡ [] → nullable p ≡ true
Fits-nullable (One kinds) (Leaf l) h e = cc
Fits-nullable Empty Nothing h e = refl
Fits-nullable (Seq p q) (Pair t u) h e =
    let both = append-none (yield t) (yield u) e in
    and-both (nullable p) (nullable q) (Fits-nullable p t h.0 both.0) (Fits-nullable q u h.1 both.1)
Fits-nullable (Either p q) (This t) h e = or-left (nullable p) (nullable q) (Fits-nullable p t h e)
Fits-nullable (Either p q) (That t) h e = or-right (nullable p) (nullable q) (Fits-nullable q t h e)
Fits-nullable (Many p) Nothing h e = refl
Fits-nullable (Many p) (More t u) h e = refl
Fits-nullable (Use r) (Node t) h e = let yes : nullable (rule r) ≡ true = Fits-nullable (rule r) t h e in cc (nullable-rule r)
Fits-nullable _ _ h e = absurd h

-- the kinds behind a part that can spell nothing
starts-behind : (p q : Part) (k : TokenKind) → nullable p ≡ true → accepts (starts q) k ≡ true → accepts (starts (Seq p q)) k ≡ true
starts-behind p q k e h = accepts-right (starts p) (if nullable p then starts q else []) k (rw e h)

starts-front : (p q : Part) (k : TokenKind) → accepts (starts p) k ≡ true → accepts (starts (Seq p q)) k ≡ true
starts-front p q k h = accepts-left (starts p) (if nullable p then starts q else []) k h

-- the kinds of a sequence whose first part spells a token
starts-first : (p q : Part) (k : TokenKind) → nullable p ≡ false → accepts (starts (Seq p q)) k ≡ true → accepts (starts p) k ≡ true
starts-first p q k e h =
    elim (accepts-cases (starts p) (if nullable p then starts q else []) k h) [
      | inl one ↦ one
      | inr other ↦ let no : accepts [] k ≡ true = rw e at other in cc
    ]

-- a repetition begins as its part does
starts-again : (p : Part) (k : TokenKind) → accepts (starts (Seq p (Many p))) k ≡ true → accepts (starts p) k ≡ true
starts-again p k h =
    elim (accepts-cases (starts p) (if nullable p then starts p else []) k h) [
      | inl one ↦ one
      | inr other ↦ go (nullable p) other
    ]
  where
    go : (b : Bool) → accepts (if b then starts p else []) k ≡ true → accepts (starts p) k ≡ true
    go true e = e
    go false e = cc

-- the first token of a tree is one that its part can begin with
pub Fits-starts : (p : Part) (t : Tree) (l : Lexeme) (ls : List Lexeme) → Fits p t → yield t ≡ l ∷ ls → accepts (starts p) l.kind ≡ true
Fits-starts (One kinds) (Leaf m) l ls h e = let same : m ≡ l = cc in rw (← same) h
Fits-starts Empty Nothing l ls h e = cc
Fits-starts (Seq p q) (Pair t u) l ls h e =
    elim (append-some (yield t) (yield u) l ls e) [
      | inl other ↦ starts-behind p q l.kind (Fits-nullable p t h.0 other.0) (Fits-starts q u l ls h.1 other.1)
      | inr one ↦ starts-front p q l.kind (Fits-starts p t l one.0 h.0 one.1)
    ]
Fits-starts (Either p q) (This t) l ls h e = accepts-left (starts p) (starts q) l.kind (Fits-starts p t l ls h e)
Fits-starts (Either p q) (That t) l ls h e = accepts-right (starts p) (starts q) l.kind (Fits-starts q t l ls h e)
Fits-starts (Many p) Nothing l ls h e = cc
Fits-starts (Many p) (More t u) l ls h e =
    elim (append-some (yield t) (yield u) l ls e) [
      | inl other ↦ Fits-starts (Many p) u l ls h.1 other.1
      | inr one ↦ Fits-starts p t l one.0 h.0 one.1
    ]
Fits-starts (Use r) (Node t) l ls h e = within-accepts (starts (rule r)) (starts_of r) l.kind (starts-rule r) (Fits-starts (rule r) t l ls h e)
Fits-starts _ _ l ls h e = absurd h

-- and so is the first token of a beginning
pub Viable-starts : (p : Part) (l : Lexeme) (ls ts : List Lexeme) → ts ≡ l ∷ ls → Viable p ts → accepts (starts p) l.kind ≡ true
Viable-starts p l ls ts e (grammar.Viable.none _) = cc
Viable-starts p l ls ts e (grammar.Viable.token kinds m accepted) = let same : m ≡ l = cc in rw (← same) accepted
Viable-starts p l ls ts e (grammar.Viable.first a b _ h) = starts-front a b l.kind (Viable-starts a l ls ts e h)
Viable-starts p l ls ts e (grammar.Viable.rest a b t us fits h) =
    elim (append-some (yield t) us l ls e) [
      | inl other ↦ starts-behind a b l.kind (Fits-nullable a t fits other.0) (Viable-starts b l ls us other.1 h)
      | inr one ↦ starts-front a b l.kind (Fits-starts a t l one.0 fits one.1)
    ]
Viable-starts p l ls ts e (grammar.Viable.left a b _ h) = accepts-left (starts a) (starts b) l.kind (Viable-starts a l ls ts e h)
Viable-starts p l ls ts e (grammar.Viable.right a b _ h) = accepts-right (starts a) (starts b) l.kind (Viable-starts b l ls ts e h)
Viable-starts p l ls ts e (grammar.Viable.again a _ h) = starts-again a l.kind (Viable-starts (Seq a (Many a)) l ls ts e h)
Viable-starts p l ls ts e (grammar.Viable.by_rule r _ h) = within-accepts (starts (rule r)) (starts_of r) l.kind (starts-rule r) (Viable-starts (rule r) l ls ts e h)

-- a part that is clear before some kinds is clear before fewer
pub Clear-within : (p : Part) (xs ys : List TokenKind) → within xs ys ≡ true → Clear p ys → Clear p xs
Clear-within (One kinds) xs ys inside clear = tt
Clear-within Empty xs ys inside clear = tt
Clear-within (Seq p q) xs ys inside clear = (
  Clear-within p (starts q ++ (if nullable q then xs else [])) (starts q ++ (if nullable q then ys else []))
      (within-append (starts q) (if nullable q then xs else []) (if nullable q then ys else []) (within-if (nullable q) xs ys inside)) clear.0,
  Clear-within q xs ys inside clear.1,
)
Clear-within (Either p q) xs ys inside clear = (
  clear.0,
  clear.1,
  disjoint-within (starts p) (if nullable q then xs else []) (if nullable q then ys else []) (within-if (nullable q) xs ys inside) clear.2,
  Clear-within p xs ys inside clear.3,
  Clear-within q xs ys inside clear.4,
)
Clear-within (Many p) xs ys inside clear =
    (clear.0, disjoint-within (starts p) xs ys inside clear.1, Clear-within p (starts p ++ xs) (starts p ++ ys) (within-append (starts p) xs ys inside) clear.2)
Clear-within (Use r) xs ys inside clear = within-each xs (follow r) (λ k h. within-accepts ys (follow r) k clear (within-accepts xs ys k inside h))

-- what a rule is clear before, its text is
pub Clear-use : (r : Rule) (S : Part) → Clear (Use r) (starts S) → Clear (rule r) (starts S)
Clear-use r S clear = Clear-within (rule r) (starts S) (follow r) clear (Clear-rule r)

-- there is no token, or the first one is of these kinds
abbrev pub Begins : List TokenKind → List Lexeme → Type 0
Begins kinds [] = Unit {0}
Begins kinds (l ∷ ls) = accepts kinds l.kind ≡ true

pub Fits-begins : (p : Part) (t : Tree) → Fits p t → Begins (starts p) (yield t)
Fits-begins p t h = go (yield t) refl
  where
    go : (ts : List Lexeme) → yield t ≡ ts → Begins (starts p) ts
    go [] e = tt
    go (l ∷ ls) e = Fits-starts p t l ls h e

pub Viable-begins : (p : Part) (ts : List Lexeme) → Viable p ts → Begins (starts p) ts
Viable-begins p [] h = tt
Viable-begins p (l ∷ ls) h = Viable-starts p l ls (l ∷ ls) refl h

-- the next token isn't of both of two lists that have no kind in common
pub Begins-not : (xs ys : List TokenKind) (ts : List Lexeme) → disjoint xs ys ≡ true → Begins ys ts → next_is xs ts ≡ true → ⊥
Begins-not xs ys [] apart begins next = cc
Begins-not xs ys (l ∷ ls) apart begins next = disjoint-not xs ys l.kind apart next begins

-- what derives from a part that spells a token and from what is behind it begins with a token of the part
pub Fits-opens : (p S : Part) (x : Tree) → nullable p ≡ false → Fits (Seq p S) x → next_is (starts p) (yield x) ≡ true
Fits-opens p S x e h = go (yield x) refl
  where
    go : (ts : List Lexeme) → yield x ≡ ts → next_is (starts p) ts ≡ true
    go [] is = let yes : nullable p ≡ true = and-left (nullable p) (nullable S) (Fits-nullable (Seq p S) x h is) in cc
    go (l ∷ ls) is = starts-first p S l.kind e (Fits-starts (Seq p S) x l ls h is)

pub Viable-opens : (p S : Part) (l : Lexeme) (ls : List Lexeme) → nullable p ≡ false → Viable (Seq p S) (l ∷ ls) → accepts (starts p) l.kind ≡ true
Viable-opens p S l ls e h = starts-first p S l.kind e (Viable-starts (Seq p S) l ls (l ∷ ls) refl h)

-- the second alternative and what is behind it have no kind in common with the first one
Clear-apart : (p q S : Part) → Clear (Either p q) (starts S) → disjoint (starts p) (starts (Seq q S)) ≡ true
Clear-apart p q S clear = disjoint-append (starts p) (starts q) (if nullable q then starts S else []) clear.1 clear.2

-- a tree of a sequence whose first tree is one tree wrapped: the same tokens derive without the wrapper
pub record Inside (p S : Part) (x : Tree) (wrap : Tree → Tree) : Type 0 where
  pub part : Tree
  pub tail : Tree
  pub is : x ≡ Pair (wrap part) tail
  pub fits : Fits (Seq p S) (Pair part tail)
  pub spells : yield (Pair part tail) ≡ yield x

-- a tree of a sequence whose first tree is two trees joined: the same tokens derive from the one and then the other
pub record Apart (p q S : Part) (x : Tree) (join : Tree → Tree → Tree) : Type 0 where
  pub one : Tree
  pub two : Tree
  pub tail : Tree
  pub is : x ≡ Pair (join one two) tail
  pub fits : Fits (Seq p (Seq q S)) (Pair one (Pair two tail))
  pub spells : yield (Pair one (Pair two tail)) ≡ yield x

-- a tree of a sequence whose first tree has no token
pub record Behind (S : Part) (x : Tree) : Type 0 where
  pub tail : Tree
  pub is : x ≡ Pair Nothing tail
  pub fits : Fits S tail
  pub spells : yield tail ≡ yield x

-- a tree of a sequence whose first tree is one token
pub record Token (kinds : List TokenKind) (S : Part) (x : Tree) : Type 0 where
  pub token : Lexeme
  pub tail : Tree
  pub is : x ≡ Pair (Leaf token) tail
  pub accepted : accepts kinds token.kind ≡ true
  pub fits : Fits S tail
  pub spells : yield x ≡ token ∷ yield tail

-- Trees of a sequence, by its first part. Where there is a choice, the next token makes it.
pub Fits-one : (kinds : List TokenKind) (S : Part) (x : Tree) → Fits (Seq (One kinds) S) x → Token kinds S x
Fits-one kinds S (Pair (Leaf l) s) h = record { token = l; tail = s; is = refl; accepted = h.0; fits = h.1; spells = refl }
Fits-one kinds S (Pair _ s) h = absurd h.0
Fits-one kinds S _ h = absurd h

pub Fits-empty : (S : Part) (x : Tree) → Fits (Seq Empty S) x → Behind S x
Fits-empty S (Pair Nothing s) h = record { tail = s; is = refl; fits = h.1; spells = refl }
Fits-empty S (Pair _ s) h = absurd h.0
Fits-empty S _ h = absurd h

pub Fits-seq : (p q S : Part) (x : Tree) → Fits (Seq (Seq p q) S) x → Apart p q S x (λ t u. Pair t u)
Fits-seq p q S (Pair (Pair t u) s) h = record {
  one = t;
  two = u;
  tail = s;
  is = refl;
  fits = (h.0.0, (h.0.1, h.1));
  spells = sym (append_assoc (yield t) (yield u) (yield s));
}
Fits-seq p q S (Pair _ s) h = absurd h.0
Fits-seq p q S _ h = absurd h

pub Fits-use : (r : Rule) (S : Part) (x : Tree) → Fits (Seq (Use r) S) x → Inside (rule r) S x (λ t. Node t)
Fits-use r S (Pair (Node t) s) h = record { part = t; tail = s; is = refl; fits = h; spells = refl }
Fits-use r S (Pair _ s) h = absurd h.0
Fits-use r S _ h = absurd h

pub Fits-this : (p q S : Part) (x : Tree) → Clear (Either p q) (starts S) → next_is (starts p) (yield x) ≡ true
    → Fits (Seq (Either p q) S) x → Inside p S x (λ t. This t)
Fits-this p q S (Pair (This t) s) clear next h = record { part = t; tail = s; is = refl; fits = h; spells = refl }
Fits-this p q S (Pair (That t) s) clear next h =
    absurd (Begins-not (starts p) (starts (Seq q S)) (yield t ++ yield s) (Clear-apart p q S clear) (Fits-begins (Seq q S) (Pair t s) h) next)
Fits-this p q S (Pair _ s) clear next h = absurd h.0
Fits-this p q S _ clear next h = absurd h

pub Fits-that : (p q S : Part) (x : Tree) → Clear (Either p q) (starts S) → next_is (starts p) (yield x) ≡ false
    → Fits (Seq (Either p q) S) x → Inside q S x (λ t. That t)
Fits-that p q S (Pair (This t) s) clear next h = let yes = Fits-opens p S (Pair t s) clear.0 h in cc
Fits-that p q S (Pair (That t) s) clear next h = record { part = t; tail = s; is = refl; fits = h; spells = refl }
Fits-that p q S (Pair _ s) clear next h = absurd h.0
Fits-that p q S _ clear next h = absurd h

pub Fits-more : (p S : Part) (x : Tree) → Clear (Many p) (starts S) → next_is (starts p) (yield x) ≡ true
    → Fits (Seq (Many p) S) x → Apart p (Many p) S x (λ t u. More t u)
Fits-more p S (Pair Nothing s) clear next h = absurd (Begins-not (starts p) (starts S) (yield s) clear.1 (Fits-begins S s h.1) next)
Fits-more p S (Pair (More t u) s) clear next h = record {
  one = t;
  two = u;
  tail = s;
  is = refl;
  fits = (h.0.0, (h.0.1, h.1));
  spells = sym (append_assoc (yield t) (yield u) (yield s));
}
Fits-more p S (Pair _ s) clear next h = absurd h.0
Fits-more p S _ clear next h = absurd h

pub Fits-stop : (p S : Part) (x : Tree) → Clear (Many p) (starts S) → next_is (starts p) (yield x) ≡ false
    → Fits (Seq (Many p) S) x → Behind S x
Fits-stop p S (Pair Nothing s) clear next h = record { tail = s; is = refl; fits = h.1; spells = refl }
Fits-stop p S (Pair (More t u) s) clear next h =
    let yes = Fits-opens p (Seq (Many p) S) (Pair t (Pair u s)) clear.0 (h.0.0, (h.0.1, h.1)) in
    let same : (yield t ++ yield u) ++ yield s ≡ yield t ++ (yield u ++ yield s) = append_assoc (yield t) (yield u) (yield s) in
    cc
Fits-stop p S (Pair _ s) clear next h = absurd h.0
Fits-stop p S _ clear next h = absurd h

-- tokens that begin a sequence begin its first part, or a tree of that spells some of them
pub record Goes (p q : Part) (ts : List Lexeme) : Type 0 where
  pub tree : Tree
  pub fits : Fits p tree
  pub behind : List Lexeme
  pub viable : Viable q behind
  pub is : ts ≡ yield tree ++ behind

-- the cases of a beginning
abbrev pub Cases : Part → List Lexeme → Type 0
Cases (One kinds) ts = (ts ≡ []) ⊎ ((l : Lexeme) × (accepts kinds l.kind ≡ true) × (ts ≡ l ∷ []))
Cases Empty ts = ts ≡ []
Cases (Seq p q) ts = Viable p ts ⊎ Goes p q ts
Cases (Either p q) ts = Viable p ts ⊎ Viable q ts
Cases (Many p) ts = Viable (Seq p (Many p)) ts
Cases (Use r) ts = Viable (rule r) ts

Cases-none : (p : Part) → Cases p []
Cases-none (One kinds) = inl refl
Cases-none Empty = refl
Cases-none (Seq p q) = inl (grammar.Viable.none p)
Cases-none (Either p q) = inl (grammar.Viable.none p)
Cases-none (Many p) = grammar.Viable.none (Seq p (Many p))
Cases-none (Use r) = grammar.Viable.none (rule r)

pub Viable-cases : (p : Part) (ts : List Lexeme) → Viable p ts → Cases p ts
Viable-cases p ts (grammar.Viable.none _) = Cases-none p
Viable-cases p ts (grammar.Viable.token kinds l accepted) = inr (l, accepted, refl)
Viable-cases p ts (grammar.Viable.first a b _ h) = inl h
Viable-cases p ts (grammar.Viable.rest a b t us fits h) = inr (record { tree = t; fits = fits; behind = us; viable = h; is = refl })
Viable-cases p ts (grammar.Viable.left a b _ h) = inl h
Viable-cases p ts (grammar.Viable.right a b _ h) = inr h
Viable-cases p ts (grammar.Viable.again a _ h) = h
Viable-cases p ts (grammar.Viable.by_rule r _ h) = h

-- a tree of the first part, and a beginning of the second behind it
pub Viable-behind : (p q : Part) (ts : List Lexeme) (t : Tree) (us : List Lexeme) → Fits p t → Viable q us → ts ≡ yield t ++ us → Viable (Seq p q) ts
Viable-behind p q ts t us fits h e = rw e (grammar.Viable.rest p q t us fits h)

-- Beginnings of a sequence, by its first part: `ts` is the beginning, and `zs` the tokens behind it that the reader sees too.
pub Viable-one : (kinds : List TokenKind) (S : Part) (l : Lexeme) (us : List Lexeme) → Viable (Seq (One kinds) S) (l ∷ us)
    → (accepts kinds l.kind ≡ true) × Viable S us
Viable-one kinds S l us h =
    (starts-first (One kinds) S l.kind refl (Viable-starts (Seq (One kinds) S) l us (l ∷ us) refl h), go (Viable-cases (Seq (One kinds) S) (l ∷ us) h))
  where
    alone : Cases (One kinds) (l ∷ us) → Viable S us
    alone (inl e) = cc
    alone (inr one) = let none : us ≡ [] = cc (one.2) in rw none (grammar.Viable.none S)

    behind : (t : Tree) (vs : List Lexeme) → Fits (One kinds) t → Viable S vs → l ∷ us ≡ yield t ++ vs → Viable S us
    behind (Leaf m) vs fits v e = let same : us ≡ vs = cc in rw same v
    behind _ vs fits v e = absurd fits

    go : Cases (Seq (One kinds) S) (l ∷ us) → Viable S us
    go (inl v) = alone (Viable-cases (One kinds) (l ∷ us) v)
    go (inr g) = behind g.tree g.behind g.fits g.viable g.is

pub Viable-empty : (S : Part) (ts : List Lexeme) → Viable (Seq Empty S) ts → Viable S ts
Viable-empty S ts h = go (Viable-cases (Seq Empty S) ts h)
  where
    behind : (t : Tree) (vs : List Lexeme) → Fits Empty t → Viable S vs → ts ≡ yield t ++ vs → Viable S ts
    behind Nothing vs fits v e = rw e v
    behind _ vs fits v e = absurd fits

    go : Cases (Seq Empty S) ts → Viable S ts
    go (inl v) = let none : ts ≡ [] = Viable-cases Empty ts v in rw none (grammar.Viable.none S)
    go (inr g) = behind g.tree g.behind g.fits g.viable g.is

pub Viable-seq : (p q S : Part) (ts : List Lexeme) → Viable (Seq (Seq p q) S) ts → Viable (Seq p (Seq q S)) ts
Viable-seq p q S ts h = go (Viable-cases (Seq (Seq p q) S) ts h)
  where
    inside : Cases (Seq p q) ts → Viable (Seq p (Seq q S)) ts
    inside (inl v) = grammar.Viable.first p (Seq q S) ts v
    inside (inr g) = Viable-behind p (Seq q S) ts g.tree g.behind g.fits (grammar.Viable.first q S g.behind g.viable) g.is

    behind : (t : Tree) (vs : List Lexeme) → Fits (Seq p q) t → Viable S vs → ts ≡ yield t ++ vs → Viable (Seq p (Seq q S)) ts
    behind (Pair t u) vs fits v e =
        Viable-behind p (Seq q S) ts t (yield u ++ vs) fits.0 (grammar.Viable.rest q S u vs fits.1 v) (rw append_assoc at e)
    behind _ vs fits v e = absurd fits

    go : Cases (Seq (Seq p q) S) ts → Viable (Seq p (Seq q S)) ts
    go (inl v) = inside (Viable-cases (Seq p q) ts v)
    go (inr g) = behind g.tree g.behind g.fits g.viable g.is

pub Viable-use : (r : Rule) (S : Part) (ts : List Lexeme) → Viable (Seq (Use r) S) ts → Viable (Seq (rule r) S) ts
Viable-use r S ts h = go (Viable-cases (Seq (Use r) S) ts h)
  where
    behind : (t : Tree) (vs : List Lexeme) → Fits (Use r) t → Viable S vs → ts ≡ yield t ++ vs → Viable (Seq (rule r) S) ts
    behind (Node t) vs fits v e = Viable-behind (rule r) S ts t vs fits v e
    behind _ vs fits v e = absurd fits

    go : Cases (Seq (Use r) S) ts → Viable (Seq (rule r) S) ts
    go (inl v) = grammar.Viable.first (rule r) S ts (Viable-cases (Use r) ts v)
    go (inr g) = behind g.tree g.behind g.fits g.viable g.is

-- a beginning of a choice and what is behind it begins with one of the two
Viable-either : (p q S : Part) (ts : List Lexeme) → Viable (Seq (Either p q) S) ts → Viable (Seq p S) ts ⊎ Viable (Seq q S) ts
Viable-either p q S ts h = go (Viable-cases (Seq (Either p q) S) ts h)
  where
    inside : Cases (Either p q) ts → Viable (Seq p S) ts ⊎ Viable (Seq q S) ts
    inside (inl v) = inl (grammar.Viable.first p S ts v)
    inside (inr v) = inr (grammar.Viable.first q S ts v)

    behind : (t : Tree) (vs : List Lexeme) → Fits (Either p q) t → Viable S vs → ts ≡ yield t ++ vs → Viable (Seq p S) ts ⊎ Viable (Seq q S) ts
    behind (This t) vs fits v e = inl (Viable-behind p S ts t vs fits v e)
    behind (That t) vs fits v e = inr (Viable-behind q S ts t vs fits v e)
    behind _ vs fits v e = absurd fits

    go : Cases (Seq (Either p q) S) ts → Viable (Seq p S) ts ⊎ Viable (Seq q S) ts
    go (inl v) = inside (Viable-cases (Either p q) ts v)
    go (inr g) = behind g.tree g.behind g.fits g.viable g.is

pub Viable-this : (p q S : Part) (ts zs : List Lexeme) → Clear (Either p q) (starts S) → next_is (starts p) (ts ++ zs) ≡ true
    → Viable (Seq (Either p q) S) ts → Viable (Seq p S) ts
Viable-this p q S [] zs clear next h = grammar.Viable.none (Seq p S)
Viable-this p q S (l ∷ ls) zs clear next h =
    elim (Viable-either p q S (l ∷ ls) h) [
      | inl v ↦ v
      | inr v ↦ absurd (Begins-not (starts p) (starts (Seq q S)) (l ∷ ls) (Clear-apart p q S clear) (Viable-begins (Seq q S) (l ∷ ls) v) next)
    ]

pub Viable-that : (p q S : Part) (ts zs : List Lexeme) → Clear (Either p q) (starts S) → next_is (starts p) (ts ++ zs) ≡ false
    → Viable (Seq (Either p q) S) ts → Viable (Seq q S) ts
Viable-that p q S [] zs clear next h = grammar.Viable.none (Seq q S)
Viable-that p q S (l ∷ ls) zs clear next h =
    elim (Viable-either p q S (l ∷ ls) h) [
      | inl v ↦ let yes : accepts (starts p) l.kind ≡ true = Viable-opens p S l ls clear.0 v in cc
      | inr v ↦ v
    ]

-- a beginning of a repetition and what is behind it begins with the part, or the repetition has ended
Viable-many : (p S : Part) (ts : List Lexeme) → Viable (Seq (Many p) S) ts → Viable (Seq p (Seq (Many p) S)) ts ⊎ Viable S ts
Viable-many p S ts h = go (Viable-cases (Seq (Many p) S) ts h)
  where
    inside : Cases (Seq p (Many p)) ts → Viable (Seq p (Seq (Many p) S)) ts ⊎ Viable S ts
    inside (inl v) = inl (grammar.Viable.first p (Seq (Many p) S) ts v)
    inside (inr g) = inl (Viable-behind p (Seq (Many p) S) ts g.tree g.behind g.fits (grammar.Viable.first (Many p) S g.behind g.viable) g.is)

    behind : (t : Tree) (vs : List Lexeme) → Fits (Many p) t → Viable S vs → ts ≡ yield t ++ vs → Viable (Seq p (Seq (Many p) S)) ts ⊎ Viable S ts
    behind Nothing vs fits v e = inr (rw e v)
    behind (More t u) vs fits v e =
        inl (Viable-behind p (Seq (Many p) S) ts t (yield u ++ vs) fits.0 (grammar.Viable.rest (Many p) S u vs fits.1 v) (rw append_assoc at e))
    behind _ vs fits v e = absurd fits

    go : Cases (Seq (Many p) S) ts → Viable (Seq p (Seq (Many p) S)) ts ⊎ Viable S ts
    go (inl v) = inside (Viable-cases (Seq p (Many p)) ts (Viable-cases (Many p) ts v))
    go (inr g) = behind g.tree g.behind g.fits g.viable g.is

pub Viable-more : (p S : Part) (ts zs : List Lexeme) → Clear (Many p) (starts S) → next_is (starts p) (ts ++ zs) ≡ true
    → Viable (Seq (Many p) S) ts → Viable (Seq p (Seq (Many p) S)) ts
Viable-more p S [] zs clear next h = grammar.Viable.none (Seq p (Seq (Many p) S))
Viable-more p S (l ∷ ls) zs clear next h =
    elim (Viable-many p S (l ∷ ls) h) [
      | inl v ↦ v
      | inr v ↦ absurd (Begins-not (starts p) (starts S) (l ∷ ls) clear.1 (Viable-begins S (l ∷ ls) v) next)
    ]

pub Viable-stop : (p S : Part) (ts zs : List Lexeme) → Clear (Many p) (starts S) → next_is (starts p) (ts ++ zs) ≡ false
    → Viable (Seq (Many p) S) ts → Viable S ts
Viable-stop p S [] zs clear next h = grammar.Viable.none S
Viable-stop p S (l ∷ ls) zs clear next h =
    elim (Viable-many p S (l ∷ ls) h) [
      | inl v ↦ let yes : accepts (starts p) l.kind ≡ true = Viable-opens p (Seq (Many p) S) l ls clear.0 v in cc
      | inr v ↦ v
    ]
