-- What a reader reads is a derivation, and the only one; where it fails, none goes on.
use Rattle.std.proofs.Common.{ℕ, ◌≡◌, ◌<◌, ◌⊎◌, inl, inr, Bool, true, false, List, [], ◌∷◌, ◌++◌, length, refl, sym, ap, ◌∙◌, arith, append_assoc, append-nil, length-append}
use Rattle.std.proofs.lemmas.Bool.{and_cases, or_parts}
use Rattle.std.proofs.lemmas.List.{append_cancel_right}
use Rattle.rs_grammar.specs.Kinds.{accepts}
use Rattle.rs_grammar.specs.Grammar.{Part, One, Empty, Seq, Either, Many, Use, rule, Tree, Leaf, Nothing, Pair, This, That, More, Node, yield, Fits, Viable, end_after}
use Rattle.rs_grammar.specs.Grammar as grammar
use Rattle.rs_grammar.specs.Reading.{State, starts, nullable, next_is, left_behind, is_too_deep, Read, Fails, Cause, Expected, TooDeep}
use Rattle.rs_grammar.specs.Reading as reading
use Rattle.rs_grammar.specs.declared.kind.TokenKind.{TokenKind}
use Rattle.rs_grammar.specs.declared.lexeme.Lexeme.{Lexeme}
use Rattle.rs_grammar.proofs.Predict.{Clear, nullable-rule}
use Rattle.rs_grammar.proofs.Beginnings.{Clear-use, Fits-one, Fits-empty, Fits-seq, Fits-use, Fits-this, Fits-that, Fits-more, Fits-stop, Viable-one, Viable-empty, Viable-seq, Viable-use, Viable-this, Viable-that, Viable-more, Viable-stop}

-- how many counting tokens may still come behind these tokens, and whether none of them is one too many
abbrev pub left_after : ℕ → List Lexeme → ℕ
left_after left [] = left
left_after left (l ∷ ls) = left_after (left_behind l.kind left) ls

abbrev pub IsShallow : ℕ → List Lexeme → Type 0
IsShallow left [] = Unit {0}
IsShallow left (l ∷ ls) = (is_too_deep l.kind left ≡ false) × IsShallow (left_behind l.kind left) ls

-- a derivation of the tokens of one part and what remains
pub record Rest (S : Part) (t x : Tree) (ls : List Lexeme) : Type 0 where
  pub tail : Tree
  pub is : x ≡ Pair t tail
  pub fits : Fits S tail
  pub spells : yield tail ≡ ls

-- what was read up to a place
pub record Front (p : Part) (b a : State) : Type 0 where
  pub tokens : List Lexeme
  pub split : b.rest ≡ tokens ++ a.rest
  pub viable : Viable p tokens
  pub shallow : IsShallow b.left tokens
  pub left : a.left ≡ left_after b.left tokens

-- a token that is one too many stands at a place
pub record Deep (p : Part) (b a : State) : Type 0 where
  pub front : List Lexeme
  pub token : Lexeme
  pub behind : List Lexeme
  pub here : a.rest ≡ token ∷ behind
  pub split : b.rest ≡ front ++ a.rest
  pub viable : Viable p (front ++ token ∷ [])
  pub shallow : IsShallow b.left front
  pub left : a.left ≡ left_after b.left front
  pub deep : is_too_deep token.kind a.left ≡ true

-- what is read fits, and is what stood in front of the reader
pub Read-fits : (p : Part) (b : State) (t : Tree) (a : State) → Read p b t a → Fits p t
Read-fits p b t a (reading.Read.token kinds l _ _ takes accepted shallow) = accepted
Read-fits p b t a (reading.Read.empty _) = tt
Read-fits p b t a (reading.Read.both q r u v _ x _ h k) = (Read-fits q b u x h, Read-fits r x v a k)
Read-fits p b t a (reading.Read.this q r u _ _ e h) = Read-fits q b u a h
Read-fits p b t a (reading.Read.that q r u _ _ e h) = Read-fits r b u a h
Read-fits p b t a (reading.Read.stop q _ e) = tt
Read-fits p b t a (reading.Read.more q u v _ x _ e h k) = (Read-fits q b u x h, Read-fits (Many q) x v a k)
Read-fits p b t a (reading.Read.by_rule r u _ _ h) = Read-fits (rule r) b u a h

-- tokens in front of others, which stand in front of a third list
split-join : (xs ys zs us vs : List Lexeme) → xs ≡ us ++ ys → ys ≡ vs ++ zs → xs ≡ us ++ vs ++ zs
split-join xs ys zs us vs e f = e ∙ ap (λ rest. us ++ rest) f ∙ sym (append_assoc us vs zs)

pub Read-split : (p : Part) (b : State) (t : Tree) (a : State) → Read p b t a → b.rest ≡ yield t ++ a.rest
Read-split p b t a (reading.Read.token kinds l _ _ takes accepted shallow) = takes.rest
Read-split p b t a (reading.Read.empty _) = refl
Read-split p b t a (reading.Read.both q r u v _ x _ h k) = split-join b.rest x.rest a.rest (yield u) (yield v) (Read-split q b u x h) (Read-split r x v a k)
Read-split p b t a (reading.Read.this q r u _ _ e h) = Read-split q b u a h
Read-split p b t a (reading.Read.that q r u _ _ e h) = Read-split r b u a h
Read-split p b t a (reading.Read.stop q _ e) = refl
Read-split p b t a (reading.Read.more q u v _ x _ e h k) = split-join b.rest x.rest a.rest (yield u) (yield v) (Read-split q b u x h) (Read-split (Many q) x v a k)
Read-split p b t a (reading.Read.by_rule r u _ _ h) = Read-split (rule r) b u a h

-- counting goes on from one list of tokens to the next
left_after-append : (left : ℕ) (xs ys : List Lexeme) → left_after left (xs ++ ys) ≡ left_after (left_after left xs) ys
left_after-append left [] ys = refl
left_after-append left (x ∷ xs) ys = left_after-append (left_behind x.kind left) xs ys

-- tokens are shallow where the first of them are, and the others behind those
IsShallow-append : (left : ℕ) (xs ys : List Lexeme) → IsShallow left xs → IsShallow (left_after left xs) ys → IsShallow left (xs ++ ys)
IsShallow-append left [] ys h k = k
IsShallow-append left (x ∷ xs) ys h k = (h.0, IsShallow-append (left_behind x.kind left) xs ys h.1 k)

-- tokens are shallow, and this many counting tokens may still come behind them
abbrev Leaves : State → List Lexeme → State → Type 0
Leaves b tokens a = IsShallow b.left tokens × (a.left ≡ left_after b.left tokens)

Leaves-append : (b x a : State) (xs ys : List Lexeme) → Leaves b xs x → Leaves x ys a → Leaves b (xs ++ ys) a
Leaves-append b x a xs ys h k =
    (IsShallow-append b.left xs ys h.0 (rw h.1 at k.0), k.1 ∙ ap (λ left. left_after left ys) h.1 ∙ sym (left_after-append b.left xs ys))

pub Read-left : (p : Part) (b : State) (t : Tree) (a : State) → Read p b t a → IsShallow b.left (yield t) × (a.left ≡ left_after b.left (yield t))
Read-left p b t a (reading.Read.token kinds l _ _ takes accepted shallow) = ((shallow, tt), takes.left)
Read-left p b t a (reading.Read.empty _) = (tt, refl)
Read-left p b t a (reading.Read.both q r u v _ x _ h k) = Leaves-append b x a (yield u) (yield v) (Read-left q b u x h) (Read-left r x v a k)
Read-left p b t a (reading.Read.this q r u _ _ e h) = Read-left q b u a h
Read-left p b t a (reading.Read.that q r u _ _ e h) = Read-left r b u a h
Read-left p b t a (reading.Read.stop q _ e) = (tt, refl)
Read-left p b t a (reading.Read.more q u v _ x _ e h k) = Leaves-append b x a (yield u) (yield v) (Read-left q b u x h) (Read-left (Many q) x v a k)
Read-left p b t a (reading.Read.by_rule r u _ _ h) = Read-left (rule r) b u a h

-- the end goes on from one list of tokens to the next
end_after-append : (last : ℕ) (xs ys : List Lexeme) → end_after last (xs ++ ys) ≡ end_after (end_after last xs) ys
end_after-append last [] ys = refl
end_after-append last (x ∷ xs) ys = end_after-append x.at.end xs ys

-- the end behind two lists of tokens
end-join : (first middle last : ℕ) (xs ys : List Lexeme) → middle ≡ end_after first xs → last ≡ end_after middle ys → last ≡ end_after first (xs ++ ys)
end-join first middle last xs ys e f = f ∙ ap (λ end. end_after end ys) e ∙ sym (end_after-append first xs ys)

pub Read-last : (p : Part) (b : State) (t : Tree) (a : State) → Read p b t a → a.last ≡ end_after b.last (yield t)
Read-last p b t a (reading.Read.token kinds l _ _ takes accepted shallow) = takes.last
Read-last p b t a (reading.Read.empty _) = refl
Read-last p b t a (reading.Read.both q r u v _ x _ h k) = end-join b.last x.last a.last (yield u) (yield v) (Read-last q b u x h) (Read-last r x v a k)
Read-last p b t a (reading.Read.this q r u _ _ e h) = Read-last q b u a h
Read-last p b t a (reading.Read.that q r u _ _ e h) = Read-last r b u a h
Read-last p b t a (reading.Read.stop q _ e) = refl
Read-last p b t a (reading.Read.more q u v _ x _ e h k) = end-join b.last x.last a.last (yield u) (yield v) (Read-last q b u x h) (Read-last (Many q) x v a k)
Read-last p b t a (reading.Read.by_rule r u _ _ h) = Read-last (rule r) b u a h

-- two lists of which one has a token
append-positive : (xs ys : List Lexeme) → (0 < length xs) ⊎ (0 < length ys) → 0 < length (xs ++ ys)
append-positive xs ys (inl first) = omega (arith, length-append xs ys)
append-positive xs ys (inr second) = omega (arith, length-append xs ys)

-- a part that can't spell nothing has a token
pub Read-some : (p : Part) (b : State) (t : Tree) (a : State) → Read p b t a → nullable p ≡ false → 0 < length (yield t)
Read-some p b t a (reading.Read.token kinds l _ _ takes accepted shallow) e = omega arith
Read-some p b t a (reading.Read.empty _) e = cc
Read-some p b t a (reading.Read.both q r u v _ x _ h k) e =
    elim (and_cases (nullable q) (nullable r) e) [
      | inl first ↦ append-positive (yield u) (yield v) (inl (Read-some q b u x h first))
      | inr second ↦ append-positive (yield u) (yield v) (inr (Read-some r x v a k second))
    ]
Read-some p b t a (reading.Read.this q r u _ _ o h) e = Read-some q b u a h (or_parts (nullable q) (nullable r) e).0
Read-some p b t a (reading.Read.that q r u _ _ o h) e = Read-some r b u a h (or_parts (nullable q) (nullable r) e).1
Read-some p b t a (reading.Read.stop q _ o) e = cc
Read-some p b t a (reading.Read.more q u v _ x _ o h k) e = cc
Read-some p b t a (reading.Read.by_rule r u _ _ h) e = Read-some (rule r) b u a h (nullable-rule r)

-- whatever else derives the tokens in front of the reader derives from the part the same tree
pub Read-only : (p : Part) (b : State) (t : Tree) (a : State) → Read p b t a → (S : Part) → Clear p (starts S)
    → (x : Tree) → Fits (Seq p S) x → yield x ≡ b.rest → Rest S t x a.rest
Read-only p b t a (reading.Read.token kinds l _ _ takes accepted deep) S clear x fits spells =
    let g = Fits-one kinds S x fits in
    let same : g.token ≡ l = cc (g.spells, takes.rest, spells) in
    record { tail = g.tail; is = cc (g.is, same); fits = g.fits; spells = cc (g.spells, takes.rest, spells) }
Read-only p b t a (reading.Read.empty _) S clear x fits spells =
    let g = Fits-empty S x fits in
    record { tail = g.tail; is = g.is; fits = g.fits; spells = cc (g.spells, spells) }
Read-only p b t a (reading.Read.both one two v w _ m _ h k) S clear x fits spells =
    let g = Fits-seq one two S x fits in
    let r = Read-only one b v m h (Seq two S) clear.0 (Pair g.one (Pair g.two g.tail)) g.fits (g.spells ∙ spells) in
    let o = Read-only two m w a k S clear.1 r.tail r.fits r.spells in
    record { tail = o.tail; is = cc (g.is, r.is, o.is); fits = o.fits; spells = o.spells }
Read-only p b t a (reading.Read.this one two v _ _ next h) S clear x fits spells =
    let g = Fits-this one two S x clear (rw spells next) fits in
    let r = Read-only one b v a h S clear.3 (Pair g.part g.tail) g.fits (g.spells ∙ spells) in
    record { tail = r.tail; is = cc (g.is, r.is); fits = r.fits; spells = r.spells }
Read-only p b t a (reading.Read.that one two v _ _ next h) S clear x fits spells =
    let g = Fits-that one two S x clear (rw spells next) fits in
    let r = Read-only two b v a h S clear.4 (Pair g.part g.tail) g.fits (g.spells ∙ spells) in
    record { tail = r.tail; is = cc (g.is, r.is); fits = r.fits; spells = r.spells }
Read-only p b t a (reading.Read.stop part _ next) S clear x fits spells =
    let g = Fits-stop part S x clear (rw spells next) fits in
    record { tail = g.tail; is = g.is; fits = g.fits; spells = cc (g.spells, spells) }
Read-only p b t a (reading.Read.more part v w _ m _ next h k) S clear x fits spells =
    let g = Fits-more part S x clear (rw spells next) fits in
    let r = Read-only part b v m h (Seq (Many part) S) clear.2 (Pair g.one (Pair g.two g.tail)) g.fits (g.spells ∙ spells) in
    let o = Read-only (Many part) m w a k S clear r.tail r.fits r.spells in
    record { tail = o.tail; is = cc (g.is, r.is, o.is); fits = o.fits; spells = o.spells }
Read-only p b t a (reading.Read.by_rule r v _ _ h) S clear x fits spells =
    let g = Fits-use r S x fits in
    let o = Read-only (rule r) b v a h S (Clear-use r S clear) (Pair g.part g.tail) g.fits (g.spells ∙ spells) in
    record { tail = o.tail; is = cc (g.is, o.is); fits = o.fits; spells = o.spells }

-- what stood in front of the reader, where what remains is in two parts
Read-ahead : (p : Part) (b : State) (t : Tree) (a : State) → Read p b t a → (ys zs : List Lexeme) → a.rest ≡ ys ++ zs → b.rest ≡ (yield t ++ ys) ++ zs
Read-ahead p b t a h ys zs split = rw (append_assoc, ← split) (Read-split p b t a h)

-- a beginning that goes on behind what was read goes on with what may stand there
pub Read-viable : (p : Part) (b : State) (t : Tree) (a : State) → Read p b t a → (S : Part) → Clear p (starts S)
    → (ys zs : List Lexeme) → a.rest ≡ ys ++ zs → Viable (Seq p S) (yield t ++ ys) → Viable S ys
Read-viable p b t a (reading.Read.token kinds l _ _ takes accepted deep) S clear ys zs split viable = let g = Viable-one kinds S l ys viable in g.1
Read-viable p b t a (reading.Read.empty _) S clear ys zs split viable = Viable-empty S ys viable
Read-viable p b t a (reading.Read.both one two v w _ m _ h k) S clear ys zs split viable =
    let begun : Viable (Seq one (Seq two S)) (yield v ++ (yield w ++ ys)) =
    rw append_assoc at (Viable-seq one two S ((yield v ++ yield w) ++ ys) viable)
    in
    let ahead : m.rest ≡ (yield w ++ ys) ++ zs = Read-ahead two m w a k ys zs split in
    Read-viable two m w a k S clear.1 ys zs split (Read-viable one b v m h (Seq two S) clear.0 (yield w ++ ys) zs ahead begun)
Read-viable p b t a (reading.Read.this one two v _ _ next h) S clear ys zs split viable =
    let ahead : b.rest ≡ (yield v ++ ys) ++ zs = Read-ahead one b v a h ys zs split in
    Read-viable one b v a h S clear.3 ys zs split (Viable-this one two S (yield v ++ ys) zs clear (rw ahead at next) viable)
Read-viable p b t a (reading.Read.that one two v _ _ next h) S clear ys zs split viable =
    let ahead : b.rest ≡ (yield v ++ ys) ++ zs = Read-ahead two b v a h ys zs split in
    Read-viable two b v a h S clear.4 ys zs split (Viable-that one two S (yield v ++ ys) zs clear (rw ahead at next) viable)
Read-viable p b t a (reading.Read.stop part _ next) S clear ys zs split viable = Viable-stop part S ys zs clear (rw split at next) viable
Read-viable p b t a (reading.Read.more part v w _ m _ next h k) S clear ys zs split viable =
    let whole : b.rest ≡ ((yield v ++ yield w) ++ ys) ++ zs = Read-ahead (Many part) b (More v w) a (reading.Read.more part v w b m a next h k) ys zs split in
    let begun : Viable (Seq part (Seq (Many part) S)) (yield v ++ (yield w ++ ys)) =
    rw append_assoc at (Viable-more part S ((yield v ++ yield w) ++ ys) zs clear (rw whole at next) viable)
    in
    let ahead : m.rest ≡ (yield w ++ ys) ++ zs = Read-ahead (Many part) m w a k ys zs split in
    Read-viable (Many part) m w a k S clear ys zs split (Read-viable part b v m h (Seq (Many part) S) clear.2 (yield w ++ ys) zs ahead begun)
Read-viable p b t a (reading.Read.by_rule r v _ _ h) S clear ys zs split viable =
    Read-viable (rule r) b v a h S (Clear-use r S clear) ys zs split (Viable-use r S (yield v ++ ys) viable)

-- what was read of a part was read of another part too, where each beginning of the first is one of the second
Front-around : (p q : Part) (b a : State) → ((ts : List Lexeme) → Viable p ts → Viable q ts) → Front p b a → Front q b a
Front-around p q b a around f = record { tokens = f.tokens; split = f.split; viable = around f.tokens f.viable; shallow = f.shallow; left = f.left }

-- what was read of the second part of a sequence, together with what was read of its first part
Front-behind : (p q : Part) (t : Tree) (b x a : State) → Read p b t x → Front q x a → Front (Seq p q) b a
Front-behind p q t b x a h f =
    let leaves : Leaves b (yield t ++ f.tokens) a = Leaves-append b x a (yield t) f.tokens (Read-left p b t x h) (f.shallow, f.left) in
    record {
      tokens = yield t ++ f.tokens;
      split = split-join b.rest x.rest a.rest (yield t) f.tokens (Read-split p b t x h) f.split;
      viable = grammar.Viable.rest p q t f.tokens (Read-fits p b t x h) f.viable;
      shallow = leaves.0;
      left = leaves.1;
    }

-- where nothing was read
Front-here : (p : Part) (b : State) → Front p b b
Front-here p b = record { tokens = []; split = refl; viable = grammar.Viable.none p; shallow = tt; left = refl }

-- what stands in front of a failure is a beginning
pub Fails-front : (p : Part) (c : Cause) (b a : State) → Fails p b c a → Front p b a
Fails-front p c b a (reading.Fails.other kinds _ e) = Front-here p b
Fails-front p c b a (reading.Fails.deep kinds l ls _ e accepted deep) = Front-here p b
Fails-front p c b a (reading.Fails.first q r _ _ _ h) = Front-around q p b a (grammar.Viable.first q r) (Fails-front q c b a h)
Fails-front p c b a (reading.Fails.second q r t _ _ x _ k h) = Front-behind q r t b x a k (Fails-front r c x a h)
Fails-front p c b a (reading.Fails.this q r _ _ _ o h) = Front-around q p b a (grammar.Viable.left q r) (Fails-front q c b a h)
Fails-front p c b a (reading.Fails.that q r _ _ _ o h) = Front-around r p b a (grammar.Viable.right q r) (Fails-front r c b a h)
Fails-front p c b a (reading.Fails.item q _ _ _ o h) =
    Front-around q p b a (λ ts viable. grammar.Viable.again q ts (grammar.Viable.first q (Many q) ts viable)) (Fails-front q c b a h)
Fails-front p c b a (reading.Fails.later q t _ _ x _ o k h) =
    Front-around (Seq q (Many q)) p b a (grammar.Viable.again q) (Front-behind q (Many q) t b x a k (Fails-front (Many q) c x a h))
Fails-front p c b a (reading.Fails.by_rule r _ _ _ h) = Front-around (rule r) p b a (grammar.Viable.by_rule r) (Fails-front (rule r) c b a h)

-- equal lists have the same next token
next-same : (kinds : List TokenKind) (xs ys : List Lexeme) (b : Bool) → xs ≡ ys → next_is kinds ys ≡ b → next_is kinds xs ≡ b
next-same kinds xs ys b e next = rw e next

-- the same with the cause in a variable
Fails-none_at : (p : Part) (c : Cause) (b a : State) → Fails p b c a → c ≡ Expected → (S : Part) → Clear p (starts S)
    → (x : Tree) → Fits (Seq p S) x → yield x ≡ b.rest → ⊥
Fails-none_at p c b a (reading.Fails.other kinds _ e) is S clear x fits spells =
    let t = Fits-one kinds S x fits in
    let out : next_is kinds (t.token ∷ yield t.tail) ≡ false = next-same kinds (t.token ∷ yield t.tail) b.rest false (sym t.spells ∙ spells) e in
    let accepted : accepts kinds t.token.kind ≡ true = t.accepted in
    cc
Fails-none_at p c b a (reading.Fails.deep kinds l ls _ e accepted deep) is S clear x fits spells = cc
Fails-none_at p c b a (reading.Fails.first q r _ _ _ h) is S clear x fits spells =
    let parts = Fits-seq q r S x fits in
    Fails-none_at q c b a h is (Seq r S) clear.0 (Pair parts.one (Pair parts.two parts.tail)) parts.fits (parts.spells ∙ spells)
Fails-none_at p c b a (reading.Fails.second q r t _ _ y _ k h) is S clear x fits spells =
    let parts = Fits-seq q r S x fits in
    let others = Read-only q b t y k (Seq r S) clear.0 (Pair parts.one (Pair parts.two parts.tail)) parts.fits (parts.spells ∙ spells) in
    Fails-none_at r c y a h is S clear.1 others.tail others.fits others.spells
Fails-none_at p c b a (reading.Fails.this q r _ _ _ o h) is S clear x fits spells =
    let parts = Fits-this q r S x clear (next-same (starts q) (yield x) b.rest true spells o) fits in
    Fails-none_at q c b a h is S clear.3 (Pair parts.part parts.tail) parts.fits (parts.spells ∙ spells)
Fails-none_at p c b a (reading.Fails.that q r _ _ _ o h) is S clear x fits spells =
    let parts = Fits-that q r S x clear (next-same (starts q) (yield x) b.rest false spells o) fits in
    Fails-none_at r c b a h is S clear.4 (Pair parts.part parts.tail) parts.fits (parts.spells ∙ spells)
Fails-none_at p c b a (reading.Fails.item q _ _ _ o h) is S clear x fits spells =
    let parts = Fits-more q S x clear (next-same (starts q) (yield x) b.rest true spells o) fits in
    Fails-none_at q c b a h is (Seq (Many q) S) clear.2 (Pair parts.one (Pair parts.two parts.tail)) parts.fits (parts.spells ∙ spells)
Fails-none_at p c b a (reading.Fails.later q t _ _ y _ o k h) is S clear x fits spells =
    let parts = Fits-more q S x clear (next-same (starts q) (yield x) b.rest true spells o) fits in
    let others = Read-only q b t y k (Seq (Many q) S) clear.2 (Pair parts.one (Pair parts.two parts.tail)) parts.fits (parts.spells ∙ spells) in
    Fails-none_at (Many q) c y a h is S clear others.tail others.fits others.spells
Fails-none_at p c b a (reading.Fails.by_rule r _ _ _ h) is S clear x fits spells =
    let parts = Fits-use r S x fits in
    Fails-none_at (rule r) c b a h is S (Clear-use r S clear) (Pair parts.part parts.tail) parts.fits (parts.spells ∙ spells)

-- the tokens in front of a reader that fails derive from nothing that begins with the part
pub Fails-none : (p : Part) (b a : State) → Fails p b Expected a → (S : Part) → Clear p (starts S)
    → (x : Tree) → Fits (Seq p S) x → yield x ≡ b.rest → ⊥
Fails-none p b a h S clear x fits spells = Fails-none_at p Expected b a h refl S clear x fits spells

-- tokens up to and with one of them, and those behind it
front-and : (front rest ls : List Lexeme) (l : Lexeme) (all : List Lexeme) → all ≡ front ++ rest → rest ≡ l ∷ ls → all ≡ front ++ l ∷ [] ++ ls
front-and front rest ls l all split here = split ∙ ap (λ more. front ++ more) here ∙ sym (append_assoc front (l ∷ []) ls)

-- what a reader reads and what stands behind it up to its failure is all that stands in front of the failure
front-read : (p q : Part) (t : Tree) (b x a : State) → Read p b t x → (f : Front q x a)
    → (front : List Lexeme) → b.rest ≡ front ++ a.rest → front ≡ yield t ++ f.tokens
front-read p q t b x a h f front split =
    append_cancel_right front (yield t ++ f.tokens) a.rest (sym split ∙ split-join b.rest x.rest a.rest (yield t) f.tokens (Read-split p b t x h) f.split)

-- a beginning that goes on behind what was read, up to a failure
viable-behind : (p q S : Part) (t : Tree) (b x a : State) → Read p b t x → Clear p (starts S) → (f : Front q x a)
    → (front : List Lexeme) (l : Lexeme) (ls : List Lexeme) → b.rest ≡ front ++ a.rest → a.rest ≡ l ∷ ls
    → Viable (Seq p S) (front ++ l ∷ []) → Viable S (f.tokens ++ l ∷ [])
viable-behind p q S t b x a k clear f front l ls split here viable =
    let whole : front ++ l ∷ [] ≡ yield t ++ (f.tokens ++ l ∷ []) =
    ap (λ tokens. tokens ++ l ∷ []) (front-read p q t b x a k f front split) ∙ append_assoc (yield t) f.tokens (l ∷ []) in
    Read-viable p b t x k S clear (f.tokens ++ l ∷ []) ls (front-and f.tokens a.rest ls l x.rest f.split here) (rw whole at viable)

-- the same with the cause in a variable
Fails-next_at : (p : Part) (c : Cause) (b a : State) → Fails p b c a → c ≡ Expected → (S : Part) → Clear p (starts S)
    → (front : List Lexeme) (l : Lexeme) (ls : List Lexeme) → b.rest ≡ front ++ a.rest → a.rest ≡ l ∷ ls → Viable (Seq p S) (front ++ l ∷ []) → ⊥
Fails-next_at p c b a (reading.Fails.other kinds _ e) is S clear front l ls split here viable =
    let none : front ≡ [] = append_cancel_right front [] b.rest (sym split) in
    let out : next_is kinds (l ∷ ls) ≡ false = next-same kinds (l ∷ ls) b.rest false (sym here) e in
    let accepted : accepts kinds l.kind ≡ true = (Viable-one kinds S l [] (rw none at viable)).0 in
    cc
Fails-next_at p c b a (reading.Fails.deep kinds l _ _ e accepted deep) is S clear front _ ls split here viable = cc
Fails-next_at p c b a (reading.Fails.first q r _ _ _ h) is S clear front l ls split here viable =
    Fails-next_at q c b a h is (Seq r S) clear.0 front l ls split here (Viable-seq q r S (front ++ l ∷ []) viable)
Fails-next_at p c b a (reading.Fails.second q r t _ _ y _ k h) is S clear front l ls split here viable =
    let f = Fails-front r c y a h in
    Fails-next_at r c y a h is S clear.1 f.tokens l ls f.split here
    (viable-behind q r (Seq r S) t b y a k clear.0 f front l ls split here (Viable-seq q r S (front ++ l ∷ []) viable))
Fails-next_at p c b a (reading.Fails.this q r _ _ _ o h) is S clear front l ls split here viable =
    let next : next_is (starts q) (front ++ l ∷ [] ++ ls) ≡ true = next-same (starts q) (front ++ l ∷ [] ++ ls) b.rest true (sym (front-and front a.rest ls l b.rest split here)) o in
    Fails-next_at q c b a h is S clear.3 front l ls split here (Viable-this q r S (front ++ l ∷ []) ls clear next viable)
Fails-next_at p c b a (reading.Fails.that q r _ _ _ o h) is S clear front l ls split here viable =
    let next : next_is (starts q) (front ++ l ∷ [] ++ ls) ≡ false = next-same (starts q) (front ++ l ∷ [] ++ ls) b.rest false (sym (front-and front a.rest ls l b.rest split here)) o in
    Fails-next_at r c b a h is S clear.4 front l ls split here (Viable-that q r S (front ++ l ∷ []) ls clear next viable)
Fails-next_at p c b a (reading.Fails.item q _ _ _ o h) is S clear front l ls split here viable =
    let next : next_is (starts q) (front ++ l ∷ [] ++ ls) ≡ true = next-same (starts q) (front ++ l ∷ [] ++ ls) b.rest true (sym (front-and front a.rest ls l b.rest split here)) o in
    Fails-next_at q c b a h is (Seq (Many q) S) clear.2 front l ls split here (Viable-more q S (front ++ l ∷ []) ls clear next viable)
Fails-next_at p c b a (reading.Fails.later q t _ _ y _ o k h) is S clear front l ls split here viable =
    let next : next_is (starts q) (front ++ l ∷ [] ++ ls) ≡ true = next-same (starts q) (front ++ l ∷ [] ++ ls) b.rest true (sym (front-and front a.rest ls l b.rest split here)) o in
    let f = Fails-front (Many q) c y a h in
    Fails-next_at (Many q) c y a h is S clear f.tokens l ls f.split here
    (viable-behind q (Many q) (Seq (Many q) S) t b y a k clear.2 f front l ls split here (Viable-more q S (front ++ l ∷ []) ls clear next viable))
Fails-next_at p c b a (reading.Fails.by_rule r _ _ _ h) is S clear front l ls split here viable =
    Fails-next_at (rule r) c b a h is S (Clear-use r S clear) front l ls split here (Viable-use r S (front ++ l ∷ []) viable)

-- nor do they begin it with the token at which it fails
pub Fails-next : (p : Part) (b a : State) → Fails p b Expected a → (S : Part) → Clear p (starts S)
    → (front : List Lexeme) (l : Lexeme) (ls : List Lexeme) → b.rest ≡ front ++ a.rest → a.rest ≡ l ∷ ls → Viable (Seq p S) (front ++ l ∷ []) → ⊥
Fails-next p b a h S clear front l ls split here viable = Fails-next_at p Expected b a h refl S clear front l ls split here viable

-- a token that is one too many in a part is so in another part, where each beginning of the first is one of the second
Deep-around : (p q : Part) (b a : State) → ((ts : List Lexeme) → Viable p ts → Viable q ts) → Deep p b a → Deep q b a
Deep-around p q b a around d = record {
  front = d.front;
  token = d.token;
  behind = d.behind;
  here = d.here;
  split = d.split;
  viable = around (d.front ++ d.token ∷ []) d.viable;
  shallow = d.shallow;
  left = d.left;
  deep = d.deep;
}

-- a token that is one too many in the second part of a sequence is so in the sequence
Deep-behind : (p q : Part) (t : Tree) (b x a : State) → Read p b t x → Deep q x a → Deep (Seq p q) b a
Deep-behind p q t b x a h d =
    let leaves : Leaves b (yield t ++ d.front) a = Leaves-append b x a (yield t) d.front (Read-left p b t x h) (d.shallow, d.left) in
    record {
      front = yield t ++ d.front;
      token = d.token;
      behind = d.behind;
      here = d.here;
      split = split-join b.rest x.rest a.rest (yield t) d.front (Read-split p b t x h) d.split;
      viable = rw append_assoc (grammar.Viable.rest p q t (d.front ++ d.token ∷ []) (Read-fits p b t x h) d.viable);
      shallow = leaves.0;
      left = leaves.1;
      deep = d.deep;
    }

-- the same with the cause in a variable
Fails-deep_at : (p : Part) (c : Cause) (b a : State) → Fails p b c a → c ≡ TooDeep → Deep p b a
Fails-deep_at p c b a (reading.Fails.other kinds _ e) is = cc
Fails-deep_at p c b a (reading.Fails.deep kinds l ls _ e accepted deep) is = record {
  front = [];
  token = l;
  behind = ls;
  here = e;
  split = refl;
  viable = grammar.Viable.token kinds l accepted;
  shallow = tt;
  left = refl;
  deep = deep;
}
Fails-deep_at p c b a (reading.Fails.first q r _ _ _ h) is = Deep-around q p b a (grammar.Viable.first q r) (Fails-deep_at q c b a h is)
Fails-deep_at p c b a (reading.Fails.second q r t _ _ x _ k h) is = Deep-behind q r t b x a k (Fails-deep_at r c x a h is)
Fails-deep_at p c b a (reading.Fails.this q r _ _ _ o h) is = Deep-around q p b a (grammar.Viable.left q r) (Fails-deep_at q c b a h is)
Fails-deep_at p c b a (reading.Fails.that q r _ _ _ o h) is = Deep-around r p b a (grammar.Viable.right q r) (Fails-deep_at r c b a h is)
Fails-deep_at p c b a (reading.Fails.item q _ _ _ o h) is =
    Deep-around q p b a (λ ts viable. grammar.Viable.again q ts (grammar.Viable.first q (Many q) ts viable)) (Fails-deep_at q c b a h is)
Fails-deep_at p c b a (reading.Fails.later q t _ _ x _ o k h) is =
    Deep-around (Seq q (Many q)) p b a (grammar.Viable.again q) (Deep-behind q (Many q) t b x a k (Fails-deep_at (Many q) c x a h is))
Fails-deep_at p c b a (reading.Fails.by_rule r _ _ _ h) is = Deep-around (rule r) p b a (grammar.Viable.by_rule r) (Fails-deep_at (rule r) c b a h is)

-- a token that is one too many may stand there
pub Fails-deep : (p : Part) (b a : State) → Fails p b TooDeep a → Deep p b a
Fails-deep p b a h = Fails-deep_at p TooDeep b a h refl

-- where two lists are split in two places, the first place lies in front of the second one, or the other way round
append-split : (us vs xs ys : List Lexeme) → us ++ vs ≡ xs ++ ys
    → ((zs : List Lexeme) × (us ≡ xs ++ zs)) ⊎ ((zs : List Lexeme) × (xs ≡ us ++ zs) × (vs ≡ zs ++ ys))
append-split [] vs xs ys e = inr (xs, refl, e)
append-split (u ∷ us) vs [] ys e = inl (u ∷ us, refl)
append-split (u ∷ us) vs (x ∷ xs) ys e =
    let same : u ≡ x = cc in
    let later : us ++ vs ≡ xs ++ ys = cc in
    elim (append-split us vs xs ys later) [
      | inl (zs, is) ↦ inl (zs, cc)
      | inr (zs, is, more) ↦ inr (zs, cc, more)
    ]

-- each front of nothing, and of one token, is a beginning
front-nothing : (p : Part) (xs ys : List Lexeme) → [] ≡ xs ++ ys → Viable p xs
front-nothing p [] ys e = grammar.Viable.none p
front-nothing p (x ∷ xs) ys e = cc

front-token : (kinds : List TokenKind) (l : Lexeme) → accepts kinds l.kind ≡ true → (xs ys : List Lexeme) → l ∷ [] ≡ xs ++ ys → Viable (One kinds) xs
front-token kinds l accepted [] ys e = grammar.Viable.none (One kinds)
front-token kinds l accepted (x ∷ []) ys e =
    let same : l ≡ x = cc in
    rw same at (grammar.Viable.token kinds l accepted)
front-token kinds l accepted (x ∷ next ∷ xs) ys e =
    let later : [] ≡ next ∷ xs ++ ys = cc in
    cc

-- each front of what a sequence spells, or begins with, is a beginning of the sequence
front-sequence : (p q : Part) (t : Tree) (ts xs ys : List Lexeme) → Fits p t → yield t ++ ts ≡ xs ++ ys
    → ((xs ys : List Lexeme) → yield t ≡ xs ++ ys → Viable p xs) → ((xs ys : List Lexeme) → ts ≡ xs ++ ys → Viable q xs) → Viable (Seq p q) xs
front-sequence p q t ts xs ys fits e first rest =
    elim (append-split (yield t) ts xs ys e) [
      | inl (zs, is) ↦ grammar.Viable.first p q xs (first xs zs is)
      | inr (zs, is, more) ↦ rw is (grammar.Viable.rest p q t zs fits (rest zs ys more))
    ]

-- each front of what derives is a beginning
Fits-front : (p : Part) (t : Tree) → Fits p t → (xs ys : List Lexeme) → yield t ≡ xs ++ ys → Viable p xs
Fits-front (One kinds) (Leaf l) h xs ys e = front-token kinds l h xs ys e
Fits-front Empty Nothing h xs ys e = front-nothing Empty xs ys e
Fits-front (Seq p q) (Pair t u) h xs ys e = front-sequence p q t (yield u) xs ys h.0 e (Fits-front p t h.0) (Fits-front q u h.1)
Fits-front (Either p q) (This t) h xs ys e = grammar.Viable.left p q xs (Fits-front p t h xs ys e)
Fits-front (Either p q) (That t) h xs ys e = grammar.Viable.right p q xs (Fits-front q t h xs ys e)
Fits-front (Many p) Nothing h xs ys e = front-nothing (Many p) xs ys e
Fits-front (Many p) (More t u) h xs ys e =
    grammar.Viable.again p xs (front-sequence p (Many p) t (yield u) xs ys h.0 e (Fits-front p t h.0) (Fits-front (Many p) u h.1))
Fits-front (Use r) (Node t) h xs ys e = grammar.Viable.by_rule r xs (Fits-front (rule r) t h xs ys e)
Fits-front _ _ h xs ys e = absurd h

-- the same of a beginning, whose tokens stand in a variable
Viable-start : (p : Part) (ts : List Lexeme) → Viable p ts → (xs ys : List Lexeme) → ts ≡ xs ++ ys → Viable p xs
Viable-start p ts (grammar.Viable.none _) xs ys e = front-nothing p xs ys e
Viable-start p ts (grammar.Viable.token kinds l accepted) xs ys e = front-token kinds l accepted xs ys e
Viable-start p ts (grammar.Viable.first q r _ h) xs ys e = grammar.Viable.first q r xs (Viable-start q ts h xs ys e)
Viable-start p ts (grammar.Viable.rest q r t us fits h) xs ys e = front-sequence q r t us xs ys fits e (Fits-front q t fits) (Viable-start r us h)
Viable-start p ts (grammar.Viable.left q r _ h) xs ys e = grammar.Viable.left q r xs (Viable-start q ts h xs ys e)
Viable-start p ts (grammar.Viable.right q r _ h) xs ys e = grammar.Viable.right q r xs (Viable-start r ts h xs ys e)
Viable-start p ts (grammar.Viable.again q _ h) xs ys e = grammar.Viable.again q xs (Viable-start (Seq q (Many q)) ts h xs ys e)
Viable-start p ts (grammar.Viable.by_rule r _ h) xs ys e = grammar.Viable.by_rule r xs (Viable-start (rule r) ts h xs ys e)

-- each front of a beginning is one
pub Viable-front : (p : Part) (xs ys : List Lexeme) → Viable p (xs ++ ys) → Viable p xs
Viable-front p xs ys h = Viable-start p (xs ++ ys) h xs ys refl

-- what derives is a beginning
pub Fits-viable : (p : Part) (t : Tree) → Fits p t → Viable p (yield t)
Fits-viable p t h = Fits-front p t h (yield t) [] (sym (append-nil (yield t)))
