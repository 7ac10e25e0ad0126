-- What the reader did on the tokens of a script, and what that says of the places at which they are no script.
use Rattle.std.proofs.Common.{◌∙◌, ℕ, zero, suc, ◌≡◌, ◌+◌, ◌-◌, ◌<◌, ◌≤◌, ◌==◌, ◌⊎◌, inl, inr, Bool, true, false, ◌&&◌, List, [], ◌∷◌, ◌++◌, length, take, drop, refl, sym, ap, arith, if◌then◌else◌, append_assoc, length-append}
use Rattle.std.proofs.Math.Seq.{take-length, take-append_seam, take-append-add, drop-append_seam}
use Rattle.std.proofs.lemmas.List.{append_cancel_right, append-nil, take-append-le, drop_all}
use Rattle.std.proofs.lemmas.Bool.{eqb-true, cases_lt, cases_order}
use Rattle.rs_grammar.specs.Grammar.{Part, Empty, Tree, Pair, Nothing, yield, Fits, Viable, script}
use Rattle.rs_grammar.specs.Grammar as grammar
use Rattle.rs_grammar.specs.Reading.{State, starts, left_behind, is_too_deep, Read, Fails, Expected, TooDeep}
use Rattle.rs_grammar.specs.Places.{most_deep, most_statements, is_semicolon, is_counted, tally_from, tally, statements_ended, is_foreign, IsScript, IsUnexpected, IsTooDeep, IsTooMany, IsWithinStatements, Problem, Unexpected, Foreigner, TooMany, ProblemStands, order_of, IsRefused}
use Rattle.rs_grammar.specs.Places as places
use Rattle.rs_grammar.specs.declared.lexeme.Lexeme.{Lexeme}
use Rattle.rs_grammar.proofs.Predict.{Clear}
use Rattle.rs_grammar.proofs.Derivation.{left_after, IsShallow, Rest, Front, Deep, Read-fits, Read-split, Read-left, Read-only, Read-viable, Fails-front, Fails-none, Fails-next, Fails-deep, Viable-front, Fits-viable}

-- two problems of one order at one place are one
ProblemStands-one : (ls : List Lexeme) (at : ℕ) (p q : Problem) → ProblemStands ls p at → ProblemStands ls q at → order_of p ≡ order_of q → p ≡ q
ProblemStands-one ls at Unexpected Unexpected x y e = refl
ProblemStands-one ls at Unexpected Foreigner x y e = let no : is_foreign (drop at ls) ≡ false = x.1 in let yes : is_foreign (drop at ls) ≡ true = y.1 in cc
ProblemStands-one ls at Unexpected places.TooDeep x y e = absurd (omega (arith, e))
ProblemStands-one ls at Unexpected TooMany x y e = absurd (omega (arith, e))
ProblemStands-one ls at Foreigner Unexpected x y e = let no : is_foreign (drop at ls) ≡ false = y.1 in let yes : is_foreign (drop at ls) ≡ true = x.1 in cc
ProblemStands-one ls at Foreigner Foreigner x y e = refl
ProblemStands-one ls at Foreigner places.TooDeep x y e = absurd (omega (arith, e))
ProblemStands-one ls at Foreigner TooMany x y e = absurd (omega (arith, e))
ProblemStands-one ls at places.TooDeep Unexpected x y e = absurd (omega (arith, e))
ProblemStands-one ls at places.TooDeep Foreigner x y e = absurd (omega (arith, e))
ProblemStands-one ls at places.TooDeep places.TooDeep x y e = refl
ProblemStands-one ls at places.TooDeep TooMany x y e = absurd (omega (arith, e))
ProblemStands-one ls at TooMany Unexpected x y e = absurd (omega (arith, e))
ProblemStands-one ls at TooMany Foreigner x y e = absurd (omega (arith, e))
ProblemStands-one ls at TooMany places.TooDeep x y e = absurd (omega (arith, e))
ProblemStands-one ls at TooMany TooMany x y e = refl

-- tokens are refused with one problem at one place at most
pub IsRefused-one : (ls : List Lexeme) (p q : Problem) (i j : ℕ) → IsRefused ls p i → IsRefused ls q j → (p ≡ q) × (i ≡ j)
IsRefused-one ls p q i j x y = go (x.least q j y.stands) (y.least p i x.stands)
  where
    go : ((i < j) ⊎ ((i ≡ j) × (order_of p ≤ order_of q))) → ((j < i) ⊎ ((j ≡ i) × (order_of q ≤ order_of p))) → (p ≡ q) × (i ≡ j)
    go (inl h) (inl k) = absurd (omega arith)
    go (inl h) (inr k) = absurd (omega (arith, k.0))
    go (inr h) (inl k) = absurd (omega (arith, h.0))
    go (inr h) (inr k) =
        let same : i ≡ j = h.0 in
        (ProblemStands-one ls j p q (rw same at x.stands) y.stands (omega (arith, h.1, k.1)), same)

-- a token that isn't one too many leaves as many as the others take
left_behind-tally : (s c : Bool) (n left : ℕ) → left + n ≡ most_deep → (c && (left == 0)) ≡ false
    → (if s then most_deep else if c then left - 1 else left) + (if s then 0 else if c then n + 1 else n) ≡ most_deep
left_behind-tally true c n left sum shallow = refl
left_behind-tally false true n left sum shallow = go left sum shallow
  where
    go : (left : ℕ) → left + n ≡ most_deep → (left == 0) ≡ false → left - 1 + (n + 1) ≡ most_deep
    go zero sum e = cc
    go (suc left) sum e = omega arith
left_behind-tally false false n left sum shallow = sum

-- how many tokens that count were taken and how many are left make up the limit
left_after-tally : (left n : ℕ) (ls : List Lexeme) → left + n ≡ most_deep → IsShallow left ls → left_after left ls + tally_from n ls ≡ most_deep
left_after-tally left n [] sum shallow = sum
left_after-tally left n (l ∷ ls) sum shallow =
    left_after-tally (left_behind l.kind left) (if is_semicolon l then 0 else if is_counted l then n + 1 else n) ls
    (left_behind-tally (is_semicolon l) (is_counted l) n left sum shallow.0) shallow.1

pub IsShallow-tally : (ls : List Lexeme) → IsShallow most_deep ls → left_after most_deep ls + tally ls ≡ most_deep
IsShallow-tally ls shallow = left_after-tally most_deep 0 ls refl shallow

-- the parts of shallow tokens are shallow
IsShallow-append : (left : ℕ) (xs ys : List Lexeme) → IsShallow left (xs ++ ys) → IsShallow left xs × IsShallow (left_after left xs) ys
IsShallow-append left [] ys h = (tt, h)
IsShallow-append left (l ∷ xs) ys h =
    let both : IsShallow (left_behind l.kind left) xs × IsShallow (left_after (left_behind l.kind left) xs) ys = IsShallow-append (left_behind l.kind left) xs ys h.1 in
    ((h.0, both.0), both.1)

-- a token that is one too many is counted, and none is left
is_too_deep-parts : (c : Bool) (left : ℕ) → (c && (left == 0)) ≡ true → (c ≡ true) × (left ≡ 0)
is_too_deep-parts true left e = (refl, eqb-true left 0 e)
is_too_deep-parts false left e = cc

-- the token at which the limit is passed counts, and 256 that do stand in front of it
pub is_too_deep-tally : (front : List Lexeme) (token : Lexeme) → IsShallow most_deep front → is_too_deep token.kind (left_after most_deep front) ≡ true
    → (tally front ≡ most_deep) × (is_counted token ≡ true)
is_too_deep-tally front token shallow deep =
    let parts : (is_counted token ≡ true) × (left_after most_deep front ≡ 0) = is_too_deep-parts (is_counted token) (left_after most_deep front) deep in
    (omega (arith, parts.1, IsShallow-tally front shallow), parts.0)

-- tokens of which one counts behind 256 that do pass the limit
pub IsShallow-full : (front : List Lexeme) (token : Lexeme) (behind : List Lexeme) → IsShallow most_deep (front ++ token ∷ behind) → is_counted token ≡ true → tally front ≡ most_deep → ⊥
IsShallow-full front token behind shallow counts full =
    let parts : IsShallow most_deep front × IsShallow (left_after most_deep front) (token ∷ behind) = IsShallow-append most_deep front (token ∷ behind) shallow in
    let none : left_after most_deep front ≡ 0 = omega (arith, IsShallow-tally front parts.0) in
    let fits : (is_counted token && (left_after most_deep front == 0)) ≡ false = parts.1.0 in
    let no : (true && (0 == 0)) ≡ false = rw (counts, none) at fits in
    cc

-- the token at a place, and what stands in front of it and behind
record Token (ls : List Lexeme) (at : ℕ) : Type 0 where
  before : List Lexeme
  token : Lexeme
  behind : List Lexeme
  is : ls ≡ before ++ token ∷ behind
  place : length before ≡ at

Token-within : (ls : List Lexeme) (at : ℕ) → at < length ls → Token ls at
Token-within [] at h = absurd (omega arith)
Token-within (l ∷ ls) zero h = record { before = []; token = l; behind = ls; is = refl; place = refl }
Token-within (l ∷ ls) (suc at) h =
    let tail : Token ls at = Token-within ls at (omega arith) in
    record { before = l ∷ tail.before; token = tail.token; behind = tail.behind; is = ap (λ xs. l ∷ xs) tail.is; place = ap suc tail.place }

-- the tokens up to and with the one behind some
take-next : (before : List Lexeme) (token : Lexeme) (behind : List Lexeme) → take (length before + 1) (before ++ token ∷ behind) ≡ before ++ token ∷ []
take-next before token behind = take-append-add before (token ∷ behind) 1

-- the tokens in front of a place begin a script, and are within the limits
pub record Sound (ls front rest : List Lexeme) : Type 0 where
  pub split : ls ≡ front ++ rest
  pub viable : Viable script front
  pub shallow : IsShallow most_deep front
  pub few : IsWithinStatements front

-- what stands at a token of the front
record Within (ls front rest : List Lexeme) (at : ℕ) : Type 0 where
  before : List Lexeme
  token : Lexeme
  behind : List Lexeme
  is : front ≡ before ++ token ∷ behind
  upto : take at ls ≡ before
  next : take (at + 1) ls ≡ before ++ token ∷ []
  from : drop at ls ≡ token ∷ (behind ++ rest)
  same : take at front ≡ before

Within-front : (ls front rest : List Lexeme) (at : ℕ) → ls ≡ front ++ rest → at < length front → Within ls front rest at
Within-front ls front rest at split h = go (Token-within front at h)
  where
    go : Token front at → Within ls front rest at
    go t =
        let whole : ls ≡ t.before ++ t.token ∷ (t.behind ++ rest) = split ∙ ap (λ xs. xs ++ rest) t.is ∙ append_assoc t.before (t.token ∷ t.behind) rest in
        record {
          before = t.before;
          token = t.token;
          behind = t.behind;
          is = t.is;
          upto = rw (whole, ← t.place) (take-append_seam t.before (t.token ∷ (t.behind ++ rest)));
          next = rw (whole, ← t.place) (take-next t.before t.token (t.behind ++ rest));
          from = rw (whole, ← t.place) (drop-append_seam t.before (t.token ∷ (t.behind ++ rest)));
          same = rw (t.is, ← t.place) (take-append_seam t.before (t.token ∷ t.behind));
        }

-- no problem stands at a token of such a front
pub Sound-none : (ls front rest : List Lexeme) → Sound ls front rest → (problem : Problem) (at : ℕ) → at < length front → ProblemStands ls problem at → ⊥
Sound-none ls front rest s problem at h stands = go (Within-front ls front rest at s.split h) problem stands
  where
    short : length front ≤ length ls
    short = rw s.split (omega (arith, length-append front rest))

    unexpected : Within ls front rest at → IsUnexpected ls at → ⊥
    unexpected w x =
        let viable : Viable script (w.before ++ w.token ∷ [] ++ w.behind) = rw (append_assoc w.before (w.token ∷ []) w.behind, ← w.is) s.viable in
        x.here (omega (arith, short)) (rw w.next (Viable-front script (w.before ++ w.token ∷ []) w.behind viable))

    go : Within ls front rest at → (problem : Problem) → ProblemStands ls problem at → ⊥
    go w Unexpected x = unexpected w x.0
    go w Foreigner x = unexpected w x.0
    go w places.TooDeep x =
        let one : w.token ∷ (w.behind ++ rest) ≡ x.token ∷ x.behind = sym w.from ∙ x.here in
        let token : w.token ≡ x.token = cc in
        IsShallow-full w.before w.token w.behind (rw w.is at s.shallow) (rw token x.counts) (rw w.upto at x.full)
    go w TooMany x =
        let full : statements_ended (take at front) ≡ most_statements = rw (w.same, ← w.upto) x.full in
        omega (arith, s.few at h, full)

-- a problem behind such a front is the first one where no other at that place comes before it
pub Sound-refused : (ls front rest : List Lexeme) → Sound ls front rest → (problem : Problem) → ProblemStands ls problem (length front)
    → ((other : Problem) → ProblemStands ls other (length front) → order_of problem ≤ order_of other) → IsRefused ls problem (length front)
Sound-refused ls front rest s problem stands first = record { stands = stands; least = λ other place x. go other place x (cases_order (length front) place) }
  where
    go : (other : Problem) (place : ℕ) → ProblemStands ls other place → ((length front ≡ place) ⊎ ((length front < place) ⊎ (place < length front)))
        → (length front < place) ⊎ ((length front ≡ place) × (order_of problem ≤ order_of other))
    go other place x (inl e) = inr (e, first other (rw e x))
    go other place x (inr (inl lt)) = inl lt
    go other place x (inr (inr lt)) = absurd (Sound-none ls front rest s other place lt x)

-- what is told of a token that may not stand where it does
abbrev pub unexpected : List Lexeme → Problem
unexpected rest = if is_foreign rest then Foreigner else Unexpected

ProblemStands-unexpected : (ls : List Lexeme) (at : ℕ) → IsUnexpected ls at → ProblemStands ls (unexpected (drop at ls)) at
ProblemStands-unexpected ls at x = go (is_foreign (drop at ls)) refl
  where
    go : (foreign : Bool) → is_foreign (drop at ls) ≡ foreign → ProblemStands ls (if foreign then Foreigner else Unexpected) at
    go true e = (x, e)
    go false e = (x, e)

-- nothing else comes before it where too many statements don't stand there
unexpected-first : (ls : List Lexeme) (at : ℕ) (foreign : Bool) → (IsTooMany ls at → ⊥) → (other : Problem) → ProblemStands ls other at
    → order_of (if foreign then Foreigner else Unexpected) ≤ order_of other
unexpected-first ls at true few Unexpected x = omega arith
unexpected-first ls at true few Foreigner x = omega arith
unexpected-first ls at true few places.TooDeep x = omega arith
unexpected-first ls at true few TooMany x = absurd (few x)
unexpected-first ls at false few Unexpected x = omega arith
unexpected-first ls at false few Foreigner x = omega arith
unexpected-first ls at false few places.TooDeep x = omega arith
unexpected-first ls at false few TooMany x = absurd (few x)

-- a token that doesn't go on with a beginning
pub unexpected-next : (ls front : List Lexeme) (l : Lexeme) (rest : List Lexeme) → Sound ls front (l ∷ rest) → statements_ended front < most_statements
    → (Viable script (front ++ l ∷ []) → ⊥) → IsRefused ls (unexpected (l ∷ rest)) (length front)
unexpected-next ls front l rest s few stops =
    let from : drop (length front) ls ≡ l ∷ rest = rw s.split (drop-append_seam front (l ∷ rest)) in
    Sound-refused ls front (l ∷ rest) s (unexpected (l ∷ rest)) (rw from at (ProblemStands-unexpected ls (length front) is))
    (unexpected-first ls (length front) (is_foreign (l ∷ rest)) many)
  where
    upto : take (length front) ls ≡ front
    upto = rw s.split (take-append_seam front (l ∷ rest))

    next : take (length front + 1) ls ≡ front ++ l ∷ []
    next = rw s.split (take-next front l rest)

    more : length front < length ls
    more = rw s.split (omega (arith, length-append front (l ∷ rest)))

    is : IsUnexpected ls (length front)
    is = record { within = omega (arith, more); before = rw upto s.viable; here = λ _ h. stops (rw next at h); whole = λ e _. omega (arith, e, more) }

    many : IsTooMany ls (length front) → ⊥
    many x = let full : statements_ended front ≡ most_statements = rw upto at x.full in omega (arith, few, full)

-- tokens that begin a script and are none
pub unexpected-end : (ls : List Lexeme) → Sound ls ls [] → (IsScript ls → ⊥) → IsRefused ls Unexpected (length ls)
unexpected-end ls s other = Sound-refused ls ls [] s Unexpected (is, rw none refl) (unexpected-first ls (length ls) false (λ x. omega (arith, x.within)))
  where
    none : drop (length ls) ls ≡ []
    none = rw append-nil at (drop-append_seam ls [])

    is : IsUnexpected ls (length ls)
    is = record { within = omega arith; before = rw take-length s.viable; here = λ h _. omega (arith, h); whole = λ _ h. other h }

-- a token that is one too many
pub too_deep-next : (ls front : List Lexeme) (l : Lexeme) (rest : List Lexeme) → Sound ls front (l ∷ rest) → statements_ended front < most_statements
    → Viable script (front ++ l ∷ []) → is_too_deep l.kind (left_after most_deep front) ≡ true → IsRefused ls places.TooDeep (length front)
too_deep-next ls front l rest s few viable deep = Sound-refused ls front (l ∷ rest) s places.TooDeep is first
  where
    upto : take (length front) ls ≡ front
    upto = rw s.split (take-append_seam front (l ∷ rest))

    next : take (length front + 1) ls ≡ front ++ l ∷ []
    next = rw s.split (take-next front l rest)

    more : length front < length ls
    more = rw s.split (omega (arith, length-append front (l ∷ rest)))

    full : (tally front ≡ most_deep) × (is_counted l ≡ true)
    full = is_too_deep-tally front l s.shallow deep

    is : IsTooDeep ls (length front)
    is = record { token = l; behind = rest; here = rw s.split (drop-append_seam front (l ∷ rest)); counts = full.1; full = rw upto full.0; viable = rw next viable }

    first : (other : Problem) → ProblemStands ls other (length front) → order_of places.TooDeep ≤ order_of other
    first Unexpected x = absurd (x.0.here more (rw next viable))
    first Foreigner x = absurd (x.0.here more (rw next viable))
    first places.TooDeep x = omega arith
    first TooMany x = let many : statements_ended front ≡ most_statements = rw upto at x.full in absurd (omega (arith, few, many))

-- a token behind the last statement that may stand
pub too_many-next : (ls front : List Lexeme) (last l : Lexeme) (rest : List Lexeme) → Sound ls (front ++ last ∷ []) (l ∷ rest) → is_semicolon last ≡ true
    → statements_ended (front ++ last ∷ []) ≡ most_statements → IsRefused ls TooMany (length (front ++ last ∷ []))
too_many-next ls front last l rest s ends full = Sound-refused ls (front ++ last ∷ []) (l ∷ rest) s TooMany is (λ other x. omega arith)
  where
    upto : take (length (front ++ last ∷ [])) ls ≡ front ++ last ∷ []
    upto = rw s.split (take-append_seam (front ++ last ∷ []) (l ∷ rest))

    more : length (front ++ last ∷ []) < length ls
    more = rw s.split (omega (arith, length-append (front ++ last ∷ []) (l ∷ rest)))

    is : IsTooMany ls (length (front ++ last ∷ []))
    is = record { within = more; front = front; last = last; before = upto; ends = ends; full = rw upto full; viable = rw upto s.viable }

-- a reader stands in front of the tokens that it is given of a script; fewer than the most statements end in front of the last of them
pub record Begins (ls kept more : List Lexeme) (b : State) : Type 0 where
  pub split : ls ≡ kept ++ more
  pub few : IsWithinStatements kept
  pub rest : b.rest ≡ kept
  pub left : b.left ≡ most_deep

-- nothing begins with a token
Viable-empty : (p : Part) (ts : List Lexeme) → Viable p ts → p ≡ Empty → ts ≡ []
Viable-empty p ts (grammar.Viable.none _) e = refl
Viable-empty p ts (grammar.Viable.token kinds l h) e = cc
Viable-empty p ts (grammar.Viable.first q r _ h) e = cc
Viable-empty p ts (grammar.Viable.rest q r t us fits h) e = cc
Viable-empty p ts (grammar.Viable.left q r _ h) e = cc
Viable-empty p ts (grammar.Viable.right q r _ h) e = cc
Viable-empty p ts (grammar.Viable.again q _ h) e = cc
Viable-empty p ts (grammar.Viable.by_rule r _ h) e = cc

Empty-none : (l : Lexeme) → Viable Empty (l ∷ []) → ⊥
Empty-none l h = let e : l ∷ [] ≡ [] = Viable-empty Empty (l ∷ []) h refl in cc

-- a script is clear before nothing
script-clear : Clear script (starts Empty)
script-clear = (refl, refl, refl, refl, tt)

-- what is within the limits and begins a script is sound
Begins-sound : (ls kept more : List Lexeme) (b : State) → Begins ls kept more b → (front rest : List Lexeme) → b.rest ≡ front ++ rest → Viable script front → IsShallow b.left front
    → Sound ls front (rest ++ more)
Begins-sound ls kept more b s front rest split viable shallow = record {
  split = s.split ∙ ap (λ xs. xs ++ more) here ∙ append_assoc front rest more;
  viable = viable;
  shallow = rw s.left at shallow;
  few = λ i h. rw (here, take-append-le i front rest (omega (arith, h))) at (s.few i (long i h));
}
  where
    here : kept ≡ front ++ rest
    here = sym s.rest ∙ split

    long : (i : ℕ) → i < length front → i < length kept
    long i h = rw here (omega (arith, length-append front rest))

-- fewer than the most statements end in front of a token that the reader was given
Begins-few : (ls kept more : List Lexeme) (b : State) → Begins ls kept more b → (front : List Lexeme) (l : Lexeme) (rest : List Lexeme) → b.rest ≡ front ++ l ∷ rest → statements_ended front < most_statements
Begins-few ls kept more b s front l rest split = rw (here, take-append_seam front (l ∷ rest)) at (s.few (length front) long)
  where
    here : kept ≡ front ++ l ∷ rest
    here = sym s.rest ∙ split

    long : length front < length kept
    long = rw here (omega (arith, length-append front (l ∷ rest)))

-- the reader was given the tokens up to and with the `;` that ends the last statement that may stand, and a token stands behind it
pub record IsCut (kept more : List Lexeme) : Type 0 where
  pub front : List Lexeme
  pub last : Lexeme
  pub is : kept ≡ front ++ last ∷ []
  pub ends : is_semicolon last ≡ true
  pub full : statements_ended kept ≡ most_statements
  pub token : Lexeme
  pub behind : List Lexeme
  pub more_is : more ≡ token ∷ behind

-- where the reader has read the tokens that it was given, or failed behind them, and more tokens stand there, these are too many
Begins-too_many : (ls kept more : List Lexeme) (b : State) → Begins ls kept more b → IsCut kept more → Viable script kept → IsShallow b.left kept → IsRefused ls TooMany (length kept)
Begins-too_many ls kept more b s c viable shallow =
    rw c.is (too_many-next ls c.front c.last c.token c.behind (rw (c.is, c.more_is) at sound) c.ends (rw c.is at c.full))
  where
    sound : Sound ls kept more
    sound = Begins-sound ls kept more b s kept [] (s.rest ∙ sym (append-nil kept)) viable shallow

-- what a reader has in front of it at a failure, by a front that is given
Fails-sound : (ls kept more : List Lexeme) (b a : State) → Begins ls kept more b → (front : List Lexeme) → kept ≡ front ++ a.rest → Front script b a → Sound ls front (a.rest ++ more)
Fails-sound ls kept more b a s front is f = Begins-sound ls kept more b s front a.rest (s.rest ∙ is) (rw same at f.viable) (rw same at f.shallow)
  where
    same : f.tokens ≡ front
    same = append_cancel_right f.tokens front a.rest (sym f.split ∙ s.rest ∙ is)

-- the reader stopped at a token that may not stand there
pub Fails-unexpected : (ls kept more : List Lexeme) (b a : State) → Begins ls kept more b → Fails script b Expected a → (front : List Lexeme) → kept ≡ front ++ a.rest
    → (l : Lexeme) (behind : List Lexeme) → a.rest ≡ l ∷ behind → IsRefused ls (unexpected a.rest) (length front)
Fails-unexpected ls kept more b a s h front is l behind here =
    rw here (unexpected-next ls front l (behind ++ more) sound (Begins-few ls kept more b s front l behind split)
    (λ viable. Fails-next script b a h Empty script-clear front l behind (s.rest ∙ is) here (grammar.Viable.first script Empty (front ++ l ∷ []) viable)))
  where
    split : b.rest ≡ front ++ l ∷ behind
    split = s.rest ∙ is ∙ ap (λ xs. front ++ xs) here

    sound : Sound ls front (l ∷ (behind ++ more))
    sound = rw here at (Fails-sound ls kept more b a s front is (Fails-front script Expected b a h))

-- it read a script, behind which a token stands
pub Read-unexpected : (ls kept more : List Lexeme) (b : State) (t : Tree) (a : State) → Begins ls kept more b → Read script b t a
    → (l : Lexeme) (behind : List Lexeme) → a.rest ≡ l ∷ behind → IsRefused ls (unexpected a.rest) (length (yield t))
Read-unexpected ls kept more b t a s h l behind here =
    rw here (unexpected-next ls (yield t) l (behind ++ more) sound (Begins-few ls kept more b s (yield t) l behind split)
    (λ viable. Empty-none l (Read-viable script b t a h Empty script-clear (l ∷ []) behind here (grammar.Viable.first script Empty (yield t ++ l ∷ []) viable))))
  where
    split : b.rest ≡ yield t ++ l ∷ behind
    split = Read-split script b t a h ∙ ap (λ xs. yield t ++ xs) here

    sound : Sound ls (yield t) (l ∷ (behind ++ more))
    sound = Begins-sound ls kept more b s (yield t) (l ∷ behind) split (Fits-viable script t (Read-fits script b t a h)) (Read-left script b t a h).0

-- the tokens end where one is missing
pub Fails-end : (ls kept more : List Lexeme) (b a : State) → Begins ls kept more b → Fails script b Expected a → a.rest ≡ [] → more ≡ [] → IsRefused ls Unexpected (length ls)
Fails-end ls kept more b a s h here whole = unexpected-end ls sound other
  where
    given : kept ≡ ls
    given = sym (append-nil kept) ∙ ap (λ xs. kept ++ xs) (sym whole) ∙ sym s.split

    all : kept ≡ kept ++ a.rest
    all = rw here (sym (append-nil kept))

    sound : Sound ls ls []
    sound = rw (given, here, whole) at (Fails-sound ls kept more b a s kept all (Fails-front script Expected b a h))

    other : IsScript ls → ⊥
    other (x, fits, spells) = Fails-none script b a h Empty script-clear (Pair x Nothing) (fits, tt) (append-nil (yield x) ∙ spells ∙ sym given ∙ sym s.rest)

-- the reader stopped at a token that is one too many
pub Fails-too_deep : (ls kept more : List Lexeme) (b a : State) → Begins ls kept more b → Fails script b TooDeep a → (front : List Lexeme) → kept ≡ front ++ a.rest
    → IsRefused ls places.TooDeep (length front)
Fails-too_deep ls kept more b a s h front is = go (Fails-deep script b a h)
  where
    go : Deep script b a → IsRefused ls places.TooDeep (length front)
    go d = rw same at (too_deep-next ls d.front d.token (d.behind ++ more) sound (Begins-few ls kept more b s d.front d.token d.behind split) d.viable deep)
      where
        same : d.front ≡ front
        same = append_cancel_right d.front front a.rest (sym d.split ∙ s.rest ∙ is)

        split : b.rest ≡ d.front ++ d.token ∷ d.behind
        split = d.split ∙ ap (λ xs. d.front ++ xs) d.here

        sound : Sound ls d.front (d.token ∷ (d.behind ++ more))
        sound = Begins-sound ls kept more b s d.front (d.token ∷ d.behind) split (Viable-front script d.front (d.token ∷ []) d.viable) d.shallow

        deep : is_too_deep d.token.kind (left_after most_deep d.front) ≡ true
        deep = rw (← s.left, ← d.left) d.deep

-- the tokens that it was given end where one is missing, and another stands behind them
pub Fails-too_many : (ls kept more : List Lexeme) (b a : State) → Begins ls kept more b → IsCut kept more → Fails script b Expected a → a.rest ≡ [] → IsRefused ls TooMany (length kept)
Fails-too_many ls kept more b a s c h here = go (Fails-front script Expected b a h)
  where
    go : Front script b a → IsRefused ls TooMany (length kept)
    go f =
        let all : f.tokens ≡ kept = sym (append-nil f.tokens) ∙ ap (λ xs. f.tokens ++ xs) (sym here) ∙ sym f.split ∙ s.rest in
        Begins-too_many ls kept more b s c (rw all at f.viable) (rw all at f.shallow)

-- what was read is all that the reader was given
Read-all : (ls kept more : List Lexeme) (b : State) (t : Tree) (a : State) → Begins ls kept more b → Read script b t a → a.rest ≡ [] → yield t ≡ kept
Read-all ls kept more b t a s h here = sym (append-nil (yield t)) ∙ ap (λ xs. yield t ++ xs) (sym here) ∙ sym (Read-split script b t a h) ∙ s.rest

-- it read a script, and another token stands behind what it was given
pub Read-too_many : (ls kept more : List Lexeme) (b : State) (t : Tree) (a : State) → Begins ls kept more b → IsCut kept more → Read script b t a → a.rest ≡ [] → IsRefused ls TooMany (length kept)
Read-too_many ls kept more b t a s c h here =
    let all : yield t ≡ kept = Read-all ls kept more b t a s h here in
    Begins-too_many ls kept more b s c (rw all at (Fits-viable script t (Read-fits script b t a h))) (rw all at (Read-left script b t a h).0)

-- a script that was read to its end is one, of one tree
pub Read-whole : (ls kept more : List Lexeme) (b : State) (t : Tree) (a : State) → Begins ls kept more b → Read script b t a → a.rest ≡ [] → more ≡ []
    → Fits script t × (yield t ≡ ls) × ((x : Tree) → Fits script x → yield x ≡ ls → x ≡ t)
Read-whole ls kept more b t a s h here whole = (Read-fits script b t a h, all, only)
  where
    given : kept ≡ ls
    given = sym (append-nil kept) ∙ ap (λ xs. kept ++ xs) (sym whole) ∙ sym s.split

    all : yield t ≡ ls
    all = Read-all ls kept more b t a s h here ∙ given

    only : (x : Tree) → Fits script x → yield x ≡ ls → x ≡ t
    only x fits spells =
        let r : Rest Empty t (Pair x Nothing) a.rest = Read-only script b t a h Empty script-clear (Pair x Nothing) (fits, tt) (append-nil (yield x) ∙ spells ∙ sym given ∙ sym s.rest) in
        let same : Pair x Nothing ≡ Pair t r.tail = r.is in
        cc

-- it is within the limit of depth
pub Read-shallow : (ls kept more : List Lexeme) (b : State) (t : Tree) (a : State) → Begins ls kept more b → Read script b t a → a.rest ≡ [] → more ≡ [] → IsShallow most_deep ls
Read-shallow ls kept more b t a s h here whole =
    let w : Fits script t × (yield t ≡ ls) × ((x : Tree) → Fits script x → yield x ≡ ls → x ≡ t) = Read-whole ls kept more b t a s h here whole in
    rw (w.1, s.left) at (Read-left script b t a h).0

-- no problem stands anywhere
abbrev pub HasNoProblem : List Lexeme → Type 0
HasNoProblem ls = (problem : Problem) (at : ℕ) → ProblemStands ls problem at → ⊥

-- no problem stands in a script that is within the limits
pub script-none : (ls : List Lexeme) → IsScript ls → IsShallow most_deep ls → IsWithinStatements ls → HasNoProblem ls
script-none ls (t, fits, spells) shallow few problem at stands = go (cases_lt at (length ls))
  where
    sound : Sound ls ls []
    sound = record { split = sym (append-nil ls); viable = rw spells at (Fits-viable script t fits); shallow = shallow; few = few }

    behind : length ls ≤ at → (other : Problem) → ProblemStands ls other at → ⊥
    behind le Unexpected x = x.0.whole (omega (arith, le, x.0.within)) (t, fits, spells)
    behind le Foreigner x = x.0.whole (omega (arith, le, x.0.within)) (t, fits, spells)
    behind le places.TooDeep x = let none : [] ≡ x.token ∷ x.behind = sym (drop_all at ls le) ∙ x.here in cc
    behind le TooMany x = omega (arith, le, x.within)

    go : ((at < length ls) ⊎ (length ls ≤ at)) → ⊥
    go (inl lt) = Sound-none ls ls [] sound problem at lt stands
    go (inr le) = behind le problem stands

pub Read-none : (ls kept more : List Lexeme) (b : State) (t : Tree) (a : State) → Begins ls kept more b → Read script b t a → a.rest ≡ [] → more ≡ [] → HasNoProblem ls
Read-none ls kept more b t a s h here whole =
    let w : Fits script t × (yield t ≡ ls) × ((x : Tree) → Fits script x → yield x ≡ ls → x ≡ t) = Read-whole ls kept more b t a s h here whole in
    let given : kept ≡ ls = sym (append-nil kept) ∙ ap (λ xs. kept ++ xs) (sym whole) ∙ sym s.split in
    script-none ls (t, w.0, w.1) (Read-shallow ls kept more b t a s h here whole) (rw given at s.few)

-- a refusal
abbrev pub SomeRefusal : List Lexeme → Type 0
SomeRefusal ls = (problem : Problem) × (at : ℕ) × IsRefused ls problem at

-- a reader that read a script refuses where a token stands behind it
pub Read-refused : (ls kept more : List Lexeme) (b : State) (t : Tree) (a : State) → Begins ls kept more b → (more ≡ []) ⊎ IsCut kept more → Read script b t a
    → SomeRefusal ls ⊎ ((a.rest ≡ []) × (more ≡ []))
Read-refused ls kept more b t a s given h = go a.rest refl given
  where
    go : (rest : List Lexeme) → a.rest ≡ rest → (more ≡ []) ⊎ IsCut kept more → SomeRefusal ls ⊎ ((a.rest ≡ []) × (more ≡ []))
    go [] here (inl whole) = inr (here, whole)
    go [] here (inr cut) = inl (TooMany, length kept, Read-too_many ls kept more b t a s cut h here)
    go (l ∷ behind) here given = inl (unexpected a.rest, length (yield t), Read-unexpected ls kept more b t a s h l behind here)
