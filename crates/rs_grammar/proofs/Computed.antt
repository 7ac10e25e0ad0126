-- A lexer and a reader that compute on literals. What they come to is what the definitions say.
use Rattle.std.proofs.Common.{ℕ, zero, suc, ◌+◌, ◌≡◌, ◌∙◌, Bool, true, false, List, [], ◌∷◌, drop, refl, ap, subst, Some, None}
use Rattle.std.specs.Prelude.{Option, option_map}
use Rattle.rs_lex.specs.Front.{front_of}
use Rattle.rs_lex.specs.Spelling.{Spells, token_at}
use Rattle.rs_lex.specs.Spelling as spelling
use Rattle.rs_lex.specs.declared.front.Front.{Front}
use Rattle.rs_lex.specs.declared.front.Front.TheVariants.{End, Gap, Found, Bad, Open, Wide}
use Rattle.rs_lex.specs.declared.token.Sort.{Sort}
use Rattle.rs_lex.specs.declared.token.Token.{Token}
use Rattle.rs_grammar.specs.Kinds.{accepts}
use Rattle.rs_grammar.specs.Grammar.{Rule, Part, One, Empty, Seq, Either, Many, Use, rule, Tree, Leaf, Nothing, Pair, This, That, More, Node}
use Rattle.rs_grammar.specs.Reading.{State, left_behind, is_too_deep, next_is, opens, Takes, Read, Cause, Expected, TooDeep, Fails}
use Rattle.rs_grammar.specs.Reading as reading
use Rattle.rs_grammar.specs.declared.kind.TokenKind.{TokenKind}
use Rattle.rs_grammar.specs.declared.lexeme.Lexeme.{Lexeme}

-- the tokens behind a front; `next` tells those behind the bytes that it has
abbrev behind_front : (ℕ → List ℕ → Option (List Token)) → ℕ → List ℕ → Front → Option (List Token)
behind_front next at bytes End = Some []
behind_front next at bytes (Gap n) = next (at + n) (drop n bytes)
behind_front next at bytes (Found sort n) = option_map (λ tokens. token_at at sort n ∷ tokens) (next (at + n) (drop n bytes))
behind_front next at bytes (Bad n) = None
behind_front next at bytes Open = None
behind_front next at bytes Wide = None

-- the tokens that bytes spell from a place on, where this many fronts are enough and none is refused
unfoldable pub spell : ℕ → ℕ → List ℕ → Option (List Token)
spell zero at bytes = None
spell (suc n) at bytes = behind_front (spell n) at bytes (front_of bytes)

abbrev MaySpell : ℕ → List ℕ → Option (List Token) → Type 0
MaySpell at bytes None = Unit {0}
MaySpell at bytes (Some tokens) = Spells at bytes tokens

passes-spells : (at n : ℕ) (bytes : List ℕ) (tokens : Option (List Token)) → front_of bytes ≡ Gap n → MaySpell (at + n) (drop n bytes) tokens → MaySpell at bytes tokens
passes-spells at n bytes None e h = tt
passes-spells at n bytes (Some tokens) e h = spelling.Spells.passes at n bytes tokens e h

takes-spells : (at n : ℕ) (sort : Sort) (bytes : List ℕ) (tokens : Option (List Token)) → front_of bytes ≡ Found sort n → MaySpell (at + n) (drop n bytes) tokens
    → MaySpell at bytes (option_map (λ ts. token_at at sort n ∷ ts) tokens)
takes-spells at n sort bytes None e h = tt
takes-spells at n sort bytes (Some tokens) e h = spelling.Spells.takes at n sort bytes tokens e h

front-spells : (next : ℕ → List ℕ → Option (List Token)) (at : ℕ) (bytes : List ℕ) (front : Front) → front_of bytes ≡ front
    → ((to : ℕ) (rest : List ℕ) → MaySpell to rest (next to rest)) → MaySpell at bytes (behind_front next at bytes front)
front-spells next at bytes End e h = spelling.Spells.nothing at bytes e
front-spells next at bytes (Gap n) e h = passes-spells at n bytes (next (at + n) (drop n bytes)) e (h (at + n) (drop n bytes))
front-spells next at bytes (Found sort n) e h = takes-spells at n sort bytes (next (at + n) (drop n bytes)) e (h (at + n) (drop n bytes))
front-spells next at bytes (Bad n) e h = tt
front-spells next at bytes Open e h = tt
front-spells next at bytes Wide e h = tt

spell-may : (n at : ℕ) (bytes : List ℕ) → MaySpell at bytes (spell n at bytes)
unfolding spell
spell-may zero at bytes = tt
spell-may (suc n) at bytes = front-spells (spell n) at bytes (front_of bytes) refl (spell-may n)

-- what the lexer comes to is spelled
pub spell-spells : (n at : ℕ) (bytes : List ℕ) (tokens : List Token) → spell n at bytes ≡ Some tokens → Spells at bytes tokens
spell-spells n at bytes tokens e = subst (MaySpell at bytes) e (spell-may n at bytes)

-- what a reader comes to: a tree and where it stands then, why it can't go on and where, or nothing, where the fuel is used up
pub data Outcome : Type 0 where
  Got : Tree → State → Outcome
  Stuck : Cause → State → Outcome
  NoFuel : Outcome

-- one of two, of which the other one isn't computed
abbrev chosen : Bool → (Unit {0} → Outcome) → (Unit {0} → Outcome) → Outcome
chosen true f g = f tt
chosen false f g = g tt

-- a greater tree
abbrev grown : (Tree → Tree) → Outcome → Outcome
grown f (Got t a) = Got (f t) a
grown f (Stuck c a) = Stuck c a
grown f NoFuel = NoFuel

-- what comes behind a tree
abbrev followed : Outcome → (Tree → State → Outcome) → Outcome
followed (Got t x) next = next t x
followed (Stuck c a) next = Stuck c a
followed NoFuel next = NoFuel

-- a reader behind the token that was in front of it
abbrev behind : Lexeme → List Lexeme → State → State
behind l ls b = record { rest = ls; left = left_behind l.kind b.left; last = l.at.end }

-- a token of one of these kinds
abbrev taken : List TokenKind → State → List Lexeme → Outcome
taken kinds b [] = Stuck Expected b
taken kinds b (l ∷ ls) =
    chosen (accepts kinds l.kind) (λ _. chosen (is_too_deep l.kind b.left) (λ _. Stuck TooDeep b) (λ _. Got (Leaf l) (behind l ls b))) (λ _. Stuck Expected b)

-- a part, read with so much fuel
unfoldable pub run : ℕ → Part → State → Outcome
run zero p b = NoFuel
run (suc n) (One kinds) b = taken kinds b b.rest
run (suc n) Empty b = Got Nothing b
run (suc n) (Seq p q) b = followed (run n p b) (λ t x. grown (Pair t) (run n q x))
run (suc n) (Either p q) b = chosen (opens p b) (λ _. grown This (run n p b)) (λ _. grown That (run n q b))
run (suc n) (Many p) b = chosen (opens p b) (λ _. followed (run n p b) (λ t x. grown (More t) (run n (Many p) x))) (λ _. Got Nothing b)
run (suc n) (Use r) b = grown Node (run n (rule r) b)

-- what an outcome says
abbrev pub Says : Part → State → Outcome → Type 0
Says p b (Got t a) = Read p b t a
Says p b (Stuck c a) = Fails p b c a
Says p b NoFuel = Unit {0}

chosen-holds : (e : Bool) (f g : Unit {0} → Outcome) (P : Outcome → Type 0) → (e ≡ true → P (f tt)) → (e ≡ false → P (g tt)) → P (chosen e f g)
chosen-holds true f g P h k = h refl
chosen-holds false f g P h k = k refl

taken-says : (kinds : List TokenKind) (b : State) (rest : List Lexeme) → b.rest ≡ rest → Says (One kinds) b (taken kinds b rest)
taken-says kinds b [] e = reading.Fails.other kinds b (ap (next_is kinds) e)
taken-says kinds b (l ∷ ls) e =
    chosen-holds (accepts kinds l.kind) _ _ (Says (One kinds) b)
    (λ accepted.
    chosen-holds (is_too_deep l.kind b.left) _ _ (Says (One kinds) b) (λ deep. reading.Fails.deep kinds l ls b e accepted deep)
    (λ shallow. reading.Read.token kinds l b (behind l ls b) (record { rest = e; left = refl; last = refl }) accepted shallow))
    (λ refused. reading.Fails.other kinds b (ap (next_is kinds) e ∙ refused))

pair-says : (p q : Part) (t : Tree) (b x : State) (o : Outcome) → Read p b t x → Says q x o → Says (Seq p q) b (grown (Pair t) o)
pair-says p q t b x (Got u a) h k = reading.Read.both p q t u b x a h k
pair-says p q t b x (Stuck c a) h k = reading.Fails.second p q t c b x a h k
pair-says p q t b x NoFuel h k = tt

seq-says : (p q : Part) (b : State) (o : Outcome) (next : State → Outcome) → Says p b o → ((x : State) → Says q x (next x))
    → Says (Seq p q) b (followed o (λ t x. grown (Pair t) (next x)))
seq-says p q b (Got t x) next h k = pair-says p q t b x (next x) h (k x)
seq-says p q b (Stuck c a) next h k = reading.Fails.first p q c b a h
seq-says p q b NoFuel next h k = tt

this-says : (p q : Part) (b : State) (o : Outcome) → opens p b ≡ true → Says p b o → Says (Either p q) b (grown This o)
this-says p q b (Got t a) e h = reading.Read.this p q t b a e h
this-says p q b (Stuck c a) e h = reading.Fails.this p q c b a e h
this-says p q b NoFuel e h = tt

that-says : (p q : Part) (b : State) (o : Outcome) → opens p b ≡ false → Says q b o → Says (Either p q) b (grown That o)
that-says p q b (Got t a) e h = reading.Read.that p q t b a e h
that-says p q b (Stuck c a) e h = reading.Fails.that p q c b a e h
that-says p q b NoFuel e h = tt

more-says : (p : Part) (t : Tree) (b x : State) (o : Outcome) → opens p b ≡ true → Read p b t x → Says (Many p) x o → Says (Many p) b (grown (More t) o)
more-says p t b x (Got u a) e h k = reading.Read.more p t u b x a e h k
more-says p t b x (Stuck c a) e h k = reading.Fails.later p t c b x a e h k
more-says p t b x NoFuel e h k = tt

many-says : (p : Part) (b : State) (o : Outcome) (next : State → Outcome) → opens p b ≡ true → Says p b o → ((x : State) → Says (Many p) x (next x))
    → Says (Many p) b (followed o (λ t x. grown (More t) (next x)))
many-says p b (Got t x) next e h k = more-says p t b x (next x) e h (k x)
many-says p b (Stuck c a) next e h k = reading.Fails.item p c b a e h
many-says p b NoFuel next e h k = tt

use-says : (r : Rule) (b : State) (o : Outcome) → Says (rule r) b o → Says (Use r) b (grown Node o)
use-says r b (Got t a) h = reading.Read.by_rule r t b a h
use-says r b (Stuck c a) h = reading.Fails.by_rule r c b a h
use-says r b NoFuel h = tt

-- what the reader comes to holds
pub run-says : (n : ℕ) (p : Part) (b : State) → Says p b (run n p b)
unfolding run
run-says zero p b = tt
run-says (suc n) (One kinds) b = taken-says kinds b b.rest refl
run-says (suc n) Empty b = reading.Read.empty b
run-says (suc n) (Seq p q) b = seq-says p q b (run n p b) (run n q) (run-says n p b) (run-says n q)
run-says (suc n) (Either p q) b =
    chosen-holds (opens p b) _ _ (Says (Either p q) b) (λ e. this-says p q b (run n p b) e (run-says n p b)) (λ e. that-says p q b (run n q b) e (run-says n q b))
run-says (suc n) (Many p) b =
    chosen-holds (opens p b) _ _ (Says (Many p) b) (λ e. many-says p b (run n p b) (run n (Many p)) e (run-says n p b) (run-says n (Many p))) (λ e. reading.Read.stop p b e)
run-says (suc n) (Use r) b = use-says r b (run n (rule r) b) (run-says n (rule r) b)
