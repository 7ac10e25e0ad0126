-- Wherever a reader stands, it reads a script, or it can't go on.
use Rattle.std.proofs.Common.{ℕ, zero, suc, ◌≡◌, ◌<◌, ◌≤◌, ◌⊎◌, inl, inr, Bool, true, false, ◌&&◌, List, [], ◌∷◌, ◌++◌, length, refl, arith, ap, if◌then◌else◌, length-append}
use Rattle.std.specs.Prelude.{nat_lt}
use Rattle.std.proofs.lemmas.Bool.{ltb-true}
use Rattle.rs_grammar.specs.Kinds.{accepts}
use Rattle.rs_grammar.specs.Grammar.{Rule, Part, One, Empty, Seq, Either, Many, Use, Tree, Leaf, Nothing, Pair, This, That, More, Node, yield, rule, script}
use Rattle.rs_grammar.specs.Grammar.{statements, statement, create, create_table, create_predicate, create_rank_index, declare, fetch, close, explain, insert, rows, row, cells, cell, columns, column, select, set_operator, block, items, entries, entry, terms, term, args, arg, colref, expr, conj, neg, comp, sum, prod, sign, base, plain, absolute, extreme, brackets, case, when}
use Rattle.rs_grammar.specs.Reading.{State, Read, Fails, Cause, Expected, TooDeep, follow, nullable, starts, opens, left_behind, is_too_deep}
use Rattle.rs_grammar.specs.Reading as reading
use Rattle.rs_grammar.specs.declared.kind.TokenKind.{TokenKind}
use Rattle.rs_grammar.specs.declared.lexeme.Lexeme.{Lexeme}
use Rattle.rs_grammar.proofs.Beginnings.{Fits-nullable}
use Rattle.rs_grammar.proofs.Derivation.{Read-fits, Read-split}
use Rattle.rs_grammar.proofs.Predict.{Clear, Clear-rule, and-left, and-right}

-- a reader reads a part, or it can't go on
pub data Reading (p : Part) (b : State) : Type 0 where
  reads : (t : Tree) (a : State) → Read p b t a → Reading p b
  fails : (c : Cause) (a : State) → Fails p b c a → Reading p b

-- a rule may begin with rules of lower levels alone, where no token stands in front of them
abbrev level : Rule → ℕ
level statements = 3
level statement = 2
level create = 0
level create_table = 0
level create_predicate = 0
level create_rank_index = 0
level declare = 0
level fetch = 0
level close = 0
level explain = 0
level insert = 0
level rows = 1
level row = 0
level cells = 1
level cell = 0
level columns = 1
level column = 0
level select = 1
level set_operator = 0
level block = 0
level items = 1
level entries = 1
level entry = 0
level terms = 1
level term = 0
level args = 2
level arg = 1
level colref = 0
level expr = 8
level conj = 7
level neg = 6
level comp = 5
level sum = 4
level prod = 3
level sign = 2
level base = 1
level plain = 0
level absolute = 0
level extreme = 0
level brackets = 0
level case = 0
level when = 0

level-most : (r : Rule) → level r < 9
level-most statements = omega arith
level-most statement = omega arith
level-most create = omega arith
level-most create_table = omega arith
level-most create_predicate = omega arith
level-most create_rank_index = omega arith
level-most declare = omega arith
level-most fetch = omega arith
level-most close = omega arith
level-most explain = omega arith
level-most insert = omega arith
level-most rows = omega arith
level-most row = omega arith
level-most cells = omega arith
level-most cell = omega arith
level-most columns = omega arith
level-most column = omega arith
level-most select = omega arith
level-most set_operator = omega arith
level-most block = omega arith
level-most items = omega arith
level-most entries = omega arith
level-most entry = omega arith
level-most terms = omega arith
level-most term = omega arith
level-most args = omega arith
level-most arg = omega arith
level-most colref = omega arith
level-most expr = omega arith
level-most conj = omega arith
level-most neg = omega arith
level-most comp = omega arith
level-most sum = omega arith
level-most prod = omega arith
level-most sign = omega arith
level-most base = omega arith
level-most plain = omega arith
level-most absolute = omega arith
level-most extreme = omega arith
level-most brackets = omega arith
level-most case = omega arith
level-most when = omega arith

-- whether the rules that a part may begin with are below a level
abbrev is_low : ℕ → Part → Bool
is_low bound (One kinds) = true
is_low bound Empty = true
is_low bound (Seq p q) = is_low bound p && (if nullable p then is_low bound q else true)
is_low bound (Either p q) = is_low bound p && is_low bound q
is_low bound (Many p) = is_low bound p
is_low bound (Use r) = nat_lt (level r) bound

is_low-rule : (r : Rule) → is_low (level r) (rule r) ≡ true
is_low-rule statements = refl
is_low-rule statement = refl
is_low-rule create = refl
is_low-rule create_table = refl
is_low-rule create_predicate = refl
is_low-rule create_rank_index = refl
is_low-rule declare = refl
is_low-rule fetch = refl
is_low-rule close = refl
is_low-rule explain = refl
is_low-rule insert = refl
is_low-rule rows = refl
is_low-rule row = refl
is_low-rule cells = refl
is_low-rule cell = refl
is_low-rule columns = refl
is_low-rule column = refl
is_low-rule select = refl
is_low-rule set_operator = refl
is_low-rule block = refl
is_low-rule items = refl
is_low-rule entries = refl
is_low-rule entry = refl
is_low-rule terms = refl
is_low-rule term = refl
is_low-rule args = refl
is_low-rule arg = refl
is_low-rule colref = refl
is_low-rule expr = refl
is_low-rule conj = refl
is_low-rule neg = refl
is_low-rule comp = refl
is_low-rule sum = refl
is_low-rule prod = refl
is_low-rule sign = refl
is_low-rule base = refl
is_low-rule plain = refl
is_low-rule absolute = refl
is_low-rule extreme = refl
is_low-rule brackets = refl
is_low-rule case = refl
is_low-rule when = refl

-- what is left behind a part is no longer than what stood in front of it, and shorter where the part spells a token
Read-within : (p : Part) (b : State) (t : Tree) (a : State) → Read p b t a → length a.rest ≤ length b.rest
Read-within p b t a r = omega (arith, ap length (Read-split p b t a r), length-append (yield t) a.rest)

Read-shorter : (p : Part) (b : State) (t : Tree) (a : State) → Read p b t a → nullable p ≡ false → length a.rest < length b.rest
Read-shorter p b t a r some = go (yield t) refl
  where
    go : (ts : List Lexeme) → yield t ≡ ts → length a.rest < length b.rest
    go [] is = let none : nullable p ≡ true = Fits-nullable p t (Read-fits p b t a r) is in cc
    go (l ∷ ls) is = omega (arith, ap length (Read-split p b t a r), length-append (yield t) a.rest, ap length is)

-- the rules in front of fewer tokens, and those below a level in front of at most as many
abbrev RulesBehind : ℕ → Type 0
RulesBehind size = (b : State) → length b.rest < size → (r : Rule) → Reading (Use r) b

abbrev RulesBelow : ℕ → ℕ → Type 0
RulesBelow size bound = (b : State) → length b.rest ≤ size → (r : Rule) → level r < bound → Reading (Use r) b

-- a part begins with rules below a level, or tokens were read in front of it
abbrev IsReady : ℕ → ℕ → Part → State → Type 0
IsReady size bound p b = (is_low bound p ≡ true) ⊎ (length b.rest < size)

-- one token
one : (kinds : List TokenKind) (b : State) → Reading (One kinds) b
one kinds b = go b.rest refl
  where
    accepted : (l : Lexeme) (ls : List Lexeme) → b.rest ≡ l ∷ ls → accepts kinds l.kind ≡ true → (deep : Bool) → is_too_deep l.kind b.left ≡ deep → Reading (One kinds) b
    accepted l ls is fits true deep = fails TooDeep b (reading.Fails.deep kinds l ls b is fits deep)
    accepted l ls is fits false shallow =
        let a : State = record { rest = ls; left = left_behind l.kind b.left; last = l.at.end } in
        reads (Leaf l) a (reading.Read.token kinds l b a (record { rest = is; left = refl; last = refl }) fits shallow)

    next : (l : Lexeme) (ls : List Lexeme) → b.rest ≡ l ∷ ls → (found : Bool) → accepts kinds l.kind ≡ found → Reading (One kinds) b
    next l ls is true fits = accepted l ls is fits (is_too_deep l.kind b.left) refl
    next l ls is false other = fails Expected b (reading.Fails.other kinds b (rw is other))

    go : (rest : List Lexeme) → b.rest ≡ rest → Reading (One kinds) b
    go [] is = fails Expected b (reading.Fails.other kinds b (rw is refl))
    go (l ∷ ls) is = next l ls is (accepts kinds l.kind) refl

-- one part and another behind it
behind : (p q : Part) (b : State) (t : Tree) (x : State) → Read p b t x → Reading q x → Reading (Seq p q) b
behind p q b t x r (reads u a s) = reads (Pair t u) a (reading.Read.both p q t u b x a r s)
behind p q b t x r (fails c a f) = fails c a (reading.Fails.second p q t c b x a r f)

both : (p q : Part) (b : State) → Reading p b → ((t : Tree) (x : State) → Read p b t x → Reading q x) → Reading (Seq p q) b
both p q b (reads t x r) next = behind p q b t x r (next t x r)
both p q b (fails c a f) next = fails c a (reading.Fails.first p q c b a f)

Ready-first : (size bound : ℕ) (p q : Part) (b : State) → IsReady size bound (Seq p q) b → IsReady size bound p b
Ready-first size bound p q b (inl low) = inl (and-left (is_low bound p) (if nullable p then is_low bound q else true) low)
Ready-first size bound p q b (inr less) = inr less

Ready-second : (size bound : ℕ) (p q : Part) (b x : State) → length x.rest ≤ length b.rest → (nullable p ≡ false → length x.rest < length b.rest) → length b.rest ≤ size
    → IsReady size bound (Seq p q) b → IsReady size bound q x
Ready-second size bound p q b x within shorter le (inr less) = inr (omega (arith, within, less))
Ready-second size bound p q b x within shorter le (inl low) = go (nullable p) refl
  where
    low_second : (if nullable p then is_low bound q else true) ≡ true
    low_second = and-right (is_low bound p) (if nullable p then is_low bound q else true) low

    go : (empty : Bool) → nullable p ≡ empty → IsReady size bound q x
    go true e = inl (rw e at low_second)
    go false e = inr (omega (arith, shorter e, le))

-- one of two parts
either : (p q : Part) (b : State) (next : Bool) → opens p b ≡ next → Reading p b → Reading q b → Reading (Either p q) b
either p q b true e (reads t a r) second = reads (This t) a (reading.Read.this p q t b a e r)
either p q b true e (fails c a f) second = fails c a (reading.Fails.this p q c b a e f)
either p q b false e first (reads t a r) = reads (That t) a (reading.Read.that p q t b a e r)
either p q b false e first (fails c a f) = fails c a (reading.Fails.that p q c b a e f)

Ready-either : (size bound : ℕ) (p q : Part) (b : State) → IsReady size bound (Either p q) b → IsReady size bound p b × IsReady size bound q b
Ready-either size bound p q b (inl low) = (inl (and-left (is_low bound p) (is_low bound q) low), inl (and-right (is_low bound p) (is_low bound q) low))
Ready-either size bound p q b (inr less) = (inr less, inr less)

-- any number of a part
item_and_more : (p : Part) (b : State) → opens p b ≡ true → (t : Tree) (x : State) → Read p b t x → Reading (Many p) x → Reading (Many p) b
item_and_more p b next t x r (reads u a s) = reads (More t u) a (reading.Read.more p t u b x a next r s)
item_and_more p b next t x r (fails c a f) = fails c a (reading.Fails.later p t c b x a next r f)

item : (p : Part) (b : State) (next : Bool) → opens p b ≡ next → Reading p b → ((t : Tree) (x : State) → Read p b t x → Reading (Many p) x) → Reading (Many p) b
item p b false none first more = reads Nothing b (reading.Read.stop p b none)
item p b true next (reads t x r) more = item_and_more p b next t x r (more t x r)
item p b true next (fails c a f) more = fails c a (reading.Fails.item p c b a next f)

many : (p : Part) → nullable p ≡ false → (size bound : ℕ) → ((b : State) → length b.rest ≤ size → IsReady size bound p b → Reading p b)
    → (most : ℕ) (b : State) → length b.rest ≤ most → length b.rest ≤ size → IsReady size bound p b → Reading (Many p) b
many p some size bound each zero b short le ready =
    item p b (opens p b) refl (each b le ready) (λ t x r. absurd (omega (arith, short, Read-shorter p b t x r some)))
many p some size bound each (suc most) b short le ready =
    item p b (opens p b) refl (each b le ready)
    (λ t x r.
    let less : length x.rest < length b.rest = Read-shorter p b t x r some in
    many p some size bound each most x (omega (arith, short, less)) (omega (arith, le, less)) (inr (omega (arith, le, less))))

-- a rule
by_rule : (r : Rule) (b : State) → Reading (rule r) b → Reading (Use r) b
by_rule r b (reads t a h) = reads (Node t) a (reading.Read.by_rule r t b a h)
by_rule r b (fails c a f) = fails c a (reading.Fails.by_rule r c b a f)

-- each part, where the rules do that it begins with, and all rules in front of fewer tokens
part : (size : ℕ) → RulesBehind size → (bound : ℕ) → RulesBelow size bound → (p : Part) (more : List TokenKind) → Clear p more → (b : State) → length b.rest ≤ size
    → IsReady size bound p b → Reading p b
part size fewer bound lower (One kinds) more clear b le ready = one kinds b
part size fewer bound lower Empty more clear b le ready = reads Nothing b (reading.Read.empty b)
part size fewer bound lower (Seq p q) more clear b le ready =
    both p q b (part size fewer bound lower p (starts q ++ (if nullable q then more else [])) clear.0 b le (Ready-first size bound p q b ready))
    (λ t x r.
    let within : length x.rest ≤ length b.rest = Read-within p b t x r in
    part size fewer bound lower q more clear.1 x (omega (arith, within, le)) (Ready-second size bound p q b x within (Read-shorter p b t x r) le ready))
part size fewer bound lower (Either p q) more clear b le ready =
    let each = Ready-either size bound p q b ready in
    either p q b (opens p b) refl (part size fewer bound lower p more clear.3 b le each.0) (part size fewer bound lower q more clear.4 b le each.1)
part size fewer bound lower (Many p) more clear b le ready =
    many p clear.0 size bound (λ x short start. part size fewer bound lower p (starts p ++ more) clear.2 x short start) (length b.rest) b (omega arith) le ready
part size fewer bound lower (Use r) more clear b le (inl low) = lower b le r (ltb-true (level r) bound low)
part size fewer bound lower (Use r) more clear b le (inr less) = fewer b less r

-- the rules below each level, and with them all rules
lower_rules : (size : ℕ) → RulesBehind size → (bound : ℕ) → RulesBelow size bound
lower_rules size fewer zero = λ b le r low. absurd (omega (arith, low))
lower_rules size fewer (suc bound) = λ b le r low.
    by_rule r b (part size fewer (level r) (λ x short s less. lower_rules size fewer bound x short s (omega (arith, less, low))) (rule r) (follow r) (Clear-rule r) b le (inl (is_low-rule r)))

all_rules : (size : ℕ) → RulesBehind size
all_rules zero = λ b less r. absurd (omega (arith, less))
all_rules (suc size) = λ b less r. lower_rules size (all_rules size) 9 b (omega (arith, less)) r (level-most r)

-- a reader reads a script, or it can't go on
pub each_state_reads : (b : State) → Reading script b
each_state_reads b =
    either (Use statements) Empty b (opens (Use statements) b) refl (all_rules (suc (length b.rest)) b (omega arith) statements) (reads Nothing b (reading.Read.empty b))
