-- Each choice of the grammar is made by the next token: what can stand in front of it and behind it has no kind in common.
use Rattle.std.specs.Prelude.{◌≡◌, ◌&&◌, Bool, true, false, not, List, [], ◌∷◌, ◌++◌, if◌then◌else◌}
use Rattle.rs_grammar.specs.Kinds.{accepts}
use Rattle.rs_grammar.specs.Grammar.{Rule, Part, One, Empty, Seq, Either, Many, Use, rule}
use Rattle.rs_grammar.specs.Grammar.{statements, statement, create, create_table, create_predicate, create_rank_index, declare, fetch, close, explain, insert, rows, row, cells, cell, columns, column, select, set_operator, block, items, entries, entry, terms, term, args, arg, colref, expr, conj, neg, comp, sum, prod, sign, base, plain, absolute, extreme, brackets, case, when}
use Rattle.std.proofs.Common.{refl}
use Rattle.rs_grammar.specs.Reading.{starts_of, follow, nullable, starts}
use Rattle.rs_grammar.specs.declared.kind.TokenKind.{TokenKind}

-- no kind is in both lists
abbrev pub disjoint : List TokenKind → List TokenKind → Bool
disjoint [] ys = true
disjoint (x ∷ xs) ys = not (accepts ys x) && disjoint xs ys

-- each kind of the first list is in the second one
abbrev pub within : List TokenKind → List TokenKind → Bool
within [] ys = true
within (x ∷ xs) ys = accepts ys x && within xs ys

-- behind a part stands nothing, or a token of these kinds: then each choice in it is made by the next token
abbrev pub Clear : Part → List TokenKind → Type 0
Clear (One kinds) behind = Unit {0}
Clear Empty behind = Unit {0}
Clear (Seq p q) behind = Clear p (starts q ++ (if nullable q then behind else [])) × Clear q behind
Clear (Either p q) behind =
    (nullable p ≡ false) × (disjoint (starts p) (starts q) ≡ true) × (disjoint (starts p) (if nullable q then behind else []) ≡ true)
    × Clear p behind × Clear q behind
Clear (Many p) behind = (nullable p ≡ false) × (disjoint (starts p) behind ≡ true) × Clear p (starts p ++ behind)
Clear (Use r) behind = within behind (follow r) ≡ true

-- both of two tests pass
pub and-left : (a b : Bool) → (a && b) ≡ true → a ≡ true
and-left true b e = refl
and-left false b e = cc

pub and-right : (a b : Bool) → (a && b) ≡ true → b ≡ true
and-right true b e = e
and-right false b e = cc

-- whether a part is clear
abbrev is_clear : Part → List TokenKind → Bool
is_clear (One kinds) behind = true
is_clear Empty behind = true
is_clear (Seq p q) behind = is_clear p (starts q ++ (if nullable q then behind else [])) && is_clear q behind
is_clear (Either p q) behind =
    (not (nullable p) && disjoint (starts p) (starts q)) && (disjoint (starts p) (if nullable q then behind else []) && (is_clear p behind && is_clear q behind))
is_clear (Many p) behind = (not (nullable p) && disjoint (starts p) behind) && is_clear p (starts p ++ behind)
is_clear (Use r) behind = within behind (follow r)

not-true : (b : Bool) → not b ≡ true → b ≡ false
not-true true e = cc
not-true false e = refl

Clear-test : (p : Part) (behind : List TokenKind) → is_clear p behind ≡ true → Clear p behind
Clear-test (One kinds) behind e = tt
Clear-test Empty behind e = tt
Clear-test (Seq p q) behind e =
    let front = starts q ++ (if nullable q then behind else []) in
    (Clear-test p front (and-left (is_clear p front) (is_clear q behind) e), Clear-test q behind (and-right (is_clear p front) (is_clear q behind) e))
Clear-test (Either p q) behind e =
    let choice = not (nullable p) && disjoint (starts p) (starts q) in
    let ends = disjoint (starts p) (if nullable q then behind else []) in
    let parts = is_clear p behind && is_clear q behind in
    let one : choice ≡ true = and-left choice (ends && parts) e in
    let two : (ends && parts) ≡ true = and-right choice (ends && parts) e in
    let three : parts ≡ true = and-right ends parts two in (
      not-true (nullable p) (and-left (not (nullable p)) (disjoint (starts p) (starts q)) one),
      and-right (not (nullable p)) (disjoint (starts p) (starts q)) one,
      and-left ends parts two,
      Clear-test p behind (and-left (is_clear p behind) (is_clear q behind) three),
      Clear-test q behind (and-right (is_clear p behind) (is_clear q behind) three),
    )
Clear-test (Many p) behind e =
    let choice = not (nullable p) && disjoint (starts p) behind in
    let one : choice ≡ true = and-left choice (is_clear p (starts p ++ behind)) e in (
      not-true (nullable p) (and-left (not (nullable p)) (disjoint (starts p) behind) one),
      and-right (not (nullable p)) (disjoint (starts p) behind) one,
      Clear-test p (starts p ++ behind) (and-right choice (is_clear p (starts p ++ behind)) e),
    )
Clear-test (Use r) behind e = e

is_clear-rule : (r : Rule) → is_clear (rule r) (follow r) ≡ true
is_clear-rule statements = refl
is_clear-rule statement = refl
is_clear-rule create = refl
is_clear-rule create_table = refl
is_clear-rule create_predicate = refl
is_clear-rule create_rank_index = refl
is_clear-rule declare = refl
is_clear-rule fetch = refl
is_clear-rule close = refl
is_clear-rule explain = refl
is_clear-rule insert = refl
is_clear-rule rows = refl
is_clear-rule row = refl
is_clear-rule cells = refl
is_clear-rule cell = refl
is_clear-rule columns = refl
is_clear-rule column = refl
is_clear-rule select = refl
is_clear-rule set_operator = refl
is_clear-rule block = refl
is_clear-rule items = refl
is_clear-rule entries = refl
is_clear-rule entry = refl
is_clear-rule terms = refl
is_clear-rule term = refl
is_clear-rule args = refl
is_clear-rule arg = refl
is_clear-rule colref = refl
is_clear-rule expr = refl
is_clear-rule conj = refl
is_clear-rule neg = refl
is_clear-rule comp = refl
is_clear-rule sum = refl
is_clear-rule prod = refl
is_clear-rule sign = refl
is_clear-rule base = refl
is_clear-rule plain = refl
is_clear-rule absolute = refl
is_clear-rule extreme = refl
is_clear-rule brackets = refl
is_clear-rule case = refl
is_clear-rule when = refl

-- each rule is clear before all that can stand behind it
pub Clear-rule : (r : Rule) → Clear (rule r) (follow r)
Clear-rule r = Clear-test (rule r) (follow r) (is_clear-rule r)

-- a rule begins with the kinds of its list
pub starts-rule : (r : Rule) → within (starts (rule r)) (starts_of r) ≡ true
starts-rule statements = refl
starts-rule statement = refl
starts-rule create = refl
starts-rule create_table = refl
starts-rule create_predicate = refl
starts-rule create_rank_index = refl
starts-rule declare = refl
starts-rule fetch = refl
starts-rule close = refl
starts-rule explain = refl
starts-rule insert = refl
starts-rule rows = refl
starts-rule row = refl
starts-rule cells = refl
starts-rule cell = refl
starts-rule columns = refl
starts-rule column = refl
starts-rule select = refl
starts-rule set_operator = refl
starts-rule block = refl
starts-rule items = refl
starts-rule entries = refl
starts-rule entry = refl
starts-rule terms = refl
starts-rule term = refl
starts-rule args = refl
starts-rule arg = refl
starts-rule colref = refl
starts-rule expr = refl
starts-rule conj = refl
starts-rule neg = refl
starts-rule comp = refl
starts-rule sum = refl
starts-rule prod = refl
starts-rule sign = refl
starts-rule base = refl
starts-rule plain = refl
starts-rule absolute = refl
starts-rule extreme = refl
starts-rule brackets = refl
starts-rule case = refl
starts-rule when = refl

-- each rule spells a token
pub nullable-rule : (r : Rule) → nullable (rule r) ≡ false
nullable-rule statements = refl
nullable-rule statement = refl
nullable-rule create = refl
nullable-rule create_table = refl
nullable-rule create_predicate = refl
nullable-rule create_rank_index = refl
nullable-rule declare = refl
nullable-rule fetch = refl
nullable-rule close = refl
nullable-rule explain = refl
nullable-rule insert = refl
nullable-rule rows = refl
nullable-rule row = refl
nullable-rule cells = refl
nullable-rule cell = refl
nullable-rule columns = refl
nullable-rule column = refl
nullable-rule select = refl
nullable-rule set_operator = refl
nullable-rule block = refl
nullable-rule items = refl
nullable-rule entries = refl
nullable-rule entry = refl
nullable-rule terms = refl
nullable-rule term = refl
nullable-rule args = refl
nullable-rule arg = refl
nullable-rule colref = refl
nullable-rule expr = refl
nullable-rule conj = refl
nullable-rule neg = refl
nullable-rule comp = refl
nullable-rule sum = refl
nullable-rule prod = refl
nullable-rule sign = refl
nullable-rule base = refl
nullable-rule plain = refl
nullable-rule absolute = refl
nullable-rule extreme = refl
nullable-rule brackets = refl
nullable-rule case = refl
nullable-rule when = refl
