-- A chain of operators that group to the left is read operand by operand: what was read so far, and what the rest of the chain makes of it.
use Rattle.std.proofs.Common.{ℕ, ◌≡◌, ◌∙◌, ◌<◌, ◌≤◌, true, false, [], ◌∷◌, refl, sym, ap}
use Rattle.rs_grammar.specs.Grammar.{Part, One, Seq, Many, Use, ◌⨟◌, word, expr, conj, neg, sum, prod, sign, Tree, Leaf, Nothing, Pair, This, That, More, Node, start_of}
use Rattle.rs_grammar.specs.Reading.{State, Read, next_is, opens}
use Rattle.rs_grammar.specs.declared.kind.TokenKind.TheVariants as kinds
use Rattle.rs_grammar.specs.declared.lexeme.Lexeme.{Lexeme}
use Rattle.rs_lex.specs.declared.token.Span.{Span}
use Rattle.rs_syntax.specs.Cases.{whens_of, cases_in}
use Rattle.rs_syntax.specs.Expressions.{adding_of, multiplying_of, rel_of, extreme_of, column_in, expr_of, ors, conj_of, ands, neg_of, comp_of, sum_of, sums, prod_of, prods, sign_of, base_of, absolute_of, extreme_in, brackets_of, case_of, cases, condition_of, result_of}
use Rattle.rs_syntax.specs.Levels.{operators, rule_at, operand_rule, chain_of, operand_of, operator_of, joined}
use Rattle.rs_syntax.specs.Reads.{Found, Halts}
use Rattle.rs_syntax.specs.Syntax as syntax
use Rattle.rs_syntax.specs.Syntax.{Expression, Int, Text, Column, Neg, Arith, Abs, Case, Compare, Not}
use Rattle.rs_syntax.specs.Trees.{starts_at, ends_at, span, span_of, kind_at, leaf_name, leaf_span, qualified}
use Rattle.rs_syntax.specs.declared.node.Op.{Op}
use Rattle.rs_syntax.specs.declared.parser.ParserFault.{ParserFault}
use Rattle.rs_syntax.specs.declared.parser.operators.Level.{Level}
use Rattle.rs_syntax.specs.declared.parser.operators.Level.TheVariants.{Or, And, Sum, Product}
use Rattle.rs_syntax.specs.declared.parser.operators.Operator.{Operator}
use Rattle.rs_syntax.proofs.Spans.{read-starts, read-ends, counted-left, quiet-left}
use Rattle.rs_syntax.proofs.Steps.{read-both, read-stop, read-more, read-rule, found, halts-first, halts-then, halts-item, halts-later, halts-rule}

-- a chain that begins at b stands at x with this expression
pub record Chaining (p item : Part) (whole : Tree → Expression) (go : Expression → Tree → Expression) (b x : State) (left : Expression) : Type 0 where
  pub reads : (u : Tree) (a : State) → Read (Many item) x u a → Found (Seq p (Many item)) whole b a (go left u)
  pub halts : (fault : ParserFault) (a : State) → Halts (Many item) x fault a → Halts (Seq p (Many item)) b fault a

-- the first operand was read
pub Chaining-start : {p item : Part} {f whole : Tree → Expression} {go : Expression → Tree → Expression} {b x : State} {left : Expression} (h : Found p f b x left)
    → ((u : Tree) → whole (Pair h.tree u) ≡ go (f h.tree) u) → Chaining p item whole go b x left
Chaining-start {go = go} h e = record {
  reads = λ u a r. found (read-both h.read r) (e u ∙ ap (λ first. go first u) h.means);
  halts = λ fault a k. halts-then h.read k;
}

-- one more was read
pub Chaining-more : {p item : Part} {whole : Tree → Expression} {go : Expression → Tree → Expression} {b x y : State} {left next : Expression} {v : Tree}
    → Chaining p item whole go b x left → opens item x ≡ true → Read item x v y → ((u : Tree) → go left (More v u) ≡ go next u) → Chaining p item whole go b y next
Chaining-more {v = v} h o r e = record {
  reads = λ u a s. let whole = h.reads (More v u) a (read-more o r s) in found whole.read (whole.means ∙ e u);
  halts = λ fault a k. h.halts fault a (halts-later o r k);
}

-- no further one stands there
pub Chaining-end : {p item : Part} {whole : Tree → Expression} {go : Expression → Tree → Expression} {b x : State} {left : Expression}
    → Chaining p item whole go b x left → opens item x ≡ false → go left Nothing ≡ left → Found (Seq p (Many item)) whole b x left
Chaining-end {x = x} h o e = let whole = h.reads Nothing x (read-stop o) in found whole.read (whole.means ∙ e)

-- the next one isn't read
pub Chaining-halts : {p item : Part} {whole : Tree → Expression} {go : Expression → Tree → Expression} {b x a : State} {left : Expression} {fault : ParserFault}
    → Chaining p item whole go b x left → opens item x ≡ true → Halts item x fault a → Halts (Seq p (Many item)) b fault a
Chaining-halts {a = a} {fault = fault} h o k = h.halts fault a (halts-item o k)

-- what each rule's tree stands for, from the trees of its parts

pub expr_of-chain : (t m : Tree) → expr_of (Node (Pair t m)) ≡ ors (starts_at t) (conj_of t) m
unfolding expr_of
expr_of-chain t m = refl

pub ors-more : (from : ℕ) (left : Expression) (w r u : Tree) → ors from left (More (Pair w r) u) ≡ ors from (syntax.Or left (conj_of r) (span from (ends_at r))) u
unfolding ors
ors-more from left w r u = refl

pub ors-end : (from : ℕ) (left : Expression) → ors from left Nothing ≡ left
unfolding ors
ors-end from left = refl

pub conj_of-chain : (t m : Tree) → conj_of (Node (Pair t m)) ≡ ands (starts_at t) (neg_of t) m
unfolding conj_of
conj_of-chain t m = refl

pub ands-more : (from : ℕ) (left : Expression) (w r u : Tree) → ands from left (More (Pair w r) u) ≡ ands from (syntax.And left (neg_of r) (span from (ends_at r))) u
unfolding ands
ands-more from left w r u = refl

pub ands-end : (from : ℕ) (left : Expression) → ands from left Nothing ≡ left
unfolding ands
ands-end from left = refl

pub neg_of-this : (w t : Tree) → neg_of (Node (This (Pair w t))) ≡ Not (neg_of t) (span (starts_at w) (ends_at t))
unfolding neg_of
neg_of-this w t = refl

pub neg_of-that : (t : Tree) → neg_of (Node (That t)) ≡ comp_of t
unfolding neg_of
neg_of-that t = refl

pub comp_of-this : (left w right : Tree) → comp_of (Node (Pair left (This (Pair w right)))) ≡ Compare (rel_of w) (sum_of left) (sum_of right) (span (starts_at left) (ends_at right))
unfolding comp_of
comp_of-this left w right = refl

pub comp_of-that : (left t : Tree) → comp_of (Node (Pair left (That t))) ≡ sum_of left
unfolding comp_of
comp_of-that left t = refl

pub sum_of-chain : (t m : Tree) → sum_of (Node (Pair t m)) ≡ sums (starts_at t) (prod_of t) m
unfolding sum_of
sum_of-chain t m = refl

pub sums-more : (from : ℕ) (left : Expression) (w r u : Tree) → sums from left (More (Pair w r) u) ≡ sums from (Arith (adding_of w) left (prod_of r) (span from (ends_at r))) u
unfolding sums
sums-more from left w r u = refl

pub sums-end : (from : ℕ) (left : Expression) → sums from left Nothing ≡ left
unfolding sums
sums-end from left = refl

pub prod_of-chain : (t m : Tree) → prod_of (Node (Pair t m)) ≡ prods (starts_at t) (sign_of t) m
unfolding prod_of
prod_of-chain t m = refl

pub prods-more : (from : ℕ) (left : Expression) (w r u : Tree) → prods from left (More (Pair w r) u) ≡ prods from (Arith (multiplying_of w) left (sign_of r) (span from (ends_at r))) u
unfolding prods
prods-more from left w r u = refl

pub prods-end : (from : ℕ) (left : Expression) → prods from left Nothing ≡ left
unfolding prods
prods-end from left = refl

pub sign_of-this : (w t : Tree) → sign_of (Node (This (Pair w t))) ≡ Neg (sign_of t) (span (starts_at w) (ends_at t))
unfolding sign_of
sign_of-this w t = refl

pub sign_of-that : (t : Tree) → sign_of (Node (That t)) ≡ base_of t
unfolding sign_of
sign_of-that t = refl

pub base_of-number : (l : Lexeme) → base_of (Node (This (Leaf l))) ≡ Int l.number l.at
unfolding base_of
base_of-number l = refl

pub base_of-literal : (l : Lexeme) → base_of (Node (That (This (Leaf l)))) ≡ Text l.text l.at
unfolding base_of
base_of-literal l = refl

pub base_of-plain : (t : Tree) → base_of (Node (That (That (This t)))) ≡ Column (column_in t)
unfolding base_of
base_of-plain t = refl

pub base_of-absolute : (t : Tree) → base_of (Node (That (That (That (This t))))) ≡ absolute_of t
unfolding base_of
base_of-absolute t = refl

pub base_of-extreme : (t : Tree) → base_of (Node (That (That (That (That (This t)))))) ≡ extreme_in t
unfolding base_of
base_of-extreme t = refl

pub base_of-brackets : (t : Tree) → base_of (Node (That (That (That (That (That (This t))))))) ≡ brackets_of t
unfolding base_of
base_of-brackets t = refl

pub base_of-case : (t : Tree) → base_of (Node (That (That (That (That (That (That t))))))) ≡ case_of t
unfolding base_of
base_of-case t = refl

pub absolute_of-this : (w bracket t close : Tree) → absolute_of (Node (Pair w (This (Pair bracket (Pair t close))))) ≡ Abs (expr_of t) (span (starts_at w) (ends_at close))
unfolding absolute_of
absolute_of-this w bracket t close = refl

pub absolute_of-that : (first rest : Tree) → absolute_of (Node (Pair first (That rest))) ≡ Column (qualified (leaf_name first) rest)
unfolding absolute_of
absolute_of-that first rest = refl

pub extreme_in-this : (w bracket t comma u close : Tree) → extreme_in (Node (Pair w (This (Pair bracket (Pair t (Pair comma (Pair u close))))))) ≡ extreme_of (kind_at w) (expr_of t) (expr_of u) (span_of (Pair w close))
unfolding extreme_in
extreme_in-this w bracket t comma u close = refl

pub extreme_in-that : (first rest : Tree) → extreme_in (Node (Pair first (That rest))) ≡ Column (qualified (leaf_name first) rest)
unfolding extreme_in
extreme_in-that first rest = refl

pub brackets_of-node : (bracket t close : Tree) → brackets_of (Node (Pair bracket (Pair t close))) ≡ expr_of t
unfolding brackets_of
brackets_of-node bracket t close = refl

pub case_of-node : (w first others otherwise t end : Tree)
    → case_of (Node (Pair w (Pair first (Pair others (Pair otherwise (Pair t end)))))) ≡ Case (condition_of first) (result_of first) (cases (ends_at end) (expr_of t) others) (span (starts_at w) (ends_at end))
unfolding case_of
case_of-node w first others otherwise t end = refl

pub condition_of-node : (w t behind u : Tree) → condition_of (Node (Pair w (Pair t (Pair behind u)))) ≡ expr_of t
unfolding condition_of
condition_of-node w t behind u = refl

pub result_of-node : (w t behind u : Tree) → result_of (Node (Pair w (Pair t (Pair behind u)))) ≡ expr_of u
unfolding result_of
result_of-node w t behind u = refl

-- the further WHEN parts, as a list of them
pub cases-list : (to : ℕ) (otherwise : Expression) (u : Tree) → cases to otherwise u ≡ cases_in to (whens_of u) otherwise
unfolding cases
cases-list to otherwise (More t u) = ap (λ rest. Case (condition_of t) (result_of t) rest (span (starts_at t) to)) (cases-list to otherwise u)
cases-list to otherwise _ = refl

-- the four chains of the grammar, from where they start: the first operand was read, one more was, no further one stands there, or it isn't read

-- expr: conj { OR conj }
abbrev pub Ors : ℕ → State → State → Expression → Type 0
Ors from b x left = Chaining (Use conj) (word kinds.Or ⨟ Use conj) (λ t. expr_of (Node t)) (ors from) b x left

pub expr-start : (from : ℕ) {b x : State} {left : Expression} → from ≡ start_of b.rest → Found (Use conj) conj_of b x left → Ors from b x left
expr-start from e h = Chaining-start h (λ u. expr_of-chain h.tree u ∙ ap (λ n. ors n (conj_of h.tree) u) (read-starts h.read refl ∙ sym e))

pub expr-more : (from : ℕ) {b x y z : State} {left right next : Expression} {at place : Span} → Ors from b x left → opens (word kinds.Or ⨟ Use conj) x ≡ true
    → Found (word kinds.Or) leaf_span x y place → Found (Use conj) conj_of y z right → at ≡ span from z.last → next ≡ syntax.Or left right at → Ors from b z next
expr-more from {left = left} {right = right} {next = next} {at = at} h o k r e is =
    let second = r.means in
    let ends = read-ends r.read refl in
    Chaining-more h o (read-both k.read r.read) (λ u. ors-more from left k.tree r.tree u ∙ ap (λ whole. ors from whole u) cc)

pub expr-end : (from : ℕ) {b x : State} {left : Expression} → Ors from b x left → opens (word kinds.Or ⨟ Use conj) x ≡ false → Found (Use expr) expr_of b x left
expr-end from {left = left} h o = let whole = Chaining-end h o (ors-end from left) in found (read-rule whole.read) whole.means

pub expr-halts : (from : ℕ) {b x a : State} {left : Expression} {fault : ParserFault} → Ors from b x left → opens (word kinds.Or ⨟ Use conj) x ≡ true → Halts (word kinds.Or ⨟ Use conj) x fault a → Halts (Use expr) b fault a
expr-halts from h o k = halts-rule (Chaining-halts h o k)

-- conj: neg { AND neg }
abbrev pub Ands : ℕ → State → State → Expression → Type 0
Ands from b x left = Chaining (Use neg) (word kinds.And ⨟ Use neg) (λ t. conj_of (Node t)) (ands from) b x left

pub conj-start : (from : ℕ) {b x : State} {left : Expression} → from ≡ start_of b.rest → Found (Use neg) neg_of b x left → Ands from b x left
conj-start from e h = Chaining-start h (λ u. conj_of-chain h.tree u ∙ ap (λ n. ands n (neg_of h.tree) u) (read-starts h.read refl ∙ sym e))

pub conj-more : (from : ℕ) {b x y z : State} {left right next : Expression} {at place : Span} → Ands from b x left → opens (word kinds.And ⨟ Use neg) x ≡ true
    → Found (word kinds.And) leaf_span x y place → Found (Use neg) neg_of y z right → at ≡ span from z.last → next ≡ syntax.And left right at → Ands from b z next
conj-more from {left = left} {right = right} {next = next} {at = at} h o k r e is =
    let second = r.means in
    let ends = read-ends r.read refl in
    Chaining-more h o (read-both k.read r.read) (λ u. ands-more from left k.tree r.tree u ∙ ap (λ whole. ands from whole u) cc)

pub conj-end : (from : ℕ) {b x : State} {left : Expression} → Ands from b x left → opens (word kinds.And ⨟ Use neg) x ≡ false → Found (Use conj) conj_of b x left
conj-end from {left = left} h o = let whole = Chaining-end h o (ands-end from left) in found (read-rule whole.read) whole.means

pub conj-halts : (from : ℕ) {b x a : State} {left : Expression} {fault : ParserFault} → Ands from b x left → opens (word kinds.And ⨟ Use neg) x ≡ true → Halts (word kinds.And ⨟ Use neg) x fault a → Halts (Use conj) b fault a
conj-halts from h o k = halts-rule (Chaining-halts h o k)

-- sum: prod { ( "+" | "-" ) prod }
abbrev pub Sums : ℕ → State → State → Expression → Type 0
Sums from b x left = Chaining (Use prod) (One (kinds.Plus ∷ kinds.Minus ∷ []) ⨟ Use prod) (λ t. sum_of (Node t)) (sums from) b x left

pub sum-start : (from : ℕ) {b x : State} {left : Expression} → from ≡ start_of b.rest → Found (Use prod) prod_of b x left → Sums from b x left
sum-start from e h = Chaining-start h (λ u. sum_of-chain h.tree u ∙ ap (λ n. sums n (prod_of h.tree) u) (read-starts h.read refl ∙ sym e))

pub sum-more : (from : ℕ) {b x y z : State} {left right next : Expression} {op : Op} {at : Span} → Sums from b x left → opens (One (kinds.Plus ∷ kinds.Minus ∷ []) ⨟ Use prod) x ≡ true
    → Found (One (kinds.Plus ∷ kinds.Minus ∷ [])) adding_of x y op → Found (Use prod) prod_of y z right → at ≡ span from z.last → next ≡ Arith op left right at → Sums from b z next
sum-more from {left = left} {right = right} {next = next} {op = op} {at = at} h o k r e is =
    let first = k.means in
    let second = r.means in
    let ends = read-ends r.read refl in
    Chaining-more h o (read-both k.read r.read) (λ u. sums-more from left k.tree r.tree u ∙ ap (λ whole. sums from whole u) cc)

pub sum-end : (from : ℕ) {b x : State} {left : Expression} → Sums from b x left → opens (One (kinds.Plus ∷ kinds.Minus ∷ []) ⨟ Use prod) x ≡ false → Found (Use sum) sum_of b x left
sum-end from {left = left} h o = let whole = Chaining-end h o (sums-end from left) in found (read-rule whole.read) whole.means

pub sum-halts : (from : ℕ) {b x a : State} {left : Expression} {fault : ParserFault} → Sums from b x left → opens (One (kinds.Plus ∷ kinds.Minus ∷ []) ⨟ Use prod) x ≡ true → Halts (One (kinds.Plus ∷ kinds.Minus ∷ []) ⨟ Use prod) x fault a → Halts (Use sum) b fault a
sum-halts from h o k = halts-rule (Chaining-halts h o k)

-- prod: sign { ( "*" | "/" ) sign }
abbrev pub Prods : ℕ → State → State → Expression → Type 0
Prods from b x left = Chaining (Use sign) (One (kinds.Star ∷ kinds.Slash ∷ []) ⨟ Use sign) (λ t. prod_of (Node t)) (prods from) b x left

pub prod-start : (from : ℕ) {b x : State} {left : Expression} → from ≡ start_of b.rest → Found (Use sign) sign_of b x left → Prods from b x left
prod-start from e h = Chaining-start h (λ u. prod_of-chain h.tree u ∙ ap (λ n. prods n (sign_of h.tree) u) (read-starts h.read refl ∙ sym e))

pub prod-more : (from : ℕ) {b x y z : State} {left right next : Expression} {op : Op} {at : Span} → Prods from b x left → opens (One (kinds.Star ∷ kinds.Slash ∷ []) ⨟ Use sign) x ≡ true
    → Found (One (kinds.Star ∷ kinds.Slash ∷ [])) multiplying_of x y op → Found (Use sign) sign_of y z right → at ≡ span from z.last → next ≡ Arith op left right at → Prods from b z next
prod-more from {left = left} {right = right} {next = next} {op = op} {at = at} h o k r e is =
    let first = k.means in
    let second = r.means in
    let ends = read-ends r.read refl in
    Chaining-more h o (read-both k.read r.read) (λ u. prods-more from left k.tree r.tree u ∙ ap (λ whole. prods from whole u) cc)

pub prod-end : (from : ℕ) {b x : State} {left : Expression} → Prods from b x left → opens (One (kinds.Star ∷ kinds.Slash ∷ []) ⨟ Use sign) x ≡ false → Found (Use prod) prod_of b x left
prod-end from {left = left} h o = let whole = Chaining-end h o (prods-end from left) in found (read-rule whole.read) whole.means

pub prod-halts : (from : ℕ) {b x a : State} {left : Expression} {fault : ParserFault} → Prods from b x left → opens (One (kinds.Star ∷ kinds.Slash ∷ []) ⨟ Use sign) x ≡ true → Halts (One (kinds.Star ∷ kinds.Slash ∷ []) ⨟ Use sign) x fault a → Halts (Use prod) b fault a
prod-halts from h o k = halts-rule (Chaining-halts h o k)

-- the four as one, by their level
abbrev pub chained : Level → ℕ → Expression → Tree → Expression
chained Or from left u = ors from left u
chained And from left u = ands from left u
chained Sum from left u = sums from left u
chained Product from left u = prods from left u

pub record Chained (level : Level) (from : ℕ) (b x : State) (left : Expression) : Type 0 where
  pub chaining : Chaining (Use (operand_rule level)) (One (operators level) ⨟ Use (operand_rule level)) (λ t. chain_of level (Node t)) (chained level from) b x left

pub chain-start : (level : Level) (from : ℕ) {b x : State} {left : Expression} → from ≡ start_of b.rest → Found (Use (operand_rule level)) (operand_of level) b x left → Chained level from b x left
chain-start Or from e h = record { chaining = expr-start from e h }
chain-start And from e h = record { chaining = conj-start from e h }
chain-start Sum from e h = record { chaining = sum-start from e h }
chain-start Product from e h = record { chaining = prod-start from e h }

pub chain-more : (level : Level) (from : ℕ) {b x y z : State} {left right next : Expression} {op : Operator} {at : Span} → Chained level from b x left
    → next_is (operators level) x.rest ≡ true → Found (One (operators level)) (operator_of level) x y op → Found (Use (operand_rule level)) (operand_of level) y z right
    → at ≡ span from z.last → next ≡ joined op left right at → Chained level from b z next
chain-more Or from {left = left} {right = right} {at = at} h o k r e is = record { chaining = expr-more from h.chaining o (found k.read refl) r e (is ∙ sym (ap (λ p. joined p left right at) k.means)) }
chain-more And from {left = left} {right = right} {at = at} h o k r e is = record { chaining = conj-more from h.chaining o (found k.read refl) r e (is ∙ sym (ap (λ p. joined p left right at) k.means)) }
chain-more Sum from {left = left} {right = right} {at = at} h o k r e is = record { chaining = sum-more from h.chaining o (found k.read refl) r e (is ∙ sym (ap (λ p. joined p left right at) k.means)) }
chain-more Product from {left = left} {right = right} {at = at} h o k r e is = record { chaining = prod-more from h.chaining o (found k.read refl) r e (is ∙ sym (ap (λ p. joined p left right at) k.means)) }

pub chain-end : (level : Level) (from : ℕ) {b x : State} {left : Expression} → Chained level from b x left → next_is (operators level) x.rest ≡ false
    → Found (Use (rule_at level)) (chain_of level) b x left
chain-end Or from h o = expr-end from h.chaining o
chain-end And from h o = conj-end from h.chaining o
chain-end Sum from h o = sum-end from h.chaining o
chain-end Product from h o = prod-end from h.chaining o

pub chain-halts : (level : Level) (from : ℕ) {b x a : State} {left : Expression} {fault : ParserFault} → Chained level from b x left → next_is (operators level) x.rest ≡ true
    → Halts (One (operators level) ⨟ Use (operand_rule level)) x fault a → Halts (Use (rule_at level)) b fault a
chain-halts Or from h o k = expr-halts from h.chaining o k
chain-halts And from h o k = conj-halts from h.chaining o k
chain-halts Sum from h o k = sum-halts from h.chaining o k
chain-halts Product from h o k = prod-halts from h.chaining o k

-- the first operand isn't read
pub chain-halts-first : (level : Level) {b a : State} {fault : ParserFault} → Halts (Use (operand_rule level)) b fault a → Halts (Use (rule_at level)) b fault a
chain-halts-first Or k = halts-rule (halts-first k)
chain-halts-first And k = halts-rule (halts-first k)
chain-halts-first Sum k = halts-rule (halts-first k)
chain-halts-first Product k = halts-rule (halts-first k)

-- fewer tokens that count are left behind an operator, and no more behind an operand
pub operator-less : (level : Level) {b x : State} {op : Operator} → Found (One (operators level)) (operator_of level) b x op → x.left < b.left
operator-less Or h = counted-left h.read refl refl
operator-less And h = counted-left h.read refl refl
operator-less Sum h = counted-left h.read refl refl
operator-less Product h = counted-left h.read refl refl

pub operand-less : (level : Level) {b x : State} {left : Expression} → Found (Use (operand_rule level)) (operand_of level) b x left → x.left ≤ b.left
operand-less Or h = quiet-left h.read refl
operand-less And h = quiet-left h.read refl
operand-less Sum h = quiet-left h.read refl
operand-less Product h = quiet-left h.read refl
