-- The spans of the statements that a script parses to are in order, since its tokens are.
use Rattle.std.proofs.Common.{ℕ, ◌≡◌, ◌+◌, ◌<◌, ◌≤◌, Bool, true, false, List, [], ◌∷◌, length, Option, Some, None, refl, arith, if◌then◌else◌}
use Rattle.rs_lex.specs.declared.token.Span.{Span}
use Rattle.rs_lex.specs.declared.token.Token.{Token}
use Rattle.rs_lex.specs.Spelling.{TokensInOrder, Spells}
use Rattle.rs_lex.proofs.SpellingFacts.{TokensInOrder-spelled}
use Rattle.rs_grammar.specs.Kinds.{names, plain_names}
use Rattle.rs_grammar.specs.Grammar.{Part, One, Many, Use, ◌⨟◌, word, name, optional, Tree, Leaf, Nothing, Pair, This, That, More, Node, yield, start_of, end_after, Fits}
use Rattle.rs_grammar.specs.Grammar as grammar
use Rattle.rs_grammar.specs.declared.kind.TokenKind.{TokenKind}
use Rattle.rs_grammar.specs.declared.kind.TokenKind.TheVariants as kind
use Rattle.rs_syntax.specs.declared.name.Name.{Name}
use Rattle.rs_syntax.specs.declared.name.ColRef.{ColRef}
use Rattle.rs_syntax.specs.Syntax.{Expression, Int, Text, Column, Neg, Arith, Abs, Least, Greatest, Case, Compare, And, Or, Not, Command, Explain, ExplainAnalyze}
use Rattle.rs_syntax.specs.Trees.{starts_at, ends_at, span, leaf, part, last, is_there, is_of_kind, kind_at, leaf_name, qualified, colref_of, span_of}
use Rattle.rs_syntax.specs.Expressions.{expr_of, ors, conj_of, ands, neg_of, comp_of, sum_of, sums, prod_of, prods, sign_of, base_of, absolute_of, extreme_in, extreme_of, brackets_of, case_of, cases, condition_of, result_of, adding_of, multiplying_of}
use Rattle.rs_syntax.specs.Statements.{column_of, columns_of, arg_of, args_of, weight_of, term_of, terms_of, alias_of, entry_of, entries_of, select_items_of, filter_of, block_of, right_of, limit_of, select_of, create_table_of, create_predicate_of, create_rank_index_of, create_of, declare_of, fetch_of, close_of, explain_of, statement_of, statements_of, script_of}
use Rattle.rs_syntax.specs.Scripts.{Parses, lexemes_of}
use Rattle.rs_syntax.specs.Spans.{Lies, ◌before◌, Whole, Maybe, Each, NameIn, ColumnIn, ExpressionIn, ArgIn, NumberIn, TermIn, ItemsIn, EntryIn, BlockIn, RightIn, QueryIn, TypedIn, CommandIn, SpansInOrder}
use Rattle.rs_syntax.proofs.TreeFacts.{Ordered, TreeIn, Ordered-tree, TreeIn-le, TreeIn-wider, Spanned, TreeIn-spanned, Spanned-in, Lies-wider, leaf-in, TreeIn-skip, TreeIn-front, maybe-in, listed-in, second-in}
use Rattle.rs_syntax.proofs.RowFacts.{insert-in}

-- a column
ColumnIn-wider : (column : ColRef) (from from2 to to2 : ℕ) → from ≤ from2 → to2 ≤ to → ColumnIn column from2 to2 → ColumnIn column from to
ColumnIn-wider column from from2 to to2 le ge i = go column.alias column.column i
  where
    go : (alias : Option Name) (last : Name) → (Maybe NameIn alias before NameIn last) from2 to2 → (Maybe NameIn alias before NameIn last) from to
    go None last i2 = (i2.0, omega (arith, i2.1), Lies-wider i2.0 i2.0 to to2 last.at (omega arith) ge i2.2)
    go (Some alias) last i2 = (i2.0, Lies-wider from from2 i2.0 i2.0 alias.at le (omega arith) i2.1, Lies-wider i2.0 i2.0 to to2 last.at (omega arith) ge i2.2)

ColumnIn-lt : (column : ColRef) (from to : ℕ) → ColumnIn column from to → from < to
ColumnIn-lt column from to i = go column.alias column.column i
  where
    go : (alias : Option Name) (last : Name) → (Maybe NameIn alias before NameIn last) from to → from < to
    go None last i2 = omega (arith, i2.1, i2.2.0, i2.2.1, i2.2.2)
    go (Some alias) last i2 = omega (arith, i2.1.0, i2.1.1, i2.1.2, i2.2.0, i2.2.1, i2.2.2)

qualified-in : (t : Tree) (first : Name) (from middle to : ℕ) → Fits (optional (word kind.Dot ⨟ name)) t → NameIn first from middle → TreeIn t middle to
    → ColumnIn (qualified first t) from to
qualified-in (This (Pair dot last)) first from middle to h i o =
    let le : middle ≤ o.0 = TreeIn-le dot middle o.0 o.1 in
    (middle, i, Lies-wider middle o.0 to to (leaf last).at le (omega arith) (leaf-in names last o.0 to h.1 o.2))
qualified-in (That t) first from middle to h i o = (from, omega arith, Lies-wider from from to middle first.at (omega arith) (TreeIn-le t middle to o) i)
qualified-in _ first from middle to h i o = absurd h

-- a name and what may stand behind it
dotted-in : (kinds : List TokenKind) (t : Tree) (from to : ℕ) → Fits (One kinds ⨟ optional (word kind.Dot ⨟ name)) t → TreeIn t from to
    → ColumnIn (qualified (leaf_name (part 0 t)) (last 1 t)) from to
dotted-in kinds (Pair first rest) from to h o = qualified-in rest (leaf_name first) from o.0 to h.1 (leaf-in kinds first from o.0 h.0 o.1) o.2
dotted-in kinds _ from to h o = absurd h

-- an expression that lies between two places lies between wider ones, and isn't empty
ExpressionIn-wider : (e : Expression) (from from2 to to2 : ℕ) → from ≤ from2 → to2 ≤ to → ExpressionIn e from2 to2 → ExpressionIn e from to
ExpressionIn-wider (Int n at) from from2 to to2 le ge i = Lies-wider from from2 to to2 at le ge i
ExpressionIn-wider (Text text at) from from2 to to2 le ge i = Lies-wider from from2 to to2 at le ge i
ExpressionIn-wider (Column column) from from2 to to2 le ge i = ColumnIn-wider column from from2 to to2 le ge i
ExpressionIn-wider (Neg part at) from from2 to to2 le ge i = (Lies-wider from from2 to to2 at le ge i.0, i.1)
ExpressionIn-wider (Arith op left right at) from from2 to to2 le ge i = (Lies-wider from from2 to to2 at le ge i.0, i.1)
ExpressionIn-wider (Abs part at) from from2 to to2 le ge i = (Lies-wider from from2 to to2 at le ge i.0, i.1)
ExpressionIn-wider (Least left right at) from from2 to to2 le ge i = (Lies-wider from from2 to to2 at le ge i.0, i.1)
ExpressionIn-wider (Greatest left right at) from from2 to to2 le ge i = (Lies-wider from from2 to to2 at le ge i.0, i.1)
ExpressionIn-wider (Case condition result rest at) from from2 to to2 le ge i = (Lies-wider from from2 to to2 at le ge i.0, i.1)
ExpressionIn-wider (Compare rel left right at) from from2 to to2 le ge i = (Lies-wider from from2 to to2 at le ge i.0, i.1)
ExpressionIn-wider (And left right at) from from2 to to2 le ge i = (Lies-wider from from2 to to2 at le ge i.0, i.1)
ExpressionIn-wider (Or left right at) from from2 to to2 le ge i = (Lies-wider from from2 to to2 at le ge i.0, i.1)
ExpressionIn-wider (Not part at) from from2 to to2 le ge i = (Lies-wider from from2 to to2 at le ge i.0, i.1)

Lies-lt : (at : Span) (from to : ℕ) → Lies from to at → from < to
Lies-lt at from to i = omega (arith, i.0, i.1, i.2)

ExpressionIn-lt : (e : Expression) (from to : ℕ) → ExpressionIn e from to → from < to
ExpressionIn-lt (Int n at) from to i = Lies-lt at from to i
ExpressionIn-lt (Text text at) from to i = Lies-lt at from to i
ExpressionIn-lt (Column column) from to i = ColumnIn-lt column from to i
ExpressionIn-lt (Neg part at) from to i = Lies-lt at from to i.0
ExpressionIn-lt (Arith op left right at) from to i = Lies-lt at from to i.0
ExpressionIn-lt (Abs part at) from to i = Lies-lt at from to i.0
ExpressionIn-lt (Least left right at) from to i = Lies-lt at from to i.0
ExpressionIn-lt (Greatest left right at) from to i = Lies-lt at from to i.0
ExpressionIn-lt (Case condition result rest at) from to i = Lies-lt at from to i.0
ExpressionIn-lt (Compare rel left right at) from to i = Lies-lt at from to i.0
ExpressionIn-lt (And left right at) from to i = Lies-lt at from to i.0
ExpressionIn-lt (Or left right at) from to i = Lies-lt at from to i.0
ExpressionIn-lt (Not part at) from to i = Lies-lt at from to i.0

-- the word MIN or MAX gives one of two nodes with the same parts
extreme_of-in : (kinds others : List TokenKind) (w close : Tree) (first second : Expression) (from to : ℕ) → Fits (One kinds) w → Fits (One others) close
    → Whole (span (starts_at w) (ends_at close)) (ExpressionIn first before ExpressionIn second) from to
    → ExpressionIn (extreme_of (kind_at w) first second (span_of (Pair w close))) from to
unfolding starts_at ends_at
extreme_of-in kinds others (Leaf l) (Leaf c) first second from to h k i = go (is_of_kind kind.Min (Leaf l))
  where
    go : (b : Bool) → ExpressionIn (if b then Least first second (span l.at.start c.at.end) else Greatest first second (span l.at.start c.at.end)) from to
    go true = i
    go false = i
extreme_of-in kinds others (Leaf l) _ first second from to h k i = absurd k
extreme_of-in kinds others _ close first second from to h k i = absurd h

-- what a tree of an expression stands for lies where the tree lies
mutual
  unfolding expr_of

  expr-in : (t : Tree) → Fits (Use grammar.expr) t → (from to : ℕ) → TreeIn t from to → ExpressionIn (expr_of t) from to
  expr-in (Node (Pair first rest)) h from to o =
      let s : Spanned first from o.0 = TreeIn-spanned (Use grammar.conj) first from o.0 refl h.0 o.1 in
      let i : ExpressionIn (conj_of first) (starts_at first) o.0 = conj-in first h.0 (starts_at first) o.0 (Spanned-in first from o.0 (starts_at first) o.0 s (omega arith) (omega arith)) in
      ExpressionIn-wider (ors (starts_at first) (conj_of first) rest) from (starts_at first) to to (omega arith) (omega arith)
      (ors-in rest h.1 (starts_at first) o.0 to (conj_of first) i o.2)
  expr-in _ h from to o = absurd h

  ors-in : (t : Tree) → Fits (Many (word kind.Or ⨟ Use grammar.conj)) t → (start middle to : ℕ) (left : Expression) → ExpressionIn left start middle → TreeIn t middle to
      → ExpressionIn (ors start left t) start to
  ors-in (More (Pair sign right) rest) h start middle to left i o =
      let s : Spanned right o.1.0 o.0 = TreeIn-spanned (Use grammar.conj) right o.1.0 o.0 refl h.0.1 o.1.2 in
      let some : start < middle = ExpressionIn-lt left start middle i in
      let le : middle ≤ o.1.0 = TreeIn-le sign middle o.1.0 o.1.1 in
      let j : ExpressionIn (conj_of right) middle (ends_at right) = conj-in right h.0.1 middle (ends_at right) (Spanned-in right o.1.0 o.0 middle (ends_at right) s (omega arith) (omega arith)) in
      ors-in rest h.1 start (ends_at right) to (Or left (conj_of right) (span start (ends_at right)))
      ((omega arith, omega arith, omega arith), (middle, i, j))
      (TreeIn-wider rest (ends_at right) o.0 to to (omega arith) (omega arith) o.2)
  ors-in (More t rest) h start middle to left i o = absurd h.0
  ors-in Nothing h start middle to left i o = ExpressionIn-wider left start start to middle (omega arith) o i
  ors-in _ h start middle to left i o = absurd h

  conj-in : (t : Tree) → Fits (Use grammar.conj) t → (from to : ℕ) → TreeIn t from to → ExpressionIn (conj_of t) from to
  conj-in (Node (Pair first rest)) h from to o =
      let s : Spanned first from o.0 = TreeIn-spanned (Use grammar.neg) first from o.0 refl h.0 o.1 in
      let i : ExpressionIn (neg_of first) (starts_at first) o.0 = neg-in first h.0 (starts_at first) o.0 (Spanned-in first from o.0 (starts_at first) o.0 s (omega arith) (omega arith)) in
      ExpressionIn-wider (ands (starts_at first) (neg_of first) rest) from (starts_at first) to to (omega arith) (omega arith)
      (ands-in rest h.1 (starts_at first) o.0 to (neg_of first) i o.2)
  conj-in _ h from to o = absurd h

  ands-in : (t : Tree) → Fits (Many (word kind.And ⨟ Use grammar.neg)) t → (start middle to : ℕ) (left : Expression) → ExpressionIn left start middle → TreeIn t middle to
      → ExpressionIn (ands start left t) start to
  ands-in (More (Pair sign right) rest) h start middle to left i o =
      let s : Spanned right o.1.0 o.0 = TreeIn-spanned (Use grammar.neg) right o.1.0 o.0 refl h.0.1 o.1.2 in
      let some : start < middle = ExpressionIn-lt left start middle i in
      let le : middle ≤ o.1.0 = TreeIn-le sign middle o.1.0 o.1.1 in
      let j : ExpressionIn (neg_of right) middle (ends_at right) = neg-in right h.0.1 middle (ends_at right) (Spanned-in right o.1.0 o.0 middle (ends_at right) s (omega arith) (omega arith)) in
      ands-in rest h.1 start (ends_at right) to (And left (neg_of right) (span start (ends_at right)))
      ((omega arith, omega arith, omega arith), (middle, i, j))
      (TreeIn-wider rest (ends_at right) o.0 to to (omega arith) (omega arith) o.2)
  ands-in (More t rest) h start middle to left i o = absurd h.0
  ands-in Nothing h start middle to left i o = ExpressionIn-wider left start start to middle (omega arith) o i
  ands-in _ h start middle to left i o = absurd h

  neg-in : (t : Tree) → Fits (Use grammar.neg) t → (from to : ℕ) → TreeIn t from to → ExpressionIn (neg_of t) from to
  neg-in (Node (This (Pair w t))) h from to o =
      let v : Spanned w from o.0 = TreeIn-spanned (word kind.Not) w from o.0 refl h.0 o.1 in
      let s : Spanned t o.0 to = TreeIn-spanned (Use grammar.neg) t o.0 to refl h.1 o.2 in
      ((omega arith, omega arith, omega arith), neg-in t h.1 (starts_at w) (ends_at t) (Spanned-in t o.0 to (starts_at w) (ends_at t) s (omega arith) (omega arith)))
  neg-in (Node (That t)) h from to o = comp-in t h from to o
  neg-in _ h from to o = absurd h

  comp-in : (t : Tree) → Fits (Use grammar.comp) t → (from to : ℕ) → TreeIn t from to → ExpressionIn (comp_of t) from to
  comp-in (Node (Pair left (This (Pair w right)))) h from to o =
      let v : Spanned left from o.0 = TreeIn-spanned (Use grammar.sum) left from o.0 refl h.0 o.1 in
      let le : o.0 ≤ o.2.0 = TreeIn-le w o.0 o.2.0 o.2.1 in
      let s : Spanned right o.2.0 to = TreeIn-spanned (Use grammar.sum) right o.2.0 to refl h.1.1 o.2.2 in (
        (omega arith, omega arith, omega arith),
        (
          o.0,
          sum-in left h.0 (starts_at left) o.0 (Spanned-in left from o.0 (starts_at left) o.0 v (omega arith) (omega arith)),
          sum-in right h.1.1 o.0 (ends_at right) (Spanned-in right o.2.0 to o.0 (ends_at right) s (omega arith) (omega arith)),
        ),
      )
  comp-in (Node (Pair left (That t))) h from to o =
      let le : o.0 ≤ to = TreeIn-le t o.0 to o.2 in
      sum-in left h.0 from to (TreeIn-wider left from from to o.0 (omega arith) (omega arith) o.1)
  comp-in (Node (Pair left t)) h from to o = absurd h.1
  comp-in _ h from to o = absurd h

  sum-in : (t : Tree) → Fits (Use grammar.sum) t → (from to : ℕ) → TreeIn t from to → ExpressionIn (sum_of t) from to
  sum-in (Node (Pair first rest)) h from to o =
      let s : Spanned first from o.0 = TreeIn-spanned (Use grammar.prod) first from o.0 refl h.0 o.1 in
      let i : ExpressionIn (prod_of first) (starts_at first) o.0 = prod-in first h.0 (starts_at first) o.0 (Spanned-in first from o.0 (starts_at first) o.0 s (omega arith) (omega arith)) in
      ExpressionIn-wider (sums (starts_at first) (prod_of first) rest) from (starts_at first) to to (omega arith) (omega arith)
      (sums-in rest h.1 (starts_at first) o.0 to (prod_of first) i o.2)
  sum-in _ h from to o = absurd h

  sums-in : (t : Tree) → Fits (Many (One (kind.Plus ∷ kind.Minus ∷ []) ⨟ Use grammar.prod)) t → (start middle to : ℕ) (left : Expression) → ExpressionIn left start middle → TreeIn t middle to
      → ExpressionIn (sums start left t) start to
  sums-in (More (Pair sign right) rest) h start middle to left i o =
      let s : Spanned right o.1.0 o.0 = TreeIn-spanned (Use grammar.prod) right o.1.0 o.0 refl h.0.1 o.1.2 in
      let some : start < middle = ExpressionIn-lt left start middle i in
      let le : middle ≤ o.1.0 = TreeIn-le sign middle o.1.0 o.1.1 in
      let j : ExpressionIn (prod_of right) middle (ends_at right) = prod-in right h.0.1 middle (ends_at right) (Spanned-in right o.1.0 o.0 middle (ends_at right) s (omega arith) (omega arith)) in
      sums-in rest h.1 start (ends_at right) to (Arith (adding_of sign) left (prod_of right) (span start (ends_at right)))
      ((omega arith, omega arith, omega arith), (middle, i, j))
      (TreeIn-wider rest (ends_at right) o.0 to to (omega arith) (omega arith) o.2)
  sums-in (More t rest) h start middle to left i o = absurd h.0
  sums-in Nothing h start middle to left i o = ExpressionIn-wider left start start to middle (omega arith) o i
  sums-in _ h start middle to left i o = absurd h

  prod-in : (t : Tree) → Fits (Use grammar.prod) t → (from to : ℕ) → TreeIn t from to → ExpressionIn (prod_of t) from to
  prod-in (Node (Pair first rest)) h from to o =
      let s : Spanned first from o.0 = TreeIn-spanned (Use grammar.sign) first from o.0 refl h.0 o.1 in
      let i : ExpressionIn (sign_of first) (starts_at first) o.0 = sign-in first h.0 (starts_at first) o.0 (Spanned-in first from o.0 (starts_at first) o.0 s (omega arith) (omega arith)) in
      ExpressionIn-wider (prods (starts_at first) (sign_of first) rest) from (starts_at first) to to (omega arith) (omega arith)
      (prods-in rest h.1 (starts_at first) o.0 to (sign_of first) i o.2)
  prod-in _ h from to o = absurd h

  prods-in : (t : Tree) → Fits (Many (One (kind.Star ∷ kind.Slash ∷ []) ⨟ Use grammar.sign)) t → (start middle to : ℕ) (left : Expression) → ExpressionIn left start middle → TreeIn t middle to
      → ExpressionIn (prods start left t) start to
  prods-in (More (Pair sign right) rest) h start middle to left i o =
      let s : Spanned right o.1.0 o.0 = TreeIn-spanned (Use grammar.sign) right o.1.0 o.0 refl h.0.1 o.1.2 in
      let some : start < middle = ExpressionIn-lt left start middle i in
      let le : middle ≤ o.1.0 = TreeIn-le sign middle o.1.0 o.1.1 in
      let j : ExpressionIn (sign_of right) middle (ends_at right) = sign-in right h.0.1 middle (ends_at right) (Spanned-in right o.1.0 o.0 middle (ends_at right) s (omega arith) (omega arith)) in
      prods-in rest h.1 start (ends_at right) to (Arith (multiplying_of sign) left (sign_of right) (span start (ends_at right)))
      ((omega arith, omega arith, omega arith), (middle, i, j))
      (TreeIn-wider rest (ends_at right) o.0 to to (omega arith) (omega arith) o.2)
  prods-in (More t rest) h start middle to left i o = absurd h.0
  prods-in Nothing h start middle to left i o = ExpressionIn-wider left start start to middle (omega arith) o i
  prods-in _ h start middle to left i o = absurd h

  sign-in : (t : Tree) → Fits (Use grammar.sign) t → (from to : ℕ) → TreeIn t from to → ExpressionIn (sign_of t) from to
  sign-in (Node (This (Pair w t))) h from to o =
      let v : Spanned w from o.0 = TreeIn-spanned (word kind.Minus) w from o.0 refl h.0 o.1 in
      let s : Spanned t o.0 to = TreeIn-spanned (Use grammar.sign) t o.0 to refl h.1 o.2 in
      ((omega arith, omega arith, omega arith), sign-in t h.1 (starts_at w) (ends_at t) (Spanned-in t o.0 to (starts_at w) (ends_at t) s (omega arith) (omega arith)))
  sign-in (Node (That t)) h from to o = base-in t h from to o
  sign-in _ h from to o = absurd h

  base-in : (t : Tree) → Fits (Use grammar.base) t → (from to : ℕ) → TreeIn t from to → ExpressionIn (base_of t) from to
  base-in (Node (This (Leaf l))) h from to o = o
  base-in (Node (That (This (Leaf l)))) h from to o = o
  base-in (Node (That (That (This (Node t))))) h from to o = dotted-in plain_names t from to h o
  base-in (Node (That (That (That (This t))))) h from to o = absolute-in t h from to o
  base-in (Node (That (That (That (That (This t)))))) h from to o = extreme-in t h from to o
  base-in (Node (That (That (That (That (That (This t))))))) h from to o = brackets-in t h from to o
  base-in (Node (That (That (That (That (That (That t))))))) h from to o = case-in t h from to o
  base-in _ h from to o = absurd h

  absolute-in : (t : Tree) → Fits (Use grammar.absolute) t → (from to : ℕ) → TreeIn t from to → ExpressionIn (absolute_of t) from to
  absolute-in (Node (Pair w (This (Pair bracket (Pair t close))))) h from to o =
      let v : Spanned w from o.0 = TreeIn-spanned (word kind.Abs) w from o.0 refl h.0 o.1 in
      let le : o.0 ≤ o.2.0 = TreeIn-le bracket o.0 o.2.0 o.2.1 in
      let le2 : o.2.0 ≤ o.2.2.0 = TreeIn-le t o.2.0 o.2.2.0 o.2.2.1 in
      let s : Spanned close o.2.2.0 to = TreeIn-spanned (word kind.CloseBracket) close o.2.2.0 to refl h.1.1.1 o.2.2.2 in (
        (omega arith, omega arith, omega arith),
        expr-in t h.1.1.0 (starts_at w) (ends_at close) (TreeIn-wider t (starts_at w) o.2.0 (ends_at close) o.2.2.0 (omega arith) (omega arith) o.2.2.1),
      )
  absolute-in (Node (Pair first (That rest))) h from to o = qualified-in rest (leaf_name first) from o.0 to h.1 (leaf-in (kind.Abs ∷ []) first from o.0 h.0 o.1) o.2
  absolute-in (Node (Pair w (This (Pair bracket t)))) h from to o = absurd h.1.1
  absolute-in (Node (Pair w t)) h from to o = absurd h.1
  absolute-in _ h from to o = absurd h

  extreme-in : (t : Tree) → Fits (Use grammar.extreme) t → (from to : ℕ) → TreeIn t from to → ExpressionIn (extreme_in t) from to
  extreme-in (Node (Pair w (This (Pair bracket (Pair t (Pair comma (Pair u close))))))) h from to o =
      let v : Spanned w from o.0 = TreeIn-spanned (One (kind.Min ∷ kind.Max ∷ [])) w from o.0 refl h.0 o.1 in
      let o2 = o.2.2 in
      let o3 = o.2.2.2 in
      let o4 = o.2.2.2.2 in
      let le : o.0 ≤ o.2.0 = TreeIn-le bracket o.0 o.2.0 o.2.1 in
      let le2 : o.2.0 ≤ o2.0 = TreeIn-le t o.2.0 o2.0 o2.1 in
      let le3 : o2.0 ≤ o3.0 = TreeIn-le comma o2.0 o3.0 o3.1 in
      let le4 : o3.0 ≤ o4.0 = TreeIn-le u o3.0 o4.0 o4.1 in
      let s : Spanned close o4.0 to = TreeIn-spanned (word kind.CloseBracket) close o4.0 to refl h.1.1.1.1.1 o4.2 in
      extreme_of-in (kind.Min ∷ kind.Max ∷ []) (kind.CloseBracket ∷ []) w close (expr_of t) (expr_of u) from to h.0 h.1.1.1.1.1 (
        (omega arith, omega arith, omega arith),
        (
          o2.0,
          expr-in t h.1.1.0 (starts_at w) o2.0 (TreeIn-wider t (starts_at w) o.2.0 o2.0 o2.0 (omega arith) (omega arith) o2.1),
          expr-in u h.1.1.1.1.0 o2.0 (ends_at close) (TreeIn-wider u o2.0 o3.0 (ends_at close) o4.0 (omega arith) (omega arith) o4.1),
        ),
      )
  extreme-in (Node (Pair first (That rest))) h from to o = qualified-in rest (leaf_name first) from o.0 to h.1 (leaf-in (kind.Min ∷ kind.Max ∷ []) first from o.0 h.0 o.1) o.2
  extreme-in (Node (Pair w (This (Pair bracket (Pair t (Pair comma u)))))) h from to o = absurd h.1.1.1.1
  extreme-in (Node (Pair w (This (Pair bracket (Pair t u))))) h from to o = absurd h.1.1.1
  extreme-in (Node (Pair w (This (Pair bracket t)))) h from to o = absurd h.1.1
  extreme-in (Node (Pair w t)) h from to o = absurd h.1
  extreme-in _ h from to o = absurd h

  brackets-in : (t : Tree) → Fits (Use grammar.brackets) t → (from to : ℕ) → TreeIn t from to → ExpressionIn (brackets_of t) from to
  brackets-in (Node (Pair bracket (Pair t close))) h from to o =
      let le : from ≤ o.0 = TreeIn-le bracket from o.0 o.1 in
      let le2 : o.2.0 ≤ to = TreeIn-le close o.2.0 to o.2.2 in
      expr-in t h.1.0 from to (TreeIn-wider t from o.0 to o.2.0 (omega arith) (omega arith) o.2.1)
  brackets-in (Node (Pair bracket t)) h from to o = absurd h.1
  brackets-in _ h from to o = absurd h

  case-in : (t : Tree) → Fits (Use grammar.case) t → (from to : ℕ) → TreeIn t from to → ExpressionIn (case_of t) from to
  case-in (Node (Pair w (Pair first (Pair others (Pair otherwise (Pair t end)))))) h from to o =
      let v : Spanned w from o.0 = TreeIn-spanned (word kind.Case) w from o.0 refl h.0 o.1 in
      let o1 = o.2 in
      let o2 = o.2.2 in
      let o3 = o.2.2.2 in
      let o4 = o.2.2.2.2 in
      let le : o.0 ≤ o1.0 = TreeIn-le first o.0 o1.0 o1.1 in
      let le2 : o1.0 ≤ o2.0 = TreeIn-le others o1.0 o2.0 o2.1 in
      let le3 : o2.0 ≤ o3.0 = TreeIn-le otherwise o2.0 o3.0 o3.1 in
      let le4 : o3.0 ≤ o4.0 = TreeIn-le t o3.0 o4.0 o4.1 in
      let s : Spanned end o4.0 to = TreeIn-spanned (word kind.End) end o4.0 to refl h.1.1.1.1.1 o4.2 in
      let i = when-in first h.1.0 (starts_at w) o1.0 (TreeIn-wider first (starts_at w) o.0 o1.0 o1.0 (omega arith) (omega arith) o1.1) in
      let j : ExpressionIn (expr_of t) o2.0 (ends_at end) = expr-in t h.1.1.1.1.0 o2.0 (ends_at end) (TreeIn-wider t o2.0 o3.0 (ends_at end) o4.0 (omega arith) (omega arith) o4.1) in
      ((omega arith, omega arith, omega arith), (i.0, i.1, (o1.0, i.2, cases-in others h.1.1.0 o1.0 o2.0 (ends_at end) (expr_of t) j o2.1)))
  case-in (Node (Pair w (Pair first (Pair others (Pair otherwise t))))) h from to o = absurd h.1.1.1.1
  case-in (Node (Pair w (Pair first (Pair others t)))) h from to o = absurd h.1.1.1
  case-in (Node (Pair w (Pair first t))) h from to o = absurd h.1.1
  case-in (Node (Pair w t)) h from to o = absurd h.1
  case-in _ h from to o = absurd h

  cases-in : (t : Tree) → Fits (Many (Use grammar.when)) t → (from middle to : ℕ) (otherwise : Expression) → ExpressionIn otherwise middle to → TreeIn t from middle
      → ExpressionIn (cases to otherwise t) from to
  cases-in (More t others) h from middle to otherwise j o =
      let s : Spanned t from o.0 = TreeIn-spanned (Use grammar.when) t from o.0 refl h.0 o.1 in
      let le : o.0 ≤ middle = TreeIn-le others o.0 middle o.2 in
      let lt : middle < to = ExpressionIn-lt otherwise middle to j in
      let i = when-in t h.0 (starts_at t) o.0 (Spanned-in t from o.0 (starts_at t) o.0 s (omega arith) (omega arith)) in
      ((omega arith, omega arith, omega arith), (i.0, i.1, (o.0, i.2, cases-in others h.1 o.0 middle to otherwise j o.2)))
  cases-in Nothing h from middle to otherwise j o = ExpressionIn-wider otherwise from middle to to o (omega arith) j
  cases-in _ h from middle to otherwise j o = absurd h

  when-in : (t : Tree) → Fits (Use grammar.when) t → (from to : ℕ) → TreeIn t from to → (ExpressionIn (condition_of t) before ExpressionIn (result_of t)) from to
  when-in (Node (Pair w (Pair t (Pair behind u)))) h from to o =
      let le : from ≤ o.0 = TreeIn-le w from o.0 o.1 in
      let le2 : o.2.0 ≤ o.2.2.0 = TreeIn-le behind o.2.0 o.2.2.0 o.2.2.1 in (
        o.2.0,
        expr-in t h.1.0 from o.2.0 (TreeIn-wider t from o.0 o.2.0 o.2.0 (omega arith) (omega arith) o.2.1),
        expr-in u h.1.1.1 o.2.0 to (TreeIn-wider u o.2.0 o.2.2.0 to to (omega arith) (omega arith) o.2.2.2),
      )
  when-in (Node (Pair w (Pair t u))) h from to o = absurd h.1.1
  when-in (Node (Pair w t)) h from to o = absurd h.1
  when-in _ h from to o = absurd h

-- columns of a table or of a predicate
column-in : (t : Tree) (from to : ℕ) → Fits (Use grammar.column) t → TreeIn t from to → TypedIn (column_of t) from to
column-in (Node (Pair n w)) from to h o =
    leaf-in names n from to h.0 (TreeIn-front n w from to o)
column-in _ from to h o = absurd h

columns-in : (t : Tree) (from to : ℕ) → Fits (Use grammar.columns) t → TreeIn t from to → Each TypedIn (columns_of t) from to
columns-in (Node t) from to h o = listed-in (Use grammar.column) (word kind.Comma) column_of TypedIn column-in t from to h o
columns-in _ from to h o = absurd h

-- arguments
colref-in : (t : Tree) (from to : ℕ) → Fits (Use grammar.colref) t → TreeIn t from to → ColumnIn (colref_of t) from to
colref-in (Node t) from to h o = dotted-in names t from to h o
colref-in _ from to h o = absurd h

arg-in : (t : Tree) (from to : ℕ) → Fits (Use grammar.arg) t → TreeIn t from to → ArgIn (arg_of t) from to
arg-in (Node (This t)) from to h o = colref-in t from to h o
arg-in (Node (That (This t))) from to h o =
    let s : Spanned t from to = TreeIn-spanned (optional (word kind.Minus) ⨟ word kind.Number) t from to refl h o in
    (s.starts, s.some, s.ends)
arg-in (Node (That (That t))) from to h o = leaf-in (kind.Literal ∷ []) t from to h o
arg-in _ from to h o = absurd h

args-in : (t : Tree) (from to : ℕ) → Fits (Use grammar.args) t → TreeIn t from to → Each ArgIn (args_of t) from to
args-in (Node t) from to h o = listed-in (Use grammar.arg) (word kind.Comma) arg_of ArgIn arg-in t from to h o
args-in _ from to h o = absurd h

-- terms
weight-in : (t n : Tree) (from middle to : ℕ) → Fits (optional (word kind.Number ⨟ word kind.Star)) t → Fits name n → TreeIn t from middle → TreeIn n middle to
    → NumberIn (weight_of t n) from to
weight-in (This (Pair number star)) n from middle to h k o q =
    Lies-wider from from to middle (leaf number).at (omega arith) (TreeIn-le n middle to q)
    (leaf-in (kind.Number ∷ []) number from middle h.0 (TreeIn-front number star from middle o))
weight-in (This t) n from middle to h k o q = absurd h
weight-in (That t) n from middle to h k o q = Lies-wider from middle to to (leaf n).at (TreeIn-le t from middle o) (omega arith) (leaf-in names n middle to k q)
weight-in _ n from middle to h k o q = absurd h

-- the parts of a term, from where it starts up to where it ends
term_parts-in : (t : Tree) (from to : ℕ) → Fits (Use grammar.term) t → TreeIn t from to
    → NumberIn (term_of t).weight from to × (NameIn (term_of t).predicate before Each ArgIn (term_of t).args) from to
term_parts-in (Node (Pair w (Pair n (Pair open_bracket (Pair args close))))) from to h o =
    let o1 = TreeIn-skip w (Pair n (Pair open_bracket (Pair args close))) from to o in
    let o2 = TreeIn-skip open_bracket (Pair args close) o1.0 to o1.2 in (
      weight-in w n from o.0 to h.0 h.1.0 o.1 (TreeIn-front n (Pair open_bracket (Pair args close)) o.0 to o.2),
      (o1.0, leaf-in names n from o1.0 h.1.0 o1.1, args-in args o1.0 to h.1.1.1.0 (TreeIn-front args close o1.0 to o2)),
    )
term_parts-in (Node (Pair w (Pair n (Pair open_bracket rest)))) from to h o = absurd h.1.1.1
term_parts-in (Node (Pair w (Pair n rest))) from to h o = absurd h.1.1
term_parts-in (Node (Pair w rest)) from to h o = absurd h.1
term_parts-in _ from to h o = absurd h

term-in : (t : Tree) (from to : ℕ) → Fits (Use grammar.term) t → TreeIn t from to → TermIn (term_of t) from to
term-in t from to h o =
    let s : Spanned t from to = TreeIn-spanned (Use grammar.term) t from to refl h o in
    ((s.starts, s.some, s.ends), term_parts-in t (starts_at t) (ends_at t) h s.exact)

terms-in : (t : Tree) (from to : ℕ) → Fits (Use grammar.terms) t → TreeIn t from to → Each TermIn (terms_of t) from to
terms-in (Node t) from to h o = listed-in (Use grammar.term) (word kind.Plus) term_of TermIn term-in t from to h o
terms-in _ from to h o = absurd h

-- tables with their aliases
entry-in : (t : Tree) (from to : ℕ) → Fits (Use grammar.entry) t → TreeIn t from to → EntryIn (entry_of t) from to
entry-in (Node (Pair n w)) from to h o =
    let o1 = o.2 in (
      o.0,
      leaf-in names n from o.0 h.0 o.1,
      maybe-in (optional (word kind.As) ⨟ name) alias_of NameIn (second-in (optional (word kind.As)) names) w o.0 to h.1 o1,
    )
entry-in _ from to h o = absurd h

entries-in : (t : Tree) (from to : ℕ) → Fits (Use grammar.entries) t → TreeIn t from to → Each EntryIn (entries_of t) from to
entries-in (Node t) from to h o = listed-in (Use grammar.entry) (word kind.Comma) entry_of EntryIn entry-in t from to h o
entries-in _ from to h o = absurd h

-- blocks
items_of-in : (t : Tree) (from to : ℕ) → Fits (Use grammar.items) t → TreeIn t from to → ItemsIn (select_items_of t) from to
items_of-in (Node (This t)) from to h o = leaf-in (kind.Star ∷ []) t from to h o
items_of-in (Node (That t)) from to h o = listed-in (Use grammar.colref) (word kind.Comma) colref_of ColumnIn colref-in t from to h o
items_of-in _ from to h o = absurd h

filter-in : (t : Tree) (from to : ℕ) → Fits (word kind.Where ⨟ Use grammar.expr) t → TreeIn t from to → ExpressionIn (filter_of t) from to
filter-in (Pair w t) from to h o = expr-in t h.1 from to (TreeIn-skip w t from to o)
filter-in _ from to h o = absurd h

block-in : (t : Tree) (from to : ℕ) → Fits (Use grammar.block) t → TreeIn t from to → BlockIn (block_of t) from to
block-in (Node (Pair w (Pair distinct (Pair items (Pair w2 (Pair entries filter)))))) from to h o =
    let o1 = TreeIn-skip w (Pair distinct (Pair items (Pair w2 (Pair entries filter)))) from to o in
    let o2 = TreeIn-skip distinct (Pair items (Pair w2 (Pair entries filter))) from to o1 in
    let o3 = o2.2 in
    let o4 = TreeIn-skip w2 (Pair entries filter) o2.0 to o3 in
    let o5 = o4.2 in (
      o2.0,
      items_of-in items from o2.0 h.1.1.0 o2.1,
      (
        o4.0,
        entries-in entries o2.0 o4.0 h.1.1.1.1.0 o4.1,
        maybe-in (word kind.Where ⨟ Use grammar.expr) filter_of ExpressionIn (filter-in) filter o4.0 to h.1.1.1.1.1 o5,
      ),
    )
block-in (Node (Pair w (Pair distinct (Pair items (Pair w2 rest))))) from to h o = absurd h.1.1.1.1
block-in (Node (Pair w (Pair distinct (Pair items rest)))) from to h o = absurd h.1.1.1
block-in (Node (Pair w (Pair distinct rest))) from to h o = absurd h.1.1
block-in (Node (Pair w rest)) from to h o = absurd h.1
block-in _ from to h o = absurd h

right-in : (t : Tree) (from to : ℕ) → Fits (Use grammar.set_operator ⨟ Use grammar.block) t → TreeIn t from to → RightIn (right_of t) from to
right-in (Pair w t) from to h o = block-in t from to h.1 (TreeIn-skip w t from to o)
right-in _ from to h o = absurd h

-- queries
select-in : (t : Tree) (from to : ℕ) → Fits (Use grammar.select) t → TreeIn t from to → QueryIn (select_of t) from to
select-in (Node (Pair left (Pair right (Pair w (Pair w2 (Pair terms (Pair desc limit))))))) from to h o =
    let o1 = o.2 in
    let o2 = o1.2 in
    let o3 = TreeIn-skip w (Pair w2 (Pair terms (Pair desc limit))) o1.0 to o2 in
    let o4 = TreeIn-skip w2 (Pair terms (Pair desc limit)) o1.0 to o3 in
    let o5 = o4.2 in
    let o6 = TreeIn-skip desc limit o4.0 to o5 in (
      o.0,
      block-in left from o.0 h.0 o.1,
      (
        o1.0,
        maybe-in (Use grammar.set_operator ⨟ Use grammar.block) right_of RightIn (right-in) right o.0 o1.0 h.1.0 o1.1,
        (
          o4.0,
          terms-in terms o1.0 o4.0 h.1.1.1.1.0 o4.1,
          maybe-in (word kind.Limit ⨟ word kind.Number) limit_of NumberIn (second-in (word kind.Limit) (kind.Number ∷ [])) limit o4.0 to h.1.1.1.1.1.1 o6,
        ),
      ),
    )
select-in (Node (Pair left (Pair right (Pair w (Pair w2 (Pair terms rest)))))) from to h o = absurd h.1.1.1.1.1
select-in (Node (Pair left (Pair right (Pair w (Pair w2 rest))))) from to h o = absurd h.1.1.1.1
select-in (Node (Pair left (Pair right (Pair w rest)))) from to h o = absurd h.1.1.1
select-in (Node (Pair left (Pair right rest))) from to h o = absurd h.1.1
select-in (Node (Pair left rest)) from to h o = absurd h.1
select-in _ from to h o = absurd h

-- statements
create_table-in : (t : Tree) (from to : ℕ) → Fits (Use grammar.create_table) t → TreeIn t from to → CommandIn (create_table_of t) from to
create_table-in (Node (Pair w (Pair n (Pair open_bracket (Pair columns (Pair close (Pair w2 file))))))) from to h o =
    let o1 = TreeIn-skip w (Pair n (Pair open_bracket (Pair columns (Pair close (Pair w2 file))))) from to o in
    let o2 = o1.2 in
    let o3 = TreeIn-skip open_bracket (Pair columns (Pair close (Pair w2 file))) o1.0 to o2 in (
      o1.0,
      leaf-in names n from o1.0 h.1.0 o1.1,
      columns-in columns o1.0 to h.1.1.1.0 (TreeIn-front columns (Pair close (Pair w2 file)) o1.0 to o3),
    )
create_table-in (Node (Pair w (Pair n (Pair open_bracket (Pair columns (Pair close rest)))))) from to h o = absurd h.1.1.1.1.1
create_table-in (Node (Pair w (Pair n (Pair open_bracket (Pair columns rest))))) from to h o = absurd h.1.1.1.1
create_table-in (Node (Pair w (Pair n (Pair open_bracket rest)))) from to h o = absurd h.1.1.1
create_table-in (Node (Pair w (Pair n rest))) from to h o = absurd h.1.1
create_table-in (Node (Pair w rest)) from to h o = absurd h.1
create_table-in _ from to h o = absurd h

create_predicate-in : (t : Tree) (from to : ℕ) → Fits (Use grammar.create_predicate) t → TreeIn t from to → CommandIn (create_predicate_of t) from to
create_predicate-in (Node (Pair w (Pair n (Pair open_bracket (Pair columns (Pair close (Pair w2 (Pair max (Pair cost (Pair w3 t)))))))))) from to h o =
    let o1 = TreeIn-skip w (Pair n (Pair open_bracket (Pair columns (Pair close (Pair w2 (Pair max (Pair cost (Pair w3 t)))))))) from to o in
    let o2 = o1.2 in
    let o3 = TreeIn-skip open_bracket (Pair columns (Pair close (Pair w2 (Pair max (Pair cost (Pair w3 t)))))) o1.0 to o2 in
    let o4 = o3.2 in
    let o5 = TreeIn-skip close (Pair w2 (Pair max (Pair cost (Pair w3 t)))) o3.0 to o4 in
    let o6 = TreeIn-skip w2 (Pair max (Pair cost (Pair w3 t))) o3.0 to o5 in
    let o7 = o6.2 in
    let o8 = o7.2 in
    let o9 = TreeIn-skip w3 t o7.0 to o8 in (
      o1.0,
      leaf-in names n from o1.0 h.1.0 o1.1,
      (
        o3.0,
        columns-in columns o1.0 o3.0 h.1.1.1.0 o3.1,
        (
          o6.0,
          leaf-in (kind.Number ∷ []) max o3.0 o6.0 h.1.1.1.1.1.1.0 o6.1,
          (
            o7.0,
            maybe-in (word kind.Cost ⨟ word kind.Number) limit_of NumberIn (second-in (word kind.Cost) (kind.Number ∷ [])) cost o6.0 o7.0 h.1.1.1.1.1.1.1.0 o7.1,
            expr-in t h.1.1.1.1.1.1.1.1.1 o7.0 to o9,
          ),
        ),
      ),
    )
create_predicate-in (Node (Pair w (Pair n (Pair open_bracket (Pair columns (Pair close (Pair w2 (Pair max (Pair cost rest))))))))) from to h o = absurd h.1.1.1.1.1.1.1.1
create_predicate-in (Node (Pair w (Pair n (Pair open_bracket (Pair columns (Pair close (Pair w2 (Pair max rest)))))))) from to h o = absurd h.1.1.1.1.1.1.1
create_predicate-in (Node (Pair w (Pair n (Pair open_bracket (Pair columns (Pair close (Pair w2 rest))))))) from to h o = absurd h.1.1.1.1.1.1
create_predicate-in (Node (Pair w (Pair n (Pair open_bracket (Pair columns (Pair close rest)))))) from to h o = absurd h.1.1.1.1.1
create_predicate-in (Node (Pair w (Pair n (Pair open_bracket (Pair columns rest))))) from to h o = absurd h.1.1.1.1
create_predicate-in (Node (Pair w (Pair n (Pair open_bracket rest)))) from to h o = absurd h.1.1.1
create_predicate-in (Node (Pair w (Pair n rest))) from to h o = absurd h.1.1
create_predicate-in (Node (Pair w rest)) from to h o = absurd h.1
create_predicate-in _ from to h o = absurd h

create_rank_index-in : (t : Tree) (from to : ℕ) → Fits (Use grammar.create_rank_index) t → TreeIn t from to → CommandIn (create_rank_index_of t) from to
create_rank_index-in (Node (Pair w (Pair w2 (Pair n (Pair w3 (Pair table (Pair open_bracket (Pair predicate (Pair open2 (Pair args (Pair close close2))))))))))) from to h o =
    let tail = Pair predicate (Pair open2 (Pair args (Pair close close2))) in
    let o1 = TreeIn-skip w (Pair w2 (Pair n (Pair w3 (Pair table (Pair open_bracket tail))))) from to o in
    let o2 = TreeIn-skip w2 (Pair n (Pair w3 (Pair table (Pair open_bracket tail)))) from to o1 in
    let o3 = TreeIn-skip w3 (Pair table (Pair open_bracket tail)) o2.0 to o2.2 in
    let o4 = TreeIn-skip open_bracket tail o3.0 to o3.2 in
    let v : Spanned predicate o3.0 o4.0 = TreeIn-spanned name predicate o3.0 o4.0 refl h.1.1.1.1.1.1.0 o4.1 in
    let o5 = TreeIn-skip open2 (Pair args (Pair close close2)) o4.0 to o4.2 in
    let s : Spanned close o5.0 o5.2.0 = TreeIn-spanned (word kind.CloseBracket) close o5.0 o5.2.0 refl h.1.1.1.1.1.1.1.1.1.0 o5.2.1 in
    let le : o4.0 ≤ o5.0 = TreeIn-le args o4.0 o5.0 o5.1 in
    let ge : o5.2.0 ≤ to = TreeIn-le close2 o5.2.0 to o5.2.2 in (
      o2.0,
      leaf-in names n from o2.0 h.1.1.0 o2.1,
      (
        o3.0,
        leaf-in names table o2.0 o3.0 h.1.1.1.1.0 o3.1,
        (
          (omega arith, omega arith, omega arith),
          (
            o4.0,
            leaf-in names predicate (starts_at predicate) o4.0 h.1.1.1.1.1.1.0 (Spanned-in predicate o3.0 o4.0 (starts_at predicate) o4.0 v (omega arith) (omega arith)),
            args-in args o4.0 (ends_at close) h.1.1.1.1.1.1.1.1.0 (TreeIn-wider args o4.0 o4.0 (ends_at close) o5.0 (omega arith) (omega arith) o5.1),
          ),
        ),
      ),
    )
create_rank_index-in (Node (Pair w (Pair w2 (Pair n (Pair w3 (Pair table (Pair open_bracket (Pair predicate (Pair open2 (Pair args rest)))))))))) from to h o = absurd h.1.1.1.1.1.1.1.1.1
create_rank_index-in (Node (Pair w (Pair w2 (Pair n (Pair w3 (Pair table (Pair open_bracket (Pair predicate (Pair open2 rest))))))))) from to h o = absurd h.1.1.1.1.1.1.1.1
create_rank_index-in (Node (Pair w (Pair w2 (Pair n (Pair w3 (Pair table (Pair open_bracket (Pair predicate rest)))))))) from to h o = absurd h.1.1.1.1.1.1.1
create_rank_index-in (Node (Pair w (Pair w2 (Pair n (Pair w3 (Pair table (Pair open_bracket rest))))))) from to h o = absurd h.1.1.1.1.1.1
create_rank_index-in (Node (Pair w (Pair w2 (Pair n (Pair w3 (Pair table rest)))))) from to h o = absurd h.1.1.1.1.1
create_rank_index-in (Node (Pair w (Pair w2 (Pair n (Pair w3 rest))))) from to h o = absurd h.1.1.1.1
create_rank_index-in (Node (Pair w (Pair w2 (Pair n rest)))) from to h o = absurd h.1.1.1
create_rank_index-in (Node (Pair w (Pair w2 rest))) from to h o = absurd h.1.1
create_rank_index-in (Node (Pair w rest)) from to h o = absurd h.1
create_rank_index-in _ from to h o = absurd h

create-in : (t : Tree) (from to : ℕ) → Fits (Use grammar.create) t → TreeIn t from to → CommandIn (create_of t) from to
create-in (Node (Pair w (This t))) from to h o = create_table-in t from to h.1 (TreeIn-skip w t from to o)
create-in (Node (Pair w (That (This t)))) from to h o = create_predicate-in t from to h.1 (TreeIn-skip w t from to o)
create-in (Node (Pair w (That (That t)))) from to h o = create_rank_index-in t from to h.1 (TreeIn-skip w t from to o)
create-in (Node (Pair w t)) from to h o = absurd h.1
create-in _ from to h o = absurd h

declare-in : (t : Tree) (from to : ℕ) → Fits (Use grammar.declare) t → TreeIn t from to → CommandIn (declare_of t) from to
declare-in (Node (Pair w (Pair n (Pair w2 (Pair w3 t))))) from to h o =
    let o1 = TreeIn-skip w (Pair n (Pair w2 (Pair w3 t))) from to o in
    let o2 = o1.2 in
    let o3 = TreeIn-skip w2 (Pair w3 t) o1.0 to o2 in
    let o4 = TreeIn-skip w3 t o1.0 to o3 in (
      o1.0,
      leaf-in names n from o1.0 h.1.0 o1.1,
      select-in t o1.0 to h.1.1.1.1 o4,
    )
declare-in (Node (Pair w (Pair n (Pair w2 rest)))) from to h o = absurd h.1.1.1
declare-in (Node (Pair w (Pair n rest))) from to h o = absurd h.1.1
declare-in (Node (Pair w rest)) from to h o = absurd h.1
declare-in _ from to h o = absurd h

fetch-in : (t : Tree) (from to : ℕ) → Fits (Use grammar.fetch) t → TreeIn t from to → CommandIn (fetch_of t) from to
fetch-in (Node (Pair w (Pair count (Pair w2 n)))) from to h o =
    let o1 = TreeIn-skip w (Pair count (Pair w2 n)) from to o in
    let o2 = o1.2 in
    let o3 = TreeIn-skip w2 n o1.0 to o2 in (
      o1.0,
      leaf-in (kind.Number ∷ []) count from o1.0 h.1.0 o1.1,
      leaf-in names n o1.0 to h.1.1.1 o3,
    )
fetch-in (Node (Pair w (Pair count rest))) from to h o = absurd h.1.1
fetch-in (Node (Pair w rest)) from to h o = absurd h.1
fetch-in _ from to h o = absurd h

close-in : (t : Tree) (from to : ℕ) → Fits (Use grammar.close) t → TreeIn t from to → CommandIn (close_of t) from to
close-in (Node (Pair w n)) from to h o =
    let o1 = TreeIn-skip w n from to o in
    leaf-in names n from to h.1 o1
close-in _ from to h o = absurd h

explain-in : (t : Tree) (from to : ℕ) → Fits (Use grammar.explain) t → TreeIn t from to → CommandIn (explain_of t) from to
explain-in (Node (Pair w (Pair analyze t))) from to h o =
    go (is_there analyze) (select-in t from to h.1.1 (TreeIn-skip analyze t from to (TreeIn-skip w (Pair analyze t) from to o)))
  where
    go : (b : Bool) → QueryIn (select_of t) from to → CommandIn (if b then ExplainAnalyze (select_of t) else Explain (select_of t)) from to
    go true i = i
    go false i = i
explain-in (Node (Pair w rest)) from to h o = absurd h.1
explain-in _ from to h o = absurd h

statement-in : (t : Tree) (from to : ℕ) → Fits (Use grammar.statement) t → TreeIn t from to → CommandIn (statement_of t) from to
statement-in (Node (This t)) from to h o = create-in t from to h o
statement-in (Node (That (This t))) from to h o = select-in t from to h o
statement-in (Node (That (That (This t)))) from to h o = declare-in t from to h o
statement-in (Node (That (That (That (This t))))) from to h o = fetch-in t from to h o
statement-in (Node (That (That (That (That (This t)))))) from to h o = close-in t from to h o
statement-in (Node (That (That (That (That (That (This t))))))) from to h o = explain-in t from to h o
statement-in (Node (That (That (That (That (That (That t))))))) from to h o = insert-in t from to h o
statement-in _ from to h o = absurd h

-- scripts
statements-in : (t : Tree) (from to : ℕ) → Fits (Use grammar.statements) t → TreeIn t from to → SpansInOrder from to (statements_of t)
statements-in (Node (Pair t (This (Pair semicolon (This more))))) from to h o =
    (o.0, statement-in t from o.0 h.0 o.1, statements-in more o.0 to h.1.1 (TreeIn-skip semicolon more o.0 to o.2))
statements-in (Node (Pair t rest)) from to h o = (o.0, statement-in t from o.0 h.0 o.1, TreeIn-le rest o.0 to o.2)
statements-in _ from to h o = absurd h

script-in : (t : Tree) (from to : ℕ) → Fits grammar.script t → TreeIn t from to → SpansInOrder from to (script_of t)
script-in (This t) from to h o = statements-in t from to h o
script-in (That t) from to h o = TreeIn-le t from to o
script-in _ from to h o = absurd h

-- a lexeme stands where its token does
lexemes_of-ordered : (text : List ℕ) (tokens : List Token) (from to : ℕ) → TokensInOrder from tokens to → Ordered from to (lexemes_of text tokens)
lexemes_of-ordered text [] from to o = o
lexemes_of-ordered text (token ∷ rest) from to o = (o.0, o.1, lexemes_of-ordered text rest token.at.end to o.2)

-- the statements that tokens in order parse to are in order
pub Parses-in_order : (text : List ℕ) (tokens : List Token) (commands : List Command) → TokensInOrder 0 tokens (length text) → Parses text tokens commands
    → SpansInOrder 0 (length text) commands
Parses-in_order text tokens commands o parses =
    let ordered : Ordered 0 (length text) (yield parses.tree) = rw parses.spells (lexemes_of-ordered text tokens 0 (length text) o) in
    let made : SpansInOrder 0 (length text) (script_of parses.tree) = script-in parses.tree 0 (length text) parses.fits (Ordered-tree parses.tree 0 (length text) ordered) in
    rw parses.means at made

-- and so are those of a script, whose bytes spell the tokens
pub Parses-spans : (text : List ℕ) (tokens : List Token) (commands : List Command) → Spells 0 text tokens → Parses text tokens commands
    → SpansInOrder 0 (length text) commands
Parses-spans text tokens commands spelled parses =
    let same : 0 + length text ≡ length text = omega arith in
    Parses-in_order text tokens commands (rw same at (TokensInOrder-spelled 0 text tokens spelled)) parses
