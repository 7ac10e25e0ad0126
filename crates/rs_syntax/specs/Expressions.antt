-- The expression that a tree of derivation stands for, rule by rule. Repeated operators group to the left, and the span of a node
-- runs from its first token to its last one.
use Rattle.std.specs.Prelude.{ℕ, [], ◌∷◌, if◌then◌else◌}
use Rattle.rs_value.specs.declared.rel.Rel.{Rel}
use Rattle.rs_value.specs.declared.rel.Rel.TheVariants.{Eq, Ne, Lt, Le, Gt, Ge}
use Rattle.rs_lex.specs.declared.token.Span.{Span}
use Rattle.rs_grammar.specs.Grammar.{Tree, Leaf, Pair, This, That, More, Node}
use Rattle.rs_grammar.specs.Kinds.{accepts}
use Rattle.rs_grammar.specs.declared.kind.TokenKind.{TokenKind}
use Rattle.rs_grammar.specs.declared.kind.TokenKind.TheVariants.{Plus, Star, Equal, NotEqual, Less, LessEqual, Greater, Min}
use Rattle.rs_syntax.specs.declared.name.ColRef.{ColRef}
use Rattle.rs_syntax.specs.declared.node.Op.{Op}
use Rattle.rs_syntax.specs.declared.node.Op.TheVariants.{Add, Sub, Mul, Div}
use Rattle.rs_syntax.specs.Syntax.{Expression, Int, Text, Column, Neg, Arith, Abs, Least, Case, Compare, And, Or, Not}
use Rattle.rs_syntax.specs.Syntax as syntax
use Rattle.rs_syntax.specs.Trees.{starts_at, ends_at, span, span_of, is_of_kind, kind_at, leaf_name, qualified, of_rule, last_of_rule}

abbrev pub adding_of : Tree → Op
adding_of t = if is_of_kind Plus t then Add else Sub

abbrev pub multiplying_of : Tree → Op
multiplying_of t = if is_of_kind Star t then Mul else Div

abbrev pub rel_of : Tree → Rel
rel_of t =
    if is_of_kind Equal t then Eq else if is_of_kind NotEqual t then Ne else if is_of_kind Less t then Lt else if is_of_kind LessEqual t then Le
    else if is_of_kind Greater t then Gt else Ge

-- what no rule gives
abbrev pub no_expression : Expression
no_expression = Text [] (span 0 0)

-- MIN gives the lesser one of two, MAX the greater one
abbrev pub extreme_of : TokenKind → Expression → Expression → Span → Expression
extreme_of word first second at = if accepts (Min ∷ []) word then Least first second at else syntax.Greatest first second at

-- plain: name [ "." name ]
abbrev pub column_in : Tree → ColRef
column_in t = qualified (leaf_name (of_rule 0 t)) (last_of_rule 1 t)

unfoldable mutual
  -- expr: conj { OR conj }
  pub expr_of : Tree → Expression
  expr_of (Node (Pair first rest)) = ors (starts_at first) (conj_of first) rest
  expr_of _ = no_expression

  pub ors : ℕ → Expression → Tree → Expression
  ors from left (More (Pair word right) rest) = ors from (Or left (conj_of right) (span from (ends_at right))) rest
  ors from left _ = left

  -- conj: neg { AND neg }
  pub conj_of : Tree → Expression
  conj_of (Node (Pair first rest)) = ands (starts_at first) (neg_of first) rest
  conj_of _ = no_expression

  pub ands : ℕ → Expression → Tree → Expression
  ands from left (More (Pair word right) rest) = ands from (And left (neg_of right) (span from (ends_at right))) rest
  ands from left _ = left

  -- neg: NOT neg | comp
  pub neg_of : Tree → Expression
  neg_of (Node (This (Pair word t))) = Not (neg_of t) (span (starts_at word) (ends_at t))
  neg_of (Node (That t)) = comp_of t
  neg_of _ = no_expression

  -- comp: sum [ relation sum ]
  pub comp_of : Tree → Expression
  comp_of (Node (Pair left (This (Pair word right)))) = Compare (rel_of word) (sum_of left) (sum_of right) (span (starts_at left) (ends_at right))
  comp_of (Node (Pair left (That t))) = sum_of left
  comp_of _ = no_expression

  -- sum: prod { ( "+" | "-" ) prod }
  pub sum_of : Tree → Expression
  sum_of (Node (Pair first rest)) = sums (starts_at first) (prod_of first) rest
  sum_of _ = no_expression

  pub sums : ℕ → Expression → Tree → Expression
  sums from left (More (Pair word right) rest) = sums from (Arith (adding_of word) left (prod_of right) (span from (ends_at right))) rest
  sums from left _ = left

  -- prod: sign { ( "*" | "/" ) sign }
  pub prod_of : Tree → Expression
  prod_of (Node (Pair first rest)) = prods (starts_at first) (sign_of first) rest
  prod_of _ = no_expression

  pub prods : ℕ → Expression → Tree → Expression
  prods from left (More (Pair word right) rest) = prods from (Arith (multiplying_of word) left (sign_of right) (span from (ends_at right))) rest
  prods from left _ = left

  -- sign: "-" sign | base
  pub sign_of : Tree → Expression
  sign_of (Node (This (Pair word t))) = Neg (sign_of t) (span (starts_at word) (ends_at t))
  sign_of (Node (That t)) = base_of t
  sign_of _ = no_expression

  -- base: number | literal | plain | absolute | extreme | brackets | case
  pub base_of : Tree → Expression
  base_of (Node (This (Leaf l))) = Int l.number l.at
  base_of (Node (That (This (Leaf l)))) = Text l.text l.at
  base_of (Node (That (That (This t)))) = Column (column_in t)
  base_of (Node (That (That (That (This t))))) = absolute_of t
  base_of (Node (That (That (That (That (This t)))))) = extreme_in t
  base_of (Node (That (That (That (That (That (This t))))))) = brackets_of t
  base_of (Node (That (That (That (That (That (That t))))))) = case_of t
  base_of _ = no_expression

  -- absolute: ABS "(" expr ")", or the column abs
  pub absolute_of : Tree → Expression
  absolute_of (Node (Pair word (This (Pair bracket (Pair t close))))) = Abs (expr_of t) (span (starts_at word) (ends_at close))
  absolute_of (Node (Pair first (That rest))) = Column (qualified (leaf_name first) rest)
  absolute_of _ = no_expression

  -- extreme: ( MIN | MAX ) "(" expr "," expr ")", or the column min or max
  pub extreme_in : Tree → Expression
  extreme_in (Node (Pair word (This (Pair bracket (Pair t (Pair comma (Pair u close))))))) = extreme_of (kind_at word) (expr_of t) (expr_of u) (span_of (Pair word close))
  extreme_in (Node (Pair first (That rest))) = Column (qualified (leaf_name first) rest)
  extreme_in _ = no_expression

  -- brackets: "(" expr ")", which leave no trace
  pub brackets_of : Tree → Expression
  brackets_of (Node (Pair bracket (Pair t close))) = expr_of t
  brackets_of _ = no_expression

  -- case: CASE when { when } ELSE expr END; the rest of each WHEN part is the Case of those behind it, and that of the last one is the ELSE part
  pub case_of : Tree → Expression
  case_of (Node (Pair word (Pair first (Pair others (Pair otherwise (Pair t end)))))) =
      Case (condition_of first) (result_of first) (cases (ends_at end) (expr_of t) others) (span (starts_at word) (ends_at end))
  case_of _ = no_expression

  pub cases : ℕ → Expression → Tree → Expression
  cases to otherwise (More t others) = Case (condition_of t) (result_of t) (cases to otherwise others) (span (starts_at t) to)
  cases to otherwise _ = otherwise

  -- when: WHEN expr THEN expr
  pub condition_of : Tree → Expression
  condition_of (Node (Pair word (Pair t (Pair behind u)))) = expr_of t
  condition_of _ = no_expression

  pub result_of : Tree → Expression
  result_of (Node (Pair word (Pair t (Pair behind u)))) = expr_of u
  result_of _ = no_expression
