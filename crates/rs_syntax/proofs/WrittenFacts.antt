-- The statements that the tokens of a script parse to are well written.
use Rattle.std.proofs.Common.{ℕ, zero, suc, ◌≡◌, ◌≤◌, List, [], ◌∷◌, ◌++◌, length, Bool, true, false, refl, sym, subst, arith}
use Rattle.std.specs.Prelude.{ℤ, pos, negsuc, nat_abs, neg_ℤ, map, IfSome, if◌then◌else◌}
use Rattle.std.specs.List.{AllByRecursion}
use Rattle.std.proofs.lemmas.Int.{ints}
use Rattle.rs_value.specs.Number.{greatest_int}
use Rattle.rs_lex.specs.Spelling.{Spells}
use Rattle.rs_lex.specs.declared.token.Span.{Span}
use Rattle.rs_lex.specs.declared.token.Token.{Token}
use Rattle.rs_grammar.specs.Grammar.{Tree, Leaf, Nothing, Pair, This, That, More, Node, yield}
use Rattle.rs_grammar.specs.Kinds.{accepts}
use Rattle.rs_grammar.specs.declared.kind.TokenKind.{TokenKind}
use Rattle.rs_grammar.specs.declared.kind.TokenKind.TheVariants.{Min}
use Rattle.rs_grammar.specs.declared.lexeme.Lexeme.{Lexeme}
use Rattle.rs_grammar.proofs.LexemeFacts.{IsFront-whole}
use Rattle.rs_syntax.specs.Expressions.{absolute_of, adding_of, ands, base_of, brackets_of, case_of, cases, comp_of, condition_of, conj_of, expr_of, extreme_in, extreme_of, multiplying_of, neg_of, ors, prod_of, prods, result_of, sign_of, sum_of, sums}
use Rattle.rs_syntax.specs.Numbers.{IsNumber, AreNumbers}
use Rattle.rs_syntax.specs.Scripts.{Parses}
use Rattle.rs_syntax.specs.Statements.{signed_of, arg_in, arg_of, args_of, cell_in, cell_of, row_of, rows_of, term_of, terms_of, block_of, filter_of, right_of, select_of, columns_of, create_in, create_of, statement_in, statement_of, statements_of, script_of}
use Rattle.rs_syntax.specs.Syntax.{Block, Command, Explain, ExplainAnalyze, Expression, And, Arith, Greatest, Least, Or}
use Rattle.rs_syntax.specs.Trees.{starts_at, ends_at, span, span_of, kind_at, leaf, last, part, inside, of_rule, last_of_rule, if_there, is_there, items_of, listed}
use Rattle.rs_value.specs.declared.set_op.SetOp.{SetOp}
use Rattle.rs_syntax.proofs.Numbers.{AreNumbers-lexemes}
use Rattle.rs_syntax.specs.Written.{IsWrittenArg, AreWrittenArgs, IsWrittenBlock, IsWrittenExpression, IsWrittenTerm, IsWrittenQuery, IsWrittenCell, IsWrittenRow, IsWrittenInsert, IsWritten, AreWritten}

-- the numbers of a tree's tokens are such that a script can write them
abbrev HasNumbers : Tree → Type 0
HasNumbers (Leaf l) = IsNumber l.number
HasNumbers Nothing = Unit {0}
HasNumbers (Pair t u) = HasNumbers t × HasNumbers u
HasNumbers (This t) = HasNumbers t
HasNumbers (That t) = HasNumbers t
HasNumbers (More t u) = HasNumbers t × HasNumbers u
HasNumbers (Node t) = HasNumbers t

AreNumbers-front : (xs ys : List Lexeme) → AreNumbers (xs ++ ys) → AreNumbers xs
AreNumbers-front [] ys h = tt
AreNumbers-front (x ∷ xs) ys h = (h.0, AreNumbers-front xs ys h.1)

AreNumbers-rest : (xs ys : List Lexeme) → AreNumbers (xs ++ ys) → AreNumbers ys
AreNumbers-rest [] ys h = h
AreNumbers-rest (x ∷ xs) ys h = AreNumbers-rest xs ys h.1

HasNumbers-yield : (t : Tree) → AreNumbers (yield t) → HasNumbers t
HasNumbers-yield (Leaf l) h = h.0
HasNumbers-yield Nothing h = tt
HasNumbers-yield (Pair t u) h =
    (HasNumbers-yield t (AreNumbers-front (yield t) (yield u) h), HasNumbers-yield u (AreNumbers-rest (yield t) (yield u) h))
HasNumbers-yield (This t) h = HasNumbers-yield t h
HasNumbers-yield (That t) h = HasNumbers-yield t h
HasNumbers-yield (More t u) h =
    (HasNumbers-yield t (AreNumbers-front (yield t) (yield u) h), HasNumbers-yield u (AreNumbers-rest (yield t) (yield u) h))
HasNumbers-yield (Node t) h = HasNumbers-yield t h

-- the parts of a tree have them too
HasNumbers-last : (n : ℕ) (t : Tree) → HasNumbers t → HasNumbers (last n t)
HasNumbers-last zero t h = h
HasNumbers-last (suc n) (Pair t u) h = HasNumbers-last n u h.1
HasNumbers-last (suc n) t h = h

HasNumbers-first : (t : Tree) → HasNumbers t → HasNumbers (part zero t)
HasNumbers-first (Pair t u) h = h.0
HasNumbers-first t h = h

HasNumbers-part : (n : ℕ) (t : Tree) → HasNumbers t → HasNumbers (part n t)
HasNumbers-part n t h = HasNumbers-first (last n t) (HasNumbers-last n t h)

HasNumbers-inside : (t : Tree) → HasNumbers t → HasNumbers (inside t)
HasNumbers-inside (Node t) h = h
HasNumbers-inside t h = h

HasNumbers-of_rule : (n : ℕ) (t : Tree) → HasNumbers t → HasNumbers (of_rule n t)
HasNumbers-of_rule n t h = HasNumbers-part n (inside t) (HasNumbers-inside t h)

HasNumbers-last_of_rule : (n : ℕ) (t : Tree) → HasNumbers t → HasNumbers (last_of_rule n t)
HasNumbers-last_of_rule n t h = HasNumbers-last n (inside t) (HasNumbers-inside t h)

-- what holds of all that trees with such numbers stand for holds of the items that are listed in one
AllByRecursion-items : {A : Type 0} (P : A → Type 0) (f : Tree → A) → ((t : Tree) → HasNumbers t → P (f t)) → (t : Tree) → HasNumbers t
    → AllByRecursion P (map (λ u. f (last 1 u)) (items_of t))
AllByRecursion-items P f each (More t u) h = (each (last 1 t) (HasNumbers-last 1 t h.0), AllByRecursion-items P f each u h.1)
AllByRecursion-items P f each t h = tt

AllByRecursion-listed : {A : Type 0} (P : A → Type 0) (f : Tree → A) → ((t : Tree) → HasNumbers t → P (f t)) → (t : Tree) → HasNumbers t
    → AllByRecursion P (listed f t)
AllByRecursion-listed P f each t h =
    (each (part 0 t) (HasNumbers-part 0 t h), AllByRecursion-items P f each (last 1 t) (HasNumbers-last 1 t h))

-- and of an optional part
IfSome-there : {A : Type 0} (P : A → Type 0) (f : Tree → A) → ((t : Tree) → HasNumbers t → P (f t)) → (t : Tree) → HasNumbers t
    → IfSome (if_there f t) P
IfSome-there P f each (This t) h = each t h
IfSome-there P f each _ h = tt

-- a list of columns has one
length-columns : (t : Tree) → 1 ≤ length (columns_of t)
length-columns t = omega arith

-- the number of a token, with a sign or without
IsNumber-size : (n : ℤ) → IsNumber n → nat_abs n ≤ greatest_int
IsNumber-size (pos n) h = omega (arith, ints, h.1)
IsNumber-size (negsuc n) h = absurd (omega (arith, ints, h.0))

nat_abs-negated : (n : ℤ) → nat_abs (neg_ℤ n) ≡ nat_abs n
nat_abs-negated (pos zero) = refl
nat_abs-negated (pos (suc n)) = refl
nat_abs-negated (negsuc n) = refl

leaf-size : (t : Tree) → HasNumbers t → nat_abs (leaf t).number ≤ greatest_int
leaf-size (Leaf l) h = IsNumber-size l.number h
leaf-size t h = omega arith

signed_of-size : (sign number : Tree) → HasNumbers number → nat_abs (signed_of sign number) ≤ greatest_int
signed_of-size (This sign) number h = omega (arith, leaf-size number h, nat_abs-negated (leaf number).number)
signed_of-size sign number h = leaf-size number h

-- arguments, terms and queries
arg_in-written : (t : Tree) → HasNumbers t → IsWrittenArg (arg_in t)
arg_in-written (This t) h = tt
arg_in-written (That (This t)) h = signed_of-size (part 0 t) (last 1 t) (HasNumbers-last 1 t h)
arg_in-written (That (That t)) h = tt
arg_in-written t h = tt

args_of-written : (t : Tree) → HasNumbers t → AreWrittenArgs (args_of t)
args_of-written t h =
    AllByRecursion-listed IsWrittenArg arg_of (λ u k. arg_in-written (inside u) (HasNumbers-inside u k)) (inside t) (HasNumbers-inside t h)

terms_of-written : (t : Tree) → HasNumbers t → AllByRecursion IsWrittenTerm (terms_of t)
terms_of-written t h =
    AllByRecursion-listed IsWrittenTerm term_of (λ u k. args_of-written (of_rule 3 u) (HasNumbers-of_rule 3 u k)) (inside t) (HasNumbers-inside t h)

-- expressions
extreme_of-written : (kind : TokenKind) (x y : Expression) (at : Span) → IsWrittenExpression x → IsWrittenExpression y → IsWrittenExpression (extreme_of kind x y at)
extreme_of-written kind x y at first second = go (accepts (Min ∷ []) kind) where
  go : (is_least : Bool) → IsWrittenExpression (if is_least then Least x y at else Greatest x y at)
  go true = (first, second)
  go false = (first, second)

mutual
  unfolding expr_of

  expr_of-written : (t : Tree) → HasNumbers t → IsWrittenExpression (expr_of t)
  expr_of-written (Node (Pair first rest)) h = ors-written rest (starts_at first) (conj_of first) h.1 (conj_of-written first h.0)
  expr_of-written _ h = tt

  ors-written : (t : Tree) (from : ℕ) (left : Expression) → HasNumbers t → IsWrittenExpression left → IsWrittenExpression (ors from left t)
  ors-written (More (Pair word right) rest) from left h is =
      ors-written rest from (Or left (conj_of right) (span from (ends_at right))) h.1 (is, conj_of-written right h.0.1)
  ors-written _ from left h is = is

  conj_of-written : (t : Tree) → HasNumbers t → IsWrittenExpression (conj_of t)
  conj_of-written (Node (Pair first rest)) h = ands-written rest (starts_at first) (neg_of first) h.1 (neg_of-written first h.0)
  conj_of-written _ h = tt

  ands-written : (t : Tree) (from : ℕ) (left : Expression) → HasNumbers t → IsWrittenExpression left → IsWrittenExpression (ands from left t)
  ands-written (More (Pair word right) rest) from left h is =
      ands-written rest from (And left (neg_of right) (span from (ends_at right))) h.1 (is, neg_of-written right h.0.1)
  ands-written _ from left h is = is

  neg_of-written : (t : Tree) → HasNumbers t → IsWrittenExpression (neg_of t)
  neg_of-written (Node (This (Pair word t))) h = neg_of-written t h.1
  neg_of-written (Node (That t)) h = comp_of-written t h
  neg_of-written _ h = tt

  comp_of-written : (t : Tree) → HasNumbers t → IsWrittenExpression (comp_of t)
  comp_of-written (Node (Pair left (This (Pair word right)))) h = (sum_of-written left h.0, sum_of-written right h.1.1)
  comp_of-written (Node (Pair left (That t))) h = sum_of-written left h.0
  comp_of-written _ h = tt

  sum_of-written : (t : Tree) → HasNumbers t → IsWrittenExpression (sum_of t)
  sum_of-written (Node (Pair first rest)) h = sums-written rest (starts_at first) (prod_of first) h.1 (prod_of-written first h.0)
  sum_of-written _ h = tt

  sums-written : (t : Tree) (from : ℕ) (left : Expression) → HasNumbers t → IsWrittenExpression left → IsWrittenExpression (sums from left t)
  sums-written (More (Pair word right) rest) from left h is =
      sums-written rest from (Arith (adding_of word) left (prod_of right) (span from (ends_at right))) h.1 (is, prod_of-written right h.0.1)
  sums-written _ from left h is = is

  prod_of-written : (t : Tree) → HasNumbers t → IsWrittenExpression (prod_of t)
  prod_of-written (Node (Pair first rest)) h = prods-written rest (starts_at first) (sign_of first) h.1 (sign_of-written first h.0)
  prod_of-written _ h = tt

  prods-written : (t : Tree) (from : ℕ) (left : Expression) → HasNumbers t → IsWrittenExpression left → IsWrittenExpression (prods from left t)
  prods-written (More (Pair word right) rest) from left h is =
      prods-written rest from (Arith (multiplying_of word) left (sign_of right) (span from (ends_at right))) h.1 (is, sign_of-written right h.0.1)
  prods-written _ from left h is = is

  sign_of-written : (t : Tree) → HasNumbers t → IsWrittenExpression (sign_of t)
  sign_of-written (Node (This (Pair word t))) h = sign_of-written t h.1
  sign_of-written (Node (That t)) h = base_of-written t h
  sign_of-written _ h = tt

  base_of-written : (t : Tree) → HasNumbers t → IsWrittenExpression (base_of t)
  base_of-written (Node (This (Leaf l))) h = IsNumber-size l.number h
  base_of-written (Node (That (This (Leaf l)))) h = tt
  base_of-written (Node (That (That (This t)))) h = tt
  base_of-written (Node (That (That (That (This t))))) h = absolute_of-written t h
  base_of-written (Node (That (That (That (That (This t)))))) h = extreme_in-written t h
  base_of-written (Node (That (That (That (That (That (This t))))))) h = brackets_of-written t h
  base_of-written (Node (That (That (That (That (That (That t))))))) h = case_of-written t h
  base_of-written _ h = tt

  absolute_of-written : (t : Tree) → HasNumbers t → IsWrittenExpression (absolute_of t)
  absolute_of-written (Node (Pair word (This (Pair bracket (Pair t close))))) h = expr_of-written t h.1.1.0
  absolute_of-written (Node (Pair first (That rest))) h = tt
  absolute_of-written _ h = tt

  extreme_in-written : (t : Tree) → HasNumbers t → IsWrittenExpression (extreme_in t)
  extreme_in-written (Node (Pair word (This (Pair bracket (Pair t (Pair comma (Pair u close))))))) h =
      extreme_of-written (kind_at word) (expr_of t) (expr_of u) (span_of (Pair word close)) (expr_of-written t h.1.1.0) (expr_of-written u h.1.1.1.1.0)
  extreme_in-written (Node (Pair first (That rest))) h = tt
  extreme_in-written _ h = tt

  brackets_of-written : (t : Tree) → HasNumbers t → IsWrittenExpression (brackets_of t)
  brackets_of-written (Node (Pair bracket (Pair t close))) h = expr_of-written t h.1.0
  brackets_of-written _ h = tt

  case_of-written : (t : Tree) → HasNumbers t → IsWrittenExpression (case_of t)
  case_of-written (Node (Pair word (Pair first (Pair others (Pair otherwise (Pair t end)))))) h = (
    condition_of-written first h.1.0,
    result_of-written first h.1.0,
    cases-written others (ends_at end) (expr_of t) h.1.1.0 (expr_of-written t h.1.1.1.1.0),
  )
  case_of-written _ h = tt

  cases-written : (t : Tree) (to : ℕ) (otherwise : Expression) → HasNumbers t → IsWrittenExpression otherwise → IsWrittenExpression (cases to otherwise t)
  cases-written (More t others) to otherwise h is = (condition_of-written t h.0, result_of-written t h.0, cases-written others to otherwise h.1 is)
  cases-written _ to otherwise h is = is

  condition_of-written : (t : Tree) → HasNumbers t → IsWrittenExpression (condition_of t)
  condition_of-written (Node (Pair word (Pair t (Pair behind u)))) h = expr_of-written t h.1.0
  condition_of-written _ h = tt

  result_of-written : (t : Tree) → HasNumbers t → IsWrittenExpression (result_of t)
  result_of-written (Node (Pair word (Pair t (Pair behind u)))) h = expr_of-written u h.1.1.1
  result_of-written _ h = tt

-- a block has a FROM entry
block_of-written : (t : Tree) → HasNumbers t → IsWrittenBlock (block_of t)
block_of-written t h = record {
  some = omega arith;
  filter = IfSome-there IsWrittenExpression filter_of (λ u k. expr_of-written (last 1 u) (HasNumbers-last 1 u k)) (last_of_rule 5 t) (HasNumbers-last_of_rule 5 t h);
}

right_of-written : (t : Tree) → HasNumbers t → IfSome (if_there right_of t) (λ (second : SetOp × Block). IsWrittenBlock second.1)
right_of-written =
    IfSome-there (λ (second : SetOp × Block). IsWrittenBlock second.1) right_of (λ t h. block_of-written (last 1 t) (HasNumbers-last 1 t h))

select_of-written : (t : Tree) → HasNumbers t → IsWrittenQuery (select_of t)
select_of-written t h = record {
  left = block_of-written (of_rule 0 t) (HasNumbers-of_rule 0 t h);
  right = right_of-written (of_rule 1 t) (HasNumbers-of_rule 1 t h);
  terms = terms_of-written (of_rule 4 t) (HasNumbers-of_rule 4 t h);
}

-- the rows of an INSERT
cell_in-written : (t : Tree) → HasNumbers t → IsWrittenCell (cell_in t)
cell_in-written (This t) h = signed_of-size (part 0 t) (last 1 t) (HasNumbers-last 1 t h)
cell_in-written (That t) h = tt
cell_in-written t h = tt

row_of-written : (t : Tree) → HasNumbers t → IsWrittenRow (row_of t)
row_of-written t h = record {
  some = omega arith;
  cells = AllByRecursion-listed IsWrittenCell cell_of (λ u k. cell_in-written (inside u) (HasNumbers-inside u k)) (inside (of_rule 1 t)) (HasNumbers-inside (of_rule 1 t) (HasNumbers-of_rule 1 t h));
}

rows_of-written : (t : Tree) → HasNumbers t → IsWrittenInsert (rows_of t)
rows_of-written t h = record {
  some = omega arith;
  rows = AllByRecursion-listed IsWrittenRow row_of row_of-written (inside t) (HasNumbers-inside t h);
}

-- statements
create_in-written : (t : Tree) → HasNumbers t → IsWritten (create_in t)
create_in-written (This t) h = length-columns (of_rule 3 t)
create_in-written (That (This t)) h = (length-columns (of_rule 3 t), expr_of-written (last_of_rule 9 t) (HasNumbers-last_of_rule 9 t h))
create_in-written (That (That t)) h = args_of-written (of_rule 8 t) (HasNumbers-of_rule 8 t h)
create_in-written t h = length-columns (of_rule 3 t)

create_of-written : (t : Tree) → HasNumbers t → IsWritten (create_of t)
create_of-written t h = create_in-written (last_of_rule 1 t) (HasNumbers-last_of_rule 1 t h)

explained-written : (b : Bool) (t : Tree) → HasNumbers t → IsWritten (if b then ExplainAnalyze (select_of t) else Explain (select_of t))
explained-written true t h = select_of-written t h
explained-written false t h = select_of-written t h

statement_in-written : (t : Tree) → HasNumbers t → IsWritten (statement_in t)
statement_in-written (This t) h = create_of-written t h
statement_in-written (That (This t)) h = select_of-written t h
statement_in-written (That (That (This t))) h = select_of-written (last_of_rule 4 t) (HasNumbers-last_of_rule 4 t h)
statement_in-written (That (That (That (This t)))) h = tt
statement_in-written (That (That (That (That (This t))))) h = tt
statement_in-written (That (That (That (That (That (This t)))))) h =
    explained-written (is_there (of_rule 1 t)) (last_of_rule 2 t) (HasNumbers-last_of_rule 2 t h)
statement_in-written (That (That (That (That (That (That t)))))) h = rows_of-written (last_of_rule 4 t) (HasNumbers-last_of_rule 4 t h)
statement_in-written t h = tt

statement_of-written : (t : Tree) → HasNumbers t → IsWritten (statement_of t)
statement_of-written t h = statement_in-written (inside t) (HasNumbers-inside t h)

statements_of-written : (t : Tree) → HasNumbers t → AreWritten (statements_of t)
statements_of-written (Node (Pair t (This (Pair semicolon (This more))))) h = (statement_of-written t h.0, statements_of-written more h.1.1)
statements_of-written (Node (Pair t u)) h = (statement_of-written t h.0, tt)
statements_of-written t h = tt

script_of-written : (t : Tree) → HasNumbers t → AreWritten (script_of t)
script_of-written (This t) h = statements_of-written t h
script_of-written t h = tt

pub AreWritten-parsed : (script : List ℕ) (tokens : List Token) (commands : List Command) → Spells 0 script tokens → Parses script tokens commands
    → AreWritten commands
AreWritten-parsed script tokens commands spelled h =
    subst AreWritten h.means (script_of-written h.tree (HasNumbers-yield h.tree
    (subst AreNumbers (sym h.spells) (AreNumbers-lexemes script tokens (IsFront-whole script tokens spelled)))))
