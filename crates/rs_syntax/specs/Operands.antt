-- Beginnings of operands as the parser holds them.
use Rattle.rs_grammar.specs.Grammar.{Tree, Pair, This, That}
use Rattle.rs_syntax.specs.Expressions.{expr_of}
use Rattle.rs_syntax.specs.Syntax.{Expression}
use Rattle.rs_syntax.specs.Trees.{kind_at, leaf_name, leaf_span, part, qualified}
use Rattle.rs_syntax.specs.declared.parser.expressions.Word.{Word}
use Rattle.rs_syntax.specs.declared.parser.expressions.Word.TheVariants.{Column, Function}

-- a function's name and the bracket behind it, or a column that is called so: word ( "(" | [ "." name ] )
abbrev pub word_of : Tree → Word
word_of (Pair first (This bracket)) = Function (kind_at first) (leaf_span first).start
word_of (Pair first (That rest)) = Column (qualified (leaf_name first) rest)
word_of t = Column (qualified (leaf_name t) t)

-- an expression with a token behind it
abbrev pub first_expr_of : Tree → Expression
first_expr_of t = expr_of (part 0 t)
