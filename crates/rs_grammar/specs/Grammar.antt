-- The grammar as data, the trees of derivation, and the beginnings of what it spells.
use Rattle.std.specs.Prelude.{ℕ, ◌≡◌, true, List, [], ◌∷◌, ◌++◌}
use Rattle.rs_grammar.specs.Kinds.{accepts, names, plain_names, comparisons}
use Rattle.rs_grammar.specs.declared.kind.TokenKind.{TokenKind}
use Rattle.rs_grammar.specs.declared.kind.TokenKind.TheVariants.{All, And, As, By, Case, Close, Create, Declare, Desc, Distinct, Else, End, Except, Explain, Fetch, For, From, Insert, Intersect, Limit, Not, On, Or, Order, Select, Then, Union, When, Where, Table, Predicate, Rank, Index, Int, Integer, Text, Max, Min, Abs, Cost, Cursor, Analyze, Into, Values, Number, Literal, OpenBracket, CloseBracket, Comma, Semicolon, Dot, Plus, Minus, Star, Slash}
use Rattle.rs_grammar.specs.declared.lexeme.Lexeme.{Lexeme}

-- the rules
pub data Rule : Type 0 where
  statements statement create create_table create_predicate create_rank_index declare fetch close explain insert rows row cells cell columns column select set_operator block items entries entry terms term args arg colref expr conj neg comp sum prod sign base plain absolute extreme brackets case when : Rule

-- a part of a rule: one token of one of these kinds, nothing, one part and another behind it, one of two, any number of one, or a rule
pub data Part : Type 0 where
  One : List TokenKind → Part
  Empty : Part
  Seq : Part → Part → Part
  Either : Part → Part → Part
  Many : Part → Part
  Use : Rule → Part

infixr 20 ◌⨟◌
abbrev pub ◌⨟◌ : Part → Part → Part
p ⨟ q = Seq p q

infixr 10 ◌∣◌
abbrev pub ◌∣◌ : Part → Part → Part
p ∣ q = Either p q

abbrev pub word : TokenKind → Part
word kind = One (kind ∷ [])

abbrev pub name : Part
name = One names

-- [ part ]
abbrev pub optional : Part → Part
optional p = Either p Empty

-- The rules, each with its text. Three texts are factored, so that one token tells which way to go: the three CREATE statements
-- begin with the same word, a script is read statement by statement, and the words abs, min and max are functions or columns.
abbrev pub rule : Rule → Part
-- statement [ ";" [ statements ] ]: with `script`, what `{ statement ";" } [ statement ]` spells
rule statements = Use statement ⨟ optional (word Semicolon ⨟ optional (Use statements))
-- create | select | declare | fetch | close | explain | insert
rule statement = Use create ∣ Use select ∣ Use declare ∣ Use fetch ∣ Use close ∣ Use explain ∣ Use insert
-- CREATE ( create_table | create_predicate | create_rank_index )
rule create = word Create ⨟ (Use create_table ∣ Use create_predicate ∣ Use create_rank_index)
-- TABLE name "(" columns ")" FROM literal
rule create_table = word Table ⨟ name ⨟ word OpenBracket ⨟ Use columns ⨟ word CloseBracket ⨟ word From ⨟ word Literal
-- PREDICATE name "(" columns ")" MAX number [ COST number ] AS expr
rule create_predicate = word Predicate ⨟ name ⨟ word OpenBracket ⨟ Use columns ⨟ word CloseBracket ⨟ word Max ⨟ word Number ⨟ optional (word Cost ⨟ word Number) ⨟ word As ⨟ Use expr
-- RANK INDEX name ON name "(" name "(" args ")" ")"
rule create_rank_index = word Rank ⨟ word Index ⨟ name ⨟ word On ⨟ name ⨟ word OpenBracket ⨟ name ⨟ word OpenBracket ⨟ Use args ⨟ word CloseBracket ⨟ word CloseBracket
-- DECLARE name CURSOR FOR select
rule declare = word Declare ⨟ name ⨟ word Cursor ⨟ word For ⨟ Use select
-- FETCH number FROM name
rule fetch = word Fetch ⨟ word Number ⨟ word From ⨟ name
-- CLOSE name
rule close = word Close ⨟ name
-- EXPLAIN [ ANALYZE ] select
rule explain = word Explain ⨟ optional (word Analyze) ⨟ Use select
-- INSERT INTO name VALUES rows
rule insert = word Insert ⨟ word Into ⨟ name ⨟ word Values ⨟ Use rows
-- row { "," row }
rule rows = Use row ⨟ Many (word Comma ⨟ Use row)
-- "(" cells ")"
rule row = word OpenBracket ⨟ Use cells ⨟ word CloseBracket
-- cell { "," cell }
rule cells = Use cell ⨟ Many (word Comma ⨟ Use cell)
-- [ "-" ] number | literal
rule cell = (optional (word Minus) ⨟ word Number) ∣ word Literal
-- column { "," column }
rule columns = Use column ⨟ Many (word Comma ⨟ Use column)
-- name ( INT | INTEGER | TEXT )
rule column = name ⨟ One (Int ∷ Integer ∷ Text ∷ [])
-- block [ set_operator block ] ORDER BY terms [ DESC ] [ LIMIT number ]
rule select = Use block ⨟ optional (Use set_operator ⨟ Use block) ⨟ word Order ⨟ word By ⨟ Use terms ⨟ optional (word Desc) ⨟ optional (word Limit ⨟ word Number)
-- UNION [ ALL ] | INTERSECT | EXCEPT
rule set_operator = (word Union ⨟ optional (word All)) ∣ word Intersect ∣ word Except
-- SELECT [ DISTINCT ] items FROM entries [ WHERE expr ]
rule block = word Select ⨟ optional (word Distinct) ⨟ Use items ⨟ word From ⨟ Use entries ⨟ optional (word Where ⨟ Use expr)
-- "*" | colref { "," colref }
rule items = word Star ∣ Use colref ⨟ Many (word Comma ⨟ Use colref)
-- entry { "," entry }
rule entries = Use entry ⨟ Many (word Comma ⨟ Use entry)
-- name [ [ AS ] name ]
rule entry = name ⨟ optional (optional (word As) ⨟ name)
-- term { "+" term }
rule terms = Use term ⨟ Many (word Plus ⨟ Use term)
-- [ number "*" ] name "(" args ")"
rule term = optional (word Number ⨟ word Star) ⨟ name ⨟ word OpenBracket ⨟ Use args ⨟ word CloseBracket
-- arg { "," arg }
rule args = Use arg ⨟ Many (word Comma ⨟ Use arg)
-- colref | [ "-" ] number | literal
rule arg = Use colref ∣ (optional (word Minus) ⨟ word Number) ∣ word Literal
-- name [ "." name ]
rule colref = name ⨟ optional (word Dot ⨟ name)
-- conj { OR conj }
rule expr = Use conj ⨟ Many (word Or ⨟ Use conj)
-- neg { AND neg }
rule conj = Use neg ⨟ Many (word And ⨟ Use neg)
-- NOT neg | comp
rule neg = (word Not ⨟ Use neg) ∣ Use comp
-- sum [ ( "=" | "<>" | "<" | "<=" | ">" | ">=" ) sum ]
rule comp = Use sum ⨟ optional (One comparisons ⨟ Use sum)
-- prod { ( "+" | "-" ) prod }
rule sum = Use prod ⨟ Many (One (Plus ∷ Minus ∷ []) ⨟ Use prod)
-- sign { ( "*" | "/" ) sign }
rule prod = Use sign ⨟ Many (One (Star ∷ Slash ∷ []) ⨟ Use sign)
-- "-" sign | base
rule sign = (word Minus ⨟ Use sign) ∣ Use base
-- number | literal | plain | absolute | extreme | brackets | case: a column that is called abs, min or max is read with the function of that name, since only the next token tells them apart
rule base = word Number ∣ word Literal ∣ Use plain ∣ Use absolute ∣ Use extreme ∣ Use brackets ∣ Use case
-- a column of any other name: name [ "." name ]
rule plain = One plain_names ⨟ optional (word Dot ⨟ name)
-- ABS "(" expr ")", or the column abs [ "." name ]
rule absolute = word Abs ⨟ ((word OpenBracket ⨟ Use expr ⨟ word CloseBracket) ∣ optional (word Dot ⨟ name))
-- ( MIN | MAX ) "(" expr "," expr ")", or the column min or max [ "." name ]
rule extreme = One (Min ∷ Max ∷ []) ⨟ ((word OpenBracket ⨟ Use expr ⨟ word Comma ⨟ Use expr ⨟ word CloseBracket) ∣ optional (word Dot ⨟ name))
-- "(" expr ")"
rule brackets = word OpenBracket ⨟ Use expr ⨟ word CloseBracket
-- CASE when { when } ELSE expr END
rule case = word Case ⨟ Use when ⨟ Many (Use when) ⨟ word Else ⨟ Use expr ⨟ word End
-- WHEN expr THEN expr
rule when = word When ⨟ Use expr ⨟ word Then ⨟ Use expr

-- a script: [ statements ]
abbrev pub script : Part
script = optional (Use statements)

-- a tree of derivation
pub data Tree : Type 0 where
  Leaf : Lexeme → Tree
  Nothing : Tree
  Pair : Tree → Tree → Tree
  This : Tree → Tree
  That : Tree → Tree
  More : Tree → Tree → Tree
  Node : Tree → Tree

-- the tokens of a tree, from left to right
abbrev pub yield : Tree → List Lexeme
yield (Leaf l) = l ∷ []
yield Nothing = []
yield (Pair t u) = yield t ++ yield u
yield (This t) = yield t
yield (That t) = yield t
yield (More t u) = yield t ++ yield u
yield (Node t) = yield t

-- where the first of these tokens starts, and where the last one ends
abbrev pub start_of : List Lexeme → ℕ
start_of [] = 0
start_of (l ∷ ls) = l.at.start

abbrev pub end_after : ℕ → List Lexeme → ℕ
end_after last [] = last
end_after last (l ∷ ls) = end_after l.at.end ls

-- a tree derives its tokens from a part
abbrev pub Fits : Part → Tree → Type 0
Fits (One kinds) (Leaf l) = accepts kinds l.kind ≡ true
Fits Empty Nothing = Unit {0}
Fits (Seq p q) (Pair t u) = Fits p t × Fits q u
Fits (Either p q) (This t) = Fits p t
Fits (Either p q) (That t) = Fits q t
Fits (Many p) Nothing = Unit {0}
Fits (Many p) (More t u) = Fits p t × Fits (Many p) u
Fits (Use r) (Node t) = Fits (rule r) t
Fits _ _ = ⊥

-- tokens are a beginning of what a part spells, told by cases that name no completion
pub data Viable : Part → List Lexeme → Type 0 where
  -- nothing begins each part
  none : (p : Part) → Viable p []
  -- one token that a terminal spells
  token : (kinds : List TokenKind) (l : Lexeme) → accepts kinds l.kind ≡ true → Viable (One kinds) (l ∷ [])
  -- of a sequence, they begin the first part, or the first part spells some of them and the rest begins the others
  first : (p q : Part) (ts : List Lexeme) → Viable p ts → Viable (Seq p q) ts
  rest : (p q : Part) (t : Tree) (ts : List Lexeme) → Fits p t → Viable q ts → Viable (Seq p q) (yield t ++ ts)
  -- of a choice, they begin one of the two
  left : (p q : Part) (ts : List Lexeme) → Viable p ts → Viable (Either p q) ts
  right : (p q : Part) (ts : List Lexeme) → Viable q ts → Viable (Either p q) ts
  -- a repetition is a choice between nothing and the part followed by the same repetition
  again : (p : Part) (ts : List Lexeme) → Viable (Seq p (Many p)) ts → Viable (Many p) ts
  by_rule : (r : Rule) (ts : List Lexeme) → Viable (rule r) ts → Viable (Use r) ts
