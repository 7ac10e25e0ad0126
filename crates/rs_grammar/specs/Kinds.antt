-- The kinds of tokens, as numbers, and sets of them.
use Rattle.std.specs.Prelude.{ℕ, ◌==◌, ◌||◌, Bool, false, List, [], ◌∷◌}
use Rattle.rs_grammar.specs.declared.kind.TokenKind.{TokenKind}
use Rattle.rs_grammar.specs.declared.kind.TokenKind.TheVariants.{All, And, As, By, Case, Close, Create, Declare, Desc, Distinct, Else, End, Except, Explain, Fetch, For, From, Insert, Intersect, Limit, Not, On, Or, Order, Select, Then, Union, When, Where, Foreign, Table, Predicate, Rank, Index, Int, Integer, Text, Max, Min, Abs, Cost, Cursor, Analyze, Into, Values, Name, Number, Literal, OpenBracket, CloseBracket, Comma, Semicolon, Dot, Plus, Minus, Star, Slash, Equal, NotEqual, Less, LessEqual, Greater, GreaterEqual}

-- the number of a kind
abbrev pub token_kind_number : TokenKind → ℕ
token_kind_number All = 0
token_kind_number And = 1
token_kind_number As = 2
token_kind_number By = 3
token_kind_number Case = 4
token_kind_number Close = 5
token_kind_number Create = 6
token_kind_number Declare = 7
token_kind_number Desc = 8
token_kind_number Distinct = 9
token_kind_number Else = 10
token_kind_number End = 11
token_kind_number Except = 12
token_kind_number Explain = 13
token_kind_number Fetch = 14
token_kind_number For = 15
token_kind_number From = 16
token_kind_number Insert = 17
token_kind_number Intersect = 18
token_kind_number Limit = 19
token_kind_number Not = 20
token_kind_number On = 21
token_kind_number Or = 22
token_kind_number Order = 23
token_kind_number Select = 24
token_kind_number Then = 25
token_kind_number Union = 26
token_kind_number When = 27
token_kind_number Where = 28
token_kind_number Foreign = 29
token_kind_number Table = 30
token_kind_number Predicate = 31
token_kind_number Rank = 32
token_kind_number Index = 33
token_kind_number Int = 34
token_kind_number Integer = 35
token_kind_number Text = 36
token_kind_number Max = 37
token_kind_number Min = 38
token_kind_number Abs = 39
token_kind_number Cost = 40
token_kind_number Cursor = 41
token_kind_number Analyze = 42
token_kind_number Into = 43
token_kind_number Values = 44
token_kind_number Name = 45
token_kind_number Number = 46
token_kind_number Literal = 47
token_kind_number OpenBracket = 48
token_kind_number CloseBracket = 49
token_kind_number Comma = 50
token_kind_number Semicolon = 51
token_kind_number Dot = 52
token_kind_number Plus = 53
token_kind_number Minus = 54
token_kind_number Star = 55
token_kind_number Slash = 56
token_kind_number Equal = 57
token_kind_number NotEqual = 58
token_kind_number Less = 59
token_kind_number LessEqual = 60
token_kind_number Greater = 61
token_kind_number GreaterEqual = 62

-- whether one of these kinds is that one
abbrev pub accepts : List TokenKind → TokenKind → Bool
accepts [] kind = false
accepts (first ∷ rest) kind = (token_kind_number first == token_kind_number kind) || accepts rest kind

-- a keyword where the grammar doesn't ask for it is a name, as in `rank` of a table that is called so
abbrev pub plain_names : List TokenKind
plain_names = Table ∷ Predicate ∷ Rank ∷ Index ∷ Int ∷ Integer ∷ Text ∷ Cost ∷ Cursor ∷ Analyze ∷ Into ∷ Values ∷ Name ∷ []

-- the keywords that are functions where `(` follows
abbrev pub names : List TokenKind
names = Abs ∷ Min ∷ Max ∷ plain_names

-- comparisons; `!=` is read as `<>`
abbrev pub comparisons : List TokenKind
comparisons = Equal ∷ NotEqual ∷ Less ∷ LessEqual ∷ Greater ∷ GreaterEqual ∷ []

-- the tokens that count towards the depth of a statement
abbrev pub counted_kinds : List TokenKind
counted_kinds = OpenBracket ∷ Plus ∷ Minus ∷ Star ∷ Slash ∷ And ∷ Or ∷ Not ∷ When ∷ []
