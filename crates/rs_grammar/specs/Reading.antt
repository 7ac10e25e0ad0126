-- How a part is read, one token at a time: the first alternative wins that the next token begins. It tells the same as the
-- derivations of the grammar, and what the reader has done where it can't go on. No public clause speaks of it.
use Rattle.std.specs.Prelude.{ℕ, ◌≡◌, ◌-◌, ◌==◌, ◌&&◌, ◌||◌, Bool, true, false, List, [], ◌∷◌, ◌++◌, if◌then◌else◌}
use Rattle.rs_grammar.specs.Kinds.{accepts, counted_kinds, names, plain_names}
use Rattle.rs_grammar.specs.Places.{most_deep}
use Rattle.rs_grammar.specs.Grammar.{Rule, Part, One, Empty, Seq, Either, Many, Use, rule, Tree, Leaf, Nothing, Pair, This, That, More, Node}
use Rattle.rs_grammar.specs.Grammar.{statements, statement, create, create_table, create_predicate, create_rank_index, declare, fetch, close, explain, insert, rows, row, cells, cell, columns, column, select, set_operator, block, items, entries, entry, terms, term, args, arg, colref, expr, conj, neg, comp, sum, prod, sign, base, plain, absolute, extreme, brackets, case, when}
use Rattle.rs_grammar.specs.declared.kind.TokenKind.{TokenKind}
use Rattle.rs_grammar.specs.declared.kind.TokenKind.TheVariants.{And, Case, Close, Create, Declare, Desc, Else, End, Except, Explain, Fetch, From, Insert, Intersect, Limit, Not, Or, Order, Select, Then, Union, When, Where, Table, Predicate, Rank, Max, Min, Abs, Number, Literal, OpenBracket, CloseBracket, Comma, Semicolon, Plus, Minus, Star, Slash, Equal, NotEqual, Less, LessEqual, Greater, GreaterEqual}
use Rattle.rs_grammar.specs.declared.lexeme.Lexeme.{Lexeme}

-- the kinds that a rule can begin with
abbrev pub starts_of : Rule → List TokenKind
starts_of statements = Close ∷ Create ∷ Declare ∷ Explain ∷ Fetch ∷ Insert ∷ Select ∷ []
starts_of statement = Close ∷ Create ∷ Declare ∷ Explain ∷ Fetch ∷ Insert ∷ Select ∷ []
starts_of create = Create ∷ []
starts_of create_table = Table ∷ []
starts_of create_predicate = Predicate ∷ []
starts_of create_rank_index = Rank ∷ []
starts_of declare = Declare ∷ []
starts_of fetch = Fetch ∷ []
starts_of close = Close ∷ []
starts_of explain = Explain ∷ []
starts_of insert = Insert ∷ []
starts_of rows = OpenBracket ∷ []
starts_of row = OpenBracket ∷ []
starts_of cells = Number ∷ Literal ∷ Minus ∷ []
starts_of cell = Number ∷ Literal ∷ Minus ∷ []
starts_of columns = names
starts_of column = names
starts_of select = Select ∷ []
starts_of set_operator = Except ∷ Intersect ∷ Union ∷ []
starts_of block = Select ∷ []
starts_of items = Star ∷ names
starts_of entries = names
starts_of entry = names
starts_of terms = Number ∷ names
starts_of term = Number ∷ names
starts_of args = Number ∷ Literal ∷ Minus ∷ names
starts_of arg = Number ∷ Literal ∷ Minus ∷ names
starts_of colref = names
starts_of expr = Case ∷ Not ∷ Number ∷ Literal ∷ OpenBracket ∷ Minus ∷ names
starts_of conj = Case ∷ Not ∷ Number ∷ Literal ∷ OpenBracket ∷ Minus ∷ names
starts_of neg = Case ∷ Not ∷ Number ∷ Literal ∷ OpenBracket ∷ Minus ∷ names
starts_of comp = Case ∷ Number ∷ Literal ∷ OpenBracket ∷ Minus ∷ names
starts_of sum = Case ∷ Number ∷ Literal ∷ OpenBracket ∷ Minus ∷ names
starts_of prod = Case ∷ Number ∷ Literal ∷ OpenBracket ∷ Minus ∷ names
starts_of sign = Case ∷ Number ∷ Literal ∷ OpenBracket ∷ Minus ∷ names
starts_of base = Case ∷ Number ∷ Literal ∷ OpenBracket ∷ names
starts_of plain = plain_names
starts_of absolute = Abs ∷ []
starts_of extreme = Max ∷ Min ∷ []
starts_of brackets = OpenBracket ∷ []
starts_of case = Case ∷ []
starts_of when = When ∷ []

-- the kinds that can stand behind a rule
abbrev pub follow : Rule → List TokenKind
follow statements = []
follow statement = Semicolon ∷ []
follow create = Semicolon ∷ []
follow create_table = Semicolon ∷ []
follow create_predicate = Semicolon ∷ []
follow create_rank_index = Semicolon ∷ []
follow declare = Semicolon ∷ []
follow fetch = Semicolon ∷ []
follow close = Semicolon ∷ []
follow explain = Semicolon ∷ []
follow insert = Semicolon ∷ []
follow rows = Semicolon ∷ []
follow row = Comma ∷ Semicolon ∷ []
follow cells = CloseBracket ∷ []
follow cell = CloseBracket ∷ Comma ∷ []
follow columns = CloseBracket ∷ []
follow column = CloseBracket ∷ Comma ∷ []
follow select = Semicolon ∷ []
follow set_operator = Select ∷ []
follow block = Except ∷ Intersect ∷ Order ∷ Union ∷ []
follow items = From ∷ []
follow entries = Except ∷ Intersect ∷ Order ∷ Union ∷ Where ∷ []
follow entry = Except ∷ Intersect ∷ Order ∷ Union ∷ Where ∷ Comma ∷ []
follow terms = Desc ∷ Limit ∷ Semicolon ∷ []
follow term = Desc ∷ Limit ∷ Semicolon ∷ Plus ∷ []
follow args = CloseBracket ∷ []
follow arg = CloseBracket ∷ Comma ∷ []
follow colref = From ∷ CloseBracket ∷ Comma ∷ []
follow expr = Else ∷ End ∷ Except ∷ Intersect ∷ Order ∷ Then ∷ Union ∷ When ∷ CloseBracket ∷ Comma ∷ Semicolon ∷ []
follow conj = Else ∷ End ∷ Except ∷ Intersect ∷ Or ∷ Order ∷ Then ∷ Union ∷ When ∷ CloseBracket ∷ Comma ∷ Semicolon ∷ []
follow neg = And ∷ Else ∷ End ∷ Except ∷ Intersect ∷ Or ∷ Order ∷ Then ∷ Union ∷ When ∷ CloseBracket ∷ Comma ∷ Semicolon ∷ []
follow comp = And ∷ Else ∷ End ∷ Except ∷ Intersect ∷ Or ∷ Order ∷ Then ∷ Union ∷ When ∷ CloseBracket ∷ Comma ∷ Semicolon ∷ []
follow sum = And ∷ Else ∷ End ∷ Except ∷ Intersect ∷ Or ∷ Order ∷ Then ∷ Union ∷ When ∷ CloseBracket ∷ Comma ∷ Semicolon ∷ Equal ∷ NotEqual ∷ Less ∷ LessEqual ∷ Greater ∷ GreaterEqual ∷ []
follow prod = And ∷ Else ∷ End ∷ Except ∷ Intersect ∷ Or ∷ Order ∷ Then ∷ Union ∷ When ∷ CloseBracket ∷ Comma ∷ Semicolon ∷ Plus ∷ Minus ∷ Equal ∷ NotEqual ∷ Less ∷ LessEqual ∷ Greater ∷ GreaterEqual ∷ []
follow sign = And ∷ Else ∷ End ∷ Except ∷ Intersect ∷ Or ∷ Order ∷ Then ∷ Union ∷ When ∷ CloseBracket ∷ Comma ∷ Semicolon ∷ Plus ∷ Minus ∷ Star ∷ Slash ∷ Equal ∷ NotEqual ∷ Less ∷ LessEqual ∷ Greater ∷ GreaterEqual ∷ []
follow base = And ∷ Else ∷ End ∷ Except ∷ Intersect ∷ Or ∷ Order ∷ Then ∷ Union ∷ When ∷ CloseBracket ∷ Comma ∷ Semicolon ∷ Plus ∷ Minus ∷ Star ∷ Slash ∷ Equal ∷ NotEqual ∷ Less ∷ LessEqual ∷ Greater ∷ GreaterEqual ∷ []
follow plain = And ∷ Else ∷ End ∷ Except ∷ Intersect ∷ Or ∷ Order ∷ Then ∷ Union ∷ When ∷ CloseBracket ∷ Comma ∷ Semicolon ∷ Plus ∷ Minus ∷ Star ∷ Slash ∷ Equal ∷ NotEqual ∷ Less ∷ LessEqual ∷ Greater ∷ GreaterEqual ∷ []
follow absolute = And ∷ Else ∷ End ∷ Except ∷ Intersect ∷ Or ∷ Order ∷ Then ∷ Union ∷ When ∷ CloseBracket ∷ Comma ∷ Semicolon ∷ Plus ∷ Minus ∷ Star ∷ Slash ∷ Equal ∷ NotEqual ∷ Less ∷ LessEqual ∷ Greater ∷ GreaterEqual ∷ []
follow extreme = And ∷ Else ∷ End ∷ Except ∷ Intersect ∷ Or ∷ Order ∷ Then ∷ Union ∷ When ∷ CloseBracket ∷ Comma ∷ Semicolon ∷ Plus ∷ Minus ∷ Star ∷ Slash ∷ Equal ∷ NotEqual ∷ Less ∷ LessEqual ∷ Greater ∷ GreaterEqual ∷ []
follow brackets = And ∷ Else ∷ End ∷ Except ∷ Intersect ∷ Or ∷ Order ∷ Then ∷ Union ∷ When ∷ CloseBracket ∷ Comma ∷ Semicolon ∷ Plus ∷ Minus ∷ Star ∷ Slash ∷ Equal ∷ NotEqual ∷ Less ∷ LessEqual ∷ Greater ∷ GreaterEqual ∷ []
follow case = And ∷ Else ∷ End ∷ Except ∷ Intersect ∷ Or ∷ Order ∷ Then ∷ Union ∷ When ∷ CloseBracket ∷ Comma ∷ Semicolon ∷ Plus ∷ Minus ∷ Star ∷ Slash ∷ Equal ∷ NotEqual ∷ Less ∷ LessEqual ∷ Greater ∷ GreaterEqual ∷ []
follow when = Else ∷ When ∷ []

-- whether a part can spell nothing
abbrev pub nullable : Part → Bool
nullable (One kinds) = false
nullable Empty = true
nullable (Seq p q) = nullable p && nullable q
nullable (Either p q) = nullable p || nullable q
nullable (Many p) = true
nullable (Use r) = false

-- the kinds that a part can begin with
abbrev pub starts : Part → List TokenKind
starts (One kinds) = kinds
starts Empty = []
starts (Seq p q) = starts p ++ (if nullable p then starts q else [])
starts (Either p q) = starts p ++ starts q
starts (Many p) = starts p
starts (Use r) = starts_of r

-- where a reader stands: the tokens in front of it, how many tokens that count towards the depth it may still take in this
-- statement, and where the last token ended
pub record State : Type 0 where
  pub rest : List Lexeme
  pub left : ℕ
  pub last : ℕ

-- how many such tokens are left behind a token
abbrev pub left_behind : TokenKind → ℕ → ℕ
left_behind kind left = if accepts (Semicolon ∷ []) kind then most_deep else if accepts counted_kinds kind then left - 1 else left

-- whether a token is one too many
abbrev pub is_too_deep : TokenKind → ℕ → Bool
is_too_deep kind left = accepts counted_kinds kind && (left == 0)

-- a reader takes the token in front of it
pub record Takes (l : Lexeme) (b a : State) : Type 0 where
  pub rest : b.rest ≡ l ∷ a.rest
  pub left : a.left ≡ left_behind l.kind b.left
  pub last : a.last ≡ l.at.end

-- whether the next token is of one of these kinds
abbrev pub next_is : List TokenKind → List Lexeme → Bool
next_is kinds [] = false
next_is kinds (l ∷ ls) = accepts kinds l.kind

-- whether the next token begins a part
abbrev pub opens : Part → State → Bool
opens p b = next_is (starts p) b.rest

-- a reader reads a part
pub data Read : Part → State → Tree → State → Type 0 where
  token : (kinds : List TokenKind) (l : Lexeme) (b a : State) → Takes l b a → accepts kinds l.kind ≡ true → is_too_deep l.kind b.left ≡ false → Read (One kinds) b (Leaf l) a
  empty : (b : State) → Read Empty b Nothing b
  both : (p q : Part) (t u : Tree) (b x a : State) → Read p b t x → Read q x u a → Read (Seq p q) b (Pair t u) a
  this : (p q : Part) (t : Tree) (b a : State) → opens p b ≡ true → Read p b t a → Read (Either p q) b (This t) a
  that : (p q : Part) (t : Tree) (b a : State) → opens p b ≡ false → Read q b t a → Read (Either p q) b (That t) a
  stop : (p : Part) (b : State) → opens p b ≡ false → Read (Many p) b Nothing b
  more : (p : Part) (t u : Tree) (b x a : State) → opens p b ≡ true → Read p b t x → Read (Many p) x u a → Read (Many p) b (More t u) a
  by_rule : (r : Rule) (t : Tree) (b a : State) → Read (rule r) b t a → Read (Use r) b (Node t) a

-- a reader can't go on: the next token isn't one that may stand there, or it is one too many
pub data Cause : Type 0 where
  Expected TooDeep : Cause

pub data Fails : Part → State → Cause → State → Type 0 where
  other : (kinds : List TokenKind) (b : State) → next_is kinds b.rest ≡ false → Fails (One kinds) b Expected b
  deep : (kinds : List TokenKind) (l : Lexeme) (ls : List Lexeme) (b : State) → b.rest ≡ l ∷ ls → accepts kinds l.kind ≡ true → is_too_deep l.kind b.left ≡ true → Fails (One kinds) b TooDeep b
  first : (p q : Part) (c : Cause) (b a : State) → Fails p b c a → Fails (Seq p q) b c a
  second : (p q : Part) (t : Tree) (c : Cause) (b x a : State) → Read p b t x → Fails q x c a → Fails (Seq p q) b c a
  this : (p q : Part) (c : Cause) (b a : State) → opens p b ≡ true → Fails p b c a → Fails (Either p q) b c a
  that : (p q : Part) (c : Cause) (b a : State) → opens p b ≡ false → Fails q b c a → Fails (Either p q) b c a
  item : (p : Part) (c : Cause) (b a : State) → opens p b ≡ true → Fails p b c a → Fails (Many p) b c a
  later : (p : Part) (t : Tree) (c : Cause) (b x a : State) → opens p b ≡ true → Read p b t x → Fails (Many p) x c a → Fails (Many p) b c a
  by_rule : (r : Rule) (c : Cause) (b a : State) → Fails (rule r) b c a → Fails (Use r) b c a
