-- What scripts are parsed to and refused with, computed on literals.
use Rattle.std.proofs.Common.{ℕ, zero, suc, ◌≡◌, ◌+◌, ◌≤◌, Bool, true, false, List, [], ◌∷◌, length, take, drop, refl, sym, ap, subst, ◌∙◌, ◌++◌, append-nil, arith, inl, Some, None, lit≤, if◌then◌else◌}
use Rattle.std.specs.Prelude.{Option, codes, pos, negsuc}
use Rattle.std.proofs.lemmas.List.{length-map, length-take, length-take-le, drop_all}
use Rattle.rs_value.specs.declared.rel.Rel.TheVariants.{Eq}
use Rattle.rs_value.specs.declared.kind.Kind.TheVariants as value
use Rattle.rs_lex.specs.Front.{front_of}
use Rattle.rs_lex.specs.Spelling.{Spells, token_at}
use Rattle.rs_lex.specs.declared.token.Sort.TheVariants as sort
use Rattle.rs_lex.specs.declared.token.Token.{Token}
use Rattle.rs_grammar.specs.Grammar.{Tree, That, Nothing, Viable, script}
use Rattle.rs_grammar.specs.Lexemes.{words, symbols, lexeme_of}
use Rattle.rs_grammar.specs.Places.{most_deep, most_statements, IsScript, is_semicolon, statements_ended, IsWithinStatements}
use Rattle.rs_grammar.specs.Reading.{State, Read, Fails, Cause, Expected}
use Rattle.rs_grammar.specs.Reading as reading
use Rattle.rs_grammar.specs.declared.lexeme.Lexeme.{Lexeme}
use Rattle.rs_grammar.proofs.Computed.{spell, spell-spells, Outcome, Got, Stuck, NoFuel, run, Says, run-says}
use Rattle.rs_grammar.proofs.Derivation.{Front, Fails-front}
use Rattle.rs_syntax.specs.Cut.{refusal_of}
use Rattle.rs_syntax.specs.Expressions.{expr_of}
use Rattle.rs_syntax.specs.Scripts.{Parses, Refuses, IsSound, lexemes_of}
use Rattle.rs_syntax.specs.Statements.{script_of}
use Rattle.rs_syntax.specs.Syntax.{Expression, Int, Column, Arith, Compare, And, Not, Command, CreateTable, CreatePredicate, Ask, Close, Insert}
use Rattle.rs_syntax.specs.Trees.{span, starts_at, ends_at}
use Rattle.rs_syntax.specs.declared.fault.SyntaxFault.{SyntaxFault}
use Rattle.rs_syntax.specs.declared.fault.SyntaxFault.TheVariants as fault
use Rattle.rs_syntax.specs.declared.name.Name.{Name}
use Rattle.rs_syntax.specs.declared.name.ColRef.{ColRef}
use Rattle.rs_syntax.specs.declared.name.Arg.TheVariants as arg
use Rattle.rs_syntax.specs.declared.node.Op.TheVariants.{Sub}
use Rattle.rs_syntax.specs.declared.row.Cell.{Cell}
use Rattle.rs_syntax.specs.declared.row.Cell.TheVariants as cell
use Rattle.rs_syntax.specs.declared.row.RowSyn.{RowSyn}
use Rattle.rs_syntax.specs.declared.select.Items.TheVariants as items
use Rattle.rs_syntax.specs.declared.select.TermSyn.{TermSyn}
use Rattle.rs_syntax.proofs.ScriptFacts.{Given, begin, Halts-refused, Halts-too_deep, Read-refused, Read-parses, Read-sound}

-- no more statements end than there are tokens
at_most_one : (b : Bool) → (if b then 1 else 0) ≤ 1
at_most_one true = omega arith
at_most_one false = omega arith

statements_ended-length : (ls : List Lexeme) → statements_ended ls ≤ length ls
statements_ended-length [] = omega arith
statements_ended-length (l ∷ ls) = omega (arith, at_most_one (is_semicolon l), statements_ended-length ls)

few-statements : (ls : List Lexeme) → length ls ≤ most_statements → IsWithinStatements ls
few-statements ls few i h = omega (arith, statements_ended-length (take i ls), length-take-le i ls (omega arith))

-- the parser is given all tokens of a short script
given : (text : List ℕ) (tokens : List Token) → length tokens ≤ most_statements → Given text tokens (length tokens)
given text tokens few = record {
  few = few-statements (take (length tokens) (lexemes_of text tokens)) (omega (arith, few, length-take (length tokens) (lexemes_of text tokens)));
  cut = inl (drop_all (length tokens) (lexemes_of text tokens) (omega (arith, length-map tokens (lexeme_of text))));
}

-- where it begins
abbrev whole : List ℕ → List Token → State
whole text tokens = begin text tokens (length tokens)

-- what was read stands for these statements, where no token is left
abbrev read_as : Tree → List Lexeme → Option (List Command)
read_as t [] = Some (script_of t)
read_as t (l ∷ ls) = None

abbrev meaning : Outcome → Option (List Command)
meaning (Got t a) = read_as t a.rest
meaning (Stuck c a) = None
meaning NoFuel = None

-- the tokens of a script parse to these statements, and nothing is wrong with them
record Accepts (text : List ℕ) (tokens : List Token) (commands : List Command) : Type 0 where
  parses : Parses text tokens commands
  sound : IsSound text tokens

accepts-by : (fuel : ℕ) (text : List ℕ) (tokens : List Token) (commands : List Command) → length tokens ≤ most_statements
    → meaning (run fuel script (whole text tokens)) ≡ Some commands → Accepts text tokens commands
accepts-by fuel text tokens commands few e = go (run fuel script (whole text tokens)) (run-says fuel script (whole text tokens)) e
  where
    all : drop (length tokens) tokens ≡ []
    all = drop_all (length tokens) tokens (omega arith)

    done : (t : Tree) (a : State) (rest : List Lexeme) → a.rest ≡ rest → Read script (whole text tokens) t a → read_as t rest ≡ Some commands → Accepts text tokens commands
    done t a [] here h e = record {
      parses = Read-parses text tokens (length tokens) t a commands (given text tokens few) h here all (let same : Some (script_of t) ≡ Some commands = e in cc);
      sound = Read-sound text tokens (length tokens) t a (given text tokens few) h here all;
    }
    done t a (l ∷ ls) here h e = let no : None ≡ Some commands = e in cc

    go : (o : Outcome) → Says script (whole text tokens) o → meaning o ≡ Some commands → Accepts text tokens commands
    go (Got t a) h e = done t a a.rest refl h e
    go (Stuck c a) h e = let no : None ≡ Some commands = e in cc
    go NoFuel h e = let no : None ≡ Some commands = e in cc

-- what is told where the reader stopped
abbrev told_behind : List ℕ → List Lexeme → Option SyntaxFault
told_behind text [] = None
told_behind text (l ∷ ls) = Some (refusal_of (l ∷ ls) [] (length text) false)

abbrev told : List ℕ → Outcome → Option SyntaxFault
told text (Got t a) = told_behind text a.rest
told text (Stuck Expected a) = Some (refusal_of a.rest [] (length text) false)
told text (Stuck reading.TooDeep a) = Some (refusal_of a.rest [] (length text) true)
told text NoFuel = None

refuses-by : (fuel : ℕ) (text : List ℕ) (tokens : List Token) (fault : SyntaxFault) → length tokens ≤ most_statements
    → told text (run fuel script (whole text tokens)) ≡ Some fault → Refuses text tokens fault
refuses-by fuel text tokens fault few e = go (run fuel script (whole text tokens)) (run-says fuel script (whole text tokens)) e
  where
    all : drop (length tokens) tokens ≡ []
    all = drop_all (length tokens) tokens (omega arith)

    stopped : (deep : Bool) (rest : List Lexeme) → Refuses text tokens (refusal_of rest (drop (length tokens) tokens) (length text) deep)
        → Some (refusal_of rest [] (length text) deep) ≡ Some fault → Refuses text tokens fault
    stopped deep rest h e =
        let same : refusal_of rest [] (length text) deep ≡ fault = cc in
        subst (Refuses text tokens) same (subst (λ ts. Refuses text tokens (refusal_of rest ts (length text) deep)) all h)

    done : (t : Tree) (a : State) (rest : List Lexeme) → a.rest ≡ rest → Read script (whole text tokens) t a → told_behind text rest ≡ Some fault → Refuses text tokens fault
    done t a [] here h e = let no : None ≡ Some fault = e in cc
    done t a (l ∷ ls) here h e =
        stopped false (l ∷ ls)
        (subst (λ rest. Refuses text tokens (refusal_of rest (drop (length tokens) tokens) (length text) false)) here
        (Read-refused text tokens (length tokens) t a (given text tokens few) h (λ none. let no : l ∷ ls ≡ [] = sym here ∙ none in cc))) e

    go : (o : Outcome) → Says script (whole text tokens) o → told text o ≡ Some fault → Refuses text tokens fault
    go (Got t a) h e = done t a a.rest refl h e
    go (Stuck Expected a) h e = stopped false a.rest (Halts-refused text tokens (length tokens) a (given text tokens few) (record { fails = h })) e
    go (Stuck reading.TooDeep a) h e = stopped true a.rest (Halts-too_deep text tokens (length tokens) a (given text tokens few) (record { fails = h })) e
    go NoFuel h e = let no : None ≡ Some fault = e in cc

-- a reader that stops at the end of some tokens has read a beginning
abbrev is_at_end : List Lexeme → Bool
is_at_end [] = true
is_at_end (l ∷ ls) = false

abbrev runs_out : Outcome → Bool
runs_out (Got t a) = false
runs_out (Stuck c a) = is_at_end a.rest
runs_out NoFuel = false

viable-by : (fuel : ℕ) (ls : List Lexeme) → runs_out (run fuel script (record { rest = ls; left = most_deep; last = 0 })) ≡ true → Viable script ls
viable-by fuel ls e = go (run fuel script b) (run-says fuel script b) e
  where
    b : State
    b = record { rest = ls; left = most_deep; last = 0 }

    done : (c : Cause) (a : State) (rest : List Lexeme) → a.rest ≡ rest → Fails script b c a → is_at_end rest ≡ true → Viable script ls
    done c a [] here h e =
        let f : Front script b a = Fails-front script c b a h in
        subst (Viable script) (sym (append-nil f.tokens) ∙ ap (λ rest. f.tokens ++ rest) (sym here) ∙ sym f.split) f.viable
    done c a (l ∷ ls) here h e = let no : false ≡ true = e in cc

    go : (o : Outcome) → Says script b o → runs_out o ≡ true → Viable script ls
    go (Got t a) h e = let no : false ≡ true = e in cc
    go (Stuck c a) h e = done c a a.rest refl h e
    go NoFuel h e = let no : false ≡ true = e in cc

-- a script whose tokens are known by the lexer that computes
abbrev tokens_in : Option (List Token) → List Token
tokens_in None = []
tokens_in (Some tokens) = tokens

abbrev lexed : List ℕ → List Token
lexed text = tokens_in (spell 200 0 text)

-- it spells tokens, and they parse to these statements
record Means (text : List ℕ) (commands : List Command) : Type 0 where
  tokens : List Token
  spelled : Spells 0 text tokens
  accepts : Accepts text tokens commands

means-by : (text : List ℕ) (commands : List Command) → spell 200 0 text ≡ Some (lexed text) → length (lexed text) ≤ most_statements
    → meaning (run 200 script (whole text (lexed text))) ≡ Some commands → Means text commands
means-by text commands lexes few e =
    record { tokens = lexed text; spelled = spell-spells 200 0 text (lexed text) lexes; accepts = accepts-by 200 text (lexed text) commands few e }

-- it spells tokens, and they are refused with this fault
record IsRefusedWith (text : List ℕ) (fault : SyntaxFault) : Type 0 where
  tokens : List Token
  spelled : Spells 0 text tokens
  refuses : Refuses text tokens fault

refused-by : (text : List ℕ) (fault : SyntaxFault) → spell 200 0 text ≡ Some (lexed text) → length (lexed text) ≤ most_statements
    → told text (run 200 script (whole text (lexed text))) ≡ Some fault → IsRefusedWith text fault
refused-by text fault lexes few e =
    record { tokens = lexed text; spelled = spell-spells 200 0 text (lexed text) lexes; refuses = refuses-by 200 text (lexed text) fault few e }

-- all that has to compute
computes : Unit {0}
unfolding words symbols front_of starts_at ends_at expr_of spell run
computes = tt

-- names, columns and terms of literals
abbrev named : List ℕ → ℕ → ℕ → Name
named text start end = record { text = text; at = span start end }

abbrev column : List ℕ → ℕ → ℕ → ColRef
column text start end = record { alias = None; column = named text start end }

-- a predicate of one column, without a weight
abbrev term : Name → ColRef → ℕ → ℕ → TermSyn
term predicate argument start end = record { weight = (pos 1, predicate.at); predicate = predicate; args = arg.Column argument ∷ []; at = span start end }

-- no statement
only_a_comment : Means (codes "-- only this") []
unfolding computes
only_a_comment = means-by _ _ refl (lit≤ tt) refl

nothing_at_all : IsScript []
nothing_at_all = (That Nothing, tt, refl)

-- four statements
abbrev four : List ℕ
four =
    codes "CREATE TABLE h (name TEXT, price INT, city INT) FROM 'h.csv';\nCREATE PREDICATE p (v INT) MAX 100 AS v;\nSELECT name FROM h ORDER BY p(price) LIMIT 1;\nSELECT name FROM h WHERE name = 3 ORDER BY p(price) LIMIT 1;\n"

abbrev four_tokens : List Token
four_tokens =
    token_at 0 sort.Word 6 ∷ token_at 7 sort.Word 5 ∷ token_at 13 sort.Word 1 ∷ token_at 15 sort.Symbol 1 ∷ token_at 16 sort.Word 4 ∷ token_at 21 sort.Word 4
    ∷ token_at 25 sort.Symbol 1 ∷ token_at 27 sort.Word 5 ∷ token_at 33 sort.Word 3 ∷ token_at 36 sort.Symbol 1 ∷ token_at 38 sort.Word 4 ∷ token_at 43 sort.Word 3
    ∷ token_at 46 sort.Symbol 1 ∷ token_at 48 sort.Word 4 ∷ token_at 53 sort.Literal 7 ∷ token_at 60 sort.Symbol 1
    ∷ token_at 62 sort.Word 6 ∷ token_at 69 sort.Word 9 ∷ token_at 79 sort.Word 1 ∷ token_at 81 sort.Symbol 1 ∷ token_at 82 sort.Word 1 ∷ token_at 84 sort.Word 3
    ∷ token_at 87 sort.Symbol 1 ∷ token_at 89 sort.Word 3 ∷ token_at 93 sort.Number 3 ∷ token_at 97 sort.Word 2 ∷ token_at 100 sort.Word 1 ∷ token_at 101 sort.Symbol 1
    ∷ token_at 103 sort.Word 6 ∷ token_at 110 sort.Word 4 ∷ token_at 115 sort.Word 4 ∷ token_at 120 sort.Word 1 ∷ token_at 122 sort.Word 5 ∷ token_at 128 sort.Word 2
    ∷ token_at 131 sort.Word 1 ∷ token_at 132 sort.Symbol 1 ∷ token_at 133 sort.Word 5 ∷ token_at 138 sort.Symbol 1 ∷ token_at 140 sort.Word 5 ∷ token_at 146 sort.Number 1
    ∷ token_at 147 sort.Symbol 1
    ∷ token_at 149 sort.Word 6 ∷ token_at 156 sort.Word 4 ∷ token_at 161 sort.Word 4 ∷ token_at 166 sort.Word 1 ∷ token_at 168 sort.Word 5 ∷ token_at 174 sort.Word 4
    ∷ token_at 179 sort.Symbol 1 ∷ token_at 181 sort.Number 1 ∷ token_at 183 sort.Word 5 ∷ token_at 189 sort.Word 2 ∷ token_at 192 sort.Word 1 ∷ token_at 193 sort.Symbol 1
    ∷ token_at 194 sort.Word 5 ∷ token_at 199 sort.Symbol 1 ∷ token_at 201 sort.Word 5 ∷ token_at 207 sort.Number 1 ∷ token_at 208 sort.Symbol 1 ∷ []

four_spelled : Spells 0 four four_tokens
unfolding computes
four_spelled = spell-spells 200 0 _ _ refl

-- what they say
abbrev a_table : Command
a_table =
    CreateTable (named (codes "h") 13 14)
    ((named (codes "name") 16 20, value.Text) ∷ (named (codes "price") 27 32, value.Int) ∷ (named (codes "city") 38 42, value.Int) ∷ []) (codes "h.csv")

abbrev a_predicate : Command
a_predicate =
    CreatePredicate (named (codes "p") 79 80) ((named (codes "v") 82 83, value.Int) ∷ []) (pos 100, span 93 96) None (Column (column (codes "v") 100 101))

abbrev a_query : Command
a_query =
    Ask (record {
      left = record { distinct = false; items = items.List (column (codes "name") 110 114 ∷ []); from = (named (codes "h") 120 121, None) ∷ []; filter = None };
      right = None;
      terms = term (named (codes "p") 131 132) (column (codes "price") 133 138) 131 139 ∷ [];
      limit = Some (pos 1, span 146 147);
    })

abbrev a_filter : Expression
a_filter = Compare Eq (Column (column (codes "name") 174 178)) (Int (pos 3) (span 181 182)) (span 174 182)

abbrev a_query_with_a_filter : Command
a_query_with_a_filter =
    Ask (record {
      left = record { distinct = false; items = items.List (column (codes "name") 156 160 ∷ []); from = (named (codes "h") 166 167, None) ∷ []; filter = Some a_filter };
      right = None;
      terms = term (named (codes "p") 192 193) (column (codes "price") 194 199) 192 200 ∷ [];
      limit = Some (pos 1, span 207 208);
    })

four_accepted : Accepts four four_tokens (a_table ∷ a_predicate ∷ a_query ∷ a_query_with_a_filter ∷ [])
unfolding computes
four_accepted = accepts-by 200 _ _ _ (lit≤ tt) refl

four_parsed : Parses four four_tokens (a_table ∷ a_predicate ∷ a_query ∷ a_query_with_a_filter ∷ [])
four_parsed = four_accepted.parses

-- a word out of the profile
abbrev ascending : List ℕ
ascending = codes "SELECT * FROM h ORDER BY p(price) ASC;"

abbrev ascending_tokens : List Token
ascending_tokens =
    token_at 0 sort.Word 6 ∷ token_at 7 sort.Symbol 1 ∷ token_at 9 sort.Word 4 ∷ token_at 14 sort.Word 1 ∷ token_at 16 sort.Word 5 ∷ token_at 22 sort.Word 2
    ∷ token_at 25 sort.Word 1 ∷ token_at 26 sort.Symbol 1 ∷ token_at 27 sort.Word 5 ∷ token_at 32 sort.Symbol 1 ∷ token_at 34 sort.Word 3 ∷ token_at 37 sort.Symbol 1 ∷ []

ascending_spelled : Spells 0 ascending ascending_tokens
unfolding computes
ascending_spelled = spell-spells 200 0 _ _ refl

ascending_refused : Refuses ascending ascending_tokens (fault.NotInProfile 34)
unfolding computes
ascending_refused = refuses-by 200 _ _ _ (lit≤ tt) refl

-- a keyword and a name between marks are names
two_closed : Means (codes "CLOSE rank; CLOSE \"a\"\"b\"") (Close (named (codes "rank") 6 10) ∷ Close (named (codes "a\"b") 18 24) ∷ [])
unfolding computes
two_closed = means-by _ _ refl (lit≤ tt) refl

-- an empty statement, a token behind a statement, and none where one is missing
empty_statement : IsRefusedWith (codes ";") (fault.Expected 0)
unfolding computes
empty_statement = refused-by _ _ refl (lit≤ tt) refl

two_names : IsRefusedWith (codes "CLOSE a b") (fault.Expected 8)
unfolding computes
two_names = refused-by _ _ refl (lit≤ tt) refl

no_name : IsRefusedWith (codes "CLOSE") (fault.Expected 5)
unfolding computes
no_name = refused-by _ _ refl (lit≤ tt) refl

-- queries of one block, of the column a, with a filter
abbrev filtered : Expression → TermSyn → Command
filtered filter ranked =
    Ask (record {
      left = record { distinct = false; items = items.List (column (codes "a") 7 8 ∷ []); from = (named (codes "h") 14 15, None) ∷ []; filter = Some filter };
      right = None;
      terms = ranked ∷ [];
      limit = None;
    })

-- operators of one rank group to the left
abbrev a_minus_b : Expression
a_minus_b = Arith Sub (Column (column (codes "a") 22 23)) (Column (column (codes "b") 26 27)) (span 22 27)

abbrev differences : Expression
differences = Compare Eq (Arith Sub a_minus_b (Column (column (codes "c") 30 31)) (span 22 31)) (Int (pos 0) (span 34 35)) (span 22 35)

groups_to_the_left : Means (codes "SELECT a FROM h WHERE a - b - c = 0 ORDER BY p(a)")
    (filtered differences (term (named (codes "p") 45 46) (column (codes "a") 47 48) 45 49) ∷ [])
unfolding computes
groups_to_the_left = means-by _ _ refl (lit≤ tt) refl

-- NOT takes a comparison, and AND stands round it
abbrev denied : Expression
denied = Not (Compare Eq (Column (column (codes "a") 26 27)) (Int (pos 1) (span 30 31)) (span 26 31)) (span 22 31)

abbrev both : Expression
both = And denied (Compare Eq (Column (column (codes "b") 36 37)) (Int (pos 2) (span 40 41)) (span 36 41)) (span 22 41)

not_before_and : Means (codes "SELECT a FROM h WHERE NOT a = 1 AND b = 2 ORDER BY p(a)") (filtered both (term (named (codes "p") 51 52) (column (codes "a") 53 54) 51 55) ∷ [])
unfolding computes
not_before_and = means-by _ _ refl (lit≤ tt) refl

-- the beginning of a query, which is none
abbrev begun_tokens : List Token
begun_tokens = token_at 0 sort.Word 6 ∷ token_at 7 sort.Word 1 ∷ token_at 9 sort.Word 4 ∷ []

begun_spelled : Spells 0 (codes "SELECT a FROM") begun_tokens
unfolding computes
begun_spelled = spell-spells 200 0 _ _ refl

begun : Viable script (lexemes_of (codes "SELECT a FROM") begun_tokens)
unfolding computes
begun = viable-by 200 _ refl

only_begun : Refuses (codes "SELECT a FROM") begun_tokens (fault.Expected 13)
unfolding computes
only_begun = refuses-by 200 _ _ _ (lit≤ tt) refl

-- this many times NOT, and their tokens from a place on
abbrev denials : ℕ → List ℕ
denials zero = []
denials (suc n) = codes "NOT " ++ denials n

abbrev denial_tokens : ℕ → ℕ → List Token
denial_tokens zero at = []
denial_tokens (suc n) at = token_at at sort.Word 3 ∷ denial_tokens n (at + 4)

abbrev filter_tokens : ℕ → List Token
filter_tokens n = token_at 0 sort.Word 6 ∷ token_at 7 sort.Word 1 ∷ token_at 9 sort.Word 4 ∷ token_at 14 sort.Word 1 ∷ token_at 16 sort.Word 5 ∷ denial_tokens n 22

-- 256 of them are within the limit, so that only the comparison is missing, at the end
at_the_limit : Refuses (codes "SELECT a FROM h WHERE " ++ denials 256) (filter_tokens 256) (fault.Expected 1046)
unfolding computes
at_the_limit = refuses-by 1000 (codes "SELECT a FROM h WHERE " ++ denials 256) (filter_tokens 256) (fault.Expected 1046) (lit≤ tt) refl

-- the next one is one too many
too_deep : Refuses (codes "SELECT a FROM h WHERE " ++ denials 257) (filter_tokens 257) (fault.TooDeep 1046)
unfolding computes
too_deep = refuses-by 1000 (codes "SELECT a FROM h WHERE " ++ denials 257) (filter_tokens 257) (fault.TooDeep 1046) (lit≤ tt) refl

-- rows of an INSERT: a number with a sign has the place of both tokens, and a row that of its brackets
abbrev row : List Cell → ℕ → ℕ → RowSyn
row cells start end = record { cells = cells; at = span start end }

two_rows : Means (codes "INSERT INTO t VALUES (9, -1), (- 2, 'a''b')")
    (Insert (named (codes "t") 12 13)
    (row (cell.Int (pos 9) (span 22 23) ∷ cell.Int (negsuc 0) (span 25 27) ∷ []) 21 28
    ∷ row (cell.Int (negsuc 1) (span 31 34) ∷ cell.Text (codes "a'b") (span 36 42) ∷ []) 30 43 ∷ []) ∷ [])
unfolding computes
two_rows = means-by _ _ refl (lit≤ tt) refl

-- INTO and VALUES are names where the grammar doesn't ask for them, and INSERT is none
into_a_keyword : Means (codes "INSERT INTO into VALUES (1); CLOSE values")
    (Insert (named (codes "into") 12 16) (row (cell.Int (pos 1) (span 25 26) ∷ []) 24 27 ∷ []) ∷ Close (named (codes "values") 35 41) ∷ [])
unfolding computes
into_a_keyword = means-by _ _ refl (lit≤ tt) refl

insert_is_reserved : IsRefusedWith (codes "CLOSE insert") (fault.Expected 6)
unfolding computes
insert_is_reserved = refused-by _ _ refl (lit≤ tt) refl

-- no cell, no row behind a comma, a list of columns, a column for a value, and a sign in front of a sign or of a text
no_cell : IsRefusedWith (codes "INSERT INTO t VALUES ()") (fault.Expected 22)
unfolding computes
no_cell = refused-by _ _ refl (lit≤ tt) refl

no_further_row : IsRefusedWith (codes "INSERT INTO t VALUES (1),") (fault.Expected 25)
unfolding computes
no_further_row = refused-by _ _ refl (lit≤ tt) refl

no_list_of_columns : IsRefusedWith (codes "INSERT INTO t (a) VALUES (1)") (fault.Expected 14)
unfolding computes
no_list_of_columns = refused-by _ _ refl (lit≤ tt) refl

no_column : IsRefusedWith (codes "INSERT INTO t VALUES (v)") (fault.Expected 22)
unfolding computes
no_column = refused-by _ _ refl (lit≤ tt) refl

no_two_signs : IsRefusedWith (codes "INSERT INTO t VALUES (- -1)") (fault.Expected 24)
unfolding computes
no_two_signs = refused-by _ _ refl (lit≤ tt) refl

no_signed_text : IsRefusedWith (codes "INSERT INTO t VALUES (-'a')") (fault.Expected 23)
unfolding computes
no_signed_text = refused-by _ _ refl (lit≤ tt) refl

no_null : IsRefusedWith (codes "INSERT INTO t VALUES (NULL)") (fault.NotInProfile 22)
unfolding computes
no_null = refused-by _ _ refl (lit≤ tt) refl

-- this many rows of a number with a sign, each with a comma behind it, and their tokens from a place on
abbrev signed_rows : ℕ → List ℕ
signed_rows zero = []
signed_rows (suc n) = codes "(-1)," ++ signed_rows n

abbrev signed_row_tokens : ℕ → ℕ → List Token → List Token
signed_row_tokens zero at behind = behind
signed_row_tokens (suc n) at behind =
    token_at at sort.Symbol 1 ∷ token_at (at + 1) sort.Symbol 1 ∷ token_at (at + 2) sort.Number 1 ∷ token_at (at + 3) sort.Symbol 1 ∷ token_at (at + 4) sort.Symbol 1
    ∷ signed_row_tokens n (at + 5) behind

abbrev insert_tokens : List Token → List Token
insert_tokens rows = token_at 0 sort.Word 6 ∷ token_at 7 sort.Word 4 ∷ token_at 12 sort.Word 1 ∷ token_at 14 sort.Word 6 ∷ rows

-- the bracket and the sign of 128 rows are within the limit, so that only the next row is missing, at the end
rows_at_the_limit : Refuses (codes "INSERT INTO t VALUES " ++ signed_rows 128) (insert_tokens (signed_row_tokens 128 21 [])) (fault.Expected 661)
unfolding computes
rows_at_the_limit =
    refuses-by 1000 (codes "INSERT INTO t VALUES " ++ signed_rows 128) (insert_tokens (signed_row_tokens 128 21 [])) (fault.Expected 661) (lit≤ tt) refl

-- the bracket of the next one is one too many
one_row_too_many : Refuses (codes "INSERT INTO t VALUES " ++ signed_rows 128 ++ codes "(")
    (insert_tokens (signed_row_tokens 128 21 (token_at 661 sort.Symbol 1 ∷ []))) (fault.TooDeep 661)
unfolding computes
one_row_too_many =
    refuses-by 1000 (codes "INSERT INTO t VALUES " ++ signed_rows 128 ++ codes "(") (insert_tokens (signed_row_tokens 128 21 (token_at 661 sort.Symbol 1 ∷ [])))
    (fault.TooDeep 661) (lit≤ tt) refl
