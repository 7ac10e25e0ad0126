-- An INSERT that is read has few rows: the bracket of each takes one of the tokens that may count.
use Rattle.std.proofs.Common.{ℕ, ◌≡◌, ◌+◌, ◌<◌, ◌≤◌, Bool, true, false, List, length, refl, subst, arith, if◌then◌else◌}
use Rattle.std.specs.List.{AllByRecursion}
use Rattle.std.proofs.lemmas.List.{length-map}
use Rattle.rs_grammar.specs.Grammar.{Many, Use, ◌⨟◌, word, script, statements, statement, insert, rows, row, Tree, This, That}
use Rattle.rs_grammar.specs.Places.{most_deep}
use Rattle.rs_grammar.specs.Reading as reading
use Rattle.rs_grammar.specs.Reading.{State, Read}
use Rattle.rs_grammar.specs.declared.kind.TokenKind.TheVariants.{Comma, Semicolon}
use Rattle.rs_lex.specs.declared.token.Token.{Token}
use Rattle.rs_syntax.specs.Scripts.{Parses, IsSound}
use Rattle.rs_syntax.specs.Statements.{select_of, create_in, row_of, rows_of, insert_of, statement_of, statements_of, script_of}
use Rattle.rs_syntax.specs.Syntax.{Command, Explain, ExplainAnalyze}
use Rattle.rs_syntax.specs.Trees.{last, items_of, is_there, of_rule, last_of_rule}
use Rattle.rs_syntax.specs.Written.{HasFewRows}
use Rattle.rs_syntax.proofs.EachFacts.{IsRead, Parses-read}
use Rattle.rs_syntax.proofs.Spans.{counted-left, token-left, quiet-left}

-- fewer are left behind a row
row-less : (t : Tree) (b a : State) → Read (Use row) b t a → a.left < b.left
row-less t b a (reading.Read.by_rule _ _ _ _ (reading.Read.both _ _ w u _ x _ r s)) =
    let one : x.left < b.left = counted-left r refl refl in
    let two : a.left ≤ x.left = quiet-left s refl in
    omega arith

-- each row behind a comma takes one of them
items-few : (t : Tree) (b a : State) → Read (Many (word Comma ⨟ Use row)) b t a → length (items_of t) + a.left ≤ b.left
items-few t b a (reading.Read.stop _ _ o) = omega arith
items-few t b a (reading.Read.more _ v w _ x _ o (reading.Read.both _ _ c u _ y _ h k) m) =
    let one : y.left ≤ b.left = token-left h refl in
    let two : x.left < y.left = row-less u y x k in
    let others : length (items_of w) + a.left ≤ x.left = items-few w x a m in
    omega arith

rows-few : (t : Tree) (b a : State) → Read (Use rows) b t a → length (rows_of t) ≤ b.left
rows-few t b a (reading.Read.by_rule _ _ _ _ (reading.Read.both _ _ first others _ x _ r s)) =
    let one : x.left < b.left = row-less first b x r in
    let more : length (items_of others) + a.left ≤ x.left = items-few others x a s in
    omega (arith, length-map (items_of others) (λ u. row_of (last 1 u)))

insert-few : (t : Tree) (b a : State) → Read (Use insert) b t a → b.left ≤ most_deep → HasFewRows (insert_of t)
insert-few t b a (reading.Read.by_rule _ _ _ _ (reading.Read.both _ _ w _ _ x _ h (reading.Read.both _ _ w2 _ _ y _ i (reading.Read.both _ _ n _ _ z _ j (reading.Read.both _ _ w3 u _ v _ k m))))) le =
    let one : x.left ≤ b.left = token-left h refl in
    let two : y.left ≤ x.left = token-left i refl in
    let three : z.left ≤ y.left = token-left j refl in
    let four : v.left ≤ z.left = token-left k refl in
    let few : length (rows_of u) ≤ v.left = rows-few u v a m in
    omega arith

-- other statements have no rows
create-few : (t : Tree) → HasFewRows (create_in t)
create-few (This t) = tt
create-few (That (This t)) = tt
create-few (That (That t)) = tt
create-few t = tt

explain-few : (b : Bool) (t : Tree) → HasFewRows (if b then ExplainAnalyze (select_of t) else Explain (select_of t))
explain-few true t = tt
explain-few false t = tt

statement-few : (t : Tree) (b a : State) → Read (Use statement) b t a → b.left ≤ most_deep → HasFewRows (statement_of t)
statement-few t b a (reading.Read.by_rule _ _ _ _ (reading.Read.this _ _ u _ _ o h)) le = create-few (last_of_rule 1 u)
statement-few t b a (reading.Read.by_rule _ _ _ _ (reading.Read.that _ _ _ _ _ o (reading.Read.this _ _ u _ _ o2 h))) le = tt
statement-few t b a (reading.Read.by_rule _ _ _ _ (reading.Read.that _ _ _ _ _ o (reading.Read.that _ _ _ _ _ o2 (reading.Read.this _ _ u _ _ o3 h)))) le = tt
statement-few t b a (reading.Read.by_rule _ _ _ _ (reading.Read.that _ _ _ _ _ o (reading.Read.that _ _ _ _ _ o2 (reading.Read.that _ _ _ _ _ o3 (reading.Read.this _ _ u _ _ o4 h))))) le = tt
statement-few t b a (reading.Read.by_rule _ _ _ _ (reading.Read.that _ _ _ _ _ o (reading.Read.that _ _ _ _ _ o2 (reading.Read.that _ _ _ _ _ o3 (reading.Read.that _ _ _ _ _ o4 (reading.Read.this _ _ u _ _ o5 h)))))) le = tt
statement-few t b a (reading.Read.by_rule _ _ _ _ (reading.Read.that _ _ _ _ _ o (reading.Read.that _ _ _ _ _ o2 (reading.Read.that _ _ _ _ _ o3 (reading.Read.that _ _ _ _ _ o4 (reading.Read.that _ _ _ _ _ o5 (reading.Read.this _ _ u _ _ o6 h))))))) le =
    explain-few (is_there (of_rule 1 u)) (last_of_rule 2 u)
statement-few t b a (reading.Read.by_rule _ _ _ _ (reading.Read.that _ _ _ _ _ o (reading.Read.that _ _ _ _ _ o2 (reading.Read.that _ _ _ _ _ o3 (reading.Read.that _ _ _ _ _ o4 (reading.Read.that _ _ _ _ _ o5 (reading.Read.that _ _ u _ _ o6 h))))))) le =
    insert-few u b a h le

-- behind `;` as many tokens may count as at the start of a script
semicolon-left : (t : Tree) (b a : State) → Read (word Semicolon) b t a → a.left ≡ most_deep
semicolon-left t b a (reading.Read.token _ l _ _ takes accepted shallow) = rw (takes.left, accepted) refl

statements-few : (t : Tree) (b a : State) → Read (Use statements) b t a → b.left ≤ most_deep → AllByRecursion HasFewRows (statements_of t)
statements-few t b a (reading.Read.by_rule _ _ _ _ (reading.Read.both _ _ u _ _ x _ h (reading.Read.this _ _ _ _ _ o (reading.Read.both _ _ mark _ _ y _ s (reading.Read.this _ _ more _ _ o2 k))))) le =
    (statement-few u b x h le, statements-few more y a k (omega (arith, semicolon-left mark x y s)))
statements-few t b a (reading.Read.by_rule _ _ _ _ (reading.Read.both _ _ u _ _ x _ h (reading.Read.this _ _ _ _ _ o (reading.Read.both _ _ mark _ _ y _ s (reading.Read.that _ _ none _ _ o2 k))))) le =
    (statement-few u b x h le, tt)
statements-few t b a (reading.Read.by_rule _ _ _ _ (reading.Read.both _ _ u _ _ x _ h (reading.Read.that _ _ none _ _ o k))) le = (statement-few u b x h le, tt)

script-few : (t : Tree) (b a : State) → Read script b t a → b.left ≤ most_deep → AllByRecursion HasFewRows (script_of t)
script-few t b a (reading.Read.this _ _ u _ _ o h) le = statements-few u b a h le
script-few t b a (reading.Read.that _ _ u _ _ o h) le = tt

pub Parses-few : (text : List ℕ) (tokens : List Token) (commands : List Command) → Parses text tokens commands → IsSound text tokens → AllByRecursion HasFewRows commands
Parses-few text tokens commands parses sound =
    let whole : IsRead text tokens commands = Parses-read text tokens commands parses sound in
    subst (AllByRecursion HasFewRows) whole.means (script-few whole.tree _ whole.behind whole.read (omega arith))
