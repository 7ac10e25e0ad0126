-- A script is read statement by statement: what was read so far, and what the rest of the script makes of it.
use Rattle.std.proofs.Common.{◌≡◌, ◌∙◌, ◌<◌, ◌+◌, true, false, Result, Ok, Err, List, [], ◌∷◌, ◌++◌, length, refl, sym, ap, arith, append_assoc, length-append}
use Rattle.std.proofs.lemmas.List.{append-nil, map-append}
use Rattle.rs_grammar.specs.Grammar.{Rule, Part, Seq, Either, Use, rule, word, script, statement, Tree, Nothing, Pair, This, That, Node, yield}
use Rattle.rs_grammar.specs.Reading as reading
use Rattle.rs_grammar.specs.Reading.{State, Read, next_is, opens}
use Rattle.rs_grammar.specs.declared.kind.TokenKind.TheVariants.{Semicolon}
use Rattle.rs_grammar.proofs.Derivation.{Read-split}
use Rattle.rs_syntax.specs.Reads.{Found, Halts, Reads}
use Rattle.rs_syntax.specs.Statements.{script_of, statement_of, statements_of}
use Rattle.rs_syntax.specs.Syntax.{Command, command_of, commands_of}
use Rattle.rs_syntax.specs.declared.parser.ParserFault.{ParserFault}
use Rattle.rs_syntax.specs.declared.statement.Statement.{Statement}
use Rattle.rs_syntax.proofs.Steps.{read-both, read-this, read-that, read-not, read-rule, found, halts-first, halts-then, halts-this, halts-that, halts-rule}

-- what a call gives, it gives for a part around what it reads

pub goes_rule : {A V : Type 0} (r : Rule) (meaning : Tree → A) (view : V → A) (b a : State) (result : Result V ParserFault) → Reads (rule r) (λ t. meaning (Node t)) view b a result
    → Reads (Use r) meaning view b a result
goes_rule r meaning view b a (Ok value) h = found (read-rule h.read) h.means
goes_rule r meaning view b a (Err fault) h = halts-rule h

pub goes_this : {A V : Type 0} (p q : Part) (meaning : Tree → A) (view : V → A) (b a : State) (result : Result V ParserFault) → opens p b ≡ true → Reads p (λ t. meaning (This t)) view b a result
    → Reads (Either p q) meaning view b a result
goes_this p q meaning view b a (Ok value) o h = found (read-this o h.read) h.means
goes_this p q meaning view b a (Err fault) o h = halts-this o h

pub goes_that : {A V : Type 0} (p q : Part) (meaning : Tree → A) (view : V → A) (b a : State) (result : Result V ParserFault) → opens p b ≡ false → Reads q (λ t. meaning (That t)) view b a result
    → Reads (Either p q) meaning view b a result
goes_that p q meaning view b a (Ok value) o h = found (read-that o h.read) h.means
goes_that p q meaning view b a (Err fault) o h = halts-that o h

pub goes_then : {A V : Type 0} {p : Part} (q : Part) (meaning : Tree → A) (view : V → A) {t : Tree} {b x : State} (a : State) (result : Result V ParserFault) → Read p b t x → Reads q (λ u. meaning (Pair t u)) view x a result
    → Reads (Seq p q) meaning view b a result
goes_then q meaning view a (Ok value) r h = found (read-both r h.read) h.means
goes_then q meaning view a (Err fault) r h = halts-then r h

-- a script that begins at b stands at x with these statements
pub record Scripting (b x : State) (made : List Command) : Type 0 where
  pub reads : (t : Tree) (a : State) → Read script x t a → Found script script_of b a (made ++ script_of t)
  pub halts : (fault : ParserFault) (a : State) → Halts script x fault a → Halts script b fault a

-- nothing was read
pub Scripting-start : (b : State) → Scripting b b []
Scripting-start b = record { reads = λ t a r. found r refl; halts = λ fault a h. h }

-- a statement, `;` and the rest of a script
statements-next : (u s t : Tree) → statements_of (Node (Pair u (This (Pair s t)))) ≡ statement_of u ∷ script_of t
statements-next u s (This t) = refl
statements-next u s t = refl

-- a statement and `;` were read
pub Scripting-more : {b x y z : State} {u s : Tree} (value : Statement) (done : List Statement) → Scripting b x (commands_of done) → opens (Use statement) x ≡ true
    → Read (Use statement) x u y → statement_of u ≡ command_of value → next_is (Semicolon ∷ []) y.rest ≡ true → Read (word Semicolon) y s z → Scripting b z (commands_of (done ++ value ∷ []))
Scripting-more {b = b} {x = x} {y = y} {z = z} {u = u} {s = s} value done h o r e behind semicolon = record {
  reads = λ t a rest.
      let whole = h.reads (This (Node (Pair u (This (Pair s t))))) a (read-this o (read-rule (read-both r (read-this behind (read-both semicolon rest))))) in
      found whole.read
      (whole.means ∙ ap (λ ts. commands_of done ++ ts) (statements-next u s t ∙ ap (λ v. v ∷ script_of t) e)
      ∙ sym (append_assoc (commands_of done) (command_of value ∷ []) (script_of t)) ∙ ap (λ ts. ts ++ script_of t) (sym (map-append command_of done (value ∷ []))));
  halts = λ fault a k. h.halts fault a (halts-this o (halts-rule (halts-then r (halts-this behind (halts-then semicolon k)))));
}

-- no further one stands there
pub Scripting-end : {b x : State} (done : List Statement) → Scripting b x (commands_of done) → opens (Use statement) x ≡ false → Found script script_of b x (commands_of done)
Scripting-end {b = b} {x = x} done h o =
    let whole = h.reads (That Nothing) x (read-not o) in
    found whole.read (whole.means ∙ append-nil (commands_of done))

-- the last one was read, with no `;` behind it
pub Scripting-last : {b x y : State} {u : Tree} (value : Statement) (done : List Statement) → Scripting b x (commands_of done) → opens (Use statement) x ≡ true
    → Read (Use statement) x u y → statement_of u ≡ command_of value → next_is (Semicolon ∷ []) y.rest ≡ false → Found script script_of b y (commands_of (done ++ value ∷ []))
Scripting-last {b = b} {x = x} {y = y} {u = u} value done h o r e behind =
    let whole = h.reads (This (Node (Pair u (That Nothing)))) y (read-this o (read-rule (read-both r (read-not behind)))) in
    found whole.read (whole.means ∙ ap (λ v. commands_of done ++ v ∷ []) e ∙ sym (map-append command_of done (value ∷ [])))

-- the next statement isn't read
pub Scripting-halts : {b x a : State} {made : List Command} {fault : ParserFault} → Scripting b x made → opens (Use statement) x ≡ true → Halts (Use statement) x fault a → Halts script b fault a
Scripting-halts {a = a} {fault = fault} h o k = h.halts fault a (halts-this o (halts-rule (halts-first k)))

-- the `;` behind it isn't read
pub Scripting-halts_behind : {b x y a : State} {made : List Command} {u : Tree} {fault : ParserFault} → Scripting b x made → opens (Use statement) x ≡ true
    → Read (Use statement) x u y → next_is (Semicolon ∷ []) y.rest ≡ true → Halts (word Semicolon) y fault a → Halts script b fault a
Scripting-halts_behind {a = a} {fault = fault} h o r behind k = h.halts fault a (halts-this o (halts-rule (halts-then r (halts-this behind (halts-first k)))))

-- a token shortens what is left
token-shorter : {b a : State} {s : Tree} → Read (word Semicolon) b s a → length a.rest < length b.rest
token-shorter (reading.Read.token kinds l b a takes accepted shallow) = omega (arith, ap length takes.rest)

-- a statement and `;` shorten what is left
pub Scripting-shorter : {x y z : State} {u s : Tree} → Read (Use statement) x u y → Read (word Semicolon) y s z → length z.rest < length x.rest
Scripting-shorter {x = x} {y = y} {z = z} {u = u} {s = s} r semicolon =
    let less : length z.rest < length y.rest = token-shorter semicolon in
    let split : length x.rest ≡ length (yield u) + length y.rest = ap length (Read-split (Use statement) x u y r) ∙ length-append (yield u) y.rest in
    omega arith
