-- A callee's result is the caller's.
use Rattle.std.proofs.Common.{◌≡◌, ◌∙◌, Result, Ok, Err}
use Rattle.rs_grammar.specs.Grammar.{Rule, Part, Seq, Use, rule, Tree, Pair, Node}
use Rattle.rs_grammar.specs.Reading.{State, Read}
use Rattle.rs_syntax.specs.Reads.{Reads}
use Rattle.rs_syntax.specs.declared.parser.ParserFault.{ParserFault}
use Rattle.rs_syntax.proofs.Steps.{found, read-both, read-rule, halts-then, halts-rule}

-- a part was read, and the callee reads what stands behind it
pub reads-behind : {A V : Type 0} {p : Part} (q : Part) {t : Tree} (f g : Tree → A) (view : V → A) {b x : State} (a : State) (result : Result V ParserFault)
    → Read p b t x → ((u : Tree) → f (Pair t u) ≡ g u) → Reads q g view x a result → Reads (Seq p q) f view b a result
reads-behind q f g view a (Ok value) r e h = found (read-both r h.read) (e h.tree ∙ h.means)
reads-behind q f g view a (Err fault) r e h = halts-then r h

-- the callee reads what a rule's name stands for
pub reads-rule : {A V : Type 0} (r : Rule) (f : Tree → A) (view : V → A) (b a : State) (result : Result V ParserFault)
    → Reads (rule r) (λ t. f (Node t)) view b a result → Reads (Use r) f view b a result
reads-rule r f view b a (Ok value) h = found (read-rule h.read) h.means
reads-rule r f view b a (Err fault) h = halts-rule h
