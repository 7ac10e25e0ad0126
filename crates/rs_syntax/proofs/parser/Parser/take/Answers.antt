use Rattle.std.proofs.Common.{◌∙◌, ◌-◌, length, sym, ap}
use Rattle.std.specs.Prelude.{slice_get}
use Rattle.rs_syntax.proofs.Tokens.{AreNumbers-last, Fails-other, Fails-deep_last, Found-last}
use Rattle.rs_syntax.proofs.parser.Parser.take.Goals as goal

pub returns-then-not-accepted-clause-reads : goal.returns-then-not-accepted-clause-reads
returns-then-not-accepted-clause-reads c = λ kinds e. Fails-other kinds c.args.self.now c.args.accepted e c.if-not-accepted.true

pub returns-in_default-left_behind-clause-reads : goal.returns-in_default-left_behind-clause-reads
returns-in_default-left_behind-clause-reads c = λ kinds e.
    Fails-deep_last kinds c.args.self.now c.self.inside.reversed.items c.self.inside.left c.in-Some.next.now
    (c.in-Some.ensures.value ∙ ap (λ xs. slice_get xs (length xs - 1)) c.deref.ensures.value)
    (ap (λ s. s.rest) c.self.view_is) (ap (λ s. s.left) c.self.view_is) (sym c.if-not-accepted.false ∙ e) c.in_default-left_behind.ensures

pub returns-clause-reads : goal.returns-clause-reads
returns-clause-reads c = λ kinds e.
    Found-last kinds c.args.self.now c.self.inside.reversed.items c.pop.new.self.items c.self.inside.left c.in-Some-left_behind.left c.in-Some.next.now c.in-Some-pop.lexeme
    (c.in-Some.ensures.value ∙ ap (λ xs. slice_get xs (length xs - 1)) c.deref.ensures.value) c.in-Some-pop.ensures.items
    (ap (λ s. s.rest) c.self.view_is) (ap (λ s. s.left) c.self.view_is) (sym c.if-not-accepted.false ∙ e)
    c.in-Some-left_behind.ensures.0 c.in-Some-left_behind.ensures.1

pub invariant_of-self-2 : goal.invariant_of-self-2
invariant_of-self-2 c = (AreNumbers-last c.self.inside.reversed.items c.pop.new.self.items c.in-Some-pop.lexeme c.in-Some-pop.ensures.items c.self.invariant).0

pub returns-clause-in_range : goal.returns-clause-in_range
returns-clause-in_range c = (AreNumbers-last c.self.inside.reversed.items c.pop.new.self.items c.in-Some-pop.lexeme c.in-Some-pop.ensures.items c.self.invariant).1
