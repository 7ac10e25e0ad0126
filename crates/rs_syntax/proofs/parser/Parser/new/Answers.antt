use Rattle.rs_syntax.proofs.Numbers.{AreNumbers-reverse}
use Rattle.rs_syntax.proofs.parser.Parser.new.Goals as goal

pub invariant_of-result : goal.invariant_of-result
invariant_of-result c = rw c.reverse.ensures.items (AreNumbers-reverse c.args.lexemes.items c.requires)
