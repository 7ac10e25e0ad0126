use Rattle.std.proofs.Common.{◌≡◌, drop}
use Rattle.rs_grammar.specs.Kinds.{accepts}
use Rattle.rs_grammar.proofs.kind.TokenKind.is_any.Given as goal

abbrev pub invariant-loop-kind : goal.invariant-loop-kind
invariant-loop-kind l = accepts (drop l.kind-index l.kinds) l.self ≡ accepts l.kinds l.self
