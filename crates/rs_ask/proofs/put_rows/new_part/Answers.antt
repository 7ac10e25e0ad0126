use Rattle.std.proofs.Common.{None, Some, inl, refl}
use Rattle.std.proofs.lemmas.Bool.Decides.{Decides-eqb}
use Rattle.std.proofs.lemmas.Slice.Eq.{strip_prefix_is}
use Rattle.rs_ask.proofs.PutRowsFacts.{part-new}
use Rattle.rs_ask.proofs.put_rows.new_part.Goals as goal

pub returns-in-Some : goal.returns-in-Some
returns-in-Some c = inl (
  record { rest = c.in-Some.field-0.now; split = strip_prefix_is Decides-eqb c.args.before.now c.args.piece.now (Some c.in-Some.field-0) c.in-Some.ensures.cases },
  refl,
)

pub returns-in-None : goal.returns-in-None
returns-in-None c =
    part-new c.args.before.now c.args.piece.now c.strip_prefix-in-None.result
    (strip_prefix_is Decides-eqb c.args.before.now c.args.piece.now None c.in-None.ensures.cases)
    (strip_prefix_is Decides-eqb c.args.piece.now c.args.before.now c.strip_prefix-in-None.result c.strip_prefix-in-None.ensures.cases)
