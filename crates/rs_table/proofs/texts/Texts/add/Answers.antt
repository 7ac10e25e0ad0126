-- The text joins with its number.
use Rattle.std.proofs.Common.{ap, ◌++◌, ◌∷◌, [], ◌∙◌, arith, length}
use Rattle.rs_table.specs.Stored.{TextCells}
use Rattle.rs_table.proofs.TextFacts.{Joins, joins-at}
use Rattle.rs_table.proofs.texts.Texts.add.Goals as goal

pub overflow_cast-number : goal.overflow_cast-number
overflow_cast-number c =
    let few =
    (joins-at c.self.inside.kept.keys c.self.inside.numbers.items c.args.text.now c.kept_number.new.kept.keys c.in_ok-number.number c.self.invariant c.in_ok-number.ensures.keys c.in_ok-number.ensures.stored).few in
    let size = ap (λ (cells : TextCells). length cells.texts) c.self.view_is in
    omega (arith, few, size)

joined : (c : goal.After-push_reserved) → Joins c.self.inside.kept.keys c.self.inside.numbers.items c.args.text.now c.kept_number.new.kept.keys c.in_ok-number.number
joined c =
    joins-at c.self.inside.kept.keys c.self.inside.numbers.items c.args.text.now c.kept_number.new.kept.keys c.in_ok-number.number c.self.invariant c.in_ok-number.ensures.keys c.in_ok-number.ensures.stored

pub invariant_of-self-2 : goal.invariant_of-self-2
invariant_of-self-2 c = rw (c.push_reserved.ensures.items, c.reserve.ensures.items) (joined c).numbered

pub returns-clause-ok : goal.returns-clause-ok
returns-clause-ok c =
    rw (c.push_reserved.ensures.items, c.reserve.ensures.items) ((joined c).texts ∙ ap (λ (cells : TextCells). cells.texts ++ c.args.text.now ∷ []) c.self.view_is)
