-- The text joins with its number.
use Rattle.std.proofs.Common.{ap, ◌++◌, ◌∷◌, [], ◌∙◌, arith, length}
use Rattle.rs_table.specs.Stored.{TextCells}
use Rattle.rs_table.proofs.TextFacts.{Joins, joins, stored-is}
use Rattle.rs_table.proofs.texts.Texts.push.Goals as goal

pub overflow_cast-number : goal.overflow_cast-number
overflow_cast-number c =
    let few =
    (joins c.self.inside.kept.keys c.self.inside.numbers.items c.args.text c.insert_full.new.self.keys c.in-Ok.number c.self.invariant c.in-Ok.ensures.keys c.in-Ok.ensures.within
    (stored-is c.insert_full.new.self.keys c.args.text c.in-Ok.number c.in-Ok.ensures.stored)).few in
    let size = ap (λ (cells : TextCells). length cells.texts) c.self.view_is in
    omega (arith, few, size)

joined : (c : goal.After-push_reserved) → Joins c.self.inside.kept.keys c.self.inside.numbers.items c.args.text c.insert_full.new.self.keys c.in-Ok.number
joined c =
    joins c.self.inside.kept.keys c.self.inside.numbers.items c.args.text c.insert_full.new.self.keys c.in-Ok.number c.self.invariant c.in-Ok.ensures.keys c.in-Ok.ensures.within
    (stored-is c.insert_full.new.self.keys c.args.text c.in-Ok.number c.in-Ok.ensures.stored)

pub invariant_of-self : goal.invariant_of-self
invariant_of-self c = rw c.push_reserved.ensures.items (joined c).numbered

pub returns-clause-texts : goal.returns-clause-texts
returns-clause-texts c =
    rw c.push_reserved.ensures.items ((joined c).texts ∙ ap (λ (cells : TextCells). cells.texts ++ c.args.text ∷ []) c.self.view_is)
