use Rattle.std.proofs.Common.{◌∙◌, ap, inl, inr, sym}
use Rattle.std.specs.Prelude.{Err}
use Rattle.std.specs.Map.{lookup}
use Rattle.rs_statement.proofs.EntryFacts.{entries-remove, is_key, named-none, named-some, remove-none}
use Rattle.rs_statement.proofs.named.Named.remove.Goals as goal

pub returns-in-Some-clause-gives : goal.returns-in-Some-clause-gives
returns-in-Some-clause-gives g c = inl (sym (named-some (λ entry. tt) c.args.name.now c.args.self.now.held.entries c.in-Some.value (sym c.in-Some.ensures.value)))

pub returns-in-None-clause-gives : goal.returns-in-None-clause-gives
returns-in-None-clause-gives g c =
    elim c.session_fault.ensures [
      | inl e ↦ inl (ap Err e ∙ sym (named-none (λ entry. tt) c.args.name.now c.args.self.now.held.entries (sym c.in-None.ensures.value)))
      | inr e ↦ inr (ap Err e)
    ]

pub returns-in-Some-clause-left : goal.returns-in-Some-clause-left
returns-in-Some-clause-left g c =
    c.shift_remove.ensures.entries ∙ entries-remove c.args.name.now c.args.self.now.held.entries (ap (lookup (is_key c.args.name.now)) (sym c.shift_remove.ensures.entries) ∙ c.in-Some.ensures.updates.1)

pub returns-in-None-clause-left : goal.returns-in-None-clause-left
returns-in-None-clause-left g c = c.shift_remove.ensures.entries ∙ remove-none c.args.name.now c.args.self.now.held.entries (sym c.in-None.ensures.value)
