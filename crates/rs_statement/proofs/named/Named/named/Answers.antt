use Rattle.std.proofs.Common.{◌∙◌, List, ℕ, ap, inl, inr, sym}
use Rattle.std.specs.Prelude.{Err}
use Rattle.rs_statement.proofs.EntryFacts.{named-none, named-some}
use Rattle.rs_statement.proofs.named.Named.named.Goals as goal

pub returns-in-Some : goal.returns-in-Some
returns-in-Some g c = inl (sym (named-some (λ entry. entry.1) c.args.name.now c.args.self.now.held.entries c.in-Some.value.now (sym c.in-Some.ensures.value)))

pub returns-in-None : goal.returns-in-None
returns-in-None g c =
    elim c.session_fault.ensures [
      | inl e ↦ inl (ap Err e ∙ sym (named-none (λ entry. entry.1) c.args.name.now c.args.self.now.held.entries (sym c.in-None.ensures.value)))
      | inr e ↦ inr (ap Err e)
    ]
