use Rattle.std.proofs.Common.{◌≡◌, ◌∙◌, sym, ap, true, inl, inr}
use Rattle.std.specs.Prelude.{Err, false}
use Rattle.std.specs.Map.{keys_of}
use Rattle.rs_catalog.specs.Catalog.{has_name}
use Rattle.rs_statement.proofs.EntryFacts.{has_name-keys, room-full, room-some, room-taken}
use Rattle.rs_statement.proofs.named.Named.room.Goals as goal

pub returns-then-contains_key-clause-gives : goal.returns-then-contains_key-clause-gives
returns-then-contains_key-clause-gives g c =
    let entries = c.args.self.now.held.entries in
    let taken : has_name c.args.name.now (keys_of entries) ≡ true = sym (has_name-keys c.args.name.now entries) ∙ sym c.contains_key.ensures ∙ c.if-contains_key.true in
    elim c.session_fault.ensures [ inl e ↦ inl (ap Err e ∙ sym (room-taken c.args.name.now entries taken)) | inr e ↦ inr (ap Err e) ]

pub returns-then-len-eq-MOST_NAMED-clause-gives : goal.returns-then-len-eq-MOST_NAMED-clause-gives
returns-then-len-eq-MOST_NAMED-clause-gives g c =
    let entries = c.args.self.now.held.entries in
    let free : has_name c.args.name.now (keys_of entries) ≡ false = sym (has_name-keys c.args.name.now entries) ∙ sym c.contains_key.ensures ∙ c.if-contains_key.false in
    elim c.session_fault-then-len-eq-MOST_NAMED.ensures [
      | inl e ↦ inl (ap Err e ∙ sym (room-full c.args.name.now entries free (sym c.len.ensures.len ∙ c.if-len-eq-MOST_NAMED.true)))
      | inr e ↦ inr (ap Err e)
    ]

pub returns-clause-gives : goal.returns-clause-gives
returns-clause-gives g c =
    let entries = c.args.self.now.held.entries in
    let free : has_name c.args.name.now (keys_of entries) ≡ false = sym (has_name-keys c.args.name.now entries) ∙ sym c.contains_key.ensures ∙ c.if-contains_key.false in
    inl (sym (room-some c.args.name.now entries free (λ e. c.if-len-eq-MOST_NAMED.false (c.len.ensures.len ∙ e))))

pub returns-clause-free : goal.returns-clause-free
returns-clause-free g c = sym (has_name-keys c.args.name.now c.args.self.now.held.entries) ∙ sym c.contains_key.ensures ∙ c.if-contains_key.false
