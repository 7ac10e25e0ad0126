use Rattle.std.proofs.Common.{◌∙◌, ◌++◌, ◌-◌, ap, arith, drop, length, length-drop, sym}
use Rattle.std.specs.List.{concat}
use Rattle.std.proofs.lemmas.List.{take_all}
use Rattle.rs_ask.specs.PutRows.{pieces_of}
use Rattle.rs_ask.proofs.PutRowsFacts.{pieces_of-split}
use Rattle.rs_ask.proofs.put_rows.PutRows.rest.Goals as goal

pub returns : goal.returns
returns c =
    let bytes = c.self.inside.bytes.items in
    rw (c.deref.ensures.value, ← c.self.view_is)
    (pieces_of-split c.self.inside.lengths.items bytes
    ∙ ap (λ n. concat (pieces_of c.self.inside.lengths.items bytes) ++ drop n bytes) (sym c.self.invariant.at)
    ∙ ap (λ behind. concat (pieces_of c.self.inside.lengths.items bytes) ++ behind) (sym (take_all (length bytes - c.self.inside.at) (drop c.self.inside.at bytes) (omega (arith, length-drop c.self.inside.at bytes)))))
