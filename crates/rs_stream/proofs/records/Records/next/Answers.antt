use Rattle.std.proofs.Common.{ℕ, ◌≡◌, ◌∙◌, List, [], ◌∷◌, ◌++◌, refl, sym, ap}
use Rattle.rs_stream.specs.Records.{is_quoted}
use Rattle.rs_stream.proofs.RecordFacts.{Leaves-at, Leaves-more, Leaves-refl, Leaves-still, Takes-at, Takes-last, byte_read, end_read, ends-as, quoted-then}
use Rattle.rs_stream.proofs.records.Records.next.Goals as goal

pub loop-init : goal.loop-init
loop-init g c = record { quoted = c.self.invariant; left = Leaves-refl c.self.inside.begun.items (g.R.Read.remaining c.self.inside.reader) }

pub invariant_of-self : goal.invariant_of-self
invariant_of-self g c = c.loop.invariant.quoted

pub invariant_of-self-in_default : goal.invariant_of-self-in_default
invariant_of-self-in_default g c = c.loop.invariant.quoted ∙ ap is_quoted (sym c.reserve.ensures.items)

pub returns-in_default : goal.returns-in_default
returns-in_default g c =
    Leaves-at g.R.Read.remaining _ c.args.self.now c.loop.self-inside.begun.items c.reserve.new.self.items (g.R.Read.remaining c.loop.self-inside.reader) c.self.view_is c.reserve.ensures.items c.loop.invariant.left

pub invariant_of-self-in-Ok-None : goal.invariant_of-self-in-Ok-None
invariant_of-self-in-Ok-None g c = c.loop.invariant.quoted ∙ ap is_quoted (sym c.reserve.ensures.items)

pub returns-in-Ok-None : goal.returns-in-Ok-None
returns-in-Ok-None g c =
    let remaining = g.R.Read.remaining in
    let end = end_read c.in-Ok-None.field-0 (remaining c.loop.self-inside.reader) (remaining c.read_byte.new.reader) c.in-Ok-None.field-0-is c.in-Ok-None.ensures in (
      Leaves-at remaining _ c.args.self.now c.loop.self-inside.begun.items c.reserve.new.self.items (remaining c.read_byte.new.reader) c.self.view_is c.reserve.ensures.items
          (Leaves-still c.self.inside.begun.items c.loop.self-inside.begun.items (remaining c.self.inside.reader) (remaining c.loop.self-inside.reader) (remaining c.read_byte.new.reader) c.loop.invariant.left end.0),
      end.1,
    )

pub invariant_of-self-in-Err : goal.invariant_of-self-in-Err
invariant_of-self-in-Err g c = c.loop.invariant.quoted ∙ ap is_quoted (sym c.reserve.ensures.items)

pub returns-in-Err : goal.returns-in-Err
returns-in-Err g c =
    let remaining = g.R.Read.remaining in
    Leaves-at remaining _ c.args.self.now c.loop.self-inside.begun.items c.reserve.new.self.items (remaining c.read_byte.new.reader) c.self.view_is c.reserve.ensures.items
    (Leaves-still c.self.inside.begun.items c.loop.self-inside.begun.items (remaining c.self.inside.reader) (remaining c.loop.self-inside.reader) (remaining c.read_byte.new.reader) c.loop.invariant.left c.in-Err.ensures)

pub returns-then-ends : goal.returns-then-ends
returns-then-ends g c =
    let remaining = g.R.Read.remaining in
    let begun = c.loop.self-inside.begun.items in
    let byte = c.in-Ok-Some.byte in
    let took = byte_read c.in-Ok-Some.field-0 byte (remaining c.loop.self-inside.reader) (remaining c.read_byte.new.reader) c.in-Ok-Some.field-0-is c.in-Ok-Some.ensures in
    let pushed : c.push.new.self.items ≡ begun ++ byte ∷ [] = c.in-Ok-push.ensures.items ∙ ap (λ (xs : List ℕ). xs ++ byte ∷ []) c.reserve.ensures.items in
    let given : c.replace.result.items ≡ begun ++ byte ∷ [] = rw c.replace.ensures.value pushed in (
      rw c.replace.ensures.after c.new-empty.ensures.items,
      Takes-at remaining _ c.args.self.now (begun ++ byte ∷ []) c.replace.result.items (remaining c.read_byte.new.reader) c.self.view_is given
          (Takes-last c.self.inside.begun.items begun byte (remaining c.self.inside.reader) (remaining c.loop.self-inside.reader) (remaining c.read_byte.new.reader) c.loop.invariant.left took
          (ends-as begun byte c.loop.self-inside.quoted c.ends_record-ends.result _ c.ends_record-ends.ensures c.loop.invariant.quoted c.if-ends.true)),
    )

pub loop-preserved : goal.loop-preserved
loop-preserved g c =
    let remaining = g.R.Read.remaining in
    let begun = c.loop.self-inside.begun.items in
    let byte = c.in-Ok-Some.byte in
    let took = byte_read c.in-Ok-Some.field-0 byte (remaining c.loop.self-inside.reader) (remaining c.read_byte.new.reader) c.in-Ok-Some.field-0-is c.in-Ok-Some.ensures in
    let pushed : c.push.new.self.items ≡ begun ++ byte ∷ [] = c.in-Ok-push.ensures.items ∙ ap (λ (xs : List ℕ). xs ++ byte ∷ []) c.reserve.ensures.items in
    record {
      quoted = quoted-then begun c.push.new.self.items byte c.loop.self-inside.quoted c.quoted_after-self-inside.result c.quoted_after-self-inside.ensures c.loop.invariant.quoted pushed;
      left = rw pushed (Leaves-more c.self.inside.begun.items begun byte (remaining c.self.inside.reader) (remaining c.loop.self-inside.reader) (remaining c.read_byte.new.reader) c.loop.invariant.left took
          (ends-as begun byte c.loop.self-inside.quoted c.ends_record-ends.result _ c.ends_record-ends.ensures c.loop.invariant.quoted c.if-ends.false));
    }

pub returns : goal.returns
returns g c = Leaves-at g.R.Read.remaining _ c.args.self.now c.loop.self-inside.begun.items c.loop.self-inside.begun.items (g.R.Read.remaining c.loop.self-inside.reader) c.self.view_is refl c.loop.invariant.left
