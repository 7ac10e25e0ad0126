use Rattle.std.proofs.Common.{◌∙◌, inl, inr, sym}
use Rattle.csv.specs.Records.{fields_of}
use Rattle.rs_cert.proofs.ReadingFacts.{fourth-found, fourth-missing, not-three, three-are}
use Rattle.rs_cert.proofs.entry.three_fields.Goals as goal

pub returns-in_err-first : goal.returns-in_err-first
returns-in_err-first c = rw c.from_residual.ensures (not-three (fields_of c.args.fields.now) (inl (sym c.in_err-first.ensures.value)))

pub returns-in_err-second : goal.returns-in_err-second
returns-in_err-second c = rw c.from_residual-in_err-second.ensures (not-three (fields_of c.args.fields.now) (inr (inl (sym c.in_err-second.ensures.value))))

pub returns-in_err-third : goal.returns-in_err-third
returns-in_err-third c = rw c.from_residual-in_err-third.ensures (not-three (fields_of c.args.fields.now) (inr (inr (sym c.in_err-third.ensures.value))))

pub returns-then-is_some : goal.returns-then-is_some
returns-then-is_some c = fourth-found (fields_of c.args.fields.now) c.get-4.result (sym c.is_some.ensures ∙ c.if-is_some.true) c.get-4.ensures.value

pub returns : goal.returns
returns c =
    three-are (fields_of c.args.fields.now) c.in_ok-first.first.now c.in_ok-second.second.now c.in_ok-third.third.now
    (sym c.in_ok-first.ensures.value) (sym c.in_ok-second.ensures.value) (sym c.in_ok-third.ensures.value)
    (fourth-missing (fields_of c.args.fields.now) c.get-4.result (sym c.is_some.ensures ∙ c.if-is_some.false) c.get-4.ensures.value)
