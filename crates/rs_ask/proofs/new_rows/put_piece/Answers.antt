use Rattle.std.proofs.Common.{◌≡◌, ◌∙◌, [], Err, List, Some, ap, append-nil, eqb, length, refl, subst, sym, ℕ}
use Rattle.std.proofs.lemmas.Bool.{true≢false}
use Rattle.std.proofs.lemmas.Bool.Decides.{Decides-eqb}
use Rattle.std.proofs.lemmas.List.{nil_from_length}
use Rattle.rs_value.proofs.OutsideFacts.{Faulted-one}
use Rattle.rs_value.specs.Faults.{raised}
use Rattle.rs_outside.specs.Sink.{Puts}
use Rattle.rs_outside.specs.declared.sink.SinkFault.{SinkFault}
use Rattle.rs_outside.specs.declared.sink.SinkFault.TheVariants as sink
use Rattle.rs_ask.specs.PutRows.{PutRowsState}
use Rattle.rs_ask.specs.declared.row_fault.RowFault.TheVariants.{Differs, Failed, Memory}
use Rattle.rs_ask.proofs.PassedFacts.{Passed-differing, Passed-failed, Passed-memory, Passed-put, Passed-refusal, Passed-within, Puts-refused, shown-refused, told-added}
use Rattle.rs_ask.proofs.PutFacts.{PutsBytes-kept, PutsBytes-one, PutsBytes-part}
use Rattle.rs_ask.proofs.new_rows.put_piece.Goals as goal

pub returns-in-Some-clause-passes : goal.returns-in-Some-clause-passes
returns-in-Some-clause-passes g c = λ began.
    Passed-refusal c.in-Some.fault c.refuse.result c.args.rows.now c.refuse.new.rows (sym c.in-Some.ensures.value) c.refuse.ensures.refused began (g.O.Sink.state c.args.out.now)

pub returns-in_default-new_part-clause-puts : goal.returns-in_default-new_part-clause-puts
returns-in_default-new_part-clause-puts g c =
    Puts-refused c.args.piece.now Differs c.refuse-in_default-new_part.result c.args.rows.now c.refuse-in_default-new_part.new.rows c.refuse-in_default-new_part.ensures.refused

pub returns-in_default-new_part-clause-passes : goal.returns-in_default-new_part-clause-passes
returns-in_default-new_part-clause-passes g c = λ began.
    Passed-differing c.refuse-in_default-new_part.result c.args.rows.now c.refuse-in_default-new_part.new.rows c.args.piece.now c.rest.result.now (sym c.in_default.ensures.value) (c.in_default.ensures.none refl) c.rest.ensures
    c.in_default-new_part.ensures c.refuse-in_default-new_part.ensures.refused began (g.O.Sink.state c.args.out.now)

pub returns-then-is_empty-clause-passes : goal.returns-then-is_empty-clause-passes
returns-then-is_empty-clause-passes g c = λ began.
    Passed-within began (g.O.Sink.state c.args.out.now) c.args.rows.now c.add.new.self c.args.piece.now c.in-Some-new_part.new.now c.rest.result.now (sym c.in_default.ensures.value) c.rest.ensures c.in-Some-new_part.ensures
    (nil_from_length c.in-Some-new_part.new.now ((Decides-eqb (length c.in-Some-new_part.new.now) 0).0 (sym c.is_empty.ensures ∙ c.if-is_empty.true)))
    c.in-Ok.ensures.ok

pub returns-in-Ok-put-clause-passes : goal.returns-in-Ok-put-clause-passes
returns-in-Ok-put-clause-passes g c = λ began.
    Passed-put began (g.O.Sink.state c.args.out.now) (g.O.Sink.state c.put.new.self) c.args.rows.now c.add.new.self c.args.piece.now c.in-Some-new_part.new.now c.rest.result.now (sym c.in_default.ensures.value) c.rest.ensures c.in-Some-new_part.ensures
    (λ (e : c.in-Some-new_part.new.now ≡ []). true≢false (sym (c.is_empty.ensures ∙ ap (λ (bytes : List ℕ). eqb (length bytes) 0) e) ∙ c.if-is_empty.false))
    c.in-Ok.ensures.ok (PutsBytes-one c.in-Some-new_part.new.now (g.O.Sink.state c.args.out.now) (g.O.Sink.state c.put.new.self) c.in-Ok-put.ensures.puts) c.put.ensures.counts.keeps

pub returns-in-Err-Failed-clause-puts : goal.returns-in-Err-Failed-clause-puts
returns-in-Err-Failed-clause-puts g c = (
  c.args.piece.now,
  record { rest = []; split = sym (append-nil c.args.piece.now) },
  told-added c.args.piece.now c.args.rows.now c.fail.new.self (c.in_default.ensures.none refl)
      (ap (λ (r : PutRowsState). r.pieces) c.fail.ensures.value ∙ ap (λ (r : PutRowsState). r.pieces) c.in-Ok.ensures.ok)
      (ap (λ (r : PutRowsState). r.refused) c.fail.ensures.value ∙ ap (λ (r : PutRowsState). r.refused) c.in-Ok.ensures.ok),
)

pub returns-in-Err-Failed-clause-passes : goal.returns-in-Err-Failed-clause-passes
returns-in-Err-Failed-clause-passes g c = λ began.
    let old = g.O.Sink.state c.args.out.now in
    let later = g.O.Sink.state c.put.new.self in
    let new = c.in-Some-new_part.new.now in
    let puts : Puts new (Err sink.Failed) old.told later.told = subst (λ (f : SinkFault). Puts new (Err f) old.told later.told) c.in-Err-Failed.field-0-is c.in-Err-Failed.ensures.puts in
    Passed-failed began old later c.args.rows.now c.fail.new.self c.args.piece.now new c.rest.result.now puts.0 (sym c.in_default.ensures.value) (c.in_default.ensures.none refl) c.rest.ensures c.in-Some-new_part.ensures
    (λ (e : c.in-Some-new_part.new.now ≡ []). true≢false (sym (c.is_empty.ensures ∙ ap (λ (bytes : List ℕ). eqb (length bytes) 0) e) ∙ c.if-is_empty.false))
    (c.fail.ensures.value ∙ ap (λ (r : PutRowsState). record r { fault = Some Failed; faults = raised r.faults }) c.in-Ok.ensures.ok)
    puts.1 (PutsBytes-part new old later puts) c.put.ensures.counts.keeps (Faulted-one old later c.put.ensures.counts (c.in-Err-Failed.is ∙ ap Err c.in-Err-Failed.field-0-is))

pub returns-in-Err-Memory-clause-puts : goal.returns-in-Err-Memory-clause-puts
returns-in-Err-Memory-clause-puts g c = (
  c.args.piece.now,
  record { rest = []; split = sym (append-nil c.args.piece.now) },
  told-added c.args.piece.now c.args.rows.now c.fail-in-Err-Memory.new.self (c.in_default.ensures.none refl)
      (ap (λ (r : PutRowsState). r.pieces) c.fail-in-Err-Memory.ensures.value ∙ ap (λ (r : PutRowsState). r.pieces) c.in-Ok.ensures.ok)
      (ap (λ (r : PutRowsState). r.refused) c.fail-in-Err-Memory.ensures.value ∙ ap (λ (r : PutRowsState). r.refused) c.in-Ok.ensures.ok),
)

pub returns-in-Err-Memory-clause-passes : goal.returns-in-Err-Memory-clause-passes
returns-in-Err-Memory-clause-passes g c = λ began.
    let old = g.O.Sink.state c.args.out.now in
    let later = g.O.Sink.state c.put.new.self in
    let new = c.in-Some-new_part.new.now in
    let puts : Puts new (Err sink.Memory) old.told later.told = subst (λ (f : SinkFault). Puts new (Err f) old.told later.told) c.in-Err-Memory.field-0-is c.in-Err-Memory.ensures.puts in
    Passed-memory began old later c.args.rows.now c.fail-in-Err-Memory.new.self c.args.piece.now new c.rest.result.now [] (sym c.in_default.ensures.value) (c.in_default.ensures.none refl) c.rest.ensures c.in-Some-new_part.ensures
    (λ (e : c.in-Some-new_part.new.now ≡ []). true≢false (sym (c.is_empty.ensures ∙ ap (λ (bytes : List ℕ). eqb (length bytes) 0) e) ∙ c.if-is_empty.false))
    (c.fail-in-Err-Memory.ensures.value ∙ ap (λ (r : PutRowsState). record r { fault = Some Memory; faults = raised r.faults }) c.in-Ok.ensures.ok)
    (record { rest = new; split = refl }) (PutsBytes-kept new old later puts) c.put.ensures.counts.keeps

pub returns-in-Some-clause-shown : goal.returns-in-Some-clause-shown
returns-in-Some-clause-shown g c = shown-refused [] c.in-Some.fault c.refuse.result c.args.rows.now c.refuse.new.rows c.refuse.ensures.refused

pub returns-in_default-new_part-clause-shown : goal.returns-in_default-new_part-clause-shown
returns-in_default-new_part-clause-shown g c =
    shown-refused c.args.piece.now Differs c.refuse-in_default-new_part.result c.args.rows.now c.refuse-in_default-new_part.new.rows c.refuse-in_default-new_part.ensures.refused
