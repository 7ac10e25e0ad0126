use Rattle.std.proofs.Common.{◌∙◌, sym, inl, arith}
use Rattle.csv.specs.Records.{fields_of}
use Rattle.rs_table.proofs.RecordsFacts.{Found-from_read, records_left-none}
use Rattle.rs_table.proofs.records.Records.read.Goals as goal

pub invariant_of-self-else-not-found : goal.invariant_of-self-else-not-found
invariant_of-self-else-not-found c = λ _.
    let h = c.self.invariant c.if-self.false in
    let e = c.in-Ok.ensures in
    (Found-from_read c.self.inside.reader c.read_byte_record.new.self (fields_of c.read_byte_record.new.row) h (inl (e.ready h.untrimmed)) e.flexible
    (rw c.if-not-found.false at (e.reads h.untrimmed h.ready))).reading

pub returns-then-not-found-clause-found : goal.returns-then-not-found-clause-found
returns-then-not-found-clause-found c =
    let h = c.self.invariant c.if-self.false in
    let e = c.in-Ok.ensures in
    let view = rw c.if-self.false at c.self.view_is in
    rw c.if-not-found.true
    (sym view
    ∙ records_left-none c.self.inside.reader c.read_byte_record.new.self (fields_of c.read_byte_record.new.row) h
    (rw c.if-not-found.true at (e.reads h.untrimmed h.ready)))

pub returns-else-not-found-clause-found : goal.returns-else-not-found-clause-found
returns-else-not-found-clause-found c =
    let h = c.self.invariant c.if-self.false in
    let e = c.in-Ok.ensures in
    let view = rw c.if-self.false at c.self.view_is in
    rw (c.if-not-found.false, c.if-self.false)
    (sym view
    ∙ (Found-from_read c.self.inside.reader c.read_byte_record.new.self (fields_of c.read_byte_record.new.row) h (inl (e.ready h.untrimmed)) e.flexible
    (rw c.if-not-found.false at (e.reads h.untrimmed h.ready))).first)

pub returns-else-not-found-clause-few_fields : goal.returns-else-not-found-clause-few_fields
returns-else-not-found-clause-few_fields c =
    let h = c.self.invariant c.if-self.false in
    let e = c.in-Ok.ensures in
    let few =
    (Found-from_read c.self.inside.reader c.read_byte_record.new.self (fields_of c.read_byte_record.new.row) h (inl (e.ready h.untrimmed)) e.flexible
    (rw c.if-not-found.false at (e.reads h.untrimmed h.ready))).few_fields in
    omega (arith, few)
