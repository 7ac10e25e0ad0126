-- The row goes behind those before it, and the rest of the rows has room.
use Rattle.std.proofs.Common.{◌≡◌, ◌≤◌, ◌++◌, ◌∷◌, [], ◌∙◌, List, add-one, ap, append_assoc, arith, length, length-append, map, subst, sym}
use Rattle.std.specs.List.{AllByRecursion}
use Rattle.std.proofs.lemmas.List.Elements.{All-weaker}
use Rattle.rs_value.specs.Value.{kind_of}
use Rattle.rs_value.specs.declared.value.Value.{Value}
use Rattle.rs_table.specs.Stored.{HasRoom}
use Rattle.rs_table.proofs.columns.Columns.push_rows.Goals as goal

pub loop-row-preserved : goal.loop-row-preserved
loop-row-preserved c =
    let step = c.in-Some.ensures.steps.0 in
    let rest = c.next.new.self.rest.items in
    let fit = subst (λ rows. AllByRecursion (λ (row : List Value). map kind_of row ≡ c.loop-row.self.kinds) rows) step c.loop-row.invariant.fit in
    let size = ap length step ∙ sym (add-one (length rest)) in
    record {
      kinds = c.push_row.ensures.kinds ∙ c.loop-row.invariant.kinds;
      rows =
          ap (λ rows. rows ++ rest) c.push_row.ensures.rows
          ∙ append_assoc c.loop-row.self.rows (c.in-Some.row ∷ []) rest
          ∙ ap (λ rows. c.loop-row.self.rows ++ rows) (sym step)
          ∙ c.loop-row.invariant.rows;
      fit = subst (λ kinds. AllByRecursion (λ (row : List Value). map kind_of row ≡ kinds) rest) (sym c.push_row.ensures.kinds) fit.1;
      room = c.push_row.ensures.room (length rest) (subst (λ n. HasRoom n c.loop-row.self) size c.loop-row.invariant.room);
    }

pub push_row-requires : goal.push_row-requires
push_row-requires c =
    let step = c.in-Some.ensures.steps.0 in
    let fit = subst (λ rows. AllByRecursion (λ (row : List Value). map kind_of row ≡ c.loop-row.self.kinds) rows) step c.loop-row.invariant.fit in
    let size = ap length step in
    let all = ap length c.loop-row.invariant.rows in
    record {
      kinds = fit.0;
      room = All-weaker (λ room. length c.loop-row.row-iterator.rest.items ≤ room) (λ room. 1 ≤ room) (λ room le. omega (arith, size)) c.loop-row.self.rooms c.loop-row.invariant.room;
      few = omega (arith, simp length-append at all, size);
    }
