use Rattle.std.proofs.Common.{◌≡◌, ◌≤◌, ◌∙◌, ◌++◌, ◌∷◌, [], ap, arith, length, length-append, rules, subst, sym}
use Rattle.std.specs.List.{concat}
use Rattle.rs_outside.specs.Sink.{IsPrefix}
use Rattle.rs_ask.specs.PutRows.{PutRowsState, pieces_of, total}
use Rattle.rs_ask.proofs.PutRowsFacts.{held-add, total-push, within-add}
use Rattle.rs_ask.proofs.put_rows.PutRows.add.Goals as goal

pub invariant_of-self-2 : goal.invariant_of-self-2
invariant_of-self-2 c =
    let old = c.self.inside in
    let within : total old.lengths.items ≤ length old.bytes.items = omega (arith, c.self.invariant.at, c.self.invariant.within) in
    let goes : IsPrefix (concat (pieces_of old.lengths.items old.bytes.items) ++ c.args.piece.now) (old.bytes.items ++ c.args.new.now) =
    subst (λ (rows : PutRowsState). IsPrefix (concat rows.pieces ++ c.args.piece.now) (rows.bytes ++ c.args.new.now)) (sym c.self.view_is) c.requires in
    let items : c.extend_from_slice.new.self.items ≡ old.bytes.items ++ c.args.new.now = c.in_ok-extend_from_slice.ensures.items in
    let lengths : c.push.new.self.items ≡ old.lengths.items ++ length c.args.piece.now ∷ [] = search rules in
    record {
      before = omega (arith, c.self.invariant.before, ap length items, length-append old.bytes.items c.args.new.now);
      at = omega (arith, c.self.invariant.at, ap total lengths, total-push old.lengths.items (length c.args.piece.now));
      within = omega (arith, c.self.invariant.at, ap length items, within-add old.lengths.items old.bytes.items c.args.piece.now c.args.new.now within goes);
      refused = c.self.invariant.refused;
    }

pub returns-clause-ok : goal.returns-clause-ok
returns-clause-ok c =
    let old = c.self.inside in
    let within : total old.lengths.items ≤ length old.bytes.items = omega (arith, c.self.invariant.at, c.self.invariant.within) in
    let goes : IsPrefix (concat (pieces_of old.lengths.items old.bytes.items) ++ c.args.piece.now) (old.bytes.items ++ c.args.new.now) =
    subst (λ (rows : PutRowsState). IsPrefix (concat rows.pieces ++ c.args.piece.now) (rows.bytes ++ c.args.new.now)) (sym c.self.view_is) c.requires in
    held-add old.before old.bytes.items c.extend_from_slice.new.self.items old.lengths.items c.push.new.self.items old.refused.items old.fault old.faults c.args.piece.now c.args.new.now
    c.in_ok-extend_from_slice.ensures.items
    (search rules)
    c.self.invariant.before within goes
    ∙ ap (λ (rows : PutRowsState). record rows { bytes = rows.bytes ++ c.args.new.now; pieces = rows.pieces ++ c.args.piece.now ∷ [] }) c.self.view_is
