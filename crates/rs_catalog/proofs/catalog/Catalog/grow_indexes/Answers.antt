-- The indexes are asked about one after another, up to the first fault.
use Rattle.std.proofs.Common.{◌≡◌, ◌∙◌, ◌<◌, ◌≤◌, ◌+◌, ◌++◌, ◌∷◌, [], List, ap, arith, length, subst, sym, take, zero-add}
use Rattle.std.specs.Prelude.{Err, Ok, slice_get}
use Rattle.std.proofs.lemmas.List.{length_push, take_all}
use Rattle.rs_value.proofs.ResultFacts.{given-err}
use Rattle.rs_expr.specs.InOrder.{Inquires}
use Rattle.rs_expr.specs.Scoring.{Answering}
use Rattle.rs_catalog.specs.Catalog.{RankIndex}
use Rattle.rs_catalog.specs.Growing.{growing, growing_index}
use Rattle.rs_catalog.specs.Grown.{AreGrown, all_renewed, renewed}
use Rattle.rs_catalog.specs.declared.growth.GrowFault.TheVariants.{Memory}
use Rattle.rs_catalog.proofs.GrowAtFacts.{IsFree-growing_index, number-of-indexes}
use Rattle.rs_catalog.proofs.InTurnFacts.{InTurn, InTurn-more, InTurn-none, Inquires-held_up, Inquires-item, Inquires-turns}
use Rattle.rs_catalog.proofs.JoinRowsFacts.{AreGrown-none, AreGrown-push, all_renewed-more, item_at}
use Rattle.rs_catalog.proofs.catalog.Catalog.grow_indexes.Goals as goal

pub loop-number-init : goal.loop-number-init
loop-number-init g c =
    let old = g.S.Scorer.state c.args.scorer.now in
    record {
      turn = InTurn-none (growing_index old.answer c.args.self.now c.args.table c.args.rows.now) 0 c.args.self.now.indexes old;
      grown = subst (AreGrown c.args.self.now c.args.table (length c.args.rows.now) c.args.self.now.indexes) (sym c.new-grown.ensures.items) (AreGrown-none c.args.self.now c.args.table (length c.args.rows.now) c.args.self.now.indexes);
      len = ap length c.new-grown.ensures.items;
    }

pub grow_at-requires : goal.grow_at-requires
grow_at-requires g c =
    let all = number-of-indexes c.self.inside.tables.entries c.self.inside.predicates.entries c.self.inside.indexes.entries c.args.self.now c.self.view_is in
    record { join = c.requires; index_in = omega (arith, c.len-number-end.ensures.len) }

pub returns-in_err-ranked : goal.returns-in_err-ranked
returns-in_err-ranked g c =
    let old = g.S.Scorer.state c.args.scorer.now in
    let middle = g.S.Scorer.state c.loop-number.scorer in
    let new = g.S.Scorer.state c.grow_at.new.scorer in
    let ask = growing_index old.answer c.args.self.now c.args.table c.args.rows.now in
    let all = number-of-indexes c.self.inside.tables.entries c.self.inside.predicates.entries c.self.inside.indexes.entries c.args.self.now c.self.view_is in
    let within : c.loop-number.number < length c.args.self.now.indexes = omega (arith, c.len-number-end.ensures.len) in
    let x = item_at c.args.self.now.indexes c.loop-number.number within in
    let fault = c.in_err-ranked.field-0.0 in
    let asked : Inquires Memory (ask (0 + c.loop-number.number) x.item) (Err fault) middle new =
    subst (λ n. Inquires Memory (ask n x.item) (Err fault) middle new) (sym (zero-add c.loop-number.number))
    (subst (λ (answer : Answering). Inquires Memory (growing_index answer c.args.self.now c.args.table c.args.rows.now c.loop-number.number x.item) (Err fault) middle new) c.loop-number.invariant.turn.keeps.answer
    (c.in_err-ranked.ensures.grows x.item x.there)) in
    let err : c.from_residual.result ≡ Err fault = given-err c.from_residual.result fault c.from_residual.ensures in
    rw err (record {
      grows = Inquires-item ask 0 c.args.self.now.indexes c.loop-number.number x.item (all_renewed (take c.loop-number.number c.args.self.now.indexes) c.loop-number.grown.items) old middle new within x.is c.loop-number.invariant.turn
          (IsFree-growing_index old.answer c.args.self.now c.args.table c.args.rows.now) fault asked;
      all = tt;
      len = tt;
    })

pub returns-in_err-push : goal.returns-in_err-push
returns-in_err-push g c =
    let old = g.S.Scorer.state c.args.scorer.now in
    let middle = g.S.Scorer.state c.loop-number.scorer in
    let new = g.S.Scorer.state c.grow_at.new.scorer in
    let ask = growing_index old.answer c.args.self.now c.args.table c.args.rows.now in
    let all = number-of-indexes c.self.inside.tables.entries c.self.inside.predicates.entries c.self.inside.indexes.entries c.args.self.now c.self.view_is in
    let within : c.loop-number.number < length c.args.self.now.indexes = omega (arith, c.len-number-end.ensures.len) in
    let x = item_at c.args.self.now.indexes c.loop-number.number within in
    let ranked = c.in_ok-ranked.ranked in
    let asked : Inquires Memory (ask (0 + c.loop-number.number) x.item) (Ok (renewed ranked x.item)) middle new =
    subst (λ n. Inquires Memory (ask n x.item) (Ok (renewed ranked x.item)) middle new) (sym (zero-add c.loop-number.number))
    (subst (λ (answer : Answering). Inquires Memory (growing_index answer c.args.self.now c.args.table c.args.rows.now c.loop-number.number x.item) (Ok (renewed ranked x.item)) middle new) c.loop-number.invariant.turn.keeps.answer
    (c.in_ok-ranked.ensures.grows x.item x.there)) in
    let done = all_renewed (take c.loop-number.number c.args.self.now.indexes) c.loop-number.grown.items in
    let err : c.from_residual-in_err-push.result ≡ Err Memory = given-err c.from_residual-in_err-push.result Memory c.from_residual-in_err-push.ensures in
    rw err (record {
      grows = Inquires-held_up ask (IsFree-growing_index old.answer c.args.self.now c.args.table c.args.rows.now) 0 c.args.self.now.indexes (c.loop-number.number + 1) (done ++ renewed ranked x.item ∷ []) old new
          (InTurn-more ask 0 c.args.self.now.indexes c.loop-number.number x.item done old middle new within x.is c.loop-number.invariant.turn (renewed ranked x.item) asked);
      all = tt;
      len = tt;
    })

pub loop-number-preserved : goal.loop-number-preserved
loop-number-preserved g c =
    let old = g.S.Scorer.state c.args.scorer.now in
    let middle = g.S.Scorer.state c.loop-number.scorer in
    let new = g.S.Scorer.state c.grow_at.new.scorer in
    let ask = growing_index old.answer c.args.self.now c.args.table c.args.rows.now in
    let all = number-of-indexes c.self.inside.tables.entries c.self.inside.predicates.entries c.self.inside.indexes.entries c.args.self.now c.self.view_is in
    let within : c.loop-number.number < length c.args.self.now.indexes = omega (arith, c.len-number-end.ensures.len) in
    let x = item_at c.args.self.now.indexes c.loop-number.number within in
    let ranked = c.in_ok-ranked.ranked in
    let asked : Inquires Memory (ask (0 + c.loop-number.number) x.item) (Ok (renewed ranked x.item)) middle new =
    subst (λ n. Inquires Memory (ask n x.item) (Ok (renewed ranked x.item)) middle new) (sym (zero-add c.loop-number.number))
    (subst (λ (answer : Answering). Inquires Memory (growing_index answer c.args.self.now c.args.table c.args.rows.now c.loop-number.number x.item) (Ok (renewed ranked x.item)) middle new) c.loop-number.invariant.turn.keeps.answer
    (c.in_ok-ranked.ensures.grows x.item x.there)) in
    let done = all_renewed (take c.loop-number.number c.args.self.now.indexes) c.loop-number.grown.items in
    let pushed : c.push.new.self.items ≡ c.loop-number.grown.items ++ ranked ∷ [] = c.in_ok-push.ensures.items in
    let len = c.loop-number.invariant.len in
    let now : all_renewed (take (c.loop-number.number + 1) c.args.self.now.indexes) c.push.new.self.items ≡ done ++ renewed ranked x.item ∷ [] =
    ap (all_renewed (take (c.loop-number.number + 1) c.args.self.now.indexes)) pushed ∙ all_renewed-more c.args.self.now.indexes c.loop-number.number c.loop-number.grown.items x.item ranked len within x.is in
    record {
      turn = subst (λ (list : List RankIndex). InTurn ask 0 c.args.self.now.indexes (c.loop-number.number + 1) list old new) (sym now)
          (InTurn-more ask 0 c.args.self.now.indexes c.loop-number.number x.item done old middle new within x.is c.loop-number.invariant.turn (renewed ranked x.item) asked);
      grown = subst (AreGrown c.args.self.now c.args.table (length c.args.rows.now) c.args.self.now.indexes) (sym pushed)
          (AreGrown-push c.args.self.now c.args.table (length c.args.rows.now) c.args.self.now.indexes c.loop-number.grown.items x.item ranked (ap (slice_get c.args.self.now.indexes) len ∙ x.there) c.loop-number.invariant.grown (c.in_ok-ranked.ensures.all x.item x.there));
      len = ap length pushed ∙ length_push c.loop-number.grown.items ranked ∙ ap (λ n. n + 1) len;
    }

pub returns : goal.returns
returns g c =
    let old = g.S.Scorer.state c.args.scorer.now in
    let new = g.S.Scorer.state c.loop-number.scorer in
    let ask = growing_index old.answer c.args.self.now c.args.table c.args.rows.now in
    let all = number-of-indexes c.self.inside.tables.entries c.self.inside.predicates.entries c.self.inside.indexes.entries c.args.self.now c.self.view_is in
    let over : length c.args.self.now.indexes ≤ c.loop-number.number = omega (arith, c.len-number-end.ensures.len) in
    let grown = c.loop-number.grown.items in
    record {
      grows = subst (λ (list : List RankIndex). Inquires Memory (growing old.answer c.args.self.now c.args.table c.args.rows.now) (Ok (all_renewed list grown)) old new) (take_all c.loop-number.number c.args.self.now.indexes over)
          (Inquires-turns ask 0 c.args.self.now.indexes c.loop-number.number (all_renewed (take c.loop-number.number c.args.self.now.indexes) grown) old new over c.loop-number.invariant.turn);
      all = c.loop-number.invariant.grown;
      len = c.loop-number.invariant.len ∙ (let e : c.loop-number.number ≡ length c.args.self.now.indexes = omega (arith, c.len-number-end.ensures.len) in e);
    }
