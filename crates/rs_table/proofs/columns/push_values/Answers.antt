-- The value goes into the column at its place.
use Rattle.std.proofs.Common.{◌≡◌, ◌+◌, ◌++◌, ◌∷◌, [], ◌∙◌, ap, arith, get_or, length, set, sym, subst}
use Rattle.std.proofs.lemmas.List.{length-map, length_push}
use Rattle.rs_table.specs.Stored.{StoredCells}
use Rattle.rs_table.proofs.StoredFacts.{ArePushed, IsTaken, Takes, pushed-more, taken, takes}
use Rattle.rs_table.proofs.columns.push_values.Goals as goal

was_taken : (c : goal.After-index-columns-len) → IsTaken c.args.values.items c.pop.new.self.items c.in-Some.value
was_taken c = taken c.args.values.items c.loop-value.values.items c.pop.new.self.items c.in-Some.value c.loop-value.invariant.left c.in-Some.ensures.items

done_before : (c : goal.After-index-columns-len) → ArePushed (length c.pop.new.self.items + 1) c.args.columns.now c.loop-value.columns c.args.values.items
done_before c =
    subst (λ n. ArePushed n c.args.columns.now c.loop-value.columns c.args.values.items) (ap length c.in-Some.ensures.items ∙ length_push c.pop.new.self.items c.in-Some.value) c.loop-value.invariant.done

takes_it : (c : goal.After-index-columns-len) → Takes c.index-columns-len.result c.in-Some.value
takes_it c =
    let it = was_taken c in
    let at : c.len.result ≡ length c.pop.new.self.items = omega (arith, c.len.ensures) in
    takes (length c.pop.new.self.items) c.args.columns.now c.loop-value.columns c.args.values.items c.index-columns-len.result c.in-Some.value (done_before c) c.requires.kinds c.requires.room
    c.requires.few it.within (subst (λ i. c.index-columns-len.result ≡ get_or c.loop-value.columns i c.index-columns-len.result) at c.index-columns-len.is) it.value_is

pub push-requires-clause-kind : goal.push-requires-clause-kind
push-requires-clause-kind c = rw (← c.index-columns-len.is) (takes_it c).kind

pub push-requires-clause-room : goal.push-requires-clause-room
push-requires-clause-room c = rw (← c.index-columns-len.is) (takes_it c).room

pub push-requires-clause-few : goal.push-requires-clause-few
push-requires-clause-few c = rw (← c.index-columns-len.is) (takes_it c).few

pub loop-value-preserved : goal.loop-value-preserved
loop-value-preserved c =
    let it = taken c.args.values.items c.loop-value.values.items c.pop.new.self.items c.in-Some.value c.loop-value.invariant.left c.in-Some.ensures.items in
    let within = it.within in
    let at : c.len.result ≡ length c.pop.new.self.items = omega (arith, c.len.ensures) in
    let before =
    subst (λ n. ArePushed n c.args.columns.now c.loop-value.columns c.args.values.items) (ap length c.in-Some.ensures.items ∙ length_push c.pop.new.self.items c.in-Some.value) c.loop-value.invariant.done in
    let sizes = ap length c.requires.kinds in
    let is = subst (λ i. c.index-columns-len.result ≡ get_or c.loop-value.columns i c.index-columns-len.result) at c.index-columns-len.is in
    record {
      left = it.left_is;
      done =
          subst (λ i. ArePushed (length c.pop.new.self.items) c.args.columns.now (set c.loop-value.columns i c.push.new.self) c.args.values.items) (sym at)
          (pushed-more (length c.pop.new.self.items) c.args.columns.now c.loop-value.columns c.args.values.items c.index-columns-len.result c.push.new.self c.in-Some.value before
          (omega (arith, simp length-map at sizes)) within is it.value_is
          (record {
            kind = c.push.ensures.kind ∙ ap (λ (cells : StoredCells). cells.kind) (sym c.index-columns-len.is);
            cells = c.push.ensures.cells ∙ ap (λ (cells : StoredCells). cells.cells ++ c.in-Some.value ∷ []) (sym c.index-columns-len.is);
            room = let more = c.push.ensures.room in rw c.index-columns-len.is more;
          }));
    }
