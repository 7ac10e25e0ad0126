use Rattle.std.proofs.Common.{ℕ, List, ◌≡◌, ◌+◌, ◌≢◌, ◌∷◌, ◌++◌, [], true, false, length, sym, ◌∙◌, inl, arith, ap}
use Rattle.std.specs.List.{list_any}
use Rattle.std.proofs.lemmas.List.{length_push}
use Rattle.rs_table.specs.Column.{is_named}
use Rattle.rs_bind.specs.Names.{named}
use Rattle.rs_bind.proofs.NameFacts.{named-full, named-next, named-twice}
use Rattle.rs_bind.proofs.names.distinct_columns.Goals as goal

pub returns-then-len-most-clause-gives : goal.returns-then-len-most-clause-gives
returns-then-len-most-clause-gives c =
    inl (named-full c.args.most c.args.columns.now c.loop-name.made.items c.loop-name.name-index (named c.args.most c.args.columns.now) c.loop-name-item.result
    (omega arith) c.loop-name-item.is c.loop-name.invariant.so_far (omega arith))

pub returns-then-is_among-clause-gives : goal.returns-then-is_among-clause-gives
returns-then-is_among-clause-gives c =
    let room : length c.loop-name.made.items ≢ c.args.most = omega arith in
    let found : list_any (is_named c.loop-name-item.result.0.text) c.loop-name.made.items ≡ true =
    ap (λ columns. list_any (is_named c.loop-name-item.result.0.text) columns) (sym c.deref.ensures.value) ∙ sym c.is_among.ensures ∙ c.if-is_among.true in
    inl (named-twice c.args.most c.args.columns.now c.loop-name.made.items c.loop-name.name-index (named c.args.most c.args.columns.now) c.loop-name-item.result
    (omega arith) c.loop-name-item.is c.loop-name.invariant.so_far room found)

pub loop-name-preserved : goal.loop-name-preserved
loop-name-preserved c =
    let room : length c.loop-name.made.items ≢ c.args.most = omega arith in
    let new : list_any (is_named c.loop-name-item.result.0.text) c.loop-name.made.items ≡ false =
    ap (λ columns. list_any (is_named c.loop-name-item.result.0.text) columns) (sym c.deref.ensures.value) ∙ sym c.is_among.ensures ∙ c.if-is_among.false in
    let more : c.push.new.self.items ≡ (c.loop-name.made.items ++ (c.loop-name-item.result.0.text, c.loop-name-item.result.1) ∷ []) =
    c.in_ok-push.ensures.items ∙ ap (λ (text : List ℕ). c.loop-name.made.items ++ (text, c.loop-name-item.result.1) ∷ []) c.in_ok-text.ensures in
    let grown : length c.push.new.self.items ≡ length c.loop-name.made.items + 1 =
    ap length more ∙ length_push c.loop-name.made.items (c.loop-name-item.result.0.text, c.loop-name-item.result.1) in
    record {
      few = omega arith;
      same = omega arith;
      so_far = named-next c.args.most c.args.columns.now c.loop-name.made.items c.loop-name.name-index (named c.args.most c.args.columns.now) c.loop-name-item.result
          (omega arith) c.loop-name-item.is c.loop-name.invariant.so_far room new c.push.new.self.items more;
    }
