use Rattle.std.proofs.Common.{ℕ, List, ◌≡◌, ◌+◌, ◌<◌, ◌≤◌, ◌≢◌, ◌∷◌, ◌++◌, [], true, false, length, sym, ◌∙◌, inl, arith, rules, ap, subst, Ok, Err}
use Rattle.std.specs.List.{AllByRecursion, list_any}
use Rattle.std.specs.Str.{bytes_eq}
use Rattle.std.proofs.lemmas.List.{length_push}
use Rattle.rs_catalog.specs.Catalog.{number_named}
use Rattle.rs_catalog.specs.declared.room.What.TheVariants as what
use Rattle.rs_typing.specs.declared.fault.BindFault.TheVariants.{At}
use Rattle.rs_typing.specs.declared.fault.Why.TheVariants.{NoTable}
use Rattle.rs_typing.specs.Missing.{or_fault}
use Rattle.rs_bind.specs.Indexes.{columns_in}
use Rattle.rs_bind.specs.Sources.{alias_of}
use Rattle.rs_bind.proofs.EntryFacts.{AllByRecursion-push, entries-full, entries-next, entries-no_table, entries-twice}
use Rattle.rs_bind.proofs.from.bind_entries.Goals as goal

pub returns-then-len-eq-MOST_ENTRIES-clause-gives : goal.returns-then-len-eq-MOST_ENTRIES-clause-gives
returns-then-len-eq-MOST_ENTRIES-clause-gives c =
    inl (entries-full c.args.catalog.now c.args.from.now c.loop-table.made.items c.loop-table.table-index c.loop-table-item.result (omega arith) c.loop-table-item.is
    c.loop-table.invariant.so_far (omega arith))

pub returns-in_err-number-clause-gives : goal.returns-in_err-number-clause-gives
returns-in_err-number-clause-gives c =
    let room : length c.loop-table.made.items ≢ 6 = omega arith in
    let entry = c.loop-table-item.result in
    let none : or_fault (At NoTable entry.0.at) (number_named what.Table entry.0.text c.args.catalog.now) ≡ Err c.in_err-number.field-0.0 =
    sym c.table_number.ensures.value ∙ c.in_err-number.was in
    let told = entries-no_table c.args.catalog.now c.args.from.now c.loop-table.made.items c.loop-table.table-index entry c.in_err-number.field-0.0 (omega arith)
    c.loop-table-item.is c.loop-table.invariant.so_far room none in
    let failed : c.from_residual.result ≡ Err c.in_err-number.field-0.0 = search rules in
    inl (failed ∙ told)

pub returns-then-is_among-clause-gives : goal.returns-then-is_among-clause-gives
returns-then-is_among-clause-gives c =
    let room : length c.loop-table.made.items ≢ 6 = omega arith in
    let entry = c.loop-table-item.result in
    let is : or_fault (At NoTable entry.0.at) (number_named what.Table entry.0.text c.args.catalog.now) ≡ Ok c.in_ok-number.number =
    sym c.table_number.ensures.value ∙ c.in_ok-number.was in
    let alias = c.alias_of-alias.result.now in
    let found : list_any (λ (e : ℕ × List ℕ). bytes_eq e.1 alias.text) c.loop-table.made.items ≡ true =
    ap (list_any (λ (e : ℕ × List ℕ). bytes_eq e.1 alias.text)) (sym c.deref.ensures.value) ∙ sym c.is_among.ensures ∙ c.if-is_among.true in
    let twice = subst (λ name. list_any (λ (e : ℕ × List ℕ). bytes_eq e.1 name.text) c.loop-table.made.items ≡ true) c.alias_of-alias.ensures found in
    let told = entries-twice c.args.catalog.now c.args.from.now c.loop-table.made.items c.loop-table.table-index entry c.in_ok-number.number (omega arith)
    c.loop-table-item.is c.loop-table.invariant.so_far room is twice in
    inl cc

pub loop-table-preserved : goal.loop-table-preserved
loop-table-preserved c =
    let room : length c.loop-table.made.items ≢ 6 = omega arith in
    let entry = c.loop-table-item.result in
    let number = c.in_ok-number.number in
    let is : or_fault (At NoTable entry.0.at) (number_named what.Table entry.0.text c.args.catalog.now) ≡ Ok number =
    sym c.table_number.ensures.value ∙ c.in_ok-number.was in
    let alias = c.alias_of-alias.result.now in
    let other : list_any (λ (e : ℕ × List ℕ). bytes_eq e.1 alias.text) c.loop-table.made.items ≡ false =
    ap (list_any (λ (e : ℕ × List ℕ). bytes_eq e.1 alias.text)) (sym c.deref.ensures.value) ∙ sym c.is_among.ensures ∙ c.if-is_among.false in
    let new = subst (λ name. list_any (λ (e : ℕ × List ℕ). bytes_eq e.1 name.text) c.loop-table.made.items ≡ false) c.alias_of-alias.ensures other in
    let text : c.in_ok-text.text ≡ (alias_of entry).text = c.in_ok-text.ensures ∙ ap (λ name. name.text) c.alias_of-alias.ensures in
    let more : c.push.new.self.items ≡ (c.loop-table.made.items ++ (number, (alias_of entry).text) ∷ []) =
    c.in_ok-push.ensures.items ∙ ap (λ (name : List ℕ). c.loop-table.made.items ++ (number, name) ∷ []) text in
    let grown : length c.push.new.self.items ≡ length c.loop-table.made.items + 1 =
    ap length more ∙ length_push c.loop-table.made.items (number, (alias_of entry).text) in
    let Within : ℕ × List ℕ → Type 0 = λ e. e.0 < length c.args.catalog.now.tables in
    let Few : ℕ × List ℕ → Type 0 = λ e. length (columns_in c.args.catalog.now e.0) ≤ 64 in
    record {
      few = omega arith;
      tables = subst (AllByRecursion Within) (sym more)
          (AllByRecursion-push Within c.loop-table.made.items (number, (alias_of entry).text) c.loop-table.invariant.tables c.in_ok-number.ensures.within);
      columns = subst (AllByRecursion Few) (sym more)
          (AllByRecursion-push Few c.loop-table.made.items (number, (alias_of entry).text) c.loop-table.invariant.columns c.in_ok-number.ensures.columns);
      so_far = entries-next c.args.catalog.now c.args.from.now c.loop-table.made.items c.loop-table.table-index entry number c.push.new.self.items (omega arith)
          c.loop-table-item.is c.loop-table.invariant.so_far room is new more;
    }
