-- The table at the place has the rows behind its own, or it is the same.
use Rattle.std.proofs.Common.{◌≡◌, ◌∙◌, ap}
use Rattle.std.specs.Prelude.{OnErr, OnOk, Ok, Err, Result}
use Rattle.indexmap.specs.IndexMap.{set_value_at}
use Rattle.rs_value.specs.declared.memory.Memory.{Memory}
use Rattle.rs_table.specs.Lent.{with_rows}
use Rattle.rs_catalog.proofs.JoinRowsFacts.{set-same, set-with_rows}
use Rattle.rs_catalog.proofs.catalog.put_rows.Goals as goal

-- what was said of a result is said of what follows
OnOk-then : {A B : Type 0} (result : Result (Unit {0}) Memory) → (A → B) → OnOk result A → OnOk result B
OnOk-then (Ok done) f a = f a
OnOk-then (Err memory) f a = a

OnErr-then : {A B : Type 0} (result : Result (Unit {0}) Memory) → (A → B) → OnErr result A → OnErr result B
OnErr-then (Ok done) f a = a
OnErr-then (Err memory) f a = f a

pub returns-clause-ok : goal.returns-clause-ok
returns-clause-ok c =
    OnOk-then c.add_rows.result
    (λ (same : c.add_rows.new.self ≡ with_rows c.args.rows.items c.index_mut.result.now).
    ap (set_value_at c.args.tables.now.entries c.args.place) same ∙ set-with_rows c.args.place c.args.rows.items c.args.tables.now.entries c.index_mut.result.now c.index_mut.ensures.value)
    c.add_rows.ensures.ok

pub returns-clause-err : goal.returns-clause-err
returns-clause-err c =
    OnErr-then c.add_rows.result
    (λ (same : c.add_rows.new.self ≡ c.index_mut.result.now).
    ap (set_value_at c.args.tables.now.entries c.args.place) same ∙ set-same c.args.tables.now.entries c.args.place c.index_mut.result.now c.index_mut.ensures.value)
    c.add_rows.ensures.err
