-- What an INSERT does: its rows join their table, and the rank indexes of the table.
use Rattle.std.specs.Prelude.{ℕ, ◌<◌, List, [], length, option_map, unwrap_or, slice_get, Result, Ok, Err}
use Rattle.rs_value.specs.declared.value.Value.{Value}
use Rattle.rs_catalog.specs.Catalog.{CatalogDef, RankIndex}
use Rattle.rs_catalog.specs.Growing.{grown, growing}
use Rattle.rs_catalog.specs.Indexes.{predicate_for}
use Rattle.rs_catalog.specs.declared.growth.GrowFault.{GrowFault}
use Rattle.rs_catalog.specs.declared.growth.GrowFault.TheVariants as grow
use Rattle.rs_events.specs.Events.{calls_in}
use Rattle.rs_expr.specs.Scoring.{Answering}
use Rattle.rs_statement.specs.Faults.{only}
use Rattle.rs_statement.specs.Steps.{Step}
use Rattle.rs_statement.specs.declared.fault.Fault.{Fault}
use Rattle.rs_statement.specs.declared.fault.Fault.TheVariants.{BadScore, Memory, Probe}

-- the name of the predicate that the index of this number is of
abbrev pub index_predicate : CatalogDef → ℕ → List ℕ
index_predicate catalogue index = unwrap_or (option_map (λ (i : RankIndex). (predicate_for catalogue i.def).name) (slice_get catalogue.indexes index)) []

-- why rows didn't join ends the run
abbrev pub grow_fault : CatalogDef → GrowFault → Fault
grow_fault catalogue (grow.BadScore index row got max) = BadScore (index_predicate catalogue index) (only row) got max
grow_fault catalogue (grow.Probe index) = Probe (index_predicate catalogue index)
grow_fault catalogue grow.Memory = Memory

abbrev pub grow_outcome : CatalogDef → ℕ → List (List Value) → Result (List RankIndex) GrowFault → Result CatalogDef Fault
grow_outcome catalogue table rows (Ok indexes) = Ok (grown table rows indexes catalogue)
grow_outcome catalogue table rows (Err fault) = Err (grow_fault catalogue fault)

-- the calls of the indexes, index by index in the order of making, and then the rows join
abbrev pub insert_step : Answering → CatalogDef → ℕ × List (List Value) → Step CatalogDef
insert_step answer catalogue joining =
    let asked = growing answer catalogue joining.0 joining.1 in
    record { events = calls_in asked; outcome = grow_outcome catalogue joining.0 joining.1 asked.outcome }

-- why rows didn't join is told of an index that is there
abbrev pub NamesIndex : CatalogDef → GrowFault → Type 0
NamesIndex catalogue (grow.BadScore index row got max) = index < length catalogue.indexes
NamesIndex catalogue (grow.Probe index) = index < length catalogue.indexes
NamesIndex catalogue grow.Memory = Unit {0}
