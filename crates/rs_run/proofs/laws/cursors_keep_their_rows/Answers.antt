use Rattle.std.proofs.Common.{◌∙◌}
use Rattle.rs_catalog.specs.Catalog.{with_index, with_predicate, with_table}
use Rattle.rs_catalog.specs.Growing.{grown}
use Rattle.rs_catalog.specs.Snapshot.{sizes_in}
use Rattle.rs_outside.specs.Files.{finds_in}
use Rattle.rs_statement.specs.Session.{ByPlan, OpenCursor}
use Rattle.rs_statement.proofs.SameFetches.{AskTheSame}
use Rattle.rs_run.proofs.LaterFacts.{KeepsFetch-states, declared-cursor, declared-events, goes-on, keeps-grown, keeps-with_index, keeps-with_predicate, keeps-with_table}
use Rattle.rs_run.proofs.laws.cursors_keep_their_rows.Goals as goal

pub returns : goal.returns
returns c =
    let asks = c.plans_ask_the_same_in_larger_catalogues.ensures in
    let same : AskTheSame = record { tables = asks.tables; predicates = asks.predicates; indexes = asks.indexes } in record {
      tables = λ answer state cursor wanted name table is.
          KeepsFetch-states same answer cursor wanted state (record state { catalogue = with_table name table state.catalogue })
          (keeps-with_table same answer cursor wanted state.catalogue is name table);
      predicates = λ answer state cursor wanted predicate is.
          KeepsFetch-states same answer cursor wanted state (record state { catalogue = with_predicate predicate state.catalogue })
          (keeps-with_predicate same answer cursor wanted state.catalogue is predicate);
      indexes = λ answer state cursor wanted def ranking is.
          KeepsFetch-states same answer cursor wanted state (record state { catalogue = with_index def ranking state.catalogue })
          (keeps-with_index same answer cursor wanted state.catalogue is def ranking);
      rows = λ answer state cursor wanted table rows indexes is held gives.
          KeepsFetch-states same answer cursor wanted state (record state { catalogue = grown table rows indexes state.catalogue })
          (keeps-grown same answer cursor wanted state.catalogue is table rows indexes held gives);
      statements = λ contents answer evaluating state later commands cursor wanted written held is leads.
          KeepsFetch-states same answer cursor wanted state later (goes-on same answer cursor wanted (finds_in contents) evaluating commands state later written held is leads);
      declared = λ contents answer evaluating state later commands query tree name asked wanted covered written held leads.
          let cursor : OpenCursor = record { name = name; source = ByPlan query tree (sizes_in state.catalogue); asked = asked } in
          KeepsFetch-states same answer cursor wanted state later
          (goes-on same answer cursor wanted (finds_in contents) evaluating commands state later written held (declared-cursor answer state held query tree name asked covered) leads)
          ∙ declared-events answer state held query tree name asked wanted;
    }
