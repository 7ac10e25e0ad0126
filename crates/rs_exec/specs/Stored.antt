-- How the logic stores a cursor: as the tuple of its fields.
use Rattle.std.specs.Prelude.{Bool, refl}
use Rattle.std.specs.Coded.{Coded, code_by, coded×, coded_bool}
use Rattle.rs_query.specs.contracts.query.Query as query
use Rattle.rs_query.specs.declared.query.Query.{Query}
use Rattle.rs_exec.specs.contracts.node.PlanNode as node
use Rattle.rs_exec.specs.declared.node.PlanNode.{PlanNode}
use Rattle.rs_exec.specs.Cursors.{CursorState}

abbrev pub cursor_code : Coded CursorState
cursor_code =
    code_by (Query × (PlanNode × Bool)) (coded× query.the_row.coded (coded× node.the_row.coded coded_bool))
    (λ c. (c.query, (c.root, c.failed))) (λ t. record { query = t.0; root = t.1.0; failed = t.1.1 }) (λ _. refl)
