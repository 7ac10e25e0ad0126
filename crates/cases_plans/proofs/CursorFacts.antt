-- A cursor can go on behind each of its calls.
use Rattle.std.proofs.Common.{◌≡◌}
use Rattle.std.specs.Prelude.{is_err, IfOk, Ok, Err, Result}
use Rattle.rs_expr.specs.Scoring.{Answering}
use Rattle.rs_catalog.specs.Catalog.{CatalogDef}
use Rattle.rs_exec.specs.Cursors.{CanGo, CursorState, StandsFor}
use Rattle.rs_exec.specs.declared.fault.ExecFault.{ExecFault}

-- it failed, or it stands
pub goes-on : {A : Type 0} (catalogue : CatalogDef) (answer : Answering) (cursor : CursorState) (result : Result A ExecFault)
    → cursor.failed ≡ is_err result → IfOk result (λ _. StandsFor catalogue answer cursor) → CanGo catalogue answer cursor
goes-on catalogue answer cursor (Ok a) failed stands = λ sound. stands
goes-on catalogue answer cursor (Err fault) failed stands = λ sound. cc
