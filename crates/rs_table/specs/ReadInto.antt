-- Values that are read into columns.
use Rattle.std.specs.Prelude.{◌≡◌, List, Result, Ok}
use Rattle.rs_value.specs.declared.value.Value.{Value}
use Rattle.rs_table.specs.declared.fault.TableFault.{TableFault}
use Rattle.rs_table.specs.Stored.{pushed}

-- the answer is values, of which each column has got one
abbrev pub ReadInto : Result (List Value) TableFault → List (List Value) → List (List Value) → Type 0
ReadInto answer old now = (values : List Value) × (answer ≡ Ok values) × (now ≡ pushed old values)
