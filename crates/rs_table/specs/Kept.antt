-- Cells of one kind, as their values.
use Rattle.std.specs.Prelude.{◌-◌, map, vec_len, vec_capacity}
use Rattle.rs_value.specs.declared.kind.Kind.TheVariants as kind
use Rattle.rs_value.specs.declared.value.Value.TheVariants.{Int, Text}
use Rattle.rs_table.specs.Stored.{StoredCells}
use Rattle.rs_table.specs.declared.cells.Kept.{Kept}
use Rattle.rs_table.specs.declared.cells.Kept.TheVariants.{Ints, Texts}

abbrev pub cells_of : Kept → StoredCells
cells_of (Ints numbers) = record { kind = kind.Int; cells = map (λ number. Int number) numbers.items; room = vec_capacity numbers - vec_len numbers }
cells_of (Texts texts) = record { kind = kind.Text; cells = map (λ text. Text text) texts.texts; room = texts.room }
