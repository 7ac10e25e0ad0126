-- The life of a view: it is made over a catalogue, and grows over each one that this catalogue grows to.
use Rattle.std.specs.Prelude.{List, [], ◌∷◌, ◌++◌}
use Rattle.rs_expr.specs.InOrder.{calls_of}
use Rattle.rs_expr.specs.Scoring.{Answering}
use Rattle.rs_expr.specs.declared.scorer.Call.{Call}
use Rattle.rs_catalog.specs.Catalog.{CatalogDef}
use Rattle.rs_query.specs.Growth.{CatalogueGrows}
use Rattle.rs_query.specs.declared.query.Query.{Query}
use Rattle.rs_view.specs.Fresh.{growing, making, whole_view}

-- each catalogue grows from the one before it
abbrev pub GrowInTurn : CatalogDef → List CatalogDef → Type 0
GrowInTurn first [] = Unit {0}
GrowInTurn first (next ∷ later) = CatalogueGrows first next × GrowInTurn next later

-- the last one
abbrev pub last_from : CatalogDef → List CatalogDef → CatalogDef
last_from first [] = first
last_from first (next ∷ later) = last_from next later

-- the calls of the growths of a view over each of these catalogues, where it is whole over the first one
abbrev pub growth_calls : Answering → Query → CatalogDef → List CatalogDef → List Call
growth_calls answer query first [] = []
growth_calls answer query first (next ∷ later) = calls_of (growing answer next (whole_view answer first query)).requests ++ growth_calls answer query next later

-- all calls of a view: those that make it, and those of its growths
abbrev pub life_calls : Answering → Query → CatalogDef → List CatalogDef → List Call
life_calls answer query first later = calls_of (making answer first query).requests ++ growth_calls answer query first later
