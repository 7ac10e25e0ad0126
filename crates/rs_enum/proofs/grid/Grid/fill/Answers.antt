-- The grid says what was found by its search.
use Rattle.rs_enum.proofs.GridFacts.{grid-costs}
use Rattle.rs_enum.proofs.grid.Grid.fill.Goals as goal

pub search-requires : goal.search-requires
search-requires c = record { query = c.requires.query; cards = c.requires.cards }

pub returns : goal.returns
returns c = λ block entries terms. grid-costs _ c.search.new.self entries terms c.search.ensures block
