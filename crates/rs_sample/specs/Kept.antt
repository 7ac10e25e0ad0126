-- The cards that an object keeps.
use Rattle.std.specs.Prelude.{◌-◌, List, get_or, map}
use Rattle.rs_sample.specs.Cards.{BlockCards}
use Rattle.rs_sample.specs.Quotients.{number_at}
use Rattle.rs_sample.specs.declared.cards.Cards.{Cards}
use Rattle.rs_sample.specs.declared.estimates.Estimates.{Estimates}

-- the cards of a block
abbrev pub block_cards : Estimates → BlockCards
block_cards e = record {
  entries = e.entries;
  reads = e.reads.items;
  estimate = number_at e.numbers.items;
  index_estimate = λ entry term. get_or e.index_numbers.items (term - 1) 0;
}

-- the cards of the blocks of a query
abbrev pub cards_of : Cards → List BlockCards
cards_of cards = map block_cards cards.blocks.items
