-- Which cards belong to a query.
use Rattle.std.specs.Prelude.{ℕ, ◌≡◌, ◌≤◌, ◌-◌, List, [], ◌∷◌, length, map, None, slice_get, unwrap_or}
use Rattle.rs_query.specs.declared.block.Block.{Block}
use Rattle.rs_query.specs.declared.query.Query.{Query}
use Rattle.rs_query.specs.declared.query.Query.TheVariants.{One, Set}
use Rattle.rs_query.specs.declared.term.Term.{Term}
use Rattle.rs_sample.specs.Cards.{BlockCards}
use Rattle.rs_query.specs.Blocks.{block_in}

-- the cards of the block of this number, counted from 1; of nothing where there are none
abbrev pub cards_at : List BlockCards → ℕ → BlockCards
cards_at cards number =
    unwrap_or (slice_get cards (number - 1)) (record { entries = 0; reads = []; estimate = λ mask terms. 0; index_estimate = λ entry term. 0 })

-- there are cards of a block of this number
pub record IsBlockNumber (cards : List BlockCards) (number : ℕ) : Type 0 where
  pub some : 1 ≤ number
  pub most : number ≤ length cards

-- the block of this number as a query of its own, with its cards
abbrev pub alone : Query → ℕ → Query
alone query number = One (block_in query number) None

abbrev pub alone_cards : List BlockCards → ℕ → List BlockCards
alone_cards cards number = cards_at cards number ∷ []

-- the cards of a block have as many entries as the block, and the entries of each of its terms
pub record AreBlockCards (block : Block) (cards : BlockCards) : Type 0 where
  pub entries : cards.entries ≡ length block.from
  pub reads : cards.reads ≡ map (λ (term : Term). term.entries) block.terms

-- the cards of a query have its blocks
abbrev pub AreCards : Query → List BlockCards → Type 0
AreCards (One block limit) cards = (own : BlockCards) × (cards ≡ own ∷ []) × AreBlockCards block own
AreCards (Set op left right limit) cards =
    (first : BlockCards) × (second : BlockCards) × (cards ≡ first ∷ second ∷ []) × AreBlockCards left first × AreBlockCards right second
