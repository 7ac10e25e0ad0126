-- Cards that are those of a query: which numbers may be asked of them.
use Rattle.std.specs.Prelude.{ℕ, ◌≡◌, ◌≤◌, ◌-◌, List, Some, length, map, slice_get}
use Rattle.rs_query.specs.declared.block.Block.{Block}
use Rattle.rs_query.specs.declared.query.Query.{Query}
use Rattle.rs_query.specs.declared.query.Query.TheVariants.{One, Set}
use Rattle.rs_query.specs.declared.term.Term.{Term}
use Rattle.rs_sample.specs.Cards.{BlockCards}

-- the cards of a block
pub record IsFor (block : Block) (cards : BlockCards) : Type 0 where
  pub entries : cards.entries ≡ length block.from
  pub reads : cards.reads ≡ map (λ (t : Term). t.entries) block.terms

-- a block whose cards are those of this number, counted from 1
pub record IsOfBlock (block : Block) (number : ℕ) (all : List BlockCards) : Type 0 where
  pub least : 1 ≤ number
  pub most : number ≤ length all
  pub few_entries : length block.from ≤ 6
  pub few_terms : length block.terms ≤ 8
  pub shape : (cards : BlockCards) → slice_get all (number - 1) ≡ Some cards → IsFor block cards

-- the cards of the blocks of a query
abbrev pub HasShape : Query → List BlockCards → Type 0
HasShape (One block limit) all = IsOfBlock block 1 all
HasShape (Set op left right limit) all = IsOfBlock left 1 all × IsOfBlock right 2 all
