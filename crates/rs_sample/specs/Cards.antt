-- What planning knows of a query: its cards, one for each block.
use Rattle.std.specs.Prelude.{ℕ, ◌≡◌, ◌<◌, ◌≤◌, ◌^◌, ◌/◌, ◌%◌, ◌-◌, true, List, [], ◌∷◌, length, Some, slice_get}
use Rattle.rs_rank.specs.Masks.{mask_of}
use Rattle.rs_query.specs.Meaning.{is_inside}

-- how many entries a block has, the mask of the entries of each of its terms, and how many rows are expected of a mask of its
-- entries under a mask of its terms, and of the index of a term over an entry
pub record BlockCards : Type 0 where
  pub entries : ℕ
  pub reads : List ℕ
  pub estimate : ℕ → ℕ → ℕ
  pub index_estimate : ℕ → ℕ → ℕ

-- the numbers for which a block's cards are asked: a mask of its entries, and one of its terms, of which each reads entries in that mask
abbrev pub AreRead : ℕ → ℕ → List ℕ → Type 0
AreRead terms mask [] = Unit {0}
AreRead terms mask (read ∷ reads) = (terms % 2 ≡ 1 → is_inside read mask ≡ true) × AreRead (terms / 2) mask reads

pub record IsEstimated (cards : BlockCards) (mask terms : ℕ) : Type 0 where
  pub entries : mask < 2 ^ cards.entries
  pub terms_are : terms < 2 ^ length cards.reads
  pub read : AreRead terms mask cards.reads

-- one of its entries, and one of its terms that reads this entry alone, each counted from 1
pub record IsIndexed (cards : BlockCards) (entry term : ℕ) : Type 0 where
  pub some_entry : 1 ≤ entry
  pub most_entry : entry ≤ cards.entries
  pub some_term : 1 ≤ term
  pub reads : slice_get cards.reads (term - 1) ≡ Some (mask_of entry)

-- cards of a block that say the same wherever they are asked
pub record SayTheSame (cards other : BlockCards) : Type 0 where
  pub entries : cards.entries ≡ other.entries
  pub reads : cards.reads ≡ other.reads
  pub estimate : (mask terms : ℕ) → IsEstimated cards mask terms → cards.estimate mask terms ≡ other.estimate mask terms
  pub index_estimate : (entry term : ℕ) → IsIndexed cards entry term → cards.index_estimate entry term ≡ other.index_estimate entry term

-- the same of the cards of a query, block for block
abbrev pub AllSayTheSame : List BlockCards → List BlockCards → Type 0
AllSayTheSame [] [] = Unit {0}
AllSayTheSame (first ∷ rest) (other ∷ others) = SayTheSame first other × AllSayTheSame rest others
AllSayTheSame _ _ = ⊥
