-- The rows that were shown so far, and what a list that shows a row and what a whole round do to them.
use Rattle.std.specs.Prelude.{ℕ, suc, ◌≡◌, ◌≤◌, ◌<◌, ◌-◌, ⊤, Bool, true, false, not, List, [], ◌∷◌, ◌++◌, map, take, drop, Option, Some, None}
use Rattle.std.specs.List.{list_any}
use Rattle.std.specs.Ordering.{is_eq, is_gt, nat_cmp}
use Rattle.rs_order.specs.Climbing.{In, IsBeyond}
use Rattle.rs_order.specs.Last.{last_of}
use Rattle.rs_order.specs.Sorting.{sorted}
use Rattle.rs_rank.specs.declared.key.Key.{Key}
use Rattle.rs_rank.specs.declared.row.RankRow.{RankRow}
use Rattle.rs_rank.specs.declared.scored_row.ScoredRow.{ScoredRow}
use Rattle.rs_rank.specs.Keys.{key_cmp}
use Rattle.rs_rank.specs.Weights.{IsWeights}
use Rattle.rs_ta.specs.declared.terms.ScanTerms.{ScanTerms}
use Rattle.rs_ta.specs.Depths.{ScanInput, Sight, answers_among, depth, entry_at, row_key, row_of, rows_shown, sights, sights_from, threshold, thresholds}
use Rattle.rs_ta.specs.Lists.{AreRanked, IsList, IsRow, ListsState, list_at, rows_in}
use Rattle.rs_ta.specs.Scans.{AreAccessedWithin, AreLookedUp, AreSorted, HaveWeights, IsEntry}

-- the row of a key whose bound is its sum
abbrev pub row_of_key : Key → RankRow
row_of_key key = record { ids = key.ids; sum = key.bound }

abbrev pub rows_of_keys : List (Key × ⊤) → List RankRow
rows_of_keys pairs = map (λ pair. row_of_key pair.0) pairs

-- the numbers of the rows that were shown, in order; the rows held, in the order of their keys; how many rounds were made, and how
-- many rows were given
pub record SeenState : Type 0 where
  pub seen : List ℕ
  pub held : List RankRow
  pub rounds : ℕ
  pub given : ℕ

-- a row is one of some
abbrev pub has_row : ℕ → List ℕ → Bool
has_row row rows = list_any (λ other. is_eq (nat_cmp row other)) rows

-- a first key comes at or before a threshold
abbrev pub reaches : Option Key → Option Key → Bool
reaches None first = false
reaches (Some last) None = false
reaches (Some last) (Some key) = not (is_gt (key_cmp key last))

-- the first row held does
abbrev pub is_reached : Option Key → List RankRow → Bool
is_reached last [] = reaches last None
is_reached last (row ∷ rest) = reaches last (Some (row_key row))

-- what a scan of these terms is over
abbrev pub input_with : ScanTerms → ListsState → (ℕ → Bool) → ScanInput
input_with terms state holds =
    record { weights = terms.weights; entry = terms.entry; block = terms.block; lists = state.lists; holds = holds }

-- what a scan can be over, with a test of this many rows
pub record IsInput (i : ScanInput) (rows : ℕ) : Type 0 where
  pub ranked : AreRanked i.lists
  pub weights : IsWeights i.weights
  pub entry : IsEntry i.entry
  pub have : HaveWeights i
  pub same_rows : rows ≡ rows_in i.lists

-- what is shown in this many rounds, and by this many lists in the next one
abbrev pub shown_by : List (List ScoredRow) → ℕ → ℕ → List Sight
shown_by lists rounds count = sights lists rounds ++ take count (sights_from rounds 1 lists)

-- each row that wasn't shown comes behind all that were given
abbrev pub AreBeyond : ScanInput → List Sight → ℕ → Type 0
AreBeyond i shown given = (row : ℕ) → IsRow (rows_in i.lists) row → (In row (rows_shown shown) → ⊥) → i.holds row ≡ true →
    IsBeyond key_cmp row_key given (answers_among i (rows_shown shown)) (row_of i row)

-- the rows that were shown, and those of them that weren't given and for which the test holds
pub record AreSeen (i : ScanInput) (shown : List Sight) (rows : SeenState) : Type 0 where
  pub seen : rows.seen ≡ sorted nat_cmp (λ row. row) (rows_shown shown)
  pub held : rows.held ≡ drop rows.given (answers_among i (rows_shown shown))
  pub beyond : AreBeyond i shown rows.given

-- a list shows a row at the place of the round
pub record CanSee (i : ScanInput) (rows list row score : ℕ) (old : SeenState) (state : ListsState) : Type 0 where
  pub input : IsInput i rows
  pub is_list : IsList i.lists list
  pub place : old.rounds < rows_in i.lists
  pub shows : entry_at old.rounds (list_at i.lists list) ≡ record { score = score; row = row }
  pub seen : AreSeen i (shown_by i.lists old.rounds (list - 1)) old
  pub looked : AreLookedUp i state (shown_by i.lists old.rounds (list - 1))

-- and then it is shown too
pub record Saw (i : ScanInput) (list : ℕ) (old new : SeenState) (state : ListsState) : Type 0 where
  pub seen : AreSeen i (shown_by i.lists old.rounds list) new
  pub looked : AreLookedUp i state (shown_by i.lists old.rounds list)
  pub rounds_are : new.rounds ≡ old.rounds
  pub given_are : new.given ≡ old.given

-- the rows and the lists stand behind whole rounds
pub record AreBetween (i : ScanInput) (rows : SeenState) (state : ListsState) : Type 0 where
  pub seen : AreSeen i (sights i.lists rows.rounds) rows
  pub sorted_are : AreSorted i state rows.rounds
  pub looked : AreLookedUp i state (sights i.lists rows.rounds)
  pub within : rows.rounds ≤ rows_in i.lists

-- a round goes one place further and tells its threshold; at the end of the lists it does nothing
pub record WentOn (i : ScanInput) (old new : SeenState) (state : ListsState) (key : Key) : Type 0 where
  pub inside : old.rounds < rows_in i.lists
  pub threshold_is : key ≡ threshold i old.rounds
  pub rounds_are : new.rounds ≡ suc old.rounds
  pub given_are : new.given ≡ old.given
  pub between : AreBetween i new state

pub record IsAtEnd (i : ScanInput) (old new : SeenState) (state : ListsState) : Type 0 where
  pub all : old.rounds ≡ rows_in i.lists
  pub rounds_are : new.rounds ≡ old.rounds
  pub given_are : new.given ≡ old.given
  pub between : AreBetween i new state

abbrev pub Rounded : ScanInput → SeenState → SeenState → ListsState → Option Key → Type 0
Rounded i old new state None = IsAtEnd i old new state
Rounded i old new state (Some key) = WentOn i old new state key

-- a round inside the lists was made in part
pub record WasRefused (i : ScanInput) (rounds : ℕ) (state : ListsState) : Type 0 where
  pub inside : rounds < rows_in i.lists
  pub within : AreAccessedWithin i rounds (suc rounds) state

-- the rows and the lists stand at some depth for the next answer, and no deeper; the last threshold is known
pub record CanAdvance (i : ScanInput) (rows : SeenState) (last : Option Key) (state : ListsState) : Type 0 where
  pub between : AreBetween i rows state
  pub last_is : last ≡ last_of (take rows.rounds (thresholds i))
  pub least : depth i rows.given ≤ rows.rounds
  pub most : rows.rounds ≤ depth i (suc rows.given)

-- and then at exactly that depth, with the next answer first
pub record Advanced (i : ScanInput) (old new : SeenState) (last : Option Key) (state : ListsState) : Type 0 where
  pub between : AreBetween i new state
  pub last_is : last ≡ last_of (take new.rounds (thresholds i))
  pub given_are : new.given ≡ old.given
  pub exact : new.rounds ≡ depth i (suc new.given)
