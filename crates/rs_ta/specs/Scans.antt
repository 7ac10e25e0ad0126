-- What a threshold scan keeps, and where it stands after some asks.
use Rattle.std.specs.Prelude.{ℕ, ◌≡◌, ◌≤◌, ◌<◌, ◌+◌, Bool, true, false, List, [], ◌++◌, length, take, drop, Option, None, IfSome, slice_index, if◌then◌else◌}
use Rattle.std.specs.Ordering.{nat_cmp}
use Rattle.rs_order.specs.Last.{last_of}
use Rattle.rs_order.specs.Sorting.{sorted}
use Rattle.rs_rank.specs.declared.key.Key.{Key}
use Rattle.rs_rank.specs.declared.row.RankRow.{RankRow}
use Rattle.rs_rank.specs.declared.weights.Weights.{Weights}
use Rattle.rs_ta.specs.Depths.{ScanInput, Sight, answers, answers_among, depth, looked_up, lookups, rows_shown, sights, thresholds}
use Rattle.rs_ta.specs.Lists.{IsList, ListsState}

-- the weights, the FROM entry and its block; the numbers of the rows that were shown, in order; the rows held, in the order of their keys;
-- the last threshold; how many rounds it made and how many rows it gave; whether it answered that there are no more rows; and whether
-- memory ran out
pub record Scan : Type 0 where
  pub weights : Weights
  pub entry : ℕ
  pub block : ℕ
  pub seen : List ℕ
  pub held : List RankRow
  pub last : Option Key
  pub rounds : ℕ
  pub given : ℕ
  pub ended : Bool
  pub spent : Bool

-- no round is made
abbrev pub new_scan : Weights → ℕ → ℕ → Scan
new_scan weights entry block = record {
  weights = weights;
  entry = entry;
  block = block;
  seen = [];
  held = [];
  last = None;
  rounds = 0;
  given = 0;
  ended = false;
  spent = false;
}

-- a number of one of six entries
pub record IsEntry (entry : ℕ) : Type 0 where
  pub least : 1 ≤ entry
  pub most : entry ≤ 6

-- what a scan is over
abbrev pub input_of : Scan → ListsState → (ℕ → Bool) → ScanInput
input_of scan state holds =
    record { weights = scan.weights; entry = scan.entry; block = scan.block; lists = state.lists; holds = holds }

-- how often the scan was asked: once for each row that it gave, and once more if it answered that there are no more
abbrev pub asks_of : Scan → ℕ
asks_of scan = scan.given + (if scan.ended then 1 else 0)

-- what a scan keeps once these sights came in this many whole rounds, and it gave this many rows
abbrev pub scan_at : ScanInput → List Sight → ℕ → ℕ → Bool → Scan
scan_at i shown rounds given ended = record {
  weights = i.weights;
  entry = i.entry;
  block = i.block;
  seen = sorted nat_cmp (λ row. row) (rows_shown shown);
  held = drop given (answers_among i (rows_shown shown));
  last = last_of (take rounds (thresholds i));
  rounds = rounds;
  given = given;
  ended = ended;
  spent = false;
}

-- what a scan keeps after this many asks, of which as many gave a row
abbrev pub scan_after : ScanInput → ℕ → ℕ → Bool → Scan
scan_after i asks given ended = scan_at i (sights i.lists (depth i asks)) (depth i asks) given ended

-- each list has a weight
abbrev pub HaveWeights : ScanInput → Type 0
HaveWeights i = (place : ℕ) → place < length i.lists → 1 ≤ slice_index i.weights.weight place

-- each list had this many sorted accesses
abbrev pub AreSorted : ScanInput → ListsState → ℕ → Type 0
AreSorted i state places = (list : ℕ) → IsList i.lists list → state.sorted_count list ≡ places

-- each row that was shown was looked up once in each list but the one that showed it first, and there was no other random access: so
-- say the count of each list, and the random accesses where they are told
pub record AreLookedUp (i : ScanInput) (state : ListsState) (shown : List Sight) : Type 0 where
  pub counts : (list : ℕ) → IsList i.lists list → state.random_count list ≡ lookups shown list
  pub told : IfSome state.told (λ told. told ≡ looked_up (length i.lists) shown)

-- the lists had exactly the accesses of this many asks
pub record AreAccessed (i : ScanInput) (asks : ℕ) (state : ListsState) : Type 0 where
  pub sorted : AreSorted i state (depth i asks)
  pub random : AreLookedUp i state (sights i.lists (depth i asks))

-- each list had so many sorted accesses at least, and so many at most
abbrev pub AreSortedWithin : ScanInput → ListsState → ℕ → ℕ → Type 0
AreSortedWithin i state least most =
    (list : ℕ) → IsList i.lists list → (least ≤ state.sorted_count list) × (state.sorted_count list ≤ most)

-- some come first among others
pub record Begins {A : Type 0} (some all : List A) : Type 0 where
  pub rest : List A
  pub is : all ≡ some ++ rest

-- the look-ups of the first sights were made, and of those that the second ones take the first, with nothing between them
pub record AreLookedUpWithin (i : ScanInput) (state : ListsState) (least most : List Sight) : Type 0 where
  pub counts : (list : ℕ) → IsList i.lists list
      → (lookups least list ≤ state.random_count list) × (state.random_count list ≤ lookups most list)
  pub told : IfSome state.told (λ told. Begins (looked_up (length i.lists) least) told × Begins told (looked_up (length i.lists) most))

-- the lists had the accesses that so many places take, and none beyond those that so many places take at most
pub record AreAccessedWithin (i : ScanInput) (least most : ℕ) (state : ListsState) : Type 0 where
  pub sorted : AreSortedWithin i state least most
  pub random : AreLookedUpWithin i state (sights i.lists least) (sights i.lists most)

-- the scan and the lists stand at the scan's number of asks
pub record Stands (i : ScanInput) (scan : Scan) (state : ListsState) : Type 0 where
  pub scan_is : scan ≡ scan_after i (asks_of scan) scan.given scan.ended
  pub accessed : AreAccessed i (asks_of scan) state
  pub within : scan.given ≤ length (answers i)
  pub ended : scan.ended ≡ true → scan.given ≡ length (answers i)
