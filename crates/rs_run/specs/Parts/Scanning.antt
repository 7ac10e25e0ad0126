-- A threshold scan over the rank indexes of a block, while its rows are put.
use Rattle.std.specs.Prelude.{ℕ, suc, ◌≡◌, ◌≤◌, ◌-◌, ◌^◌, false, List, [], ◌∷◌, ◌++◌, length, map, min, take, Option, Some, None, option_map, codes}
use Rattle.std.specs.Fmt.{decimal}
use Rattle.rs_value.specs.Outside.{Outside}
use Rattle.rs_rank.specs.declared.answer.Answer.{Answer}
use Rattle.rs_rank.specs.declared.row.RankRow.{RankRow}
use Rattle.rs_syntax.specs.Syntax.{Command, CreatePredicate, CreateRankIndex, CreateTable, Insert}
use Rattle.rs_catalog.specs.Catalog.{CatalogDef}
use Rattle.rs_query.specs.Answers.{cut}
use Rattle.rs_query.specs.Tables.{size_of}
use Rattle.rs_query.specs.declared.block.Block.{Block}
use Rattle.rs_ta.specs.BlockTests.{BlockTestState, holds_on}
use Rattle.rs_ta.specs.Depths.{ScanInput, answers, depth, ids_at}
use Rattle.rs_ta.specs.Eligible.{answer_for}
use Rattle.rs_ta.specs.IndexLists.{IndexListsState, index_lists_state}
use Rattle.rs_ta.specs.Lists.{IsRow, ListsState, rows_in}
use Rattle.rs_ta.specs.Scans.{AreAccessed, AreAccessedWithin, HaveWeights, Scan, Stands, asks_of, input_of}

-- a statement that makes a table, a predicate, an index or rows
abbrev pub Makes : Command → Type 0
Makes (CreateTable name columns file) = Unit {0}
Makes (CreatePredicate name params max cost formula) = Unit {0}
Makes (CreateRankIndex name table predicate args at) = Unit {0}
Makes (Insert table rows) = Unit {0}
Makes _ = ⊥

-- what the scan of a block is over, whose conditions are this test
abbrev pub scan_input : BlockTestState → Scan → IndexListsState → ScanInput
scan_input test scan lists = input_of scan (index_lists_state lists) (holds_on test.catalogue test.block)

-- the scan of a block stands where its asks so far left it
pub record IsScanning (test : BlockTestState) (scan : Scan) (lists : IndexListsState) : Type 0 where
  pub entry_is : scan.entry ≡ 1
  pub block_is : scan.block ≡ 1
  pub stands : Stands (scan_input test scan lists) scan (index_lists_state lists)
  pub have : HaveWeights (scan_input test scan lists)
  pub same_rows : size_of test.catalogue test.block 1 ≡ rows_in (index_lists_state lists).lists

-- it wasn't asked yet
pub record IsUnasked (scan : Scan) : Type 0 where
  pub given : scan.given ≡ 0
  pub open_is : scan.ended ≡ false

-- the rows of the scan, as rows of the answer, as many as LIMIT says at most
abbrev pub scanned_rows : BlockTestState → Option ℕ → ScanInput → List Answer
scanned_rows test limit i = cut limit (map (answer_for test.catalogue test.block) (answers i))

-- the scan over this input and its lists stand behind this many asks
pub record IsAsked (i : ScanInput) (asks : ℕ) (scan : Scan) (lists : IndexListsState) : Type 0 where
  pub stands : Stands i scan (index_lists_state lists)
  pub lists_are : i.lists ≡ (index_lists_state lists).lists
  pub asks_are : asks_of scan ≡ asks

-- the part of a line that a put which broke off had put, as a piece
abbrev pub part_pieces : Option (List ℕ) → List (List ℕ)
part_pieces None = []
part_pieces (Some part) = part ∷ []

-- what the lists had of a scan that is asked so often in all, once so many lines were put: where the put of the next line broke off, the
-- accesses of the asks up to that line; and where there was no memory, those of the asks up to the last line at least, and of those up to
-- the next one at most. A line of a row takes an ask, and that of the accesses all of them
abbrev pub AreAccessedFor : ScanInput → ℕ → ℕ → Option (List ℕ) → ListsState → Type 0
AreAccessedFor i asks lines None state = AreAccessedWithin i (depth i (min lines asks)) (depth i (min (suc lines) asks)) state
AreAccessedFor i asks lines (Some part) state = AreAccessed i (min (suc lines) asks) state

-- the lines of a scan that is asked so often in all were put up to a fault: so many whole ones, and a part of the next one where its put broke
-- off; and the lists had the accesses that this takes
pub record IsBrokenOff (i : ScanInput) (asks : ℕ) (lines : List (List ℕ)) (old new : Outside (List (List ℕ))) (state : ListsState) : Type 0 where
  pub count : ℕ
  pub within : count ≤ length lines
  pub part : Option (List ℕ)
  pub put : new.told ≡ option_map (λ pieces. pieces ++ (take count lines ++ part_pieces part)) old.told
  pub accessed : AreAccessedFor i asks count part state

-- the most asks of a scan: as many as LIMIT says, or as many as can be counted
abbrev pub most_asks : Option ℕ → ℕ
most_asks None = 2 ^ 64 - 1
most_asks (Some limit) = limit

-- a row of the only FROM entry of a block
pub record IsBlockRow (catalogue : CatalogDef) (block : Block) (row : RankRow) : Type 0 where
  pub number : ℕ
  pub is_row : IsRow (size_of catalogue block 1) number
  pub ids_are : row.ids ≡ ids_at 1 1 number

-- the line of accesses
abbrev pub accesses_text : ℕ → ℕ → ℕ → List ℕ
accesses_text depth sorted random = codes "depth=" ++ decimal depth ++ codes " sorted=" ++ decimal sorted ++ codes " random=" ++ decimal random ++ 10 ∷ []
