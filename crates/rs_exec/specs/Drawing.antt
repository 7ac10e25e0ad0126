-- How a scan finds its next row: it draws until a row satisfies the conjuncts that speak of its entry alone.
use Rattle.std.specs.Prelude.{ℕ, ◌≡◌, ◌≤◌, ◌+◌, ◌^◌, Bool, List, length, drop, Option, is_some, if◌then◌else◌}
use Rattle.rs_rank.specs.Masks.{mask_of}
use Rattle.rs_rank.specs.declared.row.RankRow.{RankRow}
use Rattle.rs_catalog.specs.Catalog.{CatalogDef}
use Rattle.rs_query.specs.Combinations.{satisfies}
use Rattle.rs_query.specs.Meaning.{conjuncts_within}
use Rattle.rs_query.specs.Questions.{first_of, through_first}
use Rattle.rs_query.specs.Tables.{size_of}
use Rattle.rs_query.specs.WellFormed.{IsQuery}
use Rattle.rs_query.specs.declared.block.Block.{Block}
use Rattle.rs_query.specs.declared.query.Query.{Query}
use Rattle.rs_query.specs.Blocks.{block_in}
use Rattle.rs_plan.specs.Plans.{IsEntryNumber}
use Rattle.rs_exec.specs.declared.tally.Tally.{Tally}

-- a row satisfies the conjuncts that speak of its entries alone
abbrev pub passes : CatalogDef → Query → RankRow → Bool
passes catalogue query row = satisfies catalogue (block_in query row.ids.block) row.ids.mask row.ids.rows

-- of some rows, of which this many were drawn: the next one that passes, and how many are drawn then
abbrev pub next_drawn : (RankRow → Bool) → List RankRow → ℕ → Option RankRow
next_drawn is rows drawn = first_of is (drop drawn rows)

abbrev pub drawn_then : (RankRow → Bool) → List RankRow → ℕ → ℕ
drawn_then is rows drawn = drawn + length (through_first is (drop drawn rows))

-- the tally after one ask more, which gave a row or didn't
abbrev pub tally_with : Option RankRow → Tally → Tally
tally_with row tally = record { asked = tally.asked + 1; gave = if is_some row then tally.gave + 1 else tally.gave }

-- a tally that can't pass its type
pub record IsSmall (tally : Tally) : Type 0 where
  pub asked : tally.asked ≤ 2 ^ 103
  pub gave : tally.gave ≤ 2 ^ 103

-- the mask of the conjuncts that speak of an entry of a block alone
abbrev pub entry_conjuncts : Block → ℕ → ℕ
entry_conjuncts block entry = conjuncts_within (mask_of entry) block.conjuncts

-- a scan of an entry of a block that looks at the conjuncts of this mask, and whose view is all rows of the entry's table
pub record ScansEntry (catalogue : CatalogDef) (query : Query) (block entry rows conjuncts : ℕ) : Type 0 where
  pub formed : IsQuery catalogue query
  pub is_entry : IsEntryNumber (block_in query block) entry
  pub all : rows ≡ size_of catalogue (block_in query block) entry
  pub within : conjuncts ≡ entry_conjuncts (block_in query block) entry
