-- A row of the only FROM entry of a block, and whether all conditions hold on it.
use Rattle.std.proofs.Common.{◌≡◌, ◌∙◌, ℕ, ◌-◌, ◌^◌, length, sym, ap, subst, arith}
use Rattle.rs_catalog.specs.Catalog.{CatalogDef}
use Rattle.rs_query.specs.Combinations.{satisfies}
use Rattle.rs_query.specs.Meaning.{all_hold, conjuncts_within}
use Rattle.rs_query.specs.Tables.{HasRow, HasRows, size_of}
use Rattle.rs_query.specs.declared.block.Block.{Block}
use Rattle.rs_query.proofs.WithinFacts.{all_hold-within}
use Rattle.rs_ta.specs.BlockTests.{holds_on, rows_of_one}
use Rattle.rs_ta.specs.Lists.{IsRow}

module _ (catalogue : CatalogDef) (block : Block) (row : ℕ) (one : length block.from ≡ 1) where
  pub HasRows-one : IsRow (size_of catalogue block 1) row → HasRows catalogue block 1 (rows_of_one row)
  HasRows-one is_row entry some most has =
      let first : entry ≡ 1 = omega arith in
      subst (HasRow catalogue block (rows_of_one row)) (sym first) (is_row.some, is_row.within)

  pub holds_on-all : (conjuncts : ℕ) → conjuncts ≡ conjuncts_within 1 block.conjuncts → all_hold catalogue block conjuncts (rows_of_one row) block.conjuncts ≡ holds_on catalogue block row
  holds_on-all conjuncts is =
      ap (λ mask. all_hold catalogue block mask (rows_of_one row) block.conjuncts) is
      ∙ all_hold-within catalogue block 1 (rows_of_one row)
      ∙ ap (λ n. satisfies catalogue block (2 ^ n - 1) (rows_of_one row)) (sym one)
