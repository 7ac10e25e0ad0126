-- The scan that the tests draw from.
use Rattle.std.specs.Prelude.{ℕ, Some}
use Rattle.rs_scan.specs.Scans.{IndexScan, new_index_scan}

-- of an index and three rows, for a term of weight 3 of the second entry of the first block; it drew the first row, of score 8
abbrev pub drawn_once : ℕ → IndexScan
drawn_once index = record (new_index_scan index 2 1 3 3) { drawn = 1; last = Some (8, 1) }
