use Rattle.std.proofs.Common.{◌≡◌, ℕ, List, take}
use Rattle.rs_cert.specs.ByText.{numbers_in, numbers_with}
use Rattle.rs_cert.proofs.by_text.RowsByText.of.Given as goal

abbrev pub invariant-loop-index : goal.invariant-loop-index
invariant-loop-index l = (text : List ℕ) → numbers_in l.numbers text ≡ numbers_with text 1 (take l.index l.rows)
