-- Which terms speak of some entries alone, as a mask.
use Rattle.std.specs.Prelude.{ℕ, ◌+◌, ◌*◌, List, [], ◌∷◌, if◌then◌else◌}
use Rattle.rs_query.specs.Meaning.{is_inside}
use Rattle.rs_query.specs.declared.term.Term.{Term}

-- the mask of the terms whose entries are all in a mask of entries; the first term has the lowest bit
abbrev pub terms_within : ℕ → List Term → ℕ
terms_within entries [] = 0
terms_within entries (term ∷ rest) = (if is_inside term.entries entries then 1 else 0) + 2 * terms_within entries rest
