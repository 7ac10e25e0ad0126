-- The pairs of the row are put in behind the answers that are given.
use Rattle.rs_ripple.proofs.LawFacts.{left-can, left-found, left-stands}
use Rattle.rs_ripple.proofs.laws.left_row_is_drawn.Goals as goal

pub returns-clause-draw : goal.returns-clause-draw
returns-clause-draw c = λ j lefts rights made count ripple row s need next. left-can j lefts rights made count ripple s need row next

pub returns-clause-find : goal.returns-clause-find
returns-clause-find c = λ j lefts rights made count ripple row pairs s need next found. left-found j lefts rights made count ripple s need row pairs next found

pub returns-clause-stands : goal.returns-clause-stands
returns-clause-stands c = λ j lefts rights made count ripple row pairs s need next found. left-stands j lefts rights made count ripple s need row pairs next found
