use Rattle.rs_sample.specs.Cards.{AreRead}
use Rattle.cases_plans.proofs.ReadFacts.{ReadFrom, reads_of}
use Rattle.cases_plans.proofs.cards.are_read.Given as goal

-- the first terms read entries in the mask alone
abbrev pub invariant-loop-place : goal.invariant-loop-place
invariant-loop-place l = ReadFrom l.terms l.mask l.block.terms l.place → AreRead l.terms l.mask (reads_of l.block.terms)
