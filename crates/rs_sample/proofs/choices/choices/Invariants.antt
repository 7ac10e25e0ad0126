use Rattle.std.proofs.Common.{◌≡◌, ◌-◌}
use Rattle.rs_sample.proofs.ChoiceFacts.{choices_from}
use Rattle.rs_sample.proofs.choices.choices.Given as goal

-- the choices of the last entries, with 0 in front
abbrev pub invariant-loop-behind : goal.invariant-loop-behind
invariant-loop-behind l = l.choices.items ≡ choices_from l.mask l.samples (6 - l.behind)
