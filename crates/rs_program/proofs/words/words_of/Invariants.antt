use Rattle.std.proofs.Common.{◌≡◌, map}
use Rattle.std.specs.String.{string_bytes}
use Rattle.rs_program.proofs.words.words_of.Given as goal

-- the words so far are those of the arguments that were taken
abbrev pub invariant-loop-word : goal.invariant-loop-word
invariant-loop-word l = l.words.items ≡ map string_bytes l.yielded
