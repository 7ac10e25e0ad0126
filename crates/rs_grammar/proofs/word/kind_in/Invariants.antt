use Rattle.std.proofs.Common.{◌≡◌, length, map}
use Rattle.rs_grammar.specs.Lexemes.{kind_in}
use Rattle.rs_grammar.proofs.word.kind_in.Given as goal

-- what is left of the table gives the kind that the whole gives
abbrev pub invariant-loop-table : goal.invariant-loop-table
invariant-loop-table l = kind_in (map (λ entry. (entry.0.now, entry.1)) l.table) l.word ≡ kind_in (map (λ entry. (entry.0.now, entry.1)) l.initial.table) l.word

abbrev pub decreases-loop-table : goal.decreases-loop-table
decreases-loop-table l = length l.table
