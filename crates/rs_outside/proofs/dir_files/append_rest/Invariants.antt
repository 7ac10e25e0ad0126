use Rattle.std.proofs.Common.{◌≡◌, ◌+◌, ◌++◌, List, ℕ, length}
use Rattle.std.specs.Io.KnownBytes.{Consumes}
use Rattle.rs_outside.proofs.dir_files.append_rest.Given as goal

-- some bytes were read and appended, and as many fewer may come
abbrev pub invariant-loop-count : goal.invariant-loop-count
invariant-loop-count g l =
    (bytes : List ℕ) × (l.into.items ≡ l.initial.into.items ++ bytes) × (length bytes + l.room ≡ l.limit)
    × Consumes (g.F.Read.remaining l.initial.file.reader) (g.F.Read.remaining l.file.reader) bytes

abbrev pub decreases-loop-count : goal.decreases-loop-count
decreases-loop-count g l = l.room
