use Rattle.std.proofs.Common.{length}
use Rattle.rs_enum.proofs.find.+terms_within.Given as goal

-- the terms that are left
abbrev pub decreases-terms_within : goal.decreases-terms_within
decreases-terms_within l = length l.terms.now
