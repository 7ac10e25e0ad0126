-- What a check of a certificate answers: that it is good, or the first part that fails.
use Rattle.std.specs.Prelude.{ℕ}
use Rattle.rs_cert.specs.declared.cert.Cert.{Cert}
use Rattle.rs_cert.specs.declared.verdict.Verdict.{Verdict}
use Rattle.rs_cert.specs.declared.verdict.Verdict.TheVariants.{Yes, Order, Pairs, Short, Left, Right}
use Rattle.rs_cert.specs.Good.{FallsOnBothSides, HasEnough, HasFirstPairs, IsGood, LeftIsReached, RightIsReached}
use Rattle.rs_cert.specs.Rows.{Falls, RisesFirstAt}

-- side 1, the left one, comes first
pub data RisesOn (cert : Cert) : ℕ → ℕ → Type 0 where
  on_left : (row : ℕ) → RisesFirstAt cert.left.rows row → RisesOn cert 1 row
  on_right : (row : ℕ) → Falls cert.left.rows → RisesFirstAt cert.right.rows row → RisesOn cert 2 row

-- the certificate is good, or this is the first part that fails: falling scores, the pairs, their number, the left
-- side, the right side
abbrev pub IsVerdict : Cert → Verdict → Type 0
IsVerdict cert Yes = IsGood cert
IsVerdict cert (Order side row) = RisesOn cert side row
IsVerdict cert Pairs = FallsOnBothSides cert × ¬ HasFirstPairs cert
IsVerdict cert Short = FallsOnBothSides cert × HasFirstPairs cert × ¬ HasEnough cert
IsVerdict cert Left = FallsOnBothSides cert × HasFirstPairs cert × HasEnough cert × ¬ LeftIsReached cert
IsVerdict cert Right = FallsOnBothSides cert × HasFirstPairs cert × HasEnough cert × LeftIsReached cert × ¬ RightIsReached cert
