-- Arithmetic on 128 bits is exact while no magnitude passes the greatest one.
use Rattle.std.specs.Prelude.{ℤ, nat_abs, neg_ℤ, ◌-ℤ◌, ◌*ℤ◌, int_div}
use Rattle.std.specs.Int.{w128}
use Rattle.std.proofs.Common.{pos, w64, ◌≡◌, ◌≢◌, ◌<◌, ◌≤◌, FitsSigned, to_z, of_z, refl, arith, rules}
use Rattle.std.proofs.Math.Nat.{div-le_self}
use Rattle.std.proofs.lemmas.Int.{ints, to_z-of_z, quot_is, fits_signed_from_abs}
use Rattle.rs_expr.specs.Widths.{most_width}
use Rattle.rs_expr.proofs.WidthFacts.{abs-quotient}

most-fits : (r : ℤ) → nat_abs r ≤ most_width → FitsSigned w128 r
most-fits r most = fits_signed_from_abs w128 r (omega arith)

negated-most : (r : ℤ) → nat_abs r ≤ most_width → nat_abs (pos 0 -ℤ r) ≤ most_width
negated-most r most = omega (arith, ints)

pub negated-fits : (r : ℤ) → nat_abs r ≤ most_width → FitsSigned w128 (pos 0 -ℤ to_z w128 (of_z w128 r))
negated-fits r most = rw (to_z-of_z w128 r (most-fits r most)) (most-fits (pos 0 -ℤ r) (negated-most r most))

pub negated-is : (r : ℤ) → nat_abs r ≤ most_width → to_z w128 (of_z w128 (pos 0 -ℤ to_z w128 (of_z w128 r))) ≡ neg_ℤ r
negated-is r most =
    rw (to_z-of_z w128 r (most-fits r most), to_z-of_z w128 (pos 0 -ℤ r) (most-fits (pos 0 -ℤ r) (negated-most r most))) (omega (arith, ints))

-- what `abs` requires
pub absolute-fits : (r : ℤ) → nat_abs r ≤ most_width → FitsSigned w128 (neg_ℤ (to_z w128 (of_z w128 r)))
absolute-fits r most = rw (to_z-of_z w128 r (most-fits r most)) (most-fits (neg_ℤ r) (omega (arith, ints)))

pub product-fits : (r s : ℤ) → FitsSigned w128 r → FitsSigned w128 s → nat_abs (r *ℤ s) ≤ most_width
    → FitsSigned w128 (to_z w128 (of_z w128 r) *ℤ to_z w128 (of_z w128 s))
product-fits r s fits_r fits_s most = rw (to_z-of_z w128 r fits_r, to_z-of_z w128 s fits_s) (most-fits (r *ℤ s) most)

pub product-is : (r s : ℤ) → FitsSigned w128 r → FitsSigned w128 s → nat_abs (r *ℤ s) ≤ most_width
    → to_z w128 (of_z w128 (to_z w128 (of_z w128 r) *ℤ to_z w128 (of_z w128 s))) ≡ r *ℤ s
product-is r s fits_r fits_s most = rw (to_z-of_z w128 r fits_r, to_z-of_z w128 s fits_s, to_z-of_z w128 (r *ℤ s) (most-fits (r *ℤ s) most)) refl

-- a divisor of 64 bits is cast to 128
pub divisor-positive : (d : ℤ) → FitsSigned w64 d → nat_abs d ≢ 0 → 0 < of_z w128 (to_z w64 (of_z w64 d))
divisor-positive d fits nonzero = rw to_z-of_z (omega (arith, ints))

wider : (d : ℤ) → FitsSigned w64 d → FitsSigned w128 d
wider d fits = search rules

quotient-most : (r d : ℤ) → nat_abs r ≤ most_width → nat_abs (int_div r d) ≤ most_width
quotient-most r d most = rw abs-quotient (omega (arith, div-le_self (nat_abs r) (nat_abs d)))

pub quotient-fits : (r d : ℤ) → nat_abs r ≤ most_width → FitsSigned w64 d
    → FitsSigned w128 (int_div (to_z w128 (of_z w128 r)) (to_z w128 (of_z w128 (to_z w64 (of_z w64 d)))))
quotient-fits r d most fits =
    rw (to_z-of_z w128 r (most-fits r most), to_z-of_z w64 d fits, to_z-of_z w128 d (wider d fits)) (most-fits (int_div r d) (quotient-most r d most))

pub quotient-is : (r d : ℤ) → nat_abs r ≤ most_width → FitsSigned w64 d
    → to_z w128 (of_z w128 (int_div (to_z w128 (of_z w128 r)) (to_z w128 (of_z w128 (to_z w64 (of_z w64 d)))))) ≡ int_div r d
quotient-is r d most fits =
    rw (to_z-of_z w64 d fits) (quot_is w128 r d (most-fits r most) (wider d fits) (most-fits (int_div r d) (quotient-most r d most)))
