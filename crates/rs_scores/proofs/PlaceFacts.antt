-- A byte order mark at the front, and the places behind bytes.
use Rattle.std.proofs.Common.{◌≡◌, ℕ, true, false, List, [], ◌∷◌, ◌++◌, ap, drop, refl}
use Rattle.csv.specs.Reading.{strip_bom}
use Rattle.rs_scores.specs.Names.{is_marked}
use Rattle.rs_scores.specs.Places.{place_after, place_behind}
use Rattle.rs_scores.specs.declared.place.Place.{Place}

pub strip_bom-marked : (bytes : List ℕ) → is_marked bytes ≡ true → strip_bom bytes ≡ drop 3 bytes
unfolding strip_bom
strip_bom-marked [] e = cc
strip_bom-marked (a ∷ []) e = cc
strip_bom-marked (a ∷ b ∷ []) e = cc
strip_bom-marked (a ∷ b ∷ c ∷ rest) e = rw e refl

pub strip_bom-unmarked : (bytes : List ℕ) → is_marked bytes ≡ false → strip_bom bytes ≡ bytes
unfolding strip_bom
strip_bom-unmarked [] e = refl
strip_bom-unmarked (a ∷ []) e = refl
strip_bom-unmarked (a ∷ b ∷ []) e = refl
strip_bom-unmarked (a ∷ b ∷ c ∷ rest) e = rw e refl

-- a mark that is put in front is taken away
pub strip_bom-behind : (bytes marked : List ℕ) → marked ≡ 239 ∷ 187 ∷ 191 ∷ bytes → strip_bom marked ≡ bytes
unfolding strip_bom
strip_bom-behind bytes marked e = ap strip_bom e

-- the place behind more bytes
pub place_behind-append : (place : Place) (bytes more : List ℕ) → place_behind place (bytes ++ more) ≡ place_behind (place_behind place bytes) more
place_behind-append place [] more = refl
place_behind-append place (byte ∷ rest) more = place_behind-append (place_after place byte) rest more
