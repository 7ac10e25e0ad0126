-- The records of some certificates, computed.
use Rattle.std.proofs.Common.{◌≡◌, ◌∷◌, [], List, ℕ, Bool, true, false, Some, None, Ok, Err, codes, refl}
use Rattle.csv.proofs.OnLiterals.{csv_on_literals}
use Rattle.rs_cert.specs.declared.cert.CertSide.{CertSide}
use Rattle.rs_cert.specs.declared.entry.Entry.TheVariants.{OfLeft, OfRight, OfPair}
use Rattle.rs_cert.specs.declared.entry.SideEntry.TheVariants.{Row, End}
use Rattle.rs_cert.specs.declared.fault.CertFault.TheVariants.{Form}
use Rattle.rs_lines.specs.Records.{records_of}
use Rattle.rs_cert.specs.Growing.{cert_of}
use Rattle.rs_cert.specs.Records.{entry_of, wanted_of}
use Rattle.rs_feed.specs.declared.feed_row.FeedRow.{FeedRow}
use Rattle.rs_value.proofs.OnLiterals.{values_on_literals}

-- the certificate of the first pair of two feeds
abbrev first_pair : List ℕ
first_pair = codes "cert,1,1\nleft,9,a\nleft,8,b\nright,9,b\nright,6,a\npair,2,1\n"

abbrev row_of : ℕ → List ℕ → FeedRow
row_of score join = record { join = join; score = score }

abbrev side_of : List FeedRow → Bool → CertSide
side_of rows ended = record { rows = rows; ended = ended }

pub first_pair_is_read : cert_of (records_of first_pair) ≡ Ok (record {
  k = 1;
  left = side_of (row_of 9 (codes "a") ∷ row_of 8 (codes "b") ∷ []) false;
  right = side_of (row_of 9 (codes "b") ∷ row_of 6 (codes "a") ∷ []) false;
  pairs = (2, 1) ∷ [];
})
unfolding csv_on_literals values_on_literals
first_pair_is_read = refl

-- sides that ended, one of them without a row
pub ends_are_read : cert_of (records_of (codes "cert,1,3\nleft,end,end\nright,5,end\nright,end,end\n")) ≡ Ok (record {
  k = 3;
  left = side_of [] true;
  right = side_of (row_of 5 (codes "end") ∷ []) true;
  pairs = [];
})
unfolding csv_on_literals values_on_literals
ends_are_read = refl

-- numbers may have a sign and zeros in front
pub signs_are_read : cert_of (records_of (codes "cert,1,+007\n")) ≡ Ok (record { k = 7; left = side_of [] false; right = side_of [] false; pairs = [] })
unfolding csv_on_literals values_on_literals
signs_are_read = refl

-- but the number of the form may not
pub other_form : cert_of (records_of (codes "cert,01,7\n")) ≡ Err (Form 1)
unfolding csv_on_literals values_on_literals
other_form = refl

pub no_head : cert_of (records_of (codes "left,9,a\n")) ≡ Err (Form 1)
unfolding csv_on_literals values_on_literals
no_head = refl

pub nothing : cert_of (records_of []) ≡ Err (Form 1)
unfolding csv_on_literals values_on_literals
nothing = refl

-- a side may not be gone back to, nor end twice
pub back_to_left : cert_of (records_of (codes "cert,1,1\nright,9,b\nleft,9,a\n")) ≡ Err (Form 3)
unfolding csv_on_literals values_on_literals
back_to_left = refl

pub second_end : cert_of (records_of (codes "cert,1,1\nleft,end,end\nleft,end,end\n")) ≡ Err (Form 3)
unfolding csv_on_literals values_on_literals
second_end = refl

pub row_behind_end : cert_of (records_of (codes "cert,1,1\nleft,end,end\nleft,3,a\n")) ≡ Err (Form 3)
unfolding csv_on_literals values_on_literals
row_behind_end = refl

pub row_behind_pair : cert_of (records_of (codes "cert,1,1\npair,1,1\nright,3,a\n")) ≡ Err (Form 3)
unfolding csv_on_literals values_on_literals
row_behind_pair = refl

-- what no record says
pub too_many_wanted : wanted_of (codes "cert" ∷ codes "1" ∷ codes "1000001" ∷ []) ≡ None
too_many_wanted = refl

pub most_wanted : wanted_of (codes "cert" ∷ codes "1" ∷ codes "1000000" ∷ []) ≡ Some 1000000
most_wanted = refl

pub negative_wanted : wanted_of (codes "cert" ∷ codes "1" ∷ codes "-1" ∷ []) ≡ None
negative_wanted = refl

pub great_score : entry_of (codes "left" ∷ codes "4294967296" ∷ codes "a" ∷ []) ≡ None
great_score = refl

pub greatest_score : entry_of (codes "right" ∷ codes "4294967295" ∷ [] ∷ []) ≡ Some (OfRight (Row (row_of 4294967295 [])))
unfolding values_on_literals
greatest_score = refl

pub half_end : entry_of (codes "left" ∷ codes "end" ∷ codes "a" ∷ []) ≡ None
half_end = refl

pub no_text : entry_of (codes "left" ∷ codes "1" ∷ (255 ∷ []) ∷ []) ≡ None
unfolding values_on_literals
no_text = refl

pub four_fields : entry_of (codes "pair" ∷ codes "1" ∷ codes "1" ∷ [] ∷ []) ≡ None
four_fields = refl

pub a_pair : entry_of (codes "pair" ∷ codes "0" ∷ codes "12" ∷ []) ≡ Some (OfPair 0 12)
a_pair = refl

pub an_end : entry_of (codes "left" ∷ codes "end" ∷ codes "end" ∷ []) ≡ Some (OfLeft End)
an_end = refl
