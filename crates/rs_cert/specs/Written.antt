-- How a certificate is written.
use Rattle.std.specs.Prelude.{ℕ, ◌≡◌, ◌≤◌, Bool, true, List, [], ◌∷◌, ◌++◌, codes, map, if◌then◌else◌}
use Rattle.std.specs.List.{AllByRecursion, flat_map}
use Rattle.std.specs.Fmt.{decimal}
use Rattle.std.specs.Str.{is_utf8}
use Rattle.csv.specs.Writing.{default_writer, row_text}
use Rattle.rs_feed.specs.declared.feed_row.FeedRow.{FeedRow}
use Rattle.rs_cert.specs.declared.cert.Cert.{Cert}
use Rattle.rs_cert.specs.declared.cert.CertSide.{CertSide}
use Rattle.rs_lines.specs.Records.{Fields}
use Rattle.rs_cert.specs.Records.{greatest_number}

-- the first record
abbrev pub wanted_record : ℕ → Fields
wanted_record wanted = codes "cert" ∷ codes "1" ∷ decimal wanted ∷ []

-- those of a side with this name
abbrev pub row_record : List ℕ → FeedRow → Fields
row_record name row = name ∷ decimal row.score ∷ row.join ∷ []

abbrev pub end_record : List ℕ → Fields
end_record name = name ∷ codes "end" ∷ codes "end" ∷ []

abbrev pub end_records : List ℕ → Bool → List Fields
end_records name ended = if ended then end_record name ∷ [] else []

abbrev pub side_records : List ℕ → CertSide → List Fields
side_records name side = map (row_record name) side.rows ++ end_records name side.ended

abbrev pub pair_record : ℕ × ℕ → Fields
pair_record pair = codes "pair" ∷ decimal pair.0 ∷ decimal pair.1 ∷ []

-- all of a certificate
abbrev pub written_records : Cert → List Fields
written_records cert =
    wanted_record cert.k
    ∷ (side_records (codes "left") cert.left ++ (side_records (codes "right") cert.right ++ map pair_record cert.pairs))

-- records as `csv` writes them at its defaults, with line feeds
abbrev pub text_of : List Fields → List ℕ
text_of records = flat_map (row_text default_writer) records

-- the bytes of a certificate
abbrev pub written : Cert → List ℕ
written cert = text_of (written_records cert)

-- the rows and the pairs can be written so that they are read back
abbrev pub IsWritableRow : FeedRow → Type 0
IsWritableRow row = (row.score ≤ greatest_number) × (is_utf8 row.join ≡ true)

abbrev pub AreWritableRows : List FeedRow → Type 0
AreWritableRows rows = AllByRecursion IsWritableRow rows

abbrev pub IsWritablePair : ℕ × ℕ → Type 0
IsWritablePair pair = (pair.0 ≤ greatest_number) × (pair.1 ≤ greatest_number)

abbrev pub AreWritablePairs : List (ℕ × ℕ) → Type 0
AreWritablePairs pairs = AllByRecursion IsWritablePair pairs
