-- How a certificate is read: record by record, each of which adds to what was read.
use Rattle.std.specs.Prelude.{ℕ, ◌≡◌, ◌⊎◌, ◌+◌, ◌==◌, ◌&&◌, not, nat_lt, Bool, true, false, List, [], ◌∷◌, ◌++◌, length, Option, Some, None, option_map, Result, Ok, Err, if◌then◌else◌}
use Rattle.rs_value.specs.Results.{◌>>=◌}
use Rattle.rs_cert.specs.declared.cert.Cert.{Cert}
use Rattle.rs_cert.specs.declared.cert.CertSide.{CertSide}
use Rattle.rs_cert.specs.declared.entry.Entry.{Entry}
use Rattle.rs_cert.specs.declared.entry.Entry.TheVariants.{OfLeft, OfRight, OfPair}
use Rattle.rs_cert.specs.declared.entry.SideEntry.{SideEntry}
use Rattle.rs_cert.specs.declared.entry.SideEntry.TheVariants.{Row, End}
use Rattle.rs_cert.specs.declared.fault.CertFault.{CertFault}
use Rattle.rs_cert.specs.declared.fault.CertFault.TheVariants.{Form, Memory}
use Rattle.rs_lines.specs.Records.{Fields}
use Rattle.rs_cert.specs.Records.{entry_of, most_rows, wanted_of}

-- nothing was read of a side, or of a certificate behind its first record
abbrev pub new_side : CertSide
new_side = record { rows = []; ended = false }

abbrev pub new_cert : ℕ → Cert
new_cert wanted = record { k = wanted; left = new_side; right = new_side; pairs = [] }

-- a side with one entry more, if it may stand there
abbrev pub next_side : CertSide → SideEntry → Option CertSide
next_side side (Row row) =
    if not side.ended && nat_lt (length side.rows) most_rows then Some (record side { rows = side.rows ++ row ∷ [] }) else None
next_side side End = if not side.ended then Some (record side { ended = true }) else None

-- nothing was read of it
abbrev pub is_untouched : CertSide → Bool
is_untouched side = not side.ended && (length side.rows == 0)

abbrev pub has_no_pairs : Cert → Bool
has_no_pairs cert = length cert.pairs == 0

-- the same of a certificate
abbrev pub next_cert : Cert → Entry → Option Cert
next_cert cert (OfLeft entry) =
    if has_no_pairs cert && is_untouched cert.right then option_map (λ side. record cert { left = side }) (next_side cert.left entry) else None
next_cert cert (OfRight entry) =
    if has_no_pairs cert then option_map (λ side. record cert { right = side }) (next_side cert.right entry) else None
next_cert cert (OfPair left right) = Some (record cert { pairs = cert.pairs ++ (left, right) ∷ [] })

-- what a record says, or the fault that names it
abbrev pub or_form : {T : Type 0} → ℕ → Option T → Result T CertFault
or_form place None = Err (Form place)
or_form place (Some said) = Ok said

-- a certificate with one record more
abbrev pub with_record : ℕ → Cert → Fields → Result Cert CertFault
with_record place cert fields = or_form place (entry_of fields) >>= (λ entry. or_form place (next_cert cert entry))

-- with all of these, of which the first has this number
abbrev pub with_records : ℕ → Cert → List Fields → Result Cert CertFault
with_records place cert [] = Ok cert
with_records place cert (fields ∷ rest) = with_record place cert fields >>= (λ more. with_records (place + 1) more rest)

-- the certificate of these records, or the first record that refuses them
abbrev pub cert_of : List Fields → Result Cert CertFault
cert_of [] = Err (Form 1)
cert_of (first ∷ rest) = or_form 1 (wanted_of first) >>= (λ wanted. with_records 2 (new_cert wanted) rest)

-- a record was added, or refused; or there was no memory
abbrev pub Adds : Cert → ℕ → Fields → Result (Unit {0}) CertFault → Cert → Type 0
Adds old place fields (Ok done) new = with_record place old fields ≡ Ok new
Adds old place fields (Err fault) new = (fault ≡ Memory) ⊎ (with_record place old fields ≡ Err fault)
