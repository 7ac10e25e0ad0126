-- The records of a certificate.
use Rattle.std.specs.Prelude.{ℕ, ℤ, pos, negsuc, ◌≡◌, ◌≢◌, ◌≤◌, ◌<◌, ◌&&◌, nat_le, Bool, List, [], ◌∷◌, ◌++◌, codes, length, map, take, Option, Some, None, option_map, Result, Ok, Err, if◌then◌else◌}
use Rattle.std.specs.Str.{bytes_eq, is_utf8}
use Rattle.rs_value.specs.Number.{int_value}
use Rattle.rs_cert.specs.declared.cert.Cert.{Cert}
use Rattle.rs_cert.specs.declared.cert.CertSide.{CertSide}
use Rattle.rs_cert.specs.declared.entry.Entry.{Entry}
use Rattle.rs_cert.specs.declared.entry.Entry.TheVariants.{OfLeft, OfRight, OfPair}
use Rattle.rs_cert.specs.declared.entry.SideEntry.{SideEntry}
use Rattle.rs_cert.specs.declared.entry.SideEntry.TheVariants.{Row, End}
use Rattle.rs_cert.specs.declared.fault.CertFault.{CertFault}
use Rattle.rs_cert.specs.declared.fault.CertFault.TheVariants.{Form, Memory}
use Rattle.rs_lines.specs.Records.{Fields}

-- a record has fewer fields than three, or more
abbrev pub AreNotThree : Fields → Type 0
AreNotThree fields = (first second third : List ℕ) → fields ≢ first ∷ second ∷ third ∷ []

-- the number of a field, where it is not negative and at most this great
abbrev pub at_most : ℕ → Option ℤ → Option ℕ
at_most most None = None
at_most most (Some (pos n)) = if nat_le n most then Some n else None
at_most most (Some (negsuc n)) = None

abbrev pub number_up_to : ℕ → List ℕ → Option ℕ
number_up_to most field = at_most most (int_value field)

-- the greatest number of pairs that can be wanted, the most rows of a side, and the greatest of all other numbers
abbrev pub most_wanted : ℕ
most_wanted = 1000000

abbrev pub most_rows : ℕ
most_rows = 8192

abbrev pub greatest_number : ℕ
greatest_number = 4294967295

-- how many pairs are wanted, which the first record says
abbrev pub wanted_of : Fields → Option ℕ
wanted_of [] = None
wanted_of (name ∷ []) = None
wanted_of (name ∷ form ∷ []) = None
wanted_of (name ∷ form ∷ wanted ∷ []) = if bytes_eq name (codes "cert") && bytes_eq form (codes "1") then number_up_to most_wanted wanted else None
wanted_of (name ∷ form ∷ wanted ∷ more ∷ rest) = None

-- what two fields say of a side: that it ended, or a row, by its score and its text
abbrev pub row_with : List ℕ → Option ℕ → Option SideEntry
row_with join None = None
row_with join (Some score) = if is_utf8 join then Some (Row (record { join = join; score = score })) else None

abbrev pub says_end : List ℕ → List ℕ → Bool
says_end first second = bytes_eq first (codes "end") && bytes_eq second (codes "end")

abbrev pub side_entry_of : List ℕ → List ℕ → Option SideEntry
side_entry_of first second = if says_end first second then Some End else row_with second (number_up_to greatest_number first)

-- the numbers of both rows of a pair
abbrev pub pair_with : Option ℕ → Option ℕ → Option Entry
pair_with None right = None
pair_with (Some left) None = None
pair_with (Some left) (Some right) = Some (OfPair left right)

-- what a record behind the first one says
abbrev pub named_entry : List ℕ → List ℕ → List ℕ → Option Entry
named_entry name first second =
    if bytes_eq name (codes "left") then option_map (λ entry. OfLeft entry) (side_entry_of first second)
    else if bytes_eq name (codes "right") then option_map (λ entry. OfRight entry) (side_entry_of first second)
    else if bytes_eq name (codes "pair") then pair_with (number_up_to greatest_number first) (number_up_to greatest_number second)
    else None

-- the same of all fields of a record: a row or the end of a side, or a pair
abbrev pub entry_of : Fields → Option Entry
entry_of [] = None
entry_of (name ∷ []) = None
entry_of (name ∷ first ∷ []) = None
entry_of (name ∷ first ∷ second ∷ []) = named_entry name first second
entry_of (name ∷ first ∷ second ∷ more ∷ rest) = None

-- what the records of a side say: its rows in order, and that it ended, if it did
abbrev pub side_entries : CertSide → List SideEntry
side_entries side = map (λ row. Row row) side.rows ++ (if side.ended then End ∷ [] else [])

-- what the records of a certificate behind the first one say: the left side, the right side, and then the pairs
abbrev pub entries_of : Cert → List Entry
entries_of cert =
    map (λ entry. OfLeft entry) (side_entries cert.left)
    ++ (map (λ entry. OfRight entry) (side_entries cert.right) ++ map (λ pair. OfPair pair.0 pair.1) cert.pairs)

-- no side has more rows than a certificate takes
pub record HasFewRows (cert : Cert) : Type 0 where
  pub left : length cert.left.rows ≤ most_rows
  pub right : length cert.right.rows ≤ most_rows

-- these are the records of a certificate
pub record AreRecordsOf (cert : Cert) (records : List Fields) : Type 0 where
  pub first : Fields
  pub rest : List Fields
  pub are : records ≡ first ∷ rest
  pub wanted : wanted_of first ≡ Some cert.k
  pub entries : map entry_of rest ≡ map (λ entry. Some entry) (entries_of cert)
  pub few : HasFewRows cert

-- the records of some certificate begin with these
pub record Begin (records : List Fields) : Type 0 where
  pub cert : Cert
  pub more : List Fields
  pub are : AreRecordsOf cert (records ++ more)

-- the record of this number, from 1, is the first one with which the records of no certificate begin
pub record IsFirstStrange (records : List Fields) (place : ℕ) : Type 0 where
  pub there : place ≤ length records
  pub before : (n : ℕ) → n < place → Begin (take n records)
  pub here : ¬ Begin (take place records)

-- of a file without records 1 is told
abbrev pub IsForm : List Fields → ℕ → Type 0
IsForm [] place = place ≡ 1
IsForm (first ∷ rest) place = IsFirstStrange (first ∷ rest) place

-- what a file with these records is
abbrev pub IsRead : List Fields → Result Cert CertFault → Type 0
IsRead records (Ok cert) = AreRecordsOf cert records
IsRead records (Err (Form place)) = IsForm records place
IsRead records (Err Memory) = Unit {0}
