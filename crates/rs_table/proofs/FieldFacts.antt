-- A field of a record, by its place.
use Rattle.std.proofs.Common.{ℕ, ◌≡◌, ◌<◌, List, [], length, get_or, sym, rules}
use Rattle.std.specs.Prelude.{Option, Some, None, IsSome, option_map}
use Rattle.std.specs.Borrow.{Bor}
use Rattle.csv.specs.Records.{field_at}
use Rattle.csv.proofs.RecordFacts.{field-get, field-there}

-- a field within the record is there
pub IsSome-field_at : (fields : List (List ℕ)) (i : ℕ) (r : Option (Bor (List ℕ))) → i < length fields → option_map (λ s. s.now) r ≡ field_at fields i → IsSome r
IsSome-field_at fields i None lt e = absurd (field-there fields i lt (sym e))
IsSome-field_at fields i (Some x) lt e = search rules

-- the field that is there is the one at the place
pub now-field_at : (fields : List (List ℕ)) (i : ℕ) (r : Option (Bor (List ℕ))) (x : Bor (List ℕ)) → r ≡ Some x → option_map (λ s. s.now) r ≡ field_at fields i → x.now ≡ get_or fields i []
now-field_at fields i r x is e =
    let found : Some x.now ≡ field_at fields i = rw is at e in
    sym (field-get fields i x.now (sym found))
