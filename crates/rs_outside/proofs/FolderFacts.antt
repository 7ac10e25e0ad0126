-- Files by name, where the place of the first of that name is known.
use Rattle.std.proofs.Common.{ℕ, ◌≡◌, ◌<◌, zero, suc, Bool, true, false, List, [], ◌∷◌, ◌++◌, length, get_or, set, Some, None, refl, ap, arith, cond, ltb}
use Rattle.std.specs.List.{position, position_or_len}
use Rattle.std.specs.Str.{bytes_eq}
use Rattle.std.proofs.lemmas.Bool.{ltb-false}
use Rattle.std.proofs.lemmas.List.Quantifiers.{position-Some}
use Rattle.std.proofs.lemmas.List.Sums.{fails_before_first}
use Rattle.rs_outside.specs.Files.{File, Folder, file_named, with_file}

-- the file has this name
abbrev pub is_named : List ℕ → File → Bool
is_named name file = bytes_eq file.name name

-- a file of no name and no bytes
abbrev pub empty_file : File
empty_file = record { name = []; bytes = [] }

named_first : (name : List ℕ) (files : Folder) (i : ℕ) (d : File) → i < length files → is_named name (get_or files i d) ≡ true
    → ((k : ℕ) → k < i → is_named name (get_or files k d) ≡ false) → file_named name files ≡ Some (get_or files i d).bytes
named_first name [] i d within here before = absurd (omega (arith, within))
named_first name (file ∷ rest) zero d within here before = rw here refl
named_first name (file ∷ rest) (suc i) d within here before =
    let past : is_named name file ≡ false = before 0 (omega arith) in
    rw past (named_first name rest i d (omega (arith, within)) here (λ k h. before (suc k) (omega (arith, h))))

replaced_first : (name bytes : List ℕ) (files : Folder) (i : ℕ) (d : File) → i < length files → is_named name (get_or files i d) ≡ true
    → ((k : ℕ) → k < i → is_named name (get_or files k d) ≡ false)
    → with_file name bytes files ≡ set files i (record { name = (get_or files i d).name; bytes = bytes })
replaced_first name bytes [] i d within here before = absurd (omega (arith, within))
replaced_first name bytes (file ∷ rest) zero d within here before = rw here refl
replaced_first name bytes (file ∷ rest) (suc i) d within here before =
    let past : is_named name file ≡ false = before 0 (omega arith) in
    rw past (ap (λ files. file ∷ files) (replaced_first name bytes rest i d (omega (arith, within)) here (λ k h. before (suc k) (omega (arith, h)))))

named_nowhere : (name : List ℕ) (files : Folder) → ((k : ℕ) → k < length files → is_named name (get_or files k empty_file) ≡ false)
    → file_named name files ≡ None
named_nowhere name [] none = refl
named_nowhere name (file ∷ rest) none =
    let past : is_named name file ≡ false = none 0 (omega arith) in
    rw past (named_nowhere name rest (λ k h. none (suc k) (omega (arith, h))))

added_last : (name bytes : List ℕ) (files : Folder) → ((k : ℕ) → k < length files → is_named name (get_or files k empty_file) ≡ false)
    → with_file name bytes files ≡ files ++ record { name = name; bytes = bytes } ∷ []
added_last name bytes [] none = refl
added_last name bytes (file ∷ rest) none =
    let past : is_named name file ≡ false = none 0 (omega arith) in
    rw past (ap (λ files. file ∷ files) (added_last name bytes rest (λ k h. none (suc k) (omega (arith, h)))))

-- where no place is found, no file has the name
fails_everywhere : {X : Type 0} (p : X → Bool) (xs : List X) (d : X) → position p xs ≡ None → (k : ℕ) → k < length xs → p (get_or xs k d) ≡ false
fails_everywhere p xs d none k h = go (ltb (position_or_len p xs) (length xs)) refl none where
  go : (b : Bool) → ltb (position_or_len p xs) (length xs) ≡ b → cond b (Some (position_or_len p xs)) None ≡ None → p (get_or xs k d) ≡ false
  go true e found = absurd (cc)
  go false e found = fails_before_first p xs k d (omega (arith, h, ltb-false _ _ e))

-- the file of this name is the one at its place
pub file_named-at : (name : List ℕ) (files : Folder) (i : ℕ) (d : File) → position (is_named name) files ≡ Some i
    → file_named name files ≡ Some (get_or files i d).bytes
file_named-at name files i d found =
    let first = position-Some (is_named name) files i d found in named_first name files i d first.0 first.1 first.2

-- with no place there is no file
pub file_named-absent : (name : List ℕ) (files : Folder) → position (is_named name) files ≡ None → file_named name files ≡ None
file_named-absent name files none = named_nowhere name files (fails_everywhere (is_named name) files empty_file none)

-- new bytes under a name that has a place go there
pub with_file-at : (name bytes : List ℕ) (files : Folder) (i : ℕ) (d : File) → position (is_named name) files ≡ Some i
    → with_file name bytes files ≡ set files i (record { name = (get_or files i d).name; bytes = bytes })
with_file-at name bytes files i d found =
    let first = position-Some (is_named name) files i d found in replaced_first name bytes files i d first.0 first.1 first.2

-- new bytes under a name with no place come last
pub with_file-absent : (name bytes : List ℕ) (files : Folder) → position (is_named name) files ≡ None
    → with_file name bytes files ≡ files ++ record { name = name; bytes = bytes } ∷ []
with_file-absent name bytes files none = added_last name bytes files (fails_everywhere (is_named name) files empty_file none)
