-- Values by name as entries of a map: what a look-up, a write and a removal are to the list of names and values, and what holds of each value.
use Rattle.std.proofs.Common.{ℕ, ◌≡◌, ◌∙◌, ◌||◌, Bool, true, false, cond, List, [], ◌∷◌, ◌++◌, length, map, nat_eq, eqb, eq-eqb, refl, sym, ap, subst, inl, inr, arith}
use Rattle.std.specs.Prelude.{not, Option, Some, None, Result, Ok, Err, is_some, if◌then◌else◌}
use Rattle.std.specs.Cmp.Lexicographic.{pointwise, bytes_decides}
use Rattle.std.specs.List.{AllByRecursion, list_any}
use Rattle.std.specs.Map.{keys_of, lookup, remove_entry, set_value}
use Rattle.std.specs.Str.{bytes_eq}
use Rattle.std.proofs.lemmas.Bool.Decides.{nat_tests}
use Rattle.std.proofs.lemmas.Cmp.{nat_list_eq_equiv}
use Rattle.std.proofs.lemmas.List.{length-map}
use Rattle.std.proofs.lemmas.Map.Made.{is_some-lookup}
use Rattle.rs_value.specs.Answer.{Gives}
use Rattle.rs_value.specs.Results.{◌>>=◌}
use Rattle.rs_catalog.specs.Catalog.{has_name}
use Rattle.rs_catalog.specs.declared.room.RoomFault.TheVariants as room
use Rattle.rs_statement.specs.Named.{most_named, named_in, or_session_fault, room_for, without}
use Rattle.rs_statement.specs.Parts.Steps.{Leaves}
use Rattle.rs_statement.specs.declared.fault.Fault.{Fault}
use Rattle.rs_statement.specs.declared.fault.Fault.TheVariants.{Memory, Session}
use Rattle.rs_statement.specs.declared.fault.SessionFault.TheVariants.{NameTaken, Unknown, Full}

-- the test of a key is that of a name
abbrev pub is_key : List ℕ → List ℕ → Bool
is_key name = pointwise nat_eq name

pub same_name : (name other : List ℕ) → is_key name other ≡ bytes_eq other name
same_name name other = nat_list_eq_equiv.symm name other

any-same_name : (name : List ℕ) (names : List (List ℕ)) → list_any (is_key name) names ≡ has_name name names
any-same_name name [] = refl
any-same_name name (other ∷ names) = λ i. same_name name other i || any-same_name name names i

-- whether a value can be added, by the two tests
abbrev room_by : List ℕ → Bool → Bool → Result (Unit {0}) Fault
room_by name taken full = or_session_fault name (if taken then Err room.NameTaken else if full then Err room.Full else Ok tt)

-- where a value can be added, none has its name
pub room-free : (name : List ℕ) (names : List (List ℕ)) → room_for name names ≡ Ok tt → has_name name names ≡ false
room-free name names opens = go (has_name name names) opens where
  go : (taken : Bool) → room_by name taken (eqb (length names) most_named) ≡ Ok tt → taken ≡ false
  go true opens = absurd cc
  go false opens = refl

not-eqb : (a b : ℕ) → (a ≡ b → ⊥) → eqb a b ≡ false
not-eqb a b differ = grind (arith, nat_tests)

module _ {V : Type 0} where
  abbrev key_of : List ℕ × V → List ℕ
  key_of entry = entry.0

  -- a name is found exactly where it is a key
  pub has_name-keys : (name : List ℕ) (entries : List (List ℕ × V)) → is_some (lookup (is_key name) entries) ≡ has_name name (keys_of entries)
  has_name-keys name entries = is_some-lookup (is_key name) entries ∙ any-same_name name (keys_of entries)

  pub lookup-none : (name : List ℕ) (entries : List (List ℕ × V)) → has_name name (keys_of entries) ≡ false → lookup (is_key name) entries ≡ None
  lookup-none name entries free = go (lookup (is_key name) entries) (has_name-keys name entries ∙ free) where
    go : (found : Option V) → is_some found ≡ false → found ≡ None
    go None e = refl
    go (Some held) e = absurd cc

  pub room-taken : (name : List ℕ) (entries : List (List ℕ × V)) → has_name name (keys_of entries) ≡ true → room_for name (keys_of entries) ≡ Err (Session NameTaken name)
  room-taken name entries taken = ap (λ b. room_by name b (eqb (length (keys_of entries)) most_named)) taken

  length-keys : (entries : List (List ℕ × V)) → length (keys_of entries) ≡ length entries
  length-keys entries = length-map entries (λ (e : List ℕ × V). e.0)

  pub room-full : (name : List ℕ) (entries : List (List ℕ × V)) → has_name name (keys_of entries) ≡ false → length entries ≡ most_named → room_for name (keys_of entries) ≡ Err (Session Full name)
  room-full name entries free full =
      let many : eqb (length (keys_of entries)) most_named ≡ true = eq-eqb (length (keys_of entries)) most_named (length-keys entries ∙ full) in
      λ i. room_by name (free i) (many i)

  pub room-some : (name : List ℕ) (entries : List (List ℕ × V)) → has_name name (keys_of entries) ≡ false → (length entries ≡ most_named → ⊥) → room_for name (keys_of entries) ≡ Ok tt
  room-some name entries free few =
      let less : eqb (length (keys_of entries)) most_named ≡ false = not-eqb (length (keys_of entries)) most_named (λ e. few (sym (length-keys entries) ∙ e)) in
      λ i. room_by name (free i) (less i)

  module _ {W : Type 0} (value_of : List ℕ × V → W) where
    -- a name is looked up
    abbrev named_by : Bool → List ℕ × V → Result W Fault → Result W Fault
    named_by here entry rest = if here then Ok (value_of entry) else rest

    pub named-none : (name : List ℕ) (entries : List (List ℕ × V)) → lookup (is_key name) entries ≡ None → named_in key_of value_of name entries ≡ Err (Session Unknown name)
    named-none name [] none = refl
    named-none name (entry ∷ entries) none =
        ap (λ b. named_by b entry (named_in key_of value_of name entries)) (sym (same_name name entry.0)) ∙ go (named-none name entries) (is_key name entry.0) none where
          go : (lookup (is_key name) entries ≡ None → named_in key_of value_of name entries ≡ Err (Session Unknown name))
              → (b : Bool) → cond b (Some entry.1) (lookup (is_key name) entries) ≡ None → named_by b entry (named_in key_of value_of name entries) ≡ Err (Session Unknown name)
          go rest true none = absurd cc
          go rest false none = rest none

    pub named-some : (name : List ℕ) (entries : List (List ℕ × V)) (held : V) → lookup (is_key name) entries ≡ Some held → named_in key_of value_of name entries ≡ Ok (value_of (name, held))
    named-some name [] held some = absurd cc
    named-some name (entry ∷ entries) held some =
        ap (λ b. named_by b entry (named_in key_of value_of name entries)) (sym (same_name name entry.0)) ∙ go (named-some name entries held) (is_key name entry.0) refl some where
          go : (lookup (is_key name) entries ≡ Some held → named_in key_of value_of name entries ≡ Ok (value_of (name, held)))
              → (b : Bool) → is_key name entry.0 ≡ b → cond b (Some entry.1) (lookup (is_key name) entries) ≡ Some held
              → named_by b entry (named_in key_of value_of name entries) ≡ Ok (value_of (name, held))
          go rest true is some =
              let own : entry.1 ≡ held = cc in
              let same : name ≡ entry.0 = (bytes_decides name entry.0).0 is in
              λ i. Ok (value_of (sym same i, own i))
          go rest false is some = rest some

  -- all keys of these entries are other names
  abbrev pub AreOthers : List ℕ → List (List ℕ × V) → Type 0
  AreOthers name entries = AllByRecursion (λ key. is_key name key ≡ false) (keys_of entries)

  -- the keys behind one that is the name are others
  pub others-behind : (name first : List ℕ) (entries : List (List ℕ × V)) → is_key name first ≡ true → AllByRecursion (λ key. is_key first key ≡ false) (keys_of entries) → AreOthers name entries
  others-behind name first [] same differ = tt
  others-behind name first (entry ∷ entries) same differ =
      (nat_list_eq_equiv.congr name first entry.0 same ∙ differ.0, others-behind name first entries same differ.1)

  -- and so are all where none is found
  others-none : (name : List ℕ) (entries : List (List ℕ × V)) → lookup (is_key name) entries ≡ None → AreOthers name entries
  others-none name [] none = tt
  others-none name (entry ∷ entries) none = go (others-none name entries) (is_key name entry.0) refl none where
    go : (lookup (is_key name) entries ≡ None → AreOthers name entries) → (b : Bool) → is_key name entry.0 ≡ b → cond b (Some entry.1) (lookup (is_key name) entries) ≡ None
        → AreOthers name (entry ∷ entries)
    go rest true is none = absurd cc
    go rest false is none = (is, rest none)

  module _ (name : List ℕ) where
    without-first : (entry : List ℕ × V) (entries : List (List ℕ × V)) (b : Bool) → is_key name entry.0 ≡ b
        → without key_of name (entry ∷ entries) ≡ cond (not b) (entry ∷ without key_of name entries) (without key_of name entries)
    without-first entry entries b is = ap (λ b. cond (not b) (entry ∷ without key_of name entries) (without key_of name entries)) (sym (same_name name entry.0) ∙ is)

    kept-others : (entries : List (List ℕ × V)) → AreOthers name entries → without key_of name entries ≡ entries
    kept-others [] others = refl
    kept-others (entry ∷ entries) others = without-first entry entries false others.0 ∙ ap (λ rest. entry ∷ rest) (kept-others entries others.1)

    -- without the entry of a name the value of the name is gone, and all others stay in their order
    pub entries-remove : (entries : List (List ℕ × V)) → lookup (is_key name) (remove_entry (is_key name) entries) ≡ None → remove_entry (is_key name) entries ≡ without key_of name entries
    entries-remove [] none = refl
    entries-remove (entry ∷ entries) none = go (entries-remove entries) (is_key name entry.0) refl none ∙ sym (without-first entry entries (is_key name entry.0) refl) where
      go : (lookup (is_key name) (remove_entry (is_key name) entries) ≡ None → remove_entry (is_key name) entries ≡ without key_of name entries)
          → (b : Bool) → is_key name entry.0 ≡ b → lookup (is_key name) (cond b entries (entry ∷ remove_entry (is_key name) entries)) ≡ None
          → cond b entries (entry ∷ remove_entry (is_key name) entries) ≡ cond (not b) (entry ∷ without key_of name entries) (without key_of name entries)
      go rest true is none = sym (kept-others entries (others-none name entries none))
      go rest false is none = ap (λ more. entry ∷ more) (rest (sym (ap (λ b. cond b (Some entry.1) (lookup (is_key name) (remove_entry (is_key name) entries))) is) ∙ none))

    -- and so it is where none was
    pub remove-none : (entries : List (List ℕ × V)) → lookup (is_key name) entries ≡ None → remove_entry (is_key name) entries ≡ without key_of name entries
    remove-none entries none = remove-others entries (others-none name entries none) ∙ sym (kept-others entries (others-none name entries none)) where
      remove-others : (entries : List (List ℕ × V)) → AreOthers name entries → remove_entry (is_key name) entries ≡ entries
      remove-others [] others = refl
      remove-others (entry ∷ entries) others = ap (λ b. cond b entries (entry ∷ remove_entry (is_key name) entries)) others.0 ∙ ap (λ rest. entry ∷ rest) (remove-others entries others.1)

  -- what holds of each value
  module _ (P : V → Type 0) where
    abbrev EachHas : List (List ℕ × V) → Type 0
    EachHas entries = AllByRecursion (λ (entry : List ℕ × V). P entry.1) entries

    pub each-last : (entries : List (List ℕ × V)) (name : List ℕ) (value : V) → EachHas entries → P value → EachHas (entries ++ (name, value) ∷ [])
    each-last [] name value all one = (one, tt)
    each-last (entry ∷ entries) name value all one = (all.0, each-last entries name value all.1 one)

    -- of the one that is found too
    pub each-found : (test : List ℕ → Bool) (entries : List (List ℕ × V)) (value : V) → EachHas entries → lookup test entries ≡ Some value → P value
    each-found test [] value all some = absurd cc
    each-found test (entry ∷ entries) value all some = go (each-found test entries value all.1) (test entry.0) some where
      go : (lookup test entries ≡ Some value → P value) → (b : Bool) → cond b (Some entry.1) (lookup test entries) ≡ Some value → P value
      go rest true some = let own : entry.1 ≡ value = cc in subst P own all.0
      go rest false some = rest some

    -- of all others without one
    pub each-without : (name : List ℕ) (entries : List (List ℕ × V)) → EachHas entries → EachHas (without key_of name entries)
    each-without name [] all = tt
    each-without name (entry ∷ entries) all = go (each-without name entries all.1) (bytes_eq entry.0 name) where
      go : EachHas (without key_of name entries) → (b : Bool) → EachHas (cond (not b) (entry ∷ without key_of name entries) (without key_of name entries))
      go rest true = rest
      go rest false = (all.0, rest)

    -- with another value at a name, of all where it holds of that one
    pub each-set : (test : List ℕ → Bool) (entries : List (List ℕ × V)) (value : V) → EachHas entries → P value → EachHas (set_value test entries value)
    each-set test [] value all one = tt
    each-set test (entry ∷ entries) value all one = go (each-set test entries value all.1 one) (test entry.0) where
      go : EachHas (set_value test entries value) → (b : Bool) → EachHas (cond b ((entry.0, value) ∷ entries) (entry ∷ set_value test entries value))
      go rest true = (one, all.1)
      go rest false = (all.0, rest)

-- a value that is named is one of them
pub each-named : {E V : Type 0} (P : V → Type 0) (name_of : E → List ℕ) (value_of : E → V) (name : List ℕ) (held : List E) (value : V) → AllByRecursion (λ (e : E). P (value_of e)) held
    → named_in name_of value_of name held ≡ Ok value → P value
each-named P name_of value_of name [] value all is = absurd cc
each-named {E} {V} P name_of value_of name (e ∷ held) value all is = go (each-named P name_of value_of name held value all.1) (bytes_eq (name_of e) name) is where
  go : (named_in name_of value_of name held ≡ Ok value → P value) → (b : Bool) → (if b then Ok (value_of e) else named_in name_of value_of name held) ≡ Ok value → P value
  go rest true is = let own : value_of e ≡ value = cc in subst P own all.0
  go rest false is = rest is

-- values that are made of others under the same names
module _ {D E : Type 0} (f : D → E) (name_of : E → List ℕ) where
  pub named-map : {V : Type 0} (value_of : E → V) (name : List ℕ) (held : List D) → named_in name_of value_of name (map f held) ≡ named_in (λ (d : D). name_of (f d)) (λ (d : D). value_of (f d)) name held
  named-map value_of name [] = refl
  named-map value_of name (d ∷ held) = ap (λ rest. if bytes_eq (name_of (f d)) name then Ok (value_of (f d)) else rest) (named-map value_of name held)

  pub without-map : (name : List ℕ) (held : List D) → without name_of name (map f held) ≡ map f (without (λ (d : D). name_of (f d)) name held)
  without-map name [] = refl
  without-map name (d ∷ held) = go (without-map name held) (bytes_eq (name_of (f d)) name) where
    go : without name_of name (map f held) ≡ map f (without (λ (d : D). name_of (f d)) name held) → (b : Bool)
        → cond (not b) (f d ∷ without name_of name (map f held)) (without name_of name (map f held))
        ≡ map f (cond (not b) (d ∷ without (λ (d : D). name_of (f d)) name held) (without (λ (d : D). name_of (f d)) name held))
    go rest true = rest
    go rest false = ap (λ more. f d ∷ more) rest

-- whether something is named doesn't depend on what it is
pub named-then : {E V W A : Type 0} (name_of : E → List ℕ) (first : E → V) (second : E → W) (next : Result A Fault) (name : List ℕ) (held : List E)
    → (named_in name_of first name held >>= (λ value. next)) ≡ (named_in name_of second name held >>= (λ value. next))
named-then name_of first second next name [] = refl
named-then name_of first second next name (e ∷ held) = go (named-then name_of first second next name held) (bytes_eq (name_of e) name) where
  go : (named_in name_of first name held >>= (λ value. next)) ≡ (named_in name_of second name held >>= (λ value. next)) → (b : Bool)
      → ((if b then Ok (first e) else named_in name_of first name held) >>= (λ value. next)) ≡ ((if b then Ok (second e) else named_in name_of second name held) >>= (λ value. next))
  go rest true = refl
  go rest false = rest

-- where something is let go of, a state is left, or the run ends
pub Leaves-found : {S : Type 0} (outcome : Result S Fault) (left : S) (found result : Result (Unit {0}) Fault) → outcome ≡ (found >>= (λ done. Ok left)) → Gives Memory found result
    → Leaves outcome left result
Leaves-found outcome left found (Ok done) is (inl e) = is ∙ ap (λ r. r >>= (λ done. Ok left)) (sym e)
Leaves-found outcome left found (Ok done) is (inr e) = absurd cc
Leaves-found outcome left found (Err fault) is (inl e) = inr (is ∙ ap (λ r. r >>= (λ done. Ok left)) (sym e))
Leaves-found outcome left found (Err fault) is (inr e) = inl cc
