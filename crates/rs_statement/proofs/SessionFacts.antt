-- The open cursors by name: what a look-up, a write and a new entry are to the list of cursors.
use Rattle.std.proofs.Common.{ℕ, ◌≡◌, ◌∙◌, ◌+◌, Bool, true, false, cond, List, [], ◌∷◌, ◌++◌, map, nat_eq, refl, sym, ap}
use Rattle.std.specs.Prelude.{None, Some, Result, Ok, Err, if◌then◌else◌}
use Rattle.std.specs.Cmp.Lexicographic.{pointwise}
use Rattle.std.specs.List.{AllByRecursion, IsDistinct}
use Rattle.std.specs.Map.{keys_of, lookup, set_value}
use Rattle.std.proofs.lemmas.Map.Keys.{IsDistinct-head, IsDistinct-tail}
use Rattle.rs_expr.specs.Scoring.{Answering}
use Rattle.rs_exec.proofs.CoversFacts.{covers}
use Rattle.rs_catalog.specs.Catalog.{CatalogDef}
use Rattle.rs_catalog.specs.Snapshot.{snapshot}
use Rattle.rs_statement.specs.declared.fault.Fault.{Fault}
use Rattle.rs_statement.specs.declared.fault.Fault.TheVariants.{Session}
use Rattle.rs_statement.specs.declared.fault.SessionFault.TheVariants.{Unknown}
use Rattle.rs_statement.specs.declared.session.CursorRows.{CursorRows}
use Rattle.rs_statement.specs.declared.session.CursorRows.TheVariants as held
use Rattle.rs_statement.specs.Named.{named_in, room_for, without}
use Rattle.rs_statement.specs.Parts.Session.{CanAllBeAsked, CanBeAsked, asked_of, cursors_of, open_cursor, source_of}
use Rattle.rs_statement.specs.Session.{IsCursorOf, OpenCursor, asked_more, cursor_named, room_for_cursor}
use Rattle.rs_statement.proofs.EntryFacts.{AreOthers, is_key, named-map, named-none, named-some, others-behind, same_name, without-map}

abbrev Entries : Type 0
Entries = List (List ℕ × CursorRows)

-- the names of the cursors are the keys
names-keys : (entries : Entries) → map (λ (c : OpenCursor). c.name) (cursors_of entries) ≡ keys_of entries
names-keys [] = refl
names-keys (entry ∷ entries) = ap (λ names. entry.0 ∷ names) (names-keys entries)

-- so a cursor can be opened where its name can be added
pub room-cursors : (name : List ℕ) (entries : Entries) → room_for_cursor name (cursors_of entries) ≡ room_for name (keys_of entries)
room-cursors name entries = ap (room_for name) (names-keys entries)

-- a name is looked up
module _ (name : List ℕ) (entries : Entries) where
  abbrev open_in : Result OpenCursor Fault
  open_in = named_in (λ (entry : List ℕ × CursorRows). entry.0) open_cursor name entries

  pub cursor-named : cursor_named name (cursors_of entries) ≡ open_in
  cursor-named = named-map open_cursor (λ (c : OpenCursor). c.name) (λ (c : OpenCursor). c) name entries

  pub cursor-none : lookup (is_key name) entries ≡ None → cursor_named name (cursors_of entries) ≡ Err (Session Unknown name)
  cursor-none none = cursor-named ∙ named-none open_cursor name entries none

  pub cursor-some : (held : CursorRows) → lookup (is_key name) entries ≡ Some held → cursor_named name (cursors_of entries) ≡ Ok (open_cursor (name, held))
  cursor-some held some = cursor-named ∙ named-some open_cursor name entries held some

  pub cursors-without : without (λ (c : OpenCursor). c.name) name (cursors_of entries) ≡ cursors_of (without (λ (entry : List ℕ × CursorRows). entry.0) name entries)
  cursors-without = without-map open_cursor (λ (c : OpenCursor). c.name) name entries

-- a new entry is the last cursor
pub cursors-append : (entries : Entries) (name : List ℕ) (held : CursorRows) → cursors_of (entries ++ (name, held) ∷ []) ≡ cursors_of entries ++ open_cursor (name, held) ∷ []
cursors-append [] name held = refl
cursors-append (entry ∷ entries) name held = ap (λ rest. open_cursor entry ∷ rest) (cursors-append entries name held)

module _ (answer : Answering) (catalogue : CatalogDef) where
  -- a cursor that can be asked is one of the catalogue: its query is well formed in what it sees
  cursor-covered : (name : List ℕ) (held : CursorRows) → CanBeAsked answer catalogue held → IsCursorOf catalogue (open_cursor (name, held))
  cursor-covered name (held.Asked cursor sizes) asked = (asked.0, covers (snapshot sizes.items catalogue) cursor.query asked.1.query)
  cursor-covered name (held.Ready rows given) within = tt

  pub cursors-covered : (entries : Entries) → CanAllBeAsked answer catalogue entries → AllByRecursion (IsCursorOf catalogue) (cursors_of entries)
  cursors-covered [] all = tt
  cursors-covered (entry ∷ entries) all = (cursor-covered entry.0 entry.1 all.0, cursors-covered entries all.1)

module _ (name : List ℕ) (asks : ℕ) where
  -- the cursors behind the first one, and whether that one was asked more
  abbrev asked_by : Bool → List ℕ × CursorRows → List OpenCursor → List OpenCursor
  asked_by here entry rest = (if here then record (open_cursor entry) { asked = asked_of entry.1 + asks } else open_cursor entry) ∷ rest

  asked-first : (entry : List ℕ × CursorRows) (entries : Entries) (b : Bool) → is_key name entry.0 ≡ b
      → map (asked_more name asks) (cursors_of (entry ∷ entries)) ≡ asked_by b entry (map (asked_more name asks) (cursors_of entries))
  asked-first entry entries b is = ap (λ b. asked_by b entry (map (asked_more name asks) (cursors_of entries))) (sym (same_name name entry.0) ∙ is)

  -- a cursor of another name is asked no more
  asked-others : (entries : Entries) → AreOthers name entries → map (asked_more name asks) (cursors_of entries) ≡ cursors_of entries
  asked-others [] others = refl
  asked-others (entry ∷ entries) others = asked-first entry entries false others.0 ∙ ap (λ rest. open_cursor entry ∷ rest) (asked-others entries others.1)

  -- where a cursor is found and was asked more, the cursor of its name was, and no other
  pub cursors-set : (entries : Entries) (before after : CursorRows) → IsDistinct (pointwise nat_eq) (keys_of entries)
      → lookup (is_key name) entries ≡ Some before → source_of after ≡ source_of before → asked_of after ≡ asked_of before + asks
      → cursors_of (set_value (is_key name) entries after) ≡ map (asked_more name asks) (cursors_of entries)
  cursors-set [] before after distinct found source count = absurd cc
  cursors-set (entry ∷ entries) before after distinct found source count =
      go (λ later. cursors-set entries before after (IsDistinct-tail (pointwise nat_eq) entry.0 (keys_of entries) distinct) later source count) (is_key name entry.0) refl found
      ∙ sym (asked-first entry entries (is_key name entry.0) refl) where
        go : (lookup (is_key name) entries ≡ Some before → cursors_of (set_value (is_key name) entries after) ≡ map (asked_more name asks) (cursors_of entries))
            → (b : Bool) → is_key name entry.0 ≡ b → cond b (Some entry.1) (lookup (is_key name) entries) ≡ Some before
            → cursors_of (cond b ((entry.0, after) ∷ entries) (entry ∷ set_value (is_key name) entries after)) ≡ asked_by b entry (map (asked_more name asks) (cursors_of entries))
        go rest true is found =
            let own : entry.1 ≡ before = cc in
            let same_source : source_of after ≡ source_of entry.1 = source ∙ ap source_of (sym own) in
            let same_count : asked_of after ≡ asked_of entry.1 + asks = count ∙ ap (λ h. asked_of h + asks) (sym own) in
            let behind = asked-others entries (others-behind name entry.0 entries is (IsDistinct-head (pointwise nat_eq) entry.0 (keys_of entries) distinct)) in
            λ i. record { name = entry.0; source = same_source i; asked = same_count i } ∷ sym behind i
        go rest false is found = ap (λ more. open_cursor entry ∷ more) (rest found)
