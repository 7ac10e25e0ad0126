-- Values that are held by name, in the order in which they were added: the cursors of a session, and the views of a script.
use Rattle.std.specs.Prelude.{ℕ, ◌≡◌, not, List, [], ◌∷◌, Result, Ok, Err, if◌then◌else◌}
use Rattle.std.specs.List.{filter}
use Rattle.std.specs.Str.{bytes_eq}
use Rattle.rs_catalog.specs.Catalog.{room_in}
use Rattle.rs_catalog.specs.declared.room.RoomFault.{RoomFault}
use Rattle.rs_catalog.specs.declared.room.RoomFault.TheVariants as room
use Rattle.rs_statement.specs.declared.fault.Fault.{Fault}
use Rattle.rs_statement.specs.declared.fault.Fault.TheVariants.{Session}
use Rattle.rs_statement.specs.declared.fault.SessionFault.{SessionFault}
use Rattle.rs_statement.specs.declared.fault.SessionFault.TheVariants.{NameTaken, Unknown, Full}

-- the most values that may be held at once
abbrev pub most_named : ℕ
most_named = 64

-- why no value can be added
abbrev pub room_why : RoomFault → SessionFault
room_why room.NameTaken = NameTaken
room_why room.Full = Full

abbrev pub or_session_fault : List ℕ → Result (Unit {0}) RoomFault → Result (Unit {0}) Fault
or_session_fault name (Ok room) = Ok room
or_session_fault name (Err why) = Err (Session (room_why why) name)

-- whether a value of this name can be added beside those of these names: not where one of the name is held, and not where there are as many as may be
abbrev pub room_for : List ℕ → List (List ℕ) → Result (Unit {0}) Fault
room_for name names = or_session_fault name (room_in name most_named names)

module _ {E : Type 0} (name_of : E → List ℕ) where
  -- what is held under this name; where nothing is, the run ends
  abbrev pub named_in : {V : Type 0} → (E → V) → List ℕ → List E → Result V Fault
  named_in value_of name [] = Err (Session Unknown name)
  named_in value_of name (entry ∷ rest) = if bytes_eq (name_of entry) name then Ok (value_of entry) else named_in value_of name rest

  -- all others, in their order
  abbrev pub without : List ℕ → List E → List E
  without name entries = filter (λ (entry : E). not (bytes_eq (name_of entry) name)) entries
