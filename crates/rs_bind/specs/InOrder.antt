-- Rules that are looked at for one item after the other, from left to right. What they say of an item may rest on what the items before it are.
use Rattle.std.specs.Prelude.{List, [], ◌∷◌}
use Rattle.rs_typing.specs.declared.fault.BindFault.{BindFault}

-- each item is what the rules say, behind items that are what `before` has, the last one first
pub data Each {A B : Type 0} (Is : List B → A → B → Type 0) : List B → List A → List B → Type 0 where
  none : (before : List B) → Each Is before [] []
  and : (before : List B) (a : A) (items : List A) (b : B) (more : List B) → Is before a b → Each Is (b ∷ before) items more → Each Is before (a ∷ items) (b ∷ more)

-- an item is refused with this fault, and each item before it is what the rules say
pub data FirstRefused {A B : Type 0} (Is : List B → A → B → Type 0) (Refused : List B → A → BindFault → Type 0) : List B → List A → BindFault → Type 0 where
  here : (before : List B) (a : A) (items : List A) (fault : BindFault) → Refused before a fault → FirstRefused Is Refused before (a ∷ items) fault
  behind : (before : List B) (a : A) (items : List A) (b : B) (fault : BindFault) → Is before a b → FirstRefused Is Refused (b ∷ before) items fault
      → FirstRefused Is Refused before (a ∷ items) fault
