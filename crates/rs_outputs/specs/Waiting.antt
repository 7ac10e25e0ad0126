-- Lists of output values that wait to be placed behind others.
use Rattle.std.specs.Prelude.{◌≡◌, false, List, [], ◌∷◌, ◌++◌, map}
use Rattle.std.specs.declared.alloc.Global.{Global}
use Rattle.std.specs.declared.vec.Vec.{Vec}
use Rattle.rs_value.specs.declared.value.Value.{Value}
use Rattle.rs_outputs.specs.Seen.{has_list}

-- the lists
abbrev pub lists_in : List (Vec Value Global) → List (List Value)
lists_in waiting = map (λ list. list.items) waiting

-- none of them is one of these lists, or one of those before it
abbrev pub AreNew : List (List Value) → List (List Value) → Type 0
AreNew lists [] = Unit {0}
AreNew lists (list ∷ waiting) = (has_list list lists ≡ false) × AreNew (lists ++ list ∷ []) waiting
