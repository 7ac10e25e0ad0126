-- What the core of a rank join keeps, and what each call does to it. It draws the rows of two sides, each in the order of
-- its keys, and holds the pairs that were found among them.
use Rattle.std.specs.Prelude.{ℕ, ◌≡◌, ◌<◌, ◌^◌, ◌&&◌, Bool, true, false, not, List, [], Option, Some, None, bit_or, drop, if◌then◌else◌}
use Rattle.std.specs.Ordering.{is_gt}
use Rattle.rs_order.specs.Sorting.{put}
use Rattle.rs_queue.specs.Queue.{has_key}
use Rattle.rs_rank.specs.declared.ask.JoinAsk.{JoinAsk}
use Rattle.rs_rank.specs.declared.ask.JoinAsk.TheVariants.{NeedLeft, NeedRight, Ready, End}
use Rattle.rs_rank.specs.declared.key.Key.{Key}
use Rattle.rs_rank.specs.declared.row.RankRow.{RankRow}
use Rattle.rs_rank.specs.declared.weights.Weights.{Weights}
use Rattle.rs_rank.specs.Ids.{IsIds}
use Rattle.rs_rank.specs.Keys.{IsBefore, key_cmp}
use Rattle.rs_rank.specs.Masks.{AreDisjoint}
use Rattle.rs_rank.specs.Merging.{merge_key}
use Rattle.rs_rank.specs.Rows.{HasSum, first_key, first_row, key_of}
use Rattle.rs_rank.specs.Weights.{IsBound, IsWeights}
use Rattle.rs_ripple.specs.declared.side.Drawn.{Drawn}
use Rattle.rs_ripple.specs.declared.side.Input.{Input}
use Rattle.rs_ripple.specs.declared.side.Side.{Side}

-- the two sides with the keys drawn of them; the key of the pair that was taken last; the pairs held, in the order of
-- their keys by the terms of both sides; and whether memory ran out
pub record Ripple : Type 0 where
  pub weights : Weights
  pub left : Input
  pub right : Input
  pub taken : Option Key
  pub held : List (Key × RankRow)
  pub spent : Bool

-- two sides of one block, that have no entry and no term in common
pub record CanJoin (weights : Weights) (left right : Side) : Type 0 where
  pub limits : IsWeights weights
  pub left_entries : left.mask < 2 ^ 6
  pub right_entries : right.mask < 2 ^ 6
  pub entries : AreDisjoint left.mask right.mask
  pub terms : AreDisjoint left.terms right.terms

-- a side of which nothing is drawn
abbrev pub new_input : Side → Input
new_input side = record { side = side; drawn = None; ended = false }

-- nothing is drawn
abbrev pub new_ripple : Weights → Side → Side → Ripple
new_ripple weights left right =
    record { weights = weights; left = new_input left; right = new_input right; taken = None; held = []; spent = false }

-- the key of a pair, of a key of each side
abbrev pub pair_key : Ripple → Key → Key → Key
pair_key ripple left right = merge_key ripple.weights ripple.left.side.terms ripple.right.side.terms left right

-- the key of a pair that was found
abbrev pub full_key : Ripple → RankRow → Key
full_key ripple row = key_of ripple.weights (bit_or ripple.left.side.terms ripple.right.side.terms) row

-- a key that a side can still bring; once the side has ended it lies beyond all keys: None
abbrev pub unless_ended : Input → Key → Option Key
unless_ended input key = if input.ended then None else Some key

-- no pair with a left row still to come comes before the last left key with the first right one
abbrev pub left_threshold : Ripple → Drawn → Drawn → Option Key
left_threshold ripple left right = unless_ended ripple.left (pair_key ripple left.last right.first)

-- no pair with a right row still to come comes before the first left key with the last right one
abbrev pub right_threshold : Ripple → Drawn → Drawn → Option Key
right_threshold ripple left right = unless_ended ripple.right (pair_key ripple left.first right.last)

-- a key comes at or before a threshold
abbrev pub is_reached : Option Key → Key → Bool
is_reached None key = true
is_reached (Some threshold) key = not (is_gt (key_cmp key threshold))

-- the side whose threshold comes first is asked, the left one on a tie; where both have ended nothing is left to ask for
abbrev pub first_side : Option Key → Option Key → JoinAsk
first_side None None = End
first_side None (Some right) = NeedRight
first_side (Some left) None = NeedLeft
first_side (Some left) (Some right) = if is_gt (key_cmp left right) then NeedRight else NeedLeft

-- the first held pair can be taken once its key comes at or before both thresholds
abbrev pub ask_first : Option Key → Option Key → Option Key → JoinAsk
ask_first left right None = first_side left right
ask_first left right (Some key) = if is_reached left key && is_reached right key then Ready else first_side left right

abbrev pub ask_between : Option Key → Option Key → List (Key × RankRow) → JoinAsk
ask_between left right held = ask_first left right (first_key held)

-- a side without a row is asked, the left one first; where such a side has ended there is no pair
abbrev pub ask_drawn : Option Drawn → Option Drawn → Ripple → JoinAsk
ask_drawn None right ripple = if ripple.left.ended then End else NeedLeft
ask_drawn (Some left) None ripple = if ripple.right.ended then End else NeedRight
ask_drawn (Some left) (Some right) ripple =
    ask_between (left_threshold ripple left right) (right_threshold ripple left right) ripple.held

abbrev pub ask_of : Ripple → JoinAsk
ask_of ripple = ask_drawn ripple.left.drawn ripple.right.drawn ripple

-- after one more key of a side
abbrev pub drawn_with : Option Drawn → Key → Drawn
drawn_with None key = record { first = key; last = key }
drawn_with (Some drawn) key = record { first = drawn.first; last = key }

abbrev pub drawn : Key → Input → Input
drawn key input = record input { drawn = Some (drawn_with input.drawn key) }

abbrev pub left_drawn : Key → Ripple → Ripple
left_drawn key ripple = record ripple { left = drawn key ripple.left }

abbrev pub right_drawn : Key → Ripple → Ripple
right_drawn key ripple = record ripple { right = drawn key ripple.right }

-- after the end of a side
abbrev pub ended : Input → Input
ended input = record input { ended = true }

abbrev pub left_ended : Ripple → Ripple
left_ended ripple = record ripple { left = ended ripple.left }

abbrev pub right_ended : Ripple → Ripple
right_ended ripple = record ripple { right = ended ripple.right }

-- after one more pair
abbrev pub found : RankRow → Ripple → Ripple
found row ripple = record ripple { held = put key_cmp (λ pair. pair.0) (full_key ripple row, row) ripple.held }

-- the first held pair, if it can be taken
abbrev pub taken_for : JoinAsk → Ripple → Option RankRow
taken_for Ready ripple = first_row ripple.held
taken_for NeedLeft ripple = None
taken_for NeedRight ripple = None
taken_for End ripple = None

-- what is left without it
abbrev pub left_for : JoinAsk → Ripple → Ripple
left_for Ready ripple = record ripple { taken = first_key ripple.held; held = drop 1 ripple.held }
left_for NeedLeft ripple = ripple
left_for NeedRight ripple = ripple
left_for End ripple = ripple

-- a key of a side: of the side's entries, with a bound that the side's terms allow
pub record IsKeyOf (weights : Weights) (side : Side) (key : Key) : Type 0 where
  pub ids : IsIds key.ids
  pub entries : key.ids.mask ≡ side.mask
  pub bound : IsBound weights side.terms key.bound

-- the keys drawn of a side are of one block
abbrev pub IsOfBlock : Option Drawn → ℕ → Type 0
IsOfBlock None block = Unit {0}
IsOfBlock (Some drawn) block = drawn.first.ids.block ≡ block

-- a key comes behind those drawn
abbrev pub IsBehindDrawn : Option Drawn → Key → Type 0
IsBehindDrawn None key = Unit {0}
IsBehindDrawn (Some drawn) key = IsBefore drawn.last key

-- a key comes behind the one taken last
abbrev pub IsBehind : Option Key → Key → Type 0
IsBehind None key = Unit {0}
IsBehind (Some taken) key = IsBefore taken key

-- a side has a row
abbrev pub HasDrawn : Option Drawn → Type 0
HasDrawn None = ⊥
HasDrawn (Some drawn) = Unit {0}

-- the next key of the side that is asked
pub record CanDraw (side : JoinAsk) (input : Input) (key : Key) (ripple : Ripple) : Type 0 where
  pub alive : ripple.spent ≡ false
  pub need : ask_of ripple ≡ side
  pub own : IsKeyOf ripple.weights input.side key
  pub left_block : IsOfBlock ripple.left.drawn key.ids.block
  pub right_block : IsOfBlock ripple.right.drawn key.ids.block
  pub behind : IsBehindDrawn input.drawn key

abbrev pub CanDrawLeft : Key → Ripple → Type 0
CanDrawLeft key ripple = CanDraw NeedLeft ripple.left key ripple

abbrev pub CanDrawRight : Key → Ripple → Type 0
CanDrawRight key ripple = CanDraw NeedRight ripple.right key ripple

-- the end of the side that is asked
pub record CanEnd (side : JoinAsk) (ripple : Ripple) : Type 0 where
  pub alive : ripple.spent ≡ false
  pub need : ask_of ripple ≡ side

-- a pair of rows of both sides that isn't held, and comes behind the one taken last
pub record CanFind (row : RankRow) (ripple : Ripple) : Type 0 where
  pub alive : ripple.spent ≡ false
  pub left : HasDrawn ripple.left.drawn
  pub right : HasDrawn ripple.right.drawn
  pub entries : row.ids.mask ≡ bit_or ripple.left.side.mask ripple.right.side.mask
  pub sum : HasSum ripple.weights (bit_or ripple.left.side.terms ripple.right.side.terms) row
  pub absent : has_key key_cmp (full_key ripple row) ripple.held ≡ false
  pub behind : IsBehind ripple.taken (full_key ripple row)

-- two sides with the keys drawn of them, of which no pair is found
abbrev pub sides_of : Weights → Input → Input → Ripple
sides_of weights left right =
    record { weights = weights; left = left; right = right; taken = None; held = []; spent = false }

-- two kept keys are the thresholds of both sides, where both have drawn
abbrev pub AreThresholds : Option Key → Option Key → Ripple → Type 0
AreThresholds to_left to_right ripple = (left right : Drawn) → ripple.left.drawn ≡ Some left → ripple.right.drawn ≡ Some right →
    (to_left ≡ left_threshold ripple left right) × (to_right ≡ right_threshold ripple left right)

-- what holds of each join: the keys of each side are its own, and all are of one block
abbrev pub AreKeysOf : Weights → Side → Option Drawn → Type 0
AreKeysOf weights side None = Unit {0}
AreKeysOf weights side (Some drawn) =
    IsKeyOf weights side drawn.first × IsKeyOf weights side drawn.last × (drawn.last.ids.block ≡ drawn.first.ids.block)

abbrev pub AreOfOneBlock : Option Drawn → Option Drawn → Type 0
AreOfOneBlock None right = Unit {0}
AreOfOneBlock (Some left) right = IsOfBlock right left.first.ids.block

pub record IsRipple (ripple : Ripple) : Type 0 where
  pub sides : CanJoin ripple.weights ripple.left.side ripple.right.side
  pub left_keys : AreKeysOf ripple.weights ripple.left.side ripple.left.drawn
  pub right_keys : AreKeysOf ripple.weights ripple.right.side ripple.right.drawn
  pub block : AreOfOneBlock ripple.left.drawn ripple.right.drawn

-- a pair was taken only once it came at or before both thresholds
abbrev pub IsTakenReached : Option Key → Option Drawn → Option Drawn → Ripple → Type 0
IsTakenReached None left right ripple = Unit {0}
IsTakenReached (Some taken) None right ripple = ⊥
IsTakenReached (Some taken) (Some left) None ripple = ⊥
IsTakenReached (Some taken) (Some left) (Some right) ripple =
    (is_reached (left_threshold ripple left right) taken ≡ true) × (is_reached (right_threshold ripple left right) taken ≡ true)

abbrev pub HasReached : Ripple → Type 0
HasReached ripple = IsTakenReached ripple.taken ripple.left.drawn ripple.right.drawn ripple
