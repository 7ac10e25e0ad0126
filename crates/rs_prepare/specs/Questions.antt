-- Where questions go.
use Rattle.std.specs.Prelude.{ℕ, Bool, true, false, List, Option, None}
use Rattle.rs_value.specs.Outside.{Outside}
use Rattle.rs_outside.specs.OutSink.{Stream, stream_state}

-- the sink that questions go to, a file that is held open besides, and whether a question was put already
pub record QuestionsState (W : Type 0) : Type 0 where
  pub to : Stream W
  pub held : Option W
  pub asked : Bool

-- no question was put yet
abbrev pub new_questions : {W : Type 0} → W → Option W → QuestionsState W
new_questions to held = record { to = record { writer = to; faults = 0 }; held = held; asked = false }

-- what contracts see of it
abbrev pub questions_state : {W : Type 0} → QuestionsState W → Outside (List (List ℕ))
questions_state questions = stream_state questions.to

-- what is held behind one question more: nothing from the second one on
abbrev pub held_after : {W : Type 0} → Bool → Option W → Option W
held_after false held = held
held_after true held = None
