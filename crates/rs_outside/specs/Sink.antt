-- What a put does.
use Rattle.std.specs.Prelude.{ℕ, ◌≡◌, List, [], ◌∷◌, ◌++◌, Option, option_map, Result, Ok, Err}
use Rattle.rs_outside.specs.declared.sink.SinkFault.{SinkFault}
use Rattle.rs_outside.specs.declared.sink.SinkFault.TheVariants.{Failed, Memory}

-- the first list begins the second
pub record IsPrefix (part whole : List ℕ) : Type 0 where
  pub rest : List ℕ
  pub split : whole ≡ part ++ rest

-- what a put of these bytes does to the pieces that a sink tells. Ok: one piece more, the bytes. Failed: one piece
-- more, a prefix of them. Memory: nothing
abbrev pub Puts : List ℕ → Result (Unit {0}) SinkFault → Option (List (List ℕ)) → Option (List (List ℕ)) → Type 0
Puts bytes (Ok done) old new = new ≡ option_map (λ pieces. pieces ++ bytes ∷ []) old
Puts bytes (Err Failed) old new = (part : List ℕ) × IsPrefix part bytes × (new ≡ option_map (λ pieces. pieces ++ part ∷ []) old)
Puts bytes (Err Memory) old new = new ≡ old
