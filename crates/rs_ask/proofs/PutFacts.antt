-- What was put, over several puts.
use Rattle.std.proofs.Common.{◌∙◌, List, [], ◌∷◌, ◌++◌, ℕ, Option, Some, Result, Ok, Err, ap, append-nil, refl, sym}
use Rattle.std.specs.List.{concat}
use Rattle.std.specs.Prelude.{option_map}
use Rattle.std.proofs.lemmas.List.Folds.{concat-append}
use Rattle.rs_events.proofs.RanFacts.{told-more, told-none}
use Rattle.rs_outside.specs.Sink.{Puts}
use Rattle.rs_outside.specs.declared.sink.SinkFault.{SinkFault}
use Rattle.rs_outside.specs.declared.sink.SinkFault.TheVariants as sink
use Rattle.rs_value.specs.Outside.{Outside}
use Rattle.rs_ask.specs.Putting.{PutsAll, PutsAndPart, PutsBytes}

abbrev pub Pieces : Type 0
Pieces = Outside (List (List ℕ))

-- nothing was put
pub PutsAll-none : (sink : Pieces) → PutsAll [] sink sink
PutsAll-none sink = told-none sink.told

-- pieces, and then more
pub PutsAll-then : (xs ys : List (List ℕ)) (old middle new : Pieces) → PutsAll xs old middle → PutsAll ys middle new → PutsAll (xs ++ ys) old new
PutsAll-then xs ys old middle new first more =
    more ∙ ap (option_map (λ told. told ++ ys)) first ∙ told-more xs ys old.told

-- pieces, and then a part of a line
pub PutsAndPart-then : (xs : List (List ℕ)) (line : Option (List ℕ)) (old middle new : Pieces) → PutsAll xs old middle → PutsAndPart [] line middle new → PutsAndPart xs line old new
PutsAndPart-then xs line old middle new first part =
    record { more = part.more; part = part.part; put = PutsAll-then xs part.more old middle new first part.put }

-- nothing of a line
pub PutsAndPart-none : (xs : List (List ℕ)) (line : Option (List ℕ)) (old new : Pieces) → PutsAll xs old new → PutsAndPart xs line old new
PutsAndPart-none xs line old new all =
    record { more = []; part = tt; put = all ∙ ap (λ ys. option_map (λ told. told ++ ys) old.told) (sym (append-nil xs)) }

-- what one put of a line left
pub PutsAndPart-put : (line : List ℕ) (result : Result (Unit {0}) SinkFault) (old new : Pieces) → Puts line result old.told new.told → PutsAndPart [] (Some line) old new
PutsAndPart-put line (Ok done) old new puts = record { more = line ∷ []; part = record { rest = []; split = sym (append-nil line) }; put = puts }
PutsAndPart-put line (Err sink.Failed) old new puts = record { more = puts.0 ∷ []; part = puts.1; put = puts.2 }
PutsAndPart-put line (Err sink.Memory) old new puts = record { more = []; part = tt; put = puts ∙ told-none old.told }

-- bytes, and then more
pub PutsBytes-none : (sink : Pieces) → PutsBytes [] sink sink
PutsBytes-none sink = record { pieces = []; put = PutsAll-none sink; are = refl }

pub PutsBytes-then : (xs ys : List ℕ) (old middle new : Pieces) → PutsBytes xs old middle → PutsBytes ys middle new → PutsBytes (xs ++ ys) old new
PutsBytes-then xs ys old middle new first more = record {
  pieces = first.pieces ++ more.pieces;
  put = PutsAll-then first.pieces more.pieces old middle new first.put more.put;
  are = concat-append first.pieces more.pieces ∙ ap (λ zs. zs ++ concat more.pieces) first.are ∙ ap (λ zs. xs ++ zs) more.are;
}

-- one piece
pub PutsBytes-one : (bytes : List ℕ) (old new : Pieces) → Puts bytes (Ok tt) old.told new.told → PutsBytes bytes old new
PutsBytes-one bytes old new puts = record { pieces = bytes ∷ []; put = puts; are = append-nil bytes }

-- a part of one, whose put failed
pub PutsBytes-part : (bytes : List ℕ) (old new : Pieces) (puts : Puts bytes (Err sink.Failed) old.told new.told) → PutsBytes puts.0 old new
PutsBytes-part bytes old new puts = record { pieces = puts.0 ∷ []; put = puts.2; are = append-nil puts.0 }

-- nothing, where there was no memory
pub PutsBytes-kept : (bytes : List ℕ) (old new : Pieces) → Puts bytes (Err sink.Memory) old.told new.told → PutsBytes [] old new
PutsBytes-kept bytes old new puts = record { pieces = []; put = puts ∙ told-none old.told; are = refl }
