-- What a call of the parser reads: a part of the grammar, and what its tree stands for.
use Rattle.std.specs.Prelude.{◌≡◌, Result, Ok, Err}
use Rattle.rs_grammar.specs.Grammar.{Part, Tree}
use Rattle.rs_grammar.specs.Reading as reading
use Rattle.rs_grammar.specs.Reading.{State, Read, Fails}
use Rattle.rs_syntax.specs.declared.parser.ParserFault.{ParserFault}
use Rattle.rs_syntax.specs.declared.parser.ParserFault.TheVariants.{Expected, TooDeep, Memory}

-- a part was read, and its tree stands for a value
pub record Found {A : Type 0} (p : Part) (meaning : Tree → A) (b a : State) (value : A) : Type 0 where
  pub tree : Tree
  pub read : Read p b tree a
  pub means : meaning tree ≡ value

-- the reader fails with a fault; of want of memory nothing is said
abbrev pub FailsWith : Part → State → ParserFault → State → Type 0
FailsWith p b Expected a = Fails p b reading.Expected a
FailsWith p b TooDeep a = Fails p b reading.TooDeep a
FailsWith p b Memory a = Unit {0}

pub record Halts (p : Part) (b : State) (fault : ParserFault) (a : State) : Type 0 where
  pub fails : FailsWith p b fault a

-- between two states a part was read that stands for the value, seen by `view`, or the reader fails there with the fault
abbrev pub Reads : {A V : Type 0} → Part → (Tree → A) → (V → A) → State → State → Result V ParserFault → Type 0
Reads p meaning view b a (Ok value) = Found p meaning b a (view value)
Reads p meaning view b a (Err fault) = Halts p b fault a
