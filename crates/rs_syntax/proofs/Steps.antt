-- Steps of a reader, put together as the grammar's parts are.
use Rattle.std.proofs.Common.{◌≡◌, true, false, Result, Err}
use Rattle.rs_grammar.specs.Grammar.{Rule, Part, Empty, Seq, Either, Many, Use, rule, Tree, Nothing, Pair, This, That, More, Node}
use Rattle.rs_grammar.specs.Reading as reading
use Rattle.rs_grammar.specs.Reading.{State, Read, Cause, Fails, opens}
use Rattle.rs_syntax.specs.Reads.{Found, Halts, Reads}
use Rattle.rs_syntax.specs.declared.parser.ParserFault.{ParserFault}
use Rattle.rs_syntax.specs.declared.parser.ParserFault.TheVariants.{Expected, TooDeep, Memory}

-- what was read

pub read-both : {p q : Part} {t u : Tree} {b x a : State} → Read p b t x → Read q x u a → Read (Seq p q) b (Pair t u) a
read-both {p = p} {q = q} {t = t} {u = u} {b = b} {x = x} {a = a} r s = reading.Read.both p q t u b x a r s

pub read-this : {p q : Part} {t : Tree} {b a : State} → opens p b ≡ true → Read p b t a → Read (Either p q) b (This t) a
read-this {p = p} {q = q} {t = t} {b = b} {a = a} o r = reading.Read.this p q t b a o r

pub read-that : {p q : Part} {t : Tree} {b a : State} → opens p b ≡ false → Read q b t a → Read (Either p q) b (That t) a
read-that {p = p} {q = q} {t = t} {b = b} {a = a} o r = reading.Read.that p q t b a o r

-- an optional part that isn't there
pub read-not : {p : Part} {b : State} → opens p b ≡ false → Read (Either p Empty) b (That Nothing) b
read-not {p = p} {b = b} o = reading.Read.that p Empty Nothing b b o (reading.Read.empty b)

pub read-stop : {p : Part} {b : State} → opens p b ≡ false → Read (Many p) b Nothing b
read-stop {p = p} {b = b} o = reading.Read.stop p b o

pub read-more : {p : Part} {t u : Tree} {b x a : State} → opens p b ≡ true → Read p b t x → Read (Many p) x u a → Read (Many p) b (More t u) a
read-more {p = p} {t = t} {u = u} {b = b} {x = x} {a = a} o r s = reading.Read.more p t u b x a o r s

pub read-rule : {r : Rule} {t : Tree} {b a : State} → Read (rule r) b t a → Read (Use r) b (Node t) a
read-rule {r = r} {t = t} {b = b} {a = a} h = reading.Read.by_rule r t b a h

-- what was read stands for a value
pub found : {A : Type 0} {p : Part} {meaning : Tree → A} {b a : State} {value : A} {t : Tree} → Read p b t a → meaning t ≡ value → Found p meaning b a value
found {t = t} r e = record { tree = t; read = r; means = e }

-- where the reader fails

pub halts-first : {p q : Part} {b a : State} {f : ParserFault} → Halts p b f a → Halts (Seq p q) b f a
halts-first {p = p} {q = q} {b = b} {a = a} {f = Expected} h = record { fails = reading.Fails.first p q reading.Expected b a h.fails }
halts-first {p = p} {q = q} {b = b} {a = a} {f = TooDeep} h = record { fails = reading.Fails.first p q reading.TooDeep b a h.fails }
halts-first {p = p} {q = q} {b = b} {a = a} {f = Memory} h = record { fails = tt }

pub halts-then : {p q : Part} {t : Tree} {b x a : State} {f : ParserFault} → Read p b t x → Halts q x f a → Halts (Seq p q) b f a
halts-then {p = p} {q = q} {t = t} {b = b} {x = x} {a = a} {f = Expected} r h = record { fails = reading.Fails.second p q t reading.Expected b x a r h.fails }
halts-then {p = p} {q = q} {t = t} {b = b} {x = x} {a = a} {f = TooDeep} r h = record { fails = reading.Fails.second p q t reading.TooDeep b x a r h.fails }
halts-then {p = p} {q = q} {t = t} {b = b} {x = x} {a = a} {f = Memory} r h = record { fails = tt }

pub halts-this : {p q : Part} {b a : State} {f : ParserFault} → opens p b ≡ true → Halts p b f a → Halts (Either p q) b f a
halts-this {p = p} {q = q} {b = b} {a = a} {f = Expected} o h = record { fails = reading.Fails.this p q reading.Expected b a o h.fails }
halts-this {p = p} {q = q} {b = b} {a = a} {f = TooDeep} o h = record { fails = reading.Fails.this p q reading.TooDeep b a o h.fails }
halts-this {p = p} {q = q} {b = b} {a = a} {f = Memory} o h = record { fails = tt }

pub halts-that : {p q : Part} {b a : State} {f : ParserFault} → opens p b ≡ false → Halts q b f a → Halts (Either p q) b f a
halts-that {p = p} {q = q} {b = b} {a = a} {f = Expected} o h = record { fails = reading.Fails.that p q reading.Expected b a o h.fails }
halts-that {p = p} {q = q} {b = b} {a = a} {f = TooDeep} o h = record { fails = reading.Fails.that p q reading.TooDeep b a o h.fails }
halts-that {p = p} {q = q} {b = b} {a = a} {f = Memory} o h = record { fails = tt }

pub halts-item : {p : Part} {b a : State} {f : ParserFault} → opens p b ≡ true → Halts p b f a → Halts (Many p) b f a
halts-item {p = p} {b = b} {a = a} {f = Expected} o h = record { fails = reading.Fails.item p reading.Expected b a o h.fails }
halts-item {p = p} {b = b} {a = a} {f = TooDeep} o h = record { fails = reading.Fails.item p reading.TooDeep b a o h.fails }
halts-item {p = p} {b = b} {a = a} {f = Memory} o h = record { fails = tt }

pub halts-later : {p : Part} {t : Tree} {b x a : State} {f : ParserFault} → opens p b ≡ true → Read p b t x → Halts (Many p) x f a → Halts (Many p) b f a
halts-later {p = p} {t = t} {b = b} {x = x} {a = a} {f = Expected} o r h = record { fails = reading.Fails.later p t reading.Expected b x a o r h.fails }
halts-later {p = p} {t = t} {b = b} {x = x} {a = a} {f = TooDeep} o r h = record { fails = reading.Fails.later p t reading.TooDeep b x a o r h.fails }
halts-later {p = p} {t = t} {b = b} {x = x} {a = a} {f = Memory} o r h = record { fails = tt }

pub halts-rule : {r : Rule} {b a : State} {f : ParserFault} → Halts (rule r) b f a → Halts (Use r) b f a
halts-rule {r = r} {b = b} {a = a} {f = Expected} h = record { fails = reading.Fails.by_rule r reading.Expected b a h.fails }
halts-rule {r = r} {b = b} {a = a} {f = TooDeep} h = record { fails = reading.Fails.by_rule r reading.TooDeep b a h.fails }
halts-rule {r = r} {b = b} {a = a} {f = Memory} h = record { fails = tt }

-- for want of memory nothing is said
pub halts-memory : {p : Part} {b a : State} → Halts p b Memory a
halts-memory = record { fails = tt }

-- a fault goes on unchanged
pub goes_on : {A V : Type 0} {p : Part} (meaning : Tree → A) (view : V → A) {b a : State} {f : ParserFault} {result : Result V ParserFault} → result ≡ Err f → Halts p b f a → Reads p meaning view b a result
goes_on meaning view e h = rw e h

-- a node wasn't made for want of memory
pub halts-made : {p : Part} {b a : State} {fault : ParserFault} → fault ≡ Memory → Halts p b fault a
halts-made e = rw e halts-memory

-- another part fails wherever this one does
pub halts-as : {p q : Part} {b a : State} {f : ParserFault} → ((c : Cause) → Fails p b c a → Fails q b c a) → Halts p b f a → Halts q b f a
halts-as {f = Expected} go h = record { fails = go reading.Expected h.fails }
halts-as {f = TooDeep} go h = record { fails = go reading.TooDeep h.fails }
halts-as {f = Memory} go h = record { fails = tt }
