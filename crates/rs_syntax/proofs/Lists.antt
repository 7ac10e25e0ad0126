-- A list is read item by item: what was read so far, and what the rest of the items makes of it.
use Rattle.std.proofs.Common.{◌≡◌, ◌∙◌, ◌<◌, ◌+◌, true, false, List, [], ◌∷◌, ◌++◌, length, length-append, arith, sym, ap, append_assoc}
use Rattle.std.specs.Prelude.{map}
use Rattle.std.proofs.lemmas.List.{append-nil}
use Rattle.rs_grammar.specs.Grammar.{Part, Seq, Many, Tree, Nothing, More, yield}
use Rattle.rs_grammar.specs.Reading.{State, Read, opens, nullable}
use Rattle.rs_grammar.proofs.Derivation.{Read-split, Read-some}
use Rattle.rs_syntax.specs.Reads.{Found, Halts}
use Rattle.rs_syntax.specs.Trees.{listed, items_of, last}
use Rattle.rs_syntax.specs.declared.parser.ParserFault.{ParserFault}
use Rattle.rs_syntax.proofs.Steps.{found, read-both, read-stop, read-more, halts-then, halts-item, halts-later}

-- a list that begins at b stands at x with these items
pub record Listing {A : Type 0} (p item : Part) (f : Tree → A) (b x : State) (made : List A) : Type 0 where
  pub reads : (u : Tree) (a : State) → Read (Many item) x u a → Found (Seq p (Many item)) (listed f) b a (made ++ map (λ v. f (last 1 v)) (items_of u))
  pub halts : (fault : ParserFault) (a : State) → Halts (Many item) x fault a → Halts (Seq p (Many item)) b fault a

-- the first item was read
pub Listing-start : {A : Type 0} {p item : Part} {f : Tree → A} {b x : State} {value : A} → Found p f b x value → Listing p item f b x (value ∷ [])
Listing-start {p = p} {item = item} {f = f} {b = b} {x = x} h = record {
  reads = λ u a r. found (read-both h.read r) (ap (λ value. value ∷ map (λ v. f (last 1 v)) (items_of u)) h.means);
  halts = λ fault a k. halts-then h.read k;
}

-- one more was read
pub Listing-more : {A : Type 0} {p item : Part} {f : Tree → A} {b x y : State} {made : List A} {v : Tree} {value : A} → Listing p item f b x made → opens item x ≡ true
    → Read item x v y → f (last 1 v) ≡ value → Listing p item f b y (made ++ value ∷ [])
Listing-more {p = p} {item = item} {f = f} {b = b} {x = x} {y = y} {made = made} {v = v} {value = value} h o r e = record {
  reads = λ u a k. let all = h.reads (More v u) a (read-more o r k) in let later = map (λ v. f (last 1 v)) (items_of u) in
      found all.read (all.means ∙ ap (λ one. made ++ one ∷ later) e ∙ sym (append_assoc made (value ∷ []) later));
  halts = λ fault a k. h.halts fault a (halts-later o r k);
}

-- no further one stands there
pub Listing-end : {A : Type 0} {p item : Part} {f : Tree → A} {b x : State} {made : List A} → Listing p item f b x made → opens item x ≡ false
    → Found (Seq p (Many item)) (listed f) b x made
Listing-end {p = p} {item = item} {f = f} {b = b} {x = x} {made = made} h o =
    let all = h.reads Nothing x (read-stop o) in found all.read (all.means ∙ append-nil made)

-- the next one isn't read
pub Listing-halts : {A : Type 0} {p item : Part} {f : Tree → A} {b x a : State} {made : List A} {fault : ParserFault} → Listing p item f b x made → opens item x ≡ true
    → Halts item x fault a → Halts (Seq p (Many item)) b fault a
Listing-halts {a = a} {fault = fault} h o k = h.halts fault a (halts-item o k)

-- a part that isn't empty shortens what is left to read
pub read-shorter : {p : Part} {b a : State} {t : Tree} → nullable p ≡ false → Read p b t a → length a.rest < length b.rest
read-shorter {p = p} {b = b} {a = a} {t = t} some r =
    let split : length b.rest ≡ length (yield t ++ a.rest) = ap length (Read-split p b t a r) in
    let both : length (yield t ++ a.rest) ≡ length (yield t) + length a.rest = length-append (yield t) a.rest in
    let one : 0 < length (yield t) = Read-some p b t a r some in
    omega arith
