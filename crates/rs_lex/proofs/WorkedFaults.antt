-- What the faults of a script mean, computed on literals.
use Rattle.std.proofs.Common.{inl, inr, refl, lit<, lit≤}
use Rattle.std.specs.Prelude.{codes}
use Rattle.rs_lex.specs.Front.{front_of}
use Rattle.rs_lex.specs.Faults.{IsOpen, IsWide, HasLetterBehind, BeginsNoToken}
use Rattle.rs_lex.proofs.FaultFacts.{closed-not_open, front-bad}

-- a text of which each mark behind the first one is one of two
never_closed : IsOpen (codes "'a''b")
never_closed = record { mark = 39; is_mark = inr refl; text = codes "a'b"; opens = refl }

-- three marks open a name that says one
three_marks : IsOpen (codes "\"\"\"")
three_marks = record { mark = 34; is_mark = inl refl; text = codes "\""; opens = refl }

-- a text that is closed, and one with the other mark in it
closed : IsOpen (codes "'a\"b'") → ⊥
closed = closed-not_open 39 (codes "a\"b'") 4 refl

-- the least number that is too great
too_great : IsWide (codes "4000000000000000001,")
too_great = record { size = 19; within = lit≤ tt; digits = refl; whole = λ digit. cc; wide = lit< tt }

-- a letter behind the greatest number
letter_behind : HasLetterBehind 19 (codes "4000000000000000000_")
letter_behind = record { number = (refl, lit≤ tt); letter = refl }

-- no token begins at an empty name
empty_name : BeginsNoToken (codes "\"\"x")
unfolding front_of
empty_name = elim (front-bad (codes "\"\"x") 0 refl) [ inl here ↦ here.1 | inr letter ↦ let no = letter.number.0 in cc ]

-- nor at a sign that begins one elsewhere
lone_sign : BeginsNoToken (codes "!x")
unfolding front_of
lone_sign = elim (front-bad (codes "!x") 0 refl) [ inl here ↦ here.1 | inr letter ↦ let no = letter.number.0 in cc ]
