-- Names with kinds and numbers within limits, computed on literals.
use Rattle.std.proofs.Common.{ℕ, ◌≡◌, ◌+◌, List, [], ◌∷◌, refl}
use Rattle.std.specs.Prelude.{pos, negsuc, codes, Some, None, Ok, Err}
use Rattle.rs_value.specs.declared.kind.Kind.{Kind}
use Rattle.rs_value.specs.declared.kind.Kind.TheVariants.{Int, Text}
use Rattle.rs_lex.specs.declared.token.Span.{Span}
use Rattle.rs_syntax.specs.declared.name.Name.{Name}
use Rattle.rs_typing.specs.declared.fault.BindFault.TheVariants.{At}
use Rattle.rs_typing.specs.declared.fault.Why.TheVariants.{LimitOf, NameTwice}
use Rattle.rs_bind.specs.Names.{named, number_in}
use Rattle.rs_bind.specs.Predicates.{cost_of}

abbrev at : ℕ → Span
at place = record { start = place; end = place + 1 }

abbrev column : List ℕ → Kind → ℕ → Name × Kind
column text kind place = (record { text = text; at = at place }, kind)

abbrev a : ℕ → Name × Kind
a place = column (codes "a") Int place

abbrev b : ℕ → Name × Kind
b place = column (codes "b") Text place

two_names : named 2 (a 0 ∷ b 1 ∷ []) ≡ Ok ((codes "a", Int) ∷ (codes "b", Text) ∷ [])
two_names = refl

one_name_twice : named 3 (a 0 ∷ b 1 ∷ a 2 ∷ []) ≡ Err (At NameTwice (at 2))
one_name_twice = refl

-- case matters
another_case : named 2 (a 0 ∷ column (codes "A") Int 1 ∷ []) ≡ Ok ((codes "a", Int) ∷ (codes "A", Int) ∷ [])
another_case = refl

one_name_too_many : named 1 (a 0 ∷ b 1 ∷ []) ≡ Err (At LimitOf (at 1))
one_name_too_many = refl

-- at each name its number is looked at first, and each before the next one
number_before_name : named 1 (a 0 ∷ a 1 ∷ []) ≡ Err (At LimitOf (at 1))
number_before_name = refl

first_before_next : named 2 (a 0 ∷ a 1 ∷ b 2 ∷ []) ≡ Err (At NameTwice (at 1))
first_before_next = refl

least_number : number_in 1 9 (pos 1, at 0) ≡ Ok 1
least_number = refl

greatest_number : number_in 1 9 (pos 9, at 0) ≡ Ok 9
greatest_number = refl

below_the_least : number_in 1 9 (pos 0, at 0) ≡ Err (At LimitOf (at 0))
below_the_least = refl

above_the_greatest : number_in 1 9 (pos 10, at 0) ≡ Err (At LimitOf (at 0))
above_the_greatest = refl

below_0 : number_in 0 9 (negsuc 0, at 0) ≡ Err (At LimitOf (at 0))
below_0 = refl

usual_cost : cost_of None ≡ Ok 1
usual_cost = refl

no_cost : cost_of (Some (pos 0, at 0)) ≡ Ok 0
no_cost = refl

greatest_cost : cost_of (Some (pos 65535, at 0)) ≡ Ok 65535
greatest_cost = refl

too_great_cost : cost_of (Some (pos 65536, at 0)) ≡ Err (At LimitOf (at 0))
too_great_cost = refl
