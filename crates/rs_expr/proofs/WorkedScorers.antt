-- The definitions of a scorer in memory, computed on examples.
use Rattle.std.proofs.Common.{◌≡◌, pos, List, [], ◌∷◌, true, false, Ok, Err, refl}
use Rattle.std.specs.Prelude.{codes}
use Rattle.rs_value.specs.declared.kind.Kind.TheVariants as kind
use Rattle.rs_value.specs.declared.value.Value.{Value}
use Rattle.rs_value.specs.declared.value.Value.TheVariants as value
use Rattle.rs_expr.specs.declared.scorer.ScorerFault.TheVariants as fault
use Rattle.rs_expr.specs.Formulas.{Argument, Constant, Product, Sum}
use Rattle.rs_expr.specs.Predicates.{PredicateDef}
use Rattle.rs_expr.specs.Scoring.{call_of}
use Rattle.rs_expr.specs.MemScorer.{MemScorerState, after_fail_at, after_score, after_set, is_same_call, no_scores, score_answer}

-- near(a) has the score a + 1, and far(a) the score 2 a
abbrev near : PredicateDef
near = record { name = codes "near"; params = kind.Int ∷ []; max = 100; cost = 5; formula = Sum (Argument 0) (Constant (pos 1)) }

abbrev far : PredicateDef
far = record { name = codes "far"; params = kind.Int ∷ []; max = 100; cost = 5; formula = Product (Constant (pos 2)) (Argument 0) }

abbrev number : List Value
number = value.Int (pos 7) ∷ []

abbrev other_number : List Value
other_number = value.Int (pos 8) ∷ []

-- equal arguments are of one kind, and as many
same_number : is_same_call (call_of near number) (call_of near number) ≡ true
same_number = refl

number_and_text : is_same_call (call_of near number) (call_of near (value.Text (codes "7") ∷ [])) ≡ false
number_and_text = refl

one_more : is_same_call (call_of near number) (call_of near (value.Int (pos 7) ∷ value.Int (pos 7) ∷ [])) ≡ false
one_more = refl

other_name : is_same_call (call_of near number) (call_of far number) ≡ false
other_name = refl

-- near(7) is written, twice, and calls 2 and 4 are to fail
abbrev planned : MemScorerState
planned = after_fail_at 4 (after_fail_at 2 (after_set (call_of near number) (pos 70) (after_set (call_of near number) (pos 60) no_scores)))

written_once : planned.written ≡ record { call = call_of near number; score = pos 70 } ∷ []
written_once = refl

written_answer : score_answer near number planned ≡ Ok (pos 70)
written_answer = refl

other_argument : score_answer near other_number planned ≡ Ok (pos 9)
other_argument = refl

other_predicate : score_answer far number planned ≡ Ok (pos 14)
other_predicate = refl

-- the second call fails, and is one of the calls
abbrev called_once : MemScorerState
called_once = after_score (call_of near number) (Ok (pos 70)) planned

second_answer : score_answer near number called_once ≡ Err fault.Failed
second_answer = refl

abbrev called_twice : MemScorerState
called_twice = after_score (call_of near number) (Err fault.Failed) called_once

after_two : called_twice ≡ record {
  written = record { call = call_of near number; score = pos 70 } ∷ [];
  calls = call_of near number ∷ call_of near number ∷ [];
  count = 2;
  failing = 2 ∷ 4 ∷ [];
  faults = 1;
}
after_two = refl

-- a call for which there is no memory changes nothing
no_memory : after_score (call_of far number) (Err fault.Memory) called_twice ≡ called_twice
no_memory = refl

third_answer : score_answer near number called_twice ≡ Ok (pos 70)
third_answer = refl

abbrev called_thrice : MemScorerState
called_thrice = after_score (call_of near other_number) (Ok (pos 9)) called_twice

fourth_answer : score_answer near other_number called_thrice ≡ Err fault.Failed
fourth_answer = refl

after_three : called_thrice.calls ≡ call_of near number ∷ call_of near number ∷ call_of near other_number ∷ []
after_three = refl

-- the numbers of calls and of faults stand still at their end
abbrev full : MemScorerState
full = record no_scores { count = 18446744073709551615; faults = 18446744073709551615 }

full_after : after_score (call_of near number) (Err fault.Failed) full ≡ record full { calls = call_of near number ∷ [] }
full_after = refl
