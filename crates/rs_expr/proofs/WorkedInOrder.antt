-- Calls in order, on examples: two calls and what comes of them, over a scorer that tells its calls.
use Rattle.std.proofs.Common.{ℕ, pos, ◌≡◌, ◌+◌, ◌++◌, List, [], ◌∷◌, false, refl, inl, inr, arith}
use Rattle.std.specs.Prelude.{Some, Ok, Err, IsOk, codes}
use Rattle.rs_expr.specs.Scoring.{KeepsScorer, ScorerState}
use Rattle.rs_expr.specs.InOrder.{Inquires, Inquiry, Request, InquiryStops, and_then, calls_of}
use Rattle.rs_expr.specs.declared.scorer.Call.{Call}

-- requests whose faults are numbers, and 0 is want of memory
abbrev near : Request ℕ
near = record { call = record { predicate = codes "near"; args = [] }; failed = 1 }

abbrev far : Request ℕ
far = record { call = record { predicate = codes "far"; args = [] }; failed = 2 }

abbrev cheap : Request ℕ
cheap = record { call = record { predicate = codes "cheap"; args = [] }; failed = 3 }

-- two answers give a number, or the second one is bad
abbrev good : Inquiry ℕ ℕ
good = record { requests = near ∷ far ∷ []; outcome = Ok 40 }

abbrev bad : Inquiry ℕ ℕ
bad = record { requests = near ∷ far ∷ []; outcome = Err 7 }

-- a third call, and one more than the number
abbrev next : ℕ → Inquiry ℕ ℕ
next n = record { requests = cheap ∷ []; outcome = Ok (n + 1) }

followed : and_then good next ≡ record { requests = near ∷ far ∷ cheap ∷ []; outcome = Ok 41 }
followed = refl

-- behind a bad answer no call is made
ended : and_then bad next ≡ record { requests = near ∷ far ∷ []; outcome = Err 7 }
ended = refl

-- a scorer that was called so, of which this many calls failed
abbrev called : List Call → ℕ → ℕ → ScorerState
called calls count faults = record { answer = λ predicate args. pos 5; calls = count; outside = record { told = Some calls; faults = faults; steady = false } }

kept : (calls more : List Call) (count next_count faults : ℕ) → KeepsScorer (called calls count 0) (called more next_count faults)
kept calls more count next_count faults = record { answer = refl; outside = record { grows = omega arith; steady = refl } }

-- both calls were made
all_made : Inquires 0 good (Ok 40) (called [] 0 0) (called (near.call ∷ far.call ∷ []) 2 0)
all_made = record { comes = inl (inl (record { made = record { told = refl; counted = refl }; gives = refl })); keeps = kept [] (near.call ∷ far.call ∷ []) 0 2 0 }

-- the first one failed
first_failed : Inquires 0 good (Err 1) (called [] 0 0) (called (near.call ∷ []) 1 1)
first_failed = record {
  comes = inl (inr (record { done = []; last = near; rest = far ∷ []; split = refl; made = record { told = refl; counted = refl }; faulted = record { rose = inl (omega arith); unsteady = refl }; gives = refl }));
  keeps = kept [] (near.call ∷ []) 0 1 1;
}

-- there was no memory for the second one
second_unmade : Inquires 0 good (Err 0) (called [] 0 0) (called (near.call ∷ []) 1 0)
second_unmade = record {
  comes = inr (record { done = near ∷ []; rest = far ∷ []; split = refl; good = λ none. cc; made = record { told = refl; counted = refl }; gives = refl });
  keeps = kept [] (near.call ∷ []) 0 1 0;
}

-- where all calls were made and one answer was bad, there is no want of memory
not_for_a_bad_one : InquiryStops 0 bad (Err 0) (called [] 0 0) (called (near.call ∷ far.call ∷ []) 2 0) → ⊥
not_for_a_bad_one stops = go stops.done stops.rest stops.split stops.good stops.made.told where
  go : (done rest : List (Request ℕ)) → near ∷ far ∷ [] ≡ done ++ rest → (rest ≡ [] → IsOk bad.outcome) → Some (near.call ∷ far.call ∷ []) ≡ Some ([] ++ calls_of done) → ⊥
  go [] rest split good told = cc
  go (one ∷ []) rest split good told = cc
  go (one ∷ two ∷ []) rest split good told = let ok : IsOk bad.outcome = good cc in cc
  go (one ∷ two ∷ three ∷ more) rest split good told = cc
