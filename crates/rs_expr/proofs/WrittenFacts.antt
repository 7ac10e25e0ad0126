-- Written scores, where the place of the first one for a call is known.
use Rattle.std.proofs.Common.{ℕ, ℤ, ◌≡◌, ◌<◌, zero, suc, Bool, true, false, List, [], ◌∷◌, ◌++◌, length, get_or, set, Some, None, refl, ap, arith, cond, ltb}
use Rattle.std.specs.List.{position, position_or_len}
use Rattle.std.proofs.lemmas.Bool.{ltb-false}
use Rattle.std.proofs.lemmas.List.Quantifiers.{position-Some}
use Rattle.std.proofs.lemmas.List.Sums.{fails_before_first}
use Rattle.rs_expr.specs.MemScorer.{is_same_call, with_score}
use Rattle.rs_expr.specs.declared.scorer.Call.{Call}
use Rattle.rs_expr.specs.declared.mem_scorer.WrittenScore.{WrittenScore}

-- the score is written for this call
abbrev pub is_for : Call → WrittenScore → Bool
is_for call entry = is_same_call entry.call call

replaced_first : (call : Call) (score : ℤ) (written : List WrittenScore) (i : ℕ) (d : WrittenScore) → i < length written
    → is_for call (get_or written i d) ≡ true → ((k : ℕ) → k < i → is_for call (get_or written k d) ≡ false)
    → with_score call score written ≡ set written i (record { call = (get_or written i d).call; score = score })
replaced_first call score [] i d within here before = absurd (omega (arith, within))
replaced_first call score (entry ∷ rest) zero d within here before = rw here refl
replaced_first call score (entry ∷ rest) (suc i) d within here before =
    let past : is_for call entry ≡ false = before 0 (omega arith) in
    rw past (ap (λ written. entry ∷ written) (replaced_first call score rest i d (omega (arith, within)) here (λ k h. before (suc k) (omega (arith, h)))))

added_last : (call : Call) (score : ℤ) (written : List WrittenScore) (d : WrittenScore)
    → ((k : ℕ) → k < length written → is_for call (get_or written k d) ≡ false)
    → with_score call score written ≡ written ++ record { call = call; score = score } ∷ []
added_last call score [] d none = refl
added_last call score (entry ∷ rest) d none =
    let past : is_for call entry ≡ false = none 0 (omega arith) in
    rw past (ap (λ written. entry ∷ written) (added_last call score rest d (λ k h. none (suc k) (omega (arith, h)))))

-- where no place is found, nothing is written for the call
fails_everywhere : {X : Type 0} (p : X → Bool) (xs : List X) (d : X) → position p xs ≡ None → (k : ℕ) → k < length xs → p (get_or xs k d) ≡ false
fails_everywhere p xs d none k h = go (ltb (position_or_len p xs) (length xs)) refl none where
  go : (b : Bool) → ltb (position_or_len p xs) (length xs) ≡ b → cond b (Some (position_or_len p xs)) None ≡ None → p (get_or xs k d) ≡ false
  go true e found = absurd (cc)
  go false e found = fails_before_first p xs k d (omega (arith, h, ltb-false _ _ e))

-- a new score for a call that has a place goes there
pub with_score-at : (call : Call) (score : ℤ) (written : List WrittenScore) (i : ℕ) (d : WrittenScore) → position (is_for call) written ≡ Some i
    → with_score call score written ≡ set written i (record { call = (get_or written i d).call; score = score })
with_score-at call score written i d found =
    let first = position-Some (is_for call) written i d found in replaced_first call score written i d first.0 first.1 first.2

-- a score for a call that has no place comes last
pub with_score-absent : (call : Call) (score : ℤ) (written : List WrittenScore) → position (is_for call) written ≡ None
    → with_score call score written ≡ written ++ record { call = call; score = score } ∷ []
with_score-absent call score written none =
    let new : WrittenScore = record { call = call; score = score } in
    added_last call score written new (fails_everywhere (is_for call) written new none)
