-- The parts of a condition, and the steps from an expression to its conjuncts.
use Rattle.std.proofs.Common.{ℕ, zero, suc, ◌≡◌, ◌+◌, List, [], ◌∷◌, ◌++◌, length, drop, append_assoc, refl, sym, subst, ap, ◌∙◌, inl, inr, arith}
use Rattle.std.specs.Prelude.{Some, Result, Ok, Err, option_map, slice_get}
use Rattle.std.proofs.lemmas.List.{drop_all}
use Rattle.rs_value.specs.Answer.{Gives}
use Rattle.rs_syntax.specs.Syntax.{Expression}
use Rattle.rs_value.specs.Results.{◌>>=◌}
use Rattle.rs_query.specs.Conjuncts.{ConjunctDef}
use Rattle.rs_typing.specs.declared.fault.BindFault.{BindFault}
use Rattle.rs_typing.specs.declared.fault.BindFault.TheVariants.{At, Memory}
use Rattle.rs_typing.specs.declared.fault.Why.TheVariants.{LimitOf}
use Rattle.rs_typing.specs.Typing.{span_of}
use Rattle.rs_typing.proofs.ResultFacts.{same_Ok, well}
use Rattle.rs_bind.specs.Conditions.{conjunct_in, conjuncts_of, few_parts}
use Rattle.rs_bind.specs.Sources.{Source}
use Rattle.rs_bind.proofs.PartFacts.{conjuncts_of-append}

-- a part that is one too many
abbrev pub one_too_many : Expression → BindFault
one_too_many part = At LimitOf (span_of part)

abbrev refusal : List Expression → Result (Unit {0}) BindFault
refusal [] = Ok tt
refusal (x ∷ more) = Err (one_too_many x)

refusal-at : (n : ℕ) (parts : List Expression) (fault : BindFault) → option_map one_too_many (slice_get parts n) ≡ Some fault
    → refusal (drop n parts) ≡ Err fault
refusal-at n [] fault e = cc
refusal-at zero (x ∷ parts) fault e = cc
refusal-at (suc n) (x ∷ parts) fault e = refusal-at n parts fault e

pub few_parts-fit : (parts : List Expression) (rest : ℕ) → length parts + rest ≡ 32 → few_parts parts ≡ Ok tt
few_parts-fit parts rest e =
    let none : drop 32 parts ≡ [] = drop_all 32 parts (omega arith) in
    ap refusal none

pub few_parts-full : (parts : List Expression) (fault : BindFault) → option_map one_too_many (slice_get parts 32) ≡ Some fault → few_parts parts ≡ Err fault
few_parts-full parts fault e = refusal-at 32 parts fault e

-- the conjuncts of a condition behind those that were made
module _ (sources : List Source) (made : List ConjunctDef) where
  abbrev pub with_parts : List Expression → Result (List ConjunctDef) BindFault
  with_parts parts = conjuncts_of sources parts >>= λ more. Ok (made ++ more)

  -- one part
  pub part-given : (x : Expression) (parts : List Expression) (result : Result (List ConjunctDef) BindFault) → parts ≡ x ∷ []
      → Gives Memory (conjunct_in sources x >>= λ one. Ok (made ++ one ∷ [])) result → Gives Memory (with_parts parts) result
  part-given x parts result is h =
      subst (λ xs. Gives Memory (with_parts xs) result) (sym is) (subst (λ answer. Gives Memory answer result) (same (conjunct_in sources x)) h) where
        same : (r : Result ConjunctDef BindFault)
            → (r >>= λ one. well (made ++ one ∷ [])) ≡ ((r >>= λ one. well (one ∷ [])) >>= λ more. well (made ++ more))
        same (Ok one) = refl
        same (Err fault) = refl

-- the parts of an AND: those of the left condition, which were made, and then those of the right one
pub both-given : (sources : List Source) (old middle : List ConjunctDef) (xs ys : List Expression) (result : Result (List ConjunctDef) BindFault)
    → Gives Memory (with_parts sources old xs) (Ok middle) → Gives Memory (with_parts sources middle ys) result
    → Gives Memory (with_parts sources old (xs ++ ys)) result
both-given sources old middle xs ys result left right =
    subst (λ (answer : Result (List ConjunctDef) BindFault). Gives Memory answer result)
    (go (conjuncts_of sources xs) left ∙ ap (λ (r : Result (List ConjunctDef) BindFault). r >>= λ more. well (old ++ more)) (sym (conjuncts_of-append sources xs ys)))
    right where
      behind : (ms : List ConjunctDef) (q : Result (List ConjunctDef) BindFault) → middle ≡ old ++ ms
          → (q >>= λ more. well (middle ++ more)) ≡ ((q >>= λ ns. well (ms ++ ns)) >>= λ more. well (old ++ more))
      behind ms (Ok ns) is = ap (λ front. well (front ++ ns)) is ∙ ap (λ all. well all) (append_assoc old ms ns)
      behind ms (Err fault) is = refl

      go : (r : Result (List ConjunctDef) BindFault) → Gives Memory (r >>= λ more. well (old ++ more)) (Ok middle)
          → with_parts sources middle ys ≡ ((r >>= λ ms. conjuncts_of sources ys >>= λ ns. well (ms ++ ns)) >>= λ more. well (old ++ more))
      go (Ok ms) (inl e) = behind ms (conjuncts_of sources ys) (same_Ok middle (old ++ ms) e)
      go (Err fault) (inl e) = cc
      go r (inr e) = cc

-- the left condition was refused
pub left-refused : (sources : List Source) (old : List ConjunctDef) (xs ys : List Expression) (fault : BindFault)
    → Gives Memory (with_parts sources old xs) (Err fault) → Gives Memory (with_parts sources old (xs ++ ys)) (Err fault)
left-refused sources old xs ys fault left =
    subst (λ (r : Result (List ConjunctDef) BindFault). Gives Memory (r >>= λ more. well (old ++ more)) (Err fault)) (sym (conjuncts_of-append sources xs ys))
    (go (conjuncts_of sources xs) left) where
      go : (r : Result (List ConjunctDef) BindFault) → Gives Memory (r >>= λ more. well (old ++ more)) (Err fault)
          → Gives Memory ((r >>= λ ms. conjuncts_of sources ys >>= λ ns. well (ms ++ ns)) >>= λ more. well (old ++ more)) (Err fault)
      go (Ok ms) (inl e) = cc
      go (Err failed) (inl e) = inl e
      go r (inr e) = inr e
