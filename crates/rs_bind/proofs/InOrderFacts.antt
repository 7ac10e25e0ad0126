-- Rules for one item after the other, as steps that may fail.
use Rattle.std.proofs.Common.{◌≡◌, List, [], ◌∷◌, refl, subst, ap, ◌∙◌, inl, inr}
use Rattle.std.specs.Prelude.{Result, Ok, Err}
use Rattle.rs_value.specs.Results.{◌>>=◌}
use Rattle.rs_typing.specs.declared.fault.BindFault.{BindFault}
use Rattle.rs_typing.proofs.StepFacts.{Ok-steps, Err-steps}
use Rattle.rs_bind.specs.InOrder.{Each, FirstRefused, none, and, here, behind}

-- a step that may fail gives what the rules say
pub record Follows {A B : Type 0} (Is : List B → A → B → Type 0) (Refused : List B → A → BindFault → Type 0) (step : List B → A → Result B BindFault) : Type 0 where
  pub typed : (before : List B) (a : A) (b : B) → step before a ≡ Ok b → Is before a b
  pub is_typed : (before : List B) (a : A) (b : B) → Is before a b → step before a ≡ Ok b
  pub refused : (before : List B) (a : A) (fault : BindFault) → step before a ≡ Err fault → Refused before a fault
  pub is_refused : (before : List B) (a : A) (fault : BindFault) → Refused before a fault → step before a ≡ Err fault

-- the steps of all items, from left to right
abbrev pub steps : {A B : Type 0} → (List B → A → Result B BindFault) → List B → List A → Result (List B) BindFault
steps step before [] = Ok []
steps step before (a ∷ items) = step before a >>= λ b. steps step (b ∷ before) items >>= λ more. Ok (b ∷ more)

module _ {A B : Type 0} (Is : List B → A → B → Type 0) (Refused : List B → A → BindFault → Type 0) (step : List B → A → Result B BindFault)
    (follows : Follows Is Refused step) where
  pub Each-steps : (before : List B) (items : List A) (made : List B) → steps step before items ≡ Ok made → Each Is before items made
  Each-steps before [] made h = let same : [] ≡ made = cc in subst (Each Is before []) same (none before)
  Each-steps before (a ∷ items) made h =
      let first = Ok-steps (step before a) (λ b. steps step (b ∷ before) items >>= λ more. Ok (b ∷ more)) made h in
      let rest = Ok-steps (steps step (first.0 ∷ before) items) (λ more. Ok (first.0 ∷ more)) made first.2 in
      let same : first.0 ∷ rest.0 ≡ made = cc in
      subst (Each Is before (a ∷ items)) same
      (and before a items first.0 rest.0 (follows.typed before a first.0 first.1) (Each-steps (first.0 ∷ before) items rest.0 rest.1))

  pub steps-Each : {before : List B} {items : List A} {made : List B} → Each Is before items made → steps step before items ≡ Ok made
  steps-Each (none before) = refl
  steps-Each (and before a items b more is each) =
      ap (λ r. r >>= λ c. steps step (c ∷ before) items >>= λ others. Ok (c ∷ others)) (follows.is_typed before a b is)
      ∙ ap (λ r. r >>= λ others. Ok (b ∷ others)) (steps-Each each)

  pub FirstRefused-steps : (before : List B) (items : List A) (fault : BindFault) → steps step before items ≡ Err fault
      → FirstRefused Is Refused before items fault
  FirstRefused-steps before [] fault h = cc
  FirstRefused-steps before (a ∷ items) fault h =
      elim (Err-steps (step before a) (λ b. steps step (b ∷ before) items >>= λ more. Ok (b ∷ more)) fault h) [
        | inl refuses ↦ here before a items fault (follows.refused before a fault refuses)
        | inr first ↦ elim (Err-steps (steps step (first.0 ∷ before) items) (λ more. Ok (first.0 ∷ more)) fault first.2) [
          | inl refuses ↦ behind before a items first.0 fault (follows.typed before a first.0 first.1)
              (FirstRefused-steps (first.0 ∷ before) items fault refuses)
          | inr rest ↦ cc
        ]
      ]

  pub steps-FirstRefused : {before : List B} {items : List A} {fault : BindFault} → FirstRefused Is Refused before items fault
      → steps step before items ≡ Err fault
  steps-FirstRefused (here before a items fault refused) =
      ap (λ r. r >>= λ c. steps step (c ∷ before) items >>= λ others. Ok (c ∷ others)) (follows.is_refused before a fault refused)
  steps-FirstRefused (behind before a items b fault is first) =
      ap (λ r. r >>= λ c. steps step (c ∷ before) items >>= λ others. Ok (c ∷ others)) (follows.is_typed before a b is)
      ∙ ap (λ r. r >>= λ others. Ok (b ∷ others)) (steps-FirstRefused first)
