-- Commands have one run at most, where each does one thing at most; and a name has one file at most where files stay as they are.
use Rattle.std.proofs.Common.{ℕ, ◌≡◌, ◌∙◌, List, [], ◌∷◌, sym, ap, subst}
use Rattle.std.specs.Prelude.{Option, Result, Ok, Err}
use Rattle.rs_outside.specs.Files.{Finds, found_in}
use Rattle.rs_events.specs.Events.{Event}
use Rattle.rs_events.specs.Run.{Run, behind}
use Rattle.rs_events.specs.Sequence.{RunOf, RunsOn, Step}

RunsOn-one : {F S : Type 0} (rest : S → Run F → Type 0) → ((next : S) (a b : Run F) → rest next a → rest next b → a ≡ b) → (events : List Event) (outcome : Result S F) (a b : Run F)
    → RunsOn rest events outcome a → RunsOn rest events outcome b → a ≡ b
RunsOn-one rest one events (Err fault) a b p q = p ∙ sym q
RunsOn-one rest one events (Ok next) a b p q = p.2 ∙ ap (behind events) (one next p.0 q.0 p.1 q.1) ∙ sym q.2

pub RunOf-one : {F S C : Type 0} (does : S → C → Step F S → Type 0) → ((state : S) (command : C) (a b : Step F S) → does state command a → does state command b → a ≡ b)
    → (state : S) (commands : List C) (a b : Run F) → RunOf does state commands a → RunOf does state commands b → a ≡ b
RunOf-one does one state [] a b p q = p ∙ sym q
RunOf-one does one state (command ∷ rest) a b p q =
    RunsOn-one (λ next more. RunOf does next rest more) (λ next. RunOf-one does one next rest) q.0.events q.0.outcome a b
    (subst (λ step. RunsOn (λ next more. RunOf does next rest more) step.events step.outcome a) (one state command p.0 q.0 p.1 q.1) p.2) q.2

-- a name has one file at most
abbrev pub OneFile : Finds → Type 0
OneFile finds = (name : List ℕ) (a b : Option (List ℕ)) → finds name a → finds name b → a ≡ b

-- files that stay as they are have one under a name at most
pub found-one : (there : List ℕ → Option (List ℕ)) → OneFile (found_in there)
found-one there name a b p q = sym p ∙ q
