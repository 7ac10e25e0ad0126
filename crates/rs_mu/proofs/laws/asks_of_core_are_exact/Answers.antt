-- What the operator does next tells its asks, and no two of the three can be so at once.
use Rattle.std.proofs.Common.{◌≡◌, suc, refl, subst, arith}
use Rattle.rs_rank.specs.declared.ask.Ask.TheVariants.{Need, Ready, End}
use Rattle.rs_mu.specs.Mu.{ask_of}
use Rattle.rs_mu.proofs.StandFacts.{Tells, asks-most, stands-tells}
use Rattle.rs_mu.proofs.laws.asks_of_core_are_exact.Goals as goal

pub returns-clause-need : goal.returns-clause-need
returns-clause-need c = λ e rows asks count mu s.
    let most = asks-most e rows s.input (suc count) in (
      λ need. subst (Tells e rows asks count) need (stands-tells e rows asks count mu s),
      λ less. (elim (ask_of mu) as (λ ask. Tells e rows asks count ask → ask ≡ Need) [
        | Need ↦ λ tells. refl
        | Ready ↦ λ tells. let exact = tells.0 in absurd (omega arith)
        | End ↦ λ tells. let all = tells.0 in absurd (omega arith)
      ]) (stands-tells e rows asks count mu s),
    )

pub returns-clause-ready : goal.returns-clause-ready
returns-clause-ready c = λ e rows asks count mu s. (
  λ ready. subst (Tells e rows asks count) ready (stands-tells e rows asks count mu s),
  λ both. (elim (ask_of mu) as (λ ask. Tells e rows asks count ask → ask ≡ Ready) [
    | Need ↦ λ tells. let exact = both.0 in absurd (omega arith)
    | Ready ↦ λ tells. refl
    | End ↦ λ tells. let all = tells.1 in let less = both.1 in absurd (omega arith)
  ]) (stands-tells e rows asks count mu s),
)

pub returns-clause-end : goal.returns-clause-end
returns-clause-end c = λ e rows asks count mu s.
    let most = asks-most e rows s.input (suc count) in (
      λ end. subst (Tells e rows asks count) end (stands-tells e rows asks count mu s),
      λ both. (elim (ask_of mu) as (λ ask. Tells e rows asks count ask → ask ≡ End) [
        | Need ↦ λ tells. let all = both.0 in absurd (omega arith)
        | Ready ↦ λ tells. let less = tells.1 in let all = both.1 in absurd (omega arith)
        | End ↦ λ tells. refl
      ]) (stands-tells e rows asks count mu s),
    )
