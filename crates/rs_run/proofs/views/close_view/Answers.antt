use Rattle.std.proofs.Common.{List, ℕ, ◌∙◌, ap, subst, sym}
use Rattle.std.specs.Prelude.{Ok}
use Rattle.rs_value.specs.Results.{◌>>=◌}
use Rattle.rs_view.specs.Views.{Stands}
use Rattle.rs_statement.specs.Named.{named_in}
use Rattle.rs_statement.proofs.EntryFacts.{Leaves-found, each-without, named-then}
use Rattle.rs_run.specs.Parts.Holding.{AllStand, kept_of}
use Rattle.rs_run.specs.Viewing.{HeldView, close_outcome, without_view}
use Rattle.rs_run.proofs.views.close_view.Goals as goal

pub returns-clause-closes : goal.returns-clause-closes
returns-clause-closes c = λ catalogue.
    let views = c.args.held.now.views.held.entries in
    let name = c.args.name.now in
    let left = c.remove.new.self.held.entries in
    Leaves-found (close_outcome (kept_of catalogue views) name) (kept_of catalogue left) _ c.remove.result
    (named-then (λ (held : HeldView). held.0) (λ (held : HeldView). held.1) (λ (held : HeldView). tt) (Ok (without_view name.text (kept_of catalogue views))) name.text views
    ∙ ap (λ (rest : List HeldView). named_in (λ (held : HeldView). held.0) (λ (held : HeldView). tt) name.text views >>= (λ done. Ok (kept_of catalogue rest))) (sym c.remove.ensures.left))
    c.remove.ensures.gives

pub returns-clause-stand : goal.returns-clause-stand
returns-clause-stand c = λ answer catalogue all. subst (AllStand answer catalogue) (sym c.remove.ensures.left)
    (each-without (Stands answer catalogue) c.args.name.now.text c.args.held.now.views.held.entries all)
