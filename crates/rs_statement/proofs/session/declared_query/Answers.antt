use Rattle.std.proofs.Common.{ℕ, List, ◌≡◌, ◌∙◌, ap, inl, inr, subst, sym}
use Rattle.std.specs.Prelude.{Err, Ok, Result}
use Rattle.rs_value.proofs.ResultFacts.{given-err}
use Rattle.rs_value.specs.Answer.{Gives}
use Rattle.rs_value.specs.Results.{◌>>=◌}
use Rattle.rs_syntax.specs.Syntax as syntax
use Rattle.rs_syntax.specs.Syntax.{query_of}
use Rattle.rs_syntax.specs.declared.name.Name.{Name}
use Rattle.rs_typing.specs.declared.fault.BindFault.TheVariants as bind
use Rattle.rs_bind.specs.Queries.{bound_query}
use Rattle.rs_query.specs.declared.query.Query.{Query}
use Rattle.rs_statement.specs.declared.fault.Fault.{Fault}
use Rattle.rs_statement.specs.declared.fault.Fault.TheVariants.{Memory}
use Rattle.rs_statement.specs.Parts.Session.{state_of}
use Rattle.rs_statement.specs.Session.{State, declared_query, room_for_cursor}
use Rattle.rs_statement.specs.Statements.{or_bind_fault}
use Rattle.rs_statement.proofs.SessionFacts.{room-cursors}
use Rattle.rs_statement.proofs.session.declared_query.Goals as goal

-- the query was bound, so whether a cursor of the name can be opened decides
declared-by : (state : State) (name : Name) (query : syntax.Query) (bound : Query) → Gives bind.Memory (bound_query state.catalogue query) (Ok bound)
    → declared_query state name query ≡ (room_for_cursor name.text state.cursors >>= (λ room. Ok bound))
declared-by state name query bound (inl e) = ap (λ r. or_bind_fault r >>= (λ b. room_for_cursor name.text state.cursors >>= (λ room. Ok b))) (sym e)
declared-by state name query bound (inr e) = absurd cc

opens : (room : Result (Unit {0}) Fault) (bound : Query) → Gives Memory room (Ok tt) → Gives Memory (room >>= (λ done. Ok bound)) (Ok bound)
opens room bound (inl e) = inl (ap (λ r. r >>= (λ done. Ok bound)) e)
opens room bound (inr e) = absurd cc

refuses : (room : Result (Unit {0}) Fault) (bound : Query) (fault : Fault) → Gives Memory room (Err fault) → Gives Memory (room >>= (λ done. Ok bound)) (Err fault)
refuses room bound fault (inl e) = inl (ap (λ r. r >>= (λ done. Ok bound)) e)
refuses room bound fault (inr e) = inr cc

pub returns-clause-gives : goal.returns-clause-gives
returns-clause-gives c =
    let entries = c.args.session.now.cursors.held.entries in
    let name = c.args.name.now in
    let bound = c.in_ok-query.query in
    subst (λ (given : Result Query Fault). Gives Memory given (Ok bound))
    (sym (declared-by (state_of c.args.catalog.now entries) name (query_of c.args.select.now) bound c.in_ok-query.ensures.gives
    ∙ ap (λ (room : Result (Unit {0}) Fault). room >>= (λ done. Ok bound)) (room-cursors name.text entries)))
    (opens _ bound c.in_ok-room.ensures.gives)

pub returns-in_err-room-clause-gives : goal.returns-in_err-room-clause-gives
returns-in_err-room-clause-gives c =
    let entries = c.args.session.now.cursors.held.entries in
    let name = c.args.name.now in
    let bound = c.in_ok-query.query in
    let fault = c.in_err-room.field-0.0 in
    rw (given-err c.from_residual-in_err-room.result fault c.from_residual-in_err-room.ensures)
    (subst (λ (given : Result Query Fault). Gives Memory given (Err fault))
    (sym (declared-by (state_of c.args.catalog.now entries) name (query_of c.args.select.now) bound c.in_ok-query.ensures.gives
    ∙ ap (λ (room : Result (Unit {0}) Fault). room >>= (λ done. Ok bound)) (room-cursors name.text entries)))
    (refuses _ bound fault c.in_err-room.ensures.gives))
