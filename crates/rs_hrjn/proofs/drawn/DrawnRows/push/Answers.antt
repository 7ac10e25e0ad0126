-- The map has the new row's place too.
use Rattle.std.proofs.Common.{◌≡◌, ◌++◌, ◌∷◌, [], ℕ, List, length, true, Result, Ok, Err, sym, ◌∙◌, ap, ap₂, subst, arith}
use Rattle.std.specs.Result.{OnOk, is_ok}
use Rattle.rs_rank.specs.declared.row.RankRow.{RankRow}
use Rattle.rs_value.specs.declared.value.Value.{Value}
use Rattle.rs_hrjn.specs.Drawn.{DrawnRow}
use Rattle.rs_hrjn.specs.Index.{IsIndex, drawn_rows, index_of, with_place}
use Rattle.rs_hrjn.proofs.IndexFacts.{IsIndex-more, drawn_rows-more}
use Rattle.rs_hrjn.proofs.drawn.DrawnRows.push.Goals as goal

on_ok : {A E P : Type 0} (r : Result A E) → is_ok r ≡ true → OnOk r P → P
on_ok (Ok a) e p = p
on_ok (Err f) e p = absurd (cc)

-- the map with the new place
added : (c : goal.Else-is_err) → index_of c.add_place.new.places ≡ with_place c.args.values.items (length c.self.inside.rows.items) (index_of c.self.inside.places)
added c =
    let place : c.len-place.result ≡ length c.self.inside.rows.items = omega (arith, c.self.inside.rows.ok.0) in
    on_ok c.add_place.result c.if-is_err.ensures.negation c.add_place.ensures.ok
    ∙ ap (λ n. with_place c.args.values.items n (index_of c.self.inside.places)) place

pub invariant_of-self-else-is_err : goal.invariant_of-self-else-is_err
invariant_of-self-else-is_err c =
    subst (IsIndex (index_of c.add_place.new.places)) (sym c.in_ok-push.ensures.items)
    (subst (λ index. IsIndex index (c.self.inside.rows.items ++ c.args.row ∷ [])) (sym (added c))
    (IsIndex-more (index_of c.self.inside.places) c.self.inside.rows.items c.args.row c.args.values.items c.self.invariant))

pub returns-clause-ok : goal.returns-clause-ok
returns-clause-ok c =
    ap₂ (λ (index : List (List Value × List ℕ)) (rows : List RankRow). drawn_rows index 0 rows) (added c) c.in_ok-push.ensures.items
    ∙ drawn_rows-more (index_of c.self.inside.places) c.self.inside.rows.items c.args.row c.args.values.items c.self.invariant
    ∙ ap (λ (front : List DrawnRow). front ++ record { row = c.args.row; values = c.args.values.items } ∷ []) c.self.view_is
