-- The line of one more row stands behind those so far.
use Rattle.std.proofs.Common.{◌+◌, ◌++◌, List, ℕ, ap, ◌∙◌}
use Rattle.std.specs.Prelude.{codes}
use Rattle.rs_gen.specs.Tables.{museum_line}
use Rattle.rs_gen.proofs.TableFacts.{table-more}
use Rattle.rs_gen.proofs.tables.museum_table.Goals as goal

pub loop-place-preserved : goal.loop-place-preserved
loop-place-preserved c =
    let line_of = museum_line c.args.number c.city_count-cities.result in
    c.in_ok-put_museum.ensures ∙ ap (λ (bytes : List ℕ). bytes ++ line_of (c.loop-place.place + 1)) c.loop-place.invariant
    ∙ table-more (codes "name,city,fame\n") line_of c.loop-place.place
