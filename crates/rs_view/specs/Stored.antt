-- How the logic stores a view: as the tuple of its fields.
use Rattle.std.specs.Prelude.{ℕ, List, refl}
use Rattle.std.specs.Coded.{Coded, code_by, coded×, coded_list, coded_ℕ}
use Rattle.rs_rank.specs.contracts.row.RankRow as row
use Rattle.rs_rank.specs.declared.row.RankRow.{RankRow}
use Rattle.rs_query.specs.contracts.query.Query as query
use Rattle.rs_query.specs.declared.query.Query.{Query}
use Rattle.rs_view.specs.Views.{ViewDef}

abbrev pub view_code : Coded ViewDef
view_code =
    code_by (Query × (List ℕ × List RankRow)) (coded× query.the_row.coded (coded× (coded_list coded_ℕ) (coded_list row.the_row.coded)))
    (λ v. (v.query, (v.lengths, v.rows))) (λ t. record { query = t.0; lengths = t.1.0; rows = t.1.1 }) (λ _. refl)
