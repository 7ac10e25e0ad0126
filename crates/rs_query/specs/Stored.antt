-- How the logic stores a conjunct: as the tuple of its fields.
use Rattle.std.specs.Prelude.{ℕ, List, Option, refl}
use Rattle.std.specs.Coded.{Coded, code_by, coded×, coded_ℕ, coded_list, coded_option}
use Rattle.rs_expr.specs.Formulas.{Condition}
use Rattle.rs_expr.specs.Stored.{condition_inj, condition_tree}
use Rattle.rs_query.specs.Conjuncts.{ConjunctDef}

abbrev condition_code : Coded Condition
condition_code = record { code = condition_tree; inj = condition_inj }

abbrev column_code : Coded (ℕ × ℕ)
column_code = coded× coded_ℕ coded_ℕ

abbrev pub conjunct_code : Coded ConjunctDef
conjunct_code =
    code_by (Condition × (List (ℕ × ℕ) × (ℕ × Option ((ℕ × ℕ) × (ℕ × ℕ)))))
    (coded× condition_code (coded× (coded_list column_code) (coded× coded_ℕ (coded_option (coded× column_code column_code)))))
    (λ c. (c.condition, (c.columns, (c.entries, c.equality))))
    (λ t. record { condition = t.0; columns = t.1.0; entries = t.1.1.0; equality = t.1.1.1 }) (λ _. refl)
