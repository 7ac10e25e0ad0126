-- How the logic stores what matches rows: as the tuple of its fields.
use Rattle.std.specs.Prelude.{ℕ, refl}
use Rattle.std.specs.Coded.{Coded, code_by, coded×, coded_ℕ}
use Rattle.rs_catalog.specs.Catalog.{CatalogDef}
use Rattle.rs_catalog.specs.Stored.{catalogue_code}
use Rattle.rs_query.specs.contracts.block.Block as block
use Rattle.rs_query.specs.declared.block.Block.{Block}
use Rattle.rs_filter.specs.Matching.{Matching}

abbrev pub matching_code : Coded Matching
matching_code =
    code_by (CatalogDef × (Block × (ℕ × (ℕ × ℕ)))) (coded× catalogue_code (coded× block.the_row.coded (coded× coded_ℕ (coded× coded_ℕ coded_ℕ))))
    (λ m. (m.catalogue, (m.block, (m.left, (m.right, m.calls)))))
    (λ t. record { catalogue = t.0; block = t.1.0; left = t.1.1.0; right = t.1.1.1.0; calls = t.1.1.1.1 }) (λ _. refl)
