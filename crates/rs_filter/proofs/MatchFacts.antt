-- What the tests of a match say, one after another.
use Rattle.std.proofs.Common.{◌≡◌, ℕ, ◌&&◌, Bool, true, false, eqb, refl, sym, ◌∙◌, ap, arith}
use Rattle.std.proofs.lemmas.Bool.{eq-eqb}
use Rattle.std.proofs.lemmas.Bool.Decides.{nat_tests}
use Rattle.rs_rank.specs.declared.row.RankRow.{RankRow}
use Rattle.rs_rank.specs.Ids.{merge_rows}
use Rattle.rs_catalog.specs.Catalog.{CatalogDef}
use Rattle.rs_query.specs.declared.block.Block.{Block}
use Rattle.rs_query.specs.Tables.{sizes_of}
use Rattle.rs_filter.specs.Matching.{is_choice, is_side, joins, satisfies_across}

no-second : (a : Bool) → (a && false) ≡ false
no-second true = refl
no-second false = refl

no-choice : (a b : Bool) → ((a && false) && b) ≡ false
no-choice true b = refl
no-choice false b = refl

module _ (catalogue : CatalogDef) (block : Block) (left right : ℕ) (l r : RankRow) where
  -- a row that isn't one of its side matches none
  pub no-left-mask : (l.ids.mask ≡ left → ⊥) → false ≡ joins catalogue block left right l r
  no-left-mask other =
      let none : eqb l.ids.mask left ≡ false = grind (arith, nat_tests) in
      sym (ap (λ b. (b && is_choice left (sizes_of catalogue block) l.ids.rows)
      && (is_side catalogue block right r && satisfies_across catalogue block left right (merge_rows l.ids.rows r.ids.rows))) none)

  pub no-left-choice : is_choice left (sizes_of catalogue block) l.ids.rows ≡ false → false ≡ joins catalogue block left right l r
  no-left-choice none =
      let others = is_side catalogue block right r && satisfies_across catalogue block left right (merge_rows l.ids.rows r.ids.rows) in
      sym (ap (λ b. (eqb l.ids.mask left && b) && others) none ∙ no-choice (eqb l.ids.mask left) others)

  pub no-right-mask : (r.ids.mask ≡ right → ⊥) → false ≡ joins catalogue block left right l r
  no-right-mask other =
      let none : eqb r.ids.mask right ≡ false = grind (arith, nat_tests) in
      sym (ap (λ b. is_side catalogue block left l && ((b && is_choice right (sizes_of catalogue block) r.ids.rows)
      && satisfies_across catalogue block left right (merge_rows l.ids.rows r.ids.rows))) none ∙ no-second (is_side catalogue block left l))

  pub no-right-choice : is_choice right (sizes_of catalogue block) r.ids.rows ≡ false → false ≡ joins catalogue block left right l r
  no-right-choice none =
      let others = satisfies_across catalogue block left right (merge_rows l.ids.rows r.ids.rows) in
      sym (ap (λ b. is_side catalogue block left l && ((eqb r.ids.mask right && b) && others)) none
      ∙ ap (λ b. is_side catalogue block left l && b) (no-choice (eqb r.ids.mask right) others) ∙ no-second (is_side catalogue block left l))

  -- of two rows that are, the conjuncts decide
  pub both-sides : l.ids.mask ≡ left → is_choice left (sizes_of catalogue block) l.ids.rows ≡ true
      → r.ids.mask ≡ right → is_choice right (sizes_of catalogue block) r.ids.rows ≡ true
      → joins catalogue block left right l r ≡ satisfies_across catalogue block left right (merge_rows l.ids.rows r.ids.rows)
  both-sides left_mask left_choice right_mask right_choice =
      let left_same : eqb l.ids.mask left ≡ true = eq-eqb l.ids.mask left left_mask in
      let right_same : eqb r.ids.mask right ≡ true = eq-eqb r.ids.mask right right_mask in
      λ at. (left_same at && left_choice at)
      && ((right_same at && right_choice at) && satisfies_across catalogue block left right (merge_rows l.ids.rows r.ids.rows))
