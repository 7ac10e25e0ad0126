-- Rows that match have equal join values: a conjunct that equates a column of each side holds of both together.
use Rattle.std.proofs.Common.{◌≡◌, ◌∙◌, ℕ, ◌≤◌, ◌&&◌, Bool, true, false, cond, eqb, List, [], ◌∷◌, ◌++◌, map, Option, Some, None, refl, sym, ap, ap₂, subst}
use Rattle.std.specs.Prelude.{slice_get}
use Rattle.std.specs.Cmp.Lexicographic.{slice_cmp}
use Rattle.std.specs.List.{AllByRecursion, flat_map, list_all}
use Rattle.std.specs.Ordering.{int_cmp, nat_cmp}
use Rattle.std.proofs.lemmas.Map.Lookups.{exact_bytes, exact_signed}
use Rattle.rs_order.proofs.EachFacts.{each-slice_get}
use Rattle.rs_value.specs.declared.rel.Rel.TheVariants.{Eq}
use Rattle.rs_value.specs.declared.value.Value.{Value}
use Rattle.rs_value.specs.declared.value.Value.TheVariants as value
use Rattle.rs_rank.specs.declared.row.RankRow.{RankRow}
use Rattle.rs_rank.specs.Ids.{merge_rows}
use Rattle.rs_rank.specs.Masks.{AreDisjoint, has_number}
use Rattle.rs_expr.specs.Formulas.{Argument, Condition, Numbers, Texts}
use Rattle.rs_expr.specs.Meaning.{argument_number, argument_text, holds}
use Rattle.rs_expr.specs.declared.expr.TextSide.TheVariants as side
use Rattle.rs_catalog.specs.Catalog.{CatalogDef}
use Rattle.rs_query.specs.declared.block.Block.{Block}
use Rattle.rs_query.specs.Choices.{IsChoice}
use Rattle.rs_query.specs.Conjuncts.{ConjunctDef}
use Rattle.rs_query.specs.Meaning.{column_value, conjunct_holds}
use Rattle.rs_query.specs.Tables.{sizes_of}
use Rattle.rs_query.specs.WellFormed.{IsBlock, IsColumn, IsConjunct, equated}
use Rattle.rs_query.proofs.EquatedFacts.{conjunct-equated, equal-order, value-at}
use Rattle.rs_query.proofs.LocalFacts.{column_value-local}
use Rattle.rs_filter.specs.JoinValues.{compared, equated_across, in_sides, left_values, right_values}
use Rattle.rs_filter.specs.Matching.{holds_across, is_across, is_choice, is_side, joins, satisfies_across}
use Rattle.rs_filter.proofs.SideFacts.{AgreeOn-left, AgreeOn-right, IsChoice-test, and-first, and-second}

-- where `column = column` holds, both values are equal as far as the comparison looks at them
compared-same : (condition : Condition) (values : List Value) (i j : ℕ) (u v : Value) → equated condition ≡ Some (i, j) → holds condition values ≡ true
    → slice_get values i ≡ Some u → slice_get values j ≡ Some v → compared condition u ≡ compared condition v
compared-same (Numbers Eq (Argument k) (Argument l)) values i j u v is truth at_u at_v =
    let pair : (k, l) ≡ (i, j) = cc in
    let first : k ≡ i = ap (λ (p : ℕ × ℕ). p.0) pair in
    let second : l ≡ j = ap (λ (p : ℕ × ℕ). p.1) pair in
    ap value.Int
    (ap argument_number (sym (ap (slice_get values) first ∙ at_u))
    ∙ exact_signed (argument_number (slice_get values k)) (argument_number (slice_get values l))
    (equal-order (int_cmp (argument_number (slice_get values k)) (argument_number (slice_get values l))) truth)
    ∙ ap argument_number (ap (slice_get values) second ∙ at_v))
compared-same (Texts Eq (side.Arg k) (side.Arg l)) values i j u v is truth at_u at_v =
    let pair : (k, l) ≡ (i, j) = cc in
    let first : k ≡ i = ap (λ (p : ℕ × ℕ). p.0) pair in
    let second : l ≡ j = ap (λ (p : ℕ × ℕ). p.1) pair in
    ap value.Text
    (ap argument_text (sym (ap (slice_get values) first ∙ at_u))
    ∙ exact_bytes (argument_text (slice_get values k)) (argument_text (slice_get values l))
    (equal-order (slice_cmp nat_cmp (argument_text (slice_get values k)) (argument_text (slice_get values l))) truth)
    ∙ ap argument_text (ap (slice_get values) second ∙ at_v))
compared-same condition values i j u v is truth at_u at_v = absurd (cc)

module _ (catalogue : CatalogDef) (block : Block) (left right : ℕ) (lefts rights : List ℕ) (apart : AreDisjoint left right)
    (l : IsChoice left (sizes_of catalogue block) lefts) (r : IsChoice right (sizes_of catalogue block) rights) where
  abbrev pub merged : List ℕ
  merged = merge_rows lefts rights

  abbrev on_left : ConjunctDef → List Value
  on_left c = map (λ (pair : (ℕ × ℕ) × (ℕ × ℕ)). compared c.condition (column_value catalogue block lefts pair.0)) (equated_across left right c)

  abbrev on_right : ConjunctDef → List Value
  on_right c = map (λ (pair : (ℕ × ℕ) × (ℕ × ℕ)). compared c.condition (column_value catalogue block rights pair.1)) (equated_across left right c)

  -- a column has its side's value in both together
  pub of-left : (column : ℕ × ℕ) → 1 ≤ column.0 → has_number left column.0 ≡ true → column_value catalogue block merged column ≡ column_value catalogue block lefts column
  of-left column some has =
      column_value-local catalogue block left merged lefts (AgreeOn-left left right (sizes_of catalogue block) lefts rights l r) column some has

  pub of-right : (column : ℕ × ℕ) → 1 ≤ column.0 → has_number right column.0 ≡ true → column_value catalogue block merged column ≡ column_value catalogue block rights column
  of-right column some has =
      column_value-local catalogue block right merged rights (AgreeOn-right left right (sizes_of catalogue block) lefts rights apart l r) column some has

  one-conjunct : (c : ConjunctDef) → IsConjunct catalogue block c → holds_across catalogue block left right (merge_rows lefts rights) c ≡ true
      → map (λ (pair : (ℕ × ℕ) × (ℕ × ℕ)). compared c.condition (column_value catalogue block lefts pair.0)) (equated_across left right c)
      ≡ map (λ (pair : (ℕ × ℕ) × (ℕ × ℕ)). compared c.condition (column_value catalogue block rights pair.1)) (equated_across left right c)
  one-conjunct c is truth = go (is_across left right c) refl c.equality refl where
    go : (b : Bool) → is_across left right c ≡ b → (o : Option ((ℕ × ℕ) × (ℕ × ℕ))) → c.equality ≡ o
        → map (λ (pair : (ℕ × ℕ) × (ℕ × ℕ)). compared c.condition (column_value catalogue block lefts pair.0)) (equated_across left right c)
        ≡ map (λ (pair : (ℕ × ℕ) × (ℕ × ℕ)). compared c.condition (column_value catalogue block rights pair.1)) (equated_across left right c)
    go false e o f =
        subst (λ b. map (λ (pair : (ℕ × ℕ) × (ℕ × ℕ)). compared c.condition (column_value catalogue block lefts pair.0)) (cond b (in_sides left right c.equality) [])
        ≡ map (λ (pair : (ℕ × ℕ) × (ℕ × ℕ)). compared c.condition (column_value catalogue block rights pair.1)) (cond b (in_sides left right c.equality) [])) (sym e) refl
    go true e None f =
        subst (λ b. map (λ (pair : (ℕ × ℕ) × (ℕ × ℕ)). compared c.condition (column_value catalogue block lefts pair.0)) (cond b (in_sides left right c.equality) [])
        ≡ map (λ (pair : (ℕ × ℕ) × (ℕ × ℕ)). compared c.condition (column_value catalogue block rights pair.1)) (cond b (in_sides left right c.equality) [])) (sym e)
        (subst (λ (o : Option ((ℕ × ℕ) × (ℕ × ℕ))). map (λ (pair : (ℕ × ℕ) × (ℕ × ℕ)). compared c.condition (column_value catalogue block lefts pair.0)) (in_sides left right o)
        ≡ map (λ (pair : (ℕ × ℕ) × (ℕ × ℕ)). compared c.condition (column_value catalogue block rights pair.1)) (in_sides left right o)) (sym f) refl)
    go true e (Some pair) f =
        let held : conjunct_holds catalogue block merged c ≡ true = subst (λ b. cond b (conjunct_holds catalogue block merged c) true ≡ true) e truth in
        let at = conjunct-equated catalogue block c is pair.0 pair.1 f in
        let same : compared c.condition (column_value catalogue block merged pair.0) ≡ compared c.condition (column_value catalogue block merged pair.1) =
        compared-same c.condition (map (column_value catalogue block merged) c.columns) at.left at.right
        (column_value catalogue block merged pair.0) (column_value catalogue block merged pair.1) at.is_equated held (value-at catalogue block merged c.columns at.left pair.0 at.left_there)
        (value-at catalogue block merged c.columns at.right pair.1 at.right_there) in
        let some_first = (each-slice_get (IsColumn catalogue block) c.columns at.left pair.0 is.columns at.left_there).0 in
        let some_second = (each-slice_get (IsColumn catalogue block) c.columns at.right pair.1 is.columns at.right_there).0 in
        subst (λ b. map (λ (pair : (ℕ × ℕ) × (ℕ × ℕ)). compared c.condition (column_value catalogue block lefts pair.0)) (cond b (in_sides left right c.equality) [])
        ≡ map (λ (pair : (ℕ × ℕ) × (ℕ × ℕ)). compared c.condition (column_value catalogue block rights pair.1)) (cond b (in_sides left right c.equality) [])) (sym e)
        (subst (λ (o : Option ((ℕ × ℕ) × (ℕ × ℕ))). map (λ (pair : (ℕ × ℕ) × (ℕ × ℕ)). compared c.condition (column_value catalogue block lefts pair.0)) (in_sides left right o)
        ≡ map (λ (pair : (ℕ × ℕ) × (ℕ × ℕ)). compared c.condition (column_value catalogue block rights pair.1)) (in_sides left right o)) (sym f)
        (sides pair same some_first some_second (has_number left pair.0.0) (has_number right pair.1.0) (has_number right pair.0.0) (has_number left pair.1.0) refl refl refl refl))
      where
        sides : (pair : (ℕ × ℕ) × (ℕ × ℕ)) → compared c.condition (column_value catalogue block merged pair.0) ≡ compared c.condition (column_value catalogue block merged pair.1)
            → 1 ≤ pair.0.0 → 1 ≤ pair.1.0
            → (x y u v : Bool) → has_number left pair.0.0 ≡ x → has_number right pair.1.0 ≡ y → has_number right pair.0.0 ≡ u → has_number left pair.1.0 ≡ v
            → map (λ (pair : (ℕ × ℕ) × (ℕ × ℕ)). compared c.condition (column_value catalogue block lefts pair.0))
            (cond (x && y) (pair ∷ []) (cond (u && v) ((pair.1, pair.0) ∷ []) []))
            ≡ map (λ (pair : (ℕ × ℕ) × (ℕ × ℕ)). compared c.condition (column_value catalogue block rights pair.1))
            (cond (x && y) (pair ∷ []) (cond (u && v) ((pair.1, pair.0) ∷ []) []))
        sides pair same a b true true u v p q s t =
            ap (λ (z : Value). z ∷ [])
            (ap (compared c.condition) (sym (of-left pair.0 a p)) ∙ same ∙ ap (compared c.condition) (of-right pair.1 b q))
        sides pair same a b true false true true p q s t =
            ap (λ (z : Value). z ∷ [])
            (ap (compared c.condition) (sym (of-left pair.1 b t)) ∙ sym same ∙ ap (compared c.condition) (of-right pair.0 a s))
        sides pair same a b false y true true p q s t =
            ap (λ (z : Value). z ∷ [])
            (ap (compared c.condition) (sym (of-left pair.1 b t)) ∙ sym same ∙ ap (compared c.condition) (of-right pair.0 a s))
        sides pair same a b true false true false p q s t = refl
        sides pair same a b true false false v p q s t = refl
        sides pair same a b false y true false p q s t = refl
        sides pair same a b false y false v p q s t = refl

  all-conjuncts : (conjuncts : List ConjunctDef) → AllByRecursion (IsConjunct catalogue block) conjuncts
      → list_all (holds_across catalogue block left right (merge_rows lefts rights)) conjuncts ≡ true → flat_map on_left conjuncts ≡ flat_map on_right conjuncts
  all-conjuncts [] is truth = refl
  all-conjuncts (c ∷ rest) is truth =
      ap₂ (λ (here others : List Value). here ++ others)
      (one-conjunct c is.0 (and-first (holds_across catalogue block left right merged c) (list_all (holds_across catalogue block left right merged) rest) truth))
      (all-conjuncts rest is.1 (and-second (holds_across catalogue block left right merged c) (list_all (holds_across catalogue block left right merged) rest) truth))

-- rows that match have equal join values
pub equal-values : (catalogue : CatalogDef) (block : Block) (left right : ℕ) (l r : RankRow) → IsBlock catalogue block → AreDisjoint left right
    → joins catalogue block left right l r ≡ true → left_values catalogue block left right l.ids.rows ≡ right_values catalogue block left right r.ids.rows
equal-values catalogue block left right l r is apart match =
    let first = and-first (is_side catalogue block left l) (is_side catalogue block right r && satisfies_across catalogue block left right (merge_rows l.ids.rows r.ids.rows)) match in
    let behind = and-second (is_side catalogue block left l) (is_side catalogue block right r && satisfies_across catalogue block left right (merge_rows l.ids.rows r.ids.rows)) match in
    let second = and-first (is_side catalogue block right r) (satisfies_across catalogue block left right (merge_rows l.ids.rows r.ids.rows)) behind in
    let truth = and-second (is_side catalogue block right r) (satisfies_across catalogue block left right (merge_rows l.ids.rows r.ids.rows)) behind in
    all-conjuncts catalogue block left right l.ids.rows r.ids.rows apart
    (IsChoice-test left (sizes_of catalogue block) l.ids.rows (and-second (eqb l.ids.mask left) (is_choice left (sizes_of catalogue block) l.ids.rows) first))
    (IsChoice-test right (sizes_of catalogue block) r.ids.rows (and-second (eqb r.ids.mask right) (is_choice right (sizes_of catalogue block) r.ids.rows) second))
    block.conjuncts is.conjuncts truth
