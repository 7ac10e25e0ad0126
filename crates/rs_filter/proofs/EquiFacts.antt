-- Rows with equal join values match, where each conjunct that speaks of both sides equates a column of the one with a column of the other.
use Rattle.std.proofs.Common.{◌≡◌, ◌∙◌, ℕ, ◌≤◌, ◌&&◌, ◌||◌, inl, inr, Bool, true, false, not, cond, eqb, List, [], ◌∷◌, ◌++◌, length, map, Some, refl, sym, ap, ap₂, arith}
use Rattle.std.specs.Cmp.{int_cmp_total, tied_itself}
use Rattle.std.specs.Cmp.Lexicographic.{nat_list_cmp_total, slice_cmp}
use Rattle.std.specs.List.{AllByRecursion, flat_map, list_all}
use Rattle.std.specs.Ordering.{int_cmp, nat_cmp}
use Rattle.std.specs.Prelude.{slice_get}
use Rattle.std.proofs.lemmas.Bool.{eqb-true, true≢false}
use Rattle.rs_value.specs.Rel.{rel_holds}
use Rattle.rs_value.specs.declared.rel.Rel.TheVariants.{Eq}
use Rattle.rs_value.specs.declared.value.Value.{Value}
use Rattle.rs_rank.specs.declared.row.RankRow.{RankRow}
use Rattle.rs_rank.specs.Ids.{merge_rows}
use Rattle.rs_rank.specs.Masks.{AreDisjoint, has_number}
use Rattle.rs_expr.specs.Formulas.{Argument, Condition, Numbers, Texts}
use Rattle.rs_expr.specs.Meaning.{argument_number, argument_text, holds}
use Rattle.rs_expr.specs.declared.expr.TextSide.TheVariants as side
use Rattle.rs_catalog.specs.Catalog.{CatalogDef}
use Rattle.rs_query.specs.declared.block.Block.{Block}
use Rattle.rs_query.specs.Choices.{IsChoice}
use Rattle.rs_query.specs.Conjuncts.{ConjunctDef}
use Rattle.rs_query.specs.Meaning.{column_value, conjunct_holds}
use Rattle.rs_query.specs.Tables.{sizes_of}
use Rattle.rs_query.specs.WellFormed.{IsBlock, IsConjunct, equated}
use Rattle.rs_query.proofs.EquatedFacts.{conjunct-equated, value-at}
use Rattle.rs_filter.specs.JoinValues.{compared, equated_across, in_sides, is_equi, left_values, right_values}
use Rattle.rs_filter.specs.Matching.{holds_across, is_across, is_choice, is_side, joins, satisfies_across}
use Rattle.rs_filter.proofs.JoinColumnFacts.{equality-columns, in_sides-back}
use Rattle.rs_filter.proofs.JoinValueFacts.{of-left, of-right}
use Rattle.rs_filter.proofs.SideFacts.{IsChoice-test, and-first, and-second}

-- where both values are equal as far as the comparison looks at them, `column = column` holds
same-holds : (condition : Condition) (values : List Value) (i j : ℕ) (u v : Value) → equated condition ≡ Some (i, j)
    → slice_get values i ≡ Some u → slice_get values j ≡ Some v → compared condition u ≡ compared condition v → holds condition values ≡ true
same-holds (Numbers Eq (Argument k) (Argument l)) values i j u v is at_u at_v same =
    let pair : (k, l) ≡ (i, j) = cc in
    let first : slice_get values k ≡ Some u = ap (λ (p : ℕ × ℕ). slice_get values p.0) pair ∙ at_u in
    let second : slice_get values l ≡ Some v = ap (λ (p : ℕ × ℕ). slice_get values p.1) pair ∙ at_v in
    let number : argument_number (Some u) ≡ argument_number (Some v) = ap (λ (x : Value). argument_number (Some x)) same in
    let equal : argument_number (slice_get values k) ≡ argument_number (slice_get values l) = ap argument_number first ∙ number ∙ sym (ap argument_number second) in
    ap (λ n. rel_holds Eq (int_cmp n (argument_number (slice_get values l)))) equal
    ∙ ap (rel_holds Eq) (tied_itself int_cmp_total (argument_number (slice_get values l)))
same-holds (Texts Eq (side.Arg k) (side.Arg l)) values i j u v is at_u at_v same =
    let pair : (k, l) ≡ (i, j) = cc in
    let first : slice_get values k ≡ Some u = ap (λ (p : ℕ × ℕ). slice_get values p.0) pair ∙ at_u in
    let second : slice_get values l ≡ Some v = ap (λ (p : ℕ × ℕ). slice_get values p.1) pair ∙ at_v in
    let text : argument_text (Some u) ≡ argument_text (Some v) = ap (λ (x : Value). argument_text (Some x)) same in
    let equal : argument_text (slice_get values k) ≡ argument_text (slice_get values l) = ap argument_text first ∙ text ∙ sym (ap argument_text second) in
    ap (λ t. rel_holds Eq (slice_cmp nat_cmp t (argument_text (slice_get values l)))) equal
    ∙ ap (rel_holds Eq) (tied_itself nat_list_cmp_total (argument_text (slice_get values l)))
same-holds condition values i j u v is at_u at_v same = absurd (cc)

-- lists that begin with as many items are equal in these and behind them
parted : {A : Type 0} (f g : A → Value) (xs : List A) (us vs : List Value) → (map f xs ++ us) ≡ (map g xs ++ vs) → (map f xs ≡ map g xs) × (us ≡ vs)
parted f g [] us vs e = (refl, e)
parted f g (x ∷ xs) us vs e =
    let head : f x ≡ g x = cc in
    let others : (map f xs ++ us) ≡ (map g xs ++ vs) = cc in
    let both = parted f g xs us vs others in
    (ap₂ (λ (y : Value) (ys : List Value). y ∷ ys) head both.0, both.1)

module _ (catalogue : CatalogDef) (block : Block) (left right : ℕ) (lefts rights : List ℕ) (apart : AreDisjoint left right)
    (l : IsChoice left (sizes_of catalogue block) lefts) (r : IsChoice right (sizes_of catalogue block) rights) where
  -- what a conjunct compares of two columns that it equates
  abbrev on_left : ConjunctDef → (ℕ × ℕ) × (ℕ × ℕ) → Value
  on_left c pair = compared c.condition (column_value catalogue block lefts pair.0)

  abbrev on_right : ConjunctDef → (ℕ × ℕ) × (ℕ × ℕ) → Value
  on_right c pair = compared c.condition (column_value catalogue block rights pair.1)

  abbrev is_equality : ConjunctDef → Bool
  is_equality c = not (is_across left right c) || eqb (length (equated_across left right c)) 1

  abbrev in_both : ℕ × ℕ → Value
  in_both = column_value catalogue block (merge_rows lefts rights)

  -- a conjunct that equates two columns holds where their values are equal
  equated-holds : (c : ConjunctDef) → IsConjunct catalogue block c → (a b : ℕ × ℕ) → c.equality ≡ Some (a, b)
      → compared c.condition (in_both a) ≡ compared c.condition (in_both b) → conjunct_holds catalogue block (merge_rows lefts rights) c ≡ true
  equated-holds c is a b e same =
      let at = conjunct-equated catalogue block c is a b e in
      same-holds c.condition (map in_both c.columns) at.left at.right (in_both a) (in_both b) at.is_equated
      (value-at catalogue block (merge_rows lefts rights) c.columns at.left a at.left_there)
      (value-at catalogue block (merge_rows lefts rights) c.columns at.right b at.right_there) same

  -- the value of a column of the left side that is equal to that of one of the right side is so in both together
  same-together : (c : ConjunctDef) (a b : ℕ × ℕ) → 1 ≤ a.0 → 1 ≤ b.0 → has_number left a.0 ≡ true → has_number right b.0 ≡ true
      → compared c.condition (column_value catalogue block lefts a) ≡ compared c.condition (column_value catalogue block rights b)
      → compared c.condition (in_both a) ≡ compared c.condition (in_both b)
  same-together c a b some_a some_b in_left in_right same =
      ap (compared c.condition) (of-left catalogue block left right lefts rights apart l r a some_a in_left)
      ∙ same ∙ sym (ap (compared c.condition) (of-right catalogue block left right lefts rights apart l r b some_b in_right))

  one-conjunct : (c : ConjunctDef) → IsConjunct catalogue block c → is_equality c ≡ true
      → map (on_left c) (equated_across left right c) ≡ map (on_right c) (equated_across left right c)
      → holds_across catalogue block left right (merge_rows lefts rights) c ≡ true
  one-conjunct c is equi same = go (is_across left right c) equi same where
    of-pairs : (pairs : List ((ℕ × ℕ) × (ℕ × ℕ))) → in_sides left right c.equality ≡ pairs → eqb (length pairs) 1 ≡ true
        → map (on_left c) pairs ≡ map (on_right c) pairs → conjunct_holds catalogue block (merge_rows lefts rights) c ≡ true
    of-pairs [] e one f = absurd (true≢false (sym one))
    of-pairs (pair ∷ []) e one f =
        let back = in_sides-back left right c.equality pair e in
        let equal : on_left c pair ≡ on_right c pair = cc in
        elim back.either as (λ _. conjunct_holds catalogue block (merge_rows lefts rights) c ≡ true) [
          | inl as_is ↦
              let columns = equality-columns catalogue block c is pair.0 pair.1 as_is in
              equated-holds c is pair.0 pair.1 as_is
              (same-together c pair.0 pair.1 columns.0.is_column.0 columns.1.is_column.0 back.on_left back.on_right equal)
          | inr turned ↦
              let columns = equality-columns catalogue block c is pair.1 pair.0 turned in
              equated-holds c is pair.1 pair.0 turned
              (sym (same-together c pair.0 pair.1 columns.1.is_column.0 columns.0.is_column.0 back.on_left back.on_right equal))
        ]
    of-pairs (pair ∷ other ∷ others) e one f = let length_one = eqb-true (length (pair ∷ other ∷ others)) 1 one in absurd (omega arith)

    go : (b : Bool) → (not b || eqb (length (cond b (in_sides left right c.equality) [])) 1) ≡ true
        → map (on_left c) (cond b (in_sides left right c.equality) []) ≡ map (on_right c) (cond b (in_sides left right c.equality) [])
        → cond b (conjunct_holds catalogue block (merge_rows lefts rights) c) true ≡ true
    go false one f = refl
    go true one f = of-pairs (in_sides left right c.equality) refl one f

  all-conjuncts : (conjuncts : List ConjunctDef) → AllByRecursion (IsConjunct catalogue block) conjuncts → is_equi left right conjuncts ≡ true
      → flat_map (λ (c : ConjunctDef). map (on_left c) (equated_across left right c)) conjuncts
      ≡ flat_map (λ (c : ConjunctDef). map (on_right c) (equated_across left right c)) conjuncts
      → list_all (holds_across catalogue block left right (merge_rows lefts rights)) conjuncts ≡ true
  all-conjuncts [] is equi same = refl
  all-conjuncts (c ∷ rest) is equi same =
      let both = parted (on_left c) (on_right c) (equated_across left right c) (flat_map (λ (d : ConjunctDef). map (on_left d) (equated_across left right d)) rest)
      (flat_map (λ (d : ConjunctDef). map (on_right d) (equated_across left right d)) rest) same in
      let first = one-conjunct c is.0 (and-first (is_equality c) (is_equi left right rest) equi) both.0 in
      let others = all-conjuncts rest is.1 (and-second (is_equality c) (is_equi left right rest) equi) both.1 in
      ap (λ b. b && list_all (holds_across catalogue block left right (merge_rows lefts rights)) rest) first ∙ others

-- rows of two sides with equal join values match, where the conjuncts that speak of both sides are equalities
pub equal-values-join : (catalogue : CatalogDef) (block : Block) (left right : ℕ) (l r : RankRow) → IsBlock catalogue block → AreDisjoint left right
    → is_equi left right block.conjuncts ≡ true → is_side catalogue block left l ≡ true → is_side catalogue block right r ≡ true
    → left_values catalogue block left right l.ids.rows ≡ right_values catalogue block left right r.ids.rows → joins catalogue block left right l r ≡ true
equal-values-join catalogue block left right l r is apart equi left_side right_side same =
    let truth : satisfies_across catalogue block left right (merge_rows l.ids.rows r.ids.rows) ≡ true =
    all-conjuncts catalogue block left right l.ids.rows r.ids.rows apart
    (IsChoice-test left (sizes_of catalogue block) l.ids.rows (and-second (eqb l.ids.mask left) (is_choice left (sizes_of catalogue block) l.ids.rows) left_side))
    (IsChoice-test right (sizes_of catalogue block) r.ids.rows (and-second (eqb r.ids.mask right) (is_choice right (sizes_of catalogue block) r.ids.rows) right_side))
    block.conjuncts is.conjuncts equi same in
    ap (λ b. b && (is_side catalogue block right r && satisfies_across catalogue block left right (merge_rows l.ids.rows r.ids.rows))) left_side
    ∙ ap (λ b. b && satisfies_across catalogue block left right (merge_rows l.ids.rows r.ids.rows)) right_side ∙ truth
