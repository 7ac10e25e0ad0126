-- The columns that a conjunct equates across two sides, and the join values of the first conjuncts.
use Rattle.std.proofs.Common.{◌≡◌, ◌∙◌, ℕ, ◌+◌, ◌<◌, ◌++◌, ◌&&◌, ◌⊎◌, inl, inr, Bool, true, false, cond, List, [], ◌∷◌, map, take, get_or, length, Option, Some, None, sym, ap, subst, refl, ap₂}
use Rattle.std.specs.List.{AllByRecursion, flat_map}
use Rattle.std.specs.Prelude.{slice_get}
use Rattle.std.proofs.lemmas.Bool.{true≢false}
use Rattle.std.proofs.lemmas.List.{map-append, take_more}
use Rattle.rs_order.proofs.EachFacts.{each-append, each-behind, each-front, each-push, each-slice_get}
use Rattle.rs_rank.specs.Masks.{has_number}
use Rattle.rs_value.specs.Value.{fits}
use Rattle.rs_value.specs.declared.kind.Kind.{Kind}
use Rattle.rs_value.specs.declared.kind.Kind.TheVariants as kind
use Rattle.rs_value.specs.declared.rel.Rel.TheVariants.{Eq}
use Rattle.rs_value.specs.declared.value.Value.{Value}
use Rattle.rs_value.specs.declared.value.Value.TheVariants as value
use Rattle.rs_expr.specs.Formulas.{Argument, Condition, Numbers, Texts}
use Rattle.rs_expr.specs.Meaning.{argument_number, argument_text}
use Rattle.rs_expr.specs.Uses.{condition_uses}
use Rattle.rs_expr.specs.declared.expr.TextSide.TheVariants as side
use Rattle.rs_catalog.specs.Catalog.{CatalogDef}
use Rattle.rs_query.specs.declared.block.Block.{Block}
use Rattle.rs_query.specs.Conjuncts.{ConjunctDef}
use Rattle.rs_query.specs.Meaning.{column_value}
use Rattle.rs_query.specs.WellFormed.{IsBlock, IsColumn, IsConjunct, column_kind, equated, has_kind}
use Rattle.rs_query.proofs.CellFacts.{kind-at}
use Rattle.rs_query.proofs.EquatedFacts.{conjunct-equated}
use Rattle.rs_filter.specs.Conditions.{AreConditions, equated_columns}
use Rattle.rs_filter.specs.JoinValues.{compared, equated_across, in_sides, own_column, own_mask, side_values}
use Rattle.rs_filter.specs.Matching.{is_across}
use Rattle.rs_filter.specs.declared.conditions.JoinConditions.{JoinConditions}
use Rattle.rs_filter.specs.declared.join_values.Side.{Side}
use Rattle.rs_filter.specs.declared.join_values.Side.TheVariants.{Left, Right}
use Rattle.rs_filter.proofs.SideFacts.{and-first, and-second}

-- the join values of one conjunct, of the columns of one side
abbrev pub values_of : CatalogDef → Block → ℕ → ℕ → List ℕ → ((ℕ × ℕ) × (ℕ × ℕ) → ℕ × ℕ) → ConjunctDef → List Value
values_of catalogue block left right rows own c =
    map (λ (pair : (ℕ × ℕ) × (ℕ × ℕ)). compared c.condition (column_value catalogue block rows (own pair))) (equated_across left right c)

-- what is read of one item more
pub read-more : {X Y : Type 0} (f : X → Y) (xs : List X) (i : ℕ) (default : X) (made after : List Y) (v : Y) → i < length xs → made ≡ map f (take i xs) → v ≡ f (get_or xs i default)
    → after ≡ made ++ v ∷ [] → after ≡ map f (take (i + 1) xs)
read-more f xs i default made after v within so_far here is =
    is ∙ ap₂ (λ m x. m ++ x ∷ []) so_far here ∙ sym (ap (map f) (take_more xs i default within) ∙ map-append f (take i xs) (get_or xs i default ∷ []))

-- and what holds of one item more
pub each-more : {X : Type 0} (P : X → Type 0) (xs : List X) (i : ℕ) (default : X) → i < length xs → AllByRecursion P (take i xs) → P (get_or xs i default) → AllByRecursion P (take (i + 1) xs)
each-more P xs i default within so_far here = subst (AllByRecursion P) (sym (take_more xs i default within)) (each-push P (take i xs) (get_or xs i default) so_far here)

-- two columns, where each side has one of them
pub record AreInSides (left right : ℕ) (o : Option ((ℕ × ℕ) × (ℕ × ℕ))) (pair : (ℕ × ℕ) × (ℕ × ℕ)) : Type 0 where
  pub on_left : has_number left pair.0.0 ≡ true
  pub on_right : has_number right pair.1.0 ≡ true
  pub either : (o ≡ Some pair) ⊎ (o ≡ Some (pair.1, pair.0))

pub in_sides-back : (left right : ℕ) (o : Option ((ℕ × ℕ) × (ℕ × ℕ))) (pair : (ℕ × ℕ) × (ℕ × ℕ)) → in_sides left right o ≡ pair ∷ [] → AreInSides left right o pair
in_sides-back left right None pair e = absurd (cc)
in_sides-back left right (Some p) pair e =
    go (has_number left p.0.0) (has_number right p.1.0) (has_number right p.0.0) (has_number left p.1.0) refl refl refl refl e
  where
    first : p ≡ pair → has_number left p.0.0 ≡ true → has_number right p.1.0 ≡ true → AreInSides left right (Some p) pair
    first same a b = subst (AreInSides left right (Some p)) same (record { on_left = a; on_right = b; either = inl refl })

    second : (p.1, p.0) ≡ pair → has_number right p.0.0 ≡ true → has_number left p.1.0 ≡ true → AreInSides left right (Some p) pair
    second same s t = subst (AreInSides left right (Some p)) same (record { on_left = t; on_right = s; either = inr refl })

    go : (x y u v : Bool) → has_number left p.0.0 ≡ x → has_number right p.1.0 ≡ y → has_number right p.0.0 ≡ u → has_number left p.1.0 ≡ v
        → cond (x && y) (p ∷ []) (cond (u && v) ((p.1, p.0) ∷ []) []) ≡ pair ∷ [] → AreInSides left right (Some p) pair
    go true true u v a b s t f = first (cc) a b
    go true false true true a b s t f = second (cc) s t
    go false y true true a b s t f = second (cc) s t
    go true false true false a b s t f = absurd (cc)
    go true false false v a b s t f = absurd (cc)
    go false y true false a b s t f = absurd (cc)
    go false y false v a b s t f = absurd (cc)

-- what is compared of a value of the right kind is the value
int-self : (v : Value) → fits kind.Int v ≡ true → value.Int (argument_number (Some v)) ≡ v
int-self (value.Int n) is = refl
int-self (value.Text t) is = absurd (true≢false (sym is))

text-self : (v : Value) → fits kind.Text v ≡ true → value.Text (argument_text (Some v)) ≡ v
text-self (value.Int n) is = absurd (true≢false (sym is))
text-self (value.Text t) is = refl

module _ (catalogue : CatalogDef) (block : Block) where
  -- a value has the kind of its column
  abbrev pub HasKindOf : ℕ × ℕ → Value → Type 0
  HasKindOf column v = (k : Kind) → column_kind catalogue block column ≡ Some k → fits k v ≡ true

  compared-self : (condition : Condition) (columns : List (ℕ × ℕ)) (i j : ℕ) (a b : ℕ × ℕ) → equated condition ≡ Some (i, j) → slice_get columns i ≡ Some a → slice_get columns j ≡ Some b
      → condition_uses (has_kind catalogue block columns) condition ≡ true
      → ((v : Value) → HasKindOf a v → compared condition v ≡ v) × ((v : Value) → HasKindOf b v → compared condition v ≡ v)
  compared-self (Numbers Eq (Argument k) (Argument l)) columns i j a b is at_a at_b uses =
      let pair : (k, l) ≡ (i, j) = cc in
      let first : slice_get columns k ≡ Some a = ap (λ (p : ℕ × ℕ). slice_get columns p.0) pair ∙ at_a in
      let second : slice_get columns l ≡ Some b = ap (λ (p : ℕ × ℕ). slice_get columns p.1) pair ∙ at_b in
      let on_first = and-first (has_kind catalogue block columns kind.Int k) (has_kind catalogue block columns kind.Int l) uses in
      let on_second = and-second (has_kind catalogue block columns kind.Int k) (has_kind catalogue block columns kind.Int l) uses in (
        λ v has. int-self v (has kind.Int (kind-at catalogue block columns kind.Int k a first on_first)),
        λ v has. int-self v (has kind.Int (kind-at catalogue block columns kind.Int l b second on_second)),
      )
  compared-self (Texts Eq (side.Arg k) (side.Arg l)) columns i j a b is at_a at_b uses =
      let pair : (k, l) ≡ (i, j) = cc in
      let first : slice_get columns k ≡ Some a = ap (λ (p : ℕ × ℕ). slice_get columns p.0) pair ∙ at_a in
      let second : slice_get columns l ≡ Some b = ap (λ (p : ℕ × ℕ). slice_get columns p.1) pair ∙ at_b in
      let on_first = and-first (has_kind catalogue block columns kind.Text k) (has_kind catalogue block columns kind.Text l) uses in
      let on_second = and-second (has_kind catalogue block columns kind.Text k) (has_kind catalogue block columns kind.Text l) uses in (
        λ v has. text-self v (has kind.Text (kind-at catalogue block columns kind.Text k a first on_first)),
        λ v has. text-self v (has kind.Text (kind-at catalogue block columns kind.Text l b second on_second)),
      )
  compared-self condition columns i j a b is at_a at_b uses = absurd (cc)

  -- what is known of each of two columns that a conjunct equates
  pub record IsOne (c : ConjunctDef) (column : ℕ × ℕ) : Type 0 where
    pub is_column : IsColumn catalogue block column
    pub self : (v : Value) → HasKindOf column v → compared c.condition v ≡ v

  pub equality-columns : (c : ConjunctDef) → IsConjunct catalogue block c → (a b : ℕ × ℕ) → c.equality ≡ Some (a, b) → IsOne c a × IsOne c b
  equality-columns c is a b e =
      let back = conjunct-equated catalogue block c is a b e in
      let both = compared-self c.condition c.columns back.left back.right a b back.is_equated back.left_there back.right_there is.uses in (
        record { is_column = each-slice_get (IsColumn catalogue block) c.columns back.left a is.columns back.left_there; self = both.0 },
        record { is_column = each-slice_get (IsColumn catalogue block) c.columns back.right b is.columns back.right_there; self = both.1 },
      )

  -- two columns that it equates across the sides, that of the left side first
  pub record AreAcross (left right : ℕ) (c : ConjunctDef) (pair : (ℕ × ℕ) × (ℕ × ℕ)) : Type 0 where
    pub on_left : has_number left pair.0.0 ≡ true
    pub on_right : has_number right pair.1.0 ≡ true
    pub left_column : IsOne c pair.0
    pub right_column : IsOne c pair.1

  pub across-columns : (left right : ℕ) (c : ConjunctDef) → IsConjunct catalogue block c → (pair : (ℕ × ℕ) × (ℕ × ℕ)) → equated_across left right c ≡ pair ∷ [] → AreAcross left right c pair
  across-columns left right c is pair e = go (is_across left right c) e where
    sides : in_sides left right c.equality ≡ pair ∷ [] → AreAcross left right c pair
    sides f = let back = in_sides-back left right c.equality pair f in
        let both = elim back.either as (λ _. IsOne c pair.0 × IsOne c pair.1) [
          | inl same ↦ equality-columns c is pair.0 pair.1 same
          | inr same ↦ (let turned = equality-columns c is pair.1 pair.0 same in (turned.1, turned.0))
        ] in
        record { on_left = back.on_left; on_right = back.on_right; left_column = both.0; right_column = both.1 }

    go : (b : Bool) → cond b (in_sides left right c.equality) [] ≡ pair ∷ [] → AreAcross left right c pair
    go true f = sides f
    go false f = absurd (cc)

  -- no pair of columns, or one
  equated-form : (left right : ℕ) (c : ConjunctDef) → (equated_across left right c ≡ []) ⊎ ((pair : (ℕ × ℕ) × (ℕ × ℕ)) × (equated_across left right c ≡ pair ∷ []))
  equated-form left right c = go (is_across left right c) where
    pick : (u v : Bool) (p : (ℕ × ℕ) × (ℕ × ℕ)) → (cond u (p ∷ []) (cond v ((p.1, p.0) ∷ []) []) ≡ []) ⊎ ((pair : (ℕ × ℕ) × (ℕ × ℕ)) × (cond u (p ∷ []) (cond v ((p.1, p.0) ∷ []) []) ≡ pair ∷ []))
    pick true v p = inr (p, refl)
    pick false true p = inr ((p.1, p.0), refl)
    pick false false p = inl refl

    sides : (o : Option ((ℕ × ℕ) × (ℕ × ℕ))) → (in_sides left right o ≡ []) ⊎ ((pair : (ℕ × ℕ) × (ℕ × ℕ)) × (in_sides left right o ≡ pair ∷ []))
    sides None = inl refl
    sides (Some p) = pick (has_number left p.0.0 && has_number right p.1.0) (has_number right p.0.0 && has_number left p.1.0) p

    go : (b : Bool) → (cond b (in_sides left right c.equality) [] ≡ []) ⊎ ((pair : (ℕ × ℕ) × (ℕ × ℕ)) × (cond b (in_sides left right c.equality) [] ≡ pair ∷ []))
    go true = sides c.equality
    go false = inl refl

  -- each pair of columns that conjuncts equate across the sides has a column of each
  pub record AreColumns (left right : ℕ) (pair : (ℕ × ℕ) × (ℕ × ℕ)) : Type 0 where
    pub on_left : has_number left pair.0.0 ≡ true
    pub on_right : has_number right pair.1.0 ≡ true
    pub left_column : IsColumn catalogue block pair.0
    pub right_column : IsColumn catalogue block pair.1

  pub each-equated : (left right : ℕ) (conjuncts : List ConjunctDef) → AllByRecursion (IsConjunct catalogue block) conjuncts → AllByRecursion (AreColumns left right) (equated_columns left right conjuncts)
  each-equated left right [] each = tt
  each-equated left right (c ∷ rest) each =
      each-append (AreColumns left right) (equated_across left right c) (equated_columns left right rest)
      (elim (equated-form left right c) [
        | inl none ↦ subst (AllByRecursion (AreColumns left right)) (sym none) tt
        | inr one ↦
            let across = across-columns left right c each.0 one.0 one.1 in
            subst (AllByRecursion (AreColumns left right)) (sym one.1)
            (record { on_left = across.on_left; on_right = across.on_right; left_column = across.left_column.is_column; right_column = across.right_column.is_column }, tt)
      ])
      (each-equated left right rest each.1)

  -- the cells of these columns are the join values, since each has the kind of its column
  module _ (left right : ℕ) (rows : List ℕ) (own : (ℕ × ℕ) × (ℕ × ℕ) → ℕ × ℕ)
      (self : (c : ConjunctDef) → IsConjunct catalogue block c → (pair : (ℕ × ℕ) × (ℕ × ℕ)) → equated_across left right c ≡ pair ∷ [] → (v : Value) → HasKindOf (own pair) v → compared c.condition v ≡ v) where
    abbrev read : (ℕ × ℕ) × (ℕ × ℕ) → Value
    read pair = column_value catalogue block rows (own pair)

    pub values-read : (conjuncts : List ConjunctDef) → AllByRecursion (IsConjunct catalogue block) conjuncts
        → AllByRecursion (λ (pair : (ℕ × ℕ) × (ℕ × ℕ)). HasKindOf (own pair) (column_value catalogue block rows (own pair))) (equated_columns left right conjuncts)
        → map (λ (pair : (ℕ × ℕ) × (ℕ × ℕ)). column_value catalogue block rows (own pair)) (equated_columns left right conjuncts)
        ≡ flat_map (values_of catalogue block left right rows own) conjuncts
    values-read [] each kinds = refl
    values-read (c ∷ rest) each kinds =
        map-append read (equated_across left right c) (equated_columns left right rest)
        ∙ ap₂ (λ (xs ys : List Value). xs ++ ys) one
        (values-read rest each.1 (each-behind (λ (pair : (ℕ × ℕ) × (ℕ × ℕ)). HasKindOf (own pair) (read pair)) (equated_across left right c) (equated_columns left right rest) kinds))
      where
        front : AllByRecursion (λ (pair : (ℕ × ℕ) × (ℕ × ℕ)). HasKindOf (own pair) (read pair)) (equated_across left right c)
        front = each-front (λ (pair : (ℕ × ℕ) × (ℕ × ℕ)). HasKindOf (own pair) (read pair)) (equated_across left right c) (equated_columns left right rest) kinds

        one : map read (equated_across left right c) ≡ values_of catalogue block left right rows own c
        one = elim (equated-form left right c) [
          | inl none ↦ ap (map read) none ∙ sym (ap (map (λ (pair : (ℕ × ℕ) × (ℕ × ℕ)). compared c.condition (read pair))) none)
          | inr pair ↦
              let kind = subst (AllByRecursion (λ (p : (ℕ × ℕ) × (ℕ × ℕ)). HasKindOf (own p) (read p))) pair.1 front in
              ap (map read) pair.1
              ∙ ap (λ (v : Value). v ∷ []) (sym (self c each.0 pair.0 pair.1 (read pair.0) kind.0))
              ∙ sym (ap (map (λ (p : (ℕ × ℕ) × (ℕ × ℕ)). compared c.condition (read p))) pair.1)
        ]

  -- so do those that a join looks at
  pub conditions-columns : (conditions : JoinConditions) → IsBlock catalogue block → AreConditions catalogue block conditions
      → AllByRecursion (AreColumns conditions.left conditions.right) conditions.columns
  conditions-columns conditions is are =
      subst (AllByRecursion (AreColumns conditions.left conditions.right)) (sym (ap (λ (k : JoinConditions). k.columns) are))
      (each-equated conditions.left conditions.right block.conjuncts is.conjuncts)

  -- a side has its columns, which are what a comparison looks at
  pub column-own : (side : Side) (conditions : JoinConditions) (pair : (ℕ × ℕ) × (ℕ × ℕ)) → AreColumns conditions.left conditions.right pair
      → IsColumn catalogue block (own_column side pair) × (has_number (own_mask side conditions) (own_column side pair).0 ≡ true)
  column-own Left conditions pair are = (are.left_column, are.on_left)
  column-own Right conditions pair are = (are.right_column, are.on_right)

  pub values-own : (side : Side) (left right : ℕ) (rows : List ℕ) → AllByRecursion (IsConjunct catalogue block) block.conjuncts
      → AllByRecursion (λ (pair : (ℕ × ℕ) × (ℕ × ℕ)). HasKindOf (own_column side pair) (column_value catalogue block rows (own_column side pair))) (equated_columns left right block.conjuncts)
      → map (λ (pair : (ℕ × ℕ) × (ℕ × ℕ)). column_value catalogue block rows (own_column side pair)) (equated_columns left right block.conjuncts) ≡ side_values side catalogue block left right rows
  values-own Left left right rows each kinds =
      values-read left right rows (own_column Left) (λ conjunct is pair e. (across-columns left right conjunct is pair e).left_column.self) block.conjuncts each kinds
  values-own Right left right rows each kinds =
      values-read left right rows (own_column Right) (λ conjunct is pair e. (across-columns left right conjunct is pair e).right_column.self) block.conjuncts each kinds
