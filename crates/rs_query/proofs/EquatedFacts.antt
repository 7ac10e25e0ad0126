-- Conjuncts that equate two columns: where the columns stand, and that such a conjunct holds where their cells are equal.
use Rattle.std.proofs.Common.{◌≡◌, ◌∙◌, ℕ, ℤ, ◌&&◌, Bool, true, false, eqb, List, map, Option, Some, None, refl, sym, ap, ap₂}
use Rattle.std.specs.Cmp.{int_cmp_total, tied_itself}
use Rattle.std.specs.Cmp.Lexicographic.{bytes_decides, nat_list_cmp_total, slice_cmp}
use Rattle.std.specs.Ordering.{int_cmp, nat_cmp}
use Rattle.std.specs.Prelude.{slice_get, option_map}
use Rattle.std.specs.declared.cmp.Ordering.{Ordering}
use Rattle.std.specs.declared.cmp.Ordering.TheVariants.{Less, Equal, Greater}
use Rattle.std.proofs.lemmas.Bool.{and_parts, true≢false}
use Rattle.std.proofs.lemmas.Bool.Decides.{Decides-int_eq, same_from_decides}
use Rattle.std.proofs.lemmas.Map.Lookups.{exact_bytes, exact_signed}
use Rattle.std.proofs.lemmas.Option.{slice_get-map}
use Rattle.rs_value.specs.Rel.{rel_holds}
use Rattle.rs_value.specs.Value.{fits, kind_of}
use Rattle.rs_value.specs.contracts.value.ValuePartialEq.TheImpl as values
use Rattle.rs_value.specs.declared.kind.Kind.{Kind}
use Rattle.rs_value.specs.declared.kind.Kind.TheVariants as kind
use Rattle.rs_value.specs.declared.rel.Rel.TheVariants.{Eq}
use Rattle.rs_value.specs.declared.value.Value.{Value}
use Rattle.rs_value.specs.declared.value.Value.TheVariants as value
use Rattle.rs_table.specs.Lent.{shown}
use Rattle.rs_table.specs.contracts.cell.CellPartialEq.TheImpl as cells
use Rattle.rs_table.specs.declared.cell.Cell.{Cell}
use Rattle.rs_table.specs.declared.cell.Cell.TheVariants as cell
use Rattle.rs_expr.specs.Formulas.{Argument, Condition, Numbers, Texts}
use Rattle.rs_expr.specs.Meaning.{argument_number, argument_text, holds}
use Rattle.rs_expr.specs.Uses.{condition_uses}
use Rattle.rs_expr.specs.declared.expr.TextSide.TheVariants as side
use Rattle.rs_catalog.specs.Catalog.{CatalogDef}
use Rattle.rs_query.specs.declared.block.Block.{Block}
use Rattle.rs_query.specs.Conjuncts.{ConjunctDef}
use Rattle.rs_query.specs.Meaning.{column_value, conjunct_holds}
use Rattle.rs_query.specs.WellFormed.{IsColumn, IsConjunct, across, column_kind, equality_of, equated, has_kind}
use Rattle.rs_order.proofs.EachFacts.{each-slice_get}
use Rattle.rs_query.proofs.CellFacts.{kind-at}

-- two columns of different entries that a condition equates
pub record IsEquated (condition : Condition) (columns : List (ℕ × ℕ)) (a b : ℕ × ℕ) : Type 0 where
  pub left : ℕ
  pub right : ℕ
  pub is_equated : equated condition ≡ Some (left, right)
  pub left_there : slice_get columns left ≡ Some a
  pub right_there : slice_get columns right ≡ Some b

across-back : (o p : Option (ℕ × ℕ)) (a b : ℕ × ℕ) → across o p ≡ Some (a, b) → (o ≡ Some a) × (p ≡ Some b)
across-back None p a b e = absurd (cc)
across-back (Some x) None a b e = absurd (cc)
across-back (Some x) (Some y) a b e = go (eqb x.0 y.0) refl where
  go : (t : Bool) → eqb x.0 y.0 ≡ t → (Some x ≡ Some a) × (Some y ≡ Some b)
  go true same = let none : ◌≡◌ {A = Option ((ℕ × ℕ) × (ℕ × ℕ))} None (Some (a, b)) = rw same at e in absurd (cc)
  go false differ =
      let some : ◌≡◌ {A = Option ((ℕ × ℕ) × (ℕ × ℕ))} (Some (x, y)) (Some (a, b)) = rw differ at e in
      let pair : (x, y) ≡ (a, b) = cc in
      (ap (λ (p : (ℕ × ℕ) × (ℕ × ℕ)). Some p.0) pair, ap (λ (p : (ℕ × ℕ) × (ℕ × ℕ)). Some p.1) pair)

equality-back : (condition : Condition) (columns : List (ℕ × ℕ)) (a b : ℕ × ℕ) → equality_of condition columns ≡ Some (a, b) → IsEquated condition columns a b
equality-back condition columns a b e = go (equated condition) refl where
  go : (o : Option (ℕ × ℕ)) → equated condition ≡ o → IsEquated condition columns a b
  go None none = let nothing : ◌≡◌ {A = Option ((ℕ × ℕ) × (ℕ × ℕ))} None (Some (a, b)) = rw none at e in absurd (cc)
  go (Some places) some =
      let both : across (slice_get columns places.0) (slice_get columns places.1) ≡ Some (a, b) = rw some at e in
      let parts = across-back (slice_get columns places.0) (slice_get columns places.1) a b both in
      record { left = places.0; right = places.1; is_equated = some; left_there = parts.0; right_there = parts.1 }

-- the value of a column that stands among some columns stands at the same place among their values
pub value-at : (catalogue : CatalogDef) (block : Block) (rows : List ℕ) (columns : List (ℕ × ℕ)) (i : ℕ) (column : ℕ × ℕ) → slice_get columns i ≡ Some column
    → slice_get (map (column_value catalogue block rows) columns) i ≡ Some (column_value catalogue block rows column)
value-at catalogue block rows columns i column there =
    slice_get-map (column_value catalogue block rows) columns i ∙ ap (option_map (column_value catalogue block rows)) there

-- what compares as equal is equal
pub equal-order : (o : Ordering) → rel_holds Eq o ≡ true → o ≡ Equal
equal-order Less e = absurd (true≢false (sym e))
equal-order Equal e = refl
equal-order Greater e = absurd (true≢false (sym e))

-- `==` on two numbers, and on two texts, answers what their comparison does
int-test : (n m : ℤ) → values.ghosts.eq (value.Int n) (value.Int m) ≡ rel_holds Eq (int_cmp n m)
int-test n m = same_from_decides (values.ghosts.eq (value.Int n) (value.Int m)) (rel_holds Eq (int_cmp n m)) (Decides-int_eq n m)
    (λ e. exact_signed n m (equal-order (int_cmp n m) e), λ e. ap (λ k. rel_holds Eq (int_cmp k m)) e ∙ ap (rel_holds Eq) (tied_itself int_cmp_total m))

text-test : (t u : List ℕ) → values.ghosts.eq (value.Text t) (value.Text u) ≡ rel_holds Eq (slice_cmp nat_cmp t u)
text-test t u = same_from_decides (values.ghosts.eq (value.Text t) (value.Text u)) (rel_holds Eq (slice_cmp nat_cmp t u)) (bytes_decides t u)
    (λ e. exact_bytes t u (equal-order (slice_cmp nat_cmp t u) e), λ e. ap (λ s. rel_holds Eq (slice_cmp nat_cmp s u)) e ∙ ap (rel_holds Eq) (tied_itself nat_list_cmp_total u))

int-values : (u v : Value) (o p : Option Value) → fits kind.Int u ≡ true → fits kind.Int v ≡ true → o ≡ Some u → p ≡ Some v
    → values.ghosts.eq u v ≡ rel_holds Eq (int_cmp (argument_number o) (argument_number p))
int-values (value.Int n) (value.Int m) o p fit_u fit_v a b =
    int-test n m ∙ ap₂ (λ (x y : ℤ). rel_holds Eq (int_cmp x y)) (sym (ap argument_number a)) (sym (ap argument_number b))
int-values (value.Text t) v o p fit_u fit_v a b = absurd (true≢false (sym fit_u))
int-values (value.Int n) (value.Text u) o p fit_u fit_v a b = absurd (true≢false (sym fit_v))

text-values : (u v : Value) (o p : Option Value) → fits kind.Text u ≡ true → fits kind.Text v ≡ true → o ≡ Some u → p ≡ Some v
    → values.ghosts.eq u v ≡ rel_holds Eq (slice_cmp nat_cmp (argument_text o) (argument_text p))
text-values (value.Text t) (value.Text u) o p fit_u fit_v a b =
    text-test t u ∙ ap₂ (λ (x y : List ℕ). rel_holds Eq (slice_cmp nat_cmp x y)) (sym (ap argument_text a)) (sym (ap argument_text b))
text-values (value.Int n) v o p fit_u fit_v a b = absurd (true≢false (sym fit_u))
text-values (value.Text t) (value.Int m) o p fit_u fit_v a b = absurd (true≢false (sym fit_v))

-- `column = column` holds where the two values are equal, if these have the kinds that the condition uses
equated-holds : (has : Kind → ℕ → Bool) (condition : Condition) (args : List Value) (i j : ℕ) (u v : Value) → equated condition ≡ Some (i, j)
    → slice_get args i ≡ Some u → slice_get args j ≡ Some v → condition_uses has condition ≡ true
    → ((k : Kind) → has k i ≡ true → fits k u ≡ true) → ((k : Kind) → has k j ≡ true → fits k v ≡ true) → values.ghosts.eq u v ≡ holds condition args
equated-holds has (Numbers Eq (Argument k) (Argument l)) args i j u v is at_u at_v uses fit_u fit_v =
    let pair : (k, l) ≡ (i, j) = cc in
    let first : k ≡ i = ap (λ (p : ℕ × ℕ). p.0) pair in
    let second : l ≡ j = ap (λ (p : ℕ × ℕ). p.1) pair in
    let both = and_parts (has kind.Int k) (has kind.Int l) uses in
    int-values u v (slice_get args k) (slice_get args l) (fit_u kind.Int (ap (has kind.Int) (sym first) ∙ both.0)) (fit_v kind.Int (ap (has kind.Int) (sym second) ∙ both.1))
    (ap (slice_get args) first ∙ at_u) (ap (slice_get args) second ∙ at_v)
equated-holds has (Texts Eq (side.Arg k) (side.Arg l)) args i j u v is at_u at_v uses fit_u fit_v =
    let pair : (k, l) ≡ (i, j) = cc in
    let first : k ≡ i = ap (λ (p : ℕ × ℕ). p.0) pair in
    let second : l ≡ j = ap (λ (p : ℕ × ℕ). p.1) pair in
    let both = and_parts (has kind.Text k) (has kind.Text l) uses in
    text-values u v (slice_get args k) (slice_get args l) (fit_u kind.Text (ap (has kind.Text) (sym first) ∙ both.0)) (fit_v kind.Text (ap (has kind.Text) (sym second) ∙ both.1))
    (ap (slice_get args) first ∙ at_u) (ap (slice_get args) second ∙ at_v)
equated-holds has condition args i j u v is at_u at_v uses fit_u fit_v = absurd (cc)

-- `==` on two cells answers what it does on the values that they show
pub cell-test : (a b : Cell) → cells.ghosts.eq a b ≡ values.ghosts.eq (shown a) (shown b)
cell-test (cell.Number n) (cell.Number m) = refl
cell-test (cell.Number n) (cell.Text u) = refl
cell-test (cell.Text t) (cell.Number m) = refl
cell-test (cell.Text t) (cell.Text u) = refl

module _ (catalogue : CatalogDef) (block : Block) where
  -- the columns that a conjunct equates, among its columns
  pub conjunct-equated : (c : ConjunctDef) → IsConjunct catalogue block c → (a b : ℕ × ℕ) → c.equality ≡ Some (a, b) → IsEquated c.condition c.columns a b
  conjunct-equated c is a b e = equality-back c.condition c.columns a b (sym is.equality ∙ e)

  -- a conjunct that equates two columns holds where their cells are equal
  pub equality-holds : (rows : List ℕ) (c : ConjunctDef) → IsConjunct catalogue block c → (a b : ℕ × ℕ) → c.equality ≡ Some (a, b) → (u v : Value)
      → u ≡ column_value catalogue block rows a → v ≡ column_value catalogue block rows b
      → ((k : Kind) → column_kind catalogue block a ≡ Some k → fits k u ≡ true) → ((k : Kind) → column_kind catalogue block b ≡ Some k → fits k v ≡ true)
      → values.ghosts.eq u v ≡ conjunct_holds catalogue block rows c
  equality-holds rows c is a b e u v u_is v_is fit_u fit_v =
      let at = conjunct-equated c is a b e in
      equated-holds (has_kind catalogue block c.columns) c.condition (map (column_value catalogue block rows) c.columns) at.left at.right u v at.is_equated
      (value-at catalogue block rows c.columns at.left a at.left_there ∙ ap Some (sym u_is))
      (value-at catalogue block rows c.columns at.right b at.right_there ∙ ap Some (sym v_is)) is.uses
      (λ k has. fit_u k (kind-at catalogue block c.columns k at.left a at.left_there has))
      (λ k has. fit_v k (kind-at catalogue block c.columns k at.right b at.right_there has))

-- a value by its kind
int-of : (v : Value) → kind_of v ≡ kind.Int → (n : ℤ) × (v ≡ value.Int n)
int-of (value.Int n) is = (n, refl)
int-of (value.Text t) is = absurd (cc)

text-of : (v : Value) → kind_of v ≡ kind.Text → (t : List ℕ) × (v ≡ value.Text t)
text-of (value.Int n) is = absurd (cc)
text-of (value.Text t) is = (t, refl)

-- numbers that are equal by their comparison, and texts
same-numbers : (u v : Value) (o p : Option Value) → kind_of u ≡ kind.Int → kind_of v ≡ kind.Int → o ≡ Some u → p ≡ Some v
    → rel_holds Eq (int_cmp (argument_number o) (argument_number p)) ≡ true → u ≡ v
same-numbers u v o p is_u is_v at_u at_v holds =
    let n = int-of u is_u in
    let m = int-of v is_v in
    let left : argument_number o ≡ n.0 = ap argument_number at_u ∙ ap (λ (w : Value). argument_number (Some w)) n.1 in
    let right : argument_number p ≡ m.0 = ap argument_number at_v ∙ ap (λ (w : Value). argument_number (Some w)) m.1 in
    let same : int_cmp n.0 m.0 ≡ Equal = ap₂ int_cmp (sym left) (sym right) ∙ equal-order (int_cmp (argument_number o) (argument_number p)) holds in
    n.1 ∙ ap (λ k. value.Int k) (exact_signed n.0 m.0 same) ∙ sym m.1

same-texts : (u v : Value) (o p : Option Value) → kind_of u ≡ kind.Text → kind_of v ≡ kind.Text → o ≡ Some u → p ≡ Some v
    → rel_holds Eq (slice_cmp nat_cmp (argument_text o) (argument_text p)) ≡ true → u ≡ v
same-texts u v o p is_u is_v at_u at_v holds =
    let t = text-of u is_u in
    let s = text-of v is_v in
    let left : argument_text o ≡ t.0 = ap argument_text at_u ∙ ap (λ (w : Value). argument_text (Some w)) t.1 in
    let right : argument_text p ≡ s.0 = ap argument_text at_v ∙ ap (λ (w : Value). argument_text (Some w)) s.1 in
    let same : slice_cmp nat_cmp t.0 s.0 ≡ Equal =
    ap₂ (slice_cmp nat_cmp) (sym left) (sym right) ∙ equal-order (slice_cmp nat_cmp (argument_text o) (argument_text p)) holds in
    t.1 ∙ ap (λ k. value.Text k) (exact_bytes t.0 s.0 same) ∙ sym s.1

-- two values of the kinds that a condition uses are equal where it equates them and holds
equated-same : (has : Kind → ℕ → Bool) (condition : Condition) (args : List Value) (i j : ℕ) (u v : Value) → equated condition ≡ Some (i, j)
    → slice_get args i ≡ Some u → slice_get args j ≡ Some v → condition_uses has condition ≡ true
    → ((k : Kind) → has k i ≡ true → kind_of u ≡ k) → ((k : Kind) → has k j ≡ true → kind_of v ≡ k) → holds condition args ≡ true → u ≡ v
equated-same has (Numbers Eq (Argument k) (Argument l)) args i j u v is at_u at_v uses kind_u kind_v true_ =
    let pair : (k, l) ≡ (i, j) = cc in
    let first : k ≡ i = ap (λ (p : ℕ × ℕ). p.0) pair in
    let second : l ≡ j = ap (λ (p : ℕ × ℕ). p.1) pair in
    let both = and_parts (has kind.Int k) (has kind.Int l) uses in
    same-numbers u v (slice_get args k) (slice_get args l) (kind_u kind.Int (ap (has kind.Int) (sym first) ∙ both.0)) (kind_v kind.Int (ap (has kind.Int) (sym second) ∙ both.1))
    (ap (slice_get args) first ∙ at_u) (ap (slice_get args) second ∙ at_v) true_
equated-same has (Texts Eq (side.Arg k) (side.Arg l)) args i j u v is at_u at_v uses kind_u kind_v true_ =
    let pair : (k, l) ≡ (i, j) = cc in
    let first : k ≡ i = ap (λ (p : ℕ × ℕ). p.0) pair in
    let second : l ≡ j = ap (λ (p : ℕ × ℕ). p.1) pair in
    let both = and_parts (has kind.Text k) (has kind.Text l) uses in
    same-texts u v (slice_get args k) (slice_get args l) (kind_u kind.Text (ap (has kind.Text) (sym first) ∙ both.0)) (kind_v kind.Text (ap (has kind.Text) (sym second) ∙ both.1))
    (ap (slice_get args) first ∙ at_u) (ap (slice_get args) second ∙ at_v) true_
equated-same has condition args i j u v is at_u at_v uses kind_u kind_v true_ = absurd (cc)

module _ (catalogue : CatalogDef) (block : Block) where
  -- where a conjunct that equates two columns holds, their cells are equal
  pub equality-same : (rows : List ℕ) (c : ConjunctDef) → IsConjunct catalogue block c → (a b : ℕ × ℕ) → c.equality ≡ Some (a, b)
      → ((k : Kind) → column_kind catalogue block a ≡ Some k → kind_of (column_value catalogue block rows a) ≡ k)
      → ((k : Kind) → column_kind catalogue block b ≡ Some k → kind_of (column_value catalogue block rows b) ≡ k)
      → conjunct_holds catalogue block rows c ≡ true → column_value catalogue block rows a ≡ column_value catalogue block rows b
  equality-same rows c is a b e kind_a kind_b holds =
      let at = conjunct-equated catalogue block c is a b e in
      equated-same (has_kind catalogue block c.columns) c.condition (map (column_value catalogue block rows) c.columns) at.left at.right
      (column_value catalogue block rows a) (column_value catalogue block rows b) at.is_equated
      (value-at catalogue block rows c.columns at.left a at.left_there) (value-at catalogue block rows c.columns at.right b at.right_there) is.uses
      (λ k has. kind_a k (kind-at catalogue block c.columns k at.left a at.left_there has))
      (λ k has. kind_b k (kind-at catalogue block c.columns k at.right b at.right_there has)) holds

  -- two columns that a conjunct equates are columns of the block, of one kind
  pub equality-kinds : (c : ConjunctDef) → IsConjunct catalogue block c → (a b : ℕ × ℕ) → c.equality ≡ Some (a, b)
      → IsColumn catalogue block a × IsColumn catalogue block b × (column_kind catalogue block a ≡ column_kind catalogue block b)
  equality-kinds c is a b e =
      let at = conjunct-equated catalogue block c is a b e in (
        each-slice_get (IsColumn catalogue block) c.columns at.left a is.columns at.left_there,
        each-slice_get (IsColumn catalogue block) c.columns at.right b is.columns at.right_there,
        same_kinds c.condition at.left at.right a b at.is_equated at.left_there at.right_there is.uses,
      )
    where
      kinds : (k : Kind) (i j : ℕ) (x y : ℕ × ℕ) → slice_get c.columns i ≡ Some x → slice_get c.columns j ≡ Some y
          → (has_kind catalogue block c.columns k i && has_kind catalogue block c.columns k j) ≡ true → column_kind catalogue block x ≡ column_kind catalogue block y
      kinds k i j x y at_x at_y uses =
          let both = and_parts (has_kind catalogue block c.columns k i) (has_kind catalogue block c.columns k j) uses in
          kind-at catalogue block c.columns k i x at_x both.0 ∙ sym (kind-at catalogue block c.columns k j y at_y both.1)

      same_kinds : (condition : Condition) (i j : ℕ) (x y : ℕ × ℕ) → equated condition ≡ Some (i, j) → slice_get c.columns i ≡ Some x → slice_get c.columns j ≡ Some y
          → condition_uses (has_kind catalogue block c.columns) condition ≡ true → column_kind catalogue block x ≡ column_kind catalogue block y
      same_kinds (Numbers Eq (Argument k) (Argument l)) i j x y eq at_x at_y uses =
          let pair : (k, l) ≡ (i, j) = cc in
          kinds kind.Int k l x y (ap (λ (p : ℕ × ℕ). slice_get c.columns p.0) pair ∙ at_x) (ap (λ (p : ℕ × ℕ). slice_get c.columns p.1) pair ∙ at_y) uses
      same_kinds (Texts Eq (side.Arg k) (side.Arg l)) i j x y eq at_x at_y uses =
          let pair : (k, l) ≡ (i, j) = cc in
          kinds kind.Text k l x y (ap (λ (p : ℕ × ℕ). slice_get c.columns p.0) pair ∙ at_x) (ap (λ (p : ℕ × ℕ). slice_get c.columns p.1) pair ∙ at_y) uses
      same_kinds condition i j x y eq at_x at_y uses = absurd (cc)
