-- Tables that are feeds: their columns, their rows, and the first row that refuses a table.
use Rattle.std.proofs.Common.{ℕ, ℤ, pos, negsuc, zero, suc, ◌≡◌, ◌<◌, ◌≤◌, ◌^◌, ◌+◌, Bool, true, false, cond, nat_le, List, [], ◌∷◌, length, map, drop, Option, Some, None, refl, sym, ◌∙◌, ap, ap₂, subst, arith}
use Rattle.std.specs.Prelude.{◌-◌, option_and_then, option_map, slice_get, unwrap_or}
use Rattle.std.specs.List.{AllByRecursion}
use Rattle.std.proofs.lemmas.Bool.Decides.{nat_tests}
use Rattle.std.proofs.lemmas.Option.{slice_get-map}
use Rattle.rs_value.specs.declared.kind.Kind.TheVariants as kind
use Rattle.rs_value.specs.declared.value.Value.{Value}
use Rattle.rs_value.specs.declared.value.Value.TheVariants.{Int, Text}
use Rattle.rs_table.specs.Column.{Column}
use Rattle.rs_table.specs.Relation.{Relation, cell_at}
use Rattle.rs_expr.specs.Scores.{as_score, is_score, score_within}
use Rattle.rs_feed.specs.declared.feed_row.FeedRow.{FeedRow}
use Rattle.rs_table_feed.specs.declared.range_fault.RangeFault.{RangeFault}
use Rattle.std.proofs.lemmas.List.{length-map}
use Rattle.rs_table_feed.specs.TableFeeds.{HasFeedColumns, TableFeedState, feed_row, feed_row_at, first_outside, most_score, number_in, score_in, score_of, text_in}

-- the columns of a feed are two
pub record AreTwo (columns : List Column) : Type 0 where
  pub text : List ℕ
  pub number : List ℕ
  pub are : columns ≡ (text, kind.Text) ∷ (number, kind.Int) ∷ []

pub columns-two : (columns : List Column) → HasFeedColumns columns → AreTwo columns
columns-two [] has = absurd (let e = has.kinds in cc)
columns-two (a ∷ []) has = absurd (let e = has.kinds in cc)
columns-two (a ∷ b ∷ []) has =
    let e = has.kinds in
    let first : a.1 ≡ kind.Text = cc in
    let second : b.1 ≡ kind.Int = cc in record {
      text = a.0;
      number = b.0;
      are = ap₂ (λ k l. (a.0, k) ∷ (b.0, l) ∷ []) first second;
    }
columns-two (a ∷ b ∷ c ∷ rest) has = absurd (let e = has.kinds in cc)

pub first-column : (columns : List Column) → HasFeedColumns columns → (name : List ℕ) × (slice_get columns 0 ≡ Some (name, kind.Text))
first-column columns has = let two = columns-two columns has in (two.text, ap (λ xs. slice_get xs 0) two.are)

pub second-column : (columns : List Column) → HasFeedColumns columns → (name : List ℕ) × (slice_get columns 1 ≡ Some (name, kind.Int))
second-column columns has = let two = columns-two columns has in (two.number, ap (λ xs. slice_get xs 1) two.are)

pub length-two : (columns : List Column) → HasFeedColumns columns → length columns ≡ 2
length-two columns has = let two = columns-two columns has in ap (λ xs. length xs) two.are

-- a cell is one of its row
pub cell-row : (table : Relation) (row column : ℕ) (value : Value) → cell_at table row column ≡ Some value → slice_get (unwrap_or (slice_get table.rows (row - 1)) []) column ≡ Some value
cell-row table row column value e = go (slice_get table.rows (row - 1)) e where
  go : (there : Option (List Value)) → option_and_then (λ (values : List Value). slice_get values column) there ≡ Some value → slice_get (unwrap_or there []) column ≡ Some value
  go None e = absurd cc
  go (Some values) e = e

-- the row of a feed at a place is made of the text and the number there
pub row-made : (rows : List (List Value)) (place score : ℕ) (text : List ℕ) (number : ℤ) → place < length rows → slice_get (unwrap_or (slice_get rows place) []) 0 ≡ Some (Text text)
    → number ≡ score_of rows place → score ≡ as_score number → feed_row_at (map feed_row rows) place ≡ record { join = text; score = score }
row-made [] place score text number within e f g = absurd (omega (arith, within))
row-made (values ∷ rows) zero score text number within e f g = ap₂ (λ (join : List ℕ) (n : ℕ). record { join = join; score = n }) (ap text_in e) (sym (g ∙ ap as_score f))
row-made (values ∷ rows) (suc place) score text number within e f g = row-made rows place score text number (omega (arith, within)) e f g

-- the next place of a table, and the first row that refuses it from there on
pub outside-step : (row : ℕ) (rows : List (List Value)) (place : ℕ) → place < length rows → first_outside row (drop place rows)
    ≡ cond (is_score most_score (score_of rows place)) (first_outside (suc row) (drop (suc place) rows)) (Some (record { row = row; got = score_of rows place }))
outside-step row [] place within = absurd (omega (arith, within))
outside-step row (values ∷ rows) zero within = refl
outside-step row (values ∷ rows) (suc place) within = outside-step row rows place (omega (arith, within))

pub outside-end : (row : ℕ) (rows : List (List Value)) (place : ℕ) → length rows ≤ place → first_outside row (drop place rows) ≡ None
outside-end row [] zero within = refl
outside-end row [] (suc place) within = refl
outside-end row (values ∷ rows) zero within = absurd (omega (arith, within))
outside-end row (values ∷ rows) (suc place) within = outside-end row rows place (omega (arith, within))

-- where none refuses it, each number is a score
none-here : (b : Bool) (rest : Option RangeFault) (fault : RangeFault) → cond b rest (Some fault) ≡ None → (b ≡ true) × (rest ≡ None)
none-here true rest fault e = (refl, e)
none-here false rest fault e = absurd cc

pub inside : (row : ℕ) (rows : List (List Value)) (place : ℕ) → first_outside row rows ≡ None → place < length rows → is_score most_score (score_of rows place) ≡ true
inside row [] place e within = absurd (omega (arith, within))
inside row (values ∷ rows) zero e within = (none-here (is_score most_score (score_in values)) (first_outside (suc row) rows) (record { row = row; got = score_in values }) e).0
inside row (values ∷ rows) (suc place) e within =
    inside (suc row) rows place (none-here (is_score most_score (score_in values)) (first_outside (suc row) rows) (record { row = row; got = score_in values }) e).1 (omega (arith, within))

small : (n : ℤ) → is_score most_score n ≡ true → as_score n < 2 ^ 32
small (pos n) e = grind (arith, nat_tests)
small (negsuc n) e = absurd cc

pub all-scores : (row : ℕ) (rows : List (List Value)) → first_outside row rows ≡ None → AllByRecursion (λ (r : FeedRow). r.score < 2 ^ 32) (map feed_row rows)
all-scores row [] e = tt
all-scores row (values ∷ rows) e =
    let both = none-here (is_score most_score (score_in values)) (first_outside (suc row) rows) (record { row = row; got = score_in values }) e in
    (small (score_in values) both.0, all-scores (suc row) rows both.1)

-- the number as a score
pub within-some : (max score : ℕ) (got : ℤ) → Some score ≡ score_within max got → score ≡ as_score got
within-some max score got e = go (is_score max got) e where
  go : (b : Bool) → Some score ≡ cond b (Some (as_score got)) None → score ≡ as_score got
  go true e = cc
  go false e = absurd cc

pub within-none : (max : ℕ) (got : ℤ) → None ≡ score_within max got → is_score max got ≡ true → ⊥
within-none max got e is = absurd (let same : None ≡ Some (as_score got) = e ∙ ap (λ b. cond b (Some (as_score got)) None) is in cc)

pub back : (n : ℕ) → (n + 1) - 1 ≡ n
back n = omega arith

-- the rows up to a place are scores, and the next one is, or isn't, or there is none
module _ (rows : List (List Value)) (place : ℕ) (so_far : first_outside 1 rows ≡ first_outside (place + 1) (drop place rows)) where
  pub outside-none : length rows ≤ place → None ≡ first_outside 1 rows
  outside-none past = sym (so_far ∙ outside-end (place + 1) rows place past)

  module _ (got : ℤ) (within : place < length rows) (is : got ≡ score_of rows ((place + 1) - 1)) where
    here : got ≡ score_of rows place
    here = is ∙ ap (score_of rows) (back place)

    step : (b : Bool) → is_score most_score got ≡ b → first_outside 1 rows ≡ cond b (first_outside (suc (place + 1)) (drop (suc place) rows)) (Some (record { row = place + 1; got = score_of rows place }))
    step b e =
        so_far ∙ outside-step (place + 1) rows place within
        ∙ ap (λ b. cond b (first_outside (suc (place + 1)) (drop (suc place) rows)) (Some (record { row = place + 1; got = score_of rows place }))) (ap (is_score most_score) (sym here) ∙ e)

    pub outside-next : is_score most_score got ≡ true → first_outside 1 rows ≡ first_outside (place + 1 + 1) (drop (place + 1) rows)
    outside-next e =
        let row : suc (place + 1) ≡ place + 1 + 1 = omega arith in
        let next : suc place ≡ place + 1 = omega arith in
        step true e ∙ ap₂ (λ n m. first_outside n (drop m rows)) row next

    pub outside-here : is_score most_score got ≡ false → Some (record { row = place + 1; got = got }) ≡ first_outside 1 rows
    outside-here e = ap (λ (n : ℤ). Some (record { row = place + 1; got = n })) here ∙ sym (step false e)

-- where a feed has a row left, its table has one
pub next-within : (rows : List (List Value)) (draws given : ℕ) (state : TableFeedState) → record { rows = map feed_row rows; draws = draws; given = given } ≡ state → state.given < length state.rows → given < length rows
next-within rows draws given state is left =
    let P : TableFeedState → Type 0 = λ s. s.given < length s.rows in
    let within : given < length (map feed_row rows) = subst P (sym is) left in
    omega (arith, length-map rows feed_row, within)
