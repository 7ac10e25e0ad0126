-- Rows that are kept column by column.
use Rattle.std.proofs.Common.{ℕ, pos, ◌≡◌, ◌+◌, ◌^◌, ◌<◌, ◌≤◌, min, zero, suc, List, [], ◌∷◌, ◌++◌, length, get_or, set, map, take, drop, inl, inr, refl, sym, ap, subst, ◌∙◌, arith, add-one}
use Rattle.std.specs.Prelude.{Some, slice_get}
use Rattle.std.specs.List.{All}
use Rattle.std.proofs.lemmas.Bool.{cases_lt}
use Rattle.std.proofs.lemmas.List.{drop-set, drop_all, drop_more, get_or-take, get_or_append_left, get_or_push, length-map, length-set, length-take, length_push, map-append, map-set, map_push, same_from_push, take-set, take-take, take_all, take_more, take_more_set}
use Rattle.std.proofs.lemmas.List.Elements.{All-cons, All-get_or, All-head, All-nil, All-push, All-set, All-tail, All-weaker}
use Rattle.std.proofs.lemmas.Option.{get_or_from_slice_get, slice_get-map, slice_get_read}
use Rattle.std.proofs.Math.Seq.{map-set_same}
use Rattle.rs_value.specs.declared.value.Value.{Value}
use Rattle.rs_value.specs.declared.value.Value.TheVariants.{Int}
use Rattle.rs_value.specs.Value.{kind_of}
use Rattle.rs_table.specs.Stored.{AreEven, StoredCells, StoredRows, cells_in, kinds_in, pushed, rooms_in, row_across, rows_across, stored_in}
use Rattle.rs_table.specs.Texts.{cells_across}

pub length-rows_across : (n : ℕ) (columns : List (List Value)) → length (rows_across n columns) ≡ n
length-rows_across zero columns = refl
length-rows_across (suc n) columns = length_push (rows_across n columns) (row_across n columns) ∙ ap (λ m. m + 1) (length-rows_across n columns) ∙ add-one n

-- the row at a place
pub get_or-rows_across : (n place : ℕ) (columns : List (List Value)) → place < n → get_or (rows_across n columns) place [] ≡ row_across place columns
get_or-rows_across zero place columns within = absurd (omega arith)
get_or-rows_across (suc n) place columns within =
    elim (cases_lt place n) [
      | inl less ↦
          get_or_append_left (rows_across n columns) (row_across n columns ∷ []) [] place (omega (arith, length-rows_across n columns)) ∙ get_or-rows_across n place columns less
      | inr ge ↦
          let same : place ≡ n = omega arith in
          get_or_push (rows_across n columns) (row_across n columns) [] place (length-rows_across n columns ∙ sym same) ∙ ap (λ m. row_across m columns) (sym same)
    ]

-- the cell at a column of a row
pub slice_get-row_across : (place column : ℕ) (columns : List (List Value)) (cells : List Value) → slice_get columns column ≡ Some cells
    → slice_get (row_across place columns) column ≡ Some (get_or cells place (Int (pos 0)))
slice_get-row_across place column [] cells there = cc
slice_get-row_across place zero (first ∷ columns) cells there = let same : first ≡ cells = cc in rw same refl
slice_get-row_across place (suc column) (first ∷ columns) cells there = slice_get-row_across place column columns cells there

get_or-row_across : (place column : ℕ) (columns : List (List Value)) (cells : List Value) → slice_get columns column ≡ Some cells
    → get_or (row_across place columns) column (Int (pos 0)) ≡ get_or cells place (Int (pos 0))
get_or-row_across place column [] cells there = cc
get_or-row_across place zero (first ∷ columns) cells there = let same : first ≡ cells = cc in rw same refl
get_or-row_across place (suc column) (first ∷ columns) cells there = get_or-row_across place column columns cells there

-- the cells that rows have at a column are those of the column
cells_across-rows : (n column : ℕ) (columns : List (List Value)) (cells : List Value) → slice_get columns column ≡ Some cells → n ≤ length cells
    → cells_across column (rows_across n columns) ≡ take n cells
cells_across-rows zero column columns cells there within = refl
cells_across-rows (suc n) column columns cells there within =
    map-append (λ (row : List Value). get_or row column (Int (pos 0))) (rows_across n columns) (row_across n columns ∷ [])
    ∙ ap (λ cs. cs ++ get_or (row_across n columns) column (Int (pos 0)) ∷ []) (cells_across-rows n column columns cells there (omega arith))
    ∙ ap (λ c. take n cells ++ c ∷ []) (get_or-row_across n column columns cells there)
    ∙ sym (take_more cells n (Int (pos 0)) (omega arith)) ∙ ap (λ m. take m cells) (add-one n)

pub cells_across-all : (n column : ℕ) (columns : List (List Value)) (cells : List Value) → slice_get columns column ≡ Some cells → length cells ≡ n
    → cells_across column (rows_across n columns) ≡ cells
cells_across-all n column columns cells there size = cells_across-rows n column columns cells there (omega arith) ∙ take_all n cells (omega arith)

-- a row more leaves those before it, and stands behind them
row_across-pushed : (n place : ℕ) (columns : List (List Value)) (values : List Value) → AreEven n columns → length values ≡ length columns → place < n
    → row_across place (pushed columns values) ≡ row_across place columns
row_across-pushed n place [] values even same less = refl
row_across-pushed n place (cells ∷ columns) [] even same less = absurd (omega arith)
row_across-pushed n place (cells ∷ columns) (value ∷ values) even same less =
    let size : length cells ≡ n = All-head (λ (c : List Value). length c ≡ n) cells columns even in
    rw (get_or_append_left cells (value ∷ []) (Int (pos 0)) place (omega arith))
    (ap (λ rest. get_or cells place (Int (pos 0)) ∷ rest) (row_across-pushed n place columns values (All-tail (λ (c : List Value). length c ≡ n) cells columns even) (omega arith) less))

row_across-last : (n : ℕ) (columns : List (List Value)) (values : List Value) → AreEven n columns → length values ≡ length columns → row_across n (pushed columns values) ≡ values
row_across-last n [] [] even same = refl
row_across-last n [] (value ∷ values) even same = absurd (omega arith)
row_across-last n (cells ∷ columns) [] even same = absurd (omega arith)
row_across-last n (cells ∷ columns) (value ∷ values) even same =
    let size : length cells ≡ n = All-head (λ (c : List Value). length c ≡ n) cells columns even in
    rw (get_or_push cells value (Int (pos 0)) n size)
    (ap (λ rest. value ∷ rest) (row_across-last n columns values (All-tail (λ (c : List Value). length c ≡ n) cells columns even) (omega arith)))

rows_across-before : (n m : ℕ) (columns : List (List Value)) (values : List Value) → AreEven n columns → length values ≡ length columns → m ≤ n
    → rows_across m (pushed columns values) ≡ rows_across m columns
rows_across-before n zero columns values even same within = refl
rows_across-before n (suc m) columns values even same within =
    rw (row_across-pushed n m columns values even same (omega arith)) (ap (λ rows. rows ++ row_across m columns ∷ []) (rows_across-before n m columns values even same (omega arith)))

pub rows_across-pushed : (n : ℕ) (columns : List (List Value)) (values : List Value) → AreEven n columns → length values ≡ length columns
    → rows_across (n + 1) (pushed columns values) ≡ rows_across n columns ++ values ∷ []
rows_across-pushed n columns values even same =
    ap (λ m. rows_across m (pushed columns values)) (add-one n)
    ∙ ap (λ rows. rows ++ row_across n (pushed columns values) ∷ []) (rows_across-before n n columns values even same (omega arith))
    ∙ ap (λ row. rows_across n columns ++ row ∷ []) (row_across-last n columns values even same)

pub AreEven-pushed : (n : ℕ) (columns : List (List Value)) (values : List Value) → AreEven n columns → length values ≡ length columns → AreEven (n + 1) (pushed columns values)
AreEven-pushed n [] values even same = All-nil (λ (c : List Value). length c ≡ n + 1)
AreEven-pushed n (cells ∷ columns) [] even same = absurd (omega arith)
AreEven-pushed n (cells ∷ columns) (value ∷ values) even same =
    let size : length cells ≡ n = All-head (λ (c : List Value). length c ≡ n) cells columns even in
    All-cons (λ (c : List Value). length c ≡ n + 1) (cells ++ value ∷ []) (pushed columns values) (length_push cells value ∙ ap (λ m. m + 1) size)
    (AreEven-pushed n columns values (All-tail (λ (c : List Value). length c ≡ n) cells columns even) (omega arith))

-- what holds of the column at a place
pub record IsPlaced (stored : StoredRows) (column : ℕ) (cells : StoredCells) : Type 0 where
  pub size : length cells.cells ≡ length stored.rows
  pub kind : slice_get stored.kinds column ≡ Some cells.kind
  pub at : (row : ℕ) (value : Value) → row < length stored.rows → slice_get cells.cells row ≡ Some value → slice_get (get_or stored.rows row []) column ≡ Some value
  pub all : cells_across column stored.rows ≡ cells.cells

placed-in : (n column : ℕ) (columns : List StoredCells) (cells : StoredCells) → AreEven n (cells_in columns) → column < length columns → cells ≡ get_or columns column cells
    → IsPlaced (stored_in n columns) column cells
placed-in n column columns cells even within is =
    let there : slice_get columns column ≡ Some cells = slice_get_read columns (length columns) column cells refl within is in
    let its_cells : slice_get (cells_in columns) column ≡ Some cells.cells = slice_get-map (λ (c : StoredCells). c.cells) columns column ∙ rw there refl in
    let within_cells : column < length (cells_in columns) = rw length-map within in
    let size : length cells.cells ≡ n =
    subst (λ c. length c ≡ n) (get_or_from_slice_get (cells_in columns) column cells.cells [] its_cells) (All-get_or (λ (c : List Value). length c ≡ n) (cells_in columns) column [] within_cells even) in
    record {
      size = size ∙ sym (length-rows_across n (cells_in columns));
      kind = slice_get-map (λ (c : StoredCells). c.kind) columns column ∙ rw there refl;
      at = λ row value in_rows is_value.
          let less : row < n = omega (arith, length-rows_across n (cells_in columns)) in
          ap (λ r. slice_get r column) (get_or-rows_across n row (cells_in columns) less)
          ∙ slice_get-row_across row column (cells_in columns) cells.cells its_cells
          ∙ ap (λ v. Some v) (get_or_from_slice_get cells.cells row value (Int (pos 0)) is_value);
      all = cells_across-all n column (cells_in columns) cells.cells its_cells size;
    }

pub placed : (stored : StoredRows) (n column : ℕ) (columns : List StoredCells) (cells : StoredCells) → stored_in n columns ≡ stored → AreEven n (cells_in columns)
    → column < length stored.kinds → cells ≡ get_or columns column cells → IsPlaced stored column cells
placed stored n column columns cells view even within is =
    let size : length stored.kinds ≡ length columns = sym (ap (λ (s : StoredRows). length s.kinds) view) ∙ length-map columns (λ (c : StoredCells). c.kind) in
    subst (λ s. IsPlaced s column cells) view (placed-in n column columns cells even (omega arith) is)

room-at : (n : ℕ) (columns : List StoredCells) (column : StoredCells) → n < length columns → column ≡ get_or columns n column → get_or (rooms_in columns) n 0 ≡ column.room
room-at n columns column within is =
    get_or_from_slice_get (rooms_in columns) n column.room 0 (slice_get-map (λ (c : StoredCells). c.room) columns n ∙ rw (slice_get_read columns (length columns) n column refl within is) refl)

pub cells-at : (n : ℕ) (columns : List StoredCells) (column : StoredCells) → n < length columns → column ≡ get_or columns n column → get_or (cells_in columns) n [] ≡ column.cells
cells-at n columns column within is =
    get_or_from_slice_get (cells_in columns) n column.cells [] (slice_get-map (λ (c : StoredCells). c.cells) columns n ∙ rw (slice_get_read columns (length columns) n column refl within is) refl)

kinds-at : (n : ℕ) (columns : List StoredCells) (values : List Value) (column : StoredCells) (value : Value) → map kind_of values ≡ kinds_in columns → n < length columns → n < length values
    → column ≡ get_or columns n column → value ≡ get_or values n value → kind_of value ≡ column.kind
kinds-at n columns values column value same within within_values column_is value_is =
    let of_values : slice_get (map kind_of values) n ≡ Some (kind_of value) =
    slice_get-map kind_of values n ∙ rw (slice_get_read values (length values) n value refl within_values value_is) refl in
    let of_columns : slice_get (kinds_in columns) n ≡ Some column.kind =
    slice_get-map (λ (c : StoredCells). c.kind) columns n ∙ rw (slice_get_read columns (length columns) n column refl within column_is) refl in
    let both : slice_get (map kind_of values) n ≡ slice_get (kinds_in columns) n = ap (λ kinds. slice_get kinds n) same in
    cc

-- columns of which those from one on have got a value more
pub record ArePushed (n : ℕ) (old now : List StoredCells) (values : List Value) : Type 0 where
  pub before : take n now ≡ take n old
  pub size : length now ≡ length old
  pub kinds : kinds_in now ≡ kinds_in old
  pub cells : cells_in (drop n now) ≡ pushed (cells_in (drop n old)) (drop n values)
  pub room : (m : ℕ) → All (λ room. m + 1 ≤ room) (rooms_in old) → All (λ room. m ≤ room) (rooms_in now)

pub pushed-none : (n : ℕ) (old : List StoredCells) (values : List Value) → length old ≤ n → length values ≤ n → ArePushed n old old values
pushed-none n old values all all_values = record {
  before = refl;
  size = refl;
  kinds = refl;
  cells = rw (drop_all n old all) refl;
  room = λ m h. All-weaker (λ room. m + 1 ≤ room) (λ room. m ≤ room) (λ room le. omega arith) (rooms_in old) h;
}

-- what holds of a column that has got a value more
pub record HasOneMore (old now : StoredCells) (value : Value) : Type 0 where
  pub kind : now.kind ≡ old.kind
  pub cells : now.cells ≡ old.cells ++ value ∷ []
  pub room : old.room ≤ now.room + 1

-- the column at a place is as it was while the columns behind it get theirs
pub column-before : (n : ℕ) (old now : List StoredCells) (values : List Value) (d : StoredCells) → ArePushed (n + 1) old now values → get_or now n d ≡ get_or old n d
column-before n old now values d h =
    sym (get_or-take (n + 1) now n d (omega arith)) ∙ ap (λ columns. get_or columns n d) h.before ∙ get_or-take (n + 1) old n d (omega arith)

pub pushed-more : (n : ℕ) (old now : List StoredCells) (values : List Value) (column next : StoredCells) (value : Value) → ArePushed (n + 1) old now values → n < length old → n < length values
    → column ≡ get_or now n column → value ≡ get_or values n value → HasOneMore column next value → ArePushed n old (set now n next) values
pushed-more n old now values column next value h within within_values column_is value_is more =
    let size : length now ≡ length old = h.size in
    let in_now : n < length now = omega arith in
    let was : column ≡ get_or old n column = column_is ∙ column-before n old now values column h in
    record {
      before = take-set now n next ∙ sym (take-take n (n + 1) now (omega arith)) ∙ ap (λ columns. take n columns) h.before ∙ take-take n (n + 1) old (omega arith);
      size = length-set now n next ∙ size;
      kinds = map-set_same (λ (c : StoredCells). c.kind) now n next column (more.kind ∙ ap (λ (c : StoredCells). c.kind) column_is) ∙ h.kinds;
      cells =
          ap (λ columns. cells_in columns) (drop-set now n next in_now)
          ∙ ap (λ cells. cells ∷ cells_in (drop (n + 1) now)) more.cells
          ∙ ap (λ rest. (column.cells ++ value ∷ []) ∷ rest) h.cells
          ∙ sym (ap (λ columns. pushed (cells_in columns) (drop n values)) (drop_more old n column within ∙ ap (λ (c : StoredCells). c ∷ drop (n + 1) old) (sym was))
          ∙ ap (λ vs. pushed (cells_in (column ∷ drop (n + 1) old)) vs) (drop_more values n value within_values ∙ ap (λ v. v ∷ drop (n + 1) values) (sym value_is)));
      room = λ m all.
          let rooms : n < length (rooms_in old) = rw length-map within in
          let here : m + 1 ≤ column.room =
          subst (λ r. m + 1 ≤ r) (room-at n old column within was) (All-get_or (λ room. m + 1 ≤ room) (rooms_in old) n 0 rooms all) in
          let more_room = more.room in
          subst (λ rs. All (λ room. m ≤ room) rs) (sym (map-set (λ (c : StoredCells). c.room) now n next)) (All-set (λ room. m ≤ room) (rooms_in now) n next.room (omega arith) (h.room m all));
    }

-- what holds of a value that was taken off the end of what is left of values
pub record IsTaken (all left : List Value) (value : Value) : Type 0 where
  pub left_is : left ≡ take (length left) all
  pub value_is : value ≡ get_or all (length left) value
  pub within : length left < length all

pub taken : (all before left : List Value) (value : Value) → before ≡ take (length before) all → before ≡ left ++ value ∷ [] → IsTaken all left value
taken all before left value before_is split =
    let size : length before ≡ length left + 1 = ap length split ∙ length_push left value in
    let cut : length before ≡ min (length before) (length all) = ap length before_is ∙ length-take (length before) all in
    let within : length left < length all = omega arith in
    let both : left ++ value ∷ [] ≡ take (length left) all ++ get_or all (length left) value ∷ [] =
    sym split ∙ before_is ∙ ap (λ n. take n all) size ∙ take_more all (length left) value within in
    let parts = same_from_push left (take (length left) all) value (get_or all (length left) value) both in
    record { left_is = parts.0; value_is = parts.1; within = within }

-- a column takes a value
pub record Takes (column : StoredCells) (value : Value) : Type 0 where
  pub kind : kind_of value ≡ column.kind
  pub room : 0 < column.room
  pub few : length column.cells + 1 < 2 ^ 32

pub takes : (n : ℕ) (old now : List StoredCells) (values : List Value) (column : StoredCells) (value : Value) → ArePushed (n + 1) old now values → map kind_of values ≡ kinds_in old
    → All (λ room. 1 ≤ room) (rooms_in old) → All (λ (cells : List Value). length cells + 1 < 2 ^ 32) (cells_in old) → n < length values → column ≡ get_or now n column → value ≡ get_or values n value
    → Takes column value
takes n old now values column value h kinds rooms few within_values column_is value_is =
    let sizes : length values ≡ length old = sym (length-map values kind_of) ∙ ap length kinds ∙ length-map old (λ (c : StoredCells). c.kind) in
    let within : n < length old = omega arith in
    let was : column ≡ get_or old n column = column_is ∙ column-before n old now values column h in
    let in_rooms : n < length (rooms_in old) = rw length-map within in
    let in_cells : n < length (cells_in old) = rw length-map within in
    record {
      kind = kinds-at n old values column value kinds within within_values was value_is;
      room = subst (λ room. 1 ≤ room) (room-at n old column within was) (All-get_or (λ room. 1 ≤ room) (rooms_in old) n 0 in_rooms rooms);
      few =
          subst (λ (cells : List Value). length cells + 1 < 2 ^ 32) (cells-at n old column within was)
          (All-get_or (λ (cells : List Value). length cells + 1 < 2 ^ 32) (cells_in old) n [] in_cells few);
    }

-- how many rows are stored
pub length-stored : (stored : StoredRows) (n : ℕ) (columns : List StoredCells) → stored_in n columns ≡ stored → length stored.rows ≡ n
length-stored stored n columns view = sym (ap (λ (s : StoredRows). length s.rows) view) ∙ length-rows_across n (cells_in columns)

-- columns that got the values of a row
pub record HaveRow (stored : StoredRows) (n : ℕ) (now : List StoredCells) (row : List Value) : Type 0 where
  pub rows : rows_across (n + 1) (cells_in now) ≡ stored.rows ++ row ∷ []
  pub even : AreEven (n + 1) (cells_in now)

pub have_row : (stored : StoredRows) (n : ℕ) (columns now : List StoredCells) (row : List Value) → stored_in n columns ≡ stored → AreEven n (cells_in columns) → map kind_of row ≡ stored.kinds
    → cells_in now ≡ pushed (cells_in columns) row → HaveRow stored n now row
have_row stored n columns now row view even kinds cells =
    let same : length row ≡ length (cells_in columns) =
    sym (length-map row kind_of) ∙ ap length kinds ∙ sym (ap (λ (s : StoredRows). length s.kinds) view) ∙ length-map columns (λ (c : StoredCells). c.kind) ∙ sym (length-map columns (λ (c : StoredCells). c.cells)) in
    record {
      rows =
          ap (λ c. rows_across (n + 1) c) cells ∙ rows_across-pushed n (cells_in columns) row even same ∙ ap (λ (s : StoredRows). s.rows ++ row ∷ []) view;
      even = subst (λ c. AreEven (n + 1) c) (sym cells) (AreEven-pushed n (cells_in columns) row even same);
    }

pub same_column : (n : ℕ) (now : List StoredCells) (column next : StoredCells) → column ≡ get_or now n column → next.kind ≡ column.kind → next.cells ≡ column.cells
    → (kinds_in (set now n next) ≡ kinds_in now) × (cells_in (set now n next) ≡ cells_in now)
same_column n now column next is kind cells = (
  map-set_same (λ (c : StoredCells). c.kind) now n next column (kind ∙ ap (λ (c : StoredCells). c.kind) is),
  map-set_same (λ (c : StoredCells). c.cells) now n next column (cells ∙ ap (λ (c : StoredCells). c.cells) is),
)

pub room-more : (count n : ℕ) (now : List StoredCells) (next : StoredCells) → n < length now → count ≤ next.room → All (λ room. count ≤ room) (rooms_in (take n now))
    → All (λ room. count ≤ room) (rooms_in (take (n + 1) (set now n next)))
room-more count n now next within enough before =
    subst (λ columns. All (λ room. count ≤ room) (rooms_in columns)) (sym (take_more_set now n next within))
    (subst (λ rooms. All (λ room. count ≤ room) rooms) (sym (map_push (λ (c : StoredCells). c.room) (take n now) next)) (All-push (λ room. count ≤ room) (rooms_in (take n now)) next.room before enough))
