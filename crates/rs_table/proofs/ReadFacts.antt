-- Fields that are read into columns, and rows of them.
use Rattle.std.proofs.Common.{ℕ, ℤ, ◌≡◌, Bool, true, false, ◌+◌, ◌-◌, ◌<◌, ◌≤◌, ◌^◌, List, [], ◌∷◌, ◌++◌, length, get_or, set, map, take, drop, refl, sym, ap, subst, ◌∙◌, arith}
use Rattle.std.specs.Prelude.{IsUtf8, Result, Ok, Err, Some, None, if◌then◌else◌}
use Rattle.std.specs.Str.{is_utf8}
use Rattle.std.proofs.lemmas.Str.{IsUtf8-from_is_utf8, is_utf8-from_IsUtf8}
use Rattle.std.proofs.lemmas.List.{append-nil, append_assoc, drop_all, drop_more, get_or-set_other, length-map, length-take-le, length_push, map_push, take_all, take_more, take_more_set}
use Rattle.std.proofs.lemmas.List.Elements.{All-get_or}
use Rattle.std.proofs.lemmas.Option.{get_or_from_slice_get, slice_get-get_or, slice_get-map}
use Rattle.std.proofs.Math.Seq.{map-set_same}
use Rattle.rs_value.specs.declared.kind.Kind.TheVariants as kind
use Rattle.rs_value.specs.Number.{int_value}
use Rattle.rs_value.specs.declared.value.Value.{Value}
use Rattle.rs_value.specs.declared.value.Value.TheVariants.{Int, Text}
use Rattle.rs_value.specs.Results.{◌>>=◌}
use Rattle.rs_table.specs.declared.fault.TableFault.{TableFault}
use Rattle.rs_table.specs.declared.fault.TableFault.TheVariants.{NotInt, NotUtf8}
use Rattle.rs_table.specs.Appended.{appended}
use Rattle.rs_table.specs.Column.{Column}
use Rattle.rs_table.specs.Reading.{cell_of, cells_of, row_of, rows_from}
use Rattle.rs_table.specs.ReadInto.{ReadInto}
use Rattle.rs_table.specs.Relation.{most_rows, row_fits}
use Rattle.rs_table.specs.Stored.{AreEven, StoredCells, cells_in, kinds_in, pushed, rows_across}
use Rattle.rs_table.proofs.RelationFacts.{length-row_fits, row_of-row}
use Rattle.rs_table.proofs.StoredFacts.{AreEven-pushed, cells-at, rows_across-pushed}

appended-none : {A : Type 0} (read : Result (List A) TableFault) → appended [] read ≡ read
appended-none (Ok rest) = refl
appended-none (Err fault) = refl

-- one more is read, and is the last of those that were read before the rest
appended-more : {A : Type 0} (made : List A) (x : A) (rest : Result (List A) TableFault)
    → appended made (rest >>= (λ xs. Ok (x ∷ xs))) ≡ appended (made ++ x ∷ []) rest
appended-more made x (Ok rest) = ap (λ all. Ok all) (sym (append_assoc made (x ∷ []) rest))
appended-more made x (Err fault) = refl

-- the last column gets the last value
pushed-push : (columns : List (List Value)) (values : List Value) (cells : List Value) (value : Value) → length values ≡ length columns
    → pushed (columns ++ cells ∷ []) (values ++ value ∷ []) ≡ pushed columns values ++ (cells ++ value ∷ []) ∷ []
pushed-push [] [] cells value same = refl
pushed-push [] (v ∷ values) cells value same = absurd (omega arith)
pushed-push (c ∷ columns) [] cells value same = absurd (omega arith)
pushed-push (c ∷ columns) (v ∷ values) cells value same = ap (λ rest. (c ++ v ∷ []) ∷ rest) (pushed-push columns values cells value (omega arith))

-- columns into which the fields before this place were read
pub record AreRead (columns : List Column) (row : ℕ) (fields : List (List ℕ)) (n : ℕ) (old now : List StoredCells) : Type 0 where
  pub values : List Value
  pub so_far : appended values (cells_of (drop n columns) row (n + 1) (drop n fields)) ≡ cells_of columns row 1 fields
  pub count : length values ≡ n
  pub before : cells_in (take n now) ≡ pushed (cells_in (take n old)) values
  pub behind : (k : ℕ) (d : StoredCells) → n ≤ k → get_or now k d ≡ get_or old k d
  pub kinds : kinds_in now ≡ kinds_in old

pub read-none : (columns : List Column) (row : ℕ) (fields : List (List ℕ)) (old : List StoredCells) → AreRead columns row fields 0 old old
read-none columns row fields old = record {
  values = [];
  so_far = appended-none (cells_of columns row 1 fields);
  count = refl;
  before = refl;
  behind = λ k d within. refl;
  kinds = refl;
}

length-kinds : (columns : List Column) (cells : List StoredCells) → kinds_in cells ≡ map (λ (column : Column). column.1) columns → length cells ≡ length columns
length-kinds columns cells kinds =
    sym (length-map cells (λ (c : StoredCells). c.kind)) ∙ ap length kinds ∙ length-map columns (λ (column : Column). column.1)

pub length-read : (columns : List Column) (row : ℕ) (fields : List (List ℕ)) (n : ℕ) (old now : List StoredCells) → AreRead columns row fields n old now → kinds_in old ≡ map (λ (column : Column). column.1) columns
    → length now ≡ length columns
length-read columns row fields n old now h kinds = length-kinds columns now (h.kinds ∙ kinds)

-- a place at which there is a column, its cells, and a field
pub record IsAt (columns : List Column) (fields : List (List ℕ)) (now : List StoredCells) (n : ℕ) (cells : StoredCells) : Type 0 where
  pub in_columns : n < length columns
  pub in_fields : n < length fields
  pub in_now : n < length now
  pub is : cells ≡ get_or now n cells

pub is-at : (columns : List Column) (row : ℕ) (fields : List (List ℕ)) (n : ℕ) (old now : List StoredCells) (cells : StoredCells) → AreRead columns row fields n old now
    → kinds_in old ≡ map (λ (column : Column). column.1) columns → length fields ≡ length columns → n < length columns → cells ≡ get_or now n cells → IsAt columns fields now n cells
is-at columns row fields n old now cells h kinds same within is =
    let size = length-read columns row fields n old now h kinds in
    record { in_columns = within; in_fields = omega arith; in_now = omega arith; is = is }

-- the kind of the column at a place
kind-at : (columns : List Column) (now : List StoredCells) (n : ℕ) (cells : StoredCells) (d : Column) → n < length columns → n < length now → cells ≡ get_or now n cells
    → kinds_in now ≡ map (λ (column : Column). column.1) columns → (get_or columns n d).1 ≡ cells.kind
kind-at columns now n cells d within in_now is kinds =
    let of_columns = get_or_from_slice_get (map (λ (column : Column). column.1) columns) n (get_or columns n d).1 cells.kind
    (slice_get-map (λ (column : Column). column.1) columns n ∙ rw (slice_get-get_or columns n d within) refl) in
    let of_now = get_or_from_slice_get (kinds_in now) n (get_or now n cells).kind cells.kind
    (slice_get-map (λ (c : StoredCells). c.kind) now n ∙ rw (slice_get-get_or now n cells in_now) refl) in
    sym of_columns ∙ sym (ap (λ kinds. get_or kinds n cells.kind) kinds) ∙ of_now ∙ ap (λ (c : StoredCells). c.kind) (sym is)

-- what is left to read at a place begins with the field there
left-at : (columns : List Column) (row : ℕ) (fields : List (List ℕ)) (n : ℕ) (old now : List StoredCells) (cells : StoredCells) → AreRead columns row fields n old now
    → IsAt columns fields now n cells → kinds_in old ≡ map (λ (column : Column). column.1) columns
    → cells_of (drop n columns) row (n + 1) (drop n fields)
    ≡ (cell_of cells.kind row (n + 1) (get_or fields n []) >>= (λ value. cells_of (drop (n + 1) columns) row (n + 1 + 1) (drop (n + 1) fields) >>= (λ values. Ok (value ∷ values))))
left-at columns row fields n old now cells h at kinds =
    let d : Column = ([], cells.kind) in
    ap (λ cs. cells_of cs row (n + 1) (drop n fields)) (drop_more columns n d at.in_columns)
    ∙ ap (λ fs. cells_of (get_or columns n d ∷ drop (n + 1) columns) row (n + 1) fs) (drop_more fields n [] at.in_fields)
    ∙ ap (λ k. cell_of k row (n + 1) (get_or fields n []) >>= (λ value. cells_of (drop (n + 1) columns) row (n + 1 + 1) (drop (n + 1) fields) >>= (λ values. Ok (value ∷ values))))
    (kind-at columns now n cells d at.in_columns at.in_now at.is (h.kinds ∙ kinds))

-- a field that is refused refuses the row
pub read-fault : (columns : List Column) (row : ℕ) (fields : List (List ℕ)) (n : ℕ) (old now : List StoredCells) (cells : StoredCells) (fault : TableFault) → AreRead columns row fields n old now
    → IsAt columns fields now n cells → kinds_in old ≡ map (λ (column : Column). column.1) columns → cell_of cells.kind row (n + 1) (get_or fields n []) ≡ Err fault
    → cells_of columns row 1 fields ≡ Err fault
read-fault columns row fields n old now cells fault h at kinds refused =
    let left : cells_of (drop n columns) row (n + 1) (drop n fields) ≡ Err fault = left-at columns row fields n old now cells h at kinds ∙ ap (λ read. read >>= more) refused in
    sym h.so_far ∙ ap (λ left. appended h.values left) left
  where
    more : Value → Result (List Value) TableFault
    more value = cells_of (drop (n + 1) columns) row (n + 1 + 1) (drop (n + 1) fields) >>= (λ values. Ok (value ∷ values))

-- a field that is read joins its column
pub read-more : (columns : List Column) (row : ℕ) (fields : List (List ℕ)) (n : ℕ) (old now : List StoredCells) (cells next : StoredCells) (value : Value) → AreRead columns row fields n old now
    → IsAt columns fields now n cells → kinds_in old ≡ map (λ (column : Column). column.1) columns → cell_of cells.kind row (n + 1) (get_or fields n []) ≡ Ok value
    → next.kind ≡ cells.kind → next.cells ≡ cells.cells ++ value ∷ [] → AreRead columns row fields (n + 1) old (set now n next)
read-more columns row fields n old now cells next value h at kinds read kind joined =
    let in_old : n < length old = let a = length-kinds columns old kinds in let b = at.in_columns in omega arith in
    let was : get_or old n cells ≡ cells = sym (at.is ∙ h.behind n cells (omega arith)) in
    let left : cells_of (drop n columns) row (n + 1) (drop n fields) ≡ (others >>= (λ values. Ok (value ∷ values))) =
    left-at columns row fields n old now cells h at kinds ∙ ap (λ read. read >>= (λ value. others >>= (λ values. Ok (value ∷ values)))) read in
    let first : length h.values ≡ length (cells_in (take n old)) = h.count ∙ sym (length-first n old (omega arith)) in
    record {
      values = h.values ++ value ∷ [];
      so_far =
          sym (appended-more h.values value others)
          ∙ sym (ap (λ left. appended h.values left) left)
          ∙ h.so_far;
      count = length_push h.values value ∙ ap (λ m. m + 1) h.count;
      before =
          ap cells_in (take_more_set now n next at.in_now)
          ∙ map_push (λ (c : StoredCells). c.cells) (take n now) next
          ∙ ap (λ cs. cs ++ next.cells ∷ []) h.before
          ∙ ap (λ c. pushed (cells_in (take n old)) h.values ++ c ∷ []) joined
          ∙ sym (pushed-push (cells_in (take n old)) h.values cells.cells value first)
          ∙ ap (λ cs. pushed cs (h.values ++ value ∷ []))
          (sym (ap cells_in (take_more old n cells in_old) ∙ map_push (λ (c : StoredCells). c.cells) (take n old) (get_or old n cells) ∙ ap (λ (c : StoredCells). cells_in (take n old) ++ c.cells ∷ []) was));
      behind = λ k d within. get_or-set_other now n k next d (λ e. omega (arith, e, within)) ∙ h.behind k d (omega arith);
      kinds = map-set_same (λ (c : StoredCells). c.kind) now n next cells (kind ∙ ap (λ (c : StoredCells). c.kind) at.is) ∙ h.kinds;
    }
  where
    others : Result (List Value) TableFault
    others = cells_of (drop (n + 1) columns) row (n + 1 + 1) (drop (n + 1) fields)

    length-first : (m : ℕ) (columns : List StoredCells) → m ≤ length columns → length (cells_in (take m columns)) ≡ m
    length-first m columns within = length-map (take m columns) (λ (c : StoredCells). c.cells) ∙ length-take-le m columns within

-- all fields of a row are read into the columns
pub read-all : (columns : List Column) (row : ℕ) (fields : List (List ℕ)) (n : ℕ) (old now : List StoredCells) → AreRead columns row fields n old now
    → kinds_in old ≡ map (λ (column : Column). column.1) columns → length columns ≤ n → ReadInto (cells_of columns row 1 fields) (cells_in old) (cells_in now)
read-all columns row fields n old now h kinds all = (
  h.values,
  sym h.so_far ∙ ap (λ cs. appended h.values (cells_of cs row (n + 1) (drop n fields))) (drop_all n columns all) ∙ ap (λ vs. Ok vs) (append-nil h.values),
  sym (ap cells_in (take_all n now (let e = length-read columns row fields n old now h kinds in omega arith))) ∙ h.before
      ∙ ap (λ cs. pushed (cells_in cs) h.values) (take_all n old (let e = length-kinds columns old kinds in omega arith)),
)

-- the column at a place has few cells
pub few-at : (columns : List Column) (row : ℕ) (fields : List (List ℕ)) (n : ℕ) (old now : List StoredCells) (cells : StoredCells) → AreRead columns row fields n old now
    → IsAt columns fields now n cells → kinds_in old ≡ map (λ (column : Column). column.1) columns → AreEven (row - 1) (cells_in old) → row ≤ most_rows → length cells.cells + 1 < 2 ^ 32
few-at columns row fields n old now cells h at kinds even few =
    let in_old : n < length (cells_in old) = let a = length-kinds columns old kinds in let b = at.in_columns in rw length-map (omega arith) in
    let was : cells ≡ get_or old n cells = at.is ∙ h.behind n cells (omega arith) in
    let size : length (get_or (cells_in old) n []) ≡ row - 1 = All-get_or (λ (c : List Value). length c ≡ row - 1) (cells_in old) n [] in_old even in
    let same : get_or (cells_in old) n [] ≡ cells.cells = cells-at n old cells (let a = length-kinds columns old kinds in let b = at.in_columns in omega arith) was in
    let there : length cells.cells ≡ row - 1 = ap length (sym same) ∙ size in
    omega (arith, there, few)

-- a field that writes a number is that number
pub cell-number : (row column : ℕ) (field : List ℕ) (number : ℤ) → int_value field ≡ Some number → cell_of kind.Int row column field ≡ Ok (Int number)
cell-number row column field number is = rw is refl

pub cell-no_number : (row column : ℕ) (field : List ℕ) → int_value field ≡ None → cell_of kind.Int row column field ≡ Err (NotInt row column)
cell-no_number row column field is = rw is refl

-- a field that is UTF-8 is that text
pub cell-text : (row column : ℕ) (field : List ℕ) → IsUtf8 field → cell_of kind.Text row column field ≡ Ok (Text field)
cell-text row column field utf8 = rw (is_utf8-from_IsUtf8 field utf8) refl

pub cell-no_text : (row column : ℕ) (field : List ℕ) → ¬ (IsUtf8 field) → cell_of kind.Text row column field ≡ Err (NotUtf8 row column)
cell-no_text row column field not_utf8 = go (is_utf8 field) refl where
  go : (utf8 : Bool) → is_utf8 field ≡ utf8 → (if utf8 then Ok (Text field) else Err (NotUtf8 row column)) ≡ Err (NotUtf8 row column)
  go true e = absurd (not_utf8 (IsUtf8-from_is_utf8 field e))
  go false e = refl

-- rows that were read, and what is left to read: records, from that of this number on
pub rows-more : (columns : List Column) (n : ℕ) (fields : List (List ℕ)) (rest : List (List (List ℕ))) (all : Result (List (List Value)) TableFault) (old now : List StoredCells)
    → kinds_in old ≡ map (λ (column : Column). column.1) columns → AreEven n (cells_in old) → ReadInto (row_of columns (n + 1) fields) (cells_in old) (cells_in now)
    → appended (rows_across n (cells_in old)) (rows_from columns (n + 1) (fields ∷ rest)) ≡ all
    → (AreEven (n + 1) (cells_in now)) × (appended (rows_across (n + 1) (cells_in now)) (rows_from columns (n + 1 + 1) rest) ≡ all)
rows-more columns n fields rest all old now kinds even (values, read, joined) so_far =
    let fit : row_fits columns values ≡ true = (row_of-row columns (n + 1) fields values read).fit in
    let size : length values ≡ length (cells_in old) = length-row_fits columns values fit ∙ sym (length-kinds columns old kinds) ∙ sym (length-map old (λ (c : StoredCells). c.cells)) in
    let others : Result (List (List Value)) TableFault = rows_from columns (n + 1 + 1) rest in
    let here : rows_from columns (n + 1) (fields ∷ rest) ≡ (others >>= (λ rows. Ok (values ∷ rows))) = ap (λ row. row >>= (λ values. others >>= (λ rows. Ok (values ∷ rows)))) read in (
      subst (λ cells. AreEven (n + 1) cells) (sym joined) (AreEven-pushed n (cells_in old) values even size),
      ap (λ cells. appended (rows_across (n + 1) cells) others) joined
          ∙ ap (λ rows. appended rows others) (rows_across-pushed n (cells_in old) values even size)
          ∙ sym (appended-more (rows_across n (cells_in old)) values others)
          ∙ sym (ap (λ left. appended (rows_across n (cells_in old)) left) here)
          ∙ so_far,
    )
