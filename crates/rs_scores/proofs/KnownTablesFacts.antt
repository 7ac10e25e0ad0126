-- What was read of some bytes is the table of these bytes.
use Rattle.std.proofs.Common.{ℕ, ◌≡◌, ◌∙◌, Bool, true, false, cond, List, [], ◌∷◌, Some, refl, ap, sym, subst}
use Rattle.std.proofs.lemmas.Bool.{and_parts, true≢false}
use Rattle.std.specs.Bool.{Decides}
use Rattle.std.specs.Cmp.Lexicographic.{bytes_decides, pointwise, pointwise_decides}
use Rattle.std.specs.Prelude.{find, Ok}
use Rattle.std.specs.Str.{bytes_eq}
use Rattle.rs_value.specs.declared.kind.Kind.{Kind}
use Rattle.rs_value.specs.declared.kind.Kind.TheVariants.{Int, Text}
use Rattle.rs_table.specs.Column.{Column}
use Rattle.rs_table.specs.Reading.{table_of}
use Rattle.rs_scores.specs.KnownTables.{IsTableRead, TableRead, is_read_of, is_same_column, is_same_kind, table_read_of}

same_kind-decides : (kind other : Kind) → Decides (is_same_kind kind other) (kind ≡ other)
same_kind-decides Int Int = (λ e. refl, λ e. refl)
same_kind-decides Int Text = (λ e. absurd (true≢false (sym e)), λ e. absurd (true≢false (sym (ap (is_same_kind Int) (sym e)))))
same_kind-decides Text Int = (λ e. absurd (true≢false (sym e)), λ e. absurd (true≢false (sym (ap (is_same_kind Text) (sym e)))))
same_kind-decides Text Text = (λ e. refl, λ e. refl)

same_column-decides : (column other : Column) → Decides (is_same_column column other) (column ≡ other)
same_column-decides column other = (
  λ e.
      let both = and_parts (bytes_eq column.0 other.0) (is_same_kind column.1 other.1) e in
      let name : column.0 ≡ other.0 = (bytes_decides column.0 other.0).0 both.0 in
      let kind : column.1 ≡ other.1 = (same_kind-decides column.1 other.1).0 both.1 in
      ap (λ (n : List ℕ). (n, column.1)) name ∙ ap (λ (k : Kind). (other.0, k)) kind,
  λ e. subst (λ (c : Column). is_same_column column c ≡ true) e (rw ((bytes_decides column.0 column.0).1 refl) ((same_kind-decides column.1 column.1).1 refl)),
)

-- what is found passes the test
found-passes : {A : Type 0} (test : A → Bool) (xs : List A) (x : A) → find test xs ≡ Some x → test x ≡ true
found-passes test [] x e = cc
found-passes test (first ∷ rest) x e =
    (elim (test first) as (λ b. test first ≡ b → cond b (Some first) (find test rest) ≡ Some x → test x ≡ true) [
      | true ↦ λ is found. subst (λ y. test y ≡ true) (some-same first x found) is
      | false ↦ λ is found. found-passes test rest x found
    ]) refl e where
      some-same : {A : Type 0} (a b : A) → Some a ≡ Some b → a ≡ b
      some-same a b e = cc

-- a table that was found to be read of these bytes is their table
pub read-is : (schema : List Column) (bytes : List ℕ) (tables : List TableRead) (read : TableRead) → table_read_of schema bytes tables ≡ Some read → IsTableRead read
    → table_of schema bytes ≡ Ok read.table
read-is schema bytes tables read found is =
    let both = and_parts (pointwise is_same_column read.table.schema schema) (bytes_eq read.bytes bytes) (found-passes (is_read_of schema bytes) tables read found) in
    let columns : read.table.schema ≡ schema = (pointwise_decides same_column-decides read.table.schema schema).0 both.0 in
    let same : read.bytes ≡ bytes = (bytes_decides read.bytes bytes).0 both.1 in
    subst (λ (s : List Column). table_of s bytes ≡ Ok read.table) columns (subst (λ (b : List ℕ). table_of read.table.schema b ≡ Ok read.table) same is)
