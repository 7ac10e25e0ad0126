-- What DISTINCT kept tells whether a row is given.
use Rattle.std.proofs.Common.{◌≡◌, ℕ, suc, Bool, true, false, cond, List, [], ◌∷◌, length, take, Some, None, refl, sym, ◌∙◌, ap, arith}
use Rattle.std.proofs.lemmas.List.{take_all}
use Rattle.std.proofs.lemmas.Option.{slice_get_within}
use Rattle.std.specs.List.{slice_get}
use Rattle.rs_order.specs.Asks.{asks_for, bar_after}
use Rattle.rs_order.proofs.PartFacts.{take-snoc}
use Rattle.rs_order.proofs.ReorderFacts.{asks_for-None}
use Rattle.rs_rank.specs.Keys.{key_cmp}
use Rattle.rs_rank.specs.declared.key.Key.{Key}
use Rattle.rs_rank.specs.declared.row.RankRow.{RankRow}
use Rattle.rs_outputs.specs.Rows.{OutputRow, firsts, lists_of, values_of}
use Rattle.rs_outputs.specs.Seen.{has_list, with_list}
use Rattle.rs_outputs.proofs.ValueFacts.{has_list-of, lists_of-more}
use Rattle.rs_filter.specs.Distinct.{Distinct, DistinctStands, given_for}

given-new : (b : Bool) (row : RankRow) → cond b None (Some row) ≡ Some row → b ≡ false
given-new true row e = cc
given-new false row e = refl

given-old : (b : Bool) (row : RankRow) → cond b None (Some row) ≡ None → b ≡ true
given-old true row e = refl
given-old false row e = cc

kept : (rows : List OutputRow) (fed : ℕ) (d : Distinct) (row : OutputRow) → DistinctStands rows fed d → has_list row.values d.lists ≡ has_list row.values (values_of (take fed rows))
kept rows fed d row st = ap (λ (v : Distinct). has_list row.values v.lists) st.state ∙ has_list-of row.values (take fed rows)

pub new-values : (rows : List OutputRow) (fed : ℕ) (d : Distinct) (row : OutputRow) → DistinctStands rows fed d → given_for row.row row.values d.lists ≡ Some row.row → has_list row.values (values_of (take fed rows)) ≡ false
new-values rows fed d row st e = sym (kept rows fed d row st) ∙ given-new (has_list row.values d.lists) row.row e

pub old-values : (rows : List OutputRow) (fed : ℕ) (d : Distinct) (row : OutputRow) → DistinctStands rows fed d → given_for row.row row.values d.lists ≡ None → has_list row.values (values_of (take fed rows)) ≡ true
old-values rows fed d row st e = sym (kept rows fed d row st) ∙ given-old (has_list row.values d.lists) row.row e

pub fed-stands : (rows : List OutputRow) (fed : ℕ) (d : Distinct) (row : OutputRow) → DistinctStands rows fed d → slice_get rows fed ≡ Some row → DistinctStands rows (suc fed) (record d { lists = with_list row.values d.lists })
fed-stands rows fed d row st e =
    let inside = slice_get_within rows fed row e in
    record {
      within = omega arith;
      state =
          ap (λ (v : Distinct). record v { lists = with_list row.values v.lists }) st.state
          ∙ ap (λ lists. record { lists = lists; spent = false }) (sym (ap lists_of (take-snoc fed rows row e) ∙ lists_of-more (take fed rows) row));
    }

pub all-given : (rows : List OutputRow) → length (firsts (take (length rows) rows)) ≡ length (firsts rows)
all-given rows = ap (λ xs. length (firsts xs)) (take_all (length rows) rows (omega arith))

pub all-asks : (key : OutputRow → Key) (rows : List OutputRow) → asks_for key_cmp key rows (bar_after key (firsts rows) (length (firsts rows))) ≡ suc (length rows)
all-asks key rows = ap (asks_for key_cmp key rows) (past (firsts rows)) ∙ asks_for-None key_cmp key rows
  where
    past : (xs : List OutputRow) → bar_after key xs (length xs) ≡ None
    past [] = refl
    past (x ∷ xs) = past xs
