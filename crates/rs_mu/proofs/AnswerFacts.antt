-- The answers as the input of a further operator.
use Rattle.std.proofs.Common.{◌≡◌, ◌-◌, ◌≤◌, List, [], ◌∷◌, length, get_or, map, bit_or, refl, sym, ◌∙◌, subst}
use Rattle.std.proofs.lemmas.List.{length-map}
use Rattle.std.specs.List.{AllByRecursion}
use Rattle.rs_order.specs.Climbing.{Climbs, Differs, HasDistinctKeys}
use Rattle.rs_order.specs.Sorting.{sorted}
use Rattle.rs_order.proofs.ClimbingFacts.{AllByRecursion-In, AllByRecursion-from_In, Climbs-map}
use Rattle.rs_order.proofs.EachFacts.{each-map}
use Rattle.rs_order.proofs.SortingFacts.{HasDistinctKeys-sorted, In-sorted-back}
use Rattle.rs_rank.proofs.OrderFacts.{IsTied-of_parts, IsTied-parts}
use Rattle.rs_rank.specs.declared.key.Key.{Key}
use Rattle.rs_rank.specs.declared.row.RankRow.{RankRow}
use Rattle.rs_rank.specs.Keys.{key_cmp}
use Rattle.rs_rank.specs.Masks.{mask_of}
use Rattle.rs_rank.specs.Rows.{HasSum}
use Rattle.rs_rank.specs.Ids.{AreOtherIds}
use Rattle.rs_rank.specs.Rows.{HaveOtherIds}
use Rattle.rs_mu.specs.Stands.{Evaluation, IsInput, answers, new_key, old_key, with_worth}
use Rattle.rs_mu.proofs.MuFacts.{sum_with-term}
use Rattle.rs_order.proofs.ReorderFacts.{whole-climbs}
use Rattle.rs_mu.proofs.StandFacts.{answers-map, key_cmp-total, length-sorted, reorder, row_key}

pub length-answers : (e : Evaluation) (rows : List RankRow) → length (answers e rows) ≡ length rows
length-answers e rows = length-sorted key_cmp (new_key e) (map (with_worth e) rows) ∙ length-map rows (with_worth e)

pub answers-climb : (e : Evaluation) (rows : List RankRow) → IsInput e rows → Climbs key_cmp (new_key e) (answers e rows)
answers-climb e rows input =
    subst (Climbs key_cmp (new_key e)) (sym (answers-map e rows))
    (Climbs-map key_cmp (new_key e) (with_worth e) (sorted key_cmp (row_key e) rows) (whole-climbs key_cmp (old_key e) (row_key e) rows (reorder e rows input)))

pub answers-sums : (e : Evaluation) (rows : List RankRow) → IsInput e rows → AllByRecursion (HasSum e.weights (bit_or e.terms (mask_of e.term))) (answers e rows)
answers-sums e rows input =
    subst (AllByRecursion (HasSum e.weights (bit_or e.terms (mask_of e.term)))) (sym (answers-map e rows))
    (each-map (HasSum e.weights (bit_or e.terms (mask_of e.term))) (with_worth e) (sorted key_cmp (row_key e) rows)
    (AllByRecursion-from_In (λ row. HasSum e.weights (bit_or e.terms (mask_of e.term)) (with_worth e row)) (sorted key_cmp (row_key e) rows)
    (λ row h.
    let here = In-sorted-back key_cmp (row_key e) rows row h in
    sum_with-term e.weights e.terms e.term row.sum (e.worth row) input.weights input.term
    (AllByRecursion-In (HasSum e.weights e.terms) rows input.sums row here)
    (AllByRecursion-In (λ row. e.worth row ≤ get_or e.weights.max (e.term - 1) 0) rows input.limits row here))))

-- rows have other ids where keys of these ids alone differ
abbrev ids_key : RankRow → Key
ids_key row = record { bound = 0; ids = row.ids }

HasDistinctKeys-ids : (rows : List RankRow) → HaveOtherIds rows → HasDistinctKeys key_cmp ids_key rows
HasDistinctKeys-ids [] others = tt
HasDistinctKeys-ids (row ∷ rows) others = (
  AllByRecursion-from_In (Differs key_cmp ids_key row) rows
      (λ z h tied. let parts = IsTied-parts (ids_key row) (ids_key z) tied in AllByRecursion-In (λ other. AreOtherIds row.ids other.ids) rows others.0 z h parts.1 parts.2),
  HasDistinctKeys-ids rows others.1,
)

HaveOtherIds-keys : (rows : List RankRow) → HasDistinctKeys key_cmp ids_key rows → HaveOtherIds rows
HaveOtherIds-keys [] distinct = tt
HaveOtherIds-keys (row ∷ rows) distinct = (
  AllByRecursion-from_In (λ other. AreOtherIds row.ids other.ids) rows
      (λ z h block numbers. AllByRecursion-In (Differs key_cmp ids_key row) rows distinct.0 z h (IsTied-of_parts (ids_key row) (ids_key z) (refl, block, numbers))),
  HaveOtherIds-keys rows distinct.1,
)

HaveOtherIds-map : (e : Evaluation) (rows : List RankRow) → HaveOtherIds rows → HaveOtherIds (map (with_worth e) rows)
HaveOtherIds-map e [] others = tt
HaveOtherIds-map e (row ∷ rows) others = (each-map (λ other. AreOtherIds row.ids other.ids) (with_worth e) rows others.0, HaveOtherIds-map e rows others.1)

pub answers-others : (e : Evaluation) (rows : List RankRow) → IsInput e rows → HaveOtherIds (answers e rows)
answers-others e rows input =
    subst HaveOtherIds (sym (answers-map e rows))
    (HaveOtherIds-map e (sorted key_cmp (row_key e) rows)
    (HaveOtherIds-keys (sorted key_cmp (row_key e) rows)
    (HasDistinctKeys-sorted key_cmp (row_key e) key_cmp key_cmp-total ids_key rows (HasDistinctKeys-ids rows input.others))))
