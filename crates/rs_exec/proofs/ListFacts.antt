-- The list of each node, whatever its kind, can be the input of an operator: its keys rise, and no two rows have the same ids.
use Rattle.std.proofs.Common.{◌≡◌, ◌∙◌, ℕ, ◌≤◌, ◌&&◌, ◌++◌, not, Bool, true, false, List, [], ◌∷◌, length, map, bit_or, refl, sym, ap, ap₂, subst, arith}
use Rattle.std.proofs.lemmas.Bool.{eq-eqb}
use Rattle.std.proofs.lemmas.List.{length-map}
use Rattle.std.proofs.lemmas.Cmp.{nat_cmp_total, tied_itself}
use Rattle.std.specs.Cmp.Lexicographic.{slice_cmp}
use Rattle.std.specs.List.{AllByRecursion, filter}
use Rattle.std.specs.Ordering.{nat_cmp, ordering_then}
use Rattle.std.specs.declared.cmp.Ordering.TheVariants.{Equal, Less}
use Rattle.rs_order.specs.Climbing.{Climbs, Differs, HasDistinctKeys, In, Precedes}
use Rattle.rs_order.proofs.ClimbingFacts.{AllByRecursion-In, AllByRecursion-from_In}
use Rattle.rs_order.proofs.EachFacts.{each-append, each-filter, each-map}
use Rattle.rs_order.proofs.ItemFacts.{In-map-back}
use Rattle.rs_order.proofs.SortingFacts.{Climbs-sorted, HasDistinctKeys-sorted, In-sorted-back}
use Rattle.rs_rank.specs.Ids.{AreOtherIds}
use Rattle.rs_rank.specs.Keys.{ids_cmp, key_cmp}
use Rattle.rs_rank.specs.Masks.{mask_of}
use Rattle.rs_rank.specs.Rows.{HaveOtherIds}
use Rattle.rs_rank.specs.declared.answer.Answer.{Answer}
use Rattle.rs_rank.specs.declared.ids.Ids.{Ids}
use Rattle.rs_rank.specs.declared.key.Key.{Key}
use Rattle.rs_rank.specs.declared.row.RankRow.{RankRow}
use Rattle.rs_rank.proofs.OrderFacts.{IsTied-parts, key_cmp-total}
use Rattle.rs_rank.proofs.SortedFacts.{ids_cmp-total}
use Rattle.rs_query.specs.Answers.{base_of, distinct_if, answer_row, occurs_in, rows_of, set_base}
use Rattle.rs_value.specs.declared.set_op.SetOp.{SetOp}
use Rattle.rs_value.specs.declared.set_op.SetOp.TheVariants.{UnionAll, Union, Intersect, Except}
use Rattle.rs_query.specs.Choices.{IsChoice}
use Rattle.rs_query.specs.Combinations.{combinations}
use Rattle.rs_query.specs.Tables.{HasRows, all_entries, sizes_of}
use Rattle.rs_query.proofs.ChoiceFacts.{Climbs-combinations, In-combinations-back}
use Rattle.rs_query.proofs.ExtendFacts.{HasRows-choice}
use Rattle.rs_query.proofs.RiseFacts.{Rise, Rise-base, Rise-query, each-firsts}
use Rattle.rs_filter.specs.Matching.{IsView, is_choice, is_side}
use Rattle.rs_filter.proofs.SideFacts.{test-IsChoice}
use Rattle.rs_mu.proofs.StandFacts.{length-sorted}
use Rattle.rs_plan.specs.Lists.{World, numbered_block, ids_of, key_under, list_of, row_under, sizes_in, sources}
use Rattle.rs_plan.specs.Plans.{IsPart}
use Rattle.rs_plan.specs.Trees.{Distinct, JoinOperator, Rank, RankScan, SeqScan, SetOperator, PlanTree, entries, terms}
use Rattle.rs_exec.proofs.SourceFacts.{ids_in}

-- ids that rise
abbrev pub IdsRise : List Ids → Type 0
IdsRise ids = Climbs ids_cmp (λ (i : Ids). i) ids

-- those of rows
each-id : (first : Answer) (rows : List Answer) → AllByRecursion (Precedes ids_cmp (λ (row : Answer). row.ids) first) rows
    → AllByRecursion (Precedes ids_cmp (λ (i : Ids). i) first.ids) (ids_in rows)
each-id first [] h = tt
each-id first (row ∷ rows) h = (h.0, each-id first rows h.1)

rise-ids_in : (rows : List Answer) → Rise rows → IdsRise (ids_in rows)
rise-ids_in [] h = tt
rise-ids_in (row ∷ rows) h = (each-id row rows h.0, rise-ids_in rows h.1)

-- those of combinations of a block
module _ (number mask : ℕ) where
  abbrev ids : List ℕ → Ids
  ids rows = record { block = number; mask = mask; rows = rows }

  each-choice : (first : List ℕ) (rest : List (List ℕ)) → AllByRecursion (Precedes (slice_cmp nat_cmp) (λ (rows : List ℕ). rows) first) rest
      → AllByRecursion (Precedes ids_cmp (λ (i : Ids). i) (ids first)) (map (λ rows. record { block = number; mask = mask; rows = rows }) rest)
  each-choice first [] h = tt
  each-choice first (rows ∷ rest) h = (ap (λ o. ordering_then o (slice_cmp nat_cmp first rows)) (tied_itself nat_cmp_total number) ∙ h.0, each-choice first rest h.1)

  pub rise-choices : (all : List (List ℕ)) → Climbs (slice_cmp nat_cmp) (λ (rows : List ℕ). rows) all
      → IdsRise (map (λ rows. record { block = number; mask = mask; rows = rows }) all)
  rise-choices [] h = tt
  rise-choices (rows ∷ rest) h = (each-choice rows rest h.0, rise-choices rest h.1)

rise-ids_of : (w : World) (number mask : ℕ) → IdsRise (ids_of w number mask)
rise-ids_of w number mask =
    rise-choices number mask (combinations w.catalogue (numbered_block w number) (sizes_in w number) mask) (Climbs-combinations w.catalogue (numbered_block w number) (sizes_in w number) mask)

-- before they are put into order, the ids of the rows rise
pub sources-rise : (w : World) (number : ℕ) (tree : PlanTree) → IdsRise (sources w number tree)
sources-rise w number (SeqScan entry) = rise-ids_of w number (mask_of entry)
sources-rise w number (RankScan entry term index) = rise-ids_of w number (mask_of entry)
sources-rise w number (Rank term child) = sources-rise w number child
sources-rise w number (JoinOperator kind left right) = rise-ids_of w number (bit_or (entries left) (entries right))
sources-rise w number (Distinct child) = rise-ids_in (base_of w.answer w.catalogue number (numbered_block w number) (sizes_in w number)) (Rise-base w.answer w.catalogue number (numbered_block w number) (sizes_in w number))
sources-rise w number (SetOperator left right) = rise-ids_in (rows_of w.answer w.catalogue w.query w.view) (Rise-query w.answer w.catalogue w.query w.view)

-- equal blocks and rows are tied
pub tied-ids : (a b : Ids) → a.block ≡ b.block → a.rows ≡ b.rows → ids_cmp a b ≡ Equal
tied-ids a b blocks rows =
    sym (ap (λ n. ordering_then (nat_cmp a.block n) (slice_cmp nat_cmp a.rows a.rows)) blocks
    ∙ ap (λ r. ordering_then (nat_cmp a.block b.block) (slice_cmp nat_cmp a.rows r)) rows)
    ∙ tied_itself ids_cmp-total a

-- rows whose ids are distinct are rows of other ids, and so have distinct keys
pub others-of : (rows : List RankRow) → HasDistinctKeys ids_cmp (λ (r : RankRow). r.ids) rows → HaveOtherIds rows
others-of [] h = tt
others-of (row ∷ rows) h = (
  AllByRecursion-from_In (λ (other : RankRow). AreOtherIds row.ids other.ids) rows
      (λ z inside blocks same. AllByRecursion-In (Differs ids_cmp (λ (r : RankRow). r.ids) row) rows h.0 z inside (tied-ids row.ids z.ids blocks same)),
  others-of rows h.1,
)

pub keys-of : (key : RankRow → Key) → ((r : RankRow) → (key r).ids ≡ r.ids) → (rows : List RankRow) → HaveOtherIds rows → HasDistinctKeys key_cmp key rows
keys-of key keeps [] h = tt
keys-of key keeps (row ∷ rows) h = (
  AllByRecursion-from_In (Differs key_cmp key row) rows
      (λ z inside tied.
      let parts = IsTied-parts (key row) (key z) tied in
      AllByRecursion-In (λ (other : RankRow). AreOtherIds row.ids other.ids) rows h.0 z inside
      (sym (ap (λ (i : Ids). i.block) (keeps row)) ∙ parts.1 ∙ ap (λ (i : Ids). i.block) (keeps z))
      (sym (ap (λ (i : Ids). i.rows) (keeps row)) ∙ parts.2 ∙ ap (λ (i : Ids). i.rows) (keeps z))),
  keys-of key keeps rows h.1,
)

-- an order that comes before isn't a tie
not-tied : (a b : Ids) → ids_cmp a b ≡ Less → ids_cmp a b ≡ Equal → ⊥
not-tied a b less tied = let e : Less ≡ Equal = sym less ∙ tied in cc

module _ (w : World) (mask : ℕ) where
  differ-under : (first : Ids) (rest : List Ids) → AllByRecursion (Precedes ids_cmp (λ (i : Ids). i) first) rest
      → AllByRecursion (Differs ids_cmp (λ (r : RankRow). r.ids) (row_under w mask first)) (map (row_under w mask) rest)
  differ-under first [] h = tt
  differ-under first (other ∷ rest) h = (not-tied first other h.0, differ-under first rest h.1)

  pub distinct-under : (all : List Ids) → IdsRise all → HasDistinctKeys ids_cmp (λ (r : RankRow). r.ids) (map (row_under w mask) all)
  distinct-under [] h = tt
  distinct-under (first ∷ rest) h = (differ-under first rest h.0, distinct-under rest h.1)

-- the rows of a node, before they are put into order
abbrev pub unsorted : World → ℕ → PlanTree → List RankRow
unsorted w number tree = map (row_under w (terms tree)) (sources w number tree)

pub unsorted-others : (w : World) (number : ℕ) (tree : PlanTree) → HaveOtherIds (unsorted w number tree)
unsorted-others w number tree = others-of (unsorted w number tree) (distinct-under w (terms tree) (sources w number tree) (sources-rise w number tree))

pub list-climbs : (w : World) (number : ℕ) (tree : PlanTree) → Climbs key_cmp (key_under w (terms tree)) (list_of w number tree)
list-climbs w number tree =
    Climbs-sorted key_cmp key_cmp-total (key_under w (terms tree)) (unsorted w number tree)
    (keys-of (key_under w (terms tree)) (λ r. refl) (unsorted w number tree) (unsorted-others w number tree))

pub list-others : (w : World) (number : ℕ) (tree : PlanTree) → HaveOtherIds (list_of w number tree)
list-others w number tree =
    others-of (list_of w number tree)
    (HasDistinctKeys-sorted key_cmp (key_under w (terms tree)) ids_cmp ids_cmp-total (λ (r : RankRow). r.ids) (unsorted w number tree)
    (distinct-under w (terms tree) (sources w number tree) (sources-rise w number tree)))

-- a view of all rows
pub IsView-itself : (sizes : List ℕ) → IsView sizes sizes
IsView-itself [] = tt
IsView-itself (size ∷ sizes) = (omega arith, IsView-itself sizes)

-- each row of a part of a plan of a block has its block's number, its entries, and rows of their tables. So it is a row of that side
pub record IsRow (w : World) (number : ℕ) (tree : PlanTree) (row : RankRow) : Type 0 where
  pub block : row.ids.block ≡ number
  pub mask : row.ids.mask ≡ entries tree
  pub rows : HasRows w.catalogue (numbered_block w number) (entries tree) row.ids.rows
  pub side : is_side w.catalogue (numbered_block w number) (entries tree) row ≡ true

-- the same of ids
pub record IsOf (w : World) (number mask : ℕ) (ids : Ids) : Type 0 where
  pub block : ids.block ≡ number
  pub mask_is : ids.mask ≡ mask
  pub rows : HasRows w.catalogue (numbered_block w number) mask ids.rows
  pub choice : is_choice mask (sizes_of w.catalogue (numbered_block w number)) ids.rows ≡ true

module _ (w : World) (number : ℕ) (few : length (numbered_block w number).from ≤ 6) (sizes : sizes_in w number ≡ sizes_of w.catalogue (numbered_block w number)) where
  choice-of : (mask : ℕ) (rows : List ℕ) → In rows (combinations w.catalogue (numbered_block w number) (sizes_in w number) mask)
      → IsOf w number mask (record { block = number; mask = mask; rows = rows })
  choice-of mask rows inside =
      let all = sizes_of w.catalogue (numbered_block w number) in
      let choice : IsChoice mask all rows =
      subst (λ all. IsChoice mask all rows) sizes (In-combinations-back w.catalogue (numbered_block w number) (sizes_in w number) mask rows inside).0 in
      record {
        block = refl;
        mask_is = refl;
        rows = HasRows-choice w.catalogue (numbered_block w number) mask rows few choice;
        choice = test-IsChoice mask all all rows (IsView-itself all) choice;
      }

  each-ids_of : (mask : ℕ) → AllByRecursion (IsOf w number mask) (ids_of w number mask)
  each-ids_of mask =
      each-map (IsOf w number mask) (λ (rows : List ℕ). record { block = number; mask = mask; rows = rows })
      (combinations w.catalogue (numbered_block w number) (sizes_in w number) mask)
      (AllByRecursion-from_In (λ (rows : List ℕ). IsOf w number mask (record { block = number; mask = mask; rows = rows }))
      (combinations w.catalogue (numbered_block w number) (sizes_in w number) mask) (choice-of mask))

  abbrev RowIsOf : ℕ → Answer → Type 0
  RowIsOf mask row = IsOf w number mask row.ids

  pub each-base : AllByRecursion (λ (row : Answer). IsOf w number (all_entries (numbered_block w number)) row.ids) (base_of w.answer w.catalogue number (numbered_block w number) (sizes_in w number))
  each-base = go (numbered_block w number).distinct where
    all : AllByRecursion (RowIsOf (all_entries (numbered_block w number)))
        (map (answer_row w.answer w.catalogue (numbered_block w number) number) (combinations w.catalogue (numbered_block w number) (sizes_in w number) (all_entries (numbered_block w number))))
    all =
        each-map (RowIsOf (all_entries (numbered_block w number))) (answer_row w.answer w.catalogue (numbered_block w number) number)
        (combinations w.catalogue (numbered_block w number) (sizes_in w number) (all_entries (numbered_block w number)))
        (AllByRecursion-from_In (λ (rows : List ℕ). IsOf w number (all_entries (numbered_block w number)) (record { block = number; mask = all_entries (numbered_block w number); rows = rows }))
        (combinations w.catalogue (numbered_block w number) (sizes_in w number) (all_entries (numbered_block w number))) (choice-of (all_entries (numbered_block w number))))

    go : (distinct : Bool) → AllByRecursion (RowIsOf (all_entries (numbered_block w number)))
        (distinct_if distinct (map (answer_row w.answer w.catalogue (numbered_block w number) number) (combinations w.catalogue (numbered_block w number) (sizes_in w number) (all_entries (numbered_block w number)))))
    go true =
        each-firsts (RowIsOf (all_entries (numbered_block w number)))
        (map (answer_row w.answer w.catalogue (numbered_block w number) number) (combinations w.catalogue (numbered_block w number) (sizes_in w number) (all_entries (numbered_block w number)))) all
    go false = all

  pub each-source : (tree : PlanTree) → IsPart w.catalogue (numbered_block w number) tree → AllByRecursion (IsOf w number (entries tree)) (sources w number tree)
  each-source (SeqScan entry) part = each-ids_of (mask_of entry)
  each-source (RankScan entry term index) part = each-ids_of (mask_of entry)
  each-source (Rank term child) part = each-source child part.0
  each-source (JoinOperator kind left right) part = each-ids_of (bit_or (entries left) (entries right))
  each-source (Distinct child) part =
      subst (λ mask. AllByRecursion (IsOf w number mask) (sources w number (Distinct child))) (sym part.1.all)
      (each-map (IsOf w number (all_entries (numbered_block w number))) (λ (row : Answer). row.ids)
      (base_of w.answer w.catalogue number (numbered_block w number) (sizes_in w number)) each-base)
  each-source (SetOperator left right) part = absurd part

  pub list-rows : (tree : PlanTree) → IsPart w.catalogue (numbered_block w number) tree → AllByRecursion (IsRow w number tree) (list_of w number tree)
  list-rows tree part =
      AllByRecursion-from_In (IsRow w number tree) (list_of w number tree) (λ row inside.
      let image = In-map-back (row_under w (terms tree)) row (sources w number tree)
      (In-sorted-back key_cmp (key_under w (terms tree)) (unsorted w number tree) row inside) in
      let is = AllByRecursion-In (IsOf w number (entries tree)) (sources w number tree) (each-source tree part) image.source image.is_in in
      subst (IsRow w number tree) (sym image.image) (record {
        block = is.block;
        mask = is.mask_is;
        rows = is.rows;
        side = ap₂ (λ (a b : Bool). a && b) (eq-eqb image.source.mask (entries tree) is.mask_is) is.choice;
      }))

-- what holds of each row of both sides holds of what a set operator makes of them
pub each-set : (P : Answer → Type 0) (op : SetOp) (lefts rights : List Answer) → AllByRecursion P lefts → AllByRecursion P rights → AllByRecursion P (set_base op lefts rights)
each-set P UnionAll lefts rights l r = each-append P lefts rights l r
each-set P Union lefts rights l r = each-firsts P (lefts ++ rights) (each-append P lefts rights l r)
each-set P Intersect lefts rights l r = each-firsts P (filter (occurs_in rights) lefts) (each-filter P (occurs_in rights) lefts l)
each-set P Except lefts rights l r = each-firsts P (filter (λ a. not (occurs_in rights a)) lefts) (each-filter P (λ a. not (occurs_in rights a)) lefts l)

-- a list has as many rows as it is made of
pub list-length : (w : World) (number : ℕ) (tree : PlanTree) → length (list_of w number tree) ≡ length (sources w number tree)
list-length w number tree =
    length-sorted key_cmp (key_under w (terms tree)) (unsorted w number tree) ∙ length-map (sources w number tree) (row_under w (terms tree))
