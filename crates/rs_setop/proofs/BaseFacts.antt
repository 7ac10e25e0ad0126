-- The answers of a set operator over the rows of two blocks, in whatever order its sides come: their keys rise, and the rows can
-- be put together before they are sorted.
use Rattle.std.proofs.Common.{◌≡◌, ◌+◌, ◌<◌, ◌||◌, Bool, true, false, not, cond, List, [], ◌∷◌, ◌++◌, refl, sym, ◌∙◌, ap, ap₂, subst, inl, inr, arith}
use Rattle.std.specs.Cmp.{nat_cmp_is}
use Rattle.std.specs.List.{filter}
use Rattle.std.specs.Cmp.Lexicographic.{slice_cmp}
use Rattle.std.specs.Ordering.{nat_cmp, ordering_then}
use Rattle.std.specs.declared.cmp.Ordering.{Ordering}
use Rattle.std.specs.declared.cmp.Ordering.TheVariants.{Less, Equal}
use Rattle.rs_order.specs.Climbing.{Climbs, Differs, HasDistinctKeys, In, Precedes}
use Rattle.rs_order.specs.Sorting.{sorted}
use Rattle.rs_order.proofs.ClimbingFacts.{AllByRecursion-In, AllByRecursion-from_In, cmp-not_itself}
use Rattle.rs_order.proofs.ItemFacts.{In-append, In-filter, In-filter-back, In-left, In-right}
use Rattle.rs_order.proofs.EachFacts.{each-filter, each-weaker}
use Rattle.rs_order.proofs.SortingFacts.{Climbs-sorted, In-sorted, In-sorted-back}
use Rattle.rs_rank.specs.declared.ids.Ids.{Ids}
use Rattle.rs_rank.specs.Keys.{ids_cmp, key_cmp}
use Rattle.rs_rank.specs.Weights.{rest}
use Rattle.rs_rank.proofs.OrderFacts.{IsTied-parts, key_cmp-total}
use Rattle.rs_rank.proofs.SortedFacts.{ids_cmp-total}
use Rattle.rs_value.specs.declared.set_op.SetOp.{SetOp}
use Rattle.rs_value.specs.declared.set_op.SetOp.TheVariants as op
use Rattle.rs_value.specs.declared.value.Value.{Value}
use Rattle.rs_outputs.specs.Seen.{has_list, same_values}
use Rattle.rs_outputs.proofs.SameFacts.{same_values-itself}
use Rattle.rs_outputs.specs.Rows.{OutputRow, firsts, values_of}
use Rattle.rs_setop.specs.Sides.{AreBases, AreSides, IsRowOf, Sides, answers, row_key}
use Rattle.rs_setop.specs.Stands.{is_kept, rows_left}
use Rattle.rs_outputs.proofs.ValueFacts.{row-of_values}
use Rattle.rs_setop.proofs.ComparedFacts.{all-counted}
use Rattle.rs_outputs.proofs.FirstFacts.{AreInTurn, Climbs-firsts, in_turn-append, sorted-firsts}
use Rattle.rs_outputs.proofs.ListFacts.{Climbs-filter, distinct-append, distinct-filter, sorted-of}
use Rattle.rs_setop.proofs.UnionFacts.{all-answers, all-firsts, both-merged, merged-both, union-climbs}
use Rattle.rs_setop.proofs.WalkFacts.{rows_left-climbs}

-- the keys of the answers rise
pub answers-climb : (s : Sides) (op : SetOp) (lefts rights : List OutputRow) → AreSides s lefts rights → Climbs key_cmp (row_key s) (answers s op lefts rights)
answers-climb s op.UnionAll lefts rights input = union-climbs s false lefts rights input
answers-climb s op.Union lefts rights input = union-climbs s true lefts rights input
answers-climb s op.Intersect lefts rights input =
    subst (Climbs key_cmp (row_key s)) (sym (all-counted s true lefts rights input))
    (Climbs-firsts key_cmp (row_key s) (filter (is_kept true rights) lefts) (Climbs-filter key_cmp (row_key s) (is_kept true rights) lefts input.left_rising))
answers-climb s op.Except lefts rights input =
    subst (Climbs key_cmp (row_key s)) (sym (all-counted s false lefts rights input))
    (Climbs-firsts key_cmp (row_key s) (filter (is_kept false rights) lefts) (Climbs-filter key_cmp (row_key s) (is_kept false rights) lefts input.left_rising))

abbrev ids_of : OutputRow → Ids
ids_of row = row.row.ids

-- of rows with the same sum the ids decide
before-same_sum : (s : Sides) (x y : OutputRow) → x.row.sum ≡ y.row.sum → ids_cmp x.row.ids y.row.ids ≡ Less → Precedes key_cmp (row_key s) x y
before-same_sum s x y sums before =
    let bounds : (row_key s y).bound ≡ (row_key s x).bound = ap (λ sum. sum + rest s.weights s.terms) (sym sums) in
    ap₂ ordering_then (sym (nat_cmp_is (row_key s y).bound (row_key s x).bound Equal bounds)) before

-- rows of other ids have other keys
other-keys : (s : Sides) (x y : OutputRow) → ids_cmp x.row.ids y.row.ids ≡ Less → Differs key_cmp (row_key s) x y
other-keys s x y before tied =
    let parts = IsTied-parts (row_key s x) (row_key s y) tied in
    let same : ids_cmp x.row.ids y.row.ids ≡ ids_cmp x.row.ids x.row.ids = ap₂ (λ b r. ordering_then (nat_cmp x.row.ids.block b) (slice_cmp nat_cmp x.row.ids.rows r)) (sym parts.1) (sym parts.2) in
    cmp-not_itself ids_cmp ids_cmp-total x.row.ids (sym same ∙ before)

distinct-ids : (s : Sides) (rows : List OutputRow) → Climbs ids_cmp ids_of rows → HasDistinctKeys key_cmp (row_key s) rows
distinct-ids s [] climbs = tt
distinct-ids s (row ∷ rows) climbs = (each-weaker (Precedes ids_cmp ids_of row) (Differs key_cmp (row_key s) row) (λ y before. other-keys s row y before) rows climbs.0, distinct-ids s rows climbs.1)

turn-ids : (s : Sides) (rows : List OutputRow) → Climbs ids_cmp ids_of rows → ((x y : OutputRow) → In x rows → In y rows → x.values ≡ y.values → x.row.sum ≡ y.row.sum) → AreInTurn key_cmp (row_key s) rows
turn-ids s [] climbs alike = tt
turn-ids s (row ∷ rows) climbs alike = (
  AllByRecursion-from_In (λ other. other.values ≡ row.values → Precedes key_cmp (row_key s) row other) rows
      (λ other h same. before-same_sum s row other (alike row other (inl refl) (inr h) (sym same)) (AllByRecursion-In (Precedes ids_cmp ids_of row) rows climbs.0 other h)),
  turn-ids s rows climbs.1 (λ x y h k same. alike x y (inr h) (inr k) same),
)

-- values that a row has are one of the lists of the rows
has_list-in : (values : List Value) (rows : List OutputRow) (row : OutputRow) → In row rows → row.values ≡ values → has_list values (values_of rows) ≡ true
has_list-in values [] row h same = absurd h
has_list-in values (first ∷ rows) row h same =
    elim h [
      | inl e ↦ ap (λ b. b || has_list values (values_of rows)) (ap₂ same_values (sym same) (ap (λ (r : OutputRow). r.values) (sym e)) ∙ same_values-itself row.values)
      | inr k ↦ ap (λ b. same_values values first.values || b) (has_list-in values rows row k same) ∙ or_true (same_values values first.values)
    ]
  where
    or_true : (b : Bool) → (b || true) ≡ true
    or_true true = refl
    or_true false = refl

both_ways : (a b : Bool) → (a ≡ true → b ≡ true) → (b ≡ true → a ≡ true) → a ≡ b
both_ways true b f g = sym (f refl)
both_ways false true f g = g refl
both_ways false false f g = refl

-- the rows that pass a test are in turn too
in_turn-filter : {K : Type 0} (cmp : K → K → Ordering) (key : OutputRow → K) (test : OutputRow → Bool) (rows : List OutputRow) → AreInTurn cmp key rows → AreInTurn cmp key (filter test rows)
in_turn-filter cmp key test [] turn = tt
in_turn-filter cmp key test (row ∷ rows) turn =
    elim (test row) as (λ b. AreInTurn cmp key (cond b (row ∷ filter test rows) (filter test rows))) [
      | true ↦ (each-filter (λ other. other.values ≡ row.values → Precedes cmp key row other) test rows turn.0, in_turn-filter cmp key test rows turn.1)
      | false ↦ in_turn-filter cmp key test rows turn.1
    ]

module _ (s : Sides) (lefts rights : List OutputRow) (bases : AreBases s lefts rights) where
  abbrev ls : List OutputRow
  ls = sorted key_cmp (row_key s) lefts

  abbrev rs : List OutputRow
  rs = sorted key_cmp (row_key s) rights

  In-both-back : (z : OutputRow) → In z (ls ++ rs) → In z (lefts ++ rights)
  In-both-back z h = elim (In-append z ls rs h) [
    | inl k ↦ In-left z lefts rights (In-sorted-back key_cmp (row_key s) lefts z k)
    | inr k ↦ In-right z lefts rights (In-sorted-back key_cmp (row_key s) rights z k)
  ]

  In-both : (z : OutputRow) → In z (lefts ++ rights) → In z (ls ++ rs)
  In-both z h = elim (In-append z lefts rights h) [
    | inl k ↦ In-left z ls rs (In-sorted key_cmp (row_key s) lefts z k)
    | inr k ↦ In-right z ls rs (In-sorted key_cmp (row_key s) rights z k)
  ]

  -- the sides in the order of their keys
  pub sides-sorted : AreSides s ls rs
  sides-sorted = record {
    limits = bases.limits;
    blocks = bases.blocks;
    left_rows = AllByRecursion-from_In (IsRowOf s s.left_block) ls (λ z h. AllByRecursion-In (IsRowOf s s.left_block) lefts bases.left_rows z (In-sorted-back key_cmp (row_key s) lefts z h));
    right_rows = AllByRecursion-from_In (IsRowOf s s.right_block) rs (λ z h. AllByRecursion-In (IsRowOf s s.right_block) rights bases.right_rows z (In-sorted-back key_cmp (row_key s) rights z h));
    left_rising = Climbs-sorted key_cmp key_cmp-total (row_key s) lefts (distinct-ids s lefts bases.left_rising);
    right_rising = Climbs-sorted key_cmp key_cmp-total (row_key s) rights (distinct-ids s rights bases.right_rising);
    alike = λ x y h k same. bases.alike x y (In-both-back x h) (In-both-back y k) same;
  }

  across : (x y : OutputRow) → In x lefts → In y rights → ids_cmp x.row.ids y.row.ids ≡ Less
  across x y h k =
      let own : x.row.ids.block ≡ s.left_block = (AllByRecursion-In (IsRowOf s s.left_block) lefts bases.left_rows x h).block in
      let other : y.row.ids.block ≡ s.right_block = (AllByRecursion-In (IsRowOf s s.right_block) rights bases.right_rows y k).block in
      let less : s.left_block < s.right_block = bases.blocks in
      let blocks : x.row.ids.block < y.row.ids.block = omega arith in
      ap (λ first. ordering_then first (slice_cmp nat_cmp x.row.ids.rows y.row.ids.rows)) (sym (nat_cmp_is x.row.ids.block y.row.ids.block Less blocks))

  distinct-bases : HasDistinctKeys key_cmp (row_key s) (lefts ++ rights)
  distinct-bases =
      distinct-append key_cmp (row_key s) lefts rights (distinct-ids s lefts bases.left_rising) (distinct-ids s rights bases.right_rising)
      (λ x y h k. other-keys s x y (across x y h k))

  left-turn : AreInTurn key_cmp (row_key s) lefts
  left-turn = turn-ids s lefts bases.left_rising (λ x y h k same. bases.alike x y (In-left x lefts rights h) (In-left y lefts rights k) same)

  turn-bases : AreInTurn key_cmp (row_key s) (lefts ++ rights)
  turn-bases =
      in_turn-append key_cmp (row_key s) lefts rights left-turn
      (turn-ids s rights bases.right_rising (λ x y h k same. bases.alike x y (In-right x lefts rights h) (In-right y lefts rights k) same))
      (λ x y h k same. before-same_sum s x y (bases.alike x y (In-left x lefts rights h) (In-right y lefts rights k) (sym same)) (across x y h k))

  -- whether a row counts doesn't depend on the order of the right rows
  occurs-sorted : (values : List Value) → has_list values (values_of rs) ≡ has_list values (values_of rights)
  occurs-sorted values =
      both_ways (has_list values (values_of rs)) (has_list values (values_of rights))
      (λ e. let found = row-of_values values rs e in has_list-in values rights found.row (In-sorted-back key_cmp (row_key s) rights found.row found.is_in) found.same)
      (λ e. let found = row-of_values values rights e in has_list-in values rs found.row (In-sorted key_cmp (row_key s) rights found.row found.is_in) found.same)

  is_kept-sorted : (shared : Bool) (row : OutputRow) → is_kept shared rs row ≡ is_kept shared rights row
  is_kept-sorted true row = occurs-sorted row.values
  is_kept-sorted false row = ap not (occurs-sorted row.values)

  there : (shared : Bool) (z : OutputRow) → In z (filter (is_kept shared rights) lefts) → In z (filter (is_kept shared rs) ls)
  there shared z h =
      let both = In-filter-back (is_kept shared rights) z lefts h in
      In-filter (is_kept shared rs) z ls (In-sorted key_cmp (row_key s) lefts z both.0) (is_kept-sorted shared z ∙ both.1)

  back : (shared : Bool) (z : OutputRow) → In z (filter (is_kept shared rs) ls) → In z (filter (is_kept shared rights) lefts)
  back shared z h =
      let both = In-filter-back (is_kept shared rs) z ls h in
      In-filter (is_kept shared rights) z lefts (In-sorted-back key_cmp (row_key s) lefts z both.0) (sym (is_kept-sorted shared z) ∙ both.1)

  compared-sorted : (shared : Bool) → sorted key_cmp (row_key s) (firsts (filter (is_kept shared rights) lefts)) ≡ firsts (filter (is_kept shared rs) ls)
  compared-sorted shared =
      sorted-firsts key_cmp key_cmp-total (row_key s) (filter (is_kept shared rights) lefts) (filter (is_kept shared rs) ls)
      (distinct-filter key_cmp (row_key s) (is_kept shared rights) lefts (distinct-ids s lefts bases.left_rising))
      (in_turn-filter key_cmp (row_key s) (is_kept shared rights) lefts left-turn)
      (Climbs-filter key_cmp (row_key s) (is_kept shared rs) ls sides-sorted.left_rising) (there shared) (back shared)

  -- so the answers are the rows that the operator makes of both bases, sorted
  pub answers-sorted : (op : SetOp) → answers s op ls rs ≡ answers s op lefts rights
  answers-sorted op.UnionAll =
      all-answers s ls rs sides-sorted
      ∙ sym (sorted-of key_cmp key_cmp-total (row_key s) (lefts ++ rights) (rows_left s ls rs 0 0) distinct-bases (rows_left-climbs s ls rs sides-sorted 0 0)
      (λ z h. both-merged s ls rs z (In-both z h)) (λ z h. In-both-back z (merged-both s ls rs z h)))
  answers-sorted op.Union =
      all-firsts s ls rs sides-sorted
      ∙ sym (sorted-firsts key_cmp key_cmp-total (row_key s) (lefts ++ rights) (rows_left s ls rs 0 0) distinct-bases turn-bases (rows_left-climbs s ls rs sides-sorted 0 0)
      (λ z h. both-merged s ls rs z (In-both z h)) (λ z h. In-both-back z (merged-both s ls rs z h)))
  answers-sorted op.Intersect = all-counted s true ls rs sides-sorted ∙ sym (compared-sorted true)
  answers-sorted op.Except = all-counted s false ls rs sides-sorted ∙ sym (compared-sorted false)
