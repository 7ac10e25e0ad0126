-- Where UNION ALL and UNION stand, and what each call does to that.
use Rattle.std.proofs.Common.{◌≡◌, ℕ, suc, ◌<◌, ◌&&◌, Bool, true, false, cond, List, [], ◌∷◌, ◌++◌, ◌+◌, length, take, drop, Option, Some, refl, sym, ◌∙◌, ap, ap₂, subst, inl, inr, arith}
use Rattle.std.proofs.lemmas.List.{map-append}
use Rattle.std.proofs.lemmas.Option.{slice_get_within}
use Rattle.std.specs.Cmp.{nat_cmp_is}
use Rattle.std.specs.Cmp.Lexicographic.{slice_cmp}
use Rattle.std.specs.List.{slice_get}
use Rattle.std.specs.Option.{option_map}
use Rattle.std.specs.Ordering.{nat_cmp, ordering_then}
use Rattle.std.specs.declared.cmp.Ordering.TheVariants.{Less, Equal}
use Rattle.rs_order.specs.Asks.{bar_after, comes_before_bar}
use Rattle.rs_order.specs.Climbing.{Climbs, HasDistinctKeys, In, Precedes}
use Rattle.rs_order.specs.Merging.{merged}
use Rattle.rs_order.specs.Schedule.{JoinSide, Left, Right, SideAsk, Turn, asked, asked_before, schedule, turns_from}
use Rattle.rs_order.proofs.ClimbingFacts.{AllByRecursion-In, AllByRecursion-from_In}
use Rattle.rs_order.proofs.ItemFacts.{In-append, In-left, In-right}
use Rattle.rs_order.proofs.MergingFacts.{In-merged, In-merged-back}
use Rattle.rs_order.proofs.PartFacts.{take-snoc}
use Rattle.rs_rank.specs.declared.ask.JoinAsk.{JoinAsk}
use Rattle.rs_rank.specs.declared.ask.JoinAsk.TheVariants.{NeedLeft, NeedRight, Ready, End}
use Rattle.rs_rank.specs.declared.key.Key.{Key}
use Rattle.rs_rank.specs.Keys.{key_cmp}
use Rattle.rs_rank.specs.Weights.{rest as rest_of}
use Rattle.rs_rank.proofs.OrderFacts.{key_cmp-total}
use Rattle.rs_rank.proofs.TurnFacts as turns
use Rattle.rs_value.specs.declared.set_op.SetOp.TheVariants as op
use Rattle.rs_value.specs.declared.value.Value.{Value}
use Rattle.rs_outputs.specs.Seen.{has_list, with_list}
use Rattle.rs_outputs.specs.Rows.{OutputRow, firsts, values_of}
use Rattle.rs_outputs.proofs.FirstFacts.{Climbs-firsts, In-firsts, In-unseen, in_turn, in_turn-append, sorted-firsts, unseen-new, unseen-none, unseen-seen}
use Rattle.rs_outputs.proofs.ListFacts.{bar-rest, before-rest, distinct-append, distinct-climbs, none-rest, rest-none, some-rest, sorted-of}
use Rattle.rs_setop.specs.declared.heads.Heads.{Heads}
use Rattle.rs_setop.specs.Heads.{ask_of, first_of, without_first}
use Rattle.rs_setop.specs.Held.{row_of}
use Rattle.rs_setop.specs.Sides.{AreSides, IsRowOf, Sides, answers, head_of, keys_of, row_key, schedule_of}
use Rattle.rs_setop.specs.Stands.{UnionAt, UnionStands, due, given_of, heads_after, rows_left, taken_of, turns_left, union_op}
use Rattle.rs_setop.specs.Union.{Union, first_was_taken, is_repeated, left_for, new_union, settled, taken_for, was_taken, with_taken}
use Rattle.rs_setop.proofs.HeadFacts.{Shows, Tells, as_held}
use Rattle.rs_setop.proofs.NextFacts.{IsFirst, first-row, heads-more, merging-more, need_of, of_side, one_more, shows, with_head}
use Rattle.rs_setop.proofs.WalkFacts.{all-asked, bars-keep, next-left, next-right, none-left, nothing-asked, rows_left-climbs, sides-apart}

-- the rows of both sides differ in their keys
pub both-distinct : (s : Sides) (lefts rights : List OutputRow) → AreSides s lefts rights → HasDistinctKeys key_cmp (row_key s) (lefts ++ rights)
both-distinct s lefts rights input =
    distinct-append key_cmp (row_key s) lefts rights (distinct-climbs key_cmp (row_key s) lefts input.left_rising) (distinct-climbs key_cmp (row_key s) rights input.right_rising)
    (sides-apart s lefts rights input)

-- and are those of the merge
pub both-merged : (s : Sides) (lefts rights : List OutputRow) (z : OutputRow) → In z (lefts ++ rights) → In z (rows_left s lefts rights 0 0)
both-merged s lefts rights z h = In-merged key_cmp (row_key s) z lefts rights (In-append z lefts rights h)

pub merged-both : (s : Sides) (lefts rights : List OutputRow) (z : OutputRow) → In z (rows_left s lefts rights 0 0) → In z (lefts ++ rights)
merged-both s lefts rights z h =
    elim (In-merged-back key_cmp (row_key s) z lefts rights h) [ inl k ↦ In-left z lefts rights k | inr k ↦ In-right z lefts rights k ]

-- so these are the answers of UNION ALL
pub all-answers : (s : Sides) (lefts rights : List OutputRow) → AreSides s lefts rights → answers s op.UnionAll lefts rights ≡ rows_left s lefts rights 0 0
all-answers s lefts rights input =
    sorted-of key_cmp key_cmp-total (row_key s) (lefts ++ rights) (rows_left s lefts rights 0 0) (both-distinct s lefts rights input) (rows_left-climbs s lefts rights input 0 0)
    (both-merged s lefts rights) (merged-both s lefts rights)

-- a left row comes before a right one with the same output values: they have the same bound, and its block comes first
left-before : (s : Sides) (lefts rights : List OutputRow) → AreSides s lefts rights → (left right : OutputRow) → In left lefts → In right rights → right.values ≡ left.values → Precedes key_cmp (row_key s) left right
left-before s lefts rights input left right h k same =
    let sums : left.row.sum ≡ right.row.sum = input.alike left right (In-left left lefts rights h) (In-right right lefts rights k) (sym same) in
    let own : left.row.ids.block ≡ s.left_block = (AllByRecursion-In (IsRowOf s s.left_block) lefts input.left_rows left h).block in
    let other : right.row.ids.block ≡ s.right_block = (AllByRecursion-In (IsRowOf s s.right_block) rights input.right_rows right k).block in
    let less : s.left_block < s.right_block = input.blocks in
    let blocks : left.row.ids.block < right.row.ids.block = omega arith in
    let bounds : (row_key s right).bound ≡ (row_key s left).bound = ap (λ sum. sum + rest_of s.weights s.terms) (sym sums) in
    ap₂ (λ first second. ordering_then first (ordering_then second (slice_cmp nat_cmp left.row.ids.rows right.row.ids.rows)))
    (sym (nat_cmp_is (row_key s right).bound (row_key s left).bound Equal bounds)) (sym (nat_cmp_is left.row.ids.block right.row.ids.block Less blocks))

-- the answers of UNION are the first ones of these
pub all-firsts : (s : Sides) (lefts rights : List OutputRow) → AreSides s lefts rights → answers s op.Union lefts rights ≡ firsts (rows_left s lefts rights 0 0)
all-firsts s lefts rights input =
    sorted-firsts key_cmp key_cmp-total (row_key s) (lefts ++ rights) (rows_left s lefts rights 0 0) (both-distinct s lefts rights input)
    (in_turn-append key_cmp (row_key s) lefts rights (in_turn key_cmp (row_key s) lefts input.left_rising) (in_turn key_cmp (row_key s) rights input.right_rising) (left-before s lefts rights input))
    (rows_left-climbs s lefts rights input 0 0) (both-merged s lefts rights) (merged-both s lefts rights)

-- of the rows of both sides in the order of their keys; so their keys rise
pub all-given : (s : Sides) (distinct : Bool) (lefts rights : List OutputRow) → AreSides s lefts rights → answers s (union_op distinct) lefts rights ≡ given_of distinct [] (rows_left s lefts rights 0 0)
all-given s true lefts rights input = all-firsts s lefts rights input ∙ sym (unseen-none (firsts (rows_left s lefts rights 0 0)))
all-given s false lefts rights input = all-answers s lefts rights input

pub union-climbs : (s : Sides) (distinct : Bool) (lefts rights : List OutputRow) → AreSides s lefts rights → Climbs key_cmp (row_key s) (answers s (union_op distinct) lefts rights)
union-climbs s true lefts rights input =
    subst (Climbs key_cmp (row_key s)) (sym (all-firsts s lefts rights input)) (Climbs-firsts key_cmp (row_key s) (rows_left s lefts rights 0 0) (rows_left-climbs s lefts rights input 0 0))
union-climbs s false lefts rights input = subst (Climbs key_cmp (row_key s)) (sym (all-answers s lefts rights input)) (rows_left-climbs s lefts rights input 0 0)

-- the answers of rows: they are of these, none where there is none, without the first row where UNION drops it, and else it and
-- those behind it
In-given : (distinct : Bool) (taken : List (List Value)) (rows : List OutputRow) (w : OutputRow) → In w (given_of distinct taken rows) → In w rows
In-given true taken rows w h = In-firsts rows w (In-unseen taken (firsts rows) w h)
In-given false taken rows w h = h

given-none : (distinct : Bool) (taken : List (List Value)) → given_of distinct taken [] ≡ []
given-none true taken = refl
given-none false taken = refl

given-old : (distinct : Bool) (taken : List (List Value)) (z : OutputRow) (rest : List OutputRow) → (distinct && has_list z.values taken) ≡ true → given_of distinct taken (z ∷ rest) ≡ given_of distinct taken rest
given-old true taken z rest old = unseen-seen taken z rest old
given-old false taken z rest old = absurd cc

abbrev with_values : Bool → List Value → List (List Value) → List (List Value)
with_values distinct values taken = cond distinct (with_list values taken) taken

given-new : (distinct : Bool) (taken : List (List Value)) (z : OutputRow) (rest : List OutputRow) → (distinct && has_list z.values taken) ≡ false → given_of distinct taken (z ∷ rest) ≡ z ∷ given_of distinct (with_values distinct z.values taken) rest
given-new true taken z rest new = unseen-new taken z rest new
given-new false taken z rest new = refl

-- the values that are taken of one answer more
taken-more : (distinct : Bool) (rows : List OutputRow) (count : ℕ) (z : OutputRow) (taken : List (List Value)) → (distinct && has_list z.values taken) ≡ false → slice_get rows count ≡ Some z → taken ≡ taken_of distinct (take count rows)
    → with_values distinct z.values taken ≡ taken_of distinct (take (suc count) rows)
taken-more true rows count z taken new at e =
    ap (λ b. cond b taken (taken ++ z.values ∷ [])) new
    ∙ ap (λ lists. lists ++ z.values ∷ []) e
    ∙ sym (map-append (λ (row : OutputRow). row.values) (take count rows) (z ∷ []))
    ∙ ap values_of (sym (take-snoc count rows z at))
taken-more false rows count z taken new at e = e

-- the schedule of both
union-schedule : (s : Sides) (distinct : Bool) (lefts rights : List OutputRow) (count : ℕ) → schedule_of s (union_op distinct) lefts rights (suc count)
    ≡ schedule key_cmp (keys_of s lefts) (keys_of s rights) (bar_after (row_key s) (answers s (union_op distinct) lefts rights) count)
union-schedule s true lefts rights count = refl
union-schedule s false lefts rights count = refl

-- nothing is asked yet
pub new-stands : (s : Sides) (distinct : Bool) (lefts rights : List OutputRow) → AreSides s lefts rights → UnionStands s distinct lefts rights [] 0 (new_union s.weights s.terms distinct)
new-stands s distinct lefts rights input = record {
  place = record {
    input = input;
    left = 0;
    right = 0;
    gone = [];
    taken = [];
    state = refl;
    answered = none distinct;
    merging = nothing-asked s lefts rights (bar_after (row_key s) (answers s (union_op distinct) lefts rights) 0);
    rest = all-given s distinct lefts rights input;
    within = omega arith;
  };
  new = never distinct;
}
  where
    none : (b : Bool) → [] ≡ taken_of b []
    none true = refl
    none false = refl

    never : (b : Bool) → (b && false) ≡ false
    never true = refl
    never false = refl

-- a union of these heads. It drops no row where a side is due
abbrev union_of : Sides → Bool → Heads → List (List Value) → Union
union_of s distinct heads taken = record { weights = s.weights; terms = s.terms; distinct = distinct; heads = heads; taken = taken; spent = false }

due-new : (s : Sides) (distinct : Bool) (heads : Heads) (taken : List (List Value)) (side : JoinSide) → ask_of heads ≡ need_of side → first_was_taken (union_of s distinct heads taken) ≡ false
due-new s false heads taken side e = refl
due-new s true heads taken Left e = ap (λ ask. is_repeated ask (union_of s true heads taken)) e
due-new s true heads taken Right e = ap (λ ask. is_repeated ask (union_of s true heads taken)) e

module _ (s : Sides) (distinct : Bool) (lefts rights : List OutputRow) (made : List SideAsk) (count : ℕ) (u : Union) (st : UnionAt s distinct lefts rights made count u) where
  abbrev rows : List OutputRow
  rows = answers s (union_op distinct) lefts rights

  abbrev bar : Option Key
  bar = bar_after (row_key s) rows count

  asks : (ask : JoinAsk) → ask_of u.heads ≡ ask → ask_of (heads_after s lefts rights made st.left st.right) ≡ ask
  asks ask e = sym (ap (λ (v : Union). ask_of v.heads) st.state) ∙ e

  -- the next row of a side is known, or that there is none
  pub side-known : (side : JoinSide) → ask_of u.heads ≡ need_of side
      → UnionAt s distinct lefts rights (one_more side made) count (record u { heads = with_head side (head_of s (slice_get (of_side side lefts rights) (asked side made))) u.heads })
  side-known side need =
      let due = asks (need_of side) need in
      record {
        input = st.input;
        left = st.left;
        right = st.right;
        gone = st.gone;
        taken = st.taken;
        state =
            ap (λ (v : Union). record v { heads = with_head side (head_of s (slice_get (of_side side lefts rights) (asked side made))) v.heads }) st.state
            ∙ ap (λ h. union_of s distinct h st.taken) (heads-more s lefts rights made bar st.left st.right st.gone st.merging side due);
        answered = st.answered;
        merging = merging-more s lefts rights made bar st.left st.right st.gone st.merging side due;
        rest = st.rest;
        within = st.within;
      }

  -- the row that comes first, and whether it is dropped
  first : ask_of u.heads ≡ Ready → IsFirst s lefts rights made bar st.left st.right st.gone
  first ready = first-row s lefts rights made bar st.left st.right st.gone st.merging (asks Ready ready)

  repeated : (z : OutputRow) → first_of (heads_after s lefts rights made st.left st.right) ≡ Some (as_held s z) → ask_of u.heads ≡ Ready → first_was_taken u ≡ (distinct && has_list z.values st.taken)
  repeated z held ready =
      ap (λ ask. u.distinct && is_repeated ask u) ready
      ∙ ap (λ (v : Union). v.distinct && was_taken (first_of v.heads) v.taken) st.state
      ∙ ap (λ o. distinct && was_taken o st.taken) held

  -- it comes before the bar of the answers that are left once it is gone
  before-next : (z : OutputRow) (rest more : List OutputRow) (n : ℕ) → rows_left s lefts rights st.left st.right ≡ z ∷ rest → drop n rows ≡ more → ((w : OutputRow) → In w more → In w rest) → comes_before_bar key_cmp (bar_after (row_key s) rows n) (row_key s z) ≡ true
  before-next z rest more n e left within =
      let climbs = subst (Climbs key_cmp (row_key s)) e (rows_left-climbs s lefts rights st.input st.left st.right) in
      ap (λ b. comes_before_bar key_cmp b (row_key s z)) (bar-rest (row_key s) n rows ∙ ap (λ ys. bar_after (row_key s) ys 0) left)
      ∙ before-rest key_cmp (row_key s) z more (AllByRecursion-from_In (Precedes key_cmp (row_key s) z) more (λ w h. AllByRecursion-In (Precedes key_cmp (row_key s) z) rest climbs.0 w (within w h)))

  -- without it
  dropped : ask_of u.heads ≡ Ready → first_was_taken u ≡ true → UnionStands s distinct lefts rights made count (record u { heads = without_first u.heads })
  dropped ready old =
      let f = first ready in
      let behind = rows_left s lefts rights f.left_then f.right_then in
      let rest = st.rest ∙ ap (given_of distinct st.taken) f.rows ∙ given-old distinct st.taken f.next behind (sym (repeated f.next f.held ready) ∙ old) in
      let state : record u { heads = without_first u.heads } ≡ union_of s distinct (heads_after s lefts rights made f.left_then f.right_then) st.taken =
      ap (λ (v : Union). record v { heads = without_first v.heads }) st.state
      ∙ ap (λ h. union_of s distinct h st.taken) f.without in
      record {
        place = record {
          input = st.input;
          left = f.left_then;
          right = f.right_then;
          gone = st.gone ++ f.turn ∷ [];
          taken = st.taken;
          state = state;
          answered = st.answered;
          merging = f.merging bar (λ k h. h) (before-next f.next behind (given_of distinct st.taken behind) count f.rows rest (In-given distinct st.taken behind));
          rest = rest;
          within = st.within;
        };
        new = ap first_was_taken state ∙ due-new s distinct (heads_after s lefts rights made f.left_then f.right_then) st.taken f.side f.due;
      }

  -- a row whose values were taken is dropped
  pub settled-stands : UnionStands s distinct lefts rights made count (settled u)
  settled-stands =
      (elim (first_was_taken u) as (λ b. first_was_taken u ≡ b → UnionStands s distinct lefts rights made count (cond b (record u { heads = without_first u.heads }) u)) [
        | false ↦ λ new. record { place = st; new = new }
        | true ↦ λ old. repeated_row (ask_of u.heads) refl old
      ]) refl
    where
      none : (b : Bool) → (b && false) ≡ true → ⊥
      none true e = cc
      none false e = cc

      repeated_row : (ask : JoinAsk) → ask_of u.heads ≡ ask → first_was_taken u ≡ true → UnionStands s distinct lefts rights made count (record u { heads = without_first u.heads })
      repeated_row NeedLeft e old = absurd (none u.distinct (sym (ap (λ a. u.distinct && is_repeated a u) e) ∙ old))
      repeated_row NeedRight e old = absurd (none u.distinct (sym (ap (λ a. u.distinct && is_repeated a u) e) ∙ old))
      repeated_row End e old = absurd (none u.distinct (sym (ap (λ a. u.distinct && is_repeated a u) e) ∙ old))
      repeated_row Ready e old = dropped e old

-- where the row that comes first is not dropped, it is the next answer
module _ (s : Sides) (distinct : Bool) (lefts rights : List OutputRow) (made : List SideAsk) (count : ℕ) (u : Union) (stands : UnionStands s distinct lefts rights made count u) where
  abbrev at : UnionAt s distinct lefts rights made count u
  at = stands.place

  abbrev all_rows : List OutputRow
  all_rows = answers s (union_op distinct) lefts rights

  abbrev now_bar : Option Key
  now_bar = bar_after (row_key s) all_rows count

  new_row : (ready : ask_of u.heads ≡ Ready) (f : IsFirst s lefts rights made now_bar at.left at.right at.gone) → (distinct && has_list f.next.values at.taken) ≡ false
  new_row ready f = sym (repeated s distinct lefts rights made count u at f.next f.held ready) ∙ stands.new

  answers_left : (ready : ask_of u.heads ≡ Ready) (f : IsFirst s lefts rights made now_bar at.left at.right at.gone)
      → drop count all_rows ≡ f.next ∷ given_of distinct (with_values distinct f.next.values at.taken) (rows_left s lefts rights f.left_then f.right_then)
  answers_left ready f =
      at.rest ∙ ap (given_of distinct at.taken) f.rows ∙ given-new distinct at.taken f.next (rows_left s lefts rights f.left_then f.right_then) (new_row ready f)

  -- it is given, and its values are taken
  pub taken-stands : ask_of u.heads ≡ Ready → (taken_for (ask_of u.heads) u ≡ option_map (λ (row : OutputRow). row.row) (slice_get all_rows count)) × UnionStands s distinct lefts rights made (suc count) (left_for (ask_of u.heads) u)
  taken-stands ready =
      let f = first s distinct lefts rights made count u at ready in
      let behind = rows_left s lefts rights f.left_then f.right_then in
      let taken = with_values distinct f.next.values at.taken in
      let parts = some-rest count all_rows (given_of distinct taken behind) f.next (answers_left ready f) in
      let state : left_for Ready u ≡ union_of s distinct (heads_after s lefts rights made f.left_then f.right_then) taken =
      ap (left_for Ready) at.state
      ∙ ap₂ (λ h o. union_of s distinct h (cond distinct (with_taken o at.taken) at.taken)) f.without f.held in
      rw ready (
        ap (λ (v : Union). row_of (first_of v.heads)) at.state ∙ ap row_of f.held ∙ sym (ap (option_map (λ (row : OutputRow). row.row)) parts.0),
        record {
          place = record {
            input = at.input;
            left = f.left_then;
            right = f.right_then;
            gone = at.gone ++ f.turn ∷ [];
            taken = taken;
            state = state;
            answered = taken-more distinct all_rows count f.next at.taken (new_row ready f) parts.0 at.answered;
            merging =
                f.merging (bar_after (row_key s) all_rows (suc count)) (bars-keep s all_rows (union-climbs s distinct lefts rights at.input) count)
                (before-next s distinct lefts rights made count u at f.next behind (given_of distinct taken behind) (suc count) f.rows parts.1 (In-given distinct taken behind));
            rest = parts.1;
            within = slice_get_within all_rows count f.next parts.0;
          };
          new = ap first_was_taken state ∙ due-new s distinct (heads_after s lefts rights made f.left_then f.right_then) taken f.side f.due;
        },
      )

  -- what an ask tells of the schedule
  told : (ask : JoinAsk) → ask_of u.heads ≡ ask → turns.Tells (schedule key_cmp (keys_of s lefts) (keys_of s rights) now_bar) made count (length all_rows) ask
  told ask e = of ask e (shows s lefts rights made now_bar at.left at.right at.gone at.merging ask (asks s distinct lefts rights made count u at ask e))
    where
      of : (ask : JoinAsk) → ask_of u.heads ≡ ask → Shows s lefts rights at.left at.right (asked Left made) (asked Right made) (heads_after s lefts rights made at.left at.right) ask
          → turns.Tells (schedule key_cmp (keys_of s lefts) (keys_of s rights) now_bar) made count (length all_rows) ask
      of NeedLeft e due = next-left s lefts rights made now_bar at.left at.right at.gone at.merging due
      of NeedRight e due = next-right s lefts rights made now_bar at.left at.right at.gone at.merging due.0 due.1
      of Ready e now =
          let f = first s distinct lefts rights made count u at e in
          let behind = rows_left s lefts rights f.left_then f.right_then in
          let rest = answers_left e f in
          let bar_is : now_bar ≡ Some (row_key s f.next) = bar-rest (row_key s) count all_rows ∙ ap (λ ys. bar_after (row_key s) ys 0) rest in (
            all-asked s lefts rights made now_bar at.left at.right at.gone at.merging now.0 now.1
                (ap (λ b. asked_before key_cmp b (turns_left s lefts rights at.left at.right)) bar_is ∙ none-left s lefts rights at.input at.left at.right f.next behind f.rows),
            slice_get_within all_rows count f.next (some-rest count all_rows (given_of distinct (with_values distinct f.next.values at.taken) behind) f.next rest).0,
          )
      of End e now =
          let empty_left = rest-none at.left lefts now.2.left_over in
          let empty_right = rest-none at.right rights now.2.right_over in (
            all-asked s lefts rights made now_bar at.left at.right at.gone at.merging now.0 now.1
                (ap₂ (λ xs ys. asked_before key_cmp now_bar (merged key_cmp (λ (turn : Turn Key). turn.key) (turns_from Left (suc (suc at.left)) (keys_of s xs)) (turns_from Right (suc (suc at.right)) (keys_of s ys)))) empty_left empty_right),
            (let past = none-rest count all_rows (at.rest ∙ ap₂ (λ xs ys. given_of distinct at.taken (merged key_cmp (row_key s) xs ys)) empty_left empty_right ∙ given-none distinct at.taken) in let within = at.within in omega arith),
          )

  pub tells : (ask : JoinAsk) → ask_of u.heads ≡ ask → Tells s (union_op distinct) lefts rights made count ask
  tells ask e = subst (λ list. turns.Tells list made count (length all_rows) ask) (sym (union-schedule s distinct lefts rights count)) (told ask e)
