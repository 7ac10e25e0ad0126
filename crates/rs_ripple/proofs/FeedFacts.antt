-- A join that keeps its rows is fed one more row of a side: what holds of it still does, and the new pairs can be found and are
-- put in behind the one taken last.
use Rattle.std.proofs.Common.{◌≡◌, Bool, true, false, cond, List, [], ◌∷◌, ◌++◌, map, Option, Some, None, refl, sym, ◌∙◌, ap, ap₂, subst, ◌⊎◌, inl, inr}
use Rattle.std.specs.List.{AllByRecursion, filter}
use Rattle.rs_order.specs.Climbing.{HasDistinctKeys, In}
use Rattle.rs_order.specs.Schedule.{JoinSide, Left, Right}
use Rattle.rs_order.proofs.ClimbingFacts.{AllByRecursion-from_In, Climbs-map}
use Rattle.rs_order.proofs.ItemFacts.{Climbs-filter, In-right}
use Rattle.rs_rank.specs.declared.key.Key.{Key}
use Rattle.rs_rank.specs.declared.row.RankRow.{RankRow}
use Rattle.rs_rank.specs.Keys.{key_cmp}
use Rattle.rs_rank.specs.Rows.{CanMergeRows, merge_row}
use Rattle.rs_ripple.specs.declared.side.Drawn.{Drawn}
use Rattle.rs_ripple.specs.Joined.{CanFeedLeft, CanFeedRight, Fits, IsJoined, Joined, block_of, join_of, left_key, right_key}
use Rattle.rs_ripple.specs.Pairs.{pairs_against, pairs_with}
use Rattle.rs_ripple.specs.Ripple.{IsBehind, IsBehindDrawn, IsOfBlock, IsTakenReached, Ripple, drawn_with, full_key, is_reached, pair_key}
use Rattle.rs_ripple.specs.Stands.{AreSidesOf, CanFindEach, drawn_of, found_each}
use Rattle.rs_ripple.proofs.AfterFacts.{left-going, right-going}
use Rattle.rs_ripple.proofs.FedFacts.{IsFed, IsNew, at-both, block-first, block-push, drawn_now, fed_now, pairs-all, pairs-found, row-behind, rows-push, rows-stay, threshold-before}
use Rattle.rs_ripple.proofs.JoinedFacts.{keys-push, reached-later}
use Rattle.rs_ripple.proofs.MoreFacts.{In-pairs_against, In-pairs_with, grows-left_item, grows-right_item}
use Rattle.rs_ripple.proofs.PairFacts.{Grid, HasDistinctKeys-Climbs, IsPair-within}
use Rattle.rs_ripple.proofs.SideFacts.{can_merge-rows, merged_key-rows, sides-grid}

-- the next row of a side
abbrev pub CanFeed : JoinSide → RankRow → Joined → Type 0
CanFeed Left = CanFeedLeft
CanFeed Right = CanFeedRight

pub can-alive : (side : JoinSide) (row : RankRow) (joined : Joined) → CanFeed side row joined → joined.ripple.spent ≡ false
can-alive Left row joined can = can.draw.alive
can-alive Right row joined can = can.draw.alive

module _ (ripple : Ripple) (lefts rights : List RankRow) (is : IsJoined (record { ripple = ripple; lefts = lefts; rights = rights })) (row : RankRow) where
  abbrev joined : Joined
  joined = record { ripple = ripple; lefts = lefts; rights = rights }

  -- the rows, and the keys that the core keeps of them
  abbrev left_rows : JoinSide → List RankRow
  left_rows Left = lefts ++ row ∷ []
  left_rows Right = lefts

  abbrev right_rows : JoinSide → List RankRow
  right_rows Left = rights
  right_rows Right = rights ++ row ∷ []

  abbrev drawn_left : JoinSide → Option Drawn
  drawn_left Left = Some (drawn_with ripple.left.drawn (left_key ripple row))
  drawn_left Right = ripple.left.drawn

  abbrev drawn_right : JoinSide → Option Drawn
  drawn_right Left = ripple.right.drawn
  drawn_right Right = Some (drawn_with ripple.right.drawn (right_key ripple row))

  abbrev fed : JoinSide → (RankRow → RankRow → Bool) → Joined
  fed side matches = fed_now matches ripple (drawn_left side) (drawn_right side) (left_rows side) (right_rows side)

  -- the new pairs
  abbrev more : JoinSide → (RankRow → RankRow → Bool) → List RankRow
  more Left matches = pairs_with matches merge_row rights row
  more Right matches = pairs_against matches merge_row lefts row

  here : (rows : List RankRow) → In row (rows ++ row ∷ [])
  here rows = In-right row rows (row ∷ []) (inl refl)

  -- all rows are of the block of the new one
  abbrev AreOfBlock : Type 0
  AreOfBlock = IsOfBlock (drawn_of (map (left_key ripple) lefts)) row.ids.block × IsOfBlock (drawn_of (map (right_key ripple) rights)) row.ids.block

  blocks : IsOfBlock ripple.left.drawn row.ids.block → IsOfBlock ripple.right.drawn row.ids.block → AreOfBlock
  blocks left right = (subst (λ d. IsOfBlock d row.ids.block) is.left_keys left, subst (λ d. IsOfBlock d row.ids.block) is.right_keys right)

  block-now : (side : JoinSide) → AreOfBlock → block_of (left_rows side) (right_rows side) ≡ row.ids.block
  block-now Left of = block-first ripple (lefts ++ row ∷ []) rights row.ids.block row (block-push (left_key ripple) lefts row refl of.0) of.1 (inl (here lefts))
  block-now Right of = block-first ripple lefts (rights ++ row ∷ []) row.ids.block row of.0 (block-push (right_key ripple) rights row refl of.1) (inr (here rights))

  same-block : (side : JoinSide) → AreOfBlock → (z : RankRow) → In z lefts ⊎ In z rights → block_of lefts rights ≡ block_of (left_rows side) (right_rows side)
  same-block side of z h = block-first ripple lefts rights row.ids.block z of.0 of.1 h ∙ sym (block-now side of)

  -- the rows are still those of two sides
  input : (side : JoinSide) → CanFeed side row joined → (matches other : RankRow → RankRow → Bool) → AreSidesOf (join_of matches (fed side other)) (left_rows side) (right_rows side)
  input Left can matches other =
      let old = is.rows matches in
      let of = blocks can.draw.left_block can.draw.right_block in
      record {
        sides = old.sides;
        left_rows = rows-push (join_of matches joined) (block_of (left_rows Left) rights) ripple.left.side lefts row old.left_rows (λ z h. same-block Left of z (inl h))
            (record { ids = can.draw.own.ids; entries = can.draw.own.entries; block = sym (block-now Left of); sum = can.sum }) (subst (λ d. IsBehindDrawn d (left_key ripple row)) is.left_keys can.draw.behind) can.others;
        right_rows = rows-stay (join_of matches joined) (block_of (left_rows Left) rights) ripple.right.side rights old.right_rows (λ z h. same-block Left of z (inr h));
      }
  input Right can matches other =
      let old = is.rows matches in
      let of = blocks can.draw.left_block can.draw.right_block in
      record {
        sides = old.sides;
        left_rows = rows-stay (join_of matches joined) (block_of lefts (right_rows Right)) ripple.left.side lefts old.left_rows (λ z h. same-block Right of z (inl h));
        right_rows = rows-push (join_of matches joined) (block_of lefts (right_rows Right)) ripple.right.side rights row old.right_rows (λ z h. same-block Right of z (inr h))
            (record { ids = can.draw.own.ids; entries = can.draw.own.entries; block = sym (block-now Right of); sum = can.sum }) (subst (λ d. IsBehindDrawn d (right_key ripple row)) is.right_keys can.draw.behind) can.others;
      }

  no_matter : RankRow → RankRow → Bool
  no_matter x y = true

  grid : (side : JoinSide) → CanFeed side row joined → (matches : RankRow → RankRow → Bool) → Grid key_cmp merge_row (full_key ripple) (left_rows side) (right_rows side)
  grid side can matches = sides-grid (join_of matches (fed side matches)) (left_rows side) (right_rows side) (input side can matches matches)

  -- the new row can be merged with each row of the other side
  merges : (side : JoinSide) → CanFeed side row joined → (x y : RankRow) → In x (left_rows side) → In y (right_rows side) → CanMergeRows x y
  merges side can = can_merge-rows (join_of no_matter (fed side no_matter)) (left_rows side) (right_rows side) (input side can no_matter no_matter)

  abbrev CanMergeWith : JoinSide → RankRow → Type 0
  CanMergeWith Left right = CanMergeRows row right
  CanMergeWith Right left = CanMergeRows left row

  abbrev others : JoinSide → List RankRow
  others Left = rights
  others Right = lefts

  feed-merges : (side : JoinSide) → CanFeed side row joined → AllByRecursion (CanMergeWith side) (others side)
  feed-merges Left can = AllByRecursion-from_In (CanMergeRows row) rights (λ y h. merges Left can row y (here lefts) h)
  feed-merges Right can = AllByRecursion-from_In (λ left. CanMergeRows left row) lefts (λ x h. merges Right can x row h (here rights))

  -- the key of a pair of two rows is made of their keys
  merged : (x y : RankRow) → pair_key ripple (left_key ripple x) (right_key ripple y) ≡ full_key ripple (merge_row x y)
  merged x y = merged_key-rows (join_of no_matter joined) x y

  abbrev pair_turned : Key → Key → Key
  pair_turned right left = pair_key ripple left right

  abbrev full : RankRow → RankRow → Key
  full x y = full_key ripple (merge_row x y)

  abbrev full_turned : RankRow → RankRow → Key
  full_turned y x = full x y

  new-left : CanFeed Left row joined → IsNew (left_key ripple) (right_key ripple) (pair_key ripple) full lefts rights row
  new-left can = record { merged = merged; own_climbs = (grid Left can no_matter).left_climbs; other_climbs = (grid Left can no_matter).right_climbs row (here lefts) }

  new-right : CanFeed Right row joined → IsNew (right_key ripple) (left_key ripple) pair_turned full_turned rights lefts row
  new-right can = record { merged = λ y x. merged x y; own_climbs = (grid Right can no_matter).right_climbs; other_climbs = (grid Right can no_matter).left_climbs row (here rights) }

  -- the thresholds stay at or behind the one taken last
  reached-left : CanFeed Left row joined → (held : List (Key × RankRow)) (taken : Option Key) (left right : Option Drawn) → left ≡ drawn_of (map (left_key ripple) lefts) → right ≡ drawn_of (map (right_key ripple) rights) → IsTakenReached taken left right ripple →
      IsTakenReached taken (Some (drawn_with left (left_key ripple row))) right (record (drawn_now ripple (drawn_left Left) ripple.right.drawn) { held = held })
  reached-left can held None left right el er reached = tt
  reached-left can held (Some t) None right el er reached = absurd reached
  reached-left can held (Some t) (Some l) None el er reached = absurd reached
  reached-left can held (Some t) (Some l) (Some r) el er reached = (
    reached-later ripple.left.ended t (pair_key ripple l.last r.first) (pair_key ripple (left_key ripple row) r.first) reached.0
        (threshold-before (left_key ripple) (right_key ripple) (pair_key ripple) full lefts rights row (new-left can) l r el er),
    reached.1,
  )

  reached-right : CanFeed Right row joined → (held : List (Key × RankRow)) (taken : Option Key) (left right : Option Drawn) → left ≡ drawn_of (map (left_key ripple) lefts) → right ≡ drawn_of (map (right_key ripple) rights) → IsTakenReached taken left right ripple →
      IsTakenReached taken left (Some (drawn_with right (right_key ripple row))) (record (drawn_now ripple ripple.left.drawn (drawn_right Right)) { held = held })
  reached-right can held None left right el er reached = tt
  reached-right can held (Some t) None right el er reached = absurd reached
  reached-right can held (Some t) (Some l) None el er reached = absurd reached
  reached-right can held (Some t) (Some l) (Some r) el er reached = (
    reached.0,
    reached-later ripple.right.ended t (pair_key ripple l.first r.last) (pair_key ripple l.first (right_key ripple row)) reached.1
        (threshold-before (right_key ripple) (left_key ripple) pair_turned full_turned rights lefts row (new-right can) r l er el),
  )

  reached-now : (side : JoinSide) → CanFeed side row joined → (held : List (Key × RankRow)) → IsTakenReached ripple.taken (drawn_left side) (drawn_right side) (record (drawn_now ripple (drawn_left side) (drawn_right side)) { held = held })
  reached-now Left can held = reached-left can held ripple.taken ripple.left.drawn ripple.right.drawn is.left_keys is.right_keys is.reached
  reached-now Right can held = reached-right can held ripple.taken ripple.left.drawn ripple.right.drawn is.left_keys is.right_keys is.reached

  -- and the new pairs come behind it
  behind-left : CanFeed Left row joined → (y : RankRow) → In y rights → (taken : Option Key) → IsTakenReached taken ripple.left.drawn ripple.right.drawn ripple → IsBehind taken (full_key ripple (merge_row row y))
  behind-left can y h None reached = tt
  behind-left can y h (Some t) reached =
      let both = at-both ripple t ripple.left.drawn ripple.right.drawn reached in
      row-behind (left_key ripple) (right_key ripple) (pair_key ripple) full lefts rights row (new-left can) t both.lefts both.rights (both.left_is ∙ is.left_keys) (both.right_is ∙ is.right_keys)
      (subst (λ over. is_reached (cond over None (Some (pair_key ripple both.lefts.last both.rights.first))) t ≡ true) (left-going ripple can.draw.need) both.at_left) y h

  behind-right : CanFeed Right row joined → (x : RankRow) → In x lefts → (taken : Option Key) → IsTakenReached taken ripple.left.drawn ripple.right.drawn ripple → IsBehind taken (full_key ripple (merge_row x row))
  behind-right can x h None reached = tt
  behind-right can x h (Some t) reached =
      let both = at-both ripple t ripple.left.drawn ripple.right.drawn reached in
      row-behind (right_key ripple) (left_key ripple) pair_turned full_turned rights lefts row (new-right can) t both.rights both.lefts (both.right_is ∙ is.right_keys) (both.left_is ∙ is.left_keys)
      (subst (λ over. is_reached (cond over None (Some (pair_key ripple both.lefts.first both.rights.last))) t ≡ true) (right-going ripple can.draw.need) both.at_right) x h

  more-distinct : (side : JoinSide) → CanFeed side row joined → (matches : RankRow → RankRow → Bool) → HasDistinctKeys key_cmp (full_key ripple) (more side matches)
  more-distinct Left can matches =
      HasDistinctKeys-Climbs key_cmp (full_key ripple) (more Left matches)
      (Climbs-map key_cmp (full_key ripple) (merge_row row) (filter (matches row) rights)
      (Climbs-filter key_cmp (λ y. full_key ripple (merge_row row y)) (matches row) rights ((grid Left can matches).right_climbs row (here lefts))))
  more-distinct Right can matches =
      HasDistinctKeys-Climbs key_cmp (full_key ripple) (more Right matches)
      (Climbs-map key_cmp (full_key ripple) (λ x. merge_row x row) (filter (λ x. matches x row) lefts)
      (Climbs-filter key_cmp (λ x. full_key ripple (merge_row x row)) (λ x. matches x row) lefts ((grid Right can matches).left_climbs row (here rights))))

  is-fed : (side : JoinSide) → CanFeed side row joined → (matches : RankRow → RankRow → Bool) → IsFed matches joined (drawn_left side) (drawn_right side) (left_rows side) (right_rows side) (more side matches)
  is-fed Left can matches = record {
    alive = can.draw.alive;
    rows = λ other. input Left can other matches;
    left_keys = keys-push ripple.left.drawn (left_key ripple) lefts row is.left_keys;
    right_keys = is.right_keys;
    inside = λ z h. IsPair-within matches merge_row (row ∷ []) (left_rows Left) rights rights z (λ w l. In-right w lefts (row ∷ []) l) (λ w l. l) (In-pairs_with key_cmp matches merge_row (full_key ripple) row rights z h);
    behind = λ z h.
        let p = In-pairs_with key_cmp matches merge_row (full_key ripple) row rights z h in
        let same : p.left ≡ row = elim p.in_left [ inl e ↦ e | inr none ↦ absurd none ] in
        subst (λ w. IsBehind ripple.taken (full_key ripple w)) (sym (p.made ∙ ap (λ x. merge_row x p.right) same)) (behind-left can p.right p.in_right ripple.taken is.reached);
    items = grows-left_item key_cmp matches merge_row (full_key ripple) lefts row rights (more Left matches) (grid Left can matches) (λ z. (λ h. h, λ h. h)) (more-distinct Left can matches);
  }
  is-fed Right can matches = record {
    alive = can.draw.alive;
    rows = λ other. input Right can other matches;
    left_keys = is.left_keys;
    right_keys = keys-push ripple.right.drawn (right_key ripple) rights row is.right_keys;
    inside = λ z h. IsPair-within matches merge_row lefts lefts (row ∷ []) (right_rows Right) z (λ w l. l) (λ w l. In-right w rights (row ∷ []) l) (In-pairs_against key_cmp matches merge_row (full_key ripple) lefts row z h);
    behind = λ z h.
        let p = In-pairs_against key_cmp matches merge_row (full_key ripple) lefts row z h in
        let same : p.right ≡ row = elim p.in_right [ inl e ↦ e | inr none ↦ absurd none ] in
        subst (λ w. IsBehind ripple.taken (full_key ripple w)) (sym (p.made ∙ ap (merge_row p.left) same)) (behind-right can p.left p.in_left ripple.taken is.reached);
    items = grows-right_item key_cmp matches merge_row (full_key ripple) lefts rights row (more Right matches) (grid Right can matches) (λ z. (λ h. h, λ h. h)) (more-distinct Right can matches);
  }

-- a caller sees the join as another value that is equal to it
module _ (side : JoinSide) {joined seen : Joined} (view : joined ≡ seen) (invariant : joined.ripple.spent ≡ false → IsJoined joined) (row : RankRow) (seen_can : CanFeed side row seen) where
  abbrev ripple : Ripple
  ripple = joined.ripple

  abbrev can : CanFeed side row joined
  can = subst (CanFeed side row) (sym view) seen_can

  abbrev is : IsJoined joined
  is = invariant (can-alive side row joined can)

  -- the join with the row
  abbrev now : (RankRow → RankRow → Bool) → Joined
  now = fed ripple joined.lefts joined.rights is row side

  abbrev drawn : Ripple
  drawn = drawn_now ripple (drawn_left ripple joined.lefts joined.rights is row side) (drawn_right ripple joined.lefts joined.rights is row side)

  pub row-merges : AllByRecursion (CanMergeWith ripple joined.lefts joined.rights is row side) (others ripple joined.lefts joined.rights is row side)
  row-merges = feed-merges ripple joined.lefts joined.rights is row side can

  module _ (matches : RankRow → RankRow → Bool) where
    abbrev new_pairs : List RankRow
    new_pairs = more ripple joined.lefts joined.rights is row side matches

    row-fed : IsFed matches joined (drawn_left ripple joined.lefts joined.rights is row side) (drawn_right ripple joined.lefts joined.rights is row side) (now matches).lefts (now matches).rights new_pairs
    row-fed = is-fed ripple joined.lefts joined.rights is row side can matches

    -- what holds of each join holds
    pub row-joined : IsJoined (now matches)
    row-joined = record {
      rows = row-fed.rows;
      left_keys = row-fed.left_keys;
      right_keys = row-fed.right_keys;
      reached = reached-now ripple joined.lefts joined.rights is row side can (now matches).ripple.held;
    }

    module _ (seen_fits : Fits matches seen) (told : Ripple) (is_told : told ≡ drawn) where
      fits : Fits matches joined
      fits = subst (Fits matches) (sym view) seen_fits

      -- the core that was told the row's key can be told the new pairs, and then all are found
      pub row-pairs : CanFindEach new_pairs told
      row-pairs = subst (CanFindEach new_pairs) (sym is_told) (pairs-found matches joined _ _ (now matches).lefts (now matches).rights new_pairs row-fed fits)

      pub row-found : (core : Ripple) → core ≡ found_each new_pairs told → core ≡ (now matches).ripple
      row-found core e = e ∙ ap (found_each new_pairs) is_told ∙ pairs-all matches joined _ _ (now matches).lefts (now matches).rights new_pairs row-fed fits

      pub row-now : (after : Joined) → after.ripple ≡ found_each new_pairs told → after.lefts ≡ (now matches).lefts → after.rights ≡ (now matches).rights → after ≡ now matches
      row-now after e l r =
          ap (λ (core : Ripple). record after { ripple = core }) (row-found after.ripple e)
          ∙ ap₂ (λ (ls : List RankRow) (rs : List RankRow). record { ripple = (now matches).ripple; lefts = ls; rights = rs }) l r
