-- A join that keeps its rows is fed one more row of either side: what holds of it still does, and the new pairs can be found
-- and are put in behind the one taken last.
use Rattle.std.proofs.Common.{◌≡◌, ℕ, Bool, true, false, List, [], ◌∷◌, ◌++◌, map, Option, Some, None, refl, sym, ◌∙◌, ap, ap₂, subst, ◌⊎◌, inl, inr}
use Rattle.std.specs.List.{AllByRecursion}
use Rattle.std.specs.declared.cmp.Ordering.TheVariants.{Less, Equal}
use Rattle.rs_order.specs.Climbing.{Climbs, In, Precedes}
use Rattle.rs_order.specs.Sorting.{put_each}
use Rattle.rs_order.proofs.ClimbingFacts.{AllByRecursion-In, AllByRecursion-from_In}
use Rattle.rs_order.proofs.EachFacts.{each-map, each-push}
use Rattle.rs_rank.specs.declared.key.Key.{Key}
use Rattle.rs_rank.specs.declared.row.RankRow.{RankRow}
use Rattle.rs_rank.specs.Ids.{AreOtherIds}
use Rattle.rs_rank.specs.Keys.{key_cmp}
use Rattle.rs_rank.specs.Rows.{merge_row}
use Rattle.rs_rank.proofs.OrderFacts.{key_cmp-total}
use Rattle.rs_ripple.specs.declared.side.Drawn.{Drawn}
use Rattle.rs_ripple.specs.declared.side.Side.{Side}
use Rattle.rs_ripple.specs.Joined.{Fits, Joined, all_found, block_of, is_behind, join_of, left_key, pairs_behind, right_key}
use Rattle.rs_ripple.specs.Ripple.{HasDrawn, IsBehind, IsBehindDrawn, IsOfBlock, IsTakenReached, Ripple, full_key, is_reached, left_threshold, right_threshold}
use Rattle.rs_ripple.specs.Stands.{AreRowsOf, AreSidesOf, CanFindEach, IsRowOf, Join, drawn_of, found_each, side_key}
use Rattle.rs_ripple.proofs.GrowFacts.{Grows, drop-grown, put_each-map}
use Rattle.rs_ripple.proofs.JoinedFacts.{behind-test, has_drawn-in, has-ends, others-push, reached-before, rising-push, rows-of_block}
use Rattle.rs_ripple.proofs.MoreFacts.{Climbs-last, Grows-filter}
use Rattle.rs_ripple.proofs.PairFacts.{IsPair, ordered}
use Rattle.rs_ripple.proofs.SideFacts.{pair-entries, pair-sum}
use Rattle.rs_ripple.proofs.StepFacts.{can_find_each, found_each-held, key_of_pair, pair_of}

-- where the first row of each side is of a block, it is the block of all
pub block-first : (ripple : Ripple) (lefts rights : List RankRow) (block : ℕ) (z : RankRow) → IsOfBlock (drawn_of (map (left_key ripple) lefts)) block → IsOfBlock (drawn_of (map (right_key ripple) rights)) block → In z lefts ⊎ In z rights → block_of lefts rights ≡ block
block-first ripple [] [] block z left right h = absurd (elim h [ inl a ↦ a | inr b ↦ b ])
block-first ripple [] (y ∷ ys) block z left right h = right
block-first ripple (x ∷ xs) rights block z left right h = left

pub block-push : (key : RankRow → Key) (rows : List RankRow) (row : RankRow) → (key row).ids.block ≡ row.ids.block → IsOfBlock (drawn_of (map key rows)) row.ids.block → IsOfBlock (drawn_of (map key (rows ++ row ∷ []))) row.ids.block
block-push key [] row same of = same
block-push key (x ∷ xs) row same of = of

-- rows of a side, by the block of all, and with one more
pub rows-stay : (j : Join) (block : ℕ) (side : Side) (rows : List RankRow) → AreRowsOf j side rows → ((z : RankRow) → In z rows → j.block ≡ block) → AreRowsOf (record j { block = block }) side rows
rows-stay j block side rows are same = record { each = rows-of_block j block side rows are.each same; rising = are.rising; others = are.others }

pub rows-push : (j : Join) (block : ℕ) (side : Side) (rows : List RankRow) (row : RankRow) → AreRowsOf j side rows → ((z : RankRow) → In z rows → j.block ≡ block) →
    IsRowOf (record j { block = block }) side row → IsBehindDrawn (drawn_of (map (side_key j side) rows)) (side_key j side row) → AllByRecursion (λ other. AreOtherIds other.ids row.ids) rows → AreRowsOf (record j { block = block }) side (rows ++ row ∷ [])
rows-push j block side rows row are same is behind apart = record {
  each = each-push (IsRowOf (record j { block = block }) side) rows row (rows-of_block j block side rows are.each same) is;
  rising = rising-push (side_key j side) rows row are.rising behind;
  others = others-push rows row are.others apart;
}

-- the pair that was taken last was at both thresholds
pub record IsAtBoth (ripple : Ripple) (taken : Key) (left right : Option Drawn) : Type 0 where
  pub lefts : Drawn
  pub rights : Drawn
  pub left_is : Some lefts ≡ left
  pub right_is : Some rights ≡ right
  pub at_left : is_reached (left_threshold ripple lefts rights) taken ≡ true
  pub at_right : is_reached (right_threshold ripple lefts rights) taken ≡ true

pub at-both : (ripple : Ripple) (taken : Key) (left right : Option Drawn) → IsTakenReached (Some taken) left right ripple → IsAtBoth ripple taken left right
at-both ripple taken None right reached = absurd reached
at-both ripple taken (Some l) None reached = absurd reached
at-both ripple taken (Some l) (Some r) reached = record { lefts = l; rights = r; left_is = refl; right_is = refl; at_left = reached.0; at_right = reached.1 }

-- a row behind those drawn of its side, by the keys of its side and of the other one: how the key of a pair is made of them, and
-- the key of the pair of a row of its side with one of the other
pub record IsNew (own_key other_key : RankRow → Key) (pair : Key → Key → Key) (full : RankRow → RankRow → Key) (owns others : List RankRow) (row : RankRow) : Type 0 where
  pub merged : (x y : RankRow) → pair (own_key x) (other_key y) ≡ full x y
  pub own_climbs : (y : RankRow) → In y others → Climbs key_cmp (λ x. full x y) (owns ++ row ∷ [])
  pub other_climbs : Climbs key_cmp (full row) others

module _ (own_key other_key : RankRow → Key) (pair : Key → Key → Key) (full : RankRow → RankRow → Key) (owns others : List RankRow) (row : RankRow) (new : IsNew own_key other_key pair full owns others row) where
  -- the side's threshold comes before the new row's pair with the first row of the other side
  pub threshold-before : (own other : Drawn) → Some own ≡ drawn_of (map own_key owns) → Some other ≡ drawn_of (map other_key others) → key_cmp (pair own.last other.first) (pair (own_key row) other.first) ≡ Less
  threshold-before own other eo et =
      let mine = has-ends own_key owns own eo in
      let theirs = has-ends other_key others other et in
      let in_first : In theirs.first others = subst (In theirs.first) (sym theirs.is) (inl refl) in
      ap₂ key_cmp (ap₂ pair mine.last_key theirs.first_key ∙ new.merged mine.last theirs.first) (ap (pair (own_key row)) theirs.first_key ∙ new.merged row theirs.first)
      ∙ Climbs-last key_cmp (λ x. full x theirs.first) owns row mine.last (new.own_climbs theirs.first in_first) mine.in_last

  -- so what is at the threshold comes before all pairs of the new row
  pub row-behind : (taken : Key) (own other : Drawn) → Some own ≡ drawn_of (map own_key owns) → Some other ≡ drawn_of (map other_key others) → is_reached (Some (pair own.last other.first)) taken ≡ true →
      (y : RankRow) → In y others → key_cmp taken (full row y) ≡ Less
  row-behind taken own other eo et at y h =
      let theirs = has-ends other_key others other et in
      let first : key_cmp taken (full row theirs.first) ≡ Less =
      reached-before taken (pair own.last other.first) (full row theirs.first) at
      (sym (ap (key_cmp (pair own.last other.first)) (ap (pair (own_key row)) theirs.first_key ∙ new.merged row theirs.first)) ∙ threshold-before own other eo et) in
      let climbs : Climbs key_cmp (full row) (theirs.first ∷ theirs.later) = subst (Climbs key_cmp (full row)) theirs.is new.other_climbs in
      elim (subst (In y) theirs.is h) [
        | inl e ↦ subst (λ v. key_cmp taken (full row v) ≡ Less) (sym e) first
        | inr later ↦ key_cmp-total.trans taken (full row theirs.first) (full row y) first (AllByRecursion-In (Precedes key_cmp (full row) theirs.first) theirs.later climbs.0 y later)
      ]

-- a join of which other keys and rows are drawn now
abbrev pub drawn_now : Ripple → Option Drawn → Option Drawn → Ripple
drawn_now ripple left right = record ripple { left = record ripple.left { drawn = left }; right = record ripple.right { drawn = right } }

abbrev pub fed_now : (RankRow → RankRow → Bool) → Ripple → Option Drawn → Option Drawn → List RankRow → List RankRow → Joined
fed_now matches ripple left right lefts rights = all_found matches (record { ripple = drawn_now ripple left right; lefts = lefts; rights = rights })

-- what one more row of either side brings: these pairs, all behind the one taken last
pub record IsFed (matches : RankRow → RankRow → Bool) (joined : Joined) (left right : Option Drawn) (lefts rights more : List RankRow) : Type 0 where
  pub alive : joined.ripple.spent ≡ false
  pub rows : (other : RankRow → RankRow → Bool) → AreSidesOf (join_of other (fed_now matches joined.ripple left right lefts rights)) lefts rights
  pub left_keys : left ≡ drawn_of (map (left_key joined.ripple) lefts)
  pub right_keys : right ≡ drawn_of (map (right_key joined.ripple) rights)
  pub inside : (z : RankRow) → In z more → IsPair matches merge_row lefts rights z
  pub behind : (z : RankRow) → In z more → IsBehind joined.ripple.taken (full_key joined.ripple z)
  pub items : Grows key_cmp (full_key joined.ripple) (ordered key_cmp matches merge_row (full_key joined.ripple) joined.lefts joined.rights) (ordered key_cmp matches merge_row (full_key joined.ripple) lefts rights) more

module _ (matches : RankRow → RankRow → Bool) (joined : Joined) (left right : Option Drawn) (lefts rights more : List RankRow) (f : IsFed matches joined left right lefts rights more) (fits : Fits matches joined) where
  abbrev ripple : Ripple
  ripple = joined.ripple

  abbrev fed : Joined
  fed = fed_now matches ripple left right lefts rights

  abbrev j : Join
  j = join_of matches fed

  -- the pairs behind the one taken last are those before and the new ones
  grows : Grows key_cmp (full_key ripple) (pairs_behind matches joined) (pairs_behind matches fed) more
  grows =
      Grows-filter key_cmp (full_key ripple) (λ z. is_behind ripple.taken (full_key ripple z))
      (ordered key_cmp matches merge_row (full_key ripple) joined.lefts joined.rights) (ordered key_cmp matches merge_row (full_key ripple) lefts rights) more
      f.items (λ z h. behind-test ripple.taken (full_key ripple z) (f.behind z h))

  -- the core can be told them
  pub pairs-found : CanFindEach more (drawn_now ripple left right)
  pairs-found =
      subst (CanFindEach more) (sym (ap (λ s. record (drawn_now ripple left right) { spent = s }) f.alive))
      (can_find_each j left ripple.left.ended right ripple.right.ended ripple.taken more ripple.held
      (λ z h.
      let p = f.inside z h in
      record {
        left_drawn = subst HasDrawn (sym f.left_keys) (has_drawn-in (left_key ripple) lefts p.left p.in_left);
        right_drawn = subst HasDrawn (sym f.right_keys) (has_drawn-in (right_key ripple) rights p.right p.in_right);
        entries = pair-entries j lefts rights (f.rows matches) z p;
        sum = pair-sum j lefts rights (f.rows matches) z p;
        behind = f.behind z h;
      })
      grows.distinct
      (λ z h. subst (AllByRecursion (λ pair. key_cmp pair.0 (full_key ripple z) ≡ Equal → ⊥)) (sym fits)
      (each-map (λ pair. key_cmp pair.0 (full_key ripple z) ≡ Equal → ⊥) (pair_of j) (pairs_behind matches joined)
      (AllByRecursion-from_In (λ w. key_cmp (full_key ripple w) (full_key ripple z) ≡ Equal → ⊥) (pairs_behind matches joined) (λ w l. grows.apart w z l h)))))

  -- then all pairs are found
  pub pairs-all : found_each more (drawn_now ripple left right) ≡ fed.ripple
  pairs-all =
      found_each-held more (drawn_now ripple left right)
      ∙ ap (λ held. record (drawn_now ripple left right) { held = held })
      (ap (λ held. put_each key_cmp key_of_pair held (map (pair_of j) more)) fits
      ∙ put_each-map key_cmp key_of_pair (pair_of j) (pairs_behind matches joined) more
      ∙ ap (map (pair_of j)) (drop-grown key_cmp (full_key ripple) (pairs_behind matches joined) (pairs_behind matches fed) more grows 0 refl))
