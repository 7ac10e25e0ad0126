-- What each call does to what the core of a rank join keeps, of the rows of its sides.
use Rattle.std.proofs.Common.{◌≡◌, ℕ, zero, suc, ◌||◌, Bool, false, List, [], ◌∷◌, take, map, bit_or, Option, Some, None, refl, sym, ◌∙◌, ap, subst, inl, inr}
use Rattle.std.specs.List.{AllByRecursion, slice_get}
use Rattle.std.specs.Ordering.{is_eq}
use Rattle.std.specs.declared.cmp.Ordering.{Ordering}
use Rattle.std.specs.declared.cmp.Ordering.TheVariants.{Less, Equal, Greater}
use Rattle.rs_order.specs.Asks.{bar_after}
use Rattle.rs_order.specs.Climbing.{Climbs, Differs, HasDistinctKeys, In, IsBeyond, Precedes}
use Rattle.rs_order.specs.Last.{last_from}
use Rattle.rs_order.specs.Sorting.{put, put_each}
use Rattle.rs_order.proofs.ClimbingFacts.{AllByRecursion-In, AllByRecursion-from_In}
use Rattle.rs_order.proofs.PartFacts.{In-slice_get, In-take, take-snoc}
use Rattle.rs_order.proofs.SortingFacts.{each-put}
use Rattle.rs_queue.specs.Queue.{has_key}
use Rattle.rs_rank.specs.declared.key.Key.{Key}
use Rattle.rs_rank.specs.declared.row.RankRow.{RankRow}
use Rattle.rs_rank.specs.Ids.{AreOtherIds}
use Rattle.rs_rank.specs.Keys.{key_cmp}
use Rattle.rs_rank.specs.Rows.{HasSum, HaveOtherIds, merge_row}
use Rattle.rs_rank.proofs.OrderFacts.{IsTied-parts}
use Rattle.rs_rank.proofs.WeightFacts.{IsBound-sum}
use Rattle.rs_ripple.specs.declared.side.Drawn.{Drawn}
use Rattle.rs_ripple.specs.declared.side.Side.{Side}
use Rattle.rs_ripple.specs.Pairs.{pairs_against, pairs_with}
use Rattle.rs_ripple.specs.Ripple.{HasDrawn, IsBehind, IsBehindDrawn, IsKeyOf, IsOfBlock, Ripple, drawn_with, found, full_key}
use Rattle.rs_ripple.specs.Stands.{AreFoundOf, AreSidesOf, CanFindEach, IsRowOf, Join, answer_key, answers, drawn_of, found_each, side_key, side_keys, taken_after}
use Rattle.rs_ripple.proofs.GrowFacts.{Grows, IsBeyond-last, more-later}
use Rattle.rs_ripple.proofs.MoreFacts.{grows-left_item, grows-right_item}
use Rattle.rs_ripple.proofs.NextFacts.{last_from-place}
use Rattle.rs_ripple.proofs.PairFacts.{Grid, Grid-take, IsPair, IsPair-within, In-ordered-back}
use Rattle.rs_ripple.proofs.SideFacts.{pair-entries, pair-sum, sides-grid}

-- what the core keeps of a join
abbrev pub kept : Join → Option Drawn → Bool → Option Drawn → Bool → Option Key → List (Key × RankRow) → Ripple
kept j left left_over right right_over taken held = record {
  weights = j.weights;
  left = record { side = j.left; drawn = left; ended = left_over };
  right = record { side = j.right; drawn = right; ended = right_over };
  taken = taken;
  held = held;
  spent = false;
}

pub kept-same : (j : Join) (l l' : Option Drawn) (b b' : Bool) (r r' : Option Drawn) (c c' : Bool) (t t' : Option Key) (h h' : List (Key × RankRow)) → l ≡ l' → b ≡ b' → r ≡ r' → c ≡ c' → t ≡ t' → h ≡ h' → kept j l b r c t h ≡ kept j l' b' r' c' t' h'
kept-same j l l' b b' r r' c c' t t' h h' e f g i k m =
    ap (λ z. kept j z b r c t h) e ∙ ap (λ z. kept j l' z r c t h) f ∙ ap (λ z. kept j l' b' z c t h) g
    ∙ ap (λ z. kept j l' b' r' z t h) i ∙ ap (λ z. kept j l' b' r' c' z h) k ∙ ap (kept j l' b' r' c' t') m

abbrev pub pair_of : Join → RankRow → Key × RankRow
pair_of j row = (answer_key j row, row)

abbrev pub key_of_pair : Key × RankRow → Key
key_of_pair pair = pair.0

-- pairs that are found are put in
pub found_each-held : (rows : List RankRow) (ripple : Ripple) → found_each rows ripple ≡ record ripple { held = put_each key_cmp key_of_pair ripple.held (map (λ row. (full_key ripple row, row)) rows) }
found_each-held [] ripple = refl
found_each-held (row ∷ rows) ripple = found_each-held rows (found row ripple)

-- one key more of a side
pub drawn-more : (keys : List Key) (i : ℕ) (key : Key) → slice_get keys i ≡ Some key → Some (drawn_with (drawn_of (take i keys)) key) ≡ drawn_of (take (suc i) keys)
drawn-more [] i key e = cc
drawn-more (k ∷ ks) zero key e = let same : k ≡ key = cc in ap (λ l. Some (record { first = l; last = l })) (sym same)
drawn-more (k ∷ ks) (suc i) key e = ap (λ l. Some (record { first = k; last = l })) (sym (last_from-place (suc i) k ks key e))

-- the key of a row of a side
pub row-key : (j : Join) (side : Side) (row : RankRow) → IsRowOf j side row → IsKeyOf j.weights side (side_key j side row)
row-key j side row r = record { ids = r.ids; entries = r.entries; bound = IsBound-sum j.weights side.terms row.sum r.sum }

-- is of the block of those drawn
pub block-drawn : (j : Join) (side : Side) (rows : List RankRow) (i block : ℕ) → AllByRecursion (IsRowOf j side) rows → block ≡ j.block → IsOfBlock (drawn_of (take i (side_keys j side rows))) block
block-drawn j side rows zero block each e = tt
block-drawn j side [] (suc i) block each e = tt
block-drawn j side (row ∷ rows) (suc i) block each e = each.0.block ∙ sym e

-- and comes behind them
last-behind : (key : RankRow → Key) (first : RankRow) (rows : List RankRow) (i : ℕ) (row : RankRow) → Climbs key_cmp key (first ∷ rows) → slice_get (first ∷ rows) (suc i) ≡ Some row → key_cmp (last_from (key first) (take i (map key rows))) (key row) ≡ Less
last-behind key first rows zero row climbs e = AllByRecursion-In (Precedes key_cmp key first) rows climbs.0 row (In-slice_get 0 rows row e)
last-behind key first [] (suc i) row climbs e = cc
last-behind key first (next ∷ rows) (suc i) row climbs e = last-behind key next rows i row climbs.1 e

pub behind-drawn : (key : RankRow → Key) (rows : List RankRow) (i : ℕ) (row : RankRow) → Climbs key_cmp key rows → slice_get rows i ≡ Some row → IsBehindDrawn (drawn_of (take i (map key rows))) (key row)
behind-drawn key rows zero row climbs e = tt
behind-drawn key [] (suc i) row climbs e = cc
behind-drawn key (first ∷ rows) (suc i) row climbs e = last-behind key first rows i row climbs e

-- a side has a row where one of its rows was drawn
has-drawn : (key : RankRow → Key) (rows : List RankRow) (i : ℕ) (row : RankRow) → In row (take i rows) → HasDrawn (drawn_of (take i (map key rows)))
has-drawn key rows zero row h = h
has-drawn key [] (suc i) row h = h
has-drawn key (first ∷ rows) (suc i) row h = tt

-- rows of other ids have distinct keys
distinct-ids : (j : Join) (rows : List RankRow) → HaveOtherIds rows → HasDistinctKeys key_cmp (answer_key j) rows
distinct-ids j [] others = tt
distinct-ids j (row ∷ rows) others = (
  AllByRecursion-from_In (Differs key_cmp (answer_key j) row) rows
      (λ z h tied. let parts = IsTied-parts (answer_key j row) (answer_key j z) tied in AllByRecursion-In (λ other. AreOtherIds row.ids other.ids) rows others.0 z h parts.1 parts.2),
  distinct-ids j rows others.1,
)

-- no held pair has a key that differs from all of theirs
has_key-none : (key : Key) (held : List (Key × RankRow)) → AllByRecursion (λ pair. key_cmp pair.0 key ≡ Equal → ⊥) held → has_key key_cmp key held ≡ false
has_key-none key [] all = refl
has_key-none key (pair ∷ rest) all = ap (λ b. b || has_key key_cmp key rest) (not_eq (key_cmp pair.0 key) all.0) ∙ has_key-none key rest all.1
  where
    not_eq : (r : Ordering) → (r ≡ Equal → ⊥) → is_eq r ≡ false
    not_eq Less differ = refl
    not_eq Equal differ = absurd (differ refl)
    not_eq Greater differ = refl

-- what is known of a pair that can be found
pub record IsFindable (j : Join) (left right : Option Drawn) (taken : Option Key) (row : RankRow) : Type 0 where
  pub left_drawn : HasDrawn left
  pub right_drawn : HasDrawn right
  pub entries : row.ids.mask ≡ bit_or j.left.mask j.right.mask
  pub sum : HasSum j.weights (bit_or j.left.terms j.right.terms) row
  pub behind : IsBehind taken (answer_key j row)

pub can_find_each : (j : Join) (l : Option Drawn) (b : Bool) (r : Option Drawn) (c : Bool) (t : Option Key) (rows : List RankRow) (h : List (Key × RankRow)) → ((z : RankRow) → In z rows → IsFindable j l r t z) → HasDistinctKeys key_cmp (answer_key j) rows → ((z : RankRow) → In z rows → AllByRecursion (λ pair. key_cmp pair.0 (answer_key j z) ≡ Equal → ⊥) h) → CanFindEach rows (kept j l b r c t h)
can_find_each j l b r c t [] h fits distinct absent = tt
can_find_each j l b r c t (row ∷ rows) h fits distinct absent =
    let first = fits row (inl refl) in (
      record {
        alive = refl;
        left = first.left_drawn;
        right = first.right_drawn;
        entries = first.entries;
        sum = first.sum;
        absent = has_key-none (answer_key j row) h (absent row (inl refl));
        behind = first.behind;
      },
      can_find_each j l b r c t rows (put key_cmp key_of_pair (pair_of j row) h) (λ z k. fits z (inr k)) distinct.1
          (λ z k. each-put key_cmp key_of_pair (λ pair. key_cmp pair.0 (answer_key j z) ≡ Equal → ⊥) (pair_of j row) h
          (AllByRecursion-In (Differs key_cmp (answer_key j) row) rows distinct.0 z k) (absent z (inr k))),
    )

module _ (j : Join) (lefts rights : List RankRow) (input : AreSidesOf j lefts rights) where
  abbrev part : ℕ → ℕ → List RankRow
  part i k = answers j (take i lefts) (take k rights)

  pub part-back : (i k : ℕ) (z : RankRow) → In z (part i k) → IsPair j.matches merge_row (take i lefts) (take k rights) z
  part-back i k z h = In-ordered-back key_cmp j.matches merge_row (answer_key j) (take i lefts) (take k rights) z h

  part-grid : (i k : ℕ) → Grid key_cmp merge_row (answer_key j) (take i lefts) (take k rights)
  part-grid i k = Grid-take key_cmp merge_row (answer_key j) i k lefts rights (sides-grid j lefts rights input)

  -- the pairs of one left row more
  pub grows-left : (i k : ℕ) (row : RankRow) (more : List RankRow) → slice_get lefts i ≡ Some row → AreFoundOf more (pairs_with j.matches merge_row (take k rights) row) → Grows key_cmp (answer_key j) (part i k) (part (suc i) k) more
  grows-left i k row more e found =
      let next = take-snoc i lefts row e in
      subst (λ rows. Grows key_cmp (answer_key j) (part i k) (answers j rows (take k rights)) more) (sym next)
      (grows-left_item key_cmp j.matches merge_row (answer_key j) (take i lefts) row (take k rights) more
      (subst (λ rows. Grid key_cmp merge_row (answer_key j) rows (take k rights)) next (part-grid (suc i) k)) found.same (distinct-ids j more found.others))

  -- the pairs of one right row more
  pub grows-right : (i k : ℕ) (row : RankRow) (more : List RankRow) → slice_get rights k ≡ Some row → AreFoundOf more (pairs_against j.matches merge_row (take i lefts) row) → Grows key_cmp (answer_key j) (part i k) (part i (suc k)) more
  grows-right i k row more e found =
      let next = take-snoc k rights row e in
      subst (λ rows. Grows key_cmp (answer_key j) (part i k) (answers j (take i lefts) rows) more) (sym next)
      (grows-right_item key_cmp j.matches merge_row (answer_key j) (take i lefts) (take k rights) row more
      (subst (λ rows. Grid key_cmp merge_row (answer_key j) (take i lefts) rows) next (part-grid i (suc k))) found.same (distinct-ids j more found.others))

  -- a pair of rows that were drawn can be found
  pub fits : (i k count : ℕ) (more : List RankRow) (old new : List RankRow) → Grows key_cmp (answer_key j) old new more → take count old ≡ take count new → take count new ≡ take count (answers j lefts rights) →
      (z : RankRow) → In z more → IsPair j.matches merge_row (take i lefts) (take k rights) z → IsFindable j (drawn_of (take i (side_keys j j.left lefts))) (drawn_of (take k (side_keys j j.right rights))) (taken_after j lefts rights count) z
  fits i k count more old new g shared same z h p =
      let inside : IsPair j.matches merge_row lefts rights z =
      IsPair-within j.matches merge_row (take i lefts) lefts (take k rights) rights z (λ w l. In-take i lefts w l) (λ w l. In-take k rights w l) p in
      record {
        left_drawn = has-drawn (side_key j j.left) lefts i p.left p.in_left;
        right_drawn = has-drawn (side_key j j.right) rights k p.right p.in_right;
        entries = pair-entries j lefts rights input z inside;
        sum = pair-sum j lefts rights input z inside;
        behind = behind count (more-later key_cmp (answer_key j) old new more g count shared (answers j lefts rights) same z h);
      }
    where
      behind : (count : ℕ) → IsBeyond key_cmp (answer_key j) count (answers j lefts rights) z → IsBehind (taken_after j lefts rights count) (answer_key j z)
      behind zero beyond = tt
      behind (suc n) beyond = go (bar_after (answer_key j) (answers j lefts rights) n) refl
        where
          go : (o : Option Key) → bar_after (answer_key j) (answers j lefts rights) n ≡ o → IsBehind o (answer_key j z)
          go None f = tt
          go (Some k) f = IsBeyond-last key_cmp (answer_key j) n (answers j lefts rights) z k beyond f
