-- A join that keeps its rows, after a pair was taken or a side has ended: what holds of it still does.
use Rattle.std.proofs.Common.{◌≡◌, ◌&&◌, Bool, true, false, cond, List, [], ◌∷◌, map, drop, Option, Some, None, refl, sym, ◌∙◌, ap, subst, inl, inr}
use Rattle.std.specs.List.{filter}
use Rattle.std.specs.Ordering.{is_gt, is_lt}
use Rattle.std.specs.declared.cmp.Ordering.TheVariants.{Less}
use Rattle.rs_order.specs.Climbing.{Climbs, In, Precedes}
use Rattle.rs_order.specs.Sorting.{sorted}
use Rattle.rs_order.proofs.ClimbingFacts.{AllByRecursion-In, Climbs-same, cmp-not_itself}
use Rattle.rs_order.proofs.ItemFacts.{Climbs-filter, In-filter, In-filter-back}
use Rattle.rs_order.proofs.PartFacts.{is_lt-Less}
use Rattle.rs_rank.specs.declared.ask.JoinAsk.{JoinAsk}
use Rattle.rs_rank.specs.declared.ask.JoinAsk.TheVariants.{NeedLeft, NeedRight, Ready, End}
use Rattle.rs_rank.specs.declared.key.Key.{Key}
use Rattle.rs_rank.specs.declared.row.RankRow.{RankRow}
use Rattle.rs_rank.specs.Keys.{key_cmp}
use Rattle.rs_rank.specs.Rows.{merge_row, first_key}
use Rattle.rs_rank.proofs.OrderFacts.{key_cmp-total}
use Rattle.rs_ripple.specs.declared.side.Drawn.{Drawn}
use Rattle.rs_ripple.specs.Joined.{Fits, IsJoined, Joined, end_left, end_right, is_behind, join_of, pairs_behind, rest_for}
use Rattle.rs_ripple.specs.Pairs.{pairs}
use Rattle.rs_ripple.specs.Ripple.{IsTakenReached, Ripple, ask_between, ask_drawn, ask_of, first_side, full_key, is_reached, left_for, left_threshold, right_threshold}
use Rattle.rs_ripple.proofs.PairFacts.{ordered-climbs}
use Rattle.rs_ripple.proofs.ReachedFacts.{left_end-reached, right_end-reached}
use Rattle.rs_ripple.proofs.SideFacts.{sides-grid}

-- the end of a side leaves the rows
pub left_end-joined : (joined : Joined) → IsJoined joined → IsJoined (end_left joined)
left_end-joined joined is = record {
  rows = is.rows;
  left_keys = is.left_keys;
  right_keys = is.right_keys;
  reached = left_end-reached joined.ripple joined.ripple.taken joined.ripple.left.drawn joined.ripple.right.drawn is.reached;
}

pub right_end-joined : (joined : Joined) → IsJoined joined → IsJoined (end_right joined)
right_end-joined joined is = record {
  rows = is.rows;
  left_keys = is.left_keys;
  right_keys = is.right_keys;
  reached = right_end-reached joined.ripple joined.ripple.taken joined.ripple.left.drawn joined.ripple.right.drawn is.reached;
}

-- a side that is asked is no pair
first_side-asks : {G : Type 0} (left right : Option Key) → first_side left right ≡ Ready → G
first_side-asks None None e = cc
first_side-asks None (Some r) e = cc
first_side-asks (Some l) None e = cc
first_side-asks (Some l) (Some r) e = go (is_gt (key_cmp l r)) e
  where
    go : {G : Type 0} (b : Bool) → cond b NeedRight NeedLeft ≡ Ready → G
    go true f = cc
    go false f = cc

ended-asks : {G : Type 0} (ask : JoinAsk) (b : Bool) → (ask ≡ Ready → G) → cond b End ask ≡ Ready → G
ended-asks ask true not_ready e = cc
ended-asks ask false not_ready e = not_ready e

-- where a pair can be taken there is one, and it is at both thresholds
ready-first : (left right : Option Key) (held : List (Key × RankRow)) → ask_between left right held ≡ Ready → (pair : Key × RankRow) × (rest : List (Key × RankRow)) × (held ≡ pair ∷ rest) × (is_reached left pair.0 ≡ true) × (is_reached right pair.0 ≡ true)
ready-first left right [] e = first_side-asks left right e
ready-first left right (pair ∷ rest) e = let both = go (is_reached left pair.0) (is_reached right pair.0) e in (pair, rest, refl, both.0, both.1)
  where
    go : (a b : Bool) → cond (a && b) Ready (first_side left right) ≡ Ready → (a ≡ true) × (b ≡ true)
    go true true f = (refl, refl)
    go true false f = first_side-asks left right f
    go false b f = first_side-asks left right f

pub ready-reached : (ripple : Ripple) (left right : Option Drawn) → ask_drawn left right ripple ≡ Ready → IsTakenReached (first_key ripple.held) left right (left_for Ready ripple)
ready-reached ripple None right e = ended-asks NeedLeft ripple.left.ended (λ f. cc) e
ready-reached ripple (Some l) None e = ended-asks NeedRight ripple.right.ended (λ f. cc) e
ready-reached ripple (Some l) (Some r) e =
    let first = ready-first (left_threshold ripple l r) (right_threshold ripple l r) ripple.held e in
    subst (λ held. IsTakenReached (first_key held) (Some l) (Some r) (left_for Ready ripple)) (sym first.2) (first.3, first.4)

ready-held : (ripple : Ripple) (left right : Option Drawn) → ask_drawn left right ripple ≡ Ready → ripple.held ≡ [] → ⊥
ready-held ripple None right e none = ended-asks NeedLeft ripple.left.ended (λ f. cc) e
ready-held ripple (Some l) None e none = ended-asks NeedRight ripple.right.ended (λ f. cc) e
ready-held ripple (Some l) (Some r) e none =
    let first = ready-first (left_threshold ripple l r) (right_threshold ripple l r) ripple.held e in
    no_pair (sym none ∙ first.2)
  where
    no_pair : {pair : Key × RankRow} {rest : List (Key × RankRow)} → [] ≡ pair ∷ rest → ⊥
    no_pair f = cc

pub rest-joined : (joined : Joined) → IsJoined joined → IsJoined (rest_for (ask_of joined.ripple) joined)
rest-joined joined is =
    (elim (ask_of joined.ripple) as (λ ask. ask_of joined.ripple ≡ ask → IsJoined (rest_for ask joined)) [
      | NeedLeft ↦ λ e. is
      | NeedRight ↦ λ e. is
      | Ready ↦ λ e. record {
        rows = is.rows;
        left_keys = is.left_keys;
        right_keys = is.right_keys;
        reached = ready-reached joined.ripple joined.ripple.left.drawn joined.ripple.right.drawn e;
      }
      | End ↦ λ e. is
    ]) refl

-- what comes behind a key that comes behind another one comes behind that other
behind-later : (taken : Option Key) (k l : Key) → is_behind taken k ≡ true → key_cmp k l ≡ Less → is_behind taken l ≡ true
behind-later None k l behind less = refl
behind-later (Some t) k l behind less = ap is_lt (key_cmp-total.trans t k l (is_lt-Less (key_cmp t k) behind) less)

-- of the rows behind a key those behind the first of them are the others
behind-rest : (key : RankRow → Key) (taken : Option Key) (rows : List RankRow) (x : RankRow) (xs : List RankRow) → Climbs key_cmp key rows → filter (λ z. is_behind taken (key z)) rows ≡ x ∷ xs → filter (λ z. is_behind (Some (key x)) (key z)) rows ≡ xs
behind-rest key taken rows x xs climbs e =
    let part : Climbs key_cmp key (x ∷ xs) = subst (Climbs key_cmp key) e (Climbs-filter key_cmp key (λ z. is_behind taken (key z)) rows climbs) in
    let first = In-filter-back (λ z. is_behind taken (key z)) x rows (subst (In x) (sym e) (inl refl)) in
    Climbs-same key_cmp key_cmp-total key (filter (λ z. is_behind (Some (key x)) (key z)) rows) xs (Climbs-filter key_cmp key (λ z. is_behind (Some (key x)) (key z)) rows climbs) part.1
    (λ z h.
    let both = In-filter-back (λ z. is_behind (Some (key x)) (key z)) z rows h in
    let less = is_lt-Less (key_cmp (key x) (key z)) both.1 in
    let inside : In z (x ∷ xs) = subst (In z) e (In-filter (λ z. is_behind taken (key z)) z rows both.0 (behind-later taken (key x) (key z) first.1 less)) in
    elim inside [
      | inl same ↦ absurd (cmp-not_itself key_cmp key_cmp-total (key x) (subst (λ w. key_cmp (key x) (key w) ≡ Less) same less))
      | inr later ↦ later
    ])
    (λ z later.
    let both = In-filter-back (λ z. is_behind taken (key z)) z rows (subst (In z) (sym e) (inr later)) in
    In-filter (λ z. is_behind (Some (key x)) (key z)) z rows both.0 (ap is_lt (AllByRecursion-In (Precedes key_cmp key x) xs part.0 z later)))

pub rest-fits : (joined : Joined) → IsJoined joined → (matches : RankRow → RankRow → Bool) → Fits matches joined → Fits matches (rest_for (ask_of joined.ripple) joined)
rest-fits joined is matches fits =
    (elim (ask_of joined.ripple) as (λ ask. ask_of joined.ripple ≡ ask → Fits matches (rest_for ask joined)) [
      | NeedLeft ↦ λ e. fits
      | NeedRight ↦ λ e. fits
      | Ready ↦ λ e. taken (pairs_behind matches joined) refl e
      | End ↦ λ e. fits
    ]) refl
  where
    key : RankRow → Key
    key = full_key joined.ripple

    all : List RankRow
    all = sorted key_cmp key (pairs matches merge_row joined.lefts joined.rights)

    taken : (rows : List RankRow) → pairs_behind matches joined ≡ rows → ask_of joined.ripple ≡ Ready → Fits matches (rest_for Ready joined)
    taken [] same e = absurd (ready-held joined.ripple joined.ripple.left.drawn joined.ripple.right.drawn e (fits ∙ ap (map (λ row. (key row, row))) same))
    taken (x ∷ xs) same e =
        subst (λ held. drop 1 held ≡ map (λ row. (key row, row)) (filter (λ row. is_behind (first_key held) (key row)) all)) (sym (fits ∙ ap (map (λ row. (key row, row))) same))
        (ap (map (λ row. (key row, row)))
        (sym (behind-rest key joined.ripple.taken all x xs (ordered-climbs key_cmp matches merge_row key joined.lefts joined.rights (sides-grid (join_of matches joined) joined.lefts joined.rights (is.rows matches))) same)))
