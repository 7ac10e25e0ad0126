-- A set operator that is asked more goes on with the asks of its sides.
use Rattle.std.proofs.Common.{◌≡◌, ◌∙◌, ℕ, zero, suc, ◌-◌, ◌≤◌, max, List, [], ◌∷◌, ◌++◌, length, take, drop, Option, refl, sym, ap, ap₂, arith, append_assoc}
use Rattle.rs_order.specs.Asks.{IsNoFurther, asks_for, bar_after}
use Rattle.rs_order.specs.Climbing.{Climbs}
use Rattle.rs_order.specs.Schedule.{Left, Right, SideAsk, asks_from, schedule}
use Rattle.rs_order.proofs.AscendingFacts.{Ascends-Climbs, schedule-begin}
use Rattle.rs_order.proofs.AsksFacts.{asks_for-more, bar_after-later}
use Rattle.rs_outputs.specs.Rows.{OutputRow}
use Rattle.rs_rank.specs.Keys.{key_cmp}
use Rattle.rs_rank.specs.declared.key.Key.{Key}
use Rattle.rs_rank.proofs.OrderFacts.{key_cmp-total}
use Rattle.rs_rank.specs.SetTurns.{one_by_one, set_schedule, wanted_for}
use Rattle.rs_setop.specs.Sides.{AreSides as AreSideRows, Sides, answers, keys_of, row_key, schedule_of}
use Rattle.rs_setop.proofs.BaseFacts.{answers-climb}
use Rattle.rs_value.specs.declared.set_op.SetOp.{SetOp}
use Rattle.rs_value.specs.declared.set_op.SetOp.TheVariants as op
use Rattle.rs_exec.proofs.DistinctStepFacts.{climbs-map}

-- a list goes on with another one behind it
pub record GoesOn {X : Type 0} (short long : List X) : Type 0 where
  pub more : List X
  pub split : long ≡ short ++ more

-- a list that begins with another one is that one and the rest
pub begun-split : {X : Type 0} (long short : List X) → short ≡ take (length short) long → long ≡ short ++ drop (length short) long
begun-split long [] begins = refl
begun-split [] (f ∷ short) begins = absurd (cc)
begun-split (x ∷ long) (f ∷ short) begins =
    let first : f ≡ x = cc in
    let rest : short ≡ take (length short) long = cc in
    ap₂ (λ z zs. z ∷ zs) (sym first) (begun-split long short rest)

one_by_one-more : (rights lefts : List Key) (n asks fewer count : ℕ) → fewer ≤ count → GoesOn (one_by_one rights lefts n asks fewer) (one_by_one rights lefts n asks count)
one_by_one-more rights lefts n asks zero count le = record { more = one_by_one rights lefts n asks count; split = refl }
one_by_one-more rights lefts n asks (suc fewer) zero le = absurd (omega arith)
one_by_one-more rights [] n asks (suc fewer) (suc count) le = record { more = []; split = refl }
one_by_one-more rights (left ∷ lefts) n asks (suc fewer) (suc count) le =
    let on = one_by_one-more rights lefts (suc n) (max asks (wanted_for rights left)) fewer count (omega arith) in
    let own = asks_from Right (suc asks) (wanted_for rights left - asks) in
    record {
      more = on.more;
      split = ap (λ (rest : List SideAsk). record { side = Left; number = n } ∷ own ++ rest) on.split
          ∙ ap (λ (rest : List SideAsk). record { side = Left; number = n } ∷ rest) (sym (append_assoc own (one_by_one rights lefts (suc n) (max asks (wanted_for rights left)) fewer) on.more));
    }

module _ (s : Sides) (lefts rights : List OutputRow) (input : AreSideRows s lefts rights) (bar further : Option Key) (later : IsNoFurther key_cmp bar further) where
  keys-climb : (rows : List OutputRow) → Climbs key_cmp (row_key s) rows → Climbs key_cmp (λ (k : Key). k) (keys_of s rows)
  keys-climb rows climbs = climbs-map key_cmp (λ (k : Key). k) (row_key s) rows climbs

  schedule-more : GoesOn (schedule key_cmp (keys_of s lefts) (keys_of s rights) bar) (schedule key_cmp (keys_of s lefts) (keys_of s rights) further)
  schedule-more = record {
    more = drop (length (schedule key_cmp (keys_of s lefts) (keys_of s rights) bar)) (schedule key_cmp (keys_of s lefts) (keys_of s rights) further);
    split = begun-split (schedule key_cmp (keys_of s lefts) (keys_of s rights) further) (schedule key_cmp (keys_of s lefts) (keys_of s rights) bar)
        (schedule-begin key_cmp key_cmp-total (keys_of s lefts) (keys_of s rights) bar further
        (Ascends-Climbs key_cmp (λ (k : Key). k) (keys_of s lefts) (keys-climb lefts input.left_rising))
        (Ascends-Climbs key_cmp (λ (k : Key). k) (keys_of s rights) (keys-climb rights input.right_rising)) later);
  }

  compared-more : GoesOn (one_by_one (keys_of s rights) (keys_of s lefts) 1 0 (asks_for key_cmp (λ (k : Key). k) (keys_of s lefts) bar))
      (one_by_one (keys_of s rights) (keys_of s lefts) 1 0 (asks_for key_cmp (λ (k : Key). k) (keys_of s lefts) further))
  compared-more =
      one_by_one-more (keys_of s rights) (keys_of s lefts) 1 0 (asks_for key_cmp (λ (k : Key). k) (keys_of s lefts) bar) (asks_for key_cmp (λ (k : Key). k) (keys_of s lefts) further)
      (asks_for-more key_cmp key_cmp-total (λ (k : Key). k) (keys_of s lefts) bar further later)

  set_schedule-more : (o : SetOp) → GoesOn (set_schedule o (keys_of s lefts) (keys_of s rights) bar) (set_schedule o (keys_of s lefts) (keys_of s rights) further)
  set_schedule-more op.UnionAll = schedule-more
  set_schedule-more op.Union = schedule-more
  set_schedule-more op.Intersect = compared-more
  set_schedule-more op.Except = compared-more

pub schedule_of-goes_on : (s : Sides) (o : SetOp) (lefts rights : List OutputRow) → AreSideRows s lefts rights → (n : ℕ)
    → GoesOn (schedule_of s o lefts rights n) (schedule_of s o lefts rights (suc n))
schedule_of-goes_on s o lefts rights input zero = record { more = schedule_of s o lefts rights 1; split = refl }
schedule_of-goes_on s o lefts rights input (suc n) =
    set_schedule-more s lefts rights input (bar_after (row_key s) (answers s o lefts rights) n) (bar_after (row_key s) (answers s o lefts rights) (suc n))
    (bar_after-later key_cmp key_cmp-total (row_key s) (answers s o lefts rights) n (suc n) (answers-climb s o lefts rights input) (omega arith)) o
