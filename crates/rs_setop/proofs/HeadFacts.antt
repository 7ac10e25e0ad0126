-- What the next rows of both sides of a union tell: which side is due, and which row comes first.
use Rattle.std.proofs.Common.{◌≡◌, ℕ, suc, ◌≤◌, Bool, true, false, not, cond, List, length, drop, Option, Some, None, refl, sym, ap, subst, ◌⊎◌, inl, inr}
use Rattle.std.specs.List.{slice_get}
use Rattle.std.specs.Ordering.{is_gt}
use Rattle.rs_order.specs.Schedule.{SideAsk}
use Rattle.rs_rank.specs.declared.ask.JoinAsk.{JoinAsk}
use Rattle.rs_rank.specs.declared.ask.JoinAsk.TheVariants.{NeedLeft, NeedRight, Ready, End}
use Rattle.rs_rank.specs.Keys.{key_cmp}
use Rattle.rs_rank.proofs.TurnFacts as turns
use Rattle.rs_value.specs.declared.set_op.SetOp.{SetOp}
use Rattle.rs_setop.specs.declared.heads.Heads.{Heads}
use Rattle.rs_setop.specs.declared.held.Head.{Head}
use Rattle.rs_setop.specs.declared.held.Head.TheVariants.{Unknown}
use Rattle.rs_setop.specs.declared.held.HeldRow.{HeldRow}
use Rattle.rs_setop.specs.Heads.{ask_for, ask_of, first_of, without_first}
use Rattle.rs_setop.specs.Held.{held_row}
use Rattle.rs_outputs.specs.Rows.{OutputRow}
use Rattle.rs_setop.specs.Sides.{Sides, answers, head_after, head_of, row_key, schedule_of}
use Rattle.rs_outputs.proofs.ListFacts.{rest-none, rest-some}
use Rattle.rs_setop.proofs.WalkFacts.{IsLeftFirst, IsRightFirst, head-known, head-unknown, known-or_not}

-- a row as it is held
abbrev pub as_held : Sides → OutputRow → HeldRow
as_held s row = held_row s.weights s.terms row.row row.values

-- the first left row comes first, and without it its side is due
pub record IsLeftNext (s : Sides) (lefts rights : List OutputRow) (left right : ℕ) (heads : Heads) : Type 0 where
  pub next : OutputRow
  pub is : slice_get lefts left ≡ Some next
  pub first : IsLeftFirst s next (drop right rights)
  pub held : first_of heads ≡ Some (as_held s next)
  pub without : without_first heads ≡ record heads { left = Unknown }

pub record IsRightNext (s : Sides) (lefts rights : List OutputRow) (left right : ℕ) (heads : Heads) : Type 0 where
  pub next : OutputRow
  pub is : slice_get rights right ≡ Some next
  pub first : IsRightFirst s (drop left lefts) next
  pub held : first_of heads ≡ Some (as_held s next)
  pub without : without_first heads ≡ record heads { right = Unknown }

-- both sides have ended
pub record AreOver (lefts rights : List OutputRow) (left right : ℕ) : Type 0 where
  pub left_over : slice_get lefts left ≡ None
  pub right_over : slice_get rights right ≡ None

-- what an ask tells, of this many asks of each side
abbrev pub Shows : Sides → List OutputRow → List OutputRow → ℕ → ℕ → ℕ → ℕ → Heads → JoinAsk → Type 0
Shows s lefts rights left right left_asks right_asks heads NeedLeft = left_asks ≡ left
Shows s lefts rights left right left_asks right_asks heads NeedRight = (left_asks ≡ suc left) × (right_asks ≡ right)
Shows s lefts rights left right left_asks right_asks heads Ready =
    (left_asks ≡ suc left) × (right_asks ≡ suc right) × (IsLeftNext s lefts rights left right heads ⊎ IsRightNext s lefts rights left right heads)
Shows s lefts rights left right left_asks right_asks heads End = (left_asks ≡ suc left) × (right_asks ≡ suc right) × AreOver lefts rights left right

abbrev heads_of : Sides → Option OutputRow → Option OutputRow → Heads
heads_of s o p = record { left = head_of s o; right = head_of s p }

abbrev pub both : Head → Head → Heads
both left right = record { left = left; right = right }

-- the next rows of both sides are known
known-shows : (s : Sides) (lefts rights : List OutputRow) (left right left_asks right_asks : ℕ) (o p : Option OutputRow) → slice_get lefts left ≡ o → slice_get rights right ≡ p → left_asks ≡ suc left → right_asks ≡ suc right
    → Shows s lefts rights left right left_asks right_asks (heads_of s o p) (ask_of (heads_of s o p))
known-shows s lefts rights left right left_asks right_asks None None e f known_left known_right = (known_left, known_right, record { left_over = e; right_over = f })
known-shows s lefts rights left right left_asks right_asks (Some x) None e f known_left known_right =
    (known_left, known_right, inl (record { next = x; is = e; first = subst (IsLeftFirst s x) (sym (rest-none right rights f)) tt; held = refl; without = refl }))
known-shows s lefts rights left right left_asks right_asks None (Some y) e f known_left known_right =
    (known_left, known_right, inr (record { next = y; is = f; first = subst (λ xs. IsRightFirst s xs y) (sym (rest-none left lefts e)) tt; held = refl; without = refl }))
known-shows s lefts rights left right left_asks right_asks (Some x) (Some y) e f known_left known_right = (known_left, known_right, first (is_gt (key_cmp (row_key s x) (row_key s y))) refl)
  where
    first : (b : Bool) → is_gt (key_cmp (row_key s x) (row_key s y)) ≡ b → IsLeftNext s lefts rights left right (heads_of s (Some x) (Some y)) ⊎ IsRightNext s lefts rights left right (heads_of s (Some x) (Some y))
    first false g = inl (record {
      next = x;
      is = e;
      first = subst (IsLeftFirst s x) (sym (rest-some right rights y f)) g;
      held = ap (λ b. cond (not b) (Some (as_held s x)) (Some (as_held s y))) g;
      without = ap (λ b. cond (not b) (both Unknown (head_of s (Some y))) (both (head_of s (Some x)) Unknown)) g;
    })
    first true g = inr (record {
      next = y;
      is = f;
      first = subst (λ xs. IsRightFirst s xs y) (sym (rest-some left lefts x e)) g;
      held = ap (λ b. cond (not b) (Some (as_held s x)) (Some (as_held s y))) g;
      without = ap (λ b. cond (not b) (both Unknown (head_of s (Some y))) (both (head_of s (Some x)) Unknown)) g;
    })

-- a side that is due, where the left one is known
pub right-due : (s : Sides) (o : Option OutputRow) → ask_for (head_of s o) Unknown ≡ NeedRight
right-due s None = refl
right-due s (Some x) = refl

-- what the next ask tells
pub heads-show : (s : Sides) (lefts rights : List OutputRow) (left right left_asks right_asks : ℕ) → left ≤ left_asks → left_asks ≤ suc left → right ≤ right_asks → right_asks ≤ suc right
    → Shows s lefts rights left right left_asks right_asks (both (head_after s lefts left left_asks) (head_after s rights right right_asks)) (ask_of (both (head_after s lefts left left_asks) (head_after s rights right right_asks)))
heads-show s lefts rights left right left_asks right_asks left_least left_most right_least right_most =
    elim (known-or_not left left_asks left_least left_most) [
      | inl due ↦
          subst (λ h. Shows s lefts rights left right left_asks right_asks (both h (head_after s rights right right_asks)) (ask_of (both h (head_after s rights right right_asks)))) (sym (head-unknown s lefts left left_asks due)) due
      | inr known ↦
          subst (λ h. Shows s lefts rights left right left_asks right_asks (both h (head_after s rights right right_asks)) (ask_of (both h (head_after s rights right right_asks)))) (sym (head-known s lefts left left_asks known))
          (elim (known-or_not right right_asks right_least right_most) [
            | inl due ↦
                subst (λ h. Shows s lefts rights left right left_asks right_asks (both (head_of s (slice_get lefts left)) h) (ask_of (both (head_of s (slice_get lefts left)) h))) (sym (head-unknown s rights right right_asks due))
                (subst (Shows s lefts rights left right left_asks right_asks (both (head_of s (slice_get lefts left)) Unknown)) (sym (right-due s (slice_get lefts left))) (known, due))
            | inr known_right ↦
                subst (λ h. Shows s lefts rights left right left_asks right_asks (both (head_of s (slice_get lefts left)) h) (ask_of (both (head_of s (slice_get lefts left)) h))) (sym (head-known s rights right right_asks known_right))
                (known-shows s lefts rights left right left_asks right_asks (slice_get lefts left) (slice_get rights right) refl refl known known_right)
          ])
    ]

-- what an ask tells of the schedule for the next answer
abbrev pub Tells : Sides → SetOp → List OutputRow → List OutputRow → List SideAsk → ℕ → JoinAsk → Type 0
Tells s op lefts rights made count ask = turns.Tells (schedule_of s op lefts rights (suc count)) made count (length (answers s op lefts rights)) ask
