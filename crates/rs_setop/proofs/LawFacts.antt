-- What a row or the end of a side does to UNION ALL and UNION, and the sums of rows.
use Rattle.std.proofs.Common.{◌≡◌, ℕ, Bool, List, Option, Some, None, sym, ◌∙◌, ap, subst}
use Rattle.std.specs.List.{slice_get}
use Rattle.rs_order.specs.Schedule.{JoinSide, Left, Right, SideAsk, asked}
use Rattle.rs_order.proofs.ClimbingFacts.{AllByRecursion-In}
use Rattle.rs_order.proofs.PartFacts.{In-slice_get}
use Rattle.rs_rank.specs.Rows.{HasSum}
use Rattle.rs_setop.specs.declared.held.Head.{Head}
use Rattle.rs_setop.specs.declared.held.Head.TheVariants.{Ended}
use Rattle.rs_setop.specs.Compared.{Comparison}
use Rattle.rs_setop.specs.Heads.{ask_of}
use Rattle.rs_setop.specs.Held.{head_of_row}
use Rattle.rs_outputs.specs.Rows.{OutputRow}
use Rattle.rs_setop.specs.Sides.{AreSides, IsRowOf, Sides, head_of}
use Rattle.rs_setop.specs.Stands.{ComparedStands, UnionStands}
use Rattle.rs_setop.specs.Union.{Union, settled}
use Rattle.rs_setop.proofs.NextFacts.{need_of, of_side, one_more, with_head}
use Rattle.rs_setop.proofs.UnionFacts.{settled-stands, side-known}

-- the rows of both sides have sums that the terms can give
row-sum : (s : Sides) (lefts rights : List OutputRow) → AreSides s lefts rights → (side : JoinSide) (n : ℕ) (row : OutputRow) → slice_get (of_side side lefts rights) n ≡ Some row → HasSum s.weights s.terms row.row
row-sum s lefts rights input Left n row e = (AllByRecursion-In (IsRowOf s s.left_block) lefts input.left_rows row (In-slice_get n lefts row e)).sum
row-sum s lefts rights input Right n row e = (AllByRecursion-In (IsRowOf s s.right_block) rights input.right_rows row (In-slice_get n rights row e)).sum

module _ (s : Sides) (distinct : Bool) (lefts rights : List OutputRow) (made : List SideAsk) (count : ℕ) (u : Union) (st : UnionStands s distinct lefts rights made count u) (side : JoinSide) (need : ask_of u.heads ≡ need_of side) where
  abbrev next : Option OutputRow
  next = slice_get (of_side side lefts rights) (asked side made)

  abbrev with_next : Head → Union
  with_next head = record u { heads = with_head side head u.heads }

  -- the next row of this side is known, or that there is none
  side-settled : (head : Head) → head_of s next ≡ head → UnionStands s distinct lefts rights (one_more side made) count (settled (with_next head))
  side-settled head e =
      subst (λ h. UnionStands s distinct lefts rights (one_more side made) count (settled (with_next h))) e
      (settled-stands s distinct lefts rights (one_more side made) count (with_next (head_of s next)) (side-known s distinct lefts rights made count u st.place side need))

  pub union-row : (row : OutputRow) → next ≡ Some row
      → HasSum u.weights u.terms row.row × UnionStands s distinct lefts rights (one_more side made) count (settled (with_next (head_of_row u.weights u.terms row.row row.values)))
  union-row row e = (
    subst (λ (v : Union). HasSum v.weights v.terms row.row) (sym st.place.state) (row-sum s lefts rights st.place.input side (asked side made) row e),
    side-settled (head_of_row u.weights u.terms row.row row.values) (ap (head_of s) e ∙ ap (λ (v : Union). head_of_row v.weights v.terms row.row row.values) (sym st.place.state)),
  )

  pub union-end : next ≡ None → UnionStands s distinct lefts rights (one_more side made) count (settled (with_next Ended))
  union-end e = side-settled Ended (ap (head_of s) e)

-- the sums of the rows that INTERSECT and EXCEPT take
pub compared-sum : (s : Sides) (shared : Bool) (lefts rights : List OutputRow) (made : List SideAsk) (count : ℕ) (c : Comparison) → ComparedStands s shared lefts rights made count c
    → (side : JoinSide) (row : OutputRow) → slice_get (of_side side lefts rights) (asked side made) ≡ Some row → HasSum c.weights c.terms row.row
compared-sum s shared lefts rights made count c st side row e =
    subst (λ (d : Comparison). HasSum d.weights d.terms row.row) (sym st.place.state) (row-sum s lefts rights st.place.input side (asked side made) row e)
