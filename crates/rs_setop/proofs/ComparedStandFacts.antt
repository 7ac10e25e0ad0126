-- What each call does to where INTERSECT and EXCEPT stand, and what the next ask tells.
use Rattle.std.proofs.Common.{◌≡◌, ℕ, suc, ◌+◌, ◌≤◌, ◌&&◌, Bool, true, false, not, cond, nat_le, List, [], ◌∷◌, ◌++◌, append-nil, length, take, drop, Option, Some, None, refl, sym, ◌∙◌, ap, ap₂, subst, arith}
use Rattle.std.proofs.lemmas.Bool.Decides.{nat_tests}
use Rattle.std.proofs.lemmas.Option.{slice_get_within}
use Rattle.std.specs.List.{filter, slice_get}
use Rattle.std.specs.Option.{option_map}
use Rattle.rs_order.specs.Asks.{asks_for, bar_after, comes_before_bar}
use Rattle.rs_order.specs.Climbing.{Climbs, In}
use Rattle.rs_order.specs.Schedule.{Left, Right, SideAsk, asked}
use Rattle.rs_order.proofs.ClimbingFacts.{AllByRecursion-In}
use Rattle.rs_order.proofs.ItemFacts.{In-left}
use Rattle.rs_order.proofs.PartFacts.{bar_after-slice_get, In-slice_get, In-take}
use Rattle.rs_order.proofs.ScheduleFacts.{asked-left, asked-right}
use Rattle.rs_rank.specs.declared.ask.JoinAsk.{JoinAsk}
use Rattle.rs_rank.specs.declared.ask.JoinAsk.TheVariants.{NeedLeft, NeedRight, Ready, End}
use Rattle.rs_rank.specs.declared.key.Key.{Key}
use Rattle.rs_rank.specs.Keys.{key_cmp}
use Rattle.rs_rank.specs.Rows.{key_of}
use Rattle.rs_rank.specs.Weights.{rest as rest_of}
use Rattle.rs_rank.specs.SetTurns.{one_by_one, wanted_for}
use Rattle.rs_value.specs.declared.value.Value.{Value}
use Rattle.rs_outputs.specs.Seen.{has_list, with_list}
use Rattle.rs_setop.specs.declared.held.Head.TheVariants.{Unknown}
use Rattle.rs_setop.specs.Compared.{Comparison, ask_of, is_other, is_out, is_unwanted, left_ended, left_fed, left_for, passed, right_ended, right_fed, settled, taken_for}
use Rattle.rs_setop.specs.Held.{head_of_row, held_of, row_of}
use Rattle.rs_setop.specs.Reached.{fed, is_past}
use Rattle.rs_outputs.specs.Rows.{OutputRow, firsts, lists_of, unseen}
use Rattle.rs_setop.specs.Sides.{AreSides, Sides, answers, head_of, keys_of, row_key, schedule_of}
use Rattle.rs_setop.specs.Stands.{ComparedAt, ComparedStands, asks_behind, is_kept, due, op_of, right_after}
use Rattle.rs_outputs.proofs.ValueFacts.{has_list-of, row-of_values}
use Rattle.rs_setop.proofs.CompareFacts.{past-is}
use Rattle.rs_outputs.proofs.ListFacts.{Climbs-rest, item-behind, none-rest, rest-none, rest-some, some-rest}
use Rattle.rs_setop.proofs.WalkFacts.{bars-keep, due-none, due-some, head-known, head-unknown}
use Rattle.rs_setop.proofs.ComparedFacts.{Shown, answer-gone, asks-behind, asks-one, asks_behind-done, asks_behind-more, at_most, climbing, compared_of, is_kept-other, gone, known-values, left-known, more, other-gone, right-over, right-row, schedule-is, seen-gone, shows}
use Rattle.rs_setop.proofs.HeadFacts.{Tells}

-- what a head and a reach tell of a held row
out-is : (s : Sides) (shared : Bool) (lefts rights : List OutputRow) → AreSides s lefts rights → (x : OutputRow) → In x lefts → (asks : ℕ) → asks ≤ suc (length rights) → wanted_for (keys_of s rights) (row_key s x) ≤ asks
    → is_out (head_of s (Some x)) shared (right_after s rights asks) ≡ not (is_kept shared rights x)
out-is s shared lefts rights input x h asks most le =
    ap (λ b. b && is_other (has_list x.values (lists_of (take asks rights))) shared) (past-is s rights input.right_rising (row_key s x).bound asks most ∙ reached (wanted_for (keys_of s rights) (row_key s x)) asks le)
    ∙ is_kept-other shared rights x (has_list x.values (lists_of (take asks rights))) (known-values s lefts rights input x h asks le)
  where
    reached : (a b : ℕ) → a ≤ b → nat_le a b ≡ true
    reached a b le = grind (arith, nat_tests)

not-true : (b : Bool) → not b ≡ true → b ≡ false
not-true true e = cc
not-true false e = refl

not-false : (b : Bool) → not b ≡ false → b ≡ true
not-false true e = refl
not-false false e = cc

module _ (s : Sides) (shared : Bool) (lefts rights : List OutputRow) (made : List SideAsk) (count left : ℕ) (c : Comparison) (st : ComparedAt s shared lefts rights made count left c) where
  abbrev lists : List (List Value)
  lists = lists_of (take left lefts)

  -- no row is held
  unheld : (d : Comparison) (n gone_rows : ℕ) (at : ComparedAt s shared lefts rights made n gone_rows d) → asked Left made ≡ gone_rows → ComparedStands s shared lefts rights made n d
  unheld d n gone_rows at due = record {
    left = gone_rows;
    place = at;
    new = λ row known e. absurd (omega arith);
    wanted = ap is_unwanted at.state ∙ ap (λ h. is_out h shared (right_after s rights (asked Right made))) (head-unknown s lefts gone_rows (asked Left made) due);
  }

  -- a held row is tested
  held-unwanted : asked Left made ≡ suc left → (x : OutputRow) → slice_get lefts left ≡ Some x → is_unwanted c ≡ is_out (head_of s (Some x)) shared (right_after s rights (asked Right made))
  held-unwanted known x e = ap is_unwanted st.state ∙ ap (λ h. is_out h shared (right_after s rights (asked Right made))) (head-known s lefts left (asked Left made) known ∙ ap (head_of s) e)

  passed-is : asked Left made ≡ suc left → (x : OutputRow) → slice_get lefts left ≡ Some x → passed c ≡ compared_of s shared Unknown (with_list x.values lists) (right_after s rights (asked Right made))
  passed-is known x e = ap passed st.state ∙ ap (λ h. passed (compared_of s shared h lists (right_after s rights (asked Right made)))) (head-known s lefts left (asked Left made) known ∙ ap (head_of s) e)

  left_rows : (x : OutputRow) → slice_get lefts left ≡ Some x → drop count (answers s (op_of shared) lefts rights) ≡ unseen lists (firsts (filter (is_kept shared rights) (x ∷ drop (suc left) lefts)))
  left_rows x e = st.rest ∙ ap (λ rows. unseen lists (firsts (filter (is_kept shared rights) rows))) (rest-some left lefts x e)

  -- a row that doesn't count is dropped
  pub settled-stands : asked Left made ≡ suc left → (x : OutputRow) → slice_get lefts left ≡ Some x → has_list x.values lists ≡ false → ComparedStands s shared lefts rights made count (settled c)
  settled-stands known x e new =
      (elim (is_unwanted c) as (λ b. is_unwanted c ≡ b → ComparedStands s shared lefts rights made count (cond b (passed c) c)) [
        | false ↦ λ wanted. record {
          left = left;
          place = st;
          new = λ row also f. subst (λ (r : OutputRow). has_list r.values lists ≡ false) (same_row x row (sym e ∙ f)) new;
          wanted = wanted;
        }
        | true ↦ λ out. unwanted out (reached (is_past (right_after s rights (asked Right made)) (row_key s x).bound) _ (sym (held-unwanted known x e) ∙ out))
      ]) refl
    where
      same_row : (a b : OutputRow) → Some a ≡ Some b → a ≡ b
      same_row a b f = cc

      reached : (p q : Bool) → (p && q) ≡ true → p ≡ true
      reached true q f = refl
      reached false q f = cc

      unwanted : is_unwanted c ≡ true → is_past (right_after s rights (asked Right made)) (row_key s x).bound ≡ true → ComparedStands s shared lefts rights made count (passed c)
      unwanted out past =
          let le = at_most (wanted_for (keys_of s rights) (row_key s x)) (asked Right made) (sym (past-is s rights st.input.right_rising (row_key s x).bound (asked Right made) st.right_most) ∙ past) in
          let other = not-true (is_kept shared rights x) (sym (out-is s shared lefts rights st.input x (In-slice_get left lefts x e) (asked Right made) st.right_most le) ∙ sym (held-unwanted known x e) ∙ out) in
          unheld (passed c) count (suc left)
          (gone s shared lefts rights made count left c st known x e le count (left_rows x e ∙ other-gone shared rights lists x (drop (suc left) lefts) other new) st.within (λ k h. h) (passed c) (passed-is known x e)) known

  -- and so is one whose values a left row had before
  pub seen-stands : asked Left made ≡ suc left → (x : OutputRow) → slice_get lefts left ≡ Some x → has_list x.values lists ≡ true
      → (d : Comparison) → d ≡ compared_of s shared Unknown lists (right_after s rights (asked Right made)) → ComparedStands s shared lefts rights made count d
  seen-stands known x e seen d is =
      let before = row-of_values x.values (take left lefts) (sym (has_list-of x.values (take left lefts)) ∙ seen) in
      let there = In-take left lefts before.row before.is_in in
      let here = In-slice_get left lefts x e in
      let sums : before.row.row.sum ≡ x.row.sum = st.input.alike before.row x (In-left before.row lefts rights there) (In-left x lefts rights here) before.same in
      let bounds : (row_key s before.row).bound ≡ (row_key s x).bound = ap (λ sum. sum + rest_of s.weights s.terms) sums in
      let le = subst (λ bound. suc (length (filter (λ (right : Key). nat_le bound right.bound) (keys_of s rights))) ≤ asked Right made) bounds
      (AllByRecursion-In (λ row. wanted_for (keys_of s rights) (row_key s row) ≤ asked Right made) (take left lefts) st.far before.row before.is_in) in
      unheld d count (suc left)
      (gone s shared lefts rights made count left c st known x e le count (left_rows x e ∙ seen-gone shared rights lists x (drop (suc left) lefts) seen) st.within (λ k h. h) d
      (is ∙ ap (λ b. compared_of s shared Unknown (cond b lists (lists ++ x.values ∷ [])) (right_after s rights (asked Right made))) (sym seen))) known

module _ (s : Sides) (shared : Bool) (lefts rights : List OutputRow) (made : List SideAsk) (count : ℕ) (c : Comparison) (stands : ComparedStands s shared lefts rights made count c) where
  abbrev at : ComparedAt s shared lefts rights made count stands.left c
  at = stands.place

  abbrev left_ask : SideAsk
  left_ask = record { side = Left; number = suc (asked Left made) }

  abbrev right_ask : SideAsk
  right_ask = record { side = Right; number = suc (asked Right made) }

  -- what it asks tells
  told : (ask : JoinAsk) → ask_of c ≡ ask → Shown s lefts rights stands.left (asked Left made) (asked Right made) ask
  told = shows s shared lefts rights made count stands.left c at

  abbrev fed_head : OutputRow → Comparison
  fed_head x = record c { left = head_of_row c.weights c.terms x.row x.values }

  -- the next left row is held
  left-held : ask_of c ≡ NeedLeft → (x : OutputRow) → slice_get lefts (asked Left made) ≡ Some x → ComparedAt s shared lefts rights (made ++ left_ask ∷ []) count stands.left (fed_head x)
  left-held need x e =
      let weights : c.weights ≡ s.weights = ap (λ (d : Comparison). d.weights) at.state in
      let terms : c.terms ≡ s.terms = ap (λ (d : Comparison). d.terms) at.state in
      subst (λ h. ComparedAt s shared lefts rights (made ++ left_ask ∷ []) count stands.left (record c { left = h }))
      (ap (head_of s) e ∙ sym (ap₂ (λ w t. head_of_row w t x.row x.values) weights terms))
      (left-known s shared lefts rights made count stands.left c at (told NeedLeft need))

  -- where nothing was held, this is what is kept
  unheld-state : ask_of c ≡ NeedLeft → c ≡ compared_of s shared Unknown (lists_of (take stands.left lefts)) (right_after s rights (asked Right (made ++ left_ask ∷ [])))
  unheld-state need =
      at.state
      ∙ ap₂ (λ h r. compared_of s shared h (lists_of (take stands.left lefts)) r) (head-unknown s lefts stands.left (asked Left made) (told NeedLeft need)) (ap (right_after s rights) (sym (asked-left made (suc (asked Left made))).1))

  pub left-row-stands : ask_of c ≡ NeedLeft → (x : OutputRow) → slice_get lefts (asked Left made) ≡ Some x → ComparedStands s shared lefts rights (made ++ left_ask ∷ []) count (left_fed x.row x.values c)
  left-row-stands need x e =
      let due = told NeedLeft need in
      let known = (asked-left made (suc (asked Left made))).0 ∙ ap suc due in
      let here = ap (slice_get lefts) (sym due) ∙ e in
      let next = left-held need x e in
      subst (λ b. ComparedStands s shared lefts rights (made ++ left_ask ∷ []) count (cond b c (settled (fed_head x)))) (sym (ap (λ (d : Comparison). has_list x.values d.passed) at.state))
      ((elim (has_list x.values (lists_of (take stands.left lefts))) as (λ b. has_list x.values (lists_of (take stands.left lefts)) ≡ b → ComparedStands s shared lefts rights (made ++ left_ask ∷ []) count (cond b c (settled (fed_head x)))) [
        | true ↦ λ seen. seen-stands s shared lefts rights (made ++ left_ask ∷ []) count stands.left (fed_head x) next known x here seen c (unheld-state need)
        | false ↦ λ new. settled-stands s shared lefts rights (made ++ left_ask ∷ []) count stands.left (fed_head x) next known x here new
      ]) refl)

  -- the end of the left side
  pub left-over-stands : ask_of c ≡ NeedLeft → slice_get lefts (asked Left made) ≡ None → ComparedStands s shared lefts rights (made ++ left_ask ∷ []) count (left_ended c)
  left-over-stands need e =
      let due = told NeedLeft need in
      let here = ap (slice_get lefts) (sym due) ∙ e in
      record {
        left = stands.left;
        place =
            subst (λ h. ComparedAt s shared lefts rights (made ++ left_ask ∷ []) count stands.left (record c { left = h })) (ap (head_of s) e)
            (left-known s shared lefts rights made count stands.left c at due);
        new = λ row known f. absurd (none_some (sym here ∙ f));
        wanted = refl;
      }
    where
      none_some : {x : OutputRow} → None ≡ Some x → ⊥
      none_some f = cc

  -- a right row, and the end of the right side
  abbrev fed_right : OutputRow → Comparison
  fed_right y = record c { right = fed (key_of c.weights c.terms y.row).bound y.values c.right }

  pub right-row-stands : ask_of c ≡ NeedRight → (y : OutputRow) → slice_get rights (asked Right made) ≡ Some y → ComparedStands s shared lefts rights (made ++ right_ask ∷ []) count (right_fed y.row y.values c)
  right-row-stands need y f =
      let now = told NeedRight need in
      let held = now.1 in
      let weights : c.weights ≡ s.weights = ap (λ (d : Comparison). d.weights) at.state in
      let terms : c.terms ≡ s.terms = ap (λ (d : Comparison). d.terms) at.state in
      let less = more (wanted_for (keys_of s rights) (row_key s held.row)) (asked Right made) held.test in
      let next : ComparedAt s shared lefts rights (made ++ right_ask ∷ []) count stands.left (fed_right y) =
      subst (λ bound. ComparedAt s shared lefts rights (made ++ right_ask ∷ []) count stands.left (record c { right = fed bound y.values c.right })) (sym (ap₂ (λ w t. (key_of w t y.row).bound) weights terms))
      (right-row s shared lefts rights made count stands.left c at now.0 held.row held.is less y f) in
      settled-stands s shared lefts rights (made ++ right_ask ∷ []) count stands.left (fed_right y) next ((asked-right made (suc (asked Right made))).0 ∙ now.0) held.row held.is (stands.new held.row now.0 held.is)

  pub right-over-stands : ask_of c ≡ NeedRight → slice_get rights (asked Right made) ≡ None → ComparedStands s shared lefts rights (made ++ right_ask ∷ []) count (right_ended c)
  right-over-stands need f =
      let now = told NeedRight need in
      let held = now.1 in
      let less = more (wanted_for (keys_of s rights) (row_key s held.row)) (asked Right made) held.test in
      settled-stands s shared lefts rights (made ++ right_ask ∷ []) count stands.left (record c { right = record c.right { ended = true } })
      (right-over s shared lefts rights made count stands.left c at now.0 held.row held.is less f) ((asked-right made (suc (asked Right made))).0 ∙ now.0) held.row held.is (stands.new held.row now.0 held.is)

  -- the held row counts, once the right side is past its bound
  abbrev all_rows : List OutputRow
  all_rows = answers s (op_of shared) lefts rights

  next-answer : asked Left made ≡ suc stands.left → (x : OutputRow) → slice_get lefts stands.left ≡ Some x → nat_le (wanted_for (keys_of s rights) (row_key s x)) (asked Right made) ≡ true
      → (slice_get all_rows count ≡ Some x) × (drop (suc count) all_rows ≡ unseen (with_list x.values (lists_of (take stands.left lefts))) (firsts (filter (is_kept shared rights) (drop (suc stands.left) lefts))))
  next-answer known x e test =
      let le = at_most (wanted_for (keys_of s rights) (row_key s x)) (asked Right made) test in
      let counted = not-false (is_kept shared rights x)
      (sym (out-is s shared lefts rights at.input x (In-slice_get stands.left lefts x e) (asked Right made) at.right_most le) ∙ sym (held-unwanted s shared lefts rights made count stands.left c at known x e) ∙ stands.wanted) in
      some-rest count all_rows (unseen (with_list x.values (lists_of (take stands.left lefts))) (firsts (filter (is_kept shared rights) (drop (suc stands.left) lefts)))) x
      (left_rows s shared lefts rights made count stands.left c at x e
      ∙ answer-gone shared rights (lists_of (take stands.left lefts)) x (drop (suc stands.left) lefts) counted (stands.new x known e))

  pub taken-stands : ask_of c ≡ Ready → (taken_for (ask_of c) c ≡ option_map (λ (row : OutputRow). row.row) (slice_get all_rows count)) × ComparedStands s shared lefts rights made (suc count) (left_for (ask_of c) c)
  taken-stands ready =
      let now = told Ready ready in
      let held = now.1 in
      let parts = next-answer now.0 held.row held.is held.test in
      let le = at_most (wanted_for (keys_of s rights) (row_key s held.row)) (asked Right made) held.test in
      rw ready (
        ap (λ (d : Comparison). row_of (held_of d.left)) at.state
            ∙ ap (λ h. row_of (held_of h)) (head-known s lefts stands.left (asked Left made) now.0 ∙ ap (head_of s) held.is)
            ∙ sym (ap (option_map (λ (row : OutputRow). row.row)) parts.0),
        unheld s shared lefts rights made count stands.left c at (passed c) (suc count) (suc stands.left)
            (gone s shared lefts rights made count stands.left c at now.0 held.row held.is le (suc count) parts.1 (slice_get_within all_rows count held.row parts.0)
            (bars-keep s all_rows (climbing s shared lefts rights made count stands.left c at) count) (passed c) (passed-is s shared lefts rights made count stands.left c at now.0 held.row held.is)) now.0,
      )

  -- what an ask tells of the schedule
  abbrev bar_now : Option Key
  bar_now = bar_after (row_key s) all_rows count

  abbrev left_turns : ℕ
  left_turns = asks_for key_cmp (λ key. key) (keys_of s (drop stands.left lefts)) bar_now

  -- this many of the rows that are left come before the bar
  scheduled : (n : ℕ) → left_turns ≡ suc n → schedule_of s (op_of shared) lefts rights (suc count)
      ≡ made ++ (due Left stands.left (asked Left made) ++ asks_behind (keys_of s rights) (keys_of s (drop stands.left lefts)) (suc (suc stands.left)) (asked Right made) n)
  scheduled n e =
      schedule-is s shared lefts rights count
      ∙ ap (one_by_one (keys_of s rights) (keys_of s lefts) 1 0) (asks-behind s lefts bar_now stands.left at.inside at.before ∙ ap (λ m. stands.left + m) e)
      ∙ at.asks n

  pub tells : (ask : JoinAsk) → ask_of c ≡ ask → Tells s (op_of shared) lefts rights made count ask
  tells NeedLeft e =
      let due = told NeedLeft e in
      ap (λ asks. slice_get asks (length made))
      (scheduled _ refl ∙ ap (λ front. made ++ (front ++ asks_behind (keys_of s rights) (keys_of s (drop stands.left lefts)) (suc (suc stands.left)) (asked Right made) (turns_less bar_now))) (due-some Left stands.left (asked Left made) due ∙ ap (λ m. record { side = Left; number = suc m } ∷ []) (sym due)))
      ∙ item-behind made (asks_behind (keys_of s rights) (keys_of s (drop stands.left lefts)) (suc (suc stands.left)) (asked Right made) (turns_less bar_now)) left_ask
    where
      turns_less : Option Key → ℕ
      turns_less b = length (filter (λ (k : Key). comes_before_bar key_cmp b k) (keys_of s (drop stands.left lefts)))
  tells NeedRight e =
      let now = told NeedRight e in
      let held = now.1 in
      let less = more (wanted_for (keys_of s rights) (row_key s held.row)) (asked Right made) held.test in
      ap (λ asks. slice_get asks (length made))
      (scheduled _ refl
      ∙ ap (λ front. made ++ (front ++ asks_behind (keys_of s rights) (keys_of s (drop stands.left lefts)) (suc (suc stands.left)) (asked Right made) turns)) (due-none Left stands.left (asked Left made) now.0)
      ∙ ap (λ rows. made ++ asks_behind (keys_of s rights) (keys_of s rows) (suc (suc stands.left)) (asked Right made) turns) (rest-some stands.left lefts held.row held.is)
      ∙ ap (λ asks. made ++ asks) (asks_behind-more (keys_of s rights) (row_key s held.row) (keys_of s (drop (suc stands.left) lefts)) (suc (suc stands.left)) (asked Right made) turns less))
      ∙ item-behind made (asks_behind (keys_of s rights) (keys_of s (held.row ∷ drop (suc stands.left) lefts)) (suc (suc stands.left)) (suc (asked Right made)) turns) right_ask
    where
      turns : ℕ
      turns = length (filter (λ (k : Key). comes_before_bar key_cmp bar_now k) (keys_of s (drop stands.left lefts)))
  tells Ready e =
      let now = told Ready e in
      let held = now.1 in
      let parts = next-answer now.0 held.row held.is held.test in
      let le = at_most (wanted_for (keys_of s rights) (row_key s held.row)) (asked Right made) held.test in
      let bar_is : bar_now ≡ Some (row_key s held.row) = bar_after-slice_get (row_key s) all_rows count ∙ ap (option_map (row_key s)) parts.0 in
      let one : left_turns ≡ 1 =
      ap₂ (λ rows bar. asks_for key_cmp (λ key. key) (keys_of s rows) bar) (rest-some stands.left lefts held.row held.is) bar_is
      ∙ asks-one s held.row (drop (suc stands.left) lefts) (subst (Climbs key_cmp (row_key s)) (rest-some stands.left lefts held.row held.is) (Climbs-rest key_cmp (row_key s) stands.left lefts at.input.left_rising)) in (
        sym (scheduled 0 one
            ∙ ap (λ front. made ++ (front ++ asks_behind (keys_of s rights) (keys_of s (drop stands.left lefts)) (suc (suc stands.left)) (asked Right made) 0)) (due-none Left stands.left (asked Left made) now.0)
            ∙ ap (λ rows. made ++ asks_behind (keys_of s rights) (keys_of s rows) (suc (suc stands.left)) (asked Right made) 0) (rest-some stands.left lefts held.row held.is)
            ∙ ap (λ asks. made ++ asks) (asks_behind-done (keys_of s rights) (row_key s held.row) (keys_of s (drop (suc stands.left) lefts)) (suc (suc stands.left)) (asked Right made) 0 le)
            ∙ append-nil made),
        slice_get_within all_rows count held.row parts.0,
      )
  tells End e =
      let now = told End e in
      let empty = rest-none stands.left lefts now.1 in (
        sym (scheduled 0 (ap (λ rows. asks_for key_cmp (λ key. key) (keys_of s rows) bar_now) empty)
            ∙ ap (λ front. made ++ (front ++ asks_behind (keys_of s rights) (keys_of s (drop stands.left lefts)) (suc (suc stands.left)) (asked Right made) 0)) (due-none Left stands.left (asked Left made) now.0)
            ∙ ap (λ rows. made ++ asks_behind (keys_of s rights) (keys_of s rows) (suc (suc stands.left)) (asked Right made) 0) empty
            ∙ append-nil made),
        (let past = none-rest count all_rows (at.rest ∙ ap (λ rows. unseen (lists_of (take stands.left lefts)) (firsts (filter (is_kept shared rights) rows))) empty) in let within = at.within in omega arith),
      )
