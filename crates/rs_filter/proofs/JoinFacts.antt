-- Each conjunct of both sides together is looked at in a side or across them.
use Rattle.std.proofs.Common.{◌≡◌, ℕ, ◌&&◌, Bool, true, false, not, cond, List, [], ◌∷◌, bit_or, refl, sym, ◌∙◌, ap, ap₂}
use Rattle.std.specs.List.{AllByRecursion, list_all}
use Rattle.std.proofs.lemmas.Bool.{eq-eqb, true≢false}
use Rattle.rs_order.specs.Climbing.{In}
use Rattle.rs_rank.specs.declared.row.RankRow.{RankRow}
use Rattle.rs_rank.specs.Ids.{merge_rows}
use Rattle.rs_rank.specs.Masks.{AreDisjoint}
use Rattle.rs_catalog.specs.Catalog.{CatalogDef}
use Rattle.rs_query.specs.declared.block.Block.{Block}
use Rattle.rs_query.specs.Choices.{IsChoice}
use Rattle.rs_query.specs.Combinations.{combinations, holds_inside, satisfies}
use Rattle.rs_query.specs.Conjuncts.{ConjunctDef}
use Rattle.rs_query.specs.Meaning.{conjunct_holds, is_inside}
use Rattle.rs_query.specs.Tables.{sizes_of}
use Rattle.rs_query.specs.WellFormed.{IsBlock, IsConjunct}
use Rattle.rs_query.proofs.ChoiceFacts.{In-combinations, In-combinations-back}
use Rattle.rs_query.proofs.LocalFacts.{conjunct_holds-local}
use Rattle.rs_filter.specs.Matching.{IsView, holds_across, is_choice, is_side, joins, satisfies_across}
use Rattle.rs_filter.proofs.AcrossFacts.{inside-left, inside-right}
use Rattle.rs_filter.proofs.SideFacts.{AgreeOn-left, AgreeOn-right, IsChoice-merge, test-IsChoice}

-- three tests of each of two parts
shuffled : (a b c x y z : Bool) → ((a && (b && c)) && (x && (y && z))) ≡ ((a && x) && ((b && y) && (c && z)))
shuffled false b c x y z = refl
shuffled true false c false y z = refl
shuffled true false c true y z = refl
shuffled true true false false y z = refl
shuffled true true false true false z = refl
shuffled true true false true true z = refl
shuffled true true true x y z = refl

-- the truth of one conjunct, by the masks that it is inside
parted : (in_left in_right in_both : Bool) (both left right : Bool)
    → (in_left ≡ true → in_both ≡ true) → (in_right ≡ true → in_both ≡ true)
    → (in_left ≡ true → both ≡ left) → (in_right ≡ true → both ≡ right)
    → cond in_both both true ≡ (cond in_left left true && (cond in_right right true && cond (in_both && (not in_left && not in_right)) both true))
parted true true true both left right p q l r = same both left right (l refl) (r refl) where
  same : (x y z : Bool) → x ≡ y → x ≡ z → x ≡ (y && (z && true))
  same true true true e f = refl
  same true true false e f = absurd (true≢false f)
  same true false z e f = absurd (true≢false e)
  same false true z e f = absurd (true≢false (sym e))
  same false false z e f = refl
parted true false true both left right p q l r = same both left (l refl) where
  same : (x y : Bool) → x ≡ y → x ≡ (y && true)
  same true true e = refl
  same true false e = absurd (true≢false e)
  same false true e = absurd (true≢false (sym e))
  same false false e = refl
parted false true true both left right p q l r = same both right (r refl) where
  same : (x y : Bool) → x ≡ y → x ≡ (y && true)
  same true true e = refl
  same true false e = absurd (true≢false e)
  same false true e = absurd (true≢false (sym e))
  same false false e = refl
parted false false true both left right p q l r = refl
parted true in_right false both left right p q l r = absurd (true≢false (sym (p refl)))
parted false true false both left right p q l r = absurd (true≢false (sym (q refl)))
parted false false false both left right p q l r = refl

module _ (catalogue : CatalogDef) (block : Block) (sizes : List ℕ) (left right : ℕ) (lefts rights : List ℕ)
    (is_block : IsBlock catalogue block) (apart : AreDisjoint left right) (l : IsChoice left sizes lefts) (r : IsChoice right sizes rights) where
  one-conjunct : (c : ConjunctDef) → IsConjunct catalogue block c
      → holds_inside catalogue block (bit_or left right) (merge_rows lefts rights) c
      ≡ (holds_inside catalogue block left lefts c && (holds_inside catalogue block right rights c && holds_across catalogue block left right (merge_rows lefts rights) c))
  one-conjunct c is =
      parted (is_inside c.entries left) (is_inside c.entries right) (is_inside c.entries (bit_or left right))
      (conjunct_holds catalogue block (merge_rows lefts rights) c) (conjunct_holds catalogue block lefts c) (conjunct_holds catalogue block rights c)
      (inside-left c.entries left right) (inside-right c.entries left right)
      (conjunct_holds-local catalogue block left (merge_rows lefts rights) lefts (AgreeOn-left left right sizes lefts rights l r) c is)
      (conjunct_holds-local catalogue block right (merge_rows lefts rights) rights (AgreeOn-right left right sizes lefts rights apart l r) c is)

  all-conjuncts : (conjuncts : List ConjunctDef) → AllByRecursion (IsConjunct catalogue block) conjuncts
      → list_all (holds_inside catalogue block (bit_or left right) (merge_rows lefts rights)) conjuncts
      ≡ (list_all (holds_inside catalogue block left lefts) conjuncts
      && (list_all (holds_inside catalogue block right rights) conjuncts && list_all (holds_across catalogue block left right (merge_rows lefts rights)) conjuncts))
  all-conjuncts [] all = refl
  all-conjuncts (c ∷ rest) all =
      ap₂ (λ a b. a && b) (one-conjunct c all.0) (all-conjuncts rest all.1)
      ∙ shuffled (holds_inside catalogue block left lefts c) (holds_inside catalogue block right rights c) (holds_across catalogue block left right (merge_rows lefts rights) c)
      (list_all (holds_inside catalogue block left lefts) rest) (list_all (holds_inside catalogue block right rights) rest)
      (list_all (holds_across catalogue block left right (merge_rows lefts rights)) rest)

  pub satisfied : satisfies catalogue block (bit_or left right) (merge_rows lefts rights)
      ≡ (satisfies catalogue block left lefts && (satisfies catalogue block right rights && satisfies_across catalogue block left right (merge_rows lefts rights)))
  satisfied = all-conjuncts block.conjuncts is_block.conjuncts

-- three tests
all-three : (a b c : Bool) → (a && (b && c)) ≡ true → (a ≡ true) × (b ≡ true) × (c ≡ true)
all-three true true true e = (refl, refl, refl)
all-three true true false e = absurd (true≢false (sym e))
all-three true false c e = absurd (true≢false (sym e))
all-three false b c e = absurd (true≢false (sym e))

of-three : (a b c : Bool) → a ≡ true → b ≡ true → c ≡ true → (a && (b && c)) ≡ true
of-three true true true e f g = refl
of-three true true false e f g = g
of-three true false c e f g = f
of-three false b c e f g = e

module _ (catalogue : CatalogDef) (block : Block) (sizes : List ℕ) (l r : RankRow)
    (is_block : IsBlock catalogue block) (view : IsView sizes (sizes_of catalogue block)) (apart : AreDisjoint l.ids.mask r.ids.mask)
    (left : IsChoice l.ids.mask sizes l.ids.rows) (right : IsChoice r.ids.mask sizes r.ids.rows) where
  -- a row that has a row for each of its entries is one of its side
  a-side : (row : RankRow) → IsChoice row.ids.mask sizes row.ids.rows → is_side catalogue block row.ids.mask row ≡ true
  a-side row is =
      ap (λ b. b && is_choice row.ids.mask (sizes_of catalogue block) row.ids.rows) (eq-eqb row.ids.mask row.ids.mask refl)
      ∙ test-IsChoice row.ids.mask sizes (sizes_of catalogue block) row.ids.rows view is

  pub parts : In (merge_rows l.ids.rows r.ids.rows) (combinations catalogue block sizes (bit_or l.ids.mask r.ids.mask))
      → In l.ids.rows (combinations catalogue block sizes l.ids.mask) × In r.ids.rows (combinations catalogue block sizes r.ids.mask)
      × (joins catalogue block l.ids.mask r.ids.mask l r ≡ true)
  parts h =
      let holds = (In-combinations-back catalogue block sizes (bit_or l.ids.mask r.ids.mask) (merge_rows l.ids.rows r.ids.rows) h).1 in
      let three = all-three (satisfies catalogue block l.ids.mask l.ids.rows) (satisfies catalogue block r.ids.mask r.ids.rows)
      (satisfies_across catalogue block l.ids.mask r.ids.mask (merge_rows l.ids.rows r.ids.rows))
      (sym (satisfied catalogue block sizes l.ids.mask r.ids.mask l.ids.rows r.ids.rows is_block apart left right) ∙ holds) in (
        In-combinations catalogue block sizes l.ids.mask l.ids.rows left three.0,
        In-combinations catalogue block sizes r.ids.mask r.ids.rows right three.1,
        of-three (is_side catalogue block l.ids.mask l) (is_side catalogue block r.ids.mask r)
            (satisfies_across catalogue block l.ids.mask r.ids.mask (merge_rows l.ids.rows r.ids.rows)) (a-side l left) (a-side r right) three.2,
      )

  pub whole : In l.ids.rows (combinations catalogue block sizes l.ids.mask) × In r.ids.rows (combinations catalogue block sizes r.ids.mask)
      × (joins catalogue block l.ids.mask r.ids.mask l r ≡ true)
      → In (merge_rows l.ids.rows r.ids.rows) (combinations catalogue block sizes (bit_or l.ids.mask r.ids.mask))
  whole h =
      let holds_left = (In-combinations-back catalogue block sizes l.ids.mask l.ids.rows h.0).1 in
      let holds_right = (In-combinations-back catalogue block sizes r.ids.mask r.ids.rows h.1).1 in
      let three = all-three (is_side catalogue block l.ids.mask l) (is_side catalogue block r.ids.mask r)
      (satisfies_across catalogue block l.ids.mask r.ids.mask (merge_rows l.ids.rows r.ids.rows)) h.2 in
      In-combinations catalogue block sizes (bit_or l.ids.mask r.ids.mask) (merge_rows l.ids.rows r.ids.rows)
      (IsChoice-merge l.ids.mask r.ids.mask sizes l.ids.rows r.ids.rows left right)
      (satisfied catalogue block sizes l.ids.mask r.ids.mask l.ids.rows r.ids.rows is_block apart left right
      ∙ of-three (satisfies catalogue block l.ids.mask l.ids.rows) (satisfies catalogue block r.ids.mask r.ids.rows)
      (satisfies_across catalogue block l.ids.mask r.ids.mask (merge_rows l.ids.rows r.ids.rows)) holds_left holds_right three.2)
