-- A row that isn't one of its side matches none; of rows of both sides the conjuncts across them decide.
use Rattle.std.proofs.Common.{◌≡◌, ◌∙◌, true, false, bit_or, sym, ap, subst, subst₂}
use Rattle.rs_rank.specs.Ids.{merge_rows}
use Rattle.rs_rank.specs.declared.ids.Ids.{Ids}
use Rattle.rs_query.specs.Choices.{IsChoice}
use Rattle.rs_query.specs.Meaning.{AreInside, all_hold}
use Rattle.rs_query.specs.Tables.{HasRows, sizes_of}
use Rattle.rs_filter.specs.Matching.{Matching, is_choice, joins}
use Rattle.rs_filter.specs.declared.conditions.JoinConditions.{JoinConditions}
use Rattle.rs_filter.proofs.AcrossFacts.{AreInside-across, all_hold-across}
use Rattle.rs_query.proofs.ExtendFacts.{HasRows-choice}
use Rattle.rs_filter.proofs.MatchFacts.{both-sides, no-left-choice, no-left-mask, no-right-choice, no-right-mask}
use Rattle.rs_filter.proofs.SideFacts.{IsChoice-merge, IsChoice-test}
use Rattle.rs_filter.proofs.block_match.BlockMatchMatcher.matches.Goals as goal
use Rattle.rs_filter.proofs.block_match.BlockMatchMatcher.matches.Goals.{then-left-conditions-via-then-left-conditions, then-left-conditions-via-else-left-conditions+then-not-is_choice, then-right-conditions-via-then-right-conditions, then-right-conditions-via-else-right-conditions+then-not-is_choice-2}

pub returns-then-left-conditions-clause-answer : goal.returns-then-left-conditions-clause-answer
returns-then-left-conditions-clause-answer c =
    let m = c.self.inside in
    let l = c.args.left.now in
    let r = c.args.right.now in
    subst (λ (s : Matching). false ≡ joins s.catalogue s.block s.left s.right l r) c.self.view_is
    (elim c.then-left-conditions.branch [
      | then-left-conditions-via-then-left-conditions w ↦ no-left-mask m.catalog.now m.block.now m.conditions.now.left m.conditions.now.right l r w.if-left-conditions.true
      | then-left-conditions-via-else-left-conditions+then-not-is_choice w ↦
          no-left-choice m.catalog.now m.block.now m.conditions.now.left m.conditions.now.right l r
          (ap (λ s. is_choice m.conditions.now.left s l.ids.rows) (sym (ap (λ (k : JoinConditions). k.sizes) c.self.invariant.1)) ∙ sym w.is_choice.ensures ∙ w.if-not-is_choice.true)
    ])

pub returns-then-right-conditions-clause-answer : goal.returns-then-right-conditions-clause-answer
returns-then-right-conditions-clause-answer c =
    let m = c.self.inside in
    let l = c.args.left.now in
    let r = c.args.right.now in
    subst (λ (s : Matching). false ≡ joins s.catalogue s.block s.left s.right l r) c.self.view_is
    (elim c.then-right-conditions.branch [
      | then-right-conditions-via-then-right-conditions w ↦ no-right-mask m.catalog.now m.block.now m.conditions.now.left m.conditions.now.right l r w.if-right-conditions.true
      | then-right-conditions-via-else-right-conditions+then-not-is_choice-2 w ↦
          no-right-choice m.catalog.now m.block.now m.conditions.now.left m.conditions.now.right l r
          (ap (λ s. is_choice m.conditions.now.right s r.ids.rows) (sym (ap (λ (k : JoinConditions). k.sizes) c.self.invariant.1)) ∙ sym w.is_choice-else-right-conditions.ensures ∙ w.if-not-is_choice-2.true)
    ])

pub holds-requires-clause-inside : goal.holds-requires-clause-inside
holds-requires-clause-inside c =
    let m = c.self.inside in
    let mask : c.merge-ids.result.mask ≡ bit_or m.conditions.now.left m.conditions.now.right =
    ap (λ (i : Ids). i.mask) c.merge-ids.ensures.value ∙ (λ at. bit_or (c.if-left-conditions.false at) (c.if-right-conditions.false at)) in
    subst₂ (λ n e. AreInside n e m.block.now.conjuncts) (sym (ap (λ (k : JoinConditions). k.across) c.self.invariant.1)) (sym mask) (AreInside-across m.conditions.now.left m.conditions.now.right m.block.now.conjuncts)

pub holds-requires-clause-rows : goal.holds-requires-clause-rows
holds-requires-clause-rows c =
    let m = c.self.inside in
    let l = c.args.left.now in
    let r = c.args.right.now in
    let mask : c.merge-ids.result.mask ≡ bit_or m.conditions.now.left m.conditions.now.right =
    ap (λ (i : Ids). i.mask) c.merge-ids.ensures.value ∙ (λ at. bit_or (c.if-left-conditions.false at) (c.if-right-conditions.false at)) in
    let rows : c.merge-ids.result.rows ≡ merge_rows l.ids.rows r.ids.rows = ap (λ (i : Ids). i.rows) c.merge-ids.ensures.value in
    let sizes = sizes_of m.catalog.now m.block.now in
    let left : IsChoice m.conditions.now.left sizes l.ids.rows =
    IsChoice-test m.conditions.now.left sizes l.ids.rows (ap (λ s. is_choice m.conditions.now.left s l.ids.rows) (sym (ap (λ (k : JoinConditions). k.sizes) c.self.invariant.1)) ∙ sym c.is_choice.ensures ∙ c.if-not-is_choice.false) in
    let right : IsChoice m.conditions.now.right sizes r.ids.rows =
    IsChoice-test m.conditions.now.right sizes r.ids.rows
    (ap (λ s. is_choice m.conditions.now.right s r.ids.rows) (sym (ap (λ (k : JoinConditions). k.sizes) c.self.invariant.1)) ∙ sym c.is_choice-else-right-conditions.ensures ∙ c.if-not-is_choice-2.false) in
    subst₂ (λ e x. HasRows m.catalog.now m.block.now e x) (sym mask) (sym rows)
    (HasRows-choice m.catalog.now m.block.now (bit_or m.conditions.now.left m.conditions.now.right) (merge_rows l.ids.rows r.ids.rows) c.self.invariant.0.most_entries
    (IsChoice-merge m.conditions.now.left m.conditions.now.right sizes l.ids.rows r.ids.rows left right))

pub returns-clause-answer : goal.returns-clause-answer
returns-clause-answer c =
    let m = c.self.inside in
    let l = c.args.left.now in
    let r = c.args.right.now in
    let conjuncts = m.block.now.conjuncts in
    let rows : c.merge-ids.result.rows ≡ merge_rows l.ids.rows r.ids.rows = ap (λ (i : Ids). i.rows) c.merge-ids.ensures.value in
    let left : is_choice m.conditions.now.left (sizes_of m.catalog.now m.block.now) l.ids.rows ≡ true =
    ap (λ s. is_choice m.conditions.now.left s l.ids.rows) (sym (ap (λ (k : JoinConditions). k.sizes) c.self.invariant.1)) ∙ sym c.is_choice.ensures ∙ c.if-not-is_choice.false in
    let right : is_choice m.conditions.now.right (sizes_of m.catalog.now m.block.now) r.ids.rows ≡ true =
    ap (λ s. is_choice m.conditions.now.right s r.ids.rows) (sym (ap (λ (k : JoinConditions). k.sizes) c.self.invariant.1)) ∙ sym c.is_choice-else-right-conditions.ensures ∙ c.if-not-is_choice-2.false in
    let answer : all_hold m.catalog.now m.block.now m.conditions.now.across c.merge-ids.result.rows conjuncts ≡ joins m.catalog.now m.block.now m.conditions.now.left m.conditions.now.right l r =
    (λ at. all_hold m.catalog.now m.block.now ((ap (λ (k : JoinConditions). k.across) c.self.invariant.1) at) (rows at) conjuncts)
    ∙ all_hold-across m.conditions.now.left m.conditions.now.right m.catalog.now m.block.now (merge_rows l.ids.rows r.ids.rows) conjuncts
    ∙ sym (both-sides m.catalog.now m.block.now m.conditions.now.left m.conditions.now.right l r c.if-left-conditions.false left c.if-right-conditions.false right) in
    subst (λ (s : Matching). c.holds.result ≡ joins s.catalogue s.block s.left s.right l r) c.self.view_is (c.holds.ensures ∙ answer)
