-- What is kept of all entries, one mask of terms after another: the first of the operators for terms over what is kept of fewer terms,
-- and of what is there already.
use Rattle.std.proofs.Common.{◌≡◌, ◌∙◌, inl, inr, ℕ, ◌+◌, ◌-◌, ◌*◌, ◌^◌, ◌<◌, ◌≤◌, ◌==◌, false, true, List, length, refl, sym, ap, subst, arith, bit_or, bit_xor}
use Rattle.std.specs.Prelude.{Option, Some, None, slice_get}
use Rattle.std.proofs.lemmas.Nat.{or_comm, pow_pos}
use Rattle.std.proofs.lemmas.Nat.Bits.{bit_at-lt, bit_at-pow_same, bit_at_or}
use Rattle.std.proofs.lemmas.Option.{none-some, same_Some, slice_get_cases}
use Rattle.std.specs.Int.{bit_at}
use Rattle.rs_rank.specs.Masks.{has_number, mask_of}
use Rattle.rs_catalog.specs.Catalog.{CatalogDef}
use Rattle.rs_query.specs.Meaning.{is_inside}
use Rattle.rs_query.specs.Tables.{all_entries}
use Rattle.rs_query.specs.WellFormed.{IsQuery}
use Rattle.rs_query.specs.declared.query.Query.{Query}
use Rattle.rs_query.specs.declared.term.Term.{Term}
use Rattle.rs_query.proofs.EntryFacts.{terms-inside}
use Rattle.rs_order.proofs.EachFacts.{each-slice_get}
use Rattle.rs_sample.specs.Cards.{BlockCards}
use Rattle.rs_query.specs.Blocks.{block_in}
use Rattle.rs_plan.specs.Plans.{IsRank}
use Rattle.rs_plan.specs.Trees.{PlanTree, Rank, terms}
use Rattle.rs_enum.specs.declared.candidate.Candidate.{Candidate}
use Rattle.rs_enum.specs.declared.candidate.Choice.{Choice}
use Rattle.rs_enum.specs.declared.candidate.Choice.TheVariants as choice
use Rattle.rs_enum.specs.declared.extent.Extent.{Extent}
use Rattle.rs_enum.specs.Costs.{call_cost, estimate_of}
use Rattle.rs_enum.specs.Places.{Placed, cheaper}
use Rattle.rs_enum.specs.Firsts.{NoLaterBy}
use Rattle.rs_enum.specs.Tops.{AreFirst, AreTops, IsFirstTop, IsMadeTop, IsOfTerms, IsOneTop, IsTheBase, IsTheFirstOf, IsTheFirstTop, IsTheOneTop, IsTheTop, IsTop, IsTopped, IsWhole, KeepsTop, StandsForTop, base_top, most_whole, number_of, plan_of, root_term, rows_most, whole_cost, whole_rows}
use Rattle.rs_enum.proofs.BitFacts.{left-has_not, left-without, less-without, number-apart, number-inside, part-and-left, union-sum}
use Rattle.rs_enum.proofs.CostFacts.{block-formed}
use Rattle.rs_enum.proofs.FirstFacts.{first-cheaper, first-wider, less-or-equal}
use Rattle.rs_enum.proofs.OrderOfPlans.{by_value-more, rank-codes}
use Rattle.rs_enum.proofs.WholeFacts.{few-terms, root-codes, root-most, root-some, whole-above, whole-below, whole-case, whole-entries, whole-estimate, whole-fits}

-- a mask has the numbers that it was joined with
has-own : (a t : ℕ) → has_number (bit_or a (mask_of t)) t ≡ true
has-own a t =
    let o = bit_at_or a (mask_of t) (t - 1) in
    let own = bit_at-pow_same (t - 1) in
    let less = bit_at-lt a (t - 1) in
    let one : bit_at (bit_or a (mask_of t)) (t - 1) ≡ 1 = omega arith in
    ap (λ n. n == 1) one

-- nothing is kept of no mask
pub first-none : (Of : PlanTree → Type 0) (value : PlanTree → ℕ) (Fits : ℕ → ℕ → Type 0) (tops : ℕ → Option Placed) → AreFirst Of value Fits 0 tops
first-none Of value Fits tops = record {
  kept = λ e k within at. absurd (omega arith);
  first = λ tree of within. absurd (omega arith);
}

-- one mask of terms more
module _ (Of : PlanTree → Type 0) (value : PlanTree → ℕ) (Fits : ℕ → ℕ → Type 0) (count : ℕ) (tops more : ℕ → Option Placed)
    (same : (e : ℕ) → e < count → more e ≡ tops e) (are : AreFirst Of value Fits count tops) (is : IsTheFirstOf Of value Fits count (more count)) where
  kept-last : (k : Placed) → more count ≡ Some k → IsTop Of value Fits count k
  kept-last k e = go (more count) is e where
    go : (o : Option Placed) → IsTheFirstOf Of value Fits count o → o ≡ Some k → IsTop Of value Fits count k
    go None none f = absurd (none-some k f)
    go (Some m) first f = subst (IsTop Of value Fits count) (same_Some m k f) first.top

  kept-each : (e : ℕ) (k : Placed) → e < count + 1 → more e ≡ Some k → IsTop Of value Fits e k
  kept-each e k within at = elim (less-or-equal e count within) [
    | inl less ↦ are.kept e k less (sym (same e less) ∙ at)
    | inr last ↦ subst (λ n. IsTop Of value Fits n k) (sym last) (kept-last k (ap more (sym last) ∙ at))
  ]

  first-last : (tree : PlanTree) → Of tree → terms tree ≡ count → KeepsTop value more tree
  first-last tree of last = go (more count) is refl where
    go : (o : Option Placed) → IsTheFirstOf Of value Fits count o → more count ≡ o → KeepsTop value more tree
    go None none e = absurd (none tree of last)
    go (Some m) first e = record { kept = m; is = ap more last ∙ e; no_later = first.no_later tree of last }

  first-each : (tree : PlanTree) → Of tree → terms tree < count + 1 → KeepsTop value more tree
  first-each tree of within = elim (less-or-equal (terms tree) count within) [
    | inl less ↦ (let k = are.first tree of less in record { kept = k.kept; is = same (terms tree) less ∙ k.is; no_later = k.no_later })
    | inr last ↦ first-last tree of last
  ]

  pub first-more : AreFirst Of value Fits (count + 1) more
  first-more = record { kept = kept-each; first = first-each }

-- what is kept where the same is kept of each mask
pub first-same : (Of : PlanTree → Type 0) (value : PlanTree → ℕ) (Fits : ℕ → ℕ → Type 0) (count : ℕ) (tops other : ℕ → Option Placed)
    → ((e : ℕ) → e < count → other e ≡ tops e) → AreFirst Of value Fits count tops → AreFirst Of value Fits count other
first-same Of value Fits count tops other same are = record {
  kept = λ e k within at. are.kept e k within (sym (same e within) ∙ at);
  first = λ tree of within. (let k = are.first tree of within in record { kept = k.kept; is = same (terms tree) within ∙ k.is; no_later = k.no_later });
}

module _ (catalogue : CatalogDef) (query : Query) (q : IsQuery catalogue query) (cards : List BlockCards) (e : Extent) (topped : IsTopped query e)
    (base : Option Placed) (tops : ℕ → Option Placed) (evaluated : ℕ) where
  -- what was found so far, and what is found for the next number
  pub top-cheaper : (bound : ℕ) (best next : Option Candidate) → IsTheFirstTop catalogue query cards e base tops evaluated bound best
      → IsTheOneTop catalogue query cards e base tops evaluated bound next → IsTheFirstTop catalogue query cards e base tops evaluated (bound + 1) (cheaper best next)
  top-cheaper bound best next is one =
      first-cheaper (IsOfTerms catalogue query e evaluated) (StandsForTop catalogue query cards e base tops evaluated) (whole_cost catalogue query cards e) root_term
      (λ found tree stands. record { is = stands.is; its_terms = stands.its_terms }) (λ found tree stands. stands.its_cost)
      (λ a b x y less. root-codes catalogue query q e topped a b x.is y.is less) bound best next is one

  -- no term has the number 0, and none one beyond those of the block
  pub top-none : IsTheFirstTop catalogue query cards e base tops evaluated 1 None
  top-none = λ other of below. (let some = root-some catalogue query e topped other of.is in omega arith)

  pub top-wider : (bound : ℕ) (found : Option Candidate) → length (block_in query (number_of e)).terms < bound → bound ≤ 9
      → IsTheFirstTop catalogue query cards e base tops evaluated bound found → IsTheFirstTop catalogue query cards e base tops evaluated 9 found
  top-wider bound found all few is =
      first-wider (IsOfTerms catalogue query e evaluated) (StandsForTop catalogue query cards e base tops evaluated) (whole_cost catalogue query cards e) root_term
      bound 9 found few
      (λ other of above below. elim (root-most catalogue query e topped other of.is) [ inl most ↦ omega arith | inr nine ↦ omega arith ]) is

  -- what is there already
  pub base-found : IsTheBase catalogue query cards e evaluated base → IsTheOneTop catalogue query cards e base tops evaluated 9 (base_top base)
  base-found first = go base refl first where
    go : (o : Option Placed) → base ≡ o → IsTheBase catalogue query cards e evaluated o → IsTheOneTop catalogue query cards e base tops evaluated 9 (base_top o)
    go None is none = λ other of nine. none other (of.is, nine) of.its_terms
    go (Some k) is own = record {
      tree = k.plan;
      stands = record {
        is = own.top.is.0;
        its_terms = own.top.its_terms;
        its_cost = own.top.its_cost;
        fits = own.top.fits;
        made = ap plan_of is;
      };
      starts = own.top.is.1;
      no_later = λ other of nine. own.no_later other (of.is, nine) of.its_terms;
    }

  -- a tree with an operator for a term at the root
  record IsRankTree (t : ℕ) (tree : PlanTree) : Type 0 where
    child : PlanTree
    is : tree ≡ Rank t child
    below : IsWhole catalogue query e child
    rank : IsRank (block_in query (number_of e)) t child

  rank-tree : (t : ℕ) (tree : PlanTree) → t ≤ 8 → IsWhole catalogue query e tree → root_term tree ≡ t → IsRankTree t tree
  rank-tree t tree few is at =
      whole-case catalogue query e topped tree is
      (λ u child same.
      let number : u ≡ t = sym (ap root_term same) ∙ at in
      let own : tree ≡ Rank t child = same ∙ ap (λ n. Rank n child) number in
      let below = whole-below catalogue query e t child (subst (IsWhole catalogue query e) own is) in
      record { child = child; is = own; below = below.0; rank = below.1 })
      (λ child same. absurd (let nine : 9 ≡ t = sym (ap root_term same) ∙ at in omega arith))
      (λ l r same. absurd (let nine : 9 ≡ t = sym (ap root_term same) ∙ at in omega arith))

  module _ (t : ℕ) (some : 1 ≤ t) (within : t ≤ length (block_in query (number_of e)).terms) where
    few : t ≤ 8
    few = let most = few-terms catalogue query q e in omega arith

    term-there : (term : Term) × (slice_get (block_in query (number_of e)).terms (t - 1) ≡ Some term)
    term-there = elim ((slice_get_cases (block_in query (number_of e)).terms (t - 1)).1) [
      | inl h ↦ (h.0, h.2)
      | inr none ↦ absurd (let past = none.0 in omega arith)
    ]

    -- the terms below
    below-terms : (child : PlanTree) → IsRank (block_in query (number_of e)) t child → bit_or (terms child) (mask_of t) ≡ evaluated
        → terms child ≡ bit_xor evaluated (mask_of t)
    below-terms child rank same =
        sym (left-without (terms child) (mask_of t) (number-apart (terms child) t rank.absent)) ∙ ap (λ m. bit_xor m (mask_of t)) same

    own-terms : (other : PlanTree) → (r : IsRankTree t other) → terms other ≡ evaluated → bit_or (terms r.child) (mask_of t) ≡ evaluated
    own-terms other r same = sym (ap terms r.is) ∙ same

    pub rank-unwanted : has_number evaluated t ≡ false
        → (other : PlanTree) → IsOfTerms catalogue query e evaluated other → root_term other ≡ t → ⊥
    rank-unwanted none other of at =
        let r = rank-tree t other few of.is at in
        let whole = own-terms other r of.its_terms in
        let has = has-own (terms r.child) t in
        let no : true ≡ false = sym has ∙ ap (λ m. has_number m t) whole ∙ none in
        cc

    module _ (are : AreTops catalogue query cards e evaluated tops) where
      keeps-child : (other : PlanTree) → (r : IsRankTree t other) → terms other ≡ evaluated → KeepsTop (whole_cost catalogue query cards e) tops r.child
      keeps-child other r same =
          are.first r.child r.below
          (let sum = union-sum (terms r.child) (mask_of t) (number-apart (terms r.child) t r.rank.absent) in
          let own : 0 < mask_of t = pow_pos (t - 1) in
          let whole = own-terms other r same in
          omega arith)

      pub rank-missing : tops (bit_xor evaluated (mask_of t)) ≡ None
          → (other : PlanTree) → IsOfTerms catalogue query e evaluated other → root_term other ≡ t → ⊥
      rank-missing none other of at =
          let r = rank-tree t other few of.is at in
          let keeps = keeps-child other r of.its_terms in
          none-some keeps.kept (sym none ∙ ap tops (sym (below-terms r.child r.rank (own-terms other r of.its_terms))) ∙ keeps.is)

      -- an operator over what is kept without the term
      pub rank-one : (k : Placed) → tops (bit_xor evaluated (mask_of t)) ≡ Some k → has_number evaluated t ≡ true → (rows call : ℕ)
          → rows ≡ whole_rows query cards e (bit_xor evaluated (mask_of t)) → rows ≤ rows_most e
          → call ≡ call_cost catalogue (block_in query (number_of e)) t → call < 2 ^ 16
          → (found : Candidate) → found.cost ≡ k.cost + rows * call → found.choice ≡ choice.Rank t → IsOneTop catalogue query cards e base tops evaluated t found
      rank-one k at has rows call rows_is few_rows call_is small found cost_is choice_is =
          let less = less-without evaluated t has in
          let top = are.kept (bit_xor evaluated (mask_of t)) k less at in
          let whole : bit_or (terms k.plan) (mask_of t) ≡ evaluated =
          ap (λ m. bit_or m (mask_of t)) top.its_terms ∙ or_comm (bit_xor evaluated (mask_of t)) (mask_of t) ∙ part-and-left (mask_of t) evaluated (number-inside evaluated t has) in
          let term = term-there in
          let rank : IsRank (block_in query (number_of e)) t k.plan = record {
            term = term.0;
            is_term = record { some = some; there = term.1 };
            absent = ap (λ m. has_number m t) top.its_terms ∙ left-has_not evaluated t has;
            there = ap (is_inside term.0.entries) (whole-entries catalogue query e k.plan top.is)
                ∙ each-slice_get (λ (x : Term). is_inside x.entries (all_entries (block_in query (number_of e))) ≡ true) (block_in query (number_of e)).terms (t - 1) term.0
                (terms-inside catalogue (block_in query (number_of e)) (block-formed catalogue query (number_of e) q)) term.1;
          } in
          let own : IsWhole catalogue query e (Rank t k.plan) = whole-above catalogue query e t k.plan top.is rank in
          let estimate : estimate_of cards (number_of e) k.plan ≡ rows =
          whole-estimate catalogue query cards e k.plan top.is ∙ ap (whole_rows query cards e) top.its_terms ∙ sym rows_is in
          let most = whole-fits catalogue query q e t k.plan k.cost rows call own few_rows small
          (subst (λ n. k.cost ≤ most_whole query e n) (sym top.its_terms) top.fits) in
          record {
            tree = Rank t k.plan;
            stands = record {
              is = own;
              its_terms = whole;
              its_cost = cost_is ∙ (λ i. top.its_cost i + sym estimate i * call_is i);
              fits = subst (λ n. n ≤ most_whole query e evaluated) (sym cost_is)
                  (subst (λ n. k.cost + rows * call ≤ most_whole query e n) whole most);
              made = subst (λ o. IsMadeTop base tops evaluated o (Rank t k.plan)) (sym choice_is)
                  (k.plan, refl, record { there = ap plan_of at; less = less; some = some; most = few });
            };
            starts = refl;
            no_later = λ other of root.
                let r = rank-tree t other few of.is root in
                let keeps = keeps-child other r of.its_terms in
                let below = below-terms r.child r.rank (own-terms other r of.its_terms) in
                let there : keeps.kept ≡ k = same_Some keeps.kept k (sym (ap tops (sym below) ∙ keeps.is) ∙ at) in
                let earlier : NoLaterBy (whole_cost catalogue query cards e) k.plan r.child =
                subst (λ (m : Placed). NoLaterBy (whole_cost catalogue query cards e) m.plan r.child) there keeps.no_later in
                let other_estimate : estimate_of cards (number_of e) r.child ≡ rows =
                whole-estimate catalogue query cards e r.child r.below ∙ ap (whole_rows query cards e) below ∙ sym rows_is in
                subst (NoLaterBy (whole_cost catalogue query cards e) (Rank t k.plan)) (sym r.is)
                (by_value-more (whole_cost catalogue query cards e) (whole_cost catalogue query cards e) k.plan r.child (Rank t k.plan) (Rank t r.child)
                (rows * call_cost catalogue (block_in query (number_of e)) t)
                (ap (λ n. whole_cost catalogue query cards e k.plan + n * call_cost catalogue (block_in query (number_of e)) t) estimate)
                (ap (λ n. whole_cost catalogue query cards e r.child + n * call_cost catalogue (block_in query (number_of e)) t) other_estimate)
                (rank-codes t k.plan r.child) earlier);
          }

  root-few : (other : PlanTree) → IsWhole catalogue query e other → root_term other < 10
  root-few other is = elim (root-most catalogue query e topped other is) [
    | inl most ↦ (let eight = few-terms catalogue query q e in omega arith)
    | inr nine ↦ omega arith
  ]

  made-one : (chosen : Choice) (a b : PlanTree) → IsMadeTop base tops evaluated chosen a → IsMadeTop base tops evaluated chosen b → a ≡ b
  made-one choice.Base a b x y = same_Some a b (sym x ∙ y)
  made-one (choice.Rank t) a b x y = x.1 ∙ ap (Rank t) (same_Some x.0 y.0 (sym x.2.there ∙ y.2.there)) ∙ sym y.1
  made-one (choice.SeqScan n) a b x y = absurd x
  made-one (choice.RankScan n t i) a b x y = absurd x
  made-one (choice.HashJoin n) a b x y = absurd x
  made-one (choice.NestedJoin n) a b x y = absurd x

  -- what is found is kept
  pub kept-found : (k : Placed) (found : Candidate) → IsFirstTop catalogue query cards e base tops evaluated 10 found → k.cost ≡ found.cost
      → IsMadeTop base tops evaluated found.choice k.plan → IsTheTop catalogue query cards e evaluated (Some k)
  kept-found k found first cost_is made =
      let same : k.plan ≡ first.tree = made-one found.choice k.plan first.tree made first.stands.made in
      record {
        top = record {
          is = subst (IsWhole catalogue query e) (sym same) first.stands.is;
          its_terms = ap terms same ∙ first.stands.its_terms;
          its_cost = cost_is ∙ first.stands.its_cost ∙ ap (whole_cost catalogue query cards e) (sym same);
          fits = subst (λ n. n ≤ most_whole query e evaluated) (sym cost_is) first.stands.fits;
        };
        no_later = λ other is terms_are.
            subst (λ x. NoLaterBy (whole_cost catalogue query cards e) x other) (sym same) (first.no_later other (record { is = is; its_terms = terms_are }) (root-few other is));
      }

  pub kept-none : IsTheFirstTop catalogue query cards e base tops evaluated 10 None → IsTheTop catalogue query cards e evaluated None
  kept-none none = λ other is same. none other (record { is = is; its_terms = same }) (root-few other is)
