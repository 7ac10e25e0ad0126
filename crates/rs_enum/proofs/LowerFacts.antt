-- What is kept of all entries of a block, as it stands or with duplicates dropped, and the least costs of its signatures.
use Rattle.std.proofs.Common.{◌≡◌, ◌∙◌, ℕ, ◌+◌, ◌*◌, ◌^◌, ◌<◌, ◌≤◌, false, true, List, length, refl, sym, ap, subst, arith}
use Rattle.std.specs.Prelude.{Option, Some, None, option_map}
use Rattle.std.proofs.lemmas.Option.{none-some, same_Some}
use Rattle.rs_catalog.specs.Catalog.{CatalogDef}
use Rattle.rs_query.specs.Tables.{all_entries}
use Rattle.rs_query.specs.WellFormed.{IsQuery}
use Rattle.rs_query.specs.declared.query.Query.{Query}
use Rattle.rs_sample.specs.Cards.{BlockCards}
use Rattle.rs_query.specs.Blocks.{block_in}
use Rattle.rs_plan.specs.Plans.{HasNoDistinct, IsPart}
use Rattle.rs_plan.specs.Trees.{Distinct, PlanTree, Rank, code, entries, terms}
use Rattle.rs_enum.specs.declared.extent.Extent.TheVariants as extent
use Rattle.rs_enum.specs.Costs.{cost_in, cost_of, estimate_of}
use Rattle.rs_enum.specs.LeastCosts.{HasBlock, HasCost, IsOfBlock}
use Rattle.rs_enum.specs.Places.{IsFilled, Placed, kept_at, tree_at}
use Rattle.rs_enum.specs.QueryCards.{alone, alone_cards, cards_at}
use Rattle.rs_enum.specs.Firsts.{NoLaterBy}
use Rattle.rs_enum.specs.Tops.{AreLower, AreTops, IsBase, IsLower, IsTheBase, distinct_base, root_term, whole_rows}
use Rattle.rs_enum.proofs.AloneFacts.{cost-alone}
use Rattle.rs_enum.proofs.CostFacts.{block-formed, numbered}
use Rattle.rs_enum.proofs.CoveringFacts.{Covers, covers-all, keeps-duplicates}
use Rattle.rs_enum.proofs.MadeFacts.{mapped}
use Rattle.rs_enum.proofs.OrderOfPlans.{by_value-more, by_value-most, by_value-same, estimate-part, same-front}
use Rattle.rs_enum.proofs.PlaceFacts.{covered, sound}
use Rattle.rs_enum.proofs.WholeFacts.{few-terms, whole-case}
use Rattle.rs_enum.proofs.WithinFacts.{terms-below}

module _ (catalogue : CatalogDef) (query : Query) (q : IsQuery catalogue query) (cards : List BlockCards) (number : ℕ) where
  module _ (places : List (Option Placed)) (filled : IsFilled catalogue (alone query number) (alone_cards cards number) places)
      (all : length places ≡ 2 ^ length (block_in query number).from * 2 ^ length (block_in query number).terms) where
    -- what is kept of the signature of a plan comes no later than the plan
    pub record KeepsEarlier (tree : PlanTree) : Type 0 where
      pub kept : Placed
      pub is : kept_at (length (block_in query number).terms) places (entries tree) (terms tree) ≡ Some kept
      pub no_later : NoLaterBy (cost_in catalogue query cards number) kept.plan tree

    keeps-earlier : (tree : PlanTree) → IsPart catalogue (block_in query number) tree → HasNoDistinct tree → KeepsEarlier tree
    keeps-earlier tree part whole =
        let formed = block-formed catalogue query number q in
        let c : Covers catalogue (block_in query number) (alone query number) (alone_cards cards number) (tree_at (length (block_in query number).terms) places)
        (entries tree) (terms tree) tree =
        covers-all catalogue (block_in query number) (alone query number) (alone_cards cards number) (tree_at (length (block_in query number).terms) places)
        (sound catalogue (block_in query number) None (alone_cards cards number) formed places filled all)
        (covered catalogue (block_in query number) None (alone_cards cards number) formed places filled all) tree part whole in
        let m = mapped (λ (k : Placed). k.plan) (kept_at (length (block_in query number).terms) places (entries tree) (terms tree)) c.found c.is in
        let own = filled.kept (entries tree) (terms tree) m.0 (terms-below catalogue (block_in query number) tree part) m.1 in
        record {
          kept = m.0;
          is = m.1;
          no_later = by_value-same (cost_of catalogue (alone query number) (alone_cards cards number)) (cost_in catalogue query cards number) m.0.plan tree
              (cost-alone catalogue query cards number m.0.plan own.part) (cost-alone catalogue query cards number tree part)
              (subst (λ t. NoLaterBy (cost_of catalogue (alone query number) (alone_cards cards number)) t tree) (sym m.2) c.no_later);
        }

    -- the row of all entries
    pub lower-row : AreLower catalogue query cards number (2 ^ length (block_in query number).terms)
        (kept_at (length (block_in query number).terms) places (all_entries (block_in query number)))
    lower-row = record {
      kept = λ e k within at.
          let own = filled.kept (all_entries (block_in query number)) e k within at in
          record {
            is = record { part = own.part; all = own.its_entries; whole = own.whole };
            its_terms = own.its_terms;
            its_cost = own.cost ∙ sym (cost-alone catalogue query cards number k.plan own.part);
            fits = own.spare;
          };
      first = λ tree is within.
          let k = keeps-earlier tree is.part is.whole in
          record {
            kept = k.kept;
            is = (λ i. kept_at (length (block_in query number).terms) places (sym is.all i) (terms tree)) ∙ k.is;
            no_later = k.no_later;
          };
    }

    -- what is kept costs the least of its signature
    pub least-cost : HasBlock query number → (first second : ℕ) → second < 2 ^ length (block_in query number).terms
        → HasCost catalogue query cards number first second
        (option_map (λ (kept : Placed). kept.cost) (kept_at (length (block_in query number).terms) places first second))
    least-cost block first second small = go (kept_at (length (block_in query number).terms) places first second) refl where
      same : (other : PlanTree) → IsOfBlock catalogue query number first second other → (k : KeepsEarlier other)
          → kept_at (length (block_in query number).terms) places first second ≡ Some k.kept
      same other of k = (λ i. kept_at (length (block_in query number).terms) places (sym of.its_entries i) (sym of.its_terms i)) ∙ k.is

      go : (o : Option Placed) → kept_at (length (block_in query number).terms) places first second ≡ o
          → HasCost catalogue query cards number first second (option_map (λ (kept : Placed). kept.cost) o)
      go None at = λ other of.
          let k = keeps-earlier other of.part of.whole in
          none-some k.kept (sym at ∙ same other of k)
      go (Some k) at =
          let own = filled.kept first second k small at in
          record {
            plan = k.plan;
            is = record { block = block; part = own.part; whole = own.whole; its_entries = own.its_entries; its_terms = own.its_terms };
            its_cost = own.cost ∙ sym (cost-alone catalogue query cards number k.plan own.part);
            least = λ other of.
                let e = keeps-earlier other of.part of.whole in
                let there : e.kept ≡ k = same_Some e.kept k (sym (same other of e) ∙ at) in
                let most = by_value-most (cost_in catalogue query cards number) k.plan other
                (subst (λ (m : Placed). NoLaterBy (cost_in catalogue query cards number) m.plan other) there e.no_later) in
                let cost : k.cost ≡ cost_in catalogue query cards number k.plan = own.cost ∙ sym (cost-alone catalogue query cards number k.plan own.part) in
                subst (λ n. n ≤ cost_in catalogue query cards number other) (sym cost) most;
          }

  -- where the block keeps duplicates, this is what is kept of the block
  pub lower-tops : (count : ℕ) (tops : ℕ → Option Placed) → (block_in query number).distinct ≡ false → AreLower catalogue query cards number count tops
      → AreTops catalogue query cards (extent.Block number) count tops
  lower-tops count tops keeps are = record {
    kept = λ e k within at.
        let top = are.kept e k within at in
        let fits = top.fits in
        record {
          is = record {
            part = top.is.part;
            all = top.is.all;
            drops = λ wanted. absurd (let no : true ≡ false = sym wanted ∙ keeps in cc);
          };
          its_terms = top.its_terms;
          its_cost = top.its_cost;
          fits = omega arith;
        };
    first = λ tree is within. are.first tree (record { part = is.part; all = is.all; whole = keeps-duplicates catalogue (block_in query number) tree keeps is.part }) within;
  }

  -- and else duplicates are dropped of it
  module _ (count : ℕ) (lower : ℕ → Option Placed) (are : AreLower catalogue query cards number count lower) (topped : (block_in query number).distinct ≡ true) (e : ℕ)
      (within : e < count) where
    record IsDropped (other : PlanTree) : Type 0 where
      child : PlanTree
      is : other ≡ Distinct child
      below : IsLower catalogue query number child

    dropped : (other : PlanTree) → IsBase catalogue query (extent.Block number) other → IsDropped other
    dropped other is =
        whole-case catalogue query (extent.Block number) topped other is.0
        (λ t child same.
        let own : IsPart catalogue (block_in query number) (Rank t child) = subst (IsPart catalogue (block_in query number)) same is.0.part in
        let nine : t ≡ 9 = sym (ap root_term same) ∙ is.1 in
        absurd (let most = (numbered (block_in query number) t own.1.term own.1.is_term).most in
        let few = few-terms catalogue query q (extent.Block number) in
        omega arith))
        (λ child same.
        let own : IsPart catalogue (block_in query number) (Distinct child) = subst (IsPart catalogue (block_in query number)) same is.0.part in
        record { child = child; is = same; below = record { part = own.0; all = own.1.all; whole = own.1.first } })
        (λ l r same. absurd (subst (IsPart catalogue (block_in query number)) same is.0.part))

    rows-of : (tree : PlanTree) → IsLower catalogue query number tree → terms tree ≡ e
        → estimate_of cards number tree ≡ whole_rows query cards (extent.Block number) e
    rows-of tree is same =
        estimate-part catalogue query cards (block_in query number) number tree (terms tree) is.part
        ∙ (λ i. (cards_at cards number).estimate (is.all i) (same i))

    pub dropped-base : ((k : Placed) → lower e ≡ Some k → whole_rows query cards (extent.Block number) e ≤ 2 ^ 102)
        → IsTheBase catalogue query cards (extent.Block number) e (distinct_base query cards number e (lower e))
    dropped-base few = go (lower e) refl where
      go : (o : Option Placed) → lower e ≡ o → IsTheBase catalogue query cards (extent.Block number) e (distinct_base query cards number e o)
      go None none = λ other is same.
          let d = dropped other is in
          let terms_same : terms d.child ≡ e = sym (ap terms d.is) ∙ same in
          let keeps = are.first d.child d.below (subst (λ n. n < count) (sym terms_same) within) in
          none-some keeps.kept (sym none ∙ ap lower (sym terms_same) ∙ keeps.is)
      go (Some k) at =
          let top = are.kept e k within at in
          let fits = top.fits in
          let most = few k at in
          let rows = whole_rows query cards (extent.Block number) e in
          record {
            top = record {
              is = (
                record {
                  part = (top.is.part, record { wanted = topped; all = top.is.all; first = top.is.whole });
                  all = top.is.all;
                  drops = λ wanted whole. whole;
                },
                refl,
              );
              its_terms = top.its_terms;
              its_cost = λ i. top.its_cost i + sym (rows-of k.plan top.is top.its_terms) i;
              fits = omega arith;
            };
            no_later = λ other is same.
                let d = dropped other is in
                let terms_same : terms d.child ≡ e = sym (ap terms d.is) ∙ same in
                let keeps = are.first d.child d.below (subst (λ n. n < count) (sym terms_same) within) in
                let there : keeps.kept ≡ k = same_Some keeps.kept k (sym (ap lower (sym terms_same) ∙ keeps.is) ∙ at) in
                let earlier : NoLaterBy (cost_in catalogue query cards number) k.plan d.child =
                subst (λ (m : Placed). NoLaterBy (cost_in catalogue query cards number) m.plan d.child) there keeps.no_later in
                subst (NoLaterBy (cost_in catalogue query cards number) (Distinct k.plan)) (sym d.is)
                (by_value-more (cost_in catalogue query cards number) (cost_in catalogue query cards number) k.plan d.child (Distinct k.plan) (Distinct d.child) rows
                (ap (λ n. cost_in catalogue query cards number k.plan + n) (rows-of k.plan top.is top.its_terms))
                (ap (λ n. cost_in catalogue query cards number d.child + n) (rows-of d.child d.below terms_same))
                (same-front 6 (code k.plan) (code d.child)) earlier);
          }
