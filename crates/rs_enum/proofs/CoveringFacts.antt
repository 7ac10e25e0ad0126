-- Of each signature one plan is kept that comes no later than all plans made of kept ones. Then it comes no later than any.
use Rattle.std.proofs.Common.{◌≡◌, ℕ, ◌^◌, ◌<◌, false, true, List, length, refl, sym, ◌∙◌, ap, subst₂, bit_and, bit_or}
use Rattle.std.specs.Prelude.{Option, Some}
use Rattle.rs_catalog.specs.Catalog.{CatalogDef}
use Rattle.rs_rank.specs.Masks.{AreDisjoint, has_number, mask_of}
use Rattle.rs_query.specs.Meaning.{is_inside}
use Rattle.rs_query.specs.declared.block.Block.{Block}
use Rattle.rs_query.specs.declared.query.Query.{Query}
use Rattle.rs_sample.specs.Cards.{BlockCards}
use Rattle.rs_plan.specs.Plans.{HasNoDistinct, IsPart, IsRank, MayJoin}
use Rattle.rs_plan.specs.Trees.{Distinct, JoinOperator, PlanTree, Rank, RankScan, SeqScan, SetOperator, entries, terms}
use Rattle.rs_enum.specs.Candidates.{IsCandidate}
use Rattle.rs_enum.specs.Costs.{cost_of}
use Rattle.rs_enum.specs.Least.{ComesNoLater}
use Rattle.rs_enum.proofs.WithinFacts.{terms-below}
use Rattle.rs_enum.proofs.OrderOfPlans.{by_value-on, exchanged-below, exchanged-left, exchanged-right}

-- an operator for a term over another child of the same entries and terms
rank-of : (block : Block) (t : ℕ) (a b : PlanTree) → entries a ≡ entries b → terms a ≡ terms b → IsRank block t b → IsRank block t a
rank-of block t a b same_entries same_terms is = record {
  term = is.term;
  is_term = is.is_term;
  absent = ap (λ m. has_number m t) same_terms ∙ is.absent;
  there = ap (λ m. is_inside is.term.entries m) same_entries ∙ is.there;
}

module _ (catalogue : CatalogDef) (block : Block) where
  -- where the block doesn't say so, no duplicates are dropped
  pub keeps-duplicates : (tree : PlanTree) → block.distinct ≡ false → IsPart catalogue block tree → HasNoDistinct tree
  keeps-duplicates (SeqScan e) says is = tt
  keeps-duplicates (RankScan e t i) says is = tt
  keeps-duplicates (Rank t child) says is = keeps-duplicates child says is.0
  keeps-duplicates (JoinOperator kind l r) says is = (keeps-duplicates l says is.0, keeps-duplicates r says is.1)
  keeps-duplicates (Distinct child) says is = absurd (let e : true ≡ false = sym is.1.wanted ∙ says in cc)
  keeps-duplicates (SetOperator l r) says is = absurd is

  -- what is known of a kept plan
  pub record IsOfSignature (first second : ℕ) (tree : PlanTree) : Type 0 where
    pub part : IsPart catalogue block tree
    pub whole : HasNoDistinct tree
    pub its_entries : entries tree ≡ first
    pub its_terms : terms tree ≡ second

  module _ (query : Query) (cards : List BlockCards) (kept : ℕ → ℕ → Option PlanTree) where
    pub record Covers (first second : ℕ) (tree : PlanTree) : Type 0 where
      pub found : PlanTree
      pub is : kept first second ≡ Some found
      pub no_later : ComesNoLater catalogue query cards found tree

    module _ (sound : (first second : ℕ) (tree : PlanTree) → second < 2 ^ length block.terms → kept first second ≡ Some tree → IsOfSignature first second tree)
        (filled : (first second : ℕ) (tree : PlanTree) → IsCandidate catalogue block kept first second tree → Covers first second tree) where
      pub covers-all : (tree : PlanTree) → IsPart catalogue block tree → HasNoDistinct tree → Covers (entries tree) (terms tree) tree
      covers-all (SeqScan e) is whole =
          filled (entries (SeqScan e)) (terms (SeqScan e)) (SeqScan e)
          (record { part = is; whole = whole; its_entries = refl; its_terms = refl; made = tt })
      covers-all (RankScan e t i) is whole =
          filled (entries (RankScan e t i)) (terms (RankScan e t i)) (RankScan e t i)
          (record { part = is; whole = whole; its_entries = refl; its_terms = refl; made = tt })
      covers-all (Rank t child) is whole =
          let c = covers-all child is.0 whole in
          let s = sound (entries child) (terms child) c.found (terms-below catalogue block child is.0) c.is in
          let f = filled (entries (Rank t child)) (terms (Rank t child)) (Rank t c.found) (record {
            part = (s.part, rank-of block t c.found child s.its_entries s.its_terms is.1);
            whole = s.whole;
            its_entries = s.its_entries;
            its_terms = ap (λ m. bit_or m (mask_of t)) s.its_terms;
            made = subst₂ (λ x y. kept x y ≡ Some c.found) (sym s.its_entries) (sym s.its_terms) c.is;
          }) in
          record {
            found = f.found;
            is = f.is;
            no_later = by_value-on (cost_of catalogue query cards) f.found (Rank t c.found) (Rank t child) f.no_later
                (exchanged-below catalogue query cards block t c.found child s.part is.0 s.its_entries s.its_terms c.no_later);
          }
      covers-all (JoinOperator kind l r) is whole =
          let a = covers-all l is.0 whole.0 in
          let b = covers-all r is.1 whole.1 in
          let s = sound (entries l) (terms l) a.found (terms-below catalogue block l is.0) a.is in
          let u = sound (entries r) (terms r) b.found (terms-below catalogue block r is.1) b.is in
          let apart : AreDisjoint (entries a.found) (entries b.found) =
          subst₂ (λ x y. bit_and x y ≡ 0) (sym s.its_entries) (sym u.its_entries) is.2.apart in
          let may : MayJoin kind block (entries a.found) (entries b.found) = subst₂ (MayJoin kind block) (sym s.its_entries) (sym u.its_entries) is.3 in
          let f = filled (entries (JoinOperator kind l r)) (terms (JoinOperator kind l r)) (JoinOperator kind a.found b.found) (record {
            part = (s.part, u.part, record { apart = apart; left_whole = s.whole; right_whole = u.whole }, may);
            whole = (s.whole, u.whole);
            its_entries = λ at. bit_or (s.its_entries at) (u.its_entries at);
            its_terms = λ at. bit_or (s.its_terms at) (u.its_terms at);
            made = (
              subst₂ (λ x y. kept x y ≡ Some a.found) (sym s.its_entries) (sym s.its_terms) a.is,
              subst₂ (λ x y. kept x y ≡ Some b.found) (sym u.its_entries) (sym u.its_terms) b.is,
            );
          }) in
          record {
            found = f.found;
            is = f.is;
            no_later = by_value-on (cost_of catalogue query cards) f.found (JoinOperator kind a.found b.found) (JoinOperator kind l r) f.no_later
                (by_value-on (cost_of catalogue query cards) (JoinOperator kind a.found b.found) (JoinOperator kind l b.found) (JoinOperator kind l r)
                (exchanged-left catalogue query cards block kind a.found l b.found s.part is.0 s.its_entries s.its_terms a.no_later)
                (exchanged-right catalogue query cards block kind l b.found r u.part is.1 u.its_entries u.its_terms b.no_later));
          }
      covers-all (Distinct child) is whole = absurd whole
      covers-all (SetOperator l r) is whole = absurd is
