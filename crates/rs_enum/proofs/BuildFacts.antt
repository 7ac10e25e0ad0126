-- What is kept is built of what is kept of lesser signatures, as choices say.
use Rattle.std.proofs.Common.{◌≡◌, ◌∙◌, ℕ, ◌+◌, ◌-◌, ◌*◌, ◌/◌, ◌%◌, ◌^◌, ◌<◌, ◌≤◌, Bool, false, true, nat_lt, List, [], ◌∷◌, ◌++◌, length, refl, sym, ap, subst, subst₂, arith, bit_and, bit_xor}
use Rattle.std.specs.Prelude.{IsSome, Option, Some, None, option_and_then, option_map, slice_get, unwrap_or}
use Rattle.std.proofs.lemmas.Bool.{ltb-false, ltb-true}
use Rattle.std.proofs.lemmas.List.{length-append}
use Rattle.std.proofs.lemmas.Nat.{div-add-mod', mod_below, pow_pos, same_from_place}
use Rattle.std.proofs.lemmas.Option.{none-some, same_Some, slice_get_past, slice_get_within}
use Rattle.rs_rank.specs.Masks.{mask_of}
use Rattle.rs_catalog.specs.Catalog.{CatalogDef}
use Rattle.rs_query.specs.WellFormed.{IsBlock}
use Rattle.rs_query.specs.declared.query.Query.{Query}
use Rattle.rs_query.specs.declared.term.Term.{Term}
use Rattle.rs_query.specs.Blocks.{block_in}
use Rattle.rs_sample.specs.Cards.{BlockCards}
use Rattle.rs_plan.specs.Trees.{Distinct, Hash, JoinKind, JoinOperator, Nested, PlanTree, Rank, RankScan, SeqScan, SetOperator, entries, terms}
use Rattle.rs_enum.specs.declared.candidate.Candidate.{Candidate}
use Rattle.rs_enum.specs.declared.candidate.Choice.{Choice}
use Rattle.rs_enum.specs.declared.candidate.Choice.TheVariants as choice
use Rattle.rs_enum.specs.Made.{AreBuilt, AreSidesBuilt, IsBuilt, IsBuiltOf, kept_plans, made_of, next_plan}
use Rattle.rs_enum.specs.Places.{CanBeMade, IsTheFirst, Placed, candidate_at, choice_of, kept_at, tree_at}
use Rattle.rs_enum.specs.Tops.{IsMadeTop, distinct_base, plan_of}
use Rattle.rs_enum.specs.Within.{terms_within}
use Rattle.rs_enum.proofs.BitFacts.{left-of-union, left-without, number-apart, union-sum}
use Rattle.rs_enum.proofs.CostFacts.{numbered}
use Rattle.rs_enum.proofs.MadeFacts.{chosen-made, kept-length, kept-missing, kept-more}
use Rattle.rs_enum.proofs.PlaceFacts.{front-item, last-item}
use Rattle.rs_enum.proofs.WithinFacts.{left-terms, right-terms, some-entry}

-- nothing is built of nothing
pub built-none : (terms : List Term) → AreBuilt terms []
built-none terms = λ first second found small is. absurd (none-some found is)

-- what is kept stays where one place more is kept
stays : (count : ℕ) (places : List (Option Placed)) (x : Option Placed) (first second : ℕ) (tree : PlanTree) → tree_at count places first second ≡ Some tree
    → tree_at count (places ++ x ∷ []) first second ≡ Some tree
stays count places x first second tree is = go (slice_get places (first * 2 ^ count + second)) refl where
  go : (o : Option (Option Placed)) → slice_get places (first * 2 ^ count + second) ≡ o → tree_at count (places ++ x ∷ []) first second ≡ Some tree
  go (Some k) there =
      ap (λ o. option_map (λ (k : Placed). k.plan) (option_and_then (λ (m : Option Placed). m) o))
      (front-item places x (first * 2 ^ count + second) (slice_get_within places (first * 2 ^ count + second) k there)) ∙ is
  go None there =
      absurd (none-some tree (sym (ap (λ o. option_map (λ (k : Placed). k.plan) (option_and_then (λ (m : Option Placed). m) o)) there) ∙ is))

module _ (terms : List Term) (places : List (Option Placed)) (x : Option Placed) (first second : ℕ) where
  sides-stay : (left : ℕ) (l r : PlanTree) → AreSidesBuilt terms places first second left l r → AreSidesBuilt terms (places ++ x ∷ []) first second left l r
  sides-stay left l r are = record {
    left_there = stays (length terms) places x left (bit_and second (terms_within left terms)) l are.left_there;
    right_there = stays (length terms) places x (bit_xor first left) (bit_and second (terms_within (bit_xor first left) terms)) r are.right_there;
    left_less = are.left_less;
    right_less = are.right_less;
  }

  built-stays : (chosen : Choice) (plan : PlanTree) → IsBuiltOf terms places first second chosen plan → IsBuiltOf terms (places ++ x ∷ []) first second chosen plan
  built-stays (choice.SeqScan e) plan is = is
  built-stays (choice.RankScan e t i) plan is = is
  built-stays (choice.Rank t) plan is = (
    is.0,
    is.1,
    record {
      there = stays (length terms) places x first (bit_xor second (mask_of t)) is.0 is.2.there;
      less = is.2.less;
      some = is.2.some;
      most = is.2.most;
    },
  )
  built-stays (choice.HashJoin left) plan is = (is.0, is.1, is.2, sides-stay left is.0 is.1 is.3)
  built-stays (choice.NestedJoin left) plan is = (is.0, is.1, is.2, sides-stay left is.0 is.1 is.3)
  built-stays choice.Base plan is = (is.0, is.1, stays (length terms) places x (first - 1) second is.0 is.2, is.3)

-- one place more
module _ (terms : List Term) (candidates : List (Option Candidate)) (found : Option Candidate) (first second : ℕ)
    (small : second < 2 ^ length terms) (here : length candidates ≡ first * 2 ^ length terms + second) (are : AreBuilt terms candidates)
    (new : (f : Candidate) → found ≡ Some f
    → IsBuiltOf terms (kept_plans terms candidates) first second f.choice (made_of terms (kept_plans terms candidates) first second f.choice)) where
  built-before : (s p : ℕ) (f : Candidate) → IsBuilt terms (kept_plans terms candidates) s p f.choice
      → IsBuilt terms (kept_plans terms (candidates ++ found ∷ [])) s p f.choice
  built-before s p f is =
      subst (λ xs. IsBuilt terms xs s p f.choice) (sym (kept-more terms candidates found)) (record {
        plan = is.plan;
        is = stays (length terms) (kept_plans terms candidates) (next_plan terms (kept_plans terms candidates) found) s p is.plan is.is;
        built = built-stays terms (kept_plans terms candidates) (next_plan terms (kept_plans terms candidates) found) s p f.choice is.plan is.built;
      })

  built-here : (s p : ℕ) (f : Candidate) → s ≡ first → p ≡ second → found ≡ Some f → IsBuilt terms (kept_plans terms (candidates ++ found ∷ [])) s p f.choice
  built-here s p f row column is =
      let kept : List (Option Placed) = kept_plans terms candidates in
      let counted : length kept ≡ first * 2 ^ length terms + second = kept-length terms candidates ∙ here in
      let some : 0 < 2 ^ length terms = pow_pos (length terms) in
      let place = same_from_place (length kept / 2 ^ length terms) (length kept % 2 ^ length terms) first second (2 ^ length terms)
      (mod_below (length kept) (2 ^ length terms) some) small (div-add-mod' (length kept) (2 ^ length terms) ∙ counted) in
      let at : tree_at (length terms) (kept ++ next_plan terms kept found ∷ []) first second ≡ Some (made_of terms kept first second f.choice) =
      ap (λ n. plan_of (option_and_then (λ (m : Option Placed). m) (slice_get (kept ++ next_plan terms kept found ∷ []) n))) (sym counted)
      ∙ ap (λ o. plan_of (option_and_then (λ (m : Option Placed). m) o)) (last-item kept (next_plan terms kept found))
      ∙ ap (λ o. plan_of (next_plan terms kept o)) is
      ∙ (λ i. Some (made_of terms kept (place.0 i) (place.1 i) f.choice)) in
      subst (λ xs. IsBuilt terms xs s p f.choice) (sym (kept-more terms candidates found))
      (subst₂ (λ a b. IsBuilt terms (kept ++ next_plan terms kept found ∷ []) a b f.choice) (sym row) (sym column) (record {
        plan = made_of terms kept first second f.choice;
        is = at;
        built = built-stays terms kept (next_plan terms kept found) first second f.choice (made_of terms kept first second f.choice) (new f is);
      }))

  pub built-more : AreBuilt terms (candidates ++ found ∷ [])
  built-more = λ s p f below is.
      which s p f below is (nat_lt (s * 2 ^ length terms + p) (length candidates)) (nat_lt (length candidates) (s * 2 ^ length terms + p)) refl refl
    where
      which : (s p : ℕ) (f : Candidate) → p < 2 ^ length terms → candidate_at (length terms) (candidates ++ found ∷ []) s p ≡ Some f → (less more : Bool)
          → nat_lt (s * 2 ^ length terms + p) (length candidates) ≡ less → nat_lt (length candidates) (s * 2 ^ length terms + p) ≡ more
          → IsBuilt terms (kept_plans terms (candidates ++ found ∷ [])) s p f.choice
      which s p f below is true more less_is more_is =
          let front = front-item candidates found (s * 2 ^ length terms + p) (ltb-true (s * 2 ^ length terms + p) (length candidates) less_is) in
          built-before s p f (are s p f below (ap (λ o. option_and_then (λ (c : Option Candidate). c) o) (sym front) ∙ is))
      which s p f below is false true less_is more_is =
          let greater = ltb-true (length candidates) (s * 2 ^ length terms + p) more_is in
          let all = length-append candidates (found ∷ []) in
          let past = slice_get_past (candidates ++ found ∷ []) (s * 2 ^ length terms + p) (omega arith) in
          absurd (none-some f (sym (ap (λ o. option_and_then (λ (c : Option Candidate). c) o) past) ∙ is))
      which s p f below is false false less_is more_is =
          let first_le = ltb-false (s * 2 ^ length terms + p) (length candidates) less_is in
          let second_le = ltb-false (length candidates) (s * 2 ^ length terms + p) more_is in
          let same : s * 2 ^ length terms + p ≡ length candidates = omega arith in
          let place = same_from_place s p first second (2 ^ length terms) below small (same ∙ here) in
          let last : candidate_at (length terms) (candidates ++ found ∷ []) s p ≡ found =
          ap (λ i. option_and_then (λ (c : Option Candidate). c) (slice_get (candidates ++ found ∷ []) i)) same
          ∙ ap (λ o. option_and_then (λ (c : Option Candidate). c) o) (last-item candidates found) in
          built-here s p f place.0 place.1 (sym last ∙ is)

module _ (catalogue : CatalogDef) (query : Query) (formed : IsBlock catalogue (block_in query 1)) (places : List (Option Placed)) (first second : ℕ) where
  sides-there : (kind : JoinKind) (l r : PlanTree) → CanBeMade catalogue query places first second (JoinOperator kind l r)
      → AreSidesBuilt (block_in query 1).terms places first second (entries l) l r
  sides-there kind l r x =
      let right : entries r ≡ bit_xor first (entries l) =
      sym (left-of-union (entries l) (entries r) x.part.2.apart) ∙ (λ i. bit_xor (x.its_entries i) (entries l)) in
      let left_terms : terms l ≡ bit_and second (terms_within (entries l) (block_in query 1).terms) =
      sym (left-terms catalogue (block_in query 1) formed l r x.part.0 x.part.1 x.part.2.apart)
      ∙ (λ i. bit_and (x.its_terms i) (terms_within (entries l) (block_in query 1).terms)) in
      let right_terms : terms r ≡ bit_and second (terms_within (bit_xor first (entries l)) (block_in query 1).terms) =
      sym (right-terms catalogue (block_in query 1) formed l r x.part.0 x.part.1 x.part.2.apart)
      ∙ (λ i. bit_and (x.its_terms i) (terms_within (right i) (block_in query 1).terms)) in
      let sum = union-sum (entries l) (entries r) x.part.2.apart in
      let all = x.its_entries in
      let some_left = some-entry catalogue (block_in query 1) l x.part.0 in
      let some_right = some-entry catalogue (block_in query 1) r x.part.1 in
      let right_small : entries r < first = omega arith in
      record {
        left_there = (λ i. tree_at (length (block_in query 1).terms) places (entries l) (sym left_terms i)) ∙ x.made.0;
        right_there = (λ i. tree_at (length (block_in query 1).terms) places (sym right i) (sym right_terms i)) ∙ x.made.1;
        left_less = omega arith;
        right_less = subst (λ n. n < first) right right_small;
      }

  -- a plan that can be made is built by its choice
  pub built-by : (plan : PlanTree) → CanBeMade catalogue query places first second plan → (chosen : Choice) → choice_of plan ≡ Some chosen
      → IsBuiltOf (block_in query 1).terms places first second chosen plan
  built-by (SeqScan e) x chosen is =
      subst (λ c. IsBuiltOf (block_in query 1).terms places first second c (SeqScan e)) (same_Some (choice.SeqScan e) chosen is) refl
  built-by (RankScan e t i) x chosen is =
      subst (λ c. IsBuiltOf (block_in query 1).terms places first second c (RankScan e t i)) (same_Some (choice.RankScan e t i) chosen is) refl
  built-by (Rank t child) x chosen is =
      let below : terms child ≡ bit_xor second (mask_of t) =
      sym (left-without (terms child) (mask_of t) (number-apart (terms child) t x.part.1.absent)) ∙ ap (λ m. bit_xor m (mask_of t)) x.its_terms in
      let less : terms child < second =
      (let sum = union-sum (terms child) (mask_of t) (number-apart (terms child) t x.part.1.absent) in
      let some : 0 < mask_of t = pow_pos (t - 1) in
      let all = x.its_terms in
      omega arith) in
      let number = numbered (block_in query 1) t x.part.1.term x.part.1.is_term in
      let few : length (block_in query 1).terms ≤ 8 = formed.most_terms in
      let some = number.some in
      let most = number.most in
      subst (λ c. IsBuiltOf (block_in query 1).terms places first second c (Rank t child)) (same_Some (choice.Rank t) chosen is) (
        child,
        refl,
        record {
          there = (λ i. tree_at (length (block_in query 1).terms) places (sym x.its_entries i) (sym below i)) ∙ x.made;
          less = subst (λ n. n < second) below less;
          some = some;
          most = omega arith;
        },
      )
  built-by (JoinOperator Hash l r) x chosen is =
      subst (λ c. IsBuiltOf (block_in query 1).terms places first second c (JoinOperator Hash l r)) (same_Some (choice.HashJoin (entries l)) chosen is)
      (l, r, refl, sides-there Hash l r x)
  built-by (JoinOperator Nested l r) x chosen is =
      subst (λ c. IsBuiltOf (block_in query 1).terms places first second c (JoinOperator Nested l r)) (same_Some (choice.NestedJoin (entries l)) chosen is)
      (l, r, refl, sides-there Nested l r x)
  built-by (Distinct child) x chosen is = absurd x.made
  built-by (SetOperator l r) x chosen is = absurd x.made

  -- so is what was found for a signature
  pub built-first : (cards : List BlockCards) (bound : ℕ) (found : Option Candidate) → IsTheFirst catalogue query cards places first second bound found
      → (f : Candidate) → found ≡ Some f
      → IsBuiltOf (block_in query 1).terms places first second f.choice (made_of (block_in query 1).terms places first second f.choice)
  built-first cards bound None is f none = absurd (none-some f none)
  built-first cards bound (Some g) is f same =
      let own : g ≡ f = same_Some g f same in
      subst (λ (c : Candidate). IsBuiltOf (block_in query 1).terms places first second c.choice (made_of (block_in query 1).terms places first second c.choice)) own
      (subst (IsBuiltOf (block_in query 1).terms places first second g.choice)
      (sym (chosen-made catalogue query formed places first second is.tree is.stands.made g.choice is.stands.chosen))
      (built-by is.tree is.stands.made g.choice is.stands.chosen))

-- what is found above a plan that drops duplicates is built of its row, and of the row of all entries
pub record IsRowBuilt (terms : List Term) (places : List (Option Placed)) (first second : ℕ) (chosen : Choice) (tree : PlanTree) : Type 0 where
  pub made : made_of terms places first second chosen ≡ tree
  pub built : IsBuiltOf terms places first second chosen tree

pub row-built : (query : Query) (cards : List BlockCards) (number : ℕ) (terms : List Term) (places : List (Option Placed)) (first second : ℕ) → 1 ≤ first
    → (chosen : Choice) (tree : PlanTree)
    → IsMadeTop (distinct_base query cards number second (kept_at (length terms) places (first - 1) second)) (kept_at (length terms) places first) second chosen tree
    → IsRowBuilt terms places first second chosen tree
row-built query cards number terms places first second some (choice.Rank t) tree made = record {
  made = ap (λ o. Rank t (unwrap_or o (SeqScan 1))) made.2.there ∙ sym made.1;
  built = made;
}
row-built query cards number terms places first second some choice.Base tree made = go (kept_at (length terms) places (first - 1) second) refl made where
  go : (o : Option Placed) → kept_at (length terms) places (first - 1) second ≡ o → plan_of (distinct_base query cards number second o) ≡ Some tree
      → IsRowBuilt terms places first second choice.Base tree
  go None at is = absurd (none-some tree is)
  go (Some k) at is =
      let same : Distinct k.plan ≡ tree = same_Some (Distinct k.plan) tree is in
      record {
        made = ap (λ o. Distinct (unwrap_or (plan_of o) (SeqScan 1))) at ∙ same;
        built = (k.plan, sym same, ap plan_of at, some);
      }
row-built query cards number terms places first second some (choice.SeqScan e) tree made = absurd made
row-built query cards number terms places first second some (choice.RankScan e t i) tree made = absurd made
row-built query cards number terms places first second some (choice.HashJoin left) tree made = absurd made
row-built query cards number terms places first second some (choice.NestedJoin left) tree made = absurd made

-- where a plan is kept, there is a choice
pub found-there : (terms : List Term) (candidates : List (Option Candidate)) (first second : ℕ) (tree : PlanTree)
    → tree_at (length terms) (kept_plans terms candidates) first second ≡ Some tree → IsSome (candidate_at (length terms) candidates first second)
found-there terms candidates first second tree is = go (candidate_at (length terms) candidates first second) refl where
  go : (o : Option Candidate) → candidate_at (length terms) candidates first second ≡ o → IsSome o
  go (Some f) there = refl
  go None there = absurd (none-some tree (sym (ap (option_map (λ (k : Placed). k.plan)) (kept-missing terms candidates first second there)) ∙ is))

pub found-kept : (terms : List Term) (candidates : List (Option Candidate)) (first second : ℕ)
    → IsSome (kept_at (length terms) (kept_plans terms candidates) first second) → IsSome (candidate_at (length terms) candidates first second)
found-kept terms candidates first second is = go (kept_at (length terms) (kept_plans terms candidates) first second) refl is where
  go : (o : Option Placed) → kept_at (length terms) (kept_plans terms candidates) first second ≡ o → IsSome o → IsSome (candidate_at (length terms) candidates first second)
  go (Some k) at some = found-there terms candidates first second k.plan (ap (option_map (λ (k : Placed). k.plan)) at)
  go None at some = absurd (let no : false ≡ true = some in cc)

-- what is built where this choice was found
pub built-at : (terms : List Term) (candidates : List (Option Candidate)) → AreBuilt terms candidates → (count first second : ℕ) (o : Option Candidate) (found : Candidate) (chosen : Choice)
    → second < 2 ^ length terms → count ≡ length terms → o ≡ candidate_at count candidates first second → o ≡ Some found → found.choice ≡ chosen
    → IsBuilt terms (kept_plans terms candidates) first second chosen
built-at terms candidates are count first second o found chosen small counted is there same =
    subst (IsBuilt terms (kept_plans terms candidates) first second) same
    (are first second found small (sym (is ∙ ap (λ n. candidate_at n candidates first second) counted) ∙ there))
