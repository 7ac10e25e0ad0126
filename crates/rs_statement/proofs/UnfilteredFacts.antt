-- Each query that is bound has few terms, and its least plan is a plan of it: without its conditions it is well formed, and its plans need none of them.
use Rattle.std.proofs.Common.{ℕ, ◌≡◌, ◌∙◌, List, [], ◌∷◌, refl, sym, ap, subst}
use Rattle.std.specs.Prelude.{Option, Some, None, option_map, Result, Ok, Err, if◌then◌else◌}
use Rattle.rs_value.specs.Results.{◌>>=◌}
use Rattle.rs_value.specs.declared.set_op.SetOp.{SetOp}
use Rattle.rs_syntax.specs.Syntax as syntax
use Rattle.rs_syntax.specs.Written.{IsWrittenQuery}
use Rattle.rs_catalog.specs.Catalog.{CatalogDef}
use Rattle.rs_query.specs.Conjuncts.{ConjunctDef}
use Rattle.rs_query.specs.WellFormed.{AreSameTerms, IsQuery}
use Rattle.rs_query.specs.declared.block.Block.{Block}
use Rattle.rs_query.specs.declared.query.Query.{Query}
use Rattle.rs_query.specs.declared.query.Query.TheVariants.{One, Set}
use Rattle.rs_query.specs.declared.term.Term.{Term}
use Rattle.rs_typing.specs.declared.fault.BindFault.{BindFault}
use Rattle.rs_typing.specs.declared.fault.BindFault.TheVariants.{At}
use Rattle.rs_typing.specs.declared.fault.Why.TheVariants.{SetColumnsDiffer}
use Rattle.rs_bind.specs.Conditions.{filter_of}
use Rattle.rs_bind.specs.Narrow.{HaveNarrowConjuncts}
use Rattle.rs_bind.specs.Queries.{Unranked, agree, block_columns, bound_limit, bound_query, typed_query, first_item, needed_by, one_of, output_columns, output_names, set_of, terms_of, unranked_of, with_terms}
use Rattle.rs_bind.specs.Sources.{Found, entries_of, items_of, sources_of}
use Rattle.rs_bind.proofs.FormedFacts.{bound-formed}
use Rattle.rs_typing.proofs.ResultFacts.{same_Ok, well}
use Rattle.rs_typing.proofs.StepFacts.{Ok-steps}
use Rattle.rs_query.specs.Tops.{with_tops}
use Rattle.rs_plan.specs.Plans.{IsComplete, IsPart, IsPlan, IsRank, IsSetPlan}
use Rattle.rs_plan.specs.Trees.{Distinct, Hash, JoinOperator, Nested, Rank, RankScan, SeqScan, SetOperator, PlanTree}
use Rattle.rs_sample.specs.Cards.{BlockCards}
use Rattle.rs_enum.specs.Least.{least_plan}
use Rattle.rs_enum.proofs.LeastFacts.{plan-found}
use Rattle.rs_exec.specs.Cursors.{HasFewTerms}

-- a block without its conditions
abbrev bare : Block → Block
bare block = record block { conjuncts = [] }

abbrev pub unfiltered : Query → Query
unfiltered (One block limit) = One (bare block) limit
unfiltered (Set op left right limit) = Set op (bare left) (bare right) limit

-- the same of what is written: blocks without WHERE
abbrev without_where : syntax.Block → syntax.Block
without_where block = record block { filter = None }

abbrev other_without_where : SetOp × syntax.Block → SetOp × syntax.Block
other_without_where second = (second.0, without_where second.1)

abbrev without_filters : syntax.Query → syntax.Query
without_filters query = record query { left = without_where query.left; right = option_map other_without_where query.right }

-- where two steps one after another are well, so are two others, if the first makes h of what that first one made, and the second k
then-alike : {A B C D : Type 0} (a : Result A BindFault) (b : Result B BindFault) (f : A → Result C BindFault) (g : B → Result D BindFault) (h : A → B) (k : C → D)
    → ((x : A) → a ≡ Ok x → b ≡ Ok (h x)) → ((x : A) (t : C) → f x ≡ Ok t → g (h x) ≡ Ok (k t)) → (t : C) → (a >>= f) ≡ Ok t → (b >>= g) ≡ Ok (k t)
then-alike (Ok x) b f g h k first next t is = subst (λ r. (r >>= g) ≡ Ok (k t)) (sym (first x refl)) (next x t is)
then-alike (Err fault) b f g h k first next t is = absurd cc

-- the same where the first step is the same, and of what is made at the end
next-alike : {A C D : Type 0} (a : Result A BindFault) (f : A → Result C BindFault) (g : A → Result D BindFault) (k : C → D)
    → ((x : A) (t : C) → f x ≡ Ok t → g x ≡ Ok (k t)) → (t : C) → (a >>= f) ≡ Ok t → (a >>= g) ≡ Ok (k t)
next-alike a f g k next = then-alike a a f g (λ x. x) k (λ x is. is) next

well-alike : {C D : Type 0} (k : C → D) (made t : C) → well made ≡ Ok t → well (k made) ≡ Ok (k t)
well-alike k made t is = ap (λ x. well (k x)) (same_Ok made t is)

abbrev bare_unranked : Unranked → Unranked
bare_unranked block = record block { conjuncts = [] }

module _ (catalogue : CatalogDef) where
  unranked-alike : (written : syntax.Block) (block : Unranked) → unranked_of catalogue written ≡ Ok block → unranked_of catalogue (without_where written) ≡ Ok (bare_unranked block)
  unranked-alike written block is =
      let of_items = λ (from : List (ℕ × List ℕ)) (conjuncts : List ConjunctDef) (items : List Found).
      well {A = Unranked} (record { from = from; conjuncts = conjuncts; items = items; distinct = written.distinct }) in
      let after_conjuncts = λ (from : List (ℕ × List ℕ)) (conjuncts : List ConjunctDef). items_of (sources_of catalogue from) written.items >>= of_items from conjuncts in
      next-alike (entries_of catalogue written.from) (λ from. filter_of (sources_of catalogue from) written.filter >>= after_conjuncts from) (λ from. after_conjuncts from []) bare_unranked
      (λ from. then-alike (filter_of (sources_of catalogue from) written.filter) (filter_of (sources_of catalogue from) None) (after_conjuncts from) (after_conjuncts from) (λ conjuncts. [])
      bare_unranked (λ conjuncts is. refl)
      (λ conjuncts. next-alike (items_of (sources_of catalogue from) written.items) (of_items from conjuncts) (of_items from []) bare_unranked
      (λ items. well-alike bare_unranked (record { from = from; conjuncts = conjuncts; items = items; distinct = written.distinct }))))
      block is

  one-alike : (query : syntax.Query) (bound : Query) → one_of catalogue query ≡ Ok bound → one_of catalogue (without_filters query) ≡ Ok (unfiltered bound)
  one-alike query bound is =
      let made = λ (block : Unranked) (terms : List Term) (limit : Option ℕ). One (with_terms block terms) limit in
      let after_terms = λ (block : Unranked) (terms : List Term). bound_limit query.limit >>= λ limit. well (made block terms limit) in
      let terms_in = λ (block : Unranked). terms_of catalogue (block_columns (sources_of catalogue block.from)) (needed_by block) query.terms in
      let after_block = λ (block : Unranked). terms_in block >>= after_terms block in
      then-alike (unranked_of catalogue query.left) (unranked_of catalogue (without_where query.left)) after_block after_block bare_unranked unfiltered (unranked-alike query.left)
      (λ block. next-alike (terms_in block) (after_terms block) (after_terms (bare_unranked block)) unfiltered
      (λ terms. next-alike (bound_limit query.limit) (λ limit. well (made block terms limit)) (λ limit. well (made (bare_unranked block) terms limit)) unfiltered
      (λ limit. well-alike unfiltered (made block terms limit))))
      bound is

  set-alike : (query : syntax.Query) (op : SetOp) (second : syntax.Block) (bound : Query) → set_of catalogue query op second ≡ Ok bound
      → set_of catalogue (without_filters query) op (without_where second) ≡ Ok (unfiltered bound)
  set-alike query op second bound is =
      let made = λ (left right : Unranked) (terms others : List Term) (limit : Option ℕ). Set op (with_terms left terms) (with_terms right others) limit in
      let terms_in = λ (left of : Unranked). terms_of catalogue (output_columns (output_names catalogue left) of.items) None query.terms in
      let after_others = λ (left right : Unranked) (terms others : List Term). bound_limit query.limit >>= λ limit. well (made left right terms others limit) in
      let after_terms = λ (left right : Unranked) (terms : List Term). terms_in left right >>= after_others left right terms in
      let agreed = λ (left right : Unranked). if agree left.items right.items then terms_in left left else Err (At SetColumnsDiffer (first_item second.items)) in
      let after_right = λ (left right : Unranked). agreed left right >>= after_terms left right in
      let after_left = λ (left : Unranked). unranked_of catalogue second >>= after_right left in
      let after_left_alone = λ (left : Unranked). unranked_of catalogue (without_where second) >>= after_right left in
      then-alike (unranked_of catalogue query.left) (unranked_of catalogue (without_where query.left)) after_left after_left_alone bare_unranked unfiltered (unranked-alike query.left)
      (λ left. then-alike (unranked_of catalogue second) (unranked_of catalogue (without_where second)) (after_right left) (after_right (bare_unranked left)) bare_unranked unfiltered
      (unranked-alike second)
      (λ right. next-alike (agreed left right) (after_terms left right) (after_terms (bare_unranked left) (bare_unranked right)) unfiltered
      (λ terms. next-alike (terms_in left right) (after_others left right terms) (after_others (bare_unranked left) (bare_unranked right) terms) unfiltered
      (λ others. next-alike (bound_limit query.limit) (λ limit. well (made left right terms others limit)) (λ limit. well (made (bare_unranked left) (bare_unranked right) terms others limit))
      unfiltered (λ limit. well-alike unfiltered (made left right terms others limit))))))
      bound is

  -- a query that is typed is typed without WHERE too, as the same without conditions
  typed-alike : (query : syntax.Query) (typed : Query) → typed_query catalogue query ≡ Ok typed → typed_query catalogue (without_filters query) ≡ Ok (unfiltered typed)
  typed-alike query typed is = go query.right is where
    go : (right : Option (SetOp × syntax.Block)) → typed_query catalogue (record query { right = right }) ≡ Ok typed
        → typed_query catalogue (without_filters (record query { right = right })) ≡ Ok (unfiltered typed)
    go None is = one-alike (record query { right = None }) typed is
    go (Some right) is = set-alike (record query { right = Some right }) right.0 right.1 typed is

  -- its tops are the same
  bare-tops : (typed : Query) → with_tops catalogue (unfiltered typed) ≡ unfiltered (with_tops catalogue typed)
  bare-tops (One block limit) = refl
  bare-tops (Set op left right limit) = refl

  -- so it is bound without WHERE too
  bound-alike : (query : syntax.Query) (bound : Query) → bound_query catalogue query ≡ Ok bound → bound_query catalogue (without_filters query) ≡ Ok (unfiltered bound)
  bound-alike query bound is =
      let step = Ok-steps (typed_query catalogue query) (λ typed. well (with_tops catalogue typed)) bound is in
      ap (λ r. r >>= λ typed. well (with_tops catalogue typed)) (typed-alike query step.0 step.1)
      ∙ ap (λ q. well q) (bare-tops step.0 ∙ ap unfiltered (same_Ok (with_tops catalogue step.0) bound step.2))

  narrow : (bound : Query) → HaveNarrowConjuncts (unfiltered bound)
  narrow (One block limit) = tt
  narrow (Set op left right limit) = (tt, tt)

  written-alike : (query : syntax.Query) → IsWrittenQuery query → IsWrittenQuery (without_filters query)
  written-alike query written = go query.right written where
    go : (right : Option (SetOp × syntax.Block)) → IsWrittenQuery (record query { right = right }) → IsWrittenQuery (without_filters (record query { right = right }))
    go None written = record { left = record { some = written.left.some; filter = tt }; right = tt; terms = written.terms }
    go (Some right) written = record {
      left = record { some = written.left.some; filter = tt };
      right = record { some = written.right.some; filter = tt };
      terms = written.terms;
    }

  -- so without its conditions it is well formed
  pub unfiltered-formed : (query : syntax.Query) (bound : Query) → IsWrittenQuery query → bound_query catalogue query ≡ Ok bound → IsQuery catalogue (unfiltered bound)
  unfiltered-formed query bound written is = bound-formed catalogue (without_filters query) (unfiltered bound) (written-alike query written) (narrow bound) (bound-alike query bound is)

  -- plans without conditions are plans with them: no node needs a condition but a hash join
  bare-rank : (block : Block) (term : ℕ) (child : PlanTree) → IsRank (bare block) term child → IsRank block term child
  bare-rank block term child rank = record { term = rank.term; is_term = record { some = rank.is_term.some; there = rank.is_term.there }; absent = rank.absent; there = rank.there }

  bare-part : (block : Block) (tree : PlanTree) → IsPart catalogue (bare block) tree → IsPart catalogue block tree
  bare-part block (SeqScan entry) part = record { some = part.some; most = part.most }
  bare-part block (RankScan entry term index) part = record {
    is_entry = record { some = part.is_entry.some; most = part.is_entry.most };
    term = part.term;
    is_term = record { some = part.is_term.some; there = part.is_term.there };
    alone = part.alone;
    table = part.table;
    alias = part.alias;
    from = part.from;
    first = part.first;
  }
  bare-part block (Rank term child) part = (bare-part block child part.0, bare-rank block term child part.1)
  bare-part block (JoinOperator Hash left right) part = absurd (let none = part.3.there in cc)
  bare-part block (JoinOperator Nested left right) part = (bare-part block left part.0, bare-part block right part.1, part.2, tt)
  bare-part block (Distinct child) part = (bare-part block child part.0, record { wanted = part.1.wanted; all = part.1.all; first = part.1.first })
  bare-part block (SetOperator left right) part = absurd part

  bare-complete : (block : Block) (tree : PlanTree) → IsComplete catalogue (bare block) tree → IsComplete catalogue block tree
  bare-complete block tree complete = record { part = bare-part block tree complete.part; all = complete.all; drops = complete.drops }

  bare-set : (left right : Block) (tree : PlanTree) → IsSetPlan catalogue (bare left) (bare right) tree → IsSetPlan catalogue left right tree
  bare-set left right (SetOperator l r) plan = (bare-complete left l plan.0, bare-complete right r plan.1, plan.2)
  bare-set left right (Rank term child) plan = (bare-set left right child plan.0, bare-rank left term child plan.1)
  bare-set left right (SeqScan entry) plan = absurd plan
  bare-set left right (RankScan entry term index) plan = absurd plan
  bare-set left right (JoinOperator kind l r) plan = absurd plan
  bare-set left right (Distinct child) plan = absurd plan

  unfiltered-plan : (bound : Query) (tree : PlanTree) → IsPlan catalogue (unfiltered bound) tree → IsPlan catalogue bound tree
  unfiltered-plan (One block limit) tree plan = (bare-complete block tree plan.0, plan.1)
  unfiltered-plan (Set op left right limit) tree plan = (bare-set left right tree plan.0, plan.1)

  -- so its least plan is a plan of it, by any cards
  pub least-plan : (bound : Query) (cards : List BlockCards) → IsQuery catalogue (unfiltered bound) → IsPlan catalogue bound (least_plan catalogue bound cards)
  least-plan bound cards formed = plan-found catalogue bound (unfiltered bound) cards formed (unfiltered-plan bound)

  bare-same : (left right : Block) (terms others : List Term) → AreSameTerms (bare left) (bare right) terms others → AreSameTerms left right terms others
  bare-same left right [] [] same = tt
  bare-same left right [] (other ∷ others) same = absurd same
  bare-same left right (term ∷ terms) [] same = absurd same
  bare-same left right (term ∷ terms) (other ∷ others) same =
      (record { weight = same.0.weight; predicate = same.0.predicate; max = same.0.max; args = same.0.args }, bare-same left right terms others same.1)

  pub few-terms : (bound : Query) → IsQuery catalogue (unfiltered bound) → HasFewTerms bound
  few-terms (One block limit) formed = formed.0.most_terms
  few-terms (Set op left right limit) formed =
      (formed.0.left_block.most_terms, formed.0.right_block.most_terms, bare-same left right left.terms right.terms formed.0.terms)
