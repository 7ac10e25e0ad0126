-- What binding gives is well formed.
use Rattle.std.proofs.Common.{ℕ, ◌≡◌, ◌≤◌, true, ◌||◌, List, [], ◌∷◌, length, refl, sym, subst, ap, ◌∙◌, arith, inl, inr}
use Rattle.std.specs.Prelude.{map, Option, Some, None, IfOk, IfSome, Result, Ok, Err, if◌then◌else◌}
use Rattle.std.specs.List.{AllByRecursion, list_any}
use Rattle.std.proofs.lemmas.List.{length-map}
use Rattle.rs_value.specs.Answer.{Gives}
use Rattle.rs_value.specs.declared.set_op.SetOp.{SetOp}
use Rattle.rs_syntax.specs.Syntax as syntax
use Rattle.rs_value.specs.Results.{◌>>=◌}
use Rattle.rs_catalog.specs.Catalog.{CatalogDef}
use Rattle.rs_query.specs.Conjuncts.{ConjunctDef}
use Rattle.rs_query.specs.Tops.{with_tops}
use Rattle.rs_query.proofs.BoundedFacts.{formed-tops}
use Rattle.rs_query.specs.WellFormed.{AreSetSides, HasOutputs, IsBlock, IsColumn, IsOutput, IsQuery, IsTerm, argument_columns, same_column}
use Rattle.rs_query.specs.declared.term.Term.{Term}
use Rattle.rs_query.specs.declared.query.Query.{Query}
use Rattle.rs_query.specs.declared.query.Query.TheVariants.{One, Set}
use Rattle.rs_typing.specs.declared.fault.BindFault.{BindFault}
use Rattle.rs_typing.specs.declared.fault.BindFault.TheVariants.{At, Memory}
use Rattle.rs_typing.specs.declared.fault.Why.TheVariants.{SetColumnsDiffer}
use Rattle.rs_bind.specs.Conditions.{filter_of}
use Rattle.rs_bind.specs.Narrow.{HasNarrowConjuncts, HaveNarrowConjuncts}
use Rattle.rs_bind.specs.Queries.{Unranked, agree, are_outputs, block_columns, bound_query, typed_query, first_item, bound_limit, output_names, needed_by, one_of, output_columns, set_of, terms_of, unranked_of, with_terms}
use Rattle.rs_bind.specs.Sources.{Found, entries_of, items_of, sources_of}
use Rattle.rs_syntax.specs.Written.{IsWrittenBlock, IsWrittenQuery, IsWrittenTerm}
use Rattle.rs_typing.proofs.EachFacts.{each-all, each-map, each-then}
use Rattle.rs_typing.proofs.ResultFacts.{same_Ok, well}
use Rattle.rs_typing.proofs.StepFacts.{Ok-steps, Ok-test}
use Rattle.rs_bind.proofs.ColumnFacts.{AreEntries, AreItems, IsColumn-found, IsFound, entries_of-formed, items_of-found}
use Rattle.rs_bind.proofs.ConjunctFacts.{AreConjuncts, filter_of-formed}
use Rattle.rs_bind.proofs.SameTermFacts.{AreArguments-output, same-kinds, terms_of-same}
use Rattle.rs_bind.proofs.TermFacts.{AreArguments-block, AreNeeded, IsLimit-limit_of, terms_of-formed}

-- what the parts of a block are, without its terms
pub record HasParts (catalogue : CatalogDef) (written : syntax.Block) (block : Unranked) : Type 0 where
  pub from : entries_of catalogue written.from ≡ Ok block.from
  pub conjuncts : filter_of (sources_of catalogue block.from) written.filter ≡ Ok block.conjuncts
  pub items : items_of (sources_of catalogue block.from) written.items ≡ Ok block.items

pub HasParts-unranked_of : (catalogue : CatalogDef) (written : syntax.Block) (block : Unranked) → unranked_of catalogue written ≡ Ok block
    → HasParts catalogue written block
HasParts-unranked_of catalogue written block h =
    let of_items = λ (from : List (ℕ × List ℕ)) (conjuncts : List ConjunctDef) (items : List Found).
    well {A = Unranked} (record { from = from; conjuncts = conjuncts; items = items; distinct = written.distinct }) in
    let after_conjuncts = λ (from : List (ℕ × List ℕ)) (conjuncts : List ConjunctDef).
    items_of (sources_of catalogue from) written.items >>= of_items from conjuncts in
    let after_from = λ (from : List (ℕ × List ℕ)). filter_of (sources_of catalogue from) written.filter >>= after_conjuncts from in
    let first = Ok-steps (entries_of catalogue written.from) after_from block h in
    let second = Ok-steps (filter_of (sources_of catalogue first.0) written.filter) (after_conjuncts first.0) block first.2 in
    let third = Ok-steps (items_of (sources_of catalogue first.0) written.items) (of_items first.0 second.0) block second.2 in
    let made : Unranked = record { from = first.0; conjuncts = second.0; items = third.0; distinct = written.distinct } in
    let same = same_Ok made block third.2 in
    subst (HasParts catalogue written) {x = made} same (record { from = first.1; conjuncts = second.1; items = third.1 })

-- what holds of a block, whatever its terms
record IsUnranked (catalogue : CatalogDef) (written : syntax.Block) (block : Unranked) (terms : List Term) : Type 0 where
  entries : AreEntries catalogue 0 written.from block.from
  conjuncts : AreConjuncts catalogue (with_terms block terms) block.conjuncts
  items : AreItems catalogue (with_terms block terms) 0 block.items

IsUnranked-of : (catalogue : CatalogDef) (written : syntax.Block) (block : Unranked) (terms : List Term) → HasNarrowConjuncts (with_terms block terms)
    → unranked_of catalogue written ≡ Ok block → IsUnranked catalogue written block terms
IsUnranked-of catalogue written block terms narrow h =
    let parts = HasParts-unranked_of catalogue written block h in
    record {
      entries = entries_of-formed catalogue written.from block.from parts.from;
      conjuncts = filter_of-formed catalogue (with_terms block terms) written.filter block.conjuncts narrow parts.conjuncts;
      items = items_of-found catalogue (with_terms block terms) written.items block.items parts.items;
    }

-- a block with its terms
IsBlock-of : (catalogue : CatalogDef) (written : syntax.Block) (block : Unranked) (terms : List Term) → IsWrittenBlock written
    → IsUnranked catalogue written block terms → length terms ≤ 8 → AllByRecursion (IsTerm catalogue (with_terms block terms)) terms
    → IsBlock catalogue (with_terms block terms)
IsBlock-of catalogue written block terms is h most are =
    let some = is.some in
    let many = h.entries.many in
    let most_entries = h.entries.most in
    let most_items = h.items.most in
    let count = length-map block.items (λ (item : Found). item.0) in
    record {
      some_entries = omega (arith, some, many);
      most_entries = omega (arith, most_entries);
      entries = h.entries.each;
      most_conjuncts = h.conjuncts.most;
      conjuncts = h.conjuncts.each;
      most_items = omega (arith, most_items, count);
      items = each-map (IsColumn catalogue (with_terms block terms)) (λ (item : Found). item.0) block.items
          (each-then (IsFound catalogue (with_terms block terms)) (λ (item : Found). IsColumn catalogue (with_terms block terms) item.0)
          (IsColumn-found catalogue (with_terms block terms)) block.items h.items.each);
      most_terms = most;
      terms = are;
    }

-- the columns of a term are output columns, where DISTINCT needs them
any-items : (column : ℕ × ℕ) (items : List Found)
    → list_any (same_column column) (map (λ (item : Found). item.0) items) ≡ list_any (λ (item : Found). same_column column item.0) items
any-items column [] = refl
any-items column (item ∷ items) = ap (λ b. same_column column item.0 || b) (any-items column items)

HasOutputs-needed : (block : Unranked) (terms : List Term) (term : Term) → block.distinct ≡ true → AreNeeded (needed_by block) term
    → HasOutputs (with_terms block terms) term
HasOutputs-needed block terms term distinct needed =
    let columns = argument_columns term.args in
    let outputs : are_outputs (Some block.items) columns ≡ true =
    ap (λ b. are_outputs (if b then Some block.items else None) columns) (sym distinct) ∙ needed.outputs in
    let is_item = λ (column : ℕ × ℕ). list_any (λ (item : Found). same_column column item.0) block.items in
    each-then (λ column. is_item column ≡ true) (IsOutput (with_terms block terms)) (λ column is. any-items column block.items ∙ is) columns
    (each-all is_item columns outputs)

-- what a query of one block is made of
pub record IsOne (catalogue : CatalogDef) (query : syntax.Query) (bound : Query) : Type 0 where
  pub block : Unranked
  pub terms : List Term
  pub limit : Option ℕ
  pub is_block : unranked_of catalogue query.left ≡ Ok block
  pub are_terms : terms_of catalogue (block_columns (sources_of catalogue block.from)) (needed_by block) query.terms ≡ Ok terms
  pub is_limit : bound_limit query.limit ≡ Ok limit
  pub is : One (with_terms block terms) limit ≡ bound

pub IsOne-one_of : (catalogue : CatalogDef) (query : syntax.Query) (bound : Query) → one_of catalogue query ≡ Ok bound → IsOne catalogue query bound
IsOne-one_of catalogue query bound h =
    let terms_in = λ (block : Unranked). terms_of catalogue (block_columns (sources_of catalogue block.from)) (needed_by block) query.terms in
    let after_terms = λ (block : Unranked) (terms : List Term). bound_limit query.limit >>= λ limit. well (One (with_terms block terms) limit) in
    let after_block = λ (block : Unranked). terms_in block >>= after_terms block in
    let first = Ok-steps (unranked_of catalogue query.left) after_block bound h in
    let second = Ok-steps (terms_in first.0) (after_terms first.0) bound first.2 in
    let third = Ok-steps (bound_limit query.limit) (λ limit. well (One (with_terms first.0 second.0) limit)) bound second.2 in
    let same = same_Ok (One (with_terms first.0 second.0) third.0) bound third.2 in
    record {
      block = first.0;
      terms = second.0;
      limit = third.0;
      is_block = first.1;
      are_terms = second.1;
      is_limit = third.1;
      is = same;
    }

one_of-formed : (catalogue : CatalogDef) (query : syntax.Query) (block : Unranked) (terms : List Term) (limit : Option ℕ) → IsWrittenQuery query
    → HasNarrowConjuncts (with_terms block terms) → unranked_of catalogue query.left ≡ Ok block
    → terms_of catalogue (block_columns (sources_of catalogue block.from)) (needed_by block) query.terms ≡ Ok terms → bound_limit query.limit ≡ Ok limit
    → IsQuery catalogue (One (with_terms block terms) limit)
one_of-formed catalogue query block terms limit written narrow is_block are_terms is_limit =
    let own = with_terms block terms in
    let are = terms_of-formed catalogue own (block_columns (sources_of catalogue block.from)) (AreArguments-block catalogue own) (needed_by block) query.terms terms
    written.terms are_terms in
    let most = are.most in (
      IsBlock-of catalogue query.left block terms written.left (IsUnranked-of catalogue query.left block terms narrow is_block) (omega (arith, most)) are.each,
      λ distinct. each-then (AreNeeded (needed_by block)) (HasOutputs own) (λ term needed. HasOutputs-needed block terms term distinct needed) terms are.outputs,
      IsLimit-limit_of query.limit limit is_limit,
    )

-- what a query of two blocks is made of
pub record IsSet (catalogue : CatalogDef) (query : syntax.Query) (op : SetOp) (second : syntax.Block) (bound : Query) : Type 0 where
  pub left : Unranked
  pub right : Unranked
  pub terms : List Term
  pub others : List Term
  pub limit : Option ℕ
  pub is_left : unranked_of catalogue query.left ≡ Ok left
  pub is_right : unranked_of catalogue second ≡ Ok right
  pub agreed : agree left.items right.items ≡ true
  pub are_terms : terms_of catalogue (output_columns (output_names catalogue left) left.items) None query.terms ≡ Ok terms
  pub are_others : terms_of catalogue (output_columns (output_names catalogue left) right.items) None query.terms ≡ Ok others
  pub is_limit : bound_limit query.limit ≡ Ok limit
  pub is : Set op (with_terms left terms) (with_terms right others) limit ≡ bound

pub IsSet-set_of : (catalogue : CatalogDef) (query : syntax.Query) (op : SetOp) (second : syntax.Block) (bound : Query)
    → set_of catalogue query op second ≡ Ok bound → IsSet catalogue query op second bound
IsSet-set_of catalogue query op second bound h =
    let terms_in = λ (left of : Unranked). terms_of catalogue (output_columns (output_names catalogue left) of.items) None query.terms in
    let after_others = λ (left right : Unranked) (terms others : List Term).
    bound_limit query.limit >>= λ limit. well (Set op (with_terms left terms) (with_terms right others) limit) in
    let after_terms = λ (left right : Unranked) (terms : List Term). terms_in left right >>= after_others left right terms in
    let differ = At SetColumnsDiffer (first_item second.items) in
    let agreed = λ (left right : Unranked). if agree left.items right.items then terms_in left left else Err differ in
    let after_right = λ (left right : Unranked). agreed left right >>= after_terms left right in
    let after_left = λ (left : Unranked). unranked_of catalogue second >>= after_right left in
    let lefts = Ok-steps (unranked_of catalogue query.left) after_left bound h in
    let rights = Ok-steps (unranked_of catalogue second) (after_right lefts.0) bound lefts.2 in
    let terms = Ok-steps (agreed lefts.0 rights.0) (after_terms lefts.0 rights.0) bound rights.2 in
    let test = Ok-test (agree lefts.0.items rights.0.items) (terms_in lefts.0 lefts.0) differ terms.0 terms.1 in
    let others = Ok-steps (terms_in lefts.0 rights.0) (after_others lefts.0 rights.0 terms.0) bound terms.2 in
    let limit = Ok-steps (bound_limit query.limit) (λ limit. well (Set op (with_terms lefts.0 terms.0) (with_terms rights.0 others.0) limit)) bound others.2 in
    let same = same_Ok (Set op (with_terms lefts.0 terms.0) (with_terms rights.0 others.0) limit.0) bound limit.2 in
    record {
      left = lefts.0;
      right = rights.0;
      terms = terms.0;
      others = others.0;
      limit = limit.0;
      is_left = lefts.1;
      is_right = rights.1;
      agreed = test.0;
      are_terms = test.1;
      are_others = others.1;
      is_limit = limit.1;
      is = same;
    }

-- two blocks of which each is well formed, whose terms are the same
set_of-sides : (catalogue : CatalogDef) (query : syntax.Query) (second : syntax.Block) (left right : Unranked) (terms others : List Term) → IsWrittenBlock query.left
    → IsWrittenBlock second → AllByRecursion IsWrittenTerm query.terms → IsUnranked catalogue query.left left terms → IsUnranked catalogue second right others
    → agree left.items right.items ≡ true → terms_of catalogue (output_columns (output_names catalogue left) left.items) None query.terms ≡ Ok terms
    → terms_of catalogue (output_columns (output_names catalogue left) right.items) None query.terms ≡ Ok others
    → AreSetSides catalogue (with_terms left terms) (with_terms right others)
set_of-sides catalogue query second left right terms others some_left some_right written is_left is_right agreed are_terms are_others =
    let names = output_names catalogue left in
    let own = with_terms left terms in
    let other = with_terms right others in
    let of_left = AreArguments-output catalogue own names left.items is_left.items.each in
    let of_right = AreArguments-output catalogue other names right.items is_right.items.each in
    let are_left = terms_of-formed catalogue own (output_columns names left.items) of_left None query.terms terms written are_terms in
    let are_right = terms_of-formed catalogue other (output_columns names right.items) of_right None query.terms others written are_others in
    let most_left = are_left.most in
    let most_right = are_right.most in
    record {
      left_block = IsBlock-of catalogue query.left left terms some_left is_left (omega (arith, most_left)) are_left.each;
      right_block = IsBlock-of catalogue second right others some_right is_right (omega (arith, most_right)) are_right.each;
      kinds = same-kinds catalogue own other left.items right.items is_left.items.each is_right.items.each agreed;
      terms = terms_of-same own other names left.items right.items refl refl catalogue query.terms terms others are_terms are_others;
    }

-- the query that a SELECT is is well formed
pub formed : (catalogue : CatalogDef) (query : syntax.Query) (bound : Query) → IsWrittenQuery query → HaveNarrowConjuncts bound
    → typed_query catalogue query ≡ Ok bound → IsQuery catalogue bound
formed catalogue query bound written narrow h = go query.right refl where
  go : (right : Option (SetOp × syntax.Block)) → query.right ≡ right → IsQuery catalogue bound
  go None e =
      let made = IsOne-one_of catalogue query bound (rw e at h) in
      let own = subst HaveNarrowConjuncts {x = bound} (sym made.is) narrow in
      subst (IsQuery catalogue) {x = One (with_terms made.block made.terms) made.limit} made.is
      (one_of-formed catalogue query made.block made.terms made.limit written own made.is_block made.are_terms made.is_limit)
  go (Some right) e =
      let some : IsWrittenBlock right.1 =
      subst (λ (o : Option (SetOp × syntax.Block)). IfSome o (λ (second : SetOp × syntax.Block). IsWrittenBlock second.1)) e written.right in
      let made = IsSet-set_of catalogue query right.0 right.1 bound (rw e at h) in
      let own = subst HaveNarrowConjuncts {x = bound} (sym made.is) narrow in
      let left = IsUnranked-of catalogue query.left made.left made.terms own.0 made.is_left in
      let second = IsUnranked-of catalogue right.1 made.right made.others own.1 made.is_right in
      let sides = set_of-sides catalogue query right.1 made.left made.right made.terms made.others written.left some written.terms left second made.agreed made.are_terms made.are_others in
      subst (IsQuery catalogue) {x = Set right.0 (with_terms made.left made.terms) (with_terms made.right made.others) made.limit} made.is
      (sides, IsLimit-limit_of query.limit made.limit made.is_limit)

-- the same of what was made
pub IfOk-formed : (catalogue : CatalogDef) (query : syntax.Query) (result : Result Query BindFault) → IsWrittenQuery query
    → IfOk result (λ bound. HaveNarrowConjuncts bound) → Gives Memory (typed_query catalogue query) result → IfOk result (λ bound. IsQuery catalogue bound)
IfOk-formed catalogue query (Ok bound) written narrow (inl h) = formed catalogue query bound written narrow (sym h)
IfOk-formed catalogue query (Ok bound) written narrow (inr h) = cc
IfOk-formed catalogue query (Err fault) written narrow h = tt

-- so is what is bound, which has the same conditions
narrow-typed : (catalogue : CatalogDef) (typed : Query) → HaveNarrowConjuncts (with_tops catalogue typed) → HaveNarrowConjuncts typed
narrow-typed catalogue (One block limit) narrow = narrow
narrow-typed catalogue (Set op left right limit) narrow = narrow

pub bound-formed : (catalogue : CatalogDef) (query : syntax.Query) (bound : Query) → IsWrittenQuery query → HaveNarrowConjuncts bound
    → bound_query catalogue query ≡ Ok bound → IsQuery catalogue bound
bound-formed catalogue query bound written narrow is =
    let step = Ok-steps (typed_query catalogue query) (λ typed. well (with_tops catalogue typed)) bound is in
    let same : with_tops catalogue step.0 ≡ bound = same_Ok (with_tops catalogue step.0) bound step.2 in
    subst (IsQuery catalogue) same
    (formed-tops catalogue step.0 (formed catalogue query step.0 written (narrow-typed catalogue step.0 (subst HaveNarrowConjuncts (sym same) narrow)) step.1))
