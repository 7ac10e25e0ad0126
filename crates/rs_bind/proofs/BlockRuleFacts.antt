-- A block without its terms is typed, and refused, by its rules.
use Rattle.std.proofs.Common.{ℕ, zero, suc, ◌≡◌, ◌≢◌, ◌≤◌, ◌<◌, ◌==◌, Bool, true, false, ◌||◌, List, [], ◌∷◌, length, map, refl, sym, subst, ap, ◌∙◌, inl, inr, arith}
use Rattle.std.specs.Prelude.{◌⊎◌, ◌-◌, pos, nat_le, Option, Some, None, option_map, Result, Ok, Err, slice_get, if◌then◌else◌}
use Rattle.std.specs.List.{list_any}
use Rattle.std.specs.Str.{bytes_eq}
use Rattle.std.proofs.lemmas.Bool.Decides.{nat_tests}
use Rattle.rs_value.specs.declared.value.Value.TheVariants as value
use Rattle.rs_lex.specs.declared.token.Span.{Span}
use Rattle.rs_syntax.specs.declared.name.ColRef.{ColRef}
use Rattle.rs_syntax.specs.declared.select.Items.{Items}
use Rattle.rs_syntax.specs.declared.select.Items.TheVariants as items
use Rattle.rs_syntax.specs.Syntax as syntax
use Rattle.rs_syntax.specs.Syntax.{Expression}
use Rattle.rs_value.specs.Results.{◌>>=◌}
use Rattle.rs_expr.specs.Formulas.{Condition}
use Rattle.rs_catalog.specs.Catalog.{CatalogDef, number_named}
use Rattle.rs_catalog.specs.declared.room.What.TheVariants as what
use Rattle.rs_query.specs.Conjuncts.{ConjunctDef}
use Rattle.rs_query.specs.WellFormed.{entries_mask, equality_of}
use Rattle.rs_typing.specs.declared.fault.BindFault.{BindFault}
use Rattle.rs_typing.specs.declared.fault.BindFault.TheVariants.{At}
use Rattle.rs_typing.specs.declared.fault.Why.TheVariants.{LimitOf, NameTwice, NoTable, WrongKind}
use Rattle.rs_typing.specs.Missing.{or_fault}
use Rattle.rs_typing.specs.Rules.{Types}
use Rattle.rs_typing.specs.Typing.{Typed, Number, Words, Truth, span_of, span_of_column, as_truth, type_of}
use Rattle.rs_typing.proofs.ResultFacts.{Ok-else, same_Ok, well}
use Rattle.rs_typing.proofs.RuleFacts.{refused_by_rules, typed_by_rules}
use Rattle.rs_typing.proofs.StepFacts.{Err-steps, Ok-or_fault, Ok-steps, Ok-test}
use Rattle.rs_bind.specs.BlockRules.{Entry, FromEntry, IsNoTruth, RefusedBlock, RefusedEntry, RefusedFilter, RefusedItem, RefusedItems, TypesBlock, TypesConjunct, TypesEntry, TypesFilter, TypesItem, TypesItems}
use Rattle.rs_bind.specs.BlockRules.{too_many, no_table, twice, no_filter, condition, in_condition, no_truth, no_column, star, listed, in_list, in_from, in_filter, in_items}
use Rattle.rs_bind.specs.Conditions.{condition_over, conjunct_in, conjunct_of, conjuncts_of, few_parts, filter_of, named_columns, own_places, parts_of_and}
use Rattle.rs_bind.specs.InOrder.{Each, FirstRefused}
use Rattle.rs_bind.specs.InOrder as in_order
use Rattle.rs_bind.specs.Queries.{Unranked, unranked_of}
use Rattle.rs_bind.specs.Sources.{Found, Source, alias_of, all_columns_from, column_in, entries_behind, entries_of, items_behind, items_of, sources_of}
use Rattle.rs_bind.proofs.FilterFacts.{few_parts-fit, few_parts-full, one_too_many}
use Rattle.rs_bind.proofs.PartFacts.{HaveConjuncts-typed}
use Rattle.rs_bind.proofs.InOrderFacts.{Each-steps, FirstRefused-steps, Follows, steps, steps-Each, steps-FirstRefused}
use Rattle.rs_bind.proofs.TestFacts.{Err-else, Err-or_fault, Err-test, apart-test, equal-test, is-apart, is-equal}

pub length-map : {A B : Type 0} (f : A → B) (xs : List A) → length (map f xs) ≡ length xs
length-map f [] = refl
length-map f (x ∷ xs) = ap suc (length-map f xs)

pub any-map : {A B : Type 0} (test : B → Bool) (f : A → B) (xs : List A) → list_any test (map f xs) ≡ list_any (λ x. test (f x)) xs
any-map test f [] = refl
any-map test f (x ∷ xs) = ap (λ b. test (f x) || b) (any-map test f xs)

-- FROM
module _ (catalogue : CatalogDef) where
  abbrev taken : List ℕ → List Entry → Bool
  taken alias before = list_any (λ (entry : Entry). bytes_eq entry.1 alias) before

  abbrev aliases : List Entry → List (List ℕ)
  aliases before = map (λ (entry : Entry). entry.1) before

  abbrev table_of : FromEntry → Result ℕ BindFault
  table_of entry = or_fault (At NoTable entry.0.at) (number_named what.Table entry.0.text catalogue)

  abbrev new_entry : List Entry → FromEntry → ℕ → Result Entry BindFault
  new_entry before entry table =
      if taken (alias_of entry).text before then Err (At NameTwice (alias_of entry).at) else well (table, (alias_of entry).text)

  abbrev entry_step : List Entry → FromEntry → Result Entry BindFault
  entry_step before entry =
      if length before == 6 then Err (At LimitOf entry.0.at) else (table_of entry >>= new_entry before entry)

  entry-typed : (before : List Entry) (entry : FromEntry) (bound : Entry) → entry_step before entry ≡ Ok bound → TypesEntry catalogue before entry bound
  entry-typed before entry bound h =
      let past = Ok-else (length before == 6) (table_of entry >>= new_entry before entry) (At LimitOf entry.0.at) bound h in
      let found = Ok-steps (table_of entry) (new_entry before entry) bound past.1 in
      let free = Ok-else (taken (alias_of entry).text before) (well (found.0, (alias_of entry).text)) (At NameTwice (alias_of entry).at) bound found.2 in
      let same = same_Ok (found.0, (alias_of entry).text) bound free.1 in
      subst (TypesEntry catalogue before entry) same (record {
        room = is-apart (length before) 6 past.0;
        table = Ok-or_fault (At NoTable entry.0.at) (number_named what.Table entry.0.text catalogue) found.0 found.1;
        alias = refl;
        free = free.0;
      })

  -- an entry with room and a table
  roomy : (before : List Entry) (entry : FromEntry) (table : ℕ) → length before ≢ 6 → number_named what.Table entry.0.text catalogue ≡ Some table
      → entry_step before entry ≡ new_entry before entry table
  roomy before entry table room is =
      ap (λ b. if b then Err (At LimitOf entry.0.at) else (table_of entry >>= new_entry before entry)) (apart-test (length before) 6 room)
      ∙ ap (λ t. or_fault (At NoTable entry.0.at) t >>= new_entry before entry) is

  entry-is : (before : List Entry) (entry : FromEntry) (bound : Entry) → TypesEntry catalogue before entry bound → entry_step before entry ≡ Ok bound
  entry-is before entry bound t =
      let free : taken (alias_of entry).text before ≡ false = subst (λ alias. taken alias before ≡ false) t.alias t.free in
      roomy before entry bound.0 t.room t.table
      ∙ (ap (λ b. if b then Err (At NameTwice (alias_of entry).at) else well (bound.0, (alias_of entry).text)) free
      ∙ ap (λ alias. well (bound.0, alias)) (sym t.alias))

  entry-refused : (before : List Entry) (entry : FromEntry) (fault : BindFault) → entry_step before entry ≡ Err fault → RefusedEntry catalogue before entry fault
  entry-refused before entry fault h =
      elim (Err-else (length before == 6) (table_of entry >>= new_entry before entry) (At LimitOf entry.0.at) fault h) [
        | inl full ↦ subst (RefusedEntry catalogue before entry) full.1 (too_many (is-equal (length before) 6 full.0))
        | inr past ↦ elim (Err-steps (table_of entry) (new_entry before entry) fault past.1) [
          | inl missing ↦ (let none = Err-or_fault (At NoTable entry.0.at) fault (number_named what.Table entry.0.text catalogue) missing in
              subst (RefusedEntry catalogue before entry) none.1 (no_table (is-apart (length before) 6 past.0) none.0))
          | inr found ↦ elim (Err-else (taken (alias_of entry).text before) (well (found.0, (alias_of entry).text)) (At NameTwice (alias_of entry).at) fault found.2) [
            | inl taken_before ↦ subst (RefusedEntry catalogue before entry) taken_before.1
                (twice found.0 (is-apart (length before) 6 past.0)
                (Ok-or_fault (At NoTable entry.0.at) (number_named what.Table entry.0.text catalogue) found.0 found.1) taken_before.0)
            | inr free ↦ cc
          ]
        ]
      ]

  entry-is_refused : (before : List Entry) (entry : FromEntry) (fault : BindFault) → RefusedEntry catalogue before entry fault → entry_step before entry ≡ Err fault
  entry-is_refused before entry fault (too_many full) =
      ap (λ b. if b then Err (At LimitOf entry.0.at) else (table_of entry >>= new_entry before entry)) (equal-test (length before) 6 full)
  entry-is_refused before entry fault (no_table room none) =
      ap (λ b. if b then Err (At LimitOf entry.0.at) else (table_of entry >>= new_entry before entry)) (apart-test (length before) 6 room)
      ∙ ap (λ t. or_fault (At NoTable entry.0.at) t >>= new_entry before entry) none
  entry-is_refused before entry fault (twice table room is taken_before) =
      roomy before entry table room is
      ∙ ap (λ b. if b then Err (At NameTwice (alias_of entry).at) else well (table, (alias_of entry).text)) taken_before

  entry-follows : Follows (TypesEntry catalogue) (RefusedEntry catalogue) entry_step
  entry-follows = record { typed = entry-typed; is_typed = entry-is; refused = entry-refused; is_refused = entry-is_refused }

  -- the entries of FROM are such steps
  entries-steps : (before : List Entry) (from : List FromEntry) → entries_behind catalogue (aliases before) from ≡ steps entry_step before from
  entries-steps before [] = refl
  entries-steps before (entry ∷ from) =
      rw (length-map (λ (e : Entry). e.1) before, any-map (λ alias. bytes_eq alias (alias_of entry).text) (λ (e : Entry). e.1) before)
      (go (λ b. entries-steps (b ∷ before) from) (length before == 6) (taken (alias_of entry).text before) (table_of entry)) where
        go : ((b : Entry) → entries_behind catalogue (b.1 ∷ aliases before) from ≡ steps entry_step (b ∷ before) from) → (full used : Bool) (t : Result ℕ BindFault)
            → (if full then Err (At LimitOf entry.0.at)
            else (t >>= λ table. (if used then Err (At NameTwice (alias_of entry).at)
            else entries_behind catalogue ((alias_of entry).text ∷ aliases before) from) >>= λ more. Ok ((table, (alias_of entry).text) ∷ more)))
            ≡ ((if full then Err (At LimitOf entry.0.at)
            else (t >>= λ table. if used then Err (At NameTwice (alias_of entry).at) else well (table, (alias_of entry).text)))
            >>= λ b. steps entry_step (b ∷ before) from >>= λ more. Ok (b ∷ more))
        go again true used t = refl
        go again false used (Err fault) = refl
        go again false true (Ok table) = refl
        go again false false (Ok table) = ap (λ r. r >>= λ more. Ok ((table, (alias_of entry).text) ∷ more)) (again (table, (alias_of entry).text))

  pub from-typed : (from : List FromEntry) (made : List Entry) → entries_of catalogue from ≡ Ok made → Each (TypesEntry catalogue) [] from made
  from-typed from made h = Each-steps (TypesEntry catalogue) (RefusedEntry catalogue) entry_step entry-follows [] from made (sym (entries-steps [] from) ∙ h)

  pub from-is : (from : List FromEntry) (made : List Entry) → Each (TypesEntry catalogue) [] from made → entries_of catalogue from ≡ Ok made
  from-is from made each = entries-steps [] from ∙ steps-Each (TypesEntry catalogue) (RefusedEntry catalogue) entry_step entry-follows each

  pub from-refused : (from : List FromEntry) (fault : BindFault) → entries_of catalogue from ≡ Err fault
      → FirstRefused (TypesEntry catalogue) (RefusedEntry catalogue) [] from fault
  from-refused from fault h =
      FirstRefused-steps (TypesEntry catalogue) (RefusedEntry catalogue) entry_step entry-follows [] from fault (sym (entries-steps [] from) ∙ h)

  pub from-is_refused : (from : List FromEntry) (fault : BindFault) → FirstRefused (TypesEntry catalogue) (RefusedEntry catalogue) [] from fault
      → entries_of catalogue from ≡ Err fault
  from-is_refused from fault first =
      entries-steps [] from ∙ steps-FirstRefused (TypesEntry catalogue) (RefusedEntry catalogue) entry_step entry-follows first

-- WHERE
truth-is : (at : Span) (t : Typed) (c : Condition) → as_truth at t ≡ Ok c → t ≡ Truth c
truth-is at (Number f) c h = cc
truth-is at (Words side) c h = cc
truth-is at (Truth d) c h = let same : d ≡ c = cc in ap (λ e. Truth e) same

no-truth-refused : (at : Span) (t : Typed) → IsNoTruth t → as_truth at t ≡ Err (At WrongKind at)
no-truth-refused at (Number f) h = refl
no-truth-refused at (Words side) h = refl
no-truth-refused at (Truth c) h = absurd h

refused-no-truth : (at : Span) (t : Typed) (fault : BindFault) → as_truth at t ≡ Err fault → IsNoTruth t × (At WrongKind at ≡ fault)
refused-no-truth at (Number f) fault h = (tt, cc)
refused-no-truth at (Words side) fault h = (tt, cc)
refused-no-truth at (Truth c) fault h = cc

-- a list is no longer than this, or has an item there
short-or-more : {A : Type 0} (n : ℕ) (xs : List A) → (length xs ≤ n) ⊎ ((x : A) × (slice_get xs n ≡ Some x))
short-or-more n [] = inl (omega arith)
short-or-more zero (x ∷ xs) = inr (x, refl)
short-or-more (suc n) (x ∷ xs) = elim (short-or-more n xs) [
  | inl short ↦ inl (omega arith)
  | inr more ↦ inr (more.0, more.1)
]

few-fit : (parts : List Expression) → length parts ≤ 32 → few_parts parts ≡ Ok tt
few-fit parts h = few_parts-fit parts (32 - length parts) (omega arith)

few-full : (parts : List Expression) (part : Expression) → slice_get parts 32 ≡ Some part → few_parts parts ≡ Err (At LimitOf (span_of part))
few-full parts part h = few_parts-full parts (At LimitOf (span_of part)) (ap (option_map one_too_many) h)

module _ (sources : List Source) where
  condition-typed : (x : Expression) (c : Condition) → condition_over (named_columns sources x) sources x ≡ Ok c → Types (own_places sources x) x (Truth c)
  condition-typed x c h =
      let steps_of = Ok-steps (type_of (own_places sources x) x) (as_truth (span_of x)) c h in
      (typed_by_rules (own_places sources x) x (Truth c)).0 (steps_of.1 ∙ ap (λ t. Ok t) (truth-is (span_of x) steps_of.0 c steps_of.2))

  condition-is : (x : Expression) (c : Condition) → Types (own_places sources x) x (Truth c) → condition_over (named_columns sources x) sources x ≡ Ok c
  condition-is x c h = ap (λ r. r >>= as_truth (span_of x)) ((typed_by_rules (own_places sources x) x (Truth c)).1 h)

  -- a condition as a conjunct
  abbrev as_conjunct : Expression → Condition → Result ConjunctDef BindFault
  as_conjunct x c = well (conjunct_of (named_columns sources x) c)

  conjunct-typed : (x : Expression) (made : ConjunctDef) → conjunct_in sources x ≡ Ok made → TypesConjunct sources x made
  conjunct-typed x made h =
      let steps_of = Ok-steps (condition_over (named_columns sources x) sources x) (as_conjunct x) made h in
      let same = same_Ok (conjunct_of (named_columns sources x) steps_of.0) made steps_of.2 in
      subst (TypesConjunct sources x) same
      (record { condition = condition-typed x steps_of.0 steps_of.1; columns = refl; entries = refl; equality = refl })

  conjunct-whole : (x : Expression) (c : Condition) → Types (own_places sources x) x (Truth c)
      → conjunct_in sources x ≡ Ok (conjunct_of (named_columns sources x) c)
  conjunct-whole x c typed = ap (λ r. r >>= as_conjunct x) (condition-is x c typed)

  conjunct-is : (x : Expression) (made : ConjunctDef) → TypesConjunct sources x made → conjunct_in sources x ≡ Ok made
  conjunct-is x made t =
      let columns : named_columns sources x ≡ made.columns = sym t.columns in
      let entries : entries_mask (named_columns sources x) ≡ made.entries = ap entries_mask columns ∙ sym t.entries in
      let equality : equality_of made.condition (named_columns sources x) ≡ made.equality = ap (equality_of made.condition) columns ∙ sym t.equality in
      conjunct-whole x made.condition t.condition
      ∙ λ i. well (record { condition = made.condition; columns = columns i; entries = entries i; equality = equality i })

  conjuncts-typed : (before : List ConjunctDef) (xs : List Expression) (made : List ConjunctDef) → conjuncts_of sources xs ≡ Ok made
      → Each (λ before. TypesConjunct sources) before xs made
  conjuncts-typed before [] made h =
      let same = same_Ok {A = List ConjunctDef} [] made h in
      subst (Each (λ before. TypesConjunct sources) before []) same (in_order.none before)
  conjuncts-typed before (x ∷ xs) made h =
      let first = Ok-steps (conjunct_in sources x) (λ one. conjuncts_of sources xs >>= λ rest. well (one ∷ rest)) made h in
      let rest = Ok-steps (conjuncts_of sources xs) (λ more. well (first.0 ∷ more)) made first.2 in
      let same = same_Ok (first.0 ∷ rest.0) made rest.2 in
      subst (Each (λ before. TypesConjunct sources) before (x ∷ xs)) same
      (in_order.and before x xs first.0 rest.0 (conjunct-typed x first.0 first.1) (conjuncts-typed (first.0 ∷ before) xs rest.0 rest.1))

  pub conjuncts-are : {before : List ConjunctDef} {xs : List Expression} {made : List ConjunctDef} → Each (λ before. TypesConjunct sources) before xs made
      → conjuncts_of sources xs ≡ Ok made
  conjuncts-are (in_order.none before) = refl
  conjuncts-are (in_order.and before x xs made more is each) =
      ap (λ r. r >>= λ one. conjuncts_of sources xs >>= λ rest. well (one ∷ rest)) (conjunct-is x made is)
      ∙ ap (λ r. r >>= λ rest. well (made ∷ rest)) (conjuncts-are each)

  abbrev behind_whole : Expression → ConjunctDef → Result (List ConjunctDef) BindFault
  behind_whole x whole = few_parts (parts_of_and x) >>= λ few. conjuncts_of sources (parts_of_and x)

  abbrev behind_count : Expression → Result (Unit {0}) BindFault → Result (List ConjunctDef) BindFault
  behind_count x few = few >>= λ passed. conjuncts_of sources (parts_of_and x)

  pub filter-typed : (filter : Option Expression) (made : List ConjunctDef) → filter_of sources filter ≡ Ok made → TypesFilter sources filter made
  filter-typed None made h = let same : [] ≡ made = cc in subst (TypesFilter sources None) same no_filter
  filter-typed (Some x) made h =
      let first = Ok-steps (conjunct_in sources x) (behind_whole x) made h in
      let second = Ok-steps (few_parts (parts_of_and x)) (λ few. conjuncts_of sources (parts_of_and x)) made first.2 in
      let whole = conjunct-typed x first.0 first.1 in
      elim (short-or-more 32 (parts_of_and x)) [
        | inl short ↦ condition x first.0.condition made whole.condition short (conjuncts-typed [] (parts_of_and x) made second.2)
        | inr more ↦ (let full = few-full (parts_of_and x) more.0 more.1 in let passed = second.1 in absurd (cc))
      ]

  pub filter-is : (filter : Option Expression) (made : List ConjunctDef) → TypesFilter sources filter made → filter_of sources filter ≡ Ok made
  filter-is filter made no_filter = refl
  filter-is filter made (condition x c conjuncts typed few each) =
      ap (λ r. r >>= behind_whole x) (conjunct-whole x c typed)
      ∙ (ap (behind_count x) (few-fit (parts_of_and x) few) ∙ conjuncts-are each)

  pub filter-refused : (filter : Option Expression) (fault : BindFault) → filter_of sources filter ≡ Err fault → RefusedFilter sources filter fault
  filter-refused None fault h = cc
  filter-refused (Some x) fault h =
      elim (Err-steps (conjunct_in sources x) (behind_whole x) fault h) [
        | inl refuses ↦ elim (Err-steps (condition_over (named_columns sources x) sources x) (as_conjunct x) fault refuses) [
          | inl no_condition ↦ elim (Err-steps (type_of (own_places sources x) x) (as_truth (span_of x)) fault no_condition) [
            | inl untyped ↦ in_condition x fault ((refused_by_rules (own_places sources x) x fault).0 untyped)
            | inr typed ↦ (let is = refused-no-truth (span_of x) typed.0 fault typed.2 in
                subst (RefusedFilter sources (Some x)) is.1 (no_truth x typed.0 ((typed_by_rules (own_places sources x) x typed.0).0 typed.1) is.0))
          ]
          | inr made ↦ (let well_made = made.2 in absurd (cc))
        ]
        | inr first ↦ (let whole = conjunct-typed x first.0 first.1 in
            let typed = (typed_by_rules (own_places sources x) x (Truth first.0.condition)).1 whole.condition in
            elim (short-or-more 32 (parts_of_and x)) [
              | inl short ↦ (let fits = ap (behind_count x) (few-fit (parts_of_and x) short) in
                  let are = (HaveConjuncts-typed sources (λ column. value.Int (pos 0)) (named_columns sources x) x first.0.condition typed).are in
                  let refuses = first.2 in
                  absurd (cc))
              | inr more ↦ (let full = ap (behind_count x) (few-full (parts_of_and x) more.0 more.1) in
                  let refuses = first.2 in
                  let same : At LimitOf (span_of more.0) ≡ fault = cc in
                  subst (RefusedFilter sources (Some x)) same (too_many x more.0 first.0.condition whole.condition more.1))
            ])
      ]

  pub filter-is_refused : (filter : Option Expression) (fault : BindFault) → RefusedFilter sources filter fault → filter_of sources filter ≡ Err fault
  filter-is_refused filter fault (in_condition x f refused) =
      ap (λ r. ((r >>= as_truth (span_of x)) >>= as_conjunct x) >>= behind_whole x) ((refused_by_rules (own_places sources x) x f).1 refused)
  filter-is_refused filter fault (no_truth x t typed is_none) =
      ap (λ r. ((r >>= as_truth (span_of x)) >>= as_conjunct x) >>= behind_whole x) ((typed_by_rules (own_places sources x) x t).1 typed)
      ∙ ap (λ r. (r >>= as_conjunct x) >>= behind_whole x) (no-truth-refused (span_of x) t is_none)
  filter-is_refused filter fault (too_many x part c typed more) =
      ap (λ r. r >>= behind_whole x) (conjunct-whole x c typed)
      ∙ ap (behind_count x) (few-full (parts_of_and x) part more)

-- the output columns
module _ (sources : List Source) where
  abbrev item_step : List Found → ColRef → Result Found BindFault
  item_step before c = if length before == 384 then Err (At LimitOf (span_of_column c)) else column_in sources c

  item-typed : (before : List Found) (c : ColRef) (found : Found) → item_step before c ≡ Ok found → TypesItem sources before c found
  item-typed before c found h =
      let past = Ok-else (length before == 384) (column_in sources c) (At LimitOf (span_of_column c)) found h in
      record { room = is-apart (length before) 384 past.0; column = past.1 }

  item-is : (before : List Found) (c : ColRef) (found : Found) → TypesItem sources before c found → item_step before c ≡ Ok found
  item-is before c found t =
      ap (λ b. if b then Err (At LimitOf (span_of_column c)) else column_in sources c) (apart-test (length before) 384 t.room) ∙ t.column

  item-refused : (before : List Found) (c : ColRef) (fault : BindFault) → item_step before c ≡ Err fault → RefusedItem sources before c fault
  item-refused before c fault h =
      elim (Err-else (length before == 384) (column_in sources c) (At LimitOf (span_of_column c)) fault h) [
        | inl full ↦ subst (RefusedItem sources before c) full.1 (too_many (is-equal (length before) 384 full.0))
        | inr past ↦ no_column fault (is-apart (length before) 384 past.0) past.1
      ]

  item-is_refused : (before : List Found) (c : ColRef) (fault : BindFault) → RefusedItem sources before c fault → item_step before c ≡ Err fault
  item-is_refused before c fault (too_many full) =
      ap (λ b. if b then Err (At LimitOf (span_of_column c)) else column_in sources c) (equal-test (length before) 384 full)
  item-is_refused before c fault (no_column f room refuses) =
      ap (λ b. if b then Err (At LimitOf (span_of_column c)) else column_in sources c) (apart-test (length before) 384 room) ∙ refuses

  item-follows : Follows (TypesItem sources) (RefusedItem sources) item_step
  item-follows = record { typed = item-typed; is_typed = item-is; refused = item-refused; is_refused = item-is_refused }

  list-steps : (before : List Found) (columns : List ColRef) → items_behind sources (length before) columns ≡ steps item_step before columns
  list-steps before [] = refl
  list-steps before (c ∷ columns) = go (λ b. list-steps (b ∷ before) columns) (length before == 384) (column_in sources c) where
    go : ((b : Found) → items_behind sources (suc (length before)) columns ≡ steps item_step (b ∷ before) columns) → (full : Bool) (r : Result Found BindFault)
        → (if full then Err (At LimitOf (span_of_column c)) else (r >>= λ column. items_behind sources (suc (length before)) columns >>= λ more. Ok (column ∷ more)))
        ≡ ((if full then Err (At LimitOf (span_of_column c)) else r) >>= λ b. steps item_step (b ∷ before) columns >>= λ more. Ok (b ∷ more))
    go again true r = refl
    go again false (Err fault) = refl
    go again false (Ok column) = ap (λ s. s >>= λ more. Ok (column ∷ more)) (again column)

  abbrev every : List Found
  every = all_columns_from 1 sources

  few-all : length every ≤ 384 → (nat_le (length every) 384) ≡ true
  few-all h = grind (arith, nat_tests)

  pub items-typed : (columns : Items) (made : List Found) → items_of sources columns ≡ Ok made → TypesItems sources columns made
  items-typed (items.Star at) made h =
      let test = Ok-test (nat_le (length every) 384) (well every) (At LimitOf at) made h in
      let same = same_Ok every made test.1 in
      subst (TypesItems sources (items.Star at)) same (star at (few-le test.0)) where
        few-le : (nat_le (length every) 384) ≡ true → length every ≤ 384
        few-le e = grind (arith, nat_tests)
  items-typed (items.List columns) made h =
      listed columns made
      (Each-steps (TypesItem sources) (RefusedItem sources) item_step item-follows [] columns made (sym (list-steps [] columns) ∙ h))

  pub items-are : (columns : Items) (made : List Found) → TypesItems sources columns made → items_of sources columns ≡ Ok made
  items-are columns made (star at few) = ap (λ b. if b then well every else Err (At LimitOf at)) (few-all few)
  items-are columns made (listed list found each) =
      list-steps [] list ∙ steps-Each (TypesItem sources) (RefusedItem sources) item_step item-follows each

  pub items-refused : (columns : Items) (fault : BindFault) → items_of sources columns ≡ Err fault → RefusedItems sources columns fault
  items-refused (items.Star at) fault h =
      elim (Err-test (nat_le (length every) 384) (well every) (At LimitOf at) fault h) [
        | inl many ↦ (let more : 384 < length every = many-lt many.0 in
            subst (RefusedItems sources (items.Star at)) many.1 (too_many at more))
        | inr few ↦ cc
      ] where
        many-lt : (nat_le (length every) 384) ≡ false → 384 < length every
        many-lt e = grind (arith, nat_tests)
  items-refused (items.List columns) fault h =
      in_list columns fault
      (FirstRefused-steps (TypesItem sources) (RefusedItem sources) item_step item-follows [] columns fault (sym (list-steps [] columns) ∙ h))

  pub items-are_refused : (columns : Items) (fault : BindFault) → RefusedItems sources columns fault → items_of sources columns ≡ Err fault
  items-are_refused columns fault (too_many at many) =
      ap (λ b. if b then well every else Err (At LimitOf at)) (many-test many) where
        many-test : 384 < length every → (nat_le (length every) 384) ≡ false
        many-test h = grind (arith, nat_tests)
  items-are_refused columns fault (in_list list f first) =
      list-steps [] list ∙ steps-FirstRefused (TypesItem sources) (RefusedItem sources) item_step item-follows first

-- a block without its terms
module _ (catalogue : CatalogDef) where
  abbrev behind_items : List Entry → List ConjunctDef → Bool → List Found → Result Unranked BindFault
  behind_items from conjuncts distinct found = well (record { from = from; conjuncts = conjuncts; items = found; distinct = distinct })

  abbrev behind_filter : syntax.Block → List Entry → List ConjunctDef → Result Unranked BindFault
  behind_filter block from conjuncts = items_of (sources_of catalogue from) block.items >>= behind_items from conjuncts block.distinct

  abbrev behind_from : syntax.Block → List Entry → Result Unranked BindFault
  behind_from block from = filter_of (sources_of catalogue from) block.filter >>= behind_filter block from

  pub block-typed : (block : syntax.Block) (made : Unranked) → unranked_of catalogue block ≡ Ok made → TypesBlock catalogue block made
  block-typed block made h =
      let first = Ok-steps (entries_of catalogue block.from) (behind_from block) made h in
      let sources = sources_of catalogue first.0 in
      let second = Ok-steps (filter_of sources block.filter) (behind_filter block first.0) made first.2 in
      let third = Ok-steps (items_of sources block.items) (behind_items first.0 second.0 block.distinct) made second.2 in
      let same = same_Ok (record { from = first.0; conjuncts = second.0; items = third.0; distinct = block.distinct }) made third.2 in
      subst (TypesBlock catalogue block) same (record {
        from = from-typed catalogue block.from first.0 first.1;
        conjuncts = filter-typed sources block.filter second.0 second.1;
        items = items-typed sources block.items third.0 third.1;
        distinct = refl;
      })

  pub block-is : (block : syntax.Block) (made : Unranked) → TypesBlock catalogue block made → unranked_of catalogue block ≡ Ok made
  block-is block made t =
      ap (λ r. r >>= behind_from block) (from-is catalogue block.from made.from t.from)
      ∙ (ap (λ r. r >>= behind_filter block made.from) (filter-is (sources_of catalogue made.from) block.filter made.conjuncts t.conjuncts)
      ∙ (ap (λ r. r >>= behind_items made.from made.conjuncts block.distinct) (items-are (sources_of catalogue made.from) block.items made.items t.items)
      ∙ ap (λ distinct. behind_items made.from made.conjuncts distinct made.items) (sym t.distinct)))

  pub block-refused : (block : syntax.Block) (fault : BindFault) → unranked_of catalogue block ≡ Err fault → RefusedBlock catalogue block fault
  block-refused block fault h =
      elim (Err-steps (entries_of catalogue block.from) (behind_from block) fault h) [
        | inl refuses ↦ in_from fault (from-refused catalogue block.from fault refuses)
        | inr first ↦ elim (Err-steps (filter_of (sources_of catalogue first.0) block.filter) (behind_filter block first.0) fault first.2) [
          | inl refuses ↦ in_filter first.0 fault (from-typed catalogue block.from first.0 first.1)
              (filter-refused (sources_of catalogue first.0) block.filter fault refuses)
          | inr second ↦ elim (Err-steps (items_of (sources_of catalogue first.0) block.items) (behind_items first.0 second.0 block.distinct) fault second.2) [
            | inl refuses ↦ in_items first.0 second.0 fault (from-typed catalogue block.from first.0 first.1)
                (filter-typed (sources_of catalogue first.0) block.filter second.0 second.1)
                (items-refused (sources_of catalogue first.0) block.items fault refuses)
            | inr third ↦ cc
          ]
        ]
      ]

  pub block-is_refused : (block : syntax.Block) (fault : BindFault) → RefusedBlock catalogue block fault → unranked_of catalogue block ≡ Err fault
  block-is_refused block fault (in_from f first) =
      ap (λ r. r >>= behind_from block) (from-is_refused catalogue block.from f first)
  block-is_refused block fault (in_filter from f each refused) =
      ap (λ r. r >>= behind_from block) (from-is catalogue block.from from each)
      ∙ ap (λ r. r >>= behind_filter block from) (filter-is_refused (sources_of catalogue from) block.filter f refused)
  block-is_refused block fault (in_items from conjuncts f each typed refused) =
      ap (λ r. r >>= behind_from block) (from-is catalogue block.from from each)
      ∙ (ap (λ r. r >>= behind_filter block from) (filter-is (sources_of catalogue from) block.filter conjuncts typed)
      ∙ ap (λ r. r >>= behind_items from conjuncts block.distinct) (items-are_refused (sources_of catalogue from) block.items f refused))
