-- The conjuncts of a block hold exactly where its WHERE does.
use Rattle.std.proofs.Common.{ℕ, ◌≡◌, true, List, refl, sym, subst, ap, ◌∙◌}
use Rattle.std.specs.Prelude.{◌↔◌, Option, Some, None, Ok}
use Rattle.std.specs.List.{list_all}
use Rattle.rs_syntax.specs.Syntax as syntax
use Rattle.rs_syntax.specs.Syntax.{Expression}
use Rattle.rs_expr.specs.Formulas.{Condition}
use Rattle.rs_catalog.specs.Catalog.{CatalogDef}
use Rattle.rs_query.specs.Conjuncts.{ConjunctDef}
use Rattle.rs_query.specs.Meaning.{column_value, conjunct_holds}
use Rattle.rs_query.specs.declared.block.Block.{Block}
use Rattle.rs_query.specs.declared.term.Term.{Term}
use Rattle.rs_typing.specs.Rules.{Types}
use Rattle.rs_typing.specs.Typing.{Truth}
use Rattle.rs_typing.proofs.ResultFacts.{same_Ok}
use Rattle.rs_typing.proofs.RuleFacts.{typed_by_rules}
use Rattle.rs_bind.specs.BlockRules.{TypesBlock, TypesFilter}
use Rattle.rs_bind.specs.BlockRules as rules_of
use Rattle.rs_bind.specs.Conditions.{conjuncts_of, named_columns, own_places, parts_of_and, places_in}
use Rattle.rs_bind.specs.Queries.{Unranked, with_terms}
use Rattle.rs_bind.specs.Sources.{Source, sources_of}
use Rattle.rs_bind.specs.Where.{WhereHolds, conjuncts_hold, holds_of, no_where, condition}
use Rattle.rs_bind.proofs.BlockRuleFacts.{conjuncts-are}
use Rattle.rs_bind.proofs.PartFacts.{HaveConjuncts-typed}

-- the conjuncts of WHERE are those of its parts
filter-parts : (sources : List Source) (filter : Option Expression) (made : List ConjunctDef) → TypesFilter sources filter made → (x : Expression)
    → filter ≡ Some x → conjuncts_of sources (parts_of_and x) ≡ Ok made
filter-parts sources filter made rules_of.no_filter x e = absurd (cc)
filter-parts sources filter made (rules_of.condition y c conjuncts typed few each) x e =
    let same : y ≡ x = cc in
    subst (λ z. conjuncts_of sources (parts_of_and z) ≡ Ok made) same (conjuncts-are sources each)

module _ (catalogue : CatalogDef) (block : Block) (rows : List ℕ) where
  abbrev all_hold : List ConjunctDef → Type 0
  all_hold made = list_all (conjunct_holds catalogue block rows) made ≡ true

  abbrev sources : List Source
  sources = sources_of catalogue block.from

  -- the conjuncts of WHERE hold where it does, whatever the columns over which it is typed
  parts-hold : (x : Expression) (made : List ConjunctDef) (columns : List (ℕ × ℕ)) (c : Condition) → conjuncts_of sources (parts_of_and x) ≡ Ok made
      → Types (places_in columns sources) x (Truth c) → list_all (conjunct_holds catalogue block rows) made ≡ holds_of catalogue block rows columns c
  parts-hold x made columns c are typed =
      let have = HaveConjuncts-typed sources (column_value catalogue block rows) columns x c ((typed_by_rules (places_in columns sources) x (Truth c)).1 typed) in
      let same : have.made ≡ made = same_Ok have.made made (sym have.are ∙ are) in
      ap (list_all (conjunct_holds catalogue block rows)) (sym same) ∙ have.hold

  -- what holds where WHERE does
  abbrev Means : Option Expression → Type 0
  Means None = Unit {0}
  Means (Some x) = (c : Condition) × Types (own_places sources x) x (Truth c) × (holds_of catalogue block rows (named_columns sources x) c ≡ true)

  WhereHolds-means : {filter : Option Expression} → WhereHolds catalogue block rows filter → Means filter
  WhereHolds-means no_where = tt
  WhereHolds-means (condition x c typed h) = (c, typed, h)

  filter-holds : (filter : Option Expression) (made : List ConjunctDef) → TypesFilter sources filter made → all_hold made ↔ WhereHolds catalogue block rows filter
  filter-holds filter made rules_of.no_filter = (λ h. no_where, λ h. refl)
  filter-holds filter made (rules_of.condition x c conjuncts typed few each) =
      let are = conjuncts-are sources each in (
        λ h. condition x c typed (sym (parts-hold x made (named_columns sources x) c are typed) ∙ h),
        λ w. let means = WhereHolds-means w in parts-hold x made (named_columns sources x) means.0 are means.1 ∙ means.2,
      )

module _ (catalogue : CatalogDef) (written : syntax.Block) (bound : Unranked) (terms : List Term) (rows : List ℕ) (typed : TypesBlock catalogue written bound) where
  pub holds-where : (conjuncts_hold catalogue (with_terms bound terms) rows ≡ true) ↔ WhereHolds catalogue (with_terms bound terms) rows written.filter
  holds-where = filter-holds catalogue (with_terms bound terms) rows written.filter bound.conjuncts typed.conjuncts

  pub holds-columns : (x : Expression) (columns : List (ℕ × ℕ)) (c : Condition) → written.filter ≡ Some x
      → Types (places_in columns (sources_of catalogue bound.from)) x (Truth c)
      → conjuncts_hold catalogue (with_terms bound terms) rows ≡ holds_of catalogue (with_terms bound terms) rows columns c
  holds-columns x columns c is of_x =
      parts-hold catalogue (with_terms bound terms) rows x bound.conjuncts columns c
      (filter-parts (sources_of catalogue bound.from) written.filter bound.conjuncts typed.conjuncts x is) of_x
