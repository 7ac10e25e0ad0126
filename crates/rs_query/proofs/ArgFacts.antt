-- Arguments of a term: their values for the rows of a block, and the kinds of these.
use Rattle.std.proofs.Common.{ℕ, zero, suc, ◌≡◌, ◌∙◌, ◌+◌, ◌≤◌, ◌++◌, true, List, [], ◌∷◌, Some, length, take, refl, sym, ap, subst, arith}
use Rattle.std.specs.Prelude.{slice_get}
use Rattle.std.proofs.lemmas.Bool.{and_parts, and_from, false≢true}
use Rattle.std.proofs.lemmas.List.{take_all}
use Rattle.rs_value.specs.Value.{all_fit, fits}
use Rattle.rs_value.specs.declared.kind.Kind.{Kind}
use Rattle.rs_value.specs.declared.value.Value.{Value}
use Rattle.rs_catalog.specs.Catalog.{CatalogDef}
use Rattle.rs_catalog.specs.declared.index.BoundArg.{BoundArg}
use Rattle.rs_query.proofs.ListFacts.{take-slice_get}
use Rattle.rs_query.specs.declared.block.Block.{Block}
use Rattle.rs_query.specs.WellFormed.{AreArgs, IsArg}

module _ (catalogue : CatalogDef) (block : Block) where
  -- there are as many arguments as kinds
  length-AreArgs : (kinds : List Kind) (args : List BoundArg) → AreArgs catalogue block kinds args → length kinds ≡ length args
  length-AreArgs [] [] are = refl
  length-AreArgs [] (a ∷ args) are = absurd are
  length-AreArgs (kind ∷ kinds) [] are = absurd are
  length-AreArgs (kind ∷ kinds) (a ∷ args) are = ap suc (length-AreArgs kinds args are.1)

  -- the kind that the argument at a place has
  pub record HasKind (kinds : List Kind) (i : ℕ) (a : BoundArg) : Type 0 where
    pub kind : Kind
    pub there : slice_get kinds i ≡ Some kind
    pub is : IsArg catalogue block kind a

  pub HasKind-at : (kinds : List Kind) (args : List BoundArg) (i : ℕ) (a : BoundArg) → AreArgs catalogue block kinds args → slice_get args i ≡ Some a → HasKind kinds i a
  HasKind-at [] [] i a are at = cc
  HasKind-at [] (first ∷ args) i a are at = absurd are
  HasKind-at (kind ∷ kinds) [] i a are at = absurd are
  HasKind-at (kind ∷ kinds) (first ∷ args) zero a are at =
      let same : first ≡ a = cc in
      record { kind = kind; there = refl; is = subst (IsArg catalogue block kind) same are.0 }
  HasKind-at (kind ∷ kinds) (first ∷ args) (suc i) a are at =
      let later = HasKind-at kinds args i a are.1 at in
      record { kind = later.kind; there = later.there; is = later.is }

  -- one more value of its kind
  all_fit-push : (kinds : List Kind) (values : List Value) (kind : Kind) (value : Value) → all_fit kinds values ≡ true → fits kind value ≡ true
      → all_fit (kinds ++ kind ∷ []) (values ++ value ∷ []) ≡ true
  all_fit-push [] [] kind value all here = and_from (fits kind value) true here refl
  all_fit-push [] (first ∷ values) kind value all here = absurd (false≢true all)
  all_fit-push (first ∷ kinds) [] kind value all here = absurd (false≢true all)
  all_fit-push (k ∷ kinds) (v ∷ values) kind value all here =
      let parts = and_parts (fits k v) (all_fit kinds values) all in
      and_from (fits k v) (all_fit (kinds ++ kind ∷ []) (values ++ value ∷ [])) parts.0 (all_fit-push kinds values kind value parts.1 here)

  -- the value of one more argument has its kind
  pub all_fit-more : (kinds : List Kind) (args : List BoundArg) (i : ℕ) (a : BoundArg) (values : List Value) (value : Value)
      → AreArgs catalogue block kinds args → slice_get args i ≡ Some a → all_fit (take i kinds) values ≡ true
      → ((kind : Kind) → IsArg catalogue block kind a → fits kind value ≡ true) → all_fit (take (i + 1) kinds) (values ++ value ∷ []) ≡ true
  all_fit-more kinds args i a values value are at before here =
      let has = HasKind-at kinds args i a are at in
      ap (λ ks. all_fit ks (values ++ value ∷ [])) (take-slice_get kinds i has.kind has.there)
      ∙ all_fit-push (take i kinds) values has.kind value before (here has.kind has.is)

  -- the values of all arguments have the kinds
  pub all_fit-all : (kinds : List Kind) (args : List BoundArg) (i : ℕ) (values : List Value) → AreArgs catalogue block kinds args → length args ≤ i
      → all_fit (take i kinds) values ≡ true → all_fit kinds values ≡ true
  all_fit-all kinds args i values are all before =
      ap (λ ks. all_fit ks values) (sym (take_all i kinds (omega (arith, length-AreArgs kinds args are)))) ∙ before
