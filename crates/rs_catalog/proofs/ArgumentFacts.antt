-- Arguments of an index, and the values that they have for a row.
use Rattle.std.proofs.Common.{ℕ, ◌≡◌, ◌∙◌, ◌+◌, ◌<◌, ◌≤◌, ◌++◌, ◌&&◌, Bool, true, false, List, [], ◌∷◌, length, take, get_or, zero, suc, Some, refl, sym, ap, arith}
use Rattle.std.specs.Prelude.{slice_get}
use Rattle.std.proofs.lemmas.List.{map-append, take_more, take_all}
use Rattle.std.proofs.lemmas.Option.{slice_get_within, get_or_from_slice_get}
use Rattle.rs_value.specs.declared.kind.Kind.{Kind}
use Rattle.rs_value.specs.declared.value.Value.{Value}
use Rattle.rs_value.specs.Value.{all_fit, fits}
use Rattle.rs_table.specs.Column.{Column}
use Rattle.rs_catalog.specs.Indexes.{arg_fits, arg_value, args_fit, args_in}
use Rattle.rs_catalog.specs.declared.index.BoundArg.{BoundArg}

both : (a b : Bool) → (a && b) ≡ true → (a ≡ true) × (b ≡ true)
both true b e = (refl, e)
both false b e = cc

both_true : (a b : Bool) → a ≡ true → b ≡ true → (a && b) ≡ true
both_true a b first second = ap (λ t. t && b) first ∙ second

-- there are as many arguments as kinds
pub length-args_fit : (columns : List Column) (kinds : List Kind) (args : List BoundArg) → args_fit columns kinds args ≡ true → length kinds ≡ length args
length-args_fit columns [] [] e = refl
length-args_fit columns [] (arg ∷ args) e = cc
length-args_fit columns (kind ∷ kinds) [] e = cc
length-args_fit columns (kind ∷ kinds) (arg ∷ args) e =
    ap suc (length-args_fit columns kinds args (both (arg_fits columns kind arg) (args_fit columns kinds args) e).1)

-- the kind that the argument at a place has
pub record HasKind (columns : List Column) (kinds : List Kind) (i : ℕ) (arg : BoundArg) : Type 0 where
  pub kind : Kind
  pub there : slice_get kinds i ≡ Some kind
  pub fit : arg_fits columns kind arg ≡ true

pub HasKind-at : (columns : List Column) (kinds : List Kind) (args : List BoundArg) (i : ℕ) (arg : BoundArg)
    → args_fit columns kinds args ≡ true → i < length args → arg ≡ get_or args i arg → HasKind columns kinds i arg
HasKind-at columns [] [] i arg e within is = absurd (omega arith)
HasKind-at columns [] (first ∷ args) i arg e within is = cc
HasKind-at columns (kind ∷ kinds) [] i arg e within is = cc
HasKind-at columns (kind ∷ kinds) (first ∷ args) zero arg e within is = record {
  kind = kind;
  there = refl;
  fit = ap (arg_fits columns kind) is ∙ (both (arg_fits columns kind first) (args_fit columns kinds args) e).0;
}
HasKind-at columns (kind ∷ kinds) (first ∷ args) (suc i) arg e within is =
    let later = HasKind-at columns kinds args i arg (both (arg_fits columns kind first) (args_fit columns kinds args) e).1 (omega arith) is in
    record { kind = later.kind; there = later.there; fit = later.fit }

-- one more value of its kind
all_fit-push : (kinds : List Kind) (values : List Value) (kind : Kind) (value : Value) → all_fit kinds values ≡ true → fits kind value ≡ true → all_fit (kinds ++ kind ∷ []) (values ++ value ∷ []) ≡ true
all_fit-push [] [] kind value e here = both_true (fits kind value) true here refl
all_fit-push [] (first ∷ values) kind value e here = cc
all_fit-push (first ∷ kinds) [] kind value e here = cc
all_fit-push (k ∷ kinds) (v ∷ values) kind value e here =
    let parts = both (fits k v) (all_fit kinds values) e in
    both_true (fits k v) (all_fit (kinds ++ kind ∷ []) (values ++ value ∷ [])) parts.0 (all_fit-push kinds values kind value parts.1 here)

-- the kinds up to a place, with the one there
take-slice_get : {A : Type 0} (xs : List A) (i : ℕ) (x : A) → slice_get xs i ≡ Some x → take (i + 1) xs ≡ take i xs ++ x ∷ []
take-slice_get xs i x e = take_more xs i x (slice_get_within xs i x e) ∙ ap (λ y. take i xs ++ y ∷ []) (get_or_from_slice_get xs i x x e)

-- the value of one more argument has its kind
pub all_fit-more : (columns : List Column) (kinds : List Kind) (args : List BoundArg) (i : ℕ) (arg : BoundArg) (values : List Value) (value : Value)
    → args_fit columns kinds args ≡ true → i < length args → arg ≡ get_or args i arg
    → all_fit (take i kinds) values ≡ true → ((kind : Kind) → arg_fits columns kind arg ≡ true → fits kind value ≡ true)
    → all_fit (take (i + 1) kinds) (values ++ value ∷ []) ≡ true
all_fit-more columns kinds args i arg values value e within is before here =
    let has = HasKind-at columns kinds args i arg e within is in
    ap (λ ks. all_fit ks (values ++ value ∷ [])) (take-slice_get kinds i has.kind has.there)
    ∙ all_fit-push (take i kinds) values has.kind value before (here has.kind has.fit)

-- the values of all arguments have the kinds
pub all_fit-all : (columns : List Column) (kinds : List Kind) (args : List BoundArg) (i : ℕ) (values : List Value)
    → args_fit columns kinds args ≡ true → length args ≤ i → all_fit (take i kinds) values ≡ true → all_fit kinds values ≡ true
all_fit-all columns kinds args i values e all before =
    ap (λ ks. all_fit ks values) (sym (take_all i kinds (omega (arith, length-args_fit columns kinds args e)))) ∙ before

-- the values of the first arguments, with one more
pub args_in-more : (row : List Value) (args : List BoundArg) (i : ℕ) (arg : BoundArg) → i < length args → arg ≡ get_or args i arg
    → args_in (take (i + 1) args) row ≡ args_in (take i args) row ++ arg_value row arg ∷ []
args_in-more row args i arg within is =
    ap (λ some. args_in some row) (take_more args i arg within ∙ ap (λ a. take i args ++ a ∷ []) (sym is))
    ∙ map-append (arg_value row) (take i args) (arg ∷ [])
