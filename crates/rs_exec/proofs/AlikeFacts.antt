-- Rows with the same output values have the same worths: each column of a term is an output column.
use Rattle.std.proofs.Common.{◌≡◌, ◌∙◌, ℕ, suc, ◌==◌, ◌||◌, Bool, true, false, cond, eqb, List, [], ◌∷◌, map, Some, refl, sym, ap, ap₂}
use Rattle.std.proofs.lemmas.Bool.{and_parts, eqb-true}
use Rattle.std.proofs.lemmas.Option.{same_Some, slice_get-map}
use Rattle.std.specs.List.{AllByRecursion, list_any}
use Rattle.std.specs.Prelude.{option_map, slice_get}
use Rattle.rs_expr.specs.Scoring.{Answering}
use Rattle.rs_catalog.specs.Catalog.{CatalogDef}
use Rattle.rs_catalog.specs.declared.index.BoundArg.{BoundArg}
use Rattle.rs_catalog.specs.declared.index.BoundArg.TheVariants as arg
use Rattle.rs_query.specs.Answers.{clamped, predicate_at, worth_of}
use Rattle.rs_query.specs.Meaning.{argument_value, column_value, outputs_of}
use Rattle.rs_query.specs.WellFormed.{AreSameArg, AreSameArgs, AreSameTerm, AreSameTerms, HasOutputs, IsOutput, IsQuery, argument_columns, same_column}
use Rattle.rs_query.specs.declared.block.Block.{Block}
use Rattle.rs_query.specs.declared.query.Query.{Query}
use Rattle.rs_query.specs.declared.query.Query.TheVariants.{One, Set}
use Rattle.rs_query.specs.declared.term.Term.{Term}
use Rattle.rs_rank.specs.Weights.{evaluated}
use Rattle.rs_rank.specs.declared.ids.Ids.{Ids}
use Rattle.rs_value.specs.declared.value.Value.{Value}
use Rattle.rs_plan.specs.Lists.{World, row_under, weights_in}
use Rattle.rs_query.specs.Blocks.{block_in}
use Rattle.rs_exec.specs.OutputValues.{values_for}

-- the place of an item that passes a test
record Passes {X : Type 0} (p : X → Bool) (xs : List X) : Type 0 where
  place : ℕ
  item : X
  there : slice_get xs place ≡ Some item
  passes : p item ≡ true

passes-behind : {X : Type 0} (p : X → Bool) (x : X) (xs : List X) → Passes p xs → Passes p (x ∷ xs)
passes-behind p x xs found = record { place = suc found.place; item = found.item; there = found.there; passes = found.passes }

any-passes : {X : Type 0} (p : X → Bool) (xs : List X) → list_any p xs ≡ true → Passes p xs
any-passes p [] e = absurd (cc)
any-passes {X} p (x ∷ xs) e = go (any-passes p xs) (p x) refl where
  go : (list_any p xs ≡ true → Passes p xs) → (b : Bool) → p x ≡ b → Passes p (x ∷ xs)
  go behind true is = record { place = 0; item = x; there = refl; passes = is }
  go behind false is = passes-behind p x xs (behind (sym (ap (λ c. c || list_any p xs) is) ∙ e))

same-column : (a b : ℕ × ℕ) → same_column a b ≡ true → a ≡ b
same-column a b e =
    let parts = and_parts (a.0 == b.0) (a.1 == b.1) e in
    ap₂ (λ (m n : ℕ). (m, n)) (eqb-true a.0 b.0 parts.0) (eqb-true a.1 b.1 parts.1)

-- a block whose terms have output columns alone has the same terms as itself
own-args : (block : Block) (args : List BoundArg) → AllByRecursion (IsOutput block) (argument_columns args) → AreSameArgs block block args args
own-args block [] are = tt
own-args block (arg.Column entry column ∷ args) are =
    let found = any-passes (same_column (entry, column)) block.items are.0 in
    let there : slice_get block.items found.place ≡ Some (entry, column) = found.there ∙ ap Some (sym (same-column (entry, column) found.item found.passes)) in
    ((found.place, there, there), own-args block args are.1)
own-args block (arg.Int n ∷ args) are = (refl, own-args block args are)
own-args block (arg.Text t ∷ args) are = (refl, own-args block args are)

own-terms : (block : Block) (terms : List Term) → AllByRecursion (HasOutputs block) terms → AreSameTerms block block terms terms
own-terms block [] are = tt
own-terms block (term ∷ terms) are =
    (record { weight = refl; predicate = refl; max = refl; args = own-args block term.args are.0 }, own-terms block terms are.1)

-- so has each of two blocks with the same terms
left-args : (left right : Block) (xs bs : List BoundArg) → AreSameArgs left right xs bs → AreSameArgs left left xs xs
left-args left right [] [] are = tt
left-args left right [] (b ∷ bs) are = absurd are
left-args left right (a ∷ xs) [] are = absurd are
left-args left right (arg.Column e c ∷ xs) (arg.Column f d ∷ bs) are = ((are.0.0, are.0.1, are.0.1), left-args left right xs bs are.1)
left-args left right (arg.Column e c ∷ xs) (arg.Int n ∷ bs) are = absurd are.0
left-args left right (arg.Column e c ∷ xs) (arg.Text t ∷ bs) are = absurd are.0
left-args left right (arg.Int n ∷ xs) (b ∷ bs) are = (refl, left-args left right xs bs are.1)
left-args left right (arg.Text t ∷ xs) (b ∷ bs) are = (refl, left-args left right xs bs are.1)

right-args : (left right : Block) (xs bs : List BoundArg) → AreSameArgs left right xs bs → AreSameArgs right right bs bs
right-args left right [] [] are = tt
right-args left right [] (b ∷ bs) are = absurd are
right-args left right (a ∷ xs) [] are = absurd are
right-args left right (arg.Column e c ∷ xs) (arg.Column f d ∷ bs) are = ((are.0.0, are.0.2, are.0.2), right-args left right xs bs are.1)
right-args left right (arg.Int n ∷ xs) (arg.Column f d ∷ bs) are = absurd are.0
right-args left right (arg.Text t ∷ xs) (arg.Column f d ∷ bs) are = absurd are.0
right-args left right (a ∷ xs) (arg.Int n ∷ bs) are = (refl, right-args left right xs bs are.1)
right-args left right (a ∷ xs) (arg.Text t ∷ bs) are = (refl, right-args left right xs bs are.1)

left-terms : (left right : Block) (ts us : List Term) → AreSameTerms left right ts us → AreSameTerms left left ts ts
left-terms left right [] [] are = tt
left-terms left right [] (u ∷ us) are = absurd are
left-terms left right (t ∷ ts) [] are = absurd are
left-terms left right (t ∷ ts) (u ∷ us) are =
    (record { weight = refl; predicate = refl; max = refl; args = left-args left right t.args u.args are.0.args }, left-terms left right ts us are.1)

right-terms : (left right : Block) (ts us : List Term) → AreSameTerms left right ts us → AreSameTerms right right us us
right-terms left right [] [] are = tt
right-terms left right [] (u ∷ us) are = absurd are
right-terms left right (t ∷ ts) [] are = absurd are
right-terms left right (t ∷ ts) (u ∷ us) are =
    (record { weight = refl; predicate = refl; max = refl; args = right-args left right t.args u.args are.0.args }, right-terms left right ts us are.1)

-- rows of two blocks with the same terms and the same output values
module _ (answer : Answering) (catalogue : CatalogDef) (left right : Block) (xs ys : List ℕ) (same : outputs_of catalogue left xs ≡ outputs_of catalogue right ys) where
  column-same : (place : ℕ) (a b : ℕ × ℕ) → slice_get left.items place ≡ Some a → slice_get right.items place ≡ Some b
      → column_value catalogue left xs a ≡ column_value catalogue right ys b
  column-same place a b at_left at_right =
      same_Some (column_value catalogue left xs a) (column_value catalogue right ys b)
      (sym (slice_get-map (column_value catalogue left xs) left.items place ∙ ap (option_map (column_value catalogue left xs)) at_left)
      ∙ ap (λ (values : List Value). slice_get values place) same
      ∙ slice_get-map (column_value catalogue right ys) right.items place ∙ ap (option_map (column_value catalogue right ys)) at_right)

  argument-same : (a b : BoundArg) → AreSameArg left right a b → argument_value catalogue left xs a ≡ argument_value catalogue right ys b
  argument-same (arg.Column e c) (arg.Column f d) is = column-same is.0 (e, c) (f, d) is.1 is.2
  argument-same (arg.Column e c) (arg.Int n) is = absurd is
  argument-same (arg.Column e c) (arg.Text t) is = absurd is
  argument-same (arg.Int n) (arg.Column f d) is = absurd is
  argument-same (arg.Int n) (arg.Int m) is = ap (λ k. argument_value catalogue left xs (arg.Int k)) is
  argument-same (arg.Int n) (arg.Text t) is = absurd is
  argument-same (arg.Text t) (arg.Column f d) is = absurd is
  argument-same (arg.Text t) (arg.Int n) is = absurd is
  argument-same (arg.Text t) (arg.Text u) is = ap (λ k. argument_value catalogue left xs (arg.Text k)) is

  arguments-same : (args others : List BoundArg) → AreSameArgs left right args others
      → map (argument_value catalogue left xs) args ≡ map (argument_value catalogue right ys) others
  arguments-same [] [] are = refl
  arguments-same [] (b ∷ others) are = absurd are
  arguments-same (a ∷ args) [] are = absurd are
  arguments-same (a ∷ args) (b ∷ others) are = ap₂ (λ (v : Value) (vs : List Value). v ∷ vs) (argument-same a b are.0) (arguments-same args others are.1)

  worth-same : (t u : Term) → AreSameTerm left right t u → worth_of answer catalogue left xs t ≡ worth_of answer catalogue right ys u
  worth-same t u is =
      ap₂ (λ (number : ℕ) (args : List Value). clamped (predicate_at catalogue number).max (answer (predicate_at catalogue number) args)) is.predicate (arguments-same t.args u.args is.args)

  worths-same : (ts us : List Term) → AreSameTerms left right ts us → map (worth_of answer catalogue left xs) ts ≡ map (worth_of answer catalogue right ys) us
  worths-same [] [] are = refl
  worths-same [] (u ∷ us) are = absurd are
  worths-same (t ∷ ts) [] are = absurd are
  worths-same (t ∷ ts) (u ∷ us) are = ap₂ (λ (n : ℕ) (ns : List ℕ). n ∷ ns) (worth-same t u are.0) (worths-same ts us are.1)

-- a query in which rows with the same output values have the same worths: a set query, or a block that drops duplicates
abbrev pub IsAlike : Query → Type 0
IsAlike (One block limit) = block.distinct ≡ true
IsAlike (Set op left right limit) = Unit {0}

-- any two of its blocks have the same terms
same-terms : (catalogue : CatalogDef) (query : Query) → IsQuery catalogue query → IsAlike query → (m n : ℕ)
    → AreSameTerms (block_in query m) (block_in query n) (block_in query m).terms (block_in query n).terms
same-terms catalogue (One block limit) formed alike m n = own-terms block block.terms (formed.1 alike)
same-terms catalogue (Set op left right limit) formed alike m n =
    let are = formed.0.terms in
    elim (eqb m 1) as (λ b. AreSameTerms (cond b left right) (cond (eqb n 1) left right) (cond b left right).terms (cond (eqb n 1) left right).terms) [
      | true ↦ elim (eqb n 1) as (λ b. AreSameTerms left (cond b left right) left.terms (cond b left right).terms) [
        | true ↦ left-terms left right left.terms right.terms are
        | false ↦ are
      ]
      | false ↦ elim (eqb n 1) as (λ b. AreSameTerms right (cond b left right) right.terms (cond b left right).terms) [
        | true ↦ turned left right left.terms right.terms are
        | false ↦ right-terms left right left.terms right.terms are
      ]
    ]
  where
    turned-args : (left right : Block) (xs bs : List BoundArg) → AreSameArgs left right xs bs → AreSameArgs right left bs xs
    turned-args left right [] [] are = tt
    turned-args left right [] (b ∷ bs) are = absurd are
    turned-args left right (a ∷ xs) [] are = absurd are
    turned-args left right (arg.Column e c ∷ xs) (arg.Column f d ∷ bs) are = ((are.0.0, are.0.2, are.0.1), turned-args left right xs bs are.1)
    turned-args left right (arg.Column e c ∷ xs) (arg.Int n ∷ bs) are = absurd are.0
    turned-args left right (arg.Column e c ∷ xs) (arg.Text t ∷ bs) are = absurd are.0
    turned-args left right (arg.Int n ∷ xs) (arg.Column f d ∷ bs) are = absurd are.0
    turned-args left right (arg.Int n ∷ xs) (arg.Int m ∷ bs) are = (sym are.0, turned-args left right xs bs are.1)
    turned-args left right (arg.Int n ∷ xs) (arg.Text t ∷ bs) are = absurd are.0
    turned-args left right (arg.Text t ∷ xs) (arg.Column f d ∷ bs) are = absurd are.0
    turned-args left right (arg.Text t ∷ xs) (arg.Int n ∷ bs) are = absurd are.0
    turned-args left right (arg.Text t ∷ xs) (arg.Text u ∷ bs) are = (sym are.0, turned-args left right xs bs are.1)

    turned : (left right : Block) (ts us : List Term) → AreSameTerms left right ts us → AreSameTerms right left us ts
    turned left right [] [] are = tt
    turned left right [] (u ∷ us) are = absurd are
    turned left right (t ∷ ts) [] are = absurd are
    turned left right (t ∷ ts) (u ∷ us) are = (
      record { weight = sym are.0.weight; predicate = sym are.0.predicate; max = sym are.0.max; args = turned-args left right t.args u.args are.0.args },
      turned left right ts us are.1,
    )

-- so rows with the same output values have the same sum
pub same-sums : (w : World) (mask : ℕ) (a b : Ids) → IsQuery w.catalogue w.query → IsAlike w.query
    → values_for w.catalogue w.query (row_under w mask a) ≡ values_for w.catalogue w.query (row_under w mask b)
    → (row_under w mask a).sum ≡ (row_under w mask b).sum
same-sums w mask a b formed alike same =
    ap (evaluated (weights_in w) mask)
    (worths-same w.answer w.catalogue (block_in w.query a.block) (block_in w.query b.block) a.rows b.rows same
    (block_in w.query a.block).terms (block_in w.query b.block).terms (same-terms w.catalogue w.query formed alike a.block b.block))
