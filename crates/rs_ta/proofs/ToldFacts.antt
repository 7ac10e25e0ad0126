-- What is told of random accesses: nothing new, some behind others, and those of one row list by list.
use Rattle.std.proofs.Common.{◌≡◌, ℕ, zero, suc, ◌+◌, ◌++◌, Bool, true, false, cond, not, eqb, List, [], ◌∷◌, map, Option, Some, None, refl, sym, ◌∙◌, ap, subst, inl, inr, arith}
use Rattle.std.specs.Prelude.{IfSome, option_map}
use Rattle.std.proofs.lemmas.List.{append-nil, append_assoc, map-append}
use Rattle.std.proofs.lemmas.List.Concat.{flat_map-append}
use Rattle.std.proofs.lemmas.List.Elements.{filter-append}
use Rattle.std.specs.List.{filter, flat_map}
use Rattle.rs_order.specs.Climbing.{In}
use Rattle.rs_order.specs.Schedule.{numbers_from}
use Rattle.rs_ta.specs.Depths.{Sight, first_sights, looked_up, lookups_of, rows_shown}
use Rattle.rs_ta.specs.Lists.{AreTold}
use Rattle.rs_ta.specs.declared.lists.Lookup.{Lookup}
use Rattle.rs_ta.proofs.SightFacts.{In-shown, In-shown-back, first_sights-new, first_sights-old}

-- no random access
pub told-none : (told : Option (List Lookup)) → AreTold [] told told
told-none None = inr refl
told-none (Some told) = inr (ap (λ all. Some all) (sym (append-nil told)))

-- some behind others
pub told-then : (first more : List Lookup) (old middle new : Option (List Lookup)) → AreTold first old middle → AreTold more middle new → AreTold (first ++ more) old new
told-then first more old middle new one (inl none) = inl none
told-then first more old middle new (inl none) (inr is) = inl (is ∙ ap (option_map (λ before. before ++ more)) none)
told-then first more old middle new (inr was) (inr is) = inr (is ∙ ap (option_map (λ before. before ++ more)) was ∙ both old)
  where
    both : (old : Option (List Lookup)) → option_map (λ before. before ++ more) (option_map (λ before. before ++ first) old) ≡ option_map (λ before. before ++ (first ++ more)) old
    both None = refl
    both (Some told) = ap (λ all. Some all) (append_assoc told first more)

-- what is told then
pub told-behind : (first more : List Lookup) (old new : Option (List Lookup)) → AreTold more old new → IfSome old (λ told. told ≡ first) → IfSome new (λ told. told ≡ first ++ more)
told-behind first more old new (inl none) is = subst (λ all. IfSome all (λ told. told ≡ first ++ more)) (sym none) tt
told-behind first more old new (inr then) is = subst (λ all. IfSome all (λ told. told ≡ first ++ more)) (sym then) (go old is)
  where
    go : (old : Option (List Lookup)) → IfSome old (λ told. told ≡ first) → IfSome (option_map (λ before. before ++ more) old) (λ told. told ≡ first ++ more)
    go None is = tt
    go (Some told) is = ap (λ all. all ++ more) is

pub told-same : (first all : List Lookup) (told : Option (List Lookup)) → first ≡ all → IfSome told (λ told. told ≡ first) → IfSome told (λ told. told ≡ all)
told-same first all told same is = subst (λ xs. IfSome told (λ told. told ≡ xs)) same is

-- the look-ups of a row in one list more
numbers-next : (first n : ℕ) → numbers_from first (suc n) ≡ numbers_from first n ++ (first + n) ∷ []
numbers-next first zero = let same : first ≡ first + 0 = omega arith in ap (λ k. k ∷ []) same
numbers-next first (suc n) =
    let same : suc first + n ≡ first + suc n = omega arith in
    ap (λ (rest : List ℕ). first ∷ rest) (numbers-next (suc first) n) ∙ ap (λ k. numbers_from first (suc n) ++ k ∷ []) same

abbrev pub lookup_unless : ℕ → ℕ → ℕ → List Lookup
lookup_unless row shown list = cond (eqb list shown) [] (record { row = row; list = list } ∷ [])

pub lookups_of-next : (row shown place : ℕ) →
    lookups_of (place + 1) (record { row = row; list = shown }) ≡ lookups_of place (record { row = row; list = shown }) ++ lookup_unless row shown (place + 1)
lookups_of-next row shown place =
    let n : place + 1 ≡ suc place = omega arith in
    let m : 1 + place ≡ place + 1 = omega arith in
    ap (λ k. map lookup (filter other (numbers_from 1 k))) n
    ∙ ap (λ (ns : List ℕ). map lookup (filter other ns)) (numbers-next 1 place ∙ ap (λ k. numbers_from 1 place ++ k ∷ []) m)
    ∙ ap (map lookup) (filter-append other (numbers_from 1 place) ((place + 1) ∷ []))
    ∙ map-append lookup (filter other (numbers_from 1 place)) (filter other ((place + 1) ∷ []))
    ∙ ap (λ part. map lookup (filter other (numbers_from 1 place)) ++ part) (last (eqb (place + 1) shown))
  where
    lookup : ℕ → Lookup
    lookup list = record { row = row; list = list }

    other : ℕ → Bool
    other list = not (eqb list shown)

    last : (b : Bool) → map lookup (cond (not b) ((place + 1) ∷ []) []) ≡ cond b [] (record { row = row; list = place + 1 } ∷ [])
    last true = refl
    last false = refl

-- one more sight: of a row that was shown already, and of a new one
pub looked_up-old : (lists : ℕ) (shown : List Sight) (sight : Sight) → In sight.row (rows_shown shown) → looked_up lists (shown ++ sight ∷ []) ≡ looked_up lists shown
looked_up-old lists shown sight h = ap (flat_map (lookups_of lists)) (first_sights-old shown sight (In-shown-back sight.row shown h))

pub looked_up-new : (lists : ℕ) (shown : List Sight) (sight : Sight) → (In sight.row (rows_shown shown) → ⊥) →
    looked_up lists (shown ++ sight ∷ []) ≡ looked_up lists shown ++ lookups_of lists sight
looked_up-new lists shown sight none =
    ap (flat_map (lookups_of lists)) (first_sights-new shown sight (λ h. none (In-shown sight.row shown h)))
    ∙ flat_map-append (lookups_of lists) (first_sights shown) (sight ∷ [])
    ∙ ap (λ part. looked_up lists shown ++ part) (append-nil (lookups_of lists sight))
