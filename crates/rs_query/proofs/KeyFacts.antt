-- The first row and the next rows of each key, as one more row is done.
use Rattle.std.proofs.Common.{ℕ, ◌≡◌, ◌∙◌, ◌+◌, ◌-◌, ◌<◌, ◌≤◌, ◌++◌, cond, List, [], ◌∷◌, length, take, get_or, set, Option, Some, refl, sym, ap, subst, inl, inr, arith}
use Rattle.std.specs.Prelude.{slice_get, unwrap_or}
use Rattle.std.specs.Cmp.{IsTotalOrder}
use Rattle.std.specs.Ordering.{is_eq}
use Rattle.std.specs.declared.cmp.Ordering.{Ordering}
use Rattle.std.specs.declared.cmp.Ordering.TheVariants.{Less, Equal, Greater}
use Rattle.std.proofs.lemmas.Bool.{cases_lt}
use Rattle.std.proofs.lemmas.Cmp.{tied_back}
use Rattle.std.proofs.lemmas.List.{get_or-set_other, get_or-set_same, get_or-take, get_or_push, length_push, take-append-le, take-take}
use Rattle.std.proofs.lemmas.Option.{slice_get_read, unwrap_or-slice_get}
use Rattle.rs_query.specs.EqualRows.{AreNextBehind, HasKey, IsEqualKey, IsNext}
use Rattle.rs_query.proofs.NextFacts.{IsNext-further, IsNext-here}

-- the last key of the first ones
pub record IsLast {K : Type 0} (all left : List K) (key : K) : Type 0 where
  pub within : length left < length all
  pub key_there : slice_get all (length left) ≡ Some key
  pub others : left ≡ take (length left) all

pub IsLast-popped : {K : Type 0} (all first left : List K) (key : K) → first ≡ left ++ key ∷ [] → length first ≤ length all → first ≡ take (length first) all → IsLast all left key
IsLast-popped all first left key is most taken =
    let count : length first ≡ length left + 1 = ap length is ∙ length_push left key in
    let within : length left < length all = omega arith in
    let at : get_or all (length left) key ≡ key =
    sym (get_or-take (length first) all (length left) key (omega arith)) ∙ ap (λ list. get_or list (length left) key) (sym taken ∙ is) ∙ get_or_push left key key (length left) refl in
    record {
      within = within;
      key_there = slice_get_read all (length all) (length left) key refl within (sym at);
      others = sym (take-append-le (length left) left (key ∷ []) (omega arith) ∙ take_whole left)
          ∙ ap (take (length left)) (sym is ∙ taken) ∙ take-take (length left) (length first) all (omega arith);
    }
  where
    take_whole : {K : Type 0} (xs : List K) → take (length xs) xs ≡ xs
    take_whole [] = refl
    take_whole (x ∷ xs) = ap (λ rest. x ∷ rest) (take_whole xs)

module _ {K : Type 0} (cmp : K → K → Ordering) (o : IsTotalOrder cmp) (all : List K) where
  -- the row of this number has this key
  row-key : (n : ℕ) (key q : K) → slice_get all n ≡ Some key → HasKey cmp all q (n + 1) → cmp q key ≡ Equal
  row-key n key q there has =
      subst (IsEqualKey cmp q) (ap (slice_get all) (let back : n + 1 - 1 ≡ n = omega arith in back) ∙ there) has

  has-row : (n : ℕ) (key q : K) → slice_get all n ≡ Some key → cmp q key ≡ Equal → HasKey cmp all q (n + 1)
  has-row n key q there tied =
      subst (IsEqualKey cmp q) (sym (ap (slice_get all) (let back : n + 1 - 1 ≡ n = omega arith in back) ∙ there)) tied

  -- it is the first one of its key now, and changes nothing of the other keys
  pub firsts-step : (n : ℕ) (key : K) (old new : K → Option ℕ) → n < length all → slice_get all n ≡ Some key
      → ((q : K) → new q ≡ cond (is_eq (cmp key q)) (Some (n + 1)) (old q))
      → ((q : K) → IsNext (HasKey cmp all q) (n + 1) (length all) (unwrap_or (old q) 0)) → (q : K) → IsNext (HasKey cmp all q) n (length all) (unwrap_or (new q) 0)
  firsts-step n key old new within there put so_far q =
      subst (λ found. IsNext (HasKey cmp all q) n (length all) (unwrap_or found 0)) (sym (put q)) (go (cmp key q) refl) where
        other : (cmp key q ≡ Equal → ⊥) → IsNext (HasKey cmp all q) n (length all) (unwrap_or (old q) 0)
        other apart = IsNext-further (HasKey cmp all q) n (length all) (unwrap_or (old q) 0) (λ has. apart (tied_back o q key (row-key n key q there has))) (so_far q)

        go : (r : Ordering) → cmp key q ≡ r → IsNext (HasKey cmp all q) n (length all) (unwrap_or (cond (is_eq r) (Some (n + 1)) (old q)) 0)
        go Less e = other (λ tied. (let none : ◌≡◌ {A = Ordering} Less Equal = sym e ∙ tied in cc))
        go Equal e = IsNext-here (HasKey cmp all q) n (length all) (let most : n + 1 ≤ length all = omega arith in most) (has-row n key q there (tied_back o key q e))
        go Greater e = other (λ tied. (let none : ◌≡◌ {A = Ordering} Greater Equal = sym e ∙ tied in cc))

  -- and the row that was the first one is its next
  pub nexts-step : (n found : ℕ) (key : K) (rows : List ℕ) → length rows ≡ length all → n < length all → slice_get all n ≡ Some key
      → IsNext (HasKey cmp all key) (n + 1) (length all) found → AreNextBehind cmp (n + 1) all rows → AreNextBehind cmp n all (set rows n found)
  nexts-step n found key rows sized within there next so_far row other above at = elim (cases_lt (n + 1) row) [
    | inl further ↦
        subst (IsNext (HasKey cmp all other) row (length all))
        (unwrap_or-slice_get rows (row - 1) 0
        ∙ sym (get_or-set_other rows n (row - 1) found 0 (omega arith))
        ∙ sym (unwrap_or-slice_get (set rows n found) (row - 1) 0))
        (so_far row other further at)
    | inr here ↦
        let is_row : row ≡ n + 1 = omega arith in
        let place : row - 1 ≡ n = omega arith in
        let same : key ≡ other = (let both : Some key ≡ Some other = sym there ∙ ap (slice_get all) (sym place) ∙ at in cc) in
        let is_found : unwrap_or (slice_get (set rows n found) (row - 1)) 0 ≡ found =
        unwrap_or-slice_get (set rows n found) (row - 1) 0 ∙ ap (λ i. get_or (set rows n found) i 0) place ∙ get_or-set_same rows n found 0 (omega arith) in
        subst (λ k. IsNext (HasKey cmp all k) row (length all) (unwrap_or (slice_get (set rows n found) (row - 1)) 0)) same
        (subst (IsNext (HasKey cmp all key) row (length all)) (sym is_found) (subst (λ r. IsNext (HasKey cmp all key) r (length all) found) (sym is_row) next))
  ]
