-- The first item of which something is so, and the items up to it.
use Rattle.std.proofs.Common.{◌≡◌, ◌∙◌, ◌++◌, Bool, true, false, List, [], ◌∷◌, refl, sym, ap, subst, append-nil, if◌then◌else◌}
use Rattle.std.specs.Prelude.{Option, Some, None}
use Rattle.std.specs.List.{AllByRecursion}
use Rattle.rs_query.specs.Questions.{first_of, through_first}

module _ {A : Type 0} (is : A → Bool) where
  -- where it is so of no item, the items up to it are all
  pub through-all : (xs : List A) → first_of is xs ≡ None → through_first is xs ≡ xs
  through-all [] none = refl
  through-all (x ∷ xs) none = go (is x) (through-all xs) none where
    go : (b : Bool) → (first_of is xs ≡ None → through_first is xs ≡ xs) → (if b then Some x else first_of is xs) ≡ None → (x ∷ (if b then [] else through_first is xs)) ≡ x ∷ xs
    go true behind e = absurd (cc)
    go false behind e = ap (λ rest. x ∷ rest) (behind e)

  -- the same, and others behind them
  pub first-behind : (xs ys : List A) → first_of is xs ≡ None → first_of is (xs ++ ys) ≡ first_of is ys
  first-behind [] ys none = refl
  first-behind (x ∷ xs) ys none = go (is x) (first-behind xs ys) none where
    go : (b : Bool) → (first_of is xs ≡ None → first_of is (xs ++ ys) ≡ first_of is ys) → (if b then Some x else first_of is xs) ≡ None
        → (if b then Some x else first_of is (xs ++ ys)) ≡ first_of is ys
    go true behind e = absurd (cc)
    go false behind e = behind e

  pub through-behind : (xs ys : List A) → first_of is xs ≡ None → through_first is (xs ++ ys) ≡ xs ++ through_first is ys
  through-behind [] ys none = refl
  through-behind (x ∷ xs) ys none = go (is x) (through-behind xs ys) none where
    go : (b : Bool) → (first_of is xs ≡ None → through_first is (xs ++ ys) ≡ xs ++ through_first is ys) → (if b then Some x else first_of is xs) ≡ None
        → (x ∷ (if b then [] else through_first is (xs ++ ys))) ≡ x ∷ (xs ++ through_first is ys)
    go true behind e = absurd (cc)
    go false behind e = ap (λ rest. x ∷ rest) (behind e)

  -- where it is so of an item, others behind them change nothing
  pub first-found : (xs ys : List A) (found : A) → first_of is xs ≡ Some found → first_of is (xs ++ ys) ≡ Some found
  first-found [] ys found e = absurd (cc)
  first-found (x ∷ xs) ys found e = go (is x) (first-found xs ys found) e where
    go : (b : Bool) → (first_of is xs ≡ Some found → first_of is (xs ++ ys) ≡ Some found) → (if b then Some x else first_of is xs) ≡ Some found
        → (if b then Some x else first_of is (xs ++ ys)) ≡ Some found
    go true behind e = e
    go false behind e = behind e

  pub through-found : (xs ys : List A) (found : A) → first_of is xs ≡ Some found → through_first is (xs ++ ys) ≡ through_first is xs
  through-found [] ys found e = absurd (cc)
  through-found (x ∷ xs) ys found e = go (is x) (through-found xs ys found) e where
    go : (b : Bool) → (first_of is xs ≡ Some found → through_first is (xs ++ ys) ≡ through_first is xs) → (if b then Some x else first_of is xs) ≡ Some found
        → (x ∷ (if b then [] else through_first is (xs ++ ys))) ≡ x ∷ (if b then [] else through_first is xs)
    go true behind e = refl
    go false behind e = ap (λ rest. x ∷ rest) (behind e)

  -- the items up to the first one begin with those of the first items; where one of these is the first, there are no more
  pub record Leads (xs ys : List A) : Type 0 where
    pub more : List A
    pub is_split : through_first is (xs ++ ys) ≡ through_first is xs ++ more
    pub found : (x : A) → first_of is xs ≡ Some x → more ≡ []
    pub behind : first_of is xs ≡ None → more ≡ through_first is ys

  pub Leads-with : (xs ys : List A) → Leads xs ys
  Leads-with xs ys = go (first_of is xs) refl where
    go : (first : Option A) → first_of is xs ≡ first → Leads xs ys
    go None e = record {
      more = through_first is ys;
      is_split = through-behind xs ys e ∙ ap (λ all. all ++ through_first is ys) (sym (through-all xs e));
      found = λ x some. absurd (cc);
      behind = λ none. refl;
    }
    go (Some x) e = record {
      more = [];
      is_split = through-found xs ys x e ∙ sym (append-nil (through_first is xs));
      found = λ y some. refl;
      behind = λ none. absurd (cc);
    }

  -- what holds of each item holds of the first one of which it is so, and of those up to it
  pub each-first : (P : A → Type 0) (xs : List A) (found : A) → AllByRecursion P xs → first_of is xs ≡ Some found → P found
  each-first P [] found h e = absurd (cc)
  each-first P (x ∷ xs) found h e = go (is x) (each-first P xs found h.1) e where
    go : (b : Bool) → (first_of is xs ≡ Some found → P found) → (if b then Some x else first_of is xs) ≡ Some found → P found
    go true behind same = let here : x ≡ found = cc in subst P here h.0
    go false behind same = behind same

  pub each-through : (P : A → Type 0) (xs : List A) → AllByRecursion P xs → AllByRecursion P (through_first is xs)
  each-through P [] h = tt
  each-through P (x ∷ xs) h = (h.0, go (is x) (each-through P xs h.1)) where
    go : (b : Bool) → AllByRecursion P (through_first is xs) → AllByRecursion P (if b then [] else through_first is xs)
    go true behind = tt
    go false behind = behind
