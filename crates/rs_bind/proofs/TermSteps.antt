-- Terms that were bound stand before those that are left.
use Rattle.std.proofs.Common.{ℕ, suc, ◌≡◌, ◌≢◌, ◌+◌, ◌<◌, Bool, true, false, List, [], ◌∷◌, ◌++◌, length, drop, refl, sym, ap, ◌∙◌, append_assoc, arith, inl, inr}
use Rattle.std.specs.Prelude.{◌==◌, Option, Result, Ok, Err, if◌then◌else◌, slice_index_or}
use Rattle.std.proofs.lemmas.Bool.Decides.{nat_tests}
use Rattle.std.proofs.lemmas.List.{drop_more, length_push}
use Rattle.rs_value.specs.Answer.{Gives}
use Rattle.rs_syntax.specs.declared.select.TermSyn.{TermSyn}
use Rattle.rs_table.specs.Appended.{appended}
use Rattle.rs_value.specs.Results.{◌>>=◌}
use Rattle.rs_catalog.specs.Catalog.{CatalogDef, number_named}
use Rattle.rs_catalog.specs.declared.index.BoundArg.{BoundArg}
use Rattle.rs_catalog.specs.declared.room.What.TheVariants as what
use Rattle.rs_query.specs.WellFormed.{argument_columns, entries_mask}
use Rattle.rs_query.specs.declared.term.Term.{Term}
use Rattle.rs_typing.specs.declared.fault.BindFault.{BindFault}
use Rattle.rs_typing.specs.declared.fault.BindFault.TheVariants.{At, Memory}
use Rattle.rs_typing.specs.declared.fault.Why.TheVariants.{DistinctNeedsOutput, NoPredicate}
use Rattle.rs_typing.specs.Missing.{or_fault}
use Rattle.rs_bind.specs.Indexes.{Entries, params_in, term_args}
use Rattle.rs_bind.specs.Names.{number_in}
use Rattle.rs_bind.specs.Queries.{are_outputs, max_in, most_weight, terms_behind, terms_of}
use Rattle.rs_bind.specs.Sources.{Found}
use Rattle.rs_bind.specs.Terms.{term_of}

-- the steps of a term, and then the other terms: the outputs are looked at before the others
module _ (args : ℕ → Result (List BoundArg) BindFault) (test : List BoundArg → Bool) (fault : BindFault) (make : ℕ → ℕ → List BoundArg → Term)
    (others : Result (List Term) BindFault) where
  steps-test : (weight predicate : ℕ) (made : List BoundArg) (well : Bool)
      → ((if well then others else Err fault) >>= λ more. Ok (make weight predicate made ∷ more))
      ≡ ((if well then Ok (make weight predicate made) else Err fault) >>= λ first. others >>= λ more. Ok (first ∷ more))
  steps-test weight predicate made true = refl
  steps-test weight predicate made false = refl

  steps-args : (weight predicate : ℕ) (answer : Result (List BoundArg) BindFault)
      → (answer >>= λ made. (if test made then others else Err fault) >>= λ more. Ok (make weight predicate made ∷ more))
      ≡ ((answer >>= λ made. if test made then Ok (make weight predicate made) else Err fault) >>= λ first. others >>= λ more. Ok (first ∷ more))
  steps-args weight predicate (Ok made) = steps-test weight predicate made (test made)
  steps-args weight predicate (Err other) = refl

  steps-predicate : (weight : ℕ) (answer : Result ℕ BindFault)
      → (answer >>= λ predicate. args predicate >>= λ made. (if test made then others else Err fault) >>= λ more. Ok (make weight predicate made ∷ more))
      ≡ ((answer >>= λ predicate. args predicate >>= λ made. if test made then Ok (make weight predicate made) else Err fault)
      >>= λ first. others >>= λ more. Ok (first ∷ more))
  steps-predicate weight (Ok predicate) = steps-args weight predicate (args predicate)
  steps-predicate weight (Err other) = refl

  steps-weight : (answer found : Result ℕ BindFault)
      → (answer >>= λ weight. found >>= λ predicate. args predicate >>= λ made. (if test made then others else Err fault)
      >>= λ more. Ok (make weight predicate made ∷ more))
      ≡ ((answer >>= λ weight. found >>= λ predicate. args predicate >>= λ made. if test made then Ok (make weight predicate made) else Err fault)
      >>= λ first. others >>= λ more. Ok (first ∷ more))
  steps-weight (Ok weight) found = steps-predicate weight found
  steps-weight (Err other) found = refl

-- the item at an index stands first in what is left from there
drop-item : {A : Type 0} (xs : List A) (i : ℕ) (x : A) → i < length xs → x ≡ slice_index_or xs i x → drop i xs ≡ x ∷ drop (i + 1) xs
drop-item xs i x within is = drop_more xs i x within ∙ ap (λ y. y ∷ drop (i + 1) xs) (sym is)

-- one more term was bound
appended-next : (made : List Term) (term : Term) (rest : Result (List Term) BindFault)
    → appended made (rest >>= λ more. Ok (term ∷ more)) ≡ appended (made ++ term ∷ []) rest
appended-next made term (Ok more) = ap (λ all. Ok all) (sym (append_assoc made (term ∷ []) more))
appended-next made term (Err fault) = refl

module _ (catalogue : CatalogDef) (entries : Entries) (needed : Option (List Found)) where
  abbrev term_with : ℕ → ℕ → List BoundArg → Term
  term_with weight predicate args = record {
    weight = weight;
    predicate = predicate;
    args = args;
    max = max_in catalogue predicate;
    entries = entries_mask (argument_columns args);
  }

  -- what is left behind terms that were bound
  abbrev pub terms_left : List Term → List TermSyn → Result (List Term) BindFault
  terms_left made left = appended made (terms_behind catalogue entries needed (length made) left)

  -- a term that may stand there, and then the others
  behind-next : (before : ℕ) (t : TermSyn) (rest : List TermSyn) → before ≢ 8
      → terms_behind catalogue entries needed before (t ∷ rest)
      ≡ (term_of catalogue entries needed t >>= λ first. terms_behind catalogue entries needed (suc before) rest >>= λ more. Ok (first ∷ more))
  behind-next before t rest room =
      let test : (before == 8) ≡ false = grind (arith, nat_tests) in
      rw test
      (steps-weight (λ predicate. term_args entries (params_in catalogue predicate) t.args t.at) (λ args. are_outputs needed (argument_columns args))
      (At DistinctNeedsOutput t.at) term_with (terms_behind catalogue entries needed (suc before) rest) (number_in 1 most_weight t.weight)
      (or_fault (At NoPredicate t.predicate.at) (number_named what.Predicate t.predicate.text catalogue)))

  -- a term that is refused
  left-refused : (made : List Term) (t : TermSyn) (rest : List TermSyn) (fault : BindFault) → length made ≢ 8
      → term_of catalogue entries needed t ≡ Err fault → terms_left made (t ∷ rest) ≡ Err fault
  left-refused made t rest fault room refused =
      let others = terms_behind catalogue entries needed (suc (length made)) rest in
      ap (appended made) (behind-next (length made) t rest room
      ∙ ap (λ (answer : Result Term BindFault). answer >>= λ first. others >>= λ more. Ok (first ∷ more)) refused)

  -- a term that is bound
  left-next : (made : List Term) (t : TermSyn) (rest : List TermSyn) (term : Term) → length made ≢ 8
      → term_of catalogue entries needed t ≡ Ok term → terms_left made (t ∷ rest) ≡ terms_left (made ++ term ∷ []) rest
  left-next made t rest term room is =
      let others = terms_behind catalogue entries needed (suc (length made)) rest in
      let grown : suc (length made) ≡ length (made ++ term ∷ []) = omega (arith, length_push made term) in
      ap (appended made) (behind-next (length made) t rest room
      ∙ ap (λ (answer : Result Term BindFault). answer >>= λ first. others >>= λ more. Ok (first ∷ more)) is)
      ∙ (appended-next made term others ∙ ap (λ n. appended (made ++ term ∷ []) (terms_behind catalogue entries needed n rest)) grown)

  -- the same at an index
  module _ (terms : List TermSyn) (made : List Term) (i : ℕ) (t : TermSyn) where
    read-item : i < length terms → t ≡ slice_index_or terms i t → terms_left made (drop i terms) ≡ terms_of catalogue entries needed terms
        → terms_left made (t ∷ drop (i + 1) terms) ≡ terms_of catalogue entries needed terms
    read-item within is so_far = ap (terms_left made) (sym (drop-item terms i t within is)) ∙ so_far

    terms-refused : (fault : BindFault) → i < length terms → t ≡ slice_index_or terms i t
        → terms_left made (drop i terms) ≡ terms_of catalogue entries needed terms → length made ≢ 8
        → term_of catalogue entries needed t ≡ Err fault → Err fault ≡ terms_of catalogue entries needed terms
    terms-refused fault within is so_far room refused = sym (left-refused made t (drop (i + 1) terms) fault room refused) ∙ read-item within is so_far

    terms-next : (term : Term) → i < length terms → t ≡ slice_index_or terms i t
        → terms_left made (drop i terms) ≡ terms_of catalogue entries needed terms → length made ≢ 8
        → term_of catalogue entries needed t ≡ Ok term → (more : List Term) → more ≡ (made ++ term ∷ [])
        → terms_left more (drop (i + 1) terms) ≡ terms_of catalogue entries needed terms
    terms-next term within is so_far room next more more_is =
        rw more_is (sym (left-next made t (drop (i + 1) terms) term room next) ∙ read-item within is so_far)

    pub refused-given : (fault : BindFault) → i < length terms → t ≡ slice_index_or terms i t
        → terms_left made (drop i terms) ≡ terms_of catalogue entries needed terms → length made ≢ 8
        → Gives Memory (term_of catalogue entries needed t) (Err fault) → Gives Memory (terms_of catalogue entries needed terms) (Err fault)
    refused-given fault within is so_far room (inl h) = inl (terms-refused fault within is so_far room (sym h))
    refused-given fault within is so_far room (inr h) =
        let same : fault ≡ Memory = cc in
        inr (ap (λ (f : BindFault). Err f) same)

    pub next-given : (term : Term) → i < length terms → t ≡ slice_index_or terms i t
        → terms_left made (drop i terms) ≡ terms_of catalogue entries needed terms → length made ≢ 8
        → Gives Memory (term_of catalogue entries needed t) (Ok term) → (more : List Term) → more ≡ (made ++ term ∷ [])
        → terms_left more (drop (i + 1) terms) ≡ terms_of catalogue entries needed terms
    next-given term within is so_far room (inl h) more more_is = terms-next term within is so_far room (sym h) more more_is
    next-given term within is so_far room (inr h) more more_is = cc
