-- One question, with its result told in other words.
use Rattle.std.proofs.Common.{ℕ, ℤ, ◌≡◌, ◌∙◌, ◌++◌, List, [], ◌∷◌, refl, sym, ap, subst, inl, inr}
use Rattle.std.specs.Prelude.{Option, Some, None, Result, Ok, Err, IsOk, ok_or}
use Rattle.rs_expr.specs.InOrder.{InquiryFails, InquiryStops, Inquires, Request, calls_of}
use Rattle.rs_expr.specs.Scores.{score_within}
use Rattle.rs_expr.specs.Scoring.{Made, ScorerState}
use Rattle.rs_expr.proofs.InOrderFacts.{one}
use Rattle.rs_rank.specs.declared.ids.Ids.{Ids}
use Rattle.rs_rank.specs.Ids.{ids_inside}
use Rattle.rs_catalog.specs.Catalog.{CatalogDef}
use Rattle.rs_query.specs.Asking.{ask_faults, asking_worth, faults_by, told_by, worth_for}
use Rattle.rs_query.specs.Questions.{Question, got_for, max_for, question_of, request_for}
use Rattle.rs_query.specs.declared.ask.AskFault.{AskFault}
use Rattle.rs_query.specs.declared.ask.AskFault.TheVariants.{BadScore, Memory, Probe}
use Rattle.rs_query.specs.declared.block.Block.{Block}
use Rattle.rs_query.specs.declared.term.Term.{Term}
use Rattle.rs_query.proofs.AskFacts.{inquiry-is}

-- one request, whose result a function tells in other words
module _ {A B F G : Type 0} (tell : Result A F → Result B G) (memory : F) (other : G) (request : Request F) (outcome : Result A F) (failed : G)
    (fails_so : tell (Err request.failed) ≡ Err failed) (stops_so : tell (Err memory) ≡ Err other) (good_so : IsOk outcome → IsOk (tell outcome)) where
  abbrev retold : Request G
  retold = record { call = request.call; failed = failed }

  -- the one request is the last one
  only : (done rest : List (Request F)) (last : Request F) → request ∷ [] ≡ done ++ last ∷ rest → (done ≡ []) × (request ≡ last)
  only [] rest last split = (refl, let same : request ≡ last = cc in same)
  only (first ∷ []) rest last split = cc
  only (first ∷ second ∷ done) rest last split = cc

  told-fails : (result : Result A F) (old new : ScorerState) → InquiryFails (one request outcome) result old new → InquiryFails (one retold (tell outcome)) (tell result) old new
  told-fails result old new fails =
      let last = only fails.done fails.rest fails.last fails.split in record {
        done = [];
        last = retold;
        rest = [];
        split = refl;
        made = subst (λ (r : Request F). Made (r.call ∷ []) old new) (sym last.1)
            (subst (λ (done : List (Request F)). Made (calls_of (done ++ fails.last ∷ [])) old new) last.0 fails.made);
        faulted = fails.faulted;
        gives = ap tell (fails.gives ∙ ap (λ (r : Request F). Err r.failed) (sym last.1)) ∙ fails_so;
      }

  told-stops : (result : Result A F) (old new : ScorerState) → InquiryStops memory (one request outcome) result old new → InquiryStops other (one retold (tell outcome)) (tell result) old new
  told-stops result old new stops = go stops.done stops.rest stops.split stops.good stops.made where
    gives : tell result ≡ Err other
    gives = ap tell stops.gives ∙ stops_so

    go : (done rest : List (Request F)) → request ∷ [] ≡ done ++ rest → (rest ≡ [] → IsOk outcome) → Made (calls_of done) old new
        → InquiryStops other (one retold (tell outcome)) (tell result) old new
    go [] rest split good made = record { done = []; rest = retold ∷ []; split = refl; good = λ e. cc; made = made; gives = gives }
    go (first ∷ []) rest split good made =
        let same : request ≡ first = cc in record {
          done = retold ∷ [];
          rest = [];
          split = refl;
          good = λ e. good_so (good (let none : rest ≡ [] = cc in none));
          made = subst (λ (r : Request F). Made (r.call ∷ []) old new) (sym same) made;
          gives = gives;
        }
    go (first ∷ second ∷ done) rest split good made = cc

  pub Inquires-retold : (result : Result A F) (old new : ScorerState) → Inquires memory (one request outcome) result old new
      → Inquires other (one (record { call = request.call; failed = failed }) (tell outcome)) (tell result) old new
  Inquires-retold result old new inquires = record {
    comes = elim inquires.comes [
      | inl (inl ends) ↦ inl (inl (record { made = ends.made; gives = ap tell ends.gives }))
      | inl (inr fails) ↦ inl (inr (told-fails result old new fails))
      | inr stops ↦ inr (told-stops result old new stops)
    ];
    keeps = inquires.keeps;
  }

-- a question told in the words of a caller's own faults
module _ {F : Type 0} (told : AskFault → F) (catalogue : CatalogDef) (block : Block) (ids : Ids) (term : Term) where
  abbrev question : Question
  question = question_of ids.block block ids.rows term

  told-worth : (max : ℕ) (got : ℤ) → told_by told (worth_for ask_faults term ids max got) ≡ worth_for (faults_by told) term ids max got
  told-worth max got = go (score_within max got) where
    go : (score : Option ℕ) → told_by told (ok_or score (BadScore term.predicate (ids_inside ids.block term.entries ids.rows) got max))
        ≡ ok_or score (told (BadScore term.predicate (ids_inside ids.block term.entries ids.rows) got max))
    go (Some worth) = refl
    go None = refl

  good : (result : Result ℕ AskFault) → IsOk result → IsOk (told_by told result)
  good (Ok worth) ok = refl
  good (Err fault) ok = absurd (cc)

  pub Inquires-told : (result : Result ℕ AskFault) (old new : ScorerState) → Inquires Memory (asking_worth ask_faults old.answer catalogue block ids term) result old new
      → Inquires (told Memory) (asking_worth (faults_by told) old.answer catalogue block ids term) (told_by told result) old new
  Inquires-told result old new inquires =
      let answer = old.answer in
      let worth = worth_for ask_faults term ids (max_for catalogue question) (got_for answer catalogue question) in
      subst (λ i. Inquires (told Memory) i (told_by told result) old new)
      (ap (one (request_for (faults_by told) catalogue question)) (told-worth (max_for catalogue question) (got_for answer catalogue question))
      ∙ sym (inquiry-is (faults_by told) (told Memory) catalogue block ids term answer))
      (Inquires-retold (told_by told) Memory (told Memory) (request_for ask_faults catalogue question) worth (told (Probe term.predicate)) refl refl (good worth) result old new
      (subst (λ i. Inquires Memory i result old new) (inquiry-is ask_faults Memory catalogue block ids term answer) inquires))
