-- Inquiries: one request, one behind another, and a part of a longer one.
use Rattle.std.proofs.Common.{◌≡◌, ◌∙◌, ◌++◌, List, [], ◌∷◌, refl, sym, ap, subst, inl, inr, append_assoc, append-nil}
use Rattle.std.specs.Prelude.{ℤ, Result, Ok, Err, IsOk}
use Rattle.rs_value.proofs.OutsideFacts.{Faulted-from, Faulted-one}
use Rattle.rs_expr.specs.Scoring.{KeepsScorer, Made, ScorerState}
use Rattle.rs_expr.specs.InOrder.{InquiryEnds, Inquires, Inquiry, Request, calls_of}
use Rattle.rs_expr.specs.declared.scorer.ScorerFault.TheVariants.{Failed, Memory}
use Rattle.rs_expr.proofs.ScoringFacts.{KeepsScorer-one, KeepsScorer-refl, KeepsScorer-then, Made-append, Made-failed, Made-none, Made-ok, Made-stopped, Scored}

-- the calls of requests, and of others behind them
pub calls_of-append : {F : Type 0} (first more : List (Request F)) → calls_of (first ++ more) ≡ calls_of first ++ calls_of more
calls_of-append [] more = refl
calls_of-append (request ∷ first) more = ap (λ calls. request.call ∷ calls) (calls_of-append first more)

-- the calls of requests were made, and then those of others
pub Made-requests : {F : Type 0} (first more : List (Request F)) (old middle new : ScorerState) → Made (calls_of first) old middle → Made (calls_of more) middle new → Made (calls_of (first ++ more)) old new
Made-requests first more old middle new one two =
    subst (λ calls. Made calls old new) (sym (calls_of-append first more)) (Made-append (calls_of first) (calls_of more) old middle new one two)

-- two lists without an element make one
none_left : {A : Type 0} (first more : List A) → first ++ more ≡ [] → (first ≡ []) × (more ≡ [])
none_left [] more e = (refl, e)
none_left (a ∷ first) more e = cc

-- want of memory before any call
pub Inquires-unasked : {A F : Type 0} (memory : F) (inquiry : Inquiry A F) (scorer : ScorerState) → (inquiry.requests ≡ [] → IsOk inquiry.outcome) → Inquires memory inquiry (Err memory) scorer scorer
Inquires-unasked memory inquiry scorer good = record {
  comes = inr (record { done = []; rest = inquiry.requests; split = refl; good = good; made = Made-none scorer; gives = refl });
  keeps = KeepsScorer-refl scorer;
}

-- one request
abbrev pub one : {A F : Type 0} → Request F → Result A F → Inquiry A F
one request outcome = record { requests = request ∷ []; outcome = outcome }

-- its call was answered
pub Inquires-one : {A F : Type 0} (memory : F) (request : Request F) (outcome : Result A F) (score : ℤ) (old new : ScorerState)
    → Scored request.call (Ok score) old new → Inquires memory (one request outcome) outcome old new
Inquires-one memory request outcome score old new scored = record {
  comes = inl (inl (record { made = Made-ok request.call score old new scored; gives = refl }));
  keeps = KeepsScorer-one request.call (Ok score) old new scored;
}

-- its call failed
pub Inquires-failed : {A F : Type 0} (memory : F) (request : Request F) (outcome : Result A F) (old new : ScorerState)
    → Scored request.call (Err Failed) old new → Inquires memory (one request outcome) (Err request.failed) old new
Inquires-failed memory request outcome old new scored = record {
  comes = inl (inr (record {
    done = [];
    last = request;
    rest = [];
    split = refl;
    made = Made-failed request.call old new scored;
    faulted = Faulted-one old.outside new.outside scored.counts refl;
    gives = refl;
  }));
  keeps = KeepsScorer-one request.call (Err Failed) old new scored;
}

-- there was no memory for its call: in the scorer, or before
pub Inquires-stopped : {A F : Type 0} (memory : F) (request : Request F) (outcome : Result A F) (old new : ScorerState)
    → Scored request.call (Err Memory) old new → Inquires memory (one request outcome) (Err memory) old new
Inquires-stopped memory request outcome old new scored = record {
  comes = inr (record { done = []; rest = request ∷ []; split = refl; good = λ e. cc; made = Made-stopped request.call old new scored; gives = refl });
  keeps = KeepsScorer-one request.call (Err Memory) old new scored;
}

pub Inquires-uncalled : {A F : Type 0} (memory : F) (request : Request F) (outcome : Result A F) (scorer : ScorerState) → Inquires memory (one request outcome) (Err memory) scorer scorer
Inquires-uncalled memory request outcome scorer = Inquires-unasked memory (one request outcome) scorer (λ e. cc)

-- an inquiry that gave what it is to give made all calls
pub InquiryEnds-ok : {A F : Type 0} (memory : F) (inquiry : Inquiry A F) (a : A) (old new : ScorerState) → Inquires memory inquiry (Ok a) old new → InquiryEnds inquiry (Ok a) old new
InquiryEnds-ok memory inquiry a old new inquires = elim inquires.comes [
  | inl (inl ends) ↦ ends
  | inl (inr fails) ↦ absurd (let e = fails.gives in cc)
  | inr stops ↦ absurd (let e = stops.gives in cc)
]

-- want of memory for the result, after all calls were made and none was bad
pub Inquires-unheld : {A F : Type 0} (memory : F) (inquiry : Inquiry A F) (a : A) (old new : ScorerState) → Inquires memory inquiry (Ok a) old new → Inquires memory inquiry (Err memory) old new
Inquires-unheld memory inquiry a old new inquires =
    let ends = InquiryEnds-ok memory inquiry a old new inquires in
    record {
      comes = inr (record {
        done = inquiry.requests;
        rest = [];
        split = sym (append-nil inquiry.requests);
        good = λ e. subst IsOk ends.gives refl;
        made = ends.made;
        gives = refl;
      });
      keeps = inquires.keeps;
    }

-- an inquiry whose requests stand behind others
abbrev pub behind : {A F : Type 0} → List (Request F) → Inquiry A F → Inquiry A F
behind first inquiry = record { requests = first ++ inquiry.requests; outcome = inquiry.outcome }

-- the calls of the others were made, and then the inquiry
pub Inquires-behind : {A F : Type 0} (memory : F) (first : List (Request F)) (inquiry : Inquiry A F) (result : Result A F) (old middle new : ScorerState)
    → Made (calls_of first) old middle → KeepsScorer old middle → Inquires memory inquiry result middle new → Inquires memory (behind first inquiry) result old new
Inquires-behind memory first inquiry result old middle new made keeps inquires = record {
  comes = elim inquires.comes [
    | inl (inl ends) ↦ inl (inl (record { made = Made-requests first inquiry.requests old middle new made ends.made; gives = ends.gives }))
    | inl (inr fails) ↦ inl (inr (record {
      done = first ++ fails.done;
      last = fails.last;
      rest = fails.rest;
      split = ap (λ more. first ++ more) fails.split ∙ sym (append_assoc first fails.done (fails.last ∷ fails.rest));
      made = subst (λ requests. Made (calls_of requests) old new) (sym (append_assoc first fails.done (fails.last ∷ [])))
          (Made-requests first (fails.done ++ fails.last ∷ []) old middle new made fails.made);
      faulted = Faulted-from old.outside middle.outside new.outside keeps.outside fails.faulted;
      gives = fails.gives;
    }))
    | inr stops ↦ inr (record {
      done = first ++ stops.done;
      rest = stops.rest;
      split = ap (λ more. first ++ more) stops.split ∙ sym (append_assoc first stops.done stops.rest);
      good = stops.good;
      made = Made-requests first stops.done old middle new made stops.made;
      gives = stops.gives;
    })
  ];
  keeps = KeepsScorer-then old middle new keeps inquires.keeps;
}

-- an inquiry is the beginning of a longer one: a bad answer ends both, and else the longer one has more requests, or is good
pub record Begins {A B F : Type 0} (first : Inquiry A F) (whole : Inquiry B F) : Type 0 where
  pub more : List (Request F)
  pub split : whole.requests ≡ first.requests ++ more
  pub bad : (fault : F) → first.outcome ≡ Err fault → (more ≡ []) × (whole.outcome ≡ Err fault)
  pub good : IsOk first.outcome → more ≡ [] → IsOk whole.outcome

-- what ended its beginning ends an inquiry
pub Inquires-begun : {A B F : Type 0} (memory : F) (first : Inquiry A F) (whole : Inquiry B F) (fault : F) (old new : ScorerState)
    → Begins first whole → Inquires memory first (Err fault) old new → Inquires memory whole (Err fault) old new
Inquires-begun {A} {B} {F} memory first whole fault old new begins inquires = record {
  comes = elim inquires.comes [
    | inl (inl ends) ↦
        let both = begins.bad fault (sym ends.gives) in
        let same : whole.requests ≡ first.requests = begins.split ∙ ap (λ more. first.requests ++ more) both.0 ∙ append-nil first.requests in
        inl (inl (record { made = subst (λ requests. Made (calls_of requests) old new) (sym same) ends.made; gives = sym both.1 }))
    | inl (inr fails) ↦ inl (inr (record {
      done = fails.done;
      last = fails.last;
      rest = fails.rest ++ begins.more;
      split = begins.split ∙ ap (λ some. some ++ begins.more) fails.split ∙ append_assoc fails.done (fails.last ∷ fails.rest) begins.more;
      made = fails.made;
      faulted = fails.faulted;
      gives = let e = fails.gives in let same : fault ≡ fails.last.failed = cc in ap Err same;
    }))
    | inr stops ↦ inr (record {
      done = stops.done;
      rest = stops.rest ++ begins.more;
      split = begins.split ∙ ap (λ some. some ++ begins.more) stops.split ∙ append_assoc stops.done stops.rest begins.more;
      good = λ e. let none = none_left stops.rest begins.more e in begins.good (stops.good none.0) none.1;
      made = stops.made;
      gives = let e = stops.gives in let same : fault ≡ memory = cc in ap Err same;
    })
  ];
  keeps = inquires.keeps;
}
