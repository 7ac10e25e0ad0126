-- Inquiries of questions, one after another, are one.
use Rattle.std.proofs.Common.{◌≡◌, ◌∙◌, ◌++◌, Bool, List, [], ◌∷◌, map, refl, sym, ap, subst, inl, inr, append_assoc, append-nil}
use Rattle.std.specs.Prelude.{Option, Some, None, Result, Ok, Err, IsOk}
use Rattle.std.proofs.lemmas.List.{map-append}
use Rattle.rs_expr.specs.InOrder.{Inquires, Request, calls_of}
use Rattle.rs_expr.specs.Scoring.{Answering, KeepsScorer, Made, ScorerState}
use Rattle.rs_expr.proofs.InOrderFacts.{Begins, InquiryEnds-ok, Inquires-begun, Inquires-behind, behind}
use Rattle.rs_expr.proofs.ScoringFacts.{KeepsScorer-refl, KeepsScorer-then, Made-append, Made-none}
use Rattle.rs_catalog.specs.Catalog.{CatalogDef}
use Rattle.rs_query.specs.Questions.{Faults, Question, asking, bad_score, call_for, first_of, is_bad, outcome_for, request_for, through_first}
use Rattle.rs_query.proofs.ThroughFacts.{Leads-with, first-behind, first-found, through-all, through-behind}

module _ (answer : Answering) (catalogue : CatalogDef) where
  -- these questions were asked, and no answer was bad
  pub record AllAsked (questions : List Question) (old new : ScorerState) : Type 0 where
    pub good : first_of (is_bad answer catalogue) questions ≡ None
    pub made : Made (map (call_for catalogue) questions) old new
    pub keeps : KeepsScorer old new

  pub AllAsked-none : (scorer : ScorerState) → AllAsked [] scorer scorer
  AllAsked-none scorer = record { good = refl; made = Made-none scorer; keeps = KeepsScorer-refl scorer }

  pub AllAsked-more : (first more : List Question) (old middle new : ScorerState) → AllAsked first old middle → AllAsked more middle new → AllAsked (first ++ more) old new
  AllAsked-more first more old middle new one two = record {
    good = first-behind (is_bad answer catalogue) first more one.good ∙ two.good;
    made = subst (λ calls. Made calls old new) (sym (map-append (call_for catalogue) first more))
        (Made-append (map (call_for catalogue) first) (map (call_for catalogue) more) old middle new one.made two.made);
    keeps = KeepsScorer-then old middle new one.keeps two.keeps;
  }

  -- an inquiry that gave a value asked all its questions, and none had a bad answer
  pub record Gave {A : Type 0} (questions : List Question) (value given : A) (old new : ScorerState) : Type 0 where
    pub asked : AllAsked questions old new
    pub is_value : given ≡ value

module _ {F : Type 0} (faults : Faults F) (memory : F) where
  module _ (answer : Answering) (catalogue : CatalogDef) where
    abbrev no_score : Question → Bool
    no_score = is_bad answer catalogue

    abbrev request : Question → Request F
    request = request_for faults catalogue

    -- the calls of the requests of questions
    calls_of-questions : (questions : List Question) → calls_of (map (request_for faults catalogue) questions) ≡ map (call_for catalogue) questions
    calls_of-questions [] = refl
    calls_of-questions (q ∷ questions) = ap (λ calls. call_for catalogue q ∷ calls) (calls_of-questions questions)

    Made-requests : (questions : List Question) (old new : ScorerState) → Made (map (call_for catalogue) questions) old new → Made (calls_of (map (request_for faults catalogue) questions)) old new
    Made-requests questions old new made = subst (λ calls. Made calls old new) (sym (calls_of-questions questions)) made

    module _ {A : Type 0} where
      Gave-ended : (questions : List Question) (value given : A) (old new : ScorerState) (first : Option Question) → first_of no_score questions ≡ first
          → Made (calls_of (map request (through_first no_score questions))) old new → KeepsScorer old new → Ok given ≡ outcome_for faults answer catalogue first value → Gave answer catalogue questions value given old new
      Gave-ended questions value given old new None good made keeps e = record {
        asked = record {
          good = good;
          made = subst (λ calls. Made calls old new) (calls_of-questions questions)
              (subst (λ all. Made (calls_of (map request all)) old new) (through-all no_score questions good) made);
          keeps = keeps;
        };
        is_value = cc;
      }
      Gave-ended questions value given old new (Some q) found made keeps e = absurd (cc)

      pub Gave-ok : (questions : List Question) (value given : A) (old new : ScorerState)
          → Inquires memory (asking faults answer catalogue questions value) (Ok given) old new → Gave answer catalogue questions value given old new
      Gave-ok questions value given old new inquired =
          let ends = InquiryEnds-ok memory (asking faults answer catalogue questions value) given old new inquired in
          Gave-ended questions value given old new (first_of no_score questions) refl ends.made inquired.keeps ends.gives

      -- where no answer is bad there is a value
      good-end : (all : List Question) (value : A) → first_of no_score all ≡ None → IsOk (outcome_for faults answer catalogue (first_of no_score all) value)
      good-end all value none = subst (λ first. IsOk (outcome_for faults answer catalogue first value)) (sym none) refl

      end-good : (value : A) (first : Option Question) → IsOk (outcome_for faults answer catalogue first value) → first ≡ None
      end-good value None ok = refl
      end-good value (Some q) ok = absurd (cc)

      -- all questions were asked, and this is the value
      pub Inquires-asked : (questions : List Question) (value : A) (old new : ScorerState) → AllAsked answer catalogue questions old new
          → Inquires memory (asking faults answer catalogue questions value) (Ok value) old new
      Inquires-asked questions value old new asked = record {
        comes = inl (inl (record {
          made = subst (λ all. Made (calls_of (map request all)) old new) (sym (through-all no_score questions asked.good))
              (Made-requests questions old new asked.made);
          gives = ap (λ first. outcome_for faults answer catalogue first value) (sym asked.good);
        }));
        keeps = asked.keeps;
      }

    -- where no question is left, no answer was bad
    none-left : (done rest all : List Question) → all ≡ done ++ rest → first_of no_score done ≡ None → map request (through_first no_score rest) ≡ [] → first_of no_score all ≡ None
    none-left done [] all is good e = ap (first_of no_score) is ∙ first-behind no_score done [] good
    none-left done (q ∷ rest) all is good e = absurd (cc)

    -- there was no memory behind the first questions
    pub Inquires-stopped : {A : Type 0} (done rest all : List Question) (value : A) (old new : ScorerState) → all ≡ done ++ rest → AllAsked answer catalogue done old new
        → Inquires memory (asking faults answer catalogue all value) (Err memory) old new
    Inquires-stopped done rest all value old new is asked = record {
      comes = inr (record {
        done = map request done;
        rest = map request (through_first no_score rest);
        split = ap (λ questions. map request (through_first no_score questions)) is ∙ ap (map request) (through-behind no_score done rest asked.good)
            ∙ map-append request done (through_first no_score rest);
        good = λ e. good-end all value (none-left done rest all is asked.good e);
        made = Made-requests done old new asked.made;
        gives = refl;
      });
      keeps = asked.keeps;
    }

    -- where an answer is bad, it is so for all questions
    bad-end : {A B : Type 0} (done next rest all : List Question) (value : A) (whole : B) (fault : F) (more : List Question) (found : Option Question)
        → all ≡ done ++ (next ++ rest) → first_of no_score done ≡ None → ((q : Question) → first_of no_score next ≡ Some q → more ≡ []) → first_of no_score next ≡ found
        → outcome_for faults answer catalogue found value ≡ Err fault → (map request more ≡ []) × (outcome_for faults answer catalogue (first_of no_score all) whole ≡ Err fault)
    bad-end done next rest all value whole fault more None is good no_more first e = absurd (cc)
    bad-end done next rest all value whole fault more (Some q) is good no_more first e = (
      ap (map request) (no_more q first),
      (let found : first_of no_score all ≡ Some q = ap (first_of no_score) is ∙ first-behind no_score done (next ++ rest) good ∙ first-found no_score next rest q first in
          let same : bad_score faults answer catalogue q ≡ fault = cc in
          ap (λ f. outcome_for faults answer catalogue f whole) found ∙ ap Err same),
    )

    -- questions behind others that had no bad answer are the beginning of all
    Begins-behind : {A B : Type 0} (done next rest all : List Question) (value : A) (whole : B) → all ≡ done ++ (next ++ rest) → first_of no_score done ≡ None
        → Begins (behind (map request done) (asking faults answer catalogue next value)) (asking faults answer catalogue all whole)
    Begins-behind done next rest all value whole is good =
        let leads = Leads-with no_score next rest in record {
          more = map request leads.more;
          split = ap (λ questions. map request (through_first no_score questions)) is ∙ ap (map request) (through-behind no_score done (next ++ rest) good)
              ∙ map-append request done (through_first no_score (next ++ rest))
              ∙ ap (λ more. map request done ++ more) (ap (map request) leads.is_split ∙ map-append request (through_first no_score next) leads.more)
              ∙ sym (append_assoc (map request done) (map request (through_first no_score next)) (map request leads.more));
          bad = λ fault e. bad-end done next rest all value whole fault leads.more (first_of no_score next) is good leads.found refl e;
          good = λ ok nil.
              let none = end-good value (first_of no_score next) ok in
              good-end all whole (ap (first_of no_score) is ∙ first-behind no_score done (next ++ rest) good
              ∙ none-left next rest (next ++ rest) refl none (ap (map request) (sym (leads.behind none)) ∙ nil));
        }

    -- a fault of an inquiry behind others is one of the whole
    pub Inquires-fault : {A B : Type 0} (done next rest all : List Question) (value : A) (whole : B) (fault : F) (old middle new : ScorerState)
        → all ≡ done ++ (next ++ rest) → AllAsked answer catalogue done old middle → Inquires memory (asking faults answer catalogue next value) (Err fault) middle new
        → Inquires memory (asking faults answer catalogue all whole) (Err fault) old new
    Inquires-fault done next rest all value whole fault old middle new is asked inquired =
        Inquires-begun memory (behind (map request done) (asking faults answer catalogue next value)) (asking faults answer catalogue all whole) fault old new
        (Begins-behind done next rest all value whole is asked.good)
        (Inquires-behind memory (map request done) (asking faults answer catalogue next value) (Err fault) old middle new (Made-requests done old middle asked.made) asked.keeps inquired)

  module _ (catalogue : CatalogDef) {A B : Type 0} where
    -- the same by the scorer's answers, which stay
    pub Failed-behind : (done next rest all : List Question) (value : Answering → A) (whole : B) (fault : F) (result : Result B F)
        (old middle new : ScorerState) → all ≡ done ++ (next ++ rest) → result ≡ Err fault → AllAsked old.answer catalogue done old middle
        → Inquires memory (asking faults middle.answer catalogue next (value middle.answer)) (Err fault) middle new
        → Inquires memory (asking faults old.answer catalogue all whole) result old new
    Failed-behind done next rest all value whole fault result old middle new is is_err asked inquired =
        subst (λ r. Inquires memory (asking faults old.answer catalogue all whole) r old new) (sym is_err)
        (Inquires-fault old.answer catalogue done next rest all (value old.answer) whole fault old middle new is asked
        (subst (λ a. Inquires memory (asking faults a catalogue next (value a)) (Err fault) middle new) asked.keeps.answer inquired))

  module _ (catalogue : CatalogDef) {A : Type 0} where
    -- an inquiry behind others that gave a value
    pub Gave-behind : (done next : List Question) (value : Answering → A) (given : A) (old middle new : ScorerState) → AllAsked old.answer catalogue done old middle
        → Inquires memory (asking faults middle.answer catalogue next (value middle.answer)) (Ok given) middle new
        → Gave old.answer catalogue next (value old.answer) given middle new
    Gave-behind done next value given old middle new asked inquired =
        Gave-ok old.answer catalogue next (value old.answer) given middle new
        (subst (λ a. Inquires memory (asking faults a catalogue next (value a)) (Ok given) middle new) asked.keeps.answer inquired)

    -- there was no memory behind the first questions
    pub Stopped-within : (done rest all : List Question) (value : A) (result : Result A F) (old new : ScorerState) → all ≡ done ++ rest → result ≡ Err memory
        → AllAsked old.answer catalogue done old new → Inquires memory (asking faults old.answer catalogue all value) result old new
    Stopped-within done rest all value result old new split is asked =
        subst (λ r. Inquires memory (asking faults old.answer catalogue all value) r old new) (sym is)
        (Inquires-stopped old.answer catalogue done rest all value old new split asked)

    -- there was none behind all of them
    pub Stopped-behind : (questions : List Question) (value : A) (result : Result A F) (old new : ScorerState) → result ≡ Err memory
        → AllAsked old.answer catalogue questions old new → Inquires memory (asking faults old.answer catalogue questions value) result old new
    Stopped-behind questions value result old new is asked =
        Stopped-within questions [] questions value result old new (sym (append-nil questions)) is asked

    -- all questions were asked
    pub Ended-behind : (questions all : List Question) (value given : A) (old new : ScorerState) → all ≡ questions → given ≡ value
        → AllAsked old.answer catalogue questions old new → Inquires memory (asking faults old.answer catalogue all value) (Ok given) old new
    Ended-behind questions all value given old new same is asked =
        subst (λ v. Inquires memory (asking faults old.answer catalogue all value) (Ok v) old new) (sym is)
        (Inquires-asked old.answer catalogue all value old new (subst (λ qs. AllAsked old.answer catalogue qs old new) (sym same) asked))
