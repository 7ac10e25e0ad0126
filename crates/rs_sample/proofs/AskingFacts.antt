-- Questions that are all asked, whatever their numbers are.
use Rattle.std.proofs.Common.{ℕ, ℤ, ◌≡◌, ◌∙◌, ◌++◌, Bool, true, false, List, [], ◌∷◌, map, refl, sym, ap, subst, inl, inr, append_assoc}
use Rattle.std.specs.Prelude.{Result, Ok, Err, IsOk}
use Rattle.std.proofs.lemmas.List.{map-append}
use Rattle.rs_rank.specs.declared.ids.Ids.{Ids}
use Rattle.rs_expr.specs.InOrder.{Inquires, Request, calls_of}
use Rattle.rs_expr.specs.Scores.{is_score}
use Rattle.rs_expr.specs.Scoring.{KeepsScorer, Made, ScorerState}
use Rattle.rs_expr.proofs.InOrderFacts.{InquiryEnds-ok, Inquires-begun, Inquires-behind, behind, one}
use Rattle.rs_expr.proofs.ScoringFacts.{KeepsScorer-refl, KeepsScorer-then, Made-append, Made-none}
use Rattle.rs_catalog.specs.Catalog.{CatalogDef}
use Rattle.rs_query.specs.Answers.{clamped, worth_of}
use Rattle.rs_query.specs.Asking.{ask_faults, asking_worth, worth_for}
use Rattle.rs_query.specs.Questions.{Question, call_for, got_for, max_for, question_of, request_for}
use Rattle.rs_query.specs.declared.block.Block.{Block}
use Rattle.rs_query.specs.declared.term.Term.{Term}
use Rattle.rs_query.specs.declared.ask.AskFault.{AskFault}
use Rattle.rs_query.specs.declared.ask.AskFault.TheVariants as ask_fault
use Rattle.rs_query.proofs.AskFacts.{clamped-score, inquiry-is}
use Rattle.rs_query.proofs.ToldFacts.{Inquires-retold}
use Rattle.rs_sample.specs.Sampling.{asking_all, sample_faults, sampled_worth}
use Rattle.rs_sample.specs.declared.fault.SampleFault.{SampleFault}
use Rattle.rs_sample.specs.declared.fault.SampleFault.TheVariants.{Memory, Probe}

module _ (catalogue : CatalogDef) where
  -- these questions were asked
  pub record Asked (questions : List Question) (old new : ScorerState) : Type 0 where
    pub made : Made (map (call_for catalogue) questions) old new
    pub keeps : KeepsScorer old new

  pub Asked-none : (scorer : ScorerState) → Asked [] scorer scorer
  Asked-none scorer = record { made = Made-none scorer; keeps = KeepsScorer-refl scorer }

  pub Asked-more : (first more : List Question) (old middle new : ScorerState) → Asked first old middle → Asked more middle new → Asked (first ++ more) old new
  Asked-more first more old middle new one two = record {
    made = subst (λ calls. Made calls old new) (sym (map-append (call_for catalogue) first more))
        (Made-append (map (call_for catalogue) first) (map (call_for catalogue) more) old middle new one.made two.made);
    keeps = KeepsScorer-then old middle new one.keeps two.keeps;
  }

  abbrev request : Question → Request SampleFault
  request = request_for sample_faults catalogue

  -- the calls of the requests of questions
  calls_of-questions : (questions : List Question) → calls_of (map (request_for sample_faults catalogue) questions) ≡ map (call_for catalogue) questions
  calls_of-questions [] = refl
  calls_of-questions (q ∷ questions) = ap (λ calls. call_for catalogue q ∷ calls) (calls_of-questions questions)

  Made-requests : (questions : List Question) (old new : ScorerState) → Made (map (call_for catalogue) questions) old new → Made (calls_of (map (request_for sample_faults catalogue) questions)) old new
  Made-requests questions old new made = subst (λ calls. Made calls old new) (sym (calls_of-questions questions)) made

  -- what gave a value asked all its questions, and the value is that of the definition
  pub Asked-ok : {A : Type 0} (questions : List Question) (value given : A) (old new : ScorerState)
      → Inquires Memory (asking_all catalogue questions value) (Ok given) old new → Asked questions old new
  Asked-ok questions value given old new inquired = record {
    made = subst (λ calls. Made calls old new) (calls_of-questions questions) (InquiryEnds-ok Memory (asking_all catalogue questions value) given old new inquired).made;
    keeps = inquired.keeps;
  }

  pub value-ok : {A : Type 0} (questions : List Question) (value given : A) (old new : ScorerState)
      → Inquires Memory (asking_all catalogue questions value) (Ok given) old new → given ≡ value
  value-ok questions value given old new inquired =
      let gives = (InquiryEnds-ok Memory (asking_all catalogue questions value) given old new inquired).gives in cc

  -- all questions were asked, and this is the value
  pub Inquires-all : {A : Type 0} (questions all : List Question) (value given : A) (old new : ScorerState) → all ≡ questions → given ≡ value → Asked questions old new
      → Inquires Memory (asking_all catalogue all value) (Ok given) old new
  Inquires-all {A} questions all value given old new same is asked =
      subst (λ qs. Inquires Memory (asking_all catalogue qs value) (Ok given) old new) (sym same)
      (record { comes = inl (inl (record { made = Made-requests questions old new asked.made; gives = ap Ok is })); keeps = asked.keeps })

  -- there was no memory behind the first questions
  pub Inquires-within : {A : Type 0} (done rest all : List Question) (value : A) (result : Result A SampleFault) (old new : ScorerState) → all ≡ done ++ rest → result ≡ Err Memory
      → Asked done old new → Inquires Memory (asking_all catalogue all value) result old new
  Inquires-within {A} done rest all value result old new split is asked =
      subst (λ r. Inquires Memory (asking_all catalogue all value) r old new) (sym is)
      (record {
        comes = inr (record {
          done = map request done;
          rest = map request rest;
          split = ap (map request) split ∙ map-append request done rest;
          good = λ none. refl;
          made = Made-requests done old new asked.made;
          gives = refl;
        });
        keeps = asked.keeps;
      })

  -- a fault of some questions behind others is one of all
  pub Inquires-faulted : {A B : Type 0} (done next rest all : List Question) (value : A) (whole : B) (fault : SampleFault) (result : Result B SampleFault) (old middle new : ScorerState)
      → all ≡ done ++ (next ++ rest) → result ≡ Err fault → Asked done old middle → Inquires Memory (asking_all catalogue next value) (Err fault) middle new
      → Inquires Memory (asking_all catalogue all whole) result old new
  Inquires-faulted {A} {B} done next rest all value whole fault result old middle new split is asked inquired =
      subst (λ r. Inquires Memory (asking_all catalogue all whole) r old new) (sym is)
      (Inquires-begun Memory (behind (map request done) (asking_all catalogue next value)) (asking_all catalogue all whole) fault old new
      (record {
        more = map request rest;
        split = ap (map request) split ∙ map-append request done (next ++ rest) ∙ ap (λ more. map request done ++ more) (map-append request next rest)
            ∙ sym (append_assoc (map request done) (map request next) (map request rest));
        bad = λ other e. absurd (cc);
        good = λ ok none. refl;
      })
      (Inquires-behind Memory (map request done) (asking_all catalogue next value) (Err fault) old middle new (Made-requests done old middle asked.made) asked.keeps inquired))

  -- one question, whose number is put into 0 to the greatest score
  module _ (block : Block) (ids : Ids) (term : Term) where
    abbrev asked : Question
    asked = question_of ids.block block ids.rows term

    sampled-worth : (max : ℕ) (got : ℤ) → sampled_worth (worth_for ask_faults term ids max got) ≡ Ok (clamped max got)
    sampled-worth max got = go (is_score max got) refl where
      go : (b : Bool) → is_score max got ≡ b → sampled_worth (worth_for ask_faults term ids max got) ≡ Ok (clamped max got)
      go true score = rw score (ap Ok (clamped-score max got score))
      go false bad = rw bad refl

    good : (result : Result ℕ AskFault) → IsOk result → IsOk (sampled_worth result)
    good (Ok worth) ok = refl
    good (Err fault) ok = absurd (cc)

    pub Inquires-sampled : (result : Result ℕ AskFault) (old new : ScorerState) → Inquires ask_fault.Memory (asking_worth ask_faults old.answer catalogue block ids term) result old new
        → Inquires Memory (asking_all catalogue (asked ∷ []) (worth_of old.answer catalogue block ids.rows term)) (sampled_worth result) old new
    Inquires-sampled result old new inquires =
        let worth = worth_for ask_faults term ids (max_for catalogue asked) (got_for old.answer catalogue asked) in
        subst (λ outcome. Inquires Memory (one (request asked) outcome) (sampled_worth result) old new) (sampled-worth (max_for catalogue asked) (got_for old.answer catalogue asked))
        (Inquires-retold sampled_worth ask_fault.Memory Memory (request_for ask_faults catalogue asked) worth (Probe term.predicate) refl refl (good worth) result old new
        (subst (λ i. Inquires ask_fault.Memory i result old new) (inquiry-is ask_faults ask_fault.Memory catalogue block ids term old.answer) inquires))
