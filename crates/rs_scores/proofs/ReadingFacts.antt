-- The scores of records, one record after another.
use Rattle.std.proofs.Common.{◌≡◌, ◌+◌, ◌<◌, ◌≤◌, ◌^◌, ℕ, ℤ, true, false, cond, List, [], ◌∷◌, ◌++◌, length, Option, Some, None, Result, Ok, Err, ◌⊎◌, ap, arith, inl, inr, length-append, lit<, of_z, refl, subst, sym, to_z, ◌∙◌}
use Rattle.std.specs.Int.{w64}
use Rattle.std.specs.Ordering.{int_eq}
use Rattle.std.specs.Prelude.{find, nat_abs, option_map}
use Rattle.std.proofs.lemmas.Int.{fits_signed_from_abs, to_z-of_z}
use Rattle.rs_value.specs.Answer.{Gives}
use Rattle.rs_value.specs.Number.{greatest_int}
use Rattle.rs_value.specs.Results.{◌>>=◌}
use Rattle.rs_scores.specs.Known.{Known, score_of, score_with}
use Rattle.rs_scores.specs.Questions.{is_same_question}
use Rattle.rs_scores.specs.Reading.{Knows, Reads, known_of, score_in, scores_from, with_entry, with_record}
use Rattle.rs_scores.specs.declared.fault.KnownFault.{KnownFault}
use Rattle.rs_scores.specs.declared.fault.KnownFault.TheVariants.{Memory, Twice}
use Rattle.rs_scores.specs.declared.known_score.KnownScore.{KnownScore}

-- a table with no score has the scores of no record
pub Knows-none : (names : List (List ℕ)) (known : Known) → known.names ≡ names → known.scores ≡ [] → Knows names [] known
Knows-none names known asked none = record {
  asked = asked;
  each = λ question. rw none refl;
  count = rw none refl;
}

-- the score of a question among some scores and one more: the first that there is
abbrev pub or_last : KnownScore → List (List ℕ) → Option ℤ → Option ℤ
or_last last question (Some first) = Some first
or_last last question None = cond (is_same_question last.question question) (Some last.score) None

pub score_in-push : (question : List (List ℕ)) (before : List KnownScore) (last : KnownScore)
    → score_in question (before ++ last ∷ []) ≡ or_last last question (score_in question before)
score_in-push question [] last =
    (elim (is_same_question last.question question) as (λ b. option_map (λ (known : KnownScore). known.score) (cond b (Some last) None) ≡ cond b (Some last.score) None) [
      | true ↦ refl
      | false ↦ refl
    ])
score_in-push question (first ∷ before) last =
    (elim (is_same_question first.question question) as (λ b. option_map (λ (known : KnownScore). known.score) (cond b (Some first) (find (λ known. is_same_question known.question question) (before ++ last ∷ [])))
    ≡ or_last last question (option_map (λ (known : KnownScore). known.score) (cond b (Some first) (find (λ known. is_same_question known.question question) before)))) [
      | true ↦ refl
      | false ↦ score_in-push question before last
    ])

-- the same of a table and its score with one more
score_with-or_last : (known : Known) (last : KnownScore) (other : List (List ℕ)) → score_with last.question last.score known other ≡ or_last last other (score_of other known)
score_with-or_last known last other =
    (elim (score_of other known) as (λ found. score_of other known ≡ found → score_with last.question last.score known other ≡ or_last last other (score_of other known)) [
      | Some first ↦ λ e. rw e refl
      | None ↦ λ e. rw e refl
    ]) refl

-- one more score, whose question had none
pub record Adds (known new : Known) (last : KnownScore) : Type 0 where
  pub names : new.names ≡ known.names
  pub scores : (other : List (List ℕ)) → score_of other new ≡ score_with last.question last.score known other
  pub count : length new.scores ≡ length known.scores + 1

-- an entry whose question has no score is the last one
pub Reads-new : (names : List (List ℕ)) (number : ℕ) (before : List KnownScore) (known new : Known) (last : KnownScore) → Knows names before known
    → score_of last.question known ≡ None → Adds known new last → Reads names (with_entry number before last) (Ok tt) new
Reads-new names number before known new last knows none adds = (
  before ++ last ∷ [],
  rw (sym (knows.each last.question) ∙ none) refl,
  record {
    asked = adds.names ∙ knows.asked;
    each = λ other. adds.scores other ∙ score_with-or_last known last other ∙ ap (or_last last other) (knows.each other) ∙ sym (score_in-push other before last);
    count = adds.count ∙ ap (λ n. n + 1) knows.count ∙ sym (length-append before (last ∷ []));
  },
)

-- an entry whose question has this score is taken once
pub Reads-same : (names : List (List ℕ)) (number : ℕ) (before : List KnownScore) (known : Known) (last : KnownScore) (score : ℤ) → Knows names before known
    → score_of last.question known ≡ Some score → int_eq score last.score ≡ true → Reads names (with_entry number before last) (Ok tt) known
Reads-same names number before known last score knows some same = (before, rw (sym (knows.each last.question) ∙ some, same) refl, knows)

-- and one whose question has another score is refused
pub Reads-twice : (names : List (List ℕ)) (number : ℕ) (before : List KnownScore) (known : Known) (last : KnownScore) (score : ℤ) → Knows names before known
    → score_of last.question known ≡ Some score → int_eq score last.score ≡ false → Reads names (with_entry number before last) (Err (Twice number)) known
Reads-twice names number before known last score knows some other = inr (rw (sym (knows.each last.question) ∙ some, other) refl)

-- what adding a record's entry does is what adding the record does
pub Reads-record : (names own : List (List ℕ)) (number : ℕ) (before : List KnownScore) (new : Known) (fields : List (List ℕ)) (last : KnownScore) (result : Result (Unit {0}) KnownFault)
    → Gives Memory (known_of own number fields) (Ok last) → own ≡ names → Reads names (with_entry number before last) result new
    → Reads names (with_record names number before fields) result new
Reads-record names own number before new fields last result gives same reads =
    elim gives [
      | inl is ↦
          let all : with_entry number before last ≡ with_record names number before fields =
          ap (λ answer. answer >>= with_entry number before) (is ∙ ap (λ ns. known_of ns number fields) same) in
          subst (λ answer. Reads names answer result new) all reads
      | inr memory ↦ absurd (cc)
    ]

-- what was read so far, where these records are left of all
abbrev pub SoFar : List (List ℕ) → ℕ → Known → List (List (List ℕ)) → List (List (List ℕ)) → Type 0
SoFar names number known left all = (before : List KnownScore) × Knows names before known × (scores_from names (number + 1) before left ≡ scores_from names 1 [] all)

-- what adding the record of this number does to a table
abbrev pub AddsRecord : ℕ → Known → List (List ℕ) → Result (Unit {0}) KnownFault → Known → Type 0
AddsRecord number known fields result new = (before : List KnownScore) → Knows known.names before known → Reads known.names (with_record known.names number before fields) result new

-- by the names that the table had at first
adds-named : (names : List (List ℕ)) (number : ℕ) (before : List KnownScore) (known new : Known) (fields : List (List ℕ)) (result : Result (Unit {0}) KnownFault) → Knows names before known
    → AddsRecord number known fields result new → Reads names (with_record names number before fields) result new
adds-named names number before known new fields result knows adds =
    subst (λ (ns : List (List ℕ)). Knows ns before known → Reads ns (with_record ns number before fields) result new) knows.asked (adds before) knows

pub SoFar-start : (names : List (List ℕ)) (known : Known) (all left : List (List (List ℕ))) → known.names ≡ names → known.scores ≡ [] → left ≡ all → SoFar names 0 known left all
SoFar-start names known all left asked none same = ([], Knows-none names known asked none, ap (scores_from names 1 []) same)

pub SoFar-next : (names : List (List ℕ)) (number : ℕ) (known new : Known) (left rest all : List (List (List ℕ))) (fields : List (List ℕ)) → SoFar names number known left all → left ≡ fields ∷ rest
    → AddsRecord (number + 1) known fields (Ok tt) new → SoFar names (number + 1) new rest all
SoFar-next names number known new left rest all fields so_far next adds =
    let added = adds-named names (number + 1) so_far.0 known new fields (Ok tt) so_far.1 adds in (
      added.0,
      added.2,
      sym (ap (λ answer. answer >>= λ scores. scores_from names (number + 1 + 1) scores rest) added.1)
          ∙ sym (ap (scores_from names (number + 1) so_far.0) next) ∙ so_far.2,
    )

pub SoFar-end : (names : List (List ℕ)) (number : ℕ) (known : Known) (left all : List (List (List ℕ))) → SoFar names number known left all → left ≡ [] → Reads names (scores_from names 1 [] all) (Ok tt) known
SoFar-end names number known left all so_far ended = (so_far.0, sym so_far.2 ∙ ap (scores_from names (number + 1) so_far.0) ended, so_far.1)

pub SoFar-fault : (names : List (List ℕ)) (number : ℕ) (known new : Known) (left rest all : List (List (List ℕ))) (fields : List (List ℕ)) (fault : KnownFault) → SoFar names number known left all → left ≡ fields ∷ rest
    → AddsRecord (number + 1) known fields (Err fault) new → (fault ≡ Memory) ⊎ (scores_from names 1 [] all ≡ Err fault)
SoFar-fault names number known new left rest all fields fault so_far next adds =
    elim (adds-named names (number + 1) so_far.0 known new fields (Err fault) so_far.1 adds) [
      | inl memory ↦ inl memory
      | inr refused ↦ inr (sym so_far.2 ∙ ap (scores_from names (number + 1) so_far.0) next ∙ ap (λ answer. answer >>= λ scores. scores_from names (number + 1 + 1) scores rest) refused)
    ]

-- a score in range is the same as 64 bits
pub score-fits : (score : ℤ) → nat_abs score ≤ greatest_int → to_z w64 (of_z w64 score) ≡ score
score-fits score few =
    let small : greatest_int < 2 ^ 63 = lit< tt in
    to_z-of_z w64 score (fits_signed_from_abs w64 score (omega (arith, few, small)))
