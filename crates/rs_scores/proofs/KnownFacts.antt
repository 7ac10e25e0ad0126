-- What is known after one more score.
use Rattle.std.proofs.Common.{◌≡◌, ◌+◌, ℕ, ℤ, true, false, cond, is_some, List, length, Option, Some, None, ap, sym, ◌∙◌, refl}
use Rattle.std.specs.BTreeMap.{get, is_at}
use Rattle.std.specs.Cmp.Lexicographic.{slice_cmp}
use Rattle.std.specs.Map.{lookup}
use Rattle.std.specs.Ordering.{nat_cmp}
use Rattle.std.specs.declared.alloc.Global.{Global}
use Rattle.std.specs.declared.collections.BTreeMap.{BTreeMap as Scores}
use Rattle.rs_scores.specs.Known.{Known, score_of, score_with}
use Rattle.rs_scores.specs.Questions.{is_same_question}
use Rattle.rs_scores.proofs.QuestionFacts.{is_at-question, lookup-question, same_question-equal}

-- of two questions of which one alone has a score neither is the other
score-differs : (known : Known) (a b : List (List ℕ)) → (score_of a known ≡ score_of b known → true ≡ false) → is_same_question a b ≡ false
score-differs known a b apart =
    (elim (is_same_question a b) as (λ t. is_same_question a b ≡ t → t ≡ false) [
      | true ↦ λ e. apart (ap (λ (q : List (List ℕ)). score_of q known) (same_question-equal a b e))
      | false ↦ λ e. refl
    ]) refl

-- one more score of a question that has one changes nothing
pub score_with-known : (question other : List (List ℕ)) (score : ℤ) (known : Known) → is_some (score_of question known) ≡ true
    → score_of other known ≡ score_with question score known other
score_with-known question other score known some =
    (elim (score_of other known) as (λ found. score_of other known ≡ found → score_of other known ≡ score_with question score known other) [
      | Some first ↦ λ e. rw e refl
      | None ↦ λ e.
          let apart : is_same_question question other ≡ false = score-differs known question other (λ same. sym some ∙ ap is_some same ∙ ap is_some e) in
          rw (e, apart) refl
    ]) refl

-- one more score of a question that has none is that of this question alone
pub score_with-added : (question other : List (List ℕ)) (score : ℤ) (known : Known) (old new : Scores (List (List ℕ)) ℤ Global) → old.entries ≡ known.scores
    → is_some (score_of question known) ≡ false
    → ((key : List (List ℕ)) → get (slice_cmp (slice_cmp nat_cmp)) new key ≡ cond (is_at (slice_cmp (slice_cmp nat_cmp) question) key) (Some score) (get (slice_cmp (slice_cmp nat_cmp)) old key))
    → lookup (is_same_question other) new.entries ≡ score_with question score known other
score_with-added question other score known old new same none put =
    sym (lookup-question other new.entries)
    ∙ put other
    ∙ ap (λ b. cond b (Some score) (get (slice_cmp (slice_cmp nat_cmp)) old other)) (is_at-question question other)
    ∙ ap (cond (is_same_question question other) (Some score)) (lookup-question other old.entries ∙ ap (lookup (is_same_question other)) same)
    ∙ stays
  where
    stays : cond (is_same_question question other) (Some score) (score_of other known) ≡ score_with question score known other
    stays = (elim (score_of other known) as (λ found. score_of other known ≡ found → cond (is_same_question question other) (Some score) (score_of other known) ≡ score_with question score known other) [
      | Some first ↦ λ e.
          let apart : is_same_question question other ≡ false = score-differs known question other (λ equal. sym (sym none ∙ ap is_some equal ∙ ap is_some e)) in
          rw (e, apart) refl
      | None ↦ λ e. rw e refl
    ]) refl

-- how many scores there are then
pub length-added : (question : List (List ℕ)) (known : Known) (old new : Scores (List (List ℕ)) ℤ Global) (was : Option ℤ) → old.entries ≡ known.scores
    → is_some (score_of question known) ≡ false
    → was ≡ get (slice_cmp (slice_cmp nat_cmp)) old question → length new.entries ≡ length old.entries + cond (is_some was) 0 1
    → length new.entries ≡ length known.scores + 1
length-added question known old new was same none is count =
    let fresh : is_some was ≡ false =
    ap is_some (is ∙ lookup-question question old.entries ∙ ap (lookup (is_same_question question)) same) ∙ none in
    count ∙ ap (λ b. length old.entries + cond b 0 1) fresh ∙ ap (λ entries. length {A = List (List ℕ) × ℤ} entries + 1) same
