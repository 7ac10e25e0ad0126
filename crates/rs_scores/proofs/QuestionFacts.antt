-- Questions are the same where they are equal, as the order of questions says too.
use Rattle.std.proofs.Common.{◌≡◌, ℕ, true, Bool, List, ap, refl, sym}
use Rattle.std.specs.BTreeMap.{is_at}
use Rattle.std.specs.Cmp.Lexicographic.{bytes_decides, lists_ties, pointwise_decides, slice_cmp, texts_ties}
use Rattle.std.specs.Map.{lookup}
use Rattle.std.specs.Ordering.{nat_cmp}
use Rattle.rs_scores.specs.Questions.{is_same_question}

-- a key is at a question where it is the same
pub is_at-question : (a b : List (List ℕ)) → is_at (slice_cmp (slice_cmp nat_cmp) a) b ≡ is_same_question a b
is_at-question a b = sym (lists_ties (slice_cmp nat_cmp) texts_ties a b)

-- so a search by the order finds what a search for the same question finds
pub lookup-question : {X : Type 0} (question : List (List ℕ)) (entries : List (List (List ℕ) × X))
    → lookup (is_at (slice_cmp (slice_cmp nat_cmp) question)) entries ≡ lookup (is_same_question question) entries
lookup-question question entries =
    ap (λ (test : List (List ℕ) → Bool). lookup test entries) (λ at. λ (key : List (List ℕ)). is_at-question question key at)

-- the same questions are equal ones
pub same_question-equal : (a b : List (List ℕ)) → is_same_question a b ≡ true → a ≡ b
same_question-equal a b e = (pointwise_decides bytes_decides a b).0 e

pub same_question-itself : (a : List (List ℕ)) → is_same_question a a ≡ true
same_question-itself a = (pointwise_decides bytes_decides a a).1 refl
