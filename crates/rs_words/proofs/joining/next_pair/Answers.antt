use Rattle.std.proofs.Common.{◌∙◌, sym}
use Rattle.std.proofs.lemmas.Bool.{true≢false}
use Rattle.rs_words.proofs.joining.next_pair.Goals as goal

pub returns-clause-leaves : goal.returns-clause-leaves
returns-clause-leaves g c =
    let ensures = c.next.ensures in record {
      refused = ensures.refused;
      left_refused = ensures.left_refused;
      right_refused = ensures.right_refused;
      unbroken = λ e. true≢false (sym (ensures.broken.0 e) ∙ c.requires.whole);
      kept = ensures.kept;
      counted = ensures.counted;
      left_drawn = ensures.left;
      right_drawn = ensures.right;
      left_told = ensures.left_told;
      right_told = ensures.right_told;
      left_counts = ensures.left_counts;
      right_counts = ensures.right_counts;
    }
