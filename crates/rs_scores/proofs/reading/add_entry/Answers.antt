use Rattle.std.proofs.Common.{◌≡◌, ◌+◌, ◌∙◌, ℕ, ℤ, List, None, ap, cond, is_some, length, not, subst, sym, true}
use Rattle.rs_scores.specs.Known.{score_of, score_with}
use Rattle.rs_scores.proofs.ReadingFacts.{Reads-new, score-fits}
use Rattle.rs_scores.proofs.reading.add_entry.Goals as goal

pub returns : goal.returns
returns c = λ before knows.
    let known = c.args.known.now in
    let entry = c.args.entry in
    let none : score_of entry.question known ≡ None = sym c.score.ensures ∙ c.in-None.is in
    let fresh : c.in_ok-add-in-None.field-0 ≡ true = c.in_ok-add-in-None.ensures.new ∙ ap (λ score. not (is_some score)) none in
    Reads-new known.names c.args.number before known c.add.new.self entry knows none
    (record {
      names = c.in_ok-add-in-None.ensures.names;
      scores =
          subst (λ (score : ℤ). (other : List (List ℕ)) → score_of other c.add.new.self ≡ score_with entry.question score known other)
          (score-fits entry.score c.requires) c.in_ok-add-in-None.ensures.scores;
      count = c.in_ok-add-in-None.ensures.count ∙ ap (λ b. cond b (length known.scores + 1) (length known.scores)) fresh;
    })
