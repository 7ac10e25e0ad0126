use Rattle.std.proofs.Common.{◌≡◌, ◌∙◌, ◌≤◌, [], ◌∷◌, ◌++◌, Ok, Err, map, sum, refl, sym, ap, subst, append-nil, arith}
use Rattle.std.specs.declared.alloc.Global.{Global}
use Rattle.std.specs.declared.vec.Vec.{Vec}
use Rattle.rand_core.specs.Steps.{first_words}
use Rattle.rand_pcg.specs.Pcg.{pcg32}
use Rattle.rs_expr.specs.InOrder.{Inquires}
use Rattle.rs_query.specs.Tables.{sizes_of}
use Rattle.rs_query.specs.Views.{all_rows}
use Rattle.rs_query.specs.declared.query.Query.TheVariants.{One, Set}
use Rattle.rs_sample.specs.Kept.{block_cards}
use Rattle.rs_sample.specs.Cards.{AllSayTheSame}
use Rattle.rs_sample.specs.Sampling.{AreCards, asking_all, block_questions, block_samples, done, done_of, query_cards, questions_of}
use Rattle.rs_sample.specs.Words.{words_of}
use Rattle.rs_sample.specs.declared.estimates.Estimates.{Estimates}
use Rattle.rs_sample.specs.declared.fault.SampleFault.TheVariants.{Memory}
use Rattle.rs_sample.proofs.NameFacts.{names-asks}
use Rattle.rs_sample.proofs.QueryFacts.{both-ended, both_rows, first-faulted, first-stopped, left-enough, second-faulted, second-stopped, words-left}
use Rattle.rs_value.proofs.ResultFacts.{given-err}
use Rattle.rs_sample.proofs.cards.Cards.take_over.Goals.{in-One+in_ok-first-in-One+in_ok-push-in-One, in-Set+in_ok-first-in-Set+in_ok-push-in-Set+in_ok-second-in-Set+in_ok-push-in-Set-2}
use Rattle.rs_sample.proofs.cards.Cards.take_over.Goals as goal

pub returns-in_err-first-in-One-clause-asks : goal.returns-in_err-first-in-One-clause-asks
returns-in_err-first-in-One-clause-asks g c =
    let old = g.S.Scorer.state c.args.scorer.now in
    let catalogue = c.args.catalog.now in
    let seed = c.args.seed in
    let seeded = c.seed_from_u64-words.ensures in
    let block = c.in-One.block in
    let sizes = sizes_of catalogue block in
    let count = sum sizes in
    let all : count ≤ count = omega arith in
    let new = g.S.Scorer.state c.sample_block.new.scorer in
    let asks = subst (λ start. Inquires Memory (asking_all catalogue (block_questions 1 block (block_samples block sizes (first_words pcg32 count start)).0) done) (Err c.in_err-first-in-One.field-0.0) old new) seeded
    (c.in_err-first-in-One.ensures.asks count all) in
    let one = block_questions 1 block (block_samples block sizes (words_of seed count)).0 in
    subst (λ query. Inquires Memory (asking_all catalogue (questions_of query (all_rows catalogue query) seed) done) (done_of c.from_residual.result) old new) (sym c.in-One.is)
    (first-faulted catalogue one [] one (sym (append-nil one)) c.in_err-first-in-One.field-0.0 (done_of c.from_residual.result) old new
    (ap done_of (given-err c.from_residual.result c.in_err-first-in-One.field-0.0 c.from_residual.ensures)) asks)

pub returns-in_err-push-in-One-clause-asks : goal.returns-in_err-push-in-One-clause-asks
returns-in_err-push-in-One-clause-asks g c =
    let old = g.S.Scorer.state c.args.scorer.now in
    let catalogue = c.args.catalog.now in
    let seed = c.args.seed in
    let seeded = c.seed_from_u64-words.ensures in
    let block = c.in-One.block in
    let sizes = sizes_of catalogue block in
    let count = sum sizes in
    let all : count ≤ count = omega arith in
    let new = g.S.Scorer.state c.sample_block.new.scorer in
    let asks = subst (λ start. Inquires Memory (asking_all catalogue (block_questions 1 block (block_samples block sizes (first_words pcg32 count start)).0) done) (Ok done) old new) seeded
    (c.in_ok-first-in-One.ensures.asks count all) in
    let one = block_questions 1 block (block_samples block sizes (words_of seed count)).0 in
    subst (λ query. Inquires Memory (asking_all catalogue (questions_of query (all_rows catalogue query) seed) done) (done_of c.from_residual-in_err-push-in-One.result) old new) (sym c.in-One.is)
    (first-stopped catalogue one [] one (sym (append-nil one)) (done_of c.from_residual-in_err-push-in-One.result) old new
    (ap done_of (given-err c.from_residual-in_err-push-in-One.result Memory c.from_residual-in_err-push-in-One.ensures)) asks)

pub returns-in_err-first-in-Set-clause-asks : goal.returns-in_err-first-in-Set-clause-asks
returns-in_err-first-in-Set-clause-asks g c =
    let old = g.S.Scorer.state c.args.scorer.now in
    let catalogue = c.args.catalog.now in
    let seed = c.args.seed in
    let seeded = c.seed_from_u64-words.ensures in
    let left = c.in-Set.left in
    let right = c.in-Set.right in
    let zs = sizes_of catalogue left in
    let rs = sizes_of catalogue right in
    let count = both_rows catalogue left right in
    let all : sum zs ≤ count = omega arith in
    let words = words_of seed count in
    let first = block_samples left zs words in
    let one = block_questions 1 left first.0 in
    let two = block_questions 2 right (block_samples right rs first.1).0 in
    let middle = g.S.Scorer.state c.sample_block-in-Set.new.scorer in
    let asks = subst (λ start. Inquires Memory (asking_all catalogue (block_questions 1 left (block_samples left zs (first_words pcg32 count start)).0) done) (Err c.in_err-first-in-Set.field-0.0) old middle) seeded
    (c.in_err-first-in-Set.ensures.asks count all) in
    subst (λ query. Inquires Memory (asking_all catalogue (questions_of query (all_rows catalogue query) seed) done) (done_of c.from_residual-in_err-first-in-Set.result) old middle) (sym c.in-Set.is)
    (first-faulted catalogue one two (one ++ two) refl c.in_err-first-in-Set.field-0.0 (done_of c.from_residual-in_err-first-in-Set.result) old middle
    (ap done_of (given-err c.from_residual-in_err-first-in-Set.result c.in_err-first-in-Set.field-0.0 c.from_residual-in_err-first-in-Set.ensures)) asks)

pub returns-in_err-push-in-Set-clause-asks : goal.returns-in_err-push-in-Set-clause-asks
returns-in_err-push-in-Set-clause-asks g c =
    let old = g.S.Scorer.state c.args.scorer.now in
    let catalogue = c.args.catalog.now in
    let seed = c.args.seed in
    let seeded = c.seed_from_u64-words.ensures in
    let left = c.in-Set.left in
    let right = c.in-Set.right in
    let zs = sizes_of catalogue left in
    let rs = sizes_of catalogue right in
    let count = both_rows catalogue left right in
    let all : sum zs ≤ count = omega arith in
    let words = words_of seed count in
    let first = block_samples left zs words in
    let one = block_questions 1 left first.0 in
    let two = block_questions 2 right (block_samples right rs first.1).0 in
    let middle = g.S.Scorer.state c.sample_block-in-Set.new.scorer in
    let asks = subst (λ start. Inquires Memory (asking_all catalogue (block_questions 1 left (block_samples left zs (first_words pcg32 count start)).0) done) (Ok done) old middle) seeded
    (c.in_ok-first-in-Set.ensures.asks count all) in
    subst (λ query. Inquires Memory (asking_all catalogue (questions_of query (all_rows catalogue query) seed) done) (done_of c.from_residual-in_err-push-in-Set.result) old middle) (sym c.in-Set.is)
    (first-stopped catalogue one two (one ++ two) refl (done_of c.from_residual-in_err-push-in-Set.result) old middle
    (ap done_of (given-err c.from_residual-in_err-push-in-Set.result Memory c.from_residual-in_err-push-in-Set.ensures)) asks)

pub returns-in_err-second-in-Set-clause-asks : goal.returns-in_err-second-in-Set-clause-asks
returns-in_err-second-in-Set-clause-asks g c =
    let old = g.S.Scorer.state c.args.scorer.now in
    let catalogue = c.args.catalog.now in
    let seed = c.args.seed in
    let seeded = c.seed_from_u64-words.ensures in
    let left = c.in-Set.left in
    let right = c.in-Set.right in
    let zs = sizes_of catalogue left in
    let rs = sizes_of catalogue right in
    let count = both_rows catalogue left right in
    let all : sum zs ≤ count = omega arith in
    let words = words_of seed count in
    let first = block_samples left zs words in
    let one = block_questions 1 left first.0 in
    let two = block_questions 2 right (block_samples right rs first.1).0 in
    let middle = g.S.Scorer.state c.sample_block-in-Set.new.scorer in
    let asks = subst (λ start. Inquires Memory (asking_all catalogue (block_questions 1 left (block_samples left zs (first_words pcg32 count start)).0) done) (Ok done) old middle) seeded
    (c.in_ok-first-in-Set.ensures.asks count all) in
    let drawn = c.in_ok-first-in-Set.ensures.words count all in
    let next = words-left catalogue left right c.seed_from_u64-words.result c.sample_block-in-Set.new.words drawn seed seeded in
    let enough = left-enough catalogue left right c.seed_from_u64-words.result c.sample_block-in-Set.new.words drawn in
    let new = g.S.Scorer.state c.sample_block-in-Set-2.new.scorer in
    let more = subst (λ ws. Inquires Memory (asking_all catalogue (block_questions 2 right (block_samples right rs ws).0) done) (Err c.in_err-second-in-Set.field-0.0) middle new) next
    (c.in_err-second-in-Set.ensures.asks drawn.left enough) in
    subst (λ query. Inquires Memory (asking_all catalogue (questions_of query (all_rows catalogue query) seed) done) (done_of c.from_residual-in_err-second-in-Set.result) old new) (sym c.in-Set.is)
    (second-faulted catalogue one two (one ++ two) refl c.in_err-second-in-Set.field-0.0 (done_of c.from_residual-in_err-second-in-Set.result) old middle new
    (ap done_of (given-err c.from_residual-in_err-second-in-Set.result c.in_err-second-in-Set.field-0.0 c.from_residual-in_err-second-in-Set.ensures)) asks more)

pub returns-in_err-push-in-Set-2-clause-asks : goal.returns-in_err-push-in-Set-2-clause-asks
returns-in_err-push-in-Set-2-clause-asks g c =
    let old = g.S.Scorer.state c.args.scorer.now in
    let catalogue = c.args.catalog.now in
    let seed = c.args.seed in
    let seeded = c.seed_from_u64-words.ensures in
    let left = c.in-Set.left in
    let right = c.in-Set.right in
    let zs = sizes_of catalogue left in
    let rs = sizes_of catalogue right in
    let count = both_rows catalogue left right in
    let all : sum zs ≤ count = omega arith in
    let words = words_of seed count in
    let first = block_samples left zs words in
    let one = block_questions 1 left first.0 in
    let two = block_questions 2 right (block_samples right rs first.1).0 in
    let middle = g.S.Scorer.state c.sample_block-in-Set.new.scorer in
    let asks = subst (λ start. Inquires Memory (asking_all catalogue (block_questions 1 left (block_samples left zs (first_words pcg32 count start)).0) done) (Ok done) old middle) seeded
    (c.in_ok-first-in-Set.ensures.asks count all) in
    let drawn = c.in_ok-first-in-Set.ensures.words count all in
    let next = words-left catalogue left right c.seed_from_u64-words.result c.sample_block-in-Set.new.words drawn seed seeded in
    let enough = left-enough catalogue left right c.seed_from_u64-words.result c.sample_block-in-Set.new.words drawn in
    let new = g.S.Scorer.state c.sample_block-in-Set-2.new.scorer in
    let more = subst (λ ws. Inquires Memory (asking_all catalogue (block_questions 2 right (block_samples right rs ws).0) done) (Ok done) middle new) next
    (c.in_ok-second-in-Set.ensures.asks drawn.left enough) in
    subst (λ query. Inquires Memory (asking_all catalogue (questions_of query (all_rows catalogue query) seed) done) (done_of c.from_residual-in_err-push-in-Set-2.result) old new) (sym c.in-Set.is)
    (second-stopped catalogue one two (one ++ two) refl (done_of c.from_residual-in_err-push-in-Set-2.result) old middle new
    (ap done_of (given-err c.from_residual-in_err-push-in-Set-2.result Memory c.from_residual-in_err-push-in-Set-2.ensures)) asks more)

pub returns-clause-asks : goal.returns-clause-asks
returns-clause-asks g c =
    let old = g.S.Scorer.state c.args.scorer.now in
    let catalogue = c.args.catalog.now in
    let seed = c.args.seed in
    let seeded = c.seed_from_u64-words.ensures in
    elim c.match-query.branch [
      | in-One+in_ok-first-in-One+in_ok-push-in-One w ↦
          let block = w.in-One.block in
          let sizes = sizes_of catalogue block in
          let count = sum sizes in
          let all : count ≤ count = omega arith in
          let new = g.S.Scorer.state w.sample_block.new.scorer in
          let asks = subst (λ start. Inquires Memory (asking_all catalogue (block_questions 1 block (block_samples block sizes (first_words pcg32 count start)).0) done) (Ok done) old new) seeded
          (w.in_ok-first-in-One.ensures.asks count all) in
          subst (λ n. Inquires Memory (asking_all catalogue (questions_of c.args.query.now (all_rows catalogue c.args.query.now) seed) done) (Ok done) old n) (sym (ap g.S.Scorer.state w.scorer-is))
          (subst (λ query. Inquires Memory (asking_all catalogue (questions_of query (all_rows catalogue query) seed) done) (Ok done) old new) (sym w.in-One.is) asks)
      | in-Set+in_ok-first-in-Set+in_ok-push-in-Set+in_ok-second-in-Set+in_ok-push-in-Set-2 w ↦
          let left = w.in-Set.left in
          let right = w.in-Set.right in
          let zs = sizes_of catalogue left in
          let rs = sizes_of catalogue right in
          let count = both_rows catalogue left right in
          let all : sum zs ≤ count = omega arith in
          let words = words_of seed count in
          let first = block_samples left zs words in
          let one = block_questions 1 left first.0 in
          let two = block_questions 2 right (block_samples right rs first.1).0 in
          let middle = g.S.Scorer.state w.sample_block-in-Set.new.scorer in
          let asks = subst (λ start. Inquires Memory (asking_all catalogue (block_questions 1 left (block_samples left zs (first_words pcg32 count start)).0) done) (Ok done) old middle) seeded
          (w.in_ok-first-in-Set.ensures.asks count all) in
          let drawn = w.in_ok-first-in-Set.ensures.words count all in
          let next = words-left catalogue left right c.seed_from_u64-words.result w.sample_block-in-Set.new.words drawn seed seeded in
          let enough = left-enough catalogue left right c.seed_from_u64-words.result w.sample_block-in-Set.new.words drawn in
          let new = g.S.Scorer.state w.sample_block-in-Set-2.new.scorer in
          let more = subst (λ ws. Inquires Memory (asking_all catalogue (block_questions 2 right (block_samples right rs ws).0) done) (Ok done) middle new) next
          (w.in_ok-second-in-Set.ensures.asks drawn.left enough) in
          subst (λ n. Inquires Memory (asking_all catalogue (questions_of c.args.query.now (all_rows catalogue c.args.query.now) seed) done) (Ok done) old n) (sym (ap g.S.Scorer.state w.scorer-is))
          (subst (λ query. Inquires Memory (asking_all catalogue (questions_of query (all_rows catalogue query) seed) done) (Ok done) old new) (sym w.in-Set.is) (both-ended catalogue one two (one ++ two) refl old middle new asks more))
    ]

pub returns-clause-cards : goal.returns-clause-cards
returns-clause-cards g c =
    let old = g.S.Scorer.state c.args.scorer.now in
    let catalogue = c.args.catalog.now in
    let seed = c.args.seed in
    let seeded = c.seed_from_u64-words.ensures in
    elim c.match-query.branch [
      | in-One+in_ok-first-in-One+in_ok-push-in-One w ↦
          let block = w.in-One.block in
          let limit = w.in-One.limit in
          let sizes = sizes_of catalogue block in
          let count = sum sizes in
          let all : count ≤ count = omega arith in
          let first = w.in_ok-first-in-One.first in
          let cards = subst (λ start. AreCards old.answer catalogue block sizes (block_samples block sizes (first_words pcg32 count start)).0 limit (block_cards first)) seeded
          (w.in_ok-first-in-One.ensures.cards count all) in
          let kept : c.match-query.blocks.items ≡ first ∷ [] =
          ap (λ (v : Vec Estimates Global). v.items) w.blocks-is ∙ w.in_ok-push-in-One.ensures.items ∙ ap (λ es. es ++ first ∷ []) c.new-blocks.ensures.items in
          subst (λ query. AllSayTheSame (map block_cards c.match-query.blocks.items) (query_cards old.answer catalogue query (all_rows catalogue query) seed)) (sym w.in-One.is)
          (subst (λ es. AllSayTheSame (map block_cards es) (query_cards old.answer catalogue (One block limit) (all_rows catalogue (One block limit)) seed)) (sym kept) (cards, tt))
      | in-Set+in_ok-first-in-Set+in_ok-push-in-Set+in_ok-second-in-Set+in_ok-push-in-Set-2 w ↦
          let left = w.in-Set.left in
          let right = w.in-Set.right in
          let limit = w.in-Set.limit in
          let op = w.in-Set.field-0 in
          let zs = sizes_of catalogue left in
          let rs = sizes_of catalogue right in
          let count = both_rows catalogue left right in
          let all : sum zs ≤ count = omega arith in
          let middle = g.S.Scorer.state w.sample_block-in-Set.new.scorer in
          let first = w.in_ok-first-in-Set.first in
          let second = w.in_ok-second-in-Set.second in
          let drawn = w.in_ok-first-in-Set.ensures.words count all in
          let next = words-left catalogue left right c.seed_from_u64-words.result w.sample_block-in-Set.new.words drawn seed seeded in
          let enough = left-enough catalogue left right c.seed_from_u64-words.result w.sample_block-in-Set.new.words drawn in
          let same : middle.answer ≡ old.answer = (w.in_ok-first-in-Set.ensures.asks count all).keeps.answer in
          let one = subst (λ start. AreCards old.answer catalogue left zs (block_samples left zs (first_words pcg32 count start)).0 limit (block_cards first)) seeded
          (w.in_ok-first-in-Set.ensures.cards count all) in
          let two = subst (λ a. AreCards a catalogue right rs (block_samples right rs (block_samples left zs (words_of seed count)).1).0 limit (block_cards second)) same
          (subst (λ ws. AreCards middle.answer catalogue right rs (block_samples right rs ws).0 limit (block_cards second)) next
          (w.in_ok-second-in-Set.ensures.cards drawn.left enough)) in
          let kept : c.match-query.blocks.items ≡ first ∷ second ∷ [] =
          ap (λ (v : Vec Estimates Global). v.items) w.blocks-is ∙ w.in_ok-push-in-Set-2.ensures.items
          ∙ ap (λ es. es ++ second ∷ []) (w.in_ok-push-in-Set.ensures.items ∙ ap (λ es. es ++ first ∷ []) c.new-blocks.ensures.items) in
          subst (λ query. AllSayTheSame (map block_cards c.match-query.blocks.items) (query_cards old.answer catalogue query (all_rows catalogue query) seed)) (sym w.in-Set.is)
          (subst (λ es. AllSayTheSame (map block_cards es) (query_cards old.answer catalogue (Set op left right limit) (all_rows catalogue (Set op left right limit)) seed)) (sym kept) (one, (two, tt)))
    ]

pub returns-in_err-first-in-One-clause-names_predicate : goal.returns-in_err-first-in-One-clause-names_predicate
returns-in_err-first-in-One-clause-names_predicate g c =
    names-asks c.args.catalog.now c.args.query.now (all_rows c.args.catalog.now c.args.query.now) c.args.seed c.from_residual.result
    (g.S.Scorer.state c.args.scorer.now) (g.S.Scorer.state c.sample_block.new.scorer) c.requires (returns-in_err-first-in-One-clause-asks g c)

pub returns-in_err-push-in-One-clause-names_predicate : goal.returns-in_err-push-in-One-clause-names_predicate
returns-in_err-push-in-One-clause-names_predicate g c =
    names-asks c.args.catalog.now c.args.query.now (all_rows c.args.catalog.now c.args.query.now) c.args.seed c.from_residual-in_err-push-in-One.result
    (g.S.Scorer.state c.args.scorer.now) (g.S.Scorer.state c.sample_block.new.scorer) c.requires (returns-in_err-push-in-One-clause-asks g c)

pub returns-in_err-first-in-Set-clause-names_predicate : goal.returns-in_err-first-in-Set-clause-names_predicate
returns-in_err-first-in-Set-clause-names_predicate g c =
    names-asks c.args.catalog.now c.args.query.now (all_rows c.args.catalog.now c.args.query.now) c.args.seed c.from_residual-in_err-first-in-Set.result
    (g.S.Scorer.state c.args.scorer.now) (g.S.Scorer.state c.sample_block-in-Set.new.scorer) c.requires (returns-in_err-first-in-Set-clause-asks g c)

pub returns-in_err-push-in-Set-clause-names_predicate : goal.returns-in_err-push-in-Set-clause-names_predicate
returns-in_err-push-in-Set-clause-names_predicate g c =
    names-asks c.args.catalog.now c.args.query.now (all_rows c.args.catalog.now c.args.query.now) c.args.seed c.from_residual-in_err-push-in-Set.result
    (g.S.Scorer.state c.args.scorer.now) (g.S.Scorer.state c.sample_block-in-Set.new.scorer) c.requires (returns-in_err-push-in-Set-clause-asks g c)

pub returns-in_err-second-in-Set-clause-names_predicate : goal.returns-in_err-second-in-Set-clause-names_predicate
returns-in_err-second-in-Set-clause-names_predicate g c =
    names-asks c.args.catalog.now c.args.query.now (all_rows c.args.catalog.now c.args.query.now) c.args.seed c.from_residual-in_err-second-in-Set.result
    (g.S.Scorer.state c.args.scorer.now) (g.S.Scorer.state c.sample_block-in-Set-2.new.scorer) c.requires (returns-in_err-second-in-Set-clause-asks g c)

pub returns-in_err-push-in-Set-2-clause-names_predicate : goal.returns-in_err-push-in-Set-2-clause-names_predicate
returns-in_err-push-in-Set-2-clause-names_predicate g c =
    names-asks c.args.catalog.now c.args.query.now (all_rows c.args.catalog.now c.args.query.now) c.args.seed c.from_residual-in_err-push-in-Set-2.result
    (g.S.Scorer.state c.args.scorer.now) (g.S.Scorer.state c.sample_block-in-Set-2.new.scorer) c.requires (returns-in_err-push-in-Set-2-clause-asks g c)
