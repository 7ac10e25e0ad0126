-- The pair that the core gives is the next one of the rows that were drawn.
use Rattle.std.proofs.Common.{◌≤◌, List, length, slice_index, refl, sym, ◌∙◌, ap, subst, arith}
use Rattle.rs_value.proofs.ResultFacts.{given-err}
use Rattle.rs_feed_join.specs.declared.fault.JoinFault.TheVariants.{Memory}
use Rattle.rs_feed.specs.declared.feed_row.FeedRow.{FeedRow}
use Rattle.rs_feed_join.specs.Parts.{StandsAt, parts_of}
use Rattle.rs_feed_join.specs.Ranked.{row_of}
use Rattle.rs_feed_join.proofs.AnswerFacts.{next-there}
use Rattle.rs_feed_join.proofs.GiveFacts.{given-pair, left-within, right-within, taken-none, taken-some}
use Rattle.rs_feed_join.proofs.StandFacts.{alive, stands-taken}
use Rattle.rs_feed_join.proofs.parts.JoinParts.give.Goals as goal

pub take_ready-requires-clause-alive : goal.take_ready-requires-clause-alive
take_ready-requires-clause-alive c = alive c.requires.standing.made (parts_of c.args.self.now) c.requires.standing.at

-- a join that is ready has one
pub returns-in_default-clause-pair : goal.returns-in_default-clause-pair
returns-in_default-clause-pair c =
    sym (taken-none c.requires.standing.made (parts_of c.args.self.now) c.requires.standing.at c.requires.ready (sym c.take_ready.ensures.row ∙ c.in_default.is))

pub returns-in_default-clause-stands : goal.returns-in_default-clause-stands
returns-in_default-clause-stands c = λ made s.
    absurd (next-there made (parts_of c.args.self.now) s c.requires.ready (taken-none made (parts_of c.args.self.now) s c.requires.ready (sym c.take_ready.ensures.row ∙ c.in_default.is)))

pub of-requires-clause-left_from : goal.of-requires-clause-left_from
of-requires-clause-left_from c = (left-within (parts_of c.args.self.now) c.in-Some.row (taken-some c.requires.standing.made (parts_of c.args.self.now) c.requires.standing.at c.requires.ready c.in-Some.row (sym c.take_ready.ensures.row ∙ c.in-Some.is))).0

pub of-requires-clause-left_to : goal.of-requires-clause-left_to
of-requires-clause-left_to c =
    subst (λ (rows : List FeedRow). slice_index c.in-Some.row.ids.rows 0 ≤ length rows) (sym c.deref.ensures.value) (left-within (parts_of c.args.self.now) c.in-Some.row (taken-some c.requires.standing.made (parts_of c.args.self.now) c.requires.standing.at c.requires.ready c.in-Some.row (sym c.take_ready.ensures.row ∙ c.in-Some.is))).1

pub of-requires-clause-right_from : goal.of-requires-clause-right_from
of-requires-clause-right_from c = (right-within (parts_of c.args.self.now) c.in-Some.row (taken-some c.requires.standing.made (parts_of c.args.self.now) c.requires.standing.at c.requires.ready c.in-Some.row (sym c.take_ready.ensures.row ∙ c.in-Some.is))).0

pub of-requires-clause-right_to : goal.of-requires-clause-right_to
of-requires-clause-right_to c =
    subst (λ (rows : List FeedRow). slice_index c.in-Some.row.ids.rows 1 ≤ length rows) (sym c.deref-2.ensures.value) (right-within (parts_of c.args.self.now) c.in-Some.row (taken-some c.requires.standing.made (parts_of c.args.self.now) c.requires.standing.at c.requires.ready c.in-Some.row (sym c.take_ready.ensures.row ∙ c.in-Some.is))).1

pub returns-in_err-pair : goal.returns-in_err-pair
returns-in_err-pair c = rw (given-err c.from_residual.result Memory c.from_residual.ensures) (record { left = refl; right = refl; pair = tt; given = refl; stands = tt; err = refl })

pub overflow_add-self : goal.overflow_add-self
overflow_add-self c = let more = (taken-some c.requires.standing.made (parts_of c.args.self.now) c.requires.standing.at c.requires.ready c.in-Some.row (sym c.take_ready.ensures.row ∙ c.in-Some.is)).more in omega (arith, more)

pub returns-clause-pair : goal.returns-clause-pair
returns-clause-pair c = given-pair (parts_of c.args.self.now) c.in-Some.row (taken-some c.requires.standing.made (parts_of c.args.self.now) c.requires.standing.at c.requires.ready c.in-Some.row (sym c.take_ready.ensures.row ∙ c.in-Some.is)) c.in_ok-pair.pair
    (λ l r left right. c.in_ok-pair.ensures l r (ap (λ (rows : List FeedRow). row_of rows (slice_index c.in-Some.row.ids.rows 0)) c.deref.ensures.value ∙ left) (ap (λ (rows : List FeedRow). row_of rows (slice_index c.in-Some.row.ids.rows 1)) c.deref-2.ensures.value ∙ right))

pub returns-clause-stands : goal.returns-clause-stands
returns-clause-stands c = λ made s.
    subst (λ n. StandsAt made (record { core = c.take_ready.new.self; left = (parts_of c.args.self.now).left; right = (parts_of c.args.self.now).right; given = n })) (omega arith)
    (stands-taken made (parts_of c.args.self.now) s c.requires.ready c.take_ready.new.self c.take_ready.ensures.left)
