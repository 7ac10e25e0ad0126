use Rattle.std.proofs.Common.{◌≡◌, length, nat_lt, not, IsTrue, None, sym, ◌∙◌, ap₂, subst, arith}
use Rattle.rs_cert.specs.Good.{answers_of}
use Rattle.rs_cert.proofs.CheckFacts.{all-counted, at_most, count_before, first-many, not_more}
use Rattle.rs_cert.proofs.checking.has_enough.Goals as goal

pub returns-then-no_pair_can_come : goal.returns-then-no_pair_can_come
returns-then-no_pair_can_come c =
    let more : c.has_more_pairs.result ≡ nat_lt (length c.args.cert.now.pairs) (length (answers_of c.args.cert.now)) =
    c.has_more_pairs.ensures
    ∙ ap₂ nat_lt c.len-then-no_pair_can_come.ensures (ap₂ (count_before None) (c.deref.ensures.value ∙ c.items.ensures) c.requires.rights ∙ all-counted c.args.cert.now) in
    let many = first-many c.args.cert.now c.requires.first in (
      (λ h few.
          let most = at_most (length c.args.cert.now.pairs) (length (answers_of c.args.cert.now)) (subst (λ b. IsTrue (not b)) more h) in
          record { all = omega arith; ended = sym c.no_pair_can_come.ensures ∙ c.if-no_pair_can_come.true }),
      (λ enough.
          let whole = enough (let size = c.len.ensures in let below = c.if-len-cert.false in omega arith) in
          let all = whole.all in
          subst (λ b. IsTrue (not b)) (sym more) (not_more (length c.args.cert.now.pairs) (length (answers_of c.args.cert.now)) (omega arith))),
    )
