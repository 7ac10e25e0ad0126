-- The key ends in a number that no key had.
use Rattle.std.proofs.Common.{◌≡◌, ◌+◌, ◌*◌, ◌/◌, ◌%◌, false, ap, subst, sym, ◌∙◌, arith}
use Rattle.std.specs.Ordering.{nat_cmp}
use Rattle.rs_queue.specs.Queue.{has_key}
use Rattle.cases_data.specs.Work.{Work, number_at}
use Rattle.cases_data.proofs.LoadFacts.{AreBelow, AreBelow-push, has_key-new, number_at-more}
use Rattle.cases_data.proofs.load.Load.push.Goals as goal

pub push-requires : goal.push-requires
push-requires c =
    let same = ap (λ (work : Work). work.count) c.self.view_is in
    let less = c.requires in
    let key = c.key_of-key.ensures ∙ ap (λ n. (c.self.inside.number / 2048 + n * c.self.inside.step) * 2097152 + n) c.from.ensures in
    subst (λ key. has_key nat_cmp key c.self.inside.held ≡ false) (sym key)
    (has_key-new (c.self.inside.number / 2048 + c.self.inside.count * c.self.inside.step) c.self.inside.count c.self.inside.held (omega arith) c.self.invariant.3)

pub invariant_of-self : goal.invariant_of-self
invariant_of-self c =
    let same = ap (λ (work : Work). work.count) c.self.view_is in
    let less = c.requires in
    let key = c.key_of-key.ensures ∙ ap (λ n. (c.self.inside.number / 2048 + n * c.self.inside.step) * 2097152 + n) c.from.ensures in
    let number : 16807 * c.self.inside.number % 2147483647 ≡ number_at (c.self.inside.count + 1) =
    ap (λ n. 16807 * n % 2147483647) c.self.invariant.0 ∙ sym (number_at-more c.self.inside.count) in (
      number,
      omega arith,
      c.self.invariant.2,
      subst (AreBelow (c.self.inside.count + 1))
          (sym (rw key at c.in-Ok.ensures.ok))
          (AreBelow-push (c.self.inside.number / 2048 + c.self.inside.count * c.self.inside.step) c.self.inside.count c.self.inside.count c.self.inside.held (omega arith) c.self.invariant.3),
      c.self.invariant.4,
    )
