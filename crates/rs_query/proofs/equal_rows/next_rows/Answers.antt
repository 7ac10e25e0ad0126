-- One more row is the first one of its key, and the one that was is its next.
use Rattle.std.proofs.Common.{◌≡◌, ◌∙◌, ◌+◌, cond, Some, length, set, unwrap_or, sym, ap, subst, arith}
use Rattle.std.specs.Ordering.{is_eq}
use Rattle.std.specs.BTreeMap.{get}
use Rattle.std.proofs.lemmas.List.{length-set, length_push}
use Rattle.rs_query.specs.EqualRows.{AreNextBehind, HasKey, IsNext}
use Rattle.rs_query.proofs.KeyFacts.{IsLast-popped, firsts-step, nexts-step}
use Rattle.rs_query.proofs.equal_rows.next_rows.Goals as goal

pub loop-key-preserved : goal.loop-key-preserved
loop-key-preserved g c =
    let cmp = g.K.Ord.cmp in
    let o = g.met.K.Ord.total in
    let all = c.args.keys.items in
    let old = c.loop-key.invariant in
    let left = c.pop.new.self.items in
    let n = length left in
    let last = IsLast-popped all c.loop-key.keys.items left c.in-Some.key c.in-Some.ensures.items old.most old.left in
    let count : length c.loop-key.keys.items ≡ n + 1 = ap length c.in-Some.ensures.items ∙ length_push left c.in-Some.key in
    let firsts = subst (λ m. (q : g.row.K.Denot) → IsNext (HasKey cmp all q) m (length all) (unwrap_or (get cmp c.loop-key.firsts q) 0)) count old.firsts in
    let next = subst (λ m. AreNextBehind cmp m all c.loop-key.next.items) count old.next in
    let found : c.unwrap_or.result ≡ unwrap_or (get cmp c.loop-key.firsts c.in-Some.key) 0 = c.unwrap_or.ensures ∙ ap (λ f. unwrap_or f 0) c.in_ok-insert.ensures.old in
    let place : c.len-place.result ≡ n = c.len-place.ensures ∙ c.pop.new.self.ok.0 in
    record {
      most = omega (arith, last.within);
      left = last.others;
      sized = length-set c.loop-key.next.items c.len-place.result c.unwrap_or.result ∙ old.sized;
      firsts = firsts-step cmp o all n c.in-Some.key (get cmp c.loop-key.firsts) (get cmp c.insert.new.self) last.within last.key_there
          (subst (λ m. (q : g.row.K.Denot) → get cmp c.insert.new.self q ≡ cond (is_eq (cmp c.in-Some.key q)) (Some (m + 1)) (get cmp c.loop-key.firsts q)) place c.in_ok-insert.ensures.updates.0)
          firsts;
      next = subst (λ i. AreNextBehind cmp n all (set c.loop-key.next.items i c.unwrap_or.result)) (sym place)
          (nexts-step cmp o all n c.unwrap_or.result c.in-Some.key c.loop-key.next.items old.sized last.within last.key_there
          (subst (IsNext (HasKey cmp all c.in-Some.key) (n + 1) (length all)) (sym found) (firsts c.in-Some.key)) next);
    }
