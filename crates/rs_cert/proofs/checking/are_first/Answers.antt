use Rattle.std.proofs.Common.{◌≡◌, [], ◌-◌, length, nat_lt, not, IsTrue, sym, ◌∙◌, ap, ap₂, subst, arith}
use Rattle.std.proofs.lemmas.Bool.{true≢false}
use Rattle.rs_cert.proofs.CheckFacts.{at_most, count_before, first-back, first-from, not_more}
use Rattle.rs_cert.proofs.checking.are_first.Goals as goal

pub returns : goal.returns
returns c =
    let some : c.args.cert.now.pairs ≡ [] → ⊥ = λ none. true≢false (sym (c.is_empty.ensures.1 none) ∙ c.if-is_empty.false) in
    let more : c.has_more_pairs.result ≡ nat_lt (length c.args.cert.now.pairs - 1) (count_before c.args.last.now c.args.cert.now.left.rows c.args.cert.now.right.rows) =
    c.has_more_pairs.ensures
    ∙ ap₂ nat_lt (ap (λ n. n - 1) c.len-2.ensures) (ap₂ (count_before c.args.last.now) (c.deref.ensures.value ∙ c.items.ensures) c.requires.rights) in (
      (λ h. first-from c.args.cert.now some c.args.last.now c.requires.last c.requires.order (let size = c.len.ensures in let few = c.if-len-cert.false in omega arith)
          (at_most _ _ (subst (λ b. IsTrue (not b)) more h))),
      (λ first. subst (λ b. IsTrue (not b)) (sym more) (not_more _ _ (first-back c.args.cert.now some c.args.last.now c.requires.last first))),
    )
