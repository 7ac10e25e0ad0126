use Rattle.std.proofs.Common.{◌≡◌, ℕ, List, ◌∷◌, ◌++◌, [], cond, Some, sym, ◌∙◌, ap, subst}
use Rattle.std.specs.BTreeMap.{get}
use Rattle.std.specs.Cmp.Lexicographic.{slice_cmp}
use Rattle.std.specs.Ordering.{is_eq, nat_cmp}
use Rattle.std.specs.declared.alloc.Global.{Global}
use Rattle.std.specs.declared.vec.Vec.{Vec}
use Rattle.rs_cert.specs.ByText.{numbers_in, numbers_or_none}
use Rattle.rs_cert.proofs.ByTextFacts.{number-added}
use Rattle.rs_cert.proofs.by_text.add_number.Goals as goal
use Rattle.rs_cert.proofs.by_text.add_number.Goals.{in-Some, in-None}

pub returns : goal.returns
returns c = λ other.
    let taken : c.match-remove.more.items ≡ numbers_in c.args.numbers.now c.args.text.now =
    elim c.match-remove.branch [
      | in-Some w ↦ ap (λ (v : Vec ℕ Global). v.items) w.more-is ∙ ap numbers_or_none (sym w.in-Some.is ∙ c.remove.ensures.value)
      | in-None w ↦ ap (λ (v : Vec ℕ Global). v.items) w.more-is ∙ w.new-more.ensures.items ∙ ap numbers_or_none (sym w.in-None.is ∙ c.remove.ensures.value)
    ] in
    let put : (q : List ℕ) → get (slice_cmp nat_cmp) c.insert.new.self q ≡ cond (is_eq (slice_cmp nat_cmp c.args.text.now q)) (Some c.push.new.self) (get (slice_cmp nat_cmp) c.remove.new.self q) =
    subst (λ t. (q : List ℕ) → get (slice_cmp nat_cmp) c.insert.new.self q ≡ cond (is_eq (slice_cmp nat_cmp t q)) (Some c.push.new.self) (get (slice_cmp nat_cmp) c.remove.new.self q)) c.in_ok-copy.ensures c.in_ok-insert.ensures.updates.0 in
    number-added c.args.numbers.now c.remove.new.self c.insert.new.self c.args.text.now c.push.new.self c.args.number c.remove.ensures.updates.0 put (c.in_ok-push.ensures.items ∙ ap (λ list. list ++ c.args.number ∷ []) taken) other
