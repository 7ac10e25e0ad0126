use Rattle.std.proofs.Common.{ℕ, suc, ◌≡◌, ◌∙◌, ◌+◌, ◌-◌, ◌%◌, ◌<◌, [], ◌∷◌, ◌++◌, false, true, nat_lt, sym, ap, subst, append-nil, arith}
use Rattle.std.proofs.lemmas.Bool.{le-ltb, lt-ltb}
use Rattle.std.proofs.lemmas.Nat.{mod_below}
use Rattle.rand_core.specs.Steps.{first_words}
use Rattle.rand_pcg.specs.Lcg.{Lcg}
use Rattle.rand_pcg.specs.Pcg.{pcg32}
use Rattle.rs_sample.specs.Samples.{IsSample}
use Rattle.rs_sample.specs.Taking.{taken_from}
use Rattle.rs_sample.proofs.TakeFacts.{IsSample-taken, passed-next, taken-next, taken-none, taken_behind}
use Rattle.rs_sample.proofs.draw.take_rows.Goals as goal

pub loop-missing-preserved-then-is_taken : goal.loop-missing-preserved-then-is_taken
loop-missing-preserved-then-is_taken c =
    let word : c.next_word.result ≡ (pcg32 c.loop-missing.words).0 = ap (λ (p : ℕ × Lcg). p.0) c.next_word.ensures in
    let later : c.next_word.new.self ≡ (pcg32 c.loop-missing.words).1 = ap (λ (p : ℕ × Lcg). p.1) c.next_word.ensures in
    let room = c.loop-missing.invariant.room in
    let some = c.loop-missing-test.true in
    let takes : nat_lt ((pcg32 c.loop-missing.words).0 % (c.args.size - c.loop-missing.seen)) c.loop-missing.missing ≡ true =
    subst (λ w. nat_lt (w % (c.args.size - c.loop-missing.seen)) c.loop-missing.missing ≡ true) word (lt-ltb (c.next_word.result % (c.args.size - c.loop-missing.seen)) c.loop-missing.missing c.if-is_taken.true) in
    let one : suc c.loop-missing.seen ≡ c.loop-missing.seen + 1 = omega arith in
    record {
      room = omega arith;
      along = λ count enough.
          c.loop-missing.invariant.along count enough
          ∙ taken-next pcg32 c.args.size c.loop-missing.seen c.loop-missing.missing count c.loop-missing.taken.items c.loop-missing.words (omega arith) enough some takes
          ∙ ap (λ n. taken_behind (c.loop-missing.taken.items ++ n ∷ []) (taken_from (suc n) (c.args.size - n) (c.loop-missing.missing - 1) (first_words pcg32 (count - n) (pcg32 c.loop-missing.words).1))) one
          ∙ ap (λ g. taken_behind (c.loop-missing.taken.items ++ (c.loop-missing.seen + 1) ∷ [])
          (taken_from (suc (c.loop-missing.seen + 1)) (c.args.size - (c.loop-missing.seen + 1)) (c.loop-missing.missing - 1) (first_words pcg32 (count - (c.loop-missing.seen + 1)) g))) (sym later)
          ∙ ap (λ rows. taken_behind rows
          (taken_from (suc (c.loop-missing.seen + 1)) (c.args.size - (c.loop-missing.seen + 1)) (c.loop-missing.missing - 1) (first_words pcg32 (count - (c.loop-missing.seen + 1)) c.next_word.new.self)))
          (sym c.in_ok-push.ensures.items);
    }

pub loop-missing-preserved : goal.loop-missing-preserved
loop-missing-preserved c =
    let word : c.next_word.result ≡ (pcg32 c.loop-missing.words).0 = ap (λ (p : ℕ × Lcg). p.0) c.next_word.ensures in
    let later : c.next_word.new.self ≡ (pcg32 c.loop-missing.words).1 = ap (λ (p : ℕ × Lcg). p.1) c.next_word.ensures in
    let room = c.loop-missing.invariant.room in
    let some = c.loop-missing-test.true in
    let least = c.if-is_taken.false in
    let passes : nat_lt ((pcg32 c.loop-missing.words).0 % (c.args.size - c.loop-missing.seen)) c.loop-missing.missing ≡ false =
    subst (λ w. nat_lt (w % (c.args.size - c.loop-missing.seen)) c.loop-missing.missing ≡ false) word (le-ltb (c.next_word.result % (c.args.size - c.loop-missing.seen)) c.loop-missing.missing least) in
    let one : suc c.loop-missing.seen ≡ c.loop-missing.seen + 1 = omega arith in
    record {
      room = let unseen : 0 < c.args.size - c.loop-missing.seen = omega arith in let few = mod_below c.next_word.result (c.args.size - c.loop-missing.seen) unseen in omega arith;
      along = λ count enough.
          c.loop-missing.invariant.along count enough
          ∙ passed-next pcg32 c.args.size c.loop-missing.seen c.loop-missing.missing count c.loop-missing.taken.items c.loop-missing.words (omega arith) enough some passes
          ∙ ap (λ n. taken_behind c.loop-missing.taken.items (taken_from (suc n) (c.args.size - n) c.loop-missing.missing (first_words pcg32 (count - n) (pcg32 c.loop-missing.words).1))) one
          ∙ ap (λ g. taken_behind c.loop-missing.taken.items
          (taken_from (suc (c.loop-missing.seen + 1)) (c.args.size - (c.loop-missing.seen + 1)) c.loop-missing.missing (first_words pcg32 (count - (c.loop-missing.seen + 1)) g))) (sym later);
    }

pub returns-clause-are : goal.returns-clause-are
returns-clause-are c =
    let none : c.loop-missing.missing ≡ 0 = omega arith in
    let words = first_words pcg32 (c.args.size - c.loop-missing.seen) c.loop-missing.words in
    subst (IsSample c.args.needed c.args.size)
    (ap (λ p. p.0) (c.loop-missing.invariant.along c.args.size (omega arith)
    ∙ ap (λ m. taken_behind c.loop-missing.taken.items (taken_from (suc c.loop-missing.seen) (c.args.size - c.loop-missing.seen) m words)) none
    ∙ ap (taken_behind c.loop-missing.taken.items) (taken-none (suc c.loop-missing.seen) (c.args.size - c.loop-missing.seen) words))
    ∙ append-nil c.loop-missing.taken.items)
    (IsSample-taken c.args.size c.args.needed (first_words pcg32 c.args.size c.args.words.now))

pub returns-clause-drawn : goal.returns-clause-drawn
returns-clause-drawn c = λ count enough.
    let none : c.loop-missing.missing ≡ 0 = omega arith in
    let room = c.loop-missing.invariant.room in
    let words = first_words pcg32 (count - c.loop-missing.seen) c.loop-missing.words in
    record {
      left = count - c.loop-missing.seen;
      enough = omega arith;
      gives = c.loop-missing.invariant.along count enough
          ∙ ap (λ m. taken_behind c.loop-missing.taken.items (taken_from (suc c.loop-missing.seen) (c.args.size - c.loop-missing.seen) m words)) none
          ∙ ap (taken_behind c.loop-missing.taken.items) (taken-none (suc c.loop-missing.seen) (c.args.size - c.loop-missing.seen) words)
          ∙ ap (λ rows. (rows, words)) (append-nil c.loop-missing.taken.items);
    }
