-- The last of what is left goes to its index, and the rest gives the same indexes as before.
use Rattle.std.proofs.Common.{◌≡◌, ◌∙◌, ◌++◌, ◌∷◌, [], ap, arith, length, map, refl, rules, subst, sym}
use Rattle.std.specs.Prelude.{None, Option, Some}
use Rattle.std.proofs.lemmas.List.{length-map, length_push}
use Rattle.rs_catalog.specs.Grown.{AllOrdered, HaveRoom, all_renewed_kept, kept_in, renewed_at}
use Rattle.rs_catalog.specs.declared.ranked.Ranked.{Ranked}
use Rattle.rs_catalog.proofs.JoinRowsFacts.{AllOrdered-front, AreOrdered-last, HaveRoom-front, all_renewed_kept-last, all_renewed_kept-none, length-renewed_at, renewed_at-none}
use Rattle.rs_catalog.proofs.catalog.renew.Goals as goal

none_is : (grown : Option Ranked) → ((ranked : Ranked) → grown ≡ Some ranked → ⊥) → grown ≡ None
none_is (Some ranked) not_some = absurd (not_some ranked refl)
none_is None not_some = refl

pub renew_at-requires-clause-ordered : goal.renew_at-requires-clause-ordered
renew_at-requires-clause-ordered c stored at =
    let left = c.pop.new.self.items in
    let place : c.len.result ≡ length left = omega (arith, c.len.ensures, c.pop.new.self.ok.0) in
    AreOrdered-last c.loop-last.indexes.entries left c.in-Some.last c.in-Some-last.ranked stored
    (subst (AllOrdered (map kept_in c.loop-last.indexes.entries)) c.in-Some.ensures.items c.loop-last.invariant.ordered) c.in-Some-last.is
    (rw place at at)

pub loop-last-preserved-in-Some-last : goal.loop-last-preserved-in-Some-last
loop-last-preserved-in-Some-last c =
    let left = c.pop.new.self.items in
    let old = c.loop-last.indexes.entries in
    let kept = map kept_in old in
    let ranked = c.in-Some-last.ranked in
    let new = c.renew_at.new.indexes.entries in
    let place : c.len.result ≡ length left = omega (arith, c.len.ensures, c.pop.new.self.ok.0) in
    let now : map kept_in new ≡ renewed_at (length left) (Some ranked) kept = c.renew_at.ensures.renewed ∙ ap (λ place. renewed_at place (Some ranked) kept) place in
    let items : c.loop-last.grown.items ≡ left ++ Some ranked ∷ [] = c.in-Some.ensures.items ∙ ap (λ one. left ++ one ∷ []) c.in-Some-last.is in
    let few = c.loop-last.invariant.few in
    let size : length new ≡ length old = sym (length-map new kept_in) ∙ ap length now ∙ length-renewed_at (length left) (Some ranked) kept ∙ length-map old kept_in in
    record {
      same = ap (λ kept. all_renewed_kept kept left) now
          ∙ sym (all_renewed_kept-last kept left (Some ranked))
          ∙ ap (all_renewed_kept kept) (sym items)
          ∙ c.loop-last.invariant.same;
      few = omega (arith, size, ap length items, length_push left (Some ranked));
      room = HaveRoom-front old left (Some ranked) new (rw place at c.renew_at.ensures.others) (subst (HaveRoom old) items c.loop-last.invariant.room);
      ordered = AllOrdered-front old left (Some ranked) new (Some ranked) now (subst (AllOrdered kept) items c.loop-last.invariant.ordered);
    }

pub loop-last-preserved : goal.loop-last-preserved
loop-last-preserved c =
    let left = c.pop.new.self.items in
    let old = c.loop-last.indexes.entries in
    let kept = map kept_in old in
    let none : c.in-Some.last ≡ None = none_is c.in-Some.last (λ ranked is. c.in_default-last.not-Some ranked is) in
    let items : c.loop-last.grown.items ≡ left ++ None ∷ [] = c.in-Some.ensures.items ∙ ap (λ one. left ++ one ∷ []) none in
    let few = c.loop-last.invariant.few in
    record {
      same = sym (all_renewed_kept-last kept left None ∙ ap (λ kept. all_renewed_kept kept left) (renewed_at-none (length left) kept))
          ∙ ap (all_renewed_kept kept) (sym items)
          ∙ c.loop-last.invariant.same;
      few = omega (arith, ap length items, length_push left None);
      room = HaveRoom-front old left None old (λ other differ. refl) (subst (HaveRoom old) items c.loop-last.invariant.room);
      ordered = AllOrdered-front old left None old None (sym (renewed_at-none (length left) kept)) (subst (AllOrdered kept) items c.loop-last.invariant.ordered);
    }

pub returns : goal.returns
returns c =
    let none : c.loop-last.grown.items ≡ [] = search rules in
    sym (all_renewed_kept-none (map kept_in c.loop-last.indexes.entries)) ∙ ap (all_renewed_kept (map kept_in c.loop-last.indexes.entries)) (sym none) ∙ c.loop-last.invariant.same
