-- Lists to which combinations are added, each once.
use Rattle.std.proofs.Common.{◌≡◌, ◌∙◌, ◌++◌, ◌⊎◌, ℕ, false, List, [], ◌∷◌, refl, sym, ap, subst, inl, inr, append-nil, append_assoc}
use Rattle.std.specs.Cmp.Lexicographic.{slice_cmp}
use Rattle.std.specs.List.{IsDistinct}
use Rattle.std.specs.Ordering.{is_eq, nat_cmp}
use Rattle.std.specs.Prelude.{◌↔◌}
use Rattle.std.specs.declared.cmp.Ordering.{Ordering}
use Rattle.std.specs.declared.cmp.Ordering.TheVariants.{Less, Equal, Greater}
use Rattle.std.proofs.lemmas.Map.Lookups.{exact_bytes}
use Rattle.rs_order.specs.Climbing.{In}
use Rattle.rs_order.proofs.ClimbingFacts.{AllByRecursion-from_In}
use Rattle.rs_order.proofs.EachFacts.{each-append}
use Rattle.rs_order.proofs.ItemFacts.{In-append, In-left, In-right}
use Rattle.rs_query.specs.Searching.{Adds, same_rows}

-- lists that differ are told apart
pub same_rows-apart : (xs ys : List ℕ) → (xs ≡ ys → ⊥) → same_rows xs ys ≡ false
same_rows-apart xs ys differ = go (slice_cmp nat_cmp xs ys) refl where
  go : (o : Ordering) → slice_cmp nat_cmp xs ys ≡ o → is_eq o ≡ false
  go Less e = refl
  go Equal e = absurd (differ (exact_bytes xs ys e))
  go Greater e = refl

IsDistinct-append : (xs ys : List (List ℕ)) → IsDistinct same_rows xs → IsDistinct same_rows ys → ((x y : List ℕ) → In x xs → In y ys → same_rows x y ≡ false)
    → IsDistinct same_rows (xs ++ ys)
unfolding IsDistinct
IsDistinct-append [] ys xs_once ys_once apart = ys_once
IsDistinct-append (x ∷ xs) ys xs_once ys_once apart = (
  each-append (λ y. same_rows x y ≡ false) xs ys xs_once.0 (AllByRecursion-from_In (λ y. same_rows x y ≡ false) ys (λ y h. apart x y (inl refl) h)),
  IsDistinct-append xs ys xs_once.1 ys_once (λ v w h k. apart v w (inr h) k),
)

-- nothing, where there is none
pub Adds-none : (is : List ℕ → Type 0) (old : List (List ℕ)) → ((rows : List ℕ) → is rows → ⊥) → Adds is old old
unfolding IsDistinct
Adds-none is old none = record { more = []; behind = sym (append-nil old); each = λ rows. ((λ h. absurd h), (λ h. none rows h)); once = tt }

-- one alone
pub Adds-one : (is : List ℕ → Type 0) (old new : List (List ℕ)) (rows : List ℕ) → new ≡ old ++ rows ∷ [] → is rows → ((other : List ℕ) → is other → other ≡ rows) → Adds is old new
unfolding IsDistinct
Adds-one is old new rows behind here only = record {
  more = rows ∷ [];
  behind = behind;
  each = λ other. ((λ h. elim h [ inl e ↦ subst is (sym e) here | inr none ↦ absurd none ]), (λ h. inl (only other h)));
  once = (tt, tt);
}

-- some and then others
pub Adds-both : (first second both : List ℕ → Type 0) (old middle new : List (List ℕ)) → Adds first old middle → Adds second middle new
    → ((rows : List ℕ) → both rows ↔ (first rows ⊎ second rows)) → ((rows others : List ℕ) → first rows → second others → rows ≡ others → ⊥) → Adds both old new
Adds-both first second both old middle new a b is apart = record {
  more = a.more ++ b.more;
  behind = b.behind ∙ ap (λ list. list ++ b.more) a.behind ∙ append_assoc old a.more b.more;
  each = λ rows. (
    (λ h. (is rows).1 (elim (In-append rows a.more b.more h) [ inl k ↦ inl ((a.each rows).0 k) | inr k ↦ inr ((b.each rows).0 k) ])),
    (λ h. elim ((is rows).0 h) [ inl k ↦ In-left rows a.more b.more ((a.each rows).1 k) | inr k ↦ In-right rows a.more b.more ((b.each rows).1 k) ]),
  );
  once = IsDistinct-append a.more b.more a.once b.once (λ x y h k. same_rows-apart x y (apart x y ((a.each x).0 h) ((b.each y).0 k)));
}

-- the same in other words
pub Adds-same : (is other : List ℕ → Type 0) (old new : List (List ℕ)) → ((rows : List ℕ) → is rows ↔ other rows) → Adds is old new → Adds other old new
Adds-same is other old new same a = record {
  more = a.more;
  behind = a.behind;
  each = λ rows. ((λ h. (same rows).0 ((a.each rows).0 h)), (λ h. (a.each rows).1 ((same rows).1 h)));
  once = a.once;
}
