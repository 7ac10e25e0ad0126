-- The numbers of texts, as a text joins them.
use Rattle.std.proofs.Common.{ℕ, ◌≡◌, ◌+◌, ◌<◌, ◌≤◌, ◌||◌, Bool, true, false, cond, inl, inr, zero, suc, List, [], ◌∷◌, ◌++◌, length, get_or, map, nat_eq, refl, sym, ap, subst, ◌∙◌, arith}
use Rattle.std.proofs.lemmas.Bool.{cases_lt, or_parts, true≢false}
use Rattle.std.proofs.lemmas.Cmp.{nat_list_eq_equiv}
use Rattle.std.proofs.lemmas.List.{get_or_append_left, get_or_push, length_push, map-append}
use Rattle.std.proofs.lemmas.List.Elements.{All-head, All-push, All-tail, All-weaker}
use Rattle.std.proofs.lemmas.List.Folds.{list_any-append}
use Rattle.std.proofs.lemmas.List.Quantifiers.{position-Some}
use Rattle.std.proofs.lemmas.Option.{get_or_from_slice_get, slice_get-get_or, slice_get_within}
use Rattle.std.proofs.lemmas.Slice.Eq.{bytes_eq-Decides}
use Rattle.std.specs.Cmp.Lexicographic.{pointwise}
use Rattle.std.specs.List.{All, list_any}
use Rattle.std.specs.Prelude.{Some, position, slice_get}
use Rattle.std.specs.Str.{bytes_eq}
use Rattle.indexmap.specs.IndexSet.{insert_key}
use Rattle.rs_table.specs.Stored.{IsNumbered, texts_of}
use Rattle.rs_value.specs.declared.value.Value.TheVariants.{Text}
use Rattle.rs_table.specs.Texts.{different, has_text, texts_among, texts_before}

bytes_eq-itself : (text : List ℕ) → bytes_eq text text ≡ true
bytes_eq-itself text = (bytes_eq-Decides text text).1 refl

-- a text stands among others with one more behind them
has_text-push : (text more : List ℕ) (texts : List (List ℕ)) → has_text text (texts ++ more ∷ []) ≡ (has_text text texts || (bytes_eq more text || false))
has_text-push text more texts = list_any-append (λ other. bytes_eq other text) texts (more ∷ [])

has_text-before : (text more : List ℕ) (texts : List (List ℕ)) → has_text text texts ≡ true → has_text text (texts ++ more ∷ []) ≡ true
has_text-before text more texts there = rw (has_text-push text more texts, there) refl

has_text-last : (text : List ℕ) (texts : List (List ℕ)) → has_text text (texts ++ text ∷ []) ≡ true
has_text-last text texts = rw (has_text-push text text texts, bytes_eq-itself text) (go (has_text text texts)) where
  go : (b : Bool) → (b || true) ≡ true
  go true = refl
  go false = refl

-- one more behind the first and the others
counted : (same first last : Bool) (n : ℕ) → (same ≡ true → first ≡ last)
    → cond (first || (same || false)) (cond last n (n + 1)) (cond last n (n + 1) + 1) ≡ cond (same || last) (cond first n (n + 1)) (cond first n (n + 1) + 1)
counted true true true n e = refl
counted true true false n e = absurd (true≢false (e refl))
counted true false true n e = absurd (true≢false (sym (e refl)))
counted true false false n e = refl
counted false true true n e = refl
counted false true false n e = refl
counted false false true n e = refl
counted false false false n e = refl

-- a text more is a different one more, where it isn't among the others
pub different-push : (texts : List (List ℕ)) (text : List ℕ) → different (texts ++ text ∷ []) ≡ cond (has_text text texts) (different texts) (different texts + 1)
different-push [] text = refl
different-push (first ∷ texts) text =
    let any : has_text first (texts ++ text ∷ []) ≡ (has_text first texts || (bytes_eq first text || false)) =
    has_text-push first text texts ∙ ap (λ b. has_text first texts || (b || false)) (nat_list_eq_equiv.symm text first) in
    rw (any, different-push texts text)
    (counted (bytes_eq first text) (has_text first texts) (has_text text texts) (different texts)
    (λ same. ap (λ t. has_text t texts) ((bytes_eq-Decides first text).0 same)))

pub different-le : (texts : List (List ℕ)) → different texts ≤ length texts
different-le [] = omega arith
different-le (text ∷ texts) =
    elim (has_text text texts) as (λ b. cond b (different texts) (different texts + 1) ≤ length (text ∷ texts)) [
      | true ↦ omega (arith, different-le texts)
      | false ↦ omega (arith, different-le texts)
    ]

-- one more text behind a text that is there changes nothing before it
texts_before-there : (text more : List ℕ) (texts : List (List ℕ)) → has_text text texts ≡ true → texts_before text (texts ++ more ∷ []) ≡ texts_before text texts
texts_before-there text more [] there = absurd (true≢false (sym there))
texts_before-there text more (other ∷ texts) there =
    (elim (bytes_eq other text) as (λ b. (b || has_text text texts) ≡ true → cond b [] (other ∷ texts_before text (texts ++ more ∷ [])) ≡ cond b [] (other ∷ texts_before text texts)) [
      | true ↦ λ e. refl
      | false ↦ λ e. ap (λ rest. other ∷ rest) (texts_before-there text more texts e)
    ]) there

-- all others stand before a new text
texts_before-new : (text : List ℕ) (texts : List (List ℕ)) → has_text text texts ≡ false → texts_before text (texts ++ text ∷ []) ≡ texts
texts_before-new text [] new = rw (bytes_eq-itself text) refl
texts_before-new text (other ∷ texts) new =
    let parts = or_parts (bytes_eq other text) (has_text text texts) new in
    rw parts.0 (ap (λ rest. other ∷ rest) (texts_before-new text texts parts.1))

-- a text that isn't kept isn't one of the texts of numbers of kept ones
not_kept : (text : List ℕ) (kept : List (List ℕ)) (n : ℕ) → n < length kept → list_any (pointwise nat_eq text) kept ≡ false → bytes_eq (get_or kept n []) text ≡ false
not_kept text [] n within new = absurd (omega arith)
not_kept text (first ∷ kept) zero within new =
    nat_list_eq_equiv.symm first text ∙ (or_parts (bytes_eq text first) (list_any (pointwise nat_eq text) kept) new).0
not_kept text (first ∷ kept) (suc n) within new = not_kept text kept n (omega arith) (or_parts (bytes_eq text first) (list_any (pointwise nat_eq text) kept) new).1

has_text-new : (text : List ℕ) (kept : List (List ℕ)) (numbers : List ℕ) → All (λ number. number < length kept) numbers → list_any (pointwise nat_eq text) kept ≡ false → has_text text (texts_of kept numbers) ≡ false
has_text-new text kept [] within new = refl
has_text-new text kept (n ∷ numbers) within new =
    rw (not_kept text kept n (All-head (λ number. number < length kept) n numbers within) new)
    (has_text-new text kept numbers (All-tail (λ number. number < length kept) n numbers within) new)

-- numbers of kept texts have the same texts when one more is kept
texts_of-more : (text : List ℕ) (kept : List (List ℕ)) (numbers : List ℕ) → All (λ number. number < length kept) numbers → texts_of (kept ++ text ∷ []) numbers ≡ texts_of kept numbers
texts_of-more text kept [] within = refl
texts_of-more text kept (n ∷ numbers) within =
    let here : n < length kept = All-head (λ number. number < length kept) n numbers within in
    rw (get_or_append_left kept (text ∷ []) [] n here) (ap (λ rest. get_or kept n [] ∷ rest) (texts_of-more text kept numbers (All-tail (λ number. number < length kept) n numbers within)))

-- what holds when a text has joined, with this number
pub record Joins (kept : List (List ℕ)) (numbers : List ℕ) (text : List ℕ) (now : List (List ℕ)) (number : ℕ) : Type 0 where
  pub numbered : IsNumbered now (numbers ++ number ∷ [])
  pub texts : texts_of now (numbers ++ number ∷ []) ≡ texts_of kept numbers ++ text ∷ []
  pub few : number ≤ length (texts_of kept numbers)

joins-there : (kept : List (List ℕ)) (numbers : List ℕ) (text : List ℕ) (number : ℕ) → IsNumbered kept numbers → number < length kept → get_or kept number [] ≡ text
    → Joins kept numbers text kept number
joins-there kept numbers text number h within is =
    let texts : texts_of kept (numbers ++ number ∷ []) ≡ texts_of kept numbers ++ text ∷ [] =
    map-append (λ n. get_or kept n []) numbers (number ∷ []) ∙ ap (λ t. texts_of kept numbers ++ t ∷ []) is in
    let there : has_text text (texts_of kept numbers) ≡ true = subst (λ t. has_text t (texts_of kept numbers) ≡ true) is (h.there number within) in
    record {
      numbered = record {
        within = All-push (λ n. n < length kept) numbers number h.within within;
        all = rw (texts, different-push (texts_of kept numbers) text, there) h.all;
        there = λ n in_kept. rw texts (has_text-before (get_or kept n []) text (texts_of kept numbers) (h.there n in_kept));
        counted = λ n in_kept. rw (texts, texts_before-there (get_or kept n []) text (texts_of kept numbers) (h.there n in_kept)) (h.counted n in_kept);
      };
      texts = texts;
      few = let e = h.all in omega (arith, different-le (texts_of kept numbers));
    }

joins-new : (kept : List (List ℕ)) (numbers : List ℕ) (text : List ℕ) (number : ℕ) → IsNumbered kept numbers → list_any (pointwise nat_eq text) kept ≡ false
    → number < length (kept ++ text ∷ []) → get_or (kept ++ text ∷ []) number [] ≡ text → Joins kept numbers text (kept ++ text ∷ []) number
joins-new kept numbers text number h new within is =
    let now : List (List ℕ) = kept ++ text ∷ [] in
    let size : length now ≡ length kept + 1 = length_push kept text in
    let texts : texts_of now (numbers ++ number ∷ []) ≡ texts_of kept numbers ++ text ∷ [] =
    map-append (λ n. get_or now n []) numbers (number ∷ []) ∙ ap (λ t. texts_of now numbers ++ t ∷ []) is ∙ ap (λ ts. ts ++ text ∷ []) (texts_of-more text kept numbers h.within) in
    let absent : has_text text (texts_of kept numbers) ≡ false = has_text-new text kept numbers h.within new in
    let old : (n : ℕ) → n < length kept → get_or now n [] ≡ get_or kept n [] = λ n in_kept. get_or_append_left kept (text ∷ []) [] n in_kept in
    let last : (n : ℕ) → n ≡ length kept → get_or now n [] ≡ text = λ n e. get_or_push kept text [] n (sym e) in
    record {
      numbered = record {
        within = All-push (λ n. n < length now) numbers number (All-weaker (λ n. n < length kept) (λ n. n < length now) (λ n less. omega arith) numbers h.within) within;
        all = rw (texts, different-push (texts_of kept numbers) text, absent, size) (ap (λ n. n + 1) h.all);
        there = λ n in_now. rw texts (by_place n (has_text (get_or now n []) (texts_of kept numbers ++ text ∷ []) ≡ true) in_now
            (λ in_kept. subst (λ t. has_text t (texts_of kept numbers ++ text ∷ []) ≡ true) (sym (old n in_kept)) (has_text-before (get_or kept n []) text (texts_of kept numbers) (h.there n in_kept)))
            (λ e. subst (λ t. has_text t (texts_of kept numbers ++ text ∷ []) ≡ true) (sym (last n e)) (has_text-last text (texts_of kept numbers))));
        counted = λ n in_now. rw texts (by_place n (different (texts_before (get_or now n []) (texts_of kept numbers ++ text ∷ [])) ≡ n) in_now
            (λ in_kept. rw (old n in_kept, texts_before-there (get_or kept n []) text (texts_of kept numbers) (h.there n in_kept)) (h.counted n in_kept))
            (λ e. rw (last n e, texts_before-new text (texts_of kept numbers) absent) (h.all ∙ sym e)));
      };
      texts = texts;
      few = let e = h.all in omega (arith, different-le (texts_of kept numbers), size);
    }
  where
    by_place : (n : ℕ) (T : Type 0) → n < length (kept ++ text ∷ []) → (n < length kept → T) → (n ≡ length kept → T) → T
    by_place n T in_now before at_end =
        elim (cases_lt n (length kept)) [ inl less ↦ before less | inr ge ↦ at_end (omega (arith, length_push kept text)) ]

-- a text joins
pub joins : (kept : List (List ℕ)) (numbers : List ℕ) (text : List ℕ) (now : List (List ℕ)) (number : ℕ) → IsNumbered kept numbers → now ≡ insert_key (pointwise nat_eq) kept text
    → number < length now → get_or now number [] ≡ text → Joins kept numbers text now number
joins kept numbers text now number h keys within is = go (list_any (pointwise nat_eq text) kept) refl keys where
  go : (found : Bool) → list_any (pointwise nat_eq text) kept ≡ found → now ≡ cond found kept (kept ++ text ∷ []) → Joins kept numbers text now number
  go true found now_is = subst (λ w. Joins kept numbers text w number) (sym now_is) (joins-there kept numbers text number h (subst (λ w. number < length w) now_is within) (subst (λ w. get_or w number [] ≡ text) now_is is))
  go false found now_is = subst (λ w. Joins kept numbers text w number) (sym now_is) (joins-new kept numbers text number h found (subst (λ w. number < length w) now_is within) (subst (λ w. get_or w number [] ≡ text) now_is is))

-- the key that a set has at a text's place is the text
pub stored-is : (keys : List (List ℕ)) (text : List ℕ) (number : ℕ) → (key : List ℕ) × (slice_get keys number ≡ Some key) × (pointwise nat_eq text key ≡ true)
    → get_or keys number [] ≡ text
stored-is keys text number (key, there, same) = get_or_from_slice_get keys number key [] there ∙ sym ((bytes_eq-Decides text key).0 same)

-- a text that is found among keys stands where it is found
pub found-at : (keys : List (List ℕ)) (text : List ℕ) (number : ℕ) → position (bytes_eq text) keys ≡ Some number → slice_get keys number ≡ Some text
found-at keys text number found =
    let first = position-Some (bytes_eq text) keys number [] found in
    slice_get-get_or keys number [] first.0 ∙ ap (λ key. Some key) (sym ((bytes_eq-Decides text (get_or keys number [])).0 first.1))

-- a text joins, which stands at its number
pub joins-at : (kept : List (List ℕ)) (numbers : List ℕ) (text : List ℕ) (now : List (List ℕ)) (number : ℕ) → IsNumbered kept numbers → now ≡ insert_key (pointwise nat_eq) kept text
    → slice_get now number ≡ Some text → Joins kept numbers text now number
joins-at kept numbers text now number h keys at =
    joins kept numbers text now number h keys (slice_get_within now number text at) (get_or_from_slice_get now number text [] at)

-- texts, as cells
pub texts_among-texts : (texts : List (List ℕ)) → texts_among (map (λ (t : List ℕ). Text t) texts) ≡ texts
texts_among-texts [] = refl
texts_among-texts (text ∷ texts) = ap (λ rest. text ∷ rest) (texts_among-texts texts)

pub text-at : (texts : List (List ℕ)) (place : ℕ) (text : List ℕ) → slice_get (map (λ (t : List ℕ). Text t) texts) place ≡ Some (Text text) → get_or texts place [] ≡ text
text-at [] place text is = cc
text-at (first ∷ texts) zero text is = cc
text-at (first ∷ texts) (suc place) text is = text-at texts place text is
