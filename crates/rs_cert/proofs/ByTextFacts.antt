-- Numbers of rows by their texts, row after row.
use Rattle.std.proofs.Common.{◌≡◌, ℕ, suc, ◌+◌, ◌<◌, true, false, cond, List, [], ◌∷◌, ◌++◌, get_or, length, take, Some, None, refl, sym, ◌∙◌, ap, ap₂, ◌==◌, ◌&&◌, arith}
use Rattle.std.proofs.lemmas.Bool.Decides.{nat_tests}
use Rattle.std.proofs.lemmas.List.{length-take-le, take_more}
use Rattle.std.proofs.lemmas.Map.Lookups.{exact_bytes}
use Rattle.std.proofs.lemmas.Map.Text.{is_eq-slice_cmp}
use Rattle.std.specs.BTreeMap.{get}
use Rattle.std.specs.Cmp.Lexicographic.{slice_cmp}
use Rattle.std.specs.Ordering.{is_eq, nat_cmp}
use Rattle.std.specs.Str.{bytes_eq}
use Rattle.std.specs.declared.alloc.Global.{Global}
use Rattle.std.specs.declared.collections.BTreeMap.{BTreeMap}
use Rattle.std.specs.declared.cmp.Ordering.TheVariants.{Less, Equal, Greater}
use Rattle.std.specs.declared.vec.Vec.{Vec}
use Rattle.rs_feed.specs.declared.feed_row.FeedRow.{FeedRow}
use Rattle.rs_cert.specs.ByText.{numbers_in, numbers_or_none, numbers_with}

-- one row more
pub numbers-push : (text : List ℕ) (n : ℕ) (rows : List FeedRow) (row : FeedRow) → numbers_with text n (rows ++ row ∷ []) ≡ cond (bytes_eq text row.join) (numbers_with text n rows ++ (n + length rows) ∷ []) (numbers_with text n rows)
numbers-push text n [] row =
    (elim (bytes_eq text row.join) as (λ b. cond b (n ∷ []) [] ≡ cond b ([] ++ (n + 0) ∷ []) []) [ true ↦ ap (λ k. k ∷ []) (omega arith) | false ↦ refl ])
numbers-push text n (first ∷ rows) row =
    (elim (bytes_eq text first.join) as (λ b. cond b (n ∷ numbers_with text (suc n) (rows ++ row ∷ [])) (numbers_with text (suc n) (rows ++ row ∷ []))
    ≡ cond (bytes_eq text row.join) (cond b (n ∷ numbers_with text (suc n) rows) (numbers_with text (suc n) rows) ++ (n + suc (length rows)) ∷ []) (cond b (n ∷ numbers_with text (suc n) rows) (numbers_with text (suc n) rows))) [
      | true ↦
          ap (λ list. n ∷ list) (numbers-push text (suc n) rows row)
          ∙ (elim (bytes_eq text row.join) as (λ b. n ∷ cond b (numbers_with text (suc n) rows ++ (suc n + length rows) ∷ []) (numbers_with text (suc n) rows)
          ≡ cond b (n ∷ numbers_with text (suc n) rows ++ (n + suc (length rows)) ∷ []) (n ∷ numbers_with text (suc n) rows)) [
            | true ↦ ap (λ k. n ∷ numbers_with text (suc n) rows ++ k ∷ []) (omega arith)
            | false ↦ refl
          ])
      | false ↦
          numbers-push text (suc n) rows row
          ∙ (elim (bytes_eq text row.join) as (λ b. cond b (numbers_with text (suc n) rows ++ (suc n + length rows) ∷ []) (numbers_with text (suc n) rows)
          ≡ cond b (numbers_with text (suc n) rows ++ (n + suc (length rows)) ∷ []) (numbers_with text (suc n) rows)) [
            | true ↦ ap (λ k. numbers_with text (suc n) rows ++ k ∷ []) (omega arith)
            | false ↦ refl
          ])
    ])

-- numbers and texts are equal both ways
eqb-turned : (x y : ℕ) → (x == y) ≡ (y == x)
eqb-turned x y = grind (arith, nat_tests)

bytes_eq-turned : (xs ys : List ℕ) → bytes_eq xs ys ≡ bytes_eq ys xs
bytes_eq-turned [] [] = refl
bytes_eq-turned [] (y ∷ ys) = refl
bytes_eq-turned (x ∷ xs) [] = refl
bytes_eq-turned (x ∷ xs) (y ∷ ys) = ap₂ (λ a b. a && b) (eqb-turned x y) (bytes_eq-turned xs ys)

-- a map of texts
abbrev pub Numbers : Type 0
Numbers = BTreeMap (List ℕ) (Vec ℕ Global) Global

same_text : (xs ys : List ℕ) → is_eq (slice_cmp nat_cmp xs ys) ≡ true → xs ≡ ys
same_text xs ys e =
    (elim (slice_cmp nat_cmp xs ys) as (λ o. slice_cmp nat_cmp xs ys ≡ o → is_eq o ≡ true → xs ≡ ys) [
      | Less ↦ λ f g. cc
      | Equal ↦ λ f g. exact_bytes xs ys f
      | Greater ↦ λ f g. cc
    ]) refl e

-- the numbers of a text are taken out, one is put behind them, and they are put back
pub number-added : (old removed new : Numbers) (text : List ℕ) (more : Vec ℕ Global) (number : ℕ) → ((q : List ℕ) → get (slice_cmp nat_cmp) removed q ≡ cond (is_eq (slice_cmp nat_cmp text q)) None (get (slice_cmp nat_cmp) old q)) → ((q : List ℕ) → get (slice_cmp nat_cmp) new q ≡ cond (is_eq (slice_cmp nat_cmp text q)) (Some more) (get (slice_cmp nat_cmp) removed q)) → more.items ≡ numbers_in old text ++ number ∷ []
    → (other : List ℕ) → numbers_in new other ≡ cond (is_eq (slice_cmp nat_cmp text other)) (numbers_in old other ++ number ∷ []) (numbers_in old other)
number-added old removed new text more number taken put e other =
    ap numbers_or_none (put other)
    ∙ (elim (is_eq (slice_cmp nat_cmp text other)) as (λ b. is_eq (slice_cmp nat_cmp text other) ≡ b
    → numbers_or_none (cond b (Some more) (get (slice_cmp nat_cmp) removed other)) ≡ cond b (numbers_in old other ++ number ∷ []) (numbers_in old other)) [
      | true ↦ λ same. e ∙ ap (λ t. numbers_in old t ++ number ∷ []) (same_text text other same)
      | false ↦ λ differs. ap numbers_or_none (taken other) ∙ ap (λ b. numbers_or_none (cond b None (get (slice_cmp nat_cmp) old other))) differs
    ]) refl

-- the numbers of the rows up to the next one
pub numbers-more : (old new : List ℕ → List ℕ) (rows : List FeedRow) (i number : ℕ) (row other : FeedRow) → i < length rows → number ≡ i + 1 → row ≡ get_or rows i other → ((text : List ℕ) → old text ≡ numbers_with text 1 (take i rows)) → ((text : List ℕ) → new text ≡ cond (is_eq (slice_cmp nat_cmp row.join text)) (old text ++ number ∷ []) (old text))
    → (text : List ℕ) → new text ≡ numbers_with text 1 (take (i + 1) rows)
numbers-more old new rows i number row other within e f before after text =
    after text
    ∙ ap (λ list. cond (is_eq (slice_cmp nat_cmp row.join text)) (list ++ number ∷ []) list) (before text)
    ∙ ap (λ b. cond b (numbers_with text 1 (take i rows) ++ number ∷ []) (numbers_with text 1 (take i rows))) (is_eq-slice_cmp row.join text ∙ bytes_eq-turned row.join text)
    ∙ ap (λ n. cond (bytes_eq text row.join) (numbers_with text 1 (take i rows) ++ n ∷ []) (numbers_with text 1 (take i rows))) (let size = length-take-le i rows (omega arith) in omega arith)
    ∙ sym (numbers-push text 1 (take i rows) row)
    ∙ ap (λ r. numbers_with text 1 (take i rows ++ r ∷ [])) f
    ∙ ap (numbers_with text 1) (sym (take_more rows i other within))
