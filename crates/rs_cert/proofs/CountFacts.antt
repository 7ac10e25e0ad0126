-- Pairs before a bar, row after row.
use Rattle.std.proofs.Common.{◌≡◌, ℕ, zero, suc, ◌+◌, ◌-◌, ◌<◌, ◌≤◌, true, false, cond, List, [], ◌∷◌, drop, drop-cons, ap₂, get_or, length, Option, Some, slice_get, refl, sym, ◌∙◌, ap, subst, inl, inr, arith}
use Rattle.std.proofs.lemmas.Bool.{cases_lt, true≢false}
use Rattle.std.proofs.lemmas.List.{length-append}
use Rattle.std.proofs.lemmas.List.Elements.{filter-append}
use Rattle.std.proofs.lemmas.Option.{get_or_from_slice_get, slice_get-get_or, slice_get_within}
use Rattle.std.specs.Str.{bytes_eq}
use Rattle.rs_feed.specs.declared.feed_row.FeedRow.{FeedRow}
use Rattle.rs_order.specs.Asks.{comes_before_bar, those_before}
use Rattle.rs_order.specs.Climbing.{Climbs, In, Precedes}
use Rattle.rs_order.proofs.AsksFacts.{get_or-asked, get_or-before}
use Rattle.rs_order.proofs.ClimbingFacts.{AllByRecursion-from_In}
use Rattle.rs_cert.specs.declared.pair.Pair.{Pair}
use Rattle.rs_cert.specs.ByText.{numbers_with}
use Rattle.rs_cert.specs.Good.{merged}
use Rattle.rs_cert.specs.Pairs.{pair_cmp, pairs_from, pairs_of_row}
use Rattle.rs_cert.specs.Rows.{Falls}
use Rattle.rs_cert.proofs.AnswerFacts.{behind-sum, pair_cmp-total}
use Rattle.rs_cert.proofs.PairFacts.{In-of_row-back, pair_of, right-first}
use Rattle.rs_cert.proofs.RowFacts.{Falls-at, none_at, same_at}

-- the pairs of a row rise, where the scores of the right rows fall
pub Climbs-row : (i : ℕ) (left : FeedRow) (j : ℕ) (rights : List FeedRow) → Falls rights → Climbs pair_cmp (λ pair. pair) (pairs_of_row i left j rights)
Climbs-row i left j [] falls = tt
Climbs-row i left j (right ∷ rights) falls =
    (elim (bytes_eq left.join right.join) as (λ b. Climbs pair_cmp (λ pair. pair) (cond b (pair_of i left j right ∷ pairs_of_row i left (suc j) rights) (pairs_of_row i left (suc j) rights))) [
      | true ↦ (AllByRecursion-from_In (Precedes pair_cmp (λ pair. pair) (pair_of i left j right)) (pairs_of_row i left (suc j) rights) later, Climbs-row i left (suc j) rights falls.1)
      | false ↦ Climbs-row i left (suc j) rights falls.1
    ])
  where
    later : (pair : Pair) → In pair (pairs_of_row i left (suc j) rights) → Precedes pair_cmp (λ pair. pair) (pair_of i left j right) pair
    later pair h =
        let made = In-of_row-back i left (suc j) rights pair h in
        let at_most : made.right.score ≤ right.score = Falls-at (right ∷ rights) 0 (suc made.place) right made.right falls (omega arith) refl made.at in
        subst (λ p. Precedes pair_cmp (λ pair. pair) (pair_of i left j right) p) (sym made.is)
        (behind-sum (pair_of i left j right) (pair_of i left (suc j + made.place) made.right) (omega arith)
        (right-first (pair_of i left j right) (pair_of i left (suc j + made.place) made.right) refl (omega arith)))

-- the pair at a place, by the number that stands there
pub record IsAtPlace (i : ℕ) (left : FeedRow) (n : ℕ) (rows : List FeedRow) (k j : ℕ) : Type 0 where
  pub place : ℕ
  pub row : FeedRow
  pub number : j ≡ n + place
  pub at : slice_get rows place ≡ Some row
  pub pair : slice_get (pairs_of_row i left n rows) k ≡ Some (pair_of i left j row)

further : (i : ℕ) (left : FeedRow) (n : ℕ) (row : FeedRow) (rows : List FeedRow) (k other j : ℕ) → slice_get (pairs_of_row i left n (row ∷ rows)) k ≡ slice_get (pairs_of_row i left (suc n) rows) other → IsAtPlace i left (suc n) rows other j → IsAtPlace i left n (row ∷ rows) k j
further i left n row rows k other j e behind = record {
  place = suc behind.place;
  row = behind.row;
  number = let number : j ≡ suc n + behind.place = behind.number in omega arith;
  at = behind.at;
  pair = e ∙ behind.pair;
}

pub pair-at : (i : ℕ) (left : FeedRow) (n : ℕ) (rows : List FeedRow) (k j : ℕ) → slice_get (numbers_with left.join n rows) k ≡ Some j → IsAtPlace i left n rows k j
pair-at i left n [] k j e = absurd (none_at e)
pair-at i left n (row ∷ rows) zero j e =
    (elim (bytes_eq left.join row.join) as (λ b. bytes_eq left.join row.join ≡ b
    → slice_get (cond b (n ∷ numbers_with left.join (suc n) rows) (numbers_with left.join (suc n) rows)) 0 ≡ Some j → IsAtPlace i left n (row ∷ rows) 0 j) [
      | true ↦ λ same f.
          let is : n ≡ j = same_at f in
          record {
            place = 0;
            row = row;
            number = omega arith;
            at = refl;
            pair =
                ap (λ b. slice_get (cond b (pair_of i left n row ∷ pairs_of_row i left (suc n) rows) (pairs_of_row i left (suc n) rows)) 0) same
                ∙ ap (λ m. Some (pair_of i left m row)) is;
          }
      | false ↦ λ other f.
          further i left n row rows 0 0 j
          (ap (λ b. slice_get (cond b (pair_of i left n row ∷ pairs_of_row i left (suc n) rows) (pairs_of_row i left (suc n) rows)) 0) other)
          (pair-at i left (suc n) rows 0 j f)
    ]) refl e
pair-at i left n (row ∷ rows) (suc k) j e =
    (elim (bytes_eq left.join row.join) as (λ b. bytes_eq left.join row.join ≡ b
    → slice_get (cond b (n ∷ numbers_with left.join (suc n) rows) (numbers_with left.join (suc n) rows)) (suc k) ≡ Some j → IsAtPlace i left n (row ∷ rows) (suc k) j) [
      | true ↦ λ same f.
          further i left n row rows (suc k) k j
          (ap (λ b. slice_get (cond b (pair_of i left n row ∷ pairs_of_row i left (suc n) rows) (pairs_of_row i left (suc n) rows)) (suc k)) same)
          (pair-at i left (suc n) rows k j f)
      | false ↦ λ other f.
          further i left n row rows (suc k) (suc k) j
          (ap (λ b. slice_get (cond b (pair_of i left n row ∷ pairs_of_row i left (suc n) rows) (pairs_of_row i left (suc n) rows)) (suc k)) other)
          (pair-at i left (suc n) rows (suc k) j f)
    ]) refl e

-- there are as many pairs as numbers
pub length-numbers : (i : ℕ) (left : FeedRow) (n : ℕ) (rows : List FeedRow) → length (pairs_of_row i left n rows) ≡ length (numbers_with left.join n rows)
length-numbers i left n [] = refl
length-numbers i left n (row ∷ rows) =
    (elim (bytes_eq left.join row.join) as (λ b. length (cond b (pair_of i left n row ∷ pairs_of_row i left (suc n) rows) (pairs_of_row i left (suc n) rows)) ≡ length (cond b (n ∷ numbers_with left.join (suc n) rows) (numbers_with left.join (suc n) rows))) [
      | true ↦ ap suc (length-numbers i left (suc n) rows)
      | false ↦ length-numbers i left (suc n) rows
    ])

-- what is known at a place of a row's pairs
module _ (i : ℕ) (left : FeedRow) (rights : List FeedRow) (falls : Falls rights) (bar : Option Pair) where
  -- a pair that comes before the bar is one of those that do, and all in front of it are
  pub one-before : (k : ℕ) (pair : Pair) → slice_get (pairs_of_row i left 1 rights) k ≡ Some pair → comes_before_bar pair_cmp bar pair ≡ true → k < length (those_before pair_cmp (λ p. p) bar (pairs_of_row i left 1 rights))
  one-before k pair at before =
      get_or-before pair_cmp pair_cmp-total (λ p. p) bar (pairs_of_row i left 1 rights) k pair (Climbs-row i left 1 rights falls) (slice_get_within (pairs_of_row i left 1 rights) k pair at)
      (ap (comes_before_bar pair_cmp bar) (get_or_from_slice_get (pairs_of_row i left 1 rights) k pair pair at) ∙ before)

  -- from one on that doesn't, none does
  pub none-behind : (k : ℕ) (pair : Pair) → slice_get (pairs_of_row i left 1 rights) k ≡ Some pair → comes_before_bar pair_cmp bar pair ≡ false → length (those_before pair_cmp (λ p. p) bar (pairs_of_row i left 1 rights)) ≤ k
  none-behind k pair at behind =
      elim (cases_lt k (length (those_before pair_cmp (λ p. p) bar (pairs_of_row i left 1 rights)))) [
        | inl more ↦
            let before = get_or-asked pair_cmp pair_cmp-total (λ p. p) bar (pairs_of_row i left 1 rights) k pair (Climbs-row i left 1 rights falls) more in
            absurd (true≢false (sym before ∙ ap (comes_before_bar pair_cmp bar) (get_or_from_slice_get (pairs_of_row i left 1 rights) k pair pair at) ∙ behind))
        | inr most ↦ most
      ]

-- what stands at a place of the numbers of a text
pub at-index : (i : ℕ) (left : FeedRow) (rights : List FeedRow) (numbers : List ℕ) (k : ℕ) → numbers ≡ numbers_with left.join 1 rights → k < length numbers → IsAtPlace i left 1 rights k (get_or numbers k 0)
at-index i left rights numbers k e within =
    pair-at i left 1 rights k (get_or numbers k 0) (ap (λ list. slice_get list k) (sym e) ∙ slice_get-get_or numbers k 0 within)

pub the-pair : (i : ℕ) (left : FeedRow) (rights rows : List FeedRow) (k j : ℕ) (row : FeedRow) (pair : Pair) → rows ≡ rights → IsAtPlace i left 1 rights k j → row ≡ get_or rows (j - 1) row → pair ≡ merged i left j row → slice_get (pairs_of_row i left 1 rights) k ≡ Some pair
the-pair i left rights rows k j row pair same made f is =
    let number : j ≡ 1 + made.place = made.number in
    let place : j - 1 ≡ made.place = omega arith in
    let row_is : row ≡ made.row = f ∙ ap (λ list. get_or list (j - 1) row) same ∙ ap (λ n. get_or rights n row) place ∙ get_or_from_slice_get rights made.place made.row row made.at in
    made.pair ∙ ap Some (ap (λ r. pair_of i left j r) (sym row_is) ∙ sym is)

-- a list is no longer than the one that it is filtered of
pub length-before : (bar : Option Pair) (pairs : List Pair) → length (those_before pair_cmp (λ p. p) bar pairs) ≤ length pairs
length-before bar [] = omega arith
length-before bar (pair ∷ pairs) =
    (elim (comes_before_bar pair_cmp bar pair) as (λ b. length (cond b (pair ∷ those_before pair_cmp (λ p. p) bar pairs) (those_before pair_cmp (λ p. p) bar pairs)) ≤ suc (length pairs)) [
      | true ↦ let most = length-before bar pairs in omega arith
      | false ↦ let most = length-before bar pairs in omega arith
    ])

-- how many pairs of all left rows from number i on come before a bar
abbrev pub count_from : Option Pair → ℕ → List FeedRow → List FeedRow → ℕ
count_from bar i lefts rights = length (those_before pair_cmp (λ pair. pair) bar (pairs_from i lefts rights))

-- those of the next left row, and of the rows behind it
pub count-step : (bar : Option Pair) (i : ℕ) (lefts rights : List FeedRow) (left : FeedRow) → i < length lefts → left ≡ get_or lefts i left
    → count_from bar (i + 1) (drop i lefts) rights ≡ length (those_before pair_cmp (λ pair. pair) bar (pairs_of_row (i + 1) left 1 rights)) + count_from bar (i + 1 + 1) (drop (i + 1) lefts) rights
count-step bar i lefts rights left within e =
    let next : suc i ≡ i + 1 = omega arith in
    let further_on : suc (i + 1) ≡ i + 1 + 1 = omega arith in
    ap (λ list. count_from bar (i + 1) list rights) (drop-cons lefts i left within ∙ ap₂ (λ row list. row ∷ list) (sym e) (ap (λ n. drop n lefts) next))
    ∙ ap (λ list. length list) (filter-append (comes_before_bar pair_cmp bar) (pairs_of_row (i + 1) left 1 rights) (pairs_from (suc (i + 1)) (drop (i + 1) lefts) rights))
    ∙ length-append (those_before pair_cmp (λ pair. pair) bar (pairs_of_row (i + 1) left 1 rights)) (those_before pair_cmp (λ pair. pair) bar (pairs_from (suc (i + 1)) (drop (i + 1) lefts) rights))
    ∙ ap (λ n. length (those_before pair_cmp (λ pair. pair) bar (pairs_of_row (i + 1) left 1 rights)) + count_from bar n (drop (i + 1) lefts) rights) further_on
