-- The rows at the places of some join values are those that have them, and to try these is to try all.
use Rattle.std.proofs.Common.{◌≡◌, ℕ, zero, suc, Bool, true, false, cond, List, [], ◌∷◌, get_or, drop, length, refl, sym, ◌∙◌, ap, ap₂, subst}
use Rattle.std.specs.List.{AllByRecursion, filter}
use Rattle.rs_rank.specs.declared.row.RankRow.{RankRow}
use Rattle.rs_value.specs.declared.value.Value.{Value}
use Rattle.rs_hrjn.specs.Drawn.{DrawnRow, alike, are_equal, places_alike, rows_of}
use Rattle.rs_hrjn.specs.Hashed.{HaveTheirValues, MatchTheirValues, rows_at}
use Rattle.rs_hrjn.proofs.EqualFacts.{are_equal-itself, are_equal-same}

-- as many places as rows
pub length-places_alike : (values : List Value) (n : ℕ) (rows : List DrawnRow) → length (places_alike values n rows) ≡ length (alike values rows)
length-places_alike values n [] = refl
length-places_alike values n (drawn ∷ rows) = step (are_equal values drawn.values) (places_alike values (suc n) rows) (alike values rows) (length-places_alike values (suc n) rows)
  where
    step : (b : Bool) (places : List ℕ) (found : List DrawnRow) → length places ≡ length found → length (cond b (n ∷ places) places) ≡ length (cond b (drawn ∷ found) found)
    step true places found e = ap suc e
    step false places found e = e

-- what is behind n items of a list
drop-first : {X : Type 0} (n : ℕ) (whole : List X) (x other : X) (xs : List X) → drop n whole ≡ x ∷ xs → (get_or whole n other ≡ x) × (drop (suc n) whole ≡ xs)
drop-first zero [] x other xs e = absurd (cc)
drop-first zero (w ∷ ws) x other xs e = (cc, cc)
drop-first (suc n) [] x other xs e = absurd (cc)
drop-first (suc n) (w ∷ ws) x other xs e = drop-first n ws x other xs e

rows-at : (other : RankRow) (values : List Value) (n : ℕ) (rows : List DrawnRow) (whole : List RankRow) → drop n whole ≡ rows_of rows → rows_at other (places_alike values n rows) whole ≡ rows_of (alike values rows)
rows-at other values n [] whole e = refl
rows-at other values n (drawn ∷ rows) whole e =
    let both = drop-first n whole drawn.row other (rows_of rows) e in
    step (are_equal values drawn.values) (places_alike values (suc n) rows) (alike values rows) both.0 (rows-at other values (suc n) rows whole both.1)
  where
    step : (b : Bool) (places : List ℕ) (found : List DrawnRow) → get_or whole n other ≡ drawn.row → rows_at other places whole ≡ rows_of found → rows_at other (cond b (n ∷ places) places) whole ≡ rows_of (cond b (drawn ∷ found) found)
    step true places found here rest = ap (λ row. row ∷ rows_at other places whole) here ∙ ap (λ rows. drawn.row ∷ rows) rest
    step false places found here rest = rest

-- a row that matches is among them
filter-alike : (matches : RankRow → Bool) (values : List Value) (rows : List DrawnRow) → HaveTheirValues matches values rows → filter matches (rows_of (alike values rows)) ≡ filter matches (rows_of rows)
filter-alike matches values [] same = refl
filter-alike matches values (drawn ∷ rows) same =
    step (matches drawn.row) refl (are_equal values drawn.values) refl same.0 (filter-alike matches values rows same.1)
  where
    step : (m : Bool) → matches drawn.row ≡ m → (b : Bool) → are_equal values drawn.values ≡ b → (matches drawn.row ≡ true → values ≡ drawn.values) → filter matches (rows_of (alike values rows)) ≡ filter matches (rows_of rows) →
        filter matches (rows_of (cond b (drawn ∷ alike values rows) (alike values rows))) ≡ cond m (drawn.row ∷ filter matches (rows_of rows)) (filter matches (rows_of rows))
    step true e true f equal rest = ap (λ m. cond m (drawn.row ∷ filter matches (rows_of (alike values rows))) (filter matches (rows_of (alike values rows)))) e ∙ ap (λ found. drawn.row ∷ found) rest
    step true e false f equal rest = absurd (true_false (sym (are_equal-itself values) ∙ ap (are_equal values) (equal e) ∙ f))
      where
        true_false : true ≡ false → ⊥
        true_false g = cc
    step false e true f equal rest = ap (λ m. cond m (drawn.row ∷ filter matches (rows_of (alike values rows))) (filter matches (rows_of (alike values rows)))) e ∙ rest
    step false e false f equal rest = rest

-- so of the rows at their places those pass that pass of all
pub filter-at : (matches : RankRow → Bool) (other : RankRow) (values : List Value) (drawn : List DrawnRow) {places : List ℕ} {rows : List RankRow} → HaveTheirValues matches values drawn →
    places ≡ places_alike values 0 drawn → rows ≡ rows_of drawn → filter matches (rows_at other places rows) ≡ filter matches (rows_of drawn)
filter-at matches other values drawn same at are =
    ap₂ (λ places rows. filter matches (rows_at other places rows)) at are
    ∙ ap (filter matches) (rows-at other values 0 drawn (rows_of drawn) refl) ∙ filter-alike matches values drawn same

-- where equal join values are enough, each row that has them matches
matching : (matches : RankRow → Bool) (values : List Value) (rows : List DrawnRow) → MatchTheirValues matches values rows → AllByRecursion (λ row. matches row ≡ true) (rows_of (alike values rows))
matching matches values [] same = tt
matching matches values (drawn ∷ rows) same = step (are_equal values drawn.values) refl (alike values rows) (matching matches values rows same.1)
  where
    step : (b : Bool) → are_equal values drawn.values ≡ b → (found : List DrawnRow) → AllByRecursion (λ row. matches row ≡ true) (rows_of found) → AllByRecursion (λ row. matches row ≡ true) (rows_of (cond b (drawn ∷ found) found))
    step true e found rest = (same.0 (are_equal-same values drawn.values e), rest)
    step false e found rest = rest

-- so each row at their places does
pub matching-at : (matches : RankRow → Bool) (other : RankRow) (values : List Value) (rows : List DrawnRow) → MatchTheirValues matches values rows →
    AllByRecursion (λ row. matches row ≡ true) (rows_at other (places_alike values 0 rows) (rows_of rows))
matching-at matches other values rows same =
    subst (AllByRecursion (λ row. matches row ≡ true)) (sym (rows-at other values 0 rows (rows_of rows) refl)) (matching matches values rows same)
