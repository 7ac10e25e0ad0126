-- The merge of two lists that are each in the stable order.
use Rattle.std.proofs.Common.{ℕ, zero, suc, ◌≡◌, ◌∙◌, ◌+◌, ◌-◌, ◌<◌, ◌≤◌, ◌++◌, ◌==◌, Bool, true, false, cond, add-one, nat_le, List, [], ◌∷◌, length, length-drop, take, drop, set, get_or, refl, sym, ap, subst, arith, append_assoc, leb}
use Rattle.std.specs.Prelude.{Ok, Err, IsOk, Result, is_ok, if◌then◌else◌}
use Rattle.std.specs.declared.alloc.AllocError.{AllocError}
use Rattle.std.specs.List.{AllByRecursion, AllWithin, copy_within}
use Rattle.std.specs.List.Sorted.{IsPartitionPoint, IsPartitionedBy}
use Rattle.std.proofs.Math.Seq.{paste}
use Rattle.std.proofs.lemmas.List.{drop-take, drop_at, take_more, length-set, length-take-le, set_split, take-append-drop, take-append-le}
use Rattle.std.proofs.lemmas.List.Edits.{length-paste}
use Rattle.std.proofs.lemmas.Bool.{leb-false, lt-leb, cond-true, cond-false, leb-true, le-leb}
use Rattle.std.proofs.lemmas.List.Elements.{filter-append}
use Rattle.rs_order.proofs.EachFacts.{each-behind, each-take, each-weaker}
use Rattle.rs_rank.specs.Stable.{put_all, put_behind, stable}
use Rattle.rs_rank.proofs.StableFacts.{AllByRecursion-put_all, Falls, Falls-at, Falls-stable, Falls-unique, of_score, of_score-stable}

-- what a list has behind an append that doesn't fail
pub appended-ok : {T : Type 0} (result : Result (Unit {0}) AllocError) (appended old : List T) → IsOk result → (if is_ok result then appended else old) ≡ appended
appended-ok (Ok done) appended old ok = refl
appended-ok (Err fault) appended old ok = cc

module _ {T : Type 0} (score : T → ℕ) where
  -- rows are put in, and others behind them
  pub put_all-append : (first more ordered : List T) → put_all score ordered (first ++ more) ≡ put_all score (put_all score ordered first) more
  put_all-append [] more ordered = refl
  put_all-append (row ∷ first) more ordered = put_all-append first more (put_behind score row ordered)

  -- where scores fall, the stable order is as the rows stand; so it is of a stable order
  pub stable-falls : (rows : List T) → Falls score rows → stable score rows ≡ rows
  stable-falls rows falls = Falls-unique score (stable score rows) rows (Falls-stable score rows) falls (λ row. of_score-stable score (score row) rows)

  pub stable-again : (rows : List T) → stable score (stable score rows) ≡ stable score rows
  stable-again rows = stable-falls (stable score rows) (Falls-stable score rows)

  pub Falls-fixed : (rows : List T) → stable score rows ≡ rows → Falls score rows
  Falls-fixed rows fixed = subst (Falls score) fixed (Falls-stable score rows)

  -- rows behind others that are in order are put into them
  pub stable-behind : (rows others : List T) → stable score rows ≡ rows → stable score (rows ++ others) ≡ put_all score rows others
  stable-behind rows others fixed = put_all-append rows others [] ∙ ap (λ ordered. put_all score ordered others) fixed

  -- it is all one whether the rows behind are put in order first
  pub stable-behind_stable : (rows others : List T) → stable score (rows ++ stable score others) ≡ stable score (rows ++ others)
  stable-behind_stable rows others =
      Falls-unique score (stable score (rows ++ stable score others)) (stable score (rows ++ others))
      (Falls-stable score (rows ++ stable score others)) (Falls-stable score (rows ++ others))
      (λ row. let n = score row in
      of_score-stable score n (rows ++ stable score others)
      ∙ filter-append (λ other. score other == n) rows (stable score others)
      ∙ ap (λ last. of_score score n rows ++ last) (of_score-stable score n others)
      ∙ sym (filter-append (λ other. score other == n) rows others)
      ∙ sym (of_score-stable score n (rows ++ others)))

  -- what stands before the place has the row's score at least
  each-before : (least : ℕ) (rows : List T) (place : ℕ) → AllWithin (λ other. nat_le least (score other) ≡ true) rows 0 place → AllByRecursion (λ other. least ≤ score other) (take place rows)
  each-before least [] zero before = tt
  each-before least [] (suc place) before = tt
  each-before least (first ∷ rest) zero before = tt
  each-before least (first ∷ rest) (suc place) before =
      (leb-true least (score first) (before 0 first (omega arith) (omega arith)), each-before least rest place (λ k d low high. before (suc k) d (omega arith) (omega arith)))

  -- a row is put behind those in front that have its score at least
  put_behind-front : (row : T) (front rows : List T) → AllByRecursion (λ other. score row ≤ score other) front → put_behind score row (front ++ rows) ≡ front ++ put_behind score row rows
  put_behind-front row [] rows all = refl
  put_behind-front row (first ∷ front) rows all =
      cond-true (leb (score row) (score first)) (first ∷ put_behind score row (front ++ rows)) (row ∷ first ∷ front ++ rows) (le-leb (score row) (score first) all.0)
      ∙ ap (λ rows. first ∷ rows) (put_behind-front row front rows all.1)

  -- in front of lower ones a row is put in as if they weren't there, and so are all rows
  put_behind-back : (row : T) (rows back : List T) → AllByRecursion (λ other. score other < score row) back → put_behind score row (rows ++ back) ≡ put_behind score row rows ++ back
  put_behind-back row [] [] low = refl
  put_behind-back row [] (first ∷ back) low = cond-false (leb (score row) (score first)) (first ∷ put_behind score row back) (row ∷ first ∷ back) (lt-leb (score row) (score first) low.0)
  put_behind-back row (first ∷ rows) back low = go (leb (score row) (score first)) (put_behind-back row rows back low) where
    go : (b : Bool) → put_behind score row (rows ++ back) ≡ put_behind score row rows ++ back
        → cond b (first ∷ put_behind score row (rows ++ back)) (row ∷ first ∷ rows ++ back) ≡ cond b (first ∷ put_behind score row rows) (row ∷ first ∷ rows) ++ back
    go true same = ap (λ rows. first ∷ rows) same
    go false same = refl

  put_all-back : (least : ℕ) (others rows back : List T) → AllByRecursion (λ other. least ≤ score other) others → AllByRecursion (λ row. score row < least) back
      → put_all score (rows ++ back) others ≡ put_all score rows others ++ back
  put_all-back least [] rows back high low = refl
  put_all-back least (other ∷ others) rows back high low =
      ap (λ ordered. put_all score ordered others) (put_behind-back other rows back (each-weaker (λ row. score row < least) (λ row. score row < score other) (λ row below. omega (arith, high.0)) back low))
      ∙ put_all-back least others (put_behind score other rows) back high.1 low

  -- what stands from the place on has a lower score
  each-behind_place : (least : ℕ) (rows : List T) (place : ℕ) → AllWithin (λ other. nat_le least (score other) ≡ false) rows place (length rows) → AllByRecursion (λ other. score other < least) (drop place rows)
  each-behind_place least [] zero behind = tt
  each-behind_place least [] (suc place) behind = tt
  each-behind_place least (first ∷ rest) zero behind =
      (leb-false least (score first) (behind 0 first (omega arith) (omega arith)), each-behind_place least rest zero (λ k d low high. behind (suc k) d (omega arith) (omega arith)))
  each-behind_place least (first ∷ rest) (suc place) behind = each-behind_place least rest place (λ k d low high. behind (suc k) d (omega arith) (omega arith))

  -- rows whose scores fall have that of the last one at least
  each-last : (others : List T) (last : T) → Falls score (others ++ last ∷ []) → AllByRecursion (λ other. score last ≤ score other) others
  unfolding Falls
  each-last [] last falls = tt
  each-last (other ∷ others) last falls = ((each-behind (λ later. score later ≤ score other) others (last ∷ []) falls.0).0, each-last others last falls.1)

  -- of rows in order the last one is put in at its place, and the others in front of it
  pub put_all-last : (last : T) (others rows : List T) (place : ℕ) → Falls score (others ++ last ∷ [])
      → IsPartitionPoint (λ other. nat_le (score last) (score other) ≡ true) (λ other. nat_le (score last) (score other) ≡ false) rows place
      → put_all score rows (others ++ last ∷ []) ≡ put_all score (take place rows) others ++ last ∷ drop place rows
  put_all-last last others rows place falls point =
      let high = each-last others last falls in
      let low = each-behind_place (score last) rows place point.1 in
      put_all-append others (last ∷ []) rows
      ∙ ap (λ rows. put_behind score last (put_all score rows others)) (sym (take-append-drop place rows))
      ∙ ap (put_behind score last) (put_all-back (score last) others (take place rows) (drop place rows) high low)
      ∙ put_behind-front last (put_all score (take place rows) others) (drop place rows)
      (AllByRecursion-put_all score (λ other. score last ≤ score other) (take place rows) others (each-before (score last) rows place point.0) high)
      ∙ ap (λ back. put_all score (take place rows) others ++ back) (put_behind-back last [] (drop place rows) low)

  -- scores that fall do so along the first rows too
  pub Falls-take : (n : ℕ) (rows : List T) → Falls score rows → Falls score (take n rows)
  unfolding Falls
  Falls-take zero rows falls = tt
  Falls-take (suc n) [] falls = tt
  Falls-take (suc n) (row ∷ rows) falls = (each-take (λ later. score later ≤ score row) n rows falls.0, Falls-take n rows falls.1)

  -- where scores fall, the rows with a score at least stand in front
  pub IsPartitionedBy-falls : (least : ℕ) (rows : List T) → Falls score rows → IsPartitionedBy (λ row. nat_le least (score row)) rows
  IsPartitionedBy-falls least rows falls i j d up within holds =
      le-leb least (score (get_or rows i d)) (let high = leb-true least (score (get_or rows j d)) holds in let down = Falls-at score rows falls i j d up within in omega arith)

-- the first of the first rows
pub take-take : {T : Type 0} (n m : ℕ) (rows : List T) → n ≤ m → m ≤ length rows → take n (take m rows) ≡ take n rows
take-take n m rows few within =
    sym (take-append-le n (take m rows) (drop m rows) (omega (arith, length-take-le m rows within))) ∙ ap (take n) (take-append-drop m rows)

-- a run of rows moves up, and another row stands in front of it
module _ {T : Type 0} (rows : List T) (place run left : ℕ) (other : T) (within : place + run + suc left ≤ length rows) where
  abbrev moved : List T
  moved = set (paste rows (place + suc left) (drop place rows) run) (place + left) other

  size : length (paste rows (place + suc left) (drop place rows) run) ≡ length rows
  size = length-paste rows (place + suc left) (drop place rows) run (omega arith) (omega (arith, length-drop place rows))

  split : moved ≡ take (place + left) (paste rows (place + suc left) (drop place rows) run) ++ other ∷ drop (suc (place + left)) (paste rows (place + suc left) (drop place rows) run)
  split = set_split (paste rows (place + suc left) (drop place rows) run) (place + left) other (omega (arith, size))

  pasted : paste rows (place + suc left) (drop place rows) run ≡ take (place + suc left) rows ++ (take run (drop place rows) ++ drop (place + suc left + run) rows)
  pasted = append_assoc (take (place + suc left) rows) (take run (drop place rows)) (drop (place + suc left + run) rows)

  pub length-moved : length moved ≡ length rows
  length-moved = length-set (paste rows (place + suc left) (drop place rows) run) (place + left) other ∙ size

  -- the rows in front stay
  pub take-moved : take place moved ≡ take place rows
  take-moved =
      ap (take place) split
      ∙ take-append-le place (take (place + left) (paste rows (place + suc left) (drop place rows) run)) (other ∷ drop (suc (place + left)) (paste rows (place + suc left) (drop place rows) run))
      (omega (arith, length-take-le (place + left) (paste rows (place + suc left) (drop place rows) run) (omega (arith, size))))
      ∙ take-take place (place + left) (paste rows (place + suc left) (drop place rows) run) (omega arith) (omega (arith, size))
      ∙ ap (take place) pasted
      ∙ take-append-le place (take (place + suc left) rows) (take run (drop place rows) ++ drop (place + suc left + run) rows) (omega (arith, length-take-le (place + suc left) rows (omega arith)))
      ∙ take-take place (place + suc left) rows (omega arith) (omega arith)

  -- and behind the other row there are the run and what stood there
  pub drop-moved : drop (place + left) moved ≡ other ∷ (take run (drop place rows) ++ drop (place + run + suc left) rows)
  drop-moved =
      ap (drop (place + left)) split
      ∙ drop_at (take (place + left) (paste rows (place + suc left) (drop place rows) run)) (other ∷ drop (suc (place + left)) (paste rows (place + suc left) (drop place rows) run)) (place + left)
      (length-take-le (place + left) (paste rows (place + suc left) (drop place rows) run) (omega (arith, size)))
      ∙ ap (λ rest. other ∷ rest)
      (ap (drop (suc (place + left))) pasted
      ∙ drop_at (take (place + suc left) rows) (take run (drop place rows) ++ drop (place + suc left + run) rows) (suc (place + left)) (length-take-le (place + suc left) rows (omega arith) ∙ (let e : place + suc left ≡ suc (place + left) = omega arith in e))
      ∙ ap (λ n. take run (drop place rows) ++ drop n rows) (let e : place + suc left + run ≡ place + run + suc left = omega arith in e))

-- a step of the merge of rows with others: the last other row that is left goes to its place, with the rows from there on behind it
module _ {T : Type 0} (score : T → ℕ) (whole others : List T) where
  -- the first others are still to be put into the first rows, and what stands behind both stays there
  pub record IsMerging (rows : List T) (end left : ℕ) : Type 0 where
    pub falls : Falls score (take end rows)
    pub same : whole ≡ put_all score (take end rows) (take left others) ++ drop (end + left) rows
    pub within : end + left ≤ length rows
    pub few : left ≤ length others

  pub IsMerging-step : (rows new : List T) (end more left place : ℕ) (d : T) → Falls score others → IsMerging rows end more → more ≡ suc left → place ≤ end
      → IsPartitionPoint (λ other. nat_le (score (get_or others left d)) (score other) ≡ true) (λ other. nat_le (score (get_or others left d)) (score other) ≡ false) (take end rows) place
      → new ≡ set (copy_within rows place end (place + more)) (place + left) (get_or others left d) → IsMerging new place left
  IsMerging-step rows new end more left place d falls is more_is before point new_is =
      let other = get_or others left d in
      let run = end - place in
      let now = subst (IsMerging rows end) more_is is in
      let same = now.same in
      let few = now.few in
      let few_rows = now.within in
      let within : place + run + suc left ≤ length rows = omega arith in
      let end_is : end ≡ place + run = omega arith in
      let is_moved : new ≡ moved rows place run left other within = new_is ∙ ap (λ n. set (paste rows (place + n) (drop place rows) run) (place + left) other) more_is in
      let others_are : take (suc left) others ≡ take left others ++ other ∷ [] = rw add-one at (take_more others left d (omega arith)) in
      let placed = put_all-last score other (take left others) (take end rows) place (subst (Falls score) others_are (Falls-take score (suc left) others falls)) point in
      let front : take place new ≡ take place (take end rows) = ap (take place) is_moved ∙ take-moved rows place run left other within ∙ sym (take-take place end rows before (omega arith)) in
      let run_is : take run (drop place rows) ≡ drop place (take end rows) = sym (drop-take place run rows) ∙ ap (λ n. drop place (take n rows)) (sym end_is) in
      let back : drop (place + left) new ≡ other ∷ (drop place (take end rows) ++ drop (end + suc left) rows) =
      ap (drop (place + left)) is_moved ∙ drop-moved rows place run left other within
      ∙ ap (λ run. other ∷ (run ++ drop (place + (end - place) + suc left) rows)) run_is
      ∙ ap (λ n. other ∷ (drop place (take end rows) ++ drop (n + suc left) rows)) (sym end_is) in
      record {
        falls = subst (Falls score) (sym front) (Falls-take score place (take end rows) now.falls);
        same = same
            ∙ ap (λ others. put_all score (take end rows) others ++ drop (end + suc left) rows) others_are
            ∙ ap (λ rows_in. rows_in ++ drop (end + suc left) rows) placed
            ∙ append_assoc (put_all score (take place (take end rows)) (take left others)) (other ∷ drop place (take end rows)) (drop (end + suc left) rows)
            ∙ ap (λ rows_in. put_all score (take place (take end rows)) (take left others) ++ rows_in) (sym back)
            ∙ ap (λ rows_in. put_all score rows_in (take left others) ++ drop (place + left) new) (sym front);
        within = omega (arith, ap length is_moved, length-moved rows place run left other within);
        few = omega arith;
      }
