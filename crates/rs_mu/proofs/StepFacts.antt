-- What each call does to where the rank operator stands.
use Rattle.std.proofs.Common.{◌≡◌, ℕ, zero, suc, ◌+◌, ◌-◌, ◌≤◌, Bool, true, false, List, [], ◌∷◌, length, get_or, take, drop, map, Option, Some, None, refl, sym, ◌∙◌, ap, subst, inl, inr, arith, ltb}
use Rattle.std.proofs.lemmas.Bool.{lt-ltb}
use Rattle.std.proofs.lemmas.List.{drop-drop, drop-map, take_all}
use Rattle.std.proofs.lemmas.Option.{get_or_from_slice_get, slice_get_within}
use Rattle.std.specs.List.{AllByRecursion, slice_get}
use Rattle.std.specs.Option.{option_map}
use Rattle.rs_order.specs.Climbing.{In}
use Rattle.rs_order.specs.Sorting.{put, sorted}
use Rattle.rs_order.proofs.ClimbingFacts.{AllByRecursion-In, AllByRecursion-from_In}
use Rattle.rs_order.proofs.EachFacts.{each-map}
use Rattle.rs_order.proofs.SortingFacts.{In-sorted-back}
use Rattle.rs_rank.specs.declared.ask.Ask.TheVariants.{Need, Ready}
use Rattle.rs_rank.specs.declared.key.Key.{Key}
use Rattle.rs_rank.specs.declared.row.RankRow.{RankRow}
use Rattle.rs_rank.specs.Keys.{key_cmp}
use Rattle.rs_rank.specs.Rows.{HasSum, first_row}
use Rattle.rs_rank.specs.Ids.{AreOtherIds}
use Rattle.rs_mu.specs.Mu.{CanEnd, CanFeed, IsBehind, Mu, ask_of, fed, left_for, taken_for}
use Rattle.rs_rank.specs.Rows.{HaveOtherIds}
use Rattle.rs_order.specs.Last.{last_of}
use Rattle.rs_mu.specs.Stands.{Evaluation, Stands, answers, new_key, old_key}
use Rattle.rs_order.proofs.PartFacts.{Climbs-behind, In-at, In-drop, In-slice_get, last_of-take, put-map, slice_get-drop, slice_get-shared}
use Rattle.rs_order.proofs.ReorderFacts.{drop-part-more}
use Rattle.rs_mu.proofs.StandFacts.{Tells, answers-settled, asks-grow, asks_of-upto, held-map, ltb-false, pair_of, reorder, row_key, stands-tells}

-- a row has other ids than those in front of it
HaveOtherIds-at : (n : ℕ) (rows : List RankRow) (row other : RankRow) → HaveOtherIds rows → slice_get rows n ≡ Some row → In other (take n rows) → AreOtherIds other.ids row.ids
HaveOtherIds-at n [] row other others e h = cc
HaveOtherIds-at zero (first ∷ rows) row other others e h = absurd h
HaveOtherIds-at (suc n) (first ∷ rows) row other others e h =
    elim h [
      | inl same ↦ subst (λ r. AreOtherIds r.ids row.ids) (sym same) (AllByRecursion-In (λ z. AreOtherIds first.ids z.ids) rows others.0 row (In-slice_get n rows row e))
      | inr behind ↦ HaveOtherIds-at n rows row other others.1 e behind
    ]

-- the first of the held rows
first_row-slice_get : (key : RankRow → Key) (rows : List RankRow) → first_row (map (λ row. (key row, row)) rows) ≡ slice_get rows 0
first_row-slice_get key [] = refl
first_row-slice_get key (row ∷ rows) = refl

-- what the operator keeps of the evaluation, and the rest
abbrev keeps : Evaluation → Option Key → Bool → List (Key × RankRow) → Mu
keeps e last ended held = record { weights = e.weights; terms = e.terms; term = e.term; last = last; ended = ended; held = held; spent = false }

keeps-same : (e : Evaluation) (last last' : Option Key) (ended ended' : Bool) (held held' : List (Key × RankRow)) → last ≡ last' → ended ≡ ended' → held ≡ held' → keeps e last ended held ≡ keeps e last' ended' held'
keeps-same e last last' ended ended' held held' f g h =
    ap (λ l. keeps e l ended held) f ∙ ap (λ b. keeps e last' b held) g ∙ ap (keeps e last' ended') h

-- the key of a held row
abbrev key_of_pair : Key × RankRow → Key
key_of_pair pair = pair.0

-- a row is taken
pub taken-stands : (e : Evaluation) (rows : List RankRow) (asks count : ℕ) (mu : Mu) → Stands e rows asks count mu → ask_of mu ≡ Ready → (taken_for (ask_of mu) mu ≡ slice_get (answers e rows) count) × Stands e rows asks (suc count) (left_for (ask_of mu) mu)
taken-stands e rows asks count mu s ready =
    let tells = subst (Tells e rows asks count) ready (stands-tells e rows asks count mu s) in
    let exact = tells.0 in
    let inside = tells.1 in
    let grow = asks-grow e rows s.input (suc count) (suc (suc count)) (omega arith) in
    let one_more : count + 1 ≡ suc count = omega arith in
    let settled = answers-settled e rows s.input (suc count) asks (omega arith) in
    rw ready (
      ap first_row (ap (λ (m : Mu). m.held) s.state)
          ∙ first_row-slice_get (new_key e) (drop count (answers e (take asks rows)))
          ∙ sym (slice_get-drop count (answers e (take asks rows)))
          ∙ slice_get-shared count (answers e (take asks rows)) (answers e rows) settled,
      record {
        input = s.input;
        state =
            ap (left_for Ready) s.state
            ∙ ap (keeps e (option_map (old_key e) (last_of (take asks rows))) (ltb (length rows) asks))
            (drop-map (λ row. (new_key e row, row)) 1 (drop count (answers e (take asks rows)))
            ∙ ap (map (λ row. (new_key e row, row))) (drop-drop 1 count (answers e (take asks rows)) ∙ ap (λ n. drop n (answers e (take asks rows))) one_more));
        least = omega arith;
        most = omega arith;
        within = omega arith;
      },
    )

-- a row can be fed
pub fed-can : (e : Evaluation) (rows : List RankRow) (asks count : ℕ) (mu : Mu) (row : RankRow) → Stands e rows asks count mu → ask_of mu ≡ Need → slice_get rows asks ≡ Some row → CanFeed row (e.worth row) mu
fed-can e rows asks count mu row s need next =
    let here = In-slice_get asks rows row next in
    record {
      alive = ap (λ (m : Mu). m.spent) s.state;
      need = need;
      sum = subst (λ (m : Mu). HasSum m.weights m.terms row) (sym s.state) (AllByRecursion-In (HasSum e.weights e.terms) rows s.input.sums row here);
      limit = subst (λ (m : Mu). e.worth row ≤ get_or m.weights.max (m.term - 1) 0) (sym s.state) (AllByRecursion-In (λ row. e.worth row ≤ get_or e.weights.max (e.term - 1) 0) rows s.input.limits row here);
      behind = subst (λ (m : Mu). IsBehind m.last (old_key (record e { weights = m.weights; terms = m.terms }) row)) (sym s.state) (behind asks next);
      others = subst (λ (m : Mu). AllByRecursion (λ pair. AreOtherIds pair.0.ids row.ids) m.held) (sym s.state)
          (subst (AllByRecursion (λ pair. AreOtherIds pair.0.ids row.ids)) (sym (held-map e (take asks rows) count))
          (each-map (λ pair. AreOtherIds pair.0.ids row.ids) (pair_of e) (drop count (sorted key_cmp (row_key e) (take asks rows)))
          (AllByRecursion-from_In (λ other. AreOtherIds other.ids row.ids) (drop count (sorted key_cmp (row_key e) (take asks rows)))
          (λ other h. HaveOtherIds-at asks rows row other s.input.others next
          (In-sorted-back key_cmp (row_key e) (take asks rows) other (In-drop count (sorted key_cmp (row_key e) (take asks rows)) other h))))));
    }
  where
    behind : (asks : ℕ) → slice_get rows asks ≡ Some row → IsBehind (option_map (old_key e) (last_of (take asks rows))) (old_key e row)
    behind zero next = tt
    behind (suc i) next =
        let less = slice_get_within rows (suc i) row next in
        subst (λ last. IsBehind (option_map (old_key e) last) (old_key e row)) (sym (last_of-take i rows row (omega arith)))
        (Climbs-behind key_cmp (old_key e) i rows row row s.input.rising (omega arith) (In-at (suc i) rows row next))

-- and is put in at its place
pub fed-stands : (e : Evaluation) (rows : List RankRow) (asks count : ℕ) (mu : Mu) (row : RankRow) → Stands e rows asks count mu → ask_of mu ≡ Need → slice_get rows asks ≡ Some row → Stands e rows (suc asks) count (fed row (e.worth row) mu)
fed-stands e rows asks count mu row s need next =
    let less = subst (Tells e rows asks count) need (stands-tells e rows asks count mu s) in
    let inside = slice_get_within rows asks row next in
    let least = s.least in
    let same = asks_of-upto e rows count in
    record {
      input = s.input;
      state =
          ap (fed row (e.worth row)) s.state
          ∙ keeps-same e (Some (old_key e row)) (option_map (old_key e) (last_of (take (suc asks) rows))) (ltb (length rows) asks) (ltb (length rows) (suc asks))
          (put key_cmp key_of_pair (pair_of e row) (map (λ row. (new_key e row, row)) (drop count (answers e (take asks rows)))))
          (map (λ row. (new_key e row, row)) (drop count (answers e (take (suc asks) rows))))
          (ap (option_map (old_key e)) (ap Some (sym (get_or_from_slice_get rows asks row row next)) ∙ sym (last_of-take asks rows row inside)))
          (ltb-false (length rows) asks (omega arith) ∙ sym (ltb-false (length rows) (suc asks) (omega arith)))
          (ap (put key_cmp key_of_pair (pair_of e row)) (held-map e (take asks rows) count)
          ∙ put-map key_cmp key_of_pair (pair_of e) row (drop count (sorted key_cmp (row_key e) (take asks rows)))
          ∙ ap (map (pair_of e)) (sym (drop-part-more key_cmp (old_key e) (row_key e) rows (reorder e rows s.input) count asks row (omega arith) next))
          ∙ sym (held-map e (take (suc asks) rows) count));
      least = omega arith;
      most = omega arith;
      within = s.within;
    }

-- the end can be fed
pub ended-can : (e : Evaluation) (rows : List RankRow) (asks count : ℕ) (mu : Mu) → Stands e rows asks count mu → ask_of mu ≡ Need → CanEnd mu
ended-can e rows asks count mu s need = record { alive = ap (λ (m : Mu). m.spent) s.state; need = need }

-- and changes nothing else
pub ended-stands : (e : Evaluation) (rows : List RankRow) (asks count : ℕ) (mu : Mu) → Stands e rows asks count mu → ask_of mu ≡ Need → slice_get rows asks ≡ None → Stands e rows (suc asks) count (record mu { ended = true })
ended-stands e rows asks count mu s need over =
    let less = subst (Tells e rows asks count) need (stands-tells e rows asks count mu s) in
    let least = s.least in
    let past : length rows ≤ asks = slice_get_none rows asks over in
    let part : take asks rows ≡ take (suc asks) rows = take_all asks rows past ∙ sym (take_all (suc asks) rows (omega arith)) in
    record {
      input = s.input;
      state =
          ap (λ (m : Mu). record m { ended = true }) s.state
          ∙ keeps-same e (option_map (old_key e) (last_of (take asks rows))) (option_map (old_key e) (last_of (take (suc asks) rows))) true (ltb (length rows) (suc asks))
          (map (λ row. (new_key e row, row)) (drop count (answers e (take asks rows)))) (map (λ row. (new_key e row, row)) (drop count (answers e (take (suc asks) rows))))
          (ap (λ part. option_map (old_key e) (last_of part)) part)
          (sym (lt-ltb (length rows) (suc asks) (omega arith)))
          (ap (λ part. map (λ row. (new_key e row, row)) (drop count (answers e part))) part);
      least = omega arith;
      most = omega arith;
      within = s.within;
    }
  where
    slice_get_none : {X : Type 0} (xs : List X) (n : ℕ) → slice_get xs n ≡ None → length xs ≤ n
    slice_get_none [] n e = omega arith
    slice_get_none (x ∷ xs) zero e = cc
    slice_get_none (x ∷ xs) (suc n) e = let le = slice_get_none xs n e in omega arith
