-- Where the rank operator stands: what it keeps, and what it does next.
use Rattle.std.proofs.Common.{◌≡◌, ℕ, zero, suc, ◌+◌, ◌-◌, ◌*◌, ◌<◌, ◌≤◌, Bool, true, false, not, cond, List, [], ◌∷◌, length, get_or, take, drop, map, bit_or, Option, Some, refl, sym, ◌∙◌, ap, subst, inl, inr, arith, rules, ltb}
use Rattle.std.proofs.lemmas.Bool.{cases_lt, lt-ltb, ltb-true}
use Rattle.std.proofs.lemmas.List.{drop-map, drop_all, take-map, take_all}
use Rattle.std.proofs.lemmas.Nat.{mul-le}
use Rattle.std.proofs.lemmas.Option.{slice_get_cases, slice_get_within}
use Rattle.std.specs.Cmp.{IsTotalOrder, nat_cmp_is, tied_itself}
use Rattle.std.specs.Cmp.Rules.{comparing}
use Rattle.std.specs.Cmp.Lexicographic.{slice_cmp}
use Rattle.std.specs.List.{slice_get}
use Rattle.std.specs.Option.{option_map}
use Rattle.std.specs.Ordering.{is_lt, is_gt, nat_cmp, ordering_then}
use Rattle.std.specs.declared.cmp.Ordering.{Ordering}
use Rattle.std.specs.declared.cmp.Ordering.TheVariants.{Greater}
use Rattle.rs_order.specs.Asks.{asks_for, bar_after}
use Rattle.rs_order.specs.Climbing.{Differs, HasDistinctKeys, In}
use Rattle.rs_order.specs.Sorting.{put, put_each, sorted}
use Rattle.rs_order.proofs.ClimbingFacts.{AllByRecursion-In, AllByRecursion-from_In}
use Rattle.rs_rank.proofs.OrderFacts.{IsTied-parts}
use Rattle.rs_rank.proofs.WeightFacts.{sum_outside-one}
use Rattle.rs_rank.specs.declared.ask.Ask.{Ask}
use Rattle.rs_rank.specs.declared.ask.Ask.TheVariants.{Need, Ready, End}
use Rattle.rs_rank.specs.declared.ids.Ids.{Ids}
use Rattle.rs_rank.specs.declared.key.Key.{Key}
use Rattle.rs_rank.specs.declared.row.RankRow.{RankRow}
use Rattle.rs_rank.specs.Keys.{key_cmp}
use Rattle.rs_rank.specs.Masks.{mask_of}
use Rattle.rs_rank.specs.Weights.{rest}
use Rattle.rs_rank.specs.Ids.{AreOtherIds}
use Rattle.rs_mu.specs.Mu.{Mu, ask_for, ask_of}
use Rattle.rs_rank.specs.Rows.{HaveOtherIds}
use Rattle.rs_order.specs.Last.{last_of}
use Rattle.rs_mu.specs.Stands.{Evaluation, IsInput, Stands, answers, asks_of, new_key, old_key, state_after, with_worth}
use Rattle.rs_order.proofs.PartFacts.{last_of-take, slice_get-shared, sorted-map}
use Rattle.rs_order.proofs.ReorderFacts.{Reorder, asked-reached, asks_upto, asks_upto-more, asks_upto-most, reached-asked, settled}

pub key_cmp-total : IsTotalOrder key_cmp
key_cmp-total = search (comparing, rules) depth 9

-- of keys with the same ids, that of the lesser bound doesn't come before the other
key_cmp-lower : (a b : ℕ) (ids : Ids) → a ≤ b → is_lt (key_cmp (record { bound = a; ids = ids }) (record { bound = b; ids = ids })) ≡ false
key_cmp-lower a b ids le =
    elim (cases_lt a b) [
      | inl less ↦ ap (λ o. is_lt (ordering_then o (ordering_then (nat_cmp ids.block ids.block) (slice_cmp nat_cmp ids.rows ids.rows)))) (sym (nat_cmp_is b a Greater less))
      | inr more ↦
          let same : a ≡ b = omega arith in
          subst (λ n. is_lt (key_cmp (record { bound = a; ids = ids }) (record { bound = n; ids = ids })) ≡ false) same
          (ap is_lt (tied_itself key_cmp-total (record { bound = a; ids = ids })))
    ]

-- the key of an input row's answer
abbrev pub row_key : Evaluation → RankRow → Key
row_key e row = new_key e (with_worth e row)

-- it doesn't come before the row's own key
row_key-later : (e : Evaluation) (rows : List RankRow) → IsInput e rows → (row : RankRow) → In row rows → is_lt (key_cmp (row_key e row) (old_key e row)) ≡ false
row_key-later e rows input row h =
    let least = input.term.least in
    let most = input.term.most in
    let w : e.term - 1 < length e.weights.weight = let n = input.weights.weight_count in omega arith in
    let m : e.term - 1 < length e.weights.max = let n = input.weights.max_count in omega arith in
    let one : rest e.weights e.terms ≡ get_or e.weights.weight (e.term - 1) 0 * get_or e.weights.max (e.term - 1) 0 + rest e.weights (bit_or e.terms (mask_of e.term)) =
    sum_outside-one (e.term - 1) e.terms e.weights.weight e.weights.max w m input.term.absent in
    let limit : e.worth row ≤ get_or e.weights.max (e.term - 1) 0 = AllByRecursion-In (λ row. e.worth row ≤ get_or e.weights.max (e.term - 1) 0) rows input.limits row h in
    let share = mul-le (get_or e.weights.weight (e.term - 1) 0) (e.worth row) (get_or e.weights.weight (e.term - 1) 0) (get_or e.weights.max (e.term - 1) 0) (omega arith) limit in
    key_cmp-lower
    (row.sum + get_or e.weights.weight (e.term - 1) 0 * e.worth row + rest e.weights (bit_or e.terms (mask_of e.term)))
    (row.sum + rest e.weights e.terms) row.ids (omega arith)

-- rows of other ids have other keys
row_key-distinct : (e : Evaluation) (rows : List RankRow) → HaveOtherIds rows → HasDistinctKeys key_cmp (row_key e) rows
row_key-distinct e [] others = tt
row_key-distinct e (row ∷ rows) others = (
  AllByRecursion-from_In (Differs key_cmp (row_key e) row) rows
      (λ z h tied. let parts = IsTied-parts (row_key e row) (row_key e z) tied in AllByRecursion-In (λ other. AreOtherIds row.ids other.ids) rows others.0 z h parts.1 parts.2),
  row_key-distinct e rows others.1,
)

-- the operator puts its input into a new order
pub reorder : (e : Evaluation) (rows : List RankRow) → IsInput e rows → Reorder key_cmp (old_key e) (row_key e) rows
reorder e rows input = record {
  total = key_cmp-total;
  rising = input.rising;
  distinct = row_key-distinct e rows input.others;
  later = row_key-later e rows input;
}

-- the answers are the sorted rows, each with its worth
pub answers-map : (e : Evaluation) (rows : List RankRow) → answers e rows ≡ map (with_worth e) (sorted key_cmp (row_key e) rows)
answers-map e rows = sorted-map key_cmp (new_key e) (with_worth e) rows

pub asks_of-upto : (e : Evaluation) (rows : List RankRow) (n : ℕ) → asks_of e rows n ≡ asks_upto key_cmp (old_key e) (row_key e) rows n
asks_of-upto e rows zero = refl
asks_of-upto e rows (suc n) =
    ap (λ bar. asks_for key_cmp (old_key e) rows bar)
    (ap (λ ys. bar_after (new_key e) ys n) (answers-map e rows) ∙ bar_after-map (new_key e) (with_worth e) (sorted key_cmp (row_key e) rows) n)
  where
    bar_after-map : {X Y K : Type 0} (key : Y → K) (f : X → Y) (xs : List X) (n : ℕ) → bar_after key (map f xs) n ≡ bar_after (λ x. key (f x)) xs n
    bar_after-map key f [] n = refl
    bar_after-map key f (x ∷ xs) zero = refl
    bar_after-map key f (x ∷ xs) (suc n) = bar_after-map key f xs n

-- more answers take more asks
pub asks-grow : (e : Evaluation) (rows : List RankRow) → IsInput e rows → (m n : ℕ) → m ≤ n → asks_of e rows m ≤ asks_of e rows n
asks-grow e rows input m n le =
    let less = asks_of-upto e rows m in
    let more = asks_of-upto e rows n in
    let grow = asks_upto-more key_cmp (old_key e) (row_key e) rows (reorder e rows input) m n le in
    omega arith

-- how many answers there are
pub length-sorted : {X K : Type 0} (cmp : K → K → Ordering) (key : X → K) (xs : List X) → length (sorted cmp key xs) ≡ length xs
length-sorted cmp key xs = let e = length-put_each cmp key [] xs in omega arith
  where
    length-put : {X K : Type 0} (cmp : K → K → Ordering) (key : X → K) (x : X) (ys : List X) → length (put cmp key x ys) ≡ suc (length ys)
    length-put cmp key x [] = refl
    length-put cmp key x (y ∷ ys) =
        elim (is_lt (cmp (key x) (key y))) as (λ b. length (cond b (x ∷ y ∷ ys) (y ∷ put cmp key x ys)) ≡ suc (suc (length ys))) [
          | true ↦ refl
          | false ↦ ap suc (length-put cmp key x ys)
        ]

    length-put_each : {X K : Type 0} (cmp : K → K → Ordering) (key : X → K) (ordered xs : List X) → length (put_each cmp key ordered xs) ≡ length ordered + length xs
    length-put_each cmp key ordered [] = omega arith
    length-put_each cmp key ordered (x ∷ xs) =
        let first = length-put cmp key x ordered in
        let others = length-put_each cmp key (put cmp key x ordered) xs in
        omega arith

-- what is held, of the sorted rows
abbrev pub pair_of : Evaluation → RankRow → Key × RankRow
pair_of e row = (row_key e row, with_worth e row)

pub held-map : (e : Evaluation) (rows : List RankRow) (n : ℕ) → map (λ row. (new_key e row, row)) (drop n (answers e rows)) ≡ map (pair_of e) (drop n (sorted key_cmp (row_key e) rows))
held-map e rows n =
    ap (λ ys. map (λ row. (new_key e row, row)) (drop n ys)) (answers-map e rows)
    ∙ ap (map (λ row. (new_key e row, row))) (drop-map (with_worth e) n (sorted key_cmp (row_key e) rows))
    ∙ map-twice (λ row. (new_key e row, row)) (with_worth e) (drop n (sorted key_cmp (row_key e) rows))
  where
    map-twice : {X Y Z : Type 0} (f : Y → Z) (g : X → Y) (xs : List X) → map f (map g xs) ≡ map (λ x. f (g x)) xs
    map-twice f g [] = refl
    map-twice f g (x ∷ xs) = ap (λ zs. f (g x) ∷ zs) (map-twice f g xs)

-- the answers of a part begin as those of the whole do, once they are asked for
pub answers-settled : (e : Evaluation) (rows : List RankRow) → IsInput e rows → (n j : ℕ) → asks_of e rows n ≤ j → take n (answers e (take j rows)) ≡ take n (answers e rows)
answers-settled e rows input n j le =
    ap (take n) (answers-map e (take j rows))
    ∙ take-map (with_worth e) n (sorted key_cmp (row_key e) (take j rows))
    ∙ ap (map (with_worth e)) (settled key_cmp (old_key e) (row_key e) rows (reorder e rows input) n j (let same = asks_of-upto e rows n in omega arith))
    ∙ sym (take-map (with_worth e) n (sorted key_cmp (row_key e) rows))
    ∙ ap (take n) (sym (answers-map e rows))

-- what an ask tells
abbrev pub Tells : Evaluation → List RankRow → ℕ → ℕ → Ask → Type 0
Tells e rows asks count Need = asks < asks_of e rows (suc count)
Tells e rows asks count Ready = (asks ≡ asks_of e rows (suc count)) × (count < length rows)
Tells e rows asks count End = (asks ≡ suc (length rows)) × (count ≡ length rows)

-- what is behind n items
drop-some : {X : Type 0} (n : ℕ) (xs : List X) (x : X) → slice_get xs n ≡ Some x → drop n xs ≡ x ∷ drop (suc n) xs
drop-some n [] x e = cc
drop-some zero (y ∷ ys) x e = let same : y ≡ x = cc in ap (λ z. z ∷ ys) same
drop-some (suc n) (y ∷ ys) x e = drop-some n ys x e

pub ltb-false : (a b : ℕ) → b ≤ a → ltb a b ≡ false
ltb-false a b le =
    (elim (ltb a b) as (λ t. ltb a b ≡ t → t ≡ false) [ true ↦ λ e. let less = ltb-true a b e in absurd (omega arith) | false ↦ λ e. refl ]) refl

-- an ask by what it is made of
ask_for-same : (last last' : Option Key) (ended ended' : Bool) (held held' : List (Key × RankRow)) → last ≡ last' → ended ≡ ended' → held ≡ held' → ask_for last ended held ≡ ask_for last' ended' held'
ask_for-same last last' ended ended' held held' e f g =
    ap (λ l. ask_for l ended held) e ∙ ap (λ b. ask_for last' b held) f ∙ ap (ask_for last' ended') g

module _ (e : Evaluation) (rows : List RankRow) (input : IsInput e rows) where
  abbrev held_at : ℕ → ℕ → List (Key × RankRow)
  held_at n j = map (pair_of e) (drop n (sorted key_cmp (row_key e) (take j rows)))

  abbrev last_at : ℕ → Option Key
  last_at j = option_map (old_key e) (last_of (take j rows))

  asks-same : (n : ℕ) → asks_of e rows n ≡ asks_upto key_cmp (old_key e) (row_key e) rows n
  asks-same n = asks_of-upto e rows n

  pub asks-most : (n : ℕ) → asks_of e rows n ≤ suc (length rows)
  asks-most n = let same = asks-same n in let most = asks_upto-most key_cmp (old_key e) (row_key e) rows n in omega arith

  held-some : (n j : ℕ) (p : RankRow) → slice_get (sorted key_cmp (row_key e) (take j rows)) n ≡ Some p → held_at n j ≡ pair_of e p ∷ held_at (suc n) j
  held-some n j p g = ap (map (pair_of e)) (drop-some n (sorted key_cmp (row_key e) (take j rows)) p g)

  held-none : (n j : ℕ) → length (sorted key_cmp (row_key e) (take j rows)) ≤ n → held_at n j ≡ []
  held-none n j le = ap (map (pair_of e)) (drop_all n (sorted key_cmp (row_key e) (take j rows)) le)

  last-some : (i : ℕ) (d : RankRow) → i < length rows → last_at (suc i) ≡ Some (old_key e (get_or rows i d))
  last-some i d within = ap (option_map (old_key e)) (last_of-take i rows d within)

  -- an answer that is in the part is one of the whole
  within-part : (n : ℕ) (p : RankRow) → slice_get (sorted key_cmp (row_key e) rows) n ≡ Some p → n < length rows
  within-part n p g =
      let less = slice_get_within (sorted key_cmp (row_key e) rows) n p g in
      let same = length-sorted key_cmp (row_key e) rows in
      omega arith

  -- all is asked for
  tells-over : (n : ℕ) → n ≤ length rows → asks_of e rows (suc n) ≤ suc (length rows) → suc (length rows) ≤ asks_of e rows (suc n) → Tells e rows (suc (length rows)) n (ask_for (last_at (suc (length rows))) (ltb (length rows) (suc (length rows))) (held_at n (suc (length rows))))
  tells-over n within le ge =
      let whole : sorted key_cmp (row_key e) (take (suc (length rows)) rows) ≡ sorted key_cmp (row_key e) rows = ap (sorted key_cmp (row_key e)) (take_all (suc (length rows)) rows (omega arith)) in
      let count = length-sorted key_cmp (row_key e) rows in
      elim (slice_get_cases (sorted key_cmp (row_key e) rows) n).1 [
        | inl some ↦
            let g = ap (λ ys. slice_get ys n) whole ∙ some.2 in
            subst (Tells e rows (suc (length rows)) n)
            (sym (ask_for-same (last_at (suc (length rows))) (last_at (suc (length rows))) (ltb (length rows) (suc (length rows))) true (held_at n (suc (length rows))) (pair_of e some.0 ∷ held_at (suc n) (suc (length rows)))
            refl (lt-ltb (length rows) (suc (length rows)) (omega arith)) (held-some n (suc (length rows)) some.0 g)))
            (let asks : suc (length rows) ≡ asks_of e rows (suc n) = omega arith in (asks, within-part n some.0 some.2))
        | inr none ↦
            let past : length (sorted key_cmp (row_key e) (take (suc (length rows)) rows)) ≤ n = rw whole none.0 in
            subst (Tells e rows (suc (length rows)) n)
            (sym (ask_for-same (last_at (suc (length rows))) (last_at (suc (length rows))) (ltb (length rows) (suc (length rows))) true (held_at n (suc (length rows))) []
            refl (lt-ltb (length rows) (suc (length rows)) (omega arith)) (held-none n (suc (length rows)) past)))
            (let all : n ≡ length rows = let few = none.0 in omega arith in (refl, all))
      ]

  -- enough is asked for, and not all
  tells-reached : (n i : ℕ) → i < length rows → asks_of e rows (suc n) ≡ suc i → Tells e rows (suc i) n (ask_for (last_at (suc i)) (ltb (length rows) (suc i)) (held_at n (suc i)))
  tells-reached n i within asks =
      elim (slice_get_cases rows i).1 [
        | inl row ↦
            let same = asks-same (suc n) in
            let r = reorder e rows input in
            let reached = asked-reached key_cmp (old_key e) (row_key e) rows r n i row.0 within (omega arith) in
            let p = reached.0 in
            let there = sym (slice_get-shared n (sorted key_cmp (row_key e) (take (suc i) rows)) (sorted key_cmp (row_key e) rows)
            (settled key_cmp (old_key e) (row_key e) rows r (suc n) (suc i) (omega arith))) ∙ reached.1 in
            subst (Tells e rows (suc i) n)
            (sym (ask_for-same (last_at (suc i)) (Some (old_key e (get_or rows i row.0))) (ltb (length rows) (suc i)) false (held_at n (suc i)) (pair_of e p ∷ held_at (suc n) (suc i))
            (last-some i row.0 within) (ltb-false (length rows) (suc i) (omega arith)) (held-some n (suc i) p reached.1)
            ∙ ap (λ b. cond (not b) Ready Need) reached.2))
            (sym asks, within-part n p there)
        | inr none ↦ let past = none.0 in absurd (omega arith)
      ]

  -- more is to be asked for
  tells-need : (n j : ℕ) → j < asks_of e rows (suc n) → Tells e rows j n (ask_for (last_at j) (ltb (length rows) j) (held_at n j))
  tells-need n j less =
      let most = asks-most (suc n) in
      let open_ended = ltb-false (length rows) j (omega arith) in
      elim (slice_get_cases (sorted key_cmp (row_key e) (take j rows)) n).1 [
        | inl some ↦
            subst (Tells e rows j n)
            (sym (ask_for-same (last_at j) (last_at j) (ltb (length rows) j) false (held_at n j) (pair_of e some.0 ∷ held_at (suc n) j)
            refl open_ended (held-some n j some.0 some.2) ∙ not-reached j some.0 some.2 less)) less
        | inr none ↦
            subst (Tells e rows j n)
            (sym (ask_for-same (last_at j) (last_at j) (ltb (length rows) j) false (held_at n j) []
            refl open_ended (held-none n j none.0))) less
      ]
    where
      not-reached : (j : ℕ) (p : RankRow) → slice_get (sorted key_cmp (row_key e) (take j rows)) n ≡ Some p → j < asks_of e rows (suc n) → ask_for (last_at j) false (pair_of e p ∷ held_at (suc n) j) ≡ Need
      not-reached zero p g less = refl
      not-reached (suc i) p g less =
          let most = asks-most (suc n) in
          elim (slice_get_cases rows i).1 [
            | inl row ↦
                ap (λ l. ask_for l false (pair_of e p ∷ held_at (suc n) (suc i))) (last-some i row.0 row.1)
                ∙ (elim (is_gt (key_cmp (row_key e p) (old_key e (get_or rows i row.0)))) as (λ b. is_gt (key_cmp (row_key e p) (old_key e (get_or rows i row.0))) ≡ b → cond (not b) Ready Need ≡ Need) [
                  | true ↦ λ f. refl
                  | false ↦ λ f.
                      let same = asks-same (suc n) in
                      let asked = reached-asked key_cmp (old_key e) (row_key e) rows (reorder e rows input) n i p row.0 row.1 g f in
                      absurd (omega arith)
                ]) refl
            | inr none ↦ let past = none.0 in absurd (omega arith)
          ]

  -- what the operator does next tells the asks
  pub tells-state : (n j : ℕ) → n ≤ length rows → j ≤ asks_of e rows (suc n) → Tells e rows j n (ask_of (state_after e rows j n))
  tells-state n j within le =
      let most = asks-most (suc n) in
      subst (λ held. Tells e rows j n (ask_for (last_at j) (ltb (length rows) j) held)) (sym (held-map e (take j rows) n))
      (elim (cases_lt j (asks_of e rows (suc n))) [
        | inl less ↦ tells-need n j less
        | inr enough ↦
            let asks : asks_of e rows (suc n) ≡ j = omega arith in
            elim (cases_lt (length rows) j) [
              | inl over ↦
                  let last : suc (length rows) ≡ j = omega arith in
                  subst (λ k. Tells e rows k n (ask_for (last_at k) (ltb (length rows) k) (held_at n k))) last (tells-over n within most (omega arith))
              | inr inside ↦ subst-asked j asks inside
            ]
      ])
    where
      subst-asked : (j : ℕ) → asks_of e rows (suc n) ≡ j → j ≤ length rows → Tells e rows j n (ask_for (last_at j) (ltb (length rows) j) (held_at n j))
      subst-asked zero asks inside = absurd (omega arith)
      subst-asked (suc i) asks inside = tells-reached n i (omega arith) asks

-- and so where it stands
pub stands-tells : (e : Evaluation) (rows : List RankRow) (asks count : ℕ) (mu : Mu) → Stands e rows asks count mu → Tells e rows asks count (ask_of mu)
stands-tells e rows asks count mu s =
    subst (λ m. Tells e rows asks count (ask_of m)) (sym s.state) (tells-state e rows s.input count asks s.within s.most)
