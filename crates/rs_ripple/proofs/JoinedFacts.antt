-- The rows that a join keeps, with one more row of a side.
use Rattle.std.proofs.Common.{◌≡◌, ℕ, ◌&&◌, Bool, true, false, not, cond, List, [], ◌∷◌, ◌++◌, map, Option, Some, None, refl, sym, ◌∙◌, ap, subst, inl, inr}
use Rattle.std.proofs.lemmas.List.{map-append}
use Rattle.std.specs.List.{AllByRecursion}
use Rattle.std.specs.Ordering.{is_gt, is_lt}
use Rattle.std.specs.declared.cmp.Ordering.TheVariants.{Less}
use Rattle.rs_order.specs.Climbing.{Climbs, In}
use Rattle.rs_order.specs.Last.{last_from}
use Rattle.rs_order.proofs.ClimbingFacts.{AllByRecursion-In, AllByRecursion-from_In}
use Rattle.rs_order.proofs.EachFacts.{each-push}
use Rattle.rs_order.proofs.ItemFacts.{Climbs-append}
use Rattle.rs_order.proofs.PartFacts.{cmp-behind-Less}
use Rattle.rs_rank.specs.declared.ask.JoinAsk.TheVariants.{NeedLeft, NeedRight, Ready}
use Rattle.rs_rank.specs.declared.key.Key.{Key}
use Rattle.rs_rank.specs.declared.row.RankRow.{RankRow}
use Rattle.rs_rank.specs.Ids.{AreOtherIds}
use Rattle.rs_rank.specs.Keys.{key_cmp}
use Rattle.rs_rank.specs.Rows.{HaveOtherIds}
use Rattle.rs_rank.proofs.OrderFacts.{key_cmp-total}
use Rattle.rs_ripple.specs.declared.side.Drawn.{Drawn}
use Rattle.rs_ripple.specs.declared.side.Side.{Side}
use Rattle.rs_ripple.specs.Joined.{is_behind}
use Rattle.rs_ripple.specs.Ripple.{HasDrawn, IsBehind, IsBehindDrawn, ask_between, drawn_with, is_reached}
use Rattle.rs_ripple.specs.Stands.{IsRowOf, Join, drawn_of}

-- what comes behind the last of rows comes behind each
behind-last : (key : RankRow → Key) (x : RankRow) (xs : List RankRow) (k : Key) → Climbs key_cmp key (x ∷ xs) → key_cmp (last_from (key x) (map key xs)) k ≡ Less → (z : RankRow) → In z (x ∷ xs) → key_cmp (key z) k ≡ Less
behind-last key x [] k climbs less z h = elim h [ inl e ↦ subst (λ w. key_cmp (key w) k ≡ Less) (sym e) less | inr none ↦ absurd none ]
behind-last key x (y ∷ ys) k climbs less z h =
    elim h [
      | inl e ↦ subst (λ w. key_cmp (key w) k ≡ Less) (sym e)
          (key_cmp-total.trans (key x) (key y) k climbs.0.0 (behind-last key y ys k climbs.1 less y (inl refl)))
      | inr later ↦ behind-last key y ys k climbs.1 less z later
    ]

behind-each : (key : RankRow → Key) (rows : List RankRow) (k : Key) → Climbs key_cmp key rows → IsBehindDrawn (drawn_of (map key rows)) k → (z : RankRow) → In z rows → key_cmp (key z) k ≡ Less
behind-each key [] k climbs behind z h = absurd h
behind-each key (x ∷ xs) k climbs behind z h = behind-last key x xs k climbs behind z h

-- so the keys rise with one more that comes behind them
pub rising-push : (key : RankRow → Key) (rows : List RankRow) (row : RankRow) → Climbs key_cmp key rows → IsBehindDrawn (drawn_of (map key rows)) (key row) → Climbs key_cmp key (rows ++ row ∷ [])
rising-push key rows row climbs behind =
    Climbs-append key_cmp key rows (row ∷ []) climbs (tt, tt)
    (λ v w h k. elim k [
      | inl e ↦ subst (λ z. key_cmp (key v) (key z) ≡ Less) (sym e) (behind-each key rows (key row) climbs behind v h)
      | inr none ↦ absurd none
    ])

-- no two have the same ids, with one more of other ids
pub others-push : (rows : List RankRow) (row : RankRow) → HaveOtherIds rows → AllByRecursion (λ other. AreOtherIds other.ids row.ids) rows → HaveOtherIds (rows ++ row ∷ [])
others-push [] row others apart = (tt, tt)
others-push (x ∷ xs) row others apart = (each-push (λ other. AreOtherIds x.ids other.ids) xs row others.0 apart.0, others-push xs row others.1 apart.1)

-- the first and the last key, with one more
last_from-push : (k : Key) (keys : List Key) (key : Key) → last_from k (keys ++ key ∷ []) ≡ key
last_from-push k [] key = refl
last_from-push k (next ∷ keys) key = last_from-push next keys key

drawn_of-push : (keys : List Key) (key : Key) → Some (drawn_with (drawn_of keys) key) ≡ drawn_of (keys ++ key ∷ [])
drawn_of-push [] key = refl
drawn_of-push (k ∷ keys) key = ap (λ last. Some (record { first = k; last = last })) (sym (last_from-push k keys key))

pub keys-push : (drawn : Option Drawn) (key : RankRow → Key) (rows : List RankRow) (row : RankRow) → drawn ≡ drawn_of (map key rows) → Some (drawn_with drawn (key row)) ≡ drawn_of (map key (rows ++ row ∷ []))
keys-push drawn key rows row e = ap (λ d. Some (drawn_with d (key row))) e ∙ drawn_of-push (map key rows) (key row) ∙ ap drawn_of (sym (map-append key rows (row ∷ [])))

-- rows of a side, by a block that is the same where there are any
pub rows-of_block : (j : Join) (block : ℕ) (side : Side) (rows : List RankRow) → AllByRecursion (IsRowOf j side) rows → ((z : RankRow) → In z rows → j.block ≡ block) → AllByRecursion (IsRowOf (record j { block = block }) side) rows
rows-of_block j block side rows each same =
    AllByRecursion-from_In (IsRowOf (record j { block = block }) side) rows
    (λ z h. let r = AllByRecursion-In (IsRowOf j side) rows each z h in record { ids = r.ids; entries = r.entries; block = r.block ∙ same z h; sum = r.sum })

-- the last key is that of the last row
last_from-map : (key : RankRow → Key) (x : RankRow) (xs : List RankRow) → last_from (key x) (map key xs) ≡ key (last_from x xs)
last_from-map key x [] = refl
last_from-map key x (y ∷ ys) = last_from-map key y ys

In-last_from : (x : RankRow) (xs : List RankRow) → In (last_from x xs) (x ∷ xs)
In-last_from x [] = inl refl
In-last_from x (y ∷ ys) = inr (In-last_from y ys)

-- a side with a row has a first and a last one
pub record HasEnds (key : RankRow → Key) (rows : List RankRow) (drawn : Drawn) : Type 0 where
  pub first : RankRow
  pub last : RankRow
  pub later : List RankRow
  pub is : rows ≡ first ∷ later
  pub in_last : In last rows
  pub first_key : drawn.first ≡ key first
  pub last_key : drawn.last ≡ key last

pub has-ends : (key : RankRow → Key) (rows : List RankRow) (drawn : Drawn) → Some drawn ≡ drawn_of (map key rows) → HasEnds key rows drawn
has-ends key [] drawn e = none_some e
  where
    none_some : {G : Type 0} → Some drawn ≡ None → G
    none_some f = cc
has-ends key (x ∷ xs) drawn e =
    let same : drawn ≡ record { first = key x; last = last_from (key x) (map key xs) } = cc in
    record {
      first = x;
      last = last_from x xs;
      later = xs;
      is = refl;
      in_last = In-last_from x xs;
      first_key = ap (λ (d : Drawn). d.first) same;
      last_key = ap (λ (d : Drawn). d.last) same ∙ last_from-map key x xs;
    }

-- a side with a row has a key
pub has_drawn-in : (key : RankRow → Key) (rows : List RankRow) (z : RankRow) → In z rows → HasDrawn (drawn_of (map key rows))
has_drawn-in key [] z h = h
has_drawn-in key (x ∷ xs) z h = tt

-- a side is asked only while it hasn't ended
pub not_left : (right : Option Key) (held : List (Key × RankRow)) → ask_between None right held ≡ NeedLeft → ⊥
not_left None [] e = cc
not_left (Some r) [] e = cc
not_left None (pair ∷ rest) e = cc
not_left (Some r) (pair ∷ rest) e = go (not (is_gt (key_cmp pair.0 r))) e
  where
    go : (b : Bool) → cond b Ready NeedRight ≡ NeedLeft → ⊥
    go true f = cc
    go false f = cc

pub not_right : (left : Option Key) (held : List (Key × RankRow)) → ask_between left None held ≡ NeedRight → ⊥
not_right None [] e = cc
not_right (Some l) [] e = cc
not_right None (pair ∷ rest) e = cc
not_right (Some l) (pair ∷ rest) e = go (not (is_gt (key_cmp pair.0 l))) e
  where
    go : (b : Bool) → cond (b && true) Ready NeedLeft ≡ NeedRight → ⊥
    go true f = cc
    go false f = cc

not_true : (b : Bool) → not b ≡ true → b ≡ false
not_true true e = cc
not_true false e = refl

-- what is at a threshold is at a later one
pub reached-later : (over : Bool) (k a b : Key) → is_reached (cond over None (Some a)) k ≡ true → key_cmp a b ≡ Less → is_reached (cond over None (Some b)) k ≡ true
reached-later true k a b e less = refl
reached-later false k a b e less = ap (λ r. not (is_gt r)) (cmp-behind-Less key_cmp key_cmp-total k a b (not_true (is_gt (key_cmp k a)) e) less)

-- and strictly before what lies behind it
pub reached-before : (k a b : Key) → is_reached (Some a) k ≡ true → key_cmp a b ≡ Less → key_cmp k b ≡ Less
reached-before k a b e less = cmp-behind-Less key_cmp key_cmp-total k a b (not_true (is_gt (key_cmp k a)) e) less

pub behind-test : (taken : Option Key) (key : Key) → IsBehind taken key → is_behind taken key ≡ true
behind-test None key behind = refl
behind-test (Some taken) key behind = ap is_lt behind
