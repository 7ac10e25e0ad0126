-- The questions of a set operator certify its rows, where those of its sides certify theirs: one core stands over both pairs of sides.
use Rattle.std.proofs.Common.{◌≡◌, ◌∙◌, ℕ, zero, suc, ◌+◌, ◌<◌, ◌≤◌, List, [], ◌∷◌, ◌++◌, length, map, take, Option, Some, None, refl, sym, ap, ap₂, subst, inl, inr, arith, append-nil}
use Rattle.std.proofs.lemmas.Bool.{cases_lt}
use Rattle.std.proofs.lemmas.List.{length-map, length-take, map-append}
use Rattle.std.proofs.lemmas.List.Elements.{filter-append}
use Rattle.std.proofs.lemmas.Option.{slice_get-map, slice_get_past, slice_get_within}
use Rattle.std.specs.List.{filter, slice_get}
use Rattle.std.specs.Option.{option_map}
use Rattle.rs_order.specs.Asks.{bar_after}
use Rattle.rs_order.specs.Schedule.{JoinSide, Left, Right, SideAsk, ask_numbers, asked, is_of_side, numbers_from}
use Rattle.rs_order.proofs.PartFacts.{bar_after-slice_get, slice_get-shared}
use Rattle.rs_order.proofs.ScheduleFacts.{asked-left, asked-right}
use Rattle.rs_rank.specs.SetTurns.{set_schedule}
use Rattle.rs_rank.specs.declared.ask.JoinAsk.{JoinAsk}
use Rattle.rs_rank.specs.declared.ask.JoinAsk.TheVariants.{NeedLeft, NeedRight, Ready, End}
use Rattle.rs_rank.specs.declared.row.RankRow.{RankRow}
use Rattle.rs_outputs.specs.Rows.{OutputRow}
use Rattle.rs_ripple.specs.Stands.{BeginsWith}
use Rattle.rs_ripple.proofs.ScheduleFacts.{BeginsWith-append, BeginsWith-itself, BeginsWith-more}
use Rattle.rs_setop.specs.Sides.{AreSides as AreSideRows, Sides, answers, keys_of, row_key, schedule_of}
use Rattle.rs_setop.proofs.HeadFacts.{Tells}
use Rattle.rs_setop.proofs.NextFacts.{one_more}
use Rattle.rs_value.specs.declared.set_op.SetOp.{SetOp}
use Rattle.rs_exec.specs.SetCores.{CoreStands, core_ask, left_in, new_core}
use Rattle.rs_exec.specs.Sides.{of_side}
use Rattle.rs_exec.specs.declared.set_core.SetCore.{SetCore}
use Rattle.rs_exec.proofs.CertifyJoinFacts.{IsNumbered, ask_at, asked-begun, length-one}
use Rattle.rs_exec.proofs.SetCoreFacts.{core-end, core-new, core-row, core-taken, core-tells, side_ended, side_fed}
use Rattle.rs_exec.proofs.SetMoreFacts.{schedule_of-goes_on}
use Rattle.rs_exec.proofs.SideFacts.{need_of}

-- lists that begin alike, and have the same item behind that
take-more : {X : Type 0} (n : ℕ) (xs ys : List X) → take n xs ≡ take n ys → slice_get xs n ≡ slice_get ys n → take (suc n) xs ≡ take (suc n) ys
take-more zero [] [] begin next = refl
take-more zero [] (y ∷ ys) begin next = absurd (cc)
take-more zero (x ∷ xs) [] begin next = absurd (cc)
take-more zero (x ∷ xs) (y ∷ ys) begin next = let same : x ≡ y = cc in ap (λ z. z ∷ []) same
take-more (suc n) [] [] begin next = refl
take-more (suc n) [] (y ∷ ys) begin next = absurd (cc)
take-more (suc n) (x ∷ xs) [] begin next = absurd (cc)
take-more (suc n) (x ∷ xs) (y ∷ ys) begin next =
    let same : x ≡ y = cc in
    let rest : take n xs ≡ take n ys = cc in
    ap₂ (λ z zs. z ∷ zs) same (take-more n xs ys rest next)

-- one more ask of a side keeps the asks numbered
numbers-last : (n count last : ℕ) → last ≡ n + count → numbers_from n (suc count) ≡ numbers_from n count ++ last ∷ []
numbers-last n zero last is = let same : n ≡ last = omega arith in ap (λ m. m ∷ []) same
numbers-last n (suc count) last is = ap (λ (rest : List ℕ). n ∷ rest) (numbers-last (suc n) count last (omega arith))

numbers-one : (side : JoinSide) (made : List SideAsk) (ask : SideAsk) → ask_numbers side (made ++ ask ∷ []) ≡ ask_numbers side made ++ ask_numbers side (ask ∷ [])
numbers-one side made ask =
    ap (map (λ (a : SideAsk). a.number)) (filter-append (is_of_side side) made (ask ∷ []))
    ∙ map-append (λ (a : SideAsk). a.number) (filter (is_of_side side) made) (filter (is_of_side side) (ask ∷ []))

numbered-own : (side : JoinSide) (made : List SideAsk) (numbers : List ℕ) → ask_numbers side (one_more side made) ≡ numbers ++ suc (asked side made) ∷ [] → numbers ≡ numbers_from 1 (asked side made)
    → asked side (one_more side made) ≡ suc (asked side made) → IsNumbered (one_more side made) side
numbered-own side made numbers all before count =
    all ∙ ap (λ (ns : List ℕ). ns ++ suc (asked side made) ∷ []) before ∙ sym (numbers-last 1 (asked side made) (suc (asked side made)) (omega arith)) ∙ ap (numbers_from 1) (sym count)

numbered-more : (side other : JoinSide) (made : List SideAsk) → IsNumbered made other → IsNumbered (one_more side made) other
numbered-more Left Left made is =
    numbered-own Left made (ask_numbers Left made) (numbers-one Left made (ask_at Left (suc (asked Left made)))) is (asked-left made (suc (asked Left made))).0
numbered-more Right Right made is =
    numbered-own Right made (ask_numbers Right made) (numbers-one Right made (ask_at Right (suc (asked Right made)))) is (asked-right made (suc (asked Right made))).1
numbered-more Left Right made is =
    numbers-one Right made (ask_at Left (suc (asked Left made))) ∙ append-nil (ask_numbers Right made) ∙ is ∙ ap (numbers_from 1) (sym (asked-left made (suc (asked Left made))).1)
numbered-more Right Left made is =
    numbers-one Left made (ask_at Right (suc (asked Right made))) ∙ append-nil (ask_numbers Left made) ∙ is ∙ ap (numbers_from 1) (sym (asked-right made (suc (asked Right made))).0)

asked-own : (side : JoinSide) (made : List SideAsk) → asked side (one_more side made) ≡ suc (asked side made)
asked-own Left made = (asked-left made (suc (asked Left made))).0
asked-own Right made = (asked-right made (suc (asked Right made))).1

abbrev rows_in : List OutputRow → List RankRow
rows_in all = map (λ (row : OutputRow). row.row) all

abbrev row_at : List OutputRow → ℕ → Option RankRow
row_at all n = option_map (λ (row : OutputRow). row.row) (slice_get all n)

-- one operator over two pairs of sides
module _ (s : Sides) (o : SetOp) (lefts rights lefts' rights' : List OutputRow) (input : AreSideRows s lefts rights) (input' : AreSideRows s lefts' rights') where
  abbrev given : List OutputRow
  given = answers s o lefts rights

  abbrev given' : List OutputRow
  given' = answers s o lefts' rights'

  -- its core stands alike over both
  pub record BothStand (made : List SideAsk) (count : ℕ) : Type 0 where
    pub core : SetCore
    pub stands : CoreStands s o lefts rights made count core
    pub stands' : CoreStands s o lefts' rights' made count core

  -- what both have for as many answers
  pub record SetShare (n : ℕ) : Type 0 where
    pub rows : take n (map (λ (row : OutputRow). row.row) (answers s o lefts rights)) ≡ take n (map (λ (row : OutputRow). row.row) (answers s o lefts' rights'))
    pub asks : schedule_of s o lefts rights n ≡ schedule_of s o lefts' rights' n
    pub numbered : (side : JoinSide) → IsNumbered (schedule_of s o lefts rights n) side
    pub both : n ≤ length (answers s o lefts rights) → BothStand (schedule_of s o lefts rights n) n

  -- and for the next one
  record ShareNext (n : ℕ) : Type 0 where
    row : row_at given n ≡ row_at given' n
    asks : schedule_of s o lefts rights (suc n) ≡ schedule_of s o lefts' rights' (suc n)
    numbered : (side : JoinSide) → IsNumbered (schedule_of s o lefts rights (suc n)) side
    both : suc n ≤ length given → BothStand (schedule_of s o lefts rights (suc n)) (suc n)

  -- the sides begin alike as far as they are asked
  abbrev pub AreShared : ℕ → Type 0
  AreShared n = (side : JoinSide) (i : ℕ) → i ≤ asked side (schedule_of s o lefts rights n) → take i (of_side lefts rights side) ≡ take i (of_side lefts' rights' side)

  -- one more row of a side, or its end
  fed : (made : List SideAsk) (count : ℕ) (both : BothStand made count) (side : JoinSide) → core_ask both.core ≡ need_of side
      → take (suc (asked side made)) (of_side lefts rights side) ≡ take (suc (asked side made)) (of_side lefts' rights' side) → BothStand (one_more side made) count
  fed made count both side need same =
      go (slice_get (of_side lefts rights side) (asked side made)) refl (sym (slice_get-shared (asked side made) (of_side lefts rights side) (of_side lefts' rights' side) same))
    where
      go : (row : Option OutputRow) → slice_get (of_side lefts rights side) (asked side made) ≡ row → slice_get (of_side lefts' rights' side) (asked side made) ≡ slice_get (of_side lefts rights side) (asked side made)
          → BothStand (one_more side made) count
      go (Some row) here there = record {
        core = side_fed side row.row row.values both.core;
        stands = (core-row s o lefts rights made count both.core both.stands side need row here).1;
        stands' = (core-row s o lefts' rights' made count both.core both.stands' side need row (there ∙ here)).1;
      }
      go None here there = record {
        core = side_ended side both.core;
        stands = core-end s o lefts rights made count both.core both.stands side need here;
        stands' = core-end s o lefts' rights' made count both.core both.stands' side need (there ∙ here);
      }

  -- what the core does next tells the same of both
  module _ (n : ℕ) (made : List SideAsk) (numbered : (side : JoinSide) → IsNumbered made side) (both : BothStand made n) where
    told : (ask : JoinAsk) → core_ask both.core ≡ ask → Tells s o lefts rights made n ask
    told ask is = subst (Tells s o lefts rights made n) is (core-tells s o lefts rights made n both.core both.stands)

    told' : (ask : JoinAsk) → core_ask both.core ≡ ask → Tells s o lefts' rights' made n ask
    told' ask is = subst (Tells s o lefts' rights' made n) is (core-tells s o lefts' rights' made n both.core both.stands')

    by-ask : ((side : JoinSide) → core_ask both.core ≡ need_of side → slice_get (schedule_of s o lefts rights (suc n)) (length made) ≡ Some (ask_at side (suc (asked side made))) → ShareNext n)
        → (ask : JoinAsk) → core_ask both.core ≡ ask → ShareNext n
    by-ask again NeedLeft is = again Left is (told NeedLeft is)
    by-ask again NeedRight is = again Right is (told NeedRight is)
    by-ask again Ready is =
        let one = told Ready is in
        let two = told' Ready is in
        let taken = core-taken s o lefts rights made n both.core both.stands is in
        let taken' = core-taken s o lefts' rights' made n both.core both.stands' is in
        record {
          row = sym taken.0 ∙ taken'.0;
          asks = sym one.0 ∙ two.0;
          numbered = λ side. subst (λ (asks : List SideAsk). IsNumbered asks side) one.0 (numbered side);
          both = λ le. subst (λ (asks : List SideAsk). BothStand asks (suc n)) one.0 (record { core = left_in both.core; stands = taken.1; stands' = taken'.1 });
        }
    by-ask again End is =
        let one = told End is in
        let two = told' End is in
        let count = one.1 in
        let count' = two.1 in
        record {
          row = ap (option_map (λ (row : OutputRow). row.row)) (slice_get_past given n (omega arith) ∙ sym (slice_get_past given' n (omega arith)));
          asks = sym one.0 ∙ two.0;
          numbered = λ side. subst (λ (asks : List SideAsk). IsNumbered asks side) one.0 (numbered side);
          both = λ le. absurd (omega arith);
        }

  -- ask by ask up to the next answer
  walk : (fuel n : ℕ) (made : List SideAsk) → AreShared (suc n) → BeginsWith (schedule_of s o lefts rights (suc n)) made → length (schedule_of s o lefts rights (suc n)) ≤ length made + fuel
      → ((side : JoinSide) → IsNumbered made side) → BothStand made n → ShareNext n
  walk zero n made shared begins most numbered both =
      by-ask n made numbered both
      (λ side need there. let within = slice_get_within (schedule_of s o lefts rights (suc n)) (length made) (ask_at side (suc (asked side made))) there in absurd (omega arith))
      (core_ask both.core) refl
  walk (suc fuel) n made shared begins most numbered both =
      by-ask n made numbered both
      (λ side need there.
      let asks = schedule_of s o lefts rights (suc n) in
      let ask = ask_at side (suc (asked side made)) in
      let more = BeginsWith-more asks made ask begins there in
      let count = asked-own side made in
      let within = asked-begun asks (one_more side made) side more in
      let grown = length-one made ask in
      walk fuel n (one_more side made) shared more (omega arith) (λ other. numbered-more side other made (numbered other))
      (fed made n both side need (shared side (suc (asked side made)) (omega arith))))
      (core_ask both.core) refl

  begins : (n : ℕ) → BeginsWith (schedule_of s o lefts rights (suc n)) (schedule_of s o lefts rights n)
  begins n =
      let front = schedule_of s o lefts rights n in
      let on = schedule_of-goes_on s o lefts rights input n in
      subst (λ (asks : List SideAsk). BeginsWith asks front) (sym on.split) (BeginsWith-append front front on.more (BeginsWith-itself front))

  -- beyond the last answer no more is asked
  past-same : (ls rs : List OutputRow) (m : ℕ) → length (answers s o ls rs) ≤ m → schedule_of s o ls rs (suc (suc m)) ≡ schedule_of s o ls rs (suc m)
  past-same ls rs m past =
      ap (set_schedule o (keys_of s ls) (keys_of s rs)) (bar-past (suc m) (omega arith) ∙ sym (bar-past m past))
    where
      bar-past : (n : ℕ) → length (answers s o ls rs) ≤ n → bar_after (row_key s) (answers s o ls rs) n ≡ None
      bar-past n over = bar_after-slice_get (row_key s) (answers s o ls rs) n ∙ ap (option_map (row_key s)) (slice_get_past (answers s o ls rs) n over)

  beyond : (n : ℕ) → length given < n → SetShare n → ShareNext n
  beyond zero past before = absurd (omega arith)
  beyond (suc m) past before =
      let one = length-map given (λ (row : OutputRow). row.row) in
      let two = length-map given' (λ (row : OutputRow). row.row) in
      let first = length-take (suc m) (rows_in given) in
      let first' = length-take (suc m) (rows_in given') in
      let same : length (take (suc m) (rows_in given)) ≡ length (take (suc m) (rows_in given')) = ap (λ (rows : List RankRow). length rows) before.rows in
      let end = past-same lefts rights m (omega arith) in
      let end' = past-same lefts' rights' m (omega arith) in
      record {
        row = ap (option_map (λ (row : OutputRow). row.row)) (slice_get_past given (suc m) (omega arith) ∙ sym (slice_get_past given' (suc m) (omega arith)));
        asks = end ∙ before.asks ∙ sym end';
        numbered = λ side. subst (λ (asks : List SideAsk). IsNumbered asks side) (sym end) (before.numbered side);
        both = λ le. absurd (omega arith);
      }

  share-next : (n : ℕ) → AreShared (suc n) → SetShare n → ShareNext n
  share-next n shared before =
      elim (cases_lt (length given) n) [
        | inl past ↦ beyond n past before
        | inr within ↦
            walk (length (schedule_of s o lefts rights (suc n))) n (schedule_of s o lefts rights n) shared (begins n) (omega arith) before.numbered (before.both (omega arith))
      ]

  -- sides that begin alike as far as they are asked for some answers give the same ones
  pub set-shared : (n : ℕ) → AreShared n → SetShare n
  set-shared zero shared = record {
    rows = refl;
    asks = refl;
    numbered = λ side. refl;
    both = λ le. record { core = new_core o s.weights s.terms; stands = core-new s o lefts rights input; stands' = core-new s o lefts' rights' input' };
  }
  set-shared (suc n) shared =
      let before = set-shared n (λ side i le. let less = asked-begun (schedule_of s o lefts rights (suc n)) (schedule_of s o lefts rights n) side (begins n) in shared side i (omega arith)) in
      let next = share-next n shared before in
      record {
        rows = take-more n (rows_in given) (rows_in given') before.rows
            (slice_get-map (λ (row : OutputRow). row.row) given n ∙ next.row ∙ sym (slice_get-map (λ (row : OutputRow). row.row) given' n));
        asks = next.asks;
        numbered = next.numbered;
        both = next.both;
      }
