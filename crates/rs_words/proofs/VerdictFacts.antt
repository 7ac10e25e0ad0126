-- A certificate has one verdict, and a file is one certificate, or none from one record on.
use Rattle.std.proofs.Common.{ℕ, zero, suc, ◌≡◌, ◌∙◌, ◌⊎◌, ◌+◌, ◌-◌, ◌<◌, ◌≤◌, Bool, true, false, List, [], ◌∷◌, ◌++◌, length, take, Option, Some, None, Result, Ok, Err, refl, sym, ap, subst, inl, inr, append_assoc, append-nil, arith}
use Rattle.std.proofs.lemmas.Bool.{true≢false}
use Rattle.std.proofs.lemmas.List.{length-append, take-append-le, take-take, take_all}
use Rattle.std.specs.Ordering.{flip_args, nat_cmp}
use Rattle.rs_value.specs.Results.{◌>>=◌}
use Rattle.rs_feed.specs.declared.feed_row.FeedRow.{FeedRow}
use Rattle.rs_cert.specs.declared.cert.Cert.{Cert}
use Rattle.rs_cert.specs.declared.fault.CertFault.{CertFault}
use Rattle.rs_cert.specs.declared.fault.CertFault.TheVariants.{Form, Memory}
use Rattle.rs_cert.specs.declared.verdict.Verdict.{Verdict}
use Rattle.rs_cert.specs.declared.verdict.Verdict.TheVariants.{Yes, Order, Pairs, Short, Left, Right}
use Rattle.rs_lines.specs.Records.{Fields}
use Rattle.rs_cert.specs.Good.{FallsOnBothSides, HasEnough, HasFirstPairs, IsAtOrBefore, LeftIsReached, RightIsReached, answers_of, first_answers, no_pair_can_come}
use Rattle.rs_cert.specs.Growing.{cert_of, new_cert, next_cert, or_form, with_records}
use Rattle.rs_cert.specs.Pairs.{Answer, numbers_of}
use Rattle.rs_cert.specs.Records.{AreRecordsOf, IsFirstStrange, IsForm, IsRead, entry_of, wanted_of}
use Rattle.rs_cert.specs.Rows.{Falls, RisesFirstAt, rises}
use Rattle.rs_cert.specs.Verdicts.{IsVerdict, RisesOn, on_left, on_right}
use Rattle.rs_cert.proofs.CertFacts.{cert_of-read}
use Rattle.rs_cert.proofs.RowFacts.{Falls-push, falls-next, score_before}
use Rattle.rs_order.specs.Climbing.{IsNoLater}
use Rattle.rs_order.proofs.EachFacts.{each-take}

-- numbers of which neither is the lesser one
same-number : (m n : ℕ) → (m < n → ⊥) → (n < m → ⊥) → m ≡ n
same-number zero zero f g = refl
same-number zero (suc n) f g = absurd (f (omega arith))
same-number (suc m) zero f g = absurd (g (omega arith))
same-number (suc m) (suc n) f g = ap suc (same-number m n (λ h. f (omega (arith, h))) (λ h. g (omega (arith, h))))

-- the first rows of some whose scores fall
Falls-take : (n : ℕ) (rows : List FeedRow) → Falls rows → Falls (take n rows)
Falls-take zero rows falls = tt
Falls-take (suc n) [] falls = tt
Falls-take (suc n) (row ∷ rows) falls =
    (each-take (IsNoLater (flip_args nat_cmp) (λ (r : FeedRow). r.score) row) n rows falls.0, Falls-take n rows falls.1)

-- the first row that rises, if one does
take-front : (front rest : List FeedRow) → take (length front) (front ++ rest) ≡ front
take-front front rest = take-append-le (length front) front rest (omega arith) ∙ take_all (length front) front (omega arith)

rise-behind : (front rest : List FeedRow) → Falls front → Falls (front ++ rest) ⊎ ((n : ℕ) × RisesFirstAt (front ++ rest) n)
rise-behind front [] falls = inl (subst Falls (sym (append-nil front)) falls)
rise-behind front (row ∷ rest) falls = go (rises (score_before front) row.score) refl (λ more. rise-behind (front ++ row ∷ []) rest more) where
  whole : (front ++ row ∷ []) ++ rest ≡ front ++ row ∷ rest
  whole = append_assoc front (row ∷ []) rest

  go : (rise : Bool) → rises (score_before front) row.score ≡ rise
      → (Falls (front ++ row ∷ []) → Falls ((front ++ row ∷ []) ++ rest) ⊎ ((n : ℕ) × RisesFirstAt ((front ++ row ∷ []) ++ rest) n))
      → Falls (front ++ row ∷ rest) ⊎ ((n : ℕ) × RisesFirstAt (front ++ row ∷ rest) n)
  go false e further = subst (λ rows. Falls rows ⊎ ((n : ℕ) × RisesFirstAt rows n)) whole (further (Falls-push front row falls e))
  go true e further = inr (
    length (front ++ row ∷ []),
    record {
      before =
          let number : length (front ++ row ∷ []) - 1 ≡ length front = let size = length-append front (row ∷ []) in omega (arith, size) in
          subst Falls (sym (ap (λ n. take n (front ++ row ∷ rest)) number ∙ take-front front (row ∷ rest))) falls;
      there = λ more.
          let next : Falls (front ++ row ∷ []) = subst Falls (ap (take (length (front ++ row ∷ []))) (sym whole) ∙ take-front (front ++ row ∷ []) rest) more in
          true≢false (sym e ∙ falls-next front row next);
    },
  )

some-rise : (rows : List FeedRow) → Falls rows ⊎ ((n : ℕ) × RisesFirstAt rows n)
some-rise rows = rise-behind [] rows tt

-- and no other
unrisen-row : (rows : List FeedRow) (n : ℕ) → Falls rows → RisesFirstAt rows n → ⊥
unrisen-row rows n falls rise = rise.there (Falls-take n rows falls)

not-before : (rows : List FeedRow) (a b : ℕ) → RisesFirstAt rows a → RisesFirstAt rows b → a < b → ⊥
not-before rows a b x y less =
    let within : a ≤ b - 1 = omega arith in
    x.there (subst Falls (take-take a (b - 1) rows within) (Falls-take a (take (b - 1) rows) y.before))

rise-one : (rows : List FeedRow) (a b : ℕ) → RisesFirstAt rows a → RisesFirstAt rows b → a ≡ b
rise-one rows a b x y = same-number a b (not-before rows a b x y) (not-before rows b a y x)

unrisen : (cert : Cert) (side row : ℕ) → FallsOnBothSides cert → RisesOn cert side row → ⊥
unrisen cert _ _ falls (on_left row rise) = unrisen-row cert.left.rows row falls.left rise
unrisen cert _ _ falls (on_right row left rise) = unrisen-row cert.right.rows row falls.right rise

rises-one : (cert : Cert) (side row other number : ℕ) → RisesOn cert side row → RisesOn cert other number → Order side row ≡ Order other number
rises-one cert _ _ _ _ (on_left row rise) (on_left number also) = ap (λ n. Order 1 n) (rise-one cert.left.rows row number rise also)
rises-one cert _ _ _ _ (on_left row rise) (on_right number left also) = absurd (unrisen-row cert.left.rows row left rise)
rises-one cert _ _ _ _ (on_right row left rise) (on_left number also) = absurd (unrisen-row cert.left.rows number left also)
rises-one cert _ _ _ _ (on_right row left rise) (on_right number also_left also) = ap (λ n. Order 2 n) (rise-one cert.right.rows row number rise also)

-- a certificate has one verdict at most
pub one-verdict : (cert : Cert) (a b : Verdict) → IsVerdict cert a → IsVerdict cert b → a ≡ b
one-verdict cert (Order a_side a_row) (Order b_side b_row) g h = rises-one cert a_side a_row b_side b_row g h
one-verdict cert (Order a_side a_row) Pairs g h = absurd (unrisen cert a_side a_row h.0 g)
one-verdict cert (Order a_side a_row) Short g h = absurd (unrisen cert a_side a_row h.0 g)
one-verdict cert (Order a_side a_row) Left g h = absurd (unrisen cert a_side a_row h.0 g)
one-verdict cert (Order a_side a_row) Right g h = absurd (unrisen cert a_side a_row h.0 g)
one-verdict cert (Order a_side a_row) Yes g h = absurd (unrisen cert a_side a_row h.falls g)
one-verdict cert Pairs (Order b_side b_row) g h = absurd (unrisen cert b_side b_row g.0 h)
one-verdict cert Pairs Pairs g h = refl
one-verdict cert Pairs Short g h = absurd (g.1 h.1)
one-verdict cert Pairs Left g h = absurd (g.1 h.1)
one-verdict cert Pairs Right g h = absurd (g.1 h.1)
one-verdict cert Pairs Yes g h = absurd (g.1 h.pairs)
one-verdict cert Short (Order b_side b_row) g h = absurd (unrisen cert b_side b_row g.0 h)
one-verdict cert Short Pairs g h = absurd (h.1 g.1)
one-verdict cert Short Short g h = refl
one-verdict cert Short Left g h = absurd (g.2 h.2)
one-verdict cert Short Right g h = absurd (g.2 h.2)
one-verdict cert Short Yes g h = absurd (g.2 h.enough)
one-verdict cert Left (Order b_side b_row) g h = absurd (unrisen cert b_side b_row g.0 h)
one-verdict cert Left Pairs g h = absurd (h.1 g.1)
one-verdict cert Left Short g h = absurd (h.2 g.2)
one-verdict cert Left Left g h = refl
one-verdict cert Left Right g h = absurd (g.3 h.3)
one-verdict cert Left Yes g h = absurd (g.3 h.left)
one-verdict cert Right (Order b_side b_row) g h = absurd (unrisen cert b_side b_row g.0 h)
one-verdict cert Right Pairs g h = absurd (h.1 g.1)
one-verdict cert Right Short g h = absurd (h.2 g.2)
one-verdict cert Right Left g h = absurd (h.3 g.3)
one-verdict cert Right Right g h = refl
one-verdict cert Right Yes g h = absurd (g.4 h.right)
one-verdict cert Yes (Order b_side b_row) g h = absurd (unrisen cert b_side b_row g.falls h)
one-verdict cert Yes Pairs g h = absurd (h.1 g.pairs)
one-verdict cert Yes Short g h = absurd (h.2 g.enough)
one-verdict cert Yes Left g h = absurd (h.3 g.left)
one-verdict cert Yes Right g h = absurd (h.4 g.right)
one-verdict cert Yes Yes g h = refl

-- each part of a verdict holds or doesn't
abbrev Decided : Type 0 → Type 0
Decided P = P ⊎ (P → ⊥)

decided-bool : (a b : Bool) → Decided (a ≡ b)
decided-bool true true = inl refl
decided-bool true false = inr (λ e. absurd cc)
decided-bool false true = inr (λ e. absurd cc)
decided-bool false false = inl refl

decided-nat : (m n : ℕ) → Decided (m ≡ n)
decided-nat zero zero = inl refl
decided-nat zero (suc n) = inr (λ e. absurd (omega (arith, e)))
decided-nat (suc m) zero = inr (λ e. absurd (omega (arith, e)))
decided-nat (suc m) (suc n) = elim (decided-nat m n) [ inl e ↦ inl (ap suc e) | inr never ↦ inr (λ e. never (let same : m ≡ n = omega (arith, e) in same)) ]

decided-most : (m n : ℕ) → (m ≤ n) ⊎ (n < m)
decided-most zero n = inl (omega arith)
decided-most (suc m) zero = inr (omega arith)
decided-most (suc m) (suc n) = elim (decided-most m n) [ inl e ↦ inl (omega (arith, e)) | inr e ↦ inr (omega (arith, e)) ]

decided-pairs : (xs ys : List (ℕ × ℕ)) → Decided (xs ≡ ys)
decided-pairs [] [] = inl refl
decided-pairs [] (y ∷ ys) = inr (λ e. absurd cc)
decided-pairs (x ∷ xs) [] = inr (λ e. absurd cc)
decided-pairs (x ∷ xs) (y ∷ ys) = go (decided-nat x.0 y.0) (decided-nat x.1 y.1) (decided-pairs xs ys) where
  first : x ∷ xs ≡ y ∷ ys → x ≡ y
  first e = cc

  rest : x ∷ xs ≡ y ∷ ys → xs ≡ ys
  rest e = cc

  go : Decided (x.0 ≡ y.0) → Decided (x.1 ≡ y.1) → Decided (xs ≡ ys) → Decided (x ∷ xs ≡ y ∷ ys)
  go (inl e) (inl f) (inl g) = inl (ap (λ n. (n, x.1) ∷ xs) e ∙ ap (λ n. (y.0, n) ∷ xs) f ∙ ap (λ list. y ∷ list) g)
  go (inr never) f g = inr (λ e. never (ap (λ (p : ℕ × ℕ). p.0) (first e)))
  go (inl e) (inr never) g = inr (λ e. never (ap (λ (p : ℕ × ℕ). p.1) (first e)))
  go (inl e) (inl f) (inr never) = inr (λ e. never (rest e))

decided-first : (cert : Cert) → Decided (HasFirstPairs cert)
decided-first cert = go (decided-pairs cert.pairs (numbers_of (first_answers cert))) (decided-most (length cert.pairs) cert.k) where
  go : Decided (cert.pairs ≡ numbers_of (first_answers cert)) → (length cert.pairs ≤ cert.k) ⊎ (cert.k < length cert.pairs) → Decided (HasFirstPairs cert)
  go (inl first) (inl most) = inl (record { first = first; most = most })
  go (inr never) most = inr (λ has. never has.first)
  go (inl first) (inr many) = inr (λ has. absurd (omega (arith, many, has.most)))

decided-enough : (cert : Cert) → Decided (HasEnough cert)
decided-enough cert = go (decided-most cert.k (length cert.pairs)) (decided-nat (length (answers_of cert)) (length cert.pairs)) (decided-bool (no_pair_can_come cert) true) where
  go : (cert.k ≤ length cert.pairs) ⊎ (length cert.pairs < cert.k) → Decided (length (answers_of cert) ≡ length cert.pairs) → Decided (no_pair_can_come cert ≡ true) → Decided (HasEnough cert)
  go (inl enough) all ended = inl (λ fewer. absurd (omega (arith, enough, fewer)))
  go (inr fewer) (inl all) (inl ended) = inl (λ _. record { all = all; ended = ended })
  go (inr fewer) (inr never) ended = inr (λ has. never (has fewer).all)
  go (inr fewer) (inl all) (inr never) = inr (λ has. never (has fewer).ended)

decided-at : (pair : Option Answer) (i : ℕ) (left : Option FeedRow) (j : ℕ) (right : Option FeedRow) → Decided (IsAtOrBefore pair i left j right)
decided-at None i left j right = inl tt
decided-at (Some pair) i None j right = inl tt
decided-at (Some pair) i (Some left) j None = inl tt
decided-at (Some pair) i (Some left) j (Some right) = decided-bool _ false

decided-where : (ended : Bool) {P : Type 0} → Decided P → Decided (ended ≡ false → P)
decided-where true decided = inl (λ e. absurd cc)
decided-where false (inl p) = inl (λ _. p)
decided-where false (inr never) = inr (λ has. never (has refl))

-- so it has one
pub some-verdict : (cert : Cert) → (verdict : Verdict) × IsVerdict cert verdict
some-verdict cert = on (some-rise cert.left.rows) (some-rise cert.right.rows) where
  reached : FallsOnBothSides cert → HasFirstPairs cert → HasEnough cert → Decided (LeftIsReached cert) → Decided (RightIsReached cert) → (verdict : Verdict) × IsVerdict cert verdict
  reached falls first enough (inr never) right = (Left, (falls, first, enough, never))
  reached falls first enough (inl left) (inr never) = (Right, (falls, first, enough, left, never))
  reached falls first enough (inl left) (inl right) = (Yes, record { falls = falls; pairs = first; enough = enough; left = left; right = right })

  claimed : FallsOnBothSides cert → Decided (HasFirstPairs cert) → Decided (HasEnough cert) → (verdict : Verdict) × IsVerdict cert verdict
  claimed falls (inr never) enough = (Pairs, (falls, never))
  claimed falls (inl first) (inr never) = (Short, (falls, first, never))
  claimed falls (inl first) (inl enough) = reached falls first enough (decided-where cert.left.ended (decided-at _ _ _ _ _)) (decided-where cert.right.ended (decided-at _ _ _ _ _))

  on : Falls cert.left.rows ⊎ ((n : ℕ) × RisesFirstAt cert.left.rows n) → Falls cert.right.rows ⊎ ((n : ℕ) × RisesFirstAt cert.right.rows n) → (verdict : Verdict) × IsVerdict cert verdict
  on (inr rise) right = (Order 1 rise.0, on_left rise.0 rise.1)
  on (inl left) (inr rise) = (Order 2 rise.0, on_right rise.0 left rise.1)
  on (inl left) (inl right) = claimed (record { left = left; right = right }) (decided-first cert) (decided-enough cert)

-- the definition of what records are never says that there was no memory
formed : {T : Type 0} (place : ℕ) (o : Option T) → or_form place o ≡ Err Memory → ⊥
formed place None e = cc
formed place (Some said) e = cc

all-formed : (records : List Fields) (place : ℕ) (cert : Cert) → with_records place cert records ≡ Err Memory → ⊥
all-formed [] place cert e = cc
all-formed (fields ∷ rest) place cert e = of (λ more. all-formed rest (place + 1) more) (next_cert cert) (entry_of fields) e where
  next : ((more : Cert) → with_records (place + 1) more rest ≡ Err Memory → ⊥) → (o : Option Cert) → (or_form place o >>= (λ more. with_records (place + 1) more rest)) ≡ Err Memory → ⊥
  next again None e = cc
  next again (Some more) e = again more e

  of : {E : Type 0} → ((more : Cert) → with_records (place + 1) more rest ≡ Err Memory → ⊥) → (after : E → Option Cert) → (o : Option E)
      → ((or_form place o >>= (λ entry. or_form place (after entry))) >>= (λ more. with_records (place + 1) more rest)) ≡ Err Memory → ⊥
  of again after None e = cc
  of again after (Some entry) e = next again (after entry) e

cert-formed : (records : List Fields) → cert_of records ≡ Err Memory → ⊥
cert-formed [] e = cc
cert-formed (first ∷ rest) e = of (wanted_of first) e where
  of : (o : Option ℕ) → (or_form 1 o >>= (λ wanted. with_records 2 (new_cert wanted) rest)) ≡ Err Memory → ⊥
  of None e = cc
  of (Some wanted) e = all-formed rest 2 (new_cert wanted) e

-- records are those of a certificate, or of none from some record on
pub some-read : (records : List Fields) → ((cert : Cert) × AreRecordsOf cert records) ⊎ ((place : ℕ) × IsForm records place)
some-read records = of (cert_of records) refl (cert_of-read records) where
  of : (result : Result Cert CertFault) → cert_of records ≡ result → IsRead records result → ((cert : Cert) × AreRecordsOf cert records) ⊎ ((place : ℕ) × IsForm records place)
  of (Ok cert) e is = inl (cert, is)
  of (Err (Form place)) e is = inr (place, is)
  of (Err Memory) e is = absurd (cert-formed records e)

-- this record is one alone
strange-not_before : (records : List Fields) (a b : ℕ) → IsFirstStrange records a → IsFirstStrange records b → a < b → ⊥
strange-not_before records a b x y less = x.here (y.before a less)

pub one-form : (records : List Fields) (a b : ℕ) → IsForm records a → IsForm records b → a ≡ b
one-form [] a b x y = x ∙ sym y
one-form (first ∷ rest) a b x y = same-number a b (strange-not_before (first ∷ rest) a b x y) (strange-not_before (first ∷ rest) b a y x)
