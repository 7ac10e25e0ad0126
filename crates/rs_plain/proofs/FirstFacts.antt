-- Lists of output values, and the first row of each.
use Rattle.std.proofs.Common.{ℕ, ◌≡◌, ◌∙◌, ◌+◌, ◌<◌, ◌++◌, ◌||◌, Bool, true, false, not, List, [], ◌∷◌, length, map, take, get_or, refl, sym, ap, subst, append-nil, if◌then◌else◌}
use Rattle.std.specs.List.{filter}
use Rattle.std.proofs.lemmas.List.{map-append, take_more}
use Rattle.std.proofs.lemmas.List.Elements.{filter-append}
use Rattle.rs_value.specs.declared.value.Value.{Value}
use Rattle.rs_rank.specs.declared.answer.Answer.{Answer}
use Rattle.rs_query.specs.Answers.{firsts, occurs_in, others}
use Rattle.rs_outputs.specs.Seen.{has_list, same_values, with_list}
use Rattle.rs_outputs.proofs.FirstFacts.{has_list-more}
use Rattle.rs_outputs.proofs.SameFacts.{same_values-same, same_values-sym}

-- a test of the lists of some rows is one of the rows
pub has_list-rows : (rows : List Answer) (row : Answer) → has_list row.values (map (λ (other : Answer). other.values) rows) ≡ occurs_in rows row
has_list-rows [] row = refl
has_list-rows (first ∷ rows) row =
    ap (λ b. b || has_list row.values (map (λ (other : Answer). other.values) rows)) (same_values-sym row.values first.values)
    ∙ ap (λ b. same_values first.values row.values || b) (has_list-rows rows row)

-- what one more row has
pub has_list-rows_more : (rows : List Answer) (i : ℕ) (row : Answer) (values : List Value) → i < length rows → row ≡ get_or rows i row
    → has_list values (map (λ (other : Answer). other.values) (take (i + 1) rows)) ≡ (has_list values (map (λ (other : Answer). other.values) (take i rows)) || same_values values row.values)
has_list-rows_more rows i row values within is =
    ap (λ some. has_list values (map (λ (other : Answer). other.values) some)) (take_more rows i row within ∙ ap (λ last. take i rows ++ last ∷ []) (sym is))
    ∙ ap (has_list values) (map-append (λ (other : Answer). other.values) (take i rows) (row ∷ []))
    ∙ has_list-more values row.values (map (λ (other : Answer). other.values) (take i rows))

-- dropping rows of other values changes nothing
occurs_in-others : (first : Answer) (rows : List Answer) (row : Answer) → same_values first.values row.values ≡ false → occurs_in (others first rows) row ≡ occurs_in rows row
occurs_in-others first [] row other = refl
occurs_in-others first (next ∷ rows) row other = go (same_values first.values next.values) refl (occurs_in-others first rows row other) where
  go : (b : Bool) → same_values first.values next.values ≡ b → occurs_in (others first rows) row ≡ occurs_in rows row
      → occurs_in (if not b then next ∷ others first rows else others first rows) row ≡ (same_values next.values row.values || occurs_in rows row)
  go true same behind =
      let is : first.values ≡ next.values = same_values-same first.values next.values same in
      let differs : same_values next.values row.values ≡ false = ap (λ v. same_values v row.values) (sym is) ∙ other in
      behind ∙ ap (λ b. b || occurs_in rows row) (sym differs)
  go false same behind = ap (λ b. same_values next.values row.values || b) behind

-- the first rows have the lists of all
occurs_in-firsts : (rows : List Answer) (row : Answer) → occurs_in (firsts rows) row ≡ occurs_in rows row
occurs_in-firsts [] row = refl
occurs_in-firsts (first ∷ rows) row = go (same_values first.values row.values) refl (occurs_in-firsts rows row) where
  go : (b : Bool) → same_values first.values row.values ≡ b → occurs_in (firsts rows) row ≡ occurs_in rows row → (b || occurs_in (others first (firsts rows)) row) ≡ (b || occurs_in rows row)
  go true same behind = refl
  go false other behind = occurs_in-others first (firsts rows) row other ∙ behind

-- one more row joins the first ones where its list is a new one
firsts-push : (rows : List Answer) (row : Answer) → firsts (rows ++ row ∷ []) ≡ (if occurs_in rows row then firsts rows else firsts rows ++ row ∷ [])
firsts-push [] row = refl
firsts-push (first ∷ rows) row = go (same_values first.values row.values) (occurs_in rows row) refl (firsts-push rows row) where
  go : (s h : Bool) → same_values first.values row.values ≡ s → firsts (rows ++ row ∷ []) ≡ (if h then firsts rows else firsts rows ++ row ∷ [])
      → (first ∷ others first (firsts (rows ++ row ∷ []))) ≡ (if s || h then first ∷ others first (firsts rows) else first ∷ (others first (firsts rows) ++ row ∷ []))
  go true true same pushed = ap (λ kept. first ∷ others first kept) pushed
  go false true same pushed = ap (λ kept. first ∷ others first kept) pushed
  go true false same pushed =
      ap (λ kept. first ∷ others first kept) pushed
      ∙ ap (λ kept. first ∷ kept) (filter-append (λ (other : Answer). not (same_values first.values other.values)) (firsts rows) (row ∷ [])
      ∙ ap (λ b. others first (firsts rows) ++ (if not b then row ∷ [] else [])) same ∙ append-nil (others first (firsts rows)))
  go false false same pushed =
      ap (λ kept. first ∷ others first kept) pushed
      ∙ ap (λ kept. first ∷ kept) (filter-append (λ (other : Answer). not (same_values first.values other.values)) (firsts rows) (row ∷ [])
      ∙ ap (λ b. others first (firsts rows) ++ (if not b then row ∷ [] else [])) same)

-- the rows that were kept are the first ones, and their lists were seen
pub record AreKept (rows kept : List Answer) (lists : List (List Value)) : Type 0 where
  pub first : kept ≡ firsts rows
  pub seen : lists ≡ map (λ (row : Answer). row.values) kept

has_list-kept : (rows kept : List Answer) (lists : List (List Value)) (row : Answer) → AreKept rows kept lists → has_list row.values lists ≡ occurs_in rows row
has_list-kept rows kept lists row are =
    ap (has_list row.values) are.seen ∙ has_list-rows kept row ∙ ap (λ some. occurs_in some row) are.first ∙ occurs_in-firsts rows row

-- a row of a new list is kept
pub AreKept-new : (rows kept : List Answer) (lists : List (List Value)) (row : Answer) → AreKept rows kept lists → has_list row.values lists ≡ false
    → AreKept (rows ++ row ∷ []) (kept ++ row ∷ []) (with_list row.values lists)
AreKept-new rows kept lists row are new =
    let absent : occurs_in rows row ≡ false = sym (has_list-kept rows kept lists row are) ∙ new in
    record {
      first = ap (λ some. some ++ row ∷ []) are.first ∙ ap (λ b. if b then firsts rows else firsts rows ++ row ∷ []) (sym absent) ∙ sym (firsts-push rows row);
      seen = ap (λ b. if b then lists else lists ++ row.values ∷ []) new ∙ ap (λ some. some ++ row.values ∷ []) are.seen
          ∙ sym (map-append (λ (other : Answer). other.values) kept (row ∷ []));
    }

-- a row of a list that was seen is not
pub AreKept-seen : (rows kept : List Answer) (lists : List (List Value)) (row : Answer) → AreKept rows kept lists → has_list row.values lists ≡ true
    → AreKept (rows ++ row ∷ []) kept (with_list row.values lists)
AreKept-seen rows kept lists row are seen =
    let there : occurs_in rows row ≡ true = sym (has_list-kept rows kept lists row are) ∙ seen in
    record {
      first = are.first ∙ ap (λ b. if b then firsts rows else firsts rows ++ row ∷ []) (sym there) ∙ sym (firsts-push rows row);
      seen = ap (λ b. if b then lists else lists ++ row.values ∷ []) seen ∙ are.seen;
    }

not_true : (b : Bool) → true ≡ not b → b ≡ false
not_true true e = cc
not_true false e = refl

not_false : (b : Bool) → false ≡ not b → b ≡ true
not_false true e = refl
not_false false e = cc

-- a row whose list was added is kept, and another one is not
pub AreKept-added : (rows kept more : List Answer) (lists now : List (List Value)) (row : Answer) (values : List Value) (added : Bool) → AreKept rows kept lists → values ≡ row.values
    → added ≡ not (has_list values lists) → added ≡ true → now ≡ with_list values lists → more ≡ kept ++ row ∷ [] → AreKept (rows ++ row ∷ []) more now
AreKept-added rows kept more lists now row values added are same new is_new now_is more_is =
    subst (λ k. AreKept (rows ++ row ∷ []) k now) (sym more_is)
    (subst (λ l. AreKept (rows ++ row ∷ []) (kept ++ row ∷ []) l) (sym (now_is ∙ ap (λ v. with_list v lists) same))
    (AreKept-new rows kept lists row are (not_true (has_list row.values lists) (sym is_new ∙ new ∙ ap (λ v. not (has_list v lists)) same))))

pub AreKept-left : (rows kept : List Answer) (lists now : List (List Value)) (row : Answer) (values : List Value) (added : Bool) → AreKept rows kept lists → values ≡ row.values
    → added ≡ not (has_list values lists) → added ≡ false → now ≡ with_list values lists → AreKept (rows ++ row ∷ []) kept now
AreKept-left rows kept lists now row values added are same new is_old now_is =
    subst (λ l. AreKept (rows ++ row ∷ []) kept l) (sym (now_is ∙ ap (λ v. with_list v lists) same))
    (AreKept-seen rows kept lists row are (not_false (has_list row.values lists) (sym is_old ∙ new ∙ ap (λ v. not (has_list v lists)) same)))

-- tests that agree keep the same rows
pub filter-alike : {A : Type 0} (p q : A → Bool) → ((x : A) → p x ≡ q x) → (xs : List A) → filter p xs ≡ filter q xs
filter-alike p q alike [] = refl
filter-alike p q alike (x ∷ xs) =
    ap (λ b. if b then x ∷ filter p xs else filter p xs) (alike x) ∙ ap (λ rest. if q x then x ∷ rest else rest) (filter-alike p q alike xs)

-- the lists of some rows have a row's list where the row occurs in them
pub has_list-occurs : (lists : List (List Value)) (rows : List Answer) (row : Answer)
    → ((values : List Value) → has_list values lists ≡ has_list values (map (λ (other : Answer). other.values) rows)) → has_list row.values lists ≡ occurs_in rows row
has_list-occurs lists rows row same = same row.values ∙ has_list-rows rows row
