-- Of two sessions that declare, fetch and close alike, where each cursor of the one has its rows ready and that of the other asks a plan, each FETCH gives the same lines. What joins
-- the catalogue changes nothing of that.
use Rattle.std.proofs.Common.{ℕ, zero, suc, ◌≡◌, ◌∙◌, ◌+◌, ◌-◌, ◌≤◌, Bool, true, false, List, [], ◌∷◌, ◌++◌, length, length-append, take, drop, map, min, refl, sym, ap, subst, arith, length-drop}
use Rattle.std.specs.Prelude.{not, Option, Some, None, Ok, Err, nat_le, cond, if◌then◌else◌}
use Rattle.std.specs.Cmp.Lexicographic.{bytes_decides}
use Rattle.std.specs.List.{AllByRecursion}
use Rattle.std.specs.Str.{bytes_eq}
use Rattle.std.proofs.Math.Seq.{take-nil}
use Rattle.std.proofs.lemmas.Bool.{leb-false, leb-true, or_parts}
use Rattle.std.proofs.lemmas.Cmp.{nat_list_eq_equiv}
use Rattle.std.proofs.lemmas.List.{drop-take, length-take, take_all}
use Rattle.rs_value.specs.declared.value.Value.{Value}
use Rattle.rs_rank.specs.declared.answer.Answer.{Answer}
use Rattle.rs_rank.specs.declared.scored_row.ScoredRow.{ScoredRow}
use Rattle.rs_table.specs.FirstRows.{first_rows}
use Rattle.rs_table.specs.Relation.{Relation}
use Rattle.rs_expr.specs.Predicates.{PredicateDef}
use Rattle.rs_expr.specs.Scoring.{Answering}
use Rattle.rs_catalog.specs.After.{entries_within}
use Rattle.rs_catalog.specs.Catalog.{CatalogDef, NamedTable, RankIndex, has_name, with_index, with_predicate, with_table}
use Rattle.rs_catalog.specs.Growing.{grown, growing}
use Rattle.rs_catalog.specs.IndexesHold.{IndexesHold}
use Rattle.rs_catalog.specs.Snapshot.{HaveRows, size_at, snapshot}
use Rattle.rs_catalog.proofs.SnapshotFacts.{HaveRows-push, HaveRows-with_rows, snapshot-joined, snapshot-with_index, snapshot-with_table}
use Rattle.rs_catalog.specs.declared.index.IndexDef.{IndexDef}
use Rattle.rs_query.specs.Answers.{cut, limit_of}
use Rattle.rs_query.specs.WellFormed.{IsQuery}
use Rattle.rs_query.specs.declared.query.Query.{Query}
use Rattle.rs_query.specs.declared.query.Query.TheVariants.{One, Set}
use Rattle.rs_plan.specs.Trees.{PlanTree}
use Rattle.rs_exec.specs.Asking.{world_of}
use Rattle.rs_exec.specs.Covering.{Covers}
use Rattle.rs_exec.specs.Cursors.{SameAsks, answers_of}
use Rattle.rs_exec.proofs.CoversFacts.{covers, covers-larger}
use Rattle.rs_statement.specs.Lines.{rank_lines}
use Rattle.rs_statement.specs.Planned.{ask_count}
use Rattle.rs_statement.specs.Session.{ByPlan, OpenCursor, Ready, asked_more, cursor_named, next_rows, room_for_cursor}
use Rattle.rs_statement.specs.Named as named
use Rattle.rs_statement.proofs.EntryFacts.{each-named, room-free}
use Rattle.rs_statement.proofs.LargerRows.{SameAsks-itself}
use Rattle.rs_statement.proofs.UnfilteredFacts.{unfiltered}

-- this many of the first rows, where no more are taken than there are
take-cap : {A : Type 0} (xs : List A) (w c : ℕ) → length xs ≤ c → take (min w c) xs ≡ take w xs
take-cap xs w c within = go (nat_le w c) refl where
  go : (b : Bool) → nat_le w c ≡ b → take (min w c) xs ≡ take w xs
  go true less = let small = leb-true w c less in ap (λ n. take n xs) (let same : min w c ≡ w = omega arith in same)
  go false more = let large = leb-false w c more in take_all (min w c) xs (omega arith) ∙ sym (take_all w xs (omega arith))

take-take : {A : Type 0} (xs : List A) (a b : ℕ) → take a (take b xs) ≡ take (min a b) xs
take-take [] a b = ap (take a) (take-nil b) ∙ take-nil a ∙ sym (take-nil (min a b))
take-take (x ∷ xs) zero b = ap (λ n. take n (x ∷ xs)) (let none : 0 ≡ min 0 b = omega arith in none)
take-take (x ∷ xs) (suc a) zero = take-nil (suc a) ∙ ap (λ n. take n (x ∷ xs)) (let none : 0 ≡ min (suc a) 0 = omega arith in none)
take-take (x ∷ xs) (suc a) (suc b) =
    ap (λ rest. x ∷ rest) (take-take xs a b) ∙ ap (λ n. take n (x ∷ xs)) (let one : suc (min a b) ≡ min (suc a) (suc b) = omega arith in one)

-- of rows that are cut at a limit, those from a place on that are wanted; the asks that give them may be one more
module _ (rows : List Answer) (n wanted : ℕ) where
  taken-within : (limit : Option ℕ) → n ≤ length (cut limit rows)
      → take (min wanted (ask_count limit (length rows) - n)) (drop n rows) ≡ take (min wanted (length (cut limit rows) - n)) (drop n (cut limit rows))
  taken-within None within =
      let left : length (drop n rows) ≡ length rows - n = length-drop n rows in
      take-cap (drop n rows) wanted (suc (length rows) - n) (omega arith) ∙ sym (take-cap (drop n rows) wanted (length rows - n) (omega arith))
  taken-within (Some limit) within = go (nat_le limit (length rows)) refl ∙ sym those where
    size : length (take limit rows) ≡ min limit (length rows)
    size = length-take limit rows

    left : length (drop n rows) ≡ length rows - n
    left = length-drop n rows

    those : take (min wanted (length (take limit rows) - n)) (drop n (take limit rows)) ≡ take (min wanted (limit - n)) (drop n rows)
    those =
        take-cap (drop n (take limit rows)) wanted (length (take limit rows) - n) (let all = length-drop n (take limit rows) in omega arith)
        ∙ ap (take wanted) (ap (λ m. drop n (take m rows)) (let split : limit ≡ n + (limit - n) = omega (arith, size) in split) ∙ drop-take n (limit - n) rows)
        ∙ take-take (drop n rows) wanted (limit - n)

    go : (b : Bool) → nat_le limit (length rows) ≡ b → take (min wanted (min limit (suc (length rows)) - n)) (drop n rows) ≡ take (min wanted (limit - n)) (drop n rows)
    go true less =
        let small = leb-true limit (length rows) less in
        ap (λ m. take (min wanted (m - n)) (drop n rows)) (let same : min limit (suc (length rows)) ≡ limit = omega arith in same)
    go false more =
        let large = leb-false limit (length rows) more in
        take-cap (drop n rows) wanted (min limit (suc (length rows)) - n) (omega (arith, left)) ∙ sym (take-cap (drop n rows) wanted (limit - n) (omega (arith, left)))

-- a plan is asked for its rows up to LIMIT, and at most once more
record CountsRows (limit : Option ℕ) (rows : List Answer) : Type 0 where
  least : length (cut limit rows) ≤ ask_count limit (length rows)
  most : ask_count limit (length rows) ≤ suc (length (cut limit rows))

counts-rows : (limit : Option ℕ) (rows : List Answer) → CountsRows limit rows
counts-rows None rows = record { least = omega arith; most = omega arith }
counts-rows (Some limit) rows = record { least = omega (arith, length-take limit rows); most = omega (arith, length-take limit rows) }

-- of a cursor that asks a plan of these rows, and was asked this many times, and of one that has them ready up to LIMIT
module _ (limit : Option ℕ) (rows : List Answer) (n wanted : ℕ) where
  abbrev ready : List Answer
  ready = cut limit rows

  abbrev given : ℕ
  given = min n (length ready)

  abbrev asks : ℕ
  asks = min wanted (ask_count limit (length rows) - n)

  -- both give the same lines
  pub same-lines : rank_lines (suc given) (take (next_rows ready given wanted) (drop given ready)) ≡ rank_lines (suc n) (take asks (drop n rows))
  same-lines = go (nat_le n (length ready)) refl where
    go : (b : Bool) → nat_le n (length ready) ≡ b → rank_lines (suc given) (take (next_rows ready given wanted) (drop given ready)) ≡ rank_lines (suc n) (take asks (drop n rows))
    go true less =
        let small = leb-true n (length ready) less in
        ap (λ m. rank_lines (suc m) (take (next_rows ready m wanted) (drop m ready))) (let same : given ≡ n = omega arith in same)
        ∙ ap (rank_lines (suc n)) (sym (taken-within rows n wanted limit small))
    go false more =
        let large = leb-false n (length ready) more in
        let counts = counts-rows limit rows in
        ap (λ m. rank_lines (suc given) (take m (drop given ready))) (let none : next_rows ready given wanted ≡ 0 = omega arith in none)
        ∙ sym (ap (λ m. rank_lines (suc n) (take m (drop n rows))) (let none : asks ≡ 0 = omega (arith, counts.most) in none))

  -- and have given as many behind it
  same-given : given + next_rows ready given wanted ≡ min (n + asks) (length ready)
  same-given = let counts = counts-rows limit rows in omega (arith, counts.least, counts.most)

-- no cursor has this name
abbrev AreOthers : List ℕ → List OpenCursor → Type 0
AreOthers name cursors = AllByRecursion (λ (c : OpenCursor). bytes_eq c.name name ≡ false) cursors

module _ (answer : Answering) where
  -- two cursors of one name over the same rows, by a plan of a query that what is seen of the catalogue covers
  pub record Agree (catalogue : CatalogDef) (plain planned : OpenCursor) : Type 0 where
    pub name : plain.name ≡ planned.name
    pub query : Query
    pub tree : PlanTree
    pub sizes : List ℕ
    pub rows : List Answer
    pub ready : plain.source ≡ Ready rows
    pub by_plan : planned.source ≡ ByPlan query tree sizes
    pub have : HaveRows sizes catalogue.tables
    pub covered : Covers (snapshot sizes catalogue) query
    pub same : rows ≡ cut (limit_of query) (answers_of (world_of (snapshot sizes catalogue) answer query) tree)
    pub given : plain.asked ≡ min planned.asked (length rows)

  -- two lists of cursors that agree one by one, no two of one name
  abbrev pub AgreeAll : CatalogDef → List OpenCursor → List OpenCursor → Type 0
  AgreeAll catalogue [] [] = Unit {0}
  AgreeAll catalogue [] (q ∷ qs) = ⊥
  AgreeAll catalogue (p ∷ ps) [] = ⊥
  AgreeAll catalogue (p ∷ ps) (q ∷ qs) = Agree catalogue p q × AreOthers p.name ps × AreOthers q.name qs × AgreeAll catalogue ps qs

flipped : (a b : List ℕ) → bytes_eq a b ≡ bytes_eq b a
flipped a b = nat_list_eq_equiv.symm a b

-- cursors of other names stay others, and are asked no more
module _ (name : List ℕ) (asks : ℕ) where
  others-asked : (other : List ℕ) (cursors : List OpenCursor) → AreOthers other cursors → AreOthers other (map (asked_more name asks) cursors)
  others-asked other [] all = tt
  others-asked other (c ∷ cursors) all = (go (bytes_eq c.name name), others-asked other cursors all.1) where
    go : (b : Bool) → bytes_eq (if b then record c { asked = c.asked + asks } else c).name other ≡ false
    go true = all.0
    go false = all.0

  unasked : (cursors : List OpenCursor) → AreOthers name cursors → map (asked_more name asks) cursors ≡ cursors
  unasked [] others = refl
  unasked (c ∷ cursors) others =
      ap (λ b. (if b then record c { asked = c.asked + asks } else c) ∷ map (asked_more name asks) cursors) others.0 ∙ ap (λ rest. c ∷ rest) (unasked cursors others.1)

abbrev pub without : List ℕ → List OpenCursor → List OpenCursor
without name cursors = named.without (λ (c : OpenCursor). c.name) name cursors

others-without : (other name : List ℕ) (cursors : List OpenCursor) → AreOthers other cursors → AreOthers other (without name cursors)
others-without other name [] all = tt
others-without other name (c ∷ cursors) all = go (others-without other name cursors all.1) (bytes_eq c.name name) where
  go : AreOthers other (without name cursors) → (b : Bool) → AreOthers other (cond (not b) (c ∷ without name cursors) (without name cursors))
  go rest true = rest
  go rest false = (all.0, rest)

others-append : (other : List ℕ) (cursors : List OpenCursor) (last : OpenCursor) → AreOthers other cursors → bytes_eq last.name other ≡ false → AreOthers other (cursors ++ last ∷ [])
others-append other [] last all one = (one, tt)
others-append other (c ∷ cursors) last all one = (all.0, others-append other cursors last all.1 one)

abbrev names : List OpenCursor → List (List ℕ)
names cursors = map (λ (c : OpenCursor). c.name) cursors

others-unnamed : (name : List ℕ) (cursors : List OpenCursor) → has_name name (names cursors) ≡ false → AreOthers name cursors
others-unnamed name [] free = tt
others-unnamed name (c ∷ cursors) free =
    let parts = or_parts (bytes_eq c.name name) (has_name name (names cursors)) free in (parts.0, others-unnamed name cursors parts.1)

-- where a cursor of a name can be opened, no cursor has the name
pub others-free : (name : List ℕ) (cursors : List OpenCursor) → room_for_cursor name cursors ≡ Ok tt → AreOthers name cursors
others-free name cursors opens = others-unnamed name cursors (room-free name (names cursors) opens)

module _ (answer : Answering) (catalogue : CatalogDef) where
  -- the test of a name comes out alike at two cursors that agree
  same-test : (name : List ℕ) (p q : OpenCursor) → Agree answer catalogue p q → bytes_eq p.name name ≡ bytes_eq q.name name
  same-test name p q agree = ap (λ n. bytes_eq n name) agree.name

  -- the two that are found agree
  pub found-agree : (name : List ℕ) (ps qs : List OpenCursor) (p q : OpenCursor) → AgreeAll answer catalogue ps qs → cursor_named name ps ≡ Ok p → cursor_named name qs ≡ Ok q → Agree answer catalogue p q
  found-agree name [] qs p q all np nq = absurd cc
  found-agree name (c ∷ ps) [] p q all np nq = absurd all
  found-agree name (c ∷ ps) (d ∷ qs) p q all np nq =
      go (found-agree name ps qs p q all.3) (bytes_eq c.name name) np (ap (λ b. if b then Ok d else cursor_named name qs) (same-test name c d all.0) ∙ nq) where
        go : (cursor_named name ps ≡ Ok p → cursor_named name qs ≡ Ok q → Agree answer catalogue p q) → (b : Bool) → (if b then Ok c else cursor_named name ps) ≡ Ok p
            → (if b then Ok d else cursor_named name qs) ≡ Ok q → Agree answer catalogue p q
        go rest true x y =
            let first : c ≡ p = cc in
            let second : d ≡ q = cc in
            subst (λ (o : OpenCursor). Agree answer catalogue o q) first (subst (Agree answer catalogue c) second all.0)
        go rest false x y = rest x y

  -- and so do all behind a FETCH of them, where they do
  module _ (name : List ℕ) (a b : ℕ) where
    abbrev more : ℕ → OpenCursor → OpenCursor
    more asks cursor = record cursor { asked = cursor.asked + asks }

    asked-self : (asks : ℕ) (c : OpenCursor) (cursors : List OpenCursor) → AreOthers c.name cursors → map (asked_more c.name asks) (c ∷ cursors) ≡ more asks c ∷ cursors
    asked-self asks c cursors others =
        ap (λ t. (if t then more asks c else c) ∷ map (asked_more c.name asks) cursors) ((bytes_decides c.name c.name).1 refl) ∙ ap (λ rest. more asks c ∷ rest) (unasked c.name asks cursors others)

    asked-other : (asks : ℕ) (c found : OpenCursor) (cursors : List OpenCursor) → bytes_eq c.name found.name ≡ false
        → map (asked_more found.name asks) (c ∷ cursors) ≡ c ∷ map (asked_more found.name asks) cursors
    asked-other asks c found cursors other = ap (λ t. (if t then more asks c else c) ∷ map (asked_more found.name asks) cursors) other

    pub all-fetched : (ps qs : List OpenCursor) (p q : OpenCursor) → AgreeAll answer catalogue ps qs → cursor_named name ps ≡ Ok p → cursor_named name qs ≡ Ok q
        → Agree answer catalogue (more a p) (more b q) → AgreeAll answer catalogue (map (asked_more p.name a) ps) (map (asked_more q.name b) qs)
    all-fetched [] qs p q all np nq after = absurd cc
    all-fetched (c ∷ ps) [] p q all np nq after = absurd all
    all-fetched (c ∷ ps) (d ∷ qs) p q all np nq after =
        go (λ x y. all-fetched ps qs p q all.3 x y after) (bytes_eq c.name name) np (ap (λ t. if t then Ok d else cursor_named name qs) (same-test name c d all.0) ∙ nq) where
          go : (cursor_named name ps ≡ Ok p → cursor_named name qs ≡ Ok q → AgreeAll answer catalogue (map (asked_more p.name a) ps) (map (asked_more q.name b) qs)) → (t : Bool)
              → (if t then Ok c else cursor_named name ps) ≡ Ok p → (if t then Ok d else cursor_named name qs) ≡ Ok q
              → AgreeAll answer catalogue (map (asked_more p.name a) (c ∷ ps)) (map (asked_more q.name b) (d ∷ qs))
          go rest true x y =
              let first : p ≡ c = cc in
              let second : q ≡ d = cc in
              let own = subst (λ (o : OpenCursor). Agree answer catalogue (more a c) (more b o)) second (subst (λ (o : OpenCursor). Agree answer catalogue (more a o) (more b q)) first after) in
              let whole : AgreeAll answer catalogue (more a c ∷ ps) (more b d ∷ qs) = (own, all.1, all.2, all.3) in
              subst (λ (o : OpenCursor). AgreeAll answer catalogue (map (asked_more o.name a) (c ∷ ps)) (map (asked_more q.name b) (d ∷ qs))) (sym first)
              (subst (λ (o : OpenCursor). AgreeAll answer catalogue (map (asked_more c.name a) (c ∷ ps)) (map (asked_more o.name b) (d ∷ qs))) (sym second)
              (subst (λ l. AgreeAll answer catalogue l (map (asked_more d.name b) (d ∷ qs))) (sym (asked-self a c ps all.1))
              (subst (λ l. AgreeAll answer catalogue (more a c ∷ ps) l) (sym (asked-self b d qs all.2)) whole)))
          go rest false x y =
              let other = flipped c.name p.name ∙ each-named (λ (o : OpenCursor). bytes_eq o.name c.name ≡ false) (λ (o : OpenCursor). o.name) (λ (o : OpenCursor). o) name ps p all.1 x in
              let another = flipped d.name q.name ∙ each-named (λ (o : OpenCursor). bytes_eq o.name d.name ≡ false) (λ (o : OpenCursor). o.name) (λ (o : OpenCursor). o) name qs q all.2 y in
              let whole : AgreeAll answer catalogue (c ∷ map (asked_more p.name a) ps) (d ∷ map (asked_more q.name b) qs) =
              (all.0, others-asked p.name a c.name ps all.1, others-asked q.name b d.name qs all.2, rest x y) in
              subst (λ l. AgreeAll answer catalogue l (map (asked_more q.name b) (d ∷ qs))) (sym (asked-other a c p ps other))
              (subst (λ l. AgreeAll answer catalogue (c ∷ map (asked_more p.name a) ps) l) (sym (asked-other b d q qs another)) whole)

  -- and behind a CLOSE of a name
  pub all-closed : (name : List ℕ) (ps qs : List OpenCursor) → AgreeAll answer catalogue ps qs → AgreeAll answer catalogue (without name ps) (without name qs)
  all-closed name [] [] all = tt
  all-closed name [] (q ∷ qs) all = absurd all
  all-closed name (p ∷ ps) [] all = absurd all
  all-closed name (p ∷ ps) (q ∷ qs) all =
      subst (λ t. AgreeAll answer catalogue (without name (p ∷ ps)) (cond (not t) (q ∷ without name qs) (without name qs))) (same-test name p q all.0)
      (go (all-closed name ps qs all.3) (bytes_eq p.name name)) where
        go : AgreeAll answer catalogue (without name ps) (without name qs) → (t : Bool)
            → AgreeAll answer catalogue (cond (not t) (p ∷ without name ps) (without name ps)) (cond (not t) (q ∷ without name qs) (without name qs))
        go rest true = rest
        go rest false = (all.0, others-without p.name name ps all.1, others-without q.name name qs all.2, rest)

  -- and behind a DECLARE of a free name
  pub all-opened : (ps qs : List OpenCursor) (p q : OpenCursor) → AgreeAll answer catalogue ps qs → Agree answer catalogue p q → AreOthers p.name ps → AreOthers q.name qs
      → AgreeAll answer catalogue (ps ++ p ∷ []) (qs ++ q ∷ [])
  all-opened [] [] p q all agree free also = (agree, tt, tt, tt)
  all-opened [] (d ∷ qs) p q all agree free also = absurd all
  all-opened (c ∷ ps) [] p q all agree free also = absurd all
  all-opened (c ∷ ps) (d ∷ qs) p q all agree free also = (
    all.0,
    others-append c.name ps p all.1 (flipped p.name c.name ∙ free.0),
    others-append d.name qs q all.2 (flipped q.name d.name ∙ also.0),
    all-opened ps qs p q all.3 agree free.1 also.1,
  )

  -- a FETCH of two that agree
  pub agree-fetched : (p q : OpenCursor) (wanted : ℕ) (agree : Agree answer catalogue p q) → (asks : ℕ)
      → asks ≡ min wanted (ask_count (limit_of agree.query) (length (answers_of (world_of (snapshot agree.sizes catalogue) answer agree.query) agree.tree)) - q.asked)
      → Agree answer catalogue (record p { asked = p.asked + next_rows agree.rows p.asked wanted }) (record q { asked = q.asked + asks })
  agree-fetched p q wanted agree asks is = record {
    name = agree.name;
    query = agree.query;
    tree = agree.tree;
    sizes = agree.sizes;
    rows = agree.rows;
    ready = agree.ready;
    by_plan = agree.by_plan;
    have = agree.have;
    covered = agree.covered;
    same = agree.same;
    given = (let all = answers_of (world_of (snapshot agree.sizes catalogue) answer agree.query) agree.tree in
        ap (λ given. given + next_rows agree.rows given wanted) agree.given
        ∙ ap (λ rows. min q.asked (length rows) + next_rows rows (min q.asked (length rows)) wanted) agree.same
        ∙ same-given (limit_of agree.query) all q.asked wanted
        ∙ ap (λ n. min (q.asked + n) (length (cut (limit_of agree.query) all))) (sym is)
        ∙ ap (λ rows. min (q.asked + asks) (length rows)) (sym agree.same));
  }

  pub lines-fetched : (p q : OpenCursor) (wanted : ℕ) (agree : Agree answer catalogue p q) → (asks : ℕ)
      → asks ≡ min wanted (ask_count (limit_of agree.query) (length (answers_of (world_of (snapshot agree.sizes catalogue) answer agree.query) agree.tree)) - q.asked)
      → rank_lines (suc p.asked) (take (next_rows agree.rows p.asked wanted) (drop p.asked agree.rows))
      ≡ rank_lines (suc q.asked) (take asks (drop q.asked (answers_of (world_of (snapshot agree.sizes catalogue) answer agree.query) agree.tree)))
  lines-fetched p q wanted agree asks is =
      let all = answers_of (world_of (snapshot agree.sizes catalogue) answer agree.query) agree.tree in
      ap (λ given. rank_lines (suc given) (take (next_rows agree.rows given wanted) (drop given agree.rows))) agree.given
      ∙ ap (λ rows. rank_lines (suc (min q.asked (length rows))) (take (next_rows rows (min q.asked (length rows)) wanted) (drop (min q.asked (length rows)) rows))) agree.same
      ∙ same-lines (limit_of agree.query) all q.asked wanted
      ∙ ap (λ n. rank_lines (suc q.asked) (take n (drop q.asked all))) (sym is)

-- a query that is well formed without its conditions is covered
pub covers-unfiltered : (catalogue : CatalogDef) (query : Query) → IsQuery catalogue (unfiltered query) → Covers catalogue query
covers-unfiltered catalogue query formed = go query (covers catalogue (unfiltered query) formed) where
  go : (query : Query) → Covers catalogue (unfiltered query) → Covers catalogue query
  go (One block limit) covered = record { entries = covered.entries; terms = covered.terms }
  go (Set op left right limit) covered = (record { entries = covered.0.entries; terms = covered.0.terms }, record { entries = covered.1.entries; terms = covered.1.terms })

-- what joins the catalogue changes nothing of the asks of a plan whose query it covers
pub record AskTheSame : Type 0 where
  pub tables : (catalogue : CatalogDef) (answer : Answering) (query : Query) (tree : PlanTree) (name : List ℕ) (table : Relation) → Covers catalogue query
      → SameAsks (world_of (with_table name table catalogue) answer query) (world_of catalogue answer query) tree
  pub predicates : (catalogue : CatalogDef) (answer : Answering) (query : Query) (tree : PlanTree) (predicate : PredicateDef) → Covers catalogue query
      → SameAsks (world_of (with_predicate predicate catalogue) answer query) (world_of catalogue answer query) tree
  pub indexes : (catalogue : CatalogDef) (answer : Answering) (query : Query) (tree : PlanTree) (def : IndexDef) (ranking : List ScoredRow) → Covers catalogue query
      → SameAsks (world_of (with_index def ranking catalogue) answer query) (world_of catalogue answer query) tree

module _ (answer : Answering) (catalogue : CatalogDef) where
  -- so cursors that agree over a catalogue do over a larger one
  module _ (large : CatalogDef) (have : (sizes : List ℕ) → HaveRows sizes catalogue.tables → HaveRows sizes large.tables)
      (covered : (sizes : List ℕ) (query : Query) → HaveRows sizes catalogue.tables → Covers (snapshot sizes catalogue) query → Covers (snapshot sizes large) query)
      (same : (sizes : List ℕ) (query : Query) (tree : PlanTree) → HaveRows sizes catalogue.tables → Covers (snapshot sizes catalogue) query
      → SameAsks (world_of (snapshot sizes large) answer query) (world_of (snapshot sizes catalogue) answer query) tree) where
    agree-larger : (p q : OpenCursor) → Agree answer catalogue p q → Agree answer large p q
    agree-larger p q agree = record {
      name = agree.name;
      query = agree.query;
      tree = agree.tree;
      sizes = agree.sizes;
      rows = agree.rows;
      ready = agree.ready;
      by_plan = agree.by_plan;
      have = have agree.sizes agree.have;
      covered = covered agree.sizes agree.query agree.have agree.covered;
      same = agree.same ∙ sym (ap (cut (limit_of agree.query)) (same agree.sizes agree.query agree.tree agree.have agree.covered).rows);
      given = agree.given;
    }

    all-larger : (ps qs : List OpenCursor) → AgreeAll answer catalogue ps qs → AgreeAll answer large ps qs
    all-larger [] [] all = tt
    all-larger [] (q ∷ qs) all = absurd all
    all-larger (p ∷ ps) [] all = absurd all
    all-larger (p ∷ ps) (q ∷ qs) all = (agree-larger p q all.0, all.1, all.2, all-larger ps qs all.3)

  -- as where a table, a predicate or an index joins
  module _ (asks : AskTheSame) (ps qs : List OpenCursor) (all : AgreeAll answer catalogue ps qs) where
    pub all-with_table : (name : List ℕ) (table : Relation) → AgreeAll answer (with_table name table catalogue) ps qs
    all-with_table name table =
        all-larger (with_table name table catalogue) (λ sizes have. HaveRows-push sizes catalogue.tables (record { name = name; table = table }) have)
        (λ sizes query have covered.
        let seen = snapshot sizes catalogue in
        let last : NamedTable = record { name = name; table = first_rows 0 table } in
        let more = length-append seen.tables (last ∷ []) in
        subst (λ (larger : CatalogDef). Covers larger query) (sym (snapshot-with_table sizes catalogue name table have))
        (covers-larger seen (with_table name (first_rows 0 table) seen) (omega arith) (omega arith) query covered))
        (λ sizes query tree have covered.
        let seen = snapshot sizes catalogue in
        subst (λ (larger : CatalogDef). SameAsks (world_of larger answer query) (world_of seen answer query) tree) (sym (snapshot-with_table sizes catalogue name table have))
        (asks.tables seen answer query tree name (first_rows 0 table) covered)) ps qs all

    pub all-with_predicate : (predicate : PredicateDef) → AgreeAll answer (with_predicate predicate catalogue) ps qs
    all-with_predicate predicate =
        let more = length-append catalogue.predicates (predicate ∷ []) in
        all-larger (with_predicate predicate catalogue) (λ sizes have. have)
        (λ sizes query have covered. covers-larger (snapshot sizes catalogue) (with_predicate predicate (snapshot sizes catalogue)) (omega arith) (omega arith) query covered)
        (λ sizes query tree have covered. asks.predicates (snapshot sizes catalogue) answer query tree predicate covered) ps qs all

    pub all-with_index : (def : IndexDef) (ranking : List ScoredRow) → AgreeAll answer (with_index def ranking catalogue) ps qs
    all-with_index def ranking =
        all-larger (with_index def ranking catalogue) (λ sizes have. have)
        (λ sizes query have covered.
        let seen = snapshot sizes catalogue in
        subst (λ (larger : CatalogDef). Covers larger query) (sym (snapshot-with_index sizes catalogue def ranking))
        (covers-larger seen (with_index def (entries_within (size_at sizes def.table) ranking) seen) (omega arith) (omega arith) query covered))
        (λ sizes query tree have covered.
        let seen = snapshot sizes catalogue in
        subst (λ (larger : CatalogDef). SameAsks (world_of larger answer query) (world_of seen answer query) tree) (sym (snapshot-with_index sizes catalogue def ranking))
        (asks.indexes seen answer query tree def (entries_within (size_at sizes def.table) ranking) covered)) ps qs all

    pub all-with_rows : (table : ℕ) (rows : List (List Value)) (indexes : List RankIndex) → IndexesHold answer catalogue → (growing answer catalogue table rows).outcome ≡ Ok indexes
        → AgreeAll answer (grown table rows indexes catalogue) ps qs
    all-with_rows table rows indexes held gives =
        let stays : (sizes : List ℕ) → HaveRows sizes catalogue.tables → snapshot sizes catalogue ≡ snapshot sizes (grown table rows indexes catalogue) =
        (λ sizes have. sym (snapshot-joined sizes answer catalogue table rows indexes have held gives)) in
        all-larger (grown table rows indexes catalogue) (λ sizes have. HaveRows-with_rows sizes table rows catalogue.tables have)
        (λ sizes query have covered. subst (λ (seen : CatalogDef). Covers seen query) (stays sizes have) covered)
        (λ sizes query tree have covered.
        subst (λ (seen : CatalogDef). SameAsks (world_of seen answer query) (world_of (snapshot sizes catalogue) answer query) tree) (stays sizes have)
        (SameAsks-itself (snapshot sizes catalogue) answer query tree)) ps qs all
