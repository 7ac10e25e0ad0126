-- The tests of a tree say what they are to say.
use Rattle.std.proofs.Common.{◌≡◌, ◌≤◌, ◌<◌, ◌-◌, ◌/◌, ◌%◌, ◌^◌, ℕ, zero, suc, Bool, true, false, not, ◌&&◌, ◌||◌, ◌==◌, List, [], ◌∷◌, length, Option, Some, None, slice_get, bit_and, ◌⊎◌, inl, inr, true≢false, refl, sym, ◌∙◌, ap, subst, subst₂, arith}
use Rattle.std.specs.Bool.{Decides}
use Rattle.std.specs.List.{list_any}
use Rattle.std.proofs.lemmas.Bool.{leb-true, le-leb}
use Rattle.std.proofs.lemmas.Bool.Decides.{Decides-and, Decides-eqb, Decides-like, Decides-or}
use Rattle.std.proofs.lemmas.Nat.Bits.{bit_at_above}
use Rattle.std.proofs.lemmas.Option.{none-some, same_Some, slice_get_within}
use Rattle.rs_catalog.specs.Catalog.{CatalogDef}
use Rattle.rs_catalog.specs.Indexes.{index_of}
use Rattle.rs_rank.specs.Masks.{has_number, mask_of}
use Rattle.rs_query.specs.Conjuncts.{ConjunctDef}
use Rattle.rs_query.specs.Meaning.{is_inside}
use Rattle.rs_query.specs.Tables.{all_entries}
use Rattle.rs_query.specs.WellFormed.{IsQuery}
use Rattle.rs_query.specs.declared.block.Block.{Block}
use Rattle.rs_query.specs.declared.query.Query.{Query}
use Rattle.rs_query.specs.declared.query.Query.TheVariants.{One, Set}
use Rattle.rs_query.specs.declared.term.Term.{Term}
use Rattle.rs_plan.specs.Deciding.{are_joined, has_no_distinct, is_complete, is_distinct, is_found, is_hashed, is_part, is_plan, is_rank, is_rank_of, is_rank_scan, is_scan_of, is_set_plan, joins_sides, may_join}
use Rattle.rs_plan.specs.Numbers.{HasNumbers, IsUpTo}
use Rattle.rs_query.specs.Answers.{all_terms}
use Rattle.rs_plan.specs.Plans.{AreJoined, HasNoDistinct, IsComplete, IsDistinct, IsEntryNumber, IsHashed, IsPart, IsPlan, IsRank, IsRankScan, IsSetPlan, IsTermOf, JoinsSides, MayJoin}
use Rattle.rs_plan.specs.Trees.{Distinct, Hash, JoinKind, JoinOperator, Nested, Rank, RankScan, SeqScan, SetOperator, PlanTree, entries, terms}

-- a number beyond the eight of a mask isn't in it
pub past-mask : (mask place : ℕ) → mask < 2 ^ 8 → 8 ≤ place → (mask / 2 ^ place % 2 == 1) ≡ false
past-mask mask place small far = ap (λ bit. bit == 1) (bit_at_above mask 8 place small far)

-- a test says that it is passed
itself : (b : Bool) → Decides b (b ≡ true)
itself b = (λ e. e, λ e. e)

missed : (b : Bool) → Decides (not b) (b ≡ false)
missed true = (λ e. absurd (true≢false (sym e)), λ e. absurd (true≢false e))
missed false = (λ e. refl, λ e. refl)

never : Decides false ⊥
never = (λ e. absurd (true≢false (sym e)), λ none. absurd none)

always : Decides true (Unit {0})
always = (λ e. tt, λ e. refl)

-- what is asked only sometimes
demanded : {P : Type 0} (asked test : Bool) → Decides test P → Decides (not asked || not test) (asked ≡ true → ¬ P)
demanded false test d = (λ _ e. absurd (true≢false (sym e)), λ _. refl)
demanded true true d = (λ e. absurd (true≢false (sym e)), λ none. absurd (none refl (d.0 refl)))
demanded true false d = (λ _ _ p. true≢false (sym (d.1 p)), λ _. refl)

found-decided : (o : Option ℕ) (index : ℕ) → Decides (is_found o index) (o ≡ Some index)
found-decided (Some found) index =
    Decides-like (found == index) (λ e. ap Some e) (λ e. same_Some found index e) (Decides-eqb found index)
found-decided None index = (λ e. absurd (true≢false (sym e)), λ e. absurd (none-some index e))

-- a place in a list is there
there : {A : Type 0} (list : List A) (number most : ℕ) (item : A) → length list ≤ most → 1 ≤ number → slice_get list (number - 1) ≡ Some item → number ≤ most
there list number most item h some e = let within = slice_get_within list (number - 1) item e in omega arith

rank_scan-decided : (catalogue : CatalogDef) (block : Block) (entry number index : ℕ) → 1 ≤ entry → 1 ≤ number
    → Decides (is_rank_scan catalogue block entry number index) (IsRankScan catalogue block entry number index)
rank_scan-decided catalogue block entry number index some_entry some_number =
    go (slice_get block.terms (number - 1)) (slice_get block.from (entry - 1)) refl refl
  where
    go : (t : Option Term) (f : Option (ℕ × List ℕ)) → slice_get block.terms (number - 1) ≡ t → slice_get block.from (entry - 1) ≡ f
        → Decides (is_scan_of catalogue entry index t f) (IsRankScan catalogue block entry number index)
    go (Some term) (Some from) is_term is_from =
        Decides-like ((term.entries == mask_of entry) && is_found (index_of from.0 term.predicate term.args entry catalogue) index)
        (λ both. record {
          is_entry = record { some = some_entry; most = there block.from entry (length block.from) from (omega arith) some_entry is_from };
          term = term;
          is_term = record { some = some_number; there = is_term };
          alone = both.0;
          table = from.0;
          alias = from.1;
          from = is_from;
          first = both.1;
        })
        (λ scan.
        let same_term : scan.term ≡ term = same_Some scan.term term (sym scan.is_term.there ∙ is_term) in
        let same_from : (scan.table, scan.alias) ≡ from = same_Some (scan.table, scan.alias) from (sym scan.from ∙ is_from) in (
          subst (λ (x : Term). x.entries ≡ mask_of entry) same_term scan.alone,
          subst₂ (λ (x : Term) (y : ℕ × List ℕ). index_of y.0 x.predicate x.args entry catalogue ≡ Some index) same_term same_from scan.first,
        ))
        (Decides-and (term.entries == mask_of entry) (is_found (index_of from.0 term.predicate term.args entry catalogue) index)
        (Decides-eqb term.entries (mask_of entry)) (found-decided (index_of from.0 term.predicate term.args entry catalogue) index))
    go (Some term) None is_term is_from =
        (λ e. absurd (true≢false (sym e)), λ scan. absurd (none-some (scan.table, scan.alias) (sym is_from ∙ scan.from)))
    go None f is_term is_from =
        (λ e. absurd (true≢false (sym e)), λ scan. absurd (none-some scan.term (sym is_term ∙ scan.is_term.there)))

rank-decided : (block : Block) (number : ℕ) (child : PlanTree) → 1 ≤ number
    → Decides (is_rank block number (entries child) (terms child)) (IsRank block number child)
rank-decided block number child some = go (slice_get block.terms (number - 1)) refl
  where
    go : (t : Option Term) → slice_get block.terms (number - 1) ≡ t → Decides (is_rank_of number (entries child) (terms child) t) (IsRank block number child)
    go (Some term) is_term =
        Decides-like (not (has_number (terms child) number) && is_inside term.entries (entries child))
        (λ both. record { term = term; is_term = record { some = some; there = is_term }; absent = both.0; there = both.1 })
        (λ rank.
        let same : rank.term ≡ term = same_Some rank.term term (sym rank.is_term.there ∙ is_term) in
        (rank.absent, subst (λ (x : Term). is_inside x.entries (entries child) ≡ true) same rank.there))
        (Decides-and (not (has_number (terms child) number)) (is_inside term.entries (entries child))
        (missed (has_number (terms child) number)) (itself (is_inside term.entries (entries child))))
    go None is_term = (λ e. absurd (true≢false (sym e)), λ rank. absurd (none-some rank.term (sym is_term ∙ rank.is_term.there)))

-- the equality of a conjunct joins the sides
record Joins (left right : ℕ) (equality : Option ((ℕ × ℕ) × (ℕ × ℕ))) : Type 0 where
  pub columns : (ℕ × ℕ) × (ℕ × ℕ)
  pub is : equality ≡ Some columns
  pub across : JoinsSides left right columns

joins-decided : (left right : ℕ) (equality : Option ((ℕ × ℕ) × (ℕ × ℕ))) → Decides (joins_sides left right equality) (Joins left right equality)
joins-decided left right (Some pair) =
    Decides-like ((has_number left pair.0.0 && has_number right pair.1.0) || (has_number right pair.0.0 && has_number left pair.1.0))
    (λ across. record { columns = pair; is = refl; across = across })
    (λ joins. subst (JoinsSides left right) (sym (same_Some pair joins.columns joins.is)) joins.across)
    (Decides-or (has_number left pair.0.0 && has_number right pair.1.0) (has_number right pair.0.0 && has_number left pair.1.0)
    (Decides-and (has_number left pair.0.0) (has_number right pair.1.0) (itself (has_number left pair.0.0)) (itself (has_number right pair.1.0)))
    (Decides-and (has_number right pair.0.0) (has_number left pair.1.0) (itself (has_number right pair.0.0)) (itself (has_number left pair.1.0))))
joins-decided left right None = (λ e. absurd (true≢false (sym e)), λ joins. absurd (none-some joins.columns joins.is))

-- one of some conjuncts does
record OneJoins (left right : ℕ) (conjuncts : List ConjunctDef) : Type 0 where
  pub place : ℕ
  pub conjunct : ConjunctDef
  pub is : slice_get conjuncts place ≡ Some conjunct
  pub joins : Joins left right conjunct.equality

one_joins-decided : (left right : ℕ) (conjuncts : List ConjunctDef)
    → Decides (list_any (λ (conjunct : ConjunctDef). joins_sides left right conjunct.equality) conjuncts) (OneJoins left right conjuncts)
one_joins-decided left right [] = (λ e. absurd (true≢false (sym e)), λ one. absurd (none-some one.conjunct one.is))
one_joins-decided left right (c ∷ rest) =
    Decides-like (joins_sides left right c.equality || list_any (λ (conjunct : ConjunctDef). joins_sides left right conjunct.equality) rest)
    (λ either. elim either [
      | inl here ↦ record { place = 0; conjunct = c; is = refl; joins = here }
      | inr later ↦ record { place = suc later.place; conjunct = later.conjunct; is = later.is; joins = later.joins }
    ])
    (λ one. back one.place one.conjunct one.is one.joins)
    (Decides-or (joins_sides left right c.equality) (list_any (λ (conjunct : ConjunctDef). joins_sides left right conjunct.equality) rest)
    (joins-decided left right c.equality) (one_joins-decided left right rest))
  where
    back : (place : ℕ) (conjunct : ConjunctDef) → slice_get (c ∷ rest) place ≡ Some conjunct → Joins left right conjunct.equality
        → Joins left right c.equality ⊎ OneJoins left right rest
    back zero conjunct is joins = inl (subst (λ (x : ConjunctDef). Joins left right x.equality) (sym (same_Some c conjunct is)) joins)
    back (suc place) conjunct is joins = inr (record { place = place; conjunct = conjunct; is = is; joins = joins })

pub hashed-decided : (block : Block) (left right : ℕ) → Decides (is_hashed block left right) (IsHashed block left right)
hashed-decided block left right =
    Decides-like (is_hashed block left right)
    (λ one. record { place = one.place; conjunct = one.conjunct; there = one.is; columns = one.joins.columns; equality = one.joins.is; across = one.joins.across })
    (λ hashed. record { place = hashed.place; conjunct = hashed.conjunct; is = hashed.there; joins = record { columns = hashed.columns; is = hashed.equality; across = hashed.across } })
    (one_joins-decided left right block.conjuncts)

may_join-decided : (kind : JoinKind) (block : Block) (left right : ℕ) → Decides (may_join kind block left right) (MayJoin kind block left right)
may_join-decided Hash block left right = hashed-decided block left right
may_join-decided Nested block left right = always

whole-decided : (tree : PlanTree) → Decides (has_no_distinct tree) (HasNoDistinct tree)
whole-decided (SeqScan entry) = always
whole-decided (RankScan entry term index) = always
whole-decided (Rank term child) = whole-decided child
whole-decided (JoinOperator kind left right) = Decides-and (has_no_distinct left) (has_no_distinct right) (whole-decided left) (whole-decided right)
whole-decided (Distinct child) = never
whole-decided (SetOperator left right) = Decides-and (has_no_distinct left) (has_no_distinct right) (whole-decided left) (whole-decided right)

joined-decided : (left right : PlanTree) → Decides (are_joined left right) (AreJoined left right)
joined-decided left right =
    Decides-like (are_joined left right)
    (λ all. record { apart = all.0; left_whole = all.1.0; right_whole = all.1.1 })
    (λ joined. (joined.apart, (joined.left_whole, joined.right_whole)))
    (Decides-and (bit_and (entries left) (entries right) == 0) (has_no_distinct left && has_no_distinct right)
    (Decides-eqb (bit_and (entries left) (entries right)) 0)
    (Decides-and (has_no_distinct left) (has_no_distinct right) (whole-decided left) (whole-decided right)))

distinct-decided : (block : Block) (child : PlanTree) → Decides (is_distinct block child) (IsDistinct block child)
distinct-decided block child =
    Decides-like (is_distinct block child)
    (λ all. record { wanted = all.0; all = all.1.0; first = all.1.1 })
    (λ distinct. (distinct.wanted, (distinct.all, distinct.first)))
    (Decides-and block.distinct ((entries child == all_entries block) && has_no_distinct child) (itself block.distinct)
    (Decides-and (entries child == all_entries block) (has_no_distinct child) (Decides-eqb (entries child) (all_entries block)) (whole-decided child)))

part-decided : (catalogue : CatalogDef) (block : Block) (tree : PlanTree) → HasNumbers tree → Decides (is_part catalogue block tree) (IsPart catalogue block tree)
part-decided catalogue block (SeqScan entry) n =
    (λ e. record { some = n.some; most = leb-true entry (length block.from) e }, λ is. le-leb entry (length block.from) is.most)
part-decided catalogue block (RankScan entry term index) n = rank_scan-decided catalogue block entry term index n.0.some n.1.some
part-decided catalogue block (Rank term child) n =
    Decides-and (is_part catalogue block child) (is_rank block term (entries child) (terms child))
    (part-decided catalogue block child n.1) (rank-decided block term child n.0.some)
part-decided catalogue block (JoinOperator kind left right) n =
    Decides-like (is_part catalogue block (JoinOperator kind left right))
    (λ all. (all.0, all.1.0, all.1.1.0, all.1.1.1))
    (λ all. (all.0, (all.1, (all.2, all.3))))
    (Decides-and (is_part catalogue block left) (is_part catalogue block right && (are_joined left right && may_join kind block (entries left) (entries right)))
    (part-decided catalogue block left n.0)
    (Decides-and (is_part catalogue block right) (are_joined left right && may_join kind block (entries left) (entries right))
    (part-decided catalogue block right n.1)
    (Decides-and (are_joined left right) (may_join kind block (entries left) (entries right))
    (joined-decided left right) (may_join-decided kind block (entries left) (entries right)))))
part-decided catalogue block (Distinct child) n =
    Decides-and (is_part catalogue block child) (is_distinct block child) (part-decided catalogue block child n) (distinct-decided block child)
part-decided catalogue block (SetOperator left right) n = never

complete-decided : (catalogue : CatalogDef) (block : Block) (tree : PlanTree) → HasNumbers tree → Decides (is_complete catalogue block tree) (IsComplete catalogue block tree)
complete-decided catalogue block tree n =
    Decides-like (is_complete catalogue block tree)
    (λ all. record { part = all.0; all = all.1.0; drops = all.1.1 })
    (λ complete. (complete.part, (complete.all, complete.drops)))
    (Decides-and (is_part catalogue block tree) ((entries tree == all_entries block) && (not block.distinct || not (has_no_distinct tree)))
    (part-decided catalogue block tree n)
    (Decides-and (entries tree == all_entries block) (not block.distinct || not (has_no_distinct tree))
    (Decides-eqb (entries tree) (all_entries block)) (demanded block.distinct (has_no_distinct tree) (whole-decided tree))))

set_plan-decided : (catalogue : CatalogDef) (left right : Block) (tree : PlanTree) → HasNumbers tree
    → Decides (is_set_plan catalogue left right tree) (IsSetPlan catalogue left right tree)
set_plan-decided catalogue left right (SeqScan entry) n = never
set_plan-decided catalogue left right (RankScan entry term index) n = never
set_plan-decided catalogue left right (Rank term child) n =
    Decides-and (is_set_plan catalogue left right child) (is_rank left term (entries child) (terms child))
    (set_plan-decided catalogue left right child n.1) (rank-decided left term child n.0.some)
set_plan-decided catalogue left right (JoinOperator kind l r) n = never
set_plan-decided catalogue left right (Distinct child) n = never
set_plan-decided catalogue left right (SetOperator l r) n =
    Decides-like (is_set_plan catalogue left right (SetOperator l r))
    (λ all. (all.0, all.1.0, all.1.1))
    (λ all. (all.0, (all.1, all.2)))
    (Decides-and (is_complete catalogue left l) (is_complete catalogue right r && (terms l == terms r))
    (complete-decided catalogue left l n.0)
    (Decides-and (is_complete catalogue right r) (terms l == terms r) (complete-decided catalogue right r n.1) (Decides-eqb (terms l) (terms r))))

pub plan-decided : (catalogue : CatalogDef) (query : Query) (tree : PlanTree) → HasNumbers tree → Decides (is_plan catalogue query tree) (IsPlan catalogue query tree)
plan-decided catalogue (One block limit) tree n =
    Decides-and (is_complete catalogue block tree) (terms tree == all_terms block)
    (complete-decided catalogue block tree n) (Decides-eqb (terms tree) (all_terms block))
plan-decided catalogue (Set op left right limit) tree n =
    Decides-and (is_set_plan catalogue left right tree) (terms tree == all_terms left)
    (set_plan-decided catalogue left right tree n) (Decides-eqb (terms tree) (all_terms left))

-- the numbers in a part of a plan are those of entries and terms
term-number : (block : Block) (number : ℕ) (term : Term) → length block.terms ≤ 8 → IsTermOf block number term → IsUpTo 8 number
term-number block number term most is = record { some = is.some; within = there block.terms number 8 term most is.some is.there }

entry-number : (block : Block) (entry : ℕ) → length block.from ≤ 6 → IsEntryNumber block entry → IsUpTo 6 entry
entry-number block entry most is = let below = is.most in record { some = is.some; within = omega arith }

pub part-numbers : (catalogue : CatalogDef) (block : Block) (tree : PlanTree) → length block.from ≤ 6 → length block.terms ≤ 8 → IsPart catalogue block tree → HasNumbers tree
part-numbers catalogue block (SeqScan entry) from terms is = entry-number block entry from is
part-numbers catalogue block (RankScan entry term index) from terms is =
    (entry-number block entry from is.is_entry, term-number block term is.term terms is.is_term)
part-numbers catalogue block (Rank term child) from terms is =
    (term-number block term is.1.term terms is.1.is_term, part-numbers catalogue block child from terms is.0)
part-numbers catalogue block (JoinOperator kind left right) from terms is =
    (part-numbers catalogue block left from terms is.0, part-numbers catalogue block right from terms is.1)
part-numbers catalogue block (Distinct child) from terms is = part-numbers catalogue block child from terms is.0
part-numbers catalogue block (SetOperator left right) from terms is = absurd is

set_plan-numbers : (catalogue : CatalogDef) (left right : Block) (tree : PlanTree)
    → length left.from ≤ 6 → length left.terms ≤ 8 → length right.from ≤ 6 → length right.terms ≤ 8
    → IsSetPlan catalogue left right tree → HasNumbers tree
set_plan-numbers catalogue left right (Rank term child) lf lt rf rt is =
    (term-number left term is.1.term lt is.1.is_term, set_plan-numbers catalogue left right child lf lt rf rt is.0)
set_plan-numbers catalogue left right (SetOperator l r) lf lt rf rt is =
    (part-numbers catalogue left l lf lt is.0.part, part-numbers catalogue right r rf rt is.1.part)
set_plan-numbers catalogue left right (SeqScan entry) lf lt rf rt is = absurd is
set_plan-numbers catalogue left right (RankScan entry term index) lf lt rf rt is = absurd is
set_plan-numbers catalogue left right (JoinOperator kind l r) lf lt rf rt is = absurd is
set_plan-numbers catalogue left right (Distinct child) lf lt rf rt is = absurd is

pub plan-numbers : (catalogue : CatalogDef) (query : Query) (tree : PlanTree) → IsQuery catalogue query → IsPlan catalogue query tree → HasNumbers tree
plan-numbers catalogue (One block limit) tree q is = part-numbers catalogue block tree q.0.most_entries q.0.most_terms is.0.part
plan-numbers catalogue (Set op left right limit) tree q is =
    set_plan-numbers catalogue left right tree q.0.left_block.most_entries q.0.left_block.most_terms q.0.right_block.most_entries q.0.right_block.most_terms is.0
