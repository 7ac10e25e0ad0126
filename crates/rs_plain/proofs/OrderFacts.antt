-- The keys of the rows of an answer rise.
use Rattle.std.proofs.Common.{◌≡◌, ℕ, List, [], ◌∷◌, sym, subst, ◌∙◌, rules}
use Rattle.std.specs.Prelude.{Option, Some, None}
use Rattle.std.specs.List.{AllByRecursion}
use Rattle.std.specs.Cmp.{IsTotalOrder}
use Rattle.std.specs.Cmp.Rules.{comparing}
use Rattle.std.specs.Ordering.{flip_args, nat_cmp, on, ordering_then, then_cmp}
use Rattle.std.specs.declared.cmp.Ordering.{Ordering}
use Rattle.std.specs.declared.cmp.Ordering.TheVariants.{Less, Equal, Greater}
use Rattle.rs_order.specs.Climbing.{Climbs, Differs, HasDistinctKeys, Precedes}
use Rattle.rs_order.proofs.PartFacts.{Climbs-take}
use Rattle.rs_order.proofs.SortingFacts.{Climbs-sorted, sorted-places}
use Rattle.rs_rank.specs.declared.answer.Answer.{Answer}
use Rattle.rs_rank.specs.Keys.{ids_cmp, key_cmp}
use Rattle.rs_rank.specs.Stable.{stable}
use Rattle.rs_rank.proofs.SortedFacts.{ids_cmp-total, stable-by_score}
use Rattle.rs_expr.specs.Scoring.{Answering}
use Rattle.rs_catalog.specs.Catalog.{CatalogDef}
use Rattle.rs_query.specs.Answers.{answer_of, cut, limit_of, rows_of}
use Rattle.rs_query.specs.Views.{View}
use Rattle.rs_query.specs.declared.query.Query.{Query}
use Rattle.rs_query.proofs.RiseFacts.{Rise, Rise-query, ids_of}
use Rattle.rs_plain.specs.Ordering.{key_of_answer}

-- the order by scores and then ids
abbrev answer_cmp : Answer → Answer → Ordering
answer_cmp = then_cmp (on (λ (r : Answer). r.score) (flip_args nat_cmp)) (on (λ (r : Answer). r.ids) ids_cmp)

answer_cmp-total : IsTotalOrder answer_cmp
answer_cmp-total = search (comparing, rules) depth 9

tied-behind : (first second : Ordering) → ordering_then first second ≡ Equal → second ≡ Equal
tied-behind Equal second h = h
tied-behind Less second h = cc
tied-behind Greater second h = cc

differs : (r : Answer) (rows : List Answer) → AllByRecursion (Precedes ids_cmp ids_of r) rows → AllByRecursion (Differs answer_cmp (λ (x : Answer). x) r) rows
differs r [] h = tt
differs r (other ∷ rows) h = ((λ e. (let tied = tied-behind (nat_cmp other.score r.score) (ids_cmp r.ids other.ids) e in let less = h.0 in cc)), differs r rows h.1)

distinct : (rows : List Answer) → Rise rows → HasDistinctKeys answer_cmp (λ (x : Answer). x) rows
distinct [] h = tt
distinct (r ∷ rows) h = (differs r rows h.0, distinct rows h.1)

-- the order by keys is that order
each-keyed : (r : Answer) (rows : List Answer) → AllByRecursion (Precedes answer_cmp (λ (x : Answer). x) r) rows → AllByRecursion (Precedes key_cmp key_of_answer r) rows
each-keyed r [] h = tt
each-keyed r (other ∷ rows) h = (h.0, each-keyed r rows h.1)

keyed : (rows : List Answer) → Climbs answer_cmp (λ (x : Answer). x) rows → Climbs key_cmp key_of_answer rows
keyed [] h = tt
keyed (r ∷ rows) h = (each-keyed r rows h.0, keyed rows h.1)

Climbs-cut : (limit : Option ℕ) (rows : List Answer) → Climbs key_cmp key_of_answer rows → Climbs key_cmp key_of_answer (cut limit rows)
Climbs-cut None rows h = h
Climbs-cut (Some n) rows h = Climbs-take key_cmp key_of_answer n rows h

pub Climbs-stable : (rows : List Answer) → Rise rows → Climbs key_cmp key_of_answer (stable (λ (r : Answer). r.score) rows)
Climbs-stable rows h =
    let by_score = stable-by_score (λ (r : Answer). r.score) rows in
    let by_ids = sorted-places (flip_args nat_cmp) (λ (r : Answer). r.score) ids_cmp ids_cmp-total ids_of rows h in
    keyed (stable (λ (r : Answer). r.score) rows) (subst (λ ordered. Climbs answer_cmp (λ (x : Answer). x) ordered) (sym (by_score ∙ by_ids))
    (Climbs-sorted answer_cmp answer_cmp-total (λ (x : Answer). x) rows (distinct rows h)))

pub Climbs-answer : (answer : Answering) (catalogue : CatalogDef) (query : Query) (view : View) → Climbs key_cmp key_of_answer (answer_of answer catalogue query view)
Climbs-answer answer catalogue query view =
    Climbs-cut (limit_of query) (stable (λ (r : Answer). r.score) (rows_of answer catalogue query view))
    (Climbs-stable (rows_of answer catalogue query view) (Rise-query answer catalogue query view))
