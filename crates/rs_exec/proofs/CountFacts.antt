-- What the nodes of a plan that stand count is what the definition says.
use Rattle.std.proofs.Common.{◌≡◌, ◌∙◌, ℕ, zero, suc, List, [], ◌∷◌, ◌++◌, Box, Global, refl, sym, ap, ap₂, subst, length, ◌+◌}
use Rattle.std.specs.Prelude.{Some, None, Result, Ok, Err, slice_get}
use Rattle.std.proofs.lemmas.List.{length-append}
use Rattle.rs_order.specs.Schedule.{Left, Right}
use Rattle.rs_plan.specs.Counts.{counts, counts_at, asked_of}
use Rattle.rs_plan.specs.declared.counts.Counts.{Counts}
use Rattle.rs_plan.specs.Lists.{World}
use Rattle.rs_plan.specs.Trees.{Distinct, JoinOperator, Rank, SetOperator}
use Rattle.rs_exec.specs.Cores.{kind_of}
use Rattle.rs_exec.specs.declared.distinct.DistinctNode.{DistinctNode}
use Rattle.rs_exec.specs.declared.join.JoinNode.{JoinNode}
use Rattle.rs_exec.specs.declared.node.PlanNode.{PlanNode}
use Rattle.rs_exec.specs.declared.node.PlanNode.TheVariants as node
use Rattle.rs_exec.specs.declared.node.PlanNode.TheViews as view
use Rattle.rs_exec.specs.declared.rank.RankNode.{RankNode}
use Rattle.rs_exec.specs.declared.scan.IndexNode.{IndexNode}
use Rattle.rs_exec.specs.declared.scan.TableNode.{TableNode}
use Rattle.rs_exec.specs.declared.set.SetNode.{SetNode}
use Rattle.rs_exec.specs.Nodes.{asked_in, at_or_past, counts_in, tree_in}
use Rattle.rs_exec.specs.Standing.{Stands}

-- lists that are as long as others are so together
both-lengths : {A B : Type 0} (xs ys : List A) (us vs : List B) → length xs ≡ length us → length ys ≡ length vs → length (xs ++ ys) ≡ length (us ++ vs)
both-lengths xs ys us vs first second = length-append xs ys ∙ ap₂ (λ (n m : ℕ). n + m) first second ∙ sym (length-append us vs)

pub counts-stand : (w : World) (number : ℕ) (n : PlanNode) → Stands w number n → counts_in n ≡ counts w number (tree_in n) (asked_in n)
counts-stand w number (node.SeqScan head) is =
    ap (λ (n : TableNode). record { asked = n.tally.asked; gave = n.tally.gave; calls = 0; drawn = n.scan.drawn } ∷ []) is
counts-stand w number (node.RankScan head) is =
    ap (λ (n : IndexNode). record { asked = n.tally.asked; gave = n.tally.gave; calls = 0; drawn = n.scan.drawn } ∷ []) is
counts-stand w number (node.Rank' head p child) is =
    ap (λ (n : RankNode). record { asked = n.tally.asked; gave = n.tally.gave; calls = n.calls; drawn = 0 } ∷ counts_in child) is.0.keeps
    ∙ ap (λ (rest : List Counts). counts_at w number (Rank head.term (tree_in child)) head.tally.asked ∷ rest)
    (counts-stand w number child is.1 ∙ ap (counts w number (tree_in child)) is.0.asked)
counts-stand w number (node.Join' head p left q right) is =
    ap (λ (n : JoinNode). record { asked = n.tally.asked; gave = n.tally.gave; calls = 0; drawn = 0 } ∷ counts_in left ++ counts_in right) is.0.keeps
    ∙ ap₂ (λ (on_left on_right : List Counts). counts_at w number (JoinOperator (kind_of head.core) (tree_in left) (tree_in right)) head.tally.asked ∷ on_left ++ on_right)
    (counts-stand w number left is.1 ∙ ap (counts w number (tree_in left)) is.0.left_asked)
    (counts-stand w number right is.2 ∙ ap (counts w number (tree_in right)) is.0.right_asked)
counts-stand w number (node.Distinct' head p child) is =
    ap (λ (n : DistinctNode). record { asked = n.tally.asked; gave = n.tally.gave; calls = 0; drawn = 0 } ∷ counts_in child) is.0.keeps
    ∙ ap (λ (rest : List Counts). counts_at w number (Distinct (tree_in child)) head.tally.asked ∷ rest)
    (counts-stand w number child is.1 ∙ ap (counts w number (tree_in child)) is.0.asked)
counts-stand w number (node.Set' head p left q right) is =
    subst (λ n. counts_in (node.Set' head p left q right) ≡ counts w n (SetOperator (tree_in left) (tree_in right)) head.tally.asked) (sym is.0)
    (ap (λ gave. record { asked = head.tally.asked; gave = gave; calls = 0; drawn = 0 } ∷ counts_in left ++ counts_in right) is.1.gave
    ∙ ap₂ (λ (on_left on_right : List Counts). counts_at w 1 (SetOperator (tree_in left) (tree_in right)) head.tally.asked ∷ on_left ++ on_right)
    (counts-stand w 1 left is.2 ∙ ap (counts w 1 (tree_in left)) is.1.left_asked)
    (counts-stand w 2 right is.3 ∙ ap (counts w 2 (tree_in right)) is.1.right_asked))

-- a node has as many counts as its tree, whatever was asked
pub counts-length : (w : World) (number : ℕ) (n : PlanNode) (a : ℕ) → length (counts_in n) ≡ length (counts w number (tree_in n) a)
counts-length w number (node.SeqScan head) a = refl
counts-length w number (node.RankScan head) a = refl
counts-length w number (node.Rank' head p child) a = ap suc (counts-length w number child (asked_of w number (Rank head.term (tree_in child)) a Left))
counts-length w number (node.Join' head p left q right) a =
    ap suc (both-lengths (counts_in left) (counts_in right)
    (counts w number (tree_in left) (asked_of w number (JoinOperator (kind_of head.core) (tree_in left) (tree_in right)) a Left)) (counts w number (tree_in right) (asked_of w number (JoinOperator (kind_of head.core) (tree_in left) (tree_in right)) a Right))
    (counts-length w number left (asked_of w number (JoinOperator (kind_of head.core) (tree_in left) (tree_in right)) a Left)) (counts-length w number right (asked_of w number (JoinOperator (kind_of head.core) (tree_in left) (tree_in right)) a Right)))
counts-length w number (node.Distinct' head p child) a = ap suc (counts-length w number child (asked_of w number (Distinct (tree_in child)) a Left))
counts-length w number (node.Set' head p left q right) a =
    ap suc (both-lengths (counts_in left) (counts_in right)
    (counts w 1 (tree_in left) (asked_of w number (SetOperator (tree_in left) (tree_in right)) a Left)) (counts w 2 (tree_in right) (asked_of w number (SetOperator (tree_in left) (tree_in right)) a Right))
    (counts-length w 1 left (asked_of w number (SetOperator (tree_in left) (tree_in right)) a Left)) (counts-length w 2 right (asked_of w number (SetOperator (tree_in left) (tree_in right)) a Right)))

-- what is found in a list; past its end, in the next one
abbrev or_past : {A : Type 0} → Result A ℕ → List A → Result A ℕ
or_past (Ok x) ys = Ok x
or_past (Err place) ys = at_or_past ys place

at_or_past-append : {A : Type 0} (xs ys : List A) (place : ℕ) → at_or_past (xs ++ ys) place ≡ or_past (at_or_past xs place) ys
at_or_past-append [] ys place = refl
at_or_past-append (x ∷ xs) ys zero = refl
at_or_past-append (x ∷ xs) ys (suc place) = at_or_past-append xs ys place

at_or_past-behind : {A : Type 0} (own : A) (xs ys : List A) (place rest : ℕ) → Err rest ≡ at_or_past (own ∷ []) place → at_or_past (own ∷ xs ++ ys) place ≡ or_past (at_or_past xs rest) ys
at_or_past-behind own xs ys zero rest e = absurd (cc)
at_or_past-behind own xs ys (suc place) rest e =
    let same : rest ≡ place = cc in
    at_or_past-append xs ys place ∙ ap (λ n. or_past (at_or_past xs n) ys) (sym same)

-- the counts of an operator over two sides, where the place isn't its own
two-counts : (self left right : PlanNode) (own : Counts) (middle : PlanNode) (place rest : ℕ) (found : Result Counts ℕ) → counts_in self ≡ own ∷ counts_in left ++ counts_in right
    → Err rest ≡ at_or_past (own ∷ []) place → middle ≡ left → found ≡ at_or_past (counts_in middle) rest → or_past found (counts_in right) ≡ at_or_past (counts_in self) place
two-counts self left right own middle place rest found all next value found_is =
    ap (λ (f : Result Counts ℕ). or_past f (counts_in right)) (found_is ∙ ap (λ (n : PlanNode). at_or_past (counts_in n) rest) value)
    ∙ sym (at_or_past-behind own (counts_in left) (counts_in right) place rest next)
    ∙ ap (λ (rows : List Counts). at_or_past rows place) (sym all)

pub join-counts : (self : PlanNode) (head : JoinNode) (left right : Box PlanNode Global) (own : Counts) (middle : PlanNode) (place rest : ℕ) (found : Result Counts ℕ) → self ≡ view.Join head left right
    → own ≡ record { asked = head.tally.asked; gave = head.tally.gave; calls = 0; drawn = 0 } → Err rest ≡ at_or_past (own ∷ []) place → middle ≡ left.value
    → found ≡ at_or_past (counts_in middle) rest → or_past found (counts_in right.value) ≡ at_or_past (counts_in self) place
join-counts self head left right own middle place rest found is own_is next value found_is =
    two-counts self left.value right.value own middle place rest found
    (ap counts_in is ∙ ap (λ (first : Counts). first ∷ counts_in left.value ++ counts_in right.value) (sym own_is)) next value found_is

pub set-counts : (self : PlanNode) (head : SetNode) (left right : Box PlanNode Global) (own : Counts) (middle : PlanNode) (place rest : ℕ) (found : Result Counts ℕ) → self ≡ view.Set head left right
    → own ≡ record { asked = head.tally.asked; gave = head.tally.gave; calls = 0; drawn = 0 } → Err rest ≡ at_or_past (own ∷ []) place → middle ≡ left.value
    → found ≡ at_or_past (counts_in middle) rest → or_past found (counts_in right.value) ≡ at_or_past (counts_in self) place
set-counts self head left right own middle place rest found is own_is next value found_is =
    two-counts self left.value right.value own middle place rest found
    (ap counts_in is ∙ ap (λ (first : Counts). first ∷ counts_in left.value ++ counts_in right.value) (sym own_is)) next value found_is

-- what is found is there, and nothing is past the end
pub at_or_past-found : {A : Type 0} (xs : List A) (place : ℕ) (x : A) → Ok x ≡ at_or_past xs place → Some x ≡ slice_get xs place
at_or_past-found [] place x e = absurd (cc)
at_or_past-found (y ∷ xs) zero x e = cc
at_or_past-found (y ∷ xs) (suc place) x e = at_or_past-found xs place x e

pub at_or_past-none : {A : Type 0} (xs : List A) (place rest : ℕ) → Err rest ≡ at_or_past xs place → None ≡ slice_get xs place
at_or_past-none [] place rest e = refl
at_or_past-none (y ∷ xs) zero rest e = absurd (cc)
at_or_past-none (y ∷ xs) (suc place) rest e = at_or_past-none xs place rest e
