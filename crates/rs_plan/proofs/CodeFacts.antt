-- The order of codes: where two codes go on, what decides is what stands first.
use Rattle.std.proofs.Common.{◌≡◌, ℕ, List, [], ◌∷◌, ◌++◌, refl, sym, ◌∙◌, ap, append_assoc}
use Rattle.std.specs.Ordering.{nat_cmp, ordering_then}
use Rattle.std.specs.declared.cmp.Ordering.{Ordering}
use Rattle.std.specs.declared.cmp.Ordering.TheVariants.{Less, Equal, Greater}
use Rattle.rs_plan.specs.Trees.{Distinct, Hash, JoinKind, JoinOperator, Nested, Rank, RankScan, SeqScan, SetOperator, PlanTree, code, code_cmp, entries, join_number, terms}

pub then-then : (a b c : Ordering) → ordering_then (ordering_then a b) c ≡ ordering_then a (ordering_then b c)
then-then Less b c = refl
then-then Equal b c = refl
then-then Greater b c = refl

-- what follows two lists decides only where they are equal
abbrev IsSplit : List ℕ → List ℕ → Type 0
IsSplit a b = (xs ys : List ℕ) → code_cmp (a ++ xs) (b ++ ys) ≡ ordering_then (code_cmp a b) (code_cmp xs ys)

IsSplit-none : IsSplit [] []
IsSplit-none = λ xs ys. refl

IsSplit-more : (m n : ℕ) (a b : List ℕ) → IsSplit a b → IsSplit (m ∷ a) (n ∷ b)
IsSplit-more m n a b split = λ xs ys.
    ap (ordering_then (nat_cmp m n)) (split xs ys) ∙ sym (then-then (nat_cmp m n) (code_cmp a b) (code_cmp xs ys))

IsSplit-append : (a b c d : List ℕ) → IsSplit a b → IsSplit c d → IsSplit (a ++ c) (b ++ d)
IsSplit-append a b c d first second = λ xs ys.
    let before : code_cmp ((a ++ c) ++ xs) ((b ++ d) ++ ys) ≡ code_cmp (a ++ (c ++ xs)) (b ++ (d ++ ys)) =
    λ at. code_cmp (append_assoc a c xs at) (append_assoc b d ys at) in
    before ∙ first (c ++ xs) (d ++ ys) ∙ ap (ordering_then (code_cmp a b)) (second xs ys)
    ∙ sym (then-then (code_cmp a b) (code_cmp c d) (code_cmp xs ys))
    ∙ ap (λ o. ordering_then o (code_cmp xs ys)) (sym (first c d))

-- no code goes on where another one ends
pub code-split : (a b : PlanTree) (xs ys : List ℕ) → code_cmp (code a ++ xs) (code b ++ ys) ≡ ordering_then (code_cmp (code a) (code b)) (code_cmp xs ys)
code-split (SeqScan e) (SeqScan f) = IsSplit-more 1 1 (e ∷ []) (f ∷ []) (IsSplit-more e f [] [] IsSplit-none)
code-split (SeqScan e) (JoinOperator Hash m s) = λ xs ys. refl
code-split (SeqScan e) other = λ xs ys. refl
code-split (RankScan e t i) (RankScan f u j) =
    IsSplit-more 2 2 (e ∷ t ∷ []) (f ∷ u ∷ []) (IsSplit-more e f (t ∷ []) (u ∷ []) (IsSplit-more t u [] [] IsSplit-none))
code-split (RankScan e t i) (JoinOperator Hash m s) = λ xs ys. refl
code-split (RankScan e t i) other = λ xs ys. refl
code-split (Rank t a) (Rank u b) =
    IsSplit-more 3 3 (t ∷ code a) (u ∷ code b) (IsSplit-more t u (code a) (code b) (code-split a b))
code-split (Rank t a) (JoinOperator Hash m s) = λ xs ys. refl
code-split (Rank t a) other = λ xs ys. refl
code-split (JoinOperator k l r) (JoinOperator j m s) =
    IsSplit-more (join_number k) (join_number j) (entries l ∷ terms l ∷ code l ++ code r) (entries m ∷ terms m ∷ code m ++ code s)
    (IsSplit-more (entries l) (entries m) (terms l ∷ code l ++ code r) (terms m ∷ code m ++ code s)
    (IsSplit-more (terms l) (terms m) (code l ++ code r) (code m ++ code s)
    (IsSplit-append (code l) (code m) (code r) (code s) (code-split l m) (code-split r s))))
code-split (JoinOperator Hash l r) other = λ xs ys. refl
code-split (JoinOperator Nested l r) other = λ xs ys. refl
code-split (Distinct a) (Distinct b) = IsSplit-more 6 6 (code a) (code b) (code-split a b)
code-split (Distinct a) (JoinOperator Hash m s) = λ xs ys. refl
code-split (Distinct a) other = λ xs ys. refl
code-split (SetOperator l r) (SetOperator m s) =
    IsSplit-more 7 7 (code l ++ code r) (code m ++ code s)
    (IsSplit-append (code l) (code m) (code r) (code s) (code-split l m) (code-split r s))
code-split (SetOperator l r) (JoinOperator Hash m s) = λ xs ys. refl
code-split (SetOperator l r) other = λ xs ys. refl

-- the codes of two pairs of sides, and those of two joins
pub sides-cmp : (l r m s : PlanTree) → ordering_then (code_cmp (code l) (code m)) (code_cmp (code r) (code s)) ≡ code_cmp (code l ++ code r) (code m ++ code s)
sides-cmp l r m s = sym (code-split l m (code r) (code s))

pub joins-cmp : (k j : JoinKind) (l r m s : PlanTree)
    → ordering_then (nat_cmp (join_number k) (join_number j)) (ordering_then
    (ordering_then (nat_cmp (entries l) (entries m)) (nat_cmp (terms l) (terms m))) (ordering_then (code_cmp (code l) (code m)) (code_cmp (code r) (code s))))
    ≡ code_cmp (code (JoinOperator k l r)) (code (JoinOperator j m s))
joins-cmp k j l r m s =
    ap (ordering_then (nat_cmp (join_number k) (join_number j)))
    (then-then (nat_cmp (entries l) (entries m)) (nat_cmp (terms l) (terms m)) (ordering_then (code_cmp (code l) (code m)) (code_cmp (code r) (code s)))
    ∙ ap (λ o. ordering_then (nat_cmp (entries l) (entries m)) (ordering_then (nat_cmp (terms l) (terms m)) o)) (sides-cmp l r m s))
