-- What the functions that read expressions give back: rule by rule, what was read stands for the node that they make of it.
use Rattle.std.proofs.Common.{ℕ, ◌≡◌, ◌∙◌, ◌<◌, ◌≤◌, true, false, List, [], ◌∷◌, ◌++◌, Result, Ok, Err, refl, sym, ap, arith, append_assoc, map}
use Rattle.std.proofs.lemmas.List.{append-nil, map-append}
use Rattle.rs_value.specs.declared.rel.Rel.{Rel}
use Rattle.rs_grammar.specs.Grammar.{Part, One, Many, Use, Tree, Nothing, More, ◌⨟◌, word, start_of, expr, neg, comp, sum, sign, base, case, when}
use Rattle.rs_grammar.specs.Kinds.{comparisons, counted_kinds}
use Rattle.rs_grammar.specs.Reading as reading
use Rattle.rs_grammar.specs.Reading.{State, Read, opens}
use Rattle.rs_grammar.specs.declared.kind.TokenKind.{TokenKind}
use Rattle.rs_grammar.specs.declared.kind.TokenKind.TheVariants as kinds
use Rattle.rs_grammar.specs.declared.kind.TokenKind.TheVariants.{Semicolon}
use Rattle.rs_grammar.proofs.Predict.{within, disjoint}
use Rattle.rs_lex.specs.declared.token.Span.{Span}
use Rattle.rs_syntax.specs.Cases.{Branch, whens_of, when_of, when_view, cases_in}
use Rattle.rs_syntax.specs.Expressions.{rel_of, expr_of, neg_of, comp_of, sum_of, sign_of, base_of, case_of, cases, condition_of, result_of}
use Rattle.rs_syntax.specs.Makes.{Makes}
use Rattle.rs_syntax.specs.Operands.{first_expr_of}
use Rattle.rs_syntax.specs.Reads.{Found, Halts, Reads}
use Rattle.rs_syntax.specs.Syntax.{Expression, Neg, Case, Compare, Not, expression_of}
use Rattle.rs_syntax.specs.Trees.{ends_at, span, leaf_span}
use Rattle.rs_syntax.specs.declared.node.Node as node
use Rattle.rs_syntax.specs.declared.parser.ParserFault.{ParserFault}
use Rattle.rs_syntax.specs.declared.parser.cases.When.{When}
use Rattle.rs_syntax.proofs.Chains.{neg_of-this, neg_of-that, comp_of-this, comp_of-that, sign_of-this, sign_of-that, case_of-node, condition_of-node, result_of-node, cases-list}
use Rattle.rs_syntax.proofs.Spans.{read-starts, read-ends, counted-left, token-left, quiet-left, is_quiet}
use Rattle.rs_syntax.proofs.Steps.{read-both, read-this, read-that, read-not, read-stop, read-more, read-rule, found, halts-that, halts-item, halts-later, halts-rule, halts-made}
use Rattle.rs_syntax.proofs.Operands.{before}

-- WHEN parts that begin at b stand at x with these read
pub record Repeating (b x : State) (made : List Branch) : Type 0 where
  pub reads : (u : Tree) (a : State) → Read (Many (Use when)) x u a → Found (Many (Use when)) whens_of b a (made ++ whens_of u)
  pub halts : (fault : ParserFault) (a : State) → Halts (Many (Use when)) x fault a → Halts (Many (Use when)) b fault a

-- none was read yet
pub Repeating-start : (b : State) → Repeating b b []
Repeating-start b = record { reads = λ u a r. found r refl; halts = λ fault a k. k }

-- one more was read
pub Repeating-more : {b x y : State} {made : List Branch} {branch : Branch} → Repeating b x made → opens (Use when) x ≡ true → Found (Use when) when_of x y branch → Repeating b y (made ++ branch ∷ [])
Repeating-more {made = made} {branch = branch} h o k = record {
  reads = λ u a s.
      let whole = h.reads (More k.tree u) a (read-more o k.read s) in
      found whole.read (whole.means ∙ ap (λ one. made ++ one ∷ whens_of u) k.means ∙ sym (append_assoc made (branch ∷ []) (whens_of u)));
  halts = λ fault a s. h.halts fault a (halts-later o k.read s);
}

-- no further one stands there
pub Repeating-end : {b x : State} {made : List Branch} → Repeating b x made → opens (Use when) x ≡ false → Found (Many (Use when)) whens_of b x made
Repeating-end {x = x} {made = made} h o = let whole = h.reads Nothing x (read-stop o) in found whole.read (whole.means ∙ append-nil made)

-- the next one isn't read
pub Repeating-halts : {b x a : State} {made : List Branch} {fault : ParserFault} → Repeating b x made → opens (Use when) x ≡ true → Halts (Use when) x fault a → Halts (Many (Use when)) b fault a
Repeating-halts {a = a} {fault = fault} h o k = h.halts fault a (halts-item o k)

pub Repeating-push : {b x y : State} (before after : List When) (part : When) → after ≡ before ++ part ∷ [] → Repeating b x (map when_view before) → opens (Use when) x ≡ true
    → Found (Use when) when_of x y (when_view part) → Repeating b y (map when_view after)
Repeating-push before after part e h o k = rw (ap (map when_view) e ∙ map-append when_view before (part ∷ [])) (Repeating-more h o k)

-- no more are left behind a token that isn't `;`, fewer behind one that counts
pub token-less : {kinds : List TokenKind} {A : Type 0} {f : Tree → A} {b a : State} {value : A} → Found (One kinds) f b a value → disjoint kinds (Semicolon ∷ []) ≡ true → a.left ≤ b.left
token-less h d = token-left h.read d

pub counted-less : {kinds : List TokenKind} {A : Type 0} {f : Tree → A} {b a : State} {value : A} → Found (One kinds) f b a value → within kinds counted_kinds ≡ true → disjoint kinds (Semicolon ∷ []) ≡ true
    → a.left < b.left
counted-less h c d = counted-left h.read c d

-- no more are left behind a part without `;`
pub part-less : {p : Part} {A : Type 0} {f : Tree → A} {b a : State} {value : A} → Found p f b a value → is_quiet p ≡ true → a.left ≤ b.left
part-less h q = quiet-left h.read q

-- fewer are left behind an operator and its operand
pub item-less : {kinds : List TokenKind} {p : Part} {A B : Type 0} {f : Tree → A} {g : Tree → B} {b x a : State} {v : A} {w : B} → Found (One kinds) f b x v → Found p g x a w
    → within kinds counted_kinds ≡ true → disjoint kinds (Semicolon ∷ []) ≡ true → is_quiet p ≡ true → a.left < b.left
item-less {b = b} {x = x} {a = a} k h c d q =
    let one : x.left < b.left = counted-left k.read c d in
    let two : a.left ≤ x.left = quiet-left h.read q in
    omega arith

-- as many or fewer than before are left there
pub behind-le : {kinds : List TokenKind} {p : Part} {A B : Type 0} {f : Tree → A} {g : Tree → B} {b x a : State} {v : A} {w : B} {n : ℕ} → Found (One kinds) f b x v → Found p g x a w
    → within kinds counted_kinds ≡ true → disjoint kinds (Semicolon ∷ []) ≡ true → is_quiet p ≡ true → b.left ≤ n → a.left ≤ n
behind-le {b = b} {a = a} {n = n} k h c d q le = let less : a.left < b.left = item-less k h c d q in omega arith

-- fewer are left behind a WHEN part
pub when-less : {A : Type 0} {f : Tree → A} {b a : State} {value : A} → Found (Use when) f b a value → a.left < b.left
when-less {b = b} {a = a} h = go h.tree h.read
  where
    go : (t : Tree) → Read (Use when) b t a → a.left < b.left
    go t (reading.Read.by_rule _ _ _ _ (reading.Read.both _ _ w u _ x _ r s)) =
        let one : x.left < b.left = counted-left r refl refl in
        let two : a.left ≤ x.left = quiet-left s refl in
        omega arith

-- neg

pub neg-that : (b a : State) (r : Result node.Node ParserFault) → opens (word kinds.Not ⨟ Use neg) b ≡ false → Reads (Use comp) comp_of expression_of b a r → Reads (Use neg) neg_of expression_of b a r
neg-that b a (Ok v) o h = found (read-rule (read-that o h.read)) (neg_of-that h.tree ∙ h.means)
neg-that b a (Err f) o h = halts-rule (halts-that o h)

pub neg-this : (from : ℕ) (r : Result node.Node ParserFault) {b x a : State} {part : Expression} {at place : Span} → from ≡ start_of b.rest → opens (word kinds.Not ⨟ Use neg) b ≡ true
    → Found (word kinds.Not) leaf_span b x place → Found (Use neg) neg_of x a part → at ≡ span from a.last → Makes (Not part at) r → Reads (Use neg) neg_of expression_of b a r
neg-this from (Ok v) e o k h is made =
    let starts = read-starts k.read refl in
    let ends = read-ends h.read refl in
    let m = h.means in
    found (read-rule (read-this o (read-both k.read h.read))) (neg_of-this k.tree h.tree ∙ cc)
neg-this from (Err f) e o k h is made = halts-made made

-- comp

pub comp-that : {b a : State} {left : Expression} → Found (Use sum) sum_of b a left → opens (One comparisons ⨟ Use sum) a ≡ false → Found (Use comp) comp_of b a left
comp-that h o = found (read-rule (read-both h.read (read-not o))) (comp_of-that h.tree Nothing ∙ h.means)

pub comp-this : (from : ℕ) (r : Result node.Node ParserFault) {b x y a : State} {left right : Expression} {rel : Rel} {at : Span} → from ≡ start_of b.rest → Found (Use sum) sum_of b x left
    → opens (One comparisons ⨟ Use sum) x ≡ true → Found (One comparisons) rel_of x y rel → Found (Use sum) sum_of y a right → at ≡ span from a.last
    → Makes (Compare rel left right at) r → Reads (Use comp) comp_of expression_of b a r
comp-this from (Ok v) e h o k i is made =
    let starts = read-starts h.read refl in
    let ends = read-ends i.read refl in
    let m = h.means in
    let n = k.means in
    let q = i.means in
    found (read-rule (read-both h.read (read-this o (read-both k.read i.read)))) (comp_of-this h.tree k.tree i.tree ∙ cc)
comp-this from (Err f) e h o k i is made = halts-made made

-- sign

pub sign-that : (b a : State) (r : Result node.Node ParserFault) → opens (word kinds.Minus ⨟ Use sign) b ≡ false → Reads (Use base) base_of expression_of b a r → Reads (Use sign) sign_of expression_of b a r
sign-that b a (Ok v) o h = found (read-rule (read-that o h.read)) (sign_of-that h.tree ∙ h.means)
sign-that b a (Err f) o h = halts-rule (halts-that o h)

pub sign-this : (from : ℕ) (r : Result node.Node ParserFault) {b x a : State} {part : Expression} {at place : Span} → from ≡ start_of b.rest → opens (word kinds.Minus ⨟ Use sign) b ≡ true
    → Found (word kinds.Minus) leaf_span b x place → Found (Use sign) sign_of x a part → at ≡ span from a.last → Makes (Neg part at) r → Reads (Use sign) sign_of expression_of b a r
sign-this from (Ok v) e o k h is made =
    let starts = read-starts k.read refl in
    let ends = read-ends h.read refl in
    let m = h.means in
    found (read-rule (read-this o (read-both k.read h.read))) (sign_of-this k.tree h.tree ∙ cc)
sign-this from (Err f) e o k h is made = halts-made made

-- case

pub case-found : (from : ℕ) (r : Result node.Node ParserFault) {b x y z v a : State} {first : Branch} {others : List Branch} {otherwise : Expression} {at one two : Span} → from ≡ start_of b.rest
    → Found (word kinds.Case) leaf_span b x one → Found (Use when) when_of x y first → Found (Many (Use when)) whens_of y z others → Found (word kinds.Else) leaf_span z v two
    → Found (Use expr ⨟ word kinds.End) first_expr_of v a otherwise → at ≡ span from a.last → Makes (Case first.condition first.outcome (cases_in at.end others otherwise) at) r → Reads (Use case) case_of expression_of b a r
case-found from (Ok q) {a = a} {first = first} {others = others} {otherwise = otherwise} {at = at} e k f os i h is made =
    let j = before h in
    let starts = read-starts k.read refl in
    let ends = read-ends j.closed refl in
    let condition : condition_of f.tree ≡ first.condition = ap (λ p. p.condition) f.means in
    let outcome : result_of f.tree ≡ first.outcome = ap (λ p. p.outcome) f.means in
    let to : ends_at j.last ≡ at.end = ends ∙ ap (λ s. s.end) (sym is) in
    let listed : cases (ends_at j.last) (expr_of j.tree) os.tree ≡ cases_in at.end others otherwise =
    cases-list (ends_at j.last) (expr_of j.tree) os.tree ∙ ap (λ n. cases_in n (whens_of os.tree) (expr_of j.tree)) to ∙ ap (λ ps. cases_in at.end ps (expr_of j.tree)) os.means
    ∙ ap (cases_in at.end others) j.means in
    found (read-rule (read-both k.read (read-both f.read (read-both os.read (read-both i.read (read-both j.read j.closed)))))) (case_of-node k.tree f.tree os.tree i.tree j.tree j.last ∙ cc)
case-found from (Err f) e k fs os i h is made = halts-made made

-- when

pub when-found : (from : ℕ) {b x z a : State} {condition outcome : Expression} {one : Span} → from ≡ start_of b.rest → Found (word kinds.When) leaf_span b x one
    → Found (Use expr ⨟ word kinds.Then) first_expr_of x z condition → Found (Use expr) expr_of z a outcome → Found (Use when) when_of b a (record { from = from; condition = condition; outcome = outcome })
when-found from e k c o =
    let i = before c in
    let whole = read-rule {r = when} (read-both k.read (read-both i.read (read-both i.closed o.read))) in
    let starts = read-starts whole refl in
    let conditions = condition_of-node k.tree i.tree i.last o.tree ∙ i.means in
    let outcomes = result_of-node k.tree i.tree i.last o.tree ∙ o.means in
    found whole cc
