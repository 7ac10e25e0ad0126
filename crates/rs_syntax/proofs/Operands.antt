-- What the functions that read operands give back: numbers, texts, columns, functions, brackets, and which of them begins.
use Rattle.std.proofs.Common.{ℕ, ◌≡◌, ◌∙◌, ◌<◌, ◌≤◌, true, false, List, [], ◌∷◌, Result, Ok, Err, refl, sym, ap, arith}
use Rattle.std.specs.Prelude.{ℤ}
use Rattle.rs_grammar.specs.Grammar.{Part, One, Seq, Use, Tree, Leaf, Pair, This, That, Node, ◌⨟◌, ◌∣◌, word, name, optional, expr, base, plain, absolute, extreme, brackets, case}
use Rattle.rs_grammar.specs.Kinds.{plain_names}
use Rattle.rs_grammar.specs.Reading as reading
use Rattle.rs_grammar.specs.Reading.{State, Read, Cause, Fails, next_is, opens}
use Rattle.rs_grammar.specs.declared.kind.TokenKind.{TokenKind}
use Rattle.rs_grammar.specs.declared.kind.TokenKind.TheVariants as kinds
use Rattle.rs_grammar.specs.declared.lexeme.Lexeme.{Lexeme}
use Rattle.rs_grammar.proofs.Predict.{disjoint}
use Rattle.rs_lex.specs.declared.token.Span.{Span}
use Rattle.rs_syntax.specs.Expressions.{column_in, extreme_of, expr_of, base_of, absolute_of, extreme_in, brackets_of, case_of}
use Rattle.rs_syntax.specs.Makes.{Makes}
use Rattle.rs_syntax.specs.Operands.{word_of, first_expr_of}
use Rattle.rs_syntax.specs.Reads.{Found, Halts, Reads}
use Rattle.rs_syntax.specs.Syntax.{Expression, Int, Text, Column, Abs, expression_of}
use Rattle.rs_syntax.specs.Trees.{starts_at, ends_at, span, span_of, kind_at, leaf, leaf_name, leaf_number, leaf_text, leaf_span, qualified}
use Rattle.rs_syntax.specs.declared.name.ColRef.{ColRef}
use Rattle.rs_syntax.specs.declared.node.Node as node
use Rattle.rs_syntax.specs.declared.parser.ParserFault.{ParserFault}
use Rattle.rs_syntax.specs.declared.parser.ParserFault.TheVariants.{Expected}
use Rattle.rs_syntax.specs.declared.parser.expressions.Word.TheVariants as called
use Rattle.rs_syntax.proofs.Chains.{base_of-number, base_of-literal, base_of-plain, base_of-absolute, base_of-extreme, base_of-brackets, base_of-case, absolute_of-this, absolute_of-that, extreme_in-this, extreme_in-that, brackets_of-node}
use Rattle.rs_syntax.proofs.Spans.{read-ends, counted-left, token-left, not-others}
use Rattle.rs_syntax.proofs.Steps.{read-both, read-this, read-that, read-rule, found, halts-first, halts-then, halts-this, halts-that, halts-rule, halts-as, halts-made}
use Rattle.rs_syntax.proofs.Tokens.{Fails-other}

-- the token that a tree of one token is
token-is : {kinds : List TokenKind} {t : Tree} {b a : State} → Read (One kinds) b t a → t ≡ Leaf (leaf t)
token-is (reading.Read.token _ l _ _ takes accepted shallow) = refl

pub base-number : {b a : State} {value : ℤ × Span} → opens (word kinds.Number) b ≡ true → Found (word kinds.Number) leaf_number b a value → Found (Use base) base_of b a (Int value.0 value.1)
base-number o h = found (read-rule (read-this o h.read)) (ap (λ t. base_of (Node (This t))) (token-is h.read) ∙ base_of-number (leaf h.tree) ∙ ap (λ v. Int v.0 v.1) h.means)

pub base-literal : {b a : State} {value : List ℕ × Span} → opens (word kinds.Number) b ≡ false → opens (word kinds.Literal) b ≡ true → Found (word kinds.Literal) leaf_text b a value
    → Found (Use base) base_of b a (Text value.0 value.1)
base-literal n o h =
    found (read-rule (read-that n (read-this o h.read))) (ap (λ t. base_of (Node (That (This t)))) (token-is h.read) ∙ base_of-literal (leaf h.tree) ∙ ap (λ v. Text v.0 v.1) h.means)

-- a token that is of some kinds is of no others
pub next-others : (kinds others : List TokenKind) (ls : List Lexeme) → disjoint kinds others ≡ true → next_is kinds ls ≡ true → next_is others ls ≡ false
next-others kinds others [] d e = refl
next-others kinds others (l ∷ ls) d e = not-others kinds others l.kind d e

-- neither a number nor a literal stands there
pub record Other (b : State) : Type 0 where
  pub number : opens (word kinds.Number) b ≡ false
  pub literal : opens (word kinds.Literal) b ≡ false

pub base-plain : {b a : State} {column : ColRef} → Other b → opens (Use plain) b ≡ true → Found (Use plain) column_in b a column → Found (Use base) base_of b a (Column column)
base-plain n o h = found (read-rule (read-that n.number (read-that n.literal (read-this o h.read)))) (base_of-plain h.tree ∙ ap Column h.means)

pub halts-plain : {b a : State} {fault : ParserFault} → Other b → opens (Use plain) b ≡ true → Halts (Use plain) b fault a → Halts (Use base) b fault a
halts-plain n o h = halts-rule (halts-that n.number (halts-that n.literal (halts-this o h)))

-- no operand begins there
pub halts-base : {b : State} → Other b → opens (Use plain) b ≡ false → opens (Use absolute) b ≡ false → opens (Use extreme) b ≡ false → opens (Use brackets) b ≡ false → opens (Use case) b ≡ false
    → Halts (Use base) b Expected b
halts-base {b = b} n p q s o e =
    halts-rule (halts-that n.number (halts-that n.literal (halts-that p (halts-that q (halts-that s (halts-that o (halts-rule (halts-first (Fails-other (kinds.Case ∷ []) b false (sym e) refl)))))))))

-- a token stands there with which no number, no literal and no column begins
record Begun (b : State) : Type 0 where
  pub other : Other b
  pub plain : opens (Use plain) b ≡ false

begun : {b : State} (some : List TokenKind) → disjoint some (kinds.Number ∷ []) ≡ true → disjoint some (kinds.Literal ∷ []) ≡ true → disjoint some plain_names ≡ true → next_is some b.rest ≡ true → Begun b
begun {b = b} some n l p o = record {
  other = record { number = next-others some (kinds.Number ∷ []) b.rest n o; literal = next-others some (kinds.Literal ∷ []) b.rest l o };
  plain = next-others some plain_names b.rest p o;
}

pub base-absolute : (b a : State) (r : Result node.Node ParserFault) → opens (Use absolute) b ≡ true → Reads (Use absolute) absolute_of expression_of b a r → Reads (Use base) base_of expression_of b a r
base-absolute b a (Ok v) o h =
    let n : Begun b = begun (kinds.Abs ∷ []) refl refl refl o in
    found (read-rule (read-that n.other.number (read-that n.other.literal (read-that n.plain (read-this o h.read))))) (base_of-absolute h.tree ∙ h.means)
base-absolute b a (Err f) o h =
    let n : Begun b = begun (kinds.Abs ∷ []) refl refl refl o in
    halts-rule (halts-that n.other.number (halts-that n.other.literal (halts-that n.plain (halts-this o h))))

pub base-extreme : (b a : State) (r : Result node.Node ParserFault) → opens (Use absolute) b ≡ false → opens (Use extreme) b ≡ true → Reads (Use extreme) extreme_in expression_of b a r
    → Reads (Use base) base_of expression_of b a r
base-extreme b a (Ok v) q o h =
    let n : Begun b = begun (kinds.Max ∷ kinds.Min ∷ []) refl refl refl o in
    found (read-rule (read-that n.other.number (read-that n.other.literal (read-that n.plain (read-that q (read-this o h.read)))))) (base_of-extreme h.tree ∙ h.means)
base-extreme b a (Err f) q o h =
    let n : Begun b = begun (kinds.Max ∷ kinds.Min ∷ []) refl refl refl o in
    halts-rule (halts-that n.other.number (halts-that n.other.literal (halts-that n.plain (halts-that q (halts-this o h)))))

pub base-brackets : (b a : State) (r : Result node.Node ParserFault) → opens (Use absolute) b ≡ false → opens (Use extreme) b ≡ false → opens (Use brackets) b ≡ true
    → Reads (Use brackets) brackets_of expression_of b a r → Reads (Use base) base_of expression_of b a r
base-brackets b a (Ok v) q s o h =
    let n : Begun b = begun (kinds.OpenBracket ∷ []) refl refl refl o in
    found (read-rule (read-that n.other.number (read-that n.other.literal (read-that n.plain (read-that q (read-that s (read-this o h.read))))))) (base_of-brackets h.tree ∙ h.means)
base-brackets b a (Err f) q s o h =
    let n : Begun b = begun (kinds.OpenBracket ∷ []) refl refl refl o in
    halts-rule (halts-that n.other.number (halts-that n.other.literal (halts-that n.plain (halts-that q (halts-that s (halts-this o h))))))

pub base-case : (b a : State) (r : Result node.Node ParserFault) → opens (Use absolute) b ≡ false → opens (Use extreme) b ≡ false → opens (Use brackets) b ≡ false → opens (Use case) b ≡ true
    → Reads (Use case) case_of expression_of b a r → Reads (Use base) base_of expression_of b a r
base-case b a (Ok v) q s e o h =
    let n : Begun b = begun (kinds.Case ∷ []) refl refl refl o in
    found (read-rule (read-that n.other.number (read-that n.other.literal (read-that n.plain (read-that q (read-that s (read-that e h.read))))))) (base_of-case h.tree ∙ h.means)
base-case b a (Err f) q s e o h =
    let n : Begun b = begun (kinds.Case ∷ []) refl refl refl o in
    halts-rule (halts-that n.other.number (halts-that n.other.literal (halts-that n.plain (halts-that q (halts-that s (halts-that e h))))))

-- an expression and a token behind it

pub record Before (kind : TokenKind) (b a : State) (whole : Expression) : Type 0 where
  pub tree : Tree
  pub last : Tree
  pub middle : State
  pub read : Read (Use expr) b tree middle
  pub closed : Read (word kind) middle last a
  pub means : expr_of tree ≡ whole

pub before : {kind : TokenKind} {b a : State} {whole : Expression} → Found (Use expr ⨟ word kind) first_expr_of b a whole → Before kind b a whole
before {kind = kind} {b = b} {a = a} {whole = whole} h = go h.tree h.read h.means
  where
    go : (t : Tree) → Read (Use expr ⨟ word kind) b t a → first_expr_of t ≡ whole → Before kind b a whole
    go t (reading.Read.both _ _ u v _ x _ r s) e = record { tree = u; last = v; middle = x; read = r; closed = s; means = e }

pub expr_before-found : {kind : TokenKind} {b x a : State} {whole : Expression} {place : Span} → Found (Use expr) expr_of b x whole → Found (word kind) leaf_span x a place
    → Found (Use expr ⨟ word kind) first_expr_of b a whole
expr_before-found h j = found (read-both h.read j.read) h.means

-- the first two of three parts aren't read
pair-fails : (p q r : Part) (b a : State) (c : Cause) → Fails (Seq p q) b c a → Fails (Seq p (Seq q r)) b c a
pair-fails p q r b a c (reading.Fails.first _ _ _ _ _ k) = reading.Fails.first p (Seq q r) c b a k
pair-fails p q r b a c (reading.Fails.second _ _ t _ _ x _ s k) = reading.Fails.second p (Seq q r) t c b x a s (reading.Fails.first q r c x a k)

pub halts-pair : {p q r : Part} {b a : State} {fault : ParserFault} → Halts (Seq p q) b fault a → Halts (Seq p (Seq q r)) b fault a
halts-pair {p = p} {q = q} {r = r} {b = b} {a = a} h = halts-as (pair-fails p q r b a) h

-- a function's name and the bracket behind it, or a column that is called so

abbrev pub column_behind : Part
column_behind = optional (word kinds.Dot ⨟ name)

abbrev pub word_part : List TokenKind → Part
word_part some = One some ⨟ (word kinds.OpenBracket ∣ column_behind)

-- what stands behind the bracket of a function
abbrev pub function_part : List TokenKind → Part → Part
function_part some behind = One some ⨟ ((word kinds.OpenBracket ⨟ behind) ∣ column_behind)

pub record Called (some : List TokenKind) (b a : State) (kind : TokenKind) (from : ℕ) : Type 0 where
  pub first : Tree
  pub bracket : Tree
  pub middle : State
  pub read : Read (One some) b first middle
  pub opened : opens (word kinds.OpenBracket) middle ≡ true
  pub behind : Read (word kinds.OpenBracket) middle bracket a
  pub is : kind_at first ≡ kind
  pub starts : (leaf_span first).start ≡ from

pub called-in : {some : List TokenKind} {b a : State} {kind : TokenKind} {from : ℕ} → Found (word_part some) word_of b a (called.Function kind from) → Called some b a kind from
called-in {some = some} {b = b} {a = a} {kind = kind} {from = from} h = go h.tree h.read h.means
  where
    go : (t : Tree) → Read (word_part some) b t a → word_of t ≡ called.Function kind from → Called some b a kind from
    go t (reading.Read.both _ _ u _ _ x _ r (reading.Read.this _ _ w _ _ o s)) e = record { first = u; bracket = w; middle = x; read = r; opened = o; behind = s; is = cc; starts = cc }
    go t (reading.Read.both _ _ u _ _ x _ r (reading.Read.that _ _ w _ _ o s)) e = absurd cc

pub record Named (some : List TokenKind) (b a : State) (column : ColRef) : Type 0 where
  pub first : Tree
  pub rest : Tree
  pub middle : State
  pub read : Read (One some) b first middle
  pub closed : opens (word kinds.OpenBracket) middle ≡ false
  pub behind : Read column_behind middle rest a
  pub means : qualified (leaf_name first) rest ≡ column

pub named-in : {some : List TokenKind} {b a : State} {column : ColRef} → Found (word_part some) word_of b a (called.Column column) → Named some b a column
named-in {some = some} {b = b} {a = a} {column = column} h = go h.tree h.read h.means
  where
    go : (t : Tree) → Read (word_part some) b t a → word_of t ≡ called.Column column → Named some b a column
    go t (reading.Read.both _ _ u _ _ x _ r (reading.Read.this _ _ w _ _ o s)) e = absurd cc
    go t (reading.Read.both _ _ u _ _ x _ r (reading.Read.that _ _ w _ _ o s)) e = record { first = u; rest = w; middle = x; read = r; closed = o; behind = s; means = cc }

-- fewer are left behind the bracket
pub called-less : {some : List TokenKind} {b a : State} {kind : TokenKind} {from : ℕ} → Found (word_part some) word_of b a (called.Function kind from) → disjoint some (kinds.Semicolon ∷ []) ≡ true
    → a.left < b.left
called-less {b = b} {a = a} h d =
    let k = called-in h in
    let one : k.middle.left ≤ b.left = token-left k.read d in
    let two : a.left < k.middle.left = counted-left k.behind refl refl in
    omega arith

-- neither is read
word-fails : (some : List TokenKind) (q : Part) (b a : State) (c : Cause) → Fails (word_part some) b c a → Fails (function_part some q) b c a
word-fails some q b a c (reading.Fails.first _ _ _ _ _ k) = reading.Fails.first (One some) ((word kinds.OpenBracket ⨟ q) ∣ column_behind) c b a k
word-fails some q b a c (reading.Fails.second _ _ t _ _ x _ s (reading.Fails.this _ _ _ _ _ o k)) =
    reading.Fails.second (One some) ((word kinds.OpenBracket ⨟ q) ∣ column_behind) t c b x a s
    (reading.Fails.this (word kinds.OpenBracket ⨟ q) column_behind c x a o (reading.Fails.first (word kinds.OpenBracket) q c x a k))
word-fails some q b a c (reading.Fails.second _ _ t _ _ x _ s (reading.Fails.that _ _ _ _ _ o k)) =
    reading.Fails.second (One some) ((word kinds.OpenBracket ⨟ q) ∣ column_behind) t c b x a s (reading.Fails.that (word kinds.OpenBracket ⨟ q) column_behind c x a o k)

pub halts-word : {some : List TokenKind} {q : Part} {b a : State} {fault : ParserFault} → Halts (word_part some) b fault a → Halts (function_part some q) b fault a
halts-word {some = some} {q = q} {b = b} {a = a} h = halts-as (word-fails some q b a) h

-- what stands behind the bracket isn't read
pub halts-called : {some : List TokenKind} {q : Part} {b x a : State} {kind : TokenKind} {from : ℕ} {fault : ParserFault} → Found (word_part some) word_of b x (called.Function kind from) → Halts q x fault a
    → Halts (function_part some q) b fault a
halts-called f h = let k = called-in f in halts-then k.read (halts-this k.opened (halts-then k.behind h))

-- absolute

-- from a token to another one
tokens-span : {first second : List TokenKind} {t u : Tree} {b x y a : State} → Read (One first) b t x → Read (One second) y u a → span_of (Pair t u) ≡ span (leaf t).at.start a.last
unfolding starts_at ends_at
tokens-span {b = b} {x = x} {y = y} {a = a} (reading.Read.token _ l _ _ takes accepted shallow) (reading.Read.token _ k _ _ others also deep) = ap (λ n. span l.at.start n) (sym others.last)

token-starts : {kinds : List TokenKind} {t : Tree} {b a : State} → Read (One kinds) b t a → starts_at t ≡ (leaf t).at.start
unfolding starts_at
token-starts (reading.Read.token _ l _ _ takes accepted shallow) = refl

pub absolute-column : {b a : State} {column : ColRef} → Found (word_part (kinds.Abs ∷ [])) word_of b a (called.Column column) → Found (Use absolute) absolute_of b a (Column column)
absolute-column h =
    let n = named-in h in
    found (read-rule (read-both n.read (read-that n.closed n.behind))) (absolute_of-that n.first n.rest ∙ ap Column n.means)

pub absolute-function : (r : Result node.Node ParserFault) {b x a : State} {kind : TokenKind} {from : ℕ} {part : Expression} {at : Span} → Found (word_part (kinds.Abs ∷ [])) word_of b x (called.Function kind from)
    → Found (Use expr ⨟ word kinds.CloseBracket) first_expr_of x a part → at ≡ span from a.last → Makes (Abs part at) r → Reads (Use absolute) absolute_of expression_of b a r
absolute-function (Ok v) f h is made =
    let k = called-in f in
    let e = before h in
    let starts = token-starts k.read in
    let ends = read-ends e.closed refl in
    let m = e.means in
    let n = k.starts in
    found (read-rule (read-both k.read (read-this k.opened (read-both k.behind (read-both e.read e.closed))))) (absolute_of-this k.first k.bracket e.tree e.last ∙ cc)
absolute-function (Err g) f h is made = halts-made made

-- extreme

pub extreme-column : {b a : State} {column : ColRef} → Found (word_part (kinds.Min ∷ kinds.Max ∷ [])) word_of b a (called.Column column) → Found (Use extreme) extreme_in b a (Column column)
extreme-column h =
    let n = named-in h in
    found (read-rule (read-both n.read (read-that n.closed n.behind))) (extreme_in-that n.first n.rest ∙ ap Column n.means)

pub extreme-function : (r : Result node.Node ParserFault) {b x y a : State} {kind : TokenKind} {from : ℕ} {one two : Expression} {at : Span}
    → Found (word_part (kinds.Min ∷ kinds.Max ∷ [])) word_of b x (called.Function kind from) → Found (Use expr ⨟ word kinds.Comma) first_expr_of x y one
    → Found (Use expr ⨟ word kinds.CloseBracket) first_expr_of y a two → at ≡ span from a.last → Makes (extreme_of kind one two at) r → Reads (Use extreme) extreme_in expression_of b a r
extreme-function (Ok v) {a = a} {kind = kind} {one = one} {two = two} {at = at} f g h is made =
    let k = called-in f in
    let d = before g in
    let e = before h in
    let place : span_of (Pair k.first e.last) ≡ at = tokens-span k.read e.closed ∙ ap (λ n. span n a.last) k.starts ∙ sym is in
    found (read-rule (read-both k.read (read-this k.opened (read-both k.behind (read-both d.read (read-both d.closed (read-both e.read e.closed))))))) (
    extreme_in-this k.first k.bracket d.tree d.last e.tree e.last ∙ ap (λ n. extreme_of n (expr_of d.tree) (expr_of e.tree) (span_of (Pair k.first e.last))) k.is
    ∙ ap (λ n. extreme_of kind n (expr_of e.tree) (span_of (Pair k.first e.last))) d.means ∙ ap (λ n. extreme_of kind one n (span_of (Pair k.first e.last))) e.means
    ∙ ap (extreme_of kind one two) place ∙ sym made
    )
extreme-function (Err q) f g h is made = halts-made made

-- brackets

pub brackets-behind : (b x a : State) (r : Result node.Node ParserFault) {place : Span} → Found (word kinds.OpenBracket) leaf_span b x place
    → Reads (Use expr ⨟ word kinds.CloseBracket) first_expr_of expression_of x a r → Reads (Use brackets) brackets_of expression_of b a r
brackets-behind b x a (Ok v) i h =
    let e = before h in
    found (read-rule (read-both i.read (read-both e.read e.closed))) (brackets_of-node i.tree e.tree e.last ∙ e.means)
brackets-behind b x a (Err f) i h = halts-rule (halts-then i.read h)
