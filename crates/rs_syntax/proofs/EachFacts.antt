-- The tokens of each script parse, or they are refused.
use Rattle.std.proofs.Common.{ℕ, zero, suc, ◌≡◌, ◌+◌, ◌<◌, ◌≤◌, ◌⊎◌, inl, inr, Bool, true, false, List, [], ◌∷◌, length, take, drop, get_or, refl, arith}
use Rattle.std.proofs.lemmas.List.{drop_all}
use Rattle.std.proofs.lemmas.Bool.{cases_lt}
use Rattle.rs_grammar.specs.Grammar.{Tree, script}
use Rattle.rs_grammar.specs.Places.{statements_ended, is_semicolon, most_statements, IsWithinStatements}
use Rattle.rs_grammar.specs.Reading as reading
use Rattle.rs_grammar.specs.Reading.{State, Read, Fails, Cause}
use Rattle.rs_grammar.specs.declared.lexeme.Lexeme.{Lexeme}
use Rattle.rs_grammar.proofs.EachFacts.{Reading, reads, fails, each_state_reads}
use Rattle.rs_lex.specs.declared.token.Token.{Token}
use Rattle.rs_syntax.specs.Cut.{EndsLast}
use Rattle.rs_syntax.specs.Scripts.{Parses, Refuses, IsSound, lexemes_of}
use Rattle.rs_syntax.specs.Statements.{script_of}
use Rattle.rs_syntax.specs.Syntax.{Command}
use Rattle.rs_syntax.specs.declared.fault.SyntaxFault.{SyntaxFault}
use Rattle.rs_syntax.proofs.Cutting.{EndsLast-here, Within-more, statements_ended-more}
use Rattle.rs_syntax.proofs.ScriptFacts.{Parses-one, IsSound-not_refused, Given, begin, Halts-refused, Halts-too_deep, Read-refused, Read-too_many_refused, Read-parses, Read-sound}

-- up to where a parser reads: to the end, or to the `;` of the last statement that may stand
record Cut (ls : List Lexeme) : Type 0 where
  n : ℕ
  few : IsWithinStatements (take n ls)
  cut : (drop n ls ≡ []) ⊎ EndsLast (take n ls)

-- the token at a place
token_at : (ls : List Lexeme) (i : ℕ) → i < length ls → (l : Lexeme) × (l ≡ get_or ls i l)
token_at [] i lt = absurd (omega (arith, lt))
token_at (l ∷ ls) zero lt = (l, refl)
token_at (l ∷ ls) (suc i) lt = token_at ls i (omega (arith, lt))

-- one token more, where more statements may end; else the last one may end there
Cut-token : (ls : List Lexeme) (i : ℕ) (l : Lexeme) → i < length ls → l ≡ get_or ls i l → statements_ended (take i ls) < most_statements → IsWithinStatements (take i ls)
    → (statements_ended (take (i + 1) ls) < most_statements → IsWithinStatements (take (i + 1) ls) → Cut ls) → Cut ls
Cut-token ls i l lt is less few next = go (is_semicolon l) refl
  where
    ended : ℕ
    ended = statements_ended (take i ls)

    within : IsWithinStatements (take (i + 1) ls)
    within = Within-more ls i (statements_ended (take i ls)) l lt is refl less few

    go : (b : Bool) → b ≡ is_semicolon l → Cut ls
    go false e = next (omega (arith, less, statements_ended-more ls i (statements_ended (take i ls)) l false lt is e refl)) within
    go true e =
        elim (cases_lt (statements_ended (take i ls) + 1) most_statements) [
          | inl room ↦ next (omega (arith, room, statements_ended-more ls i (statements_ended (take i ls)) l true lt is e refl)) within
          | inr full ↦
              record { n = i + 1; few = within; cut = inr (EndsLast-here ls i (statements_ended (take i ls)) l lt is e refl (omega (arith, less, full))) }
        ]

cut_from : (left : ℕ) (ls : List Lexeme) (i : ℕ) → length ls ≤ i + left → statements_ended (take i ls) < most_statements → IsWithinStatements (take i ls) → Cut ls
cut_from zero ls i le less few = record { n = i; few = few; cut = inl (drop_all i ls (omega (arith, le))) }
cut_from (suc left) ls i le less few =
    elim (cases_lt i (length ls)) [
      | inl lt ↦
          let here = token_at ls i lt in
          Cut-token ls i here.0 lt here.1 less few (λ more within. cut_from left ls (i + 1) (omega (arith, le)) more within)
      | inr end ↦ record { n = i; few = few; cut = inl (drop_all i ls (omega (arith, end))) }
    ]

cut_of : (ls : List Lexeme) → Cut ls
cut_of ls = cut_from (length ls) ls 0 (omega arith) (omega arith) (λ i lt. absurd (omega (arith, lt)))

-- the reader reads what tokens parse to
pub record IsRead (text : List ℕ) (tokens : List Token) (commands : List Command) : Type 0 where
  pub n : ℕ
  pub tree : Tree
  pub behind : State
  pub read : Read script (begin text tokens n) tree behind
  pub means : script_of tree ≡ commands

-- tokens parse and nothing is wrong with them, or they are refused
abbrev pub IsParsed : List ℕ → List Token → Type 0
IsParsed text tokens = ((commands : List Command) × Parses text tokens commands × IsSound text tokens) ⊎ ((fault : SyntaxFault) × Refuses text tokens fault)

IsParsed-read : (text : List ℕ) (tokens : List Token) (n : ℕ) → Given text tokens n → (t : Tree) (a : State) → Read script (begin text tokens n) t a → IsParsed text tokens
IsParsed-read text tokens n given t a r = go a.rest refl (drop n tokens) refl
  where
    go : (rest : List Lexeme) → a.rest ≡ rest → (more : List Token) → drop n tokens ≡ more → IsParsed text tokens
    go (l ∷ ls) here more behind = inr (_, Read-refused text tokens n t a given r (λ none. let e : l ∷ ls ≡ [] = rw here at none in cc))
    go [] here (token ∷ more) behind = inr (_, Read-too_many_refused text tokens n t a given r here (λ none. let e : token ∷ more ≡ [] = rw behind at none in cc))
    go [] here [] behind = inl (script_of t, Read-parses text tokens n t a (script_of t) given r here behind refl, Read-sound text tokens n t a given r here behind)

IsParsed-fails : (text : List ℕ) (tokens : List Token) (n : ℕ) → Given text tokens n → (c : Cause) (a : State) → Fails script (begin text tokens n) c a → IsParsed text tokens
IsParsed-fails text tokens n given reading.Expected a f = inr (_, Halts-refused text tokens n a given (record { fails = f }))
IsParsed-fails text tokens n given reading.TooDeep a f = inr (_, Halts-too_deep text tokens n a given (record { fails = f }))

pub each_is_parsed : (text : List ℕ) (tokens : List Token) → IsParsed text tokens
each_is_parsed text tokens = go (cut_of (lexemes_of text tokens))
  where
    by : (n : ℕ) → Given text tokens n → Reading script (begin text tokens n) → IsParsed text tokens
    by n given (reads t a r) = IsParsed-read text tokens n given t a r
    by n given (fails c a f) = IsParsed-fails text tokens n given c a f

    go : Cut (lexemes_of text tokens) → IsParsed text tokens
    go cut = by cut.n (record { few = cut.few; cut = cut.cut }) (each_state_reads (begin text tokens cut.n))

-- where tokens parse and nothing is wrong with them, the reader reads what they parse to
pub Parses-read : (text : List ℕ) (tokens : List Token) (commands : List Command) → Parses text tokens commands → IsSound text tokens → IsRead text tokens commands
Parses-read text tokens commands parses sound = go (cut_of (lexemes_of text tokens))
  where
    refused : (x : SyntaxFault) → Refuses text tokens x → IsRead text tokens commands
    refused x r = absurd (IsSound-not_refused text tokens x sound r)

    reads-all : (n : ℕ) → Given text tokens n → (t : Tree) (a : State) → Read script (begin text tokens n) t a → (rest : List Lexeme) → a.rest ≡ rest
        → (more : List Token) → drop n tokens ≡ more → IsRead text tokens commands
    reads-all n given t a r (l ∷ ls) here more behind =
        refused _ (Read-refused text tokens n t a given r (λ none. let e : l ∷ ls ≡ [] = rw here at none in cc))
    reads-all n given t a r [] here (token ∷ more) behind =
        refused _ (Read-too_many_refused text tokens n t a given r here (λ none. let e : token ∷ more ≡ [] = rw behind at none in cc))
    reads-all n given t a r [] here [] behind = record {
      n = n;
      tree = t;
      behind = a;
      read = r;
      means = Parses-one text tokens (script_of t) commands (Read-parses text tokens n t a (script_of t) given r here behind refl) parses;
    }

    by : (n : ℕ) → Given text tokens n → Reading script (begin text tokens n) → IsRead text tokens commands
    by n given (reads t a r) = reads-all n given t a r a.rest refl (drop n tokens) refl
    by n given (fails reading.Expected a f) = refused _ (Halts-refused text tokens n a given (record { fails = f }))
    by n given (fails reading.TooDeep a f) = refused _ (Halts-too_deep text tokens n a given (record { fails = f }))

    go : Cut (lexemes_of text tokens) → IsRead text tokens commands
    go cut = by cut.n (record { few = cut.few; cut = cut.cut }) (each_state_reads (begin text tokens cut.n))
