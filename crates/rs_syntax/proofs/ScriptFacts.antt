-- What the parser did on the tokens of a script, and what that says of the script.
use Rattle.std.proofs.Common.{ℕ, suc, ◌==◌, ◌-◌, length-drop, ◌≡◌, ◌∙◌, ◌⊎◌, inl, inr, Bool, true, false, List, [], ◌∷◌, ◌++◌, length, take, drop, refl, sym, ap, subst, arith, append_assoc}
use Rattle.std.proofs.Math.Seq.{drop-append_seam, take-length}
use Rattle.std.proofs.lemmas.Bool.{eqb-true}
use Rattle.std.proofs.lemmas.List.{append-nil, drop-map, take-append-drop}
use Rattle.rs_grammar.specs.Grammar.{Tree, yield, script}
use Rattle.rs_grammar.specs.Kinds.{accepts}
use Rattle.rs_grammar.specs.Lexemes.{lexeme_of}
use Rattle.rs_grammar.specs.Places.{Unexpected, TooDeep, TooMany, IsRefused, IsWithinStatements, most_deep}
use Rattle.rs_grammar.specs.Reading as reading
use Rattle.rs_grammar.specs.Reading.{State, Read}
use Rattle.rs_grammar.specs.declared.kind.TokenKind.TheVariants as kinds
use Rattle.rs_grammar.specs.declared.lexeme.Lexeme.{Lexeme}
use Rattle.rs_grammar.proofs.Derivation.{Front, Deep, Fails-front, Fails-deep, Read-split}
use Rattle.rs_grammar.proofs.OneTree.{script-one}
use Rattle.rs_grammar.proofs.Verdict.{Begins, IsCut, unexpected, IsRefused-one, Fails-unexpected, Fails-end, Fails-too_deep, Fails-too_many, Read-unexpected, Read-too_many, Read-whole, Read-none}
use Rattle.rs_lex.specs.declared.token.Token.{Token}
use Rattle.rs_syntax.specs.Cut.{EndsLast, refusal_of}
use Rattle.rs_syntax.specs.Reads.{Halts}
use Rattle.rs_syntax.specs.Scripts.{Parses, Refuses, IsSound, lexemes_of, byte_in, byte_at, fault_of}
use Rattle.rs_syntax.specs.Statements.{script_of}
use Rattle.rs_syntax.specs.Syntax.{Command}
use Rattle.rs_syntax.specs.declared.fault.SyntaxFault.{SyntaxFault}
use Rattle.rs_syntax.specs.declared.fault.SyntaxFault.TheVariants as fault
use Rattle.rs_syntax.specs.declared.parser.ParserFault.TheVariants as parser

-- tokens parse to one list of statements at most
pub Parses-one : (text : List ℕ) (tokens : List Token) (a b : List Command) → Parses text tokens a → Parses text tokens b → a ≡ b
Parses-one text tokens a b h k = sym h.means ∙ ap script_of (sym (script-one h.tree k.tree h.fits k.fits (k.spells ∙ sym h.spells))) ∙ k.means

-- a script isn't refused in two ways
pub Refuses-one : (text : List ℕ) (tokens : List Token) (x y : SyntaxFault) → Refuses text tokens x → Refuses text tokens y → x ≡ y
Refuses-one text tokens x y h k =
    let one = IsRefused-one (lexemes_of text tokens) h.problem k.problem h.at k.at h.refused k.refused in
    sym h.tells ∙ ap (λ p. fault_of p (byte_at text tokens h.at)) one.0 ∙ ap (λ at. fault_of k.problem (byte_at text tokens at)) one.1 ∙ k.tells

-- a sound script isn't refused
pub IsSound-not_refused : (text : List ℕ) (tokens : List Token) (x : SyntaxFault) → IsSound text tokens → Refuses text tokens x → ⊥
IsSound-not_refused text tokens x sound h = sound h.problem h.at h.refused.stands

-- the parser stands in front of the tokens of a script, those up to and with the `;` of the last statement that may stand
pub record Given (text : List ℕ) (tokens : List Token) (n : ℕ) : Type 0 where
  pub few : IsWithinStatements (take n (lexemes_of text tokens))
  pub cut : (drop n (lexemes_of text tokens) ≡ []) ⊎ EndsLast (take n (lexemes_of text tokens))

-- where it stands
abbrev pub begin : List ℕ → List Token → ℕ → State
begin text tokens n = record { rest = take n (lexemes_of text tokens); left = most_deep; last = 0 }

begins : (text : List ℕ) (tokens : List Token) (n : ℕ) → Given text tokens n
    → Begins (lexemes_of text tokens) (take n (lexemes_of text tokens)) (drop n (lexemes_of text tokens)) (begin text tokens n)
begins text tokens n g = record { split = sym (take-append-drop n (lexemes_of text tokens)); few = g.few; rest = refl; left = refl }

-- the lexemes of the tokens behind a place
lexemes-drop : (text : List ℕ) (n : ℕ) (tokens : List Token) → drop n (lexemes_of text tokens) ≡ lexemes_of text (drop n tokens)
lexemes-drop text n tokens = drop-map (lexeme_of text) n tokens

-- the byte behind some tokens
byte-behind : (text : List ℕ) (tokens : List Token) (front rest : List Lexeme) → lexemes_of text tokens ≡ front ++ rest → byte_at text tokens (length front) ≡ byte_in text rest
byte-behind text tokens front rest is = ap (byte_in text) (ap (drop (length front)) is ∙ drop-append_seam front rest)

-- what is told of the next token
told-next : (text : List ℕ) (l : Lexeme) (ls : List Lexeme) (more : List Token) (end : ℕ) → fault_of (unexpected (l ∷ ls)) l.at.start ≡ refusal_of (l ∷ ls) more end false
told-next text l ls more end = go (accepts (kinds.Foreign ∷ []) l.kind) refl
  where
    go : (b : Bool) → accepts (kinds.Foreign ∷ []) l.kind ≡ b → fault_of (unexpected (l ∷ ls)) l.at.start ≡ refusal_of (l ∷ ls) more end false
    go true e = rw e refl
    go false e = rw e refl

-- the split of all tokens at what the reader has in front of it
split-at : (text : List ℕ) (tokens : List Token) (n : ℕ) (front rest : List Lexeme) → take n (lexemes_of text tokens) ≡ front ++ rest
    → lexemes_of text tokens ≡ front ++ (rest ++ drop n (lexemes_of text tokens))
split-at text tokens n front rest is =
    sym (take-append-drop n (lexemes_of text tokens)) ∙ ap (λ xs. xs ++ drop n (lexemes_of text tokens)) is ∙ append_assoc front rest (drop n (lexemes_of text tokens))

-- tokens stand behind those that the parser was given
cut_at : (text : List ℕ) (tokens : List Token) (n : ℕ) → Given text tokens n → (token : Token) (more : List Token) → drop n tokens ≡ token ∷ more
    → IsCut (take n (lexemes_of text tokens)) (drop n (lexemes_of text tokens))
cut_at text tokens n g token more is = go g.cut
  where
    here : drop n (lexemes_of text tokens) ≡ lexeme_of text token ∷ lexemes_of text more
    here = lexemes-drop text n tokens ∙ ap (lexemes_of text) is

    go : ((drop n (lexemes_of text tokens) ≡ []) ⊎ EndsLast (take n (lexemes_of text tokens))) → IsCut (take n (lexemes_of text tokens)) (drop n (lexemes_of text tokens))
    go (inl none) = let e : lexeme_of text token ∷ lexemes_of text more ≡ [] = sym here ∙ none in cc
    go (inr last) = record { front = last.front; last = last.last; is = last.is; ends = last.ends; full = last.full; token = lexeme_of text token; behind = lexemes_of text more; more_is = here }

-- too many statements: what is told stands behind those that the parser was given
too_many : (text : List ℕ) (tokens : List Token) (n : ℕ) (token : Token) (more : List Token) → drop n tokens ≡ token ∷ more
    → IsRefused (lexemes_of text tokens) TooMany (length (take n (lexemes_of text tokens))) → Refuses text tokens (refusal_of [] (drop n tokens) (length text) false)
too_many text tokens n token more is h = record {
  problem = TooMany;
  at = length (take n (lexemes_of text tokens));
  refused = h;
  tells = ap fault.TooManyStatements (byte-behind text tokens (take n (lexemes_of text tokens)) (drop n (lexemes_of text tokens)) (sym (take-append-drop n (lexemes_of text tokens)))
      ∙ ap (byte_in text) (lexemes-drop text n tokens ∙ ap (lexemes_of text) is)) ∙ ap (λ ts. refusal_of [] ts (length text) false) (sym is);
}

-- no token is left where none stands behind those that the parser was given
none_left : (text : List ℕ) (tokens : List Token) (n : ℕ) → drop n tokens ≡ [] → drop n (lexemes_of text tokens) ≡ []
none_left text tokens n is = lexemes-drop text n tokens ∙ ap (lexemes_of text) is

-- the parser can't go on at its next token
pub Halts-refused : (text : List ℕ) (tokens : List Token) (n : ℕ) (a : State) → Given text tokens n → Halts script (begin text tokens n) parser.Expected a
    → Refuses text tokens (refusal_of a.rest (drop n tokens) (length text) false)
Halts-refused text tokens n a g h = go a.rest refl (drop n tokens) refl
  where
    front : Front script (begin text tokens n) a
    front = Fails-front script reading.Expected (begin text tokens n) a h.fails

    at_end : a.rest ≡ [] → drop n tokens ≡ [] → Refuses text tokens (refusal_of [] [] (length text) false)
    at_end here is = record {
      problem = Unexpected;
      at = length (lexemes_of text tokens);
      refused = Fails-end (lexemes_of text tokens) (take n (lexemes_of text tokens)) (drop n (lexemes_of text tokens)) (begin text tokens n) a (begins text tokens n g) h.fails here (none_left text tokens n is);
      tells = ap fault.Expected (byte-behind text tokens (lexemes_of text tokens) [] (sym (append-nil (lexemes_of text tokens))));
    }

    go : (rest : List Lexeme) → a.rest ≡ rest → (more : List Token) → drop n tokens ≡ more → Refuses text tokens (refusal_of rest more (length text) false)
    go (l ∷ ls) here more is = record {
      problem = unexpected (l ∷ ls);
      at = length front.tokens;
      refused = subst (λ r. IsRefused (lexemes_of text tokens) (unexpected r) (length front.tokens)) here (Fails-unexpected (lexemes_of text tokens) (take n (lexemes_of text tokens)) (drop n (lexemes_of text tokens)) (begin text tokens n) a (begins text tokens n g) h.fails front.tokens front.split l ls here);
      tells = ap (fault_of (unexpected (l ∷ ls))) (byte-behind text tokens front.tokens (l ∷ (ls ++ drop n (lexemes_of text tokens))) (split-at text tokens n front.tokens (l ∷ ls) (front.split ∙ ap (λ xs. front.tokens ++ xs) here)))
          ∙ told-next text l ls more (length text);
    }
    go [] here [] is = at_end here is
    go [] here (token ∷ more) is =
        subst (λ ts. Refuses text tokens (refusal_of [] ts (length text) false)) is
        (too_many text tokens n token more is
        (Fails-too_many (lexemes_of text tokens) (take n (lexemes_of text tokens)) (drop n (lexemes_of text tokens)) (begin text tokens n) a (begins text tokens n g) (cut_at text tokens n g token more is) h.fails here))

-- its next token is one too many
pub Halts-too_deep : (text : List ℕ) (tokens : List Token) (n : ℕ) (a : State) → Given text tokens n → Halts script (begin text tokens n) parser.TooDeep a
    → Refuses text tokens (refusal_of a.rest (drop n tokens) (length text) true)
Halts-too_deep text tokens n a g h = go a.rest refl deep.here
  where
    deep : Deep script (begin text tokens n) a
    deep = Fails-deep script (begin text tokens n) a h.fails

    go : (rest : List Lexeme) → a.rest ≡ rest → a.rest ≡ deep.token ∷ deep.behind → Refuses text tokens (refusal_of rest (drop n tokens) (length text) true)
    go [] here is = let e : [] ≡ deep.token ∷ deep.behind = sym here ∙ is in cc
    go (l ∷ ls) here is = record {
      problem = TooDeep;
      at = length deep.front;
      refused = Fails-too_deep (lexemes_of text tokens) (take n (lexemes_of text tokens)) (drop n (lexemes_of text tokens)) (begin text tokens n) a (begins text tokens n g) h.fails deep.front deep.split;
      tells = ap fault.TooDeep (byte-behind text tokens deep.front (l ∷ (ls ++ drop n (lexemes_of text tokens))) (split-at text tokens n deep.front (l ∷ ls) (deep.split ∙ ap (λ xs. deep.front ++ xs) here)));
    }

-- a script was read, and a token stands behind it
pub Read-refused : (text : List ℕ) (tokens : List Token) (n : ℕ) (t : Tree) (a : State) → Given text tokens n → Read script (begin text tokens n) t a → (a.rest ≡ [] → ⊥)
    → Refuses text tokens (refusal_of a.rest (drop n tokens) (length text) false)
Read-refused text tokens n t a g r some = go a.rest refl
  where
    split : take n (lexemes_of text tokens) ≡ yield t ++ a.rest
    split = Read-split script (begin text tokens n) t a r

    go : (rest : List Lexeme) → a.rest ≡ rest → Refuses text tokens (refusal_of rest (drop n tokens) (length text) false)
    go [] here = absurd (some here)
    go (l ∷ ls) here = record {
      problem = unexpected (l ∷ ls);
      at = length (yield t);
      refused = subst (λ r. IsRefused (lexemes_of text tokens) (unexpected r) (length (yield t))) here (Read-unexpected (lexemes_of text tokens) (take n (lexemes_of text tokens)) (drop n (lexemes_of text tokens)) (begin text tokens n) t a (begins text tokens n g) r l ls here);
      tells = ap (fault_of (unexpected (l ∷ ls))) (byte-behind text tokens (yield t) (l ∷ (ls ++ drop n (lexemes_of text tokens))) (split-at text tokens n (yield t) (l ∷ ls) (split ∙ ap (λ xs. yield t ++ xs) here)))
          ∙ told-next text l ls (drop n tokens) (length text);
    }

-- all that it was given was read, and more tokens stand behind it
pub Read-too_many_refused : (text : List ℕ) (tokens : List Token) (n : ℕ) (t : Tree) (a : State) → Given text tokens n → Read script (begin text tokens n) t a → a.rest ≡ []
    → (drop n tokens ≡ [] → ⊥) → Refuses text tokens (refusal_of a.rest (drop n tokens) (length text) false)
Read-too_many_refused text tokens n t a g r here some = go (drop n tokens) refl
  where
    go : (more : List Token) → drop n tokens ≡ more → Refuses text tokens (refusal_of a.rest (drop n tokens) (length text) false)
    go [] is = absurd (some is)
    go (token ∷ more) is =
        rw here (too_many text tokens n token more is
        (Read-too_many (lexemes_of text tokens) (take n (lexemes_of text tokens)) (drop n (lexemes_of text tokens)) (begin text tokens n) t a (begins text tokens n g) (cut_at text tokens n g token more is) r here))

-- all tokens were read
pub Read-parses : (text : List ℕ) (tokens : List Token) (n : ℕ) (t : Tree) (a : State) (commands : List Command) → Given text tokens n → Read script (begin text tokens n) t a → a.rest ≡ []
    → drop n tokens ≡ [] → script_of t ≡ commands → Parses text tokens commands
Read-parses text tokens n t a commands g r here is means =
    let whole = Read-whole (lexemes_of text tokens) (take n (lexemes_of text tokens)) (drop n (lexemes_of text tokens)) (begin text tokens n) t a (begins text tokens n g) r here (none_left text tokens n is) in
    record { tree = t; fits = whole.0; spells = whole.1; means = means }

pub Read-sound : (text : List ℕ) (tokens : List Token) (n : ℕ) (t : Tree) (a : State) → Given text tokens n → Read script (begin text tokens n) t a → a.rest ≡ []
    → drop n tokens ≡ [] → IsSound text tokens
Read-sound text tokens n t a g r here is =
    Read-none (lexemes_of text tokens) (take n (lexemes_of text tokens)) (drop n (lexemes_of text tokens)) (begin text tokens n) t a (begins text tokens n g) r here (none_left text tokens n is)

pub Read-one : (text : List ℕ) (tokens : List Token) (n : ℕ) (t : Tree) (a : State) (mine others : List Command) → Given text tokens n → Read script (begin text tokens n) t a → a.rest ≡ []
    → drop n tokens ≡ [] → script_of t ≡ mine → Parses text tokens others → mine ≡ others
Read-one text tokens n t a mine others g r here is means parses =
    let whole = Read-whole (lexemes_of text tokens) (take n (lexemes_of text tokens)) (drop n (lexemes_of text tokens)) (begin text tokens n) t a (begins text tokens n g) r here (none_left text tokens n is) in
    sym means ∙ ap script_of (sym (whole.2 parses.tree parses.fits parses.spells)) ∙ parses.means

-- the lexemes that the parser was made of
pub Given-made : (text : List ℕ) (tokens : List Token) (n : ℕ) (ls : List Lexeme) → ls ≡ lexemes_of text tokens → IsWithinStatements (take n ls)
    → (drop n ls ≡ []) ⊎ EndsLast (take n ls) → Given text tokens n
Given-made text tokens n ls is few cut = record {
  few = subst (λ xs. IsWithinStatements (take n xs)) is few;
  cut = subst (λ xs. (drop n xs ≡ []) ⊎ EndsLast (take n xs)) is cut;
}

pub begin-made : (text : List ℕ) (tokens : List Token) (n : ℕ) (ls kept : List Lexeme) (b : State) → b ≡ record { rest = kept; left = most_deep; last = 0 } → kept ≡ take n ls
    → ls ≡ lexemes_of text tokens → b ≡ begin text tokens n
begin-made text tokens n ls kept b is cut made =
    let front : kept ≡ take n (lexemes_of text tokens) = cut ∙ ap (take n) made in
    is ∙ ap (λ (xs : List Lexeme). let s : State = record { rest = xs; left = most_deep; last = 0 } in s) front

-- the tokens behind a place
pub rest_of : (n : ℕ) (tokens : List Token) → take (length tokens - n) (drop n tokens) ≡ drop n tokens
rest_of n tokens = rw (← length-drop n tokens) (take-length (drop n tokens))

-- whether tokens stand behind a place
some_length : (n : ℕ) → true ≡ (suc n == 0) → ⊥
some_length n e = let zero_is : suc n ≡ 0 = eqb-true (suc n) 0 (sym e) in omega arith

nil-of : (xs : List Token) → true ≡ (length xs == 0) → xs ≡ []
nil-of [] e = refl
nil-of (x ∷ xs) e = absurd (some_length (length xs) e)

pub none-behind : (n : ℕ) (tokens : List Token) → true ≡ (length (take (length tokens - n) (drop n tokens)) == 0) → drop n tokens ≡ []
none-behind n tokens e = nil-of (drop n tokens) (e ∙ ap (λ (xs : List Token). length xs == 0) (rest_of n tokens))

pub some-behind : (n : ℕ) (tokens : List Token) → false ≡ (length (take (length tokens - n) (drop n tokens)) == 0) → drop n tokens ≡ [] → ⊥
some-behind n tokens e none =
    let no : false ≡ true = e ∙ ap (λ (xs : List Token). length xs == 0) (rest_of n tokens ∙ none) in cc
