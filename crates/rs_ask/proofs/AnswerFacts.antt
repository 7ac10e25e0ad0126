-- Answers, one after another.
use Rattle.std.proofs.Common.{◌≡◌, ◌≤◌, ◌∙◌, ℕ, ℤ, ◌+◌, Bool, true, false, arith, cond, List, [], ◌∷◌, ◌++◌, length, length-append, min, Ok, Err, Result, Option, Some, None, ap, append-nil, append_assoc, eqb, ltb, not, refl, subst, sym, take, ◌&&◌, ◌||◌}
use Rattle.std.specs.Io.KnownBytes.{Consumes, IsAtEnd}
use Rattle.std.specs.List.{list_all, list_any}
use Rattle.rs_value.specs.Outside.{Outside}
use Rattle.std.proofs.lemmas.Bool.{le-ltb, lt-ltb, ne_eqb, or_from, true≢false}
use Rattle.std.proofs.lemmas.Bool.Decides.{Decides-eqb}
use Rattle.std.proofs.lemmas.List.{take_all, take_at}
use Rattle.std.proofs.lemmas.List.Folds.{list_any-append}
use Rattle.std.proofs.Math.Seq.{take-append-add}
use Rattle.rs_outside.proofs.StreamFacts.{Consumes-then}
use Rattle.rs_scores.specs.declared.known_score.KnownScore.{KnownScore}
use Rattle.rs_ask.specs.declared.answers.ReadFault.{ReadFault}
use Rattle.rs_ask.specs.declared.no_answer.NoAnswer.{NoAnswer}
use Rattle.rs_ask.specs.declared.no_answer.NoAnswer.TheVariants.{Ended, TooLong}
use Rattle.rs_ask.specs.Answers.{ReadsAnswer, ReadsByte, ReadsNext, ReadsScores, answer_bytes, answer_in, is_blank, line_answer, line_length, next_answer, no_line, or_not_number, without_blanks, without_return}

-- no byte of a line is a line feed
abbrev pub HasNoEnd : List ℕ → Type 0
HasNoEnd line = list_any (λ (byte : ℕ). eqb byte 10) line ≡ false

-- answers, and then one more
pub ReadsScores-more : (entries more : List KnownScore) (old middle new : Option (List ℕ)) → ReadsScores entries old middle → ReadsScores more middle new → ReadsScores (entries ++ more) old new
ReadsScores-more [] more old middle new none reads = subst (λ (from : Option (List ℕ)). ReadsScores more from new) none reads
ReadsScores-more (entry ∷ entries) more old middle new first reads =
    (first.0, first.1, ReadsScores-more entries more first.0 middle new first.2 reads)

-- a line that doesn't end in a carriage return stays as it is
pub without_return-other : (line : List ℕ) → ((front : List ℕ) → line ≡ front ++ 13 ∷ [] → ⊥) → without_return line ≡ line
without_return-other [] other = refl
without_return-other (byte ∷ []) other =
    (elim (eqb byte 13) as (λ b. eqb byte 13 ≡ b → cond b [] (byte ∷ []) ≡ byte ∷ []) [
      | true ↦ λ e. absurd (other [] (ap (λ (b : ℕ). b ∷ []) ((Decides-eqb byte 13).0 e)))
      | false ↦ λ e. refl
    ]) refl
without_return-other (byte ∷ next ∷ rest) other =
    ap (λ more. byte ∷ more) (without_return-other (next ∷ rest) (λ front e. other (byte ∷ front) (ap (λ more. byte ∷ more) e)))

-- a line that ends in a carriage return is without it, and every other line stays
pub without_return-push : (line : List ℕ) (byte : ℕ) → without_return (line ++ byte ∷ []) ≡ cond (eqb byte 13) line (line ++ byte ∷ [])
without_return-push [] byte = refl
without_return-push (first ∷ []) byte =
    (elim (eqb byte 13) as (λ b. first ∷ cond b [] (byte ∷ []) ≡ cond b (first ∷ []) (first ∷ byte ∷ [])) [ true ↦ refl | false ↦ refl ])
without_return-push (first ∷ next ∷ rest) byte =
    ap (λ more. first ∷ more) (without_return-push (next ∷ rest) byte)
    ∙ (elim (eqb byte 13) as (λ b. first ∷ cond b (next ∷ rest) (next ∷ rest ++ byte ∷ []) ≡ cond b (first ∷ next ∷ rest) (first ∷ next ∷ rest ++ byte ∷ [])) [ true ↦ refl | false ↦ refl ])

-- all bytes of a line are blank, and one more
blank-push : (line : List ℕ) (byte : ℕ) (blank : Bool) → is_blank byte ≡ blank → list_all is_blank (line ++ byte ∷ []) ≡ cond blank (list_all is_blank line) false
blank-push [] byte blank is = ap (λ b. b && true) is ∙ (elim blank as (λ b. b && true ≡ cond b true false) [ true ↦ refl | false ↦ refl ])
blank-push (first ∷ rest) byte blank is =
    ap (λ b. is_blank first && b) (blank-push rest byte blank is)
    ∙ (elim blank as (λ b. is_blank first && cond b (list_all is_blank rest) false ≡ cond b (is_blank first && list_all is_blank rest) false) [
      | true ↦ refl
      | false ↦ (elim (is_blank first) as (λ b. b && false ≡ false) [ true ↦ refl | false ↦ refl ])
    ])

-- a blank at a line's end is taken away, and every other byte stays there
pub without_blanks-blank : (line : List ℕ) (byte : ℕ) → is_blank byte ≡ true → without_blanks (line ++ byte ∷ []) ≡ without_blanks line
without_blanks-blank [] byte is = ap (λ b. cond b [] (byte ∷ [])) (blank-push [] byte true is)
without_blanks-blank (first ∷ rest) byte is =
    ap (λ b. cond b [] (first ∷ without_blanks (rest ++ byte ∷ []))) (blank-push (first ∷ rest) byte true is)
    ∙ ap (λ more. cond (list_all is_blank (first ∷ rest)) [] (first ∷ more)) (without_blanks-blank rest byte is)

pub without_blanks-other : (line : List ℕ) (byte : ℕ) → is_blank byte ≡ false → without_blanks (line ++ byte ∷ []) ≡ line ++ byte ∷ []
without_blanks-other [] byte is = ap (λ b. cond b [] (byte ∷ [])) (blank-push [] byte false is)
without_blanks-other (first ∷ rest) byte is =
    ap (λ b. cond b [] (first ∷ without_blanks (rest ++ byte ∷ []))) (blank-push (first ∷ rest) byte false is)
    ∙ ap (λ more. first ∷ more) (without_blanks-other rest byte is)

-- what a line that was read says
pub ReadsNext-line : (line : List ℕ) (answer : Result ℤ NoAnswer) (old new : Outside (List ℕ)) → answer ≡ line_answer line → ReadsAnswer answer old.told new.told → ReadsNext answer old new
ReadsNext-line line answer old new is reads =
    subst (λ (a : Result ℤ NoAnswer). ReadsNext a old new) (sym is) (go (answer_in line) (subst (λ (a : Result ℤ NoAnswer). ReadsAnswer a old.told new.told) is reads)) where
      go : (number : Option ℤ) → ReadsAnswer (or_not_number line number) old.told new.told → ReadsNext (or_not_number line number) old new
      go None reads = reads
      go (Some number) reads = reads

-- what one read took
pub byte_read : (next : Option ℕ) (byte : ℕ) (old new : Option (List ℕ)) → next ≡ Some byte → ReadsByte {E = ReadFault} (Ok next) old new → Consumes old new (byte ∷ [])
byte_read next byte old new is reads = subst (λ (n : Option ℕ). ReadsByte {E = ReadFault} (Ok n) old new) is reads

pub end_read : (next : Option ℕ) (old new : Option (List ℕ)) → next ≡ None → ReadsByte {E = ReadFault} (Ok next) old new → Consumes old new [] × IsAtEnd new
end_read next old new is reads = subst (λ (n : Option ℕ). ReadsByte {E = ReadFault} (Ok n) old new) is reads

-- bytes behind a line that isn't ended
line_length-append : (line rest : List ℕ) → HasNoEnd line → line_length (line ++ rest) ≡ length line + line_length rest
line_length-append [] rest none = omega arith
line_length-append (byte ∷ line) rest none =
    (elim (eqb byte 10) as (λ b. (b || list_any (λ (byte : ℕ). eqb byte 10) line) ≡ false → cond (not b) (1 + line_length (line ++ rest)) 0 ≡ length (byte ∷ line) + line_length rest) [
      | true ↦ λ e. absurd (true≢false e)
      | false ↦ λ e. omega (arith, line_length-append line rest e)
    ]) none

-- what a choice gives
cond-true : {X : Type 0} (b : Bool) (x y : X) → b ≡ true → cond b x y ≡ x
cond-true true x y e = refl
cond-true false x y e = absurd (true≢false (sym e))

cond-false : {X : Type 0} (b : Bool) (x y : X) → b ≡ false → cond b x y ≡ y
cond-false true x y e = absurd (true≢false e)
cond-false false x y e = refl

-- a line that is ended is the next one
next-ended : (line rest : List ℕ) → HasNoEnd line → length line ≤ 64 → (next_answer (line ++ 10 ∷ rest) ≡ line_answer line) × (answer_bytes (line ++ 10 ∷ rest) ≡ line ++ 10 ∷ [])
next-ended line rest none short =
    let at : line_length (line ++ 10 ∷ rest) ≡ length line = omega (arith, line_length-append line (10 ∷ rest) none) in
    let long : length (line ++ 10 ∷ rest) ≡ length line + length (10 ∷ rest) = length-append line (10 ∷ rest) in (
      cond-true (ltb (line_length (line ++ 10 ∷ rest)) (min 65 (length (line ++ 10 ∷ rest)))) (line_answer (take (line_length (line ++ 10 ∷ rest)) (line ++ 10 ∷ rest))) (Err (no_line (line ++ 10 ∷ rest))) (lt-ltb _ _ (omega arith))
          ∙ ap (λ n. line_answer (take n (line ++ 10 ∷ rest))) at
          ∙ ap line_answer (take_at line (10 ∷ rest) (length line) refl),
      ap (λ n. take n (line ++ 10 ∷ rest)) (omega arith) ∙ take-append-add line (10 ∷ rest) 1,
    )

-- bytes that aren't ended have no next line
next-end : (line : List ℕ) → HasNoEnd line → length line ≤ 64 → (next_answer line ≡ Err Ended) × (answer_bytes line ≡ line)
next-end line none short =
    let at : line_length line ≡ length line = ap line_length (sym (append-nil line)) ∙ line_length-append line [] none ∙ omega arith in (
      cond-false (ltb (line_length line) (min 65 (length line))) (line_answer (take (line_length line) line)) (Err (no_line line)) (le-ltb _ _ (omega arith))
          ∙ ap Err (cond-false (ltb 64 (length line)) TooLong Ended (le-ltb _ _ short)),
      take_all (min 65 (line_length line + 1)) line (omega arith),
    )

-- nor has a line that is longer than one may be
next-long : (line rest : List ℕ) → HasNoEnd line → length line ≡ 65 → (next_answer (line ++ rest) ≡ Err TooLong) × (answer_bytes (line ++ rest) ≡ line)
next-long line rest none long =
    let at : line_length (line ++ rest) ≡ length line + line_length rest = line_length-append line rest none in (
      cond-false (ltb (line_length (line ++ rest)) (min 65 (length (line ++ rest)))) (line_answer (take (line_length (line ++ rest)) (line ++ rest))) (Err (no_line (line ++ rest))) (le-ltb _ _ (omega arith))
          ∙ ap Err (cond-true (ltb 64 (length (line ++ rest))) TooLong Ended (lt-ltb _ _ (omega (arith, length-append line rest, long)))),
      ap (λ n. take n (line ++ rest)) (omega arith) ∙ take_at line rest (length line) refl,
    )

-- bytes that were taken are those of the next answer, whatever stands behind them
ReadsAnswer-taken : (answer : Result ℤ NoAnswer) (taken : List ℕ) (old new : Option (List ℕ)) → Consumes old new taken
    → ((rest : List ℕ) → (next_answer (taken ++ rest) ≡ answer) × (answer_bytes (taken ++ rest) ≡ taken)) → ReadsAnswer answer old new
ReadsAnswer-taken answer taken None new consumed is = record { left = taken; known = tt; is = sym (ap next_answer (sym (append-nil taken)) ∙ (is []).0); consumed = tt }
ReadsAnswer-taken answer taken (Some bytes) None consumed is = absurd consumed
ReadsAnswer-taken answer taken (Some bytes) (Some rest) consumed is =
    record { left = taken ++ rest; known = consumed; is = sym (is rest).0; consumed = consumed ∙ ap (λ front. front ++ rest) (sym (is rest).1) }

-- an ended line was read
pub ReadsAnswer-ended : (line : List ℕ) (byte : ℕ) (old middle new : Option (List ℕ)) (answer : Result ℤ NoAnswer) → HasNoEnd line → length line ≤ 64 → Consumes old middle line → Consumes middle new (byte ∷ []) → byte ≡ 10
    → answer ≡ line_answer line → ReadsAnswer answer old new
ReadsAnswer-ended line byte old middle new answer none short first last ten is =
    ReadsAnswer-taken answer (line ++ 10 ∷ []) old new (Consumes-then old middle new line (10 ∷ []) first (subst (λ (b : ℕ). Consumes middle new (b ∷ [])) ten last)) (λ rest. (
      ap next_answer (append_assoc line (10 ∷ []) rest) ∙ (next-ended line rest none short).0 ∙ sym is,
      ap answer_bytes (append_assoc line (10 ∷ []) rest) ∙ (next-ended line rest none short).1,
    ))

-- a line was read that is too long
pub ReadsAnswer-long : (line : List ℕ) (byte : ℕ) (old middle new : Option (List ℕ)) → HasNoEnd line → length line ≡ 64 → Consumes old middle line → Consumes middle new (byte ∷ []) → (byte ≡ 10 → ⊥) → ReadsAnswer (Err TooLong) old new
ReadsAnswer-long line byte old middle new none long first last other =
    ReadsAnswer-taken (Err TooLong) (line ++ byte ∷ []) old new (Consumes-then old middle new line (byte ∷ []) first last)
    (λ rest. next-long (line ++ byte ∷ []) rest (list_any-append (λ (b : ℕ). eqb b 10) line (byte ∷ []) ∙ or_from _ _ none (or_from _ _ (ne_eqb byte 10 other) refl)) (length-append line (byte ∷ []) ∙ omega (arith, long)))

-- bytes were read to their end
pub ReadsAnswer-end : (line : List ℕ) (old middle new : Option (List ℕ)) → HasNoEnd line → length line ≤ 64 → Consumes old middle line → Consumes middle new [] → IsAtEnd new → ReadsAnswer (Err Ended) old new
ReadsAnswer-end line old middle new none short first last end =
    at_end old new (subst (Consumes old new) (append-nil line) (Consumes-then old middle new line [] first last)) end where
      at_end : (old new : Option (List ℕ)) → Consumes old new line → IsAtEnd new → ReadsAnswer (Err Ended) old new
      at_end None new consumed end = record { left = line; known = tt; is = sym (next-end line none short).0; consumed = tt }
      at_end (Some bytes) None consumed end = absurd consumed
      at_end (Some bytes) (Some rest) consumed end = record {
        left = line;
        known = consumed ∙ ap (λ behind. line ++ behind) end ∙ append-nil line;
        is = sym (next-end line none short).0;
        consumed = consumed ∙ ap (λ front. front ++ rest) (sym (next-end line none short).1);
      }
