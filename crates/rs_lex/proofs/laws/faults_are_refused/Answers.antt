use Rattle.std.proofs.Common.{◌≡◌, ◌+◌, ◌∷◌, arith, subst}
use Rattle.rs_lex.specs.Bytes.{quote}
use Rattle.rs_lex.specs.Spelling.{RefusesBytes, bad, open_text, too_many, too_wide}
use Rattle.rs_lex.specs.Spelling as spelling
use Rattle.rs_lex.specs.declared.fault.LexFault.TheVariants.{BadByte}
use Rattle.rs_lex.proofs.FaultFacts.{BeginsNoToken-front, HasLetterBehind-front, IsOpen-front, IsMore-BeginsOther, IsWide-front, empty_name-front}
use Rattle.rs_lex.proofs.TakenFacts.{token-is_found}
use Rattle.rs_lex.proofs.laws.faults_are_refused.Goals as goal

pub returns-clause-no_token : goal.returns-clause-no_token
returns-clause-no_token c = λ count at bytes few h.
    let here : at + 0 ≡ at = omega arith in
    subst (λ place. RefusesBytes count at bytes (BadByte place)) here (bad count at 0 bytes few (BeginsNoToken-front bytes h))

pub returns-clause-empty_name : goal.returns-clause-empty_name
returns-clause-empty_name c = λ count at after few none.
    let here : at + 0 ≡ at = omega arith in
    subst (λ place. RefusesBytes count at (quote ∷ quote ∷ after) (BadByte place)) here (bad count at 0 (quote ∷ quote ∷ after) few (empty_name-front after none))

pub returns-clause-letter : goal.returns-clause-letter
returns-clause-letter c = λ count at n bytes few h. bad count at n bytes few (HasLetterBehind-front n bytes h)

pub returns-clause-never_closed : goal.returns-clause-never_closed
returns-clause-never_closed c = λ count at bytes few h. open_text count at bytes few (IsOpen-front bytes h)

pub returns-clause-too_great : goal.returns-clause-too_great
returns-clause-too_great c = λ count at bytes few h. too_wide count at bytes few (IsWide-front bytes h)

pub returns-clause-too_many : goal.returns-clause-too_many
returns-clause-too_many c = λ at bytes h. too_many at bytes (IsMore-BeginsOther bytes h)

pub returns-clause-behind : goal.returns-clause-behind
returns-clause-behind c = λ count at n sort bytes fault few le h ends more.
    spelling.RefusesBytes.takes count at n sort bytes fault few (token-is_found bytes sort n le h ends) more
