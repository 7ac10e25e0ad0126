-- The word ends at the first space, which `position` finds.
use Rattle.std.proofs.Common.{ℕ, ◌==◌, ◌+◌, ◌-◌, ◌≡◌, ◌∙◌, List, [], option_map, unwrap_or, take, drop, length, ap, sym, subst, rules, tests, length-drop}
use Rattle.std.proofs.Math.Seq.{take-length}
use Rattle.std.proofs.lemmas.Iterator.{YieldsList-from_slice}
use Rattle.std.proofs.lemmas.Iterator.Search.{position_from_yields_List}
use Rattle.cases_lines.specs.Words.{first_space}
use Rattle.cases_lines.proofs.words.cut_word.Goals as goal

-- what is left from a place on, as far as it goes
all_behind : (at : ℕ) (line : List ℕ) → take (length line - at) (drop at line) ≡ drop at line
all_behind at line = subst (λ count. take count (drop at line) ≡ drop at line) (length-drop at line) (take-length (drop at line))

pub returns-in-Some-clause-word : goal.returns-in-Some-clause-word
returns-in-Some-clause-word c =
    let place : c.position.result ≡ first_space c.args.line.now = position_from_yields_List (λ byte. byte == 32) _ _ c.position.result c.position.ensures.ran (YieldsList-from_slice c.args.line.now cc) (λ x b q k. search (rules, tests)) in
    sym (ap (λ place. unwrap_or (option_map (λ at. take at c.args.line.now) place) c.args.line.now) (sym place ∙ c.in-Some.is))

pub returns-in-Some-clause-behind : goal.returns-in-Some-clause-behind
returns-in-Some-clause-behind c =
    let place : c.position.result ≡ first_space c.args.line.now = position_from_yields_List (λ byte. byte == 32) _ _ c.position.result c.position.ensures.ran (YieldsList-from_slice c.args.line.now cc) (λ x b q k. search (rules, tests)) in
    all_behind (c.in-Some.at + 1) c.args.line.now ∙ sym (ap (λ place. unwrap_or (option_map (λ at. drop (at + 1) c.args.line.now) place) []) (sym place ∙ c.in-Some.is))

pub returns-in-None-clause-word : goal.returns-in-None-clause-word
returns-in-None-clause-word c =
    let place : c.position.result ≡ first_space c.args.line.now = position_from_yields_List (λ byte. byte == 32) _ _ c.position.result c.position.ensures.ran (YieldsList-from_slice c.args.line.now cc) (λ x b q k. search (rules, tests)) in
    sym (ap (λ place. unwrap_or (option_map (λ at. take at c.args.line.now) place) c.args.line.now) (sym place ∙ c.in-None.is))

pub returns-in-None-clause-behind : goal.returns-in-None-clause-behind
returns-in-None-clause-behind c =
    let place : c.position.result ≡ first_space c.args.line.now = position_from_yields_List (λ byte. byte == 32) _ _ c.position.result c.position.ensures.ran (YieldsList-from_slice c.args.line.now cc) (λ x b q k. search (rules, tests)) in
    sym (ap (λ place. unwrap_or (option_map (λ at. drop (at + 1) c.args.line.now) place) []) (sym place ∙ c.in-None.is))
