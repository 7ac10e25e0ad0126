-- Lists that wait: which of them are looked at, and one more of them.
use Rattle.std.proofs.Common.{◌≡◌, ℕ, ◌+◌, ◌<◌, ◌||◌, Bool, false, List, [], ◌∷◌, ◌++◌, append-nil, drop, get_or, length, sym, ◌∙◌, ap, subst}
use Rattle.std.proofs.lemmas.List.{append_assoc, drop_more, map-append}
use Rattle.std.specs.Cmp.Lexicographic.{pointwise}
use Rattle.std.specs.declared.alloc.Global.{Global}
use Rattle.std.specs.declared.vec.Vec.{Vec}
use Rattle.rs_value.specs.contracts.value.ValuePartialEq.TheImpl as value
use Rattle.rs_value.specs.declared.value.Value.{Value}
use Rattle.rs_outputs.specs.Seen.{has_list}
use Rattle.rs_outputs.specs.Waiting.{AreNew, lists_in}
use Rattle.rs_outputs.proofs.SameFacts.{pointwise-same_values}

-- a list that is looked at is the one that is looked for, or it is one of those behind
pub has_list-next : (values : List Value) (lists : List (Vec Value Global)) (n : ℕ) (list : Vec Value Global) (b : Bool) → n < length lists → list ≡ get_or lists n list → b ≡ pointwise value.ghosts.eq values list.items
    → has_list values (lists_in (drop n lists)) ≡ (b || has_list values (lists_in (drop (n + 1) lists)))
has_list-next values lists n list b within is e =
    ap (λ ls. has_list values (lists_in ls)) (drop_more lists n list within ∙ ap (λ l. l ∷ drop (n + 1) lists) (sym is))
    ∙ ap (λ c. c || has_list values (lists_in (drop (n + 1) lists))) (sym (e ∙ pointwise-same_values values list.items))

-- one more that is none of them
are_new-push : (lists waiting : List (List Value)) (values : List Value) → AreNew lists waiting → has_list values (lists ++ waiting) ≡ false → AreNew lists (waiting ++ values ∷ [])
are_new-push lists [] values new unseen = (ap (has_list values) (sym (append-nil lists)) ∙ unseen, tt)
are_new-push lists (list ∷ waiting) values new unseen =
    (new.0, are_new-push (lists ++ list ∷ []) waiting values new.1 (ap (has_list values) (append_assoc lists (list ∷ []) waiting) ∙ unseen))

pub are_new-pushed : (lists : List (List Value)) (old new : List (Vec Value Global)) (values : Vec Value Global) → new ≡ old ++ values ∷ [] → AreNew lists (lists_in old) → has_list values.items (lists ++ lists_in old) ≡ false → AreNew lists (lists_in new)
are_new-pushed lists old new values e are unseen =
    subst (AreNew lists) (sym (ap lists_in e ∙ map-append (λ (list : Vec Value Global). list.items) old (values ∷ []))) (are_new-push lists (lists_in old) values.items are unseen)
