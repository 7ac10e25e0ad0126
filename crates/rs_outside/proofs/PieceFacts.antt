-- Pieces, one after another.
use Rattle.std.proofs.Common.{ℕ, ◌≡◌, ◌∙◌, List, [], ◌∷◌, ◌++◌, refl, ap, sym, append_assoc}
use Rattle.std.specs.List.{concat}

-- one more piece comes last
pub concat-push : (pieces : List (List ℕ)) (piece : List ℕ) → concat (pieces ++ piece ∷ []) ≡ concat pieces ++ piece
concat-push [] [] = refl
concat-push [] (x ∷ xs) = ap (λ rest. x ∷ rest) (concat-push [] xs)
concat-push (p ∷ ps) piece = ap (λ rest. p ++ rest) (concat-push ps piece) ∙ sym (append_assoc p (concat ps) piece)
