-- Readers and writers whose bytes are known, over several calls.
use Rattle.std.proofs.Common.{ℕ, ◌≡◌, ◌∙◌, ◌≤◌, ◌-◌, arith, drop, List, ◌++◌, Option, Some, None, length, take, refl, ap, sym, append_assoc}
use Rattle.std.specs.Io.KnownBytes.{Keeps, Appends, Consumes}
use Rattle.std.proofs.lemmas.Grind.{common_steps}

-- what is known stays where nothing happens
pub Keeps-refl : (a : Option (List ℕ)) → Keeps a a
Keeps-refl None = tt
Keeps-refl (Some xs) = refl

-- what is kept twice is kept
pub Keeps-then : (a b c : Option (List ℕ)) → Keeps a b → Keeps b c → Keeps a c
Keeps-then None b c p q = tt
Keeps-then (Some xs) None c p q = absurd p
Keeps-then (Some xs) (Some ys) None p q = absurd q
Keeps-then (Some xs) (Some ys) (Some zs) p q = q ∙ p

-- bytes taken, and then more
pub Consumes-then : (a b c : Option (List ℕ)) (xs ys : List ℕ) → Consumes a b xs → Consumes b c ys → Consumes a c (xs ++ ys)
Consumes-then None b c xs ys p q = tt
Consumes-then (Some us) None c xs ys p q = absurd p
Consumes-then (Some us) (Some vs) None xs ys p q = absurd q
Consumes-then (Some us) (Some vs) (Some ws) xs ys p q = p ∙ ap (λ zs. xs ++ zs) q ∙ sym (append_assoc xs ys ws)

-- bytes appended, and then more
pub Appends-then : (a b c : Option (List ℕ)) (xs ys : List ℕ) → Appends a b xs → Appends b c ys → Appends a c (xs ++ ys)
Appends-then None b c xs ys p q = tt
Appends-then (Some us) None c xs ys p q = absurd p
Appends-then (Some us) (Some vs) None xs ys p q = absurd q
Appends-then (Some us) (Some vs) (Some ws) xs ys p q = q ∙ ap (λ zs. zs ++ ys) p ∙ append_assoc us xs ys

-- what is left after a write, as the code cuts it
pub rest_split : (bytes part rest : List ℕ) (n : ℕ) → bytes ≡ part ++ rest → n ≤ length rest
    → bytes ≡ (part ++ take n rest) ++ take (length rest - n) (drop n rest)
rest_split bytes part rest n split within = grind (arith, common_steps)
