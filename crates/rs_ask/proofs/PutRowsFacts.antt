-- What runs put, as it is held: bytes, and the lengths of the pieces that they begin with.
use Rattle.std.proofs.Common.{◌≡◌, ◌≤◌, ◌∙◌, ◌+◌, ◌⊎◌, ℕ, inr, List, [], None, Option, Some, ◌∷◌, ◌++◌, ap, append_assoc, arith, drop, drop-drop, length, length-append, length-drop, refl, sym, take, Bor}
use Rattle.std.specs.List.{concat}
use Rattle.std.specs.Prelude.{MatchOption}
use Rattle.std.proofs.lemmas.List.{drop-append-le, take-append-drop, take-append-le, take_at}
use Rattle.std.proofs.Math.Seq.{drop-append_seam}
use Rattle.rs_outside.specs.Sink.{IsPrefix}
use Rattle.rs_ask.specs.PutRows.{PutRowsState, pieces_of, total}
use Rattle.rs_ask.specs.declared.row_fault.RowFault.{RowFault}

-- the pieces, and what stands behind them
pub pieces_of-split : (lengths bytes : List ℕ) → bytes ≡ concat (pieces_of lengths bytes) ++ drop (total lengths) bytes
pieces_of-split [] bytes = refl
pieces_of-split (n ∷ rest) bytes =
    sym (take-append-drop n bytes)
    ∙ ap (λ behind. take n bytes ++ behind) (pieces_of-split rest (drop n bytes) ∙ ap (λ behind. concat (pieces_of rest (drop n bytes)) ++ behind) (drop-drop (total rest) n bytes))
    ∙ sym (append_assoc (take n bytes) (concat (pieces_of rest (drop n bytes))) (drop (n + total rest) bytes))

-- one more piece
pub pieces_of-push : (lengths : List ℕ) (n : ℕ) (bytes : List ℕ) → pieces_of (lengths ++ n ∷ []) bytes ≡ pieces_of lengths bytes ++ take n (drop (total lengths) bytes) ∷ []
pieces_of-push [] n bytes = refl
pieces_of-push (m ∷ rest) n bytes =
    ap (λ more. take m bytes ∷ more) (pieces_of-push rest n (drop m bytes) ∙ ap (λ behind. pieces_of rest (drop m bytes) ++ take n behind ∷ []) (drop-drop (total rest) m bytes))

-- more bytes behind them
pub pieces_of-more : (lengths bytes more : List ℕ) → total lengths ≤ length bytes → pieces_of lengths (bytes ++ more) ≡ pieces_of lengths bytes
pieces_of-more [] bytes more within = refl
pieces_of-more (n ∷ rest) bytes more within =
    ap (λ first. first ∷ pieces_of rest (drop n (bytes ++ more))) (take-append-le n bytes more (omega arith))
    ∙ ap (λ behind. take n bytes ∷ pieces_of rest behind) (drop-append-le n bytes more (omega arith))
    ∙ ap (λ behind. take n bytes ∷ behind) (pieces_of-more rest (drop n bytes) more (omega (arith, length-drop n bytes)))

pub total-push : (lengths : List ℕ) (n : ℕ) → total (lengths ++ n ∷ []) ≡ total lengths + n
total-push [] n = omega arith
total-push (m ∷ rest) n = omega (arith, total-push rest n)

-- how many bytes the pieces are
pub length-pieces : (lengths bytes : List ℕ) → total lengths ≤ length bytes → length (concat (pieces_of lengths bytes)) ≡ total lengths
length-pieces lengths bytes within =
    let whole : length bytes ≡ length (concat (pieces_of lengths bytes)) + length (drop (total lengths) bytes) =
    ap length (pieces_of-split lengths bytes) ∙ length-append (concat (pieces_of lengths bytes)) (drop (total lengths) bytes) in
    omega (arith, whole, within, length-drop (total lengths) bytes)

-- a piece that goes on where they end is one more
pub pieces_of-add : (lengths bytes piece new : List ℕ) → total lengths ≤ length bytes → IsPrefix (concat (pieces_of lengths bytes) ++ piece) (bytes ++ new)
    → pieces_of (lengths ++ length piece ∷ []) (bytes ++ new) ≡ pieces_of lengths bytes ++ piece ∷ []
pieces_of-add lengths bytes piece new within goes =
    let pieces = concat (pieces_of lengths bytes) in
    let behind : drop (total lengths) (bytes ++ new) ≡ piece ++ goes.rest =
    ap (drop (total lengths)) (goes.split ∙ append_assoc pieces piece goes.rest)
    ∙ ap (λ n. drop n (pieces ++ (piece ++ goes.rest))) (sym (length-pieces lengths bytes within)) ∙ drop-append_seam pieces (piece ++ goes.rest) in
    pieces_of-push lengths (length piece) (bytes ++ new)
    ∙ ap (λ first. first ++ take (length piece) (drop (total lengths) (bytes ++ new)) ∷ []) (pieces_of-more lengths bytes new within)
    ∙ ap (λ last. pieces_of lengths bytes ++ take (length piece) last ∷ []) behind
    ∙ ap (λ last. pieces_of lengths bytes ++ last ∷ []) (take_at piece goes.rest (length piece) refl)

-- it ends within the bytes
pub within-add : (lengths bytes piece new : List ℕ) → total lengths ≤ length bytes → IsPrefix (concat (pieces_of lengths bytes) ++ piece) (bytes ++ new)
    → total lengths + length piece ≤ length (bytes ++ new)
within-add lengths bytes piece new within goes =
    let pieces = concat (pieces_of lengths bytes) in
    let whole : length (bytes ++ new) ≡ length (pieces ++ piece) + length goes.rest = ap length goes.split ∙ length-append (pieces ++ piece) goes.rest in
    omega (arith, whole, length-append pieces piece, length-pieces lengths bytes within)

-- what is seen of the rows when it was added
pub held-add : (before : ℕ) (bytes all : List ℕ) (lengths more : List ℕ) (refused : List (List ℕ)) (fault : Option RowFault) (faults : ℕ) (piece new : List ℕ)
    → all ≡ bytes ++ new → more ≡ lengths ++ length piece ∷ [] → before ≤ length bytes → total lengths ≤ length bytes → IsPrefix (concat (pieces_of lengths bytes) ++ piece) (bytes ++ new)
    → ◌≡◌ {A = PutRowsState} (record { shown = take before all; bytes = all; pieces = pieces_of more all; refused = refused; fault = fault; faults = faults })
    (record { shown = take before bytes; bytes = bytes ++ new; pieces = pieces_of lengths bytes ++ piece ∷ []; refused = refused; fault = fault; faults = faults })
held-add before bytes all lengths more refused fault faults piece new is are known within goes =
    let seen : List ℕ → List ℕ → List (List ℕ) → PutRowsState = λ shown bytes pieces. record { shown = shown; bytes = bytes; pieces = pieces; refused = refused; fault = fault; faults = faults } in
    ap (λ all. seen (take before all) all (pieces_of more all)) is
    ∙ ap (λ more. seen (take before (bytes ++ new)) (bytes ++ new) (pieces_of more (bytes ++ new))) are
    ∙ ap (λ shown. seen shown (bytes ++ new) (pieces_of (lengths ++ length piece ∷ []) (bytes ++ new))) (take-append-le before bytes new known)
    ∙ ap (λ pieces. seen (take before bytes) (bytes ++ new) pieces) (pieces_of-add lengths bytes piece new within goes)

-- what is new of a piece, as two searches for a prefix say it
pub part-new : (before piece : List ℕ) (result : Option (Bor (List ℕ))) → ((rest : List ℕ) → before ≡ piece ++ rest → ⊥)
    → MatchOption result ((rest : List ℕ) → piece ≡ before ++ rest → ⊥) (λ new. piece ≡ before ++ new.now)
    → MatchOption result ((¬ IsPrefix piece before) × (¬ IsPrefix before piece)) (λ new. (IsPrefix piece before × (new.now ≡ [])) ⊎ (piece ≡ before ++ new.now))
part-new before piece None first second = (λ (p : IsPrefix piece before). first p.rest p.split, λ (p : IsPrefix before piece). second p.rest p.split)
part-new before piece (Some new) first second = inr second
