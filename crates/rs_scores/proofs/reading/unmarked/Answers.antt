use Rattle.std.proofs.Common.{◌≡◌, ◌∙◌, ◌-◌, arith, drop, length, sym, take}
use Rattle.std.proofs.lemmas.Grind.{common_steps}
use Rattle.rs_scores.proofs.PlaceFacts.{strip_bom-marked, strip_bom-unmarked}
use Rattle.rs_scores.proofs.reading.unmarked.Goals as goal

pub returns-then-is_marked : goal.returns-then-is_marked
returns-then-is_marked c =
    let bytes = c.args.bytes.now in
    let all : take (length bytes - 3) (drop 3 bytes) ≡ drop 3 bytes = grind (arith, common_steps) in
    all ∙ sym (strip_bom-marked bytes (sym c.is_marked.ensures ∙ c.if-is_marked.true))

pub returns-else-is_marked : goal.returns-else-is_marked
returns-else-is_marked c = sym (strip_bom-unmarked c.args.bytes.now (sym c.is_marked.ensures ∙ c.if-is_marked.false))
