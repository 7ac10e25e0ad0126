-- Each level adds two spaces.
use Rattle.std.proofs.Common.{◌∙◌, ◌++◌, ◌∷◌, [], ap}
use Rattle.rs_enum.proofs.TextFacts.{indent-more}
use Rattle.rs_enum.proofs.text.put_indent.Goals as goal

pub loop-below-preserved : goal.loop-below-preserved
loop-below-preserved c =
    c.in_ok-extend_from_slice.ensures.items ∙ ap (λ xs. xs ++ (32 ∷ 32 ∷ [])) c.loop-below.invariant
    ∙ indent-more c.loop-below._below c.args.text.now.items
