use Rattle.std.proofs.Common.{rules, ◌∙◌, map, ap, sym}
use Rattle.std.specs.String.{string_bytes}
use Rattle.std.specs.Vec.Iter.{into_iter_items}
use Rattle.std.proofs.lemmas.Iterator.Consumers.{YieldsList-end}
use Rattle.std.proofs.lemmas.Iterator.Adapters.{YieldsList-from_vec, YieldsList-from_skip}
use Rattle.std.proofs.lemmas.List.{map-id}
use Rattle.rs_program.proofs.words.words_of.Goals as goal

pub returns : goal.returns
returns c =
    let words = YieldsList-from_skip {s = c.into_iter-word-iterator.result} 1 (YieldsList-from_vec (into_iter_items c.args.args) (search rules) (search rules)) (search rules) in
    let all = YieldsList-end words c.loop-word.yielded c.loop-word.word-iterator c.loop-word.yielded_by c.next.result c.next.new.self c.in-None.is c.next.ensures.steps in
    c.loop-word.invariant ∙ ap (map string_bytes) (sym (map-id c.loop-word.yielded) ∙ all.0)
