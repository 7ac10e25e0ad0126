use Rattle.std.proofs.Common.{◌≡◌, ◌∙◌, ◌-◌, ◌<◌, Some, length, refl, sym, ap, arith}
use Rattle.std.proofs.lemmas.List.{length-map}
use Rattle.std.proofs.lemmas.Option.{slice_get_read}
use Rattle.rs_sample.specs.Cards.{BlockCards}
use Rattle.rs_sample.specs.Kept.{block_cards}
use Rattle.rs_sample.proofs.ListFacts.{slice-map}
use Rattle.rs_sample.proofs.cards.Cards.est.Goals as goal

pub est-requires-clause-entries : goal.est-requires-clause-entries
est-requires-clause-entries c =
    let blocks = c.args.self.now.blocks.items in
    let e = c.index.result.now in
    let same = length-map blocks block_cards in
    let within : c.args.block - 1 < length blocks = (let some = c.requires.least in let most = c.requires.most in omega arith) in
    let at = slice-map block_cards blocks (c.args.block - 1) e (slice_get_read blocks _ (c.args.block - 1) e refl within c.index.ensures) in
    (c.requires.masks (block_cards e) at).entries

pub est-requires-clause-terms : goal.est-requires-clause-terms
est-requires-clause-terms c =
    let blocks = c.args.self.now.blocks.items in
    let e = c.index.result.now in
    let same = length-map blocks block_cards in
    let within : c.args.block - 1 < length blocks = (let some = c.requires.least in let most = c.requires.most in omega arith) in
    let at = slice-map block_cards blocks (c.args.block - 1) e (slice_get_read blocks _ (c.args.block - 1) e refl within c.index.ensures) in
    (c.requires.masks (block_cards e) at).terms_are

pub returns-clause-value : goal.returns-clause-value
returns-clause-value c = λ cards is.
    let blocks = c.args.self.now.blocks.items in
    let e = c.index.result.now in
    let same = length-map blocks block_cards in
    let within : c.args.block - 1 < length blocks = (let some = c.requires.least in let most = c.requires.most in omega arith) in
    let at = slice-map block_cards blocks (c.args.block - 1) e (slice_get_read blocks _ (c.args.block - 1) e refl within c.index.ensures) in
    let both : Some (block_cards e) ≡ Some cards = sym at ∙ is in
    let cards_are : block_cards e ≡ cards = cc in
    c.est.ensures.value ∙ ap (λ (k : BlockCards). k.estimate c.args.entries c.args.terms) cards_are
