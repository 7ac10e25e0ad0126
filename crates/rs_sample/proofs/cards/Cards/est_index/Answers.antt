use Rattle.std.proofs.Common.{◌≡◌, ◌∙◌, ◌-◌, ◌<◌, ◌≤◌, Some, length, refl, sym, ap, subst, arith}
use Rattle.std.proofs.lemmas.List.{length-map}
use Rattle.std.proofs.lemmas.Option.{get_or_from_slice_get, slice_get_read, slice_get_within}
use Rattle.rs_rank.specs.Masks.{mask_of}
use Rattle.rs_sample.specs.Cards.{BlockCards}
use Rattle.rs_sample.specs.Kept.{block_cards}
use Rattle.rs_sample.specs.Quotients.{most_expected}
use Rattle.rs_sample.proofs.ListFacts.{slice-map}
use Rattle.rs_sample.proofs.QuotientFacts.{most-one}
use Rattle.rs_sample.proofs.cards.Cards.est_index.Goals as goal

pub est_index-requires-clause-least : goal.est_index-requires-clause-least
est_index-requires-clause-least c =
    let blocks = c.args.self.now.blocks.items in
    let e = c.index.result.now in
    let same = length-map blocks block_cards in
    let within : c.args.block - 1 < length blocks = (let some = c.requires.least in let most = c.requires.most in omega arith) in
    let at = slice-map block_cards blocks (c.args.block - 1) e (slice_get_read blocks _ (c.args.block - 1) e refl within c.index.ensures) in
    (c.requires.numbers (block_cards e) at).some_term

pub est_index-requires-clause-most : goal.est_index-requires-clause-most
est_index-requires-clause-most c =
    let blocks = c.args.self.now.blocks.items in
    let e = c.index.result.now in
    let same = length-map blocks block_cards in
    let within : c.args.block - 1 < length blocks = (let some = c.requires.least in let most = c.requires.most in omega arith) in
    let at = slice-map block_cards blocks (c.args.block - 1) e (slice_get_read blocks _ (c.args.block - 1) e refl within c.index.ensures) in
    let numbers = c.requires.numbers (block_cards e) at in
    let inside = slice_get_within e.reads.items (c.args.term - 1) (mask_of c.args.entry) numbers.reads in
    let some = numbers.some_term in
    omega arith

pub returns-clause-value : goal.returns-clause-value
returns-clause-value c = λ cards is.
    let blocks = c.args.self.now.blocks.items in
    let e = c.index.result.now in
    let same = length-map blocks block_cards in
    let within : c.args.block - 1 < length blocks = (let some = c.requires.least in let most = c.requires.most in omega arith) in
    let at = slice-map block_cards blocks (c.args.block - 1) e (slice_get_read blocks _ (c.args.block - 1) e refl within c.index.ensures) in
    let both : Some (block_cards e) ≡ Some cards = sym at ∙ is in
    let cards_are : block_cards e ≡ cards = cc in
    c.est_index.ensures.value ∙ ap (λ (k : BlockCards). k.index_estimate c.args.entry c.args.term) cards_are

pub returns-clause-limit : goal.returns-clause-limit
returns-clause-limit c =
    let blocks = c.args.self.now.blocks.items in
    let e = c.index.result.now in
    let same = length-map blocks block_cards in
    let within : c.args.block - 1 < length blocks = (let some = c.requires.least in let most = c.requires.most in omega arith) in
    let at = slice-map block_cards blocks (c.args.block - 1) e (slice_get_read blocks _ (c.args.block - 1) e refl within c.index.ensures) in
    let numbers = c.requires.numbers (block_cards e) at in
    let read = get_or_from_slice_get e.reads.items (c.args.term - 1) (mask_of c.args.entry) 0 numbers.reads in
    subst (λ most. c.est_index.result ≤ most) (ap most_expected read ∙ most-one (c.args.entry - 1)) c.est_index.ensures.limit
