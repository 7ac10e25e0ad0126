-- Each bound is a sum that terms can give, with what the other terms can give at most. The new key has the row's ids,
-- which no held row has, and stands for the row.
use Rattle.std.proofs.Common.{◌≡◌, ℕ, ◌+◌, List, Some, bit_or, sym, ap, subst, ◌∙◌}
use Rattle.rs_order.specs.Sorting.{put}
use Rattle.rs_rank.specs.declared.key.Key.{Key}
use Rattle.rs_rank.specs.declared.row.RankRow.{RankRow}
use Rattle.rs_rank.specs.Keys.{key_cmp}
use Rattle.rs_rank.specs.Masks.{mask_of}
use Rattle.rs_rank.specs.Rows.{key_of}
use Rattle.rs_rank.specs.Weights.{rest}
use Rattle.rs_mu.specs.Mu.{HaveRest, Mu, full_key, rows_of_keys, scored}
use Rattle.rs_mu.proofs.KeyFacts.{HaveRest-put, put-keys}
use Rattle.rs_mu.proofs.MuFacts.{bound-within, has_key-other_keys}
use Rattle.rs_mu.proofs.mu.MuCore.feed.Goals as goal

abbrev pair_key : Key × RankRow → Key
pair_key pair = pair.0

pub key_with-last-requires : goal.key_with-last-requires
key_with-last-requires c =
    let weights = ap (λ (mu : Mu). mu.weights) c.self.view_is in
    let terms = ap (λ (mu : Mu). mu.terms) c.self.view_is in
    rw c.self.invariant.2 (bound-within c.self.inside.weights c.self.inside.terms c.args.row.sum c.self.invariant.0 (rw (weights, terms) c.requires.sum))

pub key_with-key-requires : goal.key_with-key-requires
key_with-key-requires c =
    let weights = ap (λ (mu : Mu). mu.weights) c.self.view_is in
    let terms = ap (λ (mu : Mu). mu.terms) c.self.view_is in
    let term = ap (λ (mu : Mu). mu.term) c.self.view_is in
    rw c.self.invariant.3 (bound-within c.self.inside.weights (bit_or c.self.inside.terms (mask_of c.self.inside.term)) c.add_share-scored.result.sum c.self.invariant.0
    (rw (weights, terms, term) c.add_share-scored.ensures.sum))

pub push-requires : goal.push-requires
push-requires c =
    let held = ap (λ (mu : Mu). mu.held) c.self.view_is in
    let ids : c.key_with-key.result.ids ≡ c.args.row.ids = ap (λ (key : Key). key.ids) c.key_with-key.ensures ∙ ap (λ (row : RankRow). row.ids) c.add_share-scored.ensures.value in
    has_key-other_keys c.self.inside.above c.key_with-key.result c.self.inside.held (rw (held, ids) c.requires.others)

pub invariant_of-self : goal.invariant_of-self
invariant_of-self c =
    let above = c.self.inside.above in
    let held = HaveRest-put above c.key_with-key.result c.add_share-scored.result c.self.inside.held c.key_with-key.ensures c.self.invariant.4 in
    (c.self.invariant.0, c.self.invariant.1, c.self.invariant.2, c.self.invariant.3, subst (HaveRest above) (sym c.in-Ok.ensures.ok) held)

pub returns-in-Ok-clause-ok : goal.returns-in-Ok-clause-ok
returns-in-Ok-clause-ok c =
    let now = c.args.self.now in
    let key = c.key_with-key.result in
    let row = c.add_share-scored.result in
    let last : c.key_with-last.result ≡ key_of now.weights now.terms c.args.row =
    c.key_with-last.ensures
    ∙ ap (λ (more : ℕ). record { bound = c.args.row.sum + more; ids = c.args.row.ids }) (c.self.invariant.2 ∙ ap (λ (mu : Mu). rest mu.weights mu.terms) c.self.view_is) in
    let full : key ≡ full_key now row =
    c.key_with-key.ensures
    ∙ ap (λ (more : ℕ). record { bound = row.sum + more; ids = row.ids }) (c.self.invariant.3 ∙ ap (λ (mu : Mu). rest mu.weights (bit_or mu.terms (mask_of mu.term))) c.self.view_is) in
    let above = c.self.inside.above in
    let held : rows_of_keys above c.push.new.self ≡ put key_cmp pair_key (full_key now (scored now c.args.row c.args.worth), scored now c.args.row c.args.worth) now.held =
    ap (rows_of_keys above) c.in-Ok.ensures.ok
    ∙ put-keys above key row c.self.inside.held c.key_with-key.ensures
    ∙ ap (λ (mu : Mu). put key_cmp pair_key (key, row) mu.held) c.self.view_is
    ∙ ap (λ (key : Key). put key_cmp pair_key (key, row) now.held) full
    ∙ ap (λ (row : RankRow). put key_cmp pair_key (full_key now row, row) now.held) c.add_share-scored.ensures.value in
    ap (λ (mu : Mu). record mu { last = Some c.key_with-last.result; held = rows_of_keys above c.push.new.self }) c.self.view_is
    ∙ ap (λ (last : Key). record now { last = Some last; held = rows_of_keys above c.push.new.self }) last
    ∙ ap (λ (held : List (Key × RankRow)). record now { last = Some (key_of now.weights now.terms c.args.row); held = held }) held
