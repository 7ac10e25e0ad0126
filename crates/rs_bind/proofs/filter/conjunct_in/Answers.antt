-- There are at most as many columns as the entries have, and each is one of an entry from 1 to 6.
use Rattle.std.proofs.Common.{ℕ, ◌≤◌, ◌∙◌, List, length, subst, sym}
use Rattle.std.specs.List.{AllByRecursion}
use Rattle.rs_syntax.specs.Syntax.{expression_of}
use Rattle.rs_bind.specs.Terms.{IsEntryColumn}
use Rattle.rs_bind.proofs.ReferenceFacts.{named-entries, named-few}
use Rattle.rs_bind.proofs.filter.conjunct_in.Goals as goal

pub condition_over-requires : goal.condition_over-requires
condition_over-requires c =
    let sources = c.args.sources.now in
    let kept = c.deref.ensures.value ∙ c.in_ok-columns.ensures in
    subst (λ (columns : List (ℕ × ℕ)). length columns ≤ 384) (sym kept)
    (named-few sources.catalog.now sources.from.now sources.few sources.columns (expression_of c.args.node.now))

pub entries_of-entries-requires : goal.entries_of-entries-requires
entries_of-entries-requires c =
    let sources = c.args.sources.now in
    let kept = c.deref-2.ensures.value ∙ c.in_ok-columns.ensures in
    subst (AllByRecursion IsEntryColumn) (sym kept)
    (named-entries sources.catalog.now sources.from.now sources.few sources.columns (expression_of c.args.node.now))
