-- The rows that the map has are the first ones.
use Rattle.std.proofs.Common.{length, sym, subst}
use Rattle.rs_query.specs.EqualRows.{HasKey, IsNext}
use Rattle.rs_query.proofs.equal_rows.EqualRows.of.Goals as goal

pub returns-clause-first : goal.returns-clause-first
returns-clause-first g c = λ place key at.
    subst (IsNext (HasKey g.K.Ord.cmp c.args.rights.items key) 0 (length c.args.rights.items)) (sym (c.in_ok-first.ensures.rows place key at)) (c.in_ok-next.ensures.firsts key)
