-- The lists of the index get room and stay the same.
use Rattle.std.proofs.Common.{arith, refl, subst}
use Rattle.rs_catalog.specs.Grown.{HasRoom}
use Rattle.rs_catalog.proofs.JoinRowsFacts.{OthersStay-set, set-kept, set-own}
use Rattle.rs_catalog.proofs.catalog.make_room_at.Goals as goal

pub returns-in_err-reserve-clause-same : goal.returns-in_err-reserve-clause-same
returns-in_err-reserve-clause-same c = set-kept c.args.place _ c.index_mut-index.result.now c.args.indexes.now.entries c.index_mut-index.ensures.value refl c.reserve.ensures.items refl

pub returns-in_err-reserve-clause-others : goal.returns-in_err-reserve-clause-others
returns-in_err-reserve-clause-others c = OthersStay-set c.args.place _ c.args.indexes.now.entries

pub returns-in_err-reserve-2-clause-same : goal.returns-in_err-reserve-2-clause-same
returns-in_err-reserve-2-clause-same c = set-kept c.args.place _ c.index_mut-index.result.now c.args.indexes.now.entries c.index_mut-index.ensures.value refl c.reserve.ensures.items c.reserve-2.ensures.items

pub returns-in_err-reserve-2-clause-others : goal.returns-in_err-reserve-2-clause-others
returns-in_err-reserve-2-clause-others c = OthersStay-set c.args.place _ c.args.indexes.now.entries

pub returns-clause-same : goal.returns-clause-same
returns-clause-same c = set-kept c.args.place _ c.index_mut-index.result.now c.args.indexes.now.entries c.index_mut-index.ensures.value refl c.reserve.ensures.items c.reserve-2.ensures.items

pub returns-clause-others : goal.returns-clause-others
returns-clause-others c = OthersStay-set c.args.place _ c.args.indexes.now.entries

pub returns-clause-room : goal.returns-clause-room
returns-clause-room c stored at =
    subst (HasRoom c.args.ranked.now) (set-own c.args.place _ stored c.args.indexes.now.entries at)
    (record {
      ranking = omega (arith, c.in_ok-reserve.ensures.ok, c.len.ensures, c.reserve.new.self.ok.0, c.args.ranked.now.ranking.ok.0);
      scores = omega (arith, c.in_ok-reserve-2.ensures.ok, c.len-2.ensures, c.reserve-2.new.self.ok.0, c.args.ranked.now.scores.ok.0);
    })
