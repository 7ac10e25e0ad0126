use Rattle.std.proofs.Common.{◌≡◌, ◌+◌, ◌<◌, true, false, arith, get_or, length, subst, sym}
use Rattle.std.specs.Prelude.{Option, is_some, slice_index_or}
use Rattle.std.specs.Str.{bytes_eq}
use Rattle.std.proofs.lemmas.List.{get_or_default}
use Rattle.rs_value.specs.declared.kind.Kind.TheVariants as kind
use Rattle.rs_bind.specs.Queries.{called}
use Rattle.rs_bind.specs.Sources.{Found}
use Rattle.rs_bind.proofs.OutputFacts.{called_left, called-next, called-other, called-twice}
use Rattle.rs_bind.proofs.outputs.only_called.Goals as goal
use Rattle.rs_bind.proofs.outputs.only_called.Goals.{then-eq+else-is_some, else-eq}

pub returns-then-is_some : goal.returns-then-is_some
returns-then-is_some c =
    let name = c.args.name.now in
    let names = c.args.names.now in
    let items = c.args.items.now in
    let i = c.loop-place.place in
    let own = c.index-names-place.result in
    let behind : i < length items = omega arith in
    let item : Found = get_or items i ((0, 0), kind.Int) in
    let is_item : item ≡ slice_index_or items i item = get_or_default items i ((0, 0), kind.Int) item behind in
    let same : bytes_eq own name ≡ true = cc in
    let some : is_some c.loop-place.found ≡ true = cc in
    called-twice name names items (called name names items) i own item (omega arith) c.index-names-place.is behind is_item c.loop-place.found c.args.at same some
    c.loop-place.invariant

pub loop-place-preserved : goal.loop-place-preserved
loop-place-preserved c =
    let name = c.args.name.now in
    let names = c.args.names.now in
    let items = c.args.items.now in
    let i = c.loop-place.place in
    let own = c.index-names-place.result in
    let behind : i < length items = omega arith in
    let item : Found = get_or items i ((0, 0), kind.Int) in
    let is_item : item ≡ slice_index_or items i item = get_or_default items i ((0, 0), kind.Int) item behind in
    elim c.if-eq.branch [
      | then-eq+else-is_some w ↦
          let same : bytes_eq own name ≡ true = cc in
          let none : is_some c.loop-place.found ≡ false = cc in
          subst (λ (found : Option Found). called_left name names items found (i + 1) ≡ called name names items) (sym w.found-is)
          (called-next name names items (called name names items) i own item (omega arith) c.index-names-place.is behind is_item c.loop-place.found same none
          c.loop-place.invariant)
      | else-eq w ↦
          let other : bytes_eq own name ≡ false = cc in
          subst (λ (found : Option Found). called_left name names items found (i + 1) ≡ called name names items) (sym w.found-is)
          (called-other name names items (called name names items) i own item (omega arith) c.index-names-place.is behind is_item c.loop-place.found other
          c.loop-place.invariant)
    ]
