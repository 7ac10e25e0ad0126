-- What the scan keeps allows the next rounds, and what they leave is where it stands after one more ask.
use Rattle.std.proofs.Common.{◌≡◌, Bool, true, false, not, sym, ◌∙◌, ap}
use Rattle.std.specs.Prelude.{Result, Ok, Err, OnErr, OnOk, is_err, is_some}
use Rattle.std.proofs.lemmas.Bool.{false≢true, true≢false}
use Rattle.rs_ta.proofs.ScanFacts.{next-can, next-few, next-gave, next-input, next-refused}
use Rattle.rs_ta.proofs.scan.ThresholdScan.next.Goals as goal

-- what holds of an answer that is no error
on_ok : {A E P : Type 0} (r : Result A E) → is_err r ≡ false → OnOk r P → P
on_ok (Ok value) e p = p
on_ok (Err error) e p = absurd (true≢false e)

on_err : {A E P : Type 0} (r : Result A E) → is_err r ≡ true → OnErr r P → P
on_err (Ok value) e p = absurd (false≢true e)
on_err (Err error) e p = p

-- there is none where there isn't some
is_over : (over some : Bool) → some ≡ not over → over ≡ not some
is_over true some e = ap not (sym e)
is_over false some e = ap not (sym e)

pub advance-gone-requires-clause-input : goal.advance-gone-requires-clause-input
advance-gone-requires-clause-input g c =
    next-input c.self.inside.terms c.self.inside.rows c.self.inside.last c.self.inside.ended c.self.inside.spent c.args.self.now (g.L.Lists.state c.args.lists.now) (g.T.RowTest.truth c.args.test.now) (g.T.RowTest.rows c.args.test.now)
    c.self.view_is c.lists.ensures.ranked c.self.invariant.0 c.self.invariant.1 c.requires.same_rows c.requires.weights c.requires.stands

pub advance-gone-requires-clause-can : goal.advance-gone-requires-clause-can
advance-gone-requires-clause-can g c =
    next-can c.self.inside.terms c.self.inside.rows c.self.inside.last c.self.inside.ended c.self.inside.spent c.args.self.now (g.L.Lists.state c.args.lists.now) (g.T.RowTest.truth c.args.test.now) (g.T.RowTest.rows c.args.test.now)
    c.self.view_is c.lists.ensures.ranked c.self.invariant.0 c.self.invariant.1 c.requires.same_rows c.requires.weights c.requires.stands

pub give-row-requires : goal.give-row-requires
give-row-requires g c =
    next-few c.self.inside.terms c.self.inside.rows c.self.inside.last c.self.inside.ended c.self.inside.spent c.args.self.now (g.L.Lists.state c.args.lists.now) (g.T.RowTest.truth c.args.test.now) (g.T.RowTest.rows c.args.test.now)
    c.self.view_is c.lists.ensures.ranked c.self.invariant.0 c.self.invariant.1 c.requires.same_rows c.requires.weights c.requires.stands
    c.advance-gone.new.rows c.advance-gone.new.last (g.L.Lists.state c.advance-gone.new.lists)
    (on_ok c.advance-gone.result (sym c.is_err.ensures.value ∙ c.if-is_err.false) c.advance-gone.ensures.ok)

pub returns : goal.returns
returns g c =
    let gave = next-gave c.self.inside.terms c.self.inside.rows c.self.inside.last c.self.inside.ended c.self.inside.spent c.args.self.now (g.L.Lists.state c.args.lists.now) (g.T.RowTest.truth c.args.test.now) (g.T.RowTest.rows c.args.test.now)
    c.self.view_is c.lists.ensures.ranked c.self.invariant.0 c.self.invariant.1 c.requires.same_rows c.requires.weights c.requires.stands
    c.advance-gone.new.rows c.advance-gone.new.last (g.L.Lists.state c.advance-gone.new.lists)
    (on_ok c.advance-gone.result (sym c.is_err.ensures.value ∙ c.if-is_err.false) c.advance-gone.ensures.ok)
    c.give-row.result c.give-row.ensures.row c.advance-gone.ensures.lists c.give-row.new.self c.give-row.ensures.after
    c.is_none-self-inside.result (is_over c.is_none-self-inside.result (is_some c.give-row.result) c.is_none-self-inside.ensures) in record {
      row = gave.row_is;
      end = gave.end;
      accessed = gave.accessed;
      after = gave.after;
      stands = gave.stands;
      input = gave.input;
      lists = c.advance-gone.ensures.lists;
      err = tt;
      refused = tt;
    }

pub returns-then-is_err-clause-refused : goal.returns-then-is_err-clause-refused
returns-then-is_err-clause-refused g c =
    next-refused c.self.inside.terms c.self.inside.rows c.self.inside.last c.self.inside.ended c.self.inside.spent c.args.self.now (g.L.Lists.state c.args.lists.now) (g.T.RowTest.truth c.args.test.now) (g.T.RowTest.rows c.args.test.now)
    c.self.view_is c.lists.ensures.ranked c.self.invariant.0 c.self.invariant.1 c.requires.same_rows c.requires.weights c.requires.stands
    (g.L.Lists.state c.advance-gone.new.lists)
    (on_err c.advance-gone.result (sym c.is_err.ensures.value ∙ c.if-is_err.true) c.advance-gone.ensures.err)
