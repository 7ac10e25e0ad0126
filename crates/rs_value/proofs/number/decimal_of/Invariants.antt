use Rattle.std.proofs.Common.{◌≡◌, ◌≤◌, ◌+◌, ◌-◌, ◌*◌, fold, drop}
use Rattle.std.specs.List.{list_all}
use Rattle.std.specs.Char.{is_ascii_digit}
use Rattle.rs_value.specs.Number.{number_of}
use Rattle.rs_value.proofs.number.decimal_of.Given as goal

-- what is left, read after the number so far, gives the number of all, and is digits where all are
abbrev pub invariant-loop-digit : goal.invariant-loop-digit
invariant-loop-digit l = record {
  small : l.number ≤ l.most;
  goes_on : fold (λ n digit. 10 * n + (digit - 48)) l.number (drop l.digit-index l.digits) ≡ number_of l.digits;
  digits : list_all is_ascii_digit (drop l.digit-index l.digits) ≡ list_all is_ascii_digit l.digits;
}
