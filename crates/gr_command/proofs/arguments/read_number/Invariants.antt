use Rattle.std.proofs.Common.{◌≡◌, ◌+◌, ◌≤◌, drop}
use Rattle.gr_base.specs.Names.{count_from}
use Rattle.gr_command.proofs.arguments.read_number.Given as goal

-- the reading goes on with the digits that are left
abbrev pub invariant-loop-digit : goal.invariant-loop-digit
invariant-loop-digit l = record {
  goes_on : count_from (l.largest + 1) 0 l.digits ≡ count_from (l.largest + 1) l.count (drop l.digit-index l.digits);
  range : l.count ≤ l.largest;
}
