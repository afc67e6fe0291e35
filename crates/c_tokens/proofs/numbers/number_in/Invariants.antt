use Rattle.std.proofs.Common.{◌≡◌, ◌≤◌, drop}
use Rattle.c_tokens.specs.Numbers.{number_behind}
use Rattle.c_tokens.proofs.numbers.number_in.Given as goal

abbrev pub invariant-loop-digit : goal.invariant-loop-digit
invariant-loop-digit l = record {
  is : number_behind l.base l.limit l.number (drop l.digit-index l.digits) ≡ number_behind l.base l.limit 0 l.digits;
  small : l.number ≤ l.limit;
}
