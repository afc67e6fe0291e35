use Rattle.std.proofs.Common.{◌≡◌, drop}
use Rattle.md_reader.specs.RuleForms.{register_behind}
use Rattle.md_reader.proofs.forms.register_behind.Given as goal

abbrev pub invariant-loop-line : goal.invariant-loop-line
invariant-loop-line l = register_behind (drop l.line-index l.lines) ≡ register_behind l.lines
