use Rattle.std.proofs.Common.{◌≡◌, ◌+◌, drop}
use Rattle.md_types.specs.Expand.{template_len}
use Rattle.md_types.proofs.expanding.template_len.Given as goal

abbrev pub invariant-loop-line : goal.invariant-loop-line
invariant-loop-line l = (l.len + template_len (drop l.line-index l.lines) ≡ template_len l.lines) × (l.len ≡ l.line-index)
