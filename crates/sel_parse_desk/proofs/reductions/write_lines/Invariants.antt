use Rattle.std.proofs.Common.{◌≡◌, ◌++◌, take}
use Rattle.sel_parse_desk.specs.Mirror.{filled_lines}
use Rattle.sel_parse_desk.proofs.reductions.write_lines.Given as goal

abbrev pub invariant-loop-line : goal.invariant-loop-line
invariant-loop-line g l =
    l.code.items ≡ l.initial.code.items ++ filled_lines g.T.Templates.meaning l.setting.program.now (take l.line-index l.lines) l.holes l.zero
