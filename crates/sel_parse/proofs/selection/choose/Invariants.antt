use Rattle.std.proofs.Common.{◌≡◌, drop}
use Rattle.sel_parse_desk.specs.Mirror.{in_setting, stack_of}
use Rattle.sel_parse.specs.Steps.{takes, chosen}
use Rattle.sel_parse.proofs.selection.choose.Given as goal

abbrev pub invariant-loop-choice : goal.invariant-loop-choice
invariant-loop-choice g l =
    let taken = in_setting g.T.Templates.meaning l.setting takes (stack_of l.desk) in
    chosen taken (drop l.choice-index l.choices) ≡ chosen taken l.choices
