use Rattle.std.proofs.Common.{◌≡◌, drop, true}
use Rattle.vax_templates.specs.Progress.{start}
use Rattle.template_judging.specs.Lines.{lines_judged}
use Rattle.template_judging.specs.Views.{progress_of}
use Rattle.template_judging.proofs.found.lines_judged.Given as goal

abbrev pub invariant-loop-line : goal.invariant-loop-line
invariant-loop-line g l =
    let did = g.M.LineJudge.meaning.did l.template.setting l.template.holes.now in
    lines_judged did true start l.lines ≡ lines_judged did l.is_first (progress_of l.run) (drop l.line-index l.lines)
