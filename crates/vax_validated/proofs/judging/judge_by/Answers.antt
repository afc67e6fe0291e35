use Rattle.std.specs.Prelude.{map}
use Rattle.vax_pairs_cuts.specs.Views.{cut_of}
use Rattle.vax_validated.proofs.Verdicts.{judged}
use Rattle.vax_validated.proofs.judging.judge_by.Goals as goal

pub returns-in-Ok : goal.returns-in-Ok
returns-in-Ok c =
    judged c.accepted_codes_are_alike.ensures (map cut_of c.args.cuts.now) c.args.c.now c.args.d.now c.requires.valid c.requires.sound c.in-Ok.places.items c.seen.result c.in-Ok.ensures
    c.seen.ensures
