use Rattle.lr_check_found.proofs.Reading.{looked_at}
use Rattle.lr_check_complete.proofs.Turns.{looks_there}
use Rattle.lr_check_complete.proofs.Both.{not_there}
use Rattle.lr_check_complete.proofs.look.Look.reductions.Goals as goal

pub returns-in-Some : goal.returns-in-Some
returns-in-Some c = c.by_settling.ensures
    (looked_at c.settlings.result.now c.args.self.now.found.now.settlings c.args.number c.in-Some.settling.now c.settlings.ensures c.in-Some.ensures.lookup.0 c.in-Some.ensures.lookup.1)

pub returns-in-None : goal.returns-in-None
returns-in-None c = looks_there c.args.self.now _ _ (record {
  each = λ b y s q r ab py ls bq fr many.
      absurd (not_there c.settlings.result.now c.args.self.now.found.now.settlings c.args.number b c.settlings.ensures c.in-None.ensures.lookup.0 ab);
})
