use Rattle.tree_core.proofs.window.Window.meet.Goals as goal

pub returns-clause-met : goal.returns-clause-met
returns-clause-met c = λ i m. c.note.ensures.met m i
