use Rattle.std.proofs.Common.{ap}
use Rattle.gg_base.specs.Turns.{Turns}
use Rattle.c_meaning.proofs.Runs.{wrote, going, stopped, spent_now}
use Rattle.c_meaning.proofs.Coming.{wrote_next, going_next, end_next, spent_next, spent_again}
use Rattle.c_meaning.proofs.run.SourceRun.advance.Goals as goal

pub returns-then-self-2-clause-turn : goal.returns-then-self-2-clause-turn
returns-then-self-2-clause-turn c =
    spent_again c.args.self.now c.self.inside.machine c.self.inside.left c.self.inside.taken c.self.inside.spent c.self.inside.failed c.self.view_is
    c.if-self-2.true

pub returns-in-Ok-Wrote-clause-turn : goal.returns-in-Ok-Wrote-clause-turn
returns-in-Ok-Wrote-clause-turn c =
    let h = rw c.in-Ok-Wrote.field-0-is at c.in-Ok-Wrote.ensures in
    wrote_next c.args.self.now c.self.inside.machine c.advance.new.self c.self.inside.left c.self.inside.taken c.self.inside.spent c.self.inside.failed
    c.in-Ok-Wrote.byte c.self.view_is c.if-self-2.false h

pub returns-in-Ok-Wrote-clause-run : goal.returns-in-Ok-Wrote-clause-run
returns-in-Ok-Wrote-clause-run c =
    let h = rw c.in-Ok-Wrote.field-0-is at c.in-Ok-Wrote.ensures in
    wrote c.args.self.now.remaining c.self.inside.machine c.advance.new.self c.self.inside.left c.self.inside.taken c.self.inside.spent
    c.self.inside.failed c.in-Ok-Wrote.byte (ap (λ (t : Turns). t.remaining) c.self.view_is) c.if-self-2.false h

pub returns-then-self-eq0-clause-turn : goal.returns-then-self-eq0-clause-turn
returns-then-self-eq0-clause-turn c =
    let h = rw c.in-Ok-Counted.field-0-is at c.in-Ok-Counted.ensures in
    spent_next c.args.self.now c.self.inside.machine c.advance.new.self c.self.inside.left c.self.inside.taken c.self.inside.spent c.self.inside.failed
    c.self.view_is c.if-self-2.false h c.if-self-eq0.true

pub returns-then-self-eq0-clause-run : goal.returns-then-self-eq0-clause-run
returns-then-self-eq0-clause-run c =
    let h = rw c.in-Ok-Counted.field-0-is at c.in-Ok-Counted.ensures in
    spent_now c.args.self.now.remaining c.self.inside.machine c.advance.new.self c.self.inside.left c.self.inside.taken c.self.inside.spent
    c.self.inside.failed (ap (λ (t : Turns). t.remaining) c.self.view_is) c.if-self-2.false h c.if-self-eq0.true

pub returns-else-self-eq0-clause-turn : goal.returns-else-self-eq0-clause-turn
returns-else-self-eq0-clause-turn c =
    let h = rw c.in-Ok-Counted.field-0-is at c.in-Ok-Counted.ensures in
    going_next c.args.self.now c.self.inside.machine c.advance.new.self c.self.inside.left c.self.inside.taken c.self.inside.spent c.self.inside.failed
    c.self.view_is c.if-self-2.false h c.if-self-eq0.false

pub returns-else-self-eq0-clause-run : goal.returns-else-self-eq0-clause-run
returns-else-self-eq0-clause-run c =
    let h = rw c.in-Ok-Counted.field-0-is at c.in-Ok-Counted.ensures in
    going c.args.self.now.remaining c.self.inside.machine c.advance.new.self c.self.inside.left c.self.inside.taken c.self.inside.spent
    c.self.inside.failed (ap (λ (t : Turns). t.remaining) c.self.view_is) c.if-self-2.false h c.if-self-eq0.false

pub returns-in-Ok-Stopped-clause-turn : goal.returns-in-Ok-Stopped-clause-turn
returns-in-Ok-Stopped-clause-turn c =
    let h = rw c.in-Ok-Stopped.field-0-is at c.in-Ok-Stopped.ensures in
    rw c.turn.ensures (end_next c.args.self.now c.self.inside.machine c.advance.new.self c.self.inside.left c.self.inside.taken c.self.inside.spent
    c.self.inside.failed c.in-Ok-Stopped.finish c.self.view_is c.if-self-2.false h)

pub returns-in-Ok-Stopped-clause-run : goal.returns-in-Ok-Stopped-clause-run
returns-in-Ok-Stopped-clause-run c =
    let h = rw c.in-Ok-Stopped.field-0-is at c.in-Ok-Stopped.ensures in
    rw c.turn.ensures (stopped c.args.self.now.remaining c.self.inside.machine c.advance.new.self c.self.inside.left c.self.inside.taken
    c.self.inside.spent c.self.inside.failed c.in-Ok-Stopped.finish (ap (λ (t : Turns). t.remaining) c.self.view_is) c.if-self-2.false h)
