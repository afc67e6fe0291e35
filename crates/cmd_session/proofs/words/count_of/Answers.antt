use Rattle.std.proofs.Common.{◌≡◌, arith}
use Rattle.cmd_session.proofs.Commands.{no_number, other_number, other_spelling}
use Rattle.cmd_session.proofs.words.count_of.Goals as goal
use Rattle.cmd_session.proofs.words.count_of.Goals.{then-n-eq0-via-then-n-eq0, then-n-eq0-via-else-n-eq0+then-n-greatest, then-n-eq0-via-else-n-eq0+else-n-greatest+then-ne}

pub returns-in_default-clause-none : goal.returns-in_default-clause-none
returns-in_default-clause-none c = λ n count is. no_number _ n _ _ c.in_default.is c.parse.ensures.value.0 (omega (arith, count.1, c.ranges.greatest)) is

pub returns-then-n-eq0-clause-none : goal.returns-then-n-eq0-clause-none
returns-then-n-eq0-clause-none c = λ n count is.
    let same : c.in-Ok.n ≡ n = other_number c.in-Ok.n n c.args.word.now c.parse.result c.in-Ok.is c.parse.ensures.value.0 (omega (arith, count.1, c.ranges.greatest)) is in
    elim c.then-n-eq0.branch [
      | then-n-eq0-via-then-n-eq0 w ↦ omega (arith, count.0, w.if-n-eq0.true, same)
      | then-n-eq0-via-else-n-eq0+then-n-greatest w ↦ omega (arith, count.1, w.if-n-greatest.true, same)
      | then-n-eq0-via-else-n-eq0+else-n-greatest+then-ne w ↦ other_spelling c.in-Ok.n n c.args.word.now _ c.parse.result c.in-Ok.is c.parse.ensures.value.0 w.format.ensures.text
          w.if-ne.ensures (omega (arith, count.1, c.ranges.greatest)) is
    ]
