use Rattle.std.proofs.Common.{rules, arith, sym}
use Rattle.c_program.proofs.Rows.{block_is}
use Rattle.c_lower_code.proofs.Going.{going_none}
use Rattle.c_lower_code.proofs.statement.+going.Goals as goal

pub going-returns-in-Block : goal.going-returns-in-Block
going-returns-in-Block t c = rw (block_is c.args.a.now c.in-Block.all c.deref.result.now c.in-Block.is (search rules)) c.going_alone.ensures

pub going_alone-returns-in_default-2 : goal.going_alone-returns-in_default-2
going_alone-returns-in_default-2 t c = let long = c.in_default.len_at_least in sym (going_none c.args.all.now c.args.exits.broken c.args.exits.onward (omega (arith, long)))
