use Rattle.c_syntax_goals.specs.declared.fault.Fault.TheVariants.{NotHere, TooDeep}
use Rattle.c_syntax.proofs.Parsing.{one_unit, no_fault, stops_here, stops_deep, refused_at, deep_at}
use Rattle.c_syntax.proofs.Firsts.{first_in_unit, first_not_here, first_too_deep}
use Rattle.c_syntax.proofs.units.parse.Goals as goal

pub returns-in-Ok-clause-alone : goal.returns-in-Ok-clause-alone
returns-in-Ok-clause-alone c = λ u is. one_unit c.args.tokens.now c.in-Ok.ast u c.in-Ok.ensures.read is

pub returns-in-Ok-clause-only : goal.returns-in-Ok-clause-only
returns-in-Ok-clause-only c = λ u is. one_unit c.args.tokens.now c.in-Ok.ast u c.in-Ok.ensures.read is

pub returns-in-Err-NotHere-clause-only : goal.returns-in-Err-NotHere-clause-only
returns-in-Err-NotHere-clause-only c = λ u is. no_fault c.args.tokens.now u (NotHere c.in-Err-NotHere.left) is
    (stops_here c.args.tokens.now c.in-Err-NotHere.field-0 c.in-Err-NotHere.left c.in-Err-NotHere.field-0-is c.in-Err-NotHere.ensures.fails)

pub returns-in-Err-NotHere-clause-refused : goal.returns-in-Err-NotHere-clause-refused
returns-in-Err-NotHere-clause-refused c = λ ended. refused_at c.args.tokens.now c.in-Err-NotHere.left c.offset_of.result ended
    (stops_here c.args.tokens.now c.in-Err-NotHere.field-0 c.in-Err-NotHere.left c.in-Err-NotHere.field-0-is c.in-Err-NotHere.ensures.fails) c.offset_of.ensures

pub returns-in-Err-TooDeep-clause-only : goal.returns-in-Err-TooDeep-clause-only
returns-in-Err-TooDeep-clause-only c = λ u is. no_fault c.args.tokens.now u (TooDeep c.in-Err-TooDeep.left) is
    (stops_deep c.args.tokens.now c.in-Err-TooDeep.field-0 c.in-Err-TooDeep.left c.in-Err-TooDeep.field-0-is c.in-Err-TooDeep.ensures.fails)

pub returns-in-Err-TooDeep-clause-refused : goal.returns-in-Err-TooDeep-clause-refused
returns-in-Err-TooDeep-clause-refused c = deep_at c.args.tokens.now c.in-Err-TooDeep.left c.offset_of-in-Err-TooDeep.result
    (stops_deep c.args.tokens.now c.in-Err-TooDeep.field-0 c.in-Err-TooDeep.left c.in-Err-TooDeep.field-0-is c.in-Err-TooDeep.ensures.fails) c.offset_of-in-Err-TooDeep.ensures

pub returns-in-Ok-clause-first : goal.returns-in-Ok-clause-first
returns-in-Ok-clause-first c = λ ended f h. first_in_unit c.args.tokens.now c.in-Ok.ast f c.in-Ok.ensures.read h

pub returns-in-Err-NotHere-clause-first : goal.returns-in-Err-NotHere-clause-first
returns-in-Err-NotHere-clause-first c = λ ended f h. first_not_here c.args.tokens.now c.offset_of.result f
    (refused_at c.args.tokens.now c.in-Err-NotHere.left c.offset_of.result ended
    (stops_here c.args.tokens.now c.in-Err-NotHere.field-0 c.in-Err-NotHere.left c.in-Err-NotHere.field-0-is c.in-Err-NotHere.ensures.fails) c.offset_of.ensures) h

pub returns-in-Err-TooDeep-clause-first : goal.returns-in-Err-TooDeep-clause-first
returns-in-Err-TooDeep-clause-first c = λ ended f h. first_too_deep c.args.tokens.now c.offset_of-in-Err-TooDeep.result f
    (deep_at c.args.tokens.now c.in-Err-TooDeep.left c.offset_of-in-Err-TooDeep.result
    (stops_deep c.args.tokens.now c.in-Err-TooDeep.field-0 c.in-Err-TooDeep.left c.in-Err-TooDeep.field-0-is c.in-Err-TooDeep.ensures.fails) c.offset_of-in-Err-TooDeep.ensures) h
