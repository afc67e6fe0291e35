use Rattle.std.proofs.Common.{take}
use Rattle.vax_target.specs.vax_target_meaning.specs.Vax.{vax}
use Rattle.gg_compile_code.specs.Selecting.{AreSelectedFunctions}
use Rattle.gg_compile_code.proofs.functions.functions.Given as goal

-- the code of the functions so far
abbrev pub invariant-loop-f : goal.invariant-loop-f
invariant-loop-f l = AreSelectedFunctions vax l.generator.tables.content l.program (take l.f-index l.program.functions) l.code.items
