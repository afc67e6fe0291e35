-- The run of a code that is written of a program's trees counts no more than the run of the trees.
use Rattle.vax_core.specs.declared.code.Code.{Code}
use Rattle.tree_core.specs.declared.program.TreeProgram.{TreeProgram}
use Rattle.gg_compile_law.specs.Assembled.{IsAssembled}
use Rattle.gg_compile_law.specs.Written.{IsWritten}
use Rattle.gg_compile_law.proofs.Assembling.{labels_differ, assembled_is_compiled}
use Rattle.gg_compile_law.proofs.Spelling.{areas_are_blocks}
use Rattle.gg_compile_law.proofs.Law.{written_codes_load}
use Rattle.gg_compile_tallies.specs.Claims.{WrittenCodesCountNoMore}
use Rattle.gg_compile_tallies.proofs.Starting.{compiled_within}

is_assembled : (program : TreeProgram) (c : Code) → IsWritten program c → IsAssembled program c
is_assembled program c h =
    let loads = written_codes_load program c h in
    record { valid = h.valid; loads = loads; functions = h.functions; blocks = areas_are_blocks program c h.valid loads h.numbers h.area }

pub written_codes_count_no_more : WrittenCodesCountNoMore
written_codes_count_no_more program c h input bytes n =
    let a = is_assembled program c h in
    compiled_within program c (assembled_is_compiled program c a) (labels_differ c a.loads) input bytes n
