-- A code that is written of a program loads, and its run follows that of the trees.
use Rattle.vax_core.specs.declared.code.Code.{Code}
use Rattle.tree_core.specs.declared.program.TreeProgram.{TreeProgram}
use Rattle.gg_compile_law.specs.Assembled.{IsAssembled}
use Rattle.gg_compile_law.specs.Written.{IsWritten, WrittenCodesLoad, WrittenCodesFollow}
use Rattle.gg_compile_law.proofs.Assembling.{source_is_followed}
use Rattle.gg_compile_law.proofs.Loaded.{assembled_loads}
use Rattle.gg_compile_law.proofs.Spelling.{areas_are_blocks}

pub written_codes_load : WrittenCodesLoad
written_codes_load program c h = assembled_loads program c h.valid h.small h.apart h.functions h.area h.names

is_assembled : (program : TreeProgram) (c : Code) → IsWritten program c → IsAssembled program c
is_assembled program c h =
    let loads = written_codes_load program c h in
    record { valid = h.valid; loads = loads; functions = h.functions; blocks = areas_are_blocks program c h.valid loads h.numbers h.area }

pub written_codes_follow : WrittenCodesFollow
written_codes_follow program c h source input bytes follows = source_is_followed program c (is_assembled program c h) source input bytes follows
