use Rattle.gg_compile_codes.proofs.Beginning.{typed_programs_begin}
use Rattle.gg_compile_codes.proofs.starts.typed_programs_begin.Goals as goal

pub returns : goal.returns
returns c = typed_programs_begin
