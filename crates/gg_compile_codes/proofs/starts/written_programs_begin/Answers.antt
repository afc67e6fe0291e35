use Rattle.gg_compile_codes.proofs.Starting.{written_programs_begin}
use Rattle.gg_compile_codes.proofs.starts.written_programs_begin.Goals as goal

pub returns : goal.returns
returns c = written_programs_begin
