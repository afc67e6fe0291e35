use Rattle.gg_compile_tallies.proofs.Law.{written_codes_count_no_more}
use Rattle.gg_compile_tallies.proofs.written_codes_count_no_more.Goals as goal

pub returns : goal.returns
returns c = written_codes_count_no_more
