use Rattle.md_reader_kinds.proofs.Law.{first_kind_at_the_end}
use Rattle.md_reader_kinds.proofs.first_kind_at_the_end.Goals as goal

pub returns : goal.returns
returns c = first_kind_at_the_end
