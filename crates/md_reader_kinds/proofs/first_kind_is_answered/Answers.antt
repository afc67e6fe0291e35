use Rattle.md_reader_kinds.proofs.Law.{first_kind_is_answered}
use Rattle.md_reader_kinds.proofs.first_kind_is_answered.Goals as goal

pub returns : goal.returns
returns c = first_kind_is_answered
