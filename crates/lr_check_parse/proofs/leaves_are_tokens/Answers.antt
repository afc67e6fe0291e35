use Rattle.lr_check_parse.proofs.Typing.{leaves_are_tokens}
use Rattle.lr_check_parse.proofs.leaves_are_tokens.Goals as goal

pub returns : goal.returns
returns c = leaves_are_tokens
