use Rattle.c_sound.proofs.Bytes.{bytes_fit}
use Rattle.c_lower_code.proofs.program.copied_bytes.Goals as goal

pub returns-clause-bytes : goal.returns-clause-bytes
returns-clause-bytes c = bytes_fit c.args.bytes.now c.type_inv.bytes
