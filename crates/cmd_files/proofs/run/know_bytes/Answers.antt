use Rattle.cmd_files.proofs.Bytes.{bytes_fit}
use Rattle.cmd_files.proofs.run.know_bytes.Goals as goal

pub returns : goal.returns
returns c = bytes_fit c.args.bytes.now c.type_inv.bytes
