use Rattle.std.proofs.Common.{◌≡◌, ◌∙◌}
use Rattle.l32_core.specs.Text.{asm_text}
use Rattle.l32_writer.proofs.AsciiLaws.{is_text}
use Rattle.l32_writer.proofs.writer.write32.Goals as goal

pub unreachable-requires : goal.unreachable-requires
unreachable-requires c =
    let bytes : c.deref.result.now ≡ asm_text c.args.code.now = c.deref.ensures.value ∙ c.in_ok-text.ensures in
    c.in-Err.ensures.cases.0 (is_text c.deref.result.now c.args.code.now c.requires bytes)
