use Rattle.cmd_compile.proofs.Reading.{is_passed_text}
use Rattle.cmd_compile.proofs.text.passed_text.Goals as goal

pub returns-clause-text : goal.returns-clause-text
returns-clause-text g c =
    is_passed_text _ c.args.code c.in_ok-code.code _ c.in_ok-code.ensures.leads c.in_ok-code.ensures.valid c.in_ok-code.ensures.alike
    (rw c.new-text.ensures.bytes at c.in_ok-write_code.ensures.written)

pub returns-clause-kept : goal.returns-clause-kept
returns-clause-kept g c = record { same = c.run_passes.ensures.passes; rise = c.run_passes.ensures.rises }
