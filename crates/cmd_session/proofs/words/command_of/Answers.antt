use Rattle.std.proofs.Common.{arith}
use Rattle.cmd_session.proofs.Commands.{only_named, named_not_other, named_not_paired, named_not_counted, only_paired, paired_not_named, paired_not_counted}
use Rattle.cmd_session.proofs.Commands.{only_counted, counted_not_named, counted_not_other}
use Rattle.cmd_session.proofs.Commands.{compile_is_not_run, compile_is_not_meaning, compile_is_not_load, run_is_not_meaning, run_is_not_load, meaning_is_not_load}
use Rattle.cmd_session.proofs.Commands.{check_is_not_image, check_is_not_text, image_is_not_text, compile_is_not_run32, run_is_not_run32, meaning_is_not_run32}
use Rattle.cmd_session.proofs.Commands.{load_is_not_run32, check_is_not_check32, image_is_not_check32, text_is_not_check32}
use Rattle.cmd_session.proofs.words.command_of.Goals as goal

pub returns-in-Some-clause-only : goal.returns-in-Some-clause-only
returns-in-Some-clause-only c =
    let said = c.in-Some.ensures.some in (
      only_named _ _ _ said,
      named_not_paired _ _ _ _ said,
      named_not_counted _ _ _ _ _ said,
      named_not_counted _ _ _ _ _ said,
      named_not_counted _ _ _ _ _ said,
      named_not_other _ _ _ _ said check_is_not_image,
      named_not_other _ _ _ _ said check_is_not_text,
      named_not_other _ _ _ _ said check_is_not_check32,
      named_not_counted _ _ _ _ _ said,
    )

pub returns-in-Some-paired-clause-only : goal.returns-in-Some-paired-clause-only
returns-in-Some-paired-clause-only c =
    let said = c.in-Some-paired.ensures.some in (
      c.in_default.ensures.none,
      only_paired _ _ _ _ said,
      paired_not_counted _ _ _ _ _ _ said compile_is_not_run,
      paired_not_counted _ _ _ _ _ _ said compile_is_not_meaning,
      paired_not_counted _ _ _ _ _ _ said compile_is_not_load,
      paired_not_named _ _ _ _ _ said,
      paired_not_named _ _ _ _ _ said,
      paired_not_named _ _ _ _ _ said,
      paired_not_counted _ _ _ _ _ _ said compile_is_not_run32,
    )

pub returns-in-Some-counted-clause-only : goal.returns-in-Some-counted-clause-only
returns-in-Some-counted-clause-only c =
    let said = c.in-Some-counted.ensures.some in (
      c.in_default.ensures.none,
      c.in_default-paired.ensures.none,
      only_counted _ _ _ _ _ (omega arith) said,
      counted_not_other _ _ _ _ _ _ _ said run_is_not_meaning,
      counted_not_other _ _ _ _ _ _ _ said run_is_not_load,
      counted_not_named _ _ _ _ _ _ said,
      counted_not_named _ _ _ _ _ _ said,
      counted_not_named _ _ _ _ _ _ said,
      counted_not_other _ _ _ _ _ _ _ said run_is_not_run32,
    )

pub returns-in-Some-counted-2-clause-only : goal.returns-in-Some-counted-2-clause-only
returns-in-Some-counted-2-clause-only c =
    let said = c.in-Some-counted-2.ensures.some in (
      c.in_default.ensures.none,
      c.in_default-paired.ensures.none,
      c.in_default-counted.ensures.none,
      only_counted _ _ _ _ _ (omega arith) said,
      counted_not_other _ _ _ _ _ _ _ said meaning_is_not_load,
      counted_not_named _ _ _ _ _ _ said,
      counted_not_named _ _ _ _ _ _ said,
      counted_not_named _ _ _ _ _ _ said,
      counted_not_other _ _ _ _ _ _ _ said meaning_is_not_run32,
    )

pub returns-in-Some-counted-3-clause-only : goal.returns-in-Some-counted-3-clause-only
returns-in-Some-counted-3-clause-only c =
    let said = c.in-Some-counted-3.ensures.some in (
      c.in_default.ensures.none,
      c.in_default-paired.ensures.none,
      c.in_default-counted.ensures.none,
      c.in_default-counted-2.ensures.none,
      only_counted _ _ _ _ _ (omega arith) said,
      counted_not_named _ _ _ _ _ _ said,
      counted_not_named _ _ _ _ _ _ said,
      counted_not_named _ _ _ _ _ _ said,
      counted_not_other _ _ _ _ _ _ _ said load_is_not_run32,
    )

pub returns-in-Some-named-clause-only : goal.returns-in-Some-named-clause-only
returns-in-Some-named-clause-only c =
    let said = c.in-Some-named.ensures.some in (
      c.in_default.ensures.none,
      c.in_default-paired.ensures.none,
      c.in_default-counted.ensures.none,
      c.in_default-counted-2.ensures.none,
      c.in_default-counted-3.ensures.none,
      only_named _ _ _ said,
      named_not_other _ _ _ _ said image_is_not_text,
      named_not_other _ _ _ _ said image_is_not_check32,
      named_not_counted _ _ _ _ _ said,
    )

pub returns-in-Some-named-2-clause-only : goal.returns-in-Some-named-2-clause-only
returns-in-Some-named-2-clause-only c =
    let said = c.in-Some-named-2.ensures.some in (
      c.in_default.ensures.none,
      c.in_default-paired.ensures.none,
      c.in_default-counted.ensures.none,
      c.in_default-counted-2.ensures.none,
      c.in_default-counted-3.ensures.none,
      c.in_default-named.ensures.none,
      only_named _ _ _ said,
      named_not_other _ _ _ _ said text_is_not_check32,
      named_not_counted _ _ _ _ _ said,
    )

pub returns-in-Some-named-3-clause-only : goal.returns-in-Some-named-3-clause-only
returns-in-Some-named-3-clause-only c =
    let said = c.in-Some-named-3.ensures.some in (
      c.in_default.ensures.none,
      c.in_default-paired.ensures.none,
      c.in_default-counted.ensures.none,
      c.in_default-counted-2.ensures.none,
      c.in_default-counted-3.ensures.none,
      c.in_default-named.ensures.none,
      c.in_default-named-2.ensures.none,
      only_named _ _ _ said,
      named_not_counted _ _ _ _ _ said,
    )

pub returns-clause-only : goal.returns-clause-only
returns-clause-only c = (
  c.in_default.ensures.none,
  c.in_default-paired.ensures.none,
  c.in_default-counted.ensures.none,
  c.in_default-counted-2.ensures.none,
  c.in_default-counted-3.ensures.none,
  c.in_default-named.ensures.none,
  c.in_default-named-2.ensures.none,
  c.in_default-named-3.ensures.none,
  only_counted _ _ _ _ _ (omega arith) c.in_ok-text.ensures.some,
)
