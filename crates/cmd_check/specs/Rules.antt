-- What stands against the rules of a description on the VAX.
use Rattle.std.specs.Prelude.{Option}
use Rattle.cmd_session.specs.declared.status.Status.{Status}
use Rattle.cmd_session.specs.Writing.{Change}
use Rattle.md_reader.specs.State.{Content}
use Rattle.sel_parse.specs.Shown.{Refusal}
use Rattle.cmd_descriptions.specs.Rules.{refusal_on, RulesRefusedBy}
use Rattle.cmd_check.specs.Machine.{the_vax}

-- the first thing that stands against them, or against the lines that save and reload
abbrev pub vax_refusal : Content → Option Refusal
vax_refusal d = refusal_on the_vax d

-- they are not all shown
abbrev pub RulesRefused : Content → Status → Change → Type 0
RulesRefused d status report = RulesRefusedBy (vax_refusal d) status report
