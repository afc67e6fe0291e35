-- What a fault of the rules that was told says of them.
use Rattle.std.proofs.Common.{Option}
use Rattle.cmd_session.specs.declared.status.Status.{Status}
use Rattle.cmd_session.specs.Writing.{Change}
use Rattle.sel_parse.specs.declared.fault.ShowFault.{ShowFault}
use Rattle.sel_parse.specs.declared.fault.ShowFault.TheVariants as faults
use Rattle.sel_parse.specs.Shown.{Refusal, PoolSmall, Template, Unshown}
use Rattle.sel_parse.specs.Answers.{IsRefusal}
use Rattle.sel_terms.specs.Effects.{effect_of}
use Rattle.cmd_descriptions.specs.Rules.{TellsFault, RulesRefusedBy, NotShown, StarvedShow}

pub told : (against : Option Refusal) (fault : ShowFault) (status : Status) (report : Change) → IsRefusal fault against → TellsFault fault status report
    → RulesRefusedBy against status report
told against faults.NoMemory status report is t = StarvedShow t
told against (faults.PoolSmall rule need) status report is t = NotShown (PoolSmall rule need) is t
told against (faults.Template rule line kind) status report is t = NotShown (Template rule line kind) is t
told against (faults.Unshown rule wanted found) status report is t = NotShown (Unshown rule (effect_of wanted) (effect_of found)) is t
