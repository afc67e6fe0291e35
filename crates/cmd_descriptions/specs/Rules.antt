-- What stands against the rules of a description on a machine, and how it is told.
use Rattle.std.specs.Prelude.{◌≡◌, ℕ, List, ◌++◌, codes, Option, Some}
use Rattle.std.specs.Fmt.{decimal}
use Rattle.cmd_session.specs.declared.status.Status.{Status}
use Rattle.cmd_session.specs.declared.status.Status.TheVariants as statuses
use Rattle.cmd_session.specs.Writing.{Change}
use Rattle.cmd_session.specs.Telling.{IsRefused, IsStarved}
use Rattle.md_reader.specs.State.{Content}
use Rattle.sel_terms.specs.Effects.{EffectShape, effect_of}
use Rattle.sel_terms.specs.Text.{effect_text}
use Rattle.sel_target.specs.declared.fault.TemplateKind.{TemplateKind}
use Rattle.sel_target.specs.Faults.{template_kind_name}
use Rattle.sel_parse.specs.declared.fault.ShowFault.{ShowFault}
use Rattle.sel_parse.specs.declared.fault.ShowFault.TheVariants as faults
use Rattle.sel_parse.specs.Shown.{Refusal, PoolSmall, Template, Unshown, first_refusal}
use Rattle.cmd_descriptions.specs.Machines.{Machine}

-- the first thing that stands against the rules of a description, or the lines that save and reload, on that machine
abbrev pub refusal_on : Machine → Content → Option Refusal
refusal_on m d = first_refusal m.effect m.spill_effect d

abbrev pub need_line : ℕ → ℕ → List ℕ
need_line rule need = codes "ggvax: rule " ++ (decimal rule ++ (codes " needs " ++ (decimal need ++ codes " registers\n")))

abbrev pub template_line : ℕ → ℕ → TemplateKind → List ℕ
template_line rule line kind =
    codes "ggvax: rule " ++ (decimal rule ++ (codes " line " ++ (decimal line ++ (codes ": " ++ (template_kind_name kind ++ codes "\n")))))

-- the two effects of a rule, in normal form
abbrev pub unlike_lines : ℕ → EffectShape → EffectShape → List ℕ
unlike_lines rule wanted found =
    codes "ggvax: rule " ++ (decimal rule
    ++ (codes "\nwanted " ++ (effect_text wanted ++ (codes "\nfound " ++ (effect_text found ++ codes "\n")))))

abbrev pub refusal_lines : Refusal → List ℕ
refusal_lines (PoolSmall rule need) = need_line rule need
refusal_lines (Template rule line kind) = template_line rule line kind
refusal_lines (Unshown rule wanted found) = unlike_lines rule wanted found

abbrev pub refusal_status : Refusal → Status
refusal_status (PoolSmall rule need) = statuses.PoolSmall
refusal_status (Template rule line kind) = statuses.Unshown
refusal_status (Unshown rule wanted found) = statuses.Unshown

-- a fault was told
abbrev pub TellsFault : ShowFault → Status → Change → Type 0
TellsFault faults.NoMemory status report = IsStarved status report
TellsFault (faults.PoolSmall rule need) status report = IsRefused statuses.PoolSmall (need_line rule need) status report
TellsFault (faults.Template rule line kind) status report = IsRefused statuses.Unshown (template_line rule line kind) status report
TellsFault (faults.Unshown rule wanted found) status report =
    IsRefused statuses.Unshown (unlike_lines rule (effect_of wanted) (effect_of found)) status report

-- rules are not all shown: that is the first thing that stands against them
pub data RulesRefusedBy (against : Option Refusal) (status : Status) (report : Change) : Type 0 where
  NotShown : (r : Refusal) (first : against ≡ Some r) (told : IsRefused (refusal_status r) (refusal_lines r) status report) →
      RulesRefusedBy against status report
  StarvedShow : (starved : IsStarved status report) → RulesRefusedBy against status report
