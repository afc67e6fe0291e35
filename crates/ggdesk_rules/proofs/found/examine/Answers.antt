use Rattle.std.proofs.Common.{◌≡◌, ℕ, List, length, sym, ap, ◌∙◌, subst}
use Rattle.std.proofs.lemmas.Result.{IfOk-weaker}
use Rattle.md_reader.specs.declared.types.Rule.{Rule}
use Rattle.md_reader.specs.declared.faults.DescFault.{DescFault}
use Rattle.md_reader.specs.declared.faults.DescFault.TheVariants as desc_fault
use Rattle.md_reader.specs.State.{Content}
use Rattle.md_reader.specs.Desc.{Desc, Refused}
use Rattle.md_reader.specs.First.{IsFirst}
use Rattle.ggdesk_rules.specs.declared.found.Finding.{Finding}
use Rattle.ggdesk_rules.specs.Told.{Says, Tells, has_tables, is_wrong, is_full}
use Rattle.ggdesk_rules.proofs.found.examine.Goals as goal

says_tells : (bytes : List ℕ) (e : DescFault) → Refused bytes e → IsFirst bytes e → (f : Finding) → Says e f → Tells bytes f
says_tells bytes desc_fault.NoMemory r h f s = absurd s
says_tells bytes (desc_fault.Line line kind) r h f s = subst (Tells bytes) (sym s) (is_wrong r h)

pub returns-in-Ok-build : goal.returns-in-Ok-build
returns-in-Ok-build c =
    has_tables c.in-Ok-build.tables (subst (λ (d : Content). Desc c.args.bytes.now d) (sym c.in-Ok-build.ensures.tables) c.in-Ok.ensures.found) c.is_numbered.ensures
    (ap (λ (rs : List Rule). length rs) (c.rules.ensures ∙ ap (λ (d : Content). d.rules) c.description.ensures)) c.states.ensures

pub returns-in-Err-default-TablesFull : goal.returns-in-Err-default-TablesFull
returns-in-Err-default-TablesFull c = is_full c.in-Ok.description c.in-Ok.ensures.found (c.in-Err-default-TablesFull.ensures.full (cc))

pub returns : goal.returns
returns c =
    IfOk-weaker c.refused.result (λ (f : Finding). Says c.in-Err.fault f) (λ (f : Finding). Tells c.args.bytes.now f)
    (says_tells c.args.bytes.now c.in-Err.fault c.in-Err.ensures.refused c.in-Err.ensures.first)
    c.refused.ensures
