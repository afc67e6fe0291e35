-- Wrong templates, each with its first fault.
use Rattle.std.specs.Prelude.{ℕ, List, [], ◌∷◌, Result, Err, codes}
use Rattle.l32_templates.specs.vax_templates.specs.sel_target.specs.tree_core.specs.declared.token.Tok.TheVariants as tok
use Rattle.l32_templates.specs.vax_templates.specs.md_reader.specs.declared.types.Give.TheVariants as give
use Rattle.l32_templates.specs.vax_templates.specs.md_reader.specs.declared.types.Rule.{Rule}
use Rattle.l32_templates.specs.vax_templates.specs.sel_target.specs.sel_terms.specs.Effects.{EffectShape}
use Rattle.l32_templates.specs.vax_templates.specs.sel_target.specs.declared.fault.TemplateKind.{TemplateKind}
use Rattle.l32_templates.specs.vax_templates.specs.sel_target.specs.declared.fault.TemplateKind.TheVariants.{NotInstr, WrongSize, Order}
use Rattle.l32_templates.specs.vax_templates.specs.sel_target.specs.Meaning.{Fault}
use Rattle.l32_templates.specs.Found.{found}
use Rattle.l32_shown.specs.Shipped.{line, given, rule, classes, symbol, token, reg, rval, bval, lpl, bpl, con, ea, stmt}

-- a rule whose template is wrong, the line of its first fault, and its kind
pub record WrongTemplate : Type 0 where
  pub template : Rule
  pub at : ℕ
  pub kind : TemplateKind

abbrev pub wrong : Rule → ℕ → TemplateKind → WrongTemplate
wrong r n k = record { template = r; at = n; kind = k }

-- what the definitions compute of it, and what is told of it
abbrev pub found_in : WrongTemplate → Result EffectShape Fault
found_in w = found classes w.template

abbrev pub told_of : WrongTemplate → Result EffectShape Fault
told_of w = Err (record { line = w.at; kind = w.kind })

abbrev pub templates : List WrongTemplate
templates =
    -- an object is no number
    wrong (rule reg (token tok.Gaddr ∷ []) (line 1 (codes "li %0,$%1") ∷ []) give.Fresh) 1 NotInstr ∷
    -- a displacement has its number, 0 too
    wrong (rule reg (token tok.IndirL ∷ symbol reg ∷ []) (line 1 (codes "lw %0,(%2)") ∷ []) give.Reuse) 1 NotInstr ∷
    -- an object is no displacement
    wrong (rule reg (token tok.IndirL ∷ token tok.Plus ∷ token tok.Gaddr ∷ symbol reg ∷ [])
    (line 1 (codes "lw %0,%3(%4)") ∷ []) give.Reuse) 1 NotInstr ∷
    -- a byte is not read as a longword
    wrong (rule reg (token tok.Sxb ∷ symbol bval ∷ []) (line 1 (codes "lw %0,%2") ∷ []) give.Reuse) 1 WrongSize ∷
    -- a division stands in the first line
    wrong (rule reg (token tok.Mod ∷ symbol reg ∷ symbol reg ∷ [])
    (line 1 (codes "mul %0,%2,%3") ∷ line 2 (codes "div %0,%2,%3") ∷ []) give.Fresh) 2 Order ∷
    -- a register that may be `%0` is not read once `%0` is written
    wrong (rule reg (token tok.Plus ∷ symbol reg ∷ symbol reg ∷ [])
    (line 1 (codes "add %0,%2,%3") ∷ line 2 (codes "add %0,%0,%3") ∷ []) give.Reuse) 2 Order ∷
    -- a branch is spelled by the relation of its symbol
    wrong (rule stmt (token tok.Cbr ∷ symbol reg ∷ symbol reg ∷ []) (line 1 (codes "beq %2,%3,%L") ∷ []) give.Nothing) 1 NotInstr ∷
    -- a branch compares registers
    wrong (rule stmt (token tok.Cbr ∷ symbol rval ∷ symbol reg ∷ []) (line 1 (codes "j%1 %2,%3,%L") ∷ []) give.Nothing) 1 NotInstr ∷
    -- a return has its value in `a0`
    wrong (rule stmt (token tok.Ret ∷ symbol reg ∷ []) (line 1 (codes "ret") ∷ []) give.Nothing) 1 NotInstr ∷
    -- a value in `a0` is returned
    wrong (rule stmt (token tok.Ret ∷ symbol reg ∷ []) (line 1 (codes "lw a0,%2") ∷ []) give.Nothing) 1 NotInstr ∷
    -- `lw` alone puts the value of a return into `a0`
    wrong (rule stmt (token tok.Ret ∷ symbol con ∷ []) (line 1 (codes "li a0,$%2") ∷ line 2 (codes "ret") ∷ []) give.Nothing) 1 NotInstr ∷
    -- what is read of memory stands in the effect
    wrong (rule reg (token tok.Plus ∷ symbol lpl ∷ symbol reg ∷ [])
    (line 1 (codes "lw %0,%2") ∷ line 2 (codes "lw %0,%3") ∷ []) give.Fresh) 1 NotInstr ∷
    -- a longword is not written as a byte
    wrong (rule stmt (token tok.AssignL ∷ symbol lpl ∷ symbol reg ∷ []) (line 1 (codes "sb %3,%2") ∷ []) give.Nothing) 1 WrongSize ∷
    -- a place has no address
    wrong (rule reg (symbol lpl ∷ []) (line 1 (codes "la %0,%1") ∷ []) give.Fresh) 1 NotInstr ∷
    -- no register but `a0` is spelled
    wrong (rule reg (token tok.Plus ∷ symbol reg ∷ symbol reg ∷ []) (line 1 (codes "add a3,%2,%3") ∷ []) give.Reuse) 1 NotInstr ∷
    -- `a0` is spelled in returns and saves alone
    wrong (rule reg (token tok.Plus ∷ symbol reg ∷ symbol reg ∷ []) (line 1 (codes "add %0,a0,%3") ∷ []) give.Reuse) 1 NotInstr ∷
    -- arithmetic reads registers
    wrong (rule reg (token tok.Plus ∷ symbol reg ∷ symbol rval ∷ []) (line 1 (codes "add %0,%2,%3") ∷ []) give.Reuse) 1 NotInstr ∷
    -- a register that is given holds a value
    wrong (rule reg (symbol reg ∷ []) [] give.Fresh) 0 NotInstr ∷
    -- nothing stands behind a deed
    wrong (rule stmt (token tok.Push ∷ symbol reg ∷ []) (line 1 (codes "push %2") ∷ line 2 (codes "push %2") ∷ []) give.Nothing) 2 NotInstr ∷
    -- no template makes a frame
    wrong (rule stmt (token tok.Push ∷ symbol reg ∷ []) (line 1 (codes "enter $4") ∷ []) give.Nothing) 1 NotInstr ∷
    -- a place is no register
    wrong (rule stmt (token tok.AssignB ∷ symbol bpl ∷ token tok.Ncb ∷ symbol reg ∷ [])
    (line 1 (codes "sw 0(%2),%2") ∷ []) give.Nothing) 1 NotInstr ∷
    -- a call has its name first
    wrong (rule stmt (token tok.Call ∷ []) (line 1 (codes "call %N,%F") ∷ []) give.Nothing) 1 NotInstr ∷
    -- an address is no pointer
    wrong (rule ea (token tok.Gaddr ∷ []) [] (given 99 (codes "@%1"))) 99 NotInstr ∷ []
