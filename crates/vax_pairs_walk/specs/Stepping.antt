-- What the next instruction of a piece does on terms, without what comes behind it.
use Rattle.std.specs.Prelude.{ℕ, ◌+◌, ◌==◌, Bool, false, List, [], ◌∷◌, Option, Some, None, slice_get, slice_index_or, if◌then◌else◌}
use Rattle.std.specs.Str.{bytes_eq}
use Rattle.gg_base.specs.declared.size.Size.{Size}
use Rattle.gg_base.specs.declared.size.Size.TheVariants.{Long}
use Rattle.vax_core.specs.declared.register.Reg.{Reg}
use Rattle.vax_core.specs.declared.operand.Base.{Base}
use Rattle.vax_core.specs.declared.operand.Base.TheVariants as bases
use Rattle.vax_core.specs.declared.operand.Operand.{Operand}
use Rattle.vax_core.specs.declared.op.Access.{Access}
use Rattle.vax_core.specs.declared.op.Access.TheVariants as accesses
use Rattle.vax_core.specs.declared.op.OperandKind.{OperandKind}
use Rattle.vax_core.specs.declared.code.AreaItem.{AreaItem}
use Rattle.vax_core.specs.declared.code.CodeItem.{CodeItem}
use Rattle.vax_core.specs.declared.code.CodeItem.TheVariants as item_kind
use Rattle.vax_core.specs.declared.code.Instr.{Instr}
use Rattle.vax_core.specs.First.{putchar_name}
use Rattle.vax_core.specs.Ops.{shape}
use Rattle.vax_machine.specs.declared.function.Action.{Action}
use Rattle.vax_machine.specs.declared.function.Action.TheVariants as action
use Rattle.vax_machine.specs.declared.function.Test.{Test}
use Rattle.vax_machine.specs.declared.function.Test.TheVariants as test
use Rattle.vax_machine.specs.Functions.{action_of}
use Rattle.vax_machine.specs.Labels.{next_item, label_place, getchar_name}
use Rattle.vax_pairs_walk.specs.Taking.{Front, answering}
use Rattle.vax_pairs_walk.specs.Computing.{computed, pushed, byte_written, byte_read}

-- whether a place is a cut
abbrev pub is_marked : List Bool → ℕ → Bool
is_marked cuts place = slice_index_or cuts place false

-- where a piece stops: at a cut, at a question, at a call or at a return
pub data Stop : Type 0 where
  Arrives : (moved : Bool) (place : ℕ) → Stop
  Asks : (t : Test) (to behind : ℕ) → Stop
  Calls : (count : ℕ) (name : List ℕ) (behind : ℕ) → Stop
  Returns : (behind : ℕ) → Stop

-- an instruction leads on to a place, or the piece stops there
pub data Step : Type 0 where
  On : (place : ℕ) → Step
  Halt : (stop : Stop) → Step

abbrev pub branched : List CodeItem → Test → Option (List ℕ) → ℕ → Option Step
branched items t None behind = None
branched items test.Always (Some l) behind = Some (On (label_place items l))
branched items t (Some l) behind = Some (Halt (Asks t (label_place items l) behind))

-- the front stays as it is
abbrev pub still : Front → Option Step → Option (Step × Front)
still x None = None
still x (Some y) = Some (y, x)

abbrev pub called_named : Option (List ℕ) → ℕ → List ℕ → ℕ → Front → Option (Step × Front)
called_named None count f behind x =
    if bytes_eq f putchar_name then answering (On behind) (if count == 1 then byte_written x else None)
    else if bytes_eq f getchar_name then answering (On behind) (if count == 0 then Some (byte_read x) else None)
    else Some (Halt (Calls count f behind), x)
called_named (Some name) count f behind x = None

abbrev pub called_based : Base → Option Reg → Option (List ℕ) → ℕ → Front → Option (Step × Front)
called_based (bases.Imm a) None (Some f) behind x = called_named a.name a.offset f behind x
called_based b index target behind x = None

abbrev pub called : List Operand → Option (List ℕ) → ℕ → Front → Option (Step × Front)
called (o ∷ []) target behind x = called_based o.base o.index target behind x
called os target behind x = None

abbrev pub counted : Access → Size → Option (Step × Front) → Option (Step × Front)
counted accesses.Count Long y = y
counted a z y = None

module _ (items : List CodeItem) (layout : List AreaItem) where
  abbrev pub acted : Action → List OperandKind → List Operand → Option (List ℕ) → ℕ → Front → Option (Step × Front)
  acted (action.Compute f) ks os target behind x = answering (On behind) (computed layout x f ks os)
  acted action.Push ks os target behind x = answering (On behind) (pushed layout x ks os)
  acted (action.Branch t) [] os target behind x = still x (branched items t target behind)
  acted (action.Branch t) (k ∷ ks) os target behind x = None
  acted action.Call (k ∷ []) os target behind x = counted k.access k.size (called os target behind x)
  acted action.Call ks os target behind x = None
  acted action.Return [] os target behind x = Some (Halt (Returns behind), x)
  acted action.Return (k ∷ ks) os target behind x = None

  abbrev pub stepped : Instr → ℕ → Front → Option (Step × Front)
  stepped i behind x = acted (action_of i.op) (shape i.op).operands i.operands i.target behind x

  abbrev pub stepped_at : Option CodeItem → ℕ → Front → Option (Step × Front)
  stepped_at (Some (item_kind.Instr i)) place x = stepped i (place + 1) x
  stepped_at item place x = None

  -- what the instruction does that is next from a place on
  abbrev pub stepped_from : ℕ → Front → Option (Step × Front)
  stepped_from place x = stepped_at (slice_get items (next_item items place)) (next_item items place) x
