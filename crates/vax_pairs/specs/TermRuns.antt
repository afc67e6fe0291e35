-- The tree of a piece of code: a run on terms. Where it has none, nothing is said.
use Rattle.std.specs.Prelude.{ℕ, zero, suc, ◌+◌, ◌==◌, ◌&&◌, Bool, true, List, [], ◌∷◌, Option, Some, None, slice_get, if◌then◌else◌}
use Rattle.gg_base.specs.declared.size.Size.{Size}
use Rattle.std.specs.Str.{bytes_eq}
use Rattle.gg_base.specs.declared.size.Size.TheVariants.{Long}
use Rattle.term_core.specs.declared.operator.UnaryOp.TheVariants.{Zx8}
use Rattle.term_core.specs.declared.operator.BinaryOp.TheVariants.{Add}
use Rattle.term_core.specs.Shape.{Constant, Symbol, Unary, Binary}
use Rattle.vax_machine_lists.specs.vax_core.specs.declared.register.Reg.{Reg}
use Rattle.vax_machine_lists.specs.vax_core.specs.declared.register.Reg.TheVariants.{Sp}
use Rattle.vax_machine_lists.specs.vax_core.specs.declared.operand.Base.{Base}
use Rattle.vax_machine_lists.specs.vax_core.specs.declared.operand.Base.TheVariants as bases
use Rattle.vax_machine_lists.specs.vax_core.specs.declared.operand.Operand.{Operand}
use Rattle.vax_machine_lists.specs.vax_core.specs.declared.op.Access.{Access}
use Rattle.vax_machine_lists.specs.vax_core.specs.declared.op.Access.TheVariants as accesses
use Rattle.vax_machine_lists.specs.vax_core.specs.declared.op.OperandKind.{OperandKind}
use Rattle.vax_machine_lists.specs.vax_core.specs.declared.code.AreaItem.{AreaItem}
use Rattle.vax_machine_lists.specs.vax_core.specs.declared.code.CodeItem.{CodeItem}
use Rattle.vax_machine_lists.specs.vax_core.specs.declared.code.CodeItem.TheVariants as item_kind
use Rattle.vax_machine_lists.specs.vax_core.specs.First.{putchar_name}
use Rattle.vax_machine_lists.specs.vax_core.specs.Ops.{shape}
use Rattle.vax_machine_lists.specs.vax_machine.specs.declared.function.Action.{Action}
use Rattle.vax_machine_lists.specs.vax_machine.specs.declared.function.Action.TheVariants.{Compute, Push, Branch, Call}
use Rattle.vax_machine_lists.specs.vax_machine.specs.declared.function.Action.TheVariants.{Return}
use Rattle.vax_machine_lists.specs.vax_machine.specs.declared.function.Function.TheVariants as functions
use Rattle.vax_machine_lists.specs.vax_machine.specs.declared.function.Test.{Test}
use Rattle.vax_machine_lists.specs.vax_machine.specs.declared.function.Test.TheVariants as test
use Rattle.vax_machine_lists.specs.vax_machine.specs.Functions.{action_of}
use Rattle.vax_machine_lists.specs.vax_machine.specs.Labels.{next_item, label_place, getchar_name}
use Rattle.vax_pairs.specs.Events.{Reads, Gets, Puts}
use Rattle.vax_pairs.specs.TermStates.{Tests, TermState}
use Rattle.vax_pairs.specs.Trees.{Tree, Asks, Arrives, CallsHere, ReturnsHere}
use Rattle.vax_pairs.specs.TermOperands.{in_register, before, holding, set_register}
use Rattle.vax_pairs.specs.TermResults.{coded_behind, compute, push}

-- a question whose both ways have a tree
abbrev pub asked : Test → TermState → Option Tree → Option Tree → Option Tree
asked t s None b = None
asked t s (Some a) None = None
asked t s (Some a) (Some b) = Some (Asks t s a b)

-- what comes behind an instruction: at a place, of so many symbols and of the state
abbrev pub Onwards : Type 0
Onwards = (place n : ℕ) → TermState → Option Tree

-- ---- the two services, and calls

-- N, Z and C are clear, as behind a test of 1
abbrev pub uncoded : TermState → TermState
uncoded s = coded_behind s (functions.CompareWithZero Long) (Constant 1) (Constant 0) (Tests Long (Constant 1))

-- `putchar`: a byte is taken off the stack and written, and r0 is that byte
abbrev pub put_tree : ℕ → TermState → (ℕ → TermState → Option Tree) → Option Tree
put_tree n s rest =
    before (Reads Long (in_register s Sp))
    (set_register s Sp (Binary Add (in_register s Sp) (Constant 4))
    (λ z. before (Puts (Unary Zx8 (Symbol n))) (rest (n + 1) (uncoded (holding z 0 (Unary Zx8 (Symbol n)))))))

-- `getchar`: r0 is a byte of the input, or -1
abbrev pub get_tree : ℕ → TermState → (ℕ → TermState → Option Tree) → Option Tree
get_tree n s rest = before Gets (rest (n + 1) (uncoded (holding s 0 (Symbol n))))

-- `calls $count,f`
abbrev pub call_named : Option (List ℕ) → ℕ → List ℕ → ℕ → ℕ → TermState → Onwards → Option Tree
call_named None count f behind n s on =
    if bytes_eq f putchar_name then (if count == 1 then put_tree n s (λ k t. on behind k t) else None)
    else if bytes_eq f getchar_name then (if count == 0 then get_tree n s (λ k t. on behind k t) else None)
    else Some (CallsHere count f behind s)
call_named (Some name) count f behind n s on = None

abbrev pub call_based : Base → Option Reg → Option (List ℕ) → ℕ → ℕ → TermState → Onwards → Option Tree
call_based (bases.Imm a) None (Some f) behind n s on = call_named a.name a.offset f behind n s on
call_based b index target behind n s on = None

abbrev pub call_tree : List Operand → Option (List ℕ) → ℕ → ℕ → TermState → Onwards → Option Tree
call_tree (o ∷ []) target behind n s on = call_based o.base o.index target behind n s on
call_tree os target behind n s on = None

abbrev pub counts : Access → Size → Option Tree → Option Tree
counts accesses.Count Long t = t
counts a z t = None

module _ (items : List CodeItem) (layout : List AreaItem) (is_cut : ℕ → Bool) where
  abbrev pub branch_tree : Test → Option (List ℕ) → ℕ → ℕ → TermState → Onwards → Option Tree
  branch_tree t None behind n s on = None
  branch_tree test.Always (Some l) behind n s on = on (label_place items l) n s
  branch_tree t (Some l) behind n s on = asked t s (on (label_place items l) n s) (on behind n s)

  abbrev pub action_tree : Action → List OperandKind → List Operand → Option (List ℕ) → ℕ → ℕ → TermState → Onwards → Option Tree
  action_tree (Compute f) ks os target behind n s on = compute layout n s f ks os (λ k t. on behind k t)
  action_tree Push ks os target behind n s on = push layout n s ks os (λ k t. on behind k t)
  action_tree (Branch t) [] os target behind n s on = branch_tree t target behind n s on
  action_tree (Branch t) (k ∷ ks) os target behind n s on = None
  action_tree Call (k ∷ []) os target behind n s on = counts k.access k.size (call_tree os target behind n s on)
  action_tree Call ks os target behind n s on = None
  action_tree Return [] os target behind n s on = Some (ReturnsHere behind s)
  action_tree Return (k ∷ ks) os target behind n s on = None

  abbrev pub item_tree : Option CodeItem → ℕ → ℕ → TermState → Onwards → Option Tree
  item_tree (Some (item_kind.Instr i)) place n s on =
      action_tree (action_of i.op) (shape i.op).operands i.operands i.target (place + 1) n s on
  item_tree item place n s on = None

  -- the tree of at most so many instructions from a place on; n symbols are known
  abbrev pub run_tree : ℕ → Bool → ℕ → ℕ → TermState → Option Tree
  run_tree zero moved place n s = None
  run_tree (suc fuel) moved place n s =
      if moved && is_cut place then Some (Arrives moved place s)
      else item_tree (slice_get items (next_item items place)) (next_item items place) n s (λ p k t. run_tree fuel true p k t)
