-- What the table of instructions says of each row that a line may spell.
use Rattle.std.proofs.Common.{◌≡◌, ◌≤◌, true, List, [], ◌∷◌, length, refl, arith}
use Rattle.gg_base.specs.declared.size.Size.TheVariants.{Long}
use Rattle.vax_core.specs.declared.op.Op.{Op}
use Rattle.vax_core.specs.declared.op.Op.TheVariants as ops
use Rattle.vax_core.specs.declared.op.OperandKind.{OperandKind}
use Rattle.vax_core.specs.Ops.{shape, read}
use Rattle.vax_machine.specs.declared.function.Function.TheVariants as functions
use Rattle.vax_machine.specs.declared.function.Action.{Action}
use Rattle.vax_machine.specs.declared.function.Action.TheVariants as action
use Rattle.vax_machine.specs.Functions.{action_of}
use Rattle.vax_target_operands.specs.vax_templates.specs.Deeds.{is_movl}
use Rattle.vax_target_lines.specs.Takings.{LastIsWritten, last_size}

-- an instruction that only sets the codes or pushes reads operands alone, of the size that it compares
abbrev pub Suits : Action → List OperandKind → Type 0
Suits (action.Compute (functions.Compare size)) ks = ks ≡ read size ∷ read size ∷ []
Suits (action.Compute (functions.CompareWithZero size)) ks = ks ≡ read size ∷ []
Suits (action.Compute functions.BitTest) ks = ks ≡ read Long ∷ read Long ∷ []
Suits action.Push ks = ks ≡ read Long ∷ []
Suits a ks = Unit {0}

pub record IsRow (op : Op) : Type 0 where
  pub last : LastIsWritten (shape op).operands
  pub few : length (shape op).operands ≤ 3
  pub suits : Suits (action_of op) (shape op).operands
  pub longword : is_movl op ≡ true → last_size (shape op).operands ≡ Long

pub row_of : (op : Op) → IsRow op
row_of ops.Movb = record { last = (refl, tt); few = omega arith; suits = tt; longword = λ e. cc }
row_of ops.Movw = record { last = (refl, tt); few = omega arith; suits = tt; longword = λ e. cc }
row_of ops.Movl = record { last = (refl, tt); few = omega arith; suits = tt; longword = λ e. refl }
row_of ops.Clrb = record { last = tt; few = omega arith; suits = tt; longword = λ e. cc }
row_of ops.Clrw = record { last = tt; few = omega arith; suits = tt; longword = λ e. cc }
row_of ops.Clrl = record { last = tt; few = omega arith; suits = tt; longword = λ e. cc }
row_of ops.Mnegl = record { last = (refl, tt); few = omega arith; suits = tt; longword = λ e. cc }
row_of ops.Mcoml = record { last = (refl, tt); few = omega arith; suits = tt; longword = λ e. cc }
row_of ops.Pushl = record { last = tt; few = omega arith; suits = refl; longword = λ e. cc }
row_of ops.Cvtbl = record { last = (refl, tt); few = omega arith; suits = tt; longword = λ e. cc }
row_of ops.Cvtwl = record { last = (refl, tt); few = omega arith; suits = tt; longword = λ e. cc }
row_of ops.Cvtlb = record { last = (refl, tt); few = omega arith; suits = tt; longword = λ e. cc }
row_of ops.Cvtlw = record { last = (refl, tt); few = omega arith; suits = tt; longword = λ e. cc }
row_of ops.Movzbl = record { last = (refl, tt); few = omega arith; suits = tt; longword = λ e. cc }
row_of ops.Movzwl = record { last = (refl, tt); few = omega arith; suits = tt; longword = λ e. cc }
row_of ops.Movab = record { last = (refl, tt); few = omega arith; suits = tt; longword = λ e. cc }
row_of ops.Movaw = record { last = (refl, tt); few = omega arith; suits = tt; longword = λ e. cc }
row_of ops.Moval = record { last = (refl, tt); few = omega arith; suits = tt; longword = λ e. cc }
row_of ops.Addl2 = record { last = (refl, tt); few = omega arith; suits = tt; longword = λ e. cc }
row_of ops.Addl3 = record { last = (refl, (refl, tt)); few = omega arith; suits = tt; longword = λ e. cc }
row_of ops.Subl2 = record { last = (refl, tt); few = omega arith; suits = tt; longword = λ e. cc }
row_of ops.Subl3 = record { last = (refl, (refl, tt)); few = omega arith; suits = tt; longword = λ e. cc }
row_of ops.Mull2 = record { last = (refl, tt); few = omega arith; suits = tt; longword = λ e. cc }
row_of ops.Mull3 = record { last = (refl, (refl, tt)); few = omega arith; suits = tt; longword = λ e. cc }
row_of ops.Divl2 = record { last = (refl, tt); few = omega arith; suits = tt; longword = λ e. cc }
row_of ops.Divl3 = record { last = (refl, (refl, tt)); few = omega arith; suits = tt; longword = λ e. cc }
row_of ops.Incl = record { last = tt; few = omega arith; suits = tt; longword = λ e. cc }
row_of ops.Decl = record { last = tt; few = omega arith; suits = tt; longword = λ e. cc }
row_of ops.Bisl2 = record { last = (refl, tt); few = omega arith; suits = tt; longword = λ e. cc }
row_of ops.Bisl3 = record { last = (refl, (refl, tt)); few = omega arith; suits = tt; longword = λ e. cc }
row_of ops.Bicl2 = record { last = (refl, tt); few = omega arith; suits = tt; longword = λ e. cc }
row_of ops.Bicl3 = record { last = (refl, (refl, tt)); few = omega arith; suits = tt; longword = λ e. cc }
row_of ops.Xorl2 = record { last = (refl, tt); few = omega arith; suits = tt; longword = λ e. cc }
row_of ops.Xorl3 = record { last = (refl, (refl, tt)); few = omega arith; suits = tt; longword = λ e. cc }
row_of ops.Bitl = record { last = (refl, tt); few = omega arith; suits = refl; longword = λ e. cc }
row_of ops.Ashl = record { last = (refl, (refl, tt)); few = omega arith; suits = tt; longword = λ e. cc }
row_of ops.Cmpb = record { last = (refl, tt); few = omega arith; suits = refl; longword = λ e. cc }
row_of ops.Cmpw = record { last = (refl, tt); few = omega arith; suits = refl; longword = λ e. cc }
row_of ops.Cmpl = record { last = (refl, tt); few = omega arith; suits = refl; longword = λ e. cc }
row_of ops.Tstb = record { last = tt; few = omega arith; suits = refl; longword = λ e. cc }
row_of ops.Tstw = record { last = tt; few = omega arith; suits = refl; longword = λ e. cc }
row_of ops.Tstl = record { last = tt; few = omega arith; suits = refl; longword = λ e. cc }
row_of ops.Jbr = record { last = tt; few = omega arith; suits = tt; longword = λ e. cc }
row_of ops.Jeql = record { last = tt; few = omega arith; suits = tt; longword = λ e. cc }
row_of ops.Jneq = record { last = tt; few = omega arith; suits = tt; longword = λ e. cc }
row_of ops.Jlss = record { last = tt; few = omega arith; suits = tt; longword = λ e. cc }
row_of ops.Jleq = record { last = tt; few = omega arith; suits = tt; longword = λ e. cc }
row_of ops.Jgtr = record { last = tt; few = omega arith; suits = tt; longword = λ e. cc }
row_of ops.Jgeq = record { last = tt; few = omega arith; suits = tt; longword = λ e. cc }
row_of ops.Jlssu = record { last = tt; few = omega arith; suits = tt; longword = λ e. cc }
row_of ops.Jlequ = record { last = tt; few = omega arith; suits = tt; longword = λ e. cc }
row_of ops.Jgtru = record { last = tt; few = omega arith; suits = tt; longword = λ e. cc }
row_of ops.Jgequ = record { last = tt; few = omega arith; suits = tt; longword = λ e. cc }
row_of ops.Calls = record { last = tt; few = omega arith; suits = tt; longword = λ e. cc }
row_of ops.Ret = record { last = tt; few = omega arith; suits = tt; longword = λ e. cc }
