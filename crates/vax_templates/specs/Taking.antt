-- What an instruction takes of its operands, on terms.
-- This is how the code computes it; that instructions do so is the law vax_is_lawful of vax_target_laws.
use Rattle.std.specs.Prelude.{Bool, true, false, ◌||◌, List, [], ◌∷◌, ◌++◌, Option, Some, None, Result, Ok, Err}
use Rattle.std.specs.Prelude.{if◌then◌else◌}
use Rattle.gg_base.specs.declared.size.Size.{Size}
use Rattle.gg_base.specs.declared.size.Size.TheVariants.{Long}
use Rattle.sel_target.specs.term_core.specs.Shape.{Shape, Constant, Symbol, LastResult, Memory}
use Rattle.sel_target.specs.sel_terms.specs.Same.{same_size}
use Rattle.sel_target.specs.declared.fault.TemplateKind.{TemplateKind}
use Rattle.sel_target.specs.declared.fault.TemplateKind.TheVariants.{NotInstr}
use Rattle.vax_core.specs.declared.op.Access.{Access}
use Rattle.vax_core.specs.declared.op.Access.TheVariants as accesses
use Rattle.vax_core.specs.declared.op.OperandKind.{OperandKind}
use Rattle.vax_templates.specs.declared.form.Form.{Form}
use Rattle.vax_templates.specs.declared.setting.Hole.{Hole}
use Rattle.vax_templates.specs.declared.setting.Opening.{Opening}
use Rattle.vax_templates.specs.declared.setting.Opening.TheVariants as opening
use Rattle.vax_templates.specs.declared.setting.Setting.{Setting}
use Rattle.vax_templates.specs.Standing.{Where, Immediate, Register, OwnRegister, RegisterZero, Value, Place, Local}
use Rattle.vax_templates.specs.Standing.{SavedPlace, Saved, At, form_where, ◌>>=◌}
use Rattle.vax_templates.specs.HoleTerms.{own_value}
use Rattle.vax_templates.specs.Targets.{Target, targeted}
use Rattle.vax_templates.specs.Giving.{truncated}

-- what is read or the address that is taken, the memory that was read for it, what is to be written, and whether the
-- operand has another size
pub record Taken : Type 0 where
  pub term : Shape
  pub reads : List Shape
  pub target : Option Target
  pub missized : Bool

abbrev pub taken_term : Shape → Taken
taken_term t = record { term = t; reads = []; target = None; missized = false }

abbrev pub taken_read : Shape → Taken
taken_read t = record { term = t; reads = t ∷ []; target = None; missized = false }

abbrev pub taken_missized : Taken
taken_missized = record { term = Constant 0; reads = []; target = None; missized = true }

abbrev pub sized : Size → Size → Taken → Taken
sized has wanted t = if same_size has wanted then t else taken_missized

-- register 0 holds the last call's result until `%0`, which it may be, is written
abbrev pub last_result : Opening → Option Shape → Size → Result Taken TemplateKind
last_result opening.Save None size = Ok (taken_term (truncated size LastResult))
last_result o zero size = Err NotInstr

abbrev pub cut_term : Size → Shape → Result Taken TemplateKind
cut_term size t = Ok (taken_term (truncated size t))

-- what is read
unfoldable pub fetched : Setting → Option Shape → Where → Size → Result Taken TemplateKind
fetched s zero (Immediate t) size = Ok (taken_term (truncated size t))
fetched s zero (Register t) size = Ok (taken_term (truncated size t))
fetched s zero OwnRegister size = own_value s.own zero >>= cut_term size
fetched s zero RegisterZero size = last_result s.opening zero size
fetched s zero (Value z i) size = Ok (sized z size (taken_term (Symbol i)))
fetched s zero (Place z i) size = Ok (sized z size (taken_read (Symbol i)))
fetched s zero (Local i) size = Ok (sized Long size (taken_term (Symbol i)))
fetched s zero (SavedPlace z i) size = Ok (sized z size (taken_read (Memory z (Symbol i))))
fetched s zero (Saved i) size = Err NotInstr
fetched s zero (At a p) size = Ok (taken_read (Memory size a))

abbrev pub pointer_read : Option Shape → List Shape
pointer_read None = []
pointer_read (Some p) = p ∷ []

-- the address that is taken; of a symbol's place it is taken only where it is saved
abbrev pub addressed : Where → Size → Result Taken TemplateKind
addressed (At a p) size = Ok (record { term = a; reads = pointer_read p; target = None; missized = false })
addressed (SavedPlace z i) size = Ok (sized z size (taken_term (Symbol i)))
addressed w size = Err NotInstr

abbrev pub written : Target × Bool → Result Taken TemplateKind
written x = Ok (record { term = Constant 0; reads = []; target = Some x.0; missized = x.1 })

abbrev pub both : Taken → Target × Bool → Result Taken TemplateKind
both t x = Ok (record t { target = Some x.0; missized = t.missized || x.1 })

-- what an instruction takes of an operand, by the operand's access
unfoldable pub taken : Setting → Option Shape → Access → Where → Size → Result Taken TemplateKind
taken s zero accesses.Read w size = fetched s zero w size
taken s zero accesses.Modify w size = fetched s zero w size >>= λ (t : Taken). targeted s w size >>= both t
taken s zero accesses.Write w size = targeted s w size >>= written
taken s zero accesses.Address w size = addressed w size
taken s zero accesses.Count w size = Err NotInstr

unfoldable pub evaluated : Setting → List Hole → Option Shape → OperandKind → Form → Result Taken TemplateKind
evaluated s holes zero k f = form_where s holes zero f k.size >>= λ (w : Where). taken s zero k.access w k.size

pub record Arguments : Type 0 where
  pub first : Shape
  pub second : Shape
  pub reads : List Shape
  pub target : Option Target
  pub missized : Bool

abbrev pub no_arguments : Arguments
no_arguments = record { first = Constant 0; second = Constant 0; reads = []; target = None; missized = false }

abbrev pub last_of : Option Target → Option Target → Option Target
last_of front (Some t) = Some t
last_of front None = front

-- the arguments with an operand in front of them
abbrev pub in_front : Taken → Arguments → Result Arguments TemplateKind
in_front t x = Ok (record {
  first = t.term;
  second = x.first;
  reads = t.reads
      ++ x.reads;
  target = last_of t.target x.target;
  missized = t.missized || x.missized;
})

-- all operands
abbrev pub all_evaluated : Setting → List Hole → Option Shape → List OperandKind → List Form → Result Arguments TemplateKind
all_evaluated s holes zero [] fs = Ok no_arguments
all_evaluated s holes zero (k ∷ ks) [] = Err NotInstr
all_evaluated s holes zero (k ∷ ks) (f ∷ fs) =
    evaluated s holes zero k f >>= λ (t : Taken). all_evaluated s holes zero ks fs >>= in_front t
