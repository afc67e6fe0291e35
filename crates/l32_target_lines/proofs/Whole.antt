-- The last call's result is put into a register or a longword: bytes and words are only put of what is cut to them.
use Rattle.std.proofs.Common.{◌≡◌, ℕ, Bool, true, false, cond, Option, Some, None, Result, Ok, Err, List, [], ◌∷◌, refl, ap, subst, ◌∙◌}
use Rattle.std.specs.List.{list_any}
use Rattle.gg_base.specs.declared.size.Size.{Size}
use Rattle.gg_base.specs.declared.size.Size.TheVariants.{Byte, Word, Long}
use Rattle.gg_base.proofs.Facts.{err_ok, ok_same, first_false, second_false, true_or_false}
use Rattle.l32_target_operands.specs.judging_laws.specs.term_core.specs.Shape.{Shape, Symbol, LastResult, Memory}
use Rattle.l32_target_operands.specs.judging_laws.specs.sel_terms.specs.Same.{same_size}
use Rattle.l32_target_operands.specs.judging_laws.specs.sel_target.specs.declared.fault.TemplateKind.{TemplateKind}
use Rattle.l32_target_operands.specs.judging_laws.specs.vax_templates.specs.declared.setting.Hole.{Hole}
use Rattle.l32_target_operands.specs.judging_laws.specs.vax_templates.specs.declared.setting.Opening.{Opening}
use Rattle.l32_target_operands.specs.judging_laws.specs.vax_templates.specs.declared.setting.Opening.TheVariants as opening
use Rattle.l32_target_operands.specs.judging_laws.specs.vax_templates.specs.declared.setting.Setting.{Setting}
use Rattle.l32_target_operands.specs.judging_laws.specs.vax_templates.specs.Standing.{Where, Immediate, Register, OwnRegister, RegisterZero, Value, Place, Local, SavedPlace, Saved, At, ◌>>=◌}
use Rattle.l32_target_operands.specs.judging_laws.specs.vax_templates.specs.HoleTerms.{own_value}
use Rattle.l32_target_operands.specs.judging_laws.specs.vax_templates.specs.Targets.{is_long}
use Rattle.l32_target_operands.specs.judging_laws.specs.vax_templates.specs.Taking.{Taken, Arguments, taken_term, taken_read, taken_missized, sized, last_result, cut_term, fetched}
use Rattle.l32_target_operands.specs.judging_laws.specs.vax_templates.specs.Giving.{Given, Computes, Divides, truncated}
use Rattle.l32_target_operands.specs.judging_laws.specs.vax_templates.specs.Deeds.{is_last_result}
use Rattle.l32_target_operands.specs.judging_laws.proofs.Binds.{chained}
use Rattle.l32_target_operands.specs.l32_templates.specs.l32_core.specs.declared.op.Op32.{Op32}
use Rattle.l32_target_operands.specs.l32_templates.specs.l32_core.specs.declared.op.Op32.TheVariants as ops
use Rattle.l32_target_operands.specs.l32_templates.specs.l32_core.specs.declared.op.Role.{Role}
use Rattle.l32_target_operands.specs.l32_templates.specs.l32_core.specs.declared.op.Role.TheVariants as roles
use Rattle.l32_target_operands.specs.l32_templates.specs.l32_core.specs.declared.op.Part.{Part}
use Rattle.l32_target_operands.specs.l32_templates.specs.l32_core.specs.declared.op.Part.TheVariants as parts
use Rattle.l32_target_operands.specs.l32_templates.specs.l32_core.specs.declared.operand.Operand32.{Operand32}
use Rattle.l32_target_operands.specs.l32_templates.specs.l32_core.specs.declared.operand.Operand32.TheVariants as operands
use Rattle.l32_target_operands.specs.l32_templates.specs.l32_core.specs.Ops.{shape, source, store}
use Rattle.l32_target_operands.specs.l32_templates.specs.l32_machine.specs.declared.turn.Stop32.{Stop32}
use Rattle.l32_target_operands.specs.l32_templates.specs.l32_machine.specs.declared.operands.Destination.{Destination}
use Rattle.l32_target_operands.specs.l32_templates.specs.l32_machine.specs.declared.operands.Destination.TheVariants as destinations
use Rattle.l32_target_operands.specs.l32_templates.specs.l32_machine.specs.declared.operands.Evaluated.{Evaluated}
use Rattle.l32_target_operands.specs.l32_templates.specs.l32_machine.specs.declared.operands.Evaluated.TheVariants as evaluations
use Rattle.l32_target_operands.specs.l32_templates.specs.l32_machine.specs.declared.operands.Arguments.{Arguments as Numbers}
use Rattle.l32_target_operands.specs.l32_templates.specs.l32_machine.specs.declared.function.Action.{Action}
use Rattle.l32_target_operands.specs.l32_templates.specs.l32_machine.specs.declared.function.Action.TheVariants as action
use Rattle.l32_target_operands.specs.l32_templates.specs.l32_machine.specs.Functions.{action_of}
use Rattle.l32_target_operands.specs.l32_templates.specs.l32_machine.specs.State.{State}
use Rattle.l32_target_operands.specs.l32_templates.specs.l32_machine.specs.State as state
use Rattle.l32_target_operands.specs.l32_templates.specs.l32_machine.specs.Operands.{address_of, register_of, as_number}
use Rattle.l32_target_operands.specs.l32_templates.specs.l32_machine.specs.Operands as machine
use Rattle.l32_target_operands.specs.l32_templates.specs.declared.form.Form.{Form}
use Rattle.l32_target_operands.specs.l32_templates.specs.Standing.{form_where}
use Rattle.l32_target_operands.specs.l32_templates.specs.Taking.{sourced, taken, evaluated, all_evaluated, put_in_front}
use Rattle.l32_target_operands.specs.l32_templates.specs.Giving.{given}
use Rattle.l32_target_lines.proofs.Taken.{plain_taken}
use Rattle.l32_target_lines.proofs.All.{front_is}

-- a result goes to a register or to a longword
abbrev pub IsWhole : Option Destination → Type 0
IsWhole (Some (destinations.Memory a size)) = size ≡ Long
IsWhole d = Unit {0}

abbrev pub IsWholeIfLast : Given → Option Destination → Type 0
IsWholeIfLast (Computes t) d = is_last_result t ≡ true → IsWhole d
IsWholeIfLast (Divides t w) d = is_last_result t ≡ true → IsWhole d
IsWholeIfLast g d = Unit {0}

abbrev pub MayPut : Action → Arguments → Option Destination → Type 0
MayPut (action.Compute f) x d = IsWholeIfLast (given f x.first x.second) d
MayPut a x d = Unit {0}

-- ---- what stores no byte and no word

abbrev is_narrow : Part → Bool
is_narrow (parts.Operand (roles.Store Byte)) = true
is_narrow (parts.Operand (roles.Store Word)) = true
is_narrow p = false

abbrev IsWholeOne : Evaluated → Type 0
IsWholeOne (evaluations.Number v) = Unit {0}
IsWholeOne (evaluations.Goes d) = IsWhole (Some d)

number_whole : (r : Result ℕ Stop32) (g : Evaluated) → as_number r ≡ Ok g → IsWholeOne g
number_whole (Ok v) g e = subst IsWholeOne (ok_same (evaluations.Number v) g e) tt
number_whole (Err k) g e = absurd (err_ok k g e)

register_whole : (o : Operand32) (g : Evaluated) → register_of o ≡ Ok g → IsWholeOne g
register_whole (operands.Reg n) g e = subst IsWholeOne (ok_same (evaluations.Goes (destinations.Register n)) g e) tt
register_whole _ g e = absurd (err_ok _ g e)

place_whole : (r : Result ℕ Stop32) (g : Evaluated) → state.◌>>=◌ r (λ (a : ℕ). Ok (evaluations.Goes (destinations.Memory a Long))) ≡ Ok g → IsWholeOne g
place_whole (Ok a) g e = subst IsWholeOne (ok_same (evaluations.Goes (destinations.Memory a Long)) g e) refl
place_whole (Err k) g e = absurd (err_ok k g e)

one_whole : (m : State) (role : Role) (o : Operand32) (g : Evaluated) → is_narrow (parts.Operand role) ≡ false → machine.evaluated m role o ≡ Ok g → IsWholeOne g
unfolding machine.evaluated
one_whole m roles.Number o g p e = number_whole (machine.fetched m Long o) g e
one_whole m roles.Words o g p e = number_whole (machine.fetched m Long o) g e
one_whole m roles.Count o g p e = number_whole (machine.fetched m Long o) g e
one_whole m roles.Destination o g p e = register_whole o g e
one_whole m roles.Register o g p e = number_whole (machine.fetched m Long o) g e
one_whole m (roles.Source size) o g p e = number_whole (machine.fetched m size o) g e
one_whole m (roles.Store Byte) o g p e = absurd cc
one_whole m (roles.Store Word) o g p e = absurd cc
one_whole m (roles.Store Long) o g p e = place_whole (address_of m o) g e
one_whole m roles.Address o g p e = number_whole (address_of m o) g e

front_whole : (g : Evaluated) (r : Result Numbers Stop32) (y : Numbers) → IsWholeOne g → ((x : Numbers) → r ≡ Ok x → IsWhole x.destination)
    → state.◌>>=◌ r (λ (x : Numbers). Ok (machine.in_front g x)) ≡ Ok y → IsWhole y.destination
front_whole (evaluations.Number v) (Ok x) y one rest e = subst (λ (z : Numbers). IsWhole z.destination) (ok_same (machine.in_front (evaluations.Number v) x) y e) (rest x refl)
front_whole (evaluations.Goes d) (Ok x) y one rest e = subst (λ (z : Numbers). IsWhole z.destination) (ok_same (machine.in_front (evaluations.Goes d) x) y e) one
front_whole g (Err k) y one rest e = absurd (err_ok k y e)

pair_whole : (r : Result Evaluated Stop32) (s : Result Numbers Stop32) (y : Numbers) → ((g : Evaluated) → r ≡ Ok g → IsWholeOne g) → ((x : Numbers) → s ≡ Ok x → IsWhole x.destination)
    → state.◌>>=◌ r (λ (g : Evaluated). state.◌>>=◌ s (λ (x : Numbers). Ok (machine.in_front g x))) ≡ Ok y → IsWhole y.destination
pair_whole (Ok g) s y one rest e = front_whole g s y (one g refl) rest e
pair_whole (Err k) s y one rest e = absurd (err_ok k y e)

all_whole : (m : State) (ps : List Part) (os : List Operand32) (y : Numbers) → list_any is_narrow ps ≡ false → machine.all_evaluated m ps os ≡ Ok y → IsWhole y.destination
all_whole m [] os y p e = subst (λ (z : Numbers). IsWhole z.destination) (ok_same machine.no_arguments y e) tt
all_whole m (parts.Label ∷ ps) os y p e = all_whole m ps os y p e
all_whole m (parts.Operand role ∷ ps) [] y p e = absurd (err_ok _ y e)
all_whole m (parts.Operand role ∷ ps) (o ∷ os) y p e =
    pair_whole (machine.evaluated m role o) (machine.all_evaluated m ps os) y
    (λ g is. one_whole m role o g (first_false (is_narrow (parts.Operand role)) (list_any is_narrow ps) p) is)
    (λ x is. all_whole m ps os x (second_false (is_narrow (parts.Operand role)) (list_any is_narrow ps) p) is) e

unless_last : (g : Given) (d : Option Destination) → IsWhole d → IsWholeIfLast g d
unless_last (Computes t) d w = λ last. w
unless_last (Divides t u) d w = λ last. w
unless_last _ d w = tt

unless_put : (a : Action) (x : Arguments) (d : Option Destination) → IsWhole d → MayPut a x d
unless_put (action.Compute f) x d w = unless_last (given f x.first x.second) d w
unless_put _ x d w = tt

-- ---- what is cut is not the last call's result

abbrev IsOther : Taken → Type 0
IsOther t = is_last_result t.term ≡ false

cut_other : (size : Size) (x : Shape) → is_long size ≡ false → is_last_result (truncated size x) ≡ false
cut_other Byte x p = refl
cut_other Word x p = refl
cut_other Long x p = absurd cc

sized_other : (has wanted : Size) (x t : Taken) → IsOther x → ◌≡◌ {A = Result Taken TemplateKind} (Ok (sized has wanted x)) (Ok t) → IsOther t
sized_other has wanted x t other e = by (same_size has wanted) e where
  by : (b : Bool) → ◌≡◌ {A = Result Taken TemplateKind} (Ok (cond b x taken_missized)) (Ok t) → IsOther t
  by true e = subst IsOther (ok_same x t e) other
  by false e = subst IsOther (ok_same taken_missized t e) refl

own_other : (r : Result Shape TemplateKind) (size : Size) (t : Taken) → is_long size ≡ false → (r >>= cut_term size) ≡ Ok t → IsOther t
own_other (Ok x) size t p e = subst IsOther (ok_same (taken_term (truncated size x)) t e) (cut_other size x p)
own_other (Err k) size t p e = absurd (err_ok k t e)

last_other : (o : Opening) (z : Option Shape) (size : Size) (t : Taken) → is_long size ≡ false → last_result o z size ≡ Ok t → IsOther t
last_other opening.Save None size t p e = subst IsOther (ok_same (taken_term (truncated size LastResult)) t e) (cut_other size LastResult p)
last_other _ _ size t p e = absurd (err_ok _ t e)

source_other : (s : Setting) (z : Option Shape) (w : Where) (size : Size) (t : Taken) → is_long size ≡ false → sourced s z w size ≡ Ok t → IsOther t
unfolding fetched
source_other s z (Immediate x) size t p e = absurd (err_ok _ t e)
source_other s z (Register x) size t p e = subst IsOther (ok_same (taken_term (truncated size x)) t e) (cut_other size x p)
source_other s z OwnRegister size t p e = own_other (own_value s.own z) size t p e
source_other s z RegisterZero size t p e = last_other s.opening z size t p e
source_other s z (Value y i) size t p e = sized_other y size (taken_term (Symbol i)) t refl e
source_other s z (Place y i) size t p e = sized_other y size (taken_read (Symbol i)) t refl e
source_other s z (Local i) size t p e = sized_other Long size (taken_term (Symbol i)) t refl e
source_other s z (SavedPlace y i) size t p e = sized_other y size (taken_read (Memory y (Symbol i))) t refl e
source_other s z (Saved i) size t p e = absurd (err_ok _ t e)
source_other s z (At a q) size t p e = subst IsOther (ok_same (taken_read (Memory size a)) t e) refl

module _ (s : Setting) (hs : List Hole) (zero : Option Shape) (m : State) where
  narrow_other : (size : Size) (fs : List Form) (x : Arguments) → is_long size ≡ false → all_evaluated s hs zero (source size ∷ (store size ∷ [])) fs ≡ Ok x
      → is_last_result x.first ≡ false
  unfolding evaluated taken
  narrow_other size [] x p e = absurd (err_ok _ x e)
  narrow_other size (f ∷ fs) x p e =
      let d = chained (evaluated s hs zero (roles.Source size) f) (λ (t : Taken). all_evaluated s hs zero (store size ∷ []) fs >>= put_in_front t) x e in
      let w = chained (form_where s hs zero f) (taken s zero (roles.Source size)) d.first d.is in
      let r = chained (all_evaluated s hs zero (store size ∷ []) fs) (put_in_front d.first) x d.then_so in
      let front = (front_is d.first r.first x r.then_so).plainly (plain_taken s zero (roles.Source size) w.first d.first refl w.then_so) in
      ap is_last_result front.0 ∙ source_other s zero w.first size d.first p w.then_so

  -- of the last call's result, a line puts a longword
  pub may_put : (op : Op32) (fs : List Form) (x : Arguments) (os : List Operand32) (y : Numbers) → all_evaluated s hs zero (shape op).parts fs ≡ Ok x
      → machine.all_evaluated m (shape op).parts os ≡ Ok y → MayPut (action_of op) x y.destination
  may_put ops.Sb fs x os y e ran = λ last. absurd (true_or_false (is_last_result x.first) last (narrow_other Byte fs x refl e))
  may_put ops.Sh fs x os y e ran = λ last. absurd (true_or_false (is_last_result x.first) last (narrow_other Word fs x refl e))
  may_put op fs x os y e ran = unless_put (action_of op) x y.destination (all_whole m (shape op).parts os y refl ran)
