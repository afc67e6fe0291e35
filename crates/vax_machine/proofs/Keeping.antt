-- Evaluating operands leaves the code as it is.
use Rattle.std.proofs.Common.{◌≡◌, ℕ, Bool, true, false, cond, List, [], ◌∷◌, Result, Ok, Err, refl, subst, ◌∙◌}
use Rattle.std.specs.Prelude.{nat_lt, ◌==◌, ◌&&◌}
use Rattle.gg_base.specs.declared.size.Size.{Size}
use Rattle.gg_base.specs.declared.size.Size.TheVariants.{Long}
use Rattle.gg_base.specs.Arithmetic.{add32, sub32}
use Rattle.gg_base.specs.Sizes.{bytes_of}
use Rattle.vax_core.specs.declared.register.Reg.{Reg}
use Rattle.vax_core.specs.Registers.{reg_number}
use Rattle.vax_core.specs.declared.operand.Base.{Base}
use Rattle.vax_core.specs.declared.operand.Base.TheVariants as bases
use Rattle.vax_core.specs.declared.operand.Operand.{Operand}
use Rattle.vax_core.specs.declared.op.OperandKind.{OperandKind}
use Rattle.vax_machine.specs.declared.turn.Stop.{Stop}
use Rattle.vax_machine.specs.declared.operands.Location.{Location}
use Rattle.vax_machine.specs.declared.operands.Location.TheVariants as locations
use Rattle.vax_machine.specs.declared.operands.Evaluated.{Evaluated}
use Rattle.vax_machine.specs.declared.operands.Arguments.{Arguments}
use Rattle.vax_machine.specs.State.{State, reg, with_reg, stack_full, ◌>>=◌}
use Rattle.vax_machine.specs.Memory.{read, register_set}
use Rattle.vax_machine.specs.Area.{resolved}
use Rattle.vax_machine.specs.Operands.{deferred, located, indexed, taken, evaluated, in_front, all_evaluated}

pub record SameCode (m n : State) : Type 0 where
  pub layout : n.layout ≡ m.layout
  pub items : n.items ≡ m.items

SameAfter : State → Result State Stop → Type 0
SameAfter m (Ok n) = SameCode m n
SameAfter m (Err e) = Unit {0}

SameBehind : {X : Type 0} → State → Result (X × State) Stop → Type 0
SameBehind m (Ok x) = SameCode m x.1
SameBehind m (Err e) = Unit {0}

same : (m : State) → SameCode m m
same m = record { layout = refl; items = refl }

further : (m n k : State) → SameCode m n → SameCode n k → SameCode m k
further m n k h g = record { layout = g.layout ∙ h.layout; items = g.items ∙ h.items }

set_by : (m : State) (b : Bool) (r : Reg) (v : ℕ) → SameAfter m (cond b (Err stack_full) (Ok (with_reg m r v)))
unfolding SameAfter
set_by m true r v = tt
set_by m false r v = record { layout = refl; items = refl }

set_same : (m : State) (r : Reg) (v : ℕ) → SameAfter m (register_set m r v)
unfolding register_set
set_same m r v = set_by m (reg_number r == 14 && nat_lt v 2139095040) r v

behind_set : (m : State) (s : Result State Stop) (l : Location) → SameAfter m s → SameBehind m (s >>= λ (n : State). Ok (l, n))
unfolding SameAfter SameBehind
behind_set m (Ok n) l h = h
behind_set m (Err e) l h = tt

deferred_by : (m n : State) (r : Result ℕ Stop) → SameCode m n → SameBehind m (r >>= λ (a : ℕ). Ok (locations.Memory a, n))
unfolding SameBehind
deferred_by m n (Ok a) h = h
deferred_by m n (Err e) h = tt

deferred_set : (m : State) (s : Result State Stop) (a : ℕ) → SameAfter m s → SameBehind m (s >>= λ (n : State). deferred n a)
unfolding SameAfter SameBehind
deferred_set m (Ok n) a h = deferred_by m n (read n a Long) h
deferred_set m (Err e) a h = tt

located_same : (m : State) (b : Base) (size : Size) → SameBehind m (located m b size)
unfolding located SameBehind
located_same m (bases.Imm a) size = same m
located_same m (bases.Reg r) size = same m
located_same m (bases.Def r) size = same m
located_same m (bases.Inc r) size = behind_set m (register_set m r (add32 (reg m r) (bytes_of size))) (locations.Memory (reg m r)) (set_same m r (add32 (reg m r) (bytes_of size)))
located_same m (bases.IncDef r) size = deferred_set m (register_set m r (add32 (reg m r) 4)) (reg m r) (set_same m r (add32 (reg m r) 4))
located_same m (bases.Dec r) size = behind_set m (register_set m r (sub32 (reg m r) (bytes_of size))) (locations.Memory (sub32 (reg m r) (bytes_of size)))
    (set_same m r (sub32 (reg m r) (bytes_of size)))
located_same m (bases.Disp d r) size = same m
located_same m (bases.DispDef d r) size = deferred_by m m (read m (add32 (resolved m.layout d) (reg m r)) Long) (same m)
located_same m (bases.Abs n) size = same m
located_same m (bases.Rel a) size = same m
located_same m (bases.RelDef a) size = deferred_by m m (read m (resolved m.layout a) Long) (same m)

taken_by : (m n : State) (r : Result Evaluated Stop) → SameCode m n → SameBehind m (r >>= λ (e : Evaluated). Ok (e, n))
unfolding SameBehind
taken_by m n (Ok e) h = h
taken_by m n (Err e) h = tt

evaluated_by : (m : State) (l : Result (Location × State) Stop) (f : Location × State → Result Evaluated Stop) → SameBehind m l
    → SameBehind m (l >>= λ (x : Location × State). f x >>= λ (e : Evaluated). Ok (e, x.1))
unfolding SameBehind
evaluated_by m (Ok x) f h = taken_by m x.1 (f x) h
evaluated_by m (Err e) f h = tt

evaluated_same : (m : State) (k : OperandKind) (o : Operand) → SameBehind m (evaluated m k o)
unfolding evaluated
evaluated_same m k o = evaluated_by m (located m o.base k.size) (λ (x : Location × State). taken x.1 k.access (indexed x.1 x.0 o.index k.size) k.size) (located_same m o.base k.size)

others_by : (m n : State) (e : Evaluated) (r : Result (Arguments × State) Stop) → SameCode m n → SameBehind n r → SameBehind m (r >>= λ (y : Arguments × State). Ok (in_front e y.0, y.1))
unfolding SameBehind
others_by m n e (Ok y) h g = further m n y.1 h g
others_by m n e (Err x) h g = tt

all_by : (m : State) (r : Result (Evaluated × State) Stop) (f : State → Result (Arguments × State) Stop) → SameBehind m r → ((n : State) → SameBehind n (f n))
    → SameBehind m (r >>= λ (x : Evaluated × State). f x.1 >>= λ (y : Arguments × State). Ok (in_front x.0 y.0, y.1))
unfolding SameBehind
all_by m (Ok x) f h g = others_by m x.1 x.0 (f x.1) h (g x.1)
all_by m (Err e) f h g = tt

all_same : (ks : List OperandKind) (os : List Operand) (m : State) → SameBehind m (all_evaluated ks os m)
unfolding SameBehind
all_same [] os m = same m
all_same (k ∷ ks) [] m = tt
all_same (k ∷ ks) (o ∷ os) m = all_by m (evaluated m k o) (λ (n : State). all_evaluated ks os n) (evaluated_same m k o) (all_same ks os)

pub evaluated_keeps : (m n : State) (k : OperandKind) (o : Operand) (e : Evaluated) → evaluated m k o ≡ Ok (e, n) → SameCode m n
unfolding SameBehind
evaluated_keeps m n k o e h = subst (λ (r : Result (Evaluated × State) Stop). SameBehind m r) h (evaluated_same m k o)

pub all_keep : (m n : State) (ks : List OperandKind) (os : List Operand) (x : Arguments) → all_evaluated ks os m ≡ Ok (x, n) → SameCode m n
unfolding SameBehind
all_keep m n ks os x h = subst (λ (r : Result (Arguments × State) Stop). SameBehind m r) h (all_same ks os m)
