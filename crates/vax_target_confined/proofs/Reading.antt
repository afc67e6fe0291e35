-- What operands read and name, the confined machine finds.
use Rattle.std.proofs.Common.{◌≡◌, ℕ, zero, suc, ◌+◌, ◌-◌, ◌*◌, ◌^◌, ◌<◌, Bool, true, false, cond, List, Option, Some, None, Result, Ok, Err, refl, sym, ap, ◌∙◌, arith}
use Rattle.std.specs.Prelude.{nat_lt, nat_le, ◌%◌, ◌==◌, ◌&&◌, ◌||◌, is_none, is_some}
use Rattle.std.specs.Option.{option_map, option_and_then}
use Rattle.std.proofs.lemmas.Bool.{le-leb, and_from}
use Rattle.std.proofs.lemmas.Option.{none-some, same_Some, cond_some}
use Rattle.vax_target_meaning.specs.vax_templates.specs.gg_base.specs.declared.limits.TheConstants.{AREA_START}
use Rattle.vax_target_meaning.specs.vax_templates.specs.gg_base.specs.declared.size.Size.{Size}
use Rattle.vax_target_meaning.specs.vax_templates.specs.gg_base.specs.declared.size.Size.TheVariants.{Long}
use Rattle.vax_target_meaning.specs.vax_templates.specs.gg_base.specs.Sizes.{low}
use Rattle.vax_target_meaning.specs.vax_templates.specs.gg_base.specs.Arithmetic.{neg32}
use Rattle.vax_target_meaning.specs.vax_templates.specs.gg_base.specs.LittleEndian.{number_in}
use Rattle.vax_target_meaning.specs.vax_templates.specs.gg_base.proofs.Facts.{is_zero}
use Rattle.vax_target_meaning.specs.vax_templates.specs.gg_base.proofs.Words.{neg_twice}
use Rattle.vax_target_meaning.specs.tree_core.specs.Area as trees
use Rattle.vax_target_meaning.specs.vax_templates.specs.vax_core.specs.declared.register.Reg.{Reg}
use Rattle.vax_target_meaning.specs.vax_templates.specs.vax_core.specs.declared.register.Reg.TheVariants.{R0, R1, R2, R3, R4, R5, R6, R7, R8, R9, R10, R11, Ap, Fp, Sp}
use Rattle.vax_target_meaning.specs.vax_templates.specs.vax_core.specs.declared.operand.Addr.{Addr}
use Rattle.vax_target_meaning.specs.vax_templates.specs.vax_core.specs.declared.operand.Base.{Base}
use Rattle.vax_target_meaning.specs.vax_templates.specs.vax_core.specs.declared.operand.Base.TheVariants as bases
use Rattle.vax_target_meaning.specs.vax_templates.specs.vax_core.specs.declared.operand.Operand.{Operand}
use Rattle.vax_target_meaning.specs.vax_templates.specs.vax_core.specs.Registers.{reg_number}
use Rattle.vax_target_meaning.specs.vax_templates.specs.vax_core.specs.Homes.{home, argument_home}
use Rattle.vax_target_meaning.specs.vax_machine.specs.declared.turn.Stop.{Stop}
use Rattle.vax_target_meaning.specs.vax_machine.specs.declared.operands.Location.{Location}
use Rattle.vax_target_meaning.specs.vax_machine.specs.declared.operands.Location.TheVariants as locations
use Rattle.vax_target_meaning.specs.vax_machine.specs.State.{State, reg, access, ◌>>=◌}
use Rattle.vax_target_meaning.specs.vax_machine.specs.Area.{resolved}
use Rattle.vax_target_meaning.specs.vax_machine.specs.Memory.{read}
use Rattle.vax_target_meaning.specs.vax_machine.specs.Operands.{located, indexed, deferred}
use Rattle.vax_target_meaning.specs.vax_templates.specs.FrameWords.{word_with_name}
use Rattle.vax_target_meaning.specs.vax_templates.specs.Filled.{alone, numbered}
use Rattle.vax_target_meaning.specs.Reading as reading
use Rattle.vax_confined.specs.Confined as confined
use Rattle.vax_confined.specs.Confined.{in_area, found}
use Rattle.vax_confined.proofs.Touching.{data_read}
use Rattle.vax_target_confined.specs.Claims.{StandsAt, ReadsAt, ReadingsAreConfined}

-- ---- the same places are an operand's own

some_cond : (b : Bool) (k : ℕ) → is_some (cond b (Some k) None) ≡ b
some_cond true k = refl
some_cond false k = refl

word_same : (name : Option (List ℕ)) (offset : ℕ)
    → is_some (word_with_name name offset) ≡ (is_none name && (nat_le 4 (neg32 offset) && (nat_le (neg32 offset) 4096 && (neg32 offset % 4 == 0))))
word_same None offset = some_cond (nat_le 4 (neg32 offset) && (nat_le (neg32 offset) 4096 && (neg32 offset % 4 == 0))) _
word_same (Some name) offset = refl

argument_same : (name : Option (List ℕ)) (offset : ℕ) → reading.is_argument name offset ≡ (is_none name && (nat_le 4 offset && (nat_le offset 1020 && (offset % 4 == 0))))
argument_same None offset = refl
argument_same (Some name) offset = refl

own_same : (r : Reg) (a : Addr) → reading.is_own r a ≡ confined.is_own r a
own_same Fp a = word_same a.name a.offset
own_same Ap a = argument_same a.name a.offset
own_same Sp a = refl
own_same R0 a = refl
own_same R1 a = refl
own_same R2 a = refl
own_same R3 a = refl
own_same R4 a = refl
own_same R5 a = refl
own_same R6 a = refl
own_same R7 a = refl
own_same R8 a = refl
own_same R9 a = refl
own_same R10 a = refl
own_same R11 a = refl

base_same : (b : Base) → reading.is_own_base b ≡ confined.is_own_base b
base_same (bases.Imm a) = refl
base_same (bases.Reg r) = refl
base_same (bases.Def r) = refl
base_same (bases.Inc r) = refl
base_same (bases.IncDef r) = refl
base_same (bases.Dec r) = refl
base_same (bases.Disp a r) = own_same r a
base_same (bases.DispDef a r) = refl
base_same (bases.Abs n) = refl
base_same (bases.Rel a) = refl
base_same (bases.RelDef a) = refl

place_same : (o : Operand) → reading.is_own_place o ≡ confined.is_own_place o
place_same o = ap (λ (b : Bool). is_none o.index && b) (base_same o.base)

-- ---- options

pub mapped : {X Y : Type 0} (f : X → Y) (o : Option X) (y : Y) → option_map f o ≡ Some y → (x : X) × (o ≡ Some x) × (f x ≡ y)
mapped f None y e = absurd (none-some y e)
mapped f (Some x) y e = (x, refl, same_Some (f x) y e)

pub then_some : {X Y : Type 0} (f : X → Option Y) (o : Option X) (y : Y) → option_and_then f o ≡ Some y → (x : X) × (o ≡ Some x) × (f x ≡ Some y)
then_some f None y e = absurd (none-some y e)
then_some f (Some x) y e = (x, refl, e)

pub longword_is : (n a : ℕ) → reading.longword n ≡ Some a → n ≡ a
longword_is n a e = (cond_some (nat_lt n (2 ^ 32)) n a e).1

-- ---- memory

number_is : (r : Result ℕ Stop) (x : ℕ) → reading.number_of r ≡ Some x → r ≡ Ok x
number_is (Ok n) x e = ap (λ (k : ℕ). Ok k) (same_Some n x e)
number_is (Err s) x e = absurd (none-some x e)

-- a number that an operand reads may be touched, and stands there
number_read : (b : Bool) (m : State) (a : ℕ) (size : Size) (x : ℕ) → reading.number_at b m a size ≡ Some x → ((b || in_area m a size) ≡ true) × (read m a size ≡ Ok x)
number_read true m a size x e = (refl, number_is (read m a size) x e)
number_read false m a size x e =
    let r = cond_some (trees.is_inside size m.area a) (number_in size m.area (a - AREA_START)) x e in
    (r.0, data_read m a size r.0 ∙ ap (λ (n : ℕ). Ok n) r.1)

deferred_is : (m : State) (a x : ℕ) → read m a Long ≡ Ok x → deferred m a ≡ Ok (locations.Memory x, m)
deferred_is m a x e = ap (λ (r : Result ℕ Stop). r >>= λ (n : ℕ). Ok (locations.Memory n, m)) e

-- ---- operands

pub named_found : (m : State) (b : Base) (size : Size) (a : ℕ) → reading.named m b ≡ Some a → found m b size ≡ Ok (locations.Memory a, m)
unfolding located
named_found m (bases.Imm d) size a e = absurd (none-some a e)
named_found m (bases.Reg r) size a e = absurd (none-some a e)
named_found m (bases.Def r) size a e = ap (λ (n : ℕ). Ok (locations.Memory n, m)) (same_Some (reg m r) a e)
named_found m (bases.Inc r) size a e = absurd (none-some a e)
named_found m (bases.IncDef r) size a e = absurd (none-some a e)
named_found m (bases.Dec r) size a e = absurd (none-some a e)
named_found m (bases.Disp d r) size a e = ap (λ (n : ℕ). Ok (locations.Memory n, m)) (same_Some (reading.displaced m r d) a e)
named_found m (bases.DispDef d r) size a e =
    let n = number_read (reading.is_own r d) m (reading.displaced m r d) Long a e in
    ap (λ (b : Bool). cond b (deferred m (reading.displaced m r d)) (Err access)) (sym (ap (λ (b : Bool). b || in_area m (reading.displaced m r d) Long) (own_same r d)) ∙ n.0)
    ∙ deferred_is m (reading.displaced m r d) a n.1
named_found m (bases.Abs n) size a e = ap (λ (k : ℕ). Ok (locations.Memory k, m)) (longword_is n a e)
named_found m (bases.Rel d) size a e = ap (λ (k : ℕ). Ok (locations.Memory k, m)) (longword_is (resolved m.layout d) a e)
named_found m (bases.RelDef d) size a e =
    let n = number_read false m (resolved m.layout d) Long a e in
    ap (λ (b : Bool). cond b (deferred m (resolved m.layout d)) (Err access)) n.0 ∙ deferred_is m (resolved m.layout d) a n.1

moved_so : (m : State) (index : Option Reg) (size : Size) (a : ℕ) → indexed m (locations.Memory a) index size ≡ locations.Memory (reading.moved m index size a)
moved_so m None size a = refl
moved_so m (Some x) size a = refl

pub names_stand : (o : Operand) (size : Size) (m : State) (a : ℕ) → reading.names o size m ≡ Some a → StandsAt m o size (locations.Memory a)
names_stand o size m a e =
    let r = mapped (reading.moved m o.index size) (reading.named m o.base) a e in
    record {
      base = locations.Memory r.0;
      finds = named_found m o.base size r.0 r.1;
      is = moved_so m o.index size r.0 ∙ ap locations.Memory r.2;
    }

in_memory_stands : (o : Operand) (size : Size) (m : State) (x : ℕ) → reading.in_memory o size m ≡ Some x → ReadsAt m o size x
in_memory_stands o size m x e =
    let r = then_some (reading.at_place o size m) (reading.names o size m) x e in
    let n = number_read (reading.is_own_place o) m r.0 size x r.2 in
    record {
      place = locations.Memory r.0;
      at = names_stand o size m r.0 r.1;
      reads_so = record { may = sym (ap (λ (b : Bool). b || in_area m r.0 size) (place_same o)) ∙ n.0; holds = n.1 };
    }

number_stays : (m : State) (n : ℕ) (index : Option Reg) (size : Size) → indexed m (locations.Number n) index size ≡ locations.Number n
number_stays m n None size = refl
number_stays m n (Some x) size = refl

register_stays : (m : State) (r : Reg) (index : Option Reg) (size : Size) → indexed m (locations.Register r) index size ≡ locations.Register r
register_stays m r None size = refl
register_stays m r (Some x) size = refl

pub imm_found : (m : State) (d : Addr) (size : Size) → found m (bases.Imm d) size ≡ Ok (locations.Number (resolved m.layout d), m)
unfolding located
imm_found m d size = refl

pub reg_found : (m : State) (r : Reg) (size : Size) → nat_lt (reg_number r) 12 ≡ true → found m (bases.Reg r) size ≡ Ok (locations.Register r, m)
unfolding located
reg_found m r size lt = ap (λ (b : Bool). cond b (Ok (locations.Register r, m)) (Err access)) lt

pub reads_stand : (o : Operand) (size : Size) (m : State) (x : ℕ) → reading.reads o size m ≡ Some x → ReadsAt m o size x
reads_stand o size m x e = by o.base refl e
  where
    at_base : (b : Base) (l : Location) → o.base ≡ b → found m b size ≡ Ok (l, m) → found m o.base size ≡ Ok (l, m)
    at_base b l is h = ap (λ (y : Base). found m y size) is ∙ h

    by : (b : Base) → o.base ≡ b → reading.reads_by b o size m ≡ Some x → ReadsAt m o size x
    by (bases.Imm d) is h =
        let r = mapped (low size) (reading.longword (resolved m.layout d)) x h in
        record {
          place = locations.Number (resolved m.layout d);
          at = record { base = locations.Number (resolved m.layout d); finds = at_base (bases.Imm d) _ is (imm_found m d size); is = number_stays m (resolved m.layout d) o.index size };
          reads_so = record { may = refl; holds = ap (λ (n : ℕ). Ok (low size n)) (longword_is (resolved m.layout d) r.0 r.1) ∙ ap (λ (n : ℕ). Ok n) r.2 };
        }
    by (bases.Reg r) is h =
        let n = cond_some (nat_lt (reg_number r) 12) (low size (reg m r)) x h in
        record {
          place = locations.Register r;
          at = record { base = locations.Register r; finds = at_base (bases.Reg r) _ is (reg_found m r size n.0); is = register_stays m r o.index size };
          reads_so = record { may = refl; holds = ap (λ (n : ℕ). Ok n) n.1 };
        }
    by (bases.Def r) is h = in_memory_stands o size m x h
    by (bases.Inc r) is h = in_memory_stands o size m x h
    by (bases.IncDef r) is h = in_memory_stands o size m x h
    by (bases.Dec r) is h = in_memory_stands o size m x h
    by (bases.Disp d r) is h = in_memory_stands o size m x h
    by (bases.DispDef d r) is h = in_memory_stands o size m x h
    by (bases.Abs n) is h = in_memory_stands o size m x h
    by (bases.Rel d) is h = in_memory_stands o size m x h
    by (bases.RelDef d) is h = in_memory_stands o size m x h

-- ---- registers, words and arguments

-- a register with a number below 12 is none of ap, fp and sp
pub numbered_low : (n : ℕ) → n < 12 → nat_lt (reg_number (numbered n)) 12 ≡ true
numbered_low zero lt = refl
numbered_low (suc zero) lt = refl
numbered_low (suc (suc zero)) lt = refl
numbered_low (suc (suc (suc zero))) lt = refl
numbered_low (suc (suc (suc (suc zero)))) lt = refl
numbered_low (suc (suc (suc (suc (suc zero))))) lt = refl
numbered_low (suc (suc (suc (suc (suc (suc zero)))))) lt = refl
numbered_low (suc (suc (suc (suc (suc (suc (suc zero))))))) lt = refl
numbered_low (suc (suc (suc (suc (suc (suc (suc (suc zero)))))))) lt = refl
numbered_low (suc (suc (suc (suc (suc (suc (suc (suc (suc zero))))))))) lt = refl
numbered_low (suc (suc (suc (suc (suc (suc (suc (suc (suc (suc zero)))))))))) lt = refl
numbered_low (suc (suc (suc (suc (suc (suc (suc (suc (suc (suc (suc zero))))))))))) lt = refl
numbered_low (suc (suc (suc (suc (suc (suc (suc (suc (suc (suc (suc (suc n)))))))))))) lt = absurd (omega (arith, lt))

pub register_reads : (n : ℕ) → n < 12 → (size : Size) (m : State) → reading.reads (alone (bases.Reg (numbered n))) size m ≡ Some (low size (reg m (numbered n)))
register_reads n lt size m = ap (λ (b : Bool). cond b (Some (low size (reg m (numbered n)))) None) (numbered_low n lt)

pub home_is_own : (k : ℕ) → k < 1024 → confined.is_own_place (home k) ≡ true
home_is_own k lt =
    ap (λ (n : ℕ). nat_le 4 n && (nat_le n 4096 && (n % 4 == 0))) (neg_twice (4 * (k + 1)) (omega (arith, lt)))
    ∙ and_from (nat_le 4 (4 * (k + 1))) (nat_le (4 * (k + 1)) 4096 && (4 * (k + 1) % 4 == 0)) (le-leb 4 (4 * (k + 1)) (omega arith))
    (and_from (nat_le (4 * (k + 1)) 4096) (4 * (k + 1) % 4 == 0) (le-leb (4 * (k + 1)) 4096 (omega (arith, lt))) (is_zero (4 * (k + 1) % 4) (omega arith)))

pub argument_is_own : (i : ℕ) → i < 255 → confined.is_own_place (argument_home (i + 1)) ≡ true
argument_is_own i lt =
    and_from (nat_le 4 (4 * (i + 1))) (nat_le (4 * (i + 1)) 1020 && (4 * (i + 1) % 4 == 0)) (le-leb 4 (4 * (i + 1)) (omega arith))
    (and_from (nat_le (4 * (i + 1)) 1020) (4 * (i + 1) % 4 == 0) (le-leb (4 * (i + 1)) 1020 (omega (arith, lt))) (is_zero (4 * (i + 1) % 4) (omega arith)))

-- a place of its own may be touched
pub own_touched : (m : State) (own : Bool) (l : Location) (size : Size) → own ≡ true → confined.may_touch m own l size ≡ true
own_touched m own (locations.Memory a) size e = ap (λ (b : Bool). b || in_area m a size) e
own_touched m own (locations.Register r) size e = refl
own_touched m own (locations.Number n) size e = refl

pub readings_are_confined : ReadingsAreConfined
readings_are_confined = record { named = names_stand; read = reads_stand }
