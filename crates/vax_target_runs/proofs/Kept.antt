-- What a change of registers and condition codes leaves as it was.
use Rattle.std.proofs.Common.{◌≡◌, ℕ, ◌+◌, ◌<◌, ◌≤◌, ◌==◌, Bool, true, false, cond, List, [], ◌∷◌, Option, Some, None, refl, sym, ap, subst, ◌∙◌, arith, eq-eqb}
use Rattle.std.specs.Prelude.{nat_lt, ◌||◌, ◌&&◌, length}
use Rattle.std.specs.Int.{bit_at}
use Rattle.std.specs.Option.{option_map, option_and_then}
use Rattle.std.proofs.lemmas.Bool.{lt-ltb, or_right}
use Rattle.gg_base.specs.declared.size.Size.{Size}
use Rattle.gg_base.specs.declared.size.Size.TheVariants.{Long}
use Rattle.gg_base.specs.Sizes.{bytes_of, low}
use Rattle.gg_base.specs.Arithmetic.{add32, mul32}
use Rattle.gg_base.specs.Numbers.{truth}
use Rattle.vax_target_lines.specs.tree_core.specs.declared.program.TreeProgram.{TreeProgram}
use Rattle.vax_target_lines.specs.tree_meaning.specs.State.{State as Trees, Extent}
use Rattle.vax_target_lines.specs.sel_target.specs.Meaning.{Spot, RegAt}
use Rattle.vax_target_lines.specs.sel_target.specs.Outcomes.{Untouched, Keeps}
use Rattle.vax_core.specs.declared.register.Reg.{Reg}
use Rattle.vax_core.specs.declared.register.Reg.TheVariants.{Fp, Ap, Sp}
use Rattle.vax_core.specs.declared.operand.Base.{Base}
use Rattle.vax_core.specs.declared.operand.Base.TheVariants as bases
use Rattle.vax_core.specs.declared.operand.Operand.{Operand}
use Rattle.vax_core.specs.Registers.{reg_number, base_register, is_named, operand_names, operand_bits}
use Rattle.vax_core.proofs.RegisterLaws.{operand_named}
use Rattle.vax_target_lines.specs.vax_machine.specs.declared.function.Conditions.{Conditions}
use Rattle.vax_target_lines.specs.vax_machine.specs.State.{State, reg}
use Rattle.vax_target_lines.specs.vax_machine.specs.Area.{resolved}
use Rattle.vax_target_lines.specs.vax_machine.specs.Memory.{read, touched}
use Rattle.vax_target_lines.specs.vax_states.specs.Stack.{long_at}
use Rattle.vax_target_lines.specs.vax_states.specs.Agreeing.{HasRoom}
use Rattle.vax_target_lines.specs.vax_states.proofs.Standing.{kept}
use Rattle.vax_target_lines.specs.vax_target_meaning.specs.Reading.{is_own, is_own_place, number_of, number_at, displaced, named, moved, names, at_place, in_memory, reads_by, reads}
use Rattle.vax_target_lines.specs.vax_target_meaning.specs.Vax.{vax, stands}
use Rattle.vax_target_runs.specs.Kept.{Differs, RegistersAreKept, CodesAreKept}

module _ (m : State) (rs : List ℕ) (k : Conditions) where
  abbrev pub other : State
  other = record m { registers = rs; conditions = k }

  read_same : (a : ℕ) (size : Size) → read other a size ≡ read m a size
  unfolding read touched
  read_same a size = refl

  number_same : (b : Bool) (a : ℕ) (size : Size) → number_at b other a size ≡ number_at b m a size
  number_same true a size = ap number_of (read_same a size)
  number_same false a size = refl

  -- the registers that an operand names are the same
  abbrev pub SameIn : Option Reg → Type 0
  SameIn o = (r : Reg) → o ≡ Some r → reg other r ≡ reg m r

  named_kept : (b : Base) → SameIn (base_register b) → named other b ≡ named m b
  named_kept (bases.Imm a) h = refl
  named_kept (bases.Reg r) h = refl
  named_kept (bases.Def r) h = ap (λ (x : ℕ). Some x) (h r refl)
  named_kept (bases.Inc r) h = refl
  named_kept (bases.IncDef r) h = refl
  named_kept (bases.Dec r) h = refl
  named_kept (bases.Disp a r) h = ap (λ (x : ℕ). Some (add32 (resolved m.layout a) x)) (h r refl)
  named_kept (bases.DispDef a r) h =
      number_same (is_own r a) (displaced other r a) Long ∙ ap (λ x. number_at (is_own r a) m (add32 (resolved m.layout a) x) Long) (h r refl)
  named_kept (bases.Abs n) h = refl
  named_kept (bases.Rel a) h = refl
  named_kept (bases.RelDef a) h = refl

  moved_kept : (index : Option Reg) (size : Size) (a : ℕ) → SameIn index → moved other index size a ≡ moved m index size a
  moved_kept None size a h = refl
  moved_kept (Some x) size a h = ap (λ y. add32 a (mul32 y (bytes_of size))) (h x refl)

  map_kept : (f g : ℕ → ℕ) (o : Option ℕ) → ((x : ℕ) → f x ≡ g x) → option_map f o ≡ option_map g o
  map_kept f g None h = refl
  map_kept f g (Some x) h = ap (λ (y : ℕ). Some y) (h x)

  pub names_kept : (o : Operand) (size : Size) → SameIn (base_register o.base) → SameIn o.index → names o size other ≡ names o size m
  names_kept o size b i =
      ap (λ x. option_map (moved other o.index size) x) (named_kept o.base b)
      ∙ map_kept (moved other o.index size) (moved m o.index size) (named m o.base) (λ a. moved_kept o.index size a i)

  then_kept : (f g : ℕ → Option ℕ) (o : Option ℕ) → ((x : ℕ) → f x ≡ g x) → option_and_then f o ≡ option_and_then g o
  then_kept f g None h = refl
  then_kept f g (Some x) h = h x

  memory_kept : (o : Operand) (size : Size) → SameIn (base_register o.base) → SameIn o.index → in_memory o size other ≡ in_memory o size m
  memory_kept o size b i =
      ap (λ x. option_and_then (at_place o size other) x) (names_kept o size b i)
      ∙ then_kept (at_place o size other) (at_place o size m) (names o size m) (λ a. number_same (is_own_place o) a size)

  pub reads_kept : (o : Operand) (size : Size) → SameIn (base_register o.base) → SameIn o.index → reads o size other ≡ reads o size m
  reads_kept o size b i = by o.base refl where
    by : (x : Base) → o.base ≡ x → reads_by x o size other ≡ reads_by x o size m
    by (bases.Imm a) is = refl
    by (bases.Reg r) is = ap (λ (x : ℕ). cond (nat_lt (reg_number r) 12) (Some (low size x)) None) (b r (ap base_register is))
    by (bases.Def r) is = memory_kept o size b i
    by (bases.Inc r) is = memory_kept o size b i
    by (bases.IncDef r) is = memory_kept o size b i
    by (bases.Dec r) is = memory_kept o size b i
    by (bases.Disp a r) is = memory_kept o size b i
    by (bases.DispDef a r) is = memory_kept o size b i
    by (bases.Abs n) is = memory_kept o size b i
    by (bases.Rel a) is = memory_kept o size b i
    by (bases.RelDef a) is = memory_kept o size b i

-- ---- registers that an operand spells

named_true : (r : Reg) (n : ℕ) → n < 12 → reg_number r ≡ n → is_named (Some r) n ≡ true
named_true r n lt e = ap (λ b. b && nat_lt n 12) (eq-eqb (reg_number r) n e) ∙ lt-ltb n 12 lt

names_both : (o : Operand) (n : ℕ) (r : Reg) → n < 12 → reg_number r ≡ n → (bit_at (operand_bits o) n == 1) ≡ false → operand_names o n ≡ true → ⊥
names_both o n r lt e off on =
    let is : bit_at (operand_bits o) n ≡ 1 = operand_named o n ∙ ap truth on in
    let same : true ≡ false = sym (eq-eqb (bit_at (operand_bits o) n) 1 is) ∙ off in
    cc

pub base_untouched : (o : Operand) (n : ℕ) (r : Reg) → n < 12 → (bit_at (operand_bits o) n == 1) ≡ false → base_register o.base ≡ Some r → reg_number r ≡ n → ⊥
base_untouched o n r lt off is e =
    names_both o n r lt e off (ap (λ b. b || is_named o.index n) (ap (λ x. is_named x n) is ∙ named_true r n lt e))

pub index_untouched : (o : Operand) (n : ℕ) (r : Reg) → n < 12 → (bit_at (operand_bits o) n == 1) ≡ false → o.index ≡ Some r → reg_number r ≡ n → ⊥
index_untouched o n r lt off is e =
    names_both o n r lt e off (or_right (is_named (base_register o.base) n) (is_named o.index n) (ap (λ x. is_named x n) is ∙ named_true r n lt e))

-- ---- two states that differ

module _ (changed : ℕ → Type 0) (m n : State) (d : Differs changed m n) where
  -- an operand that spells no register that may have changed
  pub record Away (o : Operand) : Type 0 where
    pub base : (r : Reg) → base_register o.base ≡ Some r → changed (reg_number r) → ⊥
    pub index : (r : Reg) → o.index ≡ Some r → changed (reg_number r) → ⊥

  pub reads_same : (o : Operand) (size : Size) → Away o → reads o size n ≡ reads o size m
  reads_same o size a =
      ap (reads o size) d.is
      ∙ reads_kept m d.registers d.conditions o size (λ r is. d.others (reg_number r) (a.base r is)) (λ r is. d.others (reg_number r) (a.index r is))

  pub names_same : (o : Operand) (size : Size) → Away o → names o size n ≡ names o size m
  names_same o size a =
      ap (names o size) d.is
      ∙ names_kept m d.registers d.conditions o size (λ r is. d.others (reg_number r) (a.base r is)) (λ r is. d.others (reg_number r) (a.index r is))

  pub named_same : (o : Operand) → Away o → named n o.base ≡ named m o.base
  named_same o a = ap (λ x. named x o.base) d.is ∙ named_kept m d.registers d.conditions o.base (λ r is. d.others (reg_number r) (a.base r is))

  pub register_same : (r : Reg) → (changed (reg_number r) → ⊥) → reg n r ≡ reg m r
  register_same r a = ap (λ x. reg x r) d.is ∙ d.others (reg_number r) a

  abbrev Low : Type 0
  Low = (r : ℕ) → 12 ≤ r → changed r → ⊥

  pub agrees_same : (q : TreeProgram) (f : Extent) (fs : List Extent) (t : Trees) → Low → stands q f fs t m → stands q f fs t n
  agrees_same q f fs t far h =
      kept q.objects _ _ t m h n d.sound (ap (λ x. x.layout) d.is) (ap (λ x. x.area) d.is) (ap (λ x. x.input) d.is) (ap (λ x. x.frames) d.is)
      (register_same Fp (far 13 (omega arith))) (register_same Ap (far 12 (omega arith))) (register_same Sp (far 14 (omega arith)))
      (λ a from. ap (λ x. long_at x.stack a) d.is)

  pub room_same : Low → HasRoom m → HasRoom n
  room_same far h = record {
    space = subst (λ x. 2139095040 + 128 ≤ x) (sym (register_same Sp (far 14 (omega arith)))) h.space;
    frame = subst (λ x. length x < 4096) (sym (ap (λ x. x.frames) d.is)) h.frame;
  }

  keeps_if : (spots : List Spot) → Low → ((o : Operand) → Untouched vax spots o → Away o) → Keeps vax spots m n
  keeps_if spots far away = record {
    reads = λ o size x off e. reads_same o size (away o off) ∙ e;
    names = λ o size x off e. names_same o size (away o off) ∙ e;
    agrees = λ q f fs t free h. agrees_same q f fs t far h;
    room = room_same far;
    live = ap (λ x. x.frames) d.is;
  }

pub registers_are_kept : RegistersAreKept
registers_are_kept r m n lt d =
    keeps_if (λ x. x ≡ r) m n d (RegAt r ∷ []) (λ x le e. omega (arith, le, e, lt))
    (λ o off. record { base = λ s is e. base_untouched o r s lt off.0 is e; index = λ s is e. index_untouched o r s lt off.0 is e })

pub codes_are_kept : CodesAreKept
codes_are_kept m n d = keeps_if (λ x. ⊥) m n d [] (λ x le e. e) (λ o off. record { base = λ s is e. e; index = λ s is e. e })
