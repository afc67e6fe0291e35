-- Operands that are found the same are equal, and those that are equal are found the same.
use Rattle.std.proofs.Common.{◌≡◌, ◌↔◌, ℕ, Bool, true, eqb, ◌&&◌, List, [], ◌∷◌, Option, Some, None, refl, sym, ap, subst, ◌∙◌}
use Rattle.std.specs.Prelude.{IsTrue, slice_get}
use Rattle.std.specs.Cmp.Lexicographic.{same_text}
use Rattle.std.proofs.lemmas.Cmp.{nat_list_eq_equiv}
use Rattle.std.proofs.lemmas.Bool.{eqb-true, eq-eqb, and_parts}
use Rattle.std.proofs.lemmas.Option.{same_Some}
use Rattle.vax_core.specs.declared.register.Reg.{Reg}
use Rattle.vax_core.specs.declared.register.Reg.TheVariants.{R0}
use Rattle.vax_core.specs.declared.operand.Addr.{Addr}
use Rattle.vax_core.specs.declared.operand.Base.{Base}
use Rattle.vax_core.specs.declared.operand.Base.TheVariants as bases
use Rattle.vax_core.specs.declared.operand.Operand.{Operand}
use Rattle.vax_core.specs.declared.same.Mode.{Mode}
use Rattle.vax_core.specs.declared.same.Mode.TheVariants.{Immediate, Register, RegisterDeferred, Autoincrement, AutoincrementDeferred, Autodecrement, Displacement}
use Rattle.vax_core.specs.declared.same.Mode.TheVariants.{DisplacementDeferred, Absolute, Relative, RelativeDeferred}
use Rattle.vax_core.specs.Registers.{reg_number, base_register}
use Rattle.vax_core.specs.Same.{mode_number, mode_of, name_in, offset_in, same_name, same_register, same_base, same_operand}
use Rattle.vax_core.proofs.NumberLaws.{same_number}

abbrev modes : List Mode
modes = Immediate ∷ (Register ∷ (RegisterDeferred ∷ (Autoincrement ∷ (AutoincrementDeferred ∷
    (Autodecrement ∷ (Displacement ∷ (DisplacementDeferred ∷ (Absolute ∷ (Relative ∷ (RelativeDeferred ∷ []))))))))))

mode_again : (m : Mode) → slice_get modes (mode_number m) ≡ Some m
mode_again Immediate = refl
mode_again Register = refl
mode_again RegisterDeferred = refl
mode_again Autoincrement = refl
mode_again AutoincrementDeferred = refl
mode_again Autodecrement = refl
mode_again Displacement = refl
mode_again DisplacementDeferred = refl
mode_again Absolute = refl
mode_again Relative = refl
mode_again RelativeDeferred = refl

same_mode : (m n : Mode) → mode_number m ≡ mode_number n → m ≡ n
same_mode m n e = same_Some m n (sym (mode_again m) ∙ (ap (λ (k : ℕ). slice_get modes k) e ∙ mode_again n))

-- a base of its parts
abbrev the : Option Reg → Reg
the None = R0
the (Some r) = r

abbrev rebuilt : Mode → Reg → Addr → Base
rebuilt Immediate r a = bases.Imm a
rebuilt Register r a = bases.Reg r
rebuilt RegisterDeferred r a = bases.Def r
rebuilt Autoincrement r a = bases.Inc r
rebuilt AutoincrementDeferred r a = bases.IncDef r
rebuilt Autodecrement r a = bases.Dec r
rebuilt Displacement r a = bases.Disp a r
rebuilt DisplacementDeferred r a = bases.DispDef a r
rebuilt Absolute r a = bases.Abs a.offset
rebuilt Relative r a = bases.Rel a
rebuilt RelativeDeferred r a = bases.RelDef a

abbrev addr_of : Option (List ℕ) → ℕ → Addr
addr_of name offset = record { name = name; offset = offset }

abbrev of_parts : Mode → Option Reg → Option (List ℕ) → ℕ → Base
of_parts m r name offset = rebuilt m (the r) (addr_of name offset)

parts_again : (b : Base) → of_parts (mode_of b) (base_register b) (name_in b) (offset_in b) ≡ b
parts_again (bases.Imm a) = refl
parts_again (bases.Reg r) = refl
parts_again (bases.Def r) = refl
parts_again (bases.Inc r) = refl
parts_again (bases.IncDef r) = refl
parts_again (bases.Dec r) = refl
parts_again (bases.Disp a r) = refl
parts_again (bases.DispDef a r) = refl
parts_again (bases.Abs n) = refl
parts_again (bases.Rel a) = refl
parts_again (bases.RelDef a) = refl

-- tests

pair : {a b : Bool} → a ≡ true → b ≡ true → (a && b) ≡ true
pair e f = rw e f

name_equal : (a b : Option (List ℕ)) → same_name a b ≡ true → a ≡ b
name_equal None None e = refl
name_equal None (Some b) e = absurd (cc)
name_equal (Some a) None e = absurd (cc)
name_equal (Some a) (Some b) e = ap Some (same_text a b (sym e))

name_same : (a : Option (List ℕ)) → same_name a a ≡ true
name_same None = refl
name_same (Some a) = nat_list_eq_equiv.refl a

register_equal : (r s : Option Reg) → same_register r s ≡ true → r ≡ s
register_equal None None e = refl
register_equal None (Some s) e = absurd (cc)
register_equal (Some r) None e = absurd (cc)
register_equal (Some r) (Some s) e = ap Some (same_number r s (eqb-true (reg_number r) (reg_number s) e))

register_same : (r : Option Reg) → same_register r r ≡ true
register_same None = refl
register_same (Some r) = eq-eqb (reg_number r) (reg_number r) refl

base_equal : (a b : Base) → same_base a b ≡ true → a ≡ b
base_equal a b e =
    let h = and_parts _ _ e in
    let h1 = and_parts _ _ h.0 in
    let h2 = and_parts _ _ h1.0 in
    let m = same_mode (mode_of a) (mode_of b) (eqb-true _ _ h2.0) in
    let r = register_equal (base_register a) (base_register b) h2.1 in
    let n = name_equal (name_in a) (name_in b) h1.1 in
    let k = eqb-true (offset_in a) (offset_in b) h.1 in
    sym (parts_again a) ∙ (ap (λ (x : Mode). of_parts x (base_register a) (name_in a) (offset_in a)) m
    ∙ (ap (λ (x : Option Reg). of_parts (mode_of b) x (name_in a) (offset_in a)) r
    ∙ (ap (λ (x : Option (List ℕ)). of_parts (mode_of b) (base_register b) x (offset_in a)) n
    ∙ (ap (λ (x : ℕ). of_parts (mode_of b) (base_register b) (name_in b) x) k ∙ parts_again b))))

base_same : (b : Base) → same_base b b ≡ true
base_same b =
    let m : eqb (mode_number (mode_of b)) (mode_number (mode_of b)) ≡ true = eq-eqb _ _ refl in
    pair (pair (pair m (register_same (base_register b))) (name_same (name_in b))) (eq-eqb (offset_in b) (offset_in b) refl)

operand_equal : (o p : Operand) → same_operand o p ≡ true → o ≡ p
operand_equal o p e =
    let h = and_parts _ _ e in
    ap (λ (b : Base). record { base = b; index = o.index }) (base_equal o.base p.base h.0)
    ∙ ap (λ (x : Option Reg). record { base = p.base; index = x }) (register_equal o.index p.index h.1)

operand_same : (o : Operand) → same_operand o o ≡ true
operand_same o = pair (base_same o.base) (register_same o.index)

pub operand_is : (o p : Operand) → IsTrue (same_operand o p) ↔ (o ≡ p)
operand_is o p = (λ t. operand_equal o p t, λ e. subst (λ (q : Operand). same_operand o q ≡ true) e (operand_same o))
