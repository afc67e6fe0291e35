-- The home that is found first is the one whose register takes a word's place, and what a base becomes.
use Rattle.std.proofs.Common.{◌≡◌, Bool, true, false, cond, List, [], ◌∷◌, Option, None, Some, refl, sym, ap, ◌∙◌}
use Rattle.std.specs.List.{find}
use Rattle.std.specs.Option.{option_map}
use Rattle.vax_core.specs.declared.register.Reg.{Reg}
use Rattle.vax_core.specs.declared.operand.Addr.{Addr}
use Rattle.vax_core.specs.declared.operand.Base.{Base}
use Rattle.vax_core.specs.declared.operand.Base.TheVariants as bases
use Rattle.vax_homes.specs.declared.choose.Home.{Home}
use Rattle.vax_homes.specs.Choosing.{is_home_at}
use Rattle.vax_homes.specs.Homing.{register_at, home_at, held_by, pointed_by, homed_base}

abbrev pub is_at : Addr → Home → Bool
is_at a h = is_home_at h.local a

abbrev pub register_of : Home → Reg
register_of h = h.register

by : (a : Addr) (h : Home) (hs : List Home) → option_map register_of (find (is_at a) hs) ≡ register_at hs a → (b : Bool)
    → option_map register_of (cond b (Some h) (find (is_at a) hs)) ≡ cond b (Some h.register) (register_at hs a)
by a h hs e true = refl
by a h hs e false = e

pub found_register : (a : Addr) (hs : List Home) → option_map register_of (find (is_at a) hs) ≡ register_at hs a
found_register a [] = refl
found_register a (h ∷ hs) = by a h hs (found_register a hs) (is_home_at h.local a)

pub none_at : (a : Addr) (hs : List Home) → find (is_at a) hs ≡ None → register_at hs a ≡ None
none_at a hs e = sym (found_register a hs) ∙ ap (option_map register_of) e

pub some_at : (a : Addr) (hs : List Home) (h : Home) → find (is_at a) hs ≡ Some h → register_at hs a ≡ Some h.register
some_at a hs h e = sym (found_register a hs) ∙ ap (option_map register_of) e

-- ---- what a base becomes

pub held_is : (hs : List Home) (b : Base) (a : Addr) (r q : Reg) → b ≡ bases.Disp a r → home_at hs r a ≡ Some q → homed_base hs b ≡ bases.Reg q
held_is hs b a r q is e = ap (homed_base hs) is ∙ ap (λ (o : Option Reg). held_by o (bases.Disp a r)) e

pub held_stays : (hs : List Home) (b : Base) (a : Addr) (r : Reg) → b ≡ bases.Disp a r → home_at hs r a ≡ None → homed_base hs b ≡ b
held_stays hs b a r is e = ap (homed_base hs) is ∙ ap (λ (o : Option Reg). held_by o (bases.Disp a r)) e ∙ sym is

pub pointed_is : (hs : List Home) (b : Base) (a : Addr) (r q : Reg) → b ≡ bases.DispDef a r → home_at hs r a ≡ Some q → homed_base hs b ≡ bases.Def q
pointed_is hs b a r q is e = ap (homed_base hs) is ∙ ap (λ (o : Option Reg). pointed_by o (bases.DispDef a r)) e

pub pointed_stays : (hs : List Home) (b : Base) (a : Addr) (r : Reg) → b ≡ bases.DispDef a r → home_at hs r a ≡ None → homed_base hs b ≡ b
pointed_stays hs b a r is e = ap (homed_base hs) is ∙ ap (λ (o : Option Reg). pointed_by o (bases.DispDef a r)) e ∙ sym is

pub ruleset bases_become = (held_is, held_stays, pointed_is, pointed_stays)
