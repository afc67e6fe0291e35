-- What an instruction takes of all its operands on the machine is what their terms say.
use Rattle.std.proofs.Common.{◌≡◌, ℕ, zero, suc, ◌≤◌, Bool, true, false, not, ◌||◌, Option, Some, None, Result, Ok, List, [], ◌∷◌, ◌++◌, map, take, length, refl, sym, ap, subst, ◌∙◌, arith}
use Rattle.std.specs.List.{AllByRecursion, list_all}
use Rattle.gg_base.proofs.Facts.{err_ok, ok_same, first_true, second_true, first_false, second_false}
use Rattle.l32_target_operands.specs.judging_laws.specs.term_core.specs.Shape.{Shape}
use Rattle.l32_target_operands.specs.judging_laws.specs.vax_templates.specs.Standing.{Where, ◌>>=◌}
use Rattle.l32_target_operands.specs.judging_laws.specs.vax_templates.specs.Targets.{Target}
use Rattle.l32_target_operands.specs.judging_laws.specs.vax_templates.specs.Taking.{Taken, Arguments, no_arguments}
use Rattle.l32_target_operands.specs.judging_laws.proofs.Binds.{chained}
use Rattle.l32_target_operands.specs.l32_templates.specs.l32_core.specs.declared.op.Role.{Role}
use Rattle.l32_target_operands.specs.l32_templates.specs.l32_core.specs.declared.op.Role.TheVariants as roles
use Rattle.l32_target_operands.specs.l32_templates.specs.l32_core.specs.declared.op.Part.{Part}
use Rattle.l32_target_operands.specs.l32_templates.specs.l32_core.specs.declared.op.Part.TheVariants as parts
use Rattle.l32_target_operands.specs.l32_templates.specs.l32_machine.specs.declared.turn.Stop32.{Stop32}
use Rattle.l32_target_operands.specs.l32_templates.specs.l32_machine.specs.declared.operands.Evaluated.{Evaluated}
use Rattle.l32_target_operands.specs.l32_templates.specs.l32_machine.specs.declared.operands.Evaluated.TheVariants as evaluations
use Rattle.l32_target_operands.specs.l32_templates.specs.l32_machine.specs.declared.operands.Arguments.{Arguments as Numbers}
use Rattle.l32_target_operands.specs.l32_templates.specs.l32_machine.specs.State.{State}
use Rattle.l32_target_operands.specs.l32_templates.specs.l32_machine.specs.State as state
use Rattle.l32_target_operands.specs.l32_templates.specs.l32_machine.specs.Operands as machine
use Rattle.l32_target_operands.specs.l32_templates.specs.declared.form.Form.{Form}
use Rattle.l32_target_operands.specs.l32_templates.specs.Standing.{form_where}
use Rattle.l32_target_operands.specs.l32_templates.specs.Taking.{taken, evaluated, all_evaluated, in_front_of, put_in_front}
use Rattle.l32_target_operands.specs.l32_templates.specs.Filled.{filled}
use Rattle.l32_target_operands.specs.Scenes.{Scene, worth, Sees}
use Rattle.l32_target_operands.proofs.Forms.{operands_stand}
use Rattle.l32_target_lines.specs.Takings.{IsDestination, AreRead, CanAim, IsTaken, is_aimed, aims, aims_once, AreArguments, MayStand, Takes}
use Rattle.l32_target_lines.proofs.Taken.{registered_term, role_so, one_taken, plain_taken}

front_read : (c : Scene) (xs ys : List Shape) → AreRead c (xs ++ ys) → AreRead c xs
front_read c [] ys h = tt
front_read c (x ∷ xs) ys h = (h.0, front_read c xs ys h.1)

back_read : (c : Scene) (xs ys : List Shape) → AreRead c (xs ++ ys) → AreRead c ys
back_read c [] ys h = h
back_read c (x ∷ xs) ys h = back_read c xs ys h.1

not_true : (b : Bool) → not b ≡ true → b ≡ false
not_true true e = absurd cc
not_true false e = refl

-- an operand in front of others, by whether it is written
pub record Front (t : Taken) (r x : Arguments) : Type 0 where
  pub missized : x.missized ≡ (t.missized || r.missized)
  pub plainly : t.target ≡ None → (x.first ≡ t.term) × (x.second ≡ r.first) × (x.target ≡ r.target) × (x.reads ≡ t.reads ++ r.reads)
  pub written : (to : Target) → t.target ≡ Some to → (x.first ≡ r.first) × (x.second ≡ r.second) × (x.target ≡ Some to) × (x.reads ≡ r.reads)

pub front_is : (t : Taken) (r x : Arguments) → put_in_front t r ≡ Ok x → Front t r x
front_is t r x e = by t.target refl e where
  by : (o : Option Target) → t.target ≡ o → in_front_of t r o ≡ Ok x → Front t r x
  by None is e =
      let same = ok_same _ x e in
      record {
        missized = ap (λ (y : Arguments). y.missized) (sym same);
        plainly = λ none. (
          ap (λ (y : Arguments). y.first) (sym same),
          ap (λ (y : Arguments). y.second) (sym same),
          ap (λ (y : Arguments). y.target) (sym same),
          ap (λ (y : Arguments). y.reads) (sym same),
        );
        written = λ to some. absurd (let q : None ≡ Some to = sym is ∙ some in cc);
      }
  by (Some z) is e =
      let same = ok_same _ x e in
      record {
        missized = ap (λ (y : Arguments). y.missized) (sym same);
        plainly = λ none. absurd (let q : Some z ≡ None = sym is ∙ none in cc);
        written = λ to some. (
          ap (λ (y : Arguments). y.first) (sym same),
          ap (λ (y : Arguments). y.second) (sym same),
          ap (λ (y : Arguments). y.target) (sym same) ∙ sym is ∙ some,
          ap (λ (y : Arguments). y.reads) (sym same),
        );
      }

-- only registers are read
abbrev pub are_registers : List Part → Bool
are_registers [] = true
are_registers (parts.Label ∷ ps) = are_registers ps
are_registers (parts.Operand roles.Register ∷ ps) = are_registers ps
are_registers (parts.Operand role ∷ ps) = false

module _ (c : Scene) (zero' : Option Shape) (m : State) (h : Sees c zero' m) where
  -- operands that are only read have no target
  pub all_plain : (ps : List Part) (fs : List Form) (x : Arguments) → list_all (λ (q : Part). not (aims q)) ps ≡ true → all_evaluated c.setting c.roles zero' ps fs ≡ Ok x → x.target ≡ None
  unfolding evaluated
  all_plain [] fs x p e = ap (λ (y : Arguments). y.target) (sym (ok_same no_arguments x e))
  all_plain (parts.Label ∷ ps) fs x p e = all_plain ps fs x p e
  all_plain (parts.Operand role ∷ ps) [] x p e = absurd (err_ok _ x e)
  all_plain (parts.Operand role ∷ ps) (f ∷ fs) x p e =
      let d = chained (evaluated c.setting c.roles zero' role f) (λ (t : Taken). all_evaluated c.setting c.roles zero' ps fs >>= put_in_front t) x e in
      let w = chained (form_where c.setting c.roles zero' f) (taken c.setting zero' role) d.first d.is in
      let r = chained (all_evaluated c.setting c.roles zero' ps fs) (put_in_front d.first) x d.then_so in
      let front = front_is d.first r.first x r.then_so in
      let none = plain_taken c.setting zero' role w.first d.first (not_true (is_aimed role) (first_true (not (is_aimed role)) _ p)) w.then_so in
      (front.plainly none).2 ∙ all_plain ps fs r.first (second_true (not (is_aimed role)) _ p) r.is

  -- registers are of no wrong size, and no memory
  clean_front : (ps : List Part) (f : Form) (fs : List Form) (x : Arguments)
      → ((r : Arguments) → all_evaluated c.setting c.roles zero' ps fs ≡ Ok r → (r.missized ≡ false) × (r.reads ≡ []))
      → all_evaluated c.setting c.roles zero' (parts.Operand roles.Register ∷ ps) (f ∷ fs) ≡ Ok x → (x.missized ≡ false) × (x.reads ≡ [])
  unfolding evaluated taken
  clean_front ps f fs x rest e =
      let d = chained (evaluated c.setting c.roles zero' roles.Register f) (λ (t : Taken). all_evaluated c.setting c.roles zero' ps fs >>= put_in_front t) x e in
      let w = chained (form_where c.setting c.roles zero' f) (taken c.setting zero' roles.Register) d.first d.is in
      let r = chained (all_evaluated c.setting c.roles zero' ps fs) (put_in_front d.first) x d.then_so in
      let front = front_is d.first r.first x r.then_so in
      let y = registered_term c.setting zero' w.first d.first w.then_so in
      let more = rest r.first r.is in
      let p = front.plainly (ap (λ (t : Taken). t.target) (sym y.1)) in (
        front.missized ∙ ap (λ (b : Bool). b || r.first.missized) (ap (λ (t : Taken). t.missized) (sym y.1)) ∙ more.0,
        p.3 ∙ ap (λ (l : List Shape). l ++ r.first.reads) (ap (λ (t : Taken). t.reads) (sym y.1)) ∙ more.1,
      )

  pub all_clean : (ps : List Part) (fs : List Form) (x : Arguments) → are_registers ps ≡ true → all_evaluated c.setting c.roles zero' ps fs ≡ Ok x → (x.missized ≡ false) × (x.reads ≡ [])
  all_clean [] fs x p e = let same = ok_same no_arguments x e in (ap (λ (y : Arguments). y.missized) (sym same), ap (λ (y : Arguments). y.reads) (sym same))
  all_clean (parts.Label ∷ ps) fs x p e = all_clean ps fs x p e
  all_clean (parts.Operand roles.Register ∷ ps) [] x p e = absurd (err_ok _ x e)
  all_clean (parts.Operand roles.Register ∷ ps) (f ∷ fs) x p e = clean_front ps f fs x (λ r is. all_clean ps fs r p is) e
  all_clean (parts.Operand role ∷ ps) fs x p e = absurd cc

  -- what is written can be found, in front and behind
  aim_front : (t : Taken) (r x : Arguments) → Front t r x → CanAim c x.target → CanAim c t.target
  aim_front t r x f aim = by t.target refl where
    by : (o : Option Target) → t.target ≡ o → CanAim c t.target
    by None is = subst (CanAim c) (sym is) tt
    by (Some to) is = subst (CanAim c) ((f.written to is).2 ∙ sym is) aim

  -- at most one operand is written
  aim_rest : (role : Role) (ps : List Part) (fs : List Form) (t : Taken) (r x : Arguments) (w : Where) → (not (is_aimed role) || list_all (λ (q : Part). not (aims q)) ps) ≡ true
      → taken c.setting zero' role w ≡ Ok t → all_evaluated c.setting c.roles zero' ps fs ≡ Ok r → Front t r x → CanAim c x.target → CanAim c r.target
  aim_rest role ps fs t r x w once is all f aim = by (is_aimed role) refl where
    by : (b : Bool) → is_aimed role ≡ b → CanAim c r.target
    by true eq = subst (CanAim c) (sym (all_plain ps fs r (subst (λ (y : Bool). (not y || list_all (λ (q : Part). not (aims q)) ps) ≡ true) eq once) all)) tt
    by false eq = subst (CanAim c) ((f.plainly (plain_taken c.setting zero' role w t eq is)).2) aim

  reads_front : (t : Taken) (r x : Arguments) → Front t r x → AreRead c x.reads → t.target ≡ None → AreRead c t.reads
  reads_front t r x f calm none = front_read c t.reads r.reads (subst (AreRead c) (f.plainly none).3 calm)

  reads_rest : (t : Taken) (r x : Arguments) → Front t r x → AreRead c x.reads → AreRead c r.reads
  reads_rest t r x f calm = by t.target refl where
    by : (o : Option Target) → t.target ≡ o → AreRead c r.reads
    by None is = back_read c t.reads r.reads (subst (AreRead c) (f.plainly is).3 calm)
    by (Some to) is = subst (AreRead c) (f.written to is).3 calm

  -- the arguments with an operand in front of them
  in_front : (t : Taken) (given : Evaluated) (r x : Arguments) (y : Numbers) → IsTaken c m t given → Front t r x → AreArguments c m r y → AreArguments c m x (machine.in_front given y)
  in_front t (evaluations.Number v) r x y so f a =
      let p = f.plainly so.0 in
      record {
        first = so.1 ∙ ap (worth c) (sym p.0);
        second = a.first ∙ ap (worth c) (sym p.1);
        destination = subst (λ o. IsDestination c m o y.destination) (sym p.2) a.destination;
      }
  in_front t (evaluations.Goes d) r x y so f a =
      let p = f.written so.0 so.1 in
      record {
        first = a.first ∙ ap (worth c) (sym p.0);
        second = a.second ∙ ap (worth c) (sym p.1);
        destination = subst (λ o. IsDestination c m o (Some d)) (sym p.2) so.2;
      }

  pub all_taken : (n : ℕ) (ps : List Part) (fs : List Form) (x : Arguments) → aims_once ps ≡ true → length ps ≤ n → AllByRecursion (MayStand c zero') fs
      → all_evaluated c.setting c.roles zero' ps fs ≡ Ok x → x.missized ≡ false → AreRead c x.reads → CanAim c x.target → Takes c m ps fs n x
  unfolding evaluated
  all_taken n [] fs x once few may e right calm aim =
      let same = ok_same no_arguments x e in
      record {
        numbers = machine.no_arguments;
        is = refl;
        so = subst (λ (y : Arguments). AreArguments c m y machine.no_arguments) same (record { first = refl; second = refl; destination = tt });
      }
  all_taken n (parts.Label ∷ ps) fs x once few may e right calm aim =
      let r = all_taken n ps fs x once (omega (arith, few)) may e right calm aim in
      record { numbers = r.numbers; is = r.is; so = r.so }
  all_taken n (parts.Operand role ∷ ps) [] x once few may e right calm aim = absurd (err_ok _ x e)
  all_taken zero (parts.Operand role ∷ ps) (f ∷ fs) x once few may e right calm aim = absurd (omega (arith, few))
  all_taken (suc n) (parts.Operand role ∷ ps) (f ∷ fs) x once few may e right calm aim =
      let d = chained (evaluated c.setting c.roles zero' role f) (λ (t : Taken). all_evaluated c.setting c.roles zero' ps fs >>= put_in_front t) x e in
      let w = chained (form_where c.setting c.roles zero' f) (taken c.setting zero' role) d.first d.is in
      let r = chained (all_evaluated c.setting c.roles zero' ps fs) (put_in_front d.first) x d.then_so in
      let front = front_is d.first r.first x r.then_so in
      let wrong : (d.first.missized || r.first.missized) ≡ false = sym front.missized ∙ right in
      let stands = operands_stand c zero' m f w.first h may.0.short may.0.may w.is in
      let one = one_taken c zero' m h role w.first (filled c.program c.holes c.own f) d.first stands (role_so c.setting c.roles zero' f w.first w.is) w.then_so
      (first_false d.first.missized r.first.missized wrong) (reads_front d.first r.first x front calm) (aim_front d.first r.first x front aim) in
      let rest = all_taken n ps fs r.first (second_true (not (is_aimed role) || list_all (λ (q : Part). not (aims q)) ps) (aims_once ps) once) (omega (arith, few)) may.1 r.is
      (second_false d.first.missized r.first.missized wrong) (reads_rest d.first r.first x front calm)
      (aim_rest role ps fs d.first r.first x w.first (first_true (not (is_aimed role) || list_all (λ (q : Part). not (aims q)) ps) (aims_once ps) once) w.then_so r.is front aim) in
      record {
        numbers = machine.in_front one.given rest.numbers;
        is =
            ap (λ (z : Result Evaluated Stop32). state.◌>>=◌ z (λ (v : Evaluated). state.◌>>=◌ (machine.all_evaluated m ps (map (filled c.program c.holes c.own) (take n fs))) (λ (y : Numbers). Ok (machine.in_front v y)))) one.is
            ∙ ap (λ (z : Result Numbers Stop32). state.◌>>=◌ z (λ (y : Numbers). Ok (machine.in_front one.given y))) rest.is;
        so = in_front d.first one.given r.first x rest.numbers one.so front rest.so;
      }
