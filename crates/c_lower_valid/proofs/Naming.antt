-- The functions of a lowered program, and their names.
use Rattle.std.proofs.Common.{◌≡◌, ℕ, zero, suc, ◌+◌, ◌-◌, ◌≤◌, List, [], ◌∷◌, length, Some, None, refl, ap, arith, sym, ◌∙◌, subst, map}
use Rattle.std.specs.Prelude.{Bool, true, false, not, ◌||◌, ◌==◌, cond, slice_get, codes}
use Rattle.std.specs.List.{All}
use Rattle.std.specs.Str.{bytes_eq}
use Rattle.std.proofs.lemmas.Bool.{eq-eqb, false_from_ne_true}
use Rattle.std.proofs.lemmas.List.Elements.{All-nil, All-cons}
use Rattle.tree_core.specs.declared.program.TreeFn.{TreeFn}
use Rattle.tree_core.specs.Valid.{named, main_takes_nothing, NamesRight}
use Rattle.c_program.specs.Programs.{ARoutine, AProgram}
use Rattle.c_sound.specs.Sound.{IsSound}
use Rattle.c_sound.proofs.Bytes.{same_names}
use Rattle.c_sound.specs.Labels.{AreLabelled}
use Rattle.c_lower_scheme.specs.Programs.{body_of, function_of, lower_all, lowered}
use Rattle.c_lower_scheme.proofs.Facts.{names_stay}

-- what holds of each routine as it is lowered, from whatever label on
pub each_lowered : (P : TreeFn → Type 0) (pointer count : ℕ) (gs : List ARoutine) (l : ℕ)
    → ((f : ℕ) (g : ARoutine) (m : ℕ) → slice_get gs f ≡ Some g → P (function_of g (body_of pointer count g m))) → All P (lower_all pointer count gs l)
each_lowered P pointer count [] l h = All-nil P
each_lowered P pointer count (g ∷ gs) l h = All-cons P (function_of g (body_of pointer count g l)) (lower_all pointer count gs (body_of pointer count g l).labels)
    (h 0 g l refl) (each_lowered P pointer count gs (body_of pointer count g l).labels (λ f x m e. h (suc f) x m e))

-- the function with a number has as many arguments as the routine has parameters
pub record IsLowered (fs : List TreeFn) (f : ℕ) (g : ARoutine) : Type 0 where
  pub fn : TreeFn
  pub here : slice_get fs f ≡ Some fn
  pub args : fn.args ≡ length g.parameters

pub lowered_at : (pointer count : ℕ) (gs : List ARoutine) (l f : ℕ) (g : ARoutine) → slice_get gs f ≡ Some g → IsLowered (lower_all pointer count gs l) f g
lowered_at pointer count [] l f g e = absurd (cc)
lowered_at pointer count (h ∷ gs) l zero g e = let same : h ≡ g = cc in
    record { fn = function_of h (body_of pointer count h l); here = refl; args = ap (λ (x : ARoutine). length x.parameters) same }
lowered_at pointer count (h ∷ gs) l (suc f) g e =
    let r = lowered_at pointer count gs (body_of pointer count h l).labels f g e in
    record { fn = r.fn; here = r.here; args = r.args }

pub none_behind : (pointer count : ℕ) (gs : List ARoutine) (l f : ℕ) → length gs ≤ f → slice_get (lower_all pointer count gs l) f ≡ None
none_behind pointer count [] l f le = refl
none_behind pointer count (g ∷ gs) l zero le = absurd (omega arith)
none_behind pointer count (g ∷ gs) l (suc f) le = none_behind pointer count gs (body_of pointer count g l).labels f (omega arith)

-- how many functions have a name
name_none : (pointer count : ℕ) (name : List ℕ) (gs : List ARoutine) (l : ℕ)
    → ((f : ℕ) (g : ARoutine) → slice_get gs f ≡ Some g → bytes_eq g.name name ≡ false) → named name (lower_all pointer count gs l) ≡ 0
name_none pointer count name [] l h = refl
name_none pointer count name (g ∷ gs) l h =
    let rest = name_none pointer count name gs (body_of pointer count g l).labels (λ f x e. h (suc f) x e) in
    ap (λ b. cond b 1 0 + named name (lower_all pointer count gs (body_of pointer count g l).labels)) (h 0 g refl) ∙ omega (arith, rest)

-- no name has two answers

name_once : (pointer count : ℕ) (name : List ℕ) (gs : List ARoutine) (l n : ℕ) (g : ARoutine) → slice_get gs n ≡ Some g
    → bytes_eq g.name name ≡ true → ((f : ℕ) (h : ARoutine) → slice_get gs f ≡ Some h → bytes_eq h.name name ≡ true → f ≡ n)
    → named name (lower_all pointer count gs l) ≡ 1
name_once pointer count name [] l n g e is only = absurd (cc)
name_once pointer count name (h ∷ gs) l zero g e is only =
    let same : h ≡ g = cc in
    let here : bytes_eq h.name name ≡ true = subst (λ (x : ARoutine). bytes_eq x.name name ≡ true) (sym same) is in
    let rest = name_none pointer count name gs (body_of pointer count h l).labels
    (λ f x ex. false_from_ne_true (bytes_eq x.name name) (λ t. let r = only (suc f) x ex t in omega (arith, r))) in
    ap (λ b. cond b 1 0 + named name (lower_all pointer count gs (body_of pointer count h l).labels)) here ∙ omega (arith, rest)
name_once pointer count name (h ∷ gs) l (suc n) g e is only =
    let other : bytes_eq h.name name ≡ false = false_from_ne_true (bytes_eq h.name name) (λ t. let r = only 0 h refl t in omega (arith, r)) in
    let rest = name_once pointer count name gs (body_of pointer count h l).labels n g e is (λ f x ex t. let r = only (suc f) x ex t in omega (arith, r)) in
    ap (λ b. cond b 1 0 + named name (lower_all pointer count gs (body_of pointer count h l).labels)) other ∙ omega (arith, rest)

name_most : (pointer count : ℕ) (name : List ℕ) (gs : List ARoutine) (l : ℕ)
    → ((f k : ℕ) (g h : ARoutine) → slice_get gs f ≡ Some g → slice_get gs k ≡ Some h → bytes_eq g.name h.name ≡ true → f ≡ k)
    → named name (lower_all pointer count gs l) ≤ 1
name_most pointer count name [] l differ = omega arith
name_most pointer count name (g ∷ gs) l differ = cases (bytes_eq g.name name) refl
    (name_most pointer count name gs (body_of pointer count g l).labels (λ f k x y ex ey t. let r = differ (suc f) (suc k) x y ex ey t in omega (arith, r)))
  where
    cases : (b : Bool) → bytes_eq g.name name ≡ b → named name (lower_all pointer count gs (body_of pointer count g l).labels) ≤ 1
        → cond b 1 0 + named name (lower_all pointer count gs (body_of pointer count g l).labels) ≤ 1
    cases true e most =
        let none = name_none pointer count name gs (body_of pointer count g l).labels
        (λ f x ex. false_from_ne_true (bytes_eq x.name name)
        (λ t. let r = differ 0 (suc f) g x refl ex (same_names g.name x.name name e t) in omega (arith, r))) in
        omega (arith, none)
    cases false e most = omega (arith, most)

takes_nothing : (b : Bool) (args : ℕ) → (b ≡ true → args ≡ 0) → (not b || (args == 0)) ≡ true
takes_nothing true args h = eq-eqb args 0 (h refl)
takes_nothing false args h = refl

pub names_right : (p : AProgram) → IsSound p → NamesRight (lower_all (length p.objects - 2) (length p.routines) p.routines 0)
names_right p sound =
    let pointer : ℕ = length p.objects - 2 in
    let count = length p.routines in
    let main = sound.main in
    record {
      one_main = name_once pointer count (codes "main") p.routines 0 p.main main.0 main.1 main.2 sound.only_main;
      main_args = each_lowered (λ f. main_takes_nothing f ≡ true) pointer count p.routines 0 (λ f g m e.
          takes_nothing (bytes_eq g.name (codes "main")) (length g.parameters) (λ t.
          let at : f ≡ p.main = sound.only_main f g e t in
          let here : slice_get p.routines p.main ≡ Some g = subst (λ k. slice_get p.routines k ≡ Some g) at e in
          let first = main.1 in
          let same : main.0 ≡ g = cc in
          ap length (subst (λ (x : ARoutine). x.parameters ≡ []) same main.3)));
      no_putchar = name_none pointer count (codes "putchar") p.routines 0 sound.no_putchar;
      no_getchar = name_none pointer count (codes "getchar") p.routines 0 sound.no_getchar;
      differ = λ name. name_most pointer count name p.routines 0 sound.differ;
    }

-- labels of objects stay
pub labels_stay : (p : AProgram) → IsSound p → AreLabelled p.objects (map (λ (f : TreeFn). f.name) (lowered p).functions)
labels_stay p s = subst (AreLabelled p.objects) (sym (names_stay (length p.objects - 2) (length p.routines) p.routines 0)) s.labels
