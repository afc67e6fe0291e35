-- The program that code holds is sound, and so its trees have what lowering hands on.
use Rattle.std.proofs.Common.{◌≡◌, ◌≤◌, ℕ, zero, suc, List, [], ◌∷◌, length, map, Some, refl, sym, subst}
use Rattle.std.proofs.Math.Bool.{Bool-set}
use Rattle.std.specs.Coded.{Coded-set, coded_ℕ, coded_list}
use Rattle.std.specs.Prelude.{◌-◌, Result, Ok, Err, IfOk, slice_get}
use Rattle.std.proofs.Math.Logic.{∥∥₁_map, ∥∥₁_elim}
use Rattle.c_lower_valid.proofs.Naming.{labels_stay}
use Rattle.gg_base.proofs.Facts.{no_prop}
use native.Mathlib.Bridge.{le_prop}
use Rattle.tree_core.specs.declared.program.Object.{Object}
use Rattle.tree_core.specs.declared.program.TreeFn.{TreeFn}
use Rattle.tree_core.specs.declared.program.TreeProgram.{TreeProgram}
use Rattle.c_program.specs.declared.program.Program.{Program as Held}
use Rattle.c_program.specs.Need.{need_of}
use Rattle.c_program.specs.Programs.{ARoutine, AProgram, program}
use Rattle.c_typed.specs.c_typed_check.specs.declared.program.Program.{Program}
use Rattle.c_sound.specs.Labels.{AreLabelled}
use Rattle.c_sound.specs.Sound.{IsSound}
use Rattle.c_lower_scheme.specs.Programs.{body_of, lower_all, lowered}
use Rattle.c_lower_bounds.specs.Claim.{FitsFrame}
use Rattle.c_lower_bounds.proofs.Law.{each_function_fits}
use Rattle.c_sound_texts.proofs.Law.{typed_is_sound}

pub sound : (s : Program) → ∥ IsSound (program s.held) ∥₁
sound s = ∥∥₁_map s.is_typed (λ t. typed_is_sound (program s.held) t.unit t.ends t.tokens t.typed)

-- what holds of the answer that the definition gives holds of the answer
answered : {A E : Type 0} (r : Result A E) (x : A) (P : A → Type 0) → IfOk r (λ q. q ≡ x) → P x → IfOk r P
answered (Ok q) x P e h = subst P (sym e) h
answered (Err err) x P e h = tt

-- what holds of the trees of a program holds of those that the code answers for it
pub lowered_has : {E : Type 0} (s : Program) (x : Held) → x ≡ s.held → (r : Result TreeProgram E) (P : TreeProgram → Type 0)
    → IfOk r (λ q. q ≡ lowered (program x)) → P (lowered (program s.held)) → IfOk r P
lowered_has s x e r P trees h =
    answered r (lowered (program s.held)) P (subst (λ (y : Held). IfOk r (λ q. q ≡ lowered (program y))) e trees) h

-- arguments stay
few_all : (pointer count : ℕ) (gs : List ARoutine) (l : ℕ) → ((n : ℕ) (g : ARoutine) → slice_get gs n ≡ Some g → length g.parameters ≤ 32) →
    (n : ℕ) (f : TreeFn) → slice_get (lower_all pointer count gs l) n ≡ Some f → f.args ≤ 32
few_all pointer count [] l few n f here = absurd (cc)
few_all pointer count (g ∷ gs) l few zero f here =
    let args : f.args ≡ length g.parameters = cc in
    rw args (few 0 g refl)
few_all pointer count (g ∷ gs) l few (suc n) f here = few_all pointer count gs (body_of pointer count g l).labels (λ m h at. few (suc m) h at) n f here

few_arguments : (p : AProgram) → IsSound p → (n : ℕ) (f : TreeFn) → slice_get (lowered p).functions n ≡ Some f → f.args ≤ 32
few_arguments p s n f here = few_all (length p.objects - 2) (length p.routines) p.routines 0 s.parameters n f here

pub few_args : (p : AProgram) → ∥ IsSound p ∥₁ → (n : ℕ) (f : TreeFn) → slice_get (lowered p).functions n ≡ Some f → f.args ≤ 32
few_args p h n f here = ∥∥₁_elim h le_prop (λ s. few_arguments p s n f here)

-- and each function fits the frame that it needs
pub fits_handed : (p : AProgram) → ∥ IsSound p ∥₁ → (n : ℕ) (g : ARoutine) (f : TreeFn) → slice_get p.routines n ≡ Some g
    → slice_get (lowered p).functions n ≡ Some f → FitsFrame (need_of g.locals g.block g.body) f
fits_handed p h n g f e d = record {
  locals = ∥∥₁_elim h le_prop (λ s. (each_function_fits p s n g f e d).locals);
  roots = λ k w is. ∥∥₁_elim h le_prop (λ s. (each_function_fits p s n g f e d).roots k w is);
}

-- each part of it is a proposition
pub are_labelled : (os : List Object) (names : List (List ℕ)) → ∥ AreLabelled os names ∥₁ → AreLabelled os names
are_labelled os names h = record {
  differ = λ i j o p here there e. ∥∥₁_elim h (Coded-set coded_ℕ _ _) (λ s. s.differ i j o p here there e);
  spelled = λ i o here. ∥∥₁_elim h (Bool-set _ _) (λ s. s.spelled i o here);
  functions = λ i f o name here there e. ∥∥₁_elim h no_prop (λ s. s.functions i f o name here there e);
  putchar = λ i o here e. ∥∥₁_elim h no_prop (λ s. s.putchar i o here e);
  getchar = λ i o here e. ∥∥₁_elim h no_prop (λ s. s.getchar i o here e);
  addresses = λ i x within k l inside o here. ∥∥₁_elim h (Coded-set (coded_list coded_ℕ) _ _) (λ s. s.addresses i x within k l inside o here);
}

pub labels_handed : (p : AProgram) → ∥ IsSound p ∥₁ → AreLabelled p.objects (map (λ (f : TreeFn). f.name) (lowered p).functions)
labels_handed p h = are_labelled p.objects (map (λ (f : TreeFn). f.name) (lowered p).functions) (∥∥₁_map h (labels_stay p))
