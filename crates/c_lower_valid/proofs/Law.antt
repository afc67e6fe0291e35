-- The trees of a program that typing accepts are valid.
use Rattle.std.proofs.Common.{◌≡◌, inl, inr, ⊎_elim, ℕ, suc, ◌-◌, ◌≤◌, ◌<◌, List, [], ◌∷◌, length, Option, Some, None, refl, ap, arith, sym, ◌∙◌}
use Rattle.std.specs.Prelude.{true, false, slice_get}
use Rattle.std.specs.List.{All}
use Rattle.std.proofs.lemmas.Bool.{cases_lt, eq-eqb}
use Rattle.std.proofs.lemmas.List.Elements.{All-nil, All-cons}
use Rattle.c_types.specs.declared.typed.Callee.{Callee}
use Rattle.c_types.specs.declared.typed.Callee.TheVariants as callees
use Rattle.c_program.specs.Programs.{ARoutine, AProgram}
use Rattle.c_sound.specs.Fits.{FitsActs, no_local}
use Rattle.c_sound.specs.Stands.{Takes}
use Rattle.c_sound.specs.Sound.{IsSound}
use Rattle.c_sound.proofs.Registers.{locals_more}
use Rattle.tree_core.specs.declared.program.TreeFn.{TreeFn}
use Rattle.tree_core.specs.Items.{times, all_labels}
use Rattle.tree_core.specs.Labels.{TargetsStand}
use Rattle.tree_core.specs.Valid.{args_or, service_args, takes, ItemStands, ItemsStand, WantedStand, PushesStand}
use Rattle.c_lower_scheme.specs.Trees.{Item}
use Rattle.c_lower_scheme.specs.Spelling.{spelled, spelled_all}
use Rattle.c_lower_scheme.specs.Calls.{callee_number}
use Rattle.c_lower_scheme.specs.Programs.{body_of, function_of, lower_all}
use Rattle.c_lower_scheme.proofs.Facts.{all_lowered}
use Rattle.c_lower_valid.specs.Claim.{LoweredIsValid}
use Rattle.c_lower_valid.proofs.Named.{Scene, AllName}
use Rattle.c_lower_valid.proofs.Rows.{scene, item_stands}
use Rattle.c_lower_scheme.specs.Parts.{Emitted}
use Rattle.c_lower_valid.proofs.Fine.{FineDone}
use Rattle.c_lower_valid.proofs.StatementItems.{fine_body}
use Rattle.c_lower_valid.proofs.Loops.{marked_body}
use Rattle.c_lower_valid.proofs.Spelled.{targets_stand, labels_before}
use Rattle.c_lower_valid.proofs.Naming.{each_lowered, lowered_at, none_behind, names_right}

items_stand : (fs : List TreeFn) (objects : ℕ) (fn : TreeFn) (few : fn.args ≤ 255) (is : List Item)
    → AllName (scene fs objects fn few) fn.locals is → All (ItemStands fs objects fn) (spelled_all is)
items_stand fs objects fn few [] h = All-nil (ItemStands fs objects fn)
items_stand fs objects fn few (i ∷ is) h = All-cons (ItemStands fs objects fn) (spelled i) (spelled_all is)
    (item_stands fs objects fn few i h.0) (items_stand fs objects fn few is h.1)

-- each call's function or service takes its number of arguments
module _ (p : AProgram) (sound : IsSound p) where
  abbrev pointer : ℕ
  pointer = length p.objects - 2

  abbrev functions : List TreeFn
  functions = lower_all pointer (length p.routines) p.routines 0

  takes_args : (o : Option TreeFn) (s : Option ℕ) (f : TreeFn) (n : ℕ) → o ≡ Some f → f.args ≡ n → takes (args_or o s) n ≡ true
  takes_args o s f n e a = ap (λ x. takes (args_or x s) n) e ∙ eq-eqb f.args n a

  takes_service : (o : Option TreeFn) (at n m : ℕ) → o ≡ None → service_args at ≡ Some m → m ≡ n
      → takes (args_or o (service_args at)) n ≡ true
  takes_service o at n m e s a = ap (λ x. takes (args_or x (service_args at)) n) e ∙ ap (λ x. takes x n) s ∙ eq-eqb m n a

  calls_right : (objects : ℕ) (fn : TreeFn) (few : fn.args ≤ 255) (f : Callee) (n : ℕ) → Takes p.routines f n
      → (scene functions objects fn few).callable (callee_number (length p.routines) f) n
  calls_right objects fn few (callees.Defined k) n h =
      let r = lowered_at pointer (length p.routines) p.routines 0 k h.routine h.here in
      let many = sound.parameters k h.routine h.here in
      let is = h.takes in
      (takes_args (slice_get functions k) (service_args (k - length functions)) r.fn n r.here (r.args ∙ h.takes), omega arith)
  calls_right objects fn few callees.Putchar n h =
      let count = length p.routines in
      let all = all_lowered pointer count p.routines 0 in
      let at : count - length functions ≡ 0 = omega (arith, all) in (
        takes_service (slice_get functions count) (count - length functions) n 1 (none_behind pointer count p.routines 0 count (omega arith))
            (ap service_args at) (sym h),
        omega arith,
      )
  calls_right objects fn few callees.Getchar n h =
      let count = length p.routines in
      let all = all_lowered pointer count p.routines 0 in
      let at : suc count - length functions ≡ 1 = omega (arith, all) in (
        takes_service (slice_get functions (suc count)) (suc count - length functions) n 0
            (none_behind pointer count p.routines 0 (suc count) (omega arith)) (ap service_args at) (sym h),
        omega arith,
      )

  -- a function's items
  module _ (f : ℕ) (g : ARoutine) (m : ℕ) (at : slice_get p.routines f ≡ Some g) where
    abbrev body : Emitted
    body = body_of pointer (length p.routines) g m

    abbrev own : TreeFn
    own = function_of g body

    few_parameters : length g.parameters ≤ 255
    few_parameters = let few = sound.parameters f g at in omega arith

    abbrev there : Scene
    there = scene functions (length p.objects) own few_parameters

    fine_own : FineDone there (length g.locals) body
    fine_own = fine_body there (length p.routines) pointer (Takes p.routines) (calls_right (length p.objects) own few_parameters)
        g m (λ le. let two = sound.stacked f g at le in omega arith) (sound.fits f g at) (sound.stands f g at)

    wanted_stand : WantedStand own
    wanted_stand = locals_more (length g.locals) own.locals g.registers fine_own.grows (sound.registers f g at)

    roots_stand : ItemsStand functions (length p.objects) own
    roots_stand = items_stand functions (length p.objects) own few_parameters body.items fine_own.items.names

    pushes_stand : PushesStand own
    pushes_stand = fine_own.items.order

    targets_there : TargetsStand own
    targets_there =
        let marks = marked_body pointer (length p.routines) g m (sound.fits f g at) in
        targets_stand body.items (λ n lt. omega (arith, marks.aimed n lt))

-- labels are numbered over the whole program
labels_once : (pointer count : ℕ) (gs : List ARoutine) (l : ℕ)
    → ((f : ℕ) (g : ARoutine) → slice_get gs f ≡ Some g → FitsActs (length g.locals) no_local false g.body) → (n : ℕ)
    → (times n (all_labels (lower_all pointer count gs l)) ≤ 1) × (n < l → times n (all_labels (lower_all pointer count gs l)) ≡ 0)
labels_once pointer count [] l fits n = (omega arith, λ lt. refl)
labels_once pointer count (g ∷ gs) l fits n =
    let q = body_of pointer count g l in
    let marks = marked_body pointer count g l (fits 0 g refl) in
    let rest = labels_once pointer count gs q.labels (λ f x e. fits (suc f) x e) n in
    let most = rest.0 in
    let sum = labels_before g.name (length g.parameters) q.temps g.registers q.items (lower_all pointer count gs q.labels) n in
    let grows = marks.grows in (
      ⊎_elim (λ lt. omega (arith, sum, marks.once n, rest.1 lt)) (λ ge. omega (arith, sum, marks.inside n (inr ge))) (cases_lt n q.labels),
      λ lt. omega (arith, sum, marks.inside n (inl lt), rest.1 (omega arith)),
    )

pub lowered_is_valid : LoweredIsValid
lowered_is_valid p sound =
    let count = length p.routines in
    let at : ℕ = pointer p sound in
    record {
      names = names_right p sound;
      roots = each_lowered (ItemsStand (functions p sound) (length p.objects)) at count p.routines 0 (λ f g m e. roots_stand p sound f g m e);
      wanted = each_lowered WantedStand at count p.routines 0 (λ f g m e. wanted_stand p sound f g m e);
      labels_once = λ n. (labels_once at count p.routines 0 sound.fits n).0;
      targets = each_lowered TargetsStand at count p.routines 0 (λ f g m e. targets_there p sound f g m e);
      calls = each_lowered PushesStand at count p.routines 0 (λ f g m e. pushes_stand p sound f g m e);
      objects = sound.objects;
      links = sound.links;
    }
