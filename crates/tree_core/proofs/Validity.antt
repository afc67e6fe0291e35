-- A program whose parts are as they should be is valid.
use Rattle.std.proofs.Common.{◌≡◌, ◌↔◌, ℕ, List, length, Bool, true, IsTrue, sym, ap, ◌∙◌, subst, ◌≤◌, ◌==◌, ◌||◌, false, refl, arith}
use Rattle.std.specs.List.{All}
use Rattle.std.proofs.lemmas.Bool.{eqb-true}
use Rattle.tree_core.specs.declared.program.TreeFn.{TreeFn}
use Rattle.tree_core.specs.declared.program.Object.{Object}
use Rattle.tree_core.specs.declared.program.TreeProgram.{TreeProgram}
use Rattle.tree_core.specs.Labels.{LabelsOnce, TargetsStand}
use Rattle.tree_core.specs.Valid.{NamesRight, ItemsStand, WantedStand, PushesStand, objects_lie, LinksLie, IsValid, rounded}

pub valid_so : (p : TreeProgram) (fs : List TreeFn) (os : List Object) (n : ℕ) (b : Bool) → fs ≡ p.functions → os ≡ p.objects → n ≡ length os → NamesRight fs → All (ItemsStand fs n) fs
    → All WantedStand fs → LabelsOnce fs → All TargetsStand fs → All PushesStand fs → objects_lie 65536 os ≡ true → (IsTrue b ↔ All (LinksLie (length os)) os) → IsTrue b ↔ IsValid p
valid_so p fs os n b f o len names roots wanted once targets calls objects links = (
  λ t. record {
    names = subst NamesRight f names;
    roots = subst (λ (gs : List TreeFn). All (ItemsStand gs (length p.objects)) gs) f (subst (λ (k : ℕ). All (ItemsStand fs k) fs) (len ∙ ap length o) roots);
    wanted = subst (All WantedStand) f wanted;
    labels_once = subst LabelsOnce f once;
    targets = subst (All TargetsStand) f targets;
    calls = subst (All PushesStand) f calls;
    objects = ap (objects_lie 65536) (sym o) ∙ objects;
    links = subst (λ (qs : List Object). All (LinksLie (length qs)) qs) o (links.0 t);
  },
  λ h. links.1 (subst (λ (qs : List Object). All (LinksLie (length qs)) qs) (sym o) h.links),
)

-- an address is rounded upwards
pub rounded_up : (align at : ℕ) → ((align == 1) || ((align == 2) || (align == 4))) ≡ true → at ≤ rounded align at
rounded_up align at h = by (align == 1) (align == 2) (align == 4) refl refl refl h
  where
    by : (a b c : Bool) → (align == 1) ≡ a → (align == 2) ≡ b → (align == 4) ≡ c → (a || (b || c)) ≡ true → at ≤ rounded align at
    by true b c e f g k = let is : align ≡ 1 = eqb-true align 1 e in rw is (omega arith)
    by false true c e f g k = let is : align ≡ 2 = eqb-true align 2 f in rw is (omega arith)
    by false false true e f g k = let is : align ≡ 4 = eqb-true align 4 g in rw is (omega arith)
    by false false false e f g k = absurd (cc)
