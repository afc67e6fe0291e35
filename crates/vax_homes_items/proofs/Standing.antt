-- The homes of a function: some of its wanted locals, for which its plain instructions are ready.
use Rattle.std.proofs.Common.{◌≡◌, inl, inr, ℕ, ◌<◌, ◌≤◌, Bool, true, false, cond, List, [], ◌∷◌, refl, sym, ap, ◌∙◌, arith}
use Rattle.std.specs.Prelude.{nat_lt}
use Rattle.std.specs.List.{AllByRecursion, filter, list_all}
use Rattle.std.proofs.lemmas.Bool.{and_parts, ltb-true, eq-eqb}
use Rattle.std.proofs.lemmas.List.Sums.{list_all-from_AllPass}
use Rattle.tree_core.specs.declared.program.TreeFn.{TreeFn}
use Rattle.tree_core.specs.Items.{times}
use Rattle.vax_homes_law.specs.vax_confined.specs.vax_core.specs.declared.register.Reg.{Reg}
use Rattle.vax_homes_law.specs.vax_confined.specs.vax_core.specs.declared.code.CodeItem.{CodeItem}
use Rattle.vax_homes_law.specs.vax_confined.specs.vax_core.specs.declared.code.CodeItem.TheVariants as item_kind
use Rattle.vax_homes_law.specs.vax_confined.specs.vax_core.specs.declared.code.Instr.{Instr}
use Rattle.vax_homes_law.specs.vax_homes.specs.declared.choose.Home.{Home}
use Rattle.vax_homes_law.specs.vax_homes.specs.Choosing.{is_homeable, home_registers, is_free, paired, homes_of}
use Rattle.vax_homes_law.specs.Alike.{Has, AreReady}
use Rattle.vax_homes_law.specs.Ready.{IsIn, Differ}
use Rattle.vax_homes_law.proofs.Ready.{homes_are_fit}
use Rattle.vax_homes_items.specs.Standing.{IsPlain, HomesStand}

-- ---- which locals have homes

chosen_in : (p : ℕ → Bool) (ks : List ℕ) (k : ℕ) → IsIn k (filter p ks) → (p k ≡ true) × IsIn k ks
chosen_in p [] k r = absurd r
chosen_in p (j ∷ ks) k r = by (p j) refl r (λ q. chosen_in p ks k q)
  where
    by : (b : Bool) → p j ≡ b → IsIn k (cond b (j ∷ filter p ks) (filter p ks)) → (IsIn k (filter p ks) → (p k ≡ true) × IsIn k ks) → (p k ≡ true) × IsIn k (j ∷ ks)
    by true is (inl e) rest = (ap p e ∙ is, inl e)
    by true is (inr q) rest = ((rest q).0, inr (rest q).1)
    by false is q rest = ((rest q).0, inr (rest q).1)

local_in : (ks : List ℕ) (rs : List Reg) (h : Home) → Has (paired ks rs) h → IsIn h.local ks
local_in [] rs h r = absurd r
local_in (k ∷ ks) [] h r = absurd r
local_in (k ∷ ks) (q ∷ rs) h (inl e) = inl (ap (λ (x : Home). x.local) (sym e))
local_in (k ∷ ks) (q ∷ rs) h (inr r) = inr (local_in ks rs h r)

-- a home's local may live in a register, and is wanted
pub home_is_chosen : (wanted : List ℕ) (body : List CodeItem) (h : Home) → Has (homes_of wanted body) h → (is_homeable body h.local ≡ true) × IsIn h.local wanted
home_is_chosen wanted body h there =
    chosen_in (is_homeable body) wanted h.local (local_in (filter (is_homeable body) wanted) (filter (is_free body) home_registers) h there)

-- ---- wanted numbers

times_in : (ns : List ℕ) (n : ℕ) → IsIn n ns → 1 ≤ times n ns
times_in [] n r = absurd r
times_in (m ∷ ms) n (inl e) = let one = ap {B = ℕ} (λ (b : Bool). cond b 1 0) (eq-eqb m n (sym e)) in omega (arith, one)
times_in (m ∷ ms) n (inr r) = let some = times_in ms n r in omega (arith, some)

differ : (ns : List ℕ) → ((n : ℕ) → times n ns ≤ 1) → Differ ns
differ [] h = tt
differ (m ∷ ms) h = (
  λ r. let some = times_in ms m r in let one = ap {B = ℕ} (λ (b : Bool). cond b 1 0) (eq-eqb m m refl) in let most = h m in omega (arith, some, one, most),
  differ ms (λ n. let most = h n in omega (arith, most)),
)

below : (locals : ℕ) (ns : List ℕ) (n : ℕ) → list_all (λ k. nat_lt k locals) ns ≡ true → IsIn n ns → n < locals
below locals [] n h r = absurd r
below locals (m ∷ ms) n h (inl e) = ltb-true n locals (ap (λ (k : ℕ). nat_lt k locals) e ∙ (and_parts (nat_lt m locals) (list_all (λ k. nat_lt k locals) ms) h).0)
below locals (m ∷ ms) n h (inr r) = below locals ms n (and_parts (nat_lt m locals) (list_all (λ k. nat_lt k locals) ms) h).1 r

-- ---- instructions

all_ready : (f : TreeFn) (body : List CodeItem) → Differ f.wanted → (is : List Instr) → AllByRecursion (λ (i : Instr). IsIn (item_kind.Instr i) body) is → AllByRecursion (IsPlain f.args) is
    → AreReady (homes_of f.wanted body) f.args is
all_ready f body apart [] there h = tt
all_ready f body apart (i ∷ is) there h = ((homes_are_fit f.wanted body apart).ready f.args i there.0 h.0.valid h.0.fits, all_ready f body apart is there.1 h.1)

pub homes_stand : HomesStand
homes_stand f body stand =
    let apart : Differ f.wanted = differ f.wanted stand.1 in
    record {
      paired = (homes_are_fit f.wanted body apart).paired;
      locals = λ h there. below f.locals f.wanted h.local (list_all-from_AllPass (λ n. nat_lt n f.locals) f.wanted stand.0) (home_is_chosen f.wanted body h there).1;
      ready = λ is there plain. all_ready f body apart is there plain;
    }
