-- How many temporaries and forks calls have.
use Rattle.std.proofs.Common.{ℕ, ◌+◌, ◌*◌, ◌≤◌, List, [], ◌∷◌, length, refl, arith}
use Rattle.std.specs.Prelude.{Bool}
use Rattle.c_types.specs.declared.types.CType.{CType}
use Rattle.c_lower_scheme.specs.Trees.{Tree, Item, Push, Call, Save}
use Rattle.c_lower_scheme.specs.Parts.{Lowered, Passing, Destination, InLocal, AsResult, Releasing, over}
use Rattle.c_lower_scheme.specs.Calls.{pushes, called_drop, called_low, called_deliver, passed_as, no_arguments, pass_so}
use Rattle.c_lower_bounds.proofs.Trees.{tree_forks, Narrow, none, next, behind}
use Rattle.c_lower_bounds.proofs.Values.{Within, Ends, spare_of, narrow_saving, saved_forks, next_one, fitted_forks, over_within, delivered_ends}

-- no tree has more forks than so many
abbrev pub Thin : ℕ → List Tree → Type 0
Thin m [] = Unit {0}
Thin m (w ∷ ws) = (tree_forks w ≤ m) × Thin m ws

-- arguments of n nodes, whose trees have at most f forks
pub record WithinPassing (t n f : ℕ) (p : Passing) : Type 0 where
  pub temps : 2 * p.temps ≤ 2 * t + 3 * n
  pub trees : (m : ℕ) → f ≤ m → Thin m p.trees
  pub items : (m : ℕ) → f ≤ m → Narrow m p.items

narrow_pushes : (m : ℕ) (ws : List Tree) (is : List Item) → Thin m ws → Narrow m is → Narrow m (pushes ws is)
narrow_pushes m [] is h g = g
narrow_pushes m (w ∷ ws) is h g = narrow_pushes m ws (Push w ∷ is) h.1 (next h.0 g)

pub none_within : (f t l : ℕ) → WithinPassing t 0 f (no_arguments t l)
none_within f t l = record { temps = omega arith; trees = λ m le. tt; items = λ m le. none }

pub pass_within : (b : Bool) (h : ℕ) {t m n f g : ℕ} {p : Lowered} {q : Passing} → f ≤ h → g ≤ h → Within t m f p → WithinPassing p.temps n g q
    → WithinPassing t (m + n) h (pass_so b p q)
pass_within b h {p = p} {q = q} le le' u v =
    let one = next_one b q.temps in
    let less = saved_forks b q.temps p.tree in
    record {
      temps = omega (arith, u.temps, v.temps, one);
      trees = λ k more. (omega (arith, u.tree, less), v.trees k (omega arith));
      items = λ k more. behind (u.items k (omega arith))
          (behind (narrow_saving b q.temps p.tree k (omega (arith, u.tree))) (v.items k (omega arith)));
    }

pub passed_within : (to : List CType) {t n f : ℕ} {p : Lowered} → Within t n f p → Within t n f (over (passed_as to) p)
passed_within [] {n = n} {f = f} h = over_within (passed_as []) (λ w. refl) n f (omega arith) (omega arith) h
passed_within (ty ∷ to) {n = n} {f = f} h = over_within (passed_as (ty ∷ to)) (λ w. fitted_forks ty w) n f (omega arith) (omega arith) h

pub called_low_within : (f h : ℕ) {t n g : ℕ} {p : Passing} → 1 ≤ h → g ≤ h → WithinPassing t n g p → Within t (2 + n) h (called_low f p)
called_low_within f h {p = p} one less u = record {
  temps = omega (arith, u.temps);
  tree = one;
  items = λ k le.
      let call : List Item = Call f (length p.trees) ∷ Save p.temps ∷ [] in
      let last : Narrow k call = next (omega arith) (next (omega arith) none) in
      behind (u.items k (omega arith)) (narrow_pushes k p.trees call (u.trees k (omega arith)) last);
}

pub called_drop_ends : (f h : ℕ) {t n g : ℕ} {p : Passing} → g ≤ h → WithinPassing t n g p → Ends 0 t (2 + n) h (called_drop f p)
called_drop_ends f h {p = p} less u = record {
  temps = omega (arith, u.temps);
  items = λ k le.
      let call : List Item = Call f (length p.trees) ∷ [] in
      behind (u.items k (omega arith)) (narrow_pushes k p.trees call (u.trees k (omega arith)) (next (omega arith) none));
}

pub called_deliver_ends : (to : Destination) (f h : ℕ) {t n g : ℕ} {p : Passing} → 1 ≤ h → g ≤ h → WithinPassing t n g p
    → Ends (spare_of to) t (2 + n) h (called_deliver to f p)
called_deliver_ends AsResult f h one less u = delivered_ends AsResult (called_low_within f h one less u)
called_deliver_ends (Releasing pointer x) f h one less u = delivered_ends (Releasing pointer x) (called_low_within f h one less u)
called_deliver_ends (InLocal x) f h {p = p} one less u = record {
  temps = omega (arith, u.temps);
  items = λ k le.
      let call : List Item = Call f (length p.trees) ∷ Save x ∷ [] in
      let last : Narrow k call = next (omega arith) (next (omega arith) none) in
      behind (u.items k (omega arith)) (narrow_pushes k p.trees call (u.trees k (omega arith)) last);
}
