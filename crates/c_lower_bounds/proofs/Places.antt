-- How many temporaries and forks places and assignments have.
use Rattle.std.proofs.Common.{◌≡◌, ℕ, suc, ◌+◌, ◌*◌, ◌≤◌, List, [], ◌∷◌, refl, arith}
use Rattle.std.specs.Prelude.{Bool, true, false, not, ◌&&◌, ◌==◌, if◌then◌else◌}
use Rattle.c_types.specs.declared.types.CType.{CType}
use Rattle.c_types.specs.declared.typed.Variable.{Variable}
use Rattle.c_types.specs.declared.typed.Variable.TheVariants as variables
use Rattle.c_types.specs.declared.typed.ArithmeticOperator.TheVariants as ariths
use Rattle.c_types.specs.declared.typed.Direction.{Direction}
use Rattle.c_types.specs.declared.typed.Direction.TheVariants as directions
use Rattle.c_types.specs.declared.typed.Moment.{Moment}
use Rattle.c_types.specs.declared.typed.Moment.TheVariants as moments
use Rattle.c_types.specs.Constants.{scale}
use Rattle.c_lower_scheme.specs.Trees.{Tree, Num, Gaddr, Loc, Arg, Indir, Conv, Neg, Com, Bin, Item, stable, is_leaf}
use Rattle.c_lower_scheme.specs.Parts.{Lowered, Where, InLoc, InArg, InMem, Located, Assignable}
use Rattle.c_lower_scheme.specs.Saving.{saved, next_if}
use Rattle.c_lower_scheme.specs.Places.{read_from, assign_to, address_tree, in_block, where_of, found, pointed, read_low, address_low, holding, held}
use Rattle.c_lower_scheme.specs.Values.{step}
use Rattle.c_lower_scheme.specs.Assignments.{ready_so, update_so, store_drop, store_low_at, store_low, must_keep, step_tree, step_ready, step_low}
use Rattle.c_lower_bounds.proofs.Trees.{tree_forks, item_forks, Narrow, none, next, behind}
use Rattle.c_lower_bounds.proofs.Values.{Within, Ends, AddsTwo, narrow_saving, saved_forks, next_one, fitted_forks}

-- the forks of a place's address
abbrev pub place_forks : Where → ℕ
place_forks s = tree_forks (address_tree s)

-- a place of n nodes, whose address has fewer than f forks
pub record WithinFound (t n f : ℕ) (p : Located) : Type 0 where
  pub temps : 3 + 2 * p.temps ≤ 2 * t + 3 * n
  pub place : suc (place_forks p.place) ≤ f
  pub items : (m : ℕ) → f ≤ m → Narrow m p.items

-- an assignment of n nodes that is due
pub record WithinReady (t n f : ℕ) (r : Assignable) : Type 0 where
  pub temps : 4 + 2 * r.temps ≤ 2 * t + 3 * n
  pub root : suc (place_forks r.place + tree_forks r.value) ≤ f
  pub items : (m : ℕ) → f ≤ m → Narrow m r.items

-- only a name in the block has a fork: the sum of the block's address and its offset
in_block_by : (size o : ℕ) (b : Bool) → tree_forks (if b then Loc size else Bin ariths.Add (Loc size) (Num o)) ≤ 1
in_block_by size o true = omega arith
in_block_by size o false = omega arith

pub in_block_forks : (size o : ℕ) → tree_forks (in_block size o) ≤ 1
in_block_forks size o = in_block_by size o (o == 0)

pub where_forks : (size : ℕ) (v : Variable) → place_forks (where_of size v) ≤ 1
where_forks size (variables.Automatic n) = omega arith
where_forks size (variables.Parameter n) = omega arith
where_forks size (variables.Global n) = omega arith
where_forks size (variables.Static n) = omega arith
where_forks size (variables.InBlock o) = in_block_forks size o

read_forks : (ty : CType) (s : Where) → tree_forks (read_from ty s) ≤ place_forks s
read_forks ty (InLoc n) = omega arith
read_forks ty (InArg n) = omega arith
read_forks ty (InMem a) = omega arith

assign_forks : (ty : CType) (s : Where) (w : Tree) → item_forks (assign_to ty s w) ≤ suc (place_forks s + tree_forks w)
assign_forks ty (InLoc n) w = let h = fitted_forks ty w in omega (arith, h)
assign_forks ty (InArg n) w = let h = fitted_forks ty w in omega (arith, h)
assign_forks ty (InMem a) w = omega arith

pub found_within : (ty : CType) (size f : ℕ) (v : Variable) → suc (place_forks (where_of size v)) ≤ f → (t l : ℕ)
    → WithinFound t 1 f (found ty (where_of size v) t l)
found_within ty size f v few t l = record { temps = omega arith; place = few; items = λ m le. none }

pub pointed_within : (ty : CType) (k g : ℕ) {t n f : ℕ} {p : Lowered} → 3 + 2 * p.temps ≤ 2 * t + 3 * k → f ≤ g → Within t n f p
    → WithinFound t k g (pointed ty p)
pointed_within ty k g room le h = record { temps = room; place = omega (arith, h.tree); items = λ m le'. h.items m (omega arith) }

pub read_within : {t n f : ℕ} {p : Located} → WithinFound t n f p → Within t n f (read_low p)
read_within {p = p} h =
    let less = read_forks p.type p.place in
    record { temps = omega (arith, h.temps); tree = omega (arith, h.place, less); items = h.items }

pub address_within : (g : ℕ) {t n f : ℕ} {p : Located} → f ≤ g → WithinFound t n f p → Within t (1 + n) g (address_low p)
address_within g le h = record { temps = omega (arith, h.temps); tree = omega (arith, h.place); items = λ m le'. h.items m (omega arith) }

narrow_holding : (b : Bool) (u : ℕ) (s : Where) (m : ℕ) → suc (place_forks s) ≤ m → Narrow m (holding b u s)
narrow_holding b u (InLoc n) m h = none
narrow_holding b u (InArg n) m h = none
narrow_holding b u (InMem a) m h = narrow_saving b u a m h

held_forks : (b : Bool) (u : ℕ) (s : Where) → place_forks (held b u s) ≤ place_forks s
held_forks b u (InLoc n) = omega arith
held_forks b u (InArg n) = omega arith
held_forks b u (InMem a) = saved_forks b u a

pub ready_within : (b : Bool) {t m n f g : ℕ} {p : Located} {q : Lowered} → WithinFound t m f p → Within p.temps n g q
    → WithinReady t (1 + m + n) (1 + f + g) (ready_so b p q)
ready_within b {p = p} {q = q} h d =
    let one = next_one b q.temps in
    let less = held_forks b q.temps p.place in
    record {
      temps = omega (arith, h.temps, d.temps, one);
      root = omega (arith, h.place, d.tree, less);
      items = λ k le. behind (h.items k (omega arith))
          (behind (narrow_holding b q.temps p.place k (omega (arith, h.place))) (d.items k (omega arith)));
    }

leaf_forks : (a : Tree) (u : ℕ) (c : Bool) → tree_forks (saved (not (is_leaf a && c)) u a) ≡ 0
leaf_forks (Num n) u true = refl
leaf_forks (Num n) u false = refl
leaf_forks (Gaddr n) u true = refl
leaf_forks (Gaddr n) u false = refl
leaf_forks (Loc n) u true = refl
leaf_forks (Loc n) u false = refl
leaf_forks (Arg n) u true = refl
leaf_forks (Arg n) u false = refl
leaf_forks (Indir i a) u c = refl
leaf_forks (Conv i a) u c = refl
leaf_forks (Neg a) u c = refl
leaf_forks (Com a) u c = refl
leaf_forks (Bin op a b) u c = refl

alone_forks : (a : Tree) (u : ℕ) → tree_forks (saved (not (is_leaf a)) u a) ≡ 0
alone_forks (Num n) u = refl
alone_forks (Gaddr n) u = refl
alone_forks (Loc n) u = refl
alone_forks (Arg n) u = refl
alone_forks (Indir i a) u = refl
alone_forks (Conv i a) u = refl
alone_forks (Neg a) u = refl
alone_forks (Com a) u = refl
alone_forks (Bin op a b) u = refl

pub store_drop_ends : {t n f : ℕ} {r : Assignable} → WithinReady t n f r → Ends 0 t n f (store_drop r)
store_drop_ends {r = r} h =
    let most = assign_forks r.type r.place r.value in
    record { temps = omega (arith, h.temps); items = λ k le. behind (h.items k le) (next (omega (arith, h.root, most)) none) }

store_low_at_within : (s : Where) {t n f : ℕ} {r : Assignable} → suc (place_forks s + tree_forks r.value) ≤ f → WithinReady t n f r
    → Within t n f (store_low_at s r)
store_low_at_within (InLoc x) {r = r} root h =
    let same = fitted_forks r.type r.value in
    record { temps = omega (arith, h.temps); tree = omega arith; items = λ k le. behind (h.items k le) (next (omega arith) none) }
store_low_at_within (InArg x) {r = r} root h =
    let same = fitted_forks r.type r.value in
    record { temps = omega (arith, h.temps); tree = omega arith; items = λ k le. behind (h.items k le) (next (omega arith) none) }
store_low_at_within (InMem a) {r = r} root h =
    let same = fitted_forks r.type r.value in
    record {
      temps = omega (arith, h.temps);
      tree = omega arith;
      items = λ k le. behind (h.items k le) (next (omega arith) (next (omega arith) none));
    }

pub store_low_within : {t n f : ℕ} {r : Assignable} → WithinReady t n f r → Within t n f (store_low r)
store_low_within {r = r} h = store_low_at_within r.place h.root h

step_forks : (by : Direction) (v w : Tree) → tree_forks (step by v w) ≡ suc (tree_forks v + tree_forks w)
step_forks directions.Up v w = refl
step_forks directions.Down v w = refl

module _ (size count : ℕ) where
  kept_forks : (is : List Item) (s : Where) (u : ℕ) → place_forks (held (must_keep size count is s) u s) ≡ 0
  kept_forks is (InLoc n) u = refl
  kept_forks is (InArg n) u = refl
  kept_forks [] (InMem a) u = alone_forks a u
  kept_forks (i ∷ is) (InMem a) u = leaf_forks a u (stable size a)

  -- a place that is read and then assigned to
  pub update_within : (c : Bool) (o : Tree → Tree → Tree) → AddsTwo o → {t m n f g : ℕ} {p : Located} {q : Lowered}
      → WithinFound t m f p → Within p.temps n g q
      → WithinReady t (1 + m + n) (1 + f + g) (update_so (must_keep size count q.items p.place) c o p q)
  update_within c o two {p = p} {q = q} h d =
      let b : Bool = must_keep size count q.items p.place in
      let s : Where = held b q.temps p.place in
      let u : ℕ = next_if b q.temps in
      let old : Tree = read_from p.type s in
      let one = next_one b q.temps in
      let one_more = next_one c u in
      let no_forks = kept_forks q.items p.place q.temps in
      let less = read_forks p.type s in
      let less_still = saved_forks c u old in
      let most = two (saved c u old) q.tree in
      record {
        temps = omega (arith, h.temps, d.temps);
        root = omega (arith, h.place, d.tree);
        items = λ k le.
            let last = behind (narrow_saving c u old k (omega (arith, h.place))) (d.items k (omega arith)) in
            behind (h.items k (omega arith)) (behind (narrow_holding b q.temps p.place k (omega (arith, h.place))) last);
      }

  pub step_within : (by : Direction) {t m f : ℕ} {p : Located} → WithinFound t m f p → WithinReady t (1 + m) (1 + f) (step_ready size count by p)
  step_within by {p = p} h =
      let b : Bool = must_keep size count [] p.place in
      let s : Where = held b p.temps p.place in
      let one = next_one b p.temps in
      let no_forks = kept_forks [] p.place p.temps in
      let less = read_forks p.type s in
      let most = step_forks by (read_from p.type s) (Num (scale p.type)) in
      record {
        temps = omega (arith, h.temps);
        root = omega (arith, h.place);
        items = λ k le. behind (h.items k (omega arith)) (behind (narrow_holding b p.temps p.place k (omega (arith, h.place))) none);
      }

  pub step_low_within : (m : Moment) (by : Direction) {t n f : ℕ} {p : Located} → WithinFound t n f p
      → Within t (1 + n) (1 + f) (step_low size count m by p)
  step_low_within moments.Before by {p = p} h =
      let b : Bool = must_keep size count [] p.place in
      let s : Where = held b p.temps p.place in
      let u : ℕ = next_if b p.temps in
      let one = next_one b p.temps in
      let no_forks = kept_forks [] p.place p.temps in
      let less = read_forks p.type s in
      let new : Tree = step_tree size count by p.type (Loc u) in
      let most = assign_forks p.type s new in
      let same = step_forks by (Loc u) (Num (scale p.type)) in
      record {
        temps = omega (arith, h.temps);
        tree = omega arith;
        items = λ k le.
            let last = next (omega (arith, h.place)) (next (omega (arith, h.place)) none) in
            behind (h.items k (omega arith)) (behind (narrow_holding b p.temps p.place k (omega (arith, h.place))) last);
      }
  step_low_within moments.After by h = store_low_within (step_within by h)
