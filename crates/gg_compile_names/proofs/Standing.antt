-- The labels of a program stand in its code and in its data area.
use Rattle.std.proofs.Common.{◌≡◌, ℕ, zero, suc, ◌==◌, List, [], ◌∷◌, ◌++◌, Some, Bool, true, false, refl, sym, ap, subst}
use Rattle.std.specs.Prelude.{◌||◌, slice_get}
use Rattle.std.specs.Str.{bytes_eq}
use Rattle.std.proofs.lemmas.Bool.{eqb-true, true≢false, or_left, or_right}
use Rattle.std.proofs.lemmas.Slice.Eq.{bytes_eq-Decides}
use Rattle.std.proofs.lemmas.Option.{same_Some}
use Rattle.tree_core.specs.declared.program.TreeItem.{TreeItem}
use Rattle.tree_core.specs.declared.program.TreeFn.{TreeFn}
use Rattle.tree_core.specs.declared.program.TreeProgram.{TreeProgram}
use Rattle.tree_core.specs.Names.{label_name, function_label}
use Rattle.vax_core.specs.declared.code.CodeItem.{CodeItem}
use Rattle.vax_core.specs.declared.code.CodeItem.TheVariants as item_kind
use Rattle.vax_machine.specs.Labels.{is_label, has_label}
use Rattle.vax_frames.specs.Frames.{code_items, room_code, end_code}
use Rattle.gg_compile_law.specs.Framing.{FrameLayout, homed_code}
use Rattle.gg_compile_law.specs.Programs.{stands_in}
use Rattle.gg_compile_law.specs.Assembled.{IsTreeCode, nothing, label, root, IsFunctionCode, AreFunctions, none, more}
use Rattle.gg_compile_law.proofs.Loaded.{has_object}
use Rattle.gg_compile_names.specs.Claims.{LabelsStand}

front : (xs ys : List CodeItem) (name : List ℕ) → has_label xs name ≡ true → has_label (xs ++ ys) name ≡ true
front [] ys name h = absurd (true≢false (sym h))
front (x ∷ xs) ys name h = by (is_label x name) h (λ g. front xs ys name g)
  where
    by : (b : Bool) → (b || has_label xs name) ≡ true → (has_label xs name ≡ true → has_label (xs ++ ys) name ≡ true) → (b || has_label (xs ++ ys) name) ≡ true
    by true g go = refl
    by false g go = go g

behind : (xs ys : List CodeItem) (name : List ℕ) → has_label ys name ≡ true → has_label (xs ++ ys) name ≡ true
behind [] ys name h = h
behind (x ∷ xs) ys name h = or_right (is_label x name) (has_label (xs ++ ys) name) (behind xs ys name h)

module _ (q : TreeProgram) where
  tree_label : (g : TreeFn) (y : FrameLayout) (l : ℕ) (is : List TreeItem) (body : List CodeItem) → IsTreeCode q g y is body → stands_in is l ≡ true → has_label body (label_name l) ≡ true
  tree_label g y l is body nothing e = absurd (true≢false (sym e))
  tree_label g y l is body (root w js instrs code f h) e = behind (code_items (homed_code y instrs)) code (label_name l) (tree_label g y l js code h e)
  tree_label g y l is body (label k js code h) e = by (k == l) refl e (λ f. tree_label g y l js code h f)
    where
      by : (b : Bool) → (k == l) ≡ b → (b || stands_in js l) ≡ true → (stands_in js l ≡ true → has_label code (label_name l) ≡ true)
          → has_label (item_kind.Label (label_name k) ∷ code) (label_name l) ≡ true
      by true eq f go = or_left (bytes_eq (label_name k) (label_name l)) (has_label code (label_name l)) ((bytes_eq-Decides (label_name k) (label_name l)).1 (ap label_name (eqb-true k l eq)))
      by false eq f go = or_right (bytes_eq (label_name k) (label_name l)) (has_label code (label_name l)) (go f)

  -- a function's own label, and those of its trees
  function_here : (g : TreeFn) (part : List CodeItem) → IsFunctionCode q g part → has_label part (function_label g.name) ≡ true
  function_here g part h =
      subst (λ (x : List CodeItem). has_label x (function_label g.name) ≡ true) (sym h.part_is)
      (or_left (bytes_eq (function_label g.name) (function_label g.name)) _ ((bytes_eq-Decides (function_label g.name) (function_label g.name)).1 refl))

  trees_here : (g : TreeFn) (part : List CodeItem) (l : ℕ) → IsFunctionCode q g part → stands_in g.items l ≡ true → has_label part (label_name l) ≡ true
  trees_here g part l h e =
      subst (λ (x : List CodeItem). has_label x (label_name l) ≡ true) (sym h.part_is)
      (or_right (bytes_eq (function_label g.name) (label_name l)) _
      (behind (code_items (room_code h.layout.words)) (h.body ++ code_items end_code) (label_name l)
      (front h.body (code_items end_code) (label_name l) (tree_label g h.layout l g.items h.body h.is_body e))))

  functions_stand : (gs : List TreeFn) (code : List CodeItem) → AreFunctions q gs code → (n : ℕ) (f : TreeFn) → slice_get gs n ≡ Some f
      → has_label code (function_label f.name) ≡ true
  functions_stand gs code none n f e = absurd (cc)
  functions_stand gs code (more g hs part rest h others) zero f e =
      front part rest (function_label f.name) (subst (λ (x : TreeFn). has_label part (function_label x.name) ≡ true) (same_Some g f e) (function_here g part h))
  functions_stand gs code (more g hs part rest h others) (suc n) f e = behind part rest (function_label f.name) (functions_stand hs rest others n f e)

  trees_stand : (gs : List TreeFn) (code : List CodeItem) → AreFunctions q gs code → (n l : ℕ) (f : TreeFn) → slice_get gs n ≡ Some f → stands_in f.items l ≡ true
      → has_label code (label_name l) ≡ true
  trees_stand gs code none n l f e s = absurd (cc)
  trees_stand gs code (more g hs part rest h others) zero l f e s =
      front part rest (label_name l) (trees_here g part l h (subst (λ (x : TreeFn). stands_in x.items l ≡ true) (sym (same_Some g f e)) s))
  trees_stand gs code (more g hs part rest h others) (suc n) l f e s = behind part rest (label_name l) (trees_stand hs rest others n l f e s)

pub labels_stand : LabelsStand
labels_stand q code h = record {
  names = record {
    objects = λ n o e. has_object q.objects q.objects n o e;
    functions = λ n f e. functions_stand q q.functions code h n f e;
  };
  trees = λ n l f e s. trees_stand q q.functions code h n l f e s;
}
