-- The labels of a program's code differ.
use Rattle.std.proofs.Common.{◌≡◌, ◌⊎◌, inl, inr, ℕ, suc, ◌+◌, ◌^◌, ◌<◌, ◌≤◌, Bool, true, false, cond, List, [], ◌∷◌, ◌++◌, Option, Some, None, refl, sym, ap, subst, ◌∙◌, arith}
use Rattle.std.specs.Prelude.{slice_get, codes, ◌||◌, ◌==◌}
use Rattle.std.specs.List.{filter_map}
use Rattle.std.specs.Str.{bytes_eq}
use Rattle.std.specs.Fmt.{decimal}
use Rattle.std.proofs.lemmas.Bool.{eqb-true, eq-eqb, true≢false, false_from_ne_true}
use Rattle.std.proofs.lemmas.Fmt.{decimal_injective}
use Rattle.std.proofs.lemmas.Slice.Eq.{bytes_eq-Decides}
use Rattle.std.specs.List.{cons_option}
use Rattle.gg_base.proofs.Facts.{same_bool, tail_same}
use Rattle.vax_core.specs.declared.code.Instr.{Instr}
use Rattle.vax_core.specs.declared.code.CodeItem.{CodeItem}
use Rattle.vax_core.specs.declared.code.CodeItem.TheVariants as item_kind
use Rattle.vax_core.specs.First.{main_name, putchar_name}
use Rattle.vax_machine.specs.Labels.{getchar_name, is_service, is_label, has_label, double_label}
use Rattle.tree_core.specs.declared.tree.Leaf.{Leaf}
use Rattle.tree_core.specs.declared.program.TreeItem.{TreeItem}
use Rattle.tree_core.specs.declared.program.TreeItem.TheVariants as tree_item
use Rattle.tree_core.specs.declared.program.TreeFn.{TreeFn}
use Rattle.tree_core.specs.declared.program.TreeProgram.{TreeProgram}
use Rattle.tree_core.specs.Items.{times, all_labels}
use Rattle.tree_core.specs.Valid.{named, IsValid}
use Rattle.tree_core.proofs.Apart.{times-append}
use Rattle.tree_core.specs.Names.{label_name, function_label}
use Rattle.vax_frames_law.specs.vax_frames.specs.Frames.{room_code, end_code, code_items, frame_items}
use Rattle.gg_compile_law.specs.Framing.{FrameLayout, homed_code}
use Rattle.gg_compile_law.specs.Assembled.{IsTreeCode, nothing, label, root, IsFunctionCode, AreFunctions, none, more}
use Rattle.gg_compile_law.specs.Names.{AreSmall, HaveSmall, CodeLabelsDiffer, MainStands}

-- ---- how often a label stands

pub count : List ℕ → List CodeItem → ℕ
count name [] = 0
count name (x ∷ xs) = cond (is_label x name) 1 0 + count name xs

count_append : (name : List ℕ) (xs ys : List CodeItem) → count name (xs ++ ys) ≡ count name xs + count name ys
unfolding count
count_append name [] ys = omega arith
count_append name (x ∷ xs) ys = let h = count_append name xs ys in omega (arith, h)

no_labels : (name : List ℕ) (is : List Instr) → count name (code_items is) ≡ 0
unfolding count
no_labels name [] = refl
no_labels name (i ∷ is) = let h = no_labels name is in omega (arith, h)

pub stands_once : (name : List ℕ) (xs : List CodeItem) → has_label xs name ≡ true → 1 ≤ count name xs
unfolding count
stands_once name [] h = absurd (true≢false (sym h))
stands_once name (x ∷ xs) h = by (is_label x name) h (λ g. stands_once name xs g)
  where
    by : (b : Bool) → (b || has_label xs name) ≡ true → (has_label xs name ≡ true → 1 ≤ count name xs) → 1 ≤ cond b 1 0 + count name xs
    by true g go = omega arith
    by false g go = let lt = go g in omega (arith, lt)

counted : (name : List ℕ) (xs : List CodeItem) → 1 ≤ count name xs → has_label xs name ≡ true
unfolding count
counted name [] lt = absurd (omega (arith, lt))
counted name (x ∷ xs) lt = by (is_label x name) lt (λ g. counted name xs g)
  where
    by : (b : Bool) → 1 ≤ cond b 1 0 + count name xs → (1 ≤ count name xs → has_label xs name ≡ true) → (b || has_label xs name) ≡ true
    by true g go = refl
    by false g go = go (omega (arith, g))

-- each label stands once, and a service's name not at all
abbrev Once : List CodeItem → Type 0
Once xs = ((name : List ℕ) → count name xs ≤ 1) × ((name : List ℕ) → is_service name ≡ true → count name xs ≡ 0)

once_behind : (x : CodeItem) (xs : List CodeItem) → Once (x ∷ xs) → Once xs
unfolding count
once_behind x xs h = ((λ name. let le = h.0 name in omega (arith, le)), (λ name e. let z = h.1 name e in omega (arith, z)))

here : (n : List ℕ) (xs : List CodeItem) → count n (item_kind.Label n ∷ xs) ≡ 1 + count n xs
unfolding count
here n xs = ap (λ (b : Bool). cond b 1 0 + count n xs) ((bytes_eq-Decides n n).1 refl)

no_double : (xs : List CodeItem) → Once xs → double_label xs ≡ None
no_double [] h = refl
no_double (item_kind.Globl n ∷ xs) h = no_double xs (once_behind (item_kind.Globl n) xs h)
no_double (item_kind.Mask n ∷ xs) h = no_double xs (once_behind (item_kind.Mask n) xs h)
no_double (item_kind.Instr n ∷ xs) h = no_double xs (once_behind (item_kind.Instr n) xs h)
no_double (item_kind.Label n ∷ xs) h =
    let at = here n xs in
    let le = h.0 n in
    let service : is_service n ≡ false = false_from_ne_true (is_service n) (λ e. let z = h.1 n e in omega (arith, z, at)) in
    let other : has_label xs n ≡ false = false_from_ne_true (has_label xs n) (λ e. let there = stands_once n xs e in omega (arith, le, at, there)) in
    ap (λ (b : Bool). cond (b || has_label xs n) (Some n) (double_label xs)) service ∙ ap (λ (b : Bool). cond b (Some n) (double_label xs)) other
    ∙ no_double xs (once_behind (item_kind.Label n) xs h)

-- ---- the labels of functions and of trees

pub fun_count : List ℕ → List TreeFn → ℕ
fun_count name [] = 0
fun_count name (f ∷ fs) = cond (bytes_eq (function_label f.name) name) 1 0 + fun_count name fs

tree_count : List ℕ → List TreeItem → ℕ
tree_count name [] = 0
tree_count name (tree_item.Label l ∷ is) = cond (bytes_eq (label_name l) name) 1 0 + tree_count name is
tree_count name (tree_item.Root w ∷ is) = tree_count name is

pub trees_count : List ℕ → List TreeFn → ℕ
trees_count name [] = 0
trees_count name (f ∷ fs) = tree_count name f.items + trees_count name fs

module _ (program : TreeProgram) (name : List ℕ) where
  body_count : (g : TreeFn) (y : FrameLayout) (is : List TreeItem) (code : List CodeItem) → IsTreeCode program g y is code → count name code ≡ tree_count name is
  unfolding count tree_count
  body_count g y is code nothing = refl
  body_count g y is code (label l js rest h) = ap (λ (n : ℕ). cond (bytes_eq (label_name l) name) 1 0 + n) (body_count g y js rest h)
  body_count g y is code (root w js instrs rest e h) =
      let a = count_append name (code_items (homed_code y instrs)) rest in
      let z = no_labels name (homed_code y instrs) in
      let r = body_count g y js rest h in
      omega (arith, a, z, r)

  frame_count : (g : TreeFn) (part : List CodeItem) → IsFunctionCode program g part → count name part ≡ cond (bytes_eq (function_label g.name) name) 1 0 + tree_count name g.items
  unfolding count
  frame_count g part h =
      let inside = code_items (room_code h.layout.words) ++ (h.body ++ code_items end_code) in
      let a = count_append name (code_items (room_code h.layout.words)) (h.body ++ code_items end_code) in
      let b = count_append name h.body (code_items end_code) in
      let z = no_labels name (room_code h.layout.words) in
      let y = no_labels name end_code in
      let t = body_count g h.layout g.items h.body h.is_body in
      let whole : count name (frame_items (function_label g.name) h.layout.mask h.layout.words h.body) ≡ cond (bytes_eq (function_label g.name) name) 1 0 + count name inside = omega arith in
      ap (λ (x : List CodeItem). count name x) h.part_is ∙ whole ∙ omega (arith, a, b, z, y, t)

  pub all_count : (fs : List TreeFn) (code : List CodeItem) → AreFunctions program fs code → count name code ≡ fun_count name fs + trees_count name fs
  unfolding count fun_count trees_count
  all_count fs code none = refl
  all_count fs code (more g gs part rest f others) =
      let a = count_append name part rest in
      let h = frame_count g part f in
      let r = all_count gs rest others in
      omega (arith, a, h, r)

-- ---- functions

same_test : (a b : List ℕ) → bytes_eq (function_label a) (function_label b) ≡ bytes_eq a b
same_test a b =
    same_bool (bytes_eq (function_label a) (function_label b)) (bytes_eq a b)
    (λ e. (bytes_eq-Decides a b).1 (tail_same 95 95 a b ((bytes_eq-Decides (function_label a) (function_label b)).0 e)))
    (λ e. (bytes_eq-Decides (function_label a) (function_label b)).1 (ap function_label ((bytes_eq-Decides a b).0 e)))

fun_named : (x : List ℕ) (fs : List TreeFn) → fun_count (function_label x) fs ≡ named x fs
unfolding fun_count
fun_named x [] = refl
fun_named x (f ∷ fs) = let h = fun_named x fs in ap (λ (b : Bool). cond b 1 0 + fun_count (function_label x) fs) (same_test f.name x) ∙ ap (λ (n : ℕ). cond (bytes_eq f.name x) 1 0 + n) h

-- none stands there, or it is one's label
abbrev FromFunction : List ℕ → List TreeFn → Type 0
FromFunction name fs = (fun_count name fs ≡ 0) ⊎ ((x : List ℕ) × (function_label x ≡ name))

from_function : (name : List ℕ) (fs : List TreeFn) → FromFunction name fs
unfolding fun_count
from_function name [] = inl refl
from_function name (f ∷ fs) = by (bytes_eq (function_label f.name) name) refl (from_function name fs)
  where
    by : (b : Bool) → bytes_eq (function_label f.name) name ≡ b → FromFunction name fs → (cond b 1 0 + fun_count name fs ≡ 0) ⊎ ((x : List ℕ) × (function_label x ≡ name))
    by true e h = inr (f.name, (bytes_eq-Decides (function_label f.name) name).0 e)
    by false e (inl z) = inl (omega (arith, z))
    by false e (inr x) = inr x

pub from_function_at : (name : List ℕ) (fs : List TreeFn) → (fun_count name fs ≡ 0) ⊎ ((k : ℕ) × (f : TreeFn) × (slice_get fs k ≡ Some f) × (function_label f.name ≡ name))
unfolding fun_count
from_function_at name [] = inl refl
from_function_at name (g ∷ fs) = by (bytes_eq (function_label g.name) name) refl (from_function_at name fs)
  where
    by : (b : Bool) → bytes_eq (function_label g.name) name ≡ b → (fun_count name fs ≡ 0) ⊎ ((k : ℕ) × (f : TreeFn) × (slice_get fs k ≡ Some f) × (function_label f.name ≡ name))
        → (cond b 1 0 + fun_count name fs ≡ 0) ⊎ ((k : ℕ) × (f : TreeFn) × (slice_get (g ∷ fs) k ≡ Some f) × (function_label f.name ≡ name))
    by true e h = inr (0, g, refl, (bytes_eq-Decides (function_label g.name) name).0 e)
    by false e (inl z) = inl (omega (arith, z))
    by false e (inr x) = inr (suc x.0, x.1, x.2, x.3)

-- ---- trees

label_test : (m l : ℕ) → m < 2 ^ 64 → l < 2 ^ 64 → bytes_eq (label_name m) (label_name l) ≡ (m == l)
label_test m l a b =
    same_bool (bytes_eq (label_name m) (label_name l)) (m == l)
    (λ e. eq-eqb m l (decimal_injective m l a b (tail_same 76 76 (decimal m) (decimal l) ((bytes_eq-Decides (label_name m) (label_name l)).0 e))))
    (λ e. (bytes_eq-Decides (label_name m) (label_name l)).1 (ap label_name (eqb-true m l e)))

module _ (h : TreeItem → Option ℕ) (on_label : (l : ℕ) → h (tree_item.Label l) ≡ Some l) (on_root : (w : List Leaf) → h (tree_item.Root w) ≡ None) where
  tree_times : (l : ℕ) (is : List TreeItem) → l < 2 ^ 64 → AreSmall is → tree_count (label_name l) is ≡ times l (filter_map h is)
  unfolding tree_count
  tree_times l [] low small = refl
  tree_times l (tree_item.Root w ∷ is) low small =
      tree_times l is low small ∙ sym (ap (λ (o : Option ℕ). times l (cons_option o (filter_map h is))) (on_root w))
  tree_times l (tree_item.Label m ∷ is) low small =
      ap (λ (b : Bool). cond b 1 0 + tree_count (label_name l) is) (label_test m l small.0 low)
      ∙ ap (λ (n : ℕ). cond (m == l) 1 0 + n) (tree_times l is low small.1)
      ∙ sym (ap (λ (o : Option ℕ). times l (cons_option o (filter_map h is))) (on_label m))

  tree_before : (l : ℕ) (is : List TreeItem) (ms : List ℕ) → l < 2 ^ 64 → AreSmall is → tree_count (label_name l) is + times l ms ≡ times l (filter_map h is ++ ms)
  tree_before l is ms low small = ap (λ (n : ℕ). n + times l ms) (tree_times l is low small) ∙ sym (times-append l (filter_map h is) ms)

before_others : (l : ℕ) (f : TreeFn) (fs : List TreeFn) → l < 2 ^ 64 → AreSmall f.items → tree_count (label_name l) f.items + times l (all_labels fs) ≡ times l (all_labels (f ∷ fs))
before_others l f fs low small = tree_before _ (λ n. refl) (λ w. refl) l f.items (all_labels fs) low small

trees_times : (l : ℕ) (fs : List TreeFn) → l < 2 ^ 64 → HaveSmall fs → trees_count (label_name l) fs ≡ times l (all_labels fs)
unfolding trees_count
trees_times l [] low small = refl
trees_times l (f ∷ fs) low small = ap (λ (n : ℕ). tree_count (label_name l) f.items + n) (trees_times l fs low small.1) ∙ before_others l f fs low small.0

abbrev pub FromTree : ℕ → List ℕ → Type 0
FromTree n name = (n ≡ 0) ⊎ ((l : ℕ) × (l < 2 ^ 64) × (label_name l ≡ name))

from_tree : (name : List ℕ) (is : List TreeItem) → AreSmall is → FromTree (tree_count name is) name
unfolding tree_count
from_tree name [] small = inl refl
from_tree name (tree_item.Root w ∷ is) small = from_tree name is small
from_tree name (tree_item.Label m ∷ is) small = by (bytes_eq (label_name m) name) refl (from_tree name is small.1)
  where
    by : (b : Bool) → bytes_eq (label_name m) name ≡ b → FromTree (tree_count name is) name → FromTree (cond b 1 0 + tree_count name is) name
    by true e h = inr (m, small.0, (bytes_eq-Decides (label_name m) name).0 e)
    by false e (inl z) = inl (omega (arith, z))
    by false e (inr x) = inr x

pub from_trees : (name : List ℕ) (fs : List TreeFn) → HaveSmall fs → FromTree (trees_count name fs) name
unfolding trees_count
from_trees name [] small = inl refl
from_trees name (f ∷ fs) small = by (from_tree name f.items small.0) (from_trees name fs small.1)
  where
    by : FromTree (tree_count name f.items) name → FromTree (trees_count name fs) name → FromTree (tree_count name f.items + trees_count name fs) name
    by (inr x) h = inr x
    by (inl z) (inr x) = inr x
    by (inl z) (inl y) = inl (omega (arith, z, y))

-- ---- both

no_both : (x : List ℕ) (l : ℕ) (name : List ℕ) → function_label x ≡ name → label_name l ≡ name → ⊥
no_both x l name e f = apart 95 76 x (decimal l) (omega arith) (e ∙ sym f)
  where
    apart : (a b : ℕ) (xs ys : List ℕ) → b < a → a ∷ xs ≡ b ∷ ys → ⊥
    apart a b xs ys lt e = let same : a ≡ b = cc in omega (arith, lt, same)

module _ (program : TreeProgram) (valid : IsValid program) (small : HaveSmall program.functions) where
  fun_once : (name : List ℕ) → fun_count name program.functions ≤ 1
  fun_once name = by (from_function name program.functions)
    where
      by : FromFunction name program.functions → fun_count name program.functions ≤ 1
      by (inl z) = omega (arith, z)
      by (inr x) = subst (λ (n : List ℕ). fun_count n program.functions ≤ 1) x.1 (let e = fun_named x.0 program.functions in let le = valid.names.differ x.0 in omega (arith, e, le))

  trees_once : (name : List ℕ) → trees_count name program.functions ≤ 1
  trees_once name = by (from_trees name program.functions small)
    where
      by : FromTree (trees_count name program.functions) name → trees_count name program.functions ≤ 1
      by (inl z) = omega (arith, z)
      by (inr x) =
          subst (λ (n : List ℕ). trees_count n program.functions ≤ 1) x.2 (let e = trees_times x.0 program.functions x.1 small in let le = valid.labels_once x.0 in omega (arith, e, le))

  both_once : (name : List ℕ) → fun_count name program.functions + trees_count name program.functions ≤ 1
  both_once name = by (from_function name program.functions) (from_trees name program.functions small)
    where
      by : FromFunction name program.functions → FromTree (trees_count name program.functions) name → fun_count name program.functions + trees_count name program.functions ≤ 1
      by (inl z) t = let le = trees_once name in omega (arith, z, le)
      by (inr x) (inl z) = let le = fun_once name in omega (arith, z, le)
      by (inr x) (inr l) = absurd (no_both x.0 l.0 name x.1 l.2)

  no_service_of : (x : List ℕ) (name : List ℕ) → named x program.functions ≡ 0 → name ≡ function_label x → fun_count name program.functions + trees_count name program.functions ≡ 0
  no_service_of x name z e = by (from_trees name program.functions small)
    where
      functions : fun_count name program.functions ≡ 0
      functions = ap (λ (n : List ℕ). fun_count n program.functions) e ∙ fun_named x program.functions ∙ z

      by : FromTree (trees_count name program.functions) name → fun_count name program.functions + trees_count name program.functions ≡ 0
      by (inl y) = omega (arith, functions, y)
      by (inr l) = absurd (no_both x l.0 name (sym e) l.2)

  no_service : (name : List ℕ) → is_service name ≡ true → fun_count name program.functions + trees_count name program.functions ≡ 0
  no_service name e = by (bytes_eq name putchar_name) refl e
    where
      by : (b : Bool) → bytes_eq name putchar_name ≡ b → (b || bytes_eq name getchar_name) ≡ true → fun_count name program.functions + trees_count name program.functions ≡ 0
      by true f g = no_service_of (codes "putchar") name valid.names.no_putchar ((bytes_eq-Decides name putchar_name).0 f)
      by false f g = no_service_of (codes "getchar") name valid.names.no_getchar ((bytes_eq-Decides name getchar_name).0 g)

pub code_labels_differ : CodeLabelsDiffer
code_labels_differ program code valid small h =
    no_double code (
      (λ name. let e = all_count program name program.functions code h in let le = both_once program valid small name in omega (arith, e, le)),
      (λ name s. let e = all_count program name program.functions code h in let z = no_service program valid small name s in omega (arith, e, z)),
    )

pub main_stands : MainStands
main_stands program code valid h =
    let e = all_count program main_name program.functions code h in
    let f : fun_count main_name program.functions ≡ named (codes "main") program.functions = fun_named (codes "main") program.functions in
    let one = valid.names.one_main in
    counted main_name code (omega (arith, e, f, one))
