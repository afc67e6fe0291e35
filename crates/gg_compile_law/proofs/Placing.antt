-- Where the items of a code stand.
use Rattle.std.proofs.Common.{◌≡◌, ℕ, zero, suc, ◌+◌, List, [], ◌∷◌, ◌++◌, length, drop, Option, Some, None, refl, ap, subst, ◌∙◌, arith}
use Rattle.std.specs.Prelude.{slice_get}
use Rattle.std.proofs.lemmas.List.{append_assoc}
use Rattle.vax_core.specs.declared.code.Instr.{Instr}
use Rattle.vax_core.specs.declared.code.CodeItem.{CodeItem}
use Rattle.vax_core.specs.declared.code.CodeItem.TheVariants as item_kind
use Rattle.vax_machine.specs.declared.turn.Stop.{Stop}
use Rattle.vax_machine.specs.State.{State}
use Rattle.vax_machine.specs.Labels.{skipped, next_item}
use Rattle.vax_machine.specs.Step.{Next, act, at_item, next_of, next_where}
use Rattle.vax_machine.specs.Running.{behind, steps, state_run}
use Rattle.gg_base.specs.Runs.{one_first}
use Rattle.tree_core.specs.declared.tree.Leaf.{Leaf}
use Rattle.tree_core.specs.declared.program.TreeItem.{TreeItem}
use Rattle.tree_core.specs.declared.program.TreeItem.TheVariants as tree_item
use Rattle.tree_core.specs.declared.program.TreeFn.{TreeFn}
use Rattle.tree_core.specs.declared.program.TreeProgram.{TreeProgram}
use Rattle.tree_core.specs.Names.{label_name}
use Rattle.vax_machine_lists.specs.Runs.{HasInstrs}
use Rattle.vax_frames_law.specs.vax_frames.specs.Frames.{code_items, end_code}
use Rattle.gg_compile_law.specs.Framing.{FrameLayout, homed_code}
use Rattle.gg_compile_law.specs.Programs.{HasItems, IsSelected, IsBody, nothing, label, root, StandsAt}

pub has_instrs : (code : List CodeItem) (place : ℕ) (is : List Instr) (rest : List CodeItem) → HasItems code place (code_items is ++ rest) → HasInstrs code place is
has_instrs code place [] rest h = tt
has_instrs code place (i ∷ is) rest h = (h.0, has_instrs code (place + 1) is rest h.1)

pub has_rest : (code : List CodeItem) (place : ℕ) (is : List Instr) (rest : List CodeItem) → HasItems code place (code_items is ++ rest) → HasItems code (place + length is) rest
has_rest code place [] rest h = let e : place ≡ place + 0 = omega arith in subst (λ (p : ℕ). HasItems code p rest) e h
has_rest code place (i ∷ is) rest h =
    let e : place + 1 + length is ≡ place + length (i ∷ is) = omega arith in
    subst (λ (p : ℕ). HasItems code p rest) e (has_rest code (place + 1) is rest h.1)

-- ---- a label is skipped

skips_label : (code : List CodeItem) (place : ℕ) (name : List ℕ) → slice_get code place ≡ Some (item_kind.Label name) → skipped (drop place code) ≡ skipped (drop (suc place) code) + 1
skips_label [] zero name e = absurd cc
skips_label [] (suc p) name e = absurd cc
skips_label (x ∷ xs) (suc p) name e = skips_label xs p name e
skips_label (x ∷ xs) zero name e = by x e
  where
    by : (x : CodeItem) → ◌≡◌ {A = Option CodeItem} (Some x) (Some (item_kind.Label name)) → skipped (x ∷ xs) ≡ skipped xs + 1
    by (item_kind.Label n) e = refl
    by (item_kind.Globl n) e = absurd cc
    by (item_kind.Mask n) e = absurd cc
    by (item_kind.Instr i) e = absurd cc

same_next : (m : State) (name : List ℕ) → slice_get m.items m.place ≡ Some (item_kind.Label name) → next_item m.items m.place ≡ next_item m.items (m.place + 1)
same_next m name e =
    let s : m.place + 1 ≡ suc m.place = omega arith in
    let k : skipped (drop (m.place + 1) m.items) ≡ skipped (drop (suc m.place) m.items) = ap (λ (p : ℕ). skipped (drop p m.items)) s in
    omega (arith, skips_label m.items m.place name e, k)

same_at : (m : State) (p q : ℕ) (o : Option CodeItem) → at_item o p m ≡ at_item o p (record m { place = q })
same_at m p q None = refl
same_at m p q (Some (item_kind.Label n)) = refl
same_at m p q (Some (item_kind.Globl n)) = refl
same_at m p q (Some (item_kind.Mask n)) = refl
same_at m p q (Some (item_kind.Instr i)) = refl

same_act : (m : State) (name : List ℕ) → slice_get m.items m.place ≡ Some (item_kind.Label name) → act m ≡ act (record m { place = m.place + 1 })
unfolding act
same_act m name e =
    ap (λ (p : ℕ). at_item (slice_get m.items p) p m) (same_next m name e)
    ∙ same_at m (next_item m.items (m.place + 1)) (m.place + 1) (slice_get m.items (next_item m.items (m.place + 1)))

same_step : (m n : State) (o : Option Stop) → act m ≡ act n → next_where o m ≡ next_where o n
same_step m n None e = ap next_of e
same_step m n (Some x) e = refl

-- the run of a state that stands at a label is the run behind the label
pub label_skipped : (m : State) (name : List ℕ) → slice_get m.items m.place ≡ Some (item_kind.Label name) → state_run m ≡ state_run (record m { place = m.place + 1 })
label_skipped m name e = λ i n. by n i
  where
    by : (n : ℕ) → steps n m ≡ steps n (record m { place = m.place + 1 })
    by zero = refl
    by (suc n) = ap (λ (x : Next). one_first (behind x (steps n))) (same_step m (record m { place = m.place + 1 }) m.over (same_act m name e))

-- ---- the code of a function's items

pub record RootAt (program : TreeProgram) (code : List CodeItem) (g : TreeFn) (y : FrameLayout) (place : ℕ) (w : List Leaf) (is : List TreeItem) : Type 0 where
  pub instrs : List Instr
  pub selected : IsSelected program g y w instrs
  pub stand : HasInstrs code place (homed_code y instrs)
  pub rest : StandsAt program code g y (place + length (homed_code y instrs)) is

pub record LabelAt (program : TreeProgram) (code : List CodeItem) (g : TreeFn) (y : FrameLayout) (place l : ℕ) (is : List TreeItem) : Type 0 where
  pub stands : slice_get code place ≡ Some (item_kind.Label (label_name l))
  pub rest : StandsAt program code g y (place + 1) is

module _ (program : TreeProgram) (code : List CodeItem) (g : TreeFn) (y : FrameLayout) (place : ℕ) where
  end_by : (body : List CodeItem) → IsBody program g y [] body → HasItems code place (body ++ code_items end_code) → HasItems code place (code_items end_code)
  end_by body nothing h = h

  label_by : (l : ℕ) (is : List TreeItem) (body : List CodeItem) → IsBody program g y (tree_item.Label l ∷ is) body → HasItems code place (body ++ code_items end_code)
      → LabelAt program code g y place l is
  label_by l is body (label l' is' rest b) h = record { stands = h.0; rest = record { body = rest; is_body = b; there = h.1 } }

  root_by : (w : List Leaf) (is : List TreeItem) (body : List CodeItem) → IsBody program g y (tree_item.Root w ∷ is) body → HasItems code place (body ++ code_items end_code)
      → RootAt program code g y place w is
  root_by w is body (root w' is' instrs rest s b) h =
      let homed = homed_code y instrs in
      let there = subst (λ (x : List CodeItem). HasItems code place x) (append_assoc (code_items homed) rest (code_items end_code)) h in
      record {
        instrs = instrs;
        selected = s;
        stand = has_instrs code place homed (rest ++ code_items end_code) there;
        rest = record { body = rest; is_body = b; there = has_rest code place homed (rest ++ code_items end_code) there };
      }

  pub end_at : StandsAt program code g y place [] → HasInstrs code place end_code
  end_at h = let e = end_by h.body h.is_body h.there in (e.0, (e.1.0, tt))

  pub label_at : (l : ℕ) (is : List TreeItem) → StandsAt program code g y place (tree_item.Label l ∷ is) → LabelAt program code g y place l is
  label_at l is h = label_by l is h.body h.is_body h.there

  pub root_at : (w : List Leaf) (is : List TreeItem) → StandsAt program code g y place (tree_item.Root w ∷ is) → RootAt program code g y place w is
  root_at w is h = root_by w is h.body h.is_body h.there
