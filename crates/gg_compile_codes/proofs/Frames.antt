-- The code that is selected of a program's trees is made of frames, and so it is guarded.
use Rattle.std.proofs.Common.{◌≡◌, ℕ, zero, suc, max, List, [], ◌∷◌, ◌++◌, ◌∙◌, map, Option, Some, None, Bool, true, false, refl, sym, ap, subst}
use Rattle.std.specs.Prelude.{◌==◌, ◌||◌, slice_get}
use Rattle.std.specs.List.{AllByRecursion as All}
use Rattle.std.specs.Option.{option_or}
use Rattle.std.specs.Str.{bytes_eq}
use Rattle.std.proofs.lemmas.Bool.{eqb-true, true≢false, or_left, or_right}
use Rattle.std.proofs.lemmas.Slice.Eq.{bytes_eq-Decides}
use Rattle.tree_core.specs.declared.tree.Leaf.{Leaf}
use Rattle.tree_core.specs.declared.program.TreeItem.{TreeItem}
use Rattle.tree_core.specs.declared.program.TreeItem.TheVariants as tree_item
use Rattle.tree_core.specs.declared.program.TreeFn.{TreeFn}
use Rattle.tree_core.specs.declared.program.TreeProgram.{TreeProgram}
use Rattle.tree_core.specs.Names.{label_name, function_label}
use Rattle.md_reader.specs.State.{Content}
use Rattle.gg_compile_laws.specs.sel_parse_effect.specs.Claims.{IsFit}
use Rattle.vax_core.specs.declared.code.CodeItem.{CodeItem}
use Rattle.vax_core.specs.declared.code.CodeItem.TheVariants as item_kind
use Rattle.vax_core.specs.declared.code.Code.{Code}
use Rattle.vax_core.specs.declared.code.Instr.{Instr}
use Rattle.vax_machine.specs.Labels.{has_label, is_label, double_label, double_area_label}
use Rattle.vax_machine.specs.Loading.{Loads, or_double}
use Rattle.vax_frames.specs.Frames.{code_items}
use Rattle.vax_frames_law.specs.Within.{StaysInside, KeepWithin, AreFrames, no_frame, one_more}
use Rattle.vax_frames_law.proofs.Masks.{frame_codes_keep_within}
use Rattle.vax_frames_law.proofs.Framing.{frames_are_guarded}
use Rattle.vax_target_meaning.specs.Vax.{vax}
use Rattle.gg_compile_law.specs.vax_homes_items.specs.vax_homes_law.specs.vax_homes.specs.declared.choose.Home.{Home}
use Rattle.gg_compile_law.specs.vax_homes_items.specs.vax_homes_law.specs.vax_homes.specs.Choosing.{homes_of}
use Rattle.gg_compile_law.specs.vax_homes_items.specs.vax_homes_law.specs.vax_homes.specs.Homing.{homed_item, homed}
use Rattle.gg_compile_law.specs.vax_homes_items.proofs.Items.{homed_bodies_are_like}
use Rattle.gg_compile_law.specs.Programs.{stands_in}
use Rattle.gg_compile_law.proofs.Validity.{IsIn, root_facts}
use Rattle.gg_compile_laws.specs.gg_compile_code.specs.Selecting.{AreSelected, nothing, label, tree, IsSelectedFunction, AreSelectedFunctions, none, more}
use Rattle.gg_compile_laws.specs.gg_compile_keeps.specs.Programs.{IsSelectable}
use Rattle.gg_compile_laws.specs.gg_compile_keeps.proofs.Leaves.{tree_inside}
use Rattle.gg_compile_laws.specs.gg_compile_keeps.proofs.Trees.{Among, behind, tree_of_it, selected}
use Rattle.gg_compile_laws.specs.gg_compile_keeps.proofs.Functions.{AreOf}
use Rattle.gg_compile_laws.specs.gg_compile_keeps.proofs.Law.{selected_codes_keep_trees}
use Rattle.gg_compile_codes.specs.Framed.{SelectedCodesAreFrames, SelectedCodesAreGuarded}
use Rattle.gg_compile_codes.proofs.Inside.{Inside, selected_inside}

-- ---- labels of trees stand in their function's body

label_behind : (is : List Instr) (rest : List CodeItem) (name : List ℕ) → has_label rest name ≡ true → has_label (code_items is ++ rest) name ≡ true
label_behind [] rest name h = h
label_behind (i ∷ is) rest name h = label_behind is rest name h

put_inside : (code : List CodeItem) (q : TreeProgram) (is : List Instr) (rest : List CodeItem) → All (Inside q code) is → StaysInside code rest
    → StaysInside code (code_items is ++ rest)
put_inside code q [] rest h k = k
put_inside code q (i ∷ is) rest h k = (h.0, put_inside code q is rest h.1 k)

-- with homes the labels of a body are the same, and so is where its instructions go
homed_inside : (hs : List Home) (body rest : List CodeItem) → StaysInside body rest → StaysInside (map (homed_item hs) body) (map (homed_item hs) rest)
homed_inside hs body [] h = tt
homed_inside hs body (item_kind.Label l ∷ rest) h = homed_inside hs body rest h
homed_inside hs body (item_kind.Globl l ∷ rest) h = homed_inside hs body rest h
homed_inside hs body (item_kind.Mask k ∷ rest) h = h
homed_inside hs body (item_kind.Instr i ∷ rest) h =
    ((λ label e never. (homed_bodies_are_like hs body).labels label ∙ h.0 label e never), homed_inside hs body rest h.1)

module _ (q : TreeProgram) (ok : IsSelectable q) (d : Content) (fit : IsFit vax d) where
  label_here : (locals used most l : ℕ) (is : List TreeItem) (body : List CodeItem) → AreSelected vax d q locals used is body most → stands_in is l ≡ true
      → has_label body (label_name l) ≡ true
  label_here locals used most l is body (nothing u) e = absurd (true≢false (sym e))
  label_here locals used most l is body (tree u k m w js instrs rest one h) e =
      label_behind instrs rest (label_name l) (label_here locals (max u k) m l js rest h e)
  label_here locals used most l is body (label u m k js rest h) e = by (k == l) refl e (λ f. label_here locals u m l js rest h f)
    where
      by : (b : Bool) → (k == l) ≡ b → (b || stands_in js l) ≡ true → (stands_in js l ≡ true → has_label rest (label_name l) ≡ true)
          → has_label (item_kind.Label (label_name k) ∷ rest) (label_name l) ≡ true
      by true eq f go =
          or_left (bytes_eq (label_name k) (label_name l)) (has_label rest (label_name l)) ((bytes_eq-Decides (label_name k) (label_name l)).1 (ap label_name (eqb-true k l eq)))
      by false eq f go = or_right (bytes_eq (label_name k) (label_name l)) (has_label rest (label_name l)) (go f)

  module _ (n : ℕ) (g : TreeFn) (there : slice_get q.functions n ≡ Some g) (code : List CodeItem)
      (labels : (l : ℕ) → stands_in g.items l ≡ true → has_label code (label_name l) ≡ true) where
    body_inside : (used most : ℕ) (is : List TreeItem) (body : List CodeItem) → Among q ok d fit n g there is → AreSelected vax d q g.locals used is body most
        → StaysInside code body
    body_inside used most is body sub (nothing u) = tt
    body_inside used most is body sub (label u m l js rest h) =
        body_inside u m js rest (behind q ok d fit n g there (tree_item.Label l) js sub) h
    body_inside used most is body sub (tree u k m w js instrs rest one h) =
        let at = sub w (0, refl) in
        put_inside code q instrs rest
        (selected_inside q code d g.locals _ instrs k
        (tree_inside code w (tree_of_it q ok d fit n g there w at).stands.0 (λ l e. labels l ((root_facts q ok.valid n g there w at).target l e)))
        (selected q ok d fit n g there w at instrs k one))
        (body_inside (max u k) m js rest (behind q ok d fit n g there (tree_item.Root w) js sub) h)

  function_within : (n : ℕ) (g : TreeFn) → slice_get q.functions n ≡ Some g → (part : List CodeItem) (s : IsSelectedFunction vax d q g part)
      → KeepWithin (homed g.wanted s.body) s.framed.mask (homed g.wanted s.body)
  function_within n g there part s =
      (frame_codes_keep_within g.name s.words (homed g.wanted s.body) part s.framed
      (homed_inside (homes_of g.wanted s.body) s.body s.body
      (body_inside n g there s.body (λ l e. label_here g.locals g.locals s.words l g.items s.body s.selected e) g.locals s.words g.items s.body (λ w at. at) s.selected))).1

  frames : (gs : List TreeFn) (code : List CodeItem) → AreOf q ok d fit gs → AreSelectedFunctions vax d q gs code → AreFrames code
  frames gs code of none = no_frame
  frames gs code of (more g hs part rest one others) =
      let at = of 0 g refl in
      one_more (function_label g.name) one.framed.mask one.words (homed g.wanted one.body) rest (part ++ rest) (function_within at.0 g at.1 part one)
      (frames hs rest (λ k h e. of (suc k) h e) others) (ap (λ (x : List CodeItem). x ++ rest) one.framed.code_is)

pub selected_codes_are_frames : SelectedCodesAreFrames
selected_codes_are_frames q d c ok fit s = frames q ok d fit q.functions c.items (λ k g e. (k, e)) s.functions

-- ---- no label stands twice in a code that loads

second_none : (a b : Option (List ℕ)) (c : Code) → or_double (option_or a b) c ≡ None → b ≡ None
second_none (Some x) b c e = absurd (cc)
second_none None (Some x) c e = absurd (cc)
second_none None None c e = refl

no_double : (c : Code) → Loads c → double_label c.items ≡ None
no_double c loads = second_none (double_area_label c.area c.items) (double_label c.items) c loads

pub selected_codes_are_guarded : SelectedCodesAreGuarded
selected_codes_are_guarded q d c ok fit s =
    frames_are_guarded c.items (no_double c (selected_codes_keep_trees q d c ok fit s).loads) (selected_codes_are_frames q d c ok fit s)
