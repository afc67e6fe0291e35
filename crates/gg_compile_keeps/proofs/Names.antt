-- The instructions of a program's code name what is there.
use Rattle.std.proofs.Common.{◌≡◌, ℕ, zero, suc, List, [], ◌∷◌, ◌++◌, map, Option, Some, None, refl, sym, ap, ◌∙◌, subst}
use Rattle.std.specs.Prelude.{slice_get}
use Rattle.std.specs.List.{AllByRecursion as All}
use Rattle.std.specs.Option.{option_or}
use Rattle.gg_base.proofs.Facts.{all_append}
use Rattle.tree_core.specs.declared.tree.Leaf.{Leaf}
use Rattle.tree_core.specs.declared.program.TreeItem.{TreeItem}
use Rattle.tree_core.specs.declared.program.TreeItem.TheVariants as tree_item
use Rattle.tree_core.specs.declared.program.TreeFn.{TreeFn}
use Rattle.tree_core.specs.declared.program.TreeProgram.{TreeProgram}
use Rattle.md_reader.specs.State.{Content}
use Rattle.sel_parse_joined.specs.sel_parse_desk.specs.Selected.{tree_of}
use Rattle.sel_parse_joined.specs.sel_parse_effect.specs.Claims.{IsFit}
use Rattle.vax_core.specs.declared.code.AreaItem.{AreaItem}
use Rattle.vax_core.specs.declared.code.CodeItem.{CodeItem}
use Rattle.vax_core.specs.declared.code.Instr.{Instr}
use Rattle.vax_machine.specs.Labels.{undefined_in, undefined_at, undefined_label}
use Rattle.vax_frames.specs.Frames.{code_items, room_code, end_code}
use Rattle.gg_compile_names.specs.vax_target_meaning.specs.Vax.{vax}
use Rattle.gg_compile_effect.specs.gg_compile_law.specs.vax_homes_items.specs.vax_homes_law.specs.vax_homes.specs.declared.choose.Home.{Home}
use Rattle.gg_compile_effect.specs.gg_compile_law.specs.vax_homes_items.specs.vax_homes_law.specs.vax_homes.specs.Choosing.{homes_of}
use Rattle.gg_compile_effect.specs.gg_compile_law.specs.vax_homes_items.specs.vax_homes_law.specs.vax_homes.specs.Homing.{homed_item, homed}
use Rattle.gg_compile_effect.specs.gg_compile_law.specs.vax_homes_items.proofs.Items.{homed_items_are_like}
use Rattle.gg_compile_effect.specs.gg_compile_law.specs.Spelling.{area_of}
use Rattle.gg_compile_effect.specs.gg_compile_law.proofs.Validity.{IsIn, root_facts}
use Rattle.gg_compile_names.specs.Claims.{HasLabels}
use Rattle.gg_compile_names.proofs.Lines.{selected_names_are_there}
use Rattle.gg_compile_code.specs.Selecting.{AreSelected, nothing, label, tree, IsSelectedFunction, AreSelectedFunctions, none, more}
use Rattle.gg_compile_keeps.specs.Programs.{IsSelectable}
use Rattle.gg_compile_keeps.proofs.Leaves.{tree_inside}
use Rattle.gg_compile_keeps.proofs.Trees.{Among, behind, tree_of_it, selected}
use Rattle.gg_compile_keeps.proofs.Functions.{AreOf}

module _ (q : TreeProgram) (ok : IsSelectable q) (d : Content) (fit : IsFit vax d) (code : List CodeItem) (there : HasLabels q code) where
  abbrev area : List AreaItem
  area = area_of q.objects

  -- what an item names is there
  abbrev Fine : CodeItem → Type 0
  Fine x = undefined_at area code x ≡ None

  instrs_fine : (is : List Instr) → All (λ (i : Instr). undefined_in area code i ≡ None) is → All Fine (code_items is)
  instrs_fine [] h = tt
  instrs_fine (i ∷ is) h = (h.0, instrs_fine is h.1)

  room_fine : (words : ℕ) → All Fine (code_items (room_code words))
  room_fine zero = tt
  room_fine (suc n) = (refl, tt)

  homed_fine : (hs : List Home) (xs : List CodeItem) → All Fine xs → All Fine (map (homed_item hs) xs)
  homed_fine hs [] h = tt
  homed_fine hs (x ∷ xs) h = ((homed_items_are_like hs x).names area code ∙ h.0, homed_fine hs xs h.1)

  module _ (n : ℕ) (g : TreeFn) (here : slice_get q.functions n ≡ Some g) where
    tree_fine : (w : List Leaf) → IsIn (tree_item.Root w) g.items → (instrs : List Instr) (most : ℕ)
        → Rattle.sel_parse_joined.specs.sel_parse_desk.specs.Selected.Selected vax q d g.locals (tree_of w) instrs most → All Fine (code_items instrs)
    tree_fine w at instrs most s =
        instrs_fine instrs
        (selected_names_are_there q d g.locals (tree_of w) instrs most area code there.names
        (tree_inside code w (tree_of_it q ok d fit n g here w at).stands.0 (λ l e. there.trees n l g here ((root_facts q ok.valid n g here w at).target l e)))
        (selected q ok d fit n g here w at instrs most s))

    body_fine : (used most : ℕ) (is : List TreeItem) (body : List CodeItem) → Among q ok d fit n g here is → AreSelected vax d q g.locals used is body most → All Fine body
    body_fine used most is body sub (nothing u) = tt
    body_fine used most is body sub (label u m l js rest h) = (refl, body_fine u most js rest (behind q ok d fit n g here (tree_item.Label l) js sub) h)
    body_fine used most is body sub (tree u k m w js instrs rest one h) =
        all_append Fine (code_items instrs) rest (tree_fine w (sub w (0, refl)) instrs k one)
        (body_fine _ most js rest (behind q ok d fit n g here (tree_item.Root w) js sub) h)

    function_fine : (part : List CodeItem) → IsSelectedFunction vax d q g part → All Fine part
    function_fine part s =
        subst (All Fine) (sym s.framed.code_is) (
          refl,
          (
            refl,
            (
              refl,
              all_append Fine (code_items (room_code s.words)) (homed g.wanted s.body ++ code_items end_code) (room_fine s.words)
                  (all_append Fine (homed g.wanted s.body) (code_items end_code)
                  (homed_fine (homes_of g.wanted s.body) s.body (body_fine g.locals s.words g.items s.body (λ w at. at) s.selected)) (refl, (refl, tt))),
            ),
          ),
        )

  functions_fine : (gs : List TreeFn) (part : List CodeItem) → AreOf q ok d fit gs → AreSelectedFunctions vax d q gs part → All Fine part
  functions_fine gs part of none = tt
  functions_fine gs part of (more g hs front rest one others) =
      let at = of 0 g refl in
      all_append Fine front rest (function_fine at.0 g at.1 front one) (functions_fine hs rest (λ k h e. of (suc k) h e) others)

  none_undefined : (xs : List CodeItem) → All Fine xs → undefined_label xs area code ≡ None
  none_undefined [] h = refl
  none_undefined (x ∷ xs) h = ap (λ (o : Option (List ℕ)). option_or o (undefined_label xs area code)) h.0 ∙ none_undefined xs h.1

  pub all_named : AreSelectedFunctions vax d q q.functions code → undefined_label code area code ≡ None
  all_named s = none_undefined code (functions_fine q.functions code (λ k g e. (k, e)) s)
