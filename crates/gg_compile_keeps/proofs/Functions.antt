-- The code of a program's functions.
use Rattle.std.proofs.Common.{◌≡◌, ℕ, suc, List, Some, refl}
use Rattle.std.specs.Prelude.{slice_get}
use Rattle.std.proofs.Math.Nat.{le_refl}
use Rattle.tree_core.specs.declared.program.TreeFn.{TreeFn}
use Rattle.tree_core.specs.declared.program.TreeProgram.{TreeProgram}
use Rattle.tree_core.specs.Valid.{WantedStand}
use Rattle.md_reader.specs.State.{Content}
use Rattle.sel_parse_joined.specs.sel_parse_effect.specs.Claims.{IsFit}
use Rattle.vax_core.specs.declared.code.CodeItem.{CodeItem}
use Rattle.gg_compile_names.specs.vax_target_meaning.specs.Vax.{vax}
use Rattle.gg_compile_effect.specs.gg_compile_law.specs.Assembled.{IsFunctionCode, AreFunctions}
use Rattle.gg_compile_effect.specs.gg_compile_law.specs.Assembled as assembled
use Rattle.gg_compile_effect.specs.gg_compile_law.proofs.Framing.{frames_are_function_codes}
use Rattle.gg_compile_effect.specs.gg_compile_law.proofs.Validity.{all_at}
use Rattle.gg_compile_code.specs.Selecting.{IsSelectedFunction, AreSelectedFunctions, none, more}
use Rattle.gg_compile_keeps.specs.Programs.{IsSelectable}
use Rattle.gg_compile_keeps.proofs.Trees.{used_up, words_few, tree_code}

module _ (q : TreeProgram) (ok : IsSelectable q) (d : Content) (fit : IsFit vax d) where
  -- functions of the program
  abbrev pub AreOf : List TreeFn → Type 0
  AreOf gs = (k : ℕ) (g : TreeFn) → slice_get gs k ≡ Some g → (n : ℕ) × (slice_get q.functions n ≡ Some g)

  pub function_code : (n : ℕ) (g : TreeFn) → slice_get q.functions n ≡ Some g → (part : List CodeItem) → IsSelectedFunction vax d q g part → IsFunctionCode q g part
  function_code n g there part s =
      frames_are_function_codes q g s.words s.body part (used_up q ok d fit n g there g.locals s.words g.items s.body s.selected)
      (words_few q ok d fit n g there g.locals s.words g.items s.body (λ w at. at) (ok.locals n g there) s.selected)
      (all_at WantedStand q.functions n g ok.valid.wanted there)
      (tree_code q ok d fit n g there s.words g.locals s.words g.items s.body (λ w at. at) (le_refl s.words) s.selected) s.framed

  pub functions : (gs : List TreeFn) (code : List CodeItem) → AreOf gs → AreSelectedFunctions vax d q gs code → AreFunctions q gs code
  functions gs code of none = assembled.none
  functions gs code of (more g hs part rest one others) =
      let at = of 0 g refl in
      assembled.more g hs part rest (function_code at.0 g at.1 part one) (functions hs rest (λ k h e. of (suc k) h e) others)
