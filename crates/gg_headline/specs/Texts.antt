-- The text of a program by a description and passes.
use Rattle.std.specs.Prelude.{◌≡◌, ℕ, List, ◌∷◌}
use Rattle.tree_core.specs.declared.program.TreeProgram.{TreeProgram}
use Rattle.md_reader.specs.State.{Content}
use Rattle.c_program.specs.Programs.{AProgram}
use Rattle.c_sound.specs.Fits.{AreBytes}
use Rattle.c_lowered.specs.c_typed.specs.Sources.{Reads}
use Rattle.c_lowered.specs.Lowered.{Lowered}
use Rattle.vax_core.specs.declared.code.Code.{Code}
use Rattle.gg_compile_codes.specs.vax_target_meaning.specs.Vax.{vax}
use Rattle.cmd_compile.specs.Selecting.{SelectedAll}
use Rattle.cmd_compile.specs.Passing.{Passing, passing}
use Rattle.cmd_compile.specs.Texts.{IsTextOf, IsTextBy}

-- Each of these passes makes one code of a code. `wrote p n c d` says that the pass p makes d of c and has made n changes then, `made p` how
-- many it has made so far.
abbrev pub EachMakesOne : {P : Type 0} → (P → ℕ → Code → Code → Type 0) → (P → ℕ) → List P → List P → Type 0
EachMakesOne wrote made (p ∷ ps) (q ∷ qs) =
    ((c d e : Code) → wrote p (made q) c d → wrote p (made q) c e → d ≡ e) × EachMakesOne wrote made ps qs
EachMakesOne wrote made _ _ = Unit {0}

-- A program has one text by a description and passes in a call.
abbrev pub HasOneText : Passing → Type 0
HasOneText by = (d : Content) (p : AProgram) (text other : List ℕ) → IsTextBy by d p text → IsTextBy by d p other → text ≡ other

-- So it is by passes that make one code each, and where there are none.
abbrev pub TextsAreOne : {P : Type 0} → (P → ℕ → Code → Code → Type 0) → (P → ℕ) → List P → List P → Type 0
TextsAreOne wrote made before behind = EachMakesOne wrote made before behind → HasOneText (passing wrote made before behind)

-- the code is selected of trees that are the program's
pub record IsOfTrees (d : Content) (p : AProgram) (c : Code) : Type 0 where
  pub trees : TreeProgram
  pub lowered : Lowered p trees
  pub selected : SelectedAll vax d trees c

-- The code of a text of a source's program, before its passes, is selected of the program's trees. The source's numbers are bytes, as
-- those of files are.
abbrev pub TextsAreOfTrees : Type 0
TextsAreOfTrees =
    (d : Content) (p : AProgram) (text source : List ℕ) (is : IsTextOf d p text) → AreBytes source → Reads source p → IsOfTrees d p is.first
