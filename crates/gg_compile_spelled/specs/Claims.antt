-- What is claimed of the trees of a program where code is written for them: their names, numbers, offsets and labels can be spelled.
use Rattle.std.specs.Prelude.{◌≡◌, ℕ, ◌-◌, ◌≤◌, ◌^◌, List, [], ◌∷◌, length, Some, true, slice_get}
use Rattle.std.specs.List.{AllByRecursion}
use Rattle.tree_core.specs.declared.program.TreeFn.{TreeFn}
use Rattle.tree_core.specs.Names.{function_label}
use Rattle.c_phrases.specs.Units.{AUnit}
use Rattle.c_program.specs.Need.{need_of}
use Rattle.c_program.specs.Programs.{ARoutine, AProgram}
use Rattle.c_typed_law.specs.Texts.{IsText}
use Rattle.c_typed_words.specs.Words.{IsName, HasTokens}
use Rattle.c_sound.specs.Sound.{IsSound}
use Rattle.c_lower_scheme.specs.Programs.{body_of, lowered}
use Rattle.sel_target.specs.Spelled.{TreesAreSpelled}
use Rattle.vax_core.specs.Valid.{is_name}
use Rattle.gg_compile_law.specs.Names.{HaveSmall}

-- the first label that is free behind functions, from the one before them on
abbrev pub labels_behind : ℕ → ℕ → List ARoutine → ℕ → ℕ
labels_behind pointer count [] l = l
labels_behind pointer count (g ∷ gs) l = labels_behind pointer count gs (body_of pointer count g l).labels

-- how many labels lowering takes for a program
abbrev pub label_count : AProgram → ℕ
label_count p = labels_behind (length p.objects - 2) (length p.routines) p.routines 0

-- The trees that a sound program is lowered to can be spelled, where longwords count its labels.
abbrev pub LoweredIsSpelled : Type 0
LoweredIsSpelled = (p : AProgram) → IsSound p → label_count p ≤ 2 ^ 32 → TreesAreSpelled (lowered p)

-- The labels of its items have at most 64 bits then.
abbrev pub LabelsAreSmall : Type 0
LabelsAreSmall = (p : AProgram) → IsSound p → label_count p ≤ 2 ^ 64 → HaveSmall (lowered p).functions

-- each function has a name of the grammar
abbrev pub HaveNames : AProgram → Type 0
HaveNames p = (n : ℕ) (g : ARoutine) → slice_get p.routines n ≡ Some g → IsName g.name

-- A function's label can be spelled where its name is one of the grammar.
abbrev pub NamesAreSpelled : Type 0
NamesAreSpelled = (p : AProgram) → HaveNames p → AllByRecursion (λ (f : TreeFn). is_name (function_label f.name) ≡ true)
    (lowered p).functions

-- The functions of the program that a unit is typed as have such names, where the unit's tokens are those of the grammar.
abbrev pub TypedHaveNames : Type 0
TypedHaveNames = (p : AProgram) (unit : AUnit) (ends : List ℕ) → HasTokens unit → IsText unit.externals ends unit.end p → HaveNames p

-- each function needs at most so many longwords of its frame
abbrev pub NeedAtMost : AProgram → ℕ → Type 0
NeedAtMost p most = (n : ℕ) (g : ARoutine) → slice_get p.routines n ≡ Some g → need_of g.locals g.block g.body ≤ most

-- It has at most as many locals then.
abbrev pub LocalsAreFew : Type 0
LocalsAreFew = (p : AProgram) (most : ℕ) → IsSound p → NeedAtMost p most → (n : ℕ) (f : TreeFn)
    → slice_get (lowered p).functions n ≡ Some f → f.locals ≤ most
