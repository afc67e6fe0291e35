-- The line that tells why a program has no text, and the lines that tell what passes changed.
use Rattle.std.specs.Prelude.{ℕ, ◌+◌, List, [], ◌∷◌, ◌++◌, codes, Option, Some, None, slice_get}
use Rattle.std.specs.Fmt.{decimal}
use Rattle.c_program.specs.Programs.{ARoutine, AProgram}

abbrev pub name_of : Option ARoutine → List ℕ
name_of None = []
name_of (Some r) = r.name

-- the name of a function
abbrev pub name_at : AProgram → ℕ → List ℕ
name_at p n = name_of (slice_get p.routines n)

-- a function of this name needs so many words of its frame
abbrev pub frame_line : List ℕ → ℕ → List ℕ
frame_line name need = codes "ggvax: " ++ (name ++ (codes " needs " ++ (decimal need ++ codes " frame words\n")))

-- the line of a pass: its number in the list, and how many changes it made
abbrev pub pass_line : ℕ → ℕ → List ℕ
pass_line number changes = codes "pass " ++ (decimal number ++ (codes ": " ++ (decimal changes ++ codes "\n")))

-- the lines of passes that stand behind so many others
abbrev pub pass_lines : ℕ → List ℕ → List ℕ
pass_lines before [] = []
pass_lines before (n ∷ ns) = pass_line (before + 1) n ++ pass_lines (before + 1) ns
