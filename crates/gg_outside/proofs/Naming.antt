-- The file of a name, as `find` meets it.
use Rattle.std.proofs.Common.{◌≡◌, ℕ, List, [], ◌∷◌, Option, Some, None, Bool, true, false, refl}
use Rattle.std.specs.Prelude.{if◌then◌else◌}
use Rattle.std.specs.List.{find}
use Rattle.std.specs.Str.{bytes_eq}
use Rattle.gg_outside.specs.declared.memory.MemFile.{MemFile}
use Rattle.gg_outside.specs.Outside.{Content, Missing, Stored}
use Rattle.gg_outside.specs.Memory.{content_of}

abbrev pub given : Option MemFile → Content
given None = Missing
given (Some file) = Stored file.bytes

pub content_found : (name : List ℕ) (files : List MemFile) → content_of files name ≡ given (find (λ (file : MemFile). bytes_eq file.name name) files)
content_found name [] = refl
content_found name (file ∷ files) = by (bytes_eq file.name name) (content_found name files)
  where
    by : (b : Bool) → content_of files name ≡ given (find (λ (f : MemFile). bytes_eq f.name name) files)
        → (if b then Stored file.bytes else content_of files name) ≡ given (if b then Some file else find (λ (f : MemFile). bytes_eq f.name name) files)
    by true h = refl
    by false h = h
