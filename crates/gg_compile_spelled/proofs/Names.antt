-- Functions' labels.
use Rattle.std.proofs.Common.{◌≡◌, ℕ, zero, suc, List, [], ◌∷◌, length, Some, refl}
use Rattle.std.specs.Prelude.{true, nat_le, slice_get, ◌-◌}
use Rattle.std.specs.List.{AllByRecursion, list_all}
use Rattle.std.proofs.lemmas.Bool.{le-leb, and_from}
use Rattle.gg_base.specs.Names.{is_name_part}
use Rattle.tree_core.specs.declared.program.TreeFn.{TreeFn}
use Rattle.tree_core.specs.Names.{function_label}
use Rattle.c_tokens.proofs.NameParts.{letters_are_parts}
use Rattle.c_typed_words.specs.Words.{IsName}
use Rattle.c_program.specs.Programs.{ARoutine}
use Rattle.c_lower_scheme.specs.Programs.{body_of, lower_all}
use Rattle.vax_core.specs.Valid.{is_name}
use Rattle.gg_compile_spelled.specs.Claims.{NamesAreSpelled}

name_spelled : (n : List ℕ) → IsName n → is_name (function_label n) ≡ true
name_spelled n h = and_from (nat_le (length n) 63) (list_all is_name_part n) (le-leb _ _ h.short) (letters_are_parts n h.letters)

each_spelled : (pointer count : ℕ) (gs : List ARoutine) (l : ℕ) → ((n : ℕ) (g : ARoutine) → slice_get gs n ≡ Some g → IsName g.name)
    → AllByRecursion (λ (f : TreeFn). is_name (function_label f.name) ≡ true) (lower_all pointer count gs l)
each_spelled pointer count [] l h = tt
each_spelled pointer count (g ∷ gs) l h =
    (name_spelled g.name (h zero g refl), each_spelled pointer count gs (body_of pointer count g l).labels (λ n x e. h (suc n) x e))

pub names_are_spelled : NamesAreSpelled
names_are_spelled p h = each_spelled (length p.objects - 2) (length p.routines) p.routines 0 h
