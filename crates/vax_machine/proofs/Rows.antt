-- What a table of rows holds at a place.
use Rattle.std.proofs.Common.{◌≡◌, ℕ, ◌<◌, List, length, map, Option, Some, None, sym, ap, subst, ◌∙◌}
use Rattle.std.specs.Prelude.{slice_get}
use Rattle.std.proofs.Math.ListN.{get_or}
use Rattle.std.proofs.lemmas.List.{length-map}
use Rattle.std.specs.Option.{option_map}
use Rattle.std.proofs.lemmas.Option.{slice_get-map, slice_get-get_or}
use Rattle.vax_core.specs.declared.code.CodeItem.{CodeItem}
use Rattle.vax_machine.specs.declared.program.Row.{Row}
use Rattle.vax_machine.specs.Rows.{Doing, row_view, row_of, row_at}

is_there : (x : Doing) (o : Option CodeItem) → Some x ≡ option_map row_of o → x ≡ row_at o
is_there x None e = cc
is_there x (Some item) e = cc

same_length : (rows : List Row) (items : List CodeItem) → map row_view rows ≡ map row_of items → length rows ≡ length items
same_length rows items e = sym (length-map rows row_view) ∙ (ap (λ (l : List Doing). length l) e ∙ length-map items row_of)

pub row_there : (rows : List Row) (items : List CodeItem) (place : ℕ) (r : Row) → map row_view rows ≡ map row_of items → place < length items
    → r ≡ get_or rows place r → row_view r ≡ row_at (slice_get items place)
row_there rows items place r e within is =
    let at : slice_get rows place ≡ Some r = slice_get-get_or rows place r (subst (λ (n : ℕ). place < n) (sym (same_length rows items e)) within) ∙ ap Some (sym is) in
    is_there (row_view r) (slice_get items place)
    (sym (ap (option_map row_view) at) ∙ (sym (slice_get-map row_view rows place) ∙ (ap (λ (l : List Doing). slice_get l place) e ∙ slice_get-map row_of items place)))
