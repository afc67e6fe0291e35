-- Functions with a block and without, and what a function's body is put together of.
use Rattle.std.proofs.Common.{◌≡◌, ◌≢◌, ℕ, zero, suc, length, refl, ap, sym, ◌∙◌}
use Rattle.c_program.specs.Statements.{SomeActions}
use Rattle.c_program.specs.Programs.{ARoutine}
use Rattle.c_lower_scheme.specs.Trees.{Num}
use Rattle.c_lower_scheme.specs.Parts.{Lowered, Emitted, Destination, AsResult, Releasing, nothing, due, delivered}
use Rattle.c_lower_scheme.specs.Flow.{two_done, claimed}
use Rattle.c_lower_scheme.specs.Statements.{lower_row}
use Rattle.c_lower_scheme.specs.Programs.{first_temporary, way_in, way_out, body_by, body_of}

pub first_without : (size block : ℕ) → block ≡ 0 → first_temporary size block ≡ size
first_without size block e = ap (first_temporary size) e

pub first_with : (size block : ℕ) → block ≢ 0 → first_temporary size block ≡ suc size
first_with size zero ne = absurd (ne refl)
first_with size (suc block) ne = refl

pub out_without : (pointer size block : ℕ) → block ≡ 0 → way_out pointer size block ≡ AsResult
out_without pointer size block e = ap (way_out pointer size) e

pub out_with : (pointer size block : ℕ) → block ≢ 0 → way_out pointer size block ≡ Releasing pointer size
out_with pointer size zero ne = absurd (ne refl)
out_with pointer size (suc block) ne = refl

pub in_without : (size first pointer block l : ℕ) → block ≡ 0 → way_in size first pointer block l ≡ nothing first l
in_without size first pointer block l e = ap (λ b. way_in size first pointer b l) e

pub in_with : (size first pointer block l : ℕ) → block ≢ 0 → way_in size first pointer block l ≡ claimed size first pointer block l
in_with size first pointer zero l ne = absurd (ne refl)
in_with size first pointer (suc block) l ne = refl

-- a body by its parts
pub body_is : (pointer count l : ℕ) (g : ARoutine) (size functions first : ℕ) (out : Destination) (row : SomeActions) (begin body end rest : Emitted) (zero_due : Lowered)
    → size ≡ length g.locals → first ≡ first_temporary (length g.locals) g.block → functions ≡ count → out ≡ way_out pointer (length g.locals) g.block
    → row ≡ g.body → begin ≡ way_in size first pointer g.block l → body ≡ lower_row size functions first out row 0 0 begin.labels
    → zero_due ≡ due (Num 0) first body.labels → end ≡ delivered out zero_due → rest ≡ two_done body end
    → body_of pointer count g l ≡ two_done begin rest
body_is pointer count l g size functions first out row begin body end rest zero_due sizes firsts counts outs rows begins bodies dues ends rests =
    let ending : end ≡ delivered out (due (Num 0) first body.labels) = ends ∙ ap (delivered out) dues in
    let resting : two_done begin rest ≡ two_done begin (two_done body (delivered out (due (Num 0) first body.labels))) =
    ap (two_done begin) (rests ∙ ap (two_done body) ending) in
    let statements : body ≡ lower_row size functions first out g.body 0 0 begin.labels = bodies ∙ ap (λ r. lower_row size functions first out r 0 0 begin.labels) rows in
    let of_body = ap (λ (b : Emitted). two_done begin (two_done b (delivered out (due (Num 0) first b.labels)))) statements in
    let of_begin = ap (λ (b : Emitted). two_done b (two_done (lower_row size functions first out g.body 0 0 b.labels)
    (delivered out (due (Num 0) first (lower_row size functions first out g.body 0 0 b.labels).labels)))) begins in
    let of_size = ap (λ s. body_by s functions first pointer out g l) sizes in
    let of_count = ap (λ n. body_by (length g.locals) n first pointer out g l) counts in
    let of_first = ap (λ t. body_by (length g.locals) count t pointer out g l) firsts in
    let of_out = ap (λ o. body_by (length g.locals) count (first_temporary (length g.locals) g.block) pointer o g l) outs in
    sym (resting ∙ of_body ∙ of_begin ∙ of_size ∙ of_count ∙ of_first ∙ of_out)
