-- The second stack's pointer gets the address of its area, and then the area its zeros.
use Rattle.std.proofs.Common.{◌≡◌, ℕ, List, ap, ◌∙◌, OnOk, Result, Ok, Err}
use Rattle.tree_core.specs.declared.program.Object.{Object}
use Rattle.c_typed_scope.specs.Layout.{Area}
use Rattle.c_typed_scope.specs.Contents.{Filled, filled_to, with_link, filled}
use Rattle.c_typed_scope.specs.Stack.{nothing, opened}

pub opened_by : {T E : Type 0} (r : Result T E) (a b d : Area) (held empty : Filled) (objects : List Object) (pointer stack size : ℕ) → objects ≡ a.objects → size ≡ 262144
    → held ≡ with_link objects stack nothing → b ≡ filled pointer (filled_to 4 held) a → empty ≡ nothing → OnOk r (d ≡ filled stack (filled_to size empty) b)
    → OnOk r (d ≡ opened pointer stack a)
unfolding opened
opened_by (Err e) a b d held empty objects pointer stack size same long put first none last = tt
opened_by (Ok u) a b d held empty objects pointer stack size same long put first none last =
    last ∙ (ap (λ (n : ℕ). filled stack (filled_to n empty) b) long
    ∙ (ap (λ (f : Filled). filled stack (filled_to 262144 f) b) none
    ∙ ap (λ (x : Area). filled stack (filled_to 262144 nothing) x)
    (first ∙ (ap (λ (f : Filled). filled pointer (filled_to 4 f) a) put ∙ ap (λ (os : List Object). filled pointer (filled_to 4 (with_link os stack nothing)) a) same))))
