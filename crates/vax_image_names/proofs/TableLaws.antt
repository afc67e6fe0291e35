-- A table of names after one more is put into it.
use Rattle.std.proofs.Common.{◌≡◌, ℕ, cond, List, Option, Some}
use Rattle.std.specs.Borrow.{Bor}
use Rattle.std.specs.Str.{bytes_eq}
use Rattle.vax_machine.specs.Tables.{with_name}

pub put_is : (old new : Bor (List ℕ) → Option ℕ) (name : Bor (List ℕ)) (v : ℕ) → ((q : Bor (List ℕ)) → new q ≡ cond (bytes_eq name.now q.now) (Some v) (old q))
    → (λ (n : List ℕ). new (record name { now = n })) ≡ with_name (λ (n : List ℕ). old (record name { now = n })) name.now v
put_is old new name v h = λ i n. h (record name { now = n }) i
