-- One function more fits.
use Rattle.std.proofs.Common.{◌≡◌, ℕ, ◌+◌, ◌<◌, ◌≤◌, length, map, ap, ◌∙◌, arith, below_more}
use Rattle.std.proofs.lemmas.List.{length-map}
use Rattle.c_program.specs.declared.program.Program.{Program}
use Rattle.c_program.specs.Programs.{AProgram, routine, program}
use Rattle.c_lower.specs.c_typed_check.specs.Typed.{need_at}
use Rattle.gg_compile.specs.Needs.{FitBefore, AllFit, IsFirstOver}

pub one_fits : (p : AProgram) (n function need : ℕ) → FitBefore p n → function ≡ n → need ≡ need_at p function → need ≤ 1024 → FitBefore p (n + 1)
one_fits p n function need fit at is low =
    let here : need ≡ need_at p n = is ∙ ap (need_at p) at in
    below_more (λ k. need_at p k ≤ 1024) n fit (omega (arith, here, low))

pub all_fit : (p : Program) (n count : ℕ) → FitBefore (program p) n → count ≡ length p.routines.items → count ≤ n → AllFit (program p)
all_fit p n count fit is over =
    let long : length (map routine p.routines.items) ≡ length p.routines.items = length-map p.routines.items routine in
    λ k lt. fit k (omega (arith, lt, long, is, over))

pub first_over : (p : Program) (n function need count : ℕ) → FitBefore (program p) n → count ≡ length p.routines.items → n < count → function ≡ n
    → need ≡ need_at (program p) function → 1024 < need → IsFirstOver (program p) function need
first_over p n function need count fit is lt at need_is over =
    let long : length (map routine p.routines.items) ≡ length p.routines.items = length-map p.routines.items routine in
    record { there = omega (arith, lt, long, is, at); need_is = need_is; over = over; first = λ k low. fit k (omega (arith, low, at)) }
