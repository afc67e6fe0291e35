-- The lines of passes, one by one; and passes that no one called.
use Rattle.std.proofs.Common.{◌≡◌, ◌≤◌, ◌<◌, ℕ, zero, suc, ◌+◌, ◌-◌, List, [], ◌∷◌, ◌++◌, length, drop, get_or, min, zero-le, append-nil, append_assoc, refl, sym, ap, ap₂, ◌∙◌, arith}
use Rattle.std.proofs.lemmas.List.{drop_more, drop_all}
use Rattle.vax_passes.specs.Leads.{Rise}
use Rattle.cmd_compile.specs.Lines.{pass_line, pass_lines}
use Rattle.cmd_compile.specs.Passing.{rises, AreKept}

no_rise : (before : List ℕ) → rises before [] ≡ []
no_rise [] = refl
no_rise (b ∷ before) = refl

-- where one of two lists has no more numbers
no_more : (before behind : List ℕ) (n : ℕ) → min (length before) (length behind) ≤ n → rises (drop n before) (drop n behind) ≡ []
no_more [] behind n h = ap (λ (l : List ℕ). rises l (drop n behind)) (drop_all n [] zero-le)
no_more (b ∷ before) [] n h = ap (rises (drop n (b ∷ before))) (drop_all n [] zero-le) ∙ no_rise (drop n (b ∷ before))
no_more (b ∷ before) (x ∷ behind) zero h = absurd (omega (arith, h))
no_more (b ∷ before) (x ∷ behind) (suc n) h = no_more before behind n (omega (arith, h))

pub all_lines : (before behind lines whole : List ℕ) (n : ℕ) → min (length before) (length behind) ≤ n
    → lines ++ pass_lines n (rises (drop n before) (drop n behind)) ≡ whole → lines ≡ whole
all_lines before behind lines whole n over e =
    sym (append-nil lines) ∙ ap (λ (l : List ℕ). lines ++ pass_lines n l) (sym (no_more before behind n over)) ∙ e

-- one line more
pub more_lines : (before behind lines line whole : List ℕ) (n : ℕ) → n < length before → n < length behind
    → line ≡ pass_line (n + 1) (get_or behind n 0 - get_or before n 0)
    → lines ++ pass_lines n (rises (drop n before) (drop n behind)) ≡ whole
    → (lines ++ line) ++ pass_lines (n + 1) (rises (drop (n + 1) before) (drop (n + 1) behind)) ≡ whole
more_lines before behind lines line whole n lt less is e =
    let rest : List ℕ = pass_lines (n + 1) (rises (drop (n + 1) before) (drop (n + 1) behind)) in
    let turn : pass_lines n (rises (drop n before) (drop n behind)) ≡ pass_line (n + 1) (get_or behind n 0 - get_or before n 0) ++ rest =
    ap (pass_lines n) (ap₂ rises (drop_more before n 0 lt) (drop_more behind n 0 less)) in
    append_assoc lines line rest ∙ ap (λ (l : List ℕ). lines ++ l) (ap (λ (l : List ℕ). l ++ rest) is ∙ sym turn) ∙ e

-- no number of changes fell
rise_same : {P : Type 0} (made : P → ℕ) (passes : List P) → Rise made passes passes
rise_same made [] = tt
rise_same made (p ∷ passes) = (omega arith, rise_same made passes)

-- passes stay as they are
pub kept_same : {P V : Type 0} (vtable : P → V) (made : P → ℕ) (passes : List P) → AreKept vtable made passes passes
kept_same vtable made passes = record { same = refl; rise = rise_same made passes }
