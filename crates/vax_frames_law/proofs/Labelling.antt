-- The first label of a name.
use Rattle.std.proofs.Common.{◌≡◌, ℕ, ◌+◌, Bool, true, false, cond, List, ◌∷◌, ◌++◌, length, Some, None, refl, sym, ap, ◌∙◌, arith, []}
use Rattle.std.specs.Prelude.{◌||◌}
use Rattle.std.specs.Str.{bytes_eq}
use Rattle.std.proofs.lemmas.Bool.{true≢false}
use Rattle.std.proofs.lemmas.Slice.Eq.{bytes_eq-Decides}
use Rattle.gg_base.proofs.Facts.{some_none, or_true}
use Rattle.vax_core.specs.declared.code.CodeItem.{CodeItem}
use Rattle.vax_core.specs.declared.code.CodeItem.TheVariants as item_kind
use Rattle.vax_machine.specs.Labels.{is_service, is_label, has_label, label_place, double_label}

has_there : (pre post : List CodeItem) (n : List ℕ) → has_label (pre ++ item_kind.Label n ∷ post) n ≡ true
has_there [] post n = ap (λ (b : Bool). b || has_label post n) ((bytes_eq-Decides n n).1 refl)
has_there (x ∷ pre) post n = ap (λ (b : Bool). is_label x n || b) (has_there pre post n) ∙ or_true (is_label x n)

not_double : (x : CodeItem) (pre post : List CodeItem) (n : List ℕ) → double_label (x ∷ (pre ++ item_kind.Label n ∷ post)) ≡ None
    → (is_label x n ≡ false) × (double_label (pre ++ item_kind.Label n ∷ post) ≡ None)
not_double (item_kind.Globl m) pre post n e = (refl, e)
not_double (item_kind.Mask m) pre post n e = (refl, e)
not_double (item_kind.Instr i) pre post n e = (refl, e)
not_double (item_kind.Label m) pre post n e = by (is_service m) (has_label (pre ++ item_kind.Label n ∷ post) m) refl e
  where
    other : (b : Bool) → bytes_eq m n ≡ b → has_label (pre ++ item_kind.Label n ∷ post) m ≡ false → bytes_eq m n ≡ false
    other true eq h =
        let same : m ≡ n = (bytes_eq-Decides m n).0 eq in
        absurd (true≢false (sym (ap (λ (k : List ℕ). has_label (pre ++ item_kind.Label n ∷ post) k) same ∙ has_there pre post n) ∙ h))
    other false eq h = eq

    by : (b c : Bool) → has_label (pre ++ item_kind.Label n ∷ post) m ≡ c → cond (b || c) (Some m) (double_label (pre ++ item_kind.Label n ∷ post)) ≡ None
        → (bytes_eq m n ≡ false) × (double_label (pre ++ item_kind.Label n ∷ post) ≡ None)
    by true c h e = absurd (some_none m e)
    by false true h e = absurd (some_none m e)
    by false false h e = (other (bytes_eq m n) refl h, e)

pub first_place : (pre post : List CodeItem) (n : List ℕ) → double_label (pre ++ item_kind.Label n ∷ post) ≡ None → label_place (pre ++ item_kind.Label n ∷ post) n ≡ length pre
first_place [] post n e = ap (λ (b : Bool). cond b 0 (label_place post n + 1)) ((bytes_eq-Decides n n).1 refl)
first_place (x ∷ pre) post n e =
    let d = not_double x pre post n e in
    let k : length pre + 1 ≡ length (x ∷ pre) = omega arith in
    ap (λ (b : Bool). cond b 0 (label_place (pre ++ item_kind.Label n ∷ post) n + 1)) d.0 ∙ ap (λ (p : ℕ). p + 1) (first_place pre post n d.1) ∙ k
