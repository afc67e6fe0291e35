-- The parts of a list are read one after the other.
use Rattle.std.proofs.Common.{◌≡◌, ℕ, zero, suc, ◌+◌, ◌-◌, ◌<◌, Bool, true, false, cond, List, [], ◌∷◌, ◌++◌, length, take, drop, Option, Some, None, refl, sym, ap, ◌∙◌, arith, append_assoc}
use Rattle.std.specs.Prelude.{codes, MatchOption, nat_eq}
use Rattle.std.specs.Borrow.{Bor}
use Rattle.std.specs.Cmp.Lexicographic.{pointwise}
use Rattle.std.specs.Option.{option_copied}
use Rattle.std.proofs.lemmas.List.{append-nil}
use Rattle.vax_image_reading.specs.Reading.{list_front, list_onto}
use Rattle.vax_image_reading.specs.Decoding.{behind_magic}

onto_nothing : {A : Type 0} (o : Option (List A × List ℕ)) → list_onto [] o ≡ o
onto_nothing None = refl
onto_nothing (Some x) = refl

onto_more : {A : Type 0} (read : List A) (x : A) (o : Option (List A × List ℕ)) → list_onto (read ++ x ∷ []) o ≡ list_onto read (list_onto (x ∷ []) o)
onto_more read x None = refl
onto_more read x (Some y) = ap (λ (xs : List _). Some (xs, y.1)) (append_assoc read (x ∷ []) y.0)

pub parts_start : {A : Type 0} (one : List ℕ → Option (A × List ℕ)) (n : ℕ) (bytes : List ℕ) → list_onto [] (list_front one n bytes) ≡ list_front one n bytes
parts_start one n bytes = onto_nothing (list_front one n bytes)

pub parts_end : {A : Type 0} (one : List ℕ → Option (A × List ℕ)) (n : ℕ) (bytes : List ℕ) (read : List A) (whole : Option (List A × List ℕ)) → n ≡ 0
    → list_onto read (list_front one n bytes) ≡ whole → whole ≡ Some (read, bytes)
parts_end one n bytes read whole e h =
    sym h ∙ ap (λ (k : ℕ). list_onto read (list_front one k bytes)) e ∙ ap (λ (xs : List _). Some (xs, bytes)) (append-nil read)

pub parts_fail : {A : Type 0} (one : List ℕ → Option (A × List ℕ)) (n : ℕ) (bytes : List ℕ) (read : List A) (whole : Option (List A × List ℕ)) → 0 < n → one bytes ≡ None
    → list_onto read (list_front one n bytes) ≡ whole → whole ≡ None
parts_fail one zero bytes read whole lt none h = absurd (omega (arith, lt))
parts_fail one (suc n) bytes read whole lt none h = sym h ∙ rw none refl

pub parts_step : {A : Type 0} (one : List ℕ → Option (A × List ℕ)) (n : ℕ) (bytes : List ℕ) (read : List A) (whole : Option (List A × List ℕ)) (x : A) (rest : List ℕ) → 0 < n
    → one bytes ≡ Some (x, rest) → list_onto read (list_front one n bytes) ≡ whole → list_onto (read ++ x ∷ []) (list_front one (n - 1) rest) ≡ whole
parts_step one zero bytes read whole x rest lt some h = absurd (omega (arith, lt))
parts_step one (suc n) bytes read whole x rest lt some h =
    let less : suc n - 1 ≡ n = omega arith in
    let opened : list_onto read (list_front one (suc n) bytes) ≡ list_onto read (list_onto (x ∷ []) (list_front one n rest)) = rw some refl in
    ap (λ (k : ℕ). list_onto (read ++ x ∷ []) (list_front one k rest)) less ∙ onto_more read x (list_front one n rest) ∙ sym opened ∙ h

-- the first four bytes of an image
pub magic_told : (b : List ℕ) (r : Option (Bor (List ℕ))) → MatchOption r (pointwise nat_eq (take 4 b) (codes "GGI1") ≡ false)
    (λ x. (pointwise nat_eq (take 4 b) (codes "GGI1") ≡ true) × (x.now ≡ drop 4 b) × (length x.now + 4 ≡ length b)) → behind_magic b ≡ option_copied r
magic_told b None h = ap (λ (t : Bool). cond t (Some (drop 4 b)) None) h
magic_told b (Some x) h = ap (λ (t : Bool). cond t (Some (drop 4 b)) None) h.0 ∙ ap Some (sym h.1)

pub ruleset part_steps = (parts_start, parts_end, parts_fail, parts_step)
