-- A name or a register at the front is its one spelling, and each spelling is found.
use Rattle.std.proofs.Common.{◌≡◌, ℕ, suc, ◌≤◌, Bool, true, false, cond, eqb, leb, ◌&&◌, List, [], ◌∷◌, ◌++◌, length, take, drop, Option, Some, refl, sym, ap, subst, ◌∙◌, arith, append_assoc}
use Rattle.std.specs.Prelude.{codes}
use Rattle.std.specs.List.{list_all}
use Rattle.std.specs.Option.{option_and_then}
use Rattle.std.specs.Fmt.{decimal, digits}
use Rattle.std.proofs.lemmas.Bool.{eqb-true, leb-true, le-leb, and_parts}
use Rattle.std.proofs.lemmas.List.{take_at, drop_at, take-append-drop, length-take}
use Rattle.std.proofs.lemmas.Option.{none-some, same_Some, option_and_then_some, cond_some}
use Rattle.gg_base.proofs.Facts.{guarded}
use Rattle.gg_base.specs.Fronts.{run_len}
use Rattle.gg_base.specs.Names.{is_name_part}
use Rattle.vax_core.specs.declared.register.Reg.{Reg}
use Rattle.vax_core.specs.declared.register.Reg.TheVariants.{R0, R1, R2, R3, R4, R5, R6, R7, R8, R9, R10, R11, Ap, Fp, Sp}
use Rattle.vax_core.specs.Registers.{reg_text}
use Rattle.vax_core.specs.Text.{at_text}
use Rattle.vax_core.specs.Valid.{is_name_start, is_name}
use Rattle.vax_reader.specs.Fronts.{strip, number_front, name_of, name_front, general, numbered, general_front, found_reg, reg_front, closed, at_front}
use Rattle.vax_reader.proofs.Choices.{map_or_some, map_some}
use Rattle.vax_reader.proofs.FrontLaws.{strip_takes, EndsNumber, number_takes, number_again}

-- names

passing_at : (test : ℕ → Bool) (b : Bool) (c : ℕ) (cs : List ℕ) → test c ≡ b → list_all test (take (run_len test cs) cs) ≡ true
    → list_all test (take (cond b (suc (run_len test cs)) 0) (c ∷ cs)) ≡ true
passing_at test true c cs e h = rw (e, h) refl
passing_at test false c cs e h = refl

pub run_passes : (test : ℕ → Bool) (bs : List ℕ) → list_all test (take (run_len test bs) bs) ≡ true
run_passes test [] = refl
run_passes test (c ∷ cs) = passing_at test (test c) c cs refl (run_passes test cs)

pub run_len-append : (test : ℕ → Bool) (cs rest : List ℕ) → list_all test cs ≡ true → run_len test rest ≡ 0 → run_len test (cs ++ rest) ≡ length cs
run_len-append test [] rest h e = e
run_len-append test (c ∷ cs) rest h e =
    let p = and_parts (test c) (list_all test cs) h in
    rw p.0 (ap suc (run_len-append test cs rest p.1 e))

abbrev pub NameAt : List ℕ → List ℕ × List ℕ → Type 0
NameAt bytes x = (is_name x.0 ≡ true) × (bytes ≡ x.0 ++ x.1)

name_of_takes : (c : ℕ) (cs : List ℕ) (x : List ℕ × List ℕ) → is_name_start c ≡ true → name_of c cs (run_len is_name_part cs) ≡ Some x → NameAt (c ∷ cs) x
name_of_takes c cs x start e =
    let k = run_len is_name_part cs in
    let m = cond_some (leb k 63) (c ∷ take k cs, drop k cs) x e in
    let most : k ≤ 63 = leb-true k 63 m.0 in
    let short : length (take k cs) ≤ 63 = omega (arith, length-take k cs) in
    subst (NameAt (c ∷ cs)) m.1 (rw (start, le-leb (length (take k cs)) 63 short, run_passes is_name_part cs) refl, ap (λ (t : List ℕ). c ∷ t) (sym (take-append-drop k cs)))

pub name_takes : (bytes : List ℕ) (x : List ℕ × List ℕ) → name_front bytes ≡ Some x → NameAt bytes x
name_takes [] x e = absurd (none-some x e)
name_takes (c ∷ cs) x e =
    let g = guarded (is_name_start c) (name_of c cs (run_len is_name_part cs)) x e in
    name_of_takes c cs x g.0 g.1

-- no part of a name stands there
abbrev pub EndsName : List ℕ → Type 0
EndsName rest = run_len is_name_part rest ≡ 0

pub name_again : (name rest : List ℕ) → is_name name ≡ true → EndsName rest → name_front (name ++ rest) ≡ Some (name, rest)
name_again [] rest h ends = absurd (cc)
name_again (c ∷ cs) rest h ends =
    let p = and_parts (is_name_start c) (leb (length cs) 63 && list_all is_name_part cs) h in
    let q = and_parts (leb (length cs) 63) (list_all is_name_part cs) p.1 in
    rw (p.0, run_len-append is_name_part cs rest q.1 ends, q.0, take_at cs rest (length cs) refl, drop_at cs rest (length cs) refl) refl

-- registers

text_of_0 : reg_text R0 ≡ codes "r" ++ decimal 0
unfolding digits
text_of_0 = refl

text_of_1 : reg_text R1 ≡ codes "r" ++ decimal 1
unfolding digits
text_of_1 = refl

text_of_2 : reg_text R2 ≡ codes "r" ++ decimal 2
unfolding digits
text_of_2 = refl

text_of_3 : reg_text R3 ≡ codes "r" ++ decimal 3
unfolding digits
text_of_3 = refl

text_of_4 : reg_text R4 ≡ codes "r" ++ decimal 4
unfolding digits
text_of_4 = refl

text_of_5 : reg_text R5 ≡ codes "r" ++ decimal 5
unfolding digits
text_of_5 = refl

text_of_6 : reg_text R6 ≡ codes "r" ++ decimal 6
unfolding digits
text_of_6 = refl

text_of_7 : reg_text R7 ≡ codes "r" ++ decimal 7
unfolding digits
text_of_7 = refl

text_of_8 : reg_text R8 ≡ codes "r" ++ decimal 8
unfolding digits
text_of_8 = refl

text_of_9 : reg_text R9 ≡ codes "r" ++ decimal 9
unfolding digits
text_of_9 = refl

text_of_10 : reg_text R10 ≡ codes "r" ++ decimal 10
unfolding digits
text_of_10 = refl

text_of_11 : reg_text R11 ≡ codes "r" ++ decimal 11
unfolding digits
text_of_11 = refl

-- the register of a number is written so
abbrev Written : ℕ → Reg → Type 0
Written n r = reg_text r ≡ codes "r" ++ decimal n

choose : (n k : ℕ) (here r : Reg) (other : Option Reg) → cond (eqb n k) (Some here) other ≡ Some r → Written k here → (other ≡ Some r → Written n r) → Written n r
choose n k here r other e written more = by_test (eqb n k) refl e
  where
    by_test : (b : Bool) → eqb n k ≡ b → cond b (Some here) other ≡ Some r → Written n r
    by_test true q f = rw (eqb-true n k q, ← same_Some here r f) written
    by_test false q f = more f

general_written : (n : ℕ) (r : Reg) → general n ≡ Some r → Written n r
general_written n r e =
    choose n 0 R0 r _ e text_of_0 (λ e1. choose n 1 R1 r _ e1 text_of_1
    (λ e2. choose n 2 R2 r _ e2 text_of_2 (λ e3. choose n 3 R3 r _ e3 text_of_3
    (λ e4. choose n 4 R4 r _ e4 text_of_4 (λ e5. choose n 5 R5 r _ e5 text_of_5
    (λ e6. choose n 6 R6 r _ e6 text_of_6 (λ e7. choose n 7 R7 r _ e7 text_of_7
    (λ e8. choose n 8 R8 r _ e8 text_of_8 (λ e9. choose n 9 R9 r _ e9 text_of_9
    (λ e10. choose n 10 R10 r _ e10 text_of_10 (λ e11. choose n 11 R11 r _ e11 text_of_11 (λ e12. absurd (none-some r e12)))))))))))))

abbrev pub RegAt : List ℕ → Reg × List ℕ → Type 0
RegAt bytes x = bytes ≡ reg_text x.0 ++ x.1

general_takes : (bytes : List ℕ) (x : Reg × List ℕ) → general_front bytes ≡ Some x → codes "r" ++ bytes ≡ reg_text x.0 ++ x.1
general_takes bytes x e =
    option_and_then_some numbered (number_front bytes) x e (λ y ey more.
    map_some (λ (r : Reg). (r, y.1)) (general y.0) x more (λ r er is.
    subst (λ (z : Reg × List ℕ). codes "r" ++ bytes ≡ reg_text z.0 ++ z.1) is
    (ap (λ (t : List ℕ). codes "r" ++ t) (number_takes bytes y ey).1 ∙ ap (λ (t : List ℕ). t ++ y.1) (sym (general_written y.0 r er)))))

fixed_takes : (word : List ℕ) (r : Reg) (bytes rest : List ℕ) (x : Reg × List ℕ) → word ≡ reg_text r → strip word bytes ≡ Some rest → found_reg r rest ≡ Some x → RegAt bytes x
fixed_takes word r bytes rest x is e f =
    subst (RegAt bytes) (same_Some (r, rest) x f) (strip_takes word bytes rest e ∙ ap (λ (t : List ℕ). t ++ rest) is)

pub reg_takes : (bytes : List ℕ) (x : Reg × List ℕ) → reg_front bytes ≡ Some x → RegAt bytes x
unfolding reg_front
reg_takes bytes x e =
    map_or_some (strip (codes "r") bytes) general_front _ x e
    (λ rest er more. strip_takes (codes "r") bytes rest er ∙ general_takes rest x more)
    (λ e1. map_or_some (strip (codes "ap") bytes) (found_reg Ap) _ x e1
    (λ rest er more. fixed_takes (codes "ap") Ap bytes rest x refl er more)
    (λ e2. map_or_some (strip (codes "fp") bytes) (found_reg Fp) _ x e2
    (λ rest er more. fixed_takes (codes "fp") Fp bytes rest x refl er more)
    (λ e3. option_and_then_some (found_reg Sp) (strip (codes "sp") bytes) x e3
    (λ rest er more. fixed_takes (codes "sp") Sp bytes rest x refl er more))))

general_again : (n : ℕ) (r : Reg) (rest : List ℕ) → n ≤ 11 → general n ≡ Some r → Written n r → EndsNumber rest → reg_front (reg_text r ++ rest) ≡ Some (r, rest)
unfolding reg_front
general_again n r rest le is written ends = rw (written, number_again n rest (omega arith) ends, is) refl

pub reg_again : (r : Reg) (rest : List ℕ) → EndsNumber rest → reg_front (reg_text r ++ rest) ≡ Some (r, rest)
unfolding reg_front
reg_again R0 rest ends = general_again 0 R0 rest (omega arith) refl text_of_0 ends
reg_again R1 rest ends = general_again 1 R1 rest (omega arith) refl text_of_1 ends
reg_again R2 rest ends = general_again 2 R2 rest (omega arith) refl text_of_2 ends
reg_again R3 rest ends = general_again 3 R3 rest (omega arith) refl text_of_3 ends
reg_again R4 rest ends = general_again 4 R4 rest (omega arith) refl text_of_4 ends
reg_again R5 rest ends = general_again 5 R5 rest (omega arith) refl text_of_5 ends
reg_again R6 rest ends = general_again 6 R6 rest (omega arith) refl text_of_6 ends
reg_again R7 rest ends = general_again 7 R7 rest (omega arith) refl text_of_7 ends
reg_again R8 rest ends = general_again 8 R8 rest (omega arith) refl text_of_8 ends
reg_again R9 rest ends = general_again 9 R9 rest (omega arith) refl text_of_9 ends
reg_again R10 rest ends = general_again 10 R10 rest (omega arith) refl text_of_10 ends
reg_again R11 rest ends = general_again 11 R11 rest (omega arith) refl text_of_11 ends
reg_again Ap rest ends = refl
reg_again Fp rest ends = refl
reg_again Sp rest ends = refl

-- a closing word

abbrev ClosedAt : {A : Type 0} → List ℕ → A × List ℕ → A × List ℕ → Type 0
ClosedAt word x y = (x.0 ≡ y.0) × (x.1 ≡ word ++ y.1)

pub closed_takes : {A : Type 0} (word : List ℕ) (x y : A × List ℕ) → closed word x ≡ Some y → ClosedAt word x y
closed_takes word x y e =
    map_some (λ (rest : List ℕ). (x.0, rest)) (strip word x.1) y e (λ rest er is.
    subst (ClosedAt word x) is (refl, strip_takes word x.1 rest er))

-- a register, then a closing word
pub reg_closed_takes : (word bytes : List ℕ) (x : Reg × List ℕ) (y : Reg × List ℕ) → reg_front bytes ≡ Some x → closed word x ≡ Some y → bytes ≡ reg_text y.0 ++ (word ++ y.1)
reg_closed_takes word bytes x y e f =
    let c = closed_takes word x y f in
    reg_takes bytes x e ∙ ap (λ (t : List ℕ). reg_text x.0 ++ t) c.1 ∙ ap (λ (r : Reg). reg_text r ++ (word ++ y.1)) c.0

abbrev pub AtAt : List ℕ → Reg × List ℕ → Type 0
AtAt bytes x = bytes ≡ at_text x.0 ++ x.1

pub at_takes : (bytes : List ℕ) (x : Reg × List ℕ) → at_front bytes ≡ Some x → AtAt bytes x
unfolding at_front
at_takes bytes x e =
    option_and_then_some (λ (inner : List ℕ). option_and_then (closed (codes ")")) (reg_front inner)) (strip (codes "(") bytes) x e (λ inner ei more.
    option_and_then_some (closed (codes ")")) (reg_front inner) x more (λ y ey end.
    strip_takes (codes "(") bytes inner ei
    ∙ ap (λ (t : List ℕ). codes "(" ++ t) (reg_closed_takes (codes ")") inner y x ey end ∙ sym (append_assoc (reg_text x.0) (codes ")") x.1))))

pub at_again : (r : Reg) (rest : List ℕ) → at_front (at_text r ++ rest) ≡ Some (r, rest)
unfolding at_front
at_again r rest = rw (append_assoc (reg_text r) (codes ")") rest, reg_again r (codes ")" ++ rest) refl) refl
