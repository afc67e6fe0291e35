-- The homes of a body are paired one to one, and its instructions are ready for them.
use Rattle.std.proofs.Common.{◌≡◌, inl, inr, ℕ, ◌<◌, ◌≤◌, Bool, true, false, cond, List, [], ◌∷◌, refl, sym, ap, subst, ◌∙◌, arith}
use Rattle.std.specs.Prelude.{◌==◌, ◌&&◌}
use Rattle.std.specs.List.{AllByRecursion, filter}
use Rattle.std.proofs.lemmas.Bool.{and_parts, or_parts, not-true}
use Rattle.vax_confined.specs.vax_core.specs.declared.register.Reg.{Reg}
use Rattle.vax_confined.specs.vax_core.specs.declared.register.Reg.TheVariants.{R6, R7, R8, R9, R10, R11}
use Rattle.vax_confined.specs.vax_core.specs.declared.operand.Operand.{Operand}
use Rattle.vax_confined.specs.vax_core.specs.declared.op.OperandKind.{OperandKind}
use Rattle.vax_confined.specs.vax_core.specs.declared.code.Instr.{Instr}
use Rattle.vax_confined.specs.vax_core.specs.declared.code.CodeItem.{CodeItem}
use Rattle.vax_confined.specs.vax_core.specs.declared.code.CodeItem.TheVariants as item_kind
use Rattle.vax_confined.specs.vax_core.specs.Ops.{shape}
use Rattle.vax_confined.specs.vax_core.specs.Registers.{reg_number, operand_names, operands_name}
use Rattle.vax_confined.specs.vax_core.specs.Valid.{is_base, is_index, is_operand, are_operands, allows}
use Rattle.vax_homes.specs.vax_frames.specs.Frames.{item_names, body_names}
use Rattle.vax_homes.specs.declared.choose.Home.{Home}
use Rattle.vax_homes.specs.Choosing.{spares, all_spare, item_spares, is_homeable, home_registers, is_free, paired, homes_of}
use Rattle.vax_homes_law.specs.Alike.{Has, FitsArguments, AllMayHome}
use Rattle.vax_homes_law.specs.Ready.{IsIn, Differ, HomesAreFit}

-- ---- what is chosen

module _ {X : Type 0} (p : X → Bool) where
  chosen_by : (y : X) (ys : List X) (x : X) → (IsIn x (filter p ys) → (p x ≡ true) × IsIn x ys) → (b : Bool) → p y ≡ b → IsIn x (cond b (y ∷ filter p ys) (filter p ys))
      → (p x ≡ true) × IsIn x (y ∷ ys)
  chosen_by y ys x rest true is (inl e) = (ap p e ∙ is, inl e)
  chosen_by y ys x rest true is (inr r) = ((rest r).0, inr (rest r).1)
  chosen_by y ys x rest false is r = ((rest r).0, inr (rest r).1)

  chosen_has : (xs : List X) (x : X) → IsIn x (filter p xs) → (p x ≡ true) × IsIn x xs
  chosen_has [] x r = absurd r
  chosen_has (y ∷ ys) x r = chosen_by y ys x (λ q. chosen_has ys x q) (p y) refl r

  differ_by : (y : X) (ys : List X) → (IsIn y ys → ⊥) → Differ (filter p ys) → (b : Bool) → Differ (cond b (y ∷ filter p ys) (filter p ys))
  differ_by y ys none rest true = ((λ r. none (chosen_has ys y r).1), rest)
  differ_by y ys none rest false = rest

  chosen_differ : (xs : List X) → Differ xs → Differ (filter p xs)
  chosen_differ [] d = tt
  chosen_differ (y ∷ ys) d = differ_by y ys d.0 (chosen_differ ys d.1) (p y)

-- ---- the pairs

paired_has : (ks : List ℕ) (rs : List Reg) (h : Home) → Has (paired ks rs) h → IsIn h.local ks × IsIn h.register rs
paired_has [] rs h r = absurd r
paired_has (k ∷ ks) [] h r = absurd r
paired_has (k ∷ ks) (q ∷ rs) h (inl e) = (inl (ap (λ (x : Home). x.local) (sym e)), inl (ap (λ (x : Home). x.register) (sym e)))
paired_has (k ∷ ks) (q ∷ rs) h (inr r) = (inr (paired_has ks rs h r).0, inr (paired_has ks rs h r).1)

one_register : (ks : List ℕ) (rs : List Reg) → Differ rs → (g h : Home) → Has (paired ks rs) g → Has (paired ks rs) h → g.register ≡ h.register → g ≡ h
one_register [] rs d g h a b e = absurd a
one_register (k ∷ ks) [] d g h a b e = absurd a
one_register (k ∷ ks) (q ∷ rs) d g h (inl a) (inl b) e = sym a ∙ b
one_register (k ∷ ks) (q ∷ rs) d g h (inl a) (inr b) e =
    absurd (d.0 (subst (λ (x : Reg). IsIn x rs) (sym e ∙ ap (λ (x : Home). x.register) (sym a)) (paired_has ks rs h b).1))
one_register (k ∷ ks) (q ∷ rs) d g h (inr a) (inl b) e =
    absurd (d.0 (subst (λ (x : Reg). IsIn x rs) (e ∙ ap (λ (x : Home). x.register) (sym b)) (paired_has ks rs g a).1))
one_register (k ∷ ks) (q ∷ rs) d g h (inr a) (inr b) e = one_register ks rs d.1 g h a b e

one_local : (ks : List ℕ) (rs : List Reg) → Differ ks → (g h : Home) → Has (paired ks rs) g → Has (paired ks rs) h → g.local ≡ h.local → g ≡ h
one_local [] rs d g h a b e = absurd a
one_local (k ∷ ks) [] d g h a b e = absurd a
one_local (k ∷ ks) (q ∷ rs) d g h (inl a) (inl b) e = sym a ∙ b
one_local (k ∷ ks) (q ∷ rs) d g h (inl a) (inr b) e =
    absurd (d.0 (subst (λ (x : ℕ). IsIn x ks) (sym e ∙ ap (λ (x : Home). x.local) (sym a)) (paired_has ks rs h b).0))
one_local (k ∷ ks) (q ∷ rs) d g h (inr a) (inl b) e =
    absurd (d.0 (subst (λ (x : ℕ). IsIn x ks) (e ∙ ap (λ (x : Home). x.local) (sym b)) (paired_has ks rs g a).0))
one_local (k ∷ ks) (q ∷ rs) d g h (inr a) (inr b) e = one_local ks rs d.1 g h a b e

-- ---- r6 to r11

abbrev register_of : ℕ → Reg
register_of n = cond (n == 6) R6 (cond (n == 7) R7 (cond (n == 8) R8 (cond (n == 9) R9 (cond (n == 10) R10 R11))))

pub record IsHigh (r : Reg) : Type 0 where
  pub low : 6 ≤ reg_number r
  pub high : reg_number r < 12
  pub back : register_of (reg_number r) ≡ r

is_high : (r : Reg) → IsIn r home_registers → IsHigh r
is_high r (inl e) = subst IsHigh (sym e) (record { low = omega arith; high = omega arith; back = refl })
is_high r (inr (inl e)) = subst IsHigh (sym e) (record { low = omega arith; high = omega arith; back = refl })
is_high r (inr (inr (inl e))) = subst IsHigh (sym e) (record { low = omega arith; high = omega arith; back = refl })
is_high r (inr (inr (inr (inl e)))) = subst IsHigh (sym e) (record { low = omega arith; high = omega arith; back = refl })
is_high r (inr (inr (inr (inr (inl e))))) = subst IsHigh (sym e) (record { low = omega arith; high = omega arith; back = refl })
is_high r (inr (inr (inr (inr (inr (inl e)))))) = subst IsHigh (sym e) (record { low = omega arith; high = omega arith; back = refl })
is_high r (inr (inr (inr (inr (inr (inr e)))))) = absurd e

-- a list of registers whose numbers are above another's
abbrev Above : ℕ → List Reg → Type 0
Above n [] = Unit {0}
Above n (r ∷ rs) = (n < reg_number r) × Above n rs

not_above : (q : Reg) (rs : List Reg) → Above (reg_number q) rs → IsIn q rs → ⊥
not_above q [] a e = e
not_above q (r ∷ rs) a (inl e) = omega (arith, a.0, ap reg_number e)
not_above q (r ∷ rs) a (inr e) = not_above q rs a.1 e

registers_differ : Differ home_registers
registers_differ = (
  not_above R6 (R7 ∷ (R8 ∷ (R9 ∷ (R10 ∷ (R11 ∷ []))))) (omega arith, (omega arith, (omega arith, (omega arith, (omega arith, tt))))),
  (
    not_above R7 (R8 ∷ (R9 ∷ (R10 ∷ (R11 ∷ [])))) (omega arith, (omega arith, (omega arith, (omega arith, tt)))),
    (
      not_above R8 (R9 ∷ (R10 ∷ (R11 ∷ []))) (omega arith, (omega arith, (omega arith, tt))),
      (
        not_above R9 (R10 ∷ (R11 ∷ [])) (omega arith, (omega arith, tt)),
        (
          not_above R10 (R11 ∷ []) (omega arith, tt),
          ((λ r. r), tt),
        ),
      ),
    ),
  ),
)

-- ---- the body

names_in : (body : List CodeItem) (r : ℕ) (i : Instr) → body_names body r ≡ false → IsIn (item_kind.Instr i) body → operands_name i.operands r ≡ false
names_in [] r i e in_body = absurd in_body
names_in (x ∷ rest) r i e (inl is) = ap (λ (y : CodeItem). item_names y r) is ∙ (or_parts (item_names x r) (body_names rest r) e).0
names_in (x ∷ rest) r i e (inr more) = names_in rest r i (or_parts (item_names x r) (body_names rest r) e).1 more

spares_in : (body : List CodeItem) (k : ℕ) (i : Instr) → is_homeable body k ≡ true → IsIn (item_kind.Instr i) body → all_spare k (shape i.op).operands i.operands ≡ true
spares_in [] k i e in_body = absurd in_body
spares_in (x ∷ rest) k i e (inl is) = ap (item_spares k) is ∙ (and_parts (item_spares k x) (is_homeable rest k) e).0
spares_in (x ∷ rest) k i e (inr more) = spares_in rest k i (and_parts (item_spares k x) (is_homeable rest k) e).1 more

all_ready : (hs : List Home) (args : ℕ) (ks : List OperandKind) (os : List Operand) → are_operands ks os ≡ true → ((g : Home) → Has hs g → all_spare g.local ks os ≡ true)
    → ((g : Home) → Has hs g → operands_name os (reg_number g.register) ≡ false) → AllByRecursion (λ (o : Operand). FitsArguments args o.base) os → AllMayHome hs args ks os
all_ready hs args [] os valid spared unnamed fits = tt
all_ready hs args (k ∷ ks) [] valid spared unnamed fits = tt
all_ready hs args (k ∷ ks) (o ∷ os) valid spared unnamed fits =
    let v = and_parts (is_operand k o) (are_operands ks os) valid in (
      record {
        valid = (and_parts (is_base o.base) (is_index o.base o.index) (and_parts (allows k.access o.base) (is_base o.base && is_index o.base o.index) v.0).1).0;
        unnamed = λ g g_in. (or_parts (operand_names o (reg_number g.register)) (operands_name os (reg_number g.register)) (unnamed g g_in)).0;
        spared = λ g g_in. (and_parts (spares g.local k o) (all_spare g.local ks os) (spared g g_in)).0;
        fits = fits.0;
      },
      all_ready hs args ks os v.1 (λ g g_in. (and_parts (spares g.local k o) (all_spare g.local ks os) (spared g g_in)).1)
          (λ g g_in. (or_parts (operand_names o (reg_number g.register)) (operands_name os (reg_number g.register)) (unnamed g g_in)).1) fits.1,
    )

pub homes_are_fit : HomesAreFit
homes_are_fit wanted body differ =
    let ks = filter (is_homeable body) wanted in
    let rs = filter (is_free body) home_registers in
    let high : (h : Home) → Has (homes_of wanted body) h → IsHigh h.register = λ h h_in. is_high h.register (chosen_has (is_free body) home_registers h.register (paired_has ks rs h h_in).1).1 in
    record {
      paired = record {
        low = λ h h_in. (high h h_in).low;
        high = λ h h_in. (high h h_in).high;
        registers = λ g h g_in h_in e. one_register ks rs (chosen_differ (is_free body) home_registers registers_differ) g h g_in h_in
            (sym (high g g_in).back ∙ ap register_of e ∙ (high h h_in).back);
        locals = λ g h g_in h_in e. one_local ks rs (chosen_differ (is_homeable body) wanted differ) g h g_in h_in e;
      };
      ready = λ args i i_in valid fits. all_ready (homes_of wanted body) args (shape i.op).operands i.operands valid
          (λ g g_in. spares_in body g.local i (chosen_has (is_homeable body) wanted g.local (paired_has ks rs g g_in).0).0 i_in)
          (λ g g_in. names_in body (reg_number g.register) i (not-true (body_names body (reg_number g.register)) (chosen_has (is_free body) home_registers g.register (paired_has ks rs g g_in).1).0) i_in)
          fits;
    }
