use Rattle.std.proofs.Common.{◌≡◌, ◌+◌, ◌≤◌, ◌<◌, ℕ, zero, suc, List, Some, length, refl, sym, ap, subst, ◌∙◌, arith, ⊎_elim, rules, tests}
use Rattle.std.proofs.lemmas.Bool.{cases_lt}
use Rattle.std.proofs.lemmas.Option.{slice_get_read}
use Rattle.std.specs.Prelude.{slice_get}
use Rattle.std.specs.Array.{IsFromFnResultFrom}
use Rattle.std.specs.Fn.{Called}
use denote.Param.Members.{Mut}
use Rattle.sel_regs.specs.declared.pool.Register.{Register}
use Rattle.sel_regs.specs.Pool.{start_of}
use Rattle.sel_regs.proofs.pool.Pool.new.Goals as goal

-- where each call answers what h says, each place has it
module _ {F : Type 0} (g : Mut F (ℕ × Unit {0}) Register) (f : F) (h : ℕ → Register) (all : List Register)
    (k : (i : ℕ) (x : Register) (q : F) → Called g f (i, tt) x q → (q ≡ f) × (x ≡ h i)) where
  made : (n i j : ℕ) → IsFromFnResultFrom g f all i n → i + n ≡ length all → i ≤ j → j < i + n → slice_get all j ≡ Some (h j)
  made zero i j e long from below = absurd (omega (arith, from, below))
  made (suc n) i j e long from below =
      ⊎_elim (λ less. made n (i + 1) j (subst (λ q. IsFromFnResultFrom g q all (i + 1) n) (k i e.1 e.0 e.3).0 e.4) (omega (arith, long)) (omega (arith, less)) (omega (arith, below)))
      (λ le.
      let same : i ≡ j = omega (arith, from, le) in
      subst (λ m. slice_get all m ≡ Some (h m)) same (slice_get_read all (length all) i e.1 refl (omega (arith, long)) (sym e.2.0) ∙ ap Some (k i e.1 e.0 e.3).1))
      (cases_lt i j)

pub returns-clause-each : goal.returns-clause-each
returns-clause-each c = λ r below.
    let items = c.from_fn.ensures.items in
    made _ _ (start_of c.args.registers) _ (λ i x q k. search (rules, tests)) 16 0 r items.each (sym items.long) (omega arith) below
