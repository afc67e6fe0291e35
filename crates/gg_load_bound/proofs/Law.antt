-- The bound of compiled code, at a generated source.
use Rattle.std.proofs.Common.{◌≡◌, ℕ, ◌+◌, ◌≤◌, List, sym, ap, subst, ◌∙◌, arith}
use Rattle.std.proofs.Math.Nat.{mul-le-mul_left}
use Rattle.gg_base.specs.declared.limits.TheConstants.{NEED_LIMIT}
use Rattle.gg_base.specs.declared.run.End.TheVariants.{Ended, Spent}
use Rattle.gg_base.specs.Runs.{Outcome, OneEnd}
use Rattle.c_meaning.specs.Programs.{source}
use Rattle.c_typed_words.proofs.Tokens.{unit_has_tokens}
use Rattle.c_typed.specs.Sources.{Reads}
use Rattle.c_lower_counts.specs.Zeros.{with_zeros}
use Rattle.vax_core.specs.declared.code.Code.{Code}
use Rattle.vax_machine.specs.Running.{run}
use Rattle.vax_machine.proofs.Law.{run_has_one_end}
use Rattle.vax_bound.specs.Bound.{stretch, bound}
use Rattle.gg_compile_laws.specs.c_typed_check.specs.Typed.{IsTypedUnit, need_at}
use Rattle.gg_compile_codes.specs.Bounded.{EndsIn}
use Rattle.gg_compile_codes.proofs.Bounded.{typed_codes_are_bounded}
use Rattle.gg_load.specs.Source.{source_text}
use Rattle.gg_load_program.specs.Program.{source_program}
use Rattle.gg_load_meaning.specs.Run.{ComesTo, source_outcome}
use Rattle.gg_load_bound.specs.Claims.{enough, GeneratedCodesAreBounded}
use Rattle.gg_load_bound.proofs.Sizes.{within}
use Rattle.gg_load_bound.proofs.Bytes.{source_bytes}
use Rattle.gg_load_bound.proofs.Zeros.{with_none}

ended_spent : Ended 0 ≡ Spent → ⊥
ended_spent e = cc

typed : (k : ℕ) → k ≤ 1000 → Reads (source_text k) (source_program k) → IsTypedUnit (source_program k)
typed k low r = record {
  unit = r.unit;
  ends = r.ends;
  tokens = unit_has_tokens (source_text k) r.spells.list r.unit (source_bytes k low) (within k low) r.spells.tokens r.spells.phrases;
  typed = r.typed;
}

-- what has ended with so many instructions has ended with more
ends_later : (c : Code) (input output : List ℕ) (i m : ℕ) → i ≤ m → EndsIn i (Ended 0) output (run c input) → EndsIn m (Ended 0) output (run c input)
ends_later c input output i m le h =
    let one : OneEnd (run c input) = run_has_one_end c input in
    let count = one.within i in
    let same : run c input m ≡ run c input i = one.stays m i (λ s. ended_spent (sym h.1 ∙ s)) (omega (arith, count, le)) in
    (ap (λ (o : Outcome). o.output) same ∙ h.0, ap (λ (o : Outcome). o.end) same ∙ h.1)

few_stretches : (c : Code) (n k : ℕ) → n ≤ k + 8 → bound c n ≤ enough c k
few_stretches c n k le = mul-le-mul_left (stretch c) (let few : n + 1 ≤ k + 9 = omega (arith, le) in few)

module _ (reads : (k : ℕ) → k ≤ 1000 → Reads (source_text k) (source_program k)) (needs : (k n : ℕ) → need_at (source_program k) n ≤ NEED_LIMIT)
    (runs : (k : ℕ) (input : List ℕ) → ComesTo (source (source_program k) input) (source_outcome k)) (few : (k : ℕ) → (source_outcome k).number ≤ k + 8) where
  pub generated_codes_are_bounded : GeneratedCodesAreBounded
  generated_codes_are_bounded k d c input low fit selected bytes =
      let p = source_program k in
      let o = source_outcome k in
      let n = o.number in
      let own : EndsIn (bound c (with_zeros p n)) (source p input n).end (source p input n).output (run c input) =
      typed_codes_are_bounded p d c (typed k low (reads k low)) (λ i lt. needs k i) fit selected input bytes n in
      let told : EndsIn (bound c n) (Ended 0) o.output (run c input) =
      subst (λ (x : Outcome). EndsIn (bound c n) x.end x.output (run c input)) ((runs k input).reaches n (omega arith))
      (subst (λ (m : ℕ). EndsIn (bound c m) (source p input n).end (source p input n).output (run c input)) (with_none k n) own) in
      ends_later c input o.output (bound c n) (enough c k) (few_stretches c n k (few k)) told
