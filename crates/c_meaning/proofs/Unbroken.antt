-- No run of a program breaks.
use Rattle.std.proofs.Common.{ℕ, zero, suc, ◌<◌, List, [], Option, Some, None, subst, arith}
use Rattle.std.specs.Prelude.{◌≡◌, slice_get}
use Rattle.gg_base.specs.declared.run.Break.{Break}
use Rattle.gg_base.specs.declared.run.End.{End}
use Rattle.gg_base.specs.declared.run.End.TheVariants.{Ended, Trapped, Wild, Deep, Spent, Broken}
use Rattle.gg_base.specs.Runs.{Runs, counted}
use Rattle.c_program.specs.Programs.{ARoutine, AProgram}
use Rattle.c_meaning.specs.Calls.{answer, begun}
use Rattle.c_meaning.specs.Programs.{finished, at_first, main_of, source}
use Rattle.c_meaning.proofs.Law.{IsStop, Kept, Same, performs_kept}

-- with fewer than k counted turns and calls the run does not break
abbrev Whole : ℕ → Runs → Runs → Type 0
Whole k r q = (n : ℕ) → n < k → (kind : Break) → (r n).end ≡ Broken kind → ⊥

whole_stop : (e : End) → IsStop e → (kind : Break) → e ≡ Broken kind → ⊥
whole_stop (Ended v) h kind is = cc
whole_stop Trapped h kind is = cc
whole_stop Wild h kind is = cc
whole_stop Deep h kind is = cc
whole_stop Spent h kind is = h
whole_stop (Broken other) h kind is = h

whole_counted : (k : ℕ) (r q : Runs) → Whole k r q → Whole (suc k) (counted r) (counted q)
whole_counted k r q h zero lt kind is = cc
whole_counted k r q h (suc n) lt kind is = h n (omega arith) kind is

whole_kept : Kept Whole
whole_kept = record {
  none = λ r q n lt. absurd (omega arith);
  stops = λ k e h n lt. whole_stop e h;
  emits = λ k b r q h. h;
  counts = whole_counted;
  weakens = λ j k r q le h n lt. h n (omega arith);
}

whole_looks : (k : ℕ) (r r' q q' : Runs) → Same k r r' → Same k q q' → Whole k r q → Whole k r' q'
whole_looks k r r' q q' same other h n lt kind = subst (λ o. o.end ≡ Broken kind → ⊥) (same n lt) (h n lt kind)

main_whole : (o : Option ARoutine) (p : AProgram) (input : List ℕ) (k : ℕ) → Whole k (main_of o p input) (main_of o p input)
main_whole None p input k = whole_kept.stops k Wild tt
main_whole (Some g) p input k =
    performs_kept Whole whole_kept whole_looks p g k finished finished (λ w st. whole_kept.stops k (Ended (answer w)) tt) (begun g [] (at_first p input))

pub unbroken : (p : AProgram) (input : List ℕ) (n : ℕ) (kind : Break) → (source p input n).end ≡ Broken kind → ⊥
unbroken p input n = main_whole (slice_get p.routines p.main) p input (suc n) n (omega arith)
