-- A run of a program has one end.
use Rattle.std.proofs.Common.{ℕ, ◌≤◌, List, [], Option, Some, None, subst, arith}
use Rattle.std.specs.Prelude.{◌≡◌, slice_get, suc}
use Rattle.gg_base.specs.declared.run.End.{End}
use Rattle.gg_base.specs.declared.run.End.TheVariants.{Ended, Trapped, Wild, Deep, Spent, Broken}
use Rattle.gg_base.specs.Runs.{Runs, OneEnd}
use Rattle.gg_base.specs.Lasting.{Grows, Lasts}
use Rattle.gg_base.proofs.Lasting.{lasts_none, lasts_stop, lasts_emit, lasts_counted, one_end_of}
use Rattle.c_program.specs.Programs.{ARoutine, AProgram}
use Rattle.c_meaning.specs.Calls.{answer, begun}
use Rattle.c_meaning.specs.Programs.{finished, at_first, main_of, source}
use Rattle.c_meaning.proofs.Law.{IsStop, Kept, Same, performs_kept}

not_spent : (e : End) → IsStop e → e ≡ Spent → ⊥
not_spent (Ended v) h is = cc
not_spent Trapped h is = cc
not_spent Wild h is = cc
not_spent Deep h is = cc
not_spent Spent h is = h
not_spent (Broken kind) h is = h

lasts_kept : Kept (λ k r q. Lasts k r)
lasts_kept = record {
  none = λ r q. lasts_none r;
  stops = λ k e h. lasts_stop k e (not_spent e h);
  emits = λ k b r q h. lasts_emit k b r h;
  counts = λ k r q h. lasts_counted k r h;
  weakens = λ j k r q le h. record { bound = λ n lt. h.bound n (omega arith); all_spent = λ n lt. h.all_spent n (omega arith); grows = λ n lt. h.grows n (omega arith) };
}

lasts_looks : (k : ℕ) (r r' q q' : Runs) → Same k r r' → Same k q q' → Lasts k r → Lasts k r'
lasts_looks k r r' q q' same other h = record {
  bound = λ n lt. subst (λ o. o.number ≤ n) (same n lt) (h.bound n lt);
  all_spent = λ n lt. subst (λ o. o.end ≡ Spent → o.number ≡ n) (same n lt) (h.all_spent n lt);
  grows = λ n lt. subst (λ o. Grows n o (r' (suc n))) (same n (omega arith)) (subst (λ o. Grows n (r n) o) (same (suc n) lt) (h.grows n lt));
}

main_lasts : (o : Option ARoutine) (p : AProgram) (input : List ℕ) (k : ℕ) → Lasts k (main_of o p input)
main_lasts None p input k = lasts_kept.stops k Wild tt
main_lasts (Some g) p input k =
    performs_kept (λ k r q. Lasts k r) lasts_kept lasts_looks p g k finished finished (λ w st. lasts_kept.stops k (Ended (answer w)) tt) (begun g [] (at_first p input))

pub one_end : (p : AProgram) (input : List ℕ) → OneEnd (source p input)
one_end p input = one_end_of (source p input) (main_lasts (slice_get p.routines p.main) p input)
