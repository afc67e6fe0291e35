-- A term and its normal form are safe alike.
use Rattle.std.proofs.Common.{◌≡◌, true, sym, ◌∙◌}
use Rattle.term_core_accesses.specs.Keeping.{NormIsSafe}
use Rattle.term_core_accesses.proofs.Accesses.{safe_by_accesses}
use Rattle.term_core_accesses.proofs.Keeping.{norm_kept}
use Rattle.term_core.specs.Norm.{norm}

pub norm_is_safe : NormIsSafe
norm_is_safe facts every known area m s respects alike narrow =
    let k = norm_kept facts every (λ i. known i ≡ true) m respects (λ i. (λ h. sym (alike i) ∙ h, λ h. alike i ∙ h)) s narrow in
    let p = safe_by_accesses every known area m s in
    let q = safe_by_accesses every known area m (norm facts s) in (
      (λ h. let b = q.0 h in p.1 (k.knew b.0, λ x i. b.1 x (k.there x i))),
      (λ h. let b = p.0 h in q.1 (k.knows b.0, λ x i. b.1 x (k.back x i))),
    )
