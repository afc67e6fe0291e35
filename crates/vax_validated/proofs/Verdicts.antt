-- Two codes of which all pieces are shown behave alike.
use Rattle.std.proofs.Common.{◌≡◌, ℕ, true, List, []}
use Rattle.vax_core.specs.declared.code.Code.{Code}
use Rattle.vax_core.specs.Valid.{is_code}
use Rattle.vax_pairs_checked.specs.Masks.{KeepsMasks}
use Rattle.vax_pairs_checked.specs.Accepted.{Cut, AreAccepted}
use Rattle.vax_pairs_checked.specs.Laws.{AcceptedCodesAreAlike}
use Rattle.vax_validated.specs.declared.judging.Verdict.{Verdict}
use Rattle.vax_validated.specs.declared.judging.Verdict.TheVariants as verdicts
use Rattle.vax_validated.specs.Judged.{AreSound, IsShown, IsJudged, IsVerdict}

shown : AcceptedCodesAreAlike → (cuts : List Cut) (c d : Code) → is_code c ≡ true → AreSound c d → (KeepsMasks c.items → KeepsMasks d.items → AreAccepted cuts c d) → IsShown c d
shown law cuts c d valid sound accepted = record {
  valid = sound.valid;
  alike = law cuts c d valid sound.valid (λ loads. (sound.loads, accepted sound.masks sound.others_masks));
}

pub judged : AcceptedCodesAreAlike → (cuts : List Cut) (c d : Code) → is_code c ≡ true → AreSound c d → (places : List ℕ) (v : Verdict)
    → (places ≡ [] → KeepsMasks c.items → KeepsMasks d.items → AreAccepted cuts c d) → IsVerdict places v → IsJudged c d v
judged law cuts c d valid sound places verdicts.Alike accepted none = shown law cuts c d valid sound (accepted none)
judged law cuts c d valid sound places (verdicts.Apart others) accepted none = tt
judged law cuts c d valid sound places verdicts.Open accepted none = tt
