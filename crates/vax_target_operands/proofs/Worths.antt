-- What a scene's terms are worth.
use Rattle.std.proofs.Common.{◌≡◌, ℕ, ◌^◌, ◌<◌, ap, ◌∙◌, arith}
use Rattle.gg_base.specs.declared.size.Size.{Size}
use Rattle.gg_base.specs.declared.size.Size.TheVariants.{Byte, Word, Long}
use Rattle.gg_base.specs.Sizes.{bytes_of, low}
use Rattle.gg_base.specs.Arithmetic.{mul32}
use Rattle.vax_target_meaning.specs.term_core.specs.Shape.{Shape}
use Rattle.vax_target_meaning.specs.term_core.proofs.Values.{small}
use Rattle.vax_target_meaning.specs.sel_target.specs.Values.{term_state}
use Rattle.vax_target_meaning.specs.vax_templates.specs.Standing.{scaled}
use Rattle.vax_target_meaning.specs.vax_templates.specs.Giving.{truncated}
use Rattle.vax_target_operands.specs.Scenes.{Scene, worth}

pub worth_small : (c : Scene) (t : Shape) → worth c t < 2 ^ 32
worth_small c t = small (term_state c.view) t

-- the part of a number that is read
pub cut_is : (c : Scene) (size : Size) (t : Shape) (n : ℕ) → n ≡ worth c t → low size n ≡ worth c (truncated size t)
cut_is c Byte t n e = ap (low Byte) e
cut_is c Word t n e = ap (low Word) e
cut_is c Long t n e = e

pub scaled_is : (c : Scene) (size : Size) (t : Shape) (n : ℕ) → n ≡ worth c t → mul32 n (bytes_of size) ≡ worth c (scaled size t)
scaled_is c Byte t n e = (let r : mul32 n 1 ≡ mul32 1 n = omega arith in r) ∙ ap (λ x. mul32 1 x) e
scaled_is c Word t n e = (let r : mul32 n 2 ≡ mul32 2 n = omega arith in r) ∙ ap (λ x. mul32 2 x) e
scaled_is c Long t n e = (let r : mul32 n 4 ≡ mul32 4 n = omega arith in r) ∙ ap (λ x. mul32 4 x) e
