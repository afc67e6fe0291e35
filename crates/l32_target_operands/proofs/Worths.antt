-- What a scene's terms are worth.
use Rattle.std.proofs.Common.{◌≡◌, ℕ, ◌^◌, ◌<◌, ap}
use Rattle.gg_base.specs.declared.size.Size.{Size}
use Rattle.gg_base.specs.declared.size.Size.TheVariants.{Byte, Word, Long}
use Rattle.gg_base.specs.Sizes.{low}
use Rattle.judging_laws.specs.term_core.specs.Shape.{Shape}
use Rattle.judging_laws.specs.vax_templates.specs.Giving.{truncated}
use Rattle.judging_laws.specs.term_core.proofs.Values.{small}
use Rattle.judging_laws.specs.sel_target.specs.Values.{term_state}
use Rattle.l32_target_operands.specs.Scenes.{Scene, worth}

pub worth_small : (c : Scene) (t : Shape) → worth c t < 2 ^ 32
worth_small c t = small (term_state c.view) t

-- the part of a number that is read
pub cut_is : (c : Scene) (size : Size) (t : Shape) (n : ℕ) → n ≡ worth c t → low size n ≡ worth c (truncated size t)
cut_is c Byte t n e = ap (low Byte) e
cut_is c Word t n e = ap (low Word) e
cut_is c Long t n e = e
