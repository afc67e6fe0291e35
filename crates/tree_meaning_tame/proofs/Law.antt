-- The laws, in the words of the claims.
use Rattle.tree_meaning_tame.specs.Claims.{DeedIsTame, TrapIsTame, SeesTheDeed}
use Rattle.tree_meaning_tame.proofs.Strict.{deed_settled}
use Rattle.tree_meaning_tame.proofs.Calm.{trap_tame}
use Rattle.tree_meaning_tame.proofs.Sights.{tree_deed_grows}

pub deed_is_tame : DeedIsTame
deed_is_tame objects s l f d = deed_settled objects s l f d

pub trap_is_tame : TrapIsTame
trap_is_tame objects s l f w typed there calm e = trap_tame objects s l f w typed there calm e

pub sees_the_deed : SeesTheDeed
sees_the_deed objects s t c f = tree_deed_grows objects s t c f
