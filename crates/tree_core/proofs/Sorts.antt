-- Which sorts stand where statements are wanted.
use Rattle.std.proofs.Common.{◌≡◌, true, refl}
use Rattle.tree_core.specs.declared.token.Sort.{Sort}
use Rattle.tree_core.specs.Grammar.{fits}
use Rattle.tree_core.specs.declared.token.Sort.TheVariants as sort

pub fits_stmt : (x : Sort) → fits sort.Stmt x ≡ true → x ≡ sort.Stmt
fits_stmt sort.Stmt e = refl
fits_stmt _ e = absurd (cc)
