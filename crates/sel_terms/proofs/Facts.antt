-- Small facts of effects and of what a rule says of its symbols, which several laws cite.
use Rattle.std.specs.Prelude.{slice_get}
use Rattle.std.proofs.Common.{◌≡◌, ℕ, suc, ◌-◌, cond, List, ap, ◌∙◌}
use Rattle.gg_base.specs.declared.size.Size.TheVariants.{Long}
use Rattle.gg_base.proofs.Facts.{not_zero, one_less}
use Rattle.md_reader.specs.declared.types.Class.{Class}
use Rattle.md_reader.specs.declared.types.Sym.{Sym}
use Rattle.term_core.specs.Shape.{Shape}
use Rattle.sel_terms.specs.Effects.{Value}
use Rattle.sel_terms.specs.RuleFacts.{size_of_some, size_at}

pub same_Value : (a b : Shape) → Value a ≡ Value b → a ≡ b
same_Value a b e = cc

-- the size of a symbol at a place behind the result
pub size_behind : (classes : List Class) (right : List Sym) (j : ℕ) → size_at classes right (suc j) ≡ size_of_some classes (slice_get right j)
size_behind classes right j = ap (λ b. cond b Long (size_of_some classes (slice_get right (suc j - 1)))) (not_zero j) ∙ ap (λ k. size_of_some classes (slice_get right k)) (one_less j)
