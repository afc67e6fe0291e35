-- What the tree of a place in the block is worth.
use Rattle.std.proofs.Common.{◌≡◌, ℕ, ◌^◌, ◌<◌, Some, refl, ap, arith, ◌∙◌}
use Rattle.std.specs.Prelude.{Bool, true, false, ◌==◌, if◌then◌else◌}
use Rattle.std.proofs.lemmas.Bool.{eqb-true}
use Rattle.gg_base.specs.Arithmetic.{add32}
use Rattle.tree_core.specs.declared.program.TreeProgram.{TreeProgram}
use Rattle.tree_meaning.specs.declared.value.Value.TheVariants.{Number}
use Rattle.tree_meaning.specs.Values.{bind, there}
use Rattle.c_types.specs.declared.typed.ArithmeticOperator.TheVariants as ariths
use Rattle.c_types.specs.Constants.{apply}
use Rattle.c_lower_scheme.specs.Trees.{Tree, Num, Loc, Bin}
use Rattle.c_lower_scheme.specs.Places.{in_block}
use Rattle.c_lower_follows.proofs.Values.{SmallTree, or_zero}
use Rattle.c_lower_follows.proofs.Steps.{Desk}
use Rattle.c_lower_follows.proofs.Agreeing.{Below, value}

module _ (program : TreeProgram) (size : ℕ) where
  abbrev held_by : Bool → ℕ → Tree
  held_by b o = if b then Loc size else Bin ariths.Add (Loc size) (Num o)

  below_by : (b : Bool) (o u : ℕ) → size < u → Below u (held_by b o)
  below_by true o u lt = lt
  below_by false o u lt = (lt, tt)

  small_by : (b : Bool) (o : ℕ) → o < 2 ^ 32 → SmallTree (held_by b o)
  small_by true o lt = tt
  small_by false o lt = (tt, lt)

  pub sum_of : (x o : ℕ) → or_zero (apply ariths.Add x o) ≡ Number (add32 x o)
  unfolding apply
  sum_of x o = refl

  value_by : (b : Bool) (o x : ℕ) (d : Desk) → (o == 0) ≡ b → d.locals size ≡ Some x → x < 2 ^ 32 → value program (held_by b o) d ≡ Number (add32 x o)
  value_by true o x d e is lt = ap there is ∙ (let none : o ≡ 0 = eqb-true o 0 e in let same : x ≡ add32 x o = omega arith in ap Number same)
  value_by false o x d e is lt = ap (λ m. bind (there m) (λ y. or_zero (apply ariths.Add y o))) is ∙ sum_of x o

  pub held_below : (o u : ℕ) → size < u → Below u (in_block size o)
  held_below o u lt = below_by (o == 0) o u lt

  pub held_small : (o : ℕ) → o < 2 ^ 32 → SmallTree (in_block size o)
  held_small o lt = small_by (o == 0) o lt

  pub held_value : (o x : ℕ) (d : Desk) → d.locals size ≡ Some x → x < 2 ^ 32 → value program (in_block size o) d ≡ Number (add32 x o)
  held_value o x d is lt = value_by (o == 0) o x d refl is lt
