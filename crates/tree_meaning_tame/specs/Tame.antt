-- Trees no part of which is wild.
use Rattle.std.specs.Prelude.{◌≡◌, List, [], ◌∷◌, slice_get}
use Rattle.tree_core.specs.declared.token.Sort.{Sort}
use Rattle.tree_core.specs.declared.token.Sort.TheVariants as sort
use Rattle.tree_core.specs.declared.token.Tok.{Tok}
use Rattle.tree_core.specs.declared.token.Tok.TheVariants as tok
use Rattle.tree_core.specs.declared.tree.Att.{Att}
use Rattle.tree_core.specs.declared.tree.Leaf.{Leaf}
use Rattle.tree_core.specs.declared.program.Object.{Object}
use Rattle.tree_core.specs.Grammar.{kids}
use Rattle.tree_core.specs.Trees.{Forest, none, tree}
use Rattle.tree_meaning.specs.declared.value.Value.TheVariants.{ZeroDivisor, Wild}
use Rattle.tree_meaning.specs.declared.value.Meaning.{Meaning}
use Rattle.tree_meaning.specs.declared.value.Meaning.TheVariants.{Of}
use Rattle.tree_meaning.specs.Values.{Sight, read, token_means, leaf_means, meanings}

module _ (objects : List Object) (s : Sight) where
  -- what a tree stands for
  abbrev pub tree_means : Leaf → Forest → Meaning
  tree_means l below = leaf_means objects s l (slice_get (meanings objects s below) 0) (slice_get (meanings objects s below) 1)

  -- where a value is wanted it isn't wild; where a place is wanted it needn't be read
  abbrev pub IsTame : Sort → Meaning → Type 0
  IsTame sort.Long g = read s g ≡ Wild → ⊥
  IsTame sort.Byte g = read s g ≡ Wild → ⊥
  IsTame sort.Word g = read s g ≡ Wild → ⊥
  IsTame x g = Unit {0}

  -- so are all parts of trees that stand where these sorts are wanted
  abbrev pub Tame : List Sort → Forest → Type 0
  Tame [] f = Unit {0}
  Tame (x ∷ xs) none = Unit {0}
  Tame (x ∷ xs) (tree l below behind) = IsTame x (tree_means l below) × Tame (kids l.tok) below × Tame xs behind

  -- nowhere is a divisor zero
  abbrev pub IsUndivided : Sort → Meaning → Type 0
  IsUndivided sort.Long g = read s g ≡ ZeroDivisor → ⊥
  IsUndivided sort.Byte g = read s g ≡ ZeroDivisor → ⊥
  IsUndivided sort.Word g = read s g ≡ ZeroDivisor → ⊥
  IsUndivided sort.Stmt g = Unit {0}
  IsUndivided x g = g ≡ Of ZeroDivisor → ⊥

  abbrev pub Undivided : List Sort → Forest → Type 0
  Undivided [] f = Unit {0}
  Undivided (x ∷ xs) none = Unit {0}
  Undivided (x ∷ xs) (tree l below behind) =
      IsUndivided x (tree_means l below) × Undivided (kids l.tok) below × Undivided xs behind

  -- the constant, the object, the local or the argument that a leaf names is there
  abbrev pub IsThere : Tok → Att → Type 0
  IsThere tok.Const a = read s (token_means objects s tok.Const a Wild Wild) ≡ Wild → ⊥
  IsThere tok.Gaddr a = read s (token_means objects s tok.Gaddr a Wild Wild) ≡ Wild → ⊥
  IsThere tok.Loc a = read s (token_means objects s tok.Loc a Wild Wild) ≡ Wild → ⊥
  IsThere tok.Arg a = read s (token_means objects s tok.Arg a Wild Wild) ≡ Wild → ⊥
  IsThere t a = Unit {0}

  abbrev pub AllThere : Forest → Type 0
  AllThere none = Unit {0}
  AllThere (tree l below behind) = IsThere l.tok l.att × AllThere below × AllThere behind
