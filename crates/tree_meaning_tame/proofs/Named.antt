-- What named leaves name is there.
use Rattle.std.proofs.Common.{◌≡◌, ℕ, zero, suc, ◌-◌, ◌<◌, List, [], ◌∷◌, Option, Some, None, true, length, refl, slice_get, arith}
use Rattle.std.specs.Prelude.{nat_le}
use Rattle.std.proofs.lemmas.Bool.{ltb-true, leb-true, and_parts}
use Rattle.tree_core.specs.declared.token.Tok.{Tok}
use Rattle.tree_core.specs.declared.token.Tok.TheVariants as tok
use Rattle.tree_core.specs.declared.tree.Att.{Att}
use Rattle.tree_core.specs.declared.tree.Att.TheVariants as att
use Rattle.tree_core.specs.declared.program.Object.{Object}
use Rattle.tree_core.specs.declared.program.TreeFn.{TreeFn}
use Rattle.tree_core.specs.Attributes.{attribute_of, is_of_kind}
use Rattle.tree_core.specs.Valid.{names}
use Rattle.tree_core.specs.Trees.{Forest, none, tree}
use Rattle.tree_meaning.specs.declared.value.Value.TheVariants.{Wild}
use Rattle.tree_meaning.specs.Values.{Sight, there, address_of}
use Rattle.tree_meaning_tame.specs.Tame.{IsThere, AllThere}
use Rattle.tree_meaning_tame.specs.Sights.{Frames, AllNamed}
use Rattle.tree_meaning_tame.specs.Claims.{NamedIsThere}

some_at : {Y : Type 0} (ys : List Y) (i : ℕ) → i < length ys → slice_get ys i ≡ None → ⊥
some_at [] i lt e = omega (arith, lt)
some_at (y ∷ ys) zero lt e = cc
some_at (y ∷ ys) (suc i) lt e = some_at ys i (omega (arith, lt)) e

not_wild : (o : Option ℕ) → (o ≡ None → ⊥) → there o ≡ Wild → ⊥
not_wild None h e = h refl
not_wild (Some n) h e = cc

object_there : (o : Option Object) (k : ℕ) → (o ≡ None → ⊥) → address_of o k ≡ Wild → ⊥
object_there None k h e = h refl
object_there (Some o) k h e = cc

module _ (fs : List TreeFn) (objects : List Object) (f : TreeFn) (t : Sight) (frame : Frames f t) where
  leaf_there : (k : Tok) (a : Att) → is_of_kind (attribute_of k) a ≡ true → names fs (length objects) f (attribute_of k) a ≡ true → IsThere objects t k a
  leaf_there tok.Zero a e h = tt
  leaf_there tok.One a e h = tt
  leaf_there tok.Two a e h = tt
  leaf_there tok.Four a e h = tt
  leaf_there tok.Eight a e h = tt
  leaf_there tok.Const (att.Number n) e h = λ q. cc
  leaf_there tok.Gaddr (att.Object o n) e h = object_there (slice_get objects o) n (some_at objects o (ltb-true o (length objects) h))
  leaf_there tok.Loc (att.Slot n) e h = not_wild (t.locals n) (frame.locals n (ltb-true n f.locals h))
  leaf_there tok.Arg (att.Slot n) e h =
      (let p = and_parts (nat_le 1 n) (nat_le n 255) e in let a = leb-true 1 n p.0 in let b = leb-true n f.args h in let c = frame.arguments in not_wild (slice_get t.arguments (n - 1))
      (some_at t.arguments (n - 1) (omega (arith, a, b, c))))
  leaf_there tok.IndirB a e h = tt
  leaf_there tok.IndirW a e h = tt
  leaf_there tok.IndirL a e h = tt
  leaf_there tok.Plus a e h = tt
  leaf_there tok.Minus a e h = tt
  leaf_there tok.Mul a e h = tt
  leaf_there tok.Div a e h = tt
  leaf_there tok.Mod a e h = tt
  leaf_there tok.And a e h = tt
  leaf_there tok.Or a e h = tt
  leaf_there tok.Xor a e h = tt
  leaf_there tok.Lsh a e h = tt
  leaf_there tok.Rsh a e h = tt
  leaf_there tok.Neg a e h = tt
  leaf_there tok.Com a e h = tt
  leaf_there tok.Sxb a e h = tt
  leaf_there tok.Zxb a e h = tt
  leaf_there tok.Sxw a e h = tt
  leaf_there tok.Zxw a e h = tt
  leaf_there tok.Ncb a e h = tt
  leaf_there tok.Ncw a e h = tt
  leaf_there tok.AssignB a e h = tt
  leaf_there tok.AssignW a e h = tt
  leaf_there tok.AssignL a e h = tt
  leaf_there tok.Cbr a e h = tt
  leaf_there tok.Push a e h = tt
  leaf_there tok.Ret a e h = tt
  leaf_there tok.Call a e h = tt
  leaf_there tok.Save a e h = tt
  leaf_there tok.Jump a e h = tt
  leaf_there tok.End a e h = tt
  leaf_there _ _ e h = absurd (cc)

  all_there : (trees : Forest) → AllNamed fs (length objects) f trees → AllThere objects t trees
  all_there none h = tt
  all_there (tree l below behind) h = (leaf_there l.tok l.att h.0 h.1, all_there below h.2, all_there behind h.3)

pub named_is_there : NamedIsThere
named_is_there fs objects f t trees frame h = all_there fs objects f t frame trees h
