-- What a statement tree does, apart from the run that goes on behind it: plain data, by what the tree reads alone.
use Rattle.std.specs.Prelude.{ℕ, List, Option, Some, None, slice_get}
use Rattle.gg_base.specs.declared.relation.Rel.{Rel}
use Rattle.tree_core.specs.declared.token.Tok.{Tok}
use Rattle.tree_core.specs.declared.token.Tok.TheVariants as tok
use Rattle.tree_core.specs.declared.tree.Att.{Att}
use Rattle.tree_core.specs.declared.tree.Att.TheVariants as att
use Rattle.tree_core.specs.declared.program.Object.{Object}
use Rattle.tree_core.specs.Trees.{Forest, none, tree}
use Rattle.tree_meaning.specs.declared.value.Value.{Value}
use Rattle.tree_meaning.specs.declared.value.Value.TheVariants.{Number, ZeroDivisor, Wild}
use Rattle.tree_meaning.specs.declared.value.Meaning.{Meaning}
use Rattle.tree_meaning.specs.declared.value.Meaning.TheVariants.{Of, Local, Argument, Memory}
use Rattle.tree_meaning.specs.Values.{Sight, kid, meanings}

-- A place gets a number, a branch compares two, an argument is pushed, a call is left with a value, a function is
-- called, a local gets the last call's result, a label is jumped to; or a divisor is zero, or an access is wild.
pub data Deed : Type 0 where
  Puts : (g : Meaning) (n : ℕ) → Deed
  Branches : (rel : Rel) (label : ℕ) (x y : ℕ) → Deed
  Pushes : (n : ℕ) → Deed
  Returns : (n : ℕ) → Deed
  Calls : (function count : ℕ) → Deed
  Saves : (local : ℕ) → Deed
  Jumps : (label : ℕ) → Deed
  Traps : Deed
  Strays : Deed

-- a value goes on, or the deed is none
abbrev pub given : Value → (ℕ → Deed) → Deed
given (Number n) f = f n
given ZeroDivisor f = Traps
given Wild f = Strays

-- the address of the place comes first, then the value; the place itself is tested when it is written
abbrev pub assigned : Option Meaning → Value → Deed
assigned None v = Strays
assigned (Some (Of u)) v = given u (λ n. Strays)
assigned (Some (Local k)) v = given v (Puts (Local k))
assigned (Some (Argument k)) v = given v (Puts (Argument k))
assigned (Some (Memory size address)) v = given v (Puts (Memory size address))

abbrev pub branched : Att → Value → Value → Deed
branched att.Nothing v w = Strays
branched (att.Number n) v w = Strays
branched (att.Object object offset) v w = Strays
branched (att.Slot n) v w = Strays
branched (att.Branch rel label) v w = given v (λ x. given w (λ y. Branches rel label x y))
branched (att.Label label) v w = Strays
branched (att.Callee function count) v w = Strays

abbrev pub jumped_by : Att → Deed
jumped_by att.Nothing = Strays
jumped_by (att.Number n) = Strays
jumped_by (att.Object object offset) = Strays
jumped_by (att.Slot n) = Strays
jumped_by (att.Branch rel label) = Strays
jumped_by (att.Label label) = Jumps label
jumped_by (att.Callee function count) = Strays

abbrev pub saved : Att → Deed
saved att.Nothing = Strays
saved (att.Number n) = Strays
saved (att.Object object offset) = Strays
saved (att.Slot k) = Saves k
saved (att.Branch rel label) = Strays
saved (att.Label label) = Strays
saved (att.Callee function count) = Strays

abbrev pub called_by : Att → Deed
called_by att.Nothing = Strays
called_by (att.Number n) = Strays
called_by (att.Object object offset) = Strays
called_by (att.Slot n) = Strays
called_by (att.Branch rel label) = Strays
called_by (att.Label label) = Strays
called_by (att.Callee function count) = Calls function count

-- what a token does over what its kids stand for
abbrev pub deed_of : Sight → Tok → Att → Option Meaning → Option Meaning → Deed
deed_of s tok.AssignB a m n = assigned m (kid s n)
deed_of s tok.AssignW a m n = assigned m (kid s n)
deed_of s tok.AssignL a m n = assigned m (kid s n)
deed_of s tok.Cbr a m n = branched a (kid s m) (kid s n)
deed_of s tok.Push a m n = given (kid s m) Pushes
deed_of s tok.Ret a m n = given (kid s m) Returns
deed_of s tok.Call a m n = called_by a
deed_of s tok.Save a m n = saved a
deed_of s tok.Jump a m n = jumped_by a
deed_of s t a m n = Strays

-- what the first tree does
abbrev pub tree_deed : List Object → Sight → Forest → Deed
tree_deed objects s none = Strays
tree_deed objects s (tree l below behind) = deed_of s l.tok l.att (slice_get (meanings objects s below) 0)
    (slice_get (meanings objects s below) 1)
