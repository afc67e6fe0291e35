-- What stands beside a symbol of the parse stack, and what the restrictions of a rule ask of it.
use Rattle.std.specs.Prelude.{◌&&◌, List, map, Option, Some, None, Bool, false}
use Rattle.sel_target.specs.md_reader.specs.declared.types.Kind.{Kind}
use Rattle.sel_target.specs.md_reader.specs.Restrictions.{same_size}
use Rattle.sel_target.specs.declared.attr.Attr.{Attr}
use Rattle.sel_target.specs.declared.attr.Attr.TheVariants as attr
use Rattle.sel_target.specs.Meaning.{Meaning}
use Rattle.sel_target.specs.Values.{own_operand}
use Rattle.sel_target.specs.Symbols.{size_of_entry}

-- an attribute with the kind of its symbol's class, by which it is saved; a token has no class
pub record Entry (O : Type 0) : Type 0 where
  pub kind : Option Kind
  pub attr : Attr O

abbrev pub attrs : {O : Type 0} → List (Entry O) → List (Attr O)
attrs {O = O} es = map (λ (e : Entry O). e.attr) es

module _ {O I S F : Type 0} (of : Meaning O I S F) where
  -- the operand of a value, a place, a local or an argument
  abbrev pub spelled : Attr O → Option O
  spelled (attr.Value o) = Some o
  spelled a = own_operand of a

  abbrev pub same_operands : Option O → Option O → Bool
  same_operands None o = false
  same_operands (Some o) None = false
  same_operands (Some o) (Some p) = of.same o p

  -- of one size, and spelled alike
  abbrev pub alike : Entry O → Entry O → Bool
  alike a b = same_size (size_of_entry a.kind) (size_of_entry b.kind) && same_operands (spelled a.attr) (spelled b.attr)
