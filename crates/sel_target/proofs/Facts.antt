-- Small facts of values and of what fits a kind, which several laws of targets cite.
use Rattle.std.proofs.Common.{◌≡◌, ℕ, ◌*◌, ◌^◌, ◌<◌, refl, arith, Option, Some, None, true}
use Rattle.std.specs.Prelude.{nat_le}
use Rattle.std.proofs.lemmas.Bool.Decides.{nat_tests}
use Rattle.gg_base.proofs.Facts.{first_true, second_true}
use Rattle.gg_base.specs.declared.size.Size.{Size}
use Rattle.gg_base.specs.declared.size.Size.TheVariants.{Byte, Word, Long}
use Rattle.gg_base.specs.Sizes.{bytes_of, low}
use Rattle.tree_core.specs.declared.token.AttKind.TheVariants as att_kind
use Rattle.tree_core.specs.declared.tree.Att.TheVariants as att
use Rattle.tree_core.specs.declared.tree.Leaf.{Leaf}
use Rattle.tree_core.specs.Attributes.{is_of_kind}
use Rattle.sel_terms_meaning.specs.md_reader.specs.declared.types.Kind.{Kind}
use Rattle.sel_terms_meaning.specs.md_reader.specs.declared.types.Kind.TheVariants as kind
use Rattle.sel_target.specs.declared.attr.Attr.TheVariants as attr
use Rattle.sel_target.specs.Instances.{KindFits}
use Rattle.sel_target.specs.Meaning.{Meaning}
use Rattle.sel_target.specs.Values.{IsArgument}

-- a number that fits a size is its low part
pub low_is : (z : Size) (x : ℕ) → x < 2 ^ (8 * bytes_of z) → low z x ≡ x
low_is Byte x lt = omega (arith, lt)
low_is Word x lt = omega (arith, lt)
low_is Long x lt = refl

-- a leaf that is an argument's has the number of one
pub argument_number : (k : ℕ) → is_of_kind att_kind.Argument (att.Slot k) ≡ true → IsArgument k
argument_number k e =
    let from_1 = first_true (nat_le 1 k) (nat_le k 255) e in
    let to_255 = second_true (nat_le 1 k) (nat_le k 255) e in
    (grind (arith, nat_tests), grind (arith, nat_tests))

-- a token is of no kind
pub no_token : {O I S F : Type 0} (of : Meaning O I S F) (k : Option Kind) (l : Leaf) → KindFits of k (attr.Token l) → ⊥
no_token of None l h = h
no_token of (Some kind.Reg) l h = h
no_token of (Some (kind.Value size)) l h = h
no_token of (Some (kind.Place size)) l h = h
no_token of (Some kind.Con) l h = h
no_token of (Some kind.Ea) l h = h
no_token of (Some kind.Nothing) l h = h
