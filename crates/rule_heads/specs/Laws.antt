-- Only the first symbol of a rule branches or saves.
use Rattle.std.specs.Prelude.{◌≡◌, ℕ, List, Option, Some, Bool, true, false, slice_get}
use Rattle.gg_base.specs.declared.relation.Rel.{Rel}
use Rattle.tree_core.specs.declared.token.Tok.{Tok}
use Rattle.tree_core.specs.declared.token.Tok.TheVariants as tok
use Rattle.tree_core.specs.declared.token.Sort.{Sort}
use Rattle.tree_core.specs.declared.tree.Att.TheVariants as att
use Rattle.tree_core.specs.Attributes.{attribute_of, is_of_kind}
use Rattle.md_reader.specs.declared.types.Class.{Class}
use Rattle.md_reader.specs.declared.types.Sym.{Sym}
use Rattle.md_reader.specs.declared.types.Sym.TheVariants as grammar_symbol
use Rattle.md_reader.specs.Patterns.{IsSorted}

-- a token that branches or saves
abbrev pub is_root : Option Sym → Bool
is_root (Some (grammar_symbol.Tok tok.Cbr)) = true
is_root (Some (grammar_symbol.Tok tok.Save)) = true
is_root s = false

pub record HeadsAreFirst : Type 0 where
  pub root : (classes : List Class) (left : Sort) (right : List Sym) (j : ℕ) (s : Sym) → IsSorted classes left right
      → slice_get right j ≡ Some s → is_root (Some s) ≡ true → j ≡ 0
  -- and so a token that may have the attribute of a branch
  pub branch : (classes : List Class) (left : Sort) (right : List Sym) (j : ℕ) (t : Tok) (rel : Rel) (label : ℕ)
      → IsSorted classes left right → slice_get right j ≡ Some (grammar_symbol.Tok t)
      → is_of_kind (attribute_of t) (att.Branch rel label) ≡ true → j ≡ 0
