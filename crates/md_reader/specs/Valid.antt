-- Which contents are valid: they break no row of the format's table of faults.
use Rattle.std.specs.Prelude.{◌≡◌, ℕ, ◌≤◌, Bool, true, false, List, [], ◌∷◌, length, Some}
use Rattle.std.specs.List.{AllByRecursion}
use Rattle.md_reader_pieces.specs.declared.piece.Line.{Line}
use Rattle.tree_core.specs.declared.token.Sort.{Sort}
use Rattle.md_reader.specs.declared.types.Class.{Class}
use Rattle.md_reader.specs.declared.types.Sym.{Sym}
use Rattle.md_reader.specs.declared.types.Sym.TheVariants as grammar_symbol
use Rattle.md_reader.specs.declared.types.Restriction.{Restriction}
use Rattle.md_reader.specs.declared.types.Give.{Give}
use Rattle.md_reader.specs.declared.types.Give.TheVariants as give
use Rattle.md_reader.specs.declared.types.Rule.{Rule}
use Rattle.md_reader.specs.Patterns.{kind_at, sort_of_symbol, IsTree, IsSorted}
use Rattle.md_reader.specs.Forms.{is_name}
use Rattle.md_reader.specs.RuleForms.{has_register}
use Rattle.md_reader.specs.Restrictions.{restriction_fits}
use Rattle.md_reader.specs.Rows.{line_fits, pieces_fit, shape_fits, plain_fits, is_bare}
use Rattle.md_reader.specs.State.{Content}
use Rattle.md_reader.specs.HeadSteps.{has_stmt}

-- no class has this name
abbrev pub Away : List ℕ → List Class → Type 0
Away w [] = Unit {0}
Away w (c ∷ cs) = (c.name ≡ w → ⊥) × Away w cs

-- no name stands twice
abbrev pub Apart : List Class → Type 0
Apart [] = Unit {0}
Apart (c ∷ cs) = Away c.name cs × Apart cs

abbrev pub IsNamed : Class → Type 0
IsNamed c = is_name c.name ≡ true

-- at least one of the registers 0 to 11
pub record IsPool (bits : ℕ) : Type 0 where
  pub some : 1 ≤ bits
  pub within : bits ≤ 4095

pub record AreClasses (classes : List Class) : Type 0 where
  pub few : length classes ≤ 64
  pub apart : Apart classes
  pub named : AllByRecursion IsNamed classes

-- a spill line has one symbol, `%1`, and a slot or a register, `%0`
abbrev pub IsSpill : Line → Type 0
IsSpill l = line_fits true (grammar_symbol.Class 0 ∷ []) l.pieces ≡ true

-- the left side is a class, and the right side a tree of its sort
pub record AreSides (classes : List Class) (left : ℕ) (right : List Sym) : Type 0 where
  pub sort : Sort
  pub declared : sort_of_symbol classes (grammar_symbol.Class left) ≡ Some sort
  pub short : length right ≤ 16
  pub tree : IsTree right
  pub sorted : IsSorted classes sort right
  pub not_bare : is_bare classes right ≡ false

abbrev pub MayRestrict : List Class → List Sym → Restriction → Type 0
MayRestrict classes right r = restriction_fits classes right r ≡ true

abbrev pub MayWrite : Bool → List Sym → Line → Type 0
MayWrite register right l = line_fits register right l.pieces ≡ true

-- the restrictions and the lines of a template, in which `%0` may stand or not
pub record IsTemplate (classes : List Class) (right : List Sym) (register : Bool) (restrictions : List Restriction)
    (lines : List Line) : Type 0 where
  pub few_restrictions : length restrictions ≤ 4
  pub restricted : AllByRecursion (MayRestrict classes right) restrictions
  pub few_lines : length lines ≤ 8
  pub written : AllByRecursion (MayWrite register right) lines

abbrev pub MayGive : List Class → ℕ → List Sym → Give → Type 0
MayGive classes left right (give.Shape l) = (pieces_fit false right l.pieces ≡ true)
    × (shape_fits classes right (kind_at classes left) l.pieces ≡ true)
MayGive classes left right give.Fresh = plain_fits (kind_at classes left) give.Fresh ≡ true
MayGive classes left right give.Reuse = plain_fits (kind_at classes left) give.Reuse ≡ true
MayGive classes left right give.Scratch = plain_fits (kind_at classes left) give.Scratch ≡ true
MayGive classes left right give.Nothing = plain_fits (kind_at classes left) give.Nothing ≡ true

pub record IsRule (classes : List Class) (r : Rule) : Type 0 where
  pub sides : AreSides classes r.left r.right
  pub template : IsTemplate classes r.right (has_register (Some r.give)) r.restrictions r.lines
  pub gives : MayGive classes r.left r.right r.give

pub record IsValid (d : Content) : Type 0 where
  pub pool : IsPool d.pool
  pub classes : AreClasses d.classes
  pub stmt : has_stmt d.classes ≡ true
  pub eight : length d.spills ≡ 8
  pub spills : AllByRecursion IsSpill d.spills
  pub some : 1 ≤ length d.rules
  pub few : length d.rules ≤ 1000
  pub rules : AllByRecursion (IsRule d.classes) d.rules
