-- What the laws ask of an effect: its terms, its divisors, and the relation of its branch.
use Rattle.std.specs.Prelude.{◌≡◌, ℕ, List, ◌∷◌, ◌++◌, Bool, true, false}
use Rattle.std.specs.List.{AllByRecursion}
use Rattle.gg_base.specs.declared.relation.Rel.{Rel}
use Rattle.gg_base.specs.Relations.{compares_signed}
use Rattle.tree_core.specs.declared.token.Tok.TheVariants as tok
use Rattle.sel_terms_meaning.specs.md_reader.specs.declared.types.Sym.{Sym}
use Rattle.sel_terms_meaning.specs.md_reader.specs.declared.types.Sym.TheVariants as grammar_symbol
use Rattle.sel_terms_meaning.specs.md_reader.specs.declared.types.Restriction.{Restriction}
use Rattle.sel_terms_meaning.specs.md_reader.specs.declared.types.Restriction.TheVariants as restriction
use Rattle.sel_terms_meaning.specs.term_core.specs.Shape.{Shape}
use Rattle.sel_terms_meaning.specs.sel_terms.specs.Effects.{EffectShape}
use Rattle.sel_terms_meaning.specs.Meaning.{terms_of_act}
use Rattle.sel_target.specs.Values.{View, value}

-- the terms of an effect
abbrev pub terms_of : EffectShape → List Shape
terms_of e = terms_of_act e.act ++ e.divisors

abbrev pub DividesByNone : View → EffectShape → Type 0
DividesByNone v e = AllByRecursion (λ (d : Shape). value v d ≡ 0 → ⊥) e.divisors

abbrev pub begins_with_save : List Sym → Bool
begins_with_save (grammar_symbol.Tok tok.Save ∷ right) = true
begins_with_save right = false

-- a restriction that says so of symbol i holds of its relation
abbrev pub IsSignedBy : ℕ → Rel → Restriction → Type 0
IsSignedBy i rel (restriction.Same j k) = Unit {0}
IsSignedBy i rel (restriction.Range j low high) = Unit {0}
IsSignedBy i rel (restriction.Signed j) = j ≡ i → compares_signed rel ≡ true
