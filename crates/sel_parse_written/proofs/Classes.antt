-- The entries of classes have their classes' kinds.
use Rattle.std.proofs.Common.{◌≡◌, ℕ, zero, suc, List, [], ◌∷◌, length, Option, Some, refl, subst, arith, slice_get}
use Rattle.std.specs.Prelude.{slice_set}
use Rattle.std.proofs.lemmas.Option.{same_Some, none-some}
use Rattle.md_reader.specs.declared.types.Kind.{Kind}
use Rattle.md_reader.specs.declared.types.Sym.{Sym}
use Rattle.md_reader.specs.declared.types.Sym.TheVariants as grammar_symbol
use Rattle.md_reader.specs.Patterns.{kind_at}
use Rattle.md_reader.specs.State.{Content}
use Rattle.sel_parse_lines.specs.sel_terms_trees.specs.Senses.{piled}
use Rattle.sel_parse_lines.specs.sel_parse_selected.specs.Entries.{Entry}

-- of the class of a symbol
abbrev pub KindIs : Content → Sym → Option Kind → Type 0
KindIs d (grammar_symbol.Tok t) k = Unit {0}
KindIs d (grammar_symbol.Class c) k = k ≡ kind_at d.classes c

module _ {O : Type 0} (d : Content) where
  abbrev pub AllKinds : List Sym → List (Entry O) → Type 0
  AllKinds [] [] = Unit {0}
  AllKinds (s ∷ ss) (e ∷ es) = KindIs d s e.kind × AllKinds ss es
  AllKinds ss es = ⊥

  pub kind_there : (ss : List Sym) (es : List (Entry O)) (i : ℕ) (e : Entry O) (s : Sym) → AllKinds ss es → slice_get es i ≡ Some e → slice_get ss i ≡ Some s → KindIs d s e.kind
  kind_there ss [] i e s h at there = absurd (none-some e at)
  kind_there [] (x ∷ es) i e s h at there = absurd h
  kind_there (y ∷ ss) (x ∷ es) zero e s h at there =
      subst (λ (z : Sym). KindIs d z e.kind) (same_Some y s there) (subst (λ (z : Entry O). KindIs d y z.kind) (same_Some x e at) h.0)
  kind_there (y ∷ ss) (x ∷ es) (suc i) e s h at there = kind_there ss es i e s h.1 at there

  pub kinds_set : (ss : List Sym) (es : List (Entry O)) (i : ℕ) (b : Entry O) → AllKinds ss es → ((s : Sym) → slice_get ss i ≡ Some s → KindIs d s b.kind) → AllKinds ss (slice_set es i b)
  kinds_set [] [] i b h k = tt
  kinds_set [] (x ∷ es) i b h k = absurd h
  kinds_set (s ∷ ss) [] i b h k = absurd h
  kinds_set (s ∷ ss) (x ∷ es) zero b h k = (k s refl, h.1)
  kinds_set (s ∷ ss) (x ∷ es) (suc i) b h k = (h.0, kinds_set ss es i b h.1 k)

  -- those of a right side on top, and those below it
  pub kinds_parted : (right b : List Sym) (symbols below : List (Entry O)) → length symbols ≡ length right → AllKinds (piled right b) (piled symbols below)
      → AllKinds right symbols × AllKinds b below
  kinds_parted [] b [] below n h = (tt, h)
  kinds_parted [] b (e ∷ symbols) below n h = absurd (omega (arith, n))
  kinds_parted (s ∷ right) b [] below n h = absurd (omega (arith, n))
  kinds_parted (s ∷ right) b (e ∷ symbols) below n h =
      let k = kinds_parted right (s ∷ b) symbols (e ∷ below) (omega (arith, n)) h in
      ((k.1.0, k.0), k.1.1)
