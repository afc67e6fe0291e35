-- The bound, over the item sets of a grammar.
use Rattle.std.proofs.Common.{◌≡◌, ℕ, ◌+◌, ◌*◌, ◌<◌, List, [], ◌∷◌, ◌++◌, Some, Contains, length, refl, arith, mul_comm}
use Rattle.tree_core.specs.declared.token.Tok.{Tok}
use Rattle.tree_core.specs.declared.token.Tok.TheVariants as tok
use Rattle.md_reader.specs.declared.types.Sym.{Sym}
use Rattle.md_reader.specs.declared.types.Sym.TheVariants as grammar_symbol
use Rattle.lr_check_sets.specs.Trees.{onto}
use Rattle.lr_check_sets.specs.Automaton.{Automaton, Production, shift, reduce, walk, size_of, Free, Ends, IsTable}
use Rattle.lr_check_sets.specs.Items.{Item, starts, moves, start_of, IsAutomatonOf, HasNoEnd, HasNoEmpty}
use Rattle.lr_check_sets.specs.Shapes.{IsTree, HasTrees}
use Rattle.lr_check_sets.specs.Bound.{HasClasses}
use Rattle.lr_check_sets.specs.Claims.{EveryTreeEndsWithin}
use Rattle.lr_check_sets.proofs.Tables.{table_of_items, reduce_item}
use Rattle.lr_check_sets.proofs.Shapes.{OnTop, top_of_free}
use Rattle.lr_check_sets.proofs.Whole_ends.{whole_trees_end}
use Rattle.lr_check_sets.proofs.Bound.{bounded, ends_some, bare}

module _ (G : List Production) (A : Automaton) (k : ℕ) (no_end : HasNoEnd G) (no_empty : HasNoEmpty G) (trees : HasTrees G) (classes : HasClasses G k) (exact : IsAutomatonOf G A) where
  the_table : IsTable A
  the_table = table_of_items G A no_end no_empty exact

  pub final : (p : ℕ) → walk A 0 (grammar_symbol.Class A.stmt ∷ []) ≡ Some p → A.candidates p tok.End ≡ shift ∷ []
  final p at =
      let item : Item G A.stmt (grammar_symbol.Class A.stmt ∷ []) (start_of A.stmt) (grammar_symbol.Tok tok.End ∷ []) = moves (starts refl refl) in
      let there : (p' : ℕ) × (A.go p (grammar_symbol.Tok tok.End) ≡ Some p') = exact.goes_where (grammar_symbol.Class A.stmt ∷ []) p (grammar_symbol.Tok tok.End) (start_of A.stmt) [] at item in
      the_table.shift_alone (grammar_symbol.Class A.stmt ∷ []) p tok.End there.0 at there.1

  pub tops : (a : List Sym) (p : ℕ) (t : Tok) (r : Production) → walk A 0 a ≡ Some p → Free (A.candidates p t) (reduce r) →
      (b below : List Sym) × ((a ≡ b ++ below) × (length b ≡ size_of r) × IsTree b × (r.left < k))
  tops a p t r at f =
      let o : OnTop G A no_end no_empty trees exact r a = top_of_free G A no_end no_empty trees exact a p t r at f in
      let i : Item G A.stmt a r [] × Contains G r = reduce_item r (exact.candidates a p t at) f in
      (o.top, o.below, (o.there, o.size, o.tree, classes r i.1))

pub every_tree_ends_within : EveryTreeEndsWithin
every_tree_ends_within G A k no_end no_empty trees classes exact fine v =
    let ends : Ends A [] (onto v (tok.End ∷ [])) = whole_trees_end G A no_end no_empty trees exact fine v in
    let s : (t : Tok) × ((u : List Tok) × (onto v (tok.End ∷ []) ≡ t ∷ u)) = ends_some ends in
    bounded A k (final G A k no_end no_empty trees classes exact) (tops G A k no_end no_empty trees classes exact) ends s.0 s.1.0 s.1.1 0 bare (length (onto v (tok.End ∷ [])) * (k + 1))
    (omega (arith, mul_comm (k + 1) (length (onto v (tok.End ∷ [])))))
