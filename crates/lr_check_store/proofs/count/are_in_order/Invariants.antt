use Rattle.std.proofs.Common.{◌≡◌, ℕ, ◌<◌}
use Rattle.std.specs.Prelude.{slice_index_or}
use Rattle.tree_core.specs.declared.token.Tok.{Tok}
use Rattle.lr_tables.specs.Symbols.{number}
use Rattle.lr_check_store.proofs.count.are_in_order.Given as goal

abbrev pub invariant-loop-at : goal.invariant-loop-at
invariant-loop-at l = (i : ℕ) (d : Tok) → i < l.at → number (slice_index_or l.behinds i d) ≡ i
