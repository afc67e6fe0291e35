-- Tree programs of which code is selected.
use Rattle.std.specs.Prelude.{◌≡◌, ℕ, ◌≤◌, Some, slice_get}
use Rattle.std.specs.List.{All}
use Rattle.gg_base.specs.declared.limits.TheConstants.{NEED_LIMIT}
use Rattle.tree_core.specs.declared.program.TreeFn.{TreeFn}
use Rattle.tree_core.specs.declared.program.TreeProgram.{TreeProgram}
use Rattle.tree_core.specs.Calm.{Calm}
use Rattle.tree_core.specs.Valid.{IsValid}
use Rattle.sel_parse_joined.specs.sel_target.specs.Spelled.{EachTree, TreesAreSpelled}
use Rattle.gg_compile_names.specs.vax_target_meaning.specs.Fitting.{CanWrite}
use Rattle.gg_compile_effect.specs.gg_compile_law.specs.Spelling.{HoldsNumbers}
use Rattle.gg_compile_effect.specs.gg_compile_law.specs.Names.{HaveSmall}
use Rattle.gg_compile_effect.specs.gg_compile_law.specs.Loaded.{AreApart}

-- A tree program that code can be selected of: it is valid, in none of its trees is memory read behind a division, each
-- function's locals fit its frame, and its objects have labels of their own, and bytes as contents, a link's being the
-- linked address.
pub record IsSelectable (q : TreeProgram) : Type 0 where
  pub valid : IsValid q
  pub calm : EachTree Calm q
  pub locals : (n : ℕ) (g : TreeFn) → slice_get q.functions n ≡ Some g → g.locals ≤ NEED_LIMIT
  pub apart : AreApart q.objects q.functions
  pub numbers : All (HoldsNumbers q.objects) q.objects
  -- its names can be spelled, and its numbers, offsets and labels are longwords
  pub names : CanWrite q
  pub longwords : TreesAreSpelled q
  pub small : HaveSmall q.functions
