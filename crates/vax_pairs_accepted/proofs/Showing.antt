-- Trees of marked codes that say the same show a cut.
use Rattle.std.proofs.Common.{◌≡◌, ℕ, Bool, false, List, Some, sym, ap, ◌∙◌}
use Rattle.std.proofs.Math.Path.{fun_ext}
use Rattle.vax_core.specs.declared.code.Code.{Code}
use Rattle.vax_pairs.specs.Trees.{Tree}
use Rattle.vax_pairs.specs.SameTrees.{SameTree}
use Rattle.vax_pairs.specs.TermRuns.{run_tree}
use Rattle.vax_pairs.specs.Facts.{Fact, AreSo, first_begins, second_begins}
use Rattle.vax_pairs_checked.specs.Accepted.{Cut, AreNamed, IsCut, is_first, is_second, IsShown}
use Rattle.vax_pairs_walk.specs.Stepping.{is_marked}
use Rattle.vax_pairs_accepted.specs.Marked.{AreMarked}

pub shown_by : (cuts : List Cut) (firsts seconds : List Bool) (c d : Code) (cut : Cut) (fuel : ℕ) (t u : Tree) → AreMarked cuts firsts seconds
    → AreNamed cut.facts → run_tree c.items c.area (is_marked firsts) fuel false cut.first 30 (first_begins cut.facts) ≡ Some t
    → run_tree d.items d.area (is_marked seconds) fuel false cut.second 30 (second_begins cut.facts) ≡ Some u
    → SameTree (List Fact) AreSo (IsCut cuts) c.items d.items cut.rank t u → IsShown cuts c d cut
shown_by cuts firsts seconds c d cut fuel t u marked named runs others_run same =
    let mine : is_marked firsts ≡ is_first cuts = fun_ext marked.first in
    let others : is_marked seconds ≡ is_second cuts = fun_ext marked.second in
    record {
      named = named;
      fuel = fuel;
      tree = t;
      others_tree = u;
      runs = ap (λ (f : ℕ → Bool). run_tree c.items c.area f fuel false cut.first 30 (first_begins cut.facts)) (sym mine) ∙ runs;
      others_run = ap (λ (f : ℕ → Bool). run_tree d.items d.area f fuel false cut.second 30 (second_begins cut.facts)) (sym others)
          ∙ others_run;
      same = same;
    }
