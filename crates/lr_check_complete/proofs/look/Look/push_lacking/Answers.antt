use Rattle.std.proofs.Common.{ℕ, ◌<◌, length}
use Rattle.lr_check_found.proofs.Added.{on_ok}
use Rattle.lr_check_found.specs.lr_check_sets.specs.Closed.{IsClosed}
use Rattle.lr_check_complete.specs.Looks.{automaton}
use Rattle.lr_check_complete.specs.Sets.{HasPlace, HasSettling, HasSum}
use Rattle.lr_check_complete.specs.Kids.{ReducesIn}
use Rattle.lr_check_complete.proofs.Turns.{looks_both}
use Rattle.lr_check_complete.proofs.Complete_sets.{closed}
use Rattle.lr_check_complete.proofs.look.Look.push_lacking.Goals as goal

pub returns : goal.returns
returns c =
    let A = automaton c.args.self.now in
    let f = c.args.self.now.found.now in
    let Reduces : Type 0 = (i : ℕ) → i < length f.settlings → ReducesIn A f i in
    let Closed : Type 0 = IsClosed A (HasPlace f) (HasSettling f) (HasSum f) in
    on_ok _ _ _
    (looks_both c.args.self.now _ _ _ (Reduces → Closed) Reduces Closed (λ g h. g h)
    (looks_both c.args.self.now _ _ _ _ _ (Reduces → Closed) (λ a b d. closed c.args.self.now.tables.now f c.requires.found a b d) c.in_ok-starts.ensures c.in_ok-frames.ensures))
    c.all_reductions.ensures
