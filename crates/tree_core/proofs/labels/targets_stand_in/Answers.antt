use Rattle.std.proofs.Common.{ℕ, sym, ap, ◌∙◌, arith, refl}
use Rattle.tree_core.specs.declared.items.Mention.TheVariants as mention
use Rattle.tree_core.specs.Items.{labels}
use Rattle.tree_core.specs.Window.{has, all_met}
use Rattle.tree_core.proofs.Windows.{met_goes, met_fails, met_ends, met_there, from_rises}
use Rattle.tree_core.proofs.labels.targets_stand_in.Goals as goal

pub returns-then-not-all_met : goal.returns-then-not-all_met
returns-then-not-all_met c =
    let m = met_there c.in-Some.base c.at-window.result.base c.meet_all.new.window.base (has c.meet_all.new.window) (has c.at-window.result) (labels mention.Stands c.args.items.now)
    c.at-window.ensures.base c.meet_all.ensures.base c.at-window.ensures.none c.meet_all.ensures.met in
    let a = ap (λ (b : ℕ). all_met b (has c.meet_all.new.window) (labels mention.Target c.args.items.now)) (sym m.0) ∙ sym c.all_met.ensures ∙ c.if-not-all_met.true in
    ((λ t. absurd cc), (λ h. absurd (met_fails (labels mention.Target c.args.items.now) (labels mention.Stands c.args.items.now) c.in-Some.base (has c.meet_all.new.window) m.1 a h)))

pub loop-base-smaller : goal.loop-base-smaller
loop-base-smaller c =
    let up = from_rises (labels mention.Target c.args.items.now) c.loop-base.from c.in-Some.base (sym c.in-Some.ensures.least) in
    let small = c.in-Some.ensures.small in
    omega arith

pub loop-base-preserved : goal.loop-base-preserved
loop-base-preserved c =
    let m = met_there c.in-Some.base c.at-window.result.base c.meet_all.new.window.base (has c.meet_all.new.window) (has c.at-window.result) (labels mention.Stands c.args.items.now)
    c.at-window.ensures.base c.meet_all.ensures.base c.at-window.ensures.none c.meet_all.ensures.met in
    let a = ap (λ (b : ℕ). all_met b (has c.meet_all.new.window) (labels mention.Target c.args.items.now)) (sym m.0) ∙ sym c.all_met.ensures ∙ c.if-not-all_met.false in
    met_goes (labels mention.Target c.args.items.now) (labels mention.Stands c.args.items.now) c.loop-base.from c.in-Some.base (has c.meet_all.new.window) (sym c.in-Some.ensures.least) m.1
    a c.loop-base.invariant

pub returns : goal.returns
returns c =
    ((λ t. met_ends (labels mention.Target c.args.items.now) (labels mention.Stands c.args.items.now) c.loop-base.from (sym c.in_default.ensures.least) c.loop-base.invariant), (λ h. refl))
