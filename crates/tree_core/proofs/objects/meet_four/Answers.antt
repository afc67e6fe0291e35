use Rattle.std.proofs.Common.{◌+◌, ◌∷◌, [], ◌∙◌, sym, refl, subst}
use Rattle.tree_core.specs.Window.{has, MetOnce}
use Rattle.tree_core.proofs.Lists_of_links.{new_met, old_met, last_met}
use Rattle.tree_core.proofs.objects.meet_four.Goals as goal

pub returns-then-not-meet_new-2-clause-met : goal.returns-then-not-meet_new-2-clause-met
returns-then-not-meet_new-2-clause-met c =
    let base = c.args.window.now.base in
    let a = c.args.at in
    new_met base base (has c.args.window.now) (has c.meet_new.new.window) a ((a + 1) ∷ (a + 2) ∷ (a + 3) ∷ []) c.meet_new.result refl c.meet_new.ensures.new c.if-not-meet_new.false
    c.meet_new.ensures.met
    ∙ old_met base (has c.meet_new.new.window) (a + 1) ((a + 2) ∷ (a + 3) ∷ []) c.meet_new-2.result c.meet_new-2.ensures.new c.if-not-meet_new-2.true

pub returns-then-not-meet_new-3-clause-met : goal.returns-then-not-meet_new-3-clause-met
returns-then-not-meet_new-3-clause-met c =
    let base = c.args.window.now.base in
    let a = c.args.at in
    new_met base base (has c.args.window.now) (has c.meet_new.new.window) a ((a + 1) ∷ (a + 2) ∷ (a + 3) ∷ []) c.meet_new.result refl c.meet_new.ensures.new c.if-not-meet_new.false
    c.meet_new.ensures.met
    ∙ new_met base c.meet_new.new.window.base (has c.meet_new.new.window) (has c.meet_new-2.new.window) (a + 1) ((a + 2) ∷ (a + 3) ∷ []) c.meet_new-2.result c.meet_new.ensures.base
    c.meet_new-2.ensures.new c.if-not-meet_new-2.false c.meet_new-2.ensures.met
    ∙ old_met base (has c.meet_new-2.new.window) (a + 2) ((a + 3) ∷ []) c.meet_new-3.result c.meet_new-3.ensures.new c.if-not-meet_new-3.true

pub returns-clause-met : goal.returns-clause-met
returns-clause-met c =
    let base = c.args.window.now.base in
    let a = c.args.at in
    let met = new_met base base (has c.args.window.now) (has c.meet_new.new.window) a ((a + 1) ∷ (a + 2) ∷ (a + 3) ∷ []) c.meet_new.result refl c.meet_new.ensures.new
    c.if-not-meet_new.false c.meet_new.ensures.met
    ∙ new_met base c.meet_new.new.window.base (has c.meet_new.new.window) (has c.meet_new-2.new.window) (a + 1) ((a + 2) ∷ (a + 3) ∷ []) c.meet_new-2.result c.meet_new.ensures.base
    c.meet_new-2.ensures.new c.if-not-meet_new-2.false c.meet_new-2.ensures.met
    ∙ new_met base c.meet_new-2.new.window.base (has c.meet_new-2.new.window) (has c.meet_new-3.new.window) (a + 2) ((a + 3) ∷ []) c.meet_new-3.result
    (c.meet_new-2.ensures.base ∙ c.meet_new.ensures.base) c.meet_new-3.ensures.new c.if-not-meet_new-3.false c.meet_new-3.ensures.met in
    subst (MetOnce c.meet_new-4.result (has c.meet_new-4.new.window)) (sym met)
    (last_met base c.meet_new-3.new.window.base (has c.meet_new-3.new.window) (has c.meet_new-4.new.window) (a + 3) c.meet_new-4.result
    (c.meet_new-3.ensures.base ∙ c.meet_new-2.ensures.base ∙ c.meet_new.ensures.base) c.meet_new-4.ensures.new c.meet_new-4.ensures.met)
