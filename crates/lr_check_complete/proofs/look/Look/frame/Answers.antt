use Rattle.std.proofs.Common.{ℕ, List, Contains, sym, ◌∙◌, subst}
use Rattle.std.proofs.lemmas.Option.{none-some}
use Rattle.lr_check_found.proofs.Added.{on_ok}
use Rattle.lr_check_complete.specs.Looks.{automaton}
use Rattle.lr_check_complete.proofs.Turns.{looks_map, looks_there}
use Rattle.lr_check_complete.proofs.Framing.{frame_in}
use Rattle.lr_check_complete.proofs.look.Look.frame.Goals as goal

pub returns-in-None : goal.returns-in-None
returns-in-None c = looks_there c.args.self.now _ _ (record { each = λ p n b go at. absurd (none-some p (sym c.in-None.is ∙ (c.over.ensures ∙ go))) })

pub returns : goal.returns
returns c = on_ok _ _ _
    (looks_map c.args.self.now _ _ _ _
    (frame_in (automaton c.args.self.now) c.args.self.now.found.now c.args.state c.in-Some.over c.args.token c.deref.result.now (sym c.over.ensures ∙ c.in-Some.is)
    (λ n b at. subst (λ (l : List ℕ). Contains l n) (sym c.deref.ensures.value) (c.in_ok-numbers.ensures.all n b at))))
    (c.all_kids.ensures c.args.state (record {
      go = sym c.over.ensures ∙ c.in-Some.is;
      places = λ n m. c.in_ok-numbers.ensures.places n (subst (λ (l : List ℕ). Contains l n) c.deref.ensures.value m);
      all = λ n b at. subst (λ (l : List ℕ). Contains l n) (sym c.deref.ensures.value) (c.in_ok-numbers.ensures.all n b at);
    }))
