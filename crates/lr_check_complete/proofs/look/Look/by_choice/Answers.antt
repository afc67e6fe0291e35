use Rattle.std.proofs.Common.{sym, ap, ◌∙◌, subst}
use Rattle.lr_check_found.specs.declared.choices.Seen.{Seen}
use Rattle.lr_check_found.specs.declared.choices.Leads.{Leads}
use Rattle.lr_check_found.proofs.Added.{on_ok}
use Rattle.lr_check_complete.specs.Kids.{LeadsIn}
use Rattle.lr_check_complete.proofs.Turns.{looks_map, looks_there}
use Rattle.lr_check_complete.proofs.look.Look.by_choice.Goals as goal

pub returns-in-Whole : goal.returns-in-Whole
returns-in-Whole c = λ each. on_ok _ _ _
    (looks_map c.args.self.now _ _ _ _ (λ g. subst (λ (l : Leads). LeadsIn c.args.self.now.found.now c.args.number l) (sym c.in-Whole.is ∙ ap (λ (x : Seen). x.leads) c.candidate.ensures) g))
    (c.reduced.ensures (each c.in-Whole.class (sym (ap (λ (x : Seen). x.leads) c.candidate.ensures) ∙ c.in-Whole.is)))

pub returns-in-Out : goal.returns-in-Out
returns-in-Out c = λ each. looks_there c.args.self.now _ _ (subst (λ (l : Leads). LeadsIn c.args.self.now.found.now c.args.number l)
    (sym c.in-Out.is ∙ ap (λ (x : Seen). x.leads) c.candidate.ensures) tt)

pub returns-in-Inside : goal.returns-in-Inside
returns-in-Inside c = λ each. looks_there c.args.self.now _ _ (subst (λ (l : Leads). LeadsIn c.args.self.now.found.now c.args.number l)
    (sym c.in-Inside.is ∙ ap (λ (x : Seen). x.leads) c.candidate.ensures) tt)
