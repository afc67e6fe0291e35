use Rattle.std.proofs.Common.{sym, ap, ◌∙◌}
use Rattle.lr_check_found.specs.declared.choices.Seen.{Seen}
use Rattle.lr_check_decided.proofs.Calming.{unmarked_made, marked_made, out_not, inside_not}
use Rattle.lr_check_decided.proofs.calm.unmarked.Goals as goal

pub returns-in-Whole : goal.returns-in-Whole
returns-in-Whole c =
    let leads = sym (ap (λ (x : Seen). x.leads) c.candidate.ensures) ∙ c.in-Whole.is in
    record {
      some = unmarked_made c.args.rules.now c.args.size c.args.marks.now c.args.choice c.in-Whole.class leads c.unless_marked.result c.unless_marked.ensures.some;
      none = marked_made c.args.rules.now c.args.size c.args.marks.now c.args.choice c.in-Whole.class leads c.unless_marked.result c.unless_marked.ensures.none;
    }

pub returns-in-Out-clause-none : goal.returns-in-Out-clause-none
returns-in-Out-clause-none c = record { each = λ k lead. absurd (out_not c.in-Out.field-0 k (sym c.in-Out.is ∙ (ap (λ (x : Seen). x.leads) c.candidate.ensures ∙ lead))) }

pub returns-in-Inside-clause-none : goal.returns-in-Inside-clause-none
returns-in-Inside-clause-none c = record { each = λ k lead. absurd (inside_not k (sym c.in-Inside.is ∙ (ap (λ (x : Seen). x.leads) c.candidate.ensures ∙ lead))) }
