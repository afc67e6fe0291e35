use Rattle.std.proofs.Common.{◌≡◌, List, [], ◌∷◌, ◌++◌, sym, ap, ◌∙◌, subst}
use Rattle.std.specs.Prelude.{OnOk, Result}
use Rattle.gg_base.specs.declared.memory.NoMemory.{NoMemory}
use Rattle.sel_parse_desk.specs.Entries.{Entry}
use Rattle.sel_parse_desk.specs.Joined.{joined}
use Rattle.sel_parse_desk.proofs.JoinedLemmas.{joined-snoc}
use Rattle.sel_parse_desk.proofs.entries.Entries.push.Goals as goal
use Rattle.sel_parse_desk.proofs.entries.Entries.push.Goals.{in-Ok, in-Err}

pub returns : goal.returns
returns g c = elim c.match-push.branch [
  | in-Ok w ↦ subst (λ (r : Result (Unit {0}) NoMemory). OnOk r (c.match-push.self ≡ c.args.self.now ++ record { kind = c.args.kind; attr = c.args.attr } ∷ [])) (sym w.result-is)
      (w.self-is
      ∙ ((λ i. joined (c.in_ok-push.ensures.items i) (w.in-Ok.ensures.items i))
      ∙ (joined-snoc c.self.inside.kinds.items c.self.inside.attrs.items c.args.kind c.args.attr c.self.invariant.0
      ∙ ap (λ (es : List (Entry g.row.O.Denot)). es ++ record { kind = c.args.kind; attr = c.args.attr } ∷ []) c.self.view_is)))
  | in-Err w ↦ subst (λ (r : Result (Unit {0}) NoMemory). OnOk r (c.match-push.self ≡ c.args.self.now ++ record { kind = c.args.kind; attr = c.args.attr } ∷ [])) (sym w.result-is) tt
]
