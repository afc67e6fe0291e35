use Rattle.std.proofs.Common.{List, ℕ, Contains, refl, sym, subst}
use Rattle.lr_check_found.proofs.Added.{settles_there, held_at}
use Rattle.lr_check_found.proofs.found.Found.settles.Goals as goal

pub returns : goal.returns
returns c = record {
  there = λ A found u s at. settles_there A c.args.self.now c.args.place c.args.list found
      (subst (λ (l : List ℕ). Contains l c.args.list) c.listed.ensures (c.has_number.ensures.there u)) s at;
  absent = λ A i e found at p q. c.has_number.ensures.each c.args.list
      (subst (λ (l : List ℕ). Contains l c.args.list) (sym c.listed.ensures) (held_at A c.args.self.now c.args.place c.args.list i e found at p q)) refl;
}
