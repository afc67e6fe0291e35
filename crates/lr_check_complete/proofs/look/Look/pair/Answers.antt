use Rattle.std.proofs.Common.{◌<◌, ℕ, List, Contains, length, sym, subst, arith}
use Rattle.std.proofs.lemmas.List.Elements.{Contains-get_or}
use Rattle.lr_check_found.proofs.Added.{on_ok}
use Rattle.lr_check_complete.specs.Looks.{automaton}
use Rattle.lr_check_complete.proofs.Turns.{looks_both, looks_there}
use Rattle.lr_check_complete.proofs.Both.{frame_two, two_kids, first_in}
use Rattle.lr_check_complete.proofs.look.Look.pair.Goals as goal

pub returns-then-numbers-eq0 : goal.returns-then-numbers-eq0
returns-then-numbers-eq0 c = λ q k v frame kid may. looks_there c.args.self.now _ _ (λ n m x at. absurd (let lt = m.1 in omega (arith, lt)))

pub returns : goal.returns
returns c = λ q k v frame kid may.
    let some : 0 < length c.args.numbers.now = omega arith in
    let m = Contains-get_or c.args.numbers.now 0 0 some in
    let p = frame.places _ m in
    on_ok _ _ _
    (looks_both c.args.self.now _ _ _ _ _ _
    (λ firsts each n d x at. first_in (automaton c.args.self.now) c.args.self.now.found.now n c.args.over x c.args.token c.args.wanted c.in_ok-sums.sums.items c.requires.found firsts
    (λ i e. each i (subst (λ (l : List ℕ). Contains l i) (sym c.deref.ensures.value) e) n d x at))
    (c.in_ok-sums.ensures.looks _ v p.1 (frame_two (automaton c.args.self.now) c.args.self.now.found.now q c.args.over _ k c.args.wanted v c.args.numbers.now _ frame kid m p.1) may))
    (c.all_seconds.ensures (λ i e n d x at. two_kids (automaton c.args.self.now) c.args.self.now.found.now n i c.args.over x c.args.token c.args.wanted v at
    (frame_two (automaton c.args.self.now) c.args.self.now.found.now q c.args.over n k c.args.wanted v c.args.numbers.now x frame kid d at) may
    (c.in_ok-sums.ensures.only i (subst (λ (l : List ℕ). Contains l i) c.deref.ensures.value e))))
