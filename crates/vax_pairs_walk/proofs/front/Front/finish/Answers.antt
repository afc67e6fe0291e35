use Rattle.std.proofs.Common.{◌≡◌, Option, Some, OnOk, ap, subst, ◌∙◌}
use Rattle.term_core.specs.Shape.{Shape, shape_of}
use Rattle.vax_machine.specs.declared.function.Function.{Function}
use Rattle.vax_pairs.specs.TermStates.{Signs, TermState}
use Rattle.vax_pairs.specs.TermResults.{given, coded_behind}
use Rattle.vax_pairs_walk.specs.Taking.{Front, in_state, Arguments}
use Rattle.vax_pairs_walk.specs.Computing.{put_at, guarded_in, finished}
use Rattle.vax_pairs_walk.specs.Views.{held, signs_of, state_of, front_of, arguments_of}
use Rattle.vax_pairs_walk.proofs.front.Front.finish.Goals as goal

finished_so : (x z : Front) (f : Function) (y : Arguments) (s : TermState) (g : Shape × Signs) → z ≡ guarded_in x f y.first → g ≡ given f y.first y.second
    → s ≡ coded_behind z.state f y.first y.second g.1 → put_at (in_state z s) y.goal g.0 ≡ finished x f y
finished_so x z f y s g ez eg es =
    ap (λ (t : TermState). put_at (in_state z t) y.goal g.0) es
    ∙ ap (λ (h : Shape × Signs). put_at (in_state z (coded_behind z.state f y.first y.second h.1)) y.goal h.0) eg
    ∙ ap (λ (w : Front). put_at (in_state w (coded_behind w.state f y.first y.second (given f y.first y.second).1)) y.goal (given f y.first y.second).0) ez

pub returns : goal.returns
returns c =
    let f = c.args.function in
    let y : Arguments = arguments_of c.args.x in
    let ez : front_of c.guard.new.self ≡ guarded_in (front_of c.args.self.now) f (shape_of c.args.x.first.value) = cc (c.in_ok-guard.ensures, c.deref.ensures) in
    let eg : (held c.in_ok-number.field-0.number, signs_of c.in_ok-number.signs) ≡ given f (shape_of c.args.x.first.value) (shape_of c.args.x.second.value) =
    cc (c.in_ok-number.ensures, c.in_ok-number.signs-is, c.deref-2.ensures, c.deref-3.ensures) in
    let es : state_of c.set_codes.new.self
    ≡ coded_behind (state_of c.guard.new.self.state) f (shape_of c.args.x.first.value) (shape_of c.args.x.second.value) (signs_of c.in_ok-number.signs) =
    cc (c.in_ok-set_codes.ensures, c.deref-4.ensures, c.deref-5.ensures) in
    subst (λ (z : Option Front). OnOk c.put.result (Some (front_of c.put.new.self) ≡ z))
    (finished_so (front_of c.args.self.now) (front_of c.guard.new.self) f y (state_of c.set_codes.new.self) (held c.in_ok-number.field-0.number, signs_of c.in_ok-number.signs) ez eg es)
    c.put.ensures
