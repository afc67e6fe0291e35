use Rattle.std.proofs.Common.{◌≡◌, ◌-◌, ◌/◌, List, ℕ, length, subst, sym, ◌∙◌, rules}
use Rattle.std.specs.Vec.{with_items}
use Rattle.std.proofs.lemmas.List.{with_items_is}
use Rattle.vax_machine_live.specs.declared.frame.Frame.{Frame}
use Rattle.vax_machine_live.specs.Owners.{AreOwned, HasRoom, Gives}
use Rattle.vax_machine_live.proofs.OwnerLaws.{further, one_more}
use Rattle.vax_machine_live.proofs.frames.Frames.push.Goals as goal

pub invariant_of-self : goal.invariant_of-self
invariant_of-self c =
    let frames = c.self.inside.held.items in
    let reached = c.reach.new.owners.items in
    let new = c.give.new.owners in
    let f = c.args.f in
    let first = (2147483648 - f.top) / 4 in
    let last = (2147483648 - f.fp) / 4 in
    let number : c.len-number.result ≡ length frames = search rules in
    let room = subst (λ (x : List Frame). HasRoom x f.fp f.top) (sym c.self.view_is) c.requires.room in
    let gives = subst (λ (x : List ℕ). Gives c.len-number.result first last x new) c.as_mut_slice.ensures.value c.give.ensures.gives in
    let given = subst (λ (n : ℕ). Gives n first last reached new) number gives in
    let long : length new ≡ length reached = search rules in
    let kept : (with_items c.reach.new.owners new).items ≡ new = with_items_is c.reach.new.owners new (search rules) in
    let owned = further frames c.self.inside.owners.items reached c.reach.ensures.more c.reach.ensures.kept c.self.invariant.owned in
    record {
      room = c.push_reserved.ensures.capacity ∙ c.self.invariant.room;
      whole = c.reach.ensures.room ∙ c.self.invariant.whole;
      owned =
          subst (λ (x : List ℕ). AreOwned c.push_reserved.new.self.items x) (sym kept)
          (subst (λ (x : List Frame). AreOwned x new) (sym c.push_reserved.ensures.items)
          (one_more frames f reached new owned room long c.reach.ensures.long given));
    }
