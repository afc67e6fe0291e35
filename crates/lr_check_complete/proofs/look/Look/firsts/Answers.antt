use Rattle.lr_check_complete.specs.Looks.{automaton}
use Rattle.lr_check_complete.proofs.Turns.{looks_none, looks_turn_at, looks_all, looks_map}
use Rattle.lr_check_complete.proofs.Gaining.{first_kid, no_sums, more_sums, firsts_kept, firsts_in}
use Rattle.lr_check_complete.proofs.look.Look.firsts.Goals as goal

pub loop-token-init : goal.loop-token-init
loop-token-init c = record {
  looks = λ x v there two may. looks_none c.args.self.now _ _ _;
  sums = no_sums _ _ _ _ _ c.new-sums.ensures.items;
}

pub loop-token-preserved : goal.loop-token-preserved
loop-token-preserved c = record {
  looks = λ x v there two may. looks_turn_at c.args.self.now _ _ _ _ _ _ _
      (looks_map c.args.self.now _ _ _ _ (firsts_kept c.args.self.now.found.now c.args.over c.args.wanted c.args.behind _ _ _ _ c.in_ok-add_first.ensures.kept)
      (c.loop-token.invariant.looks x v there two may))
      c.loop-token-test.true
      (c.in_ok-add_first.ensures.looks x (λ m. first_kid (automaton c.args.self.now) c.args.self.now.found.now c.args.parent c.args.over x _ c.args.behind c.args.wanted v there two may m));
  sums = more_sums c.args.self.now.found.now c.args.over c.args.wanted c.args.behind _ _ _ c.loop-token.invariant.sums c.in_ok-add_first.ensures.only;
}

pub returns : goal.returns
returns c = record {
  looks = λ x v there two may. looks_map c.args.self.now _ _ _ _ (λ g. firsts_in _ _ _ _ _ c.loop-token.invariant.sums (λ t m. g t (c.tokens-token-items.ensures t) m))
      (looks_all c.args.self.now _ _ _ _ _ (c.loop-token.invariant.looks x v there two may) c.loop-token-test.false);
  only = c.loop-token.invariant.sums.each;
}
