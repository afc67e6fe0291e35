use Rattle.std.proofs.Common.{arith, ◌+◌, ◌∙◌, refl}
use Rattle.std.proofs.lemmas.List.{take_rest}
use Rattle.c_tokens.proofs.Strings.{string_goes, rest_length}
use Rattle.c_tokens.proofs.pieces.string_bytes.Goals as goal

pub loop-rest-preserved : goal.loop-rest-preserved
loop-rest-preserved c = record {
  is = string_goes c.args.at (c.args.at + 1 + c.loop-rest.length) c.loop-rest.length c.loop-rest.values.items c.in-Some.value c.in-Some.taken c.loop-rest.rest.now _ _ _ _
      c.in-len1-up.len_at_least c.if-first-eq34.false c.if-first-eq10.false c.in-Some.ensures.is c.in-Some.ensures.within.0 c.in-Some.ensures.within.1 c.in_ok-push.ensures.items
      (take_rest c.loop-rest.rest.now c.in-Some.taken) (omega arith) refl ∙ c.loop-rest.invariant.is;
  whole = rest_length _ c.loop-rest.length _ c.in-Some.taken c.loop-rest.rest.now _ (take_rest c.loop-rest.rest.now c.in-Some.taken) c.in-Some.ensures.within.1 c.loop-rest.invariant.whole refl;
}
