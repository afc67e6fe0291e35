use Rattle.std.proofs.Common.{◌≤◌, ◌∙◌, arith, rules, refl, length}
use Rattle.std.proofs.lemmas.List.{take_rest}
use Rattle.c_tokens.proofs.Strings.{rest_length, rest_shorter}
use Rattle.c_tokens.proofs.Passing.{reads_begin, reads_on, piece_some}
use Rattle.c_tokens.proofs.reader.read.Goals as goal

pub loop-rest-init : goal.loop-rest-init
loop-rest-init c = record { is = rw c.new-found.ensures.items (reads_begin c.args.bytes.now); whole = omega arith }

pub loop-rest-smaller : goal.loop-rest-smaller
loop-rest-smaller c =
    let some : 1 ≤ length c.loop-rest.rest.now = search rules in
    rest_shorter c.in_ok-piece.piece.length c.loop-rest.rest.now _ (take_rest c.loop-rest.rest.now c.in_ok-piece.piece.length)
    (piece_some c.loop-rest.at c.loop-rest.rest.now c.in_ok-piece.piece some c.in_ok-piece.ensures.is) c.in_ok-piece.ensures.within

pub loop-rest-preserved : goal.loop-rest-preserved
loop-rest-preserved c =
    let some : 1 ≤ length c.loop-rest.rest.now = search rules in
    record {
      is = reads_on c.loop-rest.found.items _ c.loop-rest.at _ c.loop-rest.rest.now _ c.in_ok-piece.piece some c.in_ok-piece.ensures.is
          (piece_some c.loop-rest.at c.loop-rest.rest.now c.in_ok-piece.piece some c.in_ok-piece.ensures.is) c.in_ok-piece.ensures.within c.in_ok-keep.ensures.kept
          (take_rest c.loop-rest.rest.now c.in_ok-piece.piece.length) refl ∙ c.loop-rest.invariant.is;
      whole = rest_length _ c.loop-rest.at _ c.in_ok-piece.piece.length c.loop-rest.rest.now _ (take_rest c.loop-rest.rest.now c.in_ok-piece.piece.length) c.in_ok-piece.ensures.within
          c.loop-rest.invariant.whole refl;
    }
