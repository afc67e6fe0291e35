use Rattle.std.proofs.Common.{◌≡◌, ◌≤◌, take}
use Rattle.lr_check_store.specs.Counted.{size_of}
use Rattle.lr_check_store.proofs.count.size_of.Given as goal

abbrev pub invariant-loop-token : goal.invariant-loop-token
invariant-loop-token l = record { many : l.size ≡ size_of (take l.token-index l.behinds) l.set; few : l.size ≤ l.token-index }
