use Rattle.std.proofs.Common.{◌≡◌, ◌≤◌, ◌++◌, drop}
use Rattle.c_syntax.specs.Ends.{ends_from, at_first}
use Rattle.c_syntax.specs.Views.{braces}
use Rattle.c_syntax.proofs.ends.body_ends.Given as goal

-- what is found, and what the rest has, are all; no more braces are open than tokens are passed
abbrev pub invariant-loop-token : goal.invariant-loop-token
invariant-loop-token l = (l.ends.items ++ ends_from (braces l.braces) (drop l.token-index l.tokens) ≡ ends_from at_first l.tokens) × (l.braces.«open» ≤ l.token-index)
