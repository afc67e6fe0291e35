-- What a sample shows, by what its replay says.
use Rattle.std.proofs.Common.{◌≡◌, ℕ, List, [], refl, subst}
use Rattle.md_reader.specs.State.{Content}
use Rattle.lr_tables.specs.Statements.{stmt_of}
use Rattle.lr_check.specs.declared.sample.Outcome.{Outcome}
use Rattle.lr_check.specs.declared.sample.Outcome.TheVariants as outcome
use Rattle.lr_check.specs.Tree.{Node, Token}
use Rattle.lr_check.specs.Parse.{Ends, Replays, is_long, is_parsed}
use Rattle.lr_check.specs.Statement.{IsStatement}
use Rattle.lr_check_drawn.specs.lr_check_samples.specs.Stops.{at_once, Blocks, Loops, EndsAt, ends_blocked, ends_turning}
use Rattle.lr_check.proofs.Contained.{nowhere_in}
use Rattle.lr_checked.specs.declared.checking.CheckFault.{CheckFault}
use Rattle.lr_checked.specs.declared.checking.CheckFault.TheVariants as check_fault
use Rattle.lr_checked.specs.Accepted.{NeverStops}
use Rattle.lr_checked.specs.Refusals.{Blocking, Looping, FaultIsReal, SomeStops, some_blocks, some_loops, IsStopped}
use Rattle.lr_checked.proofs.Typed.{typed_tokens}
use Rattle.lr_checked.proofs.Stopping as stopping
use Rattle.lr_checked.proofs.Stopping.{Nothing, Twice}
use Rattle.lr_checked.proofs.Drawn.{block_done, loop_done}

long_block : (n : ℕ) → outcome.Long ≡ outcome.Blocks n → ⊥
long_block n e = cc

long_loop : (n : ℕ) → outcome.Long ≡ outcome.Loops n → ⊥
long_loop n e = cc

module _ (d : Content) where
  -- step by step, the parse stops where the replay does
  pub blocks_of : (w : List Token) (n : ℕ) → Ends d.rules (stmt_of d.classes) 0 [] w [] (outcome.Blocks n) → Blocks d w
  blocks_of w n e =
      let k : Nothing d.rules (stmt_of d.classes) w = stopping.ends_blocked d.rules (stmt_of d.classes) e n refl w at_once in
      record { rest = k.rest; stack = k.stack; behind = k.behind; comes = k.comes; nothing = k.nothing }

  pub loops_of : (w : List Token) (n : ℕ) → Ends d.rules (stmt_of d.classes) 0 [] w [] (outcome.Loops n) → Loops d w
  loops_of w n e =
      let k : Twice d.rules (stmt_of d.classes) w = stopping.ends_looping d.rules (stmt_of d.classes) e n refl w at_once (λ b h. absurd (nowhere_in b h)) in
      record { rest = k.rest; first = k.first; second = k.second; comes = k.comes; turns = k.turns; same = k.same }

  module _ (nodes : List Node) (s : IsStatement nodes) where
    pub replayed_blocks : (n : ℕ) → Replays d nodes (outcome.Blocks n) → Blocking d nodes
    replayed_blocks n r = by r refl
      where
        by : {o : Outcome} → Replays d nodes o → o ≡ outcome.Blocks n → Blocking d nodes
        by (is_long w tree long) e = absurd (long_block n e)
        by (is_parsed w tree short parse) e =
            let ended : Ends d.rules (stmt_of d.classes) 0 [] w [] (outcome.Blocks n) = subst (Ends d.rules (stmt_of d.classes) 0 [] w []) e parse in
            record {
              statement = s;
              leaves = w;
              tree = tree;
              blocks = blocks_of w n ended;
              ends = ends_blocked n ended;
              replay = λ le. (n, is_parsed w tree le ended);
            }

    pub replayed_loops : (n : ℕ) → Replays d nodes (outcome.Loops n) → Looping d nodes
    replayed_loops n r = by r refl
      where
        by : {o : Outcome} → Replays d nodes o → o ≡ outcome.Loops n → Looping d nodes
        by (is_long w tree long) e = absurd (long_loop n e)
        by (is_parsed w tree short parse) e =
            let ended : Ends d.rules (stmt_of d.classes) 0 [] w [] (outcome.Loops n) = subst (Ends d.rules (stmt_of d.classes) 0 [] w []) e parse in
            record {
              statement = s;
              leaves = w;
              tree = tree;
              loops = loops_of w n ended;
              ends = record { at = n; ends = ended };
              replay = λ le. (n, is_parsed w tree le ended);
            }

  -- a sample's statement stops the parse
  blocking_stops : (nodes : List Node) → Blocking d nodes → SomeStops d
  blocking_stops nodes b = by b.ends
    where
      by : EndsAt d b.leaves → SomeStops d
      by (ends_blocked at e) = some_blocks b.leaves at (typed_tokens nodes b.leaves b.statement b.tree) e
      by (ends_turning at e) = some_loops b.leaves at (typed_tokens nodes b.leaves b.statement b.tree) e

  looping_stops : (nodes : List Node) → Looping d nodes → SomeStops d
  looping_stops nodes l = some_loops l.leaves l.ends.at (typed_tokens nodes l.leaves l.statement l.tree) l.ends.ends

  pub is_stopped : (fault : CheckFault) → FaultIsReal d fault → IsStopped d fault
  is_stopped check_fault.NoMemory real = tt
  is_stopped check_fault.CheckFull real = tt
  is_stopped (check_fault.Blocks nodes) real = blocking_stops nodes real
  is_stopped (check_fault.Loops nodes) real = looping_stops nodes real

  -- where no typed statement stops the parse, none does
  pub none_stops : NeverStops d → SomeStops d → ⊥
  none_stops never (some_blocks w n typed e) = block_done n (never.only w (outcome.Blocks n) typed e)
  none_stops never (some_loops w n typed e) = loop_done n (never.only w (outcome.Loops n) typed e)
