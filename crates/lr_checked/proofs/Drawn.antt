-- What a sample shows that was drawn for a flaw, where its replay doesn't say it.
use Rattle.std.proofs.Common.{◌≡◌, ◌⊎◌, ℕ, ◌≤◌, List, length, ◌∙◌, ⊎_elim}
use Rattle.md_reader.specs.State.{Content}
use Rattle.md_reader.specs.Valid.{IsValid}
use Rattle.lr_tables.specs.View.{TableView}
use Rattle.lr_tables.specs.Promises.{IsNumbered}
use Rattle.lr_check.specs.declared.sample.Outcome.{Outcome}
use Rattle.lr_check.specs.declared.sample.Outcome.TheVariants as outcome
use Rattle.lr_check.specs.Tree.{Node}
use Rattle.lr_check.specs.Parse.{Replays, is_parsed}
use Rattle.lr_check.specs.Statement.{IsStatement}
use Rattle.lr_check.proofs.Only.{replays_same}
use Rattle.lr_check_drawn.specs.lr_check_samples.specs.Stops.{EndsAt, ends_blocked, ends_turning, EndsTurning}
use Rattle.lr_check_drawn.specs.lr_check_samples.specs.Drawn.{BlockingNodes, LoopingNodes}
use Rattle.lr_check_drawn.specs.lr_check_samples.proofs.Replaying.{stops_end}
use Rattle.lr_check_drawn.specs.Sampled.{IsSampleOf}
use Rattle.lr_check_flaws.specs.declared.flaws.Flaw.{Flaw}
use Rattle.lr_check_flaws.specs.declared.flaws.Flaw.TheVariants.{Gap, Dead, Circle}
use Rattle.lr_checked.specs.Refusals.{Blocking, Looping, FaultIsReal}
use Rattle.lr_checked.specs.Samples.{refusal_of}

pub block_done : (n : ℕ) → outcome.Blocks n ≡ outcome.Done → ⊥
block_done n e = cc

block_long : (n : ℕ) → outcome.Blocks n ≡ outcome.Long → ⊥
block_long n e = cc

pub loop_done : (n : ℕ) → outcome.Loops n ≡ outcome.Done → ⊥
loop_done n e = cc

loop_long : (n : ℕ) → outcome.Loops n ≡ outcome.Long → ⊥
loop_long n e = cc

-- neither blocked nor turning
abbrev pub IsNeither : Outcome → Type 0
IsNeither o = (o ≡ outcome.Done) ⊎ (o ≡ outcome.Long)

not_block : (o : Outcome) (n : ℕ) → IsNeither o → outcome.Blocks n ≡ o → ⊥
not_block o n h e = ⊎_elim (λ d. block_done n (e ∙ d)) (λ l. block_long n (e ∙ l)) h

not_loop : (o : Outcome) (n : ℕ) → IsNeither o → outcome.Loops n ≡ o → ⊥
not_loop o n h e = ⊎_elim (λ d. loop_done n (e ∙ d)) (λ l. loop_long n (e ∙ l)) h

module _ (t : TableView) (v : IsValid t.content) (b : IsNumbered t) (nodes : List Node) where
  module _ (s : IsStatement nodes) (o : Outcome) (r : Replays t.content nodes o) (h : IsNeither o) where
    long_blocks : BlockingNodes t.content nodes → Blocking t.content nodes
    long_blocks k = record {
      statement = s;
      leaves = k.tokens;
      tree = k.tree;
      blocks = k.blocking.blocks;
      ends = ended;
      replay = λ le. absurd (not_short le ended);
    }
      where
        ended : EndsAt t.content k.tokens
        ended = (stops_end t v b k.tokens).0 k.blocking.blocks

        not_short : length k.tokens ≤ 100000 → EndsAt t.content k.tokens → ⊥
        not_short le (ends_blocked at e) = not_block o at h (replays_same t.content nodes o (outcome.Blocks at) r (is_parsed k.tokens k.tree le e))
        not_short le (ends_turning at e) = not_loop o at h (replays_same t.content nodes o (outcome.Loops at) r (is_parsed k.tokens k.tree le e))

    long_loops : LoopingNodes t.content nodes → Looping t.content nodes
    long_loops k =
        let ended : EndsTurning t.content k.tokens = (stops_end t v b k.tokens).1 k.looping.loops in
        record {
          statement = s;
          leaves = k.tokens;
          tree = k.tree;
          loops = k.looping.loops;
          ends = ended;
          replay = λ le. absurd (not_loop o ended.at h (replays_same t.content nodes o (outcome.Loops ended.at) r (is_parsed k.tokens k.tree le ended.ends)));
        }

  pub drawn_real : (flaw : Flaw) → IsSampleOf t.content flaw nodes → (o : Outcome) → Replays t.content nodes o → IsNeither o → FaultIsReal t.content (refusal_of flaw nodes)
  drawn_real (Gap n) k o r h = long_blocks k.statement o r h k.blocking
  drawn_real (Dead i) k o r h = long_blocks k.statement o r h k.blocking
  drawn_real (Circle i classes) k o r h = long_loops k.statement o r h k.looping

pub drawn_statement : (d : Content) (flaw : Flaw) (nodes : List Node) → IsSampleOf d flaw nodes → IsStatement nodes
drawn_statement d (Gap n) nodes k = k.statement
drawn_statement d (Dead i) nodes k = k.statement
drawn_statement d (Circle i classes) nodes k = k.statement
