-- What a run that is done moment by moment tells.
use Rattle.std.specs.Prelude.{◌≡◌, ◌<◌, ℕ, List, [], ◌∷◌}
use Rattle.gg_base.specs.declared.run.End.{End}
use Rattle.gg_base.specs.Runs.{Outcome}
use Rattle.cmd_session.specs.declared.running.Moment.{Moment}
use Rattle.cmd_session.specs.declared.running.Moment.TheVariants.{Going, Wrote, Over}

-- what is still to come of a run: its output and its end
pub record Coming : Type 0 where
  pub output : List ℕ
  pub end : End

-- what is to come of a run's outcome
abbrev pub coming_of : Outcome → Coming
coming_of o = record { output = o.output; end = o.end }

-- what a moment says of what is to come before it and behind it
abbrev pub Passes : Coming → Moment → Coming → Type 0
Passes old Going new = new ≡ old
Passes old (Wrote b) new = old ≡ record { output = b ∷ new.output; end = new.end }
Passes old (Over e) new = old ≡ record { output = []; end = e }

-- a run that goes on has fewer moments left
abbrev pub Falls : ℕ → Moment → ℕ → Type 0
Falls old Going new = new < old
Falls old (Wrote b) new = new < old
Falls old (Over e) new = Unit {0}
