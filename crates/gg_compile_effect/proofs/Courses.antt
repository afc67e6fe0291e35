-- A course of the target's words is the machine's own, and a step that a course is, it does.
use Rattle.std.proofs.Common.{◌≡◌, ℕ, List, [], length, option_to_list, refl, ap}
use Rattle.tree_core.specs.declared.program.TreeProgram.{TreeProgram}
use Rattle.tree_core.specs.Names.{label_name, function_label}
use Rattle.tree_meaning.specs.State.{State as Trees, Extent}
use Rattle.gg_base.specs.declared.run.Finish.TheVariants as finish
use Rattle.tree_meaning.specs.Steps.{Step, Goes as GoesOn, Serves, GoesTo, Enters, GoesBack, Ends}
use Rattle.sel_parse_lines.specs.sel_target.specs.Courses as target
use Rattle.sel_parse_lines.specs.sel_target.specs.StatementLaws as steps
use Rattle.sel_parse_lines.specs.sel_target.specs.StatementLaws.{IsStep}
use Rattle.vax_core.specs.declared.code.Instr.{Instr}
use Rattle.vax_machine.specs.declared.turn.Stop.TheVariants as stops
use Rattle.vax_machine.specs.State.{State}
use Rattle.gg_compile_law.specs.vax_machine_lists.specs.Instructions.{Course, Ending, Comes, Goes, Calls, Returns, Stops}
use Rattle.vax_target_laws.specs.vax_target_meaning.specs.Running.{ending_of, course_of}
use Rattle.vax_target_laws.specs.vax_target_meaning.specs.Vax.{vax}
use Rattle.gg_compile_law.specs.Effects.{Stays, Does}

-- ---- what a course is

ends_comes : (e : Ending) (n : State) → ending_of e ≡ target.Comes n → e ≡ Comes n
ends_comes (Comes m) n h = same m n h
  where
    same : (m n : State) → ◌≡◌ {A = target.Ending Instr State} (target.Comes m) (target.Comes n) → Comes m ≡ Comes n
    same m n h = cc
ends_comes (Goes l m) n h = absurd (cc)
ends_comes (Calls name count m rest) n h = absurd (cc)
ends_comes (Returns m) n h = absurd (cc)
ends_comes (Stops (stops.Ended v)) n h = absurd (cc)
ends_comes (Stops stops.Trapped) n h = absurd (cc)
ends_comes (Stops (stops.Broken k)) n h = absurd (cc)

ends_goes : (e : Ending) (label : List ℕ) (n : State) → ending_of e ≡ target.Goes label n → e ≡ Goes label n
ends_goes (Comes m) label n h = absurd (cc)
ends_goes (Goes l m) label n h = same l label m n h
  where
    same : (l label : List ℕ) (m n : State) → ◌≡◌ {A = target.Ending Instr State} (target.Goes l m) (target.Goes label n) → Goes l m ≡ Goes label n
    same l label m n h = cc
ends_goes (Calls name count m rest) label n h = absurd (cc)
ends_goes (Returns m) label n h = absurd (cc)
ends_goes (Stops (stops.Ended v)) label n h = absurd (cc)
ends_goes (Stops stops.Trapped) label n h = absurd (cc)
ends_goes (Stops (stops.Broken k)) label n h = absurd (cc)

ends_calls : (e : Ending) (name : List ℕ) (count : ℕ) (n : State) (rest : List Instr) → ending_of e ≡ target.Calls name count n rest → e ≡ Calls name count n rest
ends_calls (Comes m) name count n rest h = absurd (cc)
ends_calls (Goes l m) name count n rest h = absurd (cc)
ends_calls (Calls a b m c) name count n rest h = same a b m c name count n rest h
  where
    same : (a : List ℕ) (b : ℕ) (m : State) (c : List Instr) (name : List ℕ) (count : ℕ) (n : State) (rest : List Instr)
        → ◌≡◌ {A = target.Ending Instr State} (target.Calls a b m c) (target.Calls name count n rest) → Calls a b m c ≡ Calls name count n rest
    same a b m c name count n rest h = cc
ends_calls (Returns m) name count n rest h = absurd (cc)
ends_calls (Stops (stops.Ended v)) name count n rest h = absurd (cc)
ends_calls (Stops stops.Trapped) name count n rest h = absurd (cc)
ends_calls (Stops (stops.Broken k)) name count n rest h = absurd (cc)

ends_returns : (e : Ending) (n : State) → ending_of e ≡ target.Returns n → e ≡ Returns n
ends_returns (Comes m) n h = absurd (cc)
ends_returns (Goes l m) n h = absurd (cc)
ends_returns (Calls name count m rest) n h = absurd (cc)
ends_returns (Returns m) n h = same m n h
  where
    same : (m n : State) → ◌≡◌ {A = target.Ending Instr State} (target.Returns m) (target.Returns n) → Returns m ≡ Returns n
    same m n h = cc
ends_returns (Stops (stops.Ended v)) n h = absurd (cc)
ends_returns (Stops stops.Trapped) n h = absurd (cc)
ends_returns (Stops (stops.Broken k)) n h = absurd (cc)

ends_traps : (e : Ending) → ending_of e ≡ target.Traps → e ≡ Stops stops.Trapped
ends_traps (Stops stops.Trapped) h = refl
ends_traps _ h = absurd (cc)

-- a course with that ending and these bytes
course_is : (c : Course) (w : List ℕ) (x : target.Ending Instr State) (e : Ending) → course_of c ≡ record { written = w; ending = x } → (ending_of c.ending ≡ x → c.ending ≡ e)
    → c ≡ record { written = w; ending = e }
course_is c w x e h k =
    let a : c.written ≡ w = ap (λ (y : target.Course Instr State). y.written) h in
    let b : c.ending ≡ e = k (ap (λ (y : target.Course Instr State). y.ending) h) in
    λ i. record { written = a i; ending = b i }

pub traps_is : (c : Course) → course_of c ≡ target.traps → c ≡ record { written = []; ending = Stops stops.Trapped }
traps_is c h = course_is c [] target.Traps (Stops stops.Trapped) h (ends_traps c.ending)

-- ---- a step

-- a step that isn't a trap
abbrev pub IsNoTrap : Step → Type 0
IsNoTrap (GoesOn s) = Unit {0}
IsNoTrap (Serves b s) = Unit {0}
IsNoTrap (GoesTo label s) = Unit {0}
IsNoTrap (Enters g args s) = Unit {0}
IsNoTrap (GoesBack v s) = Unit {0}
IsNoTrap (Ends (finish.Ended v)) = Unit {0}
IsNoTrap (Ends finish.Trapped) = ⊥
IsNoTrap (Ends finish.Wild) = Unit {0}
IsNoTrap (Ends finish.Deep) = Unit {0}

module _ (q : TreeProgram) (e : Extent) (es : List Extent) (t : Trees) (m : State) where
  stays : (s : Trees) (n : State) → steps.Stays vax q e es s m n → Stays q.objects e es s m n
  stays s n h = record { frames = h.live; agrees = h.agrees }

  pub step_does : (c : Course) (s : Step) → IsNoTrap s → IsStep vax q e es t m (course_of c) s → Does q.objects e es t m s c
  step_does c (GoesOn s) fair h = (h.0, course_is c [] (target.Comes h.0) (Comes h.0) h.1 (ends_comes c.ending h.0), stays s h.0 h.2)
  step_does c (Serves b s) fair h = (
    h.0,
    course_is c (option_to_list b) (target.Comes h.0) (Comes h.0) h.1 (ends_comes c.ending h.0),
    stays s h.0 h.2,
    h.3,
  )
  step_does c (GoesTo label s) fair h =
      (h.0, course_is c [] (target.Goes (label_name label) h.0) (Goes (label_name label) h.0) h.1 (ends_goes c.ending (label_name label) h.0), stays s h.0 h.2)
  step_does c (Enters g args s) fair h = (
    h.0,
    course_is c [] (target.Calls (function_label g.name) (length args) h.0 []) (Calls (function_label g.name) (length args) h.0 []) h.1
        (ends_calls c.ending (function_label g.name) (length args) h.0 []),
    stays t h.0 h.2,
  )
  step_does c (GoesBack v s) fair h = (h.0, course_is c [] (target.Returns h.0) (Returns h.0) h.1 (ends_returns c.ending h.0), stays t h.0 h.2, h.3)
  step_does c (Ends (finish.Ended v)) fair h = tt
  step_does c (Ends finish.Trapped) fair h = absurd fair
  step_does c (Ends finish.Wild) fair h = tt
  step_does c (Ends finish.Deep) fair h = tt
