-- What a tree's code does without homes it does at home.
use Rattle.std.proofs.Common.{◌≡◌, ℕ, zero, suc, ◌+◌, ◌-◌, ◌≤◌, Bool, true, false, cond, List, [], ◌∷◌, length, map, take, Option, Some, None, option_to_list, refl, ◌∙◌, arith, length-set}
use Rattle.std.specs.Prelude.{slice_get, ◌==◌, nat_lt}
use Rattle.std.proofs.lemmas.Option.{none-some}
use Rattle.gg_base.specs.Relations.{holds}
use Rattle.gg_base.specs.declared.run.Finish.TheVariants as finish
use Rattle.vax_states.specs.tree_core.specs.declared.program.Object.{Object}
use Rattle.vax_states.specs.tree_core.specs.declared.program.TreeFn.{TreeFn}
use Rattle.vax_states.specs.tree_core.specs.declared.program.TreeProgram.{TreeProgram}
use Rattle.vax_states.specs.tree_core.specs.Area.{stored}
use Rattle.vax_states.specs.tree_core.specs.Names.{label_name, function_label}
use Rattle.vax_states.specs.tree_meaning.specs.declared.value.Meaning.{Meaning}
use Rattle.vax_states.specs.tree_meaning.specs.declared.value.Meaning.TheVariants.{Of, Local, Argument, Memory}
use Rattle.vax_states.specs.tree_meaning.specs.Deeds.{Deed, Puts, Branches, Pushes, Returns as DoesReturn, Calls as DoesCall, Saves, Jumps, Traps, Strays, tree_deed}
use Rattle.vax_states.specs.tree_meaning.specs.State.{Extent, sight}
use Rattle.vax_states.specs.tree_meaning.specs.State.{State as Trees}
use Rattle.vax_states.specs.tree_meaning.specs.Steps.{Step, Goes as GoesOn, Serves, GoesTo, Enters, GoesBack, Ends, without_pushed, put_in, put, wrote, got, called_as, deed_step, tree_step}
use Rattle.vax_states.specs.vax_machine_lists.specs.vax_core.specs.declared.code.Instr.{Instr}
use Rattle.vax_states.specs.vax_machine.specs.declared.turn.Stop.TheVariants as stops
use Rattle.vax_states.specs.vax_machine.specs.State.{State}
use Rattle.vax_states.specs.vax_machine_lists.specs.Instructions.{Course, Stops}
use Rattle.vax_states.specs.Agreeing.{HasRoom}
use Rattle.vax_homes_law.specs.vax_homes.specs.Homing.{homed_instr}
use Rattle.vax_homes_law.specs.vax_confined.specs.Confined as confined
use Rattle.vax_homes_law.specs.Alike.{AreReady}
use Rattle.vax_homes_frames.specs.Live.{HomedCall, AllAtHome}
use Rattle.vax_homes_frames.specs.Trees.{NamesOnly, IsSameCall, Does, DoesAtHome, EffectsStayHome}
use Rattle.vax_homes_frames.proofs.Trees.{did, follows, all_trees_stay_home}

-- ---- what a step leaves of the call in which it is done

-- the same callers, and as many arguments; and it writes no more bytes than arguments are pushed
abbrev StaysIn : Trees → Step → Type 0
StaysIn t (GoesOn s) = IsSameCall t s
StaysIn t (Serves b s) = IsSameCall t s × (length (option_to_list b) ≤ length t.running.pushed)
StaysIn t (GoesTo label s) = IsSameCall t s
StaysIn t (Enters g args s) = Unit {0}
StaysIn t (GoesBack v s) = Unit {0}
StaysIn t (Ends x) = Unit {0}

one_pushed : (count : ℕ) (pushed : List ℕ) (v : ℕ) → slice_get (take count pushed) 0 ≡ Some v → 1 ≤ length pushed
one_pushed zero [] v e = absurd (none-some v e)
one_pushed (suc k) [] v e = absurd (none-some v e)
one_pushed count (x ∷ xs) v e = omega arith

same_call : (t : Trees) → IsSameCall t t
same_call t = record { callers = refl; arguments = refl }

module _ (program : TreeProgram) (t : Trees) where
  put_in_stays : (a : Option (List ℕ)) → StaysIn t (put_in t a)
  put_in_stays None = tt
  put_in_stays (Some area) = record { callers = refl; arguments = refl }

  put_stays : (g : Meaning) (n : ℕ) → StaysIn t (put t g n)
  put_stays (Of v) n = tt
  put_stays (Local k) n = record { callers = refl; arguments = refl }
  put_stays (Argument k) n = record { callers = refl; arguments = length-set t.running.arguments (k - 1) n }
  put_stays (Memory size address) n = put_in_stays (stored size t.area address n)

  test_stays : (label : ℕ) (b : Bool) → StaysIn t (cond b (GoesTo label t) (GoesOn t))
  test_stays label true = same_call t
  test_stays label false = same_call t

  wrote_stays : (count : ℕ) (o : Option ℕ) → slice_get (take count t.running.pushed) 0 ≡ o → StaysIn t (wrote (without_pushed t count) o)
  wrote_stays count None e = tt
  wrote_stays count (Some v) e = let many = one_pushed count t.running.pushed v e in (record { callers = refl; arguments = refl }, omega (arith, many))

  got_stays : (count : ℕ) (input : List ℕ) → StaysIn t (got (without_pushed t count) input)
  got_stays count [] = (record { callers = refl; arguments = refl }, omega arith)
  got_stays count (b ∷ bs) = (record { callers = refl; arguments = refl }, omega arith)

  served_by : (b c : Bool) (x y : Step) → StaysIn t x → StaysIn t y → StaysIn t (cond b x (cond c y (Ends finish.Wild)))
  served_by true c x y h g = h
  served_by false true x y h g = g
  served_by false false x y h g = tt

  entered_stays : (count : ℕ) (g : TreeFn) (b : Bool) → StaysIn t (cond b (Enters g (take count t.running.pushed) (without_pushed t count)) (Ends finish.Deep))
  entered_stays count g true = tt
  entered_stays count g false = tt

  called_stays : (count service : ℕ) (g : Option TreeFn) → StaysIn t (called_as (without_pushed t count) g service (take count t.running.pushed))
  called_stays count service None =
      served_by (service == 0) (service == 1) _ _ (wrote_stays count (slice_get (take count t.running.pushed) 0) refl) (got_stays count t.input)
  called_stays count service (Some g) = entered_stays count g (nat_lt (1 + length t.callers) 1024)

  deed_stays : (d : Deed) → StaysIn t (deed_step program t d)
  deed_stays (Puts g n) = put_stays g n
  deed_stays (Branches rel label x y) = test_stays label (holds rel x y)
  deed_stays (Pushes v) = record { callers = refl; arguments = refl }
  deed_stays (DoesReturn v) = tt
  deed_stays (DoesCall number count) = called_stays count (number - length program.functions) (slice_get program.functions number)
  deed_stays (Saves k) = record { callers = refl; arguments = refl }
  deed_stays (Jumps label) = same_call t
  deed_stays Traps = tt
  deed_stays Strays = tt

-- ---- the step at home

module _ (objects : List Object) (e : Extent) (es : List Extent) (c : HomedCall) (cs : List HomedCall) (t : Trees) (m : State) (st : List ℕ) (code : List Instr)
    (h : AllAtHome objects e es c cs t m st) (room : HasRoom m) (ready : AreReady c.homes (length t.running.arguments) code)
    (names : NamesOnly c.frame.mask (map (homed_instr c.homes) code)) where
  abbrev there : Course
  there = did objects e es c cs t m st code h room ready

  nothing : length {A = ℕ} [] ≤ length t.running.pushed
  nothing = omega arith

  does : (d : Step) → StaysIn t d → Does objects e es t m d (confined.exec code m) → DoesAtHome objects e es c cs t m d there
  does (GoesOn s) k d =
      let a = (all_trees_stay_home objects e es c cs t s m d.0 st [] code h room ready names k nothing d.2.agrees).0 d.1 in
      (record d.0 { registers = a.rs }, a.st, a.does, record { frames = a.frames; at_home = a.at_home })
  does (Serves b s) k d =
      let a = (all_trees_stay_home objects e es c cs t s m d.0 st (option_to_list b) code h room ready names k.0 k.1 d.2.agrees).0 d.1 in
      (record d.0 { registers = a.rs }, a.st, a.does, record { frames = a.frames; at_home = a.at_home }, a.low 0 (omega arith) ∙ d.3)
  does (GoesTo label s) k d =
      let a = (all_trees_stay_home objects e es c cs t s m d.0 st [] code h room ready names k nothing d.2.agrees).1 (label_name label) d.1 in
      (record d.0 { registers = a.rs }, a.st, a.does, record { frames = a.frames; at_home = a.at_home })
  does (Enters g args s) k d =
      let a = (all_trees_stay_home objects e es c cs t t m d.0 st [] code h room ready names (same_call t) nothing d.2.agrees).2 (function_label g.name) (length args) [] d.1 in
      (record d.0 { registers = a.rs }, a.st, a.does, record { frames = a.frames; at_home = a.at_home })
  does (GoesBack v s) k d =
      let a = (all_trees_stay_home objects e es c cs t t m d.0 st [] code h room ready names (same_call t) nothing d.2.agrees).3 d.1 in
      (record d.0 { registers = a.rs }, a.st, a.does, record { frames = a.frames; at_home = a.at_home }, a.low 0 (omega arith) ∙ d.3)
  does (Ends (finish.Ended v)) k d = tt
  does (Ends finish.Trapped) k d = follows objects e es c cs t m st code h room ready (record { written = []; ending = Stops stops.Trapped }) d nothing
  does (Ends finish.Wild) k d = tt
  does (Ends finish.Deep) k d = tt

pub effects_stay_home : EffectsStayHome
effects_stay_home program objects e es c cs t m st f code h room ready names d =
    does objects e es c cs t m st code h room ready names (tree_step program t f) (deed_stays program t (tree_deed program.objects (sight t) f)) d
