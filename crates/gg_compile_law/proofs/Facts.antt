-- What a root leaves of the call that does it.
use Rattle.std.proofs.Common.{◌≡◌, ℕ, ◌+◌, ◌-◌, ◌<◌, Bool, true, false, cond, List, [], ◌∷◌, length, take, Option, Some, None, refl, sym, subst, arith, length-set}
use Rattle.std.specs.Prelude.{slice_get, ◌==◌, nat_lt}
use Rattle.std.proofs.lemmas.Bool.{ltb-true}
use Rattle.std.proofs.lemmas.List.{length-drop}
use Rattle.gg_base.specs.Relations.{holds}
use Rattle.tree_core.specs.declared.token.Tok.{Tok}
use Rattle.tree_core.specs.declared.token.Tok.TheVariants as tok
use Rattle.tree_core.specs.declared.tree.Att.{Att}
use Rattle.tree_core.specs.declared.tree.Att.TheVariants as att
use Rattle.tree_core.specs.declared.tree.Leaf.{Leaf}
use Rattle.tree_core.specs.declared.program.TreeFn.{TreeFn}
use Rattle.tree_core.specs.declared.program.TreeProgram.{TreeProgram}
use Rattle.tree_core.specs.Trees.{grown}
use Rattle.tree_core.specs.Area.{stored}
use Rattle.tree_core.specs.Items.{target_of as target_in}
use Rattle.gg_base.specs.declared.run.Finish.{Finish}
use Rattle.gg_base.specs.declared.run.Finish.TheVariants as finish
use Rattle.tree_meaning.specs.declared.value.Value.{Value}
use Rattle.tree_meaning.specs.declared.value.Value.TheVariants.{Number, ZeroDivisor, Wild}
use Rattle.tree_meaning.specs.declared.value.Meaning.{Meaning}
use Rattle.tree_meaning.specs.declared.value.Meaning.TheVariants.{Of, Local, Argument, Memory}
use Rattle.tree_meaning.specs.Values.{Sight, kid}
use Rattle.tree_meaning.specs.State.{State, sight}
use Rattle.tree_meaning.specs.Deeds.{Deed, Puts, Branches, Pushes as DoesPush, Returns, Calls as DoesCall, Saves as DoesSave, Jumps, Traps, Strays, given, assigned, branched}
use Rattle.tree_meaning.specs.Deeds.{jumped_by, saved, called_by, deed_of}
use Rattle.tree_meaning.specs.Steps.{Step, Goes, Serves, GoesTo, Enters, GoesBack, Ends, without_pushed, put_in, put, wrote, got, served, called_as, deed_step, tree_step}
use Rattle.gg_compile_law.specs.Roles.{Role, Pushes, Calls, Saves, Plain, calls_by, role_by, role_of, target_by, target_of}

-- ---- the deed of a root, by its role and its target

abbrev Fits : Role → Option ℕ → Deed → Type 0
Fits r target (Puts g n) = r ≡ Plain
Fits r target (Branches rel label x y) = (r ≡ Plain) × (target ≡ Some label)
Fits r target (DoesPush n) = r ≡ Pushes
Fits r target (Returns n) = r ≡ Plain
Fits r target (DoesCall function count) = r ≡ Calls function count
Fits r target (DoesSave k) = r ≡ Saves
Fits r target (Jumps label) = (r ≡ Plain) × (target ≡ Some label)
Fits r target Traps = Unit {0}
Fits r target Strays = Unit {0}

given_fits : (r : Role) (o : Option ℕ) (v : Value) (f : ℕ → Deed) → ((n : ℕ) → Fits r o (f n)) → Fits r o (given v f)
given_fits r o (Number n) f h = h n
given_fits r o ZeroDivisor f h = tt
given_fits r o Wild f h = tt

assigned_fits : (o : Option ℕ) (m : Option Meaning) (v : Value) → Fits Plain o (assigned m v)
assigned_fits o None v = tt
assigned_fits o (Some (Of u)) v = given_fits Plain o u _ (λ n. tt)
assigned_fits o (Some (Local k)) v = given_fits Plain o v _ (λ n. refl)
assigned_fits o (Some (Argument k)) v = given_fits Plain o v _ (λ n. refl)
assigned_fits o (Some (Memory size address)) v = given_fits Plain o v _ (λ n. refl)

branched_fits : (a : Att) (v w : Value) → Fits Plain (target_in a) (branched a v w)
branched_fits att.Nothing v w = tt
branched_fits (att.Number n) v w = tt
branched_fits (att.Object object offset) v w = tt
branched_fits (att.Slot n) v w = tt
branched_fits (att.Branch rel label) v w = given_fits Plain (Some label) v _ (λ x. given_fits Plain (Some label) w _ (λ y. (refl, refl)))
branched_fits (att.Label label) v w = tt
branched_fits (att.Callee function count) v w = tt

jumped_fits : (a : Att) → Fits Plain (target_in a) (jumped_by a)
jumped_fits att.Nothing = tt
jumped_fits (att.Number n) = tt
jumped_fits (att.Object object offset) = tt
jumped_fits (att.Slot n) = tt
jumped_fits (att.Branch rel label) = tt
jumped_fits (att.Label label) = (refl, refl)
jumped_fits (att.Callee function count) = tt

saved_fits : (a : Att) → Fits Saves None (saved a)
saved_fits att.Nothing = tt
saved_fits (att.Number n) = tt
saved_fits (att.Object object offset) = tt
saved_fits (att.Slot n) = refl
saved_fits (att.Branch rel label) = tt
saved_fits (att.Label label) = tt
saved_fits (att.Callee function count) = tt

called_fits : (a : Att) → Fits (calls_by a) None (called_by a)
called_fits att.Nothing = tt
called_fits (att.Number n) = tt
called_fits (att.Object object offset) = tt
called_fits (att.Slot n) = tt
called_fits (att.Branch rel label) = tt
called_fits (att.Label label) = tt
called_fits (att.Callee function count) = refl

root_fits : (s : Sight) (k : Tok) (a : Att) (m n : Option Meaning) → Fits (role_by k a) (target_by k a) (deed_of s k a m n)
root_fits s tok.Zero a m n = tt
root_fits s tok.One a m n = tt
root_fits s tok.Two a m n = tt
root_fits s tok.Four a m n = tt
root_fits s tok.Eight a m n = tt
root_fits s tok.Const a m n = tt
root_fits s tok.Gaddr a m n = tt
root_fits s tok.Loc a m n = tt
root_fits s tok.Arg a m n = tt
root_fits s tok.IndirB a m n = tt
root_fits s tok.IndirW a m n = tt
root_fits s tok.IndirL a m n = tt
root_fits s tok.Plus a m n = tt
root_fits s tok.Minus a m n = tt
root_fits s tok.Mul a m n = tt
root_fits s tok.Div a m n = tt
root_fits s tok.Mod a m n = tt
root_fits s tok.And a m n = tt
root_fits s tok.Or a m n = tt
root_fits s tok.Xor a m n = tt
root_fits s tok.Lsh a m n = tt
root_fits s tok.Rsh a m n = tt
root_fits s tok.Neg a m n = tt
root_fits s tok.Com a m n = tt
root_fits s tok.Sxb a m n = tt
root_fits s tok.Zxb a m n = tt
root_fits s tok.Sxw a m n = tt
root_fits s tok.Zxw a m n = tt
root_fits s tok.Ncb a m n = tt
root_fits s tok.Ncw a m n = tt
root_fits s tok.AssignB a m n = assigned_fits None m (kid s n)
root_fits s tok.AssignW a m n = assigned_fits None m (kid s n)
root_fits s tok.AssignL a m n = assigned_fits None m (kid s n)
root_fits s tok.Cbr a m n = branched_fits a (kid s m) (kid s n)
root_fits s tok.Push a m n = given_fits Pushes None (kid s m) _ (λ v. refl)
root_fits s tok.Ret a m n = given_fits Plain None (kid s m) _ (λ v. refl)
root_fits s tok.Call a m n = called_fits a
root_fits s tok.Save a m n = saved_fits a
root_fits s tok.Jump a m n = jumped_fits a
root_fits s tok.End a m n = tt

-- ---- what the step leaves

-- the call goes on with so many pushed arguments
pub record Keeps (t s : State) (pushed : ℕ) : Type 0 where
  pub callers : s.callers ≡ t.callers
  pub code : s.running.code ≡ t.running.code
  pub items : s.running.items ≡ t.running.items
  pub arguments : length s.running.arguments ≡ length t.running.arguments
  pub pushes : length s.running.pushed ≡ pushed

-- a run isn't ended by a tree but by a zero divisor, a wild access or a call too deep
abbrev pub IsLost : Finish → Type 0
IsLost (finish.Ended v) = ⊥
IsLost finish.Trapped = Unit {0}
IsLost finish.Wild = Unit {0}
IsLost finish.Deep = Unit {0}

abbrev pub KeepsBy : Role → State → State → Type 0
KeepsBy Pushes t s = Keeps t s (length t.running.pushed + 1)
KeepsBy (Calls function count) t s = ⊥
KeepsBy Saves t s = Keeps t s (length t.running.pushed)
KeepsBy Plain t s = Keeps t s (length t.running.pushed)

module _ (program : TreeProgram) (t : State) where
  abbrev pub Facts : Role → Option ℕ → Step → Type 0
  Facts r target (Goes s) = KeepsBy r t s
  Facts r target (Serves b s) = (number : ℕ) × (count : ℕ) × (r ≡ Calls number count) × Keeps t s (length t.running.pushed - count)
  Facts r target (GoesTo label s) = (s ≡ t) × (r ≡ Plain) × (target ≡ Some label)
  Facts r target (Enters g args s) =
      (number : ℕ) × (count : ℕ) × (r ≡ Calls number count) × (args ≡ take count t.running.pushed) × (s ≡ without_pushed t count)
      × (slice_get program.functions number ≡ Some g) × (1 + length t.callers < 1024)
  Facts r target (GoesBack v s) = (s ≡ t) × (r ≡ Plain)
  Facts r target (Ends e) = IsLost e

  same : (r : Role) → r ≡ Plain → KeepsBy r t t
  same r e = subst (λ (x : Role). KeepsBy x t t) (sym e) (record { callers = refl; code = refl; items = refl; arguments = refl; pushes = refl })

  put_in_facts : (o : Option ℕ) (a : Option (List ℕ)) → Facts Plain o (put_in t a)
  put_in_facts o None = tt
  put_in_facts o (Some area) = record { callers = refl; code = refl; items = refl; arguments = refl; pushes = refl }

  put_facts : (o : Option ℕ) (m : Meaning) (n : ℕ) → Facts Plain o (put t m n)
  put_facts o (Of v) n = tt
  put_facts o (Local k) n = record { callers = refl; code = refl; items = refl; arguments = refl; pushes = refl }
  put_facts o (Argument k) n = record { callers = refl; code = refl; items = refl; arguments = length-set t.running.arguments (k - 1) n; pushes = refl }
  put_facts o (Memory size address) n = put_in_facts o (stored size t.area address n)

  test_facts : (r : Role) (o : Option ℕ) (label : ℕ) (b : Bool) → r ≡ Plain → o ≡ Some label → Facts r o (cond b (GoesTo label t) (Goes t))
  test_facts r o label true e f = (refl, e, f)
  test_facts r o label false e f = same r e

  module _ (number count : ℕ) where
    abbrev popped : State
    popped = without_pushed t count

    wrote_facts : (o p : Option ℕ) → Facts (Calls number count) p (wrote popped o)
    wrote_facts None p = tt
    wrote_facts (Some v) p = (number, count, refl, record { callers = refl; code = refl; items = refl; arguments = refl; pushes = length-drop count t.running.pushed })

    got_facts : (input : List ℕ) (p : Option ℕ) → Facts (Calls number count) p (got popped input)
    got_facts [] p = (number, count, refl, record { callers = refl; code = refl; items = refl; arguments = refl; pushes = length-drop count t.running.pushed })
    got_facts (b ∷ bs) p = (number, count, refl, record { callers = refl; code = refl; items = refl; arguments = refl; pushes = length-drop count t.running.pushed })

    served_by : (p : Option ℕ) (b c : Bool) (x y : Step) → Facts (Calls number count) p x → Facts (Calls number count) p y
        → Facts (Calls number count) p (cond b x (cond c y (Ends finish.Wild)))
    served_by p true c x y h g = h
    served_by p false true x y h g = g
    served_by p false false x y h g = tt

    served_facts : (p : Option ℕ) (service : ℕ) (args : List ℕ) → Facts (Calls number count) p (served popped service args)
    served_facts p service args = served_by p (service == 0) (service == 1) _ _ (wrote_facts (slice_get args 0) p) (got_facts t.input p)

    entered_facts : (p : Option ℕ) (g : TreeFn) (b : Bool) → nat_lt (1 + length t.callers) 1024 ≡ b → slice_get program.functions number ≡ Some g
        → Facts (Calls number count) p (cond b (Enters g (take count t.running.pushed) popped) (Ends finish.Deep))
    entered_facts p g true deep e = (number, count, refl, refl, refl, e, ltb-true (1 + length t.callers) 1024 deep)
    entered_facts p g false deep e = tt

    called_facts : (p : Option ℕ) (g : Option TreeFn) (service : ℕ) → slice_get program.functions number ≡ g
        → Facts (Calls number count) p (called_as popped g service (take count t.running.pushed))
    called_facts p None service e = served_facts p service (take count t.running.pushed)
    called_facts p (Some g) service e = entered_facts p g (nat_lt (1 + length t.callers) 1024) refl e

  pushed_keeps : (v : ℕ) → length (v ∷ t.running.pushed) ≡ length t.running.pushed + 1
  pushed_keeps v = omega arith

  deed_facts : (r : Role) (o : Option ℕ) (d : Deed) → Fits r o d → Facts r o (deed_step program t d)
  deed_facts r o (Puts g n) e = subst (λ (x : Role). Facts x o (put t g n)) (sym e) (put_facts o g n)
  deed_facts r o (Branches rel label x y) e = test_facts r o label (holds rel x y) e.0 e.1
  deed_facts r o (DoesPush v) e =
      subst (λ (x : Role). KeepsBy x t (record t { running = record t.running { pushed = v ∷ t.running.pushed } })) (sym e)
      (record { callers = refl; code = refl; items = refl; arguments = refl; pushes = pushed_keeps v })
  deed_facts r o (Returns v) e = (refl, e)
  deed_facts r o (DoesCall number count) e =
      subst (λ (x : Role). Facts x o (deed_step program t (DoesCall number count))) (sym e)
      (called_facts number count o (slice_get program.functions number) (number - length program.functions) refl)
  deed_facts r o (DoesSave k) e =
      subst (λ (x : Role). Facts x o (deed_step program t (DoesSave k))) (sym e) (record { callers = refl; code = refl; items = refl; arguments = refl; pushes = refl })
  deed_facts r o (Jumps label) e = (refl, e.0, e.1)
  deed_facts r o Traps e = tt
  deed_facts r o Strays e = tt

  pub step_facts : (w : List Leaf) → Facts (role_of w) (target_of w) (tree_step program t (grown w))
  step_facts [] = tt
  step_facts (l ∷ w) = deed_facts (role_by l.tok l.att) (target_by l.tok l.att) _ (root_fits (sight t) l.tok l.att _ _)
