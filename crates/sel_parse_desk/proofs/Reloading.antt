-- Where a step of a reload fails.
use Rattle.std.proofs.Common.{◌≡◌, ℕ, zero, suc, ◌+◌, ◌-◌, ◌<◌, ap, sym, subst, arith}
use Rattle.std.specs.Prelude.{slice_get}
use Rattle.tree_core.specs.declared.program.TreeProgram.{TreeProgram}
use Rattle.md_reader.specs.State.{Content}
use Rattle.sel_target.specs.Meaning.{Meaning}
use Rattle.sel_parse_desk.specs.Entries.{slot_in}
use Rattle.sel_parse_desk.specs.Desk.{Desk, Outcome, Done, bind}
use Rattle.sel_parse_desk.specs.Reductions.{reloaded, reloaded_at}
use Rattle.sel_parse_desk.specs.declared.desk.DeskFault.{DeskFault}
use Rattle.sel_parse_desk.specs.declared.desk.DeskFault.TheVariants as desk_fault
use Rattle.sel_parse_desk.specs.Mirror.{Fails}

pub bind_fails : {X Y : Type 0} (e : DeskFault) (x : Outcome X) (go : X → Outcome Y) → Fails e x → Fails e (bind x go)
bind_fails desk_fault.NoMemory x go f = tt
bind_fails desk_fault.FrameFull x go f = ap (λ o. bind o go) f
bind_fails desk_fault.NoRegister x go f = ap (λ o. bind o go) f

module _ {O I S F : Type 0} (of : Meaning O I S F) (q : TreeProgram) (d : Content) (first : ℕ) where
  pub reload_fails : (e : DeskFault) (n i : ℕ) (desk : Desk O I) → 0 < n
      → Fails e (reloaded_at of q d first i desk (slot_in (slice_get desk.symbols i))) → Fails e (reloaded of q d first n i desk)
  reload_fails e zero i desk lt f = absurd (omega (arith, lt))
  reload_fails e (suc n) i desk lt f = bind_fails e (reloaded_at of q d first i desk (slot_in (slice_get desk.symbols i))) (reloaded of q d first n (i + 1)) f

  pub reload_fails_on : (e : DeskFault) (n i : ℕ) (desk k : Desk O I) → 0 < n
      → reloaded_at of q d first i desk (slot_in (slice_get desk.symbols i)) ≡ Done k → Fails e (reloaded of q d first (n - 1) (i + 1) k)
      → Fails e (reloaded of q d first n i desk)
  reload_fails_on e zero i desk k lt is f = absurd (omega (arith, lt))
  reload_fails_on e (suc n) i desk k lt is f =
      subst (λ o. Fails e (bind o (reloaded of q d first n (i + 1)))) (sym is)
      (let same : suc n - 1 ≡ n = omega arith in subst (λ j. Fails e (reloaded of q d first j (i + 1) k)) same f)
