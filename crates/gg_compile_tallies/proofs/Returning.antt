-- Returns in whole programs: the caller goes on, or the run is over, and nothing is counted.
use Rattle.std.proofs.Common.{◌≡◌, ℕ, ◌+◌, ◌<◌, true, List, [], ◌∷◌, ◌++◌, length, None, refl, sym, ap, subst, ◌∙◌, arith}
use Rattle.std.proofs.lemmas.List.{append-nil}
use Rattle.vax_core.specs.declared.register.Reg.TheVariants.{R0}
use Rattle.vax_core.specs.declared.code.CodeItem.{CodeItem}
use Rattle.vax_machine.specs.declared.turn.Stop.TheVariants.{Ended}
use Rattle.vax_machine.specs.State.{State, reg}
use Rattle.vax_machine.specs.Calls.{returned}
use Rattle.tree_core.specs.declared.program.TreeProgram.{TreeProgram}
use Rattle.tree_meaning.specs.State.{Activation, Extent}
use Rattle.tree_meaning.specs.State.{State as Trees}
use Rattle.gg_compile_law.specs.vax_homes_items.specs.vax_homes_law.specs.Calling.{with_stack}
use Rattle.gg_compile_law.specs.vax_homes_frames.specs.Live.{HomedCall, frames_of, AllAtHome}
use Rattle.gg_compile_law.specs.vax_homes_frames.proofs.Returning.{returns_agree_at_home, last_return_ends_at_home}
use Rattle.gg_compile_law.specs.Programs.{IsActive, Waits, ends_run, goes_on, Stands}
use Rattle.gg_compile_law.proofs.Going.{active_answered}
use Rattle.vax_bound.specs.Counted.{counted_between}
use Rattle.vax_bound.proofs.Frames.{Leaves, returned_leaves}
use Rattle.gg_compile_tallies.proofs.Walking.{Walks, Halted, Reaches, counted_back, walked, halted}

-- Behind a return with a value the run is over, or the caller goes on, in a machine that stands for the trees' state behind the call.
abbrev pub ComesBack : TreeProgram → List CodeItem → List Activation → Trees → ℕ → State → List ℕ → Type 0
ComesBack program code [] t v m w = (count : ℕ) × Halted m w count 0 (Ended v)
ComesBack program code (c ∷ cs) t v m w =
    (count : ℕ) × (n : State) × (st : List ℕ) × Walks m w count 0 (with_stack n st)
    × Stands program code (record { running = record c { result = v }; callers = cs; area = t.area; input = t.input }) n st

module _ (program : TreeProgram) (code : List CodeItem) (m : State) (w : List ℕ) (many : ℕ) (t : Trees) (mr : State) (st : List ℕ) (gets : Reaches m w many (returned (with_stack mr st)))
    (same_frames : mr.frames ≡ m.frames) (same_code : mr.items ≡ code) (v : ℕ) (is : reg mr R0 ≡ v) (shallow : length t.callers < 1024) where
  pub comes_back : (e : Extent) (c : HomedCall) (cs : List HomedCall) (es : List Extent) (callers : List Activation) → Waits program code c cs es callers → AllAtHome program.objects e es c cs t mr st
      → t.callers ≡ callers → ComesBack program code callers t v m w
  comes_back e _ _ _ _ (ends_run c none) h eq =
      let over : Halted m (w ++ []) (gets.number + 1) 0 (Ended v) =
      halted m (with_stack mr st) w many (returned (with_stack mr st)) gets (Ended v) (last_return_ends_at_home program.objects e [] c [] t mr st v h none is) in
      (gets.number + 1, subst (λ (x : List ℕ). Halted m x (gets.number + 1) 0 (Ended v)) (append-nil w) over)
  comes_back e _ _ _ _ (goes_on c d ds g own rest a xs place back small fp ap_so active waits) h eq =
      let r =
      returns_agree_at_home program.objects e own rest c d ds t a xs mr st place v h eq
      (record { caller = d.frame; further = frames_of ds; outer_is = refl; back = back; small = small; fp = fp; ap = ap_so }) is in
      let n = with_stack r.state st in
      let walk : Walks m (w ++ []) (gets.number + 1) (counted_between gets.state n) n = walked m n w many (returned (with_stack mr st)) gets None r.does in
      let left : Leaves (with_stack mr st) n = returned_leaves (with_stack mr st) n None r.does in
      let nothing : counted_between gets.state n ≡ 0 = counted_back gets.state n left.f (gets.frames ∙ sym same_frames ∙ left.frames) in (
        gets.number + 1,
        r.state,
        st,
        subst (λ (x : List ℕ). Walks m x (gets.number + 1) 0 n) (append-nil w) (subst (λ (x : ℕ). Walks m (w ++ []) (gets.number + 1) x n) nothing walk),
        record {
          e = own;
          es = rest;
          c = d;
          cs = ds;
          g = g;
          is_behind = true;
          at_home = r.at_home;
          items = r.items ∙ same_code;
          active = active_answered program code g own d a r.state.place v true (subst (λ (p : ℕ). IsActive program code g own d a p true) (sym r.at) active);
          result = λ b. r.result;
          waits = waits;
          shallow = omega (arith, shallow, ap length eq);
        },
      )
