-- Machines that stand for states of a tree program, from one tree to the next.
use Rattle.std.proofs.Common.{◌≡◌, ℕ, ◌+◌, ◌<◌, ◌≤◌, Bool, true, List, [], ◌∷◌, length, None, refl, sym, ap, subst, ◌∙◌, arith}
use Rattle.std.proofs.lemmas.List.{same_from_push, append-nil}
use Rattle.vax_core.specs.declared.register.Reg.TheVariants.{R0, Ap, Fp, Sp}
use Rattle.vax_core.specs.declared.code.CodeItem.{CodeItem}
use Rattle.vax_machine_live.specs.declared.frame.Frame.{Frame}
use Rattle.vax_machine.specs.declared.turn.Stop.TheVariants.{Ended}
use Rattle.vax_machine.specs.State.{State, reg}
use Rattle.vax_machine.specs.Calls.{returned}
use Rattle.tree_core.specs.declared.program.Object.{Object}
use Rattle.tree_core.specs.declared.program.TreeItem.{TreeItem}
use Rattle.tree_core.specs.declared.program.TreeFn.{TreeFn}
use Rattle.tree_core.specs.declared.program.TreeProgram.{TreeProgram}
use Rattle.tree_meaning.specs.State.{Activation, Extent}
use Rattle.tree_meaning.specs.State.{State as Trees}
use Rattle.vax_frames_law.specs.vax_states.specs.Stack.{Hold, caller}
use Rattle.vax_frames_law.specs.vax_states.specs.Agreeing.{Agrees}
use Rattle.vax_machine_lists.specs.Runs.{Leads, Halts, Gets}
use Rattle.vax_frames_law.specs.Laws.{IsRoomy}
use Rattle.vax_homes_items.specs.vax_homes_law.specs.Calling.{with_stack}
use Rattle.vax_homes_frames.specs.Live.{HomedCall, frames_of, AllAtHome}
use Rattle.gg_compile_law.specs.Programs.{IsActive, Waits, ends_run, goes_on}
use Rattle.gg_compile_law.specs.Laws.{ComesBack, ReturnsComeBack}
use Rattle.vax_machine_lists.proofs.Steps.{got_on, got_over}
use Rattle.gg_compile_law.proofs.Rooms.{space, as_many, waits_small}
use Rattle.vax_homes_frames.proofs.Returning.{returns_agree_at_home, last_return_ends_at_home}

-- the trees' state with other items still to come
abbrev pub with_items : Trees → List TreeItem → Trees
with_items t is = record t { running = record t.running { items = is } }

-- ---- the innermost call's frame

module _ (objects : List Object) (e : Extent) (es : List Extent) (c : HomedCall) (cs : List HomedCall) (t : Trees) (m : State) (st : List ℕ) (h : AllAtHome objects e es c cs t m st) where
  innermost_is : h.home.agrees.innermost ≡ c.frame
  innermost_is = (same_from_push h.home.agrees.outer (frames_of cs) h.home.agrees.innermost c.frame (sym h.home.agrees.frames ∙ h.frames)).1

  pub fp_is : reg m Fp ≡ c.frame.fp
  fp_is = h.home.agrees.fp ∙ ap (λ (f : Frame). f.fp) innermost_is

  pub ap_is : reg m Ap ≡ c.frame.ap
  ap_is = h.home.agrees.ap ∙ ap (λ (f : Frame). f.ap) innermost_is

module _ (program : TreeProgram) (code : List CodeItem) where
  -- ---- room

  pub roomy : (e : Extent) (es : List Extent) (c : HomedCall) (cs : List HomedCall) (t : Trees) (m : State) → Agrees program.objects e es t m → e.words ≤ 1024 → length t.running.pushed ≤ 255
      → Waits program code c cs es t.callers
      → length t.callers < 1024 → IsRoomy m
  roomy e es c cs t m h words pushed waits shallow =
      let all : Hold m.stack m.frames (e ∷ es) (t.running ∷ t.callers) (reg m Sp) = caller h.outer m.frames h.innermost e es t.running t.callers (reg m Sp) h.high h.frames h.running h.callers in
      let wide = space m.stack m.frames (e ∷ es) (t.running ∷ t.callers) (reg m Sp) all (words, pushed, waits_small program code c cs es t.callers waits) in
      let many = as_many m.stack m.frames (e ∷ es) (t.running ∷ t.callers) (reg m Sp) all in
      record { room = record { space = omega (arith, wide, shallow); frame = omega (arith, many, shallow) }; wide = omega (arith, wide, shallow) }

  -- ---- a return

  pub active_answered : (g : TreeFn) (e : Extent) (c : HomedCall) (a : Activation) (place v : ℕ) (b : Bool) → IsActive program code g e c a place b
      → IsActive program code g e c (record a { result = v }) place b
  active_answered g e c a place v b h = record {
    number = h.number;
    function = h.function;
    emitted = h.emitted;
    layout = h.layout;
    locals = h.locals;
    items = h.items;
    arguments = h.arguments;
    here = h.here;
    order = h.order;
  }

  module _ (m : State) (w : List ℕ) (j : ℕ) (t : Trees) (mr : State) (st : List ℕ) (gets : Gets m w j (returned (with_stack mr st))) (same_code : mr.items ≡ code) (v : ℕ) (is : reg mr R0 ≡ v) where
    back_by : (e : Extent) (c : HomedCall) (cs : List HomedCall) (es : List Extent) (callers : List Activation) → Waits program code c cs es callers → AllAtHome program.objects e es c cs t mr st
        → t.callers ≡ callers → length t.callers < 1024 → ComesBack program code callers t v m w
    back_by e _ _ _ _ (ends_run c none) h eq shallow =
        let over = got_over m (with_stack mr st) w j (returned (with_stack mr st)) (Ended v) gets (last_return_ends_at_home program.objects e [] c [] t mr st v h none is) in
        (j + 1, subst (λ (x : List ℕ). Halts m x (j + 1) (Ended v)) (append-nil w) over)
    back_by e _ _ _ _ (goes_on c d ds g own rest a xs place back small fp ap_so active waits) h eq shallow =
        let r =
        returns_agree_at_home program.objects e own rest c d ds t a xs mr st place v h eq
        (record { caller = d.frame; further = frames_of ds; outer_is = refl; back = back; small = small; fp = fp; ap = ap_so }) is in
        let lead = got_on m (with_stack r.state st) w j (returned (with_stack mr st)) None gets r.does in (
          j + 1,
          r.state,
          st,
          omega arith,
          subst (λ (x : List ℕ). Leads m x (j + 1) (with_stack r.state st)) (append-nil w) lead,
          record {
            e = own;
            es = rest;
            c = d;
            cs = ds;
            g = g;
            is_behind = true;
            at_home = r.at_home;
            items = r.items ∙ same_code;
            active = active_answered g own d a r.state.place v true (subst (λ (p : ℕ). IsActive program code g own d a p true) (sym r.at) active);
            result = λ b. r.result;
            waits = waits;
            shallow = omega (arith, shallow, ap length eq);
          },
        )

pub returns_come_back : ReturnsComeBack
returns_come_back program code m w j e es c cs t mr st gets h same v is waits shallow = back_by program code m w j t mr st gets same v is e c cs es t.callers waits h refl shallow
