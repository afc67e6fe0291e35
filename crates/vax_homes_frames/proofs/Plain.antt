-- Without homes all is as it was.
use Rattle.std.proofs.Common.{◌≡◌, ⊎_elim, ℕ, true, List, [], ◌∷◌, ◌++◌, refl, sym, ap, subst, ◌∙◌}
use Rattle.std.specs.Prelude.{◌||◌}
use Rattle.std.proofs.lemmas.Bool.{false≢true}
use Rattle.std.proofs.lemmas.List.{same_from_push}
use Rattle.gg_base.proofs.Facts.{nil_cons}
use Rattle.vax_states.specs.tree_core.specs.declared.program.Object.{Object}
use Rattle.vax_states.specs.tree_meaning.specs.State.{Activation, Extent}
use Rattle.vax_states.specs.tree_meaning.specs.State.{State as Trees}
use Rattle.vax_states.specs.vax_machine_lists.specs.vax_core.specs.declared.register.Reg.TheVariants.{Fp}
use Rattle.vax_states.specs.vax_machine_live.specs.declared.frame.Frame.{Frame}
use Rattle.vax_states.specs.vax_machine.specs.State.{State, reg}
use Rattle.vax_states.specs.Stack.{Hold, nobody, caller}
use Rattle.vax_states.specs.Agreeing.{Agrees}
use Rattle.vax_homes_law.specs.vax_homes.specs.declared.choose.Home.{Home}
use Rattle.vax_homes_law.specs.Alike.{Has, IsPaired}
use Rattle.vax_homes_law.specs.Laying.{is_home_byte}
use Rattle.vax_homes_law.specs.Calling.{with_stack}
use Rattle.vax_homes_frames.specs.Live.{HomedCall, frames_of, is_waiting_byte, AreWaiting, AllAtHome}
use Rattle.vax_homes_frames.specs.Plain.{HaveNone, AreIntactFrames, AgreesIntact, HomelessAgree}
use Rattle.vax_homes_frames.proofs.Splicing.{lists_same}
use Rattle.vax_homes_frames.proofs.Lying.{or_true}

no_home_byte : (hs : List Home) (fp i : ℕ) → hs ≡ [] → is_home_byte hs fp i ≡ true → ⊥
no_home_byte hs fp i none e = false≢true (ap (λ (x : List Home). is_home_byte x fp i) (sym none) ∙ e)

no_waiting_byte : (cs : List HomedCall) (i : ℕ) → HaveNone cs → is_waiting_byte cs i ≡ true → ⊥
no_waiting_byte [] i none e = false≢true e
no_waiting_byte (c ∷ cs) i none e =
    ⊎_elim (no_home_byte c.homes c.frame.fp i none.0) (no_waiting_byte cs i none.1) (or_true (is_home_byte c.homes c.frame.fp i) (is_waiting_byte cs i) e)

none_there : (hs : List Home) (h : Home) → hs ≡ [] → Has hs h → ⊥
none_there hs h none has = subst (λ (x : List Home). Has x h) none has

no_pairs : (hs : List Home) → hs ≡ [] → IsPaired hs
no_pairs hs none = record {
  low = λ h has. absurd (none_there hs h none has);
  high = λ h has. absurd (none_there hs h none has);
  registers = λ g h has more e. absurd (none_there hs g none has);
  locals = λ g h has more e. absurd (none_there hs g none has);
}

-- ---- from a machine at home

intact_frames : (cs : List HomedCall) (inside : Frame) (es : List Extent) (xs : List Activation) → AreWaiting inside cs es xs → AreIntactFrames inside cs
intact_frames [] inside es xs w = tt
intact_frames (c ∷ cs) inside [] xs w = absurd w
intact_frames (c ∷ cs) inside (e ∷ es) [] w = absurd w
intact_frames (c ∷ cs) inside (e ∷ es) (a ∷ xs) w = (w.0.intact, intact_frames cs c.frame es xs w.1)

-- ---- to a machine at home

no_push : (fs : List Frame) (f : Frame) → [] ≡ fs ++ f ∷ [] → ⊥
no_push [] f e = nil_cons f [] e
no_push (g ∷ fs) f e = nil_cons g (fs ++ f ∷ []) e

all_wait : (stack : List ℕ) (cs : List HomedCall) (inside : Frame) (frames : List Frame) (es : List Extent) (xs : List Activation) (low : ℕ) → Hold stack frames es xs low → frames ≡ frames_of cs
    → HaveNone cs → AreIntactFrames inside cs → AreWaiting inside cs es xs
all_wait stack [] inside frames es xs low h eq none k = tt
all_wait stack (c ∷ cs) inside frames es xs low nobody eq none k = absurd (no_push (frames_of cs) c.frame eq)
all_wait stack (c ∷ cs) inside frames es xs low (caller outer all f e rest_e a rest low' high p here outside) eq none k =
    let same = same_from_push outer (frames_of cs) f c.frame (sym p ∙ eq) in (
      record {
        paired = no_pairs c.homes none.0;
        fits = λ h has. absurd (none_there c.homes h none.0 has);
        saved = λ h v has is. absurd (none_there c.homes h none.0 has);
        intact = k.0;
      },
      all_wait stack cs c.frame outer rest_e rest high outside same.0 none.1 k.1,
    )

module _ (objects : List Object) (e : Extent) (es : List Extent) (c : HomedCall) (cs : List HomedCall) (t : Trees) (m : State) (none : HaveNone (c ∷ cs)) where
  nothing_hidden : (i : ℕ) → (is_home_byte c.homes (reg m Fp) i || is_waiting_byte cs i) ≡ true → ⊥
  nothing_hidden i is =
      ⊎_elim (no_home_byte c.homes (reg m Fp) i none.0) (no_waiting_byte cs i none.1) (or_true (is_home_byte c.homes (reg m Fp) i) (is_waiting_byte cs i) is)

  from : (st : List ℕ) → AllAtHome objects e es c cs t m st → AgreesIntact objects e es c cs t (with_stack m st)
  from st h =
      let same : m.stack ≡ st = sym (lists_same st m.stack (h.home.alike.whole ∙ sym h.home.agrees.sound.stack) (λ i. h.home.alike.same i (nothing_hidden i))) in
      record {
        agrees = subst (λ (x : List ℕ). Agrees objects e es t (with_stack m x)) same h.home.agrees;
        frames = h.frames;
        intact = h.intact;
        others = intact_frames cs c.frame es t.callers h.waiting;
      }

  to : AgreesIntact objects e es c cs t m → AllAtHome objects e es c cs t m m.stack
  to k =
      let a = k.agrees in
      let outer_is = (same_from_push a.outer (frames_of cs) a.innermost c.frame (sym a.frames ∙ k.frames)).0 in
      record {
        home = record {
          agrees = a;
          paired = no_pairs c.homes none.0;
          fits = λ h has. absurd (none_there c.homes h none.0 has);
          alike = record {
            sound = a.sound;
            size = a.sound.registers;
            others = λ r out. refl;
            homes = λ h has. absurd (none_there c.homes h none.0 has);
            whole = a.sound.stack;
            same = λ i shown. refl;
          };
          above = λ i o. absurd (no_waiting_byte cs i none.1 o);
        };
        frames = k.frames;
        intact = k.intact;
        waiting = all_wait m.stack cs c.frame a.outer es t.callers a.high a.callers outer_is none.1 k.others;
        bytes = a.sound.stack_bytes;
      }

pub homeless_agree : HomelessAgree
homeless_agree objects e es c cs t m none = record { from = from objects e es c cs t m none; to = to objects e es c cs t m none }
