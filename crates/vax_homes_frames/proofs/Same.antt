-- What doesn't matter for calls that are at home.
use Rattle.std.proofs.Common.{◌≡◌, ℕ, ◌^◌, ◌<◌, ◌≤◌, Bool, true, List, length, Option, None, refl, sym, ap, subst, ◌∙◌, arith, length-set, get_or-set_other, get_or-set_same}
use Rattle.std.specs.Prelude.{◌||◌, slice_index, slice_set}
use Rattle.gg_base.specs.declared.size.Size.TheVariants.{Long}
use Rattle.gg_base.specs.LittleEndian.{number_in}
use Rattle.vax_states.specs.tree_core.specs.declared.program.Object.{Object}
use Rattle.vax_states.specs.tree_core.specs.declared.program.TreeItem.{TreeItem}
use Rattle.vax_states.specs.tree_meaning.specs.State.{Activation, Extent}
use Rattle.vax_states.specs.tree_meaning.specs.State.{State as Trees}
use Rattle.vax_states.specs.vax_machine_lists.specs.vax_core.specs.declared.register.Reg.TheVariants.{Ap, Fp, Sp}
use Rattle.vax_states.specs.vax_machine_lists.specs.vax_core.specs.declared.code.CodeItem.{CodeItem}
use Rattle.vax_states.specs.vax_machine_live.specs.declared.frame.Frame.{Frame}
use Rattle.vax_states.specs.vax_machine.specs.declared.turn.Stop.{Stop}
use Rattle.vax_states.specs.vax_machine.specs.declared.function.Conditions.{Conditions}
use Rattle.vax_states.specs.vax_machine.specs.State.{State, reg}
use Rattle.vax_states.specs.vax_machine.specs.Operands.{located, evaluated, taken, stored}
use Rattle.vax_states.specs.vax_machine.specs.Memory.{register_set}
use Rattle.vax_states.specs.vax_machine_lists.specs.Sound.{AllBelow, IsSound}
use Rattle.vax_states.specs.vax_machine_lists.specs.Instructions.{ends, Returns, performed, exec}
use Rattle.vax_states.specs.vax_machine_lists.proofs.Longwords.{below_set}
use Rattle.vax_states.specs.Stack.{Holds}
use Rattle.vax_states.specs.Agreeing.{Agrees}
use Rattle.vax_states.proofs.Standing.{kept}
use Rattle.vax_frames_law.proofs.Functions.{sound_at}
use Rattle.vax_frames_law.proofs.FrameCode.{ended}
use Rattle.vax_frames_law.specs.vax_frames.specs.Frames.{end_code}
use Rattle.vax_homes_law.specs.vax_homes.specs.declared.choose.Home.{Home}
use Rattle.vax_homes_law.specs.Alike.{word_place, Alike}
use Rattle.vax_homes_law.specs.Laying.{is_home_byte}
use Rattle.vax_homes_law.specs.Calling.{with_stack}
use Rattle.vax_homes_states.specs.Homes.{AtHome}
use Rattle.vax_homes_frames.specs.Live.{PlacesStayHome, ItemsStayHome}
use Rattle.vax_homes_frames.specs.Trees.{EndCodesStayHome}

-- ---- the place, the code and whether the run is over

home_at : (objects : List Object) (e : Extent) (es : List Extent) (hs : List Home) (outer : ℕ → Bool) (t : Trees) (m : State) (st : List ℕ) (place : ℕ) (items : List CodeItem) (over : Option Stop)
    → over ≡ None → AtHome objects e es hs outer t m st → AtHome objects e es hs outer t (record m { place = place; items = items; over = over }) st
home_at objects e es hs outer t m st place items over none h =
    let n : State = record m { place = place; items = items; over = over } in
    let sound : IsSound n = sound_at m place items over none h.agrees.sound in
    record {
      agrees = kept objects e es t m h.agrees n sound refl refl refl refl refl refl refl (λ a from. refl);
      paired = h.paired;
      fits = h.fits;
      alike = record { sound = sound; size = h.alike.size; others = h.alike.others; homes = h.alike.homes; whole = h.alike.whole; same = h.alike.same };
      above = h.above;
    }

pub places_stay_home : PlacesStayHome
places_stay_home objects e es c cs t m st h place items over none = record {
  home = home_at objects e es c.homes _ t m st place items over none h.home;
  frames = h.frames;
  intact = h.intact;
  waiting = h.waiting;
  bytes = h.bytes;
}

-- ---- the items that are still to come

holds_items : (stack : List ℕ) (f : Frame) (e : Extent) (a : Activation) (low high : ℕ) (is : List TreeItem) → Holds stack f e a low high → Holds stack f e (record a { items = is }) low high
holds_items stack f e a low high is h = record {
  words = h.words;
  control = h.control;
  saved = h.saved;
  top = h.top;
  end = h.end;
  aligned = h.aligned;
  locals = h.locals;
  few = h.few;
  mask = h.mask;
  count = h.count;
  argument = h.argument;
  is_local = h.is_local;
  local = h.local;
  pushed = h.pushed;
}

pub items_stay_home : ItemsStayHome
items_stay_home objects e es c cs t m st h is = record {
  home = record {
    agrees = record {
      sound = h.home.agrees.sound;
      labelled = h.home.agrees.labelled;
      area = h.home.agrees.area;
      input = h.home.agrees.input;
      innermost = h.home.agrees.innermost;
      outer = h.home.agrees.outer;
      high = h.home.agrees.high;
      frames = h.home.agrees.frames;
      fp = h.home.agrees.fp;
      ap = h.home.agrees.ap;
      running = holds_items m.stack h.home.agrees.innermost e t.running (reg m Sp) h.home.agrees.high is h.home.agrees.running;
      callers = h.home.agrees.callers;
      bottom = h.home.agrees.bottom;
    };
    paired = h.home.paired;
    fits = h.home.fits;
    alike = h.home.alike;
    above = h.home.above;
  };
  frames = h.frames;
  intact = h.intact;
  waiting = h.waiting;
  bytes = h.bytes;
}

-- ---- registers that are no homes

module _ (objects : List Object) (e : Extent) (es : List Extent) (hs : List Home) (outer : ℕ → Bool) (t : Trees) (m : State) (st : List ℕ) (h : AtHome objects e es hs outer t m st) (rs : List ℕ)
    (codes : Conditions) (size : length rs ≡ 15) (small : AllBelow (2 ^ 32) rs) (same : (r : ℕ) → 6 ≤ r → r < 15 → slice_index rs r ≡ slice_index m.registers r) where
  abbrev new : State
  new = record m { registers = rs; conditions = codes }

  new_sound : IsSound new
  new_sound = record {
    going = h.agrees.sound.going;
    registers = size;
    longwords = small;
    stack = h.agrees.sound.stack;
    stack_bytes = h.agrees.sound.stack_bytes;
    area = h.agrees.sound.area;
    area_bytes = h.agrees.sound.area_bytes;
    input_bytes = h.agrees.sound.input_bytes;
  }

  ap_is : slice_index rs 12 ≡ reg m Ap
  ap_is = same 12 (omega arith) (omega arith)

  fp_is : slice_index rs 13 ≡ reg m Fp
  fp_is = same 13 (omega arith) (omega arith)

  abbrev Hidden : ℕ → ℕ → Type 0
  Hidden fp i = (is_home_byte hs fp i || outer i) ≡ true

  new_alike : Alike hs (Hidden (reg m Fp)) new rs st
  new_alike = record {
    sound = new_sound;
    size = size;
    others = λ r none. refl;
    homes = λ k has. ap (λ (x : ℕ). number_in Long m.stack (word_place x k.local)) fp_is ∙ h.alike.homes k has ∙ sym (same _ (h.paired.low k has) (let lt = h.paired.high k has in omega (arith, lt)));
    whole = h.alike.whole;
    same = h.alike.same;
  }

  pub low_registers_free : AtHome objects e es hs outer t new st
  low_registers_free = record {
    agrees = kept objects e es t m h.agrees new new_sound refl refl refl refl fp_is ap_is (same 14 (omega arith) (omega arith)) (λ a from. refl);
    paired = h.paired;
    fits = h.fits;
    alike = subst (λ (x : ℕ). Alike hs (Hidden x) new rs st) (sym fp_is) new_alike;
    above = λ i o. let le = h.above i o in omega (arith, le, ap_is);
  }

-- ---- the end of a function's code

end_is : (objects : List Object) (e : Extent) (es : List Extent) (t : Trees) (m : State) (st : List ℕ) (h : Agrees objects e es t m)
    → exec end_code (with_stack m st) ≡ ends (Returns (with_stack (ended objects e es t m h) st))
unfolding performed evaluated located taken stored register_set
end_is objects e es t m st h = refl

pub end_codes_stay_home : EndCodesStayHome
end_codes_stay_home objects e es c cs t m st h =
    let rs = slice_set m.registers 0 0 in
    let n = ended objects e es t m h.home.agrees in
    record {
      state = n;
      does = end_is objects e es t m st h.home.agrees;
      stays = record {
        frames = refl;
        at_home = record {
          home = low_registers_free objects e es c.homes _ t m st h.home rs n.conditions (length-set m.registers 0 0 ∙ h.home.agrees.sound.registers)
              (below_set (2 ^ 32) 0 0 m.registers (omega arith) h.home.agrees.sound.longwords) (λ r low high. get_or-set_other m.registers 0 r 0 0 (λ q. omega (arith, q, low)));
          frames = h.frames;
          intact = λ r low high out. get_or-set_other m.registers 0 r 0 0 (λ q. omega (arith, q, low)) ∙ h.intact r low high out;
          waiting = h.waiting;
          bytes = h.bytes;
        };
      };
      result = get_or-set_same m.registers 0 0 0 (omega (arith, h.home.agrees.sound.registers));
    }
