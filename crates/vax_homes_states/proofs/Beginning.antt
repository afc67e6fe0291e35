-- Registers that hold the written locals make homes.
use Rattle.std.proofs.Common.{◌≡◌, ◌⊎◌, inl, inr, ⊎_elim, ℕ, ◌+◌, ◌-◌, ◌*◌, ◌^◌, ◌<◌, ◌≤◌, Bool, true, cond, List, [], ◌∷◌, length, Option, Some, None, refl, sym, ap, subst, ◌∙◌}
use Rattle.std.proofs.Common.{arith}
use Rattle.std.specs.Prelude.{◌&&◌, nat_le, nat_lt, slice_index}
use Rattle.std.proofs.lemmas.Bool.{cases_eq, cases_lt, ne_eqb, le-leb, lt-ltb}
use Rattle.gg_base.specs.declared.size.Size.TheVariants.{Long}
use Rattle.gg_base.specs.LittleEndian.{number_in, with_number}
use Rattle.vax_states.specs.tree_core.specs.declared.program.Object.{Object}
use Rattle.vax_states.specs.tree_meaning.specs.State.{Activation, Extent, with_local}
use Rattle.vax_states.specs.tree_meaning.specs.State.{State as Trees}
use Rattle.vax_states.specs.tree_meaning.specs.Steps.{with_local_set}
use Rattle.vax_states.specs.vax_machine_lists.specs.vax_core.specs.declared.register.Reg.TheVariants.{Fp, Sp}
use Rattle.vax_states.specs.vax_machine_lists.specs.vax_core.specs.Registers.{reg_number}
use Rattle.vax_states.specs.vax_machine_live.specs.declared.frame.Frame.{Frame}
use Rattle.vax_states.specs.vax_machine.specs.State.{State, reg}
use Rattle.vax_states.specs.vax_machine_lists.proofs.Longwords.{below_get, length-with, number-with}
use Rattle.vax_states.specs.Agreeing.{Agrees}
use Rattle.vax_states.specs.Stack.{Holds}
use Rattle.vax_states.proofs.Pieces.{hold_end}
use Rattle.vax_states.proofs.Standing.{local_written}
use Rattle.vax_homes_law.specs.vax_homes.specs.declared.choose.Home.{Home}
use Rattle.vax_homes_law.specs.Alike.{Has, IsPaired, word_place}
use Rattle.vax_homes_law.specs.Laying.{is_home_byte}
use Rattle.vax_homes_law.proofs.Bytes.{with_outside, number_stays}
use Rattle.vax_homes_law.proofs.Laying.{or_left, or_right, both_true}
use Rattle.vax_homes_states.specs.Beginning.{RegistersMakeHomes}

-- ---- a local that isn't written

still_set : (f : ℕ → Option ℕ) (k v j w : ℕ) → f k ≡ None → f j ≡ Some w → with_local f k v j ≡ Some w
still_set f k v j w none e = ⊎_elim (λ same. absurd (none_some (sym none ∙ ap f (sym same) ∙ e))) (λ ne. ap (λ (b : Bool). cond b (Some v) (f j)) (ne_eqb j k ne) ∙ e) (cases_eq j k)
  where
    none_some : None ≡ Some w → ⊥
    none_some q = cc

holds_unset : (stack : List ℕ) (f : Frame) (e : Extent) (a : Activation) (low high k v : ℕ) → a.locals k ≡ None → Holds stack f e (record a { locals = with_local a.locals k v }) low high
    → Holds stack f e a low high
holds_unset stack f e a low high k v none h = record {
  words = h.words;
  control = h.control;
  saved = h.saved;
  top = h.top;
  end = h.end;
  aligned = h.aligned;
  locals = h.locals;
  few = h.few;
  mask = h.mask;
  count = h.count;
  argument = h.argument;
  is_local = λ j w is. h.is_local j w (still_set a.locals k v j w none is);
  local = λ j w is. h.local j w (still_set a.locals k v j w none is);
  pushed = h.pushed;
}

module _ (objects : List Object) (e : Extent) (es : List Extent) (t : Trees) where
  unset : (m : State) (k v : ℕ) → t.running.locals k ≡ None → Agrees objects e es (with_local_set t k v) m → Agrees objects e es t m
  unset m k v none h = record {
    sound = h.sound;
    labelled = h.labelled;
    area = h.area;
    input = h.input;
    innermost = h.innermost;
    outer = h.outer;
    high = h.high;
    frames = h.frames;
    fp = h.fp;
    ap = h.ap;
    running = holds_unset m.stack h.innermost e t.running (reg m Sp) h.high k v none h.running;
    callers = h.callers;
    bottom = h.bottom;
  }

  module _ (n : State) where
    -- the words of homes hold what their registers hold
    pub record Filled (gs : List Home) : Type 0 where
      pub stack : List ℕ
      pub agrees : Agrees objects e es t (record n { stack = stack })
      pub words : (g : Home) → Has gs g → number_in Long stack (word_place (reg n Fp) g.local) ≡ slice_index n.registers (reg_number g.register)
      pub same : (i : ℕ) → (is_home_byte gs (reg n Fp) i ≡ true → ⊥) → slice_index stack i ≡ slice_index n.stack i

    -- where a home's word lies
    place_low : (h : Agrees objects e es t n) (g : Home) → g.local < e.locals → (2139095040 + 4 * (g.local + 1) ≤ reg n Fp) × (reg n Fp ≤ 2147483648)
    place_low h g lt =
        let r = h.running in
        let end = hold_end n.stack h.outer es t.callers h.high h.callers in
        (omega (arith, r.words, r.locals, h.fp, h.bottom, lt), omega (arith, r.control, r.top, r.end, h.fp, end))

    -- a home whose local isn't written: its word is filled
    one_filled : (h : Home) (gs : List Home) → Agrees objects e es t n → IsPaired (h ∷ gs) → h.local < e.locals → ((g : Home) → Has gs g → g.local < e.locals) → t.running.locals h.local ≡ None
        → Filled gs → Filled (h ∷ gs)
    one_filled h gs first p lt fits unwritten f =
        let k : State = record n { stack = f.stack } in
        let v = slice_index n.registers (reg_number h.register) in
        let small : v < 2 ^ 32 = below_get (2 ^ 32) (reg_number h.register) n.registers (omega arith) first.sound.longwords in
        let at = word_place (reg n Fp) h.local in
        let size : length f.stack ≡ 8388608 = f.agrees.sound.stack in
        let low = place_low first h lt in
        let inside : at + 4 ≤ length f.stack = omega (arith, low.0, low.1, size) in
        let new = with_number Long f.stack at v in
        let written = (local_written objects e es t k f.agrees h.local v lt small).1 in
        let agrees : Agrees objects e es (with_local_set t h.local v) (record n { stack = new }) =
        subst (λ (x : ℕ). Agrees objects e es (with_local_set t h.local v) (record n { stack = with_number Long f.stack (x - 4 * (h.local + 1) - 2139095040) v })) (sym f.agrees.fp) written in
        record {
          stack = new;
          agrees = unset (record n { stack = new }) h.local v unwritten agrees;
          words = λ g has. ⊎_elim
              (λ e. subst (λ (x : Home). number_in Long new (word_place (reg n Fp) x.local) ≡ slice_index n.registers (reg_number x.register)) e (number-with f.stack at v inside small))
              (λ more. ⊎_elim
              (λ same. let one = p.locals h g (inl refl) (inr more) same in
              subst (λ (x : Home). number_in Long new (word_place (reg n Fp) x.local) ≡ slice_index n.registers (reg_number x.register)) one (number-with f.stack at v inside small))
              (λ ne. let there = place_low first g (fits g more) in
              number_stays Long f.stack at v (word_place (reg n Fp) g.local) inside (omega (arith, there.0, there.1, size)) (length-with f.stack at v inside)
              (⊎_elim (λ less. inr (omega (arith, less, there.0, low.0))) (λ ge. inl (omega (arith, ge, ne, there.0, low.0))) (cases_lt g.local h.local)) ∙ f.words g more)
              (cases_eq h.local g.local))
              has;
          same = λ i none. with_outside Long f.stack at v i inside (apart i (λ from to. none
              (or_left _ (is_home_byte gs (reg n Fp) i) (both_true (nat_le at i) (nat_lt i (at + 4)) (le-leb at i from) (lt-ltb i (at + 4) to)))))
              ∙ f.same i (λ more. none (or_right (nat_le at i && nat_lt i (at + 4)) (is_home_byte gs (reg n Fp) i) more));
        }
      where
        apart : (i : ℕ) → (word_place (reg n Fp) h.local ≤ i → i < word_place (reg n Fp) h.local + 4 → ⊥) → (i < word_place (reg n Fp) h.local) ⊎ (word_place (reg n Fp) h.local + 4 ≤ i)
        apart i none = ⊎_elim (λ lt. inl lt) (λ ge. ⊎_elim (λ lt. absurd (none ge lt)) (λ le. inr le) (cases_lt i (word_place (reg n Fp) h.local + 4))) (cases_lt i (word_place (reg n Fp) h.local))

    -- a home whose local is written: its word holds the value
    one_kept : (h : Home) (gs : List Home) (v : ℕ) → t.running.locals h.local ≡ Some v → slice_index n.registers (reg_number h.register) ≡ v → Filled gs → Filled (h ∷ gs)
    one_kept h gs v written held f = record {
      stack = f.stack;
      agrees = f.agrees;
      words = λ g has. ⊎_elim
          (λ e. subst (λ (x : Home). number_in Long f.stack (word_place (reg n Fp) x.local) ≡ slice_index n.registers (reg_number x.register)) e
          (ap (λ (x : ℕ). number_in Long f.stack (x - 4 * (h.local + 1) - 2139095040)) f.agrees.fp ∙ f.agrees.running.local h.local v written ∙ sym held))
          (λ more. f.words g more) has;
      same = λ i none. f.same i (λ more. none (or_right (nat_le (word_place (reg n Fp) h.local) i && nat_lt i (word_place (reg n Fp) h.local + 4)) (is_home_byte gs (reg n Fp) i) more));
    }

    one_more : (h : Home) (gs : List Home) → Agrees objects e es t n → IsPaired (h ∷ gs) → h.local < e.locals → ((g : Home) → Has gs g → g.local < e.locals)
        → ((v : ℕ) → t.running.locals h.local ≡ Some v → slice_index n.registers (reg_number h.register) ≡ v) → (o : Option ℕ) → t.running.locals h.local ≡ o → Filled gs → Filled (h ∷ gs)
    one_more h gs first p lt fits held None is f = one_filled h gs first p lt fits is f
    one_more h gs first p lt fits held (Some v) is f = one_kept h gs v is (held v is) f

    fewer : (h : Home) (gs : List Home) → IsPaired (h ∷ gs) → IsPaired gs
    fewer h gs p = record {
      low = λ g has. p.low g (inr has);
      high = λ g has. p.high g (inr has);
      registers = λ f g a b e. p.registers f g (inr a) (inr b) e;
      locals = λ f g a b e. p.locals f g (inr a) (inr b) e;
    }

    filled : (gs : List Home) → Agrees objects e es t n → IsPaired gs → ((g : Home) → Has gs g → g.local < e.locals)
        → ((g : Home) (v : ℕ) → Has gs g → t.running.locals g.local ≡ Some v → slice_index n.registers (reg_number g.register) ≡ v) → Filled gs
    filled [] first p fits held = record { stack = n.stack; agrees = first; words = λ g has. absurd has; same = λ i none. refl }
    filled (h ∷ gs) first p fits held = one_more h gs first p (fits h (inl refl)) (λ g has. fits g (inr has)) (λ v is. held h v (inl refl) is) (t.running.locals h.local) refl
        (filled gs first (fewer h gs p) (λ g has. fits g (inr has)) (λ g v has is. held g v (inr has) is))

pub registers_make_homes : RegistersMakeHomes
registers_make_homes objects e es hs outer t n st agrees held paired fits s above =
    let f = filled objects e es t n hs agrees paired fits held in
    record {
      stack = f.stack;
      at_home = record {
        agrees = f.agrees;
        paired = paired;
        fits = fits;
        alike = record {
          sound = f.agrees.sound;
          size = agrees.sound.registers;
          others = λ r none. refl;
          homes = f.words;
          whole = s.new_size;
          same = λ i shown. s.same i (λ o. shown (or_right (is_home_byte hs (reg n Fp) i) (outer i) o)) ∙ sym (f.same i (λ home. shown (or_left (is_home_byte hs (reg n Fp) i) (outer i) home)));
        };
        above = above;
      };
    }
