-- `enter` of a function's frame, and the first state that stands for a called function's.
use Rattle.std.proofs.Common.{◌≡◌, ℕ, ◌+◌, ◌-◌, ◌*◌, ◌%◌, ◌^◌, ◌<◌, ◌≤◌, Bool, cond, List, [], ◌∷◌, ◌++◌, length, Option, Some, None, Ok, Err, refl, ap, ◌∙◌, arith}
use Rattle.std.specs.Prelude.{slice_get}
use Rattle.std.proofs.lemmas.Option.{none-some}
use Rattle.std.proofs.lemmas.Bool.{le-ltb}
use Rattle.gg_base.specs.Arithmetic.{sub32, mul32}
use Rattle.tree_core.specs.declared.program.Object.{Object}
use Rattle.tree_core.specs.declared.program.TreeFn.{TreeFn}
use Rattle.l32_core.specs.declared.code.Item32.{Item32}
use Rattle.l32_core.specs.declared.code.Item32.TheVariants as item_kind
use Rattle.l32_machine.specs.declared.turn.Stop32.{Stop32}
use Rattle.l32_machine.specs.declared.frame.Frame32.{Frame32}
use Rattle.l32_machine.specs.State.{State, stack_full}
use Rattle.l32_machine.specs.Memory.{sp_set}
use Rattle.l32_machine.specs.Operands.{fetched, evaluated}
use Rattle.l32_machine.specs.Labels.{next_item}
use Rattle.l32_machine.specs.Calls.{silent}
use Rattle.l32_machine.specs.Step.{Goes, next_of, next_where, at_item, instruction, act, step_of}
use Rattle.l32_states.specs.tree_meaning.specs.State.{State as Trees, Activation, Extent, begun}
use Rattle.l32_states.specs.vax_machine_lists.specs.Sound.{AllBelow}
use Rattle.l32_states.specs.call_pieces.specs.Piece.{long_at}
use Rattle.l32_states.specs.l32_target_meaning.specs.Stack.{Holds, Hold}
use Rattle.l32_states.specs.l32_target_meaning.specs.Agreeing.{IsSound, AreLabelled, Agrees}
use Rattle.l32_states.proofs.Pieces.{argument_at}
use Rattle.l32_frames.specs.Frames.{enter}

-- ---- `enter`

module _ (m : State) (code : List Item32) (words entry : ℕ) (same : m.items ≡ code) (at : next_item code m.place ≡ entry)
    (there : slice_get code entry ≡ Some (item_kind.Instr (enter words))) (few : words ≤ 1024) (room : 2139095040 + 4 * words ≤ m.sp) (top : m.sp ≤ 2147483648) where
  -- behind it
  abbrev pub inside : State
  inside = record m { place = entry + 1; sp = m.sp - 4 * words }

  at_entry : next_item m.items m.place ≡ entry
  at_entry = ap (λ (x : List Item32). next_item x m.place) same ∙ at

  found_there : slice_get m.items entry ≡ Some (item_kind.Instr (enter words))
  found_there = ap (λ (x : List Item32). slice_get x entry) same ∙ there

  lowered : sub32 m.sp (mul32 4 words) ≡ m.sp - 4 * words
  lowered =
      let k : mul32 4 words ≡ 4 * words = omega (arith, few) in
      let v : sub32 m.sp (4 * words) ≡ m.sp - 4 * words = omega (arith, room, top) in
      ap (sub32 m.sp) k ∙ v

  abbrev behind : State
  behind = record m { place = entry + 1 }

  entering : act m ≡ Ok (None, inside)
  unfolding act instruction evaluated fetched sp_set
  entering =
      ap (λ (p : ℕ). at_item (slice_get m.items p) p m) at_entry
      ∙ ap (λ (o : Option Item32). at_item o entry m) found_there
      ∙ ap (λ (v : ℕ). silent (sp_set behind v)) lowered
      ∙ ap (λ (b : Bool). silent (cond b (Err stack_full) (Ok inside))) (le-ltb (m.sp - 4 * words) 2139095040 (omega (arith, room)))

  pub enters : m.over ≡ None → step_of m ≡ Goes inside
  enters going = ap (λ (o : Option Stop32). next_where o m) going ∙ ap next_of entering

-- ---- a function's first state

-- a frame that a call has made, whose arguments stand from fp on
module _ (objects : List Object) (g : TreeFn) (words : ℕ) (enough : g.locals ≤ words) (args : List ℕ) (few : length args < 256) (es : List Extent)
    (callers : List Activation) (area input : List ℕ) where
  abbrev pub extent : Extent
  extent = record { locals = g.locals; words = words }

  abbrev pub first : Trees
  first = record { running = begun g args; callers = callers; area = area; input = input }

  module _ (n : State) (f : Frame32) (outer : List Frame32) (sound : IsSound n) (labelled : AreLabelled objects n) (area_is : n.area ≡ area) (input_is : n.input ≡ input)
      (frames : n.frames ≡ outer ++ f ∷ [])
      (low : 2139095040 ≤ n.sp) (space : n.sp + 4 * words ≡ n.fp) (aligned : n.fp % 4 ≡ 0) (pops : f.sp ≡ n.fp + 4 * length args)
      (registers : length f.general ≡ 12) (longwords : AllBelow (2 ^ 32) f.general)
      (stand : (i v : ℕ) → slice_get args i ≡ Some v → long_at n.stack (n.fp + 4 * i) ≡ v) (outside : Hold n.stack f.fp outer es callers (n.fp + 4 * length args)) where
    holds : Holds n.stack n.fp f extent (begun g args) n.sp (n.fp + 4 * length args)
    holds = record {
      words = omega (arith, space);
      end = refl;
      aligned = aligned;
      locals = enough;
      pops = pops;
      few = omega (arith, few);
      registers = registers;
      longwords = longwords;
      argument = λ i v is. ap (long_at n.stack) (argument_at n.fp i) ∙ stand i v is;
      is_local = λ k v is. absurd (none-some v is);
      local = λ k v is. absurd (none-some v is);
      pushed = λ i v is. absurd (none-some v is);
    }

    pub agrees_first : Agrees objects extent es first n
    agrees_first = record {
      sound = sound;
      labelled = labelled;
      area = area_is;
      input = input_is;
      innermost = f;
      outer = outer;
      high = n.fp + 4 * length args;
      frames = frames;
      running = holds;
      callers = outside;
      bottom = low;
    }
