-- What it says that a machine's state stands for a state of a tree program.
use Rattle.std.proofs.Common.{◌≡◌, ℕ, ◌+◌, ◌*◌, ◌^◌, ◌<◌, ◌≤◌, List, [], ◌∷◌, ◌++◌, map, Ok, refl, sym, ap, ◌∙◌, arith}
use Rattle.gg_base.specs.Arithmetic.{add32, neg32}
use Rattle.vax_machine_lists.specs.vax_core.specs.declared.register.Reg.TheVariants.{Ap, Fp, Sp}
use Rattle.vax_machine_lists.specs.vax_machine_live.specs.declared.frame.Frame.{Frame}
use Rattle.vax_machine_lists.specs.vax_machine.specs.declared.operands.Location.TheVariants as locations
use Rattle.vax_machine_lists.specs.vax_machine.specs.State.{reg}
use Rattle.vax_machine_lists.specs.vax_machine.specs.Operands.{located}
use Rattle.tree_meaning.specs.State.{Activation, Extent}
use Rattle.vax_states.specs.Stack.{long_at, word_of, argument_of, Hold, nobody, caller}
use Rattle.vax_states.specs.Sentences.{FramesStand, Live, AreStacked, frames_of, CallsStandApart, HomesAreNamed, ArgumentsAreNamed, LocalsAreRead, ArgumentsAreRead, AreasAreRead}
use Rattle.vax_states.specs.Sentences.{FreeWordsAreFree, LocalsAreWritten, ArgumentsAreWritten, AreasAreWritten, LongwordsArePushed, RegistersAreFree}
use Rattle.vax_states.proofs.Keeping.{reg_small}
use Rattle.vax_states.proofs.Standing.{high_top, fp_high_is, local_read, argument_read, area_read_so, word_written, local_written, argument_written, area_written_so, push_written, register_kept}

pub frames_stand : FramesStand
frames_stand objects e es t m h =
    let up = fp_high_is objects e es t m h in
    let end = high_top objects e es t m h in
    record {
      bottom = h.bottom;
      words = h.running.words ∙ sym h.fp;
      top = omega (arith, h.fp, up, end);
      pushed = h.running.pushed;
      count = ap (λ (a : ℕ). long_at m.stack a) h.ap ∙ h.running.count;
    }

-- ---- the live calls one by one

record Listed (stack : List ℕ) (frames : List Frame) (es : List Extent) (xs : List Activation) (low : ℕ) : Type 0 where
  calls : List Live
  frames_are : frames_of calls ≡ frames
  running : map (λ (c : Live). c.call) calls ≡ xs
  extents : map (λ (c : Live). c.extent) calls ≡ es
  stacked : AreStacked stack low calls

listed : (stack : List ℕ) (frames : List Frame) (es : List Extent) (xs : List Activation) (low : ℕ) → Hold stack frames es xs low → Listed stack frames es xs low
listed stack frames es xs low nobody = record { calls = []; frames_are = refl; running = refl; extents = refl; stacked = refl }
listed stack frames es xs low (caller outer all f e rest_e a rest low' high eq here outside) =
    let others = listed stack outer rest_e rest high outside in
    record {
      calls = record { frame = f; extent = e; call = a; low = low; high = high } ∷ others.calls;
      frames_are = ap (λ (fs : List Frame). fs ++ f ∷ []) others.frames_are ∙ sym eq;
      running = ap (λ (l : List Activation). a ∷ l) others.running;
      extents = ap (λ (l : List Extent). e ∷ l) others.extents;
      stacked = (refl, here, others.stacked);
    }

pub calls_stand_apart : CallsStandApart
calls_stand_apart objects e es t m h =
    let l = listed m.stack m.frames (e ∷ es) (t.running ∷ t.callers) (reg m Sp) (caller h.outer m.frames h.innermost e es t.running t.callers (reg m Sp) h.high h.frames h.running h.callers) in
    record { calls = l.calls; frames = l.frames_are; running = l.running; extents = l.extents; stacked = l.stacked }

-- ---- operands

-- a word's operand names its address
pub word_address : (fp k : ℕ) → 4 * (k + 1) ≤ fp → fp < 2 ^ 32 → add32 (neg32 (4 * (k + 1))) fp ≡ word_of fp k
word_address fp k low high = omega (arith, low, high)

pub homes_are_named : HomesAreNamed
unfolding located
homes_are_named objects e es t m h k lt =
    ap (λ (a : ℕ). Ok (locations.Memory a, m)) (word_address (reg m Fp) k (omega (arith, h.fp, h.bottom, h.running.words, lt)) (reg_small m Fp h.sound))

pub arguments_are_named : ArgumentsAreNamed
unfolding located
arguments_are_named objects e es t m h i lt =
    let end = high_top objects e es t m h in
    let address : add32 (4 * (i + 1)) (reg m Ap) ≡ argument_of (reg m Ap) (i + 1) = omega (arith, h.ap, h.running.end, end, lt) in
    ap (λ (a : ℕ). Ok (locations.Memory a, m)) address

-- ---- what is read and written

pub locals_are_read : LocalsAreRead
locals_are_read objects e es t m h = local_read objects e es t m h

pub arguments_are_read : ArgumentsAreRead
arguments_are_read objects e es t m h = argument_read objects e es t m h

pub areas_are_read : AreasAreRead
areas_are_read objects e es t m h = area_read_so objects e es t m h

pub free_words_are_free : FreeWordsAreFree
free_words_are_free objects e es t m h k v free lt = let w = word_written objects e es t m h k v free lt in record { state = _; does = w.0; agrees = w.1 }

pub locals_are_written : LocalsAreWritten
locals_are_written objects e es t m h k v lt fits = let w = local_written objects e es t m h k v lt fits in record { state = _; does = w.0; agrees = w.1 }

pub arguments_are_written : ArgumentsAreWritten
arguments_are_written objects e es t m h k v lt fits = let w = argument_written objects e es t m h k v lt fits in record { state = _; does = w.0; agrees = w.1 }

pub areas_are_written : AreasAreWritten
areas_are_written objects e es t m h size a v area is = let w = area_written_so objects e es t m h size a v area is in record { state = _; does = w.0; agrees = w.1 }

pub longwords_are_pushed : LongwordsArePushed
longwords_are_pushed objects e es t m h v room fits = let w = push_written objects e es t m h v room fits in record { state = _; does = w.0; agrees = w.1 }

pub registers_are_free : RegistersAreFree
registers_are_free objects e es t m h r v lt fits = register_kept objects e es t m h r v lt fits
