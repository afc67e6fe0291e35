-- The law of stored numbers.
use Rattle.std.proofs.Common.{◌≡◌, ℕ, ◌+◌, ◌*◌, ◌<◌, Option, refl, ap, ◌∙◌, arith}
use Rattle.std.specs.Prelude.{is_some}
use Rattle.gg_base.specs.declared.size.Size.{Size}
use Rattle.gg_base.specs.Arithmetic.{add32, neg32}
use Rattle.vax_core.specs.declared.register.Reg.TheVariants.{Fp}
use Rattle.vax_core.specs.Homes.{home}
use Rattle.vax_machine.specs.State.{State, reg}
use Rattle.vax_machine.specs.Memory.{read}
use Rattle.vax_target_spelling.specs.vax_states.specs.Stack.{word_of}
use Rattle.vax_target_spelling.specs.vax_target_meaning.specs.Reading.{number_of, number_at, reads}
use Rattle.vax_target_spelling.proofs.Own.{home_word}
use Rattle.vax_target_saving.specs.Laws.{with_word, FreeWordsStore}
use Rattle.vax_target_saving.proofs.Words.{IsFrameWord, frame_word, is_written, read_there, names_kept, reads_kept, agrees_kept, room_kept}

-- where a slot lies
pub slot_address : (m : State) (w : ℕ) (f : IsFrameWord m w) → add32 (neg32 (4 * (w + 1))) (reg m Fp) ≡ word_of (reg m Fp) w
slot_address m w f = omega (arith, f.far, f.end)

pub slot_reads : (m : State) (w : ℕ) (size : Size) → w < 1024 → add32 (neg32 (4 * (w + 1))) (reg m Fp) ≡ word_of (reg m Fp) w →
    reads (home w) size m ≡ number_of (read m (word_of (reg m Fp) w) size)
slot_reads m w size lt e =
    ap (λ b. number_at b m (add32 (neg32 (4 * (w + 1))) (reg m Fp)) size) (ap (λ (o : Option ℕ). is_some o) (home_word w lt))
    ∙ ap (λ a. number_of (read m a size)) e

pub free_words_store : FreeWordsStore
free_words_store q f fs t m w size x k h free small =
    let g = frame_word q.objects f fs t m h w free.1 in
    record {
      stores = is_written m w g size x;
      reads = λ lt. slot_reads (with_word m w size x k) w size lt (slot_address m w g) ∙ ap number_of (read_there m w g size x k small);
      keeps = record {
        reads = λ o y n apart e. reads_kept m w g size x k o y apart.0 ∙ e;
        names = λ o y n apart e. names_kept m w g size x k o y apart.0 ∙ e;
        agrees = λ q' f' fs' t' free' h'. agrees_kept q'.objects f' fs' t' m h' w size x k free'.0.0 free'.0.1;
        room = λ r. room_kept m w size x k r;
        live = refl;
      };
    }
