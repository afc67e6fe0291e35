-- The state behind the call of `_main` and behind its frame's instructions.
use Rattle.std.proofs.Common.{◌≡◌, ℕ, ◌≤◌, List, [], length, Option, Some, None, refl, sym, ap, subst, arith}
use Rattle.std.specs.Prelude.{slice_get}
use Rattle.std.proofs.lemmas.Option.{none-some}
use Rattle.vax_core.specs.declared.code.Code.{Code}
use Rattle.vax_machine.specs.Loading.{blank}
use Rattle.vax_machine.proofs.LayoutLaws.{length-zeros}
use Rattle.tree_core.specs.declared.program.TreeFn.{TreeFn}
use Rattle.tree_core.specs.declared.program.TreeProgram.{TreeProgram}
use Rattle.tree_core.specs.Area.{opening}
use Rattle.tree_meaning.specs.State.{Extent}
use Rattle.vax_states.specs.Stack.{nobody}
use Rattle.vax_machine_lists.specs.Sound.{AllBelow, IsSound}
use Rattle.vax_machine_lists.proofs.Beginning.{zeros_below}
use Rattle.vax_frames_law.specs.Laws as frames
use Rattle.vax_frames_law.proofs.Entering.{CanCall}
use Rattle.vax_frames_law.proofs.Functions.{begins_with}
use Rattle.vax_target_meaning.specs.Vax.{vax}
use Rattle.gg_compile_law.specs.vax_homes_frames.specs.Live.{HomedCall}
use Rattle.gg_compile_law.specs.Programs.{IsEmitted, ends_run, IsCompiled}
use Rattle.gg_compile_law.specs.Written.{IsWritten}
use Rattle.gg_compile_law.proofs.Assembling.{assembled_is_compiled}
use Rattle.gg_compile_law.proofs.Law.{written_codes_load}
use Rattle.gg_compile_law.proofs.Going.{roomy}
use Rattle.gg_compile_law.proofs.Spelling.{areas_are_blocks}
use Rattle.gg_compile_law.proofs.Starting.{found}
use Rattle.gg_compile_codes.specs.Begins.{beginning, HasBegin}
use Rattle.gg_compile_codes.specs.Beginning.{WrittenProgramsBegin}

module _ (q : TreeProgram) (c : Code) (can_write : vax.can_write q) (written : IsWritten q c) (input : List ℕ) (bytes : AllBelow 256 input) where
  compiled : IsCompiled q c
  compiled =
      let loads = written_codes_load q c written in
      assembled_is_compiled q c
      (record {
        valid = written.valid;
        loads = loads;
        functions = written.functions;
        blocks = areas_are_blocks q c written.valid loads written.numbers written.area;
      })

  module _ (h : IsCompiled q c) where
    blank_sound : IsSound (blank c input)
    blank_sound = record {
      going = refl;
      registers = refl;
      longwords = (
        omega arith,
        (
          omega arith,
          (
            omega arith,
            (omega arith, (omega arith, (omega arith, (omega arith, (omega arith, (omega arith, (omega arith, (omega arith, (omega arith, (omega arith, (omega arith, (omega arith, tt)))))))))))),
          ),
        ),
      );
      stack = length-zeros 8388608;
      stack_bytes = zeros_below 8388608;
      area = omega (arith, ap length h.area, h.size);
      area_bytes = subst (λ (l : List ℕ). AllBelow 256 l) (sym h.area) h.bytes;
      input_bytes = bytes;
    }

    can : CanCall (blank c input)
    can = record { sound = blank_sound; space = omega arith; top = omega arith; aligned = refl; live = omega arith; free = λ a k le. refl }

    abbrev em : IsEmitted q c.items h.main
    em = let main = found q.functions h.main h.main_is in h.emitted main.0 h.main main.1

    abbrev frame : Extent
    frame = record { locals = h.main.locals; words = em.frame.words }

    -- the call of `_main`, and its frame's instructions
    called : frames.Begins q.objects c.items h.main em.frame [] (beginning q h.main input) (blank c input) 0 None
    called =
        begins_with q.objects c.items h.main em.frame (blank c input) can (omega arith) refl 0 None (omega arith) [] [] [] (opening q.objects) input refl
        (λ i v is. absurd (none-some v is)) h.labelled h.area refl nobody

    has_room : frames.IsRoomy called.state
    has_room =
        let first : HomedCall = record { frame = called.frame; homes = [] } in
        roomy q c.items frame [] first [] (beginning q h.main input) called.state called.agrees em.frame.few (omega arith) (ends_run first called.is_made.back_is) (omega arith)

    begun_with : HasBegin vax q input
    begun_with = record {
      main = h.main;
      main_is = h.main_is;
      frame = frame;
      machine = called.state;
      begins = record {
        program = written.valid;
        spelled = can_write;
        few = em.frame.few;
        own = omega arith;
        within = em.frame.enough;
        written = λ k n is. absurd (none-some n is);
        agrees = called.agrees;
        room = has_room.room;
      };
    }

pub written_programs_begin : WrittenProgramsBegin
written_programs_begin q c input can_write written bytes = begun_with q c can_write written input bytes (compiled q c can_write written input bytes)
