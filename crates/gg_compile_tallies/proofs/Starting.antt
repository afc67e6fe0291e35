-- The run of a program's code begins where the run of its trees begins, and counts no more.
use Rattle.std.proofs.Common.{◌≡◌, ℕ, ◌+◌, false, List, [], length, Option, Some, None, refl, sym, ap, subst, ◌∙◌, arith}
use Rattle.std.specs.Prelude.{slice_get, codes}
use Rattle.std.proofs.lemmas.Bool.{false≢true}
use Rattle.vax_core.specs.declared.code.Code.{Code}
use Rattle.vax_core.specs.First.{main_name}
use Rattle.vax_machine.specs.State.{State}
use Rattle.vax_machine.specs.Labels.{label_place, double_label}
use Rattle.vax_machine.specs.Calls.{called}
use Rattle.vax_machine.specs.Loading.{blank, begun as loaded, start}
use Rattle.vax_machine.proofs.LayoutLaws.{length-zeros}
use Rattle.tree_core.specs.declared.program.TreeFn.{TreeFn}
use Rattle.tree_core.specs.declared.program.TreeProgram.{TreeProgram}
use Rattle.tree_core.specs.Area.{opening}
use Rattle.tree_core.specs.Names.{function_label}
use Rattle.tree_meaning.specs.State.{begun, arrived}
use Rattle.tree_meaning.specs.State.{State as Trees}
use Rattle.tree_meaning.specs.Meaning.{main_at}
use Rattle.tree_counts.specs.Counted.{tally, tree_tally}
use Rattle.vax_machine_lists.specs.Sound.{AllBelow, IsSound}
use Rattle.vax_machine_lists.proofs.Beginning.{zeros_below}
use Rattle.vax_frames.specs.Frames.{room_code}
use Rattle.gg_compile_law.specs.vax_homes_items.specs.vax_homes_law.specs.Calling.{with_stack}
use Rattle.gg_compile_law.specs.vax_homes_frames.specs.Passing.{BeginsAtHome}
use Rattle.gg_compile_law.specs.vax_homes_frames.proofs.Beginning.{runs_begin_at_home}
use Rattle.gg_compile_law.specs.Programs.{IsEmitted, ends_run, Stands, IsCompiled}
use Rattle.gg_compile_law.proofs.Starting.{found}
use Rattle.gg_compile_law.proofs.Roots.{begins_there}
use Rattle.gg_compile_tallies.specs.Claims.{Within}
use Rattle.gg_compile_tallies.proofs.Beginning.{room_walks}
use Rattle.gg_compile_tallies.proofs.Tallying.{within_more, within_walked, tells_within}

-- ---- the state before the call of `_main`

module _ (program : TreeProgram) (c : Code) (h : IsCompiled program c) (once : double_label c.items ≡ None) (input : List ℕ) (bytes : AllBelow 256 input) where
  blank_sound : IsSound (blank c input)
  blank_sound = record {
    going = refl;
    registers = refl;
    longwords = (
      omega arith,
      (
        omega arith,
        (
          omega arith,
          (omega arith, (omega arith, (omega arith, (omega arith, (omega arith, (omega arith, (omega arith, (omega arith, (omega arith, (omega arith, (omega arith, (omega arith, tt)))))))))))),
        ),
      ),
    );
    stack = length-zeros 8388608;
    stack_bytes = zeros_below 8388608;
    area = omega (arith, ap length h.area, h.size);
    area_bytes = subst (λ (l : List ℕ). AllBelow 256 l) (sym h.area) h.bytes;
    input_bytes = bytes;
  }

  abbrev the_main : (number : ℕ) × (slice_get program.functions number ≡ Some h.main) × (h.main.name ≡ codes "main")
  the_main = found program.functions h.main h.main_is

  abbrev em : IsEmitted program c.items h.main
  em = h.emitted the_main.0 h.main the_main.1

  abbrev first : Trees
  first = record { running = begun h.main []; callers = []; area = opening program.objects; input = input }

  begins_main : BeginsAtHome program.objects c.items h.main em.frame [] em.homes [] first (blank c input) (blank c input).stack 0 None
  begins_main =
      runs_begin_at_home program.objects c.items h.main em.frame em.homes (blank c input) (opening program.objects) input None blank_sound refl refl refl h.labelled h.area refl em.are_homes

  stands : Stands program c.items first begins_main.state begins_main.stack
  stands =
      let b = begins_main in
      record {
        e = record { locals = h.main.locals; words = em.frame.words };
        es = [];
        c = record { frame = b.frame; homes = em.homes };
        cs = [];
        g = h.main;
        is_behind = false;
        at_home = b.at_home;
        items = b.items;
        active = record {
          number = the_main.0;
          function = the_main.1;
          emitted = em;
          layout = ap (λ (k : ℕ). record { words = em.frame.words; mask = k; homes = em.homes }) b.is_made.mask_is;
          locals = refl;
          items = refl;
          arguments = sym h.main_args;
          here = begins_there program c.items h.emitted h.main em b.frame b.state.place b.is_made.mask_is b.at;
          order = em.order;
        };
        result = λ e. absurd (false≢true e);
        waits = ends_run (record { frame = b.frame; homes = em.homes }) b.is_made.back_is;
        shallow = omega arith;
      }

  name_is : function_label h.main.name ≡ main_name
  name_is = ap function_label the_main.2

  start_is : start c input ≡ begins_main.called_state
  start_is =
      ap (λ (name : List ℕ). loaded (blank c input) (called (blank c input) 0 (label_place c.items name) None)) (sym name_is)
      ∙ ap (loaded (blank c input)) begins_main.does

  tells_main : (n : ℕ) → Within (tally program n (arrived first)).number (tally program n (arrived first)).end (tally program n (arrived first)).output (start c input)
  tells_main n =
      let b = begins_main in
      subst (λ (m : State). Within (tally program n (arrived first)).number (tally program n (arrived first)).end (tally program n (arrived first)).output m) (sym start_is)
      (within_more b.called_state (0 + (tally program n (arrived first)).number) (tally program n (arrived first)).number (omega arith) (tally program n (arrived first)).end
      (tally program n (arrived first)).output
      (within_walked b.called_state (with_stack b.state b.stack) [] (length (room_code em.frame.words)) 0
      (room_walks program.objects c.items h.main em.frame [] em.homes [] first (blank c input) (blank c input).stack 0 None b) (tally program n (arrived first))
      (tells_within program c.items h.emitted once first b.state b.stack stands n)))

  pub compiled_within : (n : ℕ) → Within (tree_tally program input n).number (tree_tally program input n).end (tree_tally program input n).output (start c input)
  compiled_within n =
      subst (λ (g : Option TreeFn). Within (tally program n (main_at program g input)).number (tally program n (main_at program g input)).end
      (tally program n (main_at program g input)).output (start c input))
      (sym h.main_is) (tells_main n)
