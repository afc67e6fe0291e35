-- The run of a program's code begins where the run of its trees begins, and follows it.
use Rattle.std.proofs.Common.{◌≡◌, ℕ, suc, Bool, true, false, cond, List, [], ◌∷◌, length, Option, Some, None, refl, sym, ap, subst, ◌∙◌, arith}
use Rattle.std.specs.Prelude.{slice_get, codes}
use Rattle.std.specs.List.{find}
use Rattle.std.specs.Str.{bytes_eq}
use Rattle.std.proofs.lemmas.Slice.Eq.{bytes_eq-Decides}
use Rattle.std.proofs.lemmas.Option.{same_Some}
use Rattle.std.proofs.lemmas.Bool.{false≢true}
use Rattle.gg_base.specs.Follows.{Forward, Follows}
use Rattle.gg_base.proofs.Following.{follows}
use Rattle.vax_core.specs.declared.code.Code.{Code}
use Rattle.vax_core.specs.First.{main_name}
use Rattle.vax_machine.specs.State.{State}
use Rattle.vax_machine.specs.Labels.{label_place}
use Rattle.vax_machine.specs.Calls.{called}
use Rattle.vax_machine.specs.Loading.{blank, begun as loaded, start}
use Rattle.vax_machine.specs.Running.{state_run, run as code_run}
use Rattle.vax_machine.proofs.Law.{run_has_one_end}
use Rattle.vax_machine.proofs.LayoutLaws.{length-zeros}
use Rattle.tree_core.specs.declared.program.TreeFn.{TreeFn}
use Rattle.tree_core.specs.declared.program.TreeProgram.{TreeProgram}
use Rattle.tree_core.specs.Area.{opening}
use Rattle.tree_core.specs.Names.{function_label}
use Rattle.tree_meaning.specs.State.{begun, arrived}
use Rattle.tree_meaning.specs.State.{State as Trees}
use Rattle.tree_meaning.specs.Meaning.{run, runs, main_at, tree_run}
use Rattle.tree_meaning.proofs.Law.{tree_run_unbroken}
use Rattle.vax_machine_lists.specs.Sound.{AllBelow, IsSound}
use Rattle.vax_machine_lists.proofs.Beginning.{zeros_below}
use Rattle.vax_homes_items.specs.vax_homes_law.specs.Calling.{with_stack}
use Rattle.vax_homes_frames.specs.Passing.{BeginsAtHome}
use Rattle.gg_compile_law.specs.Programs.{IsEmitted, ends_run, Stands, IsCompiled, CompiledFollow}
use Rattle.gg_compile_law.proofs.Forwards.{asks_led}
use Rattle.vax_homes_frames.proofs.Beginning.{runs_begin_at_home}
use Rattle.gg_compile_law.proofs.Roots.{begins_there}
use Rattle.gg_compile_law.proofs.Following.{follows_forward}

-- ---- the function called main

pub found : (fs : List TreeFn) (g : TreeFn) → find (λ f. bytes_eq f.name (codes "main")) fs ≡ Some g → (number : ℕ) × (slice_get fs number ≡ Some g) × (g.name ≡ codes "main")
found [] g e = absurd cc
found (f ∷ fs) g e = by (bytes_eq f.name (codes "main")) refl e (found fs g)
  where
    by : (b : Bool) → bytes_eq f.name (codes "main") ≡ b → cond b (Some f) (find (λ f. bytes_eq f.name (codes "main")) fs) ≡ Some g
        → (find (λ f. bytes_eq f.name (codes "main")) fs ≡ Some g → (number : ℕ) × (slice_get fs number ≡ Some g) × (g.name ≡ codes "main"))
        → (number : ℕ) × (slice_get (f ∷ fs) number ≡ Some g) × (g.name ≡ codes "main")
    by true eq e rest = (0, e, sym (ap (λ (x : TreeFn). x.name) (same_Some f g e)) ∙ (bytes_eq-Decides f.name (codes "main")).0 eq)
    by false eq e rest = let r = rest e in (suc r.0, r.1, r.2)

-- ---- the state before the call of `_main`

module _ (program : TreeProgram) (c : Code) (h : IsCompiled program c) (input : List ℕ) (bytes : AllBelow 256 input) where
  blank_sound : IsSound (blank c input)
  blank_sound = record {
    going = refl;
    registers = refl;
    longwords = (
      omega arith,
      (
        omega arith,
        (
          omega arith,
          (omega arith, (omega arith, (omega arith, (omega arith, (omega arith, (omega arith, (omega arith, (omega arith, (omega arith, (omega arith, (omega arith, (omega arith, tt)))))))))))),
        ),
      ),
    );
    stack = length-zeros 8388608;
    stack_bytes = zeros_below 8388608;
    area = omega (arith, ap length h.area, h.size);
    area_bytes = subst (λ (l : List ℕ). AllBelow 256 l) (sym h.area) h.bytes;
    input_bytes = bytes;
  }

  abbrev the_main : (number : ℕ) × (slice_get program.functions number ≡ Some h.main) × (h.main.name ≡ codes "main")
  the_main = found program.functions h.main h.main_is

  abbrev em : IsEmitted program c.items h.main
  em = h.emitted the_main.0 h.main the_main.1

  abbrev first : Trees
  first = record { running = begun h.main []; callers = []; area = opening program.objects; input = input }

  begins_main : BeginsAtHome program.objects c.items h.main em.frame [] em.homes [] first (blank c input) (blank c input).stack 0 None
  begins_main =
      runs_begin_at_home program.objects c.items h.main em.frame em.homes (blank c input) (opening program.objects) input None blank_sound refl refl refl h.labelled h.area refl em.are_homes

  stands : Stands program c.items first begins_main.state begins_main.stack
  stands =
      let b = begins_main in
      record {
        e = record { locals = h.main.locals; words = em.frame.words };
        es = [];
        c = record { frame = b.frame; homes = em.homes };
        cs = [];
        g = h.main;
        is_behind = false;
        at_home = b.at_home;
        items = b.items;
        active = record {
          number = the_main.0;
          function = the_main.1;
          emitted = em;
          layout = ap (λ (k : ℕ). record { words = em.frame.words; mask = k; homes = em.homes }) b.is_made.mask_is;
          locals = refl;
          items = refl;
          arguments = sym h.main_args;
          here = begins_there program c.items h.emitted h.main em b.frame b.state.place b.is_made.mask_is b.at;
          order = em.order;
        };
        result = λ e. absurd (false≢true e);
        waits = ends_run (record { frame = b.frame; homes = em.homes }) b.is_made.back_is;
        shallow = omega arith;
      }

  name_is : function_label h.main.name ≡ main_name
  name_is = ap function_label the_main.2

  start_is : start c input ≡ begins_main.called_state
  start_is =
      ap (λ (name : List ℕ). loaded (blank c input) (called (blank c input) 0 (label_place c.items name) None)) (sym name_is)
      ∙ ap (loaded (blank c input)) begins_main.does

  forward : (k : ℕ) → Forward k (tree_run program input) (code_run c input)
  forward k =
      let b = begins_main in
      subst (λ (g : Option TreeFn). Forward k (runs program (main_at program g input)) (code_run c input)) (sym h.main_is)
      (subst (λ (m : State). Forward k (runs program (arrived first)) (state_run m)) (sym start_is)
      (record {
        at = λ n lt. asks_led b.called_state (with_stack b.state b.stack) [] b.steps b.leads n n (omega arith) (run program n (arrived first)).end (run program n (arrived first)).output
            ((follows_forward program c.items h.emitted k first b.state b.stack stands).at n lt);
      }))

  follows_trees : Follows (tree_run program input) (code_run c input)
  follows_trees = follows (tree_run program input) (code_run c input) (tree_run_unbroken program input) forward (run_has_one_end c input)

pub compiled_follow : CompiledFollow
compiled_follow program c h = λ input bytes. follows_trees program c h input bytes
