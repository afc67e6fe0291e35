-- The code that is selected of a tree has the tree's effect.
use Rattle.std.proofs.Common.{◌≡◌, ℕ, ◌+◌, ◌==◌, List, [], ◌∷◌, length, Option, Some, None, Bool, true, false, Ok, sym, ap, subst, arith}
use Rattle.std.specs.Prelude.{nat_lt, cond, slice_get}
use Rattle.std.specs.List.{AllByRecursion as All}
use Rattle.gg_base.specs.Relations.{holds}
use Rattle.tree_core.specs.declared.token.Sort.TheVariants as sort
use Rattle.tree_core.specs.declared.tree.Leaf.{Leaf}
use Rattle.tree_core.specs.declared.program.TreeFn.{TreeFn}
use Rattle.tree_core.specs.declared.program.TreeProgram.{TreeProgram}
use Rattle.tree_core.specs.Area.{stored}
use Rattle.tree_core.specs.Calm.{Calm}
use Rattle.tree_core.specs.Trees.{IsTyped, grown}
use Rattle.tree_core.specs.Valid.{IsValid}
use Rattle.gg_base.specs.declared.run.Finish.TheVariants as finish
use Rattle.tree_meaning.specs.declared.value.Meaning.TheVariants.{Of, Local, Argument, Memory}
use Rattle.tree_meaning.specs.State.{State as Trees, sight, Extent}
use Rattle.tree_meaning.specs.Deeds.{Deed, Puts, Branches, Pushes, Returns, Calls, Saves, Jumps, Traps, Strays, tree_deed}
use Rattle.tree_meaning.specs.Steps.{Step, deed_step, put_in, strays, wrote, got, served, entered, called_as}
use Rattle.tree_meaning.specs.Steps as steps
use Rattle.md_reader.specs.declared.types.Class.{Class}
use Rattle.md_reader.specs.declared.types.Rule.{Rule}
use Rattle.md_reader.specs.State.{Content}
use Rattle.sel_parse_lines.specs.sel_terms.specs.Effects.{EffectShape}
use Rattle.sel_parse_lines.specs.sel_target.specs.StatementLaws.{IsStep}
use Rattle.vax_target_places.specs.sel_parse.specs.Shown.{IsShown}
use Rattle.sel_parse_lines.specs.sel_parse_moves.specs.Claims.{root, deed}
use Rattle.sel_parse_lines.specs.sel_parse_moves.specs.Possible.{FitsArea, IsPossible}
use Rattle.vax_target_places.specs.sel_parse_desk.specs.Selected.{tree_of}
use Rattle.sel_parse_lines.specs.sel_parse_selected.specs.Selected.{Selected}
use Rattle.vax_target_places.specs.sel_parse_effect.specs.Claims.{frame_sight, IsFit, Begins}
use Rattle.vax_target_places.specs.sel_parse_effect.specs.Claims as selection
use Rattle.vax_target_places.specs.sel_parse_effect.proofs.Law.{selected_has_effect}
use Rattle.sel_parse_lines.proofs.Ending.{statements_have_code}
use Rattle.vax_core.specs.declared.code.Instr.{Instr}
use Rattle.vax_machine.specs.State.{State}
use Rattle.gg_compile_law.specs.vax_states.specs.Agreeing.{Agrees}
use Rattle.vax_target_laws.specs.vax_target_meaning.specs.vax_confined.specs.Confined.{exec}
use Rattle.vax_target_laws.specs.vax_target_meaning.specs.Fitting.{CanWrite}
use Rattle.vax_target_laws.specs.vax_target_meaning.specs.Running.{run}
use Rattle.vax_target_laws.specs.vax_target_meaning.specs.Vax.{vax}
use Rattle.vax_target_places.proofs.Law.{stores_go_to_places}
use Rattle.vax_target_laws.proofs.Law.{vax_is_lawful}
use Rattle.gg_compile_law.specs.Effects.{Does, IsReady, HasEffect}
use Rattle.gg_compile_effect.specs.Claims.{IsTreeOf, SelectedTreesHaveEffect}
use Rattle.gg_compile_effect.proofs.Trees.{root_is}
use Rattle.gg_compile_effect.proofs.Naming.{tree_names}
use Rattle.gg_compile_effect.proofs.Courses.{traps_is, IsNoTrap, step_does}

-- a description whose rules are shown has effects
pub all_taken : (classes : List Class) (registers : ℕ) (rules : List Rule) → All (IsShown vax.effect registers classes) rules
    → All (λ (r : Rule). (e : EffectShape) × (vax.effect classes r ≡ Ok e)) rules
all_taken classes registers [] h = tt
all_taken classes registers (r ∷ rs) h = ((h.0.found, h.0.found_is), all_taken classes registers rs h.1)

-- ---- no call traps

wrote_no_trap : (s : Trees) (v : Option ℕ) → IsNoTrap (wrote s v)
wrote_no_trap s None = tt
wrote_no_trap s (Some v) = tt

got_no_trap : (s : Trees) (bs : List ℕ) → IsNoTrap (got s bs)
got_no_trap s [] = tt
got_no_trap s (b ∷ bs) = tt

either_no_trap : (b : Bool) (x y : Step) → IsNoTrap x → IsNoTrap y → IsNoTrap (cond b x y)
either_no_trap true x y h k = h
either_no_trap false x y h k = k

called_no_trap : (s : Trees) (g : Option TreeFn) (service : ℕ) (arguments : List ℕ) → IsNoTrap (called_as s g service arguments)
called_no_trap s None service arguments =
    either_no_trap (service == 0) (wrote s (slice_get arguments 0)) (cond (service == 1) (got s s.input) strays) (wrote_no_trap s (slice_get arguments 0))
    (either_no_trap (service == 1) (got s s.input) strays (got_no_trap s s.input) tt)
called_no_trap s (Some g) service arguments =
    either_no_trap (nat_lt (1 + length s.callers) 1024) (steps.Enters g arguments s) (steps.Ends finish.Deep) tt tt

module _ (q : TreeProgram) (d : Content) (g : TreeFn) (w : List Leaf) (code : List Instr) (most : ℕ) (valid : IsValid q) (can : CanWrite q) (fit : IsFit vax d)
    (tree : IsTreeOf q g w) (selected : Selected vax q d g.locals (tree_of w) code most) where
  typed : IsTyped w sort.Stmt
  typed = tree.stands.0

  root_same : root (tree_of w) ≡ w
  root_same = root_is w typed

  module _ (e : Extent) (es : List Extent) (t : Trees) (m : State) (agrees : Agrees q.objects e es t m) (ready : IsReady g.locals g.args most w e t m) where
    begins : Begins vax q g.locals e es t m
    begins = record {
      program = valid;
      spelled = can;
      few = ready.few;
      own = (let same = ready.same_locals in omega (arith, same));
      within = agrees.running.locals;
      written = λ k n h. agrees.running.is_local k n h;
      agrees = agrees;
      room = ready.room;
    }

    abbrev Effect : Deed → Type 0
    Effect x = selection.HasEffect vax q e es t m (run code m) x

    effect : IsPossible t.area (deed q.objects (sight t) (tree_of w)) → Effect (deed q.objects (sight t) (tree_of w))
    effect possible =
        selected_has_effect vax vax_is_lawful q d g.locals e es t m (tree_of w) code most stores_go_to_places fit begins selected ready.words
        (subst (λ (x : List Leaf). IsTyped x sort.Stmt) (sym root_same) typed)
        (tree_names q d g e es t (frame_sight vax e t m) m ready.same_locals ready.arguments w typed tree.stands.1 tree.spelled ready.result ready.pushed)
        possible (λ h. subst Calm (sym root_same) tree.calm)

    -- a step that isn't a trap
    goes : (s : Step) → IsNoTrap s → IsStep vax q e es t m (run code m) s → Does q.objects e es t m s (exec code m)
    goes s fair h = step_does q e es t m (exec code m) s fair h

    put_does : (area : Option (List ℕ)) → (FitsArea area → IsStep vax q e es t m (run code m) (put_in t area))
        → Does q.objects e es t m (put_in t area) (exec code m)
    put_does None h = tt
    put_does (Some area) h = goes (put_in t (Some area)) tt (h tt)

    branch_does : (b : Bool) (label : ℕ) → IsStep vax q e es t m (run code m) (cond b (steps.GoesTo label t) (steps.Goes t))
        → Does q.objects e es t m (cond b (steps.GoesTo label t) (steps.Goes t)) (exec code m)
    branch_does true label h = goes (steps.GoesTo label t) tt h
    branch_does false label h = goes (steps.Goes t) tt h

    -- by the tree's deed
    does_by : (x : Deed) → (IsPossible t.area x → Effect x) → Does q.objects e es t m (deed_step q t x) (exec code m)
    does_by (Puts (Of v) n) h = tt
    does_by (Puts (Local k) n) h = goes (deed_step q t (Puts (Local k) n)) tt (h tt)
    does_by (Puts (Argument k) n) h = goes (deed_step q t (Puts (Argument k) n)) tt (h tt)
    does_by (Puts (Memory size address) n) h = put_does (stored size t.area address n) h
    does_by (Branches rel label x y) h = branch_does (holds rel x y) label (h tt)
    does_by (Pushes v) h = goes (deed_step q t (Pushes v)) tt (h tt)
    does_by (Returns v) h = goes (deed_step q t (Returns v)) tt (h tt)
    does_by (Calls function count) h = goes (deed_step q t (Calls function count)) (called_no_trap _ (slice_get q.functions function) _ _) (h tt)
    does_by (Saves k) h = goes (deed_step q t (Saves k)) tt (h tt)
    does_by (Jumps label) h = goes (deed_step q t (Jumps label)) tt (h tt)
    does_by Traps h = traps_is (exec code m) (h tt)
    does_by Strays h = tt

    deed_same : deed q.objects (sight t) (tree_of w) ≡ tree_deed q.objects (sight t) (grown w)
    deed_same = ap (λ (x : List Leaf). tree_deed q.objects (sight t) (grown x)) root_same

    does : Does q.objects e es t m (deed_step q t (tree_deed q.objects (sight t) (grown w))) (exec code m)
    does = does_by (tree_deed q.objects (sight t) (grown w)) (λ p. subst Effect deed_same (effect (subst (IsPossible t.area) (sym deed_same) p)))

  pub has_effect : HasEffect q g.locals g.args most w code
  has_effect = record {
    some = statements_have_code vax vax_is_lawful q d g.locals (tree_of w) code most fit.valid (all_taken d.classes _ d.rules fit.rules) selected;
    does = λ e es t m agrees ready. does e es t m agrees ready;
  }

pub selected_trees_have_effect : SelectedTreesHaveEffect
selected_trees_have_effect q d g w code most valid can fit tree selected = has_effect q d g w code most valid can fit tree selected
