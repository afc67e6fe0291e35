-- The last line of a statement does the deed of its act.
use Rattle.std.proofs.Common.{◌≡◌, ℕ, zero, suc, ◌-◌, true, false, List, Option, Some, None, Result, Ok, refl, sym, ap, subst, ◌∙◌}
use Rattle.std.specs.Prelude.{unwrap_or}
use Rattle.std.proofs.lemmas.Option.{cond_some}
use Rattle.gg_base.specs.declared.limits.TheConstants.{AREA_START}
use Rattle.gg_base.specs.declared.size.Size.{Size}
use Rattle.gg_base.specs.declared.size.Size.TheVariants.{Long}
use Rattle.gg_base.specs.LittleEndian.{with_number}
use Rattle.tree_core.specs.declared.program.TreeProgram.{TreeProgram}
use Rattle.tree_core.specs.Area.{is_inside, stored}
use Rattle.tree_meaning.specs.State.{State as Trees, Extent}
use Rattle.tree_meaning.specs.Steps as steps
use Rattle.tree_meaning.specs.Steps.{Step, deed_step, put_in, with_argument_set}
use Rattle.tree_meaning.specs.Deeds.{Puts as PutsDeed, Pushes, Returns as Leaves}
use Rattle.tree_meaning.specs.declared.value.Meaning.{Meaning as Place}
use Rattle.tree_meaning.specs.declared.value.Meaning.TheVariants as meaning
use Rattle.md_reader.specs.declared.types.Class.{Class}
use Rattle.md_reader.specs.declared.types.Rule.{Rule}
use Rattle.term_core.specs.Shape.{Shape}
use Rattle.term_core.proofs.Values.{small}
use Rattle.vax_target_rules.specs.sel_terms.specs.Effects.{ActShape, EffectShape}
use Rattle.vax_target_rules.specs.sel_target.specs.declared.attr.Attr.{Attr}
use Rattle.vax_target_rules.specs.sel_target.specs.Values.{View, term_state, value}
use Rattle.vax_target_rules.specs.sel_target.specs.Instances.{hole, Ready}
use Rattle.vax_target_rules.specs.sel_target.specs.StatementLaws.{IsStep}
use Rattle.vax_core.specs.declared.register.Reg.TheVariants.{R0}
use Rattle.vax_core.specs.declared.operand.Operand.{Operand}
use Rattle.vax_machine.specs.declared.turn.Stop.{Stop}
use Rattle.vax_machine.specs.declared.function.Conditions.{Conditions}
use Rattle.vax_machine.specs.declared.operands.Location.{Location}
use Rattle.vax_machine.specs.declared.operands.Location.TheVariants as locations
use Rattle.vax_machine.specs.State.{State, reg, with_conditions, ◌>>=◌}
use Rattle.vax_machine.specs.Operands.{put}
use Rattle.vax_machine.specs.Functions.{valued}
use Rattle.vax_machine.specs.Step.{pushing}
use Rattle.vax_target_rules.specs.vax_machine_lists.specs.Instructions as lists
use Rattle.vax_target_rules.specs.vax_machine_lists.specs.Instructions.{Course}
use Rattle.vax_target_rules.specs.vax_confined.specs.Confined.{in_area, may_touch}
use Rattle.vax_target_rules.specs.vax_states.proofs.Standing.{area_written_so, push_written}
use Rattle.vax_target_rules.specs.vax_target_meaning.specs.Running.{course_of}
use Rattle.vax_target_rules.specs.vax_target_meaning.specs.Vax.{vax, stands}
use Rattle.vax_target_rules.specs.vax_target_operands.specs.Scenes.{Scene, worth, filling_at}
use Rattle.vax_target_rules.specs.vax_target_lines.specs.Lines.{putting, Puts}
use Rattle.vax_target_rules.specs.vax_target_runs.specs.Runs.{EndsIn}
use Rattle.vax_target_rules.proofs.Instances.{filling_is}
use Rattle.vax_target_statements.proofs.LastLines.{c, did, agrees_there, room_there, live_there, codes_agree}

-- what fills a hole that is there
pub filled_hole : (s : Scene) (i : ℕ) (h : Attr Operand) → hole s.holes i ≡ Some h → filling_at s i ≡ h
filled_hole s zero h e = cc
filled_hole s (suc j) h e = filling_is s j ∙ ap (λ (o : Option (Attr Operand)). unwrap_or o s.own) e

-- a symbol's own place is what its hole spells

module _ (q : TreeProgram) (f : Extent) (fs : List Extent) (classes : List Class) (rule : Rule) (e : EffectShape) (hs : List (Attr Operand)) (res : Attr Operand) (v : View) (m : State)
    (ready : Ready vax q f fs classes rule e hs res v m) where
  abbrev S : Scene
  S = c q f fs classes rule e hs res v m ready

  abbrev D : Course
  D = did q f fs classes rule e hs res v m ready

  abbrev pub Steps : Course → Step → Type 0
  Steps x s = IsStep vax q f fs v.state m (course_of x) s

  -- something is written, and the run goes on
  pub goes : (n s : State) (l : Location) (size : Size) (x : ℕ) (k : Conditions) (d : Course) (t : Trees) → d ≡ putting n l size x k → put n l size x ≡ Ok s → stands q f fs t s → s.frames ≡ m.frames →
      Steps d (steps.Goes t)
  goes n s l size x k d t is done stand frames = (
    with_conditions s k,
    ap course_of (is ∙ ap (λ (r : Result State Stop). lists.course_of (r >>= λ (y : State). Ok (None, with_conditions y k))) done),
    record { agrees = codes_agree q f fs t s k stand; live = frames },
  )

  -- a number in the data area, and elsewhere the trees don't go on
  pub area_goes : (n : State) (a : ℕ) (size : Size) (x : ℕ) (k : Conditions) (d : Course) → stands q f fs v.state n → n.frames ≡ m.frames
      → (in_area n a size ≡ true → d ≡ putting n (locations.Memory a) size x k) →
      (o : Option (List ℕ)) → stored size v.state.area a x ≡ o → Steps d (put_in v.state o)
  area_goes n a size x k d stand frames is None e' = tt
  area_goes n a size x k d stand frames is (Some area) e' =
      let w = area_written_so q.objects _ _ v.state n stand size a x area e' in
      let inside = (cond_some (is_inside size v.state.area a) (with_number size v.state.area (a - AREA_START) x) area e').0 in
      goes n (record n { area = area }) (locations.Memory a) size x k d (record v.state { area = area }) (is (ap (λ l. is_inside size l a) stand.area ∙ inside)) w.0 w.1 frames

  module _ (a : ActShape) (x : EndsIn S m a D) where
    abbrev n : State
    n = x.state

    agrees : stands q f fs v.state n
    agrees = agrees_there q f fs classes rule e hs res v m ready a x

    frames : n.frames ≡ m.frames
    frames = live_there q f fs classes rule e hs res v m ready a x

    pub at_goes : (size : Size) (address t : Shape) (g : Place) (y : ℕ) → Puts S n false size (worth S t) (λ l. l ≡ locations.Memory (worth S address)) D →
        g ≡ meaning.Memory size (value v address) → value v t ≡ y → Steps D (deed_step q v.state (PutsDeed g y))
    at_goes size address t g y p is worth_so =
        subst (λ z. Steps D (deed_step q v.state (PutsDeed z y))) (sym is)
        (subst (λ z. Steps D (deed_step q v.state (PutsDeed (meaning.Memory size (value v address)) z))) worth_so
        (area_goes n (worth S address) size (worth S t) p.conditions D agrees frames
        (λ inside. p.is (ap (λ l. may_touch n false l size) p.there ∙ inside) ∙ ap (λ l. putting n l size (worth S t) p.conditions) p.there)
        (stored size v.state.area (worth S address) (worth S t)) refl))

    pub pushes : (t : Shape) (y : ℕ) → D ≡ lists.course_of (pushing n (worth S t)) → value v t ≡ y → Steps D (deed_step q v.state (Pushes y))
    pushes t y is worth_so =
        subst (λ z. Steps D (deed_step q v.state (Pushes z))) worth_so
        (let w = push_written q.objects _ _ v.state n agrees (worth S t) (room_there q f fs classes rule e hs res v m ready a x) (small (term_state v) t) in (
          _,
          ap course_of (is ∙ ap (λ (r : Result State Stop). lists.course_of (r >>= λ (s : State). Ok (None, with_conditions s (valued Long (worth S t) n.conditions.carry).conditions))) w.0),
          record { agrees = codes_agree q f fs _ _ (valued Long (worth S t) n.conditions.carry).conditions w.1; live = frames },
        ))

    pub leaves : (t : Shape) (y : ℕ) → D ≡ lists.ends (lists.Returns n) → reg n R0 ≡ worth S t → value v t ≡ y → Steps D (deed_step q v.state (Leaves y))
    leaves t y is holds worth_so = (
      n,
      ap course_of is,
      record { agrees = agrees; live = frames },
      holds ∙ worth_so,
      room_there q f fs classes rule e hs res v m ready a x,
    )
