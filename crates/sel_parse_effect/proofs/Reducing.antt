-- What a reduction leaves: the code comes to a state where the result stands for what the rule gives, or it traps.
use Rattle.std.proofs.Common.{◌≡◌, ℕ, ◌+◌, ◌<◌, ◌≤◌, List, [], ◌∷◌, ◌++◌, length, Option, Some, Bool, true, refl, sym, ap, ◌∙◌, subst}
use Rattle.std.proofs.Common.{arith}
use Rattle.std.specs.Prelude.{count_ones}
use Rattle.tree_core.specs.declared.program.TreeProgram.{TreeProgram}
use Rattle.tree_core.specs.Valid.{IsValid}
use Rattle.tree_meaning.specs.State.{State, Extent}
use Rattle.tree_meaning.specs.Values.{Sight}
use Rattle.md_reader.specs.declared.types.Kind.{Kind}
use Rattle.md_reader.specs.declared.types.Kind.TheVariants as kind
use Rattle.md_reader.specs.declared.types.Give.TheVariants as give
use Rattle.md_reader.specs.declared.types.Rule.{Rule}
use Rattle.md_reader.specs.declared.types.Sym.{Sym}
use Rattle.md_reader.specs.declared.types.Sym.TheVariants as grammar_symbol
use Rattle.md_reader.specs.Patterns.{kind_at}
use Rattle.md_reader.specs.Restrictions.{is_reg, is_nothing}
use Rattle.md_reader.specs.State.{Content}
use Rattle.md_reader.specs.Valid.{IsRule}
use Rattle.term_core.specs.Value as term
use Rattle.sel_target.specs.sel_terms.specs.Reading.{effect_read}
use Rattle.sel_parse_moves.specs.sel_terms_trees.specs.Senses.{Sense, OfNumber, piled, StandsFor}
use Rattle.sel_parse_moves.specs.sel_terms_trees.specs.Effects.{GivesBy, TrapsBy}
use Rattle.sel_target.specs.declared.attr.Attr.{Attr}
use Rattle.sel_target.specs.declared.attr.Attr.TheVariants as attr
use Rattle.sel_target.specs.Meaning.{Meaning, RegAt}
use Rattle.sel_target.specs.Courses.{Course, comes, traps, followed}
use Rattle.sel_target.specs.Laws.{IsLawful}
use Rattle.sel_target.specs.Instances.{IsResult, lines_of}
use Rattle.sel_target.specs.EffectTerms.{begins_with_save}
use Rattle.sel_parse_moves.specs.lr_check_parse.specs.Attributes.{all_hold}
use Rattle.sel_parse.specs.Shown.{IsShown}
use Rattle.sel_parse_stands.specs.sel_parse_selected.specs.Entries.{Entry, attrs}
use Rattle.sel_parse_stands.specs.sel_parse_selected.specs.Desk.{Stack, Desk, desk_of, Outcome, Full, Stuck, Done, bind}
use Rattle.sel_parse_stands.specs.sel_parse_selected.specs.Spills.{due}
use Rattle.sel_parse_stands.specs.sel_parse_selected.specs.Reductions.{reloaded}
use Rattle.sel_parse_stands.specs.sel_parse_selected.specs.Selected.{selecting}
use Rattle.sel_parse_stands.specs.Stands as stands
use Rattle.sel_parse_stands.specs.Stands.{ClassIs, SymbolIs, IsFrame, Holds}
use Rattle.sel_parse_stands.specs.Lines.{LinesSave}
use Rattle.sel_parse_stands.proofs.Loaded.{AllLoaded, all_loaded}
use Rattle.sel_parse_stands.proofs.Carrying.{AllUntouched, AllCarried, same_state}
use Rattle.sel_parse_stands.proofs.Keeping.{none_touched, holds_kept, sees_kept, avoided, comes_on}
use Rattle.sel_parse_stands.proofs.Parting.{parted_at}
use Rattle.sel_parse_stands.proofs.Desks.{IsDue, Works, LoadedTo, due_works, reloaded_works, holds_length, full_done, stuck_done}
use Rattle.sel_parse_effect.specs.Standing.{Standing}
use Rattle.sel_parse_effect.proofs.Giving as giving
use Rattle.sel_parse_effect.proofs.Giving.{Later, Shaped}

pub reg_is : (k : Option Kind) → is_reg k ≡ true → k ≡ Some kind.Reg
reg_is (Some kind.Reg) e = refl
reg_is _ e = absurd (cc)

pub nothing_is : (k : Option Kind) → is_nothing k ≡ true → k ≡ Some kind.Nothing
nothing_is (Some kind.Nothing) e = refl
nothing_is _ e = absurd (cc)

pub bound : {X Y : Type 0} (o : Outcome X) (go : X → Outcome Y) (y : Y) → bind o go ≡ Done y → (x : X) × (o ≡ Done x) × (go x ≡ Done y)
bound Full go y e = absurd (full_done y e)
bound Stuck go y e = absurd (stuck_done y e)
bound (Done x) go y e = (x, refl, e)

module _ {O I S F : Type 0} (of : Meaning O I S F) (law : IsLawful of) (q : TreeProgram) (valid : IsValid q) (d : Content) (first : ℕ) (f : Extent) (fs : List Extent) (t : State) (s : Sight)
    (m0 : S) (frame : IsFrame of q d first f fs t s m0) (lines : LinesSave of d) where
  abbrev Stood : Stack O I → List Sym → List Sense → Type 0
  Stood x a us = Standing of q d first f fs t s m0 x a us

  all_same : (m : S) (xs : List Sym) (es : List (Entry O)) (vs : List Sense) → Holds of q d first f fs t s m0 m es xs vs → AllCarried of q d f t m m xs es es
  all_same m [] [] [] h = tt
  all_same m (x ∷ xs) (e ∷ es) (v ∷ vs) h = (same_state of q d f t m _ e.attr, all_same m xs es vs h.1)
  all_same m _ _ _ h = absurd h

  -- One reduction by a rule whose effect is shown, from a stack that stands for senses.
  module _ (rule : Rule) (is_rule : IsRule d.classes rule) (shown : IsShown of.effect (count_ones d.pool) d.classes rule) (x : Stack O I) (a : List Sym) (us vs : List Sense)
      (size : length vs ≡ length rule.right) (hold : all_hold (selecting of q d first) (desk_of (length rule.right) x).symbols rule.restrictions ≡ true)
      (before : Stood x (piled rule.right a) (piled vs us)) where
    abbrev pub Start : Desk O I
    Start = desk_of (length rule.right) x

    abbrev Working : Desk O I → Type 0
    Working y = Works of law q d first f fs t s m0 frame lines before.state rule.right Start.symbols vs a us y

    pub tops : Holds of q d first f fs t s m0 before.state Start.symbols rule.right vs
    tops = (parted_at of q d first f fs t s m0 before.state rule.right a vs us x.entries size before.holds).tops

    started : Working Start
    started = record {
      state = before.state;
      ran = before.ran;
      sees = before.sees;
      live = before.live;
      symbols = tops;
      below = (parted_at of q d first f fs t s m0 before.state rule.right a vs us x.entries size before.holds).rest;
      carried = all_same before.state rule.right Start.symbols vs tops;
    }

    -- the rule's symbols are in place
    pub record Ready (y : Desk O I) : Type 0 where
      pub works : Working y
      pub loaded : AllLoaded y.symbols

    pub ready : (y : Desk O I) → Working y → LoadedTo of law q d first f fs t s m0 frame lines before.state rule.right Start.symbols vs a us (0 + length rule.right) y.symbols → Ready y
    ready y works loaded = record {
      works = works;
      loaded = all_loaded y.symbols (0 + length rule.right)
          (let e = holds_length of law q d first f fs t s m0 frame lines before.state rule.right Start.symbols vs a us works.state y.symbols rule.right vs works.symbols in omega (arith, e))
          loaded;
    }

    -- behind the reloads
    pub record Brought (y : Desk O I) : Type 0 where
      pub grows : x.most ≤ y.most
      pub loaded : LoadedTo of law q d first f fs t s m0 frame lines before.state rule.right Start.symbols vs a us (0 + length rule.right) y.symbols
      pub works : y.most ≤ f.words → Working y

    pub brought : (y : Desk O I) → reloaded of q d first (length rule.right) 0 Start ≡ Done y → Brought y
    brought y e =
        let r = reloaded_works of law q d first f fs t s m0 frame lines before.state rule.right Start.symbols vs a us (length rule.right) 0 Start y (λ j b lt at. absurd (omega (arith, lt))) e in
        record { grows = r.grows; loaded = r.loaded; works = λ within. r.works within started }

    -- and where a register is due
    pub record Taken (given : Bool) (y new : Desk O I) (r : ℕ) : Type 0 where
      pub due_is : IsDue of law q d first f fs t s m0 frame lines given new r
      pub grows : y.most ≤ new.most
      pub ready_is : new.most ≤ f.words → Ready new

    pub taken : (given : Bool) (y new : Desk O I) (r : ℕ) → Brought y → due of q d first given y ≡ Done (r, new) → Taken given y new r
    taken given y new r b e =
        let h = due_works of law q d first f fs t s m0 frame lines before.state rule.right Start.symbols vs a us given y new r e in
        record {
          due_is = h.due;
          grows = h.grows;
          ready_is = λ within. (
              let old = b.works (let g = h.grows in omega (arith, g, within)) in
              ready new (h.works within old) (h.stays.loaded (0 + length rule.right) b.loaded));
        }

    -- ---- the rule's own lines, where the symbols are in place

    pub later : (y : Desk O I) (r : Ready y) → (begins_with_save rule.right ≡ true → of.answer r.works.state ≡ t.running.result)
        → Later of law q valid d first f fs t s m0 frame before.state before.sees rule is_rule shown Start.symbols vs tops hold r.works.state y.symbols
    later y r answered = record { seen = r.works.sees; now = r.works.symbols; carried = r.works.carried; loaded = r.loaded; answered = answered }

    abbrev pub behind : Attr O → Attr O → Desk O I → Stack O I
    behind result given y = record {
      entries = record { kind = kind_at d.classes rule.left; attr = given } ∷ y.below;
      code = y.code ++ lines_of of q rule (attrs y.symbols) result;
      most = y.most;
    }

    -- a result in a register that nothing below touches
    pub leads : (y : Desk O I) (r : ℕ) (v : Sense) (ok : Ready y) → kind_at d.classes rule.left ≡ Some kind.Reg → r < 12 → AllUntouched of q d f t (RegAt r ∷ []) y.below
        → IsResult of rule.give (attrs y.symbols) (attr.Reg r) → ((n : term.State) → StandsFor q.objects s vs n → GivesBy q.objects s vs (effect_read d.classes rule) v n)
        → Stood (behind (attr.Reg r) (attr.Reg r) y) (grammar_symbol.Class rule.left ∷ a) (v ∷ us)
    leads y r v ok is small below result gives =
        let m' = ok.works.state in
        let l = later y ok (λ h. absurd (giving.no_save_reg d.classes rule is_rule is h)) in
        let by = giving.at_view of law q valid d first f fs t s m0 frame before.state before.sees rule is_rule shown Start.symbols vs tops hold
        {A = GivesBy q.objects s vs (effect_read d.classes rule) v} gives in
        let it = giving.leaves of law q valid d first f fs t s m0 frame before.state before.sees rule is_rule shown Start.symbols vs tops hold m' y.symbols l v by r is result in
        record {
          state = it.sets.state;
          ran = comes_on of law q d first f fs t s m0 y.code (lines_of of q rule (attrs y.symbols) (attr.Reg r)) m' it.sets.state ok.works.ran it.sets.ran;
          sees = sees_kept of law q d first f fs t s m0 frame (RegAt r ∷ []) m' it.sets.state it.sets.keeps (tt, tt) ok.works.sees;
          live = it.sets.keeps.live ∙ ok.works.live;
          holds = (
            subst (λ w. SymbolIs of q d first f fs t s m0 it.sets.state (grammar_symbol.Class rule.left) (kind_at d.classes rule.left) (attr.Reg r) w) (sym it.sense_is)
                (stands.class rule.left (attr.Reg r) (OfNumber it.number)
                (subst (λ k. ClassIs of q d first f fs t s m0 it.sets.state k (attr.Reg r) (OfNumber it.number)) (sym is) (stands.register r it.number small it.sets.gets))),
            holds_kept of law q d first f fs t s m0 (RegAt r ∷ []) m' it.sets.state y.below a us it.sets.keeps below ok.works.below,
          );
          first_run = λ h. absurd h;
        }

    -- what a shape gives
    pub shape_leads : (y : Desk O I) (v : Sense) (k : Kind) (o : Attr O) (ok : Ready y) (answered : begins_with_save rule.right ≡ true → of.answer ok.works.state ≡ t.running.result)
        (by : GivesBy q.objects s vs (effect_read d.classes rule) v _) → kind_at d.classes rule.left ≡ Some k
        → Shaped of law q valid d first f fs t s m0 frame before.state before.sees rule is_rule shown Start.symbols vs tops hold ok.works.state y.symbols (later y ok answered) v by k o
        → Stood (behind attr.Nothing o y) (grammar_symbol.Class rule.left ∷ a) (v ∷ us)
    shape_leads y v k o ok answered by is it = record {
      state = it.state;
      ran = comes_on of law q d first f fs t s m0 y.code (lines_of of q rule (attrs y.symbols) attr.Nothing) ok.works.state it.state ok.works.ran it.ran;
      sees = sees_kept of law q d first f fs t s m0 frame [] ok.works.state it.state it.keeps tt ok.works.sees;
      live = it.keeps.live ∙ ok.works.live;
      holds = (
        stands.class rule.left o v (subst (λ w. ClassIs of q d first f fs t s m0 it.state w o v) (sym is) it.is),
        holds_kept of law q d first f fs t s m0 [] ok.works.state it.state y.below a us it.keeps (none_touched of law q d first f fs t s m0 y.below) ok.works.below,
      );
      first_run = λ h. absurd h;
    }

    -- code that traps behind code that comes to a state
    traps_on : (p r : List I) (m : S) → of.run p m0 ≡ comes m → of.run r m ≡ traps → of.run (p ++ r) m0 ≡ traps
    traps_on p r m e g =
        law.runs.run_on p r m0 ∙ ap (λ c. followed c r (of.run r)) e ∙ ap (λ (c : Course I S). record { written = c.written; ending = c.ending }) g

    pub lines_trap : (y : Desk O I) (result given : Attr O) (ok : Ready y) → (begins_with_save rule.right ≡ true → of.answer ok.works.state ≡ t.running.result)
        → IsResult of rule.give (attrs y.symbols) result → ((n : term.State) → StandsFor q.objects s vs n → TrapsBy q.objects s vs (effect_read d.classes rule) n)
        → of.run (behind result given y).code m0 ≡ traps
    lines_trap y result given ok answered is trapping =
        traps_on y.code (lines_of of q rule (attrs y.symbols) result) ok.works.state ok.works.ran
        (giving.lines_trap of law q valid d first f fs t s m0 frame before.state before.sees rule is_rule shown Start.symbols vs tops hold ok.works.state y.symbols result
        (later y ok answered) is trapping)

    -- ---- the results that rules may have

    pub fresh_result : (y : Desk O I) (r : ℕ) → rule.give ≡ give.Fresh → r < 12 → AllUntouched of q d f t (RegAt r ∷ []) y.symbols → IsResult of rule.give (attrs y.symbols) (attr.Reg r)
    fresh_result y r e lt free = subst (λ g. IsResult of g (attrs y.symbols) (attr.Reg r)) (sym e) (lt, avoided of law q d first f fs t s m0 (RegAt r) y.symbols free)

    pub scratch_result : (y : Desk O I) (r : ℕ) → rule.give ≡ give.Scratch → r < 12 → AllUntouched of q d f t (RegAt r ∷ []) y.symbols → IsResult of rule.give (attrs y.symbols) (attr.Reg r)
    scratch_result y r e lt free = subst (λ g. IsResult of g (attrs y.symbols) (attr.Reg r)) (sym e) (lt, avoided of law q d first f fs t s m0 (RegAt r) y.symbols free)

    pub reuse_result : (y : Desk O I) (r : ℕ) → rule.give ≡ give.Reuse → r < 12 → IsResult of rule.give (attrs y.symbols) (attr.Reg r)
    reuse_result y r e lt = subst (λ g. IsResult of g (attrs y.symbols) (attr.Reg r)) (sym e) lt
