-- The instructions of a parse pass.
use Rattle.std.proofs.Common.{◌≡◌, ℕ, ◌+◌, List, [], ◌∷◌, length, map, Some, None, Bool, true, sym, ap, ◌∙◌, subst, slice_get, drop, take}
use Rattle.std.specs.Prelude.{reverse, Ok}
use Rattle.std.specs.List.{AllByRecursion as All}
use Rattle.std.proofs.lemmas.Option.{same_Some, none-some}
use Rattle.tree_core.specs.declared.tree.Leaf.{Leaf}
use Rattle.tree_core.specs.declared.program.TreeProgram.{TreeProgram}
use Rattle.tree_core_forks.specs.Forks.{forks}
use Rattle.md_reader.specs.declared.types.Class.{Class}
use Rattle.md_reader.specs.declared.types.Rule.{Rule}
use Rattle.md_reader.specs.declared.types.Sym.{Sym}
use Rattle.md_reader.specs.declared.types.Sym.TheVariants as grammar_symbol
use Rattle.md_reader.specs.State.{Content}
use Rattle.sel_parse_lines.specs.lr_tables.specs.Statements.{stmt_of}
use Rattle.sel_parse_lines.specs.lr_check_parse.specs.Moves.{Move, Ending, Accepts, Blocks, Loops, Refuses, Parses}
use Rattle.sel_parse_lines.specs.lr_check_parse.specs.Moves as parse
use Rattle.sel_parse_lines.specs.lr_check_parse.specs.Attributes.{by_attributes, answered}
use Rattle.sel_target.specs.sel_terms.specs.Effects.{EffectShape}
use Rattle.sel_parse_lines.specs.sel_terms_trees.specs.Senses.{piled}
use Rattle.sel_target.specs.Meaning.{Meaning}
use Rattle.sel_target.specs.Laws.{IsLawful}
use Rattle.sel_parse_law.specs.sel_parse.specs.Shown.{IsShown}
use Rattle.sel_parse_lines.specs.sel_parse_moves.proofs.Covering.{known}
use Rattle.sel_parse_law.specs.sel_parse_desk.specs.Selected as desk
use Rattle.sel_parse_lines.specs.sel_parse_selected.specs.Entries.{Entry}
use Rattle.sel_parse_lines.specs.sel_parse_selected.specs.Desk.{Stack, desk_of, Outcome, Full, Stuck, Done}
use Rattle.sel_parse_lines.specs.sel_parse_selected.specs.Reductions.{reduced}
use Rattle.sel_parse_lines.specs.sel_parse_selected.specs.Selected.{Selected, Kept, kept_of, reduced_by, selecting, shifted}
use Rattle.sel_parse_lines.specs.sel_parse_selected.proofs.Restricting.{restricted}
use Rattle.sel_parse_law.specs.sel_parse_stands.specs.Lines.{LinesSave}
use Rattle.sel_parse_law.specs.sel_parse_stands.proofs.Parting.{taken_off, left_below}
use Rattle.sel_parse_law.specs.sel_parse_effect.specs.Claims.{IsFit}
use Rattle.sel_parse_law.specs.sel_parse_effect.proofs.Law.{lines_save}
use Rattle.sel_parse_lines.proofs.Each.{Each}
use Rattle.sel_parse_lines.proofs.Words.{selections_use_few_words}
use Rattle.sel_parse_law.specs.sel_parse_slots.specs.Claims as slots
use Rattle.sel_parse_law.specs.sel_parse_slots.proofs.Prefixes.{gamma}
use Rattle.sel_parse_law.specs.sel_parse_slots.proofs.Law as walk
use Rattle.sel_parse_law.specs.sel_parse_joined.proofs.Law.{same_code}
use Rattle.sel_parse_law.specs.Claims.{IsReady}
use Rattle.sel_parse_written.specs.Claims.{LinesPass, SelectionsPass, SelectionsAreWritten, SelectionsUseLowWords}
use Rattle.sel_parse_written.proofs.Classes.{AllKinds, kinds_parted}
use Rattle.sel_parse_written.proofs.Spilling.{Passes}
use Rattle.sel_parse_written.proofs.Reducing.{IsStacked, reduced_passes}

module _ {O I S F : Type 0} (of : Meaning O I S F) (law : IsLawful of) (q : TreeProgram) (can : of.can_write q) (d : Content) (fit : slots.IsTaken of d) (first : ℕ) (good : I → Bool)
    (pass : LinesPass of q d good) (lines : LinesSave of d) (k : ℕ) where
  abbrev Stacked : List Sym → Stack O I → Type 0
  Stacked a x = IsStacked of law q can d first good pass lines a x

  abbrev Before : List Leaf → List Sym → Kept O I → Type 0
  Before ws a x = walk.Before of law q can d fit first k ws a x

  abbrev Wrote : List Sym → Kept O I → Type 0
  Wrote a None = Unit {0}
  Wrote a (Some x) = Stacked a x

  abbrev Behind : Ending (Kept O I) → Type 0
  Behind (Accepts None) = Unit {0}
  Behind (Accepts (Some x)) = Passes of law q d first good pass lines x.code
  Behind Refuses = Unit {0}
  Behind (Blocks at) = Unit {0}
  Behind (Loops at) = Unit {0}

  accepted : (a : List Sym) (x : Kept O I) → Wrote a x → Behind (Accepts x)
  accepted a None h = tt
  accepted a (Some x) h = h.code

  shift : (l : Leaf) (a : List Sym) (x : Kept O I) → Wrote a x → Wrote (grammar_symbol.Tok l.tok ∷ a) (shifted l x)
  shift l a None h = tt
  shift l a (Some x) h = record { kinds = (tt, h.kinds); code = h.code }

  kept : (a : List Sym) (o : Outcome (Stack O I)) (z : Kept O I) → Each (Stacked a) o → kept_of o ≡ Some z → Wrote a z
  kept a Full z h e = absurd (none-some z e)
  kept a Stuck z h e = subst (Wrote a) (same_Some None z e) tt
  kept a (Done y) z h e = subst (Wrote a) (same_Some (Some y) z e) h

  module _ (n : ℕ) (r : Rule) (there : slice_get d.rules n ≡ Some r) (ws : List Leaf) (a : List Sym) (on : piled r.right (drop (length r.right) a) ≡ a) where
    abbrev others : List Sym
    others = drop (length r.right) a

    stack_passes : (x : Stack O I) → answered (selecting of q d first) r (Some x) ≡ true
        → walk.At of law q can d fit first k ws (piled r.right others) x → AllKinds d (piled r.right others) x.entries → Passes of law q d first good pass lines x.code
        → Each (Stacked (grammar_symbol.Class r.left ∷ others)) (reduced of q d first r x)
    stack_passes x holds h kinds code =
        let s = walk.split of law q can d fit first r.right others x.entries h.parts h.held in
        let valid = walk.is_valid of law q can d fit first k n r there ws a on in
        let effect = walk.has_effect of law q can d fit first k n r there ws a on in
        let parted = kinds_parted d r.right others s.symbols s.below s.size (subst (AllKinds d (piled r.right others)) s.entries_are kinds) in
        let below_is = ap (drop (length r.right)) s.entries_are ∙ left_below (length r.right) s.symbols s.below s.size in
        let symbols_are = ap (λ (l : List (Entry O)). reverse (take (length r.right) l)) s.entries_are ∙ taken_off (length r.right) s.symbols s.below s.size in
        reduced_passes of law q can d first good pass lines r valid effect.0 effect.1 others (k + 1) (map gamma s.low) (map gamma s.high) x
        (walk.begun_in of law q can d fit first k r valid effect.0 effect.1 ws others x h s)
        (record {
          below = subst (AllKinds d others) (sym below_is) parted.1;
          symbols = subst (AllKinds d r.right) (sym symbols_are) parted.0;
          code = code;
        })
        (restricted of q d first r.restrictions (desk_of (length r.right) x).symbols holds)

    reduce : (x z : Kept O I) → Before ws a x → Wrote a x → answered (selecting of q d first) r x ≡ true → reduced_by of q d first (Some r) x ≡ Some z → Wrote (grammar_symbol.Class r.left ∷ others) z
    reduce None z h g holds e = subst (Wrote (grammar_symbol.Class r.left ∷ others)) (same_Some None z e) tt
    reduce (Some x) z h g holds e =
        kept (grammar_symbol.Class r.left ∷ others) (reduced of q d first r x) z
        (stack_passes x holds (subst (λ (l : List Sym). walk.At of law q can d fit first k ws l x) (sym on) h)
        (subst (λ (l : List Sym). AllKinds d l x.entries) (sym on) g.kinds) g.code) e

  iterate : {at : ℕ} {before : List (List Sym)} {ws : List Leaf} {a : List Sym} {x : Kept O I} {log : List (Move Leaf)} {e : Ending (Kept O I)}
      → Parses (by_attributes (selecting of q d first)) d.rules (stmt_of d.classes) at before ws a x log e → Before ws a x → Wrote a x → Behind e
  iterate (parse.loops h) b g = tt
  iterate (parse.accepts {ws = ws} {a = a} {x = x} h s f) b g = accepted a x g
  iterate (parse.shifts {l = l} {ws = ws} {a = a} {x = x} h f s more) b g = iterate more (walk.shift of law q can d fit first k l ws a x b) (shift l a x g)
  iterate (parse.reduces {n = n} {ws = ws} {a = a} {x = x} {y = y} {z = z} r h c there red more) b g =
      let m = known (selecting of q d first) d.classes d.rules (stmt_of d.classes) ws a x n r y c there in
      let done = ap (λ o. reduced_by of q d first o x) (sym there) ∙ ap (λ u. reduced_by of q d first (slice_get d.rules n) u) m.same ∙ red in
      iterate more (walk.reduce of law q can d fit first k n r there ws a m.on x z b m.holds done) (reduce n r there ws a m.on x z b g m.holds done)
  iterate (parse.refuses r h c there red) b g = tt
  iterate (parse.blocks h c) b g = tt

-- each rule that is shown has an effect
all_taken : {O I S F : Type 0} (of : Meaning O I S F) (registers : ℕ) (classes : List Class) (rules : List Rule) → All (IsShown of.effect registers classes) rules
    → All (λ (r : Rule). (e : EffectShape) × (of.effect classes r ≡ Ok e)) rules
all_taken of registers classes [] h = tt
all_taken of registers classes (r ∷ rs) h = ((h.0.found, h.0.found_is), all_taken of registers classes rs h.1)

is_taken : {O I S F : Type 0} (of : Meaning O I S F) (d : Content) → IsFit of d → slots.IsTaken of d
is_taken of d fit = record { valid = fit.valid; taken = all_taken of _ d.classes d.rules fit.rules }

-- the selection that is computed is the one that the walk goes over
selected_of : {O I S F : Type 0} (of : Meaning O I S F) → IsLawful of → (q : TreeProgram) (d : Content) (first : ℕ) (w : List Leaf) (code : List I) (most : ℕ)
    → IsReady of q d first w → desk.Selected of q d first w code most → Selected of q d first w code most
selected_of of law q d first w code most h s =
    same_code of law q d first w code most (record { spelled = h.spelled; taken = is_taken of d h.fit; typed = h.typed; own = h.own }) s

pub selections_pass : {O I S F : Type 0} (of : Meaning O I S F) → IsLawful of → SelectionsPass of
selections_pass of law q d first w code most good h pass s =
    let fit = is_taken of d h.fit in
    iterate of law q h.spelled d fit first good pass (lines_save of d h.fit) (forks w) (selected_of of law q d first w code most h s).parsed
    (walk.begin of law q h.spelled d fit first w h.typed h.own) (record { kinds = tt; code = tt })

pub selections_are_written : {O I S F : Type 0} (of : Meaning O I S F) → IsLawful of → SelectionsAreWritten of
selections_are_written of law q d first w code most h s = selections_pass of law q d first w code most of.is_instr h pass s
  where
    pass : LinesPass of q d of.is_instr
    pass = record {
      rules = λ rule e hs result is_rule taken fits restricted spelled is.
          law.templates.lines_written q d.classes rule e hs result h.spelled is_rule taken fits restricted spelled is;
      values = λ size l a w saves is low. law.saves.value_written q size l a w h.spelled saves is low;
      places = λ size l o w saves fits low. law.saves.place_written q size l o w h.spelled saves fits low;
      addresses = λ l o w saves fits low. law.saves.address_written q l o w h.spelled saves fits low;
      reloads = λ l w r reloads few low. law.saves.reload_written q l w r h.spelled reloads few low;
    }

pub selections_use_low_words : {O I S F : Type 0} (of : Meaning O I S F) → IsLawful of → SelectionsUseLowWords of
selections_use_low_words of law q d first w code most h le s = selections_use_few_words of q d first w code most le (selected_of of law q d first w code most h s)
