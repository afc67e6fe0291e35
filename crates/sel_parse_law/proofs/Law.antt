-- What is true of the selection over which the laws are proved is true of the one that is computed.
use Rattle.std.proofs.Common.{◌≡◌, ℕ, ◌-◌, ◌<◌, ◌≤◌, List, [], ◌∷◌, ◌++◌, length, take, Some, None, Bool, true, false, refl, ap, ◌∙◌, subst, arith, length-append}
use Rattle.std.specs.Prelude.{cond, count_ones, nat_lt, Ok}
use Rattle.std.specs.List.{AllByRecursion as All}
use Rattle.std.proofs.lemmas.Option.{none-some}
use Rattle.gg_base.specs.declared.size.Size.TheVariants.{Long}
use Rattle.tree_core.specs.declared.token.Tok.{Tok}
use Rattle.tree_core.specs.declared.token.Tok.TheVariants as tok
use Rattle.tree_core.specs.declared.tree.Att.{Att}
use Rattle.tree_core.specs.declared.tree.Att.TheVariants as att
use Rattle.tree_core.specs.declared.tree.Leaf.{Leaf}
use Rattle.tree_core.specs.declared.program.TreeProgram.{TreeProgram}
use Rattle.tree_core.specs.Attributes.{leaf_fits, end_leaf}
use Rattle.tree_core.specs.Trees.{leaves_onto}
use Rattle.tree_meaning.specs.State.{State, Extent}
use Rattle.md_reader.specs.declared.types.Rule.{Rule}
use Rattle.md_reader.specs.declared.types.Sym.TheVariants as grammar_symbol
use Rattle.md_reader.specs.State.{Content}
use Rattle.sel_parse_registers.specs.lr_check_parse.specs.Moves.{Move, Ending, Accepts, Blocks, Loops, Refuses}
use Rattle.sel_parse_registers.specs.lr_check_parse.specs.Attributes.{by_attributes}
use Rattle.sel_parse_registers.specs.lr_check_parse.proofs.Existence.{parse_has_end}
use Rattle.sel_parse_ends.specs.lr_checked.specs.Accepted.{NeverStops}
use Rattle.sel_parse_registers.specs.sel_regs.specs.Need.{need}
use Rattle.sel_target.specs.sel_terms.specs.Effects.{EffectShape}
use Rattle.sel_parse_registers.specs.sel_terms_trees.specs.Senses.{OfLeaf}
use Rattle.sel_target.specs.declared.attr.Attr.TheVariants as attr
use Rattle.sel_target.specs.Meaning.{Meaning}
use Rattle.sel_target.specs.Laws.{IsLawful}
use Rattle.sel_parse_registers.specs.sel_parse.specs.Shown.{IsShown}
use Rattle.sel_parse_registers.specs.sel_parse_moves.specs.Claims.{root}
use Rattle.sel_parse_registers.specs.sel_parse_moves.proofs.Covering.{AreLeaves}
use Rattle.sel_parse_registers.specs.sel_parse_moves.proofs.Moves.{leaves_of}
use Rattle.sel_parse_registers.specs.sel_parse_moves.proofs.Piles.{leaves_before}
use Rattle.sel_parse_registers.specs.sel_parse_selected.specs.Selected as selected
use Rattle.sel_parse_registers.specs.sel_parse_stands.specs.Stands as stands
use Rattle.sel_parse_registers.specs.sel_parse_stands.specs.Stands.{NamedBy, Names, Sees}
use Rattle.sel_parse_registers.specs.sel_parse_stands.proofs.Symbols.{symbol_fits}
use Rattle.sel_parse_registers.specs.sel_parse_effect.specs.Claims.{frame_sight, IsFit, Begins}
use Rattle.sel_parse_registers.specs.sel_parse_effect.proofs.Law as effect
use Rattle.sel_parse_registers.specs.sel_parse_effect.proofs.Law.{frame}
use Rattle.sel_parse_registers.specs.sel_parse_slots.specs.Claims.{IsOwn, IsTaken}
use Rattle.sel_parse_registers.specs.sel_parse_slots.proofs.Law as slots
use Rattle.sel_parse_ends.proofs.Law as ends
use Rattle.sel_parse_registers.specs.Claims.{HasRegisters}
use Rattle.sel_parse_registers.proofs.Law.{never_lacks}
use Rattle.sel_parse_joined.specs.Claims.{IsSelectable}
use Rattle.sel_parse_joined.proofs.Law.{same_code, same_full, whole, ending}
use Rattle.sel_parse_joined.specs.sel_parse_desk.specs.Selected as desk
use Rattle.sel_parse_joined.specs.sel_parse_desk.specs.Selected.{tree_of}
use Rattle.sel_parse_law.specs.Claims.{EndsTree, CodeHasEffect, IsReady, UsesFewSlots, HasRoom, NeverBlocks, HasCode, TreesHaveCode}

-- ---- a tree with its End

all_but_last : (v : List Leaf) (e : Leaf) → take (length v) (v ++ e ∷ []) ≡ v
all_but_last [] e = refl
all_but_last (l ∷ v) e = ap (λ (w : List Leaf). l ∷ w) (all_but_last v e)

pub ends_tree : EndsTree
ends_tree w h = subst (λ (u : List Leaf). root (tree_of u) ≡ u) (leaves_before h.trees [] (end_leaf ∷ []) ∙ h.spelled) (by (leaves_onto h.trees []))
  where
    by : (v : List Leaf) → root (tree_of (v ++ end_leaf ∷ [])) ≡ v ++ end_leaf ∷ []
    by v =
        let one : length (v ++ end_leaf ∷ []) - 1 ≡ length v = omega (arith, length-append v (end_leaf ∷ [])) in
        ap (λ (u : List Leaf). u ++ end_leaf ∷ []) (ap (λ n. take n (v ++ end_leaf ∷ [])) one ∙ all_but_last v end_leaf)

-- ---- what was shown of a description

module _ {O I S F : Type 0} (of : Meaning O I S F) (d : Content) where
  effects : (rules : List Rule) → All (IsShown of.effect (count_ones d.pool) d.classes) rules → All (λ (r : Rule). (e : EffectShape) × (of.effect d.classes r ≡ Ok e)) rules
  effects [] h = tt
  effects (r ∷ rules) h = ((h.0.found, h.0.found_is), effects rules h.1)

  few_registers : (rules : List Rule) → All (IsShown of.effect (count_ones d.pool) d.classes) rules → All (λ (r : Rule). need d.classes r ≤ count_ones d.pool) rules
  few_registers [] h = tt
  few_registers (r ∷ rules) h = (h.0.fits, few_registers rules h.1)

  is_taken : IsFit of d → IsTaken of d
  is_taken fit = record { valid = fit.valid; taken = effects d.rules fit.rules }

  has_registers : IsFit of d → HasRegisters d
  has_registers fit = few_registers d.rules fit.rules

-- ---- what leaves name, operands name

module _ {O I S F : Type 0} (of : Meaning O I S F) (law : IsLawful of) (q : TreeProgram) (d : Content) (first : ℕ) (f : Extent) (fs : List Extent) (t : State) (m : S)
    (begins : Begins of q first f fs t m) where
  sees : Sees of q d first f fs t (frame_sight of f t m) m m
  sees = record { agrees = begins.agrees; room = begins.room; locals = λ k n e. by k n (nat_lt k f.locals) e }
    where
      by : (k n : ℕ) (b : Bool) → cond b (of.reads (of.local k) Long m) None ≡ Some n → of.reads (of.local k) Long m ≡ Some n
      by k n true g = g
      by k n false g = absurd (none-some n g)

  own_local : (x : Tok) (a : Att) → NamedBy of q d first f fs t (frame_sight of f t m) m x a → (k : ℕ) → x ≡ tok.Loc → a ≡ att.Slot k → k < first
  own_local x a named k e g =
      let here : NamedBy of q d first f fs t (frame_sight of f t m) m tok.Loc (att.Slot k) =
      subst (λ b. NamedBy of q d first f fs t (frame_sight of f t m) m tok.Loc b) g (subst (λ y. NamedBy of q d first f fs t (frame_sight of f t m) m y a) e named) in
      let within = begins.own in
      omega (arith, here, within)

  own_leaf : (l : Leaf) → leaf_fits l ≡ true → Names of q d first f fs t (frame_sight of f t m) m l → IsOwn q first l.tok l.att
  own_leaf l fit named =
      let framed = frame of law q d first f fs t m begins in
      let fits =
      symbol_fits of law q d first f fs t (frame_sight of f t m) m framed m sees (grammar_symbol.Tok l.tok) None (attr.Token l) (OfLeaf l) tt (stands.token l fit named) in
      record { in_frame = fits.2; own_local = λ k e g. own_local l.tok l.att named.0 k e g; spelled = named.1 }

  own_leaves : (w : List Leaf) → AreLeaves w → All (Names of q d first f fs t (frame_sight of f t m) m) w → All (λ (l : Leaf). IsOwn q first l.tok l.att) w
  own_leaves [] h k = tt
  own_leaves (l ∷ w) h k = (own_leaf l h.0 k.0, own_leaves w h.2 k.1)

pub code_has_effect : {O I S F : Type 0} (of : Meaning O I S F) → IsLawful of → CodeHasEffect of
code_has_effect of law q d first f fs t m w code most stores fit begins computed within typed names possible calm =
    let selectable : IsSelectable of q d first w =
    record { spelled = begins.spelled; taken = is_taken of d fit; typed = typed; own = own_leaves of law q d first f fs t m begins w (leaves_of w typed) names } in
    effect.selected_has_effect of law q d first f fs t m w code most stores fit begins (same_code of law q d first w code most selectable computed) within typed names possible calm

-- ---- what a tree's selection uses, and how it ends

selectable : {O I S F : Type 0} (of : Meaning O I S F) (q : TreeProgram) (d : Content) (first : ℕ) (w : List Leaf) → IsReady of q d first w → IsSelectable of q d first w
selectable of q d first w h = record { spelled = h.spelled; taken = is_taken of d h.fit; typed = h.typed; own = h.own }

pub uses_few_slots : {O I S F : Type 0} (of : Meaning O I S F) → IsLawful of → UsesFewSlots of
uses_few_slots of law q d first w code most h computed =
    slots.uses_few_slots of law q d first w code most h.spelled (is_taken of d h.fit) h.typed h.own (same_code of law q d first w code most (selectable of q d first w h) computed)

pub has_room : {O I S F : Type 0} (of : Meaning O I S F) → IsLawful of → HasRoom of
has_room of law q d first w h le full = slots.has_room of law q d first w h.spelled (is_taken of d h.fit) h.typed h.own le (same_full of law q d first w (selectable of q d first w h) full)

module _ {O I S F : Type 0} (of : Meaning O I S F) (law : IsLawful of) (q : TreeProgram) (d : Content) (first : ℕ) (w : List Leaf) (h : IsReady of q d first w) (never : NeverStops d) where
  not_blocked : (log : List (Move Leaf)) (at : ℕ) → selected.Parsed of q d first w log (Blocks at) → ⊥
  not_blocked log at p = ends.never_blocks of q d first w h.fit.valid never h.typed (selected.blocks log at p)

  no_circle : (log : List (Move Leaf)) (at : ℕ) → selected.Parsed of q d first w log (Loops at) → ⊥
  no_circle log at p = ends.never_blocks of q d first w h.fit.valid never h.typed (selected.circles log at p)

  not_lacking : (log : List (Move Leaf)) → selected.Parsed of q d first w log (Accepts None) → ⊥
  not_lacking log p = never_lacks of law q d first w log h.spelled (is_taken of d h.fit) (has_registers of d h.fit) h.typed h.own p

  -- a parse accepts with something kept, or finds the frame full
  abbrev IsWell : Ending (desk.Kept O I) → Type 0
  IsWell (Accepts None) = ⊥
  IsWell (Accepts (Some x)) = Unit {0}
  IsWell (Blocks at) = ⊥
  IsWell (Loops at) = ⊥
  IsWell Refuses = Unit {0}

  well : (log : List (Move Leaf)) (e : Ending (desk.Kept O I)) → desk.Parsed of q d first w log e → IsWell e
  well log e p = (let s = whole of law q d first w (selectable of q d first w h) log e p in subst IsWell s.ends (by s.end s.parse_of))
    where
      by : (e : Ending (selected.Kept O I)) → selected.Parsed of q d first w log e → IsWell (ending of law q d first e)
      by (Accepts None) p = not_lacking log p
      by (Accepts (Some x)) p = tt
      by (Blocks at) p = not_blocked log at p
      by (Loops at) p = no_circle log at p
      by Refuses p = tt

pub never_blocks : {O I S F : Type 0} (of : Meaning O I S F) → IsLawful of → NeverBlocks of
never_blocks of law q d first w h never blocked = by blocked
  where
    by : desk.Blocked of q d first w → ⊥
    by (desk.blocks log at p) = well of law q d first w h never log (Blocks at) p
    by (desk.circles log at p) = well of law q d first w h never log (Loops at) p
    by (desk.lacks log p) = well of law q d first w h never log (Accepts None) p

pub trees_have_code : {O I S F : Type 0} (of : Meaning O I S F) → IsLawful of → TreesHaveCode of
trees_have_code {O = O} {I = I} of law q t first w h numbered never room =
    let p = parse_has_end (by_attributes (desk.selecting of q t.content first)) t h.fit.valid numbered w (desk.start of q t.content first) in
    by p.0 p.1 p.2
  where
    by : (log : List (Move Leaf)) (e : Ending (desk.Kept O I)) → desk.Parsed of q t.content first w log e → HasCode of q t.content first w
    by log (Accepts None) p = absurd (well of law q t.content first w h never log (Accepts None) p)
    by log (Accepts (Some x)) p = record { code = x.code; most = x.most; selected = record { log = log; entries = x.entries; parsed = p } }
    by log (Blocks at) p = absurd (well of law q t.content first w h never log (Blocks at) p)
    by log (Loops at) p = absurd (well of law q t.content first w h never log (Loops at) p)
    by log Refuses p = absurd (has_room of law q t.content first w h room (record { log = log; parsed = p }))
