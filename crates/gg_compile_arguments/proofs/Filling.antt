-- Each step of a selection keeps a test of attributes that lasts, and so each instruction is a line filled by what passes it. Registers
-- are those below 12.
use Rattle.std.proofs.Common.{◌≡◌, ℕ, zero, suc, ◌+◌, ◌<◌, arith, List, [], ◌∷◌, length, map, Option, Some, None, Bool, true, false, cond, refl, ap, ◌∙◌, subst}
use Rattle.std.specs.Prelude.{take, slice_get}
use Rattle.std.specs.List.{AllByRecursion as All}
use Rattle.std.proofs.lemmas.Option.{same_Some, none-some}
use Rattle.gg_base.proofs.Facts.{all_append, all_get}
use Rattle.vax_target_meaning.specs.tree_core.specs.declared.tree.Leaf.{Leaf}
use Rattle.vax_target_meaning.specs.tree_core.specs.declared.program.TreeProgram.{TreeProgram}
use Rattle.vax_target_meaning.specs.md_reader_pieces.specs.declared.piece.Line.{Line}
use Rattle.vax_target_meaning.specs.md_reader.specs.declared.types.Kind.{Kind}
use Rattle.vax_target_meaning.specs.md_reader.specs.declared.types.Kind.TheVariants as kind
use Rattle.vax_target_meaning.specs.md_reader.specs.declared.types.Rule.{Rule}
use Rattle.vax_target_meaning.specs.md_reader.specs.declared.types.Give.{Give}
use Rattle.vax_target_meaning.specs.md_reader.specs.declared.types.Give.TheVariants as give
use Rattle.vax_target_meaning.specs.md_reader.specs.declared.types.Sym.{Sym}
use Rattle.vax_target_meaning.specs.md_reader.specs.Patterns.{kind_at}
use Rattle.vax_target_meaning.specs.md_reader.specs.State.{Content}
use Rattle.sel_parse_lines.specs.sel_parse_moves.specs.lr_tables.specs.Statements.{stmt_of}
use Rattle.sel_parse_lines.specs.sel_parse_moves.specs.lr_check_parse.specs.Moves.{Move, Ending, Accepts, Blocks, Loops, Refuses, Parses}
use Rattle.sel_parse_lines.specs.sel_parse_moves.specs.lr_check_parse.specs.Moves as parse
use Rattle.sel_parse_lines.specs.sel_parse_moves.specs.lr_check_parse.specs.Attributes.{by_attributes}
use Rattle.vax_target_meaning.specs.sel_target.specs.declared.attr.Attr.{Attr}
use Rattle.vax_target_meaning.specs.sel_target.specs.declared.attr.Attr.TheVariants as attr
use Rattle.vax_target_meaning.specs.sel_target.specs.Meaning.{Meaning}
use Rattle.vax_target_meaning.specs.sel_target.specs.Instances.{hole}
use Rattle.vax_target_meaning.specs.sel_target.specs.Symbols.{constant_of, saving_line, first_hole, reload_line, lowest}
use Rattle.sel_parse_lines.specs.sel_parse_selected.specs.Entries.{Entry, attrs}
use Rattle.sel_parse_lines.specs.sel_parse_selected.specs.Desk.{Stack, Desk, desk_of, Outcome, Full, Stuck, Done, is_free_register, free_register, free_slot}
use Rattle.sel_parse_lines.specs.sel_parse_selected.specs.Spills.{Where, Below, Among, victim, entry_at, in_slot, entry_in_slot, put_below, put_among, saved, saved_in, spilled, with_free, due_by, due}
use Rattle.sel_parse_lines.specs.sel_parse_selected.specs.Reductions.{loaded, reloaded_by, reloaded_at, reloaded, finished, own_register, own_number, shaped}
use Rattle.sel_parse_lines.specs.sel_parse_selected.specs.Reductions.{with_result, with_scratch, given_by, reduced}
use Rattle.sel_parse_lines.specs.sel_parse_selected.specs.Selected.{Kept, kept_of, reduced_by, selecting, shifted, start, Selected}
use Rattle.sel_parse_lines.specs.sel_parse_moves.proofs.Covering.{known}
use Rattle.sel_parse_lines.specs.Claims.{IsFilled}
use Rattle.sel_parse_lines.proofs.Each.{all_take, all_drop, all_reverse, all_set, Each, each_bind}

-- the lowest number that passes is one of those that are tried
lowest_below : (passes : ℕ → Bool) (k n r : ℕ) → lowest passes k n ≡ Some r → r < k + n
lowest_below passes k zero r e = absurd cc
lowest_below passes k (suc n) r e = by (passes k) e (λ f. lowest_below passes (k + 1) n r f)
  where
    by : (b : Bool) → cond b (Some k) (lowest passes (k + 1) n) ≡ Some r → (lowest passes (k + 1) n ≡ Some r → r < k + 1 + n) → r < k + suc n
    by true f more = let same = same_Some k r f in omega (arith, same)
    by false f more = let low = more f in omega (arith, low)

-- A test of attributes that lasts: words of the frame, numbers and registers below 12 pass it, and a shape passes it whose holes do.
pub record Lasts {O I S F : Type 0} (of : Meaning O I S F) (q : TreeProgram) (good : Attr O → Bool) : Type 0 where
  pub register : (r : ℕ) → r < 12 → good (attr.Reg r) ≡ true
  pub in_slot : (w : ℕ) → good (attr.InSlot w) ≡ true
  pub number : (n : ℕ) → good (attr.Con n) ≡ true
  pub nothing : good attr.Nothing ≡ true
  pub slot_value : (w : ℕ) → good (attr.Value (of.slot w)) ≡ true
  pub slot_place : (w : ℕ) → good (attr.Place (of.slot w)) ≡ true
  pub deferred_place : (w : ℕ) → good (attr.Place (of.slot_deferred w)) ≡ true
  pub deferred_address : (w : ℕ) → good (attr.Ea (of.slot_deferred w)) ≡ true
  pub shape_value : (l : Line) (hs : List (Attr O)) → All (λ a. good a ≡ true) hs → good (attr.Value (of.operand q l hs)) ≡ true
  pub shape_place : (l : Line) (hs : List (Attr O)) → All (λ a. good a ≡ true) hs → good (attr.Place (of.operand q l hs)) ≡ true
  pub shape_address : (l : Line) (hs : List (Attr O)) → All (λ a. good a ≡ true) hs → good (attr.Ea (of.operand q l hs)) ≡ true

module _ {O I S F : Type 0} (of : Meaning O I S F) (q : TreeProgram) (d : Content) (first : ℕ) (good : Attr O → Bool) (lasts : Lasts of q good) where
  abbrev Passes : Attr O → Type 0
  Passes a = good a ≡ true

  abbrev AllPass : List (Entry O) → Type 0
  AllPass es = All (λ (e : Entry O). Passes e.attr) es

  abbrev Filled : List I → Type 0
  Filled is = All (IsFilled of q good) is

  record Passing (desk : Desk O I) : Type 0 where
    below : AllPass desk.below
    symbols : AllPass desk.symbols
    code : Filled desk.code

  record Passed (x : Stack O I) : Type 0 where
    entries : AllPass x.entries
    code : Filled x.code

  holes_pass : (es : List (Entry O)) → AllPass es → All Passes (attrs es)
  holes_pass [] h = tt
  holes_pass (e ∷ es) h = (h.0, holes_pass es h.1)

  -- ---- an entry goes to a slot

  slot_passes : (a : Attr O) (w : ℕ) → Passes a → Passes (in_slot of a w)
  slot_passes (attr.Reg r) w h = lasts.in_slot w
  slot_passes (attr.InSlot u) w h = h
  slot_passes (attr.Value o) w h = lasts.slot_value w
  slot_passes (attr.Place o) w h = lasts.deferred_place w
  slot_passes (attr.Con n) w h = h
  slot_passes (attr.Ea o) w h = lasts.deferred_address w
  slot_passes (attr.Token l) w h = h
  slot_passes attr.Nothing w h = h

  below_set : (es : List (Entry O)) (p : Where) (e : Entry O) → AllPass es → Passes e.attr → AllPass (put_below of es p e)
  below_set es (Below i) e h k = all_set (λ (x : Entry O). Passes x.attr) es i e h k
  below_set es (Among i) e h k = h

  among_set : (es : List (Entry O)) (p : Where) (e : Entry O) → AllPass es → Passes e.attr → AllPass (put_among of es p e)
  among_set es (Below i) e h k = h
  among_set es (Among i) e h k = all_set (λ (x : Entry O). Passes x.attr) es i e h k

  saved_passes : (desk : Desk O I) (p : Where) (e : Entry O) (w : ℕ) → Passing desk → Passes e.attr → Passing (saved of q d first desk p e w)
  saved_passes desk p e w h k = record {
    below = below_set desk.below p (entry_in_slot of e w) h.below (slot_passes e.attr w k);
    symbols = among_set desk.symbols p (entry_in_slot of e w) h.symbols (slot_passes e.attr w k);
    code = all_append (IsFilled of q good) desk.code _ h.code
        (record { line = saving_line d e.kind; holes = e.attr ∷ []; result = attr.Place (of.slot w); is = refl; holes_pass = (k, tt); result_passes = lasts.slot_place w }, tt);
  }

  entry_passes : (desk : Desk O I) (p : Where) (e : Entry O) → Passing desk → entry_at of desk p ≡ Some e → Passes e.attr
  entry_passes desk (Below i) e h at = all_get (λ (x : Entry O). Passes x.attr) desk.below i e h.below at
  entry_passes desk (Among i) e h at = all_get (λ (x : Entry O). Passes x.attr) desk.symbols i e h.symbols at

  saved_in_passes : (desk : Desk O I) (p : Where) (e : Option (Entry O)) (w : Option ℕ) → Passing desk → entry_at of desk p ≡ e → Each Passing (saved_in of q d first desk p e w)
  saved_in_passes desk p None w h at = tt
  saved_in_passes desk p (Some e) None h at = tt
  saved_in_passes desk p (Some e) (Some w) h at = saved_passes desk p e w h (entry_passes desk p e h at)

  spilled_passes : (desk : Desk O I) (p : Option Where) → Passing desk → Each Passing (spilled of q d first desk p)
  spilled_passes desk None h = tt
  spilled_passes desk (Some p) h = saved_in_passes desk p (entry_at of desk p) (free_slot of first desk) h refl

  -- ---- a register that is due

  abbrev OnDesk : ℕ × Desk O I → Type 0
  OnDesk p = Passing p.1 × (p.0 < 12)

  is_low : (given : Bool) (desk : Desk O I) (r : ℕ) → free_register of d given desk ≡ Some r → r < 12
  is_low given desk r e = lowest_below (is_free_register of d given desk) 0 12 r e

  free_passes : (given : Bool) (desk : Desk O I) (r : Option ℕ) → free_register of d given desk ≡ r → Passing desk → Each OnDesk (with_free of q d first desk r)
  free_passes given desk None e h = tt
  free_passes given desk (Some r) e h = (h, is_low given desk r e)

  due_by_passes : (given : Bool) (desk : Desk O I) (r : Option ℕ) → free_register of d given desk ≡ r → Passing desk → Each OnDesk (due_by of q d first given desk r)
  due_by_passes given desk None e h =
      each_bind Passing OnDesk (spilled of q d first desk (victim of given desk)) (λ x. with_free of q d first x (free_register of d given x)) (spilled_passes desk (victim of given desk) h)
      (λ x k. free_passes given x (free_register of d given x) refl k)
  due_by_passes given desk (Some r) e h = (h, is_low given desk r e)

  due_passes : (given : Bool) (desk : Desk O I) → Passing desk → Each OnDesk (due of q d first given desk)
  due_passes given desk h = due_by_passes given desk (free_register of d given desk) refl h

  -- ---- reloads

  loaded_passes : (i : ℕ) (e : Entry O) (w : ℕ) (p : ℕ × Desk O I) → OnDesk p → Each Passing (loaded of q d first i e w p)
  loaded_passes i e w p h = record {
    below = h.0.below;
    symbols = all_set (λ (x : Entry O). Passes x.attr) p.1.symbols i (record { kind = e.kind; attr = attr.Reg p.0 }) h.0.symbols (lasts.register p.0 h.1);
    code = all_append (IsFilled of q good) p.1.code _ h.0.code
        (record { line = reload_line d; holes = attr.Value (of.slot w) ∷ []; result = attr.Reg p.0; is = refl; holes_pass = (lasts.slot_value w, tt); result_passes = lasts.register p.0 h.1 }, tt);
  }

  reload_passes : (i : ℕ) (desk : Desk O I) (e : Entry O) (a : Attr O) → Passing desk → Each Passing (reloaded_by of q d first i desk e a)
  reload_passes i desk e (attr.Reg r) h = h
  reload_passes i desk e (attr.InSlot w) h = each_bind OnDesk Passing (due of q d first false desk) (loaded of q d first i e w) (due_passes false desk h) (λ p k. loaded_passes i e w p k)
  reload_passes i desk e (attr.Value o) h = h
  reload_passes i desk e (attr.Place o) h = h
  reload_passes i desk e (attr.Con n) h = h
  reload_passes i desk e (attr.Ea o) h = h
  reload_passes i desk e (attr.Token l) h = h
  reload_passes i desk e attr.Nothing h = h

  reloaded_at_passes : (i : ℕ) (desk : Desk O I) (e : Option (Entry O)) → Passing desk → Each Passing (reloaded_at of q d first i desk e)
  reloaded_at_passes i desk None h = h
  reloaded_at_passes i desk (Some e) h = reload_passes i desk e e.attr h

  reloaded_passes : (n i : ℕ) (desk : Desk O I) → Passing desk → Each Passing (reloaded of q d first n i desk)
  reloaded_passes zero i desk h = h
  reloaded_passes (suc n) i desk h =
      each_bind Passing Passing (reloaded_at of q d first i desk (slice_get desk.symbols i)) (reloaded of q d first n (i + 1)) (reloaded_at_passes i desk (slice_get desk.symbols i) h)
      (λ x k. reloaded_passes n (i + 1) x k)

  -- ---- the rule's lines, and what it gives

  lines_filled : (rule : Rule) (hs : List (Attr O)) (res : Attr O) → All Passes hs → Passes res → (ls : List Line) → Filled (map (λ (l : Line). of.instr q l hs res) ls)
  lines_filled rule hs res h k [] = tt
  lines_filled rule hs res h k (l ∷ ls) =
      (record { line = l; holes = hs; result = res; is = refl; holes_pass = h; result_passes = k }, lines_filled rule hs res h k ls)

  finished_passes : (rule : Rule) (result given : Attr O) (desk : Desk O I) → Passing desk → Passes result → Passes given → Each Passed (finished of q d first rule result given desk)
  finished_passes rule result given desk h k g = record {
    entries = (g, h.below);
    code = all_append (IsFilled of q good) desk.code _ h.code (lines_filled rule (attrs desk.symbols) result (holes_pass desk.symbols h.symbols) k rule.lines);
  }

  hole_passes : (hs : List (Attr O)) (i : ℕ) (o : Option (Attr O)) → All Passes hs → hole hs i ≡ o → Passes (own_register of q d first o)
  hole_passes hs i None h e = lasts.nothing
  hole_passes hs zero (Some a) h e = absurd (none-some a e)
  hole_passes hs (suc i) (Some a) h e = all_get Passes hs i a h e

  number_passes : (o : Option (Attr O)) → Passes (own_number of q d first o)
  number_passes None = lasts.nothing
  number_passes (Some a) = by (constant_of q a) refl
    where
      by : (n : Option ℕ) → constant_of q a ≡ n → Passes (own_number of q d first (Some a))
      by None e = rw e lasts.nothing
      by (Some n) e = rw e (lasts.number n)

  shaped_passes : (k : Option Kind) (l : Line) (hs : List (Attr O)) → All Passes hs → Passes (shaped of q d first k l hs)
  shaped_passes (Some kind.Reg) l hs h = hole_passes hs (first_hole l.pieces) (hole hs (first_hole l.pieces)) h refl
  shaped_passes (Some (kind.Value z)) l hs h = lasts.shape_value l hs h
  shaped_passes (Some (kind.Place z)) l hs h = lasts.shape_place l hs h
  shaped_passes (Some kind.Con) l hs h = number_passes (hole hs (first_hole l.pieces))
  shaped_passes (Some kind.Ea) l hs h = lasts.shape_address l hs h
  shaped_passes (Some kind.Nothing) l hs h = lasts.nothing
  shaped_passes None l hs h = lasts.nothing

  given_passes : (rule : Rule) (g : Give) (desk : Desk O I) → Passing desk → Each Passed (given_by of q d first rule g desk)
  given_passes rule give.Fresh desk h =
      each_bind OnDesk Passed (due of q d first false desk) (with_result of q d first rule) (due_passes false desk h)
      (λ p k. finished_passes rule (attr.Reg p.0) (attr.Reg p.0) p.1 k.0 (lasts.register p.0 k.1) (lasts.register p.0 k.1))
  given_passes rule give.Reuse desk h =
      each_bind OnDesk Passed (due of q d first true desk) (with_result of q d first rule) (due_passes true desk h)
      (λ p k. finished_passes rule (attr.Reg p.0) (attr.Reg p.0) p.1 k.0 (lasts.register p.0 k.1) (lasts.register p.0 k.1))
  given_passes rule give.Scratch desk h =
      each_bind OnDesk Passed (due of q d first false desk) (with_scratch of q d first rule) (due_passes false desk h)
      (λ p k. finished_passes rule (attr.Reg p.0) attr.Nothing p.1 k.0 (lasts.register p.0 k.1) lasts.nothing)
  given_passes rule give.Nothing desk h = finished_passes rule attr.Nothing attr.Nothing desk h lasts.nothing lasts.nothing
  given_passes rule (give.Shape l) desk h =
      finished_passes rule attr.Nothing (shaped of q d first (kind_at d.classes rule.left) l (attrs desk.symbols)) desk h lasts.nothing
      (shaped_passes (kind_at d.classes rule.left) l (attrs desk.symbols) (holes_pass desk.symbols h.symbols))

  desk_passes : (n : ℕ) (x : Stack O I) → Passed x → Passing (desk_of n x)
  desk_passes n x h = record {
    below = all_drop (λ (e : Entry O). Passes e.attr) n x.entries h.entries;
    symbols = all_reverse (λ (e : Entry O). Passes e.attr) (take n x.entries) (all_take (λ (e : Entry O). Passes e.attr) n x.entries h.entries);
    code = h.code;
  }

  reduced_passes : (rule : Rule) (x : Stack O I) → Passed x → Each Passed (reduced of q d first rule x)
  reduced_passes rule x h =
      each_bind Passing Passed (reloaded of q d first (length rule.right) 0 (desk_of (length rule.right) x)) (given_by of q d first rule rule.give)
      (reloaded_passes (length rule.right) 0 (desk_of (length rule.right) x) (desk_passes (length rule.right) x h)) (λ y k. given_passes rule rule.give y k)

  -- ---- the parse

  abbrev Before : Kept O I → Type 0
  Before None = Unit {0}
  Before (Some x) = Passed x

  abbrev Behind : Ending (Kept O I) → Type 0
  Behind (Accepts x) = Before x
  Behind Refuses = Unit {0}
  Behind (Blocks at) = Unit {0}
  Behind (Loops at) = Unit {0}

  abbrev Tokens : List Leaf → Type 0
  Tokens ws = All (λ (l : Leaf). Passes (attr.Token l)) ws

  shift : (l : Leaf) (x : Kept O I) → Passes (attr.Token l) → Before x → Before (shifted l x)
  shift l None p h = tt
  shift l (Some x) p h = record { entries = (p, h.entries); code = h.code }

  kept : (o : Outcome (Stack O I)) (z : Kept O I) → Each Passed o → kept_of o ≡ Some z → Before z
  kept Full z h e = absurd (none-some z e)
  kept Stuck z h e = subst Before (same_Some None z e) tt
  kept (Done y) z h e = subst Before (same_Some (Some y) z e) h

  reduce : (r : Option Rule) (x z : Kept O I) → Before x → reduced_by of q d first r x ≡ Some z → Before z
  reduce None x z h e = subst Before (same_Some None z e) tt
  reduce (Some r) None z h e = subst Before (same_Some None z e) tt
  reduce (Some r) (Some x) z h e = kept (reduced of q d first r x) z (reduced_passes r x h) e

  iterate : {at : ℕ} {before : List (List Sym)} {ws : List Leaf} {a : List Sym} {x : Kept O I} {log : List (Move Leaf)} {e : Ending (Kept O I)}
      → Parses (by_attributes (selecting of q d first)) d.rules (stmt_of d.classes) at before ws a x log e → Tokens ws → Before x → Behind e
  iterate (parse.loops h) t b = tt
  iterate (parse.accepts h s f) t b = b
  iterate (parse.shifts {l = l} {x = x} h f s more) t b = iterate more t.1 (shift l x t.0 b)
  iterate (parse.reduces {n = n} {ws = ws} {a = a} {x = x} {y = y} {z = z} r h c there red more) t b =
      let m = known (selecting of q d first) d.classes d.rules (stmt_of d.classes) ws a x n r y c there in
      iterate more t (reduce (slice_get d.rules n) x z b (ap (λ u. reduced_by of q d first (slice_get d.rules n) u) m.same ∙ red))
  iterate (parse.refuses r h c there red) t b = tt
  iterate (parse.blocks h c) t b = tt

  pub filled : (w : List Leaf) (log : List (Move Leaf)) (x : Stack O I) → Tokens w
      → Parses (by_attributes (selecting of q d first)) d.rules (stmt_of d.classes) 0 [] w [] (start of q d first) log (Accepts (Some x)) → Filled x.code
  filled w log x t p = (iterate p t (record { entries = tt; code = tt })).code

pub selections_are_filled : {O I S F : Type 0} (of : Meaning O I S F) (q : TreeProgram) (d : Content) (first : ℕ) (w : List Leaf) (code : List I) (most : ℕ) (good : Attr O → Bool)
    → Lasts of q good → All (λ (l : Leaf). good (attr.Token l) ≡ true) w → Selected of q d first w code most → All (IsFilled of q good) code
selections_are_filled of q d first w code most good lasts tokens s =
    filled of q d first good lasts w s.log (record { entries = s.entries; code = code; most = most }) tokens s.parsed
