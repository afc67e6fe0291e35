-- No selection lacks a register that is due.
use Rattle.std.proofs.Common.{◌≡◌, ℕ, zero, suc, ◌+◌, ◌≤◌, List, [], ◌∷◌, length, map, take, drop, slice_get, Some, None, sym, ap, ◌∙◌, subst, arith}
use Rattle.std.specs.Prelude.{count_ones}
use Rattle.std.specs.List.{AllByRecursion}
use Rattle.std.proofs.lemmas.Option.{none-some, same_Some}
use Rattle.tree_core.specs.declared.tree.Leaf.{Leaf}
use Rattle.tree_core.specs.declared.program.TreeProgram.{TreeProgram}
use Rattle.tree_core_forks.specs.Forks.{forks}
use Rattle.md_reader.specs.declared.types.Rule.{Rule}
use Rattle.md_reader.specs.declared.types.Sym.{Sym}
use Rattle.md_reader.specs.State.{Content}
use Rattle.sel_parse_slots.specs.lr_tables.specs.Statements.{stmt_of}
use Rattle.sel_parse_slots.specs.lr_check_parse.specs.Moves.{Move, Ending, Accepts, Blocks, Loops, Refuses, Parses}
use Rattle.sel_parse_slots.specs.lr_check_parse.specs.Moves as parse
use Rattle.sel_parse_slots.specs.lr_check_parse.specs.Attributes.{by_attributes}
use Rattle.sel_regs.specs.Need.{need}
use Rattle.sel_parse_slots.specs.sel_terms_trees.specs.Senses.{piled}
use Rattle.sel_target.specs.Meaning.{Meaning}
use Rattle.sel_target.specs.Laws.{IsLawful}
use Rattle.sel_parse_slots.specs.sel_parse_moves.proofs.Covering.{known}
use Rattle.sel_parse_slots.specs.sel_parse_selected.specs.Desk.{Stack, desk_of, Outcome, Full, Stuck, Done}
use Rattle.sel_parse_slots.specs.sel_parse_selected.specs.Reductions.{reduced}
use Rattle.sel_parse_slots.specs.sel_parse_selected.specs.Selected.{Kept, shifted, kept_of, reduced_by, selecting}
use Rattle.sel_parse_slots.specs.sel_parse_stands.proofs.Saving.{token_none}
use Rattle.sel_parse_slots.specs.Claims.{IsTaken}
use Rattle.sel_parse_slots.proofs.Counts.{tick}
use Rattle.sel_parse_slots.proofs.Law as walk
use Rattle.sel_parse_slots.proofs.Prefixes.{gamma}
use Rattle.sel_parse_registers.specs.Claims.{HasRegisters, NeverLacks}
use Rattle.sel_parse_registers.proofs.Pools.{total_reverse, total_parted}
use Rattle.sel_parse_registers.proofs.Owning.{Had, holds, Owned, OwnedAt}
use Rattle.sel_parse_registers.proofs.Serving.{OwnedStack, reduced_had}

module _ {O I S F : Type 0} (of : Meaning O I S F) (law : IsLawful of) (q : TreeProgram) (can : of.can_write q) (d : Content) (fit : IsTaken of d) (enough : HasRegisters d) (first k : ℕ) where
  -- something is kept, in which each register is held by one entry at most
  abbrev OwnedKept : Kept O I → Type 0
  OwnedKept None = ⊥
  OwnedKept (Some x) = Owned of d x.entries

  abbrev Before : List Leaf → List Sym → Kept O I → Type 0
  Before ws a x = walk.Before of law q can d fit first k ws a x × OwnedKept x

  abbrev Behind : Ending (Kept O I) → Type 0
  Behind (Accepts None) = ⊥
  Behind (Accepts (Some x)) = Unit {0}
  Behind (Blocks at) = Unit {0}
  Behind (Loops at) = Unit {0}
  Behind Refuses = Unit {0}

  accepted : (x : Kept O I) → OwnedKept x → Behind (Accepts x)
  accepted None h = h
  accepted (Some x) h = tt

  shifted_owned : (l : Leaf) (ws : List Leaf) (a : List Sym) (x : Kept O I) → Before (l ∷ ws) a x → OwnedKept (shifted l x)
  shifted_owned l ws a None b = b.1
  shifted_owned l ws a (Some x) b = λ r lt. (
      let none = ap tick (token_none of law l.tok l.att r b.0.leaves.0 b.0.own.0.in_frame) in
      let before = b.1 r lt in
      omega (arith, none, before))

  -- set apart, all entries are there
  apart_owned : (n : ℕ) (x : Stack O I) → Owned of d x.entries → OwnedAt of d (desk_of n x)
  apart_owned n x h r lt =
      let a = total_reverse (holds of r) (take n x.entries) in
      let b = total_parted (holds of r) n x.entries in
      let c = h r lt in
      omega (arith, a, b, c)

  needs_at : (rules : List Rule) (n : ℕ) (r : Rule) → AllByRecursion (λ (r : Rule). need d.classes r ≤ count_ones d.pool) rules → slice_get rules n ≡ Some r → need d.classes r ≤ count_ones d.pool
  needs_at [] n r h e = absurd (none-some r e)
  needs_at (y ∷ rules) zero r h e = subst (λ (r : Rule). need d.classes r ≤ count_ones d.pool) (same_Some y r e) h.0
  needs_at (y ∷ rules) (suc n) r h e = needs_at rules n r h.1 e

  went : (o : Outcome (Stack O I)) → Had (OwnedStack of law q can d fit.valid.pool first) o → (z : Kept O I) → kept_of o ≡ Some z → OwnedKept z
  went Full h z e = absurd (none-some z e)
  went Stuck h z e = absurd h
  went (Done y) h z e = subst OwnedKept (same_Some (Some y) z e) h

  reduced_owned : (n : ℕ) (r : Rule) → slice_get d.rules n ≡ Some r → (ws : List Leaf) (a : List Sym) → piled r.right (drop (length r.right) a) ≡ a → (x z : Kept O I) → Before ws a x
      → reduced_by of q d first (Some r) x ≡ Some z → OwnedKept z
  reduced_owned n r there ws a on None z h e = absurd h.1
  reduced_owned n r there ws a on (Some x) z h e =
      let b = drop (length r.right) a in
      let h' : walk.At of law q can d fit first k ws (piled r.right b) x = subst (λ l. walk.At of law q can d fit first k ws l x) (sym on) h.0 in
      let s = walk.split of law q can d fit first r.right b x.entries h'.parts h'.held in
      let valid = walk.is_valid of law q can d fit first k n r there ws a on in
      let effect = walk.has_effect of law q can d fit first k n r there ws a on in
      went (reduced of q d first r x)
      (reduced_had of law q can d fit.valid.pool first r valid effect.0 effect.1 b (k + 1) (map gamma s.low) (map gamma s.high) x
      (walk.begun_in of law q can d fit first k r valid effect.0 effect.1 ws b x h' s) (apart_owned (length r.right) x h.1) (needs_at d.rules n r enough there))
      z e

  iterate : {at : ℕ} {before : List (List Sym)} {ws : List Leaf} {a : List Sym} {x : Kept O I} {log : List (Move Leaf)} {e : Ending (Kept O I)}
      → Parses (by_attributes (selecting of q d first)) d.rules (stmt_of d.classes) at before ws a x log e → Before ws a x → Behind e
  iterate (parse.loops h) b = tt
  iterate (parse.accepts {x = x} h s f) b = accepted x b.1
  iterate (parse.shifts {l = l} {ws = ws} {a = a} {x = x} h f s more) b = iterate more (walk.shift of law q can d fit first k l ws a x b.0, shifted_owned l ws a x b)
  iterate (parse.reduces {n = n} {ws = ws} {a = a} {x = x} {y = y} {z = z} r h c there red more) b =
      let m = known (selecting of q d first) d.classes d.rules (stmt_of d.classes) ws a x n r y c there in
      let made = ap (λ o. reduced_by of q d first o x) (sym there) ∙ ap (λ u. reduced_by of q d first (slice_get d.rules n) u) m.same ∙ red in
      iterate more (walk.reduce of law q can d fit first k n r there ws a m.on x z b.0 m.holds made, reduced_owned n r there ws a m.on x z b made)
  iterate (parse.refuses r h c there red) b = tt
  iterate (parse.blocks h c) b = tt

pub never_lacks : {O I S F : Type 0} (of : Meaning O I S F) → IsLawful of → NeverLacks of
never_lacks of law q d first w log can fit enough typed own p =
    iterate of law q can d fit enough first (forks w) p (walk.begin of law q can d fit first w typed own, λ r lt. omega arith)
