-- A selection ends with a code, a full frame, or stuck.
use Rattle.std.proofs.Common.{◌≡◌, ◌⊎◌, inl, inr, ℕ, List, [], Some, None, refl, sym, subst}
use Rattle.tree_core.specs.declared.token.Sort.TheVariants as sort
use Rattle.tree_core.specs.declared.tree.Leaf.{Leaf}
use Rattle.tree_core.specs.declared.program.TreeProgram.{TreeProgram}
use Rattle.tree_core.specs.Trees.{IsTyped}
use Rattle.md_reader.specs.State.{Content}
use Rattle.md_reader.specs.Valid.{IsValid}
use Rattle.lr_checked.specs.lr_check.specs.declared.sample.Outcome.{Outcome}
use Rattle.lr_checked.specs.lr_check.specs.declared.sample.Outcome.TheVariants as outcome
use Rattle.lr_checked.specs.lr_check_parse.specs.Moves.{Move, Ending, Accepts, Blocks, Loops, Refuses}
use Rattle.lr_checked.specs.lr_check_parse.specs.Attributes.{by_attributes}
use Rattle.lr_checked.specs.lr_check_parse.specs.Lists.{EndsSo}
use Rattle.lr_checked.specs.lr_check_parse.specs.Claims.{questioned}
use Rattle.lr_checked.specs.lr_check_parse.specs.Typed.{IsStatement}
use Rattle.lr_checked.specs.lr_check_parse.proofs.Sources.{parse_answered}
use Rattle.lr_checked.specs.lr_check_parse.proofs.Typing.{leaves_are_tokens}
use Rattle.lr_checked.specs.lr_check_parse.proofs.Existence.{parse_has_end}
use Rattle.lr_checked.specs.Accepted.{NeverStops}
use Rattle.lr_checked.proofs.Drawn.{block_done, loop_done}
use Rattle.lr_checked.proofs.Law.{tokens_questioned}
use Rattle.sel_target.specs.Meaning.{Meaning}
use Rattle.sel_target.specs.Laws.{IsLawful}
use Rattle.sel_parse_slots.specs.sel_parse_moves.specs.Claims.{root}
use Rattle.sel_parse_slots.specs.sel_parse_selected.specs.Selected.{Kept, selecting, start, Parsed, Blocked, blocks, circles}
use Rattle.sel_parse_slots.proofs.Law.{has_room}
use Rattle.sel_parse_ends.specs.Claims.{HasCode, IsStuck, NeverBlocks, SelectionsEnd}

module _ {O I S F : Type 0} (of : Meaning O I S F) (q : TreeProgram) (d : Content) (first : ℕ) (w : List Leaf) (valid : IsValid d) (never : NeverStops d) (typed : IsTyped (root w) sort.Stmt)
  where
    done : (log : List (Move Leaf)) (e : Ending (Kept O I)) (o : Outcome) → Parsed of q d first w log e → EndsSo e o → o ≡ outcome.Done
    done log e o p h =
        let by = by_attributes (selecting of q d first) in
        let a = parse_answered by d valid 0 [] w [] (start of q d first) log e o p h in
        never.only (questioned by w a.to_come) o (subst IsStatement (sym (tokens_questioned by w a.to_come)) (leaves_are_tokens w typed)) a.ends

    not_blocked : Blocked of q d first w → ⊥
    not_blocked (blocks log at p) = block_done at (done log (Blocks at) (outcome.Blocks at) p refl)
    not_blocked (circles log at p) = loop_done at (done log (Loops at) (outcome.Loops at) p refl)

pub never_blocks : {O I S F : Type 0} (of : Meaning O I S F) → NeverBlocks of
never_blocks of q d first w valid never typed h = not_blocked of q d first w valid never typed h

pub selections_end : {O I S F : Type 0} (of : Meaning O I S F) → IsLawful of → SelectionsEnd of
selections_end {O = O} {I = I} of law q t first w can fit numbered never typed own room =
    let p = parse_has_end (by_attributes (selecting of q t.content first)) t fit.valid numbered w (start of q t.content first) in
    by p.0 p.1 p.2
  where
    by : (log : List (Move Leaf)) (e : Ending (Kept O I)) → Parsed of q t.content first w log e → HasCode of q t.content first w ⊎ IsStuck of q t.content first w
    by log (Accepts None) p = inr (record { log = log; parsed = p })
    by log (Accepts (Some x)) p = inl (record { code = x.code; most = x.most; selected = record { log = log; entries = x.entries; parsed = p } })
    by log (Blocks at) p = absurd (never_blocks of q t.content first w fit.valid never typed (blocks log at p))
    by log (Loops at) p = absurd (never_blocks of q t.content first w fit.valid never typed (circles log at p))
    by log Refuses p = absurd (has_room of law q t.content first w can fit typed own room (record { log = log; parsed = p }))
