-- What is selected in the worked rows.
use Rattle.std.specs.Prelude.{◌≡◌, pos, negsuc, [], ◌∷◌, Some, None, true, false}
use Rattle.gg_base.specs.declared.limits.TheConstants.{NEED_LIMIT}
use Rattle.gg_base.specs.declared.size.Size.TheVariants.{Byte, Long}
use Rattle.sel_target.specs.md_reader.specs.declared.types.Kind.TheVariants as kind
use Rattle.sel_target.specs.md_reader.specs.declared.types.Restriction.TheVariants.{Same, Range, Signed}
use Rattle.lr_check_parse.specs.Attributes.{holds}
use Rattle.sel_target.specs.declared.attr.Attr.TheVariants as attr
use Rattle.sel_toy_machine.specs.declared.operand.Operand.TheVariants as operand
use Rattle.sel_toy_machine.specs.declared.operand.Source.TheVariants.{Read, Address}
use Rattle.sel_toy_machine.specs.declared.operand.Destination.TheVariants as destination
use Rattle.sel_toy_machine.specs.declared.operand.Instr.TheVariants.{Move as MoveTo}
use Rattle.sel_toy_machine.specs.Sample.{program}
use Rattle.sel_toy_machine.specs.Toy.{toy}
use Rattle.sel_parse_selected.specs.Desk.{Full, Stuck, Done}
use Rattle.sel_parse_selected.specs.Reductions.{reduced}
use Rattle.sel_parse_selected.specs.Selected.{selecting, start, made}
use Rattle.sel_parse_selected.specs.Examples.{constant, description, moves, code, entry, waiting, asked}

pub record Rows : Type 0 where
  -- the tree's code, with slots from word 5 on, of which one is used
  pub tree : made toy program (description 3) 5 moves (start toy program (description 3) 5)
      ≡ Some (Some (record { entries = entry (Some kind.Nothing) attr.Nothing ∷ []; code = code; most = 6 }))
  -- without a slot it is refused
  pub refused : made toy program (description 3) NEED_LIMIT moves (start toy program (description 3) NEED_LIMIT) ≡ None
  -- the address of a place goes to a word, and the place is then at the word's address; the most words were more
  pub place : reduced toy program (description 3) 5 constant waiting
      ≡ Done (record {
        entries =
            entry (Some kind.Reg) (attr.Reg 0) ∷ entry (Some kind.Reg) (attr.Reg 1)
            ∷ entry (Some (kind.Place Byte)) (attr.Place (operand.Deferred 5)) ∷ [];
        code =
            MoveTo Long (Address (operand.Based 0)) (destination.Word 5) ∷ MoveTo Long (Read (operand.Number 7))
            (destination.Register 0) ∷ [];
        most = 8;
      })
  pub full : reduced toy program (description 3) NEED_LIMIT constant waiting ≡ Full
  -- of no register none can be free
  pub stuck : reduced toy program (description 0) 5 constant (record { entries = []; code = []; most = 5 }) ≡ Stuck
  -- questions
  pub same : holds (selecting toy program (description 3) 5) asked (Same 1 2) ≡ true
  pub other_size : holds (selecting toy program (description 3) 5) asked (Same 1 3) ≡ false
  pub within : holds (selecting toy program (description 3) 5) asked (Range 4 (negsuc 0) (pos 1)) ≡ true
  pub without : holds (selecting toy program (description 3) 5) asked (Range 4 (pos 0) (pos 1)) ≡ false
  pub unsigned : holds (selecting toy program (description 3) 5) asked (Signed 5) ≡ false
