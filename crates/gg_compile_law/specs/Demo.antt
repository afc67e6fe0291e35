-- One program, to see that all premises can be met: `main` writes a byte and returns 0.
use Rattle.std.specs.Prelude.{ℕ, List, [], ◌∷◌, ◌++◌, codes, Some}
use Rattle.gg_base.specs.Follows.{Follows}
use Rattle.vax_core.specs.declared.op.Op.TheVariants.{Pushl, Calls}
use Rattle.vax_core.specs.declared.code.Code.{Code}
use Rattle.vax_core.specs.declared.code.Instr.{Instr}
use Rattle.vax_core.specs.declared.code.CodeItem.{CodeItem}
use Rattle.vax_core.specs.First.{putchar_name, imm}
use Rattle.vax_machine.specs.Running.{run}
use Rattle.tree_core.specs.declared.token.Tok.TheVariants as tok
use Rattle.tree_core.specs.declared.tree.Att.TheVariants as att
use Rattle.tree_core.specs.declared.program.TreeItem.TheVariants as tree_item
use Rattle.tree_core.specs.declared.program.TreeFn.{TreeFn}
use Rattle.tree_core.specs.declared.program.TreeProgram.{TreeProgram}
use Rattle.tree_core.specs.Attributes.{end_leaf}
use Rattle.tree_core.specs.Names.{function_label}
use Rattle.tree_meaning.specs.Meaning.{tree_run}
use Rattle.vax_machine_lists.specs.Sound.{AllBelow}
use Rattle.vax_frames_law.specs.vax_frames.specs.Frames.{instr, code_items, end_code, frame_items}

-- Push 72; Call putchar 1; Ret 0
abbrev pub demo_main : TreeFn
demo_main = record {
  name = codes "main";
  args = 0;
  locals = 0;
  wanted = [];
  items =
      tree_item.Root (record { tok = tok.Push; att = att.Nothing } ∷ (record { tok = tok.Const; att = att.Number 72 } ∷ (end_leaf ∷ [])))
      ∷ (tree_item.Root (record { tok = tok.Call; att = att.Callee 1 1 } ∷ (end_leaf ∷ []))
      ∷ (tree_item.Root (record { tok = tok.Ret; att = att.Nothing } ∷ (record { tok = tok.Zero; att = att.Number 0 } ∷
      (end_leaf ∷ []))) ∷ []));
}

abbrev pub demo : TreeProgram
demo = record { functions = demo_main ∷ []; objects = [] }

-- its code: `pushl $72`, `calls $1,_putchar`, `clrl r0` and `ret`, and the end of `main`
abbrev pub push_code : ℕ → List Instr
push_code n = instr Pushl (imm n ∷ []) ∷ []

abbrev pub call_code : ℕ → List ℕ → List Instr
call_code count name = record { op = Calls; operands = imm count ∷ []; target = Some name } ∷ []

abbrev pub demo_body : List CodeItem
demo_body = code_items (push_code 72) ++ (code_items (call_code 1 putchar_name) ++ (code_items end_code ++ []))

abbrev pub demo_code : Code
demo_code = record { area = []; items = frame_items (function_label (codes "main")) 0 0 demo_body ++ [] }

-- the code's run follows the program's on every input of bytes
abbrev pub DemoFollows : Type 0
DemoFollows = (input : List ℕ) → AllBelow 256 input → Follows (tree_run demo input) (run demo_code input)
