-- The code that is selected of a program's trees keeps them.
use Rattle.std.proofs.Common.{◌≡◌, List, None, sym, subst}
use Rattle.tree_core.specs.declared.program.TreeProgram.{TreeProgram}
use Rattle.md_reader.specs.State.{Content}
use Rattle.sel_parse_joined.specs.sel_parse_effect.specs.Claims.{IsFit}
use Rattle.vax_core.specs.declared.code.Code.{Code}
use Rattle.vax_core.specs.declared.code.AreaItem.{AreaItem}
use Rattle.vax_machine.specs.Labels.{undefined_label}
use Rattle.gg_compile_names.specs.vax_target_meaning.specs.Vax.{vax}
use Rattle.gg_compile_effect.specs.gg_compile_law.specs.Assembled.{AreFunctions}
use Rattle.gg_compile_effect.specs.gg_compile_law.specs.Written.{IsWritten}
use Rattle.gg_compile_effect.specs.gg_compile_law.proofs.Law.{written_codes_load, written_codes_follow}
use Rattle.gg_compile_names.proofs.Standing.{labels_stand}
use Rattle.gg_compile_code.specs.Selecting.{SelectedAll}
use Rattle.gg_compile_keeps.specs.Programs.{IsSelectable}
use Rattle.gg_compile_keeps.specs.Claims.{SelectedCodesKeepTrees}
use Rattle.gg_compile_keeps.proofs.Functions.{functions}
use Rattle.gg_compile_keeps.proofs.Names.{all_named}

pub is_written : (q : TreeProgram) (d : Content) (c : Code) → IsSelectable q → IsFit vax d → SelectedAll vax d q c → IsWritten q c
is_written q d c ok fit s =
    let fs : AreFunctions q q.functions c.items = functions q ok d fit q.functions c.items (λ k g e. (k, e)) s.functions in
    record {
      valid = ok.valid;
      small = ok.small;
      apart = ok.apart;
      numbers = ok.numbers;
      functions = fs;
      area = s.area;
      names = subst (λ (a : List AreaItem). undefined_label c.items a c.items ≡ None) (sym s.area) (all_named q ok d fit c.items (labels_stand q c.items fs) s.functions);
    }

pub selected_codes_keep_trees : SelectedCodesKeepTrees
selected_codes_keep_trees q d c ok fit s =
    let w = is_written q d c ok fit s in
    record {
      loads = written_codes_load q c w;
      follows = λ source input bytes follows. written_codes_follow q c w source input bytes follows;
    }
