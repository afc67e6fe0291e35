-- The second stack, on which the memory locals of calls lie: a pointer to the first byte that is free, and the area, the last two objects.
use Rattle.std.specs.Prelude.{ℕ, [], codes, Result, Ok}
use Rattle.c_types.specs.declared.typed.TheConstants.{BLOCK_LIMIT}
use Rattle.c_types.specs.Answers.{Fault, ◌>>=◌}
use Rattle.c_typed_scope.specs.Layout.{Area, placed}
use Rattle.c_typed_scope.specs.Contents.{Filled, filled_to, with_link, filled}

-- the bytes of the area
abbrev pub stack_size : ℕ
stack_size = BLOCK_LIMIT

abbrev pub nothing : Filled
nothing = record { bytes = []; links = [] }

-- at first the pointer holds the address of the area, which is zeros
unfoldable pub opened : ℕ → ℕ → Area → Area
opened sp area a = filled area (filled_to stack_size nothing) (filled sp (filled_to 4 (with_link a.objects area nothing)) a)

-- DataFull is a fault of the text's end
unfoldable pub with_stack : ℕ → Area → Result Area Fault
with_stack at a = placed at (codes "T_sp") 4 4 [] a >>= λ sp. placed at (codes "T_area") 4 stack_size [] sp.1 >>= λ area.
    Ok (opened sp.0 area.0 area.1)
