-- Where the objects of a program lie.
use Rattle.std.specs.Prelude.{◌≡◌, ◌≤◌, ℕ, ◌+◌, List, [], ◌∷◌}
use Rattle.gg_base.specs.declared.limits.TheConstants.{AREA_START}
use Rattle.tree_core.specs.declared.program.Object.{Object}
use Rattle.c_typed_scope.specs.Layout.{aligned}

-- an object begins at the next multiple of its element's size behind this address, and ends at most `AREA_LIMIT` bytes past
-- address `AREA_START`
pub record LiesBehind (end : ℕ) (o : Object) : Type 0 where
  pub begins : o.address ≡ aligned end o.align
  pub within : o.address + o.size ≤ 1114112

-- one behind another, from this address on, and where the last one ends
abbrev pub LieFrom : ℕ → List Object → ℕ → Type 0
LieFrom end [] last = last ≡ end
LieFrom end (o ∷ os) last = LiesBehind end o × LieFrom (o.address + o.size) os last

-- the objects lie one behind another from address `AREA_START` on
pub record AreLaid (os : List Object) : Type 0 where
  pub last : ℕ
  pub lie : LieFrom AREA_START os last
