-- Two pieces on terms: `movl $1,r2; addl3 -4(fp),r2,r3; movl r3,r0; ret` and `addl3 -4(fp),$1,r0; ret`.
use Rattle.std.proofs.Common.{◌≡◌, ℕ, false, List, [], ◌∷◌, Some, None, refl}
use Rattle.vax_pairs.specs.vax_core.specs.declared.register.Reg.TheVariants.{R0, R2, R3, Fp}
use Rattle.vax_pairs.specs.vax_core.specs.declared.operand.Base.{Base}
use Rattle.vax_pairs.specs.vax_core.specs.declared.operand.Base.TheVariants as bases
use Rattle.vax_pairs.specs.vax_core.specs.declared.operand.Operand.{Operand}
use Rattle.vax_pairs.specs.vax_core.specs.declared.op.Op.{Op}
use Rattle.vax_pairs.specs.vax_core.specs.declared.op.Op.TheVariants as ops
use Rattle.vax_pairs.specs.vax_core.specs.declared.code.CodeItem.{CodeItem}
use Rattle.vax_pairs.specs.vax_core.specs.declared.code.CodeItem.TheVariants as item_kind
use Rattle.vax_pairs.specs.Trees.{Tree}
use Rattle.vax_pairs.specs.SameTrees.{SameTree}
use Rattle.vax_pairs.specs.TermRuns.{run_tree}
use Rattle.vax_pairs.specs.Facts.{Fact, AreSo, first_begins, second_begins}

plain : Base → Operand
plain b = record { base = b; index = None }

one : Operand
one = plain (bases.Imm (record { name = None; offset = 1 }))

local : Operand
local = plain (bases.Disp (record { name = None; offset = 4294967292 }) Fp)

does : Op → List Operand → CodeItem
does op os = item_kind.Instr (record { op = op; operands = os; target = None })

cs : List CodeItem
cs = does ops.Movl (one ∷ (plain (bases.Reg R2) ∷ [])) ∷ (does ops.Addl3 (local ∷ (plain (bases.Reg R2) ∷ (plain (bases.Reg R3) ∷ []))) ∷
    (does ops.Movl (plain (bases.Reg R3) ∷ (plain (bases.Reg R0) ∷ [])) ∷ (does ops.Ret [] ∷ [])))

ds : List CodeItem
ds = does ops.Addl3 (local ∷ (one ∷ (plain (bases.Reg R0) ∷ []))) ∷ (does ops.Ret [] ∷ [])

module _ (At : ℕ → ℕ → ℕ → List Fact → Type 0) where
  pieces_say_the_same : (s : Tree) × ((t : Tree) × ((run_tree cs [] (λ p. false) 9 false 0 30 (first_begins []) ≡ Some s) × ((run_tree ds [] (λ p. false) 9 false 0 30 (second_begins []) ≡ Some t)
      × SameTree (List Fact) AreSo At cs ds 0 s t)))
  unfolding cs ds does one local plain
  pieces_say_the_same = (
    _,
    (
      _,
      (
        refl,
        (
          refl,
          (
            (refl, λ env h. refl),
            record {
              long = refl;
              others_long = refl;
              ap = λ env h. refl;
              fp = λ env h. refl;
              sp = λ env h. refl;
              result = λ env h. refl;
            },
          ),
        ),
      ),
    ),
  )
