-- Chains of jumps, and branches that go where they lead.
use Rattle.std.specs.Prelude.{◌≡◌, ◌<◌, ℕ, zero, suc, ◌+◌, List, [], ◌∷◌, Some, slice_get}
use Rattle.vax_core.specs.declared.op.Op.TheVariants.{Jbr}
use Rattle.vax_core.specs.declared.code.Instr.{Instr}
use Rattle.vax_core.specs.declared.code.Code.{Code}
use Rattle.vax_core.specs.declared.code.CodeItem.{CodeItem}
use Rattle.vax_core.specs.declared.code.CodeItem.TheVariants as item_kind
use Rattle.vax_machine.specs.declared.function.Action.TheVariants.{Branch}
use Rattle.vax_machine.specs.declared.function.Test.{Test}
use Rattle.vax_machine.specs.Functions.{action_of}
use Rattle.vax_machine.specs.Labels.{next_item, label_place}
use Rattle.vax_alike.specs.Alike.{Alike}

module _ (cs : List CodeItem) where
  -- So many jumps lead from a label to another: behind each label before the last, with only labels and `.globl` lines between, stands a
  -- jump to the next one.
  pub data Leads : ℕ → List ℕ → List ℕ → Type 0 where
    here : {l : List ℕ} → Leads zero l l
    on : {n : ℕ} {l k m : List ℕ} (i : Instr) → slice_get cs (next_item cs (label_place cs l)) ≡ Some (item_kind.Instr i)
        → i.op ≡ Jbr → i.target ≡ Some k → Leads n k m → Leads (suc n) l m

  -- no jump stands behind the label: a chain ends there
  pub record Ends (l : List ℕ) : Type 0 where
    pub none : (i : Instr) (k : List ℕ) → slice_get cs (next_item cs (label_place cs l)) ≡ Some (item_kind.Instr i)
        → i.op ≡ Jbr → i.target ≡ Some k → ⊥

  -- The second list is the first, but so many branches go to where a chain of at least one jump leads from their label and ends.
  pub data Turned : ℕ → List CodeItem → List CodeItem → Type 0 where
    nothing : Turned 0 [] []
    kept : {k : ℕ} {xs ys : List CodeItem} (x : CodeItem) → Turned k xs ys → Turned k (x ∷ xs) (x ∷ ys)
    turned : {k : ℕ} {xs ys : List CodeItem} (i : Instr) (t : Test) (n : ℕ) (l m : List ℕ) → action_of i.op ≡ Branch t
        → i.target ≡ Some l → Leads (suc n) l m → Ends m → Turned k xs ys
        → Turned (suc k) (item_kind.Instr i ∷ xs) (item_kind.Instr (record i { target = Some m }) ∷ ys)

-- The second code is the first with some branches going to where a chain of jumps leads from their label.
pub record IsTurned (c d : Code) : Type 0 where
  pub area : d.area ≡ c.area
  pub number : ℕ
  pub items : Turned c.items number c.items d.items

-- Each branch goes to the end of the chain from its label, if the chain has an end: it doesn't where it turns in a circle.
pub record HasNoChain (items : List CodeItem) : Type 0 where
  pub each : (p : ℕ) (i : Instr) (t : Test) (l m : List ℕ) (n : ℕ) → slice_get items p ≡ Some (item_kind.Instr i)
      → action_of i.op ≡ Branch t → i.target ≡ Some l → Leads items n l m → Ends items m → m ≡ l

-- As many branches are turned as were counted, and none is left to turn where the count isn't at its end.
pub record TurnsChains (before after : ℕ) (c d : Code) : Type 0 where
  pub turns : IsTurned c d
  pub counts : after ≡ before + turns.number
  pub settled : after < 18446744073709551615 → HasNoChain d.items

abbrev pub TurnedIsAlike : Type 0
TurnedIsAlike = (c d : Code) → IsTurned c d → Alike c d
