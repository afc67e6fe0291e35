-- What is found of a text.
use Rattle.std.specs.Prelude.{◌≡◌, ℕ, List, length}
use Rattle.md_reader.specs.declared.faults.DescKind.{DescKind}
use Rattle.md_reader.specs.declared.faults.DescFault.{DescFault}
use Rattle.md_reader.specs.declared.faults.DescFault.TheVariants as desc_fault
use Rattle.md_reader.specs.State.{Content}
use Rattle.md_reader.specs.Desc.{Desc, Refused}
use Rattle.md_reader.specs.First.{IsFirst}
use Rattle.lr_tables.specs.View.{TableView}
use Rattle.lr_tables.specs.Promises.{IsNumbered, HasTooManySets}
use Rattle.ggdesk_rules.specs.declared.found.Finding.{Finding}
use Rattle.ggdesk_rules.specs.declared.found.Finding.TheVariants as finding

-- a wrong line is told
abbrev pub Says : DescFault → Finding → Type 0
Says desc_fault.NoMemory f = ⊥
Says (desc_fault.Line line kind) f = f ≡ finding.Wrong line kind

pub data Tells (bytes : List ℕ) : Finding → Type 0 where
  -- the bytes are a description whose tables have so many states
  has_tables : {rules states : ℕ} (t : TableView) →
      Desc bytes t.content → IsNumbered t → rules ≡ length t.content.rules → states ≡ length t.rows →
      Tells bytes (finding.Tables rules states)
  -- they are none, and this is the first wrong line
  is_wrong : {line : ℕ} {kind : DescKind} →
      Refused bytes (desc_fault.Line line kind) → IsFirst bytes (desc_fault.Line line kind) →
      Tells bytes (finding.Wrong line kind)
  -- they are a description with more than `MAX_STATES` item sets
  is_full : (d : Content) → Desc bytes d → HasTooManySets d → Tells bytes finding.Full
