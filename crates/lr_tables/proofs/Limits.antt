-- The limit on item sets, for a description.
use Rattle.std.proofs.Common.{◌≡◌, ℕ, List, length, subst}
use Rattle.md_reader.specs.declared.types.Rule.{Rule}
use Rattle.md_reader.specs.State.{Content}
use Rattle.md_reader.specs.Valid.{IsValid}
use Rattle.lr_tables.specs.Numbering.{IsOver}
use Rattle.lr_tables.specs.Over.{HasTooMany}
use Rattle.lr_tables.specs.Built.{IsRows}
use Rattle.lr_tables.specs.Statements.{stmt_of}
use Rattle.lr_tables.specs.View.{RowView}
use Rattle.lr_tables.proofs.Counting.{too_many, not_too_many}
use Rattle.lr_tables.proofs.Validity.{is_grammar}

-- what the code reads of a description is the description's
at_description : (P : List Rule → ℕ → ℕ → Type 0) (d : Content) (rules : List Rule) (stmt classes : ℕ) → rules ≡ d.rules → stmt ≡ stmt_of d.classes → classes ≡ length d.classes
    → P rules stmt classes → P d.rules (stmt_of d.classes) (length d.classes)
at_description P d rules stmt classes e f g h = subst (λ (c : ℕ). P d.rules (stmt_of d.classes) c) g (subst (λ (s : ℕ). P d.rules s classes) f (subst (λ (r : List Rule). P r stmt classes) e h))

pub built_few : (d : Content) → IsValid d → (rules : List Rule) (stmt classes : ℕ) (table : List RowView) → rules ≡ d.rules → stmt ≡ stmt_of d.classes → classes ≡ length d.classes
    → IsRows rules stmt classes table → HasTooMany d.rules (stmt_of d.classes) → ⊥
built_few d v rules stmt classes table e f g h many =
    let b : IsRows d.rules (stmt_of d.classes) (length d.classes) table = at_description (λ r s c. IsRows r s c table) d rules stmt classes e f g h in
    not_too_many d.rules (stmt_of d.classes) (length d.classes) (is_grammar d v) (length table) b.many b.few many

pub full_many : (d : Content) → IsValid d → (rules : List Rule) (stmt classes : ℕ) → rules ≡ d.rules → stmt ≡ stmt_of d.classes → classes ≡ length d.classes → IsOver rules stmt classes
    → HasTooMany d.rules (stmt_of d.classes)
full_many d v rules stmt classes e f g h =
    too_many d.rules (stmt_of d.classes) (length d.classes) (is_grammar d v) (at_description (λ r s c. IsOver r s c) d rules stmt classes e f g h)
