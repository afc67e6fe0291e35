-- How long items are in a section.
use Rattle.std.proofs.Common.{◌≡◌, ℕ, ◌+◌, ◌<◌, ◌≤◌, Bool, true, false, cond, List, [], ◌∷◌, ◌++◌, length, Option, Some, None, refl, sym, ap, subst, arith, length-append}
use Rattle.gg_base.specs.declared.size.Size.{Size}
use Rattle.gg_base.specs.declared.size.Size.TheVariants.{Byte, Word, Long}
use Rattle.gg_base.specs.Sizes.{bytes_of}
use Rattle.vax_core.specs.declared.code.Instr.{Instr}
use Rattle.vax_core.specs.declared.code.CodeItem.{CodeItem}
use Rattle.vax_core.specs.declared.code.CodeItem.TheVariants as item_kind
use Rattle.vax_machine.specs.Functions.{action_of}
use Rattle.vax_machine.specs.Labels.{is_call}
use Rattle.vax_image_format.specs.Opcodes.{is_branch, is_conditional}
use Rattle.vax_image_format.specs.Specifiers.{field}
use Rattle.vax_image_format.specs.Instructions.{before_field, plain_bytes, way, head_bytes, tail_bytes, target_size, target_length, item_length, item_bytes}
use Rattle.vax_image_format.specs.Sections.{text_bytes, text_marks}

pub field_length : (size : Size) (n : ℕ) → length (field size n) ≡ bytes_of size
field_length Byte n = refl
field_length Word n = refl
field_length Long n = refl

-- items are as long as is said

tail_length : (labels : List ℕ → Option ℕ) (end : ℕ) (form : Size) (i : Instr) (target : Option (List ℕ)) → length (tail_bytes labels end (target_size form i) target) ≡ target_length form i target
tail_length labels end form i None = refl
tail_length labels end form i (Some label) = field_length (target_size form i) (way end (labels label))

pub item_is_long : (labels : List ℕ → Option ℕ) (at : ℕ) (form : Size) (item : CodeItem) → length (item_bytes labels at form item) ≡ item_length form item
item_is_long labels at form (item_kind.Label name) = refl
item_is_long labels at form (item_kind.Globl name) = refl
item_is_long labels at form (item_kind.Mask mask) = refl
item_is_long labels at form (item_kind.Instr i) =
    let end = at + item_length form (item_kind.Instr i) in
    omega (arith, length-append (head_bytes form i) (tail_bytes labels end (target_size form i) i.target), tail_length labels end form i i.target)

-- the section of an item and those behind it
pub more_text : (labels : List ℕ → Option ℕ) (at : ℕ) (item : CodeItem) (items : List CodeItem) (form : Size) (forms : List Size)
    → length (text_bytes labels at (item ∷ items) (form ∷ forms)) ≡ item_length form item + length (text_bytes labels (at + item_length form item) items forms)
more_text labels at item items form forms =
    omega (arith, length-append (item_bytes labels at form item) (text_bytes labels (at + item_length form item) items forms), item_is_long labels at form item)

-- an instruction has a byte at least

pub record HasBytes (bytes : List ℕ) : Type 0 where
  pub first : ℕ
  pub tail : List ℕ
  pub is : bytes ≡ first ∷ tail

pub head_has : (form : Size) (i : Instr) → HasBytes (head_bytes form i)
head_has form i = by (is_branch (action_of i.op)) (is_call (action_of i.op)) form (is_conditional (action_of i.op))
  where
    by : (a b : Bool) (form : Size) (c : Bool) → HasBytes (cond a (before_field form c i.op) (cond b (plain_bytes i ++ 0xef ∷ []) (plain_bytes i)))
    by true b Byte c = record { first = _; tail = _; is = refl }
    by true b Word false = record { first = _; tail = _; is = refl }
    by true b Word true = record { first = _; tail = _; is = refl }
    by true b Long false = record { first = _; tail = _; is = refl }
    by true b Long true = record { first = _; tail = _; is = refl }
    by false true form c = record { first = _; tail = _; is = refl }
    by false false form c = record { first = _; tail = _; is = refl }

pub some_length : (head : List ℕ) → HasBytes head → 0 < length head
some_length head h = subst (λ (n : ℕ). 0 < n) (sym (ap length h.is)) (omega arith)

-- there is a mark or a byte for each item

pub head_some : (form : Size) (i : Instr) → 0 < length (head_bytes form i)
head_some form i = some_length (head_bytes form i) (head_has form i)

pub items_counted : (labels : List ℕ → Option ℕ) (at : ℕ) (items : List CodeItem) (forms : List Size) → length forms ≡ length items
    → length items ≤ length (text_marks at items forms) + length (text_bytes labels at items forms)
items_counted labels at [] forms l = omega arith
items_counted labels at (item ∷ items) [] l = absurd (omega (arith, l))
items_counted labels at (item_kind.Label name ∷ items) (form ∷ forms) l =
    omega (arith, more_text labels at (item_kind.Label name) items form forms, items_counted labels (at + 0) items forms (omega (arith, l)))
items_counted labels at (item_kind.Globl name ∷ items) (form ∷ forms) l =
    omega (arith, more_text labels at (item_kind.Globl name) items form forms, items_counted labels (at + 0) items forms (omega (arith, l)))
items_counted labels at (item_kind.Mask mask ∷ items) (form ∷ forms) l =
    omega (arith, more_text labels at (item_kind.Mask mask) items form forms, items_counted labels (at + 2) items forms (omega (arith, l)))
items_counted labels at (item_kind.Instr i ∷ items) (form ∷ forms) l =
    omega (arith, more_text labels at (item_kind.Instr i) items form forms, head_some form i, items_counted labels (at + item_length form (item_kind.Instr i)) items forms (omega (arith, l)))
