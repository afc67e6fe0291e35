-- A line of the code at the front is its one spelling, and each spelling is found.
use Rattle.std.proofs.Common.{◌≡◌, ℕ, true, List, ◌∷◌, ◌++◌, Some, None, refl, sym, ap, subst, ◌∙◌, append_assoc}
use Rattle.std.specs.Prelude.{codes}
use Rattle.std.specs.Option.{option_map}
use Rattle.std.proofs.lemmas.Option.{same_Some, option_and_then_some}
use Rattle.vax_core.specs.Valid.{is_name}
use Rattle.vax_reader.specs.Fronts.{strip, closed}
use Rattle.vax_reader.specs.Lines.{named_front, ended}
use Rattle.vax_reader.proofs.Choices.{map_or_some, map_some}
use Rattle.vax_reader.proofs.FrontLaws.{strip_takes}
use Rattle.vax_reader.proofs.NameLaws.{closed_takes}
use Rattle.vax_reader.proofs.LineLaws.{named_takes, label_again}
use Rattle.l32_core.specs.declared.code.Instr32.{Instr32}
use Rattle.l32_core.specs.declared.code.Item32.{Item32}
use Rattle.l32_core.specs.declared.code.Item32.TheVariants as item_kind
use Rattle.l32_core.specs.Ops.{shape}
use Rattle.l32_core.specs.Text.{instr_text, item_line}
use Rattle.l32_core.specs.Valid.{is_instr, is_item}
use Rattle.l32_reader.specs.Lines.{code_item, code_label, instr_front, item_front}
use Rattle.l32_reader.proofs.InstrLaws.{tail_of, instr_takes, instr_again, EndsLine}

pub record ItemAt (bytes : List ℕ) (x : Item32 × List ℕ) : Type 0 where
  pub valid : is_item x.0 ≡ true
  pub spelled : bytes ≡ item_line x.0 ++ x.1

label_line : (name rest : List ℕ) → (name ++ codes ":" ++ codes "\n") ++ rest ≡ name ++ (58 ∷ (10 ∷ rest))
label_line name rest = append_assoc (name ++ codes ":") (codes "\n") rest ∙ append_assoc name (codes ":") (10 ∷ rest)

instr_line_takes : (bytes rest : List ℕ) (y : Instr32 × List ℕ) → strip (codes "\t") bytes ≡ Some rest → ended (instr_front rest) ≡ Some y → ItemAt bytes (item_kind.Instr y.0, y.1)
instr_line_takes bytes rest y e f =
    option_and_then_some (closed (codes "\n")) (instr_front rest) y f (λ z ez more.
    let i = instr_takes rest z ez in
    let c = closed_takes (codes "\n") z y more in
    subst (λ (v : Instr32). ItemAt bytes (item_kind.Instr v, y.1)) c.0 (record {
      valid = i.valid;
      spelled = strip_takes (codes "\t") bytes rest e ∙ i.spelled ∙ ap (λ (t : List ℕ). instr_text z.0 ++ t) c.1 ∙ sym (append_assoc (instr_text z.0) (codes "\n") y.1);
    }))

pub item_takes : (bytes : List ℕ) (x : Item32 × List ℕ) → item_front bytes ≡ Some x → ItemAt bytes x
unfolding item_front
item_takes bytes x e =
    map_or_some (named_front (codes ":\n") bytes) code_label _ x e
    (λ y ey more.
    let n = named_takes (codes ":\n") bytes y ey in
    subst (ItemAt bytes) (same_Some (item_kind.Label y.0, y.1) x more) (record { valid = n.0; spelled = n.1 ∙ sym (label_line y.0 y.1) }))
    (λ e1. option_and_then_some (λ (rest : List ℕ). option_map (code_item item_kind.Instr) (ended (instr_front rest))) (strip (codes "\t") bytes) x e1
    (λ rest er more. map_some (code_item item_kind.Instr) (ended (instr_front rest)) x more (λ y ey is. subst (ItemAt bytes) is (instr_line_takes bytes rest y er ey))))

code_ends : (rest : List ℕ) → EndsLine (10 ∷ rest)
code_ends rest = record { operand = record { offset = record { number = refl; plus = refl; minus = refl }; name = refl }; word = refl }

label_found : (name rest : List ℕ) → is_name name ≡ true → item_front ((name ++ codes ":" ++ codes "\n") ++ rest) ≡ Some (item_kind.Label name, rest)
unfolding item_front
label_found name rest h = ap item_front (label_line name rest) ∙ rw (label_again name rest h) refl

no_label : (rest : List ℕ) → named_front (codes ":\n") (9 ∷ rest) ≡ None
unfolding named_front
no_label rest = refl

by_instr : (bytes : List ℕ) (x : Item32 × List ℕ) → option_map (code_item item_kind.Instr) (ended (instr_front bytes)) ≡ Some x → item_front (9 ∷ bytes) ≡ Some x
unfolding item_front
by_instr bytes x e = rw (no_label bytes) e

instr_found : (i : Instr32) (rest : List ℕ) → is_instr i ≡ true → item_front ((instr_text i ++ codes "\n") ++ rest) ≡ Some (item_kind.Instr i, rest)
instr_found i rest h =
    let body = (shape i.op).mnemonic ++ tail_of i.op i in
    let shifted : (instr_text i ++ codes "\n") ++ rest ≡ 9 ∷ (body ++ (10 ∷ rest)) = append_assoc (instr_text i) (codes "\n") rest in
    let found : instr_front (body ++ (10 ∷ rest)) ≡ Some (i, 10 ∷ rest) = instr_again i (10 ∷ rest) h (code_ends rest) in
    ap item_front shifted ∙ by_instr (body ++ (10 ∷ rest)) (item_kind.Instr i, rest) (rw found refl)

pub item_again : (item : Item32) (rest : List ℕ) → is_item item ≡ true → item_front (item_line item ++ rest) ≡ Some (item, rest)
item_again (item_kind.Label name) rest h = label_found name rest h
item_again (item_kind.Instr i) rest h = instr_found i rest h
