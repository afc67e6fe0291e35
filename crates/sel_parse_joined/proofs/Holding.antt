-- What entries hold and are asked is the same by both definitions.
use Rattle.std.proofs.Common.{◌≡◌, ℕ, ◌^◌, ◌<◌, ◌≤◌, ◌==◌, List, [], ◌∷◌, Option, Some, None, Bool, true, false, refl, sym, ap, ◌∙◌, arith}
use Rattle.std.specs.Prelude.{◌&&◌}
use Rattle.std.specs.List.{AllByRecursion as All}
use Rattle.std.specs.Int.{bit_at}
use Rattle.std.proofs.lemmas.Bool.Decides.{nat_tests}
use Rattle.std.proofs.lemmas.Nat.Bits.{bit_at-pow_same, bit_at-pow_other}
use Rattle.std.proofs.lemmas.Bool.{eqb-true, eqb-false}
use Rattle.tree_core.specs.declared.token.Tok.{Tok}
use Rattle.tree_core.specs.declared.token.Tok.TheVariants as tok
use Rattle.tree_core.specs.declared.tree.Att.{Att}
use Rattle.tree_core.specs.declared.tree.Att.TheVariants as att
use Rattle.tree_core.specs.declared.tree.Leaf.{Leaf}
use Rattle.tree_core.specs.declared.program.TreeProgram.{TreeProgram}
use Rattle.tree_core.specs.Attributes.{leaf_fits, is_of_kind, attribute_of}
use Rattle.md_reader.specs.declared.types.Kind.{Kind}
use Rattle.md_reader.specs.declared.types.Kind.TheVariants as kind
use Rattle.md_reader.specs.declared.types.Sym.{Sym}
use Rattle.md_reader.specs.Patterns.{kind_at}
use Rattle.md_reader.specs.Restrictions.{same_size}
use Rattle.md_reader.specs.State.{Content}
use Rattle.sel_target.specs.declared.attr.Attr.{Attr}
use Rattle.sel_target.specs.declared.attr.Attr.TheVariants as attr
use Rattle.sel_target.specs.Meaning.{Meaning, RegAt, WordAt, is_word}
use Rattle.sel_target.specs.Values.{token_operand}
use Rattle.sel_target.specs.Laws.{IsLawful}
use Rattle.sel_target.specs.Instances.{some_touches, attr_touches, KindFits}
use Rattle.sel_target.specs.Symbols.{size_of_entry}
use Rattle.sel_target.proofs.Facts.{argument_number}
use Rattle.sel_parse_slots.specs.sel_parse_selected.specs.Entries as selected_entries
use Rattle.sel_parse_slots.specs.sel_parse_desk.specs.Entries as computed_entries
use Rattle.sel_parse_slots.specs.sel_parse_stands.proofs.Saving.{bits_none, token_none}
use Rattle.sel_parse_slots.specs.Claims.{IsOwn}
use Rattle.sel_parse_slots.proofs.Fine as fine
use Rattle.sel_parse_slots.proofs.Counting.{AllFine}

-- ---- an entry as the other definition has it

abbrev pub entry : {O : Type 0} → selected_entries.Entry O → computed_entries.Entry O
entry e = record { kind = e.kind; attr = e.attr }

module _ {O I S F : Type 0} (of : Meaning O I S F) (law : IsLawful of) (q : TreeProgram) (d : Content) (first : ℕ) where
  -- an attribute holds the same registers and slots, and is spelled alike
  pub record Agrees (a : Attr O) : Type 0 where
    pub register : (r : ℕ) → r < 12 → computed_entries.in_register of r a ≡ attr_touches of a (RegAt r)
    pub word : (w : ℕ) → first ≤ w → computed_entries.in_word of w a ≡ attr_touches of a (WordAt w)
    pub spelled : computed_entries.spelled of q a ≡ selected_entries.spelled of a

  abbrev pub AllAgree : List (selected_entries.Entry O) → Type 0
  AllAgree es = All (λ (e : selected_entries.Entry O). Agrees e.attr) es

  -- ---- a register alone

  not_equal : (r v : ℕ) → (r == v) ≡ false → v ≡ r → ⊥
  not_equal r v e f = eqb-false r v e (sym f)

  bit_same : (r v : ℕ) → (r == v) ≡ (bit_at (2 ^ r) v == 1)
  bit_same r v = by (r == v) refl
    where
      by : (b : Bool) → (r == v) ≡ b → (r == v) ≡ (bit_at (2 ^ r) v == 1)
      by true e = e ∙ sym (ap (λ k. bit_at (2 ^ r) k == 1) (sym (eqb-true r v e)) ∙ ap (λ k. k == 1) (bit_at-pow_same r))
      by false e = e ∙ sym (ap (λ k. k == 1) (bit_at-pow_other r v (not_equal r v e)))

  register_agrees : (r : ℕ) → r < 12 → Agrees (attr.Reg r)
  register_agrees r lt = record {
    register = λ v below. bit_same r v ∙ ap (λ k. bit_at k v == 1) (sym (law.spells.register_bits r lt));
    word = λ w from. ap (λ o. is_word o w) (sym (law.spells.register_word r lt));
    spelled = refl;
  }

  slot_agrees : (u : ℕ) → u < 1024 → Agrees (attr.InSlot u)
  slot_agrees u lt = record {
    register = λ v below. sym (bits_none of law (of.slot u) v (law.spells.slot_bits u lt));
    word = λ w from. ap (λ o. is_word o w) (sym (law.spells.slot_word u lt));
    spelled = refl;
  }

  operand_agrees : (o : O) → Agrees (attr.Value o) × Agrees (attr.Place o) × Agrees (attr.Ea o)
  operand_agrees o = (
    record { register = λ v below. refl; word = λ w from. refl; spelled = refl },
    record { register = λ v below. refl; word = λ w from. refl; spelled = refl },
    record { register = λ v below. refl; word = λ w from. refl; spelled = refl },
  )

  class_agrees : (k : Option Kind) (a : Attr O) → KindFits of k a → Agrees a
  class_agrees (Some kind.Reg) (attr.Reg r) h = register_agrees r h
  class_agrees (Some (kind.Value z)) (attr.Value o) h = (operand_agrees o).0
  class_agrees (Some (kind.Place z)) (attr.Place o) h = (operand_agrees o).1
  class_agrees (Some kind.Con) (attr.Con n) h = record { register = λ v below. refl; word = λ w from. refl; spelled = refl }
  class_agrees (Some kind.Ea) (attr.Ea o) h = (operand_agrees o).2
  class_agrees k a h = absurd h

  -- ---- a token

  unequal : (k w : ℕ) → k < w → (k == w) ≡ false
  unequal k w lt = grind (arith, nat_tests)

  no_word : (x : Tok) (a : Att) → is_of_kind (attribute_of x) a ≡ true → IsOwn q first x a → (w : ℕ) → first ≤ w → false ≡ some_touches of (token_operand of x a) (WordAt w)
  no_word x att.Nothing fit own w from = refl
  no_word x (att.Number n) fit own w from = refl
  no_word x (att.Object object offset) fit own w from = refl
  no_word x (att.Slot k) fit own w from = by x fit own
    where
      by : (x : Tok) → is_of_kind (attribute_of x) (att.Slot k) ≡ true → IsOwn q first x (att.Slot k) → false ≡ some_touches of (token_operand of x (att.Slot k)) (WordAt w)
      by tok.Loc fit own =
          sym (ap (λ o. is_word o w) (law.spells.local_word k own.in_frame) ∙ unequal k w (let lt = own.own_local k refl refl in omega (arith, lt, from)))
      by tok.Arg fit own = sym (ap (λ o. is_word o w) (law.spells.argument_word k (argument_number k fit)))
      by x fit own = refl
  no_word x (att.Branch rel label) fit own w from = refl
  no_word x (att.Label label) fit own w from = refl
  no_word x (att.Callee function count) fit own w from = refl

  token_spelled : (x : Tok) (a : Att) → is_of_kind (attribute_of x) a ≡ true
      → computed_entries.spelled_leaf of q (record { tok = x; att = a }) x ≡ token_operand of x a
  token_spelled tok.Loc (att.Slot k) e =
      ap Some (law.spells.alone q computed_entries.alone 1 (attr.Token (record { tok = tok.Loc; att = att.Slot k }) ∷ []) (attr.Token (record { tok = tok.Loc; att = att.Slot k })) (of.local k)
      refl refl refl)
  token_spelled tok.Loc a e = absurd (cc)
  token_spelled tok.Arg (att.Slot k) e =
      ap Some (law.spells.alone q computed_entries.alone 1 (attr.Token (record { tok = tok.Arg; att = att.Slot k }) ∷ []) (attr.Token (record { tok = tok.Arg; att = att.Slot k })) (of.argument k)
      refl refl refl)
  token_spelled tok.Arg a e = absurd (cc)
  token_spelled x att.Nothing e = refl
  token_spelled x (att.Number n) e = refl
  token_spelled x (att.Object object offset) e = refl
  token_spelled x (att.Slot k) e = refl
  token_spelled x (att.Branch rel label) e = refl
  token_spelled x (att.Label label) e = refl
  token_spelled x (att.Callee function count) e = refl

  token_agrees : (l : Leaf) → leaf_fits l ≡ true → IsOwn q first l.tok l.att → Agrees (attr.Token l)
  token_agrees l fit own = record {
    register = λ r below. sym (token_none of law l.tok l.att r fit own.in_frame);
    word = λ w from. no_word l.tok l.att fit own w from;
    spelled = token_spelled l.tok l.att fit;
  }

  pub fine_agrees : (s : Sym) (a : Attr O) → fine.IsFine of law q d first s a → Agrees a
  fine_agrees s a (fine.token l fit own) = token_agrees l fit own
  fine_agrees s a (fine.class c a' h) = class_agrees (kind_at d.classes c) a h
  fine_agrees s a (fine.slot c w e lt) = slot_agrees w lt
  fine_agrees s a (fine.statement c e) = record { register = λ v below. refl; word = λ w from. refl; spelled = refl }

  pub all_agree : (ss : List Sym) (es : List (selected_entries.Entry O)) → AllFine of law q d first ss es → AllAgree es
  all_agree [] [] h = tt
  all_agree [] (e ∷ es) h = absurd h
  all_agree (s ∷ ss) [] h = absurd h
  all_agree (s ∷ ss) (e ∷ es) h = (fine_agrees s e.attr h.0, all_agree ss es h.1)

  -- ---- entries that are spelled alike

  operands_same : (a b : Option O) → computed_entries.same_operands of a b ≡ selected_entries.same_operands of a b
  operands_same None b = refl
  operands_same (Some o) None = refl
  operands_same (Some o) (Some p) = refl

  pub alike_same : (a b : selected_entries.Entry O) → Agrees a.attr → Agrees b.attr → computed_entries.alike of q (entry a) (entry b) ≡ selected_entries.alike of a b
  alike_same a b h k =
      ap (λ o. same_size (size_of_entry a.kind) (size_of_entry b.kind) && computed_entries.same_operands of o (computed_entries.spelled of q b.attr)) h.spelled
      ∙ ap (λ o. same_size (size_of_entry a.kind) (size_of_entry b.kind) && computed_entries.same_operands of (selected_entries.spelled of a.attr) o) k.spelled
      ∙ ap (λ o. same_size (size_of_entry a.kind) (size_of_entry b.kind) && o) (operands_same (selected_entries.spelled of a.attr) (selected_entries.spelled of b.attr))
