-- What entries hold, in registers and slots.
use Rattle.std.proofs.Common.{◌≡◌, ℕ, ◌+◌, ◌-◌, ◌<◌, ◌≤◌, ◌==◌, Option, Some, true, false, refl, sym, ap, ◌∙◌, subst, arith, Bool}
use Rattle.std.proofs.lemmas.Bool.{eqb-false}
use Rattle.std.proofs.lemmas.Nat.Bits.{bit_at-pow_other}
use Rattle.std.specs.Int.{bit_at}
use Rattle.tree_core.specs.declared.token.Tok.{Tok}
use Rattle.tree_core.specs.declared.token.Tok.TheVariants as tok
use Rattle.tree_core.specs.declared.tree.Att.{Att}
use Rattle.tree_core.specs.declared.tree.Att.TheVariants as att
use Rattle.tree_core.specs.declared.tree.Leaf.{Leaf}
use Rattle.tree_core.specs.declared.program.TreeProgram.{TreeProgram}
use Rattle.tree_core.specs.Attributes.{leaf_fits, is_of_kind, attribute_of}
use Rattle.tree_core.proofs.Windows.{some_of}
use Rattle.md_reader.specs.declared.types.Kind.{Kind}
use Rattle.md_reader.specs.declared.types.Kind.TheVariants as kind
use Rattle.md_reader.specs.declared.types.Sym.{Sym}
use Rattle.md_reader.specs.declared.types.Sym.TheVariants as grammar_symbol
use Rattle.md_reader.specs.Patterns.{kind_at}
use Rattle.md_reader.specs.State.{Content}
use Rattle.sel_target.specs.declared.attr.Attr.{Attr}
use Rattle.sel_target.specs.declared.attr.Attr.TheVariants as attr
use Rattle.sel_target.specs.Meaning.{Meaning, RegAt, WordAt, touches, is_word}
use Rattle.sel_target.specs.Values.{token_operand}
use Rattle.sel_target.specs.Laws.{IsLawful}
use Rattle.sel_target.specs.Instances.{some_touches, attr_touches, KindFits, InFrame}
use Rattle.sel_target.proofs.Facts.{argument_number}
use Rattle.sel_target.specs.Symbols.{lowest, is_register}
use Rattle.sel_parse_effect.specs.sel_parse_selected.specs.Spills.{holds_register, in_slot}
use Rattle.sel_parse_effect.specs.sel_parse_stands.proofs.Saving.{lowest_found, bits_none, token_none}
use Rattle.sel_parse_slots.specs.Claims.{IsOwn}
use Rattle.sel_parse_slots.proofs.Counts.{count, count_none, count_less, count_one, count_some, tick, unequal, tick_small}

module _ {O I S F : Type 0} (of : Meaning O I S F) (law : IsLawful of) (q : TreeProgram) (d : Content) (first : ℕ) where
  abbrev pub registers : Attr O → ℕ
  registers a = count (λ r. attr_touches of a (RegAt r)) 0 12

  abbrev pub words : Attr O → ℕ
  words a = count (λ w. attr_touches of a (WordAt w)) first (1024 - first)

  -- the registers and slots that an entry holds
  abbrev pub charge : Attr O → ℕ
  charge (attr.Reg r) = 1
  charge (attr.InSlot w) = 1
  charge (attr.Value o) = registers (attr.Value o) + words (attr.Value o)
  charge (attr.Place o) = registers (attr.Place o) + words (attr.Place o)
  charge (attr.Con n) = 0
  charge (attr.Ea o) = registers (attr.Ea o) + words (attr.Ea o)
  charge (attr.Token l) = 0
  charge attr.Nothing = 0

  -- the same of a rule's symbol: the register of a register's symbol stays
  abbrev pub weight : Attr O → ℕ
  weight (attr.Reg r) = 0
  weight (attr.InSlot w) = 1
  weight (attr.Value o) = registers (attr.Value o) + words (attr.Value o)
  weight (attr.Place o) = registers (attr.Place o) + words (attr.Place o)
  weight (attr.Con n) = 0
  weight (attr.Ea o) = registers (attr.Ea o) + words (attr.Ea o)
  weight (attr.Token l) = 0
  weight attr.Nothing = 0

  pub weight_charge : (a : Attr O) → weight a ≤ charge a
  weight_charge (attr.Reg r) = omega arith
  weight_charge (attr.InSlot w) = omega arith
  weight_charge (attr.Value o) = omega arith
  weight_charge (attr.Place o) = omega arith
  weight_charge (attr.Con n) = omega arith
  weight_charge (attr.Ea o) = omega arith
  weight_charge (attr.Token l) = omega arith
  weight_charge attr.Nothing = omega arith

  -- a register's operand spells one
  pub register_one : (r : ℕ) → r < 12 → registers (attr.Reg r) ≤ 1
  register_one r lt =
      let a = count_less (λ v. touches of (of.register r) (RegAt v)) (λ v. r == v) (λ v. same v) 0 12 in
      let b = count_one r 0 12 in
      omega (arith, a, b)
    where
      same : (v : ℕ) → tick (touches of (of.register r) (RegAt v)) ≤ tick (r == v)
      same v = by (r == v) refl
        where
          by : (b : Bool) → (r == v) ≡ b → tick (touches of (of.register r) (RegAt v)) ≤ tick (r == v)
          by true e = (let a = tick_small (touches of (of.register r) (RegAt v)) in let b = ap tick e in omega (arith, a, b))
          by false e =
              let bit : (bit_at (of.registers (of.register r)) v == 1) ≡ false =
              ap (λ k. bit_at k v == 1) (law.spells.register_bits r lt) ∙ ap (λ k. k == 1) (bit_at-pow_other r v (λ f. eqb-false r v e (sym f))) in
              let a = ap tick bit in
              omega (arith, a)

  -- an entry that may stand for its symbol
  pub data IsFine : (s : Sym) (a : Attr O) → Type 0 where
    token : (l : Leaf) → leaf_fits l ≡ true → IsOwn q first l.tok l.att → IsFine (grammar_symbol.Tok l.tok) (attr.Token l)
    class : (c : ℕ) (a : Attr O) → KindFits of (kind_at d.classes c) a → IsFine (grammar_symbol.Class c) a
    slot : (c w : ℕ) → kind_at d.classes c ≡ Some kind.Reg → w < 1024 → IsFine (grammar_symbol.Class c) (attr.InSlot w)
    statement : (c : ℕ) → kind_at d.classes c ≡ Some kind.Nothing → IsFine (grammar_symbol.Class c) attr.Nothing

  -- ---- what is spelled by slots, registers and tokens

  word_one : (o : O) (w : ℕ) → of.word o ≡ Some w → count (λ v. touches of o (WordAt v)) first (1024 - first) ≤ 1
  word_one o w e =
      let a = count_less (λ v. touches of o (WordAt v)) (λ v. w == v) (λ v. same v) first (1024 - first) in
      let b = count_one w first (1024 - first) in
      omega (arith, a, b)
    where
      same : (v : ℕ) → tick (touches of o (WordAt v)) ≤ tick (w == v)
      same v = (let f = ap (λ x. tick (is_word x v)) e in omega (arith, f))

  register_none : (o : O) → of.registers o ≡ 0 → count (λ r. touches of o (RegAt r)) 0 12 ≡ 0
  register_none o e = count_none (λ r. touches of o (RegAt r)) 0 12 (λ r le. bits_none of law o r e)

  pub slot_charge : (w : ℕ) → w < 1024 → charge (attr.Value (of.slot w)) ≤ 1
  slot_charge w lt =
      let a = register_none (of.slot w) (law.spells.slot_bits w lt) in
      let b = word_one (of.slot w) w (law.spells.slot_word w lt) in
      omega (arith, a, b)

  pub deferred_charge : (w : ℕ) → w < 1024 → charge (attr.Place (of.slot_deferred w)) ≤ 1
  deferred_charge w lt =
      let a = register_none (of.slot_deferred w) (law.spells.deferred_bits w lt) in
      let b = word_one (of.slot_deferred w) w (law.spells.deferred_word w lt) in
      omega (arith, a, b)

  pub address_charge : (w : ℕ) → w < 1024 → charge (attr.Ea (of.slot_deferred w)) ≤ 1
  address_charge w lt =
      let a = register_none (of.slot_deferred w) (law.spells.deferred_bits w lt) in
      let b = word_one (of.slot_deferred w) w (law.spells.deferred_word w lt) in
      omega (arith, a, b)

  pub slot_word_one : (w : ℕ) → w < 1024 → words (attr.InSlot w) ≤ 1
  slot_word_one w lt = word_one (of.slot w) w (law.spells.slot_word w lt)

  pub register_words : (r : ℕ) → r < 12 → words (attr.Reg r) ≡ 0
  register_words r lt = count_none (λ w. touches of (of.register r) (WordAt w)) first (1024 - first) (λ w le. ap (λ o. is_word o w) (law.spells.register_word r lt))

  pub no_words : count (λ v. false) first (1024 - first) ≡ 0
  no_words = count_none (λ v. false) first (1024 - first) (λ v le. refl)

  slot_words : (x : Tok) (k : ℕ) → is_of_kind (attribute_of x) (att.Slot k) ≡ true → IsOwn q first x (att.Slot k)
      → count (λ v. some_touches of (token_operand of x (att.Slot k)) (WordAt v)) first (1024 - first) ≡ 0
  slot_words tok.Loc k fit own =
      count_none (λ v. touches of (of.local k) (WordAt v)) first (1024 - first)
      (λ v le. ap (λ o. is_word o v) (law.spells.local_word k own.in_frame) ∙ unequal k v (λ e. (let lt = own.own_local k refl refl in omega (arith, lt, le, e))))
  slot_words tok.Arg k fit own =
      count_none (λ v. touches of (of.argument k) (WordAt v)) first (1024 - first) (λ v le. ap (λ o. is_word o v) (law.spells.argument_word k (argument_number k fit)))
  slot_words x k fit own = no_words

  pub token_words : (x : Tok) (a : Att) → is_of_kind (attribute_of x) a ≡ true → IsOwn q first x a → count (λ v. some_touches of (token_operand of x a) (WordAt v)) first (1024 - first) ≡ 0
  token_words x att.Nothing fit own = no_words
  token_words x (att.Number n) fit own = no_words
  token_words x (att.Object object offset) fit own = no_words
  token_words x (att.Slot k) fit own = slot_words x k fit own
  token_words x (att.Branch rel label) fit own = no_words
  token_words x (att.Label label) fit own = no_words
  token_words x (att.Callee function count') fit own = no_words

  class_words : (k : Option Kind) (a : Attr O) → KindFits of k a → words a ≤ weight a
  class_words (Some kind.Reg) (attr.Reg r) h = (let e = register_words r h in omega (arith, e))
  class_words (Some (kind.Value z)) (attr.Value o) h = omega arith
  class_words (Some (kind.Place z)) (attr.Place o) h = omega arith
  class_words (Some kind.Con) (attr.Con n) h = (let e = no_words in omega (arith, e))
  class_words (Some kind.Ea) (attr.Ea o) h = omega arith
  class_words k a h = absurd h

  -- an entry holds no more words than it weighs
  pub fine_words : (s : Sym) (a : Attr O) → IsFine s a → words a ≤ weight a
  fine_words s a (token l fit own) = (let e = token_words l.tok l.att fit own in omega (arith, e))
  fine_words s a (class c a' h) = class_words (kind_at d.classes c) a h
  fine_words s a (slot c w e lt) = slot_word_one w lt
  fine_words s a (statement c e) = (let g = no_words in omega (arith, g))

  -- ---- what a spill makes of an entry

  holding : (k : Option Kind) (a : Attr O) → holds_register of (record { kind = k; attr = a }) ≡ true → 1 ≤ registers a
  holding k a h =
      let o = some_of (lowest (λ r. attr_touches of a (RegAt r)) 0 12) h in
      let r = lowest_found (λ r. attr_touches of a (RegAt r)) 0 12 o.0 o.1 in
      count_some (λ r. attr_touches of a (RegAt r)) 0 12 o.0 r.from r.below r.is

  pub token_registers : (x : Tok) (a : Att) → is_of_kind (attribute_of x) a ≡ true → InFrame a → count (λ r. some_touches of (token_operand of x a) (RegAt r)) 0 12 ≡ 0
  token_registers x a fit low = count_none (λ r. some_touches of (token_operand of x a) (RegAt r)) 0 12 (λ r le. token_none of law x a r fit low)

  pub record Spilled (s : Sym) (a : Attr O) (w : ℕ) : Type 0 where
    pub fine : IsFine s (in_slot of a w)
    pub charge_is : charge (in_slot of a w) ≤ 1
    pub held_less : words a + 1 ≤ charge a
    pub held_symbol : (is_register a ≡ true → ⊥) → words a + 1 ≤ weight a

  class_spilled : (c w : ℕ) → w < 1024 → (k : Option Kind) (a : Attr O) → KindFits of k a → kind_at d.classes c ≡ k → 1 ≤ registers a → Spilled (grammar_symbol.Class c) a w
  class_spilled c w lt (Some kind.Reg) (attr.Reg r) h e some = record {
    fine = slot c w e lt;
    charge_is = omega arith;
    held_less = (let g = register_words r h in omega (arith, g));
    held_symbol = λ apart. absurd (apart refl);
  }
  class_spilled c w lt (Some (kind.Value z)) (attr.Value o) h e some = record {
    fine = class c (attr.Value (of.slot w)) (subst (λ k. KindFits of k (attr.Value (of.slot w))) (sym e) (law.spells.slot_fits z w lt));
    charge_is = slot_charge w lt;
    held_less = omega (arith, some);
    held_symbol = λ apart. omega (arith, some);
  }
  class_spilled c w lt (Some (kind.Place z)) (attr.Place o) h e some = record {
    fine = class c (attr.Place (of.slot_deferred w)) (subst (λ k. KindFits of k (attr.Place (of.slot_deferred w))) (sym e) (law.spells.deferred_fits z w lt));
    charge_is = deferred_charge w lt;
    held_less = omega (arith, some);
    held_symbol = λ apart. omega (arith, some);
  }
  class_spilled c w lt (Some kind.Con) (attr.Con n) h e some = absurd (omega (arith, some))
  class_spilled c w lt (Some kind.Ea) (attr.Ea o) h e some = record {
    fine = class c (attr.Ea (of.slot_deferred w)) (subst (λ k. KindFits of k (attr.Ea (of.slot_deferred w))) (sym e) (law.spells.deferred_fits_address w lt));
    charge_is = address_charge w lt;
    held_less = omega (arith, some);
    held_symbol = λ apart. omega (arith, some);
  }
  class_spilled c w lt k a h e some = absurd h

  pub fine_spilled : (s : Sym) (k : Option Kind) (a : Attr O) (w : ℕ) → w < 1024 → IsFine s a → holds_register of (record { kind = k; attr = a }) ≡ true → Spilled s a w
  fine_spilled s k a w lt (token l fit own) h = absurd (let some = holding k (attr.Token l) h in let e = token_registers l.tok l.att fit own.in_frame in omega (arith, some, e))
  fine_spilled s k a w lt (class c a' fits) h = class_spilled c w lt (kind_at d.classes c) a fits refl (holding k a h)
  fine_spilled s k a w lt (slot c u e low) h = absurd (let some = holding k (attr.InSlot u) h in let g = register_none (of.slot u) (law.spells.slot_bits u low) in omega (arith, some, g))
  fine_spilled s k a w lt (statement c e) h = absurd (let some = holding k attr.Nothing h in omega (arith, some))
