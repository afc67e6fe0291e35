-- What fits a hole can be spelled there.
use Rattle.std.proofs.Common.{◌≡◌, ℕ, zero, suc, ◌-◌, ◌*◌, ◌^◌, ◌<◌, ◌+◌, ◌==◌, true, cond, not, ◌&&◌, Option, Some, List, [], ◌∷◌, length}
use Rattle.std.proofs.Common.{refl, sym, ap, subst, ◌∙◌, arith, slice_get}
use Rattle.std.specs.Prelude.{nat_lt, nat_le, unwrap_or}
use Rattle.std.specs.List.{AllByRecursion}
use Rattle.std.proofs.lemmas.Bool.{lt-ltb, leb-true, and_from}
use Rattle.gg_base.specs.Arithmetic.{neg32}
use Rattle.gg_base.proofs.Facts.{second_true, not_zero, one_less}
use Rattle.gg_base.proofs.Words.{neg_small}
use Rattle.l32_target_operands.specs.vax_target_meaning.specs.tree_core.specs.declared.token.Tok.{Tok}
use Rattle.l32_target_operands.specs.vax_target_meaning.specs.tree_core.specs.declared.token.Tok.TheVariants as tok
use Rattle.l32_target_operands.specs.vax_target_meaning.specs.tree_core.specs.declared.token.AttKind.TheVariants as att_kind
use Rattle.l32_target_operands.specs.vax_target_meaning.specs.tree_core.specs.declared.tree.Att.{Att}
use Rattle.l32_target_operands.specs.vax_target_meaning.specs.tree_core.specs.declared.tree.Att.TheVariants as att
use Rattle.l32_target_operands.specs.vax_target_meaning.specs.tree_core.specs.declared.program.Object.{Object}
use Rattle.l32_target_operands.specs.vax_target_meaning.specs.tree_core.specs.declared.program.TreeProgram.{TreeProgram}
use Rattle.l32_target_operands.specs.vax_target_meaning.specs.tree_core.specs.Attributes.{attribute_of, is_of_kind}
use Rattle.l32_target_operands.specs.judging_laws.specs.md_reader.specs.declared.types.Kind.{Kind}
use Rattle.l32_target_operands.specs.judging_laws.specs.md_reader.specs.declared.types.Kind.TheVariants as kind
use Rattle.l32_target_operands.specs.judging_laws.specs.md_reader.specs.declared.types.Class.{Class}
use Rattle.l32_target_operands.specs.judging_laws.specs.md_reader.specs.declared.types.Sym.{Sym}
use Rattle.l32_target_operands.specs.judging_laws.specs.md_reader.specs.declared.types.Sym.TheVariants as grammar_symbol
use Rattle.l32_target_operands.specs.judging_laws.specs.md_reader.specs.Patterns.{kind_at}
use Rattle.l32_target_operands.specs.judging_laws.specs.sel_target.specs.declared.attr.Attr.{Attr}
use Rattle.l32_target_operands.specs.judging_laws.specs.sel_target.specs.declared.attr.Attr.TheVariants as attr
use Rattle.l32_target_operands.specs.judging_laws.specs.sel_target.specs.Instances.{InFrame, KindFits, SymFits, Fit}
use Rattle.l32_target_operands.specs.judging_laws.specs.sel_target.specs.Spelled.{IsSpelled, TokenIsSpelled, AreSpelled}
use Rattle.l32_target_operands.specs.judging_laws.specs.vax_templates.specs.declared.setting.Hole.{Hole}
use Rattle.l32_target_operands.specs.judging_laws.specs.vax_templates.specs.declared.setting.Hole.TheVariants as hole_kind
use Rattle.l32_target_operands.specs.judging_laws.specs.vax_templates.specs.Settings.{hole_of_token, hole_of_kind, hole_of, holes_of, hole_or_other, hole_at}
use Rattle.l32_target_operands.specs.judging_laws.specs.vax_templates.specs.Filled.{label_of}
use Rattle.l32_target_operands.specs.judging_laws.specs.vax_templates.specs.vax_core.specs.Valid.{is_name, is_long, is_named_addr}
use Rattle.l32_target_operands.specs.vax_target_meaning.specs.Fitting.{CanWrite}
use Rattle.l32_target_operands.specs.l32_templates.specs.l32_core.specs.declared.operand.Base32.TheVariants as bases
use Rattle.l32_target_operands.specs.l32_templates.specs.l32_core.specs.declared.operand.Operand32.{Operand32}
use Rattle.l32_target_operands.specs.l32_templates.specs.l32_core.specs.declared.operand.Operand32.TheVariants as operands
use Rattle.l32_target_operands.specs.l32_templates.specs.l32_core.specs.Valid.{is_reg, is_memory}
use Rattle.l32_target_operands.specs.l32_templates.specs.Homes.{home, at_home, argument_home}
use Rattle.l32_target_operands.specs.l32_templates.specs.Filled.{spare, attr_at, number_in, is_argument, word_operand, argument_deferred, slot_operand, slot_deferred, operand_in, deferred_in}
use Rattle.l32_target_operands.specs.l32_target_meaning.specs.Fitting.{is_source}
use Rattle.l32_target_operands.specs.l32_target_meaning.specs.L32.{l32}

-- what stands in a hole can be spelled
abbrev pub Spells : TreeProgram → Hole → Attr Operand32 → Type 0
Spells q hole_kind.Register h = (n : ℕ) × (h ≡ attr.Reg n) × (is_reg n ≡ true)
Spells q (hole_kind.Value z) h = is_source (operand_in q h) ≡ true
Spells q (hole_kind.Place z) h = is_memory (operand_in q h) ≡ true
Spells q hole_kind.Local h = (is_memory (operand_in q h) ≡ true) × (is_memory (deferred_in h) ≡ true)
Spells q (hole_kind.SavedPlace z) h = is_memory (operand_in q h) ≡ true
Spells q hole_kind.Address h = is_memory (operand_in q h) ≡ true
Spells q hole_kind.Object h = is_memory (operand_in q h) ≡ true
Spells q hole_kind.Saved h = is_memory (operand_in q h) ≡ true
Spells q hole_kind.Constant h = number_in h < 2 ^ 32
Spells q (hole_kind.Literal n) h = number_in h < 2 ^ 32
Spells q hole_kind.Relation h = Unit {0}
Spells q hole_kind.Other h = Unit {0}

-- ---- words and arguments

long_memory : (n : ℕ) → n < 2 ^ 32 → is_memory (operands.At n bases.Fp) ≡ true
long_memory n lt = and_from (is_long n) true (lt-ltb n (2 ^ 32) lt) refl

long_deferred : (n : ℕ) → n < 2 ^ 32 → is_memory (operands.Deferred n bases.Fp) ≡ true
long_deferred n lt = and_from (is_long n) true (lt-ltb n (2 ^ 32) lt) refl

pub home_memory : (k : ℕ) → is_memory (home k) ≡ true
home_memory k = long_memory (neg32 (4 * (k + 1))) (neg_small (4 * (k + 1)))

pub at_home_memory : (k : ℕ) → is_memory (at_home k) ≡ true
at_home_memory k = long_deferred (neg32 (4 * (k + 1))) (neg_small (4 * (k + 1)))

word_memory : (k : ℕ) → k < 1024 → is_memory (word_operand k) ≡ true
word_memory k lt = ap (λ b. is_memory (cond b (home k) spare)) (lt-ltb k 1024 lt) ∙ home_memory k

word_deferred : (k : ℕ) → k < 1024 → is_memory (cond (nat_lt k 1024) (at_home k) spare) ≡ true
word_deferred k lt = ap (λ b. is_memory (cond b (at_home k) spare)) (lt-ltb k 1024 lt) ∙ at_home_memory k

few_long : (k : ℕ) → nat_le k 255 ≡ true → 4 * (k - 1) < 2 ^ 32
few_long k e = let le = leb-true k 255 e in omega (arith, le)

argument_memory : (k : ℕ) → is_argument k ≡ true → is_memory (slot_operand tok.Arg k) ≡ true
argument_memory k e =
    ap (λ b. is_memory (cond b (argument_home k) spare)) e ∙ long_memory (4 * (k - 1)) (few_long k (second_true (nat_le 1 k) (nat_le k 255) e))

argument_pointed : (k : ℕ) → is_argument k ≡ true → is_memory (slot_deferred tok.Arg k) ≡ true
argument_pointed k e =
    ap (λ b. is_memory (cond b (argument_deferred k) spare)) e ∙ long_deferred (4 * (k - 1)) (few_long k (second_true (nat_le 1 k) (nat_le k 255) e))

-- ---- holes

module _ (q : TreeProgram) (can : CanWrite q) where
  own_number : (k : ℕ) (a : Att) → is_of_kind (att_kind.Own k) a ≡ true → IsSpelled q a → (t : Tok) → number_in (attr.Token (record { tok = t; att = a })) < 2 ^ 32
  own_number k (att.Number n) e lt t = lt
  own_number k _ e lt t = absurd (cc)

  other_number : (a : Att) → is_of_kind att_kind.Other a ≡ true → IsSpelled q a → (t : Tok) → number_in (attr.Token (record { tok = t; att = a })) < 2 ^ 32
  other_number (att.Number n) e lt t = lt
  other_number _ e lt t = absurd (cc)

  label_named : (objects : List Object) (object offset : ℕ) → AllByRecursion (λ (o : Object). is_name o.label ≡ true) objects → object < length objects →
      (is_long offset && not (offset == 2 ^ 31)) ≡ true → is_named_addr (label_of (slice_get objects object)) offset ≡ true
  label_named [] object offset all lt e = absurd (omega arith)
  label_named (o ∷ os) zero offset all lt e = and_from (is_name o.label) (is_long offset && not (offset == 2 ^ 31)) all.0 e
  label_named (o ∷ os) (suc object) offset all lt e = label_named os object offset all.1 (omega arith) e

  object_spells : (a : Att) → is_of_kind att_kind.Object a ≡ true → IsSpelled q a → is_memory (operand_in q (attr.Token (record { tok = tok.Gaddr; att = a }))) ≡ true
  object_spells (att.Object object offset) e h =
      label_named q.objects object offset can.objects h.0 (and_from (is_long offset) (not (offset == 2 ^ 31)) (lt-ltb offset (2 ^ 32) h.1) e)
  object_spells _ e h = absurd (cc)

  local_spells : (a : Att) → is_of_kind att_kind.Local a ≡ true → InFrame a → Spells q hole_kind.Local (attr.Token (record { tok = tok.Loc; att = a }))
  local_spells (att.Slot k) e lt = (word_memory k lt, word_deferred k lt)
  local_spells _ e lt = absurd (cc)

  argument_spells : (a : Att) → is_of_kind att_kind.Argument a ≡ true → Spells q hole_kind.Local (attr.Token (record { tok = tok.Arg; att = a }))
  argument_spells (att.Slot k) e = (argument_memory k e, argument_pointed k e)
  argument_spells _ e = absurd (cc)

  saved_spells : (a : Att) → is_of_kind att_kind.Local a ≡ true → InFrame a → is_memory (operand_in q (attr.Token (record { tok = tok.Save; att = a }))) ≡ true
  saved_spells (att.Slot k) e lt = word_memory k lt
  saved_spells _ e lt = absurd (cc)

  token_spells : (x : Tok) (a : Att) → is_of_kind (attribute_of x) a ≡ true → InFrame a → IsSpelled q a → Spells q (hole_of_token x) (attr.Token (record { tok = x; att = a }))
  token_spells tok.Zero a e f h = own_number 0 a e h tok.Zero
  token_spells tok.One a e f h = own_number 1 a e h tok.One
  token_spells tok.Two a e f h = own_number 2 a e h tok.Two
  token_spells tok.Four a e f h = own_number 4 a e h tok.Four
  token_spells tok.Eight a e f h = own_number 8 a e h tok.Eight
  token_spells tok.Const a e f h = other_number a e h tok.Const
  token_spells tok.Gaddr a e f h = object_spells a e h
  token_spells tok.Loc a e f h = local_spells a e f
  token_spells tok.Arg a e f h = argument_spells a e
  token_spells tok.Save a e f h = saved_spells a e f
  token_spells x a e f h = tt

  class_spells : (k : Option Kind) (h : Attr Operand32) → KindFits l32 k h → Spells q (hole_of_kind k) h
  class_spells (Some kind.Reg) (attr.Reg r) f = (r, refl, lt-ltb r 12 f)
  class_spells (Some (kind.Value z)) (attr.Value o) f = f
  class_spells (Some (kind.Place z)) (attr.Place o) f = f
  class_spells (Some kind.Con) (attr.Con n) f = f
  class_spells (Some kind.Ea) (attr.Ea o) f = f
  class_spells _ _ f = absurd f

  symbol_spells : (classes : List Class) (s : Sym) (h : Attr Operand32) → SymFits l32 classes s h → TokenIsSpelled q h → Spells q (hole_of classes s) h
  symbol_spells classes (grammar_symbol.Class c) h f sp = class_spells (kind_at classes c) h f
  symbol_spells classes (grammar_symbol.Tok x) (attr.Token l) f sp =
      subst (λ y. Spells q (hole_of_token y) (attr.Token l)) f.0 (token_spells l.tok l.att f.1 f.2 sp)
  symbol_spells classes _ _ f sp = absurd f

  nth_spells : (classes : List Class) (right : List Sym) (hs : List (Attr Operand32)) (res : Attr Operand32) (j : ℕ) → Fit l32 classes right hs → AreSpelled q hs
      → Spells q (hole_or_other (slice_get (holes_of classes right) j)) (unwrap_or (slice_get hs j) res)
  nth_spells classes [] [] res j f sp = tt
  nth_spells classes [] (h ∷ hs) res j f sp = absurd f
  nth_spells classes (s ∷ right) [] res j f sp = absurd f
  nth_spells classes (s ∷ right) (h ∷ hs) res zero f sp = symbol_spells classes s h f.0 sp.0
  nth_spells classes (s ∷ right) (h ∷ hs) res (suc j) f sp = nth_spells classes right hs res j f.1 sp.1

  -- what fills each hole of a rule can be spelled
  pub hole_spells : (classes : List Class) (right : List Sym) (hs : List (Attr Operand32)) (res : Attr Operand32) (j : ℕ) → Fit l32 classes right hs → AreSpelled q hs
      → Spells q (hole_at (holes_of classes right) (suc j)) (attr_at hs res (suc j))
  hole_spells classes right hs res j f sp =
      let roles = holes_of classes right in
      let role : hole_at roles (suc j) ≡ hole_or_other (slice_get roles j) =
      ap (λ b. cond b hole_kind.Other (hole_or_other (slice_get roles (suc j - 1)))) (not_zero j) ∙ ap (λ n. hole_or_other (slice_get roles n)) (one_less j) in
      let filling : attr_at hs res (suc j) ≡ unwrap_or (slice_get hs j) res =
      ap (λ b. cond b res (unwrap_or (slice_get hs (suc j - 1)) res)) (not_zero j) ∙ ap (λ n. unwrap_or (slice_get hs n) res) (one_less j) in
      subst (λ r. Spells q r (attr_at hs res (suc j))) (sym role) (subst (Spells q (hole_or_other (slice_get roles j))) (sym filling) (nth_spells classes right hs res j f sp))
