-- What stands for the holes of a rule, or of a line that saves or reloads, can be spelled; so its lines are valid instructions.
use Rattle.std.proofs.Common.{◌≡◌, ℕ, zero, suc, ◌+◌, ◌*◌, ◌^◌, ◌<◌, ◌≤◌, ◌==◌, true, cond, not, ◌&&◌, Option, Some, List, [], ◌∷◌, length, refl, sym, subst, arith, slice_get}
use Rattle.std.specs.Prelude.{nat_lt, nat_le, is_none}
use Rattle.std.specs.List.{AllByRecursion}
use Rattle.std.proofs.lemmas.Bool.{lt-ltb, leb-true, and_from}
use Rattle.gg_base.proofs.Facts.{first_true, second_true}
use Rattle.gg_base.specs.Arithmetic.{neg32}
use Rattle.gg_base.proofs.Words.{neg_small}
use Rattle.tree_core.specs.declared.token.Tok.{Tok}
use Rattle.tree_core.specs.declared.token.Tok.TheVariants as tok
use Rattle.tree_core.specs.declared.token.AttKind.TheVariants as att_kind
use Rattle.tree_core.specs.declared.tree.Att.{Att}
use Rattle.tree_core.specs.declared.tree.Att.TheVariants as att
use Rattle.tree_core.specs.declared.program.Object.{Object}
use Rattle.tree_core.specs.declared.program.TreeProgram.{TreeProgram}
use Rattle.tree_core.specs.Attributes.{attribute_of, is_of_kind}
use Rattle.vax_target_meaning.specs.md_reader.specs.declared.types.Kind.{Kind}
use Rattle.vax_target_meaning.specs.md_reader.specs.declared.types.Kind.TheVariants as kind
use Rattle.vax_target_meaning.specs.md_reader.specs.declared.types.Class.{Class}
use Rattle.vax_target_meaning.specs.md_reader.specs.declared.types.Sym.{Sym}
use Rattle.vax_target_meaning.specs.md_reader.specs.declared.types.Sym.TheVariants as grammar_symbol
use Rattle.vax_target_meaning.specs.md_reader.specs.declared.types.Give.{Give}
use Rattle.vax_target_meaning.specs.md_reader.specs.declared.types.Give.TheVariants as give
use Rattle.vax_target_meaning.specs.md_reader.specs.Patterns.{kind_at}
use Rattle.vax_target_meaning.specs.sel_target.specs.declared.attr.Attr.{Attr}
use Rattle.vax_target_meaning.specs.sel_target.specs.declared.attr.Attr.TheVariants as attr
use Rattle.vax_target_meaning.specs.sel_target.specs.Instances.{InFrame, KindFits, SymFits, Fit, IsResult}
use Rattle.vax_core.specs.declared.register.Reg.{Reg}
use Rattle.vax_core.specs.declared.operand.Base.{Base}
use Rattle.vax_core.specs.declared.operand.Base.TheVariants as bases
use Rattle.vax_core.specs.declared.operand.Operand.{Operand}
use Rattle.vax_core.specs.Homes.{home, at_home, argument_home}
use Rattle.vax_core.specs.Valid.{is_name, is_long, is_named_addr, is_base, is_index, is_memory}
use Rattle.vax_core.proofs.ValidLaws.{named_is_addr}
use Rattle.vax_target_meaning.specs.vax_templates.specs.Settings.{hole_of_token, hole_of_kind, hole_of, holes_of, own_of}
use Rattle.vax_target_meaning.specs.vax_templates.specs.Filled.{spare, label_of, addr_of_att, word_operand, slot_operand, slot_deferred}
use Rattle.vax_target_meaning.specs.vax_templates.specs.Filled.{operand_in}
use Rattle.vax_target_meaning.specs.Fitting.{steps, is_place, fits, CanWrite}
use Rattle.vax_target_meaning.specs.Vax.{vax}
use Rattle.vax_target_meaning.specs.sel_target.specs.Spelled.{IsSpelled, TokenIsSpelled, AreSpelled}
use Rattle.vax_target_writing.proofs.Operands.{IsMemory, IsPlain, IsNumber, IsObject, IsLocal, Spells, AllSpell, OwnSpells}

-- ---- tests

-- ---- the words of a frame and the arguments

home_base : (k : ℕ) → is_base (home k).base ≡ true
home_base k = lt-ltb (neg32 (4 * (k + 1))) (2 ^ 32) (neg_small (4 * (k + 1)))

pub home_memory : (k : ℕ) → IsMemory (home k)
home_memory k = record { memory = refl; base = home_base k }

pub at_home_plain : (k : ℕ) → IsPlain (at_home k)
at_home_plain k = record { memory = record { memory = refl; base = home_base k }; bare = refl }

word_memory : (k : ℕ) → k < 1024 → IsMemory (word_operand k)
word_memory k lt = subst (λ b. IsMemory (cond b (home k) spare)) (sym (lt-ltb k 1024 lt)) (home_memory k)

word_deferred : (k : ℕ) → k < 1024 → IsPlain (cond (nat_lt k 1024) (at_home k) spare)
word_deferred k lt = subst (λ b. IsPlain (cond b (at_home k) spare)) (sym (lt-ltb k 1024 lt)) (at_home_plain k)

few_long : (k : ℕ) → k ≤ 255 → is_long (4 * k) ≡ true
few_long k le = lt-ltb (4 * k) (2 ^ 32) (omega arith)

argument_memory : (k : ℕ) → nat_le k 255 ≡ true → IsMemory (slot_operand tok.Arg k)
argument_memory k e = subst (λ b. IsMemory (cond b (argument_home k) spare)) (sym e) (record { memory = refl; base = few_long k (leb-true k 255 e) })

argument_deferred : (k : ℕ) → nat_le k 255 ≡ true → IsPlain (slot_deferred tok.Arg k)
argument_deferred k e =
    subst (λ b. IsPlain (cond b (Rattle.vax_target_meaning.specs.vax_templates.specs.Filled.argument_deferred k) spare)) (sym e)
    (record { memory = record { memory = refl; base = few_long k (leb-true k 255 e) }; bare = refl })

-- ---- operands that fit

pub memory : (o : Operand) → is_place o ≡ true → IsMemory o
memory o e = by o.base o.index e where
  based : (b : Base) (x : Option Reg) → (is_base b && is_index b x) ≡ true → is_base b ≡ true
  based b x e = first_true (is_base b) (is_index b x) e

  by : (b : Base) (x : Option Reg) → (is_memory b && (not (steps b) && (is_base b && is_index b x))) ≡ true → IsMemory (record { base = b; index = x })
  by (bases.Def r) x e = record { memory = refl; base = refl }
  by (bases.Disp a r) x e = record { memory = refl; base = based (bases.Disp a r) x e }
  by (bases.DispDef a r) x e = record { memory = refl; base = based (bases.DispDef a r) x e }
  by (bases.Abs n) x e = record { memory = refl; base = based (bases.Abs n) x e }
  by (bases.Rel a) x e = record { memory = refl; base = based (bases.Rel a) x e }
  by (bases.RelDef a) x e = record { memory = refl; base = based (bases.RelDef a) x e }
  by _ x e = absurd (cc)

pub plain : (o : Operand) → fits kind.Ea o ≡ true → IsPlain o
plain o e = record { memory = memory o (second_true (is_none o.index) (is_place o) e); bare = first_true (is_none o.index) (is_place o) e }

-- ---- holes

module _ (q : TreeProgram) (can : CanWrite q) where
  own_number : (k : ℕ) (a : Att) → is_of_kind (att_kind.Own k) a ≡ true → IsSpelled q a → IsNumber (addr_of_att q a)
  own_number k (att.Number n) e lt = record { addr = lt-ltb n (2 ^ 32) lt; long = lt-ltb n (2 ^ 32) lt }
  own_number k _ e lt = absurd (cc)

  other_number : (a : Att) → is_of_kind att_kind.Other a ≡ true → IsSpelled q a → IsNumber (addr_of_att q a)
  other_number (att.Number n) e lt = record { addr = lt-ltb n (2 ^ 32) lt; long = lt-ltb n (2 ^ 32) lt }
  other_number _ e lt = absurd (cc)

  label_named : (objects : List Object) (object offset : ℕ) → AllByRecursion (λ (o : Object). is_name o.label ≡ true) objects → object < length objects →
      (is_long offset && not (offset == 2 ^ 31)) ≡ true → is_named_addr (label_of (slice_get objects object)) offset ≡ true
  label_named [] object offset all lt e = absurd (omega arith)
  label_named (o ∷ os) zero offset all lt e = and_from (is_name o.label) (is_long offset && not (offset == 2 ^ 31)) all.0 e
  label_named (o ∷ os) (suc object) offset all lt e = label_named os object offset all.1 (omega arith) e

  object_named : (object offset : ℕ) → not (offset == 2 ^ 31) ≡ true → IsSpelled q (att.Object object offset) →
      is_named_addr (label_of (slice_get q.objects object)) offset ≡ true
  object_named object offset e h =
      label_named q.objects object offset can.objects h.0 (and_from (is_long offset) (not (offset == 2 ^ 31)) (lt-ltb offset (2 ^ 32) h.1) e)

  object_spells : (a : Att) → is_of_kind att_kind.Object a ≡ true → IsSpelled q a → IsObject q (attr.Token (record { tok = tok.Gaddr; att = a }))
  object_spells (att.Object object offset) e h =
      let n = object_named object offset e h in
      record {
        place = record { memory = record { memory = refl; base = n }; bare = refl };
        deferred = record { memory = record { memory = refl; base = n }; bare = refl };
        addr = named_is_addr (label_of (slice_get q.objects object)) offset n;
      }
  object_spells _ e h = absurd (cc)

  local_spells : (a : Att) → is_of_kind att_kind.Local a ≡ true → InFrame a → IsLocal q (attr.Token (record { tok = tok.Loc; att = a }))
  local_spells (att.Slot k) e lt = record { place = word_memory k lt; deferred = word_deferred k lt }
  local_spells _ e lt = absurd (cc)

  argument_spells : (a : Att) → is_of_kind att_kind.Argument a ≡ true → IsLocal q (attr.Token (record { tok = tok.Arg; att = a }))
  argument_spells (att.Slot k) e =
      let few = second_true (nat_le 1 k) (nat_le k 255) e in
      record { place = argument_memory k few; deferred = argument_deferred k few }
  argument_spells _ e = absurd (cc)

  saved_spells : (a : Att) → is_of_kind att_kind.Local a ≡ true → InFrame a → IsMemory (operand_in q (attr.Token (record { tok = tok.Save; att = a })))
  saved_spells (att.Slot k) e lt = word_memory k lt
  saved_spells _ e lt = absurd (cc)

  token_spells : (x : Tok) (a : Att) → is_of_kind (attribute_of x) a ≡ true → InFrame a → IsSpelled q a →
      Spells q (hole_of_token x) (attr.Token (record { tok = x; att = a }))
  token_spells tok.Zero a e f h = own_number 0 a e h
  token_spells tok.One a e f h = own_number 1 a e h
  token_spells tok.Two a e f h = own_number 2 a e h
  token_spells tok.Four a e f h = own_number 4 a e h
  token_spells tok.Eight a e f h = own_number 8 a e h
  token_spells tok.Const a e f h = other_number a e h
  token_spells tok.Gaddr a e f h = object_spells a e h
  token_spells tok.Loc a e f h = local_spells a e f
  token_spells tok.Arg a e f h = argument_spells a e
  token_spells tok.Save a e f h = saved_spells a e f
  token_spells x a e f h = tt

  class_spells : (k : Option Kind) (h : Attr Operand) → KindFits vax k h → Spells q (hole_of_kind k) h
  class_spells (Some kind.Reg) (attr.Reg r) f = refl
  class_spells (Some (kind.Value z)) (attr.Value o) f = f
  class_spells (Some (kind.Place z)) (attr.Place o) f = memory o f
  class_spells (Some kind.Con) (attr.Con n) f = record { addr = lt-ltb n (2 ^ 32) f; long = lt-ltb n (2 ^ 32) f }
  class_spells (Some kind.Ea) (attr.Ea o) f = plain o f
  class_spells (Some kind.Nothing) h f = tt
  class_spells _ _ f = absurd f

  symbol_spells : (classes : List Class) (s : Sym) (h : Attr Operand) → SymFits vax classes s h → TokenIsSpelled q h → Spells q (hole_of classes s) h
  symbol_spells classes (grammar_symbol.Class c) h f sp = class_spells (kind_at classes c) h f
  symbol_spells classes (grammar_symbol.Tok x) (attr.Token l) f sp =
      subst (λ y. Spells q (hole_of_token y) (attr.Token l)) f.0 (token_spells l.tok l.att f.1 f.2 sp)
  symbol_spells classes _ _ f sp = absurd f

  pub all_spell : (classes : List Class) (right : List Sym) (hs : List (Attr Operand)) → Fit vax classes right hs → AreSpelled q hs → AllSpell q (holes_of classes right) hs
  all_spell classes [] [] f sp = tt
  all_spell classes [] (h ∷ hs) f sp = absurd f
  all_spell classes (s ∷ right) [] f sp = absurd f
  all_spell classes (s ∷ right) (h ∷ hs) f sp = (symbol_spells classes s h f.0 sp.0, all_spell classes right hs f.1 sp.1)

  pub own_spells : (g : Give) (hs : List (Attr Operand)) (res : Attr Operand) → IsResult vax g hs res → OwnSpells q (own_of g) res
  own_spells give.Fresh hs (attr.Reg r) h = record { place = refl; readable = refl }
  own_spells give.Reuse hs (attr.Reg r) h = record { place = refl; readable = refl }
  own_spells give.Scratch hs (attr.Reg r) h = record { place = refl; readable = refl }
  own_spells give.Nothing hs res h = tt
  own_spells (give.Shape l) hs res h = tt
  own_spells g hs res h = absurd h
