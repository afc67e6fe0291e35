-- An address or an operand at the front is its one spelling, and each spelling is found.
use Rattle.std.proofs.Common.{◌≡◌, inl, inr, ℕ, zero, suc, ◌-◌, ◌^◌, ◌<◌, Bool, true, false, cond, eqb, ltb, ◌&&◌, not, List, [], ◌∷◌, ◌++◌, Option, Some, None, refl, sym, ap}
use Rattle.std.proofs.Common.{subst, ◌∙◌, append_assoc}
use Rattle.std.specs.Prelude.{codes}
use Rattle.std.specs.Option.{option_and_then, option_map_or}
use Rattle.std.specs.Fmt.{decimal}
use Rattle.std.proofs.lemmas.Bool.{eqb-true, ltb-true, lt-ltb, and_parts, or_cases, not-true}
use Rattle.std.proofs.lemmas.Option.{none-some, same_Some, option_and_then_some}
use Rattle.gg_base.specs.Numbers.{signed_text}
use Rattle.vax_core.specs.declared.register.Reg.{Reg}
use Rattle.vax_core.specs.declared.register.Reg.TheVariants.{R0, R1, R2, R3, R4, R5, R6, R7, R8, R9, R10, R11, Ap, Fp, Sp}
use Rattle.vax_core.specs.declared.operand.Addr.{Addr}
use Rattle.vax_core.specs.declared.operand.Base.{Base}
use Rattle.vax_core.specs.declared.operand.Base.TheVariants as bases
use Rattle.vax_core.specs.declared.operand.Operand.{Operand}
use Rattle.vax_core.specs.Registers.{reg_text}
use Rattle.vax_core.specs.Text.{offset_text, addr_text_of, addr_text, at_text, base_text, index_text, operand_text}
use Rattle.vax_core.specs.Valid.{is_name_start, is_name, is_long, is_named_addr, is_addr_of, is_addr, is_base}
use Rattle.vax_core.proofs.ValidLaws.{named_is_addr}
use Rattle.vax_reader.specs.Fronts.{strip, number_front, signed_front, offset_front, name_front, reg_front, closed, at_front}
use Rattle.vax_reader.specs.Operands.{number_addr, labelled, label_addr, addr_front, base_at, alone, near, far, absolute, stepped, deferred_front, immediate, at_or_stepped}
use Rattle.vax_reader.specs.Operands.{plain_front, base_front, some_index, index_front, with_index, indexed, operand_front}
use Rattle.vax_reader.proofs.Choices.{map_or_some, map_some}
use Rattle.vax_reader.proofs.FrontLaws.{strip_takes, EndsOffset, signed_takes, signed_again, offset_takes, offset_again}
use Rattle.vax_reader.proofs.NameLaws.{EndsName, name_takes, name_again, reg_takes, reg_again, reg_closed_takes, at_takes, at_again}

-- addresses

pub record AddrAt (bytes : List ℕ) (x : Addr × List ℕ) : Type 0 where
  pub valid : is_addr x.0 ≡ true
  pub spelled : bytes ≡ addr_text x.0 ++ x.1

pub addr_takes : (bytes : List ℕ) (x : Addr × List ℕ) → addr_front bytes ≡ Some x → AddrAt bytes x
unfolding addr_front
addr_takes bytes x e =
    map_or_some (signed_front bytes) number_addr _ x e
    (λ y ey more.
    let s = signed_takes bytes y ey in
    subst (AddrAt bytes) (same_Some _ x more) (record { valid = lt-ltb y.0 (2 ^ 32) s.0; spelled = s.1 }))
    (λ other. option_and_then_some label_addr (name_front bytes) x other (λ y ey more.
    map_some (labelled y.0) (offset_front y.1) x more (λ z ez is.
    let n = name_takes bytes y ey in
    let o = offset_takes y.1 z ez in
    subst (AddrAt bytes) is (record {
      valid = rw (n.0, lt-ltb z.0 (2 ^ 32) o.fits, o.writable) refl;
      spelled = n.1 ∙ ap (λ (t : List ℕ). y.0 ++ t) o.spelled ∙ sym (append_assoc y.0 (offset_text z.0) z.1);
    }))))

-- no part of an address stands there
pub record EndsAddr (rest : List ℕ) : Type 0 where
  pub offset : EndsOffset rest
  pub name : EndsName rest

at_95 : (cs : List ℕ) → signed_front (95 ∷ cs) ≡ None
unfolding signed_front number_front
at_95 cs = refl

at_76 : (cs : List ℕ) → signed_front (76 ∷ cs) ≡ None
unfolding signed_front number_front
at_76 cs = refl

at_83 : (cs : List ℕ) → signed_front (83 ∷ cs) ≡ None
unfolding signed_front number_front
at_83 cs = refl

at_84 : (cs : List ℕ) → signed_front (84 ∷ cs) ≡ None
unfolding signed_front number_front
at_84 cs = refl

starts_with_mark : (c : ℕ) (cs : List ℕ) → is_name_start c ≡ true → signed_front (c ∷ cs) ≡ None
starts_with_mark c cs h =
    elim (or_cases _ _ h) [
      | inl a ↦ subst (λ (x : ℕ). signed_front (x ∷ cs) ≡ None) (sym (eqb-true c 95 a)) (at_95 cs)
      | inr h1 ↦ elim (or_cases _ _ h1) [
        | inl a ↦ subst (λ (x : ℕ). signed_front (x ∷ cs) ≡ None) (sym (eqb-true c 76 a)) (at_76 cs)
        | inr h2 ↦ elim (or_cases _ _ h2) [
          | inl a ↦ subst (λ (x : ℕ). signed_front (x ∷ cs) ≡ None) (sym (eqb-true c 83 a)) (at_83 cs)
          | inr a ↦ subst (λ (x : ℕ). signed_front (x ∷ cs) ≡ None) (sym (eqb-true c 84 a)) (at_84 cs)
        ]
      ]
    ]

name_no_number : (name rest : List ℕ) → is_name name ≡ true → signed_front (name ++ rest) ≡ None
name_no_number [] rest h = absurd (cc)
name_no_number (c ∷ cs) rest h = starts_with_mark c (cs ++ rest) (and_parts (is_name_start c) _ h).0

signs_end_name : (b : Bool) (m n : List ℕ) (rest : List ℕ) → EndsName (cond b (codes "+" ++ m) (codes "-" ++ n) ++ rest)
signs_end_name true m n rest = refl
signs_end_name false m n rest = refl

offset_ends_name : (n : ℕ) (rest : List ℕ) → EndsName rest → EndsName (offset_text n ++ rest)
offset_ends_name zero rest h = h
offset_ends_name (suc n) rest h = signs_end_name (ltb (suc n) (2 ^ 31)) (decimal (suc n)) (decimal (2 ^ 32 - suc n)) rest

addr_of_again : (name : Option (List ℕ)) (offset : ℕ) (rest : List ℕ) → is_addr_of name offset ≡ true → EndsAddr rest → addr_front (addr_text_of name offset ++ rest)
    ≡ Some (record { name = name; offset = offset }, rest)
unfolding addr_front
addr_of_again None offset rest h ends = rw (signed_again offset rest (ltb-true offset (2 ^ 32) h) ends.offset.number) refl
addr_of_again (Some name) offset rest h ends =
    let p = and_parts (is_name name) (is_long offset && not (eqb offset (2 ^ 31))) h in
    let q = and_parts (is_long offset) (not (eqb offset (2 ^ 31))) p.1 in
    let behind = offset_text offset ++ rest in
    ap addr_front (append_assoc name (offset_text offset) rest)
    ∙ rw (
      name_no_number name behind p.0,
      name_again name behind p.0 (offset_ends_name offset rest ends.name),
      offset_again offset rest (ltb-true offset (2 ^ 32) q.0) (not-true (eqb offset (2 ^ 31)) q.1) ends.offset,
    ) refl

pub addr_again : (a : Addr) (rest : List ℕ) → is_addr a ≡ true → EndsAddr rest → addr_front (addr_text a ++ rest) ≡ Some (a, rest)
addr_again a rest h ends = addr_of_again a.name a.offset rest h ends

-- bases

pub record BaseAt (bytes : List ℕ) (x : Base × List ℕ) : Type 0 where
  pub spelled : bytes ≡ base_text x.0 ++ x.1

alone_is : (base : Base) (name : Option (List ℕ)) (rest : List ℕ) (y : Base × List ℕ) → alone base name rest ≡ Some y → (base, rest) ≡ y
alone_is base None rest y e = absurd (none-some y e)
alone_is base (Some name) rest y e = same_Some (base, rest) y e

near_takes : (bytes : List ℕ) (x : Addr × List ℕ) (y : Base × List ℕ) → AddrAt bytes x → near x ≡ Some y → BaseAt bytes y
near_takes bytes x y h e =
    map_or_some (at_front x.1) (base_at (bases.Disp x.0)) (alone (bases.Rel x.0) x.0.name x.1) y e
    (λ z ez more. subst (BaseAt bytes) (same_Some (bases.Disp x.0 z.0, z.1) y more) (record {
      spelled = h.spelled ∙ ap (λ (t : List ℕ). addr_text x.0 ++ t) (at_takes x.1 z ez) ∙ sym (append_assoc (addr_text x.0) (at_text z.0) z.1);
    }))
    (λ other. subst (BaseAt bytes) (alone_is (bases.Rel x.0) x.0.name x.1 y other) (record { spelled = h.spelled }))

far_takes : (bytes : List ℕ) (x : Addr × List ℕ) (y : Base × List ℕ) → AddrAt bytes x → far x ≡ Some y → BaseAt (codes "*" ++ bytes) y
far_takes bytes x y h e =
    map_or_some (at_front x.1) (base_at (bases.DispDef x.0)) (alone (bases.RelDef x.0) x.0.name x.1) y e
    (λ z ez more. subst (BaseAt (codes "*" ++ bytes)) (same_Some (bases.DispDef x.0 z.0, z.1) y more) (record {
      spelled = ap (λ (t : List ℕ). codes "*" ++ t) (h.spelled ∙ ap (λ (t : List ℕ). addr_text x.0 ++ t) (at_takes x.1 z ez) ∙ sym (append_assoc (addr_text x.0) (at_text z.0) z.1));
    }))
    (λ other. subst (BaseAt (codes "*" ++ bytes)) (alone_is (bases.RelDef x.0) x.0.name x.1 y other) (record { spelled = ap (λ (t : List ℕ). codes "*" ++ t) h.spelled }))

deferred_takes : (bytes : List ℕ) (y : Base × List ℕ) → deferred_front bytes ≡ Some y → BaseAt (codes "*" ++ bytes) y
unfolding deferred_front
deferred_takes bytes y e =
    map_or_some (addr_front bytes) far _ y e
    (λ x ex more. far_takes bytes x y (addr_takes bytes x ex) more)
    (λ e1. map_or_some (strip (codes "$") bytes) (λ (rest : List ℕ). option_and_then absolute (signed_front rest)) _ y e1
    (λ rest er more. option_and_then_some absolute (signed_front rest) y more (λ x ex is.
    let s = signed_takes rest x ex in
    subst (BaseAt (codes "*" ++ bytes)) (same_Some (bases.Abs x.0, x.1) y is) (record {
      spelled = ap (λ (t : List ℕ). codes "*" ++ t) (strip_takes (codes "$") bytes rest er ∙ ap (λ (t : List ℕ). codes "$" ++ t) s.1);
    })))
    (λ e2. option_and_then_some stepped (at_front bytes) y e2 (λ x ex more.
    map_some (λ (rest : List ℕ). (bases.IncDef x.0, rest)) (strip (codes "+") x.1) y more (λ rest er is.
    subst (BaseAt (codes "*" ++ bytes)) is (record {
      spelled = ap (λ (t : List ℕ). codes "*" ++ t) (at_takes bytes x ex ∙ ap (λ (t : List ℕ). at_text x.0 ++ t) (strip_takes (codes "+") x.1 rest er)
          ∙ sym (append_assoc (at_text x.0) (codes "+") rest));
    })))))

at_or_stepped_takes : (bytes : List ℕ) (x : Reg × List ℕ) (y : Base × List ℕ) → bytes ≡ at_text x.0 ++ x.1 → at_or_stepped x ≡ Some y → BaseAt bytes y
at_or_stepped_takes bytes x y h e =
    map_or_some (strip (codes "+") x.1) (λ (rest : List ℕ). Some (bases.Inc x.0, rest)) (Some (bases.Def x.0, x.1)) y e
    (λ rest er is. subst (BaseAt bytes) (same_Some (bases.Inc x.0, rest) y is) (record {
      spelled = h ∙ ap (λ (t : List ℕ). at_text x.0 ++ t) (strip_takes (codes "+") x.1 rest er) ∙ sym (append_assoc (at_text x.0) (codes "+") rest);
    }))
    (λ is. subst (BaseAt bytes) (same_Some (bases.Def x.0, x.1) y is) (record { spelled = h }))

plain_takes : (bytes : List ℕ) (y : Base × List ℕ) → plain_front bytes ≡ Some y → BaseAt bytes y
unfolding plain_front
plain_takes bytes y e =
    map_or_some (strip (codes "$") bytes) (λ (rest : List ℕ). option_and_then immediate (addr_front rest)) _ y e
    (λ rest er more. option_and_then_some immediate (addr_front rest) y more (λ x ex is.
    let a = addr_takes rest x ex in
    subst (BaseAt bytes) (same_Some (bases.Imm x.0, x.1) y is) (record { spelled = strip_takes (codes "$") bytes rest er ∙ ap (λ (t : List ℕ). codes "$" ++ t) a.spelled })))
    (λ e1. map_or_some (strip (codes "-") bytes) (λ (rest : List ℕ). option_and_then (base_at bases.Dec) (at_front rest)) _ y e1
    (λ rest er more. option_and_then_some (base_at bases.Dec) (at_front rest) y more (λ x ex is.
    subst (BaseAt bytes) (same_Some (bases.Dec x.0, x.1) y is) (record { spelled = strip_takes (codes "-") bytes rest er ∙ ap (λ (t : List ℕ). codes "-" ++ t) (at_takes rest x ex) })))
    (λ e2. map_or_some (at_front bytes) at_or_stepped _ y e2
    (λ x ex more. at_or_stepped_takes bytes x y (at_takes bytes x ex) more)
    (λ e3. option_and_then_some (base_at bases.Reg) (reg_front bytes) y e3 (λ x ex is.
    subst (BaseAt bytes) (same_Some (bases.Reg x.0, x.1) y is) (record { spelled = reg_takes bytes x ex })))))

pub base_takes : (bytes : List ℕ) (y : Base × List ℕ) → base_front bytes ≡ Some y → BaseAt bytes y
unfolding base_front
base_takes bytes y e =
    map_or_some (addr_front bytes) near _ y e
    (λ x ex more. near_takes bytes x y (addr_takes bytes x ex) more)
    (λ e1. map_or_some (strip (codes "*") bytes) deferred_front (plain_front bytes) y e1
    (λ rest er more. subst (λ (t : List ℕ). BaseAt t y) (sym (strip_takes (codes "*") bytes rest er)) (deferred_takes rest y more))
    (λ e2. plain_takes bytes y e2))

-- neither an address nor a parenthesis stands there
pub record EndsBase (rest : List ℕ) : Type 0 where
  pub addr : EndsAddr rest
  pub open_mark : strip (codes "(") rest ≡ None

ends_at : (cs : List ℕ) → EndsAddr (40 ∷ cs)
ends_at cs = record { offset = record { number = refl; plus = refl; minus = refl }; name = refl }

no_addr_dollar : (cs : List ℕ) → addr_front (36 ∷ cs) ≡ None
unfolding addr_front signed_front number_front
no_addr_dollar cs = refl

no_addr_star : (cs : List ℕ) → addr_front (42 ∷ cs) ≡ None
unfolding addr_front signed_front number_front
no_addr_star cs = refl

no_addr_at : (cs : List ℕ) → addr_front (40 ∷ cs) ≡ None
unfolding addr_front signed_front number_front
no_addr_at cs = refl

no_addr_dec : (cs : List ℕ) → addr_front (45 ∷ (40 ∷ cs)) ≡ None
unfolding addr_front signed_front number_front
no_addr_dec cs = refl

by_star : (cs : List ℕ) → base_front (42 ∷ cs) ≡ deferred_front cs
unfolding base_front
by_star cs = rw (no_addr_star cs) refl

by_dollar : (cs : List ℕ) → base_front (36 ∷ cs) ≡ option_and_then immediate (addr_front cs)
unfolding base_front plain_front
by_dollar cs = rw (no_addr_dollar cs) refl

by_dec : (cs : List ℕ) → base_front (45 ∷ (40 ∷ cs)) ≡ option_and_then (base_at bases.Dec) (at_front (40 ∷ cs))
unfolding base_front plain_front
by_dec cs = rw (no_addr_dec cs) refl

by_at : (cs : List ℕ) → base_front (40 ∷ cs) ≡ option_map_or at_or_stepped (at_front (40 ∷ cs)) (option_and_then (base_at bases.Reg) (reg_front (40 ∷ cs)))
unfolding base_front plain_front
by_at cs = rw (no_addr_at cs) refl

by_reg : (r : Reg) (rest : List ℕ) → base_front (reg_text r ++ rest) ≡ option_and_then (base_at bases.Reg) (reg_front (reg_text r ++ rest))
unfolding base_front plain_front addr_front signed_front number_front at_front
by_reg R0 rest = refl
by_reg R1 rest = refl
by_reg R2 rest = refl
by_reg R3 rest = refl
by_reg R4 rest = refl
by_reg R5 rest = refl
by_reg R6 rest = refl
by_reg R7 rest = refl
by_reg R8 rest = refl
by_reg R9 rest = refl
by_reg R10 rest = refl
by_reg R11 rest = refl
by_reg Ap rest = refl
by_reg Fp rest = refl
by_reg Sp rest = refl

no_at : (rest : List ℕ) → strip (codes "(") rest ≡ None → at_front rest ≡ None
unfolding at_front
no_at rest h = rw h refl

alone_named : (base : Base) (name : Option (List ℕ)) (offset : ℕ) (rest : List ℕ) → is_named_addr name offset ≡ true → alone base name rest ≡ Some (base, rest)
alone_named base None offset rest h = absurd (cc)
alone_named base (Some name) offset rest h = refl

disp_again : (a : Addr) (r : Reg) (rest : List ℕ) → is_addr a ≡ true → base_front (addr_text a ++ (at_text r ++ rest)) ≡ Some (bases.Disp a r, rest)
unfolding base_front
disp_again a r rest h = rw (addr_again a (at_text r ++ rest) h (ends_at _), at_again r rest) refl

rel_again : (a : Addr) (rest : List ℕ) → is_named_addr a.name a.offset ≡ true → EndsBase rest → base_front (addr_text a ++ rest) ≡ Some (bases.Rel a, rest)
unfolding base_front
rel_again a rest h ends = rw (addr_again a rest (named_is_addr a.name a.offset h) ends.addr, no_at rest ends.open_mark, alone_named (bases.Rel a) a.name a.offset rest h) refl

disp_def_again : (a : Addr) (r : Reg) (rest : List ℕ) → is_addr a ≡ true → deferred_front (addr_text a ++ (at_text r ++ rest)) ≡ Some (bases.DispDef a r, rest)
unfolding deferred_front
disp_def_again a r rest h = rw (addr_again a (at_text r ++ rest) h (ends_at _), at_again r rest) refl

rel_def_again : (a : Addr) (rest : List ℕ) → is_named_addr a.name a.offset ≡ true → EndsBase rest → deferred_front (addr_text a ++ rest) ≡ Some (bases.RelDef a, rest)
unfolding deferred_front
rel_def_again a rest h ends = rw (addr_again a rest (named_is_addr a.name a.offset h) ends.addr, no_at rest ends.open_mark, alone_named (bases.RelDef a) a.name a.offset rest h) refl

abs_again : (n : ℕ) (rest : List ℕ) → n < 2 ^ 32 → EndsBase rest → deferred_front (36 ∷ (signed_text n ++ rest)) ≡ Some (bases.Abs n, rest)
unfolding deferred_front
abs_again n rest lt ends = rw (no_addr_dollar (signed_text n ++ rest), signed_again n rest lt ends.addr.offset.number) refl

inc_def_again : (r : Reg) (rest : List ℕ) → deferred_front (at_text r ++ (43 ∷ rest)) ≡ Some (bases.IncDef r, rest)
unfolding deferred_front
inc_def_again r rest = rw (no_addr_at _, at_again r (43 ∷ rest)) refl

pub base_again : (b : Base) (rest : List ℕ) → is_base b ≡ true → EndsBase rest → base_front (base_text b ++ rest) ≡ Some (b, rest)
base_again (bases.Imm a) rest h ends = by_dollar (addr_text a ++ rest) ∙ rw (addr_again a rest h ends.addr) refl
base_again (bases.Reg r) rest h ends = by_reg r rest ∙ rw (reg_again r rest ends.addr.offset.number) refl
base_again (bases.Def r) rest h ends = by_at _ ∙ rw (at_again r rest, ends.addr.offset.plus) refl
base_again (bases.Inc r) rest h ends = ap base_front (append_assoc (at_text r) (codes "+") rest) ∙ by_at _ ∙ rw (at_again r (43 ∷ rest)) refl
base_again (bases.IncDef r) rest h ends = ap base_front (ap (λ (t : List ℕ). 42 ∷ t) (append_assoc (at_text r) (codes "+") rest)) ∙ by_star (at_text r ++ (43 ∷ rest)) ∙ inc_def_again r rest
base_again (bases.Dec r) rest h ends = by_dec _ ∙ rw (at_again r rest) refl
base_again (bases.Disp a r) rest h ends = ap base_front (append_assoc (addr_text a) (at_text r) rest) ∙ disp_again a r rest h
base_again (bases.DispDef a r) rest h ends = ap base_front (ap (λ (t : List ℕ). 42 ∷ t) (append_assoc (addr_text a) (at_text r) rest)) ∙ by_star (addr_text a ++ (at_text r ++ rest))
    ∙ disp_def_again a r rest h
base_again (bases.Abs n) rest h ends = by_star (36 ∷ (signed_text n ++ rest)) ∙ abs_again n rest (ltb-true n (2 ^ 32) h) ends
base_again (bases.Rel a) rest h ends = rel_again a rest h ends
base_again (bases.RelDef a) rest h ends = by_star (addr_text a ++ rest) ∙ rel_def_again a rest h ends

-- operands

abbrev pub IndexAt : List ℕ → Option Reg × List ℕ → Type 0
IndexAt bytes x = bytes ≡ index_text x.0 ++ x.1

index_takes : (bytes : List ℕ) (x : Option Reg × List ℕ) → index_front bytes ≡ Some x → IndexAt bytes x
unfolding index_front
index_takes bytes x e =
    map_or_some (strip (codes "[") bytes) (λ (inner : List ℕ). option_and_then some_index (option_and_then (closed (codes "]")) (reg_front inner))) (Some (None, bytes)) x e
    (λ inner ei more.
    option_and_then_some some_index (option_and_then (closed (codes "]")) (reg_front inner)) x more (λ y ey is.
    option_and_then_some (closed (codes "]")) (reg_front inner) y ey (λ z ez end.
    subst (IndexAt bytes) (same_Some (Some y.0, y.1) x is)
    (strip_takes (codes "[") bytes inner ei
    ∙ ap (λ (t : List ℕ). codes "[" ++ t) (reg_closed_takes (codes "]") inner z y ez end ∙ sym (append_assoc (reg_text y.0) (codes "]") y.1))))))
    (λ is. subst (IndexAt bytes) (same_Some (None, bytes) x is) refl)

pub record OperandAt (bytes : List ℕ) (x : Operand × List ℕ) : Type 0 where
  pub spelled : bytes ≡ operand_text x.0 ++ x.1

pub operand_takes : (bytes : List ℕ) (x : Operand × List ℕ) → operand_front bytes ≡ Some x → OperandAt bytes x
unfolding operand_front
operand_takes bytes x e =
    option_and_then_some indexed (base_front bytes) x e (λ y ey more.
    map_some (with_index y.0) (index_front y.1) x more (λ z ez is.
    let b = base_takes bytes y ey in
    subst (OperandAt bytes) is (record {
      spelled = b.spelled ∙ ap (λ (t : List ℕ). base_text y.0 ++ t) (index_takes y.1 z ez) ∙ sym (append_assoc (base_text y.0) (index_text z.0) z.1);
    })))

-- no part of an operand stands there
pub record EndsOperand (rest : List ℕ) : Type 0 where
  pub base : EndsBase rest
  pub bracket : strip (codes "[") rest ≡ None

index_again : (x : Option Reg) (rest : List ℕ) → strip (codes "[") rest ≡ None → index_front (index_text x ++ rest) ≡ Some (x, rest)
unfolding index_front
index_again None rest h = rw h refl
index_again (Some r) rest h = rw (append_assoc (reg_text r) (codes "]") rest, reg_again r (codes "]" ++ rest) refl) refl

ends_base : (x : Option Reg) (rest : List ℕ) → EndsBase rest → EndsBase (index_text x ++ rest)
ends_base None rest h = h
ends_base (Some r) rest h = record { addr = record { offset = record { number = refl; plus = refl; minus = refl }; name = refl }; open_mark = refl }

pub operand_again : (o : Operand) (rest : List ℕ) → is_base o.base ≡ true → EndsOperand rest → operand_front (operand_text o ++ rest) ≡ Some (o, rest)
unfolding operand_front
operand_again o rest h ends =
    ap operand_front (append_assoc (base_text o.base) (index_text o.index) rest)
    ∙ rw (base_again o.base (index_text o.index ++ rest) h (ends_base o.index rest ends.base), index_again o.index rest ends.bracket) refl

pub comma_ends : (rest : List ℕ) → EndsOperand (44 ∷ rest)
comma_ends rest = record { base = record { addr = record { offset = record { number = refl; plus = refl; minus = refl }; name = refl }; open_mark = refl }; bracket = refl }

pub line_ends : (rest : List ℕ) → EndsOperand (10 ∷ rest)
line_ends rest = record { base = record { addr = record { offset = record { number = refl; plus = refl; minus = refl }; name = refl }; open_mark = refl }; bracket = refl }
