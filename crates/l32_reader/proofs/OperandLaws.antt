-- An operand at the front is its one spelling, and each spelling is found.
use Rattle.std.proofs.Common.{◌≡◌, ℕ, ◌≤◌, ◌<◌, ◌^◌, true, List, [], ◌∷◌, ◌++◌, Option, Some, None, refl, sym, ap, subst, ◌∙◌, arith, append_assoc}
use Rattle.std.specs.Prelude.{codes}
use Rattle.std.specs.Option.{option_map, option_and_then}
use Rattle.std.specs.Fmt.{decimal}
use Rattle.std.proofs.lemmas.Bool.{leb-true, ltb-true, and_parts}
use Rattle.std.proofs.lemmas.Option.{none-some, same_Some, option_and_then_some}
use Rattle.gg_base.specs.Numbers.{signed_text}
use Rattle.gg_base.proofs.Facts.{either_is}
use Rattle.vax_core.specs.declared.operand.Addr.{Addr}
use Rattle.vax_core.specs.Text.{addr_text, addr_text_of}
use Rattle.vax_core.specs.Valid.{is_long, is_named_addr}
use Rattle.vax_core.proofs.ValidLaws.{named_is_addr}
use Rattle.vax_reader.specs.Fronts.{strip, number_front, signed_front, closed}
use Rattle.vax_reader.specs.Operands.{addr_front}
use Rattle.vax_reader.proofs.Choices.{map_or_some, map_some}
use Rattle.vax_reader.proofs.FrontLaws.{EndsNumber, strip_takes, up_to_takes, up_to_again, signed_takes, signed_again}
use Rattle.vax_reader.proofs.NameLaws.{closed_takes}
use Rattle.vax_reader.proofs.OperandLaws.{EndsAddr, addr_takes, addr_again}
use Rattle.l32_core.specs.declared.op.Role.{Role}
use Rattle.l32_core.specs.declared.op.Role.TheVariants as roles
use Rattle.l32_core.specs.declared.operand.Base32.{Base32}
use Rattle.l32_core.specs.declared.operand.Base32.TheVariants as bases
use Rattle.l32_core.specs.declared.operand.Operand32.{Operand32}
use Rattle.l32_core.specs.declared.operand.Operand32.TheVariants as operands
use Rattle.l32_core.specs.Text.{reg_text, base_text, at_text, operand_text}
use Rattle.l32_core.specs.Valid.{is_reg, is_base, is_register, is_memory, is_number, suits}
use Rattle.l32_reader.specs.Operands.{reg_front, general_base, found_base, base_front, at_front, displaced, deferred_front, near, near_by, memory_front, number_operand}
use Rattle.l32_reader.specs.Operands.{register_operand, operand_front}

-- registers

reg_takes : (bytes : List ℕ) (x : ℕ × List ℕ) → reg_front bytes ≡ Some x → codes "a" ++ bytes ≡ reg_text x.0 ++ x.1
reg_takes bytes x e = ap (λ (t : List ℕ). codes "a" ++ t) (up_to_takes 11 bytes x e).1

reg_again : (n : ℕ) (rest : List ℕ) → is_reg n ≡ true → EndsNumber rest → reg_front (decimal n ++ rest) ≡ Some (n, rest)
reg_again n rest h ends = let lt : n < 12 = ltb-true n 12 h in up_to_again 11 n rest (omega arith) (omega (arith, lt)) ends

abbrev BaseAt : List ℕ → Base32 × List ℕ → Type 0
BaseAt bytes x = bytes ≡ base_text x.0 ++ x.1

fixed_takes : (word : List ℕ) (b : Base32) (bytes rest : List ℕ) (x : Base32 × List ℕ) → word ≡ base_text b → strip word bytes ≡ Some rest → found_base b rest ≡ Some x → BaseAt bytes x
fixed_takes word b bytes rest x is e f = subst (BaseAt bytes) (same_Some (b, rest) x f) (strip_takes word bytes rest e ∙ ap (λ (t : List ℕ). t ++ rest) is)

base_takes : (bytes : List ℕ) (x : Base32 × List ℕ) → base_front bytes ≡ Some x → BaseAt bytes x
unfolding base_front
base_takes bytes x e =
    map_or_some (strip (codes "a") bytes) (λ (rest : List ℕ). option_map general_base (reg_front rest)) _ x e
    (λ rest er more. map_some general_base (reg_front rest) x more (λ y ey is. subst (BaseAt bytes) is (strip_takes (codes "a") bytes rest er ∙ reg_takes rest y ey)))
    (λ e1. map_or_some (strip (codes "fp") bytes) (found_base bases.Fp) _ x e1
    (λ rest er more. fixed_takes (codes "fp") bases.Fp bytes rest x refl er more)
    (λ e2. option_and_then_some (found_base bases.Sp) (strip (codes "sp") bytes) x e2
    (λ rest er more. fixed_takes (codes "sp") bases.Sp bytes rest x refl er more)))

base_again : (b : Base32) (rest : List ℕ) → is_base b ≡ true → EndsNumber rest → base_front (base_text b ++ rest) ≡ Some (b, rest)
unfolding base_front
base_again (bases.A n) rest h ends = rw (reg_again n rest h ends) refl
base_again bases.Fp rest h ends = refl
base_again bases.Sp rest h ends = refl

-- `(r)`
abbrev closed_text : Base32 → List ℕ
closed_text b = codes "(" ++ (base_text b ++ codes ")")

abbrev AtAt : List ℕ → Base32 × List ℕ → Type 0
AtAt bytes x = bytes ≡ closed_text x.0 ++ x.1

at_takes : (bytes : List ℕ) (x : Base32 × List ℕ) → at_front bytes ≡ Some x → AtAt bytes x
unfolding at_front
at_takes bytes x e =
    option_and_then_some (λ (inner : List ℕ). option_and_then (closed (codes ")")) (base_front inner)) (strip (codes "(") bytes) x e (λ inner ei more.
    option_and_then_some (closed (codes ")")) (base_front inner) x more (λ y ey end.
    let c = closed_takes (codes ")") y x end in
    let whole : inner ≡ base_text x.0 ++ (codes ")" ++ x.1) =
    base_takes inner y ey ∙ ap (λ (t : List ℕ). base_text y.0 ++ t) c.1 ∙ ap (λ (b : Base32). base_text b ++ (codes ")" ++ x.1)) c.0 in
    strip_takes (codes "(") bytes inner ei ∙ ap (λ (t : List ℕ). codes "(" ++ t) (whole ∙ sym (append_assoc (base_text x.0) (codes ")") x.1))))

at_again : (b : Base32) (rest : List ℕ) → is_base b ≡ true → at_front (closed_text b ++ rest) ≡ Some (b, rest)
unfolding at_front
at_again b rest h = rw (append_assoc (base_text b) (codes ")") rest, base_again b (codes ")" ++ rest) h refl) refl

-- a displacement and its register

displaced_takes : (operand : ℕ → Base32 → Operand32) (mark bytes : List ℕ) (x : ℕ × List ℕ) (y : Operand32 × List ℕ) → ((n : ℕ) (b : Base32) → operand_text (operand n b) ≡ mark ++ at_text n b)
    → bytes ≡ mark ++ (signed_text x.0 ++ x.1) → displaced operand x ≡ Some y → bytes ≡ operand_text y.0 ++ y.1
displaced_takes operand mark bytes x y spelling h e =
    map_some (λ (r : Base32 × List ℕ). (operand x.0 r.0, r.1)) (at_front x.1) y e (λ r er is.
    subst (λ (z : Operand32 × List ℕ). bytes ≡ operand_text z.0 ++ z.1) is
    (h
    ∙ ap (λ (t : List ℕ). mark ++ (signed_text x.0 ++ t)) (at_takes x.1 r er)
    ∙ ap (λ (t : List ℕ). mark ++ t) (sym (append_assoc (signed_text x.0) (closed_text r.0) r.1))
    ∙ sym (append_assoc mark (at_text x.0 r.0) r.1)
    ∙ ap (λ (t : List ℕ). t ++ r.1) (sym (spelling x.0 r.0))))

displaced_again : (operand : ℕ → Base32 → Operand32) (n : ℕ) (b : Base32) (rest : List ℕ) → is_base b ≡ true → displaced operand (n, closed_text b ++ rest) ≡ Some (operand n b, rest)
displaced_again operand n b rest h = rw (at_again b rest h) refl

-- operands

pub record OperandAt (bytes : List ℕ) (x : Operand32 × List ℕ) : Type 0 where
  pub spelled : bytes ≡ operand_text x.0 ++ x.1

near_takes : (name : Option (List ℕ)) (bytes : List ℕ) (x : Addr × List ℕ) (y : Operand32 × List ℕ) → bytes ≡ addr_text_of name x.0.offset ++ x.1 → bytes ≡ addr_text x.0 ++ x.1
    → near_by name x ≡ Some y → OperandAt bytes y
near_takes None bytes x y h k e = record { spelled = displaced_takes operands.At [] bytes (x.0.offset, x.1) y (λ n b. refl) h e }
near_takes (Some name) bytes x y h k e = subst (OperandAt bytes) (same_Some (operands.Addr x.0, x.1) y e) (record { spelled = k })

memory_takes : (bytes : List ℕ) (y : Operand32 × List ℕ) → memory_front bytes ≡ Some y → OperandAt bytes y
unfolding memory_front
memory_takes bytes y e =
    option_and_then_some near (addr_front bytes) y e (λ x ex more. let a = addr_takes bytes x ex in near_takes x.0.name bytes x y a.spelled a.spelled more)

deferred_takes : (bytes : List ℕ) (y : Operand32 × List ℕ) → deferred_front bytes ≡ Some y → OperandAt (codes "@" ++ bytes) y
unfolding deferred_front
deferred_takes bytes y e =
    option_and_then_some (displaced operands.Deferred) (signed_front bytes) y e (λ x ex more. record {
      spelled = displaced_takes operands.Deferred (codes "@") (codes "@" ++ bytes) x y (λ n b. refl) (ap (λ (t : List ℕ). codes "@" ++ t) (signed_takes bytes x ex).1) more;
    })

pub operand_takes : (bytes : List ℕ) (y : Operand32 × List ℕ) → operand_front bytes ≡ Some y → OperandAt bytes y
unfolding operand_front
operand_takes bytes y e =
    map_or_some (strip (codes "$") bytes) (λ (rest : List ℕ). option_map number_operand (signed_front rest)) _ y e
    (λ rest er more. map_some number_operand (signed_front rest) y more (λ x ex is. subst (OperandAt bytes) is (record {
      spelled = strip_takes (codes "$") bytes rest er ∙ ap (λ (t : List ℕ). codes "$" ++ t) (signed_takes rest x ex).1;
    })))
    (λ e1. map_or_some (strip (codes "a") bytes) (λ (rest : List ℕ). option_map register_operand (reg_front rest)) _ y e1
    (λ rest er more. map_some register_operand (reg_front rest) y more (λ x ex is. subst (OperandAt bytes) is (record {
      spelled = strip_takes (codes "a") bytes rest er ∙ reg_takes rest x ex;
    })))
    (λ e2. map_or_some (strip (codes "@") bytes) deferred_front (memory_front bytes) y e2
    (λ rest er more. subst (λ (t : List ℕ). OperandAt t y) (sym (strip_takes (codes "@") bytes rest er)) (deferred_takes rest y more))
    (λ e3. memory_takes bytes y e3)))

-- what begins an address is none of the marks of other operands

no_addr_dollar : (cs : List ℕ) → addr_front (36 ∷ cs) ≡ None
unfolding addr_front signed_front number_front
no_addr_dollar cs = refl

no_addr_letter : (cs : List ℕ) → addr_front (97 ∷ cs) ≡ None
unfolding addr_front signed_front number_front
no_addr_letter cs = refl

no_addr_at : (cs : List ℕ) → addr_front (64 ∷ cs) ≡ None
unfolding addr_front signed_front number_front
no_addr_at cs = refl

no_mark : (mark bytes : List ℕ) (x : Addr × List ℕ) (o : Option (List ℕ)) → strip mark bytes ≡ o → addr_front bytes ≡ Some x
    → ((rest : List ℕ) → addr_front (mark ++ rest) ≡ None) → o ≡ None
no_mark mark bytes x None e f h = refl
no_mark mark bytes x (Some rest) e f h = absurd (none-some x (sym (h rest) ∙ sym (ap addr_front (strip_takes mark bytes rest e)) ∙ f))

by_memory : (bytes : List ℕ) (x : Addr × List ℕ) → addr_front bytes ≡ Some x → operand_front bytes ≡ memory_front bytes
unfolding operand_front
by_memory bytes x e =
    rw (
      no_mark (codes "$") bytes x (strip (codes "$") bytes) refl e no_addr_dollar,
      no_mark (codes "a") bytes x (strip (codes "a") bytes) refl e no_addr_letter,
      no_mark (codes "@") bytes x (strip (codes "@") bytes) refl e no_addr_at,
    ) refl

abbrev number_addr : ℕ → Addr
number_addr n = record { name = None; offset = n }

ends_open : (cs : List ℕ) → EndsAddr (40 ∷ cs)
ends_open cs = record { offset = record { number = refl; plus = refl; minus = refl }; name = refl }

near_named : (name : Option (List ℕ)) (x : Addr × List ℕ) → is_named_addr name x.0.offset ≡ true → near_by name x ≡ Some (operands.Addr x.0, x.1)
near_named None x h = absurd (cc)
near_named (Some name) x h = refl

addr_found : (a : Addr) (rest : List ℕ) → is_named_addr a.name a.offset ≡ true → EndsAddr rest → operand_front (addr_text a ++ rest) ≡ Some (operands.Addr a, rest)
unfolding memory_front
addr_found a rest h ends =
    let e = addr_again a rest (named_is_addr a.name a.offset h) ends in
    by_memory (addr_text a ++ rest) (a, rest) e ∙ rw e (near_named a.name (a, rest) h)

at_found : (n : ℕ) (b : Base32) (rest : List ℕ) → is_long n ≡ true → is_base b ≡ true → operand_front (at_text n b ++ rest) ≡ Some (operands.At n b, rest)
unfolding memory_front
at_found n b rest l h =
    let behind = closed_text b ++ rest in
    let e = addr_again (number_addr n) behind l (ends_open _) in
    ap operand_front (append_assoc (signed_text n) (closed_text b) rest)
    ∙ by_memory (signed_text n ++ behind) (number_addr n, behind) e
    ∙ rw e (displaced_again operands.At n b rest h)

deferred_found : (n : ℕ) (b : Base32) (rest : List ℕ) → is_long n ≡ true → is_base b ≡ true → operand_front ((codes "@" ++ at_text n b) ++ rest) ≡ Some (operands.Deferred n b, rest)
unfolding operand_front deferred_front
deferred_found n b rest l h =
    rw (append_assoc (signed_text n) (closed_text b) rest, signed_again n (closed_text b ++ rest) (ltb-true n (2 ^ 32) l) refl) (displaced_again operands.Deferred n b rest h)

number_found : (n : ℕ) (rest : List ℕ) → n < 2 ^ 32 → EndsNumber rest → operand_front ((codes "$" ++ signed_text n) ++ rest) ≡ Some (operands.Num n, rest)
unfolding operand_front
number_found n rest lt ends = rw (signed_again n rest lt ends) refl

reg_found : (n : ℕ) (rest : List ℕ) → is_reg n ≡ true → EndsNumber rest → operand_front (reg_text n ++ rest) ≡ Some (operands.Reg n, rest)
unfolding operand_front
reg_found n rest h ends = rw (reg_again n rest h ends) refl

-- by what may stand there

abbrev pub Again : Operand32 → Type 0
Again o = (rest : List ℕ) → EndsAddr rest → operand_front (operand_text o ++ rest) ≡ Some (o, rest)

number_again : (limit : ℕ) (o : Operand32) → limit < 2 ^ 32 → is_number limit o ≡ true → Again o
number_again limit (operands.Num n) lt h rest ends = let le : n ≤ limit = leb-true n limit h in number_found n rest (omega (arith, le, lt)) ends.offset.number
number_again limit _ lt h rest ends = absurd (cc)

register_again : (o : Operand32) → is_register o ≡ true → Again o
register_again (operands.Reg n) h rest ends = reg_found n rest h ends.offset.number
register_again _ h rest ends = absurd (cc)

memory_again : (o : Operand32) → is_memory o ≡ true → Again o
memory_again (operands.At n b) h rest ends = let p = and_parts (is_long n) (is_base b) h in at_found n b rest p.0 p.1
memory_again (operands.Deferred n b) h rest ends = let p = and_parts (is_long n) (is_base b) h in deferred_found n b rest p.0 p.1
memory_again (operands.Addr a) h rest ends = addr_found a rest h ends
memory_again _ h rest ends = absurd (cc)

pub operand_again : (role : Role) (o : Operand32) → suits role o ≡ true → Again o
operand_again roles.Number o h = number_again 4294967295 o (omega arith) h
operand_again roles.Words o h = number_again 1024 o (omega arith) h
operand_again roles.Count o h = number_again 255 o (omega arith) h
operand_again roles.Destination o h = register_again o h
operand_again roles.Register o h = register_again o h
operand_again (roles.Source size) o h = either_is (is_register o) (is_memory o) h (register_again o) (memory_again o)
operand_again (roles.Store size) o h = memory_again o h
operand_again roles.Address o h = memory_again o h
