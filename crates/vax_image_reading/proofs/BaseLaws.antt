-- Each spelling of a base is found.
use Rattle.std.proofs.Common.{◌≡◌, ℕ, ◌+◌, ◌/◌, ◌^◌, ◌<◌, Bool, true, false, cond, eqb, ltb, List, [], ◌∷◌, ◌++◌, length, Option, Some, None, refl, sym, ap, subst, ◌∙◌, arith}
use Rattle.std.specs.Option.{option_and_then, option_map}
use Rattle.std.proofs.lemmas.Bool.{ltb-true, lt-ltb, eqb-true, ne_eqb}
use Rattle.std.proofs.Math.Nat.{div-mul-le_self, mod-mod}
use Rattle.gg_base.specs.declared.size.Size.{Size}
use Rattle.gg_base.specs.declared.size.Size.TheVariants.{Byte, Word, Long}
use Rattle.gg_base.specs.Sizes.{bytes_of, low}
use Rattle.gg_base.specs.Arithmetic.{sext8, sext16}
use Rattle.vax_core.specs.declared.register.Reg.{Reg}
use Rattle.vax_core.specs.declared.operand.Addr.{Addr}
use Rattle.vax_core.specs.declared.operand.Base.{Base}
use Rattle.vax_core.specs.declared.operand.Base.TheVariants as bases
use Rattle.vax_core.specs.Valid.{is_base, is_addr_of, is_named_addr}
use Rattle.vax_image_format.specs.declared.field.Ref.{Ref}
use Rattle.vax_image_format.specs.Specifiers.{field, ref, mode, imm_bytes, imm_refs, disp_size, disp_mode, disp_bytes, addr_field, addr_refs, base_bytes, base_refs}
use Rattle.vax_image_reading.specs.Fronts.{Front, front, signed, plain}
use Rattle.vax_image_reading.specs.Operands.{immediate, absolute, relative, mode_front, base_behind, disp_front, displaced}
use Rattle.vax_image_reading.specs.Taken.{AreLater}
use Rattle.vax_image_format.proofs.LengthLaws.{field_length}
use Rattle.vax_image_reading.proofs.FieldLaws.{field_again, bare_again, named_again}
use Rattle.vax_image_reading.proofs.ModeLaws.{mode_again, register_byte}

-- bytes with refs of their own are read as a base, and begin with no index
pub record IsRead (size : Size) (bytes : List ℕ) (own : List Ref) (base : Base) (place : ℕ) (rest : List ℕ) (refs : List Ref) : Type 0 where
  pub first : ℕ
  pub tail : List ℕ
  pub is : bytes ≡ first ∷ tail
  pub unindexed : eqb (first / 16) 4 ≡ false
  pub read : base_behind size first (front (place + 1) (tail ++ rest) (own ++ refs)) ≡ Some (base, front (place + length bytes) rest refs)

-- behind a first byte and a field
behind_field : (size : Size) (b n place : ℕ) → place + length (b ∷ field size n) ≡ place + 1 + bytes_of size
behind_field size b n place = omega (arith, field_length size n)

moved : (base : Base) (p q : ℕ) (rest : List ℕ) (refs : List Ref) → p ≡ q → ◌≡◌ {A = Option (Base × Front)} (Some (base, front p rest refs)) (Some (base, front q rest refs))
moved base p q rest refs e = ap (λ (n : ℕ). Some (base, front n rest refs)) e

-- registers alone

by_mode : (size : Size) (m : ℕ) (r : Reg) (base : Base) (place : ℕ) (rest : List ℕ) (refs : List Ref) → 4 < m → ((f : Front) → mode_front m r f ≡ Some (base, f))
    → IsRead size (mode m r ∷ []) [] base place rest refs
by_mode size m r base place rest refs lt front_is = record {
  first = mode m r;
  tail = [];
  is = refl;
  unindexed = ne_eqb (mode m r / 16) 4 (λ e. omega (arith, e, lt, (mode_again m r).0));
  read = register_byte size m r (front (place + 1) rest refs) (omega (arith, lt)) ∙ front_is (front (place + 1) rest refs);
}

mode_5 : (r : Reg) (f : Front) → mode_front 5 r f ≡ Some (bases.Reg r, f)
unfolding mode_front
mode_5 r f = refl

mode_6 : (r : Reg) (f : Front) → mode_front 6 r f ≡ Some (bases.Def r, f)
unfolding mode_front
mode_6 r f = refl

mode_7 : (r : Reg) (f : Front) → mode_front 7 r f ≡ Some (bases.Dec r, f)
unfolding mode_front
mode_7 r f = refl

mode_8 : (r : Reg) (f : Front) → mode_front 8 r f ≡ Some (bases.Inc r, f)
unfolding mode_front
mode_8 r f = refl

mode_9 : (r : Reg) (f : Front) → mode_front 9 r f ≡ Some (bases.IncDef r, f)
unfolding mode_front
mode_9 r f = refl

-- immediates

small_quarter : (n : ℕ) → n < 64 → eqb (n / 16) 4 ≡ false
small_quarter n lt = ne_eqb (n / 16) 4 (λ e. omega (arith, e, lt, div-mul-le_self n 16))

zero_fits : 0 < 2 ^ 32
zero_fits = omega arith

imm_named : (size : Size) (n m place : ℕ) (name : Option (List ℕ)) (rest : List ℕ) (refs : List Ref) → n < 2 ^ 32
    → IsRead size (0x8f ∷ field size n) (ref (place + 1) name m) (bases.Imm (record { name = name; offset = m })) place rest refs
unfolding base_behind
imm_named size n m place name rest refs lt = record {
  first = 0x8f;
  tail = field size n;
  is = refl;
  unindexed = refl;
  read = ap (λ (o : Option (ℕ × Option Addr × Front)). option_map immediate o) (named_again size n (place + 1) name m rest refs lt)
      ∙ moved (bases.Imm (record { name = name; offset = m })) (place + 1 + bytes_of size) (place + length (0x8f ∷ field size n)) rest refs (sym (behind_field size 0x8f n place));
}

imm_plain : (size : Size) (n place : ℕ) (rest : List ℕ) (refs : List Ref) → n < 2 ^ 32 → low size n ≡ n → AreLater (place + length (0x8f ∷ field size n)) refs
    → IsRead size (0x8f ∷ field size n) [] (bases.Imm (plain n)) place rest refs
unfolding base_behind
imm_plain size n place rest refs lt whole later = record {
  first = 0x8f;
  tail = field size n;
  is = refl;
  unindexed = refl;
  read = ap (λ (o : Option (ℕ × Option Addr × Front)). option_map immediate o)
      (bare_again size n (place + 1) rest refs lt (subst (λ (p : ℕ). AreLater p refs) (behind_field size 0x8f n place) later))
      ∙ ap (λ (x : ℕ). Some (bases.Imm (plain x), front (place + 1 + bytes_of size) rest refs)) whole
      ∙ moved (bases.Imm (plain n)) (place + 1 + bytes_of size) (place + length (0x8f ∷ field size n)) rest refs (sym (behind_field size 0x8f n place));
}

imm_short : (size : Size) (n place : ℕ) (rest : List ℕ) (refs : List Ref) → n < 64 → IsRead size (n ∷ []) [] (bases.Imm (plain n)) place rest refs
unfolding base_behind
imm_short size n place rest refs lt = record { first = n; tail = []; is = refl; unindexed = small_quarter n lt; read = rw (lt-ltb n 64 lt) refl }

imm_again : (size : Size) (name : Option (List ℕ)) (n place : ℕ) (rest : List ℕ) (refs : List Ref) → is_addr_of name n ≡ true → AreLater (place + length (imm_bytes size name n)) refs
    → IsRead size (imm_bytes size name n) (imm_refs place size name n) (bases.Imm (record { name = name; offset = n })) place rest refs
imm_again size (Some name) n place rest refs h later = imm_named size 0 n place (Some name) rest refs zero_fits
imm_again size None n place rest refs h later = by (ltb n 64) refl later
  where
    fits : n < 2 ^ 32
    fits = ltb-true n (2 ^ 32) h

    held : (b : Bool) → eqb (low size n) n ≡ b → AreLater (place + length (0x8f ∷ field size n)) refs
        → IsRead size (0x8f ∷ field size n) (cond b [] (ref (place + 1) None n)) (bases.Imm (plain n)) place rest refs
    held true e l = imm_plain size n place rest refs fits (eqb-true (low size n) n e) l
    held false e l = imm_named size n n place None rest refs fits

    by : (b : Bool) → ltb n 64 ≡ b → AreLater (place + length (cond b (n ∷ []) (0x8f ∷ field size n))) refs
        → IsRead size (cond b (n ∷ []) (0x8f ∷ field size n)) (cond b [] (cond (eqb (low size n) n) [] (ref (place + 1) None n))) (bases.Imm (plain n)) place rest refs
    by true e l = imm_short size n place rest refs (ltb-true n 64 e)
    by false e l = held (eqb (low size n) n) refl l

-- displacements: of a kind of base, whose modes are those of its sizes
record HasModes (kind : Addr → Reg → Base) (deferred : ℕ) : Type 0 where
  byte : (r : Reg) (f : Front) → mode_front (0xa + deferred) r f ≡ disp_front kind Byte r f
  word : (r : Reg) (f : Front) → mode_front (0xc + deferred) r f ≡ disp_front kind Word r f
  long : (r : Reg) (f : Front) → mode_front (0xe + deferred) r f ≡ disp_front kind Long r f

of_size : (kind : Addr → Reg → Base) (deferred : ℕ) → HasModes kind deferred → (s : Size) (r : Reg) (f : Front) → mode_front (disp_mode s + deferred) r f ≡ disp_front kind s r f
of_size kind deferred h Byte r f = h.byte r f
of_size kind deferred h Word r f = h.word r f
of_size kind deferred h Long r f = h.long r f

large_mode : (s : Size) (deferred : ℕ) → 4 < disp_mode s + deferred
large_mode Byte deferred = omega arith
large_mode Word deferred = omega arith
large_mode Long deferred = omega arith

-- a displacement comes back from its field
comes_back : (s : Size) (d : ℕ) → disp_size None d ≡ s → signed s (low s d) ≡ d
comes_back s d e = by (eqb (sext8 d) d) (eqb (sext16 d) d) refl refl s e
  where
    byte : eqb (sext8 d) d ≡ true → signed Byte (low Byte d) ≡ d
    byte h = rw (mod-mod d (2 ^ 8)) (eqb-true (sext8 d) d h)

    word : eqb (sext16 d) d ≡ true → signed Word (low Word d) ≡ d
    word h = rw (mod-mod d (2 ^ 16)) (eqb-true (sext16 d) d h)

    by : (a b : Bool) → eqb (sext8 d) d ≡ a → eqb (sext16 d) d ≡ b → (s : Size) → cond a Byte (cond b Word Long) ≡ s → signed s (low s d) ≡ d
    by true b ea eb s e = subst (λ (z : Size). signed z (low z d) ≡ d) e (byte ea)
    by false true ea eb s e = subst (λ (z : Size). signed z (low z d) ≡ d) e (word eb)
    by false false ea eb s e = subst (λ (z : Size). signed z (low z d) ≡ d) e refl

disp_plain : (kind : Addr → Reg → Base) (deferred : ℕ) → HasModes kind deferred → (size s : Size) (d : ℕ) (r : Reg) (place : ℕ) (rest : List ℕ) (refs : List Ref) → d < 2 ^ 32
    → disp_size None d ≡ s → AreLater (place + length (mode (disp_mode s + deferred) r ∷ field s d)) refs
    → IsRead size (mode (disp_mode s + deferred) r ∷ field s d) [] (kind (plain d) r) place rest refs
disp_plain kind deferred h size s d r place rest refs lt is later =
    let m = disp_mode s + deferred in
    let first = mode m r in
    let at = behind_field s first d place in
    record {
      first = first;
      tail = field s d;
      is = refl;
      unindexed = ne_eqb (first / 16) 4 (λ e. omega (arith, e, large_mode s deferred, (mode_again m r).0));
      read = register_byte size m r (front (place + 1) (field s d ++ rest) refs) (omega (arith, large_mode s deferred))
          ∙ of_size kind deferred h s r (front (place + 1) (field s d ++ rest) refs)
          ∙ ap (λ (o : Option (ℕ × Option Addr × Front)). option_map (displaced kind s r) o) (bare_again s d (place + 1) rest refs lt (subst (λ (p : ℕ). AreLater p refs) at later))
          ∙ ap (λ (x : ℕ). Some (kind (plain x) r, front (place + 1 + bytes_of s) rest refs)) (comes_back s d is)
          ∙ moved (kind (plain d) r) (place + 1 + bytes_of s) (place + length (first ∷ field s d)) rest refs (sym at);
    }

disp_named : (kind : Addr → Reg → Base) (deferred : ℕ) → HasModes kind deferred → (size : Size) (name : List ℕ) (d : ℕ) (r : Reg) (place : ℕ) (rest : List ℕ) (refs : List Ref)
    → IsRead size (mode (0xe + deferred) r ∷ field Long 0) (ref (place + 1) (Some name) d) (kind (record { name = Some name; offset = d }) r) place rest refs
disp_named kind deferred h size name d r place rest refs =
    let m = 0xe + deferred in
    let first = mode m r in
    let at = behind_field Long first 0 place in
    let own = ref (place + 1) (Some name) d ++ refs in
    record {
      first = first;
      tail = field Long 0;
      is = refl;
      unindexed = ne_eqb (first / 16) 4 (λ e. omega (arith, e, (mode_again m r).0));
      read = register_byte size m r (front (place + 1) (field Long 0 ++ rest) own) (omega arith)
          ∙ h.long r (front (place + 1) (field Long 0 ++ rest) own)
          ∙ ap (λ (o : Option (ℕ × Option Addr × Front)). option_map (displaced kind Long r) o) (named_again Long 0 (place + 1) (Some name) d rest refs zero_fits)
          ∙ moved (kind (record { name = Some name; offset = d }) r) (place + 1 + 4) (place + length (first ∷ field Long 0)) rest refs (sym at);
    }

disp_again : (kind : Addr → Reg → Base) (deferred : ℕ) → HasModes kind deferred → (size : Size) (name : Option (List ℕ)) (d : ℕ) (r : Reg) (place : ℕ) (rest : List ℕ) (refs : List Ref)
    → is_addr_of name d ≡ true → AreLater (place + length (disp_bytes deferred name d r)) refs
    → IsRead size (disp_bytes deferred name d r) (addr_refs (place + 1) name d) (kind (record { name = name; offset = d }) r) place rest refs
disp_again kind deferred h size None d r place rest refs a later =
    disp_plain kind deferred h size (disp_size None d) d r place rest refs (ltb-true d (2 ^ 32) a) refl later
disp_again kind deferred h size (Some name) d r place rest refs a later = disp_named kind deferred h size name d r place rest refs

near_modes : HasModes bases.Disp 0
unfolding mode_front
near_modes = record { byte = λ r f. refl; word = λ r f. refl; long = λ r f. refl }

far_modes : HasModes bases.DispDef 1
unfolding mode_front
far_modes = record { byte = λ r f. refl; word = λ r f. refl; long = λ r f. refl }

-- addresses

abs_again : (size : Size) (n place : ℕ) (rest : List ℕ) (refs : List Ref) → n < 2 ^ 32 → IsRead size (0x9f ∷ field Long n) [] (bases.Abs n) place rest refs
unfolding base_behind
abs_again size n place rest refs lt = record {
  first = 0x9f;
  tail = field Long n;
  is = refl;
  unindexed = refl;
  read = ap (λ (o : Option (ℕ × Front)). option_map absolute o) (field_again Long n (place + 1) rest refs lt)
      ∙ moved (bases.Abs n) (place + 1 + 4) (place + length (0x9f ∷ field Long n)) rest refs (sym (behind_field Long 0x9f n place));
}

rel_again : (size : Size) (name : Option (List ℕ)) (d place : ℕ) (rest : List ℕ) (refs : List Ref) → is_named_addr name d ≡ true
    → IsRead size (0xef ∷ addr_field Long name d) (addr_refs (place + 1) name d) (bases.Rel (record { name = name; offset = d })) place rest refs
unfolding base_behind
rel_again size None d place rest refs h = absurd (cc)
rel_again size (Some name) d place rest refs h = record {
  first = 0xef;
  tail = field Long 0;
  is = refl;
  unindexed = refl;
  read = ap (λ (o : Option (ℕ × Option Addr × Front)). option_and_then (relative bases.Rel) o) (named_again Long 0 (place + 1) (Some name) d rest refs zero_fits)
      ∙ moved (bases.Rel (record { name = Some name; offset = d })) (place + 1 + 4) (place + length (0xef ∷ field Long 0)) rest refs (sym (behind_field Long 0xef 0 place));
}

rel_def_again : (size : Size) (name : Option (List ℕ)) (d place : ℕ) (rest : List ℕ) (refs : List Ref) → is_named_addr name d ≡ true
    → IsRead size (0xff ∷ addr_field Long name d) (addr_refs (place + 1) name d) (bases.RelDef (record { name = name; offset = d })) place rest refs
unfolding base_behind
rel_def_again size None d place rest refs h = absurd (cc)
rel_def_again size (Some name) d place rest refs h = record {
  first = 0xff;
  tail = field Long 0;
  is = refl;
  unindexed = refl;
  read = ap (λ (o : Option (ℕ × Option Addr × Front)). option_and_then (relative bases.RelDef) o) (named_again Long 0 (place + 1) (Some name) d rest refs zero_fits)
      ∙ moved (bases.RelDef (record { name = Some name; offset = d })) (place + 1 + 4) (place + length (0xff ∷ field Long 0)) rest refs (sym (behind_field Long 0xff 0 place));
}

pub base_again : (size : Size) (base : Base) (place : ℕ) (rest : List ℕ) (refs : List Ref) → is_base base ≡ true → AreLater (place + length (base_bytes size base)) refs
    → IsRead size (base_bytes size base) (base_refs place size base) base place rest refs
base_again size (bases.Imm a) place rest refs h later = imm_again size a.name a.offset place rest refs h later
base_again size (bases.Reg r) place rest refs h later = by_mode size 5 r (bases.Reg r) place rest refs (omega arith) (mode_5 r)
base_again size (bases.Def r) place rest refs h later = by_mode size 6 r (bases.Def r) place rest refs (omega arith) (mode_6 r)
base_again size (bases.Dec r) place rest refs h later = by_mode size 7 r (bases.Dec r) place rest refs (omega arith) (mode_7 r)
base_again size (bases.Inc r) place rest refs h later = by_mode size 8 r (bases.Inc r) place rest refs (omega arith) (mode_8 r)
base_again size (bases.IncDef r) place rest refs h later = by_mode size 9 r (bases.IncDef r) place rest refs (omega arith) (mode_9 r)
base_again size (bases.Abs n) place rest refs h later = abs_again size n place rest refs (ltb-true n (2 ^ 32) h)
base_again size (bases.Disp a r) place rest refs h later = disp_again bases.Disp 0 near_modes size a.name a.offset r place rest refs h later
base_again size (bases.DispDef a r) place rest refs h later = disp_again bases.DispDef 1 far_modes size a.name a.offset r place rest refs h later
base_again size (bases.Rel a) place rest refs h later = rel_again size a.name a.offset place rest refs h
base_again size (bases.RelDef a) place rest refs h later = rel_def_again size a.name a.offset place rest refs h
