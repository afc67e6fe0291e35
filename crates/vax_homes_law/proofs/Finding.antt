-- Where the base of an operand leads, in two states of which one has locals in registers.
use Rattle.std.proofs.Common.{◌≡◌, ◌⊎◌, inl, inr, ℕ, ◌+◌, ◌-◌, ◌*◌, ◌^◌, ◌<◌, ◌≤◌, Bool, true, false, cond, List, [], ◌∷◌, take, drop, Option, Some, None}
use Rattle.std.proofs.Common.{Result, Ok, Err, refl, sym, ap, subst, ◌∙◌, arith}
use Rattle.std.specs.Prelude.{slice_index, ◌&&◌, ◌||◌, ◌==◌, nat_lt, is_none}
use Rattle.std.specs.Int.{w16, from_le_bytes}
use Rattle.std.proofs.lemmas.Bool.{and_parts, eq-eqb, lt-ltb, ltb-true, eqb-true, true≢false, false≢true}
use Rattle.std.proofs.lemmas.Option.{same_Some}
use Rattle.gg_base.specs.declared.size.Size.{Size}
use Rattle.gg_base.specs.declared.size.Size.TheVariants.{Byte, Word, Long}
use Rattle.gg_base.specs.Arithmetic.{add32}
use Rattle.gg_base.specs.LittleEndian.{number_in}
use Rattle.vax_confined.specs.vax_core.specs.declared.register.Reg.{Reg}
use Rattle.vax_confined.specs.vax_core.specs.declared.register.Reg.TheVariants.{Ap, Fp}
use Rattle.vax_confined.specs.vax_core.specs.declared.operand.Addr.{Addr}
use Rattle.vax_confined.specs.vax_core.specs.declared.operand.Base.{Base}
use Rattle.vax_confined.specs.vax_core.specs.declared.operand.Base.TheVariants as bases
use Rattle.vax_confined.specs.vax_core.specs.declared.op.OperandKind.{OperandKind}
use Rattle.vax_confined.specs.vax_core.specs.Registers.{reg_number, base_register, is_named}
use Rattle.vax_confined.specs.vax_core.specs.Valid.{is_base, is_addr_of, is_named_addr}
use Rattle.vax_confined.specs.vax_machine.specs.declared.turn.Stop.{Stop}
use Rattle.vax_confined.specs.vax_machine.specs.declared.memory.Region.{Region}
use Rattle.vax_confined.specs.vax_machine.specs.declared.memory.Region.TheVariants as regions
use Rattle.vax_confined.specs.vax_machine.specs.declared.operands.Location.{Location}
use Rattle.vax_confined.specs.vax_machine.specs.declared.operands.Location.TheVariants as locations
use Rattle.vax_confined.specs.vax_core.specs.declared.code.AreaItem.{AreaItem}
use Rattle.vax_confined.specs.vax_machine.specs.State.{State, reg, access, ◌>>=◌}
use Rattle.vax_confined.specs.vax_machine.specs.Area.{resolved, resolved_of, label_address}
use Rattle.vax_confined.specs.vax_machine.specs.Memory.{touched, read, number_at}
use Rattle.vax_confined.specs.vax_machine.specs.Operands.{located, deferred}
use Rattle.vax_confined.specs.vax_machine_lists.specs.Sound.{AllBelow, IsSound}
use Rattle.vax_confined.specs.vax_machine_lists.proofs.Longwords.{below_get, below_take, below_drop, long_below}
use Rattle.vax_confined.specs.vax_machine_lists.proofs.Numbers.{add_small}
use Rattle.vax_homes.specs.declared.choose.Home.{Home}
use Rattle.vax_homes.specs.Choosing.{is_home_at, is_word_at, is_long, is_value, is_fp, allows_home, spares_base}
use Rattle.vax_homes.specs.Homing.{register_at, home_at, held_by, pointed_by, homed_base}
use Rattle.vax_confined.specs.Confined.{in_area, is_word, is_argument, is_own, is_own_base, displaced, found}
use Rattle.vax_homes_law.specs.Alike.{Has, IsPaired, beside, is_argument_of, FitsArguments, IsFree, AreLaid, Alike}
use Rattle.vax_homes_law.proofs.Memory.{Breaks, LiesAt, lies, free_at, read_free, read_data, home_read}
use Rattle.vax_homes_law.proofs.Places.{IsOther, IsHome}

-- ---- numbers are longwords

abbrev pub Small : Result ℕ Stop → Type 0
Small (Ok v) = v < 2 ^ 32
Small (Err e) = Breaks e

from_two : (bytes : List ℕ) → AllBelow 256 bytes → from_le_bytes w16 bytes < 2 ^ 32
from_two bytes h =
    let a = below_get 256 0 bytes (omega arith) h in
    let b = below_get 256 1 bytes (omega arith) h in
    omega (arith, a, b)

number_small : (s : Size) (bytes : List ℕ) (at : ℕ) → AllBelow 256 bytes → number_in s bytes at < 2 ^ 32
number_small Byte bytes at h = let b = below_get 256 at bytes (omega arith) h in omega (arith, b)
number_small Word bytes at h = from_two (take 2 (drop at bytes)) (below_take 256 2 (drop at bytes) (below_drop 256 at bytes h))
number_small Long bytes at h = long_below bytes at h

small_by : (m : State) (a : ℕ) (s : Size) → IsSound m → (t : Result Region Stop) → LiesAt m a s t → Small (t >>= λ (r : Region). Ok (number_at m s r))
small_by m a s h (Ok (regions.Area at)) l = number_small s m.area at h.area_bytes
small_by m a s h (Ok (regions.Stack at)) l = number_small s m.stack at h.stack_bytes
small_by m a s h (Err e) l = l

pub read_small : (m : State) (a : ℕ) (s : Size) → IsSound m → Small (read m a s)
unfolding read
read_small m a s h = small_by m a s h (touched m a s) (lies m a s)

resolved_by : (layout : List AreaItem) (name : Option (List ℕ)) (offset : ℕ) → is_addr_of name offset ≡ true → resolved_of layout name offset < 2 ^ 32
resolved_by layout None offset e = ltb-true offset (2 ^ 32) e
resolved_by layout (Some name) offset e = add_small (label_address layout name) offset

relative_by : (layout : List AreaItem) (name : Option (List ℕ)) (offset : ℕ) → is_named_addr name offset ≡ true → resolved_of layout name offset < 2 ^ 32
relative_by layout None offset e = absurd cc
relative_by layout (Some name) offset e = add_small (label_address layout name) offset

nameless : (layout : List AreaItem) (name : Option (List ℕ)) (offset : ℕ) → is_none name ≡ true → resolved_of layout name offset ≡ offset
nameless layout None offset e = refl
nameless layout (Some name) offset e = absurd cc

-- ---- the home that an address has

pub record HomeOf (gs : List Home) (a : Addr) (q : Reg) : Type 0 where
  pub home : Home
  pub has : Has gs home
  pub register : home.register ≡ q
  pub at : is_home_at home.local a ≡ true

home_of : (gs : List Home) (a : Addr) (q : Reg) → register_at gs a ≡ Some q → HomeOf gs a q
home_of [] a q e = absurd cc
home_of (g ∷ gs) a q e = by (λ f. home_of gs a q f) (is_home_at g.local a) refl e
  where
    further : HomeOf gs a q → HomeOf (g ∷ gs) a q
    further f = record { home = f.home; has = inr f.has; register = f.register; at = f.at }

    by : (register_at gs a ≡ Some q → HomeOf gs a q) → (b : Bool) → is_home_at g.local a ≡ b → cond b (Some g.register) (register_at gs a) ≡ Some q → HomeOf (g ∷ gs) a q
    by rest true is e = record { home = g; has = inl refl; register = same_Some g.register q e; at = is }
    by rest false is e = further (rest e)

at_home : (layout : List AreaItem) (k : ℕ) (a : Addr) (fp : ℕ) → is_home_at k a ≡ true → 4 * (k + 1) ≤ fp → fp < 2 ^ 32 → add32 (resolved layout a) fp ≡ fp - 4 * (k + 1)
at_home layout k a fp e le lt =
    let parts = and_parts (is_none a.name) (a.offset + 4 * (k + 1) == 2 ^ 32) e in
    let whole = eqb-true (a.offset + 4 * (k + 1)) (2 ^ 32) parts.1 in
    ap (λ (x : ℕ). add32 x fp) (nameless layout a.name a.offset parts.0) ∙ omega (arith, whole, le, lt)

module _ (hs : List Home) (paired : IsPaired hs) (hidden : ℕ → Type 0) (args low_end : ℕ) where
  pub is_other : (r : Reg) → ((k : Home) → Has hs k → is_named (Some r) (reg_number k.register) ≡ false) → IsOther hs paired hidden args low_end r
  is_other r none k in_hs same =
      true≢false (sym (ap (λ (b : Bool). b && nat_lt (reg_number k.register) 12) (eq-eqb (reg_number r) (reg_number k.register) (sym same)) ∙ lt-ltb (reg_number k.register) 12 (paired.high k in_hs))
      ∙ none k in_hs)

  module _ (m : State) (rs st : List ℕ) (h : Alike hs hidden m rs st) (laid : AreLaid hs hidden (reg m Fp) (reg m Ap) args low_end) (kind : OperandKind) (x : Option Reg) where
    -- a home in the other state is a longword without index, whose address isn't taken
    pub record HomeUsed (a : ℕ) (other : Location) : Type 0 where
      pub is_home : IsHome hs paired hidden args low_end m rs st h laid a other
      pub plain : is_none x ≡ true
      pub long : is_long kind.size ≡ true
      pub value : is_value kind.access ≡ true

    abbrev pub Near : Base → Location → Location → Type 0
    Near b (locations.Number n) other = (other ≡ locations.Number n) × (n < 2 ^ 32)
    Near b (locations.Register r) other = (other ≡ locations.Register r) × (reg_number r < 12) × IsOther hs paired hidden args low_end r
    Near b (locations.Memory a) other = ((other ≡ locations.Memory a) × (a < 2 ^ 32) × (is_own_base b ≡ true → IsFree hs hidden a)) ⊎ HomeUsed a other

    pub record FindsAt (b : Base) (l : Location) (n : State) (other : Result (Location × State) Stop) : Type 0 where
      pub there : Location
      pub stays : n ≡ m
      pub finds : other ≡ Ok (there, beside m rs st)
      pub near : Near b l there

    abbrev pub Finds : Base → Result (Location × State) Stop → Result (Location × State) Stop → Type 0
    Finds b (Ok y) other = FindsAt b y.0 y.1 other
    Finds b (Err e) other = Breaks e

    same_register : (r : Reg) → ((k : Home) → Has hs k → is_named (Some r) (reg_number k.register) ≡ false) → reg (beside m rs st) r ≡ reg m r
    same_register r none = h.others (reg_number r) (is_other r none)

    reg_small : (r : Reg) → reg m r < 2 ^ 32
    reg_small r = below_get (2 ^ 32) (reg_number r) m.registers (omega arith) h.sound.longwords

    -- a pointer that both read
    pointed : (b : Base) → is_own_base b ≡ false → (a c : ℕ) → a ≡ c → read (beside m rs st) a Long ≡ read m a Long → Finds b (deferred m a) (deferred (beside m rs st) c)
    pointed b none a c eq same = subst (λ (y : ℕ). Finds b (deferred m a) (deferred (beside m rs st) y)) eq
        (by (read m a Long) (read (beside m rs st) a Long) same (read_small m a Long h.sound))
      where
        by : (t u : Result ℕ Stop) → u ≡ t → Small t → Finds b (t >>= λ (v : ℕ). Ok (locations.Memory v, m)) (u >>= λ (v : ℕ). Ok (locations.Memory v, beside m rs st))
        by (Ok v) u is small = record {
          there = locations.Memory v;
          stays = refl;
          finds = ap (λ (w : Result ℕ Stop). w >>= λ (v : ℕ). Ok (locations.Memory v, beside m rs st)) is;
          near = inl (refl, small, λ own. absurd (true≢false (sym own ∙ none)));
        }
        by (Err e) u is small = small

    -- a place of its own that is no home
    module _ (a : Addr) (r : Reg) (fits : (reg_number r ≡ 12) → is_argument a ≡ true → is_argument_of args a ≡ true) (no_home : home_at hs r a ≡ None) where
      own_by : (p q : Bool) → (reg_number r == 13) ≡ p → (reg_number r == 12) ≡ q → cond p (register_at hs a) None ≡ None → cond p (is_word a) (cond q (is_argument a) false) ≡ true
          → IsFree hs hidden (displaced m r a)
      own_by true q is_p is_q none e =
          let parts = and_parts (is_none a.name) _ e in
          subst (IsFree hs hidden)
          (ap (λ (y : ℕ). add32 y (reg m Fp)) (sym (nameless m.layout a.name a.offset parts.0))
          ∙ ap (λ (n : ℕ). add32 (resolved m.layout a) (slice_index m.registers n)) (sym (eqb-true (reg_number r) 13 is_p)))
          (laid.words a e none)
      own_by false true is_p is_q none e =
          let parts = and_parts (is_none a.name) _ e in
          subst (IsFree hs hidden)
          (ap (λ (y : ℕ). add32 y (reg m Ap)) (sym (nameless m.layout a.name a.offset parts.0))
          ∙ ap (λ (n : ℕ). add32 (resolved m.layout a) (slice_index m.registers n)) (sym (eqb-true (reg_number r) 12 is_q)))
          (laid.arguments a (fits (eqb-true (reg_number r) 12 is_q) e))
      own_by false false is_p is_q none e = absurd (false≢true e)

      own_free : is_own r a ≡ true → IsFree hs hidden (displaced m r a)
      own_free e = own_by (reg_number r == 13) (reg_number r == 12) refl refl no_home e

    displaced_same : (a : Addr) (r : Reg) → ((k : Home) → Has hs k → is_named (Some r) (reg_number k.register) ≡ false) → displaced (beside m rs st) r a ≡ displaced m r a
    displaced_same a r none = ap (add32 (resolved m.layout a)) (same_register r none)

    -- `d(r)`
    disp_by : (a : Addr) (r : Reg) → ((k : Home) → Has hs k → is_named (Some r) (reg_number k.register) ≡ false) → ((k : Home) → Has hs k
        → spares_base k.local kind (is_none x) (bases.Disp a r) ≡ true)
        → ((reg_number r ≡ 12) → is_argument a ≡ true → is_argument_of args a ≡ true) → (q : Option Reg) → home_at hs r a ≡ q
        → Finds (bases.Disp a r) (found m (bases.Disp a r) kind.size) (located (beside m rs st) (held_by q (bases.Disp a r)) kind.size)
    unfolding located
    disp_by a r none spared fits None e = record {
      there = locations.Memory (displaced m r a);
      stays = refl;
      finds = ap (λ (y : ℕ). Ok (locations.Memory y, beside m rs st)) (displaced_same a r none);
      near = inl (refl, add_small (resolved m.layout a) (reg m r), own_free a r fits e);
    }
    disp_by a r none spared fits (Some q) e = by (is_fp r) refl e
      where
        by : (p : Bool) → is_fp r ≡ p → cond p (register_at hs a) None ≡ Some q
            → Finds (bases.Disp a r) (Ok (locations.Memory (displaced m r a), m)) (Ok (locations.Register q, beside m rs st))
        by true is f =
            let k = home_of hs a q f in
            let is_fp_so : reg_number r ≡ 13 = eqb-true (reg_number r) 13 is in
            let low = laid.bottom k.home k.has in
            let s = and_parts (is_none x) (is_word_at a && allows_home k.home.local a kind) (sym (ap (λ (b : Bool). cond b (is_none x &&
            (is_word_at a && allows_home k.home.local a kind)) true) is) ∙ spared k.home k.has) in
            let t = and_parts (is_word_at a) (allows_home k.home.local a kind) s.1 in
            let u = and_parts (is_long kind.size) (is_value kind.access) (sym (ap (λ (b : Bool). cond b (is_long kind.size && is_value kind.access) true) k.at) ∙ t.1) in
            record {
              there = locations.Register q;
              stays = refl;
              finds = refl;
              near = inr (record {
                is_home = record {
                  home = k.home;
                  in_hs = k.has;
                  at = ap (λ (n : ℕ). add32 (resolved m.layout a) (slice_index m.registers n)) is_fp_so ∙ at_home m.layout k.home.local a (reg m Fp) k.at (omega (arith, low)) (reg_small Fp);
                  held = ap locations.Register (sym k.register);
                };
                plain = s.0;
                long = u.0;
                value = u.1;
              });
            }
        by false is f = absurd cc

    -- `*d(r)`
    def_by : (a : Addr) (r : Reg) → ((k : Home) → Has hs k → is_named (Some r) (reg_number k.register) ≡ false)
        → ((reg_number r ≡ 12) → is_argument a ≡ true → is_argument_of args a ≡ true) → (b : Bool) → (is_own r a || in_area m (displaced m r a) Long) ≡ b → (q : Option Reg) → home_at hs r a ≡ q
        → Finds (bases.DispDef a r) (cond b (deferred m (displaced m r a)) (Err access)) (located (beside m rs st) (pointed_by q (bases.DispDef a r)) kind.size)
    unfolding located
    def_by a r none fits false is q e = tt
    def_by a r none fits true is None e = pointed (bases.DispDef a r) refl (displaced m r a) (displaced (beside m rs st) r a) (sym (displaced_same a r none)) (by (is_own r a) refl is)
      where
        by : (o : Bool) → is_own r a ≡ o → (o || in_area m (displaced m r a) Long) ≡ true → read (beside m rs st) (displaced m r a) Long ≡ read m (displaced m r a) Long
        by true own f = read_free hs paired hidden m rs st h (displaced m r a) Long (free_at hs paired hidden (displaced m r a) Long (own_free a r fits e own))
        by false own f = read_data hs paired hidden m rs st h (displaced m r a) Long f
    def_by a r none fits true is (Some q) e = by (is_fp r) refl e
      where
        by : (p : Bool) → is_fp r ≡ p → cond p (register_at hs a) None ≡ Some q
            → Finds (bases.DispDef a r) (deferred m (displaced m r a)) (Ok (locations.Memory (reg (beside m rs st) q), beside m rs st))
        by false is f = absurd cc
        by true is f =
            let k = home_of hs a q f in
            let low = laid.bottom k.home k.has in
            let at : displaced m r a ≡ reg m Fp - 4 * (k.home.local + 1) =
            ap (λ (n : ℕ). add32 (resolved m.layout a) (slice_index m.registers n)) (eqb-true (reg_number r) 13 is)
            ∙ at_home m.layout k.home.local a (reg m Fp) k.at (omega (arith, low)) (reg_small Fp) in
            pointer k at (read m (displaced m r a) Long) refl (read_small m (displaced m r a) Long h.sound)
          where
            pointer : (k : HomeOf hs a q) → displaced m r a ≡ reg m Fp - 4 * (k.home.local + 1) → (t : Result ℕ Stop) → read m (displaced m r a) Long ≡ t → Small t
                → Finds (bases.DispDef a r) (t >>= λ (v : ℕ). Ok (locations.Memory v, m)) (Ok (locations.Memory (reg (beside m rs st) q), beside m rs st))
            pointer k at (Ok v) e small = record {
              there = locations.Memory v;
              stays = refl;
              finds = ap (λ (y : ℕ). Ok (locations.Memory y, beside m rs st))
                  (ap (reg (beside m rs st)) (sym k.register)
                  ∙ home_read hs paired hidden m rs st h k.home k.has (laid.bottom k.home k.has) v (ap (λ (y : ℕ). read m y Long) (sym at) ∙ e));
              near = inl (refl, small, λ own. absurd (false≢true own));
            }
            pointer k at (Err z) e small = small

    -- any base
    pub finds : (b : Base) → ((k : Home) → Has hs k → is_named (base_register b) (reg_number k.register) ≡ false) → ((k : Home) → Has hs k → spares_base k.local kind (is_none x) b ≡ true)
        → is_base b ≡ true → FitsArguments args b → Finds b (found m b kind.size) (located (beside m rs st) (homed_base hs b) kind.size)
    unfolding located
    finds (bases.Imm a) none spared valid fits = record { there = locations.Number (resolved m.layout a); stays = refl; finds = refl; near = (refl, resolved_by m.layout a.name a.offset valid) }
    finds (bases.Reg r) none spared valid fits = by (nat_lt (reg_number r) 12) refl
      where
        by : (b : Bool) → nat_lt (reg_number r) 12 ≡ b → Finds (bases.Reg r) (cond b (Ok (locations.Register r, m)) (Err access)) (Ok (locations.Register r, beside m rs st))
        by true e = record { there = locations.Register r; stays = refl; finds = refl; near = (refl, ltb-true (reg_number r) 12 e, is_other r none) }
        by false e = tt
    finds (bases.Def r) none spared valid fits = record {
      there = locations.Memory (reg m r);
      stays = refl;
      finds = ap (λ (y : ℕ). Ok (locations.Memory y, beside m rs st)) (same_register r none);
      near = inl (refl, reg_small r, λ own. absurd (false≢true own));
    }
    finds (bases.Inc r) none spared valid fits = tt
    finds (bases.IncDef r) none spared valid fits = tt
    finds (bases.Dec r) none spared valid fits = tt
    finds (bases.Disp a r) none spared valid fits = disp_by a r none spared fits (home_at hs r a) refl
    finds (bases.DispDef a r) none spared valid fits = def_by a r none fits (is_own r a || in_area m (displaced m r a) Long) refl (home_at hs r a) refl
    finds (bases.Abs n) none spared valid fits = record { there = locations.Memory n; stays = refl; finds = refl; near = inl (refl, ltb-true n (2 ^ 32) valid, λ own. absurd (false≢true own)) }
    finds (bases.Rel a) none spared valid fits = record {
      there = locations.Memory (resolved m.layout a);
      stays = refl;
      finds = refl;
      near = inl (refl, relative_by m.layout a.name a.offset valid, λ own. absurd (false≢true own));
    }
    finds (bases.RelDef a) none spared valid fits = by (in_area m (resolved m.layout a) Long) refl
      where
        by : (b : Bool) → in_area m (resolved m.layout a) Long ≡ b
            → Finds (bases.RelDef a) (cond b (deferred m (resolved m.layout a)) (Err access)) (deferred (beside m rs st) (resolved m.layout a))
        by true e = pointed (bases.RelDef a) refl (resolved m.layout a) (resolved m.layout a) refl (read_data hs paired hidden m rs st h (resolved m.layout a) Long e)
        by false e = tt
