-- What operands give, in two states of which one has locals in registers.
use Rattle.std.proofs.Common.{◌≡◌, ◌⊎◌, inl, inr, ℕ, ◌^◌, ◌<◌, Bool, true, false, List, [], ◌∷◌, map, Option, Some, None, Result, Ok, Err, refl, sym, ap, subst, ◌∙◌, arith}
use Rattle.std.specs.Prelude.{◌&&◌, ◌||◌, is_none}
use Rattle.std.proofs.lemmas.Bool.{and_parts, or_parts, true≢false, false≢true}
use Rattle.gg_base.specs.declared.size.Size.{Size}
use Rattle.gg_base.specs.declared.size.Size.TheVariants.{Byte, Word, Long}
use Rattle.gg_base.specs.Sizes.{bytes_of}
use Rattle.gg_base.specs.Arithmetic.{add32, mul32}
use Rattle.vax_confined.specs.vax_core.specs.declared.register.Reg.{Reg}
use Rattle.vax_confined.specs.vax_core.specs.declared.register.Reg.TheVariants.{Ap, Fp}
use Rattle.vax_confined.specs.vax_core.specs.declared.operand.Operand.{Operand}
use Rattle.vax_confined.specs.vax_core.specs.declared.op.Access.{Access}
use Rattle.vax_confined.specs.vax_core.specs.declared.op.Access.TheVariants as accesses
use Rattle.vax_confined.specs.vax_core.specs.declared.op.OperandKind.{OperandKind}
use Rattle.vax_confined.specs.vax_core.specs.Registers.{reg_number, base_register, is_named}
use Rattle.vax_confined.specs.vax_machine.specs.declared.turn.Stop.{Stop}
use Rattle.vax_confined.specs.vax_machine.specs.declared.operands.Location.{Location}
use Rattle.vax_confined.specs.vax_machine.specs.declared.operands.Location.TheVariants as locations
use Rattle.vax_confined.specs.vax_machine.specs.declared.operands.Destination.{Destination}
use Rattle.vax_confined.specs.vax_machine.specs.declared.operands.Evaluated.{Evaluated}
use Rattle.vax_confined.specs.vax_machine.specs.declared.operands.Arguments.{Arguments}
use Rattle.vax_confined.specs.vax_machine.specs.State.{State, reg, access, ◌>>=◌}
use Rattle.vax_confined.specs.vax_machine.specs.Operands as machine
use Rattle.vax_confined.specs.vax_machine.specs.Operands.{located, indexed, moved, fetched, taken, address_of, only_number, with_destination, in_front, last_of, no_arguments}
use Rattle.vax_confined.specs.vax_machine_lists.proofs.Longwords.{below_get}
use Rattle.vax_confined.specs.vax_machine_lists.proofs.Numbers.{add_small, low_small}
use Rattle.vax_homes.specs.declared.choose.Home.{Home}
use Rattle.vax_homes.specs.Choosing.{is_long, is_value}
use Rattle.vax_homes.specs.Homing.{homed_base, homed_operand}
use Rattle.vax_confined.specs.Confined.{in_area, is_own_base, is_own_place, may_touch, found, got, evaluated, all_evaluated}
use Rattle.vax_homes_law.specs.Alike.{Has, IsPaired, beside, MayHome, AllMayHome, AreLaid, Alike}
use Rattle.vax_homes_law.proofs.Memory.{Breaks, FreeAt, free_at}
use Rattle.vax_homes_law.proofs.Places.{Standing, fetched_so}
use Rattle.vax_homes_law.proofs.Finding.{Small, read_small, is_other, Near, Finds, finds}

module _ (hs : List Home) (paired : IsPaired hs) (hidden : ℕ → Type 0) (args low_end : ℕ) where
  module _ (m : State) (rs st : List ℕ) (h : Alike hs hidden m rs st) (laid : AreLaid hs hidden (reg m Fp) (reg m Ap) args low_end) where
    abbrev Stand : Location → Location → Size → Type 0
    Stand = Standing hs paired hidden args low_end m rs st h laid

    -- a destination, and that in the other state; to a number nothing can be put
    abbrev pub Aimed : Location → Location → Size → Type 0
    Aimed (locations.Number n) other s = Unit {0}
    Aimed (locations.Register r) other s = Stand (locations.Register r) other s
    Aimed (locations.Memory a) other s = Stand (locations.Memory a) other s

    abbrev pub Destinations : Option Destination → Option Destination → Type 0
    Destinations None None = Unit {0}
    Destinations None (Some d) = ⊥
    Destinations (Some d) None = ⊥
    Destinations (Some d) (Some c) = (c.size ≡ d.size) × Aimed d.location c.location d.size

    pub record Gives (e : Evaluated) (n : State) (other : Result (Evaluated × State) Stop) : Type 0 where
      pub given : Evaluated
      pub stays : n ≡ m
      pub is : other ≡ Ok (given, beside m rs st)
      pub number : given.number ≡ e.number
      pub small : e.number < 2 ^ 32
      pub destination : Destinations e.destination given.destination

    abbrev pub Evaluates : Result (Evaluated × State) Stop → Result (Evaluated × State) Stop → Type 0
    Evaluates (Ok x) other = Gives x.0 x.1 other
    Evaluates (Err e) other = Breaks e

    -- ---- one operand, from its place

    aimed : (l other : Location) (s : Size) → Stand l other s → Aimed l other s
    aimed (locations.Number n) other s g = tt
    aimed (locations.Register r) other s g = g
    aimed (locations.Memory a) other s g = g

    fetched_small : (l other : Location) (s : Size) → Stand l other s → Small (fetched m l s)
    fetched_small (locations.Number n) other s g = low_small s n g.1
    fetched_small (locations.Register r) other s g = low_small s (reg m r) (below_get (2 ^ 32) (reg_number r) m.registers (omega arith) h.sound.longwords)
    fetched_small (locations.Memory a) other s g = read_small m a s h.sound

    abbrev TakenAs : Access → Result ℕ Stop → Location → Size → Result Evaluated Stop
    TakenAs accesses.Modify t l s = t >>= λ (v : ℕ). Ok (with_destination v l s)
    TakenAs a t l s = t >>= λ (v : ℕ). Ok (only_number v)

    number_by : (t u : Result ℕ Stop) → ((v : ℕ) → t ≡ Ok v → u ≡ Ok v) → Small t
        → Evaluates ((t >>= λ (v : ℕ). Ok (only_number v)) >>= λ (e : Evaluated). Ok (e, m)) ((u >>= λ (v : ℕ). Ok (only_number v)) >>= λ (e : Evaluated). Ok (e, beside m rs st))
    number_by (Ok v) u same small = record {
      given = only_number v;
      stays = refl;
      is = ap (λ (w : Result ℕ Stop). (w >>= λ (v : ℕ). Ok (only_number v)) >>= λ (e : Evaluated). Ok (e, beside m rs st)) (same v refl);
      number = refl;
      small = small;
      destination = tt;
    }
    number_by (Err e) u same small = small

    place_by : (l other : Location) (s : Size) → Stand l other s → (t u : Result ℕ Stop) → ((v : ℕ) → t ≡ Ok v → u ≡ Ok v) → Small t
        → Evaluates ((t >>= λ (v : ℕ). Ok (with_destination v l s)) >>= λ (e : Evaluated). Ok (e, m)) ((u >>= λ (v : ℕ). Ok (with_destination v other s)) >>= λ (e : Evaluated). Ok (e, beside m rs st))
    place_by l other s g (Ok v) u same small = record {
      given = with_destination v other s;
      stays = refl;
      is = ap (λ (w : Result ℕ Stop). (w >>= λ (v : ℕ). Ok (with_destination v other s)) >>= λ (e : Evaluated). Ok (e, beside m rs st)) (same v refl);
      number = refl;
      small = small;
      destination = (refl, aimed l other s g);
    }
    place_by l other s g (Err e) u same small = small

    -- where an address is taken, it is the same
    abbrev SameAddress : Location → Location → Type 0
    SameAddress (locations.Memory a) other = (other ≡ locations.Memory a) × (a < 2 ^ 32)
    SameAddress l other = Unit {0}

    address_by : (l other : Location) → SameAddress l other
        → Evaluates ((address_of l >>= λ (a : ℕ). Ok (only_number a)) >>= λ (e : Evaluated). Ok (e, m)) ((address_of other >>= λ (a : ℕ). Ok (only_number a)) >>= λ (e : Evaluated). Ok
        (e, beside m rs st))
    address_by (locations.Number n) other g = tt
    address_by (locations.Register r) other g = tt
    address_by (locations.Memory a) other g = record {
      given = only_number a;
      stays = refl;
      is = ap (λ (l : Location). (address_of l >>= λ (a : ℕ). Ok (only_number a)) >>= λ (e : Evaluated). Ok (e, beside m rs st)) g.0;
      number = refl;
      small = g.1;
      destination = tt;
    }

    from_place : (a : Access) (l other : Location) (s : Size) (b : Bool) → (b ≡ true → Stand l other s) → (a ≡ accesses.Address → SameAddress l other)
        → Evaluates (got m a b l s >>= λ (e : Evaluated). Ok (e, m)) (taken (beside m rs st) a other s >>= λ (e : Evaluated). Ok (e, beside m rs st))
    unfolding taken
    from_place accesses.Write l other s true g f = record {
      given = with_destination 0 other s;
      stays = refl;
      is = refl;
      number = refl;
      small = omega arith;
      destination =
          (refl, aimed l other s (g refl));
    }
    from_place accesses.Write l other s false g f = record { given = with_destination 0 other s; stays = refl; is = refl; number = refl; small = omega arith; destination = (refl, tt) }
    from_place accesses.Address l other s b g f = address_by l other (f refl)
    from_place accesses.Read l other s true g f = number_by (fetched m l s) (fetched (beside m rs st) other s) (fetched_so hs paired hidden args low_end m rs st h laid l other s (g refl))
        (fetched_small l other s (g refl))
    from_place accesses.Read l other s false g f = tt
    from_place accesses.Modify l other s true g f = place_by l other s (g refl) (fetched m l s) (fetched (beside m rs st) other s)
        (fetched_so hs paired hidden args low_end m rs st h laid l other s (g refl)) (fetched_small l other s (g refl))
    from_place accesses.Modify l other s false g f = tt
    from_place accesses.Count l other s true g f = number_by (fetched m l s) (fetched (beside m rs st) other s) (fetched_so hs paired hidden args low_end m rs st h laid l other s (g refl))
        (fetched_small l other s (g refl))
    from_place accesses.Count l other s false g f = tt

    -- ---- one operand, with its index

    module _ (k : OperandKind) (o : Operand) (may : MayHome hs args k o) where
      abbrev Close : Location → Location → Type 0
      Close = Near hs paired hidden args low_end m rs st h laid k o.index o.base

      parts : (g : Home) → Has hs g → (is_named (base_register o.base) (reg_number g.register) ≡ false) × (is_named o.index (reg_number g.register) ≡ false)
      parts g g_in = or_parts (is_named (base_register o.base) (reg_number g.register)) (is_named o.index (reg_number g.register)) (may.unnamed g g_in)

      long_is : (s : Size) → is_long s ≡ true → s ≡ Long
      long_is Long e = refl
      long_is Word e = absurd (false≢true e)
      long_is Byte e = absurd (false≢true e)

      no_address : (a : Access) → is_value a ≡ true → a ≡ accesses.Address → {X : Type 0} → X
      no_address a v e = absurd (true≢false (sym v ∙ ap is_value e))

      -- with an index that isn't a home's register
      index_by : (x : Option Reg) → o.index ≡ x → (l there : Location) → Close l there
          → ((may_touch m (is_own_place o) (indexed m l x k.size) k.size ≡ true → Stand (indexed m l x k.size) (indexed (beside m rs st) there x k.size) k.size)
          × (k.access ≡ accesses.Address → SameAddress (indexed m l x k.size) (indexed (beside m rs st) there x k.size)))
      index_by None is (locations.Number n) there c = ((λ e. c), (λ e. tt))
      index_by (Some r) is (locations.Number n) there c = ((λ e. (ap (λ (y : Location). moved y (mul32 (reg (beside m rs st) r) (bytes_of k.size))) c.0, c.1)), (λ e. tt))
      index_by None is (locations.Register q) there c = ((λ e. c), (λ e. tt))
      index_by (Some r) is (locations.Register q) there c = ((λ e. (ap (λ (y : Location). moved y (mul32 (reg (beside m rs st) r) (bytes_of k.size))) c.0, c.1, c.2)), (λ e. tt))
      index_by None is (locations.Memory a) there (inl c) = ((λ e. inl (c.0, touch (is_own_place o) refl e)), (λ e. (c.0, c.1)))
        where
          touch : (b : Bool) → is_own_place o ≡ b → (b || in_area m a k.size) ≡ true → (in_area m a k.size ≡ true) ⊎ FreeAt hs paired hidden a k.size
          touch true own e = inr (free_at hs paired hidden a k.size (c.2 (and_parts (is_none o.index) (is_own_base o.base) own).1))
          touch false own e = inl e
      index_by None is (locations.Memory a) there (inr c) = ((λ e. inr (c.is_home, long_is k.size c.long)), (λ e. no_address k.access c.value e))
      index_by (Some r) is (locations.Memory a) there (inl c) =
          let by = add32 a (mul32 (reg m r) (bytes_of k.size)) in
          let same : indexed (beside m rs st) there (Some r) k.size ≡ locations.Memory by =
          ap (λ (y : Location). moved y (mul32 (reg (beside m rs st) r) (bytes_of k.size))) c.0
          ∙ ap (λ (y : ℕ). locations.Memory (add32 a (mul32 y (bytes_of k.size)))) (h.others (reg_number r) (is_other hs paired hidden args low_end r (λ g g_in. subst (λ
          (y : Option Reg). is_named y (reg_number g.register) ≡ false) is (parts g g_in).1))) in (
            (λ e. inl (same, inl (subst (λ (b : Bool). (b || in_area m by k.size) ≡ true) (ap (λ (y : Option Reg). is_none y && is_own_base o.base) is) e))),
            (λ e. (
              same,
              add_small a (mul32
                  (reg m r) (bytes_of k.size)),
            )),
          )
      index_by (Some r) is (locations.Memory a) there (inr c) = absurd (false≢true (sym (ap is_none is) ∙ c.plain))

      operand_by : (t u : Result (Location × State) Stop) → Finds hs paired hidden args low_end m rs st h laid k o.index o.base t u
          → Evaluates (t >>= λ (x : Location × State). got x.1 k.access (may_touch x.1 (is_own_place o) (indexed x.1 x.0 o.index k.size) k.size) (indexed x.1 x.0 o.index k.size) k.size >>= λ
          (e : Evaluated). Ok (e, x.1))
          (u >>= λ (x : Location × State). taken x.1 k.access (indexed x.1 x.0 o.index k.size) k.size >>= λ (e : Evaluated). Ok (e, x.1))
      operand_by (Ok x) u f =
          let both = index_by o.index refl x.0 f.there f.near in
          subst (λ (w : Result (Location × State) Stop). Evaluates (got x.1 k.access (may_touch x.1 (is_own_place o) (indexed x.1 x.0 o.index k.size) k.size)
          (indexed x.1 x.0 o.index k.size) k.size >>= λ (e : Evaluated). Ok (e, x.1))
          (w >>= λ (y : Location × State). taken y.1 k.access (indexed y.1 y.0 o.index k.size) k.size >>= λ (e : Evaluated). Ok (e, y.1))) (sym f.finds)
          (subst (λ (n : State). Evaluates (got n k.access (may_touch n (is_own_place o) (indexed n x.0 o.index k.size) k.size) (indexed n x.0 o.index k.size) k.size >>= λ (e : Evaluated). Ok (e, n))
          (taken (beside m rs st) k.access (indexed (beside m rs st) f.there o.index k.size) k.size >>= λ (e : Evaluated). Ok (e, beside m rs st))) (sym f.stays)
          (from_place k.access (indexed m x.0 o.index k.size) (indexed (beside m rs st) f.there o.index k.size) k.size (may_touch m (is_own_place o)
          (indexed m x.0 o.index k.size) k.size) both.0 both.1))
      operand_by (Err e) u f = f

      pub operand_so : Evaluates (evaluated m k o) (machine.evaluated (beside m rs st) k (homed_operand hs o))
      unfolding evaluated machine.evaluated
      operand_so = operand_by (found m o.base k.size) (located (beside m rs st) (homed_base hs o.base) k.size)
          (finds hs paired hidden args low_end m rs st h laid k o.index o.base (λ g g_in. (parts g g_in).0) may.spared may.valid may.fits)

    -- ---- all operands

    pub record GivesAll (x : Arguments) (n : State) (other : Result (Arguments × State) Stop) : Type 0 where
      pub given : Arguments
      pub stays : n ≡ m
      pub is : other ≡ Ok (given, beside m rs st)
      pub first : given.first ≡ x.first
      pub second : given.second ≡ x.second
      pub first_small : x.first < 2 ^ 32
      pub second_small : x.second < 2 ^ 32
      pub destination : Destinations x.destination given.destination

    abbrev pub EvaluatesAll : Result (Arguments × State) Stop → Result (Arguments × State) Stop → Type 0
    EvaluatesAll (Ok x) other = GivesAll x.0 x.1 other
    EvaluatesAll (Err e) other = Breaks e

    lasts : (a b c d : Option Destination) → Destinations a b → Destinations c d → Destinations (last_of a c) (last_of b d)
    lasts a b (Some c) (Some d) g f = f
    lasts a b (Some c) None g f = absurd f
    lasts a b None (Some d) g f = absurd f
    lasts a b None None g f = g

    front_by : (e e2 : Evaluated) → e2.number ≡ e.number → e.number < 2 ^ 32 → Destinations e.destination e2.destination → (t u : Result (Arguments × State) Stop) → EvaluatesAll t u
        → EvaluatesAll (t >>= λ (y : Arguments × State). Ok (in_front e y.0, y.1)) (u >>= λ (y : Arguments × State). Ok (in_front e2 y.0, y.1))
    front_by e e2 same small d (Ok y) u g = record {
      given = in_front e2 g.given;
      stays = g.stays;
      is = ap (λ (w : Result (Arguments × State) Stop). w >>= λ (y : Arguments × State). Ok (in_front e2 y.0, y.1)) g.is;
      first = same;
      second = g.first;
      first_small = small;
      second_small = g.first_small;
      destination = lasts e.destination e2.destination y.0.destination g.given.destination d g.destination;
    }
    front_by e e2 same small d (Err z) u g = g

    all_by : (f f2 : State → Result (Arguments × State) Stop) → EvaluatesAll (f m) (f2 (beside m rs st)) → (t u : Result (Evaluated × State) Stop) → Evaluates t u
        → EvaluatesAll (t >>= λ (x : Evaluated × State). f x.1 >>= λ (y : Arguments × State). Ok (in_front x.0 y.0, y.1)) (u >>= λ (x : Evaluated × State). f2 x.1 >>= λ (y : Arguments
        × State). Ok (in_front x.0 y.0, y.1))
    all_by f f2 rest (Ok x) u g =
        subst (λ (w : Result (Evaluated × State) Stop). EvaluatesAll (f x.1 >>= λ (y : Arguments × State). Ok (in_front x.0 y.0, y.1)) (w >>= λ (z : Evaluated
        × State). f2 z.1 >>= λ (y : Arguments × State). Ok (in_front z.0 y.0, y.1)))
        (sym g.is)
        (subst (λ (n : State). EvaluatesAll (f n >>= λ (y : Arguments × State). Ok (in_front x.0 y.0, y.1)) (f2 (beside m rs st) >>= λ (y : Arguments
        × State). Ok (in_front g.given y.0, y.1))) (sym g.stays)
        (front_by x.0 g.given g.number g.small g.destination (f m) (f2 (beside m rs st)) rest))
    all_by f f2 rest (Err e) u g = g

    pub all_so : (ks : List OperandKind) (os : List Operand) → AllMayHome hs args ks os → EvaluatesAll (all_evaluated ks os m) (machine.all_evaluated ks (map (homed_operand hs) os) (beside m rs st))
    all_so [] os may = record { given = no_arguments; stays = refl; is = refl; first = refl; second = refl; first_small = omega arith; second_small = omega arith; destination = tt }
    all_so (k ∷ ks) [] may = tt
    all_so (k ∷ ks) (o ∷ os) may =
        all_by (all_evaluated ks os) (machine.all_evaluated ks (map (homed_operand hs) os)) (all_so ks os may.1) (evaluated m k o) (machine.evaluated (beside m rs st) k (homed_operand hs o))
        (operand_so k o may.0)
