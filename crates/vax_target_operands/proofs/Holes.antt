-- What a hole means, as a number, a register, or an operand.
use Rattle.std.proofs.Common.{◌≡◌, ℕ, ◌-◌, ◌%◌, ◌^◌, ◌<◌, ◌==◌, Bool, true, false, cond, Option, Some, None, IsSome, Result, Ok, Err, refl, sym, ap, subst, ◌∙◌, arith}
use Rattle.std.specs.Prelude.{slice_get, unwrap_or, ◌||◌}
use Rattle.std.specs.List.{AllByRecursion}
use Rattle.gg_base.specs.declared.limits.TheConstants.{AREA_START}
use Rattle.gg_base.specs.declared.size.Size.{Size}
use Rattle.gg_base.specs.declared.size.Size.TheVariants.{Long}
use Rattle.std.proofs.lemmas.Option.{cond_some}
use Rattle.gg_base.proofs.Facts.{err_ok, ok_same}
use Rattle.gg_base.specs.LittleEndian.{number_in}
use Rattle.vax_target_meaning.specs.tree_core.specs.Area as trees
use Rattle.vax_target_meaning.specs.term_core.specs.Shape.{Shape, Constant, Symbol, Memory}
use Rattle.vax_target_meaning.specs.sel_target.specs.declared.attr.Attr.{Attr}
use Rattle.vax_target_meaning.specs.sel_target.specs.declared.attr.Attr.TheVariants as attr
use Rattle.vax_target_meaning.specs.sel_target.specs.Values.{IsRead}
use Rattle.vax_target_meaning.specs.sel_target.proofs.AreaBytes.{fetched_is}
use Rattle.vax_core.specs.declared.operand.Addr.{Addr}
use Rattle.vax_core.specs.declared.operand.Base.TheVariants as bases
use Rattle.vax_core.specs.declared.operand.Operand.{Operand}
use Rattle.vax_target_meaning.specs.vax_machine.specs.declared.turn.Stop.{Stop}
use Rattle.vax_target_meaning.specs.vax_machine.specs.declared.operands.Location.{Location}
use Rattle.vax_target_meaning.specs.vax_machine.specs.declared.operands.Location.TheVariants as locations
use Rattle.vax_target_meaning.specs.vax_machine.specs.State.{State, reg, access, ◌>>=◌}
use Rattle.vax_target_meaning.specs.vax_machine.specs.Area.{resolved, resolved_of}
use Rattle.vax_target_meaning.specs.vax_machine.specs.Memory.{read}
use Rattle.vax_target_meaning.specs.vax_machine.specs.Operands.{located, indexed, deferred}
use Rattle.vax_target_meaning.specs.vax_machine_lists.proofs.Longwords.{all_bytes}
use Rattle.vax_target_meaning.specs.vax_templates.specs.declared.form.Number.{Number}
use Rattle.vax_target_meaning.specs.vax_templates.specs.declared.form.Number.TheVariants as number
use Rattle.vax_target_meaning.specs.vax_templates.specs.declared.setting.Hole.{Hole}
use Rattle.vax_target_meaning.specs.vax_templates.specs.declared.setting.Hole.TheVariants as hole_kind
use Rattle.vax_target_meaning.specs.vax_templates.specs.declared.setting.Own.{Own}
use Rattle.vax_target_meaning.specs.vax_templates.specs.declared.setting.Own.TheVariants as own
use Rattle.vax_target_meaning.specs.vax_templates.specs.Settings.{hole_or_other}
use Rattle.vax_target_meaning.specs.vax_templates.specs.Judging.{is_operand}
use Rattle.vax_target_meaning.specs.vax_templates.specs.Standing.{Where, Register, OwnRegister, Value, Place, Local, SavedPlace, Saved, At}
use Rattle.vax_target_meaning.specs.vax_templates.specs.Standing.{where_own, where_hole}
use Rattle.vax_target_meaning.specs.vax_templates.specs.HoleTerms.{constant_of, address_of, absolute_term, number_term, own_value, register_of}
use Rattle.vax_target_meaning.specs.vax_templates.specs.HoleTerms.{register_term}
use Rattle.vax_target_meaning.specs.vax_templates.specs.Filled.{numbered, register_in, addr_in, number_addr, operand_in}
use Rattle.vax_core.specs.declared.register.Reg.TheVariants.{Fp}
use Rattle.vax_core.specs.Homes.{home, word_addr}
use Rattle.vax_target_meaning.specs.Reading.{names, reads, displaced}
use Rattle.vax_target_meaning.specs.vax_confined.specs.Confined.{is_own_place, in_area, found}
use Rattle.vax_target_meaning.specs.vax_confined.proofs.Touching.{data_read}
use Rattle.vax_target_confined.specs.Claims.{StandsAt, IsReadAt, ReadsAt}
use Rattle.vax_target_confined.proofs.Reading.{named_found, names_stand, reads_stand, reg_found, numbered_low, home_is_own, own_touched}
use Rattle.vax_target_operands.specs.Scenes.{Scene, worth, role_at, filling_at, is_lost, Means, IsPlace, IsNumber, OwnIs, Holds, Sees}
use Rattle.vax_target_operands.specs.Places.{own_at, IsHome, CanStand, Stands, IsShort}

pub may_or : (mine b : Bool) → b ≡ true → (mine || b) ≡ true
may_or true b e = refl
may_or false b e = e

-- an operand is found at one place
pub stands_same : (m : State) (o : Operand) (size : Size) (k l : Location) → StandsAt m o size k → StandsAt m o size l → k ≡ l
stands_same m o size k l p q =
    let e : p.base ≡ q.base = same_base p.base q.base (sym p.finds ∙ q.finds) in
    sym p.is ∙ ap (λ x. indexed m x o.index size) e ∙ q.is
  where
    same_base : (x y : Location) → ◌≡◌ {A = Result (Location × State) Stop} (Ok (x, m)) (Ok (y, m)) → x ≡ y
    same_base x y h = ap (λ (z : Location × State). z.0) (ok_same (x, m) (y, m) h)

pub rel_found : (m : State) (a : Addr) (size : Size) → found m (bases.Rel a) size ≡ Ok (locations.Memory (resolved m.layout a), m)
unfolding located
rel_found m a size = refl

-- where a pointer is followed, in the operand's own place or in the data area
abbrev pub pointed_from : State → Bool → ℕ → Result (Location × State) Stop
pointed_from m mine x = cond (mine || in_area m x Long) (deferred m x) (Err access)

pub rel_deferred : (m : State) (a : Addr) (size : Size) → found m (bases.RelDef a) size ≡ pointed_from m false (resolved m.layout a)
unfolding located
rel_deferred m a size = refl

-- an operand without an index stands where its base does
pub plain_stands : (m : State) (o : Operand) (size : Size) (l : Location) → o.index ≡ None → found m o.base size ≡ Ok (l, m) → StandsAt m o size l
plain_stands m o size l none there = record { base = l; finds = there; is = ap (λ x. indexed m l x size) none }

module _ (c : Scene) (m : State) where
  -- ---- numbers

  pub number_resolved : (a : Attr Operand) (n : ℕ) → IsNumber c a n → resolved m.layout (addr_in c.program a) ≡ n
  number_resolved a n k = ap (λ o. resolved_of m.layout o (addr_in c.program a).offset) k.nameless ∙ k.is

  pub constant_known : (r : Hole) (i : ℕ) (t : Shape) (a : Attr Operand) → Means c m r i a → constant_of r i ≡ Ok t → IsNumber c a (worth c t)
  constant_known hole_kind.Constant i t a k e = subst (λ s. IsNumber c a (worth c s)) (ok_same (Symbol i) t e) k
  constant_known (hole_kind.Literal n) i t a k e =
      subst (λ s. IsNumber c a (worth c s)) (ok_same (Constant n) t e)
      (subst (λ x. IsNumber c a x) (let small : n ≡ n % 2 ^ 32 = omega (arith, k.low) in small) k)
  constant_known _ i t a k e = absurd (err_ok _ t e)

  pub address_known : (r : Hole) (i : ℕ) (t : Shape) (a : Attr Operand) → Means c m r i a → address_of r i ≡ Ok t → resolved m.layout (addr_in c.program a) ≡ worth c t
  address_known hole_kind.Constant i t a k e = number_resolved a (worth c t) (constant_known hole_kind.Constant i t a k e)
  address_known (hole_kind.Literal n) i t a k e = number_resolved a (worth c t) (constant_known (hole_kind.Literal n) i t a k e)
  address_known hole_kind.Object i t a k e = k.address ∙ ap (worth c) (ok_same (Symbol i) t e)
  address_known _ i t a k e = absurd (err_ok _ t e)

  -- a number stands in no register
  pub number_no_operand : (r : Hole) (i : ℕ) (t : Shape) → address_of r i ≡ Ok t → is_operand r ≡ false
  number_no_operand hole_kind.Constant i t e = refl
  number_no_operand (hole_kind.Literal n) i t e = refl
  number_no_operand hole_kind.Object i t e = refl
  number_no_operand hole_kind.Saved i t e = refl
  number_no_operand hole_kind.Relation i t e = refl
  number_no_operand hole_kind.Other i t e = refl
  number_no_operand _ i t e = absurd (err_ok _ t e)

  pub constant_address : (r : Hole) (i : ℕ) (t : Shape) → constant_of r i ≡ Ok t → address_of r i ≡ Ok t
  constant_address hole_kind.Register i t e = e
  constant_address (hole_kind.Value z) i t e = e
  constant_address (hole_kind.Place z) i t e = e
  constant_address hole_kind.Local i t e = e
  constant_address (hole_kind.SavedPlace z) i t e = e
  constant_address hole_kind.Address i t e = e
  constant_address hole_kind.Constant i t e = e
  constant_address (hole_kind.Literal n) i t e = e
  constant_address hole_kind.Object i t e = absurd (err_ok _ t e)
  constant_address hole_kind.Saved i t e = e
  constant_address hole_kind.Relation i t e = e
  constant_address hole_kind.Other i t e = e

  -- ---- registers

  pub register_known : (r : Hole) (i : ℕ) (t : Shape) (a : Attr Operand) → Means c m r i a → register_of r i ≡ Ok t → reg m (register_in a) ≡ worth c t
  register_known hole_kind.Register i t a k e = ap (λ x. reg m (register_in x)) k.is ∙ k.holds ∙ ap (worth c) (ok_same (Symbol i) t e)
  register_known _ i t a k e = absurd (err_ok _ t e)

  -- ---- operands that are holes

  -- an operand stands where its template says, before an index is put behind it
  abbrev pub BaseStands : Where → Operand → Size → Type 0
  BaseStands (At a p) o size = (o.index ≡ None) × (found m o.base size ≡ Ok (locations.Memory (worth c a), m))
  BaseStands w o size = Stands c m o w size

  home_stands : (i : ℕ) (size : Size) (address : ℕ) → names (operand_in c.program (filling_at c i)) size m ≡ Some address →
      (IsSome (c.view.symbol i) → ReadsAt m (operand_in c.program (filling_at c i)) size (worth c (Symbol i))) → IsHome c m i size (locations.Memory address)
  home_stands i size address e h = record {
    address = address;
    is = refl;
    named_so = e;
    holds = λ some. at_place (h some);
  }
    where
      at_place : ReadsAt m (operand_in c.program (filling_at c i)) size (worth c (Symbol i)) → IsReadAt m (own_at c i) (locations.Memory address) size (worth c (Symbol i))
      at_place r =
          subst (λ l. IsReadAt m (own_at c i) l size (worth c (Symbol i)))
          (stands_same m (operand_in c.program (filling_at c i)) size r.place (locations.Memory address) r.at (names_stand (operand_in c.program (filling_at c i)) size m address e)) r.reads_so

  pub register_stands : (a : Attr Operand) (n : ℕ) (size : Size) → n < 12 → a ≡ attr.Reg n → StandsAt m (operand_in c.program a) size (locations.Register (register_in a))
  register_stands a n size lt e =
      subst (λ x. StandsAt m (operand_in c.program x) size (locations.Register (register_in x))) (sym e)
      (record { base = locations.Register (numbered n); finds = reg_found m (numbered n) size (numbered_low n lt); is = refl })

  pub hole_stands : (r : Hole) (i : ℕ) (w : Where) (size : Size) →
      Means c m r i (filling_at c i) → where_hole r i ≡ Ok w → CanStand c w size → BaseStands w (operand_in c.program (filling_at c i)) size
  hole_stands hole_kind.Register i w size k e can =
      subst (λ x. BaseStands x (operand_in c.program (filling_at c i)) size) (ok_same (Register (Symbol i)) w e)
      (record {
        place = locations.Register (register_in (filling_at c i));
        at = register_stands (filling_at c i) k.number size k.low k.is;
        is = record { register = register_in (filling_at c i); is = refl; holds = ap (λ x. reg m (register_in x)) k.is ∙ k.holds };
      })
  hole_stands (hole_kind.Value z) i w size k e can =
      subst (λ x. CanStand c x size → BaseStands x (operand_in c.program (filling_at c i)) size) (ok_same (Value z i) w e) by can
    where
      by : z ≡ size → Stands c m (operand_in c.program (filling_at c i)) (Value z i) size
      by same =
          let r = reads_stand (operand_in c.program (filling_at c i)) size m (worth c (Symbol i)) (subst (λ y. reads (operand_in c.program (filling_at c i)) y m ≡ Some (worth c (Symbol i))) same k) in
          record { place = r.place; at = r.at; is = r.reads_so }
  hole_stands (hole_kind.Place z) i w size k e can =
      subst (λ x. CanStand c x size → BaseStands x (operand_in c.program (filling_at c i)) size) (ok_same (Place z i) w e) by can
    where
      by : z ≡ size → Stands c m (operand_in c.program (filling_at c i)) (Place z i) size
      by same =
          let p = subst (λ y. IsPlace c m y i (filling_at c i)) same k in
          record {
            place = locations.Memory p.address;
            at = names_stand (operand_in c.program (filling_at c i)) size m p.address p.named_so;
            is = (home_stands i size p.address p.named_so (λ some. reads_stand (operand_in c.program (filling_at c i)) size m (worth c (Symbol i)) (p.holds some)), refl);
          }
  hole_stands hole_kind.Local i w size k e can =
      subst (λ x. CanStand c x size → BaseStands x (operand_in c.program (filling_at c i)) size) (ok_same (Local i) w e) by can
    where
      by : Long ≡ size → Stands c m (operand_in c.program (filling_at c i)) (Local i) size
      by same =
          subst (λ y. Stands c m (operand_in c.program (filling_at c i)) (Local i) y) same
          (let r = reads_stand (operand_in c.program (filling_at c i)) Long m (worth c (Symbol i)) k.holds in
          let there = names_stand (operand_in c.program (filling_at c i)) Long m k.address k.named_so in
          record {
            place = locations.Memory k.address;
            at = there;
            is = (
              home_stands i Long k.address k.named_so (λ some. r),
              refl,
              subst (λ l. IsReadAt m (own_at c i) l Long (worth c (Symbol i))) (stands_same m (operand_in c.program (filling_at c i)) Long r.place (locations.Memory k.address) r.at there) r.reads_so,
            );
          })
  hole_stands (hole_kind.SavedPlace z) i w size k e can =
      subst (λ x. CanStand c x size → BaseStands x (operand_in c.program (filling_at c i)) size) (ok_same (SavedPlace z i) w e) by can
    where
      by : z ≡ size → Stands c m (operand_in c.program (filling_at c i)) (SavedPlace z i) size
      by same =
          record {
            place = locations.Memory (worth c (Symbol i));
            at = names_stand (operand_in c.program (filling_at c i)) size m (worth c (Symbol i)) (subst (λ y. names (operand_in c.program (filling_at c i)) y m ≡ Some (worth c (Symbol i))) same k);
            is = refl;
          }
  hole_stands hole_kind.Address i w size k e can =
      subst (λ x. BaseStands x (operand_in c.program (filling_at c i)) size) (ok_same (At (Symbol i) None) w e)
      (k.plain, named_found m (operand_in c.program (filling_at c i)).base size (worth c (Symbol i)) k.named_so)
  hole_stands hole_kind.Object i w size k e can =
      subst (λ x. BaseStands x (operand_in c.program (filling_at c i)) size) (ok_same (At (Symbol i) None) w e)
      (subst (λ o. BaseStands (At (Symbol i) None) o size) (sym k.operand_is)
      (refl, rel_found m (addr_in c.program (filling_at c i)) size ∙ ap (λ (x : ℕ). Ok (locations.Memory x, m)) k.address))
  hole_stands hole_kind.Saved i w size k e can =
      subst (λ x. BaseStands x (operand_in c.program (filling_at c i)) size) (ok_same (Saved i) w e)
      (let at =
      subst (λ o. StandsAt m o size (locations.Memory (displaced m Fp (word_addr k.local)))) (sym k.is)
      (plain_stands m (home k.local) size (locations.Memory (displaced m Fp (word_addr k.local))) refl
      (named_found m (home k.local).base size (displaced m Fp (word_addr k.local)) refl)) in
      let may = own_touched m (own_at c i) (locations.Memory (displaced m Fp (word_addr k.local))) size (ap is_own_place k.is ∙ home_is_own k.local k.low) in
      record { place = locations.Memory (displaced m Fp (word_addr k.local)); at = at; is = (at, k, may) })
  hole_stands _ i w size k e can = absurd (err_ok _ w e)

  -- ---- `%0`

  own_stands : (o : Own) (w : Where) (size : Size) → OwnIs c o → where_own o ≡ Ok w → BaseStands w (operand_in c.program c.own) size
  own_stands own.Nothing w size k e = absurd (err_ok _ w e)
  own_stands own.Register w size k e =
      subst (λ x. BaseStands x (operand_in c.program c.own) size) (ok_same OwnRegister w e)
      (let at = register_stands c.own k.number size k.low k.is in record { place = locations.Register (register_in c.own); at = at; is = (at, refl) })
  own_stands (own.Slot z) w size k e =
      subst (λ x. BaseStands x (operand_in c.program c.own) size) (ok_same OwnRegister w e)
      (subst (λ a. Stands c m (operand_in c.program c.own) OwnRegister size) k.is (slot_stands k.word k.is))
    where
      slot_stands : (word : ℕ) → c.own ≡ attr.Place (home word) → Stands c m (operand_in c.program c.own) OwnRegister size
      slot_stands word is =
          let at = subst (λ a. StandsAt m (operand_in c.program a) size (locations.Memory (displaced m Fp (word_addr word)))) (sym is)
          (names_stand (home word) size m _ refl) in
          let owned = ap (λ a. is_own_place (operand_in c.program a)) k.is ∙ home_is_own k.word k.low in
          let may = own_touched m (is_own_place (operand_in c.program c.own)) (locations.Memory (displaced m Fp (word_addr word))) size owned in
          record { place = locations.Memory (displaced m Fp (word_addr word)); at = at; is = (at, may) }

  pub own_held : (o : Own) (z : Option Shape) (t : Shape) → Holds c m z → own_value o z ≡ Ok t → reg m (register_in c.own) ≡ worth c t
  own_held own.Register (Some x) t h e = h ∙ ap (worth c) (ok_same x t e)
  own_held _ _ t h e = absurd (err_ok _ t e)

-- ---- in a state that is seen

module _ (c : Scene) (zero : Option Shape) (m : State) (h : Sees c zero m) where
  pub area_bytes : AllByRecursion (λ b. b < 256) c.view.state.area
  area_bytes = subst (λ l. AllByRecursion (λ b. b < 256) l) h.area (all_bytes m.area h.sound.area_bytes)

  -- memory that may be read lies in the data area, and holds what the term says
  memory_there : (size : Size) (a : Shape) (x : ℕ) → x ≡ worth c a → IsRead c.view (Memory size a)
      → (in_area m x size ≡ true) × (number_in size m.area (x - AREA_START) ≡ worth c (Memory size a))
  memory_there size a x e safe =
      cond_some (trees.is_inside size m.area x) (number_in size m.area (x - AREA_START)) (worth c (Memory size a))
      (ap (λ l. trees.fetched size l x) h.area ∙ ap (trees.fetched size c.view.state.area) e ∙ fetched_is c.view size (worth c a) area_bytes (safe.1 refl))

  pub memory_read : (size : Size) (a : Shape) (x : ℕ) → x ≡ worth c a → IsRead c.view (Memory size a) → read m x size ≡ Ok (worth c (Memory size a))
  memory_read size a x e safe = let r = memory_there size a x e safe in data_read m x size r.0 ∙ ap (λ (n : ℕ). Ok n) r.1

  pub memory_is_read : (mine : Bool) (size : Size) (a : Shape) (x : ℕ) → x ≡ worth c a → IsRead c.view (Memory size a)
      → IsReadAt m mine (locations.Memory x) size (worth c (Memory size a))
  memory_is_read mine size a x e safe = record { may = may_or mine (in_area m x size) (memory_there size a x e safe).0; holds = memory_read size a x e safe }

  pub pointer_read : (mine : Bool) (a : Shape) (x : ℕ) → x ≡ worth c a → IsRead c.view (Memory Long a) → pointed_from m mine x ≡ Ok (locations.Memory (worth c (Memory Long a)), m)
  pointer_read mine a x e safe =
      ap (λ (b : Bool). cond b (deferred m x) (Err access)) (may_or mine (in_area m x Long) (memory_there Long a x e safe).0)
      ∙ ap (λ (r : Result ℕ Stop). r >>= λ (n : ℕ). Ok (locations.Memory n, m)) (memory_read Long a x e safe)

  -- a hole that is a number
  pub number_means : (i : ℕ) (t : Shape) → address_of (role_at c i) i ≡ Ok t → Means c m (role_at c i) i (filling_at c i)
  number_means i t e = h.means i (λ lost. number_no_operand c m (role_at c i) i t e)

  pub number_is : (n : Number) (t : Shape) → IsShort n → number_term c.roles n ≡ Ok t → resolved m.layout (number_addr c.program c.holes c.own n) ≡ worth c t
  number_is (number.Itself n) t short e = (let same : n ≡ n % 2 ^ 32 = omega (arith, short) in same) ∙ ap (worth c) (ok_same (Constant n) t e)
  number_is (number.Symbol i) t short e = address_known c m (role_at c i) i t (filling_at c i) (number_means i t e) e

  pub absolute_is : (n : Number) (t : Shape) → IsShort n → absolute_term c.roles n ≡ Ok t → (number_addr c.program c.holes c.own n).offset ≡ worth c t
  absolute_is (number.Itself n) t short e = (let same : n ≡ n % 2 ^ 32 = omega (arith, short) in same) ∙ ap (worth c) (ok_same (Constant n) t e)
  absolute_is (number.Symbol i) t short e =
      (constant_known c m (role_at c i) i t (filling_at c i) (number_means i t (constant_address c m (role_at c i) i t e)) e).is

  -- a register that a hole spells, `%0` too
  pub register_is : (i : ℕ) (t : Shape) → (is_lost c zero ≡ true → is_operand (role_at c i) ≡ false) →
      register_term c.setting c.roles zero i ≡ Ok t → reg m (register_in (filling_at c i)) ≡ worth c t
  register_is i t free e = by (i == 0) (h.means i free) e where
    by : (b : Bool) → Means c m (cond b hole_kind.Other (hole_or_other (slice_get c.roles (i - 1)))) i (cond b c.own (unwrap_or (slice_get c.holes (i - 1)) c.own)) →
        cond b (own_value c.setting.own zero) (register_of (cond b hole_kind.Other (hole_or_other (slice_get c.roles (i - 1)))) i) ≡ Ok t →
        reg m (register_in (cond b c.own (unwrap_or (slice_get c.holes (i - 1)) c.own))) ≡ worth c t
    by true k e = own_held c m c.setting.own zero t h.holds e
    by false k e = register_known c m (hole_or_other (slice_get c.roles (i - 1))) i t (unwrap_or (slice_get c.holes (i - 1)) c.own) k e

  -- a hole alone, `%0` too
  pub alone_stands : (i : ℕ) (w : Where) (size : Size) → (is_lost c zero ≡ true → is_operand (role_at c i) ≡ false) →
      cond (i == 0) (where_own c.setting.own) (where_hole (role_at c i) i) ≡ Ok w → CanStand c w size → BaseStands c m w (operand_in c.program (filling_at c i)) size
  alone_stands i w size free e can = by (i == 0) refl e where
    by : (b : Bool) → (i == 0) ≡ b → cond b (where_own c.setting.own) (where_hole (role_at c i) i) ≡ Ok w → BaseStands c m w (operand_in c.program (filling_at c i)) size
    by true zero_is e =
        subst (λ a. BaseStands c m w (operand_in c.program a) size) (sym (ap (λ b. cond b c.own (unwrap_or (slice_get c.holes (i - 1)) c.own)) zero_is))
        (own_stands c m c.setting.own w size h.own_is e)
    by false zero_is e = hole_stands c m (role_at c i) i w size (h.means i free) e can
