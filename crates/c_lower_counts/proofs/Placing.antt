-- What the items of places and assignments do.
use Rattle.std.proofs.Common.{◌≡◌, ℕ, ◌≤◌, ◌<◌, ◌^◌, List, ◌++◌, length, Option, Some, None, refl, ap, arith, sym, ◌∙◌, subst, ⊎_elim}
use Rattle.std.specs.Prelude.{Bool, true, false, cond, slice_get, slice_set, nat_lt}
use Rattle.std.specs.Option.{option_map}
use Rattle.std.proofs.lemmas.Bool.{cases_eq, ltb-true}
use Rattle.std.proofs.lemmas.List.{length-set}
use Rattle.gg_base.specs.declared.run.End.TheVariants as ends
use Rattle.gg_base.specs.declared.size.Size.{Size}
use Rattle.gg_base.specs.declared.size.Size.TheVariants as sizes
use Rattle.gg_base.specs.Runs.{Runs, stop}
use Rattle.gg_base.proofs.Facts.{slice_set_same, slice_set_other}
use Rattle.tree_core.specs.declared.program.TreeItem.{TreeItem}
use Rattle.tree_core.specs.declared.program.TreeProgram.{TreeProgram}
use Rattle.tree_core.specs.Area.{fetched, stored}
use Rattle.tree_meaning.specs.declared.value.Value.{Value}
use Rattle.tree_meaning.specs.declared.value.Value.TheVariants.{Number, ZeroDivisor, Wild}
use Rattle.tree_meaning.specs.State.{Activation, with_local}
use Rattle.tree_meaning.specs.Values.{bind, there}
use Rattle.c_types.specs.declared.types.Integer.{Integer}
use Rattle.c_types.specs.declared.types.Integer.TheVariants as ints
use Rattle.c_types.specs.declared.types.CType.{CType}
use Rattle.c_types.specs.declared.types.CType.TheVariants as types
use Rattle.c_types.specs.Types.{kept}
use Rattle.c_types.specs.Constants.{converted}
use Rattle.c_meaning.specs.declared.store.Spot.{Spot}
use Rattle.c_meaning.specs.declared.store.Spot.TheVariants.{Memory}
use Rattle.c_meaning.specs.State.{State, integer_access, set_at, with_locals, with_parameters, with_area, put_local, put}
use Rattle.c_meaning.specs.Values.{Rest, RestAt, or_wild, written, read_at, address_of}
use Rattle.c_lower_scheme.specs.Trees.{Tree, Indir, Item}
use Rattle.c_lower_scheme.specs.Parts.{Where, InLoc, InArg, InMem, Located, Assignable}
use Rattle.c_lower_scheme.specs.Places.{integer_of, conv, fitted, read_from, address_tree, read_low, address_low}
use Rattle.c_lower_follows.proofs.Values.{SmallTree}
use Rattle.c_lower_counts.proofs.Leads.{Leads, leads_wild, Depth, Under}
use Rattle.c_lower_follows.proofs.Steps.{Desk, on, Resolves}
use Rattle.c_lower_counts.proofs.Steps.{narrowed, written_at}
use Rattle.c_lower_follows.proofs.Areas.{stored_bytes, stored_long}
use Rattle.c_lower_follows.proofs.Agreeing.{Below, value, ranged_set, set_both, set_other}
use Rattle.c_lower_follows.proofs.Doing.{on_bind}
use Rattle.c_lower_counts.proofs.Doing.{Agrees, here, Onto, Does, Maps}
use Rattle.c_lower_follows.proofs.Placing.{SmallPlace, place_on, conv_value}

on_there : (o : Option ℕ) (κ : Rest) (st : State) → on (there o) (λ v. κ v st) ≡ or_wild o κ st
on_there None κ st = refl
on_there (Some v) κ st = refl

module _ (program : TreeProgram) (code : List TreeItem) (callers : List Activation) (size count first : ℕ) (scope : ℕ → Type 0) (level : Depth) where
  abbrev pub ok : State → Desk → Type 0
  ok st d = Agrees program code callers size count first scope level st d

  abbrev pub run_at : List Item → Desk → Runs
  run_at is d = here program code callers size count first scope level is d

  -- a local is in scope, an address's locals are below a number
  abbrev pub FitsPlace : ℕ → Where → Type 0
  FitsPlace u (InLoc n) = scope n
  FitsPlace u (InArg n) = Unit {0}
  FitsPlace u (InMem a) = Below u a

  pub record DoesPlace (p : Located) (t : ℕ) (m : RestAt → State → Runs) : Type 0 where
    pub grows : t ≤ p.temps
    pub fits : FitsPlace p.temps p.place
    pub small : SmallPlace p.place
    pub runs : (k : Depth) → Under k level → (is : List Item) (κ : RestAt) → Resolves code (p.items ++ is) → (st : State) (d : Desk) → ok st d
        → Onto program code callers size count first scope level k t p.temps p.items is st d (λ st' d'. place_on program p.place d' (λ s. κ p.type s st'))
        → Leads k (m κ st) (run_at (p.items ++ is) d)

  -- a place and a value for it
  pub record DoesReady (r : Assignable) (t : ℕ) (m : (CType → Spot → Rest) → State → Runs) : Type 0 where
    pub grows : t ≤ r.temps
    pub fits : FitsPlace r.temps r.place
    pub small : SmallPlace r.place
    pub below_value : Below r.temps r.value
    pub small_value : SmallTree r.value
    pub runs : (k : Depth) → Under k level → (is : List Item) (κ : CType → Spot → Rest) → Resolves code (r.items ++ is) → (st : State) (d : Desk) → ok st d
        → Onto program code callers size count first scope level k t r.temps r.items is st d (λ st' d'. place_on program r.place d' (λ s. on (value program r.value d') (λ v. κ r.type s v st')))
        → Leads k (m κ st) (run_at (r.items ++ is) d)

  void_by : (k : Depth) (o : Value) (f : ℕ → Value) (κ : ℕ → Runs) (q : Runs) → Leads k (on (bind o f) κ) q → Leads k (on o (λ x. stop ends.Wild)) q
  void_by k (Number x) f κ q h = leads_wild k q
  void_by k ZeroDivisor f κ q h = h
  void_by k Wild f κ q h = h

  loaded_by : (i : Integer) (o : Option ℕ) (κ : Rest) (st : State) → on (bind (there o) (λ v. Number (kept i v))) (λ v. κ v st) ≡ or_wild (option_map (converted (types.Integer i)) o) κ st
  unfolding converted
  loaded_by i None κ st = refl
  loaded_by i (Some v) κ st = refl

  loaded_pointer : (i : Integer) (n : ℕ) (o : Option ℕ) (κ : Rest) (st : State) → on (bind (there o) (λ v. Number (kept ints.Int v))) (λ v. κ v st)
      ≡ or_wild (option_map (converted (types.Pointer i n)) o) κ st
  unfolding converted kept
  loaded_pointer i n None κ st = refl
  loaded_pointer i n (Some v) κ st = refl

  -- reading a place
  pub read_mem : (ty : CType) (a : Tree) (k : Depth) (is : List Item) (κ : Rest) (st : State) (d : Desk) → ok st d
      → Leads k (on (value program (Indir (integer_of ty) a) d) (λ v. κ v st)) (run_at is d) → Leads k (on (value program a d) (λ x. read_at ty (Memory x) κ st)) (run_at is d)
  read_mem types.Void a k is κ st d ag h = void_by k (value program a d) _ (λ v. κ v st) (run_at is d) h
  read_mem (types.Integer i) a k is κ st d ag h = subst (λ r. Leads k r (run_at is d))
      (on_bind (value program a d) _ (λ v. κ v st) ∙ (λ j. on (value program a d) (λ x. loaded_by i (fetched (integer_access i) d.area x) κ st j))
      ∙ ap (λ z. on (value program a d) (λ x. or_wild (option_map (converted (types.Integer i)) (fetched (integer_access i) z x)) κ st)) ag.area) h
  read_mem (types.Pointer i n) a k is κ st d ag h = subst (λ r. Leads k r (run_at is d))
      (on_bind (value program a d) _ (λ v. κ v st) ∙ (λ j. on (value program a d) (λ x. loaded_pointer i n (fetched sizes.Long d.area x) κ st j))
      ∙ ap (λ z. on (value program a d) (λ x. or_wild (option_map (converted (types.Pointer i n)) (fetched sizes.Long z x)) κ st)) ag.area) h

  pub read_place : (s : Where) (ty : CType) (u : ℕ) (k : Depth) (is : List Item) (κ : Rest) (st : State) (d : Desk) → FitsPlace u s → ok st d
      → Leads k (on (value program (read_from ty s) d) (λ v. κ v st)) (run_at is d) → Leads k (place_on program s d (λ s. read_at ty s κ st)) (run_at is d)
  read_place (InLoc n) ty u k is κ st d fit ag h = subst (λ r. Leads k r (run_at is d)) (on_there (d.locals n) κ st ∙ ap (λ o. or_wild o κ st) (ag.local n fit)) h
  read_place (InArg n) ty u k is κ st d fit ag h = subst (λ r. Leads k r (run_at is d)) (on_there (slice_get d.arguments n) κ st ∙ ap (λ l. or_wild (slice_get l n) κ st) ag.arguments) h
  read_place (InMem a) ty u k is κ st d fit ag h = read_mem ty a k is κ st d ag h

  module _ (within : (x : ℕ) → scope x → x < size) (own : size ≤ first) where
    pub below_read : (s : Where) (ty : CType) (u : ℕ) → first ≤ u → FitsPlace u s → Below u (read_from ty s)
    below_read (InLoc n) ty u sz fit = let lt = within n fit in omega arith
    below_read (InArg n) ty u sz fit = tt
    below_read (InMem a) ty u sz fit = fit

    pub small_read : (s : Where) (ty : CType) → SmallPlace s → SmallTree (read_from ty s)
    small_read (InLoc n) ty h = tt
    small_read (InArg n) ty h = tt
    small_read (InMem a) ty h = h

    pub read_does : (p : Located) (t : ℕ) (m : RestAt → State → Runs) → first ≤ t → DoesPlace p t m
        → Does program code callers size count first scope level (read_low p) t (λ κ. m (λ ty s. read_at ty s κ))
    read_does p t m sz does = record {
      grows = does.grows;
      below = below_read p.place p.type p.temps (omega (arith, does.grows)) does.fits;
      small = small_read p.place p.type does.small;
      runs = λ k le is κ res st d ag h. does.runs k le is (λ ty s. read_at ty s κ) res st d ag
          (λ st1 d1 ag1 s1. read_place p.place p.type p.temps k is κ st1 d1 does.fits ag1 (h st1 d1 ag1 s1));
    }

    pub address_does : (p : Located) (t : ℕ) (m : RestAt → State → Runs) → DoesPlace p t m
        → Does program code callers size count first scope level (address_low p) t (λ κ. m (λ ty s. address_of s κ))
    address_does p t m does = record {
      grows = does.grows;
      below = below_address p.temps p.place does.fits;
      small = small_address p.place does.small;
      runs = λ k le is κ res st d ag h. does.runs k le is (λ ty s. address_of s κ) res st d ag
          (λ st1 d1 ag1 s1. address_place k p.place is κ st1 d1 (h st1 d1 ag1 s1));
    }
      where
        below_address : (u : ℕ) (s : Where) → FitsPlace u s → Below u (address_tree s)
        below_address u (InLoc n) h = tt
        below_address u (InArg n) h = tt
        below_address u (InMem a) h = h

        small_address : (s : Where) → SmallPlace s → SmallTree (address_tree s)
        small_address (InLoc n) h = omega arith
        small_address (InArg n) h = omega arith
        small_address (InMem a) h = h

        address_place : (k : Depth) (s : Where) (is : List Item) (κ : Rest) (st : State) (d : Desk) → Leads k (on (value program (address_tree s) d) (λ v. κ v st)) (run_at is d)
            → Leads k (place_on program s d (λ s. address_of s κ st)) (run_at is d)
        address_place k (InLoc n) is κ st d h = leads_wild k _
        address_place k (InArg n) is κ st d h = leads_wild k _
        address_place k (InMem a) is κ st d h = h

    -- the value that is put into a local is converted
    int_same : (o : Value) (κ : ℕ → Runs) → on o κ ≡ on o (λ x. κ (kept ints.Int x))
    unfolding kept
    int_same o κ = refl

    conv_on : (i : Integer) (a : Tree) (d : Desk) (κ : ℕ → Runs) → on (value program (conv i a) d) κ ≡ on (value program a d) (λ x. κ (kept i x))
    conv_on ints.Char a d κ = on_bind (value program a d) (λ x. Number (kept ints.Char x)) κ
    conv_on ints.UnsignedChar a d κ = on_bind (value program a d) (λ x. Number (kept ints.UnsignedChar x)) κ
    conv_on ints.Short a d κ = on_bind (value program a d) (λ x. Number (kept ints.Short x)) κ
    conv_on ints.UnsignedShort a d κ = on_bind (value program a d) (λ x. Number (kept ints.UnsignedShort x)) κ
    conv_on ints.Int a d κ = int_same (value program a d) κ

    conv_small : (i : Integer) (a : Tree) → SmallTree a → SmallTree (conv i a)
    conv_small ints.Char a h = h
    conv_small ints.UnsignedChar a h = h
    conv_small ints.Short a h = h
    conv_small ints.UnsignedShort a h = h
    conv_small ints.Int a h = h

    conv_below : (i : Integer) (u : ℕ) (a : Tree) → Below u a → Below u (conv i a)
    conv_below ints.Char u a h = h
    conv_below ints.UnsignedChar u a h = h
    conv_below ints.Short u a h = h
    conv_below ints.UnsignedShort u a h = h
    conv_below ints.Int u a h = h

    pub fitted_maps : (t : CType) → Maps program code callers size count first scope level within own (fitted t) (converted t)
    fitted_maps t = record {
      below = λ u a h. conv_below (integer_of t) u a h;
      small = λ a h. conv_small (integer_of t) a h;
      maps = λ a d κ. conv_on (integer_of t) a d κ ∙ (λ j. on (value program a d) (λ x. κ (sym (conv_value t x) j)));
    }

    -- a value is put where a place is, on both sides
    put_local_by : (n u : ℕ) (k : Depth) (is : List Item) (κ : Rest) (st : State) (d : Desk) (b : Bool) → nat_lt n (length st.call.locals) ≡ b → u < 2 ^ 32 → ok st d
        → (n < size → ok (with_locals st (slice_set st.call.locals n u)) (record d { locals = with_local d.locals n u })
        → Leads k (κ u (with_locals st (slice_set st.call.locals n u))) (run_at is (record d { locals = with_local d.locals n u })))
        → Leads k (written (option_map (with_locals st) (cond b (Some (slice_set st.call.locals n u)) None)) u κ) (run_at is (record d { locals = with_local d.locals n u }))
    put_local_by n u k is κ st d false e lt ag h = leads_wild k _
    put_local_by n u k is κ st d true e lt ag h =
        let inside : n < length st.call.locals = ltb-true n (length st.call.locals) e in
        h (omega (arith, ag.count)) (record {
          local = λ x sc. set_both st.call.locals d.locals n u x inside (ag.local x sc);
          count = length-set st.call.locals n u ∙ ag.count;
          arguments = ag.arguments;
          area = ag.area;
          input = ag.input;
          pushed = ag.pushed;
          active = ag.active;
          ranged = ranged_set d n u lt ag.ranged;
          bytes = ag.bytes;
          whole = ag.whole;
          pointer = λ s. let k = ag.pointer s in (k.0, k.1, set_other d.locals n u size (λ q. omega (arith, ag.count)) ∙ k.2);
        })

    pub put_local_step : (n u : ℕ) (k : Depth) (is : List Item) (κ : Rest) (st : State) (d : Desk) → u < 2 ^ 32 → ok st d
        → (n < size → ok (with_locals st (slice_set st.call.locals n u)) (record d { locals = with_local d.locals n u })
        → Leads k (κ u (with_locals st (slice_set st.call.locals n u))) (run_at is (record d { locals = with_local d.locals n u })))
        → Leads k (written (put_local n u st) u κ) (run_at is (record d { locals = with_local d.locals n u }))
    put_local_step n u k is κ st d lt ag h = put_local_by n u k is κ st d (nat_lt n (length st.call.locals)) refl lt ag h

    get_set : (xs : List ℕ) (n u m v : ℕ) → u < 2 ^ 32 → ((m v : ℕ) → slice_get xs m ≡ Some v → v < 2 ^ 32) → n < length xs → slice_get (slice_set xs n u) m ≡ Some v → v < 2 ^ 32
    get_set xs n u m v lt r inside e =
        ⊎_elim
        (λ eq. let one : Some v ≡ Some u = sym e ∙ subst (λ i. slice_get (slice_set xs n u) i ≡ Some u) (sym eq) (slice_set_same xs n u inside) in let same : v ≡ u = cc in omega arith)
        (λ ne. r m v (sym (slice_set_other xs n u m ne) ∙ e))
        (cases_eq m n)

    put_argument_by : (n u : ℕ) (k : Depth) (is : List Item) (κ : Rest) (st : State) (d : Desk) (b : Bool) → nat_lt n (length st.call.parameters) ≡ b → u < 2 ^ 32 → ok st d
        → (n < length d.arguments → ok (with_parameters st (slice_set st.call.parameters n u)) (record d { arguments = slice_set d.arguments n u })
        → Leads k (κ u (with_parameters st (slice_set st.call.parameters n u))) (run_at is (record d { arguments = slice_set d.arguments n u })))
        → Leads k (written (option_map (with_parameters st) (cond b (Some (slice_set st.call.parameters n u)) None)) u κ) (run_at is (record d { arguments = slice_set d.arguments n u }))
    put_argument_by n u k is κ st d false e lt ag h = leads_wild k _
    put_argument_by n u k is κ st d true e lt ag h =
        let inside : n < length st.call.parameters = ltb-true n (length st.call.parameters) e in
        let inside' : n < length d.arguments = subst (λ l. n < length l) (sym ag.arguments) inside in
        h inside' (record {
          local = ag.local;
          count = ag.count;
          arguments = ap (λ l. slice_set l n u) ag.arguments;
          area = ag.area;
          input = ag.input;
          pushed = ag.pushed;
          active = ag.active;
          ranged = record { local = ag.ranged.local; argument = λ m v e. get_set d.arguments n u m v lt ag.ranged.argument inside' e; area = ag.ranged.area };
          bytes = ag.bytes;
          whole = ag.whole;
          pointer = ag.pointer;
        })

    pub put_argument_step : (n u : ℕ) (k : Depth) (is : List Item) (κ : Rest) (st : State) (d : Desk) → u < 2 ^ 32 → ok st d
        → (n < length d.arguments → ok (with_parameters st (slice_set st.call.parameters n u)) (record d { arguments = slice_set d.arguments n u })
        → Leads k (κ u (with_parameters st (slice_set st.call.parameters n u))) (run_at is (record d { arguments = slice_set d.arguments n u })))
        → Leads k (written (option_map (with_parameters st) (set_at st.call.parameters n u)) u κ) (run_at is (record d { arguments = slice_set d.arguments n u }))
    put_argument_step n u k is κ st d lt ag h = put_argument_by n u k is κ st d (nat_lt n (length st.call.parameters)) refl lt ag h

    -- memory is written on both sides
    put_area_by : (z : Size) (x v u : ℕ) (k : Depth) (is : List Item) (κ : Rest) (st : State) (d : Desk) (o : Option (List ℕ)) → stored z d.area x v ≡ o → ok st d
        → ((area : List ℕ) → ok (with_area st area) (record d { area = area }) → Leads k (κ u (with_area st area)) (run_at is (record d { area = area })))
        → Leads k (written (option_map (with_area st) o) u κ) (written_at program code callers is d o)
    put_area_by z x v u k is κ st d None e ag h = leads_wild k _
    put_area_by z x v u k is κ st d (Some area) e ag h = h area (record {
      local = ag.local;
      count = ag.count;
      arguments = ag.arguments;
      area = refl;
      input = ag.input;
      pushed = ag.pushed;
      active = ag.active;
      ranged = record { local = ag.ranged.local; argument = ag.ranged.argument; area = stored_bytes z d.area x v area ag.ranged.area e };
      bytes = ag.bytes;
      whole = record { bytes = stored_bytes z d.area x v area ag.whole.bytes e; long = stored_long z d.area x v area e ∙ ag.whole.long };
      pointer = ag.pointer;
    })

    -- what is written is the value, converted or narrowed
    put_area_step : (z : Size) (x v v' u : ℕ) (k : Depth) (is : List Item) (κ : Rest) (st : State) (d : Desk) → stored z d.area x v' ≡ stored z d.area x v → ok st d
        → ((area : List ℕ) → ok (with_area st area) (record d { area = area }) → Leads k (κ u (with_area st area)) (run_at is (record d { area = area })))
        → Leads k (written (option_map (with_area st) (stored z st.area x v)) u κ) (written_at program code callers is d (stored z d.area x v'))
    put_area_step z x v v' u k is κ st d same ag h =
        let one = put_area_by z x v u k is κ st d (stored z d.area x v) refl ag h in
        let two = subst (λ a. Leads k (written (option_map (with_area st) (stored z a x v)) u κ) (written_at program code callers is d (stored z d.area x v))) ag.area one in
        subst (λ o. Leads k (written (option_map (with_area st) (stored z st.area x v)) u κ) (written_at program code callers is d o)) (sym same) two

    pub put_memory_step : (ty : CType) (x v w : ℕ) (k : Depth) (is : List Item) (κ : Rest) (st : State) (d : Desk)
        → stored (integer_access (integer_of ty)) d.area x (narrowed program code callers (integer_of ty) w) ≡ stored (integer_access (integer_of ty)) d.area x v → ok st d
        → ((area : List ℕ) → ok (with_area st area) (record d { area = area }) → Leads k (κ v (with_area st area)) (run_at is (record d { area = area })))
        → Leads k (written (put ty (Memory x) v st) v κ) (written_at program code callers is d (stored (integer_access (integer_of ty)) d.area x (narrowed program code callers (integer_of ty) w)))
    put_memory_step types.Void x v w k is κ st d same ag h = leads_wild k _
    put_memory_step (types.Integer i) x v w k is κ st d same ag h = put_area_step (integer_access i) x v _ v k is κ st d same ag h
    put_memory_step (types.Pointer i n) x v w k is κ st d same ag h = put_area_step sizes.Long x v _ v k is κ st d same ag h
