-- A block is taken where a function begins, and given back where it is left.
use Rattle.std.proofs.Common.{◌≡◌, ℕ, suc, ◌+◌, ◌<◌, ◌^◌, List, ◌∷◌, ◌++◌, length, Option, Some, None, refl, ap, arith, sym, ◌∙◌, subst}
use Rattle.std.specs.Prelude.{Bool, true, false, ◌&&◌, cond, slice_get, nat_le, ◌-◌, if◌then◌else◌}
use Rattle.std.specs.Option.{option_map}
use Rattle.std.proofs.lemmas.Bool.{leb-true, lt-ltb, le-ltb}
use Rattle.std.proofs.lemmas.Bool.Decides.{nat_tests}
use Rattle.gg_base.specs.declared.relation.Rel.TheVariants as relations
use Rattle.gg_base.specs.declared.run.End.TheVariants as ends
use Rattle.gg_base.specs.declared.size.Size.TheVariants as sizes
use Rattle.gg_base.specs.Arithmetic.{add32, sub32}
use Rattle.gg_base.specs.LittleEndian.{number_in}
use Rattle.gg_base.specs.Sizes.{bytes_of}
use Rattle.gg_base.specs.Runs.{Runs, stop}
use Rattle.tree_core.specs.declared.program.Object.{Object}
use Rattle.tree_core.specs.declared.program.TreeItem.{TreeItem}
use Rattle.tree_core.specs.declared.program.TreeProgram.{TreeProgram}
use Rattle.tree_core.specs.Area.{fetched, stored, is_inside}
use Rattle.tree_meaning.specs.declared.value.Value.TheVariants.{Number, ZeroDivisor}
use Rattle.tree_meaning.specs.State.{Activation, with_local, behind, returned}
use Rattle.tree_meaning.specs.Values.{bind, there, address_of as object_address}
use Rattle.tree_counts.specs.Counted.{tallies as left_runs}
use Rattle.c_types.specs.declared.types.Integer.TheVariants as ints
use Rattle.c_types.specs.declared.typed.ArithmeticOperator.TheVariants as ariths
use Rattle.c_types.specs.Types.{kept}
use Rattle.c_types.specs.Constants.{apply, converted}
use Rattle.c_program.specs.Programs.{AProgram}
use Rattle.c_meaning.specs.declared.flow.Flow.{Flow}
use Rattle.c_meaning.specs.declared.store.Spot.TheVariants.{Memory}
use Rattle.c_meaning.specs.State.{State, address, with_area, put}
use Rattle.c_meaning.specs.Values.{Rest, Behind, or_wild, or_trap, written, read_at, store_at}
use Rattle.c_meaning.specs.Calls.{answer}
use Rattle.c_meaning.specs.Blocks.{int, pointer_number, area_number, beginning, with_block, claimed, released}
use Rattle.c_sound.specs.Fits.{AreBytes, no_local}
use Rattle.c_lower_scheme.specs.Trees.{Tree, Num, Gaddr, Loc, Indir, Bin, Item, Label, AssignLoc, AssignMem, Cbr, Ret}
use Rattle.c_lower_scheme.specs.Spelling.{spelled_all}
use Rattle.c_lower_scheme.specs.Flow.{claimed as claiming}
use Rattle.c_lower_follows.proofs.Values.{SmallTree, Small, worth_small, or_zero}
use Rattle.c_lower_counts.proofs.Leads.{Leads, leads_quiet, Depth}
use Rattle.c_lower_counts.proofs.Ahead.{ahead_here, ahead_later}
use Rattle.c_lower_follows.proofs.Steps.{Desk, desk_sight, on, Resolves}
use Rattle.c_lower_counts.proofs.Steps.{goes_on, at, written_at, moves, lost, assign_loc_step, assign_mem_step, cbr_step, ret_step}
use Rattle.c_lower_follows.proofs.Agreeing.{value, IsArea, extent_of, Agree, agree_temp, set_same}
use Rattle.c_lower_counts.proofs.Placing.{put_memory_step, read_mem}
use Rattle.c_lower_counts.proofs.Calling.{Backed}

-- an int stays as it is
int_kept : (v : ℕ) → converted int v ≡ v
unfolding converted kept
int_kept v = refl

-- what an object's address is worth
worth_by : (o : Option Object) → ((x : Object) → o ≡ Some x → x.address < 2 ^ 32) → object_address o 0 ≡ there (option_map (λ (x : Object). x.address) o)
worth_by None h = refl
worth_by (Some x) h = let lt = h x refl in let e : add32 x.address 0 ≡ x.address = omega arith in ap Number e

-- what is read lies in the area
inside_by : (b : Bool) (v q : ℕ) → bind (there (cond b (Some v) None)) (λ x. Number (kept ints.Int x)) ≡ Number q → b ≡ true
inside_by true v q e = refl
inside_by false v q e = absurd (cc)

-- a division by zero
divided : or_zero (apply ariths.Divide 0 0) ≡ ZeroDivisor
unfolding apply
divided = refl

room_is : (x q : ℕ) → bind (bind (Number x) (λ y. or_zero (apply ariths.Add y 262144))) (λ y. or_zero (apply ariths.Subtract y q)) ≡ Number (sub32 (add32 x 262144) q)
unfolding apply
room_is x q = refl

moved_is : (q n : ℕ) → or_zero (apply ariths.Add q n) ≡ Number (add32 q n)
unfolding apply
moved_is q n = refl

begins_at : (area n q : ℕ) → nat_le n (sub32 (add32 area 262144) q) ≡ true → beginning area n q ≡ Some q
begins_at area n q h = ap (λ b. if b then None else Some q) (le-ltb (sub32 (add32 area 262144) q) n (leb-true n (sub32 (add32 area 262144) q) h))

lt_of : (a b : ℕ) → nat_le a b ≡ false → b < a
lt_of a b h = grind (arith, nat_tests)

no_begin : (area n q : ℕ) → nat_le n (sub32 (add32 area 262144) q) ≡ false → beginning area n q ≡ None
no_begin area n q h = ap (λ b. if b then None else Some q) (lt-ltb (sub32 (add32 area 262144) q) n (lt_of n (sub32 (add32 area 262144) q) h))

module _ (program : TreeProgram) (code : List TreeItem) (callers : List Activation) (size count : ℕ) (level : Depth) (p : AProgram) (objects_are : program.objects ≡ p.objects)
    (addresses : (n : ℕ) (o : Object) → slice_get p.objects n ≡ Some o → o.address < 2 ^ 32) where
  abbrev pointer : ℕ
  pointer = pointer_number p.objects

  abbrev before : State → Desk → Type 0
  before st d = Agree (extent_of program) size size no_local (length callers) st d

  abbrev pub inside : State → Desk → Type 0
  inside st d = Agree (extent_of program) size (suc size) no_local (length callers) st d

  abbrev from : List Item → Desk → Runs
  from is d = at program code callers is d

  none_within : (x : ℕ) → no_local x → x < size
  none_within x h = absurd h

  pub object_value : (n : ℕ) (d : Desk) → value program (Gaddr n) d ≡ there (address p.objects n)
  object_value n d = ap (λ (os : List Object). object_address (slice_get os n) 0) objects_are ∙ worth_by (slice_get p.objects n) (λ x e. addresses n x e)

  -- the pointer moves behind the block
  abbrev taking : ℕ → ℕ → ℕ → (State → Runs) → State → Runs
  taking a n q κ = store_at int (Memory a) (add32 q n) (λ v st. κ (with_block q st))

  moved : (a n q : ℕ) (k : Depth) (is : List Item) (κ : State → Runs) (st : State) (d : Desk) → n < 2 ^ 32 → value program (Gaddr pointer) d ≡ Number a → before st d → d.locals size ≡ Some q
      → ((st' : State) (d' : Desk) → inside st' d' → Leads k (κ st') (from is d'))
      → Leads k (taking a n q κ st) (from (AssignMem ints.Int (Gaddr pointer) (Bin ariths.Add (Loc size) (Num n)) ∷ is) d)
  moved a n q k is κ st d small at_a ag at_q h =
      let w : Tree = Bin ariths.Add (Loc size) (Num n) in
      let x : ℕ = add32 q n in
      let run : Runs = from (AssignMem ints.Int (Gaddr pointer) w ∷ is) d in
      let goal : Runs = taking a n q κ st in
      let sum : value program w d ≡ Number x = ap (λ m. bind (there m) (λ y. or_zero (apply ariths.Add y n))) at_q ∙ moved_is q n in
      let whole = assign_mem_step program code callers k ints.Int (Gaddr pointer) w is (λ y v. goal) d tt (tt, small) ag.ranged
      (λ y v ey ev.
      let found : Number a ≡ Number y = sym at_a ∙ ey in
      let same : a ≡ y = cc in
      let got : Number x ≡ Number v = sym sum ∙ ev in
      let equal : x ≡ v = cc in
      let target : Runs = written_at program code callers is d (stored sizes.Long d.area y v) in
      let memory = put_memory_step program code callers size count size no_local level none_within (omega arith) int y v v k is (λ z st. κ (with_block q st)) st d refl ag
      (λ area ag'. h (with_block q (with_area st area)) (record d { area = area }) (record {
        local = λ z sc. absurd sc;
        count = ag'.count;
        arguments = ag'.arguments;
        area = ag'.area;
        input = ag'.input;
        pushed = ag'.pushed;
        active = ag'.active;
        ranged = ag'.ranged;
        bytes = ag'.bytes;
        whole = ag'.whole;
        pointer = λ s. (q, refl, at_q);
      })) in
      subst (λ z. Leads k (written (put int (Memory a) z st) z (λ z st. κ (with_block q st))) target) (sym equal ∙ sym (int_kept x))
      (subst (λ z. Leads k (written (put int (Memory z) v st) v (λ z st. κ (with_block q st))) target) (sym same) memory)) in
      subst (λ o. Leads k (on o (λ v. goal)) run) sum (subst (λ o. Leads k (on o (λ y. on (value program w d) (λ v. goal))) run) at_a whole)

  -- is there room for it
  tested : (a n l q ar : ℕ) (k : Depth) (is : List Item) (κ : State → Runs) (st : State) (d : Desk) → n < 2 ^ 32 → value program (Gaddr pointer) d ≡ Number a
      → value program (Gaddr (suc pointer)) d ≡ Number ar
      → before st d → d.locals size ≡ Some q
      → behind code l ≡ spelled_all (AssignMem ints.Int (Gaddr pointer) (Bin ariths.Add (Loc size) (Num n)) ∷ is) → ((st' : State) (d' : Desk) → inside st' d' → Leads k (κ st') (from is d'))
      → Leads k (or_trap (beginning ar n q) (λ b. taking a n b κ) st) (from (Cbr relations.Geu l (Bin ariths.Subtract (Bin ariths.Add (Gaddr (suc pointer)) (Num 262144)) (Loc size)) (Num n)
      ∷ AssignLoc size (Bin ariths.Divide (Num 0) (Num 0)) ∷ Label l ∷ AssignMem ints.Int (Gaddr pointer) (Bin ariths.Add (Loc size) (Num n)) ∷ is) d)
  tested a n l q ar k is κ st d small at_a at_ar ag at_q there_is h =
      let w : Tree = Bin ariths.Subtract (Bin ariths.Add (Gaddr (suc pointer)) (Num 262144)) (Loc size) in
      let js : List Item = AssignMem ints.Int (Gaddr pointer) (Bin ariths.Add (Loc size) (Num n)) ∷ is in
      let ks : List Item = AssignLoc size (Bin ariths.Divide (Num 0) (Num 0)) ∷ Label l ∷ js in
      let room : ℕ = sub32 (add32 ar 262144) q in
      let run : Runs = from (Cbr relations.Geu l w (Num n) ∷ ks) d in
      let goal : Runs = or_trap (beginning ar n q) (λ b. taking a n b κ) st in
      let room_value : value program w d ≡ Number room = ap (λ o. bind (bind o (λ y. or_zero (apply ariths.Add y 262144))) (λ y. bind (there (d.locals size))
      (λ z. or_zero (apply ariths.Subtract y z)))) at_ar
      ∙ ap (λ m. bind (bind (Number ar) (λ y. or_zero (apply ariths.Add y 262144))) (λ y. bind (there m) (λ z. or_zero (apply ariths.Subtract y z)))) at_q ∙ room_is ar q in
      let whole = cbr_step program code callers k l relations.Geu w (Num n) ks (λ x y. goal) d ((tt, omega arith), tt) small ag.ranged
      (λ x y ex ey taken.
      let found : Number room ≡ Number x = sym room_value ∙ ex in
      let same : room ≡ x = cc in
      let equal : n ≡ y = cc in
      let fits : nat_le n room ≡ true = subst (λ z. nat_le z room ≡ true) (sym equal) (subst (λ z. nat_le y z ≡ true) (sym same) taken) in
      goes_on program code callers k l ks d goal (ahead_later l (AssignLoc size (Bin ariths.Divide (Num 0) (Num 0))) (Label l ∷ js) (ahead_here l js))
      (moves program code callers k (behind code l) (spelled_all js) d goal there_is
      (subst (λ o. Leads k (or_trap o (λ b. taking a n b κ) st) (from js d)) (sym (begins_at ar n q fits)) (moved a n q k is κ st d small at_a ag at_q h))))
      (λ x y ex ey falls.
      let found : Number room ≡ Number x = sym room_value ∙ ex in
      let same : room ≡ x = cc in
      let equal : n ≡ y = cc in
      let full : nat_le n room ≡ false = subst (λ z. nat_le z room ≡ false) (sym equal) (subst (λ z. nat_le y z ≡ false) (sym same) falls) in
      let traps = assign_loc_step program code callers k size (Bin ariths.Divide (Num 0) (Num 0)) (Label l ∷ js) (λ v. stop ends.Trapped) d (omega arith, omega arith) ag.ranged
      (λ v e. absurd (let z : ZeroDivisor ≡ Number v = sym divided ∙ e in cc)) in
      leads_quiet k _ _ (subst (λ o. Leads k (or_trap o (λ b. taking a n b κ) st) (from ks d)) (sym (no_begin ar n q full)) (subst
      (λ o. Leads k (on o (λ v. stop ends.Trapped)) (from ks d)) divided traps))) in
      subst (λ o. Leads k (on o (λ x. on (value program (Num n) d) (λ y. goal))) run) room_value whole

  second : (o : Option ℕ) → address p.objects (suc pointer) ≡ o → (a n l q : ℕ) (k : Depth) (is : List Item) (κ : State → Runs) (st : State) (d : Desk) → n < 2 ^ 32
      → value program (Gaddr pointer) d ≡ Number a
      → before st d → d.locals size ≡ Some q → behind code l ≡ spelled_all (AssignMem ints.Int (Gaddr pointer) (Bin ariths.Add (Loc size) (Num n)) ∷ is)
      → ((st' : State) (d' : Desk) → inside st' d' → Leads k (κ st') (from is d'))
      → Leads k (or_wild o (λ area. or_trap (beginning area n q) (λ b. taking a n b κ)) st)
      (from (Cbr relations.Geu l (Bin ariths.Subtract (Bin ariths.Add (Gaddr (suc pointer)) (Num 262144)) (Loc size))
      (Num n) ∷ AssignLoc size (Bin ariths.Divide (Num 0) (Num 0)) ∷ Label l ∷ AssignMem ints.Int (Gaddr pointer) (Bin ariths.Add (Loc size) (Num n)) ∷ is) d)
  second None e a n l q k is κ st d small at_a ag at_q there_is h =
      lost program code callers k (spelled_all (Cbr relations.Geu l (Bin ariths.Subtract (Bin ariths.Add (Gaddr (suc pointer)) (Num 262144)) (Loc size)) (Num n)
      ∷ AssignLoc size (Bin ariths.Divide (Num 0) (Num 0)) ∷ Label l ∷ AssignMem ints.Int (Gaddr pointer) (Bin ariths.Add (Loc size) (Num n)) ∷ is)) d
  second (Some ar) e a n l q k is κ st d small at_a ag at_q there_is h = tested a n l q ar k is κ st d small at_a (object_value (suc pointer) d ∙ ap there e) ag at_q there_is h

  -- an address of the stack's pointer that lies in each area that is as long
  abbrev pub Lies : ℕ → Type 0
  Lies a = (area : List ℕ) → length area ≡ extent_of program → is_inside sizes.Long area a ≡ true

  first_by : (o : Option ℕ) → address p.objects pointer ≡ o → (n l : ℕ) (k : Depth) (is : List Item) (κ : State → Runs) (st : State) (d : Desk) → suc n < 2 ^ 32
      → Resolves code ((claiming size (suc size) pointer (suc n) l).items ++ is) → before st d
      → ((a : ℕ) → o ≡ Some a → Lies a → (st' : State) (d' : Desk) → inside st' d' → Leads k (κ st') (from is d'))
      → Leads k (or_wild o (λ x. read_at int (Memory x) (λ q. or_wild (address p.objects (area_number p.objects)) (λ area. or_trap (beginning area (suc n) q) (λ b. taking x (suc n) b κ)))) st)
      (from ((claiming size (suc size) pointer (suc n) l).items ++ is) d)
  first_by None e n l k is κ st d small res ag h = lost program code callers k (spelled_all ((claiming size (suc size) pointer (suc n) l).items ++ is)) d
  first_by (Some a) e n l k is κ st d small res ag h =
      let w : Tree = Indir ints.Int (Gaddr pointer) in
      let js : List Item = Cbr relations.Geu l (Bin ariths.Subtract (Bin ariths.Add (Gaddr (suc pointer)) (Num 262144)) (Loc size)) (Num (suc n))
      ∷ AssignLoc size (Bin ariths.Divide (Num 0) (Num 0)) ∷ Label l ∷ AssignMem ints.Int (Gaddr pointer) (Bin ariths.Add (Loc size) (Num (suc n))) ∷ is in
      let behind_area : pointer + 1 ≡ suc pointer = omega arith in
      let next : Rest = λ q. or_wild (address p.objects (area_number p.objects)) (λ area. or_trap (beginning area (suc n) q) (λ b. taking a (suc n) b κ)) in
      let at_a : value program (Gaddr pointer) d ≡ Number a = object_value pointer d ∙ ap there e in
      let run : Runs = from (AssignLoc size w ∷ js) d in
      let loads = assign_loc_step program code callers k size w js (λ q. next q st) d tt ag.ranged
      (λ q eq.
      let lt : q < 2 ^ 32 = subst Small eq (worth_small program.objects (desk_sight d) ag.ranged w tt) in
      let d1 : Desk = record d { locals = with_local d.locals size q } in
      let ag1 = agree_temp (extent_of program) size size no_local (length callers) none_within (omega arith) size q st d (omega arith) lt ag in
      let inside_a : is_inside sizes.Long d.area a ≡ true = inside_by (is_inside sizes.Long d.area a) (number_in sizes.Long d.area (a - 65536)) q
      (subst (λ o. bind o (λ x. bind (there (fetched sizes.Long d.area x)) (λ v. Number (kept ints.Int v))) ≡ Number q) at_a eq) in
      let lies : Lies a = λ area long. subst (λ z. (nat_le 65536 a && nat_le (a + bytes_of sizes.Long) (65536 + z)) ≡ true) (ag.whole.long ∙ sym long) inside_a in
      subst (λ z. Leads k (or_wild (address p.objects z) (λ area. or_trap (beginning area (suc n) q) (λ b. taking a (suc n) b κ)) st) (from js d1)) (sym behind_area)
      (second (address p.objects (suc pointer)) refl a (suc n) l q k is κ st d1 small (object_value pointer d1 ∙ ap there e) ag1 (set_same d.locals size q) res.1.1.1.0 (h a refl lies))) in
      subst (λ o. Leads k (on o (λ x. read_at int (Memory x) next st)) run) at_a (read_mem program code callers size count size no_local level int (Gaddr pointer) k
      (AssignLoc size w ∷ js) next st d ag loads)

  -- the way in of a function that has a block
  pub claim_does : (n l : ℕ) (k : Depth) (is : List Item) (κ : State → Runs) (st : State) (d : Desk) → suc n < 2 ^ 32 → Resolves code ((claiming size (suc size) pointer (suc n) l).items ++ is)
      → Agree (extent_of program) size size no_local (length callers) st d
      → ((a : ℕ) → address p.objects pointer ≡ Some a → Lies a → (st' : State) (d' : Desk) → inside st' d' → Leads k (κ st') (at program code callers is d'))
      → Leads k (claimed p.objects (suc n) κ st) (at program code callers ((claiming size (suc size) pointer (suc n) l).items ++ is) d)
  claim_does n l k is κ st d small res ag h = first_by (address p.objects pointer) refl n l k is κ st d small res ag h

  returns : (v : ℕ) (k : Depth) (w : Tree) (js : List Item) (κ : Behind) (f : Flow) (st : State) (d : Desk) → answer f ≡ v → v < 2 ^ 32 → SmallTree w → value program w d ≡ Number v → inside st d
      → Backed program k κ callers → Leads k (κ f st) (from (Ret w ∷ js) d)
  returns v k w js κ f st d answers lt small worth ag backed =
      let whole = ret_step program code callers k w js (λ z. κ f st) d small ag.ranged
      (λ z e.
      let found : Number v ≡ Number z = sym worth ∙ e in
      let same : v ≡ z = cc in
      let done = backed.goes f st (subst (λ z. z < 2 ^ 32) (sym answers) lt) (subst (IsArea (extent_of program)) ag.area ag.whole) (subst AreBytes ag.input ag.bytes) in
      subst (λ a. Leads k (κ f st) (left_runs program (returned z callers a d.input))) (sym ag.area)
      (subst (λ i. Leads k (κ f st) (left_runs program (returned z callers st.area i))) (sym ag.input)
      (subst (λ x. Leads k (κ f st) (left_runs program (returned x callers st.area st.input))) (answers ∙ same) done))) in
      subst (λ o. Leads k (on o (λ z. κ f st)) (from (Ret w ∷ js) d)) worth whole

  -- the block is given back, and the value is the caller's
  pub gives_back : (n a v : ℕ) (k : Depth) (w : Tree) (js : List Item) (κ : Behind) (f : Flow) (st : State) (d : Desk) → answer f ≡ v → address p.objects pointer ≡ Some a → v < 2 ^ 32 → SmallTree w
      → ((area : List ℕ) → value program w (record d { area = area }) ≡ Number v) → inside st d → Backed program k κ callers
      → Leads k (released p.objects (suc n) κ f st) (at program code callers (AssignMem ints.Int (Gaddr pointer) (Loc size) ∷ Ret w ∷ js) d)
  gives_back n a v k w js κ f st d answers e lt small worth ag backed =
      let block = ag.pointer (omega arith) in
      let b : ℕ = block.0 in
      let at_a : value program (Gaddr pointer) d ≡ Number a = object_value pointer d ∙ ap there e in
      let at_b : value program (Loc size) d ≡ Number b = ap there block.2 in
      let run : Runs = from (AssignMem ints.Int (Gaddr pointer) (Loc size) ∷ Ret w ∷ js) d in
      let goal : Runs = store_at int (Memory a) b (λ z. κ f) st in
      let source : released p.objects (suc n) κ f st ≡ goal = ap (λ o. or_wild o (λ b. or_wild (address p.objects pointer) (λ x. store_at int (Memory x) b (λ z. κ f))) st) block.1
      ∙ ap (λ o. or_wild o (λ x. store_at int (Memory x) b (λ z. κ f)) st) e in
      let whole = assign_mem_step program code callers k ints.Int (Gaddr pointer) (Loc size) (Ret w ∷ js) (λ y x. goal) d tt tt ag.ranged
      (λ y x ey ex.
      let found : Number a ≡ Number y = sym at_a ∙ ey in
      let same : a ≡ y = cc in
      let got : Number b ≡ Number x = sym at_b ∙ ex in
      let equal : b ≡ x = cc in
      let target : Runs = written_at program code callers (Ret w ∷ js) d (stored sizes.Long d.area y x) in
      let memory = put_memory_step program code callers size count (suc size) no_local level none_within (omega arith) int y x x k (Ret w ∷ js) (λ z. κ f) st d refl ag
      (λ area ag'. returns v k w js κ f (with_area st area) (record d { area = area }) answers lt small (worth area) ag' backed) in
      subst (λ z. Leads k (written (put int (Memory a) z st) z (λ z. κ f)) target) (sym equal ∙ sym (int_kept b))
      (subst (λ z. Leads k (written (put int (Memory z) x st) x (λ z. κ f)) target) (sym same) memory)) in
      subst (λ r. Leads k r run) (sym source)
      (subst (λ o. Leads k (on o (λ x. goal)) run) at_b (subst (λ o. Leads k (on o (λ y. on (value program (Loc size) d) (λ x. goal))) run) at_a whole))
