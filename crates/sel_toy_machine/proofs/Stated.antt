-- The toy machine's statements do their deeds.
use Rattle.std.proofs.Common.{◌≡◌, ℕ, zero, suc, ◌+◌, ◌-◌, ◌%◌, ◌^◌, ◌<◌, ◌==◌, List, [], ◌∷◌, ◌++◌, length, map, Option, Some, None, Bool, true, false, refl, sym, ap, ◌∙◌}
use Rattle.std.proofs.Common.{subst, arith, take, drop, slice_get}
use Rattle.std.specs.Prelude.{IsSome, ◌&&◌, cond, slice_set}
use Rattle.std.specs.Option.{option_map}
use Rattle.std.specs.List.{AllByRecursion}
use Rattle.std.specs.Int.{w16, w32, to_le_bytes}
use Rattle.std.proofs.lemmas.Bool.{and_parts, eqb-true, false≢true}
use Rattle.std.proofs.lemmas.Option.{none-some, same_Some}
use Rattle.gg_base.specs.declared.relation.Rel.{Rel}
use Rattle.gg_base.specs.declared.size.Size.{Size}
use Rattle.gg_base.specs.declared.size.Size.TheVariants.{Byte, Word as Halfword, Long}
use Rattle.gg_base.specs.Relations.{holds}
use Rattle.gg_base.specs.LittleEndian.{with_number}
use Rattle.tree_core.specs.declared.program.TreeFn.{TreeFn}
use Rattle.tree_core.specs.declared.program.TreeProgram.{TreeProgram}
use Rattle.tree_core.specs.Area.{is_inside, stored}
use Rattle.tree_core.specs.Valid.{args_of, args_or, service_args, takes}
use Rattle.tree_core.specs.Names.{label_name, function_label}
use Rattle.sel_target.specs.tree_meaning.specs.State.{State, Extent}
use Rattle.gg_base.specs.declared.run.Finish.TheVariants as finish
use Rattle.sel_target.specs.tree_meaning.specs.declared.value.Meaning.{Meaning as Place}
use Rattle.sel_target.specs.tree_meaning.specs.declared.value.Meaning.TheVariants as meaning
use Rattle.sel_target.specs.tree_meaning.specs.Deeds.{Deed, Puts, Branches, Pushes, Returns as Leaves, Calls as CallDeed, Saves, Jumps, Traps, Strays}
use Rattle.sel_target.specs.tree_meaning.specs.Steps.{Goes as GoesOn, GoesTo, Enters, Ends, strays, with_local_set, with_argument_set, with_pushed, without_pushed}
use Rattle.sel_target.specs.tree_meaning.specs.Steps.{deed_step, put_in, wrote, got, called_as, served}
use Rattle.md_reader_pieces.specs.declared.piece.Line.{Line}
use Rattle.md_reader.specs.declared.types.Class.{Class}
use Rattle.md_reader.specs.declared.types.Rule.{Rule}
use Rattle.md_reader.specs.declared.types.Kind.{Kind}
use Rattle.md_reader.specs.declared.types.Kind.TheVariants as kind
use Rattle.md_reader.specs.Patterns.{kind_at}
use Rattle.term_core.specs.declared.operator.BinaryOp.TheVariants as binary_op
use Rattle.term_core.specs.Shape.{Shape, Symbol, Memory, Binary}
use Rattle.sel_target.specs.sel_terms.specs.Effects.{ActShape, EffectShape, Value, Number, Address, PlaceHome, PlaceAt, StoreHome, StoreAt, Branch, Push, Call, Save, Return, Jump}
use Rattle.sel_target.specs.declared.attr.Attr.{Attr}
use Rattle.sel_target.specs.Courses.{Course, Goes, Calls, Breaks, ends, comes, followed}
use Rattle.sel_target.specs.Values.{View, value, PlaceIs, local as is_local, argument as is_argument, memory as is_memory}
use Rattle.sel_target.specs.EffectTerms.{begins_with_save}
use Rattle.sel_target.specs.Instances.{hole, lines_of, Ready}
use Rattle.sel_target.specs.StatementLaws.{att_of, Stays, IsStep, HomeIs, DoesAct, DoesStatements}
use Rattle.sel_toy_machine.specs.declared.operand.Operand.{Operand}
use Rattle.sel_toy_machine.specs.declared.operand.Operand.TheVariants as operand
use Rattle.sel_toy_machine.specs.declared.operand.Source.{Source}
use Rattle.sel_toy_machine.specs.declared.operand.Instr.{Instr}
use Rattle.sel_toy_machine.specs.declared.operand.Instr.TheVariants as instruction
use Rattle.sel_toy_machine.specs.declared.form.Form.{Form}
use Rattle.sel_toy_machine.specs.declared.form.Form.TheVariants as form
use Rattle.sel_toy_machine.specs.declared.form.ShapeForm.{ShapeForm}
use Rattle.sel_toy_machine.specs.declared.form.ShapeForm.TheVariants as shape_form
use Rattle.sel_toy_machine.specs.Machine.{Machine, in_register, in_word, long, names, Stands, with_register, with_word, with_argument, with_area}
use Rattle.sel_toy_machine.specs.Forms.{shape_of, is_sized}
use Rattle.sel_toy_machine.specs.Templates.{undivided, sum, quotient, gives_nothing, found_form, found_shape, is_home, holds_register}
use Rattle.sel_toy_machine.specs.Filling.{source_at, operand_at, some_operand, based, branched, jumped, called, saved, filled}
use Rattle.sel_toy_machine.specs.Running.{taken, read_then, put_area, put_place, taken_in, run}
use Rattle.sel_toy_machine.specs.Running as running
use Rattle.sel_toy_machine.specs.Toy.{toy}
use Rattle.sel_toy_machine.proofs.Spelled.{own_is}
use Rattle.sel_target.proofs.AreaBytes.{Bytes, outside_0}
use Rattle.sel_toy_machine.proofs.Readings.{part_same}
use Rattle.sel_toy_machine.proofs.Sources.{source_taken}
use Rattle.sel_toy_machine.proofs.Taken.{Taken, by_line, by_shape, where_is, taken_by}
use Rattle.sel_toy_machine.proofs.Results.{value_small}
use Rattle.sel_toy_machine.proofs.Shaped.{register_hole, register_holds, register_sized}

-- ---- what is written keeps its range

all_append : (xs ys : List ℕ) → Bytes xs → Bytes ys → Bytes (xs ++ ys)
all_append [] ys h g = g
all_append (x ∷ xs) ys h g = (h.0, all_append xs ys h.1 g)

all_take : (n : ℕ) (xs : List ℕ) → Bytes xs → Bytes (take n xs)
all_take zero xs h = tt
all_take (suc n) [] h = tt
all_take (suc n) (x ∷ xs) h = (h.0, all_take n xs h.1)

all_drop : (n : ℕ) (xs : List ℕ) → Bytes xs → Bytes (drop n xs)
all_drop zero xs h = h
all_drop (suc n) [] h = tt
all_drop (suc n) (x ∷ xs) h = all_drop n xs h.1

all_set : (bound n v : ℕ) (xs : List ℕ) → v < bound → AllByRecursion (λ x. x < bound) xs → AllByRecursion (λ x. x < bound) (slice_set xs n v)
all_set bound n v [] lt h = tt
all_set bound zero v (x ∷ xs) lt h = (lt, h.1)
all_set bound (suc n) v (x ∷ xs) lt h = (h.0, all_set bound n v xs lt h.1)

four_bytes : (v : ℕ) → Bytes (to_le_bytes w32 v)
four_bytes v = (omega arith, (omega arith, (omega arith, (omega arith, tt))))

two_bytes : (v : ℕ) → Bytes (to_le_bytes w16 v)
two_bytes v = (omega arith, (omega arith, tt))

with_bytes : (size : Size) (bytes : List ℕ) (at v : ℕ) → Bytes bytes → Bytes (with_number size bytes at v)
with_bytes Byte bytes at v h = all_set 256 at (v % 2 ^ 8) bytes (omega arith) h
with_bytes Halfword bytes at v h =
    all_append (take at bytes) _ (all_take at bytes h) (all_append (to_le_bytes w16 (v % 2 ^ 16)) _ (two_bytes (v % 2 ^ 16)) (all_drop (at + 2) bytes h))
with_bytes Long bytes at v h =
    all_append (take at bytes) _ (all_take at bytes h) (all_append (to_le_bytes w32 v) _ (four_bytes v) (all_drop (at + 4) bytes h))

stored_bytes : (size : Size) (bytes : List ℕ) (a v : ℕ) (after : List ℕ) → Bytes bytes → stored size bytes a v ≡ Some after → Bytes after
stored_bytes size bytes a v after h e = by (is_inside size bytes a) e where
  by : (b : Bool) → cond b (Some (with_number size bytes (a - 65536) v)) None ≡ Some after → Bytes after
  by true g = subst Bytes (same_Some _ after g) (with_bytes size bytes (a - 65536) v h)
  by false g = absurd (none-some after g)

map_get : {X Y : Type 0} (g : X → Y) (xs : List X) (i : ℕ) → slice_get (map g xs) i ≡ option_map g (slice_get xs i)
map_get g [] i = refl
map_get g (x ∷ xs) zero = refl
map_get g (x ∷ xs) (suc i) = map_get g xs i

map_length : {X Y : Type 0} (g : X → Y) (xs : List X) → length (map g xs) ≡ length xs
map_length g [] = refl
map_length g (x ∷ xs) = ap suc (map_length g xs)

abbrev name_of : TreeFn → List ℕ
name_of g = g.name

-- ---- the states behind

module _ (q : TreeProgram) (f : Extent) (fs : List Extent) (t : State) (m : Machine) (h : Stands q f fs t m) where
  pushed_stands : (x : ℕ) → Stands q f fs (with_pushed t x) (record m { pushed = x ∷ m.pushed })
  pushed_stands x = record {
    area = h.area;
    input = h.input;
    arguments = h.arguments;
    pushed = ap (λ l. x ∷ l) h.pushed;
    callers = h.callers;
    functions = h.functions;
    locals = h.locals;
    bytes = h.bytes;
    inputs = h.inputs;
    longwords = h.longwords;
  }

  local_set : (k x : ℕ) → k < f.locals → x < 2 ^ 32 → Stands q f fs (with_local_set t k x) (with_word m k x)
  local_set k x lt small = record {
    area = h.area;
    input = h.input;
    arguments = h.arguments;
    pushed = h.pushed;
    callers = h.callers;
    functions = h.functions;
    locals = λ j n e. by j n (j == k) refl e;
    bytes = h.bytes;
    inputs = h.inputs;
    longwords = h.longwords;
  } where
    by : (j n : ℕ) (b : Bool) → (j == k) ≡ b → cond (j == k) (Some x) (t.running.locals j) ≡ Some n → (j < f.locals) × (long (cond (j == k) x (in_word m j)) ≡ n)
    by j n true e g =
        let is = eqb-true j k e in (
          subst (λ y. y < f.locals) (sym is) lt,
          ap (λ b. long (cond b x (in_word m j))) e ∙ part_same Long x small ∙ same_Some x n (sym (ap (λ b. cond b (Some x)
              (t.running.locals j)) e) ∙ g),
        )
    by j n false e g =
        let r = h.locals j n (sym (ap (λ b. cond b (Some x) (t.running.locals j)) e) ∙ g) in
        (r.0, ap (λ b. long (cond b x (in_word m j))) e ∙ r.1)

  argument_set : (k x : ℕ) → x < 2 ^ 32 → Stands q f fs (with_argument_set t k x) (with_argument m k x)
  argument_set k x small = record {
    area = h.area;
    input = h.input;
    arguments = ap (λ l. slice_set l (k - 1) x) h.arguments;
    pushed = h.pushed;
    callers = h.callers;
    functions = h.functions;
    locals = h.locals;
    bytes = h.bytes;
    inputs = h.inputs;
    longwords = all_set (2 ^ 32) (k - 1) x t.running.arguments small h.longwords;
  }

  area_set : (after : List ℕ) → Bytes after → Stands q f fs (record t { area = after }) (with_area m after)
  area_set after small = record {
    area = refl;
    input = h.input;
    arguments = h.arguments;
    pushed = h.pushed;
    callers = h.callers;
    functions = h.functions;
    locals = h.locals;
    bytes = small;
    inputs = h.inputs;
    longwords = h.longwords;
  }

  register_set : (r x : ℕ) → Stands q f fs t (with_register m r x)
  register_set r x = record {
    area = h.area;
    input = h.input;
    arguments = h.arguments;
    pushed = h.pushed;
    callers = h.callers;
    functions = h.functions;
    locals = h.locals;
    bytes = h.bytes;
    inputs = h.inputs;
    longwords = h.longwords;
  }

-- ---- the deeds

module _ (q : TreeProgram) (f : Extent) (fs : List Extent) (classes : List Class) (rule : Rule) (hs : List (Attr Operand)) (res : Attr Operand) (v : View) (m : Machine) where
  abbrev R : EffectShape → Type 0
  R e = Ready toy q f fs classes rule e hs res v m

  abbrev Did : List Instr → Deed → Type 0
  Did is d = IsStep toy q f fs v.state m (run is m) (deed_step q v.state d)

  abbrev Act : ActShape → Deed → Type 0
  Act a d = DoesAct toy q f rule.restrictions hs v m a d

  -- a source is worth its symbol
  worth_of : (e : EffectShape) → R e → (i : ℕ) → is_sized classes rule.right Long i ≡ true → IsSome (v.symbol i) → taken (source_at q hs i) Long m ≡ Some (value v (Symbol i))
  worth_of e ready i sized some = source_taken true q f fs classes rule e hs v m ready.instance_of Long i sized some

  stays : (s : State) (n : Machine) → Stands q f fs s n → n.callers ≡ m.callers → Stays toy q f fs s m n
  stays s n h e = record { agrees = h; live = e }

  -- one instruction that reads a number and goes on
  reads_on : (s : Source) (x : ℕ) (go : ℕ → Course Instr Machine) → taken s Long m ≡ Some x → followed (read_then (taken s Long m) go) [] (run []) ≡ followed (go x) [] (run [])
  reads_on s x go e = ap (λ o. followed (read_then o go) [] (run [])) e

  push_did : (i n : ℕ) → R (undivided (Push (Symbol i))) → is_sized classes rule.right Long i ≡ true → value v (Symbol i) ≡ n → Did (instruction.Push (source_at q hs i) ∷ []) (Pushes n)
  push_did i n ready sized is =
      let x = worth_of (undivided (Push (Symbol i))) ready i sized ready.instance_of.read.0 in
      subst (λ y. Did (instruction.Push (source_at q hs i) ∷ []) (Pushes y)) is (
        record m { pushed = value v (Symbol i) ∷ m.pushed },
        reads_on (source_at q hs i) (value v (Symbol i)) _ x,
        stays _ _ (pushed_stands q f fs v.state m ready.instance_of.agrees (value v (Symbol i))) refl,
      )

  returned_did : (i n : ℕ) → R (undivided (Return (Symbol i))) → is_sized classes rule.right Long i ≡ true → value v (Symbol i) ≡ n →
      Did (instruction.Return (source_at q hs i) ∷ []) (Leaves n)
  returned_did i n ready sized is =
      let x = worth_of (undivided (Return (Symbol i))) ready i sized ready.instance_of.read.0 in
      subst (λ y. Did (instruction.Return (source_at q hs i) ∷ []) (Leaves y)) is (
        with_register m 0 (value v (Symbol i)),
        reads_on (source_at q hs i) (value v (Symbol i)) _ x,
        stays _ _ (register_set q f fs v.state m ready.instance_of.agrees 0 (value v (Symbol i))) refl,
        part_same Long (value v (Symbol i)) (value_small v (Symbol i)),
        tt,
      )

  -- a comparison goes to the label, or on
  branch_way : (label : ℕ) (b : Bool) → Stands q f fs v.state m →
      IsStep toy q f fs v.state m (followed (cond b (ends (Goes (label_name label) m)) (comes m)) [] (run [])) (cond b (GoesTo label v.state) (GoesOn v.state))
  branch_way label true h = (m, refl, stays v.state m h refl)
  branch_way label false h = (m, refl, stays v.state m h refl)

  branch_did : (i j k : ℕ) (rel : Rel) (label x y : ℕ) → R (undivided (Branch i (Symbol j) (Symbol k))) → is_sized classes rule.right Long j ≡ true →
      is_sized classes rule.right Long k ≡ true →
      value v (Symbol j) ≡ x → value v (Symbol k) ≡ y → Did (instruction.Branch rel (source_at q hs j) (source_at q hs k) label ∷ []) (Branches rel label x y)
  branch_did i j k rel label x y ready left right ex ey =
      let e = undivided (Branch i (Symbol j) (Symbol k)) in
      let a = worth_of e ready j left ready.instance_of.read.0 in
      let b = worth_of e ready k right ready.instance_of.read.1.0 in
      let ran = reads_on (source_at q hs j) (value v (Symbol j)) (λ n. read_then (taken (source_at q hs k) Long m) (λ w. cond (holds rel n w) (ends (Goes (label_name label) m)) (comes m))) a
      ∙ reads_on (source_at q hs k) (value v (Symbol k)) (λ w. cond (holds rel (value v (Symbol j)) w) (ends (Goes (label_name label) m)) (comes m)) b in
      subst (λ n. Did (instruction.Branch rel (source_at q hs j) (source_at q hs k) label ∷ []) (Branches rel label n y)) ex
      (subst (λ n. Did (instruction.Branch rel (source_at q hs j) (source_at q hs k) label ∷ []) (Branches rel label (value v (Symbol j)) n)) ey
      (subst (λ c. IsStep toy q f fs v.state m c (deed_step q v.state (Branches rel label (value v (Symbol j)) (value v (Symbol k))))) (sym ran)
      (branch_way label (holds rel (value v (Symbol j)) (value v (Symbol k))) ready.instance_of.agrees)))

  save_did : (k : ℕ) (e : EffectShape) → R e → begins_with_save rule.right ≡ true → k < f.locals → Did (instruction.Save k ∷ []) (Saves k)
  save_did k e ready begins lt =
      let answer = ready.instance_of.answered begins in
      let h = local_set q f fs v.state m ready.instance_of.agrees k (long (in_register m 0)) lt (omega arith) in
      (with_word m k (long (in_register m 0)), refl, stays _ _ (subst (λ x. Stands q f fs (with_local_set v.state k x) (with_word m k (long (in_register m 0)))) answer h) refl)

  -- a place gets a number
  put_local : (size : Size) (k x : ℕ) → Stands q f fs v.state m → k < f.locals → x < 2 ^ 32 →
      IsStep toy q f fs v.state m (followed (put_place size (operand.Word k) x m) [] (run [])) (deed_step q v.state (Puts (meaning.Local k) x))
  put_local size k x h lt small = (with_word m k x, refl, stays _ _ (local_set q f fs v.state m h k x lt small) refl)

  put_argument : (size : Size) (k x : ℕ) → Stands q f fs v.state m → x < 2 ^ 32 →
      IsStep toy q f fs v.state m (followed (put_place size (operand.Argument k) x m) [] (run [])) (deed_step q v.state (Puts (meaning.Argument k) x))
  put_argument size k x h small = (with_argument m k x, refl, stays _ _ (argument_set q f fs v.state m h k x small) refl)

  put_bytes : (o : Option (List ℕ)) (size : Size) (a x : ℕ) → stored size v.state.area a x ≡ o → Stands q f fs v.state m →
      IsStep toy q f fs v.state m (followed (put_area o m) [] (run [])) (put_in v.state o)
  put_bytes None size a x e h = tt
  put_bytes (Some after) size a x e h = (with_area m after, refl, stays _ _ (area_set q f fs v.state m h after (stored_bytes size v.state.area a x after h.bytes e)) refl)

  put_memory : (size : Size) (a x : ℕ) → Stands q f fs v.state m →
      IsStep toy q f fs v.state m (followed (put_area (stored size m.area a x) m) [] (run [])) (deed_step q v.state (Puts (meaning.Memory size a) x))
  put_memory size a x h =
      subst (λ bytes. IsStep toy q f fs v.state m (followed (put_area (stored size bytes a x) m) [] (run [])) (deed_step q v.state (Puts (meaning.Memory size a) x))) (sym h.area)
      (put_bytes (stored size v.state.area a x) size a x refl h)

  nowhere : (size : Size) (x : ℕ) → stored size v.state.area 0 x ≡ None
  nowhere size x = by (is_inside size v.state.area 0) refl where
    by : (b : Bool) → is_inside size v.state.area 0 ≡ b → cond (is_inside size v.state.area 0) (Some (with_number size v.state.area (0 - 65536) x)) None ≡ None
    by true e = absurd (outside_0 size v.state.area e)
    by false e = ap (λ b. cond b (Some (with_number size v.state.area (0 - 65536) x)) None) e

  -- an operand that names address 0 is no place of the area: nothing is said
  put_nowhere : (size : Size) (a x : ℕ) (c : Course Instr Machine) → Some 0 ≡ Some a → IsStep toy q f fs v.state m c (deed_step q v.state (Puts (meaning.Memory size a) x))
  put_nowhere size a x c e =
      subst (λ n. IsStep toy q f fs v.state m c (deed_step q v.state (Puts (meaning.Memory size n) x))) (same_Some 0 a e)
      (subst (λ o. IsStep toy q f fs v.state m c (put_in v.state o)) (sym (nowhere size x)) tt)

  put_named : (size : Size) (o : Operand) (a x : ℕ) → Stands q f fs v.state m → names o size m ≡ Some a →
      IsStep toy q f fs v.state m (followed (put_place size o x m) [] (run [])) (deed_step q v.state (Puts (meaning.Memory size a) x))
  put_named size (operand.Register r) a x h e = absurd (none-some a e)
  put_named size (operand.Based r) a x h e =
      subst (λ n. IsStep toy q f fs v.state m (followed (put_place size (operand.Based r) x m) [] (run [])) (deed_step q v.state (Puts (meaning.Memory size n) x)))
      (same_Some (long (in_register m r)) a e)
      (put_memory size (long (in_register m r)) x h)
  put_named size (operand.Word w) a x h e = put_nowhere size a x _ e
  put_named size (operand.Deferred w) a x h e =
      subst (λ n. IsStep toy q f fs v.state m (followed (put_place size (operand.Deferred w) x m) [] (run [])) (deed_step q v.state (Puts (meaning.Memory size n) x)))
      (same_Some (long (in_word m w)) a e)
      (put_memory size (long (in_word m w)) x h)
  put_named size (operand.Argument k) a x h e = put_nowhere size a x _ e
  put_named size (operand.Number n) a x h e = absurd (none-some a e)

  put_is : (size : Size) (o : Operand) (g : Place) (x : ℕ) → Stands q f fs v.state m → x < 2 ^ 32 → PlaceIs toy f v.state m size o g →
      IsStep toy q f fs v.state m (followed (put_place size o x m) [] (run [])) (deed_step q v.state (Puts g x))
  put_is size o g x h small (is_local k z is lt below) =
      subst (λ p. IsStep toy q f fs v.state m (followed (put_place size p x m) [] (run [])) (deed_step q v.state (Puts g x))) (sym is) (put_local size k x h lt small)
  put_is size o g x h small (is_argument k z is lt numbered) =
      subst (λ p. IsStep toy q f fs v.state m (followed (put_place size p x m) [] (run [])) (deed_step q v.state (Puts g x))) (sym is) (put_argument size (k + 1) x h small)
  put_is size o g x h small (is_memory a e) = put_named size o a x h e

  store_did : (size : Size) (i j n : ℕ) (g : Place) → R (undivided (StoreHome size i (Symbol j))) → is_sized classes rule.right Long j ≡ true →
      HomeIs toy f v.state m hs i size g → value v (Symbol j) ≡ n →
      Did (instruction.Store size (operand_at q hs i) (source_at q hs j) ∷ []) (Puts g n)
  store_did size i j n g ready sized home is =
      let x = worth_of (undivided (StoreHome size i (Symbol j))) ready j sized ready.instance_of.read.0 in
      let o : operand_at q hs i ≡ home.operand_is = ap (some_operand q) home.at ∙ own_is q home.attribute home.operand_is home.own in
      subst (λ y. Did (instruction.Store size (operand_at q hs i) (source_at q hs j) ∷ []) (Puts g y)) is
      (subst (λ p. Did (instruction.Store size p (source_at q hs j) ∷ []) (Puts g (value v (Symbol j)))) (sym o)
      (subst (λ c. IsStep toy q f fs v.state m c (deed_step q v.state (Puts g (value v (Symbol j)))))
      (sym (reads_on (source_at q hs j) (value v (Symbol j)) (λ y. put_place size home.operand_is y m) x))
      (put_is size home.operand_is g (value v (Symbol j)) ready.instance_of.agrees (value_small v (Symbol j)) home.place)))

  store_at_did : (size : Size) (i j n : ℕ) (g : Place) → R (undivided (StoreAt size (Symbol i) (Symbol j))) →
      holds_register classes (hole rule.right i) ≡ true → is_sized classes rule.right Long j ≡ true →
      g ≡ meaning.Memory size (value v (Symbol i)) → value v (Symbol j) ≡ n → Did (instruction.Store size (based (operand_at q hs i)) (source_at q hs j) ∷ []) (Puts g n)
  store_at_did size i j n g ready held sized place is =
      let e = undivided (StoreAt size (Symbol i) (Symbol j)) in
      let x = worth_of e ready j sized ready.instance_of.read.1.0 in
      let r = register_hole classes rule.right hs ready.instance_of.holes_fit i held in
      let address = register_holds q f fs classes rule e hs v m ready.instance_of i r.0 ready.instance_of.read.0 r.1 (register_sized classes rule.right i held) in
      let o : based (operand_at q hs i) ≡ operand.Based r.0 = ap (λ w. based (some_operand q w)) r.1 in
      subst (λ y. Did (instruction.Store size (based (operand_at q hs i)) (source_at q hs j) ∷ []) (Puts g y)) is
      (subst (λ p. Did (instruction.Store size p (source_at q hs j) ∷ []) (Puts g (value v (Symbol j)))) (sym o)
      (subst (λ w. Did (instruction.Store size (operand.Based r.0) (source_at q hs j) ∷ []) (Puts w (value v (Symbol j)))) (sym place)
      (subst (λ c. IsStep toy q f fs v.state m c (deed_step q v.state (Puts (meaning.Memory size (value v (Symbol i))) (value v (Symbol j)))))
      (sym (reads_on (source_at q hs j) (value v (Symbol j)) (λ y. put_place size (operand.Based r.0) y m) x))
      (put_named size (operand.Based r.0) (value v (Symbol i)) (value v (Symbol j)) ready.instance_of.agrees (ap Some address)))))

  jump_did : (label : ℕ) (e : EffectShape) → R e → Did (instruction.Jump label ∷ []) (Jumps label)
  jump_did label e ready = (m, refl, stays v.state m ready.instance_of.agrees refl)

  -- a service is done at once, a function's call is left to be done
  byte_written : (ps : List ℕ) (count : ℕ) → v.state.running.pushed ≡ ps → count ≡ 1 → length ps ≡ count → Stands q f fs v.state m →
      IsStep toy q f fs v.state m (followed (running.written ps m) [] (run [])) (wrote (without_pushed v.state count) (slice_get (take count ps) 0))
  byte_written [] count is one size h = absurd (let e : 0 ≡ 1 = size ∙ one in omega (arith, e))
  byte_written (x ∷ y ∷ ps) count is one size h = absurd (let e : length (x ∷ y ∷ ps) ≡ 1 = size ∙ one in omega (arith, e))
  byte_written (x ∷ []) count is one size h =
      subst (λ k. IsStep toy q f fs v.state m (followed (running.written (x ∷ []) m) [] (run [])) (wrote (without_pushed v.state k) (slice_get (take k (x ∷ [])) 0))) (sym one) (
        with_register (record m { pushed = [] }) 0 (x % 2 ^ 8),
        refl,
        stays _ _ (record {
          area = h.area;
          input = h.input;
          arguments = h.arguments;
          pushed = sym (ap (drop 1) is);
          callers = h.callers;
          functions = h.functions;
          locals = h.locals;
          bytes = h.bytes;
          inputs = h.inputs;
          longwords = h.longwords;
        }) refl,
        part_same Long (x % 2 ^ 8) (omega arith),
      )

  byte_taken : (bs : List ℕ) (count : ℕ) → v.state.input ≡ bs → count ≡ 0 → Stands q f fs v.state m →
      IsStep toy q f fs v.state m (followed (taken_in bs m) [] (run [])) (got (without_pushed v.state count) bs)
  byte_taken [] count is none h =
      subst (λ k. IsStep toy q f fs v.state m (followed (taken_in [] m) [] (run [])) (got (without_pushed v.state k) [])) (sym none) (
        with_register m 0 4294967295,
        refl,
        stays _ _ (record {
          area = h.area;
          input = h.input;
          arguments = h.arguments;
          pushed = h.pushed;
          callers = h.callers;
          functions = h.functions;
          locals = h.locals;
          bytes = h.bytes;
          inputs = h.inputs;
          longwords = h.longwords;
        }) refl,
        refl,
      )
  byte_taken (b ∷ bs) count is none h =
      let small = subst Bytes is h.inputs in
      subst (λ k. IsStep toy q f fs v.state m (followed (taken_in (b ∷ bs) m) [] (run [])) (got (without_pushed v.state k) (b ∷ bs))) (sym none) (
        with_register (record m { input = bs }) 0 b,
        refl,
        stays _ _ (record {
          area = h.area;
          input = refl;
          arguments = h.arguments;
          pushed = h.pushed;
          callers = h.callers;
          functions = h.functions;
          locals = h.locals;
          bytes = h.bytes;
          inputs = small.1;
          longwords = h.longwords;
        }) refl,
        part_same Long b (let lt = small.0 in omega (arith, lt)),
      )

  take_all : {X : Type 0} (xs : List X) (n : ℕ) → length xs ≡ n → length (take n xs) ≡ n
  take_all [] zero e = refl
  take_all [] (suc n) e = absurd (omega (arith, e))
  take_all (x ∷ xs) zero e = refl
  take_all (x ∷ xs) (suc n) e = ap suc (take_all xs n (omega (arith, e)))

  entering : (g : TreeFn) (count : ℕ) (args : List ℕ) (s : State) (b : Bool) → length args ≡ count → Stands q f fs v.state m →
      IsStep toy q f fs v.state m (followed (ends (Calls (function_label g.name) count m [])) [] (run [])) (cond b (Enters g args s) (Ends finish.Deep))
  entering g count args s true e h = (m, ap (λ n. ends (Calls (function_label g.name) n m [])) (sym e), stays v.state m h refl, tt)
  entering g count args s false e h = tt

  serving : (n count : ℕ) (zero_is one_is : Bool) → (n == 0) ≡ zero_is → (n == 1) ≡ one_is → takes (service_args n) count ≡ true →
      length v.state.running.pushed ≡ count → Stands q f fs v.state m →
      IsStep toy q f fs v.state m (followed (running.service n m) [] (run [])) (served (without_pushed v.state count) n (take count v.state.running.pushed))
  serving n count true one_is ez eo fits size h =
      let count_is : count ≡ 1 = sym (eqb-true 1 count (sym (ap (λ b. takes (cond b (Some 1) (cond (n == 1) (Some 0) None)) count) ez) ∙ fits)) in
      subst (λ b. IsStep toy q f fs v.state m (followed (cond b (running.written m.pushed m) (cond (n == 1) (taken_in m.input m) (ends Breaks))) [] (run []))
      (cond b (wrote (without_pushed v.state count) (slice_get (take count v.state.running.pushed) 0)) (cond (n == 1) (got (without_pushed v.state count) v.state.input) strays))) (sym ez)
      (subst (λ ps. IsStep toy q f fs v.state m (followed (running.written ps m) [] (run []))
      (wrote (without_pushed v.state count) (slice_get (take count v.state.running.pushed) 0))) (sym h.pushed)
      (byte_written v.state.running.pushed count refl count_is size h))
  serving n count false true ez eo fits size h =
      let count_is : count ≡ 0 = sym (eqb-true 0 count (sym (ap (λ b. takes (cond b (Some 1)
      (cond (n == 1) (Some 0) None)) count) ez ∙ ap (λ b. takes (cond b (Some 0) None) count) eo) ∙ fits)) in
      subst (λ b. IsStep toy q f fs v.state m (followed (cond b (running.written m.pushed m) (cond (n == 1) (taken_in m.input m) (ends Breaks))) [] (run []))
      (cond b (wrote (without_pushed v.state count) (slice_get (take count v.state.running.pushed) 0)) (cond (n == 1) (got (without_pushed v.state count) v.state.input) strays))) (sym ez)
      (subst (λ b. IsStep toy q f fs v.state m (followed (cond b (taken_in m.input m) (ends Breaks)) [] (run [])) (cond b (got (without_pushed v.state count) v.state.input) strays)) (sym eo)
      (subst (λ bs. IsStep toy q f fs v.state m (followed (taken_in bs m) [] (run [])) (got (without_pushed v.state count) v.state.input)) (sym h.input)
      (byte_taken v.state.input count refl count_is h)))
  serving n count false false ez eo fits size h =
      absurd (false≢true (sym (ap (λ b. takes (cond b (Some 1) (cond (n == 1) (Some 0) None)) count) ez ∙ ap (λ b. takes (cond b (Some 0) None) count) eo) ∙ fits))

  calling : (function count : ℕ) (o : Option TreeFn) → slice_get q.functions function ≡ o → takes (args_of q.functions function) count ≡ true →
      length v.state.running.pushed ≡ count → Stands q f fs v.state m →
      IsStep toy q f fs v.state m (followed (running.called (option_map name_of o) (function - length q.functions) count m) [] (run []))
      (called_as (without_pushed v.state count) o (function - length q.functions) (take count v.state.running.pushed))
  calling function count (Some g) is fits size h =
      entering g count (take count v.state.running.pushed) (without_pushed v.state count) _ (take_all v.state.running.pushed count size) h
  calling function count None is fits size h =
      serving (function - length q.functions) count _ _ refl refl (sym (ap (λ o. takes (args_or o (service_args (function - length q.functions))) count) is) ∙ fits) size h

  call_did : (function count : ℕ) → takes (args_of q.functions function) count ≡ true → length v.state.running.pushed ≡ count → Stands q f fs v.state m →
      Did (instruction.Call function count ∷ []) (CallDeed function count)
  call_did function count fits size h =
      subst (λ l. IsStep toy q f fs v.state m (followed (running.called (slice_get l function) (function - length l) count m) [] (run []))
      (deed_step q v.state (CallDeed function count))) (sym h.functions)
      (subst (λ o. IsStep toy q f fs v.state m (followed (running.called o (function - length (map name_of q.functions)) count m) [] (run []))
      (deed_step q v.state (CallDeed function count))) (sym (map_get name_of q.functions function))
      (subst (λ n. IsStep toy q f fs v.state m (followed (running.called (option_map name_of (slice_get q.functions function)) (function - n) count m) [] (run []))
      (deed_step q v.state (CallDeed function count))) (sym (map_length name_of q.functions))
      (calling function count (slice_get q.functions function) refl fits size h)))

  given_tests : (a b : Bool) → (gives_nothing rule.give && (a && b)) ≡ true → (a ≡ true) × (b ≡ true)
  given_tests a b e = and_parts a b (and_parts (gives_nothing rule.give) (a && b) e).1

  abbrev Goal : Form → Deed → Type 0
  Goal g d = Did (filled q (Some g) hs res ∷ []) d

  one_is : (i : ℕ) → (gives_nothing rule.give && (i == 1)) ≡ true → i ≡ 1
  one_is i e = eqb-true i 1 (and_parts (gives_nothing rule.give) (i == 1) e).1

  -- by the act of a form, for each deed

  by_store : (size : Size) (i j : ℕ) (d : Deed) → R (undivided (StoreHome size i (Symbol j))) →
      (gives_nothing rule.give && (is_home classes size (hole rule.right i) && is_sized classes rule.right Long j)) ≡ true →
      Act (StoreHome size i (Symbol j)) d → Goal (form.Store size i j) d
  by_store size i j (Puts g n) ready w did = store_did size i j n g ready (given_tests _ _ w).1 did.0 did.1
  by_store size i j _ ready w did = absurd did

  by_store_at : (size : Size) (i j : ℕ) (d : Deed) → R (undivided (StoreAt size (Symbol i) (Symbol j))) →
      (gives_nothing rule.give && (holds_register classes (hole rule.right i) && is_sized classes rule.right Long j)) ≡ true →
      Act (StoreAt size (Symbol i) (Symbol j)) d → Goal (form.StoreAt size i j) d
  by_store_at size i j (Puts g n) ready w did = store_at_did size i j n g ready (given_tests _ _ w).0 (given_tests _ _ w).1 did.0 did.1
  by_store_at size i j _ ready w did = absurd did

  by_push : (i : ℕ) (d : Deed) → R (undivided (Push (Symbol i))) → (gives_nothing rule.give && is_sized classes rule.right Long i) ≡ true → Act (Push (Symbol i)) d → Goal (form.Push i) d
  by_push i (Pushes n) ready w did = push_did i n ready (and_parts (gives_nothing rule.give) _ w).1 did
  by_push i _ ready w did = absurd did

  by_branch : (i j k : ℕ) (d : Deed) → R (undivided (Branch i (Symbol j) (Symbol k))) →
      (gives_nothing rule.give && (is_sized classes rule.right Long j && is_sized classes rule.right Long k)) ≡ true → Act (Branch i (Symbol j) (Symbol k)) d →
      Goal (form.Branch i j k) d
  by_branch i j k (Branches rel label x y) ready w did =
      subst (λ o. Did (branched o (source_at q hs j) (source_at q hs k) ∷ []) (Branches rel label x y)) (sym did.0)
      (branch_did i j k rel label x y ready (given_tests _ _ w).0 (given_tests _ _ w).1 did.2 did.3)
  by_branch i j k _ ready w did = absurd did

  by_jump : (i : ℕ) (d : Deed) → R (undivided Jump) → (gives_nothing rule.give && (i == 1)) ≡ true → Act Jump d → Goal (form.Jump i) d
  by_jump i (Jumps label) ready w did =
      subst (λ o. Did (jumped o ∷ []) (Jumps label)) (sym (ap (λ j. att_of (hole hs j)) (one_is i w) ∙ did)) (jump_did label (undivided Jump) ready)
  by_jump i _ ready w did = absurd did

  by_call : (i : ℕ) (d : Deed) → R (undivided Call) → (gives_nothing rule.give && (i == 1)) ≡ true → Act Call d → Goal (form.Call i) d
  by_call i (CallDeed function count) ready w did =
      subst (λ o. Did (called o ∷ []) (CallDeed function count)) (sym (ap (λ j. att_of (hole hs j)) (one_is i w) ∙ did.0)) (call_did function count did.1 did.2 ready.instance_of.agrees)
  by_call i _ ready w did = absurd did

  by_return : (i : ℕ) (d : Deed) → R (undivided (Return (Symbol i))) → (gives_nothing rule.give && is_sized classes rule.right Long i) ≡ true →
      Act (Return (Symbol i)) d → Goal (form.Return i) d
  by_return i (Leaves n) ready w did = returned_did i n ready (and_parts (gives_nothing rule.give) _ w).1 did
  by_return i _ ready w did = absurd did

  by_save : (i : ℕ) (d : Deed) → R (undivided (Save i)) → (gives_nothing rule.give && begins_with_save rule.right) ≡ true → Act (Save i) d → Goal (form.Save i) d
  by_save i (Saves slot) ready w did =
      subst (λ o. Did (saved o ∷ []) (Saves slot)) (sym did.0) (save_did slot (undivided (Save i)) ready (and_parts (gives_nothing rule.give) _ w).1 did.1)
  by_save i _ ready w did = absurd did

  value_did : (t : Shape) (d : Deed) → Act (Value t) d → ⊥
  value_did t (Puts g n) h = h
  value_did t (Branches rel label x y) h = h
  value_did t (Pushes n) h = h
  value_did t (Leaves n) h = h
  value_did t (CallDeed function count) h = h
  value_did t (Saves slot) h = h
  value_did t (Jumps label) h = h
  value_did t Traps h = h
  value_did t Strays h = h

  form_did : (g : Form) (e : EffectShape) (d : Deed) → found_form classes rule g ≡ Some e → R e → Act e.act d → Goal g d
  form_did (form.Move size i) e d found ready did = absurd (value_did (Symbol i) d (subst (λ (x : EffectShape). Act x.act d) (sym (where_is _ (undivided (Value (Symbol i))) e found).1) did))
  form_did (form.Add i j) e d found ready did =
      absurd (value_did (Binary binary_op.Add (Symbol i) (Symbol j)) d (subst (λ (x : EffectShape). Act x.act d) (sym (where_is _ (sum i j) e found).1) did))
  form_did (form.Divide i j) e d found ready did =
      absurd (value_did (Binary binary_op.Div (Symbol i) (Symbol j)) d (subst (λ (x : EffectShape). Act x.act d) (sym (where_is _ (quotient i j) e found).1) did))
  form_did (form.Address i) e d found ready did = absurd (none-some e found)
  form_did (form.Store size i j) e d found ready did =
      let w = where_is _ (undivided (StoreHome size i (Symbol j))) e found in
      by_store size i j d (subst R (sym w.1) ready) w.0 (subst (λ (x : EffectShape). Act x.act d) (sym w.1) did)
  form_did (form.StoreAt size i j) e d found ready did =
      let w = where_is _ (undivided (StoreAt size (Symbol i) (Symbol j))) e found in
      by_store_at size i j d (subst R (sym w.1) ready) w.0 (subst (λ (x : EffectShape). Act x.act d) (sym w.1) did)
  form_did (form.Push i) e d found ready did =
      let w = where_is _ (undivided (Push (Symbol i))) e found in
      by_push i d (subst R (sym w.1) ready) w.0 (subst (λ (x : EffectShape). Act x.act d) (sym w.1) did)
  form_did (form.Branch i j k) e d found ready did =
      let w = where_is _ (undivided (Branch i (Symbol j) (Symbol k))) e found in
      by_branch i j k d (subst R (sym w.1) ready) w.0 (subst (λ (x : EffectShape). Act x.act d) (sym w.1) did)
  form_did (form.Jump i) e d found ready did =
      let w = where_is _ (undivided Jump) e found in
      by_jump i d (subst R (sym w.1) ready) w.0 (subst (λ (x : EffectShape). Act x.act d) (sym w.1) did)
  form_did (form.Call i) e d found ready did =
      let w = where_is _ (undivided Call) e found in
      by_call i d (subst R (sym w.1) ready) w.0 (subst (λ (x : EffectShape). Act x.act d) (sym w.1) did)
  form_did (form.Return i) e d found ready did =
      let w = where_is _ (undivided (Return (Symbol i))) e found in
      by_return i d (subst R (sym w.1) ready) w.0 (subst (λ (x : EffectShape). Act x.act d) (sym w.1) did)
  form_did (form.Save i) e d found ready did =
      let w = where_is _ (undivided (Save i)) e found in
      by_save i d (subst R (sym w.1) ready) w.0 (subst (λ (x : EffectShape). Act x.act d) (sym w.1) did)

  -- acts that give something do no deed
  abbrev Gives : ActShape → Type 0
  Gives (Value t) = Unit {0}
  Gives (Number t) = Unit {0}
  Gives (Address t) = Unit {0}
  Gives (PlaceHome size i) = Unit {0}
  Gives (PlaceAt size a) = Unit {0}
  Gives a = ⊥

  no_deed : (a : ActShape) (d : Deed) → Gives a → Act a d → ⊥
  no_deed (Value t) (Puts g n) h did = did
  no_deed (Value t) (Branches rel label x y) h did = did
  no_deed (Value t) (Pushes n) h did = did
  no_deed (Value t) (Leaves n) h did = did
  no_deed (Value t) (CallDeed function count) h did = did
  no_deed (Value t) (Saves slot) h did = did
  no_deed (Value t) (Jumps label) h did = did
  no_deed (Value t) Traps h did = did
  no_deed (Value t) Strays h did = did
  no_deed (Number t) (Puts g n) h did = did
  no_deed (Number t) (Branches rel label x y) h did = did
  no_deed (Number t) (Pushes n) h did = did
  no_deed (Number t) (Leaves n) h did = did
  no_deed (Number t) (CallDeed function count) h did = did
  no_deed (Number t) (Saves slot) h did = did
  no_deed (Number t) (Jumps label) h did = did
  no_deed (Number t) Traps h did = did
  no_deed (Number t) Strays h did = did
  no_deed (Address t) (Puts g n) h did = did
  no_deed (Address t) (Branches rel label x y) h did = did
  no_deed (Address t) (Pushes n) h did = did
  no_deed (Address t) (Leaves n) h did = did
  no_deed (Address t) (CallDeed function count) h did = did
  no_deed (Address t) (Saves slot) h did = did
  no_deed (Address t) (Jumps label) h did = did
  no_deed (Address t) Traps h did = did
  no_deed (Address t) Strays h did = did
  no_deed (PlaceHome size i) (Puts g n) h did = did
  no_deed (PlaceHome size i) (Branches rel label x y) h did = did
  no_deed (PlaceHome size i) (Pushes n) h did = did
  no_deed (PlaceHome size i) (Leaves n) h did = did
  no_deed (PlaceHome size i) (CallDeed function count) h did = did
  no_deed (PlaceHome size i) (Saves slot) h did = did
  no_deed (PlaceHome size i) (Jumps label) h did = did
  no_deed (PlaceHome size i) Traps h did = did
  no_deed (PlaceHome size i) Strays h did = did
  no_deed (PlaceAt size b) (Puts g n) h did = did
  no_deed (PlaceAt size b) (Branches rel label x y) h did = did
  no_deed (PlaceAt size b) (Pushes n) h did = did
  no_deed (PlaceAt size b) (Leaves n) h did = did
  no_deed (PlaceAt size b) (CallDeed function count) h did = did
  no_deed (PlaceAt size b) (Saves slot) h did = did
  no_deed (PlaceAt size b) (Jumps label) h did = did
  no_deed (PlaceAt size b) Traps h did = did
  no_deed (PlaceAt size b) Strays h did = did
  no_deed (StoreHome size i t) d h did = h
  no_deed (StoreAt size b t) d h did = h
  no_deed (Branch i b t) d h did = h
  no_deed (Push t) d h did = h
  no_deed Call d h did = h
  no_deed (Save i) d h did = h
  no_deed (Return t) d h did = h
  no_deed Jump d h did = h

  shape_did : (k : Option Kind) (g : ShapeForm) (e : EffectShape) (d : Deed) → found_shape classes rule.right k g ≡ Some e → Act e.act d → ⊥
  shape_did None (shape_form.Alone i) e d found did = none-some e found
  shape_did None (shape_form.Based i) e d found did = none-some e found
  shape_did (Some kind.Reg) (shape_form.Alone i) e d found did =
      no_deed (Value (Symbol i)) d tt (subst (λ (x : EffectShape). Act x.act d) (sym (where_is _ (undivided (Value (Symbol i))) e found).1) did)
  shape_did (Some kind.Reg) (shape_form.Based i) e d found did = none-some e found
  shape_did (Some kind.Con) (shape_form.Alone i) e d found did =
      no_deed (Number (Symbol i)) d tt (subst (λ (x : EffectShape). Act x.act d) (sym (where_is _ (undivided (Number (Symbol i))) e found).1) did)
  shape_did (Some kind.Con) (shape_form.Based i) e d found did = none-some e found
  shape_did (Some kind.Ea) (shape_form.Alone i) e d found did = none-some e found
  shape_did (Some kind.Ea) (shape_form.Based i) e d found did =
      no_deed (Address (Symbol i)) d tt (subst (λ (x : EffectShape). Act x.act d) (sym (where_is _ (undivided (Address (Symbol i))) e found).1) did)
  shape_did (Some kind.Nothing) (shape_form.Alone i) e d found did = none-some e found
  shape_did (Some kind.Nothing) (shape_form.Based i) e d found did = none-some e found
  shape_did (Some (kind.Value size)) (shape_form.Alone i) e d found did = none-some e found
  shape_did (Some (kind.Value size)) (shape_form.Based i) e d found did =
      no_deed (Value (Memory size (Symbol i))) d tt (subst (λ (x : EffectShape). Act x.act d) (sym (where_is _ (undivided (Value (Memory size (Symbol i)))) e found).1) did)
  shape_did (Some (kind.Place size)) (shape_form.Alone i) e d found did =
      no_deed (PlaceHome size i) d tt (subst (λ (x : EffectShape). Act x.act d) (sym (where_is _ (undivided (PlaceHome size i)) e found).1) did)
  shape_did (Some (kind.Place size)) (shape_form.Based i) e d found did =
      no_deed (PlaceAt size (Symbol i)) d tt (subst (λ (x : EffectShape). Act x.act d) (sym (where_is _ (undivided (PlaceAt size (Symbol i))) e found).1) did)

  pub did_by : (e : EffectShape) (d : Deed) → Taken classes rule e → R e → Act e.act d → Did (lines_of toy q rule hs res) d
  did_by e d (by_line l g lines is found) ready did =
      subst (λ ls. Did (map (λ (k : Line). toy.instr q k hs res) ls) d) (sym lines) (subst (λ o. Did (filled q o hs res ∷ []) d) (sym is) (form_did g e d found ready did))
  did_by e d (by_shape l lines gives found) ready did = absurd (shape_did (kind_at classes rule.left) (shape_of l.pieces) e d found did)

pub toy_does : DoesStatements toy
toy_does = record { does = λ q f fs classes rule e d hs res v m ready did. did_by q f fs classes rule hs res v m e d (taken_by classes rule e ready.instance_of.taken) ready did }
