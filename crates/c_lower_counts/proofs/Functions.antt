-- What functions are lowered to does what they mean.
use Rattle.std.proofs.Common.{◌≡◌, ℕ, zero, suc, ◌≤◌, ◌<◌, ◌^◌, List, [], ◌∷◌, ◌++◌, length, Some, None, refl, ap, arith, sym, ◌∙◌, subst}
use Rattle.std.specs.Prelude.{false, slice_get}
use Rattle.std.proofs.lemmas.List.{length-replicate, append-nil}
use Rattle.tree_core.specs.declared.program.Object.{Object}
use Rattle.tree_core.specs.declared.program.TreeFn.{TreeFn}
use Rattle.tree_core.specs.declared.program.TreeProgram.{TreeProgram}
use Rattle.tree_meaning.specs.State.{Activation, returned, arrived, begun as begun_tree}
use Rattle.tree_meaning.specs.Values.{there as found_there}
use Rattle.tree_counts.specs.Counted.{tallies as runs}
use Rattle.c_types.specs.declared.typed.Variable.{Variable}
use Rattle.c_types.specs.declared.typed.Variable.TheVariants as variables
use Rattle.c_program.specs.Statements.{SomeActions}
use Rattle.c_program.specs.Programs.{ARoutine, AProgram}
use Rattle.c_meaning.specs.declared.flow.Flow.{Flow}
use Rattle.c_meaning.specs.declared.flow.Flow.TheVariants.{Onward, Returned}
use Rattle.c_meaning.specs.State.{State}
use Rattle.c_meaning.specs.Values.{Behind, Task, Body, Next}
use Rattle.c_meaning.specs.Meaning.{stmts, task}
use Rattle.c_meaning.specs.Blocks.{pointer_number, claimed, released}
use Rattle.c_meaning.specs.Calls.{answer, begun, performed}
use Rattle.c_sound.specs.Fits.{AreBytes, FitsActs, no_local}
use Rattle.c_sound.specs.Stands.{IsThere, Takes, StandsActs}
use Rattle.c_sound.specs.Sound.{BodyStands}
use Rattle.c_lower_scheme.specs.Trees.{Num}
use Rattle.c_lower_scheme.specs.Spelling.{spelled_all}
use Rattle.c_lower_scheme.specs.Parts.{Emitted, Destination, AsResult, Releasing, due, delivered}
use Rattle.c_lower_scheme.specs.Flow.{claimed as claiming}
use Rattle.c_lower_scheme.specs.Statements.{lower_row}
use Rattle.c_lower_counts.specs.Zeros.{row_zeros}
use Rattle.c_lower_counts.proofs.Leads.{Leads, Depth, Under, fuller}
use Rattle.c_lower_follows.proofs.Steps.{Desk, Resolves, resolves_back}
use Rattle.c_lower_counts.proofs.Steps.{at, moves}
use Rattle.c_lower_follows.proofs.Agreeing.{Agree, IsArea, extent_of}
use Rattle.c_lower_counts.proofs.Doing.{due_does, delivered_does}
use Rattle.c_lower_follows.proofs.Calling.{AllSmall, CodeOf, items_by}
use Rattle.c_lower_counts.proofs.Calling.{Backed, Calls}
use Rattle.c_lower_counts.proofs.Entering.{claim_does, gives_back, object_value}
use Rattle.c_lower_counts.proofs.Landing.{Lands, Leaves, arrive}
use Rattle.c_lower_counts.proofs.Rows.{rows_do}

small_get : (vs : List ℕ) (n v : ℕ) → AllSmall vs → slice_get vs n ≡ Some v → v < 2 ^ 32
small_get [] n v h e = absurd (cc)
small_get (x ∷ xs) zero v h e = let same : x ≡ v = cc in omega (arith, h.0)
small_get (x ∷ xs) (suc n) v h e = small_get xs n v h.1 e

-- behind the last statement the value is 0
abbrev ending : ℕ → Flow
ending zero = Onward
ending (suc v) = Returned (suc v)

abbrev Answers : (ℕ → Flow) → Type 0
Answers f = (v : ℕ) → answer (f v) ≡ v

ending_answers : Answers ending
ending_answers zero = refl
ending_answers (suc v) = refl

module _ (program : TreeProgram) (count : ℕ) (p : AProgram) (next : Next) (counts_all : length program.functions ≡ count)
    (lowers : (f : ℕ) (g : ARoutine) → slice_get p.routines f ≡ Some g → (tf : TreeFn) × (slice_get program.functions f ≡ Some tf) × CodeOf (pointer_number p.objects) count g tf.items)
    (objects_are : program.objects ≡ p.objects) (addresses : (n : ℕ) (o : Object) → slice_get p.objects n ≡ Some o → o.address < 2 ^ 32)
    (next_is : (t : Task) (κ : Behind) (st : State) → next t κ st ≡ task p next t κ st)
    (fits : (f : ℕ) (g : ARoutine) → slice_get p.routines f ≡ Some g → FitsActs (length g.locals) no_local false g.body)
    (stands : (f : ℕ) (g : ARoutine) → slice_get p.routines f ≡ Some g → BodyStands p g) (blocks : (f : ℕ) (g : ARoutine) → slice_get p.routines f ≡ Some g → g.block ≤ 262144)
    (each : ℕ) (few : (f : ℕ) (g : ARoutine) → slice_get p.routines f ≡ Some g → row_zeros g.body ≤ each) where
  abbrev pointer : ℕ
  pointer = pointer_number p.objects

  none_within : (size x : ℕ) → no_local x → x < size
  none_within size x h = absurd h

  -- what stands behind the statements, where the first free label is l
  abbrev end_of_row : ℕ → ℕ → Destination → SomeActions → ℕ → Emitted
  end_of_row size first out body l = delivered out (due (Num 0) first (lower_row size count first out body 0 0 l).labels)

  -- the function's statements and what stands behind them
  row_does : (tf : TreeFn) (cs : List Activation) (size first : ℕ) (out : Destination) (own : size ≤ first) (level : Depth) → Calls program count p next level → (there : Variable → Type 0)
      → ((o : ℕ) → there (variables.InBlock o) → (size < first) × (o < 262144)) → (body : SomeActions) → FitsActs size no_local false body
      → StandsActs there (Takes p.routines) (length p.objects) body → row_zeros body ≤ level.each
      → (l : ℕ) (k : Depth) → Under k level → (κ : Behind) → ((f : ℕ → Flow) → Answers f → Leaves program tf.items cs size count first level out own out k (λ v. κ (f v)))
      → Resolves tf.items ((lower_row size count first out body 0 0 l).items ++ (end_of_row size first out body l).items)
      → (st : State) (d : Desk) → Agree (extent_of program) size first no_local (length cs) st d
      → Leads (fuller k) (stmts p next body κ st) (at program tf.items cs ((lower_row size count first out body 0 0 l).items ++ (end_of_row size first out body l).items) d)
  row_does tf cs size first out own level calls there lies body fit std small l k le κ leaves res st d ag =
      let row : Emitted = lower_row size count first out body 0 0 l in
      let q : Emitted = end_of_row size first out body l in
      let none = append-nil q.items in
      let zero_does = due_does program tf.items cs size count first no_local level (none_within size) own (Num 0) first row.labels (λ κ. κ 0) tt (omega arith) (λ k is κ st d ag h. h) in
      let does = delivered_does program tf.items cs size count first no_local level (none_within size) own out (due (Num 0) first row.labels) first (λ κ. κ 0) (omega arith) zero_does in
      let res' : Resolves tf.items (q.items ++ []) = subst (Resolves tf.items) (sym none) (resolves_back tf.items row.items q.items res) in
      let lands : Lands program tf.items cs size count first level out own k 0 0 false no_local no_local q.items κ = record {
        onward = λ st1 d1 ag1. subst (λ is. Leads k (κ Onward st1) (at program tf.items cs is d1)) none (does.runs k le [] (λ v. κ (ending v)) res' st1 d1 ag1
            (arrive program tf.items cs size count first level out own out no_local k first q.temps [] d1 (λ v. κ (ending v)) (leaves ending ending_answers)));
        broke = λ e st1 d1 ag1. absurd (cc);
        continued = λ e st1 d1 ag1. absurd (cc);
        left = leaves Returned (λ v. refl);
      } in
      rows_do program tf.items cs size count first level out own p next counts_all lowers calls objects_are addresses next_is there (Takes p.routines)
      (length p.objects) lies body no_local no_local no_local
      (none_within size) (λ x h. h) (λ x h. h) false fit std small 0 0 l (fuller k) k.spare (omega (arith, small, le.1)) le q.items κ res lands st d ag

  -- a caller goes on
  answered : (cs : List Activation) (k : Depth) (κ : Behind) → Backed program k κ cs → (f : ℕ → Flow) → Answers f → (v : ℕ) (st : State) → v < 2 ^ 32 → IsArea (extent_of program) st.area
      → AreBytes st.input
      → Leads k (κ (f v) st) (runs program (returned v cs st.area st.input))
  answered cs k κ backed f same v st lt area input = subst (λ x. Leads k (κ (f v) st) (runs program (returned x cs st.area st.input))) (same v)
      (backed.goes (f v) st (subst (λ x. x < 2 ^ 32) (sym (same v)) lt) area input)

  -- where a function begins, with no block as yet
  begins : (g : ARoutine) (vs : List ℕ) → AllSmall vs → (cs : List Activation) (st : State) → st.active ≡ length cs → IsArea (extent_of program) st.area → AreBytes st.input
      → Agree (extent_of program) (length g.locals) (length g.locals) no_local (length cs) (begun g vs st)
      (record { locals = λ n. None; arguments = vs; pushed = []; result = 0; area = st.area; input = st.input })
  begins g vs lts cs st active area input = record {
    local = λ x h. absurd h;
    count = length-replicate (length g.locals) 0;
    arguments = refl;
    area = refl;
    input = refl;
    pushed = refl;
    active = omega (arith, active);
    ranged = record { local = λ n v e. absurd (cc); argument = λ n v e. small_get vs n v lts e; area = area.bytes };
    bytes = input;
    whole = area;
    pointer = λ s. absurd (omega arith);
  }

  -- a body, by the bytes of its function's block
  body_by : (level : Depth) → Calls program count p next level → (k : Depth) → Under k level → (g : ARoutine) → FitsActs (length g.locals) no_local false g.body → (block : ℕ)
      → StandsActs (IsThere (length p.objects) (length g.parameters) block) (Takes p.routines) (length p.objects) g.body → block ≤ 262144 → row_zeros g.body ≤ level.each → (tf : TreeFn) (label : ℕ)
      → tf.items ≡ spelled_all (items_by (length g.locals) count pointer g.body label block).items → Resolves tf.items (items_by (length g.locals) count pointer g.body label block).items
      → (vs : List ℕ) → AllSmall vs → (κ : Behind) (cs : List Activation) → Backed program k κ cs → (st : State) → st.active ≡ length cs → IsArea (extent_of program) st.area → AreBytes st.input
      → Leads (fuller k) (claimed p.objects block (next (Body g.body) (released p.objects block κ)) (begun g vs st))
      (runs program (arrived (record { running = begun_tree tf vs; callers = cs; area = st.area; input = st.input })))
  body_by level calls k le g fit zero std lies_in small tf label is res vs lts κ cs backed st active area input =
      let size = length g.locals in
      let d : Desk = record { locals = λ n. None; arguments = vs; pushed = []; result = 0; area = st.area; input = st.input } in
      let run = row_does tf cs size size AsResult (omega arith) level calls (IsThere (length p.objects) (length g.parameters) zero) (λ o lt. absurd (omega arith)) g.body fit std small label k le κ
      (λ f same t u is d v st lt area input. answered cs k κ backed f same v st lt area input) res (begun g vs st) d (begins g vs lts cs st active area input) in
      subst (λ r. Leads (fuller k) r (runs program (arrived (record { running = begun_tree tf vs; callers = cs; area = st.area; input = st.input })))) (sym (next_is (Body g.body) κ (begun g vs st)))
      (moves program tf.items cs (fuller k) tf.items (spelled_all (items_by size count pointer g.body label zero).items) d _ is run)
  body_by level calls k le g fit (suc n) std lies_in small tf label is res vs lts κ cs backed st active area input =
      let size = length g.locals in
      let d : Desk = record { locals = λ n. None; arguments = vs; pushed = []; result = 0; area = st.area; input = st.input } in
      let κ' : Behind = released p.objects (suc n) κ in
      let row : Emitted = lower_row size count (suc size) (Releasing pointer size) g.body 0 0 (suc label) in
      let q : Emitted = end_of_row size (suc size) (Releasing pointer size) g.body (suc label) in
      let run = claim_does program tf.items cs size count level p objects_are addresses n label (fuller k) (row.items ++ q.items) (next (Body g.body) κ') (begun g vs st) d (omega arith) res
      (begins g vs lts cs st active area input)
      (λ a e lies st1 d1 ag1.
      subst (λ r. Leads (fuller k) r (at program tf.items cs (row.items ++ q.items) d1)) (sym (next_is (Body g.body) κ' st1))
      (row_does tf cs size (suc size) (Releasing pointer size) (omega arith) level calls (IsThere (length p.objects) (length g.parameters) (suc n)) (λ o lt.
      (omega arith, omega arith)) g.body fit std small (suc label)
      k le κ'
      (λ f same t u is d2. (
        record {
          local = refl;
          blocked = omega arith;
          address = a;
          stands = object_value program tf.items cs size count level p objects_are addresses pointer d2 ∙ ap found_there e;
          inside = lies;
        },
        λ v w js st2 d3 lt tree worth ag2. gives_back program tf.items cs size count level p objects_are addresses n a v k w js κ (f v) st2 d3 (same v) e lt tree worth ag2 backed,
      )) (resolves_back tf.items (claiming size (suc size) pointer (suc n) label).items (row.items ++ q.items) res) st1 d1 ag1)) in
      moves program tf.items cs (fuller k) tf.items (spelled_all (items_by size count pointer g.body label (suc n)).items) d _ is run

  abbrev pub at_level : ℕ → Depth
  at_level t = record { turns = t; spare = 0; each = each }

  body_does : (t : ℕ) → Calls program count p next (at_level t) → (k : Depth) → Under k (at_level t) → (f : ℕ) (g : ARoutine) → slice_get p.routines f ≡ Some g → (tf : TreeFn)
      → CodeOf pointer count g tf.items
      → (vs : List ℕ) → AllSmall vs → (κ : Behind) (cs : List Activation) → Backed program k κ cs → (st : State) → st.active ≡ length cs → IsArea (extent_of program) st.area → AreBytes st.input
      → Leads (fuller k) (performed p.objects next g κ (begun g vs st)) (runs program (arrived (record { running = begun_tree tf vs; callers = cs; area = st.area; input = st.input })))
  body_does t calls k le f g at_f tf own vs lts κ cs backed st active area input =
      body_by (at_level t) calls k le g (fits f g at_f) g.block (stands f g at_f) (blocks f g at_f) (few f g at_f) tf own.label own.is own.resolves vs lts κ cs backed st active area input

  pub calls_at : (t : ℕ) → Calls program count p next (at_level t)
  calls_at zero = record {
    runs_body = λ k le f g at_f tf own vs small κ cs backed st active area input. absurd (omega (arith, le.0));
  }
  calls_at (suc t) = record {
    runs_body = λ k le f g at_f tf own vs small κ cs backed st active area input.
        body_does t (calls_at t) k (omega (arith, le.0), le.1) f g at_f tf own vs small κ cs backed st active area input;
  }
