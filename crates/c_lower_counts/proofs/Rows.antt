-- What each statement is lowered to does what the statement means, one after another.
use Rattle.std.proofs.Common.{◌≡◌, ℕ, suc, ◌+◌, ◌≤◌, ◌<◌, ◌^◌, List, [], ◌++◌, length, Some, refl, arith}
use Rattle.std.specs.Prelude.{Bool, true, false, slice_get}
use Rattle.gg_base.specs.Runs.{Runs}
use Rattle.tree_core.specs.declared.program.Object.{Object}
use Rattle.tree_core.specs.declared.program.TreeItem.{TreeItem}
use Rattle.tree_core.specs.declared.program.TreeFn.{TreeFn}
use Rattle.tree_core.specs.declared.program.TreeProgram.{TreeProgram}
use Rattle.tree_meaning.specs.State.{Activation}
use Rattle.c_types.specs.declared.typed.Callee.{Callee}
use Rattle.c_types.specs.declared.typed.Variable.{Variable}
use Rattle.c_types.specs.declared.typed.Variable.TheVariants as variables
use Rattle.c_types.specs.Constants.{constant_of}
use Rattle.c_program.specs.Statements.{AnAction, SomeActions, NoActions, MoreActions, DeclareOf, BlockOf, EvaluateOf, BreakOf, ContinueOf, ReturnOf, IfOf, IfElseOf, WhileOf, DoOf, ForOf}
use Rattle.c_program.specs.Programs.{ARoutine, AProgram}
use Rattle.c_meaning.specs.declared.flow.Flow.TheVariants.{Onward}
use Rattle.c_meaning.specs.State.{State}
use Rattle.c_meaning.specs.Blocks.{pointer_number}
use Rattle.c_meaning.specs.Values.{Behind, for_loop, Task, Next}
use Rattle.c_meaning.specs.Meaning.{look_by, followed, stmt, stmts, task}
use Rattle.c_sound.specs.Fits.{behind_act, FitsAct, FitsActs}
use Rattle.c_sound.specs.Stands.{StandsAct, StandsActs}
use Rattle.c_lower_scheme.specs.Trees.{Item}
use Rattle.c_lower_scheme.specs.Parts.{Emitted, Destination}
use Rattle.c_lower_scheme.specs.Zeros.{is_overwritten}
use Rattle.c_lower_scheme.specs.Statements.{unless, effect, for_of, lower, lower_row, going}
use Rattle.c_lower_counts.specs.Zeros.{act_zeros, row_zeros}
use Rattle.c_lower_counts.proofs.Leads.{Leads, Depth, Under, with_spare, leads_more}
use Rattle.c_lower_follows.proofs.Steps.{Desk, Resolves, resolves_back, resolves_split}
use Rattle.c_lower_counts.proofs.Steps.{at, jump_counts, from_before}
use Rattle.c_lower_follows.proofs.Agreeing.{Agree, extent_of}
use Rattle.c_lower_follows.proofs.Calling.{CodeOf}
use Rattle.c_lower_counts.proofs.Calling.{Calls}
use Rattle.c_lower_follows.proofs.Scopes.{behind_more, behind_within, agree_less}
use Rattle.c_lower_follows.proofs.Waiting.{sets_or_not, Partly, wholly, none_waits, past_declare, into_block}
use Rattle.c_lower_counts.proofs.Landing.{Lands, DoesStmt, joined_at, lands_more}
use Rattle.c_lower_counts.proofs.Statements.{declare_does, evaluate_by, first_part_does, return_does, if_by_does, if_else_does}
use Rattle.c_lower_counts.proofs.Loops.{do_does, while_by_does, for_does}

module _ (program : TreeProgram) (code : List TreeItem) (callers : List Activation) (size count first : ℕ) (level : Depth) (out : Destination) (own : size ≤ first) where
  abbrev fair : (ℕ → Type 0) → State → Desk → Type 0
  fair scope st d = Agree (extent_of program) size first scope (length callers) st d

  abbrev from : List Item → Desk → Runs
  from is d = at program code callers is d

  abbrev LandsAt : (k : Depth) (lb lc : ℕ) (inside : Bool) (outer scope : ℕ → Type 0) (is : List Item) (κ : Behind) → Type 0
  LandsAt k lb lc inside outer scope is κ = Lands program code callers size count first level out own k lb lc inside outer scope is κ

  abbrev Does : (z : ℕ) (q : Emitted) (lb lc : ℕ) (inside : Bool) (outer scope after : ℕ → Type 0) (m : Behind → State → Runs) → Type 0
  Does z q lb lc inside outer scope after m = DoesStmt program code callers size count first level out own z q lb lc inside outer scope after m

  joined : (k : Depth) (a b is : List Item) (d : Desk) (r : Runs) → Leads k r (from (a ++ (b ++ is)) d) → Leads k r (from ((a ++ b) ++ is) d)
  joined k a b is d r h = joined_at program code callers size count first level out own k a b is d r h

  spared : (k : Depth) (s z : ℕ) → s + z ≤ k.spare → (lb lc : ℕ) (inside : Bool) (outer scope : ℕ → Type 0) (is : List Item) (κ : Behind)
      → LandsAt (with_spare k s) lb lc inside outer scope is κ → LandsAt k lb lc inside outer scope is κ
  spared k s z room lb lc inside outer scope is κ h = lands_more program code callers size count first level out own k s z room lb lc inside outer scope is κ h

  module _ (p : AProgram) (next : Next) (counts_all : length program.functions ≡ count)
      (lowers : (f : ℕ) (g : ARoutine) → slice_get p.routines f ≡ Some g → (tf : TreeFn) × (slice_get program.functions f ≡ Some tf) × CodeOf (pointer_number p.objects) count g tf.items)
      (calls : Calls program count p next level) (objects_are : program.objects ≡ p.objects) (addresses : (n : ℕ) (o : Object) → slice_get p.objects n ≡ Some o → o.address < 2 ^ 32)
      (next_is : (t : Task) (κ : Behind) (st : State) → next t κ st ≡ task p next t κ st) (there : Variable → Type 0) (takes : Callee → ℕ → Type 0) (literals : ℕ)
      (lies : (o : ℕ) → there (variables.InBlock o) → (size < first) × (o < 262144)) where
    abbrev StdAct : AnAction → Type 0
    StdAct a = StandsAct there takes literals a

    abbrev StdActs : SomeActions → Type 0
    StdActs row = StandsActs there takes literals row

    -- What a statement does before others, where some locals wait. It hands on those that wait behind it.
    abbrev DoesFirst : (a : AnAction) (rest : SomeActions) (scope live outer : ℕ → Type 0) (inside : Bool) (lb lc l : ℕ) → Type 1
    DoesFirst a rest scope live outer inside lb lc l =
        (k : Depth) (spare : ℕ) → spare + act_zeros a ≤ k.spare → Under k level → (is : List Item) (κ : Behind) → Resolves code ((lower size count first out a rest lb lc l).items ++ is)
        → LandsAt (with_spare k spare) lb lc inside outer (behind_act scope a) is κ
        → ((live' : ℕ → Type 0) → Partly live' (behind_act scope a) [] rest → (st' : State) (d' : Desk) → fair live' st' d' → Leads (with_spare k spare) (κ Onward st') (from is d'))
        → (st : State) (d : Desk) → fair live st d → Leads k (stmt p next a κ st) (from ((lower size count first out a rest lb lc l).items ++ is) d)

    -- a statement before no other, and one before which no local waits
    alone : (a : AnAction) (scope outer : ℕ → Type 0) (inside : Bool) (lb lc l : ℕ) → DoesFirst a NoActions scope scope outer inside lb lc l
        → Does (act_zeros a) (lower size count first out a NoActions lb lc l) lb lc inside outer scope (behind_act scope a) (stmt p next a)
    alone a scope outer inside lb lc l does k spare room le is κ res h st d ag = does k spare room le is κ res h
        (λ live' part st' d' ag'. h.onward st' d'
        (agree_less (extent_of program) size first (length callers) (behind_act scope a) live' st' d' (none_waits live' (behind_act scope a) [] NoActions (λ k x. refl) part) ag')) st d ag

    settled : (a : AnAction) (rest : SomeActions) (scope live outer : ℕ → Type 0) (inside : Bool) (lb lc l : ℕ)
        → ((k x : ℕ) → is_overwritten (suc k) x [] (MoreActions a rest) ≡ false) → Partly live scope [] (MoreActions a rest)
        → Does (act_zeros a) (lower size count first out a rest lb lc l) lb lc inside outer scope (behind_act scope a) (stmt p next a) → DoesFirst a rest scope live outer inside lb lc l
    settled a rest scope live outer inside lb lc l none part does k spare room le is κ res h go_on st d ag =
        does k spare room le is κ res h st d (agree_less (extent_of program) size first (length callers) scope live st d (none_waits live scope [] (MoreActions a rest) none part) ag)

    mutual
      act_does : (a : AnAction) (rest : SomeActions) (scope live outer : ℕ → Type 0) → ((x : ℕ) → scope x → x < size) → ((x : ℕ) → outer x → scope x) → (inside : Bool)
          → FitsAct size scope inside a → StdAct a → act_zeros a ≤ level.each → Partly live scope [] (MoreActions a rest) → (lb lc l : ℕ) → DoesFirst a rest scope live outer inside lb lc l
      act_does (DeclareOf ds) rest scope live outer within sub inside fit std few part lb lc l = λ k spare room le is κ res lands h st d ag.
          declare_does program code callers size count first level out own p next counts_all lowers calls objects_are addresses next_is there takes literals lies ds rest scope live within fit std
          (past_declare live scope rest ds part) l k spare room le is κ res st d ag h
      act_does (BlockOf row) rest scope live outer within sub inside fit std few part lb lc l = λ k spare room le is κ res lands h st d ag.
          rows_by row scope live outer scope within sub (λ x h. h) inside fit std few (into_block live scope rest row part) lb lc l k spare room le is κ res lands st d ag
      act_does (EvaluateOf e) rest scope live outer within sub inside fit std few part lb lc l = λ k spare room le is κ res lands h st d ag.
          evaluate_by program code callers size count first level out own p next counts_all lowers calls objects_are addresses next_is there takes literals lies e
          (sets_or_not e) rest scope live within fit std part l k le is (κ Onward) res st d ag
          (λ live' part' st' d' ag'. leads_more k spare _ _ (omega (arith, room)) (h live' part' st' d' ag'))
      act_does BreakOf rest scope live outer within sub inside fit std few part lb lc l = settled BreakOf rest scope live outer inside lb lc l (λ k x. refl) part
          (λ k spare room le is κ res h st d ag. jump_counts program code callers k lb is _ d (leads_more k spare _ _ (omega (arith, room))
          (h.broke fit st d (agree_less (extent_of program) size first (length callers) outer scope st d sub ag))))
      act_does ContinueOf rest scope live outer within sub inside fit std few part lb lc l = settled ContinueOf rest scope live outer inside lb lc l (λ k x. refl) part
          (λ k spare room le is κ res h st d ag. jump_counts program code callers k lc is _ d (leads_more k spare _ _ (omega (arith, room))
          (h.continued fit st d (agree_less (extent_of program) size first (length callers) outer scope st d sub ag))))
      act_does (ReturnOf e) rest scope live outer within sub inside fit std few part lb lc l = settled (ReturnOf e) rest scope live outer inside lb lc l (λ k x. refl) part
          (return_does program code callers size count first level out own p next counts_all lowers calls objects_are addresses next_is there takes literals lies e scope outer within fit
          std inside lb lc l)
      act_does (IfOf c a) rest scope live outer within sub inside fit std few part lb lc l =
          settled (IfOf c a) rest scope live outer inside lb lc l (λ k x. refl) part
          (if_by_does program code callers size count first level out own p next counts_all lowers calls objects_are addresses next_is there takes literals lies
          (going a lb lc) c a l lb lc scope outer within sub fit.0 std.0 inside fit.1 std.1 refl
          (λ m. alone a scope outer inside lb lc m (act_does a NoActions scope scope outer within sub inside fit.1 std.1 few (wholly scope [] (MoreActions a NoActions)) lb lc m)))
      act_does (IfElseOf c a b) rest scope live outer within sub inside fit std few part lb lc l =
          let q = unless size count first out c l (suc (suc l)) in
          let x = lower size count first out a NoActions lb lc q.labels in
          settled (IfElseOf c a b) rest scope live outer inside lb lc l (λ k x. refl) part
          (if_else_does program code callers size count first level out own p next counts_all lowers calls objects_are addresses next_is there takes literals lies (act_zeros a) (act_zeros b) c l x
          (lower size count first out b NoActions lb lc x.labels) scope outer (behind_act scope a) (behind_act scope b) (stmt p next a) (stmt p next b) within fit.0 std.0
          (behind_more scope a) (behind_more scope b) inside lb lc
          (alone a scope outer inside lb lc q.labels
          (act_does a NoActions scope scope outer within sub inside fit.1 std.1 (omega (arith, few)) (wholly scope [] (MoreActions a NoActions)) lb lc q.labels))
          (alone b scope outer inside lb lc x.labels
          (act_does b NoActions scope scope outer within sub inside fit.2 std.2 (omega (arith, few)) (wholly scope [] (MoreActions b NoActions)) lb lc x.labels)))
      act_does (WhileOf c a) rest scope live outer within sub inside fit std few part lb lc l =
          settled (WhileOf c a) rest scope live outer inside lb lc l (λ k x. refl) part
          (while_by_does program code callers size count first level out own p next counts_all lowers calls objects_are addresses next_is there takes literals lies (constant_of c) c a l refl scope
          (behind_act scope a) outer within fit.0 std.0 (behind_more scope a)
          (λ x y m. (
            few,
            alone a scope scope true x y m
                (act_does a NoActions scope scope scope within (λ x h. h) true fit.1 std.1 few (wholly scope [] (MoreActions a NoActions)) x y m),
          )) inside lb lc)
      act_does (DoOf a c) rest scope live outer within sub inside fit std few part lb lc l =
          settled (DoOf a c) rest scope live outer inside lb lc l (λ k x. refl) part
          (do_does program code callers size count first level out own p next counts_all lowers calls objects_are addresses next_is there takes literals lies c a l
          (lower size count first out a NoActions (suc (suc l)) (suc l) (suc (suc (suc l)))) scope (behind_act scope a) outer within fit.1 std.1 (behind_more scope a) (
            few,
            alone a scope scope true (suc (suc l)) (suc l) (suc (suc (suc l)))
                (act_does a NoActions scope scope scope within (λ x h. h) true fit.0 std.0 few (wholly scope [] (MoreActions a NoActions)) (suc (suc l)) (suc l) (suc (suc (suc l)))),
          ) inside lb lc)
      act_does (ForOf i c e a) rest scope live outer within sub inside fit std few part lb lc l = λ k spare room le is κ res lands h st d ag.
          let x = effect size count first out i l in
          let y = for_of size count first out x.labels c e (lower size count first out a NoActions (suc (suc x.labels)) (suc x.labels)) in
          let res' = resolves_split code x.items y.items is res in
          joined k x.items y.items is d _
          (first_part_does program code callers size count first level out own p next counts_all lowers calls objects_are addresses next_is there takes literals lies i c e a rest scope live
          within fit.0 std.0 part l k le (y.items ++ is) (look_by p next (for_loop c e a) (stmt p next a) κ) res' st d ag
          (λ st1 d1 ag1. for_does program code callers size count first level out own p next counts_all lowers calls objects_are addresses next_is there takes literals lies c e a x.labels scope
          (behind_act scope a) outer within fit.1 std.1 fit.2 std.2 (behind_more scope a)
          (λ m. (
            few,
            alone a scope scope true (suc (suc x.labels)) (suc x.labels) m
                (act_does a NoActions scope scope scope within (λ x h. h) true fit.3 std.3 few (wholly scope [] (MoreActions a NoActions)) (suc (suc x.labels)) (suc x.labels) m),
          ))
          inside lb lc k spare room le is κ (resolves_back code x.items (y.items ++ is) res') lands st1 d1 ag1))

      rows_by : (row : SomeActions) (scope live outer base : ℕ → Type 0) → ((x : ℕ) → scope x → x < size) → ((x : ℕ) → outer x → scope x) → ((x : ℕ) → base x → scope x)
          → (inside : Bool) → FitsActs size scope inside row → StdActs row → row_zeros row ≤ level.each → Partly live scope [] row → (lb lc l : ℕ)
          → Does (row_zeros row) (lower_row size count first out row lb lc l) lb lc inside outer live base (stmts p next row)
      rows_by NoActions scope live outer base within sub sub' inside fit std few part lb lc l k spare room le is κ res h st d ag =
          leads_more k spare _ _ (omega (arith, room))
          (h.onward st d (agree_less (extent_of program) size first (length callers) base live st d (λ x b. none_waits live scope [] NoActions (λ k x. refl) part x (sub' x b)) ag))
      rows_by (MoreActions a row) scope live outer base within sub sub' inside fit std few part lb lc l k spare room le is κ res h st d ag =
          let j : Depth = with_spare k (spare + row_zeros row) in
          let up = spared j spare (row_zeros row) (omega arith) lb lc inside outer base is κ h in
          let x = lower size count first out a row lb lc l in
          let y = lower_row size count first out row lb lc x.labels in
          let res' = resolves_split code x.items y.items is res in
          let go_on : (live' : ℕ → Type 0) → Partly live' (behind_act scope a) [] row → (st1 : State) (d1 : Desk) → fair live' st1 d1
          → Leads j (stmts p next row κ st1) (from (y.items ++ is) d1) =
          λ live' part' st1 d1 ag1. rows_by row (behind_act scope a) live' outer base (behind_within size scope inside a fit.0 within) (λ z o. behind_more scope a z (sub z o))
          (λ z o. behind_more scope a z (sub' z o)) inside fit.1 std.1 (omega (arith, few)) part' lb lc x.labels j spare (omega arith) le is κ
          (resolves_back code x.items (y.items ++ is) res') h st1 d1 ag1 in
          joined k x.items y.items is d _
          (act_does a row scope live outer within sub inside fit.0 std.0 (omega (arith, few)) part lb lc l k (spare + row_zeros row) (omega (arith, room)) le (y.items ++ is)
          (followed p next κ (stmts p next row κ)) res'
          (record {
            onward = go_on (behind_act scope a) (wholly (behind_act scope a) [] row);
            broke = λ e st1 d1 ag1. from_before program code callers j lb y.items is d1 _ (up.broke e st1 d1 ag1);
            continued = λ e st1 d1 ag1. from_before program code callers j lc y.items is d1 _ (up.continued e st1 d1 ag1);
            left = up.left;
          }) go_on st d ag)

    pub rows_do : (row : SomeActions) (scope outer base : ℕ → Type 0) → ((x : ℕ) → scope x → x < size) → ((x : ℕ) → outer x → scope x) → ((x : ℕ) → base x → scope x)
        → (inside : Bool) → FitsActs size scope inside row → StdActs row → row_zeros row ≤ level.each → (lb lc l : ℕ)
        → Does (row_zeros row) (lower_row size count first out row lb lc l) lb lc inside outer scope base (stmts p next row)
    rows_do row scope outer base within sub sub' inside fit std few lb lc l = rows_by row scope scope outer base within sub sub' inside fit std few (wholly scope [] row) lb lc l
