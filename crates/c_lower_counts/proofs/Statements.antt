-- What declarations, returns and conditions are lowered to does what they mean.
use Rattle.std.proofs.Common.{◌≡◌, ℕ, suc, ◌+◌, ◌*◌, ◌≤◌, ◌<◌, ◌^◌, List, [], ◌∷◌, ◌++◌, length, Option, Some, None, refl, arith, sym, subst, ◌⊎◌, inl, inr, ⊎_elim}
use Rattle.std.specs.Prelude.{Bool, true, false, slice_get, slice_set, nat_lt, ◌-◌}
use Rattle.gg_base.specs.Runs.{Runs}
use Rattle.tree_core.specs.declared.program.Object.{Object}
use Rattle.tree_core.specs.declared.program.TreeItem.{TreeItem}
use Rattle.tree_core.specs.declared.program.TreeFn.{TreeFn}
use Rattle.tree_core.specs.declared.program.TreeProgram.{TreeProgram}
use Rattle.tree_meaning.specs.State.{Activation, with_local, behind}
use Rattle.c_types.specs.declared.types.CType.{CType}
use Rattle.c_types.specs.declared.typed.Callee.{Callee}
use Rattle.c_types.specs.declared.typed.Variable.{Variable}
use Rattle.c_types.specs.declared.typed.Variable.TheVariants as variables
use Rattle.c_types.specs.Types.{size_of}
use Rattle.c_types.specs.Typed.{VariableAt, AnExpression, AssignTo}
use Rattle.c_program.specs.Statements.{ADeclaration, KeepOf, ClearOf, BeginOf, StoreOf, ZerosOf, AnAction, SomeActions, NoActions, MoreActions, DeclareOf, BlockOf, EvaluateOf, BreakOf}
use Rattle.c_program.specs.Statements.{ContinueOf, ReturnOf, IfOf, IfElseOf, WhileOf, DoOf, ForOf}
use Rattle.c_program.specs.Programs.{ARoutine, AProgram}
use Rattle.c_meaning.specs.declared.flow.Flow.TheVariants.{Onward, Broke, Continued, Returned}
use Rattle.c_meaning.specs.declared.store.Spot.TheVariants.{Local}
use Rattle.c_meaning.specs.State.{State, with_locals, put_local}
use Rattle.c_meaning.specs.Blocks.{pointer_number, block_set}
use Rattle.c_meaning.specs.Values.{Behind, Task, Next, chosen, written, store_at}
use Rattle.c_meaning.specs.Meaning.{expr, dropped, local_set, declared, followed, stmt, stmts, task, returned as returned_source}
use Rattle.c_sound.specs.Fits.{Fits, FitsMaybe, more, declaring, behind_act, FitsDeclared, FitsAct, FitsActs}
use Rattle.c_sound.specs.Stands.{Stands, StandsMaybe, StandsDeclared, StandsAct, StandsActs}
use Rattle.c_lower_scheme.specs.Trees.{Num, Item, Label, AssignLoc, AssignMem, Jump}
use Rattle.c_lower_scheme.specs.Spelling.{spelled_all}
use Rattle.c_lower_scheme.specs.Parts.{InLoc, Emitted, Destination, InLocal, due, delivered}
use Rattle.c_lower_scheme.specs.Places.{fitted, found, in_block, integer_of, local_in}
use Rattle.c_lower_scheme.specs.Assignments.{assign_drop}
use Rattle.c_lower_scheme.specs.Expressions.{way}
use Rattle.c_lower_scheme.specs.Mentions.{mentions}
use Rattle.c_lower_scheme.specs.Zeros.{sets, is_zeroed}
use Rattle.c_lower_scheme.specs.Flow.{clearing, begin_of, zeros_in_block, if_done, if_else_done}
use Rattle.c_lower_scheme.specs.Statements.{unless, when, effect, returning, declare, lower, going, going_alone, if_by}
use Rattle.c_lower_scheme.proofs.Places.{local_is}
use Rattle.c_lower_counts.specs.Zeros.{declared_zeros, act_zeros}
use Rattle.c_lower_counts.proofs.Leads.{Leads, one_tree, leads_quiet, Depth, Under, with_spare, leads_more}
use Rattle.c_lower_counts.proofs.Ahead.{ahead_here, ahead_later, ahead_behind, ahead_joined}
use Rattle.c_lower_follows.proofs.Steps.{Desk, Resolves, resolves_back, resolves_split}
use Rattle.c_lower_counts.proofs.Steps.{at, moves, jump_step, label_step, to_label, goes_on, from_before}
use Rattle.c_lower_follows.proofs.Agreeing.{Agree, extent_of}
use Rattle.c_lower_counts.proofs.Doing.{DoesWay, Does as DoesValue, due_does, delivered_does}
use Rattle.c_lower_follows.proofs.Placing.{whole_value}
use Rattle.c_lower_counts.proofs.Placing.{fitted_maps}
use Rattle.c_lower_counts.proofs.Filling.{stored_does, zeros_does}
use Rattle.c_lower_follows.proofs.Calling.{CodeOf}
use Rattle.c_lower_counts.proofs.Calling.{Calls}
use Rattle.c_lower_counts.proofs.Expressions.{way_does}
use Rattle.c_lower_follows.proofs.Scopes.{without, fits_without, behind_more, more_within, agree_less}
use Rattle.c_lower_follows.proofs.Waiting.{Sets, SetsLocal, sets_or_not, Partly, past_keep, past_clear, past_left, past_begin, begin_fits, past_store, store_fits, past_zeros, past_other}
use Rattle.c_lower_follows.proofs.Waiting.{other_fits, past_set, set_fits, for_live, for_set, for_fits}
use Rattle.c_lower_counts.proofs.Locals.{local_step, cleared_by, set_local}
use Rattle.c_lower_counts.proofs.Landing.{Lands, DoesStmt, arrive, joined_at, lands_more}

module _ (program : TreeProgram) (code : List TreeItem) (callers : List Activation) (size count first : ℕ) (level : Depth) (out : Destination) (own : size ≤ first) where
  abbrev fair : (ℕ → Type 0) → State → Desk → Type 0
  fair scope st d = Agree (extent_of program) size first scope (length callers) st d

  abbrev from : List Item → Desk → Runs
  from is d = at program code callers is d

  abbrev LandsAt : (k : Depth) (lb lc : ℕ) (inside : Bool) (outer scope : ℕ → Type 0) (is : List Item) (κ : Behind) → Type 0
  LandsAt k lb lc inside outer scope is κ = Lands program code callers size count first level out own k lb lc inside outer scope is κ

  abbrev Does : (z : ℕ) (q : Emitted) (lb lc : ℕ) (inside : Bool) (outer scope after : ℕ → Type 0) (m : Behind → State → Runs) → Type 0
  Does z q lb lc inside outer scope after m = DoesStmt program code callers size count first level out own z q lb lc inside outer scope after m

  joined : (k : Depth) (a b is : List Item) (d : Desk) (r : Runs) → Leads k r (from (a ++ (b ++ is)) d) → Leads k r (from ((a ++ b) ++ is) d)
  joined k a b is d r h = joined_at program code callers size count first level out own k a b is d r h

  spared : (k : Depth) (s z : ℕ) → s + z ≤ k.spare → (lb lc : ℕ) (inside : Bool) (outer scope : ℕ → Type 0) (is : List Item) (κ : Behind)
      → LandsAt (with_spare k s) lb lc inside outer scope is κ → LandsAt k lb lc inside outer scope is κ
  spared k s z room lb lc inside outer scope is κ h = lands_more program code callers size count first level out own k s z room lb lc inside outer scope is κ h

  module _ (p : AProgram) (next : Next) (counts_all : length program.functions ≡ count)
      (lowers : (f : ℕ) (g : ARoutine) → slice_get p.routines f ≡ Some g → (tf : TreeFn) × (slice_get program.functions f ≡ Some tf) × CodeOf (pointer_number p.objects) count g tf.items)
      (calls : Calls program count p next level) (objects_are : program.objects ≡ p.objects) (addresses : (n : ℕ) (o : Object) → slice_get p.objects n ≡ Some o → o.address < 2 ^ 32)
      (next_is : (t : Task) (κ : Behind) (st : State) → next t κ st ≡ task p next t κ st) (there : Variable → Type 0) (takes : Callee → ℕ → Type 0) (literals : ℕ)
      (lies : (o : ℕ) → there (variables.InBlock o) → (size < first) × (o < 262144)) where
    -- what a phrase names is there
    abbrev Std : AnExpression → Type 0
    Std e = Stands there takes literals e

    abbrev StdMaybe : Option AnExpression → Type 0
    StdMaybe e = StandsMaybe there takes literals e

    abbrev StdDeclared : List ADeclaration → Type 0
    StdDeclared ds = StandsDeclared there takes literals ds

    abbrev StdAct : AnAction → Type 0
    StdAct a = StandsAct there takes literals a

    abbrev StdActs : SomeActions → Type 0
    StdActs row = StandsActs there takes literals row

    expression : (scope : ℕ → Type 0) → ((x : ℕ) → scope x → x < size) → (e : AnExpression) → Fits scope e → Std e
        → DoesWay program code callers size count first scope level (way size count e) (expr p next e)
    expression scope within e fit std = way_does program code callers size count first scope level within own p next counts_all lowers calls objects_are addresses there takes literals lies e fit std

    pub effect_does : (scope : ℕ → Type 0) → ((x : ℕ) → scope x → x < size) → (e : Option AnExpression) → FitsMaybe scope e → StdMaybe e → (l : ℕ) (k : Depth) → Under k level
        → (is : List Item) (κ : State → Runs)
        → Resolves code ((effect size count first out e l).items ++ is) → (st : State) (d : Desk) → fair scope st d → ((st' : State) (d' : Desk) → fair scope st' d' → Leads k (κ st') (from is d'))
        → Leads k (dropped p next e κ st) (from ((effect size count first out e l).items ++ is) d)
    effect_does scope within None fit std l k le is κ res st d ag h = h st d ag
    effect_does scope within (Some e) fit std l k le is κ res st d ag h = ((expression scope within e fit std).drop first l (omega arith)).runs k le is κ res st d ag (λ st' d' ag' s. h st' d' ag')

    -- declarations
    begin_does : (b : Bool) (n : ℕ) (e : AnExpression) (scope : ℕ → Type 0) → ((x : ℕ) → scope x → x < size) → n < size → mentions n e ≡ b → Fits (more scope n) e → Std e → (l : ℕ) (k : Depth)
        → Under k level
        → (is : List Item) (κ : State → Runs) → Resolves code ((begin_of b n ((way size count e).deliver (InLocal n) first l)).items ++ is) → (st : State) (d : Desk) → fair scope st d
        → ((st' : State) (d' : Desk) → fair (more scope n) st' d' → Leads k (κ st') (from is d'))
        → Leads k (local_set p next n 0 (expr p next e (λ v. local_set p next n v κ)) st) (from ((begin_of b n ((way size count e).deliver (InLocal n) first l)).items ++ is) d)
    begin_does true n e scope within lt mentioned fit std l k le is κ res st d ag h =
        let q = (way size count e).deliver (InLocal n) first l in
        let does = (expression (more scope n) (more_within size scope n lt within) e fit std).deliver (InLocal n) first l (omega arith) in
        set_local program code callers size first own n k (Num 0) scope (more scope n) (q.items ++ is) (expr p next e (λ v. local_set p next n v κ)) st d (omega arith) (λ x sc ne. ⊎_elim (λ s. s)
        (λ eq. absurd (ne eq)) sc) ag
        (λ st1 d1 ag1. does.runs k le is (λ v. local_set p next n v κ) res.1 st1 d1 ag1
        (λ v st2 d2 small ag2 kept. local_step program code callers size first own n v k (more scope n) (more scope n) is κ st2 d2 small (λ x sc ne. sc) ag2 (λ ag3. h _ _ ag3)))
    begin_does false n e scope within lt mentioned fit std l k le is κ res st d ag h =
        let q = (way size count e).deliver (InLocal n) first l in
        let does = (expression (without scope n) (λ x sc. within x sc.0) e (fits_without scope n e mentioned fit) std).deliver (InLocal n) first l (omega arith) in
        cleared_by program code callers size first own n k scope (q.items ++ is) (expr p next e (λ v. local_set p next n v κ)) st d (nat_lt n (length st.call.locals)) refl ag
        (λ ag1. does.runs k le is (λ v. local_set p next n v κ) res (with_locals st (slice_set st.call.locals n 0)) d ag1
        (λ v st2 d2 small ag2 kept. local_step program code callers size first own n v k (without scope n) (more scope n) is κ st2 d2 small (λ x sc ne. ⊎_elim (λ s. (s, ne))
        (λ eq. absurd (ne eq)) sc) ag2 (λ ag3. h _ _ ag3)))

    clear_does : (b : Bool) (n : ℕ) (live : ℕ → Type 0) (k : Depth) (is : List Item) (κ : State → Runs) (st : State) (d : Desk) → fair live st d
        → (b ≡ true → (st' : State) (d' : Desk) → fair (more live n) st' d' → Leads k (κ st') (from is d'))
        → (b ≡ false → (st' : State) (d' : Desk) → fair (without live n) st' d' → Leads k (κ st') (from is d'))
        → Leads k (local_set p next n 0 κ st) (from (clearing b n ++ is) d)
    clear_does true n live k is κ st d ag h g =
        set_local program code callers size first own n k (Num 0) live (more live n) is κ st d (omega arith) (λ x sc ne. ⊎_elim (λ s. s) (λ eq. absurd (ne eq)) sc) ag (h refl)
    clear_does false n live k is κ st d ag h g = cleared_by program code callers size first own n k live is κ st d (nat_lt n (length st.call.locals)) refl ag (λ ag1. g refl _ _ ag1)

    pub declare_does : (ds : List ADeclaration) (rest : SomeActions) (scope live : ℕ → Type 0) → ((x : ℕ) → scope x → x < size) → FitsDeclared size scope ds → StdDeclared ds
        → Partly live scope ds rest → (l : ℕ) (k : Depth) (s : ℕ) → s + declared_zeros ds ≤ k.spare → Under k level → (is : List Item) (κ : Behind)
        → Resolves code ((declare size count first out ds rest l).items ++ is)
        → (st : State) (d : Desk) → fair live st d
        → ((live' : ℕ → Type 0) → Partly live' (declaring scope ds) [] rest → (st' : State) (d' : Desk) → fair live' st' d' → Leads (with_spare k s) (κ Onward st') (from is d'))
        → Leads k (declared p next ds κ st) (from ((declare size count first out ds rest l).items ++ is) d)
    declare_does [] rest scope live within fit std part l k s room le is κ res st d ag h = leads_more k s _ _ (omega (arith, room)) (h live part st d ag)
    declare_does (KeepOf object ∷ ds) rest scope live within fit std part l k s room le is κ res st d ag h =
        declare_does ds rest scope live within fit std (past_keep live scope rest object ds part) l k s room le is κ res st d ag h
    declare_does (ClearOf n ∷ ds) rest scope live within fit std part l k s room le is κ res st d ag h =
        let b = is_zeroed n ds rest in
        let js = (declare size count first out ds rest l).items in
        let wider = more_within size scope n fit.0 within in
        let res' = resolves_split code (clearing b n) js is res in
        let behind_it = resolves_back code (clearing b n) (js ++ is) res' in
        joined k (clearing b n) js is d _ (clear_does b n live k (js ++ is) (declared p next ds κ) st d ag
        (λ e st1 d1 ag1. declare_does ds rest (more scope n) (more live n) wider fit.1 std (past_clear live scope rest n ds part) l k s room le is κ behind_it st1 d1 ag1 h)
        (λ e st1 d1 ag1. declare_does ds rest (more scope n) (without live n) wider fit.1 std (past_left live scope rest n ds e part) l k s room le is κ behind_it st1 d1 ag1 h))
    declare_does (BeginOf n e ∷ ds) rest scope live within fit std part l k s room le is κ res st d ag h =
        let a = begin_of (mentions n e) n ((way size count e).deliver (InLocal n) first l) in
        let others = declare size count first out ds rest a.labels in
        let res' = resolves_split code a.items others.items is res in
        let behind_it = resolves_back code a.items (others.items ++ is) res' in
        joined k a.items others.items is d _
        (begin_does (mentions n e) n e live (λ x x_live. within x (part.inside x x_live)) fit.0 refl (begin_fits live scope rest n e ds part fit.1) std.0 l k le
        (others.items ++ is) (declared p next ds κ) res' st d ag
        (λ st1 d1 ag1. declare_does ds rest (more scope n) (more live n) (more_within size scope n fit.0 within) fit.2 std.1 (past_begin live scope rest n e ds part) a.labels k s room le is κ
        behind_it st1 d1 ag1 h))
    declare_does (StoreOf t o e ∷ ds) rest scope live within fit std part l k s room le is κ res st d ag h =
        let q = (way size count e).low first l in
        let inside = lies o std.0 in
        let i = AssignMem (integer_of t) (in_block size o) q.tree in
        let others = declare size count first out ds rest q.labels in
        let live_within : (x : ℕ) → live x → x < size = λ x x_live. within x (part.inside x x_live) in
        let does = (expression live live_within e (store_fits live scope rest t o e ds part fit.1) std.1).low first l (omega arith) in
        let res' = resolves_split code (q.items ++ (i ∷ [])) others.items is res in
        let res1 = resolves_split code q.items (i ∷ []) (others.items ++ is) res' in
        let behind_it = (resolves_back code q.items (i ∷ (others.items ++ is)) res1).1 in
        joined k (q.items ++ (i ∷ [])) others.items is d _ (joined k q.items (i ∷ []) (others.items ++ is) d _
        (does.runs k le (i ∷ (others.items ++ is)) (λ v. block_set t o v (declared p next ds κ)) res1 st d ag
        (λ st1 d1 ag1 s1. stored_does program code callers size count first live level live_within own t o q.tree k (others.items ++ is) (declared p next ds κ) st1 d1 inside.0 (omega
        (arith, inside.1)) does.small ag1
        (λ st2 d2 ag2. declare_does ds rest scope live within fit.2 std.2 (past_store live scope rest t o e ds part) q.labels k s room le is κ behind_it st2 d2 ag2 h))))
    declare_does (ZerosOf t o n ∷ ds) rest scope live within fit std part l k s room le is κ res st d ag h =
        let q = zeros_in_block size first t o n l in
        let inside = lies o std.0 in
        let last = lies (o + n * size_of t - 1) std.1 in
        let others = declare size count first out ds rest q.labels in
        let live_within : (x : ℕ) → live x → x < size = λ x x_live. within x (part.inside x x_live) in
        let res' = resolves_split code q.items others.items is res in
        let behind_it = resolves_back code q.items (others.items ++ is) res' in
        joined k q.items others.items is d _
        (zeros_does program code callers size count first live level live_within own t o n l k (s + declared_zeros ds) (omega (arith, room)) (others.items ++ is)
        (declared p next ds κ) st d inside.0 fit.0 fit.1 (omega (arith, last.1)) res' ag
        (λ st1 d1 ag1. declare_does ds rest scope live within fit.2 std.2 (past_zeros live scope rest t o n ds part) q.labels (with_spare k (s + declared_zeros ds)) s
        (omega arith) le is κ behind_it st1 d1 ag1 h))

    -- an assignment to a local on which the states need not agree before
    assigned_by : (o : Option ℕ) (t : CType) (m : ℕ) (e : AnExpression) (live : ℕ → Type 0) → ((x : ℕ) → live x → x < size) → Fits live e → Std e → local_in (integer_of t) (InLoc m) ≡ o
        → (l : ℕ) (k : Depth) → Under k level → (is : List Item) (κ : State → Runs)
        → Resolves code ((assign_drop size count o (found t (InLoc m) first l) (way size count e)).items ++ is) → (st : State) (d : Desk) → fair live st d
        → ((st' : State) (d' : Desk) → fair (more live m) st' d' → Leads k (κ st') (from is d'))
        → Leads k (expr p next e (λ v. store_at t (Local m) v (λ v. κ)) st) (from ((assign_drop size count o (found t (InLoc m) first l) (way size count e)).items ++ is) d)
    assigned_by None t m e live within fit std at l k le is κ res st d ag h =
        let q = (way size count e).low first l in
        let w = fitted t q.tree in
        let i = AssignLoc m w in
        let does = (expression live within e fit std).low first l (omega arith) in
        let maps = fitted_maps program code callers size count first live level within own t in
        joined k q.items (i ∷ []) is d _ (does.runs k le (i ∷ is) (λ v. store_at t (Local m) v (λ v. κ)) (resolves_split code q.items (i ∷ []) is res) st d ag
        (λ st1 d1 ag1 s1. subst (λ r. Leads k r (from (i ∷ is) d1)) (maps.maps q.tree d1 (λ u. written (put_local m u st1) u (λ v. κ)))
        (set_local program code callers size first own m k w live (more live m) is κ st1 d1 (maps.small q.tree does.small) (λ x sc ne. ⊎_elim (λ s. s) (λ eq. absurd (ne eq)) sc) ag1 h)))
    assigned_by (Some n) t m e live within fit std at l k le is κ res st d ag h =
        let whole = local_is (integer_of t) (InLoc m) n at in
        let same : m ≡ n = let z = whole.0 in cc in
        let does = (expression live within e fit std).deliver (InLocal n) first l (omega arith) in
        does.runs k le is (λ v. store_at t (Local m) v (λ v. κ)) res st d ag
        (λ v st1 d1 small ag1 kept.
        subst (λ c. Leads k (written (put_local m c st1) c (λ v. κ)) (from is (record d1 { locals = with_local d1.locals n v }))) (sym (whole_value t v whole.1))
        (subst (λ j. Leads k (written (put_local m v st1) v (λ v. κ)) (from is (record d1 { locals = with_local d1.locals j v }))) same
        (local_step program code callers size first own m v k live (more live m) is κ st1 d1 small (λ x sc ne. ⊎_elim (λ s. s) (λ eq. absurd (ne eq)) sc) ag1 (λ ag2. h _ _ ag2))))

    assigned_does : (t : CType) (m : ℕ) (e : AnExpression) (live : ℕ → Type 0) → ((x : ℕ) → live x → x < size) → Fits live e → Std e → (l : ℕ) (k : Depth) → Under k level → (is : List Item)
        (κ : State → Runs) → Resolves code (((way size count (AssignTo (VariableAt t (variables.Automatic m)) e)).drop first l).items ++ is) → (st : State) (d : Desk)
        → fair live st d → ((st' : State) (d' : Desk) → fair (more live m) st' d' → Leads k (κ st') (from is d'))
        → Leads k (expr p next (AssignTo (VariableAt t (variables.Automatic m)) e) (λ v. κ) st)
        (from (((way size count (AssignTo (VariableAt t (variables.Automatic m)) e)).drop first l).items ++ is) d)
    assigned_does t m e live within fit std l k le is κ res st d ag h = assigned_by (local_in (integer_of t) (InLoc m)) t m e live within fit std refl l k le is κ res st d ag h

    -- an expression statement where some locals wait
    pub evaluate_by : (e : AnExpression) → Sets e ⊎ ((x : ℕ) → sets x e ≡ false) → (rest : SomeActions) (scope live : ℕ → Type 0) → ((x : ℕ) → scope x → x < size) → Fits scope e → Std e
        → Partly live scope [] (MoreActions (EvaluateOf e) rest) → (l : ℕ) (k : Depth) → Under k level → (is : List Item) (κ : State → Runs)
        → Resolves code (((way size count e).drop first l).items ++ is) → (st : State) (d : Desk) → fair live st d
        → ((live' : ℕ → Type 0) → Partly live' scope [] rest → (st' : State) (d' : Desk) → fair live' st' d' → Leads k (κ st') (from is d'))
        → Leads k (expr p next e (λ v. κ) st) (from (((way size count e).drop first l).items ++ is) d)
    evaluate_by _ (inl (SetsLocal t m e)) rest scope live within fit std part l k le is κ res st d ag h =
        assigned_does t m e live (λ x x_live. within x (part.inside x x_live)) (set_fits live scope rest t m e part fit.1) std.1 l k le is κ res st d ag
        (h (more live m) (past_set live scope rest t m e fit.0 part))
    evaluate_by e (inr none) rest scope live within fit std part l k le is κ res st d ag h =
        ((expression live (λ x x_live. within x (part.inside x x_live)) e (other_fits live scope rest e none part fit) std).drop first l (omega arith)).runs k le is κ res st d ag
        (λ st' d' ag' s. h live (past_other live scope rest e none part) st' d' ag')

    -- the first part of a `for`, behind which no local waits
    first_part_by : (v : AnExpression) → Sets v ⊎ ((x : ℕ) → sets x v ≡ false) → (c e : Option AnExpression) (a : AnAction) (rest : SomeActions) (scope live : ℕ → Type 0)
        → ((x : ℕ) → scope x → x < size) → Fits scope v → Std v → Partly live scope [] (MoreActions (ForOf (Some v) c e a) rest) → (l : ℕ) (k : Depth) → Under k level → (is : List Item)
        (κ : State → Runs) → Resolves code ((effect size count first out (Some v) l).items ++ is) → (st : State) (d : Desk) → fair live st d
        → ((st' : State) (d' : Desk) → fair scope st' d' → Leads k (κ st') (from is d')) → Leads k (dropped p next (Some v) κ st) (from ((effect size count first out (Some v) l).items ++ is) d)
    first_part_by _ (inl (SetsLocal t m v)) c e a rest scope live within fit std part l k le is κ res st d ag h =
        assigned_does t m v live (λ x x_live. within x (part.inside x x_live)) (for_fits live scope rest t m v c e a part fit.1) std.1 l k le is κ res st d ag
        (λ st' d' ag'. h st' d' (agree_less (extent_of program) size first (length callers) scope (more live m) st' d' (for_set live scope rest t m v c e a part) ag'))
    first_part_by v (inr none) c e a rest scope live within fit std part l k le is κ res st d ag h =
        effect_does scope within (Some v) fit std l k le is κ res st d (agree_less (extent_of program) size first (length callers) scope live st d (for_live live scope rest
        (Some v) c e a none part) ag) h

    pub first_part_does : (i c e : Option AnExpression) (a : AnAction) (rest : SomeActions) (scope live : ℕ → Type 0) → ((x : ℕ) → scope x → x < size) → FitsMaybe scope i → StdMaybe i
        → Partly live scope [] (MoreActions (ForOf i c e a) rest) → (l : ℕ) (k : Depth) → Under k level → (is : List Item) (κ : State → Runs)
        → Resolves code ((effect size count first out i l).items ++ is)
        → (st : State) (d : Desk) → fair live st d → ((st' : State) (d' : Desk) → fair scope st' d' → Leads k (κ st') (from is d'))
        → Leads k (dropped p next i κ st) (from ((effect size count first out i l).items ++ is) d)
    first_part_does None c e a rest scope live within fit std part l k le is κ res st d ag h =
        h st d (agree_less (extent_of program) size first (length callers) scope live st d (for_live live scope rest None c e a (λ x. refl) part) ag)
    first_part_does (Some v) c e a rest scope live within fit std part l k le is κ res st d ag h =
        first_part_by v (sets_or_not v) c e a rest scope live within fit std part l k le is κ res st d ag h

    -- a return
    zero_does : (scope : ℕ → Type 0) → ((x : ℕ) → scope x → x < size) → (l : ℕ) → DoesValue program code callers size count first scope level (due (Num 0) first l) first (λ κ. κ 0)
    zero_does scope within l = due_does program code callers size count first scope level within own (Num 0) first l (λ κ. κ 0) tt (omega arith) (λ k is κ st d ag h. h)

    pub return_does : (e : Option AnExpression) (scope outer : ℕ → Type 0) → ((x : ℕ) → scope x → x < size) → FitsMaybe scope e → StdMaybe e → (inside : Bool) (lb lc l : ℕ)
        → Does 0 (returning size count first out e l) lb lc inside outer scope scope (returned_source p next e)
    return_does None scope outer within fit std inside lb lc l k spare room le is κ res h st d ag =
        let up = spared k spare 0 room lb lc inside outer scope is κ h in
        (delivered_does program code callers size count first scope level within own out (due (Num 0) first l) first (λ κ. κ 0) (omega arith) (zero_does scope within l)).runs k le is (λ v. κ
        (Returned v))
        res st d ag (arrive program code callers size count first level out own out scope k first (delivered out (due (Num 0) first l)).temps is d (λ v. κ (Returned v)) up.left)
    return_does (Some e) scope outer within fit std inside lb lc l k spare room le is κ res h st d ag =
        let up = spared k spare 0 room lb lc inside outer scope is κ h in
        ((expression scope within e fit std).deliver out first l (omega arith)).runs k le is (λ v. κ (Returned v)) res st d ag
        (arrive program code callers size count first level out own out scope k first ((way size count e).deliver out first l).temps is d (λ v. κ (Returned v)) up.left)

    -- conditions
    if_does : (z : ℕ) (c : AnExpression) (l : ℕ) (a : Emitted) (scope outer after : ℕ → Type 0) (n : Behind → State → Runs) → ((x : ℕ) → scope x → x < size) → Fits scope c → Std c
        → ((x : ℕ) → scope x → after x) → (inside : Bool) (lb lc : ℕ) → Does z a lb lc inside outer scope after n
        → Does z (if_done l (unless size count first out c l (suc l)) a) lb lc inside outer scope scope (λ κ. expr p next c (λ v st. chosen v (n κ st) (κ Onward st)))
    if_does z c l a scope outer after n within fit std sub inside lb lc does k spare room le is κ res h st d ag =
        let j : Depth = with_spare k spare in
        let up = spared k spare z room lb lc inside outer scope is κ h in
        let q = unless size count first out c l (suc l) in
        let asks = (expression scope within c fit std).branch false l first (suc l) (omega arith) in
        let T : List Item = a.items ++ (Label l ∷ []) in
        let res1 = resolves_split code q.items T is res in
        let res2 = resolves_split code a.items (Label l ∷ []) is (resolves_back code q.items (T ++ is) res1) in
        let end_at : behind code l ≡ spelled_all is = (resolves_back code a.items (Label l ∷ is) res2).0 in
        joined k q.items T is d _ (asks.runs k le (T ++ is) (n κ) (κ Onward) res1 st d ag
        (λ st1 d1 ag1 s1. goes_on program code callers k l (T ++ is) d1 _ (ahead_joined l a.items (Label l ∷ []) is (ahead_behind l a.items (Label l ∷ is) (ahead_here l is)))
        (moves program code callers k (behind code l) (spelled_all is) d1 _ end_at (up.onward st1 d1 ag1)))
        (λ st1 d1 ag1 s1. leads_quiet k _ _ (joined k a.items (Label l ∷ []) is d1 _ (does k spare room le (Label l ∷ is) κ res2
        (record {
          onward = λ st2 d2 ag2. label_step program code callers j l is d2 _ (h.onward st2 d2 (agree_less (extent_of program) size first (length callers) scope after st2 d2 sub ag2));
          broke = λ e st2 d2 ag2. from_before program code callers j lb (Label l ∷ []) is d2 _ (h.broke e st2 d2 ag2);
          continued = λ e st2 d2 ag2. from_before program code callers j lc (Label l ∷ []) is d2 _ (h.continued e st2 d2 ag2);
          left = h.left;
        }) st1 d1 ag1))))

    -- a `break` or `continue` goes to its label
    mutual
      goes_there : (a : AnAction) (lb lc to : ℕ) (scope outer : ℕ → Type 0) → ((x : ℕ) → outer x → scope x) → (inside : Bool) → FitsAct size scope inside a → StdAct a → going a lb lc ≡ Some to
          → (k : Depth) (is : List Item) (κ : Behind) → LandsAt k lb lc inside outer scope is κ → (st : State) (d : Desk) → fair scope st d
          → Leads k (stmt p next a κ st) (one_tree (to_label program code callers to is d))
      goes_there BreakOf lb lc to scope outer sub inside fit std e k is κ h st d ag =
          let same : lb ≡ to = cc in
          subst (λ x. Leads k (κ Broke st) (one_tree (to_label program code callers x is d))) same
          (h.broke fit st d (agree_less (extent_of program) size first (length callers) outer scope st d sub ag))
      goes_there ContinueOf lb lc to scope outer sub inside fit std e k is κ h st d ag =
          let same : lc ≡ to = cc in
          subst (λ x. Leads k (κ Continued st) (one_tree (to_label program code callers x is d))) same
          (h.continued fit st d (agree_less (extent_of program) size first (length callers) outer scope st d sub ag))
      goes_there (DeclareOf ds) lb lc to scope outer sub inside fit std e k is κ h st d ag = absurd (cc)
      goes_there (BlockOf row) lb lc to scope outer sub inside fit std e k is κ h st d ag = alone_there row lb lc to scope outer sub inside fit std e k is κ h st d ag
      goes_there (EvaluateOf x) lb lc to scope outer sub inside fit std e k is κ h st d ag = absurd (cc)
      goes_there (ReturnOf x) lb lc to scope outer sub inside fit std e k is κ h st d ag = absurd (cc)
      goes_there (IfOf c a) lb lc to scope outer sub inside fit std e k is κ h st d ag = absurd (cc)
      goes_there (IfElseOf c a b) lb lc to scope outer sub inside fit std e k is κ h st d ag = absurd (cc)
      goes_there (WhileOf c a) lb lc to scope outer sub inside fit std e k is κ h st d ag = absurd (cc)
      goes_there (DoOf a c) lb lc to scope outer sub inside fit std e k is κ h st d ag = absurd (cc)
      goes_there (ForOf i c x a) lb lc to scope outer sub inside fit std e k is κ h st d ag = absurd (cc)

      alone_there : (row : SomeActions) (lb lc to : ℕ) (scope outer : ℕ → Type 0) → ((x : ℕ) → outer x → scope x) → (inside : Bool) → FitsActs size scope inside row → StdActs row
          → going_alone row lb lc ≡ Some to → (k : Depth) (is : List Item) (κ : Behind) → LandsAt k lb lc inside outer scope is κ → (st : State) (d : Desk) → fair scope st d
          → Leads k (stmts p next row κ st) (one_tree (to_label program code callers to is d))
      alone_there NoActions lb lc to scope outer sub inside fit std e k is κ h st d ag = absurd (cc)
      alone_there (MoreActions a NoActions) lb lc to scope outer sub inside fit std e k is κ h st d ag =
          goes_there a lb lc to scope outer sub inside fit.0 std.0 e k is (followed p next κ (stmts p next NoActions κ))
          (record { onward = h.onward; broke = h.broke; continued = h.continued; left = h.left }) st d ag
      alone_there (MoreActions a (MoreActions b row)) lb lc to scope outer sub inside fit std e k is κ h st d ag = absurd (cc)

    -- a test that goes where the statement would
    away_does : (c : AnExpression) (a : AnAction) (to l : ℕ) (scope outer : ℕ → Type 0) → ((x : ℕ) → scope x → x < size) → ((x : ℕ) → outer x → scope x) → Fits scope c → Std c
        → (inside : Bool) → FitsAct size scope inside a → StdAct a → (lb lc : ℕ) → going a lb lc ≡ Some to
        → Does (act_zeros a) (when size count first out c to l) lb lc inside outer scope scope (stmt p next (IfOf c a))
    away_does c a to l scope outer within sub fit std inside fit' std' lb lc e k spare room le is κ res h st d ag =
        let up = spared k spare (act_zeros a) room lb lc inside outer scope is κ h in
        let asks = (expression scope within c fit std).branch true to first l (omega arith) in
        asks.runs k le is (stmt p next a κ) (κ Onward) res st d ag
        (λ st1 d1 ag1 s1. goes_there a lb lc to scope outer sub inside fit' std' e k is κ up st1 d1 ag1)
        (λ st1 d1 ag1 s1. leads_quiet k _ _ (up.onward st1 d1 ag1))

    -- an `if` alone in either form
    pub if_by_does : (o : Option ℕ) (c : AnExpression) (a : AnAction) (l lb lc : ℕ) (scope outer : ℕ → Type 0) → ((x : ℕ) → scope x → x < size) → ((x : ℕ) → outer x → scope x) → Fits scope c → Std c
        → (inside : Bool) → FitsAct size scope inside a → StdAct a → going a lb lc ≡ o
        → ((m : ℕ) → Does (act_zeros a) (lower size count first out a NoActions lb lc m) lb lc inside outer scope (behind_act scope a) (stmt p next a))
        → Does (act_zeros a) (if_by size count first out o c (lower size count first out a NoActions lb lc) l) lb lc inside outer scope scope (stmt p next (IfOf c a))
    if_by_does (Some to) c a l lb lc scope outer within sub fit std inside fit' std' e body = away_does c a to l scope outer within sub fit std inside fit' std' lb lc e
    if_by_does None c a l lb lc scope outer within sub fit std inside fit' std' e body =
        let q = unless size count first out c l (suc l) in
        if_does (act_zeros a) c l (lower size count first out a NoActions lb lc q.labels) scope outer (behind_act scope a) (stmt p next a) within fit std (behind_more scope a) inside lb lc
        (body q.labels)

    pub if_else_does : (y z : ℕ) (c : AnExpression) (l : ℕ) (a b : Emitted) (scope outer after after' : ℕ → Type 0) (n o : Behind → State → Runs) → ((x : ℕ) → scope x → x < size) → Fits scope c
        → Std c
        → ((x : ℕ) → scope x → after x) → ((x : ℕ) → scope x → after' x) → (inside : Bool) (lb lc : ℕ) → Does y a lb lc inside outer scope after n
        → Does z b lb lc inside outer scope after' o → Does (y + z) (if_else_done l (unless size count first out c l (suc (suc l))) a b) lb lc inside outer scope scope
        (λ κ. expr p next c (λ v st. chosen v (n κ st) (o κ st)))
    if_else_does y z c l a b scope outer after after' n o within fit std sub sub' inside lb lc does does' k spare room le is κ res h st d ag =
        let j : Depth = with_spare k spare in
        let q = unless size count first out c l (suc (suc l)) in
        let asks = (expression scope within c fit std).branch false l first (suc (suc l)) (omega arith) in
        let T3 : List Item = Label (suc l) ∷ [] in
        let T2 : List Item = Jump (suc l) ∷ Label l ∷ (b.items ++ T3) in
        let T1 : List Item = a.items ++ T2 in
        let res0 = resolves_split code q.items T1 is res in
        let res1 = resolves_split code a.items T2 is (resolves_back code q.items (T1 ++ is) res0) in
        let res2 = resolves_back code a.items (T2 ++ is) res1 in
        let else_at : behind code l ≡ spelled_all ((b.items ++ T3) ++ is) = res2.1.0 in
        let res3 = resolves_split code b.items T3 is res2.1.1 in
        let end_at : behind code (suc l) ≡ spelled_all is = (resolves_back code b.items (T3 ++ is) res3).0 in
        joined k q.items T1 is d _ (asks.runs k le (T1 ++ is) (n κ) (o κ) res0 st d ag
        (λ st1 d1 ag1 s1. goes_on program code callers k l (T1 ++ is) d1 _
        (ahead_joined l a.items T2 is (ahead_behind l a.items (T2 ++ is) (ahead_later l (Jump (suc l)) (Label l ∷ ((b.items ++ T3) ++ is)) (ahead_here l ((b.items ++ T3) ++ is)))))
        (moves program code callers k (behind code l) (spelled_all ((b.items ++ T3) ++ is)) d1 _ else_at
        (joined k b.items T3 is d1 _ (does' k spare (omega (arith, room)) le (T3 ++ is) κ res3
        (record {
          onward = λ st2 d2 ag2. label_step program code callers j (suc l) is d2 _ (h.onward st2 d2 (agree_less (extent_of program) size first (length callers) scope after' st2 d2 sub' ag2));
          broke = λ e st2 d2 ag2. from_before program code callers j lb T3 is d2 _ (h.broke e st2 d2 ag2);
          continued = λ e st2 d2 ag2. from_before program code callers j lc T3 is d2 _ (h.continued e st2 d2 ag2);
          left = h.left;
        }) st1 d1 ag1))))
        (λ st1 d1 ag1 s1. leads_quiet k _ _ (joined k a.items T2 is d1 _ (does k spare (omega (arith, room)) le (T2 ++ is) κ res1
        (record {
          onward = λ st2 d2 ag2. jump_step program code callers j (suc l) (Label l ∷ ((b.items ++ T3) ++ is)) _ d2
              (ahead_later (suc l) (Label l) ((b.items ++ T3) ++ is) (ahead_joined (suc l) b.items T3 is (ahead_behind (suc l) b.items (T3 ++ is) (ahead_here (suc l) is))))
              (moves program code callers j (behind code (suc l)) (spelled_all is) d2 _ end_at
              (h.onward st2 d2 (agree_less (extent_of program) size first (length callers) scope after st2 d2 sub ag2)));
          broke = λ e st2 d2 ag2. from_before program code callers j lb T2 is d2 _ (h.broke e st2 d2 ag2);
          continued = λ e st2 d2 ag2. from_before program code callers j lc T2 is d2 _ (h.continued e st2 d2 ag2);
          left = h.left;
        }) st1 d1 ag1))))
