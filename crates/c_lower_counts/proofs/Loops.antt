-- What loops are lowered to does what they mean: each turn that is counted pays for its own zeros.
use Rattle.std.proofs.Common.{◌≡◌, ℕ, zero, suc, ◌+◌, ◌≤◌, ◌<◌, ◌^◌, List, [], ◌∷◌, ◌++◌, length, Option, Some, None, refl, arith, sym, ◌∙◌, subst}
use Rattle.std.specs.Prelude.{Bool, true, false, slice_get}
use Rattle.gg_base.specs.declared.run.End.TheVariants.{Wild}
use Rattle.gg_base.specs.Runs.{Runs, stop}
use Rattle.tree_core.specs.declared.program.Object.{Object}
use Rattle.tree_core.specs.declared.program.TreeItem.{TreeItem}
use Rattle.tree_core.specs.declared.program.TreeFn.{TreeFn}
use Rattle.tree_core.specs.declared.program.TreeProgram.{TreeProgram}
use Rattle.tree_meaning.specs.State.{Activation, behind}
use Rattle.c_types.specs.declared.typed.Callee.{Callee}
use Rattle.c_types.specs.declared.typed.Variable.{Variable}
use Rattle.c_types.specs.declared.typed.Variable.TheVariants as variables
use Rattle.c_types.specs.Constants.{constant_of}
use Rattle.c_types.specs.Typed.{AnExpression}
use Rattle.c_program.specs.Statements.{AnAction, NoActions, WhileOf, DoOf}
use Rattle.c_program.specs.Programs.{ARoutine, AProgram}
use Rattle.c_meaning.specs.declared.flow.Flow.TheVariants.{Onward}
use Rattle.c_meaning.specs.State.{State}
use Rattle.c_meaning.specs.Blocks.{pointer_number}
use Rattle.c_meaning.specs.Values.{Behind, ALoop, plain_loop, for_loop, Task, Look, Next, chosen}
use Rattle.c_meaning.specs.Meaning.{expr, dropped, turned, turn_by, look_by, stmt, task}
use Rattle.c_sound.specs.Fits.{Fits, FitsMaybe}
use Rattle.c_sound.specs.Stands.{Stands, StandsMaybe}
use Rattle.c_lower_scheme.specs.Trees.{Item, Label, Jump}
use Rattle.c_lower_scheme.specs.Spelling.{spelled_all}
use Rattle.c_lower_scheme.specs.Parts.{Emitted, Destination}
use Rattle.c_lower_scheme.specs.Expressions.{way}
use Rattle.c_lower_scheme.specs.Flow.{loop_done, while_done, turns_done, for_done, ever_done}
use Rattle.c_lower_scheme.specs.Statements.{unless, when, effect, while_by, for_tested, for_of, lower}
use Rattle.c_lower_counts.specs.Zeros.{act_zeros}
use Rattle.c_lower_counts.proofs.Leads.{Leads, one_tree, jumped, leads_wild, leads_quiet, leads_counted, leads_none, Depth, Under, deeper, at_turns, with_spare, fuller}
use Rattle.c_lower_counts.proofs.Ahead.{ahead_here, ahead_later, ahead_behind, ahead_joined}
use Rattle.c_lower_follows.proofs.Steps.{Desk, Resolves, resolves_back, resolves_split}
use Rattle.c_lower_counts.proofs.Steps.{at, at_items, moves, jump_step, jump_counts, label_step, label_counts, is_back, goes_on}
use Rattle.c_lower_follows.proofs.Agreeing.{Agree, extent_of}
use Rattle.c_lower_counts.proofs.Doing.{DoesWay}
use Rattle.c_lower_follows.proofs.Calling.{CodeOf}
use Rattle.c_lower_counts.proofs.Calling.{Calls}
use Rattle.c_lower_counts.proofs.Expressions.{way_does}
use Rattle.c_lower_follows.proofs.Scopes.{agree_less}
use Rattle.c_lower_counts.proofs.Constants.{constant_goes}
use Rattle.c_lower_counts.proofs.Landing.{Lands, DoesStmt, Turned, joined_at, lands_below, lands_more}
use Rattle.c_lower_counts.proofs.Statements.{effect_does}

module _ (program : TreeProgram) (code : List TreeItem) (callers : List Activation) (size count first : ℕ) (level : Depth) (out : Destination) (own : size ≤ first) where
  abbrev fair : (ℕ → Type 0) → State → Desk → Type 0
  fair scope st d = Agree (extent_of program) size first scope (length callers) st d

  abbrev from : List Item → Desk → Runs
  from is d = at program code callers is d

  abbrev LandsAt : (k : Depth) (lb lc : ℕ) (inside : Bool) (outer scope : ℕ → Type 0) (is : List Item) (κ : Behind) → Type 0
  LandsAt k lb lc inside outer scope is κ = Lands program code callers size count first level out own k lb lc inside outer scope is κ

  abbrev Does : (z : ℕ) (q : Emitted) (lb lc : ℕ) (inside : Bool) (outer scope after : ℕ → Type 0) (m : Behind → State → Runs) → Type 0
  Does z q lb lc inside outer scope after m = DoesStmt program code callers size count first level out own z q lb lc inside outer scope after m

  joined : (k : Depth) (a b is : List Item) (d : Desk) (r : Runs) → Leads k r (from (a ++ (b ++ is)) d) → Leads k r (from ((a ++ b) ++ is) d)
  joined k a b is d r h = joined_at program code callers size count first level out own k a b is d r h

  spared : (k : Depth) (s z : ℕ) → s + z ≤ k.spare → (lb lc : ℕ) (inside : Bool) (outer scope : ℕ → Type 0) (is : List Item) (κ : Behind)
      → LandsAt (with_spare k s) lb lc inside outer scope is κ → LandsAt k lb lc inside outer scope is κ
  spared k s z room lb lc inside outer scope is κ h = lands_more program code callers size count first level out own k s z room lb lc inside outer scope is κ h

  -- what is followed behind a jump to a label, whether it is counted or not
  abbrev TurnedAt : (l : ℕ) (k : Depth) (scope : ℕ → Type 0) (r : State → Runs) → Type 0
  TurnedAt l k scope r = Turned program code callers size count first level out own l k scope r

  module _ (p : AProgram) (next : Next) (counts_all : length program.functions ≡ count)
      (lowers : (f : ℕ) (g : ARoutine) → slice_get p.routines f ≡ Some g → (tf : TreeFn) × (slice_get program.functions f ≡ Some tf) × CodeOf (pointer_number p.objects) count g tf.items)
      (calls : Calls program count p next level) (objects_are : program.objects ≡ p.objects) (addresses : (n : ℕ) (o : Object) → slice_get p.objects n ≡ Some o → o.address < 2 ^ 32)
      (next_is : (t : Task) (κ : Behind) (st : State) → next t κ st ≡ task p next t κ st) (there : Variable → Type 0) (takes : Callee → ℕ → Type 0) (literals : ℕ)
      (lies : (o : ℕ) → there (variables.InBlock o) → (size < first) × (o < 262144)) where
    abbrev Std : AnExpression → Type 0
    Std e = Stands there takes literals e

    abbrev StdMaybe : Option AnExpression → Type 0
    StdMaybe e = StandsMaybe there takes literals e

    expression : (scope : ℕ → Type 0) → ((x : ℕ) → scope x → x < size) → (e : AnExpression) → Fits scope e → Std e
        → DoesWay program code callers size count first scope level (way size count e) (expr p next e)
    expression scope within e fit std = way_does program code callers size count first scope level within own p next counts_all lowers calls objects_are addresses there takes literals lies e fit std

    -- the statement of a loop, whose zeros each turn pays for
    abbrev pub DoesTurn : (a : AnAction) (q : Emitted) (lb lc : ℕ) (inside : Bool) (outer scope after : ℕ → Type 0) (m : Behind → State → Runs) → Type 0
    DoesTurn a q lb lc inside outer scope after m = (act_zeros a ≤ level.each) × Does (act_zeros a) q lb lc inside outer scope after m

    ample : (k : Depth) (z : ℕ) → k.each ≡ level.each → z ≤ level.each → k.spare + z ≤ k.spare + k.each
    ample k z same few = omega arith

    -- `while` with a constant test in front: its body, by the turns behind it
    while_body : (c : AnExpression) (a : AnAction) (l : ℕ) (b : Emitted) (scope after : ℕ → Type 0) → ((x : ℕ) → scope x → after x)
        → DoesTurn a b (suc l) l true scope scope after (stmt p next a) → (inside : Bool) (lb lc : ℕ) (outer : ℕ → Type 0) (is : List Item)
        → Resolves code (b.items ++ ((Jump l ∷ Label (suc l) ∷ []) ++ is)) → (k : Depth) (spare : ℕ) → spare + act_zeros a ≤ k.spare → Under k level → (κ : Behind)
        → LandsAt (with_spare k spare) lb lc inside outer scope is κ
        → TurnedAt l (with_spare k spare) scope (next (Look (plain_loop c a)) κ) → (st : State) (d : Desk) → fair scope st d
        → Leads k (stmt p next a (turned p next κ (next (Look (plain_loop c a)) κ)) st) (from ((b.items ++ (Jump l ∷ Label (suc l) ∷ [])) ++ is) d)
    while_body c a l b scope after sub body inside lb lc outer is res k spare room le κ h again st d ag =
        let j : Depth = with_spare k spare in
        let T2 : List Item = Jump l ∷ Label (suc l) ∷ [] in
        let end_at : behind code (suc l) ≡ spelled_all is = (resolves_back code b.items (T2 ++ is) res).1.0 in
        joined k b.items T2 is d _ (body.1 k spare room le (T2 ++ is) (turned p next κ (next (Look (plain_loop c a)) κ)) res
        (record {
          onward = λ st2 d2 ag2. jump_counts program code callers j l (Label (suc l) ∷ is) _ d2
              (again (is_back program code callers (Label (suc l) ∷ is) l) st2 d2 (agree_less (extent_of program) size first (length callers) scope after st2 d2 sub ag2));
          broke = λ e st2 d2 ag2. goes_on program code callers j (suc l) (T2 ++ is) d2 _ (ahead_later (suc l) (Jump l) (Label (suc l) ∷ is) (ahead_here (suc l) is))
              (moves program code callers j (behind code (suc l)) (spelled_all is) d2 _ end_at (h.onward st2 d2 ag2));
          continued = λ e st2 d2 ag2. again (is_back program code callers (T2 ++ is) l) st2 d2 ag2;
          left = h.left;
        }) st d ag)

    -- a turn, whose tree is still to be done: its test is no 0
    while_turn : (c : AnExpression) (a : AnAction) (l : ℕ) (b : Emitted) (scope after : ℕ → Type 0) → ((x : ℕ) → scope x → x < size) → Fits scope c → Std c → (u : ℕ) → constant_of c ≡ Some (suc u)
        → ((x : ℕ) → scope x → after x) → DoesTurn a b (suc l) l true scope scope after (stmt p next a) → (inside : Bool) (lb lc : ℕ) (outer : ℕ → Type 0) (is : List Item)
        → Resolves code ((while_done l (unless size count first out c (suc l) (suc (suc l))) b).items ++ is) → (t : ℕ) (k : Depth) → Under (at_turns t k) level → (κ : Behind)
        → LandsAt (at_turns t k) lb lc inside outer scope is κ
        → TurnedAt l (at_turns t k) scope (turn_by p next (plain_loop c a) (stmt p next a) κ)
    while_turn c a l b scope after within fit std u known sub body inside lb lc outer is res zero k le κ h back st d ag = leads_none k _ _
    while_turn c a l b scope after within fit std u known sub body inside lb lc outer is res (suc t) above le κ h back st d ag =
        let k : Depth = at_turns t above in
        let full : Depth = fuller k in
        let below : Under k level = (omega (arith, le.0), le.1) in
        let lp : ALoop = plain_loop c a in
        let q = unless size count first out c (suc l) (suc (suc l)) in
        let asks = (expression scope within c fit std).branch false (suc l) first (suc (suc l)) (omega arith) in
        let T2 : List Item = Jump l ∷ Label (suc l) ∷ [] in
        let T1 : List Item = b.items ++ T2 in
        let res0 = resolves_split code q.items T1 is res.1 in
        let res1 = resolves_split code b.items T2 is (resolves_back code q.items (T1 ++ is) res0) in
        let end_at : behind code (suc l) ≡ spelled_all is = (resolves_back code b.items (T2 ++ is) res1).1.0 in
        let top_at : behind code l ≡ spelled_all ((q.items ++ T1) ++ is) = res.0 in
        let low_h = lands_below program code callers size count first level out own k lb lc inside outer scope is κ h in
        let full_h = spared full k.spare 0 (omega arith) lb lc inside outer scope is κ low_h in
        let met : State → Runs = stmt p next a (turned p next κ (next (Look lp) κ)) in
        let again : TurnedAt l k scope (next (Look lp) κ) = λ back st d ag.
        subst (λ r. Leads k r (one_tree (jumped back (at_items program code callers (behind code l) d))))
        (sym (next_is (Look lp) κ st ∙ constant_goes p next c (suc u) known (λ v st. chosen v (turn_by p next lp (stmt p next a) κ st) (κ Onward st)) st))
        (while_turn c a l b scope after within fit std u known sub body inside lb lc outer is res t above below κ low_h back st d ag) in
        leads_counted k _ _ back (moves program code callers full (behind code l) (spelled_all ((q.items ++ T1) ++ is)) d _ top_at
        (subst (λ r. Leads full r (from ((q.items ++ T1) ++ is) d)) (constant_goes p next c (suc u) known (λ v st. chosen v (met st) (κ Onward st)) st)
        (joined full q.items T1 is d _ (asks.runs full below (T1 ++ is) met (κ Onward) res0 st d ag
        (λ st1 d1 ag1 s1. goes_on program code callers full (suc l) (T1 ++ is) d1 _ (ahead_joined (suc l) b.items T2 is (ahead_behind (suc l) b.items (T2 ++ is)
        (ahead_later (suc l) (Jump l) (Label (suc l) ∷ is) (ahead_here (suc l) is))))
        (moves program code callers full (behind code (suc l)) (spelled_all is) d1 _ end_at (full_h.onward st1 d1 ag1)))
        (λ st1 d1 ag1 s1. leads_quiet full _ _
        (while_body c a l b scope after sub body inside lb lc outer is res1 full k.spare (ample k (act_zeros a) le.1 body.0) below κ low_h again st1 d1 ag1))))))

    -- `while` with its test in front, from behind its first label
    while_look : (c : AnExpression) (a : AnAction) (l : ℕ) (b : Emitted) (scope after : ℕ → Type 0) → ((x : ℕ) → scope x → x < size) → Fits scope c → Std c → (v : ℕ) → constant_of c ≡ Some v
        → ((x : ℕ) → scope x → after x) → DoesTurn a b (suc l) l true scope scope after (stmt p next a) → (inside : Bool) (lb lc : ℕ) (outer : ℕ → Type 0) (is : List Item)
        → Resolves code ((while_done l (unless size count first out c (suc l) (suc (suc l))) b).items ++ is) → (t : ℕ) (k : Depth) → Under (at_turns t k) level → (κ : Behind)
        → LandsAt (at_turns t k) lb lc inside outer scope is κ
        → (st : State) (d : Desk) → fair scope st d → Leads (at_turns t k) (look_by p next (plain_loop c a) (stmt p next a) κ st)
        (from (((unless size count first out c (suc l) (suc (suc l))).items ++ (b.items ++ (Jump l ∷ Label (suc l) ∷ []))) ++ is) d)
    while_look c a l b scope after within fit std v known sub body inside lb lc outer is res zero k le κ h st d ag = leads_none k _ _
    while_look c a l b scope after within fit std zero known sub body inside lb lc outer is res (suc t) above le κ h st d ag =
        let k : Depth = at_turns t above in
        let lp : ALoop = plain_loop c a in
        let q = unless size count first out c (suc l) (suc (suc l)) in
        let asks = (expression scope within c fit std).branch false (suc l) first (suc (suc l)) (omega arith) in
        let T2 : List Item = Jump l ∷ Label (suc l) ∷ [] in
        let T1 : List Item = b.items ++ T2 in
        let res0 = resolves_split code q.items T1 is res.1 in
        let res1 = resolves_split code b.items T2 is (resolves_back code q.items (T1 ++ is) res0) in
        let end_at : behind code (suc l) ≡ spelled_all is = (resolves_back code b.items (T2 ++ is) res1).1.0 in
        subst (λ r. Leads (deeper k) r (from ((q.items ++ T1) ++ is) d))
        (constant_goes p next c 0 known (λ v st. chosen v (stop Wild) (κ Onward st)) st
        ∙ sym (constant_goes p next c 0 known (λ v st. chosen v (turn_by p next lp (stmt p next a) κ st) (κ Onward st)) st))
        (joined (deeper k) q.items T1 is d _ (asks.runs (deeper k) le (T1 ++ is) (λ st. stop Wild) (κ Onward) res0 st d ag
        (λ st1 d1 ag1 s1. goes_on program code callers (deeper k) (suc l) (T1 ++ is) d1 _ (ahead_joined (suc l) b.items T2 is (ahead_behind (suc l) b.items (T2 ++ is)
        (ahead_later (suc l) (Jump l) (Label (suc l) ∷ is) (ahead_here (suc l) is))))
        (moves program code callers (deeper k) (behind code (suc l)) (spelled_all is) d1 _ end_at (h.onward st1 d1 ag1)))
        (λ st1 d1 ag1 s1. leads_wild (deeper k) _)))
    while_look c a l b scope after within fit std (suc u) known sub body inside lb lc outer is res (suc t) above le κ h st d ag =
        let k : Depth = at_turns t above in
        let full : Depth = fuller k in
        let below : Under k level = (omega (arith, le.0), le.1) in
        let lp : ALoop = plain_loop c a in
        let q = unless size count first out c (suc l) (suc (suc l)) in
        let asks = (expression scope within c fit std).branch false (suc l) first (suc (suc l)) (omega arith) in
        let T2 : List Item = Jump l ∷ Label (suc l) ∷ [] in
        let T1 : List Item = b.items ++ T2 in
        let res0 = resolves_split code q.items T1 is res.1 in
        let res1 = resolves_split code b.items T2 is (resolves_back code q.items (T1 ++ is) res0) in
        let end_at : behind code (suc l) ≡ spelled_all is = (resolves_back code b.items (T2 ++ is) res1).1.0 in
        let low_h = lands_below program code callers size count first level out own k lb lc inside outer scope is κ h in
        let again : TurnedAt l k scope (next (Look lp) κ) = λ back st d ag.
        subst (λ r. Leads k r (one_tree (jumped back (at_items program code callers (behind code l) d))))
        (sym (next_is (Look lp) κ st ∙ constant_goes p next c (suc u) known (λ v st. chosen v (turn_by p next lp (stmt p next a) κ st) (κ Onward st)) st))
        (while_turn c a l b scope after within fit std u known sub body inside lb lc outer is res t above below κ low_h back st d ag) in
        joined (deeper k) q.items T1 is d _ (asks.runs (deeper k) le (T1 ++ is) (turn_by p next lp (stmt p next a) κ) (κ Onward) res0 st d ag
        (λ st1 d1 ag1 s1. goes_on program code callers (deeper k) (suc l) (T1 ++ is) d1 _ (ahead_joined (suc l) b.items T2 is (ahead_behind (suc l) b.items (T2 ++ is)
        (ahead_later (suc l) (Jump l) (Label (suc l) ∷ is) (ahead_here (suc l) is))))
        (moves program code callers (deeper k) (behind code (suc l)) (spelled_all is) d1 _ end_at (h.onward st1 d1 ag1)))
        (λ st1 d1 ag1 s1. leads_counted k _ _ false
        (while_body c a l b scope after sub body inside lb lc outer is res1 full k.spare (ample k (act_zeros a) le.1 body.0) below κ low_h again st1 d1 ag1)))

    while_does : (c : AnExpression) (a : AnAction) (l : ℕ) (b : Emitted) (scope after outer : ℕ → Type 0) → ((x : ℕ) → scope x → x < size) → Fits scope c → Std c → (v : ℕ) → constant_of c ≡ Some v
        → ((x : ℕ) → scope x → after x)
        → DoesTurn a b (suc l) l true scope scope after (stmt p next a) → (inside : Bool) (lb lc : ℕ)
        → Does (act_zeros a) (while_done l (unless size count first out c (suc l) (suc (suc l))) b) lb lc inside outer scope scope (stmt p next (WhileOf c a))
    while_does c a l b scope after outer within fit std v known sub body inside lb lc k spare room le is κ res h st d ag =
        let up = spared k spare (act_zeros a) room lb lc inside outer scope is κ h in
        label_step program code callers k l (((unless size count first out c (suc l) (suc (suc l))).items ++ (b.items ++ (Jump l ∷ Label (suc l) ∷ []))) ++ is) d _
        (while_look c a l b scope after within fit std v known sub body inside lb lc outer is res k.turns k le κ up st d ag)

    -- a loop whose test stands behind its body: the test, by the turns behind it
    loop_look : (c : AnExpression) (a : AnAction) (to l : ℕ) (b : Emitted) (scope : ℕ → Type 0) → ((x : ℕ) → scope x → x < size) → Fits scope c → Std c → (inside : Bool) (lb lc : ℕ)
        → (outer : ℕ → Type 0) (is : List Item) → Resolves code ((loop_done to l b (when size count first out c l b.labels)).items ++ is) → (k : Depth) → Under k level → (κ : Behind)
        → LandsAt k lb lc inside outer scope is κ
        → TurnedAt l k scope (turn_by p next (plain_loop c a) (stmt p next a) κ)
        → (st : State) (d : Desk) → fair scope st d
        → Leads k (look_by p next (plain_loop c a) (stmt p next a) κ st) (from (((when size count first out c l b.labels).items ++ (Label (suc (suc l)) ∷ [])) ++ is) d)
    loop_look c a to l b scope within fit std inside lb lc outer is res k le κ h turns st d ag =
        let q = when size count first out c l b.labels in
        let asks = (expression scope within c fit std).branch true l first b.labels (omega arith) in
        let T3 : List Item = Label (suc (suc l)) ∷ [] in
        let T2 : List Item = Label (suc l) ∷ (q.items ++ T3) in
        let res3 = resolves_split code q.items T3 is (resolves_back code b.items (T2 ++ is) (resolves_split code b.items T2 is res.1.1)).1 in
        joined k q.items T3 is d _ (asks.runs k le (T3 ++ is) (turn_by p next (plain_loop c a) (stmt p next a) κ) (κ Onward) res3 st d ag
        (λ st1 d1 ag1 s1. turns (is_back program code callers (T3 ++ is) l) st1 d1 ag1)
        (λ st1 d1 ag1 s1. label_counts program code callers k (suc (suc l)) is d1 _ (leads_quiet k _ _ (h.onward st1 d1 ag1))))

    -- and a turn, whose tree is still to be done
    loop_turn : (c : AnExpression) (a : AnAction) (to l : ℕ) (b : Emitted) (scope after : ℕ → Type 0) → ((x : ℕ) → scope x → x < size) → Fits scope c → Std c → ((x : ℕ) → scope x → after x)
        → DoesTurn a b (suc (suc l)) (suc l) true scope scope after (stmt p next a) → (inside : Bool) (lb lc : ℕ) (outer : ℕ → Type 0) (is : List Item)
        → Resolves code ((loop_done to l b (when size count first out c l b.labels)).items ++ is) → (t : ℕ) (k : Depth) → Under (at_turns t k) level → (κ : Behind)
        → LandsAt (at_turns t k) lb lc inside outer scope is κ
        → TurnedAt l (at_turns t k) scope (turn_by p next (plain_loop c a) (stmt p next a) κ)
    loop_turn c a to l b scope after within fit std sub body inside lb lc outer is res zero k le κ h back st d ag = leads_none k _ _
    loop_turn c a to l b scope after within fit std sub body inside lb lc outer is res (suc t) above le κ h back st d ag =
        let k : Depth = at_turns t above in
        let full : Depth = fuller k in
        let below : Under k level = (omega (arith, le.0), le.1) in
        let q = when size count first out c l b.labels in
        let T3 : List Item = Label (suc (suc l)) ∷ [] in
        let T2 : List Item = Label (suc l) ∷ (q.items ++ T3) in
        let T1 : List Item = b.items ++ T2 in
        let top_at : behind code l ≡ spelled_all (T1 ++ is) = res.1.0 in
        let res1 = resolves_split code b.items T2 is res.1.1 in
        let res2 = resolves_back code b.items (T2 ++ is) res1 in
        let test_at : behind code (suc l) ≡ spelled_all ((q.items ++ T3) ++ is) = res2.0 in
        let res3 = resolves_split code q.items T3 is res2.1 in
        let end_at : behind code (suc (suc l)) ≡ spelled_all is = (resolves_back code q.items (T3 ++ is) res3).0 in
        let low_h = lands_below program code callers size count first level out own k lb lc inside outer scope is κ h in
        let test_it : (st : State) (d : Desk) → fair scope st d → Leads k (next (Look (plain_loop c a)) κ st) (from ((q.items ++ T3) ++ is) d) = λ st d ag.
        subst (λ r. Leads k r (from ((q.items ++ T3) ++ is) d)) (sym (next_is (Look (plain_loop c a)) κ st))
        (loop_look c a to l b scope within fit std inside lb lc outer is res k below κ low_h
        (λ back st1 d1 ag1. loop_turn c a to l b scope after within fit std sub body inside lb lc outer is res t above below κ low_h back st1 d1 ag1) st d ag) in
        leads_counted k _ _ back (moves program code callers full (behind code l) (spelled_all (T1 ++ is)) d _ top_at
        (joined full b.items T2 is d _ (body.1 full k.spare (ample k (act_zeros a) le.1 body.0) below (T2 ++ is) (turned p next κ (next (Look (plain_loop c a)) κ)) res1
        (record {
          onward =
              λ st2 d2 ag2. label_step program code callers k (suc l) ((q.items ++ T3) ++ is) d2 _
              (test_it st2 d2 (agree_less (extent_of program) size first (length callers) scope after st2 d2 sub ag2));
          broke = λ e st2 d2 ag2. goes_on program code callers k (suc (suc l)) (T2 ++ is) d2 _ (ahead_later (suc (suc l)) (Label (suc l)) ((q.items ++ T3) ++ is)
              (ahead_joined (suc (suc l)) q.items T3 is (ahead_behind (suc (suc l)) q.items (T3 ++ is) (ahead_here (suc (suc l)) is))))
              (moves program code callers k (behind code (suc (suc l))) (spelled_all is) d2 _ end_at (low_h.onward st2 d2 ag2));
          continued = λ e st2 d2 ag2. goes_on program code callers k (suc l) (T2 ++ is) d2 _ (ahead_here (suc l) ((q.items ++ T3) ++ is))
              (moves program code callers k (behind code (suc l)) (spelled_all ((q.items ++ T3) ++ is)) d2 _ test_at (test_it st2 d2 ag2));
          left = low_h.left;
        }) st d ag)))

    -- `do` begins with a turn, `while` with the test
    pub do_does : (c : AnExpression) (a : AnAction) (l : ℕ) (b : Emitted) (scope after outer : ℕ → Type 0) → ((x : ℕ) → scope x → x < size) → Fits scope c → Std c → ((x : ℕ) → scope x → after x)
        → DoesTurn a b (suc (suc l)) (suc l) true scope scope after (stmt p next a) → (inside : Bool) (lb lc : ℕ)
        → Does (act_zeros a) (loop_done l l b (when size count first out c l b.labels)) lb lc inside outer scope scope (stmt p next (DoOf a c))
    do_does c a l b scope after outer within fit std sub body inside lb lc k spare room le is κ res h st d ag =
        let up = spared k spare (act_zeros a) room lb lc inside outer scope is κ h in
        jump_counts program code callers k l (Label l ∷ ((b.items ++ (Label (suc l) ∷ ((when size count first out c l b.labels).items ++ (Label (suc (suc l)) ∷ [])))) ++ is)) _ d
        (loop_turn c a l l b scope after within fit std sub body inside lb lc outer is res k.turns k le κ up
        (is_back program code callers (Label l ∷ ((b.items ++ (Label (suc l) ∷ ((when size count first out c l b.labels).items ++ (Label (suc (suc l)) ∷ [])))) ++ is)) l) st d ag)

    late_does : (c : AnExpression) (a : AnAction) (l : ℕ) (b : Emitted) (scope after outer : ℕ → Type 0) → ((x : ℕ) → scope x → x < size) → Fits scope c → Std c → ((x : ℕ) → scope x → after x)
        → DoesTurn a b (suc (suc l)) (suc l) true scope scope after (stmt p next a) → (inside : Bool) (lb lc : ℕ)
        → Does (act_zeros a) (loop_done (suc l) l b (when size count first out c l b.labels)) lb lc inside outer scope scope (stmt p next (WhileOf c a))
    late_does c a l b scope after outer within fit std sub body inside lb lc k spare room le is κ res h st d ag =
        let up = spared k spare (act_zeros a) room lb lc inside outer scope is κ h in
        let q = when size count first out c l b.labels in
        let T3 : List Item = Label (suc (suc l)) ∷ [] in
        let T2 : List Item = Label (suc l) ∷ (q.items ++ T3) in
        let test_at : behind code (suc l) ≡ spelled_all ((q.items ++ T3) ++ is) = (resolves_back code b.items (T2 ++ is) (resolves_split code b.items T2 is res.1.1)).0 in
        jump_step program code callers k (suc l) (Label l ∷ ((b.items ++ T2) ++ is)) _ d
        (ahead_later (suc l) (Label l) ((b.items ++ T2) ++ is) (ahead_joined (suc l) b.items T2 is (ahead_behind (suc l) b.items (T2 ++ is) (ahead_here (suc l) ((q.items ++ T3) ++ is)))))
        (moves program code callers k (behind code (suc l)) (spelled_all ((q.items ++ T3) ++ is)) d _ test_at
        (loop_look c a (suc l) l b scope within fit std inside lb lc outer is res k le κ up
        (λ back st1 d1 ag1. loop_turn c a (suc l) l b scope after within fit std sub body inside lb lc outer is res k.turns k le κ up back st1 d1 ag1) st d ag))

    -- a `while` in either form
    pub while_by_does : (o : Option ℕ) (c : AnExpression) (a : AnAction) (l : ℕ) → constant_of c ≡ o
        → (scope after outer : ℕ → Type 0) → ((x : ℕ) → scope x → x < size) → Fits scope c → Std c → ((x : ℕ) → scope x → after x)
        → ((lb lc m : ℕ) → DoesTurn a (lower size count first out a NoActions lb lc m) lb lc true scope scope after (stmt p next a)) → (inside : Bool) (lb lc : ℕ)
        → Does (act_zeros a) (while_by size count first out o c (lower size count first out a NoActions) l) lb lc inside outer scope scope (stmt p next (WhileOf c a))
    while_by_does (Some v) c a l known scope after outer within fit std sub body inside lb lc =
        let q = unless size count first out c (suc l) (suc (suc l)) in
        while_does c a l (lower size count first out a NoActions (suc l) l q.labels) scope after outer within fit std v known sub (body (suc l) l q.labels) inside lb lc
    while_by_does None c a l known scope after outer within fit std sub body inside lb lc =
        late_does c a l (lower size count first out a NoActions (suc (suc l)) (suc l) (suc (suc (suc l)))) scope after outer within fit std sub
        (body (suc (suc l)) (suc l) (suc (suc (suc l)))) inside lb lc

    -- `for` with a constant test in front: its body, by the turns behind it
    for_body : (c : AnExpression) (e : Option AnExpression) (a : AnAction) (l : ℕ) (b : Emitted) (scope after : ℕ → Type 0) → ((x : ℕ) → scope x → x < size) → FitsMaybe scope e → StdMaybe e
        → ((x : ℕ) → scope x → after x) → DoesTurn a b (suc (suc l)) (suc l) true scope scope after (stmt p next a) → (inside : Bool) (lb lc : ℕ) (outer : ℕ → Type 0) (is : List Item)
        → Resolves code (b.items ++ ((Label (suc l) ∷ ((effect size count first out e b.labels).items ++ (Jump l ∷ Label (suc (suc l)) ∷ []))) ++ is)) → (k : Depth) (spare : ℕ)
        → spare + act_zeros a ≤ k.spare → Under k level → (κ : Behind)
        → LandsAt (with_spare k spare) lb lc inside outer scope is κ → TurnedAt l (with_spare k spare) scope (next (Look (for_loop (Some c) e a)) κ) → (st : State) (d : Desk) → fair scope st d
        → Leads k (stmt p next a (turned p next κ (dropped p next e (next (Look (for_loop (Some c) e a)) κ))) st)
        (from ((b.items ++ (Label (suc l) ∷ ((effect size count first out e b.labels).items ++ (Jump l ∷ Label (suc (suc l)) ∷ [])))) ++ is) d)
    for_body c e a l b scope after within fit' std' sub body inside lb lc outer is res k spare room le κ h again st d ag =
        let j : Depth = with_spare k spare in
        let lp : ALoop = for_loop (Some c) e a in
        let s = effect size count first out e b.labels in
        let T3 : List Item = Jump l ∷ Label (suc (suc l)) ∷ [] in
        let T2 : List Item = Label (suc l) ∷ (s.items ++ T3) in
        let res2 = resolves_back code b.items (T2 ++ is) res in
        let step_at : behind code (suc l) ≡ spelled_all ((s.items ++ T3) ++ is) = res2.0 in
        let res3 = resolves_split code s.items T3 is res2.1 in
        let end_at : behind code (suc (suc l)) ≡ spelled_all is = (resolves_back code s.items (T3 ++ is) res3).1.0 in
        let step_it : (st : State) (d : Desk) → fair scope st d → Leads j (dropped p next e (next (Look lp) κ) st) (from ((s.items ++ T3) ++ is) d) = λ st d ag.
        joined j s.items T3 is d _
        (effect_does program code callers size count first level out own p next counts_all lowers calls objects_are addresses next_is there takes literals lies scope within e fit' std'
        b.labels j le (T3 ++ is) (next (Look lp) κ) res3 st d ag
        (λ st1 d1 ag1. jump_counts program code callers j l (Label (suc (suc l)) ∷ is) _ d1 (again (is_back program code callers (Label (suc (suc l)) ∷ is) l) st1 d1 ag1))) in
        joined k b.items T2 is d _ (body.1 k spare room le (T2 ++ is) (turned p next κ (dropped p next e (next (Look lp) κ))) res
        (record {
          onward =
              λ st2 d2 ag2. label_step program code callers j (suc l) ((s.items ++ T3) ++ is) d2 _
              (step_it st2 d2 (agree_less (extent_of program) size first (length callers) scope after st2 d2 sub ag2));
          broke = λ e st2 d2 ag2. goes_on program code callers j (suc (suc l)) (T2 ++ is) d2 _
              (ahead_later (suc (suc l)) (Label (suc l)) ((s.items ++ T3) ++ is) (ahead_joined (suc (suc l)) s.items T3 is (ahead_behind (suc (suc l)) s.items (T3 ++ is)
              (ahead_later (suc (suc l)) (Jump l) (Label (suc (suc l)) ∷ is) (ahead_here (suc (suc l)) is)))))
              (moves program code callers j (behind code (suc (suc l))) (spelled_all is) d2 _ end_at (h.onward st2 d2 ag2));
          continued = λ e st2 d2 ag2. goes_on program code callers j (suc l) (T2 ++ is) d2 _ (ahead_here (suc l) ((s.items ++ T3) ++ is))
              (moves program code callers j (behind code (suc l)) (spelled_all ((s.items ++ T3) ++ is)) d2 _ step_at (step_it st2 d2 ag2));
          left = h.left;
        }) st d ag)

    -- a turn, whose tree is still to be done: its test is no 0
    for_turn : (c : AnExpression) (e : Option AnExpression) (a : AnAction) (l : ℕ) (b : Emitted) (scope after : ℕ → Type 0) → ((x : ℕ) → scope x → x < size) → Fits scope c → Std c
        → FitsMaybe scope e → StdMaybe e → (u : ℕ) → constant_of c ≡ Some (suc u) → ((x : ℕ) → scope x → after x) → DoesTurn a b (suc (suc l)) (suc l) true scope scope after (stmt p next a)
        → (inside : Bool) (lb lc : ℕ) (outer : ℕ → Type 0) (is : List Item)
        → Resolves code ((for_done l (unless size count first out c (suc (suc l)) (suc (suc (suc l)))) b (effect size count first out e b.labels)).items ++ is) → (t : ℕ) (k : Depth)
        → Under (at_turns t k) level → (κ : Behind)
        → LandsAt (at_turns t k) lb lc inside outer scope is κ
        → TurnedAt l (at_turns t k) scope (turn_by p next (for_loop (Some c) e a) (stmt p next a) κ)
    for_turn c e a l b scope after within fit std fit' std' u known sub body inside lb lc outer is res zero k le κ h back st d ag = leads_none k _ _
    for_turn c e a l b scope after within fit std fit' std' u known sub body inside lb lc outer is res (suc t) above le κ h back st d ag =
        let k : Depth = at_turns t above in
        let full : Depth = fuller k in
        let below : Under k level = (omega (arith, le.0), le.1) in
        let lp : ALoop = for_loop (Some c) e a in
        let q = unless size count first out c (suc (suc l)) (suc (suc (suc l))) in
        let asks = (expression scope within c fit std).branch false (suc (suc l)) first (suc (suc (suc l))) (omega arith) in
        let s = effect size count first out e b.labels in
        let T3 : List Item = Jump l ∷ Label (suc (suc l)) ∷ [] in
        let T2 : List Item = Label (suc l) ∷ (s.items ++ T3) in
        let T1 : List Item = b.items ++ T2 in
        let res0 = resolves_split code q.items T1 is res.1 in
        let res1 = resolves_split code b.items T2 is (resolves_back code q.items (T1 ++ is) res0) in
        let res2 = resolves_back code b.items (T2 ++ is) res1 in
        let end_at : behind code (suc (suc l)) ≡ spelled_all is = (resolves_back code s.items (T3 ++ is) (resolves_split code s.items T3 is res2.1)).1.0 in
        let top_at : behind code l ≡ spelled_all ((q.items ++ T1) ++ is) = res.0 in
        let low_h = lands_below program code callers size count first level out own k lb lc inside outer scope is κ h in
        let full_h = spared full k.spare 0 (omega arith) lb lc inside outer scope is κ low_h in
        let again : TurnedAt l k scope (next (Look lp) κ) = λ back st d ag.
        subst (λ r. Leads k r (one_tree (jumped back (at_items program code callers (behind code l) d))))
        (sym (next_is (Look lp) κ st ∙ constant_goes p next c (suc u) known (λ v st. chosen v (turn_by p next lp (stmt p next a) κ st) (κ Onward st)) st))
        (for_turn c e a l b scope after within fit std fit' std' u known sub body inside lb lc outer is res t above below κ low_h back st d ag) in
        let met : State → Runs = stmt p next a (turned p next κ (dropped p next e (next (Look lp) κ))) in
        leads_counted k _ _ back (moves program code callers full (behind code l) (spelled_all ((q.items ++ T1) ++ is)) d _ top_at
        (subst (λ r. Leads full r (from ((q.items ++ T1) ++ is) d)) (constant_goes p next c (suc u) known (λ v st. chosen v (met st) (κ Onward st)) st)
        (joined full q.items T1 is d _ (asks.runs full below (T1 ++ is) met (κ Onward) res0 st d ag
        (λ st1 d1 ag1 s1. goes_on program code callers full (suc (suc l)) (T1 ++ is) d1 _
        (ahead_joined (suc (suc l)) b.items T2 is (ahead_behind (suc (suc l)) b.items (T2 ++ is) (ahead_later (suc (suc l)) (Label (suc l)) ((s.items ++ T3) ++ is)
        (ahead_joined (suc (suc l)) s.items T3 is (ahead_behind (suc (suc l)) s.items (T3 ++ is) (ahead_later (suc (suc l)) (Jump l) (Label (suc (suc l)) ∷ is) (ahead_here (suc (suc l)) is)))))))
        (moves program code callers full (behind code (suc (suc l))) (spelled_all is) d1 _ end_at (full_h.onward st1 d1 ag1)))
        (λ st1 d1 ag1 s1. leads_quiet full _ _
        (for_body c e a l b scope after within fit' std' sub body inside lb lc outer is res1 full k.spare (ample k (act_zeros a) le.1 body.0) below κ low_h again st1 d1 ag1))))))

    -- `for` with its test in front, from behind its first label
    for_look : (c : AnExpression) (e : Option AnExpression) (a : AnAction) (l : ℕ) (b : Emitted) (scope after : ℕ → Type 0) → ((x : ℕ) → scope x → x < size) → Fits scope c → Std c
        → FitsMaybe scope e → StdMaybe e → (v : ℕ) → constant_of c ≡ Some v → ((x : ℕ) → scope x → after x) → DoesTurn a b (suc (suc l)) (suc l) true scope scope after (stmt p next a)
        → (inside : Bool) (lb lc : ℕ) (outer : ℕ → Type 0) (is : List Item)
        → Resolves code ((for_done l (unless size count first out c (suc (suc l)) (suc (suc (suc l)))) b (effect size count first out e b.labels)).items ++ is) → (t : ℕ) (k : Depth)
        → Under (at_turns t k) level → (κ : Behind)
        → LandsAt (at_turns t k) lb lc inside outer scope is κ → (st : State) (d : Desk) → fair scope st d
        → Leads (at_turns t k) (look_by p next (for_loop (Some c) e a) (stmt p next a) κ st)
        (from (((unless size count first out c (suc (suc l)) (suc (suc (suc l)))).items ++
        (b.items ++ (Label (suc l) ∷ ((effect size count first out e b.labels).items ++ (Jump l ∷ Label (suc (suc l)) ∷ []))))) ++ is) d)
    for_look c e a l b scope after within fit std fit' std' v known sub body inside lb lc outer is res zero k le κ h st d ag = leads_none k _ _
    for_look c e a l b scope after within fit std fit' std' zero known sub body inside lb lc outer is res (suc t) above le κ h st d ag =
        let k : Depth = at_turns t above in
        let lp : ALoop = for_loop (Some c) e a in
        let q = unless size count first out c (suc (suc l)) (suc (suc (suc l))) in
        let asks = (expression scope within c fit std).branch false (suc (suc l)) first (suc (suc (suc l))) (omega arith) in
        let s = effect size count first out e b.labels in
        let T3 : List Item = Jump l ∷ Label (suc (suc l)) ∷ [] in
        let T2 : List Item = Label (suc l) ∷ (s.items ++ T3) in
        let T1 : List Item = b.items ++ T2 in
        let res0 = resolves_split code q.items T1 is res.1 in
        let res1 = resolves_split code b.items T2 is (resolves_back code q.items (T1 ++ is) res0) in
        let res2 = resolves_back code b.items (T2 ++ is) res1 in
        let end_at : behind code (suc (suc l)) ≡ spelled_all is = (resolves_back code s.items (T3 ++ is) (resolves_split code s.items T3 is res2.1)).1.0 in
        subst (λ r. Leads (deeper k) r (from ((q.items ++ T1) ++ is) d))
        (constant_goes p next c 0 known (λ v st. chosen v (stop Wild) (κ Onward st)) st
        ∙ sym (constant_goes p next c 0 known (λ v st. chosen v (turn_by p next lp (stmt p next a) κ st) (κ Onward st)) st))
        (joined (deeper k) q.items T1 is d _ (asks.runs (deeper k) le (T1 ++ is) (λ st. stop Wild) (κ Onward) res0 st d ag
        (λ st1 d1 ag1 s1. goes_on program code callers (deeper k) (suc (suc l)) (T1 ++ is) d1 _
        (ahead_joined (suc (suc l)) b.items T2 is (ahead_behind (suc (suc l)) b.items (T2 ++ is) (ahead_later (suc (suc l)) (Label (suc l)) ((s.items ++ T3) ++ is)
        (ahead_joined (suc (suc l)) s.items T3 is (ahead_behind (suc (suc l)) s.items (T3 ++ is) (ahead_later (suc (suc l)) (Jump l) (Label (suc (suc l)) ∷ is) (ahead_here (suc (suc l)) is)))))))
        (moves program code callers (deeper k) (behind code (suc (suc l))) (spelled_all is) d1 _ end_at (h.onward st1 d1 ag1)))
        (λ st1 d1 ag1 s1. leads_wild (deeper k) _)))
    for_look c e a l b scope after within fit std fit' std' (suc u) known sub body inside lb lc outer is res (suc t) above le κ h st d ag =
        let k : Depth = at_turns t above in
        let full : Depth = fuller k in
        let below : Under k level = (omega (arith, le.0), le.1) in
        let lp : ALoop = for_loop (Some c) e a in
        let q = unless size count first out c (suc (suc l)) (suc (suc (suc l))) in
        let asks = (expression scope within c fit std).branch false (suc (suc l)) first (suc (suc (suc l))) (omega arith) in
        let s = effect size count first out e b.labels in
        let T3 : List Item = Jump l ∷ Label (suc (suc l)) ∷ [] in
        let T2 : List Item = Label (suc l) ∷ (s.items ++ T3) in
        let T1 : List Item = b.items ++ T2 in
        let res0 = resolves_split code q.items T1 is res.1 in
        let res1 = resolves_split code b.items T2 is (resolves_back code q.items (T1 ++ is) res0) in
        let res2 = resolves_back code b.items (T2 ++ is) res1 in
        let end_at : behind code (suc (suc l)) ≡ spelled_all is = (resolves_back code s.items (T3 ++ is) (resolves_split code s.items T3 is res2.1)).1.0 in
        let low_h = lands_below program code callers size count first level out own k lb lc inside outer scope is κ h in
        let again : TurnedAt l k scope (next (Look lp) κ) = λ back st d ag.
        subst (λ r. Leads k r (one_tree (jumped back (at_items program code callers (behind code l) d))))
        (sym (next_is (Look lp) κ st ∙ constant_goes p next c (suc u) known (λ v st. chosen v (turn_by p next lp (stmt p next a) κ st) (κ Onward st)) st))
        (for_turn c e a l b scope after within fit std fit' std' u known sub body inside lb lc outer is res t above below κ low_h back st d ag) in
        joined (deeper k) q.items T1 is d _ (asks.runs (deeper k) le (T1 ++ is) (turn_by p next lp (stmt p next a) κ) (κ Onward) res0 st d ag
        (λ st1 d1 ag1 s1. goes_on program code callers (deeper k) (suc (suc l)) (T1 ++ is) d1 _
        (ahead_joined (suc (suc l)) b.items T2 is (ahead_behind (suc (suc l)) b.items (T2 ++ is) (ahead_later (suc (suc l)) (Label (suc l)) ((s.items ++ T3) ++ is)
        (ahead_joined (suc (suc l)) s.items T3 is (ahead_behind (suc (suc l)) s.items (T3 ++ is) (ahead_later (suc (suc l)) (Jump l) (Label (suc (suc l)) ∷ is) (ahead_here (suc (suc l)) is)))))))
        (moves program code callers (deeper k) (behind code (suc (suc l))) (spelled_all is) d1 _ end_at (h.onward st1 d1 ag1)))
        (λ st1 d1 ag1 s1. leads_counted k _ _ false
        (for_body c e a l b scope after within fit' std' sub body inside lb lc outer is res1 full k.spare (ample k (act_zeros a) le.1 body.0) below κ low_h again st1 d1 ag1)))

    -- `for` without a test: a turn, whose tree is still to be done
    ever_turn : (e : Option AnExpression) (a : AnAction) (l : ℕ) (b : Emitted) (scope after : ℕ → Type 0) → ((x : ℕ) → scope x → x < size) → FitsMaybe scope e → StdMaybe e
        → ((x : ℕ) → scope x → after x) → DoesTurn a b (suc (suc l)) (suc l) true scope scope after (stmt p next a) → (inside : Bool) (lb lc : ℕ) (outer : ℕ → Type 0) (is : List Item)
        → Resolves code ((ever_done l b (effect size count first out e b.labels)).items ++ is) → (t : ℕ) (k : Depth) → Under (at_turns t k) level → (κ : Behind)
        → LandsAt (at_turns t k) lb lc inside outer scope is κ
        → TurnedAt l (at_turns t k) scope (turn_by p next (for_loop None e a) (stmt p next a) κ)
    ever_turn e a l b scope after within fit' std' sub body inside lb lc outer is res zero k le κ h back st d ag = leads_none k _ _
    ever_turn e a l b scope after within fit' std' sub body inside lb lc outer is res (suc t) above le κ h back st d ag =
        let k : Depth = at_turns t above in
        let full : Depth = fuller k in
        let below : Under k level = (omega (arith, le.0), le.1) in
        let lp : ALoop = for_loop None e a in
        let s = effect size count first out e b.labels in
        let T3 : List Item = Jump l ∷ Label (suc (suc l)) ∷ [] in
        let T2 : List Item = Label (suc l) ∷ (s.items ++ T3) in
        let T1 : List Item = b.items ++ T2 in
        let top_at : behind code l ≡ spelled_all (T1 ++ is) = res.1.0 in
        let res1 = resolves_split code b.items T2 is res.1.1 in
        let res2 = resolves_back code b.items (T2 ++ is) res1 in
        let step_at : behind code (suc l) ≡ spelled_all ((s.items ++ T3) ++ is) = res2.0 in
        let res3 = resolves_split code s.items T3 is res2.1 in
        let end_at : behind code (suc (suc l)) ≡ spelled_all is = (resolves_back code s.items (T3 ++ is) res3).1.0 in
        let low_h = lands_below program code callers size count first level out own k lb lc inside outer scope is κ h in
        let again : TurnedAt l k scope (next (Look lp) κ) = λ back st d ag.
        subst (λ r. Leads k r (one_tree (jumped back (at_items program code callers (behind code l) d)))) (sym (next_is (Look lp) κ st))
        (ever_turn e a l b scope after within fit' std' sub body inside lb lc outer is res t above below κ low_h back st d ag) in
        let step_it : (st : State) (d : Desk) → fair scope st d → Leads k (dropped p next e (next (Look lp) κ) st) (from ((s.items ++ T3) ++ is) d) = λ st d ag.
        joined k s.items T3 is d _
        (effect_does program code callers size count first level out own p next counts_all lowers calls objects_are addresses next_is there takes literals lies scope within e fit' std'
        b.labels k below (T3 ++ is) (next (Look lp) κ) res3 st d ag
        (λ st1 d1 ag1. jump_counts program code callers k l (Label (suc (suc l)) ∷ is) _ d1 (again (is_back program code callers (Label (suc (suc l)) ∷ is) l) st1 d1 ag1))) in
        leads_counted k _ _ back (moves program code callers full (behind code l) (spelled_all (T1 ++ is)) d _ top_at
        (joined full b.items T2 is d _ (body.1 full k.spare (ample k (act_zeros a) le.1 body.0) below (T2 ++ is) (turned p next κ (dropped p next e (next (Look lp) κ))) res1
        (record {
          onward =
              λ st2 d2 ag2. label_step program code callers k (suc l) ((s.items ++ T3) ++ is) d2 _
              (step_it st2 d2 (agree_less (extent_of program) size first (length callers) scope after st2 d2 sub ag2));
          broke = λ e st2 d2 ag2. goes_on program code callers k (suc (suc l)) (T2 ++ is) d2 _
              (ahead_later (suc (suc l)) (Label (suc l)) ((s.items ++ T3) ++ is) (ahead_joined (suc (suc l)) s.items T3 is (ahead_behind (suc (suc l)) s.items (T3 ++ is)
              (ahead_later (suc (suc l)) (Jump l) (Label (suc (suc l)) ∷ is) (ahead_here (suc (suc l)) is)))))
              (moves program code callers k (behind code (suc (suc l))) (spelled_all is) d2 _ end_at (low_h.onward st2 d2 ag2));
          continued = λ e st2 d2 ag2. goes_on program code callers k (suc l) (T2 ++ is) d2 _ (ahead_here (suc l) ((s.items ++ T3) ++ is))
              (moves program code callers k (behind code (suc l)) (spelled_all ((s.items ++ T3) ++ is)) d2 _ step_at (step_it st2 d2 ag2));
          left = low_h.left;
        }) st d ag)))

    -- `for` with its test behind the step: the test, by the turns behind it
    turns_look : (c : AnExpression) (e : Option AnExpression) (a : AnAction) (l : ℕ) (b : Emitted) (scope : ℕ → Type 0) → ((x : ℕ) → scope x → x < size) → Fits scope c → Std c
        → (inside : Bool) (lb lc : ℕ) (outer : ℕ → Type 0) (is : List Item)
        → Resolves code ((turns_done l b (effect size count first out e b.labels) (when size count first out c l (effect size count first out e b.labels).labels)).items ++ is) → (k : Depth)
        → Under k level
        → (κ : Behind)
        → LandsAt k lb lc inside outer scope is κ
        → TurnedAt l k scope (turn_by p next (for_loop (Some c) e a) (stmt p next a) κ)
        → (st : State) (d : Desk) → fair scope st d → Leads k (look_by p next (for_loop (Some c) e a) (stmt p next a) κ st)
        (from (((when size count first out c l (effect size count first out e b.labels).labels).items ++ (Label (suc (suc l)) ∷ [])) ++ is) d)
    turns_look c e a l b scope within fit std inside lb lc outer is res k le κ h turns st d ag =
        let s = effect size count first out e b.labels in
        let q = when size count first out c l s.labels in
        let asks = (expression scope within c fit std).branch true l first s.labels (omega arith) in
        let T4 : List Item = Label (suc (suc l)) ∷ [] in
        let T3 : List Item = Label (suc (suc (suc l))) ∷ (q.items ++ T4) in
        let T2 : List Item = Label (suc l) ∷ (s.items ++ T3) in
        let res3 = resolves_split code s.items T3 is (resolves_back code b.items (T2 ++ is) (resolves_split code b.items T2 is res.1.1)).1 in
        let res4 = resolves_split code q.items T4 is (resolves_back code s.items (T3 ++ is) res3).1 in
        joined k q.items T4 is d _ (asks.runs k le (T4 ++ is) (turn_by p next (for_loop (Some c) e a) (stmt p next a) κ) (κ Onward) res4 st d ag
        (λ st1 d1 ag1 s1. turns (is_back program code callers (T4 ++ is) l) st1 d1 ag1)
        (λ st1 d1 ag1 s1. label_counts program code callers k (suc (suc l)) is d1 _ (leads_quiet k _ _ (h.onward st1 d1 ag1))))

    -- and a turn, whose tree is still to be done
    turns_turn : (c : AnExpression) (e : Option AnExpression) (a : AnAction) (l : ℕ) (b : Emitted) (scope after : ℕ → Type 0) → ((x : ℕ) → scope x → x < size) → Fits scope c → Std c
        → FitsMaybe scope e → StdMaybe e → ((x : ℕ) → scope x → after x) → DoesTurn a b (suc (suc l)) (suc l) true scope scope after (stmt p next a)
        → (inside : Bool) (lb lc : ℕ) (outer : ℕ → Type 0) (is : List Item)
        → Resolves code ((turns_done l b (effect size count first out e b.labels) (when size count first out c l (effect size count first out e b.labels).labels)).items ++ is) → (t : ℕ) (k : Depth)
        → Under (at_turns t k) level → (κ : Behind)
        → LandsAt (at_turns t k) lb lc inside outer scope is κ → TurnedAt l (at_turns t k) scope (turn_by p next (for_loop (Some c) e a) (stmt p next a) κ)
    turns_turn c e a l b scope after within fit std fit' std' sub body inside lb lc outer is res zero k le κ h back st d ag = leads_none k _ _
    turns_turn c e a l b scope after within fit std fit' std' sub body inside lb lc outer is res (suc t) above le κ h back st d ag =
        let k : Depth = at_turns t above in
        let full : Depth = fuller k in
        let below : Under k level = (omega (arith, le.0), le.1) in
        let lp : ALoop = for_loop (Some c) e a in
        let s = effect size count first out e b.labels in
        let q = when size count first out c l s.labels in
        let T4 : List Item = Label (suc (suc l)) ∷ [] in
        let T3 : List Item = Label (suc (suc (suc l))) ∷ (q.items ++ T4) in
        let T2 : List Item = Label (suc l) ∷ (s.items ++ T3) in
        let T1 : List Item = b.items ++ T2 in
        let top_at : behind code l ≡ spelled_all (T1 ++ is) = res.1.0 in
        let res1 = resolves_split code b.items T2 is res.1.1 in
        let res2 = resolves_back code b.items (T2 ++ is) res1 in
        let step_at : behind code (suc l) ≡ spelled_all ((s.items ++ T3) ++ is) = res2.0 in
        let res3 = resolves_split code s.items T3 is res2.1 in
        let res4 = resolves_split code q.items T4 is (resolves_back code s.items (T3 ++ is) res3).1 in
        let end_at : behind code (suc (suc l)) ≡ spelled_all is = (resolves_back code q.items (T4 ++ is) res4).0 in
        let low_h = lands_below program code callers size count first level out own k lb lc inside outer scope is κ h in
        let test_it : (st : State) (d : Desk) → fair scope st d → Leads k (next (Look lp) κ st) (from ((q.items ++ T4) ++ is) d) = λ st d ag.
        subst (λ r. Leads k r (from ((q.items ++ T4) ++ is) d)) (sym (next_is (Look lp) κ st))
        (turns_look c e a l b scope within fit std inside lb lc outer is res k below κ low_h
        (λ back st1 d1 ag1. turns_turn c e a l b scope after within fit std fit' std' sub body inside lb lc outer is res t above below κ low_h back st1 d1 ag1) st d ag) in
        let step_it : (st : State) (d : Desk) → fair scope st d → Leads k (dropped p next e (next (Look lp) κ) st) (from ((s.items ++ T3) ++ is) d) = λ st d ag.
        joined k s.items T3 is d _
        (effect_does program code callers size count first level out own p next counts_all lowers calls objects_are addresses next_is there takes literals lies scope within e fit' std'
        b.labels k below (T3 ++ is) (next (Look lp) κ) res3 st d ag
        (λ st1 d1 ag1. label_step program code callers k (suc (suc (suc l))) ((q.items ++ T4) ++ is) d1 _ (test_it st1 d1 ag1))) in
        leads_counted k _ _ back (moves program code callers full (behind code l) (spelled_all (T1 ++ is)) d _ top_at
        (joined full b.items T2 is d _ (body.1 full k.spare (ample k (act_zeros a) le.1 body.0) below (T2 ++ is) (turned p next κ (dropped p next e (next (Look lp) κ))) res1
        (record {
          onward =
              λ st2 d2 ag2. label_step program code callers k (suc l) ((s.items ++ T3) ++ is) d2 _
              (step_it st2 d2 (agree_less (extent_of program) size first (length callers) scope after st2 d2 sub ag2));
          broke = λ e st2 d2 ag2. goes_on program code callers k (suc (suc l)) (T2 ++ is) d2 _
              (ahead_later (suc (suc l)) (Label (suc l)) ((s.items ++ T3) ++ is) (ahead_joined (suc (suc l)) s.items T3 is (ahead_behind (suc (suc l)) s.items (T3 ++ is)
              (ahead_later (suc (suc l)) (Label (suc (suc (suc l)))) ((q.items ++ T4) ++ is) (ahead_joined (suc (suc l)) q.items T4 is (ahead_behind (suc (suc l)) q.items (T4 ++ is)
              (ahead_here (suc (suc l)) is)))))))
              (moves program code callers k (behind code (suc (suc l))) (spelled_all is) d2 _ end_at (low_h.onward st2 d2 ag2));
          continued = λ e st2 d2 ag2. goes_on program code callers k (suc l) (T2 ++ is) d2 _ (ahead_here (suc l) ((s.items ++ T3) ++ is))
              (moves program code callers k (behind code (suc l)) (spelled_all ((s.items ++ T3) ++ is)) d2 _ step_at (step_it st2 d2 ag2));
          left = low_h.left;
        }) st d ag)))

    -- a `for` with a test, in either form
    tested_does : (o : Option ℕ) (c : AnExpression) (e : Option AnExpression) (a : AnAction) (l : ℕ) → constant_of c ≡ o
        → (scope after outer : ℕ → Type 0) → ((x : ℕ) → scope x → x < size) → Fits scope c → Std c
        → FitsMaybe scope e → StdMaybe e
        → ((x : ℕ) → scope x → after x) → ((m : ℕ) → DoesTurn a (lower size count first out a NoActions (suc (suc l)) (suc l) m) (suc (suc l)) (suc l) true scope scope after (stmt p next a))
        → (inside : Bool) (lb lc : ℕ)
        → Does (act_zeros a) (for_tested size count first out o l c e (lower size count first out a NoActions (suc (suc l)) (suc l))) lb lc inside outer scope scope
        (look_by p next (for_loop (Some c) e a) (stmt p next a))
    tested_does (Some v) c e a l known scope after outer within fit std fit' std' sub body inside lb lc k spare room le is κ res h st d ag =
        let up = spared k spare (act_zeros a) room lb lc inside outer scope is κ h in
        let q = unless size count first out c (suc (suc l)) (suc (suc (suc l))) in
        let b = lower size count first out a NoActions (suc (suc l)) (suc l) q.labels in
        label_step program code callers k l ((q.items ++ (b.items ++ (Label (suc l) ∷ ((effect size count first out e b.labels).items ++ (Jump l ∷ Label (suc (suc l)) ∷ []))))) ++ is) d _
        (for_look c e a l b scope after within fit std fit' std' v known sub (body q.labels) inside lb lc outer is res k.turns k le κ up st d ag)
    tested_does None c e a l known scope after outer within fit std fit' std' sub body inside lb lc k spare room le is κ res h st d ag =
        let up = spared k spare (act_zeros a) room lb lc inside outer scope is κ h in
        let b = lower size count first out a NoActions (suc (suc l)) (suc l) (suc (suc (suc (suc l)))) in
        let s = effect size count first out e b.labels in
        let q = when size count first out c l s.labels in
        let T4 : List Item = Label (suc (suc l)) ∷ [] in
        let T3 : List Item = Label (suc (suc (suc l))) ∷ (q.items ++ T4) in
        let T2 : List Item = Label (suc l) ∷ (s.items ++ T3) in
        let res3 = resolves_split code s.items T3 is (resolves_back code b.items (T2 ++ is) (resolves_split code b.items T2 is res.1.1)).1 in
        let test_at : behind code (suc (suc (suc l))) ≡ spelled_all ((q.items ++ T4) ++ is) = (resolves_back code s.items (T3 ++ is) res3).0 in
        jump_step program code callers k (suc (suc (suc l))) (Label l ∷ ((b.items ++ T2) ++ is)) _ d
        (ahead_later (suc (suc (suc l))) (Label l) ((b.items ++ T2) ++ is) (ahead_joined (suc (suc (suc l))) b.items T2 is (ahead_behind (suc (suc (suc l))) b.items (T2 ++ is)
        (ahead_later (suc (suc (suc l))) (Label (suc l)) ((s.items ++ T3) ++ is) (ahead_joined (suc (suc (suc l))) s.items T3 is (ahead_behind (suc (suc (suc l))) s.items (T3 ++ is)
        (ahead_here (suc (suc (suc l))) ((q.items ++ T4) ++ is))))))))
        (moves program code callers k (behind code (suc (suc (suc l)))) (spelled_all ((q.items ++ T4) ++ is)) d _ test_at
        (turns_look c e a l b scope within fit std inside lb lc outer is res k le κ up
        (λ back st1 d1 ag1. turns_turn c e a l b scope after within fit std fit' std' sub (body (suc (suc (suc (suc l))))) inside lb lc outer is res k.turns k le κ up back st1 d1 ag1) st d ag))

    pub for_does : (c e : Option AnExpression) (a : AnAction) (l : ℕ) (scope after outer : ℕ → Type 0) → ((x : ℕ) → scope x → x < size) → FitsMaybe scope c → StdMaybe c → FitsMaybe scope e
        → StdMaybe e
        → ((x : ℕ) → scope x → after x) → ((m : ℕ) → DoesTurn a (lower size count first out a NoActions (suc (suc l)) (suc l) m) (suc (suc l)) (suc l) true scope scope after (stmt p next a))
        → (inside : Bool) (lb lc : ℕ) → Does (act_zeros a) (for_of size count first out l c e (lower size count first out a NoActions (suc (suc l)) (suc l))) lb lc inside outer scope scope
        (look_by p next (for_loop c e a) (stmt p next a))
    for_does None e a l scope after outer within fit std fit' std' sub body inside lb lc k spare room le is κ res h st d ag =
        let up = spared k spare (act_zeros a) room lb lc inside outer scope is κ h in
        let b = lower size count first out a NoActions (suc (suc l)) (suc l) (suc (suc (suc l))) in
        jump_counts program code callers k l (Label l ∷ ((b.items ++ (Label (suc l) ∷ ((effect size count first out e b.labels).items ++ (Jump l ∷ Label (suc (suc l)) ∷ [])))) ++ is)) _ d
        (ever_turn e a l b scope after within fit' std' sub (body (suc (suc (suc l)))) inside lb lc outer is res k.turns k le κ up
        (is_back program code callers (Label l ∷ ((b.items ++ (Label (suc l) ∷ ((effect size count first out e b.labels).items ++ (Jump l ∷ Label (suc (suc l)) ∷ [])))) ++ is)) l) st d ag)
    for_does (Some c) e a l scope after outer within fit std fit' std' sub body inside lb lc k spare room le is κ res h st d ag =
        tested_does (constant_of c) c e a l refl scope after outer within fit std fit' std' sub body inside lb lc k spare room le is κ res h st d ag
