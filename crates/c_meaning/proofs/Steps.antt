-- One step of the machine at a time.
use Rattle.std.proofs.Common.{◌≡◌, ℕ, zero, suc, ◌+◌, ◌<◌, ◌≤◌, List, [], ◌∷◌, ◌++◌, Some, None, Option, refl, sym, ap, ◌∙◌, subst, arith, length, get_or, false, append_assoc}
use Rattle.std.proofs.Common.{lt-ltb, le-ltb, ltb-false, replicate}
use Rattle.std.proofs.lemmas.Option.{slice_get_read, slice_get_past, slice_get-map}
use Rattle.std.specs.Prelude.{slice_get, nat_lt, map, is_some, unwrap_or, IfSome, true, if◌then◌else◌}
use Rattle.std.specs.Option.{option_map, option_copied}
use Rattle.std.specs.Global.{Vec}
use Rattle.std.specs.Borrow.{Bor}
use Rattle.gg_base.specs.Runs.{Runs, stop, counted}
use Rattle.tree_core.specs.declared.program.Object.{Object}
use Rattle.c_types.specs.declared.typed.Expression.{Expression}
use Rattle.c_types.specs.declared.types.CType.{CType}
use Rattle.c_types.specs.declared.typed.Callee.{Callee}
use Rattle.c_types.specs.Constants.{converted}
use Rattle.c_types.specs.Typed.{SomeExpressions, expression_of}
use Rattle.c_program.specs.declared.statement.Action.{Action}
use Rattle.c_program.specs.Statements.{acts, optional_expression}
use Rattle.gg_base.specs.declared.run.End.TheVariants.{Deep}
use Rattle.c_program.specs.declared.program.Routine.{Routine}
use Rattle.c_program.specs.Programs.{AProgram, routine}
use Rattle.c_meaning.specs.declared.flow.Flow.{Flow}
use Rattle.c_meaning.specs.declared.flow.Flow.TheVariants.{Onward}
use Rattle.gg_base.specs.declared.run.Finish.{Finish}
use Rattle.gg_base.specs.declared.run.Finish.TheVariants as finish
use Rattle.c_meaning.specs.declared.store.Activation.{Activation}
use Rattle.c_meaning.specs.declared.store.Store.{Store}
use Rattle.c_meaning.specs.declared.flow.Event.{Event}
use Rattle.c_meaning.specs.declared.flow.Event.TheVariants.{Quiet, Wrote, Counted, Stopped}
use Rattle.c_meaning.specs.declared.frame.ValueFrame.{ValueFrame}
use Rattle.c_meaning.specs.declared.frame.ValueFrame.TheVariants as waiting
use Rattle.c_meaning.specs.declared.frame.FlowFrame.{FlowFrame}
use Rattle.c_meaning.specs.declared.frame.FlowFrame.TheVariants as leaving
use Rattle.c_meaning.specs.declared.frame.Frame.{Frame}
use Rattle.c_meaning.specs.declared.frame.Frame.TheVariants.{ForValue, ForArgument, ForFlow, ForCall}
use Rattle.c_meaning.specs.declared.frame.Control.{Control}
use Rattle.c_meaning.specs.declared.frame.Control.TheVariants as controls
use Rattle.c_meaning.specs.declared.machine.Machine.{Machine}
use Rattle.c_meaning.specs.State.{State}
use Rattle.c_meaning.specs.declared.frame.Loop.{Loop}
use Rattle.c_meaning.specs.Values.{Rest, RestAll, Behind, Look, Body, chosen}
use Rattle.c_meaning.specs.Meaning.{dropped, look_at, turn_at, arguments, expr, stmts}
use Rattle.c_meaning.specs.Programs.{means}
use Rattle.c_meaning.specs.Blocks.{claimed, released}
use Rattle.c_meaning.specs.Calls.{passed, call, called, answer, back, begun, performed}
use Rattle.c_meaning.proofs.Law.{means_is}
use Rattle.gg_base.specs.Turns.{end_of}
use Rattle.c_meaning.specs.Pending.{program_of, tasks_of, with_value, with_flow, Signal, Valued, Leaves, Then, waits, to_come}
use Rattle.c_meaning.specs.Pending.{stack, bottom, before, going}
use Rattle.c_meaning.specs.Parts.{loop_of, maybe_bor, activation, state}
use Rattle.c_meaning.specs.Work.{arguments_work}
use Rattle.c_meaning.specs.FrameWork.{value_work, flow_work, frame_work, frames_work}
use Rattle.c_meaning.specs.Runner.{Progress, Makes, Does, Steps, Goes, Waiting, Counts, Resumes, Reaches}

pub stack_push : (p : AProgram) (κ : Then) (fs : List Frame) (f : Frame) → stack p κ (fs ++ f ∷ []) ≡ before p f (stack p κ fs)
stack_push p κ [] f = refl
stack_push p κ (g ∷ fs) f = stack_push p (before p g κ) fs f

pub work_push : (fs : List Frame) (f : Frame) → frames_work (fs ++ f ∷ []) ≡ frames_work fs + frame_work f
work_push [] f = omega arith
work_push (g ∷ fs) f = omega (arith, work_push fs f)

more_bound : (run : Runs) (a b : ℕ) (event : Event) (new : Machine) → a ≤ b → Progress run a event new → Progress run b event new
more_bound run a b Quiet new le p = (p.0, omega (arith, p.1))
more_bound run a b (Wrote x) new le p = p
more_bound run a b Counted new le p = p
more_bound run a b (Stopped e) new le p = p

-- progress with one run is progress with another that is the same there
pub over : {m k new : Machine} {event : Event} {F G : Then → State → Runs} {a b : ℕ} → Makes k F a event new → G (waits m) (state m.store) ≡ F (waits k) (state k.store) → a
    + frames_work k.frames.items ≤ b + frames_work m.frames.items → Makes m G b event new
over {m} {k} {new} {event} {F} {G} {a} {b} h same le =
    record { progress = subst (λ r. Progress r (b + frames_work m.frames.items) event new) (sym same) (more_bound (F (waits k) (state k.store)) _ _ event new le h.progress) }

-- a control is next
pub goes : (m : Machine) (c : Control) → Goes m c Quiet (record m { control = c })
goes m c = record { progress = (refl, omega arith) }

pushed : (m : Machine) (f : Frame) (c : Control) (v : Vec Frame) → v.items ≡ m.frames.items ++ f ∷ []
    → going (program_of m) c (before (program_of m) f (waits m)) (state m.store) ≡ to_come (record m { control = c; frames = v })
pushed m f c v push =
    let p = program_of m in
    sym (ap (λ fs. going p c (stack p (bottom p) fs) (state m.store)) push ∙ ap (λ κ. going p c κ (state m.store)) (stack_push p (bottom p) m.frames.items f))

-- one more frame waits
pub waits_for : (m : Machine) (f : Frame) (c : Control) (v : Vec Frame) → v.items ≡ m.frames.items ++ f ∷ [] → Waiting m f c Quiet (record m { control = c; frames = v })
waits_for m f c v push = record { progress = (pushed m f c v push, omega (arith, ap frames_work push, work_push m.frames.items f)) }

-- what is done behind a frame that was just put on the list
pub behind : {new : Machine} {event : Event} {F : Then → State → Runs} {a : ℕ} (m : Machine) (v : Vec Frame) (f : Frame) → v.items ≡ m.frames.items ++ f ∷ []
    → Makes (record m { frames = v }) F a event new → Makes m (λ κ. F (before (program_of m) f κ)) (a + frame_work f) event new
behind {new} {event} {F} {a} m v f push h =
    let p = program_of m in
    over h (sym (ap (λ fs. F (stack p (bottom p) fs) (state m.store)) push ∙ ap (λ κ. F κ (state m.store)) (stack_push p (bottom p) m.frames.items f)))
    (omega (arith, ap frames_work push, work_push m.frames.items f))

pub counts : (m : Machine) (f : Frame) (c : Control) (v : Vec Frame) → v.items ≡ m.frames.items ++ f ∷ [] → Counts m f c Counted (record m { control = c; frames = v })
counts m f c v push = record { progress = ap counted (pushed m f c v push) }

-- the last frame is taken off the list
popped : (m : Machine) (v : Vec Frame) (f : Frame) (x : Signal) → m.frames.items ≡ v.items ++ f ∷ [] → waits m x (state m.store)
    ≡ before (program_of m) f (waits (record m { frames = v })) x (state m.store)
popped m v f x pop =
    let p = program_of m in
    ap (λ fs. stack p (bottom p) fs x (state m.store)) pop ∙ ap (λ κ. κ x (state m.store)) (stack_push p (bottom p) v.items f)

pub popped_value : (m : Machine) (v : Vec Frame) (f : Frame) (x : ℕ) {event : Event} {new : Machine} → m.frames.items ≡ v.items ++ f ∷ []
    → Makes (record m { frames = v }) (λ κ. before (program_of m) f κ (Valued x)) (frame_work f + 1) event new → Does m (controls.Value x) event new
popped_value m v f x pop h = over h (popped m v f (Valued x) pop) (omega (arith, ap frames_work pop, work_push v.items f))

pub popped_flow : (m : Machine) (v : Vec Frame) (f : Frame) (w : Flow) {event : Event} {new : Machine} → m.frames.items ≡ v.items ++ f ∷ []
    → Makes (record m { frames = v }) (λ κ. before (program_of m) f κ (Leaves w)) (frame_work f + 1) event new → Does m (controls.Left w) event new
popped_flow m v f w pop h = over h (popped m v f (Leaves w) pop) (omega (arith, ap frames_work pop, work_push v.items f))

-- a frame that is not for a value, or not for a statement that is left, is passed
value_work_pos : (f : ValueFrame) → 0 < value_work f
value_work_pos (waiting.Unary op) = omega arith
value_work_pos (waiting.Convert t) = omega arith
value_work_pos (waiting.Right op e) = omega arith
value_work_pos (waiting.Last op x) = omega arith
value_work_pos (waiting.AndRight e) = omega arith
value_work_pos (waiting.OrRight e) = omega arith
value_work_pos waiting.Truth = omega arith
value_work_pos (waiting.Choose a b) = omega arith
value_work_pos (waiting.Comma e) = omega arith
value_work_pos (waiting.Found t u) = omega arith
value_work_pos (waiting.Assign t s) = omega arith
value_work_pos (waiting.Change t s op x) = omega arith
value_work_pos waiting.Forget = omega arith
value_work_pos (waiting.Begin n ds) = omega arith
value_work_pos (waiting.Store t o ds) = omega arith
value_work_pos (waiting.If a) = omega arith
value_work_pos (waiting.IfElse a b) = omega arith
value_work_pos waiting.Return = omega arith
value_work_pos (waiting.Test l) = omega arith
value_work_pos (waiting.Look l) = omega arith

flow_work_pos : (f : FlowFrame) → 0 < flow_work f
flow_work_pos (leaving.Statements ss) = omega arith
flow_work_pos (leaving.Turn l) = omega arith

frame_work_pos : (f : Frame) → 0 < frame_work f
frame_work_pos (ForValue f) = value_work_pos f
frame_work_pos (ForArgument c done ts es) = omega arith
frame_work_pos (ForFlow f) = flow_work_pos f
frame_work_pos (ForCall c active block) = omega arith

pub passed_value : (m : Machine) (v : Vec Frame) (f : Frame) (x : ℕ) {event : Event} {new : Machine} → m.frames.items ≡ v.items ++ f ∷ []
    → before (program_of m) f (waits (record m { frames = v })) (Valued x) ≡ waits (record m { frames = v }) (Valued x)
    → Goes (record m { frames = v }) (controls.Value x) event new → Does m (controls.Value x) event new
passed_value m v f x pop same h = over h (popped m v f (Valued x) pop ∙ ap (λ κ. κ (state m.store)) same)
    (omega (arith, ap frames_work pop, work_push v.items f, frame_work_pos f))

pub passed_flow : (m : Machine) (v : Vec Frame) (f : Frame) (w : Flow) {event : Event} {new : Machine} → m.frames.items ≡ v.items ++ f ∷ []
    → before (program_of m) f (waits (record m { frames = v })) (Leaves w) ≡ waits (record m { frames = v }) (Leaves w)
    → Goes (record m { frames = v }) (controls.Left w) event new → Does m (controls.Left w) event new
passed_flow m v f w pop same h = over h (popped m v f (Leaves w) pop ∙ ap (λ κ. κ (state m.store)) same)
    (omega (arith, ap frames_work pop, work_push v.items f, frame_work_pos f))

-- steps up to what shows
pub reaches : (old mid new : Machine) (event : Event) → (event ≡ Quiet → ⊥) → to_come old ≡ to_come mid → Steps mid event new → Reaches old event new
reaches old mid new Quiet not_quiet same h = absurd (not_quiet refl)
reaches old mid new (Wrote b) not_quiet same h = same ∙ h.progress
reaches old mid new Counted not_quiet same h = same ∙ h.progress
reaches old mid new (Stopped e) not_quiet same h = (same ∙ h.progress.0, h.progress.1)

-- a function of the program that is there, or is not
pub found : (all l : List Routine) (f : ℕ) (g : Routine) → l ≡ all → f < length l → g ≡ get_or l f g → slice_get (map routine all) f ≡ Some (routine g)
found all l f g same lt at = slice_get-map routine all f ∙ ap (option_map routine) (ap (λ x. slice_get x f) (sym same) ∙ slice_get_read l (length l) f g refl lt at)

pub missing : (all l : List Routine) (f : ℕ) → l ≡ all → false ≡ nat_lt f (length l) → slice_get (map routine all) f ≡ None
missing all l f same test = slice_get-map routine all f ∙ ap (option_map routine) (ap (λ x. slice_get x f) (sym same) ∙ slice_get_past l f (ltb-false f (length l) (sym test)))

-- something is put into an automatic local, or somewhere
pub state_some : (o : Option State) (st st' : State) → true ≡ is_some o → st' ≡ unwrap_or o st → o ≡ Some st'
state_some None st st' h e = absurd (cc)
state_some (Some x) st st' h e = ap Some (sym e)

-- zeros are put into elements of the block
pub zeros_some : (o : Option State) (st' : State) → true ≡ is_some o → IfSome o (λ st. st' ≡ st) → o ≡ Some st'
zeros_some None st' h e = absurd (cc)
zeros_some (Some x) st' h e = ap Some (sym e)

pub none_there : (o : Option State) → false ≡ is_some o → o ≡ None
none_there None h = refl
none_there (Some x) h = absurd (cc)

pub chosen_some : (v : ℕ) (a b : Runs) → (v ≡ 0 → ⊥) → chosen v a b ≡ a
chosen_some zero a b h = absurd (h refl)
chosen_some (suc v) a b h = refl

-- another look at a loop that has no step
pub look_is : (m : Machine) (l : Loop) → l.step ≡ None → dropped (program_of m) (tasks_of m) (loop_of l).step
    (tasks_of m (Look (loop_of l)) (with_flow (waits m))) (state m.store)
    ≡ look_at (program_of m) (tasks_of m) (loop_of l) (with_flow (waits m)) (state m.store)
look_is m l none =
    let p = program_of m in
    ap (λ o. dropped p (means p) (maybe_bor o) (means p (Look (loop_of l)) (with_flow (waits m))) (state m.store)) none
    ∙ means_is p (Look (loop_of l)) (with_flow (waits m)) (state m.store)

-- the same, where it has one
pub look_behind : (m : Machine) (l : Loop) (e : Bor Expression) → l.step ≡ Some e
    → dropped (program_of m) (tasks_of m) (loop_of l).step (tasks_of m (Look (loop_of l)) (with_flow (waits m))) (state m.store)
    ≡ expr (program_of m) (tasks_of m) (expression_of e.now) (λ v. look_at (program_of m) (tasks_of m) (loop_of l) (with_flow (waits m))) (state m.store)
look_behind m l e is =
    let p = program_of m in
    ap (λ o. dropped p (means p) (maybe_bor o) (means p (Look (loop_of l)) (with_flow (waits m))) (state m.store)) is
    ∙ ap (λ (κ : State → Runs). expr p (means p) (expression_of e.now) (λ v. κ) (state m.store)) (λ i st. means_is p (Look (loop_of l)) (with_flow (waits m)) st i)

-- a part of a `for`, if it is there
pub part_is : (o : Option (Bor Expression)) (e : Option Expression) → option_copied o ≡ e → maybe_bor o ≡ optional_expression e
part_is None e is = ap optional_expression is
part_is (Some x) e is = ap optional_expression is

-- a turn of a loop whose condition is true
pub turns : {new : Machine} {event : Event} (m : Machine) (l : Loop) (v : ℕ) → (v ≡ 0 → ⊥)
    → Makes m (λ κ. turn_at (program_of m) (tasks_of m) (loop_of l) (with_flow κ)) 0 event new → Resumes m (waiting.Test l) v event new
turns {new} {event} m l v h w =
    over w (chosen_some v (turn_at (program_of m) (tasks_of m) (loop_of l) (with_flow (waits m)) (state m.store)) (waits m (Leaves Onward) (state m.store)) h) (omega arith)

-- a further argument is there
pub passes : {new : Machine} {event : Event} (m : Machine) (f : Callee) (done more : List ℕ) (x v : ℕ) (t : CType) (ts all : List CType) (es : SomeExpressions) → all ≡ t ∷ ts → x
    ≡ converted t v → more ≡ done ++ x ∷ [] → Makes m (λ κ. arguments (program_of m) (tasks_of m) es ts
    (λ vs. call (program_of m) (tasks_of m) f (more ++ vs) (with_value κ))) (arguments_work es) event new
    → Makes m (λ κ. passed all v (λ y us. arguments (program_of m) (tasks_of m) es us
    (λ vs. call (program_of m) (tasks_of m) f (done ++ y ∷ vs) (with_value κ)))) (arguments_work es + 1) event new
passes {new} {event} m f done more x v t ts all es is kept pushed w =
    let p = program_of m in
    let κ : Rest = with_value (waits m) in
    let st = state m.store in
    over w (
    ap (λ l. passed l v (λ y us. arguments p (means p) es us (λ vs. call p (means p) f (done ++ y ∷ vs) κ)) st) is
    ∙ ap (λ y. arguments p (means p) es ts (λ vs. call p (means p) f (done ++ y ∷ vs) κ) st) (sym kept)
    ∙ ap (λ (μ : RestAll). arguments p (means p) es ts μ st) (λ i vs. call p (means p) f (sym (append_assoc done (x ∷ []) vs) i) κ)
    ∙ ap (λ l. arguments p (means p) es ts (λ vs. call p (means p) f (l ++ vs) κ) st) (sym pushed)
    ) (omega arith)

-- a call is left, and its caller goes on
pub call_ends : {new : Machine} {event : Event} (m : Machine) (given left : Store) (caller : Activation) (active block v : ℕ) (w : Flow) (objects : List Object) → objects ≡ m.program.now.objects
    → ((κ : Behind) (w : Flow) → released objects block κ w (state m.store) ≡ κ w (state given)) → state left ≡ record (state given) { call = activation caller; active = active } → v ≡ answer w
    → Goes (record m { store = left }) (controls.Value v) event new → Makes m (λ κ. before (program_of m) (ForCall caller active block) κ (Leaves w)) 2 event new
call_ends {new} {event} m given left caller active block v w objects same gives goes answers h =
    let κ : Behind = λ w st. waits m (Valued (answer w)) (record st { call = activation caller; active = active }) in
    over h (
    sym (ap (λ (os : List Object). released os block κ w (state m.store)) same)
    ∙ gives κ w
    ∙ ap (λ x. waits m (Valued x) (record (state given) { call = activation caller; active = active })) (sym answers)
    ∙ ap (λ st. waits m (Valued v) st) (sym goes)
    ) (omega arith)

-- a call of a function begins: its block is taken, or it has none
pub call_begins : {new : Machine} {event : Event} (body : Vec Action) (m : Machine) (s taken : Store) (g : Routine) (vs locals : List ℕ) (caller : Activation) → m.store.active < 1024 → body
    ≡ g.body → state s ≡ record (state m.store) { call = record { locals = locals; parameters = vs; block = None }; active = m.store.active + 1 } → locals ≡ replicate (length g.locals) 0 → caller
    ≡ m.store.call → ((κ : State → Runs) → claimed m.program.now.objects g.block κ (state s) ≡ κ (state taken))
    → Makes (record m { store = taken }) (λ κ st. counted (stmts (program_of m) (tasks_of m) (acts body.items)
    (with_flow (before (program_of m) (ForCall caller m.store.active g.block) κ)) st)) 0 event new
    → Makes m (λ κ. called m.program.now.objects (Some (routine g)) (tasks_of m) vs (with_value κ)) 2 event new
call_begins {new} {event} body m s taken g vs locals caller lt same at zeros back_to claims w =
    let p = program_of m in
    let κ : Rest = with_value (waits m) in
    let st = state m.store in
    let first : state s ≡ begun (routine g) vs st = at ∙ (λ i. record st { call = record { locals = zeros i; parameters = vs; block = None }; active = m.store.active + 1 }) in
    let end : Behind = released p.objects g.block (back κ st) in
    over w (
    ap (λ x. counted (if x then performed p.objects (means p) (routine g) (back κ st) (begun (routine g) vs st) else stop Deep)) (lt-ltb m.store.active 1024 lt)
    ∙ ap counted (
    ap (λ z. claimed p.objects g.block (means p (Body (routine g).body) end) z) (sym first)
    ∙ claims (means p (Body (routine g).body) end)
    ∙ means_is p (Body (routine g).body) end (state taken)
    ∙ ap (λ (v : Vec Action). stmts p (means p) (acts v.items) end (state taken)) (sym same)
    ∙ ap (λ c. stmts p (means p) (acts body.items) (with_flow (before p (ForCall c m.store.active g.block) (waits m))) (state taken)) (sym back_to))
    ) (omega arith)

-- or there is no room for its block
pub call_refused : {new : Machine} {event : Event} (m : Machine) (s : Store) (g : Routine) (vs locals : List ℕ) (e : Finish) (kept : Store) → m.store.active < 1024 → state s
    ≡ record (state m.store) { call = record { locals = locals; parameters = vs; block = None }; active = m.store.active + 1 } → locals ≡ replicate (length g.locals) 0
    → ((κ : State → Runs) → claimed m.program.now.objects g.block κ (state s) ≡ stop (end_of e)) → Makes (record m { store = kept }) (λ κ st. counted (stop (end_of e))) 0 event new
    → Makes m (λ κ. called m.program.now.objects (Some (routine g)) (tasks_of m) vs (with_value κ)) 2 event new
call_refused {new} {event} m s g vs locals e kept lt at zeros claims w =
    let p = program_of m in
    let κ : Rest = with_value (waits m) in
    let st = state m.store in
    let first : state s ≡ begun (routine g) vs st = at ∙ (λ i. record st { call = record { locals = zeros i; parameters = vs; block = None }; active = m.store.active + 1 }) in
    let end : Behind = released p.objects g.block (back κ st) in
    over w (
    ap (λ x. counted (if x then performed p.objects (means p) (routine g) (back κ st) (begun (routine g) vs st) else stop Deep)) (lt-ltb m.store.active 1024 lt)
    ∙ ap counted (ap (λ z. claimed p.objects g.block (means p (Body (routine g).body) end) z) (sym first) ∙ claims (means p (Body (routine g).body) end))
    ) (omega arith)

-- or the call would be one too many
pub call_deep : {new : Machine} {event : Event} (m : Machine) (g : Routine) (vs : List ℕ) → 1024 ≤ m.store.active → Makes m (λ κ st. counted (stop (end_of finish.Deep))) 0 event new
    → Makes m (λ κ. called m.program.now.objects (Some (routine g)) (tasks_of m) vs (with_value κ)) 2 event new
call_deep {new} {event} m g vs le w =
    let p = program_of m in
    let κ : Rest = with_value (waits m) in
    let st = state m.store in
    over w (ap (λ x. counted (if x then performed p.objects (means p) (routine g) (back κ st) (begun (routine g) vs st) else stop Deep)) (le-ltb m.store.active 1024 le)) (omega arith)
