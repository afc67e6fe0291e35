-- What the machine does of one tree, by the tree's deed, and what it counts: no more than the tree.
use Rattle.std.proofs.Common.{◌≡◌, ℕ, ◌+◌, ◌-◌, ◌<◌, ◌≤◌, Bool, true, false, List, [], ◌∷◌, length, Option, Some, None, option_to_list, Ok, refl, sym, ap, subst, ◌∙◌, arith}
use Rattle.std.specs.Prelude.{slice_get, ◌==◌, cond, not, Err}
use Rattle.std.proofs.lemmas.List.{length-take-le, length-drop}
use Rattle.std.proofs.lemmas.Bool.{false≢true}
use Rattle.vax_core.specs.declared.register.Reg.TheVariants.{R0}
use Rattle.vax_core.specs.declared.code.Instr.{Instr}
use Rattle.vax_core.specs.declared.code.CodeItem.{CodeItem}
use Rattle.vax_core.specs.declared.code.CodeItem.TheVariants as item_kind
use Rattle.vax_machine.specs.declared.turn.Stop.TheVariants as stops
use Rattle.vax_machine.specs.State.{State, reg}
use Rattle.vax_machine.specs.Labels.{label_place}
use Rattle.vax_machine.specs.Calls.{silent}
use Rattle.vax_machine.specs.Labels.{double_label}
use Rattle.tree_core.specs.declared.tree.Leaf.{Leaf}
use Rattle.tree_core.specs.declared.program.TreeItem.{TreeItem}
use Rattle.tree_core.specs.declared.program.TreeItem.TheVariants as tree_item
use Rattle.tree_core.specs.declared.program.TreeFn.{TreeFn}
use Rattle.tree_core.specs.declared.program.TreeProgram.{TreeProgram}
use Rattle.tree_core.specs.Trees.{grown}
use Rattle.tree_core.specs.Names.{label_name, function_label}
use Rattle.tree_meaning.specs.State.{Activation, behind}
use Rattle.tree_meaning.specs.State.{State as Trees}
use Rattle.gg_base.specs.declared.run.Finish.TheVariants as finish
use Rattle.tree_meaning.specs.Steps.{Step, Goes, Serves, GoesTo, Enters, GoesBack, Ends, without_pushed, with_label, with_call as entering_with, tree_step}
use Rattle.vax_states.specs.Agreeing.{Agrees, HasResult}
use Rattle.vax_machine_lists.specs.Instructions.{Course, exec, Comes, Goes as GoesAway, Calls as CallsOut, Returns, Stops}
use Rattle.gg_compile_law.specs.Roles.{Role, Pushes, Calls, Saves, Plain, role_of, target_of}
use Rattle.vax_machine_lists.specs.Runs.{HasInstrs, at_of}
use Rattle.vax_frames_law.specs.Calling.{with_call}
use Rattle.vax_frames.specs.Frames.{room_code}
use Rattle.gg_compile_law.specs.vax_homes_items.specs.vax_homes_law.specs.Alike.{AreReady}
use Rattle.gg_compile_law.specs.vax_homes_items.specs.vax_homes_law.specs.Calling.{with_stack}
use Rattle.gg_compile_law.specs.vax_homes_frames.specs.Live.{AllAtHome}
use Rattle.gg_compile_law.specs.vax_homes_frames.specs.Trees.{StaysAtHome, DoesAtHome}
use Rattle.gg_compile_law.specs.vax_homes_frames.specs.Passing.{BeginsAtHome}
use Rattle.gg_compile_law.specs.vax_homes_frames.proofs.Same.{places_stay_home, items_stay_home}
use Rattle.gg_compile_law.specs.vax_homes_frames.proofs.Effects.{effects_stay_home}
use Rattle.gg_compile_law.specs.vax_homes_frames.proofs.Beginning.{calls_begin_at_home}
use Rattle.gg_compile_law.specs.Effects.{IsReady}
use Rattle.gg_compile_law.specs.Framing.{FrameLayout, layout_in, homed_code}
use Rattle.gg_compile_law.specs.Programs.{InOrderBy, InOrder, IsEmitted, IsActive, StandsAt, Waits, goes_on, Stands}
use Rattle.vax_frames_law.specs.Laws.{IsRoomy}
use Rattle.gg_compile_law.proofs.Facts.{Keeps, KeepsBy, Facts}
use Rattle.gg_compile_law.proofs.Placing.{RootAt, root_at, LabelAt, label_at}
use Rattle.gg_compile_law.proofs.Rooms.{few_pushed, few_words}
use Rattle.gg_compile_law.proofs.Going.{fp_is, ap_is, with_items, roomy}
use Rattle.gg_compile_law.proofs.Roots.{begins_there}
use Rattle.tree_counts.specs.Counted.{is_ahead}
use Rattle.vax_bound.specs.Counted.{counted_between}
use Rattle.gg_compile_tallies.proofs.Walking.{Walks, Halted, Reaches, at_most_one, counted_on, walk_further, walk_within, walked, halted}
use Rattle.gg_compile_tallies.proofs.Carrying.{Carries, carries}
use Rattle.gg_compile_tallies.proofs.Labels.{ahead_place, walk_past}
use Rattle.gg_compile_tallies.proofs.Beginning.{room_walks}
use Rattle.gg_compile_tallies.proofs.Returning.{ComesBack, comes_back}

-- what a tree counts
abbrev pub as_number : Bool → ℕ
as_number true = 1
as_number false = 0

in_order_zero : (p : ℕ) (b : Bool) (is : List TreeItem) → p ≡ 0 → InOrder 0 b is → InOrder p b is
in_order_zero p b is e h = subst (λ (q : ℕ). InOrder q b is) (sym e) h

-- behind a label nothing is pushed
behind_in_order : (is : List TreeItem) (l p : ℕ) (b : Bool) → InOrder p b is → InOrder 0 false (behind is l)
behind_in_order [] l p b h = refl
behind_in_order (tree_item.Label n ∷ is) l p b h = by (n == l) (behind_in_order is l 0 false h.1)
  where
    by : (c : Bool) → InOrder 0 false (behind is l) → InOrder 0 false (cond c is (behind is l))
    by true g = h.1
    by false g = g
behind_in_order (tree_item.Root w ∷ is) l p b h = by (role_of w) h (λ q c g. behind_in_order is l q c g)
  where
    by : (r : Role) → InOrderBy r p b (λ q c. InOrder q c is) → ((q : ℕ) (c : Bool) → InOrder q c is → InOrder 0 false (behind is l)) → InOrder 0 false (behind is l)
    by Pushes o go = go (p + 1) false o
    by (Calls function count) o go = go 0 true o.2
    by Saves o go = go p false o.1
    by Plain o go = go 0 false o.1

module _ (program : TreeProgram) (code : List CodeItem) (emitted : (n : ℕ) (g : TreeFn) → slice_get program.functions n ≡ Some g → IsEmitted program code g) (once : double_label code ≡ None) where
  -- so many steps, in which so much is counted, lead to a machine that stands for the trees' state
  pub record Arrives (m : State) (w : List ℕ) (much : ℕ) (s : Trees) : Type 0 where
    pub count : ℕ
    pub state : State
    pub stack : List ℕ
    pub walks : Walks m w count much (with_stack state stack)
    pub stands : Stands program code s state stack

  module _ (t0 : Trees) (m : State) (st : List ℕ) (w : List Leaf) (is : List TreeItem) (here : Stands program code t0 m st) (first : t0.running.items ≡ tree_item.Root w ∷ is) where
    abbrev t : Trees
    t = with_items t0 is

    -- the machine, and how its innermost call's frame is laid out
    abbrev machine : State
    machine = with_stack m st

    abbrev y : FrameLayout
    y = layout_in here.e here.c

    root : RootAt program code here.g y m.place w is
    root = root_at program code here.g y m.place w is (subst (λ (x : List TreeItem). StandsAt program code here.g y m.place x) first here.active.here)

    -- its instructions with homes
    abbrev homed : List Instr
    homed = homed_code y root.instrs

    order : InOrderBy (role_of w) (length t.running.pushed) here.is_behind (λ p b. InOrder p b is)
    order = subst (λ (x : List TreeItem). InOrder (length t.running.pushed) here.is_behind x) first here.active.order

    at_home : AllAtHome program.objects here.e here.es here.c here.cs t m st
    at_home = items_stay_home program.objects here.e here.es here.c here.cs t0 m st here.at_home is

    abbrev agrees : Agrees program.objects here.e here.es t m
    agrees = at_home.home.agrees

    abbrev going : m.over ≡ None
    going = agrees.sound.going

    few : here.e.words ≤ 1024
    few = few_words program code here.g here.e here.c t0.running m.place here.is_behind here.active

    few_now : length t0.running.pushed ≤ 255
    few_now = few_pushed t0.running.items (length t0.running.pushed) here.is_behind here.active.order

    has_room : IsRoomy m
    has_room = roomy program code here.e here.es here.c here.cs t0 m here.at_home.home.agrees few few_now here.waits here.shallow

    calls_with : (r : Role) → InOrderBy r (length t.running.pushed) here.is_behind (λ p b. InOrder p b is) → (function count : ℕ) → r ≡ Calls function count → length t.running.pushed ≡ count
    calls_with r o function count e = (subst (λ (x : Role). InOrderBy x (length t.running.pushed) here.is_behind (λ p b. InOrder p b is)) e o).0

    saves_with : (r : Role) → InOrderBy r (length t.running.pushed) here.is_behind (λ p b. InOrder p b is) → r ≡ Saves → HasResult t m
    saves_with r o e = here.result ((subst (λ (x : Role). InOrderBy x (length t.running.pushed) here.is_behind (λ p b. InOrder p b is)) e o).0)

    ready : IsReady here.g.locals here.g.args here.e.words w here.e t m
    ready = record {
      room = has_room.room;
      same_locals = here.active.locals;
      words = omega arith;
      few = few;
      arguments = here.active.arguments;
      pushed = calls_with (role_of w) order;
      result = saves_with (role_of w) order;
    }

    does : DoesAtHome program.objects here.e here.es here.c here.cs t m (tree_step program t (grown w)) (exec homed machine)
    does =
        effects_stay_home program program.objects here.e here.es here.c here.cs t m st (grown w) root.instrs at_home has_room.room
        (subst (λ (n : ℕ). AreReady here.c.homes n root.instrs) (sym here.active.arguments) root.selected.root.ready) root.selected.root.named
        (root.selected.root.effect.does here.e here.es t m agrees ready)

    carried : Carries machine (length homed) (exec homed machine)
    carried = carries homed machine (subst (λ (x : List CodeItem). HasInstrs x m.place homed) (sym here.items) root.stand) going

    -- the state of a call that goes on
    active_next : (s : Trees) (p place : ℕ) (b : Bool) → Keeps t s p → StandsAt program code here.g y place is → InOrder p b is → IsActive program code here.g here.e here.c s.running place b
    active_next s p place b k there o = record {
      number = here.active.number;
      function = here.active.function;
      emitted = here.active.emitted;
      layout = here.active.layout;
      locals = here.active.locals;
      items = k.code ∙ here.active.items;
      arguments = k.arguments ∙ here.active.arguments;
      here = subst (λ (x : List TreeItem). StandsAt program code here.g y place x) (sym k.items) there;
      order = subst (λ (x : List TreeItem). InOrder (length s.running.pushed) b x) (sym k.items) (subst (λ (q : ℕ). InOrder q b is) (sym k.pushes) o);
    }

    -- behind the root's instructions
    abbrev end_place : ℕ
    end_place = m.place + length homed

    abbrev Remains : Trees → State → List ℕ → Type 0
    Remains s n sn = StaysAtHome program.objects here.e here.es here.c here.cs s m n sn

    -- a machine at another place of the code
    at_place : (s : Trees) (n : State) (sn : List ℕ) (place : ℕ) → Remains s n sn → AllAtHome program.objects here.e here.es here.c here.cs s (at_of m n place) sn
    at_place s n sn place stays = places_stay_home program.objects here.e here.es here.c here.cs s n sn stays.at_home place m.items m.over going

    went : (written : List ℕ) (n : State) (sn : List ℕ) (s : Trees) (p : ℕ) (b : Bool) → exec homed machine ≡ record { written = written; ending = Comes (with_stack n sn) } → Remains s n sn
        → Keeps t s p → InOrder p b is → (b ≡ true → HasResult s n) → Arrives machine written 0 s
    went written n sn s p b course stays k o result = record {
      count = length homed;
      state = at_of m n end_place;
      stack = sn;
      walks = subst (λ (c : Course). Carries machine (length homed) c) course carried;
      stands = record {
        e = here.e;
        es = here.es;
        c = here.c;
        cs = here.cs;
        g = here.g;
        is_behind = b;
        at_home = at_place s n sn end_place stays;
        items = here.items;
        active = active_next s p end_place b k root.rest o;
        result = result;
        waits = subst (λ (x : List Activation). Waits program code here.c here.cs here.es x) (sym k.callers) here.waits;
        shallow = omega (arith, here.shallow, ap length k.callers);
      };
    }

    -- a tree that is no call
    goes : (r : Role) → InOrderBy r (length t.running.pushed) here.is_behind (λ p b. InOrder p b is) → (n : State) (sn : List ℕ) (s : Trees)
        → exec homed machine ≡ record { written = []; ending = Comes (with_stack n sn) }
        → Remains s n sn → KeepsBy r t s → Arrives machine [] 0 s
    goes Pushes o n sn s course stays k = went [] n sn s (length t.running.pushed + 1) false course stays k o (λ e. absurd (false≢true e))
    goes (Calls function count) o n sn s course stays k = absurd k
    goes Saves o n sn s course stays k = went [] n sn s (length t.running.pushed) false course stays k o.1 (λ e. absurd (false≢true e))
    goes Plain o n sn s course stays k =
        went [] n sn s (length t.running.pushed) false course stays k (in_order_zero (length t.running.pushed) false is o.0 o.1) (λ e. absurd (false≢true e))

    -- a call of a service
    order_behind : (number count : ℕ) → role_of w ≡ Calls number count → InOrder 0 true is
    order_behind number count e = (subst (λ (x : Role). InOrderBy x (length t.running.pushed) here.is_behind (λ p b. InOrder p b is)) e order).2

    count_is : (number count : ℕ) → role_of w ≡ Calls number count → length t.running.pushed ≡ count
    count_is number count e = calls_with (role_of w) order number count e

    serves : (b : Option ℕ) (n : State) (sn : List ℕ) (s : Trees) (number count : ℕ) → exec homed machine ≡ record { written = option_to_list b; ending = Comes (with_stack n sn) } → Remains s n sn
        → HasResult s n → role_of w ≡ Calls number count → Keeps t s (length t.running.pushed - count) → Arrives machine (option_to_list b) 0 s
    serves b n sn s number count course stays result r k =
        went (option_to_list b) n sn s (length t.running.pushed - count) true course stays k
        (in_order_zero (length t.running.pushed - count) true is (omega (arith, count_is number count r)) (order_behind number count r)) (λ e. result)

    -- a jump
    same_place : (name : List ℕ) → label_place m.items name ≡ label_place code name
    same_place name = ap (λ (x : List CodeItem). label_place x name) here.items

    label_there : (l : ℕ) → target_of w ≡ Some l → LabelAt program code here.g y (label_place code (label_name l)) l (behind here.g.items l)
    label_there l target =
        label_at program code here.g y (label_place code (label_name l)) l (behind here.g.items l)
        (subst (λ (x : FrameLayout). StandsAt program code here.g x (label_place code (label_name l)) (tree_item.Label l ∷ behind here.g.items l)) (sym here.active.layout)
        (here.active.emitted.labels l (root.selected.target l target)))

    -- it counts nothing where its label stands ahead, and no more than one where it does not
    jump_counts : (l : ℕ) (b : Bool) → is_ahead is l ≡ b → (from to : State) (number : ℕ) → from.place ≡ m.place + number → number < length homed
        → length to.frames ≡ length from.frames → to.place ≡ label_place code (label_name l) → counted_between from to ≤ as_number (not b)
    jump_counts l true e from to number at before same there =
        let ahead : m.place + length homed ≤ label_place code (label_name l) = ahead_place program code here.g y l (m.place + length homed) is root.rest once e in
        let none : counted_between from to ≡ 0 = counted_on from to same (omega (arith, at, before, there, ahead)) in
        omega (arith, none)
    jump_counts l false e from to number at before same there = at_most_one (length from.frames) (length to.frames) from.place to.place

    jumps : (l : ℕ) (n : State) (sn : List ℕ) → exec homed machine ≡ record { written = []; ending = GoesAway (label_name l) (with_stack n sn) } → Remains t n sn → role_of w ≡ Plain
        → target_of w ≡ Some l → Arrives machine [] (as_number (not (is_ahead is l))) (with_items t (behind t.running.code l))
    jumps l n sn course stays plain target =
        let at = label_there l target in
        let place = label_place code (label_name l) in
        let got : Reaches machine [] (length homed) (Ok (None, with_stack (at_of m n (label_place m.items (label_name l))) sn)) =
        subst (λ (c : Course). Carries machine (length homed) c) course carried in
        let k = with_stack (at_of m n place) sn in
        let walk : Walks machine [] (got.number + 1) (counted_between got.state k) k =
        walked machine k [] (length homed) _ got None (ap (λ (p : ℕ). Ok (None, with_stack (at_of m n p) sn)) (same_place (label_name l))) in
        let much = jump_counts l (is_ahead is l) refl got.state k got.number got.place got.before (ap length (stays.frames ∙ sym got.frames)) refl in
        let stand : slice_get m.items place ≡ Some (item_kind.Label (label_name l)) = ap (λ (x : List CodeItem). slice_get x place) here.items ∙ at.stands in
        let rest = behind here.g.items l in
        let code_is : t.running.code ≡ here.g.items = here.active.items in
        record {
          count = got.number + 1;
          state = at_of m n (place + 1);
          stack = sn;
          walks = walk_past machine k [] (got.number + 1) (as_number (not (is_ahead is l))) (label_name l) stand
              (walk_within machine k [] (got.number + 1) (counted_between got.state k) (as_number (not (is_ahead is l))) much walk);
          stands = record {
            e = here.e;
            es = here.es;
            c = here.c;
            cs = here.cs;
            g = here.g;
            is_behind = false;
            at_home =
                items_stay_home program.objects here.e here.es here.c here.cs t (at_of m n (place + 1)) sn (at_place t n sn (place + 1) stays)
                (behind t.running.code l);
            items = here.items;
            active = record {
              number = here.active.number;
              function = here.active.function;
              emitted = here.active.emitted;
              layout = here.active.layout;
              locals = here.active.locals;
              items = here.active.items;
              arguments = here.active.arguments;
              here = subst (λ (x : List TreeItem). StandsAt program code here.g y (place + 1) (behind x l)) (sym code_is) at.rest;
              order = subst (λ (x : List TreeItem). InOrder (length t.running.pushed) false (behind x l)) (sym code_is)
                  (in_order_zero (length t.running.pushed) false rest (nothing_pushed plain) (behind_in_order here.g.items l 0 false here.active.emitted.order));
            };
            result = λ e. absurd (false≢true e);
            waits = here.waits;
            shallow = here.shallow;
          };
        }
      where
        nothing_pushed : role_of w ≡ Plain → length t.running.pushed ≡ 0
        nothing_pushed e = (subst (λ (x : Role). InOrderBy x (length t.running.pushed) here.is_behind (λ p b. InOrder p b is)) e order).0

    -- a return
    leaves : (v : ℕ) (n : State) (sn : List ℕ) → exec homed machine ≡ record { written = []; ending = Returns (with_stack n sn) } → Remains t n sn → reg n R0 ≡ v
        → ComesBack program code t.callers t v machine []
    leaves v n sn course stays result =
        let got = subst (λ (c : Course). Carries machine (length homed) c) course carried in
        comes_back program code machine [] (length homed) t (at_of m n got.0) sn got.1 stays.frames here.items v result here.shallow here.e here.c here.cs here.es t.callers here.waits
        (at_place t n sn got.0 stays) refl

    -- a zero divisor
    traps : exec homed machine ≡ record { written = []; ending = Stops stops.Trapped } → (count : ℕ) × Halted machine [] count 0 stops.Trapped
    traps course =
        let got : Reaches machine [] (length homed) (Err stops.Trapped) = subst (λ (c : Course). Carries machine (length homed) c) course carried in
        (got.number + 1, halted machine machine [] (length homed) (Err stops.Trapped) got stops.Trapped refl)

    -- a call of a function of the program
    behind_call : (number count : ℕ) (place : ℕ) → role_of w ≡ Calls number count → place + 0 ≡ m.place + length homed
        → IsActive program code here.g here.e here.c (without_pushed t count).running place true
    behind_call number count place r at =
        let p : m.place + length homed ≡ place = omega (arith, at) in
        active_next (without_pushed t count) (length t.running.pushed - count) place true
        (record { callers = refl; code = refl; items = refl; arguments = refl; pushes = length-drop count t.running.pushed })
        (subst (λ (x : ℕ). StandsAt program code here.g y x is) p root.rest)
        (in_order_zero (length t.running.pushed - count) true is (omega (arith, count_is number count r)) (order_behind number count r))

    few_arguments : (number count : ℕ) → role_of w ≡ Calls number count → count < 256
    few_arguments number count r = let le = (subst (λ (x : Role). InOrderBy x (length t.running.pushed) here.is_behind (λ p b. InOrder p b is)) r order).1 in omega (arith, le)

    enters : (h : TreeFn) (number count : ℕ) (n : State) (sn : List ℕ) → exec homed machine ≡ record { written = []; ending = CallsOut (function_label h.name) count (with_stack n sn) [] }
        → Remains t n sn → role_of w ≡ Calls number count
        → slice_get program.functions number ≡ Some h → 1 + length t.callers < 1024 → Arrives machine [] 1 (with_call t h count)
    enters h number count n sn course stays r named deep =
        let got = subst (λ (c : Course). Carries machine (length homed) c) course carried in
        let place = got.0 in
        let mc = at_of m n place in
        let agreed : AllAtHome program.objects here.e here.es here.c here.cs t mc sn = at_place t n sn place stays in
        let many : length t.running.pushed ≡ count = count_is number count r in
        let room : IsRoomy mc = roomy program code here.e here.es here.c here.cs t mc agreed.home.agrees few few_now here.waits here.shallow in
        let em = emitted number h named in
        let b : BeginsAtHome program.objects code h em.frame (here.e ∷ here.es) em.homes (here.c ∷ here.cs) (with_call t h count) mc sn count (Some place) =
        calls_begin_at_home program.objects code h em.frame em.homes here.e here.es here.c here.cs t mc sn agreed room here.items em.are_homes count (Some place) (few_arguments number count r)
        (omega (arith, many)) in
        let reached = got.2 in
        let walk : Walks machine [] (reached.number + 1) (counted_between reached.state b.called_state) b.called_state =
        walked machine b.called_state [] (length homed) _ reached None (ap silent b.does) in
        let one : Walks machine [] (reached.number + 1) 1 b.called_state =
        walk_within machine b.called_state [] (reached.number + 1) (counted_between reached.state b.called_state) 1
        (at_most_one (length reached.state.frames) (length b.called_state.frames) reached.state.place b.called_state.place) walk in
        let into = room_walks program.objects code h em.frame (here.e ∷ here.es) em.homes (here.c ∷ here.cs) (with_call t h count) mc sn count (Some place) b in
        record {
          count = reached.number + 1 + length (room_code em.frame.words);
          state = b.state;
          stack = b.stack;
          walks = walk_further machine b.called_state (with_stack b.state b.stack) [] [] (reached.number + 1) (length (room_code em.frame.words)) 1 0 one into;
          stands = record {
            e = record { locals = h.locals; words = em.frame.words };
            es = here.e ∷ here.es;
            c = record { frame = b.frame; homes = em.homes };
            cs = here.c ∷ here.cs;
            g = h;
            is_behind = false;
            at_home = b.at_home;
            items = b.items;
            active = record {
              number = number;
              function = named;
              emitted = em;
              layout = ap (λ (k : ℕ). record { words = em.frame.words; mask = k; homes = em.homes }) b.is_made.mask_is;
              locals = refl;
              items = refl;
              arguments = length-take-le count t.running.pushed (omega (arith, many)) ∙ root.selected.call number count h r named;
              here = begins_there program code emitted h em b.frame b.state.place b.is_made.mask_is b.at;
              order = em.order;
            };
            result = λ e. absurd {A = HasResult (with_call t h count) b.state} (false≢true e);
            waits =
                goes_on (record { frame = b.frame; homes = em.homes }) here.c here.cs here.g here.e here.es
                (without_pushed t count).running t.callers place b.is_made.back_is b.small
                (b.is_made.kept 13 (omega arith) ∙ fp_is program.objects here.e here.es here.c here.cs t mc sn agreed)
                (b.is_made.kept 12 (omega arith) ∙ ap_is program.objects here.e here.es here.c here.cs t mc sn agreed) (behind_call number count place r got.1) here.waits;
            shallow = omega (arith, deep);
          };
        }

    -- ---- any tree

    -- what the machine comes to by a step
    abbrev pub Came : Step → Type 0
    Came (Goes s) = Arrives machine [] 0 s
    Came (Serves b s) = Arrives machine (option_to_list b) 0 s
    Came (GoesTo l s) = Arrives machine [] (as_number (not (is_ahead is l))) (with_label s l)
    Came (Enters h args s) = Arrives machine [] 1 (entering_with s h args)
    Came (GoesBack v s) = ComesBack program code s.callers s v machine []
    Came (Ends (finish.Ended v)) = ⊥
    Came (Ends finish.Trapped) = (count : ℕ) × Halted machine [] count 0 stops.Trapped
    Came (Ends finish.Wild) = Unit {0}
    Came (Ends finish.Deep) = Unit {0}

    abbrev entering : TreeFn → ℕ → State → Course
    entering h count n = record { written = []; ending = CallsOut (function_label h.name) count n [] }

    came_to : (d : Step) → Facts program t (role_of w) (target_of w) d → DoesAtHome program.objects here.e here.es here.c here.cs t m d (exec homed machine) → Came d
    came_to (Goes s) f d = goes (role_of w) order d.0 d.1 s d.2 d.3 f
    came_to (Serves b s) f d = serves b d.0 d.1 s f.0 f.1 d.2 d.3 d.4 f.2 f.3
    came_to (GoesTo l s) f d =
        subst (λ (x : Trees). Arrives machine [] (as_number (not (is_ahead is l))) (with_label x l)) (sym f.0) (jumps l d.0 d.1 d.2 (subst (λ (x : Trees). Remains x d.0 d.1) f.0 d.3) f.1 f.2)
    came_to (Enters h args s) f d =
        let count = f.1 in
        let size : length args ≡ count = ap length f.3 ∙ length-take-le count t.running.pushed (omega (arith, count_is f.0 count f.2)) in
        let course = d.2 ∙ ap (λ (k : ℕ). entering h k (with_stack d.0 d.1)) size in
        subst (λ (x : Trees). Arrives machine [] 1 (entering_with x h args)) (sym f.4)
        (subst (λ (x : List ℕ). Arrives machine [] 1 (entering_with (without_pushed t count) h x)) (sym f.3)
        (enters h f.0 count d.0 d.1 course d.3 f.2 f.5 f.6))
    came_to (GoesBack v s) f d = subst (λ (x : Trees). ComesBack program code x.callers x v machine []) (sym f.0) (leaves v d.0 d.1 d.2 d.3 d.4)
    came_to (Ends (finish.Ended v)) f d = f
    came_to (Ends finish.Trapped) f d = traps d
    came_to (Ends finish.Wild) f d = tt
    came_to (Ends finish.Deep) f d = tt

    pub came : Facts program t (role_of w) (target_of w) (tree_step program t (grown w)) → Came (tree_step program t (grown w))
    came f = came_to (tree_step program t (grown w)) f does
