-- The program that has the objects of another one, and of its functions `main` alone, with as many locals and with nothing to do. A code
-- of it is written, and the state in which its run begins stands for the beginning of the other one's too.
use Rattle.std.proofs.Common.{◌≡◌, ℕ, zero, suc, ◌+◌, ◌<◌, ◌≤◌, Bool, true, false, cond, List, [], ◌∷◌, ◌++◌, length, Some, None, refl, ap, ◌∙◌, arith}
use Rattle.std.specs.Prelude.{codes, slice_get, nat_lt}
use Rattle.std.specs.Str.{bytes_eq}
use Rattle.std.proofs.lemmas.List.Elements.{All-nil, All-from_recursion}
use Rattle.std.proofs.lemmas.Option.{same_Some, none-some}
use Rattle.tree_core.specs.declared.program.TreeFn.{TreeFn}
use Rattle.tree_core.specs.declared.program.TreeProgram.{TreeProgram}
use Rattle.tree_core.specs.Items.{nothing}
use Rattle.tree_core.specs.Labels.{TargetsStand}
use Rattle.tree_core.specs.Names.{function_label}
use Rattle.tree_core.specs.Valid.{named, main_takes_nothing, ItemStands, ItemsStand, WantedStand, PushesStand, IsValid}
use Rattle.tree_meaning.specs.Meaning.{main_of}
use Rattle.tree_meaning.specs.State.{begun, Extent}
use Rattle.vax_core.specs.declared.code.Code.{Code}
use Rattle.vax_core.specs.declared.code.AreaItem.{AreaItem}
use Rattle.vax_core.specs.declared.code.CodeItem.{CodeItem}
use Rattle.gg_compile_law.specs.vax_machine_lists.specs.vax_machine_live.specs.declared.frame.Frame.{Frame}
use Rattle.gg_compile_law.specs.vax_machine_lists.specs.vax_machine.specs.State.{State}
use Rattle.gg_compile_law.specs.vax_machine_lists.specs.vax_machine.specs.Labels.{undefined_label}
use Rattle.gg_compile_law.specs.vax_machine_lists.specs.Sound.{AllBelow}
use Rattle.gg_compile_law.specs.vax_states.specs.Stack.{Holds}
use Rattle.gg_compile_law.specs.vax_states.specs.Agreeing.{Agrees}
use Rattle.vax_frames.specs.Frames.{frame_items}
use Rattle.gg_compile_law.specs.Assembled.{nothing as no_items, none, more, IsFunctionCode}
use Rattle.gg_compile_law.specs.Spelling.{area_of}
use Rattle.gg_compile_law.specs.Loaded.{AreApart}
use Rattle.gg_compile_law.specs.Written.{IsWritten}
use Rattle.gg_compile_law.proofs.Starting.{found}
use Rattle.gg_compile_laws.specs.vax_target_meaning.specs.Vax.{vax}
use Rattle.gg_compile_laws.specs.vax_target_meaning.specs.Fitting.{CanWrite}
use Rattle.gg_compile_codes.specs.Begins.{beginning, HasBegin}
use Rattle.gg_compile_codes.proofs.Starting.{written_programs_begin}
use Rattle.gg_program_begins.specs.Claims.{IsWritable, EachProgramBegins}

-- a function called main is found, where one is named so
find_main : (fs : List TreeFn) → 0 < named (codes "main") fs → (g : TreeFn) × (main_of fs ≡ Some g)
find_main [] lt = absurd (omega (arith, lt))
find_main (f ∷ fs) lt = by (bytes_eq f.name (codes "main")) lt (λ h. find_main fs h)
  where
    by : (b : Bool) → 0 < cond b 1 0 + named (codes "main") fs → (0 < named (codes "main") fs → (g : TreeFn) × (main_of fs ≡ Some g)) → (g : TreeFn) × (cond b (Some f) (main_of fs) ≡ Some g)
    by true lt rest = (f, refl)
    by false lt rest = rest (omega (arith, lt))

-- `main` with so many locals, and nothing to do
abbrev empty_main : ℕ → TreeFn
empty_main locals = record { name = codes "main"; args = 0; locals = locals; wanted = []; items = [] }

abbrev emptied : TreeProgram → ℕ → TreeProgram
emptied q locals = record { functions = empty_main locals ∷ []; objects = q.objects }

-- its code: the frame, and the data area of the objects
abbrev frame_of : ℕ → List CodeItem
frame_of words = frame_items (function_label (codes "main")) 0 words []

abbrev code_of : TreeProgram → ℕ → Code
code_of q words = record { area = area_of q.objects; items = frame_of words ++ [] }

-- the frame's instructions name nothing
names_nothing : (words : ℕ) (area : List AreaItem) (all : List CodeItem) → undefined_label (frame_of words ++ []) area all ≡ None
names_nothing zero area all = refl
names_nothing (suc n) area all = refl

-- one function alone has its name once
once : (name : List ℕ) (b : Bool) → cond b 1 0 + 0 ≤ 1
once name true = omega arith
once name false = omega arith

module _ (q : TreeProgram) (g : TreeFn) (number : ℕ) (there : slice_get q.functions number ≡ Some g) (is_main : g.name ≡ codes "main") (w : IsWritable q) where
  abbrev alone : TreeFn
  alone = empty_main g.locals

  abbrev r : TreeProgram
  r = emptied q g.locals

  valid : IsValid r
  valid = record {
    names =
        record {
          one_main = refl;
          main_args = All-from_recursion (λ f. main_takes_nothing f ≡ true) (alone ∷ []) (refl, tt);
          no_putchar = refl;
          no_getchar = refl;
          differ = λ name. once name (bytes_eq (codes "main") name);
        };
    roots = All-from_recursion (ItemsStand (alone ∷ []) (length q.objects)) (alone ∷ []) (All-nil (ItemStands (alone ∷ []) (length q.objects) alone), tt);
    wanted = All-from_recursion WantedStand (alone ∷ []) ((All-nil (λ n. nat_lt n g.locals ≡ true), λ n. omega arith), tt);
    labels_once = λ n. omega arith;
    targets = All-from_recursion TargetsStand (alone ∷ []) ((λ n lt. lt), tt);
    calls = All-from_recursion PushesStand (alone ∷ []) (nothing, tt);
    objects = w.valid.objects;
    links = w.valid.links;
  }

  names : CanWrite r
  names = record { objects = w.names.objects; functions = (refl, tt) }

  apart_from : (k : ℕ) (f : TreeFn) → slice_get (alone ∷ []) k ≡ Some f → function_label g.name ≡ function_label f.name
  apart_from zero f is = ap function_label (is_main ∙ ap (λ (x : TreeFn). x.name) (same_Some alone f is))
  apart_from (suc k) f is = absurd cc

  apart : AreApart q.objects (alone ∷ [])
  apart = record {
    differ = w.apart.differ;
    functions = λ i k o f here at e. w.apart.functions i number o g here there (apart_from k f at ∙ e);
    trees = w.apart.trees;
    services = w.apart.services;
  }

  function_code : IsFunctionCode r alone (frame_of g.locals)
  function_code = record {
    layout = record { words = g.locals; mask = 0; homes = [] };
    body = [];
    locals = omega arith;
    few = w.locals number g there;
    is_mask = record { low = refl; high = omega arith };
    are_homes = record {
      paired = record { low = λ h has. absurd has; high = λ h has. absurd has; registers = λ g h has. absurd has; locals = λ g h has. absurd has };
      fits = λ h has. absurd has;
    };
    is_body = no_items;
    part_is = refl;
  }

  written : IsWritten r (code_of q g.locals)
  written = record {
    valid = valid;
    small = (tt, tt);
    apart = apart;
    numbers = w.numbers;
    functions = more alone [] (frame_of g.locals) [] function_code none;
    area = refl;
    names = names_nothing g.locals (area_of q.objects) (frame_of g.locals ++ []);
  }

  -- a call that begins holds its piece of the stack, whatever its items are
  holds_other : (stack : List ℕ) (f : Frame) (e : Extent) (h : TreeFn) (low high : ℕ) → Holds stack f e (begun h []) low high → Holds stack f e (begun g []) low high
  holds_other stack f e h low high a = record {
    words = a.words;
    control = a.control;
    saved = a.saved;
    top = a.top;
    end = a.end;
    aligned = a.aligned;
    locals = a.locals;
    few = a.few;
    mask = a.mask;
    count = a.count;
    argument = a.argument;
    is_local = a.is_local;
    local = a.local;
    pushed = a.pushed;
  }

  agrees_other : (input : List ℕ) (e : Extent) (h : TreeFn) (m : State) → Agrees q.objects e [] (beginning r h input) m → Agrees q.objects e [] (beginning q g input) m
  agrees_other input e h m a = record {
    sound = a.sound;
    labelled = a.labelled;
    area = a.area;
    input = a.input;
    innermost = a.innermost;
    outer = a.outer;
    high = a.high;
    frames = a.frames;
    fp = a.fp;
    ap = a.ap;
    running = holds_other m.stack a.innermost e h _ a.high a.running;
    callers = a.callers;
    bottom = a.bottom;
  }

  begins_too : (input : List ℕ) → main_of q.functions ≡ Some g → HasBegin vax r input → HasBegin vax q input
  begins_too input is h =
      let same : alone ≡ h.main = same_Some alone h.main h.main_is in
      let locals : g.locals ≡ h.main.locals = ap (λ (x : TreeFn). x.locals) same in
      let own = h.begins.own in
      record {
        main = g;
        main_is = is;
        frame = h.frame;
        machine = h.machine;
        begins = record {
          program = w.valid;
          spelled = w.names;
          few = h.begins.few;
          own = omega (arith, own, locals);
          within = h.begins.within;
          written = λ k n e. absurd (none-some n e);
          agrees = agrees_other input h.frame h.main h.machine h.begins.agrees;
          room = h.begins.room;
        };
      }

  begins : (input : List ℕ) → main_of q.functions ≡ Some g → AllBelow 256 input → HasBegin vax q input
  begins input is bytes = begins_too input is (written_programs_begin r (code_of q g.locals) input names written bytes)

pub each_program_begins : EachProgramBegins
each_program_begins q input w bytes =
    let names = w.valid.names in
    let main = find_main q.functions (omega (arith, names.one_main)) in
    let at = found q.functions main.0 main.1 in
    begins q main.0 at.0 at.1 at.2 w input main.1 bytes
