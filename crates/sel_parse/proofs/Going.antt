-- The steps over the tables are those of the parse over whole stacks.
use Rattle.std.proofs.Common.{◌≡◌, ◌⊎◌, inl, inr, ℕ, ◌+◌, ◌-◌, ◌<◌, ◌≤◌, ◌==◌, List, [], ◌∷◌, ◌++◌, Option, Some, None, Bool, true, false, Contains, length, get_or, set, take}
use Rattle.std.proofs.Common.{drop, replicate, slice_get, refl, sym, ap, ◌∙◌, subst, arith, length-drop}
use Rattle.std.specs.Prelude.{Result, Ok, Err, map, ◌||◌, if◌then◌else◌}
use Rattle.std.specs.Option.{option_map}
use Rattle.std.proofs.lemmas.List.{length-replicate}
use Rattle.tree_core.specs.declared.token.Tok.{Tok}
use Rattle.tree_core.specs.declared.token.Tok.TheVariants as tok
use Rattle.tree_core.specs.declared.tree.Leaf.{Leaf}
use Rattle.tree_core.specs.declared.program.TreeProgram.{TreeProgram}
use Rattle.md_reader.specs.declared.types.Rule.{Rule}
use Rattle.md_reader.specs.declared.types.Sym.{Sym}
use Rattle.md_reader.specs.declared.types.Sym.TheVariants as grammar_symbol
use Rattle.md_reader.specs.Valid.{IsValid}
use Rattle.lr_tables.specs.declared.types.Choice.{Choice}
use Rattle.lr_tables.specs.declared.types.Choice.TheVariants as choice
use Rattle.lr_tables.specs.Grammar.{IsGrammar}
use Rattle.lr_tables.specs.Statements.{stmt_of}
use Rattle.lr_tables.specs.View.{TableView}
use Rattle.lr_tables.specs.Promises.{IsNumbered}
use Rattle.lr_tables.specs.Leads.{target_at, actions_at, Leads}
use Rattle.lr_tables.specs.Candidates.{StandsBefore, AreReductions, Candidates, Goes}
use Rattle.lr_tables.specs.Candidates as candidate
use Rattle.lr_tables.proofs.Law.{candidates, goes}
use Rattle.lr_tables.proofs.Validity.{is_grammar}
use Rattle.lr_check.proofs.Covered.{covers, opened, statement_alone}
use Rattle.lr_check.proofs.Seen.{Seen, seen_start, seen_shift}
use Rattle.lr_check.proofs.Contained.{nowhere_in}
use Rattle.sel_parse_desk.specs.lr_check_parse.specs.Moves.{Answering, Move, Shift, Reduce, Ending, Accepts, Blocks, Loops, Refuses, Taken, taken, coming, decided_at, Parses}
use Rattle.sel_parse_desk.specs.lr_check_parse.specs.Moves as parse
use Rattle.sel_parse_desk.specs.lr_check_parse.specs.Attributes.{by_attributes, answered}
use Rattle.sel_parse_desk.specs.lr_check_parse.proofs.Asked.{keeps, kept_so}
use Rattle.sel_parse_desk.specs.lr_check_parse.proofs.Choosing.{taken_among}
use Rattle.sel_parse_desk.specs.lr_check_parse.proofs.Bounds.{left, Marks}
use Rattle.sel_parse_desk.specs.lr_check_parse.proofs.Existence.{shift_falls, from_here}
use Rattle.sel_target.specs.Meaning.{Meaning}
use Rattle.sel_parse_desk.specs.Desk.{Stack, Outcome, Full, Stuck, Done}
use Rattle.sel_parse_desk.specs.Reductions.{reduced}
use Rattle.sel_parse_desk.specs.Selected.{Kept, kept_of, shifted, reduced_by, reduced_at, selecting, Parsed, FrameFull, Blocked, blocks, circles, lacks}
use Rattle.sel_parse.specs.Steps.{Config, Turn, Onward, Accepted, NoWord, NoRegister, NoWay, Circle, top_of, or_later, chosen, shifted_turn, seen_before, marked, placed}
use Rattle.sel_parse.specs.Steps.{reduced_turn, takes_rule, takes, turn_by, made_turn, step, Falls, Turns, Ends}
use Rattle.sel_parse.specs.Steps as code
use Rattle.sel_parse.specs.declared.selection.ParseFault.{ParseFault}
use Rattle.sel_parse.specs.declared.selection.ParseFault.TheVariants as parse_fault
use Rattle.sel_parse.proofs.Placing.{again, fresh}
use Rattle.sel_parse.proofs.States.{AreStates, states_lead, as_many, states_below, state_above, Next, next_leaf}

pub Err-same : {X : Type 0} (a b : ParseFault) → ◌≡◌ {A = Result X ParseFault} (Err a) (Err b) → a ≡ b
Err-same {X = X} a b e = ap out e
  where
    out : Result X ParseFault → ParseFault
    out (Ok x) = a
    out (Err x) = x

module _ {O I S F : Type 0} (of : Meaning O I S F) (q : TreeProgram) (t : TableView) (first : ℕ) (w : List Leaf) where
  -- the whole parse ends so
  abbrev pub End : Ending (Kept O I) → Type 0
  End e = (log : List (Move Leaf)) × Parsed of q t.content first w log e

  -- marks of the classes that were on top
  pub record Marked (before : List (List Sym)) (a : List Sym) (seen : List Bool) : Type 0 where
    pub seen_is : Seen seen a (a ∷ before)
    pub size : length seen ≡ length t.content.classes

  -- What the code holds stands for a stack of symbols; the rest of the parse from here is the rest of the whole parse.
  pub record Going (c : Config O I) : Type 0 where
    pub symbols : List Sym
    pub before : List (List Sym)
    pub states : AreStates t symbols c.states
    pub marks : Marked before symbols c.seen
    pub new : Contains before symbols → ⊥
    pub room : c.at ≤ length w
    pub on : (log : List (Move Leaf)) (e : Ending (Kept O I))
        → Parses (by_attributes (selecting of q t.content first)) t.content.rules (stmt_of t.content.classes) c.at before (drop c.at w) symbols (Some c.stack) log e → End e

  pub going_from : (c : Config O I) → c.at ≡ 0 → c.states ≡ [] → c.seen ≡ replicate (length t.content.classes) false
      → c.stack ≡ record { entries = []; code = []; most = first } → Going c
  going_from c at states seen stack =
      subst Going (λ i. record { at = sym at i; states = sym states i; seen = sym seen i; stack = sym stack i }) (record {
        symbols = [];
        before = [];
        states = refl;
        marks = record { seen_is = seen_start (length t.content.classes); size = length-replicate (length t.content.classes) false };
        new = nowhere_in [];
        room = omega arith;
        on = λ log e p. (log, p);
      })

  -- what is left to do
  abbrev pub weight : Config O I → ℕ
  weight c = left (length w - c.at) (length c.states) c.seen

  -- what a step comes to
  abbrev pub Comes : Config O I → Turn O I → Type 0
  Comes c (Onward d) = Going d × (weight d < weight c)
  Comes c Accepted = End (Accepts (Some c.stack))
  Comes c NoWord = FrameFull of q t.content first w
  Comes c NoRegister = Blocked of q t.content first w
  Comes c NoWay = Blocked of q t.content first w
  Comes c Circle = Blocked of q t.content first w

module _ {O I S F : Type 0} (of : Meaning O I S F) (q : TreeProgram) (t : TableView) (first : ℕ) (w : List Leaf) (valid : IsValid t.content) (numbered : IsNumbered t) where
  abbrev asked : Answering Leaf (Kept O I)
  asked = by_attributes (selecting of q t.content first)

  abbrev rules : List Rule
  rules = t.content.rules

  abbrev stmt : ℕ
  stmt = stmt_of t.content.classes

  abbrev classes : ℕ
  classes = length t.content.classes

  grammar : IsGrammar rules stmt classes
  grammar = is_grammar t.content valid

  abbrev Here : ℕ → List (List Sym) → List Leaf → List Sym → Kept O I → List (Move Leaf) → Ending (Kept O I) → Type 0
  Here at before ws a x log e = Parses asked rules stmt at before ws a x log e

  abbrev Whole : Ending (Kept O I) → Type 0
  Whole e = End of q t first w e

  abbrev Goes_on : Config O I → Type 0
  Goes_on c = Going of q t first w c

  abbrev Come : Config O I → Turn O I → Type 0
  Come c turn = Comes of q t first w c turn

  marked_so : (c : Config O I) (g : Goes_on c) → Marks asked rules stmt classes grammar g.before g.symbols c.seen
  marked_so c g = record { seen_is = g.marks.seen_is; size = g.marks.size }

  -- where nothing is kept, nothing comes back
  abbrev Lost : Ending (Kept O I) → Type 0
  Lost (Accepts None) = Unit {0}
  Lost (Accepts (Some x)) = ⊥
  Lost (Blocks at) = Unit {0}
  Lost (Loops at) = Unit {0}
  Lost Refuses = ⊥

  none_back : (n : ℕ) → reduced_at of q t.content first n None ≡ Some None
  none_back n = by (slice_get t.content.rules n)
    where
      by : (o : Option Rule) → reduced_by of q t.content first o None ≡ Some None
      by None = refl
      by (Some r) = refl

  abbrev out : Kept O I → Option (Kept O I) → Kept O I
  out d None = d
  out d (Some x) = x

  lost : {at : ℕ} {before : List (List Sym)} {ws : List Leaf} {a : List Sym} {x : Kept O I} {log : List (Move Leaf)} {e : Ending (Kept O I)}
      → Here at before ws a x log e → x ≡ None → Lost e
  lost (parse.loops h) n = tt
  lost (parse.accepts h s f) n = subst (λ (y : Kept O I). Lost (Accepts y)) (sym n) tt
  lost (parse.shifts {l = l} h s b g) n = lost g (ap (shifted l) n)
  lost (parse.reduces {n = m} {ws = ws} {a = a} {x = x} {y = y} {z = z} r h c there red g) n =
      let was : y ≡ None = sym (kept_so (selecting of q t.content first) rules stmt ws a x y (Some m) c) ∙ n in
      let same : Some z ≡ Some None = sym red ∙ (ap (reduced_at of q t.content first m) was ∙ none_back m) in
      lost g (ap (out z) same)
  lost (parse.refuses {n = m} {ws = ws} {a = a} {x = x} {y = y} r h c there red) n =
      let was : y ≡ None = sym (kept_so (selecting of q t.content first) rules stmt ws a x y (Some m) c) ∙ n in
      let same : None ≡ Some None = sym red ∙ (ap (reduced_at of q t.content first m) was ∙ none_back m) in
      unlike same
    where
      unlike : ◌≡◌ {A = Option (Kept O I)} None (Some None) → ⊥
      unlike e = cc
  lost (parse.blocks h c) n = tt

  blocked_so : (e : Ending (Kept O I)) → Lost e → Whole e → Blocked of q t.content first w
  blocked_so (Accepts None) l p = lacks p.0 p.1
  blocked_so (Accepts (Some x)) l p = absurd l
  blocked_so (Blocks at) l p = blocks p.0 at p.1
  blocked_so (Loops at) l p = circles p.0 at p.1
  blocked_so Refuses l p = absurd l

  -- the choice of the code is that of the parse
  chosen_is : (ns : List ℕ) (x : Stack O I)
      → chosen (takes of q t.content first x) (map choice.Reduce ns) ≡ option_map choice.Reduce (taken asked rules ns (Some x)).rule
  chosen_is [] x = refl
  chosen_is (n ∷ ns) x = by (slice_get rules n) (chosen_is ns x)
    where
      others : Kept O I → Taken (Kept O I)
      others z = taken asked rules ns z

      tests : (b c : Bool) → chosen (takes of q t.content first x) (map choice.Reduce ns) ≡ option_map choice.Reduce (others (Some x)).rule
          → or_later (b || c) n (chosen (takes of q t.content first x) (map choice.Reduce ns))
          ≡ option_map choice.Reduce
          (if b then record { rule = Some n; kept = Some x } else if c then record { rule = Some n; kept = Some x } else others (Some x)).rule
      tests true c go = refl
      tests false true go = refl
      tests false false go = go

      by : (o : Option Rule) → chosen (takes of q t.content first x) (map choice.Reduce ns) ≡ option_map choice.Reduce (others (Some x)).rule
          → or_later (takes_rule of q t.content first x o) n (chosen (takes of q t.content first x) (map choice.Reduce ns))
          ≡ option_map choice.Reduce (decided_at asked n o (Some x) others).rule
      by None go = go
      by (Some r) go = tests (length r.restrictions == 0) (answered (selecting of q t.content first) r (Some x)) go

  -- where a rule is taken
  record Takes (c : Config O I) (g : Goes_on c) (n : ℕ) (r : Rule) : Type 0 where
    pub choice : parse.Choice asked rules stmt (drop c.at w) g.symbols (Some c.stack) (Some n) (Some c.stack)
    pub there : slice_get rules n ≡ Some r
    pub some : 0 < length r.right
    pub within : length r.right ≤ length g.symbols
    pub before : StandsBefore rules stmt (drop (length r.right) g.symbols) (grammar_symbol.Class r.left)

  refused_so : (c : Config O I) (g : Goes_on c) (n : ℕ) (r : Rule) (k : Takes c g n r) → reduced of q t.content first r c.stack ≡ Full → FrameFull of q t.content first w
  refused_so c g n r k e =
      let red : reduced_at of q t.content first n (Some c.stack) ≡ None =
      ap (λ (o : Option Rule). reduced_by of q t.content first o (Some c.stack)) k.there ∙ ap kept_of e in
      let p = g.on [] Refuses (parse.refuses r g.new k.choice k.there red) in
      record { log = p.0; parsed = p.1 }

  -- the state behind a rule
  lead_above : (c : Config O I) (g : Goes_on c) (n : ℕ) (r : Rule) (k : Takes c g n r) (o : Option ℕ)
      → Goes rules stmt t (drop (length r.right) g.symbols) r.left o
      → (p : ℕ) × (o ≡ Some p) × Leads t (grammar_symbol.Class r.left ∷ drop (length r.right) g.symbols) p
  lead_above c g n r k None h = absurd (h k.before)
  lead_above c g n r k (Some p) h = (p, refl, h.1)

  led : (c : Config O I) (g : Goes_on c) (n : ℕ) (r : Rule) (k : Takes c g n r)
      → (p : ℕ) × (target_at t (top_of (take (length c.states - length r.right) c.states)) (grammar_symbol.Class r.left) ≡ Some p)
      × Leads t (grammar_symbol.Class r.left ∷ drop (length r.right) g.symbols) p
  led c g n r k =
      let low = states_lead t (drop (length r.right) g.symbols) (take (length c.states - length r.right) c.states) (states_below t (length r.right) g.symbols c.states g.states) in
      lead_above c g n r k (target_at t (top_of (take (length c.states - length r.right) c.states)) (grammar_symbol.Class r.left))
      (goes rules stmt classes grammar t.content t.rows numbered (drop (length r.right) g.symbols) (top_of (take (length c.states - length r.right) c.states)) r.left low)

  -- where nothing is kept any more, the parse goes on to some end
  lost_so : (c : Config O I) (g : Goes_on c) (n : ℕ) (r : Rule) (k : Takes c g n r) → reduced of q t.content first r c.stack ≡ Stuck → Blocked of q t.content first w
  lost_so c g n r k e = by (get_or (seen_before c.seen (length r.right)) r.left false) refl
    where
      red : reduced_at of q t.content first n (Some c.stack) ≡ Some None
      red = ap (λ (o : Option Rule). reduced_by of q t.content first o (Some c.stack)) k.there ∙ ap kept_of e

      back : (log : List (Move Leaf)) (f : Ending (Kept O I))
          → Here c.at (g.symbols ∷ g.before) (drop c.at w) (grammar_symbol.Class r.left ∷ drop (length r.right) g.symbols) None log f → Blocked of q t.content first w
      back log f p = blocked_so f (lost p refl) (g.on (Reduce n ∷ log) f (parse.reduces r g.new k.choice k.there red p))

      declared : r.left < classes
      declared = grammar.lefts n r k.there

      by : (b : Bool) → get_or (seen_before c.seen (length r.right)) r.left false ≡ b → Blocked of q t.content first w
      by true f = back [] (Loops c.at) (parse.loops (again asked rules stmt classes grammar g.before g.symbols c.seen (marked_so c g) r.left declared (length r.right) k.some f))
      by false f =
          let s = fresh asked rules stmt classes grammar g.before g.symbols c.seen (marked_so c g) r.left declared (length r.right) k.some k.within f in
          let l = led c g n r k in
          let p = from_here asked rules stmt classes grammar t
          (λ a i x h. candidates rules stmt classes grammar t.content t.rows numbered a i x h)
          (λ a i x h. goes rules stmt classes grammar t.content t.rows numbered a i x h)
          c.at (g.symbols ∷ g.before) (drop c.at w) (grammar_symbol.Class r.left ∷ drop (length r.right) g.symbols) None
          (set (seen_before c.seen (length r.right)) r.left true) l.0 s.marked s.new l.2 in
          back p.0 p.1 p.2

  -- the rule's class comes on top
  done_so : (c : Config O I) (g : Goes_on c) (n : ℕ) (r : Rule) (k : Takes c g n r) (x : Stack O I) → reduced of q t.content first r c.stack ≡ Done x
      → Come c (reduced_turn t c r (Done x))
  done_so c g n r k x e =
      let l = led c g n r k in
      subst (λ (o : Option ℕ). Come c (placed c (take (length c.states - length r.right) c.states) r x o)) (sym l.1) (by l.0 l.2 (get_or (seen_before c.seen (length r.right)) r.left false) refl)
    where
      red : reduced_at of q t.content first n (Some c.stack) ≡ Some (Some x)
      red = ap (λ (o : Option Rule). reduced_by of q t.content first o (Some c.stack)) k.there ∙ ap kept_of e

      declared : r.left < classes
      declared = grammar.lefts n r k.there

      below : List ℕ
      below = take (length c.states - length r.right) c.states

      back : (log : List (Move Leaf)) (f : Ending (Kept O I))
          → Here c.at (g.symbols ∷ g.before) (drop c.at w) (grammar_symbol.Class r.left ∷ drop (length r.right) g.symbols) (Some x) log f → Whole f
      back log f p = g.on (Reduce n ∷ log) f (parse.reduces r g.new k.choice k.there red p)

      by : (p : ℕ) → Leads t (grammar_symbol.Class r.left ∷ drop (length r.right) g.symbols) p → (b : Bool)
          → get_or (seen_before c.seen (length r.right)) r.left false ≡ b
          → Come c (if b then Circle else Onward (record { at = c.at; states = below ++ p ∷ []; seen = set (seen_before c.seen (length r.right)) r.left true; stack = x }))
      by p lead true f =
          let z = back [] (Loops c.at) (parse.loops (again asked rules stmt classes grammar g.before g.symbols c.seen (marked_so c g) r.left declared (length r.right) k.some f)) in
          circles z.0 c.at z.1
      by p lead false f =
          let s = fresh asked rules stmt classes grammar g.before g.symbols c.seen (marked_so c g) r.left declared (length r.right) k.some k.within f in
          let ups = state_above t (grammar_symbol.Class r.left) (drop (length r.right) g.symbols) below p (states_below t (length r.right) g.symbols c.states g.states) lead in
          let many = as_many t (grammar_symbol.Class r.left ∷ drop (length r.right) g.symbols) (below ++ p ∷ []) ups in
          let was = as_many t g.symbols c.states g.states in
          let fall = s.falls (length w - c.at) in
          let next = set (seen_before c.seen (length r.right)) r.left true in
          let one : length (drop (length r.right) g.symbols) + 1 ≡ length (below ++ p ∷ []) = omega (arith, many) in
          let fall1 : left (length w - c.at) (length (below ++ p ∷ [])) next + 1 ≤ left (length w - c.at) (length g.symbols) c.seen =
          subst (λ j. left (length w - c.at) j next + 1 ≤ left (length w - c.at) (length g.symbols) c.seen) one fall in
          let fall2 : left (length w - c.at) (length (below ++ p ∷ [])) next + 1 ≤ left (length w - c.at) (length c.states) c.seen =
          subst (λ j. left (length w - c.at) (length (below ++ p ∷ [])) next + 1 ≤ left (length w - c.at) j c.seen) (sym was) fall1 in (
            record {
              symbols = grammar_symbol.Class r.left ∷ drop (length r.right) g.symbols;
              before = g.symbols ∷ g.before;
              states = ups;
              marks = record { seen_is = s.marked.seen_is; size = s.marked.size };
              new = s.new;
              room = g.room;
              on = back;
            },
            omega (arith, fall2),
          )

  taken_so : (c : Config O I) (g : Goes_on c) (n : ℕ) (r : Rule) → Takes c g n r → Come c (turn_by of q t first c (slice_get rules n))
  taken_so c g n r k =
      subst (λ (o : Option Rule). Come c (turn_by of q t first c o)) (sym k.there) (by (reduced of q t.content first r c.stack) refl)
    where
      by : (o : Outcome (Stack O I)) → reduced of q t.content first r c.stack ≡ o → Come c (reduced_turn t c r o)
      by Full e = refused_so c g n r k e
      by Stuck e = lost_so c g n r k e
      by (Done x) e = done_so c g n r k x e

  -- a leaf is shifted
  shifts_so : (c : Config O I) (g : Goes_on c) (p : ℕ) (l : Leaf) → Next w c.at l → StandsBefore rules stmt g.symbols (grammar_symbol.Tok l.tok) → (l.tok ≡ tok.End → ⊥)
      → Leads t (grammar_symbol.Tok l.tok ∷ g.symbols) p → Come c (shifted_turn c p (Some l))
  shifts_so c g p l next stands some lead =
      let ups = state_above t (grammar_symbol.Tok l.tok) g.symbols c.states p g.states lead in
      let many = as_many t (grammar_symbol.Tok l.tok ∷ g.symbols) (c.states ++ p ∷ []) ups in
      let was = as_many t g.symbols c.states g.states in
      let none = replicate (length c.seen) false in
      let size : length none ≡ length c.seen = length-replicate (length c.seen) false in
      let fall = shift_falls (length w - (c.at + 1)) (length c.states) c.seen none size in
      let more : length w - (c.at + 1) + 1 ≡ length w - c.at = left_over w c.at l next in
      let one : length c.states + 1 ≡ length (c.states ++ p ∷ []) = omega (arith, many, was) in
      let fall1 : left (length w - (c.at + 1)) (length (c.states ++ p ∷ [])) none + 1 ≤ left (length w - (c.at + 1) + 1) (length c.states) c.seen =
      subst (λ j. left (length w - (c.at + 1)) j none + 1 ≤ left (length w - (c.at + 1) + 1) (length c.states) c.seen) one fall in
      let fall2 : left (length w - (c.at + 1)) (length (c.states ++ p ∷ [])) none + 1 ≤ left (length w - c.at) (length c.states) c.seen =
      subst (λ j. left (length w - (c.at + 1)) (length (c.states ++ p ∷ [])) none + 1 ≤ left j (length c.states) c.seen) more fall1 in (
        record {
          symbols = grammar_symbol.Tok l.tok ∷ g.symbols;
          before = [];
          states = ups;
          marks = record {
            seen_is = seen_shift (length c.seen) l.tok g.symbols;
            size = size ∙ g.marks.size;
          };
          new = nowhere_in (grammar_symbol.Tok l.tok ∷ g.symbols);
          room = omega (arith, more);
          on = λ log e h. g.on (Shift l ∷ log) e
              (subst (λ (ws : List Leaf). Here c.at g.before ws g.symbols (Some c.stack) (Shift l ∷ log) e) (sym next.rest) (parse.shifts g.new some stands h));
        },
        omega (arith, fall2),
      )
    where
      left_over : (v : List Leaf) (at : ℕ) (m : Leaf) → Next v at m → length v - (at + 1) + 1 ≡ length v - at
      left_over v at m n =
          let d : length (drop at v) ≡ length (m ∷ drop (at + 1) v) = ap (λ (x : List Leaf). length x) n.rest in
          let e = length-drop at v in
          omega (arith, d, e)

  -- what may be done
  comes_by : (c : Config O I) (g : Goes_on c) (o : Option Leaf) → coming asked (drop c.at w) ≡ code.coming o
      → ((p : ℕ) → StandsBefore rules stmt g.symbols (grammar_symbol.Tok (code.coming o)) → (code.coming o ≡ tok.End → ⊥)
      → Leads t (grammar_symbol.Tok (code.coming o) ∷ g.symbols) p → Come c (shifted_turn c p o))
      → (cs : List Choice) → Candidates rules stmt t g.symbols (code.coming o) cs → Come c (made_turn of q t first c o (chosen (takes of q t.content first c.stack) cs))
  comes_by c g o same shifting cs (candidate.accepts stands e) =
      g.on [] (Accepts (Some c.stack))
      (parse.accepts g.new (statement_alone rules stmt classes grammar g.symbols (subst (λ (k : Tok). StandsBefore rules stmt g.symbols (grammar_symbol.Tok k)) e stands)) (same ∙ e))
  comes_by c g o same shifting cs (candidate.shifts {q = p} stands some on) = shifting p stands some on
  comes_by c g o same shifting cs (candidate.reduces ns off are e) =
      subst (λ (x : List Choice). Come c (made_turn of q t first c o (chosen (takes of q t.content first c.stack) x))) (sym e)
      (subst (λ (x : Option Choice). Come c (made_turn of q t first c o x)) (sym (chosen_is ns c.stack)) (by (taken asked rules ns (Some c.stack)).rule refl))
    where
      choice_of : (n : Option ℕ) → (taken asked rules ns (Some c.stack)).rule ≡ n → parse.Choice asked rules stmt (drop c.at w) g.symbols (Some c.stack) n (Some c.stack)
      choice_of n f = record {
        no_shift = subst (λ (k : Tok). StandsBefore rules stmt g.symbols (grammar_symbol.Tok k) → ⊥) (sym same) off;
        candidates = ns;
        in_order = subst (λ (k : Tok). AreReductions rules stmt g.symbols k ns) (sym same) are;
        takes = λ i. record { rule = f i; kept = keeps (selecting of q t.content first) rules ns (Some c.stack) i };
      }

      by : (n : Option ℕ) → (taken asked rules ns (Some c.stack)).rule ≡ n → Come c (made_turn of q t first c o (option_map choice.Reduce n))
      by None f = (let p = g.on [] (Blocks c.at) (parse.blocks g.new (choice_of None f)) in blocks p.0 c.at p.1)
      by (Some n) f =
          let k = choice_of (Some n) f in
          let m = (are.exactly n).0 (taken_among asked rules ns (Some c.stack) n (Some c.stack) k.takes) in
          let v = covers rules stmt m.complete in
          taken_so c g n m.rule (record {
            choice = k;
            there = m.there;
            some = grammar.some n m.rule m.there;
            within = v.within;
            before = opened rules stmt v.below n m.rule refl m.there;
          })

  abbrev Coming : Config O I → Option Leaf → Type 0
  Coming c o = Come c (made_turn of q t first c o (chosen (takes of q t.content first c.stack) (actions_at t (top_of c.states) (code.coming o))))

  pub comes : (c : Config O I) → Going of q t first w c → Comes of q t first w c (step of q t first w c)
  comes c g = by (next_leaf w c.at)
    where
      cands : (k : Tok) → Candidates rules stmt t g.symbols k (actions_at t (top_of c.states) k)
      cands k = candidates rules stmt classes grammar t.content t.rows numbered g.symbols (top_of c.states) k (states_lead t g.symbols c.states g.states)

      by : ((slice_get w c.at ≡ None) × (drop c.at w ≡ [])) ⊎ ((l : Leaf) × Next w c.at l) → Coming c (slice_get w c.at)
      by (inl n) =
          subst (Coming c) (sym n.0) (comes_by c g None (ap (coming asked) n.1) (λ p s some on. absurd (some refl)) (actions_at t (top_of c.states) tok.End) (cands tok.End))
      by (inr n) =
          subst (Coming c) (sym n.1.there)
          (comes_by c g (Some n.0) (ap (coming asked) n.1.rest) (λ p s some on. shifts_so c g p n.0 n.1 s some on) (actions_at t (top_of c.states) n.0.tok) (cands n.0.tok))

  pub full_comes : (c : Config O I) (e : ParseFault) → Going of q t first w c → Falls e (step of q t first w c) → e ≡ parse_fault.FrameFull
      → FrameFull of q t.content first w
  full_comes c e g f same =
      let is : step of q t first w c ≡ NoWord = subst (λ (x : ParseFault). Falls x (step of q t first w c)) same f in
      subst (λ (x : Turn O I). Comes of q t first w c x) is (comes c g)

  pub blocked_comes : (c : Config O I) (e : ParseFault) → Going of q t first w c → Falls e (step of q t first w c) → e ≡ parse_fault.Blocked
      → Blocked of q t.content first w
  blocked_comes c e g f same = by (subst (λ (x : ParseFault). Falls x (step of q t first w c)) same f)
    where
      at : (x : Turn O I) → step of q t first w c ≡ x → Comes of q t first w c x
      at x is = subst (λ (y : Turn O I). Comes of q t first w c y) is (comes c g)

      by : (step of q t first w c ≡ NoRegister) ⊎ ((step of q t first w c ≡ NoWay) ⊎ (step of q t first w c ≡ Circle)) → Blocked of q t.content first w
      by (inl is) = at NoRegister is
      by (inr (inl is)) = at NoWay is
      by (inr (inr is)) = at Circle is

  pub accepted_comes : (c d : Config O I) → Going of q t first w c → Turns true c d (step of q t first w c) → Ends of q t.content first w d.stack
  accepted_comes c d g h =
      subst (λ (k : Config O I). Ends of q t.content first w k.stack) (sym h.1) (subst (λ (y : Turn O I). Comes of q t first w c y) h.0 (comes c g))

  pub onward_comes : (c d : Config O I) → Going of q t first w c → Turns false c d (step of q t first w c)
      → Going of q t first w d × (weight of q t first w d < weight of q t first w c)
  onward_comes c d g h = subst (λ (y : Turn O I). Comes of q t first w c y) h (comes c g)
