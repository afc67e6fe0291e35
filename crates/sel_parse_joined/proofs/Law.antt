-- A parse by the one selection is a parse by the other.
use Rattle.std.proofs.Common.{◌≡◌, ℕ, zero, suc, ◌+◌, ◌==◌, List, [], ◌∷◌, ◌++◌, length, map, take, drop, slice_get, Option, Some, None, Bool, true, false, refl, sym, ap, ◌∙◌, subst}
use Rattle.std.specs.Prelude.{reverse, option_map, ◌-◌, ◌&&◌, if◌then◌else◌}
use Rattle.std.proofs.lemmas.Option.{none-some, same_Some, slice_get-map}
use Rattle.std.proofs.lemmas.List.{take-map}
use Rattle.gg_base.proofs.Facts.{all_get}
use Rattle.tree_core.specs.declared.token.Tok.{Tok}
use Rattle.tree_core.specs.declared.tree.Leaf.{Leaf}
use Rattle.tree_core.specs.declared.program.TreeProgram.{TreeProgram}
use Rattle.tree_core_forks.specs.Forks.{forks}
use Rattle.md_reader.specs.declared.types.Restriction.{Restriction}
use Rattle.md_reader.specs.declared.types.Restriction.TheVariants as restriction
use Rattle.md_reader.specs.declared.types.Rule.{Rule}
use Rattle.md_reader.specs.declared.types.Sym.{Sym}
use Rattle.md_reader.specs.declared.types.Sym.TheVariants as grammar_symbol
use Rattle.md_reader.specs.State.{Content}
use Rattle.sel_parse_slots.specs.lr_tables.specs.Candidates.{StandsBefore, AreReductions}
use Rattle.sel_parse_slots.specs.lr_tables.specs.Statements.{stmt_of}
use Rattle.sel_parse_slots.specs.lr_check_parse.specs.Moves.{Move, Ending, Accepts, Blocks, Loops, Refuses, Taken, coming, decided_at, taken, Choice, Parses}
use Rattle.sel_parse_slots.specs.lr_check_parse.specs.Moves as parse
use Rattle.sel_parse_slots.specs.lr_check_parse.specs.Attributes.{Selecting, by_attributes, answered, attribute_at, same_spelling, constant_at, relation_at, in_range, is_signed, holds, all_hold}
use Rattle.sel_parse_slots.specs.sel_terms_trees.specs.Senses.{piled}
use Rattle.sel_target.specs.Meaning.{Meaning}
use Rattle.sel_target.specs.Laws.{IsLawful}
use Rattle.sel_parse_slots.specs.sel_parse_moves.proofs.Covering.{known}
use Rattle.sel_parse_slots.specs.sel_parse_selected.specs.Entries.{Entry}
use Rattle.sel_parse_slots.specs.sel_parse_selected.specs.Desk.{Stack}
use Rattle.sel_parse_slots.specs.sel_parse_selected.specs.Desk as selected_desk
use Rattle.sel_parse_slots.specs.sel_parse_selected.specs.Reductions.{reduced}
use Rattle.sel_parse_slots.specs.sel_parse_selected.specs.Selected as selected
use Rattle.sel_parse_slots.specs.sel_parse_desk.specs.Entries as computed_entries
use Rattle.sel_parse_slots.specs.sel_parse_desk.specs.Desk as computed_desk
use Rattle.sel_parse_slots.specs.sel_parse_desk.specs.Selected as computed
use Rattle.sel_parse_slots.specs.Claims.{IsTaken}
use Rattle.sel_parse_slots.proofs.Law as walk
use Rattle.sel_parse_slots.proofs.Prefixes.{gamma}
use Rattle.sel_parse_joined.specs.Claims.{IsSelectable, SameCode, SameFull}
use Rattle.sel_parse_joined.proofs.Turning.{turned_cons, map_turned}
use Rattle.sel_parse_joined.proofs.Holding.{entry, Agrees, AllAgree, all_agree, alike_same}
use Rattle.sel_parse_joined.proofs.Spilling.{outcome}
use Rattle.sel_parse_joined.proofs.Reducing.{stack, reduced_same}

module _ {O I S F : Type 0} (of : Meaning O I S F) (law : IsLawful of) (q : TreeProgram) (d : Content) (first : ℕ) where
  -- ---- what is kept, as the other definition has it
  abbrev pub kept : selected.Kept O I → computed.Kept O I
  kept None = None
  kept (Some x) = Some (stack of law q d first x)

  abbrev pub ending : Ending (selected.Kept O I) → Ending (computed.Kept O I)
  ending (Accepts x) = Accepts (kept x)
  ending (Blocks at) = Blocks at
  ending (Loops at) = Loops at
  ending Refuses = Refuses

  abbrev old : Selecting (selected.Kept O I) (Entry O)
  old = selected.selecting of q d first

  abbrev new : Selecting (computed.Kept O I) (computed_entries.Entry O)
  new = computed.selecting of q d first

  shifted_same : (l : Leaf) (x : selected.Kept O I) → computed.shifted l (kept x) ≡ kept (selected.shifted l x)
  shifted_same l None = refl
  shifted_same l (Some x) = refl

  entries_same : (x : selected.Kept O I) → computed.entries_of (kept x) ≡ map entry (selected.entries_of x)
  entries_same None = refl
  entries_same (Some x) = refl

  -- ---- questions

  abbrev AreHeld : List (Entry O) → Type 0
  AreHeld es = AllAgree of law q d first es

  at_same : (es : List (Entry O)) (i : ℕ) → attribute_at (map entry es) i ≡ option_map entry (attribute_at es i)
  at_same es i = by (i == 0)
    where
      by : (b : Bool) → (if b then None else slice_get (map entry es) (i - 1)) ≡ option_map entry (if b then None else slice_get es (i - 1))
      by true = refl
      by false = slice_get-map entry es (i - 1)

  abbrev AgreesIn : Option (Entry O) → Type 0
  AgreesIn None = Unit {0}
  AgreesIn (Some e) = Agrees of law q d first e.attr

  at_agrees : (es : List (Entry O)) (i : ℕ) → AreHeld es → AgreesIn (attribute_at es i)
  at_agrees es i h = by (i == 0)
    where
      get : (o : Option (Entry O)) → slice_get es (i - 1) ≡ o → AgreesIn o
      get None e = tt
      get (Some b) e = all_get (λ (b : Entry O). Agrees of law q d first b.attr) es (i - 1) b h e

      by : (b : Bool) → AgreesIn (if b then None else slice_get es (i - 1))
      by true = tt
      by false = get (slice_get es (i - 1)) refl

  spelling_same : (a b : Option (Entry O)) → AgreesIn a → AgreesIn b → same_spelling new (option_map entry a) (option_map entry b) ≡ same_spelling old a b
  spelling_same None b h k = refl
  spelling_same (Some a) None h k = refl
  spelling_same (Some a) (Some b) h k = alike_same of law q d first a b h k

  number_same : (o : Option (Entry O)) → constant_at new (option_map entry o) ≡ constant_at old o
  number_same None = refl
  number_same (Some e) = refl

  compares_same : (o : Option (Entry O)) → relation_at new (option_map entry o) ≡ relation_at old o
  compares_same None = refl
  compares_same (Some e) = refl

  holds_same : (es : List (Entry O)) (r : Restriction) → AreHeld es → holds new (map entry es) r ≡ holds old es r
  holds_same es (restriction.Same i j) h =
      ap (λ o. same_spelling new o (attribute_at (map entry es) j)) (at_same es i) ∙ ap (same_spelling new (option_map entry (attribute_at es i))) (at_same es j)
      ∙ spelling_same (attribute_at es i) (attribute_at es j) (at_agrees es i h) (at_agrees es j h)
  holds_same es (restriction.Range i low high) h = ap (λ o. in_range low high (constant_at new o)) (at_same es i) ∙ ap (in_range low high) (number_same (attribute_at es i))
  holds_same es (restriction.Signed i) h = ap (λ o. is_signed (relation_at new o)) (at_same es i) ∙ ap is_signed (compares_same (attribute_at es i))

  all_same : (es : List (Entry O)) (rs : List Restriction) → AreHeld es → all_hold new (map entry es) rs ≡ all_hold old es rs
  all_same es [] h = refl
  all_same es (r ∷ rs) h = ap (λ b. b && all_hold new (map entry es) rs) (holds_same es r h) ∙ ap (λ b. holds old es r && b) (all_same es rs h)

  all_taken : (n : ℕ) (es : List (Entry O)) → AreHeld es → AreHeld (take n es)
  all_taken zero es h = tt
  all_taken (suc n) [] h = tt
  all_taken (suc n) (e ∷ es) h = (h.0, all_taken n es h.1)

  all_put : (es fs : List (Entry O)) → AreHeld es → AreHeld fs → AreHeld (es ++ fs)
  all_put [] fs h k = k
  all_put (e ∷ es) fs h k = (h.0, all_put es fs h.1 k)

  all_turned : (es : List (Entry O)) → AreHeld es → AreHeld (reverse es)
  all_turned [] h = tt
  all_turned (e ∷ es) h = subst AreHeld (sym (turned_cons e es)) (all_put (reverse es) (e ∷ []) (all_turned es h.1) (h.0, tt))

  answered_same : (r : Rule) (x : selected.Kept O I) → AreHeld (selected.entries_of x) → answered new r (kept x) ≡ answered old r x
  answered_same r x h =
      ap (λ es. all_hold new (reverse (take (length r.right) es)) r.restrictions) (entries_same x)
      ∙ ap (λ es. all_hold new (reverse es) r.restrictions) (take-map entry (length r.right) (selected.entries_of x))
      ∙ ap (λ es. all_hold new es r.restrictions) (sym (map_turned entry (take (length r.right) (selected.entries_of x))))
      ∙ all_same (reverse (take (length r.right) (selected.entries_of x))) r.restrictions
      (all_turned (take (length r.right) (selected.entries_of x)) (all_taken (length r.right) (selected.entries_of x) h))

  -- ---- which rule is taken

  abbrev Result : Option ℕ → selected.Kept O I → Taken (selected.Kept O I)
  Result n x = record { rule = n; kept = x }

  abbrev NewResult : Option ℕ → computed.Kept O I → Taken (computed.Kept O I)
  NewResult n x = record { rule = n; kept = x }

  taken_same : (rules : List Rule) (ns : List ℕ) (x : selected.Kept O I) → AreHeld (selected.entries_of x) → (n : Option ℕ) (y : computed.Kept O I)
      → taken (by_attributes new) rules ns (kept x) ≡ NewResult n y → (taken (by_attributes old) rules ns x ≡ Result n x) × (kept x ≡ y)
  taken_same rules [] x h n y e = (ap (λ (t : Taken (computed.Kept O I)). Result t.rule x) e, ap (λ (t : Taken (computed.Kept O I)). t.kept) e)
  taken_same rules (m ∷ ns) x h n y e = by (λ f. taken_same rules ns x h n y f) (slice_get rules m) e
    where
      Goal : Taken (selected.Kept O I) → Type 0
      Goal t = (t ≡ Result n x) × (kept x ≡ y)

      Others : Type 0
      Others = taken (by_attributes new) rules ns (kept x) ≡ NewResult n y → Goal (taken (by_attributes old) rules ns x)

      choose : Others → (b c : Bool) → (if b then NewResult (Some m) (kept x) else if c then NewResult (Some m) (kept x) else taken (by_attributes new) rules ns (kept x)) ≡ NewResult n y
          → Goal (if b then Result (Some m) x else if c then Result (Some m) x else taken (by_attributes old) rules ns x)
      choose others true c f = (ap (λ (t : Taken (computed.Kept O I)). Result t.rule x) f, ap (λ (t : Taken (computed.Kept O I)). t.kept) f)
      choose others false true f = (ap (λ (t : Taken (computed.Kept O I)). Result t.rule x) f, ap (λ (t : Taken (computed.Kept O I)). t.kept) f)
      choose others false false f = others f

      by : Others → (o : Option Rule) → decided_at (by_attributes new) m o (kept x) (λ z. taken (by_attributes new) rules ns z) ≡ NewResult n y
          → Goal (decided_at (by_attributes old) m o x (λ z. taken (by_attributes old) rules ns z))
      by others None f = others f
      by others (Some r) f =
          choose others (length r.restrictions == 0) (answered old r x)
          (sym (ap (λ c. if length r.restrictions == 0 then NewResult (Some m) (kept x) else if c then NewResult (Some m) (kept x) else taken (by_attributes new) rules ns (kept x))
          (answered_same r x h)) ∙ f)

  coming_same : (ws : List Leaf) → coming (by_attributes new) ws ≡ coming (by_attributes old) ws
  coming_same [] = refl
  coming_same (l ∷ ws) = refl

  abbrev OldChoice : List Leaf → List Sym → selected.Kept O I → Option ℕ → Type 0
  OldChoice ws a x n = Choice (by_attributes old) d.rules (stmt_of d.classes) ws a x n x

  choice_same : (ws : List Leaf) (a : List Sym) (x : selected.Kept O I) (n : Option ℕ) (y : computed.Kept O I) → AreHeld (selected.entries_of x)
      → Choice (by_attributes new) d.rules (stmt_of d.classes) ws a (kept x) n y → OldChoice ws a x n × (kept x ≡ y)
  choice_same ws a x n y h c =
      let t = taken_same d.rules c.candidates x h n y c.takes in (
        record {
          no_shift = subst (λ (k : Tok). StandsBefore d.rules (stmt_of d.classes) a (grammar_symbol.Tok k) → ⊥) (coming_same ws) c.no_shift;
          candidates = c.candidates;
          in_order = subst (λ (k : Tok). AreReductions d.rules (stmt_of d.classes) a k c.candidates) (coming_same ws) c.in_order;
          takes = t.0;
        },
        t.1,
      )

  -- ---- the parse
  module _ (can : of.can_write q) (fit : IsTaken of d) (k : ℕ) where
    abbrev Before : List Leaf → List Sym → selected.Kept O I → Type 0
    Before ws a x = walk.Before of law q can d fit first k ws a x

    held : (ws : List Leaf) (a : List Sym) (x : selected.Kept O I) → Before ws a x → AreHeld (selected.entries_of x)
    held ws a None h = tt
    held ws a (Some x) h = all_agree of law q d first a x.entries (walk.held_fine of law q can d fit first a x.entries h.parts h.held)

    kept_same : (o : selected_desk.Outcome (Stack O I)) → computed.kept_of (outcome (stack of law q d first) o) ≡ option_map kept (selected.kept_of o)
    kept_same selected_desk.Full = refl
    kept_same selected_desk.Stuck = refl
    kept_same (selected_desk.Done x) = refl

    reduced_by_same : (n : ℕ) (r : Rule) (there : slice_get d.rules n ≡ Some r) (ws : List Leaf) (a : List Sym) (x : selected.Kept O I)
        → piled r.right (drop (length r.right) a) ≡ a → Before ws a x → computed.reduced_by of q d first (Some r) (kept x) ≡ option_map kept (selected.reduced_by of q d first (Some r) x)
    reduced_by_same n r there ws a None on h = refl
    reduced_by_same n r there ws a (Some x) on h =
        let b = drop (length r.right) a in
        let h' : walk.At of law q can d fit first k ws (piled r.right b) x = subst (λ l. walk.At of law q can d fit first k ws l x) (sym on) h in
        let s = walk.split of law q can d fit first r.right b x.entries h'.parts h'.held in
        let valid = walk.is_valid of law q can d fit first k n r there ws a on in
        let effect = walk.has_effect of law q can d fit first k n r there ws a on in
        ap computed.kept_of (reduced_same of law q d first r b (k + 1) (map gamma s.low) (map gamma s.high)
        (walk.named of law q can d fit first k r valid effect.0 effect.1 ws b x h' s) valid.gives x (walk.begun_in of law q can d fit first k r valid effect.0 effect.1 ws b x h' s))
        ∙ kept_same (reduced of q d first r x)

    pub record Same (at : ℕ) (before : List (List Sym)) (ws : List Leaf) (a : List Sym) (x : selected.Kept O I) (log : List (Move Leaf)) (e : Ending (computed.Kept O I)) : Type 0 where
      pub end : Ending (selected.Kept O I)
      pub ends : ending end ≡ e
      pub parse_of : Parses (by_attributes old) d.rules (stmt_of d.classes) at before ws a x log end

    some_kept : (o : Option (selected.Kept O I)) (z : computed.Kept O I) → option_map kept o ≡ Some z → (x : selected.Kept O I) × (o ≡ Some x) × (kept x ≡ z)
    some_kept None z e = absurd (none-some z e)
    some_kept (Some x) z e = (x, refl, same_Some (kept x) z e)

    none_kept : (o : Option (selected.Kept O I)) → option_map kept o ≡ None → o ≡ None
    none_kept None e = refl
    none_kept (Some x) e = absurd (none-some (kept x) (sym e))

    same : {at : ℕ} {before : List (List Sym)} {ws : List Leaf} {a : List Sym} {y : computed.Kept O I} {log : List (Move Leaf)} {e : Ending (computed.Kept O I)}
        → Parses (by_attributes new) d.rules (stmt_of d.classes) at before ws a y log e → (x : selected.Kept O I) → kept x ≡ y → Before ws a x → Same at before ws a x log e
    same (parse.loops {at = at} c) x e b = record { end = Loops at; ends = refl; parse_of = parse.loops c }
    same (parse.accepts {ws = ws} {a = a} apart is f) x e b =
        record { end = Accepts x; ends = ap Accepts e; parse_of = parse.accepts apart is (sym (coming_same ws) ∙ f) }
    same (parse.shifts {at = at} {before = before} {l = l} {ws = ws} {a = a} {x = y} apart f s more) x e b =
        let m = same more (selected.shifted l x) (sym (shifted_same l x) ∙ ap (computed.shifted l) e) (walk.shift of law q can d fit first k l ws a x b) in
        record { end = m.end; ends = m.ends; parse_of = parse.shifts apart f s m.parse_of }
    same (parse.reduces {at = at} {n = n} {before = before} {ws = ws} {a = a} {x = y} {y = y'} {z = z} r apart c there red more) x e b =
        let ch = choice_same ws a x (Some n) y' (held ws a x b) (subst (λ u. Choice (by_attributes new) d.rules (stmt_of d.classes) ws a u (Some n) y') (sym e) c) in
        let m = known old d.classes d.rules (stmt_of d.classes) ws a x n r x ch.0 there in
        let eq = reduced_by_same n r there ws a x m.on b in
        let o = some_kept (selected.reduced_by of q d first (Some r) x) z
        (sym eq ∙ ap (λ t. computed.reduced_by of q d first t (kept x)) (sym there) ∙ ap (computed.reduced_at of q d first n) ch.1 ∙ red) in
        let rest = same more o.0 o.2 (walk.reduce of law q can d fit first k n r there ws a m.on x o.0 b m.holds o.1) in
        record {
          end = rest.end;
          ends = rest.ends;
          parse_of = parse.reduces r apart ch.0 there (ap (λ t. selected.reduced_by of q d first t x) there ∙ o.1) rest.parse_of;
        }
    same (parse.refuses {n = n} {ws = ws} {a = a} {x = y} {y = y'} r apart c there red) x e b =
        let ch = choice_same ws a x (Some n) y' (held ws a x b) (subst (λ u. Choice (by_attributes new) d.rules (stmt_of d.classes) ws a u (Some n) y') (sym e) c) in
        let m = known old d.classes d.rules (stmt_of d.classes) ws a x n r x ch.0 there in
        let eq = reduced_by_same n r there ws a x m.on b in
        let o = none_kept (selected.reduced_by of q d first (Some r) x)
        (sym eq ∙ ap (λ t. computed.reduced_by of q d first t (kept x)) (sym there) ∙ ap (computed.reduced_at of q d first n) ch.1 ∙ red) in
        record { end = Refuses; ends = refl; parse_of = parse.refuses r apart ch.0 there (ap (λ t. selected.reduced_by of q d first t x) there ∙ o) }
    same (parse.blocks {at = at} {ws = ws} {a = a} {x = y} {y = y'} apart c) x e b =
        let ch = choice_same ws a x None y' (held ws a x b) (subst (λ u. Choice (by_attributes new) d.rules (stmt_of d.classes) ws a u None y') (sym e) c) in
        record { end = Blocks at; ends = refl; parse_of = parse.blocks apart ch.0 }

  -- ---- how it ends

  module _ (w : List Leaf) (fit : IsSelectable of q d first w) where
    abbrev pub Whole : List (Move Leaf) → Ending (computed.Kept O I) → Type 0
    Whole log e = Same fit.spelled fit.taken (forks w) 0 [] w [] (selected.start of q d first) log e

    pub whole : (log : List (Move Leaf)) (e : Ending (computed.Kept O I)) → computed.Parsed of q d first w log e → Whole log e
    whole log e p =
        same fit.spelled fit.taken (forks w) p (selected.start of q d first) refl (walk.begin of law q fit.spelled d fit.taken first w fit.typed fit.own)

    pub code_same : (code : List I) (most : ℕ) → computed.Selected of q d first w code most → selected.Selected of q d first w code most
    code_same code most s =
        let m = whole s.log (Accepts (Some (record { entries = s.entries; code = code; most = most }))) s.parsed in
        by m.end m.ends m.parse_of
      where
        done : (x : Stack O I) → x.code ≡ code → x.most ≡ most → selected.Parsed of q d first w s.log (Accepts (Some x)) → selected.Selected of q d first w code most
        done x f g p =
            subst (λ m. selected.Selected of q d first w code m) g (subst (λ c. selected.Selected of q d first w c x.most) f (record { log = s.log; entries = x.entries; parsed = p }))

        accepted : (x y : computed.Kept O I) → Accepts x ≡ Accepts y → x ≡ y
        accepted x y e = cc

        by : (e : Ending (selected.Kept O I)) → ending e ≡ Accepts (Some (record { entries = s.entries; code = code; most = most })) → selected.Parsed of q d first w s.log e
            → selected.Selected of q d first w code most
        by (Accepts None) f p = absurd (none-some (record { entries = s.entries; code = code; most = most }) (accepted None (Some (record { entries = s.entries; code = code; most = most })) f))
        by (Accepts (Some x)) f p =
            let z : stack of law q d first x ≡ record { entries = s.entries; code = code; most = most } =
            same_Some (stack of law q d first x) (record { entries = s.entries; code = code; most = most })
            (accepted (Some (stack of law q d first x)) (Some (record { entries = s.entries; code = code; most = most })) f) in
            done x (ap (λ (y : computed_desk.Stack O I). y.code) z) (ap (λ (y : computed_desk.Stack O I). y.most) z) p
        by _ f p = absurd (cc)

    pub full_same : computed.FrameFull of q d first w → selected.FrameFull of q d first w
    full_same s = (let m = whole s.log Refuses s.parsed in by m.end m.ends m.parse_of)
      where
        by : (e : Ending (selected.Kept O I)) → ending e ≡ Refuses → selected.Parsed of q d first w s.log e → selected.FrameFull of q d first w
        by (Accepts x) f p = absurd (cc)
        by (Blocks at) f p = absurd (cc)
        by (Loops at) f p = absurd (cc)
        by Refuses f p = record { log = s.log; parsed = p }

pub same_code : {O I S F : Type 0} (of : Meaning O I S F) → IsLawful of → SameCode of
same_code of law q d first w code most fit s = code_same of law q d first w fit code most s

pub same_full : {O I S F : Type 0} (of : Meaning O I S F) → IsLawful of → SameFull of
same_full of law q d first w fit s = full_same of law q d first w fit s
