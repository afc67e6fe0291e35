-- A reduction uses no more words than the entries before it hold registers and slots.
use Rattle.std.proofs.Common.{◌≡◌, ◌⊎◌, inl, inr, ℕ, zero, suc, ◌+◌, ◌-◌, ◌<◌, ◌≤◌, List, [], ◌∷◌, ◌++◌, Option, Some, None, Bool, true, false, refl, sym, ap, ◌∙◌, subst, arith, length}
use Rattle.std.proofs.Common.{slice_get, eq-or-lt_of_le, le_of_suc-le-suc}
use Rattle.std.specs.Prelude.{max, not, slice_set}
use Rattle.std.proofs.lemmas.Option.{same_Some, none-some, slice_get_within}
use Rattle.std.proofs.lemmas.Bool.{cases_eq}
use Rattle.gg_base.proofs.Facts.{slice_set_other, slice_set_same}
use Rattle.tree_core.specs.declared.program.TreeProgram.{TreeProgram}
use Rattle.md_reader.specs.declared.types.Kind.{Kind}
use Rattle.md_reader.specs.declared.types.Kind.TheVariants as kind
use Rattle.md_reader.specs.declared.types.Sym.{Sym}
use Rattle.md_reader.specs.declared.types.Sym.TheVariants as grammar_symbol
use Rattle.md_reader.specs.Patterns.{kind_at}
use Rattle.md_reader.specs.State.{Content}
use Rattle.sel_target.specs.declared.attr.Attr.{Attr}
use Rattle.sel_target.specs.declared.attr.Attr.TheVariants as attr
use Rattle.sel_target.specs.Meaning.{Meaning, WordAt}
use Rattle.sel_target.specs.Laws.{IsLawful}
use Rattle.sel_target.specs.Instances.{attr_touches, KindFits}
use Rattle.sel_parse_effect.specs.sel_parse_selected.specs.Entries.{Entry}
use Rattle.sel_parse_effect.specs.sel_parse_selected.specs.Desk.{Desk, Outcome, Full, Stuck, Done, bind, held, is_free_register, free_register, is_free_word, free_slot}
use Rattle.sel_parse_effect.specs.sel_parse_selected.specs.Spills.{Where, victim, in_slot, entry_in_slot, saved, saved_in}
use Rattle.sel_parse_effect.specs.sel_parse_selected.specs.Spills.{spilled, with_free, due_by, due}
use Rattle.sel_parse_effect.specs.sel_parse_selected.specs.Reductions.{loaded, reloaded_by, reloaded_at, reloaded}
use Rattle.sel_parse_effect.specs.sel_parse_stands.proofs.Loaded.{IsLoaded, in_slot_loaded}
use Rattle.sel_parse_effect.specs.sel_parse_stands.proofs.Saving.{lowest_found}
use Rattle.sel_parse_effect.specs.sel_parse_stands.proofs.Desks.{set_is, MayMove, below, among, may_victim}
use Rattle.sel_parse_slots.proofs.Counts.{count, tick, count_any, below_lowest, none_lowest, total, total_set, total_append}
use Rattle.sel_parse_slots.proofs.Fine as fine
use Rattle.sel_parse_slots.proofs.Fine.{words, charge, weight, weight_charge, IsFine, fine_words, slot_word_one, fine_spilled}

not_not : (a : Bool) → tick (not (not a)) ≤ tick a
not_not true = omega arith
not_not false = omega arith

-- ---- what comes of a step: not full, if there is room for so many

abbrev pub Good : {X : Type 0} → ℕ → Outcome X → (X → Type 0) → Type 0
Good top Full P = 1024 < top
Good top Stuck P = Unit {0}
Good top (Done x) P = P x

pub good_bind : {X Y : Type 0} (top : ℕ) (o : Outcome X) (go : X → Outcome Y) (P : X → Type 0) (Q : Y → Type 0) → Good top o P → ((x : X) → P x → Good top (go x) Q) → Good top (bind o go) Q
good_bind top Full go P Q h k = h
good_bind top Stuck go P Q h k = tt
good_bind top (Done x) go P Q h k = k x h

-- and what holds of what is done
pub good_more : {X : Type 0} (top : ℕ) (o : Outcome X) (P Q : X → Type 0) → Good top o P → ((x : X) → o ≡ Done x → Q x) → Good top o (λ x. P x × Q x)
good_more top Full P Q h k = h
good_more top Stuck P Q h k = tt
good_more top (Done x) P Q h k = (h, k x refl)

-- each within a list of numbers
abbrev pub sum : List ℕ → ℕ
sum [] = 0
sum (g ∷ gs) = g + sum gs

module _ {O I S F : Type 0} (of : Meaning O I S F) (law : IsLawful of) (q : TreeProgram) (d : Content) (first : ℕ) where
  abbrev pub words_of : Entry O → ℕ
  words_of e = words of law q d first e.attr

  abbrev pub charge_of : Entry O → ℕ
  charge_of e = charge of law q d first e.attr

  abbrev pub weight_of : Entry O → ℕ
  weight_of e = weight of law q d first e.attr

  abbrev pub Fine : Sym → Attr O → Type 0
  Fine s a = IsFine of law q d first s a

  abbrev pub AllFine : List Sym → List (Entry O) → Type 0
  AllFine [] [] = Unit {0}
  AllFine (s ∷ ss) (e ∷ es) = Fine s e.attr × AllFine ss es
  AllFine ss es = ⊥

  abbrev pub Within : List (Entry O) → List ℕ → Type 0
  Within [] [] = Unit {0}
  Within (e ∷ es) (g ∷ gs) = (charge_of e ≤ g) × Within es gs
  Within es gs = ⊥

  pub within_total : (es : List (Entry O)) (gs : List ℕ) → Within es gs → total charge_of es ≤ sum gs
  within_total [] [] h = omega arith
  within_total [] (g ∷ gs) h = absurd h
  within_total (e ∷ es) [] h = absurd h
  within_total (e ∷ es) (g ∷ gs) h = (let a = h.0 in let b = within_total es gs h.1 in omega (arith, a, b))

  within_set : (es : List (Entry O)) (gs : List ℕ) (i : ℕ) (a b : Entry O) → slice_get es i ≡ Some a → charge_of b ≤ charge_of a → Within es gs → Within (slice_set es i b) gs
  within_set [] gs i a b e le h = absurd (none-some a e)
  within_set (x ∷ es) [] i a b e le h = absurd h
  within_set (x ∷ es) (g ∷ gs) zero a b e le h = (
    (let same : charge_of x ≡ charge_of a = ap charge_of (same_Some x a e) in let k = h.0 in omega (arith, same, k, le)),
    h.1,
  )
  within_set (x ∷ es) (g ∷ gs) (suc i) a b e le h = (h.0, within_set es gs i a b e le h.1)

  pub fine_length : (ss : List Sym) (es : List (Entry O)) → AllFine ss es → length es ≡ length ss
  fine_length [] [] h = refl
  fine_length [] (e ∷ es) h = absurd h
  fine_length (s ∷ ss) [] h = absurd h
  fine_length (s ∷ ss) (e ∷ es) h = ap suc (fine_length ss es h.1)

  pub fine_at : (ss : List Sym) (es : List (Entry O)) (i : ℕ) (e : Entry O) → AllFine ss es → slice_get es i ≡ Some e → (s : Sym) × (slice_get ss i ≡ Some s) × Fine s e.attr
  fine_at ss [] i e h at = absurd (none-some e at)
  fine_at [] (x ∷ es) i e h at = absurd h
  fine_at (s ∷ ss) (x ∷ es) zero e h at = (s, refl, subst (λ (w : Entry O). Fine s w.attr) (same_Some x e at) h.0)
  fine_at (s ∷ ss) (x ∷ es) (suc i) e h at = fine_at ss es i e h.1 at

  fine_set : (ss : List Sym) (es : List (Entry O)) (i : ℕ) (e b : Entry O) (s : Sym) → AllFine ss es → slice_get es i ≡ Some e → slice_get ss i ≡ Some s → Fine s b.attr
      → AllFine ss (slice_set es i b)
  fine_set ss [] i e b s h at there new = absurd (none-some e at)
  fine_set [] (x ∷ es) i e b s h at there new = absurd h
  fine_set (y ∷ ss) (x ∷ es) zero e b s h at there new = (subst (λ w. Fine w b.attr) (sym (same_Some y s there)) new, h.1)
  fine_set (y ∷ ss) (x ∷ es) (suc i) e b s h at there new = (h.0, fine_set ss es i e b s h.1 at there new)

  fine_total : (ss : List Sym) (es : List (Entry O)) → AllFine ss es → total words_of es ≤ total weight_of es
  fine_total [] [] h = omega arith
  fine_total [] (e ∷ es) h = absurd h
  fine_total (s ∷ ss) [] h = absurd h
  fine_total (s ∷ ss) (e ∷ es) h = (let a = fine_words of law q d first s e.attr h.0 in let b = fine_total ss es h.1 in omega (arith, a, b))

  -- less by one at a place at least
  fine_less : (ss : List Sym) (es : List (Entry O)) (i : ℕ) (e : Entry O) → AllFine ss es → slice_get es i ≡ Some e → words_of e + 1 ≤ weight_of e → total words_of es + 1 ≤ total weight_of es
  fine_less ss [] i e h at lt = absurd (none-some e at)
  fine_less [] (x ∷ es) i e h at lt = absurd h
  fine_less (s ∷ ss) (x ∷ es) zero e h at lt =
      let a = ap words_of (same_Some x e at) in
      let b = ap weight_of (same_Some x e at) in
      let c = fine_total ss es h.1 in
      omega (arith, a, b, c, lt)
  fine_less (s ∷ ss) (x ∷ es) (suc i) e h at lt =
      let a = fine_words of law q d first s x.attr h.0 in
      let b = fine_less ss es i e h.1 at lt in
      omega (arith, a, b)

  pub weights : (es : List (Entry O)) → total weight_of es ≤ total charge_of es
  weights [] = omega arith
  weights (e ∷ es) = (let a = weight_charge of law q d first e.attr in let b = weights es in omega (arith, a, b))

  charges_less : (ss : List Sym) (es : List (Entry O)) → AllFine ss es → total words_of es ≤ total charge_of es
  charges_less ss es h = (let a = fine_total ss es h in let b = weights es in omega (arith, a, b))

  charge_less : (ss : List Sym) (es : List (Entry O)) (i : ℕ) (e : Entry O) → AllFine ss es → slice_get es i ≡ Some e → words_of e + 1 ≤ charge_of e → total words_of es + 1 ≤ total charge_of es
  charge_less ss [] i e h at lt = absurd (none-some e at)
  charge_less [] (x ∷ es) i e h at lt = absurd h
  charge_less (s ∷ ss) (x ∷ es) zero e h at lt =
      let a = ap words_of (same_Some x e at) in
      let b = ap charge_of (same_Some x e at) in
      let c = charges_less ss es h.1 in
      omega (arith, a, b, c, lt)
  charge_less (s ∷ ss) (x ∷ es) (suc i) e h at lt =
      let a = fine_words of law q d first s x.attr h.0 in
      let w = weight_charge of law q d first x.attr in
      let b = charge_less ss es i e h.1 at lt in
      omega (arith, a, b, w)

  -- the words that aren't free
  taken : (desk : Desk O I) → count (λ v. not (is_free_word of desk v)) first (1024 - first) ≤ total words_of desk.former + (total words_of desk.symbols + total words_of desk.below)
  taken desk =
      let all = desk.former ++ (desk.symbols ++ desk.below) in
      let a = Rattle.sel_parse_slots.proofs.Counts.count_less (λ v. not (is_free_word of desk v)) (λ v. held of all (WordAt v)) (λ v. not_not (held of all (WordAt v))) first (1024 - first) in
      let b = count_any (λ (e : Entry O) v. attr_touches of e.attr (WordAt v)) all first (1024 - first) in
      let c = total_append words_of desk.former (desk.symbols ++ desk.below) in
      let e = total_append words_of desk.symbols desk.below in
      omega (arith, a, b, c, e)

  -- ---- the counts of a desk, with the symbols of the rule and below it, their bounds, and how many symbols are loaded
  module _ (right a : List Sym) (c : ℕ) (gb gs : List ℕ) where
    pub record Counted (i : ℕ) (desk : Desk O I) : Type 0 where
      pub held_in_all : total words_of desk.former + total weight_of desk.symbols + total charge_of desk.below ≤ c
      pub most_within : desk.most ≤ first + c
      pub below_within : Within desk.below gb
      pub symbols_within : Within desk.symbols gs
      pub below_fine : AllFine a desk.below
      pub symbols_fine : AllFine right desk.symbols
      pub loaded_to : (j : ℕ) (e : Entry O) → j < i → slice_get desk.symbols j ≡ Some e → IsLoaded e.attr

    -- what else a spill keeps: a register's symbol in a slot stays there
    abbrev pub SlotsStay : List (Entry O) → List (Entry O) → Type 0
    SlotsStay old new = (j w : ℕ) (k : Option Kind) → slice_get old j ≡ Some (record { kind = k; attr = attr.InSlot w }) → slice_get new j ≡ Some (record { kind = k; attr = attr.InSlot w })

    -- some word is free, if there is room
    tight : (i : ℕ) (desk : Desk O I) (p : Where) (e : Entry O) → Counted i desk → MayMove of desk p e
        → count (λ v. not (is_free_word of desk v)) first (1024 - first) + 1 ≤ c
    tight i desk p e h (below j e' at holding) =
        let s = fine_at a desk.below j e h.below_fine at in
        let sp = fine_spilled of law q d first s.0 e.kind e.attr 0 (omega arith) s.2 holding in
        let x = taken desk in
        let y = charge_less a desk.below j e h.below_fine at sp.held_less in
        let z = fine_total right desk.symbols h.symbols_fine in
        let w = h.held_in_all in
        omega (arith, x, y, z, w)
    tight i desk p e h (among j e' at holding apart) =
        let s = fine_at right desk.symbols j e h.symbols_fine at in
        let sp = fine_spilled of law q d first s.0 e.kind e.attr 0 (omega arith) s.2 holding in
        let x = taken desk in
        let y = fine_less right desk.symbols j e h.symbols_fine at (sp.held_symbol apart) in
        let z = charges_less a desk.below h.below_fine in
        let w = h.held_in_all in
        omega (arith, x, y, z, w)

    pub record After (i : ℕ) (old new : Desk O I) : Type 0 where
      pub counted : Counted i new
      pub stays : SlotsStay old.symbols new.symbols

    saved_counted : (i : ℕ) (desk : Desk O I) (p : Where) (e : Entry O) (w : ℕ) → Counted i desk → MayMove of desk p e → free_slot of first desk ≡ Some w → After i desk (saved of q d first desk p e w)
    saved_counted i desk p e w h (below j e' at holding) free =
        let range = lowest_found (is_free_word of desk) first (1024 - first) w free in
        let r0 = range.from in
        let r1 = range.below in
        let low : w < 1024 = omega (arith, r0, r1) in
        let s = fine_at a desk.below j e h.below_fine at in
        let sp = fine_spilled of law q d first s.0 e.kind e.attr w low s.2 holding in
        let room = tight i desk p e h (below j e at holding) in
        let w_low = below_lowest (is_free_word of desk) first (1024 - first) w free in
        let set = total_set charge_of desk.below j e (entry_in_slot of e w) at in
        let add = total_append words_of desk.former (e ∷ []) in
        let all = h.held_in_all in
        let g0 = sp.charge_is in
        let g1 = sp.held_less in
        record {
          counted = record {
            held_in_all = omega (arith, set, add, all, g0, g1);
            most_within = (let now : desk.most ≤ first + c = h.most_within in let most : max desk.most (w + 1) ≤ first + c = omega (arith, w_low, room, now) in most);
            below_within = within_set desk.below gb j e (entry_in_slot of e w) at (omega (arith, g0, g1)) h.below_within;
            symbols_within = h.symbols_within;
            below_fine = fine_set a desk.below j e (entry_in_slot of e w) s.0 h.below_fine at s.1 sp.fine;
            symbols_fine = h.symbols_fine;
            loaded_to = h.loaded_to;
          };
          stays = λ k u kd there. there;
        }
    saved_counted i desk p e w h (among j e' at holding apart) free =
        let range = lowest_found (is_free_word of desk) first (1024 - first) w free in
        let r0 = range.from in
        let r1 = range.below in
        let low : w < 1024 = omega (arith, r0, r1) in
        let s = fine_at right desk.symbols j e h.symbols_fine at in
        let sp = fine_spilled of law q d first s.0 e.kind e.attr w low s.2 holding in
        let room = tight i desk p e h (among j e at holding apart) in
        let w_low = below_lowest (is_free_word of desk) first (1024 - first) w free in
        let set = total_set weight_of desk.symbols j e (entry_in_slot of e w) at in
        let add = total_append words_of desk.former (e ∷ []) in
        let all = h.held_in_all in
        let g0 = sp.charge_is in
        let g1 = sp.held_symbol apart in
        let g2 = weight_charge of law q d first (in_slot of e.attr w) in
        let g3 = sp.held_less in
        record {
          counted = record {
            held_in_all = omega (arith, set, add, all, g0, g1, g2);
            most_within = (let now : desk.most ≤ first + c = h.most_within in let most : max desk.most (w + 1) ≤ first + c = omega (arith, w_low, room, now) in most);
            below_within = h.below_within;
            symbols_within = within_set desk.symbols gs j e (entry_in_slot of e w) at (omega (arith, g0, g3)) h.symbols_within;
            below_fine = h.below_fine;
            symbols_fine = fine_set right desk.symbols j e (entry_in_slot of e w) s.0 h.symbols_fine at s.1 sp.fine;
            loaded_to = loaded_still;
          };
          stays = slots;
        }
      where
        loaded_still : (k : ℕ) (b : Entry O) → k < i → slice_get (slice_set desk.symbols j (entry_in_slot of e w)) k ≡ Some b → IsLoaded b.attr
        loaded_still k b lt there = by (cases_eq j k)
          where
            by : (j ≡ k) ⊎ (j ≡ k → ⊥) → IsLoaded b.attr
            by (inl g) =
                subst (λ (x : Entry O). IsLoaded x.attr) (set_is desk.symbols j (entry_in_slot of e w) b (ap (slice_get (slice_set desk.symbols j (entry_in_slot of e w))) g ∙ there))
                (in_slot_loaded of e.attr w apart (h.loaded_to j e (subst (λ n. n < i) (sym g) lt) at))
            by (inr g) = h.loaded_to k b lt (sym (slice_set_other desk.symbols j (entry_in_slot of e w) k (λ z. g (sym z))) ∙ there)

        slots : (k u : ℕ) (kd : Option Kind) → slice_get desk.symbols k ≡ Some (record { kind = kd; attr = attr.InSlot u })
            → slice_get (slice_set desk.symbols j (entry_in_slot of e w)) k ≡ Some (record { kind = kd; attr = attr.InSlot u })
        slots k u kd there = by (cases_eq j k)
          where
            in_slot_still : (b : Entry O) → b ≡ record { kind = kd; attr = attr.InSlot u } → entry_in_slot of b w ≡ record { kind = kd; attr = attr.InSlot u }
            in_slot_still b g = ap (λ (x : Entry O). entry_in_slot of x w) g

            by : (j ≡ k) ⊎ (j ≡ k → ⊥) → slice_get (slice_set desk.symbols j (entry_in_slot of e w)) k ≡ Some (record { kind = kd; attr = attr.InSlot u })
            by (inl g) =
                let same : e ≡ record { kind = kd; attr = attr.InSlot u } = same_Some e (record { kind = kd; attr = attr.InSlot u }) (sym at ∙ ap (slice_get desk.symbols) g ∙ there) in
                ap (slice_get (slice_set desk.symbols j (entry_in_slot of e w))) (sym g)
                ∙ slice_set_same desk.symbols j (entry_in_slot of e w) (slice_get_within desk.symbols j e at) ∙ ap Some (in_slot_still e same)
            by (inr g) = slice_set_other desk.symbols j (entry_in_slot of e w) k (λ z. g (sym z)) ∙ there

    abbrev pub top : ℕ
    top = first + c

    pub record IsDue (i : ℕ) (old : Desk O I) (p : ℕ × Desk O I) : Type 0 where
      pub small : p.0 < 12
      pub after : After i old p.1

    free_due : (i : ℕ) (given : Bool) (old x : Desk O I) → After i old x → Good top (with_free of q d first x (free_register of d given x)) (IsDue i old)
    free_due i given old x h = by (free_register of d given x) refl
      where
        by : (o : Option ℕ) → free_register of d given x ≡ o → Good top (with_free of q d first x o) (IsDue i old)
        by None at = tt
        by (Some r) at = (let g = lowest_found (is_free_register of d given x) 0 12 r at in let b = g.below in record { small = omega (arith, b); after = h })

    pub spilled_good : (i : ℕ) (given : Bool) (desk : Desk O I) → Counted i desk → Good top (spilled of q d first desk (victim of given desk)) (After i desk)
    spilled_good i given desk h = by (victim of given desk) refl
      where
        saved_by : (p : Where) (e : Entry O) → MayMove of desk p e → (o : Option ℕ) → free_slot of first desk ≡ o → Good top (saved_in of q d first desk p (Some e) o) (After i desk)
        saved_by p e goes None at =
            let a = none_lowest (is_free_word of desk) first (1024 - first) at in
            let b = tight i desk p e h goes in
            omega (arith, a, b)
        saved_by p e goes (Some w) at = saved_counted i desk p e w h goes at

        by : (o : Option Where) → victim of given desk ≡ o → Good top (spilled of q d first desk o) (After i desk)
        by None at = tt
        by (Some p) at =
            let g = may_victim of given desk p at in
            subst (λ o. Good top (saved_in of q d first desk p o (free_slot of first desk)) (After i desk)) (sym g.1) (saved_by p g.0 g.2 (free_slot of first desk) refl)

    pub due_good : (i : ℕ) (given : Bool) (desk : Desk O I) → Counted i desk → Good top (due of q d first given desk) (IsDue i desk)
    due_good i given desk h = by (free_register of d given desk) refl
      where
        by : (o : Option ℕ) → free_register of d given desk ≡ o → Good top (due_by of q d first given desk o) (IsDue i desk)
        by (Some r) at =
            let g = lowest_found (is_free_register of d given desk) 0 12 r at in
            let b = g.below in
            record { small = omega (arith, b); after = record { counted = h; stays = λ j w k e. e } }
        by None at =
            good_bind top (spilled of q d first desk (victim of given desk)) (λ x. with_free of q d first x (free_register of d given x)) (After i desk) (IsDue i desk)
            (spilled_good i given desk h) (λ x k. free_due i given desk x k)

    -- ---- reloads

    pub slot_kind : (s : Sym) (w : ℕ) (b : Attr O) → Fine s b → b ≡ attr.InSlot w → (w' : ℕ) × (w' ≡ w) × (w' < 1024) × (c' : ℕ) × (s ≡ grammar_symbol.Class c')
        × (kind_at d.classes c' ≡ Some kind.Reg)
    slot_kind s w b (fine.token l fit own) e = absurd (cc)
    slot_kind s w b (fine.class c' b' h) e = absurd (no_slot (kind_at d.classes c') b h e)
      where
        no_slot : (k : Option Kind) (b : Attr O) → KindFits of k b → b ≡ attr.InSlot w → ⊥
        no_slot (Some kind.Reg) (attr.Reg r) h e = cc
        no_slot (Some (kind.Value z)) (attr.Value o) h e = cc
        no_slot (Some (kind.Place z)) (attr.Place o) h e = cc
        no_slot (Some kind.Con) (attr.Con n) h e = cc
        no_slot (Some kind.Ea) (attr.Ea o) h e = cc
        no_slot k b h e = h
    slot_kind s w b (fine.slot c' u k lt) e = (u, (let g : u ≡ w = cc in g), lt, c', refl, k)
    slot_kind s w b (fine.statement c' k) e = absurd (cc)

    slot_loaded : (i : ℕ) (desk : Desk O I) (k : Option Kind) (w : ℕ) (p : ℕ × Desk O I) → slice_get desk.symbols i ≡ Some (record { kind = k; attr = attr.InSlot w }) → IsDue i desk p
        → Good top (loaded of q d first i (record { kind = k; attr = attr.InSlot w }) w p) (Counted (suc i))
    slot_loaded i desk k w p at h =
        let y = p.1 in
        let n = h.after.counted in
        let there = h.after.stays i w k at in
        let s = fine_at right y.symbols i (record { kind = k; attr = attr.InSlot w }) n.symbols_fine there in
        let sk = slot_kind s.0 w (attr.InSlot w) s.2 refl in
        let low : w < 1024 = subst (λ x. x < 1024) sk.1 sk.2 in
        let set = total_set weight_of y.symbols i (record { kind = k; attr = attr.InSlot w }) (record { kind = k; attr = attr.Reg p.0 }) there in
        let add = total_append words_of y.former (record { kind = k; attr = attr.InSlot w } ∷ []) in
        let one = slot_word_one of law q d first w low in
        let all = n.held_in_all in
        record {
          held_in_all = omega (arith, set, add, one, all);
          most_within = n.most_within;
          below_within = n.below_within;
          symbols_within = within_set y.symbols gs i (record { kind = k; attr = attr.InSlot w }) (record { kind = k; attr = attr.Reg p.0 }) there (omega arith) n.symbols_within;
          below_fine = n.below_fine;
          symbols_fine = fine_set right y.symbols i (record { kind = k; attr = attr.InSlot w }) (record { kind = k; attr = attr.Reg p.0 }) s.0 n.symbols_fine there s.1
              (subst (λ x. Fine x (attr.Reg p.0)) (sym sk.4) (fine.class sk.3 (attr.Reg p.0) (subst (λ x. KindFits of x (attr.Reg p.0)) (sym sk.5) h.small)));
          loaded_to = loaded_now;
        }
      where
        loaded_now : (j : ℕ) (e : Entry O) → j < suc i → slice_get (slice_set p.1.symbols i (record { kind = k; attr = attr.Reg p.0 })) j ≡ Some e → IsLoaded e.attr
        loaded_now j e lt there = by (eq-or-lt_of_le (le_of_suc-le-suc lt))
          where
            by : (j ≡ i) ⊎ (j < i) → IsLoaded e.attr
            by (inl g) =
                subst (λ (x : Entry O). IsLoaded x.attr)
                (set_is p.1.symbols i (record { kind = k; attr = attr.Reg p.0 }) e (ap (slice_get (slice_set p.1.symbols i (record { kind = k; attr = attr.Reg p.0 }))) (sym g) ∙ there)) tt
            by (inr less) = h.after.counted.loaded_to j e less (sym (slice_set_other p.1.symbols i (record { kind = k; attr = attr.Reg p.0 }) j (λ g. omega (arith, less, g))) ∙ there)

    plain : (i : ℕ) (desk : Desk O I) → Counted i desk → ((e : Entry O) → slice_get desk.symbols i ≡ Some e → IsLoaded e.attr) → Counted (suc i) desk
    plain i desk h here = record {
      held_in_all = h.held_in_all;
      most_within = h.most_within;
      below_within = h.below_within;
      symbols_within = h.symbols_within;
      below_fine = h.below_fine;
      symbols_fine = h.symbols_fine;
      loaded_to = λ j e lt there. by j e there (eq-or-lt_of_le (le_of_suc-le-suc lt));
    } where
      by : (j : ℕ) (e : Entry O) → slice_get desk.symbols j ≡ Some e → (j ≡ i) ⊎ (j < i) → IsLoaded e.attr
      by j e there (inl g) = here e (ap (slice_get desk.symbols) (sym g) ∙ there)
      by j e there (inr lt) = h.loaded_to j e lt there

    pub one_good : (i : ℕ) (desk : Desk O I) → Counted i desk → Good top (reloaded_at of q d first i desk (slice_get desk.symbols i)) (Counted (suc i))
    one_good i desk h = at (slice_get desk.symbols i) refl
      where
        is : (e b : Entry O) → slice_get desk.symbols i ≡ Some e → IsLoaded e.attr → slice_get desk.symbols i ≡ Some b → IsLoaded b.attr
        is e b g k f = subst (λ (x : Entry O). IsLoaded x.attr) (same_Some e b (sym g ∙ f)) k

        by : (k : Option Kind) (b : Attr O) → slice_get desk.symbols i ≡ Some (record { kind = k; attr = b })
            → Good top (reloaded_by of q d first i desk (record { kind = k; attr = b }) b) (Counted (suc i))
        by k (attr.Reg r) g = plain i desk h (λ e f. is (record { kind = k; attr = attr.Reg r }) e g tt f)
        by k (attr.InSlot w) g =
            good_bind top (due of q d first false desk) (loaded of q d first i (record { kind = k; attr = attr.InSlot w }) w) (IsDue i desk) (Counted (suc i))
            (due_good i false desk h) (λ p m. slot_loaded i desk k w p g m)
        by k (attr.Value o) g = plain i desk h (λ e f. is (record { kind = k; attr = attr.Value o }) e g tt f)
        by k (attr.Place o) g = plain i desk h (λ e f. is (record { kind = k; attr = attr.Place o }) e g tt f)
        by k (attr.Con n) g = plain i desk h (λ e f. is (record { kind = k; attr = attr.Con n }) e g tt f)
        by k (attr.Ea o) g = plain i desk h (λ e f. is (record { kind = k; attr = attr.Ea o }) e g tt f)
        by k (attr.Token l) g = plain i desk h (λ e f. is (record { kind = k; attr = attr.Token l }) e g tt f)
        by k attr.Nothing g = plain i desk h (λ e f. is (record { kind = k; attr = attr.Nothing }) e g tt f)

        at : (o : Option (Entry O)) → slice_get desk.symbols i ≡ o → Good top (reloaded_at of q d first i desk o) (Counted (suc i))
        at None g = plain i desk h (λ e f. absurd (none-some e (sym g ∙ f)))
        at (Some e) g = by e.kind e.attr g

    pub reloaded_good : (n i : ℕ) (desk : Desk O I) → Counted i desk → Good top (reloaded of q d first n i desk) (Counted (i + n))
    reloaded_good zero i desk h = (let g : i ≡ i + 0 = omega arith in subst (λ k. Counted k desk) g h)
    reloaded_good (suc n) i desk h =
        let one : suc i ≡ i + 1 = omega arith in
        let all : i + 1 + n ≡ i + suc n = omega arith in
        good_bind top (reloaded_at of q d first i desk (slice_get desk.symbols i)) (reloaded of q d first n (i + 1)) (Counted (suc i)) (Counted (i + suc n)) (one_good i desk h)
        (λ x k. subst (λ m. Good top (reloaded of q d first n (i + 1) x) (Counted m)) all (reloaded_good n (i + 1) x (subst (λ m. Counted m x) one k)))
