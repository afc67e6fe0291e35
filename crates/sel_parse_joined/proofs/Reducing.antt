-- A reduction is the same by both definitions.
use Rattle.std.proofs.Common.{◌≡◌, ℕ, zero, suc, ◌+◌, ◌<◌, List, [], ◌∷◌, ◌++◌, length, map, take, drop, slice_get, Option, Some, None, Bool, true, false, refl, sym, ap, ◌∙◌, subst, arith}
use Rattle.std.specs.Prelude.{reverse, slice_set, option_map}
use Rattle.std.proofs.lemmas.List.{reverse-reverse, take-map, drop-map}
use Rattle.std.proofs.lemmas.Option.{slice_get-map}
use Rattle.std.proofs.ByRecursion.{All-push}
use Rattle.gg_base.proofs.Facts.{all_get}
use Rattle.tree_core.specs.declared.program.TreeProgram.{TreeProgram}
use Rattle.md_reader_pieces.specs.declared.piece.Line.{Line}
use Rattle.md_reader.specs.declared.types.Kind.{Kind}
use Rattle.md_reader.specs.declared.types.Kind.TheVariants as kind
use Rattle.md_reader.specs.declared.types.Give.{Give}
use Rattle.md_reader.specs.declared.types.Give.TheVariants as give
use Rattle.md_reader.specs.declared.types.Rule.{Rule}
use Rattle.md_reader.specs.declared.types.Sym.{Sym}
use Rattle.md_reader.specs.Patterns.{kind_at}
use Rattle.md_reader.specs.Rows.{shape_fits}
use Rattle.md_reader.specs.State.{Content}
use Rattle.md_reader.specs.Valid.{MayGive}
use Rattle.sel_target.specs.declared.attr.Attr.{Attr}
use Rattle.sel_target.specs.declared.attr.Attr.TheVariants as attr
use Rattle.sel_target.specs.Meaning.{Meaning}
use Rattle.sel_target.specs.Laws.{IsLawful}
use Rattle.sel_target.specs.Instances.{hole, lines_of}
use Rattle.sel_target.specs.SavingLaws.{reloading}
use Rattle.sel_target.specs.Symbols.{token_number, first_hole, reload_line}
use Rattle.sel_parse_slots.specs.sel_parse_selected.specs.Entries as selected_entries
use Rattle.sel_parse_slots.specs.sel_parse_selected.specs.Desk as selected_desks
use Rattle.sel_parse_slots.specs.sel_parse_selected.specs.Spills as selected_spills
use Rattle.sel_parse_slots.specs.sel_parse_selected.specs.Reductions as selected_reductions
use Rattle.sel_parse_slots.specs.sel_parse_desk.specs.Entries as computed_entries
use Rattle.sel_parse_slots.specs.sel_parse_desk.specs.Desk as computed_desks
use Rattle.sel_parse_slots.specs.sel_parse_desk.specs.Spills as computed_spills
use Rattle.sel_parse_slots.specs.sel_parse_desk.specs.Reductions as computed_reductions
use Rattle.sel_parse_slots.proofs.Counting.{Good, Counted, After, IsDue, due_good, spilled_good, one_good}
use Rattle.sel_parse_joined.proofs.Turning.{map_turned, map_set}
use Rattle.sel_parse_joined.proofs.Holding.{entry, Agrees, AllAgree, all_agree}
use Rattle.sel_parse_joined.proofs.Spilling.{outcome, If, bind_same, if_bind, desk, desk_is, let_go, let_go_more, Fair, spilled_former, taken, due_same, due_former}

-- what is done is good
good_if : {X : Type 0} (top : ℕ) (P : X → Type 0) (o : selected_desks.Outcome X) → Good top o P → If P o
good_if top P selected_desks.Full h = tt
good_if top P selected_desks.Stuck h = tt
good_if top P (selected_desks.Done x) h = h

both_if : {X : Type 0} (P Q R : X → Type 0) (o : selected_desks.Outcome X) → If P o → If Q o → ((x : X) → P x → Q x → R x) → If R o
both_if P Q R selected_desks.Full h k go = tt
both_if P Q R selected_desks.Stuck h k go = tt
both_if P Q R (selected_desks.Done x) h k go = go x h k

module _ {O I S F : Type 0} (of : Meaning O I S F) (law : IsLawful of) (q : TreeProgram) (d : Content) (first : ℕ) where
  abbrev pub stack : selected_desks.Stack O I → computed_desks.Stack O I
  stack x = record { entries = map entry x.entries; code = x.code; most = x.most }

  pub begins_same : (n : ℕ) (x : selected_desks.Stack O I) → computed_desks.set_apart n (stack x) ≡ desk of law q d first (selected_desks.desk_of n x)
  begins_same n x =
      desk_is of law q d first (reverse (drop n (map entry x.entries))) (reverse (map entry (drop n x.entries))) (reverse (take n (map entry x.entries)))
      (map entry (reverse (take n x.entries))) [] [] x.code x.code x.most x.most (ap reverse (drop-map entry n x.entries))
      (ap reverse (take-map entry n x.entries) ∙ sym (map_turned entry (take n x.entries))) refl refl refl

  -- ---- what a rule gives

  attrs_same : (es : List (selected_entries.Entry O)) → computed_entries.attrs (map entry es) ≡ selected_entries.attrs es
  attrs_same [] = refl
  attrs_same (e ∷ es) = ap (λ l. e.attr ∷ l) (attrs_same es)

  number_same : (o : Option (Attr O)) → computed_reductions.own_number q o ≡ selected_reductions.own_number of q d first o
  number_same None = refl
  number_same (Some (attr.Reg r)) = refl
  number_same (Some (attr.InSlot w)) = refl
  number_same (Some (attr.Value o)) = refl
  number_same (Some (attr.Place o)) = refl
  number_same (Some (attr.Con n)) = refl
  number_same (Some (attr.Ea o)) = refl
  number_same (Some (attr.Token l)) = by (token_number q l.att) refl
    where
      by : (o : Option ℕ) → token_number q l.att ≡ o → computed_reductions.own_number q (Some (attr.Token l)) ≡ selected_reductions.own_number of q d first (Some (attr.Token l))
      by None e = rw e refl
      by (Some n) e = rw e refl
  number_same (Some attr.Nothing) = refl

  finished_same : (rule : Rule) (result given given' : Attr O) (x : selected_desks.Desk O I) → given ≡ given'
      → computed_reductions.finished of q d first rule result given (desk of law q d first x) ≡ outcome stack (selected_reductions.finished of q d first rule result given' x)
  finished_same rule result given given' x e =
      ap (λ (l : List (computed_entries.Entry O)). (let z : computed_desks.Outcome (computed_desks.Stack O I) = computed_desks.Done (record {
        entries = record { kind = kind_at d.classes rule.left; attr = given } ∷ l;
        code = x.code ++ lines_of of q rule (computed_entries.attrs (map entry x.symbols)) result;
        most = x.most;
      }) in z)) (reverse-reverse (map entry x.below))
      ∙ ap (λ (l : List (Attr O)). (let z : computed_desks.Outcome (computed_desks.Stack O I) = computed_desks.Done (record {
        entries = record { kind = kind_at d.classes rule.left; attr = given } ∷ map entry x.below;
        code = x.code ++ lines_of of q rule l result;
        most = x.most;
      }) in z)) (attrs_same x.symbols)
      ∙ ap (λ (a : Attr O). (let z : computed_desks.Outcome (computed_desks.Stack O I) = computed_desks.Done (record {
        entries = record { kind = kind_at d.classes rule.left; attr = a } ∷ map entry x.below;
        code = x.code ++ lines_of of q rule (selected_entries.attrs x.symbols) result;
        most = x.most;
      }) in z)) e

  -- ---- with the symbols of a rule and below it
  module _ (right a : List Sym) (c : ℕ) (gb gs : List ℕ) where
    abbrev In : ℕ → selected_desks.Desk O I → Type 0
    In i x = Counted of law q d first right a c gb gs i x

    -- the counts, and that those agree that were saved or reloaded
    pub record Ready (i : ℕ) (x : selected_desks.Desk O I) : Type 0 where
      pub counted : In i x
      pub former : AllAgree of law q d first x.former

    pub fair : (i : ℕ) (x : selected_desks.Desk O I) → Ready i x → Fair of law q d first x
    fair i x h = record {
      below = all_agree of law q d first a x.below h.counted.below_fine;
      symbols = all_agree of law q d first right x.symbols h.counted.symbols_fine;
      former = h.former;
    }

    abbrev IsReadyDue : ℕ → selected_desks.Desk O I → ℕ × selected_desks.Desk O I → Type 0
    IsReadyDue i x p = IsDue of law q d first right a c gb gs i x p × AllAgree of law q d first p.1.former

    pub due_ready : (i : ℕ) (given : Bool) (x : selected_desks.Desk O I) → Ready i x → If (IsReadyDue i x) (selected_spills.due of q d first given x)
    due_ready i given x h =
        both_if (IsDue of law q d first right a c gb gs i x) (λ (p : ℕ × selected_desks.Desk O I). AllAgree of law q d first p.1.former) (IsReadyDue i x) (selected_spills.due of q d first given x)
        (good_if (first + c) (IsDue of law q d first right a c gb gs i x) (selected_spills.due of q d first given x) (due_good of law q d first right a c gb gs i given x h.counted))
        (due_former of law q d first given x (fair i x h)) (λ p k m. (k, m))

    pub due_is : (i : ℕ) (given : Bool) (x : selected_desks.Desk O I) → Ready i x
        → computed_spills.due of q d first given (desk of law q d first x) ≡ outcome (taken of law q d first) (selected_spills.due of q d first given x)
    due_is i given x h =
        due_same of law q d first given x (fair i x h)
        (both_if (After of law q d first right a c gb gs i x) (λ (y : selected_desks.Desk O I). AllAgree of law q d first y.former) (Fair of law q d first)
        (selected_spills.spilled of q d first x (selected_spills.victim of given x))
        (good_if (first + c) (After of law q d first right a c gb gs i x) (selected_spills.spilled of q d first x (selected_spills.victim of given x))
        (spilled_good of law q d first right a c gb gs i given x h.counted))
        (spilled_former of law q d first x (selected_spills.victim of given x) (fair i x h)) (λ y k m. fair i y (record { counted = k.counted; former = m })))

    -- ---- reloads

    loaded_same : (i w : ℕ) (k : Option Kind) (p : ℕ × selected_desks.Desk O I) → slice_get p.1.symbols i ≡ Some (record { kind = k; attr = attr.InSlot w })
        → computed_reductions.loaded of q d first i w (taken of law q d first p) ≡ outcome (desk of law q d first)
        (selected_reductions.loaded of q d first i (record { kind = k; attr = attr.InSlot w }) w p)
    loaded_same i w k p there =
        ap computed_desks.Done (desk_is of law q d first (reverse (map entry p.1.below)) (reverse (map entry p.1.below))
        (slice_set (map entry p.1.symbols) i (record { kind = computed_entries.kind_in (slice_get (map entry p.1.symbols) i); attr = attr.Reg p.0 }))
        (map entry (slice_set p.1.symbols i (record { kind = k; attr = attr.Reg p.0 })))
        (let_go of law q d first p.1.former ++ w ∷ []) (let_go of law q d first (p.1.former ++ record { kind = k; attr = attr.InSlot w } ∷ []))
        (p.1.code ++ reloading of q (reload_line d) w p.0) (p.1.code ++ reloading of q (reload_line d) w p.0) p.1.most p.1.most refl
        (ap (λ o. slice_set (map entry p.1.symbols) i (record { kind = computed_entries.kind_in o; attr = attr.Reg p.0 })) (slice_get-map entry p.1.symbols i ∙ ap (option_map entry) there)
        ∙ map_set entry p.1.symbols i (record { kind = k; attr = attr.Reg p.0 }))
        (sym (let_go_more of law q d first p.1.former (record { kind = k; attr = attr.InSlot w })))
        refl refl)

    one_same : (i : ℕ) (x : selected_desks.Desk O I) → Ready i x
        → computed_reductions.reloaded_at of q d first i (desk of law q d first x) (computed_entries.slot_in (slice_get (map entry x.symbols) i))
        ≡ outcome (desk of law q d first) (selected_reductions.reloaded_at of q d first i x (slice_get x.symbols i))
    one_same i x h = ap (λ o. computed_reductions.reloaded_at of q d first i (desk of law q d first x) (computed_entries.slot_in o)) (slice_get-map entry x.symbols i) ∙ at (slice_get x.symbols i) refl
      where
        by : (k : Option Kind) (b : Attr O) → slice_get x.symbols i ≡ Some (record { kind = k; attr = b })
            → computed_reductions.reloaded_at of q d first i (desk of law q d first x) (computed_entries.slot_of b)
            ≡ outcome (desk of law q d first) (selected_reductions.reloaded_by of q d first i x (record { kind = k; attr = b }) b)
        by k (attr.InSlot w) e =
            bind_same (taken of law q d first) (desk of law q d first) (selected_spills.due of q d first false x) (computed_spills.due of q d first false (desk of law q d first x))
            (selected_reductions.loaded of q d first i (record { kind = k; attr = attr.InSlot w }) w) (computed_reductions.loaded of q d first i w) (due_is i false x h)
            (both_if (IsReadyDue i x) (λ p. Unit {0})
            (λ p. computed_reductions.loaded of q d first i w (taken of law q d first p) ≡ outcome (desk of law q d first)
            (selected_reductions.loaded of q d first i (record { kind = k; attr = attr.InSlot w }) w p))
            (selected_spills.due of q d first false x) (due_ready i false x h) (all_unit (selected_spills.due of q d first false x)) (λ p m u. loaded_same i w k p (m.0.after.stays i w k e)))
          where
            all_unit : (o : selected_desks.Outcome (ℕ × selected_desks.Desk O I)) → If (λ p. Unit {0}) o
            all_unit selected_desks.Full = tt
            all_unit selected_desks.Stuck = tt
            all_unit (selected_desks.Done p) = tt
        by k (attr.Reg r) e = refl
        by k (attr.Value o) e = refl
        by k (attr.Place o) e = refl
        by k (attr.Con n) e = refl
        by k (attr.Ea o) e = refl
        by k (attr.Token l) e = refl
        by k attr.Nothing e = refl

        at : (o : Option (selected_entries.Entry O)) → slice_get x.symbols i ≡ o
            → computed_reductions.reloaded_at of q d first i (desk of law q d first x) (computed_entries.slot_in (option_map entry o))
            ≡ outcome (desk of law q d first) (selected_reductions.reloaded_at of q d first i x o)
        at None e = refl
        at (Some b) e = by b.kind b.attr e

    one_former : (i : ℕ) (x : selected_desks.Desk O I) → Ready i x
        → If (λ (y : selected_desks.Desk O I). AllAgree of law q d first y.former) (selected_reductions.reloaded_at of q d first i x (slice_get x.symbols i))
    one_former i x h = at (slice_get x.symbols i) refl
      where
        by : (k : Option Kind) (b : Attr O) → slice_get x.symbols i ≡ Some (record { kind = k; attr = b })
            → If (λ (y : selected_desks.Desk O I). AllAgree of law q d first y.former) (selected_reductions.reloaded_by of q d first i x (record { kind = k; attr = b }) b)
        by k (attr.InSlot w) e =
            if_bind (λ (p : ℕ × selected_desks.Desk O I). AllAgree of law q d first p.1.former) (λ (y : selected_desks.Desk O I). AllAgree of law q d first y.former)
            (selected_spills.due of q d first false x)
            (selected_reductions.loaded of q d first i (record { kind = k; attr = attr.InSlot w }) w) (due_former of law q d first false x (fair i x h))
            (λ p m. All-push (λ (b : selected_entries.Entry O). Agrees of law q d first b.attr) p.1.former (record { kind = k; attr = attr.InSlot w }) m
            (all_get (λ (b : selected_entries.Entry O). Agrees of law q d first b.attr) x.symbols i (record { kind = k; attr = attr.InSlot w }) (fair i x h).symbols e))
        by k (attr.Reg r) e = h.former
        by k (attr.Value o) e = h.former
        by k (attr.Place o) e = h.former
        by k (attr.Con n) e = h.former
        by k (attr.Ea o) e = h.former
        by k (attr.Token l) e = h.former
        by k attr.Nothing e = h.former

        at : (o : Option (selected_entries.Entry O)) → slice_get x.symbols i ≡ o
            → If (λ (y : selected_desks.Desk O I). AllAgree of law q d first y.former) (selected_reductions.reloaded_at of q d first i x o)
        at None e = h.former
        at (Some b) e = by b.kind b.attr e

    one_ready : (i : ℕ) (x : selected_desks.Desk O I) → Ready i x → If (Ready (suc i)) (selected_reductions.reloaded_at of q d first i x (slice_get x.symbols i))
    one_ready i x h =
        both_if (In (suc i)) (λ (y : selected_desks.Desk O I). AllAgree of law q d first y.former) (Ready (suc i)) (selected_reductions.reloaded_at of q d first i x (slice_get x.symbols i))
        (good_if (first + c) (In (suc i)) (selected_reductions.reloaded_at of q d first i x (slice_get x.symbols i)) (one_good of law q d first right a c gb gs i x h.counted)) (one_former i x h)
        (λ y k m. record { counted = k; former = m })

    pub reloaded_ready : (n i : ℕ) (x : selected_desks.Desk O I) → Ready i x → If (Ready (i + n)) (selected_reductions.reloaded of q d first n i x)
    reloaded_ready zero i x h = (let g : i ≡ i + 0 = omega arith in subst (λ k. Ready k x) g h)
    reloaded_ready (suc n) i x h =
        let one : suc i ≡ i + 1 = omega arith in
        let all : i + 1 + n ≡ i + suc n = omega arith in
        if_bind (Ready (suc i)) (Ready (i + suc n)) (selected_reductions.reloaded_at of q d first i x (slice_get x.symbols i)) (selected_reductions.reloaded of q d first n (i + 1)) (one_ready i x h)
        (λ y k. subst (λ m. If (Ready m) (selected_reductions.reloaded of q d first n (i + 1) y)) all (reloaded_ready n (i + 1) y (subst (λ m. Ready m y) one k)))

    pub reloaded_same : (n i : ℕ) (x : selected_desks.Desk O I) → Ready i x
        → computed_reductions.reloaded of q d first n i (desk of law q d first x) ≡ outcome (desk of law q d first) (selected_reductions.reloaded of q d first n i x)
    reloaded_same zero i x h = refl
    reloaded_same (suc n) i x h =
        let one : suc i ≡ i + 1 = omega arith in
        bind_same (desk of law q d first) (desk of law q d first) (selected_reductions.reloaded_at of q d first i x (slice_get x.symbols i))
        (computed_reductions.reloaded_at of q d first i (desk of law q d first x) (computed_entries.slot_in (slice_get (map entry x.symbols) i))) (selected_reductions.reloaded of q d first n (i + 1))
        (computed_reductions.reloaded of q d first n (i + 1)) (one_same i x h)
        (both_if (Ready (suc i)) (Ready (suc i))
        (λ (y : selected_desks.Desk O I). computed_reductions.reloaded of q d first n (i + 1) (desk of law q d first y) ≡ outcome (desk of law q d first)
        (selected_reductions.reloaded of q d first n (i + 1) y))
        (selected_reductions.reloaded_at of q d first i x (slice_get x.symbols i)) (one_ready i x h) (one_ready i x h) (λ y k m. reloaded_same n (i + 1) y (subst (λ m. Ready m y) one k)))

  -- ---- the whole reduction
  module _ (rule : Rule) (a : List Sym) (c : ℕ) (gb gs : List ℕ)
      (named : (y : selected_desks.Desk O I) → Counted of law q d first rule.right a c gb gs (0 + length rule.right) y
      → (l : Line) → shape_fits d.classes rule.right (Some kind.Reg) l.pieces ≡ true
      → (n : ℕ) × (n < 12) × (hole (selected_entries.attrs y.symbols) (first_hole l.pieces) ≡ Some (attr.Reg n)))
      (may : MayGive d.classes rule.left rule.right rule.give) where
    abbrev IsReady : ℕ → selected_desks.Desk O I → Type 0
    IsReady i x = Ready rule.right a c gb gs i x

    given_same : (y : selected_desks.Desk O I) → IsReady (0 + length rule.right) y → (gv : Give) → MayGive d.classes rule.left rule.right gv
        → computed_reductions.given_by of q d first rule gv (desk of law q d first y) ≡ outcome stack (selected_reductions.given_by of q d first rule gv y)
    given_same y h gv may = by gv may
      where
        due_then : (given : Bool) (go : ℕ × selected_desks.Desk O I → selected_desks.Outcome (selected_desks.Stack O I))
            (go' : ℕ × computed_desks.Desk O I → computed_desks.Outcome (computed_desks.Stack O I))
            → ((p : ℕ × selected_desks.Desk O I) → go' (taken of law q d first p) ≡ outcome stack (go p))
            → computed_desks.bind (computed_spills.due of q d first given (desk of law q d first y)) go' ≡ outcome stack (selected_desks.bind (selected_spills.due of q d first given y) go)
        due_then given go go' k =
            bind_same (taken of law q d first) stack (selected_spills.due of q d first given y) (computed_spills.due of q d first given (desk of law q d first y)) go go'
            (due_is rule.right a c gb gs (0 + length rule.right) given y h) (all (selected_spills.due of q d first given y))
          where
            all : (o : selected_desks.Outcome (ℕ × selected_desks.Desk O I)) → If (λ p. go' (taken of law q d first p) ≡ outcome stack (go p)) o
            all selected_desks.Full = tt
            all selected_desks.Stuck = tt
            all (selected_desks.Done p) = k p

        shaped_same : (k : Option Kind) (l : Line) → shape_fits d.classes rule.right k l.pieces ≡ true
            → computed_reductions.shaped of q d first k l (computed_entries.attrs (map entry y.symbols)) ≡ selected_reductions.shaped of q d first k l (selected_entries.attrs y.symbols)
        shaped_same k l fits = ap (computed_reductions.shaped of q d first k l) (attrs_same y.symbols) ∙ kinds k fits
          where
            kinds : (k : Option Kind) → shape_fits d.classes rule.right k l.pieces ≡ true
                → computed_reductions.shaped of q d first k l (selected_entries.attrs y.symbols) ≡ selected_reductions.shaped of q d first k l (selected_entries.attrs y.symbols)
            kinds None fits = refl
            kinds (Some kind.Reg) fits =
                let r = named y h.counted l fits in
                ap computed_reductions.own_register r.2
                ∙ sym (ap (selected_reductions.own_register of q d first) r.2)
            kinds (Some (kind.Value z)) fits = refl
            kinds (Some (kind.Place z)) fits = refl
            kinds (Some kind.Con) fits =
                number_same (hole (selected_entries.attrs y.symbols) (first_hole l.pieces))
            kinds (Some kind.Ea) fits = refl
            kinds (Some kind.Nothing) fits = refl

        by : (gv : Give) → MayGive d.classes rule.left rule.right gv
            → computed_reductions.given_by of q d first rule gv (desk of law q d first y) ≡ outcome stack (selected_reductions.given_by of q d first rule gv y)
        by give.Fresh m =
            due_then false (selected_reductions.with_result of q d first rule) (computed_reductions.with_result of q d first rule)
            (λ p. finished_same rule (attr.Reg p.0) (attr.Reg p.0) (attr.Reg p.0) p.1 refl)
        by give.Reuse m =
            due_then true (selected_reductions.with_result of q d first rule) (computed_reductions.with_result of q d first rule)
            (λ p. finished_same rule (attr.Reg p.0) (attr.Reg p.0) (attr.Reg p.0) p.1 refl)
        by give.Scratch m =
            due_then false (selected_reductions.with_scratch of q d first rule) (computed_reductions.with_scratch of q d first rule)
            (λ p. finished_same rule (attr.Reg p.0) attr.Nothing attr.Nothing p.1 refl)
        by give.Nothing m = finished_same rule attr.Nothing attr.Nothing attr.Nothing y refl
        by (give.Shape l) m =
            finished_same rule attr.Nothing (computed_reductions.shaped of q d first (kind_at d.classes rule.left) l (computed_entries.attrs (map entry y.symbols)))
            (selected_reductions.shaped of q d first (kind_at d.classes rule.left) l (selected_entries.attrs y.symbols)) y (shaped_same (kind_at d.classes rule.left) l m.1)

    pub reduced_same : (x : selected_desks.Stack O I) → Counted of law q d first rule.right a c gb gs 0 (selected_desks.desk_of (length rule.right) x)
        → computed_reductions.reduced of q d first rule (stack x) ≡ outcome stack (selected_reductions.reduced of q d first rule x)
    reduced_same x h =
        let start = selected_desks.desk_of (length rule.right) x in
        let ready : IsReady 0 start = record { counted = h; former = tt } in
        bind_same (desk of law q d first) stack (selected_reductions.reloaded of q d first (length rule.right) 0 start)
        (computed_reductions.reloaded of q d first (length rule.right) 0 (computed_desks.set_apart (length rule.right) (stack x))) (selected_reductions.given_by of q d first rule rule.give)
        (computed_reductions.given_by of q d first rule rule.give)
        (ap (computed_reductions.reloaded of q d first (length rule.right) 0) (begins_same (length rule.right) x) ∙ reloaded_same rule.right a c gb gs (length rule.right) 0 start ready)
        (both_if (IsReady (0 + length rule.right)) (IsReady (0 + length rule.right))
        (λ (y : selected_desks.Desk O I). computed_reductions.given_by of q d first rule rule.give (desk of law q d first y) ≡ outcome stack
        (selected_reductions.given_by of q d first rule rule.give y))
        (selected_reductions.reloaded of q d first (length rule.right) 0 start) (reloaded_ready rule.right a c gb gs (length rule.right) 0 start ready)
        (reloaded_ready rule.right a c gb gs (length rule.right) 0 start ready) (λ y k m. given_same y k rule.give may))
