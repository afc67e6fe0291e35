-- How deep the terms nest of what a template does, line by line.
use Rattle.std.proofs.Common.{◌≤◌, ℕ, ◌+◌, ◌*◌, Bool, true, false, Option, Some, None, Result, Ok, Err, List, [], ◌∷◌, length, arith}
use Rattle.std.specs.Prelude.{max, is_none}
use Rattle.gg_base.specs.declared.size.Size.{Size}
use Rattle.gg_base.specs.declared.size.Size.TheVariants.{Byte, Long}
use Rattle.md_reader_pieces.specs.declared.piece.Line.{Line}
use Rattle.md_reader.specs.declared.types.Kind.{Kind}
use Rattle.md_reader.specs.declared.types.Kind.TheVariants as kind
use Rattle.md_reader.specs.declared.types.Give.{Give}
use Rattle.md_reader.specs.declared.types.Give.TheVariants as give
use Rattle.md_reader.specs.Patterns.{kind_at}
use Rattle.term_core.specs.Shape.{Shape}
use Rattle.sel_terms.specs.Effects.{ActShape, EffectShape, Value, PlaceHome}
use Rattle.sel_terms.specs.Same.{same_size}
use Rattle.sel_terms_depth.specs.Depth.{AreWithin, IsWithin}
use Rattle.sel_terms_depth.proofs.Patterns.{more_divisors, joined}
use Rattle.sel_target.specs.declared.fault.TemplateKind.{TemplateKind}
use Rattle.sel_target.specs.declared.fault.TemplateKind.TheVariants.{NotInstr, WrongSize}
use Rattle.sel_target.specs.Meaning.{Fault}
use Rattle.vax_templates.specs.declared.form.Base.{Base}
use Rattle.vax_templates.specs.declared.form.Base.TheVariants as base
use Rattle.vax_templates.specs.declared.form.Form.{Form}
use Rattle.vax_templates.specs.declared.setting.Hole.{Hole}
use Rattle.vax_templates.specs.declared.setting.Setting.{Setting}
use Rattle.vax_templates.specs.Settings.{holes_of, saved_hole, hole_at, setting_of, saved_setting}
use Rattle.vax_templates.specs.Instructions.{shape_of_pieces}
use Rattle.vax_templates.specs.Standing as where_
use Rattle.vax_templates.specs.Standing.{Where, form_where, ◌>>=◌}
use Rattle.vax_templates.specs.HoleTerms.{constant_of}
use Rattle.vax_templates.specs.Taking.{Taken, fetched}
use Rattle.vax_templates.specs.Deeds.{Last, Plain, Compared, Tested, Returning, Ended, Deed}
use Rattle.vax_templates.specs.Judging.{line_did}
use Rattle.vax_templates.specs.Found as found_
use Rattle.vax_templates.specs.Progress.{Progress, start, kept_or_put, at_line, kept, judged, lines_judged}
use Rattle.vax_templates.specs.GiveLines.{left_value, last_deed, register_given, number_given, base_number}
use Rattle.vax_templates.specs.GiveLines.{address_given, value_given, home_given, place_given, shape_given}
use Rattle.vax_templates.specs.GiveLines.{shape_read, given_by, given_line}
use Rattle.vax_templates.specs.Dropped.{first_dropped, none_dropped}
use Rattle.vax_templates.specs.Found.{with_divisors, ended, template_found, found, saved_found, saved_give}
use Rattle.vax_target_writing.proofs.Each.{EachOk, bind_each, if_ok}
use Rattle.vax_templates_depth.specs.Laws.{FoundWithin, TemplatesAreShallow, SavedLinesAreShallow}
use Rattle.vax_templates_depth.proofs.Lines.{Within, ActWithin, SomeWithin, WhereWithin, TakenWithin, LastWithin, DeedWithin, constant_within, form_within, fetched_within, line_within}

abbrev ProgressWithin : ℕ → Progress → Type 0
ProgressWithin n p = SomeWithin n p.own × LastWithin n p.last × AreWithin n p.divisors

-- how deep the terms may nest behind these lines, where they nest so deep before
abbrev grown : ℕ → List Line → ℕ
grown m [] = m
grown m (l ∷ ls) = grown (6 + m) ls

grown_is : (m : ℕ) (ls : List Line) → grown m ls ≤ 6 * length ls + m
grown_is m [] = omega arith
grown_is m (l ∷ ls) = omega (arith, grown_is (6 + m) ls)

more_some : (m n : ℕ) → m ≤ n → (t : Option Shape) → SomeWithin m t → SomeWithin n t
more_some m n l None h = tt
more_some m n l (Some t) h = omega (arith, l, h)

more_last : (m n : ℕ) → m ≤ n → (left : Last) → LastWithin m left → LastWithin n left
more_last m n l Plain h = tt
more_last m n l (Compared a b) h = (omega (arith, l, h.0), omega (arith, l, h.1))
more_last m n l (Tested t) h = omega (arith, l, h)
more_last m n l (Returning t) h = omega (arith, l, h)
more_last m n l (Ended deed) h = omega (arith, l, h)

more : (m n : ℕ) → m ≤ n → (p : Progress) → ProgressWithin m p → ProgressWithin n p
more m n l p h = (more_some m n l p.own h.0, more_last m n l p.last h.1, more_divisors m n l p.divisors h.2)

own_kept : (n : ℕ) (a b : Option Shape) → SomeWithin n a → SomeWithin n b → SomeWithin n (kept_or_put a b)
own_kept n a None h k = h
own_kept n a (Some t) h k = k

six : (m : ℕ) → m ≤ 6 + m
six m = omega arith

kept_within : (m line : ℕ) (p : Progress) (r : Result Deed TemplateKind) → ProgressWithin m p → EachOk (DeedWithin (6 + m)) r →
    EachOk (ProgressWithin (6 + m)) (at_line line r >>= kept line p)
kept_within m line p (Ok d) h k =
    let j = more m (6 + m) (six m) p h in
    (own_kept (6 + m) p.own d.own j.0 k.0, k.1, joined (6 + m) p.divisors d.divisors j.2 k.2)
kept_within m line p (Err e) h k = tt

module _ (s : Setting) (holes : List Hole) where
  lines_within : (ls : List Line) (is_first : Bool) (m : ℕ) → 1 ≤ m → (p : Progress) → ProgressWithin m p → EachOk (ProgressWithin (grown m ls)) (lines_judged s holes is_first p ls)
  lines_within [] is_first m l p h = h
  lines_within (x ∷ ls) is_first m l p h =
      bind_each (ProgressWithin (6 + m)) (ProgressWithin (grown (6 + m) ls)) (judged s holes is_first x p) (λ (q : Progress). lines_judged s holes false q ls)
      (λ q k. lines_within ls false (6 + m) (omega arith) q k)
      (kept_within m x.line p (line_did s holes is_first p.own p.last x.pieces) h (line_within s holes p.own m l h.0 x.pieces is_first p.last h.1))

  module _ (n : ℕ) (l : 5 ≤ n) where
    value_within : (t : Option Shape) → SomeWithin n t → EachOk (ActWithin n) (left_value t)
    value_within None h = tt
    value_within (Some t) h = h

    deed_within : (left : Last) → LastWithin n left → EachOk (ActWithin n) (last_deed left)
    deed_within (Ended deed) h = h
    deed_within left h = tt

    given_register : (w : Where) → WhereWithin 4 w → EachOk (ActWithin n) (register_given w)
    given_register (where_.Register t) h = omega (arith, h, l)
    given_register w h = tt

    given_address : (w : Where) → WhereWithin 4 w → EachOk (ActWithin n) (address_given w)
    given_address (where_.At a p) h = omega (arith, h, l)
    given_address w h = tt

    given_value : (t : Taken) → TakenWithin 5 t → EachOk (ActWithin n) (value_given t)
    given_value t h = if_ok (ActWithin n) t.missized (Err WrongSize) (Ok (Value t.term)) (λ e. tt) (λ e. omega (arith, h.0, l))

    given_home : (size has : Size) (i : ℕ) → EachOk (ActWithin n) (home_given size has i)
    given_home size has i = if_ok (ActWithin n) (same_size has size) (Ok (PlaceHome size i)) (Err WrongSize) (λ e. omega arith) (λ e. tt)

    given_place : (size : Size) (w : Where) → WhereWithin 4 w → EachOk (ActWithin n) (place_given size w)
    given_place size (where_.Place y i) h = given_home size y i
    given_place size (where_.Local i) h = given_home size Long i
    given_place size (where_.At a p) h = omega (arith, h, l)
    given_place size w h = tt

    one : 1 ≤ 1
    one = omega arith

    given_number : (b : Base) → EachOk (ActWithin n) (base_number holes b)
    given_number (base.Hole i) =
        bind_each (Within 1) (ActWithin n) (constant_of (hole_at holes i) i) number_given (λ t h. omega (arith, h, l)) (constant_within 1 one (hole_at holes i) i)
    given_number b = tt

    formed : (f : Form) (size : Size) → EachOk (WhereWithin 4) (form_where s holes None f size)
    formed f size = form_within s holes None 1 one tt f size

    shape_within : (k : Option Kind) (f : Form) → EachOk (ActWithin n) (shape_given s holes k f)
    unfolding shape_given
    shape_within (Some kind.Reg) f = bind_each (WhereWithin 4) (ActWithin n) (form_where s holes None f Long) register_given given_register (formed f Long)
    shape_within (Some kind.Con) f = if_ok (ActWithin n) (is_none f.index) (base_number holes f.base) (Err NotInstr) (λ e. given_number f.base) (λ e. tt)
    shape_within (Some kind.Ea) f =
        if_ok (ActWithin n) (is_none f.index) (form_where s holes None f Byte >>= address_given) (Err NotInstr)
        (λ e. bind_each (WhereWithin 4) (ActWithin n) (form_where s holes None f Byte) address_given given_address (formed f Byte)) (λ e. tt)
    shape_within (Some (kind.Value y)) f =
        bind_each (WhereWithin 4) (ActWithin n) (form_where s holes None f y) (λ (w : Where). fetched s None w y >>= value_given)
        (λ w h. bind_each (TakenWithin 5) (ActWithin n) (fetched s None w y) value_given given_value (fetched_within s holes None 1 one tt w y h)) (formed f y)
    shape_within (Some (kind.Place y)) f = bind_each (WhereWithin 4) (ActWithin n) (form_where s holes None f y) (place_given y) (given_place y) (formed f y)
    shape_within (Some kind.Nothing) f = tt
    shape_within None f = tt

    pieces_within : (k : Option Kind) (o : Option Form) → EachOk (ActWithin n) (shape_read o >>= shape_given s holes k)
    pieces_within k None = tt
    pieces_within k (Some f) = shape_within k f

    by_within : (k : Option Kind) (t : Option Shape) (left : Last) (g : Give) → SomeWithin n t → LastWithin n left → EachOk (ActWithin n) (given_by s holes k t left g)
    by_within k t left give.Fresh h j = value_within t h
    by_within k t left give.Reuse h j = value_within t h
    by_within k t left give.Scratch h j = deed_within left j
    by_within k t left give.Nothing h j = deed_within left j
    by_within k t left (give.Shape x) h j = pieces_within k (shape_of_pieces x.pieces)

    none_dropped_within : (e : EffectShape) (o : Option ℕ) → IsWithin n e → FoundWithin n (none_dropped e o)
    none_dropped_within e None h = h
    none_dropped_within e (Some line) h = tt

    ended_by : (line : ℕ) (p : Progress) (r : Result ActShape TemplateKind) → ProgressWithin n p → EachOk (ActWithin n) r →
        FoundWithin n (at_line line r >>= λ (deed : ActShape). found_.checked p (with_divisors p deed))
    ended_by line p (Ok deed) h j =
        none_dropped_within (with_divisors p deed) (first_dropped (with_divisors p deed) p.reads) (record { act = j; divisors = h.2 })
    ended_by line p (Err e) h j = tt

    ended_within : (k : Option Kind) (line : ℕ) (g : Give) (p : Progress) → ProgressWithin n p → FoundWithin n (ended s holes k line g p)
    unfolding ended
    ended_within k line g p h = ended_by line p (given_by s holes k p.own p.last g) h (by_within k p.own p.last g h.0 h.1)

    judged_by : (k : Option Kind) (line : ℕ) (g : Give) (m : ℕ) → m ≤ n → (r : Result Progress Fault) → EachOk (ProgressWithin m) r → FoundWithin n (r >>= ended s holes k line g)
    judged_by k line g m u (Ok p) h = ended_within k line g p (more m n u p h)
    judged_by k line g m u (Err e) h = tt

  template_within : (k : Option Kind) (ls : List Line) (g : Give) → FoundWithin (max 5 (6 * length ls + 1)) (template_found s holes k ls g)
  unfolding template_found
  template_within k ls g =
      judged_by (max 5 (6 * length ls + 1)) (omega arith) k (given_line ls g) g (grown 1 ls) (omega (arith, grown_is 1 ls))
      (lines_judged s holes true start ls) (lines_within ls true 1 (omega arith) start (tt, tt, tt))

pub templates_are_shallow : TemplatesAreShallow
unfolding found
templates_are_shallow classes rule = template_within (setting_of classes rule) (holes_of classes rule.right) (kind_at classes rule.left) rule.lines rule.give

pub saved_lines_are_shallow : SavedLinesAreShallow
unfolding saved_found
saved_lines_are_shallow k l = template_within (saved_setting k) (saved_hole k ∷ []) None (l ∷ []) (saved_give k)
