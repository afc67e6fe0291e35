-- The area that is spelled item by item is the objects' blocks.
use Rattle.std.proofs.Common.{◌≡◌, ℕ, zero, suc, ◌+◌, ◌-◌, ◌^◌, ◌≤◌, Bool, true, false, cond, List, [], ◌∷◌, ◌++◌, length, take, drop, replicate, Option, Some, None, refl}
use Rattle.std.proofs.Common.{sym, ap, subst, ◌∙◌, arith, append_assoc, length-append}
use Rattle.std.specs.Prelude.{slice_get, ◌==◌, ◌&&◌, ◌||◌, nat_lt, nat_le}
use Rattle.std.specs.List.{AllByRecursion}
use Rattle.std.specs.Int.{w32, to_le_bytes}
use Rattle.std.proofs.lemmas.Bool.{and_parts, eqb-true, leb-true, ltb-true, true≢false}
use Rattle.std.proofs.lemmas.List.{drop_at, take-append-drop}
use Rattle.std.proofs.lemmas.List.Elements.{recursion_from_All}
use Rattle.std.proofs.lemmas.Option.{same_Some}
use Rattle.gg_base.specs.Arithmetic.{add32}
use Rattle.gg_base.proofs.Facts.{slice_some}
use Rattle.vax_core.specs.declared.code.CodeItem.{CodeItem}
use Rattle.vax_core.specs.declared.code.AreaItem.{AreaItem}
use Rattle.vax_core.specs.declared.code.AreaItem.TheVariants as areas
use Rattle.vax_machine.specs.Area.{end_from, address_from, label_address, resolved, bytes_from}
use Rattle.vax_machine.specs.Labels.{double_area_label}
use Rattle.tree_core.specs.declared.program.Link.{Link}
use Rattle.tree_core.specs.declared.program.Object.{Object}
use Rattle.tree_core.specs.Valid.{is_aligned, is_whole, is_placed, object_lies, objects_lie, link_lies, LinksLie}
use Rattle.tree_core.specs.Area.{HoldsAddress}
use Rattle.gg_compile_law.specs.Areas.{HasNoLabel, AreBlocks, none, more}
use Rattle.gg_compile_law.specs.Spelling.{power_of, after_zeros, by_byte, label_of, link_addr, spelled, block_of, blocks_of, HoldsNumbers, AreasAreBlocks}
use Rattle.gg_compile_law.proofs.Areas.{end_behind, zeros_are, Lies, lies, first_address, area_labels_differ}

pub choose : (P : List AreaItem → Type 0) (t : Bool) (x y : List AreaItem) → (t ≡ true → P x) → (t ≡ false → P y) → P (cond t x y)
choose P true x y h g = h refl
choose P false x y h g = g refl

-- ---- zeros and single bytes

zeros_bytes : (whole : List AreaItem) (z : ℕ) (items : List AreaItem) (pos : ℕ) → bytes_from whole (after_zeros z items) pos ≡ replicate z 0 ++ bytes_from whole items (pos + z)
zeros_bytes whole zero items pos = let e : pos ≡ pos + 0 = omega arith in ap (λ (p : ℕ). bytes_from whole items p) e
zeros_bytes whole (suc n) items pos = ap (λ (l : List ℕ). l ++ bytes_from whole items (pos + suc n)) (zeros_are (suc n) (suc n) refl)

zeros_end : (z : ℕ) (items : List AreaItem) (pos : ℕ) → end_from (after_zeros z items) pos ≡ end_from items (pos + z)
zeros_end zero items pos = let e : pos ≡ pos + 0 = omega arith in ap (λ (p : ℕ). end_from items p) e
zeros_end (suc n) items pos = refl

zeros_plain : (z : ℕ) (items : List AreaItem) → HasNoLabel items → HasNoLabel (after_zeros z items)
zeros_plain zero items h = h
zeros_plain (suc n) items h = ((λ name. refl), h)

more_zeros : (z : ℕ) (bs : List ℕ) → replicate (suc z) 0 ++ bs ≡ replicate z 0 ++ (0 ∷ bs)
more_zeros zero bs = refl
more_zeros (suc z) bs = ap (λ (l : List ℕ). 0 ∷ l) (more_zeros z bs)

byte_bytes : (whole : List AreaItem) (zeros : ℕ) (go : ℕ → List AreaItem) (b : ℕ) (bs : List ℕ) (pos : ℕ) → ((z p : ℕ) → bytes_from whole (go z) p ≡ replicate z 0 ++ bs)
    → bytes_from whole (by_byte zeros go b) pos ≡ replicate zeros 0 ++ (b ∷ bs)
byte_bytes whole zeros go zero bs pos h = h (suc zeros) pos ∙ more_zeros zeros bs
byte_bytes whole zeros go (suc c) bs pos h =
    zeros_bytes whole zeros (areas.Byte (suc c) ∷ go 0) pos ∙ ap (λ (l : List ℕ). replicate zeros 0 ++ (suc c ∷ l)) (h 0 (pos + zeros + 1))

byte_end : (zeros : ℕ) (go : ℕ → List AreaItem) (b n pos : ℕ) → ((z p : ℕ) → end_from (go z) p ≡ p + z + n) → end_from (by_byte zeros go b) pos ≡ pos + zeros + suc n
byte_end zeros go zero n pos h = let e : pos + suc zeros + n ≡ pos + zeros + suc n = omega arith in h (suc zeros) pos ∙ e
byte_end zeros go (suc c) n pos h =
    let e : pos + zeros + 1 + 0 + n ≡ pos + zeros + suc n = omega arith in
    zeros_end zeros (areas.Byte (suc c) ∷ go 0) pos ∙ h 0 (pos + zeros + 1) ∙ e

byte_plain : (zeros : ℕ) (go : ℕ → List AreaItem) (b : ℕ) → ((z : ℕ) → HasNoLabel (go z)) → HasNoLabel (by_byte zeros go b)
byte_plain zeros go zero h = h (suc zeros)
byte_plain zeros go (suc c) h = zeros_plain zeros (areas.Byte (suc c) ∷ go 0) ((λ name. refl), h 0)

-- ---- an object's bytes

-- links lie in so many bytes
abbrev pub FitAll : ℕ → List Link → Type 0
FitAll size [] = Unit {0}
FitAll size (l ∷ ls) = (l.at + 4 ≤ size) × FitAll size ls

module _ (all : List Object) where
  pub plain : (passed zeros : ℕ) (ls : List Link) (at : ℕ) (bs : List ℕ) → HasNoLabel (spelled all passed zeros ls at bs)
  plain passed zeros ls at [] = zeros_plain zeros [] tt
  plain (suc p) zeros ls at (b ∷ bs) = plain p zeros ls (at + 1) bs
  plain zero zeros [] at (b ∷ bs) = byte_plain zeros (λ (z : ℕ). spelled all zero z [] (at + 1) bs) b (λ z. plain zero z [] (at + 1) bs)
  plain zero zeros (l ∷ ls) at (b ∷ bs) =
      choose HasNoLabel (l.at == at) _ _
      (λ t. zeros_plain zeros (areas.Long (link_addr all l) ∷ spelled all 3 0 ls (at + 1) bs) ((λ name. refl), plain 3 0 ls (at + 1) bs))
      (λ f. byte_plain zeros (λ (z : ℕ). spelled all zero z (l ∷ ls) (at + 1) bs) b (λ z. plain zero z (l ∷ ls) (at + 1) bs))

  ends : (size passed zeros : ℕ) (ls : List Link) (at : ℕ) (bs : List ℕ) (pos : ℕ) → FitAll size ls → at + length bs ≡ size → passed ≤ length bs
      → end_from (spelled all passed zeros ls at bs) pos ≡ pos + zeros + (length bs - passed)
  ends size passed zeros ls at [] pos fits e le = let s : pos + zeros ≡ pos + zeros + (0 - passed) = omega (arith, le) in zeros_end zeros [] pos ∙ s
  ends size (suc p) zeros ls at (b ∷ bs) pos fits e le = ends size p zeros ls (at + 1) bs pos fits (omega (arith, e)) (omega (arith, le)) ∙ (omega arith)
  ends size zero zeros [] at (b ∷ bs) pos fits e le =
      byte_end zeros (λ (z : ℕ). spelled all zero z [] (at + 1) bs) b (length bs) pos (λ z p. ends size zero z [] (at + 1) bs p fits (omega (arith, e)) (omega arith) ∙ (omega arith)) ∙ (omega arith)
  ends size zero zeros (l ∷ ls) at (b ∷ bs) pos fits e le =
      choose (λ (x : List AreaItem). end_from x pos ≡ pos + zeros + (length (b ∷ bs) - zero)) (l.at == at) _ _
      (λ t.
      let here : l.at ≡ at = eqb-true l.at at t in
      let inside = fits.0 in
      zeros_end zeros (areas.Long (link_addr all l) ∷ spelled all 3 0 ls (at + 1) bs) pos
      ∙ ends size 3 0 ls (at + 1) bs (pos + zeros + 4) fits.1 (omega (arith, e)) (omega (arith, e, here, inside)) ∙ (omega (arith, e, here, inside)))
      (λ f.
      byte_end zeros (λ (z : ℕ). spelled all zero z (l ∷ ls) (at + 1) bs) b (length bs) pos
      (λ z p. ends size zero z (l ∷ ls) (at + 1) bs p fits (omega (arith, e)) (omega arith) ∙ (omega arith)) ∙ (omega arith))

  module _ (whole : List AreaItem) (bytes : List ℕ) where
    -- the bytes at a link are what its item stands for
    abbrev Holds : Link → Type 0
    Holds l = take 4 (drop l.at bytes) ≡ to_le_bytes w32 (resolved whole (link_addr all l))

    abbrev HoldAll : List Link → Type 0
    HoldAll [] = Unit {0}
    HoldAll (l ∷ ls) = Holds l × HoldAll ls

    link_bytes : (l : Link) (b : ℕ) (bs pre : List ℕ) → bytes ≡ pre ++ (b ∷ bs) → length pre ≡ l.at → Holds l → to_le_bytes w32 (resolved whole (link_addr all l)) ++ drop 3 bs ≡ b ∷ bs
    link_bytes l b bs pre e at h =
        let there : drop l.at bytes ≡ b ∷ bs = ap (λ (x : List ℕ). drop l.at x) e ∙ drop_at pre (b ∷ bs) l.at at in
        ap (λ (x : List ℕ). x ++ drop 3 bs) (sym h ∙ ap (λ (x : List ℕ). take 4 x) there) ∙ take-append-drop 4 (b ∷ bs)

    spells : (passed zeros : ℕ) (ls : List Link) (at : ℕ) (bs pre : List ℕ) (pos : ℕ) → bytes ≡ pre ++ bs → length pre ≡ at → FitAll (length bytes) ls → HoldAll ls → passed ≤ length bs
        → bytes_from whole (spelled all passed zeros ls at bs) pos ≡ replicate zeros 0 ++ drop passed bs
    spells zero zeros ls at [] pre pos e l fits holds le = zeros_bytes whole zeros [] pos
    spells (suc p) zeros ls at [] pre pos e l fits holds le = absurd (omega (arith, le))
    spells (suc p) zeros ls at (b ∷ bs) pre pos e l fits holds le =
        spells p zeros ls (at + 1) bs (pre ++ b ∷ []) pos (e ∙ sym (append_assoc pre (b ∷ []) bs)) (omega (arith, length-append pre (b ∷ []), l)) fits holds (omega (arith, le))
    spells zero zeros [] at (b ∷ bs) pre pos e l fits holds le =
        byte_bytes whole zeros (λ (z : ℕ). spelled all zero z [] (at + 1) bs) b bs pos
        (λ z p. spells zero z [] (at + 1) bs (pre ++ b ∷ []) p (e ∙ sym (append_assoc pre (b ∷ []) bs)) (omega (arith, length-append pre (b ∷ []), l)) fits holds (omega arith))
    spells zero zeros (k ∷ ks) at (b ∷ bs) pre pos e l fits holds le =
        choose (λ (x : List AreaItem). bytes_from whole x pos ≡ replicate zeros 0 ++ (b ∷ bs)) (k.at == at) _ _
        (λ t.
        let here : k.at ≡ at = eqb-true k.at at t in
        let inside = fits.0 in
        let total : length bytes ≡ length pre + length (b ∷ bs) = ap length e ∙ length-append pre (b ∷ bs) in
        zeros_bytes whole zeros (areas.Long (link_addr all k) ∷ spelled all 3 0 ks (at + 1) bs) pos
        ∙ ap (λ (x : List ℕ). replicate zeros 0 ++ (to_le_bytes w32 (resolved whole (link_addr all k)) ++ x))
        (spells 3 0 ks (at + 1) bs (pre ++ b ∷ []) (pos + zeros + 4) (e ∙ sym (append_assoc pre (b ∷ []) bs)) (omega (arith, length-append pre (b ∷ []), l)) fits.1 holds.1
        (omega (arith, total, l, here, inside)))
        ∙ ap (λ (x : List ℕ). replicate zeros 0 ++ x) (link_bytes k b bs pre e (l ∙ sym here) holds.0))
        (λ f.
        byte_bytes whole zeros (λ (z : ℕ). spelled all zero z (k ∷ ks) (at + 1) bs) b bs pos
        (λ z p. spells zero z (k ∷ ks) (at + 1) bs (pre ++ b ∷ []) p (e ∙ sym (append_assoc pre (b ∷ []) bs)) (omega (arith, length-append pre (b ∷ []), l)) fits holds (omega arith)))

-- ---- blocks

power_is : (align : ℕ) → ((align == 1) || ((align == 2) || (align == 4))) ≡ true → 2 ^ power_of align ≡ align
power_is align h = by (align == 1) (align == 2) (align == 4) refl refl refl h
  where
    by : (b c d : Bool) → (align == 1) ≡ b → (align == 2) ≡ c → (align == 4) ≡ d → (b || (c || d)) ≡ true → 2 ^ cond b 0 (cond c 1 2) ≡ align
    by true c d p q r h = sym (eqb-true align 1 p)
    by false true d p q r h = sym (eqb-true align 2 q)
    by false false true p q r h = sym (eqb-true align 4 r)
    by false false false p q r h = absurd (true≢false (sym h))

pub aligned_so : (o : Object) (at : ℕ) → object_lies at o ≡ true → 2 ^ power_of o.align ≡ o.align
aligned_so o at h = power_is o.align (and_parts (is_aligned o) (is_whole o && is_placed at o) h).0

fit_all : (objects size : ℕ) (ls : List Link) → AllByRecursion (λ l. link_lies objects size l ≡ true) ls → FitAll size ls
fit_all objects size [] h = tt
fit_all objects size (l ∷ ls) h = (leb-true (l.at + 4) size (and_parts (nat_le (l.at + 4) size) (nat_lt l.object objects) h.0).0, fit_all objects size ls h.1)

module _ (all : List Object) where
  pub block_end : (o : Object) (at : ℕ) → Lies o at (power_of o.align) → FitAll o.size o.links → end_from (block_of all o) at ≡ o.address + o.size
  block_end o at l fits =
      let begins = l.begins in
      let size = l.whole in
      ends all o.size 0 0 o.links 0 o.bytes _ fits (omega (arith, size)) (omega arith) ∙ (omega (arith, begins, size))

  -- where an object lies
  record Placed (whole : List AreaItem) (o : Object) : Type 0 where
    label : label_address whole o.label ≡ o.address
    low : o.address ≤ 1114112

  abbrev pub LinksFit : List Object → Type 0
  LinksFit [] = Unit {0}
  LinksFit (o ∷ os) = FitAll o.size o.links × LinksFit os

  module _ (whole : List AreaItem) (code : List CodeItem) (once : double_area_label whole code ≡ None) where
    block_label : (o : Object) (pre post : List AreaItem) → Lies o (end_from pre 65536) (power_of o.align) → whole ≡ pre ++ (block_of all o ++ post) → Placed whole o
    block_label o pre post l e =
        let front = pre ++ areas.Align (power_of o.align) ∷ [] in
        let tail = spelled all 0 0 o.links 0 o.bytes ++ post in
        let split : whole ≡ front ++ areas.Label o.label ∷ tail = e ∙ sym (append_assoc pre (areas.Align (power_of o.align) ∷ []) (areas.Label o.label ∷ tail)) in
        let high = l.high in
        record {
          label =
              ap (λ (x : List AreaItem). address_from x 65536 o.label) split
              ∙ first_address front tail o.label code 65536 (subst (λ (x : List AreaItem). double_area_label x code ≡ None) split once)
              ∙ end_behind pre (areas.Align (power_of o.align) ∷ []) 65536 ∙ l.begins;
          low = omega (arith, high);
        }

    placed : (os : List Object) (pre : List AreaItem) (at : ℕ) → objects_lie at os ≡ true → LinksFit os → end_from pre 65536 ≡ at → whole ≡ pre ++ blocks_of all os
        → (n : ℕ) (o : Object) → slice_get os n ≡ Some o → Placed whole o
    placed [] pre at h fits begins e zero o is = absurd cc
    placed [] pre at h fits begins e (suc n) o is = absurd cc
    placed (x ∷ os) pre at h fits begins e zero o is =
        let a = and_parts (object_lies at x) (objects_lie (x.address + x.size) os) h in
        subst (λ (y : Object). Placed whole y) (same_Some x o is)
        (block_label x pre (blocks_of all os) (subst (λ (k : ℕ). Lies x k (power_of x.align)) (sym begins) (lies x at (power_of x.align) (aligned_so x at a.0) a.0)) e)
    placed (x ∷ os) pre at h fits begins e (suc n) o is =
        let a = and_parts (object_lies at x) (objects_lie (x.address + x.size) os) h in
        let l = lies x at (power_of x.align) (aligned_so x at a.0) a.0 in
        placed os (pre ++ block_of all x) (x.address + x.size) a.1 fits.1
        (end_behind pre (block_of all x) 65536 ∙ ap (λ (k : ℕ). end_from (block_of all x) k) begins ∙ block_end x at l fits.0) (e ∙ sym (append_assoc pre (block_of all x) (blocks_of all os))) n o is

-- ---- all of them

module _ (all : List Object) (whole : List AreaItem) (places : (n : ℕ) (o : Object) → slice_get all n ≡ Some o → Placed all whole o) where
  resolved_so : (l : Link) (x : Object) → slice_get all l.object ≡ Some x → resolved whole (link_addr all l) ≡ x.address
  resolved_so l x is =
      let p = places l.object x is in
      let low = p.low in
      let small : add32 x.address 0 ≡ x.address = omega (arith, low) in
      ap (λ (o : Option Object). add32 (label_address whole (label_of o)) 0) is ∙ ap (λ (a : ℕ). add32 a 0) p.label ∙ small

  hold_all : (bytes : List ℕ) (size : ℕ) (ls : List Link) → AllByRecursion (λ l. link_lies (length all) size l ≡ true) ls → AllByRecursion (HoldsAddress all bytes) ls → HoldAll all whole bytes ls
  hold_all bytes size [] h g = tt
  hold_all bytes size (l ∷ ls) h g =
      let lt = ltb-true l.object (length all) (and_parts (nat_le (l.at + 4) size) (nat_lt l.object (length all)) h.0).1 in
      let x = slice_some all l.object lt in
      (g.0 x.0 x.1 ∙ ap (λ (a : ℕ). to_le_bytes w32 a) (sym (resolved_so l x.0 x.1)), hold_all bytes size ls h.1 g.1)

  are_blocks : (os : List Object) (at : ℕ) → objects_lie at os ≡ true → AllByRecursion (LinksLie (length all)) os → AllByRecursion (HoldsNumbers all) os → AreBlocks whole os (blocks_of all os)
  are_blocks [] at h links numbers = none
  are_blocks (o ∷ os) at h links numbers =
      let a = and_parts (object_lies at o) (objects_lie (o.address + o.size) os) h in
      let l = lies o at (power_of o.align) (aligned_so o at a.0) a.0 in
      let size = l.whole in
      let lie = recursion_from_All (λ k. link_lies (length all) o.size k ≡ true) o.links links.0.0 in
      let fits = fit_all (length all) o.size o.links lie in
      let holds = hold_all o.bytes o.size o.links lie (recursion_from_All (HoldsAddress all o.bytes) o.links numbers.0.0) in
      more o os (block_of all o) (blocks_of all os)
      (record {
        power = power_of o.align;
        content = spelled all 0 0 o.links 0 o.bytes;
        align = aligned_so o at a.0;
        part_is = refl;
        plain = plain all 0 0 o.links 0 o.bytes;
        spelled = spells all whole o.bytes 0 0 o.links 0 o.bytes [] o.address refl refl (subst (λ (n : ℕ). FitAll n o.links) (sym size) fits) holds (omega arith);
        ends = ends all o.size 0 0 o.links 0 o.bytes o.address fits (omega (arith, size)) (omega arith) ∙ (omega (arith, size));
        bytes = numbers.0.1;
      })
      (are_blocks os (o.address + o.size) a.1 links.1 numbers.1)

pub links_fit : (all : List Object) (objects : ℕ) (os : List Object) → AllByRecursion (LinksLie objects) os → LinksFit all os
links_fit all objects [] h = tt
links_fit all objects (o ∷ os) h = (fit_all objects o.size o.links (recursion_from_All (λ k. link_lies objects o.size k ≡ true) o.links h.0.0), links_fit all objects os h.1)

pub areas_are_blocks : AreasAreBlocks
areas_are_blocks program c valid loads numbers is =
    let os = program.objects in
    let links = recursion_from_All (LinksLie (length os)) os valid.links in
    let places = placed os c.area c.items (area_labels_differ c loads) os [] 65536 valid.objects (links_fit os (length os) os links) refl is in
    subst (λ (x : List AreaItem). AreBlocks c.area os x) (sym is) (are_blocks os c.area places os 65536 valid.objects links (recursion_from_All (HoldsNumbers os) os numbers))
