-- The data area of a program's objects can be written.
use Rattle.std.proofs.Common.{◌≡◌, ℕ, zero, suc, ◌+◌, ◌^◌, ◌<◌, ◌≤◌, Bool, true, false, cond, List, [], ◌∷◌, length, refl, arith}
use Rattle.std.specs.Prelude.{slice_get, ◌==◌, ◌&&◌, not, nat_lt, nat_le}
use Rattle.std.specs.List.{AllByRecursion as All}
use Rattle.std.proofs.lemmas.Bool.{and_parts, le-leb, lt-ltb, ltb-true, and_from}
use Rattle.std.proofs.lemmas.List.Elements.{recursion_from_All}
use Rattle.gg_base.proofs.Facts.{all_append}
use Rattle.tree_core.specs.declared.program.Link.{Link}
use Rattle.tree_core.specs.declared.program.Object.{Object}
use Rattle.tree_core.specs.declared.program.TreeProgram.{TreeProgram}
use Rattle.tree_core.specs.Valid.{object_lies, objects_lie, link_lies, LinksLie, IsValid}
use Rattle.vax_core.specs.declared.code.AreaItem.{AreaItem}
use Rattle.vax_core.specs.declared.code.AreaItem.TheVariants as areas
use Rattle.vax_core.specs.Valid.{is_name, is_long, is_area_item}
use Rattle.vax_machine_lists.specs.Sound.{AllBelow}
use Rattle.gg_compile_counts.specs.gg_compile_law.specs.Spelling.{power_of, after_zeros, by_byte, label_of, link_addr, spelled, block_of, blocks_of, area_of}
use Rattle.gg_compile_counts.specs.gg_compile_law.proofs.Areas.{lies}
use Rattle.gg_compile_counts.specs.gg_compile_law.proofs.Spelling.{choose, aligned_so}
use Rattle.gg_compile_laws.specs.Written.{HasPlainObjects}

abbrev pub Fine : AreaItem → Type 0
Fine x = is_area_item x ≡ true

abbrev AllFine : List AreaItem → Type 0
AllFine xs = All Fine xs

-- ---- zeros and single bytes

zeros_fine : (zeros : ℕ) (xs : List AreaItem) → zeros ≤ 1048576 → AllFine xs → AllFine (after_zeros zeros xs)
zeros_fine zero xs le h = h
zeros_fine (suc n) xs le h = (and_from (nat_le 1 (suc n)) (nat_le (suc n) 1048576) (le-leb 1 (suc n) (omega arith)) (le-leb (suc n) 1048576 le), h)

byte_fine : (before : ℕ) (go : ℕ → List AreaItem) (b : ℕ) → b < 256 → before ≤ 1048576 → AllFine (go (suc before)) → AllFine (go 0) → AllFine (by_byte before go b)
byte_fine before go zero lt le more none = more
byte_fine before go (suc b) lt le more none = zeros_fine before (areas.Byte (suc b) ∷ go 0) le (lt-ltb (suc b) (2 ^ 8) (omega (arith, lt)), none)

align_fine : (align : ℕ) → Fine (areas.Align (power_of align))
align_fine align = by (align == 1) (align == 2)
  where
    by : (a b : Bool) → nat_le (cond a 0 (cond b 1 2)) 2 ≡ true
    by true b = refl
    by false true = refl
    by false false = refl

-- ---- objects

module _ (all : List Object) (labels : All (λ (o : Object). is_name o.label ≡ true) all) where
  label_there : (os : List Object) (n : ℕ) → All (λ (o : Object). is_name o.label ≡ true) os → n < length os → is_name (label_of (slice_get os n)) ≡ true
  label_there [] n h lt = absurd (omega (arith, lt))
  label_there (o ∷ os) zero h lt = h.0
  label_there (o ∷ os) (suc n) h lt = label_there os n h.1 (omega (arith, lt))

  -- the object that a link names is there
  abbrev IsThere : Link → Type 0
  IsThere l = l.object < length all

  link_fine : (l : Link) → IsThere l → Fine (areas.Long (link_addr all l))
  link_fine l lt = and_from (is_name (label_of (slice_get all l.object))) (is_long 0 && not (0 == 2 ^ 31)) (label_there all l.object labels lt) refl

  bytes_fine : (passed zeros : ℕ) (ls : List Link) (at : ℕ) (bs : List ℕ) → All IsThere ls → AllBelow 256 bs → zeros + length bs ≤ 1048576 → AllFine (spelled all passed zeros ls at bs)
  bytes_fine passed zeros ls at [] there small few = zeros_fine zeros [] (omega (arith, few)) tt
  bytes_fine (suc p) zeros ls at (b ∷ bs) there small few = bytes_fine p zeros ls (at + 1) bs there small.1 (omega (arith, few))
  bytes_fine zero zeros [] at (b ∷ bs) there small few =
      byte_fine zeros (λ (z : ℕ). spelled all zero z [] (at + 1) bs) b small.0 (omega (arith, few))
      (bytes_fine zero (suc zeros) [] (at + 1) bs there small.1 (omega (arith, few))) (bytes_fine zero 0 [] (at + 1) bs there small.1 (omega (arith, few)))
  bytes_fine zero zeros (l ∷ ls) at (b ∷ bs) there small few =
      choose AllFine (l.at == at) _ _
      (λ t.
      zeros_fine zeros (areas.Long (link_addr all l) ∷ spelled all 3 0 ls (at + 1) bs) (omega (arith, few))
      (link_fine l there.0, bytes_fine 3 0 ls (at + 1) bs there.1 small.1 (omega (arith, few))))
      (λ f.
      byte_fine zeros (λ (z : ℕ). spelled all zero z (l ∷ ls) (at + 1) bs) b small.0 (omega (arith, few))
      (bytes_fine zero (suc zeros) (l ∷ ls) (at + 1) bs there small.1 (omega (arith, few))) (bytes_fine zero 0 (l ∷ ls) (at + 1) bs there small.1 (omega (arith, few))))

  links_there : (size : ℕ) (ls : List Link) → All (λ (l : Link). link_lies (length all) size l ≡ true) ls → All IsThere ls
  links_there size [] h = tt
  links_there size (l ∷ ls) h = (ltb-true l.object (length all) (and_parts (nat_le (l.at + 4) size) (nat_lt l.object (length all)) h.0).1, links_there size ls h.1)

  blocks_fine : (os : List Object) (at : ℕ) → 65536 ≤ at → objects_lie at os ≡ true → All (LinksLie (length all)) os → All (λ (o : Object). is_name o.label ≡ true) os
      → All (λ (o : Object). AllBelow 256 o.bytes) os → AllFine (blocks_of all os)
  blocks_fine [] at low h links named small = tt
  blocks_fine (o ∷ os) at low h links named small =
      let a = and_parts (object_lies at o) (objects_lie (o.address + o.size) os) h in
      let l = lies o at (power_of o.align) (aligned_so o at a.0) a.0 in
      let begins = l.begins in
      let whole = l.whole in
      let high = l.high in
      let there = links_there o.size o.links (recursion_from_All (λ (k : Link). link_lies (length all) o.size k ≡ true) o.links links.0.0) in
      all_append Fine (block_of all o) (blocks_of all os)
      (align_fine o.align, (named.0, bytes_fine 0 0 o.links 0 o.bytes there small.0 (omega (arith, low, begins, whole, high))))
      (blocks_fine os (o.address + o.size) (omega (arith, low, begins)) a.1 links.1 named.1 small.1)

pub area_fine : (q : TreeProgram) → IsValid q → HasPlainObjects q → All Fine (area_of q.objects)
area_fine q valid plain =
    blocks_fine q.objects plain.labels q.objects 65536 (omega arith) valid.objects (recursion_from_All (LinksLie (length q.objects)) q.objects valid.links) plain.labels plain.bytes
