use Rattle.std.proofs.Common.{rules, ◌≡◌, ◌+◌, ℕ, List, [], ◌∷◌, Bool, true, false, cond, length, map, filter, zip, refl, ap, arith}
use Rattle.std.specs.Prelude.{slice_index_or}
use Rattle.std.specs.List.{range_with_len}
use Rattle.std.proofs.lemmas.Iterator.{YieldsList-from_slice, YieldsList-from_range, YieldsList-from_zip, YieldsList-from_map}
use Rattle.std.proofs.lemmas.Iterator.Adapters.{items_from_extend}
use Rattle.std.proofs.lemmas.Iterator.Consumers.{YieldsList-at, YieldsList-from_filter}
use borrow.Author.Tests.{tests}
use Rattle.md_reader.specs.declared.types.Rule.{Rule}
use Rattle.lr_tables.specs.declared.item.Item.{Item}
use Rattle.lr_tables.specs.Items.{fresh}
use Rattle.lr_tables.specs.Sets.{opened_from}
use Rattle.lr_tables.proofs.sets.open.Goals as goal

-- whether a numbered rule's class is marked
abbrev is_marked : List Bool → ℕ × Rule → Bool
is_marked m p = slice_index_or m p.1.left false

abbrev first_of : ℕ × Rule → Item
first_of p = fresh p.0

opened_numbered : (m : List Bool) (n : ℕ) (rs : List Rule) → map first_of (filter (is_marked m) (zip (range_with_len n (length rs)) rs)) ≡ opened_from n rs m
opened_numbered m n [] = refl
opened_numbered m n (r ∷ rs) = by (filter (is_marked m) (zip (range_with_len (n + 1) (length rs)) rs)) (slice_index_or m r.left false) (opened_numbered m (n + 1) rs)
  where
    by : (later : List (ℕ × Rule)) (b : Bool) → map first_of later ≡ opened_from (n + 1) rs m → map first_of (cond b ((n, r) ∷ later) later)
        ≡ cond b (fresh n ∷ opened_from (n + 1) rs m) (opened_from (n + 1) rs m)
    by later true e = ap (λ k. fresh n ∷ k) e
    by later false e = e

pub returns : goal.returns
returns c =
    let all = c.args.rules.now in
    let h = items_from_extend c.extend.result c.extend.ensures.ran
    (YieldsList-from_map _ first_of (YieldsList-at c.map-opened.ensures.source
    (YieldsList-from_filter _ (is_marked c.args.set.now) (YieldsList-at c.filter.ensures.source
    (YieldsList-from_zip (YieldsList-from_range 0 (length all) (length all) c.zip.ensures.first (omega arith)) (YieldsList-from_slice all cc)))
    c.filter.ensures.closure (λ x r q k. search (rules, tests))))
    c.map-opened.ensures.closure (λ x r q k. search (rules, tests))) in
    let z = opened_numbered c.args.set.now 0 all in
    search (rules, h, z)
