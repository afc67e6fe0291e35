-- What follows from what was found follows from more.
use Rattle.std.proofs.Common.{ℕ, List}
use Rattle.md_reader.specs.declared.types.Sym.{Sym}
use Rattle.lr_check_sets.specs.Automaton.{Automaton}
use Rattle.lr_check_found.specs.declared.places.Place.{Place}
use Rattle.lr_check_found.specs.declared.places.Origin.{Origin}
use Rattle.lr_check_found.specs.declared.settlings.How.{How}
use Rattle.lr_check_found.specs.declared.settlings.Item.{Item}
use Rattle.lr_check_found.specs.declared.settlings.Item.TheVariants as item
use Rattle.lr_check_found.specs.Found.{FoundView, SumAt, Grows}
use Rattle.lr_check_found.specs.Items.{Begun, root, only, first, second, Made, leaf, one, two, made_by_reduction, HasMade, IsItem}

pub grows_same : (f : FoundView) → Grows f f
grows_same f = record { lists = λ n s e. e; places = λ n x e. e; settlings = λ i e h. h }

pub grows_both : (f g h : FoundView) → Grows f g → Grows g h → Grows f h
grows_both f g h a b = record {
  lists = λ n s e. b.lists n s (a.lists n s e);
  places = λ n x e. b.places n x (a.places n x e);
  settlings = λ i e k. b.settlings i e (a.settlings i e k);
}

module _ (A : Automaton) (f g : FoundView) (more : Grows f g) where
  pub sum_grows : {i : ℕ} {y : Place} {s : List Sym} {p : ℕ} → SumAt f i y s p → SumAt g i y s p
  sum_grows {i = i} {y = y} {s = s} {p = p} h = record {
    entry = h.entry;
    there = more.settlings i h.entry h.there;
    place = more.places h.entry.place y h.place;
    list = more.lists h.entry.list s h.list;
    behind = h.behind;
    is_sum = h.is_sum;
  }

  pub begun_grows : (x : Place) (o : Origin) → Begun A f x o → Begun A g x o
  begun_grows x _ (root h) = root h
  begun_grows x _ (only {i = i} {y = y} there h k) = only (more.places i y there) h k
  begun_grows x _ (first {i = i} {y = y} m there h k may) = first m (more.places i y there) h k may
  begun_grows x _ (second {i = i} {y = y} there h sum fit k) = second (more.places i y there) h (sum_grows sum) fit k

  pub made_grows : (n : ℕ) (x : Place) (h : How) (s : List Sym) → Made A f n x h s → Made A g n x h s
  made_grows n x _ _ (leaf go kid) = leaf go kid
  made_grows n x _ _ (one h sum k) = one h (sum_grows sum) k
  made_grows n x _ _ (two h sum k sum' k') = two h (sum_grows sum) k (sum_grows sum') k'
  made_grows n x _ _ (made_by_reduction {i = i} {s = s} e r there same list behind free size) =
      made_by_reduction e r (more.settlings i e there) same (more.lists e.list s list) behind free size

  pub has_made_grows : (n : ℕ) (h : How) → HasMade A f n h → HasMade A g n h
  has_made_grows n h m = record { place = m.place; list = m.list; there = more.places n m.place m.there; made = made_grows n m.place h m.list m.made }

  pub item_grows : (i : Item) → IsItem A f i → IsItem A g i
  item_grows (item.Place x o) h = begun_grows x o h
  item_grows (item.Settling n h) m = has_made_grows n h m
