use Rattle.std.proofs.Common.{◌≡◌, ℕ, ◌+◌, List, [], ◌∷◌, length, Bool, true, false, cond, refl, ◌∙◌, rules, tests, arith}
use Rattle.std.specs.List.{filter}
use Rattle.std.specs.Str.{bytes_eq}
use Rattle.std.proofs.lemmas.Iterator.{YieldsList-from_slice}
use Rattle.std.proofs.lemmas.Iterator.Consumers.{YieldsList-from_filter, count_from_yields_List}
use Rattle.tree_core.specs.declared.program.TreeFn.{TreeFn}
use Rattle.tree_core.specs.Valid.{named}
use Rattle.tree_core.proofs.names.count_named.Goals as goal

abbrev has_name : List ℕ → TreeFn → Bool
has_name name f = bytes_eq f.name name

picked : (name : List ℕ) (fs : List TreeFn) → length (filter (has_name name) fs) ≡ named name fs
picked name [] = refl
picked name (f ∷ fs) = by (has_name name f) (picked name fs)
  where
    by : (b : Bool) → length (filter (has_name name) fs) ≡ named name fs
        → length (cond b (f ∷ filter (has_name name) fs) (filter (has_name name) fs)) ≡ cond b 1 0 + named name fs
    by true e = omega (arith, e)
    by false e = omega (arith, e)

pub returns : goal.returns
returns c =
    count_from_yields_List c.filter.result c.count.result c.count.ensures.ran
    (YieldsList-from_filter _ (has_name c.args.name.now) (YieldsList-from_slice c.args.functions.now cc) c.filter.ensures.closure (λ x b q k. search (rules, tests)))
    ∙ picked c.args.name.now c.args.functions.now
