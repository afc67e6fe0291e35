use Rattle.std.proofs.Common.{rules, ◌≡◌, ◌∙◌, ◌↔◌, ◌+◌, ◌++◌, ◌∷◌, [], ℕ, suc, Bool, true, false, List, length, length-append, reverse, refl, sym, ap, subst, arith}
use Rattle.std.specs.Prelude.{slice_index_or}
use Rattle.std.proofs.lemmas.Grind.{common_steps}
use Rattle.vax_core.specs.declared.code.CodeItem.{CodeItem}
use Rattle.vax_passes.proofs.Thinning.{thinned_valid, same_code}
use Rattle.vax_codes.specs.Carry.{MayRead}
use Rattle.vax_codes.proofs.Testing.{taken_off, at_end, drops_needless_tests, dropped_alike}
use Rattle.vax_codes.proofs.needless_test.NeedlessTestPass.rewrite.Goals as goal

pub overflow_add-place : goal.overflow_add-place
overflow_add-place c =
    let left : c.loop-item.left.items ≡ c.pop.new.self.items ++ c.in-Some.item ∷ [] = search (rules, common_steps) in
    let one : length c.loop-item.left.items ≡ length c.pop.new.self.items + 1 = ap length left ∙ length-append c.pop.new.self.items (c.in-Some.item ∷ []) in
    let same = ap length c.as_slice.ensures in
    omega (arith, c.loop-item.invariant.each, one, same, c.in_ok-reads.ensures.each, c.in_ok-reads.reads.ok.0, c.in_ok-reads.reads.ok.1, c.in_ok-reads.reads.small)

pub loop-item-preserved : goal.loop-item-preserved
loop-item-preserved c =
    let left : c.loop-item.left.items ≡ c.pop.new.self.items ++ c.in-Some.item ∷ [] = search (rules, common_steps) in
    let one : length c.loop-item.left.items ≡ length c.pop.new.self.items + 1 = ap length left ∙ length-append c.pop.new.self.items (c.in-Some.item ∷ []) in
    let on : suc c.loop-item.place ≡ c.loop-item.place + 1 = omega arith in
    record {
      same = taken_off (λ (p : ℕ). slice_index_or c.in_ok-reads.reads.items p false) c.loop-item.left.items c.pop.new.self.items c.in-Some.item
          c.loop-item.kept.items c.keep.new.kept.items c.loop-item.place
          c.loop-item.self.made c.keep.new.self.made _ left
          (c.in_ok-keep.ensures.kept (λ (p : ℕ). slice_index_or c.in_ok-reads.reads.items p false) c.loop-item.place (reverse c.pop.new.self.items)
          (ap (λ (n : ℕ). slice_index_or c.in_ok-reads.reads.items n false) on
          ∙ ap (λ (xs : List Bool). slice_index_or xs (c.loop-item.place + 1) false) (sym c.deref.ensures.value)
          ∙ sym c.read_at-read.ensures))
          c.loop-item.invariant.same;
      each = omega (arith, c.loop-item.invariant.each, one);
      rises = search rules;
    }

pub returns-clause-wrote : goal.returns-clause-wrote
returns-clause-wrote c =
    let empty : c.loop-item.left.items ≡ [] = search (rules, common_steps) in
    drops_needless_tests (λ (p : ℕ). slice_index_or c.in_ok-reads.reads.items p false) c.args.self.now.made c.loop-item.self.made c.args.code
    (record { area = c.args.code.area; items = c.from_vec.result }) refl
    (subst (λ (cs : List CodeItem). (p : ℕ) → (slice_index_or c.in_ok-reads.reads.items p false ≡ true) ↔ MayRead cs p) c.as_slice.ensures c.in_ok-reads.ensures.read)
    (at_end (λ (p : ℕ). slice_index_or c.in_ok-reads.reads.items p false) c.loop-item.left.items c.loop-item.kept.items c.from_vec.result c.loop-item.place c.loop-item.self.made _ empty
    c.from_vec.ensures c.loop-item.invariant.same)

pub returns-clause-valid : goal.returns-clause-valid
returns-clause-valid c = let w = returns-clause-wrote c in thinned_valid w.thinned.number _ _ w.thinned.area w.thinned.items c.requires

pub returns-clause-alike : goal.returns-clause-alike
returns-clause-alike c =
    let empty : c.loop-item.left.items ≡ [] = search (rules, common_steps) in
    dropped_alike (λ (p : ℕ). slice_index_or c.in_ok-reads.reads.items p false) c.args.self.now.made c.loop-item.self.made c.args.code
    (record { area = c.args.code.area; items = c.from_vec.result }) refl
    (subst (λ (cs : List CodeItem). (p : ℕ) → (slice_index_or c.in_ok-reads.reads.items p false ≡ true) ↔ MayRead cs p) c.as_slice.ensures c.in_ok-reads.ensures.read)
    (at_end (λ (p : ℕ). slice_index_or c.in_ok-reads.reads.items p false) c.loop-item.left.items c.loop-item.kept.items c.from_vec.result c.loop-item.place c.loop-item.self.made _ empty
    c.from_vec.ensures c.loop-item.invariant.same)
    c.requires

pub returns-clause-same : goal.returns-clause-same
returns-clause-same c = λ e. same_code _ _ _ _ (returns-clause-wrote c).thinned e
