-- What a question asks of an entry.
use Rattle.std.proofs.Common.{◌≡◌, ℕ, Option, Some, None, Bool, true, false, refl, ap, sym, ◌∙◌}
use Rattle.std.specs.Prelude.{◌&&◌}
use Rattle.tree_core.specs.declared.program.TreeProgram.{TreeProgram}
use Rattle.md_reader.specs.State.{Content}
use Rattle.lr_check_parse.specs.Attributes.{constant_at, relation_at, same_spelling}
use Rattle.md_reader.specs.Restrictions.{same_size}
use Rattle.sel_target.specs.Meaning.{Meaning}
use Rattle.sel_target.specs.Symbols.{constant_of, relation_of, size_of_entry}
use Rattle.sel_parse_desk.specs.Entries.{Entry, kind_in, spelled, same_operands}
use Rattle.sel_parse_desk.specs.Selected.{selecting}
use Rattle.sel_parse_desk.specs.Joined.{attr_in}

module _ {O I S F : Type 0} (of : Meaning O I S F) (q : TreeProgram) (d : Content) (first : ℕ) where
  pub constant_in : (o : Option (Entry O)) → constant_of q (attr_in o) ≡ constant_at (selecting of q d first) o
  constant_in None = refl
  constant_in (Some e) = refl

  pub relation_in : (o : Option (Entry O)) → relation_of (attr_in o) ≡ relation_at (selecting of q d first) o
  relation_in None = refl
  relation_in (Some e) = refl

  and_false : (b : Bool) → false ≡ b && false
  and_false true = refl
  and_false false = refl

  with_none : (o : Option O) → same_operands of o None ≡ false
  with_none None = refl
  with_none (Some x) = refl

  pub alike_in : (a b : Option (Entry O)) → same_spelling (selecting of q d first) a b
      ≡ (same_size (size_of_entry (kind_in a)) (size_of_entry (kind_in b)) && same_operands of (spelled of q (attr_in a)) (spelled of q (attr_in b)))
  alike_in None b = and_false (same_size (size_of_entry (kind_in {O = O} None)) (size_of_entry (kind_in b)))
  alike_in (Some a) None =
      let sizes = same_size (size_of_entry a.kind) (size_of_entry (kind_in {O = O} None)) in
      and_false sizes ∙ sym (ap (λ (x : Bool). sizes && x) (with_none (spelled of q a.attr)))
  alike_in (Some a) (Some b) = refl
