-- The pattern's act is the tree's deed.
use Rattle.std.proofs.Common.{◌≡◌, ℕ, List, [], ◌++◌, Option, Some, None, Bool, true, false, refl, ap, slice_get}
use Rattle.gg_base.specs.declared.size.Size.{Size}
use Rattle.gg_base.specs.declared.size.Size.TheVariants as sizes
use Rattle.gg_base.specs.declared.relation.Rel.{Rel}
use Rattle.tree_core.specs.declared.token.Tok.{Tok}
use Rattle.tree_core.specs.declared.token.Tok.TheVariants as tok
use Rattle.tree_core.specs.declared.token.Sort.TheVariants as sort
use Rattle.tree_core.specs.declared.tree.Att.{Att}
use Rattle.tree_core.specs.declared.tree.Att.TheVariants as att
use Rattle.tree_core.specs.declared.program.Object.{Object}
use Rattle.tree_core.specs.Attributes.{attribute_of, is_of_kind}
use Rattle.tree_core.specs.Grammar.{kids, sort_of}
use Rattle.tree_core.specs.Trees.{sort_fits}
use Rattle.tree_meaning.specs.declared.value.Value.{Value}
use Rattle.tree_meaning.specs.declared.value.Value.TheVariants.{Number, ZeroDivisor, Wild}
use Rattle.tree_meaning.specs.declared.value.Meaning.{Meaning}
use Rattle.tree_meaning.specs.declared.value.Meaning.TheVariants.{Of, Local, Argument, Memory}
use Rattle.tree_meaning.specs.Values.{Sight, kid}
use Rattle.sel_terms_meaning.specs.md_reader.specs.declared.types.Kind.TheVariants as kind
use Rattle.term_core.specs.Shape.{Shape}
use Rattle.term_core.specs.Value.{State}
use Rattle.sel_terms_meaning.specs.sel_terms.specs.declared.role.OneRole.TheVariants as one_role
use Rattle.sel_terms_meaning.specs.sel_terms.specs.declared.role.TwoRole.TheVariants as two_role
use Rattle.sel_terms_meaning.specs.sel_terms.specs.Parts.{PartShape, SubtreeShape, Worth, Home, At, Does, role_of_token, value_of}
use Rattle.sel_terms_meaning.specs.sel_terms.specs.Wanted.{one, two, first_part}
use Rattle.sel_terms_meaning.specs.sel_terms.specs.Reading.{below, step}
use Rattle.tree_meaning.specs.Deeds.{Deed, Puts, Branches, Pushes, Returns, Traps, Strays, given, assigned, branched, deed_of}
use Rattle.sel_terms_trees.specs.Senses.{Sense, OfLeaf, sense_at, att_of}
use Rattle.sel_terms_trees.specs.Effects.{IsKnown, DoesBy, TrapsBy}
use Rattle.sel_terms_meaning.specs.term_core_accesses.specs.Accesses.{Safe}
use Rattle.sel_terms_meaning.specs.Meaning.{AllSafe, divides_by_zero}
use Rattle.sel_terms_trees.proofs.Worths.{none_joined, some_first, some_second, safe_joined, weak, all_weak}
use Rattle.sel_terms_trees.proofs.Tokens.{IsOf, IsSpot, IsZeroSpot, IsAtSome, Each}
use Rattle.sel_terms_trees.proofs.Rules.{effect_by}

module _ (objects : List Object) (s : Sight) (all : List Sense) (m : State) where
  -- a part is the act of the deed
  abbrev pub ActIs : SubtreeShape → Deed → Type 0
  ActIs p Traps = TrapsBy objects s all (effect_by (Some kind.Nothing) p) m
  ActIs p Strays = Unit {0}
  ActIs p d = DoesBy objects s all (effect_by (Some kind.Nothing) p) d m

  safe_of : (p : SubtreeShape) (v : Value) → IsOf objects s all m p v → Safe false (IsKnown objects s all) s.area m (value_of p.part)
  safe_of p (Number n) h = weak m (IsKnown objects s all) s.area (value_of p.part) h.safe
  safe_of p ZeroDivisor h = h.safe
  safe_of p Wild h = absurd h

  safes_of : (p : SubtreeShape) (v : Value) → IsOf objects s all m p v → AllSafe false (IsKnown objects s all) s.area m p.divisors
  safes_of p (Number n) h = all_weak m (IsKnown objects s all) s.area p.divisors h.divisors
  safes_of p ZeroDivisor h = h.divisors
  safes_of p Wild h = absurd h

  both_safe : (every : Bool) (ds es : List Shape) → AllSafe every (IsKnown objects s all) s.area m ds → AllSafe every (IsKnown objects s all) s.area m es
      → AllSafe every (IsKnown objects s all) s.area m ((ds ++ es) ++ [])
  both_safe every ds es h k = safe_joined m every (IsKnown objects s all) s.area (ds ++ es) [] (safe_joined m every (IsKnown objects s all) s.area ds es h k) tt

  first_zero : (ds es : List Shape) → divides_by_zero m ds ≡ true → divides_by_zero m ((ds ++ es) ++ []) ≡ true
  first_zero ds es e = some_first m (ds ++ es) [] (some_first m ds es e)

  second_zero : (ds es : List Shape) → divides_by_zero m es ≡ true → divides_by_zero m ((ds ++ es) ++ []) ≡ true
  second_zero ds es e = some_first m (ds ++ es) [] (some_second m ds es e)

  no_zero : (ds es : List Shape) → divides_by_zero m ds ≡ false → divides_by_zero m es ≡ false → divides_by_zero m ((ds ++ es) ++ []) ≡ false
  no_zero ds es e f = none_joined m (ds ++ es) [] (none_joined m ds es e f) refl

  module _ (i : ℕ) (q : SubtreeShape) where
    -- a place of which the address divides by zero
    zero_store : (part : PartShape) (ds : List Shape) (v : Value) → IsZeroSpot objects s all m (record { part = part; divisors = ds }) → IsOf objects s all m q v
        → ActIs (two i two_role.Assign (record { part = part; divisors = ds }) q) Traps
    zero_store (At z a) ds v h k = record { divides = first_zero ds q.divisors h.divides; safe = (h.ill.1, safe_of q v k); divisors = both_safe false ds q.divisors h.divisors (safes_of q v k) }
    zero_store _ ds v h k = absurd h.ill

    spot_store : (part : PartShape) (ds : List Shape) (g : Meaning) (v : Value) → IsSpot objects s all m (record { part = part; divisors = ds }) g → IsOf objects s all m q v
        → ActIs (two i two_role.Assign (record { part = part; divisors = ds }) q) (given v (Puts g))
    spot_store (Worth t) ds g v h k = absurd h.place
    spot_store (Does a) ds g v h k = absurd h.place
    spot_store (Home z j) ds g (Number n) h k =
        record { divides = no_zero ds q.divisors h.divides k.divides; does = (h.place.0, h.place.1, k.worth); safe = k.safe; divisors = both_safe true ds q.divisors h.divisors k.divisors }
    spot_store (Home z j) ds g ZeroDivisor h k =
        record { divides = second_zero ds q.divisors k.divides; safe = k.safe; divisors = both_safe false ds q.divisors (all_weak m (IsKnown objects s all) s.area ds h.divisors) k.divisors }
    spot_store (Home z j) ds g Wild h k = tt
    spot_store (At z a) ds g (Number n) h k =
        record { divides = no_zero ds q.divisors h.divides k.divides; does = (h.place.0, k.worth); safe = (h.place.1, k.safe); divisors = both_safe true ds q.divisors h.divisors k.divisors }
    spot_store (At z a) ds g ZeroDivisor h k =
        record {
          divides = second_zero ds q.divisors k.divides;
          safe = (weak m (IsKnown objects s all) s.area a h.place.1, k.safe);
          divisors = both_safe false ds q.divisors
              (all_weak m (IsKnown objects s all) s.area ds h.divisors) k.divisors;
        }
    spot_store (At z a) ds g Wild h k = tt

    assign_law : (z : Size) (p : SubtreeShape) (o : Option Meaning) (v : Value) → IsAtSome objects s all m z p o → IsOf objects s all m q v → ActIs (two i two_role.Assign p q) (assigned o v)
    assign_law z p None v h k = absurd h
    assign_law z p (Some (Of (Number n))) v h k = tt
    assign_law z p (Some (Of ZeroDivisor)) v h k = zero_store p.part p.divisors v h.0 k
    assign_law z p (Some (Of Wild)) v h k = tt
    assign_law z p (Some (Local j)) v h k = spot_store p.part p.divisors (Local j) v h.0 k
    assign_law z p (Some (Argument j)) v h k = spot_store p.part p.divisors (Argument j) v h.0 k
    assign_law z p (Some (Memory y a)) v h k = spot_store p.part p.divisors (Memory y a) v h.0 k

    compared : (p : SubtreeShape) (rel : Rel) (label : ℕ) (v w : Value) → att_of (sense_at all i) ≡ att.Branch rel label → IsOf objects s all m p v → IsOf objects s all m q w
        → ActIs (two i two_role.Branch p q) (given v (λ x. given w (λ y. Branches rel label x y)))
    compared p rel label (Number x) (Number y) e h k =
        record {
          divides = no_zero p.divisors q.divisors h.divides k.divides;
          does = (e, h.worth, k.worth);
          safe =
              (h.safe, k.safe);
          divisors = both_safe true p.divisors q.divisors h.divisors k.divisors;
        }
    compared p rel label (Number x) ZeroDivisor e h k =
        record {
          divides = second_zero p.divisors q.divisors k.divides;
          safe =
              (weak m (IsKnown objects s all) s.area (value_of p.part) h.safe, k.safe);
          divisors =
              both_safe false p.divisors q.divisors (all_weak m (IsKnown objects s all) s.area p.divisors h.divisors) k.divisors;
        }
    compared p rel label (Number x) Wild e h k = tt
    compared p rel label ZeroDivisor w e h k =
        record { divides = first_zero p.divisors q.divisors h.divides; safe = (h.safe, safe_of q w k); divisors = both_safe false p.divisors q.divisors h.divisors (safes_of q w k) }
    compared p rel label Wild w e h k = tt

  pushed_law : (p : SubtreeShape) (v : Value) → IsOf objects s all m p v → ActIs (one one_role.Push p) (given v Pushes)
  pushed_law p (Number n) h = record { divides = h.divides; does = h.worth; safe = h.safe; divisors = h.divisors }
  pushed_law p ZeroDivisor h = record { divides = h.divides; safe = h.safe; divisors = h.divisors }
  pushed_law p Wild h = tt

  returned_law : (p : SubtreeShape) (v : Value) → IsOf objects s all m p v → ActIs (one one_role.Return p) (given v Returns)
  returned_law p (Number n) h = record { divides = h.divides; does = h.worth; safe = h.safe; divisors = h.divisors }
  returned_law p ZeroDivisor h = record { divides = h.divides; safe = h.safe; divisors = h.divisors }
  returned_law p Wild h = tt

  branch_law : (a : Att) (i : ℕ) (p q : SubtreeShape) (v w : Value) → att_of (sense_at all i) ≡ a → is_of_kind (attribute_of tok.Cbr) a ≡ true → IsOf objects s all m p v
      → IsOf objects s all m q w → ActIs (two i two_role.Branch p q) (branched a v w)
  branch_law (att.Branch rel label) i p q v w e f h k = compared i q p rel label v w e h k
  branch_law _ i p q v w e f h k = absurd (cc)

  -- the act of a statement's token
  pub act_law : (t : Tok) (a : Att) (st rest : List SubtreeShape) (gs : List Meaning) → sort_fits (sort_of t) sort.Stmt ≡ true → is_of_kind (attribute_of t) a ≡ true
      → sense_at all 1 ≡ OfLeaf (record { tok = t; att = a }) → Each objects s all m (kids t) st gs 0 rest →
      ActIs (first_part (step 1 (role_of_token t) st)) (deed_of s t a (slice_get gs 0) (slice_get gs 1))
  act_law tok.AssignB a st rest gs c f is e = assign_law 1 (first_part (below st)) sizes.Byte (first_part st) (slice_get gs 0) (kid s (slice_get gs 1)) e.0 e.1.0
  act_law tok.AssignW a st rest gs c f is e = assign_law 1 (first_part (below st)) sizes.Word (first_part st) (slice_get gs 0) (kid s (slice_get gs 1)) e.0 e.1.0
  act_law tok.AssignL a st rest gs c f is e = assign_law 1 (first_part (below st)) sizes.Long (first_part st) (slice_get gs 0) (kid s (slice_get gs 1)) e.0 e.1.0
  act_law tok.Cbr a st rest gs c f is e = branch_law a 1 (first_part st) (first_part (below st)) (kid s (slice_get gs 0)) (kid s (slice_get gs 1)) (ap att_of is) f e.0 e.1.0
  act_law tok.Push a st rest gs c f is e = pushed_law (first_part st) (kid s (slice_get gs 0)) e.0
  act_law tok.Ret a st rest gs c f is e = returned_law (first_part st) (kid s (slice_get gs 0)) e.0
  act_law tok.Call (att.Callee g n) st rest gs c f is e = record { divides = refl; does = ap att_of is; safe = tt; divisors = tt }
  act_law tok.Save (att.Slot n) st rest gs c f is e = record { divides = refl; does = ap att_of is; safe = tt; divisors = tt }
  act_law tok.Jump (att.Label n) st rest gs c f is e = record { divides = refl; does = ap att_of is; safe = tt; divisors = tt }
  act_law _ _ st rest gs c f is e = absurd (cc)
