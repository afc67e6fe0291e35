-- All premises can be met: one program and its code.
use Rattle.std.proofs.Common.{◌≡◌, ℕ, ◌+◌, ◌≤◌, Bool, true, false, cond, List, [], ◌∷◌, refl, ap, arith}
use Rattle.std.specs.Prelude.{codes, nat_lt, ◌&&◌, ◌||◌}
use Rattle.std.proofs.lemmas.Bool.{ne_eqb}
use Rattle.std.specs.Str.{bytes_eq}
use Rattle.std.proofs.lemmas.List.Elements.{All-nil, All-from_recursion}
use Rattle.vax_machine.specs.Loading.{Loads}
use Rattle.tree_core.specs.declared.token.Tok.TheVariants as tok
use Rattle.tree_core.specs.declared.tree.Att.TheVariants as att
use Rattle.tree_core.specs.declared.tree.Leaf.{Leaf}
use Rattle.tree_core.specs.declared.program.TreeItem.{TreeItem}
use Rattle.tree_core.specs.declared.program.TreeItem.TheVariants as tree_item
use Rattle.tree_core.specs.Attributes.{end_leaf}
use Rattle.tree_core.specs.Trees.{none, tree}
use Rattle.tree_core.specs.Items.{nothing, other, call}
use Rattle.tree_core.specs.Labels.{TargetsStand}
use Rattle.tree_core.specs.Valid.{PushesStand, main_takes_nothing, leaf_names, ItemStands, ItemsStand, WantedStand, LinksLie, IsValid}
use Rattle.vax_core.specs.First.{putchar_name, imm, in_reg}
use Rattle.vax_core.specs.declared.register.Reg.TheVariants.{R0}
use Rattle.vax_core.specs.declared.operand.Operand.{Operand}
use Rattle.vax_core.specs.declared.op.OperandKind.{OperandKind}
use Rattle.vax_core.specs.Registers.{operands_name}
use Rattle.vax_core.specs.Valid.{is_base}
use Rattle.vax_homes_items.specs.vax_homes_law.specs.Alike.{FitsArguments, MayHome}
use Rattle.vax_frames_law.specs.vax_frames.specs.Frames.{end_code}
use Rattle.gg_compile_law.specs.Demo.{demo_main, demo, push_code, call_code, demo_body, demo_code, DemoFollows}
use Rattle.gg_compile_law.specs.Areas.{none as no_blocks}
use Rattle.gg_compile_law.specs.Assembled.{nothing as nothing_of, root as root_of, none as no_more, more, IsAssembled}
use Rattle.gg_compile_law.proofs.Simple.{push_effect, putchar_effect, return_effect}
use Rattle.gg_compile_law.proofs.Assembling.{assembled_follow}

demo_loads : Loads demo_code
demo_loads = refl

abbrev stands : TreeItem → Type 0
stands i = ItemStands (demo_main ∷ []) 0 demo_main i

abbrev names : Leaf → Type 0
names l = leaf_names (demo_main ∷ []) 0 demo_main l ≡ true

push_stands : stands (tree_item.Root (record { tok = tok.Push; att = att.Nothing } ∷ (record { tok = tok.Const; att = att.Number 72 } ∷ (end_leaf ∷ []))))
push_stands = (
  record { trees = tree (record { tok = tok.Push; att = att.Nothing }) (tree (record { tok = tok.Const; att = att.Number 72 }) none none) none; typed = (refl, (refl, tt, tt), tt); spelled = refl },
  All-from_recursion names (record { tok = tok.Push; att = att.Nothing } ∷ (record { tok = tok.Const; att = att.Number 72 } ∷ (end_leaf ∷ []))) (refl, (refl, (refl, tt))),
)

call_stands : stands (tree_item.Root (record { tok = tok.Call; att = att.Callee 1 1 } ∷ (end_leaf ∷ [])))
call_stands = (
  record { trees = tree (record { tok = tok.Call; att = att.Callee 1 1 }) none none; typed = (refl, tt, tt); spelled = refl },
  All-from_recursion names (record { tok = tok.Call; att = att.Callee 1 1 } ∷ (end_leaf ∷ [])) (refl, (refl, tt)),
)

ret_stands : stands (tree_item.Root (record { tok = tok.Ret; att = att.Nothing } ∷ (record { tok = tok.Zero; att = att.Number 0 } ∷ (end_leaf ∷ []))))
ret_stands = (
  record { trees = tree (record { tok = tok.Ret; att = att.Nothing }) (tree (record { tok = tok.Zero; att = att.Number 0 }) none none) none; typed = (refl, (refl, tt, tt), tt); spelled = refl },
  All-from_recursion names (record { tok = tok.Ret; att = att.Nothing } ∷ (record { tok = tok.Zero; att = att.Number 0 } ∷ (end_leaf ∷ []))) (refl, (refl, (refl, tt))),
)

demo_valid : IsValid demo
demo_valid = record {
  names =
      record {
        one_main = refl;
        main_args = All-from_recursion (λ f. main_takes_nothing f ≡ true) (demo_main ∷ []) (refl, tt);
        no_putchar = refl;
        no_getchar = refl;
        differ = λ name. once name
            (bytes_eq (codes "main") name);
      };
  roots = All-from_recursion (ItemsStand (demo_main ∷ []) 0) (demo_main ∷ []) (All-from_recursion stands demo_main.items (push_stands, (call_stands, (ret_stands, tt))), tt);
  wanted = All-from_recursion WantedStand (demo_main ∷ []) ((All-nil (λ n. nat_lt n 0 ≡ true), λ n. omega arith), tt);
  labels_once = λ n. omega arith;
  targets = All-from_recursion TargetsStand (demo_main ∷ []) ((λ n lt. lt), tt);
  calls = All-from_recursion PushesStand (demo_main ∷ []) (call (_ ∷ []) _ _ _ (refl, tt) refl (other _ _ refl nothing) refl, tt);
  objects = refl;
  links = All-from_recursion (LinksLie 0) [] tt;
}
  where
    once : (name : List ℕ) (b : Bool) → cond b 1 0 + 0 ≤ 1
    once name true = omega arith
    once name false = omega arith

-- without homes an operand need be valid alone
plain_operand : {k : OperandKind} (o : Operand) → is_base o.base ≡ true → FitsArguments 0 o.base → MayHome [] 0 k o
plain_operand o valid fits = record { valid = valid; unnamed = λ g has. absurd has; spared = λ g has. absurd has; fits = fits }

-- r0 isn't among r2 to r11
not_zero : (r : ℕ) → 2 ≤ r → operands_name (in_reg R0 ∷ []) r ≡ false
not_zero r low = ap (λ (b : Bool). ((b && nat_lt r 12) || false) || false) (ne_eqb 0 r (λ e. omega (arith, e, low)))

demo_is : IsAssembled demo demo_code
demo_is = record {
  valid = demo_valid;
  loads = demo_loads;
  functions = more demo_main [] _ []
      (record {
        layout = record { words = 0; mask = 0; homes = [] };
        body = demo_body;
        locals = omega arith;
        few = omega arith;
        is_mask = record { low = refl; high = omega arith };
        are_homes = record {
          paired = record { low = λ h has. absurd has; high = λ h has. absurd has; registers = λ g h has. absurd has; locals = λ g h has. absurd has };
          fits = λ h has. absurd has;
        };
        is_body = root_of _ _ (push_code 72) _
            (record { effect = push_effect demo 0 0 0 72 (omega arith); ready = ((plain_operand (imm 72) refl tt, tt), tt); named = (λ r low high out. refl, tt) })
            (root_of _ _ (call_code 1 putchar_name) _
            (record { effect = putchar_effect demo 0 0 0; ready = ((plain_operand (imm 1) refl tt, tt), tt); named = (λ r low high out. refl, tt) })
            (root_of _ _ end_code []
            (record {
              effect = return_effect demo 0 0 0;
              ready = ((plain_operand (in_reg R0) refl tt, tt), (tt, tt));
              named = (λ r low high out. not_zero r low, (λ r low high out. refl, tt));
            }) nothing_of));
        part_is = refl;
      })
      no_more;
  blocks = no_blocks;
}

pub demo_follows : DemoFollows
demo_follows = assembled_follow demo demo_code demo_is
