-- Whatever is to be read can be read to the end.
use Rattle.std.proofs.Common.{ℕ, ◌+◌, List, [], ◌∷◌, refl, subst, arith, inl}
use Rattle.std.specs.Prelude.{None, true, false}
use Rattle.c_tokens.specs.declared.token.Token.TheVariants as token
use Rattle.c_tokens.specs.declared.words.Key.TheVariants as keys
use Rattle.c_tokens.specs.declared.marks.Mark.TheVariants as marks
use Rattle.c_phrases.specs.declared.operator.Spec.TheVariants as specs
use Rattle.c_phrases.specs.declared.operator.Storage.TheVariants as storages
use Rattle.c_phrases.specs.Classes.{word, sign}
use Rattle.c_phrases.specs.Phrases.{AnExp, name, number, paren, sizeof_exp, no_exps, exps}
use Rattle.c_phrases.specs.Units.{value, elements, ADeclarator, empty, if_then, no_items, no_params, globals, AUnit}
use Rattle.c_syntax_goals.specs.Openings.{Opening, opens, plain}
use Rattle.c_syntax_goals.specs.Goals.{Goal, Val, Stack, Done, Want, Expr, Commas, Assign, Cond, Cast, Unary, Primary}
use Rattle.c_syntax_goals.specs.Goals.{Parens, CallTail, PostTail, Ended, Tail, First, Group, SizeofTail, SizeofGroup}
use Rattle.c_syntax_goals.specs.Goals.{Arguments, MoreArguments, Back, WantParen, WantBracket, WantColon, WantSemi}
use Rattle.c_syntax_goals.specs.Goals.{WantWhile, TypeWords, AfterShort, AfterUnsigned, Stars, Condition, Simple}
use Rattle.c_syntax_goals.specs.Goals.{Statement, Items, PartSemi, PartParen, ForOpen, ElsePart, Local}
use Rattle.c_syntax_goals.specs.Goals.{DeclaratorName, ArrayPart, Length, InitPart, Init, Elements, InitMore}
use Rattle.c_syntax_goals.specs.Goals.{InitNext, MoreDeclarators, DeclaredName, AfterName, Body, Params, OptName}
use Rattle.c_syntax_goals.specs.Goals.{MoreParams, External, Whole}
use Rattle.c_syntax_goals.proofs.Yields.{open_paren, close_paren, close_bracket, close_brace, semi, NoElse, Yields}
use Rattle.c_syntax_goals.proofs.Joins.{By, alone}

-- tokens that can be read to the end, and the unit that comes of them
pub record Completed (s : Stack) (n : ℕ) : Type 0 where
  pub words : List Opening
  pub unit : AUnit
  pub no_else : NoElse words
  pub is : Yields s n words unit

abbrev zero : AnExp
zero = number 0 0

abbrev zero_word : Opening
zero_word = plain (record { kind = token.Number 0; at = 0 })

abbrev int_word : Opening
int_word = plain (word keys.Int 0)

-- the name x
abbrev letter : List ℕ
letter = 120 ∷ []

abbrev letter_word : Opening
letter_word = plain (record { kind = token.Name letter; at = 0 })

abbrev bare_declarator : List ℕ → List ℕ → ℕ → ADeclarator
bare_declarator ats f at = record { stars = ats; name = f; at = at; length = None; init = None }

complete_goal : (g : Goal) (κ : Val g → Stack) (n : ℕ) → ((v : Val g) (m : ℕ) → Completed (κ v) m) → Completed (Want g κ) n
complete_goal Expr κ n f =
    let r = f zero n in
    record { words = zero_word ∷ r.words; unit = r.unit; no_else = λ e. absurd (cc); is = record { item = zero; rest = r.words; is = (refl, tt); onwards = r.is } }
complete_goal Assign κ n f =
    let r = f zero n in
    record { words = zero_word ∷ r.words; unit = r.unit; no_else = λ e. absurd (cc); is = record { item = zero; rest = r.words; is = (refl, tt); onwards = r.is } }
complete_goal Cond κ n f =
    let r = f zero n in
    record { words = zero_word ∷ r.words; unit = r.unit; no_else = λ e. absurd (cc); is = record { item = zero; rest = r.words; is = (refl, tt); onwards = r.is } }
complete_goal Cast κ n f =
    let r = f zero n in
    record { words = zero_word ∷ r.words; unit = r.unit; no_else = λ e. absurd (cc); is = record { item = zero; rest = r.words; is = (refl, tt); onwards = r.is } }
complete_goal Unary κ n f =
    let r = f zero n in
    record { words = zero_word ∷ r.words; unit = r.unit; no_else = λ e. absurd (cc); is = record { item = zero; rest = r.words; is = (refl, tt); onwards = r.is } }
complete_goal Primary κ n f =
    let r = f zero n in
    record { words = zero_word ∷ r.words; unit = r.unit; no_else = λ e. absurd (cc); is = record { item = zero; rest = r.words; is = (refl, tt); onwards = r.is } }
complete_goal Parens κ n f =
    let r = f (paren 0 zero) n in
    record {
      words = opens (n + 1) (open_paren 0) ∷ zero_word ∷ close_paren ∷ r.words;
      unit = r.unit;
      no_else = λ e. absurd (cc);
      is =
          record { item = (paren 0 zero); rest = r.words; is = (refl, tt); onwards = r.is };
    }
complete_goal (Commas l) κ n f =
    let r = f l n in
    record { words = r.words; unit = r.unit; no_else = r.no_else; is = alone 0 0 l n r.words (By κ r.unit) (omega arith) r.is }
complete_goal (CallTail g at) κ n f =
    let r = f (name g at) n in
    record { words = r.words; unit = r.unit; no_else = r.no_else; is = record { item = (name g at); rest = r.words; is = (refl, tt); onwards = r.is } }
complete_goal (PostTail l) κ n f =
    let r = f l n in
    record { words = r.words; unit = r.unit; no_else = r.no_else; is = alone 15 15 l n r.words (By κ r.unit) (omega arith) r.is }
complete_goal Ended κ n f =
    let r = f tt n in
    record { words = r.words; unit = r.unit; no_else = r.no_else; is = r.is }
complete_goal (Tail true l) κ n f =
    let r = f l n in
    record { words = r.words; unit = r.unit; no_else = r.no_else; is = alone 14 1 l n r.words (By κ r.unit) (omega arith) r.is }
complete_goal (Tail false l) κ n f =
    let r = f l n in
    record { words = r.words; unit = r.unit; no_else = r.no_else; is = alone 3 2 l n r.words (By κ r.unit) (omega arith) r.is }
complete_goal (First o m) κ n f =
    let r = f (paren o zero) m in
    record { words = zero_word ∷ close_paren ∷ r.words; unit = r.unit; no_else = λ e. absurd (cc); is = λ q. record { item = paren o zero; rest = r.words; is = (refl, tt); onwards = r.is } }
complete_goal (Group o m) κ n f =
    let r = f (paren o zero) m in
    record { words = zero_word ∷ close_paren ∷ r.words; unit = r.unit; no_else = λ e. absurd (cc); is = λ q. record { item = paren o zero; rest = r.words; is = (refl, tt); onwards = r.is } }
complete_goal (SizeofTail at) κ n f =
    let r = f (sizeof_exp at zero) n in
    record {
      words = zero_word ∷ r.words;
      unit = r.unit;
      no_else = λ e. absurd (cc);
      is = λ b q.
          record { item = sizeof_exp at zero; rest = r.words; is = (refl, (omega arith, tt)); onwards = subst (λ (j : ℕ). Yields (κ (sizeof_exp at zero)) j r.words r.unit) q r.is };
    }
complete_goal (SizeofGroup at o m) κ n f =
    let r = f (sizeof_exp at (paren o zero)) m in
    record {
      words = zero_word ∷ close_paren ∷ r.words;
      unit = r.unit;
      no_else = λ e. absurd (cc);
      is = λ b p q.
          record {
            item = sizeof_exp at (paren o zero);
            rest = r.words;
            is = (refl, (omega arith, tt));
            onwards =
                subst (λ (j : ℕ). Yields (κ (sizeof_exp at (paren o zero))) j r.words r.unit) p r.is;
          };
    }
complete_goal Arguments κ n f =
    let r = f no_exps n in
    record { words = close_paren ∷ r.words; unit = r.unit; no_else = λ e. absurd (cc); is = record { item = no_exps; rest = r.words; is = (refl, tt); onwards = r.is } }
complete_goal MoreArguments κ n f =
    let r = f no_exps n in
    record { words = close_paren ∷ r.words; unit = r.unit; no_else = λ e. absurd (cc); is = record { item = no_exps; rest = r.words; is = (refl, tt); onwards = r.is } }
complete_goal (Back m) κ n f =
    let r = f tt m in
    record { words = r.words; unit = r.unit; no_else = r.no_else; is = r.is }
complete_goal WantParen κ n f =
    let r = f tt n in
    record { words = close_paren ∷ r.words; unit = r.unit; no_else = λ e. absurd (cc); is = record { item = tt; rest = r.words; is = refl; onwards = r.is } }
complete_goal WantBracket κ n f =
    let r = f tt n in
    record { words = close_bracket ∷ r.words; unit = r.unit; no_else = λ e. absurd (cc); is = record { item = tt; rest = r.words; is = refl; onwards = r.is } }
complete_goal WantColon κ n f =
    let r = f tt n in
    record { words = plain (sign marks.Colon 0) ∷ r.words; unit = r.unit; no_else = λ e. absurd (cc); is = record { item = tt; rest = r.words; is = refl; onwards = r.is } }
complete_goal WantSemi κ n f =
    let r = f tt n in
    record { words = semi ∷ r.words; unit = r.unit; no_else = λ e. absurd (cc); is = record { item = tt; rest = r.words; is = refl; onwards = r.is } }
complete_goal WantWhile κ n f =
    let r = f 0 n in
    record { words = plain (word keys.While 0) ∷ r.words; unit = r.unit; no_else = λ e. absurd (cc); is = record { item = 0; rest = r.words; is = refl; onwards = r.is } }
complete_goal TypeWords κ n f =
    let r = f (specs.Int 0) n in
    record { words = int_word ∷ r.words; unit = r.unit; no_else = λ e. absurd (cc); is = record { item = (specs.Int 0); rest = r.words; is = refl; onwards = r.is } }
complete_goal AfterShort κ n f =
    let r = f None n in
    record { words = r.words; unit = r.unit; no_else = r.no_else; is = record { item = None; rest = r.words; is = refl; onwards = r.is } }
complete_goal (AfterUnsigned at) κ n f =
    let r = f (specs.UnsignedChar at 0) n in
    record { words = plain (word keys.Char 0) ∷ r.words; unit = r.unit; no_else = λ e. absurd (cc); is = record { item = (specs.UnsignedChar at 0); rest = r.words; is = refl; onwards = r.is } }
complete_goal Stars κ n f =
    let r = f [] n in
    record { words = r.words; unit = r.unit; no_else = r.no_else; is = record { item = []; rest = r.words; is = refl; onwards = r.is } }
complete_goal Condition κ n f =
    let r = f (0, zero) n in
    record {
      words = opens (n + 1) (open_paren 0) ∷ zero_word ∷ close_paren ∷ r.words;
      unit = r.unit;
      no_else = λ e. absurd (cc);
      is =
          record { item = (0, zero); rest = r.words; is = (refl, tt); onwards = r.is };
    }
complete_goal Simple κ n f =
    let r = f empty n in
    record { words = semi ∷ r.words; unit = r.unit; no_else = λ e. absurd (cc); is = record { item = empty; rest = r.words; is = (refl, (tt, inl tt)); onwards = r.is } }
complete_goal Statement κ n f =
    let r = f empty n in
    record { words = semi ∷ r.words; unit = r.unit; no_else = λ e. absurd (cc); is = record { item = empty; rest = r.words; is = (refl, (tt, inl tt)); onwards = r.is } }
complete_goal Items κ n f =
    let r = f no_items n in
    record { words = close_brace ∷ r.words; unit = r.unit; no_else = λ e. absurd (cc); is = record { item = no_items; rest = r.words; is = (refl, tt); onwards = r.is } }
complete_goal PartSemi κ n f =
    let r = f None n in
    record { words = semi ∷ r.words; unit = r.unit; no_else = λ e. absurd (cc); is = record { item = None; rest = r.words; is = (refl, tt); onwards = r.is } }
complete_goal PartParen κ n f =
    let r = f None n in
    record { words = close_paren ∷ r.words; unit = r.unit; no_else = λ e. absurd (cc); is = record { item = None; rest = r.words; is = (refl, tt); onwards = r.is } }
complete_goal ForOpen κ n f =
    let r = f 0 (n + 1) in
    record { words = opens (n + 1) (open_paren 0) ∷ r.words; unit = r.unit; no_else = λ e. absurd (cc); is = record { item = 0; rest = r.words; is = refl; onwards = r.is } }
complete_goal (ElsePart at o e s) κ n f =
    let r = f (if_then at o e s) n in
    record { words = r.words; unit = r.unit; no_else = r.no_else; is = inl (r.no_else, r.is) }
complete_goal Local κ n f =
    let r = f (record { storage = storages.Automatic; spec = specs.Int 0; declarators = bare_declarator [] letter 0 ∷ [] }) n in
    record {
      words = int_word ∷ letter_word ∷ semi ∷ r.words;
      unit = r.unit;
      no_else = λ e. absurd (cc);
      is =
          record {
            item = (record { storage = storages.Automatic; spec = specs.Int 0; declarators = bare_declarator [] letter 0 ∷ [] });
            rest = r.words;
            is = (refl, (tt, ((tt, tt), tt)));
            onwards = r.is;
          };
    }
complete_goal (DeclaratorName ats) κ n f =
    let r = f (bare_declarator ats letter 0) n in
    record { words = letter_word ∷ r.words; unit = r.unit; no_else = λ e. absurd (cc); is = record { item = (bare_declarator ats letter 0); rest = r.words; is = (refl, (tt, tt)); onwards = r.is } }
complete_goal ArrayPart κ n f =
    let r = f None n in
    record { words = r.words; unit = r.unit; no_else = r.no_else; is = record { item = None; rest = r.words; is = (refl, tt); onwards = r.is } }
complete_goal Length κ n f =
    let r = f None n in
    record { words = close_bracket ∷ r.words; unit = r.unit; no_else = λ e. absurd (cc); is = record { item = None; rest = r.words; is = (refl, tt); onwards = r.is } }
complete_goal InitPart κ n f =
    let r = f None n in
    record { words = r.words; unit = r.unit; no_else = r.no_else; is = record { item = None; rest = r.words; is = (refl, tt); onwards = r.is } }
complete_goal Init κ n f =
    let r = f (value zero) n in
    record { words = zero_word ∷ r.words; unit = r.unit; no_else = λ e. absurd (cc); is = record { item = (value zero); rest = r.words; is = (refl, tt); onwards = r.is } }
complete_goal Elements κ n f =
    let r = f (elements (exps zero no_exps) false) n in
    record {
      words = zero_word ∷ close_brace ∷ r.words;
      unit = r.unit;
      no_else = λ e. absurd (cc);
      is = λ b q.
          record { item = elements (exps zero no_exps) false; rest = r.words; is = (refl, (tt, (tt, tt))); onwards = r.is };
    }
complete_goal InitMore κ n f =
    let r = f (no_exps, false) n in
    record { words = close_brace ∷ r.words; unit = r.unit; no_else = λ e. absurd (cc); is = record { item = (no_exps, false); rest = r.words; is = (refl, tt); onwards = r.is } }
complete_goal InitNext κ n f =
    let r = f (no_exps, true) n in
    record { words = close_brace ∷ r.words; unit = r.unit; no_else = λ e. absurd (cc); is = record { item = (no_exps, true); rest = r.words; is = (refl, tt); onwards = r.is } }
complete_goal MoreDeclarators κ n f =
    let r = f [] n in
    record { words = semi ∷ r.words; unit = r.unit; no_else = λ e. absurd (cc); is = record { item = []; rest = r.words; is = (refl, tt); onwards = r.is } }
complete_goal (DeclaredName ats) κ n f =
    let r = f (globals (bare_declarator ats letter 0 ∷ [])) n in
    record {
      words = letter_word ∷ semi ∷ r.words;
      unit = r.unit;
      no_else = λ e. absurd (cc);
      is =
          record { item = (globals (bare_declarator ats letter 0 ∷ [])); rest = r.words; is = (refl, (tt, ((tt, tt), tt))); onwards = r.is };
    }
complete_goal (AfterName ats g at) κ n f =
    let r = f (globals (bare_declarator ats g at ∷ [])) n in
    record {
      words = semi ∷ r.words;
      unit = r.unit;
      no_else = λ e. absurd (cc);
      is =
          record { item = (globals (bare_declarator ats g at ∷ [])); rest = r.words; is = (refl, (tt, ((tt, tt), tt))); onwards = r.is };
    }
complete_goal Body κ n f =
    let r = f None n in
    record { words = semi ∷ r.words; unit = r.unit; no_else = λ e. absurd (cc); is = record { item = None; rest = r.words; is = (refl, tt); onwards = r.is } }
complete_goal Params κ n f =
    let r = f no_params n in
    record { words = close_paren ∷ r.words; unit = r.unit; no_else = λ e. absurd (cc); is = record { item = no_params; rest = r.words; is = (refl, tt); onwards = r.is } }
complete_goal OptName κ n f =
    let r = f None n in
    record { words = r.words; unit = r.unit; no_else = r.no_else; is = record { item = None; rest = r.words; is = refl; onwards = r.is } }
complete_goal MoreParams κ n f =
    let r = f [] n in
    record { words = close_paren ∷ r.words; unit = r.unit; no_else = λ e. absurd (cc); is = record { item = []; rest = r.words; is = (refl, tt); onwards = r.is } }
complete_goal External κ n f =
    let r = f (record { static_at = None; spec = specs.Int 0; declared = globals (bare_declarator [] letter 0 ∷ []) }) n in
    record {
      words = int_word ∷ letter_word ∷ semi ∷ r.words;
      unit = r.unit;
      no_else = λ e. absurd (cc);
      is =
          record { item = (record { static_at = None; spec = specs.Int 0; declared = globals (bare_declarator [] letter 0 ∷ []) }); rest = r.words; is = (refl, (tt, ((tt, tt), tt))); onwards = r.is };
    }
complete_goal Whole κ n f =
    let r = f (record { externals = []; end = 0 }) n in
    record {
      words = plain (record { kind = token.End; at = 0 }) ∷ r.words;
      unit = r.unit;
      no_else = λ e. absurd (cc);
      is =
          record { item = (record { externals = []; end = 0 }); rest = r.words; is = (refl, tt); onwards = r.is };
    }

pub complete : (s : Stack) (n : ℕ) → Completed s n
complete (Done u) n = record { words = []; unit = u; no_else = tt; is = (refl, refl) }
complete (Want g κ) n = complete_goal g κ n (λ v m. complete (κ v) m)
