-- Parts read one behind another are the phrase that they make up.
use Rattle.std.proofs.Common.{◌≡◌, ◌≤◌, ℕ, ◌+◌, List, ◌∷◌, refl, sym, ap, subst, ◌∙◌, arith}
use Rattle.std.specs.Prelude.{Option, Some, Bool, false}
use Rattle.c_tokens.specs.declared.words.Key.TheVariants as keys
use Rattle.c_tokens.specs.declared.marks.Mark.TheVariants as marks
use Rattle.c_phrases.specs.declared.operator.Storage.{Storage}
use Rattle.c_phrases.specs.declared.operator.BinaryOperator.{BinaryOperator}
use Rattle.c_phrases.specs.declared.operator.StepOperator.{StepOperator}
use Rattle.c_phrases.specs.declared.operator.AssignOperator.{AssignOperator}
use Rattle.c_phrases.specs.declared.tree.TypeName.{TypeName}
use Rattle.c_phrases.specs.Classes.{word, sign}
use Rattle.c_phrases.specs.Phrases.{AnExp, paren, index, step_after, sizeof_exp, sizeof_type, cast, choice, assign}
use Rattle.c_phrases.specs.Phrases.{comma, SomeExps, exps, IsAt, after_exp}
use Rattle.c_phrases.specs.Operators.{level_of, binary_mark, step_mark, assign_mark}
use Rattle.c_phrases.specs.Units.{ALength, AnInit, value, elements, ADeclarator, ALocal, AUnit}
use Rattle.c_phrases.specs.Fits.{InitFits, DeclaratorFits}
use Rattle.c_syntax_goals.specs.Openings.{Opening, opens, plain, levelled_spec, levelled_stars, levelled_type}
use Rattle.c_syntax_goals.specs.Openings.{levelled_name, levelled_exp}
use Rattle.c_syntax_goals.specs.StatementOpenings.{levelled_length, levelled_init, levelled_declarator}
use Rattle.c_syntax_goals.specs.StatementOpenings.{levelled_storage}
use Rattle.c_syntax_goals.specs.Goals.{Stack, Want, Expr, Commas, Assign, Cond, Cast, PostTail, Tail, Arguments}
use Rattle.c_syntax_goals.specs.Goals.{MoreArguments, Back, WantParen, WantBracket, WantColon, TypeWords, Local}
use Rattle.c_syntax_goals.specs.Goals.{ArrayPart, Length, Init, Elements, InitMore, InitNext, MoreDeclarators}
use Rattle.c_syntax_goals.specs.Expressions.{insert}
use Rattle.c_syntax_goals.specs.Types.{type_goals}
use Rattle.c_syntax_goals.specs.Groups.{cast_behind, paren_behind, sizeof_behind}
use Rattle.c_syntax_goals.specs.Declarators.{declarator_behind, declarator_goals}
use Rattle.c_syntax_goals.specs.Statements.{local_rest}
use Rattle.c_syntax_goals.proofs.Yields.{Found, open_paren, close_paren, comma_mark, IsExp, Onto, Yields}
use Rattle.c_syntax_goals.proofs.PhraseLaws.{lower}
use Rattle.c_syntax_goals.proofs.Inserts.{insert_text, insert_after, insert_fits}

-- an expression of the phrase k that begins at level b
abbrev pub Exp : ℕ → List Opening → ℕ → (AnExp → ℕ → List Opening → Type 0) → Type 0
Exp k ts b K = Found AnExp (λ e w. IsExp k ts b e w) (λ e w. K e (after_exp e b) w)

pub weaken : (j k : ℕ) → j ≤ k → (ts : List Opening) (b : ℕ) (K : AnExp → ℕ → List Opening → Type 0) → Exp k ts b K → Exp j ts b K
weaken j k le ts b K h = record { item = h.item; rest = h.rest; is = (h.is.0, lower j k h.item le h.is.1); onwards = h.onwards }

-- an operand, and what goes on with it
pub joined : (i j k : ℕ) → j ≤ i → (ts : List Opening) (b : ℕ) (K : AnExp → ℕ → List Opening → Type 0) → Exp i ts b (λ e m w. Onto j k e m w K) → Exp k ts b K
joined i j k le ts b K h =
    let r : Exp k (levelled_exp h.item b h.rest) b K = h.onwards b refl (lower j i h.item le h.is.1) in
    record { item = r.item; rest = r.rest; is = (h.is.0 ∙ r.is.0, r.is.1); onwards = r.onwards }

-- nothing goes on with it
pub alone : (j k : ℕ) (l : AnExp) (n : ℕ) (ts : List Opening) (K : AnExp → ℕ → List Opening → Type 0) → k ≤ j → K l n ts → Onto j k l n ts K
alone j k l n ts K le h = λ b e f. record { item = l; rest = ts; is = (refl, lower k j l le f); onwards = subst (λ (m : ℕ). K l m ts) e h }

-- a level is put in the place of the one that is known
pub settle : (l : AnExp) (j k n : ℕ) (ts : ℕ → List Opening) (H : ℕ → Type 0) (K : AnExp → ℕ → List Opening → Type 0)
    → ((b : ℕ) → IsAt j l → H (after_exp l b) → Exp k (levelled_exp l b (ts (after_exp l b))) b K) → H n → Onto j k l n (ts n) K
settle l j k n ts H K f h = λ b e i. subst (λ (m : ℕ). Exp k (levelled_exp l b (ts m)) b K) (sym e) (f b i (subst H e h))

-- what is to be read behind an expression
abbrev pub By : (AnExp → Stack) → AUnit → AnExp → ℕ → List Opening → Type 0
By κ u = λ e m w. Yields (κ e) m w u

module _ (u : AUnit) where
  -- types
  pub type_read : (n : ℕ) (κ : TypeName → Stack) (ts : List Opening) → Yields (type_goals κ) n ts u → Found TypeName (λ t w. ts ≡ levelled_type t w) (λ t w. Yields (κ t) n w u)
  type_read n κ ts h = record { item = record { spec = h.item; stars = h.onwards.item }; rest = h.onwards.rest; is = h.is ∙ ap (levelled_spec h.item) h.onwards.is; onwards = h.onwards.onwards }

  -- brackets
  pub parens_read : (o n : ℕ) (κ : AnExp → Stack) (ts : List Opening) → Yields (Want Expr (λ e. Want WantParen (λ x. Want (Back n) (λ y. κ (paren o e))))) (n + 1) ts u
      → Exp 16 (opens (n + 1) (open_paren o) ∷ ts) n (λ e m w. Yields (κ e) m w u)
  parens_read o n κ ts h = record {
    item = paren o h.item;
    rest = h.onwards.rest;
    is = (ap (λ (x : List Opening). opens (n + 1) (open_paren o) ∷ x) (h.is.0 ∙ ap (levelled_exp h.item (n + 1)) h.onwards.is), h.is.1);
    onwards = h.onwards.onwards;
  }

  pub paren_read : (o n : ℕ) (κ : AnExp → Stack) (ts : List Opening) → Yields (Want Expr (paren_behind o n κ)) (n + 1) ts u → Exp 15 (opens (n + 1) (open_paren o) ∷ ts) n (λ e m w. Yields (κ e) m w u)
  paren_read o n κ ts h = joined 16 15 15 (omega arith) _ n (By κ u) (parens_read o n (λ e. Want (PostTail e) κ) ts h)

  pub cast_read : (o n : ℕ) (κ : AnExp → Stack) (ts : List Opening) → Yields (type_goals (cast_behind o κ)) (n + 1) ts u → Exp 13 (opens (n + 1) (open_paren o) ∷ ts) n (λ e m w. Yields (κ e) m w u)
  cast_read o n κ ts h =
      let t : Found TypeName (λ t w. ts ≡ levelled_type t w) (λ t w. Yields (cast_behind o κ t) (n + 1) w u) = type_read (n + 1) (cast_behind o κ) ts h in
      let p = t.onwards in
      let e = p.onwards in
      record {
        item = cast o t.item e.item;
        rest = e.rest;
        is = (ap (λ (x : List Opening). opens (n + 1) (open_paren o) ∷ x) (t.is ∙ ap (levelled_type t.item) (p.is ∙ ap (λ (x : List Opening). close_paren ∷ x) e.is.0)), (omega arith, e.is.1));
        onwards = e.onwards;
      }

  pub sizeof_read : (at o b : ℕ) (κ : AnExp → Stack) (ts : List Opening) → Yields (type_goals (sizeof_behind at o (b + 1) κ)) (b + 1 + 1) ts u
      → Exp 14 (opens (b + 1) (word keys.Sizeof at) ∷ opens (b + 1 + 1) (open_paren o) ∷ ts) b (λ e m w. Yields (κ e) m w u)
  sizeof_read at o b κ ts h =
      let t : Found TypeName (λ t w. ts ≡ levelled_type t w) (λ t w. Yields (sizeof_behind at o (b + 1) κ t) (b + 1 + 1) w u) = type_read (b + 1 + 1) (sizeof_behind at o (b + 1) κ) ts h in
      let p = t.onwards in
      record {
        item = sizeof_type at o t.item;
        rest = p.rest;
        is = (ap (λ (x : List Opening). opens (b + 1) (word keys.Sizeof at) ∷ opens (b + 1 + 1) (open_paren o) ∷ x) (t.is ∙ ap (levelled_type t.item) p.is), omega arith);
        onwards = p.onwards;
      }

  -- sizeof in front of an operand
  pub sizeof_joined : (at b : ℕ) (κ : AnExp → Stack) (ts : List Opening) → Exp 14 ts (b + 1) (λ e m w. Yields (κ (sizeof_exp at e)) m w u)
      → Exp 14 (opens (b + 1) (word keys.Sizeof at) ∷ ts) b (λ e m w. Yields (κ e) m w u)
  sizeof_joined at b κ ts h = record {
    item = sizeof_exp at h.item;
    rest = h.rest;
    is = (ap (λ (x : List Opening). opens (b + 1) (word keys.Sizeof at) ∷ x) h.is.0, (omega arith, h.is.1));
    onwards = h.onwards;
  }

  -- behind an operand
  pub index_read : (l : AnExp) (o b : ℕ) (κ : AnExp → Stack) (ts : List Opening) → IsAt 15 l
      → Yields (Want Expr (λ i. Want WantBracket (λ x. Want (Back (after_exp l b + 1)) (λ y. Want (PostTail (index l o i)) κ)))) (after_exp l b + 2) ts u
      → Exp 15 (levelled_exp l b (opens (after_exp l b + 2) (sign marks.OpenBracket o) ∷ ts)) b (λ e m w. Yields (κ e) m w u)
  index_read l o b κ ts f h =
      let p = h.onwards in
      let r : Exp 15 (levelled_exp (index l o h.item) b p.rest) b (λ e m w. Yields (κ e) m w u) = p.onwards b refl (omega arith, (f, h.is.1)) in
      record {
        item = r.item;
        rest = r.rest;
        is = (ap (λ (x : List Opening). levelled_exp l b (opens (after_exp l b + 2) (sign marks.OpenBracket o) ∷ x)) (h.is.0 ∙ ap (levelled_exp h.item (after_exp l b + 2)) p.is) ∙ r.is.0, r.is.1);
        onwards = r.onwards;
      }

  pub step_read : (l : AnExp) (op : StepOperator) (at b : ℕ) (κ : AnExp → Stack) (ts : List Opening) → IsAt 15 l → Yields (Want (PostTail (step_after l op at)) κ) (after_exp l b + 1) ts u
      → Exp 15 (levelled_exp l b (opens (after_exp l b + 1) (sign (step_mark op) at) ∷ ts)) b (λ e m w. Yields (κ e) m w u)
  step_read l op at b κ ts f h = h b refl (omega arith, f)

  pub operator_read : (l : AnExp) (op : BinaryOperator) (at b : ℕ) (κ : AnExp → Stack) (ts : List Opening) → 3 ≤ level_of op → IsAt 3 l
      → Yields (Want Cast (λ r. Want (Tail false (insert l op at r)) κ)) (after_exp l b + 1) ts u
      → Exp 2 (levelled_exp l b (opens (after_exp l b + 1) (sign (binary_mark op) at) ∷ ts)) b (λ e m w. Yields (κ e) m w u)
  operator_read l op at b κ ts le f h =
      let r : Exp 2 (levelled_exp (insert l op at h.item) b h.rest) b (λ e m w. Yields (κ e) m w u) =
      h.onwards b (sym (insert_after l op at h.item b)) (insert_fits 3 l op at h.item (omega arith) le f h.is.1) in
      record {
        item = r.item;
        rest = r.rest;
        is = (ap (λ (x : List Opening). levelled_exp l b (opens (after_exp l b + 1) (sign (binary_mark op) at) ∷ x)) h.is.0 ∙ sym (insert_text l op at h.item b h.rest) ∙ r.is.0, r.is.1);
        onwards = r.onwards;
      }

  pub assigned_read : (l : AnExp) (op : AssignOperator) (at b : ℕ) (κ : AnExp → Stack) (ts : List Opening) → IsAt 14 l
      → Yields (Want Assign (λ v. κ (assign l op at v))) (after_exp l b + 1) ts u → Exp 1 (levelled_exp l b (opens (after_exp l b + 1) (sign (assign_mark op) at) ∷ ts)) b (λ e m w. Yields (κ e) m w u)
  assigned_read l op at b κ ts f h = record {
    item = assign l op at h.item;
    rest = h.rest;
    is = (ap (λ (x : List Opening). levelled_exp l b (opens (after_exp l b + 1) (sign (assign_mark op) at) ∷ x)) h.is.0, (omega arith, (f, h.is.1)));
    onwards = h.onwards;
  }

  pub choice_read : (l : AnExp) (at b : ℕ) (κ : AnExp → Stack) (ts : List Opening) → IsAt 3 l
      → Yields (Want Expr (λ e. Want WantColon (λ x. Want Cond (λ d. κ (choice l at e d))))) (after_exp l b + 1) ts u
      → Exp 2 (levelled_exp l b (opens (after_exp l b + 1) (sign marks.Question at) ∷ ts)) b (λ e m w. Yields (κ e) m w u)
  choice_read l at b κ ts f h =
      let p = h.onwards in
      let d = p.onwards in
      record {
        item = choice l at h.item d.item;
        rest = d.rest;
        is = (
          ap (λ (x : List Opening). levelled_exp l b (opens (after_exp l b + 1) (sign marks.Question at) ∷ x))
              (h.is.0 ∙ ap (levelled_exp h.item (after_exp l b + 1)) (p.is ∙ ap (λ (x : List Opening). plain (sign marks.Colon 0) ∷ x) d.is.0)),
          (omega arith, (f, (h.is.1, d.is.1))),
        );
        onwards = d.onwards;
      }

  pub comma_read : (l : AnExp) (b : ℕ) (κ : AnExp → Stack) (ts : List Opening) → IsAt 0 l → Yields (Want Assign (λ r. Want (Commas (comma l r)) κ)) (after_exp l b + 1) ts u
      → Exp 0 (levelled_exp l b (opens (after_exp l b + 1) (sign marks.Comma 0) ∷ ts)) b (λ e m w. Yields (κ e) m w u)
  comma_read l b κ ts f h =
      let r : Exp 0 (levelled_exp (comma l h.item) b h.rest) b (λ e m w. Yields (κ e) m w u) = h.onwards b refl (omega arith, (f, h.is.1)) in
      record {
        item = r.item;
        rest = r.rest;
        is = (ap (λ (x : List Opening). levelled_exp l b (opens (after_exp l b + 1) (sign marks.Comma 0) ∷ x)) h.is.0 ∙ r.is.0, r.is.1);
        onwards = r.onwards;
      }

  -- lists
  pub argument_read : (n : ℕ) (κ : SomeExps → Stack) (ts : List Opening) → Yields (Want Assign (λ a. Want (Back n) (λ x. Want MoreArguments (λ es. κ (exps a es))))) n ts u
      → Yields (Want Arguments κ) n ts u
  argument_read n κ ts h = record {
    item = exps h.item h.onwards.item;
    rest = h.onwards.rest;
    is = (h.is.0 ∙ ap (levelled_exp h.item n) h.onwards.is.0, (h.is.1, h.onwards.is.1));
    onwards =
        h.onwards.onwards;
  }

  pub next_argument_read : (n : ℕ) (κ : SomeExps → Stack) (ts : List Opening) → Yields (Want Assign (λ a. Want (Back n) (λ x. Want MoreArguments (λ es. κ (exps a es))))) n ts u
      → Yields (Want MoreArguments κ) n (comma_mark ∷ ts) u
  next_argument_read n κ ts h = record {
    item = exps h.item h.onwards.item;
    rest = h.onwards.rest;
    is =
        (ap (λ (x : List Opening). comma_mark ∷ x) (h.is.0 ∙ ap (levelled_exp h.item n) h.onwards.is.0), (h.is.1, h.onwards.is.1));
    onwards = h.onwards.onwards;
  }

  -- declarators
  pub behind_read : (ats f : List ℕ) (at n : ℕ) (κ : ADeclarator → Stack) (ts : List Opening) → Yields (declarator_behind ats f at κ) n ts u
      → Found ADeclarator (λ d w. (levelled_stars ats (levelled_name f at ts) ≡ levelled_declarator d n w) × DeclaratorFits d) (λ d w. Yields (κ d) n w u)
  behind_read ats f at n κ ts h =
      let i = h.onwards in
      record {
        item = record { stars = ats; name = f; at = at; length = h.item; init = i.item };
        rest = i.rest;
        is = (ap (λ (x : List Opening). levelled_stars ats (levelled_name f at x)) (h.is.0 ∙ ap (levelled_length h.item n) i.is.0), (h.is.1, i.is.1));
        onwards = i.onwards;
      }

  pub declarator_read : (n : ℕ) (κ : ADeclarator → Stack) (ts : List Opening) → Yields (declarator_goals κ) n ts u
      → Found ADeclarator (λ d w. (ts ≡ levelled_declarator d n w) × DeclaratorFits d) (λ d w. Yields (κ d) n w u)
  declarator_read n κ ts h =
      let d = h.onwards in
      record { item = d.item; rest = d.rest; is = (h.is ∙ d.is.0, d.is.1); onwards = d.onwards }

  pub local_read : (st : Storage) (n : ℕ) (κ : ALocal → Stack) (ts : List Opening) → Yields (Want TypeWords (local_rest st κ)) n ts u → Yields (Want Local κ) n (levelled_storage st ts) u
  local_read st n κ ts h =
      let d : Found ADeclarator (λ d w. (h.rest ≡ levelled_declarator d n w) × DeclaratorFits d)
      (λ d w. Yields (Want MoreDeclarators (λ ds. κ (record { storage = st; spec = h.item; declarators = d ∷ ds }))) n w u) =
      declarator_read n (λ d. Want MoreDeclarators (λ ds. κ (record { storage = st; spec = h.item; declarators = d ∷ ds }))) h.rest h.onwards in
      let ds = d.onwards in
      record {
        item = record { storage = st; spec = h.item; declarators = d.item ∷ ds.item };
        rest = ds.rest;
        is = (ap (levelled_storage st) (h.is ∙ ap (levelled_spec h.item) (d.is.0 ∙ ap (levelled_declarator d.item n) ds.is.0)), (tt, (d.is.1, ds.is.1)));
        onwards = ds.onwards;
      }

  pub next_declarator_read : (n : ℕ) (κ : List ADeclarator → Stack) (ts : List Opening) → Yields (declarator_goals (λ d. Want MoreDeclarators (λ ds. κ (d ∷ ds)))) n ts u
      → Yields (Want MoreDeclarators κ) n (comma_mark ∷ ts) u
  next_declarator_read n κ ts h =
      let d : Found ADeclarator (λ d w. (ts ≡ levelled_declarator d n w) × DeclaratorFits d) (λ d w. Yields (Want MoreDeclarators (λ ds. κ (d ∷ ds))) n w u) =
      declarator_read n (λ d. Want MoreDeclarators (λ ds. κ (d ∷ ds))) ts h in
      let ds = d.onwards in
      record { item = d.item ∷ ds.item; rest = ds.rest; is = (ap (λ (x : List Opening). comma_mark ∷ x) (d.is.0 ∙ ap (levelled_declarator d.item n) ds.is.0), (d.is.1, ds.is.1)); onwards = ds.onwards }

  pub init_read : (n : ℕ) (κ : AnInit → Stack) (ts : List Opening) → Yields (Want Assign (λ a. Want (Back n) (λ x. κ (value a)))) n ts u → Yields (Want Init κ) n ts u
  init_read n κ ts h = record { item = value h.item; rest = h.rest; is = h.is; onwards = h.onwards }

  pub elements_read : (n : ℕ) (κ : AnInit → Stack) (ts : List Opening) → Yields (Want Assign (λ a. Want (Back n) (λ x. Want InitMore (λ r. κ (elements (exps a r.0) r.1))))) n ts u
      → Yields (Want Elements κ) n ts u
  elements_read n κ ts h = λ b e. subst (λ (m : ℕ). Yields (Want Assign (λ a. Want (Back m) (λ x. Want InitMore (λ r. κ (elements (exps a r.0) r.1))))) m ts u
      → Found AnInit (λ i w. (opens (b + 1) (sign marks.OpenBrace 0) ∷ ts ≡ levelled_init i b w) × InitFits i) (λ i w. Yields (κ i) m w u)) (sym e) (at_level b) h
    where
      at_level : (b : ℕ) → Yields (Want Assign (λ a. Want (Back (b + 1)) (λ x. Want InitMore (λ r. κ (elements (exps a r.0) r.1))))) (b + 1) ts u
          → Found AnInit (λ i w. (opens (b + 1) (sign marks.OpenBrace 0) ∷ ts ≡ levelled_init i b w) × InitFits i) (λ i w. Yields (κ i) (b + 1) w u)
      at_level b h =
          let r = h.onwards in
          record {
            item = elements (exps h.item r.item.0) r.item.1;
            rest = r.rest;
            is = (ap (λ (x : List Opening). opens (b + 1) (sign marks.OpenBrace 0) ∷ x) (h.is.0 ∙ ap (levelled_exp h.item (b + 1)) r.is.0), (tt, (h.is.1, r.is.1)));
            onwards = r.onwards;
          }

  pub next_init_read : (n : ℕ) (κ : SomeExps × Bool → Stack) (ts : List Opening) → Yields (Want Assign (λ a. Want (Back n) (λ x. Want InitMore (λ r. κ (exps a r.0, r.1))))) n ts u
      → Yields (Want InitNext κ) n ts u
  next_init_read n κ ts h =
      let r = h.onwards in
      record {
        item = (exps h.item r.item.0, r.item.1);
        rest = r.rest;
        is = (ap (λ (x : List Opening). comma_mark ∷ x) (h.is.0 ∙ ap (levelled_exp h.item n) r.is.0), (h.is.1, r.is.1));
        onwards = r.onwards;
      }

  pub length_read : (n : ℕ) (κ : Option AnExp → Stack) (ts : List Opening) → Exp 2 ts n (λ e m w. Yields (Want WantBracket (λ x. κ (Some e))) m w u) → Yields (Want Length κ) n ts u
  length_read n κ ts h =
      let p = h.onwards in
      record { item = Some h.item; rest = p.rest; is = (h.is.0 ∙ ap (levelled_exp h.item n) p.is, h.is.1); onwards = p.onwards }

  -- an array's bracket
  pub array_read : (o n : ℕ) (κ : Option ALength → Stack) (ts : List Opening) → Yields (Want Length (λ e. Want (Back n) (λ x. κ (Some (record { opened = o; value = e }))))) (n + 1) ts u
      → Yields (Want ArrayPart κ) n (opens (n + 1) (sign marks.OpenBracket o) ∷ ts) u
  array_read o n κ ts h = record {
    item = Some (record { opened = o; value = h.item });
    rest = h.rest;
    is = (ap (λ (x : List Opening). opens (n + 1) (sign marks.OpenBracket o) ∷ x) h.is.0, h.is.1);
    onwards = h.onwards;
  }
