-- The run over a sample's tokens.
use Rattle.std.proofs.Common.{◌≡◌, ℕ, ◌<◌, List, Some, None, length, sym, ap, ◌∙◌, subst}
use Rattle.md_reader.specs.Valid.{IsValid}
use Rattle.lr_tables.specs.View.{TableView}
use Rattle.lr_tables.specs.Grammar.{IsGrammar}
use Rattle.lr_tables.specs.Statements.{stmt_of}
use Rattle.lr_tables.proofs.Validity.{is_grammar}
use Rattle.lr_check.specs.declared.sample.Outcome.{Outcome}
use Rattle.lr_check.specs.Tree.{Node}
use Rattle.lr_check.specs.Steps.{Config, first_config, After, step}
use Rattle.lr_check.specs.Running.{Halts, over, onward}
use Rattle.lr_check.proofs.Falling.{weight, step_falls}

-- the steps that are left end as those from the start
pub record Running (t : TableView) (nodes : List Node) (order : List ℕ) (c : Config) : Type 0 where
  pub ends : (o : Outcome) → Halts t nodes order c o → Halts t nodes order (first_config (length t.content.classes)) o
  pub seen : length c.seen ≡ length t.content.classes

module _ (t : TableView) (nodes : List Node) (order : List ℕ) where
  grammar : (c : Config) → IsValid t.content → Running t nodes order c → IsGrammar t.content.rules (stmt_of t.content.classes) (length c.seen)
  grammar c v r = subst (λ (n : ℕ). IsGrammar t.content.rules (stmt_of t.content.classes) n) (sym r.seen) (is_grammar t.content v)

  pub run_turn : (c d : Config) → IsValid t.content → Running t nodes order c → ◌≡◌ {A = After} (record { ending = None; config = d }) (step t nodes order c) → Running t nodes order d
  run_turn c d v r e =
      let none : (step t nodes order c).ending ≡ None = sym (ap (λ (x : After). x.ending) e) in
      let same : d ≡ (step t nodes order c).config = ap (λ (x : After). x.config) e in
      record {
        ends = λ o h. r.ends o (onward none (subst (λ (x : Config). Halts t nodes order x o) same h));
        seen = ap (λ (x : Config). length x.seen) same ∙ ((step_falls t (stmt_of t.content.classes) nodes order c (grammar c v r)).seen none ∙ r.seen);
      }

  pub run_over : (c d : Config) (o : Outcome) → Running t nodes order c → ◌≡◌ {A = After} (record { ending = Some o; config = d }) (step t nodes order c)
      → Halts t nodes order (first_config (length t.content.classes)) o
  run_over c d o r e = r.ends o (over (sym (ap (λ (x : After). x.ending) e)))

  pub run_less : (c d : Config) → IsValid t.content → Running t nodes order c → ◌≡◌ {A = After} (record { ending = None; config = d }) (step t nodes order c)
      → weight (length order) d < weight (length order) c
  run_less c d v r e =
      let none : (step t nodes order c).ending ≡ None = sym (ap (λ (x : After). x.ending) e) in
      let same : d ≡ (step t nodes order c).config = ap (λ (x : After). x.config) e in
      subst (λ (x : Config). weight (length order) x < weight (length order) c) (sym same) ((step_falls t (stmt_of t.content.classes) nodes order c (grammar c v r)).less none)
