-- The answers of the parser.
use Rattle.std.proofs.Common.{◌≡◌, ℕ, suc, ◌+◌, ◌-◌, ◌<◌, ◌≤◌, List, [], ◌∷◌, ◌++◌, length, refl, sym, ap, subst, ◌∙◌, arith}
use Rattle.std.specs.Prelude.{Ok, Err}
use Rattle.c_syntax_goals.specs.declared.fault.Fault.{Fault}
use Rattle.c_tokens.specs.declared.token.Spanned.{Spanned}
use Rattle.c_phrases.specs.declared.tree.Ast.{Ast}
use Rattle.c_phrases.specs.UnitShapes.{unit_of}
use Rattle.c_phrases.specs.Classes.{seen}
use Rattle.c_tokens.specs.Grammar.{IsEnded}
use Rattle.c_syntax_goals.specs.Refusals.{IsPlace, NotHereAt, Stops, TooDeepAt}
use Rattle.c_phrases.specs.Levels.{limit}
use Rattle.c_phrases.specs.Units.{AUnit}
use Rattle.c_phrases.specs.UnitSpelling.{unit_tokens}
use Rattle.c_phrases.specs.Grammar.{IsUnit}
use Rattle.c_syntax_goals.specs.Goals.{Want, Done, Whole}
use Rattle.c_syntax_goals.specs.Machine.{run}
use Rattle.c_syntax_goals.specs.declared.fault.Fault.TheVariants.{NotHere, TooDeep}
use Rattle.c_syntax.specs.Leads.{Fails}
use Rattle.c_syntax_goals.proofs.Stating.{law_unit}
use Rattle.c_syntax_goals.proofs.Prefix.{same_unit, no_ok}
use Rattle.c_syntax_goals.proofs.Faults.{here_some, too_deep_some, within_seen, refused_here, too_deep_there}

-- a text's units are one
pub one_unit : (ts : List Spanned) (x : Ast) (u : AUnit) → IsUnit (seen ts) (unit_of x) → IsUnit (seen ts) u → unit_of x ≡ u
one_unit ts x u a b = same_unit (seen ts) (unit_of x) u a.fits a.low a.text b.fits b.low b.text

-- a unit within the levels has no fault
pub no_fault : (ts : List Spanned) (u : AUnit) (f : Fault) → IsUnit (seen ts) u → Stops ts f → ⊥
no_fault ts u f a e = no_ok u f (sym (law_unit limit u a.fits a.low) ∙ ap (run limit (Want Whole Done) 0) (sym a.text) ∙ e)

-- the run of the whole text stops with the fault
pub stops_here : (ts : List Spanned) (f : Fault) (k : ℕ) → f ≡ NotHere k → Fails (Want Whole) 0 (seen ts) f → Stops ts (NotHere k)
stops_here ts f k e h = subst (λ (x : Fault). Fails (Want Whole) 0 (seen ts) x) e h Done

pub stops_deep : (ts : List Spanned) (f : Fault) (k : ℕ) → f ≡ TooDeep k → Fails (Want Whole) 0 (seen ts) f → Stops ts (TooDeep k)
stops_deep ts f k e h = subst (λ (x : Fault). Fails (Want Whole) 0 (seen ts) x) e h Done

-- the offset that is answered is that of the fault's token
pub refused_at : (ts : List Spanned) (k place : ℕ) → IsEnded ts → Stops ts (NotHere k) → (0 < k → k ≤ length ts → IsPlace ts k place) → NotHereAt ts place
refused_at ts k place h e p = refused_here ts k place h e (p (here_some ts k h e) (within_seen ts (NotHere k) e))

pub deep_at : (ts : List Spanned) (k place : ℕ) → Stops ts (TooDeep k) → (0 < k → k ≤ length ts → IsPlace ts k place) → TooDeepAt ts place
deep_at ts k place e p = too_deep_there ts k place e (p (too_deep_some ts k e) (within_seen ts (TooDeep k) e))
