use Rattle.std.proofs.Common.{ℕ, List, Option}
use Rattle.std.specs.Prelude.{IfNone}
use Rattle.gg_base.proofs.Facts.{if_ok}
use Rattle.md_reader.specs.declared.types.Sym.{Sym}
use Rattle.lr_check_sets.specs.Faults.{Calms, NoFault}
use Rattle.lr_check_sets.specs.Table.{automaton_of}
use Rattle.lr_check_found.specs.declared.places.Place.{Place}
use Rattle.lr_check_found.specs.declared.settlings.Settling.{Settling}
use Rattle.lr_check_found.specs.Lists.{IsList}
use Rattle.lr_check_found.specs.Found.{IsPlaceAt, IsSettlingAt}
use Rattle.lr_check_flaws.specs.declared.flaws.Flaw.{Flaw}
use Rattle.lr_check_decided.proofs.Fine.{fine}
use Rattle.lr_check_decided.proofs.deciding.find_flaw.Goals as goal
use Rattle.lr_check_decided.proofs.Firsts.{if_none}

pub returns-clause-none : goal.returns-clause-none
returns-clause-none c =
    let f = c.args.found.now in
    let A = automaton_of c.args.tables.now in
    if_ok _ (λ (o : Option Flaw). IfNone o ((i : ℕ) (e : Settling) (x : Place) (s : List Sym) → IsSettlingAt f i e → IsPlaceAt f e.place x → IsList f.lists e.list s
    → Calms A x.state x.behind s)) (λ (o : Option Flaw). IfNone o (NoFault A))
    (λ o h. if_none o ((i : ℕ) (e : Settling) (x : Place) (s : List Sym) → IsSettlingAt f i e → IsPlaceAt f e.place x → IsList f.lists e.list s → Calms A x.state x.behind s) (NoFault A)
    (λ calm. fine A f c.requires.complete c.in_default.ensures.none c.in_default-find_dead.ensures.none calm) h)
    c.find_circle.ensures.none
