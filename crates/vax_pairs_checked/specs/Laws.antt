-- Law: codes that are accepted as a pair behave alike.
use Rattle.std.specs.Prelude.{◌≡◌, true, List}
use Rattle.vax_pairs.specs.vax_core.specs.declared.code.Code.{Code}
use Rattle.vax_pairs.specs.vax_core.specs.Valid.{is_code}
use Rattle.vax_pairs.specs.vax_machine.specs.Loading.{Loads}
use Rattle.vax_pairs_law.specs.vax_alike.specs.Alike.{Alike}
use Rattle.vax_pairs_checked.specs.Accepted.{Cut, AreAccepted}

-- Where the second of two codes loads if the first does, and the two are accepted as a pair, they behave alike.
abbrev pub AcceptedCodesAreAlike : Type 0
AcceptedCodesAreAlike =
    (cuts : List Cut) (c d : Code) → is_code c ≡ true → is_code d ≡ true → (Loads c → Loads d × AreAccepted cuts c d) → Alike c d
