-- The tokens of a source are tokens of the grammar, so its unit's program is sound.
use Rattle.std.proofs.Common.{subst}
use Rattle.c_typed_words.specs.Words.{IsToken, EachIs}
use Rattle.c_typed_words.proofs.Spelled.{unit_of}
use Rattle.c_typed_words.proofs.Tokens.{each_token}
use Rattle.c_sound_texts.proofs.Law.{text_is_sound}
use Rattle.c_sound_sources.specs.Claim.{SourcesAreSound}

pub sources_are_sound : SourcesAreSound
sources_are_sound bytes p low reads =
    let s = reads.spells in
    let is = s.phrases in
    text_is_sound p reads.unit.externals reads.ends reads.unit.end
    (unit_of IsToken reads.unit (subst (EachIs IsToken) is.text (each_token 0 bytes s.list s.tokens low))) reads.typed
