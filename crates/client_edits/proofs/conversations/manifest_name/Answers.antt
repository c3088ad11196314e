use Rattle.std.proofs.Common.{refl}
use Rattle.wave_base.specs.Grammar.{is_word, is_id}
use Rattle.client_edits.proofs.conversations.manifest_name.Goals as goal

pub parsed-requires : goal.parsed-requires
unfolding is_id is_word
parsed-requires c = refl
