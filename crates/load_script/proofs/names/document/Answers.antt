use Rattle.std.proofs.Common.{refl}
use Rattle.wave_base.specs.Grammar.{is_word, is_id}
use Rattle.load_script.specs.Names.{the_document}
use Rattle.load_script.proofs.names.document.Goals as goal

pub parsed_document-requires : goal.parsed_document-requires
unfolding is_id is_word
parsed_document-requires c = refl

pub returns : goal.returns
unfolding the_document
returns c = c.parsed_document.ensures
