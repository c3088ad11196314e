use Rattle.std.proofs.Common.{refl}
use Rattle.wave_base.specs.Grammar.{is_word, is_user, is_domain, before, behind, joined, is_address}
use Rattle.load_script.specs.Names.{user1}
use Rattle.load_script.proofs.names.user1.Goals as goal

pub parsed_address-requires : goal.parsed_address-requires
unfolding is_address joined before behind is_user is_domain is_word
parsed_address-requires c = refl

pub returns : goal.returns
unfolding user1
returns c = c.parsed_address.ensures
