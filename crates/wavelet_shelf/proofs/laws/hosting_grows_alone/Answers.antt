use Rattle.wavelet_shelf.proofs.Growing.{grows_alone}
use Rattle.wavelet_shelf.proofs.laws.hosting_grows_alone.Goals as goal

pub returns : goal.returns
returns c = grows_alone
