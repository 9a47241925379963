use Rattle.wanted_locale.proofs.LeastVariant.{LeastIsKept-holds}
use Rattle.wanted_locale.proofs.laws.least_is_kept.Goals as goal

pub returns : goal.returns
returns c = LeastIsKept-holds
