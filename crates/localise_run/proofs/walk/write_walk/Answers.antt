use Rattle.std.proofs.Common.{refl}
use Rattle.localise_run.specs.Walking.{in_walk}
use Rattle.localise_run.proofs.walk.write_walk.Goals as goal

pub returns-in_default-clause-err : goal.returns-in_default-clause-err
returns-in_default-clause-err g c =
    let loops = c.in_default.ensures.loops in
    record { cause = _; fault = in_walk c.requires loops.1 refl; status_is = refl; kept = refl }
