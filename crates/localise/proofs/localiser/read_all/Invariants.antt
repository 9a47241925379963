use Rattle.std.proofs.Common.{take}
use Rattle.localise.specs.Kept.{AreKept}
use Rattle.localise.specs.Read.{meanings_of}
use Rattle.localise.proofs.localiser.read_all.Given as goal

-- the bundles so far are read
abbrev pub invariant-loop-text : goal.invariant-loop-text
invariant-loop-text l = AreKept l.tables (take l.text-index l.texts) (meanings_of l.read.list.items)
