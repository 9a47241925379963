-- How many parts are open behind a mark.
use Rattle.std.specs.Prelude.{◌≡◌, ℕ, ◌+◌, [], ◌∷◌, length}
use Rattle.std.proofs.Common.{arith}
use Rattle.writeable_core.specs.Marks.{Open, Close, PartName}
use Rattle.writeable_sinks.specs.PartsSink.{Parts, TookMarks}
use Rattle.writeable_sinks.specs.PartsSinkLaws.{TookMarks-open}

-- an opening mark opens one more
pub opened : (a b : Parts) (part : PartName) → TookMarks a (Open part ∷ []) b
    → length b.begun ≡ length a.begun + 1
opened a b part took = let marks = TookMarks-open a b (Open part ∷ []) took in omega arith

-- a closing mark closes one
pub closed : (a b : Parts) → TookMarks a (Close ∷ []) b → length a.begun ≡ length b.begun + 1
closed a b took = let marks = TookMarks-open a b (Close ∷ []) took in omega arith
