use Rattle.unic_langid_impl.specs.Pieces.{pieces_of}
use Rattle.unic_langid_impl.proofs.Determined.{determined}
use Rattle.unic_langid_impl.proofs.PrintLemmas.{id-IsIdentifier}
use Rattle.unic_langid_impl.proofs.laws.id_determines.Goals as goal

pub returns-clause-one : goal.returns-clause-one
returns-clause-one c = λ bytes i j h k. determined (pieces_of bytes) i j h k

pub returns-clause-shape : goal.returns-clause-shape
returns-clause-shape c = λ bytes i h. id-IsIdentifier (pieces_of bytes) i h
