use Rattle.unic_langid_impl.specs.Pieces.{pieces_of}
use Rattle.unic_langid_impl.proofs.PrintLemmas.{id-IsIdentifier, print-id}
use Rattle.unic_langid_impl.proofs.laws.printed_is_read.Goals as goal

pub returns : goal.returns
returns c = λ bytes i h. print-id i (id-IsIdentifier (pieces_of bytes) i h)
