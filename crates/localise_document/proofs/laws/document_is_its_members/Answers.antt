use Rattle.localise_document.proofs.FactDocument.{document_has, document_is}
use Rattle.localise_document.proofs.laws.document_is_its_members.Goals as goal

pub returns : goal.returns
returns c = λ value d. (document_is value d, document_has value d)
