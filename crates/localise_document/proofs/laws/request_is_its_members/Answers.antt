use Rattle.localise_document.proofs.FactRequests.{request_is, request_has}
use Rattle.localise_document.proofs.laws.request_is_its_members.Goals as goal

pub returns : goal.returns
returns c = λ value q. (request_is value q, request_has value q)
