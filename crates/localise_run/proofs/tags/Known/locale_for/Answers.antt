-- The tag's bytes are those of a known request's tag.
use Rattle.std.proofs.Common.{sym}
use Rattle.std.proofs.lemmas.Slice.Eq.{bytes_eq-Decides}
use Rattle.localise_run.proofs.TagBytes.{known_wants}
use Rattle.localise_run.proofs.tags.Known.locale_for.Goals as goal

pub returns-then-eq : goal.returns-then-eq
returns-then-eq c =
    let bytes = c.as_str.result.now in
    known_wants c.args.tables.now c.args.requests.now c.args.self c.index-requests-self.result
    bytes c.args.tag.now c.requires c.index-requests-self.is c.as_str.utf8 c.as_str.ensures
    ((bytes_eq-Decides bytes c.args.tag.now).0 (sym c.if-eq.ensures))
