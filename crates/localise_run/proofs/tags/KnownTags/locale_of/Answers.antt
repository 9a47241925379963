-- What the tag's bytes ask for, the request asks for; and it is known then.
use Rattle.std.proofs.Common.{Some}
use Rattle.std.proofs.lemmas.List.Elements.{All-set}
use Rattle.std.specs.Prelude.{IfSome}
use Rattle.localise_run.proofs.Lines.{got}
use Rattle.localise_run.proofs.TagBytes.{has_cause_there, wants_there}
use Rattle.localise_run.specs.Known.{IsKnown}
use Rattle.localise_run.proofs.tags.KnownTags.locale_of.Goals as goal

pub returns-in-Some-clause-ok : goal.returns-in-Some-clause-ok
returns-in-Some-clause-ok c = λ q there.
    wants_there c.args.tables.now c.args.requests.now c.args.number c.index-requests-number.result q
    c.as_str-tag.result.now c.requires.within c.index-requests-number.is c.as_str-tag.utf8
    c.as_str-tag.ensures
    there c.in-Some.locale c.in-Some.ensures

pub returns-in-Err-clause-err : goal.returns-in-Err-clause-err
returns-in-Err-clause-err c = λ q there.
    has_cause_there c.args.tables.now c.args.requests.now c.args.number
    c.index-requests-number.result q
    c.as_str-tag.result.now c.requires.within c.index-requests-number.is c.as_str-tag.utf8
    c.as_str-tag.ensures
    there c.in-Err.cause c.in-Err.ensures.err

pub returns-in-Ok-clause-ok : goal.returns-in-Ok-clause-ok
returns-in-Ok-clause-ok c = λ q there.
    wants_there c.args.tables.now c.args.requests.now c.args.number c.index-requests-number.result q
    c.as_str-tag.result.now c.requires.within c.index-requests-number.is c.as_str-tag.utf8
    c.as_str-tag.ensures
    there c.in-Ok.locale c.in-Ok.ensures.ok

pub returns-in-Ok-clause-kept : goal.returns-in-Ok-clause-kept
returns-in-Ok-clause-kept c =
    let q = c.index-requests-number.result in
    let there =
    got c.args.requests.now c.args.number q c.requires.within c.index-requests-number.is in
    All-set (λ place. IfSome place (IsKnown c.args.tables.now c.args.requests.now))
    c.args.self.now.places.items
    c.place_of-place.result (Some (record { request = c.args.number; locale = c.in-Ok.locale }))
    (record {
      request = q;
      request_is = there;
      wants =
          wants_there c.args.tables.now c.args.requests.now c.args.number q q
          c.as_str-tag.result.now c.requires.within
          c.index-requests-number.is c.as_str-tag.utf8 c.as_str-tag.ensures there c.in-Ok.locale
          c.in-Ok.ensures.ok;
    })
    c.requires.known
