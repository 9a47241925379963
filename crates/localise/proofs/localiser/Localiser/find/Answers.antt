use Rattle.std.proofs.Common.{sym, subst}
use Rattle.localise.specs.Given.{IsGivenBy}
use Rattle.localise.specs.Read.{meanings_of}
use Rattle.localise.proofs.Outcomes.{given_at}
use Rattle.localise.proofs.localiser.Localiser.find.Goals as goal

pub returns-in-Some-clause-ok : goal.returns-in-Some-clause-ok
returns-in-Some-clause-ok c = λ bundles alike.
    let F = c.args.self.now.tables.now.fallbacker in
    let root = c.args.self.now.root in
    let q = c.args.request.now in
    let stop = c.in-Some.stop in
    subst (IsGivenBy F bundles root c.args.wanted q) (sym c.of_stop.ensures)
    (given_at F (meanings_of c.args.self.now.bundles.list.items) bundles root c.args.wanted q
    stop.locale stop.steps stop.translation
    alike c.in-Some.ensures.outcome c.in-Some.ensures.locale)
