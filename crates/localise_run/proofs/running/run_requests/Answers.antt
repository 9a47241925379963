-- The command that it is makes of the requests what it makes.
use Rattle.std.proofs.Common.{sym, subst}
use Rattle.localise.specs.Views.{root_of}
use Rattle.localise_run.specs.Answers.{Begins, IsMade}
use Rattle.localise_run.specs.Run.{Gives, written}
use Rattle.localise_run.specs.declared.command.Command.{Command}
use Rattle.localise_run.proofs.running.run_requests.Goals as goal

pub returns-in-Render : goal.returns-in-Render
returns-in-Render g c = λ bundles alike.
    let T = c.args.tables.now in
    let root = root_of c.args.localiser.now in
    subst
    (λ (x : Command). Gives g.O.Sink.took (IsMade x T bundles root c.args.requests.now)
    (Begins x T bundles root c.args.requests.now)
    (written g.O.Sink.faults g.O.Sink.takes_memory c.args.out.now c.write_lines.new.out)
    c.write_lines.result)
    (sym c.in-Render.is) (c.write_lines.ensures bundles alike)

pub returns-in-Walk : goal.returns-in-Walk
returns-in-Walk g c = λ bundles alike.
    let T = c.args.tables.now in
    let root = root_of c.args.localiser.now in
    subst
    (λ (x : Command). Gives g.O.Sink.took (IsMade x T bundles root c.args.requests.now)
    (Begins x T bundles root c.args.requests.now)
    (written g.O.Sink.faults g.O.Sink.takes_memory c.args.out.now c.write_walks.new.out)
    c.write_walks.result)
    (sym c.in-Walk.is) c.write_walks.ensures

pub returns-in-Generate : goal.returns-in-Generate
returns-in-Generate g c = λ bundles alike.
    let T = c.args.tables.now in
    let root = root_of c.args.localiser.now in
    subst
    (λ (x : Command). Gives g.O.Sink.took (IsMade x T bundles root c.args.requests.now)
    (Begins x T bundles root c.args.requests.now)
    (written g.O.Sink.faults g.O.Sink.takes_memory c.args.out.now c.write_numbers.new.out)
    c.write_numbers.result)
    (sym c.in-Generate.is) (c.write_numbers.ensures bundles alike)
