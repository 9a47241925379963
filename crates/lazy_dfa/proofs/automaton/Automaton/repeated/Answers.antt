use Rattle.std.proofs.Common.{refl}
use Rattle.lazy_dfa.proofs.Repeating.{star_read, plus_read, optional_read}
use Rattle.lazy_dfa.proofs.automaton.Automaton.repeated.Goals as goal

pub returns-in-Some : goal.returns-in-Some
returns-in-Some c = λ e before text b.
    star_read e before text c.args.atom c.args.self.now c.link.new.self c.optional-part.result
    c.in-Some.rest b c.link.ensures c.optional-part.ensures.star c.in-Some.ensures

pub returns-in-Some-behind : goal.returns-in-Some-behind
returns-in-Some-behind c = λ e before text b.
    plus_read e before text c.args.atom c.args.self.now c.link-in-Some-behind.new.self
    c.args.atom.part c.in-Some-behind.rest b c.in_default.ensures c.link-in-Some-behind.ensures
    refl c.in-Some-behind.ensures

pub returns-in-Some-behind-2 : goal.returns-in-Some-behind-2
returns-in-Some-behind-2 c = λ e before text b.
    optional_read e before text c.args.atom c.args.self.now c.args.self.now
    c.optional-part-in-Some-behind-2.result c.in-Some-behind-2.rest b c.in_default.ensures
    c.in_default-behind.ensures c.optional-part-in-Some-behind-2.ensures.optional
    c.in-Some-behind-2.ensures
