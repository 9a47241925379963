use Rattle.std.proofs.Common.{sym, ◌∙◌, ap, arith, length}
use Rattle.std.specs.Char.{to_ascii_lowercase}
use Rattle.std.proofs.lemmas.Slice.Zip.{zip_turn, zip_end}
use Rattle.icu_locale_fallback.proofs.Lowercase.{begins-all, begins-other, begins-short}
use Rattle.icu_locale_fallback.proofs.normal.begins_in_lowercase.Goals as goal

pub returns-then-text-front : goal.returns-then-text-front
returns-then-text-front c = sym (begins-short c.args.front.now c.args.text.now c.if-text-front.true)

pub returns-then-to_ascii_lowercase-lower : goal.returns-then-to_ascii_lowercase-lower
returns-then-to_ascii_lowercase-lower c =
    let front = c.args.front.now in
    let text = c.args.text.now in
    let turn =
    zip_turn front text c.loop-upper.yielded _ _ c.next.new.self _ (cc)
    (cc) c.loop-upper.yielded_by _ c.in-Some.is c.next.ensures.steps in
    sym (begins-other front text (length c.loop-upper.yielded) turn.0 (omega arith)
    (λ e. c.if-to_ascii_lowercase-lower.true
    (c.to_ascii_lowercase.ensures.value ∙ ap to_ascii_lowercase (turn.2 0) ∙ e
    ∙ sym (turn.3 0))))

pub returns : goal.returns
returns c =
    let front = c.args.front.now in
    let text = c.args.text.now in
    let all =
    zip_end front text c.loop-upper.yielded _ _ c.next.new.self _ (cc)
    (cc) c.loop-upper.yielded_by c.in-None.is c.next.ensures.steps in
    sym (begins-all front text (omega arith) (λ k h. c.loop-upper.invariant k (omega arith)))
