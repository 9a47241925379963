-- The first extension of the text, and the others.
use Rattle.std.proofs.Common.{◌≡◌, ◌∷◌, None, arith, ap, length, sym, ◌∙◌, map}
use Rattle.std.specs.Option.{option_copied}
use Rattle.language_tags.specs.Extensions.{extensions_in, item_of}
use Rattle.std.specs.Prelude.{slice_index}
use Rattle.language_tags_grammar.specs.Pieces.{joined}
use Rattle.language_tags_grammar.specs.Lemmas.PieceLaws.{fewer}
use Rattle.language_tags.proofs.ExtensionLaws.{content-text, end-within, first-byte, pieces-within}
use Rattle.language_tags.proofs.ExtensionLaws.{rest-kept, rest-view, text-ascii, the_cut}
use Rattle.language_tags.proofs.extensions.ExtensionsIteratorIterator.next.Goals as goal

pub content_length-requires : goal.content_length-requires
content_length-requires c =
    omega (
      arith,
      c.as_bytes-bytes.ensures.len,
      ap length c.as_bytes-bytes.ensures.value,
      pieces-within c.self.inside.rest c.in_ok-text.text c.self.invariant
          c.in_ok-text.ensures.value c.new-pieces.result c.next.new.self c.in_ok-first.first.now
          c.in_ok-first.ensures.steps c.new-pieces.ensures,
    )

pub overflow_add-end : goal.overflow_add-end
overflow_add-end c =
    omega (
      arith,
      c.as_bytes-bytes.ensures.len,
      ap length c.as_bytes-bytes.ensures.value,
      end-within c.self.inside.rest c.in_ok-text.text c.self.invariant c.in_ok-text.ensures.value
          c.new-pieces.result c.next.new.self c.in_ok-first.first.now c.in_ok-first.ensures.steps
          c.new-pieces.ensures c.content_length.result c.content_length.ensures,
    )

pub part-self-inside-requires : goal.part-self-inside-requires
part-self-inside-requires c = record {
  ascii =
      text-ascii c.self.inside.rest c.in_ok-text.text c.self.invariant c.in_ok-text.ensures.value
      c.new-pieces.result c.next.new.self c.in_ok-first.first.now c.in_ok-first.ensures.steps
      c.new-pieces.ensures;
  ordered =
      omega (
        arith,
        end-within c.self.inside.rest c.in_ok-text.text c.self.invariant
            c.in_ok-text.ensures.value c.new-pieces.result c.next.new.self c.in_ok-first.first.now
            c.in_ok-first.ensures.steps c.new-pieces.ensures c.content_length.result
            c.content_length.ensures,
      );
  within = omega arith;
}

pub part-requires : goal.part-requires
part-requires c = record {
  ascii =
      text-ascii c.self.inside.rest c.in_ok-text.text c.self.invariant c.in_ok-text.ensures.value
      c.new-pieces.result c.next.new.self c.in_ok-first.first.now c.in_ok-first.ensures.steps
      c.new-pieces.ensures;
  ordered = omega arith;
  within =
      omega (
        arith,
        end-within c.self.inside.rest c.in_ok-text.text c.self.invariant
            c.in_ok-text.ensures.value c.new-pieces.result c.next.new.self c.in_ok-first.first.now
            c.in_ok-first.ensures.steps c.new-pieces.ensures c.content_length.result
            c.content_length.ensures,
      );
}

pub invariant_of-self-in_err-content : goal.invariant_of-self-in_err-content
invariant_of-self-in_err-content c =
    rest-kept c.self.inside.rest c.in_ok-text.text c.self.invariant c.in_ok-text.ensures.value
    c.new-pieces.result c.next.new.self c.in_ok-first.first.now c.in_ok-first.ensures.steps
    c.new-pieces.ensures c.content_length.result c.content_length.ensures
    (option_copied c.part-self-inside.result) c.part-self-inside.ensures

pub returns-in_err-content-clause-steps : goal.returns-in_err-content-clause-steps
returns-in_err-content-clause-steps c =
    let some =
    content-text c.self.inside.rest c.in_ok-text.text c.self.invariant
    c.in_ok-text.ensures.value c.new-pieces.result c.next.new.self c.in_ok-first.first.now
    c.in_ok-first.ensures.steps c.new-pieces.ensures c.content_length.result
    c.content_length.ensures (option_copied c.part.result) c.part.ensures in
    let none : option_copied c.part.result ≡ None = ap option_copied c.in_err-content.was in
    cc

pub invariant_of-self-2 : goal.invariant_of-self-2
invariant_of-self-2 c =
    rest-kept c.self.inside.rest c.in_ok-text.text c.self.invariant c.in_ok-text.ensures.value
    c.new-pieces.result c.next.new.self c.in_ok-first.first.now c.in_ok-first.ensures.steps
    c.new-pieces.ensures c.content_length.result c.content_length.ensures
    (option_copied c.part-self-inside.result) c.part-self-inside.ensures

steps : (c : goal.After-content-2-1) → map item_of c.args.self.now
    ≡ (c.from.result, c.in_ok-content.content.now)
    ∷ map item_of (extensions_in (option_copied c.part-self-inside.result))
steps c =
    let some =
    content-text c.self.inside.rest c.in_ok-text.text c.self.invariant
    c.in_ok-text.ensures.value c.new-pieces.result c.next.new.self c.in_ok-first.first.now
    c.in_ok-first.ensures.steps c.new-pieces.ensures c.content_length.result
    c.content_length.ensures (option_copied c.part.result) c.part.ensures in
    let now = ap option_copied c.in_ok-content.was in
    let first =
    the_cut c.self.inside.rest c.in_ok-text.text c.self.invariant c.in_ok-text.ensures.value
    c.new-pieces.result c.next.new.self c.in_ok-first.first.now c.in_ok-first.ensures.steps
    c.new-pieces.ensures in
    let content : joined first.first.content ≡ c.in_ok-content.content.now = cc in
    let char : first.first.singleton ≡ c.from.result =
    sym (c.from.ensures ∙ ap (λ b. slice_index b 0) c.as_bytes-bytes.ensures.value
    ∙ first-byte c.self.inside.rest c.in_ok-text.text c.self.invariant
    c.in_ok-text.ensures.value c.new-pieces.result c.next.new.self c.in_ok-first.first.now
    c.in_ok-first.ensures.steps c.new-pieces.ensures) in
    ap (map item_of) (sym c.self.view_is ∙ first.are)
    ∙ (λ i. (char i, content i) ∷ map item_of
    (sym
    (rest-view c.self.inside.rest c.in_ok-text.text c.self.invariant
    c.in_ok-text.ensures.value c.new-pieces.result c.next.new.self
    c.in_ok-first.first.now c.in_ok-first.ensures.steps c.new-pieces.ensures
    c.content_length.result c.content_length.ensures
    (option_copied c.part-self-inside.result) c.part-self-inside.ensures) i))

pub returns-clause-steps : goal.returns-clause-steps
returns-clause-steps c = steps c

pub returns-clause-goes : goal.returns-clause-goes
returns-clause-goes c = record {
  on =
      λ _. (
        tt,
        tt,
        fewer (map item_of c.args.self.now) (c.from.result, c.in_ok-content.content.now)
            (map item_of (extensions_in (option_copied c.part-self-inside.result))) (steps c),
      );
  keeps = tt;
  rests = λ _. tt;
}
