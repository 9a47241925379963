-- The fields of a `PartsSink`, and what a contract sees of it.
use Rattle.std.proofs.Common.{◌≡◌, ℕ, ◌<◌, ◌≤◌, List, [], ◌∷◌, ◌++◌, map, reverse, ap, sym, ◌∙◌}
use Rattle.std.proofs.Common.{arith, append-nil}
use Rattle.std.proofs.lemmas.Bool.Decides.{nat_tests}
use Rattle.std.proofs.lemmas.List.{reverse-append, map-append}
use Rattle.writeable_core.specs.Hint.{byte_length}
use Rattle.writeable_core.specs.Marks.{part_name}
use Rattle.writeable_sinks.specs.PartsFields.{begun_of}
use Rattle.writeable_sinks.specs.PartsSink.{Parts, Begun, parts, with_span}
use Rattle.writeable_sinks.specs.Spans.{Span, span_of, span_unless_empty}
use Rattle.writeable_sinks.specs.declared.parts_sink.PartSpan.{PartSpan}
use Rattle.writeable_sinks.specs.declared.parts_sink.Opened.{Opened}

-- two sinks of the same text, open parts and spans
pub same_parts : {t u : List ℕ} {b d : List Begun} {s r : List Span} → t ≡ u → b ≡ d → s ≡ r
    → parts t b s ≡ parts u d r
same_parts p q w = cc

-- a part that is opened behind others comes first
pub begun-snoc : (front : List Opened) (last : Opened) (start : ℕ) → last.start ≡ start
    → reverse (map begun_of (front ++ last ∷ []))
    ≡ record { start = start; part = part_name last.part } ∷ reverse (map begun_of front)
begun-snoc front last start e =
    let begins : ℕ → Begun = λ n. record { start = n; part = part_name last.part } in
    ap reverse (map-append begun_of front (last ∷ []))
    ∙ reverse-append (map begun_of front) (begun_of last ∷ [])
    ∙ ap (λ n. begins n ∷ reverse (map begun_of front)) e

-- a part that doesn't end behind its start has no span
pub with_span-none : (sink : Parts) (part : Begun) → byte_length sink.text ≤ part.start
    → sink ≡ with_span sink part
with_span-none sink part empty =
    let none : span_unless_empty part.start (byte_length sink.text) part.part ≡ [] =
    grind (arith, nat_tests) in
    ap (parts sink.text sink.begun)
    (sym (append-nil sink.spans) ∙ ap (λ s. sink.spans ++ s) (sym none))

pub with_span-some : (sink : Parts) (part : Begun) (spans : List Span)
    → part.start < byte_length sink.text
    → spans ≡ sink.spans
    ++ record { start = part.start; end = byte_length sink.text; part = part.part } ∷ []
    → parts sink.text sink.begun spans ≡ with_span sink part
with_span-some sink part spans some e =
    let one : span_unless_empty part.start (byte_length sink.text) part.part
    ≡ record { start = part.start; end = byte_length sink.text; part = part.part } ∷ [] =
    grind (arith, nat_tests) in
    ap (parts sink.text sink.begun) (e ∙ ap (λ s. sink.spans ++ s) (sym one))

-- the spans with one more, which ends at n
pub spans-snoc : (front : List PartSpan) (last : PartSpan) (end : ℕ) → last.end ≡ end
    → map span_of (front ++ last ∷ []) ≡ map span_of front
    ++ record { start = last.start; end = end; part = part_name last.part } ∷ []
spans-snoc front last end e =
    let ends : ℕ → Span = λ n. record { start = last.start; end = n; part = part_name last.part } in
    map-append span_of front (last ∷ []) ∙ ap (λ n. map span_of front ++ ends n ∷ []) e
