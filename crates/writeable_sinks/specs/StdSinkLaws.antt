-- Texts that a `StdSink` took, one after another.
use Rattle.std.specs.Prelude.{◌≡◌, ℕ, List, [], ◌++◌, take, drop, Option, Some, None}
use Rattle.std.specs.Prelude.{encode_utf8_all}
use Rattle.std.specs.Io.KnownBytes.{Appends, Keeps}
use Rattle.std.proofs.Common.{sym, ap, ◌∙◌, append-nil, append_assoc, subst, arith}
use Rattle.std.proofs.lemmas.List.{take-append-drop}
use Rattle.std.proofs.lemmas.Str.{encodes-append}
use Rattle.writeable_sinks.specs.StdSink.{Writing, Writes, WrittenTo}

-- nothing was written
pub Appends-nothing : (held : Option (List ℕ)) → Appends held held []
Appends-nothing None = tt
Appends-nothing (Some xs) = sym (append-nil xs)

-- what is kept is what it was, with nothing behind it
pub Appends-kept : (old new : Option (List ℕ)) → Keeps old new → Appends old new []
Appends-kept None new kept = tt
Appends-kept (Some xs) None kept = absurd kept
Appends-kept (Some xs) (Some ys) kept = kept ∙ sym (append-nil xs)

-- bytes, and then others
pub Appends-both : (a b c : Option (List ℕ)) (s t : List ℕ) → Appends a b s → Appends b c t
    → Appends a c (s ++ t)
Appends-both None b c s t p q = tt
Appends-both (Some xs) None c s t p q = absurd p
Appends-both (Some xs) (Some ys) None s t p q = q
Appends-both (Some xs) (Some ys) (Some zs) s t p q = q ∙ ap (λ l. l ++ t) p ∙ append_assoc xs s t

-- more of the bytes, of which n were written
pub WrittenTo-more : (old mid new : Option (List ℕ)) (bytes rest left : List ℕ) (n : ℕ)
    → left ≡ drop n rest
    → WrittenTo old bytes rest mid → Appends mid new (take n rest) → WrittenTo old bytes left new
WrittenTo-more old mid new bytes rest left n is p q = record {
  front = p.front ++ take n rest;
  parts =
      ap (λ l. (p.front ++ take n rest) ++ l) is
      ∙ append_assoc p.front (take n rest) (drop n rest)
      ∙ ap (λ l. p.front ++ l) (take-append-drop n rest) ∙ p.parts;
  taken = Appends-both old mid new p.front (take n rest) p.taken q;
}

module _ {W : Type 0} (contents : W → Option (List ℕ)) where
  pub Writes-nothing : (s : Writing W) → Writes contents s [] s
  Writes-nothing s =
      record { later = omega arith; written = λ _. Appends-nothing (contents s.writer) }

  pub Writes-both : (a b c : Writing W) (s t : List ℕ) → Writes contents a s b
      → Writes contents b t c → Writes contents a (s ++ t) c
  Writes-both a b c s t p q = record {
    later = omega (arith, p.later, q.later);
    written = λ none.
        let first = p.written (λ rose. none (omega (arith, q.later))) in
        let second = q.written (λ rose. none (omega (arith, p.later))) in
        subst (Appends (contents a.writer) (contents c.writer)) (sym (encodes-append s t))
        (Appends-both (contents a.writer) (contents b.writer) (contents c.writer)
        (encode_utf8_all s) (encode_utf8_all t) first second);
  }
