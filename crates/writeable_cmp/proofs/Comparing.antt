-- Comparing a text piece by piece.
use Rattle.std.specs.Prelude.{◌==◌, not, Result, Ok, Err, OnOk, OnErr}
use Rattle.std.proofs.Common.{◌≡◌, ℕ, ◌≤◌, min, List, [], ◌++◌, length, take, drop, refl, ap, sym}
use Rattle.std.proofs.Common.{◌∙◌, arith, encode_utf8_all, append-nil, subst, false, true}
use Rattle.std.proofs.lemmas.Str.{encodes-append}
use Rattle.std.specs.Ordering.{nat_cmp, ordering_then, ordering_index}
use Rattle.std.specs.Cmp.Lexicographic.{slice_cmp}
use Rattle.std.specs.declared.cmp.Ordering.{Ordering}
use Rattle.std.specs.declared.cmp.Ordering.TheVariants.{Less, Equal, Greater}
use Rattle.writeable_cmp.specs.Comparing.{Comparison, outcome, decisions, ComparedBytes, Compared}
use Rattle.writeable_core.specs.OrderingLaws.{slice_cmp-cut}
use Rattle.writeable_core.specs.Sink.{TookPrefix, HasCause}
use Rattle.writeable_core.specs.declared.sink.SinkError.{SinkError}
use Rattle.writeable_core.specs.declared.sink.SinkError.TheVariants.{Fault, NoMemory}

-- the next bytes, where nothing is decided yet
pub compared_cut : (old now : Comparison) (p : List ℕ) (n : ℕ) → old.order ≡ Equal
    → n ≡ min (length p) (length old.rest)
    → now.rest ≡ drop n old.rest → now.order ≡ slice_cmp nat_cmp p (take n old.rest)
    → ComparedBytes old p now
compared_cut old now p n undecided e rest order = record {
  outcome = λ more.
      ap (λ o. ordering_then o (slice_cmp nat_cmp (p ++ more) old.rest)) undecided
      ∙ slice_cmp-cut n p old.rest more e
      ∙ ap (λ o. ordering_then o (slice_cmp nat_cmp more (drop n old.rest))) (sym order)
      ∙ ap (λ r. ordering_then now.order (slice_cmp nat_cmp more r)) (sym rest);
  later = subst (λ o. decisions o ≤ decisions now.order) (sym undecided) (omega arith);
}

-- what is decided stays so, whatever follows
decided : (s : Comparison) (more : List ℕ) → 1 ≤ decisions s.order → outcome s more ≡ s.order
decided s more some = decided_order s.order more s.rest some where
  decided_order : (o : Ordering) (more rest : List ℕ) → 1 ≤ decisions o
      → ordering_then o (slice_cmp nat_cmp more rest) ≡ o
  decided_order Less more rest some = refl
  decided_order Equal more rest some = absurd (omega arith)
  decided_order Greater more rest some = refl

-- a whole text was compared
pub compared_all : (old now : Comparison) (text : List ℕ) → Compared old text now
    → outcome old (encode_utf8_all text) ≡ outcome now []
compared_all old now text p =
    ap (outcome old) (sym (append-nil (encode_utf8_all text))) ∙ p.outcome []

-- a front of a text was compared, and decides
pub compared_front : (old now : Comparison) (text : List ℕ) → TookPrefix Compared old text now
    → 1 ≤ decisions now.order
    → outcome old (encode_utf8_all text) ≡ outcome now []
compared_front old now text p some =
    ap (λ t. outcome old (encode_utf8_all t)) (sym p.parts)
    ∙ ap (outcome old) (encodes-append p.front p.rest)
    ∙ p.taken.outcome (encode_utf8_all p.rest)
    ∙ decided now (encode_utf8_all p.rest) some ∙ sym (decided now [] some)

-- what the test `order != Ordering::Equal` says where it fails
pub equal_by_test : (o : Ordering) → not (ordering_index o == 1) ≡ false → o ≡ Equal
equal_by_test Less e = absurd (cc)
equal_by_test Equal e = refl
equal_by_test Greater e = absurd (cc)

-- what was written decides, whether the writing ended early or not
pub written : {T : Type 0} (r : Result T SinkError) (old now : Comparison) (text : List ℕ)
    → OnOk r (Compared old text now) → OnErr r (TookPrefix Compared old text now)
    → HasCause (decisions old.order) (decisions now.order) false r
    → old.order ≡ Equal → outcome old (encode_utf8_all text) ≡ outcome now []
written (Ok x) old now text ok err cause begins = compared_all old now text ok
written (Err Fault) old now text ok err cause begins =
    let rose = cause.fault refl in
    let none = ap decisions begins in
    compared_front old now text err (omega arith)
written (Err NoMemory) old now text ok err cause begins = let no : false ≡ true =
    cause.no_memory refl in absurd (cc)
