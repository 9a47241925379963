-- What a `PartsSink` holds once it has taken a marked text are the spans of that text.
use Rattle.std.proofs.Common.{◌≡◌, ℕ, length, arith, List, [], ◌∷◌, ◌++◌, Some, refl, sym, ap, ◌∙◌}
use Rattle.std.proofs.Common.{subst, append_assoc, append-nil}
use Rattle.writeable_core.specs.Hint.{byte_length}
use Rattle.writeable_core.specs.Marks.{Mark, Character, Open, Close, PartName, characters, inside}
use Rattle.writeable_core.specs.Marks.{Nests}
use Rattle.writeable_core.specs.MarksLaws.{characters-append, Nests-append, Nests-balanced}
use Rattle.writeable_core.specs.MarksLaws.{Nests-inside}
use Rattle.writeable_sinks.specs.PartsSink.{Parts, Begun, parts, no_parts, with_text, with_part}
use Rattle.writeable_sinks.specs.PartsSink.{without_part, parts_after, TookMarks}
use Rattle.writeable_sinks.specs.PartsSinkLaws.{TookMarks-open, TookMarks-text, passed_on}
use Rattle.writeable_sinks.specs.Spans.{Spans, span_unless_empty}

-- the parts that are open after these marks, from the one that was opened last on
data OpenAre : List Mark → List Begun → Type 0 where
  none : (marks : List Mark) → OpenAre marks []
  one : (front inner : List Mark) (start : ℕ) (part : PartName) (others : List Begun)
      → Nests inner → start ≡ byte_length (characters front) → OpenAre front others
      → OpenAre (front ++ Open part ∷ inner) (record { start = start; part = part } ∷ others)

-- the sink after these marks
record Reached (marks : List Mark) (sink : Parts) : Type 0 where
  text : sink.text ≡ characters marks
  begun : OpenAre marks sink.begun
  spans : Spans marks sink.spans

-- marks that nest leave open what was
OpenAre-append : (marks : List Mark) (begun : List Begun) (more : List Mark) → Nests more
    → OpenAre marks begun → OpenAre (marks ++ more) begun
OpenAre-append marks [] more nests open_are = none (marks ++ more)
OpenAre-append _ (_ ∷ _) more nests (one front inner start part others ni e rest) =
    subst (λ ms. OpenAre ms (record { start = start; part = part } ∷ others))
    (sym (append_assoc front (Open part ∷ inner) more))
    (one front (inner ++ more) start part others (Nests-append inner more ni nests) e rest)

reached-character : (marks : List Mark) (sink : Parts) (c : ℕ) → Reached marks sink
    → Reached (marks ++ Character c ∷ []) (with_text sink (c ∷ []))
reached-character marks sink c r = record {
  text = ap (λ t. t ++ c ∷ []) r.text ∙ sym (characters-append marks (Character c ∷ []));
  begun =
      OpenAre-append marks sink.begun (Character c ∷ [])
      (Nests.character c [] Nests.nothing) r.begun;
  spans = Spans.character c marks sink.spans r.spans;
}

reached-open : (marks : List Mark) (sink : Parts) (part : PartName) → Reached marks sink
    → Reached (marks ++ Open part ∷ []) (with_part sink part)
reached-open marks sink part r = record {
  text = r.text ∙ sym (characters-append marks (Open part ∷ []) ∙ append-nil (characters marks));
  begun =
      one marks [] (byte_length sink.text) part sink.begun Nests.nothing
      (ap byte_length r.text) r.begun;
  spans = Spans.opening part marks sink.spans r.spans;
}

reached-close : (marks : List Mark) (sink now : Parts) (begun : List Begun)
    → without_part sink begun ≡ Some now
    → sink.text ≡ characters marks → OpenAre marks begun → Spans marks sink.spans
    → Reached (marks ++ Close ∷ []) now
reached-close marks sink now [] e text open_are spans = absurd (cc)
reached-close _ sink now (_ ∷ _) e text (one front inner start part others ni begins rest) spans =
    let is : parts sink.text others
    (sink.spans ++ span_unless_empty start (byte_length sink.text) part) ≡ now = cc in
    let regroup : front ++ inside part inner ≡ (front ++ Open part ∷ inner) ++ Close ∷ [] =
    sym (append_assoc front (Open part ∷ inner) (Close ∷ [])) in
    let ends : sink.text ≡ characters (front ++ inner) =
    text ∙ characters-append front (Open part ∷ inner) ∙ sym (characters-append front inner) in
    subst (Reached ((front ++ Open part ∷ inner) ++ Close ∷ [])) is record {
      text =
          text ∙ sym (characters-append (front ++ Open part ∷ inner) (Close ∷ []) ∙ append-nil _);
      begun =
          subst (λ ms. OpenAre ms others) regroup
          (OpenAre-append front others (inside part inner) (Nests-inside part inner ni) rest);
      spans =
          subst
          (λ ms. Spans ms (sink.spans ++ span_unless_empty start (byte_length sink.text) part))
          regroup
          (subst
          (λ n. Spans (front ++ inside part inner)
          (sink.spans ++ span_unless_empty n (byte_length sink.text) part)) (sym begins)
          (subst
          (λ t. Spans (front ++ inside part inner)
          (sink.spans ++ span_unless_empty (byte_length (characters front))
          (byte_length t) part)) (sym ends)
          (Spans.closing part front inner sink.spans spans ni)));
    }

-- more marks
reached-all : (marks done : List Mark) (sink now : Parts) → Reached done sink
    → parts_after sink marks ≡ Some now → Reached (done ++ marks) now
reached-all [] done sink now r e =
    let is : sink ≡ now = cc in
    subst (λ ms. Reached ms now) (sym (append-nil done)) (subst (Reached done) is r)
reached-all (Character c ∷ marks) done sink now r e =
    subst (λ ms. Reached ms now) (append_assoc done (Character c ∷ []) marks)
    (reached-all marks (done ++ Character c ∷ []) (with_text sink (c ∷ [])) now
    (reached-character done sink c r) e)
reached-all (Open part ∷ marks) done sink now r e =
    subst (λ ms. Reached ms now) (append_assoc done (Open part ∷ []) marks)
    (reached-all marks (done ++ Open part ∷ []) (with_part sink part) now
    (reached-open done sink part r) e)
reached-all (Close ∷ marks) done sink now r e =
    let step = passed_on (λ x. parts_after x marks) (without_part sink sink.begun) now e in
    subst (λ ms. Reached ms now) (append_assoc done (Close ∷ []) marks)
    (reached-all marks (done ++ Close ∷ []) step.0 now
    (reached-close done sink step.0 sink.begun step.1 r.text r.begun r.spans) step.2)

-- a sink that had taken nothing holds the spans of what it took
pub spans_of_taken : (marks : List Mark) (now : Parts) → TookMarks no_parts marks now
    → Spans marks now.spans
spans_of_taken marks now took =
    (reached-all marks [] no_parts now
    record { text = refl; begun = none []; spans = Spans.nothing } took).spans

-- a sink that had taken nothing, and has taken a text whose marks nest
pub record Holds (marks : List Mark) (sink : Parts) : Type 0 where
  pub text : sink.text ≡ characters marks
  pub spans : Spans marks sink.spans
  pub closed : sink.begun ≡ []

no_begun : (begun : List Begun) → length begun ≡ 0 → begun ≡ []
no_begun [] e = refl
no_begun (x ∷ begun) e = absurd (omega arith)

pub holds_taken : (marks : List Mark) (before now : Parts) → Nests marks → before ≡ no_parts
    → TookMarks before marks now → Holds marks now
holds_taken marks before now nests empty took =
    let from_none : TookMarks no_parts marks now = subst (λ s. TookMarks s marks now) empty took in
    record {
      text = TookMarks-text no_parts now marks from_none;
      spans = spans_of_taken marks now from_none;
      closed =
          let balanced = Nests-balanced marks nests in
          let opened = TookMarks-open no_parts now marks from_none in
          no_begun now.begun (omega arith);
    }
