-- The lines of requests, and the one answer of them.
use Rattle.std.proofs.Common.{◌≡◌, ℕ, zero, suc, ◌+◌, ◌<◌, List, [], ◌∷◌, ◌++◌, Some, length, take}
use Rattle.std.proofs.Common.{get_or, refl, sym, ap, ap₂, ◌∙◌, subst, arith, inl, inr, append_assoc}
use Rattle.std.proofs.Common.{append-nil}
use Rattle.std.specs.Prelude.{slice_get}
use Rattle.std.proofs.lemmas.Bool.{cases_lt}
use Rattle.std.proofs.lemmas.List.{take_more}
use Rattle.localise_run.specs.Requests.{AreAnswered, AreLines, StopsAt, all, up_to}
use Rattle.localise_status.specs.declared.status.RequestCause.{RequestCause}
use Rattle.localise_status.specs.declared.status.Status.{Status}
use Rattle.localise_status.specs.declared.status.Status.TheVariants.{Request as Refused}
use Rattle.localise_texts.specs.declared.request.Request.{Request}

-- what stands at a place of a list is there
pub got : (qs : List Request) (i : ℕ) (q : Request) → i < length qs → q ≡ get_or qs i q
    → slice_get qs i ≡ Some q
got [] i q within is = absurd (omega (arith, within))
got (p ∷ qs) zero q within is = ap Some (sym is)
got (p ∷ qs) (suc i) q within is = got qs i q (omega (arith, within)) is

module _ (Line : Request → List ℕ → Type 0) (Fault : Request → RequestCause → Type 0) where
  -- a line behind others
  lines_behind : (qs : List Request) (q : Request) (text line : List ℕ)
      → AreLines Line Fault qs text → Line q line
      → AreLines Line Fault (qs ++ q ∷ []) (text ++ line)
  lines_behind [] q text line h l =
      (line, [], l, refl, ap (λ t. t ++ line) h ∙ sym (append-nil line))
  lines_behind (p ∷ qs) q text line h l = (
    h.0,
    h.1 ++ line,
    h.2,
    lines_behind qs q h.1 line h.3 l,
    ap (λ t. t ++ line) h.4 ∙ append_assoc h.0 h.1 line,
  )

  -- the lines of one request more
  pub lines_more : (qs : List Request) (i : ℕ) (q : Request) (text line : List ℕ) → i < length qs
      → q ≡ get_or qs i q
      → AreLines Line Fault (take i qs) text → Line q line
      → AreLines Line Fault (take (i + 1) qs) (text ++ line)
  lines_more qs i q text line within is h l =
      subst (λ ps. AreLines Line Fault ps (text ++ line))
      (sym (take_more qs i q within ∙ ap (λ p. take i qs ++ p ∷ []) (sym is)))
      (lines_behind (take i qs) q text line h l)

  -- a request before the end of leading lines has a line
  line_at : (qs : List Request) (i j : ℕ) (q : Request) (text : List ℕ) → i < j
      → slice_get qs i ≡ Some q
      → AreLines Line Fault (take j qs) text → (line : List ℕ) × Line q line
  line_at [] i j q text less is h = cc
  line_at (p ∷ qs) i zero q text less is h = absurd (omega (arith, less))
  line_at (p ∷ qs) zero (suc j) q text less is h = let same : p ≡ q = cc in
      (h.0, subst (λ r. Line r h.0) same h.2)
  line_at (p ∷ qs) (suc i) (suc j) q text less is h =
      line_at qs i j q h.1 (omega (arith, less)) is h.3

  -- so has each request, where all have one
  line_of_all : (qs : List Request) (i : ℕ) (q : Request) (text : List ℕ) → slice_get qs i ≡ Some q
      → AreLines Line Fault qs text → (line : List ℕ) × Line q line
  line_of_all [] i q text is h = cc
  line_of_all (p ∷ qs) zero q text is h = let same : p ≡ q = cc in
      (h.0, subst (λ r. Line r h.0) same h.2)
  line_of_all (p ∷ qs) (suc i) q text is h = line_of_all qs i q h.1 is h.3

  module _ (one_line : (q : Request) (s t : List ℕ) → Line q s → Line q t → s ≡ t)
      (one_fault : (q : Request) (c d : RequestCause) → Fault q c → Fault q d → c ≡ d)
      (apart : (q : Request) (s : List ℕ) (c : RequestCause) → Line q s → Fault q c → ⊥) where
    -- requests have one text of lines
    pub one_lines : (qs : List Request) (s t : List ℕ) → AreLines Line Fault qs s
        → AreLines Line Fault qs t → s ≡ t
    one_lines [] s t h g = h ∙ sym g
    one_lines (q ∷ qs) s t h g =
        h.4 ∙ ap₂ (λ x y. x ++ y) (one_line q h.0 g.0 h.2 g.2) (one_lines qs h.1 g.1 h.3 g.3)
        ∙ sym g.4

    -- of two requests that get no line, each the first, neither is before the other
    one_stop : (qs : List Request) (i j : ℕ) (c d : RequestCause) (s t : List ℕ)
        → StopsAt Line Fault qs i c s → StopsAt Line Fault qs j d t → i ≡ j
    one_stop qs i j c d s t h g =
        elim (cases_lt i j) [
          | inl less ↦
              let l = line_at qs i j h.request t less h.request_is g.before in
              absurd (apart h.request l.0 c l.1 h.fault)
          | inr more ↦ elim (cases_lt j i) [
            | inl less ↦
                let l = line_at qs j i g.request s less g.request_is h.before in
                absurd (apart g.request l.0 d l.1 g.fault)
            | inr other ↦ omega (arith, more, other)
          ]
        ]

    stops_once : (qs : List Request) (i j : ℕ) (c d : RequestCause) (s t : List ℕ) → i ≡ j
        → StopsAt Line Fault qs i c s → StopsAt Line Fault qs j d t
        → (c ≡ d) × (s ≡ t)
    stops_once qs i j c d s t same h g =
        let there : slice_get qs j ≡ Some h.request =
        subst (λ k. slice_get qs k ≡ Some h.request) same h.request_is in
        let q : h.request ≡ g.request = let a = there in let b = g.request_is in cc in (
          one_fault g.request c d (subst (λ r. Fault r c) q h.fault) g.fault,
          one_lines (take j qs) s t
              (subst (λ k. AreLines Line Fault (take k qs) s) same h.before) g.before,
        )

    -- requests have one answer
    pub one_answered : (qs : List Request) (a b : Status) (s t : List ℕ)
        → AreAnswered Line Fault qs a s → AreAnswered Line Fault qs b t
        → (a ≡ b) × (s ≡ t)
    one_answered qs a b s t (all h is) (all g also) = (is ∙ sym also, one_lines qs s t h g)
    one_answered qs a b s t (all h is) (up_to g also) =
        let l = line_of_all qs _ g.request s g.request_is h in
        absurd (apart g.request l.0 _ l.1 g.fault)
    one_answered qs a b s t (up_to h is) (all g also) =
        let l = line_of_all qs _ h.request t h.request_is g in
        absurd (apart h.request l.0 _ l.1 h.fault)
    one_answered qs a b s t (up_to {i = i} {cause = c} h is) (up_to {i = j} {cause = d} g also) =
        let same : i ≡ j = one_stop qs i j c d s t h g in
        let e = stops_once qs i j c d s t same h g in
        (is ∙ ap₂ Refused same e.0 ∙ sym also, e.1)

-- requests are answered alike by lines and faults that hold where others do
module _ (Line More : Request → List ℕ → Type 0) (Fault Other : Request → RequestCause → Type 0)
    (line : (q : Request) (text : List ℕ) → Line q text → More q text)
    (fault : (q : Request) (cause : RequestCause) → Fault q cause → Other q cause) where
  pub lines_along : (qs : List Request) (text : List ℕ) → AreLines Line Fault qs text
      → AreLines More Other qs text
  lines_along [] text h = h
  lines_along (q ∷ qs) text h = (h.0, h.1, line q h.0 h.2, lines_along qs h.1 h.3, h.4)

  pub answered_along : (qs : List Request) (status : Status) (text : List ℕ)
      → AreAnswered Line Fault qs status text → AreAnswered More Other qs status text
  answered_along qs status text (all h is) = all (lines_along qs text h) is
  answered_along qs status text (up_to {i = i} {cause = c} h is) =
      up_to (record {
        request = h.request;
        request_is = h.request_is;
        before = lines_along (take i qs) text h.before;
        fault = fault h.request c h.fault;
      }) is
