-- What a row is where its conditions hold.
use Rattle.std.proofs.Common.{◌≡◌, ℕ, ◌+◌, ◌-◌, ◌≤◌, true, not, ◌||◌, List, length, take}
use Rattle.std.proofs.Common.{drop, None, refl, sym, ap, ◌∙◌, arith}
use Rattle.std.specs.List.{list_any, list_all, position_or_len}
use Rattle.std.specs.Prelude.{◌==◌}
use Rattle.std.proofs.lemmas.Bool.{leb-true, le-leb}
use Rattle.std.proofs.lemmas.List.{length-take, take-take}
use Rattle.std.proofs.lemmas.List.Folds.{length-prefix_len}
use Rattle.writeable_core.specs.FirstFailure.{first_failure}
use Rattle.writeable_core.specs.FirstFailureLaws.{passed_first, parts_pass}
use Rattle.gettext.specs.declared.encoding.Encoding.{Encoding}
use Rattle.gettext.specs.Encoding.{is_valid}
use Rattle.gettext.specs.Messages.{has_id}
use Rattle.gettext.specs.declared.spans.Span.{Span}
use Rattle.gettext.specs.Layout.{LiesInside, is_nul, head_of, pieces_of, originals_of}
use Rattle.gettext.specs.Layout.{translations_of, original_of, translation_of, text_offset}
use Rattle.gettext.specs.Layout.{text_length}
use Rattle.gettext.specs.Faults.{head_conditions, text_conditions, forms_conditions}
use Rattle.gettext.specs.Faults.{original_conditions, translation_conditions, row_conditions}
use Rattle.gettext.specs.Table.{key_bytes, form_bytes}
use Rattle.gettext.specs.Reader.{text_span, head_span, row_of, IsTextSpan, IsRowIn, IsReadRow}
use Rattle.gettext.proofs.Conditions.{all_hold}

-- ---- the bytes that the ranges of a row hold

-- the key of a row is the head of its original
pub key_bytes-row_of : (b : List ℕ) (i : ℕ) → key_bytes b (row_of b i) ≡ head_of (original_of b i)
unfolding key_bytes row_of head_span head_of
key_bytes-row_of b i =
    let o : ℕ = text_offset b (originals_of b) i in
    let original = original_of b i in
    let place : ℕ = position_or_len is_nul original in
    let exact : length (take place original) ≡ place =
    length-prefix_len (λ x. not (is_nul x)) original in
    let short : place ≤ text_length b (originals_of b) i + 1 =
    omega (
      arith,
      exact,
      length-take place original,
      length-take
          (text_length b (originals_of b) i + 1) (drop o b),
    ) in
    let k : o + length (take place original) - o ≡ place = omega (arith, exact) in
    ap (λ (n : ℕ). take n (drop o b)) k
    ∙ sym (take-take place (text_length b (originals_of b) i + 1) (drop o b) short)

-- its forms are those of its translation
pub form_bytes-row_of : (b : List ℕ) (i : ℕ)
    → form_bytes b (row_of b i) ≡ pieces_of (translation_of b i)
unfolding form_bytes row_of text_span
form_bytes-row_of b i =
    let o : ℕ = text_offset b (translations_of b) i in
    let k : o + text_length b (translations_of b) i - o ≡ text_length b (translations_of b) i =
    omega arith in
    ap (λ (n : ℕ). pieces_of (take n (drop o b))) k

-- ---- what the conditions of a row say

-- what the conditions of a row say
pub record RowHolds (b : List ℕ) (e : Encoding) (i : ℕ) : Type 0 where
  pub original : LiesInside b (originals_of b) i
  pub ended : list_any is_nul (original_of b i) ≡ true
  pub key : is_valid e (head_of (original_of b i)) ≡ true
  pub id : ((i == 0) || has_id (head_of (original_of b i))) ≡ true
  pub translation : LiesInside b (translations_of b) i
  pub forms : list_all (is_valid e) (pieces_of (translation_of b i)) ≡ true

-- a text whose conditions hold lies inside the file
text_holds : (b : List ℕ) (table i : ℕ) → first_failure (text_conditions b table i) ≡ None
    → LiesInside b table i
unfolding text_conditions
text_holds b table i h =
    let all = all_hold (text_conditions b table i) h in
    record { row = leb-true _ _ all.0; text = leb-true _ _ all.1.0 }

-- of a text inside the file they hold
text_passes : (b : List ℕ) (table i : ℕ) → LiesInside b table i
    → first_failure (text_conditions b table i) ≡ None
unfolding text_conditions
text_passes b table i h = rw (le-leb _ _ h.row, le-leb _ _ h.text) refl

-- a row that passes holds
pub row_holds : (b : List ℕ) (e : Encoding) (i : ℕ) → first_failure (row_conditions b e i) ≡ None
    → RowHolds b e i
unfolding row_conditions original_conditions translation_conditions head_conditions forms_conditions
row_holds b e i h =
    let both = parts_pass (original_conditions b e i) (translation_conditions b e i) h in
    let original = parts_pass (text_conditions b (originals_of b) i) _ both.0 in
    let translation = parts_pass (text_conditions b (translations_of b) i) _ both.1 in
    let heads = all_hold (head_conditions e i (original_of b i)) original.1 in
    record {
      original = text_holds b (originals_of b) i original.0;
      ended = heads.0;
      key = heads.1.0;
      id = heads.1.1.0;
      translation = text_holds b (translations_of b) i translation.0;
      forms = (all_hold (forms_conditions e (translation_of b i)) translation.1).0;
    }

-- a row that holds passes
pub row_passes : (b : List ℕ) (e : Encoding) (i : ℕ) → RowHolds b e i
    → first_failure (row_conditions b e i) ≡ None
unfolding row_conditions original_conditions translation_conditions head_conditions forms_conditions
row_passes b e i h =
    let original : first_failure (original_conditions b e i) ≡ None =
    passed_first (text_conditions b (originals_of b) i)
    _ (text_passes b (originals_of b) i h.original) ∙ rw (h.ended, h.key, h.id) refl in
    let translation : first_failure (translation_conditions b e i) ≡ None =
    passed_first (text_conditions b (translations_of b) i)
    _ (text_passes b (translations_of b) i h.translation) ∙ rw h.forms refl in
    passed_first (original_conditions b e i) (translation_conditions b e i) original ∙ translation

-- the ranges of a row that holds lie in the file and are valid
pub row_fits : (b : List ℕ) (e : Encoding) (i : ℕ) → RowHolds b e i → IsRowIn b e (row_of b i)
unfolding row_of head_span text_span head_of
row_fits b e i h =
    let place : ℕ = position_or_len is_nul (original_of b i) in
    let exact = length-prefix_len (λ x. not (is_nul x)) (original_of b i) in
    let short = length-take place (original_of b i) in
    let size = length-take (text_length b (originals_of b) i + 1)
    (drop (text_offset b (originals_of b) i) b) in
    record {
      key_inside = record {
        ordered = omega arith;
        inside = omega (arith, exact, short, size, h.original.text);
      };
      key = rw (key_bytes-row_of b i) h.key;
      forms_inside = record { ordered = omega arith; inside = omega (arith, h.translation.text) };
      forms = rw (form_bytes-row_of b i) h.forms;
    }

-- ---- reading

-- the key that is read is the head, and the original passes
pub key_read : (b : List ℕ) (enc : Encoding) (i originals : ℕ) (span : Span) (len : ℕ)
    → originals ≡ originals_of b → IsTextSpan b originals i span
    → first_failure (text_conditions b originals i) ≡ None
    → len ≡ length (head_of (take (span.end + 1 - span.start) (drop span.start b)))
    → first_failure (head_conditions enc i (take (span.end + 1 - span.start) (drop span.start b)))
    ≡ None → (record {
      start = span.start;
      end = span.start + len;
    } ≡ head_span b i) × (first_failure (original_conditions b enc i) ≡ None)
unfolding original_conditions head_span text_span
key_read b enc i originals span len e t passed l heads =
    let t' = rw e at t in
    let passed' = rw e at passed in
    let l' = rw t'.closed at l in
    let heads' = rw t'.closed at heads in
    let start : span.start ≡ text_offset b (originals_of b) i =
    ap (λ (s : Span). s.start) t'.is in (
      cc,
      passed_first (text_conditions b (originals_of b) i)
          (head_conditions enc i (original_of b i)) passed' ∙ heads',
    )

-- so the row that is read is the file's, and passes
pub row_read : (b : List ℕ) (e : Encoding) (i : ℕ) (key forms : Span) → key ≡ head_span b i
    → first_failure (original_conditions b e i) ≡ None → IsTextSpan b (translations_of b) i forms
    → first_failure (translation_conditions b e i) ≡ None
    → IsReadRow b e i (record { key = key; forms = forms })
    × (first_failure (row_conditions b e i) ≡ None)
unfolding row_of row_conditions
row_read b e i key forms k kp f fp =
    let is : record { key = key; forms = forms } ≡ row_of b i = cc in
    let passed : first_failure (row_conditions b e i) ≡ None =
    passed_first (original_conditions b e i) (translation_conditions b e i) kp ∙ fp in
    (record { is = is; fits = rw is (row_fits b e i (row_holds b e i passed)) }, passed)
