-- The text of a part.
use Rattle.std.proofs.Common.{◌≡◌, ℕ, ◌+◌, ◌-◌, ◌<◌, ◌≤◌, List, [], ◌∷◌, Some, None, length, take}
use Rattle.std.proofs.Common.{drop, refl, sym, ap, ◌∙◌, arith, suc, zero}
use Rattle.std.proofs.lemmas.List.{drop-drop, length-take, length-drop}
use Rattle.language_tags_grammar.specs.Kept.{between}
use Rattle.language_tags_grammar.specs.Pieces.{dashed, part_text}
use Rattle.language_tags_grammar.specs.Lemmas.KeptLaws.{joined-dashed}

tail-between : (start end : ℕ) (text : List ℕ) → start < end
    → drop 1 (between start end text) ≡ between (start + 1) end text
tail-between start end text lt =
    by (drop start text) (end - start) (end - (start + 1)) (omega arith)
    ∙ ap (take (end - (start + 1))) (drop-drop 1 start text)
  where
    by : (t : List ℕ) (m n : ℕ) → m ≡ n + 1 → drop 1 (take m t) ≡ take n (drop 1 t)
    by [] zero n e = absurd (omega arith)
    by [] (suc m) zero e = refl
    by [] (suc m) (suc n) e = refl
    by (c ∷ t) zero n e = absurd (omega arith)
    by (c ∷ t) (suc m) n e = ap (λ k. take k t) (omega arith)

pub part_is : (start end : ℕ) (text part : List ℕ) → start < end → end ≤ length text
    → part ≡ between (start + 1) end text
    → (ps : List (List ℕ)) → between start end text ≡ dashed ps → Some part ≡ part_text ps
part_is start end text part lt le is [] e =
    absurd
    (omega (
      arith,
      ap length e,
      length-take (end - start) (drop start text),
      length-drop start text,
    ))
part_is start end text part lt le is (p ∷ ps) e =
    ap Some (is ∙ sym (tail-between start end text lt) ∙ ap (drop 1) e ∙ sym (joined-dashed p ps))

pub no_part : (start : ℕ) (text : List ℕ) (ps : List (List ℕ))
    → between start start text ≡ dashed ps → None ≡ part_text ps
no_part start text [] e = refl
no_part start text (p ∷ ps) e =
    absurd (omega (arith, ap length e, length-take (start - start) (drop start text)))
