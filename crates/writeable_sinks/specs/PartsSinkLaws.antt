-- Marked texts that a `PartsSink` took, one after another.
use Rattle.std.specs.Prelude.{◌≡◌, ℕ, ◌+◌, List, [], ◌∷◌, ◌++◌, length, Option, Some, None}
use Rattle.std.specs.Prelude.{option_and_then}
use Rattle.std.proofs.Common.{refl, sym, ap, ◌∙◌, subst, arith, append-nil, append_assoc}
use Rattle.writeable_core.specs.Marks.{Mark, Character, Open, Close, plain, characters, openings}
use Rattle.writeable_core.specs.Marks.{closings}
use Rattle.writeable_sinks.specs.PartsSink.{Begun, Parts, parts, with_text, with_part, without_part}
use Rattle.writeable_sinks.specs.PartsSink.{parts_after, TookText, TookMarks}

-- what an option gives that is passed on
pub passed_on : {A B : Type 0} (f : A → Option B) (o : Option A) (b : B)
    → option_and_then f o ≡ Some b → (a : A) × (o ≡ Some a) × (f a ≡ Some b)
passed_on f None b e = absurd (cc)
passed_on f (Some a) b e = (a, refl, e)

pub closed-text : (sink now : Parts) (begun : List Begun) → without_part sink begun ≡ Some now
    → now.text ≡ sink.text
closed-text sink now [] e = absurd (cc)
closed-text sink now (last ∷ others) e = cc

pub closed-begun : (sink now : Parts) (begun : List Begun) → without_part sink begun ≡ Some now
    → length begun ≡ length now.begun + 1
closed-begun sink now [] e = absurd (cc)
closed-begun sink now (last ∷ others) e = let rest : others ≡ now.begun = cc in let same =
    ap length rest in omega arith

pub TookText-nothing : (s : Parts) → TookText s [] s
TookText-nothing s =
    ap (λ text. parts text s.begun s.spans) (sym (append-nil s.text))

pub TookText-both : (a b c : Parts) (s t : List ℕ) → TookText a s b → TookText b t c
    → TookText a (s ++ t) c
TookText-both a b c s t p q = cc (append_assoc a.text s t)

pub TookMarks-both : (a b c : Parts) (s t : List Mark) → TookMarks a s b → TookMarks b t c
    → TookMarks a (s ++ t) c
TookMarks-both a b c [] t p q = let same : a ≡ b = cc in subst (λ x. TookMarks x t c) (sym same) q
TookMarks-both a b c (Character x ∷ s) t p q = TookMarks-both (with_text a (x ∷ [])) b c s t p q
TookMarks-both a b c (Open part ∷ s) t p q = TookMarks-both (with_part a part) b c s t p q
TookMarks-both a b c (Close ∷ s) t p q =
    let step = passed_on (λ now. parts_after now s) (without_part a a.begun) b p in
    let rest = TookMarks-both step.0 b c s t step.2 q in
    ap (option_and_then (λ now. parts_after now (s ++ t))) step.1 ∙ rest

pub TookMarks-plain : (a : Parts) (t : List ℕ) → TookMarks a (plain t) (with_text a t)
TookMarks-plain a [] = ap Some (TookText-nothing a)
TookMarks-plain a (c ∷ t) =
    TookMarks-plain (with_text a (c ∷ [])) t ∙ ap Some (cc (append_assoc a.text (c ∷ []) t))

pub marks_of_text : (a b : Parts) (t : List ℕ) → TookText a t b → TookMarks a (plain t) b
marks_of_text a b t p = TookMarks-plain a t ∙ ap Some (sym p)

pub text_of_marks : (a b : Parts) (t : List ℕ) → TookMarks a (plain t) b → TookText a t b
text_of_marks a b t p = let e = TookMarks-plain a t in cc

pub TookMarks-text : (a b : Parts) (m : List Mark) → TookMarks a m b
    → b.text ≡ a.text ++ characters m
TookMarks-text a b [] p = let same : a ≡ b = cc in
    ap (λ s. s.text) (sym same) ∙ sym (append-nil a.text)
TookMarks-text a b (Character c ∷ m) p =
    TookMarks-text (with_text a (c ∷ [])) b m p ∙ append_assoc a.text (c ∷ []) (characters m)
TookMarks-text a b (Open part ∷ m) p = TookMarks-text (with_part a part) b m p
TookMarks-text a b (Close ∷ m) p =
    let step = passed_on (λ now. parts_after now m) (without_part a a.begun) b p in
    TookMarks-text step.0 b m step.2
    ∙ ap (λ t. t ++ characters m) (closed-text a step.0 a.begun step.1)

pub TookMarks-open : (a b : Parts) (m : List Mark) → TookMarks a m b
    → length a.begun + openings m ≡ length b.begun + closings m
TookMarks-open a b [] p = let same : a ≡ b = cc in ap (λ s. length s.begun + 0) same
TookMarks-open a b (Character c ∷ m) p = TookMarks-open (with_text a (c ∷ [])) b m p
TookMarks-open a b (Open part ∷ m) p = let rest =
    TookMarks-open (with_part a part) b m p in omega arith
TookMarks-open a b (Close ∷ m) p =
    let step = passed_on (λ now. parts_after now m) (without_part a a.begun) b p in
    let rest = TookMarks-open step.0 b m step.2 in
    let one = closed-begun a step.0 a.begun step.1 in
    omega arith

pub TookMarks-held : (a b : Parts) (m : List Mark) (h : List ℕ) → TookMarks a m b
    → Some a.text ≡ Some h → Some b.text ≡ Some (h ++ characters m)
TookMarks-held a b m h p q =
    let same : a.text ≡ h = cc in
    ap Some (TookMarks-text a b m p ∙ ap (λ t. t ++ characters m) same)
