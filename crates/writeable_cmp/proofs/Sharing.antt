-- Texts that stand at the front of other bytes.
use Rattle.std.specs.Prelude.{nat_eq}
use Rattle.std.specs.List.{starts_with}
use Rattle.std.proofs.Common.{◌≡◌, ℕ, ◌+◌, ◌-◌, ◌≤◌, Bool, List, ◌++◌, length, take, drop, true}
use Rattle.std.proofs.Common.{false, sym, ap, ◌∙◌, arith, subst, length-append, length-drop}
use Rattle.std.proofs.Math.Seq.{take-add, take-length, take-append_seam, drop-append_seam}
use Rattle.std.proofs.lemmas.List.{drop-take, take-take, length-take}
use Rattle.std.specs.Cmp.Lexicographic.{same_text, other_text}
use Rattle.writeable_cmp.specs.Sharing.{BeginsWith, sharing}

-- the bytes from one on are all that are left there
pub behind : (bytes : List ℕ) (n : ℕ) → take (length bytes - n) (drop n bytes) ≡ drop n bytes
behind bytes n = ap (λ k. take k (drop n bytes)) (sym (length-drop n bytes))
    ∙ take-length (drop n bytes)

-- the test of a piece against the bytes from one on
pub tested : (bytes needle piece : List ℕ) (n : ℕ) (result answer : Bool)
    → result ≡ starts_with nat_eq (take (length bytes - n) (drop n bytes)) needle
    → needle ≡ piece → result ≡ answer → starts_with nat_eq (drop n bytes) piece ≡ answer
tested bytes needle piece n result answer test same is =
    ap (λ rest. starts_with nat_eq rest piece) (sym (behind bytes n))
    ∙ ap (starts_with nat_eq (take (length bytes - n) (drop n bytes))) (sym same)
    ∙ sym test ∙ is

-- a piece that the rest of the bytes begins with is found
pub found_more : (bytes piece : List ℕ) (n : ℕ) → starts_with nat_eq (drop n bytes) piece ≡ true
    → take (n + length piece) bytes ≡ take n bytes ++ piece
found_more bytes piece n found =
    take-add n (length piece) bytes
    ∙ ap (λ l. take n bytes ++ l)
    (sym (same_text piece (take (length piece) (drop n bytes)) (sym found)))

-- with a piece that the rest of the bytes doesn't begin with, the text isn't found
pub not_found : (bytes piece : List ℕ) (n : ℕ) → n ≤ length bytes
    → starts_with nat_eq (drop n bytes) piece ≡ false
    → BeginsWith bytes (take n bytes ++ piece) → ⊥
not_found bytes piece n within missing begins =
    let front : length (take n bytes) ≡ n = simp length-take (omega arith) in
    let long : length (take n bytes ++ piece) ≡ n + length piece =
    length-append (take n bytes) piece ∙ ap (λ k. k + length piece) front in
    let whole : take (n + length piece) bytes ≡ take n bytes ++ piece =
    ap (λ k. take k bytes) (sym long) ∙ begins in
    let behind : drop n (take n bytes ++ piece) ≡ piece =
    ap (λ k. drop k (take n bytes ++ piece)) (sym front)
    ∙ drop-append_seam (take n bytes) piece in
    other_text piece (take (length piece) (drop n bytes)) (sym missing)
    (sym (sym (drop-take n (length piece) bytes) ∙ ap (drop n) whole ∙ behind))

-- a text that isn't found isn't found with more at its end
pub still_not_found : (bytes text piece : List ℕ) → (BeginsWith bytes text → ⊥)
    → BeginsWith bytes (text ++ piece) → ⊥
still_not_found bytes text piece missing begins =
    let long = length-append text piece in
    missing (sym (take-take (length text) (length (text ++ piece)) bytes (omega arith))
    ∙ ap (take (length text)) begins ∙ take-append_seam text piece)

-- what was found is at the front
pub found_begins : (bytes : List ℕ) (n : ℕ) → n ≤ length bytes → BeginsWith bytes (take n bytes)
found_begins bytes n within =
    let front : length (take n bytes) ≡ n = simp length-take (omega arith) in
    ap (λ k. take k bytes) front

pub begins_same : {bytes other front text : List ℕ} → bytes ≡ other → front ≡ text
    → BeginsWith bytes front → BeginsWith other text
begins_same {bytes} {other} {front} {text} p q begins =
    subst (λ b. BeginsWith b text) p (subst (BeginsWith bytes) q begins)

pub same_sharing : {t u r q : List ℕ} → t ≡ u → r ≡ q → sharing t r ≡ sharing u q
same_sharing p q = cc
