-- The minimal form of a triple is the least one.
use Rattle.std.proofs.Common.{◌≡◌, ◌≢◌, ℕ, ◌+◌, ◌<◌, ◌≤◌, Bool, true, false, cond, List, [], ◌∷◌}
use Rattle.std.proofs.Common.{◌++◌, Option, Some, None, is_some, refl, sym, ap, subst, ◌∙◌, arith}
use Rattle.std.specs.Prelude.{◌&&◌, find, option_and_then}
use Rattle.std.specs.Cmp.{first_so, second_so}
use Rattle.std.specs.Cmp.Lexicographic.{bytes_decides, nat_list_eq_equiv, options_equiv}
use Rattle.std.specs.Option.{option_eq}
use Rattle.std.proofs.lemmas.Bool.{false≢true}
use Rattle.unic_langid_impl.specs.Likely.{IsLeast, Tables, Triple, count, full, maximal}
use Rattle.unic_langid_impl.specs.Likely.{maximises_to, minimal, subtag_count, trials, triple_eq}
use Rattle.unic_langid_impl.specs.Order.{same_text}

option_same : (p q : Option (List ℕ)) → option_eq same_text p q ≡ true → p ≡ q
option_same None None e = refl
option_same None (Some y) e = cc
option_same (Some x) None e = cc
option_same (Some x) (Some y) e = ap Some ((bytes_decides x y).0 e)

triple_eq-same : (t u : Triple) → triple_eq t u ≡ true → t ≡ u
triple_eq-same t u e =
    let two =
    first_so (option_eq same_text t.0 u.0 && option_eq same_text t.1 u.1)
    (option_eq same_text t.2 u.2) e in
    let language =
    option_same t.0 u.0
    (first_so (option_eq same_text t.0 u.0) (option_eq same_text t.1 u.1) two) in
    let script =
    option_same t.1 u.1
    (second_so (option_eq same_text t.0 u.0) (option_eq same_text t.1 u.1) two) in
    let region =
    option_same t.2 u.2
    (second_so (option_eq same_text t.0 u.0 && option_eq same_text t.1 u.1)
    (option_eq same_text t.2 u.2) e) in
    λ i. (language i, script i, region i)

triple_eq-itself : (t : Triple) → triple_eq t t ≡ true
triple_eq-itself t =
    let e = options_equiv nat_list_eq_equiv in rw (e.refl t.0, e.refl t.1, e.refl t.2) refl

answer_same : (o : Option Triple) (m : Triple) → option_eq triple_eq o (Some m) ≡ true → o ≡ Some m
answer_same None m e = cc
answer_same (Some t) m e = ap Some (triple_eq-same t m e)

count-most : (o : Option (List ℕ)) → count o ≤ 1
count-most None = omega arith
count-most (Some t) = omega arith

count-none : (o : Option (List ℕ)) → count o < 1 → o ≡ None
count-none None h = refl
count-none (Some t) h = absurd (omega (arith, h))

-- each has at most so many subtags
abbrev AtMost : ℕ → List Triple → Type 0
AtMost n [] = Unit {0}
AtMost n (t ∷ ts) = (subtag_count t ≤ n) × AtMost n ts

module _ (p : Triple → Bool) (u : Triple) where
  find-passes : (ts : List Triple) → find p ts ≡ Some u → p u ≡ true
  find-passes [] e = cc
  find-passes (t ∷ ts) e = go (find-passes ts) (p t) refl e
    where
      go : (find p ts ≡ Some u → p u ≡ true) → (b : Bool) → p t ≡ b
          → cond b (Some t) (find p ts) ≡ Some u → p u ≡ true
      go later true is e = let same : t ≡ u = cc in subst (λ x. p x ≡ true) same is
      go later false is e = later e

  find-most : (n : ℕ) (ts : List Triple) → AtMost n ts → find p ts ≡ Some u → subtag_count u ≤ n
  find-most n [] h e = cc
  find-most n (t ∷ ts) h e = go (find-most n ts h.1) (p t) e
    where
      go : (find p ts ≡ Some u → subtag_count u ≤ n) → (b : Bool)
          → cond b (Some t) (find p ts) ≡ Some u → subtag_count u ≤ n
      go later true e = let same : t ≡ u = cc in subst (λ x. subtag_count x ≤ n) same h.0
      go later false e = later e

module _ (F : Tables) (m : Triple) where
  abbrev alone : Triple
  alone = (m.0, None, None)

  abbrev others : List Triple
  others =
      cond (is_some m.2) ((m.0, None, m.2) ∷ []) [] ++ cond (is_some m.1) ((m.0, m.1, None) ∷ []) []

  others-most : AtMost (count m.0 + 1) others
  others-most = go (is_some m.2) (is_some m.1)
    where
      region : subtag_count (m.0, None, m.2) ≤ count m.0 + 1
      region = omega (arith, count-most m.2)

      script : subtag_count (m.0, m.1, None) ≤ count m.0 + 1
      script = omega (arith, count-most m.1)

      go : (b c : Bool)
          → AtMost (count m.0 + 1)
          (cond b ((m.0, None, m.2) ∷ []) [] ++ cond c ((m.0, m.1, None) ∷ []) [])
      go true true = (region, (script, tt))
      go true false = (region, tt)
      go false true = (script, tt)
      go false false = tt

  least-of : (least : Triple) → find (maximises_to F m) (trials m) ≡ Some least
      → (maximal F least ≡ Some m)
      × ((other : Triple) → other.0 ≡ m.0 → subtag_count other < subtag_count least
      → maximal F other ≢ Some m)
  least-of least e = (
    answer_same (maximal F least) m (find-passes (maximises_to F m) least (trials m) e),
    go (maximises_to F m alone) refl e,
  )
    where
      go : (b : Bool) → maximises_to F m alone ≡ b
          → cond b (Some alone) (find (maximises_to F m) others) ≡ Some least
          → (other : Triple) → other.0 ≡ m.0 → subtag_count other < subtag_count least
          → maximal F other ≢ Some m
      go true is e other language fewer answer =
          let same : alone ≡ least = cc in
          absurd (omega (arith, ap count language, ap subtag_count same, fewer))
      go false is e other language fewer answer =
          let most = find-most (maximises_to F m) least (count m.0 + 1) others others-most e in
          let script = count-none other.1 (omega (arith, ap count language, fewer, most)) in
          let region = count-none other.2 (omega (arith, ap count language, fewer, most)) in
          let same : other ≡ alone = λ i. (language i, script i, region i) in
          let answered : maximal F alone ≡ Some m = ap (maximal F) (sym same) ∙ answer in
          absurd
          (false≢true
          (sym is
          ∙ (ap (λ o. option_eq triple_eq o (Some m)) answered ∙ triple_eq-itself m)))

pub minimal-least : (F : Tables) (t least : Triple) → minimal F t ≡ Some least → IsLeast F t least
minimal-least F t least e = go (full F t) refl e
  where
    go : (o : Option Triple) → full F t ≡ o
        → option_and_then (λ m. find (maximises_to F m) (trials m)) o ≡ Some least
        → IsLeast F t least
    go None is e = cc
    go (Some m) is e =
        let both = least-of F m least e in
        record { form = m; form_is = is; maximises = both.0; least_is = both.1 }
