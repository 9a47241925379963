-- The text of a chain that is some locales longer.
use Rattle.std.proofs.Common.{◌≡◌, ℕ, zero, suc, ◌+◌, ◌-◌, ◌<◌, ◌≤◌, List, [], ◌∷◌, ◌++◌, map, refl}
use Rattle.std.proofs.Common.{sym, ap, ◌∙◌, subst, append_assoc, append-nil, arith, zero-add}
use Rattle.std.proofs.lemmas.List.{map_push}
use Rattle.std.proofs.lemmas.List.FromFn.{map-range_with_len_more}
use Rattle.std.specs.List.{join_with_byte, range_with_len}
use Rattle.std.specs.Str.{byte}
use Rattle.icu_locale_core.specs.Locale.{Locale, print}
use Rattle.icu_locale_fallback.specs.Tables.{Tables}
use Rattle.icu_locale_fallback.specs.Walk.{at}
use Rattle.writeable_core.specs.Sink.{TookPrefix}
use Rattle.writeable_core.specs.SinkLaws.{front_after, front_of_longer}
use Rattle.fallback_chain.specs.Chain.{chain_text, locales_to}

-- one piece more, behind the others
join_with_byte-more : (c : ℕ) (first more : List ℕ) (others : List (List ℕ))
    → join_with_byte c (first ∷ (others ++ more ∷ []))
    ≡ join_with_byte c (first ∷ others) ++ (c ∷ more)
join_with_byte-more c first more [] = refl
join_with_byte-more c first more (next ∷ others) =
    ap (λ t. first ++ (c ∷ t)) (join_with_byte-more c next more others)
    ∙ sym (append_assoc first (c ∷ join_with_byte c (next ∷ others)) (c ∷ more))

-- the pieces of a list, and one piece more
join_with_byte-push : (c : ℕ) (all others : List (List ℕ)) (first more : List ℕ)
    → all ≡ first ∷ others
    → join_with_byte c (all ++ more ∷ []) ≡ join_with_byte c all ++ (c ∷ more)
join_with_byte-push c all others first more e = rw e (join_with_byte-more c first more others)

module _ (F : Tables) (l : Locale) where
  -- the first locale stands before the others
  locales_to-cons : (k : ℕ) → locales_to F l k ≡ at F l 0 ∷ map (at F l) (range_with_len (0 + 1) k)
  locales_to-cons k =
      let one_more : k + 1 ≡ suc k = omega arith in
      ap (λ n. map (at F l) (range_with_len 0 n)) one_more

  -- one locale more
  locales_to-more : (k : ℕ) → locales_to F l (k + 1) ≡ locales_to F l k ++ at F l (k + 1) ∷ []
  locales_to-more k = map-range_with_len_more (at F l) 0 (k + 1) (k + 1) (zero-add (k + 1))

  -- the text of the first locale
  chain_text-zero : chain_text F l 0 ≡ print (at F l 0)
  unfolding chain_text
  chain_text-zero = refl

  -- one locale more, behind a space
  chain_text-more : (k : ℕ)
      → chain_text F l (k + 1) ≡ chain_text F l k ++ (byte " " ∷ print (at F l (k + 1)))
  unfolding chain_text
  chain_text-more k =
      ap (λ ls. join_with_byte (byte " ") (map print ls)) (locales_to-more k)
      ∙ ap (join_with_byte (byte " ")) (map_push print (locales_to F l k) (at F l (k + 1)))
      ∙ join_with_byte-push (byte " ") (map print (locales_to F l k))
      (map print (map (at F l) (range_with_len (0 + 1) k)))
      (print (at F l 0)) (print (at F l (k + 1))) (ap (map print) (locales_to-cons k))

  -- some locales more
  chain_text-grows : (k n : ℕ)
      → (rest : List ℕ) × (chain_text F l k ++ rest ≡ chain_text F l (n + k))
  chain_text-grows k zero =
      ([], append-nil (chain_text F l k) ∙ ap (chain_text F l) (sym (zero-add k)))
  chain_text-grows k (suc n) =
      let (rest, e) = chain_text-grows k n in
      let more : (n + k) + 1 ≡ suc n + k = omega arith in
      let last = byte " " ∷ print (at F l (n + k + 1)) in (
        rest ++ last,
        sym (append_assoc (chain_text F l k) rest last) ∙ ap (λ t. t ++ last) e
            ∙ sym (chain_text-more (n + k)) ∙ ap (chain_text F l) more,
      )

-- What was taken of the locales of a walk, one after another.
module _ {S : Type 0} (took : S → List ℕ → S → Type 0) (F : Tables) (l : Locale) where
  -- a front of a chain's text is a front of a longer chain's
  front_of_chain : (a b : S) (k n : ℕ) → k ≤ n → TookPrefix took a (chain_text F l k) b
      → TookPrefix took a (chain_text F l n) b
  front_of_chain a b k n le p =
      let (rest, e) = chain_text-grows F l k (n - k) in
      let whole : (n - k) + k ≡ n = omega arith in
      subst (λ (t : List ℕ). TookPrefix took a t b) (e ∙ ap (chain_text F l) whole)
      (front_of_longer (chain_text F l k) rest p)

  -- the first locale
  pub taken_first : (a b : S) (first : Locale) → first ≡ at F l 0 → took a (print first) b
      → took a (chain_text F l 0) b
  taken_first a b first e p =
      subst (λ (t : List ℕ). took a t b) (ap print e ∙ sym (chain_text-zero F l)) p

  -- a front of the first locale
  pub front_first : (a b : S) (first : Locale) (n : ℕ) → first ≡ at F l 0
      → TookPrefix took a (print first) b → TookPrefix took a (chain_text F l n) b
  front_first a b first n e p =
      front_of_chain a b 0 n (omega arith)
      (subst (λ (t : List ℕ). TookPrefix took a t b) (ap print e ∙ sym (chain_text-zero F l)) p)

  module _ (both : (a b c : S) (s t : List ℕ) → took a s b → took b t c → took a (s ++ t) c) where
    -- the text of a chain, and behind it the next locale
    text_of_more : (next : Locale) (k : ℕ) → next ≡ at F l (k + 1)
        → chain_text F l k ++ (byte " " ∷ print next) ≡ chain_text F l (k + 1)
    text_of_more next k e =
        ap (λ x. chain_text F l k ++ (byte " " ∷ print x)) e ∙ sym (chain_text-more F l k)

    -- some locales, and the next one
    pub taken_next : (a b c : S) (next : Locale) (k : ℕ) → next ≡ at F l (k + 1)
        → took a (chain_text F l k) b → took b (byte " " ∷ print next) c
        → took a (chain_text F l (k + 1)) c
    taken_next a b c next k e p q =
        subst (λ (t : List ℕ). took a t c) (text_of_more next k e)
        (both a b c (chain_text F l k) (byte " " ∷ print next) p q)

    -- some locales, and a front of the next one
    pub front_next : (a b c : S) (next : Locale) (k n : ℕ) → next ≡ at F l (k + 1) → k < n
        → took a (chain_text F l k) b → TookPrefix took b (byte " " ∷ print next) c
        → TookPrefix took a (chain_text F l n) c
    front_next a b c next k n e below p q =
        front_of_chain a c (k + 1) n (omega arith)
        (subst (λ (t : List ℕ). TookPrefix took a t c) (text_of_more next k e)
        (front_after (chain_text F l k) (byte " " ∷ print next) both p q))
