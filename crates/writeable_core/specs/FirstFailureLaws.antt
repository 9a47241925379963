-- The first fault of conditions that stand behind others.
use Rattle.std.specs.Prelude.{◌≡◌, Bool, true, false, List, [], ◌∷◌, ◌++◌, Option, Some, None}
use Rattle.std.proofs.Common.{refl, cond}
use Rattle.writeable_core.specs.FirstFailure.{Condition, first_failure}

module _ {E : Type 0} where
  -- a fault behind a condition stays, whatever follows
  still_fails : (b : Bool) (x y : Option E) (d e : E) → (x ≡ Some e → y ≡ Some e)
      → cond b x (Some d) ≡ Some e → cond b y (Some d) ≡ Some e
  still_fails true x y d e f h = f h
  still_fails false x y d e f h = h

  -- where a condition holds the others decide
  still_passes : (b : Bool) (x y z : Option E) (d : E) → (x ≡ None → y ≡ z)
      → cond b x (Some d) ≡ None → cond b y (Some d) ≡ z
  still_passes true x y z d f h = f h
  still_passes false x y z d f h = absurd cc

  -- the first fault of some conditions is that of more
  pub failed_first : (xs ys : List (Condition E)) (e : E) → first_failure xs ≡ Some e
      → first_failure (xs ++ ys) ≡ Some e
  failed_first [] ys e h = absurd cc
  failed_first (c ∷ cs) ys e h =
      still_fails c.0 (first_failure cs) (first_failure (cs ++ ys)) c.1 e (failed_first cs ys e) h

  -- behind conditions that hold, those that follow decide
  pub passed_first : (xs ys : List (Condition E)) → first_failure xs ≡ None
      → first_failure (xs ++ ys) ≡ first_failure ys
  passed_first [] ys h = refl
  passed_first (c ∷ cs) ys h =
      still_passes c.0 (first_failure cs) (first_failure (cs ++ ys)) (first_failure ys) c.1
      (passed_first cs ys) h

  -- a test without a fault holds
  first_passes : (b : Bool) (x : Option E) (d : E) → cond b x (Some d) ≡ None
      → (b ≡ true) × (x ≡ None)
  first_passes true x d h = (refl, h)
  first_passes false x d h = absurd cc

  -- conditions without a fault: the first holds, and so do the others
  pub head_passes : (c : Condition E) (cs : List (Condition E)) → first_failure (c ∷ cs) ≡ None
      → (c.0 ≡ true) × (first_failure cs ≡ None)
  head_passes c cs h = first_passes c.0 (first_failure cs) c.1 h

  -- conditions without a fault, in two parts
  pub parts_pass : (xs ys : List (Condition E)) → first_failure (xs ++ ys) ≡ None
      → (first_failure xs ≡ None) × (first_failure ys ≡ None)
  parts_pass [] ys h = (refl, h)
  parts_pass (c ∷ cs) ys h =
      let first = head_passes c (cs ++ ys) h in
      let rest = parts_pass cs ys first.1 in
      (rw first.0 rest.0, rest.1)
