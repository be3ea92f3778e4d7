-- Laws of chains and of facts about every element, for lists that lose elements at an end or gain one behind.
-- Assumes nothing.
use Rattle.std.specs.Prelude.{◌≡◌, refl, ℕ, zero, suc, ◌+◌, ◌≤◌, length, take, drop}
use Rattle.std.proofs.Common.{ap, ap₂, subst, ◌∙◌, arith, length-drop, drop-drop}
use mathlib.Core.List.{List, [], ◌∷◌, ◌++◌, map, flat_map}
use Rattle.model.specs.Limits.{Chain, empty, single, link, All, nil, cons}

-- the last element, or 0
unfoldable pub last_of : List ℕ → ℕ
last_of [] = 0
last_of (n ∷ []) = n
last_of (n ∷ m ∷ ns) = last_of (m ∷ ns)

-- ---- a chain

module _ {R : ℕ → ℕ → Type 0} where
  chain-tail : {n : ℕ} {ns : List ℕ} → Chain R (n ∷ ns) → Chain R ns
  chain-tail single = empty
  chain-tail (link r c) = c

  pub chain-drop : (k : ℕ) (ns : List ℕ) → Chain R ns → Chain R (drop k ns)
  chain-drop zero ns c = c
  chain-drop (suc k) [] c = empty
  chain-drop (suc k) (n ∷ ns) c = chain-drop k ns (chain-tail c)

  pub chain-take : (k : ℕ) (ns : List ℕ) → Chain R ns → Chain R (take k ns)
  chain-take zero ns c = empty
  chain-take (suc k) [] c = empty
  chain-take (suc zero) (n ∷ []) c = single
  chain-take (suc (suc k)) (n ∷ []) c = single
  chain-take (suc zero) (n ∷ m ∷ ns) c = single
  chain-take (suc (suc k)) (n ∷ m ∷ ns) (link r c) = link r (chain-take (suc k) (m ∷ ns) c)

  -- one more behind, to which the last stands in R
  pub chain_snoc : (m : ℕ) (ns : List ℕ) → (1 ≤ length ns → R (last_of ns) m) → Chain R ns → Chain R (ns ++ (m ∷ []))
  unfolding last_of
  chain_snoc m [] r c = single
  chain_snoc m (n ∷ []) r c = link (r (omega arith)) single
  chain_snoc m (n ∷ o ∷ ns) r (link s c) = link s (chain_snoc m (o ∷ ns) (λ h. r (omega arith)) c)

-- ---- a fact about every element

module _ {A : Type 0} {P : A → Type 0} where
  pub all_head : {x : A} {l : List A} → All P (x ∷ l) → P x
  all_head (cons p a) = p

  pub all_drop : (k : ℕ) (l : List A) → All P l → All P (drop k l)
  all_drop zero l a = a
  all_drop (suc k) [] a = nil
  all_drop (suc k) (x ∷ l) (cons p a) = all_drop k l a

  pub all_take : (k : ℕ) (l : List A) → All P l → All P (take k l)
  all_take zero l a = nil
  all_take (suc k) [] a = nil
  all_take (suc k) (x ∷ l) (cons p a) = cons p (all_take k l a)

  pub all_snoc : (x : A) (l : List A) → P x → All P l → All P (l ++ (x ∷ []))
  all_snoc x [] p a = cons p nil
  all_snoc x (y ∷ l) p (cons q a) = cons q (all_snoc x l p a)

pub all_append : {A : Type 0} {P : A → Type 0} (k l : List A) → All P k → All P l → All P (k ++ l)
all_append [] l nil a = a
all_append (x ∷ k) l (cons p ps) a = cons p (all_append k l ps a)

pub all-last : {P : ℕ → Type 0} (ns : List ℕ) → P 0 → All P ns → P (last_of ns)
unfolding last_of
all-last [] z a = z
all-last (n ∷ []) z (cons p a) = p
all-last (n ∷ m ∷ ns) z (cons p a) = all-last (m ∷ ns) z a

-- ---- map

module _ {A B : Type 0} (f : A → B) where
  pub map-drop : (k : ℕ) (l : List A) → map f (drop k l) ≡ drop k (map f l)
  map-drop zero l = refl
  map-drop (suc k) [] = refl
  map-drop (suc k) (x ∷ l) = map-drop k l

  pub map-take : (k : ℕ) (l : List A) → map f (take k l) ≡ take k (map f l)
  map-take zero l = refl
  map-take (suc k) [] = refl
  map-take (suc k) (x ∷ l) = ap {B = List B} (λ r. f x ∷ r) (map-take k l)

  pub map-split : (k : ℕ) (l : List A) → map f (take k l) ++ map f (drop k l) ≡ map f l
  map-split zero l = refl
  map-split (suc k) [] = refl
  map-split (suc k) (x ∷ l) = ap {B = List B} (λ r. f x ∷ r) (map-split k l)

pub flat_map-map : {A B C : Type 0} (k : B → List C) (x : A → B) (k' : A → List C) → ((a : A) → k (x a) ≡ k' a) → (l : List A)
    → flat_map k (map x l) ≡ flat_map k' l
unfolding flat_map
flat_map-map k x k' p [] = refl
flat_map-map k x k' p (a ∷ l) = ap₂ ◌++◌ (p a) (flat_map-map k x k' p l)

-- ---- less some from the front

pub record FromFront {A : Type 0} (old new : List A) : Type 0 where
  pub less : ℕ
  pub rest : new ≡ drop less old

module _ {A : Type 0} where
  pub front-refl : (l : List A) → FromFront l l
  front-refl l = record { less = 0; rest = refl }

  pub front-trans : (k l m : List A) → FromFront k l → FromFront l m → FromFront k m
  front-trans k l m a b =
      record { less = a.less + b.less; rest = b.rest ∙ ap (drop b.less) a.rest ∙ drop-drop b.less a.less k }

  pub front_length : (k l : List A) → FromFront k l → length l ≤ length k
  front_length k l a = rw (ap length a.rest, length-drop) (omega arith)

-- the last is kept where one is left
drop-last : (k : ℕ) (ns : List ℕ) → 1 ≤ length (drop k ns) → last_of (drop k ns) ≡ last_of ns
unfolding last_of
drop-last zero ns h = refl
drop-last (suc k) [] h = refl
drop-last (suc zero) (n ∷ []) h = absurd (omega arith)
drop-last (suc (suc k)) (n ∷ []) h = absurd (omega arith)
drop-last (suc k) (n ∷ m ∷ ns) h = drop-last k (m ∷ ns) h

pub front-last : (ms ns : List ℕ) → FromFront ms ns → 1 ≤ length ns → last_of ns ≡ last_of ms
front-last ms ns a h = ap last_of a.rest ∙ drop-last a.less ms (subst (λ l. 1 ≤ length l) a.rest h)
