-- So many bytes put into a lent buffer from a place on. Assumes nothing.
use Rattle.std.specs.Prelude.{◌≡◌, refl, List, [], ◌∷◌, ◌++◌, ℕ, suc, ◌+◌, ◌-◌, ◌≤◌, length, take, drop, set}
use Rattle.std.proofs.Common.{sym, ap, ap₂, subst, ◌∙◌, append-nil, append_assoc, add-zero, arith, length-append, length-set, length-drop}
use Rattle.std.proofs.Common.{drop_of_length-le, take_all, drop-drop}
use Rattle.std.proofs.lemmas.List.Edits.{sets, sets-eq}
use Rattle.std.proofs.Math.Seq.{length-sets}

-- the buffer with these bytes from a place on
unfoldable pub wrote : List ℕ → ℕ → List ℕ → List ℕ
wrote out at xs = sets out at xs

-- n bytes stand from `at` on, nothing else is written, and `next` is the place behind them
pub record Puts (n : ℕ) (xs : List ℕ) (out : List ℕ) (at : ℕ) (after : List ℕ) (next : ℕ) : Type 0 where
  pub many : length xs ≡ n
  pub place : next ≡ at + n
  pub long : length after ≡ length out
  pub bytes : after ≡ wrote out at xs

-- ---- laws

pub wrote-long : (out : List ℕ) (at : ℕ) (xs : List ℕ) → length (wrote out at xs) ≡ length out
unfolding wrote
wrote-long out at xs = length-sets out at xs

-- bytes, and then others behind them
pub wrote-more : (xs out : List ℕ) (at : ℕ) (ys : List ℕ) → wrote (wrote out at xs) (at + length xs) ys ≡ wrote out at (xs ++ ys)
unfolding wrote
wrote-more [] out at ys = ap (λ (k : ℕ). sets out k ys) (add-zero at)
wrote-more (x ∷ xs) out at ys =
    let e : at + suc (length xs) ≡ suc at + length xs = omega arith in
    ap (λ (k : ℕ). sets (sets (set out at x) (suc at) xs) k ys) e ∙ wrote-more xs (set out at x) (suc at) ys

pub put-nothing : (out : List ℕ) (at : ℕ) → Puts 0 [] out at out at
unfolding wrote
put-nothing out at = record { many = refl; place = sym (add-zero at); long = refl; bytes = refl }

pub put_one : (out : List ℕ) (at b : ℕ) → Puts 1 (b ∷ []) out at (set out at b) (at + 1)
unfolding wrote
put_one out at b = record { many = refl; place = refl; long = length-set out at b; bytes = refl }

pub puts-both : {n m at next last : ℕ} {xs ys out mid after : List ℕ} → Puts n xs out at mid next → Puts m ys mid next after last
    → Puts (n + m) (xs ++ ys) out at after last
puts-both {n} {m} {at} {next} {last} {xs} {ys} {out} {mid} {after} p q = record {
  many = length-append xs ys ∙ ap₂ ◌+◌ p.many q.many;
  place = omega (arith, p.place, q.place);
  long = q.long ∙ p.long;
  bytes =
      q.bytes
      ∙ ap₂ (λ (l : List ℕ) (k : ℕ). wrote l k ys) p.bytes (p.place ∙ ap (λ (k : ℕ). at + k) (sym p.many))
      ∙ wrote-more xs out at ys;
}

pub puts-same : {n m at next : ℕ} {xs ys out after : List ℕ} → n ≡ m → xs ≡ ys → Puts n xs out at after next → Puts m ys out at after next
puts-same {n} {m} {at} {next} {xs} {ys} {out} {after} e f p =
    subst (λ (k : ℕ). Puts k ys out at after next) e (subst (λ (l : List ℕ). Puts n l out at after next) f p)

-- at the front: the bytes, and the rest as it was
pub puts-front : {n next : ℕ} {xs out after : List ℕ} → n ≤ length out → Puts n xs out 0 after next → after ≡ xs ++ drop n out
unfolding wrote
puts-front {n} {next} {xs} {out} {after} fits p =
    p.bytes ∙ sets-eq xs out 0 (omega (arith, p.many))
    ∙ ap (λ (k : ℕ). xs ++ drop k out) (let e : 0 + length xs ≡ n = omega (arith, p.many) in e)

-- the rest of the buffer was lent to a copy that put the bytes at its front
pub puts-part : (n : ℕ) (xs out : List ℕ) (at : ℕ) {part : List ℕ} → length xs ≡ n → at + n ≤ length out
    → part ≡ xs ++ drop n (take (length out - at) (drop at out))
    → Puts n xs out at (take at out ++ (part ++ drop (length out - at) (drop at out))) (at + n)
unfolding wrote
puts-part n xs out at {part} many fits copy = record {
  many = many;
  place = refl;
  long = ap length whole ∙ length-sets out at xs;
  bytes = whole;
}
  where
    k : ℕ
    k = length out - at

    lent : take k (drop at out) ≡ drop at out
    lent = take_all k (drop at out) (omega (arith, length-drop at out))

    past : drop k (drop at out) ≡ []
    past = drop_of_length-le (drop at out) {i = k} (omega (arith, length-drop at out))

    here : part ≡ xs ++ drop (at + n) out
    here = copy ∙ ap (λ (l : List ℕ). xs ++ drop n l) lent ∙ ap (λ (l : List ℕ). xs ++ l) (drop-drop n at out)

    whole : take at out ++ (part ++ drop k (drop at out)) ≡ sets out at xs
    whole =
        ap₂ (λ (a b : List ℕ). take at out ++ (a ++ b)) here past
        ∙ ap (λ (l : List ℕ). take at out ++ l) (append-nil (xs ++ drop (at + n) out))
        ∙ sym (append_assoc (take at out) xs (drop (at + n) out))
        ∙ ap (λ (j : ℕ). take at out ++ xs ++ drop (at + j) out) (sym many)
        ∙ sym (sets-eq xs out at (omega (arith, many)))
