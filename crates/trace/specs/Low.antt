-- A number that was read as one of 32 bits. Assumes nothing.
use Rattle.std.specs.Prelude.{◌≡◌, List, map, ℕ, ◌+◌, ◌%◌, ◌<◌, ◌≤◌, length, take, drop, get_or}
use Rattle.std.proofs.Common.{ap, sym, ◌∙◌, arith, length-drop, get_or-drop, get_or-take, length-take-le}
use Rattle.std.proofs.lemmas.List.{length-map, ext_get_or}
use Rattle.std.proofs.Math.ListN.{get_or-map}

abbrev pub low_of : ℕ → ℕ
low_of n = n % 4294967296

-- ---- laws

-- the i-th from a place on
pub low-at : (ns : List ℕ) (from i : ℕ) → get_or (map low_of (drop from ns)) i 0 ≡ low_of (get_or ns (from + i) 0)
low-at ns from i = get_or-map low_of (drop from ns) i 0 ∙ ap low_of (get_or-drop from ns i 0)

-- an array of sixteen of them
pub low-sixteen : (ns part : List ℕ) (from : ℕ) → length ns ≡ 32 → from ≤ 16 → length part ≡ 16
    → ((i : ℕ) → i < 16 → get_or part i 0 ≡ low_of (get_or ns (from + i) 0)) → part ≡ take 16 (map low_of (drop from ns))
low-sixteen ns part from hn hf hp each =
    let room : 16 ≤ length (map low_of (drop from ns)) = simp (length-map, length-drop) (omega arith) in
    ext_get_or 0 part (take 16 (map low_of (drop from ns))) (hp ∙ sym (length-take-le 16 (map low_of (drop from ns)) room))
    (λ (i : ℕ) (h : i < length part).
    let within : i < 16 = omega arith in
    each i within ∙ sym (low-at ns from i) ∙ sym (get_or-take 16 (map low_of (drop from ns)) i 0 within))
