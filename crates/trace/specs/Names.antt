-- The names of the calls, and which of them a word is. Assumes nothing.
use Rattle.std.specs.Prelude.{◌≡◌, refl, Bool, true, false, cond, List, [], ◌∷◌, ℕ, Option, Some, find}
use Rattle.text.specs.Same.{same_bytes, same-equal}
use Rattle.trace.specs.declared.names.Name.{Name}
use Rattle.trace.specs.declared.names.Name.TheVariants.{Setup, Read, Write, WriteRow, Receive, Wake, Watch, Reset, PowerDown, Clock}
use Rattle.trace.specs.declared.names.Name.TheVariants.{TakeTx, TakeWritten, HasLeft, HostPending, Figures}

-- the letters of a name, in ASCII; `_` is 95
abbrev pub letters : Name → List ℕ
letters Setup = 115 ∷ 101 ∷ 116 ∷ 117 ∷ 112 ∷ []
letters Read = 114 ∷ 101 ∷ 97 ∷ 100 ∷ []
letters Write = 119 ∷ 114 ∷ 105 ∷ 116 ∷ 101 ∷ []
letters WriteRow = 119 ∷ 114 ∷ 105 ∷ 116 ∷ 101 ∷ 95 ∷ 114 ∷ 111 ∷ 119 ∷ []
letters Receive = 114 ∷ 101 ∷ 99 ∷ 101 ∷ 105 ∷ 118 ∷ 101 ∷ []
letters Wake = 119 ∷ 97 ∷ 107 ∷ 101 ∷ []
letters Watch = 119 ∷ 97 ∷ 116 ∷ 99 ∷ 104 ∷ []
letters Reset = 114 ∷ 101 ∷ 115 ∷ 101 ∷ 116 ∷ []
letters PowerDown = 112 ∷ 111 ∷ 119 ∷ 101 ∷ 114 ∷ 95 ∷ 100 ∷ 111 ∷ 119 ∷ 110 ∷ []
letters Clock = 99 ∷ 108 ∷ 111 ∷ 99 ∷ 107 ∷ []
letters TakeTx = 116 ∷ 97 ∷ 107 ∷ 101 ∷ 95 ∷ 116 ∷ 120 ∷ []
letters TakeWritten = 116 ∷ 97 ∷ 107 ∷ 101 ∷ 95 ∷ 119 ∷ 114 ∷ 105 ∷ 116 ∷ 116 ∷ 101 ∷ 110 ∷ []
letters HasLeft = 104 ∷ 97 ∷ 115 ∷ 95 ∷ 108 ∷ 101 ∷ 102 ∷ 116 ∷ []
letters HostPending = 104 ∷ 111 ∷ 115 ∷ 116 ∷ 95 ∷ 112 ∷ 101 ∷ 110 ∷ 100 ∷ 105 ∷ 110 ∷ 103 ∷ []
letters Figures = 102 ∷ 105 ∷ 103 ∷ 117 ∷ 114 ∷ 101 ∷ 115 ∷ []

-- the call of all that a word names; the order says nothing, as no two have the same name
abbrev pub names : List Name
names =
    Read ∷ Write ∷ Receive ∷ WriteRow ∷ Wake ∷ TakeTx ∷ Clock ∷ Watch ∷ Reset ∷ PowerDown ∷ HasLeft ∷ HostPending ∷ TakeWritten ∷ Setup
    ∷ Figures ∷ []

abbrev pub name_of : List ℕ → Option Name
name_of word = find (λ (n : Name). same_bytes word (letters n)) names

-- ---- laws

-- a word names a call where it is the call's name, and nowhere else
pub letters-name : (n : Name) → name_of (letters n) ≡ Some n
unfolding same_bytes
letters-name Setup = refl
letters-name Read = refl
letters-name Write = refl
letters-name WriteRow = refl
letters-name Receive = refl
letters-name Wake = refl
letters-name Watch = refl
letters-name Reset = refl
letters-name PowerDown = refl
letters-name Clock = refl
letters-name TakeTx = refl
letters-name TakeWritten = refl
letters-name HasLeft = refl
letters-name HostPending = refl
letters-name Figures = refl

-- what a search finds passes its test
found : {A : Type 0} (p : A → Bool) (xs : List A) (x : A) → find p xs ≡ Some x → p x ≡ true
found p [] x e = cc
found p (y ∷ xs) x e = by-test (p y) refl e (found p xs x)
  where
    by-test : (t : Bool) → p y ≡ t → cond t (Some y) (find p xs) ≡ Some x → (find p xs ≡ Some x → p x ≡ true) → p x ≡ true
    by-test true q e rest = let same : y ≡ x = cc in rw same at q
    by-test false q e rest = rest e

pub name-letters : (word : List ℕ) (n : Name) → name_of word ≡ Some n → word ≡ letters n
name-letters word n e = same-equal word (letters n) (found (λ (m : Name). same_bytes word (letters m)) names n e)
