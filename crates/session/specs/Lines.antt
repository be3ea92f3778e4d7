-- The answer to a line of a trace. Assumes nothing.
use Rattle.std.specs.Prelude.{◌≡◌, refl, Bool, true, false, List, [], map, ℕ, ◌<◌, ◌≤◌, min, length, take, drop, replicate}
use Rattle.std.specs.Prelude.{Ok, Err, Some, None}
use Rattle.std.proofs.Common.{ap, sym, ◌∙◌, ⊎_elim, arith, take_all}
use Rattle.std.proofs.Math.Option.{Option, none, some}
use Rattle.text.specs.Pick.{pick, side}
use Rattle.text.specs.Words.{next_word}
use Rattle.text.specs.declared.input.Input.{Input}
use Rattle.trace.specs.Steps.{fault}
use Rattle.trace.specs.Asks.{asks_of}
use Rattle.trace.specs.declared.asks.Asks.{Asks}
use Rattle.trace.specs.Low.{low_of}
use Rattle.trace.specs.Stored.{stored}
use Rattle.trace.specs.Pairs.{firsts_in, seconds_in}
use Rattle.trace.specs.Lines.{Line, line_of, numbers_of, bytes_after}
use Rattle.trace.specs.declared.faults.Reason.{Reason}
use Rattle.trace.specs.declared.names.Name.{Name}
use Rattle.trace.specs.declared.names.Name.TheVariants.{Setup, Read, Write, WriteRow, Receive, Wake, Watch, Reset, PowerDown, Clock}
use Rattle.trace.specs.declared.names.Name.TheVariants.{TakeTx, TakeWritten, HasLeft, HostPending, Figures}
use Rattle.model.specs.State.{Uart}
use Rattle.answers.specs.Faults.{fault_text, long_text}
use Rattle.session.specs.Requests.{Command, set_up, asks, figures, command_of, Next, sets_up, tells, carried_out}

-- a text alone changes nothing
abbrev pub says : List ℕ → Option (Uart ℕ ℕ) → Next
says text device = record { text = text; device = device }

-- the fault of a call with no UART set up: its name
abbrev pub no_uart : List ℕ → List ℕ
no_uart s = fault_text s (fault Reason.NoUart (next_word s 0))

-- the numbers of a line, in 32 places
abbrev pub numbers_in : List ℕ → List ℕ
numbers_in s = stored (numbers_of s) (replicate 32 0)

-- a line that is no call answers nothing, or its fault
abbrev pub read_as : List ℕ → List ℕ → Option (Uart ℕ ℕ) → Line → Next
read_as s bytes device (Ok None) = says [] device
read_as s bytes device (Err f) = says (fault_text s f) device
read_as s bytes device (Ok (Some c)) = carried_out (command_of c.name (numbers_in s) c.last bytes s) (no_uart s) device

-- the line at the front of a buffer; one that had no room there was too long
abbrev pub line_in : Input → List ℕ → List ℕ
line_in input line = take (min input.len (length line)) line

abbrev pub bytes_in : Input → List ℕ → List ℕ → List ℕ
bytes_in input line bytes = pick input.long bytes (bytes_after (line_in input line) bytes)

abbrev pub answered : Input → List ℕ → List ℕ → Option (Uart ℕ ℕ) → Next
answered input line bytes device =
    pick input.long (says long_text device)
    (read_as (line_in input line) (bytes_after (line_in input line) bytes) device (line_of (length bytes) (line_in input line)))

-- a call before the first set-up, by what it asks
abbrev pub by_first : Asks → List ℕ → List ℕ → Next
by_first Asks.SetUp ns s = sets_up (take 16 (map low_of (drop 0 ns))) (take 16 (map low_of (drop 16 ns))) none
by_first Asks.Figures ns s = tells (firsts_in s) (seconds_in s) none
by_first Asks.Uart ns s = says (no_uart s) none

-- ---- laws

-- a count within a list
pub take_within : (k : ℕ) (l : List ℕ) → take (min k (length l)) l ≡ take k l
take_within k l =
    ⊎_elim
    (λ (h : k < length l). let e : min k (length l) ≡ k = omega arith in ap (λ (n : ℕ). take n l) e)
    (λ (h : length l ≤ k).
    take_all (min k (length l)) l (omega arith) ∙ sym (take_all k l h))
    (side k (length l))

-- with no UART set up, by what the call is
pub first_gives : (n : Name) (ns : List ℕ) (last : ℕ) (bytes s : List ℕ)
    → by_first (asks_of n) ns s ≡ carried_out (command_of n ns last bytes s) (no_uart s) none
first_gives Setup ns last bytes s = refl
first_gives Read ns last bytes s = refl
first_gives Write ns last bytes s = refl
first_gives WriteRow ns last bytes s = refl
first_gives Receive ns last bytes s = refl
first_gives Wake ns last bytes s = refl
first_gives Watch ns last bytes s = refl
first_gives Reset ns last bytes s = refl
first_gives PowerDown ns last bytes s = refl
first_gives Clock ns last bytes s = refl
first_gives TakeTx ns last bytes s = refl
first_gives TakeWritten ns last bytes s = refl
first_gives HasLeft ns last bytes s = refl
first_gives HostPending ns last bytes s = refl
first_gives Figures ns last bytes s = refl

-- a UART is set up, so that no fault is answered
pub carried-any : (c : Command) (f g : List ℕ) (u : Uart ℕ ℕ) → carried_out c f (some u) ≡ carried_out c g (some u)
carried-any (set_up o w) f g u = refl
carried-any (asks q) f g u = refl
carried-any (figures starts ends) f g u = refl

-- the line that was read
module _ (input : Input) (line bytes : List ℕ) (device : Option (Uart ℕ ℕ)) where
  pub too_long : input.long ≡ true → says long_text device ≡ answered input line bytes device
  too_long e =
      sym (ap (λ (b : Bool). pick b (says long_text device) (read_as (line_in input line) (bytes_after (line_in input line) bytes) device
      (line_of (length bytes) (line_in input line)))) e)

  pub bytes-kept : input.long ≡ true → bytes ≡ bytes_in input line bytes
  bytes-kept e = sym (ap (λ (b : Bool). pick b bytes (bytes_after (line_in input line) bytes)) e)

  module _ (short : input.long ≡ false) {n : ℕ} (count : n ≡ min input.len (length line)) where
    pub read_as-told : {read l : Line} → read ≡ line_of (length bytes) (take n line) → read ≡ l
        → read_as (take n line) (bytes_after (take n line) bytes) device l ≡ answered input line bytes device
    read_as-told {read} {l} e told =
        ap (read_as (take n line) (bytes_after (take n line) bytes) device) (sym told ∙ e)
        ∙ ap (λ (k : ℕ). read_as (take k line) (bytes_after (take k line) bytes) device (line_of (length bytes) (take k line))) count
        ∙ sym (ap (λ (b : Bool). pick b (says long_text device)
        (read_as (line_in input line) (bytes_after (line_in input line) bytes) device
        (line_of (length bytes) (line_in input line)))) short)

    pub bytes-as : bytes_after (take n line) bytes ≡ bytes_in input line bytes
    bytes-as =
        ap (λ (k : ℕ). bytes_after (take k line) bytes) count
        ∙ sym (ap (λ (b : Bool). pick b bytes (bytes_after (line_in input line) bytes)) short)
