-- Every call and every row keeps the register map, so one map places a whole list. Assumes nothing.
use Rattle.std.specs.Prelude.{◌≡◌, refl, ℕ, List, [], ◌∷◌, map}
use Rattle.std.proofs.Common.{ap, ap₂, ◌∙◌}
use Rattle.std.proofs.Math.Option.{Option, some}
use Rattle.model.specs.State.{Uart}
use Rattle.model.specs.Settle.{levels}
use Rattle.model.specs.Registers.{clearing}
use Rattle.model.specs.Calls.{cleared}
use Rattle.model.specs.Call.{date_of, Request, Asked, Ask}
use Rattle.model.specs.Run.{answering, step, asked_by, run_by, asked, run}
use Rattle.model.proofs.Keeps.Rest.{settle_to-map}
use Rattle.model.proofs.ShutsOut.EveryCall.{Walk, every_call, every-row}
use Rattle.model.proofs.Laws.Placed.{changed_asked, placed_asked, step_placed, step-placed, run_placed}
use Rattle.model.specs.declared.RegisterMap.{RegisterMap}

abbrev SameMap : Uart ℕ ℕ → Uart ℕ ℕ → Type 0
SameMap u v = v.map ≡ u.map

map-walk : (d : Option ℕ) → Walk d SameMap
unfolding levels
map-walk d = record {
  on = λ u v w a b. b ∙ a;
  alike = λ u v e. ap (λ x. x.3) e;
  settling = λ now _ date h u. settle_to-map date u;
  raising = λ u. refl;
}

-- every call keeps the register map
pub step_kept : (c : Request) (u : Uart ℕ ℕ) → (step c u).state.map ≡ u.map
unfolding clearing cleared
step_kept c u = every_call c u SameMap (map-walk (date_of c)) (λ now x _ _ v s. refl) (λ now _ s. refl)

pub asked-kept : (a : Ask) (u : Uart ℕ ℕ) → (asked a u).state.map ≡ u.map
unfolding asked_by answering
asked-kept (Asked.call c) u = step_kept c u
asked-kept (Asked.row now bs) u = every-row now bs u SameMap (map-walk (some now))

pub asked-placed : (a : Ask) (u : Uart ℕ ℕ) → asked a u ≡ asked_by step_placed (placed_asked u.map.offsets a) u
unfolding asked_by changed_asked
asked-placed (Asked.call c) u = step-placed c u
asked-placed (Asked.row now bs) u = refl

run-placed-by : (m : RegisterMap) (cs : List Ask) (u : Uart ℕ ℕ) → u.map ≡ m
    → run cs u ≡ run_placed (map (placed_asked m.offsets) cs) u
unfolding run_by
run-placed-by m [] u k = refl
run-placed-by m (a ∷ cs) u k =
    let same : asked a u ≡ asked_by step_placed (placed_asked m.offsets a) u =
    asked-placed a u ∙ ap (λ n. asked_by step_placed (placed_asked n.offsets a) u) k in
    ap₂ (λ s r. s.answer ∷ r) same (run-placed-by m cs (asked a u).state (asked-kept a u ∙ k)
    ∙ ap (λ s. run_placed (map (placed_asked m.offsets) cs) s.state) same)

-- so the map of the first state places a whole list
pub run-placed : (cs : List Ask) (u : Uart ℕ ℕ) → run cs u ≡ run_placed (map (placed_asked u.map.offsets) cs) u
run-placed cs u = run-placed-by u.map cs u refl
